use Rattle.std.proofs.Common.{◌≡◌, ℕ, ◌+◌, ◌-◌, List, ◌++◌, length, take, drop, None, codes, sym, ap, ◌∙◌, arith}
use Rattle.std.proofs.lemmas.List.{take_at}
use Rattle.leb128.specs.Buffers.{written}
use Rattle.source.specs.Meaning.{Side}
use Rattle.record.specs.Format.{record_of}
use Rattle.record_writer.specs.Encoding.{refused}
use Rattle.notation.specs.Hex.{hex_of}
use Rattle.transcript.specs.Answers.{room_for, write_text}

-- What was written at the front of a buffer, as the answer to a writing.
pub record_text : (buf out : List ℕ) (n : ℕ) (s e : Side) → refused room_for 0 s e ≡ None → n ≡ length (record_of s e) → out ≡ written buf 0 (record_of s e)
    → codes "record " ++ hex_of (take (n - 0) out) ≡ write_text s e (refused room_for 0 s e)
record_text buf out n s e r l w =
    let bytes : List ℕ = record_of s e in
    ap (λ q. codes "record " ++ hex_of q) (ap (take (n - 0)) w ∙ take_at bytes (drop (0 + length bytes) buf) (n - 0) (omega arith))
    ∙ ap (write_text s e) (sym r)
