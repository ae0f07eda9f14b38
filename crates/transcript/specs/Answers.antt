use Rattle.std.specs.Prelude.{ℕ, List, ◌++◌, Some, None, Ok, Err, codes, decimal, Option, Result}
use Rattle.source.specs.Meaning.{Side}
use Rattle.record.specs.declared.fault.RecordFault.{RecordFault}
use Rattle.record_writer.specs.declared.fault.WriteFault.{WriteFault}
use Rattle.record_writer.specs.Told.{write_fault}
use Rattle.record.specs.Format.{record_of}
use Rattle.record_writer.specs.Encoding.{refused}
use Rattle.record.specs.Decoding as read
use Rattle.notation.specs.Hex.{bytes_in, hex_of}
use Rattle.spelling.specs.Sides.{source_text}
use Rattle.lines.specs.Calls.{Called, write, decode, pieces}
use Rattle.replies.specs.Refusals.{refusal_text, fault_text}
use Rattle.transcript.specs.Pieces.{asked, pieces_text}

-- How many bytes a call may write: more than any record takes.
abbrev pub room_for : ℕ
room_for = 96

abbrev pub write_text : Side → Side → Option WriteFault → List ℕ
write_text s e None = codes "record " ++ hex_of (record_of s e)
write_text s e (Some f) = refusal_text (write_fault f)

abbrev pub decode_text : Result ((Side × Side) × ℕ) RecordFault → List ℕ
decode_text (Ok p) = codes "source " ++ (source_text p.0.0 p.0.1 ++ (codes " bytes " ++ decimal p.1))
decode_text (Err f) = fault_text f

-- The answer to a call, or to a line that is none.
abbrev pub answer_to : Option Called → List ℕ
answer_to None = codes "no call"
answer_to (Some (write s e)) = write_text s e (refused room_for 0 s e)
answer_to (Some (decode w)) = decode_text (read.decode (bytes_in w))
answer_to (Some (pieces k w)) = pieces_text (asked w) k
