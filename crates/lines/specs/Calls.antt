use Rattle.std.specs.Prelude.{ℕ, cond, List, Some, None, codes, Option}
use Rattle.std.specs.Option.{option_map}
use Rattle.std.specs.Str.{bytes_eq}
use Rattle.source.specs.Meaning.{Side, alike, start_of, end_of}
use Rattle.notation.specs.Words.{first_word, after_word}
use Rattle.notation.specs.Hex.{is_hex}
use Rattle.notation.specs.Numerals.{and_then}
use Rattle.spelling.specs.Sides.{side_in}
use Rattle.spelling.specs.Wanted.{Want, wants, wanted_in}
use Rattle.lines.specs.Parts.{ended, front}
use Rattle.lines.specs.declared.call.Call.{Call}
use Rattle.lines.specs.declared.call.Call.TheVariants.{Write, Decode, Pieces}

-- What a call that needs no document asks for, free of references: the record of a source; the source of a record, given by
-- its hexadecimal digits; the pieces of a content, cut at an offset.
pub data Called : Type 0 where
  write : Side → Side → Called
  decode : List ℕ → Called
  pieces : ℕ → Want → Called

abbrev pub call_of : Call → Called
call_of (Write s) = write (start_of s) (end_of s)
call_of (Decode w) = decode w.now
call_of (Pieces k w) = pieces k (wants w)

-- A source by its two words; sides that are open in two ways are none.
abbrev pub source_in : List ℕ → List ℕ → Option (Side × Side)
source_in a b = and_then (side_in a) (λ s. and_then (side_in b) (λ e. cond (alike s.0 e.0) (Some (s, e)) None))

-- START END
abbrev pub write_in : List ℕ → Option Called
write_in rest =
    cond (ended (after_word (after_word rest)))
    (option_map (λ p. write p.0 p.1) (source_in (first_word rest) (first_word (after_word rest)))) None

-- HEX
abbrev pub decode_in : List ℕ → Option Called
decode_in rest = cond (ended (after_word rest)) (cond (is_hex (first_word rest)) (Some (decode (first_word rest))) None) None

-- OFFSET CONTENT
abbrev pub pieces_in : List ℕ → Option Called
pieces_in rest = and_then (front rest) (λ p. option_map (pieces p.0) (wanted_in p.1))

-- A call by its name and what stands after it.
abbrev pub named_in : List ℕ → List ℕ → Option Called
named_in w rest =
    cond (bytes_eq w (codes "write")) (write_in rest)
    (cond (bytes_eq w (codes "decode")) (decode_in rest)
    (cond (bytes_eq w (codes "pieces")) (pieces_in rest) None))

-- What a line says: its first word is the name of a call.
abbrev pub call_in : List ℕ → Option Called
call_in line = named_in (first_word line) (after_word line)
