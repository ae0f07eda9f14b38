use Rattle.std.specs.Prelude.{ℕ, cond, List, drop, Some, None, codes, slice_index, Option}
use Rattle.std.specs.Option.{option_map, option_or}
use Rattle.std.specs.Str.{bytes_eq}
use Rattle.notation.specs.Words.{first_word, after_word}
use Rattle.lines.specs.Calls.{named_in}
use Rattle.lines.specs.Asked.{Asked, document, open_list, remove, cut, links, blocks, origins, call}
use Rattle.lines.specs.Parts.{counted, lone_id}
use Rattle.lines.specs.Contents.{make_in, insert_in}

-- The calls that have no content and need a document, by their name and what stands after it. The name of a list is all that
-- follows one blank.
abbrev pub plain_in : List ℕ → List ℕ → Option Asked
plain_in w rest =
    cond (bytes_eq w (codes "open")) (Some (open_list (drop 1 rest)))
    (cond (bytes_eq w (codes "document")) (option_map (λ ns. document (slice_index ns 0) (slice_index ns 1)) (counted 2 rest))
    (cond (bytes_eq w (codes "remove")) (option_map (λ ns. remove (slice_index ns 0) (slice_index ns 1) (slice_index ns 2)) (counted 3 rest))
    (cond (bytes_eq w (codes "blocks")) (option_map (λ ns. blocks (slice_index ns 0)) (counted 1 rest))
    (cond (bytes_eq w (codes "origins")) (option_map (λ ns. origins (slice_index ns 0)) (counted 1 rest))
    (cond (bytes_eq w (codes "cut")) (option_map cut (lone_id rest))
    (cond (bytes_eq w (codes "links")) (option_map links (lone_id rest)) None))))))

-- What a line says, by its first word, which is the name of a call, and what stands after it.
abbrev pub asked_in : List ℕ → List ℕ → Option Asked
asked_in w rest =
    cond (bytes_eq w (codes "make")) (make_in rest)
    (cond (bytes_eq w (codes "insert")) (insert_in rest) (option_or (option_map call (named_in w rest)) (plain_in w rest)))

abbrev pub line_in : List ℕ → Option Asked
line_in line = asked_in (first_word line) (after_word line)
