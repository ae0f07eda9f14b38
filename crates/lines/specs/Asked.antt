use Rattle.std.specs.Prelude.{ℕ, List}
use Rattle.source.specs.Meaning.{id_of}
use Rattle.spelling.specs.Wanted.{Want, wants}
use Rattle.lines.specs.Calls.{Called, call_of}
use Rattle.lines.specs.declared.line.Line.{Line}
use Rattle.lines.specs.declared.line.Line.TheVariants.{Document, Open, Make, Insert, InsertKept, Remove, Cut, Links, Blocks, Origins, Call}

-- What a line may ask for, free of references: a name and a word are their bytes, an id is its client and its clock, and a list
-- goes by its number.
pub data Asked : Type 0 where
  document : ℕ → ℕ → Asked
  open_list : List ℕ → Asked
  make : List ℕ → Want → Asked
  insert : ℕ → ℕ → ℕ → Want → Asked
  insert_kept : ℕ → ℕ → ℕ → List ℕ → Asked
  remove : ℕ → ℕ → ℕ → Asked
  cut : ℕ × ℕ → Asked
  links : ℕ × ℕ → Asked
  blocks : ℕ → Asked
  origins : ℕ → Asked
  call : Called → Asked

abbrev pub line_of : Line → Asked
line_of (Document b w) = document b w
line_of (Open n) = open_list n.now
line_of (Make w c) = make w.now (wants c)
line_of (Insert s w) = insert s.list s.client s.index (wants w)
line_of (InsertKept s w) = insert_kept s.list s.client s.index w.now
line_of (Remove l i n) = remove l i n
line_of (Cut i) = cut (id_of i)
line_of (Links i) = links (id_of i)
line_of (Blocks l) = blocks l
line_of (Origins l) = origins l
line_of (Call c) = call (call_of c)
