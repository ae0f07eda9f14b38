-- The join rule: which links hold a new block, told from its neighbours alone.
use Rattle.std.specs.Prelude.{◌≡◌, ℕ, ◌+◌, ◌-◌, Bool, true, false, ◌&&◌, ◌||◌, List, [], ◌∷◌, length, Some, None, Option, ◌==◌, bit_and, bit_or}
use Rattle.std.specs.Option.{option_map}
use Rattle.law.specs.Plain.{Id, same_id, Side, Source, Plain}
use Rattle.law.specs.Plain.Side.{Open, Before, After}
use Rattle.law.specs.Faces.{Face, bit}

-- The last and the first id of a face: those that a gap behind it or before it is next to.
abbrev pub last_id : Face → Id
last_id f = record { client = f.first.client; clock = f.first.clock + (length f.units - 1) }

abbrev pub first_id : Face → Id
first_id f = f.first

-- The left neighbour of a gap is the last of the faces before it, the right one the first of those behind it.
abbrev pub last_of : List Face → Option Face
last_of [] = None
last_of (f ∷ []) = Some f
last_of (f ∷ g ∷ fs) = last_of (g ∷ fs)

abbrev pub first_of : List Face → Option Face
first_of [] = None
first_of (f ∷ fs) = Some f

-- Whether a start sticks in the gap right behind an id: After it, or open where there is none.
abbrev pub side_starts : Side → Option Id → Bool
side_starts Open None = true
side_starts Open (Some b) = false
side_starts (Before a) o = false
side_starts (After a) None = false
side_starts (After a) (Some b) = same_id a b

-- Whether an end sticks in the gap right before an id: Before it, or open where there is none.
abbrev pub side_ends : Side → Option Id → Bool
side_ends Open None = true
side_ends Open (Some b) = false
side_ends (After a) o = false
side_ends (Before a) None = false
side_ends (Before a) (Some b) = same_id a b

-- Whether a link is live on list l and starts, or ends, right here.
abbrev pub starts_here : Option Source → ℕ → Option Id → Bool
starts_here None l left = false
starts_here (Some s) l left = s.list == l && side_starts s.start left

abbrev pub ends_here : Option Source → ℕ → Option Id → Bool
ends_here None l right = false
ends_here (Some s) l right = s.list == l && side_ends s.end right

-- The link set of a neighbour, none where there is no neighbour.
abbrev pub links_of : Option Face → ℕ
links_of None = 0
links_of (Some f) = f.links

-- The join rule for the link set w of a new block in list l, between a left and a right neighbour where there are any: a link holds the
-- block if it holds the left neighbour or starts right here, and holds the right neighbour or ends right here.
abbrev pub Joins : Plain → ℕ → Option Face → Option Face → ℕ → Type 0
Joins p l left right w = (n : ℕ)
    → bit n w ≡ ((bit n (links_of left) || starts_here (p.links n) l (option_map last_id left))
    && (bit n (links_of right) || ends_here (p.links n) l (option_map first_id right)))

-- The join rule in operations on whole link sets, given the links that start right here and those that end right here.
abbrev pub JoinByBits : Type 0
JoinByBits = (p : Plain) (l : ℕ) (left right : Option Face) (starts ends : ℕ)
    → ((n : ℕ) → bit n starts ≡ starts_here (p.links n) l (option_map last_id left))
    → ((n : ℕ) → bit n ends ≡ ends_here (p.links n) l (option_map first_id right))
    → Joins p l left right (bit_and (bit_or (links_of left) starts) (bit_or (links_of right) ends))
