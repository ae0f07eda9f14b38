-- Cutting at several offsets.
use Rattle.std.specs.Prelude.{◌≡◌, ℕ, ◌-◌, ◌≤◌, Bool, true, ◌&&◌, List, [], ◌∷◌, length, nat_lt}
use Rattle.std.specs.List.{flat_map}
use Rattle.content.specs.declared.content.Content.{Ghosts}

-- Whether the offsets rise strictly, the first above low and the last below high.
abbrev pub rising : ℕ → List ℕ → ℕ → Bool
rising low [] high = true
rising low (k ∷ ks) high = nat_lt low k && nat_lt k high && rising k ks high

-- The pieces of a content cut at the offsets, which count from done units before its first.
abbrev pub cut_up : {C : Type 0} → Ghosts C → ℕ → List ℕ → C → List C
cut_up K done [] c = c ∷ []
cut_up K done (k ∷ ks) c = K.fore (k - done) c ∷ cut_up K k ks (K.rear (k - done) c)

-- The lengths between low, the offsets and high.
abbrev pub lengths : ℕ → List ℕ → ℕ → List ℕ
lengths low [] high = (high - low) ∷ []
lengths low (k ∷ ks) high = (k - low) ∷ lengths k ks high

-- The pieces make the whole: over every table that the content fits, their units, put together, are its units.
abbrev pub MakeWhole : {C : Type 0} → Ghosts C → List C → C → Type 0
MakeWhole K ps c = (t : List ℕ) → K.reach c ≤ length t → flat_map (K.units t) ps ≡ K.units t c
