use Rattle.std.proofs.Common.{◌≡◌, ℕ, zero, suc, Bool, false, get_or, replicate, None, Some, Option, MatchOption, refl, sym, ◌∙◌}
use Rattle.law.specs.Plain.{Source}
use Rattle.registry.specs.declared.links.Link.{Link}
use Rattle.registry.specs.Links.{link_of, source_of}

-- A table of nothing has nothing anywhere.
pub none_at : {X : Type 0} (k n : ℕ) → get_or (replicate {A = Option X} k None) n None ≡ None
none_at zero n = refl
none_at (suc k) zero = refl
none_at (suc k) (suc n) = none_at k n

-- What h says of the link of a number is what a call told of it, or false where there is none.
pub tested : (h : Option Source → Bool) → h None ≡ false → (P : Link → Type 0) → (o : Option Link) (t : Bool) → MatchOption o (t ≡ false) P
    → ((k : Link) → P k → t ≡ h (Some (link_of k))) → t ≡ h (source_of o)
tested h z P None t m told = m ∙ sym z
tested h z P (Some k) t m told = told k m
