-- A cut keeps the law.
use Rattle.std.proofs.Common.{◌≡◌, ℕ, ◌+◌, ◌-◌, ◌<◌, Bool, List, ◌∷◌, ◌++◌, length, take, drop, sym, ap, ◌∙◌, subst, append_assoc, arith, length-drop}
use Rattle.std.proofs.lemmas.List.{length-take-le}
use Rattle.std.proofs.ByRecursion.{All-append}
use Rattle.law.specs.Faces.{Face, entries, laid, held, Linked, Filled}
use Rattle.law.specs.Changes.{left_piece, right_piece, CutKeeps}
use Rattle.law.proofs.Basics.{put_each, all_left, all_right}
use Rattle.law.proofs.Laid.{laid-append, entries-cut, linked_join, linked_left, linked_right}

laid-cut : (k : ℕ) (f : Face) (ys : List Face) → laid (left_piece k f ∷ right_piece k f ∷ ys) ≡ laid (f ∷ ys)
laid-cut k f ys = sym (append_assoc (entries (left_piece k f)) (entries (right_piece k f)) (laid ys))
    ∙ ap (λ r. r ++ laid ys) (entries-cut k f.first f.countable f.removed f.units)

linked_cut : (I : ℕ → ℕ → Bool) (at k : ℕ) (f : Face) (ys : List Face) → k < length f.units
    → Linked I at (f ∷ ys) → Linked I at (left_piece k f ∷ right_piece k f ∷ ys)
linked_cut I at k f ys small h =
    let t : length (take k f.units) ≡ k = length-take-le k f.units (omega arith) in
    let d : length (drop k f.units) ≡ length f.units - k = length-drop k f.units in
    let e : at + length f.units ≡ at + length (take k f.units) + length (drop k f.units) = omega arith in (
      (λ n q lo hi. h.0 n q lo (omega arith)),
      (
        (λ n q lo hi. h.0 n q (omega arith) (omega arith)),
        subst (λ x. Linked I x ys) e h.1,
      ),
    )

pub cut_keeps : CutKeeps
cut_keeps F p l k xs f ys law cut =
    let at : F l ≡ xs ++ f ∷ ys = cut.parts in
    let t : length (take k f.units) ≡ k = length-take-le k f.units (omega arith) in
    let d : length (drop k f.units) ≡ length f.units - k = length-drop k f.units in
    let fs : Filled (xs ++ f ∷ ys) = subst Filled at (law.filled l) in
    let J : ℕ → ℕ → Bool = held p l in
    let ln : Linked J 0 (xs ++ f ∷ ys) = subst (λ z. Linked J 0 z) at (law.linked l) in
    record {
      holds = put_each (λ m z. laid z ≡ p.lists m) l _ F
          (laid-append xs _ ∙ ap (λ r. laid xs ++ r) (laid-cut k f ys) ∙ sym (laid-append xs (f ∷ ys)) ∙ ap laid (sym at) ∙ law.holds l)
          (λ m _. law.holds m);
      filled = put_each (λ m z. Filled z) l _ F
          (All-append _ xs _ (all_left _ xs _ fs) (omega arith, (omega arith, (all_right _ xs _ fs).1)))
          (λ m _. law.filled m);
      linked = put_each (λ m z. Linked (held p m) 0 z) l _ F
          (linked_join J 0 xs _ (linked_left J 0 xs _ ln) (linked_cut J _ k f ys cut.high (linked_right J 0 xs _ ln)))
          (λ m _. law.linked m);
      anchored = law.anchored;
      few = law.few;
      once = law.once;
      never = law.never;
      clients = law.clients;
    }
