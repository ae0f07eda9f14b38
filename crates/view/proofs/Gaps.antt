-- A gap of a list, opened between two blocks, and the law.
use Rattle.std.proofs.Common.{◌≡◌, ℕ, suc, ◌+◌, ◌<◌, Bool, true, false, List, [], ◌∷◌, ◌++◌, length, sym, refl, ap, ◌∙◌, subst, ap₂, inl, inr, append_assoc, arith, length-append}
use Rattle.std.proofs.lemmas.List.{append-nil}
use Rattle.std.proofs.lemmas.Bool.{cases_Bool}
use Rattle.std.specs.List.{AllByRecursion}
use Rattle.content.specs.declared.content.Content.{Ghosts}
use Rattle.content.specs.Lawful.{Lawful}
use Rattle.law.specs.Plain as plain
use Rattle.law.specs.Plain.{Entry, Plain, visible, seen, gap, entries_of, put}
use Rattle.law.specs.Faces as law
use Rattle.law.specs.Faces.{Law, laid, entries}
use Rattle.law.proofs.Basics.{many-append}
use Rattle.law.proofs.Laws.{laws}
use Rattle.table.specs.Cells.{Face, Cell}
use Rattle.table.specs.Lookups as lookups
use Rattle.block_store.specs.Lists.{Good}
use Rattle.block_store.specs.Gaps.{inside, EndsShown, Gapped}
use Rattle.view.specs.View.{shows, shown}
use Rattle.view.proofs.Views.{seen-shown, put_as_is}
use Rattle.view.proofs.Cuts.{cut_law}

-- Entries that end in a visible one.
record Lasts (es : List Entry) : Type 0 where
  before : List Entry
  one : Entry
  parts : es ≡ before ++ one ∷ []
  is_visible : visible one ≡ true

run_lasts : (a : plain.Id) (us : List ℕ) → 0 < length us → Lasts (entries_of a true false us)
run_lasts a [] some = absurd (omega arith)
run_lasts a (u ∷ []) some = record { before = []; one = record { id = a; unit = u; countable = true; removed = false }; parts = refl; is_visible = refl }
run_lasts a (u ∷ v ∷ us) some =
    let first : Entry = record { id = a; unit = u; countable = true; removed = false } in
    let r = run_lasts (record { client = a.client; clock = suc a.clock }) (v ∷ us) (omega arith) in
    record { before = first ∷ r.before; one = r.one; parts = ap (λ es. first ∷ es) r.parts; is_visible = r.is_visible }

lasts_after : (xs es : List Entry) → Lasts es → Lasts (xs ++ es)
lasts_after xs es r = record { before = xs ++ r.before; one = r.one; parts = ap (λ ys. xs ++ ys) r.parts ∙ sym (append_assoc xs r.before (r.one ∷ [])); is_visible = r.is_visible }

-- The gap of the index behind them.
gap-behind : (es rest : List Entry) → Lasts es → length es ≡ gap (seen es) (es ++ rest)
gap-behind es rest r =
    let count : seen es ≡ seen r.before + 1 = ap seen r.parts ∙ many-append visible r.before (r.one ∷ []) ∙ ap (λ n. seen r.before + n) (let v = r.is_visible in rw v) in
    ap length r.parts ∙ length-append r.before (r.one ∷ [])
    ∙ sym (laws.gap_after r.before r.one rest r.is_visible)
    ∙ ap₂ gap (sym count) (sym (append_assoc r.before (r.one ∷ []) rest) ∙ ap (λ zs. zs ++ rest) (sym r.parts))

module _ {C : Type 0} (K : Ghosts C) (kind : Lawful K) (ws : List ℕ) where
  -- Cells that end in a visible block show entries that end in a visible one.
  shown_lasts : (c : Cell C) (cs : List (Cell C)) → AllByRecursion (Good K (length ws)) (c ∷ cs) → EndsShown K (c ∷ cs) → Lasts (laid (shown K ws (c ∷ cs)))
  shown_lasts c [] good ends =
      let f : Face C = c.face in
      let n : length (K.units ws c.face.content) ≡ K.size c.face.content = kind.sized ws c.face.content good.0.fits in
      let some = good.0.numbered.some in
      subst Lasts (sym (append-nil (entries (shows K ws c.face)) ∙ ap₂ (λ (b d : Bool). entries_of (record { client = f.id.client; clock = f.id.clock }) b d (K.units ws f.content)) ends.1 ends.0))
      (run_lasts _ (K.units ws c.face.content) (omega arith))
  shown_lasts c (d ∷ cs) good ends = lasts_after (entries (shows K ws c.face)) (laid (shown K ws (d ∷ cs))) (shown_lasts d cs good.1 ends)

  pub gap_is : (pre : List (Cell C)) (rest : List Entry) → AllByRecursion (Good K (length ws)) pre → EndsShown K pre → length (laid (shown K ws pre)) ≡ gap (lookups.visible K pre) (laid (shown K ws pre) ++ rest)
  gap_is [] rest good ends = refl
  gap_is (c ∷ cs) rest good ends =
      gap-behind (laid (shown K ws (c ∷ cs))) rest (shown_lasts c cs good ends) ∙ ap (λ n. gap n (laid (shown K ws (c ∷ cs)) ++ rest)) (seen-shown K ws kind (c ∷ cs) good)

  module _ (F : ℕ → List law.Face) (p : Plain) (l : ℕ) {i j : ℕ} {cs pre post : List (Cell C)} (g : Gapped K i j cs pre post) (here : F l ≡ shown K ws cs) (good : AllByRecursion (Good K (length ws)) cs) (held : Law F p) where
    pub gapped_law : Law (put l (shown K ws (pre ++ post)) F) p
    gapped_law = elim (cases_Bool (inside K i cs)) [
      | inl yes' ↦ subst (λ (xs : List (Cell C)). Law (put l (shown K ws xs) F) p) (g.cut yes').1 (cut_law K kind ws F p l j cs (g.cut yes').0 here good held)
      | inr no' ↦ put_as_is K ws F p l _ (here ∙ ap (shown K ws) (g.whole no')) held
    ]
