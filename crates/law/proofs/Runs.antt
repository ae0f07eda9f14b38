-- The law over a run of calls.
use Rattle.std.proofs.Common.{◌≡◌, ℕ, List, [], ◌∷◌, ◌++◌, sym, refl, subst, arith}
use mathlib.Core.Path.{fun_ext}
use Rattle.law.specs.Plain.{Plain, empty, Deed, Log, after, run, plain}
use Rattle.law.specs.Plain.Deed.{Opened, Made, Inserted, Removed, Placed, Withdrawn, Nothing}
use Rattle.law.specs.Faces.{Face, Law}
use Rattle.law.specs.Runs.{SameFaces, EmptyLawful, OpenKeeps, MakeKeeps, PlainMore, Reached, RunsLawful}
use Rattle.law.specs.Runs.Reached.{Fresh, Cut, OpenList, Make, Stay, Insert, Remove, RemoveNone, Place, PlaceEmpty, Withdraw}
use Rattle.law.proofs.Basics.{none_some}
use Rattle.law.proofs.Cuts.{cut_keeps}
use Rattle.law.proofs.Insertions.{insert_keeps}
use Rattle.law.proofs.Removals.{remove_keeps, remove_none_keeps}
use Rattle.law.proofs.Placings.{place_keeps, place_empty_keeps, withdraw_keeps}

pub plain_more : PlainMore
plain_more ds d = go empty ds
  where
    go : (p : Plain) (ds : Log) → run p (ds ++ d ∷ []) ≡ after (run p ds) d
    go p [] = refl
    go p (x ∷ xs) = go (after p x) xs

pub empty_lawful : EmptyLawful
empty_lawful = record {
  holds = λ l. refl;
  filled = λ l. tt;
  linked = λ l. tt;
  anchored = λ n s e. none_some s _ e;
  few = λ n s e. none_some s _ e;
  once = λ a h. absurd (omega arith);
  never = λ a h l. refl;
  clients = λ c. refl;
}

-- the law says nothing of names and words
renamed : (F : ℕ → List Face) (p : Plain) (ns : List (List ℕ)) (ws : List ℕ) → Law F p
    → Law F (record { names = ns; lists = p.lists; clients = p.clients; counts = p.counts; words = ws; links = p.links })
renamed F p ns ws law = record {
  holds = law.holds;
  filled = law.filled;
  linked = law.linked;
  anchored = law.anchored;
  few = law.few;
  once = law.once;
  never = law.never;
  clients = law.clients;
}

pub open_keeps : OpenKeeps
open_keeps F p name law = renamed F p _ p.words law

pub make_keeps : MakeKeeps
make_keeps F p ws law = renamed F p p.names _ law

pub same_faces : SameFaces
same_faces F G p same law = subst (λ H. Law H p) (fun_ext same) law

more : (G : ℕ → List Face) (ds : Log) (d : Deed) → Law G (after (plain ds) d) → Law G (plain (ds ++ d ∷ []))
more G ds d h = subst (λ z. Law G z) (sym (plain_more ds d)) h

lawful : {F : ℕ → List Face} {ds : Log} → Reached F ds → Law F (plain ds)
lawful Fresh = empty_lawful
lawful (Cut F ds l k xs f ys r cut) = cut_keeps F (plain ds) l k xs f ys (lawful r) cut
lawful (OpenList F ds name r) = more F ds (Opened name) (open_keeps F (plain ds) name (lawful r))
lawful (Make F ds ws r) = more F ds (Made ws) (make_keeps F (plain ds) ws (lawful r))
lawful (Stay F ds r) = more F ds Nothing (lawful r)
lawful (Insert F ds l i c w countable us xs ys r h) =
    more _ ds (Inserted l c i countable us) (insert_keeps F (plain ds) l i c w countable us xs ys (lawful r) h)
lawful (Remove F ds l i n xs ms ys r h) = more _ ds (Removed l i n) (remove_keeps F (plain ds) l i n xs ms ys (lawful r) h)
lawful (RemoveNone F ds l i n r h) = more F ds (Removed l i n) (remove_none_keeps F (plain ds) l i n (lawful r) h)
lawful (Place F ds n s xs ms ys r able h) = more _ ds (Placed n s) (place_keeps F (plain ds) n s xs ms ys (lawful r) able h)
lawful (PlaceEmpty F ds n s r able h) = more F ds (Placed n s) (place_empty_keeps F (plain ds) n s (lawful r) able h)
lawful (Withdraw F ds n r h) = more _ ds (Withdrawn n) (withdraw_keeps F (plain ds) n (lawful r) h)

pub runs_lawful : RunsLawful
runs_lawful F ds r = lawful r
