use Rattle.std.proofs.Common.{◌≡◌, ℕ, ◌+◌, Bool, true, false, cond, List, ◌∷◌, ◌++◌, length, drop, None, Ok, sym, refl, ap, ◌∙◌, add_assoc, add-zero, arith}
use Rattle.std.proofs.lemmas.List.{append_assoc, take_at, length-append}
use Rattle.std.proofs.lemmas.Bool.{and_parts}
use Rattle.source.specs.Meaning.{Scope, relative, nested, root, Side}
use Rattle.leb128.specs.Reading.{number_at}
use Rattle.leb128.specs.declared.field.NumberField.{NumberField}
use Rattle.leb128.specs.declared.field.NumberField.TheVariants.{Client, Clock, Count}
use Rattle.leb128.specs.Fields.{max_len, limit}
use Rattle.record.specs.Names.{all_printable, name_count}
use Rattle.record.specs.Format.{is_open, has_flag}
use Rattle.record.specs.Decoding.{then, id_at, name_fault, name_at, scope_at, end_at, decode}
use Rattle.record.specs.Forms.{NumberForm, IdForm, NameForm, ScopeForm, Way, EndForm, RecordForm}
use Rattle.leb128.proofs.ReadLaws.{accepts}
use Rattle.leb128.proofs.PartLaws.{past}
use Rattle.record.proofs.NameLaws.{name_kept}

-- Each form is read.
number_in : (field : NumberField) (bs a rest : List ℕ) (p v : ℕ) → drop p bs ≡ a ++ rest → NumberForm field a v → number_at field bs p ≡ Ok (v, length a)
number_in field bs a rest p v d n = rw (d, accepts (max_len field) (limit field) a rest n.0 n.1 (omega (arith, n.2, n.3)), n.2) refl

id_in : (bs r rest : List ℕ) (p c k : ℕ) → drop p bs ≡ r ++ rest → IdForm r c k → id_at bs p ≡ Ok ((c, k), p + length r)
id_in bs r rest p c k d f =
    let a : List ℕ = f.0 in
    let b : List ℕ = f.1 in
    let d1 : drop p bs ≡ a ++ (b ++ rest) = rw (d, f.2, append_assoc) refl in
    let e1 : number_at Client bs p ≡ Ok (c, length a) = number_in Client bs a (b ++ rest) p c d1 f.3 in
    let e2 : number_at Clock bs (p + length a) ≡ Ok (k, length b) = number_in Clock bs b rest (p + length a) k (past bs a (b ++ rest) p d1) f.4 in
    rw (e1, e2, f.2, length-append, add_assoc) refl

name_in : (bs r rest n : List ℕ) (p : ℕ) → drop p bs ≡ r ++ rest → NameForm r n → name_at bs p ≡ Ok (n, p + length r)
name_in bs r rest n p d f =
    let a : List ℕ = f.0 in
    let fs = and_parts (name_count (length n)) (all_printable n) f.3 in
    let d1 : drop p bs ≡ a ++ (n ++ rest) = rw (d, f.1, append_assoc) refl in
    let d2 : drop (p + length a) bs ≡ n ++ rest = past bs a (n ++ rest) p d1 in
    let e1 : number_at Count bs p ≡ Ok (length n, length a) = number_in Count bs a (n ++ rest) p (length n) d1 f.2 in
    let e2 : name_fault (length n) (drop (p + length a) bs) ≡ None = rw d2 (name_kept n rest fs.1) in
    rw (e1, fs.0, e2, d2, take_at n rest (length n) refl, f.1, length-append, add_assoc) refl

scope_in : (bs r rest : List ℕ) (p : ℕ) (s : Scope) (t : Bool) → drop p bs ≡ r ++ rest → ScopeForm r s → Way t s
    → scope_at (is_open s) t bs p ≡ Ok (s, p + length r)
scope_in bs r rest p (relative c k) t d f u = rw (id_in bs r rest p c k d f) refl
scope_in bs r rest p (nested c k) t d f u = rw (u, id_in bs r rest p c k d f) refl
scope_in bs r rest p (root n) t d f u = rw (u, name_in bs r rest n p d f) refl

anchored : (e : Scope) (t : Bool) → is_open e ≡ false → Way t e
anchored (relative c k) t o = tt
anchored (nested c k) t o = cc
anchored (root n) t o = cc

end_in : (o many t : Bool) (bs b rest : List ℕ) (p : ℕ) (s e : Scope) → drop p bs ≡ b ++ rest → EndForm o many t b s e
    → cond o (scope_at true t bs p) (cond many (scope_at false false bs p) (Ok (s, p))) ≡ Ok (e, p + length b)
end_in true many t bs b rest p s e d f = rw (← f.0) (scope_in bs b rest p e t d f.2 f.1)
end_in false true t bs b rest p s e d f = ap (λ q. scope_at q false bs p) (sym f.0) ∙ scope_in bs b rest p e false d f.1 (anchored e false f.0)
end_in false false t bs b rest p s e d f = rw (f.0, f.1, add-zero) refl

pub complete : (r rest : List ℕ) (s e : Side) → RecordForm r s e → decode (r ++ rest) ≡ Ok ((s, e), length r)
complete r rest s e g =
    let f : ℕ = g.0 in
    let a : List ℕ = g.1 in
    let b : List ℕ = g.2 in
    let bs : List ℕ = 7 ∷ f ∷ ((a ++ b) ++ rest) in
    let d1 : drop 2 bs ≡ a ++ (b ++ rest) = append_assoc a b rest in
    let d2 : drop (2 + length a) bs ≡ b ++ rest = past bs a (b ++ rest) 2 d1 in
    let e1 : scope_at (has_flag 8 f) (has_flag 32 f) bs 2 ≡ Ok (s.0, 2 + length a) = rw (← g.4) (scope_in bs a (b ++ rest) 2 s.0 (has_flag 32 f) d1 g.6 g.5) in
    let e2 : end_at f bs (s.0, 2 + length a) ≡ Ok (e.0, 2 + length a + length b) =
    end_in (has_flag 16 f) (has_flag 1 f) (has_flag 32 f) bs b rest (2 + length a) s.0 e.0 d2 g.8 in
    let n : 2 + length a + length b ≡ length r = omega (arith, length-append a b, ap length g.3) in
    ap (λ q. decode (q ++ rest)) g.3
    ∙ (ap (λ q. then q (λ x. then (end_at f bs x) (λ y. Ok (((x.0, has_flag 2 f), (y.0, has_flag 4 f)), y.1)))) e1
    ∙ (ap (λ q. then q (λ y. Ok (((s.0, has_flag 2 f), (y.0, has_flag 4 f)), y.1))) e2
    ∙ rw (g.7, g.9, n) refl))
