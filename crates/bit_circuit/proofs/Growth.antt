-- Extension composes, and circuits stay circuits as they grow.
use Rattle.std.proofs.Common.{◌≡◌, ℕ, ◌+◌, ◌^◌, ◌<◌, Bool, true, false, ◌&&◌, ◌||◌, List, [], ◌∷◌, ◌++◌, map, length, take, drop, refl, sym, ◌∙◌, ap, subst, arith, append_assoc, length-append, length-drop}
use Rattle.std.proofs.lemmas.Bool.{and_parts, and_from}
use Rattle.std.proofs.lemmas.List.{length-take-le}
use Rattle.clause_form.specs.declared.lit.Lit.{Lit}
use Rattle.clause_form.specs.ClauseTruth.{Values, is_lit_true, are_true, Agree}
use Rattle.clause_form.specs.Literals.{variable, AreOf, IsClause, is_within, are_within, literal}
use Rattle.clause_form.proofs.Agreement.{is_lit_true-agree, are_true-append, Agree-refl, Agree-trans, Agree-less}
use Rattle.clause_form.proofs.Negations.{is_lit_true-literal}
use Rattle.clause_form.proofs.Rising.{AreOf-more, are_within-append, are_within-more, is_within-from}
use Rattle.bit_circuit.specs.Extension.{PlainFormula, IsModel, IsLonger, ExtendsWith, Extends, IsCircuit, IsRoomy, formula, with_clauses}

-- ---- more clauses
pub longer_refl : (cs : List (List Lit)) → IsLonger cs cs
longer_refl cs = record { more = []; is = sym (append_nil cs) }
  where
    append_nil : (cs : List (List Lit)) → cs ++ [] ≡ cs
    append_nil [] = refl
    append_nil (c ∷ cs) = ap (λ ds. c ∷ ds) (append_nil cs)

pub longer_trans : (as' bs cs : List (List Lit)) → IsLonger as' bs → IsLonger bs cs → IsLonger as' cs
longer_trans as' bs cs p q = record { more = p.more ++ q.more; is = q.is ∙ ap (λ xs. xs ++ q.more) p.is ∙ append_assoc as' p.more q.more }

-- what makes the new clauses true makes the old ones true
pub kept : {old new : PlainFormula} {free : List Lit} → ExtendsWith old new free → (v : Values) → IsModel v new → IsModel v old
kept {old} {new} {free} e v m =
    record { holds = (and_parts (are_true v old.clauses) (are_true v e.adds.more) (sym (are_true-append v old.clauses e.adds.more) ∙ ap (are_true v) (sym e.adds.is) ∙ m.holds)).0 }

-- ---- one growth after another
map_same : (n : ℕ) (v w : Values) (ls : List Lit) → AreOf n ls → Agree n v w → map (is_lit_true v) ls ≡ map (is_lit_true w) ls
map_same n v w [] o a = refl
map_same n v w (l ∷ ls) o a = let e = is_lit_true-agree n v w l o.0 a in let f = map_same n v w ls o.1 a in cc

split : (w : Values) (xs ys : List Lit) (bits : List Bool) → map (is_lit_true w) (xs ++ ys) ≡ bits → (map (is_lit_true w) xs ≡ take (length xs) bits) × (map (is_lit_true w) ys ≡ drop (length xs) bits)
split w [] ys bits d = (refl, d)
split w (x ∷ xs) ys [] d = cc
split w (x ∷ xs) ys (b ∷ bs) d =
    let e : is_lit_true w x ≡ b = cc in
    let f : map (is_lit_true w) (xs ++ ys) ≡ bs = cc in
    let h = split w xs ys bs f in
    let g = h.0 in
    (cc, h.1)

joined : (w : Values) (xs ys : List Lit) (bits : List Bool) → map (is_lit_true w) xs ≡ take (length xs) bits → map (is_lit_true w) ys ≡ drop (length xs) bits → map (is_lit_true w) (xs ++ ys) ≡ bits
joined w [] ys bits p q = q
joined w (x ∷ xs) ys [] p q = cc
joined w (x ∷ xs) ys (b ∷ bs) p q =
    let e : is_lit_true w x ≡ b = cc in
    let f : map (is_lit_true w) xs ≡ take (length xs) bs = cc in
    let h = joined w xs ys bs f q in
    cc

pub AreOf-append : (n : ℕ) (xs ys : List Lit) → AreOf n xs → AreOf n ys → AreOf n (xs ++ ys)
AreOf-append n [] ys p q = q
AreOf-append n (x ∷ xs) ys p q = (p.0, AreOf-append n xs ys p.1 q)

pub with_append : (a b c : PlainFormula) (xs ys : List Lit) → ExtendsWith a b xs → ExtendsWith b c ys → ExtendsWith a c (xs ++ ys)
with_append a b c xs ys p q = record {
  grows = omega (arith, p.grows, q.grows);
  adds = longer_trans a.clauses b.clauses c.clauses p.adds q.adds;
  inside = AreOf-append c.variables xs ys (AreOf-more b.variables c.variables xs q.grows p.inside) q.inside;
  goes_on = λ v m bits h.
      let l = length-append xs ys in
      let lu : length (take (length xs) bits) ≡ length xs = length-take-le (length xs) bits (omega arith) in
      let lw : length (drop (length xs) bits) ≡ length ys = length-drop (length xs) bits ∙ omega arith in
      let g = p.goes_on v m (take (length xs) bits) lu in
      let j = q.goes_on g.values g.model (drop (length xs) bits) lw in
      record {
        values = j.values;
        agree = Agree-trans a.variables v g.values j.values g.agree (Agree-less a.variables b.variables g.values j.values p.grows j.agree);
        model = j.model;
        reads = joined j.values xs ys bits (sym (map_same b.variables g.values j.values xs p.inside j.agree) ∙ g.reads) j.reads;
        only = λ w e n d.
            let s = split w xs ys bits d in
            j.only w (g.only w e (kept q w n) s.0) n s.1;
      };
}

pub extends_refl : (s : PlainFormula) → Extends s s
extends_refl s = record {
  grows = omega arith;
  adds = longer_refl s.clauses;
  inside = tt;
  goes_on = λ v m bits h. record { values = v; agree = Agree-refl s.variables v; model = m; reads = none bits h; only = λ w a n d. a };
}
  where
    none : (bits : List Bool) → length bits ≡ 0 → [] ≡ bits
    none [] h = refl
    none (b ∷ bs) h = absurd (omega arith)

pub extends_trans : (a b c : PlainFormula) → Extends a b → Extends b c → Extends a c
extends_trans a b c p q = with_append a b c [] [] p q

-- gates after free literals leave them free
pub with_then : (a b c : PlainFormula) (free : List Lit) → ExtendsWith a b free → Extends b c → ExtendsWith a c free
with_then a b c free p q = subst (λ ls. ExtendsWith a c ls) (append_nil free) (with_append a b c free [] p q)
  where
    append_nil : (ls : List Lit) → ls ++ [] ≡ ls
    append_nil [] = refl
    append_nil (l ∷ ls) = ap (λ xs. l ∷ xs) (append_nil ls)

-- ---- what keeps a circuit
pub circuit_with : (s : PlainFormula) (ds : List (List Lit)) → are_within s.variables ds ≡ true → IsRoomy s → IsRoomy (with_clauses s ds)
circuit_with s ds o r = record {
  circuit = record {
    within = are_within-append s.variables s.clauses ds ∙ and_from _ _ r.circuit.within o;
    starts = r.circuit.starts;
    one = λ v m. r.circuit.one v (record { holds = (and_parts (are_true v s.clauses) (are_true v ds) (sym (are_true-append v s.clauses ds) ∙ m.holds)).0 });
  };
  room = r.room;
}

-- one more variable
pub circuit_more : (s : PlainFormula) → IsCircuit s → IsCircuit (formula (s.variables + 1) s.clauses)
circuit_more s c = record {
  within = are_within-more s.variables (s.variables + 1) s.clauses (omega arith) c.within;
  starts = omega (arith, c.starts);
  one = λ v m. c.one v (record { holds = m.holds });
}

pub circuit_input : (s : PlainFormula) → s.variables + 1 < 2 ^ 63 → IsRoomy s → IsRoomy (formula (s.variables + 1) s.clauses)
circuit_input s h r = record { circuit = circuit_more s r.circuit; room = h }

pub only_true : (b : Bool) → ((b || false) && true) ≡ true → b ≡ true
only_true true e = refl
only_true false e = e

start_within : are_within 1 ((literal 1 ∷ []) ∷ []) ≡ true
unfolding variable
start_within = refl

-- the formula of variable 1, which is true
pub circuit_new : IsRoomy (formula 1 ((literal 1 ∷ []) ∷ []))
circuit_new = record {
  circuit = record {
    within = start_within;
    starts = omega arith;
    one = λ v m. sym (is_lit_true-literal v 1) ∙ only_true (is_lit_true v (literal 1)) m.holds;
  };
  room = omega arith;
}

pub roomy_pushed : (s : PlainFormula) (n : ℕ) (cs new : List (List Lit)) (c : List Lit) → formula n cs ≡ s → new ≡ cs ++ c ∷ [] → AreOf s.variables c → IsClause c → IsRoomy (formula n cs) → IsRoomy (formula n new)
roomy_pushed s n cs new c e f o i r =
    let g : n ≡ s.variables = ap (λ t. t.variables) e in
    let w : is_within n c ≡ true = is_within-from n c (subst (λ m. AreOf m c) (sym g) o) in
    rw f (circuit_with (formula n cs) (c ∷ []) (and_from _ _ (and_from _ _ i w) refl) r)

pub new_is : (cs new : List (List Lit)) (c : List Lit) → new ≡ cs ++ c ∷ [] → cs ≡ [] → c ≡ literal 1 ∷ [] → IsRoomy (formula 1 new)
new_is cs new c e f g = rw (e, f, g) circuit_new
