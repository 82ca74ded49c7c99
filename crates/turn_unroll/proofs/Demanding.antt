-- Demands and what is seen of labels grow.
use Rattle.std.proofs.Common.{◌≡◌, ◌≢◌, ℕ, suc, zero, ◌+◌, ◌-◌, ◌*◌, ◌<◌, ◌≤◌, Bool, true, false, not, ◌&&◌, ◌||◌, List, [], ◌∷◌, ◌++◌, refl, sym, ◌∙◌, ap, subst, arith, if◌then◌else◌, length, take, get_or, nat_le, nat_lt, append_assoc, Result, Ok, Err, OnOk}
use Rattle.std.proofs.lemmas.Bool.Decides.{nat_tests}
use Rattle.clause_form.specs.declared.lit.Lit.{Lit}
use Rattle.clause_form.specs.ClauseTruth.{Values, is_lit_true}
use Rattle.clause_form.specs.Literals.{AreOf, IsOf, literal, negation}
use Rattle.clause_form.proofs.Negations.{is_lit_true-literal, is_lit_true-negation}
use Rattle.clause_form.proofs.Rising.{AreOf-more, IsOf-more}
use Rattle.bit_circuit.specs.BusValue.{bit}
use Rattle.bit_circuit.specs.Extension.{PlainFormula, IsModel, Extends, Makes, with_clauses}
use Rattle.bit_circuit.proofs.Composition.{made_as, made_negated}
use Rattle.bit_circuit.proofs.Growth.{extends_refl, extends_trans, kept}
use Rattle.turn_law.specs.Building.{HasTruth, all_true, units}
use Rattle.turn_law.specs.Symbol.{row_true, nth, trues}
use Rattle.turn_unroll.specs.Demands.{Demands, IsDemanded, SeesLabels, apart, implied, is_lone, is_some, each_from, each_implied, all_imply}
use Rattle.turn_law.specs.Sight.{is_end}
use Rattle.turn_unroll.specs.declared.ways.Way.{Way}
use Rattle.turn_unroll.specs.Rows.{GivesLit}
use Rattle.turn_unroll.specs.Stack.{has_room}
use Rattle.turn_unroll.specs.Ways.{any_way}
use Rattle.turn_unroll.proofs.Making.{AreOf-push, take_more, take_whole}

pub all_true-append : (v : Values) (ls : List Lit) (l : Lit) → all_true v (ls ++ l ∷ []) ≡ (all_true v ls && is_lit_true v l)
all_true-append v [] l = go (is_lit_true v l)
  where
    go : (b : Bool) → (b && true) ≡ b
    go true = refl
    go false = refl
all_true-append v (x ∷ ls) l = rw (all_true-append v ls l) (go (is_lit_true v x))
  where
    go : (a : Bool) → (a && (all_true v ls && is_lit_true v l)) ≡ ((a && all_true v ls) && is_lit_true v l)
    go true = refl
    go false = refl

pub demanded_plain : (was now : List Lit) (l : Lit) → now ≡ was ++ l ∷ [] → IsDemanded was now l
demanded_plain was now l e = rw e (record { inside = λ n o h. AreOf-push n was l o h; equal = λ v h. all_true-append v was l })

yes_true : (v : Values) (l : Lit) → v 1 ≡ true → l ≡ literal 1 → is_lit_true v l ≡ true
yes_true v l o e = ap (is_lit_true v) e ∙ is_lit_true-literal v 1 ∙ o

pub demanded_anyway : (was : List Lit) (l : Lit) → l ≡ literal 1 → IsDemanded was was l
demanded_anyway was l e = record { inside = λ n o h. o; equal = λ v h. rw (yes_true v l h e) (go (all_true v was)) }
  where
    go : (b : Bool) → b ≡ (b && true)
    go true = refl
    go false = refl

pub demand_made : (old new : PlainFormula) (was now : List Lit) (l : Lit) (f : Values → Bool) (n : ℕ) → HasTruth old → AreOf old.variables was → Makes old new l f n → IsDemanded was now l → Demands old new was now f
demand_made old new was now l f n t o m d = record {
  extends = m.extends;
  inside = d.inside new.variables (AreOf-more old.variables new.variables was m.extends.grows o) m.inside;
  equal = λ v i. d.equal v (t.one v (kept m.extends v i)) ∙ ap (λ b. all_true v was && b) (m.equal v i);
}

pub implied_made : (old new : PlainFormula) (was now : List Lit) (a na b l : Lit) → HasTruth old → na ≡ negation a → AreOf old.variables was → Makes old new l (λ v. is_lit_true v na || is_lit_true v b) 1 → IsDemanded was now l → Demands old new was now (implied a b)
implied_made old new was now a na b l t e o m g =
    demand_made old new was now l (implied a b) 1 t o (made_as old new l _ (implied a b) 1 1 m (λ v i. rw e (ap (λ x. x || is_lit_true v b) (is_lit_true-negation v a))) (omega arith)) g

pub apart_made : (old new : PlainFormula) (was now : List Lit) (a b l nl : Lit) → HasTruth old → AreOf old.variables was → Makes old new l (λ v. is_lit_true v a && is_lit_true v b) 1 → nl ≡ negation l → IsDemanded was now nl → Demands old new was now (apart a b)
apart_made old new was now a b l nl t o m e g = demand_made old new was now nl (apart a b) 1 t o (rw e (made_negated old new l _ (apart a b) 1 m (λ v. refl))) g

-- ---- one demand after another
pub demands_none : (s : PlainFormula) (was : List Lit) (f : Values → Bool) → AreOf s.variables was → ((v : Values) → f v ≡ true) → Demands s s was was f
demands_none s was f o h = record { extends = extends_refl s; inside = o; equal = λ v m. rw (h v) (go (all_true v was)) }
  where
    go : (b : Bool) → b ≡ (b && true)
    go true = refl
    go false = refl

pub demands_then : (old mid new : PlainFormula) (was between now : List Lit) (f g h : Values → Bool) → Demands old mid was between f → Demands mid new between now g → ((v : Values) → IsModel v new → (f v && g v) ≡ h v) → Demands old new was now h
demands_then old mid new was between now f g h p q e = record {
  extends = extends_trans old mid new p.extends q.extends;
  inside = q.inside;
  equal = λ v m. q.equal v m ∙ ap (λ b. b && g v) (p.equal v (kept q.extends v m)) ∙ go (all_true v was) (f v) (g v) ∙ ap (λ b. all_true v was && b) (e v m);
}
  where
    go : (a b c : Bool) → ((a && b) && c) ≡ (a && (b && c))
    go true b c = refl
    go false b c = refl

pub demands_as : (old new : PlainFormula) (was now : List Lit) (f g : Values → Bool) → Demands old new was now f → ((v : Values) → IsModel v new → f v ≡ g v) → Demands old new was now g
demands_as old new was now f g p e = record { extends = p.extends; inside = p.inside; equal = λ v m. p.equal v m ∙ ap (λ b. all_true v was && b) (e v m) }

-- after gates the demands are still inside
pub demands_after : (old mid new : PlainFormula) (was now : List Lit) (f : Values → Bool) → Extends old mid → Demands mid new was now f → Demands old new was now f
demands_after old mid new was now f e p = record { extends = extends_trans old mid new e p.extends; inside = p.inside; equal = p.equal }

-- ---- labels
trues-suc : (v : Values) (ls : List Lit) (i : ℕ) (d : Lit) → i < length ls → trues v (take (suc i) ls) ≡ trues v (take i ls) + bit v (get_or ls i d)
trues-suc v [] i d h = absurd (omega (arith, h))
trues-suc v (l ∷ ls) zero d h = go ls
  where
    go : (ls : List Lit) → bit v l + trues v (take 0 ls) ≡ 0 + bit v l
    go [] = omega arith
    go (x ∷ ls) = omega arith
trues-suc v (l ∷ ls) (suc i) d h = omega (arith, trues-suc v ls i d (omega (arith, h)))

pub trues-take : (v : Values) (ls : List Lit) (i : ℕ) (d : Lit) → i < length ls → trues v (take (i + 1) ls) ≡ trues v (take i ls) + bit v (get_or ls i d)
trues-take v ls i d h = let e : i + 1 ≡ suc i = omega arith in ap (λ n. trues v (take n ls)) e ∙ trues-suc v ls i d h

abbrev worth : Bool → ℕ
worth b = if b then 1 else 0

lone_table : (a b : Bool) (t : ℕ) → ((a && nat_le t 1) && not (nat_lt 0 t && b)) ≡ (a && nat_le (t + worth b) 1)
lone_table false b t = refl
lone_table true true t = grind (arith, nat_tests)
lone_table true false t = grind (arith, nat_tests)

some_table : (b : Bool) (t : ℕ) → (nat_lt 0 t || b) ≡ nat_lt 0 (t + worth b)
some_table true t = grind (arith, nat_tests)
some_table false t = grind (arith, nat_tests)

sees_empty : (s : PlainFormula) (was : List Lit) (seen : Lit) → AreOf s.variables was → GivesLit s s seen (λ v. false) → SeesLabels s s was was [] seen
sees_empty s was seen o m = record {
  demands = record { extends = extends_refl s; inside = o; equal = λ v i. go (all_true v was) };
  inside = m.inside;
  equal = m.equal;
}
  where
    go : (b : Bool) → b ≡ (b && true)
    go true = refl
    go false = refl

pub sees_none : (s : PlainFormula) (was labels : List Lit) (seen : Lit) → AreOf s.variables was → GivesLit s s seen (λ v. false) → SeesLabels s s was was (take 0 labels) seen
sees_none s was [] seen o m = sees_empty s was seen o m
sees_none s was (l ∷ labels) seen o m = sees_empty s was seen o m

pub sees_more : (old s s1 s2 : PlainFormula) (was now now2 labels : List Lit) (seen label seen2 d : Lit) (i : ℕ) → i < length labels → label ≡ get_or labels i d → SeesLabels old s was now (take i labels) seen → Demands s s1 now now2 (apart seen label) → Makes s1 s2 seen2 (λ v. is_lit_true v seen || is_lit_true v label) 1 → SeesLabels old s2 was now2 (take (i + 1) labels) seen2
sees_more old s s1 s2 was now now2 labels seen label seen2 d i h q k m n = record {
  demands = record {
    extends = extends_trans old s s2 k.demands.extends (extends_trans s s1 s2 m.extends n.extends);
    inside = AreOf-more s1.variables s2.variables now2 n.extends.grows m.inside;
    equal = λ v i2.
        let v1 = kept n.extends v i2 in
        let v0 = kept m.extends v v1 in
        m.equal v v1 ∙ lone v (all_true v was) (k.demands.equal v v0) (k.equal v v0);
  };
  inside = n.inside;
  equal = λ v i2.
      let v0 = kept m.extends v (kept n.extends v i2) in
      n.equal v i2 ∙ some v (k.equal v v0);
}
  where
    lone : (v : Values) (a : Bool) → all_true v now ≡ (a && is_lone (take i labels) v) → is_lit_true v seen ≡ is_some (take i labels) v → (all_true v now && not (is_lit_true v seen && is_lit_true v label)) ≡ (a && is_lone (take (i + 1) labels) v)
    lone v a p r = rw (p, r, q, trues-take v labels i d h) (lone_table a (is_lit_true v (get_or labels i d)) (trues v (take i labels)))

    some : (v : Values) → is_lit_true v seen ≡ is_some (take i labels) v → (is_lit_true v seen || is_lit_true v label) ≡ is_some (take (i + 1) labels) v
    some v r = rw (r, q, trues-take v labels i d h) (some_table (is_lit_true v (get_or labels i d)) (trues v (take i labels)))

pub sees_all : (old s : PlainFormula) (was now labels : List Lit) (seen : Lit) (i : ℕ) → i ≡ length labels → SeesLabels old s was now (take i labels) seen → SeesLabels old s was now labels seen
sees_all old s was now labels seen i e g = subst (λ ls. SeesLabels old s was now ls seen) (take_whole labels i e) g

-- ---- the demands as clauses
units_append : (xs ys : List Lit) → units (xs ++ ys) ≡ units xs ++ units ys
units_append [] ys = refl
units_append (x ∷ xs) ys = ap (λ cs. (x ∷ []) ∷ cs) (units_append xs ys)

pub required_none : (s : PlainFormula) (ls : List Lit) → s ≡ with_clauses s (units (take 0 ls))
required_none s ls = go (units (take 0 ls)) (none ls)
  where
    none : (ls : List Lit) → units (take 0 ls) ≡ []
    none [] = refl
    none (l ∷ ls) = refl

    append_nil : (cs : List (List Lit)) → cs ++ [] ≡ cs
    append_nil [] = refl
    append_nil (c ∷ cs) = ap (λ ds. c ∷ ds) (append_nil cs)

    go : (cs : List (List Lit)) → cs ≡ [] → s ≡ with_clauses s cs
    go cs e = rw e (sym (ap (λ ds. record { variables = s.variables; clauses = ds }) (append_nil s.clauses)))

pub required_more : (old s new : PlainFormula) (ls : List Lit) (i : ℕ) (d l : Lit) → i < length ls → l ≡ get_or ls i d → s ≡ with_clauses old (units (take i ls)) → new ≡ with_clauses s ((l ∷ []) ∷ []) → new ≡ with_clauses old (units (take (i + 1) ls))
required_more old s new ls i d l h q e f =
    f ∙ ap (λ t. with_clauses t ((l ∷ []) ∷ [])) e
    ∙ ap (λ cs. record { variables = old.variables; clauses = cs }) (append_assoc old.clauses (units (take i ls)) ((l ∷ []) ∷ [])
    ∙ ap (λ cs. old.clauses ++ cs) (ap (λ x. units (take i ls) ++ (x ∷ []) ∷ []) q ∙ sym (units_append (take i ls) (get_or ls i d ∷ [])) ∙ ap units (sym (take_more ls i d h))))

pub required_all : (old s : PlainFormula) (ls : List Lit) (i : ℕ) → i ≡ length ls → s ≡ with_clauses old (units (take i ls)) → s ≡ with_clauses old (units ls)
required_all old s ls i e f = f ∙ ap (λ xs. with_clauses old (units xs)) (take_whole ls i e)

-- ---- facts of numbers in a row
pub each_next : (f : ℕ → Bool) (from i : ℕ) → from ≤ i → each_from f from (i + 1 - from) ≡ (each_from f from (i - from) && f i)
each_next f from i h =
    let e : i + 1 - from ≡ suc (i - from) = omega arith in
    let g : from + (i - from) ≡ i = omega arith in
    ap (each_from f from) e ∙ ap (λ n. each_from f from (i - from) && f n) g

pub each_empty : (f : ℕ → Bool) (from i : ℕ) → i ≤ from → each_from f from (i - from) ≡ true
each_empty f from i h = let e : i - from ≡ 0 = omega arith in ap (each_from f from) e

both : (a b : Bool) → (a && b) ≡ true → (a ≡ true) × (b ≡ true)
both true true e = (refl, refl)
both true false e = absurd (cc)
both false b e = absurd (cc)

pub each_at : (f : ℕ → Bool) (from n : ℕ) → each_from f from n ≡ true → (i : ℕ) → i < n → f (from + i) ≡ true
each_at f from zero e i h = absurd (omega arith)
each_at f from (suc n) e i h =
    let p = both (each_from f from n) (f (from + n)) e in
    go (nat_lt i n) refl p.1 (λ g. each_at f from n p.0 i g)
  where
    go : (b : Bool) → nat_lt i n ≡ b → f (from + n) ≡ true → (i < n → f (from + i) ≡ true) → f (from + i) ≡ true
    go true k g again = again (grind (arith, nat_tests))
    go false k g again = let j : i ≡ n = grind (arith, nat_tests) in ap (λ m. f (from + m)) j ∙ g

pub each_of : (f : ℕ → Bool) (from n : ℕ) → ((i : ℕ) → i < n → f (from + i) ≡ true) → each_from f from n ≡ true
each_of f from zero h = refl
each_of f from (suc n) h =
    let a = each_of f from n (λ i g. h i (omega arith)) in
    let b = h n (omega arith) in
    rw (a, b) refl

pub implies_from : (a b : Bool) → (not a || b) ≡ true → a ≡ true → b ≡ true
implies_from true b e f = e
implies_from false b e f = absurd (cc)

pub implies_to : (a b : Bool) → (a ≡ true → b ≡ true) → (not a || b) ≡ true
implies_to true b h = h refl
implies_to false b h = refl

-- a fact after Ok that follows from another
pub on_ok : {T E : Type 0} (r : Result T E) (P Q : Type 0) → (P → Q) → OnOk r P → OnOk r Q
on_ok (Ok x) P Q f p = f p
on_ok (Err e) P Q f p = tt

-- a formula that more clauses are put to has what it had
pub IsOf-with : (s : PlainFormula) (cs : List (List Lit)) (t : PlainFormula) (l : Lit) → t ≡ with_clauses s cs → IsOf s.variables l → IsOf t.variables l
IsOf-with s cs t l e o = rw e o

pub implied_at : (v : Values) (ls ms : List Lit) (i : ℕ) (a b : Lit) → 1 ≤ i → a ≡ nth ls i → b ≡ nth ms i → (each_implied v ls ms 1 (i - 1) && implied a b v) ≡ each_implied v ls ms 1 (i + 1 - 1)
implied_at v ls ms i a b h e f = ap (λ x. each_implied v ls ms 1 (i - 1) && x) (rw (e, f) refl) ∙ sym (each_next (λ i. not (row_true v ls i) || row_true v ms i) 1 i h)

pub imply_at : (v : Values) (ls : List Lit) (from i : ℕ) (a b : Lit) → from ≤ i → a ≡ nth ls i → (all_imply v ls (is_lit_true v b) from (i - from) && implied a b v) ≡ all_imply v ls (is_lit_true v b) from (i + 1 - from)
imply_at v ls from i a b h e = ap (λ x. all_imply v ls (is_lit_true v b) from (i - from) && x) (rw e refl) ∙ sym (each_next (λ i. not (row_true v ls i) || is_lit_true v b) from i h)

pub each_count : (f : ℕ → Bool) (from n m : ℕ) → n ≡ m → each_from f from n ≡ each_from f from m
each_count f from n m e = ap (each_from f from) e

pub room_made : (old s s1 new : PlainFormula) (was now1 now depth : List Lit) (most : ℕ) (ways : List Way) (push end a b : Lit) → a ≡ nth depth most → b ≡ nth depth 0 → GivesLit old s end (λ v. any_way v (λ x. is_end x.control) ways) → Demands s s1 was now1 (apart push a) → Demands s1 new now1 now (apart end b) → Demands old new was now (λ v. has_room v depth most ways push)
room_made old s s1 new was now1 now depth most ways push end a b e f g p q =
    demands_after old s new was now _ g.extends (demands_then s s1 new was now1 now _ _ _ p q (λ v m. rw (e, f, g.equal v (kept p.extends v (kept q.extends v m))) refl))
