-- Turns that are unrolled are a description.
use Rattle.std.proofs.Common.{◌≡◌, ◌≢◌, ℕ, suc, zero, ◌+◌, ◌-◌, ◌*◌, ◌<◌, ◌≤◌, Bool, true, false, not, ◌&&◌, ◌||◌, List, [], ◌∷◌, ◌++◌, refl, sym, ◌∙◌, ap, subst, inl, inr, ◌⊎◌, arith, if◌then◌else◌, length, Option, Some, None, ◌==◌, nat_lt, take, get_or}
use Rattle.std.proofs.lemmas.Bool.Decides.{nat_tests}
use Rattle.clause_form.specs.declared.lit.Lit.{Lit}
use Rattle.clause_form.specs.ClauseTruth.{Values, is_lit_true, is_clause_true}
use Rattle.clause_form.specs.Literals.{AreOf, IsOf}
use Rattle.bit_circuit.specs.BusValue.{number}
use Rattle.bit_circuit.specs.Extension.{PlainFormula, IsModel}
use Rattle.guard_prog.specs.GuardedRun.{Program, State, run, start_of, IsRun, IsRunTo}
use Rattle.turn_law.specs.Padded.{Phase, step, ended, path, path_on, beginning, trimmed}
use Rattle.turn_law.specs.Symbol.{Symbol, Row, row_true, first_true, trues, chosen, choices, AreRowsOf, Takes, Follows, OneReads, Reached, Unrolls}
use Rattle.turn_law.specs.Description.{row_of, turns_read, read, HasOneModel, AreRowsWithin, Describes}
use Rattle.turn_encoding.specs.Encodings.{PlainEncoding}
use Rattle.turn_law.specs.Unrolled.{AreLabelled, labels_of, words_of, depths_of, failures_of, failed_in, encoded, IsGoal, IsStart}
use Rattle.turn_law.proofs.Failing.{fails_at, goal_fails, goal_inside, goal_some, length-failures}
use Rattle.turn_law.proofs.Induction.{follows_path, length-choices}
use Rattle.turn_law.proofs.Padding.{padded, length-padded, Pads, Acts, step_cases, is_padded, padable}

read_choices : (v : Values) (rs : List Row) → turns_read v (labels_of rs) (words_of rs) ≡ choices v rs
read_choices v [] = refl
read_choices v (r ∷ rs) = ap (λ cs. chosen v r ∷ cs) (read_choices v rs)

length-labels : (rs : List Row) → length (labels_of rs) ≡ length rs
length-labels [] = refl
length-labels (r ∷ rs) = omega (arith, length-labels rs)

once_of : (p : Program) (v : Values) (ph : Phase) (rs : List Row) (after : Phase) → Follows p v ph rs after → (t : ℕ) → t < length rs → trues v (row_of (labels_of rs) t) ≡ 1
once_of p v ph [] after f t h = absurd (omega (arith, h))
once_of p v ph (r ∷ rs) after f zero h = f.1.once
once_of p v ph (r ∷ rs) after f (suc t) h = once_of p v f.0 rs after f.2 t (omega (arith, h))

-- after the end the next label is 0
zero_next : (p : Program) (v : Values) (ph : Phase) (rs : List Row) (after : Phase) → ph.is_over ≡ true → Follows p v ph rs after → 0 < length rs → first_true v (row_of (labels_of rs) 0) ≡ 0
zero_next p v ph [] after o f h = absurd (omega (arith, h))
zero_next p v ph (r ∷ rs) after o f h = go (step_cases p ph (chosen v r) f.0 f.1.stepped)
  where
    go : Pads ph (chosen v r) f.0 ⊎ Acts p ph (chosen v r) f.0 → first_true v r.labels ≡ 0
    go (inl k) = ap (λ c. c.0) k.pair
    go (inr k) = absurd (let x = k.lives in cc)

padding_of : (p : Program) (v : Values) (ph : Phase) (rs : List Row) (after : Phase) → Follows p v ph rs after → (t : ℕ) → suc t < length rs → first_true v (row_of (labels_of rs) t) ≡ 0 → first_true v (row_of (labels_of rs) (suc t)) ≡ 0
padding_of p v ph [] after f t h e = absurd (omega (arith, h))
padding_of p v ph (r ∷ rs) after f zero h e = go (step_cases p ph (chosen v r) f.0 f.1.stepped)
  where
    go : Pads ph (chosen v r) f.0 ⊎ Acts p ph (chosen v r) f.0 → first_true v (row_of (labels_of rs) 0) ≡ 0
    go (inl k) = zero_next p v f.0 rs after (ap (λ q. q.is_over) k.ends) f.2 (omega (arith, h))
    go (inr k) = absurd (let x : (first_true v r.labels == 0) ≡ false = k.label in let y : (first_true v r.labels == 0) ≡ true = ap (λ n. n == 0) e in cc)
padding_of p v ph (r ∷ rs) after f (suc t) h e = padding_of p v f.0 rs after f.2 t (omega (arith, h)) e

or-assoc : (a b c : Bool) → ((a || b) || c) ≡ (a || (b || c))
or-assoc true b c = refl
or-assoc false b c = refl

or_false : (a : Bool) → (a || false) ≡ a
or_false true = refl
or_false false = refl

failure_of : (p : Program) (v : Values) (ph : Phase) (rs : List Row) (after : Phase) → Follows p v ph rs after → (ph.state.is_failed || failed_in v rs) ≡ after.state.is_failed
failure_of p v ph [] after f = or_false ph.state.is_failed ∙ ap (λ q. q.state.is_failed) f
failure_of p v ph (r ∷ rs) after f =
    sym (or-assoc ph.state.is_failed (is_lit_true v r.failure) (failed_in v rs)) ∙ ap (λ b. b || failed_in v rs) f.1.failure ∙ failure_of p v f.0 rs after f.2

-- the phase after some turns
record Prefix (p : Program) (v : Values) (ph : Phase) (rs : List Row) (t : ℕ) : Type 0 where
  mid : Phase
  goes : path p (take (suc t) (choices v rs)) ph ≡ Some mid
  depth : (d : ℕ) → row_true v (row_of (depths_of rs) t) d ≡ (suc d == length mid.state.stack)

prefix : (p : Program) (v : Values) (ph : Phase) (rs : List Row) (after : Phase) → Follows p v ph rs after → (t : ℕ) → t < length rs → Prefix p v ph rs t
prefix p v ph [] after f t h = absurd (omega (arith, h))
prefix p v ph (r ∷ rs) after f zero h = record { mid = f.0; goes = ap (path_on (λ q. Some q)) f.1.stepped; depth = f.1.depth }
prefix p v ph (r ∷ rs) after f (suc t) h =
    let k = prefix p v f.0 rs after f.2 t (omega (arith, h)) in
    record { mid = k.mid; goes = ap (path_on (path p (take (suc t) (choices v rs)))) f.1.stepped ∙ k.goes; depth = k.depth }

trimmed_take : (t : ℕ) (cs : List (ℕ × ℕ)) → trimmed (take t cs) ≡ take t (trimmed cs)
trimmed_take zero [] = refl
trimmed_take zero (c ∷ cs) = refl
trimmed_take (suc t) [] = refl
trimmed_take (suc t) (c ∷ cs) = go (c.0 == 0) (trimmed_take t cs)
  where
    go : (b : Bool) → trimmed (take t cs) ≡ take t (trimmed cs) → (if b then [] else c ∷ trimmed (take t cs)) ≡ take (suc t) (if b then [] else c ∷ trimmed cs)
    go true e = refl
    go false e = ap (λ q. c ∷ q) e

labels_inside : (n : ℕ) (rs : List Row) → AreRowsOf n rs → AreRowsWithin n (labels_of rs)
labels_inside n [] o = tt
labels_inside n (r ∷ rs) o = (o.0.labels, labels_inside n rs o.1)

words_inside : (n : ℕ) (rs : List Row) → AreRowsOf n rs → AreRowsWithin n (words_of rs)
words_inside n [] o = tt
words_inside n (r ∷ rs) o = (o.0.word, words_inside n rs o.1)

depths_inside : (n : ℕ) (rs : List Row) → AreRowsOf n rs → AreRowsWithin n (depths_of rs)
depths_inside n [] o = tt
depths_inside n (r ∷ rs) o = (o.0.depth, depths_inside n rs o.1)

reads_run : (p : Program) (s : PlainFormula) (symbol : Symbol) (rows : List Row) (start goal : List Lit) → Unrolls p s symbol rows → (v : Values) → (q : Reached p v symbol rows) → run p (read (encoded s goal start rows) v) (start_of p) ≡ Some q.phase.state
reads_run p s symbol rows start goal u v q =
    ap (λ cs. run p (trimmed cs) (start_of p)) (read_choices v rows) ∙ (is_padded p (choices v rows) (beginning p) q.phase (follows_path p v rows (beginning p) q.phase q.follows)).runs

-- the description
pub describes : (p : Program) (s : PlainFormula) (symbol : Symbol) (rows : List Row) (start goal : List Lit) → AreLabelled p → Unrolls p s symbol rows → 0 < length rows → IsStart p s start → IsGoal rows goal → Describes (encoded s goal start rows) p (length rows)
describes p s symbol rows start goal a u n st f = record {
  turns = length-labels rows;
  once = λ v m t h. let q = u.reached v m in once_of p v (beginning p) rows q.phase q.follows t h;
  padding = λ v m t h e. let q = u.reached v m in padding_of p v (beginning p) rows q.phase q.follows t h e;
  runs = λ v m. let q = u.reached v m in record { state = q.phase.state; is = record { is = reads_run p s symbol rows start goal u v q } };
  each = λ xs h r. one xs h r;
  depth = λ v m t h end r d. deep v m t h end r.is d;
  some = goal_some rows goal n f;
  rises = f.rises;
  failures = record { failures = failures_of rows; are = record { count = length-failures rows; each = λ v m t h end r. fails v m t h end r.is }; same = f.same };
  goal = λ v m end r.
      let q = u.reached v m in
      let e = reads_run p s symbol rows start goal u v q in
      let g : Some end ≡ Some q.phase.state = sym r.is ∙ e in
      let i : end ≡ q.phase.state = cc in
      goal_fails v rows goal f ∙ failure_of p v (beginning p) rows q.phase q.follows ∙ sym (ap (λ x. x.is_failed) i);
  goal_within = goal_inside s.variables rows goal u.inside f;
  depths_within = (st.within, depths_inside s.variables rows u.inside);
  alternatives_within = labels_inside s.variables rows u.inside;
  inputs_within = words_inside s.variables rows u.inside;
}
  where
    one : (xs : List (ℕ × ℕ)) → length xs ≤ length rows → IsRun p xs → HasOneModel (encoded s goal start rows) xs
    one xs h r =
        let b = padable p a (length rows) xs (beginning p) r.state h refl r.is.is in
        let o = u.goes_on (padded (length rows) xs) (length-padded (length rows) xs) b.after b.goes in
        record {
          values = o.values;
          model = o.model;
          reads = ap trimmed (read_choices o.values rows ∙ o.reads) ∙ b.trims;
          only = λ w m e0.
              let e1 : trimmed (choices w rows) ≡ xs = ap trimmed (sym (read_choices w rows)) ∙ e0 in
              let q = u.reached w m in
              let c = is_padded p (choices w rows) (beginning p) q.phase (follows_path p w rows (beginning p) q.phase q.follows) in
              let n : length (choices w rows) ≡ length rows = length-choices w rows in
              o.only w m (c.pads ∙ ap (λ i. padded i (trimmed (choices w rows))) n ∙ ap (padded (length rows)) e1);
        }

    fails : (v : Values) → IsModel v s → (t : ℕ) → t < length rows → (end : State) → run p (take (suc t) (read (encoded s goal start rows) v)) (start_of p) ≡ Some end → row_true v (failures_of rows) t ≡ (nat_lt t (length (read (encoded s goal start rows) v)) && end.is_failed)
    fails v m t h end e =
        let q = u.reached v m in
        let c = read_choices v rows in
        fails_at p a v (beginning p) rows q.phase q.follows t h end (ap (λ cs. run p (take (suc t) (trimmed cs)) (start_of p)) (sym c) ∙ e) ∙ ap (λ cs. nat_lt t (length (trimmed cs)) && end.is_failed) (sym c)

    deep : (v : Values) → IsModel v s → (t : ℕ) → t ≤ length rows → (end : State) → run p (take t (read (encoded s goal start rows) v)) (start_of p) ≡ Some end → (d : ℕ) → row_true v (row_of (start ∷ depths_of rows) t) d ≡ (suc d == length end.stack)
    deep v m zero h end e d = st.begins v m d ∙ (let i : start_of p ≡ end = cc in ap (λ x. suc d == length x.stack) i)
    deep v m (suc t) h end e d =
        let q = u.reached v m in
        let x = prefix p v (beginning p) rows q.phase q.follows t h in
        let y = (is_padded p (take (suc t) (choices v rows)) (beginning p) x.mid x.goes).runs in
        let z : run p (take (suc t) (trimmed (choices v rows))) (start_of p) ≡ Some x.mid.state = ap (λ cs. run p cs (start_of p)) (sym (trimmed_take (suc t) (choices v rows))) ∙ y in
        let w : run p (take (suc t) (trimmed (choices v rows))) (start_of p) ≡ Some end = ap (λ cs. run p (take (suc t) (trimmed cs)) (start_of p)) (sym (read_choices v rows)) ∙ e in
        let i : x.mid.state ≡ end = cc in
        x.depth d ∙ ap (λ x. suc d == length x.stack) i
