-- From one turn to many.
use Rattle.std.proofs.Common.{◌≡◌, ℕ, suc, zero, ◌+◌, ◌*◌, ◌<◌, ◌≤◌, Bool, true, false, not, ◌&&◌, ◌||◌, List, [], ◌∷◌, ◌++◌, refl, sym, ◌∙◌, ap, subst, inl, inr, ◌⊎◌, arith, if◌then◌else◌, length, Option, Some, None, length-append, get_or}
use Rattle.clause_form.specs.declared.lit.Lit.{Lit}
use Rattle.clause_form.specs.ClauseTruth.{Values, Agree, is_lit_true}
use Rattle.clause_form.specs.Literals.{AreOf, IsOf}
use Rattle.clause_form.specs.Literals.{literal}
use Rattle.clause_form.proofs.Agreement.{is_lit_true-agree}
use Rattle.clause_form.proofs.Rising.{AreOf-more, IsOf-more}
use Rattle.bit_circuit.specs.BusValue.{bit, number}
use Rattle.bit_circuit.specs.Extension.{PlainFormula, IsModel, formula}
use Rattle.bit_circuit.proofs.Free.{start_extends}
use Rattle.bit_circuit.proofs.Growth.{circuit_new}
use Rattle.guard_prog.specs.GuardedRun.{Program}
use Rattle.turn_law.specs.Padded.{Phase, step, path, path_on, beginning}
use Rattle.turn_law.specs.Sight.{Sight, Means}
use Rattle.turn_law.specs.Symbol.{Symbol, Row, sight, first_true, trues, chosen, choices, IsRowOf, AreRowsOf, Takes, Follows, Chooses, Taken, MakesTurn, OneReads, Reached, Unrolls}

-- ---- rows under assignments that agree
pub number_same : (n : ℕ) (v w : Values) (ls : List Lit) → AreOf n ls → Agree n v w → number v ls ≡ number w ls
number_same n v w [] o a = refl
number_same n v w (l ∷ ls) o a = let e = is_lit_true-agree n v w l o.0 a in let f = number_same n v w ls o.1 a in rw (e, f)

pub first_same : (n : ℕ) (v w : Values) (ls : List Lit) → AreOf n ls → Agree n v w → first_true v ls ≡ first_true w ls
first_same n v w [] o a = refl
first_same n v w (l ∷ ls) o a = let e = is_lit_true-agree n v w l o.0 a in let f = first_same n v w ls o.1 a in rw (e, f)

pub chosen_same : (n : ℕ) (v w : Values) (r : Row) → IsRowOf n r → Agree n v w → chosen v r ≡ chosen w r
chosen_same n v w r o a = let e = first_same n v w r.labels o.labels a in let f = number_same n v w r.word o.word a in cc

pub choices_same : (n : ℕ) (v w : Values) (rs : List Row) → AreRowsOf n rs → Agree n v w → choices v rs ≡ choices w rs
choices_same n v w [] o a = refl
choices_same n v w (r ∷ rs) o a = let e = chosen_same n v w r o.0 a in let f = choices_same n v w rs o.1 a in cc

pub row_more : (n m : ℕ) (r : Row) → n ≤ m → IsRowOf n r → IsRowOf m r
row_more n m r h o = record {
  labels = AreOf-more n m r.labels h o.labels;
  word = AreOf-more n m r.word h o.word;
  depth = AreOf-more n m r.depth h o.depth;
  failure = IsOf-more n m r.failure h o.failure;
}

pub rows_more : (n m : ℕ) (rs : List Row) → n ≤ m → AreRowsOf n rs → AreRowsOf m rs
rows_more n m [] h o = tt
rows_more n m (r ∷ rs) h o = (row_more n m r h o.0, rows_more n m rs h o.1)

pub rows-append : (n : ℕ) (rs : List Row) (r : Row) → AreRowsOf n rs → IsRowOf n r → AreRowsOf n (rs ++ r ∷ [])
rows-append n [] r o h = (h, tt)
rows-append n (q ∷ rs) r o h = (o.0, rows-append n rs r o.1 h)

pub choices-append : (v : Values) (rs : List Row) (r : Row) → choices v (rs ++ r ∷ []) ≡ choices v rs ++ chosen v r ∷ []
choices-append v [] r = refl
choices-append v (q ∷ rs) r = ap (λ cs. chosen v q ∷ cs) (choices-append v rs r)

-- ---- one more turn at the end
pub follows-append : (p : Program) (v : Values) (rs : List Row) (r : Row) (ph mid after : Phase) → Follows p v ph rs mid → Takes p v mid r after → Follows p v ph (rs ++ r ∷ []) after
follows-append p v [] r ph mid after f t = (after, subst (λ q. Takes p v q r after) (sym f) t, refl)
follows-append p v (q ∷ rs) r ph mid after f t = (f.0, f.1, follows-append p v rs r f.0 mid after f.2 t)

-- the choices that rows show are a path
pub follows_path : (p : Program) (v : Values) (rs : List Row) (ph after : Phase) → Follows p v ph rs after → path p (choices v rs) ph ≡ Some after
follows_path p v [] ph after f = ap {B = Option Phase} (λ q. Some q) f
follows_path p v (r ∷ rs) ph after f = ap (path_on (path p (choices v rs))) f.1.stepped ∙ follows_path p v rs f.0 after f.2

path-append : (p : Program) (cs : List (ℕ × ℕ)) (c : ℕ × ℕ) (ph : Phase) → path p (cs ++ c ∷ []) ph ≡ path_on (λ mid. path_on (λ q. Some q) (step p mid c)) (path p cs ph)
path-append p [] c ph = refl
path-append p (d ∷ cs) c ph = go (λ mid. path-append p cs c mid) (step p ph d)
  where
    go : ((mid : Phase) → path p (cs ++ c ∷ []) mid ≡ path_on (λ q. path_on (λ q. Some q) (step p q c)) (path p cs mid)) → (o : Option Phase) → path_on (path p (cs ++ c ∷ [])) o ≡ path_on (λ mid. path_on (λ q. Some q) (step p mid c)) (path_on (path p cs) o)
    go h None = refl
    go h (Some mid) = h mid

-- a list that isn't empty ends
pub record Ends (cs : List (ℕ × ℕ)) : Type 0 where
  pub front : List (ℕ × ℕ)
  pub last : ℕ × ℕ
  pub is : front ++ last ∷ [] ≡ cs

pub ends : (c : ℕ × ℕ) (cs : List (ℕ × ℕ)) → Ends (c ∷ cs)
ends c [] = record { front = []; last = c; is = refl }
ends c (d ∷ cs) = let e = ends d cs in record { front = c ∷ e.front; last = e.last; is = ap (λ x. c ∷ x) e.is }

-- a step after a path
pub record Splits (p : Program) (front : List (ℕ × ℕ)) (last : ℕ × ℕ) (ph : Phase) : Type 0 where
  pub mid : Phase
  pub after : Phase
  pub comes : path p front ph ≡ Some mid
  pub steps : step p mid last ≡ Some after

pub splits : (p : Program) (front : List (ℕ × ℕ)) (last : ℕ × ℕ) (ph over : Phase) → path p (front ++ last ∷ []) ph ≡ Some over → Splits p front last ph
splits p front last ph over e = go (path p front ph) refl (sym (path-append p front last ph) ∙ e)
  where
    here : (mid : Phase) (o : Option Phase) → path p front ph ≡ Some mid → step p mid last ≡ o → path_on (λ q. Some q) o ≡ Some over → Splits p front last ph
    here mid None c d f = absurd (cc)
    here mid (Some after) c d f = record { mid = mid; after = after; comes = c; steps = d }

    go : (o : Option Phase) → path p front ph ≡ o → path_on (λ mid. path_on (λ q. Some q) (step p mid last)) o ≡ Some over → Splits p front last ph
    go None c f = absurd (cc)
    go (Some mid) c f = here mid (step p mid last) c refl f

pub snoc_same : {A : Type 0} (xs ys : List A) (x y : A) → length xs ≡ length ys → xs ++ x ∷ [] ≡ ys ++ y ∷ [] → (xs ≡ ys) × (x ≡ y)
snoc_same [] [] x y l e = (refl, cc)
snoc_same [] (b ∷ ys) x y l e = absurd (omega (arith, l))
snoc_same (a ∷ xs) [] x y l e = absurd (omega (arith, l))
snoc_same (a ∷ xs) (b ∷ ys) x y l e =
    let f : xs ++ x ∷ [] ≡ ys ++ y ∷ [] = cc in
    let g : a ≡ b = cc in
    let h = snoc_same xs ys x y (omega (arith, l)) f in
    (let k : xs ≡ ys = h.0 in cc, h.1)

pub length-choices : (v : Values) (rs : List Row) → length (choices v rs) ≡ length rs
length-choices v [] = refl
length-choices v (r ∷ rs) = omega (arith, length-choices v rs)

last_turn : (p : Program) (s new : PlainFormula) (before after : Symbol) (rows : List Row) (r : Row) → Unrolls p s before rows → MakesTurn p s new before after r → (front : List (ℕ × ℕ)) (last : ℕ × ℕ) → length front ≡ length rows → Splits p front last (beginning p) → OneReads new (rows ++ r ∷ []) (front ++ last ∷ [])
last_turn p s new before after rows r u t front last l k =
    let one = u.goes_on front l k.mid k.comes in
    let q = u.reached one.values one.model in
    let e : path p (choices one.values rows) (beginning p) ≡ Some q.phase = follows_path p one.values rows (beginning p) q.phase q.follows in
    let f : Some k.mid ≡ Some q.phase = sym k.comes ∙ ap (λ cs. path p cs (beginning p)) (sym one.reads) ∙ e in
    let same : k.mid ≡ q.phase = cc in
    let g = t.goes_on one.values one.model q.phase q.means last k.after (ap (λ ph. step p ph last) (sym same) ∙ k.steps) in
    record {
      values = g.values;
      model = g.model;
      reads =
          choices-append g.values rows r
          ∙ ap (λ cs. cs ++ chosen g.values r ∷ []) (sym (choices_same s.variables one.values g.values rows u.inside g.agree) ∙ one.reads)
          ∙ ap (λ c. front ++ c ∷ []) g.chooses;
      only = λ w m h.
          let parts = snoc_same (choices w rows) front (chosen w r) last (length-choices w rows ∙ sym l) (sym (choices-append w rows r) ∙ h) in
          g.only w (one.only w (t.keeps w m) parts.0) m parts.1;
    }

-- one more turn
pub unrolls-append : (p : Program) (s new : PlainFormula) (before after : Symbol) (rows : List Row) (r : Row) → Unrolls p s before rows → MakesTurn p s new before after r → Unrolls p new after (rows ++ r ∷ [])
unrolls-append p s new before after rows r u t = record {
  inside = rows-append new.variables rows r (rows_more s.variables new.variables rows t.grows u.inside) t.inside;
  reached = λ v m.
      let q = u.reached v (t.keeps v m) in
      let k = t.taken v m q.phase q.means in
      record { phase = k.after; follows = follows-append p v rows r (beginning p) q.phase k.after q.follows k.takes; means = k.means };
  goes_on = λ cs l ph e. go cs l ph e;
}
  where
    go : (cs : List (ℕ × ℕ)) → length cs ≡ length (rows ++ r ∷ []) → (ph : Phase) → path p cs (beginning p) ≡ Some ph → OneReads new (rows ++ r ∷ []) cs
    go [] l ph e = absurd (omega (arith, l, length-append rows (r ∷ [])))
    go (c ∷ cs) l ph e =
        let k = ends c cs in
        let h : length k.front ≡ length rows = omega (arith, l, length-append rows (r ∷ []), length-append k.front (k.last ∷ []), ap length k.is) in
        subst (λ ds. OneReads new (rows ++ r ∷ []) ds) k.is (last_turn p s new before after rows r u t k.front k.last h (splits p k.front k.last (beginning p) ph (ap (λ ds. path p ds (beginning p)) k.is ∙ e)))

-- no turn yet
pub unrolls_start : (p : Program) (symbol : Symbol) → ((v : Values) → v 1 ≡ true → Means p (sight v symbol) (beginning p)) → Unrolls p (formula 1 ((literal 1 ∷ []) ∷ [])) symbol []
unrolls_start p symbol h = record {
  inside = tt;
  reached = λ v m. record { phase = beginning p; follows = refl; means = h v (circuit_new.circuit.one v m) };
  goes_on = λ cs l ph e. go cs l;
}
  where
    go : (cs : List (ℕ × ℕ)) → length cs ≡ 0 → OneReads (formula 1 ((literal 1 ∷ []) ∷ [])) [] cs
    go [] l =
        let g = start_extends.goes_on (λ x. true) (record { holds = refl }) [] refl in
        record {
          values = g.values;
          model = g.model;
          reads = refl;
          only = λ w m e. g.only w (record { at = λ x i k. absurd (omega arith) }) m refl;
        }
    go (c ∷ cs) l = absurd (omega (arith, l))
