-- One more turn, and all turns.
use Rattle.std.proofs.Common.{◌≡◌, ℕ, suc, zero, ◌+◌, ◌-◌, ◌<◌, ◌≤◌, Bool, true, false, not, ◌&&◌, ◌||◌, List, [], ◌∷◌, ◌++◌, refl, sym, ◌∙◌, ap, subst, arith, if◌then◌else◌, length, ◌==◌, nat_lt, Some, length-append, slice_get}
use Rattle.std.proofs.lemmas.Bool.Decides.{nat_tests}
use Rattle.clause_form.specs.declared.lit.Lit.{Lit}
use Rattle.clause_form.specs.Literals.{AreOf, last_variable, literal, variable}
use Rattle.clause_form.proofs.Rising.{AreOf-more}
use Rattle.guard_prog.specs.declared.draft.Draft.{Draft}
use Rattle.guard_prog.specs.Drafts.{program_of}
use Rattle.guard_prog.specs.GuardedRun.{Program}
use Rattle.guard_prog.specs.WellShaped.{IsWellShaped}
use Rattle.bit_circuit.specs.Extension.{IsModel, PlainFormula, formula}
use Rattle.turn_law.specs.Building.{free_of, is_no}
use Rattle.turn_law.specs.Description.{Describes}
use Rattle.turn_encoding.specs.Encodings.{PlainEncoding, HasShape}
use Rattle.turn_law.specs.Padded.{beginning}
use Rattle.turn_law.specs.Symbol.{AreRowsOf, MakesTurn, Row, Unrolls, sight}
use Rattle.turn_law.specs.Unrolled.{IsStart, depths_of, encoded, failures_of, labels_of, words_of}
use Rattle.turn_law.proofs.Built.{depth_of}
use Rattle.turn_law.proofs.Describing.{describes}
use Rattle.turn_law.proofs.Induction.{unrolls-append, unrolls_start}
use Rattle.turn_law.proofs.Shaping.{offers}
use Rattle.turn_unroll.specs.declared.turn.State.{State}
use Rattle.turn_unroll.specs.declared.turn.Turned.{Turned}
use Rattle.turn_unroll.specs.declared.unroll.Unrolled.{Unrolled}
use Rattle.turn_unroll.specs.Goals.{failure_with, goal_of, last_with}
use Rattle.turn_encoding.specs.Grids.{AreWide, HasColumns, HasFewer}
use Rattle.turn_unroll.specs.Starts.{IsStartOf}
use Rattle.turn_unroll.specs.Turns.{IsState, TurnsBy, row_of_turn, symbol_of}
use Rattle.turn_unroll.specs.Unrolls.{IsUnrolled}
use Rattle.turn_unroll.proofs.Failing.{Grown, failures_more, is_goal, makes_failure, with_failure}

-- ---- failures and grids
AreOf-last : (n k : ℕ) (ls : List Lit) → k ≤ n → AreOf n ls → last_variable k ls ≤ n
AreOf-last n k [] h o = h
AreOf-last n k (l ∷ ls) h o = AreOf-last n (variable l) ls o.0.most o.1

free-within : (n : ℕ) (rows : List Row) → AreRowsOf n rows → AreOf n (free_of (failures_of rows))
free-within n [] o = tt
free-within n (r ∷ rows) o = go (is_no r.failure) (free-within n rows o.1)
  where
    go : (b : Bool) → AreOf n (free_of (failures_of rows)) → AreOf n (if b then free_of (failures_of rows) else r.failure ∷ free_of (failures_of rows))
    go true f = f
    go false f = (o.0.failure, f)

failures-append : (rows : List Row) (r : Row) → failures_of (rows ++ r ∷ []) ≡ failures_of rows ++ r.failure ∷ []
failures-append [] r = refl
failures-append (q ∷ rows) r = ap (λ x. q.failure ∷ x) (failures-append rows r)

labels-append : (rows : List Row) (r : Row) → labels_of (rows ++ r ∷ []) ≡ labels_of rows ++ r.labels ∷ []
labels-append [] r = refl
labels-append (q ∷ rows) r = ap (λ x. q.labels ∷ x) (labels-append rows r)

words-append : (rows : List Row) (r : Row) → words_of (rows ++ r ∷ []) ≡ words_of rows ++ r.word ∷ []
words-append [] r = refl
words-append (q ∷ rows) r = ap (λ x. q.word ∷ x) (words-append rows r)

depths-append : (rows : List Row) (r : Row) → depths_of (rows ++ r ∷ []) ≡ depths_of rows ++ r.depth ∷ []
depths-append [] r = refl
depths-append (q ∷ rows) r = ap (λ x. q.depth ∷ x) (depths-append rows r)

wide-append : (n : ℕ) (rows : List (List Lit)) (row : List Lit) → AreWide n rows → length row ≡ n → AreWide n (rows ++ row ∷ [])
wide-append n [] row w h = (h, tt)
wide-append n (x ∷ rows) row w h = (w.0, wide-append n rows row w.1 h)

-- one more turn
pub unrolled_more : (d : Draft) (count turns : ℕ) (u now : Unrolled) (t : Turned) → IsWellShaped d → IsUnrolled d count turns u → TurnsBy d u.circuit now.circuit u.state count t → now.state ≡ t.state → now.failures ≡ u.failures ++ failure_with u.last t.failure ∷ [] → now.last ≡ last_with u.last t.failure → now.depths ≡ u.depths ++ t.state.depth ∷ [] → now.alternatives ≡ u.alternatives ++ t.labels ∷ [] → now.inputs ≡ u.inputs ++ t.word ∷ [] → IsUnrolled d count (turns + 1) now
unrolled_more d count turns u now t shaped k b es ef el ed ea ei = record {
  rows = k.rows ++ row ∷ [];
  start = k.start;
  taken = length-append k.rows (row ∷ []) ∙ ap (λ n. n + 1) k.taken;
  state = subst (IsState d now.circuit) (sym es) b.state;
  unrolls = subst (λ s. Unrolls (program_of d) now.circuit (symbol_of s) (k.rows ++ row ∷ [])) (sym es) (unrolls-append (program_of d) u.circuit now.circuit (symbol_of u.state) (symbol_of t.state) k.rows row k.unrolls makes);
  starts = record { begins = λ v m. k.starts.begins v (b.makes.keeps v m); within = AreOf-more u.circuit.variables now.circuit.variables k.start b.makes.grows k.starts.within };
  failures = ef ∙ ap (λ x. x ++ row.failure ∷ []) k.failures ∙ sym (failures-append k.rows row);
  rises = grown.rises;
  last = grown.ends;
  depths = ed ∙ ap (λ x. x ++ t.state.depth ∷ []) k.depths ∙ ap (λ x. k.start ∷ x) (sym (depths-append k.rows row));
  alternatives = ea ∙ ap (λ x. x ++ t.labels ∷ []) k.alternatives ∙ sym (labels-append k.rows row);
  inputs = ei ∙ ap (λ x. x ++ t.word ∷ []) k.inputs ∙ sym (words-append k.rows row);
  depths_wide = subst (AreWide (d.depth + 1)) (sym ed) (wide-append (d.depth + 1) u.depths t.state.depth k.depths_wide b.state.depth_count);
  alternatives_wide = subst (AreWide (count + 1)) (sym ea) (wide-append (count + 1) u.alternatives t.labels k.alternatives_wide b.labels);
  inputs_wide = subst (AreWide 32) (sym ei) (wide-append 32 u.inputs t.word k.inputs_wide b.word);
}
  where
    row : Row
    row = with_failure (row_of_turn t) (failure_with u.last t.failure)

    within : u.last ≤ u.circuit.variables
    within =
        let f = subst (λ ls. AreOf u.circuit.variables (free_of ls)) (sym k.failures) (free-within u.circuit.variables k.rows k.unrolls.inside) in
        let l = AreOf-last u.circuit.variables 1 (free_of u.failures) k.state.truth.starts f in
        omega (arith, l, k.last)

    makes : MakesTurn (program_of d) u.circuit now.circuit (symbol_of u.state) (symbol_of t.state) row
    makes = makes_failure (program_of d) u.circuit now.circuit (symbol_of u.state) (symbol_of t.state) k.rows (row_of_turn t) u.last k.state.truth within k.unrolls b.makes

    grown : Grown now.failures now.last
    grown = failures_more u.failures now.failures u.last now.last (failure_with u.last t.failure) t.failure k.rises k.last refl ef el

-- ---- the start
start_depth : (d : Draft) (state : State) → IsStartOf d state → IsStart (program_of d) (formula 1 ((literal 1 ∷ []) ∷ [])) state.depth
start_depth d state s = record {
  begins = λ v m k. depth_of (program_of d) (sight v (symbol_of state)) (beginning (program_of d)) (s.means v (s.state.truth.one v m)) k;
  within = s.state.depth_inside;
}

pub unrolled_none : (d : Draft) (count : ℕ) (u : Unrolled) → IsStartOf d u.state → u.circuit ≡ formula 1 ((literal 1 ∷ []) ∷ []) → u.failures ≡ [] → u.last ≡ 1 → u.depths ≡ u.state.depth ∷ [] → u.alternatives ≡ [] → u.inputs ≡ [] → IsUnrolled d count 0 u
unrolled_none d count u s ec ef el ed ea ei = record {
  rows = [];
  start = u.state.depth;
  taken = refl;
  state = subst (λ f. IsState d f u.state) (sym ec) s.state;
  unrolls = subst (λ f. Unrolls (program_of d) f (symbol_of u.state) []) (sym ec) (unrolls_start (program_of d) (symbol_of u.state) s.means);
  starts = subst (λ f. IsStart (program_of d) f u.state.depth) (sym ec) (start_depth d u.state s);
  failures = ef;
  rises = rw ef refl;
  last = rw (ef, el) refl;
  depths = ed;
  alternatives = ea;
  inputs = ei;
  depths_wide = rw ed (s.state.depth_count, tt);
  alternatives_wide = rw ea tt;
  inputs_wide = rw ei tt;
}

-- ---- all turns
pub unrolled_describes : (d : Draft) (count turns : ℕ) (u : Unrolled) (goal : List Lit) (e : PlainEncoding) → IsWellShaped d → 0 < turns → IsUnrolled d count turns u → goal ≡ goal_of u.failures → e ≡ record { formula = u.circuit; goal = goal; depths = u.depths; alternatives = u.alternatives; inputs = u.inputs } → Describes e (program_of d) turns
unrolled_describes d count turns u goal e shaped some k g f = subst (λ x. Describes x (program_of d) turns) (sym (f ∙ same)) (subst (Describes (encoded u.circuit goal k.start k.rows) (program_of d)) k.taken (describes (program_of d) u.circuit (symbol_of u.state) k.rows k.start goal (offers d shaped).1 k.unrolls (omega (arith, some, k.taken)) k.starts (is_goal k.rows u.failures goal k.failures k.rises g)))
  where
    same : record { formula = u.circuit; goal = goal; depths = u.depths; alternatives = u.alternatives; inputs = u.inputs } ≡ encoded u.circuit goal k.start k.rows
    same = λ i. record { formula = u.circuit; goal = goal; depths = k.depths i; alternatives = k.alternatives i; inputs = k.inputs i }

length-labels : (rows : List Row) → length (labels_of rows) ≡ length rows
length-labels [] = refl
length-labels (r ∷ rows) = ap suc (length-labels rows)

length-words : (rows : List Row) → length (words_of rows) ≡ length rows
length-words [] = refl
length-words (r ∷ rows) = ap suc (length-words rows)

length-depths : (rows : List Row) → length (depths_of rows) ≡ length rows
length-depths [] = refl
length-depths (r ∷ rows) = ap suc (length-depths rows)

pub unrolled_shape : (d : Draft) (count turns : ℕ) (u : Unrolled) (goal : List Lit) (e : PlainEncoding) → IsUnrolled d count turns u → e ≡ record { formula = u.circuit; goal = goal; depths = u.depths; alternatives = u.alternatives; inputs = u.inputs } → HasShape e d.depth count turns
unrolled_shape d count turns u goal e k f = rw f (record {
  depths = ap length k.depths ∙ (let n = length-depths k.rows in let m = k.taken in omega arith);
  depths_wide = k.depths_wide;
  alternatives = ap length k.alternatives ∙ length-labels k.rows ∙ k.taken;
  alternatives_wide = k.alternatives_wide;
  inputs = ap length k.inputs ∙ length-words k.rows ∙ k.taken;
  inputs_wide = k.inputs_wide;
})

-- ---- the columns of each row
pub wide_columns : (n : ℕ) (rows : List (List Lit)) → AreWide n rows → HasColumns n rows
wide_columns n [] w t row e = absurd (cc)
wide_columns n (x ∷ rows) w zero row e = let i : x ≡ row = cc in subst (λ r. length r ≡ n) i w.0
wide_columns n (x ∷ rows) w (suc t) row e = wide_columns n rows w.1 t row e

pub wide_fewer : (n m : ℕ) (rows : List (List Lit)) → n < m → AreWide n rows → HasFewer m rows
wide_fewer n m rows h w t row e = let k = wide_columns n rows w t row e in omega (arith, h, k)
