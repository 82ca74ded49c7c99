-- An encoding that describes a program whose runs are the choice lists of the one-stack machine depicts these.
use Rattle.std.proofs.Common.{◌≡◌, ℕ, zero, suc, ◌+◌, ◌-◌, ◌%◌, ◌<◌, ◌≤◌, max, Bool, true, false, ◌&&◌, if◌then◌else◌, ◌==◌, nat_lt, List, [], ◌∷◌, ◌++◌, length, map, take, drop, Option, Some, None, slice_get, refl, sym, ap, subst, ◌∙◌, arith}
use Rattle.std.proofs.lemmas.Bool.Decides.{nat_tests}
use Rattle.std.proofs.lemmas.List.{take-append-drop}
use Rattle.std.proofs.Math.Nat.{mod-lt}
use Rattle.bit_circuit.specs.BusValue.{number}
use Rattle.bit_circuit.specs.Extension.{IsModel}
use Rattle.bounded_check.specs.Depicts.{AreListed, AreNamed, Depicts, IsChoiceList, LeadsTo, HasOneModel as HasOneList, HoldsFailures as HoldsTurns, ReadsListed, choices_read}
use Rattle.chk_base.specs.Operators.{one_if}
use Rattle.clause_form.specs.declared.lit.Lit.{Lit}
use Rattle.clause_form.specs.ClauseTruth.{Values, is_lit_true}
use Rattle.guard_prog.specs.declared.draft.Alternative.{Alternative}
use Rattle.guard_prog.specs.Drafts.{plain_alternatives}
use Rattle.guard_prog.specs.GuardedRun.{IsRun, IsRunTo, PlainAlternative, Program, State}
use Rattle.guard_prog.specs.Laws.{PrefixesAreRuns}
use Rattle.one_stack.specs.Built.{concat_below, table}
use Rattle.one_stack.specs.BuildExact.{IsExact, NamesActors, choices_of}
use Rattle.one_stack.specs.declared.label.Label.{Label}
use Rattle.one_stack.specs.Labelled.{IsTaken, Takes, chosen_by, label_at, labels_of, most_in, most_of}
use Rattle.step_ir.specs.declared.event.Choice.{Choice}
use Rattle.step_ir.specs.declared.event.Event.{Event}
use Rattle.step_ir.specs.EntityStep.{Behaviour}
use Rattle.step_ir.specs.OneStackMachine
use Rattle.step_ir.specs.OneStackMachine.{Stacked}
use Rattle.step_ir.specs.PermittedSchedule.{fails}
use Rattle.step_ir.specs.Setting.{Setting}
use Rattle.turn_law.specs.Description.{Describes, read, row_of, turns_read}
use Rattle.turn_encoding.specs.Encodings.{PlainEncoding}
use Rattle.turn_law.specs.Padded.{trimmed}
use Rattle.turn_law.specs.Symbol.{first_true, row_true, trues}
use Rattle.turn_law.specs.Sight.{Offer}
use Rattle.turn_law.specs.Unrolled.{offers_from, offers_here}
use Rattle.turn_encoding.specs.Grids.{AreWide}
use Rattle.turn_unroll.specs.Offers.{greatest_of}

-- ---- the greatest label
greatest_here : (i : ℕ) (as' : List Alternative) → greatest_of (offers_here i (plain_alternatives as')) ≡ most_in as'
greatest_here i [] = refl
greatest_here i (a ∷ as') = ap (max a.label) (greatest_here i as')

greatest_joined : (xs ys : List Offer) → greatest_of (xs ++ ys) ≡ max (greatest_of xs) (greatest_of ys)
greatest_joined [] ys = omega arith
greatest_joined (x ∷ xs) ys = let h = greatest_joined xs ys in omega (arith, h)

greatest_from : (i : ℕ) (ps : List (List Alternative)) → greatest_of (offers_from i ps) ≡ most_of ps
greatest_from i [] = refl
greatest_from i (p ∷ ps) =
    let j = greatest_joined (offers_here i (plain_alternatives p)) (offers_from (i + 1) ps) in
    let h = greatest_here i p in
    let t = greatest_from (i + 1) ps in
    omega (arith, j, h, t)

pub greatest_is : (points : List (List Alternative)) (labels : List Label) → length labels ≡ most_of points → greatest_of (offers_from 0 points) ≡ length labels
greatest_is points labels e = greatest_from 0 points ∙ sym e

-- ---- words that labels take
taken_joined : (xs ys : List Label) → ((i w : ℕ) → IsTaken (slice_get xs i) w) → ((i w : ℕ) → IsTaken (slice_get ys i) w) → (i w : ℕ) → IsTaken (slice_get (xs ++ ys) i) w
taken_joined [] ys f g i w = g i w
taken_joined (x ∷ xs) ys f g zero w = f zero w
taken_joined (x ∷ xs) ys f g (suc i) w = taken_joined xs ys (λ j. f (suc j)) g i w

taken_none : (i w : ℕ) → IsTaken (slice_get [] i) w
taken_none i w = tt

taken_one : (l : Label) → l.input ≡ None → (i w : ℕ) → IsTaken (slice_get (l ∷ []) i) w
taken_one l e zero w = subst (λ o. Takes o w) (sym e) tt
taken_one l e (suc i) w = tt

taken_table : (n entities : ℕ) (points : List (List Alternative)) (i w : ℕ) → IsTaken (slice_get (table n (label_at entities points)) i) w
taken_table zero entities points i w = tt
taken_table (suc n) entities points i w =
    taken_joined (table n (label_at entities points)) (label_at entities points n ∷ []) (taken_table n entities points) (taken_one (label_at entities points n) refl) i w

-- every label of the program takes every word
pub all_taken : (entities : ℕ) (points : List (List Alternative)) (labels : List Label) → labels ≡ labels_of entities points → (i w : ℕ) → IsTaken (slice_get labels i) w
all_taken entities points labels e i w = subst (λ ls. IsTaken (slice_get ls i) w) (sym e) (taken_table (most_of points) entities points i w)

-- ---- entities of labels
named_joined : (n : ℕ) (xs ys : List Label) → AreNamed n xs → AreNamed n ys → AreNamed n (xs ++ ys)
named_joined n [] ys a b = b
named_joined n (x ∷ xs) ys a b = (a.0, named_joined n xs ys a.1 b)

named_table : (n count : ℕ) (points : List (List Alternative)) → AreNamed (suc n) (table count (label_at (suc n) points))
named_table n zero points = tt
named_table n (suc count) points =
    named_joined (suc n) (table count (label_at (suc n) points)) (label_at (suc n) points count ∷ []) (named_table n count points)
    (subst (λ k. count % k < suc n) (sym (one_at_least n)) (mod-lt count (omega arith)), tt)
  where
    one_at_least : (k : ℕ) → max (suc k) 1 ≡ suc k
    one_at_least k = omega arith

-- without an entity there is no label
none_most : (points : List (List Alternative)) → map plain_alternatives points ≡ [] ∷ [] → most_of points ≡ 0
none_most [] e = refl
none_most ([] ∷ []) e = refl
none_most ((a ∷ as') ∷ []) e = absurd cc
none_most (p ∷ q ∷ ps) e = absurd cc

pub all_named : (n : ℕ) (of : ℕ → List (List PlainAlternative)) (points : List (List Alternative)) (labels : List Label) → map plain_alternatives points ≡ [] ∷ concat_below n of → labels ≡ labels_of n points → AreNamed n labels
all_named zero of points labels e l =
    subst (AreNamed 0) (sym (l ∙ ap (λ k. table k (label_at 0 points)) (none_most points e))) tt
all_named (suc n) of points labels e l = subst (AreNamed (suc n)) (sym l) (named_table n (most_of points) points)

-- ---- labels that are read
first_below : (v : Values) (row : List Lit) → 0 < trues v row → first_true v row < length row
first_below v [] h = absurd (omega (arith, h))
first_below v (l ∷ ls) h = go (is_lit_true v l) refl (first_below v ls)
  where
    go : (b : Bool) → is_lit_true v l ≡ b → (0 < trues v ls → first_true v ls < length ls) → (if b then 0 else suc (first_true v ls)) < suc (length ls)
    go true e ih = omega arith
    go false e ih =
        let k : 0 < 0 + trues v ls = subst (λ b. 0 < one_if b + trues v ls) e h in
        let some : 0 < trues v ls = omega (arith, k) in
        let below = ih some in
        omega (arith, below)

listed_rows : (v : Values) (labels : List Label) → ((i w : ℕ) → IsTaken (slice_get labels i) w) → (rows words : List (List Lit)) → AreWide (length labels + 1) rows → ((t : ℕ) → t < length rows → trues v (row_of rows t) ≡ 1) → AreListed labels (trimmed (turns_read v rows words))
listed_rows v labels takes [] words wide once = tt
listed_rows v labels takes (r ∷ rows) [] wide once = tt
listed_rows v labels takes (r ∷ rows) (w ∷ words) wide once =
    go (first_true v r == 0) refl (listed_rows v labels takes rows words wide.1 (λ t h. once (suc t) (omega (arith, h))))
  where
    one : trues v r ≡ 1
    one = once 0 (omega arith)

    below : first_true v r < length r
    below = first_below v r (omega (arith, one))

    go : (b : Bool) → (first_true v r == 0) ≡ b → AreListed labels (trimmed (turns_read v rows words)) → AreListed labels (if b then [] else (first_true v r, number v w) ∷ trimmed (turns_read v rows words))
    go true e rest = tt
    go false e rest =
        let some : 1 ≤ first_true v r = grind (arith, nat_tests, e) in
        let wide_here = wide.0 in
        ((some, omega (arith, below, wide_here)), takes (first_true v r - 1) (number v w), rest)

-- what is read are labels of the list
pub listed_of : (e : PlainEncoding) (p : Program) (k : ℕ) (labels : List Label) → Describes e p k → AreWide (length labels + 1) e.alternatives → ((i w : ℕ) → IsTaken (slice_get labels i) w) → ReadsListed e labels
listed_of e p k labels d wide takes v model =
    listed_rows v labels takes e.alternatives e.inputs wide (λ t h. d.once v model t (let n = d.turns in omega (arith, h, n)))

-- ---- choices of pairs
pub choices_count : (chosen : ℕ → ℕ → Choice) (pairs : List (ℕ × ℕ)) → length (choices_of chosen pairs) ≡ length pairs
choices_count chosen [] = refl
choices_count chosen (x ∷ xs) = ap suc (choices_count chosen xs)

choices_taken : (chosen : ℕ → ℕ → Choice) (n : ℕ) (pairs : List (ℕ × ℕ)) → choices_of chosen (take n pairs) ≡ take n (choices_of chosen pairs)
choices_taken chosen zero pairs = refl
choices_taken chosen (suc n) [] = refl
choices_taken chosen (suc n) (x ∷ xs) = ap (λ cs. chosen x.0 x.1 ∷ cs) (choices_taken chosen n xs)

pub read_short : (v : Values) (rows words : List (List Lit)) → length (trimmed (turns_read v rows words)) ≤ length rows
read_short v [] words = omega arith
read_short v (r ∷ rows) [] = omega arith
read_short v (r ∷ rows) (w ∷ words) = go (first_true v r == 0) (read_short v rows words)
  where
    go : (b : Bool) → length (trimmed (turns_read v rows words)) ≤ length rows → length (if b then [] else (first_true v r, number v w) ∷ trimmed (turns_read v rows words)) ≤ suc (length rows)
    go true h = omega arith
    go false h = omega (arith, h)

-- ---- the depiction
shifted : (n m : ℕ) → (suc n == suc m) ≡ (n == m)
shifted n m = go (n == m) refl
  where
    go : (b : Bool) → (n == m) ≡ b → (suc n == suc m) ≡ (n == m)
    go b e = grind (arith, nat_tests)

module _ {S G : Type 0} (app : Setting) (beh : Behaviour S G) (globals : G) (m : ℕ) (stopped : (choices : List Choice) (events : List Event) (s : Stacked S G) → OneStackMachine.run app beh choices (OneStackMachine.start app beh globals) ≡ Some (events, s) → fails events ≡ s.is_stopped) (prefixes : PrefixesAreRuns) (p : Program) (labels : List Label) (exact : IsExact app beh globals m p (chosen_by labels)) (names : NamesActors app beh globals p labels) where
  -- a run that ends like the machine does
  record IsLike (pairs : List (ℕ × ℕ)) (events : List Event) (s : Stacked S G) : Type 0 where
    state : State
    runs : IsRunTo p pairs state
    depth : length state.stack ≡ length s.stack + 1
    failed : state.is_failed ≡ fails events

  same_end : (xs ys : List Event) (s t : Stacked S G) → ◌≡◌ {A = Option (List Event × Stacked S G)} (Some (xs, s)) (Some (ys, t)) → (xs ≡ ys) × (s ≡ t)
  same_end xs ys s t e =
      let f : ◌≡◌ {A = List Event × Stacked S G} (xs, s) (ys, t) = cc in
      (ap (λ (z : List Event × Stacked S G). z.0) f, ap (λ (z : List Event × Stacked S G). z.1) f)

  like : (pairs : List (ℕ × ℕ)) (events : List Event) (s : Stacked S G) → IsRun p pairs → LeadsTo app beh globals (choices_of (chosen_by labels) pairs) events s → IsLike pairs events s
  like pairs events s r l =
      let q = exact.sound pairs r.state r.is.is in
      let same = same_end q.events events q.state s (sym q.permitted ∙ l.is) in
      record {
        state = r.state;
        runs = r.is;
        depth = q.alike.depth ∙ ap (λ (x : Stacked S G). length x.stack + 1) same.1;
        failed = q.alike.failed ∙ sym (stopped (choices_of (chosen_by labels) pairs) q.events q.state q.permitted) ∙ ap fails same.0;
      }

  begun : (n : ℕ) (pairs : List (ℕ × ℕ)) → IsRun p pairs → IsRun p (take n pairs)
  begun n pairs r = prefixes p (take n pairs) (drop n pairs) (subst (IsRun p) (sym (take-append-drop n pairs)) r)

  like_begun : (n : ℕ) (pairs : List (ℕ × ℕ)) (events : List Event) (s : Stacked S G) → IsRun p pairs → LeadsTo app beh globals (take n (choices_of (chosen_by labels) pairs)) events s → IsLike (take n pairs) events s
  like_begun n pairs events s r l =
      like (take n pairs) events s (begun n pairs r) (subst (λ cs. LeadsTo app beh globals cs events s) (sym (choices_taken (chosen_by labels) n pairs)) l)

  module _ (e : PlainEncoding) (k : ℕ) (d : Describes e p k) (listed : ReadsListed e labels) (named : AreNamed app.entities labels) where
    lists : (v : Values) → IsModel v e.formula → IsChoiceList app beh globals m (choices_read e labels v)
    lists v model =
        let r = d.runs v model in
        let q = exact.sound (read e v) r.state r.is.is in
        record { events = q.events; state = q.state; leads = record { is = q.permitted }; few = q.few }

    each : (choices : List Choice) → length choices ≤ k → IsChoiceList app beh globals m choices → HasOneList e labels choices
    each choices short l =
        let h = exact.complete choices l.events l.state l.leads.is l.few in
        let n : length h.pairs ≡ length choices = sym (choices_count (chosen_by labels) h.pairs) ∙ ap length h.same in
        let o = d.each h.pairs (omega (arith, n, short)) (record { state = h.state; is = record { is = h.runs } }) in
        record {
          values = o.values;
          model = o.model;
          reads = ap (choices_of (chosen_by labels)) o.reads ∙ h.same;
          only = λ w model reads.
              let r = d.runs w model in
              o.only w model (exact.unique (read e w) h.pairs r.state h.state r.is.is h.runs (reads ∙ sym h.same));
        }

    depth : (v : Values) → IsModel v e.formula → (t : ℕ) → t ≤ k → (events : List Event) (s : Stacked S G) → LeadsTo app beh globals (take t (choices_read e labels v)) events s → (n : ℕ) → row_true v (row_of e.depths t) n ≡ (n == length s.stack)
    depth v model t h events s l n =
        let a = like_begun t (read e v) events s (d.runs v model) l in
        d.depth v model t h a.state a.runs n ∙ ap (λ x. suc n == x) (a.depth ∙ one_more (length s.stack)) ∙ shifted n (length s.stack)
      where
        one_more : (x : ℕ) → x + 1 ≡ suc x
        one_more x = omega arith

    failures : HoldsTurns e labels app beh globals k
    failures =
        record {
          failures = d.failures.failures;
          are =
              record {
                count = d.failures.are.count;
                each = λ v model t h events s l.
                    let a = like_begun (suc t) (read e v) events s (d.runs v model) l in
                    d.failures.are.each v model t h a.state a.runs
                    ∙ ap (λ n. nat_lt t n && a.state.is_failed) (sym (choices_count (chosen_by labels) (read e v)))
                    ∙ ap (λ b. nat_lt t (length (choices_read e labels v)) && b) a.failed;
              };
          same = d.failures.same;
        }

    pub depicted : Depicts e labels app beh globals k m
    depicted =
        record {
          turns = d.turns;
          listed = listed;
          named = named;
          actors = λ v model events s l. let r = d.runs v model in names.acts (read e v) r.state r.is.is events s l.is;
          once = d.once;
          padding = d.padding;
          lists = lists;
          each = each;
          depth = depth;
          some = d.some;
          rises = d.rises;
          failures = failures;
          goal = λ v model events s l.
              let a = like (read e v) events s (d.runs v model) l in
              d.goal v model a.state a.runs ∙ a.failed;
          goal_within = d.goal_within;
          depths_within = d.depths_within;
          alternatives_within = d.alternatives_within;
          inputs_within = d.inputs_within;
        }
