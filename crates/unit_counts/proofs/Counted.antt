-- The tables hold what is counted, as far as numbers go.
use Rattle.std.proofs.Common.{◌≡◌, ℕ, zero, suc, ◌+◌, ◌≤◌, max, List, [], ◌∷◌, map, Option, Some, None, option_map, slice_get, refl, sym, ap, ◌∙◌, arith}
use Rattle.std.proofs.lemmas.Option.{slice_get-map}
use Rattle.typed_unit.specs.declared.typed.TypedFunction.{TypedFunction}
use Rattle.typed_unit.specs.declared.typed.CType.{CType}
use Rattle.typed_unit.specs.Plain.{PlainUnit}
use Rattle.typed_unit.specs.Views.{block_of, function_of}
use Rattle.lower_law.specs.Counts.{Thing, saturated, reads_all, weight_all, things_in, called, points_of, weight_of, call_bits, most_reads, end_points, local_bits, if_function, function_points, function_weight, function_bits, function_reads}
use Rattle.unit_counts.specs.declared.tally.Tally.{Tally}
use Rattle.unit_counts.specs.Sizes.{size_of, sizes_of}
use Rattle.unit_counts.specs.Tallies.{called_tally, tally_or_none, with_thing, with_things, tally_of, tallies_to, function_size}

-- a table holds the counts of functions
pub record Holds (calls : List Tally) (points weight bits reads : ℕ → ℕ) : Type 0 where
  pub points_at : (f : ℕ) → (tally_or_none (slice_get calls f)).points ≡ saturated (points f)
  pub weight_at : (f : ℕ) → (tally_or_none (slice_get calls f)).weight ≡ saturated (weight f)
  pub bits_at : (f : ℕ) → (tally_or_none (slice_get calls f)).bits ≡ saturated (bits f)
  pub reads_at : (f : ℕ) → (tally_or_none (slice_get calls f)).reads ≡ saturated (reads f)

-- each count of things is that of their bodies
module _ (calls : List Tally) (count : ℕ → ℕ) where
  points_called : ((f : ℕ) → (tally_or_none (slice_get calls f)).points ≡ saturated (count f)) → (o : Option ℕ) → (called_tally calls o).points ≡ saturated (called count o)
  points_called h None = refl
  points_called h (Some f) = h f

  weight_called : ((f : ℕ) → (tally_or_none (slice_get calls f)).weight ≡ saturated (count f)) → (o : Option ℕ) → (called_tally calls o).weight ≡ saturated (called count o)
  weight_called h None = refl
  weight_called h (Some f) = h f

  bits_called : ((f : ℕ) → (tally_or_none (slice_get calls f)).bits ≡ saturated (count f)) → (o : Option ℕ) → (called_tally calls o).bits ≡ saturated (called count o)
  bits_called h None = refl
  bits_called h (Some f) = h f

  reads_called : ((f : ℕ) → (tally_or_none (slice_get calls f)).reads ≡ saturated (count f)) → (o : Option ℕ) → (called_tally calls o).reads ≡ saturated (called count o)
  reads_called h None = refl
  reads_called h (Some f) = h f

  pub points_things : ((f : ℕ) → (tally_or_none (slice_get calls f)).points ≡ saturated (count f)) → (t : Tally) → (n : ℕ) → t.points ≡ saturated n → (xs : List Thing) → (with_things calls t (sizes_of xs)).points ≡ saturated (n + points_of count xs)
  points_things h t n e [] = omega (arith, e)
  points_things h t n e (x ∷ xs) =
      let c = points_called h x.calls in
      let i = points_things h (with_thing calls t (size_of x)) (n + (1 + reads_all x.asks + called count x.calls)) (next_points t.points n (reads_all x.asks) (called_tally calls x.calls).points (called count x.calls) e c) xs in
      i ∙ ap saturated (omega arith)
    where
      next_points : (p n r c k : ℕ) → p ≡ saturated n → c ≡ saturated k → saturated (p + (1 + saturated r + c)) ≡ saturated (n + (1 + r + k))
      next_points p n r c k e f = omega arith

  pub weight_things : ((f : ℕ) → (tally_or_none (slice_get calls f)).weight ≡ saturated (count f)) → (t : Tally) → (n : ℕ) → t.weight ≡ saturated n → (xs : List Thing) → (with_things calls t (sizes_of xs)).weight ≡ saturated (n + weight_of count xs)
  weight_things h t n e [] = omega (arith, e)
  weight_things h t n e (x ∷ xs) =
      let c = weight_called h x.calls in
      let i = weight_things h (with_thing calls t (size_of x)) (n + ((weight_all x.asks + x.target) + called count x.calls)) (next_weight t.weight n (weight_all x.asks + x.target) (called_tally calls x.calls).weight (called count x.calls) e c) xs in
      i ∙ ap saturated (omega arith)
    where
      next_weight : (p n r c k : ℕ) → p ≡ saturated n → c ≡ saturated k → saturated (p + (saturated r + c)) ≡ saturated (n + (r + k))
      next_weight p n r c k e f = omega arith

  pub bits_things : ((f : ℕ) → (tally_or_none (slice_get calls f)).bits ≡ saturated (count f)) → (t : Tally) → (n : ℕ) → t.bits ≡ saturated n → (xs : List Thing) → (with_things calls t (sizes_of xs)).bits ≡ saturated (n + call_bits count xs)
  bits_things h t n e [] = omega (arith, e)
  bits_things h t n e (x ∷ xs) =
      let c = bits_called h x.calls in
      let i = bits_things h (with_thing calls t (size_of x)) (n + called count x.calls) (next_bits t.bits n (called_tally calls x.calls).bits (called count x.calls) e c) xs in
      i ∙ ap saturated (omega arith)
    where
      next_bits : (p n c k : ℕ) → p ≡ saturated n → c ≡ saturated k → saturated (p + c) ≡ saturated (n + k)
      next_bits p n c k e f = omega arith

  pub reads_things : ((f : ℕ) → (tally_or_none (slice_get calls f)).reads ≡ saturated (count f)) → (t : Tally) → (n : ℕ) → t.reads ≡ saturated n → (xs : List Thing) → (with_things calls t (sizes_of xs)).reads ≡ saturated (max n (most_reads count xs))
  reads_things h t n e [] = e ∙ ap saturated (least n)
    where
      least : (n : ℕ) → n ≡ max n 0
      least n = omega arith
  reads_things h t n e (x ∷ xs) =
      let c = reads_called h x.calls in
      let i = reads_things h (with_thing calls t (size_of x)) (max n (max (reads_all x.asks) (called count x.calls))) (next_reads t.reads n (reads_all x.asks) (called_tally calls x.calls).reads (called count x.calls) e c) xs in
      i ∙ ap saturated (regroup n (max (reads_all x.asks) (called count x.calls)) (most_reads count xs))
    where
      two : (a b : ℕ) → max (saturated a) (saturated b) ≡ saturated (max a b)
      two a b = omega arith

      next_reads : (p n r c k : ℕ) → p ≡ saturated n → c ≡ saturated k → max p (max (saturated r) c) ≡ saturated (max n (max r k))
      next_reads p n r c k e f = ap (λ q. max q (max (saturated r) c)) e ∙ (ap (λ q. max (saturated n) (max (saturated r) q)) f ∙ (ap (max (saturated n)) (two r k) ∙ two n (max r k)))

      regroup : (a b c : ℕ) → max (max a b) c ≡ max a (max b c)
      regroup a b c = omega arith

-- the counts of a body, where those of the functions are known
pub record Counted (t : Tally) (points weight bits reads : ℕ) : Type 0 where
  pub points_is : t.points ≡ saturated points
  pub weight_is : t.weight ≡ saturated weight
  pub bits_is : t.bits ≡ saturated bits
  pub reads_is : t.reads ≡ saturated reads

pub body_counted : (calls : List Tally) (points weight bits reads : ℕ → ℕ) → Holds calls points weight bits reads → (own ends : ℕ) → ends ≤ 1 → (xs : List Thing)
    → Counted (tally_of calls (record { bits = saturated own; ends = ends; things = sizes_of xs })) (points_of points xs + ends) (weight_of weight xs) (own + call_bits bits xs) (most_reads reads xs)
body_counted calls points weight bits reads h own ends few xs =
    let t : Tally = record { points = ends; weight = 0; bits = saturated own; reads = 0 } in
    record {
      points_is = points_things calls points h.points_at t ends (omega arith) xs ∙ ap saturated (omega arith);
      weight_is = weight_things calls weight h.weight_at t 0 refl xs ∙ ap saturated (omega arith);
      bits_is = bits_things calls bits h.bits_at t own refl xs;
      reads_is = reads_things calls reads h.reads_at t 0 refl xs ∙ ap saturated (none (most_reads reads xs));
    }
  where
    none : (n : ℕ) → max 0 n ≡ n
    none n = omega arith

few_ends : (r : Option CType) → end_points r ≤ 1
few_ends None = omega arith
few_ends (Some t) = omega arith

-- the table of a level
module _ (u : PlainUnit) (fs : List TypedFunction) where
  -- a function there is, or none
  level_one : (d : ℕ) (calls : List Tally) → Holds calls (function_points u d) (function_weight u d) (function_bits u d) (function_reads u d) → (o : Option TypedFunction)
      → Counted (tally_or_none (option_map (tally_of calls) (option_map function_size o)))
      (if_function (λ x. points_of (function_points u d) (things_in x.body) + end_points x.result) (option_map function_of o))
      (if_function (λ x. weight_of (function_weight u d) (things_in x.body)) (option_map function_of o))
      (if_function (λ x. local_bits x.locals + call_bits (function_bits u d) (things_in x.body)) (option_map function_of o))
      (if_function (λ x. most_reads (function_reads u d) (things_in x.body)) (option_map function_of o))
  level_one d calls h None = record { points_is = refl; weight_is = refl; bits_is = refl; reads_is = refl }
  level_one d calls h (Some x) =
      body_counted calls (function_points u d) (function_weight u d) (function_bits u d) (function_reads u d) h (local_bits x.locals) (end_points x.result) (few_ends x.result) (things_in (block_of x.body))

  level_next : u.functions ≡ map function_of fs → (d : ℕ) (calls : List Tally) → Holds calls (function_points u d) (function_weight u d) (function_bits u d) (function_reads u d)
      → Holds (map (tally_of calls) (map function_size fs)) (function_points u (suc d)) (function_weight u (suc d)) (function_bits u (suc d)) (function_reads u (suc d))
  level_next same d calls h =
      record {
        points_at = λ f. ap (λ o. (tally_or_none o).points) (here f) ∙ ((level_one d calls h (slice_get fs f)).points_is ∙ ap (λ o. saturated (if_function (λ x. points_of (function_points u d) (things_in x.body) + end_points x.result) o)) (there f));
        weight_at = λ f. ap (λ o. (tally_or_none o).weight) (here f) ∙ ((level_one d calls h (slice_get fs f)).weight_is ∙ ap (λ o. saturated (if_function (λ x. weight_of (function_weight u d) (things_in x.body)) o)) (there f));
        bits_at = λ f. ap (λ o. (tally_or_none o).bits) (here f) ∙ ((level_one d calls h (slice_get fs f)).bits_is ∙ ap (λ o. saturated (if_function (λ x. local_bits x.locals + call_bits (function_bits u d) (things_in x.body)) o)) (there f));
        reads_at = λ f. ap (λ o. (tally_or_none o).reads) (here f) ∙ ((level_one d calls h (slice_get fs f)).reads_is ∙ ap (λ o. saturated (if_function (λ x. most_reads (function_reads u d) (things_in x.body)) o)) (there f));
      }
    where
      here : (f : ℕ) → slice_get (map (tally_of calls) (map function_size fs)) f ≡ option_map (tally_of calls) (option_map function_size (slice_get fs f))
      here f = slice_get-map (tally_of calls) (map function_size fs) f ∙ ap (option_map (tally_of calls)) (slice_get-map function_size fs f)

      there : (f : ℕ) → option_map function_of (slice_get fs f) ≡ slice_get u.functions f
      there f = sym (ap (λ xs. slice_get xs f) same ∙ slice_get-map function_of fs f)

  pub level_holds : u.functions ≡ map function_of fs → (d : ℕ) → Holds (tallies_to (map function_size fs) d) (function_points u d) (function_weight u d) (function_bits u d) (function_reads u d)
  level_holds same zero = record { points_at = λ f. refl; weight_at = λ f. refl; bits_at = λ f. refl; reads_at = λ f. refl }
  level_holds same (suc d) = level_next same d (tallies_to (map function_size fs) d) (level_holds same d)
