-- The counts of a unit, part by part.
use Rattle.std.proofs.Common.{◌≡◌, ℕ, zero, suc, ◌+◌, ◌*◌, ◌<◌, List, [], ◌∷◌, ◌++◌, Some, None, if◌then◌else◌, length, get_or, drop, map, refl, ap, ◌∙◌, arith}
use Rattle.std.proofs.lemmas.List.{drop_more}
use Rattle.chk_base.specs.Widths.{bits_of}
use Rattle.typed_unit.specs.declared.typed.GlobalVar.{GlobalVar}
use Rattle.typed_unit.specs.declared.typed.TypedEntity.{TypedEntity}
use Rattle.typed_unit.specs.declared.typed.TypedFunction.{TypedFunction}
use Rattle.typed_unit.specs.declared.typed.TypedUnit.{TypedUnit}
use Rattle.typed_unit.specs.Plain.{PlainUnit}
use Rattle.typed_unit.specs.Views.{block_of, function_of, entity_of, unit_of}
use Rattle.lower_law.specs.Counts.{saturated, call_depth, things_in, points_of, weight_of, call_bits, most_reads, local_bits, function_points, function_weight, function_bits, function_reads, entity_points, entity_weight, entity_bits, entity_reads, sum_of, global_bits, if_body, sum_below, point_total, bit_total, weight_total}
use Rattle.lower_law.specs.Translated.{elements, entity_body, is_entity}
use Rattle.unit_counts.specs.declared.tally.Tally.{Tally}
use Rattle.unit_counts.specs.Tallies.{tally_or_none, tally_of, tallies_to, completed, function_size, entity_size, entity_tally, entity_tallies}
use Rattle.unit_counts.proofs.Counted.{Counted, body_counted, level_holds}
use Rattle.unit_counts.proofs.Saturation.{sum_more}

-- one more body
pub body_more : (number : ℕ) (es : List TypedEntity) (i : ℕ) (d : TypedEntity) → i < length es
    → entity_body number (map entity_of (drop i es))
    ≡ (if is_entity number (get_or es i d).entity then Some (entity_of (get_or es i d)) else entity_body number (map entity_of (drop (i + 1) es)))
body_more number es i d within = ap (λ xs. entity_body number (map entity_of xs)) (drop_more es i d within)

-- one more variable
pub global_more : (sum : ℕ) (gs : List GlobalVar) (i : ℕ) (d : GlobalVar) → i < length gs
    → saturated (sum + sum_of global_bits (drop i gs))
    ≡ saturated (saturated (sum + saturated (elements (get_or gs i d).len * bits_of (get_or gs i d).ctype.width)) + sum_of global_bits (drop (i + 1) gs))
global_more sum gs i d within =
    ap (λ xs. saturated (sum + sum_of global_bits xs)) (drop_more gs i d within)
    ∙ sum_more sum (elements (get_or gs i d).len * bits_of (get_or gs i d).ctype.width) (sum_of global_bits (drop (i + 1) gs))

-- the counts of an entity with a body
completed_is : (t : Tally) (p w b r : ℕ) → Counted t (p + 1) w b r
    → completed t ≡ record { points = saturated (p + 1); weight = saturated (p + 1 + w); bits = saturated (b + 32 * r); reads = saturated r }
completed_is t p w b r h =
    same _ _ _ _ _ _ _ _ h.points_is (two t.points (p + 1) t.weight w h.points_is h.weight_is) (many t.bits b t.reads r h.bits_is h.reads_is) h.reads_is
  where
    same : (a b c d e f g h : ℕ) → a ≡ e → b ≡ f → c ≡ g → d ≡ h
        → (let x : Tally = record { points = a; weight = b; bits = c; reads = d } in x) ≡ record { points = e; weight = f; bits = g; reads = h }
    same a b c d e f g h p q r s =
        ap (λ z. record { points = z; weight = b; bits = c; reads = d }) p
        ∙ (ap (λ z. record { points = e; weight = z; bits = c; reads = d }) q
        ∙ (ap (λ z. record { points = e; weight = f; bits = z; reads = d }) r
        ∙ ap (λ z. record { points = e; weight = f; bits = g; reads = z }) s))

    two : (x a y b : ℕ) → x ≡ saturated a → y ≡ saturated b → saturated (x + y) ≡ saturated (a + b)
    two x a y b p q = omega arith

    many : (x a y b : ℕ) → x ≡ saturated a → y ≡ saturated b → saturated (x + 32 * y) ≡ saturated (a + 32 * b)
    many x a y b p q = omega arith

entity_with : (u : PlainUnit) (fs : List TypedFunction) → u.functions ≡ map function_of fs → (e : TypedEntity)
    → completed (tally_of (tallies_to (map function_size fs) call_depth) (entity_size e))
    ≡ record { points = saturated (entity_points u (entity_of e)); weight = saturated (entity_weight u (entity_of e)); bits = saturated (entity_bits u (entity_of e)); reads = saturated (entity_reads u (entity_of e)) }
entity_with u fs same e =
    completed_is (tally_of (tallies_to (map function_size fs) call_depth) (entity_size e))
    (points_of (function_points u call_depth) (things_in (block_of e.body)))
    (weight_of (function_weight u call_depth) (things_in (block_of e.body)))
    (local_bits e.locals + call_bits (function_bits u call_depth) (things_in (block_of e.body)))
    (most_reads (function_reads u call_depth) (things_in (block_of e.body)))
    (body_counted (tallies_to (map function_size fs) call_depth) (function_points u call_depth) (function_weight u call_depth) (function_bits u call_depth) (function_reads u call_depth) (level_holds u fs same call_depth) (local_bits e.locals) 1 (omega arith) (things_in (block_of e.body)))

-- the counts of an entity, with its body or without
pub entity_counted : (unit : TypedUnit) (number : ℕ) (b : TypedEntity) → Some (entity_of b) ≡ entity_body number (unit_of unit).entities
    → completed (tally_of (tallies_to (map function_size unit.functions) call_depth) (entity_size b)) ≡ entity_tally (unit_of unit) number
entity_counted unit number b h =
    entity_with (unit_of unit) unit.functions refl b
    ∙ ap (λ o. record { points = saturated (if_body (entity_points (unit_of unit)) o); weight = saturated (if_body (entity_weight (unit_of unit)) o); bits = saturated (if_body (entity_bits (unit_of unit)) o); reads = saturated (if_body (entity_reads (unit_of unit)) o) }) h

pub entity_missing : (unit : TypedUnit) (number : ℕ) → None ≡ entity_body number (unit_of unit).entities → tally_or_none None ≡ entity_tally (unit_of unit) number
entity_missing unit number h =
    ap (λ o. record { points = saturated (if_body (entity_points (unit_of unit)) o); weight = saturated (if_body (entity_weight (unit_of unit)) o); bits = saturated (if_body (entity_bits (unit_of unit)) o); reads = saturated (if_body (entity_reads (unit_of unit)) o) }) h

-- a sum over two lists
sum_join : {A : Type 0} (count : A → ℕ) (xs ys : List A) → sum_of count (xs ++ ys) ≡ sum_of count xs + sum_of count ys
sum_join count [] ys = omega arith
sum_join count (x ∷ xs) ys = let h = sum_join count xs ys in omega arith

last : (a b c : ℕ) → saturated a ≡ saturated b → saturated (a + (saturated c + 0)) ≡ saturated (b + c)
last a b c h = omega arith

-- the sums of the counts of entities
pub points_sum : (u : PlainUnit) (n : ℕ) → saturated (sum_of (λ t. t.points) (entity_tallies u n)) ≡ saturated (point_total u n)
points_sum u zero = refl
points_sum u (suc n) =
    ap saturated (sum_join (λ t. t.points) (entity_tallies u n) (entity_tally u n ∷ []))
    ∙ last (sum_of (λ t. t.points) (entity_tallies u n)) (point_total u n) (if_body (entity_points u) (entity_body n u.entities)) (points_sum u n)

pub weight_sum : (u : PlainUnit) (n : ℕ) → saturated (sum_of (λ t. t.weight) (entity_tallies u n)) ≡ saturated (weight_total u n)
weight_sum u zero = refl
weight_sum u (suc n) =
    ap saturated (sum_join (λ t. t.weight) (entity_tallies u n) (entity_tally u n ∷ []))
    ∙ last (sum_of (λ t. t.weight) (entity_tallies u n)) (weight_total u n) (if_body (entity_weight u) (entity_body n u.entities)) (weight_sum u n)

pub bits_sum : (u : PlainUnit) (n : ℕ) → saturated (saturated (sum_of global_bits u.globals) + saturated (sum_of (λ t. t.bits) (entity_tallies u n))) ≡ saturated (bit_total u n)
bits_sum u n = let h = below n in omega arith where
  below : (n : ℕ) → saturated (sum_of (λ t. t.bits) (entity_tallies u n)) ≡ saturated (sum_below u (entity_bits u) n)
  below zero = refl
  below (suc n) =
      ap saturated (sum_join (λ t. t.bits) (entity_tallies u n) (entity_tally u n ∷ []))
      ∙ last (sum_of (λ t. t.bits) (entity_tallies u n)) (sum_below u (entity_bits u) n) (if_body (entity_bits u) (entity_body n u.entities)) (below n)
