-- What is counted in bodies, as far as numbers go.
use Rattle.std.specs.Prelude.{ℕ, zero, suc, ◌+◌, ◌*◌, max, List, [], ◌∷◌, ◌++◌, map, Option, Some, None, slice_get}
use Rattle.typed_unit.specs.declared.typed.TypedEntity.{TypedEntity}
use Rattle.typed_unit.specs.declared.typed.TypedFunction.{TypedFunction}
use Rattle.typed_unit.specs.Plain.{PlainUnit}
use Rattle.lower_law.specs.Counts.{saturated, local_bits, end_points, if_body, entity_points, entity_weight, entity_bits, entity_reads}
use Rattle.lower_law.specs.Translated.{entity_body}
use Rattle.unit_counts.specs.declared.things.ThingSize.{ThingSize}
use Rattle.unit_counts.specs.declared.tally.BodySize.{BodySize}
use Rattle.unit_counts.specs.declared.tally.Tally.{Tally}
use Rattle.unit_counts.specs.Sizes.{block_sizes}

-- the counts of the entity with this number, and none where it has no body
abbrev pub entity_tally : PlainUnit → ℕ → Tally
entity_tally u e =
    record {
      points = saturated (if_body (entity_points u) (entity_body e u.entities));
      weight = saturated (if_body (entity_weight u) (entity_body e u.entities));
      bits = saturated (if_body (entity_bits u) (entity_body e u.entities));
      reads = saturated (if_body (entity_reads u) (entity_body e u.entities));
    }

-- the counts of the first entities
abbrev pub entity_tallies : PlainUnit → ℕ → List Tally
entity_tallies u zero = []
entity_tallies u (suc e) = entity_tallies u e ++ entity_tally u e ∷ []

-- what a body has without those that it calls
abbrev pub function_size : TypedFunction → BodySize
function_size f = record { bits = saturated (local_bits f.locals); ends = end_points f.result; things = block_sizes f.body }

abbrev pub entity_size : TypedEntity → BodySize
entity_size e = record { bits = saturated (local_bits e.locals); ends = 1; things = block_sizes e.body }

abbrev pub tally_or_none : Option Tally → Tally
tally_or_none None = record { points = 0; weight = 0; bits = 0; reads = 0 }
tally_or_none (Some t) = t

-- the counts of the function that is called, if one is
abbrev pub called_tally : List Tally → Option ℕ → Tally
called_tally calls None = tally_or_none None
called_tally calls (Some f) = tally_or_none (slice_get calls f)

-- with a thing and what it calls
abbrev pub with_thing : List Tally → Tally → ThingSize → Tally
with_thing calls t x =
    let c = called_tally calls x.calls in
    record {
      points = saturated (t.points + (1 + x.reads + c.points));
      weight = saturated (t.weight + (x.weight + c.weight));
      bits = saturated (t.bits + c.bits);
      reads = max t.reads (max x.reads c.reads);
    }

abbrev pub with_things : List Tally → Tally → List ThingSize → Tally
with_things calls t [] = t
with_things calls t (x ∷ xs) = with_things calls (with_thing calls t x) xs

-- the counts of a body, where those of the functions are known
abbrev pub tally_of : List Tally → BodySize → Tally
tally_of calls b = with_things calls (record { points = b.ends; weight = 0; bits = b.bits; reads = 0 }) b.things

-- the counts of functions in which calls nest less than so deep
abbrev pub tallies_to : List BodySize → ℕ → List Tally
tallies_to sizes zero = []
tallies_to sizes (suc d) = map (tally_of (tallies_to sizes d)) sizes

-- an entity's weight has its points in it, and its bits a cell for each value that one thing reads
abbrev pub completed : Tally → Tally
completed t =
    record {
      points = t.points;
      weight = saturated (t.points + t.weight);
      bits = saturated (t.bits + 32 * t.reads);
      reads = t.reads;
    }
