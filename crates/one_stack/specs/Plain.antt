-- Slots, changes and rules of the code, as those of the definitions.
use Rattle.std.specs.Prelude.{ℕ, false, List, [], ◌∷◌, map, Option, Some, None}
use Rattle.chk_base.specs.Term.{Term, Pick, term_of}
use Rattle.guard_prog.specs.Drafts.{plain_sets}
use Rattle.guard_prog.specs.GuardedRun.{PlainAlternative}
use Rattle.guard_prog.specs.declared.draft.Control.{Control}
use Rattle.guard_prog.specs.declared.draft.Control.TheVariants.{Goto, Push}
use Rattle.one_stack.specs.Rules as rules
use Rattle.one_stack.specs.Rules.{Plan}
use Rattle.one_stack.specs.declared.change.Change.{Change}
use Rattle.one_stack.specs.declared.layout.Slot.{Slot}
use Rattle.one_stack.specs.declared.layout.Slot.TheVariants as of
use Rattle.one_stack.specs.declared.rule.Rule.{Rule}
use Rattle.step_ir.specs.Points.{PlainAction, Read, Write, Local, Call, Return}

-- a slot
abbrev pub slot_of : Slot → rules.Slot
slot_of (of.On x) = rules.On x
slot_of (of.Count t) = rules.Count t
slot_of (of.Waits l i) = rules.Waits l i
slot_of (of.Held r) = rules.Held r
slot_of (of.Kept e i) = rules.Kept e i

-- a change
abbrev pub change_of : Change → rules.Change
change_of c =
    record {
      starts = c.starts;
      leaves = c.leaves;
      asks = c.asks;
      ends = c.ends;
      takes = c.takes;
      puts = c.puts;
      gets = c.gets;
      releases = c.releases;
    }

-- a rule
abbrev pub rule_of : Rule → rules.Rule
rule_of r = rules.plain (term_of r.guard) (plain_sets r.sets) r.control

-- rules
abbrev pub rules_of : List Rule → List rules.Rule
rules_of rs = map rule_of rs

-- the alternative of a rule, where none has held before
abbrev pub alternative_of : ℕ → Term → rules.Rule → PlainAlternative
alternative_of label none r =
    record { label = label; guard = rules.both none r.guard; sets = r.sets; control = r.control; input = r.input }

-- none of these rules holds, nor has one before
abbrev pub none_with : Term → List rules.Rule → Term
none_with none [] = none
none_with none (r ∷ rs) = none_with (rules.both none (rules.negated r.guard)) rs

-- how an entity goes on at this point, under a task that starts where there is one
abbrev pub going : Plan → ℕ → Option ℕ → ℕ → Control
going plan e None n = Goto (plan.number e n)
going plan e (Some t) n = Push (plan.number e n) (plan.number t 0)

-- the sets of an action that is no service
abbrev pub own_sets_of : PlainAction → List (ℕ × Term)
own_sets_of (Read t into) = (into, Pick t.base t.len false (rules.index_term t.index)) ∷ []
own_sets_of (Write t v) = rules.write_sets t.base (rules.index_term t.index) v t.len
own_sets_of (Local q v) = (q, v) ∷ []
own_sets_of (Call f sets) = sets
own_sets_of (Return s) = rules.return_sets s
own_sets_of _ = []
