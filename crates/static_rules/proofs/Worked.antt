-- The rules on small units, computed.
use Rattle.std.proofs.Common.{◌≡◌, ℕ, true, false, [], ◌∷◌, Some, None, refl}
use Rattle.chk_base.specs.declared.place.Place.{Place}
use Rattle.application.specs.declared.app.App.{App}
use Rattle.application.specs.declared.app.Class.TheVariants.{Bcc1}
use Rattle.application.specs.declared.app.Task.{Task}
use Rattle.c_unit.specs.declared.unit.EntityKind.TheVariants as kinds
use Rattle.c_rules.specs.declared.first.Fault.{Fault}
use Rattle.typed_unit.specs.Plain.{PlainBlock, PlainEntity, PlainFunction, PlainUnit, block}
use Rattle.typed_unit.specs.Plain as p
use Rattle.step_ir.specs.declared.event.Service.TheVariants as services
use Rattle.static_rules.specs.declared.site.Site.{Site}
use Rattle.static_rules.specs.declared.site.Site.TheVariants as sites
use Rattle.static_rules.specs.Chains.{called_after, reaches}
use Rattle.static_rules.specs.Rules.{call_faults, returning_faults, recursion_faults, use_faults, all_use_faults, reached_faults, late_faults, chain_faults, size_faults, body_faults, body_resource_faults, resource_faults, calling_faults, faults}

at : ℕ → Place
at n = record { line = 1; column = n; offset = n }

fault : ℕ → ℕ → Fault
fault rule n = record { rule = rule; place = at n }

call : ℕ → ℕ → Site
call g n = sites.Call g (at n)

-- a function that calls itself
itself : recursion_faults ((call 0 12 ∷ []) ∷ []) ≡ fault 6 12 ∷ []
unfolding at fault call recursion_faults returning_faults call_faults reaches called_after
itself = refl

-- two that call each other, and one that calls the first
each_other : recursion_faults ((call 1 30 ∷ []) ∷ (call 0 20 ∷ []) ∷ (call 0 10 ∷ []) ∷ []) ≡ fault 6 20 ∷ fault 6 30 ∷ []
unfolding at fault call recursion_faults returning_faults call_faults reaches called_after
each_other = refl

-- a chain that ends
ending : recursion_faults ((call 1 30 ∷ []) ∷ (call 2 20 ∷ []) ∷ [] ∷ []) ≡ []
unfolding at fault call recursion_faults returning_faults call_faults reaches called_after
ending = refl

-- the seventeenth call, where the sixteenth is of this function
seventeenth : chain_faults ((call 0 5 ∷ []) ∷ []) (call 0 1 ∷ []) ≡ fault 11 5 ∷ []
unfolding at fault call chain_faults late_faults called_after
seventeenth = refl

-- a task that declares the resource with the number 0, an internal one with the number 1, another one, and no scheduler as a resource
task : Task
task =
    record {
      name = 84 ∷ [];
      priority = 1;
      level = 2;
      run_level = 2;
      non_preemptive = false;
      requests = 1;
      autostart = true;
      declares = 0 ∷ [];
      internal = None;
    }

app : App
app =
    record {
      tasks = task ∷ [];
      routines = [];
      resources =
          record { name = 83 ∷ []; internal = false; ceiling = 2 }
          ∷ record { name = 73 ∷ []; internal = true; ceiling = 0 }
          ∷ record { name = 79 ∷ []; internal = false; ceiling = 0 }
          ∷ [];
      res_scheduler = false;
      class = Bcc1;
      mode = 77 ∷ [];
      notes = [];
    }

get : ℕ → ℕ → p.PlainStatement
get r n = p.Serve (at 0) (services.Get r) (Some (at n))

-- a function with this body, and the body of the task
unit : PlainBlock → PlainBlock → PlainUnit
unit f t =
    record {
      globals = [];
      functions = record { name = record { text = 102 ∷ []; place = at 1 }; result = None; params = 0; locals = []; body = f; close = at 0 } ∷ [];
      entities = record { kind = kinds.Task; name = record { text = 84 ∷ []; place = at 2 }; entity = Some (record { 0 = 0 }); locals = []; body = t; close = at 0 } ∷ [];
      end = at 99;
    }

-- what is declared is taken
declared : faults (unit (block (get 0 10 ∷ [])) (block (p.Call (at 3) (at 3) 0 [] None ∷ []))) app ≡ []
unfolding at task app get unit faults calling_faults recursion_faults returning_faults call_faults chain_faults late_faults resource_faults body_resource_faults all_use_faults use_faults reached_faults body_faults size_faults reaches called_after
declared = refl

-- what isn't declared is reached by a call
undeclared : faults (unit (block (get 2 10 ∷ [])) (block (p.Call (at 3) (at 3) 0 [] None ∷ []))) app ≡ fault 8 10 ∷ []
unfolding at fault task app get unit faults calling_faults recursion_faults returning_faults call_faults chain_faults late_faults resource_faults body_resource_faults all_use_faults use_faults reached_faults body_faults size_faults reaches called_after
undeclared = refl

-- an internal resource, and the scheduler, in a function that nothing reaches
unreached : faults (unit (block (get 1 10 ∷ get 3 11 ∷ [])) (block [])) app ≡ fault 7 10 ∷ fault 10 11 ∷ []
unfolding at fault task app get unit faults calling_faults recursion_faults returning_faults call_faults chain_faults late_faults resource_faults body_resource_faults all_use_faults use_faults reached_faults body_faults size_faults reaches called_after
unreached = refl

-- a function that calls itself, before the task
before_the_task : faults (unit (block (p.Call (at 11) (at 12) 0 [] None ∷ [])) (block [])) app ≡ fault 6 12 ∷ []
unfolding at fault task app get unit faults calling_faults recursion_faults returning_faults call_faults chain_faults late_faults resource_faults body_resource_faults all_use_faults use_faults reached_faults body_faults size_faults reaches called_after
before_the_task = refl
