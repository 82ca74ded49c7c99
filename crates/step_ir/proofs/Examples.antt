-- Examples, computed on both schedulers.
use Rattle.std.specs.Prelude.{◌≡◌, ℕ, true, false, List, [], ◌∷◌, ◌++◌, Some, None, option_map, refl}
use Rattle.application.specs.declared.app.App.{App}
use Rattle.chk_base.specs.declared.expr.BinOp.TheVariants as bin
use Rattle.chk_base.specs.declared.expr.UnOp.TheVariants as un
use Rattle.chk_base.specs.declared.word.Width.TheVariants.{W32}
use Rattle.chk_base.specs.Term.{Const, Bin, Un}
use Rattle.step_ir.proofs.Sample.{entity, task, full, routine, resource, application, point, points_from, load, store, got, equals, program, scheduled, stacked, goes, byte, told, runs}
use Rattle.step_ir.specs.declared.event.Choice.{Choice}
use Rattle.step_ir.specs.declared.event.Choice.TheVariants.{Go, GoWith, Arrive}
use Rattle.step_ir.specs.declared.event.Event.{Event}
use Rattle.step_ir.specs.declared.event.EventAction.TheVariants as Action
use Rattle.step_ir.specs.declared.event.Next.TheVariants.{Idle, Stop}
use Rattle.step_ir.specs.declared.event.Service.TheVariants.{Activate, Terminate, Chain, Schedule, Get, Release, DisableAll, EnableAll}
use Rattle.step_ir.specs.PermittedSchedule.{fails}
use Rattle.step_ir.specs.Points.{Branch, Input, Invoke, Assert, End}
use Rattle.step_ir.specs.PointStep.{Program}
use Rattle.step_ir.specs.Services.{fault, status}
use Rattle.step_ir.specs.Setting.{highest_level}

-- S activates P, Q, P and Z, where P and Q have one level: they start in that order, so 1 becomes 2, 5 and 10
abbrev queue_app : App
queue_app = application (full 2 1 true ∷ full 1 2 false ∷ full 1 1 false ∷ full 0 1 false ∷ []) [] []

abbrev queue_code : Program
queue_code =
    program
    (points_from 0 (Invoke (Activate (entity 1)) ∷ Invoke (Activate (entity 2)) ∷ Invoke (Activate (entity 1)) ∷ Invoke (Activate (entity 3)) ∷ Invoke Terminate ∷ [])
    ∷ points_from 0 (load 1 ∷ store (Bin bin.Mul (got 1) (Const 2)) ∷ Invoke Terminate ∷ [])
    ∷ points_from 0 (load 2 ∷ store (Bin bin.Add (got 2) (Const 3)) ∷ Invoke Terminate ∷ [])
    ∷ points_from 0 (load 3 ∷ Assert (equals (got 3) 10) ∷ Invoke Terminate ∷ [])
    ∷ [])

abbrev queue_events : List Event
queue_events =
    told 0 (Action.Service (Activate (entity 1))) (runs 0)
    ∷ told 0 (Action.Service (Activate (entity 2))) (runs 0)
    ∷ told 0 (Action.Service (Activate (entity 1))) (runs 0)
    ∷ told 0 (Action.Service (Activate (entity 3))) (runs 0)
    ∷ told 0 (Action.Service Terminate) (runs 1)
    ∷ told 1 (Action.Read 0 (byte 1)) (runs 1)
    ∷ told 1 (Action.Write 0 (byte 2)) (runs 1)
    ∷ told 1 (Action.Service Terminate) (runs 2)
    ∷ told 2 (Action.Read 0 (byte 2)) (runs 2)
    ∷ told 2 (Action.Write 0 (byte 5)) (runs 2)
    ∷ told 2 (Action.Service Terminate) (runs 1)
    ∷ told 1 (Action.Read 0 (byte 5)) (runs 1)
    ∷ told 1 (Action.Write 0 (byte 10)) (runs 1)
    ∷ told 1 (Action.Service Terminate) (runs 3)
    ∷ told 3 (Action.Read 0 (byte 10)) (runs 3)
    ∷ told 3 Action.Assert (runs 3)
    ∷ told 3 (Action.Service Terminate) Idle
    ∷ []

pub requests_start_in_order : scheduled queue_app queue_code 1 (goes 17) ≡ Some queue_events
unfolding highest_level
requests_start_in_order = refl

pub requests_start_in_order_stacked : stacked queue_app queue_code 1 (goes 17) ≡ Some queue_events
unfolding highest_level
requests_start_in_order_stacked = refl

-- nothing runs after the last event, so no further one is possible
pub idle_ends : scheduled queue_app queue_code 1 (goes 18) ≡ None
unfolding highest_level
idle_ends = refl

pub idle_ends_stacked : stacked queue_app queue_code 1 (goes 18) ≡ None
unfolding highest_level
idle_ends_stacked = refl

-- L activates B twice, which may have one request, or two
abbrev limit_app : ℕ → App
limit_app n = application (full 2 1 true ∷ full 1 n false ∷ []) [] []

abbrev limit_code : Program
limit_code =
    program
    (points_from 0 (Invoke (Activate (entity 1)) ∷ Invoke (Activate (entity 1)) ∷ Invoke Terminate ∷ [])
    ∷ points_from 0 (Invoke Terminate ∷ [])
    ∷ [])

abbrev limit_events : List Event
limit_events =
    told 0 (Action.Service (Activate (entity 1))) (runs 0)
    ∷ told 0 (Action.Fail (status 4) (Some (Activate (entity 1)))) Stop
    ∷ []

pub request_too_many : scheduled (limit_app 1) limit_code 0 (goes 2) ≡ Some limit_events
unfolding highest_level
request_too_many = refl

pub request_too_many_stacked : stacked (limit_app 1) limit_code 0 (goes 2) ≡ Some limit_events
unfolding highest_level
request_too_many_stacked = refl

pub request_too_many_fails : fails limit_events ≡ true
request_too_many_fails = refl

pub nothing_after_failure : scheduled (limit_app 1) limit_code 0 (goes 3) ≡ None
unfolding highest_level
nothing_after_failure = refl

pub nothing_after_failure_stacked : stacked (limit_app 1) limit_code 0 (goes 3) ≡ None
unfolding highest_level
nothing_after_failure_stacked = refl

pub two_requests_allowed : option_map fails (scheduled (limit_app 2) limit_code 0 (goes 5)) ≡ Some false
unfolding highest_level
two_requests_allowed = refl

pub two_requests_allowed_stacked : option_map fails (stacked (limit_app 2) limit_code 0 (goes 5)) ≡ Some false
unfolding highest_level
two_requests_allowed_stacked = refl

-- L activates itself: its running request counts
abbrev self_code : Program
self_code = program (points_from 0 (Invoke (Activate (entity 0)) ∷ Invoke Terminate ∷ []) ∷ [] ∷ [])

abbrev self_events : List Event
self_events = told 0 (Action.Fail (status 4) (Some (Activate (entity 0)))) Stop ∷ []

pub running_request_counts : scheduled (limit_app 1) self_code 0 (goes 1) ≡ Some self_events
unfolding highest_level
running_request_counts = refl

pub running_request_counts_stacked : stacked (limit_app 1) self_code 0 (goes 1) ≡ Some self_events
unfolding highest_level
running_request_counts_stacked = refl

-- T chains itself, and U, of one level with it, runs before the new request: 1 becomes 11 and then 12
abbrev chain_app : App
chain_app = application (full 1 1 true ∷ full 1 1 true ∷ []) [] []

abbrev chain_code : Program
chain_code =
    program
    ((points_from 0 (load 0 ∷ store (Bin bin.Add (got 0) (Const 1)) ∷ load 0 ∷ [])
    ++ point (Branch (equals (got 0) 1)) ((equals (got 0) 1, 4) ∷ (Const 1, 5) ∷ [])
    ∷ points_from 4 (Invoke (Chain (entity 0)) ∷ load 0 ∷ Assert (equals (got 0) 12) ∷ Invoke Terminate ∷ []))
    ∷ points_from 0 (load 1 ∷ store (Bin bin.Add (got 1) (Const 10)) ∷ Invoke Terminate ∷ [])
    ∷ [])

abbrev chain_events : List Event
chain_events =
    told 0 (Action.Read 0 (byte 0)) (runs 0)
    ∷ told 0 (Action.Write 0 (byte 1)) (runs 0)
    ∷ told 0 (Action.Read 0 (byte 1)) (runs 0)
    ∷ told 0 (Action.Branch true) (runs 0)
    ∷ told 0 (Action.Service (Chain (entity 0))) (runs 1)
    ∷ told 1 (Action.Read 0 (byte 1)) (runs 1)
    ∷ told 1 (Action.Write 0 (byte 11)) (runs 1)
    ∷ told 1 (Action.Service Terminate) (runs 0)
    ∷ told 0 (Action.Read 0 (byte 11)) (runs 0)
    ∷ told 0 (Action.Write 0 (byte 12)) (runs 0)
    ∷ told 0 (Action.Read 0 (byte 12)) (runs 0)
    ∷ told 0 (Action.Branch false) (runs 0)
    ∷ told 0 (Action.Read 0 (byte 12)) (runs 0)
    ∷ told 0 Action.Assert (runs 0)
    ∷ told 0 (Action.Service Terminate) Idle
    ∷ []

pub chained_request_is_last : scheduled chain_app chain_code 0 (goes 15) ≡ Some chain_events
unfolding highest_level
chained_request_is_last = refl

pub chained_request_is_last_stacked : stacked chain_app chain_code 0 (goes 15) ≡ Some chain_events
unfolding highest_level
chained_request_is_last_stacked = refl

-- N, which is not preemptive, lets H run in `Schedule`; it goes on before E, of one level with it, starts
abbrev schedule_app : App
schedule_app = application (task 1 3 true 1 true ∷ full 2 1 false ∷ full 1 1 false ∷ []) [] []

abbrev schedule_code : Program
schedule_code =
    program
    (points_from 0 (Invoke (Activate (entity 1)) ∷ Invoke Schedule ∷ load 0 ∷ Assert (equals (got 0) 0) ∷ Invoke Terminate ∷ [])
    ∷ points_from 0 (Invoke (Activate (entity 2)) ∷ Invoke Terminate ∷ [])
    ∷ points_from 0 (store (Const 1) ∷ Invoke Terminate ∷ [])
    ∷ [])

abbrev schedule_events : List Event
schedule_events =
    told 0 (Action.Service (Activate (entity 1))) (runs 0)
    ∷ told 0 (Action.Service Schedule) (runs 1)
    ∷ told 1 (Action.Service (Activate (entity 2))) (runs 1)
    ∷ told 1 (Action.Service Terminate) (runs 0)
    ∷ told 0 (Action.Read 0 (byte 0)) (runs 0)
    ∷ told 0 Action.Assert (runs 0)
    ∷ told 0 (Action.Service Terminate) (runs 2)
    ∷ told 2 (Action.Write 0 (byte 1)) (runs 2)
    ∷ told 2 (Action.Service Terminate) Idle
    ∷ []

pub preempted_runs_before_equal : scheduled schedule_app schedule_code 0 (goes 9) ≡ Some schedule_events
unfolding highest_level
preempted_runs_before_equal = refl

pub preempted_runs_before_equal_stacked : stacked schedule_app schedule_code 0 (goes 9) ≡ Some schedule_events
unfolding highest_level
preempted_runs_before_equal_stacked = refl

-- I, at level 65, arrives at idle, and J, at level 66, arrives in it and sees its write
abbrev nested_app : App
nested_app = application (full 1 1 false ∷ []) (routine 1 ∷ routine 2 ∷ []) []

abbrev nested_code : Program
nested_code =
    program
    (points_from 0 (Invoke Terminate ∷ [])
    ∷ points_from 0 (store (Const 1) ∷ store (Const 0) ∷ End ∷ [])
    ∷ points_from 0 (load 2 ∷ Assert (equals (got 2) 0) ∷ End ∷ [])
    ∷ [])

abbrev nested_choices : List Choice
nested_choices = Arrive (entity 1) ∷ Go ∷ Arrive (entity 2) ∷ Go ∷ Go ∷ []

abbrev nested_events : List Event
nested_events =
    told 1 Action.Arrive (runs 1)
    ∷ told 1 (Action.Write 0 (byte 1)) (runs 1)
    ∷ told 2 Action.Arrive (runs 2)
    ∷ told 2 (Action.Read 0 (byte 1)) (runs 2)
    ∷ told 2 (Action.Fail (fault 1) None) Stop
    ∷ []

pub routine_interrupts_routine : scheduled nested_app nested_code 0 nested_choices ≡ Some nested_events
unfolding highest_level
routine_interrupts_routine = refl

pub routine_interrupts_routine_stacked : stacked nested_app nested_code 0 nested_choices ≡ Some nested_events
unfolding highest_level
routine_interrupts_routine_stacked = refl

-- a routine doesn't arrive in one of a higher level, nor in itself
pub lower_routine_waits : scheduled nested_app nested_code 0 (Arrive (entity 2) ∷ Arrive (entity 1) ∷ []) ≡ None
unfolding highest_level
lower_routine_waits = refl

pub lower_routine_waits_stacked : stacked nested_app nested_code 0 (Arrive (entity 2) ∷ Arrive (entity 1) ∷ []) ≡ None
unfolding highest_level
lower_routine_waits_stacked = refl

-- T holds a resource of H's level when the routine I activates H, which runs at its release
abbrev ceiling_app : App
ceiling_app = application (full 1 1 true ∷ full 2 1 false ∷ []) (routine 1 ∷ []) (resource 3 ∷ [])

abbrev ceiling_code : Program
ceiling_code =
    program
    (points_from 0 (Invoke (Get 0) ∷ store (Const 1) ∷ store (Const 2) ∷ Invoke (Release 0) ∷ Invoke Terminate ∷ [])
    ∷ points_from 0 (load 1 ∷ Assert (Un un.Not (equals (got 1) 1)) ∷ Invoke Terminate ∷ [])
    ∷ points_from 0 (Invoke (Activate (entity 1)) ∷ End ∷ [])
    ∷ [])

abbrev ceiling_choices : List Choice
ceiling_choices = Go ∷ Go ∷ Arrive (entity 2) ∷ goes 8

abbrev ceiling_events : List Event
ceiling_events =
    told 0 (Action.Service (Get 0)) (runs 0)
    ∷ told 0 (Action.Write 0 (byte 1)) (runs 0)
    ∷ told 2 Action.Arrive (runs 2)
    ∷ told 2 (Action.Service (Activate (entity 1))) (runs 2)
    ∷ told 2 Action.End (runs 0)
    ∷ told 0 (Action.Write 0 (byte 2)) (runs 0)
    ∷ told 0 (Action.Service (Release 0)) (runs 1)
    ∷ told 1 (Action.Read 0 (byte 2)) (runs 1)
    ∷ told 1 Action.Assert (runs 1)
    ∷ told 1 (Action.Service Terminate) (runs 0)
    ∷ told 0 (Action.Service Terminate) Idle
    ∷ []

pub ceiling_delays : scheduled ceiling_app ceiling_code 0 ceiling_choices ≡ Some ceiling_events
unfolding highest_level
ceiling_delays = refl

pub ceiling_delays_stacked : stacked ceiling_app ceiling_code 0 ceiling_choices ≡ Some ceiling_events
unfolding highest_level
ceiling_delays_stacked = refl

-- T opens a section, in which no routine arrives and the scheduler is not taken as a resource
abbrev section_app : App
section_app = application (full 1 1 true ∷ []) (routine 1 ∷ []) []

abbrev section_code : Program
section_code =
    program
    (points_from 0 (Invoke DisableAll ∷ store (Const 1) ∷ Invoke EnableAll ∷ Invoke Terminate ∷ [])
    ∷ points_from 0 (End ∷ [])
    ∷ [])

pub section_delays_arrival : scheduled section_app section_code 0 (Go ∷ Arrive (entity 1) ∷ []) ≡ None
unfolding highest_level
section_delays_arrival = refl

pub section_delays_arrival_stacked : stacked section_app section_code 0 (Go ∷ Arrive (entity 1) ∷ []) ≡ None
unfolding highest_level
section_delays_arrival_stacked = refl

-- after the section the routine may arrive
abbrev after_section : List Choice
after_section = Go ∷ Go ∷ Go ∷ Arrive (entity 1) ∷ Go ∷ Go ∷ []

abbrev section_events : List Event
section_events =
    told 0 (Action.Service DisableAll) (runs 0)
    ∷ told 0 (Action.Write 0 (byte 1)) (runs 0)
    ∷ told 0 (Action.Service EnableAll) (runs 0)
    ∷ told 1 Action.Arrive (runs 1)
    ∷ told 1 Action.End (runs 0)
    ∷ told 0 (Action.Service Terminate) Idle
    ∷ []

pub arrival_after_section : scheduled section_app section_code 0 after_section ≡ Some section_events
unfolding highest_level
arrival_after_section = refl

pub arrival_after_section_stacked : stacked section_app section_code 0 after_section ≡ Some section_events
unfolding highest_level
arrival_after_section_stacked = refl

abbrev taking_code : Program
taking_code = program (points_from 0 (Invoke DisableAll ∷ Invoke (Get 0) ∷ []) ∷ [] ∷ [])

abbrev taking_events : List Event
taking_events =
    told 0 (Action.Service DisableAll) (runs 0)
    ∷ told 0 (Action.Fail (fault 8) (Some (Get 0))) Stop
    ∷ []

pub section_forbids_resource : scheduled section_app taking_code 0 (goes 2) ≡ Some taking_events
unfolding highest_level
section_forbids_resource = refl

pub section_forbids_resource_stacked : stacked section_app taking_code 0 (goes 2) ≡ Some taking_events
unfolding highest_level
section_forbids_resource_stacked = refl

-- A, of level 2 and run level 4, has an internal resource: its `Schedule` lets B of level 3 run, and C of level 3, which B activates, runs before A goes on
abbrev internal_app : App
internal_app = application (task 1 4 false 1 true ∷ full 2 1 false ∷ full 2 1 false ∷ []) [] []

abbrev internal_code : Program
internal_code =
    program
    (points_from 0 (Invoke (Activate (entity 1)) ∷ Invoke Schedule ∷ Invoke (Activate (entity 1)) ∷ Invoke Terminate ∷ [])
    ∷ points_from 0 (Invoke (Activate (entity 2)) ∷ Invoke Terminate ∷ [])
    ∷ points_from 0 (Invoke Terminate ∷ [])
    ∷ [])

abbrev internal_events : List Event
internal_events =
    told 0 (Action.Service (Activate (entity 1))) (runs 0)
    ∷ told 0 (Action.Service Schedule) (runs 1)
    ∷ told 1 (Action.Service (Activate (entity 2))) (runs 1)
    ∷ told 1 (Action.Service Terminate) (runs 2)
    ∷ told 2 (Action.Service Terminate) (runs 0)
    ∷ told 0 (Action.Service (Activate (entity 1))) (runs 0)
    ∷ told 0 (Action.Service Terminate) (runs 1)
    ∷ []

pub schedule_frees_internal_resource : scheduled internal_app internal_code 0 (goes 7) ≡ Some internal_events
unfolding highest_level
schedule_frees_internal_resource = refl

pub schedule_frees_internal_resource_stacked : stacked internal_app internal_code 0 (goes 7) ≡ Some internal_events
unfolding highest_level
schedule_frees_internal_resource_stacked = refl

-- an input takes a word of its width, and nothing else
abbrev input_app : App
input_app = application (full 1 1 true ∷ []) [] []

abbrev input_code : Program
input_code = program (points_from 0 (Input 0 ∷ Invoke Terminate ∷ []) ∷ [])

abbrev input_events : List Event
input_events = told 0 (Action.Input 0 (byte 7)) (runs 0) ∷ told 0 (Action.Service Terminate) Idle ∷ []

pub input_takes_word : scheduled input_app input_code 0 (GoWith (byte 7) ∷ Go ∷ []) ≡ Some input_events
unfolding highest_level
input_takes_word = refl

pub input_takes_word_stacked : stacked input_app input_code 0 (GoWith (byte 7) ∷ Go ∷ []) ≡ Some input_events
unfolding highest_level
input_takes_word_stacked = refl

pub input_takes_its_width : scheduled input_app input_code 0 (GoWith (record { width = W32; bits = 7 }) ∷ []) ≡ None
unfolding highest_level
input_takes_its_width = refl

pub input_needs_word : scheduled input_app input_code 0 (Go ∷ []) ≡ None
unfolding highest_level
input_needs_word = refl

-- a body that ends without `TerminateTask` or `ChainTask` is a failure
pub body_ends_in_failure : scheduled input_app (program (points_from 0 (End ∷ []) ∷ [])) 0 (goes 1) ≡ Some (told 0 (Action.Fail (fault 7) None) Stop ∷ [])
unfolding highest_level
body_ends_in_failure = refl
