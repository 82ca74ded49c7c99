-- A task that is put back.
use Rattle.std.proofs.Common.{◌≡◌, ℕ, ◌*◌, ◌<◌, ◌≤◌, true, List, ◌∷◌, length, Option, Some, None, refl, sym, ap, subst, ◌∙◌, arith, if◌then◌else◌, ◌==◌}
use Rattle.std.proofs.Math.Path.{fun_ext}
use Rattle.std.proofs.lemmas.Bool.Decides.{nat_tests}
use Rattle.osek_machine.proofs.Queueing.{under, length-tasks_of}
use Rattle.osek_machine.specs.Kept.{Kept, IsKept, state_of, runs_as}
use Rattle.osek_machine.specs.Ready.{entries_at, tasks_of}
use Rattle.osek_machine.specs.Changing.{Changes}
use Rattle.osek_machine.specs.declared.ready.Waiting.{Waiting}
use Rattle.osek_machine.proofs.Laws.{AreFew}
use Rattle.step_ir.specs.Numbers.{times, put}
use Rattle.step_ir.specs.Reschedule.{put_back}
use Rattle.step_ir.specs.SchedulerState.{Preempted}
use Rattle.step_ir.specs.Setting.{highest_level}

-- an entry of a task that was begun
abbrev begun_entry : ℕ → ℕ → Waiting
begun_entry l e = record { level = l; task = e; begun = true }

-- an entry put first is first in the list of its level
entries_back : (ws : List Waiting) (l e : ℕ) → entries_at (begun_entry l e ∷ ws) ≡ put (entries_at ws) l (Preempted e ∷ entries_at ws l)
entries_back ws l e = fun_ext (λ q. grind (arith, nat_tests))

-- while a task runs, there is room for it
pub has_room_back : AreFew → (k : Kept) (e : ℕ) → IsKept k → k.running ≡ Some e → length k.ready < 128
has_room_back law k e inv runs =
    let n = length k.app.tasks in
    let all : length (e ∷ tasks_of k.ready) ≤ n * 8 = law n 8 (e ∷ tasks_of k.ready) (inv.queued.runs e runs, under n k.ready inv.queued.waits) few in
    let same = length-tasks_of k.ready in
    let small = inv.fixed.order.few_entities in
    omega arith
  where
    few : (q : ℕ) → times q (e ∷ tasks_of k.ready) ≤ 8
    few q =
        let a = inv.queued.counts q in
        let b = inv.queued.in_limit q in
        let d : runs_as k.running q ≡ (if e == q then 1 else 0) = ap (λ r. runs_as r q) runs in
        grind (arith, nat_tests)

-- what holds of a machine holds after a task was put back
pub back_kept : (k : Kept) (l e : ℕ) (ready : List Waiting) → ready ≡ begun_entry l e ∷ k.ready → l ≤ highest_level → k.running ≡ Some e → IsKept k → IsKept (record k { ready = ready; running = None })
back_kept k l e ready is low runs inv =
    subst (λ w. IsKept (record k { ready = w; running = None })) (sym is)
    (record {
      fixed = inv.fixed;
      over = inv.over;
      points = inv.points;
      queued =
          record {
            requested = inv.queued.requested;
            in_limit = inv.queued.in_limit;
            runs = λ q h. absurd (let x : ◌≡◌ {A = Option ℕ} None (Some q) = h in cc);
            waits = (inv.queued.runs e runs, low, inv.queued.waits);
            counts = λ q. let a = inv.queued.counts q in let d : runs_as k.running q ≡ (if e == q then 1 else 0) = ap (λ r. runs_as r q) runs in grind (arith, nat_tests);
          };
      held = inv.held;
      active = inv.active;
      sections = inv.sections;
    })

-- putting a task back changes the state as the scheduler's does
pub back_changes : (k old : Kept) (l e : ℕ) (ready : List Waiting) → k ≡ old → ready ≡ begun_entry l e ∷ k.ready → Changes (λ app beh. put_back l e) old (record k { ready = ready; running = None })
back_changes k old l e ready same is =
    subst (λ o. Changes (λ app beh. put_back l e) o (record k { ready = ready; running = None })) same
    (record { state = ap (λ w. record (state_of k) { running = None; ready = w }) (ap entries_at is ∙ entries_back k.ready l e); app = refl; code = refl })
