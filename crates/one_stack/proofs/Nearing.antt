-- The points of a code of the form are near, and what the labels of a program stand for.
use Rattle.std.proofs.Common.{◌≡◌, ◌∙◌, ℕ, zero, suc, ◌+◌, ◌-◌, ◌*◌, ◌%◌, ◌<◌, ◌≤◌, ◌^◌, max, Bool, true, false, ◌&&◌, ◌==◌, nat_le, nat_lt, List, [], ◌∷◌, length, map, Option, Some, None, slice_get, refl, sym, ap, subst, arith, mul_comm}
use Rattle.std.proofs.lemmas.Bool.{and_parts}
use Rattle.std.proofs.lemmas.Bool.Decides.{nat_tests}
use Rattle.std.proofs.lemmas.List.{length-map}
use Rattle.std.proofs.lemmas.Nat.{mod-mul-add}
use Rattle.std.proofs.lemmas.Option.{slice_get-get_or, slice_get_past}
use Rattle.std.specs.List.{list_all}
use mathlib.Core.Path.{fun_ext}
use Rattle.application.specs.declared.app.App.{App}
use Rattle.chk_base.specs.Term.{Term}
use Rattle.guard_prog.specs.declared.draft.Alternative.{Alternative}
use Rattle.guard_prog.specs.declared.draft.Draft.{Draft}
use Rattle.guard_prog.specs.WellShaped.{IsWellShaped, starts_fit}
use Rattle.one_stack.specs.Built.{go_alone, plan_of, table}
use Rattle.one_stack.specs.declared.label.Label.{Label}
use Rattle.one_stack.specs.Labelled.{AreActors, IsActor, IsTaken, TakesWord, chosen, chosen_by, label_at, labels_of, most_of}
use Rattle.one_stack.specs.Near.{AreAllNear, AreNear, IsWriteNear}
use Rattle.one_stack.specs.PlainCode.{PlainCode}
use Rattle.one_stack.specs.TaskForm.{is_form_action, is_form_entity, is_form_point, is_task_form}
use Rattle.one_stack.proofs.Exact.{AreOf, IsOf}
use Rattle.one_stack.proofs.Tabling.{get_or-table, length-table}
use Rattle.step_ir.specs.declared.code.Code.{Code}
use Rattle.step_ir.specs.declared.code.EntityCode.{EntityCode}
use Rattle.step_ir.specs.declared.code.Point.{Point}
use Rattle.step_ir.specs.declared.event.Choice.TheVariants.{Go}
use Rattle.step_ir.specs.declared.event.Event.{Event}
use Rattle.step_ir.specs.Fits.{AreNextsFit, Fits, IsActionFit, bit_count, point_count}
use Rattle.step_ir.specs.Points.{PlainAction, Read, Write, Local, Branch, Input, Call, Return, Invoke, Assert, End, PlainPoint, cells_of, item_of, plain_action, plain_of, points_in, points_of}
use Rattle.step_ir.specs.Setting.{Setting}

few_nexts : (ps : List Point) (i : ℕ) (p : PlainPoint) → list_all is_form_point ps ≡ true → slice_get (map plain_of ps) i ≡ Some p → length p.nexts ≤ 2048
few_nexts [] i p all is = cc
few_nexts (x ∷ xs) zero p all is =
    let form = (and_parts (is_form_point x) (list_all is_form_point xs) all).0 in
    let few = (and_parts (is_form_action (plain_action x.action)) (nat_le (length x.next) 2048) form).1 in
    let same : plain_of x ≡ p = cc in
    grind (arith, nat_tests, few, length-map x.next item_of, ap (λ (q : PlainPoint). length q.nexts) same)
few_nexts (x ∷ xs) (suc i) p all is = few_nexts xs i p (and_parts (is_form_point x) (list_all is_form_point xs) all).1 is

few_of : (es : List EntityCode) (e i : ℕ) (p : PlainPoint) → list_all is_form_entity es ≡ true → slice_get (map plain_of (points_of (slice_get es e))) i ≡ Some p → length p.nexts ≤ 2048
few_of [] e i p all is = cc
few_of (x ∷ xs) zero i p all is = few_nexts x.points i p (and_parts (is_form_entity x) (list_all is_form_entity xs) all).0 is
few_of (x ∷ xs) (suc e) i p all is = few_of xs e i p (and_parts (is_form_entity x) (list_all is_form_entity xs) all).1 is

-- an entity has at most the points of all
count_of : (es : List EntityCode) (e : ℕ) → length (map plain_of (points_of (slice_get es e))) ≤ point_count es
count_of [] e = omega arith
count_of (x ∷ xs) zero = omega (arith, length-map x.points plain_of)
count_of (x ∷ xs) (suc e) = omega (arith, count_of xs e)

nexts_near : (code : Code) (e : ℕ) (nexts : List (Term × ℕ)) → length (points_in code e) ≤ 2048 → AreNextsFit code e nexts → AreNear nexts
nexts_near code e [] few fit = tt
nexts_near code e (x ∷ xs) few fit = (omega (arith, fit.1, few), nexts_near code e xs few fit.2)

write_near : (app : App) (code : Code) (e : ℕ) (action : PlainAction) → length code.globals ≤ 8192 → IsActionFit code e app action → IsWriteNear action
write_near app code e (Read t into) few fit = tt
write_near app code e (Write t v) few fit = omega (arith, fit.0.globals, few)
write_near app code e (Local q v) few fit = tt
write_near app code e (Branch v) few fit = tt
write_near app code e (Input q) few fit = tt
write_near app code e (Call f sets) few fit = tt
write_near app code e (Return s) few fit = tt
write_near app code e (Invoke s) few fit = tt
write_near app code e (Assert v) few fit = tt
write_near app code e End few fit = tt

pub all_near : (app : App) (code : Code) → Fits app code → is_task_form app code ≡ true
    → length code.globals ≤ length (cells_of code) → length (cells_of code) ≤ bit_count (cells_of code)
    → (e : ℕ) → AreAllNear (points_in code e)
all_near app code fits form globals cells e = λ i p is.
    let fit = fits.points e i p is in
    let few : length (points_in code e) ≤ 2048 = omega (arith, count_of code.entities e, fits.few_points) in
    let low : length code.globals ≤ 8192 = omega (arith, globals, cells, fits.few_bits) in
    record {
      nexts = nexts_near code e p.nexts few fit.nexts;
      action = write_near app code e p.action low fit.action;
      few = few_of code.entities e i p (and_parts (length app.routines == 0) (list_all is_form_entity code.entities) form).1 is;
    }

-- a program that is well shaped has few points
pub few_points : (d : Draft) → IsWellShaped d → length d.points ≤ 65536
few_points d shaped =
    let some = (and_parts (nat_le 1 (length d.points)) (nat_le (length d.points) (2 ^ 16) && (nat_lt (length d.widths) (2 ^ 16) && starts_fit d.widths d.starts)) shaped.sizes).1 in
    let few = (and_parts (nat_le (length d.points) (2 ^ 16)) (nat_lt (length d.widths) (2 ^ 16) && starts_fit d.widths d.starts) some).0 in
    grind (arith, nat_tests, few)

-- what holds of no label, and of the one with this number, holds of what a table has there
anywhere : (P : Option Label → Type 0) (n : ℕ) (f : ℕ → Label) (k : ℕ) → P None → P (Some (f k)) → P (slice_get (table n f) k)
anywhere P n f k none some = go (nat_lt k n) refl where
  go : (b : Bool) → nat_lt k n ≡ b → P (slice_get (table n f) k)
  go true e =
      let below : k < n = grind (arith, nat_tests, e) in
      subst P (sym (slice_get-get_or (table n f) k (f 0) (omega (arith, length-table n f, below)) ∙ ap Some (get_or-table n k f (f 0) below))) some
  go false e = subst P (sym (slice_get_past (table n f) k (grind (arith, nat_tests, e, length-table n f)))) none

-- each label stands for a step without a word

pub all_go : (entities : ℕ) (points : List (List Alternative)) (labels : List Label) → labels ≡ labels_of entities points → go_alone ≡ chosen_by labels
all_go entities points labels is =
    fun_ext (λ l. fun_ext (λ word. sym (anywhere (λ o. chosen o word ≡ Go) (most_of points) (label_at entities points) (l - 1) refl refl)))
    ∙ ap chosen_by (sym is)

-- each takes every word
pub all_take : (entities : ℕ) (points : List (List Alternative)) (labels : List Label) → labels ≡ labels_of entities points → (l word : ℕ) → TakesWord labels l word
all_take entities points labels is l word =
    subst (λ ls. TakesWord ls l word) (sym is) (anywhere (λ o. IsTaken o word) (most_of points) (label_at entities points) (l - 1) tt tt)

-- each is of the entity that acts
acts_at : (app : Setting) (code : PlainCode) (resources : ℕ) (points : List (List Alternative)) (l : ℕ) (e : Event) → IsOf app (plan_of app code resources) l e → IsActor (slice_get (labels_of app.entities points) (l - 1)) e
acts_at app code resources points l e of' =
    anywhere (λ o. IsActor o e) (most_of points) (label_at app.entities points) (l - 1) tt
    (ap (λ n. n % max app.entities 1) place ∙ ap (λ n. (of'.number * app.entities + e.actor.0) % n) some ∙ mod-mul-add of'.number app.entities e.actor.0 of'.known)
  where
    some : max app.entities 1 ≡ app.entities
    some = let below = of'.known in omega (arith, below)

    place : l - 1 ≡ of'.number * app.entities + e.actor.0
    place = let is = of'.is in omega (arith, is, mul_comm app.entities of'.number)

pub all_act : (app : Setting) (code : PlainCode) (resources : ℕ) (points : List (List Alternative)) (labels : List Label) → labels ≡ labels_of app.entities points → (pairs : List (ℕ × ℕ)) (events : List Event) → AreOf app (plan_of app code resources) pairs events → AreActors labels pairs events
all_act app code resources points labels is [] [] are = tt
all_act app code resources points labels is [] (e ∷ es) are = absurd are
all_act app code resources points labels is (x ∷ xs) [] are = absurd are
all_act app code resources points labels is (x ∷ xs) (e ∷ es) are =
    (subst (λ ls. IsActor (slice_get ls (x.0 - 1)) e) (sym is) (acts_at app code resources points x.0 e are.0), all_act app code resources points labels is xs es are.1)
