-- The applications that texts describe have names.
use Rattle.std.proofs.Common.{◌≡◌, ℕ, suc, ◌+◌, ◌<◌, true, Option, List, [], ◌∷◌, map, length, length-append, sym, ap, subst, ◌∙◌, arith}
use Rattle.std.proofs.lemmas.List.{length-map}
use Rattle.std.specs.List.{slice_get}
use Rattle.std.specs.Prelude.{unwrap_or}
use Rattle.app_model.specs.Application.{application}
use Rattle.application.specs.declared.app.App.{App}
use Rattle.application.specs.declared.app.Routine.{Routine}
use Rattle.application.specs.declared.app.Task.{Task}
use Rattle.cert_form.specs.Words.{is_name}
use Rattle.cert_law.specs.Named.{HaveNames}
use Rattle.name_law.specs.Names.{AreNames, entity_names}
use Rattle.oil_tree.specs.declared.tree.OilTree.{OilTree}
use Rattle.oil_text.specs.OilText.{IsOilText}
use Rattle.step_ir.specs.declared.code.Code.{Code}
use Rattle.text_stages.specs.Prepared.{IsTakenForRun}

-- each of the names is a name
name_at : (names : List (List ℕ)) (k : ℕ) → AreNames names → k < length names → is_name (unwrap_or (slice_get names k) []) ≡ true
name_at [] k a h = absurd (omega (arith, h))
name_at (x ∷ xs) Prim.Native.Nat.zero a h = a.0
name_at (x ∷ xs) (suc k) a h = name_at xs k a.1 (omega (arith, h))

-- the entities have a name each
names_count : (app : App) → length (entity_names app) ≡ length app.tasks + length app.routines
names_count app =
    length-append (map (λ (t : Task). t.name) app.tasks) (map (λ (r : Routine). r.name) app.routines)
    ∙ ap (λ (k : ℕ). k + length (map (λ (r : Routine). r.name) app.routines)) (length-map app.tasks (λ (t : Task). t.name))
    ∙ ap (λ (k : ℕ). length app.tasks + k) (length-map app.routines (λ (r : Routine). r.name))

-- so each entity has one
names_of : (app : App) → AreNames (entity_names app) → HaveNames app
names_of app names e few = name_at (entity_names app) e names (subst (λ (n : ℕ). e < n) (sym (names_count app)) few)

-- the tasks and routines that an OIL text describes have names
abbrev pub AreWritten : Type 0
AreWritten = (oil : List ℕ) (mode : Option (List ℕ)) (tree : OilTree) → IsOilText oil tree → AreNames (entity_names (application tree mode))

-- and so have those of texts that are taken for a run
pub taken_names : AreWritten → (oil c : List ℕ) (mode : Option (List ℕ)) (most : ℕ) (app : App) (code : Code) → IsTakenForRun oil c mode most app code → HaveNames app
taken_names law oil c mode most app code taken =
    let is = taken.prepared.app_is in
    names_of app (subst (λ (a : App). AreNames (entity_names a)) (sym is.app_is) (law oil mode taken.prepared.tree is.tree_is))
