-- One more step of a guard over tasks or resources.
use Rattle.std.proofs.Common.{◌≡◌, ◌∙◌, ℕ, ◌+◌, Bool, if◌then◌else◌, nat_lt, false, Option, add-one, ap}
use Rattle.chk_base.specs.Term.{Term, Cell}
use Rattle.one_stack.specs.Rules.{Plan, Slot, both, negated, none_above, none_after, none_of}
use Rattle.step_ir.specs.Setting.{Setting}

pub none_above_more : (app : Setting) (plan : Plan) (x : Option ℕ) (l u : ℕ) (rest new : Term)
    → new ≡ (if nat_lt l (app.level u) then both (none_after app plan x (app.level u)) rest else rest)
    → rest ≡ none_above app plan x l u → new ≡ none_above app plan x l (u + 1)
none_above_more app plan x l u rest new e h =
    rw add-one (e ∙ ap (λ t. if nat_lt l (app.level u) then both (none_after app plan x (app.level u)) t else t) h)

pub none_of_more : (app : Setting) (plan : Plan) (slot : ℕ → Slot) (test : ℕ → Bool) (u : ℕ) (b : Bool) (rest new : Term)
    → b ≡ test u → new ≡ (if b then both (negated (Cell (plan.place (slot u)) false)) rest else rest)
    → rest ≡ none_of app plan slot test u → new ≡ none_of app plan slot test (u + 1)
none_of_more app plan slot test u b rest new is e h =
    rw add-one
    (e ∙ ap (λ t. if b then both (negated (Cell (plan.place (slot u)) false)) t else t) h
    ∙ ap (λ k. if k then both (negated (Cell (plan.place (slot u)) false)) (none_of app plan slot test u) else none_of app plan slot test u) is)
