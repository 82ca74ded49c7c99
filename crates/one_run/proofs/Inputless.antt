-- The test for inputs decides whether a code takes one.
use Rattle.std.proofs.Common.{◌≡◌, ◌≢◌, ℕ, zero, suc, Bool, true, false, not, ◌&&◌, List, [], ◌∷◌, map, Some, slice_get, refl, sym, ap, ◌∙◌}
use Rattle.std.specs.List.{list_all}
use Rattle.step_ir.specs.declared.code.Code.{Code}
use Rattle.step_ir.specs.declared.code.EntityCode.{EntityCode}
use Rattle.step_ir.specs.declared.code.Point.{Point}
use Rattle.step_ir.specs.Points.{PlainAction, PlainPoint, Read, Write, Local, Branch, Input, Call, Return, Invoke, Assert, End, plain_of, points_of}
use Rattle.one_run.specs.OneRun.{TakesNoInput, are_inputless, is_input, is_inputless, is_inputless_entity}

-- both tests say yes where they say so together
parts : (a b : Bool) → a && b ≡ true → (a ≡ true) × (b ≡ true)
parts true true is = (refl, refl)
parts true false is = (refl, is)
parts false true is = (is, refl)
parts false false is = (is, is)

-- two tests say yes together where both say so
together : (a b : Bool) → a ≡ true → b ≡ true → a && b ≡ true
together true true first second = refl
together true false first second = second
together false b first second = first

-- an action that isn't found to be an input is none
other_action : (a : PlainAction) → not (is_input a) ≡ true → (cell : ℕ) → a ≢ Input cell
other_action a other cell same =
    let bad : false ≡ true = sym (ap (λ x. not (is_input x)) same) ∙ other in cc

-- an action that is no input isn't found to be one
not_input : (a : PlainAction) → ((cell : ℕ) → a ≢ Input cell) → not (is_input a) ≡ true
not_input (Read t into) other = refl
not_input (Write t term) other = refl
not_input (Local cell term) other = refl
not_input (Branch term) other = refl
not_input (Input cell) other = absurd (other cell refl)
not_input (Call f sets) other = refl
not_input (Return set) other = refl
not_input (Invoke service) other = refl
not_input (Assert term) other = refl
not_input End other = refl

-- none of these points takes an input
abbrev HaveNoInput : List Point → Type 0
HaveNoInput ps = (at cell : ℕ) (p : PlainPoint) → slice_get (map plain_of ps) at ≡ Some p → p.action ≢ Input cell

-- points that are found to take no input take none
points_take_none : (ps : List Point) → list_all is_inputless ps ≡ true → HaveNoInput ps
points_take_none [] all at cell p is = absurd cc
points_take_none (q ∷ ps) all zero cell p is =
    let same : plain_of q ≡ p = cc in
    λ input. other_action (plain_of q).action (parts _ _ all).0 cell (ap (λ (x : PlainPoint). x.action) same ∙ input)
points_take_none (q ∷ ps) all (suc at) cell p is = points_take_none ps (parts _ _ all).1 at cell p is

-- points that take no input are found to take none
points_found : (ps : List Point) → HaveNoInput ps → list_all is_inputless ps ≡ true
points_found [] none = refl
points_found (q ∷ ps) none =
    together _ _
    (not_input (plain_of q).action (λ cell. none 0 cell (plain_of q) refl))
    (points_found ps (λ at. none (suc at)))

-- none of these entities has a point that takes an input
abbrev EntitiesHaveNone : List EntityCode → Type 0
EntitiesHaveNone es = (e : ℕ) → HaveNoInput (points_of (slice_get es e))

-- entities that are found to take no input take none
entities_take_none : (es : List EntityCode) → list_all is_inputless_entity es ≡ true → EntitiesHaveNone es
entities_take_none [] all e at cell p is = absurd cc
entities_take_none (c ∷ es) all zero at cell p is = points_take_none c.points (parts _ _ all).0 at cell p is
entities_take_none (c ∷ es) all (suc e) at cell p is = entities_take_none es (parts _ _ all).1 e at cell p is

-- entities that take no input are found to take none
entities_found : (es : List EntityCode) → EntitiesHaveNone es → list_all is_inputless_entity es ≡ true
entities_found [] none = refl
entities_found (c ∷ es) none = together _ _ (points_found c.points (none 0)) (entities_found es (λ e. none (suc e)))

-- a code that is found to take no input takes none
pub takes_none : (code : Code) → are_inputless code ≡ true → TakesNoInput code
takes_none code all e at cell p is = entities_take_none code.entities all e at cell p is

-- a code that takes no input is found to take none
pub found_inputless : (code : Code) → TakesNoInput code → are_inputless code ≡ true
found_inputless code none = entities_found code.entities none
