-- One more task of the rules of an end or of a release.
use Rattle.std.proofs.Common.{◌≡◌, ℕ, ◌-◌, ◌<◌, Bool, true, false, ◌&&◌, if◌then◌else◌, nat_le, nat_lt, List, [], ◌∷◌, ◌++◌, Option, refl, ap, ap₂, ◌∙◌}
use Rattle.chk_base.specs.Term.{Term}
use Rattle.guard_prog.specs.declared.draft.Control.{Control}
use Rattle.one_stack.specs.Rules.{Change, Plan, Rule, change_sets, may_follow, next_rules, plain, push_rules, start_rule, start_rules}
use Rattle.one_stack.specs.Tables.{Tables, plan_in, released_rules, seen, width_in}
use Rattle.one_stack.proofs.Stepping.{stepped}
use Rattle.step_ir.specs.Setting.{Setting}

-- a list that is put where a test holds, before others
chosen_next : {A : Type 0} (b : Bool) (xs others : List A) → (if b then xs ++ others else others) ≡ (if b then xs else []) ++ others
chosen_next true xs others = refl
chosen_next false xs others = refl

pub start_more : (app : Setting) (plan : Plan) (e : ℕ) (x : Option ℕ) (i : ℕ) (xs ys end : List Rule) → 0 < i
    → ys ≡ xs ++ (if may_follow app plan e x (i - 1) then start_rule app plan e x (i - 1) ∷ [] else [])
    → xs ++ start_rules app plan e x i ≡ end → ys ++ start_rules app plan e x (i - 1) ≡ end
start_more app plan e x i xs ys end some put h =
    stepped (start_rules app plan e x) (λ t. if may_follow app plan e x t then start_rule app plan e x t ∷ [] else [])
    (λ t. chosen_next (may_follow app plan e x t) (start_rule app plan e x t ∷ []) (start_rules app plan e x t))
    i xs ys end some put h

pub push_more : (tables : Tables) (e r : ℕ) (nexts : List (Term × ℕ)) (i : ℕ) (xs ys end : List Rule) → 0 < i
    → ys ≡ xs ++ (if nat_lt ((seen tables).run_level e) ((seen tables).level (i - 1)) && nat_le ((seen tables).level (i - 1)) ((seen tables).ceiling r) then released_rules tables e r (i - 1) nexts else [])
    → xs ++ push_rules (seen tables) (plan_in tables) (width_in tables) e r nexts i ≡ end
    → ys ++ push_rules (seen tables) (plan_in tables) (width_in tables) e r nexts (i - 1) ≡ end
push_more tables e r nexts i xs ys end some put h =
    stepped (push_rules (seen tables) (plan_in tables) (width_in tables) e r nexts)
    (λ t. if nat_lt ((seen tables).run_level e) ((seen tables).level t) && nat_le ((seen tables).level t) ((seen tables).ceiling r) then released_rules tables e r t nexts else [])
    (λ t. chosen_next (nat_lt ((seen tables).run_level e) ((seen tables).level t) && nat_le ((seen tables).level t) ((seen tables).ceiling r)) (released_rules tables e r t nexts) (push_rules (seen tables) (plan_in tables) (width_in tables) e r nexts t))
    i xs ys end some put h

-- rules of the same parts are the same
pub same_rule : (g g' : Term) (s s' : List (ℕ × Term)) (k k' : Control) → g ≡ g' → s ≡ s' → k ≡ k' → plain g s k ≡ plain g' s' k'
same_rule g g' s s' k k' e f h = ap₂ (λ a b. plain a b k) e f ∙ ap (plain g' s') h

-- so are rules of the same change
pub same_change : (tables : Tables) (control : ℕ → Control) (nexts : List (Term × ℕ)) (c d : Change) → c ≡ d
    → next_rules (seen tables) (plan_in tables) (width_in tables) [] (change_sets (seen tables) (plan_in tables) c) control nexts
    ≡ next_rules (seen tables) (plan_in tables) (width_in tables) [] (change_sets (seen tables) (plan_in tables) d) control nexts
same_change tables control nexts c d e = ap (λ x. next_rules (seen tables) (plan_in tables) (width_in tables) [] (change_sets (seen tables) (plan_in tables) x) control nexts) e
