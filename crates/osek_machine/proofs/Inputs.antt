-- A point at an input.
use Rattle.std.proofs.Common.{◌≡◌, ℕ, List, Option, Some, None, sym, ap, subst, ◌∙◌}
use Rattle.chk_base.specs.Term.{Term}
use Rattle.chk_base.specs.Widths.{PlainWord}
use Rattle.chk_base.specs.declared.word.Width.{Width}
use Rattle.osek_machine.specs.Performing.{input_want, IsPerformed, choice_of}
use Rattle.osek_machine.specs.Within.{input_cell}
use Rattle.osek_machine.specs.declared.perform.Performed.{Performed}
use Rattle.step_ir.specs.PointStep.{Bits, unless, act, fails}
use Rattle.step_ir.specs.Points.{PlainAction, PlainPoint, Input}
use Rattle.step_ir.specs.declared.event.Choice.TheVariants.{Go, GoWith}

-- an action with a cell for its word is an input
input_is : (a : PlainAction) (cell : ℕ) → input_cell a ≡ Some cell → a ≡ Input cell
input_is (Input c) cell h = ap Input (let e : ◌≡◌ {A = Option ℕ} (Some c) (Some cell) = h in cc)
input_is _ cell h = absurd (let e : ◌≡◌ {A = Option ℕ} None (Some cell) = h in cc)

-- what a point at an input wants
pub unless_input : (width : ℕ → Width) (p : PlainPoint) (cell : ℕ) (trap : Option ℕ) (b : Bits) → input_cell p.action ≡ Some cell → unless width trap p b ≡ input_want width cell trap p.nexts b
unless_input width p cell None b h = ap (λ a. act width a p.nexts b) (input_is p.action cell h)
unless_input width p cell (Some n) b h = ap (λ a. fails width a (record { number = n; code = 0 })) (input_is p.action cell h)

-- the step of an input that is given a word
pub performed_input : (width : ℕ → Width) (p : PlainPoint) (cell : ℕ) (trap trap' : Option ℕ) (nexts : List (Term × ℕ)) (w : PlainWord) (word : Option PlainWord) (b : Bits) (old new : List PlainWord) (r : Performed) → input_cell p.action ≡ Some cell → trap ≡ trap' → word ≡ Some w → nexts ≡ p.nexts → IsPerformed (input_want width cell trap nexts b) (GoWith w) old r new → IsPerformed (unless width trap' p b) (choice_of word) old r new
performed_input width p cell trap trap' nexts w word b old new r at same is there h =
    subst (λ o. IsPerformed (unless width trap' p b) (choice_of o) old r new) (sym is)
    (subst (λ want. IsPerformed want (GoWith w) old r new) (sym whole) h)
  where
    whole : unless width trap' p b ≡ input_want width cell trap nexts b
    whole = unless_input width p cell trap' b at ∙ ap (λ o. input_want width cell o p.nexts b) (sym same) ∙ ap (λ ns. input_want width cell trap ns b) (sym there)

-- the step of another point, where no trap counts
pub performed_act : (width : ℕ → Width) (p : PlainPoint) (trap trap' : Option ℕ) (nexts : List (Term × ℕ)) (word : Option PlainWord) (b : Bits) (old new : List PlainWord) (r : Performed) → trap ≡ trap' → trap ≡ None → word ≡ None → nexts ≡ p.nexts → IsPerformed (act width p.action nexts b) Go old r new → IsPerformed (unless width trap' p b) (choice_of word) old r new
performed_act width p trap trap' nexts word b old new r same free is there h =
    subst (λ o. IsPerformed (unless width trap' p b) (choice_of o) old r new) (sym is)
    (subst (λ want. IsPerformed want Go old r new) (sym whole) h)
  where
    whole : unless width trap' p b ≡ act width p.action nexts b
    whole = ap (λ o. unless width o p b) (sym same ∙ free) ∙ ap (λ ns. act width p.action ns b) (sym there)
