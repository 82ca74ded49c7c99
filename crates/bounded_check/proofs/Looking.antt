-- Lines that are looked at one after another, and the turns of a run as choices.
use Rattle.std.proofs.Common.{◌≡◌, ℕ, zero, suc, ◌+◌, ◌-◌, ◌<◌, ◌≤◌, Bool, true, false, if◌then◌else◌, List, [], ◌∷◌, ◌++◌, length, take, drop, Option, Some, None, slice_get, append_assoc, refl, sym, ap, subst, ◌∙◌, arith}
use Rattle.std.proofs.lemmas.List.{take_all}
use Rattle.bounded_check.specs.Depicts.{AreListed}
use Rattle.clause_form.specs.declared.line.Line.{Line}
use Rattle.clause_form.specs.DerivedLine.{AreDerived}
use Rattle.one_stack.specs.BuildExact.{choices_of}
use Rattle.one_stack.specs.declared.label.Label.{Label}
use Rattle.one_stack.specs.Labelled.{TakesWord}
use Rattle.proof_check.proofs.Getting.{drop_get}
use Rattle.proof_check.specs.Answers.{Checked, accepts, after}
use Rattle.step_ir.specs.declared.event.Choice.{Choice}
use Rattle.turn_unroll.specs.declared.run.Turn.{Turn}
use Rattle.turn_unroll.specs.Runs.{pairs_of}

-- ---- lines
-- the lines from a place on are derived from what the checker holds
abbrev pub AreLeft : Checked → List Line → ℕ → Type 0
AreLeft c log k = AreDerived c.variables (c.formula ++ c.lines) (drop k log)

pub left_here : (c : Checked) (log : List Line) (k : ℕ) (line : Line) → AreLeft c log k → slice_get log k ≡ Some line → accepts c line ≡ true
left_here c log k line h e =
    (subst (AreDerived c.variables (c.formula ++ c.lines)) (drop_get log k line e) h).0

pub left_next : (c d : Checked) (log : List Line) (k : ℕ) (line : Line) → AreLeft c log k → slice_get log k ≡ Some line → d ≡ after c line → AreLeft d log (k + 1)
left_next c d log k line h e s =
    let parts = subst (AreDerived c.variables (c.formula ++ c.lines)) (drop_get log k line e) h in
    let t : d ≡ record c { lines = c.lines ++ line.clause ∷ [] } = s ∙ ap (λ b. if b then record c { lines = c.lines ++ line.clause ∷ [] } else c) parts.0 in
    subst (λ (x : Checked). AreDerived x.variables (x.formula ++ x.lines) (drop (k + 1) log)) (sym t)
    (subst (λ cs. AreDerived c.variables cs (drop (k + 1) log)) (append_assoc c.formula c.lines (line.clause ∷ [])) parts.1)

-- ---- turns
-- the choices of the first turns
abbrev pub first_choices : (ℕ → ℕ → Choice) → List Turn → ℕ → List Choice
first_choices chosen turns n = choices_of chosen (pairs_of (take n turns))

pub listed_at : (labels : List Label) (turns : List Turn) (i : ℕ) (t : Turn) → AreListed labels (pairs_of turns) → slice_get turns i ≡ Some t → ((1 ≤ t.label) × (t.label ≤ length labels)) × TakesWord labels t.label t.input.bits
listed_at labels [] i t h e = absurd cc
listed_at labels (x ∷ xs) zero t h e =
    let f : x ≡ t = cc in
    subst (λ (y : Turn). ((1 ≤ y.label) × (y.label ≤ length labels)) × TakesWord labels y.label y.input.bits) f (h.0, h.1)
listed_at labels (x ∷ xs) (suc i) t h e = listed_at labels xs i t h.2 e

more : (chosen : ℕ → ℕ → Choice) (turns : List Turn) (i : ℕ) (t : Turn) → slice_get turns i ≡ Some t → first_choices chosen turns (suc i) ≡ first_choices chosen turns i ++ chosen t.label t.input.bits ∷ []
more chosen [] i t e = absurd cc
more chosen (x ∷ xs) zero t e =
    let f : x ≡ t = cc in
    ap (λ (y : Turn). chosen y.label y.input.bits ∷ []) f
more chosen (x ∷ xs) (suc i) t e = ap (λ cs. chosen x.label x.input.bits ∷ cs) (more chosen xs i t e)

pub choices_more : (chosen : ℕ → ℕ → Choice) (turns : List Turn) (i : ℕ) (t : Turn) (old new : List Choice) (choice : Choice) → old ≡ first_choices chosen turns i → slice_get turns i ≡ Some t → choice ≡ chosen t.label t.input.bits → new ≡ old ++ choice ∷ [] → new ≡ first_choices chosen turns (i + 1)
choices_more chosen turns i t old new choice o e c n =
    n ∙ ap (λ cs. cs ++ choice ∷ []) o ∙ ap (λ x. first_choices chosen turns i ++ x ∷ []) c ∙ sym (more chosen turns i t e)
    ∙ ap (first_choices chosen turns) (one_more i)
  where
    one_more : (x : ℕ) → suc x ≡ x + 1
    one_more x = omega arith

pub choices_all : (chosen : ℕ → ℕ → Choice) (turns : List Turn) (i : ℕ) (all : List Choice) → length turns ≤ i → all ≡ first_choices chosen turns i → all ≡ choices_of chosen (pairs_of turns)
choices_all chosen turns i all h e = e ∙ ap (λ ts. choices_of chosen (pairs_of ts)) (take_all i turns h)
