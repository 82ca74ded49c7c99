use Rattle.std.proofs.Common.{◌+◌, ◌∷◌, [], arith, sym, ap, ◌∙◌, subst, subst₂}
use Rattle.clause_form.specs.Literals.{has}
use Rattle.clause_solver.specs.Trail.{lits_of, is_newest}
use Rattle.clause_solver.specs.Resolvent.{Adds}
use Rattle.clause_solver.proofs.Adding.{added_already, added_unset, added_newest, added_lower, room}
use Rattle.clause_solver.proofs.resolvent.Resolvent.add.Goals as goal

pub returns-then-has : goal.returns-then-has
returns-then-has c =
    added_already c.args.trail.now c.args.self.now.seen c.args.self.now.lower.items c.args.self.now.count c.args.lit c.requires.resolvent
    (ap (has c.args.self.now.seen) (sym c.negated-set.ensures.negation) ∙ sym c.has.ensures ∙ c.if-has.true)

pub returns-then-not-has : goal.returns-then-not-has
returns-then-not-has c =
    added_unset c.args.trail.now c.args.self.now.seen c.args.self.now.lower.items c.args.self.now.count c.args.lit c.requires.resolvent
    (ap (λ l. has (lits_of c.args.trail.now) l) (sym c.negated-set.ensures.negation) ∙ sym c.has-2.ensures ∙ c.if-not-has.true)

pub overflow_add-self : goal.overflow_add-self
overflow_add-self c =
    let r = room c.args.trail.now c.args.self.now.seen c.args.self.now.lower.items c.args.self.now.count c.args.lit c.requires.fresh c.requires.resolvent
    (ap (has c.args.self.now.seen) (sym c.negated-set.ensures.negation) ∙ sym c.has.ensures ∙ c.if-has.false)
    (ap (is_newest c.args.trail.now) (sym c.negated-set.ensures.negation) ∙ sym c.is_newest.ensures.answer ∙ c.if-is_newest.true) in
    let f = c.is_newest.ensures.few in
    omega (arith, r, f)

pub returns-then-is_newest : goal.returns-then-is_newest
returns-then-is_newest c =
    subst (λ m. Adds c.args.trail.now c.args.self.now.seen c.args.self.now.lower.items (c.args.lit ∷ []) m c.args.self.now.lower.items (c.args.self.now.count + 1))
    (ap (λ l. l ∷ c.args.self.now.seen) (sym c.negated-set.ensures.negation) ∙ sym c.in_ok-add.ensures.ok)
    (added_newest c.args.trail.now c.args.self.now.seen c.args.self.now.lower.items c.args.self.now.count c.args.lit c.requires.fresh c.requires.resolvent
    (ap (has c.args.self.now.seen) (sym c.negated-set.ensures.negation) ∙ sym c.has.ensures ∙ c.if-has.false)
    (ap (is_newest c.args.trail.now) (sym c.negated-set.ensures.negation) ∙ sym c.is_newest.ensures.answer ∙ c.if-is_newest.true))

pub returns-in_ok-push : goal.returns-in_ok-push
returns-in_ok-push c =
    subst₂ (λ m k. Adds c.args.trail.now c.args.self.now.seen c.args.self.now.lower.items (c.args.lit ∷ []) m k c.args.self.now.count)
    (ap (λ l. l ∷ c.args.self.now.seen) (sym c.negated-set.ensures.negation) ∙ sym c.in_ok-add.ensures.ok)
    (sym c.in_ok-push.ensures.items)
    (added_lower c.args.trail.now c.args.self.now.seen c.args.self.now.lower.items c.args.self.now.count c.args.lit c.requires.resolvent
    (ap (has c.args.self.now.seen) (sym c.negated-set.ensures.negation) ∙ sym c.has.ensures ∙ c.if-has.false)
    (ap (λ l. has (lits_of c.args.trail.now) l) (sym c.negated-set.ensures.negation) ∙ sym c.has-2.ensures ∙ c.if-not-has.false)
    (ap (is_newest c.args.trail.now) (sym c.negated-set.ensures.negation) ∙ sym c.is_newest.ensures.answer ∙ c.if-is_newest.false))
