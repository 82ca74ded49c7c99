use Rattle.std.proofs.Common.{◌∙◌, ap, sym, rules, map-id}
use Rattle.chk_base.specs.Term.{term_of}
use Rattle.one_stack.specs.Plain.{rules_of}
use Rattle.one_stack.specs.Rules as defs
use Rattle.one_stack.proofs.Plainly.{guarded_more}
use Rattle.std.proofs.lemmas.Iterator.Consumers.{YieldsList-end}
use Rattle.std.proofs.lemmas.Iterator.Adapters.{YieldsList-from_vec}
use Rattle.one_stack.proofs.rule.guarded.Goals as goal

pub loop-rule-preserved : goal.loop-rule-preserved
loop-rule-preserved c = guarded_more _ c.loop-rule.yielded _ _ _ c.in_ok-put_guarded.ensures c.loop-rule.invariant

pub returns : goal.returns
returns c =
    let end = YieldsList-end (YieldsList-from_vec {s = c.into_iter-rule-iterator.result} c.args.list (search rules) (search rules))
    c.loop-rule.yielded c.loop-rule.rule-iterator c.loop-rule.yielded_by c.next.result c.next.new.self c.in-None.is c.next.ensures.steps in
    c.loop-rule.invariant ∙ ap (λ xs. defs.guarded (term_of c.args.given.now) (rules_of xs)) (sym (map-id c.loop-rule.yielded) ∙ end.0)
