use Rattle.std.proofs.Common.{◌∙◌, ap, sym, rules, arith, map-id}
use Rattle.std.proofs.lemmas.List.{length_push}
use Rattle.chk_base.specs.Term.{term_of}
use Rattle.one_stack.specs.Plain.{alternative_of, rule_of, rules_of}
use Rattle.one_stack.specs.Rules as defs
use Rattle.one_stack.specs.Tables.{plan_in}
use Rattle.one_stack.proofs.Plainly.{alternative_put, none_put}
use Rattle.std.proofs.lemmas.Iterator.Consumers.{YieldsList-end, YieldsList-turn}
use Rattle.std.proofs.lemmas.Iterator.Adapters.{YieldsList-from_vec}
use Rattle.one_stack.proofs.alternatives.alternatives.Goals as goal

pub label-requires : goal.label-requires
label-requires c =
    let turn = YieldsList-turn (YieldsList-from_vec {s = c.into_iter-rule-iterator.result} c.args.list (search rules) (search rules)) c.loop-rule.yielded c.loop-rule.rule-iterator c.loop-rule.yielded_by c.next.result c.next.new.self c.in-Some.rule c.in-Some.is c.next.ensures.steps in
    omega (arith, turn.0, c.loop-rule.invariant.count, c.requires)

pub overflow_add-k : goal.overflow_add-k
overflow_add-k c =
    let turn = YieldsList-turn (YieldsList-from_vec {s = c.into_iter-rule-iterator.result} c.args.list (search rules) (search rules)) c.loop-rule.yielded c.loop-rule.rule-iterator c.loop-rule.yielded_by c.next.result c.next.new.self c.in-Some.rule c.in-Some.is c.next.ensures.steps in
    omega (arith, turn.0, c.loop-rule.invariant.count, c.requires)

pub loop-rule-preserved : goal.loop-rule-preserved
loop-rule-preserved c =
    record {
      alternatives =
          alternative_put ((plan_in c.args.layout.now).label c.args.e) (defs.constant 1) c.loop-rule.yielded c.in-Some.rule _ _ _ c.loop-rule.k _
          c.in_ok-push.ensures.ok
          (c.in_ok-next.ensures ∙ ap (λ n. alternative_of n (term_of c.loop-rule.none) (rule_of c.in-Some.rule)) c.label.ensures)
          c.loop-rule.invariant.count c.loop-rule.invariant.none c.loop-rule.invariant.alternatives;
      none = none_put (defs.constant 1) c.loop-rule.yielded c.in-Some.rule _ _ c.in_ok-with.ensures c.loop-rule.invariant.none;
      count = omega (arith, length_push c.loop-rule.yielded c.in-Some.rule, c.loop-rule.invariant.count);
    }

pub returns : goal.returns
returns c =
    let end = YieldsList-end (YieldsList-from_vec {s = c.into_iter-rule-iterator.result} c.args.list (search rules) (search rules))
    c.loop-rule.yielded c.loop-rule.rule-iterator c.loop-rule.yielded_by c.next.result c.next.new.self c.in-None.is c.next.ensures.steps in
    c.loop-rule.invariant.alternatives
    ∙ ap (λ xs. defs.alternatives ((plan_in c.args.layout.now).label c.args.e) (defs.constant 1) 0 (rules_of xs)) (sym (map-id c.loop-rule.yielded) ∙ end.0)
