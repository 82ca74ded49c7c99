use Rattle.std.proofs.Common.{[], sym, ◌∙◌, arith}
use Rattle.std.proofs.lemmas.Result.{err_from_is_err_and}
use Rattle.oil_tree.specs.Listed.{listed}
use Rattle.oil_text.specs.OilGrammar.{Attribute as AttributeRule}
use Rattle.grammar.specs.Grammar.{Many, Rule}
use Rattle.oil_text.specs.OilMeaning.{attribute_at}
use Rattle.oil_text.specs.OilReading.{tree_at}
use Rattle.oil_text.proofs.Repeated.{Attributes, goes_on, stops_so, done_gives, done_means, attributes_mean}
use Rattle.oil_text.proofs.reading.+attributes.Goals as goal

pub attributes-returns-in_err-attribute-clause-gives :
    goal.attributes-returns-in_err-attribute-clause-gives
attributes-returns-in_err-attribute-clause-gives t c =
    let p = err_from_is_err_and c.from_residual.result c.from_residual.ensures.1 in
    rw (p.1, p.2) (stops_so (Attributes c.args.below) attribute_at [] c.args.tokens.now c.loop-alloc.rest.now (listed c.loop-alloc.attributes) c.in_err-attribute.field-0.0 (sym c.is_name.ensures ∙ c.loop-alloc-test.true) c.in_err-attribute.ensures.gives c.loop-alloc.invariant.so_far)

pub attributes-loop-alloc-preserved : goal.attributes-loop-alloc-preserved
attributes-loop-alloc-preserved t c = record {
  so_far = goes_on (Attributes c.args.below) attribute_at [] c.args.tokens.now c.loop-alloc.rest.now (listed c.loop-alloc.attributes) (listed c.push.new.self) c.in_ok-attribute.attribute c.in_ok-attribute.after.now (sym c.is_name.ensures ∙ c.loop-alloc-test.true) c.in_ok-attribute.ensures.gives c.in_ok-attribute.ensures.means c.in_ok-push.ensures.ok c.loop-alloc.invariant.so_far;
  shorter = omega (arith, c.in_ok-attribute.ensures.shorter, c.loop-alloc.invariant.shorter);
}

pub attributes-returns-clause-gives : goal.attributes-returns-clause-gives
attributes-returns-clause-gives t c = done_gives (Attributes c.args.below) attribute_at [] c.args.tokens.now c.loop-alloc.rest.now (listed c.loop-alloc.attributes) (sym c.is_name.ensures ∙ c.loop-alloc-test.false) c.loop-alloc.invariant.so_far

pub attributes-returns-clause-means : goal.attributes-returns-clause-means
attributes-returns-clause-means t c =
    attributes_mean (tree_at (Many (Rule (AttributeRule c.args.below))) c.args.tokens.now) c.loop-alloc.attributes (done_means (Attributes c.args.below) attribute_at [] c.args.tokens.now c.loop-alloc.rest.now (listed c.loop-alloc.attributes) (sym c.is_name.ensures ∙ c.loop-alloc-test.false) c.loop-alloc.invariant.so_far)
