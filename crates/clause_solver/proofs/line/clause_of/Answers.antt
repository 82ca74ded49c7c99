use Rattle.std.proofs.Common.{◌≡◌, sym, ap, ◌∙◌, subst, rules}
use Rattle.std.specs.List.Sorted.{IsNonDecreasingBy}
use Rattle.std.proofs.lemmas.List.Sorted.{IsNonDecreasingBy-from_sort_by_key}
use Rattle.clause_form.specs.Literals.{variable, rises_above}
use Rattle.clause_solver.specs.Learning.{IsSorted}
use Rattle.clause_solver.proofs.Logs.{if_ok_by}
use Rattle.clause_solver.proofs.Sorting.{sorted}
use Rattle.clause_solver.proofs.line.clause_of.Goals as goal

pub clause_in_order-requires : goal.clause_in_order-requires
clause_in_order-requires c =
    let order : IsNonDecreasingBy variable c.sort_unstable_by_key.new.self.items = IsNonDecreasingBy-from_sort_by_key variable _ c.sort_unstable_by_key.ensures.sorted (λ a r q k. search rules) in
    ap (rises_above 0) c.as_slice.ensures.value ∙ (sorted c.args.lits.now.items _ c.requires c.sort_unstable_by_key.ensures.permutation order).rising

pub returns : goal.returns
returns c =
    let order : IsNonDecreasingBy variable c.sort_unstable_by_key.new.self.items = IsNonDecreasingBy-from_sort_by_key variable _ c.sort_unstable_by_key.ensures.sorted (λ a r q k. search rules) in
    if_ok_by c.clause_in_order.result (λ clause. clause ≡ c.as_slice.result.now) (IsSorted c.args.lits.now.items) c.clause_in_order.ensures
    (λ x e. subst (IsSorted c.args.lits.now.items) (sym (e ∙ c.as_slice.ensures.value)) (sorted c.args.lits.now.items _ c.requires c.sort_unstable_by_key.ensures.permutation order))
