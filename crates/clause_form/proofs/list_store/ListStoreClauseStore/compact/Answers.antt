use Rattle.std.proofs.Common.{sym, ap, ◌∙◌, subst, subst₂}
use Rattle.clause_form.specs.ClauseStore.{IsCompacted}
use Rattle.clause_form.specs.ListStore.{present, moves_from}
use Rattle.clause_form.proofs.Gaps.{compacted}
use Rattle.clause_form.proofs.list_store.ListStoreClauseStore.compact.Goals as goal

pub returns-clause-ok : goal.returns-clause-ok
returns-clause-ok c =
    subst (λ o. IsCompacted o (present 0 c.pack.new.entries.items) c.in_ok-found.found) c.self.view_is
    (subst₂ (λ n m. IsCompacted (present 0 c.self.inside.entries.items) (present 0 n) m) (sym c.pack.ensures) (sym (c.in_ok-found.ensures ∙ ap (moves_from 0 0) c.as_slice.ensures.value))
    (compacted c.self.inside.entries.items))
