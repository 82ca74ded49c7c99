use Rattle.one_stack.proofs.Formed.{formed, numbered}
use Rattle.one_stack.proofs.law.built_is_exact.Goals as goal
use Rattle.one_stack.proofs.OfApp.{draft_acts, draft_is_exact, draft_is_shaped}
use Rattle.one_stack.proofs.Whole.{build_lem}

pub returns : goal.returns
returns c =
    record {
      exact = build_lem;
      form = λ app code order fits form. (formed app code order fits form, numbered app code order fits form);
      drafts = draft_is_exact;
      shaped = draft_is_shaped;
      actors = draft_acts;
    }
