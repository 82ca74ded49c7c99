use Rattle.std.proofs.Common.{◌≡◌, ◌≤◌, ℕ, arith, length, take, ◌∙◌, ap, sym, List, ◌++◌}
use Rattle.std.proofs.lemmas.Slice.{take-put_mid}
use Rattle.std.proofs.lemmas.List.{length-take-le}
use Rattle.chk_base.proofs.Keeping.{kept_first}
use Rattle.chk_base.proofs.never_sink.NeverSinkSink.write.Goals as goal

pub returns-clause-kept : goal.returns-clause-kept
returns-clause-kept c =
    let at = c.self.inside.len in
    let kept = c.self.inside.kept in
    let taken = c.min-taken.result in
    let within : at ≤ length kept = omega arith in
    let room : at ≤ 65536 = omega arith in
    let all : at ≡ length (take at kept) = sym (length-take-le at kept within) in
    let copied : length c.copy_from_slice.new.self ≡ taken = ap length c.copy_from_slice.ensures.after ∙ length-take-le taken c.args.piece.now (omega arith) in
    take-put_mid at _ kept c.copy_from_slice.new.self _ (omega arith) within
    ∙ ap (λ (xs : List ℕ). take at kept ++ xs) c.copy_from_slice.ensures.after
    ∙ kept_first 65536 (take at kept) c.args.piece.now at taken all room c.min-taken.ensures
    ∙ ap (λ (xs : List ℕ). take 65536 (xs ++ c.args.piece.now)) c.self.view_is
