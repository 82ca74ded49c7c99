use Rattle.std.proofs.Common.{sym, ◌∙◌, ap, Some}
use Rattle.std.specs.FinMap.{get}
use Rattle.chk_base.proofs.InList.{get_at, get_none}
use Rattle.chk_base.proofs.file_list.FileList.get.Goals as goal

pub returns-in_err-at : goal.returns-in_err-at
returns-in_err-at c =
    let is = rw c.deref.ensures.value at c.in_err-at.ensures in
    rw c.from_residual.ensures (sym (get_none c.args.name.now c.self.inside.items.items (sym is)) ∙ ap (λ m. get m c.args.name.now) c.self.view_is)

pub returns : goal.returns
returns c =
    let is = rw c.deref.ensures.value at c.in_ok-at.ensures in
    ap (λ file. Some file.1) c.index.ensures
    ∙ sym (get_at c.args.name.now c.self.inside.items.items c.in_ok-at.at c.index.result.now (sym is))
    ∙ ap (λ m. get m c.args.name.now) c.self.view_is
