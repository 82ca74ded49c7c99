use Rattle.std.proofs.Common.{sym, ◌∙◌, ap, set}
use Rattle.std.specs.FinMap.{insert, from_entries}
use Rattle.chk_base.proofs.InList.{put_at, put_behind}
use Rattle.chk_base.proofs.file_list.FileList.put.Goals as goal

pub returns-in-Some-clause-ok : goal.returns-in-Some-clause-ok
returns-in-Some-clause-ok c =
    let is = rw c.deref.ensures.value at c.in-Some.ensures in
    ap (λ file. from_entries (set c.self.inside.items.items c.in-Some.at (file.0, c.args.bytes))) c.index_mut.ensures.value
    ∙ put_at c.args.name c.args.bytes c.self.inside.items.items c.in-Some.at c.index_mut.result.now (sym is)
    ∙ ap (λ m. insert m c.args.name c.args.bytes) c.self.view_is

pub returns-in_ok-push-in-None-clause-ok : goal.returns-in_ok-push-in-None-clause-ok
returns-in_ok-push-in-None-clause-ok c =
    let is = rw c.deref.ensures.value at c.in-None.ensures in
    ap from_entries c.in_ok-push-in-None.ensures.items
    ∙ put_behind c.args.name c.args.bytes c.self.inside.items.items (sym is)
    ∙ ap (λ m. insert m c.args.name c.args.bytes) c.self.view_is
