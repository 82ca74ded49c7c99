use Rattle.std.proofs.Common.{sym, ◌∙◌, ap, set, ◌++◌}
use Rattle.std.specs.FinMap.{from_entries}
use Rattle.chk_base.proofs.InList.{append_at, append_none}
use Rattle.chk_base.specs.Desk.{with_piece}
use Rattle.chk_base.proofs.file_list.FileList.append.Goals as goal

pub returns-in_ok-append-clause-ok : goal.returns-in_ok-append-clause-ok
returns-in_ok-append-clause-ok c =
    let is = rw c.deref.ensures.value at c.in-Some.ensures in
    ap (λ bytes. from_entries (set c.self.inside.items.items c.in-Some.at (c.index_mut.result.now.0, bytes))) c.in_ok-append.ensures.ok
    ∙ ap (λ file. from_entries (set c.self.inside.items.items c.in-Some.at (file.0, file.1 ++ c.args.piece.now))) c.index_mut.ensures.value
    ∙ append_at c.args.name.now c.args.piece.now c.self.inside.items.items c.in-Some.at c.index_mut.result.now (sym is)
    ∙ ap (with_piece c.args.name.now c.args.piece.now) c.self.view_is

pub returns-in_default-clause-ok : goal.returns-in_default-clause-ok
returns-in_default-clause-ok c =
    let is = rw c.deref.ensures.value at c.in_default.ensures in
    sym c.self.view_is
    ∙ append_none c.args.name.now c.args.piece.now c.self.inside.items.items (sym is)
    ∙ ap (with_piece c.args.name.now c.args.piece.now) c.self.view_is
