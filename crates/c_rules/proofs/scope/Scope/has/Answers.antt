use Rattle.std.proofs.Common.{length, sym, ap, ◌∙◌}
use Rattle.c_rules.specs.Scopes.{is_declared}
use Rattle.c_rules.proofs.ScopeLists.{own}
use Rattle.c_rules.proofs.scope.Scope.has.Goals as goal

pub returns : goal.returns
returns c =
    let inside = c.self.inside in
    c.is_among.ensures
    ∙ (own c.args.name.now inside.start c.min-start.result c.len.result inside.visible.items c.deref.result.now c.deref.ensures.value c.min-start.ensures (c.len.ensures ∙ (sym c.deref.ensures.len ∙ ap length c.deref.ensures.value))
    ∙ ap (λ s. is_declared s c.args.name.now) c.self.view_is)
