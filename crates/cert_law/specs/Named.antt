-- Applications whose entities have names.
use Rattle.std.specs.Prelude.{◌≡◌, ℕ, ◌+◌, ◌<◌, true, length}
use Rattle.application.specs.declared.app.App.{App}
use Rattle.cert_form.specs.Words.{is_name}
use Rattle.certified_run.specs.Names.{entity_name}

-- each task and each routine is called as names are written: a letter or `_`, and then letters, digits and `_`
abbrev pub HaveNames : App → Type 0
HaveNames app = (e : ℕ) → e < length app.tasks + length app.routines → is_name (entity_name app e) ≡ true
