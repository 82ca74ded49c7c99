-- Scopes without where their names lie.
use Rattle.c_rules.specs.declared.scope.Declared as of
use Rattle.c_rules.specs.declared.scope.Visible as seen
use Rattle.c_rules.specs.Scopes.{Declared, Visible}

abbrev pub plain_declared : of.Declared → Declared
plain_declared d = record { name = d.name.now; type_name = d.type_name }

abbrev pub plain_visible : seen.Visible → Visible
plain_visible v = record { name = v.name.now.text; local = v.local }
