-- The locals of a body, and those of them that can be seen at a place.
use Rattle.std.specs.Prelude.{ℕ, Bool, if◌then◌else◌, List, [], ◌∷◌, ◌++◌, length, take, drop, fold, Option, Some, None}
use Rattle.std.specs.List.{list_any}
use Rattle.std.specs.Str.{bytes_eq}
use Rattle.chk_base.specs.declared.text.Name.{Name}
use Rattle.c_unit.specs.declared.expression.TypeName.{TypeName}
use Rattle.c_rules.specs.declared.meaning.LocalMeaning.{LocalMeaning}

-- a parameter or local as it is declared
pub record Declared : Type 0 where
  pub name : Name
  pub type_name : TypeName

-- a local that can be seen, by its name
pub record Visible : Type 0 where
  pub name : List ℕ
  pub local : LocalMeaning

-- the locals that the body has declared so far, and those that can be seen, each in the order of the text; of the latter those from number
-- `start` on are of the innermost scope
pub record Scope : Type 0 where
  pub locals : List Declared
  pub visible : List Visible
  pub start : ℕ

-- the scope of a body, without a local
abbrev pub fresh : Scope
fresh = record { locals = []; visible = []; start = 0 }

-- the local has this name
abbrev pub is_named : List ℕ → Visible → Bool
is_named name v = bytes_eq name v.name

-- the local of this name, if it is one, and else the one that was found before
abbrev pub nearer : List ℕ → Option LocalMeaning → Visible → Option LocalMeaning
nearer name found v = if is_named name v then Some v.local else found

-- the local that a name means: the last one of that name
abbrev pub local_named : List Visible → List ℕ → Option LocalMeaning
local_named visible name = fold (nearer name) None visible

-- C3: the innermost scope has a local of this name
abbrev pub is_declared : Scope → List ℕ → Bool
is_declared scope name = list_any (is_named name) (drop scope.start scope.visible)

-- with one more local, whose number is that of the locals before it
abbrev pub declared : Name → TypeName → Bool → Scope → Scope
declared name type_name constant scope =
    record {
      locals = scope.locals ++ record { name = name; type_name = type_name } ∷ [];
      visible =
          scope.visible
          ++ record { name = name.text; local = record { number = length scope.locals; type_name = type_name; constant = constant } } ∷ [];
      start = scope.start;
    }

-- in a new scope within
abbrev pub entered : Scope → Scope
entered scope = record { locals = scope.locals; visible = scope.visible; start = length scope.visible }

-- back in a scope that had so many locals that could be seen, from where one within it ends
abbrev pub left_at : ℕ → ℕ → Scope → Scope
left_at count start inner = record { locals = inner.locals; visible = take count inner.visible; start = start }

-- back in a scope, from where one within it ends
abbrev pub left : Scope → Scope → Scope
left scope inner = left_at (length scope.visible) scope.start inner
