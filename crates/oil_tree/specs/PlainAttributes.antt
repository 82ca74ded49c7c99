-- Attributes as plain trees, without where they lie in memory.
use Rattle.std.specs.Prelude.{ℕ, suc, max}
use Rattle.chk_base.specs.declared.text.Name.{Name}
use Rattle.oil_tree.specs.declared.tree.Value.{Value}

-- attributes in the order of the text: none, or the first with its name, its value and the attributes nested in it, and then the others
pub data PlainAttributes : Type 0 where
  NoAttribute : PlainAttributes
  AttributeThen : (name : Name) (value : Value) (nested others : PlainAttributes) → PlainAttributes

-- how many levels of attributes there are
abbrev pub levels : PlainAttributes → ℕ
levels NoAttribute = 0
levels (AttributeThen name value nested others) = max (suc (levels nested)) (levels others)
