-- Guards as lists of terms, and each list as one term.
use Rattle.std.specs.Prelude.{List, [], ◌∷◌, Option, Some, None}
use Rattle.chk_base.specs.Term.{Term, Const, term_of}
use Rattle.lower_law.specs.Items.{guarded}
use Rattle.lower_pieces.specs.declared.copies.Guard.{Guard}
use Rattle.lower_pieces.specs.declared.copies.Guard.TheVariants as of

-- the terms of a guard, the innermost first
abbrev pub guard_of : Guard → List Term
guard_of of.Always = []
guard_of (of.When' t p g) = term_of t.now ∷ guard_of g

-- a guard as one term, and none where it always holds
abbrev pub guard_term : List Term → Option Term
guard_term [] = None
guard_term (g ∷ gs) = Some (guarded (g ∷ gs) (Const 1))
