-- The row of the worked example: cell 0 counts, label 2 fails where it is 2.
use Rattle.std.proofs.Common.{◌≡◌, ℕ, Bool, true, false, if◌then◌else◌, ◌==◌, List, [], ◌∷◌, refl, Option, Some, None}
use Rattle.chk_base.specs.Term.{Term, Const, Cell, Bin}
use Rattle.chk_base.specs.declared.word.Width.TheVariants.{W8}
use Rattle.chk_base.specs.declared.expr.BinOp.TheVariants as bin
use Rattle.guard_prog.specs.declared.draft.Control.TheVariants.{Goto, Fail}
use Rattle.guard_prog.specs.GuardedRun.{PlainAlternative, Program, State, run, start_of}
use Rattle.turn_law.specs.Padded.{Phase, path, beginning, trimmed}

abbrev counts : PlainAlternative
counts = record { label = 1; guard = Const 1; sets = (0, Bin bin.Add (Cell 0 false) (Const 1)) ∷ []; control = Goto 1; input = None }

abbrev fails : PlainAlternative
fails = record { label = 2; guard = Bin bin.Eq (Cell 0 false) (Const 2); sets = []; control = Fail; input = None }

abbrev example : Program
example = record { width = λ q. W8; starts = λ q. 0; first = 0 ∷ 1 ∷ []; points = λ q. if q == 1 then counts ∷ fails ∷ [] else []; depth = 1 }

abbrev failed : Option State → Option Bool
failed None = None
failed (Some s) = Some s.is_failed

abbrev over : Option Phase → Option (Bool × Bool)
over None = None
over (Some ph) = Some (ph.is_over, ph.state.is_failed)

runs_fail : failed (run example ((1, 0) ∷ (1, 0) ∷ (2, 0) ∷ []) (start_of example)) ≡ Some true
runs_fail = refl

runs_on : failed (run example ((1, 0) ∷ (1, 0) ∷ (1, 0) ∷ []) (start_of example)) ≡ Some false
runs_on = refl

no_run : failed (run example ((1, 0) ∷ (2, 0) ∷ []) (start_of example)) ≡ None
no_run = refl

padded_path : over (path example ((1, 0) ∷ (0, 0) ∷ (0, 0) ∷ []) (beginning example)) ≡ Some (true, false)
padded_path = refl

none_after : over (path example ((1, 0) ∷ (0, 0) ∷ (1, 0) ∷ []) (beginning example)) ≡ None
none_after = refl

trims : trimmed ((1, 0) ∷ (0, 0) ∷ (0, 0) ∷ []) ≡ (1, 0) ∷ []
trims = refl
