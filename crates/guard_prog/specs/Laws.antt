-- What holds of every run.
use Rattle.std.specs.Prelude.{◌≡◌, ℕ, ◌+◌, ◌≤◌, ◌<◌, Bool, true, false, ◌&&◌, not, ◌==◌, List, [], ◌∷◌, ◌++◌, length}
use Rattle.chk_base.specs.Widths.{limit_of}
use Rattle.guard_prog.specs.declared.draft.Draft.{Draft}
use Rattle.guard_prog.specs.Drafts.{program_of}
use Rattle.guard_prog.specs.GuardedRun.{Program, State, IsRun, IsRunTo}
use Rattle.guard_prog.specs.WellShaped.{IsWellShaped}

-- a prefix of a run is a run
abbrev pub PrefixesAreRuns : Type 0
PrefixesAreRuns = (p : Program) (pairs more : List (ℕ × ℕ)) → IsRun p (pairs ++ more) → IsRun p pairs

-- after a failure no turn follows
abbrev pub FailureEndsRuns : Type 0
FailureEndsRuns =
    (p : Program) (pairs more : List (ℕ × ℕ)) (pair : ℕ × ℕ) (s : State) →
    IsRunTo p pairs s → s.is_failed ≡ true → ¬ IsRun p (pairs ++ pair ∷ more)

-- at most so many points as the depth are above the bottom
abbrev pub DepthStaysWithin : Type 0
DepthStaysWithin =
    (d : Draft) (pairs : List (ℕ × ℕ)) (s : State) →
    IsWellShaped d → IsRunTo (program_of d) pairs s → length s.stack ≤ d.depth + 1

-- a stack, top first, has point 0 at its bottom and nowhere else
abbrev pub ends_idle : List ℕ → Bool
ends_idle [] = false
ends_idle (q ∷ []) = q == 0
ends_idle (q ∷ next ∷ below) = not (q == 0) && ends_idle (next ∷ below)

-- the stack has point 0 at its bottom and nowhere else
abbrev pub BottomStaysIdle : Type 0
BottomStaysIdle =
    (d : Draft) (pairs : List (ℕ × ℕ)) (s : State) →
    IsWellShaped d → IsRunTo (program_of d) pairs s → ends_idle s.stack ≡ true

-- each cell's value is below 2 to its width
abbrev pub CellsStayWithin : Type 0
CellsStayWithin =
    (d : Draft) (pairs : List (ℕ × ℕ)) (s : State) →
    IsWellShaped d → IsRunTo (program_of d) pairs s → (q : ℕ) → s.cells q < limit_of ((program_of d).width q)
