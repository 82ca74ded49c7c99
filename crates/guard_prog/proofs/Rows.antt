-- The definitions computed at small programs.
use Rattle.std.proofs.Common.{◌≡◌, ℕ, Bool, true, false, if◌then◌else◌, ◌==◌, List, [], ◌∷◌, refl, Option, Some, None}
use Rattle.chk_base.specs.declared.expr.BinOp.TheVariants.{Add, Eq}
use Rattle.chk_base.specs.declared.expr.Expr.TheVariants as expr
use Rattle.chk_base.specs.declared.word.Width.TheVariants.{W1, W8}
use Rattle.chk_base.specs.Term.{Term, Const, Cell, Bin}
use Rattle.guard_prog.specs.declared.draft.Control.{Control}
use Rattle.guard_prog.specs.declared.draft.Control.TheVariants.{Goto, Push, Pop, PopPush, Fail}
use Rattle.guard_prog.specs.declared.draft.Draft.{Draft}
use Rattle.guard_prog.specs.GuardedRun.{PlainAlternative, Program, State, cells_after, run, stack_after, start_of, takes_word}
use Rattle.guard_prog.specs.WellShaped.{point_fits}

-- label 1 counts in cell 0, and label 2 fails where it has counted to 2
counts : PlainAlternative
counts = record { label = 1; guard = Const 1; sets = (0, Bin Add (Cell 0 false) (Const 1)) ∷ []; control = Goto 1; input = None }

fails : PlainAlternative
fails = record { label = 2; guard = Bin Eq (Cell 0 false) (Const 2); sets = []; control = Fail; input = None }

-- one cell of 8 bits, and point 1 over the idle point
counting : Program
counting =
    record {
      width = λ q. W8;
      starts = λ q. 0;
      first = 0 ∷ 1 ∷ [];
      points = λ i. if i == 1 then counts ∷ fails ∷ [] else [];
      depth = 1;
    }

-- whether a state is a failure, if there is one
failed : Option State → Option Bool
failed None = None
failed (Some s) = Some s.is_failed

-- whether the run with these labels has failed, if it is one
outcome : List ℕ → Option Bool
outcome labels = failed (run counting (pairs_of labels) (start_of counting))
  where
    pairs_of : List ℕ → List (ℕ × ℕ)
    pairs_of [] = []
    pairs_of (label ∷ labels) = (label, 0) ∷ pairs_of labels

-- the five runs of at most three turns, of which only the last fails
empty_run : outcome [] ≡ Some false
unfolding counts fails counting failed outcome
empty_run = refl

one_turn : outcome (1 ∷ []) ≡ Some false
unfolding counts fails counting failed outcome
one_turn = refl

two_turns : outcome (1 ∷ 1 ∷ []) ≡ Some false
unfolding counts fails counting failed outcome
two_turns = refl

three_turns : outcome (1 ∷ 1 ∷ 1 ∷ []) ≡ Some false
unfolding counts fails counting failed outcome
three_turns = refl

failing_run : outcome (1 ∷ 1 ∷ 2 ∷ []) ≡ Some true
unfolding counts fails counting failed outcome
failing_run = refl

-- others are no runs: a guard that is 0, an unknown label, a turn after a failure, a word where there is no input
guard_is_zero : outcome (1 ∷ 2 ∷ []) ≡ None
unfolding counts fails counting failed outcome
guard_is_zero = refl

unknown_label : outcome (3 ∷ []) ≡ None
unfolding counts fails counting failed outcome
unknown_label = refl

after_failure : outcome (1 ∷ 1 ∷ 2 ∷ 1 ∷ []) ≡ None
unfolding counts fails counting failed outcome
after_failure = refl

word_without_input : failed (run counting ((1, 1) ∷ []) (start_of counting)) ≡ None
unfolding counts fails counting failed
word_without_input = refl

-- two cells of 8 bits that hold 3 and 7
holding : ℕ → ℕ
holding q = if q == 0 then 3 else 7

-- the two cells are exchanged: sets don't see each other
exchange : List (ℕ × Term)
exchange = (0, Cell 1 false) ∷ (1, Cell 0 false) ∷ []

exchanged_first : cells_after (λ q. W8) holding 0 None exchange 0 ≡ 7
unfolding holding exchange
exchanged_first = refl

exchanged_second : cells_after (λ q. W8) holding 0 None exchange 1 ≡ 3
unfolding holding exchange
exchanged_second = refl

-- the first set takes the word, and the second its value over the old cells
input_first : cells_after (λ q. W8) holding 200 (Some W8) exchange 0 ≡ 200
unfolding holding exchange
input_first = refl

input_second : cells_after (λ q. W8) holding 200 (Some W8) exchange 1 ≡ 3
unfolding holding exchange
input_second = refl

-- a value is taken modulo the width of its cell
modulo_width : cells_after (λ q. W8) holding 0 None ((0, Const 259) ∷ []) 0 ≡ 3
unfolding holding
modulo_width = refl

-- words of an input's width
word_fits : takes_word (Some W1) 1 ≡ true
word_fits = refl

word_too_large : takes_word (Some W1) 2 ≡ false
word_too_large = refl

-- controls, on the stack with points 4 and 5 over the idle point, the depth being 3
goes : stack_after 3 (Goto 6) (5 ∷ 4 ∷ 0 ∷ []) ≡ Some (6 ∷ 4 ∷ 0 ∷ [])
goes = refl

pushes : stack_after 3 (Push 6 7) (5 ∷ 4 ∷ 0 ∷ []) ≡ Some (7 ∷ 6 ∷ 4 ∷ 0 ∷ [])
pushes = refl

pushes_beyond : stack_after 2 (Push 6 7) (5 ∷ 4 ∷ 0 ∷ []) ≡ None
pushes_beyond = refl

pops : stack_after 3 Pop (5 ∷ 4 ∷ 0 ∷ []) ≡ Some (4 ∷ 0 ∷ [])
pops = refl

pops_bottom : stack_after 3 Pop (0 ∷ []) ≡ None
pops_bottom = refl

pops_and_pushes : stack_after 3 (PopPush 6) (5 ∷ 4 ∷ 0 ∷ []) ≡ Some (6 ∷ 4 ∷ 0 ∷ [])
pops_and_pushes = refl

pops_and_pushes_bottom : stack_after 3 (PopPush 6) (0 ∷ []) ≡ None
pops_and_pushes_bottom = refl

fails_in_place : stack_after 3 Fail (5 ∷ 4 ∷ 0 ∷ []) ≡ Some (5 ∷ 4 ∷ 0 ∷ [])
fails_in_place = refl

-- a draft whose point 1 has one alternative with this label, set and control
draft_with : ℕ → ℕ → Control → Draft
draft_with label cell control =
    record {
      widths = W8 ∷ [];
      starts = 0 ∷ [];
      first = 0 ∷ 1 ∷ [];
      points = [] ∷ (record { label = label; guard = expr.Const 1; sets = record { cell = cell; value = expr.Cell 0 false } ∷ []; control = control; input = None } ∷ []) ∷ [];
      depth = 1;
    }

sound_at_idle : point_fits (draft_with 1 0 (Goto 1)) 0 ≡ true
unfolding draft_with
sound_at_idle = refl

sound_above : point_fits (draft_with 1 0 (Goto 1)) 1 ≡ true
unfolding draft_with
sound_above = refl

no_such_cell : point_fits (draft_with 1 1 (Goto 1)) 1 ≡ false
unfolding draft_with
no_such_cell = refl

no_such_point : point_fits (draft_with 1 0 (Goto 2)) 1 ≡ false
unfolding draft_with
no_such_point = refl

names_idle : point_fits (draft_with 1 0 (Goto 0)) 1 ≡ false
unfolding draft_with
names_idle = refl

no_such_label : point_fits (draft_with 1048576 0 (Goto 1)) 1 ≡ false
unfolding draft_with
no_such_label = refl
