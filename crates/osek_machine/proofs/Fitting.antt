-- A code that fits: what its points name is among its cells, which are few.
use Rattle.std.proofs.Common.{◌≡◌, ℕ, ◌+◌, ◌<◌, ◌≤◌, List, [], ◌∷◌, length, Option, Some, None, slice_get, arith}
use Rattle.std.proofs.lemmas.List.{length-map}
use Rattle.application.specs.declared.app.App.{App}
use Rattle.chk_base.specs.Term.{Term}
use Rattle.chk_base.specs.WordValue.{IsWithin}
use Rattle.osek_machine.proofs.Laws.{AreCellsWithin}
use Rattle.osek_machine.specs.Within.{IsIndexWithin, IsTargetWithin, AreSetsWithin, AreItemsWithin, IsReturnWithin, IsActionWithin, IsPointWithin}
use Rattle.step_ir.specs.declared.code.Code.{Code}
use Rattle.step_ir.specs.Fits.{ReadsBetween, bit_count, IsOwn, IsIndexFit, IsTargetFit, AreSetsFit, IsReturnFit, IsActionFit, AreTrapsFit, AreNextsFit, Fits}
use Rattle.step_ir.specs.Points.{PlainTarget, PlainAction, Read, Write, Local, Branch, Input, Call, Return, Invoke, Assert, End, PlainPoint, cells_of, first_cell, start_word, start_words, points_in, width_in}

-- a code with few bits has few cells
pub few_words : AreCellsWithin → (code : Code) → bit_count (cells_of code) ≤ 8192 → length (start_words code) ≤ 8192
few_words law code few = omega (arith, length-map (cells_of code) start_word, law.few_cells code, few)

module _ (law : AreCellsWithin) (app : App) (code : Code) (e : ℕ) (few : bit_count (cells_of code) ≤ 8192) where
  last_cell : first_cell code (e + 1) ≤ length (start_words code)
  last_cell = omega (arith, law.own code (e + 1), length-map (cells_of code) start_word)

  reads_within : (t : Term) → ReadsBetween (first_cell code e) (first_cell code (e + 1)) t → IsWithin (length (start_words code)) t
  reads_within t r = law.reads (first_cell code e) (first_cell code (e + 1)) (length (start_words code)) t r last_cell

  own_below : (cell : ℕ) → IsOwn code e cell → cell < length (start_words code)
  own_below cell own = omega (arith, own.below, last_cell)

  index_within : (o : Option Term) → IsIndexFit code e o → IsIndexWithin (length (start_words code)) o
  index_within None fit = tt
  index_within (Some t) fit = reads_within t fit

  target_within : (t : PlainTarget) → IsTargetFit code e t → IsTargetWithin (length (start_words code)) t
  target_within t fit =
      record {
        some = omega (arith, fit.some);
        within = omega (arith, fit.globals, law.globals code, length-map (cells_of code) start_word);
        index = index_within t.index fit.index;
        few = few_words law code few;
      }

  sets_within : (ss : List (ℕ × Term)) → AreSetsFit code e ss → AreSetsWithin (length (start_words code)) ss
  sets_within [] fit = tt
  sets_within (s ∷ ss) fit =
      (own_below s.0 fit.0.cell, reads_within s.1 fit.0.value, sets_within ss fit.2)

  -- distinct cells are at most as many as there are
  few_sets : (ss : List (ℕ × Term)) → AreSetsFit code e ss → length ss ≤ length (start_words code)
  few_sets ss fit = omega (arith, law.few_sets code e ss fit, length-map (cells_of code) start_word)

  return_within : (o : Option (ℕ × Term)) → IsReturnFit code e o → IsReturnWithin (length (start_words code)) o
  return_within None fit = tt
  return_within (Some s) fit = (own_below s.0 fit.cell, reads_within s.1 fit.value)

  action_within : (a : PlainAction) → IsActionFit code e app a → IsActionWithin (width_in code) (length (start_words code)) a
  action_within (Read t into) fit = (target_within t fit.0, own_below into fit.1, fit.2)
  action_within (Write t term) fit = (target_within t fit.0, reads_within term fit.1)
  action_within (Local cell term) fit = (own_below cell fit.0, reads_within term fit.1)
  action_within (Branch term) fit = reads_within term fit
  action_within (Input cell) fit = own_below cell fit
  action_within (Call f sets) fit = (few_sets sets fit.1, sets_within sets fit.1)
  action_within (Return set) fit = return_within set fit
  action_within (Invoke s) fit = tt
  action_within (Assert term) fit = reads_within term fit
  action_within End fit = tt

  traps_within : (xs : List (Term × ℕ)) → AreTrapsFit code e xs → AreItemsWithin (length (start_words code)) xs
  traps_within [] fit = tt
  traps_within (x ∷ xs) fit = (reads_within x.0 fit.0, traps_within xs fit.3)

  nexts_within : (xs : List (Term × ℕ)) → AreNextsFit code e xs → AreItemsWithin (length (start_words code)) xs
  nexts_within [] fit = tt
  nexts_within (x ∷ xs) fit = (reads_within x.0 fit.0, nexts_within xs fit.2)

-- each point of a code that fits is over the cells of the code
pub point_within : AreCellsWithin → (app : App) (code : Code) (e at : ℕ) (p : PlainPoint) → Fits app code → slice_get (points_in code e) at ≡ Some p → IsPointWithin (width_in code) (length (start_words code)) p
point_within law app code e at p fits is =
    let fit = fits.points e at p is in
    record {
      action = action_within law app code e fits.few_bits p.action fit.action;
      traps = traps_within law app code e fits.few_bits p.traps fit.traps;
      nexts = nexts_within law app code e fits.few_bits p.nexts fit.nexts;
    }
