-- The parts of the code.
use Rattle.std.proofs.Common.{◌∙◌, ◌<◌, ◌^◌, ap, sym, subst, map}
use Rattle.typed_unit.specs.Views.{unit_of, function_of}
use Rattle.lower_law.specs.Translated.{cell_count, function}
use Rattle.lower_pieces.specs.Trees as pieces
use Rattle.lower_code.specs.Tables.{tables_to}
use Rattle.lower.specs.Ready.{AreSmall}
use Rattle.lower.proofs.Gathering.{name_of}
use Rattle.lower.proofs.Limits.{few_globals, functions_small}
use Rattle.lower.proofs.Whole.{code_is}
use Rattle.lower.proofs.lower.code_of.Goals as goal

pub function_trees-requires-clause-cells : goal.function_trees-requires-clause-cells
function_trees-requires-clause-cells c =
    subst (λ gs. cell_count gs < 2 ^ 16) (sym c.as_slice.ensures) (few_globals (unit_of c.args.unit.now) c.args.entities c.requires.cells)

pub function_trees-requires-clause-small : goal.function_trees-requires-clause-small
function_trees-requires-clause-small c =
    subst (λ gs. AreSmall gs (map function_of c.as_slice-2.result.now)) (sym c.as_slice.ensures)
    (subst (λ fs. AreSmall c.args.unit.now.globals (map function_of fs)) (sym c.as_slice-2.ensures) (functions_small (unit_of c.args.unit.now) c.requires.few c.requires.right))

pub all-requires-clause-trees : goal.all-requires-clause-trees
all-requires-clause-trees c =
    record {
      trees =
          ap (map pieces.function_of) c.as_slice-4.ensures.value
          ∙ (c.in_ok-functions.ensures
          ∙ (ap (λ gs. map (function gs) (map function_of c.as_slice-2.result.now)) c.as_slice.ensures ∙ ap (λ fs. map (function c.args.unit.now.globals) (map function_of fs)) c.as_slice-2.ensures));
      levels = c.as_slice-5.ensures ∙ (c.in_ok-tables.ensures.tables ∙ (ap (tables_to c.as_slice-3.result.now) c.in_ok-tables.ensures.levels ∙ ap (λ fs. tables_to fs 17) (c.as_slice-3.ensures.value ∙ sym c.as_slice-4.ensures.value)));
    }

pub returns-clause-code : goal.returns-clause-code
returns-clause-code c =
    code_is (unit_of c.args.unit.now) c.args.entities _ c.in_ok-codes.ensures.long c.in_ok-codes.ensures.codes (c.globals.view_is ∙ c.in_ok-globals.ensures.globals)
    (c.in_ok-function_names.ensures ∙ ap (λ fs. map name_of (map function_of fs)) c.as_slice-6.ensures)
