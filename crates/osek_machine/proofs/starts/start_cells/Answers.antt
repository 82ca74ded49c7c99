use Rattle.std.proofs.Common.{◌∙◌}
use Rattle.osek_machine.proofs.starts.start_cells.Goals as goal
use Rattle.osek_machine.proofs.StartWords.{few_cut, start_cut}

pub cells_with-requires : goal.cells_with-requires
cells_with-requires c = few_cut (record { reads = c.cells_within.ensures.reads; own = c.cells_within.ensures.own; globals = c.cells_within.ensures.globals; few_cells = c.cells_within.ensures.few_cells; few_sets = c.cells_within.ensures.few_sets }) c.args.code.now _ c.requires (c.as_slice.ensures.value ∙ c.in_ok-words.ensures)

pub returns : goal.returns
returns c =
    c.in_ok-cells.ensures ∙ c.as_slice.ensures.value ∙ c.in_ok-words.ensures ∙ start_cut c.args.code.now c.requires
