-- The statements stand as the body does.
use Rattle.std.proofs.Common.{ℕ, ◌+◌, ◌^◌, List, sym, subst, arith}
use Rattle.std.specs.Prelude.{map}
use Rattle.step_ir.specs.Points.{item_of}
use Rattle.lower_law.specs.Exact.{exchanged}
use Rattle.lower_law.specs.Statements.{block}
use Rattle.lower_pieces.specs.declared.tree.StatementTree.{StatementTree}
use Rattle.lower_pieces.specs.Acting.{context_of}
use Rattle.lower_pieces.specs.Fitting.{AllFit}
use Rattle.lower_pieces.specs.Pieces.{piece_of}
use Rattle.lower_pieces.specs.Sized.{number_at}
use Rattle.lower_pieces.specs.Trees.{statement_of}
use Rattle.lower_code.proofs.Pieced.{size_found, pieces_done}
use Rattle.lower_code.proofs.expansion.Expansion.pieces_with.Goals as goal

pub overflow_cast-end : goal.overflow_cast-end
overflow_cast-end c =
    let k = size_found c.args.at c.as_slice-3.result.now c.args.table.now.sizes c.as_slice-4.result.now c.args.f.now c.sized_all.result c.as_slice-3.ensures c.as_slice-4.ensures.value c.sized_all.ensures c.requires.points in
    omega (arith, k, c.requires.points)

pub overflow_add-end : goal.overflow_add-end
overflow_add-end c =
    let k = size_found c.args.at c.as_slice-3.result.now c.args.table.now.sizes c.as_slice-4.result.now c.args.f.now c.sized_all.result c.as_slice-3.ensures c.as_slice-4.ensures.value c.sized_all.ensures c.requires.points in
    omega (arith, k, c.requires.points)

pub all-requires : goal.all-requires
all-requires c =
    let functions = c.args.self.now.functions.now in
    let temp = c.args.self.now.temp in
    let base = c.args.frame.now.base in
    let cell = c.args.frame.now.base + c.args.f.now.locals in
    subst (λ (ns : List ℕ). AllFit (2 ^ 16) functions (number_at ns) (number_at c.as_slice-2.result.now) temp base c.args.at cell (block (map statement_of c.as_slice-5.result.now))) (sym c.as_slice.ensures)
    (subst (λ (ns : List ℕ). AllFit (2 ^ 16) functions (number_at c.args.table.now.sizes) (number_at ns) temp base c.args.at cell (block (map statement_of c.as_slice-5.result.now))) (sym c.as_slice-2.ensures)
    (subst (λ (ss : List StatementTree). AllFit (2 ^ 16) functions (number_at c.args.table.now.sizes) (number_at c.args.table.now.rooms) temp base c.args.at cell (block (map statement_of ss))) (sym c.as_slice-5.ensures.value)
    c.requires.all))

pub returns : goal.returns
returns c =
    let k = size_found c.args.at c.as_slice-3.result.now c.args.table.now.sizes c.as_slice-4.result.now c.args.f.now c.sized_all.result c.as_slice-3.ensures c.as_slice-4.ensures.value c.sized_all.ensures c.requires.points in
    pieces_done (exchanged c.args.self.now.first) c.args.self.now.temp c.args.self.now.functions.now c.args.f.now (context_of c.args.frame.now) c.args.at
    c.as_slice.result.now c.args.table.now.sizes c.as_slice-2.result.now c.args.table.now.rooms c.as_slice-5.result.now (map item_of c.in_ok-after.after) c.new-pieces.result.items (map piece_of c.all.new.out.items) c.sized_all.result
    c.as_slice.ensures c.as_slice-2.ensures c.as_slice-5.ensures.value c.new-pieces.ensures.items k c.in_ok-after.ensures c.in_ok-all.ensures
