-- The places of cells, part by part.
use Rattle.std.proofs.Common.{◌≡◌, ℕ, zero, suc, ◌+◌, ◌-◌, ◌<◌, ◌≤◌, add-one, add-zero, List, [], ◌∷◌, ◌++◌, Option, Some, None, option_map, length, get_or, map, refl, sym, ap, ◌∙◌, append_assoc, arith, length-append}
use Rattle.chk_base.specs.declared.word.Width.{Width}
use Rattle.chk_base.specs.declared.word.Width.TheVariants.{W1, W8, W16, W32}
use Rattle.chk_base.specs.Widths.{bits_of}
use Rattle.step_ir.specs.declared.code.CellName.{CellName}
use Rattle.step_ir.specs.Fits.{bit_count}
use Rattle.typed_unit.specs.declared.typed.GlobalVar.{GlobalVar}
use Rattle.typed_unit.specs.declared.typed.Local.{Local}
use Rattle.typed_unit.specs.declared.typed.TypedEntity.{TypedEntity}
use Rattle.typed_unit.specs.declared.typed.TypedUnit.{TypedUnit}
use Rattle.typed_unit.specs.Plain.{PlainEntity, PlainUnit}
use Rattle.typed_unit.specs.Views.{block_of, entity_of, unit_of}
use Rattle.lower_law.specs.Counts.{call_depth, saturated, things_in, function_points, function_weight, function_bits, function_reads, entity_reads, local_bits, bit_total}
use Rattle.lower_law.specs.Layout.{element_names, variable_names, global_names, local_names, call_names, value_names, function_names, body_names, entity_names, cells_before, names_before, if_some, layout}
use Rattle.lower_law.specs.Statements.{CellFunction, no_body, room_all, rooms_to}
use Rattle.lower_law.specs.Translated.{elements, cell_count, entity, entity_body, global_cell, or_body, unit_over_cells}
use Rattle.lower_law.proofs.Bits.{all_bits}
use Rattle.lower_law.proofs.Totals.{room_in, room_names}
use Rattle.unit_counts.specs.declared.cells.EntityCells.{EntityCells}
use Rattle.unit_counts.specs.declared.tally.Tally.{Tally}
use Rattle.unit_counts.specs.declared.things.ThingSize.{ThingSize}
use Rattle.unit_counts.specs.Cells.{cells_of_entity, names_in}
use Rattle.unit_counts.specs.Sizes.{block_sizes}
use Rattle.unit_counts.specs.Tallies.{entity_size, function_size, tally_of, tallies_to}
use Rattle.unit_counts.proofs.Counted.{body_counted, level_holds}
use Rattle.unit_counts.proofs.NameParts.{sized_names}

-- the first cell behind a variable
cell_behind : (gs : List GlobalVar) (i : ℕ) (d : GlobalVar) → i < length gs → global_cell gs (suc i) ≡ global_cell gs i + elements (get_or gs i d).len
cell_behind [] i d within = omega (arith, within)
cell_behind (g ∷ gs) zero d within = omega arith
cell_behind (g ∷ gs) (suc i) d within = let h = cell_behind gs i d (omega arith) in omega arith

pub cell_next : (gs : List GlobalVar) (i : ℕ) (d : GlobalVar) → i < length gs → global_cell gs (i + 1) ≡ global_cell gs i + elements (get_or gs i d).len
cell_next gs i d within = ap (global_cell gs) (add-one i) ∙ cell_behind gs i d within

-- it is none behind the last
pub cell_within : (gs : List GlobalVar) (i : ℕ) → global_cell gs i ≤ cell_count gs
cell_within [] zero = omega arith
cell_within [] (suc i) = omega arith
cell_within (g ∷ gs) zero = omega arith
cell_within (g ∷ gs) (suc i) = let h = cell_within gs i in omega arith

-- cells are the same where their parts are
same : (a b : List CellName) (c d e f : ℕ) → a ≡ b → c ≡ d → e ≡ f
    → (let x : EntityCells = record { names = a; first = c; temp = e } in x) ≡ record { names = b; first = d; temp = f }
same a b c d e f p q r =
    ap (λ z. record { names = z; first = c; temp = e }) p
    ∙ (ap (λ z. record { names = b; first = z; temp = e }) q ∙ ap (λ z. record { names = b; first = d; temp = z }) r)

-- a cell has a bit at least
one_bit : (w : Width) → 1 ≤ bits_of w
one_bit W1 = omega arith
one_bit W8 = omega arith
one_bit W16 = omega arith
one_bit W32 = omega arith

few_names : (xs : List CellName) → length xs ≤ bit_count xs
few_names [] = omega arith
few_names (x ∷ xs) = let h = few_names xs in let w = one_bit x.width in omega arith

length_before : (u : PlainUnit) (e : ℕ) → length (names_before u e) ≡ cells_before u e
length_before u zero = refl
length_before u (suc e) = let l = length-append (names_before u e) (entity_names u e) in let h = length_before u e in omega arith

later : (u : PlainUnit) (e k : ℕ) → cells_before u e ≤ cells_before u (e + k)
later u e zero = let m = ap (cells_before u) (add-zero e) in omega arith
later u e (suc k) =
    let h = later u e k in
    let z : e + suc k ≡ suc (e + k) = omega arith in
    let m = ap (cells_before u) z in
    omega arith

-- there are no more cells than bits
pub cells_few : (u : PlainUnit) (e n most : ℕ) → bit_total u n ≤ most → e ≤ n → cells_before u e ≤ most
cells_few u e n most fits within =
    let h = few_names (names_before u n) in
    let l = length_before u n in
    let b = all_bits u n in
    let k = later u e (n - e) in
    let z : e + (n - e) ≡ n = omega arith in
    let m = ap (cells_before u) z in
    omega arith

pub cells_here : (u : PlainUnit) (e n most : ℕ) → bit_total u n ≤ most → e < n → cells_before u e + length (entity_names u e) ≤ most
cells_here u e n most fits within = cells_few u (suc e) n most fits (omega arith)

element_count : (g : GlobalVar) (at n : ℕ) → length (element_names g at n) ≡ n
element_count g at zero = refl
element_count g at (suc n) = ap (λ k. suc k) (element_count g (at + 1) n)

variable_count : (g : GlobalVar) (o : Option ℕ) → length (variable_names g o) ≡ elements o
variable_count g None = refl
variable_count g (Some n) = element_count g 0 n

-- the variables' cells are as many as their names
pub globals_few : (gs : List GlobalVar) → length (global_names gs) ≡ cell_count gs
globals_few [] = refl
globals_few (g ∷ gs) =
    let h = globals_few gs in
    let v = variable_count g g.len in
    let a = length-append (variable_names g g.len) (global_names gs) in
    omega arith

value_count : (n : ℕ) → length (value_names n) ≡ n
value_count zero = refl
value_count (suc n) = ap (λ k. suc k) (value_count n)

local_count : (ls : List Local) → length (local_names ls) ≡ length ls
local_count [] = refl
local_count (l ∷ ls) = ap (λ k. suc k) (local_count ls)

-- the cells of an entity without a body
pub no_cells : (u : PlainUnit) (e first : ℕ) → first ≡ cells_before u e → None ≡ entity_body e u.entities
    → (let x : EntityCells = record { names = []; first = first; temp = first } in x) ≡ cells_of_entity u e
no_cells u e first at none =
    same _ _ _ _ _ _ (ap (if_some (body_names u)) none) at
    (at ∙ (plain (cells_before u e) ∙ ap (λ (f : CellFunction). cells_before u e + (f.locals + room_all (rooms_to (unit_over_cells u) call_depth) f.body)) (ap (λ o. or_body no_body (option_map (entity u.globals) o)) none)))
  where
    plain : (n : ℕ) → n ≡ n + (0 + 0)
    plain n = omega arith

module _ (u : PlainUnit) (e : ℕ) (b : PlainEntity) (is : Some b ≡ entity_body e u.entities) where
  -- the cells before those for values read
  abbrev own : List CellName
  own = local_names b.locals ++ call_names (function_names u call_depth) (things_in b.body)

  temp_is : cells_before u e + length own ≡ (layout u).temp e
  temp_is =
      let rooms = rooms_to (unit_over_cells u) call_depth in
      let tl = ap (λ (f : CellFunction). cells_before u e + (f.locals + room_all rooms f.body)) (ap (λ o. or_body no_body (option_map (entity u.globals) o)) is) in
      let lr = room_in u.globals rooms (function_names u call_depth) (room_names u call_depth) b.locals b.body in
      let la = length-append (local_names b.locals) (call_names (function_names u call_depth) (things_in b.body)) in
      let ll = local_count b.locals in
      let sum : cells_before u e + length own ≡ cells_before u e + (length b.locals + room_all rooms (entity u.globals b).body) = omega arith in
      sum ∙ tl

  -- an entity's cells end behind those for values read
  pub own_count : cells_before u e + length own + entity_reads u b ≡ cells_before u (e + 1)
  own_count =
      let k = ap (λ o. cells_before u e + length (if_some (body_names u) o)) is in
      let a1 = length-append (local_names b.locals) (call_names (function_names u call_depth) (things_in b.body) ++ value_names (entity_reads u b)) in
      let a2 = length-append (call_names (function_names u call_depth) (things_in b.body)) (value_names (entity_reads u b)) in
      let a3 = length-append (local_names b.locals) (call_names (function_names u call_depth) (things_in b.body)) in
      let v = value_count (entity_reads u b) in
      let n = ap (cells_before u) (add-one e) in
      let sum : cells_before u e + length own + entity_reads u b ≡ cells_before u e + length (body_names u b) = omega arith in
      sum ∙ (k ∙ sym n)

  pub reads_few : (most : ℕ) → cells_before u (e + 1) ≤ most → entity_reads u b ≤ most
  reads_few most few = let h = own_count in omega arith

  pub own_few : (most : ℕ) → cells_before u (e + 1) ≤ most → cells_before u e + length own ≤ most
  own_few most few = let h = own_count in omega arith

  pub with_cells : (first : ℕ) (names : List CellName) (temp : ℕ) → first ≡ cells_before u e → names ≡ body_names u b → temp ≡ first + length own
      → (let x : EntityCells = record { names = names; first = first; temp = temp } in x) ≡ cells_of_entity u e
  with_cells first names temp at n t =
      same _ _ _ _ _ _ (n ∙ ap (if_some (body_names u)) is) at (t ∙ (ap (λ k. k + length own) at ∙ temp_is))

-- the cells of a body before those for values read, and with them
own_cells : (unit : TypedUnit) (b : TypedEntity) (ls : List Local) (ts : List ThingSize) (none locals own : List CellName)
    → none ≡ [] → ls ≡ b.locals → locals ≡ none ++ local_names ls → ts ≡ block_sizes b.body → own ≡ locals ++ names_in (function_names (unit_of unit) call_depth) ts
    → own ≡ local_names b.locals ++ call_names (function_names (unit_of unit) call_depth) (things_in (block_of b.body))
own_cells unit b ls ts none locals own n l m t o =
    let names = function_names (unit_of unit) call_depth in
    let first = m ∙ (ap (λ xs. xs ++ local_names ls) n ∙ ap local_names l) in
    o
    ∙ (ap (λ xs. xs ++ names_in names ts) first
    ∙ ap (λ xs. local_names b.locals ++ xs) (ap (names_in names) t ∙ sized_names names (things_in (block_of b.body))))

pub body_cells : (unit : TypedUnit) (b : TypedEntity) (ls : List Local) (ts : List ThingSize) (none locals own all : List CellName) (reads : ℕ)
    → none ≡ [] → ls ≡ b.locals → locals ≡ none ++ local_names ls → ts ≡ block_sizes b.body → own ≡ locals ++ names_in (function_names (unit_of unit) call_depth) ts
    → reads ≡ entity_reads (unit_of unit) (entity_of b) → all ≡ own ++ value_names reads → all ≡ body_names (unit_of unit) (entity_of b)
body_cells unit b ls ts none locals own all reads n l m t o r a =
    let cs = call_names (function_names (unit_of unit) call_depth) (things_in (block_of b.body)) in
    a
    ∙ (ap (λ xs. xs ++ value_names reads) (own_cells unit b ls ts none locals own n l m t o)
    ∙ (append_assoc (local_names b.locals) cs (value_names reads) ∙ ap (λ k. local_names b.locals ++ (cs ++ value_names k)) r))

pub cells_own : (unit : TypedUnit) (b : TypedEntity) (ls : List Local) (ts : List ThingSize) (none locals own : List CellName)
    → none ≡ [] → ls ≡ b.locals → locals ≡ none ++ local_names ls → ts ≡ block_sizes b.body → own ≡ locals ++ names_in (function_names (unit_of unit) call_depth) ts
    → length own ≡ length (local_names b.locals ++ call_names (function_names (unit_of unit) call_depth) (things_in (block_of b.body)))
cells_own unit b ls ts none locals own n l m t o = ap length (own_cells unit b ls ts none locals own n l m t o)

-- the read sites are few, so that they are counted in full
pub reads_counted : (unit : TypedUnit) (b : TypedEntity) (calls : List Tally) → calls ≡ tallies_to (map function_size unit.functions) call_depth → entity_reads (unit_of unit) (entity_of b) ≤ 8192
    → (tally_of calls (entity_size b)).reads ≡ entity_reads (unit_of unit) (entity_of b)
reads_counted unit b calls same few =
    ap (λ xs. (tally_of xs (entity_size b)).reads) same
    ∙ ((body_counted (tallies_to (map function_size unit.functions) call_depth) (function_points (unit_of unit) call_depth) (function_weight (unit_of unit) call_depth) (function_bits (unit_of unit) call_depth) (function_reads (unit_of unit) call_depth) (level_holds (unit_of unit) unit.functions refl call_depth) (local_bits b.locals) 1 (omega arith) (things_in (block_of b.body))).reads_is
    ∙ whole (entity_reads (unit_of unit) (entity_of b)) few)
  where
    whole : (n : ℕ) → n ≤ 8192 → saturated n ≡ n
    whole n few = omega arith
