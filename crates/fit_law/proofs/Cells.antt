-- The cells and points of a code that has those of a typed unit.
use Rattle.std.proofs.Common.{◌≡◌, ℕ, zero, suc, ◌+◌, ◌-◌, ◌<◌, ◌≤◌, All, List, [], ◌∷◌, ◌++◌, length, map, take, Option, Some, None, refl, sym, ap, ◌∙◌, subst, arith, add-zero, append_assoc, append-nil, length-append}
use Rattle.std.specs.Prelude.{slice_get}
use Rattle.std.proofs.Math.Seq.{take-length}
use Rattle.std.proofs.lemmas.List.{length-map}
use Rattle.std.proofs.lemmas.List.Elements.{All-head, All-tail}
use Rattle.chk_base.specs.declared.word.Width.{Width}
use Rattle.chk_base.specs.declared.word.Width.TheVariants.{W1, W8, W16, W32}
use Rattle.chk_base.specs.Widths.{PlainWord, limit_of}
use Rattle.chk_base.specs.WordValue.{word_at}
use Rattle.step_ir.specs.declared.code.CellName.{CellName}
use Rattle.step_ir.specs.declared.code.Code.{Code}
use Rattle.step_ir.specs.declared.code.EntityCode.{EntityCode}
use Rattle.step_ir.specs.Fits.{point_count}
use Rattle.step_ir.specs.Points.{plain_of, points_of, points_in, own_cells, cells_of, first_cell, start_word}
use Rattle.typed_unit.specs.declared.typed.GlobalVar.{GlobalVar}
use Rattle.typed_unit.specs.declared.typed.Local.{Local}
use Rattle.typed_unit.specs.Plain.{PlainFunction, PlainEntity, PlainUnit}
use Rattle.lower_law.specs.Counts.{Thing, call_depth, things_in, if_body, entity_points, entity_reads, point_total}
use Rattle.lower_law.specs.Layout.{or_none, element_names, variable_names, global_names, local_names, called_names, call_names, value_names, if_some, function_names, body_names, entity_names, cells_before, names_before, layout, cell_width}
use Rattle.lower_law.specs.Statements.{CellFunction, room_all, rooms_to}
use Rattle.lower_law.specs.Translated.{entity_body, unit_over_cells}
use Rattle.lower_law.proofs.Placing.{length_names}
use Rattle.lower_law.proofs.Totals.{room_in, room_names}
use Rattle.lower_law.proofs.Wholes.{body_stands}
use Rattle.scope_law.specs.Variables.{AreVariablesFit}
use Rattle.fit_law.specs.Codes.{names_of, IsCodeOf}

-- ---- one entity more
own_next : (es : List EntityCode) (k : ℕ) → own_cells (take (suc k) es) ≡ own_cells (take k es) ++ names_of (slice_get es k)
own_next [] zero = refl
own_next [] (suc k) = refl
own_next (x ∷ xs) zero = append-nil x.names
own_next (x ∷ xs) (suc k) = ap (λ l. x.names ++ l) (own_next xs k) ∙ sym (append_assoc x.names (own_cells (take k xs)) (names_of (slice_get xs k)))

-- and its points
points_next : (es : List EntityCode) (k : ℕ) → point_count (take (suc k) es) ≡ point_count (take k es) + length (points_of (slice_get es k))
points_next [] zero = refl
points_next [] (suc k) = refl
points_next (x ∷ xs) zero = omega arith
points_next (x ∷ xs) (suc k) = let h = points_next xs k in omega arith

-- ---- the words of cells
-- the words of cells that stand before others
word_front : (xs ys : List CellName) (c : ℕ) → c < length xs → word_at (map start_word (xs ++ ys)) c ≡ word_at (map start_word xs) c
word_front [] ys c h = absurd (omega arith)
word_front (x ∷ xs) ys zero h = refl
word_front (x ∷ xs) ys (suc c) h = word_front xs ys c (omega arith)

-- and of those that stand behind others
word_back : (xs ys : List CellName) (c : ℕ) → word_at (map start_word (xs ++ ys)) (length xs + c) ≡ word_at (map start_word ys) c
word_back [] ys c = ap (word_at (map start_word ys)) (omega arith)
word_back (x ∷ xs) ys c =
    let e : length (x ∷ xs) + c ≡ suc (length xs + c) = omega arith in
    ap (word_at (map start_word (x ∷ xs ++ ys))) e ∙ word_back xs ys c

-- a cell for a value read has 32 bits
value_width : (k c : ℕ) → c < k → (word_at (map start_word (value_names k)) c).width ≡ W32
value_width zero c h = absurd (omega arith)
value_width (suc k) zero h = refl
value_width (suc k) (suc c) h = value_width k c (omega arith)

-- there are as many of them
length_values : (n : ℕ) → length (value_names n) ≡ n
length_values zero = refl
length_values (suc n) = ap (λ k. suc k) (length_values n)

-- ---- each cell starts with a word of its width
abbrev StartWell : List CellName → Type 0
StartWell [] = Unit {0}
StartWell (x ∷ xs) = (x.start < limit_of x.width) × StartWell xs

-- so do two lists of cells
start_append : (xs ys : List CellName) → StartWell xs → StartWell ys → StartWell (xs ++ ys)
start_append [] ys f g = g
start_append (x ∷ xs) ys f g = (f.0, start_append xs ys f.1 g)

-- so it does by its number
start_at : (xs : List CellName) (c : ℕ) → StartWell xs → c < length xs → (word_at (map start_word xs) c).bits < limit_of (word_at (map start_word xs) c).width
start_at [] c f h = absurd (omega arith)
start_at (x ∷ xs) zero f h = f.0
start_at (x ∷ xs) (suc c) f h = start_at xs c f.1 (omega arith)

-- 0 is a word of each width
limit_positive : (w : Width) → 0 < limit_of w
limit_positive W1 = omega arith
limit_positive W8 = omega arith
limit_positive W16 = omega arith
limit_positive W32 = omega arith

-- a start value that is there, or else 0
or_small : (xs : List ℕ) (limit at : ℕ) → 0 < limit → All (λ n. n < limit) xs → or_none (slice_get xs at) < limit
or_small [] limit at z h = z
or_small (x ∷ xs) limit zero z h = All-head (λ n. n < limit) x xs h
or_small (x ∷ xs) limit (suc at) z h = or_small xs limit at z (All-tail (λ n. n < limit) x xs h)

-- the elements of an array
element_starts : (g : GlobalVar) (at n : ℕ) → All (λ n. n < limit_of g.ctype.width) g.start → StartWell (element_names g at n)
element_starts g at zero h = tt
element_starts g at (suc n) h = (or_small g.start (limit_of g.ctype.width) at (limit_positive g.ctype.width) h, element_starts g (at + 1) n h)

-- the cells of a variable
variable_starts : (g : GlobalVar) (o : Option ℕ) → All (λ n. n < limit_of g.ctype.width) g.start → StartWell (variable_names g o)
variable_starts g None h = (or_small g.start (limit_of g.ctype.width) 0 (limit_positive g.ctype.width) h, tt)
variable_starts g (Some n) h = element_starts g 0 n h

-- of all variables
global_starts : (gs : List GlobalVar) → AreVariablesFit gs → StartWell (global_names gs)
global_starts [] fit = tt
global_starts (g ∷ gs) fit = start_append (variable_names g g.len) (global_names gs) (variable_starts g g.len (fit 0 g refl).start) (global_starts gs (λ i v e. fit (suc i) v e))

-- of locals
local_starts : (ls : List Local) → StartWell (local_names ls)
local_starts [] = tt
local_starts (l ∷ ls) = (limit_positive l.ctype.width, local_starts ls)

-- of values read
value_starts : (n : ℕ) → StartWell (value_names n)
value_starts zero = tt
value_starts (suc n) = (limit_positive W32, value_starts n)

-- of calls
call_starts : (names : ℕ → List CellName) → ((f : ℕ) → StartWell (names f)) → (xs : List Thing) → StartWell (call_names names xs)
call_starts names h [] = tt
call_starts names h (x ∷ xs) = start_append (called_names names x.calls) (call_names names xs) (of_call x.calls) (call_starts names h xs) where
  of_call : (o : Option ℕ) → StartWell (called_names names o)
  of_call None = tt
  of_call (Some f) = h f

module _ (u : PlainUnit) where
  -- of a function
  function_starts : (d f : ℕ) → StartWell (function_names u d f)
  function_starts zero f = tt
  function_starts (suc d) f = go (slice_get u.functions f) (function_starts d) where
    go : (o : Option PlainFunction) → ((g : ℕ) → StartWell (function_names u d g)) → StartWell (if_some (λ x. local_names x.locals ++ call_names (function_names u d) (things_in x.body)) o)
    go None h = tt
    go (Some x) h = start_append (local_names x.locals) (call_names (function_names u d) (things_in x.body)) (local_starts x.locals) (call_starts (function_names u d) h (things_in x.body))

  -- of a body, where there is one
  body_starts : (o : Option PlainEntity) → StartWell (if_some (body_names u) o)
  body_starts None = tt
  body_starts (Some b) =
      let cs = call_names (function_names u call_depth) (things_in b.body) in
      start_append (local_names b.locals) (cs ++ value_names (entity_reads u b)) (local_starts b.locals)
      (start_append cs (value_names (entity_reads u b)) (call_starts (function_names u call_depth) (function_starts call_depth) (things_in b.body)) (value_starts (entity_reads u b)))

  -- of the first entities
  all_starts : AreVariablesFit u.globals → (n : ℕ) → StartWell (names_before u n)
  all_starts fit zero = global_starts u.globals fit
  all_starts fit (suc n) = start_append (names_before u n) (entity_names u n) (all_starts fit n) (body_starts (entity_body n u.entities))

  -- ---- cells by their numbers
  -- how many cells the first entities have
  length_before : (k : ℕ) → length (names_before u k) ≡ cells_before u k
  length_before zero = refl
  length_before (suc k) = let l = length-append (names_before u k) (entity_names u k) in let h = length_before k in omega arith

  -- the cells of more entities stand behind
  rest_names : (m k : ℕ) → (ys : List CellName) × (names_before u (m + k) ≡ names_before u m ++ ys)
  rest_names m zero = ([], ap (names_before u) (add-zero m) ∙ sym (append-nil (names_before u m)))
  rest_names m (suc k) =
      let r = rest_names m k in
      let e : m + suc k ≡ suc (m + k) = omega arith in
      (r.0 ++ entity_names u (m + k), ap (names_before u) e ∙ ap (λ l. l ++ entity_names u (m + k)) r.1 ∙ append_assoc (names_before u m) r.0 (entity_names u (m + k)))

  -- so the words of the first are the same
  later_word : (m k c : ℕ) → c < length (names_before u m) → word_at (map start_word (names_before u (m + k))) c ≡ word_at (map start_word (names_before u m)) c
  later_word m k c h =
      let r = rest_names m k in
      ap (λ l. word_at (map start_word l) c) r.1 ∙ word_front (names_before u m) r.0 c h

  -- the cells for values read of an entity have 32 bits
  pub value_cells : (n e : ℕ) (b : PlainEntity) → e < n → entity_body e u.entities ≡ Some b → (c : ℕ) → (layout u).temp e ≤ c → c < (layout u).top e → cell_width u n c ≡ W32
  value_cells n e b lt eb c low high =
      let s = body_stands u e b eb in
      let cs = call_names (function_names u call_depth) (things_in b.body) in
      let xs = local_names b.locals ++ cs in
      let reads = entity_reads u b in
      let vs = value_names reads in
      let names : entity_names u e ≡ xs ++ vs = s.names ∙ sym (append_assoc (local_names b.locals) cs vs) in
      let tl = ap (λ (f : CellFunction). cells_before u e + (f.locals + room_all (rooms_to (unit_over_cells u) call_depth) f.body)) s.body in
      let lr = room_in u.globals (rooms_to (unit_over_cells u) call_depth) (function_names u call_depth) (room_names u call_depth) b.locals b.body in
      let la = length-append (local_names b.locals) cs in
      let ln = length_names (λ i. W32) b.locals in
      let temp : (layout u).temp e ≡ cells_before u e + length xs = tl ∙ omega arith in
      let le = ap length names in
      let lx = length-append xs vs in
      let lv = length_values reads in
      let lb = length_before e in
      let lb' = length_before (suc e) in
      let k = n - suc e in
      let i = c - (cells_before u e + length xs) in
      let en : n ≡ suc e + k = omega arith in
      let ec : c ≡ length (names_before u e) + (length xs + i) = omega arith in
      let small : i < reads = omega arith in
      let within : c < length (names_before u (suc e)) = omega arith in
      ap (λ m. (word_at (map start_word (names_before u m)) c).width) en ∙ ap (λ (w : PlainWord). w.width) (later_word (suc e) k c within)
      ∙ ap (λ l. (word_at (map start_word (names_before u e ++ l)) c).width) names
      ∙ ap (λ m. (word_at (map start_word (names_before u e ++ (xs ++ vs))) m).width) ec
      ∙ ap (λ (w : PlainWord). w.width) (word_back (names_before u e) (xs ++ vs) (length xs + i) ∙ word_back xs vs i)
      ∙ value_width reads i small

  -- ---- the cells of a code
  module _ (n : ℕ) (code : Code) (is : IsCodeOf u n code) where
    -- the cells of the first entities of the code
    globals_before : (k : ℕ) → k ≤ n → code.globals ++ own_cells (take k code.entities) ≡ names_before u k
    globals_before zero le = append-nil code.globals ∙ is.globals
    globals_before (suc k) le =
        let names = names_of (slice_get code.entities k) in
        ap (λ l. code.globals ++ l) (own_next code.entities k) ∙ sym (append_assoc code.globals (own_cells (take k code.entities)) names)
        ∙ ap (λ l. l ++ names) (globals_before k (omega arith))
        ∙ ap (λ l. names_before u k ++ l) (is.names k (omega arith))

    -- these are all its entities
    all_taken : take n code.entities ≡ code.entities
    all_taken = subst (λ k. take k code.entities ≡ code.entities) is.entities (take-length code.entities)

    -- its cells are those of the unit
    pub cells_are : cells_of code ≡ names_before u n
    cells_are = ap (λ es. code.globals ++ own_cells es) (sym all_taken) ∙ globals_before n (omega arith)

    -- each entity's cells begin where the unit's do
    pub first_is : (k : ℕ) → k ≤ n → first_cell code k ≡ cells_before u k
    first_is k le = sym (length-append code.globals (own_cells (take k code.entities))) ∙ ap length (globals_before k le) ∙ length_before k

    -- so are its points, as many as are counted for each entity
    points_before : (k : ℕ) → k ≤ n → ((e : ℕ) → e < n → length (points_in code e) ≡ if_body (entity_points u) (entity_body e u.entities)) → point_count (take k code.entities) ≡ point_total u k
    points_before zero le h = refl
    points_before (suc k) le h =
        let a = points_next code.entities k in
        let b = points_before k (omega arith) h in
        let c = h k (omega arith) in
        let d = length-map (points_of (slice_get code.entities k)) plain_of in
        omega arith

    -- in all, as many as are counted
    pub points_are : ((e : ℕ) → e < n → length (points_in code e) ≡ if_body (entity_points u) (entity_body e u.entities)) → point_count code.entities ≡ point_total u n
    points_are h = ap point_count (sym all_taken) ∙ points_before n (omega arith) h

    -- each cell starts with a word of its width
    pub starts_fit : AreVariablesFit u.globals → (c : ℕ) → c < length (cells_of code) → (word_at (map start_word (cells_of code)) c).bits < limit_of (word_at (map start_word (cells_of code)) c).width
    starts_fit fit = subst (λ l. (c : ℕ) → c < length l → (word_at (map start_word l) c).bits < limit_of (word_at (map start_word l) c).width) (sym cells_are) (λ c h. start_at (names_before u n) c (all_starts fit n) h)
