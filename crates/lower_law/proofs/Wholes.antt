-- The cells of a whole unit: each entity's stand behind those of the entities before it.
use Rattle.std.proofs.Common.{◌≡◌, ℕ, zero, suc, ◌+◌, ◌-◌, ◌<◌, ◌≤◌, List, [], ◌∷◌, ◌++◌, length, Some, refl, sym, ap, ◌∙◌, subst, arith, add-zero, append_assoc, length-append}
use Rattle.std.specs.Prelude.{map, option_map}
use Rattle.chk_base.specs.declared.word.Width.{Width}
use Rattle.chk_base.specs.WordValue.{word_at}
use Rattle.step_ir.specs.declared.code.CellName.{CellName}
use Rattle.step_ir.specs.Points.{start_word}
use Rattle.typed_unit.specs.Plain.{PlainEntity, PlainUnit}
use Rattle.lower_law.specs.Counts.{call_depth, things_in, entity_reads}
use Rattle.lower_law.specs.Exact.{FitsEntity}
use Rattle.lower_law.specs.FitsBody.{FitsFun, FitsTo}
use Rattle.lower_law.specs.Layout.{call_names, local_names, value_names, global_names, function_names, body_names, entity_names, if_some, cells_before, names_before, cell_width, layout}
use Rattle.lower_law.specs.Scoped.{IsBody}
use Rattle.lower_law.specs.Statements.{CellFunction, no_body, room_all, rooms_to}
use Rattle.lower_law.specs.Translated.{entity, entity_body, or_body, unit_over_cells}
use Rattle.lower_law.proofs.Placing.{width_among, HasNames, front_names, back_names, length_names}
use Rattle.lower_law.proofs.Fitting.{body_fits}
use Rattle.lower_law.proofs.Totals.{room_in, room_names}

among_words : (xs : List CellName) (i : ℕ) → (word_at (map start_word xs) i).width ≡ width_among xs i
among_words [] i = refl
among_words (x ∷ xs) zero = refl
among_words (x ∷ xs) (suc i) = among_words xs i

length_values : (n : ℕ) → length (value_names n) ≡ n
length_values zero = refl
length_values (suc n) = ap (λ k. suc k) (length_values n)

module _ (u : PlainUnit) where
  length_before : (e : ℕ) → length (names_before u e) ≡ cells_before u e
  length_before zero = refl
  length_before (suc e) = let l = length-append (names_before u e) (entity_names u e) in let h = length_before e in omega arith

  -- all cells have their names' widths
  all_named : (n : ℕ) → HasNames (cell_width u n) 0 (names_before u n)
  all_named n = record { at = λ i q. let z : 0 + i ≡ i = omega arith in ap (λ k. (word_at (map start_word (names_before u n)) k).width) z ∙ among_words (names_before u n) i }

  -- so have those of the entities before
  prefix : (width : ℕ → Width) (n k : ℕ) → HasNames width 0 (names_before u (n + k)) → HasNames width 0 (names_before u n)
  prefix width n zero h = subst (λ m. HasNames width 0 (names_before u m)) (add-zero n) h
  prefix width n (suc k) h =
      let e : n + suc k ≡ suc (n + k) = omega arith in
      prefix width n k (front_names width 0 (names_before u (n + k)) (entity_names u (n + k)) (subst (λ m. HasNames width 0 (names_before u m)) e h))

  before_named : (n m : ℕ) → m ≤ n → HasNames (cell_width u n) 0 (names_before u m)
  before_named n m le =
      let e : n ≡ m + (n - m) = omega arith in
      prefix (cell_width u n) m (n - m) (subst (λ k. HasNames (cell_width u n) 0 (names_before u k)) e (all_named n))

  entity_named : (n e : ℕ) → e < n → HasNames (cell_width u n) (cells_before u e) (entity_names u e)
  entity_named n e lt =
      let h = back_names (cell_width u n) 0 (names_before u e) (entity_names u e) (before_named n (suc e) (omega arith)) in
      let l = length_before e in
      let z : 0 + length (names_before u e) ≡ cells_before u e = omega arith in
      subst (λ c. HasNames (cell_width u n) c (entity_names u e)) z h

  globals_low : (e : ℕ) → length (global_names u.globals) ≤ cells_before u e
  globals_low zero = omega arith
  globals_low (suc e) = let h = globals_low e in omega arith

  -- the layout of an entity that has a body
  pub record Stands (e : ℕ) (b : PlainEntity) : Type 0 where
    pub names : entity_names u e ≡ body_names u b
    pub body : (unit_over_cells u).entity e ≡ entity u.globals b

  pub body_stands : (e : ℕ) (b : PlainEntity) → entity_body e u.entities ≡ Some b → Stands e b
  body_stands e b h = record { names = ap (if_some (body_names u)) h; body = ap (λ o. or_body no_body (option_map (entity u.globals) o)) h }

  -- an entity whose body is right fits its cells
  pub entity_fits : (n e : ℕ) (b : PlainEntity) → e < n → entity_body e u.entities ≡ Some b → IsBody u b → FitsEntity (unit_over_cells u) call_depth (layout u) (cell_width u n) e
  entity_fits n e b lt eb ok =
      let width = cell_width u n in
      let s = body_stands e b eb in
      let xs = local_names b.locals ++ call_names (function_names u call_depth) (things_in b.body) in
      let vs = value_names (entity_reads u b) in
      let assoc = append_assoc (local_names b.locals) (call_names (function_names u call_depth) (things_in b.body)) vs in
      let nm = subst (λ l. HasNames width (cells_before u e) l) (s.names ∙ sym assoc) (entity_named n e lt) in
      let mine = front_names width (cells_before u e) xs vs nm in
      let lx = length-append xs vs in
      let lv = length_values (entity_reads u b) in
      let la = length-append (local_names b.locals) (call_names (function_names u call_depth) (things_in b.body)) in
      let ln = length_names width b.locals in
      let lr = room_in u.globals (rooms_to (unit_over_cells u) call_depth) (function_names u call_depth) (room_names u call_depth) b.locals b.body in
      let le = ap length (s.names ∙ sym assoc) in
      let tl = ap (λ (f : CellFunction). cells_before u e + (f.locals + room_all (rooms_to (unit_over_cells u) call_depth) f.body)) s.body in
      let temp : (layout u).temp e ≡ cells_before u e + length xs = tl ∙ omega arith in
      let room : cells_before u e + length xs + entity_reads u b ≤ cells_before u (suc e) = omega arith in
      let fits = body_fits u width (before_named n 0 (omega arith)) (cells_before u e + length xs) (cells_before u (suc e)) (entity_reads u b) room b (cells_before u e) ok mine (globals_low e) (omega arith) (omega arith) in
      record {
        fits = subst (λ t. FitsFun width (length (global_names u.globals)) t (cells_before u (suc e)) (rooms_to (unit_over_cells u) call_depth) (FitsTo width (length (global_names u.globals)) t (cells_before u (suc e)) (unit_over_cells u) call_depth) ((unit_over_cells u).entity e) (cells_before u e)) (sym temp)
            (subst (λ f. FitsFun width (length (global_names u.globals)) (cells_before u e + length xs) (cells_before u (suc e)) (rooms_to (unit_over_cells u) call_depth) (FitsTo width (length (global_names u.globals)) (cells_before u e + length xs) (cells_before u (suc e)) (unit_over_cells u) call_depth) f (cells_before u e)) (sym s.body) fits);
        plain = ap (λ (f : CellFunction). f.params) s.body;
        room = subst (λ t. t ≤ cells_before u (suc e)) (sym temp) (omega arith);
        void = ap (λ (f : CellFunction). f.gives) s.body;
      }
