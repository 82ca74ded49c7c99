-- The tables of an application and a code give the places of the program that is built.
use Rattle.std.proofs.Common.{◌≡◌, ◌∙◌, ℕ, zero, suc, ◌+◌, ◌*◌, ◌<◌, ◌≤◌, Bool, true, false, if◌then◌else◌, ◌==◌, nat_lt, List, [], ◌∷◌, ◌++◌, length, map, Option, Some, None, slice_get, slice_index, get_or, refl, sym, ap, ap₂, subst, arith}
use Rattle.std.proofs.lemmas.Bool.Decides.{nat_tests}
use Rattle.std.proofs.lemmas.List.{ext_get_or, get_or_append_left, get_or_push, get_or_past, length-append, length-map}
use mathlib.Core.Path.{fun_ext}
use Rattle.application.specs.declared.app.App.{App}
use Rattle.application.specs.declared.app.Routine.{Routine}
use Rattle.application.specs.declared.app.Task.{Task}
use Rattle.application.specs.InOrder.{IsInOrder}
use Rattle.chk_base.specs.declared.word.Width.{Width}
use Rattle.chk_base.specs.declared.word.Width.TheVariants.{W1, W8, W32}
use Rattle.chk_base.specs.Widths.{PlainWord, zero_word}
use Rattle.chk_base.specs.WordValue.{word_at}
use Rattle.one_stack.specs.Built.{place_of, plan_of, room_of, sum_below, table, widths_of}
use Rattle.one_stack.specs.Laid.{IsLaid, counts_of, tables_for}
use Rattle.one_stack.specs.PlainCode.{plain_code}
use Rattle.one_stack.specs.Rules.{Slot, On, Count, Waits, Held, Kept, Plan}
use Rattle.one_stack.specs.Tables.{AreSmall, Tables, count_in, place_in, plan_in, room_in, seen}
use Rattle.one_stack.specs.TaskForm.{resource_count}
use Rattle.one_stack.proofs.Beginning.{product_below}
use Rattle.step_ir.specs.declared.code.CellName.{CellName}
use Rattle.step_ir.specs.declared.code.Code.{Code}
use Rattle.step_ir.specs.declared.code.EntityCode.{EntityCode}
use Rattle.step_ir.specs.Fits.{Fits, bit_count, point_count}
use Rattle.step_ir.specs.Points.{cells_of, plain_of, points_of, start_word}
use Rattle.step_ir.specs.Setting.{IsSound, by_kind, setting_of}

pub length-table : {A : Type 0} (n : ℕ) (f : ℕ → A) → length (table n f) ≡ n
length-table zero f = refl
length-table (suc n) f = omega (arith, length-append (table n f) (f n ∷ []), length-table n f)

pub get_or-table : {A : Type 0} (n i : ℕ) (f : ℕ → A) (d : A) → i < n → get_or (table n f) i d ≡ f i
get_or-table zero i f d lt = absurd (omega (arith, lt))
get_or-table (suc n) i f d lt = go (nat_lt i n) refl (λ k. get_or-table n i f d k) where
  go : (b : Bool) → nat_lt i n ≡ b → (i < n → get_or (table n f) i d ≡ f i) → get_or (table n f ++ f n ∷ []) i d ≡ f i
  go true e ih =
      let below : i < n = grind (arith, nat_tests, e) in
      get_or_append_left (table n f) (f n ∷ []) d i (omega (arith, length-table n f, below)) ∙ ih below
  go false e ih =
      let is : i ≡ n = grind (arith, nat_tests, lt, e) in
      get_or_push (table n f) (f n) d i (length-table n f ∙ sym is) ∙ ap f (sym is)

-- the values of cells at the start, in a table
word_map : {A : Type 0} (g : PlainWord → A) (xs : List CellName) (i : ℕ) (d : A) → i < length xs
    → g (word_at (map start_word xs) i) ≡ get_or (map (λ n. g (start_word n)) xs) i d
word_map g [] i d lt = absurd (omega arith)
word_map g (x ∷ xs) zero d lt = refl
word_map g (x ∷ xs) (suc i) d lt = word_map g xs i d (omega arith)

pub table_map : {A : Type 0} (g : PlainWord → A) (xs : List CellName)
    → table (length xs) (λ q. g (word_at (map start_word xs) q)) ≡ map (λ n. g (start_word n)) xs
table_map g xs =
    let f = λ (q : ℕ). g (word_at (map start_word xs) q) in
    let count = length-table (length xs) f in
    ext_get_or (g (zero_word W32)) _ _
    (count ∙ sym (length-map xs (λ n. g (start_word n))))
    (λ i lt. let below : i < length xs = omega (arith, count, lt) in get_or-table (length xs) i f (g (zero_word W32)) below ∙ word_map g xs i (g (zero_word W32)) below)

-- a task has few requests
few_in : (xs : List Task) (t : ℕ) (r : Option Routine) → ((k : ℕ) (d : Task) → k < length xs → (get_or xs k d).requests ≤ 8)
    → by_kind (λ (x : Task). x.requests) (λ r. 0) 0 (slice_get xs t) r ≤ 8
few_in [] t None few = omega arith
few_in [] t (Some r) few = omega arith
few_in (x ∷ xs) zero r few = few 0 x (omega arith)
few_in (x ∷ xs) (suc t) r few = few_in xs t r (λ k d lt. few (suc k) d (omega arith))

pub few_requests : (app : App) → IsInOrder app → (t : ℕ) → (setting_of app).limit t ≤ 8
few_requests app order t = few_in app.tasks t _ (λ k d lt. (order.tasks k d lt).few_requests)

sum_zero : (n : ℕ) (f : ℕ → ℕ) → ((t : ℕ) → f t ≡ 0) → sum_below n f ≡ 0
sum_zero zero f h = refl
sum_zero (suc n) f h = omega (arith, sum_zero n f h, h n)

sum_few : (n k : ℕ) (f : ℕ → ℕ) → ((t : ℕ) → f t ≤ k) → sum_below n f ≤ k * n
sum_few zero k f h = omega arith
sum_few (suc n) k f h = omega (arith, sum_few n k f h, h n)

sum_front : (n : ℕ) (f : ℕ → ℕ) → sum_below (suc n) f ≡ f 0 + sum_below n (λ x. f (suc x))
sum_front zero f = omega arith
sum_front (suc n) f = omega (arith, sum_front n f)

-- one more entity has at most the points of all
sum_counts : (es : List EntityCode) (n : ℕ) → sum_below n (λ x. slice_index (counts_of es) x) ≤ point_count es
sum_counts [] n = omega (arith, sum_zero n (λ x. 0) (λ t. refl))
sum_counts (e ∷ es) zero = omega arith
sum_counts (e ∷ es) (suc n) = omega (arith, sum_front n (λ x. slice_index (counts_of (e ∷ es)) x), sum_counts es n)

pub count_at : (es : List EntityCode) (i : ℕ) (e : EntityCode) → i < length es → e ≡ get_or es i e → length e.points ≤ point_count es
count_at [] i e lt is = absurd (omega arith)
count_at (x ∷ xs) zero e lt is = omega (arith, ap (λ (y : EntityCode). length y.points) is)
count_at (x ∷ xs) (suc i) e lt is = let few = count_at xs i e (omega arith) is in omega (arith, few)

-- how many points an entity has
count_is : (es : List EntityCode) (x : ℕ) → slice_index (counts_of es) x ≡ length (map plain_of (points_of (slice_get es x)))
count_is [] x = refl
count_is (e ∷ es) zero = sym (length-map e.points plain_of)
count_is (e ∷ es) (suc x) = count_is es x

module _ (app : App) (code : Code) (order : IsInOrder app) (sound : IsSound (setting_of app)) where
  abbrev limits : ℕ → ℕ → ℕ
  limits l t = if (setting_of app).level t == l then (setting_of app).limit t else 0

  few_limits : (l t : ℕ) → limits l t ≤ 8
  few_limits l t = go ((setting_of app).level t == l) where
    go : (b : Bool) → (if b then (setting_of app).limit t else 0) ≤ 8
    go true = few_requests app order t
    go false = omega arith

  -- above the highest level there is no task
  no_limits : (l t : ℕ) → (setting_of app).top < l → limits l t ≡ 0
  no_limits l t above = go ((setting_of app).level t == l) refl where
    go : (b : Bool) → ((setting_of app).level t == l) ≡ b → (if b then (setting_of app).limit t else 0) ≡ 0
    go true e = let runs = sound.runs_above t in let low = sound.run_levels t in absurd (grind (arith, nat_tests, e, runs, low, above))
    go false e = refl

  abbrev rooms : ℕ → ℕ
  rooms l = room_of (setting_of app) (plain_code code) (resource_count app) l

  room_is : (l : ℕ) → slice_index (table ((setting_of app).top + 1) rooms) l ≡ rooms l
  room_is l = go (nat_lt l ((setting_of app).top + 1)) refl where
    go : (b : Bool) → nat_lt l ((setting_of app).top + 1) ≡ b → slice_index (table ((setting_of app).top + 1) rooms) l ≡ rooms l
    go true e = get_or-table ((setting_of app).top + 1) l rooms 0 (grind (arith, nat_tests, e))
    go false e =
        let above : (setting_of app).top < l = grind (arith, nat_tests, e) in
        get_or_past (table ((setting_of app).top + 1) rooms) l 0 (omega (arith, length-table ((setting_of app).top + 1) rooms, above))
        ∙ sym (sum_zero (setting_of app).entities (limits l) (λ t. no_limits l t above))

  abbrev tables : List Width → Tables
  tables widths = tables_for app code widths

  rooms_are : (widths : List Width) → room_in (tables widths) ≡ rooms
  rooms_are widths = fun_ext room_is

  counts_are : (widths : List Width) → count_in (tables widths) ≡ (λ x. length ((plain_code code).points x))
  counts_are widths = fun_ext (count_is code.entities)

  places_are : (widths : List Width) (s : Slot) → place_in (tables widths) s ≡ place_of (setting_of app) (plain_code code) (resource_count app) s
  unfolding seen
  places_are widths (On x) = refl
  places_are widths (Count x) = refl
  places_are widths (Waits l i) =
      ap (λ f. length (cells_of code) + ((setting_of app).entities + ((setting_of app).entities + (sum_below l f + i)))) (rooms_are widths)
  places_are widths (Held r) =
      ap (λ f. length (cells_of code) + ((setting_of app).entities + ((setting_of app).entities + (sum_below ((setting_of app).top + 1) f + r)))) (rooms_are widths)
  places_are widths (Kept e i) =
      ap (λ f. length (cells_of code) + ((setting_of app).entities + ((setting_of app).entities + (sum_below ((setting_of app).top + 1) f + (resource_count app + (sum_below e (λ x. resource_count app) + i)))))) (rooms_are widths)

  abbrev plan_with : (Slot → ℕ) → (ℕ → ℕ) → (ℕ → ℕ) → Plan
  plan_with place room count =
      record {
        place = place;
        mark = λ t. t + 1;
        room = room;
        number = λ e n. 1 + (sum_below e count + n);
        label = λ e k. 1 + (e + (setting_of app).entities * k);
        tasks = (setting_of app).entities;
        resources = resource_count app;
      }

  plan_is : (widths : List Width) → plan_in (tables widths) ≡ plan_of (setting_of app) (plain_code code) (resource_count app)
  plan_is widths =
      ap₂ (λ p r. plan_with p r (count_in (tables widths))) (fun_ext (places_are widths)) (rooms_are widths)
      ∙ ap (λ f. plan_with (place_of (setting_of app) (plain_code code) (resource_count app)) rooms f) (counts_are widths)

  abbrev parts : ℕ → ℕ → ℕ → List ℕ → List ℕ → List Width → Tables
  parts cells entities resources room counts widths =
      record { app = app; cells = cells; entities = entities; resources = resources; rooms = room; counts = counts; widths = widths }

  -- tables with these parts
  pub laid_out : (widths : List Width) (cells entities resources : ℕ) (room counts : List ℕ) (ws : List Width)
      → cells ≡ length (cells_of code) → entities ≡ (setting_of app).entities → resources ≡ resource_count app
      → room ≡ table ((setting_of app).top + 1) (λ l. sum_below entities (limits l)) → counts ≡ counts_of code.entities → ws ≡ widths
      → record { app = app; cells = cells; entities = entities; resources = resources; rooms = room; counts = counts; widths = ws } ≡ tables widths
  laid_out widths cells entities resources room counts ws c n r rs cs is =
      ap₂ (λ x y. parts x y resources room counts ws) c n
      ∙ ap₂ (λ x y. parts (length (cells_of code)) (setting_of app).entities x y counts ws) r (rs ∙ ap (λ m. table ((setting_of app).top + 1) (λ l. sum_below m (limits l))) n)
      ∙ ap₂ (λ x y. parts (length (cells_of code)) (setting_of app).entities (resource_count app) (table ((setting_of app).top + 1) rooms) x y) cs is

  pub small : (widths : List Width) → Fits app code → length (cells_of code) ≤ bit_count (cells_of code) → AreSmall (tables widths)
  small widths fits few =
      record {
        cells = omega (arith, few, fits.few_bits);
        entities = order.few_entities;
        resources = omega (arith, order.few_resources);
        rooms = λ l. omega (arith, room_is l, sum_few (setting_of app).entities 8 (limits l) (few_limits l), order.few_entities);
        counts = λ e. omega (arith, sum_counts code.entities e, fits.few_points);
      }

  abbrev cell_widths : List Width
  cell_widths = map (λ (n : CellName). n.width) (cells_of code)

  abbrev slot_widths : ℕ → ℕ → List Width
  slot_widths places kept =
      table (setting_of app).entities (λ x. W1) ++ (table (setting_of app).entities (λ t. W8)
      ++ (table places (λ q. W8) ++ (table (resource_count app) (λ q. W1) ++ table kept (λ q. W8))))

  widths_are : cell_widths ++ slot_widths (sum_below ((setting_of app).top + 1) (room_in (tables cell_widths))) ((setting_of app).entities * resource_count app)
      ≡ widths_of (setting_of app) (plain_code code) (resource_count app)
  widths_are =
      ap₂ (λ f n. cell_widths ++ slot_widths (sum_below ((setting_of app).top + 1) f) n) (rooms_are cell_widths) (sym (product_below (setting_of app).entities (resource_count app)))
      ∙ ap (λ ws. ws ++ slot_widths (sum_below ((setting_of app).top + 1) rooms) (sum_below (setting_of app).entities (λ x. resource_count app))) (sym (table_map (λ (w : PlainWord). w.width) (cells_of code)))

  -- the tables with the widths of the slots
  pub laid : (t u : Tables) → t ≡ tables cell_widths
      → u ≡ record t {
        widths = t.widths ++ (table t.entities (λ x. W1) ++ (table t.entities (λ q. W8)
            ++ (table (sum_below ((seen t).top + 1) (room_in t)) (λ q. W8) ++ (table t.resources (λ q. W1) ++ table (t.entities * t.resources) (λ q. W8)))));
      }
      → IsLaid app code u
  unfolding seen
  laid t u is more =
      let all : u ≡ tables (cell_widths ++ slot_widths (sum_below ((setting_of app).top + 1) (room_in (tables cell_widths))) ((setting_of app).entities * resource_count app)) =
      more
      ∙ ap (λ (x : Tables). record x {
        widths = x.widths ++ (table x.entities (λ y. W1) ++ (table x.entities (λ q. W8)
            ++ (table (sum_below ((setting_of x.app).top + 1) (room_in x)) (λ q. W8) ++ (table x.resources (λ q. W1) ++ table (x.entities * x.resources) (λ q. W8)))));
      }) is
      in
      subst (IsLaid app code) (sym all)
      record { app_is = refl; setting = refl; plan = plan_is (cell_widths ++ slot_widths (sum_below ((setting_of app).top + 1) (room_in (tables cell_widths))) ((setting_of app).entities * resource_count app)); entities = refl; widths = widths_are }
