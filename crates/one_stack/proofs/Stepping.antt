-- One step of a loop over numbers or over a list.
use Rattle.std.proofs.Common.{◌≡◌, ◌∙◌, ℕ, zero, suc, ◌+◌, ◌-◌, ◌<◌, List, [], ◌∷◌, ◌++◌, length, map, take, get_or, Option, append_assoc, append-nil, add-one, refl, sym, ap, ap₂, subst, arith}
use Rattle.std.proofs.lemmas.List.{map-append}
use Rattle.chk_base.specs.Term.{Term}
use Rattle.one_stack.specs.Built.{concat_below, sum_below, table}
use Rattle.one_stack.specs.Rules.{collect, set_at}
use Rattle.step_ir.specs.declared.code.CellName.{CellName}
use Rattle.step_ir.specs.declared.code.EntityCode.{EntityCode}
use Rattle.step_ir.specs.Points.{own_cells}

-- down to the first number: a piece was put behind what was there
pub stepped : {A : Type 0} (g piece : ℕ → List A) → ((k : ℕ) → g (suc k) ≡ piece k ++ g k)
    → (i : ℕ) (xs ys end : List A) → 0 < i → ys ≡ xs ++ piece (i - 1) → xs ++ g i ≡ end → ys ++ g (i - 1) ≡ end
stepped g piece next zero xs ys end some e h = absurd (omega (arith, some))
stepped g piece next (suc k) xs ys end some e h =
    let is : suc k - 1 ≡ k = omega arith in
    let put : ys ≡ xs ++ piece k = subst (λ j. ys ≡ xs ++ piece j) is e in
    subst (λ j. ys ++ g j ≡ end) (sym is)
    (ap (λ zs. zs ++ g k) put ∙ append_assoc xs (piece k) (g k) ∙ ap (λ zs. xs ++ zs) (sym (next k)) ∙ h)

-- the loop has ended
pub ended : {A : Type 0} (g : ℕ → List A) (i : ℕ) (xs end : List A) → g zero ≡ [] → i ≡ 0 → xs ++ g i ≡ end → xs ≡ end
ended g i xs end none is h =
    sym (append-nil xs) ∙ ap (λ ys. xs ++ ys) (sym none) ∙ ap (λ j. xs ++ g j) (sym is) ∙ h

-- a list was put
pub put_more : (f : ℕ → List (ℕ × Term)) (i : ℕ) (xs ys end : List (ℕ × Term)) → 0 < i → ys ≡ xs ++ f (i - 1)
    → xs ++ collect i f ≡ end → ys ++ collect (i - 1) f ≡ end
put_more f i xs ys end some e h = stepped (λ k. collect k f) f (λ k. refl) i xs ys end some e h

-- the set of a slot was put
pub put_down : (f : ℕ → Option Term) (place : ℕ → ℕ) (i : ℕ) (xs ys end : List (ℕ × Term)) (v : Option Term)
    → 0 < i → ys ≡ xs ++ set_at (place (i - 1)) v → v ≡ f (i - 1)
    → xs ++ collect i (λ k. set_at (place k) (f k)) ≡ end → ys ++ collect (i - 1) (λ k. set_at (place k) (f k)) ≡ end
put_down f place i xs ys end v some e is h =
    put_more (λ k. set_at (place k) (f k)) i xs ys end some (e ∙ ap (λ w. xs ++ set_at (place (i - 1)) w) is) h

pub put_ended : (f : ℕ → List (ℕ × Term)) (i : ℕ) (xs end : List (ℕ × Term)) → i ≡ 0 → xs ++ collect i f ≡ end → xs ≡ end
put_ended f i xs end is h = ended (λ k. collect k f) i xs end refl is h

-- up from the first number
pub sum_more : (f : ℕ → ℕ) (i : ℕ) → sum_below (i + 1) f ≡ sum_below i f + f i
sum_more f i = rw add-one refl

pub table_more : {A : Type 0} (f : ℕ → A) (i : ℕ) → table (i + 1) f ≡ table i f ++ f i ∷ []
table_more f i = rw add-one refl

pub concat_more : {A : Type 0} (f : ℕ → List A) (i : ℕ) → concat_below (i + 1) f ≡ concat_below i f ++ f i
concat_more f i = rw add-one refl

-- one more item of a table was put
pub item_put : {A : Type 0} (f : ℕ → A) (i : ℕ) (xs ys init : List A) (v : A)
    → ys ≡ xs ++ v ∷ [] → v ≡ f i → xs ≡ init ++ table i f → ys ≡ init ++ table (i + 1) f
item_put f i xs ys init v e is h =
    e ∙ ap₂ (λ zs w. zs ++ w ∷ []) h is ∙ append_assoc init (table i f) (f i ∷ []) ∙ ap (λ zs. init ++ zs) (sym (table_more f i))

-- one more of the lists was put
pub list_put : {A : Type 0} (f : ℕ → List A) (i : ℕ) (xs ys init : List A)
    → ys ≡ xs ++ f i → xs ≡ init ++ concat_below i f → ys ≡ init ++ concat_below (i + 1) f
list_put f i xs ys init e h =
    e ∙ ap (λ zs. zs ++ f i) h ∙ append_assoc init (concat_below i f) (f i) ∙ ap (λ zs. init ++ zs) (sym (concat_more f i))

-- one more entity's cells
own_cells-take : (es : List EntityCode) (i : ℕ) (e : EntityCode) → i < length es → e ≡ get_or es i e → own_cells (take (suc i) es) ≡ own_cells (take i es) ++ e.names
own_cells-take [] i e h is = absurd (omega arith)
own_cells-take (x ∷ xs) zero e h is = append-nil x.names ∙ ap (λ (y : EntityCode). y.names) (sym is)
own_cells-take (x ∷ xs) (suc i) e h is =
    ap (λ zs. x.names ++ zs) (own_cells-take xs i e (omega arith) is) ∙ sym (append_assoc x.names (own_cells (take i xs)) e.names)

-- what cells give, of one more entity
pub cells_more : {A : Type 0} (f : CellName → A) (ws ws' : List A) (globals names : List CellName) (es : List EntityCode) (i : ℕ) (e : EntityCode) → i < length es → e ≡ get_or es i e → names ≡ e.names → ws ≡ map f (globals ++ own_cells (take i es)) → ws' ≡ ws ++ map f names → ws' ≡ map f (globals ++ own_cells (take (i + 1) es))
cells_more f ws ws' globals names es i e h is these before more =
    more
    ∙ ap₂ (λ vs ns. vs ++ map f ns) before these
    ∙ sym (map-append f (globals ++ own_cells (take i es)) e.names)
    ∙ ap (map f) (append_assoc globals (own_cells (take i es)) e.names ∙ ap (λ ns. globals ++ ns) (sym (own_cells-take es i e h is)))
    ∙ ap (λ k. map f (globals ++ own_cells (take k es))) one_more
  where
    one_more : suc i ≡ i + 1
    one_more = omega arith
