-- The words of cells at the start.
use Rattle.std.proofs.Common.{◌≡◌, ℕ, zero, suc, ◌+◌, ◌%◌, ◌<◌, ◌≤◌, Bool, true, false, if◌then◌else◌, ◌==◌, List, [], ◌∷◌, ◌++◌, length, get_or, map, slice_set, take, refl, sym, ap, ap₂, ◌∙◌, arith, append_assoc, append-nil, length-set, subst}
use Rattle.std.proofs.lemmas.Bool.Decides.{nat_tests}
use Rattle.std.proofs.lemmas.Option.{slice_get-get_or}
use Rattle.std.proofs.Math.Nat.{mod-eq_of_lt}
use Rattle.osek_machine.proofs.Fitting.{few_words}
use Rattle.osek_machine.proofs.Laws.{AreCellsWithin}
use Rattle.osek_machine.proofs.Storing.{word_at-set}
use Rattle.chk_base.specs.declared.word.Width.{Width}
use Rattle.chk_base.specs.Widths.{PlainWord, limit_of, zero_word}
use Rattle.chk_base.specs.WordValue.{word_at, word_or}
use Rattle.osek_machine.specs.CellWords.{widths, cut_word, HasStarts}
use Rattle.step_ir.specs.declared.code.CellName.{CellName}
use Rattle.step_ir.specs.declared.code.Code.{Code}
use Rattle.step_ir.specs.declared.code.EntityCode.{EntityCode}
use Rattle.step_ir.specs.Points.{own_cells, cells_of, start_word, start_words}

-- words that are below their limits are not changed by cutting them
cut_is : (cs : List CellName) → ((i : ℕ) → i < length cs → (word_at (map start_word cs) i).bits < limit_of (word_at (map start_word cs) i).width) → map cut_word cs ≡ map start_word cs
cut_is [] h = refl
cut_is (c ∷ cs) h =
    let low : c.start < limit_of c.width = h 0 (omega arith) in
    let small : c.start % limit_of c.width ≡ c.start = mod-eq_of_lt low in
    ap₂ (λ n ws. record { width = c.width; bits = n } ∷ ws) small (cut_is cs (λ i k. h (suc i) (omega arith)))

-- the words of the cells are below their limits, so that cutting them changes nothing
pub start_cut : (code : Code) → HasStarts code → map cut_word (cells_of code) ≡ start_words code
start_cut code has = cut_is (cells_of code) has.starts

-- there are few words
pub few_cut : AreCellsWithin → (code : Code) (ws : List PlainWord) → HasStarts code → ws ≡ map cut_word (cells_of code) → length ws ≤ 8192
few_cut law code ws has is =
    let few = few_words law code has.few_bits in
    omega (arith, ap length (is ∙ start_cut code has), few)

-- one more entity's cells
own_cells-take : (es : List EntityCode) (i : ℕ) (e : EntityCode) → i < length es → e ≡ get_or es i e → own_cells (take (suc i) es) ≡ own_cells (take i es) ++ e.names
own_cells-take [] i e h is = absurd (omega arith)
own_cells-take (x ∷ xs) zero e h is = append-nil x.names ∙ ap (λ (y : EntityCode). y.names) (sym is)
own_cells-take (x ∷ xs) (suc i) e h is =
    ap (λ zs. x.names ++ zs) (own_cells-take xs i e (omega arith) is) ∙ sym (append_assoc x.names (own_cells (take i xs)) e.names)

-- two lists, changed one by one
map-append : {A B : Type 0} (f : A → B) (xs ys : List A) → map f (xs ++ ys) ≡ map f xs ++ map f ys
map-append f [] ys = refl
map-append f (x ∷ xs) ys = ap (λ zs. f x ∷ zs) (map-append f xs ys)

-- the words of one more entity
pub words_more : (ws ws' : List PlainWord) (globals names : List CellName) (es : List EntityCode) (i : ℕ) (e : EntityCode) → i < length es → e ≡ get_or es i e → names ≡ e.names → ws ≡ map cut_word (globals ++ own_cells (take i es)) → ws' ≡ ws ++ map cut_word names → ws' ≡ map cut_word (globals ++ own_cells (take (i + 1) es))
words_more ws ws' globals names es i e h is these before more =
    more
    ∙ ap₂ (λ vs ns. vs ++ map cut_word ns) before these
    ∙ sym (map-append cut_word (globals ++ own_cells (take i es)) e.names)
    ∙ ap (map cut_word) (append_assoc globals (own_cells (take i es)) e.names ∙ ap (λ ns. globals ++ ns) (sym (own_cells-take es i e h is)))
    ∙ ap (λ k. map cut_word (globals ++ own_cells (take k es))) one_more
  where
    one_more : suc i ≡ i + 1
    one_more = omega arith

-- the cells have the widths of these words, and the first of them have the words
pub record IsSetUpTo (words cells : List PlainWord) (i : ℕ) : Type 0 where
  pub length : length cells ≡ length words
  pub widths : (k : ℕ) → widths cells k ≡ widths words k
  pub done : (k : ℕ) → k < i → word_at cells k ≡ word_at words k

-- at first none has
none_set : (words : List PlainWord) → IsSetUpTo words (map zero_word (map (λ (w : PlainWord). w.width) words)) 0
none_set words =
    record {
      length = long words;
      widths = wide words;
      done = λ k h. absurd (omega arith);
    }
  where
    long : (ws : List PlainWord) → length (map zero_word (map (λ (w : PlainWord). w.width) ws)) ≡ length ws
    long [] = refl
    long (w ∷ ws) = ap suc (long ws)

    wide : (ws : List PlainWord) (k : ℕ) → widths (map zero_word (map (λ (w : PlainWord). w.width) ws)) k ≡ widths ws k
    wide [] k = refl
    wide (w ∷ ws) zero = refl
    wide (w ∷ ws) (suc k) = wide ws k

-- the same for the cells that were made
pub zeros_set : (words cells : List PlainWord) (sizes : List Width) → cells ≡ map zero_word sizes → sizes ≡ map (λ (w : PlainWord). w.width) words → IsSetUpTo words cells 0
zeros_set words cells sizes is these =
    subst (λ cs. IsSetUpTo words cs 0) (sym (is ∙ ap (map zero_word) these)) (none_set words)

-- a word that was read
pub word_read : (words : List PlainWord) (i : ℕ) (w : PlainWord) → i < length words → w ≡ get_or words i w → w ≡ word_at words i
word_read words i w h is = is ∙ sym (ap word_or (slice_get-get_or words i w h))

-- one more cell is set
set_more : (words cells : List PlainWord) (i : ℕ) (w : PlainWord) → i < length words → w ≡ word_at words i → IsSetUpTo words cells i → IsSetUpTo words (slice_set cells i w) (i + 1)
set_more words cells i w h is inv =
    record {
      length = length-set cells i w ∙ inv.length;
      widths = λ k. ap (λ (x : PlainWord). x.width) (word_at-set cells i w k (omega (arith, h, inv.length))) ∙ wide k (k == i) refl;
      done = λ k below. word_at-set cells i w k (omega (arith, h, inv.length)) ∙ here k (k == i) refl below;
    }
  where
    wide : (k : ℕ) (b : Bool) → (k == i) ≡ b → (if b then w else word_at cells k).width ≡ widths words k
    wide k true e =
        let same : k ≡ i = grind (arith, nat_tests) in
        ap (λ (x : PlainWord). x.width) is ∙ ap (widths words) (sym same)
    wide k false e = inv.widths k

    here : (k : ℕ) (b : Bool) → (k == i) ≡ b → k < i + 1 → (if b then w else word_at cells k) ≡ word_at words k
    here k true e below =
        let same : k ≡ i = grind (arith, nat_tests) in
        is ∙ ap (word_at words) (sym same)
    here k false e below =
        let less : k < i = grind (arith, nat_tests) in
        inv.done k less

-- the same for the cells after it was set
pub set_next : (words cells cells' : List PlainWord) (i : ℕ) (w : PlainWord) → i < length words → w ≡ word_at words i → cells' ≡ slice_set cells i w → IsSetUpTo words cells i → IsSetUpTo words cells' (i + 1)
set_next words cells cells' i w h is made inv =
    subst (λ cs. IsSetUpTo words cs (i + 1)) (sym made) (set_more words cells i w h is inv)

-- cells with the same words are the same
same_words : (xs ys : List PlainWord) → length xs ≡ length ys → ((k : ℕ) → k < length ys → word_at xs k ≡ word_at ys k) → xs ≡ ys
same_words [] [] long h = refl
same_words [] (y ∷ ys) long h = absurd (omega arith)
same_words (x ∷ xs) [] long h = absurd (omega arith)
same_words (x ∷ xs) (y ∷ ys) long h =
    ap₂ (λ z zs. z ∷ zs) (h 0 (omega arith)) (same_words xs ys (omega arith) (λ k below. h (suc k) (omega arith)))

-- at the end all have
pub all_set : (words cells : List PlainWord) (i : ℕ) → length words ≤ i → IsSetUpTo words cells i → cells ≡ words
all_set words cells i h inv = same_words cells words inv.length (λ k below. inv.done k (omega arith))
