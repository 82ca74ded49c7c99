-- A turn that is built makes the turn.
use Rattle.std.proofs.Common.{◌≡◌, ◌≢◌, ℕ, suc, zero, ◌+◌, ◌-◌, ◌*◌, ◌/◌, ◌%◌, ◌^◌, ◌<◌, ◌≤◌, Bool, true, false, not, ◌&&◌, ◌||◌, List, [], ◌∷◌, ◌++◌, map, refl, sym, ◌∙◌, ap, subst, inl, inr, ◌⊎◌, arith, if◌then◌else◌, length, length-append, Option, Some, None, ◌==◌, nat_lt, get_or}
use Rattle.std.proofs.Math.Path.{fun_ext}
use Rattle.std.proofs.lemmas.Bool.{and_parts, and_from, cases_Bool, cases_eq}
use Rattle.std.proofs.lemmas.Bool.Decides.{nat_tests}
use Rattle.clause_form.specs.declared.lit.Lit.{Lit}
use Rattle.clause_form.specs.ClauseTruth.{Values, Agree, is_lit_true, is_clause_true, are_true}
use Rattle.clause_form.specs.Literals.{AreOf, IsOf}
use Rattle.clause_form.proofs.Agreement.{are_true-append, Agree-trans, Agree-less}
use Rattle.bit_circuit.specs.BusValue.{bit, number}
use Rattle.bit_circuit.specs.Extension.{PlainFormula, IsModel, GoesOn, Extends, ExtendsWith, with_clauses}
use Rattle.bit_circuit.proofs.Growth.{kept}
use Rattle.guard_prog.specs.GuardedRun.{PlainAlternative, Program, takes_word, is_fail, alternative_with, enabled_of}
use Rattle.turn_law.specs.Padded.{Phase, step, acted, padded_turn, ended}
use Rattle.turn_law.specs.Sight.{Sight, Pick, Offer, IsAt, MeansStack, MeansTop, Means, Reads, any, is_all, open_offers, next, Allows, IsOffered}
use Rattle.turn_law.specs.Symbol.{Symbol, Row, IsRowOf, no, nth, row_true, first_true, trues, chosen, sight, Takes, Taken, Chooses, MakesTurn}
use Rattle.turn_law.specs.Building.{is_no, free_of, picks, units, all_true, IsSymbolOf, HasRoom, BuildsTurn}
use Rattle.turn_law.proofs.Taking.{same_number, Hits}
use Rattle.turn_law.proofs.Turning.{Shown, shown, allowed, hits_open, phase, Took, took}
use Rattle.turn_law.proofs.Freedom.{targets, length-targets, targets_read, free_fixed, rows_fix, number_fixes, digit, digit_high, number_digits, room_high, one_at, none_at, trues_none, trues_one, trues_some}

-- ---- models
units_true : (v : Values) (ls : List Lit) → are_true v (units ls) ≡ all_true v ls
units_true v [] = refl
units_true v (l ∷ ls) = rw (units_true v ls) (go (is_lit_true v l))
  where
    go : (b : Bool) → ((b || false) && all_true v ls) ≡ (b && all_true v ls)
    go true = refl
    go false = refl

pub model_parts : (v : Values) (s : PlainFormula) (ls : List Lit) → IsModel v (with_clauses s (units ls)) → IsModel v s × (all_true v ls ≡ true)
model_parts v s ls m =
    let h = and_parts (are_true v s.clauses) (are_true v (units ls)) (sym (are_true-append v s.clauses (units ls)) ∙ m.holds) in
    (record { holds = h.0 }, sym (units_true v ls) ∙ h.1)

pub model_from : (v : Values) (s : PlainFormula) (ls : List Lit) → IsModel v s → all_true v ls ≡ true → IsModel v (with_clauses s (units ls))
model_from v s ls m e = record { holds = are_true-append v s.clauses (units ls) ∙ and_from (are_true v s.clauses) (are_true v (units ls)) m.holds (units_true v ls ∙ e) }

-- ---- reading
pub pick_reads : (v : Values) (r : Row) → v 1 ≡ true → trues v r.labels ≡ 1 → Reads (picks v r) (chosen v r)
pick_reads v r o e = record { label = λ i. ap (λ b. not (i == 0) && b) (one_at v r.labels o e i); word = refl }

-- ---- the depth
pub depth_of : (p : Program) (s : Sight) (ph : Phase) → Means p s ph → (d : ℕ) → s.depth d ≡ (suc d == length ph.state.stack)
depth_of p s ph m d = go ph.state.stack ph.is_over m.stack
  where
    go : (stack : List ℕ) (over : Bool) → MeansStack p.depth s stack over → s.depth d ≡ (suc d == length stack)
    go [] over m = absurd m
    go (t ∷ ts) over m = m.1.only d ∙ grind (arith, nat_tests)

-- ---- what a turn of the program can read
-- a label other than 0 is offered, and the word is 0 or fits an input of it
pub record OffersOf (es : List Offer) (s : Sight) (c : ℕ × ℕ) : Type 0 where
  pub label : (l : ℕ) → c.0 ≡ suc l → any s.at (λ i. i == suc l) is_all es ≡ true
  pub word : (c.1 ≡ 0) ⊎ (any s.at (λ i. i == c.0) (λ a. takes_word a.input c.1) es ≡ true)

abbrev pub Offers : Program → List Offer → Sight → ℕ × ℕ → Type 0
Offers p os s c = OffersOf (open_offers p os s) s c

pub offers : (p : Program) (os : List Offer) (s : Sight) (c : ℕ × ℕ) (ph after : Phase) → IsOffered p os → Means p s ph → step p ph c ≡ Some after → Offers p os s c
offers p os s c ph after k m e = go ph.state.cells ph.state.stack ph.state.is_failed ph.is_over (c.0 == 0) refl m.stack (λ f. fun_ext (m.cells f)) m.unfailed e
  where
    running : (t : ℕ) (ts : List ℕ) → IsAt s.at t → Took p s.cells t ts c → Offers p os s c
    running t ts a o =
        let h : Hits s.at (λ i. i == c.0) (open_offers p os s) (Some o.choice) = subst (Hits s.at (λ i. i == c.0) (open_offers p os s)) o.is (hits_open p os s (λ i. i == c.0) t c.0 k a (record { only = λ i. refl })) in
        record {
          label = λ n e. subst (λ x. any s.at (λ i. i == x) is_all (open_offers p os s) ≡ true) e (h.any is_all);
          word = inr (h.any (λ a. takes_word a.input c.1) ∙ o.word);
        }

    go : (cells : ℕ → ℕ) (stack : List ℕ) (failed over zero : Bool) → (c.0 == 0) ≡ zero → MeansStack p.depth s stack over → (over ≡ false → s.cells ≡ cells) → (over ≡ false → failed ≡ false) → (if zero then padded_turn (phase cells stack failed over) c.1 else acted p (phase cells stack failed over) c) ≡ Some after → Offers p os s c
    go cells [] failed over z q m h f st = absurd m
    go cells (t ∷ ts) failed over true q m h f st = zeroed (c.1 == 0) refl st
      where
        zeroed : (b : Bool) → (c.1 == 0) ≡ b → (if b then Some (ended (phase cells (t ∷ ts) failed over)) else None) ≡ Some after → Offers p os s c
        zeroed true g e = record { label = λ l x. absurd (let y = same_number c.0 0 q in omega arith); word = inl (same_number c.1 0 g) }
        zeroed false g e = absurd (cc)
    go cells (t ∷ ts) failed true false q m h f st = absurd (cc)
    go cells (t ∷ ts) failed false false q m h f st =
        let st' = subst (λ b. acted p (phase cells (t ∷ ts) b false) c ≡ Some after) (f refl) st in
        let st'' = subst (λ d. acted p (phase d (t ∷ ts) false false) c ≡ Some after) (sym (h refl)) st' in
        running t ts m.2.0 (took p s.cells t ts c after st'')

-- ---- the values of the free literals that read a turn
split_same : (w : Values) (xs ys : List Lit) (as' bs : List Bool) → length as' ≡ length xs → map (is_lit_true w) (xs ++ ys) ≡ as' ++ bs → (map (is_lit_true w) xs ≡ as') × (map (is_lit_true w) ys ≡ bs)
split_same w [] ys [] bs l e = (refl, e)
split_same w [] ys (a ∷ as') bs l e = absurd (omega arith)
split_same w (x ∷ xs) ys [] bs l e = absurd (omega arith)
split_same w (x ∷ xs) ys (a ∷ as') bs l e =
    let f : is_lit_true w x ≡ a = cc in
    let g : map (is_lit_true w) (xs ++ ys) ≡ as' ++ bs = cc in
    let h = split_same w xs ys as' bs (omega arith) g in
    let i = h.0 in
    (cc, h.1)

map-append : (w : Values) (xs ys : List Lit) → map (is_lit_true w) (xs ++ ys) ≡ map (is_lit_true w) xs ++ map (is_lit_true w) ys
map-append w [] ys = refl
map-append w (x ∷ xs) ys = let e = map-append w xs ys in cc

-- label i + 1 stands at place i
abbrev is_label : ℕ → ℕ → Bool
is_label l j = suc j == l

labels_read : (v : Values) (other : Lit) (ls : List Lit) (l : ℕ) → v 1 ≡ true → is_lit_true v other ≡ not (nat_lt 0 (trues v ls)) → ((j : ℕ) → row_true v ls j ≡ is_label l j) → (j : ℕ) → row_true v (other ∷ ls) j ≡ (j == l)
labels_read v other ls zero o e h zero =
    let n = trues_none v ls (λ j. h j ∙ grind (arith, nat_tests)) in
    e ∙ rw n refl
labels_read v other ls (suc l) o e h zero =
    let n = trues_some v ls l o (h l ∙ grind (arith, nat_tests)) in
    e ∙ grind (arith, nat_tests)
labels_read v other ls l o e h (suc j) = h j

-- ---- the theorem of one turn
kept_all : (old mid gates : PlainFormula) (free : List Lit) → Extends old mid → ExtendsWith mid gates free → (v : Values) → IsModel v gates → IsModel v old
kept_all old mid gates free e f v m = kept e v (kept f v m)

built_taken : (p : Program) (os : List Offer) (old mid gates : PlainFormula) (before after : Symbol) (r : Row) (other : Lit) (labels demands : List Lit) → IsOffered p os → BuildsTurn p os old mid gates before after r other labels demands → (v : Values) → IsModel v (with_clauses gates (units demands)) → (ph : Phase) → Means p (sight v before) ph → Taken p v after ph r
built_taken p os old mid gates before after r other labels demands k b v m ph means =
    let parts = model_parts v gates demands m in
    let f = b.forced v parts.0 ph means parts.1 in
    let one : v 1 ≡ true = b.truth.one v (kept_all old mid gates (free_of labels ++ free_of r.word) b.begins b.extends v parts.0) in
    let s = shown p os (sight v before) (picks v r) (chosen v r) ph k means (pick_reads v r one f.0) f.1 in
    let after_means : Means p (sight v after) s.after = subst (λ x. Means p x s.after) (sym (b.shows v parts.0)) s.means in
    record {
      after = s.after;
      takes = record {
        once = f.0;
        stepped = s.stepped;
        depth = λ d. ap (λ ls. row_true v ls d) b.depth ∙ depth_of p (sight v after) s.after after_means d;
        failure = ap (λ x. ph.state.is_failed || x) (b.failure v parts.0) ∙ s.failure;
        unfailed = λ e. b.failure v parts.0 ∙ s.unfailed (ap (λ n. n == 0) e);
      };
      means = after_means;
    }

pair_same : (a : ℕ) (b : ℕ) (c : ℕ × ℕ) → a ≡ c.0 → b ≡ c.1 → (a, b) ≡ c
pair_same a b c e f = λ i. (e i, f i)

-- what goes on from an assignment that shows the phase
record Going (old gates : PlainFormula) (r : Row) (labels : List Lit) (v : Values) (c : ℕ × ℕ) : Type 0 where
  values : Values
  agree : Agree old.variables v values
  model : IsModel values gates
  one : values 1 ≡ true
  once : trues values r.labels ≡ 1
  label : first_true values r.labels ≡ c.0
  word : number values r.word ≡ c.1
  only : (w : Values) → Agree old.variables v w → IsModel w gates → map (is_lit_true values) labels ≡ map (is_lit_true w) labels → map (is_lit_true values) r.word ≡ map (is_lit_true w) r.word → Agree gates.variables values w

going : (p : Program) (os : List Offer) (old mid gates : PlainFormula) (before after : Symbol) (r : Row) (other : Lit) (labels demands : List Lit) → BuildsTurn p os old mid gates before after r other labels demands → (v : Values) → IsModel v old → (c : ℕ × ℕ) → Offers p os (sight v before) c → Going old gates r labels v c
going p os old mid gates before after r other labels demands b v m c o =
    record {
      values = g.values;
      agree = Agree-trans old.variables v u.values g.values u.agree (Agree-less old.variables mid.variables u.values g.values b.begins.grows g.agree);
      model = g.model;
      one = one;
      once = ap (trues g.values) b.row ∙ read.0;
      label = ap (first_true g.values) b.row ∙ read.1;
      word = number_digits g.values r.word room.bits c.1 one room.fits word;
      only = λ w a n el ew.
          g.only w (u.only w a (kept b.extends w n) refl) n (map-append w (free_of labels) (free_of r.word)
          ∙ ap (λ xs. xs ++ map (is_lit_true w) (free_of r.word)) (sym (free_fixed g.values w labels el) ∙ parts.0)
          ∙ ap (λ ys. targets labels 0 (is_label c.0) ++ ys) (sym (free_fixed g.values w r.word ew) ∙ parts.1));
    }
  where
    u : GoesOn old mid [] [] v
    u = b.begins.goes_on v m [] refl

    seen : Offers p os (sight u.values before) c
    seen = subst (λ s. Offers p os s c) (b.symbol.same v u.values u.agree) o

    bits : List Bool
    bits = targets labels 0 (is_label c.0) ++ targets r.word 0 (digit c.1)

    long : length bits ≡ length (free_of labels ++ free_of r.word)
    long =
        let e = length-targets labels 0 (is_label c.0) in
        let f = length-targets r.word 0 (digit c.1) in
        let h = length-append (targets labels 0 (is_label c.0)) (targets r.word 0 (digit c.1)) in
        let i = length-append (free_of labels) (free_of r.word) in
        omega arith

    g : GoesOn mid gates (free_of labels ++ free_of r.word) bits u.values
    g = b.extends.goes_on u.values u.model bits long

    one : g.values 1 ≡ true
    one = b.truth.one g.values (kept_all old mid gates (free_of labels ++ free_of r.word) b.begins b.extends g.values g.model)

    parts : (map (is_lit_true g.values) (free_of labels) ≡ targets labels 0 (is_label c.0)) × (map (is_lit_true g.values) (free_of r.word) ≡ targets r.word 0 (digit c.1))
    parts = split_same g.values (free_of labels) (free_of r.word) (targets labels 0 (is_label c.0)) (targets r.word 0 (digit c.1)) (length-targets labels 0 (is_label c.0)) g.reads

    unlabelled : (j : ℕ) → is_no (nth labels j) ≡ true → is_label c.0 (0 + j) ≡ false
    unlabelled j e = go (suc (0 + j) == c.0) refl
      where
        go : (q : Bool) → (suc (0 + j) == c.0) ≡ q → q ≡ false
        go true f =
            let s = same_number (suc (0 + j)) c.0 f in
            let h = b.offered u.values u.model j (seen.label j (omega arith)) in
            absurd (cc)
        go false f = refl

    label : (j : ℕ) → row_true g.values labels j ≡ is_label c.0 j
    label j = targets_read g.values labels 0 (is_label c.0) one parts.0 unlabelled j ∙ ap (λ i. is_label c.0 i) (omega arith)

    room : HasRoom r.word c.1
    room = go seen.word
      where
        go : (c.1 ≡ 0) ⊎ (any (sight u.values before).at (λ i. i == c.0) (λ a. takes_word a.input c.1) (open_offers p os (sight u.values before)) ≡ true) → HasRoom r.word c.1
        go (inl e) = record { bits = 0; fits = omega arith; free = λ i h. absurd (omega arith) }
        go (inr e) = b.room u.values u.model c.0 c.1 e

    word : (j : ℕ) → row_true g.values r.word j ≡ digit c.1 j
    word j =
        let z : (i : ℕ) → 0 + i ≡ i = λ i. omega arith in
        targets_read g.values r.word 0 (digit c.1) one parts.1 (λ i e. ap (digit c.1) (z i) ∙ room_high r.word c.1 room i e) j ∙ ap (digit c.1) (z j)

    read : (trues g.values (other ∷ labels) ≡ 1) × (first_true g.values (other ∷ labels) ≡ c.0)
    read = trues_one g.values (other ∷ labels) c.0 one (labels_read g.values other labels c.0 one (b.none g.values g.model) label)

built_goes_on : (p : Program) (os : List Offer) (old mid gates : PlainFormula) (before after : Symbol) (r : Row) (other : Lit) (labels demands : List Lit) → IsOffered p os → BuildsTurn p os old mid gates before after r other labels demands → (v : Values) → IsModel v old → (ph : Phase) → Means p (sight v before) ph → (c : ℕ × ℕ) (next : Phase) → step p ph c ≡ Some next → Chooses old (with_clauses gates (units demands)) v r c
built_goes_on p os old mid gates before after r other labels demands k b v m ph means c next st =
    let g = going p os old mid gates before after r other labels demands b v m c (offers p os (sight v before) c ph next k means st) in
    let chooses : chosen g.values r ≡ c = pair_same (first_true g.values r.labels) (number g.values r.word) c g.label g.word in
    let reads : Reads (picks g.values r) c = subst (Reads (picks g.values r)) chooses (pick_reads g.values r g.one g.once) in
    let means2 : Means p (sight g.values before) ph = subst (λ s. Means p s ph) (b.symbol.same v g.values g.agree) means in
    let al = allowed p os (sight g.values before) (picks g.values r) c ph next k means2 reads st in
    record {
      values = g.values;
      agree = g.agree;
      model = model_from g.values gates demands g.model (b.free g.values g.model ph means2 g.once al);
      chooses = chooses;
      only = λ x ax mx ch.
          let parts = model_parts x gates demands mx in
          let f = b.forced x parts.0 ph (subst (λ s. Means p s ph) (b.symbol.same v x ax) means) parts.1 in
          let onex : x 1 ≡ true = b.truth.one x (kept_all old mid gates (free_of labels ++ free_of r.word) b.begins b.extends x parts.0) in
          let fx : first_true g.values r.labels ≡ first_true x r.labels = g.label ∙ sym (ap (λ c. c.0) ch) in
          let wx : number g.values r.word ≡ number x r.word = g.word ∙ sym (ap (λ c. c.1) ch) in
          let rows : map (is_lit_true g.values) r.labels ≡ map (is_lit_true x) r.labels = rows_fix g.values x r.labels (λ i. one_at g.values r.labels g.one g.once i ∙ ap (λ k. i == k) fx ∙ sym (one_at x r.labels onex f.0 i)) in
          let rows2 : map (is_lit_true g.values) (other ∷ labels) ≡ map (is_lit_true x) (other ∷ labels) = subst (λ ls. map (is_lit_true g.values) ls ≡ map (is_lit_true x) ls) b.row rows in
          let rows3 : map (is_lit_true g.values) labels ≡ map (is_lit_true x) labels = cc in
          g.only x ax parts.0 rows3 (number_fixes g.values x r.word wx);
    }

pub built : (p : Program) (os : List Offer) (old mid gates : PlainFormula) (before after : Symbol) (r : Row) (other : Lit) (labels demands : List Lit) → IsOffered p os → BuildsTurn p os old mid gates before after r other labels demands → MakesTurn p old (with_clauses gates (units demands)) before after r
built p os old mid gates before after r other labels demands k b = record {
  grows = omega (arith, b.begins.grows, b.extends.grows);
  keeps = λ v m. kept_all old mid gates (free_of labels ++ free_of r.word) b.begins b.extends v (model_parts v gates demands m).0;
  inside = b.inside;
  taken = built_taken p os old mid gates before after r other labels demands k b;
  goes_on = built_goes_on p os old mid gates before after r other labels demands k b;
}
