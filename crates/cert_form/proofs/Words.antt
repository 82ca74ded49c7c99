-- The formats of one token are exact.
use Rattle.std.proofs.Common.{◌≡◌, ℕ, zero, suc, ◌+◌, ◌*◌, ◌/◌, ◌^◌, ◌<◌, ◌≤◌, Bool, true, false, cond, not, ◌||◌, eqb, nat_le, nat_lt, List, [], ◌∷◌, length, get_or, Option, Some, None, refl, sym, ap, subst, ◌∙◌, arith, rules}
use Rattle.std.proofs.lemmas.Bool.{and_parts, and_from}
use Rattle.std.proofs.lemmas.Bool.Decides.{nat_tests}
use Rattle.std.specs.Fmt.{decimal}
use Rattle.std.specs.Str.{bytes_eq, all_ascii_digits}
use Rattle.std.proofs.lemmas.Slice.Eq.{bytes_eq-Decides}
use Rattle.std.proofs.lemmas.Str.Parse.{IsNumeralModel, numerals_by_fold}
use Rattle.std.proofs.lemmas.Fmt.{digits_decimal, digits_value-decimal, decimal-digits_value, decimal_nonempty, first_decimal, length-decimal-le_succ}
use Rattle.clause_form.specs.declared.lit.Lit.{Lit}
use Rattle.clause_form.specs.Literals.{variable, is_positive}
use Rattle.format.specs.Format.{Format, ended}
use Rattle.format.specs.Exact.{IsExact, HasSome, IsSpelling}
use Rattle.format.proofs.Exact.{one_exact, led_exact, led_some, ended_exact, ended_some}
use Rattle.cert_form.specs.Words.{Token, minus, limit, word, words, behind, value_after, is_number, number_of, within, in_range, number, signed, option_signed, literal_of, literal_token, is_between, between, literal, value_token, is_name, name}

own : IsNumeralModel (λ ds. all_ascii_digits ds ≡ true) (value_after 0)
own = numerals_by_fold _ (search rules) value_after (search rules)

pub same_bytes : (t w : List ℕ) → bytes_eq t w ≡ true → t ≡ w
same_bytes t w e = let d = bytes_eq-Decides t w in grind (arith, nat_tests, d, e)

pub bytes_same : (w : List ℕ) → bytes_eq w w ≡ true
bytes_same w = let d = bytes_eq-Decides w w in grind (arith, nat_tests, d)

word_spelling : (w : Token) → IsSpelling {A = Unit {0}} (λ _. true) (λ _. w) (λ t. cond (bytes_eq t w) (Some tt) None)
word_spelling w = record { means = λ x v. rw (bytes_same w) refl; spells = λ t x e. go t (bytes_eq t w) refl e }
  where
    go : (t : Token) (b : Bool) → bytes_eq t w ≡ b → {x : Unit {0}} → cond b (Some tt) None ≡ Some x → (true ≡ true) × (w ≡ t)
    go t true e p = (refl, sym (same_bytes t w e))
    go t false e p = absurd cc

pub word_exact : (w : Token) → IsExact (word w)
unfolding word
word_exact w = one_exact _ _ _ (word_spelling w)

pub word_some : (w : Token) → HasSome (word w)
unfolding word
word_some w = record { value = tt; valid = refl }

pub words_some : {A : Type 0} (ws : List Token) (F : Format A Token) → HasSome F → HasSome (words ws F)
words_some [] F s = s
words_some (w ∷ ws) F s = led_some (word w) (words ws F) (word_some w) (words_some ws F s)

pub words_exact : {A : Type 0} (ws : List Token) (F : Format A Token) → IsExact F → HasSome F → IsExact (words ws F)
words_exact [] F f s = f
words_exact (w ∷ ws) F f s = led_exact (word w) (words ws F) (word_exact w) (words_exact ws F f s) (words_some ws F s)

pub behind_some : {A : Type 0} (F : Format A Token) (ws : List Token) → HasSome F → HasSome (behind F ws)
behind_some F [] s = s
behind_some F (w ∷ ws) s = behind_some (ended F (word w)) ws (ended_some F (word w) s (word_some w))

pub behind_exact : {A : Type 0} (F : Format A Token) (ws : List Token) → IsExact F → IsExact (behind F ws)
behind_exact F [] f = f
behind_exact F (w ∷ ws) f = behind_exact (ended F (word w)) ws (ended_exact F (word w) f (word_exact w) (word_some w))

-- ---- numbers

number_test : (t : Token) → 0 < length t → all_ascii_digits t ≡ true → (get_or t 0 0 ≡ 48 → length t ≡ 1) → is_number t ≡ true
number_test [] some d lead = absurd (omega arith)
number_test (c ∷ []) some d lead = and_from (all_ascii_digits (c ∷ [])) (not (eqb c 48) || true) d (go (not (eqb c 48)))
  where
    go : (b : Bool) → (b || true) ≡ true
    go true = refl
    go false = refl
number_test (c ∷ (e ∷ cs)) some d lead = and_from (all_ascii_digits (c ∷ (e ∷ cs))) (not (eqb c 48) || false) d (grind (arith, nat_tests, lead))

is_number-decimal : (n : ℕ) → n < 2 ^ 64 → is_number (decimal n) ≡ true
is_number-decimal zero small = number_test (decimal 0) (decimal_nonempty 0 small) (digits_decimal own 0 small) (λ e. omega (arith, length-decimal-le_succ 0 small, decimal_nonempty 0 small))
is_number-decimal (suc n) small = number_test (decimal (suc n)) (decimal_nonempty (suc n) small) (digits_decimal own (suc n) small) (λ e. absurd (omega (arith, first_decimal (suc n) (omega arith) small, e)))

number_parts : (t : Token) → is_number t ≡ true → (0 < length t) × (all_ascii_digits t ≡ true) × (get_or t 0 0 ≡ 48 → length t ≡ 1)
number_parts [] e = absurd cc
number_parts (c ∷ []) e = (omega arith, (and_parts (all_ascii_digits (c ∷ [])) (not (eqb c 48) || true) e).0, λ _. refl)
number_parts (c ∷ (d ∷ cs)) e =
    let p = and_parts (all_ascii_digits (c ∷ (d ∷ cs))) (not (eqb c 48) || false) e in
    (omega arith, p.0, λ q. absurd (grind (arith, nat_tests, p.1, q)))

pub number_of-decimal : (n : ℕ) → n < 2 ^ 64 → number_of (decimal n) ≡ Some n
number_of-decimal n small =
    let w : is_number (decimal n) ≡ true = is_number-decimal n small in
    rw (w, digits_value-decimal own n small) refl

pub decimal-number_of : (t : Token) (n : ℕ) → number_of t ≡ Some n → n < 2 ^ 64 → decimal n ≡ t
decimal-number_of t n e small = go (is_number t) refl e
  where
    go : (b : Bool) → is_number t ≡ b → cond b (Some (value_after 0 t)) None ≡ Some n → decimal n ≡ t
    go true w q =
        let v : value_after 0 t ≡ n = cc in
        let p = number_parts t w in
        ap decimal (sym v) ∙ decimal-digits_value own t p.1 p.0 p.2 (omega (arith, v))
    go false w q = absurd cc

below : (low high n : ℕ) → high ≤ 2 ^ 64 → within low high n ≡ true → n < 2 ^ 64
below low high n small v = let p = and_parts (nat_le low n) (nat_lt n high) v in grind (arith, nat_tests, p.1)

number_spelling : (low high : ℕ) → high ≤ 2 ^ 64 → IsSpelling (within low high) decimal (λ t. in_range low high (number_of t))
number_spelling low high small = record {
  means = λ n v. rw (number_of-decimal n (below low high n small v), v) refl;
  spells = λ t n e. spells t n (number_of t) refl e;
}
  where
    spells : (t : Token) (n : ℕ) (o : Option ℕ) → number_of t ≡ o → in_range low high o ≡ Some n → (within low high n ≡ true) × (decimal n ≡ t)
    spells t n None e q = absurd cc
    spells t n (Some m) e q = test t n m e (within low high m) refl q
      where
        test : (t : Token) (n m : ℕ) → number_of t ≡ Some m → (b : Bool) → within low high m ≡ b → cond b (Some m) None ≡ Some n → (within low high n ≡ true) × (decimal n ≡ t)
        test t n m e true w q =
            let same : m ≡ n = cc in
            let v : within low high n ≡ true = subst (λ (k : ℕ). within low high k ≡ true) same w in
            (v, decimal-number_of t n (e ∙ ap Some same) (below low high n small v))
        test t n m e false w q = absurd cc

pub number_exact : (low high : ℕ) → high ≤ 2 ^ 64 → IsExact (number low high)
unfolding number
number_exact low high small = one_exact _ _ _ (number_spelling low high small)

pub number_some : (low high : ℕ) → low < high → HasSome (number low high)
unfolding number
number_some low high some = record { value = low; valid = grind (arith, nat_tests) }

-- ---- literals

pub signed_variable : (b : Bool) (v : ℕ) → variable (signed b v) ≡ v
unfolding variable
signed_variable true v = omega arith
signed_variable false v = omega arith

pub signed_positive : (b : Bool) (v : ℕ) → is_positive (signed b v) ≡ b
unfolding is_positive
signed_positive true v = grind (arith, nat_tests)
signed_positive false v = grind (arith, nat_tests)

pub is_signed : (l : Lit) (b : Bool) → is_positive l ≡ b → signed b (variable l) ≡ l
unfolding variable is_positive
is_signed l true e = let q : 2 * (l.0 / 2) + 0 ≡ l.0 = grind (arith, nat_tests) in ap {B = Lit} (λ (n : ℕ). record { 0 = n }) q
is_signed l false e = let q : 2 * (l.0 / 2) + 1 ≡ l.0 = grind (arith, nat_tests) in ap {B = Lit} (λ (n : ℕ). record { 0 = n }) q

literal_of-number : (t : Token) (n : ℕ) → number_of t ≡ Some n → literal_of t ≡ Some (signed true n)
literal_of-number [] n e = absurd cc
literal_of-number (c ∷ cs) n e = go (eqb c minus) refl
  where
    go : (b : Bool) → eqb c minus ≡ b → cond b (option_signed false (number_of cs)) (option_signed true (number_of (c ∷ cs))) ≡ Some (signed true n)
    go true q =
        let same : c ≡ 45 = grind (arith, nat_tests) in
        let no : number_of (45 ∷ cs) ≡ None = refl in
        let e2 : number_of (45 ∷ cs) ≡ Some n = subst (λ (d : ℕ). number_of (d ∷ cs) ≡ Some n) same e in
        absurd cc
    go false q = rw e refl

pub literal_of-token : (l : Lit) → variable l < 2 ^ 64 → literal_of (literal_token l) ≡ Some l
literal_of-token l small = go (is_positive l) refl
  where
    go : (b : Bool) → is_positive l ≡ b → literal_of (cond b (decimal (variable l)) (minus ∷ decimal (variable l))) ≡ Some l
    go true e = literal_of-number (decimal (variable l)) (variable l) (number_of-decimal (variable l) small) ∙ ap Some (is_signed l true e)
    go false e = rw (number_of-decimal (variable l) small) (ap Some (is_signed l false e))

-- what a token's literal says of the token
pub literal_token-of : (t : Token) (l : Lit) → literal_of t ≡ Some l → variable l < 2 ^ 64 → literal_token l ≡ t
literal_token-of [] l e small = absurd cc
literal_token-of (c ∷ cs) l e small = go (eqb c minus) refl e
  where
    negated : (o : Option ℕ) → number_of cs ≡ o → c ≡ 45 → option_signed false o ≡ Some l → literal_token l ≡ c ∷ cs
    negated None q s p = absurd cc
    negated (Some v) q s p =
        let is : signed false v ≡ l = cc in
        let vs : variable l ≡ v = ap variable (sym is) ∙ signed_variable false v in
        let ps : is_positive l ≡ false = ap is_positive (sym is) ∙ signed_positive false v in
        let d : decimal v ≡ cs = decimal-number_of cs v q (omega (arith, vs)) in
        rw (ps, vs, d, s) refl

    plain : (o : Option ℕ) → number_of (c ∷ cs) ≡ o → option_signed true o ≡ Some l → literal_token l ≡ c ∷ cs
    plain None q p = absurd cc
    plain (Some v) q p =
        let is : signed true v ≡ l = cc in
        let vs : variable l ≡ v = ap variable (sym is) ∙ signed_variable true v in
        let ps : is_positive l ≡ true = ap is_positive (sym is) ∙ signed_positive true v in
        let d : decimal v ≡ c ∷ cs = decimal-number_of (c ∷ cs) v q (omega (arith, vs)) in
        rw (ps, vs, d) refl

    go : (b : Bool) → eqb c minus ≡ b → cond b (option_signed false (number_of cs)) (option_signed true (number_of (c ∷ cs))) ≡ Some l → literal_token l ≡ c ∷ cs
    go true q p = negated (number_of cs) refl (grind (arith, nat_tests)) p
    go false q p = plain (number_of (c ∷ cs)) refl p

pub few : (above n : ℕ) (l : Lit) → n < limit → is_between above n l ≡ true → variable l < 2 ^ 64
few above n l small v = let p = and_parts (nat_lt above (variable l)) (nat_le (variable l) n) v in grind (arith, nat_tests, p.1)

literal_spelling : (above n : ℕ) → n < limit → IsSpelling (is_between above n) literal_token (λ t. between above n (literal_of t))
literal_spelling above n small = record {
  means = λ l v. rw (literal_of-token l (few above n l small v), v) refl;
  spells = λ t l e. spells t l (literal_of t) refl e;
}
  where
    spells : (t : Token) (l : Lit) (o : Option Lit) → literal_of t ≡ o → between above n o ≡ Some l → (is_between above n l ≡ true) × (literal_token l ≡ t)
    spells t l None e q = absurd cc
    spells t l (Some m) e q = test t l m e (is_between above n m) refl q
      where
        test : (t : Token) (l m : Lit) → literal_of t ≡ Some m → (b : Bool) → is_between above n m ≡ b → cond b (Some m) None ≡ Some l → (is_between above n l ≡ true) × (literal_token l ≡ t)
        test t l m e true w q =
            let same : m ≡ l = cc in
            let v : is_between above n l ≡ true = subst (λ (k : Lit). is_between above n k ≡ true) same w in
            (v, literal_token-of t l (e ∙ ap Some same) (few above n l small v))
        test t l m e false w q = absurd cc

pub literal_exact : (above n : ℕ) → n < limit → IsExact (literal above n)
unfolding literal
literal_exact above n small = one_exact _ _ _ (literal_spelling above n small)

pub literal_some : (n : ℕ) → 0 < n → HasSome (literal 0 n)
unfolding literal
literal_some n some = record { value = signed true 1; valid = let e = signed_variable true 1 in grind (arith, nat_tests, e) }

-- ---- a variable's value

value_spelling : (v : ℕ) → IsSpelling {A = Bool} (λ _. true) (λ b. cond b (decimal v) (minus ∷ decimal v)) (λ t. cond (bytes_eq t (decimal v)) (Some true) (cond (bytes_eq t (minus ∷ decimal v)) (Some false) None))
value_spelling v = record { means = means; spells = λ t x e. spells t x (bytes_eq t (decimal v)) refl (bytes_eq t (minus ∷ decimal v)) refl e }
  where
    differ : (b : Bool) → bytes_eq (minus ∷ decimal v) (decimal v) ≡ b → b ≡ false
    differ true e = let q : length (minus ∷ decimal v) ≡ length (decimal v) = ap length (same_bytes (minus ∷ decimal v) (decimal v) e) in absurd (omega arith)
    differ false e = refl

    means : (x : Bool) → true ≡ true → cond (bytes_eq (cond x (decimal v) (minus ∷ decimal v)) (decimal v)) (Some true) (cond (bytes_eq (cond x (decimal v) (minus ∷ decimal v)) (minus ∷ decimal v)) (Some false) None) ≡ Some x
    means true w = let e : bytes_eq (decimal v) (decimal v) ≡ true = bytes_same (decimal v) in subst (λ (b : Bool). cond b (Some true) (cond (bytes_eq (decimal v) (minus ∷ decimal v)) (Some false) None) ≡ Some true) (sym e) refl
    means false w =
        let e : bytes_eq (minus ∷ decimal v) (decimal v) ≡ false = differ (bytes_eq (minus ∷ decimal v) (decimal v)) refl in
        let f : bytes_eq (minus ∷ decimal v) (minus ∷ decimal v) ≡ true = bytes_same (minus ∷ decimal v) in
        subst (λ (b : Bool). cond b (Some true) (cond (bytes_eq (minus ∷ decimal v) (minus ∷ decimal v)) (Some false) None) ≡ Some false) (sym e) (subst (λ (b : Bool). cond b (Some false) None ≡ Some false) (sym f) refl)

    spells : (t : Token) (x a : Bool) → bytes_eq t (decimal v) ≡ a → (b : Bool) → bytes_eq t (minus ∷ decimal v) ≡ b → cond a (Some true) (cond b (Some false) None) ≡ Some x → (true ≡ true) × (cond x (decimal v) (minus ∷ decimal v) ≡ t)
    spells t x true p b q e = let is : true ≡ x = cc in (refl, subst (λ (y : Bool). cond y (decimal v) (minus ∷ decimal v) ≡ t) is (sym (same_bytes t (decimal v) p)))
    spells t x false p true q e = let is : false ≡ x = cc in (refl, subst (λ (y : Bool). cond y (decimal v) (minus ∷ decimal v) ≡ t) is (sym (same_bytes t (minus ∷ decimal v) q)))
    spells t x false p false q e = absurd cc

pub value_exact : (v : ℕ) → IsExact (value_token v)
unfolding value_token
value_exact v = one_exact _ _ _ (value_spelling v)

pub value_some : (v : ℕ) → HasSome (value_token v)
unfolding value_token
value_some v = record { value = true; valid = refl }

-- ---- names

name_spelling : IsSpelling is_name (λ t. t) (λ t. cond (is_name t) (Some t) None)
name_spelling = record { means = λ t v. rw v refl; spells = λ t x e. go t x (is_name t) refl e }
  where
    go : (t x : Token) (b : Bool) → is_name t ≡ b → cond b (Some t) None ≡ Some x → (is_name x ≡ true) × (x ≡ t)
    go t x true e p = let q : t ≡ x = cc in (subst (λ (w : Token). is_name w ≡ true) q e, sym q)
    go t x false e p = absurd cc

pub name_exact : IsExact name
unfolding name
name_exact = one_exact _ _ _ name_spelling

pub name_some : HasSome name
unfolding name
name_some = record { value = 65 ∷ []; valid = refl }
