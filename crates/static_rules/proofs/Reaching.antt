-- Functions that are reached call by call.
use Rattle.std.proofs.Common.{◌≡◌, ℕ, zero, suc, ◌+◌, ◌<◌, ◌≤◌, ◌==◌, Bool, true, false, ◌&&◌, ◌||◌, List, [], ◌∷◌, ◌⊎◌, inl, inr, length, get_or, refl, sym, ap, subst, ◌∙◌, arith}
use Rattle.std.specs.List.{flat_map}
use Rattle.std.proofs.lemmas.Bool.{cases_lt, eqb-true, eq-eqb, or_cases, or_left, or_right, and_parts, and_from, false≢true}
use Rattle.std.proofs.lemmas.List.{get_or_past}
use Rattle.std.proofs.lemmas.List.Folds.{list_any-append}
use Rattle.application.specs.Levels.{has_number}
use Rattle.static_rules.specs.declared.site.Site.{Site}
use Rattle.static_rules.specs.Chains.{is_call_of, calls, body, any_below, called_after, reaches}
use Rattle.static_rules.specs.Found.{IsTable, Finds}
use Rattle.static_rules.proofs.Bounds.{or_false, same_tests, any_more, any_at, any_some, any_same}
use Rattle.static_rules.proofs.Finding.{table_then, table_same}

-- what calls something is a function
body_within : (bodies : List (List Site)) (f g : ℕ) → calls (body bodies f) g ≡ true → f < length bodies
body_within bodies f g called = by (cases_lt f (length bodies))
  where
    by : (f < length bodies) ⊎ (length bodies ≤ f) → f < length bodies
    by (inl within) = within
    by (inr beyond) = absurd (false≢true (sym (ap (λ ss. calls ss g) (get_or_past bodies f [] beyond)) ∙ called))

-- a call in some of these functions
calls_some : (bodies : List (List Site)) (fs : List ℕ) (g : ℕ) → calls (flat_map (body bodies) fs) g ≡ true → (f : ℕ) × (has_number fs f ≡ true) × (calls (body bodies f) g ≡ true)
calls_some bodies [] g called = absurd (false≢true called)
calls_some bodies (f ∷ fs) g called =
    by (calls_some bodies fs g) (or_cases (calls (body bodies f) g) (calls (flat_map (body bodies) fs) g) (sym (list_any-append (is_call_of g) (body bodies f) (flat_map (body bodies) fs)) ∙ called))
  where
    by : (calls (flat_map (body bodies) fs) g ≡ true → (h : ℕ) × (has_number fs h ≡ true) × (calls (body bodies h) g ≡ true))
        → (calls (body bodies f) g ≡ true) ⊎ (calls (flat_map (body bodies) fs) g ≡ true) → (h : ℕ) × (has_number (f ∷ fs) h ≡ true) × (calls (body bodies h) g ≡ true)
    by some (inl here) = (f, or_left (f == f) (has_number fs f) (eq-eqb f f refl), here)
    by some (inr later) = let found = some later in (found.0, or_right (f == found.0) (has_number fs found.0) found.1, found.2)

calls_all : (bodies : List (List Site)) (fs : List ℕ) (f g : ℕ) → has_number fs f ≡ true → calls (body bodies f) g ≡ true → calls (flat_map (body bodies) fs) g ≡ true
calls_all bodies [] f g listed called = absurd (false≢true listed)
calls_all bodies (h ∷ fs) f g listed called =
    list_any-append (is_call_of g) (body bodies h) (flat_map (body bodies) fs) ∙ by (calls_all bodies fs f g) (or_cases (h == f) (has_number fs f) listed)
  where
    by : (has_number fs f ≡ true → calls (body bodies f) g ≡ true → calls (flat_map (body bodies) fs) g ≡ true)
        → ((h == f) ≡ true) ⊎ (has_number fs f ≡ true) → (calls (body bodies h) g || calls (flat_map (body bodies) fs) g) ≡ true
    by all (inl here) = or_left (calls (body bodies h) g) (calls (flat_map (body bodies) fs) g) (ap (λ n. calls (body bodies n) g) (eqb-true h f here) ∙ called)
    by all (inr later) = or_right (calls (body bodies h) g) (calls (flat_map (body bodies) fs) g) (all later called)

-- the functions to which fewer calls than a number lead are flagged; what those call that aren't listed is flagged too
pub record IsSpread (bodies : List (List Site)) (start : List Site) (count : ℕ) (flags : List Bool) (fresh : List ℕ) : Type 0 where
  pub table : IsTable flags (length bodies) (λ g. any_below (λ n. called_after bodies start n g) count)
  pub listed : (f : ℕ) → f < length bodies → has_number fresh f ≡ true → get_or flags f false ≡ true
  pub closed : (f : ℕ) → f < length bodies → get_or flags f false ≡ true → (has_number fresh f ≡ true) ⊎ ((g : ℕ) → g < length bodies → calls (body bodies f) g ≡ true → get_or flags g false ≡ true)

-- the start of a chain
after_none : (bodies : List (List Site)) (start : List Site) (g : ℕ) → called_after bodies start 0 g ≡ calls start g
unfolding called_after
after_none bodies start g = refl

pub after_more : (bodies : List (List Site)) (start : List Site) (n g : ℕ) → called_after bodies start (suc n) g ≡ any_below (λ f. called_after bodies start n f && calls (body bodies f) g) (length bodies)
unfolding called_after
after_more bodies start n g = refl

-- one call more leads on
pub called_next : (bodies : List (List Site)) (start : List Site) (n f g : ℕ) → f < length bodies → called_after bodies start n f ≡ true → calls (body bodies f) g ≡ true → called_after bodies start (suc n) g ≡ true
called_next bodies start n f g inside led called =
    let here : (called_after bodies start n f && calls (body bodies f) g) ≡ true = and_from (called_after bodies start n f) (calls (body bodies f) g) led called in
    after_more bodies start n g ∙ any_at (λ h. called_after bodies start n h && calls (body bodies h) g) (length bodies) f inside here

pub spread_begins : (bodies : List (List Site)) (start : List Site) (none flags : List Bool) (before fresh : List ℕ) → IsTable none (length bodies) (λ g. false) → before ≡ [] → Finds none before flags fresh (calls start) → IsSpread bodies start 1 flags fresh
spread_begins bodies start none flags before fresh table empty found =
    let finds : Finds none [] flags fresh (calls start) = subst (λ xs. Finds none xs flags fresh (calls start)) empty found in
    let same : (g : ℕ) → any_below (λ n. called_after bodies start n g) 1 ≡ (false || calls start g) = λ g. after_none bodies start g in
    let listed : (g : ℕ) → g < length bodies → get_or flags g false ≡ (false || has_number fresh g) = λ g inside. finds.listed (λ h. false) (λ h below. table.flagged h (subst (λ n. h < n) table.sized below)) g (subst (λ n. g < n) (sym table.sized) inside) in
    record {
      table = table_then none flags [] fresh (length bodies) (λ g. false) (calls start) (λ g. any_below (λ n. called_after bodies start n g) 1) table finds same;
      listed = λ f inside is. listed f inside ∙ is;
      closed = λ f inside is. inl (sym (listed f inside) ∙ is);
    }

-- one call more
pub spread_more : (bodies : List (List Site)) (start : List Site) (count : ℕ) (flags : List Bool) (fresh : List ℕ) (flags' : List Bool) (fresh' : List ℕ) → 1 ≤ count
    → IsSpread bodies start count flags fresh → Finds flags [] flags' fresh' (calls (flat_map (body bodies) fresh)) → IsSpread bodies start (count + 1) flags' fresh'
spread_more bodies start count flags fresh flags' fresh' some spread finds = record {
  table = record {
    sized = finds.sized ∙ spread.table.sized;
    flagged = λ g inside. same_tests (get_or flags' g false) (any_below (λ n. called_after bodies start n g) (count + 1)) (to g inside) (from g inside);
  };
  listed = λ f inside is. listed f inside ∙ or_right (get_or flags f false) (has_number fresh' f) is;
  closed = λ f inside is. closing f inside (or_cases (get_or flags f false) (has_number fresh' f) (sym (listed f inside) ∙ is));
}
  where
    sized : (g : ℕ) → g < length bodies → g < length flags
    sized g inside = subst (λ n. g < n) (sym spread.table.sized) inside

    kept : (g : ℕ) → g < length bodies → get_or flags g false ≡ true → get_or flags' g false ≡ true
    kept g inside is = finds.flagged g (sized g inside) ∙ or_left (get_or flags g false) (calls (flat_map (body bodies) fresh) g) is

    found : (f g : ℕ) → g < length bodies → has_number fresh f ≡ true → calls (body bodies f) g ≡ true → get_or flags' g false ≡ true
    found f g inside is called =
        finds.flagged g (sized g inside) ∙ or_right (get_or flags g false) (calls (flat_map (body bodies) fresh) g) (calls_all bodies fresh f g is called)

    listed : (g : ℕ) → g < length bodies → get_or flags' g false ≡ (get_or flags g false || has_number fresh' g)
    listed g inside = finds.listed (λ h. get_or flags h false) (λ h below. sym (or_false (get_or flags h false))) g (sized g inside)

    later : (g f n : ℕ) → g < length bodies → f < length bodies → n < count → called_after bodies start n f ≡ true → calls (body bodies f) g ≡ true → any_below (λ n. called_after bodies start n g) (count + 1) ≡ true
    later g f n inside among below led called =
        any_at (λ n. called_after bodies start n g) (count + 1) (suc n) (omega arith) (called_next bodies start n f g among led called)

    to : (g : ℕ) → g < length bodies → get_or flags' g false ≡ true → any_below (λ n. called_after bodies start n g) (count + 1) ≡ true
    to g inside is = by (or_cases (get_or flags g false) (calls (flat_map (body bodies) fresh) g) (sym (finds.flagged g (sized g inside)) ∙ is))
      where
        by : (get_or flags g false ≡ true) ⊎ (calls (flat_map (body bodies) fresh) g ≡ true) → any_below (λ n. called_after bodies start n g) (count + 1) ≡ true
        by (inl old) =
            any_more (λ n. called_after bodies start n g) count
            ∙ or_left (any_below (λ n. called_after bodies start n g) count) (called_after bodies start count g) (sym (spread.table.flagged g inside) ∙ old)
        by (inr new) =
            let one = calls_some bodies fresh g new in
            let among : one.0 < length bodies = body_within bodies one.0 g one.2 in
            let led = any_some (λ n. called_after bodies start n one.0) count (sym (spread.table.flagged one.0 among) ∙ spread.listed one.0 among one.1) in
            later g one.0 led.0 inside among led.1 led.2 one.2

    from : (g : ℕ) → g < length bodies → any_below (λ n. called_after bodies start n g) (count + 1) ≡ true → get_or flags' g false ≡ true
    from g inside is = let led = any_some (λ n. called_after bodies start n g) (count + 1) is in by led.0 led.1 led.2
      where
        by : (n : ℕ) → n < count + 1 → called_after bodies start n g ≡ true → get_or flags' g false ≡ true
        by zero below led = kept g inside (spread.table.flagged g inside ∙ any_at (λ n. called_after bodies start n g) count 0 (omega arith) led)
        by (suc n) below led =
            let one = any_some (λ f. called_after bodies start n f && calls (body bodies f) g) (length bodies) (sym (after_more bodies start n g) ∙ led) in
            let both = and_parts (called_after bodies start n one.0) (calls (body bodies one.0) g) one.2 in
            let flag : get_or flags one.0 false ≡ true = spread.table.flagged one.0 one.1 ∙ any_at (λ n. called_after bodies start n one.0) count n (omega arith) both.0 in
            ending one.0 both.1 (spread.closed one.0 one.1 flag)
          where
            ending : (f : ℕ) → calls (body bodies f) g ≡ true → (has_number fresh f ≡ true) ⊎ ((h : ℕ) → h < length bodies → calls (body bodies f) h ≡ true → get_or flags h false ≡ true) → get_or flags' g false ≡ true
            ending f called (inl is) = found f g inside is called
            ending f called (inr all) = kept g inside (all g inside called)

    closing : (f : ℕ) → f < length bodies → (get_or flags f false ≡ true) ⊎ (has_number fresh' f ≡ true)
        → (has_number fresh' f ≡ true) ⊎ ((g : ℕ) → g < length bodies → calls (body bodies f) g ≡ true → get_or flags' g false ≡ true)
    closing f inside (inr is) = inl is
    closing f inside (inl old) = inr (by (spread.closed f inside old))
      where
        by : (has_number fresh f ≡ true) ⊎ ((g : ℕ) → g < length bodies → calls (body bodies f) g ≡ true → get_or flags g false ≡ true)
            → (g : ℕ) → g < length bodies → calls (body bodies f) g ≡ true → get_or flags' g false ≡ true
        by (inl is) g below called = found f g below is called
        by (inr all) g below called = kept g below (all g below called)

-- as many calls as there are functions
pub spread_ends : (bodies : List (List Site)) (start : List Site) (count : ℕ) (flags : List Bool) (fresh : List ℕ) → length bodies ≤ count → (1 ≤ length bodies → count ≤ length bodies)
    → IsSpread bodies start count flags fresh → IsTable flags (length bodies) (reaches bodies start)
unfolding reaches
spread_ends bodies start count flags fresh enough exact spread =
    table_same flags (length bodies) (λ g. any_below (λ n. called_after bodies start n g) count) (reaches bodies start) spread.table
    (λ g inside. let most : count ≤ length bodies = exact (omega arith) in let e : count ≡ length bodies = omega arith in ap (any_below (λ n. called_after bodies start n g)) e)

-- no call, and one call more
pub chain_begins : (bodies : List (List Site)) (start : List Site) (flags : List Bool) → IsTable flags (length bodies) (calls start) → IsTable flags (length bodies) (called_after bodies start 0)
chain_begins bodies start flags table = table_same flags (length bodies) (calls start) (called_after bodies start 0) table (λ g inside. sym (after_none bodies start g))

pub chain_more : (bodies : List (List Site)) (start : List Site) (n : ℕ) (flags flags' slice : List Bool) → IsTable flags (length bodies) (called_after bodies start n) → slice ≡ flags
    → IsTable flags' (length bodies) (λ g. any_below (λ f. get_or slice f false && calls (body bodies f) g) (length bodies)) → IsTable flags' (length bodies) (called_after bodies start (n + 1))
chain_more bodies start n flags flags' slice table same next =
    table_same flags' (length bodies) (λ g. any_below (λ f. get_or slice f false && calls (body bodies f) g) (length bodies)) (called_after bodies start (n + 1)) next
    (λ g inside.
    any_same (λ f. get_or slice f false && calls (body bodies f) g) (λ f. called_after bodies start n f && calls (body bodies f) g) (length bodies) (λ f below. ap (λ b. b && calls (body bodies f) g) (ap (λ xs. get_or xs f false) same ∙ table.flagged f below))
    ∙ (sym (after_more bodies start n g) ∙ (let e : suc n ≡ n + 1 = omega arith in ap (λ m. called_after bodies start m g) e)))
