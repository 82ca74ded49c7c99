-- Functions that are found one after another.
use Rattle.std.proofs.Common.{◌≡◌, ℕ, ◌+◌, ◌<◌, ◌≤◌, ◌==◌, Bool, true, false, ◌||◌, List, [], ◌∷◌, ◌++◌, ◌⊎◌, inl, inr, length, get_or, set, take, replicate, refl, sym, ap, subst, ◌∙◌, arith}
use Rattle.std.specs.List.{flat_map}
use Rattle.std.proofs.lemmas.List.Concat.{flat_map-append}
use Rattle.std.proofs.lemmas.Bool.{cases_eq, or_left, or_right, eq-eqb, ne_eqb}
use Rattle.std.proofs.lemmas.List.{append-nil, take_more, length-set, length-replicate, get_or-set_same, get_or-set_other, get_or-replicate}
use Rattle.std.proofs.lemmas.List.Folds.{list_any-append, list_any_more}
use Rattle.application.specs.Levels.{has_number}
use Rattle.static_rules.specs.declared.site.Site.{Site}
use Rattle.static_rules.specs.Chains.{is_call_of, calls, body}
use Rattle.static_rules.specs.Found.{IsTable, Finds}
use Rattle.static_rules.proofs.Bounds.{or_false, or_assoc}

-- nothing is found
pub finds_nothing : (flags : List Bool) (fresh : List ℕ) (test : ℕ → Bool) → ((g : ℕ) → test g ≡ false) → Finds flags fresh flags fresh test
finds_nothing flags fresh test none = record {
  sized = refl;
  flagged = λ g within. sym (ap (λ b. get_or flags g false || b) (none g) ∙ or_false (get_or flags g false));
  listed = λ others all g within. all g within;
}

-- what is flagged is found again
pub finds_known : (flags : List Bool) (fresh : List ℕ) (f : ℕ) → get_or flags f false ≡ true → Finds flags fresh flags fresh (λ g. f == g)
finds_known flags fresh f known = record {
  sized = refl;
  flagged = λ g within. by g (cases_eq f g);
  listed = λ others all g within. all g within;
}
  where
    by : (g : ℕ) → (f ≡ g) ⊎ (f ≡ g → ⊥) → get_or flags g false ≡ (get_or flags g false || (f == g))
    by g (inl e) =
        let is : get_or flags g false ≡ true = ap (λ n. get_or flags n false) (sym e) ∙ known in
        is ∙ sym (or_left (get_or flags g false) (f == g) is)
    by g (inr other) = sym (ap (λ b. get_or flags g false || b) (ne_eqb f g other) ∙ or_false (get_or flags g false))

-- there is no such function
pub finds_beyond : (flags : List Bool) (fresh : List ℕ) (f : ℕ) → length flags ≤ f → Finds flags fresh flags fresh (λ g. f == g)
finds_beyond flags fresh f beyond = record {
  sized = refl;
  flagged = λ g within. sym (ap (λ b. get_or flags g false || b) (ne_eqb f g (λ e. omega arith)) ∙ or_false (get_or flags g false));
  listed = λ others all g within. all g within;
}

-- a number is in the list with one more
has_more : (fresh : List ℕ) (f g : ℕ) → has_number (fresh ++ f ∷ []) g ≡ (has_number fresh g || (f == g))
has_more fresh f g = list_any-append (λ m. m == g) fresh (f ∷ []) ∙ ap (λ b. has_number fresh g || b) (or_false (f == g))

-- a function is found
pub finds_new : (flags : List Bool) (fresh : List ℕ) (f : ℕ) → f < length flags → Finds flags fresh (set flags f true) (fresh ++ f ∷ []) (λ g. f == g)
finds_new flags fresh f inside = record {
  sized = length-set flags f true;
  flagged = λ g within. by g (cases_eq f g);
  listed = λ others all g within. list others g (all g within) (cases_eq f g);
}
  where
    by : (g : ℕ) → (f ≡ g) ⊎ (f ≡ g → ⊥) → get_or (set flags f true) g false ≡ (get_or flags g false || (f == g))
    by g (inl e) =
        ap (λ n. get_or (set flags f true) n false) (sym e)
        ∙ (get_or-set_same flags f true false inside
        ∙ sym (or_right (get_or flags g false) (f == g) (eq-eqb f g e)))
    by g (inr other) =
        get_or-set_other flags f g true false (λ e. other (sym e))
        ∙ sym (ap (λ b. get_or flags g false || b) (ne_eqb f g other) ∙ or_false (get_or flags g false))

    list : (others : ℕ → Bool) (g : ℕ) → get_or flags g false ≡ (others g || has_number fresh g) → (f ≡ g) ⊎ (f ≡ g → ⊥) → get_or (set flags f true) g false ≡ (others g || has_number (fresh ++ f ∷ []) g)
    list others g all cases =
        by g cases
        ∙ (ap (λ b. b || (f == g)) all
        ∙ (or_assoc (others g) (has_number fresh g) (f == g)
        ∙ ap (λ b. others g || b) (sym (has_more fresh f g))))

-- one after the other
pub finds_then : (a b c : List Bool) (x y z : List ℕ) (t u v : ℕ → Bool) → Finds a x b y t → Finds b y c z u → ((g : ℕ) → v g ≡ (t g || u g)) → Finds a x c z v
finds_then a b c x y z t u v one two both = record {
  sized = two.sized ∙ one.sized;
  flagged = λ g within.
      two.flagged g (subst (λ n. g < n) (sym one.sized) within)
      ∙ (ap (λ q. q || u g) (one.flagged g within)
      ∙ (or_assoc (get_or a g false) (t g) (u g)
      ∙ ap (λ q. get_or a g false || q) (sym (both g))));
  listed = λ others all g within.
      two.listed others (λ h inside. one.listed others all h (subst (λ n. h < n) one.sized inside)) g (subst (λ n. g < n) (sym one.sized) within);
}

-- the calls at one more site
pub finds_site : (a b c : List Bool) (x y z : List ℕ) (sites : List Site) (i : ℕ) (d : Site) → i < length sites
    → Finds a x b y (calls (take i sites)) → Finds b y c z (λ g. is_call_of g (get_or sites i d)) → Finds a x c z (calls (take (i + 1) sites))
finds_site a b c x y z sites i d within one two =
    finds_then a b c x y z (calls (take i sites)) (λ g. is_call_of g (get_or sites i d)) (calls (take (i + 1) sites)) one two
    (λ g. list_any_more (is_call_of g) sites i d within)

-- the calls in one more function
pub finds_body : (a b c : List Bool) (x y z : List ℕ) (bodies : List (List Site)) (fs : List ℕ) (i : ℕ) (d : ℕ) → i < length fs
    → Finds a x b y (calls (flat_map (body bodies) (take i fs))) → Finds b y c z (calls (body bodies (get_or fs i d))) → Finds a x c z (calls (flat_map (body bodies) (take (i + 1) fs)))
finds_body a b c x y z bodies fs i d within one two =
    finds_then a b c x y z (calls (flat_map (body bodies) (take i fs))) (calls (body bodies (get_or fs i d))) (calls (flat_map (body bodies) (take (i + 1) fs))) one two
    (λ g.
    ap (λ xs. calls (flat_map (body bodies) xs) g) (take_more fs i d within)
    ∙ (ap (λ ss. calls ss g) (flat_map-append (body bodies) (take i fs) (get_or fs i d ∷ []) ∙ ap (λ ss. flat_map (body bodies) (take i fs) ++ ss) (append-nil (body bodies (get_or fs i d))))
    ∙ list_any-append (is_call_of g) (flat_map (body bodies) (take i fs)) (body bodies (get_or fs i d))))

-- a table of nothing
pub no_flags : (count : ℕ) → IsTable (replicate count false) count (λ g. false)
no_flags count = record { sized = length-replicate count false; flagged = λ g within. get_or-replicate count g false false within }

-- a table in which more is found
pub table_then : (a b : List Bool) (x y : List ℕ) (count : ℕ) (t u v : ℕ → Bool) → IsTable a count t → Finds a x b y u → ((g : ℕ) → v g ≡ (t g || u g)) → IsTable b count v
table_then a b x y count t u v table finds both = record {
  sized = finds.sized ∙ table.sized;
  flagged = λ g within.
      finds.flagged g (subst (λ n. g < n) (sym table.sized) within)
      ∙ (ap (λ q. q || u g) (table.flagged g within) ∙ sym (both g));
}

-- a table of the same test
pub table_same : (a : List Bool) (count : ℕ) (t u : ℕ → Bool) → IsTable a count t → ((g : ℕ) → g < count → t g ≡ u g) → IsTable a count u
table_same a count t u table same = record { sized = table.sized; flagged = λ g within. table.flagged g within ∙ same g within }
