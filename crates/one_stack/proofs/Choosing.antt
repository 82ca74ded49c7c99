-- Of the alternatives of a point, exactly one is open: that of the first rule whose guard isn't 0.
use Rattle.std.proofs.Common.{◌≡◌, ℕ, ◌+◌, Bool, true, false, List, [], ◌∷◌, Option, Some, None, refl, ap, ◌∙◌, if◌then◌else◌}
use Rattle.chk_base.specs.Operators.{truth}
use Rattle.chk_base.specs.Term.{Term}
use Rattle.chk_base.specs.declared.word.Width.{Width}
use Rattle.guard_prog.specs.GuardedRun.{PlainAlternative, value_in, enabled_of}
use Rattle.one_stack.proofs.Values.{negated_true, negated_false}
use Rattle.one_stack.specs.Rules.{Rule, alternatives, both, negated}

-- the first rule whose guard isn't 0
abbrev pub first_rule : (Term → ℕ) → List Rule → Option Rule
first_rule v [] = None
first_rule v (r ∷ rs) = if truth (v r.guard) then Some r else first_rule v rs

-- exactly this rule's alternative is open, with one of these labels
pub record IsOpen (label : ℕ → ℕ) (r : Rule) (choices : List PlainAlternative) : Type 0 where
  pub number : ℕ
  pub guard : Term
  pub alone : choices ≡ record { label = label number; guard = guard; sets = r.sets; control = r.control; input = r.input } ∷ []

module _ (width : ℕ → Width) (c : ℕ → ℕ) (label : ℕ → ℕ) where
  -- where a rule before counted, none is open
  none_open : (none : Term) (k : ℕ) (rs : List Rule) → truth (value_in width c none) ≡ false → enabled_of width c (alternatives label none k rs) ≡ []
  none_open none k [] h = refl
  none_open none k (r ∷ rs) h =
      let shut : truth (value_in width c (both none r.guard)) ≡ false = ap (λ b. truth (if b then value_in width c r.guard else 0)) h in
      let more : truth (value_in width c (both none (negated r.guard))) ≡ false = ap (λ b. truth (if b then value_in width c (negated r.guard) else 0)) h in
      ap (λ b. if b then record { label = label k; guard = both none r.guard; sets = r.sets; control = r.control; input = r.input } ∷ enabled_of width c (alternatives label (both none (negated r.guard)) (k + 1) rs) else enabled_of width c (alternatives label (both none (negated r.guard)) (k + 1) rs)) shut
      ∙ none_open (both none (negated r.guard)) (k + 1) rs more

  pub opens : (none : Term) (k : ℕ) (rs : List Rule) (r : Rule) → truth (value_in width c none) ≡ true → first_rule (value_in width c) rs ≡ Some r → IsOpen label r (enabled_of width c (alternatives label none k rs))
  opens none k [] r h is = absurd (let e : ◌≡◌ {A = Option Rule} None (Some r) = is in cc)
  opens none k (x ∷ xs) r h is = go (truth (value_in width c x.guard)) refl is (opens (both none (negated x.guard)) (k + 1) xs r)
    where
      go : (b : Bool) → truth (value_in width c x.guard) ≡ b → (if b then Some x else first_rule (value_in width c) xs) ≡ Some r → (truth (value_in width c (both none (negated x.guard))) ≡ true → first_rule (value_in width c) xs ≡ Some r → IsOpen label r (enabled_of width c (alternatives label (both none (negated x.guard)) (k + 1) xs))) → IsOpen label r (enabled_of width c (alternatives label none k (x ∷ xs)))
      go true e found later =
          let same : x ≡ r = cc in
          let opened : truth (value_in width c (both none x.guard)) ≡ true = ap (λ b. truth (if b then value_in width c x.guard else 0)) h ∙ e in
          let no_more : truth (value_in width c (both none (negated x.guard))) ≡ false =
          ap (λ b. truth (if b then value_in width c (negated x.guard) else 0)) h ∙ negated_true (value_in width c x.guard) e in
          record {
            number = k;
            guard = both none x.guard;
            alone =
                ap (λ b. if b then record { label = label k; guard = both none x.guard; sets = x.sets; control = x.control; input = x.input } ∷ enabled_of width c (alternatives label (both none (negated x.guard)) (k + 1) xs) else enabled_of width c (alternatives label (both none (negated x.guard)) (k + 1) xs)) opened
                ∙ (ap (λ rest. record { label = label k; guard = both none x.guard; sets = x.sets; control = x.control; input = x.input } ∷ rest) (none_open (both none (negated x.guard)) (k + 1) xs no_more)
                ∙ ap (λ y. record { label = label k; guard = both none x.guard; sets = y.sets; control = y.control; input = y.input } ∷ []) same);
          }
      go false e found later =
          let shut : truth (value_in width c (both none x.guard)) ≡ false = ap (λ b. truth (if b then value_in width c x.guard else 0)) h ∙ e in
          let still : truth (value_in width c (both none (negated x.guard))) ≡ true =
          ap (λ b. truth (if b then value_in width c (negated x.guard) else 0)) h ∙ negated_false (value_in width c x.guard) e in
          let o = later still found in
          record {
            number = o.number;
            guard = o.guard;
            alone =
                ap (λ b. if b then record { label = label k; guard = both none x.guard; sets = x.sets; control = x.control; input = x.input } ∷ enabled_of width c (alternatives label (both none (negated x.guard)) (k + 1) xs) else enabled_of width c (alternatives label (both none (negated x.guard)) (k + 1) xs)) shut
                ∙ o.alone;
          }
