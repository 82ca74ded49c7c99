-- Of any language: the three outcomes exclude each other, and a text has at most one first fault.
use Rattle.std.proofs.Common.{◌≡◌, List, [], ◌∷◌, ◌++◌, ◌⊎◌, inl, inr, refl, sym, ap, ◌∙◌, append_assoc}
use Rattle.grammar.specs.FirstFault.{IsPrefix, IsFirstFault, HasFirstFault, IsCutOff, HasOneOutcome}

-- two cells of one list: at one place, or one of them is among those before the other
abbrev SamePlace : {T : Type 0} → List T → T → List T → List T → T → List T → Type 0
SamePlace {T} a x r b y s = ((x ≡ y) × (r ≡ s)) ⊎ (((v : List T) × (b ≡ (a ++ x ∷ []) ++ v)) ⊎ ((v : List T) × (a ≡ (b ++ y ∷ []) ++ v)))

same_place : {T : Type 0} (a : List T) (x : T) (r b : List T) (y : T) (s : List T) → a ++ x ∷ r ≡ b ++ y ∷ s → SamePlace a x r b y s
same_place [] x r [] y s e = inl (cc, cc)
same_place [] x r (d ∷ b) y s e = inr (inl (b, let h : x ≡ d = cc in rw h refl))
same_place (c ∷ a) x r [] y s e = inr (inr (a, let h : c ≡ y = cc in rw h refl))
same_place (c ∷ a) x r (d ∷ b) y s e =
    let h : c ≡ d = cc in
    let rest : a ++ x ∷ r ≡ b ++ y ∷ s = cc in
    elim (same_place a x r b y s rest) [
      | inl p ↦ inl p
      | inr q ↦ elim q [
        | inl p ↦ inr (inl (p.0, rw h (ap (λ z. d ∷ z) p.1)))
        | inr p ↦ inr (inr (p.0, rw h (ap (λ z. d ∷ z) p.1)))
      ]
    ]

module _ {T : Type 0} (IsWhole : List T → Type 0) where
  -- what begins a prefix is a prefix
  pub front_of : (a b : List T) → IsPrefix IsWhole (a ++ b) → IsPrefix IsWhole a
  front_of a b p = record { more = b ++ p.more; whole = rw (← append_assoc a b p.more) p.whole }

  pub whole_or_fault : (text : List T) (bad : T) (rest : List T) → IsWhole text → IsFirstFault IsWhole text bad rest → ⊥
  whole_or_fault text bad rest whole fault =
      let w : IsWhole (fault.before ++ bad ∷ rest) = rw fault.parts at whole in
      fault.no_more (record { more = rest; whole = rw append_assoc w })

  pub fault_or_prefix : (text : List T) (bad : T) (rest : List T) → IsFirstFault IsWhole text bad rest → IsPrefix IsWhole text → ⊥
  fault_or_prefix text bad rest fault front =
      let p : IsPrefix IsWhole (fault.before ++ bad ∷ rest) = rw fault.parts at front in
      let q : IsPrefix IsWhole ((fault.before ++ bad ∷ []) ++ rest) = rw append_assoc p in
      fault.no_more (front_of (fault.before ++ bad ∷ []) rest q)

  -- no first fault stands before another
  not_before : (a b v : List T) (x : T) → b ≡ (a ++ x ∷ []) ++ v → IsPrefix IsWhole b → (IsPrefix IsWhole (a ++ x ∷ []) → ⊥) → ⊥
  not_before a b v x e front none = let p : IsPrefix IsWhole ((a ++ x ∷ []) ++ v) = rw e at front in none (front_of (a ++ x ∷ []) v p)

  pub one_fault : (text : List T) (bad other : T) (rest others : List T) → IsFirstFault IsWhole text bad rest → IsFirstFault IsWhole text other others → (bad ≡ other) × (rest ≡ others)
  one_fault text bad other rest others p q =
      elim (same_place p.before bad rest q.before other others (sym p.parts ∙ q.parts)) [
        | inl e ↦ e
        | inr d ↦ elim d [
          | inl v ↦ absurd (not_before p.before q.before v.0 bad v.1 q.goes_on p.no_more)
          | inr v ↦ absurd (not_before q.before p.before v.0 other v.1 p.goes_on q.no_more)
        ]
      ]

  pub one_outcome : (text : List T) → IsWhole text ⊎ (HasFirstFault IsWhole text ⊎ IsCutOff IsWhole text) → HasOneOutcome IsWhole text
  one_outcome text some = record {
    one = some;
    whole_or_fault = λ whole fault. whole_or_fault text fault.0 fault.1 whole fault.2;
    whole_or_cut_off = λ whole cut. cut.not_whole whole;
    fault_or_cut_off = λ fault cut. fault_or_prefix text fault.0 fault.1 fault.2 cut.goes_on;
  }
