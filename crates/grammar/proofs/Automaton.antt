-- What an automaton does with a text says which outcome the text has.
use Rattle.std.proofs.Common.{◌≡◌, Bool, true, false, Option, Some, None, List, [], ◌∷◌, ◌++◌, ◌⊎◌, inl, inr, ◌↔◌, refl, sym, ap, ◌∙◌, append_assoc}
use Rattle.grammar.specs.FirstFault.{IsPrefix, IsFirstFault, IsCutOff, HasOneOutcome}
use Rattle.grammar.specs.Automaton.{Automaton, run, reached, LeadsToEnd, IsAccepted, StopsAt, StopsShort, CanFinish}
use Rattle.grammar.proofs.Outcomes

module _ {S T : Type 0} (step : S → T → Option S) where
  pub run-append : (o : Option S) (xs ys : List T) → run step o (xs ++ ys) ≡ run step (run step o xs) ys
  run-append None [] [] = refl
  run-append None [] (y ∷ ys) = refl
  run-append None (x ∷ xs) [] = refl
  run-append None (x ∷ xs) (y ∷ ys) = refl
  run-append (Some s) [] ys = refl
  run-append (Some s) (x ∷ xs) ys = run-append (step s x) xs ys

  -- where the tokens lead: to a state, or to a token that is not taken
  abbrev Walk : S → List T → Type 0
  Walk s ts = ((u : S) × (run step (Some s) ts ≡ Some u)) ⊎ ((before : List T) × (u : S) × (bad : T) × (rest : List T) × (ts ≡ before ++ bad ∷ rest) × (run step (Some s) before ≡ Some u) × (step u bad ≡ None))

  walk_on : (s : S) (t : T) (ts : List T) (u : S) → step s t ≡ Some u → Walk u ts → Walk s (t ∷ ts)
  walk_on s t ts u e (inl p) = inl (p.0, rw e p.1)
  walk_on s t ts u e (inr p) = inr (t ∷ p.0, p.1, p.2, p.3, ap (λ z. t ∷ z) p.4, rw e p.5, p.6)

  walk_from : (s : S) (t : T) (ts : List T) (o : Option S) → step s t ≡ o → ((u : S) → Walk u ts) → Walk s (t ∷ ts)
  walk_from s t ts None e rest = inr ([], s, t, ts, refl, refl, e)
  walk_from s t ts (Some u) e rest = walk_on s t ts u e (rest u)

  walk : (s : S) (ts : List T) → Walk s ts
  walk s [] = inl (s, refl)
  walk s (t ∷ ts) = walk_from s t ts (step s t) refl (λ u. walk u ts)

-- what an automaton keeps at each step holds of each state that is reached
module _ {S T : Type 0} (A : Automaton S T) (Holds : S → Type 0) (first : Holds A.start) (stays : (s : S) (t : T) (u : S) → Holds s → A.step s t ≡ Some u → Holds u) where
  holds_after : (o : Option S) (ts : List T) (u : S) → ((s : S) → o ≡ Some s → Holds s) → run A.step o ts ≡ Some u → Holds u
  holds_after None ts u h e = absurd cc
  holds_after (Some s) [] u h e = h u e
  holds_after (Some s) (t ∷ ts) u h e = holds_after (A.step s t) ts u (λ v q. stays s t v (h s refl) q) e

  pub holds_reached : (ts : List T) (u : S) → reached A ts ≡ Some u → Holds u
  holds_reached ts u e = holds_after (Some A.start) ts u (λ s q. let r : A.start ≡ s = cc in rw r at first) e

  pub can_finish : ((s : S) → Holds s → (more : List T) × LeadsToEnd A s more) → CanFinish A
  can_finish leads before s e = leads s (holds_reached before s e)

module _ {S T : Type 0} (A : Automaton S T) where
  -- one token more
  pub reached_more : (before : List T) (s : S) (t : T) → reached A before ≡ Some s → reached A (before ++ t ∷ []) ≡ run A.step (A.step s t) []
  reached_more before s t e = run-append A.step (Some A.start) before (t ∷ []) ∙ rw e refl

  leads_from : (before : List T) (s : S) (more : List T) → reached A before ≡ Some s → LeadsToEnd A s more → IsAccepted A (before ++ more)
  leads_from before s more e a = record { state = a.state; runs = run-append A.step (Some A.start) before more ∙ rw e a.runs; ends_there = a.ends_there }

  none_beyond : (before : List T) (s : S) (bad : T) → reached A before ≡ Some s → A.step s bad ≡ None → IsPrefix (IsAccepted A) (before ++ bad ∷ []) → ⊥
  none_beyond before s bad e h front =
      let q : reached A (before ++ bad ∷ front.more) ≡ None = run-append A.step (Some A.start) before (bad ∷ front.more) ∙ rw (e, h) refl in
      let p : reached A (before ++ bad ∷ front.more) ≡ Some front.whole.state = rw append_assoc at front.whole.runs in
      let both : None ≡ Some front.whole.state = sym q ∙ p in
      cc

  not_accepted : (text : List T) → StopsShort A text → IsAccepted A text → ⊥
  not_accepted text p a =
      let e : Some p.state ≡ Some a.state = sym p.runs ∙ a.runs in
      let same : p.state ≡ a.state = cc in
      let q : A.ends a.state ≡ false = rw same at p.goes_on in
      let both : true ≡ false = sym a.ends_there ∙ q in
      cc

  -- what the automaton does with a text
  abbrev Does : List T → Type 0
  Does text = IsAccepted A text ⊎ (((bad : T) × (rest : List T) × StopsAt A text bad rest) ⊎ StopsShort A text)

  at_end : (text : List T) (u : S) (b : Bool) → reached A text ≡ Some u → A.ends u ≡ b → Does text
  at_end text u true e h = inl (record { state = u; runs = e; ends_there = h })
  at_end text u false e h = inr (inr (record { state = u; runs = e; goes_on = h }))

  does : (text : List T) → Does text
  does text = elim (walk A.step A.start text) [
    | inl p ↦ at_end text p.0 (A.ends p.0) p.1 refl
    | inr p ↦ inr (inl (p.2, p.3, record { before = p.0; state = p.1; parts = p.4; runs = p.5; refuses = p.6 }))
  ]

  module _ (finish : CanFinish A) where
    goes_on : (before : List T) (s : S) → reached A before ≡ Some s → IsPrefix (IsAccepted A) before
    goes_on before s e = let m = finish before s e in record { more = m.0; whole = leads_from before s m.0 e m.1 }

    pub fault : (text : List T) (bad : T) (rest : List T) → StopsAt A text bad rest → IsFirstFault (IsAccepted A) text bad rest
    fault text bad rest p = record {
      before = p.before;
      parts = p.parts;
      goes_on = goes_on p.before p.state p.runs;
      no_more = none_beyond p.before p.state bad p.runs p.refuses;
    }

    pub cut_off : (text : List T) → StopsShort A text → IsCutOff (IsAccepted A) text
    cut_off text p = record { goes_on = goes_on text p.state p.runs; not_whole = not_accepted text p }

    pub one_outcome : (text : List T) → HasOneOutcome (IsAccepted A) text
    one_outcome text = Outcomes.one_outcome (IsAccepted A) text (elim (does text) [
      | inl a ↦ inl a
      | inr d ↦ elim d [
        | inl p ↦ inr (inl (p.0, p.1, fault text p.0 p.1 p.2))
        | inr p ↦ inr (inr (cut_off text p))
      ]
    ])

    stops : (text : List T) (bad : T) (rest : List T) → IsFirstFault (IsAccepted A) text bad rest → Does text → StopsAt A text bad rest
    stops text bad rest f (inl a) = absurd (Outcomes.whole_or_fault (IsAccepted A) text bad rest a f)
    stops text bad rest f (inr (inl p)) =
        let e = Outcomes.one_fault (IsAccepted A) text p.0 bad p.1 rest (fault text p.0 p.1 p.2) f in
        rw (← e.0, ← e.1) p.2
    stops text bad rest f (inr (inr p)) = absurd (Outcomes.fault_or_prefix (IsAccepted A) text bad rest f (cut_off text p).goes_on)

    stops_short : (text : List T) → IsCutOff (IsAccepted A) text → Does text → StopsShort A text
    stops_short text c (inl a) = absurd (c.not_whole a)
    stops_short text c (inr (inl p)) = absurd (Outcomes.fault_or_prefix (IsAccepted A) text p.0 p.1 (fault text p.0 p.1 p.2) c.goes_on)
    stops_short text c (inr (inr p)) = p

    pub fault_iff : (text : List T) (bad : T) (rest : List T) → StopsAt A text bad rest ↔ IsFirstFault (IsAccepted A) text bad rest
    fault_iff text bad rest = (λ p. fault text bad rest p, λ f. stops text bad rest f (does text))

    pub cut_off_iff : (text : List T) → StopsShort A text ↔ IsCutOff (IsAccepted A) text
    cut_off_iff text = (λ p. cut_off text p, λ c. stops_short text c (does text))
