-- A language with a count as an example of an automaton: a number n, and then n commas.
use Rattle.std.proofs.Common.{ℕ, zero, suc, Bool, true, false, Option, Some, None, List, [], ◌∷◌, refl}
use Rattle.grammar.specs.FirstFault.{IsFirstFault, IsCutOff}
use Rattle.grammar.specs.Automaton.{Automaton, LeadsToEnd, IsAccepted, CanFinish}
use Rattle.grammar.proofs.Automaton.{can_finish, fault, cut_off}
use Rattle.grammar.proofs.Example.{Token, Comma, Number}

pub data State : Type 0 where
  Beginning : State
  -- so many commas are still to come
  Wants : ℕ → State

abbrev step : State → Token → Option State
step Beginning (Number n) = Some (Wants n)
step (Wants (suc n)) Comma = Some (Wants n)
step _ _ = None

abbrev ends : State → Bool
ends (Wants zero) = true
ends _ = false

abbrev pub counted : Automaton State Token
counted = record { start = Beginning; step = step; ends = ends }

leads_wants : (n : ℕ) → (more : List Token) × LeadsToEnd counted (Wants n) more
leads_wants zero = ([], record { state = Wants 0; runs = refl; ends_there = refl })
leads_wants (suc n) =
    let p = leads_wants n in
    (Comma ∷ p.0, record { state = p.1.state; runs = p.1.runs; ends_there = p.1.ends_there })

leads : (s : State) → Unit {0} → (more : List Token) × LeadsToEnd counted s more
leads Beginning u = (Number 0 ∷ [], record { state = Wants 0; runs = refl; ends_there = refl })
leads (Wants n) u = leads_wants n

pub counted_finishes : CanFinish counted
counted_finishes = can_finish counted (λ s. Unit {0}) tt (λ s t u h e. tt) leads

-- 2 , ,
pub two_accepted : IsAccepted counted (Number 2 ∷ Comma ∷ Comma ∷ [])
two_accepted = record { state = Wants 0; runs = refl; ends_there = refl }

-- the first fault of 1 , , is the second comma
pub one_has_fault : IsFirstFault (IsAccepted counted) (Number 1 ∷ Comma ∷ Comma ∷ []) Comma []
one_has_fault = fault counted counted_finishes (Number 1 ∷ Comma ∷ Comma ∷ []) Comma [] (record { before = Number 1 ∷ Comma ∷ []; state = Wants 0; parts = refl; runs = refl; refuses = refl })

-- 2 , is cut off
pub two_cut_off : IsCutOff (IsAccepted counted) (Number 2 ∷ Comma ∷ [])
two_cut_off = cut_off counted counted_finishes (Number 2 ∷ Comma ∷ []) (record { state = Wants 1; runs = refl; goes_on = refl })
