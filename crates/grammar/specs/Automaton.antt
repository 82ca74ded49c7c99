-- Languages whose counts and orders are part of them, as the texts that a machine with a state takes token by token.
use Rattle.std.specs.Prelude.{◌≡◌, Bool, true, false, Option, Some, None, List, [], ◌∷◌, ◌++◌}

-- A deterministic automaton: it begins at start, takes a token at each step, and has states in which a text may end. There may be infinitely many states.
pub record Automaton (S T : Type 0) : Type 0 where
  pub start : S
  -- the state after a token, or none where the token is not taken
  pub step : S → T → Option S
  pub ends : S → Bool

-- The state after these tokens, or none where one of them is not taken.
abbrev pub run : {S T : Type 0} → (S → T → Option S) → Option S → List T → Option S
run step None ts = None
run step (Some s) [] = Some s
run step (Some s) (t ∷ ts) = run step (step s t) ts

-- The state that the automaton reaches by these tokens, if it takes them all.
abbrev pub reached : {S T : Type 0} → Automaton S T → List T → Option S
reached A text = run A.step (Some A.start) text

-- From this state the tokens lead to a state in which a text may end.
pub record LeadsToEnd {S T : Type 0} (A : Automaton S T) (from : S) (tokens : List T) : Type 0 where
  pub state : S
  pub runs : run A.step (Some from) tokens ≡ Some state
  pub ends_there : A.ends state ≡ true

-- The text is accepted.
abbrev pub IsAccepted : {S T : Type 0} → Automaton S T → List T → Type 0
IsAccepted A text = LeadsToEnd A A.start text

-- The automaton takes the tokens before the bad one, and not that one.
pub record StopsAt {S T : Type 0} (A : Automaton S T) (text : List T) (bad : T) (rest : List T) : Type 0 where
  pub before : List T
  pub state : S
  pub parts : text ≡ before ++ bad ∷ rest
  pub runs : reached A before ≡ Some state
  pub refuses : A.step state bad ≡ None

-- The automaton takes all tokens, and a text may not end there.
pub record StopsShort {S T : Type 0} (A : Automaton S T) (text : List T) : Type 0 where
  pub state : S
  pub runs : reached A text ≡ Some state
  pub goes_on : A.ends state ≡ false

-- From each state that is reached, some tokens lead to an end.
abbrev pub CanFinish : {S T : Type 0} → Automaton S T → Type 0
CanFinish {S} {T} A = (before : List T) (s : S) → reached A before ≡ Some s → (more : List T) × LeadsToEnd A s more
