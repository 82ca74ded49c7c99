-- What can be said of a text that is read from left to right: that it is whole, where its first fault is, or that it is cut off. A language is the set of its whole texts.
use Rattle.std.specs.Prelude.{◌≡◌, List, [], ◌∷◌, ◌++◌, ◌⊎◌}
use Rattle.grammar.specs.Grammar.{Grammar, Expression, Tree, Derives}

-- Some whole text begins with these tokens.
pub record IsPrefix {T : Type 0} (IsWhole : List T → Type 0) (front : List T) : Type 0 where
  pub more : List T
  pub whole : IsWhole (front ++ more)

-- The text is those before, the bad token and the rest; some whole text begins with those before, and none with those up to the bad one.
pub record IsFirstFault {T : Type 0} (IsWhole : List T → Type 0) (text : List T) (bad : T) (rest : List T) : Type 0 where
  pub before : List T
  pub parts : text ≡ before ++ bad ∷ rest
  pub goes_on : IsPrefix IsWhole before
  pub no_more : IsPrefix IsWhole (before ++ bad ∷ []) → ⊥

-- The text has a first fault.
abbrev pub HasFirstFault : {T : Type 0} → (List T → Type 0) → List T → Type 0
HasFirstFault {T} IsWhole text = (bad : T) × (rest : List T) × IsFirstFault IsWhole text bad rest

-- The text ends too soon: it is no whole text, and some whole text begins with it.
pub record IsCutOff {T : Type 0} (IsWhole : List T → Type 0) (text : List T) : Type 0 where
  pub goes_on : IsPrefix IsWhole text
  pub not_whole : IsWhole text → ⊥

-- The text is whole, or has a first fault, or is cut off, and no two of these.
pub record HasOneOutcome {T : Type 0} (IsWhole : List T → Type 0) (text : List T) : Type 0 where
  pub one : IsWhole text ⊎ (HasFirstFault IsWhole text ⊎ IsCutOff IsWhole text)
  pub whole_or_fault : IsWhole text → HasFirstFault IsWhole text → ⊥
  pub whole_or_cut_off : IsWhole text → IsCutOff IsWhole text → ⊥
  pub fault_or_cut_off : HasFirstFault IsWhole text → IsCutOff IsWhole text → ⊥

-- The text has exactly one tree, and the value is what that tree means.
pub record IsReadAs {N T V : Type 0} (G : Grammar N T) (e : Expression N) (meaning : Tree T → V) (text : List T) (value : V) : Type 0 where
  pub tree : Tree T
  pub derives : Derives G e tree text
  pub means : meaning tree ≡ value
  pub only : (other : Tree T) → Derives G e other text → other ≡ tree
