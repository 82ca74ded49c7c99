-- Lines that their hints derive by unit propagation.
use Rattle.std.specs.Prelude.{◌≡◌, ℕ, ◌-◌, Bool, true, false, ◌&&◌, ◌==◌, Option, None, Some, List, [], ◌∷◌, ◌++◌, map, if◌then◌else◌, slice_get}
use Rattle.clause_form.specs.declared.lit.Lit.{Lit}
use Rattle.clause_form.specs.declared.line.Line.{Line}
use Rattle.clause_form.specs.Literals.{negation, has, rises_above, is_within}

-- the clause with this number; they are numbered from 1
abbrev pub clause_at : List (List Lit) → ℕ → Option (List Lit)
clause_at clauses n = if n == 0 then None else slice_get clauses (n - 1)

-- the literals of a clause that aren't false where those of the set are true
abbrev pub unfalse : List Lit → List Lit → List Lit
unfalse set [] = []
unfalse set (l ∷ ls) = if has set (negation l) then unfalse set ls else l ∷ unfalse set ls

-- the same, where there is such a clause
abbrev pub option_unfalse : List Lit → Option (List Lit) → Option (List Lit)
option_unfalse set None = None
option_unfalse set (Some c) = Some (unfalse set c)

-- a list has no element
abbrev pub is_empty : {A : Type 0} → List A → Bool
is_empty [] = true
is_empty (x ∷ xs) = false

-- the last hint's clause leaves nothing, and that of each other one leaves one literal, with which it goes on
abbrev pub follow : Bool → Option (List Lit) → (Lit → Bool) → Bool
follow true (Some []) next = true
follow false (Some (l ∷ [])) next = next l
follow _ _ next = false

-- with these literals true, the hints lead to a clause whose literals are all false
abbrev pub closes : List (List Lit) → List Lit → List ℕ → Bool
closes clauses set [] = false
closes clauses set (h ∷ hs) =
    follow (is_empty hs) (option_unfalse set (clause_at clauses h)) (λ l. closes clauses (l ∷ set) hs)

-- a line over n variables is derived from the clauses before it: with its literals false, its hints close
abbrev pub is_derived : ℕ → List (List Lit) → Line → Bool
is_derived n clauses line =
    (rises_above 0 line.clause && is_within n line.clause) && closes clauses (map negation line.clause) line.hints

-- each line is derived from the clauses and the lines before it
abbrev pub AreDerived : ℕ → List (List Lit) → List Line → Type 0
AreDerived n clauses [] = Unit {0}
AreDerived n clauses (line ∷ lines) =
    (is_derived n clauses line ≡ true) × AreDerived n (clauses ++ line.clause ∷ []) lines

-- the last line is empty, and no other is
abbrev pub ends_empty : List Line → Bool
ends_empty [] = false
ends_empty (line ∷ lines) = if is_empty line.clause then is_empty lines else ends_empty lines
