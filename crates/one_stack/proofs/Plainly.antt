-- Lists of sets, rules and alternatives as plain data, with one more at the end.
use Rattle.std.proofs.Common.{◌≡◌, ◌∙◌, ℕ, zero, suc, ◌+◌, ◌-◌, ◌<◌, false, List, [], ◌∷◌, ◌++◌, length, map, take, get_or, slice_get, Some, append_assoc, refl, sym, ap, ap₂, arith}
use Rattle.std.proofs.lemmas.List.{length-map, map-append, take_more}
use Rattle.chk_base.specs.declared.sets.Set.{Set}
use Rattle.chk_base.specs.declared.expr.BinOp.TheVariants as bin
use Rattle.chk_base.specs.Term.{Term, Const, Cell, Bin, Choose, term_of}
use Rattle.guard_prog.specs.declared.draft.Alternative.{Alternative}
use Rattle.guard_prog.specs.Drafts.{plain_alternatives, plain_of, plain_sets}
use Rattle.one_stack.specs.declared.rule.Rule.{Rule}
use Rattle.one_stack.specs.Plain.{alternative_of, none_with, rule_of, rules_of}
use Rattle.one_stack.specs.Rules as rules
use Rattle.one_stack.proofs.Stepping.{stepped}
use Rattle.step_ir.specs.Points.{set_of}

pub plain_sets-append : (xs ys : List Set) → plain_sets (xs ++ ys) ≡ plain_sets xs ++ plain_sets ys
plain_sets-append [] ys = refl
plain_sets-append (x ∷ xs) ys = ap (λ zs. (x.cell, term_of x.value) ∷ zs) (plain_sets-append xs ys)

pub plain_alternatives-append : (xs ys : List Alternative) → plain_alternatives (xs ++ ys) ≡ plain_alternatives xs ++ plain_alternatives ys
plain_alternatives-append [] ys = refl
plain_alternatives-append (x ∷ xs) ys = ap (λ zs. plain_of x ∷ zs) (plain_alternatives-append xs ys)

pub plain_sets-map : (xs : List Set) → plain_sets xs ≡ map set_of xs
plain_sets-map [] = refl
plain_sets-map (x ∷ xs) = ap (λ zs. set_of x ∷ zs) (plain_sets-map xs)

-- one more set was copied
pub copies_more : (xs : List Set) (i : ℕ) (s : Set) (old new init : List (ℕ × Term)) (t : Term)
    → i < length xs → s ≡ get_or xs i s → new ≡ old ++ (s.cell, t) ∷ [] → t ≡ term_of s.value
    → old ≡ init ++ plain_sets (take i xs) → new ≡ init ++ plain_sets (take (i + 1) xs)
copies_more xs i s old new init t lt is e same h =
    e
    ∙ ap₂ (λ ys v. ys ++ (s.cell, v) ∷ []) h same
    ∙ append_assoc init (plain_sets (take i xs)) ((s.cell, term_of s.value) ∷ [])
    ∙ ap (λ ys. init ++ ys) (sym (plain_sets-append (take i xs) (s ∷ [])))
    ∙ ap (λ ys. init ++ plain_sets ys) (ap (λ y. take i xs ++ y ∷ []) is ∙ sym (take_more xs i s lt))

guarded-append : (c : Term) (xs ys : List rules.Rule) → rules.guarded c (xs ++ ys) ≡ rules.guarded c xs ++ rules.guarded c ys
guarded-append c [] ys = refl
guarded-append c (x ∷ xs) ys = ap (λ zs. record x { guard = rules.both c x.guard } ∷ zs) (guarded-append c xs ys)

-- one more rule was guarded
pub guarded_more : (c : Term) (xs : List Rule) (r : Rule) (old new : List rules.Rule)
    → new ≡ old ++ rules.guarded c (rule_of r ∷ []) → old ≡ rules.guarded c (rules_of xs)
    → new ≡ rules.guarded c (rules_of (xs ++ r ∷ []))
guarded_more c xs r old new e h =
    e
    ∙ ap (λ zs. zs ++ rules.guarded c (rule_of r ∷ [])) h
    ∙ sym (guarded-append c (rules_of xs) (rule_of r ∷ []))
    ∙ ap (rules.guarded c) (sym (map-append rule_of xs (r ∷ [])))

-- one more element of an array was set
pub write_more : (base : ℕ) (index v : Term) (i : ℕ) (xs ys end : List (ℕ × Term)) (t : Term) → 0 < i
    → ys ≡ xs ++ (base + (i - 1), t) ∷ [] → t ≡ Choose (Bin bin.Eq index (Const (i - 1))) v (Cell (base + (i - 1)) false)
    → xs ++ rules.write_sets base index v i ≡ end → ys ++ rules.write_sets base index v (i - 1) ≡ end
write_more base index v i xs ys end t some put is h =
    stepped (rules.write_sets base index v) (λ j. (base + j, Choose (Bin bin.Eq index (Const j)) v (Cell (base + j) false)) ∷ []) (λ j. refl)
    i xs ys end some (put ∙ ap (λ e. xs ++ (base + (i - 1), e) ∷ []) is) h

-- the alternatives with one more
alternatives-append : (label : ℕ → ℕ) (none : Term) (k : ℕ) (xs : List rules.Rule) (r : rules.Rule)
    → rules.alternatives label none k (xs ++ r ∷ []) ≡ rules.alternatives label none k xs ++ alternative_of (label (k + length xs)) (none_with none xs) r ∷ []
alternatives-append label none k [] r =
    let same : k ≡ k + 0 = omega arith in
    ap (λ n. alternative_of (label n) none r ∷ []) same
alternatives-append label none k (x ∷ xs) r =
    let same : k + 1 + length xs ≡ k + suc (length xs) = omega arith in
    ap (λ zs. alternative_of (label k) none x ∷ zs)
    (alternatives-append label (rules.both none (rules.negated x.guard)) (k + 1) xs r
    ∙ ap (λ n. rules.alternatives label (rules.both none (rules.negated x.guard)) (k + 1) xs ++ alternative_of (label n) (none_with none (x ∷ xs)) r ∷ []) same)

none_with-append : (none : Term) (xs : List rules.Rule) (r : rules.Rule)
    → none_with none (xs ++ r ∷ []) ≡ rules.both (none_with none xs) (rules.negated r.guard)
none_with-append none [] r = refl
none_with-append none (x ∷ xs) r = none_with-append (rules.both none (rules.negated x.guard)) xs r

-- one more alternative was put
pub alternative_put : (label : ℕ → ℕ) (none : Term) (xs : List Rule) (r : Rule) (old new : List Alternative) (a : Alternative) (k : ℕ) (now : Term)
    → new ≡ old ++ a ∷ [] → plain_of a ≡ alternative_of (label k) now (rule_of r) → k ≡ length xs → now ≡ none_with none (rules_of xs)
    → plain_alternatives old ≡ rules.alternatives label none 0 (rules_of xs)
    → plain_alternatives new ≡ rules.alternatives label none 0 (rules_of (xs ++ r ∷ []))
alternative_put label none xs r old new a k now e is count nones h =
    let same : k ≡ 0 + length (rules_of xs) = omega (arith, count, length-map xs rule_of) in
    ap plain_alternatives e
    ∙ plain_alternatives-append old (a ∷ [])
    ∙ ap₂ (λ ys b. ys ++ b ∷ []) h (is ∙ ap₂ (λ n t. alternative_of (label n) t (rule_of r)) same nones)
    ∙ sym (alternatives-append label none 0 (rules_of xs) (rule_of r))
    ∙ ap (rules.alternatives label none 0) (sym (map-append rule_of xs (r ∷ [])))

pub none_put : (none : Term) (xs : List Rule) (r : Rule) (old new : Term)
    → new ≡ rules.both old (rules.negated (term_of r.guard)) → old ≡ none_with none (rules_of xs)
    → new ≡ none_with none (rules_of (xs ++ r ∷ []))
none_put none xs r old new e h =
    e ∙ ap (λ t. rules.both t (rules.negated (term_of r.guard))) h
    ∙ sym (none_with-append none (rules_of xs) (rule_of r))
    ∙ ap (none_with none) (sym (map-append rule_of xs (r ∷ [])))

-- an item of a list that was changed item by item
pub at_map : {A B : Type 0} (f : A → B) (xs : List A) (i : ℕ) (x : A) → i < length xs → x ≡ get_or xs i x → slice_get (map f xs) i ≡ Some (f x)
at_map f [] i x lt is = absurd (omega arith)
at_map f (y ∷ ys) zero x lt is = ap (λ z. Some (f z)) (sym is)
at_map f (y ∷ ys) (suc i) x lt is = at_map f ys i x (omega arith) is
