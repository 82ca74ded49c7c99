-- Each rule of the factored grammar, regrouped, is one of the written grammar with the same leaves.
use Rattle.std.proofs.Common.{◌≡◌, ℕ, zero, suc, ◌≤◌, Bool, true, false, cond, ◌++◌, refl, sym, subst, append_assoc, arith, lit≤}
use Rattle.std.specs.Prelude.{nat_le}
use Rattle.std.proofs.lemmas.Bool.{and_parts, and_from}
use Rattle.std.proofs.lemmas.List.{append-nil}
use Rattle.grammar.specs.Grammar.{Expression, Grammar, ◌▸◌, Then, Many, Rule, Tree, Nil, Pair, Left, Right, Node, is_tree, leaves, Derives}
use Rattle.c_grammar.specs.Written.{one_of, operators, written_rule, Production, Level, Unary}
use Rattle.c_grammar.specs.Factored.{factored_rule, joined, all_joined, Part, TheExternal, TheFunction, TheVariables, TheVariable, TheBounds, TheTail, TheBlock, TheStatement, TheIf, TheBranch, TheElse, TheWhile, TheFor, TheReturn, TheLocal, TheSimple, TheChange, TheRight, TheExpression, TheLevel, TheUnary, TheNameless, TheParenthesis}
use Rattle.c_grammar.specs.Regrouping.{renamed}
use Rattle.c_grammar.specs.Trees.{written_image, as_written, written_level, written_name}
use Rattle.c_grammar.proofs.Regroup.{of_rules, Keeps}

pub low : (k : ℕ) → k ≤ 9 → nat_le k 9 ≡ true
low k h = grind (arith, h)

pub low_ten : (k : ℕ) → k ≤ 10 → nat_le k 10 ≡ true
low_ten k h = grind (arith, h)

pub is_low : (k n : ℕ) → nat_le k n ≡ true → k ≤ n
is_low k n h = grind (arith, h)

pub rule_is : (k : ℕ) → k ≤ 9 → written_rule (Level (suc k)) ≡ (Rule (Level k) ▸ Many (one_of (operators k) ▸ Rule (Level k)))
rule_is k h = rw (low k h) refl

rule_above : (k : ℕ) → nat_le (suc k) 10 ≡ false → written_rule (Level (suc k)) ≡ Rule Unary
rule_above k h = let f : nat_le k 9 ≡ false = grind (arith, h) in rw f refl

module _ {T : Type 0} (class : T → ℕ) where
  abbrev W : Grammar Production T
  W = of_rules class written_rule

  abbrev Kept : Part → Type 0
  Kept part = Keeps class factored_rule written_rule written_image as_written part

  -- operands of the levels below k, from the first one and what joins it with the others
  leveled : (k : ℕ) (u j : Tree T) → k ≤ 10 → is_tree W u (Rule Unary) ≡ true → is_tree W j (renamed written_image (joined k)) ≡ true → Derives W (Rule (Level k)) (written_level k u j) (leaves u ++ leaves j)
  leveled zero u Nil le p q = record { follows = p; spells = sym (append-nil (leaves u)) }
  leveled (suc k) u (Pair x m) le p q =
      let parts = and_parts _ _ q in
      let inner = leveled k u x (omega (arith, le)) p parts.0 in
      record {
        follows = subst (λ (e : Expression Production). is_tree W (Pair (written_level k u x) m) e ≡ true) (sym (rule_is k (omega (arith, le)))) (and_from _ _ inner.follows parts.1);
        spells = rw inner.spells (append_assoc (leaves u) (leaves x) (leaves m));
      }
  leveled _ u j le p q = absurd cc

  external : Kept TheExternal
  external (Left x) h = record { follows = h; spells = refl }
  external (Right (Left x)) h = record { follows = h; spells = refl }
  external (Right (Right (Pair q (Left (Pair v (Pair n f)))))) h = record { follows = h; spells = refl }
  external (Right (Right (Pair q (Right (Pair t (Pair n (Left f))))))) h = record { follows = h; spells = refl }
  external (Right (Right (Pair q (Right (Pair t (Pair n (Right (Pair (Left c) (Pair vs s))))))))) h = record { follows = grind (arith, h); spells = simp append_assoc refl }
  external (Right (Right (Pair q (Right (Pair t (Pair n (Right (Pair (Right (Left b)) (Pair vs s))))))))) h = record { follows = grind (arith, h); spells = simp append_assoc refl }
  external (Right (Right (Pair q (Right (Pair t (Pair n (Right (Pair (Right (Right Nil)) (Pair vs s))))))))) h = record { follows = grind (arith, h); spells = simp append_assoc refl }
  external _ h = absurd (grind (arith, h))

  function : Kept TheFunction
  function (Pair o (Pair (Left v) x)) h = record { follows = h; spells = refl }
  function (Pair o (Pair (Right (Left ps)) x)) h = record { follows = h; spells = refl }
  function (Pair o (Pair (Right (Right Nil)) x)) h = record { follows = h; spells = refl }
  function _ h = absurd (grind (arith, h))

  variables : Kept TheVariables
  variables t h = record { follows = h; spells = refl }

  variable : Kept TheVariable
  variable (Pair n (Left c)) h = record { follows = h; spells = refl }
  variable (Pair n (Right (Left b))) h = record { follows = h; spells = refl }
  variable (Pair n (Right (Right Nil))) h = record { follows = h; spells = refl }
  variable _ h = absurd (grind (arith, h))

  bounds : Kept TheBounds
  bounds (Pair o (Pair k (Pair c (Left (Pair e (Pair b (Pair a (Pair (Left (Pair m f)) z)))))))) h = record { follows = grind (arith, h); spells = simp append_assoc refl }
  bounds (Pair o (Pair k (Pair c (Left (Pair e (Pair b (Pair a (Pair (Right Nil) z)))))))) h = record { follows = h; spells = refl }
  bounds (Pair o (Pair k (Pair c (Right x)))) h = record { follows = h; spells = refl }
  bounds _ h = absurd (grind (arith, h))

  tail : Kept TheTail
  tail (Pair c (Left (Pair k (Left (Pair m f))))) h = record { follows = grind (arith, h); spells = simp append_assoc refl }
  tail (Pair c (Left (Pair k (Right Nil)))) h = record { follows = grind (arith, h); spells = simp append_assoc refl }
  tail (Pair c (Right Nil)) h = record { follows = (and_parts _ _ h).0; spells = sym (append-nil (leaves c)) }
  tail _ h = absurd (grind (arith, h))

  block : Kept TheBlock
  block t h = record { follows = h; spells = refl }

  statement : Kept TheStatement
  statement t h = record { follows = h; spells = refl }

  if_ : Kept TheIf
  if_ (Pair b (Left (Pair m f))) h = record { follows = h; spells = refl }
  if_ (Pair b (Right Nil)) h = record { follows = h; spells = refl }
  if_ _ h = absurd (grind (arith, h))

  else_ : Kept TheElse
  else_ (Pair l (Left (Pair b (Left (Pair m f))))) h = record { follows = grind (arith, h); spells = simp append_assoc refl }
  else_ (Pair l (Left (Pair b (Right Nil)))) h = record { follows = grind (arith, h); spells = simp append_assoc refl }
  else_ (Pair l (Right b)) h = record { follows = h; spells = refl }
  else_ _ h = absurd (grind (arith, h))

  branch : Kept TheBranch
  branch t h = record { follows = h; spells = refl }

  while_ : Kept TheWhile
  while_ t h = record { follows = h; spells = refl }

  for_ : Kept TheFor
  for_ t h = record { follows = h; spells = refl }

  return_ : Kept TheReturn
  return_ t h = record { follows = h; spells = refl }

  local : Kept TheLocal
  local t h = record { follows = h; spells = refl }

  change : Kept TheChange
  change t h = record { follows = h; spells = refl }

  parenthesis : Kept TheParenthesis
  parenthesis t h = record { follows = h; spells = refl }

  simple : Kept TheSimple
  simple (Left (Pair n (Left x))) h = record { follows = h; spells = refl }
  simple (Left (Pair n (Right (Left x)))) h = record { follows = h; spells = refl }
  simple (Left (Pair n (Right (Right (Left x))))) h = record { follows = h; spells = refl }
  simple (Left (Pair n (Right (Right (Right (Left x)))))) h = record { follows = h; spells = refl }
  simple (Left (Pair n (Right (Right (Right (Right (Left x))))))) h = record { follows = h; spells = refl }
  simple (Left (Pair n (Right (Right (Right (Right (Right x))))))) h = record { follows = h; spells = refl }
  simple (Right (Left x)) h = record { follows = h; spells = refl }
  simple (Right (Right (Left x))) h = record { follows = h; spells = refl }
  simple (Right (Right (Right x))) h = record { follows = h; spells = refl }
  simple _ h = absurd (grind (arith, h))

  right : Kept TheRight
  unfolding all_joined
  right (Left (Pair n (Left x))) h = record { follows = h; spells = refl }
  right (Left (Pair n (Right (Pair i (Pair j q))))) h =
      let named : is_tree W (written_name n i) (Rule Unary) ≡ true = grind (arith, h) in
      let joins : is_tree W j (renamed written_image (joined 10)) ≡ true = grind (arith, h) in
      let l = leveled 10 (written_name n i) j (lit≤ tt) named joins in
      record { follows = grind (arith, h, l.follows); spells = rw l.spells (simp append_assoc refl) }
  right (Right (Pair u (Pair j q))) h =
      let p = and_parts _ _ h in
      let r = and_parts _ _ p.1 in
      let l = leveled 10 u j (lit≤ tt) p.0 r.0 in
      record { follows = and_from _ _ l.follows r.1; spells = rw l.spells (append_assoc (leaves u) (leaves j) (leaves q)) }
  right _ h = absurd (grind (arith, h))

  expression : Kept TheExpression
  unfolding all_joined
  expression (Pair u (Pair j q)) h =
      let p = and_parts _ _ h in
      let r = and_parts _ _ p.1 in
      let l = leveled 10 u j (lit≤ tt) p.0 r.0 in
      record { follows = and_from _ _ l.follows r.1; spells = rw l.spells (append_assoc (leaves u) (leaves j) (leaves q)) }
  expression _ h = absurd (grind (arith, h))

  above : (k : ℕ) (u : Tree T) → nat_le k 10 ≡ false → is_tree W u (Rule Unary) ≡ true → Derives W (Rule (Level k)) (as_written (TheLevel k) u) (leaves u)
  above zero u e h = absurd cc
  above (suc k) (Node x) e h = record { follows = subst (λ (r : Expression Production). is_tree W (Node x) r ≡ true) (sym (rule_above k e)) h; spells = refl }
  above (suc k) _ e h = absurd cc

  level_by : (k : ℕ) (t : Tree T) (b : Bool) → nat_le k 10 ≡ b → is_tree W t (renamed written_image (cond b (Then (Rule TheUnary) (joined k)) (Rule TheUnary))) ≡ true → Derives W (Rule (Level k)) (as_written (TheLevel k) t) (leaves t)
  level_by k t false e h = above k t e h
  level_by k (Pair u j) true e h = let p = and_parts _ _ h in leveled k u j (is_low k 10 e) p.0 p.1
  level_by k _ true e h = absurd (grind (arith, h))

  level : (k : ℕ) → Kept (TheLevel k)
  level k t h = level_by k t (nat_le k 10) refl h

  unary : Kept TheUnary
  unary (Left (Pair n i)) h = record { follows = h; spells = refl }
  unary (Right u) h = record { follows = h; spells = refl }
  unary _ h = absurd (grind (arith, h))

  nameless : Kept TheNameless
  nameless (Left x) h = record { follows = h; spells = refl }
  nameless (Right (Left (Pair o (Left x)))) h = record { follows = h; spells = refl }
  nameless (Right (Left (Pair o (Right x)))) h = record { follows = h; spells = refl }
  nameless (Right (Right (Left x))) h = record { follows = h; spells = refl }
  nameless (Right (Right (Right (Left x)))) h = record { follows = h; spells = refl }
  nameless (Right (Right (Right (Right x)))) h = record { follows = h; spells = refl }
  nameless _ h = absurd (grind (arith, h))

  pub keeps : (part : Part) → Kept part
  keeps TheExternal = external
  keeps TheFunction = function
  keeps TheVariables = variables
  keeps TheVariable = variable
  keeps TheBounds = bounds
  keeps TheTail = tail
  keeps TheBlock = block
  keeps TheStatement = statement
  keeps TheIf = if_
  keeps TheBranch = branch
  keeps TheElse = else_
  keeps TheWhile = while_
  keeps TheFor = for_
  keeps TheReturn = return_
  keeps TheLocal = local
  keeps TheSimple = simple
  keeps TheChange = change
  keeps TheRight = right
  keeps TheExpression = expression
  keeps TheUnary = unary
  keeps TheNameless = nameless
  keeps TheParenthesis = parenthesis
  keeps (TheLevel k) = level k
