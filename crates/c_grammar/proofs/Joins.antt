-- Each rule of the written grammar, regrouped there and back, is what it was.
use Rattle.std.proofs.Common.{◌≡◌, ℕ, zero, suc, ◌≤◌, Bool, true, false, cond, refl, sym, subst, arith}
use Rattle.std.specs.Prelude.{nat_le}
use Rattle.std.proofs.lemmas.Bool.{and_parts}
use Rattle.grammar.specs.Grammar.{Expression, Grammar, ◌▸◌, optional, Then, Many, Rule, Tree, Nil, Pair, Left, Right, Node, is_tree}
use Rattle.c_grammar.specs.declared.symbol.Symbol.TheVariants.{Comma, RightBrace}
use Rattle.c_grammar.specs.Written.{spelled, one_of, operators, constant, elses, last_else, written_rule, Production, External, Variable, Block, Statement, Local, Simple, RightSide, Expr, Level, Unary}
use Rattle.c_grammar.specs.Factored.{factored_rule, joined, all_joined, Part, TheTail, TheBlock, TheElse, TheExpression, TheLevel, TheUnary}
use Rattle.c_grammar.specs.Regrouping.{renamed}
use Rattle.c_grammar.specs.Trees.{written_image, as_written, as_factored, factored_image, factored_tail, factored_else, written_tree, written_tail, written_else}
use Rattle.c_grammar.proofs.Regroup.{of_rules, Joins, kept}
use Rattle.c_grammar.proofs.AsWritten
use Rattle.c_grammar.proofs.AsWritten.{low_ten, is_low}

rule_is : (k : ℕ) → k ≤ 10 → factored_rule (TheLevel k) ≡ (Rule TheUnary ▸ joined k)
rule_is k h = rw (low_ten k h) refl

rule_above : (k : ℕ) → nat_le k 10 ≡ false → factored_rule (TheLevel k) ≡ Rule TheUnary
rule_above k h = rw h refl

module _ {T : Type 0} (class : T → ℕ) where
  abbrev F : Grammar Part T
  F = of_rules class factored_rule

  abbrev Joined : Production → Type 0
  Joined production = Joins class written_rule factored_rule factored_image as_factored as_written production

  tail : (m f : Tree T) → is_tree F m (Many (spelled Comma ▸ constant)) ≡ true → is_tree F f (optional (spelled Comma)) ≡ true → written_else (written_tree (optional (Rule TheTail)) (factored_tail m f)) ≡ Pair (written_tree (Many (spelled Comma ▸ constant)) m) (written_tree (optional (spelled Comma)) f)
  tail Nil (Left c) p q = refl
  tail Nil (Right Nil) p q = refl
  tail (Pair (Pair c k) m) f p q = let rest : is_tree F m (Many (spelled Comma ▸ constant)) ≡ true = grind (arith, p) in let t = tail m f rest q in rw t refl
  tail _ f p q = absurd (grind (arith, p, q))

  otherwise : (m f : Tree T) → is_tree F m (elses TheExpression TheBlock) ≡ true → is_tree F f (last_else TheBlock) ≡ true → written_else (written_tree (optional (Rule TheElse)) (factored_else m f)) ≡ Pair (written_tree (elses TheExpression TheBlock) m) (written_tree (last_else TheBlock) f)
  otherwise Nil (Left (Pair l b)) p q = refl
  otherwise Nil (Right Nil) p q = refl
  otherwise (Pair (Pair l b) m) f p q = let rest : is_tree F m (elses TheExpression TheBlock) ≡ true = grind (arith, p) in let t = otherwise m f rest q in rw t refl
  otherwise _ f p q = absurd (grind (arith, p, q))

  spliced : (x m f z : Tree T) → written_else x ≡ Pair m f → written_tail x z ≡ Pair m (Pair f z)
  spliced (Left (Pair m' f')) m f z e = let a : m' ≡ m = cc in let b : f' ≡ f = cc in rw (a, b) refl
  spliced (Left _) m f z e = absurd cc
  spliced x m f z e = let a : Nil ≡ m = cc in let b : x ≡ f = cc in rw (← a, ← b) refl

  external : Joined External
  external (Left x) h = refl
  external (Right (Left x)) h = refl
  external (Right (Right (Left (Pair q (Pair t (Pair (Node (Pair n i)) (Pair vs s))))))) h = refl
  external (Right (Right (Right (Pair q (Pair (Left t) (Pair n (Pair o (Pair (Left (Left w)) x)))))))) h = refl
  external (Right (Right (Right (Pair q (Pair (Left t) (Pair n (Pair o (Pair (Left (Right Nil)) x)))))))) h = refl
  external (Right (Right (Right (Pair q (Pair (Left t) (Pair n (Pair o (Pair (Right (Pair p ps)) x)))))))) h = refl
  external (Right (Right (Right (Pair q (Pair (Right v) (Pair n (Pair o (Pair (Left (Left w)) x)))))))) h = refl
  external (Right (Right (Right (Pair q (Pair (Right v) (Pair n (Pair o (Pair (Left (Right Nil)) x)))))))) h = refl
  external (Right (Right (Right (Pair q (Pair (Right v) (Pair n (Pair o (Pair (Right (Pair p ps)) x)))))))) h = refl
  external _ h = absurd (grind (arith, h))

  variable : Joined Variable
  variable (Left (Pair n (Left i))) h = refl
  variable (Left (Pair n (Right Nil))) h = refl
  variable (Right (Pair n (Pair o (Pair k (Pair c (Left (Pair e (Pair b (Pair a (Pair m (Pair f z))))))))))) h =
      let p : is_tree F m (Many (spelled Comma ▸ constant)) ≡ true = grind (arith, h) in
      let q : is_tree F f (optional (spelled Comma)) ≡ true = grind (arith, h) in
      let t = spliced (written_tree (optional (Rule TheTail)) (factored_tail m f)) (written_tree (Many (spelled Comma ▸ constant)) m) (written_tree (optional (spelled Comma)) f) (written_tree (spelled RightBrace) z) (tail m f p q) in
      rw t refl
  variable (Right (Pair n (Pair o (Pair k (Pair c (Right x)))))) h = refl
  variable _ h = absurd (grind (arith, h))

  block : Joined Block
  block t h = refl

  local : Joined Local
  local t h = refl

  statement : Joined Statement
  statement (Left x) h = refl
  statement (Right (Left x)) h = refl
  statement (Right (Right (Left x))) h = refl
  statement (Right (Right (Right (Left x)))) h = refl
  statement (Right (Right (Right (Right (Left (Pair b (Pair m f))))))) h =
      let p : is_tree F m (elses TheExpression TheBlock) ≡ true = grind (arith, h) in
      let q : is_tree F f (last_else TheBlock) ≡ true = grind (arith, h) in
      let t = otherwise m f p q in
      rw t refl
  statement (Right (Right (Right (Right (Right (Left x)))))) h = refl
  statement (Right (Right (Right (Right (Right (Right (Left x))))))) h = refl
  statement (Right (Right (Right (Right (Right (Right (Right x))))))) h = refl
  statement _ h = absurd (grind (arith, h))

  simple : Joined Simple
  simple (Left (Pair n x)) h = refl
  simple (Right (Left (Pair n x))) h = refl
  simple (Right (Right (Left (Pair n x)))) h = refl
  simple (Right (Right (Right (Left (Pair n x))))) h = refl
  simple (Right (Right (Right (Right (Left (Pair n x)))))) h = refl
  simple (Right (Right (Right (Right (Right (Left x)))))) h = refl
  simple (Right (Right (Right (Right (Right (Right (Left x))))))) h = refl
  simple (Right (Right (Right (Right (Right (Right (Right (Left (Pair n x))))))))) h = refl
  simple (Right (Right (Right (Right (Right (Right (Right (Right x)))))))) h = refl
  simple _ h = absurd (grind (arith, h))

  right : Joined RightSide
  unfolding all_joined
  right (Left (Node (Pair (Node (Left (Pair n i))) (Pair j q)))) h = refl
  right (Left (Node (Pair (Node (Right u)) (Pair j q)))) h = refl
  right (Right (Pair n x)) h = refl
  right _ h = absurd (grind (arith, h))

  expression : Joined Expr
  unfolding all_joined
  expression (Pair (Node (Pair u j)) q) h = refl
  expression _ h = absurd (grind (arith, h))

  joined_level : (k : ℕ) (t : Tree T) → k ≤ 9 → is_tree F t (Rule (TheLevel k) ▸ Many (one_of (operators k) ▸ Rule (TheLevel k))) ≡ true → written_tree (Rule (TheLevel (suc k))) (as_factored (Level (suc k)) t) ≡ Node (written_tree (Rule (TheLevel k) ▸ Many (one_of (operators k) ▸ Rule (TheLevel k))) t)
  joined_level k (Pair (Node x) m) le h = joined_by x m (subst (λ (r : Expression Part). is_tree F x r ≡ true) (rule_is k (omega (arith, le))) (and_parts _ _ h).0)
    where
      joined_by : (x m : Tree T) → is_tree F x (Rule TheUnary ▸ joined k) ≡ true → written_tree (Rule (TheLevel (suc k))) (as_factored (Level (suc k)) (Pair (Node x) m)) ≡ Node (written_tree (Rule (TheLevel k) ▸ Many (one_of (operators k) ▸ Rule (TheLevel k))) (Pair (Node x) m))
      joined_by (Pair u j) m p =
          subst (λ (r : Expression Part). as_written (TheLevel (suc k)) (written_tree r (Pair u (Pair j m))) ≡ Node (written_tree (Rule (TheLevel k) ▸ Many (one_of (operators k) ▸ Rule (TheLevel k))) (Pair (Node (Pair u j)) m))) (sym (rule_is (suc k) (omega (arith, le))))
          (subst (λ (r : Expression Part). as_written (TheLevel (suc k)) (written_tree (Rule TheUnary ▸ joined (suc k)) (Pair u (Pair j m))) ≡ Node (Pair (as_written (TheLevel k) (written_tree r (Pair u j))) (written_tree (Many (one_of (operators k) ▸ Rule (TheLevel k))) m))) (sym (rule_is k (omega (arith, le)))) refl)
      joined_by _ m p = absurd (grind (arith, p))
  joined_level k _ le h = absurd (grind (arith, h))

  noded : (k : ℕ) (y : Tree T) → is_tree (of_rules class written_rule) y (Rule Unary) ≡ true → as_written (TheLevel k) y ≡ Node y
  noded k (Node z) h = refl
  noded k _ h = absurd (grind (arith, h))

  above_level : (k : ℕ) (t : Tree T) → nat_le k 9 ≡ false → is_tree F t (Rule TheUnary) ≡ true → written_tree (Rule (TheLevel (suc k))) (as_factored (Level (suc k)) t) ≡ Node (written_tree (Rule TheUnary) t)
  above_level k (Node x) e h =
      let f : nat_le (suc k) 10 ≡ false = grind (arith, e) in
      let w = kept class factored_rule written_rule written_image as_written (AsWritten.keeps class) (Node x) (Rule TheUnary) h in
      subst (λ (r : Expression Part). as_written (TheLevel (suc k)) (written_tree r (Node x)) ≡ Node (written_tree (Rule TheUnary) (Node x))) (sym (rule_above (suc k) f)) (noded (suc k) (written_tree (Rule TheUnary) (Node x)) w.follows)
  above_level k _ e h = absurd (grind (arith, h))

  level_by : (k : ℕ) (t : Tree T) (b : Bool) → nat_le k 9 ≡ b → is_tree F t (renamed factored_image (cond b (Then (Rule (Level k)) (Many (Then (one_of (operators k)) (Rule (Level k))))) (Rule Unary))) ≡ true → written_tree (Rule (TheLevel (suc k))) (as_factored (Level (suc k)) t) ≡ Node (written_tree (renamed factored_image (cond b (Then (Rule (Level k)) (Many (Then (one_of (operators k)) (Rule (Level k))))) (Rule Unary))) t)
  level_by k t true e h = joined_level k t (is_low k 9 e) h
  level_by k t false e h = above_level k t e h

  level : (k : ℕ) → Joined (Level k)
  level zero t h = refl
  level (suc k) t h = level_by k t (nat_le k 9) refl h

  unary : Joined Unary
  unary (Left (Pair s x)) h = refl
  unary (Right (Left (Pair o x))) h = refl
  unary (Right (Right (Left x))) h = refl
  unary (Right (Right (Right (Left x)))) h = refl
  unary (Right (Right (Right (Right (Left x))))) h = refl
  unary (Right (Right (Right (Right (Right (Left (Pair n i))))))) h = refl
  unary (Right (Right (Right (Right (Right (Right (Pair o x))))))) h = refl
  unary _ h = absurd (grind (arith, h))

  pub joins : (production : Production) → Joined production
  joins External = external
  joins Variable = variable
  joins Block = block
  joins Statement = statement
  joins Local = local
  joins Simple = simple
  joins RightSide = right
  joins Expr = expression
  joins Unary = unary
  joins (Level k) = level k
