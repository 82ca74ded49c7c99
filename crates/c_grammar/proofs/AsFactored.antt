-- Each rule of the written grammar, regrouped, is one of the factored grammar with the same leaves, and regrouped back it is what it was.
use Rattle.std.proofs.Common.{◌≡◌, ℕ, zero, suc, ◌≤◌, Bool, true, false, cond, ◌++◌, refl, sym, subst, append_assoc, arith}
use Rattle.std.specs.Prelude.{nat_le}
use Rattle.std.proofs.lemmas.Bool.{and_parts, and_from}
use Rattle.std.proofs.lemmas.List.{append-nil}
use Rattle.grammar.specs.Grammar.{Expression, Grammar, ◌▸◌, optional, Then, Many, Rule, Tree, Nil, Pair, Left, Right, Node, is_tree, leaves, Derives}
use Rattle.c_grammar.specs.declared.symbol.Symbol.TheVariants.{Comma}
use Rattle.c_grammar.specs.Written.{spelled, one_of, operators, constant, elses, last_else, written_rule, Production, External, Variable, Block, Statement, Local, Simple, RightSide, Expr, Level, Unary}
use Rattle.c_grammar.specs.Factored.{factored_rule, joined, all_joined, Part, TheTail, TheBlock, TheElse, TheExpression, TheLevel, TheUnary}
use Rattle.c_grammar.specs.Regrouping.{renamed}
use Rattle.c_grammar.specs.Trees.{as_written, as_factored, factored_image, factored_tail, factored_else}
use Rattle.c_grammar.proofs.Regroup.{of_rules, Keeps, Joins}
use Rattle.c_grammar.proofs.AsWritten.{low_ten, is_low}

rule_is : (k : ℕ) → k ≤ 10 → factored_rule (TheLevel k) ≡ (Rule TheUnary ▸ joined k)
rule_is k h = rw (low_ten k h) refl

rule_above : (k : ℕ) → nat_le k 10 ≡ false → factored_rule (TheLevel k) ≡ Rule TheUnary
rule_above k h = rw h refl

module _ {T : Type 0} (class : T → ℕ) where
  abbrev F : Grammar Part T
  F = of_rules class factored_rule

  abbrev Kept : Production → Type 0
  Kept production = Keeps class written_rule factored_rule factored_image as_factored production

  abbrev Joined : Production → Type 0
  Joined production = Joins class written_rule factored_rule factored_image as_factored as_written production

  -- ---- further constants

  more : Expression Part
  more = Many (spelled Comma ▸ constant)

  tail : (m f : Tree T) → is_tree F m (Many (spelled Comma ▸ constant)) ≡ true → is_tree F f (optional (spelled Comma)) ≡ true → Derives F (optional (Rule TheTail)) (factored_tail m f) (leaves m ++ leaves f)
  tail Nil (Left c) p q = record { follows = and_from _ _ q refl; spells = append-nil (leaves c) }
  tail Nil (Right Nil) p q = record { follows = refl; spells = refl }
  tail (Pair (Pair c k) m) f p q =
      let rest : is_tree F m (Many (spelled Comma ▸ constant)) ≡ true = grind (arith, p) in
      let t = tail m f rest q in
      record { follows = grind (arith, p, t.follows); spells = rw t.spells (simp append_assoc refl) }
  tail _ f p q = absurd (grind (arith, p, q))

  -- ---- further branches

  otherwise : (m f : Tree T) → is_tree F m (elses TheExpression TheBlock) ≡ true → is_tree F f (last_else TheBlock) ≡ true → Derives F (optional (Rule TheElse)) (factored_else m f) (leaves m ++ leaves f)
  otherwise Nil (Left (Pair l b)) p q = record { follows = q; spells = refl }
  otherwise Nil (Right Nil) p q = record { follows = refl; spells = refl }
  otherwise (Pair (Pair l b) m) f p q =
      let rest : is_tree F m (elses TheExpression TheBlock) ≡ true = grind (arith, p) in
      let t = otherwise m f rest q in
      record { follows = grind (arith, p, t.follows); spells = rw t.spells (simp append_assoc refl) }
  otherwise _ f p q = absurd (grind (arith, p, q))

  external : Kept External
  external (Left x) h = record { follows = h; spells = refl }
  external (Right (Left x)) h = record { follows = h; spells = refl }
  external (Right (Right (Left (Pair q (Pair t (Pair (Node (Pair n i)) (Pair vs s))))))) h = record { follows = grind (arith, h); spells = simp append_assoc refl }
  external (Right (Right (Right (Pair q (Pair (Left t) (Pair n (Pair o (Pair (Left (Left w)) x)))))))) h = record { follows = h; spells = refl }
  external (Right (Right (Right (Pair q (Pair (Left t) (Pair n (Pair o (Pair (Left (Right Nil)) x)))))))) h = record { follows = h; spells = refl }
  external (Right (Right (Right (Pair q (Pair (Left t) (Pair n (Pair o (Pair (Right (Pair p ps)) x)))))))) h = record { follows = h; spells = refl }
  external (Right (Right (Right (Pair q (Pair (Right v) (Pair n (Pair o (Pair (Left (Left w)) x)))))))) h = record { follows = h; spells = refl }
  external (Right (Right (Right (Pair q (Pair (Right v) (Pair n (Pair o (Pair (Left (Right Nil)) x)))))))) h = record { follows = h; spells = refl }
  external (Right (Right (Right (Pair q (Pair (Right v) (Pair n (Pair o (Pair (Right (Pair p ps)) x)))))))) h = record { follows = h; spells = refl }
  external _ h = absurd (grind (arith, h))

  variable : Kept Variable
  variable (Left (Pair n (Left i))) h = record { follows = h; spells = refl }
  variable (Left (Pair n (Right Nil))) h = record { follows = h; spells = refl }
  variable (Right (Pair n (Pair o (Pair k (Pair c (Left (Pair e (Pair b (Pair a (Pair m (Pair f z))))))))))) h =
      let p : is_tree F m (Many (spelled Comma ▸ constant)) ≡ true = grind (arith, h) in
      let q : is_tree F f (optional (spelled Comma)) ≡ true = grind (arith, h) in
      let t = tail m f p q in
      record { follows = grind (arith, h, t.follows); spells = rw t.spells (simp append_assoc refl) }
  variable (Right (Pair n (Pair o (Pair k (Pair c (Right x)))))) h = record { follows = h; spells = refl }
  variable _ h = absurd (grind (arith, h))

  block : Kept Block
  block t h = record { follows = h; spells = refl }

  local : Kept Local
  local t h = record { follows = h; spells = refl }

  statement : Kept Statement
  statement (Left x) h = record { follows = h; spells = refl }
  statement (Right (Left x)) h = record { follows = h; spells = refl }
  statement (Right (Right (Left x))) h = record { follows = h; spells = refl }
  statement (Right (Right (Right (Left x)))) h = record { follows = h; spells = refl }
  statement (Right (Right (Right (Right (Left (Pair b (Pair m f))))))) h =
      let p : is_tree F m (elses TheExpression TheBlock) ≡ true = grind (arith, h) in
      let q : is_tree F f (last_else TheBlock) ≡ true = grind (arith, h) in
      let t = otherwise m f p q in
      record { follows = grind (arith, h, t.follows); spells = rw t.spells refl }
  statement (Right (Right (Right (Right (Right (Left x)))))) h = record { follows = h; spells = refl }
  statement (Right (Right (Right (Right (Right (Right (Left x))))))) h = record { follows = h; spells = refl }
  statement (Right (Right (Right (Right (Right (Right (Right x))))))) h = record { follows = h; spells = refl }
  statement _ h = absurd (grind (arith, h))

  simple : Kept Simple
  simple (Left (Pair n x)) h = record { follows = h; spells = refl }
  simple (Right (Left (Pair n x))) h = record { follows = h; spells = refl }
  simple (Right (Right (Left (Pair n x)))) h = record { follows = h; spells = refl }
  simple (Right (Right (Right (Left (Pair n x))))) h = record { follows = h; spells = refl }
  simple (Right (Right (Right (Right (Left (Pair n x)))))) h = record { follows = h; spells = refl }
  simple (Right (Right (Right (Right (Right (Left x)))))) h = record { follows = h; spells = refl }
  simple (Right (Right (Right (Right (Right (Right (Left x))))))) h = record { follows = h; spells = refl }
  simple (Right (Right (Right (Right (Right (Right (Right (Left (Pair n x))))))))) h = record { follows = h; spells = refl }
  simple (Right (Right (Right (Right (Right (Right (Right (Right x)))))))) h = record { follows = h; spells = refl }
  simple _ h = absurd (grind (arith, h))

  right : Kept RightSide
  unfolding all_joined
  right (Left (Node (Pair (Node (Left (Pair n i))) a))) h = record { follows = grind (arith, h); spells = simp append_assoc refl }
  right (Left (Node (Pair (Node (Right u)) a))) h = record { follows = h; spells = refl }
  right (Right (Pair n x)) h = record { follows = h; spells = refl }
  right _ h = absurd (grind (arith, h))

  expression : Kept Expr
  unfolding all_joined
  expression (Pair (Node (Pair u j)) q) h = record { follows = grind (arith, h); spells = simp append_assoc refl }
  expression _ h = absurd (grind (arith, h))

  joined_level : (k : ℕ) (t : Tree T) → k ≤ 9 → is_tree F t (Rule (TheLevel k) ▸ Many (one_of (operators k) ▸ Rule (TheLevel k))) ≡ true → Derives F (Rule (TheLevel (suc k))) (as_factored (Level (suc k)) t) (leaves t)
  joined_level k (Pair (Node x) m) le h =
      let p = and_parts _ _ h in
      joined_by x m (subst (λ (r : Expression Part). is_tree F x r ≡ true) (rule_is k (omega (arith, le))) p.0) p.1
    where
      joined_by : (x m : Tree T) → is_tree F x (Rule TheUnary ▸ joined k) ≡ true → is_tree F m (Many (one_of (operators k) ▸ Rule (TheLevel k))) ≡ true → Derives F (Rule (TheLevel (suc k))) (as_factored (Level (suc k)) (Pair (Node x) m)) (leaves x ++ leaves m)
      joined_by (Pair u j) m p q =
          let l = and_parts _ _ p in
          record {
            follows = subst (λ (r : Expression Part). is_tree F (Pair u (Pair j m)) r ≡ true) (sym (rule_is (suc k) (omega (arith, le)))) (and_from _ _ l.0 (and_from _ _ l.1 q));
            spells = sym (append_assoc (leaves u) (leaves j) (leaves m));
          }
      joined_by _ m p q = absurd (grind (arith, p))
  joined_level k _ le h = absurd (grind (arith, h))

  above_level : (k : ℕ) (t : Tree T) → nat_le k 9 ≡ false → is_tree F t (Rule TheUnary) ≡ true → Derives F (Rule (TheLevel (suc k))) (as_factored (Level (suc k)) t) (leaves t)
  above_level k (Node x) e h = let f : nat_le (suc k) 10 ≡ false = grind (arith, e) in record { follows = subst (λ (r : Expression Part). is_tree F (Node x) r ≡ true) (sym (rule_above (suc k) f)) h; spells = refl }
  above_level k _ e h = absurd (grind (arith, h))

  level_by : (k : ℕ) (t : Tree T) (b : Bool) → nat_le k 9 ≡ b → is_tree F t (renamed factored_image (cond b (Then (Rule (Level k)) (Many (Then (one_of (operators k)) (Rule (Level k))))) (Rule Unary))) ≡ true → Derives F (Rule (TheLevel (suc k))) (as_factored (Level (suc k)) t) (leaves t)
  level_by k t true e h = joined_level k t (is_low k 9 e) h
  level_by k t false e h = above_level k t e h

  level : (k : ℕ) → Kept (Level k)
  level zero t h = record { follows = and_from _ _ h refl; spells = append-nil (leaves t) }
  level (suc k) t h = level_by k t (nat_le k 9) refl h

  unary : Kept Unary
  unary (Left x) h = record { follows = h; spells = refl }
  unary (Right (Left (Pair o x))) h = record { follows = h; spells = refl }
  unary (Right (Right (Left x))) h = record { follows = h; spells = refl }
  unary (Right (Right (Right (Left x)))) h = record { follows = h; spells = refl }
  unary (Right (Right (Right (Right (Left x))))) h = record { follows = h; spells = refl }
  unary (Right (Right (Right (Right (Right (Left (Pair n i))))))) h = record { follows = h; spells = refl }
  unary (Right (Right (Right (Right (Right (Right (Pair o x))))))) h = record { follows = h; spells = refl }
  unary _ h = absurd (grind (arith, h))

  pub keeps : (production : Production) → Kept production
  keeps External = external
  keeps Variable = variable
  keeps Block = block
  keeps Statement = statement
  keeps Local = local
  keeps Simple = simple
  keeps RightSide = right
  keeps Expr = expression
  keeps Unary = unary
  keeps (Level k) = level k
