-- Branches over cells are those of the law.
use Rattle.std.proofs.Common.{◌≡◌, ℕ, ◌+◌, ◌<◌, List, [], ◌∷◌, ◌++◌, length, drop, take, get_or, ◌≤◌, Option, Some, None, refl, sym, ap, ◌∙◌, subst, arith, zero, suc}
use Rattle.std.specs.Prelude.{map, option_map}
use Rattle.std.specs.Prelude as prelude
use Rattle.std.proofs.lemmas.List.{drop_all, drop_more, take_more, take_all, map-append}
use Rattle.chk_base.specs.declared.place.Place.{Place}
use Rattle.typed_unit.specs.declared.typed.CType.{CType}
use Rattle.typed_unit.specs.declared.typed.GlobalVar.{GlobalVar}
use Rattle.typed_unit.specs.declared.typed.Local.{Local}
use Rattle.typed_unit.specs.declared.typed.TypedBranch.{TypedBranch, out-TypedBranch, fold_out-TypedBranch}
use Rattle.typed_unit.specs.declared.typed.TypedExpr.{TypedExpr}
use Rattle.typed_unit.specs.declared.typed.TypedStatement.{TypedStatement, fold-roll-TypedStatement}
use Rattle.typed_unit.specs.declared.typed.TypedStatement.TheOpen.{TypedStatement-F}
use Rattle.typed_unit.specs.declared.typed.TypedStatement.TheVariants as s
use Rattle.typed_unit.specs.declared.typed.TypedStatement.TheVariants.{rolls-If, rolls-While, rolls-For, rolls-Block}
use Rattle.typed_unit.specs.Plain as plain
use Rattle.typed_unit.specs.Plain.{PlainStatement, PlainBlock}
use Rattle.typed_unit.specs.Views.{PlainBranch, chained, branched, block_or_none, statement_layer, branch_layer, branch_of, expr_of, block_of}
use Rattle.typed_unit.specs.Views as typed
use Rattle.lower_pieces.specs.declared.tree.StatementTree.{StatementTree}
use Rattle.lower_pieces.specs.Trees as tree
use Rattle.lower_law.specs.Statements.{CellStatement, Loop, Block, CellBlock, Nil, Cons, block}
use Rattle.lower_law.specs.Typed.{CellExpr}
use Rattle.lower_law.specs.Translated as law
use Rattle.lower_law.specs.Translated.{joined, condition, statement, statements}
use Rattle.lower_pieces.specs.Within.{LocalsBelow}
use Rattle.lower_code.specs.Chains.{NumbersBelow, AllNumbersBelow, BranchesBelow, branch_cells, chained_cells, branched_cells}

-- nothing behind statements
pub joined_nil : (b : CellBlock) → joined b Nil ≡ b
joined_nil Nil = refl
joined_nil (Cons s b) = ap (λ c. Cons s c) (joined_nil b)

-- one more typed statement
pub typed_more : (ss : List TypedStatement) (i : ℕ) (d : TypedStatement) → i < length ss → block_of (drop i ss) ≡ plain.StatementThen (typed.statement_of (get_or ss i d)) (block_of (drop (i + 1) ss))
typed_more ss i d h = ap (λ xs. block_of xs) (drop_more ss i d h)

-- one more branch
pub branches_more : (bs : List TypedBranch) (i : ℕ) (d : TypedBranch) → i < length bs → map branch_of (drop i bs) ≡ branch_of (get_or bs i d) ∷ map branch_of (drop (i + 1) bs)
branches_more bs i d h = ap (λ xs. map branch_of xs) (drop_more bs i d h)

-- a branch as it is written
pub branch_is : (b : TypedBranch) → branch_of b ≡ record { place = (out-TypedBranch b).place; condition = expr_of (out-TypedBranch b).condition; block = block_of (out-TypedBranch b).block }
branch_is b = fold_out-TypedBranch PlainStatement PlainBranch statement_layer branch_layer b

module _ (globals : List GlobalVar) (locals : List Local) where
  -- branches one behind another, and an `if` with them, over cells
  chained_is : (bs : List PlainBranch) (off : PlainBlock) → statements globals locals (chained bs off) ≡ chained_cells globals locals bs (statements globals locals off)
  chained_is [] off = refl
  chained_is (b ∷ bs) off = ap (λ c. Cons (branch_cells globals locals b c) Nil) (chained_is bs off)

  pub branched_is : (place : Place) (bs : List PlainBranch) (off : PlainBlock) → statement globals locals (branched place bs off) ≡ branched_cells globals locals place bs (statements globals locals off)
  branched_is place [] off = refl
  branched_is place (b ∷ bs) off = ap (λ c. branch_cells globals locals b c) (chained_is bs off)

-- one more argument
pub exprs_more : (es : List TypedExpr) (i : ℕ) (d : TypedExpr) → i < length es → map expr_of (drop i es) ≡ expr_of (get_or es i d) ∷ map expr_of (drop (i + 1) es)
exprs_more es i d h = ap (λ xs. map expr_of xs) (drop_more es i d h)

module _ (globals : List GlobalVar) (locals : List Local) (n : ℕ) where
  -- the numbers of branches and of the last block, from those of the whole
  all_below : (bs : List PlainBranch) (off : PlainBlock) → AllNumbersBelow n (statements globals locals (chained bs off)) → BranchesBelow globals locals n bs × AllNumbersBelow n (statements globals locals off)
  all_below [] off h = (tt, h)
  all_below (b ∷ bs) off h = let r = all_below bs off h.0.2 in (((h.0.0, h.0.1), r.0), r.1)

  both_below : (place : Place) (bs : List PlainBranch) (off : PlainBlock) → NumbersBelow n (statement globals locals (branched place bs off)) → BranchesBelow globals locals n bs × AllNumbersBelow n (statements globals locals off)
  both_below place [] off h = (tt, h)
  both_below place (b ∷ bs) off h = let r = all_below bs off h.2 in (((h.0, h.1), r.0), r.1)

  pub branches_below : (place : Place) (bs : List PlainBranch) (off : PlainBlock) → NumbersBelow n (statement globals locals (branched place bs off)) → BranchesBelow globals locals n bs
  branches_below place bs off h = (both_below place bs off h).0

  pub otherwise_below : (place : Place) (bs : List PlainBranch) (off : PlainBlock) → NumbersBelow n (statement globals locals (branched place bs off)) → AllNumbersBelow n (statements globals locals off)
  otherwise_below place bs off h = (both_below place bs off h).1

  -- one of the branches
  pub one_below : (bs : List TypedBranch) (i : ℕ) (d : TypedBranch) → i < length bs → BranchesBelow globals locals n (map branch_of bs) → BranchesBelow globals locals n (branch_of (get_or bs i d) ∷ [])
  one_below [] i d k h = absurd (omega arith)
  one_below (b ∷ bs) zero d k h = (h.0, tt)
  one_below (b ∷ bs) (suc i) d k h = one_below bs i d (omega arith) h.1

-- an `if`, a `while`, a `for` and a block as they are written
pub if_is : (place : Place) (bs : List TypedBranch) (o : Option (List TypedStatement))
    → typed.statement_of (s.If place bs o) ≡ branched place (map branch_of bs) (block_or_none (option_map (map typed.statement_of) o))
if_is place bs None =
    ap typed.statement_of (sym (rolls-If place bs None)) ∙ fold-roll-TypedStatement PlainStatement PlainBranch statement_layer branch_layer (TypedStatement-F.If place bs None)
if_is place bs (Some body) =
    ap typed.statement_of (sym (rolls-If place bs (Some body))) ∙ fold-roll-TypedStatement PlainStatement PlainBranch statement_layer branch_layer (TypedStatement-F.If place bs (Some body))

pub while_is : (place : Place) (c : TypedExpr) (body : List TypedStatement) → typed.statement_of (s.While place c body) ≡ plain.While place (expr_of c) (block_of body)
while_is place c body =
    ap typed.statement_of (sym (rolls-While place c body)) ∙ fold-roll-TypedStatement PlainStatement PlainBranch statement_layer branch_layer (TypedStatement-F.While place c body)

pub for_is : (place : Place) (start : List TypedStatement) (c : Option TypedExpr) (step body : List TypedStatement)
    → typed.statement_of (s.For place start c step body) ≡ plain.For place (block_of start) (option_map expr_of c) (block_of step) (block_of body)
for_is place start c step body =
    ap typed.statement_of (sym (rolls-For place start c step body)) ∙ fold-roll-TypedStatement PlainStatement PlainBranch statement_layer branch_layer (TypedStatement-F.For place start c step body)

pub block_is : (place : Place) (body : List TypedStatement) → typed.statement_of (s.Block place body) ≡ plain.Block place (block_of body)
block_is place body =
    ap typed.statement_of (sym (rolls-Block place body)) ∙ fold-roll-TypedStatement PlainStatement PlainBranch statement_layer branch_layer (TypedStatement-F.Block place body)

-- one more of the first locals
pub types_more : (ls : List Local) (i : ℕ) (d : Local) → i < length ls → map (λ (v : Local). v.ctype) (take (i + 1) ls) ≡ map (λ (v : Local). v.ctype) (take i ls) ++ (get_or ls i d).ctype ∷ []
types_more ls i d h =
    ap (λ xs. map (λ (v : Local). v.ctype) xs) (take_more ls i d h) ∙ map-append (λ (v : Local). v.ctype) (take i ls) (get_or ls i d ∷ [])

pub types_end : (ls : List Local) (i : ℕ) → length ls ≤ i → map (λ (v : Local). v.ctype) (take (i + 1) ls) ≡ map (λ (v : Local). v.ctype) (take i ls)
types_end ls i h = ap (λ xs. map (λ (v : Local). v.ctype) xs) (take_all (i + 1) ls (omega arith) ∙ sym (take_all i ls h))

-- one more tree at the end, before others and as the last
pub trees_push : (ts : List StatementTree) (t : StatementTree) (b : CellBlock) → joined (block (map tree.statement_of (ts ++ t ∷ []))) b ≡ joined (block (map tree.statement_of ts)) (Cons (tree.statement_of t) b)
trees_push [] t b = refl
trees_push (x ∷ ts) t b = ap (λ c. Cons (tree.statement_of x) c) (trees_push ts t b)

pub trees_last : (ts : List StatementTree) (t : StatementTree) → block (map tree.statement_of (ts ++ t ∷ [])) ≡ joined (block (map tree.statement_of ts)) (Cons (tree.statement_of t) Nil)
trees_last [] t = refl
trees_last (x ∷ ts) t = ap (λ c. Cons (tree.statement_of x) c) (trees_last ts t)

-- one more branch in front
pub chained_more : (globals : List GlobalVar) (locals : List Local) (bs : List TypedBranch) (i j : ℕ) (d : TypedBranch) (off rest : CellBlock) (b : CellStatement) → j + 1 ≡ i → i ≤ length bs
    → rest ≡ chained_cells globals locals (map branch_of (drop i bs)) off → b ≡ branch_cells globals locals (branch_of (get_or bs j d)) rest
    → Cons b Nil ≡ chained_cells globals locals (map branch_of (drop j bs)) off
chained_more globals locals bs i j d off rest b e h r q =
    let k : j < length bs = omega (arith, e, h) in
    ap (λ s. Cons s Nil) (q ∙ ap (λ x. branch_cells globals locals (branch_of (get_or bs j d)) x) (r ∙ ap (λ n. chained_cells globals locals (map branch_of (drop n bs)) off) (sym e)))
    ∙ ap (λ xs. chained_cells globals locals xs off) (sym (branches_more bs j d k))

module _ (globals : List GlobalVar) (locals : List Local) (n : ℕ) where
  -- the numbers of statements before others
  joined_below : (a b : CellBlock) → AllNumbersBelow n (joined a b) → AllNumbersBelow n a × AllNumbersBelow n b
  joined_below Nil b h = (tt, h)
  joined_below (Cons s a) b h = let r = joined_below a b h.1 in ((h.0, r.0), r.1)

  -- the numbers of an `if` and of a `for`, part by part
  pub if_branches : (place : Place) (bs : List TypedBranch) (o : Option (List TypedStatement)) → NumbersBelow n (statement globals locals (typed.statement_of (s.If place bs o)))
      → BranchesBelow globals locals n (map branch_of bs)
  if_branches place bs o h =
      branches_below globals locals n place (map branch_of bs) (block_or_none (option_map (map typed.statement_of) o))
      (subst (λ (x : PlainStatement). NumbersBelow n (statement globals locals x)) (if_is place bs o) h)

  pub if_otherwise : (place : Place) (bs : List TypedBranch) (body : List TypedStatement) → NumbersBelow n (statement globals locals (typed.statement_of (s.If place bs (Some body))))
      → AllNumbersBelow n (statements globals locals (block_of body))
  if_otherwise place bs body h =
      otherwise_below globals locals n place (map branch_of bs) (block_of body)
      (subst (λ (x : PlainStatement). NumbersBelow n (statement globals locals x)) (if_is place bs (Some body)) h)

  for_below : (place : Place) (start : List TypedStatement) (c : Option TypedExpr) (step body : List TypedStatement) → NumbersBelow n (statement globals locals (typed.statement_of (s.For place start c step body)))
      → AllNumbersBelow n (statements globals locals (block_of start))
      × AllNumbersBelow n (Cons (Loop place (condition globals (option_map expr_of c)) (statements globals locals (block_of step)) (statements globals locals (block_of body))) Nil)
  for_below place start c step body h =
      joined_below (statements globals locals (block_of start)) (Cons (Loop place (condition globals (option_map expr_of c)) (statements globals locals (block_of step)) (statements globals locals (block_of body))) Nil)
      (subst (λ (x : PlainStatement). NumbersBelow n (statement globals locals x)) (for_is place start c step body) h)

  pub for_start : (place : Place) (start : List TypedStatement) (c : Option TypedExpr) (step body : List TypedStatement) → NumbersBelow n (statement globals locals (typed.statement_of (s.For place start c step body)))
      → AllNumbersBelow n (statements globals locals (block_of start))
  for_start place start c step body h = (for_below place start c step body h).0

  pub for_condition : (place : Place) (start : List TypedStatement) (c : Option TypedExpr) (step body : List TypedStatement) → NumbersBelow n (statement globals locals (typed.statement_of (s.For place start c step body)))
      → LocalsBelow n (condition globals (option_map expr_of c))
  for_condition place start c step body h = (for_below place start c step body h).1.0.0

  pub for_step : (place : Place) (start : List TypedStatement) (c : Option TypedExpr) (step body : List TypedStatement) → NumbersBelow n (statement globals locals (typed.statement_of (s.For place start c step body)))
      → AllNumbersBelow n (statements globals locals (block_of step))
  for_step place start c step body h = (for_below place start c step body h).1.0.1

  pub for_body : (place : Place) (start : List TypedStatement) (c : Option TypedExpr) (step body : List TypedStatement) → NumbersBelow n (statement globals locals (typed.statement_of (s.For place start c step body)))
      → AllNumbersBelow n (statements globals locals (block_of body))
  for_body place start c step body h = (for_below place start c step body h).1.0.2

  -- the same of a statement that is known to be one, for lists that are known to be its parts: the branches
  pub branches_at : (x : TypedStatement) (place : Place) (bs vs : List TypedBranch) (o : Option (List TypedStatement)) → x ≡ s.If place bs o → vs ≡ bs
      → NumbersBelow n (statement globals locals (typed.statement_of x)) → BranchesBelow globals locals n (map branch_of vs)
  branches_at x place bs vs o e v h =
      subst (λ (ys : List TypedBranch). BranchesBelow globals locals n (map branch_of ys)) (sym v)
      (if_branches place bs o (subst (λ (y : TypedStatement). NumbersBelow n (statement globals locals (typed.statement_of y))) e h))

  -- statements in a list that is known
  seen_below : (ss vs : List TypedStatement) → vs ≡ ss → AllNumbersBelow n (statements globals locals (block_of ss)) → AllNumbersBelow n (statements globals locals (block_of vs))
  seen_below ss vs v h = subst (λ (ys : List TypedStatement). AllNumbersBelow n (statements globals locals (block_of ys))) (sym v) h

  -- the last block
  pub otherwise_at : (x : TypedStatement) (place : Place) (bs : List TypedBranch) (body vs : List TypedStatement) → x ≡ s.If place bs (Some body) → vs ≡ body
      → NumbersBelow n (statement globals locals (typed.statement_of x)) → AllNumbersBelow n (statements globals locals (block_of vs))
  otherwise_at x place bs body vs e v h =
      seen_below body vs v (if_otherwise place bs body (subst (λ (y : TypedStatement). NumbersBelow n (statement globals locals (typed.statement_of y))) e h))

  -- what is done first, what is done after the body, and the body
  pub start_at : (x : TypedStatement) (place : Place) (start : List TypedStatement) (c : Option TypedExpr) (step body vs : List TypedStatement) → x ≡ s.For place start c step body → vs ≡ start
      → NumbersBelow n (statement globals locals (typed.statement_of x)) → AllNumbersBelow n (statements globals locals (block_of vs))
  start_at x place start c step body vs e v h =
      seen_below start vs v (for_start place start c step body (subst (λ (y : TypedStatement). NumbersBelow n (statement globals locals (typed.statement_of y))) e h))

  pub step_at : (x : TypedStatement) (place : Place) (start : List TypedStatement) (c : Option TypedExpr) (step body vs : List TypedStatement) → x ≡ s.For place start c step body → vs ≡ step
      → NumbersBelow n (statement globals locals (typed.statement_of x)) → AllNumbersBelow n (statements globals locals (block_of vs))
  step_at x place start c step body vs e v h =
      seen_below step vs v (for_step place start c step body (subst (λ (y : TypedStatement). NumbersBelow n (statement globals locals (typed.statement_of y))) e h))

  pub body_at : (x : TypedStatement) (place : Place) (start : List TypedStatement) (c : Option TypedExpr) (step body vs : List TypedStatement) → x ≡ s.For place start c step body → vs ≡ body
      → NumbersBelow n (statement globals locals (typed.statement_of x)) → AllNumbersBelow n (statements globals locals (block_of vs))
  body_at x place start c step body vs e v h =
      seen_below body vs v (for_body place start c step body (subst (λ (y : TypedStatement). NumbersBelow n (statement globals locals (typed.statement_of y))) e h))

-- an `if` without a branch is its last block
pub no_branch : (globals : List GlobalVar) (locals : List Local) (place : Place) (bs : List TypedBranch) (off : CellBlock) → length bs ≤ 0 → Block off ≡ branched_cells globals locals place (map branch_of bs) off
no_branch globals locals place [] off h = refl
no_branch globals locals place (x ∷ bs) off h = absurd (omega arith)

module _ (globals : List GlobalVar) (locals : List Local) where
  -- the trees of statements that are seen as a list
  pub block_seen : (ss vs : List TypedStatement) (b : CellBlock) → vs ≡ ss → b ≡ statements globals locals (block_of vs) → b ≡ statements globals locals (block_of ss)
  block_seen ss vs b v e = e ∙ ap (λ ys. statements globals locals (block_of ys)) v

  -- an `if` from its branches and its last block
  pub if_done : (x : TypedStatement) (place : Place) (bs vs : List TypedBranch) (o : Option (List TypedStatement)) (off : CellBlock) → x ≡ s.If place bs o → vs ≡ bs
      → off ≡ statements globals locals (block_or_none (option_map (map typed.statement_of) o))
      → branched_cells globals locals place (map branch_of vs) off ≡ statement globals locals (typed.statement_of x)
  if_done x place bs vs o off e v q =
      ap (λ ys. branched_cells globals locals place (map branch_of ys) off) v
      ∙ (ap (λ c. branched_cells globals locals place (map branch_of bs) c) q
      ∙ (sym (branched_is globals locals place (map branch_of bs) (block_or_none (option_map (map typed.statement_of) o)))
      ∙ (ap (λ y. statement globals locals y) (sym (if_is place bs o))
      ∙ ap (λ y. statement globals locals (typed.statement_of y)) (sym e))))

  -- a `for` from its parts
  pub for_done : (x : TypedStatement) (place : Place) (start : List TypedStatement) (c : Option TypedExpr) (step body : List TypedStatement) (new old : List StatementTree) (loop : StatementTree)
      (test : CellExpr) (third inner : CellBlock) → x ≡ s.For place start c step body → new ≡ old ++ loop ∷ [] → block (map tree.statement_of old) ≡ statements globals locals (block_of start)
      → tree.statement_of loop ≡ Loop place test third inner → test ≡ condition globals (option_map expr_of c) → third ≡ statements globals locals (block_of step) → inner ≡ statements globals locals (block_of body)
      → Block (block (map tree.statement_of new)) ≡ statement globals locals (typed.statement_of x)
  for_done x place start c step body new old loop test third inner e p q l a b d =
      let whole : tree.statement_of loop ≡ Loop place (condition globals (option_map expr_of c)) (statements globals locals (block_of step)) (statements globals locals (block_of body)) =
      l
      ∙ (ap (λ y. Loop place y third inner) a
      ∙ (ap (λ y. Loop place (condition globals (option_map expr_of c)) y inner) b
      ∙ ap (λ y. Loop place (condition globals (option_map expr_of c)) (statements globals locals (block_of step)) y) d)) in
      ap (λ ts. Block (block (map tree.statement_of ts))) p
      ∙ (ap (λ y. Block y) (trees_last old loop)
      ∙ (ap (λ y. Block (joined y (Cons (tree.statement_of loop) Nil))) q
      ∙ (ap (λ y. Block (joined (statements globals locals (block_of start)) (Cons y Nil))) whole
      ∙ (ap (λ y. statement globals locals y) (sym (for_is place start c step body))
      ∙ ap (λ y. statement globals locals (typed.statement_of y)) (sym e)))))

  -- statements, the last of which is done
  pub all_done : (ss : List TypedStatement) (i : ℕ) (b : CellBlock) → length ss ≤ i → statements globals locals (block_of ss) ≡ joined b (statements globals locals (block_of (drop i ss)))
      → b ≡ statements globals locals (block_of ss)
  all_done ss i b h e = sym (e ∙ (ap (λ ys. joined b (statements globals locals (block_of ys))) (drop_all i ss h) ∙ joined_nil b))

-- whether there is one
pub some_is : (o : Option CType) → prelude.is_some o ≡ law.is_some o
some_is None = refl
some_is (Some t) = refl
