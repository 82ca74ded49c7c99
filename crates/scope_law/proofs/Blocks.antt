-- Blocks that break no rule, statement by statement.
use Rattle.std.proofs.Common.{◌≡◌, ℕ, ◌<◌, ◌≤◌, Bool, false, is_some, List, [], ◌∷◌, ◌++◌, length, Option, Some, None, refl, sym, subst, arith}
use Rattle.chk_base.specs.declared.place.Place.{Place}
use Rattle.chk_base.specs.declared.text.Name.{Name}
use Rattle.c_unit.specs.declared.expression.Expression.{Expression}
use Rattle.c_unit.specs.declared.expression.RightSide.{RightSide}
use Rattle.c_unit.specs.declared.expression.TypeName.{TypeName}
use Rattle.c_unit.specs.declared.statement.Declarator.{Declarator}
use Rattle.c_unit.specs.declared.statement.Simple.{Simple}
use Rattle.c_unit.specs.declared.statement.Start.{Start}
use Rattle.c_unit.specs.declared.statement.Start.TheVariants as starts
use Rattle.c_rules.specs.declared.meaning.LocalMeaning.{LocalMeaning}
use Rattle.c_rules.specs.First.{when}
use Rattle.c_rules.specs.Files.{Known, known_meaning}
use Rattle.c_rules.specs.Rules.{expression_faults, optional_faults}
use Rattle.c_rules.specs.Scopes.{Visible, Scope, is_declared, declared, entered, left}
use Rattle.c_rules.specs.StatementRules.{means_in, initial_faults, declarators_faults, after_declarators, start_faults, after_start, step_faults, returns_wrongly, statement_faults, block_faults, branches_faults, after, after_block, after_branches}
use Rattle.c_rules.specs.Written.{WrittenStatement, WrittenBlock, WrittenBranches, NoBranch, BranchThen}
use Rattle.c_rules.specs.Written as w
use Rattle.typed_unit.specs.declared.typed.CType.{CType}
use Rattle.typed_unit.specs.Plain.{PlainStatement, PlainBlock, NoStatement, StatementThen, PlainUnit, block}
use Rattle.typed_unit.specs.Plain as p
use Rattle.typed_unit.specs.Views.{PlainBranch, chained, branched}
use Rattle.typed_unit.specs.TypedExpressions.{typed_expression}
use Rattle.typed_unit.specs.TypedStatements.{target_of, assign_of, simple_of, initial_of, declarators_of, start_of, step_of, optional_of, value_of, typed_statement, typed_statements, typed_branches}
use Rattle.lower_law.specs.Scoped.{IsScoped, IfScoped, IsResult, StatementScoped, BlockScoped, known_behind, known_in}
use Rattle.scope_law.specs.Right.{IsCallIn}
use Rattle.scope_law.proofs.Meant.{front_none, back_none, IsAbroad, IsMeant}
use Rattle.scope_law.proofs.Expressions.{converted_scoped, expression_scoped, optional_scoped}
use Rattle.scope_law.proofs.Locals.{AreSeen, behind_more, seen_more, declared_seen, meant_in, grows_on, declared_count, left_seen, grows_left, grows_declarators, grows_start, grows_block, grows_branches, branches_visible}
use Rattle.scope_law.proofs.Statements.{local_usable, assign_scoped, assign_learns, simple_scoped}

-- what is set behind statements and others after them
joined_known : (xs ys : List PlainStatement) (ready : ℕ → Bool) → known_in ready (block (xs ++ ys)) ≡ known_in (known_in ready (block xs)) (block ys)
joined_known [] ys ready = refl
joined_known (x ∷ xs) ys ready = joined_known xs ys (known_behind ready x)

module _ (u : PlainUnit) (known : Known) (abroad : (name : List ℕ) → IsAbroad u (known_meaning known name)) (locals : ℕ) (result : Option CType) where
  -- a statement of this body is right
  abbrev OneScoped : (ℕ → Bool) → PlainStatement → Type 0
  OneScoped ready s = StatementScoped u.globals (IsCallIn u) locals result ready s

  -- a block of it is right
  abbrev AllScoped : (ℕ → Bool) → PlainBlock → Type 0
  AllScoped ready b = BlockScoped u.globals (IsCallIn u) locals result ready b

  -- statements are right, and what can be seen behind them is set
  pub record AreFine (ready : ℕ → Bool) (visible : List Visible) (xs : List PlainStatement) : Type 0 where
    pub scoped : BlockScoped u.globals (IsCallIn u) locals result ready (block xs)
    pub seen : AreSeen (known_in ready (block xs)) locals visible

  -- statements and others after them
  joined_scoped : (xs ys : List PlainStatement) (ready : ℕ → Bool) → AllScoped ready (block xs) → AllScoped (known_in ready (block xs)) (block ys) → AllScoped ready (block (xs ++ ys))
  joined_scoped [] ys ready f g = g
  joined_scoped (x ∷ xs) ys ready f g = (f.0, joined_scoped xs ys (known_behind ready x) f.1 g)

  joined_fine : (xs ys : List PlainStatement) (ready : ℕ → Bool) (vs ws : List Visible) → AreFine ready vs xs → AreFine (known_in ready (block xs)) ws ys → AreFine ready ws (xs ++ ys)
  joined_fine xs ys ready vs ws f g = record {
    scoped = joined_scoped xs ys ready f.scoped g.scoped;
    seen = subst (λ k. AreSeen k locals ws) (sym (joined_known xs ys ready)) g.seen;
  }

  none_fine : (ready : ℕ → Bool) (vs : List Visible) → AreSeen ready locals vs → AreFine ready vs []
  none_fine ready vs s = record { scoped = tt; seen = s }

  one_fine : (x : PlainStatement) (ready : ℕ → Bool) (vs : List Visible) → OneScoped ready x → AreSeen ready locals vs → AreFine ready vs (x ∷ [])
  one_fine x ready vs f s = record { scoped = (f, tt); seen = seen_more ready (known_behind ready x) locals (behind_more ready x) vs s }

  -- what names mean at a place
  meant_here : (ready : ℕ → Bool) (scope : Scope) → AreSeen ready locals scope.visible → (name : List ℕ) → IsMeant u locals ready (means_in known scope name)
  meant_here ready scope s name = meant_in u known abroad locals ready scope s name

  expression_here : (ready : ℕ → Bool) (scope : Scope) → AreSeen ready locals scope.visible → (e : Expression) → expression_faults e (means_in known scope) ≡ [] → IsScoped u.globals ready (typed_expression e (means_in known scope))
  expression_here ready scope s e h = expression_scoped u locals ready (means_in known scope) (meant_here ready scope s) e h

  optional_here : (ready : ℕ → Bool) (scope : Scope) → AreSeen ready locals scope.visible → (o : Option Expression) → optional_faults o (means_in known scope) ≡ [] → IfScoped u.globals ready (optional_of o (means_in known scope))
  optional_here ready scope s o h = optional_scoped u locals ready (means_in known scope) (meant_here ready scope s) o h

  -- a declared local
  initial_fine : (name : Name) (t : TypeName) (c : Bool) (o : Option RightSide) (scope : Scope) (ready : ℕ → Bool) → initial_faults (means_in known scope) name o ≡ [] → AreSeen ready locals scope.visible → length scope.locals < locals → AreFine ready (declared name t c scope).visible (initial_of known name (target_of (length scope.locals) t) (means_in known scope) o)
  initial_fine name t c None scope ready h s below = absurd (cc)
  initial_fine name t c (Some right) scope ready h s below =
      let l : LocalMeaning = record { number = length scope.locals; type_name = t; constant = false } in
      let means = means_in known scope in
      let x = assign_of known name.place (target_of (length scope.locals) t) means right in
      let meant = meant_here ready scope s in record {
        scoped = (assign_scoped u locals result ready known means meant (target_of (length scope.locals) t) name.place name.place right below (local_usable l name.place) h, tt);
        seen = declared_seen (known_behind ready x) locals name t c scope (seen_more ready (known_behind ready x) locals (behind_more ready x) scope.visible s) (assign_learns u locals result ready known means meant l name.place right h) below;
      }

  -- declared locals one after another
  declarators_fine : (t : TypeName) (c : Bool) (ds : List Declarator) (scope : Scope) (ready : ℕ → Bool) → declarators_faults known t c ds scope ≡ [] → AreSeen ready locals scope.visible → length (after_declarators t c ds scope).locals ≤ locals → AreFine ready (after_declarators t c ds scope).visible (declarators_of known t c ds scope)
  declarators_fine t c [] scope ready h s below = none_fine ready scope.visible s
  declarators_fine t c (d ∷ ds) scope ready h s below =
      let next = declared d.name t c scope in
      let one = when (is_declared scope d.name.text) 3 d.name.place in
      let two = initial_faults (means_in known scope) d.name d.initial in
      let three = declarators_faults known t c ds next in
      let rest = back_none one (two ++ three) h in
      let xs = initial_of known d.name (target_of (length scope.locals) t) (means_in known scope) d.initial in
      let g = (grows_declarators t c ds next).count in
      let e = declared_count d.name t c scope in
      let first : AreFine ready next.visible xs = initial_fine d.name t c d.initial scope ready (front_none two three rest) s (omega arith) in
      joined_fine xs (declarators_of known t c ds next) ready next.visible (after_declarators t c ds next).visible first (declarators_fine t c ds next (known_in ready (block xs)) (back_none two three rest) first.seen below)

  -- what stands first in the head of a `for`, and what stands last
  start_fine : (start : Option Start) (scope : Scope) (ready : ℕ → Bool) → start_faults known start scope ≡ [] → AreSeen ready locals scope.visible → length (after_start start scope).locals ≤ locals → AreFine ready (after_start start scope).visible (start_of known start scope)
  start_fine None scope ready h s below = none_fine ready scope.visible s
  start_fine (Some (starts.Local l)) scope ready h s below = declarators_fine l.type_name l.constant l.declarators scope ready h s below
  start_fine (Some (starts.Simple x)) scope ready h s below =
      one_fine (simple_of known (means_in known scope) x) ready scope.visible (simple_scoped u locals result ready known (means_in known scope) (meant_here ready scope s) x h) s

  step_scoped : (step : Option Simple) (scope : Scope) (ready : ℕ → Bool) → step_faults (means_in known scope) step ≡ [] → AreSeen ready locals scope.visible → AllScoped ready (block (step_of known (means_in known scope) step))
  step_scoped None scope ready h s = tt
  step_scoped (Some x) scope ready h s = (simple_scoped u locals result ready known (means_in known scope) (meant_here ready scope s) x h, tt)

  -- a `return` has a value exactly where there is a result
  returned : (r : Option CType) (value : Option Expression) (scope : Scope) (ready : ℕ → Bool) (place : Place) → when (returns_wrongly (is_some r) (is_some value)) 13 place ≡ [] → optional_faults value (means_in known scope) ≡ [] → AreSeen ready locals scope.visible → IfScoped u.globals ready (value_of r value (means_in known scope)) × IsResult r (value_of r value (means_in known scope))
  returned None None scope ready place h g s = (tt, tt)
  returned None (Some e) scope ready place h g s = absurd (cc)
  returned (Some t) None scope ready place h g s = absurd (cc)
  returned (Some t) (Some e) scope ready place h g s =
      (converted_scoped u.globals ready t (typed_expression e (means_in known scope)) (expression_here ready scope s e g), tt)

  -- branches are right
  abbrev AreBranches : (ℕ → Bool) → List PlainBranch → Type 0
  AreBranches ready [] = Unit {0}
  AreBranches ready (b ∷ bs) = IsScoped u.globals ready b.condition × BlockScoped u.globals (IsCallIn u) locals result ready b.block × AreBranches ready bs

  chained_scoped : (ready : ℕ → Bool) (bs : List PlainBranch) (otherwise : PlainBlock) → AreBranches ready bs → AllScoped ready otherwise → AllScoped ready (chained bs otherwise)
  chained_scoped ready [] otherwise f o = o
  chained_scoped ready (b ∷ bs) otherwise f o = ((f.0, f.1, chained_scoped ready bs otherwise f.2 o), tt)

  branched_scoped : (ready : ℕ → Bool) (place : Place) (bs : List PlainBranch) (otherwise : PlainBlock) → AreBranches ready bs → AllScoped ready otherwise → OneScoped ready (branched place bs otherwise)
  branched_scoped ready place [] otherwise f o = o
  branched_scoped ready place (b ∷ bs) otherwise f o = (f.0, f.1, chained_scoped ready bs otherwise f.2 o)

  -- statements, blocks and branches that break no rule are right
  mutual
    statement_fine : (s : WrittenStatement) (scope : Scope) (ready : ℕ → Bool) → statement_faults known (is_some result) s scope ≡ [] → AreSeen ready locals scope.visible → length (after s scope).locals ≤ locals → AreFine ready (after s scope).visible (typed_statement known result s scope)
    statement_fine (w.Empty place) scope ready h s below = none_fine ready scope.visible s
    statement_fine (w.Block place body) scope ready h s below =
        let inner = after_block body (entered scope) in
        one_fine (p.Block place (block (typed_statements known result body (entered scope)))) ready (left scope inner).visible (block_fine body (entered scope) ready h s below).scoped (left_seen ready locals scope inner (grows_block body (entered scope)) s)
    statement_fine (w.Declare place l) scope ready h s below = declarators_fine l.type_name l.constant l.declarators scope ready h s below
    statement_fine (w.Do place x) scope ready h s below =
        one_fine (simple_of known (means_in known scope) x) ready scope.visible (simple_scoped u locals result ready known (means_in known scope) (meant_here ready scope s) x h) s
    statement_fine (w.If place branches otherwise) scope ready h s below =
        let mid = after_branches branches scope in
        let inner = after_block otherwise (entered mid) in
        let one = branches_faults known (is_some result) branches scope in
        let two = block_faults known (is_some result) otherwise (entered mid) in
        let grown = grows_block otherwise (entered mid) in
        let seen = subst (AreSeen ready locals) (sym (branches_visible branches scope)) s in
        let few : length mid.locals ≤ locals = let c = grown.count in omega arith in
        let bs = typed_branches known result branches scope in
        let last = block (typed_statements known result otherwise (entered mid)) in
        one_fine (branched place bs last) ready (left mid inner).visible (branched_scoped ready place bs last (branches_fine branches scope ready (front_none one two h) s few) (block_fine otherwise (entered mid) ready (back_none one two h) seen below).scoped) (left_seen ready locals mid inner grown seen)
    statement_fine (w.While place condition body) scope ready h s below =
        let inner = after_block body (entered scope) in
        let one = expression_faults condition (means_in known scope) in
        let two = block_faults known (is_some result) body (entered scope) in
        one_fine (p.While place (typed_expression condition (means_in known scope)) (block (typed_statements known result body (entered scope)))) ready (left scope inner).visible (expression_here ready scope s condition (front_none one two h), (block_fine body (entered scope) ready (back_none one two h) s below).scoped) (left_seen ready locals scope inner (grows_block body (entered scope)) s)
    statement_fine (w.For place start condition step body) scope ready h s below =
        let outer = entered scope in
        let inner = after_start start outer in
        let last = after_block body (entered inner) in
        let means = means_in known inner in
        let one = start_faults known start outer in
        let two = optional_faults condition means in
        let three = step_faults means step in
        let four = block_faults known (is_some result) body (entered inner) in
        let rest = back_none one (two ++ (three ++ four)) h in
        let rest2 = back_none two (three ++ four) rest in
        let grown = grows_block body (entered inner) in
        let few : length inner.locals ≤ locals = let c = grown.count in omega arith in
        let begun = start_fine start outer ready (front_none one (two ++ (three ++ four)) h) s few in
        let set = known_in ready (block (start_of known start outer)) in
        one_fine (p.For place (block (start_of known start outer)) (optional_of condition means) (block (step_of known means step)) (block (typed_statements known result body (entered inner)))) ready (left scope (left inner last)).visible (
          begun.scoped,
          optional_here set inner begun.seen condition (front_none two (three ++ four) rest),
          step_scoped step inner set (front_none three four rest2) begun.seen,
          (block_fine body (entered inner) set (back_none three four rest2) begun.seen below).scoped,
        ) (left_seen ready locals scope (left inner last) (grows_on (grows_start start outer) (grows_left inner last grown)) s)
    statement_fine (w.Return place value) scope ready h s below =
        let one = when (returns_wrongly (is_some result) (is_some value)) 13 place in
        let two = optional_faults value (means_in known scope) in
        one_fine (p.Return place (value_of result value (means_in known scope))) ready scope.visible (returned result value scope ready place (front_none one two h) (back_none one two h) s) s

    pub block_fine : (body : WrittenBlock) (scope : Scope) (ready : ℕ → Bool) → block_faults known (is_some result) body scope ≡ [] → AreSeen ready locals scope.visible → length (after_block body scope).locals ≤ locals → AreFine ready (after_block body scope).visible (typed_statements known result body scope)
    block_fine w.NoStatement scope ready h s below = none_fine ready scope.visible s
    block_fine (w.StatementThen x xs) scope ready h s below =
        let next = after x scope in
        let one = statement_faults known (is_some result) x scope in
        let two = block_faults known (is_some result) xs next in
        let front = typed_statement known result x scope in
        let few : length next.locals ≤ locals = let c = (grows_block xs next).count in omega arith in
        let first = statement_fine x scope ready (front_none one two h) s few in
        joined_fine front (typed_statements known result xs next) ready next.visible (after_block xs next).visible first (block_fine xs next (known_in ready (block front)) (back_none one two h) first.seen below)

    branches_fine : (bs : WrittenBranches) (scope : Scope) (ready : ℕ → Bool) → branches_faults known (is_some result) bs scope ≡ [] → AreSeen ready locals scope.visible → length (after_branches bs scope).locals ≤ locals → AreBranches ready (typed_branches known result bs scope)
    branches_fine NoBranch scope ready h s below = tt
    branches_fine (BranchThen place condition body more) scope ready h s below =
        let inner = after_block body (entered scope) in
        let next = left scope inner in
        let one = expression_faults condition (means_in known scope) in
        let two = block_faults known (is_some result) body (entered scope) in
        let three = branches_faults known (is_some result) more next in
        let rest = back_none one (two ++ three) h in
        let few : length inner.locals ≤ locals = let c = (grows_branches more next).count in omega arith in (
          expression_here ready scope s condition (front_none one (two ++ three) h),
          (block_fine body (entered scope) ready (front_none two three rest) s few).scoped,
          branches_fine more next ready (back_none two three rest) (left_seen ready locals scope inner (grows_block body (entered scope)) s) below,
        )
