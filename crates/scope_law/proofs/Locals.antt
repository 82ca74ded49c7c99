-- The locals that can be seen at a place are set, and how scopes grow.
use Rattle.std.proofs.Common.{◌≡◌, ℕ, ◌+◌, ◌<◌, ◌≤◌, ◌==◌, Bool, true, false, if◌then◌else◌, List, [], ◌∷◌, ◌++◌, length, take, Option, Some, None, fold, IsTrue, refl, sym, ap, ◌∙◌, subst, arith, append_assoc, append-nil, length-append}
use Rattle.std.specs.List.{AllByRecursion}
use Rattle.std.specs.Option.{option_map}
use Rattle.std.proofs.lemmas.Bool.{or_left, or_right, eq-eqb}
use Rattle.std.proofs.Math.Seq.{take-append_seam}
use Rattle.chk_base.specs.declared.text.Name.{Name}
use Rattle.c_unit.specs.declared.expression.TypeName.{TypeName}
use Rattle.c_unit.specs.declared.statement.Declarator.{Declarator}
use Rattle.c_unit.specs.declared.statement.Start.{Start}
use Rattle.c_unit.specs.declared.statement.Start.TheVariants as starts
use Rattle.c_unit.specs.declared.unit.Parameter.{Parameter}
use Rattle.c_rules.specs.declared.meaning.LocalMeaning.{LocalMeaning}
use Rattle.c_rules.specs.declared.meaning.Meaning.TheVariants as m
use Rattle.c_rules.specs.Meanings.{or_else, or_nothing}
use Rattle.c_rules.specs.Files.{Known, known_meaning, meaning}
use Rattle.c_rules.specs.Scopes.{Visible, Scope, is_named, nearer, local_named, declared, entered, left}
use Rattle.c_rules.specs.StatementRules.{means_in, after_declarators, after_start, after, after_block, after_branches}
use Rattle.c_rules.specs.UnitRules.{after_parameters}
use Rattle.c_rules.specs.Written.{WrittenStatement, Empty, Block, Declare, Do, If, While, For, Return, WrittenBlock, NoStatement, StatementThen, WrittenBranches, NoBranch, BranchThen}
use Rattle.typed_unit.specs.declared.typed.Taker.{Taker}
use Rattle.typed_unit.specs.Plain.{PlainStatement, PlainBlock, PlainUnit}
use Rattle.typed_unit.specs.Plain as p
use Rattle.lower_law.specs.FitsBody.{learn}
use Rattle.lower_law.specs.Scoped.{learn_taken, known_behind}
use Rattle.scope_law.proofs.Meant.{IsAbroad, IsMeant, meant_abroad}

-- what is set stays set
abbrev pub IsWithin : (ℕ → Bool) → (ℕ → Bool) → Type 0
IsWithin some more = (i : ℕ) → IsTrue (some i) → IsTrue (more i)

pub learn_same : (ready : ℕ → Bool) (n : ℕ) → IsTrue (learn ready n n)
learn_same ready n = or_left (n == n) (ready n) (eq-eqb n n refl)

learn_more : (ready : ℕ → Bool) (n : ℕ) → IsWithin ready (learn ready n)
learn_more ready n i h = or_right (i == n) (ready i) h

taken_more : (ready : ℕ → Bool) (t : Option Taker) → IsWithin ready (learn_taken ready t)
taken_more ready None i h = h
taken_more ready (Some t) i h = learn_more ready t.local i h

pub behind_more : (ready : ℕ → Bool) (s : PlainStatement) → IsWithin ready (known_behind ready s)
behind_more ready (p.Set place l v) i h = learn_more ready l i h
behind_more ready (p.Input place t) i h = learn_more ready t.local i h
behind_more ready (p.Call place name f args t) i h = taken_more ready t i h
behind_more ready (p.Write place g v) i h = h
behind_more ready (p.WriteElement place g len k v) i h = h
behind_more ready (p.Serve place service at) i h = h
behind_more ready (p.Assert place q) i h = h
behind_more ready (p.If place q on off) i h = h
behind_more ready (p.While place q body) i h = h
behind_more ready (p.For place start q step body) i h = h
behind_more ready (p.Return place v) i h = h
behind_more ready (p.Block place body) i h = h

-- a local that can be seen is one of so many, and set
abbrev pub IsSeen : (ℕ → Bool) → ℕ → LocalMeaning → Type 0
IsSeen ready locals l = IsTrue (ready l.number) × (l.number < locals)

-- so are all that can be seen
abbrev pub AreSeen : (ℕ → Bool) → ℕ → List Visible → Type 0
AreSeen ready locals vs = AllByRecursion (λ v. IsSeen ready locals v.local) vs

pub seen_more : (some more : ℕ → Bool) (locals : ℕ) → IsWithin some more → (vs : List Visible) → AreSeen some locals vs → AreSeen more locals vs
seen_more some more locals w [] s = tt
seen_more some more locals w (v ∷ vs) s = ((w v.local.number s.0.0, s.0.1), seen_more some more locals w vs s.1)

seen_append : (ready : ℕ → Bool) (locals : ℕ) (vs : List Visible) (v : Visible) → AreSeen ready locals vs → IsSeen ready locals v.local → AreSeen ready locals (vs ++ v ∷ [])
seen_append ready locals [] v s h = (h, tt)
seen_append ready locals (w ∷ ws) v s h = (s.0, seen_append ready locals ws v s.1 h)

-- one more local that is set
pub declared_seen : (ready : ℕ → Bool) (locals : ℕ) (name : Name) (t : TypeName) (c : Bool) (scope : Scope) → AreSeen ready locals scope.visible → IsTrue (ready (length scope.locals)) → length scope.locals < locals → AreSeen ready locals (declared name t c scope).visible
declared_seen ready locals name t c scope s h l =
    seen_append ready locals scope.visible (record { name = name.text; local = record { number = length scope.locals; type_name = t; constant = c } }) s (h, l)

-- the local that a name means is one of them
abbrev IfSeen : (ℕ → Bool) → ℕ → Option LocalMeaning → Type 0
IfSeen ready locals None = Unit {0}
IfSeen ready locals (Some l) = IsSeen ready locals l

nearer_seen : (ready : ℕ → Bool) (locals : ℕ) (b : Bool) (l : LocalMeaning) (found : Option LocalMeaning) → IfSeen ready locals found → IsSeen ready locals l → IfSeen ready locals (if b then Some l else found)
nearer_seen ready locals true l found f s = s
nearer_seen ready locals false l found f s = f

nearest_seen : (ready : ℕ → Bool) (locals : ℕ) (name : List ℕ) (vs : List Visible) (found : Option LocalMeaning) → IfSeen ready locals found → AreSeen ready locals vs → IfSeen ready locals (fold (nearer name) found vs)
nearest_seen ready locals name [] found f s = f
nearest_seen ready locals name (v ∷ vs) found f s =
    nearest_seen ready locals name vs (nearer name found v) (nearer_seen ready locals (is_named name v) v.local found f s.0) s.1

-- what names mean in a scope whose locals are set
pub meant_in : (u : PlainUnit) (known : Known) → ((name : List ℕ) → IsAbroad u (known_meaning known name)) → (locals : ℕ) (ready : ℕ → Bool) (scope : Scope) → AreSeen ready locals scope.visible → (name : List ℕ) → IsMeant u locals ready (means_in known scope name)
unfolding meaning
meant_in u known abroad locals ready scope s name = by (local_named scope.visible name) (nearest_seen ready locals name scope.visible None tt s)
  where
    by : (o : Option LocalMeaning) → IfSeen ready locals o → IsMeant u locals ready (or_nothing (or_else (option_map m.Local o) (Some (known_meaning known name))))
    by None h = meant_abroad u locals ready (known_meaning known name) (abroad name)
    by (Some l) h = h

-- a scope later in a body: it has no fewer locals, and all that can be seen at the earlier place
pub record Grows (a b : Scope) : Type 0 where
  pub count : length a.locals ≤ length b.locals
  pub more : List Visible
  pub is : b.visible ≡ a.visible ++ more

grows_here : (a : Scope) → Grows a a
grows_here a = record { count = omega arith; more = []; is = sym (append-nil a.visible) }

pub grows_on : {a b c : Scope} → Grows a b → Grows b c → Grows a c
grows_on {a} {b} {c} f g = record {
  count = let x = f.count in let y = g.count in omega arith;
  more = f.more ++ g.more;
  is = g.is ∙ (ap (λ vs. vs ++ g.more) f.is ∙ append_assoc a.visible f.more g.more);
}

-- one more local
pub declared_count : (name : Name) (t : TypeName) (c : Bool) (scope : Scope) → length (declared name t c scope).locals ≡ length scope.locals + 1
declared_count name t c scope = length-append scope.locals (record { name = name; type_name = t } ∷ [])

grows_declared : (name : Name) (t : TypeName) (c : Bool) (scope : Scope) → Grows scope (declared name t c scope)
grows_declared name t c scope = record {
  count = let e = declared_count name t c scope in omega arith;
  more = record { name = name.text; local = record { number = length scope.locals; type_name = t; constant = c } } ∷ [];
  is = refl;
}

-- behind a block what can be seen is what could be seen before it
pub left_visible : (a inner : Scope) → Grows (entered a) inner → (left a inner).visible ≡ a.visible
left_visible a inner g = ap (take (length a.visible)) g.is ∙ take-append_seam a.visible g.more

pub grows_left : (a inner : Scope) → Grows (entered a) inner → Grows a (left a inner)
grows_left a inner g = record { count = g.count; more = []; is = left_visible a inner g ∙ sym (append-nil a.visible) }

pub left_seen : (ready : ℕ → Bool) (locals : ℕ) (a inner : Scope) → Grows (entered a) inner → AreSeen ready locals a.visible → AreSeen ready locals (left a inner).visible
left_seen ready locals a inner g s = subst (AreSeen ready locals) (sym (left_visible a inner g)) s

pub grows_declarators : (t : TypeName) (c : Bool) (ds : List Declarator) (scope : Scope) → Grows scope (after_declarators t c ds scope)
grows_declarators t c [] scope = grows_here scope
grows_declarators t c (d ∷ ds) scope = grows_on (grows_declared d.name t c scope) (grows_declarators t c ds (declared d.name t c scope))

pub grows_start : (start : Option Start) (scope : Scope) → Grows scope (after_start start scope)
grows_start None scope = grows_here scope
grows_start (Some (starts.Local l)) scope = grows_declarators l.type_name l.constant l.declarators scope
grows_start (Some (starts.Simple s)) scope = grows_here scope

-- every statement lets its scope grow
mutual
  grows_one : (s : WrittenStatement) (scope : Scope) → Grows scope (after s scope)
  grows_one (Empty place) scope = grows_here scope
  grows_one (Block place body) scope = grows_left scope (after_block body (entered scope)) (grows_block body (entered scope))
  grows_one (Declare place l) scope = grows_declarators l.type_name l.constant l.declarators scope
  grows_one (Do place simple) scope = grows_here scope
  grows_one (If place branches otherwise) scope =
      let mid = after_branches branches scope in
      grows_on (grows_branches branches scope) (grows_left mid (after_block otherwise (entered mid)) (grows_block otherwise (entered mid)))
  grows_one (While place condition body) scope = grows_left scope (after_block body (entered scope)) (grows_block body (entered scope))
  grows_one (For place start condition step body) scope =
      let inner = after_start start (entered scope) in
      let last = after_block body (entered inner) in
      grows_left scope (left inner last) (grows_on (grows_start start (entered scope)) (grows_left inner last (grows_block body (entered inner))))
  grows_one (Return place value) scope = grows_here scope

  pub grows_block : (body : WrittenBlock) (scope : Scope) → Grows scope (after_block body scope)
  grows_block NoStatement scope = grows_here scope
  grows_block (StatementThen s ss) scope = grows_on (grows_one s scope) (grows_block ss (after s scope))

  pub grows_branches : (bs : WrittenBranches) (scope : Scope) → Grows scope (after_branches bs scope)
  grows_branches NoBranch scope = grows_here scope
  grows_branches (BranchThen place condition body more) scope =
      let inner = after_block body (entered scope) in
      grows_on (grows_left scope inner (grows_block body (entered scope))) (grows_branches more (left scope inner))

-- behind branches what can be seen is what could be seen before them
pub branches_visible : (bs : WrittenBranches) (scope : Scope) → (after_branches bs scope).visible ≡ scope.visible
branches_visible NoBranch scope = refl
branches_visible (BranchThen place condition body more) scope =
    let inner = after_block body (entered scope) in
    branches_visible more (left scope inner) ∙ left_visible scope inner (grows_block body (entered scope))

-- parameters are set
pub parameters_seen : (ready : ℕ → Bool) (locals : ℕ) (ps : List Parameter) (scope : Scope) → ((i : ℕ) → i < length scope.locals + length ps → IsTrue (ready i) × (i < locals)) → AreSeen ready locals scope.visible → AreSeen ready locals (after_parameters ps scope).visible
parameters_seen ready locals [] scope h s = s
parameters_seen ready locals (q ∷ ps) scope h s =
    let here : length scope.locals < length scope.locals + length (q ∷ ps) = omega arith in
    let e = declared_count q.name q.type_name q.constant scope in
    let k = h (length scope.locals) here in
    parameters_seen ready locals ps (declared q.name q.type_name q.constant scope) (λ i lt. h i (omega arith)) (declared_seen ready locals q.name q.type_name q.constant scope s k.0 k.1)

pub parameters_count : (ps : List Parameter) (scope : Scope) → length (after_parameters ps scope).locals ≡ length scope.locals + length ps
parameters_count [] scope = omega arith
parameters_count (q ∷ ps) scope =
    let e = declared_count q.name q.type_name q.constant scope in
    let r = parameters_count ps (declared q.name q.type_name q.constant scope) in
    omega arith
