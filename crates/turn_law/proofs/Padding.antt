-- IsRun and their padding.
use Rattle.std.proofs.Common.{◌≡◌, ◌≢◌, ℕ, suc, zero, ◌+◌, ◌-◌, ◌*◌, ◌<◌, ◌≤◌, Bool, true, false, not, ◌&&◌, ◌||◌, List, [], ◌∷◌, ◌++◌, refl, sym, ◌∙◌, ap, subst, inl, inr, ◌⊎◌, arith, if◌then◌else◌, length, Option, Some, None, ◌==◌, take, get_or}
use Rattle.std.proofs.lemmas.Bool.Decides.{nat_tests}
use Rattle.chk_base.specs.Operators.{truth}
use Rattle.chk_base.specs.declared.word.Width.{Width}
use Rattle.guard_prog.specs.GuardedRun.{PlainAlternative, Program, State, value_in, alternative_with, enabled_of, turn, run, run_on, turn_by, alternatives_at}
use Rattle.turn_law.specs.Padded.{Phase, step, ended, acted, padded_turn, after_turn, path, path_on, trimmed}
use Rattle.turn_law.specs.Unrolled.{AreLabelled}
use Rattle.turn_law.proofs.Taking.{same_number}

-- a run with padding up to so many turns
abbrev pub padded : ℕ → List (ℕ × ℕ) → List (ℕ × ℕ)
padded zero xs = []
padded (suc k) [] = (0, 0) ∷ padded k []
padded (suc k) (x ∷ xs) = x ∷ padded k xs

pub length-padded : (k : ℕ) (xs : List (ℕ × ℕ)) → length (padded k xs) ≡ k
length-padded zero xs = refl
length-padded (suc k) [] = omega (arith, length-padded k [])
length-padded (suc k) (x ∷ xs) = omega (arith, length-padded k xs)

-- a step, by cases: padding, or a turn of an actor
pub record Pads (ph : Phase) (c : ℕ × ℕ) (mid : Phase) : Type 0 where
  pub pair : c ≡ (0, 0)
  pub ends : mid ≡ ended ph

pub record Acts (p : Program) (ph : Phase) (c : ℕ × ℕ) (mid : Phase) : Type 0 where
  pub label : (c.0 == 0) ≡ false
  pub lives : ph.is_over ≡ false
  pub turns : turn p ph.state c ≡ Some mid.state
  pub over : mid.is_over ≡ mid.state.is_failed

pub step_cases : (p : Program) (ph : Phase) (c : ℕ × ℕ) (mid : Phase) → step p ph c ≡ Some mid → Pads ph c mid ⊎ Acts p ph c mid
step_cases p ph c mid e = go (c.0 == 0) refl e
  where
    pads : (b : Bool) → (c.0 == 0) ≡ true → (c.1 == 0) ≡ b → (if b then Some (ended ph) else None) ≡ Some mid → Pads ph c mid ⊎ Acts p ph c mid
    pads true f g e = let x = same_number c.0 0 f in let y = same_number c.1 0 g in inl (record { pair = λ i. (x i, y i); ends = cc })
    pads false f g e = absurd (cc)

    turned : (o : Option State) → (c.0 == 0) ≡ false → ph.is_over ≡ false → turn p ph.state c ≡ o → after_turn o ≡ Some mid → Pads ph c mid ⊎ Acts p ph c mid
    turned None f g h e = absurd (cc)
    turned (Some s) f g h e =
        let k : record { state = s; is_over = s.is_failed } ≡ mid = cc in
        inr (record { label = f; lives = g; turns = h ∙ ap {B = Option State} (λ q. Some q.state) k; over = sym (ap (λ q. q.is_over) k) ∙ ap (λ q. q.state.is_failed) k })

    acts : (b : Bool) → (c.0 == 0) ≡ false → ph.is_over ≡ b → (if b then None else after_turn (turn p ph.state c)) ≡ Some mid → Pads ph c mid ⊎ Acts p ph c mid
    acts true f g e = absurd (cc)
    acts false f g e = turned (turn p ph.state c) f g refl e

    go : (b : Bool) → (c.0 == 0) ≡ b → (if b then padded_turn ph c.1 else acted p ph c) ≡ Some mid → Pads ph c mid ⊎ Acts p ph c mid
    go true f e = pads (c.1 == 0) f refl e
    go false f e = acts ph.is_over f refl e

-- the first step of a path
pub record First (p : Program) (ph : Phase) (c : ℕ × ℕ) (cs : List (ℕ × ℕ)) (after : Phase) : Type 0 where
  pub mid : Phase
  pub steps : step p ph c ≡ Some mid
  pub rest : path p cs mid ≡ Some after

pub first : (p : Program) (ph : Phase) (c : ℕ × ℕ) (cs : List (ℕ × ℕ)) (after : Phase) → path p (c ∷ cs) ph ≡ Some after → First p ph c cs after
first p ph c cs after e = go (step p ph c) refl e
  where
    go : (o : Option Phase) → step p ph c ≡ o → path_on (path p cs) o ≡ Some after → First p ph c cs after
    go None f e = absurd (cc)
    go (Some mid) f e = record { mid = mid; steps = f; rest = e }

-- after the end nothing but padding comes
pub record Stays (ph : Phase) (cs : List (ℕ × ℕ)) (after : Phase) : Type 0 where
  pub pads : cs ≡ padded (length cs) []
  pub same : after.state ≡ ph.state

pub stays : (p : Program) (cs : List (ℕ × ℕ)) (ph after : Phase) → ph.is_over ≡ true → path p cs ph ≡ Some after → Stays ph cs after
stays p [] ph after o e = record { pads = refl; same = let f : ph ≡ after = cc in sym (ap (λ q. q.state) f) }
stays p (c ∷ cs) ph after o e =
    let f = first p ph c cs after e in
    go f (step_cases p ph c f.mid f.steps) (λ h. stays p cs f.mid after h f.rest)
  where
    go : (f : First p ph c cs after) → Pads ph c f.mid ⊎ Acts p ph c f.mid → (f.mid.is_over ≡ true → Stays f.mid cs after) → Stays ph (c ∷ cs) after
    go f (inl k) h =
        let s = h (ap (λ q. q.is_over) k.ends) in
        record { pads = let x = k.pair in let y = s.pads in cc; same = s.same ∙ ap (λ q. q.state) k.ends }
    go f (inr k) h = absurd (let x = k.lives in cc)

-- a path is a run with padding
pub record IsPadded (p : Program) (cs : List (ℕ × ℕ)) (ph after : Phase) : Type 0 where
  pub pads : cs ≡ padded (length cs) (trimmed cs)
  pub runs : run p (trimmed cs) ph.state ≡ Some after.state

pub is_padded : (p : Program) (cs : List (ℕ × ℕ)) (ph after : Phase) → path p cs ph ≡ Some after → IsPadded p cs ph after
is_padded p [] ph after e = record { pads = refl; runs = let f : ph ≡ after = cc in ap {B = Option State} (λ q. Some q.state) f }
is_padded p (c ∷ cs) ph after e =
    let f = first p ph c cs after e in
    go f (step_cases p ph c f.mid f.steps) (is_padded p cs f.mid after f.rest)
  where
    go : (f : First p ph c cs after) → Pads ph c f.mid ⊎ Acts p ph c f.mid → IsPadded p cs f.mid after → IsPadded p (c ∷ cs) ph after
    go f (inl k) h =
        let s = stays p cs f.mid after (ap (λ q. q.is_over) k.ends) f.rest in
        let x = k.pair in
        let z : (c.0 == 0) ≡ true = ap (λ q. q.0 == 0) x in
        record {
          pads = rw z (let y = s.pads in cc);
          runs = rw z (ap {B = Option State} (λ q. Some q) (sym (s.same ∙ ap (λ q. q.state) k.ends)));
        }
    go f (inr k) h =
        record {
          pads = rw k.label (ap (λ q. c ∷ q) h.pads);
          runs = rw (k.label, k.turns) h.runs;
        }

-- ---- from a run to a path
closed : (width : ℕ → Width) (cells : ℕ → ℕ) (l : ℕ) (as' : List PlainAlternative) → alternative_with l as' ≡ None → alternative_with l (enabled_of width cells as') ≡ None
closed width cells l [] e = refl
closed width cells l (a ∷ as') e = go (a.label == l) refl e (truth (value_in width cells a.guard)) (closed width cells l as')
  where
    go : (q : Bool) → (a.label == l) ≡ q → (if q then Some a else alternative_with l as') ≡ None → (b : Bool) → (alternative_with l as' ≡ None → alternative_with l (enabled_of width cells as') ≡ None) → alternative_with l (if b then a ∷ enabled_of width cells as' else enabled_of width cells as') ≡ None
    go true f e b h = absurd (cc)
    go false f e true h = rw f (h e)
    go false f e false h = h e

-- a turn isn't of label 0, and none follows a failure
pub record IsTurn (s : State) (c : ℕ × ℕ) : Type 0 where
  pub label : (c.0 == 0) ≡ false
  pub unfailed : s.is_failed ≡ false

pub is_turn : (p : Program) → AreLabelled p → (s after : State) (c : ℕ × ℕ) → turn p s c ≡ Some after → IsTurn s c
is_turn p k s after c e = go s.is_failed refl (c.0 == 0) refl e
  where
    none : (stack : List ℕ) → alternative_with 0 (enabled_of p.width s.cells (alternatives_at p stack)) ≡ None
    none [] = refl
    none (t ∷ ts) = closed p.width s.cells 0 (p.points t) (k.none t)

    go : (b : Bool) → s.is_failed ≡ b → (z : Bool) → (c.0 == 0) ≡ z → (if b then None else turn_by p s c.1 (alternative_with c.0 (enabled_of p.width s.cells (alternatives_at p s.stack)))) ≡ Some after → IsTurn s c
    go true f z g e = absurd (cc)
    go false f true g e =
        let n : alternative_with c.0 (enabled_of p.width s.cells (alternatives_at p s.stack)) ≡ None = ap (λ l. alternative_with l (enabled_of p.width s.cells (alternatives_at p s.stack))) (same_number c.0 0 g) ∙ none s.stack in
        absurd (let x : None ≡ Some after = ap (turn_by p s c.1) (sym n) ∙ e in cc)
    go false f false g e = record { label = g; unfailed = f }

pub record Padable (p : Program) (k : ℕ) (xs : List (ℕ × ℕ)) (ph : Phase) : Type 0 where
  pub after : Phase
  pub goes : path p (padded k xs) ph ≡ Some after
  pub trims : trimmed (padded k xs) ≡ xs

pub pads_only : (p : Program) (k : ℕ) (ph : Phase) → Padable p k [] ph
pads_only p zero ph = record { after = ph; goes = refl; trims = refl }
pads_only p (suc k) ph = let h = pads_only p k (ended ph) in record { after = h.after; goes = h.goes; trims = refl }

pub padable : (p : Program) → AreLabelled p → (k : ℕ) (xs : List (ℕ × ℕ)) (ph : Phase) (s : State) → length xs ≤ k → ph.is_over ≡ ph.state.is_failed → run p xs ph.state ≡ Some s → Padable p k xs ph
padable p l k [] ph s h o e = pads_only p k ph
padable p l zero (x ∷ xs) ph s h o e = absurd (omega (arith, h))
padable p l (suc k) (x ∷ xs) ph s h o e = go (turn p ph.state x) refl e (λ q f. padable p l k xs q s (omega (arith, h)) f)
  where
    go : (t : Option State) → turn p ph.state x ≡ t → run_on (run p xs) t ≡ Some s → ((q : Phase) → q.is_over ≡ q.state.is_failed → run p xs q.state ≡ Some s → Padable p k xs q) → Padable p (suc k) (x ∷ xs) ph
    go None f e r = absurd (cc)
    go (Some st) f e r =
        let k = is_turn p l ph.state st x f in
        let i = r (record { state = st; is_over = st.is_failed }) refl e in
        let z : ph.is_over ≡ false = o ∙ k.unfailed in
        record {
          after = i.after;
          goes = rw (k.label, z, f) i.goes;
          trims = rw k.label (ap (λ q. x ∷ q) i.trims);
        }
