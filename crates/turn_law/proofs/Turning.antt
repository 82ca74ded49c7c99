-- One turn over truth values: what its demands allow is what the program does.
use Rattle.std.proofs.Common.{◌≡◌, ◌≢◌, ℕ, suc, zero, ◌+◌, ◌-◌, ◌*◌, ◌<◌, ◌≤◌, Bool, true, false, not, ◌&&◌, ◌||◌, List, [], ◌∷◌, ◌++◌, refl, sym, ◌∙◌, ap, subst, inl, inr, ◌⊎◌, arith, if◌then◌else◌, length, Option, Some, None, ◌==◌, nat_le, nat_lt, ◌%◌, unwrap_or}
use Rattle.std.proofs.Math.Nat.{mod-eq_of_lt}
use Rattle.std.proofs.Math.Path.{fun_ext}
use Rattle.std.proofs.lemmas.Bool.{and_parts, and_from, cases_Bool, cases_eq}
use Rattle.std.proofs.lemmas.Bool.Decides.{nat_tests}
use Rattle.chk_base.specs.Operators.{truth}
use Rattle.chk_base.specs.Widths.{limit_of}
use Rattle.chk_base.specs.declared.word.Width.{Width}
use Rattle.guard_prog.specs.declared.draft.Control.{Control}
use Rattle.guard_prog.specs.GuardedRun.{PlainAlternative, Program, State, value_in, alternative_with, enabled_of, cells_after, takes_word, is_fail, stack_after, turn, turn_by, alternatives_at, state_after, value_set}
use Rattle.chk_base.specs.Term.{Term}
use Rattle.turn_law.specs.Padded.{Phase, step, ended, acted, padded_turn, after_turn}
use Rattle.turn_law.specs.Sight.{Sight, Pick, Offer, IsAt, IsDark, Below, MeansTop, MeansStack, Means, Reads, any, is_all, value_after, AllTaken, leads_to, is_push, is_pop, is_end, leaves, popped, one_deeper, taken_any, next_at, next_depth, next_slots, next_cell, next_of, next, open_offers, set_of, set_to, AllowsOf, Allows, choices_at, Apart, IsOffered}
use Rattle.turn_law.proofs.Taking.{Untaken, untaken_dark, untaken_unlabelled, on, value_on, Hits, hits_none, hits_labelled, opened, opened_offers, same_number}
use Rattle.turn_law.proofs.Moving.{at_by, depth_by, slots_by, moved_sight, same_depth, Moves, moves, room_was}

-- ---- labels
pub reads_dark : (x : Pick) (c : ℕ × ℕ) → Reads x c → (c.0 == 0) ≡ true → IsDark x.label
reads_dark x c r e =
    let f = same_number c.0 0 e in
    record { none = λ i. r.label i ∙ (rw f (go (i == 0))) }
  where
    go : (b : Bool) → (not b && b) ≡ false
    go true = refl
    go false = refl

pub reads_at : (x : Pick) (c : ℕ × ℕ) → Reads x c → (c.0 == 0) ≡ false → IsAt x.label c.0
reads_at x c r e = record { only = λ i. r.label i ∙ go i (i == 0) refl }
  where
    go : (i : ℕ) (b : Bool) → (i == 0) ≡ b → (not b && (i == c.0)) ≡ (i == c.0)
    go i true f = let g = same_number i 0 f in rw g (grind (arith, nat_tests, e))
    go i false f = refl

-- ---- what is seen after the alternative that is taken
sight_same : (at at' depth depth' : ℕ → Bool) (slots slots' : ℕ → ℕ → Bool) (cells : ℕ → ℕ) → at ≡ at' → depth ≡ depth' → slots ≡ slots' → let a : Sight = record { at = at; depth = depth; slots = slots; cells = cells } in let b : Sight = record { at = at'; depth = depth'; slots = slots'; cells = cells } in a ≡ b
sight_same at at' depth depth' slots slots' cells e f g = λ i. record { at = e i; depth = f i; slots = g i; cells = cells }

pub next_is : (p : Program) (os : List Offer) (s : Sight) (x : Pick) (a : PlainAlternative) → Hits s.at x.label os (Some a) → next_of p os s x ≡ moved_sight p.depth s (next_cell p os s x) a.control
next_is p os s x a h =
    sight_same (next_at p os s x) (at_by p.depth s a.control) (next_depth p os s x) (depth_by p.depth s a.control) (next_slots p os s x) (slots_by p.depth s a.control) (next_cell p os s x)
    (fun_ext (λ i. at i))
    (fun_ext (λ d. depth d))
    (fun_ext (λ d. fun_ext (λ i. slots d i)))
  where
    at : (i : ℕ) → next_at p os s x i ≡ at_by p.depth s a.control i
    at i = rw (h.any (λ a. leads_to i a.control), h.any (λ a. is_pop a.control)) refl

    depth : (d : ℕ) → next_depth p os s x d ≡ depth_by p.depth s a.control d
    depth d = rw (h.any (λ a. is_push a.control), h.any (λ a. is_pop a.control)) refl

    slots : (d i : ℕ) → next_slots p os s x d i ≡ slots_by p.depth s a.control d i
    slots d i = rw (h.any (λ a. is_push a.control), h.any (λ a. leaves i a.control)) refl

pub turn_is : (p : Program) (cells : ℕ → ℕ) (t : ℕ) (ts after : List ℕ) (c : ℕ × ℕ) (a : PlainAlternative) → alternative_with c.0 (enabled_of p.width cells (p.points t)) ≡ Some a → takes_word a.input c.1 ≡ true → stack_after p.depth a.control (t ∷ ts) ≡ Some after → turn p (record { cells = cells; stack = t ∷ ts; is_failed = false }) c ≡ Some (record { cells = if is_fail a.control then cells else cells_after p.width cells c.1 a.input a.sets; stack = after; is_failed = is_fail a.control })
turn_is p cells t ts after c a e f g = rw (e, f, g) refl

-- a cell that is set or kept
small_rest : (word limit : ℕ) → word < limit → word % limit ≡ word
small_rest word limit h = mod-eq_of_lt h

pub set_is : (width : ℕ → Width) (cells : ℕ → ℕ) (word : ℕ) (input : Option Width) (sets : List (ℕ × Term)) (q : ℕ) → takes_word input word ≡ true → unwrap_or (set_of width cells word input sets q) (cells q) ≡ cells_after width cells word input sets q
set_is width cells word None sets q t = refl
set_is width cells word (Some w) [] q t = refl
set_is width cells word (Some w) (s ∷ ss) q t =
    let h : word < limit_of w = grind (arith, nat_tests, t) in
    rw (small_rest word (limit_of w) h) (go (s.0 == q))
  where
    go : (b : Bool) → unwrap_or (if b then Some word else value_set width cells ss q) (cells q) ≡ (if b then word else unwrap_or (value_set width cells ss q) (cells q))
    go true = refl
    go false = refl

-- ---- a turn that is allowed
-- what is shown where these alternatives have guards that aren't 0
pub record ShownOf (p : Program) (es : List Offer) (s : Sight) (x : Pick) (ph : Phase) (c : ℕ × ℕ) : Type 0 where
  pub after : Phase
  pub stepped : step p ph c ≡ Some after
  pub means : Means p (next_of p es s x) after
  pub failure : (ph.state.is_failed || any s.at x.label (λ a. is_fail a.control) es) ≡ after.state.is_failed
  pub unfailed : (c.0 == 0) ≡ true → any s.at x.label (λ a. is_fail a.control) es ≡ false

abbrev pub Shown : Program → List Offer → Sight → Pick → Phase → ℕ × ℕ → Type 0
Shown p os s x ph c = ShownOf p (open_offers p os s) s x ph c

abbrev pub phase : (ℕ → ℕ) → List ℕ → Bool → Bool → Phase
phase cells stack failed over = record { state = record { cells = cells; stack = stack; is_failed = failed }; is_over = over }

not_false : (b : Bool) → not b ≡ false → b ≡ true
not_false true e = refl
not_false false e = absurd (cc)

or_false : (a : Bool) → (a || false) ≡ a
or_false true = refl
or_false false = refl

-- the padding
shown_padding : (p : Program) (es : List Offer) (s : Sight) (x : Pick) (c : ℕ × ℕ) (cells : ℕ → ℕ) (t : ℕ) (ts : List ℕ) (failed over : Bool) → MeansStack p.depth s (t ∷ ts) over → Reads x c → (c.0 == 0) ≡ true → AllowsOf p es s x → ShownOf p es s x (phase cells (t ∷ ts) failed over) c
shown_padding p es s x c cells t ts failed over m r e w =
    let u = untaken_unlabelled s.at x.label es (reads_dark x c r e) in
    let z : c.1 ≡ 0 = sym r.word ∙ w.unused (u.any is_all) in
    let k : (c.1 == 0) ≡ true = grind (arith, nat_tests, z) in
    record {
      after = phase cells (t ∷ ts) failed true;
      stepped = rw (e, k) refl;
      means = record {
        stack = (m.0, record { only = λ d. rw (u.any (λ a. is_push a.control), u.any (λ a. is_pop a.control)) ((same_depth p.depth s.depth (length ts) m.0 m.1).only d) }, record { none = λ i. rw (u.any (λ a. leads_to i a.control), u.any (λ a. is_pop a.control)) refl });
        cells = λ f. absurd (cc);
        unfailed = λ f. absurd (cc);
      };
      failure = rw (u.any (λ a. is_fail a.control)) (or_false failed);
      unfailed = λ g. u.any (λ a. is_fail a.control);
    }

-- an alternative
shown_taken : (p : Program) (es : List Offer) (s : Sight) (x : Pick) (c : ℕ × ℕ) (t : ℕ) (ts : List ℕ) (a : PlainAlternative) → MeansStack p.depth s (t ∷ ts) false → Reads x c → (c.0 == 0) ≡ false → AllowsOf p es s x → alternative_with c.0 (enabled_of p.width s.cells (p.points t)) ≡ Some a → Hits s.at x.label es (Some a) → ShownOf p es s x (phase s.cells (t ∷ ts) false false) c
shown_taken p es s x c t ts a m r e w l h =
    let k = not_false (takes_word a.input x.word) (sym (h.any (λ a. not (takes_word a.input x.word))) ∙ w.word.none) in
    let room : (is_push a.control && s.depth p.depth) ≡ false = ap (λ b. b && s.depth p.depth) (sym (h.any (λ a. is_push a.control))) ∙ w.room in
    let ends : (is_end a.control && s.depth 0) ≡ false = ap (λ b. b && s.depth 0) (sym (h.any (λ a. is_end a.control))) ∙ w.ends in
    let mv = moves p.depth s (next_cell p es s x) a.control t ts m.0 m.1 m.2.1 room ends in
    let tn = turn_is p s.cells t ts mv.after c a l (ap (takes_word a.input) (sym r.word) ∙ k) mv.is in
    record {
      after = phase (if is_fail a.control then s.cells else cells_after p.width s.cells c.1 a.input a.sets) mv.after (is_fail a.control) (is_fail a.control);
      stepped = rw e (ap after_turn tn);
      means = record {
        stack = subst (λ n. MeansStack p.depth n mv.after (is_fail a.control)) (sym (next_is p es s x a h)) mv.means;
        cells = λ f q. h.value (set_to p s x q) (s.cells q) ∙ set_is p.width s.cells x.word a.input a.sets q k ∙ rw (f, r.word) refl;
        unfailed = λ f. f;
      };
      failure = h.any (λ a. is_fail a.control);
      unfailed = λ g. absurd (cc);
    }

-- the alternatives of the top point that the guards leave
pub hits_open : (p : Program) (os : List Offer) (s : Sight) (label : ℕ → Bool) (t l : ℕ) → IsOffered p os → IsAt s.at t → IsAt label l → Hits s.at label (open_offers p os s) (alternative_with l (enabled_of p.width s.cells (p.points t)))
hits_open p os s label t l k a b = hits_labelled (opened p s.cells) s.at label t l (open_offers p os s) (opened_offers p s.cells os k) a b

shown_running : (p : Program) (os : List Offer) (s : Sight) (x : Pick) (c : ℕ × ℕ) (t : ℕ) (ts : List ℕ) → IsOffered p os → MeansStack p.depth s (t ∷ ts) false → Reads x c → (c.0 == 0) ≡ false → Allows p os s x → Shown p os s x (phase s.cells (t ∷ ts) false false) c
shown_running p os s x c t ts k m r e w =
    let la = reads_at x c r e in
    let l : x.label c.0 ≡ true = la.only c.0 ∙ grind (arith, nat_tests) in
    go (alternative_with c.0 (enabled_of p.width s.cells (p.points t))) refl (sym ((hits_open p os s (λ i. i == c.0) t c.0 k m.2.0 (record { only = λ i. refl })).any is_all) ∙ w.offered c.0 l)
  where
    go : (o : Option PlainAlternative) → alternative_with c.0 (enabled_of p.width s.cells (p.points t)) ≡ o → on is_all o ≡ true → Shown p os s x (phase s.cells (t ∷ ts) false false) c
    go None f g = absurd (cc)
    go (Some a) f g = shown_taken p (open_offers p os s) s x c t ts a m r e w f (subst (Hits s.at x.label (open_offers p os s)) f (hits_open p os s x.label t c.0 k m.2.0 (reads_at x c r e)))

shown_over : (p : Program) (es : List Offer) (s : Sight) (x : Pick) (c : ℕ × ℕ) → IsDark s.at → Reads x c → (c.0 == 0) ≡ false → AllowsOf p es s x → ⊥
shown_over p es s x c d r e w =
    let l : x.label c.0 ≡ true = (reads_at x c r e).only c.0 ∙ grind (arith, nat_tests) in
    let u = untaken_dark s.at (λ i. i == c.0) es d in
    let f = u.any is_all in
    let g = w.offered c.0 l in
    cc

shown_parts : (p : Program) (os : List Offer) (s : Sight) (x : Pick) (c : ℕ × ℕ) (cells : ℕ → ℕ) (stack : List ℕ) (failed over zero : Bool) → IsOffered p os → MeansStack p.depth s stack over → (over ≡ false → s.cells ≡ cells) → (over ≡ false → failed ≡ false) → Reads x c → (c.0 == 0) ≡ zero → Allows p os s x → Shown p os s x (phase cells stack failed over) c
shown_parts p os s x c cells [] failed over z k m h f r e w = absurd m
shown_parts p os s x c cells (t ∷ ts) failed over true k m h f r e w = shown_padding p (open_offers p os s) s x c cells t ts failed over m r e w
shown_parts p os s x c cells (t ∷ ts) failed true false k m h f r e w = absurd (shown_over p (open_offers p os s) s x c m.2 r e w)
shown_parts p os s x c cells (t ∷ ts) failed false false k m h f r e w =
    subst (λ b. Shown p os s x (phase cells (t ∷ ts) b false) c) (sym (f refl))
    (subst (λ d. Shown p os s x (phase d (t ∷ ts) false false) c) (h refl) (shown_running p os s x c t ts k m r e w))

-- theorem A: what is allowed is a turn of the program, and what is seen then is the state after it
pub shown : (p : Program) (os : List Offer) (s : Sight) (x : Pick) (c : ℕ × ℕ) (ph : Phase) → IsOffered p os → Means p s ph → Reads x c → Allows p os s x → Shown p os s x ph c
shown p os s x c ph k m r w = shown_parts p os s x c ph.state.cells ph.state.stack ph.state.is_failed ph.is_over (c.0 == 0) k m.stack (λ f. fun_ext (m.cells f)) m.unfailed r refl w

-- ---- a turn of the program is allowed
-- what a turn took
pub record Took (p : Program) (cells : ℕ → ℕ) (t : ℕ) (ts : List ℕ) (c : ℕ × ℕ) : Type 0 where
  pub choice : PlainAlternative
  pub stack : List ℕ
  pub is : alternative_with c.0 (enabled_of p.width cells (p.points t)) ≡ Some choice
  pub word : takes_word choice.input c.1 ≡ true
  pub moves : stack_after p.depth choice.control (t ∷ ts) ≡ Some stack

pub took : (p : Program) (cells : ℕ → ℕ) (t : ℕ) (ts : List ℕ) (c : ℕ × ℕ) (next : Phase) → after_turn (turn p (record { cells = cells; stack = t ∷ ts; is_failed = false }) c) ≡ Some next → Took p cells t ts c
took p cells t ts c next e = first (alternative_with c.0 (enabled_of p.width cells (p.points t))) refl e
  where
    st : State
    st = record { cells = cells; stack = t ∷ ts; is_failed = false }

    third : (a : PlainAlternative) (o : Option (List ℕ)) → stack_after p.depth a.control (t ∷ ts) ≡ o → alternative_with c.0 (enabled_of p.width cells (p.points t)) ≡ Some a → takes_word a.input c.1 ≡ true → after_turn (state_after p (record { cells = cells; stack = t ∷ ts; is_failed = false }) a c.1 o) ≡ Some next → Took p cells t ts c
    third a None g f h e = absurd (cc)
    third a (Some stack) g f h e = record { choice = a; stack = stack; is = f; word = h; moves = g }

    second : (a : PlainAlternative) (b : Bool) → takes_word a.input c.1 ≡ b → alternative_with c.0 (enabled_of p.width cells (p.points t)) ≡ Some a → after_turn (if b then state_after p (record { cells = cells; stack = t ∷ ts; is_failed = false }) a c.1 (stack_after p.depth a.control (t ∷ ts)) else None) ≡ Some next → Took p cells t ts c
    second a false h f e = absurd (cc)
    second a true h f e = third a (stack_after p.depth a.control (t ∷ ts)) refl f h e

    first : (o : Option PlainAlternative) → alternative_with c.0 (enabled_of p.width cells (p.points t)) ≡ o → after_turn (turn_by p (record { cells = cells; stack = t ∷ ts; is_failed = false }) c.1 o) ≡ Some next → Took p cells t ts c
    first None f e = absurd (cc)
    first (Some a) f e = second a (takes_word a.input c.1) refl f e

allowed_padding : (p : Program) (es : List Offer) (s : Sight) (x : Pick) (c : ℕ × ℕ) → Reads x c → (c.0 == 0) ≡ true → c.1 ≡ 0 → AllowsOf p es s x
allowed_padding p es s x c r e z =
    let d = reads_dark x c r e in
    let u = untaken_unlabelled s.at x.label es d in
    record {
      offered = λ l f. absurd (let g = d.none l in cc);
      room = rw (u.any (λ a. is_push a.control)) refl;
      ends = rw (u.any (λ a. is_end a.control)) refl;
      word = record { none = u.any _ };
      unused = λ f. r.word ∙ z;
    }

allowed_taken : (p : Program) (os : List Offer) (s : Sight) (x : Pick) (c : ℕ × ℕ) (t : ℕ) (ts : List ℕ) → IsOffered p os → MeansStack p.depth s (t ∷ ts) false → Reads x c → (c.0 == 0) ≡ false → Took p s.cells t ts c → Allows p os s x
allowed_taken p os s x c t ts k m r e o =
    let la = reads_at x c r e in
    let h : Hits s.at x.label (open_offers p os s) (Some o.choice) = subst (Hits s.at x.label (open_offers p os s)) o.is (hits_open p os s x.label t c.0 k m.2.0 la) in
    let i : Hits s.at (λ i. i == c.0) (open_offers p os s) (Some o.choice) = subst (Hits s.at (λ i. i == c.0) (open_offers p os s)) o.is (hits_open p os s (λ i. i == c.0) t c.0 k m.2.0 (record { only = λ i. refl })) in
    let room = room_was p.depth s o.choice.control t ts o.stack m.1 o.moves in
    let g : takes_word o.choice.input x.word ≡ true = ap (takes_word o.choice.input) r.word ∙ o.word in
    record {
      offered = λ j f.
          let same : j ≡ c.0 = same_number j c.0 (sym (la.only j) ∙ f) in
          ap (λ n. any s.at (λ i. i == n) is_all (open_offers p os s)) same ∙ i.any is_all;
      room = ap (λ b. b && s.depth p.depth) (h.any (λ a. is_push a.control)) ∙ room.0;
      ends = ap (λ b. b && s.depth 0) (h.any (λ a. is_end a.control)) ∙ room.1;
      word = record { none = h.any (λ a. not (takes_word a.input x.word)) ∙ ap not g };
      unused = λ f. absurd (let j : any s.at x.label is_all (open_offers p os s) ≡ true = h.any is_all in cc);
    }

allowed_parts : (p : Program) (os : List Offer) (s : Sight) (x : Pick) (c : ℕ × ℕ) (cells : ℕ → ℕ) (stack : List ℕ) (failed over zero : Bool) (next : Phase) → IsOffered p os → MeansStack p.depth s stack over → (over ≡ false → s.cells ≡ cells) → (over ≡ false → failed ≡ false) → Reads x c → (c.0 == 0) ≡ zero → (if zero then padded_turn (phase cells stack failed over) c.1 else acted p (phase cells stack failed over) c) ≡ Some next → Allows p os s x
allowed_parts p os s x c cells [] failed over z next k m h f r e st = absurd m
allowed_parts p os s x c cells (t ∷ ts) failed over true next k m h f r e st = allowed_padding p (open_offers p os s) s x c r e (go (c.1 == 0) refl st)
  where
    go : (b : Bool) → (c.1 == 0) ≡ b → (if b then Some (ended (phase cells (t ∷ ts) failed over)) else None) ≡ Some next → c.1 ≡ 0
    go true g e = same_number c.1 0 g
    go false g e = absurd (cc)
allowed_parts p os s x c cells (t ∷ ts) failed true false next k m h f r e st = absurd (cc)
allowed_parts p os s x c cells (t ∷ ts) failed false false next k m h f r e st =
    let st' = subst (λ b. acted p (phase cells (t ∷ ts) b false) c ≡ Some next) (f refl) st in
    let st'' = subst (λ d. acted p (phase d (t ∷ ts) false false) c ≡ Some next) (sym (h refl)) st' in
    allowed_taken p os s x c t ts k m r e (took p s.cells t ts c next st'')

-- theorem B: a turn of the program is allowed
pub allowed : (p : Program) (os : List Offer) (s : Sight) (x : Pick) (c : ℕ × ℕ) (ph next : Phase) → IsOffered p os → Means p s ph → Reads x c → step p ph c ≡ Some next → Allows p os s x
allowed p os s x c ph next k m r e = allowed_parts p os s x c ph.state.cells ph.state.stack ph.state.is_failed ph.is_over (c.0 == 0) next k m.stack (λ f. fun_ext (m.cells f)) m.unfailed r refl e
