-- A body that fits its cells has numbers below the bound.
use Rattle.std.proofs.Common.{◌≡◌, ℕ, ◌+◌, ◌-◌, ◌<◌, ◌≤◌, ◌^◌, min, Bool, true, false, ◌||◌, ◌==◌, List, [], ◌∷◌, length, Option, Some, None, IsTrue, refl, subst, arith}
use Rattle.std.proofs.lemmas.Bool.Decides.{nat_tests}
use Rattle.std.specs.Prelude.{slice_get}
use Rattle.chk_base.specs.declared.word.Width.{Width}
use Rattle.lower_law.specs.FitsBody.{FitsEx, FitsAll, learn, learn_into, known_after, FitsInto, FitsSt, FitsBl}
use Rattle.lower_law.specs.Items.{sites_all}
use Rattle.lower_law.specs.Statements.{CellStatement, Set, Write, WriteAt, If, Loop, Assert, Input, Call, Return, Serve, Block, CellBlock, Nil, Cons, questions, room, room_all}
use Rattle.lower_law.specs.Typed.{CType, CellExpr, Number, Local, Global, Element, Binary, Unary, Conjunction, Disjunction, Conditional, Converted}
use Rattle.lower_pieces.specs.declared.tree.FunctionTree.{FunctionTree}
use Rattle.lower_pieces.specs.Acting.{TakenBelow, params_of}
use Rattle.lower_pieces.specs.Firsts.{or_else, first_in, first_thing}
use Rattle.lower_pieces.specs.Fitting.{IfCallFits, OwnFits, Fits, AllFit}
use Rattle.lower_pieces.specs.Pieces.{behind}
use Rattle.lower_pieces.specs.Sized.{sized, sized_all}
use Rattle.lower_pieces.specs.Within.{LocalsBelow, AllBelow, IfBelow}
use Rattle.lower_code.specs.Plans.{CallsFit, AllCallsFit}
use Rattle.lower_code.proofs.Calls.{room_is, room_all_is}

-- the locals that are known are the body's
abbrev pub KnownBelow : ℕ → (ℕ → Bool) → Type 0
KnownBelow n known = (i : ℕ) → IsTrue (known i) → i < n

learn_below : (n at : ℕ) (known : ℕ → Bool) → at < n → KnownBelow n known → KnownBelow n (learn known at)
learn_below n at known h k i t = less (i == at) refl t where
  less : (b : Bool) → (i == at) ≡ b → IsTrue (b || known i) → i < n
  less true e u = grind (arith, nat_tests)
  less false e u = k i u

module _ (width : ℕ → Width) (globals : ℕ) (known : ℕ → Bool) (n m : ℕ) (below : KnownBelow n known) (le : n ≤ m) where
  pub locals_below : (e : CellExpr) → FitsEx width globals known e → LocalsBelow m e
  locals_below (Number k) h = tt
  locals_below (Local at t) h = let k = below at h in omega (arith, k, le)
  locals_below (Global cell t) h = tt
  locals_below (Element cell len t i) h = locals_below i h.1
  locals_below (Binary op s a b) h = (locals_below a h.0, locals_below b h.1)
  locals_below (Unary op s a) h = locals_below a h
  locals_below (Conjunction a b) h = (locals_below a h.0, locals_below b h.1)
  locals_below (Disjunction a b) h = (locals_below a h.0, locals_below b h.1)
  locals_below (Conditional c a b) h = (locals_below c h.0, locals_below a h.1, locals_below b h.2)
  locals_below (Converted t a) h = locals_below a h

  all_below : (qs : List (Option ℕ × CellExpr)) → FitsAll width globals known qs → AllBelow m qs
  all_below [] h = tt
  all_below (q ∷ qs) h = (locals_below q.1 h.0, all_below qs h.1)

module _ (width : ℕ → Width) (globals temp top : ℕ) (rooms : ℕ → ℕ) (FitsCall : ℕ → ℕ → List CellExpr → Option (ℕ × CType) → Type 0) (base locals : ℕ) (gives : Bool)
    (small : top < 2 ^ 16) (order : temp ≤ top) (high : base + locals ≤ temp) where
  abbrev FitsOne : (ℕ → Bool) → ℕ → CellStatement → Type 0
  FitsOne known cell s = FitsSt width globals temp top rooms FitsCall base locals gives known cell s

  abbrev FitsMany : (ℕ → Bool) → ℕ → CellBlock → Type 0
  FitsMany known cell b = FitsBl width globals temp top rooms FitsCall base locals gives known cell b

  asks : (s : CellStatement) (known : ℕ → Bool) (cell : ℕ) → FitsOne known cell s → FitsAll width globals known (questions s)
  asks (Set p at t e) known cell h = (h.0, tt)
  asks (Write p c t e) known cell h = (h.0, tt)
  asks (WriteAt p c len t i e) known cell h = (h.0, (h.1, tt))
  asks (If p c a b) known cell h = (h.0, tt)
  asks (Loop p c x b) known cell h = (h.0, tt)
  asks (Assert p e) known cell h = (h, tt)
  asks (Input p at t) known cell h = tt
  asks (Call p f args into) known cell h = h.0
  asks (Return p e) known cell h = h.0
  asks (Serve p s) known cell h = tt
  asks (Block b) known cell h = tt

  own_below : (s : CellStatement) (known : ℕ → Bool) (cell : ℕ) → KnownBelow locals known → FitsOne known cell s → AllBelow (2 ^ 16 - base) (questions s)
  own_below s known cell k h = all_below width globals known locals (2 ^ 16 - base) k (omega (arith, small, order, high)) (questions s) (asks s known cell h)

  into_below : (known : ℕ → Bool) (into : Option (ℕ × CType)) → KnownBelow locals known → FitsInto width base locals into → KnownBelow locals (learn_into known into)
  into_below known None k h = k
  into_below known (Some a) k h = learn_below locals a.0 known h.0 k

  pub known_next : (s : CellStatement) (known : ℕ → Bool) (cell : ℕ) → KnownBelow locals known → FitsOne known cell s → KnownBelow locals (known_after known s)
  known_next (Set p at t e) known cell k h = learn_below locals at known h.1 k
  known_next (Write p c t e) known cell k h = k
  known_next (WriteAt p c len t i e) known cell k h = k
  known_next (If p c a b) known cell k h = k
  known_next (Loop p c x b) known cell k h = k
  known_next (Assert p e) known cell k h = k
  known_next (Input p at t) known cell k h = learn_below locals at known h.0 k
  known_next (Call p f args into) known cell k h = into_below known into k h.2
  known_next (Return p e) known cell k h = k
  known_next (Serve p s) known cell k h = k
  known_next (Block b) known cell k h = k

  -- a thing, where its points fit
  thing_below : (s : CellStatement) (known : ℕ → Bool) (cell at : ℕ) → KnownBelow locals known → FitsOne known cell s → temp + sites_all (questions s) ≤ top → at + (sites_all (questions s) + 1) < 2 ^ 16
      → IfBelow (2 ^ 16) base temp at (Some s)
  thing_below s known cell at k h q r = (own_below s known cell k h, omega (arith, q, small), omega (arith, r))

  module _ (sizes : ℕ → ℕ) where
    -- the first thing of a block
    mutual
      first_in_below : (s : CellStatement) (known : ℕ → Bool) (cell at : ℕ) → KnownBelow locals known → FitsOne known cell s → temp + sites_all (questions s) ≤ top → at + sized sizes s < 2 ^ 16
          → IfBelow (2 ^ 16) base temp at (first_in s)
      first_in_below (Block b) known cell at k h q r = first_below b known cell at k h r
      first_in_below (Set p l t e) known cell at k h q r = thing_below (Set p l t e) known cell at k h q (omega (arith, r))
      first_in_below (Write p c t e) known cell at k h q r = thing_below (Write p c t e) known cell at k h q (omega (arith, r))
      first_in_below (WriteAt p c len t i e) known cell at k h q r = thing_below (WriteAt p c len t i e) known cell at k h q (omega (arith, r))
      first_in_below (If p c a b) known cell at k h q r = thing_below (If p c a b) known cell at k h q (omega (arith, r))
      first_in_below (Loop p c x b) known cell at k h q r = thing_below (Loop p c x b) known cell at k h q (omega (arith, r))
      first_in_below (Assert p e) known cell at k h q r = thing_below (Assert p e) known cell at k h q (omega (arith, r))
      first_in_below (Input p l t) known cell at k h q r = thing_below (Input p l t) known cell at k h q (omega (arith, r))
      first_in_below (Call p f args into) known cell at k h q r = thing_below (Call p f args into) known cell at k h q (omega (arith, r))
      first_in_below (Return p e) known cell at k h q r = thing_below (Return p e) known cell at k h q (omega (arith, r))
      first_in_below (Serve p s) known cell at k h q r = thing_below (Serve p s) known cell at k h q (omega (arith, r))

      pub first_below : (b : CellBlock) (known : ℕ → Bool) (cell at : ℕ) → KnownBelow locals known → FitsMany known cell b → at + sized_all sizes b < 2 ^ 16
          → IfBelow (2 ^ 16) base temp at (first_thing b)
      first_below Nil known cell at k h r = tt
      first_below (Cons s b) known cell at k h r =
          by (first_in s) (first_in_below s known cell at k h.0 h.1 (omega (arith, r)))
          (first_below b (known_after known s) (cell + room rooms s) at (known_next s known cell k h.0) h.3 (omega (arith, r)))
        where
          by : (o : Option CellStatement) → IfBelow (2 ^ 16) base temp at o → IfBelow (2 ^ 16) base temp at (first_thing b) → IfBelow (2 ^ 16) base temp at (or_else o (first_thing b))
          by None x y = y
          by (Some t) x y = x

    -- calls fit where their cells and points do
    module _ (functions : List FunctionTree) (cells : ℕ → ℕ) (same : (f : ℕ) → min (cells f) (2 ^ 64 - 1) ≡ min (rooms f) (2 ^ 64 - 1)) (P : ℕ → ℕ → ℕ → Type 0)
        (params_fit : (f cell : ℕ) (args : List CellExpr) (into : Option (ℕ × CType)) → FitsCall f cell args into → cell + length (params_of functions f) < 2 ^ 16)
        (first_fits : (f cell at : ℕ) (args : List CellExpr) (into : Option (ℕ × CType)) → FitsCall f cell args into → at + sizes f < 2 ^ 16 → IfCallFits (2 ^ 16) temp cell at (slice_get functions f))
        (call_fits : (f cell at : ℕ) (args : List CellExpr) (into : Option (ℕ × CType)) → FitsCall f cell args into → cell + cells f ≤ temp → at + sizes f < 2 ^ 16 → P f cell at) where
      taken_below : (into : Option (ℕ × CType)) → FitsInto width base locals into → TakenBelow (2 ^ 16) base into
      taken_below None h = tt
      taken_below (Some a) h = let k = h.0 in omega (arith, k, small, order, high)

      same_room : (s : CellStatement) (cell : ℕ) → cell + room cells s ≤ temp → room rooms s ≡ room cells s
      same_room s cell h = let x = room_is cells rooms same s in omega (arith, x, h, small, order)

      same_room_all : (b : CellBlock) (cell : ℕ) → cell + room_all cells b ≤ temp → room_all rooms b ≡ room_all cells b
      same_room_all b cell h = let x = room_all_is cells rooms same b in omega (arith, x, h, small, order)

      -- a thing that sets no cell and has neither blocks nor calls in it
      abbrev Own : ℕ → ℕ → CellStatement → Type 0
      Own at cell s = OwnFits (2 ^ 16) functions sizes cells temp base at cell s

      values_below : (s : CellStatement) → temp + sites_all (questions s) ≤ top → temp + sites_all (questions s) < 2 ^ 16
      values_below s q = omega (arith, q, small)

      local_below : (at : ℕ) → at < locals → base + at < 2 ^ 16
      local_below at h = omega (arith, h, small, order, high)

      mutual
        one_fits : (s : CellStatement) (known : ℕ → Bool) (cell at : ℕ) → KnownBelow locals known → FitsOne known cell s → temp + sites_all (questions s) ≤ top
            → at + sized sizes s < 2 ^ 16 → cell + room cells s ≤ temp
            → Fits (2 ^ 16) functions sizes cells temp base at cell s × CallsFit P sizes cells at cell s
        one_fits (Block b) known cell at k h q r m = all_fit b known cell at k h r m
        one_fits (Set p l t e) known cell at k h q r m =
            (record { locals = own_below (Set p l t e) known cell k h; values = values_below (Set p l t e) q; points = omega (arith, r); blocks = tt; sets = local_below l h.1; calls = tt }, tt)
        one_fits (Write p c t e) known cell at k h q r m =
            (record { locals = own_below (Write p c t e) known cell k h; values = values_below (Write p c t e) q; points = omega (arith, r); blocks = tt; sets = tt; calls = tt }, tt)
        one_fits (WriteAt p c len t i e) known cell at k h q r m =
            (record { locals = own_below (WriteAt p c len t i e) known cell k h; values = values_below (WriteAt p c len t i e) q; points = omega (arith, r); blocks = tt; sets = tt; calls = tt }, tt)
        one_fits (Assert p e) known cell at k h q r m =
            (record { locals = own_below (Assert p e) known cell k h; values = values_below (Assert p e) q; points = omega (arith, r); blocks = tt; sets = tt; calls = tt }, tt)
        one_fits (Input p l t) known cell at k h q r m =
            (record { locals = own_below (Input p l t) known cell k h; values = values_below (Input p l t) q; points = omega (arith, r); blocks = tt; sets = local_below l h.0; calls = tt }, tt)
        one_fits (Return p e) known cell at k h q r m =
            (record { locals = own_below (Return p e) known cell k h; values = values_below (Return p e) q; points = omega (arith, r); blocks = tt; sets = tt; calls = tt }, tt)
        one_fits (Serve p s) known cell at k h q r m =
            (record { locals = own_below (Serve p s) known cell k h; values = values_below (Serve p s) q; points = omega (arith, r); blocks = tt; sets = tt; calls = tt }, tt)
        one_fits (Call p f args into) known cell at k h q r m = (
          record {
            locals = own_below (Call p f args into) known cell k h;
            values = values_below (Call p f args into) q;
            points = omega (arith, r);
            blocks = tt;
            sets = (params_fit f cell args into h.1, taken_below into h.2);
            calls = first_fits f cell (behind at (Call p f args into)) args into h.1 (omega (arith, r));
          },
          call_fits f cell (behind at (Call p f args into)) args into h.1 m (omega (arith, r)),
        )
        one_fits (If p c a b) known cell at k h q r m =
            let n = behind at (If p c a b) in
            let e = same_room_all a cell (omega (arith, m)) in
            let right = subst (λ (x : ℕ). FitsMany known (cell + x) b) e h.2 in
            let x = all_fit a known cell n k h.1 (omega (arith, r)) (omega (arith, m)) in
            let y = all_fit b known (cell + room_all cells a) (n + sized_all sizes a) k right (omega (arith, r)) (omega (arith, m)) in (
              (
                record {
                  locals = own_below (If p c a b) known cell k h;
                  values = values_below (If p c a b) q;
                  points = omega (arith, r);
                  blocks = (omega (arith, r), first_below a known cell n k h.1 (omega (arith, r)), first_below b known (cell + room_all cells a) (n + sized_all sizes a) k right (omega (arith, r)));
                  sets = tt;
                  calls = tt;
                },
                omega (arith, m, small, order),
                x.0,
                y.0,
              ),
              (x.1, y.1),
            )
        one_fits (Loop p c a b) known cell at k h q r m =
            let n = behind at (Loop p c a b) in
            let e = same_room_all a cell (omega (arith, m)) in
            let right = subst (λ (x : ℕ). FitsMany known (cell + x) b) e h.2 in
            let x = all_fit a known cell n k h.1 (omega (arith, r)) (omega (arith, m)) in
            let y = all_fit b known (cell + room_all cells a) (n + sized_all sizes a) k right (omega (arith, r)) (omega (arith, m)) in (
              (
                record {
                  locals = own_below (Loop p c a b) known cell k h;
                  values = values_below (Loop p c a b) q;
                  points = omega (arith, r);
                  blocks = (omega (arith, r), first_below a known cell n k h.1 (omega (arith, r)), first_below b known (cell + room_all cells a) (n + sized_all sizes a) k right (omega (arith, r)));
                  sets = tt;
                  calls = tt;
                },
                omega (arith, m, small, order),
                x.0,
                y.0,
              ),
              (x.1, y.1),
            )

        pub all_fit : (b : CellBlock) (known : ℕ → Bool) (cell at : ℕ) → KnownBelow locals known → FitsMany known cell b
            → at + sized_all sizes b < 2 ^ 16 → cell + room_all cells b ≤ temp
            → AllFit (2 ^ 16) functions sizes cells temp base at cell b × AllCallsFit P sizes cells at cell b
        all_fit Nil known cell at k h r m = (tt, tt)
        all_fit (Cons s b) known cell at k h r m =
            let n = at + sized sizes s in
            let e = same_room s cell (omega (arith, m)) in
            let next = known_next s known cell k h.0 in
            let right = subst (λ (x : ℕ). FitsMany (known_after known s) (cell + x) b) e h.3 in
            let x = one_fits s known cell at k h.0 h.1 (omega (arith, r)) (omega (arith, m)) in
            let y = all_fit b (known_after known s) (cell + room cells s) n next right (omega (arith, r)) (omega (arith, m)) in
            ((x.0, first_below b (known_after known s) (cell + room cells s) n next right (omega (arith, r)), omega (arith, r), omega (arith, m, small, order), y.0), (x.1, y.1))
