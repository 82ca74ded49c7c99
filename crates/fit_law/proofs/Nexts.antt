-- Where points go on, and the points of one thing.
use Rattle.std.proofs.Common.{◌≡◌, ℕ, ◌+◌, ◌<◌, ◌≤◌, false, List, [], ◌∷◌, ◌++◌, length, refl, arith}
use Rattle.application.specs.declared.app.App.{App}
use Rattle.chk_base.specs.declared.place.Place.{Place}
use Rattle.chk_base.specs.Term.{Term, Const, Choose}
use Rattle.step_ir.specs.declared.code.Code.{Code}
use Rattle.step_ir.specs.Fits.{EndsInOne, is_last, ReadsOwn, IsActionFit, AreTrapsFit, AreNextsFit, IsPointFit}
use Rattle.step_ir.specs.Points.{PlainAction, PlainPoint, points_in}
use Rattle.lower_law.specs.Items.{Item, Site, Check, guarded}
use Rattle.lower_law.specs.Lowered.{Nexts, all_guarded, always, behind, cut, entry, thing}
use Rattle.lower_law.proofs.Sizes.{count}
use Rattle.fit_law.proofs.Expressions.{AreRead, AreItemsFit, guarded_read}

-- a thing has a point for each read and one more
pub length_thing : (number : ℕ → ℕ) (place : Place) (action : PlainAction) (nexts : Nexts) (traps : List (Term × ℕ)) (at : ℕ) (is : List Item) → length (thing number place action nexts traps at is) ≡ count is + 1
length_thing number place action nexts traps at [] = refl
length_thing number place action nexts traps at (Check g t f ∷ is) = length_thing number place action nexts (traps ++ (guarded g t, f) ∷ []) at is
length_thing number place action nexts traps at (Site g t into ∷ is) =
    let h = length_thing number place action nexts (behind g traps) (at + 1) is in omega arith

-- an item before others, of which the last is the constant 1
one_cons : (x : Term × ℕ) (xs : Nexts) → 1 ≤ length xs → EndsInOne xs → EndsInOne (x ∷ xs)
one_cons x [] s o = absurd (omega arith)
one_cons x (y ∷ ys) s o = o

module _ (code : Code) (e : ℕ) where
  -- it goes on at a point of the entity in any case
  pub record Goes (xs : Nexts) : Type 0 where
    pub fit : AreNextsFit code e xs
    pub one : EndsInOne xs
    pub some : 1 ≤ length xs

  -- also where another point comes first
  goes_cons : (x : Term × ℕ) (xs : Nexts) → ReadsOwn code e x.0 → x.1 < length (points_in code e) → Goes xs → Goes (x ∷ xs)
  goes_cons x xs r lt g = record { fit = (r, lt, g.fit); one = one_cons x xs g.some g.one; some = omega arith }

  -- also where the points of a list come first
  pub goes_guarded : (t : Term) (xs rest : Nexts) → ReadsOwn code e t → AreNextsFit code e xs → Goes rest → Goes (all_guarded t xs rest)
  goes_guarded t [] rest r f g = g
  goes_guarded t (x ∷ xs) rest r f g = goes_cons (Choose t x.0 (Const 0), x.1) (all_guarded t xs rest) (r, f.0, tt) f.1 (goes_guarded t xs rest r f.2 g)

  module _ (number : ℕ → ℕ) (total : ℕ) (inside : (at : ℕ) → at < total → number at < length (points_in code e)) where
    -- at this position in any case
    pub goes_always : (at : ℕ) → at < total → Goes (always number at)
    goes_always at lt = record { fit = (tt, inside at lt, tt); one = refl; some = omega arith }

    -- at this position where the guard holds
    goes_cut : (g : List Term) (at : ℕ) (rest : Nexts) → AreRead code e g → at < total → Goes rest → Goes (cut number g at rest)
    goes_cut [] at rest w lt r = goes_always at lt
    goes_cut (t ∷ ts) at rest w lt r = goes_cons (guarded (t ∷ ts) (Const 1), number at) rest (guarded_read code e (t ∷ ts) (Const 1) w tt) (inside at lt) r

    -- where a thing begins
    pub goes_entry : (is : List Item) (at : ℕ) → AreItemsFit code e is → at + count is < total → Goes (entry number at is)
    goes_entry [] at f lt = goes_always at (omega arith)
    goes_entry (Check g t k ∷ is) at f lt = goes_entry is at f.3 lt
    goes_entry (Site g t into ∷ is) at f lt = goes_cut g at (entry number (at + 1) is) f.0 (omega arith) (goes_entry is (at + 1) f.4 (omega arith))

  -- one trap more
  traps_add : (xs : List (Term × ℕ)) (x : Term × ℕ) → AreTrapsFit code e xs → ReadsOwn code e x.0 → 3 ≤ x.1 → x.1 ≤ 6 → AreTrapsFit code e (xs ++ x ∷ [])
  traps_add [] x h r l m = (r, l, m, tt)
  traps_add (y ∷ ys) x h r l m = (h.0, h.1, h.2, traps_add ys x h.3 r l m)

  -- those behind a read
  traps_behind : (g : List Term) (xs : List (Term × ℕ)) → AreTrapsFit code e xs → AreTrapsFit code e (behind g xs)
  traps_behind [] xs h = tt
  traps_behind (t ∷ ts) xs h = h

  module _ (app : App) where
    -- points of the entity fit
    abbrev pub ArePointsFit : List PlainPoint → Type 0
    ArePointsFit [] = Unit {0}
    ArePointsFit (p ∷ ps) = IsPointFit app code e p × ArePointsFit ps

    -- so do points before others
    pub points_append : (ps qs : List PlainPoint) → ArePointsFit ps → ArePointsFit qs → ArePointsFit (ps ++ qs)
    points_append [] qs f h = h
    points_append (p ∷ ps) qs f h = (f.0, points_append ps qs f.1 h)

    -- a point with this action can go on so
    pub record Completes (action : PlainAction) (nexts : Nexts) : Type 0 where
      pub acts : IsActionFit code e app action
      pub fit : AreNextsFit code e nexts
      pub on : is_last action ≡ false → 1 ≤ length nexts
      pub one : EndsInOne nexts

    -- so it is where it goes on in any case
    pub completes : (action : PlainAction) (nexts : Nexts) → IsActionFit code e app action → Goes nexts → Completes action nexts
    completes action nexts a g = record { acts = a; fit = g.fit; on = λ h. g.some; one = g.one }

    -- the points of a thing
    pub thing_fit : (number : ℕ → ℕ) (total : ℕ) (inside : (at : ℕ) → at < total → number at < length (points_in code e)) (place : Place) (action : PlainAction) (nexts : Nexts) → Completes action nexts → (traps : List (Term × ℕ)) (at : ℕ) (is : List Item) → AreTrapsFit code e traps → AreItemsFit code e is → at + count is < total → ArePointsFit (thing number place action nexts traps at is)
    thing_fit number total inside place action nexts c traps at [] r f lt =
        (record { action = c.acts; traps = r; nexts = c.fit; goes_on = c.on; ends_in_one = c.one }, tt)
    thing_fit number total inside place action nexts c traps at (Check g t k ∷ is) r f lt =
        thing_fit number total inside place action nexts c (traps ++ (guarded g t, k) ∷ []) at is (traps_add traps (guarded g t, k) r f.0 f.1 f.2) f.3 lt
    thing_fit number total inside place action nexts c traps at (Site g t into ∷ is) r f lt =
        let n = goes_entry number total inside is (at + 1) f.4 (omega arith) in
        (record { action = (f.1, f.2, f.3); traps = r; nexts = n.fit; goes_on = λ h. n.some; ends_in_one = n.one }, thing_fit number total inside place action nexts c (behind g traps) (at + 1) is (traps_behind g traps r) f.4 (omega arith))
