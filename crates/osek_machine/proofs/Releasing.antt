-- Resources that are held.
use Rattle.std.proofs.Common.{◌≡◌, ◌≢◌, ℕ, zero, suc, ◌+◌, ◌<◌, ◌≤◌, ◌||◌, List, [], ◌∷◌, ◌++◌, length, take, drop, Option, Some, None, slice_get, refl, sym, ap, subst, ◌∙◌, arith, get_or, add-one, ◌==◌}
use Rattle.std.proofs.Math.Seq.{drop-cons}
use Rattle.std.proofs.lemmas.Bool.Decides.{nat_tests}
use Rattle.std.proofs.lemmas.Option.{slice_get_read, slice_get-get_or}
use Rattle.osek_machine.specs.Held.{held_by, last_in, any_holds, resources_of, AreHolders, IsEntity, IsFirstOf, IsFreed, IsReleased}
use Rattle.osek_machine.specs.declared.held.Holding.{Holding}
use Rattle.step_ir.specs.Numbers.{times}

-- from one holding on
pub any_from : (r : ℕ) (hs : List Holding) (i : ℕ) (h : Holding) → i < length hs → h ≡ get_or hs i h → any_holds r (drop i hs) ≡ (h.resource == r) || any_holds r (drop (i + 1) hs)
any_from r hs i h within is = ap (any_holds r) (drop-cons hs i h within) ∙ (rw (add-one) (ap (λ (y : Holding). (y.resource == r) || any_holds r (drop (suc i) hs)) (sym is)))

-- an entity of which none stands there holds nothing
pub none_held : (hs : List Holding) (e : ℕ) → ((k : ℕ) → k < length hs → IsEntity (slice_get hs k) e → ⊥) → held_by hs e ≡ []
none_held [] e h = refl
none_held (x ∷ xs) e h =
    let other : x.entity ≢ e = h 0 (omega arith) in
    let ih = none_held xs e (λ k k_in. h (suc k) (omega arith)) in
    grind (arith, nat_tests)

-- the first of an entity was taken out
pub released_at : (hs : List Holding) (i e : ℕ) (h : Holding) → slice_get hs i ≡ Some h → h.entity ≡ e → ((k : ℕ) → k < i → IsEntity (slice_get hs k) e → ⊥) → IsReleased hs e h.resource (take i hs ++ drop (suc i) hs)
released_at [] i e h at its before = absurd (let x : ◌≡◌ {A = Option Holding} None (Some h) = at in cc)
released_at (x ∷ xs) zero e h at its before =
    let same : x ≡ h = cc in
    let entity : x.entity ≡ e = ap (λ (y : Holding). y.entity) same ∙ its in
    subst (λ (y : Holding). IsReleased (x ∷ xs) e y.resource xs) same
    (record {
      same = grind (arith, nat_tests);
      others = λ q differ. grind (arith, nat_tests);
      counts = λ q. grind (arith, nat_tests);
      holders = λ n hs. hs.2;
    })
released_at (x ∷ xs) (suc i) e h at its before =
    let ih : IsReleased xs e h.resource (take i xs ++ drop (suc i) xs) = released_at xs i e h at its (λ k k_in. before (suc k) (omega arith)) in
    let other : x.entity ≢ e = before 0 (omega arith) in
    record {
      same = grind (arith, nat_tests, ih.same);
      others = λ q differ. grind (arith, nat_tests, ih.others q differ);
      counts = λ q. grind (arith, nat_tests, ih.counts q);
      holders = λ n hs. (hs.0, hs.1, ih.holders n hs.2);
    }

-- that holding is the one of the entity
read_here : (hs : List Holding) (e i : ℕ) (h : Holding) → IsFirstOf hs e i → slice_get hs i ≡ Some h → h.entity ≡ e
read_here hs e i h first at = subst (λ o. IsEntity o e) at first.here

-- the same for the list that was changed
pub released_by : (hs ws new : List Holding) (e i : ℕ) (h : Holding) → hs ≡ ws → IsFirstOf hs e i → h ≡ get_or ws i h → new ≡ take i ws ++ drop (i + 1) ws → IsReleased ws e h.resource new
released_by hs ws new e i h same first read is =
    let f : IsFirstOf ws e i = subst (λ ys. IsFirstOf ys e i) same first in
    let at : slice_get ws i ≡ Some h = slice_get_read ws (length ws) i h refl f.within read in
    let is' : new ≡ take i ws ++ drop (suc i) ws = rw add-one at is in
    subst (IsReleased ws e h.resource) (sym is') (released_at ws i e h at (read_here ws e i h f at) f.before)

-- the first of an entity is its last taken
pub last_by : (hs : List Holding) (e i : ℕ) (d : Holding) → IsFirstOf hs e i → last_in (held_by hs e) ≡ Some (get_or hs i d).resource
last_by hs e i d first =
    let at : slice_get hs i ≡ Some (get_or hs i d) = slice_get-get_or hs i d first.within in
    ap last_in (released_at hs i e (get_or hs i d) at (read_here hs e i (get_or hs i d) first at) first.before).same

-- some of an entity's were taken out
pub record IsFreeing (old : List Holding) (e : ℕ) (new : List Holding) : Type 0 where
  pub others : (q : ℕ) → q ≢ e → held_by old q ≡ held_by new q
  pub counts : (q : ℕ) → times q (resources_of new) ≤ times q (resources_of old)
  pub holders : (n : ℕ) → AreHolders n old → AreHolders n new

-- none yet
pub freeing_none : (old : List Holding) (e : ℕ) → IsFreeing old e old
freeing_none old e = record { others = λ q h. refl; counts = λ q. omega arith; holders = λ n h. h }

-- one more
pub freeing_more : (old mid new : List Holding) (e r : ℕ) → IsReleased mid e r new → IsFreeing old e mid → IsFreeing old e new
freeing_more old mid new e r out inv =
    record {
      others = λ q h. inv.others q h ∙ out.others q h;
      counts = λ q. omega (arith, out.counts q, inv.counts q);
      holders = λ n h. out.holders n (inv.holders n h);
    }

-- all, where none is left
pub freed : (old mid new : List Holding) (e : ℕ) → new ≡ mid → held_by mid e ≡ [] → IsFreeing old e mid → IsFreed old e new
freed old mid new e same none inv =
    subst (IsFreed old e) (sym same) (record { none = none; others = inv.others; counts = inv.counts; holders = inv.holders })
