-- What the items of a thing come to, from scratch with the values read so far.
use Rattle.std.specs.Prelude.{ℕ, Bool, true, ◌&&◌, if◌then◌else◌, List, [], ◌∷◌}
use Rattle.chk_base.specs.declared.word.Width.{Width}
use Rattle.chk_base.specs.Operators.{truth}
use Rattle.chk_base.specs.Term.{Term}
use Rattle.step_ir.specs.PointStep.{Bits, val, cell_of, inside}
use Rattle.step_ir.specs.Numbers.{put}
use Rattle.lower_law.specs.Items.{Item, Site, Check, guarded}

abbrev pub holds : (Term → ℕ) → List Term → Bool
holds v [] = true
holds v (t ∷ ts) = truth (v t) && holds v ts

-- a cell is wanted, or a failure, or all is done
pub data Seen : Type 0 where
  Reads : (cell : ℕ) (width : Width) (inside : Bool) → Seen
  Stops : (failure : ℕ) → Seen
  Through : (bits : Bits) (got : List ℕ) → Seen

abbrev pub walk : (ℕ → Width) → List Item → Bits → List ℕ → Seen
walk width [] bits got = Through bits got
walk width (Check g t f ∷ is) bits got =
    if truth (val width bits (guarded g t)) then Stops f else walk width is bits got
walk width (Site g t into ∷ is) bits [] =
    if holds (val width bits) g then Reads (cell_of (val width bits) t) (width (cell_of (val width bits) t)) (inside (val width bits) t) else walk width is bits []
walk width (Site g t into ∷ is) bits (b ∷ got) =
    if holds (val width bits) g then walk width is (put bits into b) got else walk width is bits (b ∷ got)
