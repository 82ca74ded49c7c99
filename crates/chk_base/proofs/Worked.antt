-- Worked values of the definitions of the outside.
use Rattle.std.proofs.Common.{◌≡◌, ◌-◌, ◌^◌, [], ◌∷◌, refl, arith, lit≤}
use Rattle.std.specs.Prelude.{Some, None, Ok, Err}
use Rattle.chk_base.specs.declared.desk.FetchFault.TheVariants as fetch
use Rattle.chk_base.specs.Causes.{Rose, risen}
use Rattle.chk_base.specs.Desk.{FetchAnswer, Fetch, Begin}
use Rattle.chk_base.specs.Faults.{count_of, last_of, after_fault}
use Rattle.chk_base.specs.Pieces.{TakesSome}

-- a count that rose by one rose, and one that stayed didn't; at the last value of 64 bits it needn't rise
pub rose_by_one : Rose 3 4
rose_by_one = lit≤ tt

pub stayed : Rose 3 3 → ⊥
stayed rose = omega arith

pub at_the_end : Rose (2 ^ 64 - 1) (2 ^ 64 - 1)
at_the_end = lit≤ tt

pub risen_at_the_end : risen (2 ^ 64 - 1) ≡ 2 ^ 64 - 1
risen_at_the_end = refl

-- a file of two bytes under the limits 2 and 1, and no file
pub whole_file : FetchAnswer (Some (7 ∷ 8 ∷ [])) 2 (Ok (7 ∷ 8 ∷ []))
whole_file = (refl, lit≤ tt)

pub longer_file : FetchAnswer (Some (7 ∷ 8 ∷ [])) 1 (Err fetch.TooLong)
longer_file = grind arith

pub no_file : FetchAnswer None 9 (Ok []) → ⊥
no_file answer = let missing = answer.0 in cc

-- of an empty piece nothing is taken, of another one at least a byte
pub of_nothing : TakesSome [] 0
of_nothing = record { at_most = lit≤ tt; at_least = lit≤ tt }

pub none_of_one : TakesSome (7 ∷ []) 0 → ⊥
none_of_one takes = omega (arith, takes.at_least)

-- the second of two faults is the last
pub two_faults : last_of (after_fault (after_fault None (Fetch [])) (Begin (7 ∷ []))) ≡ Some (Begin (7 ∷ []))
two_faults = refl

pub count_two : count_of (after_fault (after_fault None (Fetch [])) (Begin (7 ∷ []))) ≡ 2
count_two = refl
