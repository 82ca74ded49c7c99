-- What an answer says of its parts, for the functions of a reader.
use Rattle.std.proofs.Common.{◌≡◌, ℕ, Bool, true, false, cond, List, [], ◌∷◌, refl, ap}
use Rattle.grammar.specs.Grammar.{Tree, Leaf, has}
use Rattle.grammar.specs.Reading.{Answer, Got, Stuck, OutOfTurns, map_got, begins, one}

pub got_of : {U V T : Type 0} (f : U → V) (A : Answer U T) (v : V) (r : List T) → map_got f A ≡ Got v r → (x : U) × (A ≡ Got x r) × (f x ≡ v)
got_of f (Got x s) v r e = (x, let h : s ≡ r = cc in ap (Got x) h, cc)
got_of f (Stuck s) v r e = absurd cc
got_of f OutOfTurns v r e = absurd cc

pub stuck_of : {U V T : Type 0} (f : U → V) (A : Answer U T) (r : List T) → map_got f A ≡ Stuck r → A ≡ Stuck r
stuck_of f (Got x s) r e = absurd cc
stuck_of f (Stuck s) r e = let h : s ≡ r = cc in ap Stuck h
stuck_of f OutOfTurns r e = absurd cc

-- a token that was read has one of the classes
pub one_begins : {T : Type 0} (class : T → ℕ) (cs : List ℕ) (ts : List T) (x : Tree T) (r : List T) → one class cs ts ≡ Got x r → begins class cs ts ≡ true
one_begins class cs [] x r e = absurd cc
one_begins class cs (t ∷ ts) x r e = go (has cs (class t)) e
  where
    go : (b : Bool) → cond b (Got (Leaf t) ts) (Stuck (t ∷ ts)) ≡ Got x r → b ≡ true
    go true e = refl
    go false e = absurd cc
