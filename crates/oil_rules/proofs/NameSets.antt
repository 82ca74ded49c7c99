-- Sets of borrowed names, as lists of their texts.
use Rattle.std.proofs.Common.{◌≡◌, ℕ, ◌+◌, ◌||◌, Bool, true, false, not, if◌then◌else◌, cond, List, [], ◌∷◌, ◌++◌, map, length, position, Option, slice_get, refl, ap, sym, ◌∙◌, arith}
use Rattle.std.specs.List.{list_any, position_or_len, prefix_len}
use Rattle.std.specs.Str.{bytes_eq}
use Rattle.std.specs.Borrow.{Bor}
use Rattle.std.specs.Option.{option_map}
use Rattle.std.proofs.lemmas.Option.{slice_get-map}
use Rattle.std.proofs.lemmas.List.{map-append, length-map}
use Rattle.oil_rules.specs.Names.{has_name, with_name}

-- the texts of borrowed names
abbrev pub texts : List (Bor (List ℕ)) → List (List ℕ)
texts keys = map (λ k. k.now) keys

pub has_key : (keys : List (Bor (List ℕ))) (n : List ℕ) → list_any (λ k. bytes_eq n k.now) keys ≡ has_name (texts keys) n
has_key [] n = refl
has_key (k ∷ keys) n = ap (λ b. bytes_eq n k.now || b) (has_key keys n)

pub with_key : (keys : List (Bor (List ℕ))) (k : Bor (List ℕ)) → texts (if list_any (λ l. bytes_eq k.now l.now) keys then keys else keys ++ k ∷ []) ≡ with_name (texts keys) k.now
with_key keys k =
    ap (λ b. texts (if b then keys else keys ++ k ∷ [])) (has_key keys k.now) ∙ by (has_name (texts keys) k.now)
  where
    by : (b : Bool) → texts (if b then keys else keys ++ k ∷ []) ≡ (if b then texts keys else texts keys ++ k.now ∷ [])
    by true = refl
    by false = map-append (λ l. l.now) keys (k ∷ [])

first_key : (keys : List (Bor (List ℕ))) (n : List ℕ) → position_or_len (λ k. bytes_eq n k.now) keys ≡ position_or_len (bytes_eq n) (texts keys)
first_key [] n = refl
first_key (k ∷ keys) n = ap (λ p. cond (not (bytes_eq n k.now)) (1 + p) 0) (first_key keys n)

pub number_of_key : (keys : List (Bor (List ℕ))) (n : List ℕ) → position (λ k. bytes_eq n k.now) keys ≡ position (bytes_eq n) (texts keys)
number_of_key keys n = rw (first_key keys n, ← length-map keys (λ k. k.now)) refl

-- the name at a place
pub key_at : (keys : List (Bor (List ℕ))) (i : ℕ) → slice_get (texts keys) i ≡ option_map (λ k. k.now) (slice_get keys i)
key_at keys i = slice_get-map (λ k. k.now) keys i
