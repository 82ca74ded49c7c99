-- The longest mark at the front of a text.
use Rattle.std.proofs.Common.{◌≡◌, ℕ, ◌+◌, ◌≤◌, max, Bool, true, false, cond, nat_eq, List, [], ◌∷◌, ◌++◌, length, fold, take, drop, refl, sym, ap, ◌∙◌, arith, length-append}
use Rattle.std.proofs.lemmas.Bool.Decides.{Decides-eqb}
use Rattle.std.proofs.lemmas.Slice.Eq.{starts_is}
use Rattle.std.specs.List.{starts_with}
use Rattle.c_lex.specs.declared.words.TheConstants.{MARKS}
use Rattle.c_lex.specs.Pieces.{front_length, longest_of, mark_length}

-- a mark that begins a text isn't longer
fits : (mark bytes : List ℕ) → front_length mark bytes ≤ length bytes
fits mark bytes = go (starts_with nat_eq bytes mark) refl
  where
    go : (c : Bool) → starts_with nat_eq bytes mark ≡ c → cond c (length mark) 0 ≤ length bytes
    go true h =
        let e : bytes ≡ mark ++ drop (length mark) bytes = (starts_is Decides-eqb bytes mark true (sym h)).0 refl in
        let n : length bytes ≡ length mark + length (drop (length mark) bytes) = ap length e ∙ length-append mark (drop (length mark) bytes) in
        omega arith
    go false h = omega arith

longest_from : {X : Type 0} (spelling : X → List ℕ) (marks : List X) (bytes : List ℕ) (n : ℕ) → n ≤ length bytes → fold (λ n mark. max n (front_length (spelling mark) bytes)) n marks ≤ length bytes
longest_from spelling [] bytes n h = h
longest_from spelling (m ∷ marks) bytes n h =
    let f : front_length (spelling m) bytes ≤ length bytes = fits (spelling m) bytes in
    longest_from spelling marks bytes (max n (front_length (spelling m) bytes)) (both n (front_length (spelling m) bytes) (length bytes) h f)
  where
    both : (a b n : ℕ) → a ≤ n → b ≤ n → max a b ≤ n
    both a b n p q = omega arith

-- the longest mark isn't longer than the text that it begins
pub mark_within : (bytes : List ℕ) → mark_length bytes ≤ length bytes
unfolding mark_length
mark_within bytes = longest_from (λ mark. mark.now) MARKS bytes 0 (omega arith)
