-- A text that has been cut into pieces up to a place.
use Rattle.std.proofs.Common.{◌≡◌, ◌∙◌, ℕ, zero, suc, ◌+◌, ◌-◌, ◌≤◌, ◌<◌, true, List, [], ◌∷◌, ◌++◌, length, take, drop, refl, sym, ap, subst, arith, append_assoc, Some}
use Rattle.std.specs.List.{concat}
use Rattle.std.proofs.lemmas.List.{append-nil, length-take-le, length-drop, take-append-drop}
use Rattle.std.proofs.lemmas.List.Folds.{concat-append}
use Rattle.std.proofs.Math.Seq.{take-add, take-length, drop-length}
use Rattle.chk_base.specs.declared.place.Place.{Place}
use Rattle.chk_base.specs.Places.{place_after}
use Rattle.oil_text.specs.Pieces.{piece_of, is_piece, IsLongest, NonePasses, BeginsWith}
use Rattle.oil_text.specs.OilTokens.{token_of, tokens_of, AreLongest, AreTokensOf, IsByteFault}
use Rattle.oil_text.specs.declared.token.Piece.{Piece}
use Rattle.oil_text.specs.declared.token.Token.{Token}
use Rattle.oil_text.proofs.Places.{offset_is}

-- the text up to the place is pieces, each the longest, and these are their tokens
pub record IsCutSoFar (text : List ℕ) (tokens : List Token) (place : Place) : Type 0 where
  pub pieces : List (List ℕ)
  pub parts : concat pieces ≡ take place.offset text
  pub longest : AreLongest pieces (drop place.offset text)
  pub tokens_are : tokens_of [] pieces ≡ tokens
  pub here : place ≡ place_after (take place.offset text)
  pub within : place.offset ≤ length text

take_zero : (xs : List ℕ) → take 0 xs ≡ []
take_zero [] = refl
take_zero (x ∷ xs) = refl

drop_zero : (xs : List ℕ) → drop 0 xs ≡ xs
drop_zero [] = refl
drop_zero (x ∷ xs) = refl

place_zero : (xs : List ℕ) → record { line = 1; column = 1; offset = 0 } ≡ place_after (take 0 xs)
place_zero [] = refl
place_zero (x ∷ xs) = refl

drops : (m n : ℕ) (xs : List ℕ) → drop n (drop m xs) ≡ drop (m + n) xs
drops zero n xs = let z : 0 + n ≡ n = omega arith in rw (drop_zero xs, z) refl
drops (suc m) zero [] = let z : suc m + 0 ≡ suc m = omega arith in rw z refl
drops (suc m) (suc n) [] = let z : suc m + suc n ≡ suc (m + suc n) = omega arith in rw z refl
drops (suc m) n (x ∷ xs) = let z : suc m + n ≡ suc (m + n) = omega arith in rw z (drops m n xs)

pub starts : (text : List ℕ) → IsCutSoFar text [] (record { line = 1; column = 1; offset = 0 })
starts text = record { pieces = []; parts = sym (take_zero text); longest = tt; tokens_are = refl; here = place_zero text; within = omega arith }

-- ---- one piece more

longest_more : (pieces : List (List ℕ)) (bytes rest : List ℕ) → AreLongest pieces (bytes ++ rest) → IsLongest is_piece (bytes ++ rest) (length bytes) → AreLongest (pieces ++ bytes ∷ []) rest
longest_more [] bytes rest h l = (l, tt)
longest_more (p ∷ ps) bytes rest h l =
    let e : concat ps ++ (bytes ++ rest) ≡ concat (ps ++ bytes ∷ []) ++ rest = rw (concat-append ps (bytes ∷ []), append-nil bytes) (sym (append_assoc (concat ps) bytes rest)) in
    (rw e at h.0, longest_more ps bytes rest h.1 l)

longest_at : (pieces : List (List ℕ)) (whole bytes rest : List ℕ) (n : ℕ) → whole ≡ bytes ++ rest → length bytes ≡ n → AreLongest pieces whole → IsLongest is_piece whole n → AreLongest (pieces ++ bytes ∷ []) rest
longest_at pieces whole bytes rest n e l h b = longest_more pieces bytes rest (rw e at h) (subst (λ (k : ℕ). IsLongest is_piece (bytes ++ rest) k) (sym l) (subst (λ (w : List ℕ). IsLongest is_piece w n) e b))

tokens_more : (before : List ℕ) (pieces : List (List ℕ)) (bytes : List ℕ) → tokens_of before (pieces ++ bytes ∷ []) ≡ tokens_of before pieces ++ token_of (piece_of bytes) bytes (place_after (before ++ concat pieces))
tokens_more before [] bytes = rw (append-nil before, append-nil (token_of (piece_of bytes) bytes (place_after before))) refl
tokens_more before (p ∷ ps) bytes =
    ap (λ w. token_of (piece_of p) p (place_after before) ++ w) (tokens_more (before ++ p) ps bytes)
    ∙ rw (append_assoc before p (concat ps)) (sym (append_assoc (token_of (piece_of p) p (place_after before)) (tokens_of (before ++ p) ps) (token_of (piece_of bytes) bytes (place_after (before ++ (p ++ concat ps))))))

pub some_bytes : (text : List ℕ) (piece : Piece) (n : ℕ) → BeginsWith text piece n → 0 < n
some_bytes text piece zero h = absurd (none text h.longest.passing)
  where
    none : (xs : List ℕ) → is_piece (take 0 xs) ≡ true → ⊥
    none [] e = cc
    none (x ∷ xs) e = cc
some_bytes text piece (suc n) h = omega arith

pub one_more : (text : List ℕ) (tokens more : List Token) (place next : Place) (piece : Piece) (n : ℕ) → BeginsWith (drop place.offset text) piece n → next ≡ place_after (take (place.offset + n) text) → more ≡ tokens ++ token_of (Some piece) (take n (drop place.offset text)) place → IsCutSoFar text tokens place → IsCutSoFar text more next
one_more text tokens more place next piece n b after so h =
    let at = place.offset in
    let bytes = take n (drop at text) in
    let long : length (drop at text) ≡ length text - at = length-drop at text in
    let inside : at + n ≤ length text = omega (arith, b.longest.within, h.within, long) in
    let offset : next.offset ≡ at + n = ap (λ (p : Place). p.offset) after ∙ offset_is text (at + n) inside in
    let size : length bytes ≡ n = length-take-le n (drop at text) b.longest.within in
    let split : drop at text ≡ bytes ++ drop (at + n) text = sym (take-append-drop n (drop at text)) ∙ ap (λ w. bytes ++ w) (drops at n text) in
    record {
      pieces = h.pieces ++ bytes ∷ [];
      parts = rw (offset, concat-append h.pieces (bytes ∷ []), append-nil bytes, h.parts) (sym (take-add at n text));
      longest = rw offset (longest_at h.pieces (drop at text) bytes (drop (at + n) text) n split size h.longest b.longest);
      tokens_are = tokens_more [] h.pieces bytes ∙ rw (b.is_so, h.tokens_are, h.parts, ← h.here) (sym so);
      here = subst (λ (k : ℕ). next ≡ place_after (take k text)) (sym offset) after;
      within = rw offset inside;
    }

-- ---- the end

pub all_cut : (text : List ℕ) (tokens : List Token) (place : Place) → length text ≤ place.offset → IsCutSoFar text tokens place → AreTokensOf text tokens
all_cut text tokens place most h =
    let e : place.offset ≡ length text = omega (arith, h.within) in
    record {
      pieces = h.pieces;
      parts = sym (h.parts ∙ rw e (take-length text));
      longest = rw (e, drop-length text) at h.longest;
      tokens_are = h.tokens_are;
    }

pub none_begins : (text : List ℕ) (tokens : List Token) (place : Place) → place.offset < length text → NonePasses is_piece (drop place.offset text) → IsCutSoFar text tokens place → IsByteFault text place
none_begins text tokens place less none h = record {
  pieces = h.pieces;
  rest = drop place.offset text;
  parts = rw h.parts (sym (take-append-drop place.offset text));
  longest = h.longest;
  not_at_end = λ e. let l : length (drop place.offset text) ≡ 0 = rw e refl in absurd (omega (arith, l, length-drop place.offset text));
  none_begins = none;
  place_is = rw h.parts h.here;
}
