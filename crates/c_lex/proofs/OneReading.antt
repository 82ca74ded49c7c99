-- A text has a reading, and no other.
use Rattle.std.proofs.Common.{◌≡◌, ℕ, zero, suc, ◌+◌, ◌-◌, ◌<◌, ◌≤◌, List, [], ◌∷◌, ◌++◌, length, take, drop, Result, Ok, Err, refl, sym, ap, ◌∙◌, arith, length-drop}
use Rattle.chk_base.specs.declared.place.Place.{Place}
use Rattle.chk_base.specs.Places.{place_after}
use Rattle.c_lex.specs.declared.fault.LexFault.TheVariants as fault
use Rattle.c_lex.specs.declared.token.Token.{Token}
use Rattle.c_lex.specs.Cursor.{is_bare}
use Rattle.c_lex.specs.Known.{IsWithin}
use Rattle.c_lex.proofs.Within.{piece_within}
use Rattle.c_lex.specs.CText.{Reading, prepend, piece_at, Reads, Ends, Passes, Defines, Spells, HasByte, HasDirective, HasNumber, IsReading}
use Rattle.c_lex.specs.Pieces.{Known, PlainNumber, PlainPiece, End, Space, Defined, Spelled, BadByte, BadDirective, BadNumber}

-- what a reading is, by the piece that begins it
abbrev Follows : List ℕ → Known → ℕ → PlainPiece → Reading → Type 0
Follows text known at End reading = reading ≡ Ok []
Follows text known at (Space size) reading = Reads text known (at + size) reading
Follows text known at (Defined size name number) reading = Reads text (known ++ (name, number) ∷ []) (at + size) reading
Follows text known at (Spelled size kind bytes) reading =
    (rest : Reading) × Reads text known (at + size) rest × (reading ≡ prepend (record { kind = kind; place = place_after (take at text); text = bytes } ∷ []) rest)
Follows text known at BadByte reading = reading ≡ Err (fault.Byte (place_after (take at text)))
Follows text known at BadDirective reading = reading ≡ Err (fault.Directive (place_after (take at text)))
Follows text known at (BadNumber offset) reading = reading ≡ Err (fault.Number (place_after (take (at + offset) text)))

placed : (token : Token) (rest : Reading) (text : List ℕ) (at : ℕ) → token.place ≡ place_after (take at text)
    → prepend (token ∷ []) rest ≡ prepend (record { kind = token.kind; place = place_after (take at text); text = token.text } ∷ []) rest
placed token rest text at p = ap (λ (place : Place). prepend (record { kind = token.kind; place = place; text = token.text } ∷ []) rest) p

follows : (text : List ℕ) (known : Known) (at : ℕ) (reading : Reading) → Reads text known at reading → Follows text known at (piece_at text known at) reading
follows text _ _ _ (Ends known at e) = rw e refl
follows text _ _ reading (Passes known at _ size e more) = rw e more
follows text _ _ reading (Defines known at _ size name number e more) = rw e more
follows text _ _ _ (Spells known at rest size token e p more) = rw e (rest, more, placed token rest text at p)
follows text _ _ _ (HasByte known at e) = rw e refl
follows text _ _ _ (HasDirective known at e) = rw e refl
follows text _ _ _ (HasNumber known at offset e) = rw e refl

one : (text : List ℕ) (known : Known) (at : ℕ) (reading other : Reading) → Reads text known at reading → Reads text known at other → reading ≡ other
one text _ _ _ other (Ends known at e) h = sym (rw e at (follows text known at other h))
one text _ _ reading other (Passes known at _ size e more) h = one text known (at + size) reading other more (rw e at (follows text known at other h))
one text _ _ reading other (Defines known at _ size name number e more) h = one text (known ++ (name, number) ∷ []) (at + size) reading other more (rw e at (follows text known at other h))
one text _ _ _ other (Spells known at rest size token e p more) h =
    let f = rw e at (follows text known at other h) in
    placed token rest text at p ∙ ap (prepend (record { kind = token.kind; place = place_after (take at text); text = token.text } ∷ [])) (one text known (at + size) rest f.0 more f.1) ∙ sym f.2
one text _ _ _ other (HasByte known at e) h = sym (rw e at (follows text known at other h))
one text _ _ _ other (HasDirective known at e) h = sym (rw e at (follows text known at other h))
one text _ _ _ other (HasNumber known at offset e) h = sym (rw e at (follows text known at other h))

-- two readings of a text are the same
pub one_reading : (text : List ℕ) (reading other : Reading) → IsReading text reading → IsReading text other → reading ≡ other
one_reading text reading other a b = one text [] 0 reading other a b

-- the reading that begins with a piece, by those of what follows
begun : (text : List ℕ) (known : Known) (at : ℕ) (found : PlainPiece) → piece_at text known at ≡ found → IsWithin (length (drop at text)) found
    → ((n : ℕ) (others : Known) → 0 < n → n ≤ length (drop at text) → (reading : Reading) × Reads text others (at + n) reading)
    → (reading : Reading) × Reads text known at reading
begun text known at End e w next = (Ok [], Ends known at e)
begun text known at (Space size) e w next = let r = next size known w.0 w.1 in (r.0, Passes known at r.0 size e r.1)
begun text known at (Defined size name number) e w next =
    let r = next size (known ++ (name, number) ∷ []) w.0 w.1 in
    (r.0, Defines known at r.0 size name number e r.1)
begun text known at (Spelled size kind bytes) e w next =
    let r = next size known w.0 w.1 in
    let token : Token = record { kind = kind; place = place_after (take at text); text = bytes } in
    (prepend (token ∷ []) r.0, Spells known at r.0 size token e refl r.1)
begun text known at BadByte e w next = (Err (fault.Byte (place_after (take at text))), HasByte known at e)
begun text known at BadDirective e w next = (Err (fault.Directive (place_after (take at text))), HasDirective known at e)
begun text known at (BadNumber offset) e w next = (Err (fault.Number (place_after (take (at + offset) text))), HasNumber known at offset e)

read : (text : List ℕ) (turns at : ℕ) (known : Known) → length (drop at text) ≤ turns → (reading : Reading) × Reads text known at reading
read text zero at known few =
    begun text known at (piece_at text known at) refl (piece_within known (is_bare (take at text)) (drop at text)) (λ (n : ℕ) (others : Known) (lo : 0 < n) (le : n ≤ length (drop at text)). absurd (omega arith))
read text (suc turns) at known few =
    begun text known at (piece_at text known at) refl (piece_within known (is_bare (take at text)) (drop at text))
    (λ (n : ℕ) (others : Known) (lo : 0 < n) (le : n ≤ length (drop at text)). read text turns (at + n) others (fewer text at n turns lo le few))
  where
    fewer : (text : List ℕ) (at n turns : ℕ) → 0 < n → n ≤ length (drop at text) → length (drop at text) ≤ suc turns → length (drop (at + n) text) ≤ turns
    fewer text at n turns lo le few =
        let a : length (drop at text) ≡ length text - at = length-drop at text in
        let b : length (drop (at + n) text) ≡ length text - (at + n) = length-drop (at + n) text in
        omega arith

-- a text has a reading
pub some_reading : (text : List ℕ) → (reading : Reading) × IsReading text reading
some_reading text = read text (length text) 0 [] (omega arith)
