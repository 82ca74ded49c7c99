-- A text read on by one piece, and what was read before it.
use Rattle.std.proofs.Common.{◌≡◌, ℕ, ◌+◌, ◌-◌, ◌≤◌, List, [], ◌∷◌, ◌++◌, length, take, drop, Result, Ok, Err, refl, sym, ap, ◌∙◌, arith, append_assoc, length-drop}
use Rattle.std.proofs.lemmas.List.{append-nil, length-take-le}
use Rattle.std.proofs.Math.Seq.{take-length}
use Rattle.chk_base.specs.declared.place.Place.{Place}
use Rattle.chk_base.specs.Places.{place_after}
use Rattle.c_lex.specs.declared.fault.LexFault.TheVariants as fault
use Rattle.c_lex.specs.declared.token.Token.{Token}
use Rattle.c_lex.specs.CText.{Reading, prepend, piece_at, Reads, Ends, Passes, Defines, Spells, HasByte, HasDirective, HasNumber}
use Rattle.c_lex.specs.Pieces.{Known, PlainNumber, PlainPiece, End, Space, Defined, Spelled, BadByte, BadDirective, BadNumber, piece}
use Rattle.c_lex.specs.declared.cursor.Cursor.{Cursor}
use Rattle.c_lex.specs.declared.lexing.Lexer.{Lexer}
use Rattle.c_lex.specs.Cursor.{is_bare, cursor_after}
use Rattle.c_lex.specs.Known.{plain_known}
use Rattle.c_lex.specs.Steps.{State, IsAt, ReadsOn}

pub goes_space : (text : List ℕ) (known : Known) (tokens : List Token) (at size : ℕ) (whole : Reading) → piece_at text known at ≡ Space size
    → ReadsOn text (record { known = known; tokens = tokens; at = at + size }) whole → ReadsOn text (record { known = known; tokens = tokens; at = at }) whole
goes_space text known tokens at size whole e h = record { rest = h.rest; reads = Passes known at h.rest size e h.reads; joined = h.joined }

pub goes_define : (text : List ℕ) (known : Known) (tokens : List Token) (at size : ℕ) (name : List ℕ) (number : PlainNumber) (whole : Reading) → piece_at text known at ≡ Defined size name number
    → ReadsOn text (record { known = known ++ (name, number) ∷ []; tokens = tokens; at = at + size }) whole → ReadsOn text (record { known = known; tokens = tokens; at = at }) whole
goes_define text known tokens at size name number whole e h = record { rest = h.rest; reads = Defines known at h.rest size name number e h.reads; joined = h.joined }

prepend_more : (tokens : List Token) (token : Token) (rest : Reading) → prepend tokens (prepend (token ∷ []) rest) ≡ prepend (tokens ++ token ∷ []) rest
prepend_more tokens token (Ok others) = ap Ok (sym (append_assoc tokens (token ∷ []) others))
prepend_more tokens token (Err fault) = refl

pub goes_token : (text : List ℕ) (known : Known) (tokens : List Token) (at size : ℕ) (token : Token) (whole : Reading) → piece_at text known at ≡ Spelled size token.kind token.text → token.place ≡ place_after (take at text)
    → ReadsOn text (record { known = known; tokens = tokens ++ token ∷ []; at = at + size }) whole → ReadsOn text (record { known = known; tokens = tokens; at = at }) whole
goes_token text known tokens at size token whole e p h =
    record { rest = prepend (token ∷ []) h.rest; reads = Spells known at h.rest size token e p h.reads; joined = prepend_more tokens token h.rest ∙ h.joined }

pub ends_on : (text : List ℕ) (known : Known) (tokens : List Token) (at : ℕ) → piece_at text known at ≡ End → ReadsOn text (record { known = known; tokens = tokens; at = at }) (Ok tokens)
ends_on text known tokens at e = record { rest = Ok []; reads = Ends known at e; joined = ap Ok (append-nil tokens) }

pub byte_on : (text : List ℕ) (known : Known) (tokens : List Token) (at : ℕ) (place : Place) → piece_at text known at ≡ BadByte → place ≡ place_after (take at text)
    → ReadsOn text (record { known = known; tokens = tokens; at = at }) (Err (fault.Byte place))
byte_on text known tokens at place e p = rw p (record { rest = Err (fault.Byte (place_after (take at text))); reads = HasByte known at e; joined = refl })

pub directive_on : (text : List ℕ) (known : Known) (tokens : List Token) (at : ℕ) (place : Place) → piece_at text known at ≡ BadDirective → place ≡ place_after (take at text)
    → ReadsOn text (record { known = known; tokens = tokens; at = at }) (Err (fault.Directive place))
directive_on text known tokens at place e p = rw p (record { rest = Err (fault.Directive (place_after (take at text))); reads = HasDirective known at e; joined = refl })

pub number_on : (text : List ℕ) (known : Known) (tokens : List Token) (at offset : ℕ) (place : Place) → piece_at text known at ≡ BadNumber offset → place ≡ place_after (take (at + offset) text)
    → ReadsOn text (record { known = known; tokens = tokens; at = at }) (Err (fault.Number place))
number_on text known tokens at offset place e p = rw p (record { rest = Err (fault.Number (place_after (take (at + offset) text))); reads = HasNumber known at offset e; joined = refl })

-- what begins where the lexer stands
pub piece_here : (text : List ℕ) (lexer : Lexer) (bytes : List ℕ) (found : PlainPiece) → IsAt text lexer → bytes ≡ drop lexer.cursor.place.offset text
    → found ≡ piece (plain_known lexer.known.entries) lexer.cursor.bare bytes → piece_at text (plain_known lexer.known.entries) lexer.cursor.place.offset ≡ found
piece_here text lexer bytes found at e p =
    let bare : lexer.cursor.bare ≡ is_bare (take lexer.cursor.place.offset text) = ap (λ (cursor : Cursor). cursor.bare) at.cursor in
    sym (p ∙ rw (bare, e) refl)

-- the cursor stands after so many bytes
pub stands_at : (text : List ℕ) (n : ℕ) (cursor : Cursor) → n ≤ length text → cursor ≡ cursor_after (take n text) → cursor.place.offset ≡ n
stands_at text n cursor le e = ap (λ (cursor : Cursor). cursor.place.offset) e ∙ length-take-le n text le

-- and at its place
pub stands_there : (text : List ℕ) (n : ℕ) (cursor : Cursor) → cursor ≡ cursor_after (take n text) → cursor.place ≡ place_after (take n text)
stands_there text n cursor e = ap (λ (cursor : Cursor). cursor.place) e

-- all bytes stand before the end
pub all_before : (text : List ℕ) (n : ℕ) → n ≤ length text → length (drop n text) ≡ 0 → take n text ≡ text
all_before text n le h =
    let e : length (drop n text) ≡ length text - n = length-drop n text in
    let same : n ≡ length text = omega arith in
    rw same (take-length text)

unprepended : (rest : Reading) → prepend [] rest ≡ rest
unprepended (Ok tokens) = refl
unprepended (Err fault) = refl

-- what is read from the start on is the reading of the text
pub from_start : (text : List ℕ) (whole : Reading) → ReadsOn text (record { known = []; tokens = []; at = 0 }) whole → Reads text [] 0 whole
from_start text whole h = let e : h.rest ≡ whole = sym (unprepended h.rest) ∙ h.joined in rw (← e) h.reads

-- so many bytes of what is left are bytes of the text
pub within_text : (text bytes : List ℕ) (at n : ℕ) → at ≤ length text → bytes ≡ drop at text → n ≤ length bytes → at + n ≤ length text
within_text text bytes at n le e h =
    let d : length bytes ≡ length text - at = ap length e ∙ length-drop at text in
    omega arith
