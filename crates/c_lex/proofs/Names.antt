-- Names that are defined.
use Rattle.std.proofs.Common.{◌≡◌, ℕ, Bool, true, false, cond, not, ◌&&◌, is_some, List, [], ◌∷◌, ◌++◌, map, Option, Some, None, refl, sym, ap, ◌∙◌}
use Rattle.std.specs.Borrow.{Bor}
use Rattle.std.specs.Map.{lookup}
use Rattle.std.specs.Option.{option_map}
use Rattle.std.specs.Str.{bytes_eq}
use Rattle.indexmap.proofs.CallerLemmas.{insert_entry-new}
use Rattle.indexmap.specs.IndexMap.{IndexMap, insert_entry}
use Rattle.c_lex.specs.declared.piece.NumberToken.{NumberToken}
use Rattle.c_lex.specs.Pieces.{Known, PlainNumber, meaning, may_define, is_name, is_reserved, begins_digit, is_nil}
use Rattle.c_lex.specs.Known.{plain_number, plain_entry, plain_known}

-- the map finds what a name stands for
pub meaning_of : (entries : List (Bor (List ℕ) × NumberToken)) (name : List ℕ) → meaning (plain_known entries) name ≡ option_map plain_number (lookup (λ key. bytes_eq name key.now) entries)
meaning_of [] name = refl
meaning_of (e ∷ entries) name = go (bytes_eq name e.0.now) (meaning_of entries name)
  where
    go : (c : Bool) → meaning (plain_known entries) name ≡ option_map plain_number (lookup (λ key. bytes_eq name key.now) entries)
        → cond c (Some (plain_number e.1)) (meaning (plain_known entries) name) ≡ option_map plain_number (cond c (Some e.1) (lookup (λ key. bytes_eq name key.now) entries))
    go true h = refl
    go false h = h

-- a name that may be defined isn't yet
pub may_be_new : (known : Known) (name run_on rest : List ℕ) → may_define known name run_on rest ≡ true → meaning known name ≡ None
may_be_new known name run_on rest h = go (is_name name) (is_reserved name) (meaning known name) h
  where
    go : (a b : Bool) (found : Option PlainNumber) → (a && not b && not (is_some found) && begins_digit run_on && is_nil rest) ≡ true → found ≡ None
    go a b None h = refl
    go false b (Some n) h = absurd cc
    go true true (Some n) h = absurd cc
    go true false (Some n) h = absurd cc

mapped_more : (entries : List (Bor (List ℕ) × NumberToken)) (entry : Bor (List ℕ) × NumberToken) → plain_known (entries ++ entry ∷ []) ≡ plain_known entries ++ plain_entry entry ∷ []
mapped_more [] entry = refl
mapped_more (e ∷ entries) entry = ap (λ es. plain_entry e ∷ es) (mapped_more entries entry)

nothing : (found : Option NumberToken) → option_map plain_number found ≡ None → found ≡ None
nothing None h = refl
nothing (Some n) h = absurd cc

-- a name that isn't defined is none of the map's
pub absent : (entries : List (Bor (List ℕ) × NumberToken)) (name : List ℕ) → meaning (plain_known entries) name ≡ None → lookup (λ key. bytes_eq name key.now) entries ≡ None
absent entries name h = nothing (lookup (λ key. bytes_eq name key.now) entries) (sym (meaning_of entries name) ∙ h)

-- a name that isn't in the map goes last
pub one_more : {S : Type 0} (known : IndexMap (Bor (List ℕ)) NumberToken S) (name : Bor (List ℕ)) (number : NumberToken) (after : List (Bor (List ℕ) × NumberToken))
    → meaning (plain_known known.entries) name.now ≡ None → after ≡ insert_entry (λ a b. bytes_eq a.now b.now) known.entries name number
    → plain_known after ≡ plain_known known.entries ++ (name.now, plain_number number) ∷ []
one_more known name number after none e =
    rw (e, insert_entry-new (λ (a b : Bor (List ℕ)). bytes_eq a.now b.now) known name number (absent known.entries name.now none)) (mapped_more known.entries (name, number))
