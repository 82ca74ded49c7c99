-- Files in a list, of which the first of a name counts.
use Rattle.std.proofs.Common.{◌≡◌, ℕ, suc, zero, ◌+◌, ◌<◌, ◌≤◌, Bool, true, false, cond, List, [], ◌∷◌, ◌++◌, length, get_or, set, refl, sym, ◌∙◌, ap, arith}
use Rattle.std.specs.Prelude.{Option, Some, None, position, bytes_eq, nat_lt, not}
use Rattle.std.specs.List.{position_or_len}
use Rattle.std.specs.declared.cmp.Ordering.{Ordering}
use Rattle.std.specs.declared.cmp.Ordering.TheVariants.{Less, Equal, Greater}
use Rattle.std.specs.Ordering.{nat_cmp, eq_by_cmp, is_eq}
use Rattle.std.specs.Cmp.Lexicographic.{slice_cmp, nat_list_cmp_total}
use Rattle.std.proofs.lemmas.Cmp.{eq_by_cmp_equiv}
use Rattle.std.proofs.lemmas.Map.Text.{is_eq-slice_cmp}
use Rattle.std.proofs.lemmas.Slice.Eq.{bytes_eq-Decides}
use Rattle.std.proofs.lemmas.List.Quantifiers.{position-Some}
use Rattle.std.proofs.lemmas.Bool.Decides.{nat_tests}
use Rattle.std.specs.FinMap.{find, from_entries, get, insert, get-from_entries, get-insert, from_entries_push, slice_cmp-IsAntisymmetric, nat_cmp-IsAntisymmetric}
use Rattle.std.specs.Option.{option_map_or}
use Rattle.chk_base.specs.Desk.{with_piece}
use Rattle.chk_base.proofs.Files.{same_files}

-- the order by which names are looked up
abbrev by_name : List ℕ → List ℕ → Ordering
by_name = slice_cmp nat_cmp

-- whether a file has this name
abbrev pub is_named : List ℕ → List ℕ × List ℕ → Bool
is_named name file = bytes_eq file.0 name

apart : (a b : List ℕ) → bytes_eq a b ≡ false → eq_by_cmp by_name b a ≡ false
apart a b differ = sym ((eq_by_cmp_equiv nat_list_cmp_total).symm a b) ∙ is_eq-slice_cmp a b ∙ differ

-- two look-ups of different names
in_any_order : (q a b : List ℕ) → bytes_eq a b ≡ false → (x y z : Option (List ℕ))
    → cond (eq_by_cmp by_name q a) x (cond (eq_by_cmp by_name q b) y z) ≡ cond (eq_by_cmp by_name q b) y (cond (eq_by_cmp by_name q a) x z)
in_any_order q a b differ x y z = at (by_name q a) refl
  where
    at : (r : Ordering) → by_name q a ≡ r → cond (is_eq r) x (cond (eq_by_cmp by_name q b) y z) ≡ cond (eq_by_cmp by_name q b) y (cond (is_eq r) x z)
    at Less is = refl
    at Greater is = refl
    at Equal is =
        let same : q ≡ a = slice_cmp-IsAntisymmetric nat_cmp-IsAntisymmetric q a is in
        let other : eq_by_cmp by_name q b ≡ false = ap (λ (n : List ℕ). eq_by_cmp by_name n b) same ∙ is_eq-slice_cmp a b ∙ differ in
        rw other refl

again : (b : Bool) (x y z : Option (List ℕ)) → cond b x z ≡ cond b x (cond b y z)
again true x y z = refl
again false x y z = refl

-- the file at a place is the first of its name
record IsFirst (name : List ℕ) (files : List (List ℕ × List ℕ)) (at : ℕ) (d : List ℕ × List ℕ) : Type 0 where
  within : at < length files
  named : is_named name (get_or files at d) ≡ true
  before : (k : ℕ) → k < at → is_named name (get_or files k d) ≡ false

later : (name : List ℕ) (file : List ℕ × List ℕ) (files : List (List ℕ × List ℕ)) (at : ℕ) (d : List ℕ × List ℕ) → IsFirst name (file ∷ files) (suc at) d → IsFirst name files at d
later name file files at d first =
    record { within = omega (arith, first.within); named = first.named; before = λ k below. first.before (suc k) (omega arith) }

-- it is found
found_first : (name : List ℕ) (files : List (List ℕ × List ℕ)) (at : ℕ) (d : List ℕ × List ℕ) → IsFirst name files at d → find by_name name files ≡ Some (get_or files at d).1
found_first name [] at d first = absurd (omega (arith, first.within))
found_first name (file ∷ files) zero d first =
    let same : eq_by_cmp by_name name file.0 ≡ true = sym ((eq_by_cmp_equiv nat_list_cmp_total).symm file.0 name) ∙ is_eq-slice_cmp file.0 name ∙ first.named in
    rw same refl
found_first name (file ∷ files) (suc at) d first =
    let other : eq_by_cmp by_name name file.0 ≡ false = apart file.0 name (first.before 0 (omega arith)) in
    rw other (found_first name files at d (later name file files at d first))

-- other bytes in it are found, and all else is as before
replaced_first : (name bytes q : List ℕ) (files : List (List ℕ × List ℕ)) (at : ℕ) (d : List ℕ × List ℕ) → IsFirst name files at d
    → find by_name q (set files at ((get_or files at d).0, bytes)) ≡ cond (eq_by_cmp by_name q name) (Some bytes) (find by_name q files)
replaced_first name bytes q [] at d first = absurd (omega (arith, first.within))
replaced_first name bytes q (file ∷ files) zero d first =
    let same : file.0 ≡ name = (bytes_eq-Decides file.0 name).0 first.named in
    rw same (again (eq_by_cmp by_name q name) (Some bytes) (Some file.1) (find by_name q files))
replaced_first name bytes q (file ∷ files) (suc at) d first =
    rw (replaced_first name bytes q files at d (later name file files at d first)) (in_any_order q file.0 name (first.before 0 (omega arith)) (Some file.1) (Some bytes) (find by_name q files))

first_at : (name : List ℕ) (files : List (List ℕ × List ℕ)) (at : ℕ) (d : List ℕ × List ℕ) → position (is_named name) files ≡ Some at → IsFirst name files at d
first_at name files at d is =
    let facts = position-Some (is_named name) files at d is in
    record { within = facts.0; named = facts.1; before = facts.2 }

-- a file is found at its place
pub get_at : (name : List ℕ) (files : List (List ℕ × List ℕ)) (at : ℕ) (d : List ℕ × List ℕ) → position (is_named name) files ≡ Some at → get (from_entries {R = by_name} files) name ≡ Some (get_or files at d).1
get_at name files at d is = get-from_entries nat_list_cmp_total files name ∙ found_first name files at d (first_at name files at d is)

-- other bytes at its place are other bytes of the file
pub put_at : (name bytes : List ℕ) (files : List (List ℕ × List ℕ)) (at : ℕ) (d : List ℕ × List ℕ) → position (is_named name) files ≡ Some at
    → from_entries {R = by_name} (set files at ((get_or files at d).0, bytes)) ≡ insert (from_entries files) name bytes
put_at name bytes files at d is =
    same_files _ _ (λ q.
    get-from_entries nat_list_cmp_total _ q
    ∙ replaced_first name bytes q files at d (first_at name files at d is)
    ∙ ap (cond (eq_by_cmp by_name q name) (Some bytes)) (sym (get-from_entries nat_list_cmp_total files q))
    ∙ sym (get-insert nat_list_cmp_total (from_entries files) name bytes q))

all_passed : (n len : ℕ) → cond (nat_lt n len) (Some n) None ≡ None → len ≤ n
all_passed n len none = grind (arith, nat_tests)

none_named_at : (name : List ℕ) (file : List ℕ × List ℕ) (files : List (List ℕ × List ℕ)) (named : Bool) → is_named name file ≡ named
    → length (file ∷ files) ≤ cond (not named) (1 + position_or_len (is_named name) files) 0
    → (length files ≤ position_or_len (is_named name) files → find by_name name files ≡ None) → find by_name name (file ∷ files) ≡ None
none_named_at name file files true is all rest = absurd (omega arith)
none_named_at name file files false is all rest = let other : eq_by_cmp by_name name file.0 ≡ false = apart file.0 name is in rw other (rest (omega arith))

none_named : (name : List ℕ) (files : List (List ℕ × List ℕ)) → length files ≤ position_or_len (is_named name) files → find by_name name files ≡ None
none_named name [] all = refl
none_named name (file ∷ files) all = none_named_at name file files _ refl all (none_named name files)

none_found : (name : List ℕ) (files : List (List ℕ × List ℕ)) → position (is_named name) files ≡ None → find by_name name files ≡ None
none_found name files is = none_named name files (all_passed _ _ is)

-- a file without a place isn't there
pub get_none : (name : List ℕ) (files : List (List ℕ × List ℕ)) → position (is_named name) files ≡ None → get (from_entries {R = by_name} files) name ≡ None
get_none name files is = get-from_entries nat_list_cmp_total files name ∙ none_found name files is

-- a file at the end is a file more
pub put_behind : (name bytes : List ℕ) (files : List (List ℕ × List ℕ)) → position (is_named name) files ≡ None
    → from_entries {R = by_name} (files ++ (name, bytes) ∷ []) ≡ insert (from_entries files) name bytes
put_behind name bytes files is = from_entries_push nat_list_cmp_total (slice_cmp-IsAntisymmetric nat_cmp-IsAntisymmetric) files name bytes (none_found name files is)

-- a piece at the end of the file at its place is a piece at its end
pub append_at : (name piece : List ℕ) (files : List (List ℕ × List ℕ)) (at : ℕ) (d : List ℕ × List ℕ) → position (is_named name) files ≡ Some at
    → from_entries {R = by_name} (set files at ((get_or files at d).0, (get_or files at d).1 ++ piece)) ≡ with_piece name piece (from_entries files)
append_at name piece files at d is =
    put_at name _ files at d is
    ∙ sym (ap (λ (file : Option (List ℕ)). option_map_or (λ bytes. insert (from_entries files) name (bytes ++ piece)) file (from_entries files)) (get_at name files at d is))

-- a file that isn't there gets no piece
pub append_none : (name piece : List ℕ) (files : List (List ℕ × List ℕ)) → position (is_named name) files ≡ None
    → from_entries {R = by_name} files ≡ with_piece name piece (from_entries files)
append_none name piece files is =
    sym (ap (λ (file : Option (List ℕ)). option_map_or (λ bytes. insert (from_entries files) name (bytes ++ piece)) file (from_entries files)) (get_none name files is))
