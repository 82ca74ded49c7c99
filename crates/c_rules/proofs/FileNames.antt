-- Names of file level, as a map holds them.
use Rattle.std.proofs.Common.{◌≡◌, ℕ, cond, ◌+◌, ◌<◌, if◌then◌else◌, length, get_or, drop, List, [], ◌∷◌, ◌++◌, map, Some, None, refl, sym, ap, ◌∙◌}
use Rattle.std.specs.Borrow.{Bor}
use Rattle.std.specs.Map.{lookup}
use Rattle.std.specs.Str.{bytes_eq}
use Rattle.indexmap.proofs.CallerLemmas.{insert_entry-new}
use Rattle.indexmap.specs.IndexMap.{IndexMap, insert_entry}
use Rattle.c_rules.specs.declared.meaning.Meaning.{Meaning}
use Rattle.std.proofs.lemmas.List.{drop_more}
use Rattle.c_unit.specs.declared.unit.Signature.{Signature}
use Rattle.c_rules.specs.Files.{file_named, function_named}
use Rattle.c_rules.specs.PlainFiles.{plain_entry, plain_files}

-- the map finds what a name means
pub found : (entries : List (Bor (List ℕ) × Meaning)) (name : List ℕ) → file_named (plain_files entries) name ≡ lookup (λ key. bytes_eq name key.now) entries
found [] name = refl
found (e ∷ entries) name = ap (λ f. cond (bytes_eq name e.0.now) (Some e.1) f) (found entries name)

mapped_more : (entries : List (Bor (List ℕ) × Meaning)) (entry : Bor (List ℕ) × Meaning) → plain_files (entries ++ entry ∷ []) ≡ plain_files entries ++ plain_entry entry ∷ []
mapped_more [] entry = refl
mapped_more (e ∷ entries) entry = ap (λ es. plain_entry e ∷ es) (mapped_more entries entry)

-- a name that isn't in the map goes last
pub one_more : {S : Type 0} (files : IndexMap (Bor (List ℕ)) Meaning S) (name : Bor (List ℕ)) (meaning : Meaning) (after : List (Bor (List ℕ) × Meaning))
    → file_named (plain_files files.entries) name.now ≡ None → after ≡ insert_entry (λ a b. bytes_eq a.now b.now) files.entries name meaning
    → plain_files after ≡ plain_files files.entries ++ (name.now, meaning) ∷ []
one_more files name meaning after none e =
    rw (e, insert_entry-new (λ (a b : Bor (List ℕ)). bytes_eq a.now b.now) files name meaning (sym (found files.entries name.now) ∙ none)) (mapped_more files.entries (name, meaning))

-- one more function is looked at
pub one_function : (fs : List (Bor Signature)) (name : List ℕ) (i : ℕ) (d : Bor Signature) → i < length fs
    → function_named (map (λ f. f.now) (drop i fs)) name
    ≡ (if bytes_eq name (get_or fs i d).now.name.text then Some (get_or fs i d).now else function_named (map (λ f. f.now) (drop (i + 1) fs)) name)
one_function fs name i d within = ap (λ xs. function_named (map (λ f. f.now) xs) name) (drop_more fs i d within)
