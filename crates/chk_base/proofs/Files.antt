-- Files as finite maps.
use Rattle.std.proofs.Common.{◌≡◌, ℕ, Bool, true, false, cond, List, [], ◌++◌, refl, sym, ◌∙◌, ap, append_assoc}
use Rattle.std.specs.Prelude.{Option, Some, None, IsSome}
use Rattle.std.specs.Option.{option_map_or}
use Rattle.std.specs.declared.cmp.Ordering.{Ordering}
use Rattle.std.specs.declared.cmp.Ordering.TheVariants.{Less, Equal, Greater}
use Rattle.std.specs.Ordering.{nat_cmp, eq_by_cmp, is_eq}
use Rattle.std.specs.Cmp.Lexicographic.{slice_cmp, nat_list_cmp_total}
use Rattle.std.proofs.lemmas.Cmp.{tied_itself}
use Rattle.std.proofs.lemmas.List.{append-nil}
use Rattle.std.specs.FinMap.{get, insert, get-insert, get_tied, same_map, slice_cmp-IsAntisymmetric, nat_cmp-IsAntisymmetric}
use Rattle.chk_base.specs.Desk.{Files, with_piece, with_piece_at}
use Rattle.chk_base.specs.MemDesk.{HasCurrent}

-- two maps that answer alike are equal
pub same_files : (m n : Files) → ((name : List ℕ) → get m name ≡ get n name) → m ≡ n
same_files m n alike = same_map nat_list_cmp_total (slice_cmp-IsAntisymmetric nat_cmp-IsAntisymmetric) m n alike

-- a file is read as it was put
pub get_inserted : (m : Files) (name bytes : List ℕ) → get (insert m name bytes) name ≡ Some bytes
get_inserted m name bytes =
    get-insert nat_list_cmp_total m name bytes name ∙ ap (λ (r : Ordering). cond (is_eq r) (Some bytes) (get m name)) (tied_itself nat_list_cmp_total name)

again : (b : Bool) (x y z : Option (List ℕ)) → cond b x (cond b y z) ≡ cond b x z
again true x y z = refl
again false x y z = refl

-- of two files put under one name the later one stands
pub insert_again : (m : Files) (name a b : List ℕ) → insert (insert m name a) name b ≡ insert m name b
insert_again m name a b =
    same_files _ _ (λ q.
    get-insert nat_list_cmp_total (insert m name a) name b q
    ∙ ap (cond (eq_by_cmp (slice_cmp nat_cmp) q name) (Some b)) (get-insert nat_list_cmp_total m name a q)
    ∙ again (eq_by_cmp (slice_cmp nat_cmp) q name) (Some b) (Some a) (get m q)
    ∙ sym (get-insert nat_list_cmp_total m name b q))

there_already : (m : Files) (name bytes q : List ℕ) → get m name ≡ Some bytes → (r : Ordering) → slice_cmp nat_cmp q name ≡ r
    → cond (is_eq r) (Some bytes) (get m q) ≡ get m q
there_already m name bytes q there Less is = refl
there_already m name bytes q there Equal is = sym there ∙ get_tied nat_list_cmp_total m q name is
there_already m name bytes q there Greater is = refl

-- to put what is there changes nothing
pub insert_there : (m : Files) (name bytes : List ℕ) → get m name ≡ Some bytes → insert m name bytes ≡ m
insert_there m name bytes there =
    same_files _ _ (λ q. get-insert nat_list_cmp_total m name bytes q ∙ there_already m name bytes q there _ refl)

no_piece : (m : Files) (name : List ℕ) (file : Option (List ℕ)) → get m name ≡ file → option_map_or (λ bytes. insert m name (bytes ++ [])) file m ≡ m
no_piece m name None is = refl
no_piece m name (Some bytes) is = ap (insert m name) (append-nil bytes) ∙ insert_there m name bytes is

both_pieces : (m : Files) (name a b : List ℕ) (file : Option (List ℕ)) → get m name ≡ file
    → with_piece name b (option_map_or (λ bytes. insert m name (bytes ++ a)) file m) ≡ option_map_or (λ bytes. insert m name (bytes ++ (a ++ b))) file m
both_pieces m name a b None is = ap (λ (file : Option (List ℕ)). option_map_or (λ bytes. insert m name (bytes ++ b)) file m) is
both_pieces m name a b (Some bytes) is =
    ap (λ (file : Option (List ℕ)). option_map_or (λ old. insert (insert m name (bytes ++ a)) name (old ++ b)) file (insert m name (bytes ++ a))) (get_inserted m name (bytes ++ a))
    ∙ insert_again m name (bytes ++ a) ((bytes ++ a) ++ b)
    ∙ ap (insert m name) (append_assoc bytes a b)

-- an empty piece changes nothing
pub with_no_piece : (current : Option (List ℕ)) (m : Files) → with_piece_at current [] m ≡ m
with_no_piece None m = refl
with_no_piece (Some name) m = no_piece m name _ refl

-- two pieces, one after the other, are one
pub with_both_pieces : (current : Option (List ℕ)) (a b : List ℕ) (m : Files) → with_piece_at current b (with_piece_at current a m) ≡ with_piece_at current (a ++ b) m
with_both_pieces None a b m = refl
with_both_pieces (Some name) a b m = both_pieces m name a b _ refl

put_there : (m : Files) (name bytes q : List ℕ) → IsSome (get m q) → IsSome (get (insert m name bytes) q)
put_there m name bytes q there = rw (get-insert nat_list_cmp_total m name bytes q) (either (eq_by_cmp (slice_cmp nat_cmp) q name))
  where
    either : (b : Bool) → IsSome (cond b (Some bytes) (get m q))
    either true = refl
    either false = there

-- a file that was put is there
pub put_is_there : (m : Files) (name bytes : List ℕ) → HasCurrent (insert m name bytes) (Some name)
put_is_there m name bytes = rw (get_inserted m name bytes) refl

-- a current file is there after another is put
pub put_stays_there : (m : Files) (name bytes : List ℕ) (current : Option (List ℕ)) → HasCurrent m current → HasCurrent (insert m name bytes) current
put_stays_there m name bytes None there = tt
put_stays_there m name bytes (Some q) there = put_there m name bytes q there

piece_there : (m : Files) (name piece : List ℕ) (file : Option (List ℕ)) (current : Option (List ℕ)) → HasCurrent m current → HasCurrent (option_map_or (λ bytes. insert m name (bytes ++ piece)) file m) current
piece_there m name piece None current there = there
piece_there m name piece (Some bytes) current there = put_stays_there m name (bytes ++ piece) current there

-- a current file is there after a piece was put at the end of a file
pub piece_stays_there : (m : Files) (name piece : List ℕ) (current : Option (List ℕ)) → HasCurrent m current → HasCurrent (with_piece name piece m) current
piece_stays_there m name piece current there = piece_there m name piece _ current there
