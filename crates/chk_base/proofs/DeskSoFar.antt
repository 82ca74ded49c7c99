-- A loop that appends a piece part by part.
use Rattle.std.proofs.Common.{◌≡◌, ℕ, ◌-◌, ◌≤◌, List, [], ◌∷◌, ◌++◌, length, take, drop, refl, sym, ◌∙◌, ap, append_assoc, arith}
use Rattle.std.specs.Prelude.{Option, Some, None, Ok, Err, option_map, if◌then◌else◌}
use Rattle.std.proofs.lemmas.List.{take-append-drop, take_all, length-drop, append-nil}
use Rattle.std.proofs.Math.Seq.{take-append_seam}
use Rattle.chk_base.specs.declared.desk.PutFault.{PutFault}
use Rattle.chk_base.specs.declared.desk.PutFault.TheVariants as put
use Rattle.chk_base.specs.Desk.{DeskState, Append, Files, Appends, AppendsAll, is_put_failed, with_piece_at}
use Rattle.chk_base.proofs.Files.{with_no_piece, with_both_pieces}
use Rattle.chk_base.proofs.Rising.{rose_since}

-- a part of the piece is appended, and the rest is left
pub record SoFar (before now : DeskState) (piece done rest : List ℕ) : Type 0 where
  pub split : done ++ rest ≡ piece
  pub files : now.files ≡ option_map (with_piece_at before.current done) before.files
  pub current : now.current ≡ before.current
  pub none_begun : before.current ≡ None → done ≡ []
  pub later : before.faults ≤ now.faults
  pub last_fault : now.last_fault ≡ before.last_fault

all_with_none : (current : Option (List ℕ)) (o : Option Files) → o ≡ option_map (with_piece_at current []) o
all_with_none current None = refl
all_with_none current (Some files) = ap Some (sym (with_no_piece current files))

all_with_both : (current : Option (List ℕ)) (o : Option Files) (a b : List ℕ)
    → option_map (with_piece_at current b) (option_map (with_piece_at current a) o) ≡ option_map (with_piece_at current (a ++ b)) o
all_with_both current None a b = refl
all_with_both current (Some files) a b = ap Some (with_both_pieces current a b files)

pub so_far_none : (before : DeskState) (piece : List ℕ) → SoFar before before piece [] piece
so_far_none before piece =
    record { split = refl; files = all_with_none before.current before.files; current = refl; none_begun = λ none. refl; later = omega arith; last_fault = refl }

-- an append of n bytes of the rest
pub so_far_more : (before between now : DeskState) (piece done rest : List ℕ) (n : ℕ)
    → SoFar before between piece done rest → Appends between now rest (Ok n)
    → SoFar before now piece (done ++ take n rest) (take (length rest - n) (drop n rest))
so_far_more before between now piece done rest n so_far appends =
    let whole : take (length rest - n) (drop n rest) ≡ drop n rest = take_all _ _ (omega (arith, length-drop n rest)) in
    record {
      split = rw whole (append_assoc done (take n rest) (drop n rest) ∙ ap (λ (xs : List ℕ). done ++ xs) (take-append-drop n rest) ∙ so_far.split);
      files = appends.grown
          ∙ ap (λ (c : Option (List ℕ)). option_map (with_piece_at c (take n rest)) between.files) so_far.current
          ∙ ap (option_map (with_piece_at before.current (take n rest))) so_far.files
          ∙ all_with_both before.current before.files done (take n rest);
      current = appends.current ∙ so_far.current;
      none_begun = λ none. absurd (let failed = appends.none_begun (so_far.current ∙ none) in cc);
      later = omega (arith, so_far.later, appends.cause.later);
      last_fault = appends.last_fault ∙ so_far.last_fault;
    }

pub all_appended : (before now : DeskState) (piece done rest : List ℕ) → SoFar before now piece done rest → length rest ≡ 0 → AppendsAll before now piece (Ok tt)
all_appended before now piece done [] so_far none =
    let whole : done ≡ piece = sym (append-nil done) ∙ so_far.split in
    record {
      whole = so_far.files ∙ ap (λ (xs : List ℕ). option_map (with_piece_at before.current xs) before.files) whole;
      cut = tt;
      current = so_far.current;
      none_begun = λ none some. absurd (omega (arith, ap length (so_far.none_begun none), ap length whole));
      cause = record { later = so_far.later; failed = λ fails. absurd (cc) };
      last_fault = so_far.last_fault;
    }
all_appended before now piece done (b ∷ rest) so_far none = absurd (omega arith)

last_fault_cut : (before between now : DeskState) (piece done rest : List ℕ) (error : PutFault) → SoFar before between piece done rest → Appends between now rest (Err error)
    → now.last_fault ≡ (if is_put_failed error then Some (Append before.current) else before.last_fault)
last_fault_cut before between now piece done rest put.Failed so_far appends = appends.last_fault ∙ ap (λ (c : Option (List ℕ)). Some (Append c)) so_far.current
last_fault_cut before between now piece done rest put.Memory so_far appends = appends.last_fault ∙ so_far.last_fault

pub cut_short : (before between now : DeskState) (piece done rest : List ℕ) (error : PutFault)
    → SoFar before between piece done rest → Appends between now rest (Err error) → AppendsAll before now piece (Err error)
cut_short before between now piece done rest error so_far appends =
    record {
      whole = tt;
      cut = (length done, appends.files_kept ∙ so_far.files ∙ ap (λ (xs : List ℕ). option_map (with_piece_at before.current xs) before.files) (sym (take-append_seam done rest) ∙ ap (take (length done)) so_far.split));
      current = appends.current ∙ so_far.current;
      none_begun = λ none some. let failed = appends.none_begun (so_far.current ∙ none) in cc;
      cause = record { later = omega (arith, so_far.later, appends.cause.later); failed = λ fails. rose_since before.faults between.faults now.faults so_far.later (appends.cause.failed fails) };
      last_fault = last_fault_cut before between now piece done rest error so_far appends;
    }
