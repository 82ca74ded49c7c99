-- A loop that writes a piece part by part.
use Rattle.std.proofs.Common.{◌≡◌, ℕ, ◌-◌, ◌≤◌, List, [], ◌∷◌, ◌++◌, length, take, drop, refl, sym, ◌∙◌, ap, append_assoc, arith}
use Rattle.std.specs.Prelude.{Option, Some, None, Ok, Err, option_map}
use Rattle.std.proofs.lemmas.List.{take-append-drop, take_all, length-drop, append-nil}
use Rattle.std.proofs.Math.Seq.{take-append_seam}
use Rattle.chk_base.specs.declared.sink.Failed.{Failed}
use Rattle.chk_base.specs.Sink.{SinkState, Writes, WritesAll, followed_by}
use Rattle.chk_base.proofs.Rising.{rose_since}

-- a part of the piece is written, and the rest is left
pub record SoFar (before now : SinkState) (piece done rest : List ℕ) : Type 0 where
  pub split : done ++ rest ≡ piece
  pub written : now.written ≡ option_map (followed_by done) before.written
  pub later : before.faults ≤ now.faults

followed_by_none : (o : Option (List ℕ)) → o ≡ option_map (followed_by []) o
followed_by_none None = refl
followed_by_none (Some bytes) = ap Some (sym (append-nil bytes))

followed_by_both : (o : Option (List ℕ)) (a b : List ℕ) → option_map (followed_by b) (option_map (followed_by a) o) ≡ option_map (followed_by (a ++ b)) o
followed_by_both None a b = refl
followed_by_both (Some bytes) a b = ap Some (append_assoc bytes a b)

pub so_far_none : (before : SinkState) (piece : List ℕ) → SoFar before before piece [] piece
so_far_none before piece = record { split = refl; written = followed_by_none before.written; later = omega arith }

-- a write of n bytes of the rest
pub so_far_more : (before between now : SinkState) (piece done rest : List ℕ) (n : ℕ)
    → SoFar before between piece done rest → Writes between now rest (Ok n)
    → SoFar before now piece (done ++ take n rest) (take (length rest - n) (drop n rest))
so_far_more before between now piece done rest n so_far writes =
    let whole : take (length rest - n) (drop n rest) ≡ drop n rest = take_all _ _ (omega (arith, length-drop n rest)) in
    record {
      split = rw whole (append_assoc done (take n rest) (drop n rest) ∙ ap (λ (xs : List ℕ). done ++ xs) (take-append-drop n rest) ∙ so_far.split);
      written = writes.grown ∙ ap (option_map (followed_by (take n rest))) so_far.written ∙ followed_by_both before.written done (take n rest);
      later = omega (arith, so_far.later, writes.cause.later);
    }

pub all_written : (before now : SinkState) (piece done rest : List ℕ) → SoFar before now piece done rest → length rest ≡ 0 → WritesAll before now piece (Ok tt)
all_written before now piece done [] so_far none =
    record {
      whole = rw (← so_far.split, append-nil) so_far.written;
      cut = tt;
      cause = record { later = so_far.later; failed = λ fails. absurd (cc) };
    }
all_written before now piece done (b ∷ rest) so_far none = absurd (omega arith)

pub cut_short : (before between now : SinkState) (piece done rest : List ℕ) (error : Failed)
    → SoFar before between piece done rest → Writes between now rest (Err error) → WritesAll before now piece (Err error)
cut_short before between now piece done rest error so_far writes =
    record {
      whole = tt;
      cut = (length done, writes.kept ∙ so_far.written ∙ ap (λ (xs : List ℕ). option_map (followed_by xs) before.written) (sym (take-append_seam done rest) ∙ ap (take (length done)) so_far.split));
      cause = record { later = omega (arith, so_far.later, writes.cause.later); failed = λ fails. rose_since before.faults between.faults now.faults so_far.later (writes.cause.failed fails) };
    }
