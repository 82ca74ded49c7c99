-- Texts that are written one after another.
use Rattle.std.proofs.Common.{◌≡◌, ℕ, zero, suc, ◌+◌, ◌<◌, ◌≤◌, List, [], ◌∷◌, ◌++◌, take, drop, drop-cons, get_or, length, add-one, Option, Some, None, Result, Ok, Err, refl, ap, sym, ◌∙◌, append_assoc, arith}
use Rattle.std.specs.Prelude.{option_map}
use Rattle.std.proofs.lemmas.List.{append-nil, length-take, take-append-drop}
use Rattle.std.proofs.Math.Seq.{take-append-add, take-suc}
use Rattle.chk_base.specs.Causes.{Rose}
use Rattle.chk_base.specs.Sink.{SinkState, followed_by}
use Rattle.report.specs.declared.reports.WriteFault.{WriteFault}
use Rattle.report.specs.Lines.{each}
use Rattle.report.specs.Printing.{Prints}

-- the sink that has these bytes behind others
twice : (w : Option (List ℕ)) (a b : List ℕ) → option_map (followed_by b) (option_map (followed_by a) w) ≡ option_map (followed_by (a ++ b)) w
twice None a b = refl
twice (Some w) a b = ap Some (append_assoc w a b)

nothing : (w : Option (List ℕ)) → w ≡ option_map (followed_by []) w
nothing None = refl
nothing (Some w) = ap Some (sym (append-nil w))

-- a count that rose in a later call rose since an earlier one
rose_since : (before between now : ℕ) → before ≤ between → Rose between now → Rose before now
rose_since before between now later rose = omega arith

-- a text, and then another
pub prints_then : {s t v : SinkState} {a b : List ℕ} {u : Unit {0}} {r : Result (Unit {0}) WriteFault} → Prints s t a (Ok u) → Prints t v b r → Prints s v (a ++ b) r
prints_then {s = s} {t = t} {v = v} {a = a} {b = b} {r = Ok w} first second =
    record {
      whole = second.whole ∙ ap (option_map (followed_by b)) first.whole ∙ twice s.written a b;
      cut = tt;
      cause = record { later = omega (arith, first.cause.later, second.cause.later); failed = λ fails. absurd (cc) };
    }
prints_then {s = s} {t = t} {v = v} {a = a} {b = b} {r = Err e} first second =
    record {
      whole = tt;
      cut = (length a + second.cut.0, second.cut.1 ∙ ap (option_map (followed_by (take second.cut.0 b))) first.whole ∙ twice s.written a (take second.cut.0 b) ∙ ap (λ (xs : List ℕ). option_map (followed_by xs) s.written) (sym (take-append-add a b second.cut.0)));
      cause = record { later = omega (arith, first.cause.later, second.cause.later); failed = λ fails. rose_since s.faults t.faults v.faults first.cause.later (second.cause.failed fails) };
    }

-- a prefix of a text is one of the longer text
prefix_of : (n : ℕ) (a b : List ℕ) → (m : ℕ) × (take m (a ++ b) ≡ take n a)
prefix_of zero a b = (0, refl)
prefix_of (suc n) [] b = (0, refl)
prefix_of (suc n) (x ∷ a) b = let p = prefix_of n a b in (suc p.0, ap (λ (xs : List ℕ). x ∷ xs) p.1)

-- a text that was cut is a longer one that was cut
pub prints_cut : {s t : SinkState} {a : List ℕ} (b : List ℕ) {e : WriteFault} → Prints s t a (Err e) → Prints s t (a ++ b) (Err e)
prints_cut {s = s} {a = a} b first =
    let p = prefix_of first.cut.0 a b in
    record {
      whole = tt;
      cut = (p.0, first.cut.1 ∙ ap (λ (xs : List ℕ). option_map (followed_by xs) s.written) (sym p.1));
      cause = first.cause;
    }

-- one fault is as good as another
pub prints_failed : {s t : SinkState} {a : List ℕ} {e f : WriteFault} → Prints s t a (Err e) → Prints s t a (Err f)
prints_failed first = record { whole = tt; cut = first.cut; cause = record { later = first.cause.later; failed = λ fails. first.cause.failed fails } }

-- nothing was written
pub prints_nothing : (s : SinkState) (u : Unit {0}) → Prints s s [] (Ok u)
prints_nothing s u =
    record { whole = nothing s.written; cut = tt; cause = record { later = omega arith; failed = λ fails. absurd (cc) } }

-- ---- texts one after another

module _ {A : Type 0} (text : ℕ → A → List ℕ) where
  each-append : (n : ℕ) (xs ys : List A) → each text n (xs ++ ys) ≡ each text n xs ++ each text (n + length xs) ys
  each-append n [] ys = let start : n + 0 ≡ n = omega arith in rw start refl
  each-append n (x ∷ xs) ys =
      let next : n + suc (length xs) ≡ (n + 1) + length xs = omega arith in
      rw next (ap (λ (ls : List ℕ). text n x ++ ls) (each-append (n + 1) xs ys) ∙ sym (append_assoc (text n x) (each text (n + 1) xs) (each text ((n + 1) + length xs) ys)))

  -- one more text
  pub each_next : (n : ℕ) (xs : List A) (i m : ℕ) (x : A) {s t v : SinkState} {u w : Unit {0}} → i < length xs → x ≡ get_or xs i x → m ≡ n + i → Prints s t (each text n (take i xs)) (Ok u) → Prints t v (text m x) (Ok w) → Prints s v (each text n (take (i + 1) xs)) (Ok w)
  each_next n xs i m x {s = s} {t = t} {v = v} {u = u} {w = w} within is number so_far more =
      let at : n + length (take i xs) ≡ m = omega (arith, length-take i xs, number) in
      let all : each text n (take (i + 1) xs) ≡ each text n (take i xs) ++ text m x =
      rw (add-one, take-suc xs i x, ← is) (each-append n (take i xs) (x ∷ []) ∙ ap (λ (k : ℕ). each text n (take i xs) ++ each text k (x ∷ [])) at ∙ ap (λ (ls : List ℕ). each text n (take i xs) ++ ls) (append-nil (text m x))) in
      rw all (prints_then so_far more)

  -- one that is cut
  pub each_cut : (n : ℕ) (xs : List A) (i m : ℕ) (x : A) {s t v : SinkState} {u : Unit {0}} {e f : WriteFault} → i < length xs → x ≡ get_or xs i x → m ≡ n + i → Prints s t (each text n (take i xs)) (Ok u) → Prints t v (text m x) (Err e) → Prints s v (each text n xs) (Err f)
  each_cut n xs i m x within is number so_far more =
      let at : n + length (take i xs) ≡ m = omega (arith, length-take i xs, number) in
      let rest : drop i xs ≡ x ∷ drop (suc i) xs = rw (drop-cons xs i x within, ← is) refl in
      let all : each text n xs ≡ each text n (take i xs) ++ (text m x ++ each text (m + 1) (drop (suc i) xs)) =
      ap (each text n) (sym (take-append-drop i xs)) ∙ (each-append n (take i xs) (drop i xs) ∙ ap (λ (k : ℕ). each text n (take i xs) ++ each text k (drop i xs)) at ∙ ap (λ (ys : List A). each text n (take i xs) ++ each text m ys) rest) in
      rw all (prints_failed (prints_then so_far (prints_cut _ more)))
