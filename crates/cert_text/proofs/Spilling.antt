-- A text that is appended to a file bit by bit.
use Rattle.std.proofs.Common.{◌≡◌, ℕ, ◌+◌, ◌≤◌, List, [], ◌∷◌, ◌++◌, length, take, drop, min, refl, sym, subst, ◌∙◌, ap, append_assoc, length-append, arith, rules}
use Rattle.std.specs.Prelude.{Option, Some, None, Result, Ok, Err, IsSome, option_map, if◌then◌else◌}
use Rattle.std.proofs.lemmas.List.{append-nil, take_all, take-append-drop}
use Rattle.std.proofs.Math.Seq.{take-append_seam}
use Rattle.chk_base.specs.Causes.{Rose, HasCause, is_fault_of}
use Rattle.chk_base.specs.declared.desk.PutFault.{PutFault}
use Rattle.chk_base.specs.declared.desk.PutFault.TheVariants as put
use Rattle.chk_base.specs.Desk.{DeskState, DeskFault, Append, Files, AppendsAll, is_put_failed, with_piece_at}
use Rattle.chk_base.proofs.Files.{with_no_piece, with_both_pieces}
use Rattle.chk_base.proofs.Rising.{rose_since}
use Rattle.cert_text.specs.Spills.{Spills}

all_with_none : (current : Option (List ℕ)) (o : Option Files) → o ≡ option_map (with_piece_at current []) o
all_with_none current None = refl
all_with_none current (Some files) = ap Some (sym (with_no_piece current files))

all_with_both : (current : Option (List ℕ)) (o : Option Files) (a b : List ℕ)
    → option_map (with_piece_at current b) (option_map (with_piece_at current a) o) ≡ option_map (with_piece_at current (a ++ b)) o
all_with_both current None a b = refl
all_with_both current (Some files) a b = ap Some (with_both_pieces current a b files)

-- what is put in memory is held
pub held_more : (a : DeskState) (held left piece : List ℕ) → left ≡ held ++ piece → Spills a a held left piece (Ok tt)
held_more a held left piece e =
    record {
      whole = ([], (e, all_with_none a.current a.files));
      cut = tt;
      current = refl;
      cause = record { later = omega arith; failed = λ fails. absurd (cc) };
      last_fault = refl;
    }

pub none : (a : DeskState) (held : List ℕ) → Spills a a held held [] (Ok tt)
none a held = held_more a held held [] (sym (append-nil held))

-- all that is held is appended
pub appended : (a b : DeskState) (held : List ℕ) → AppendsAll a b held (Ok tt) → Spills a b held [] [] (Ok tt)
appended a b held all =
    record {
      whole = (held, (refl, all.whole));
      cut = tt;
      current = all.current;
      cause = all.cause;
      last_fault = all.last_fault;
    }

pub refused : (a b : DeskState) (held left : List ℕ) (error : PutFault) → AppendsAll a b held (Err error) → Spills a b held left [] (Err error)
refused a b held left error all =
    record {
      whole = tt;
      cut = rw (append-nil held) all.cut;
      current = all.current;
      cause = all.cause;
      last_fault = all.last_fault;
    }

-- a cut of a front is one of the whole
cut_longer : (a b : DeskState) (xs ys : List ℕ)
    → ((n : ℕ) × (b.files ≡ option_map (with_piece_at a.current (take n xs)) a.files))
    → (n : ℕ) × (b.files ≡ option_map (with_piece_at a.current (take n (xs ++ ys))) a.files)
cut_longer a b xs ys (n, e) =
    let front : take n xs ≡ take (length (take n xs)) (xs ++ ys) =
    sym (take-append_seam (take n xs) (drop n xs ++ ys)) ∙ ap (take (length (take n xs))) (sym (append_assoc (take n xs) (drop n xs) ys) ∙ ap (λ (zs : List ℕ). zs ++ ys) (take-append-drop n xs)) in
    (length (take n xs), e ∙ ap (λ (zs : List ℕ). option_map (with_piece_at a.current zs) a.files) front)

-- where it stopped, more was to come
pub stopped : (a b : DeskState) (held left left' piece more : List ℕ) (error : PutFault) → Spills a b held left piece (Err error) → Spills a b held left' (piece ++ more) (Err error)
stopped a b held left left' piece more error s =
    record {
      whole = tt;
      cut = rw (← append_assoc held piece more) (cut_longer a b (held ++ piece) more s.cut);
      current = s.current;
      cause = s.cause;
      last_fault = s.last_fault;
    }

-- one piece after another
pub followed : (a b c : DeskState) (held between left piece more : List ℕ) (result : Result Unit PutFault)
    → Spills a b held between piece (Ok tt) → Spills b c between left more result → Spills a c held left (piece ++ more) result
followed a b c held between left piece more (Ok tt) s t =
    let files = t.whole.1.1
    ∙ ap (λ (d : Option (List ℕ)). option_map (with_piece_at d t.whole.0) b.files) s.current
    ∙ ap (option_map (with_piece_at a.current t.whole.0)) s.whole.1.1
    ∙ all_with_both a.current a.files s.whole.0 t.whole.0 in
    let parts : (s.whole.0 ++ t.whole.0) ++ left ≡ held ++ (piece ++ more) =
    append_assoc s.whole.0 t.whole.0 left ∙ ap (λ (xs : List ℕ). s.whole.0 ++ xs) t.whole.1.0 ∙ sym (append_assoc s.whole.0 between more)
    ∙ ap (λ (xs : List ℕ). xs ++ more) s.whole.1.0 ∙ append_assoc held piece more in
    record {
      whole = (s.whole.0 ++ t.whole.0, (parts, files));
      cut = tt;
      current = t.current ∙ s.current;
      cause = record { later = omega (arith, s.cause.later, t.cause.later); failed = λ fails. absurd (cc) };
      last_fault = t.last_fault ∙ s.last_fault;
    }
followed a b c held between left piece more (Err error) s t =
    let front : s.whole.0 ++ take t.cut.0 (between ++ more) ≡ take (length s.whole.0 + length (take t.cut.0 (between ++ more))) (held ++ (piece ++ more)) = go in
    let files = t.cut.1
    ∙ ap (λ (d : Option (List ℕ)). option_map (with_piece_at d (take t.cut.0 (between ++ more))) b.files) s.current
    ∙ ap (option_map (with_piece_at a.current (take t.cut.0 (between ++ more)))) s.whole.1.1
    ∙ all_with_both a.current a.files s.whole.0 (take t.cut.0 (between ++ more))
    ∙ ap (λ (xs : List ℕ). option_map (with_piece_at a.current xs) a.files) front in
    record {
      whole = tt;
      cut = (length s.whole.0 + length (take t.cut.0 (between ++ more)), files);
      current = t.current ∙ s.current;
      cause = record { later = omega (arith, s.cause.later, t.cause.later); failed = λ fails. rose_since a.faults b.faults c.faults s.cause.later (t.cause.failed fails) };
      last_fault = fault error t.last_fault;
    }
  where
    go : s.whole.0 ++ take t.cut.0 (between ++ more) ≡ take (length s.whole.0 + length (take t.cut.0 (between ++ more))) (held ++ (piece ++ more))
    go =
        let xs = take t.cut.0 (between ++ more) in
        let ys = drop t.cut.0 (between ++ more) in
        let whole : (s.whole.0 ++ xs) ++ ys ≡ held ++ (piece ++ more) =
        append_assoc s.whole.0 xs ys ∙ ap (λ (zs : List ℕ). s.whole.0 ++ zs) (take-append-drop t.cut.0 (between ++ more)) ∙ sym (append_assoc s.whole.0 between more)
        ∙ ap (λ (zs : List ℕ). zs ++ more) s.whole.1.0 ∙ append_assoc held piece more in
        let l : length (s.whole.0 ++ xs) ≡ length s.whole.0 + length xs = length-append s.whole.0 xs in
        sym (take-append_seam (s.whole.0 ++ xs) ys) ∙ ap (λ (n : ℕ). take n ((s.whole.0 ++ xs) ++ ys)) l ∙ ap (take (length s.whole.0 + length xs)) whole

    fault : (error : PutFault)
        → c.last_fault ≡ (if is_put_failed error then Some (Append b.current) else b.last_fault)
        → c.last_fault ≡ (if is_put_failed error then Some (Append a.current) else a.last_fault)
    fault put.Failed e = e ∙ ap (λ (d : Option (List ℕ)). Some (Append d)) s.current
    fault put.Memory e = e ∙ s.last_fault

-- no memory for what was to follow
pub no_memory : (a b : DeskState) (held between left piece more : List ℕ) → Spills a b held between piece (Ok tt) → Spills a b held left (piece ++ more) (Err put.Memory)
no_memory a b held between left piece more s =
    followed a b b held between left piece more (Err put.Memory) s
    (record {
      whole = tt;
      cut = (0, all_with_none b.current b.files);
      current = refl;
      cause = record { later = omega arith; failed = λ fails. absurd (cc) };
      last_fault = refl;
    })

-- all of it was appended, or a prefix of it
pub all_appended : (a b : DeskState) (piece : List ℕ) (left : List ℕ) (result : Result Unit PutFault) → IsSome a.current → Spills a b [] left piece result → (result ≡ Ok tt → left ≡ []) → AppendsAll a b piece result
all_appended a b piece left (Ok tt) begun s empty =
    let e : s.whole.0 ≡ piece = sym (append-nil s.whole.0) ∙ ap (λ (xs : List ℕ). s.whole.0 ++ xs) (sym (empty refl)) ∙ s.whole.1.0 in
    record {
      whole = s.whole.1.1 ∙ ap (λ (xs : List ℕ). option_map (with_piece_at a.current xs) a.files) e;
      cut = tt;
      current = s.current;
      none_begun = λ none some. absurd (cc);
      cause = s.cause;
      last_fault = s.last_fault;
    }
all_appended a b piece left (Err error) begun s empty =
    record {
      whole = tt;
      cut = s.cut;
      current = s.current;
      none_begun = λ none some. absurd (cc);
      cause = s.cause;
      last_fault = s.last_fault;
    }

-- ---- whole pieces, one after the other
not_none : (o : Option (List ℕ)) → IsSome o → o ≡ None → ⊥
not_none None some none = absurd cc
not_none (Some x) some none = absurd cc

begun_fault : (a b : DeskState) (now : Option DeskFault) (error : PutFault)
    → b.current ≡ a.current
    → b.last_fault ≡ a.last_fault
    → now ≡ (if is_put_failed error then Some (Append b.current) else b.last_fault)
    → now ≡ (if is_put_failed error then Some (Append a.current) else a.last_fault)
begun_fault a b now put.Failed current last e = e ∙ ap (λ (d : Option (List ℕ)). Some (Append d)) current
begun_fault a b now put.Memory current last e = e ∙ last

pub follows : (a b c : DeskState) (xs ys : List ℕ) (result : Result Unit PutFault) → IsSome a.current → AppendsAll a b xs (Ok tt) → AppendsAll b c ys result → AppendsAll a c (xs ++ ys) result
follows a b c xs ys (Ok tt) begun s t =
    record {
      whole =
          t.whole
          ∙ ap (λ (d : Option (List ℕ)). option_map (with_piece_at d ys) b.files) s.current
          ∙ ap (option_map (with_piece_at a.current ys)) s.whole
          ∙ all_with_both a.current a.files xs ys;
      cut = tt;
      current = t.current ∙ s.current;
      none_begun = λ none some. absurd (not_none a.current begun none);
      cause = record { later = omega (arith, s.cause.later, t.cause.later); failed = λ fails. absurd (cc) };
      last_fault = t.last_fault ∙ s.last_fault;
    }
follows a b c xs ys (Err error) begun s t =
    let n = t.cut.0 in
    let front : xs ++ take n ys ≡ take (length (xs ++ take n ys)) (xs ++ ys) =
    sym (take-append_seam (xs ++ take n ys) (drop n ys))
    ∙ ap (take (length (xs ++ take n ys))) (append_assoc xs (take n ys) (drop n ys) ∙ ap (λ (zs : List ℕ). xs ++ zs) (take-append-drop n ys)) in
    let files = t.cut.1
    ∙ ap (λ (d : Option (List ℕ)). option_map (with_piece_at d (take n ys)) b.files) s.current
    ∙ ap (option_map (with_piece_at a.current (take n ys))) s.whole
    ∙ all_with_both a.current a.files xs (take n ys)
    ∙ ap (λ (zs : List ℕ). option_map (with_piece_at a.current zs) a.files) front in
    record {
      whole = tt;
      cut = (length (xs ++ take n ys), files);
      current = t.current ∙ s.current;
      none_begun = λ none some. absurd (not_none a.current begun none);
      cause = record { later = omega (arith, s.cause.later, t.cause.later); failed = λ fails. rose_since a.faults b.faults c.faults s.cause.later (t.cause.failed fails) };
      last_fault = begun_fault a b c.last_fault error s.current s.last_fault t.last_fault;
    }

-- where it failed, more was to come
pub stops : (a b : DeskState) (xs ys : List ℕ) (error : PutFault) → IsSome a.current → AppendsAll a b xs (Err error) → AppendsAll a b (xs ++ ys) (Err error)
stops a b xs ys error begun s =
    record {
      whole = tt;
      cut = cut_longer a b xs ys s.cut;
      current = s.current;
      none_begun = λ none some. absurd (not_none a.current begun none);
      cause = s.cause;
      last_fault = s.last_fault;
    }

-- without memory nothing is appended
pub refuses : (a : DeskState) (xs : List ℕ) → IsSome a.current → AppendsAll a a xs (Err put.Memory)
refuses a xs begun =
    record {
      whole = tt;
      cut = (0, all_with_none a.current a.files);
      current = refl;
      none_begun = λ none some. absurd (not_none a.current begun none);
      cause = record { later = omega arith; failed = λ fails. absurd (cc) };
      last_fault = refl;
    }

-- ---- pieces that are put first
-- a piece was put in memory, and then this was spilled
pub put_and : {a b : DeskState} {held put left : List ℕ} (piece more : List ℕ) {result : Result Unit PutFault} → put ≡ held ++ piece → Spills a b put left more result → Spills a b held left (piece ++ more) result
put_and {a} {b} {held} {put} {left} piece more {result} is spills =
    followed a a b held put left piece more result (held_more a held put piece is) spills

pub put_then : {a b : DeskState} {held put left piece : List ℕ} {result : Result Unit PutFault} → put ≡ held ++ piece → Spills a b put left [] result → Spills a b held left piece result
put_then {a} {b} {held} {put} {left} {piece} {result} is spills =
    rw (← append-nil piece) (put_and piece [] is spills)

-- no memory for a piece
pub put_no_memory : (a : DeskState) (held left piece : List ℕ) → Spills a a held left piece (Err put.Memory)
put_no_memory a held left piece = no_memory a a held held left [] piece (none a held)

-- a piece was spilled, and another put in memory
pub then_held : {a b : DeskState} {held mid left : List ℕ} (piece more : List ℕ) → Spills a b held mid piece (Ok tt) → left ≡ mid ++ more → Spills a b held left (piece ++ more) (Ok tt)
then_held {a} {b} {held} {mid} {left} piece more spills is =
    followed a b b held mid left piece more (Ok tt) spills (held_more b mid left more is)

-- what was left is appended, and so all is
pub finished : {a b c : DeskState} {held left bytes text : List ℕ} {result : Result Unit PutFault} → IsSome a.current → held ≡ [] → Spills a b held left text (Ok tt) → bytes ≡ left → AppendsAll b c bytes result → AppendsAll a c text result
finished {a} {b} {c} {held} {left} {bytes} {text} {result} begun empty s all rest =
    let first : AppendsAll a b s.whole.0 (Ok tt) =
    record {
      whole = s.whole.1.1;
      cut = tt;
      current = s.current;
      none_begun = λ none some. absurd (not_none a.current begun none);
      cause = s.cause;
      last_fault = s.last_fault;
    } in
    let same : s.whole.0 ++ left ≡ text = s.whole.1.0 ∙ ap (λ (xs : List ℕ). xs ++ text) empty in
    subst (λ (xs : List ℕ). AppendsAll a c xs result) same (follows a b c s.whole.0 left result begun first (subst (λ (xs : List ℕ). AppendsAll b c xs result) all rest))

-- it stopped before all was put
pub cut_off : {a b : DeskState} {held left text : List ℕ} {error : PutFault} → IsSome a.current → held ≡ [] → Spills a b held left text (Err error) → AppendsAll a b text (Err error)
cut_off {a} {b} {held} {left} {text} {error} begun empty s =
    record {
      whole = tt;
      cut = (s.cut.0, s.cut.1 ∙ ap (λ (xs : List ℕ). option_map (with_piece_at a.current (take s.cut.0 (xs ++ text))) a.files) empty);
      current = s.current;
      none_begun = λ none some. absurd (not_none a.current begun none);
      cause = s.cause;
      last_fault = s.last_fault;
    }

-- the same piece, told otherwise
pub same_piece : {a b : DeskState} {held left piece other : List ℕ} {result : Result Unit PutFault} → piece ≡ other → Spills a b held left piece result → Spills a b held left other result
same_piece {a} {b} {held} {left} {piece} {other} {result} same s = subst (λ (xs : List ℕ). Spills a b held left xs result) same s
