-- What reading a text says of it, in plain words.
use Rattle.std.proofs.Common.{◌≡◌, ℕ, ◌+◌, ◌-◌, ◌<◌, ◌≤◌, Bool, true, false, ◌⊎◌, inl, inr, cond, List, [], ◌∷◌, ◌++◌, length, take, get_or, length-append, append_assoc, refl, sym, ap, subst, ◌∙◌, arith}
use Rattle.std.proofs.lemmas.Bool.{and_parts, and_from}
use Rattle.std.proofs.lemmas.List.{take_more, take_all}
use Rattle.std.proofs.Math.Seq.{take-append_seam}
use Rattle.format.specs.Format.{Answer, Got, Stuck}
use Rattle.format.specs.Faults.{IsWhole}
use Rattle.grammar.specs.FirstFault.{IsFirstFault, IsCutOff, HasFirstFault, HasOneOutcome}
use Rattle.format.proofs.Exact.{only, got_of, stuck_of, map_got_of, map_got_stuck}
use Rattle.cert_form.specs.Words.{Token}
use Rattle.cert_form.specs.Certificate.{Certificate, certificate}
use Rattle.cert_form.specs.CertificateText.{certificate_words}
use Rattle.cert_form.specs.IsCertificate.{is_certificate, IsCertificateText}
use Rattle.cert_form.specs.Texts.{tokens, concat, is_of_word, is_byte, join, begins_word}
use Rattle.cert_form.specs.Parts.{Kept, kept, certificate_read}
use Rattle.cert_form.specs.Answers.{IsFaultAt, IsReadAs, are_bytes}
use Rattle.cert_form.specs.Verdicts.{ending_of}
use Rattle.cert_form.specs.declared.reading.Parts.{Parts}
use Rattle.cert_form.proofs.Certificate.{certificate_exact}
use Rattle.cert_form.proofs.Plain.{certificate_spelled}
use Rattle.cert_form.proofs.Valid.{certificate_same}
use Rattle.cert_form.proofs.Laws.{whole, first_fault, left_over, too_short}
use Rattle.cert_form.proofs.Readers.{tokens_empty}
use Rattle.cert_form.proofs.Texts.{concat_tokens}

-- ---- the format's whole texts are those of certificates

plain_of : (ts : List Token) → IsWhole certificate ts → IsCertificateText ts
plain_of ts w = (w.0, (certificate_same w.0).there w.1.valid, w.1.spelled ∙ certificate_spelled w.0 w.1.valid)

whole_of : (ts : List Token) → IsCertificateText ts → IsWhole certificate ts
whole_of ts p = let v = (certificate_same p.0).back p.1 in (p.0, record { valid = v; spelled = p.2 ∙ sym (certificate_spelled p.0 v) })

abbrev fault_of : (ts : List Token) (bad : Token) (rest : List Token) → IsFirstFault (IsWhole certificate) ts bad rest → IsFirstFault IsCertificateText ts bad rest
fault_of ts bad rest f = record {
  before = f.before;
  parts = f.parts;
  goes_on = record { more = f.goes_on.more; whole = plain_of (f.before ++ f.goes_on.more) f.goes_on.whole };
  no_more = λ p. f.no_more (record { more = p.more; whole = whole_of ((f.before ++ bad ∷ []) ++ p.more) p.whole });
}

cut_of : (ts : List Token) → IsCutOff (IsWhole certificate) ts → IsCutOff IsCertificateText ts
cut_of ts c = record {
  goes_on = record { more = c.goes_on.more; whole = plain_of (ts ++ c.goes_on.more) c.goes_on.whole };
  not_whole = λ w. c.not_whole (whole_of ts w);
}

-- ---- a certificate is determined by its text, and each text has one outcome

pub one_certificate : (c d : Certificate) → is_certificate c ≡ true → is_certificate d ≡ true → certificate_words c ≡ certificate_words d → c ≡ d
one_certificate c d v w e =
    let vc = (certificate_same c).back v in
    let vd = (certificate_same d).back w in
    only certificate certificate_exact (certificate_words c) c d (record { valid = vc; spelled = sym (certificate_spelled c vc) }) (record { valid = vd; spelled = e ∙ sym (certificate_spelled d vd) })

pub one_outcome : (ts : List Token) → HasOneOutcome IsCertificateText ts
one_outcome ts = record {
  one = go (certificate.read ts) refl;
  whole_or_fault = λ w f. let g = f.2 in g.no_more (record { more = f.1; whole = subst IsCertificateText (g.parts ∙ sym (append_assoc g.before (f.0 ∷ []) f.1)) w });
  whole_or_cut_off = λ w c. c.not_whole w;
  fault_or_cut_off = λ f c. let g = f.2 in g.no_more (record { more = f.1 ++ c.goes_on.more; whole = subst IsCertificateText (ap (λ w. w ++ c.goes_on.more) g.parts ∙ append_assoc g.before (f.0 ∷ f.1) c.goes_on.more ∙ sym (append_assoc g.before (f.0 ∷ []) (f.1 ++ c.goes_on.more))) c.goes_on.whole });
}
  where
    go : (a : Answer Certificate Token) → certificate.read ts ≡ a → IsCertificateText ts ⊎ (HasFirstFault IsCertificateText ts ⊎ IsCutOff IsCertificateText ts)
    go (Got c []) e = let w = whole ts c e in inl (c, (certificate_same c).there w.0, w.1)
    go (Got c (bad ∷ rest)) e = inr (inl (bad, rest, fault_of ts bad rest (left_over ts c bad rest e)))
    go (Stuck []) e = inr (inr (cut_of ts (too_short ts e)))
    go (Stuck (bad ∷ rest)) e = inr (inl (bad, rest, fault_of ts bad rest (first_fault ts bad rest e)))

-- ---- bytes and tokens

concat_append : (xs ys : List Token) → concat (xs ++ ys) ≡ concat xs ++ concat ys
concat_append [] ys = refl
concat_append (x ∷ xs) ys = ap (λ w. x ++ w) (concat_append xs ys) ∙ sym (append_assoc x (concat xs) (concat ys))

-- a text that isn't empty has a first token
tokens_some : (rest : List ℕ) → 0 < length rest → (t : Token) × (ts : List Token) × (tokens rest ≡ t ∷ ts)
unfolding tokens
tokens_some [] h = absurd (omega arith)
tokens_some (b ∷ bs) h = go (is_of_word b) (tokens bs)
  where
    joined : (ts : List Token) → (t : Token) × (us : List Token) × (join b ts ≡ t ∷ us)
    joined [] = (b ∷ [], [], refl)
    joined (t ∷ ts) = test (begins_word t)
      where
        test : (c : Bool) → (u : Token) × (us : List Token) × (cond c ((b ∷ t) ∷ ts) ((b ∷ []) ∷ (t ∷ ts)) ≡ u ∷ us)
        test true = (b ∷ t, ts, refl)
        test false = (b ∷ [], t ∷ ts, refl)

    go : (c : Bool) (ts : List Token) → (t : Token) × (us : List Token) × (cond c (join b ts) ((b ∷ []) ∷ ts) ≡ t ∷ us)
    go true ts = joined ts
    go false ts = (b ∷ [], ts, refl)

split_text : (text rest : List ℕ) (before : List Token) → tokens text ≡ before ++ tokens rest → text ≡ concat before ++ rest
split_text text rest before e = sym (concat_tokens text) ∙ ap concat e ∙ concat_append before (tokens rest) ∙ ap (λ w. concat before ++ w) (concat_tokens rest)

at_fault : (text rest : List ℕ) (t : Token) (ts : List Token) → tokens rest ≡ t ∷ ts → IsFirstFault (IsWhole certificate) (tokens text) t ts → IsFaultAt text (length text - length rest)
at_fault text rest t ts e f =
    let s : text ≡ concat f.before ++ rest = split_text text rest f.before (f.parts ∙ ap (λ w. f.before ++ w) (sym e)) in
    let l : length text ≡ length (concat f.before) + length rest = ap length s ∙ length-append (concat f.before) rest in
    let o : length text - length rest ≡ length (concat f.before) = omega (arith, l) in
    record {
      bad = t;
      rest = ts;
      fault = fault_of (tokens text) t ts f;
      within = omega arith;
      before = ap (λ n. take n text) o ∙ ap (λ w. take (length (concat f.before)) w) s ∙ take-append_seam (concat f.before) rest;
    }

module _ (text rest : List ℕ) where
  pub stuck_at : certificate_read (tokens text) ≡ Stuck (tokens rest) → 0 < length rest → IsFaultAt text (length text - length rest)
  unfolding certificate_read
  stuck_at e some =
      let t = tokens_some rest some in
      let s = map_got_stuck kept (certificate.read (tokens text)) (tokens rest) e in
      at_fault text rest t.0 t.1 t.2 (first_fault (tokens text) t.0 t.1 (s ∙ ap (λ w. Stuck w) t.2))

  pub left_at : (k : Kept) → certificate_read (tokens text) ≡ Got k (tokens rest) → 0 < length rest → IsFaultAt text (length text - length rest)
  unfolding certificate_read
  left_at k e some =
      let t = tokens_some rest some in
      let g = map_got_of kept (certificate.read (tokens text)) k (tokens rest) e in
      at_fault text rest t.0 t.1 t.2 (left_over (tokens text) g.0 t.0 t.1 (g.1 ∙ ap (λ w. Got g.0 w) t.2))

  pub cut_at : certificate_read (tokens text) ≡ Stuck (tokens rest) → length rest ≡ 0 → IsCutOff IsCertificateText (tokens text)
  unfolding certificate_read
  cut_at e none =
      let s = map_got_stuck kept (certificate.read (tokens text)) (tokens rest) e in
      cut_of (tokens text) (too_short (tokens text) (s ∙ ap (λ w. Stuck w) (tokens_empty rest none)))

  pub read_as : (k : Kept) → certificate_read (tokens text) ≡ Got k (tokens rest) → length rest ≡ 0 → (c : Certificate) × (is_certificate c ≡ true) × (tokens text ≡ certificate_words c) × (kept c ≡ k)
  unfolding certificate_read
  read_as k e none =
      let g = map_got_of kept (certificate.read (tokens text)) k (tokens rest) e in
      let w = whole (tokens text) g.0 (g.1 ∙ ap (λ w. Got g.0 w) (tokens_empty rest none)) in
      (g.0, (certificate_same g.0).there w.0, w.1, g.2)

  pub is_read : (parts : Parts) → certificate_read (tokens text) ≡ Got (parts.budget, (parts.formula.variables, (parts.formula.clauses, (parts.goal, (parts.log, ending_of parts.outcome))))) (tokens rest) → length rest ≡ 0 → IsReadAs text parts
  is_read parts e none =
      let r = read_as (parts.budget, (parts.formula.variables, (parts.formula.clauses, (parts.goal, (parts.log, ending_of parts.outcome))))) e none in
      let k = r.3 in
      record {
        certificate = r.0;
        valid = r.1;
        spelled = r.2;
        budget = sym (ap (λ (x : Kept). x.0) k);
        variables = sym (ap (λ (x : Kept). x.1.0) k);
        clauses = sym (ap (λ (x : Kept). x.1.1.0) k);
        goal = sym (ap (λ (x : Kept). x.1.1.1.0) k);
        log = sym (ap (λ (x : Kept). x.1.1.1.1.0) k);
        ending = sym (ap (λ (x : Kept). x.1.1.1.1.1) k);
      }

  -- what is left is no longer than the text
  pub left_within : (k : Kept) → certificate_read (tokens text) ≡ Got k (tokens rest) → length rest ≤ length text
  unfolding certificate_read
  left_within k e =
      let g = map_got_of kept (certificate.read (tokens text)) k (tokens rest) e in
      let h = got_of certificate certificate_exact (tokens text) g.0 (tokens rest) g.1 in
      let l : length text ≡ length (concat (certificate.spell g.0)) + length rest = ap length (split_text text rest (certificate.spell g.0) h.parts) ∙ length-append (concat (certificate.spell g.0)) rest in
      omega (arith, l)

  pub stuck_within : certificate_read (tokens text) ≡ Stuck (tokens rest) → length rest ≤ length text
  unfolding certificate_read
  stuck_within e =
      let s = map_got_stuck kept (certificate.read (tokens text)) (tokens rest) e in
      let h = stuck_of certificate certificate_exact (tokens text) (tokens rest) s in
      let l : length text ≡ length (concat h.before) + length rest = ap length (split_text text rest h.before h.parts) ∙ length-append (concat h.before) rest in
      omega (arith, l)

-- ---- bytes

pushed : (bs : List ℕ) (b : ℕ) → are_bytes bs ≡ true → is_byte b ≡ true → are_bytes (bs ++ b ∷ []) ≡ true
pushed [] b h e = and_from (is_byte b) true e refl
pushed (c ∷ cs) b h e =
    let p = and_parts (is_byte c) (are_bytes cs) h in
    and_from (is_byte c) (are_bytes (cs ++ b ∷ [])) p.0 (pushed cs b p.1 e)

module _ (text : List ℕ) (i : ℕ) where
  pub are_bytes_more : i < length text → are_bytes (take i text) ≡ true → is_byte (get_or text i 0) ≡ true → are_bytes (take (i + 1) text) ≡ true
  are_bytes_more lt h b = ap are_bytes (take_more text i 0 lt) ∙ pushed (take i text) (get_or text i 0) h b

  pub are_bytes_all : length text ≤ i → are_bytes (take i text) ≡ true → are_bytes text ≡ true
  are_bytes_all le h = ap are_bytes (sym (take_all i text le)) ∙ h
