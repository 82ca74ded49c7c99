-- What the readers of labels rest on.
use Rattle.std.proofs.Common.{◌≡◌, ℕ, ◌+◌, ◌-◌, ◌<◌, ◌≤◌, true, false, ◌&&◌, Some, List, [], ◌∷◌, length, get_or, drop, refl, ap, ◌∙◌, arith, codes}
use Rattle.std.specs.Fmt.{decimal}
use Rattle.format.specs.Format.{Answer, Got, Stuck, and_then, mapped, pair, nothing}
use Rattle.cert_form.specs.Words.{Token, sp, lf, word, words, spaced, lined, is_first_of_name, are_of_name, is_name, name}
use Rattle.cert_form.specs.Certificate.{any_number, Label, LabelWord, IdleWord, ArriveWord, StepWord, Idle, Arrive, Step, word_of_label, as_idle, as_arrive, as_step, label_word, label_rest, label}
use Rattle.cert_form.specs.Texts.{tokens, starts}
use Rattle.cert_form.specs.Parts.{passed, name_read, idle_read, arrive_read, step_read, label_rest_read, label_read, labels_read}
use Rattle.cert_form.proofs.Readers.{one_empty, one_got, one_stuck}
use Rattle.cert_form.proofs.Kept.{and_same, mapped_kept, pair_kept, pair_second, words_front, ended_kept, passes_more, passes_stuck, passes_done}

pub name_nothing : (w : Token) → length w ≡ 0 → is_name w ≡ false
name_nothing [] e = refl
name_nothing (c ∷ cs) e = absurd (omega arith)

pub name_some : (w : Token) → 0 < length w → is_name w ≡ (is_first_of_name (get_or w 0 0) && are_of_name (drop 1 w))
name_some [] h = absurd (omega arith)
name_some (c ∷ cs) h = refl

pub name_empty : (text : List ℕ) → length text ≡ 0 → name_read (tokens text) ≡ Stuck (tokens text)
unfolding name_read name
name_empty text e = ap passed (one_empty _ text e)

pub name_got : (text : List ℕ) (t : Token) (rest : List ℕ) → tokens text ≡ t ∷ tokens rest → is_name t ≡ true → name_read (tokens text) ≡ Got tt (tokens rest)
unfolding name_read name
name_got text t rest e m = ap passed (one_got _ text t rest t e (rw m refl))

pub name_stuck : (text : List ℕ) (t : Token) (rest : List ℕ) → tokens text ≡ t ∷ tokens rest → is_name t ≡ false → name_read (tokens text) ≡ Stuck (tokens text)
unfolding name_read name
name_stuck text t rest e m = ap passed (one_stuck _ text t rest e (rw m refl))

pub idle_opened : (ts : List Token) → idle_read ts ≡ passed ((word lf).read ts)
unfolding idle_read
idle_opened ts = refl

pub arrive_opened : (ts : List Token) → arrive_read ts ≡ and_then ((words (sp ∷ []) nothing).read ts) (λ _ r. and_then (name_read r) (λ y r2. and_then ((word lf).read r2) (λ _ r3. Got y r3)))
unfolding arrive_read name_read
arrive_opened ts =
    words_front (λ _. tt) (sp ∷ []) [] (lined name) ts
    ∙ and_same ((words (sp ∷ []) nothing).read ts) (λ _ r. passed ((lined name).read r)) (λ _ r. and_then (passed (name.read r)) (λ y r2. and_then ((word lf).read r2) (λ _ r3. Got y r3)))
    (λ _ r. ended_kept (λ _. tt) name (word lf) r)

pub step_opened : (ts : List Token) → step_read ts ≡ and_then ((words (sp ∷ []) nothing).read ts) (λ _ r. and_then (name_read r) (λ y r2. and_then ((word sp).read r2) (λ _ r3. passed ((lined any_number).read r3))))
unfolding step_read name_read
step_opened ts =
    words_front (λ _. tt) (sp ∷ []) [] (pair (spaced name) (λ _. lined any_number)) ts
    ∙ and_same ((words (sp ∷ []) nothing).read ts) (λ _ r. passed ((pair (spaced name) (λ _. lined any_number)).read r)) (λ _ r. and_then (passed (name.read r)) (λ y r2. and_then ((word sp).read r2) (λ _ r3. passed ((lined any_number).read r3)))) inner
  where
    go : (a : Answer (Unit {0}) Token) → and_then (and_then a (λ y r2. and_then ((word sp).read r2) (λ _ r3. Got y r3))) (λ _ r3. passed ((lined any_number).read r3)) ≡ and_then a (λ y r2. and_then ((word sp).read r2) (λ _ r3. passed ((lined any_number).read r3)))
    go (Got y r) = at ((word sp).read r)
      where
        at : (u : Answer (Unit {0}) Token) → and_then (and_then u (λ _ r3. Got y r3)) (λ _ r3. passed ((lined any_number).read r3)) ≡ and_then u (λ _ r3. passed ((lined any_number).read r3))
        at (Got x s) = refl
        at (Stuck s) = refl
    go (Stuck s) = refl

    inner : (x : Unit {0}) (r : List Token) → passed ((pair (spaced name) (λ _. lined any_number)).read r) ≡ and_then (passed (name.read r)) (λ y r2. and_then ((word sp).read r2) (λ _ r3. passed ((lined any_number).read r3)))
    inner x r =
        pair_kept (λ _. tt) (λ _. tt) (λ _ _. tt) (spaced name) (λ _. lined any_number) (λ _. lined any_number) (λ _ _. refl) (λ _ _. refl) r
        ∙ ap (λ a. and_then a (λ _ r3. passed ((lined any_number).read r3))) (ended_kept (λ _. tt) name (word sp) r)
        ∙ go (passed (name.read r))

-- ---- which label it is

label_word_read : (w : LabelWord) (t : Token) (ts r : List Token) → ts ≡ t ∷ r → label_word.read (t ∷ r) ≡ Got w r → label_rest_read ts ≡ passed ((label_rest w).read r)
unfolding label_rest_read
label_word_read w t ts r e f =
    ap (λ (u : List Token). passed ((pair label_word label_rest).read u)) e
    ∙ pair_second (λ _. tt) label_word label_rest (t ∷ r)
    ∙ ap (λ a. and_then a (λ x s. passed ((label_rest x).read s))) f

pub label_idle : (ts r : List Token) → ts ≡ codes "idle" ∷ r → label_rest_read ts ≡ idle_read r
unfolding label_word idle_read
label_idle ts r e = label_word_read IdleWord (codes "idle") ts r e refl ∙ mapped_kept (λ _. tt) (λ _. Idle) as_idle (word lf) r

pub label_arrive : (ts r : List Token) → ts ≡ codes "arrive" ∷ r → label_rest_read ts ≡ arrive_read r
unfolding label_word arrive_read
label_arrive ts r e = label_word_read ArriveWord (codes "arrive") ts r e refl ∙ mapped_kept (λ _. tt) Arrive as_arrive (words (sp ∷ []) (lined name)) r

pub label_step : (ts r : List Token) → ts ≡ codes "step" ∷ r → label_rest_read ts ≡ step_read r
unfolding label_word step_read
label_step ts r e = label_word_read StepWord (codes "step") ts r e refl ∙ mapped_kept (λ _. tt) (λ p. Step p.0 p.1) as_step (words (sp ∷ []) (pair (spaced name) (λ _. lined any_number))) r

pub label_stuck : (ts : List Token) → starts (codes "idle") ts ≡ false → starts (codes "arrive") ts ≡ false → starts (codes "step") ts ≡ false → label_rest_read ts ≡ Stuck ts
unfolding label_rest_read label_word
label_stuck [] a b c = refl
label_stuck (t ∷ ts) a b c = rw (a, b, c) refl

pub label_opened : (a : ℕ) (ts : List Token) → label_read a ts ≡ and_then ((words (codes "label" ∷ (sp ∷ (decimal a ∷ (sp ∷ [])))) nothing).read ts) (λ _ r. label_rest_read r)
unfolding label_read label_rest_read label
label_opened a ts =
    let M = mapped {B = Label} (λ (p : LabelWord × Label). p.1) (λ l. Some (word_of_label l, l)) (pair label_word label_rest) in
    words_front (λ _. tt) (codes "label" ∷ (sp ∷ (decimal a ∷ (sp ∷ [])))) [] M ts
    ∙ and_same ((words (codes "label" ∷ (sp ∷ (decimal a ∷ (sp ∷ [])))) nothing).read ts) (λ _ r. passed (M.read r)) (λ _ r. passed ((pair label_word label_rest).read r)) (λ _ r. mapped_kept (λ _. tt) (λ (p : LabelWord × Label). p.1) (λ l. Some (word_of_label l, l)) (pair label_word label_rest) r)

-- ---- so many labels

pub labels_start : (count : ℕ) (ts : List Token) → labels_read 0 count ts ≡ labels_read 0 (count - 0) ts
labels_start count ts = let e : count ≡ count - 0 = omega arith in ap (λ n. labels_read 0 n ts) e

pub labels_more : (whole : Answer (Unit {0}) Token) (i count : ℕ) (ts rest : List Token) → i < count → whole ≡ labels_read i (count - i) ts → label_read i ts ≡ Got tt rest → whole ≡ labels_read (i + 1) (count - (i + 1)) rest
unfolding labels_read label_read
labels_more = passes_more label

pub labels_stuck : (whole : Answer (Unit {0}) Token) (i count : ℕ) (ts left : List Token) → i < count → whole ≡ labels_read i (count - i) ts → label_read i ts ≡ Stuck left → whole ≡ Stuck left
unfolding labels_read label_read
labels_stuck = passes_stuck label

pub labels_done : (whole : Answer (Unit {0}) Token) (i count : ℕ) (ts : List Token) → count ≤ i → whole ≡ labels_read i (count - i) ts → whole ≡ Got tt ts
unfolding labels_read
labels_done = passes_done label
