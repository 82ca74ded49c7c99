-- What the readers of a whole certificate rest on.
use Rattle.std.proofs.Common.{◌≡◌, ℕ, ◌+◌, ◌<◌, Some, List, [], ◌∷◌, ◌++◌, length, refl, sym, ap, ◌∙◌, codes}
use Rattle.clause_form.specs.declared.lit.Lit.{Lit}
use Rattle.clause_form.specs.declared.line.Line.{Line}
use Rattle.format.specs.Exact.{IsExact, HasSome, Says}
use Rattle.format.specs.Format.{Answer, Got, Stuck, Format, and_then, pair, times, counted, nothing, map_got}
use Rattle.format.proofs.Exact.{times_exact, times_length}
use Rattle.cert_form.specs.Words.{Token, sp, lf, limit, number, word, words, spaced, lined}
use Rattle.cert_form.specs.Certificate.{any_number, clause, clauses, log, Ending, ending, Label, label, labels, tables, body, Body, after_clauses, after_variables, Lower, Middle, Upper, opening, upper, certificate_from, parts_of, certificate}
use Rattle.cert_form.specs.Parts.{passed, labels_read, tables_read, body_read, labelled_read, lower_read, KeptMiddle, middle_read, Header, header, header_read, title_read, version_read, opening_read, Kept, kept, certificate_read}
use Rattle.cert_form.proofs.Certificate.{label_exact, label_some, clause_exact, clause_some, lined_exact, lined_some}
use Rattle.cert_form.proofs.Kept.{map_same, and_same, kept_beside, mapped_kept, pair_second, pair_kept, words_front}

pub body_opened : (n c q k : ℕ) (ts : List Token) → body_read n c q k ts ≡ and_then (tables_read n q k ts) (λ _ r. (pair (log n (c + 2)) (λ _. ending n)).read r)
unfolding body_read tables_read
body_opened n c q k ts =
    let P = pair (log n (c + 2)) (λ _. ending n) in
    pair_kept (λ (b : Body). b.1) (λ _. tt) (λ _ z. z) (tables n q k) (λ _. P) (λ _. P) (λ _ _. refl) (λ _ _. refl) ts
    ∙ and_same (passed ((tables n q k).read ts)) (λ _ r. map_got (λ z. z) (P.read r)) (λ _ r. P.read r) (λ _ r. map_same (P.read r))

-- ---- counted parts: the number that was read is that of the items

module _ {A : Type 0} (item : ℕ → Format A Token) (exact : (i : ℕ) → IsExact (item i)) (some : (i : ℕ) → HasSome (item i)) where
  sized : {C : Type 0} (m : ℕ) (ts : List Token) (a : Answer (List A) Token) → Says (times item 0 m) ts a → (k : List A → ℕ → List Token → Answer C Token) → and_then a (λ xs r. k xs (length xs) r) ≡ and_then a (λ xs r. k xs m r)
  sized m ts (Got xs r) g k = ap (λ n. k xs n r) (times_length item 0 m xs g.valid)
  sized m ts (Stuck l) g k = refl

  counted_opened : {C : Type 0} (number : Format ℕ Token) (ts : List Token) (k : List A → ℕ → List Token → Answer C Token) → and_then ((counted number item).read ts) (λ xs r. k xs (length xs) r) ≡ and_then (number.read ts) (λ m r. and_then ((times item 0 m).read r) (λ xs r. k xs m r))
  counted_opened number ts k = go (number.read ts)
    where
      second : (m : ℕ) (r : List Token) (a : Answer (List A) Token) → Says (times item 0 m) r a → and_then (and_then (and_then a (λ y more. Got (m, y) more)) (λ (p : ℕ × List A) rest. Got p.1 rest)) (λ xs r. k xs (length xs) r) ≡ and_then a (λ xs r. k xs m r)
      second m r (Got xs s) g = sized m r (Got xs s) g k
      second m r (Stuck l) g = refl

      go : (a : Answer ℕ Token) → and_then (and_then (and_then a (λ x rest. and_then ((times item 0 x).read rest) (λ y more. Got (x, y) more))) (λ (p : ℕ × List A) rest. Got p.1 rest)) (λ xs r. k xs (length xs) r) ≡ and_then a (λ m r. and_then ((times item 0 m).read r) (λ xs r. k xs m r))
      go (Got m r) = second m r ((times item 0 m).read r) ((times_exact item exact some 0 m).says r)
      go (Stuck l) = refl

pub labelled_opened : (n c k : ℕ) (ts : List Token) → labelled_read n c k ts ≡ and_then ((lined any_number).read ts) (λ q r. and_then (labels_read 0 q r) (λ _ r. body_read n c q k r))
unfolding labelled_read labels_read body_read
labelled_opened n c k ts =
    pair_second (λ (p : List Label × Body). p.1.1) labels (λ ls. body n c (length ls) k) ts
    ∙ counted_opened label label_exact label_some (lined any_number) ts (λ _ q r. map_got (λ (b : Body). b.1) ((body n c q k).read r))
    ∙ and_same ((lined any_number).read ts) (λ q r. and_then ((times label 0 q).read r) (λ _ r. map_got (λ (b : Body). b.1) ((body n c q k).read r))) (λ q r. and_then (passed ((times label 0 q).read r)) (λ _ r. map_got (λ (b : Body). b.1) ((body n c q k).read r))) (λ q r. go q ((times label 0 q).read r))
  where
    go : (q : ℕ) (a : Answer (List Label) Token) → and_then a (λ _ r. map_got (λ (b : Body). b.1) ((body n c q k).read r)) ≡ and_then (passed a) (λ _ r. map_got (λ (b : Body). b.1) ((body n c q k).read r))
    go q (Got x r) = refl
    go q (Stuck l) = refl

pub lower_opened : (n k c : ℕ) (ts : List Token) → lower_read n k c ts ≡ and_then ((words (codes "goal" ∷ (sp ∷ [])) nothing).read ts) (λ _ r. and_then ((lined (clause n)).read r) (λ g r. and_then ((words (codes "labels" ∷ (sp ∷ [])) nothing).read r) (λ _ r. and_then (labelled_read n c k r) (λ b r. Got (g, b) r))))
unfolding lower_read labelled_read
lower_opened n k c ts =
    let L : Format (List Label × Body) Token = pair labels (λ ls. body n c (length ls) k) in
    let W = words (codes "labels" ∷ (sp ∷ [])) L in
    let kw = (words (codes "labels" ∷ (sp ∷ [])) nothing).read in
    let f : Lower → List Lit × (List Line × Ending) = λ p. (p.0, p.1.1.1) in
    let last : List Lit → List Token → Answer (List Lit × (List Line × Ending)) Token = λ g r. and_then (map_got (λ (p : List Label × Body). p.1.1) (L.read r)) (λ b r. Got (g, b) r) in
    words_front f (codes "goal" ∷ (sp ∷ [])) [] (pair (lined (clause n)) (λ _. W)) ts
    ∙ and_same ((words (codes "goal" ∷ (sp ∷ [])) nothing).read ts) (λ _ r. map_got f ((pair (lined (clause n)) (λ _. W)).read r)) (λ _ r. and_then ((lined (clause n)).read r) (λ g r. and_then (kw r) (λ _ r. last g r)))
    (λ _ r.
    pair_second f (lined (clause n)) (λ _. W) r
    ∙ and_same ((lined (clause n)).read r) (λ g r. map_got (λ y. f (g, y)) (W.read r)) (λ g r. and_then (kw r) (λ _ r. last g r))
    (λ g r.
    words_front (λ y. f (g, y)) (codes "labels" ∷ (sp ∷ [])) [] L r
    ∙ and_same (kw r) (λ _ r. map_got (λ y. f (g, y)) (L.read r)) (λ _ r. last g r) (λ _ r. kept_beside (λ (p : List Label × Body). p.1.1) (λ b. (g, b)) (λ y. f (g, y)) (λ _. refl) (L.read r))))

module _ (n : ℕ) (small : n < limit) where
  pub middle_opened : (k : ℕ) (ts : List Token) → middle_read k n ts ≡ and_then ((words (codes "clauses" ∷ (sp ∷ [])) nothing).read ts) (λ _ r. and_then ((lined any_number).read r) (λ m r. and_then ((times (λ _. lined (clause n)) 0 m).read r) (λ cs r. and_then (lower_read n k m r) (λ l r. Got (cs, l) r))))
  unfolding middle_read lower_read
  middle_opened k ts =
      let f : Middle → KeptMiddle = λ p. (p.0, (p.1.0, p.1.1.1.1)) in
      let g : Lower → List Lit × (List Line × Ending) = λ p. (p.0, p.1.1.1) in
      let low : ℕ → Format Lower Token = λ m. words (codes "goal" ∷ (sp ∷ [])) (pair (lined (clause n)) (λ _. words (codes "labels" ∷ (sp ∷ [])) (pair labels (λ ls. body n m (length ls) k)))) in
      let K : List (List Lit) → ℕ → List Token → Answer KeptMiddle Token = λ cs m r. and_then (map_got g ((low m).read r)) (λ l r. Got (cs, l) r) in
      words_front f (codes "clauses" ∷ (sp ∷ [])) [] (pair (clauses n) (after_clauses n k)) ts
      ∙ and_same ((words (codes "clauses" ∷ (sp ∷ [])) nothing).read ts) (λ _ r. map_got f ((pair (clauses n) (after_clauses n k)).read r)) (λ _ r. and_then ((lined any_number).read r) (λ m r. and_then ((times (λ _. lined (clause n)) 0 m).read r) (λ cs r. K cs m r)))
      (λ _ r.
      pair_second f (clauses n) (after_clauses n k) r
      ∙ and_same ((clauses n).read r) (λ cs r. map_got (λ y. f (cs, y)) ((after_clauses n k cs).read r)) (λ cs r. K cs (length cs) r) (λ cs r. kept_beside g (λ l. (cs, l)) (λ y. f (cs, y)) (λ _. refl) ((after_clauses n k cs).read r))
      ∙ counted_opened (λ _. lined (clause n)) (λ _. lined_exact (clause n) (clause_exact n small)) (λ _. lined_some (clause n) (clause_some n)) (lined any_number) r K)

-- ---- the header

dropped : {V C : Type 0} (x : Unit {0}) (a : Answer V Token) (j : V → List Token → Answer C Token) → and_then (and_then (and_then a (λ y more. Got (x, y) more)) (λ (p : Unit {0} × V) rest. Got p.1 rest)) j ≡ and_then a j
dropped x (Got y r) j = refl
dropped x (Stuck s) j = refl

words_then : {A C : Type 0} (ws : List Token) (F : Format A Token) (ts : List Token) (k : A → List Token → Answer C Token) → and_then ((words ws F).read ts) k ≡ and_then ((words ws nothing).read ts) (λ _ r. and_then (F.read r) k)
words_then [] F ts k = refl
words_then {A} {C} (w ∷ ws) F ts k = go (λ r. words_then ws F r k) ((word w).read ts)
  where
    go : ((r : List Token) → and_then ((words ws F).read r) k ≡ and_then ((words ws nothing).read r) (λ _ r. and_then (F.read r) k)) → (a : Answer (Unit {0}) Token) → and_then (and_then (and_then a (λ x rest. and_then ((words ws F).read rest) (λ y more. Got (x, y) more))) (λ (p : Unit {0} × A) rest. Got p.1 rest)) k ≡ and_then (and_then (and_then a (λ x rest. and_then ((words ws nothing).read rest) (λ y more. Got (x, y) more))) (λ (p : Unit {0} × Unit {0}) rest. Got p.1 rest)) (λ _ r. and_then (F.read r) k)
    go ih (Got x r) = dropped x ((words ws F).read r) k ∙ ih r ∙ sym (dropped x ((words ws nothing).read r) (λ _ r. and_then (F.read r) k))
    go ih (Stuck s) = refl

-- words in two parts
words_split : (ws vs : List Token) (ts : List Token) → (words (ws ++ vs) nothing).read ts ≡ and_then ((words ws nothing).read ts) (λ _ r. (words vs nothing).read r)
words_split [] vs ts = refl
words_split (w ∷ ws) vs ts = go (λ r. words_split ws vs r) ((word w).read ts)
  where
    plain : (x : Unit {0}) (a : Answer (Unit {0}) Token) → and_then (and_then a (λ y more. Got (x, y) more)) (λ (p : Unit {0} × Unit {0}) rest. Got p.1 rest) ≡ a
    plain x (Got y r) = refl
    plain x (Stuck s) = refl

    go : ((r : List Token) → (words (ws ++ vs) nothing).read r ≡ and_then ((words ws nothing).read r) (λ _ r. (words vs nothing).read r)) → (a : Answer (Unit {0}) Token) → and_then (and_then a (λ x rest. and_then ((words (ws ++ vs) nothing).read rest) (λ y more. Got (x, y) more))) (λ (p : Unit {0} × Unit {0}) rest. Got p.1 rest) ≡ and_then (and_then (and_then a (λ x rest. and_then ((words ws nothing).read rest) (λ y more. Got (x, y) more))) (λ (p : Unit {0} × Unit {0}) rest. Got p.1 rest)) (λ _ r. (words vs nothing).read r)
    go ih (Got x r) = plain x ((words (ws ++ vs) nothing).read r) ∙ ih r ∙ sym (dropped x ((words ws nothing).read r) (λ _ r. (words vs nothing).read r))
    go ih (Stuck s) = refl

pub opening_split : (ts : List Token) → opening_read ts ≡ and_then (title_read ts) (λ _ r. version_read r)
unfolding opening_read title_read version_read
opening_split ts = words_split (codes "oschk" ∷ (sp ∷ (codes "certificate" ∷ (sp ∷ [])))) (codes "1" ∷ (lf ∷ (codes "bounds" ∷ (sp ∷ [])))) ts

pub title_parted : (ts : List Token) → title_read ts ≡ and_then ((words (codes "oschk" ∷ (sp ∷ [])) nothing).read ts) (λ _ r. (words (codes "certificate" ∷ (sp ∷ [])) nothing).read r)
unfolding title_read
title_parted ts = words_split (codes "oschk" ∷ (sp ∷ [])) (codes "certificate" ∷ (sp ∷ [])) ts

pub title_more : (ts mid : List Token) → (words (codes "oschk" ∷ (sp ∷ [])) nothing).read ts ≡ Got tt mid → title_read ts ≡ (words (codes "certificate" ∷ (sp ∷ [])) nothing).read mid
title_more ts mid e = title_parted ts ∙ ap (λ a. and_then a (λ _ r. (words (codes "certificate" ∷ (sp ∷ [])) nothing).read r)) e

pub version_parted : (ts : List Token) → version_read ts ≡ and_then ((words (codes "1" ∷ (lf ∷ [])) nothing).read ts) (λ _ r. (words (codes "bounds" ∷ (sp ∷ [])) nothing).read r)
unfolding version_read
version_parted ts = words_split (codes "1" ∷ (lf ∷ [])) (codes "bounds" ∷ (sp ∷ [])) ts

pair_then : {A B C : Type 0} (F : Format A Token) (G : A → Format B Token) (ts : List Token) (k : A × B → List Token → Answer C Token) → and_then ((pair F G).read ts) k ≡ and_then (F.read ts) (λ x r. and_then ((G x).read r) (λ y r. k (x, y) r))
pair_then {A} {B} {C} F G ts k = go (F.read ts)
  where
    second : (x : A) (b : Answer B Token) → and_then (and_then b (λ y more. Got (x, y) more)) k ≡ and_then b (λ y r. k (x, y) r)
    second x (Got y r) = refl
    second x (Stuck s) = refl

    go : (a : Answer A Token) → and_then (and_then a (λ x rest. and_then ((G x).read rest) (λ y more. Got (x, y) more))) k ≡ and_then a (λ x r. and_then ((G x).read r) (λ y r. k (x, y) r))
    go (Got x r) = second x ((G x).read r)
    go (Stuck s) = refl

map_then : {A B : Type 0} (f : A → B) (a : Answer A Token) → map_got f a ≡ and_then a (λ x r. Got (f x) r)
map_then f (Got x r) = refl
map_then f (Stuck s) = refl

abbrev variable_words : List Token
variable_words = codes "variables" ∷ (sp ∷ [])

abbrev budget_words : List Token
budget_words = codes "budget" ∷ (sp ∷ [])

abbrev one_up : Format ℕ Token
one_up = lined (number 1 limit)

-- what is read one after another, with the rest by the turns, the budget and the variables
abbrev chain : {C : Type 0} → (ℕ → ℕ → ℕ → List Token → Answer C Token) → List Token → Answer C Token
chain K ts =
    and_then (opening_read ts) (λ _ r. and_then ((spaced any_number).read r) (λ k r. and_then ((lined any_number).read r) (λ _ r. and_then ((words budget_words nothing).read r) (λ _ r. and_then ((lined any_number).read r) (λ b r. and_then ((words variable_words nothing).read r) (λ _ r. and_then (one_up.read r) (λ n r. K k b n r)))))))

module _ {V C : Type 0} (last : ℕ → ℕ → Format V Token) (K : ℕ → ℕ → ℕ → V → List Token → Answer C Token) where
  abbrev variables_part : ℕ → Format (ℕ × V) Token
  variables_part k = words variable_words (pair one_up (last k))

  abbrev budget_part : ℕ → Format (ℕ × (ℕ × V)) Token
  budget_part k = words budget_words (pair (lined any_number) (λ _. variables_part k))

  abbrev arrivals_part : ℕ → Format (ℕ × (ℕ × (ℕ × V))) Token
  arrivals_part k = pair (lined any_number) (λ _. budget_part k)

  variables_chain : (k b : ℕ) (r : List Token) → and_then ((variables_part k).read r) (λ z r. K k b z.0 z.1 r) ≡ and_then ((words variable_words nothing).read r) (λ _ r. and_then (one_up.read r) (λ n r. and_then ((last k n).read r) (λ v r. K k b n v r)))
  variables_chain k b r =
      words_then variable_words (pair one_up (last k)) r (λ z r. K k b z.0 z.1 r)
      ∙ and_same ((words variable_words nothing).read r) (λ _ r. and_then ((pair one_up (last k)).read r) (λ z r. K k b z.0 z.1 r)) (λ _ r. and_then (one_up.read r) (λ n r. and_then ((last k n).read r) (λ v r. K k b n v r))) (λ _ r. pair_then one_up (last k) r (λ z r. K k b z.0 z.1 r))

  budget_chain : (k : ℕ) (r : List Token) → and_then ((budget_part k).read r) (λ z r. K k z.0 z.1.0 z.1.1 r) ≡ and_then ((words budget_words nothing).read r) (λ _ r. and_then ((lined any_number).read r) (λ b r. and_then ((words variable_words nothing).read r) (λ _ r. and_then (one_up.read r) (λ n r. and_then ((last k n).read r) (λ v r. K k b n v r)))))
  budget_chain k r =
      let rest : ℕ → List Token → Answer C Token = λ b r. and_then ((words variable_words nothing).read r) (λ _ r. and_then (one_up.read r) (λ n r. and_then ((last k n).read r) (λ v r. K k b n v r))) in
      let P = pair (lined any_number) (λ _. variables_part k) in
      words_then budget_words P r (λ z r. K k z.0 z.1.0 z.1.1 r)
      ∙ and_same ((words budget_words nothing).read r) (λ _ r. and_then (P.read r) (λ z r. K k z.0 z.1.0 z.1.1 r)) (λ _ r. and_then ((lined any_number).read r) rest)
      (λ _ r.
      pair_then (lined any_number) (λ _. variables_part k) r (λ z r. K k z.0 z.1.0 z.1.1 r)
      ∙ and_same ((lined any_number).read r) (λ b r. and_then ((variables_part k).read r) (λ z r. K k b z.0 z.1 r)) rest (λ b r. variables_chain k b r))

  pub opened : (ts : List Token) → and_then ((words opening (pair (spaced any_number) arrivals_part)).read ts) (λ z r. K z.0 z.1.1.0 z.1.1.1.0 z.1.1.1.1 r) ≡ chain (λ k b n r. and_then ((last k n).read r) (λ v r. K k b n v r)) ts
  unfolding opening_read
  opened ts =
      let after_budget : ℕ → List Token → Answer C Token = λ k r. and_then ((words budget_words nothing).read r) (λ _ r. and_then ((lined any_number).read r) (λ b r. and_then ((words variable_words nothing).read r) (λ _ r. and_then (one_up.read r) (λ n r. and_then ((last k n).read r) (λ v r. K k b n v r))))) in
      let P = pair (spaced any_number) arrivals_part in
      let k0 : ℕ × (ℕ × (ℕ × (ℕ × V))) → List Token → Answer C Token = λ z r. K z.0 z.1.1.0 z.1.1.1.0 z.1.1.1.1 r in
      words_then opening P ts k0
      ∙ and_same ((words opening nothing).read ts) (λ _ r. and_then (P.read r) k0) (λ _ r. and_then ((spaced any_number).read r) (λ k r. and_then ((lined any_number).read r) (λ _ r. after_budget k r)))
      (λ _ r.
      pair_then (spaced any_number) arrivals_part r k0
      ∙ and_same ((spaced any_number).read r) (λ k r. and_then ((arrivals_part k).read r) (λ z r. K k z.1.0 z.1.1.0 z.1.1.1 r)) (λ k r. and_then ((lined any_number).read r) (λ _ r. after_budget k r))
      (λ k r.
      pair_then (lined any_number) (λ _. budget_part k) r (λ z r. K k z.1.0 z.1.1.0 z.1.1.1 r)
      ∙ and_same ((lined any_number).read r) (λ _ r. and_then ((budget_part k).read r) (λ z r. K k z.0 z.1.0 z.1.1 r)) (λ _ r. after_budget k r) (λ _ r. budget_chain k r)))

chain_same : {C : Type 0} (K L : ℕ → ℕ → ℕ → List Token → Answer C Token) → ((k b n : ℕ) (r : List Token) → K k b n r ≡ L k b n r) → (ts : List Token) → chain K ts ≡ chain L ts
chain_same K L e ts =
    and_same (opening_read ts) _ _
    (λ _ r. and_same ((spaced any_number).read r) _ _
    (λ k r. and_same ((lined any_number).read r) _ _
    (λ _ r. and_same ((words budget_words nothing).read r) _ _
    (λ _ r. and_same ((lined any_number).read r) _ _
    (λ b r. and_same ((words variable_words nothing).read r) _ _
    (λ _ r. and_same (one_up.read r) _ _ (λ n r. e k b n r)))))))

then_map : {A B C : Type 0} (f : A → B) (a : Answer A Token) (k : B → List Token → Answer C Token) → and_then (map_got f a) k ≡ and_then a (λ x r. k (f x) r)
then_map f (Got x r) k = refl
then_map f (Stuck s) k = refl

pub header_opened : (ts : List Token) → header_read ts ≡ chain (λ k b n r. Got (k, (b, n)) r) ts
unfolding header_read
header_opened ts = map_then (λ (z : Header). (z.0, (z.1.1.0, z.1.1.1.0))) (header.read ts) ∙ opened {V = Unit {0}} (λ _ _. nothing) (λ k b n _ r. Got (k, (b, n)) r) ts

pub certificate_opened : (ts : List Token) → certificate_read ts ≡ and_then (header_read ts) (λ h r. and_then (middle_read h.0 h.1.1 r) (λ m r. Got (h.1.0, (h.1.1, m)) r))
unfolding certificate_read certificate header_read middle_read
certificate_opened ts =
    let g : Middle → KeptMiddle = λ p. (p.0, (p.1.0, p.1.1.1.1)) in
    let f : Upper → Kept = λ u. (u.1.1.0, (u.1.1.1.0, g u.1.1.1.1)) in
    let J : ℕ × (ℕ × ℕ) → List Token → Answer Kept Token = λ h r. and_then (map_got g ((after_variables h.0 h.1.1).read r)) (λ m r. Got (h.1.0, (h.1.1, m)) r) in
    mapped_kept kept certificate_from (λ c. Some (parts_of c)) upper ts
    ∙ map_then f (upper.read ts)
    ∙ opened {V = Middle} (λ k n. after_variables k n) (λ k b n v r. Got (b, (n, g v)) r) ts
    ∙ chain_same (λ k b n r. and_then ((after_variables k n).read r) (λ v r. Got (b, (n, g v)) r)) (λ k b n r. J (k, (b, n)) r) (λ k b n r. sym (then_map g ((after_variables k n).read r) (λ m r. Got (b, (n, m)) r))) ts
    ∙ sym (opened {V = Unit {0}} (λ _ _. nothing) (λ k b n _ r. J (k, (b, n)) r) ts)
    ∙ sym (then_map (λ (z : Header). (z.0, (z.1.1.0, z.1.1.1.0))) (header.read ts) J)
