-- The parts of a whole certificate as they are read one after another.
use Rattle.std.proofs.Common.{◌≡◌, ℕ, ◌<◌, List, [], ◌∷◌, refl, sym, ◌∙◌, codes}
use Rattle.clause_form.specs.declared.lit.Lit.{Lit}
use Rattle.clause_form.specs.declared.line.Line.{Line}
use Rattle.format.specs.Format.{Answer, Got, and_then, nothing, times}
use Rattle.cert_form.specs.Words.{Token, sp, limit, number, words, spaced, lined}
use Rattle.cert_form.specs.Certificate.{any_number, clause, Ending}
use Rattle.cert_form.specs.Parts.{labelled_read, label_part_read, goal_part_read, lower_read, KeptMiddle, middle_read, named_number_read, sizes_read, counts_read, opening_read, header_read}
use Rattle.cert_form.proofs.Kept.{and_same, and_assoc}
use Rattle.cert_form.proofs.Whole.{lower_opened, middle_opened, header_opened}

abbrev named : Token → List Token → Answer (Unit {0}) Token
named w ts = (words (w ∷ (sp ∷ [])) nothing).read ts

pub label_part_opened : (n c k : ℕ) (ts : List Token) → label_part_read n c k ts ≡ and_then ((words (codes "labels" ∷ (sp ∷ [])) nothing).read ts) (λ _ r. labelled_read n c k r)
unfolding label_part_read
label_part_opened n c k ts = refl

pub goal_part_opened : (n k c : ℕ) (ts : List Token) → goal_part_read n k c ts ≡ and_then ((lined (clause n)).read ts) (λ g r. and_then (label_part_read n c k r) (λ b r. Got (g, b) r))
unfolding goal_part_read
goal_part_opened n k c ts = refl

pub lower_parted : (n k c : ℕ) (ts : List Token) → lower_read n k c ts ≡ and_then ((words (codes "goal" ∷ (sp ∷ [])) nothing).read ts) (λ _ r. goal_part_read n k c r)
unfolding goal_part_read label_part_read
lower_parted n k c ts =
    let last : List Lit → List Token → Answer (List Lit × (List Line × Ending)) Token = λ g r. and_then (named (codes "labels") r) (λ _ r. and_then (labelled_read n c k r) (λ b r. Got (g, b) r)) in
    let parted : List Lit → List Token → Answer (List Lit × (List Line × Ending)) Token = λ g r. and_then (and_then (named (codes "labels") r) (λ _ r. labelled_read n c k r)) (λ b r. Got (g, b) r) in
    lower_opened n k c ts
    ∙ and_same (named (codes "goal") ts) (λ _ r. and_then ((lined (clause n)).read r) last) (λ _ r. and_then ((lined (clause n)).read r) parted)
    (λ _ r. and_same ((lined (clause n)).read r) last parted (λ g r. sym (and_assoc (named (codes "labels") r) (λ _ r. labelled_read n c k r) (λ b r. Got (g, b) r))))

pub named_number_opened : (w : Token) (low high : ℕ) (ts : List Token) → named_number_read w low high ts ≡ and_then ((words (w ∷ (sp ∷ [])) nothing).read ts) (λ _ r. (lined (number low high)).read r)
unfolding named_number_read
named_number_opened w low high ts = refl

module _ (n : ℕ) (small : n < limit) where
  abbrev after_count : ℕ → ℕ → List Token → Answer KeptMiddle Token
  after_count k m r = and_then ((times (λ _. lined (clause n)) 0 m).read r) (λ cs r. and_then (lower_read n k m r) (λ l r. Got (cs, l) r))

  pub middle_parted : (k : ℕ) (ts : List Token) → middle_read k n ts ≡ and_then (named_number_read (codes "clauses") 0 limit ts) (λ m r. after_count k m r)
  unfolding named_number_read
  middle_parted k ts = middle_opened n small k ts ∙ sym (and_assoc (named (codes "clauses") ts) (λ _ r. (lined any_number).read r) (λ m r. after_count k m r))

pub sizes_opened : (ts : List Token) → sizes_read ts ≡ and_then (named_number_read (codes "budget") 0 limit ts) (λ b r. and_then (named_number_read (codes "variables") 1 limit r) (λ n r. Got (b, n) r))
unfolding sizes_read
sizes_opened ts = refl

pub counts_opened : (ts : List Token) → counts_read ts ≡ and_then ((spaced any_number).read ts) (λ k r. and_then ((lined any_number).read r) (λ _ r. and_then (sizes_read r) (λ s r. Got (k, s) r)))
unfolding counts_read
counts_opened ts = refl

abbrev after_number : ℕ → ℕ → List Token → Answer (ℕ × (ℕ × ℕ)) Token
after_number k b r = and_then (named (codes "variables") r) (λ _ r. and_then ((lined (number 1 limit)).read r) (λ n r. Got (k, (b, n)) r))

sizes_chain : (k : ℕ) (r : List Token) → and_then (named (codes "budget") r) (λ _ r. and_then ((lined any_number).read r) (λ b r. after_number k b r)) ≡ and_then (sizes_read r) (λ s r. Got (k, s) r)
unfolding sizes_read named_number_read
sizes_chain k r =
    let one : ℕ → List Token → Answer (ℕ × ℕ) Token = λ b r. and_then (and_then (named (codes "variables") r) (λ _ r. (lined (number 1 limit)).read r)) (λ n r. Got (b, n) r) in
    let last : ℕ × ℕ → List Token → Answer (ℕ × (ℕ × ℕ)) Token = λ s r. Got (k, s) r in
    let inner : (b : ℕ) (r : List Token) → after_number k b r ≡ and_then (one b r) last =
    λ b r.
    sym (and_assoc (named (codes "variables") r) (λ _ r. (lined (number 1 limit)).read r) (λ n r. Got (k, (b, n)) r))
    ∙ sym (and_assoc (and_then (named (codes "variables") r) (λ _ r. (lined (number 1 limit)).read r)) (λ n r. Got (b, n) r) last)
    in
    sym (and_assoc (named (codes "budget") r) (λ _ r. (lined any_number).read r) (λ b r. after_number k b r))
    ∙ and_same (and_then (named (codes "budget") r) (λ _ r. (lined any_number).read r)) (λ b r. after_number k b r) (λ b r. and_then (one b r) last) inner
    ∙ sym (and_assoc (and_then (named (codes "budget") r) (λ _ r. (lined any_number).read r)) one last)

pub header_parted : (ts : List Token) → header_read ts ≡ and_then (opening_read ts) (λ _ r. counts_read r)
unfolding counts_read
header_parted ts =
    let long : ℕ → List Token → Answer (ℕ × (ℕ × ℕ)) Token = λ k r. and_then (named (codes "budget") r) (λ _ r. and_then ((lined any_number).read r) (λ b r. after_number k b r)) in
    let short : ℕ → List Token → Answer (ℕ × (ℕ × ℕ)) Token = λ k r. and_then (sizes_read r) (λ s r. Got (k, s) r) in
    header_opened ts
    ∙ and_same (opening_read ts)
    (λ _ r. and_then ((spaced any_number).read r) (λ k r. and_then ((lined any_number).read r) (λ _ r. long k r)))
    (λ _ r. and_then ((spaced any_number).read r) (λ k r. and_then ((lined any_number).read r) (λ _ r. short k r)))
    (λ _ r. and_same ((spaced any_number).read r) (λ k r. and_then ((lined any_number).read r) (λ _ r. long k r)) (λ k r. and_then ((lined any_number).read r) (λ _ r. short k r))
    (λ k r. and_same ((lined any_number).read r) (λ _ r. long k r) (λ _ r. short k r) (λ _ r. sizes_chain k r)))
