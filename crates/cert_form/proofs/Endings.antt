-- What the readers of the end rest on.
use Rattle.std.proofs.Common.{◌≡◌, ℕ, List, [], ◌∷◌, sym, ◌∙◌, codes}
use Rattle.format.specs.Format.{Got, and_then, nothing, times}
use Rattle.cert_form.specs.Words.{Token, sp, lf, words, behind, spaced, value_token}
use Rattle.cert_form.specs.Certificate.{nought, model, chosen, ending}
use Rattle.cert_form.specs.Parts.{values_end_read, outcome_end_read}
use Rattle.cert_form.proofs.Kept.{map_same, words_read, behind_read}

pub values_end_opened : (n : ℕ) (ts : List Token) → values_end_read n ts ≡ and_then ((times (λ v. spaced (value_token v)) 1 n).read ts) (λ y r. and_then ((words (nought ∷ (lf ∷ [])) nothing).read r) (λ _ r2. Got y r2))
unfolding values_end_read
values_end_opened n ts = behind_read (times (λ v. spaced (value_token v)) 1 n) (nought ∷ (lf ∷ [])) ts

pub model_opened : (n : ℕ) (ts : List Token) → (model n).read ts ≡ and_then ((words (codes "model" ∷ (sp ∷ [])) nothing).read ts) (λ _ r. values_end_read n r)
unfolding model values_end_read
model_opened n ts = sym (map_same ((model n).read ts)) ∙ words_read (codes "model" ∷ (sp ∷ [])) (behind (times (λ v. spaced (value_token v)) 1 n) (nought ∷ (lf ∷ []))) ts

pub outcome_end_opened : (n : ℕ) (ts : List Token) → outcome_end_read n ts ≡ and_then ((chosen n).read ts) (λ y r. and_then ((words (codes "end" ∷ (lf ∷ [])) nothing).read r) (λ _ r2. Got y r2))
unfolding outcome_end_read
outcome_end_opened n ts = behind_read (chosen n) (codes "end" ∷ (lf ∷ [])) ts

pub ending_opened : (n : ℕ) (ts : List Token) → (ending n).read ts ≡ and_then ((words (sp ∷ []) nothing).read ts) (λ _ r. outcome_end_read n r)
unfolding ending outcome_end_read
ending_opened n ts = sym (map_same ((ending n).read ts)) ∙ words_read (sp ∷ []) (behind (chosen n) (codes "end" ∷ (lf ∷ []))) ts
