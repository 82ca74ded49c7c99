-- Tasks whose run levels are set one by one.
use Rattle.std.proofs.Common.{◌≡◌, ℕ, zero, suc, ◌+◌, ◌<◌, List, [], ◌∷◌, length, take, get_or, set, refl, ap, sym, ◌∙◌, arith, add-one}
use Rattle.application.specs.declared.app.Task.{Task}
use Rattle.application.specs.RunLevels.{with_run_levels}

length-with_run_levels : (ls : List ℕ) (ts : List Task) → length (with_run_levels ls ts) ≡ length ts
length-with_run_levels [] ts = refl
length-with_run_levels (l ∷ ls) [] = refl
length-with_run_levels (l ∷ ls) (t ∷ ts) = ap (λ k. suc k) (length-with_run_levels ls ts)

-- one more run level
pub with_run_levels_more : (ls : List ℕ) (ts : List Task) (i : ℕ) (l : ℕ) (d : Task) → i < length ls → i < length ts → set (with_run_levels (take i ls) ts) i (record (get_or (with_run_levels (take i ls) ts) i d) { run_level = get_or ls i l }) ≡ with_run_levels (take (i + 1) ls) ts
with_run_levels_more [] ts i l d within inside = absurd (omega arith)
with_run_levels_more (m ∷ ls) [] i l d within inside = absurd (omega arith)
with_run_levels_more (m ∷ ls) (t ∷ ts) zero l d within inside = refl
with_run_levels_more (m ∷ ls) (t ∷ ts) (suc i) l d within inside =
    ap (λ us. record t { run_level = m } ∷ us)
    (with_run_levels_more ls ts i l d (omega arith) (omega arith) ∙ ap (λ k. with_run_levels (take k ls) ts) (add-one i))
    ∙ ap (λ k. with_run_levels (take k (m ∷ ls)) (t ∷ ts)) (sym (add-one (suc i)))

-- the same, for a task that was read and written
pub set_step : (ls : List ℕ) (ts now : List Task) (i l : ℕ) (e : Task) → now ≡ with_run_levels (take i ls) ts → e ≡ get_or now i e → i < length ls → i < length ts → set now i (record e { run_level = get_or ls i l }) ≡ with_run_levels (take (i + 1) ls) ts
set_step ls ts now i l e now_is e_is within inside =
    ap (λ (u : Task). set now i (record u { run_level = get_or ls i l })) e_is
    ∙ (ap (λ us. set us i (record (get_or us i e) { run_level = get_or ls i l })) now_is
    ∙ with_run_levels_more ls ts i l e within inside)
