-- What labels stand for and their points, one label after another.
use Rattle.std.proofs.Common.{◌≡◌, ℕ, ◌+◌, ◌<◌, ◌^◌, List, [], ◌∷◌, ◌++◌, length, take, map, get_or, sym, ap, subst, ◌∙◌}
use Rattle.std.proofs.lemmas.List.{map-append, take_more}
use Rattle.application.specs.declared.app.App.{App}
use Rattle.cert_text.specs.declared.label.LabelText.{LabelText}
use Rattle.cert_text.specs.declared.label.LabelText.TheVariants.{Idle}
use Rattle.certified_run.specs.Names.{ArePoints, text_of}
use Rattle.one_stack.specs.declared.label.Label.{Label}

-- one label more has its text
pub texts_more : (app : App) (labels : List Label) (i : ℕ) (d : Label) (old new : List LabelText) (text : LabelText) → i < length labels
    → new ≡ old ++ text ∷ [] → old ≡ Idle ∷ map (text_of app) (take i labels) → text ≡ text_of app (get_or labels i d)
    → new ≡ Idle ∷ map (text_of app) (take (i + 1) labels)
texts_more app labels i d old new text within pushed before is =
    let more = ap (map (text_of app)) (take_more labels i d within) ∙ map-append (text_of app) (take i labels) (get_or labels i d ∷ []) in
    pushed
    ∙ ap (λ (ts : List LabelText). ts ++ text ∷ []) before
    ∙ ap (λ (t : LabelText). Idle ∷ (map (text_of app) (take i labels) ++ t ∷ [])) is
    ∙ ap (λ (ts : List LabelText). Idle ∷ ts) (sym more)

-- with one label more
points_and : (labels : List Label) (label : Label) → ArePoints labels → label.point < 2 ^ 16 → ArePoints (labels ++ label ∷ [])
points_and [] label before few = (few, tt)
points_and (first ∷ labels) label before few = (before.0, points_and labels label before.1 few)

-- its point is a number of 16 bits
pub points_more : (labels : List Label) (i : ℕ) (d : Label) → i < length labels → ArePoints (take i labels) → (get_or labels i d).point < 2 ^ 16 → ArePoints (take (i + 1) labels)
points_more labels i d within before few = subst ArePoints (sym (take_more labels i d within)) (points_and (take i labels) (get_or labels i d) before few)
