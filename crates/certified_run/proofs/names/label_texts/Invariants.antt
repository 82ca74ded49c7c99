use Rattle.std.proofs.Common.{◌≡◌, ◌∷◌, take, map}
use Rattle.cert_text.specs.declared.label.LabelText.TheVariants.{Idle}
use Rattle.certified_run.proofs.names.label_texts.Given as goal
use Rattle.certified_run.specs.Names.{ArePoints, text_of}

-- label 0, and those of the labels so far, whose points are numbers of 16 bits
abbrev pub invariant-loop-label : goal.invariant-loop-label
invariant-loop-label l = (l.texts ≡ Idle ∷ map (text_of l.app) (take l.label-index l.labels)) × ArePoints (take l.label-index l.labels)
