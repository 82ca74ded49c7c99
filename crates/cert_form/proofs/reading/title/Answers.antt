use Rattle.std.proofs.Common.{[], ◌∷◌, codes}
use Rattle.format.specs.Format.{nothing}
use Rattle.cert_form.specs.Words.{sp, words}
use Rattle.cert_form.specs.Texts.{tokens}
use Rattle.cert_form.specs.Parts.{title_read}
use Rattle.cert_form.proofs.Readers.{gives_last}
use Rattle.cert_form.proofs.Whole.{title_more}
use Rattle.cert_form.proofs.reading.title.Goals as goal

pub returns-in-Ok-clause-gives : goal.returns-in-Ok-clause-gives
returns-in-Ok-clause-gives c =
    let more = title_more (tokens c.args.text.now) (tokens c.in-Ok.rest.now) c.in-Ok.ensures.gives in
    gives_last title_read (words (codes "certificate" ∷ (sp ∷ [])) nothing).read c.args.text.now c.in-Ok.rest.now more c.keyword-in-Ok.result c.keyword-in-Ok.ensures.gives
