use Rattle.std.proofs.Common.{◌≡◌, All, IfSome, IfNone, IsUtf8, List, ℕ, subst, sym, ap, ◌∙◌}
use Rattle.command_words.specs.Asked.{IsAsked}
use Rattle.command_words.specs.Lines.{plain_texts}
use Rattle.command_words.specs.declared.asked.Asked.{Asked}
use Rattle.command_words.specs.declared.asked.Asked.TheVariants.{Run, Replay, Check, Show, Make}
use Rattle.command_words.proofs.asked.read_words.Goals as goal

-- what is asked for is asked in texts
texts : (words : List (List ℕ)) (what : Asked) → IsAsked words what → All IsUtf8 words
texts words (Run run) is = is.of.text
texts words (Replay replay) is = is.of.text
texts words (Check cert) is = is.of.text
texts words (Show show) is = is.of.text
texts words (Make make) is = is.of.text

pub texts_asked-requires : goal.texts_asked-requires
texts_asked-requires c =
    let same : plain_texts c.in-Some.texts.items ≡ c.items.result.now =
    subst (λ found. IfSome found (λ texts. plain_texts texts.items ≡ c.items.result.now)) c.in-Some.is c.in_ok-texts.ensures.same in
    let all : All IsUtf8 c.items.result.now = subst (λ found. IfSome found (λ texts. All IsUtf8 c.items.result.now)) c.in-Some.is c.in_ok-texts.ensures.all in
    record { text = subst (All IsUtf8) (sym (ap plain_texts c.deref.ensures.value ∙ same)) all }

pub returns-in-None-clause-none : goal.returns-in-None-clause-none
returns-in-None-clause-none c what is =
    let none : All IsUtf8 c.items.result.now → ⊥ = subst (λ found. IfNone found (All IsUtf8 c.items.result.now → ⊥)) c.in-None.is c.in_ok-texts.ensures.none in
    none (subst (All IsUtf8) (sym c.items.ensures) (texts c.args.words.now what is))
