-- A kind is told by its class.
use Rattle.std.proofs.Common.{◌≡◌, ◌∙◌, get_or, refl, sym, ap}
use Rattle.oil_text.specs.declared.token.Mark.TheVariants.{Equals, Semicolon, OpeningBrace, ClosingBrace, Colon, OpeningBracket, ClosingBracket, Comma, Dot, Less, Greater, Plus, Minus}
use Rattle.oil_text.specs.declared.token.Kind.{Kind}
use Rattle.oil_text.specs.declared.token.Kind.TheVariants as kinds
use Rattle.oil_text.specs.OilGrammar.{class_of_kind}
use Rattle.oil_text.specs.OilLookahead.{kinds_of}

back : (k : Kind) → get_or kinds_of (class_of_kind k) kinds.OtherName ≡ k
back kinds.OtherName = refl
back kinds.Version = refl
back kinds.Implementation = refl
back kinds.Cpu = refl
back kinds.Integer = refl
back kinds.Point = refl
back kinds.Quoted = refl
back kinds.Include = refl
back (kinds.Mark Equals) = refl
back (kinds.Mark Semicolon) = refl
back (kinds.Mark OpeningBrace) = refl
back (kinds.Mark ClosingBrace) = refl
back (kinds.Mark Colon) = refl
back (kinds.Mark OpeningBracket) = refl
back (kinds.Mark ClosingBracket) = refl
back (kinds.Mark Comma) = refl
back (kinds.Mark Dot) = refl
back (kinds.Mark Less) = refl
back (kinds.Mark Greater) = refl
back (kinds.Mark Plus) = refl
back (kinds.Mark Minus) = refl

pub same_class : (a b : Kind) → class_of_kind a ≡ class_of_kind b → a ≡ b
same_class a b e = sym (back a) ∙ ap (λ c. get_or kinds_of c kinds.OtherName) e ∙ back b
