-- The grammar of OIL texts, production by production.
use Rattle.std.specs.Prelude.{ℕ, zero, suc, List, [], ◌∷◌}
use Rattle.grammar.specs.Grammar.{Expression, Empty, One, Many, Rule, Grammar, ◌▸◌, ◌∣◌, the, optional}
use Rattle.oil_text.specs.declared.token.Mark.{Mark}
use Rattle.oil_text.specs.declared.token.Mark.TheVariants.{Equals, Semicolon, OpeningBrace, ClosingBrace, Colon, OpeningBracket, ClosingBracket, Comma, Dot, Less, Greater, Plus, Minus}
use Rattle.oil_text.specs.declared.token.Kind.{Kind}
use Rattle.oil_text.specs.declared.token.Kind.TheVariants as kinds
use Rattle.oil_text.specs.declared.token.Token.{Token}

-- ---- the classes of tokens

abbrev pub class_of_mark : Mark → ℕ
class_of_mark Equals = 8
class_of_mark Semicolon = 9
class_of_mark OpeningBrace = 10
class_of_mark ClosingBrace = 11
class_of_mark Colon = 12
class_of_mark OpeningBracket = 13
class_of_mark ClosingBracket = 14
class_of_mark Comma = 15
class_of_mark Dot = 16
class_of_mark Less = 17
class_of_mark Greater = 18
class_of_mark Plus = 19
class_of_mark Minus = 20

abbrev pub class_of_kind : Kind → ℕ
class_of_kind kinds.OtherName = 0
class_of_kind kinds.Version = 1
class_of_kind kinds.Implementation = 2
class_of_kind kinds.Cpu = 3
class_of_kind kinds.Integer = 4
class_of_kind kinds.Point = 5
class_of_kind kinds.Quoted = 6
class_of_kind kinds.Include = 7
class_of_kind (kinds.Mark mark) = class_of_mark mark

abbrev pub class_of : Token → ℕ
class_of t = class_of_kind t.kind

-- ---- the grammar

-- The names of the rules. An attribute has the number of levels that may be nested in it.
pub data Part : Type 0 where
  File : Part
  Version : Part
  Implementation : Part
  Cpu : Part
  Object : Part
  Attribute : ℕ → Part
  Value : Part
  Braced : Part

abbrev pub names : List ℕ
names = 0 ∷ 1 ∷ 2 ∷ 3 ∷ []

abbrev pub name : Expression Part
name = One names

abbrev pub number : Expression Part
number = One (4 ∷ 5 ∷ [])

abbrev pub string : Expression Part
string = the 6

abbrev pub include : Expression Part
include = the 7

abbrev pub mark : Mark → Expression Part
mark m = the (class_of_mark m)

-- descr = ":" string
abbrev pub description : Expression Part
description = mark Colon ▸ string

-- "{" { attribute } "}"
abbrev pub block : ℕ → Expression Part
block below = mark OpeningBrace ▸ Many (Rule (Attribute below)) ▸ mark ClosingBrace

-- what may be nested in an attribute: an attribute of the eighth level has none
abbrev pub nested : ℕ → Expression Part
nested zero = Empty
nested (suc below) = optional (block below)

-- any token but a brace
abbrev pub not_braces : List ℕ
not_braces = 0 ∷ 1 ∷ 2 ∷ 3 ∷ 4 ∷ 5 ∷ 6 ∷ 7 ∷ 8 ∷ 9 ∷ 12 ∷ 13 ∷ 14 ∷ 15 ∷ 16 ∷ 17 ∷ 18 ∷ 19 ∷ 20 ∷ []

abbrev pub sign : Expression Part
sign = mark Plus ∣ mark Minus ∣ Empty

abbrev pub rule : Part → Expression Part
-- file = version { include } [ impl { include } ] cpu
rule File = Rule Version ▸ Many include ▸ optional (Rule Implementation ▸ Many include) ▸ Rule Cpu
-- version = "OIL_VERSION" "=" string [ descr ] ";"
rule Version = the 1 ▸ mark Equals ▸ string ▸ optional description ▸ mark Semicolon
-- impl = "IMPLEMENTATION" name "{" balanced "}" [ descr ] ";"
rule Implementation = the 2 ▸ name ▸ Rule Braced ▸ optional description ▸ mark Semicolon
-- cpu = "CPU" name "{" { include | object } "}" [ descr ] ";"
rule Cpu = the 3 ▸ name ▸ mark OpeningBrace ▸ Many (include ∣ Rule Object) ▸ mark ClosingBrace ▸ optional description ▸ mark Semicolon
-- object = name name [ "{" { attribute } "}" ] [ descr ] ";"
rule Object = name ▸ name ▸ optional (block 7) ▸ optional description ▸ mark Semicolon
-- attribute = name "=" value [ "{" { attribute } "}" ] [ descr ] ";"
rule (Attribute below) = name ▸ mark Equals ▸ Rule Value ▸ nested below ▸ optional description ▸ mark Semicolon
-- value = name | string | [ "+" | "-" ] ( integer | point number )
rule Value = name ∣ string ∣ sign ▸ number
-- "{" balanced "}", where balanced is any tokens in which braces pair
rule Braced = mark OpeningBrace ▸ Many (One not_braces ∣ Rule Braced) ▸ mark ClosingBrace

abbrev pub oil : Grammar Part Token
oil = record { class = class_of; rule = rule }
