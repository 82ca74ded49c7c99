-- OIL texts and their trees, and the first fault of a text that is none.
use Rattle.std.specs.Prelude.{◌≡◌, ℕ, List, [], ◌∷◌}
use Rattle.chk_base.specs.declared.place.Place.{Place}
use Rattle.chk_base.specs.Places.{place_after}
use Rattle.grammar.specs.Grammar.{Rule, IsSentence}
use Rattle.grammar.specs.FirstFault.{IsFirstFault, IsCutOff, IsReadAs}
use Rattle.oil_text.specs.OilTokens.{AreTokensOf, IsByteFault}
use Rattle.oil_text.specs.OilGrammar.{File, oil}
use Rattle.oil_text.specs.OilMeaning.{tree_of}
use Rattle.oil_text.specs.declared.token.Token.{Token}
use Rattle.oil_tree.specs.declared.tree.OilTree.{OilTree}
use Rattle.oil_text.specs.declared.fault.OilFault.{OilFault}
use Rattle.oil_text.specs.declared.fault.OilFault.TheVariants as faults

-- these tokens are a whole file of the grammar
abbrev pub IsFile : List Token → Type 0
IsFile tokens = IsSentence oil (Rule File) tokens

-- the text has tokens, they have exactly one tree by the grammar, and this is what it stands for
pub record IsOilText (text : List ℕ) (tree : OilTree) : Type 0 where
  pub tokens : List Token
  pub spelled : AreTokensOf text tokens
  pub read : IsReadAs oil (Rule File) tree_of tokens tree

-- the place is that of the first token with which the tokens so far begin no file
pub record IsTokenFault (text : List ℕ) (place : Place) : Type 0 where
  pub tokens : List Token
  pub spelled : AreTokensOf text tokens
  pub bad : Token
  pub rest : List Token
  pub first_fault : IsFirstFault IsFile tokens bad rest
  pub place_is : place ≡ bad.place

-- all tokens begin a file and are none, and the place is that after the last byte
pub record IsEndFault (text : List ℕ) (place : Place) : Type 0 where
  pub tokens : List Token
  pub spelled : AreTokensOf text tokens
  pub cut_off : IsCutOff IsFile tokens
  pub place_is : place ≡ place_after text

-- what a fault says of a text
abbrev pub IsRefusedFor : List ℕ → OilFault → Type 0
IsRefusedFor text (faults.Byte place) = IsByteFault text place
IsRefusedFor text (faults.Token place) = IsTokenFault text place
IsRefusedFor text (faults.EndOfText place) = IsEndFault text place
IsRefusedFor text faults.Memory = Unit {0}

-- the fault where these tokens are left
abbrev pub fault_at : List ℕ → List Token → OilFault
fault_at text [] = faults.EndOfText (place_after text)
fault_at text (bad ∷ rest) = faults.Token bad.place
