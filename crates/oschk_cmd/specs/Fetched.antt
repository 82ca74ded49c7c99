-- Texts that are fetched, and why there are none.
use Rattle.std.specs.Prelude.{◌≡◌, ℕ, ◌<◌, ◌≤◌, ◌⊎◌, List, length, Some, IfSome, IsSomeAnd}
use Rattle.std.specs.FinMap.{get}
use Rattle.chk_base.specs.Causes.{Rose}
use Rattle.chk_base.specs.Desk.{DeskState, Fetch}
use Rattle.answers.specs.declared.refusal.Refusal.{Refusal}
use Rattle.answers.specs.declared.refusal.Refusal.TheVariants as why
use Rattle.oschk_cmd.specs.declared.reply.Reply.{Reply}
use Rattle.oschk_cmd.specs.declared.reply.Reply.TheVariants as reply

-- the most bytes that an OIL text, a C text or a schedule may have, and a certificate
abbrev pub text_limit : ℕ
text_limit = 262144

abbrev pub cert_limit : ℕ
cert_limit = 1073741824

-- the desk tells that a file has these bytes, if it tells its files
abbrev pub HasFile : DeskState → List ℕ → List ℕ → Type 0
HasFile desk name bytes = IfSome desk.files (λ files. get files name ≡ Some bytes)

-- and there are no more of them than the limit
pub record HasText (desk : DeskState) (limit : ℕ) (name bytes : List ℕ) : Type 0 where
  pub there : HasFile desk name bytes
  pub short : length bytes ≤ limit

-- the desk tells that a file is longer than the limit, if it tells its files
abbrev pub HasLongFile : DeskState → ℕ → List ℕ → Type 0
HasLongFile desk limit name = IfSome desk.files (λ files. IsSomeAnd (get files name) (λ bytes. limit < length bytes))

-- the desk has an OIL text and a C text of these names
pub record HasBoth (desk : DeskState) (oil_name c_name oil c : List ℕ) : Type 0 where
  pub has_oil : HasText desk text_limit oil_name oil
  pub has_c : HasText desk text_limit c_name c

-- the desk had an OIL text and a C text of these names, and is as before after their fetches, but for its faults
pub record AreFetched (oil_name c_name oil c : List ℕ) (before fetched : DeskState) : Type 0 where
  pub both : HasBoth before oil_name c_name oil c
  pub files : fetched.files ≡ before.files
  pub current : fetched.current ≡ before.current
  pub later : before.faults ≤ fetched.faults

-- the OIL text, of this name, is too long
pub record IsLongOil (desk : DeskState) (oil_name : List ℕ) (refusal : Refusal) : Type 0 where
  pub long : HasLongFile desk text_limit oil_name
  pub is : refusal ≡ why.LongOil

-- the OIL text was fetched, and the C text is too long, of these names
pub record IsLongC (desk : DeskState) (oil_name c_name : List ℕ) (refusal : Refusal) : Type 0 where
  pub oil : List ℕ
  pub has_oil : HasText desk text_limit oil_name oil
  pub long : HasLongFile desk text_limit c_name
  pub is : refusal ≡ why.LongC

-- one of both is
abbrev pub IsLong : DeskState → List ℕ → List ℕ → Refusal → Type 0
IsLong desk oil_name c_name refusal = IsLongOil desk oil_name refusal ⊎ IsLongC desk oil_name c_name refusal

-- the desk failed at a fetch of one of the two texts
pub record HasTextFault (oil_name c_name : List ℕ) (before after : DeskState) : Type 0 where
  pub rose : Rose before.faults after.faults
  pub last : (after.last_fault ≡ Some (Fetch oil_name)) ⊎ (after.last_fault ≡ Some (Fetch c_name))

-- why this is replied where not both texts are there
abbrev pub IsNoTexts : List ℕ → List ℕ → DeskState → DeskState → Reply → Type 0
IsNoTexts oil_name c_name before after reply.ReadFault = HasTextFault oil_name c_name before after
IsNoTexts oil_name c_name before after reply.OutOfMemory = Unit {0}
IsNoTexts oil_name c_name before after (reply.Refused refusal) = IsLong before oil_name c_name refusal
IsNoTexts oil_name c_name before after _ = ⊥
