-- What is replied to the words of a show, and why.
use Rattle.std.specs.Prelude.{ℕ, ◌⊎◌, List, Option}
use Rattle.chk_base.specs.Desk.{DeskState}
use Rattle.command_words.specs.Asked.{IsShow}
use Rattle.command_words.specs.declared.asked.ShowWords.{ShowWords}
use Rattle.answers.specs.declared.refusal.Refusal.{Refusal}
use Rattle.text_stages.specs.Prepared.{IsPrepared, IsRefusal}
use Rattle.oschk_cmd.specs.declared.reply.Reply.{Reply}
use Rattle.oschk_cmd.specs.declared.reply.Reply.TheVariants as reply
use Rattle.oschk_cmd.specs.declared.reply.Shown.{Shown}
use Rattle.oschk_cmd.specs.Fetched.{HasBoth, HasTextFault, IsLong}

-- why this is replied to two texts
abbrev pub IsShownReply : List ℕ → List ℕ → Option (List ℕ) → Reply → Type 0
IsShownReply oil c mode reply.OutOfMemory = Unit {0}
IsShownReply oil c mode (reply.Refused refusal) = IsRefusal oil c mode refusal
IsShownReply oil c mode (reply.Shown shown) = IsPrepared oil c mode shown.app shown.code
IsShownReply oil c mode _ = ⊥

-- the texts were fetched, and mean this application and this code
pub record IsFetchedShow (desk : DeskState) (show : ShowWords) (shown : Shown) : Type 0 where
  pub oil : List ℕ
  pub c : List ℕ
  pub texts : HasBoth desk show.oil show.c oil c
  pub prepared : IsPrepared oil c show.mode shown.app shown.code

-- the texts were fetched, and are refused
pub record IsFetchedUnshown (desk : DeskState) (show : ShowWords) (refusal : Refusal) : Type 0 where
  pub oil : List ℕ
  pub c : List ℕ
  pub texts : HasBoth desk show.oil show.c oil c
  pub why : IsRefusal oil c show.mode refusal

-- why this is replied to the words of a show
abbrev pub IsShowReply : ShowWords → DeskState → DeskState → Reply → Type 0
IsShowReply show before after reply.ReadFault = HasTextFault show.oil show.c before after
IsShowReply show before after reply.OutOfMemory = Unit {0}
IsShowReply show before after (reply.Refused refusal) = IsLong before show.oil show.c refusal ⊎ IsFetchedUnshown before show refusal
IsShowReply show before after (reply.Shown shown) = IsFetchedShow before show shown
IsShowReply show before after _ = ⊥

-- the words ask for a show of two texts that the desk has, if it tells its files, and that are taken
pub record Shows (words : List (List ℕ)) (desk : DeskState) : Type 0 where
  pub show : ShowWords
  pub is_show : IsShow words show
  pub shown : Shown
  pub fetched : IsFetchedShow desk show shown
