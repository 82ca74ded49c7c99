-- What is replied to the words of a replay, and why.
use Rattle.std.specs.Prelude.{◌≡◌, ℕ, ◌⊎◌, List, Option, Some, Result, Ok, Err}
use Rattle.chk_base.specs.Causes.{Rose}
use Rattle.chk_base.specs.Desk.{DeskState, Fetch}
use Rattle.chk_base.specs.declared.place.Place.{Place}
use Rattle.application.specs.declared.app.App.{App}
use Rattle.command_words.specs.Asked.{IsReplay}
use Rattle.command_words.specs.declared.asked.ReplayWords.{ReplayWords}
use Rattle.replay.specs.Replaying.{IsRefused, events_for, last_failure}
use Rattle.replay.specs.ScheduleText.{IsOneSchedule, IsWrong}
use Rattle.replay.specs.declared.schedule.ScheduleFault.TheVariants.{Line}
use Rattle.answers.specs.declared.refusal.Refusal.{Refusal}
use Rattle.answers.specs.declared.refusal.Refusal.TheVariants as why
use Rattle.replay.specs.declared.run.ReplayFault.{ReplayFault}
use Rattle.replay.specs.declared.run.ReplayFault.TheVariants as fault
use Rattle.replay.specs.declared.run.Replayed.{Replayed}
use Rattle.step_ir.specs.declared.code.Code.{Code}
use Rattle.step_ir.specs.declared.event.Choice.{Choice}
use Rattle.oschk_cmd.specs.declared.reply.Reply.{Reply}
use Rattle.oschk_cmd.specs.declared.reply.Reply.TheVariants as reply
use Rattle.oschk_cmd.specs.declared.reply.Rerun.{Rerun}
use Rattle.text_stages.specs.Prepared.{IsPrepared, IsRefusal}
use Rattle.oschk_cmd.specs.Fetched.{HasBoth, HasLongFile, HasText, IsLong, text_limit}
use Rattle.oschk_cmd.specs.Replies.{replay_status}
use Rattle.oschk_cmd.specs.declared.status.Status.{Status}

-- the scheduler's events for choices with the failure that the last of them is, or the first choice that isn't permitted
abbrev pub IsResultOf : App → Code → List Choice → Result Replayed ReplayFault → Type 0
IsResultOf app code choices (Ok replayed) =
    (events_for app code choices ≡ Some replayed.events) × (replayed.failure ≡ last_failure replayed.events)
IsResultOf app code choices (Err (fault.NotPermitted step state events)) = IsRefused app code choices step state events
IsResultOf app code choices (Err fault.Memory) = ⊥

-- the texts mean an application, a code and a schedule, and this is its replay
pub record IsRerun (oil c schedule : List ℕ) (mode : Option (List ℕ)) (rerun : Rerun) : Type 0 where
  pub prepared : IsPrepared oil c mode rerun.app rerun.code
  pub choices : List Choice
  pub read : IsOneSchedule rerun.app rerun.code schedule choices
  pub result : IsResultOf rerun.app rerun.code choices rerun.result

-- the texts mean an application and a code, and the schedule's first wrong line is there
pub record IsWrongSchedule (oil c schedule : List ℕ) (mode : Option (List ℕ)) (refusal : Refusal) : Type 0 where
  pub app : App
  pub code : Code
  pub prepared : IsPrepared oil c mode app code
  pub place : Place
  pub wrong : IsWrong app code schedule (Line place)
  pub is : refusal ≡ why.ScheduleLine place

-- why three texts are refused
abbrev pub AreWrong : List ℕ → List ℕ → List ℕ → Option (List ℕ) → Refusal → Type 0
AreWrong oil c schedule mode refusal = IsRefusal oil c mode refusal ⊎ IsWrongSchedule oil c schedule mode refusal

-- the desk has these three texts, if it tells its files
pub record HasTexts (desk : DeskState) (replay : ReplayWords) (oil c schedule : List ℕ) : Type 0 where
  pub both : HasBoth desk replay.oil replay.c oil c
  pub has_schedule : HasText desk text_limit replay.schedule schedule

-- the three texts were fetched, and this is the replay
pub record IsFetchedReplay (desk : DeskState) (replay : ReplayWords) (rerun : Rerun) : Type 0 where
  pub oil : List ℕ
  pub c : List ℕ
  pub schedule : List ℕ
  pub texts : HasTexts desk replay oil c schedule
  pub is : IsRerun oil c schedule replay.mode rerun

-- the three texts were fetched, and are refused
pub record AreFetchedWrong (desk : DeskState) (replay : ReplayWords) (refusal : Refusal) : Type 0 where
  pub oil : List ℕ
  pub c : List ℕ
  pub schedule : List ℕ
  pub texts : HasTexts desk replay oil c schedule
  pub wrong : AreWrong oil c schedule replay.mode refusal

-- two texts were fetched, and the schedule is too long
pub record IsLongSchedule (desk : DeskState) (replay : ReplayWords) (refusal : Refusal) : Type 0 where
  pub oil : List ℕ
  pub c : List ℕ
  pub both : HasBoth desk replay.oil replay.c oil c
  pub long : HasLongFile desk text_limit replay.schedule
  pub is : refusal ≡ why.LongSchedule

-- why a replay is refused
abbrev pub IsReplayRefused : DeskState → ReplayWords → Refusal → Type 0
IsReplayRefused desk replay refusal =
    IsLong desk replay.oil replay.c refusal ⊎ (IsLongSchedule desk replay refusal ⊎ AreFetchedWrong desk replay refusal)

-- the desk failed at a fetch of one of the three texts
pub record HasReplayFault (replay : ReplayWords) (before after : DeskState) : Type 0 where
  pub rose : Rose before.faults after.faults
  pub last :
      (after.last_fault ≡ Some (Fetch replay.oil))
      ⊎ ((after.last_fault ≡ Some (Fetch replay.c)) ⊎ (after.last_fault ≡ Some (Fetch replay.schedule)))

-- why this is replied to the words of a replay
abbrev pub IsReplayReply : ReplayWords → DeskState → DeskState → Reply → Type 0
IsReplayReply replay before after reply.ReadFault = HasReplayFault replay before after
IsReplayReply replay before after reply.OutOfMemory = Unit {0}
IsReplayReply replay before after (reply.Refused refusal) = IsReplayRefused before replay refusal
IsReplayReply replay before after (reply.Rerun rerun) = IsFetchedReplay before replay rerun
IsReplayReply replay before after _ = ⊥

-- why this is replied to three texts
abbrev pub IsScheduleReply : List ℕ → List ℕ → List ℕ → Option (List ℕ) → Reply → Type 0
IsScheduleReply oil c schedule mode reply.OutOfMemory = Unit {0}
IsScheduleReply oil c schedule mode (reply.Refused refusal) = AreWrong oil c schedule mode refusal
IsScheduleReply oil c schedule mode (reply.Rerun rerun) = IsRerun oil c schedule mode rerun
IsScheduleReply oil c schedule mode _ = ⊥

-- the first wrong line of a schedule is there
pub record IsWrongAt (app : App) (code : Code) (schedule : List ℕ) (refusal : Refusal) : Type 0 where
  pub place : Place
  pub wrong : IsWrong app code schedule (Line place)
  pub is : refusal ≡ why.ScheduleLine place

-- this is the replay of a schedule over an application and its code
pub record IsRerunOf (app : App) (code : Code) (schedule : List ℕ) (rerun : Rerun) : Type 0 where
  pub app_is : rerun.app ≡ app
  pub code_is : rerun.code ≡ code
  pub choices : List Choice
  pub read : IsOneSchedule rerun.app rerun.code schedule choices
  pub result : IsResultOf rerun.app rerun.code choices rerun.result

-- why this is replied to the schedule of an application and its code
abbrev pub IsPreparedReply : App → Code → List ℕ → Reply → Type 0
IsPreparedReply app code schedule reply.OutOfMemory = Unit {0}
IsPreparedReply app code schedule (reply.Refused refusal) = IsWrongAt app code schedule refusal
IsPreparedReply app code schedule (reply.Rerun rerun) = IsRerunOf app code schedule rerun
IsPreparedReply app code schedule _ = ⊥

-- the words ask for the replay of a schedule, whose text and application the desk has, if it tells its files, and which ends so
pub record Replays (words : List (List ℕ)) (desk : DeskState) (ended : Status) : Type 0 where
  pub replay : ReplayWords
  pub is_replay : IsReplay words replay
  pub rerun : Rerun
  pub fetched : IsFetchedReplay desk replay rerun
  pub ends : replay_status rerun.result ≡ ended
