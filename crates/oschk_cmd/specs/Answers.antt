-- What a command answers, and why.
use Rattle.std.specs.Prelude.{◌≡◌, ℕ, ◌⊎◌, Bool, true, false, List, Result, Ok}
use Rattle.chk_base.specs.Desk.{DeskState}
use Rattle.chk_base.specs.Sink.{SinkState}
use Rattle.command_words.specs.Asked.{AreNone, IsAsked}
use Rattle.command_words.specs.declared.asked.Asked.{Asked}
use Rattle.command_words.specs.declared.asked.Asked.TheVariants as asked
use Rattle.answers.specs.declared.refusal.Refusal.{Refusal}
use Rattle.report.specs.declared.reports.WriteFault as faults
use Rattle.report.specs.Printing.{Prints}
use Rattle.oschk_cmd.specs.declared.reply.Reply.{Reply}
use Rattle.oschk_cmd.specs.declared.reply.Reply.TheVariants as reply
use Rattle.oschk_cmd.specs.declared.status.Status.{Status}
use Rattle.oschk_cmd.specs.declared.status.Status.TheVariants.{WriteFault}
use Rattle.oschk_cmd.specs.Checks.{IsCheckReply, HasCheckFault}
use Rattle.oschk_cmd.specs.Replays.{IsReplayReply, HasReplayFault}
use Rattle.oschk_cmd.specs.Replies.{reply_text, status_after}
use Rattle.oschk_cmd.specs.Fetched.{HasTextFault}
use Rattle.oschk_cmd.specs.Runs.{IsBounded, IsMakeReply, IsMakeUnwritten, IsRunReply, IsRunUnwritten}
use Rattle.oschk_cmd.specs.Shows.{IsShowReply}

-- the bounds of what is asked for are those of a run, where it has them
abbrev pub HasBounds : Asked → Type 0
HasBounds (asked.Run run) = IsBounded run.turns run.budget
HasBounds (asked.Make make) = IsBounded make.turns make.budget
HasBounds _ = Unit {0}

-- why this is replied to what is asked for
abbrev pub IsReplyTo : Asked → DeskState → DeskState → Reply → Type 0
IsReplyTo (asked.Run run) before after answer = IsRunReply run before after answer
IsReplyTo (asked.Make make) before after answer = IsMakeReply make before after answer
IsReplyTo (asked.Show show) before after answer = IsShowReply show before after answer
IsReplyTo (asked.Replay replay) before after answer = IsReplayReply replay before after answer
IsReplyTo (asked.Check cert) before after answer = IsCheckReply cert before after answer

-- the words ask for this, and so it is replied
pub record IsAskedReply (words : List (List ℕ)) (before after : DeskState) (answer : Reply) : Type 0 where
  pub what : Asked
  pub is : IsAsked words what
  pub why : IsReplyTo what before after answer

-- what is left in the files where memory ran out: they are as before, or what the words ask for says it
abbrev pub IsMemoryReply : List (List ℕ) → DeskState → DeskState → Type 0
IsMemoryReply words before after = (after.files ≡ before.files) ⊎ IsAskedReply words before after reply.OutOfMemory

-- why this is replied to words
abbrev pub IsReply : List (List ℕ) → DeskState → DeskState → Reply → Type 0
IsReply words before after reply.Usage = AreNone words
IsReply words before after reply.OutOfMemory = IsMemoryReply words before after
IsReply words before after answer = IsAskedReply words before after answer

-- the certificate of what is asked for couldn't be written: why, and what is left
abbrev pub IsUnwrittenTo : Asked → DeskState → DeskState → Type 0
IsUnwrittenTo (asked.Run run) before after = IsRunUnwritten run before after
IsUnwrittenTo (asked.Make make) before after = IsMakeUnwritten make before after
IsUnwrittenTo _ before after = ⊥

-- the words ask for this, whose certificate couldn't be written
pub record IsUnwritten (words : List (List ℕ)) (before after : DeskState) : Type 0 where
  pub what : Asked
  pub is : IsAsked words what
  pub why : IsUnwrittenTo what before after

-- what is asked for may write a file: a run and a made one may
abbrev pub may_write : Asked → Bool
may_write (asked.Run run) = true
may_write (asked.Make make) = true
may_write _ = false

-- the words ask for a run or a made one
pub record AsksForRun (words : List (List ℕ)) : Type 0 where
  pub what : Asked
  pub is : IsAsked words what
  pub runs : may_write what ≡ true

-- no file changes unless the words ask for a run or a made one
abbrev pub AreFilesKept : List (List ℕ) → DeskState → DeskState → Type 0
AreFilesKept words before after = (after.files ≡ before.files) ⊎ AsksForRun words

-- nor does another file become current
abbrev pub IsCurrentKept : List (List ℕ) → DeskState → DeskState → Type 0
IsCurrentKept words before after = (after.current ≡ before.current) ⊎ AsksForRun words

-- the desk failed at a fetch of a file that is to be read
abbrev pub HasFetchFault : Asked → DeskState → DeskState → Type 0
HasFetchFault (asked.Run run) before after = HasTextFault run.oil run.c before after
HasFetchFault (asked.Make make) before after = ⊥
HasFetchFault (asked.Show show) before after = HasTextFault show.oil show.c before after
HasFetchFault (asked.Replay replay) before after = HasReplayFault replay before after
HasFetchFault (asked.Check cert) before after = HasCheckFault cert before after

-- the words ask for this, and the desk failed at a fetch of a file that they name to be read
pub record HasReadFault (words : List (List ℕ)) (before after : DeskState) : Type 0 where
  pub what : Asked
  pub is : IsAsked words what
  pub fault : HasFetchFault what before after

-- a reply or a prefix of it was written, and the command ended so
pub record IsTold (answer : Reply) (before after : SinkState) (ended : Status) : Type 0 where
  pub result : Result (Unit {0}) faults.WriteFault
  pub written : Prints before after (reply_text answer) result
  pub status : ended ≡ status_after answer result

-- the command replied, wrote the reply or a prefix of it, and ended so
pub record IsReplied (words : List (List ℕ)) (desk_before desk_after : DeskState) (out_before out_after : SinkState) (ended : Status) : Type 0 where
  pub answer : Reply
  pub cause : IsReply words desk_before desk_after answer
  pub told : IsTold answer out_before out_after ended

-- what the words ask for is refused: this is the first fault by stage, the rule that is broken or the limit that is passed, and its line was written
pub record IsRefused (words : List (List ℕ)) (desk_before desk_after : DeskState) (out_before out_after : SinkState) : Type 0 where
  pub refusal : Refusal
  pub cause : IsAskedReply words desk_before desk_after (reply.Refused refusal)
  pub written : Prints out_before out_after (reply_text (reply.Refused refusal)) (Ok tt)

-- a certificate couldn't be written, so the command wrote no reply, and ended in a write fault
pub record IsStopped (words : List (List ℕ)) (desk_before desk_after : DeskState) (out_before out_after : SinkState) (ended : Status) : Type 0 where
  pub cause : IsUnwritten words desk_before desk_after
  pub nothing : out_after ≡ out_before
  pub status : ended ≡ WriteFault

-- one of both
abbrev pub IsAnswered : List (List ℕ) → DeskState → DeskState → SinkState → SinkState → Status → Type 0
IsAnswered words desk_before desk_after out_before out_after ended =
    IsReplied words desk_before desk_after out_before out_after ended ⊎ IsStopped words desk_before desk_after out_before out_after ended
