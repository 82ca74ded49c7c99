-- What is replied to the words of a run and of a made one, and why.
use Rattle.std.specs.Prelude.{◌≡◌, ℕ, ◌≤◌, ◌^◌, ◌⊎◌, true, List, Option, Some, None}
use Rattle.app_generator.specs.Generated.{generated_c, generated_oil}
use Rattle.application.specs.declared.app.App.{App}
use Rattle.cert_text.specs.declared.front.Bounds.{Bounds}
use Rattle.chk_base.specs.Desk.{DeskState}
use Rattle.command_words.specs.declared.asked.MakeWords.{MakeWords}
use Rattle.command_words.specs.declared.asked.RunWords.{RunWords}
use Rattle.decided_run.specs.Decided.{HasPutFault, IsBegun, IsDecidedRun}
use Rattle.one_stack.specs.TaskForm.{is_task_form}
use Rattle.answers.specs.declared.refusal.Refusal.{Refusal}
use Rattle.step_ir.specs.declared.code.Code.{Code}
use Rattle.text_stages.specs.Prepared.{IsRunRefusal, IsTakenForRun}
use Rattle.oschk_cmd.specs.declared.reply.Ran.{Ran}
use Rattle.oschk_cmd.specs.declared.reply.Reply.{Reply}
use Rattle.oschk_cmd.specs.declared.reply.Reply.TheVariants as reply
use Rattle.oschk_cmd.specs.Fetched.{AreFetched, HasTextFault, IsLong}

-- a run of at most so many turns without arrivals, and of at most so many learned lines
abbrev pub bounds_of : ℕ → ℕ → Bounds
bounds_of turns budget = record { turns = turns; arrivals = 0; budget = budget }

-- at least one turn and no more than 512, and no more than 10^12 learned lines
pub record IsBounded (turns budget : ℕ) : Type 0 where
  pub least : 1 ≤ turns
  pub most : turns ≤ 512
  pub budget_most : budget ≤ 10 ^ 12

-- the run of an application and its code, which was made from a number or not
pub record IsRanOf (app : App) (code : Code) (bounds : Bounds) (cert : List ℕ) (made : Option ℕ) (before after : DeskState) (ran : Ran) : Type 0 where
  pub made_is : ran.made ≡ made
  pub app_is : ran.app ≡ app
  pub code_is : ran.code ≡ code
  pub turns_is : ran.turns ≡ bounds.turns
  pub decided : IsDecidedRun app code bounds cert before after ran.decision

-- what is left in the files where a run isn't decided: they are as before, or the certificate was begun
abbrev pub IsLeftOf : App → Code → Bounds → List ℕ → DeskState → DeskState → Type 0
IsLeftOf app code bounds cert before after = (after.files ≡ before.files) ⊎ IsBegun app code bounds cert before after

-- why this is replied to an application and its code
abbrev pub IsRunReplyOf : App → Code → Bounds → List ℕ → Option ℕ → DeskState → DeskState → Reply → Type 0
IsRunReplyOf app code bounds cert made before after reply.OutOfMemory = IsLeftOf app code bounds cert before after
IsRunReplyOf app code bounds cert made before after (reply.Ran ran) = IsRanOf app code bounds cert made before after ran
IsRunReplyOf app code bounds cert made before after _ = ⊥

-- the certificate of an application and its code, which are decided by clauses, couldn't be written: why, and what is left
pub record IsUnwrittenOf (app : App) (code : Code) (bounds : Bounds) (cert : List ℕ) (before after : DeskState) : Type 0 where
  pub form : is_task_form app code ≡ true
  pub left : IsLeftOf app code bounds cert before after
  pub fault : HasPutFault cert before after

-- the texts mean an application and a code, and this is their run
pub record IsRan (oil c : List ℕ) (mode : Option (List ℕ)) (bounds : Bounds) (cert : List ℕ) (made : Option ℕ) (before after : DeskState) (ran : Ran) : Type 0 where
  pub prepared : IsTakenForRun oil c mode bounds.turns ran.app ran.code
  pub made_is : ran.made ≡ made
  pub turns_is : ran.turns ≡ bounds.turns
  pub decided : IsDecidedRun ran.app ran.code bounds cert before after ran.decision

-- the texts mean an application and a code, whose certificate was begun
pub record IsBegunFor (oil c : List ℕ) (mode : Option (List ℕ)) (bounds : Bounds) (cert : List ℕ) (before after : DeskState) : Type 0 where
  pub app : App
  pub code : Code
  pub prepared : IsTakenForRun oil c mode bounds.turns app code
  pub begun : IsBegun app code bounds cert before after

-- what is left in the files where memory ran out: they are as before, or a certificate was begun
abbrev pub IsLeft : List ℕ → List ℕ → Option (List ℕ) → Bounds → List ℕ → DeskState → DeskState → Type 0
IsLeft oil c mode bounds cert before after = (after.files ≡ before.files) ⊎ IsBegunFor oil c mode bounds cert before after

-- the texts are refused, and no file changes
pub record AreRefused (oil c : List ℕ) (mode : Option (List ℕ)) (turns : ℕ) (before after : DeskState) (refusal : Refusal) : Type 0 where
  pub why : IsRunRefusal oil c mode turns refusal
  pub kept : after.files ≡ before.files

-- why this is replied to two texts
abbrev pub IsTextsReply : List ℕ → List ℕ → Option (List ℕ) → Bounds → List ℕ → Option ℕ → DeskState → DeskState → Reply → Type 0
IsTextsReply oil c mode bounds cert made before after reply.OutOfMemory = IsLeft oil c mode bounds cert before after
IsTextsReply oil c mode bounds cert made before after (reply.Refused refusal) = AreRefused oil c mode bounds.turns before after refusal
IsTextsReply oil c mode bounds cert made before after (reply.Ran ran) = IsRan oil c mode bounds cert made before after ran
IsTextsReply oil c mode bounds cert made before after _ = ⊥

-- the texts mean an application and a code, whose certificate couldn't be written
pub record AreUnwritten (oil c : List ℕ) (mode : Option (List ℕ)) (bounds : Bounds) (cert : List ℕ) (before after : DeskState) : Type 0 where
  pub app : App
  pub code : Code
  pub prepared : IsTakenForRun oil c mode bounds.turns app code
  pub unwritten : IsUnwrittenOf app code bounds cert before after

-- the texts were fetched, and this is their run
pub record IsFetchedRun (run : RunWords) (before after : DeskState) (ran : Ran) : Type 0 where
  pub oil : List ℕ
  pub c : List ℕ
  pub fetched : DeskState
  pub texts : AreFetched run.oil run.c oil c before fetched
  pub is : IsRan oil c run.mode (bounds_of run.turns run.budget) run.cert None fetched after ran

-- the texts were fetched, and are refused
pub record AreFetchedRefused (run : RunWords) (before : DeskState) (refusal : Refusal) : Type 0 where
  pub oil : List ℕ
  pub c : List ℕ
  pub fetched : DeskState
  pub texts : AreFetched run.oil run.c oil c before fetched
  pub why : IsRunRefusal oil c run.mode run.turns refusal

-- a text of a run is too long, or both were fetched and are refused; no file changes
pub record IsRunRefused (run : RunWords) (before after : DeskState) (refusal : Refusal) : Type 0 where
  pub why : IsLong before run.oil run.c refusal ⊎ AreFetchedRefused run before refusal
  pub kept : after.files ≡ before.files

-- the texts were fetched, and the certificate was begun for what they mean
pub record IsFetchedBegun (run : RunWords) (before after : DeskState) : Type 0 where
  pub oil : List ℕ
  pub c : List ℕ
  pub fetched : DeskState
  pub texts : AreFetched run.oil run.c oil c before fetched
  pub begun : IsBegunFor oil c run.mode (bounds_of run.turns run.budget) run.cert fetched after

-- what is left in the files of a run where memory ran out
abbrev pub IsRunLeft : RunWords → DeskState → DeskState → Type 0
IsRunLeft run before after = (after.files ≡ before.files) ⊎ IsFetchedBegun run before after

-- why this is replied to the words of a run
abbrev pub IsRunReply : RunWords → DeskState → DeskState → Reply → Type 0
IsRunReply run before after reply.ReadFault = HasTextFault run.oil run.c before after × (after.files ≡ before.files)
IsRunReply run before after reply.OutOfMemory = IsRunLeft run before after
IsRunReply run before after (reply.Refused refusal) = IsRunRefused run before after refusal
IsRunReply run before after (reply.Ran ran) = IsFetchedRun run before after ran
IsRunReply run before after _ = ⊥

-- the texts were fetched, and the certificate of what they mean couldn't be written
pub record IsRunUnwritten (run : RunWords) (before after : DeskState) : Type 0 where
  pub oil : List ℕ
  pub c : List ℕ
  pub fetched : DeskState
  pub texts : AreFetched run.oil run.c oil c before fetched
  pub are : AreUnwritten oil c run.mode (bounds_of run.turns run.budget) run.cert fetched after

-- why this is replied to the words of a made run, whose texts belong to its number
abbrev pub IsMakeReply : MakeWords → DeskState → DeskState → Reply → Type 0
IsMakeReply make before after answer =
    IsTextsReply (generated_oil make.number) (generated_c make.number make.arrivals) None (bounds_of make.turns make.budget) make.cert (Some make.number) before after answer

-- the certificate of a made run couldn't be written: why, and what is left
abbrev pub IsMakeUnwritten : MakeWords → DeskState → DeskState → Type 0
IsMakeUnwritten make before after =
    AreUnwritten (generated_oil make.number) (generated_c make.number make.arrivals) None (bounds_of make.turns make.budget) make.cert before after
