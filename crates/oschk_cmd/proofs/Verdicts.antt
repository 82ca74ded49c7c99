-- What the status of a command says.
use Rattle.std.proofs.Common.{◌≡◌, ◌⊎◌, ℕ, List, Bool, true, false, Option, Some, None, Result, Ok, Err, inl, inr, refl, sym, subst, ap, ◌∙◌}
use Rattle.app_generator.specs.Generated.{generated_c, generated_oil}
use Rattle.application.specs.declared.app.App.{App}
use Rattle.chk_base.specs.Causes.{Rose}
use Rattle.chk_base.specs.Desk.{DeskState}
use Rattle.chk_base.specs.Sink.{SinkState}
use Rattle.command_words.specs.Asked.{AreNone, IsAsked, IsCheck, IsReplay}
use Rattle.command_words.specs.declared.asked.Asked.{Asked}
use Rattle.command_words.specs.declared.asked.Asked.TheVariants as asked
use Rattle.command_words.specs.declared.asked.ReplayWords.{ReplayWords}
use Rattle.decided_run.specs.Decided.{IsByClauses, IsByOneRun, IsDecidedRun, IsFailingRun}
use Rattle.decided_run.specs.declared.decision.Decision.{Decision}
use Rattle.decided_run.specs.declared.decision.Decision.TheVariants as decision
use Rattle.report.specs.declared.reports.CertReport.{CertReport}
use Rattle.report.specs.declared.reports.CertReport.TheVariants as cert
use Rattle.replay.specs.declared.run.ReplayFault.{ReplayFault}
use Rattle.replay.specs.declared.run.ReplayFault.TheVariants as fault
use Rattle.answers.specs.declared.refusal.Refusal.{Refusal}
use Rattle.replay.specs.declared.run.Replayed.{Replayed}
use Rattle.report.specs.declared.reports.WriteFault.{WriteFault}
use Rattle.report.specs.Printing.{Prints}
use Rattle.step_ir.specs.declared.code.Code.{Code}
use Rattle.step_ir.specs.declared.event.Failure.{Failure}
use Rattle.oschk_cmd.specs.declared.reply.Ran.{Ran}
use Rattle.oschk_cmd.specs.declared.reply.Reply.{Reply}
use Rattle.oschk_cmd.specs.declared.reply.Reply.TheVariants as reply
use Rattle.oschk_cmd.specs.declared.reply.Rerun.{Rerun}
use Rattle.oschk_cmd.specs.declared.reply.Shown.{Shown}
use Rattle.oschk_cmd.specs.declared.status.Status.{Status}
use Rattle.oschk_cmd.specs.declared.status.Status.TheVariants as status
use Rattle.oschk_cmd.specs.Answers.{HasFetchFault, HasReadFault, IsRefused, IsReplied, IsReply, IsReplyTo, IsTold}
use Rattle.oschk_cmd.specs.Checks.{HasBadCert, HasGoodCert, IsFetchedCert}
use Rattle.oschk_cmd.specs.Headline.{Decides, HasFailed, Holds, IsUndecided, NamesMade, NamesRun, RunOf}
use Rattle.oschk_cmd.specs.Replays.{IsFetchedReplay, Replays}
use Rattle.oschk_cmd.specs.Replies.{check_status, decision_status, failure_status, reply_status, reply_text, replay_status, status_after}
use Rattle.oschk_cmd.specs.Runs.{IsRan, bounds_of}
use Rattle.oschk_cmd.specs.Shows.{Shows}

-- a status that isn't that of a failed write
abbrev is_of_reply : Status → Bool
is_of_reply status.WriteFault = false
is_of_reply _ = true

unwritten : (ended : Status) → is_of_reply ended ≡ true → ended ≡ status.WriteFault → ⊥
unwritten ended other is = let no : ◌≡◌ {A = Bool} false true = sym (ap is_of_reply is) ∙ other in cc

-- where a command ends otherwise, it ends as its reply says
ends_as : (answer : Reply) (result : Result (Unit {0}) WriteFault) (ended : Status) → is_of_reply ended ≡ true → ended ≡ status_after answer result → reply_status answer ≡ ended
ends_as answer (Ok u) ended other is = sym is
ends_as reply.Usage (Err e) ended other is = sym is
ends_as reply.ReadFault (Err e) ended other is = sym is
ends_as reply.OutOfMemory (Err e) ended other is = sym is
ends_as (reply.Refused refusal) (Err e) ended other is = absurd (unwritten ended other is)
ends_as (reply.Ran ran) (Err e) ended other is = absurd (unwritten ended other is)
ends_as (reply.Shown shown) (Err e) ended other is = absurd (unwritten ended other is)
ends_as (reply.Rerun rerun) (Err e) ended other is = absurd (unwritten ended other is)
ends_as (reply.Checked lines answered) (Err e) ended other is = absurd (unwritten ended other is)

-- ---- the statuses of a run and of a check

-- a run ends in no other way
abbrev is_of_run : Status → Bool
is_of_run status.Good = true
is_of_run status.Fails = true
is_of_run status.Undecided = true
is_of_run _ = false

run_ends : (d : Decision) → is_of_run (decision_status d) ≡ true
run_ends decision.Holds = refl
run_ends (decision.Fails failing) = refl
run_ends decision.Undecided = refl

-- and a check in these
abbrev is_of_check : Status → Bool
is_of_check status.Good = true
is_of_check status.NotPermitted = true
is_of_check _ = false

check_ends : (answered : CertReport) → is_of_check (check_status answered) ≡ true
check_ends (cert.Good v) = refl
check_ends (cert.BadLine number) = refl
check_ends cert.BadVerdict = refl

-- no run, replay or check ends as words, texts, files or writes that fail do
abbrev is_told : Status → Bool
is_told status.Refused = false
is_told status.Usage = false
is_told status.ReadFault = false
is_told status.WriteFault = false
is_told _ = true

run_told : (d : Decision) → is_told (decision_status d) ≡ true
run_told decision.Holds = refl
run_told (decision.Fails failing) = refl
run_told decision.Undecided = refl

replay_told : (result : Result Replayed ReplayFault) → is_told (replay_status result) ≡ true
replay_told (Ok replayed) = told replayed.failure
  where
    told : (failure : Option Failure) → is_told (failure_status failure) ≡ true
    told None = refl
    told (Some f) = refl
replay_told (Err (fault.NotPermitted step state events)) = refl
replay_told (Err fault.Memory) = refl

check_told : (answered : CertReport) → is_told (check_status answered) ≡ true
check_told (cert.Good v) = refl
check_told (cert.BadLine number) = refl
check_told cert.BadVerdict = refl

-- a replay decides
abbrev is_decided : Status → Bool
is_decided status.Undecided = false
is_decided _ = true

replay_decided : (result : Result Replayed ReplayFault) → is_decided (replay_status result) ≡ true
replay_decided (Ok replayed) = decided replayed.failure
  where
    decided : (failure : Option Failure) → is_decided (failure_status failure) ≡ true
    decided None = refl
    decided (Some f) = refl
replay_decided (Err (fault.NotPermitted step state events)) = refl
replay_decided (Err fault.Memory) = refl

differ : (test : Status → Bool) (some other : Status) → test some ≡ true → test other ≡ false → some ≡ other → ⊥
differ test some other passes fails is = let bad : ◌≡◌ {A = Bool} true false = sym passes ∙ (ap test is ∙ fails) in cc

-- ---- words that ask for nothing, and writes that fail

usage_after : (result : Result (Unit {0}) WriteFault) → status_after reply.Usage result ≡ status.Usage
usage_after (Ok u) = refl
usage_after (Err e) = refl

memory_after : (result : Result (Unit {0}) WriteFault) → status_after reply.OutOfMemory result ≡ status.Memory
memory_after (Ok u) = refl
memory_after (Err e) = refl

-- these replies keep their status
pub none_end : (answer : Reply) (before after : SinkState) (ended : Status) → IsTold answer before after ended → (answer ≡ reply.Usage) ⊎ (answer ≡ reply.OutOfMemory) → (ended ≡ status.Usage) ⊎ (ended ≡ status.Memory)
none_end answer before after ended told (inl usage) = inl (told.status ∙ (ap (λ (a : Reply). status_after a told.result) usage ∙ usage_after told.result))
none_end answer before after ended told (inr memory) = inr (told.status ∙ (ap (λ (a : Reply). status_after a told.result) memory ∙ memory_after told.result))

-- no reply ends as a write that fails
replied : (answer : Reply) → reply_status answer ≡ status.WriteFault → ⊥
replied reply.Usage ends = absurd cc
replied reply.ReadFault ends = absurd cc
replied reply.OutOfMemory ends = absurd cc
replied (reply.Refused refusal) ends = absurd cc
replied (reply.Ran ran) ends = differ is_told (decision_status ran.decision) status.WriteFault (run_told ran.decision) refl ends
replied (reply.Shown shown) ends = absurd cc
replied (reply.Rerun rerun) ends = differ is_told (replay_status rerun.result) status.WriteFault (replay_told rerun.result) refl ends
replied (reply.Checked lines answered) ends = differ is_told (check_status answered) status.WriteFault (check_told answered) refl ends

-- where a command that replied ends in a write fault, the output failed
rose_after : (answer : Reply) (before after : SinkState) (result : Result (Unit {0}) WriteFault) → Prints before after (reply_text answer) result → status_after answer result ≡ status.WriteFault → Rose before.faults after.faults
rose_after answer before after (Ok u) written is = absurd (replied answer is)
rose_after answer before after (Err e) written is = written.cause.failed refl

pub rose_end : (answer : Reply) (before after : SinkState) (ended : Status) → IsTold answer before after ended → ended ≡ status.WriteFault → Rose before.faults after.faults
rose_end answer before after ended told is = rose_after answer before after told.result told.written (sym told.status ∙ is)

-- what ends refused is a refusal
refused_reply : (answer : Reply) → reply_status answer ≡ status.Refused → (refusal : Refusal) × (answer ≡ reply.Refused refusal)
refused_reply reply.Usage ends = absurd cc
refused_reply reply.ReadFault ends = absurd cc
refused_reply reply.OutOfMemory ends = absurd cc
refused_reply (reply.Refused refusal) ends = (refusal, refl)
refused_reply (reply.Ran ran) ends = absurd (differ is_told (decision_status ran.decision) status.Refused (run_told ran.decision) refl ends)
refused_reply (reply.Shown shown) ends = absurd cc
refused_reply (reply.Rerun rerun) ends = absurd (differ is_told (replay_status rerun.result) status.Refused (replay_told rerun.result) refl ends)
refused_reply (reply.Checked lines answered) ends = absurd (differ is_told (check_status answered) status.Refused (check_told answered) refl ends)

-- and its line was written whole
written_whole : (text : List ℕ) (before after : SinkState) (refusal : Refusal) (result : Result (Unit {0}) WriteFault) → Prints before after text result → status.Refused ≡ status_after (reply.Refused refusal) result → Prints before after text (Ok tt)
written_whole text before after refusal (Ok tt) written is = written
written_whole text before after refusal (Err e) written is = absurd cc

module _ (words : List (List ℕ)) (before after : DeskState) where
  -- ---- runs

  by_clauses_of : (app : App) (code : Code) (of : RunOf) (fetched : DeskState) → IsDecidedRun app code (bounds_of of.turns of.budget) of.cert fetched after decision.Undecided → IsByClauses app code (bounds_of of.turns of.budget) of.cert fetched after decision.Undecided
  by_clauses_of app code of fetched decided = clauses decided.by
    where
      clauses : IsByClauses app code (bounds_of of.turns of.budget) of.cert fetched after decision.Undecided ⊎ IsByOneRun app code fetched after decision.Undecided → IsByClauses app code (bounds_of of.turns of.budget) of.cert fetched after decision.Undecided
      clauses (inl by) = by
      clauses (inr one) = absurd (one.decided refl)

  module _ (of : RunOf) (fetched : DeskState) (made : Option ℕ) (names : NamesRun words before fetched of ⊎ NamesMade words before fetched of) (ran : Ran) (at : IsRan of.oil of.c of.mode (bounds_of of.turns of.budget) of.cert made fetched after ran) where
    decided_as : (d : Decision) → ran.decision ≡ d → IsDecidedRun ran.app ran.code (bounds_of of.turns of.budget) of.cert fetched after d
    decided_as d is = subst (IsDecidedRun ran.app ran.code (bounds_of of.turns of.budget) of.cert fetched after) is at.decided

    decides : (d : Decision) → ran.decision ≡ d → Decides words before after ran.app ran.code of.turns d
    decides d is =
        record {
          of = of;
          fetched = fetched;
          names = names;
          turns_are = refl;
          prepared = at.prepared;
          decided = decided_as d is;
        }

    run_good : (d : Decision) → ran.decision ≡ d → decision_status d ≡ status.Good → Holds words before after
    run_good decision.Holds is ends =
        record {
          app = ran.app;
          code = ran.code;
          k = of.turns;
          decides = decides decision.Holds is;
          none = (decided_as decision.Holds is).means;
        }
    run_good (decision.Fails failing) is ends = absurd cc
    run_good decision.Undecided is ends = absurd cc

    run_failed : (d : Decision) → ran.decision ≡ d → decision_status d ≡ status.Fails → HasFailed words before after
    run_failed decision.Holds is ends = absurd cc
    run_failed (decision.Fails failing) is ends =
        let means : IsFailingRun ran.app ran.code of.turns 0 failing = (decided_as (decision.Fails failing) is).means in
        record {
          app = ran.app;
          code = ran.code;
          k = of.turns;
          failing = failing;
          decides = decides (decision.Fails failing) is;
          schedule = record { choices = failing.choices; permitted = means.replayed; short = means.short; few = means.few };
          failed = means.failed;
        }
    run_failed decision.Undecided is ends = absurd cc

    run_undecided : (d : Decision) → ran.decision ≡ d → decision_status d ≡ status.Undecided → IsUndecided words before after
    unfolding decides
    run_undecided decision.Holds is ends = absurd cc
    run_undecided (decision.Fails failing) is ends = absurd cc
    run_undecided decision.Undecided is ends =
        record {
          app = ran.app;
          code = ran.code;
          k = of.turns;
          decides = decides decision.Undecided is;
          clauses = by_clauses_of ran.app ran.code of fetched (decided_as decision.Undecided is);
        }

  ran_other : (ran : Ran) (ended : Status) → is_of_run ended ≡ false → decision_status ran.decision ≡ ended → ⊥
  ran_other ran ended other ends = differ is_of_run (decision_status ran.decision) ended (run_ends ran.decision) other ends

  -- ---- checks

  module _ (name : List ℕ) (is_check : IsCheck words name) (lines : ℕ) (answered : CertReport) (at : IsFetchedCert before name lines answered) where
    check_good : check_status answered ≡ status.Good → HasGoodCert words before
    check_good ends =
        record {
          cert = at.checked.cert;
          checks = record { name = name; is_check = is_check; bytes = at.bytes; has_bytes = at.has_bytes; cert_is = at.checked.cert_is };
          good = ap check_status (sym at.checked.checked.answer_is) ∙ ends;
          holds = at.checked.checked.holds;
          fails = at.checked.checked.fails;
        }

    check_bad : check_status answered ≡ status.NotPermitted → HasBadCert words before
    check_bad ends =
        record {
          cert = at.checked.cert;
          checks = record { name = name; is_check = is_check; bytes = at.bytes; has_bytes = at.has_bytes; cert_is = at.checked.cert_is };
          bad = ap check_status (sym at.checked.checked.answer_is) ∙ ends;
        }

  check_other : (answered : CertReport) (ended : Status) → is_of_check ended ≡ false → check_status answered ≡ ended → ⊥
  check_other answered ended other ends = differ is_of_check (check_status answered) ended (check_ends answered) other ends

  -- ---- replays

  rerun_is : (ended : Status) (replay : ReplayWords) → IsReplay words replay → (rerun : Rerun) → IsFetchedReplay before replay rerun → replay_status rerun.result ≡ ended → Replays words before ended
  rerun_is ended replay is_replay rerun fetched ends = record { replay = replay; is_replay = is_replay; rerun = rerun; fetched = fetched; ends = ends }

  -- ---- what was asked for

  -- the texts of a run, and what was run
  record IsRunOfWords (ran : Ran) : Type 0 where
    of : RunOf
    fetched : DeskState
    made : Option ℕ
    names : NamesRun words before fetched of ⊎ NamesMade words before fetched of
    at : IsRan of.oil of.c of.mode (bounds_of of.turns of.budget) of.cert made fetched after ran

  run_of : (what : Asked) → IsAsked words what → (ran : Ran) → IsReplyTo what before after (reply.Ran ran) → IsRunOfWords ran
  run_of (asked.Run run) is ran why =
      record {
        of = record { oil = why.oil; c = why.c; mode = run.mode; turns = run.turns; budget = run.budget; cert = run.cert };
        fetched = why.fetched;
        made = None;
        names = inl (record { run = run; is_run = is; texts = why.texts; mode_is = refl; turns_are = refl; budget_is = refl; cert_is = refl });
        at = why.is;
      }
  run_of (asked.Make make) is ran why =
      record {
        of =
            record {
              oil = generated_oil make.number;
              c = generated_c make.number make.arrivals;
              mode = None;
              turns = make.turns;
              budget = make.budget;
              cert = make.cert;
            };
        fetched = before;
        made = Some make.number;
        names =
            inr
            (record {
              make = make;
              is_make = is;
              oil_is = refl;
              c_is = refl;
              kept = refl;
              mode_is = refl;
              turns_are = refl;
              budget_is = refl;
              cert_is = refl;
            });
        at = why;
      }
  run_of (asked.Show show) is ran why = absurd why
  run_of (asked.Replay replay) is ran why = absurd why
  run_of (asked.Check name) is ran why = absurd why

  ran_good : (what : Asked) → IsAsked words what → (ran : Ran) → IsReplyTo what before after (reply.Ran ran) → decision_status ran.decision ≡ status.Good → Holds words before after
  ran_good what is ran why ends = let r = run_of what is ran why in run_good r.of r.fetched r.made r.names ran r.at ran.decision refl ends

  ran_failed : (what : Asked) → IsAsked words what → (ran : Ran) → IsReplyTo what before after (reply.Ran ran) → decision_status ran.decision ≡ status.Fails → HasFailed words before after
  ran_failed what is ran why ends = let r = run_of what is ran why in run_failed r.of r.fetched r.made r.names ran r.at ran.decision refl ends

  ran_undecided : (what : Asked) → IsAsked words what → (ran : Ran) → IsReplyTo what before after (reply.Ran ran) → decision_status ran.decision ≡ status.Undecided → IsUndecided words before after
  ran_undecided what is ran why ends = let r = run_of what is ran why in run_undecided r.of r.fetched r.made r.names ran r.at ran.decision refl ends

  show_of : (what : Asked) → IsAsked words what → (shown : Shown) → IsReplyTo what before after (reply.Shown shown) → Shows words before
  show_of (asked.Run run) is shown why = absurd why
  show_of (asked.Make make) is shown why = absurd why
  show_of (asked.Show show) is shown why = record { show = show; is_show = is; shown = shown; fetched = why }
  show_of (asked.Replay replay) is shown why = absurd why
  show_of (asked.Check name) is shown why = absurd why

  rerun_ends : (what : Asked) → IsAsked words what → (rerun : Rerun) → IsReplyTo what before after (reply.Rerun rerun) → (ended : Status) → replay_status rerun.result ≡ ended → Replays words before ended
  rerun_ends (asked.Run run) is rerun why ended ends = absurd why
  rerun_ends (asked.Make make) is rerun why ended ends = absurd why
  rerun_ends (asked.Show show) is rerun why ended ends = absurd why
  rerun_ends (asked.Replay replay) is rerun why ended ends = rerun_is ended replay is rerun why ends
  rerun_ends (asked.Check name) is rerun why ended ends = absurd why

  checked_good : (what : Asked) → IsAsked words what → (lines : ℕ) (answered : CertReport) → IsReplyTo what before after (reply.Checked lines answered) → check_status answered ≡ status.Good → HasGoodCert words before
  checked_good (asked.Run run) is lines answered why ends = absurd why
  checked_good (asked.Make make) is lines answered why ends = absurd why
  checked_good (asked.Show show) is lines answered why ends = absurd why
  checked_good (asked.Replay replay) is lines answered why ends = absurd why
  checked_good (asked.Check name) is lines answered why ends = check_good name is lines answered why ends

  checked_bad : (what : Asked) → IsAsked words what → (lines : ℕ) (answered : CertReport) → IsReplyTo what before after (reply.Checked lines answered) → check_status answered ≡ status.NotPermitted → HasBadCert words before
  checked_bad (asked.Run run) is lines answered why ends = absurd why
  checked_bad (asked.Make make) is lines answered why ends = absurd why
  checked_bad (asked.Show show) is lines answered why ends = absurd why
  checked_bad (asked.Replay replay) is lines answered why ends = absurd why
  checked_bad (asked.Check name) is lines answered why ends = check_bad name is lines answered why ends

  -- ---- what was replied

  good_of : (answer : Reply) → IsReply words before after answer → reply_status answer ≡ status.Good → Holds words before after ⊎ (Shows words before ⊎ (Replays words before status.Good ⊎ HasGoodCert words before))
  good_of reply.Usage cause ends = absurd cc
  good_of reply.ReadFault cause ends = absurd cc
  good_of reply.OutOfMemory cause ends = absurd cc
  good_of (reply.Refused refusal) cause ends = absurd cc
  good_of (reply.Ran ran) cause ends = inl (ran_good cause.what cause.is ran cause.why ends)
  good_of (reply.Shown shown) cause ends = inr (inl (show_of cause.what cause.is shown cause.why))
  good_of (reply.Rerun rerun) cause ends = inr (inr (inl (rerun_ends cause.what cause.is rerun cause.why status.Good ends)))
  good_of (reply.Checked lines answered) cause ends = inr (inr (inr (checked_good cause.what cause.is lines answered cause.why ends)))

  failed_of : (answer : Reply) → IsReply words before after answer → reply_status answer ≡ status.Fails → HasFailed words before after ⊎ Replays words before status.Fails
  failed_of reply.Usage cause ends = absurd cc
  failed_of reply.ReadFault cause ends = absurd cc
  failed_of reply.OutOfMemory cause ends = absurd cc
  failed_of (reply.Refused refusal) cause ends = absurd cc
  failed_of (reply.Ran ran) cause ends = inl (ran_failed cause.what cause.is ran cause.why ends)
  failed_of (reply.Shown shown) cause ends = absurd cc
  failed_of (reply.Rerun rerun) cause ends = inr (rerun_ends cause.what cause.is rerun cause.why status.Fails ends)
  failed_of (reply.Checked lines answered) cause ends = absurd (check_other answered status.Fails refl ends)

  bad_of : (answer : Reply) → IsReply words before after answer → reply_status answer ≡ status.NotPermitted → Replays words before status.NotPermitted ⊎ HasBadCert words before
  bad_of reply.Usage cause ends = absurd cc
  bad_of reply.ReadFault cause ends = absurd cc
  bad_of reply.OutOfMemory cause ends = absurd cc
  bad_of (reply.Refused refusal) cause ends = absurd cc
  bad_of (reply.Ran ran) cause ends = absurd (ran_other ran status.NotPermitted refl ends)
  bad_of (reply.Shown shown) cause ends = absurd cc
  bad_of (reply.Rerun rerun) cause ends = inl (rerun_ends cause.what cause.is rerun cause.why status.NotPermitted ends)
  bad_of (reply.Checked lines answered) cause ends = inr (checked_bad cause.what cause.is lines answered cause.why ends)

  undecided_of : (answer : Reply) → IsReply words before after answer → reply_status answer ≡ status.Undecided → IsUndecided words before after
  undecided_of reply.Usage cause ends = absurd cc
  undecided_of reply.ReadFault cause ends = absurd cc
  undecided_of reply.OutOfMemory cause ends = absurd cc
  undecided_of (reply.Refused refusal) cause ends = absurd cc
  undecided_of (reply.Ran ran) cause ends = ran_undecided cause.what cause.is ran cause.why ends
  undecided_of (reply.Shown shown) cause ends = absurd cc
  undecided_of (reply.Rerun rerun) cause ends = absurd (differ is_decided (replay_status rerun.result) status.Undecided (replay_decided rerun.result) refl ends)
  undecided_of (reply.Checked lines answered) cause ends = absurd (check_other answered status.Undecided refl ends)

  usage_of : (answer : Reply) → IsReply words before after answer → reply_status answer ≡ status.Usage → AreNone words
  usage_of reply.Usage cause ends = cause
  usage_of reply.ReadFault cause ends = absurd cc
  usage_of reply.OutOfMemory cause ends = absurd cc
  usage_of (reply.Refused refusal) cause ends = absurd cc
  usage_of (reply.Ran ran) cause ends = absurd (differ is_told (decision_status ran.decision) status.Usage (run_told ran.decision) refl ends)
  usage_of (reply.Shown shown) cause ends = absurd cc
  usage_of (reply.Rerun rerun) cause ends = absurd (differ is_told (replay_status rerun.result) status.Usage (replay_told rerun.result) refl ends)
  usage_of (reply.Checked lines answered) cause ends = absurd (differ is_told (check_status answered) status.Usage (check_told answered) refl ends)

  fault_of : (what : Asked) → IsReplyTo what before after reply.ReadFault → HasFetchFault what before after
  fault_of (asked.Run run) why = why.0
  fault_of (asked.Make make) why = absurd why
  fault_of (asked.Show show) why = why
  fault_of (asked.Replay replay) why = why
  fault_of (asked.Check name) why = why

  read_of : (answer : Reply) → IsReply words before after answer → reply_status answer ≡ status.ReadFault → HasReadFault words before after
  read_of reply.Usage cause ends = absurd cc
  read_of reply.ReadFault cause ends = record { what = cause.what; is = cause.is; fault = fault_of cause.what cause.why }
  read_of reply.OutOfMemory cause ends = absurd cc
  read_of (reply.Refused refusal) cause ends = absurd cc
  read_of (reply.Ran ran) cause ends = absurd (differ is_told (decision_status ran.decision) status.ReadFault (run_told ran.decision) refl ends)
  read_of (reply.Shown shown) cause ends = absurd cc
  read_of (reply.Rerun rerun) cause ends = absurd (differ is_told (replay_status rerun.result) status.ReadFault (replay_told rerun.result) refl ends)
  read_of (reply.Checked lines answered) cause ends = absurd (differ is_told (check_status answered) status.ReadFault (check_told answered) refl ends)

module _ (words : List (List ℕ)) (before after : DeskState) (out_before out_after : SinkState) (ended : Status) (answered : IsReplied words before after out_before out_after ended) where
  ends : (expected : Status) → is_of_reply expected ≡ true → ended ≡ expected → reply_status answered.answer ≡ expected
  ends expected other is = ends_as answered.answer answered.told.result expected other (sym is ∙ answered.told.status)

  -- where a command ends well, no permitted schedule of the texts fails, or the choices were replayed to the end, or the certificate is good
  pub good_end : ended ≡ status.Good → Holds words before after ⊎ (Shows words before ⊎ (Replays words before status.Good ⊎ HasGoodCert words before))
  good_end is = good_of words before after answered.answer answered.cause (ends status.Good refl is)

  -- where it ends in a failure, some permitted schedule fails, or that of the words does
  pub failed_end : ended ≡ status.Fails → HasFailed words before after ⊎ Replays words before status.Fails
  failed_end is = failed_of words before after answered.answer answered.cause (ends status.Fails refl is)

  -- where something isn't permitted, it is a choice of the schedule, or the certificate is bad
  pub bad_end : ended ≡ status.NotPermitted → Replays words before status.NotPermitted ⊎ HasBadCert words before
  bad_end is = bad_of words before after answered.answer answered.cause (ends status.NotPermitted refl is)

  -- where it ends undecided, the budget of a run was spent
  pub undecided_end : ended ≡ status.Undecided → IsUndecided words before after
  undecided_end is = undecided_of words before after answered.answer answered.cause (ends status.Undecided refl is)

  -- where what the words ask for is refused, the line of the first fault was written
  pub refused_end : ended ≡ status.Refused → IsRefused words before after out_before out_after
  refused_end is =
      let found = refused_reply answered.answer (ends status.Refused refl is) in
      record {
        refusal = found.0;
        cause = subst (IsReply words before after) found.1 answered.cause;
        written =
            written_whole (reply_text (reply.Refused found.0)) out_before out_after found.0 answered.told.result
            (subst (λ (a : Reply). Prints out_before out_after (reply_text a) answered.told.result) found.1 answered.told.written)
            (sym is ∙ (answered.told.status ∙ ap (λ (a : Reply). status_after a answered.told.result) found.1));
      }

  -- where the words are refused, they ask for nothing
  pub usage_end : ended ≡ status.Usage → AreNone words
  usage_end is = usage_of words before after answered.answer answered.cause (ends status.Usage refl is)

  -- where a file can't be read, the desk failed at a fetch of it
  pub read_end : ended ≡ status.ReadFault → HasReadFault words before after
  read_end is = read_of words before after answered.answer answered.cause (ends status.ReadFault refl is)
