-- What is replied, by what led to it.
use Rattle.std.proofs.Common.{◌≡◌, ℕ, List, Option, Some, None, Result, Ok, Err, ◌<◌, length, IfSome, ◌⊎◌, inl, inr, refl, sym, subst, ◌∙◌, false}
use Rattle.std.specs.Prelude.{IfErr, IfOk, IsSomeAnd}
use Rattle.std.specs.FinMap.{get}
use Rattle.cert_text.specs.declared.front.Bounds.{Bounds}
use Rattle.chk_base.specs.Desk.{DeskState, FetchAnswer, Files}
use Rattle.chk_base.specs.declared.desk.FetchFault.{FetchFault}
use Rattle.chk_base.specs.declared.desk.PutFault.TheVariants.{Failed}
use Rattle.chk_base.specs.declared.desk.FetchFault.TheVariants.{TooLong}
use Rattle.proof_check.specs.Certs.{IsCertOf}
use Rattle.proof_check.specs.declared.cert.Cert.{Cert}
use Rattle.app_generator.specs.Generated.{generated_c, generated_oil}
use Rattle.application.specs.declared.app.App.{App}
use Rattle.command_words.specs.Asked.{IsAsked}
use Rattle.command_words.specs.declared.asked.Asked.{Asked}
use Rattle.command_words.specs.declared.asked.Asked.TheVariants as asked
use Rattle.command_words.specs.declared.asked.MakeWords.{MakeWords}
use Rattle.command_words.specs.declared.asked.ReplayWords.{ReplayWords}
use Rattle.command_words.specs.declared.asked.RunWords.{RunWords}
use Rattle.command_words.specs.declared.asked.ShowWords.{ShowWords}
use Rattle.decided_run.specs.Decided.{IsDecidedRun, IsUndone}
use Rattle.step_ir.specs.declared.code.Code.{Code}
use Rattle.text_stages.specs.Prepared.{IsPrepared, IsTakenForRun}
use Rattle.oschk_cmd.specs.declared.reply.Ran.{Ran}
use Rattle.oschk_cmd.specs.declared.reply.Reply.{Reply}
use Rattle.oschk_cmd.specs.declared.reply.Reply.TheVariants as reply
use Rattle.oschk_cmd.specs.declared.reply.Rerun.{Rerun}
use Rattle.oschk_cmd.specs.declared.reply.Unwritten.{Unwritten}
use Rattle.oschk_cmd.specs.Answers.{AreFilesKept, AsksForRun, IsCurrentKept, IsReply, IsReplyTo, IsUnwritten, IsUnwrittenTo, may_write}
use Rattle.oschk_cmd.specs.Checks.{IsCertReply, IsCheckReply, IsCheckedReply}
use Rattle.oschk_cmd.specs.Fetched.{AreFetched, HasBoth, HasText, IsNoTexts, cert_limit, text_limit}
use Rattle.oschk_cmd.specs.Replays.{IsPreparedReply, IsReplayReply, IsRerun, IsRerunOf, IsScheduleReply}
use Rattle.oschk_cmd.specs.Runs.{AreUnwritten, IsLeft, IsLeftOf, IsMakeReply, IsMakeUnwritten, IsRan, IsRanOf, IsRunLeft, IsRunReply, IsRunReplyOf, IsRunUnwritten, IsTextsReply, IsUnwrittenOf, bounds_of}
use Rattle.oschk_cmd.specs.Shows.{IsShowReply, IsShownReply}

-- a file that was fetched is there, if the desk tells its files
fetched : (files : Option Files) (name text : List ℕ) (limit : ℕ) → IfSome files (λ fs. FetchAnswer (get fs name) limit (Ok text)) → IfSome files (λ fs. get fs name ≡ Some text)
fetched None name text limit answer = tt
fetched (Some fs) name text limit answer = answer.0

-- a file that is too long for a fetch is there, if the desk tells its files
too_long : (files : Option Files) (name : List ℕ) (limit : ℕ) → IfSome files (λ fs. FetchAnswer (get fs name) limit (Err TooLong)) → IfSome files (λ fs. IsSomeAnd (get fs name) (λ bytes. limit < length bytes))
too_long None name limit answer = tt
too_long (Some fs) name limit answer = answer

-- the same after other calls, which change no file
pub fetched_at : (before files : Option Files) (name text : List ℕ) (limit : ℕ) (result : Result (List ℕ) FetchFault) → files ≡ before → IfSome files (λ fs. FetchAnswer (get fs name) limit result) → result ≡ Ok text → IfSome before (λ fs. get fs name ≡ Some text)
fetched_at before files name text limit result same answer is =
    subst (λ (fs : Option Files). IfSome fs (λ f. get f name ≡ Some text)) same
    (fetched files name text limit (subst (λ (r : Result (List ℕ) FetchFault). IfSome files (λ fs. FetchAnswer (get fs name) limit r)) is answer))

pub long_at : (before files : Option Files) (name : List ℕ) (limit : ℕ) (result : Result (List ℕ) FetchFault) → files ≡ before → IfSome files (λ fs. FetchAnswer (get fs name) limit result) → result ≡ Err TooLong → IfSome before (λ fs. IsSomeAnd (get fs name) (λ bytes. limit < length bytes))
long_at before files name limit result same answer is =
    subst (λ (fs : Option Files). IfSome fs (λ f. IsSomeAnd (get f name) (λ bytes. limit < length bytes))) same
    (too_long files name limit (subst (λ (r : Result (List ℕ) FetchFault). IfSome files (λ fs. FetchAnswer (get fs name) limit r)) is answer))

-- what the texts mean is what was prepared
same_prepared : (oil c : List ℕ) (mode : Option (List ℕ)) (app other : App) (code more : Code) → other ≡ app → more ≡ code → IsPrepared oil c mode app code → IsPrepared oil c mode other more
same_prepared oil c mode app other code more same_app same_code prepared =
    subst (λ (x : App). IsPrepared oil c mode x more) (sym same_app) (subst (λ (x : Code). IsPrepared oil c mode app x) (sym same_code) prepared)

-- ---- runs

-- what holds of an answer, or of an error, and more
if_ok : {T E : Type 0} (P Q : T → Type 0) → ((t : T) → P t → Q t) → (result : Result T E) → IfOk result P → IfOk result Q
if_ok P Q step (Ok t) is = step t is
if_ok P Q step (Err e) is = tt

if_err : {T E : Type 0} (P Q : Type 0) → (P → Q) → (result : Result T E) → IfErr result (λ _. P) → IfErr result (λ _. Q)
if_err P Q step (Ok t) is = tt
if_err P Q step (Err e) is = step is

-- a run that isn't decided where the desk failed
pub undone_told : (app : App) (code : Code) (bounds : Bounds) (cert : List ℕ) (before after : DeskState) → IsUndone app code bounds cert before after Failed → IsUnwrittenOf app code bounds cert before after
undone_told app code bounds cert before after undone = record { form = undone.form refl; left = undone.left; fault = undone.cause refl }

ran_told : (oil c : List ℕ) (mode : Option (List ℕ)) (bounds : Bounds) (cert : List ℕ) (made : Option ℕ) (before after : DeskState) (app : App) (code : Code)
    → IsTakenForRun oil c mode bounds.turns app code → (ran : Ran) → IsRanOf app code bounds cert made before after ran → IsRan oil c mode bounds cert made before after ran
ran_told oil c mode bounds cert made before after app code prepared ran is =
    record {
      prepared =
          subst (λ (x : App). IsTakenForRun oil c mode bounds.turns x ran.code) (sym is.app_is)
          (subst (λ (x : Code). IsTakenForRun oil c mode bounds.turns app x) (sym is.code_is) prepared);
      made_is = is.made_is;
      turns_is = is.turns_is;
      decided =
          subst (λ (x : App). IsDecidedRun x ran.code bounds cert before after ran.decision) (sym is.app_is)
          (subst (λ (x : Code). IsDecidedRun app x bounds cert before after ran.decision) (sym is.code_is) is.decided);
    }

left_told : (oil c : List ℕ) (mode : Option (List ℕ)) (bounds : Bounds) (cert : List ℕ) (before after : DeskState) (app : App) (code : Code)
    → IsTakenForRun oil c mode bounds.turns app code → IsLeftOf app code bounds cert before after → IsLeft oil c mode bounds cert before after
left_told oil c mode bounds cert before after app code prepared (inl same) = inl same
left_told oil c mode bounds cert before after app code prepared (inr begun) = inr (record { app = app; code = code; prepared = prepared; begun = begun })

prepared_told : (oil c : List ℕ) (mode : Option (List ℕ)) (bounds : Bounds) (cert : List ℕ) (made : Option ℕ) (before after : DeskState) (app : App) (code : Code)
    → IsTakenForRun oil c mode bounds.turns app code → (answer : Reply) → IsRunReplyOf app code bounds cert made before after answer → IsTextsReply oil c mode bounds cert made before after answer
prepared_told oil c mode bounds cert made before after app code prepared (reply.Ran ran) told = ran_told oil c mode bounds cert made before after app code prepared ran told
prepared_told oil c mode bounds cert made before after app code prepared (reply.Refused refusal) told = absurd told
prepared_told oil c mode bounds cert made before after app code prepared (reply.Shown shown) told = absurd told
prepared_told oil c mode bounds cert made before after app code prepared (reply.Rerun rerun) told = absurd told
prepared_told oil c mode bounds cert made before after app code prepared (reply.Checked lines answered) told = absurd told
prepared_told oil c mode bounds cert made before after app code prepared reply.Usage told = absurd told
prepared_told oil c mode bounds cert made before after app code prepared reply.ReadFault told = absurd told
prepared_told oil c mode bounds cert made before after app code prepared reply.OutOfMemory told = left_told oil c mode bounds cert before after app code prepared told

-- what is replied to an application and its code is replied to the texts that mean them
pub texts_told : (oil c : List ℕ) (mode : Option (List ℕ)) (bounds : Bounds) (cert : List ℕ) (made : Option ℕ) (before after : DeskState) (app : App) (code : Code)
    → IsTakenForRun oil c mode bounds.turns app code → (result : Result Reply Unwritten) → IfOk result (IsRunReplyOf app code bounds cert made before after) → IfOk result (IsTextsReply oil c mode bounds cert made before after)
texts_told oil c mode bounds cert made before after app code prepared =
    if_ok (IsRunReplyOf app code bounds cert made before after) (IsTextsReply oil c mode bounds cert made before after) (prepared_told oil c mode bounds cert made before after app code prepared)

pub texts_unwritten : (oil c : List ℕ) (mode : Option (List ℕ)) (bounds : Bounds) (cert : List ℕ) (before after : DeskState) (app : App) (code : Code)
    → IsTakenForRun oil c mode bounds.turns app code → (result : Result Reply Unwritten) → IfErr result (λ _. IsUnwrittenOf app code bounds cert before after) → IfErr result (λ _. AreUnwritten oil c mode bounds cert before after)
texts_unwritten oil c mode bounds cert before after app code prepared =
    if_err (IsUnwrittenOf app code bounds cert before after) (AreUnwritten oil c mode bounds cert before after)
    (λ un. record { app = app; code = code; prepared = prepared; unwritten = un })

module _ (run : RunWords) (before fetched after : DeskState) (oil c : List ℕ) (texts : AreFetched run.oil run.c oil c before fetched) where
  abbrev bounds : Bounds
  bounds = bounds_of run.turns run.budget

  run_left : IsLeft oil c run.mode bounds run.cert fetched after → IsRunLeft run before after
  run_left (inl same) = inl (same ∙ texts.files)
  run_left (inr begun) = inr (record { oil = oil; c = c; fetched = fetched; texts = texts; begun = begun })

  run_reply : (answer : Reply) → IsTextsReply oil c run.mode bounds run.cert None fetched after answer → IsRunReply run before after answer
  run_reply (reply.Ran ran) told = record { oil = oil; c = c; fetched = fetched; texts = texts; is = told }
  run_reply (reply.Refused refusal) told =
      record {
        why = inr (record { oil = oil; c = c; fetched = fetched; texts = texts; why = told.why });
        kept = told.kept ∙ texts.files;
      }
  run_reply (reply.Shown shown) told = absurd told
  run_reply (reply.Rerun rerun) told = absurd told
  run_reply (reply.Checked lines answered) told = absurd told
  run_reply reply.Usage told = absurd told
  run_reply reply.ReadFault told = absurd told
  run_reply reply.OutOfMemory told = run_left told

  -- what is replied to texts is replied to a run that fetched them
  pub run_told : (mode : Option (List ℕ)) → mode ≡ run.mode → (result : Result Reply Unwritten) → IfOk result (IsTextsReply oil c mode bounds run.cert None fetched after) → IfOk result (IsRunReply run before after)
  run_told mode is result told =
      if_ok (IsTextsReply oil c run.mode bounds run.cert None fetched after) (IsRunReply run before after) run_reply result
      (subst (λ (m : Option (List ℕ)). IfOk result (IsTextsReply oil c m bounds run.cert None fetched after)) is told)

  pub run_unwritten : (mode : Option (List ℕ)) → mode ≡ run.mode → (result : Result Reply Unwritten) → IfErr result (λ _. AreUnwritten oil c mode bounds run.cert fetched after) → IfErr result (λ _. IsRunUnwritten run before after)
  run_unwritten mode is result told =
      if_err (AreUnwritten oil c run.mode bounds run.cert fetched after) (IsRunUnwritten run before after)
      (λ un. record { oil = oil; c = c; fetched = fetched; texts = texts; are = un }) result
      (subst (λ (m : Option (List ℕ)). IfErr result (λ _. AreUnwritten oil c m bounds run.cert fetched after)) is told)

-- the texts that belong to a number
pub made_told : (make : MakeWords) (before after : DeskState) (oil c : List ℕ) → oil ≡ generated_oil make.number → c ≡ generated_c make.number make.arrivals → (result : Result Reply Unwritten)
    → IfOk result (IsTextsReply oil c None (bounds_of make.turns make.budget) make.cert (Some make.number) before after) → IfOk result (IsMakeReply make before after)
made_told make before after oil c oil_is c_is result told =
    subst (λ (x : List ℕ). IfOk result (IsTextsReply x (generated_c make.number make.arrivals) None (bounds_of make.turns make.budget) make.cert (Some make.number) before after)) oil_is
    (subst (λ (x : List ℕ). IfOk result (IsTextsReply oil x None (bounds_of make.turns make.budget) make.cert (Some make.number) before after)) c_is told)

pub made_unwritten : (make : MakeWords) (before after : DeskState) (oil c : List ℕ) → oil ≡ generated_oil make.number → c ≡ generated_c make.number make.arrivals → (result : Result Reply Unwritten)
    → IfErr result (λ _. AreUnwritten oil c None (bounds_of make.turns make.budget) make.cert before after) → IfErr result (λ _. IsMakeUnwritten make before after)
made_unwritten make before after oil c oil_is c_is result told =
    subst (λ (x : List ℕ). IfErr result (λ _. AreUnwritten x (generated_c make.number make.arrivals) None (bounds_of make.turns make.budget) make.cert before after)) oil_is
    (subst (λ (x : List ℕ). IfErr result (λ _. AreUnwritten oil x None (bounds_of make.turns make.budget) make.cert before after)) c_is told)

-- where not both texts are there
pub run_stopped : (run : RunWords) (before after : DeskState) (answer : Reply) → after.files ≡ before.files → IsNoTexts run.oil run.c before after answer → IsRunReply run before after answer
run_stopped run before after (reply.Ran ran) kept told = absurd told
run_stopped run before after (reply.Refused refusal) kept told = record { why = inl told; kept = kept }
run_stopped run before after (reply.Shown shown) kept told = absurd told
run_stopped run before after (reply.Rerun rerun) kept told = absurd told
run_stopped run before after (reply.Checked lines answered) kept told = absurd told
run_stopped run before after reply.Usage kept told = absurd told
run_stopped run before after reply.ReadFault kept told = (told, kept)
run_stopped run before after reply.OutOfMemory kept told = inl kept

-- ---- shows

pub show_told : (show : ShowWords) (before after : DeskState) (oil c : List ℕ) → HasBoth before show.oil show.c oil c → (answer : Reply) → IsShownReply oil c show.mode answer → IsShowReply show before after answer
show_told show before after oil c both (reply.Shown shown) told = record { oil = oil; c = c; texts = both; prepared = told }
show_told show before after oil c both (reply.Refused refusal) told = inr (record { oil = oil; c = c; texts = both; why = told })
show_told show before after oil c both (reply.Ran ran) told = absurd told
show_told show before after oil c both (reply.Rerun rerun) told = absurd told
show_told show before after oil c both (reply.Checked lines answered) told = absurd told
show_told show before after oil c both reply.Usage told = absurd told
show_told show before after oil c both reply.ReadFault told = absurd told
show_told show before after oil c both reply.OutOfMemory told = tt

pub show_stopped : (show : ShowWords) (before after : DeskState) (answer : Reply) → IsNoTexts show.oil show.c before after answer → IsShowReply show before after answer
show_stopped show before after (reply.Shown shown) told = absurd told
show_stopped show before after (reply.Refused refusal) told = inl told
show_stopped show before after (reply.Ran ran) told = absurd told
show_stopped show before after (reply.Rerun rerun) told = absurd told
show_stopped show before after (reply.Checked lines answered) told = absurd told
show_stopped show before after reply.Usage told = absurd told
show_stopped show before after reply.ReadFault told = told
show_stopped show before after reply.OutOfMemory told = tt

-- ---- replays

rerun_told : (oil c schedule : List ℕ) (mode : Option (List ℕ)) (app : App) (code : Code) → IsPrepared oil c mode app code → (rerun : Rerun) → IsRerunOf app code schedule rerun → IsRerun oil c schedule mode rerun
rerun_told oil c schedule mode app code prepared rerun is =
    record {
      prepared = same_prepared oil c mode app rerun.app code rerun.code is.app_is is.code_is prepared;
      choices = is.choices;
      read = is.read;
      result = is.result;
    }

pub schedule_told : (oil c schedule : List ℕ) (mode : Option (List ℕ)) (app : App) (code : Code) → IsPrepared oil c mode app code → (answer : Reply) → IsPreparedReply app code schedule answer → IsScheduleReply oil c schedule mode answer
schedule_told oil c schedule mode app code prepared (reply.Rerun rerun) told = rerun_told oil c schedule mode app code prepared rerun told
schedule_told oil c schedule mode app code prepared (reply.Refused refusal) told =
    inr (record { app = app; code = code; prepared = prepared; place = told.place; wrong = told.wrong; is = told.is })
schedule_told oil c schedule mode app code prepared (reply.Ran ran) told = absurd told
schedule_told oil c schedule mode app code prepared (reply.Shown shown) told = absurd told
schedule_told oil c schedule mode app code prepared (reply.Checked lines answered) told = absurd told
schedule_told oil c schedule mode app code prepared reply.Usage told = absurd told
schedule_told oil c schedule mode app code prepared reply.ReadFault told = absurd told
schedule_told oil c schedule mode app code prepared reply.OutOfMemory told = tt

pub replay_told : (replay : ReplayWords) (before after : DeskState) (oil c schedule : List ℕ) → HasBoth before replay.oil replay.c oil c → HasText before text_limit replay.schedule schedule → (answer : Reply) → IsScheduleReply oil c schedule replay.mode answer → IsReplayReply replay before after answer
replay_told replay before after oil c schedule both has_schedule (reply.Rerun rerun) told =
    record { oil = oil; c = c; schedule = schedule; texts = record { both = both; has_schedule = has_schedule }; is = told }
replay_told replay before after oil c schedule both has_schedule (reply.Refused refusal) told =
    inr (inr (record { oil = oil; c = c; schedule = schedule; texts = record { both = both; has_schedule = has_schedule }; wrong = told }))
replay_told replay before after oil c schedule both has_schedule (reply.Ran ran) told = absurd told
replay_told replay before after oil c schedule both has_schedule (reply.Shown shown) told = absurd told
replay_told replay before after oil c schedule both has_schedule (reply.Checked lines answered) told = absurd told
replay_told replay before after oil c schedule both has_schedule reply.Usage told = absurd told
replay_told replay before after oil c schedule both has_schedule reply.ReadFault told = absurd told
replay_told replay before after oil c schedule both has_schedule reply.OutOfMemory told = tt

-- where not both texts are there
pub replay_stopped : (replay : ReplayWords) (before after : DeskState) (answer : Reply) → IsNoTexts replay.oil replay.c before after answer → IsReplayReply replay before after answer
replay_stopped replay before after (reply.Rerun rerun) told = absurd told
replay_stopped replay before after (reply.Refused refusal) told = inl told
replay_stopped replay before after (reply.Ran ran) told = absurd told
replay_stopped replay before after (reply.Shown shown) told = absurd told
replay_stopped replay before after (reply.Checked lines answered) told = absurd told
replay_stopped replay before after reply.Usage told = absurd told
replay_stopped replay before after reply.ReadFault told = record { rose = told.rose; last = by told.last }
  where
    by : {A B C : Type 0} → A ⊎ B → A ⊎ (B ⊎ C)
    by (inl a) = inl a
    by (inr b) = inr (inl b)
replay_stopped replay before after reply.OutOfMemory told = tt

-- ---- checks

pub checked_told : (bytes : List ℕ) (cert : Cert) → IsCertOf bytes cert → (answer : Reply) → IsCheckedReply cert answer → IsCertReply bytes answer
checked_told bytes cert cert_is (reply.Checked lines answered) checked = record { cert = cert; cert_is = cert_is; checked = checked }
checked_told bytes cert cert_is (reply.Refused refusal) checked = absurd checked
checked_told bytes cert cert_is (reply.Ran ran) checked = absurd checked
checked_told bytes cert cert_is (reply.Shown shown) checked = absurd checked
checked_told bytes cert cert_is (reply.Rerun rerun) checked = absurd checked
checked_told bytes cert cert_is reply.Usage checked = absurd checked
checked_told bytes cert cert_is reply.ReadFault checked = absurd checked
checked_told bytes cert cert_is reply.OutOfMemory checked = absurd checked

pub cert_told : (name : List ℕ) (before after : DeskState) (bytes : List ℕ) → HasText before cert_limit name bytes → (answer : Reply) → IsCertReply bytes answer → IsCheckReply name before after answer
cert_told name before after bytes has_bytes (reply.Checked lines answered) told = record { bytes = bytes; has_bytes = has_bytes; checked = told }
cert_told name before after bytes has_bytes (reply.Refused refusal) told = inr (record { bytes = bytes; has_bytes = has_bytes; why = told })
cert_told name before after bytes has_bytes (reply.Ran ran) told = absurd told
cert_told name before after bytes has_bytes (reply.Shown shown) told = absurd told
cert_told name before after bytes has_bytes (reply.Rerun rerun) told = absurd told
cert_told name before after bytes has_bytes reply.Usage told = absurd told
cert_told name before after bytes has_bytes reply.ReadFault told = absurd told
cert_told name before after bytes has_bytes reply.OutOfMemory told = tt

-- ---- words

asked_reply : (words : List (List ℕ)) (before after : DeskState) (what : Asked) → IsAsked words what → (answer : Reply) → IsReplyTo what before after answer → IsReply words before after answer
asked_reply words before after (asked.Run run) is reply.Usage why = absurd why
asked_reply words before after (asked.Make make) is reply.Usage why = absurd why
asked_reply words before after (asked.Show show) is reply.Usage why = absurd why
asked_reply words before after (asked.Replay replay) is reply.Usage why = absurd why
asked_reply words before after (asked.Check cert) is reply.Usage why = absurd why
asked_reply words before after what is reply.OutOfMemory why = inr (record { what = what; is = is; why = why })
asked_reply words before after what is reply.ReadFault why = record { what = what; is = is; why = why }
asked_reply words before after what is (reply.Refused refusal) why = record { what = what; is = is; why = why }
asked_reply words before after what is (reply.Ran ran) why = record { what = what; is = is; why = why }
asked_reply words before after what is (reply.Shown shown) why = record { what = what; is = is; why = why }
asked_reply words before after what is (reply.Rerun rerun) why = record { what = what; is = is; why = why }
asked_reply words before after what is (reply.Checked lines answered) why = record { what = what; is = is; why = why }

-- what is replied to what words ask for is replied to the words
pub asked_told : (words : List (List ℕ)) (before after : DeskState) (what : Asked) → IsAsked words what → (result : Result Reply Unwritten) → IfOk result (IsReplyTo what before after) → IfOk result (IsReply words before after)
asked_told words before after what is = if_ok (IsReplyTo what before after) (IsReply words before after) (asked_reply words before after what is)

pub asked_unwritten : (words : List (List ℕ)) (before after : DeskState) (what : Asked) → IsAsked words what → (result : Result Reply Unwritten) → IfErr result (λ _. IsUnwrittenTo what before after) → IfErr result (λ _. IsUnwritten words before after)
asked_unwritten words before after what is = if_err (IsUnwrittenTo what before after) (IsUnwritten words before after) (λ why. record { what = what; is = is; why = why })

-- what is so where what is asked for writes nothing is so unless a run is asked for
kept_or : (words : List (List ℕ)) (what : Asked) → IsAsked words what → (P : Type 0) → (may_write what ≡ false → P) → P ⊎ AsksForRun words
kept_or words (asked.Run run) is P kept = inr (record { what = asked.Run run; is = is; runs = refl })
kept_or words (asked.Make make) is P kept = inr (record { what = asked.Make make; is = is; runs = refl })
kept_or words (asked.Show show) is P kept = inl (kept refl)
kept_or words (asked.Replay replay) is P kept = inl (kept refl)
kept_or words (asked.Check cert) is P kept = inl (kept refl)

pub asked_kept : (words : List (List ℕ)) (before after : DeskState) (what : Asked) → IsAsked words what → (may_write what ≡ false → after.files ≡ before.files) → AreFilesKept words before after
asked_kept words before after what is = kept_or words what is (after.files ≡ before.files)

pub asked_current : (words : List (List ℕ)) (before after : DeskState) (what : Asked) → IsAsked words what → (may_write what ≡ false → after.current ≡ before.current) → IsCurrentKept words before after
asked_current words before after what is = kept_or words what is (after.current ≡ before.current)
