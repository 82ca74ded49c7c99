-- Schedules: what was read so far, one more line, and the first that is wrong.
use Rattle.std.proofs.Common.{◌≡◌, ℕ, suc, ◌+◌, ◌<◌, List, [], ◌∷◌, ◌++◌, length, take, drop, Option, Some, None, refl, sym, ap, ◌∙◌, append_assoc, append-nil, length-append, subst, arith}
use Rattle.std.proofs.lemmas.List.{length-drop, take-append-le}
use Rattle.std.proofs.Math.Seq.{take-length}
use Rattle.application.specs.declared.app.App.{App}
use Rattle.application.specs.InOrder.{IsInOrder}
use Rattle.chk_base.specs.declared.place.Place.{Place}
use Rattle.chk_base.specs.Places.{place_after}
use Rattle.osek_machine.specs.declared.machine.Outcome.{Outcome}
use Rattle.osek_machine.specs.declared.machine.Outcome.TheVariants as answer
use Rattle.osek_machine.specs.Inputs.{input_at}
use Rattle.osek_machine.specs.Kept.{Kept, state_of}
use Rattle.osek_machine.specs.Steps.{IsOutcome, IsStep, StandsAt, start_of, step_of}
use Rattle.replay.specs.declared.value.ValueType.{ValueType}
use Rattle.replay.specs.ScheduleText.{IsFirstWrong, IsOneSchedule, IsScheduleOf, SpellAll, Spells, after, after_all, ended, input_type, lines_of, state_or, type_in}
use Rattle.replay.proofs.Choosing.{one_choice}
use Rattle.replay.proofs.Lines.{count, first_of, more_ended}
use Rattle.step_ir.specs.declared.code.Code.{Code}
use Rattle.step_ir.specs.declared.event.Choice.{Choice}
use Rattle.step_ir.specs.declared.event.Event.{Event}
use Rattle.step_ir.specs.PointStep.{Bits}
use Rattle.step_ir.specs.SchedulerState.{State}

module _ (app : App) (code : Code) where
  -- one more choice leads one state further
  after-append : (st : State ℕ Bits) (cs : List Choice) (c : Choice) → after_all app code st (cs ++ c ∷ []) ≡ after app code (after_all app code st cs) c
  after-append st [] c = refl
  after-append st (d ∷ cs) c = after-append (after app code st d) cs c

  -- one more line that spells a choice
  spell-append : (st : State ℕ Bits) (ls : List (List ℕ)) (cs : List Choice) (l : List ℕ) (c : Choice) → SpellAll app code st ls cs → Spells app (input_type app code (after_all app code st cs)) l c → SpellAll app code st (ls ++ l ∷ []) (cs ++ c ∷ [])
  spell-append st [] [] l c all one = (one, tt)
  spell-append st [] (d ∷ cs) l c all one = absurd all
  spell-append st (k ∷ ls) [] l c all one = absurd all
  spell-append st (k ∷ ls) (d ∷ cs) l c all one = (all.0, spell-append (after app code st d) ls cs l c all.1 one)

  module _ (order : IsInOrder app) where
    -- lines spell one list of choices
    one_list : (st : State ℕ Bits) (ls : List (List ℕ)) (cs ds : List Choice) → SpellAll app code st ls cs → SpellAll app code st ls ds → ds ≡ cs
    one_list st [] [] [] first second = refl
    one_list st [] [] (d ∷ ds) first second = absurd second
    one_list st [] (c ∷ cs) ds first second = absurd first
    one_list st (l ∷ ls) [] ds first second = absurd first
    one_list st (l ∷ ls) (c ∷ cs) [] first second = absurd second
    one_list st (l ∷ ls) (c ∷ cs) (d ∷ ds) first second =
        let same : d ≡ c = one_choice app order (input_type app code st) l d c second.0 first.0 in
        let rest : SpellAll app code (after app code st c) ls ds = subst (λ (x : Choice). SpellAll app code (after app code st x) ls ds) same second.1 in
        let more : ds ≡ cs = one_list (after app code st c) ls cs ds first.1 rest in
        cc

    -- lines one of which spells no choice after those before it spell no choices
    none_beyond : (st : State ℕ Bits) (ls : List (List ℕ)) (l : List ℕ) (more : List (List ℕ)) (cs all : List Choice) → SpellAll app code st ls cs → ((c : Choice) → Spells app (input_type app code (after_all app code st cs)) l c → ⊥) → SpellAll app code st (ls ++ l ∷ more) all → ⊥
    none_beyond st [] l more [] [] right wrong spelled = spelled
    none_beyond st [] l more [] (d ∷ ds) right wrong spelled = wrong d spelled.0
    none_beyond st [] l more (c ∷ cs) all right wrong spelled = right
    none_beyond st (k ∷ ls) l more [] all right wrong spelled = right
    none_beyond st (k ∷ ls) l more (c ∷ cs) [] right wrong spelled = spelled
    none_beyond st (k ∷ ls) l more (c ∷ cs) (d ∷ ds) right wrong spelled =
        let same : d ≡ c = one_choice app order (input_type app code st) k d c spelled.0 right.0 in
        none_beyond
        (after app code st c)
        ls
        l
        more
        cs
        ds
        right.1
        wrong
        (subst (λ (x : Choice). SpellAll app code (after app code st x) (ls ++ l ∷ more) ds) same spelled.1)

-- some lines of a text are read, and the rest is left
pub record IsReadSoFar (app : App) (code : Code) (text rest : List ℕ) (choices : List Choice) : Type 0 where
  pub lines : List (List ℕ)
  pub parts : lines_of text ≡ lines ++ lines_of rest
  pub whole : 0 < length rest → text ≡ ended lines ++ rest
  pub spelled : SpellAll app code (start_of app code) lines choices

-- no line is read
pub nothing_read : (app : App) (code : Code) (text : List ℕ) → IsReadSoFar app code text text []
nothing_read app code text = record { lines = []; parts = refl; whole = λ some. refl; spelled = tt }

-- the lines before the rest, and the first of the rest
parted : (ls : List (List ℕ)) (text rest : List ℕ) (n : ℕ) → 0 < length rest → n ≡ count rest → lines_of text ≡ ls ++ lines_of rest → lines_of text ≡ ls ++ take n rest ∷ lines_of (drop (suc n) rest)
parted ls text rest n some is parts = parts ∙ ap (λ (more : List (List ℕ)). ls ++ more) (first_of rest n some is)

-- one more line is read
pub line_read : (app : App) (code : Code) (text rest next line : List ℕ) (choices all : List Choice) (choice : Choice) (n : ℕ) → 0 < length rest → n ≡ count rest → line ≡ take n rest → next ≡ drop (suc n) rest → all ≡ choices ++ choice ∷ [] → Spells app (input_type app code (after_all app code (start_of app code) choices)) line choice → IsReadSoFar app code text rest choices → IsReadSoFar app code text next all
line_read app code text rest next line choices all choice n some is front back more spells so_far =
    rw (back, more) (record {
      lines = so_far.lines ++ take n rest ∷ [];
      parts =
          parted so_far.lines text rest n some is so_far.parts
          ∙ sym (append_assoc so_far.lines (take n rest ∷ []) (lines_of (drop (suc n) rest)));
      whole = λ left. more_ended so_far.lines text rest n is (omega (arith, left, length-drop (suc n) rest)) (so_far.whole some);
      spelled = spell-append app code (start_of app code) so_far.lines choices (take n rest) choice so_far.spelled (rw front at spells);
    })

-- all lines are read
pub all_read : (app : App) (code : Code) → IsInOrder app → (text rest : List ℕ) (choices : List Choice) → length rest ≡ 0 → IsReadSoFar app code text rest choices → IsOneSchedule app code text choices
all_read app code order text [] choices none so_far =
    let is : lines_of text ≡ so_far.lines = so_far.parts ∙ append-nil so_far.lines in
    let spelled : IsScheduleOf app code text choices = rw is so_far.spelled in
    record { spelled = spelled; alone = λ others also. one_list app code order (start_of app code) (lines_of text) choices others spelled also }
all_read app code order text (b ∷ bs) choices none so_far = absurd (omega (arith, none))

-- the first line of the rest is wrong
pub wrong_line : (app : App) (code : Code) → IsInOrder app → (text rest line : List ℕ) (choices : List Choice) (n offset : ℕ) (place : Place) → 0 < length rest → n ≡ count rest → line ≡ take n rest → offset + length rest ≡ length text → place ≡ place_after (take offset text) → ((choice : Choice) → Spells app (input_type app code (after_all app code (start_of app code) choices)) line choice → ⊥) → IsReadSoFar app code text rest choices → IsFirstWrong app code text place
wrong_line app code order text rest line choices n offset place some is front at begins wrong so_far =
    let parts = parted so_far.lines text rest n some is so_far.parts in
    let whole = so_far.whole some in
    let size : length text ≡ length (ended so_far.lines) + length rest = ap length whole ∙ length-append (ended so_far.lines) rest in
    let before : take offset text ≡ ended so_far.lines = ap (take offset) whole ∙ take_front (ended so_far.lines) rest offset (omega (arith, at, size)) in
    let wrong_here = rw front at wrong in
    record {
      before = so_far.lines;
      line = take n rest;
      rest = lines_of (drop (suc n) rest);
      parts = parts;
      begins = begins ∙ ap place_after before;
      choices = choices;
      right = so_far.spelled;
      wrong = wrong_here;
      refused = λ all spelled.
          none_beyond app code order (start_of app code) so_far.lines (take n rest) (lines_of (drop (suc n) rest)) choices all so_far.spelled wrong_here (rw parts at spelled);
    }
  where
    take_front : (a b : List ℕ) (k : ℕ) → k ≡ length a → take k (a ++ b) ≡ a
    take_front a b k is = rw is (take-append-le (length a) a b (omega arith) ∙ take-length a)

-- what a machine answers leads to the state after the choice
answered : (app : App) (code : Code) (choice : Choice) (step : Option (Event × State ℕ Bits)) (old new : State ℕ Bits) (outcome : Outcome) → IsOutcome step old outcome new → new ≡ state_or old step
answered app code choice None old new (answer.Event event) is = absurd is
answered app code choice None old new (answer.Failed event) is = absurd is
answered app code choice None old new answer.Refused is = is
answered app code choice (Some next) old new (answer.Event event) is = is.state
answered app code choice (Some next) old new (answer.Failed event) is = is.state
answered app code choice (Some next) old new answer.Refused is = absurd is

-- after a step a machine stands one choice further
pub stands_after : (app : App) (code : Code) (choices all : List Choice) (choice : Choice) (old new : Kept) (outcome : Outcome) → all ≡ choices ++ choice ∷ [] → IsStep choice old outcome new → StandsAt app code (after_all app code (start_of app code) choices) old → StandsAt app code (after_all app code (start_of app code) all) new
stands_after app code choices all choice old new outcome more step stood =
    let led : state_of new ≡ after old.app old.code (state_of old) choice = answered old.app old.code choice (step_of old.app old.code (state_of old) choice) (state_of old) (state_of new) outcome step.outcome in
    let same : after old.app old.code (state_of old) choice ≡ after app code (after_all app code (start_of app code) choices) choice =
    ap (λ (a : App). after a old.code (state_of old) choice) stood.same_app
    ∙ (ap (λ (x : Code). after app x (state_of old) choice) stood.same_code
    ∙ ap (λ (s : State ℕ Bits). after app code s choice) stood.state) in
    record {
      same_app = step.app ∙ stood.same_app;
      same_code = step.code ∙ stood.same_code;
      state = led ∙ (same ∙ sym (ap (after_all app code (start_of app code)) more ∙ after-append app code (start_of app code) choices choice));
    }

-- a machine tells the type of the input of the state at which it stands
pub input_stands : (app : App) (code : Code) (st : State ℕ Bits) (m : Kept) (cell : Option ℕ) (t : Option ValueType) → StandsAt app code st m → cell ≡ input_at m.app m.code (state_of m) → t ≡ type_in code cell → t ≡ input_type app code st
input_stands app code st m cell t stood cell_is is =
    is
    ∙ ap (type_in code) (cell_is
    ∙ (ap (λ (a : App). input_at a m.code (state_of m)) stood.same_app
    ∙ (ap (λ (x : Code). input_at app x (state_of m)) stood.same_code ∙ ap (input_at app code) stood.state)))
