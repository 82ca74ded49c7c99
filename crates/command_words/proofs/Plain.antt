-- What `clap` says of a command that is the one of a line.
use Rattle.std.proofs.Common.{arith, inl, inr, ◌≡◌, ◌≢◌, ℕ, Bool, true, false, ◌&&◌, List, [], ◌∷◌, length, suc, refl, ap, subst, ◌∙◌}
use Rattle.clap.specs.declared.error.Error.{Error}
use Rattle.clap.specs.declared.error.kind.ErrorKind.TheVariants.{OutOfMemory}
use Rattle.clap.specs.Words.{App, Row, Kinds, HasKind, kind_of, fault_of, matches_of, is_simple, is_simple_and_free}
use Rattle.command_words.specs.Lines.{PlainLine, app_for, is_plain, faults_for, rows_for, run_line, replay_line, check_line, show_line, make_line}

both : (a b : Bool) → a && b ≡ true → (a ≡ true) × (b ≡ true)
both true true is = (refl, refl)
both true false is = (refl, is)
both false true is = (is, refl)
both false false is = (is, is)

pub faults : (line : PlainLine) (words : List (List ℕ)) (app : App) (P : Kinds → Type 0) → app ≡ app_for line → is_plain line ≡ true → (is_simple_and_free app ≡ true → P (fault_of app words)) → P (faults_for line words)
unfolding is_plain faults_for
faults line words app P is plain given =
    subst (λ a. P (fault_of a words)) is (given (ap is_simple_and_free is ∙ (both _ _ plain).1))

pub rows : (line : PlainLine) (words : List (List ℕ)) (app : App) (found : List Row) → app ≡ app_for line → is_plain line ≡ true → (is_simple app ≡ true → found ≡ matches_of app words) → found ≡ rows_for line words
unfolding is_plain rows_for
rows line words app found is plain given =
    given (ap is_simple is ∙ (both _ _ plain).0) ∙ ap (λ a. matches_of a words) is

-- an error that isn't of memory and has one of the kinds shows that there is one
pub refused : (error : Error) (kinds : Kinds) → HasKind kinds error → kind_of error ≢ OutOfMemory → kinds ≢ []
refused error [] (inl memory) other is = other memory
refused error [] (inr among) other is = among
refused error (k ∷ ks) has other is = let bad : suc (length ks) ≡ 0 = ap length is in absurd (omega (arith, bad))

pub run_is_plain : is_plain run_line ≡ true
unfolding is_plain
run_is_plain = refl

pub replay_is_plain : is_plain replay_line ≡ true
unfolding is_plain
replay_is_plain = refl

pub check_is_plain : is_plain check_line ≡ true
unfolding is_plain
check_is_plain = refl

pub show_is_plain : is_plain show_line ≡ true
unfolding is_plain
show_is_plain = refl

pub make_is_plain : is_plain make_line ≡ true
unfolding is_plain
make_is_plain = refl
