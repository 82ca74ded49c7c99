-- What the words of a command line ask for.
use Rattle.std.specs.Prelude.{◌≡◌, ◌≢◌, ℕ, ◌≤◌, ◌^◌, List, [], Option, Some, None, All, IsUtf8, slice_get, codes, decimal}
use Rattle.clap.specs.Words.{Row, first_of}
use Rattle.command_words.specs.declared.asked.Asked.{Asked}
use Rattle.command_words.specs.declared.asked.Asked.TheVariants as asked
use Rattle.command_words.specs.declared.asked.MakeWords.{MakeWords}
use Rattle.command_words.specs.declared.asked.ReplayWords.{ReplayWords}
use Rattle.command_words.specs.declared.asked.RunWords.{RunWords}
use Rattle.command_words.specs.declared.asked.ShowWords.{ShowWords}
use Rattle.command_words.specs.Lines.{PlainLine, run_line, replay_line, check_line, show_line, make_line, faults_for, rows_for}

-- `clap` takes the words, which are texts, by this line, whose name comes first
pub record AreOf (line : PlainLine) (words : List (List ℕ)) : Type 0 where
  pub text : All IsUtf8 words
  pub name : slice_get words 0 ≡ Some line.name
  pub taken : faults_for line words ≡ []

-- the text spells this number, from low to high, in decimal digits without a sign and without leading zeros
pub record IsSpelled (low high : ℕ) (text : List ℕ) (n : ℕ) : Type 0 where
  pub spelled : text ≡ decimal n
  pub least : low ≤ n
  pub most : n ≤ high

-- the text is given, and spells this number
abbrev pub IsNumber : ℕ → ℕ → Option (List ℕ) → ℕ → Type 0
IsNumber low high None n = ⊥
IsNumber low high (Some text) n = IsSpelled low high text n

-- the most clauses that may be learned: 1,000,000 where no text is given
abbrev pub IsBudget : Option (List ℕ) → ℕ → Type 0
IsBudget None n = n ≡ 1000000
IsBudget (Some text) n = IsSpelled 0 (10 ^ 12) text n

-- the names of the files of a run; that of the certificate differs from the others
pub record AreNames (rows : List Row) (oil c cert : List ℕ) : Type 0 where
  pub oil_is : first_of (codes "APP.oil") rows ≡ Some oil
  pub c_is : first_of (codes "APP.c") rows ≡ Some c
  pub cert_is : first_of (codes "cert") rows ≡ Some cert
  pub not_oil : cert ≢ oil
  pub not_c : cert ≢ c

-- the bounds of a run, also of one that is made: 1 to 512 turns, no arrival, and the budget
pub record AreBounds (rows : List Row) (turns arrivals budget : ℕ) : Type 0 where
  pub turns_is : IsNumber 1 512 (first_of (codes "turns") rows) turns
  pub arrivals_is : IsNumber 0 0 (first_of (codes "arrivals") rows) arrivals
  pub budget_is : IsBudget (first_of (codes "budget") rows) budget

-- what was found is that of this run
pub record IsRunOf (rows : List Row) (run : RunWords) : Type 0 where
  pub names : AreNames rows run.oil run.c run.cert
  pub bounds : AreBounds rows run.turns run.arrivals run.budget
  pub mode : first_of (codes "mode") rows ≡ run.mode

-- the words are those of this run
pub record IsRun (words : List (List ℕ)) (run : RunWords) : Type 0 where
  pub of : AreOf run_line words
  pub is : IsRunOf (rows_for run_line words) run

-- what was found is that of this replay: the names of its three texts, and the mode, if one is named
pub record IsReplayOf (rows : List Row) (replay : ReplayWords) : Type 0 where
  pub oil : first_of (codes "APP.oil") rows ≡ Some replay.oil
  pub c : first_of (codes "APP.c") rows ≡ Some replay.c
  pub schedule : first_of (codes "SCHEDULE") rows ≡ Some replay.schedule
  pub mode : first_of (codes "mode") rows ≡ replay.mode

-- the words are those of this replay
pub record IsReplay (words : List (List ℕ)) (replay : ReplayWords) : Type 0 where
  pub of : AreOf replay_line words
  pub is : IsReplayOf (rows_for replay_line words) replay

-- the words are those of a check of the certificate of this name
pub record IsCheck (words : List (List ℕ)) (cert : List ℕ) : Type 0 where
  pub of : AreOf check_line words
  pub cert_is : first_of (codes "CERT") (rows_for check_line words) ≡ Some cert

-- what was found is that of this show: the names of both texts, and the mode, if one is named
pub record IsShowOf (rows : List Row) (show : ShowWords) : Type 0 where
  pub oil : first_of (codes "APP.oil") rows ≡ Some show.oil
  pub c : first_of (codes "APP.c") rows ≡ Some show.c
  pub mode : first_of (codes "mode") rows ≡ show.mode

-- the words are those of this show
pub record IsShow (words : List (List ℕ)) (show : ShowWords) : Type 0 where
  pub of : AreOf show_line words
  pub is : IsShowOf (rows_for show_line words) show

-- what was found is that of a run of the application that is made of this number, below 2^32
pub record IsMakeOf (rows : List Row) (make : MakeWords) : Type 0 where
  pub number : IsNumber 0 4294967295 (first_of (codes "N") rows) make.number
  pub bounds : AreBounds rows make.turns make.arrivals make.budget
  pub cert : first_of (codes "cert") rows ≡ Some make.cert

-- the words are those of a run of the application that is made of this number
pub record IsMake (words : List (List ℕ)) (make : MakeWords) : Type 0 where
  pub of : AreOf make_line words
  pub is : IsMakeOf (rows_for make_line words) make

-- the words ask for this
abbrev pub IsAsked : List (List ℕ) → Asked → Type 0
IsAsked words (asked.Run run) = IsRun words run
IsAsked words (asked.Replay replay) = IsReplay words replay
IsAsked words (asked.Check cert) = IsCheck words cert
IsAsked words (asked.Show show) = IsShow words show
IsAsked words (asked.Make make) = IsMake words make

-- the words are those of no command
abbrev pub AreNone : List (List ℕ) → Type 0
AreNone words = (what : Asked) → IsAsked words what → ⊥
