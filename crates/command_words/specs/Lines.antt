-- The line of each command, and what `clap` makes of words by it.
use Rattle.std.specs.Prelude.{ℕ, Bool, true, ◌&&◌, List, [], ◌∷◌, Some, map, codes}
use Rattle.std.specs.Borrow.{Bor}
use Rattle.clap.specs.Words.{App, Row, Rule, Kinds, new_app, new_rule, with_rule, matches_of, fault_of, is_simple, is_simple_and_free}
use Rattle.clap.specs.declared.builder.ArgAction.TheVariants.{Set}
use Rattle.command_words.specs.declared.line.Line.{Line}
use Rattle.command_words.specs.declared.line.Order.{Order}
use Rattle.command_words.specs.declared.line.Order.TheVariants.{Run, Replay, Check, Show, Make}
use Rattle.command_words.specs.declared.line.Kind.{Kind}
use Rattle.command_words.specs.declared.line.Kind.TheVariants.{Positional, Required, Optional}

-- a command's name, its positionals in order, and the long names of its options
pub record PlainLine : Type 0 where
  pub name : List ℕ
  pub positionals : List (List ℕ)
  pub required : List (List ℕ)
  pub optional : List (List ℕ)

-- texts, without where they lie in memory
abbrev pub plain_texts : List (Bor (List ℕ)) → List (List ℕ)
plain_texts = map (λ text. text.now)

abbrev pub plain_line : Line → PlainLine
plain_line line =
    record {
      name = line.name.now;
      positionals = plain_texts line.positionals.now;
      required = plain_texts line.required.now;
      optional = plain_texts line.optional.now;
    }

-- the line of `run`
abbrev pub run_line : PlainLine
run_line =
    record {
      name = codes "run";
      positionals = codes "APP.oil" ∷ codes "APP.c" ∷ [];
      required = codes "turns" ∷ codes "arrivals" ∷ codes "cert" ∷ [];
      optional = codes "budget" ∷ codes "mode" ∷ [];
    }

-- the line of `replay`
abbrev pub replay_line : PlainLine
replay_line =
    record {
      name = codes "replay";
      positionals = codes "APP.oil" ∷ codes "APP.c" ∷ codes "SCHEDULE" ∷ [];
      required = [];
      optional = codes "mode" ∷ [];
    }

-- the line of `check`
abbrev pub check_line : PlainLine
check_line = record { name = codes "check"; positionals = codes "CERT" ∷ []; required = []; optional = [] }

-- the line of `show`
abbrev pub show_line : PlainLine
show_line =
    record {
      name = codes "show";
      positionals = codes "APP.oil" ∷ codes "APP.c" ∷ [];
      required = [];
      optional = codes "mode" ∷ [];
    }

-- the line of `make`
abbrev pub make_line : PlainLine
make_line =
    record {
      name = codes "make";
      positionals = codes "N" ∷ [];
      required = codes "turns" ∷ codes "arrivals" ∷ codes "cert" ∷ [];
      optional = codes "budget" ∷ [];
    }

-- the table of the commands
abbrev pub line_of : Order → PlainLine
line_of Run = run_line
line_of Replay = replay_line
line_of Check = check_line
line_of Show = show_line
line_of Make = make_line

-- the argument takes one text; it is required, and without a name of its own where it is a positional
abbrev pub rule_for : Kind → List ℕ → Rule
rule_for Positional id = record (new_rule id) { required = true; action = Some Set }
rule_for Required id = record (new_rule id) { long = Some id; required = true; action = Some Set }
rule_for Optional id = record (new_rule id) { long = Some id; action = Some Set }

-- the command with these arguments more
abbrev pub with_rules : App → List Rule → App
with_rules app [] = app
with_rules app (rule ∷ rules) = with_rules (with_rule app rule) rules

-- the simple command of a line: its positionals in order, then its options, and no other rule
abbrev pub app_for : PlainLine → App
app_for line =
    with_rules
    (with_rules (with_rules (new_app line.name) (map (rule_for Positional) line.positionals)) (map (rule_for Required) line.required))
    (map (rule_for Optional) line.optional)

-- `clap` says in full what it makes of words by this line
unfoldable pub is_plain : PlainLine → Bool
is_plain line = is_simple (app_for line) && is_simple_and_free (app_for line)

-- why `clap` refuses the words, the first of which is the command's name; none where it takes them
unfoldable pub faults_for : PlainLine → List (List ℕ) → Kinds
faults_for line words = fault_of (app_for line) words

-- what `clap` finds in the words
unfoldable pub rows_for : PlainLine → List (List ℕ) → List Row
rows_for line words = matches_of (app_for line) words
