-- Worked texts, as bytes: whether reading them gives a certificate, and how many tokens are left.
use Rattle.std.proofs.Common.{◌≡◌, ℕ, Bool, true, false, List, length, refl, codes}
use Rattle.std.specs.Fmt.{digits}
use Rattle.clause_form.specs.Literals.{variable, is_positive}
use Rattle.format.specs.Format.{Answer, Got, Stuck}
use Rattle.cert_form.specs.Words.{Token, word, number, literal, value_token, name}
use Rattle.cert_form.specs.Certificate.{Certificate, clause_from, hints, log_line, log, label_word, label, table_line, shifted_line, still, moving, tables, end_word, model, chosen, ending, certificate}
use Rattle.cert_form.specs.Texts.{tokens}

-- whether it is read, and how many tokens are left
abbrev outcome : Answer Certificate Token → Bool × ℕ
outcome (Got x rest) = (true, length rest)
outcome (Stuck left) = (false, length left)

abbrev read_of : List ℕ → Bool × ℕ
read_of text = outcome (certificate.read (tokens text))

-- read
whole : read_of (codes "oschk certificate 1\nbounds 1 0\nbudget 10\nvariables 2\nclauses 2\n1 0\n-1 2 0\ngoal -1 -2 0\nlabels 1\nlabel 0 idle\ndepth 0 0 1\ndepth 1 0 1\nturn 1 0 1\nlog\n0 1 2 3 0\nverdict holds\nend\n") ≡ (true, 0)
unfolding digits variable is_positive certificate tokens word number literal value_token name clause_from hints log_line log label_word label table_line shifted_line still moving tables end_word model chosen ending
whole = refl

-- a fault at line 1, column 1
first : read_of (codes "Oschk certificate 1\nbounds 1 0\nbudget 10\nvariables 2\nclauses 2\n1 0\n-1 2 0\ngoal -1 -2 0\nlabels 1\nlabel 0 idle\ndepth 0 0 1\ndepth 1 0 1\nturn 1 0 1\nlog\n0 1 2 3 0\nverdict holds\nend\n") ≡ (false, 94)
unfolding digits variable is_positive certificate tokens word number literal value_token name clause_from hints log_line log label_word label table_line shifted_line still moving tables end_word model chosen ending
first = refl

-- a fault at line 6, column 1
clause6 : read_of (codes "oschk certificate 1\nbounds 1 0\nbudget 10\nvariables 2\nclauses 2\n3 0\n-1 2 0\ngoal -1 -2 0\nlabels 1\nlabel 0 idle\ndepth 0 0 1\ndepth 1 0 1\nturn 1 0 1\nlog\n0 1 2 3 0\nverdict holds\nend\n") ≡ (false, 70)
unfolding digits variable is_positive certificate tokens word number literal value_token name clause_from hints log_line log label_word label table_line shifted_line still moving tables end_word model chosen ending
clause6 = refl

-- a fault at line 7, column 3
clause7 : read_of (codes "oschk certificate 1\nbounds 1 0\nbudget 10\nvariables 2\nclauses 2\n1 0\n2 -1 0\ngoal -1 -2 0\nlabels 1\nlabel 0 idle\ndepth 0 0 1\ndepth 1 0 1\nturn 1 0 1\nlog\n0 1 2 3 0\nverdict holds\nend\n") ≡ (false, 64)
unfolding digits variable is_positive certificate tokens word number literal value_token name clause_from hints log_line log label_word label table_line shifted_line still moving tables end_word model chosen ending
clause7 = refl

-- a fault at line 15, column 7
hint : read_of (codes "oschk certificate 1\nbounds 1 0\nbudget 10\nvariables 2\nclauses 2\n1 0\n-1 2 0\ngoal -1 -2 0\nlabels 1\nlabel 0 idle\ndepth 0 0 1\ndepth 1 0 1\nturn 1 0 1\nlog\n0 1 2 9 0\nverdict holds\nend\n") ≡ (false, 10)
unfolding digits variable is_positive certificate tokens word number literal value_token name clause_from hints log_line log label_word label table_line shifted_line still moving tables end_word model chosen ending
hint = refl

-- cut off at line 17, column 1
cut : read_of (codes "oschk certificate 1\nbounds 1 0\nbudget 10\nvariables 2\nclauses 2\n1 0\n-1 2 0\ngoal -1 -2 0\nlabels 1\nlabel 0 idle\ndepth 0 0 1\ndepth 1 0 1\nturn 1 0 1\nlog\n0 1 2 3 0\nverdict holds\n") ≡ (false, 0)
unfolding digits variable is_positive certificate tokens word number literal value_token name clause_from hints log_line log label_word label table_line shifted_line still moving tables end_word model chosen ending
cut = refl

-- a fault at line 4, column 11
no_variables : read_of (codes "oschk certificate 1\nbounds 1 0\nbudget 10\nvariables 0\nclauses 2\n1 0\n-1 2 0\ngoal -1 -2 0\nlabels 1\nlabel 0 idle\ndepth 0 0 1\ndepth 1 0 1\nturn 1 0 1\nlog\n0 1 2 3 0\nverdict holds\nend\n") ≡ (false, 76)
unfolding digits variable is_positive certificate tokens word number literal value_token name clause_from hints log_line log label_word label table_line shifted_line still moving tables end_word model chosen ending
no_variables = refl

-- read
fails : read_of (codes "oschk certificate 1\nbounds 1 0\nbudget 10\nvariables 2\nclauses 2\n1 0\n-1 2 0\ngoal -1 -2 0\nlabels 1\nlabel 0 idle\ndepth 0 0 1\ndepth 1 0 1\nturn 1 0 1\nlog\n0 1 2 3 0\nverdict fails\nmodel 1 2 0\nend\n") ≡ (true, 0)
unfolding digits variable is_positive certificate tokens word number literal value_token name clause_from hints log_line log label_word label table_line shifted_line still moving tables end_word model chosen ending
fails = refl

-- a fault at line 17, column 9
model_short : read_of (codes "oschk certificate 1\nbounds 1 0\nbudget 10\nvariables 2\nclauses 2\n1 0\n-1 2 0\ngoal -1 -2 0\nlabels 1\nlabel 0 idle\ndepth 0 0 1\ndepth 1 0 1\nturn 1 0 1\nlog\n0 1 2 3 0\nverdict fails\nmodel 1 0\nend\n") ≡ (false, 4)
unfolding digits variable is_positive certificate tokens word number literal value_token name clause_from hints log_line log label_word label table_line shifted_line still moving tables end_word model chosen ending
model_short = refl

-- read
standing : read_of (codes "oschk certificate 1\nbounds 0 0\nbudget 10\nvariables 2\nclauses 2\n1 0\n-1 2 0\ngoal -1 -2 0\nlabels 1\nlabel 0 idle\ndepth 0 0 1\ndepth 0 1 2\nlog\n0 1 2 3 0\nverdict holds\nend\n") ≡ (true, 0)
unfolding digits variable is_positive certificate tokens word number literal value_token name clause_from hints log_line log label_word label table_line shifted_line still moving tables end_word model chosen ending
standing = refl

-- read
wide : read_of (codes "oschk certificate 1\nbounds 1 0\nbudget 10\nvariables 2\nclauses 2\n1 0\n-1 2 0\ngoal -1 -2 0\nlabels 1\nlabel 0 idle\ndepth 0 0 1\ndepth 0 1 1\ndepth 1 0 1\ndepth 1 1 2\nturn 1 0 1\nlog\n0 1 2 3 0\nverdict holds\nend\n") ≡ (true, 0)
unfolding digits variable is_positive certificate tokens word number literal value_token name clause_from hints log_line log label_word label table_line shifted_line still moving tables end_word model chosen ending
wide = refl

-- a fault at line 14, column 1
uneven : read_of (codes "oschk certificate 1\nbounds 1 0\nbudget 10\nvariables 2\nclauses 2\n1 0\n-1 2 0\ngoal -1 -2 0\nlabels 1\nlabel 0 idle\ndepth 0 0 1\ndepth 0 1 1\ndepth 1 0 1\nturn 1 0 1\nlog\n0 1 2 3 0\nverdict holds\nend\n") ≡ (false, 26)
unfolding digits variable is_positive certificate tokens word number literal value_token name clause_from hints log_line log label_word label table_line shifted_line still moving tables end_word model chosen ending
uneven = refl

-- a fault at line 3, column 8
leading_zero : read_of (codes "oschk certificate 1\nbounds 1 0\nbudget 010\nvariables 2\nclauses 2\n1 0\n-1 2 0\ngoal -1 -2 0\nlabels 1\nlabel 0 idle\ndepth 0 0 1\ndepth 1 0 1\nturn 1 0 1\nlog\n0 1 2 3 0\nverdict holds\nend\n") ≡ (false, 80)
unfolding digits variable is_positive certificate tokens word number literal value_token name clause_from hints log_line log label_word label table_line shifted_line still moving tables end_word model chosen ending
leading_zero = refl

-- a fault at line 3, column 8
large : read_of (codes "oschk certificate 1\nbounds 1 0\nbudget 9223372036854775808\nvariables 2\nclauses 2\n1 0\n-1 2 0\ngoal -1 -2 0\nlabels 1\nlabel 0 idle\ndepth 0 0 1\ndepth 1 0 1\nturn 1 0 1\nlog\n0 1 2 3 0\nverdict holds\nend\n") ≡ (false, 80)
unfolding digits variable is_positive certificate tokens word number literal value_token name clause_from hints log_line log label_word label table_line shifted_line still moving tables end_word model chosen ending
large = refl

-- read
largest : read_of (codes "oschk certificate 1\nbounds 1 0\nbudget 9223372036854775807\nvariables 2\nclauses 2\n1 0\n-1 2 0\ngoal -1 -2 0\nlabels 1\nlabel 0 idle\ndepth 0 0 1\ndepth 1 0 1\nturn 1 0 1\nlog\n0 1 2 3 0\nverdict holds\nend\n") ≡ (true, 0)
unfolding digits variable is_positive certificate tokens word number literal value_token name clause_from hints log_line log label_word label table_line shifted_line still moving tables end_word model chosen ending
largest = refl

-- a fault at line 28, column 7
seventeen : read_of (codes "oschk certificate 1\nbounds 1 0\nbudget 10\nvariables 2\nclauses 2\n1 0\n-1 2 0\ngoal -1 -2 0\nlabels 1\nlabel 0 idle\ndepth 0 0 1\ndepth 0 1 1\ndepth 0 2 1\ndepth 0 3 1\ndepth 0 4 1\ndepth 0 5 1\ndepth 0 6 1\ndepth 0 7 1\ndepth 0 8 1\ndepth 0 9 1\ndepth 0 10 1\ndepth 0 11 1\ndepth 0 12 1\ndepth 0 13 1\ndepth 0 14 1\ndepth 0 15 1\ndepth 0 16 1\ndepth 0 17 1\ndepth 1 0 1\nturn 1 0 1\nlog\n0 1 2 3 0\nverdict holds\nend\n") ≡ (false, 40)
unfolding digits variable is_positive certificate tokens word number literal value_token name clause_from hints log_line log label_word label table_line shifted_line still moving tables end_word model chosen ending
seventeen = refl

-- a fault at line 18, column 1
trailing : read_of (codes "oschk certificate 1\nbounds 1 0\nbudget 10\nvariables 2\nclauses 2\n1 0\n-1 2 0\ngoal -1 -2 0\nlabels 1\nlabel 0 idle\ndepth 0 0 1\ndepth 1 0 1\nturn 1 0 1\nlog\n0 1 2 3 0\nverdict holds\nend\n\n") ≡ (true, 1)
unfolding digits variable is_positive certificate tokens word number literal value_token name clause_from hints log_line log label_word label table_line shifted_line still moving tables end_word model chosen ending
trailing = refl
