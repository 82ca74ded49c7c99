-- Lists of tokens, item by item.
use Rattle.std.proofs.Common.{◌≡◌, ℕ, ◌+◌, ◌<◌, List, Some, if◌then◌else◌, length, get_or, drop, ap}
use Rattle.std.proofs.lemmas.List.{drop_more}
use Rattle.c_lex.specs.declared.token.Token.{Token}
use Rattle.text_stages.specs.Prepared.{first_input, is_input}

-- one more token
pub one_token : (tokens : List Token) (i : ℕ) (d : Token) → i < length tokens
    → first_input (drop i tokens)
    ≡ (if is_input (get_or tokens i d) then Some (get_or tokens i d).place else first_input (drop (i + 1) tokens))
one_token tokens i d within = ap first_input (drop_more tokens i d within)
