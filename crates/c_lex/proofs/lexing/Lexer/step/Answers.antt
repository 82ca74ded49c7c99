use Rattle.std.proofs.Common.{◌≡◌, ℕ, ◌+◌, ◌<◌, ◌≤◌, List, [], ◌∷◌, ◌++◌, length, take, drop, sym, ap, ◌∙◌, arith}
use Rattle.c_lex.specs.declared.token.Token.{Token}
use Rattle.c_lex.specs.CText.{piece_at}
use Rattle.c_lex.specs.Known.{plain_known, plain_number, plain_piece}
use Rattle.c_lex.specs.Pieces.{PlainPiece, End, Space, Defined, Spelled, BadByte, BadDirective, BadNumber}
use Rattle.c_lex.specs.PlainTokens.{PlainTokens}
use Rattle.c_lex.proofs.Reading.{goes_space, goes_define, goes_token, ends_on, byte_on, directive_on, number_on, piece_here, stands_at, stands_there, all_before, within_text}
use Rattle.c_lex.proofs.lexing.Lexer.step.Goals as goal

pub returns-in-End-clause-ends : goal.returns-in-End-clause-ends
returns-in-End-clause-ends c ok =
    let text = c.args.text.now in
    let lexer = c.args.self.now in
    let at = lexer.cursor.place.offset in
    let known = plain_known lexer.known.entries in
    let tokens = lexer.tokens.items in
    let back = c.split_at.ensures.back in
    let here = piece_here text lexer c.split_at.result.1.now (plain_piece c.read_piece.result) c.requires.at back c.read_piece.ensures.piece in
    let none : length c.split_at.result.1.now ≡ 0 = rw c.in-End.is at c.read_piece.ensures.within in
    let all : take at text ≡ text = all_before text at c.requires.at.within (sym (ap length back) ∙ none) in
    record {
      reads = ends_on text known tokens at (here ∙ ap plain_piece c.in-End.is);
      place = rw all at (stands_there text at lexer.cursor c.requires.at.cursor);
    }

pub returns-in-Space-clause-goes : goal.returns-in-Space-clause-goes
returns-in-Space-clause-goes c whole ok h =
    let text = c.args.text.now in
    let lexer = c.args.self.now in
    let at = lexer.cursor.place.offset in
    let known = plain_known lexer.known.entries in
    let tokens = lexer.tokens.items in
    let back = c.split_at.ensures.back in
    let here = piece_here text lexer c.split_at.result.1.now (plain_piece c.read_piece.result) c.requires.at back c.read_piece.ensures.piece in
    let size = c.in-Space.size in
    let within = rw c.in-Space.is at c.read_piece.ensures.within in
    let le : at + size ≤ length text = within_text text c.split_at.result.1.now at size c.requires.at.within back within.1 in
    let next : c.advance-self.result.place.offset ≡ at + size = stands_at text (at + size) c.advance-self.result le c.advance-self.ensures in
    goes_space text known tokens at size whole (here ∙ ap plain_piece c.in-Space.is) (rw next at h)

pub returns-in_ok-define-in-Defined-clause-goes : goal.returns-in_ok-define-in-Defined-clause-goes
returns-in_ok-define-in-Defined-clause-goes c whole ok h =
    let text = c.args.text.now in
    let lexer = c.args.self.now in
    let at = lexer.cursor.place.offset in
    let known = plain_known lexer.known.entries in
    let tokens = lexer.tokens.items in
    let back = c.split_at.ensures.back in
    let here = piece_here text lexer c.split_at.result.1.now (plain_piece c.read_piece.result) c.requires.at back c.read_piece.ensures.piece in
    let size = c.in-Defined.size in
    let within = rw c.in-Defined.is at c.read_piece.ensures.within in
    let le : at + size ≤ length text = within_text text c.split_at.result.1.now at size c.requires.at.within back within.1 in
    let next : c.advance-self-in-Defined.result.place.offset ≡ at + size = stands_at text (at + size) c.advance-self-in-Defined.result le c.advance-self-in-Defined.ensures in
    goes_define text known tokens at size c.in-Defined.name.now (plain_number c.in-Defined.number) whole (here ∙ ap plain_piece c.in-Defined.is) (rw (next, c.in_ok-define-in-Defined.ensures) at h)

pub returns-in_ok-push-in-Spelled-clause-goes : goal.returns-in_ok-push-in-Spelled-clause-goes
returns-in_ok-push-in-Spelled-clause-goes c whole ok h =
    let text = c.args.text.now in
    let lexer = c.args.self.now in
    let at = lexer.cursor.place.offset in
    let known = plain_known lexer.known.entries in
    let tokens = lexer.tokens.items in
    let back = c.split_at.ensures.back in
    let here = piece_here text lexer c.split_at.result.1.now (plain_piece c.read_piece.result) c.requires.at back c.read_piece.ensures.piece in
    let size = c.in-Spelled.size in
    let within = rw c.in-Spelled.is at c.read_piece.ensures.within in
    let le : at + size ≤ length text = within_text text c.split_at.result.1.now at size c.requires.at.within back within.1 in
    let next : c.advance-self-in-Spelled.result.place.offset ≡ at + size = stands_at text (at + size) c.advance-self-in-Spelled.result le c.advance-self-in-Spelled.ensures in
    let token : Token = record { kind = c.in-Spelled.kind; place = lexer.cursor.place; text = c.in-Spelled.bytes.now } in
    let pushed : c.push.new.tokens.items ≡ tokens ++ token ∷ [] = ap (λ (t : PlainTokens). t.items) c.in_ok-push-in-Spelled.ensures in
    goes_token text known tokens at size token whole (here ∙ ap plain_piece c.in-Spelled.is) (stands_there text at lexer.cursor c.requires.at.cursor) (rw (next, pushed) at h)

pub returns-in-BadByte-clause-fault : goal.returns-in-BadByte-clause-fault
returns-in-BadByte-clause-fault c =
    let text = c.args.text.now in
    let lexer = c.args.self.now in
    let at = lexer.cursor.place.offset in
    let known = plain_known lexer.known.entries in
    let tokens = lexer.tokens.items in
    let back = c.split_at.ensures.back in
    let here = piece_here text lexer c.split_at.result.1.now (plain_piece c.read_piece.result) c.requires.at back c.read_piece.ensures.piece in
    byte_on text known tokens at lexer.cursor.place (here ∙ ap plain_piece c.in-BadByte.is) (stands_there text at lexer.cursor c.requires.at.cursor)

pub returns-in-BadDirective-clause-fault : goal.returns-in-BadDirective-clause-fault
returns-in-BadDirective-clause-fault c =
    let text = c.args.text.now in
    let lexer = c.args.self.now in
    let at = lexer.cursor.place.offset in
    let known = plain_known lexer.known.entries in
    let tokens = lexer.tokens.items in
    let back = c.split_at.ensures.back in
    let here = piece_here text lexer c.split_at.result.1.now (plain_piece c.read_piece.result) c.requires.at back c.read_piece.ensures.piece in
    directive_on text known tokens at lexer.cursor.place (here ∙ ap plain_piece c.in-BadDirective.is) (stands_there text at lexer.cursor c.requires.at.cursor)

pub returns-in-BadNumber-clause-fault : goal.returns-in-BadNumber-clause-fault
returns-in-BadNumber-clause-fault c =
    let text = c.args.text.now in
    let lexer = c.args.self.now in
    let at = lexer.cursor.place.offset in
    let known = plain_known lexer.known.entries in
    let tokens = lexer.tokens.items in
    let back = c.split_at.ensures.back in
    let here = piece_here text lexer c.split_at.result.1.now (plain_piece c.read_piece.result) c.requires.at back c.read_piece.ensures.piece in
    let offset = c.in-BadNumber.offset in
    number_on text known tokens at offset c.advance.result.place (here ∙ ap plain_piece c.in-BadNumber.is) (stands_there text (at + offset) c.advance.result c.advance.ensures)
