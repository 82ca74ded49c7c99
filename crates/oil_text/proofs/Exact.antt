-- Each text has one outcome.
use Rattle.std.proofs.Common.{◌≡◌, ◌∙◌, ℕ, zero, suc, ◌-◌, ◌≤◌, ◌<◌, Bool, true, false, nat_lt, List, [], ◌∷◌, ◌++◌, ◌⊎◌, inl, inr, length, take, drop, refl, sym, ap, subst, arith, append_assoc}
use Rattle.std.specs.List.{concat}
use Rattle.std.proofs.lemmas.List.{append-nil, length-take-le, length-drop, take-append-drop}
use Rattle.grammar.specs.Grammar.{Rule}
use Rattle.grammar.specs.FirstFault.{IsCutOff, HasFirstFault}
use Rattle.grammar.proofs.Laws
use Rattle.grammar.proofs.Outcomes
use Rattle.chk_base.specs.declared.place.Place.{Place}
use Rattle.chk_base.specs.Places.{place_after}
use Rattle.oil_text.specs.Pieces.{is_piece, IsLongest, NonePasses}
use Rattle.oil_text.specs.OilTokens.{tokens_of, AreLongest, AreTokensOf, IsByteFault}
use Rattle.oil_text.specs.OilGrammar.{File}
use Rattle.oil_text.specs.OilLookahead.{lookahead}
use Rattle.oil_text.specs.OilMeaning.{tree_of}
use Rattle.oil_text.specs.OilText.{IsFile, IsOilText, IsTokenFault, IsEndFault, IsRefusedFor}
use Rattle.oil_text.specs.declared.fault.OilFault.{OilFault}
use Rattle.oil_text.specs.declared.fault.OilFault.TheVariants.{Byte, Token, EndOfText, Memory}
use Rattle.oil_text.specs.declared.token.Token.{Token as OneToken}
use Rattle.oil_tree.specs.declared.tree.OilTree.{OilTree}
use Rattle.oil_text.proofs.Decides.{decides}
use Rattle.oil_text.proofs.Whole.{file_decides}

-- ---- a text is cut in one way

no_piece : (xs : List ℕ) → is_piece (take 0 xs) ≡ false
no_piece [] = refl
no_piece (x ∷ xs) = refl

pub none_at_end : NonePasses is_piece []
none_at_end zero most = refl
none_at_end (suc m) most = refl

not_less : (a b : ℕ) → nat_lt a b ≡ false → b ≤ a
not_less a b e = grind (arith, e)

less : (a b : ℕ) → nat_lt a b ≡ true → a < b
less a b e = grind (arith, e)

not_both : (b : Bool) → b ≡ true → b ≡ false → ⊥
not_both true h k = cc
not_both false h k = cc

same_length : (text : List ℕ) (n m : ℕ) → IsLongest is_piece text n → IsLongest is_piece text m → n ≡ m
same_length text n m a b = go (nat_lt n m) (nat_lt m n) refl refl
  where
    go : (s t : Bool) → nat_lt n m ≡ s → nat_lt m n ≡ t → n ≡ m
    go true t h k = absurd (not_both (is_piece (take m text)) b.passing (a.no_longer m (less n m h) b.within))
    go false true h k = absurd (not_both (is_piece (take n text)) a.passing (b.no_longer n (less m n k) a.within))
    go false false h k = omega (arith, not_less n m h, not_less m n k)

-- two fronts of one length of one text are the same, and so are their rests
same_front : (p q x y : List ℕ) → length p ≡ length q → p ++ x ≡ q ++ y → (p ≡ q) × (x ≡ y)
same_front [] [] x y l e = (refl, e)
same_front [] (d ∷ q) x y l e = absurd (omega arith)
same_front (c ∷ p) [] x y l e = absurd (omega arith)
same_front (c ∷ p) (d ∷ q) x y l e =
    let h : c ≡ d = cc in
    let rest : p ++ x ≡ q ++ y = cc in
    let r = same_front p q x y (omega arith) rest in
    (rw (h, r.0) refl, r.1)

pub cut_once : (ps qs : List (List ℕ)) (r s : List ℕ) → AreLongest ps r → AreLongest qs s → NonePasses is_piece r → NonePasses is_piece s → concat ps ++ r ≡ concat qs ++ s → (ps ≡ qs) × (r ≡ s)
cut_once [] [] r s a b n m e = (refl, e)
cut_once [] (q ∷ qs) r s a b n m e =
    let whole : r ≡ q ++ (concat qs ++ s) = e ∙ append_assoc q (concat qs) s in
    let none : NonePasses is_piece (q ++ (concat qs ++ s)) = rw whole at n in
    absurd (not_both (is_piece (take (length q) (q ++ (concat qs ++ s)))) b.0.passing (none (length q) b.0.within))
cut_once (p ∷ ps) [] r s a b n m e =
    let whole : s ≡ p ++ (concat ps ++ r) = sym e ∙ append_assoc p (concat ps) r in
    let none : NonePasses is_piece (p ++ (concat ps ++ r)) = rw whole at m in
    absurd (not_both (is_piece (take (length p) (p ++ (concat ps ++ r)))) a.0.passing (none (length p) a.0.within))
cut_once (p ∷ ps) (q ∷ qs) r s a b n m e =
    let whole : p ++ (concat ps ++ r) ≡ q ++ (concat qs ++ s) = sym (append_assoc p (concat ps) r) ∙ e ∙ append_assoc q (concat qs) s in
    let same : length p ≡ length q = same_length (q ++ (concat qs ++ s)) (length p) (length q) (subst (λ (w : List ℕ). IsLongest is_piece w (length p)) whole a.0) b.0 in
    let fronts = same_front p q (concat ps ++ r) (concat qs ++ s) same whole in
    let rest = cut_once ps qs r s a.1 b.1 n m fronts.1 in
    (rw (fronts.0, rest.0) refl, rest.1)

same_pieces : (text : List ℕ) (ts us : List OneToken) (a : AreTokensOf text ts) (b : AreTokensOf text us) → a.pieces ≡ b.pieces
same_pieces text ts us a b = (cut_once a.pieces b.pieces [] [] a.longest b.longest none_at_end none_at_end (append-nil (concat a.pieces) ∙ sym a.parts ∙ b.parts ∙ sym (append-nil (concat b.pieces)))).0

same_tokens : (text : List ℕ) (ts us : List OneToken) → AreTokensOf text ts → AreTokensOf text us → ts ≡ us
same_tokens text ts us a b = sym a.tokens_are ∙ ap (tokens_of []) (same_pieces text ts us a b) ∙ b.tokens_are

tokens_or_byte : (text : List ℕ) (ts : List OneToken) (place : Place) → AreTokensOf text ts → IsByteFault text place → ⊥
tokens_or_byte text ts place a b =
    b.not_at_end (sym (cut_once a.pieces b.pieces [] b.rest a.longest b.longest none_at_end b.none_begins (append-nil (concat a.pieces) ∙ sym a.parts ∙ b.parts)).1)

same_byte : (text : List ℕ) (p q : Place) → IsByteFault text p → IsByteFault text q → p ≡ q
same_byte text p q a b =
    let same = (cut_once a.pieces b.pieces a.rest b.rest a.longest b.longest a.none_begins b.none_begins (sym a.parts ∙ b.parts)).0 in
    a.place_is ∙ ap (λ (ps : List (List ℕ)). place_after (concat ps)) same ∙ sym b.place_is

-- ---- one outcome

pub one_tree : (text : List ℕ) (a b : OilTree) → IsOilText text a → IsOilText text b → a ≡ b
one_tree text a b x y =
    let same : x.tokens ≡ y.tokens = same_tokens text x.tokens y.tokens x.spelled y.spelled in
    let tree = y.read.only x.read.tree (rw same at x.read.derives) in
    sym x.read.means ∙ ap tree_of tree ∙ y.read.means

is_file : (text : List ℕ) (tree : OilTree) (x : IsOilText text tree) → IsFile x.tokens
is_file text tree x = record { tree = x.read.tree; derives = x.read.derives }

pub tree_or_fault : (text : List ℕ) (tree : OilTree) (fault : OilFault) → IsOilText text tree → IsRefusedFor text fault → fault ≡ Memory
tree_or_fault text tree (Byte place) x f = absurd (tokens_or_byte text x.tokens place x.spelled f)
tree_or_fault text tree (Token place) x f =
    let same : x.tokens ≡ f.tokens = same_tokens text x.tokens f.tokens x.spelled f.spelled in
    absurd (Outcomes.whole_or_fault IsFile f.tokens f.bad f.rest (rw same at (is_file text tree x)) f.first_fault)
tree_or_fault text tree (EndOfText place) x f =
    let same : x.tokens ≡ f.tokens = same_tokens text x.tokens f.tokens x.spelled f.spelled in
    absurd (f.cut_off.not_whole (rw same at (is_file text tree x)))
tree_or_fault text tree Memory x f = refl

token_or_end : (text : List ℕ) (p q : Place) → IsTokenFault text p → IsEndFault text q → ⊥
token_or_end text p q a b =
    let same : b.tokens ≡ a.tokens = same_tokens text b.tokens a.tokens b.spelled a.spelled in
    let cut : IsCutOff IsFile a.tokens = rw same at b.cut_off in
    Outcomes.fault_or_prefix IsFile a.tokens a.bad a.rest a.first_fault cut.goes_on

pub one_fault : (text : List ℕ) (a b : OilFault) → (a ≡ Memory → ⊥) → (b ≡ Memory → ⊥) → IsRefusedFor text a → IsRefusedFor text b → a ≡ b
one_fault text Memory b h k x y = absurd (h refl)
one_fault text a Memory h k x y = absurd (k refl)
one_fault text (Byte p) (Byte q) h k x y = ap Byte (same_byte text p q x y)
one_fault text (Byte p) (Token q) h k x y = absurd (tokens_or_byte text y.tokens p y.spelled x)
one_fault text (Byte p) (EndOfText q) h k x y = absurd (tokens_or_byte text y.tokens p y.spelled x)
one_fault text (Token p) (Byte q) h k x y = absurd (tokens_or_byte text x.tokens q x.spelled y)
one_fault text (Token p) (Token q) h k x y =
    let same : x.tokens ≡ y.tokens = same_tokens text x.tokens y.tokens x.spelled y.spelled in
    let bad = (Outcomes.one_fault IsFile y.tokens x.bad y.bad x.rest y.rest (rw same at x.first_fault) y.first_fault).0 in
    ap Token (x.place_is ∙ ap (λ (t : OneToken). t.place) bad ∙ sym y.place_is)
one_fault text (Token p) (EndOfText q) h k x y = absurd (token_or_end text p q x y)
one_fault text (EndOfText p) (Byte q) h k x y = absurd (tokens_or_byte text x.tokens q x.spelled y)
one_fault text (EndOfText p) (Token q) h k x y = absurd (token_or_end text q p y x)
one_fault text (EndOfText p) (EndOfText q) h k x y = ap EndOfText (x.place_is ∙ sym y.place_is)

-- ---- some outcome

pub record IsCut (text : List ℕ) : Type 0 where
  pub pieces : List (List ℕ)
  pub rest : List ℕ
  pub parts : text ≡ concat pieces ++ rest
  pub longest : AreLongest pieces rest
  pub none : NonePasses is_piece rest

-- the longest piece in front with at most so many bytes, where no longer one is
found : (text : List ℕ) (k : ℕ) → k ≤ length text → ((m : ℕ) → k < m → m ≤ length text → is_piece (take m text) ≡ false) → ((n : ℕ) × IsLongest is_piece text n) ⊎ NonePasses is_piece text
found text zero within above = inr none
  where
    none : (m : ℕ) → m ≤ length text → is_piece (take m text) ≡ false
    none zero most = no_piece text
    none (suc m) most = above (suc m) (omega arith) most
found text (suc k) within above = go (is_piece (take (suc k) text)) refl (found text k (omega arith))
  where
    go : (b : Bool) → is_piece (take (suc k) text) ≡ b → (((m : ℕ) → k < m → m ≤ length text → is_piece (take m text) ≡ false) → ((n : ℕ) × IsLongest is_piece text n) ⊎ NonePasses is_piece text) → ((n : ℕ) × IsLongest is_piece text n) ⊎ NonePasses is_piece text
    go true e below = inl (suc k, record { within = within; passing = e; no_longer = above })
    go false e below = below (λ m more most. split m more most (nat_lt (suc k) m) refl)
      where
        split : (m : ℕ) → k < m → m ≤ length text → (t : Bool) → nat_lt (suc k) m ≡ t → is_piece (take m text) ≡ false
        split m more most true h = above m (less (suc k) m h) most
        split m more most false h = let s : m ≡ suc k = omega (arith, not_less (suc k) m h, more) in rw s e

some_bytes : (text : List ℕ) (n : ℕ) → IsLongest is_piece text n → 0 < n
some_bytes text zero h = absurd (not_both (is_piece (take 0 text)) h.passing (no_piece text))
some_bytes text (suc n) h = omega arith

cut : (fuel : ℕ) (text : List ℕ) → length text ≤ fuel → IsCut text
cut zero [] h = record { pieces = []; rest = []; parts = refl; longest = tt; none = none_at_end }
cut zero (b ∷ bs) h = absurd (omega arith)
cut (suc fuel) text h = go (found text (length text) (omega arith) (λ m more most. absurd (omega arith))) (λ t. cut fuel t)
  where
    go : ((n : ℕ) × IsLongest is_piece text n) ⊎ NonePasses is_piece text → ((t : List ℕ) → length t ≤ fuel → IsCut t) → IsCut text
    go (inr none) below = record { pieces = []; rest = text; parts = refl; longest = tt; none = none }
    go (inl p) below =
        let n = p.0 in
        let some = some_bytes text n p.1 in
        let left : length (drop n text) ≡ length text - n = length-drop n text in
        let c = below (drop n text) (omega (arith, some, left, h)) in
        let size : length (take n text) ≡ n = length-take-le n text p.1.within in
        let whole : text ≡ take n text ++ (concat c.pieces ++ c.rest) = sym (take-append-drop n text) ∙ ap (λ w. take n text ++ w) c.parts in
        record {
          pieces = take n text ∷ c.pieces;
          rest = c.rest;
          parts = whole ∙ sym (append_assoc (take n text) (concat c.pieces) c.rest);
          longest = (subst (λ (k : ℕ). IsLongest is_piece (take n text ++ (concat c.pieces ++ c.rest)) k) (sym size) (subst (λ (w : List ℕ). IsLongest is_piece w n) whole p.1), c.longest);
          none = c.none;
        }

abbrev Outcome : List ℕ → Type 0
Outcome text = ((tree : OilTree) × IsOilText text tree) ⊎ ((fault : OilFault) × (fault ≡ Memory → ⊥) × IsRefusedFor text fault)

of_tokens : (text : List ℕ) (tokens : List OneToken) → AreTokensOf text tokens → IsFile tokens ⊎ (HasFirstFault IsFile tokens ⊎ IsCutOff IsFile tokens) → Outcome text
unfolding lookahead
of_tokens text tokens spelled (inl whole) =
    let e = Laws.derived lookahead decides (Rule File) file_decides whole.tree tokens whole.derives in
    inl (tree_of whole.tree, record { tokens = tokens; spelled = spelled; read = Laws.read_as lookahead decides (Rule File) file_decides tree_of tokens whole.tree (tree_of whole.tree) e refl })
of_tokens text tokens spelled (inr (inl fault)) = inr (Token fault.0.place, (λ e. cc), record { tokens = tokens; spelled = spelled; bad = fault.0; rest = fault.1; first_fault = fault.2; place_is = refl })
of_tokens text tokens spelled (inr (inr cut_off)) = inr (EndOfText (place_after text), (λ e. cc), record { tokens = tokens; spelled = spelled; cut_off = cut_off; place_is = refl })

of_cut : (text : List ℕ) (c : IsCut text) (rest : List ℕ) → c.rest ≡ rest → Outcome text
unfolding lookahead
of_cut text c [] e =
    let spelled : AreTokensOf text (tokens_of [] c.pieces) = record {
      pieces = c.pieces;
      parts = c.parts ∙ rw e (append-nil (concat c.pieces));
      longest = rw e at c.longest;
      tokens_are = refl;
    } in
    of_tokens text (tokens_of [] c.pieces) spelled (Laws.one_outcome lookahead decides (Rule File) file_decides (tokens_of [] c.pieces)).one
of_cut text c (b ∷ rest) e =
    inr (
      Byte (place_after (concat c.pieces)),
      (λ f. cc),
      record {
        pieces = c.pieces;
        rest = c.rest;
        parts = c.parts;
        longest = c.longest;
        not_at_end = λ f. let g : b ∷ rest ≡ [] = sym e ∙ f in cc;
        none_begins = c.none;
        place_is = refl;
      },
    )

pub some_outcome : (text : List ℕ) → Outcome text
some_outcome text = let c = cut (length text) text (omega arith) in of_cut text c c.rest refl
