-- Braces that pair, passed over by counting.
use Rattle.std.proofs.Common.{◌≡◌, ◌∙◌, ℕ, zero, suc, ◌+◌, ◌-◌, ◌<◌, Bool, true, false, cond, List, [], ◌∷◌, length, drop, get_or, refl, arith}
use Rattle.grammar.specs.Grammar.{Expression, One, Many, Rule, Tree, Nil, Leaf, Pair, Left, Right, Node, has, ◌∣◌}
use Rattle.grammar.specs.Lookahead.{first}
use Rattle.grammar.specs.Reading.{Answer, Got, Stuck, OutOfTurns, and_then, map_got, one, reading}
use Rattle.grammar.proofs.Turns.{one_turn}
use Rattle.grammar.proofs.Answered.{got_of, stuck_of}
use Rattle.oil_text.specs.declared.token.Kind.{Kind}
use Rattle.oil_text.specs.declared.token.Kind.TheVariants as kinds
use Rattle.oil_text.specs.declared.token.Mark.TheVariants.{Equals, Semicolon, OpeningBrace, ClosingBrace, Colon, OpeningBracket, ClosingBracket, Comma, Dot, Less, Greater, Plus, Minus}
use Rattle.oil_text.specs.declared.token.Token.{Token}
use Rattle.oil_text.specs.OilGrammar.{Part, Braced, class_of, class_of_kind, not_braces}
use Rattle.oil_text.specs.OilLookahead.{firsts, lookahead}
use Rattle.oil_text.specs.OilReading.{reads, tree_at, Stops, depth_after}
use Rattle.oil_text.specs.declared.stop.Stop.{Stop}
use Rattle.oil_text.specs.declared.stop.Stop.TheVariants as stops
use Rattle.oil_text.proofs.Decides.{decides}
use Rattle.oil_text.proofs.Opened.{opened}

-- ---- what is read, without its tree

abbrev Unread : Type 0
Unread = Answer (Unit {0}) Token

abbrev forget : {V : Type 0} → Answer V Token → Unread
forget A = map_got (λ x. tt) A

abbrev then_read : {V : Type 0} → Answer V Token → (List Token → Unread) → Unread
then_read A next = and_then A (λ x rest. next rest)

abbrev inner : Expression Part
inner = One not_braces ∣ Rule Braced

abbrev inners : List Token → Answer (Tree Token) Token
inners tokens = reading lookahead (Many inner) tokens

-- what is left to read where so many braces are open: inner tokens and a closing brace for each
abbrev finish : ℕ → List Token → Unread
finish zero tokens = Got tt tokens
finish (suc n) tokens = then_read (inners tokens) (λ rest. then_read (one class_of (11 ∷ []) rest) (finish n))

-- ---- laws of answers

then_then : {U V : Type 0} (A : Answer U Token) (f : U → List Token → Answer V Token) (next : List Token → Unread) → then_read (and_then A f) next ≡ and_then A (λ x rest. then_read (f x rest) next)
then_then (Got x r) f next = refl
then_then (Stuck r) f next = refl
then_then OutOfTurns f next = refl

mapped : {U V : Type 0} (f : U → V) (A : Answer U Token) (next : List Token → Unread) → then_read (map_got f A) next ≡ then_read A next
mapped f (Got x r) next = refl
mapped f (Stuck r) next = refl
mapped f OutOfTurns next = refl

got_forgets : {U V : Type 0} (A : Answer U Token) (f : U → V) (next : List Token → Unread) → then_read (and_then A (λ x rest. Got (f x) rest)) next ≡ then_read A next
got_forgets (Got x r) f next = refl
got_forgets (Stuck r) f next = refl
got_forgets OutOfTurns f next = refl

-- ---- one token

inners_turn : (tokens : List Token) → inners tokens ≡ reads (Many inner) tokens
unfolding lookahead
inners_turn tokens = one_turn lookahead decides (Many inner) refl tokens

-- a token that is no brace
other_step : (n : ℕ) (t : Token) (rest : List Token) → has not_braces (class_of t) ≡ true → has (first firsts inner) (class_of t) ≡ true → finish (suc n) (t ∷ rest) ≡ finish (suc n) rest
other_step n t rest h b =
    let e : inners (t ∷ rest) ≡ and_then (inners rest) (λ y s. Got (Pair (Left (Leaf t)) y) s) = inners_turn (t ∷ rest) ∙ rw (b, h) refl in
    rw e (got_forgets (inners rest) (λ y. Pair (Left (Leaf t)) y) (λ r. then_read (one class_of (11 ∷ []) r) (finish n)))

-- a closing brace
close_step : (n : ℕ) (t : Token) (rest : List Token) → has (first firsts inner) (class_of t) ≡ false → has (11 ∷ []) (class_of t) ≡ true → finish (suc n) (t ∷ rest) ≡ finish n rest
close_step n t rest b h =
    let e : inners (t ∷ rest) ≡ Got Nil (t ∷ rest) = inners_turn (t ∷ rest) ∙ rw b refl in
    rw (e, h) refl

braced_is : (t : Token) (rest : List Token) → has (10 ∷ []) (class_of t) ≡ true → reading lookahead (Rule Braced) (t ∷ rest) ≡ map_got Node (and_then (and_then (inners rest) (λ y s. and_then (one class_of (11 ∷ []) s) (λ z u. Got (Pair y z) u))) (λ y s. Got (Pair (Leaf t) y) s))
braced_is t rest h = opened Braced (t ∷ rest) ∙ rw (h, inners_turn rest) refl

-- an opening brace
open_step : (n : ℕ) (t : Token) (rest : List Token) → has not_braces (class_of t) ≡ false → has (first firsts inner) (class_of t) ≡ true → has (10 ∷ []) (class_of t) ≡ true → finish (suc n) (t ∷ rest) ≡ finish (suc (suc n)) rest
open_step n t rest o b h =
    let B = reading lookahead (Rule Braced) (t ∷ rest) in
    let close : List Token → Unread = λ r. then_read (one class_of (11 ∷ []) r) (finish n) in
    let e : inners (t ∷ rest) ≡ and_then (map_got Right B) (λ x r. and_then (inners r) (λ y s. Got (Pair x y) s)) = inners_turn (t ∷ rest) ∙ rw (b, o) refl in
    let one_more : then_read (inners (t ∷ rest)) close ≡ then_read B (finish (suc n)) =
    rw e (then_then (map_got Right B) (λ x r. and_then (inners r) (λ y s. Got (Pair x y) s)) close ∙ after (map_got Right B) close ∙ mapped Right B (finish (suc n))) in
    one_more ∙ rw (braced_is t rest h) (mapped Node (and_then (and_then (inners rest) (λ y s. and_then (one class_of (11 ∷ []) s) (λ z u. Got (Pair y z) u))) (λ y s. Got (Pair (Leaf t) y) s)) (finish (suc n)) ∙ got_forgets (and_then (inners rest) (λ y s. and_then (one class_of (11 ∷ []) s) (λ z u. Got (Pair y z) u))) (λ y. Pair (Leaf t) y) (finish (suc n)) ∙ closes (inners rest))
  where
    after : (A : Answer (Tree Token) Token) (next : List Token → Unread) → and_then A (λ x r. then_read (and_then (inners r) (λ y s. Got (Pair x y) s)) next) ≡ and_then A (λ x r. then_read (inners r) next)
    after (Got x r) next = got_forgets (inners r) (λ y. Pair x y) next
    after (Stuck r) next = refl
    after OutOfTurns next = refl

    closes : (A : Answer (Tree Token) Token) → then_read (and_then A (λ y s. and_then (one class_of (11 ∷ []) s) (λ z u. Got (Pair y z) u))) (finish (suc n)) ≡ then_read A (λ r. then_read (one class_of (11 ∷ []) r) (finish (suc n)))
    closes (Got y s) = got_forgets (one class_of (11 ∷ []) s) (λ z. Pair y z) (finish (suc n))
    closes (Stuck s) = refl
    closes OutOfTurns = refl

-- ---- a token of any kind

pub step : (n : ℕ) (t : Token) (rest : List Token) → finish (suc n) (t ∷ rest) ≡ finish (depth_after t.kind (suc n)) rest
step n t rest = go t.kind refl
  where
    plain : (k : Kind) → t.kind ≡ k → has not_braces (class_of_kind k) ≡ true → has (first firsts inner) (class_of_kind k) ≡ true → finish (suc n) (t ∷ rest) ≡ finish (suc n) rest
    plain k e h b = other_step n t rest (rw e h) (rw e b)

    go : (k : Kind) → t.kind ≡ k → finish (suc n) (t ∷ rest) ≡ finish (depth_after k (suc n)) rest
    go kinds.OtherName e = plain kinds.OtherName e refl refl
    go kinds.Version e = plain kinds.Version e refl refl
    go kinds.Implementation e = plain kinds.Implementation e refl refl
    go kinds.Cpu e = plain kinds.Cpu e refl refl
    go kinds.Integer e = plain kinds.Integer e refl refl
    go kinds.Point e = plain kinds.Point e refl refl
    go kinds.Quoted e = plain kinds.Quoted e refl refl
    go kinds.Include e = plain kinds.Include e refl refl
    go (kinds.Mark Equals) e = plain (kinds.Mark Equals) e refl refl
    go (kinds.Mark Semicolon) e = plain (kinds.Mark Semicolon) e refl refl
    go (kinds.Mark OpeningBrace) e = let s : suc n + 1 ≡ suc (suc n) = omega arith in rw s (open_step n t rest (rw e refl) (rw e refl) (rw e refl))
    go (kinds.Mark ClosingBrace) e = let s : suc n - 1 ≡ n = omega arith in rw s (close_step n t rest (rw e refl) (rw e refl))
    go (kinds.Mark Colon) e = plain (kinds.Mark Colon) e refl refl
    go (kinds.Mark OpeningBracket) e = plain (kinds.Mark OpeningBracket) e refl refl
    go (kinds.Mark ClosingBracket) e = plain (kinds.Mark ClosingBracket) e refl refl
    go (kinds.Mark Comma) e = plain (kinds.Mark Comma) e refl refl
    go (kinds.Mark Dot) e = plain (kinds.Mark Dot) e refl refl
    go (kinds.Mark Less) e = plain (kinds.Mark Less) e refl refl
    go (kinds.Mark Greater) e = plain (kinds.Mark Greater) e refl refl
    go (kinds.Mark Plus) e = plain (kinds.Mark Plus) e refl refl
    go (kinds.Mark Minus) e = plain (kinds.Mark Minus) e refl refl

-- ---- the loop

-- reading from the start is finishing from here
abbrev pub IsOpen : List Token → ℕ → List Token → Type 0
IsOpen start depth rest = forget (reads (Rule Braced) start) ≡ finish depth rest

pub opens : (start rest : List Token) (brace : Tree Token) → reads (One (10 ∷ [])) start ≡ Got brace rest → IsOpen start 1 rest
opens [] rest brace e = absurd cc
opens (t ∷ ts) rest brace e = go (has (10 ∷ []) (class_of t)) refl e
  where
    closes : (A : Answer (Tree Token) Token) → forget (map_got Node (and_then (and_then A (λ y s. and_then (one class_of (11 ∷ []) s) (λ z u. Got (Pair y z) u))) (λ y s. Got (Pair (Leaf t) y) s))) ≡ then_read A (λ r. then_read (one class_of (11 ∷ []) r) (finish 0))
    closes (Got y s) = last (one class_of (11 ∷ []) s)
      where
        last : (B : Answer (Tree Token) Token) → forget (map_got Node (and_then (and_then B (λ z u. Got (Pair y z) u)) (λ y s. Got (Pair (Leaf t) y) s))) ≡ then_read B (finish 0)
        last (Got z u) = refl
        last (Stuck u) = refl
        last OutOfTurns = refl
    closes (Stuck s) = refl
    closes OutOfTurns = refl

    go : (b : Bool) → has (10 ∷ []) (class_of t) ≡ b → cond b (Got (Leaf t) ts) (Stuck (t ∷ ts)) ≡ Got brace rest → forget (reading lookahead (Rule Braced) (t ∷ ts)) ≡ finish 1 rest
    go true h e = let same : ts ≡ rest = cc in rw (braced_is t ts h, same) (closes (inners rest))
    go false h e = absurd cc

stuck_first : (start rest : List Token) → reads (One (10 ∷ [])) start ≡ Stuck rest → reads (Rule Braced) start ≡ Stuck rest
stuck_first start rest e = opened Braced start ∙ rw e refl

pub stops_first : (start : List Token) (stop : Stop) → Stops stop (reads (One (10 ∷ [])) start) → Stops stop (reads (Rule Braced) start)
stops_first start stops.Memory h = tt
stops_first start (stops.At rest) h = stuck_first start rest.now h

pub goes_on : (start : List Token) (depth : ℕ) (tokens : List Token) (none : Token) → 0 < depth → 0 < length tokens → IsOpen start depth tokens → IsOpen start (depth_after (get_or tokens 0 none).kind depth) (drop 1 tokens)
goes_on start zero tokens none p q h = absurd (omega arith)
goes_on start (suc n) [] none p q h = absurd (omega arith)
goes_on start (suc n) (u ∷ rest) none p q h = h ∙ step n u rest

at_end : (n : ℕ) → finish (suc n) [] ≡ Stuck []
at_end n = let e : inners [] ≡ Got Nil [] = inners_turn [] in rw e refl

pub ends : (start : List Token) (depth : ℕ) (tokens : List Token) → 0 < depth → length tokens ≡ 0 → IsOpen start depth tokens → reads (Rule Braced) start ≡ Stuck tokens
ends start zero tokens p q h = absurd (omega arith)
ends start (suc n) [] p q h = stuck_of (λ x. tt) (reads (Rule Braced) start) [] (h ∙ at_end n)
ends start (suc n) (t ∷ rest) p q h = absurd (omega arith)

pub closes : (start : List Token) (depth : ℕ) (tokens : List Token) → depth ≡ 0 → IsOpen start depth tokens → reads (Rule Braced) start ≡ Got (tree_at (Rule Braced) start) tokens
unfolding tree_at
closes start zero tokens z h = let p = got_of (λ x. tt) (reads (Rule Braced) start) tt tokens h in rw p.1 refl
closes start (suc n) tokens z h = absurd (omega arith)
