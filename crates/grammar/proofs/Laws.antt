-- What an answer of reading says of the whole text.
use Rattle.std.proofs.Common.{◌≡◌, true, List, [], ◌∷◌, ◌++◌, ◌⊎◌, inl, inr, ◌↔◌, length, refl, sym, ap, subst, ◌∙◌, arith, append_assoc}
use Rattle.std.proofs.lemmas.List.{append-nil}
use Rattle.grammar.specs.Grammar.{Expression, Many, Tree, leaves, Derives, IsSentence, IsUnambiguous}
use Rattle.grammar.specs.FirstFault.{IsPrefix, IsFirstFault, HasFirstFault, IsCutOff, HasOneOutcome, IsReadAs}
use Rattle.grammar.specs.Lookahead.{Lookahead, next_decides, NextDecides}
use Rattle.grammar.specs.Reading.{Answer, Got, Stuck, OutOfTurns, unread, reading}
use Rattle.grammar.proofs.Sound.{Taken, Begun}
use Rattle.grammar.proofs.Complete.{Past, complete, beyond}
use Rattle.grammar.proofs.Turns.{rule_turn, one_turn, reading_says, never_out}
use Rattle.grammar.proofs.Outcomes

module _ {N T : Type 0} (L : Lookahead N T) (checked : NextDecides L) (g : Expression N) (low : next_decides L g ≡ true) where
  abbrev pub Sentence : List T → Type 0
  Sentence = IsSentence L.grammar g

  -- what is derived is read
  pub derived : (x : Tree T) (ts : List T) → Derives L.grammar g x ts → reading L g ts ≡ Got x []
  derived x ts d =
      let e = complete L checked (reading L) (rule_turn L checked) (λ a h s. one_turn L checked (Many a) h s) x g low d.follows [] refl in
      let h : reading L g (leaves x) ≡ Got x [] = rw append-nil at (one_turn L checked g low (leaves x ++ []) ∙ e) in
      rw d.spells at h

  -- what is read is derived
  pub derives : (x : Tree T) (ts : List T) → reading L g ts ≡ Got x [] → Derives L.grammar g x ts
  derives x ts e =
      let h = reading_says L checked g low ts in
      let b : Taken L g ts x [] = rw e at h in
      record { follows = b.fits; spells = sym (b.parts ∙ append-nil (leaves x)) }

  pub one_tree : IsUnambiguous L.grammar g
  one_tree text x y d c = let q : Got x [] ≡ Got y [] = sym (derived x text d) ∙ derived y text c in cc

  pub read_as : {V : Type 0} (meaning : Tree T → V) (ts : List T) (x : Tree T) (v : V) → reading L g ts ≡ Got x [] → meaning x ≡ v → IsReadAs L.grammar g meaning ts v
  read_as meaning ts x v e m = record {
    tree = x;
    derives = derives x ts e;
    means = m;
    only = λ z d. one_tree ts z x d (derives x ts e);
  }

  no_prefix : (w : List T) (t : T) (r : List T) (A : Answer (Tree T) T) → reading L g (w ++ t ∷ r) ≡ A → (Past (length r) A → ⊥) → IsPrefix Sentence (w ++ t ∷ []) → ⊥
  no_prefix w t r A e far front =
      let d = front.whole.derives in
      let whole : leaves front.whole.tree ≡ w ++ t ∷ front.more = d.spells ∙ append_assoc w (t ∷ []) front.more in
      let past = beyond L checked (reading L) (rule_turn L checked) (λ a h s. one_turn L checked (Many a) h s) (reading_says L checked) front.whole.tree g low d.follows w t front.more r whole in
      far (subst (λ (B : Answer (Tree T) T). Past (length r) B) (sym (one_turn L checked g low (w ++ t ∷ r)) ∙ e) past)

  pub fault : (ts : List T) (t : T) (r : List T) → reading L g ts ≡ Stuck (t ∷ r) → IsFirstFault Sentence ts t r
  fault ts t r e =
      let h = reading_says L checked g low ts in
      let b : Begun L g ts (t ∷ r) = rw e at h in
      let again : reading L g (b.before ++ t ∷ r) ≡ Stuck (t ∷ r) = rw b.parts at e in
      record {
        before = b.before;
        parts = b.parts;
        goes_on = record { more = b.more; whole = record { tree = b.built; derives = record { follows = b.fits; spells = b.text } } };
        no_more = no_prefix b.before t r (Stuck (t ∷ r)) again (λ le. omega arith);
      }

  pub trailing : (ts : List T) (x : Tree T) (t : T) (r : List T) → reading L g ts ≡ Got x (t ∷ r) → IsFirstFault Sentence ts t r
  trailing ts x t r e =
      let h = reading_says L checked g low ts in
      let b : Taken L g ts x (t ∷ r) = rw e at h in
      let again : reading L g (leaves x ++ t ∷ r) ≡ Got x (t ∷ r) = rw b.parts at e in
      record {
        before = leaves x;
        parts = b.parts;
        goes_on = record { more = []; whole = record { tree = x; derives = record { follows = b.fits; spells = sym (append-nil (leaves x)) } } };
        no_more = no_prefix (leaves x) t r (Got x (t ∷ r)) again (λ le. omega arith);
      }

  pub cut_off : (ts : List T) → reading L g ts ≡ Stuck [] → IsCutOff Sentence ts
  cut_off ts e =
      let h = reading_says L checked g low ts in
      let b : Begun L g ts [] = rw e at h in
      let all : ts ≡ b.before = b.parts ∙ append-nil b.before in
      record {
        goes_on = rw all (record { more = b.more; whole = record { tree = b.built; derives = record { follows = b.fits; spells = b.text } } });
        not_whole = λ s. let q : Got s.tree [] ≡ Stuck [] = sym (derived s.tree ts s.derives) ∙ e in cc;
      }

  -- ---- both ways

  some_outcome : (ts : List T) (A : Answer (Tree T) T) → reading L g ts ≡ A → Sentence ts ⊎ (HasFirstFault Sentence ts ⊎ IsCutOff Sentence ts)
  some_outcome ts (Got x []) e = inl (record { tree = x; derives = derives x ts e })
  some_outcome ts (Got x (t ∷ r)) e = inr (inl (t, r, trailing ts x t r e))
  some_outcome ts (Stuck []) e = inr (inr (cut_off ts e))
  some_outcome ts (Stuck (t ∷ r)) e = inr (inl (t, r, fault ts t r e))
  some_outcome ts OutOfTurns e = absurd (never_out L checked g low ts e)

  pub one_outcome : (ts : List T) → HasOneOutcome Sentence ts
  one_outcome ts = Outcomes.one_outcome Sentence ts (some_outcome ts (reading L g ts) refl)

  fault_left : (ts : List T) (t : T) (r : List T) (A : Answer (Tree T) T) → reading L g ts ≡ A → unread A ≡ t ∷ r → IsFirstFault Sentence ts t r
  fault_left ts t r (Got x []) e h = absurd cc
  fault_left ts t r (Got x (s ∷ u)) e h = trailing ts x t r (e ∙ ap (Got x) h)
  fault_left ts t r (Stuck []) e h = absurd cc
  fault_left ts t r (Stuck (s ∷ u)) e h = fault ts t r (e ∙ ap Stuck h)
  fault_left ts t r OutOfTurns e h = absurd cc

  left_at : (ts : List T) (t : T) (r : List T) (A : Answer (Tree T) T) → reading L g ts ≡ A → IsFirstFault Sentence ts t r → unread A ≡ t ∷ r
  left_at ts t r (Got x []) e f = absurd (Outcomes.whole_or_fault Sentence ts t r (record { tree = x; derives = derives x ts e }) f)
  left_at ts t r (Got x (s ∷ u)) e f = let p = Outcomes.one_fault Sentence ts s t u r (trailing ts x s u e) f in rw (p.0, p.1) refl
  left_at ts t r (Stuck []) e f = absurd (Outcomes.fault_or_prefix Sentence ts t r f (cut_off ts e).goes_on)
  left_at ts t r (Stuck (s ∷ u)) e f = let p = Outcomes.one_fault Sentence ts s t u r (fault ts s u e) f in rw (p.0, p.1) refl
  left_at ts t r OutOfTurns e f = absurd (never_out L checked g low ts e)

  stuck_at_end : (ts : List T) (A : Answer (Tree T) T) → reading L g ts ≡ A → IsCutOff Sentence ts → A ≡ Stuck []
  stuck_at_end ts (Got x []) e c = absurd (c.not_whole (record { tree = x; derives = derives x ts e }))
  stuck_at_end ts (Got x (t ∷ r)) e c = absurd (Outcomes.fault_or_prefix Sentence ts t r (trailing ts x t r e) c.goes_on)
  stuck_at_end ts (Stuck []) e c = refl
  stuck_at_end ts (Stuck (t ∷ r)) e c = absurd (Outcomes.fault_or_prefix Sentence ts t r (fault ts t r e) c.goes_on)
  stuck_at_end ts OutOfTurns e c = absurd (never_out L checked g low ts e)

  pub whole_iff : (ts : List T) (x : Tree T) → (reading L g ts ≡ Got x []) ↔ Derives L.grammar g x ts
  whole_iff ts x = (λ e. derives x ts e, λ d. derived x ts d)

  pub fault_iff : (ts : List T) (t : T) (r : List T) → (unread (reading L g ts) ≡ t ∷ r) ↔ IsFirstFault Sentence ts t r
  fault_iff ts t r = (λ e. fault_left ts t r (reading L g ts) refl e, λ f. left_at ts t r (reading L g ts) refl f)

  pub cut_off_iff : (ts : List T) → (reading L g ts ≡ Stuck []) ↔ IsCutOff Sentence ts
  cut_off_iff ts = (λ e. cut_off ts e, λ c. stuck_at_end ts (reading L g ts) refl c)
