-- The buses and cells that tests build.
use Rattle.std.proofs.Common.{◌≡◌, ℕ, ◌+◌, ◌≤◌, List, [], ◌∷◌, ◌++◌, length, set, refl, sym, ◌∙◌, arith, length-append}
use Rattle.clause_form.specs.declared.lit.Lit.{Lit}
use Rattle.clause_form.specs.ClauseTruth.{Values}
use Rattle.clause_form.specs.Literals.{IsOf, AreOf, literal, variable}
use Rattle.clause_form.proofs.Rising.{AreOf-more}
use Rattle.chk_base.specs.declared.word.Width.{Width}
use Rattle.chk_base.specs.declared.word.Width.TheVariants.{W32}
use Rattle.bit_circuit.specs.declared.bus.Bus.{Bus}
use Rattle.bit_circuit.specs.Extension.{PlainFormula, formula, with_clauses}
use Rattle.bit_circuit.specs.Selection.{AreInside, AreCells, AreNarrow}
use Rattle.bit_circuit.proofs.GateClauses.{literal_of}
use Rattle.bit_circuit.proofs.Numbers.{are-set}
use Rattle.bit_circuit.proofs.Choosing.{AreInside-more}

-- literals of a circuit that grew
pub record IsOpen (old new : PlainFormula) (ls : List Lit) : Type 0 where
  pub inside : AreOf new.variables ls
  pub grows : old.variables ≤ new.variables

pub open_none : (s : PlainFormula) (ls : List Lit) → AreOf s.variables ls → IsOpen s s ls
open_none s ls o = record { inside = o; grows = omega arith }

pub open_more : (old s1 s2 : PlainFormula) (ls : List Lit) (i : ℕ) (a : Lit) → a ≡ literal (s1.variables + 1) → s2 ≡ formula (s1.variables + 1) s1.clauses → IsOpen old s1 ls → IsOpen old s2 (set ls i a)
open_more old s1 s2 ls i a e f h = rw (f, e) (record {
  inside = are-set (s1.variables + 1) ls i (literal (s1.variables + 1)) (AreOf-more s1.variables (s1.variables + 1) ls (omega arith) h.inside) (literal_of (s1.variables + 1) (s1.variables + 1) (omega arith) (omega arith));
  grows = omega (arith, h.grows);
})

pub open_fixed : (old s1 s2 : PlainFormula) (ls : List Lit) (cs : List (List Lit)) → s2 ≡ with_clauses s1 cs → IsOpen old s1 ls → IsOpen old s2 ls
open_fixed old s1 s2 ls cs e h = rw e (record { inside = h.inside; grows = h.grows })

pub fixed_lit : (n : ℕ) (a l : Lit) → IsOf n l → variable a ≡ variable l → IsOf n a
fixed_lit n a l o e = record { least = rw e o.least; most = rw e o.most }

-- buses of a circuit that grew
pub record AreItems (old new : PlainFormula) (bs : List Bus) : Type 0 where
  pub inside : AreInside new.variables bs
  pub grows : old.variables ≤ new.variables

pub items_none : (s : PlainFormula) (bs : List Bus) → bs ≡ [] → AreItems s s bs
items_none s bs e = rw e (record { inside = tt; grows = omega arith })

pub items_push : (old s new : PlainFormula) (bs bs' : List Bus) (b : Bus) → bs' ≡ bs ++ b ∷ [] → s.variables ≤ new.variables → AreOf new.variables b.lits → AreItems old s bs → AreItems old new bs'
items_push old s new bs bs' b e g o h = rw e (record {
  inside = inside bs (AreInside-more s.variables new.variables bs g h.inside);
  grows = omega (arith, h.grows);
})
  where
    inside : (xs : List Bus) → AreInside new.variables xs → AreInside new.variables (xs ++ b ∷ [])
    inside [] q = (o, tt)
    inside (x ∷ xs) q = (q.0, inside xs q.1)

-- cells of 32 bits in a circuit that grew
pub record AreOpen (s : PlainFormula) (ws : List Width) (bs : List Bus) (n : ℕ) : Type 0 where
  pub width_count : length ws ≡ n
  pub bus_count : length bs ≡ n
  pub inside : AreInside s.variables bs
  pub narrow : (v : Values) → AreNarrow v ws bs

pub cells_none : (s : PlainFormula) (ws : List Width) (bs : List Bus) → ws ≡ [] → bs ≡ [] → AreOpen s ws bs 0
cells_none s ws bs e f = rw (e, f) (record { width_count = refl; bus_count = refl; inside = tt; narrow = λ v. tt })

pub cells_push : (s new : PlainFormula) (ws ws' : List Width) (bs bs' : List Bus) (n : ℕ) (b : Bus) → ws' ≡ ws ++ W32 ∷ [] → bs' ≡ bs ++ b ∷ [] → s.variables ≤ new.variables → AreOf new.variables b.lits → length b.lits ≡ 32 → AreOpen s ws bs n → AreOpen new ws' bs' (n + 1)
cells_push s new ws ws' bs bs' n b e f g o l h = rw (e, f) (record {
  width_count = length-append ws (W32 ∷ []) ∙ omega (arith, h.width_count);
  bus_count = length-append bs (b ∷ []) ∙ omega (arith, h.bus_count);
  inside = inside bs (AreInside-more s.variables new.variables bs g h.inside);
  narrow = λ v. narrow v ws bs (h.width_count ∙ sym h.bus_count) (h.narrow v);
})
  where
    inside : (xs : List Bus) → AreInside new.variables xs → AreInside new.variables (xs ++ b ∷ [])
    inside [] q = (o, tt)
    inside (x ∷ xs) q = (q.0, inside xs q.1)

    narrow : (v : Values) (ws : List Width) (bs : List Bus) → length ws ≡ length bs → AreNarrow v ws bs → AreNarrow v (ws ++ W32 ∷ []) (bs ++ b ∷ [])
    narrow v [] [] e q = (record { at = λ i h k. absurd (omega arith) }, tt)
    narrow v [] (x ∷ bs) e q = absurd (omega (arith, e))
    narrow v (w ∷ ws) [] e q = absurd (omega (arith, e))
    narrow v (w ∷ ws) (x ∷ bs) e q = (q.0, narrow v ws bs (omega (arith, e)) q.1)

pub cells_all : (s : PlainFormula) (ws : List Width) (bs : List Bus) (n : ℕ) → AreOpen s ws bs n → AreCells s ws bs
cells_all s ws bs n h = record { same_length = h.width_count ∙ sym h.bus_count; inside = h.inside; narrow = λ v m. h.narrow v }
