-- Both texts are far shorter than what a run reads.
use Rattle.std.proofs.Common.{ℕ, zero, suc, ◌+◌, ◌*◌, ◌/◌, ◌<◌, ◌≤◌, Bool, true, false, List, [], ◌∷◌, ◌++◌, length, length-append, if◌then◌else◌, nat_lt, ◌==◌, arith}
use Rattle.std.proofs.lemmas.Fmt.{length-decimal-le}
use Rattle.std.proofs.Math.Nat.{mod-lt}
use Rattle.std.specs.Prelude.{codes, decimal}
use Rattle.app_generator.specs.Drawn.{draw, next, state_after}
use Rattle.app_generator.specs.Generated.{activation, assertion, assignment, assignments, bodies_before, body, body_from, each_below, generated_c, generated_oil, head_text, if_sharing, line, lock_lines, object_text, objects_before, objects_behind, start_text, sum_text, task_count, task_object}

-- a text has at most so many bytes
record HasAtMost (most : ℕ) (text : List ℕ) : Type 0 where
  is : length text ≤ most

-- a number below 1,000
digits : (n : ℕ) → n < 1000 → HasAtMost 3 (decimal n)
digits n h = record { is = length-decimal-le 3 n (omega arith) h (omega (arith, h)) }

-- two texts one after the other
joined : {m n : ℕ} {xs ys : List ℕ} → HasAtMost m xs → HasAtMost n ys → HasAtMost (m + n) (xs ++ ys)
joined {xs = xs} {ys = ys} a b = let f = a.is in let g = b.is in record { is = omega (arith, length-append xs ys, f, g) }

-- a text or none
optional : (b : Bool) {n : ℕ} {text : List ℕ} → HasAtMost n text → HasAtMost n (if b then text else [])
optional true a = a
optional false a = record { is = omega arith }

-- the texts of the numbers below n
each : (text : ℕ → List ℕ) (n : ℕ) → ((i : ℕ) → i < n → HasAtMost 1000 (text i)) → HasAtMost (1000 * n) (each_below text n)
each text zero h = record { is = omega arith }
each text (suc n) h =
    let rest = (each text n (λ i lt. h i (omega (arith, lt)))).is in
    let last = (h n (omega arith)).is in
    record { is = omega (arith, length-append (each_below text n) (text n), rest, last) }

few_tasks : (number : ℕ) → task_count number ≤ 8
few_tasks number = let d : draw number 0 7 < 7 = mod-lt (state_after number 1 / 65536) (omega arith) in omega (arith, d)

-- ---- the OIL text
head : (i : ℕ) → i < 1000 → HasAtMost 73 (head_text i)
head i lt =
    let number = digits i lt in
    let name : HasAtMost 6 (codes "TASK T") = record { is = omega arith } in
    let priority : HasAtMost 14 (codes " { PRIORITY = ") = record { is = omega arith } in
    let behind : HasAtMost 47 (codes "; SCHEDULE = FULL; ACTIVATION = 1; AUTOSTART = ") = record { is = omega arith } in
    joined (joined (joined (joined name number) priority) number) behind

start : (i : ℕ) → HasAtMost 21 (start_text i)
start i = go (i == 0) where
  go : (b : Bool) → HasAtMost 21 (if b then codes "TRUE { APPMODE = M; }" else codes "FALSE")
  go true = record { is = omega arith }
  go false = record { is = omega arith }

object : (i : ℕ) → i < 1000 → HasAtMost 1000 (task_object i)
object i lt =
    let colon : HasAtMost 1 (codes ";") = record { is = omega arith } in
    let resource : HasAtMost 15 (codes " RESOURCE = R0;") = record { is = omega arith } in
    let behind : HasAtMost 3 (codes " };") = record { is = omega arith } in
    let end : HasAtMost 1 (10 ∷ []) = record { is = omega arith } in
    let whole = (joined (joined (joined (joined (joined (head i lt) (start i)) colon) (optional (nat_lt i 2) resource)) behind) end).is in
    record { is = omega (arith, whole) }

pub oil_short : (number : ℕ) → length (generated_oil number) ≤ 262144
oil_short number =
    let few = few_tasks number in
    let tasks = each task_object (task_count number) (λ i lt. object i (omega (arith, lt, few))) in
    let before : HasAtMost 200 objects_before = record { is = omega arith } in
    let behind : HasAtMost 200 objects_behind = record { is = omega arith } in
    let whole = (joined (joined before tasks) behind).is in
    omega (arith, whole, few)

-- ---- the C text
sum : (target source number : ℕ) → target < 1000 → source < 1000 → number < 1000 → HasAtMost 20 (sum_text target source number)
sum target source number x y z =
    let name : HasAtMost 3 (codes "  g") = record { is = omega arith } in
    let equals : HasAtMost 4 (codes " = g") = record { is = omega arith } in
    let plus : HasAtMost 3 (codes " + ") = record { is = omega arith } in
    let colon : HasAtMost 1 (codes ";") = record { is = omega arith } in
    joined (joined (joined (joined (joined (joined name (digits target x)) equals) (digits source y)) plus) (digits number z)) colon

one_assignment : (state : ℕ) → HasAtMost 21 (assignment state)
one_assignment state =
    let a : draw state 0 3 < 3 = mod-lt (state_after state 1 / 65536) (omega arith) in
    let b : draw state 1 3 < 3 = mod-lt (state_after state 2 / 65536) (omega arith) in
    let c : draw state 2 200 < 200 = mod-lt (state_after state 3 / 65536) (omega arith) in
    let end : HasAtMost 1 (10 ∷ []) = record { is = omega arith } in
    joined (sum (1 + draw state 0 3) (1 + draw state 1 3) (draw state 2 200) (omega (arith, a)) (omega (arith, b)) (omega (arith, c))) end

four_assignments : (state : ℕ) → HasAtMost 84 (assignments state)
four_assignments state =
    joined (joined (joined (one_assignment state) (one_assignment (state_after state 3))) (one_assignment (state_after state 6))) (one_assignment (state_after state 9))

-- a line with a number
numbered : {m n : ℕ} {before behind : List ℕ} (number : ℕ) → HasAtMost m before → HasAtMost n behind → number < 1000 → HasAtMost (m + 3 + n + 1) (line (before ++ decimal number ++ behind))
numbered number a b lt = let end : HasAtMost 1 (10 ∷ []) = record { is = omega arith } in joined (joined (joined a (digits number lt)) b) end

one_body : (state tasks arrivals i : ℕ) → arrivals < 256 → i < 100 → HasAtMost 1000 (body state tasks arrivals i)
one_body state tasks arrivals i few lt =
    let task : HasAtMost 6 (codes "TASK(T") = record { is = omega arith } in
    let brace : HasAtMost 3 (codes ") {") = record { is = omega arith } in
    let locks : HasAtMost 60 lock_lines = record { is = omega arith } in
    let activate : HasAtMost 16 (codes "  ActivateTask(T") = record { is = omega arith } in
    let assert : HasAtMost 15 (codes "  assert(g0 <= ") = record { is = omega arith } in
    let close : HasAtMost 2 (codes ");") = record { is = omega arith } in
    let terminate : HasAtMost 19 (line (codes "  TerminateTask();")) = record { is = omega arith } in
    let end : HasAtMost 2 (line (codes "}")) = record { is = omega arith } in
    let front = joined (numbered i task brace (omega (arith, lt))) (four_assignments state) in
    let shared = joined front (optional (nat_lt i 2) locks) in
    let activates = joined shared (optional (nat_lt (i + 1) tasks) (numbered (i + 1) activate close (omega (arith, lt)))) in
    let asserts = joined activates (optional (i == 0) (numbered (2 + arrivals) assert close (omega (arith, few)))) in
    let whole = (joined (joined asserts terminate) end).is in
    record { is = omega (arith, whole) }

pub c_short : (number arrivals : ℕ) → arrivals < 256 → length (generated_c number arrivals) ≤ 262144
c_short number arrivals lt =
    let few = few_tasks number in
    let before : HasAtMost 200 bodies_before = record { is = omega arith } in
    let bodies = each (body_from (next number) (task_count number) arrivals) (task_count number) (λ i below. one_body (state_after (next number) (12 * i)) (task_count number) arrivals i lt (omega (arith, below, few))) in
    let whole = (joined before bodies).is in
    omega (arith, whole, few)
