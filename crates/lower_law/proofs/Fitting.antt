-- Each entity of a typed unit whose names are right fits its cells.
use Rattle.std.proofs.Common.{◌≡◌, ℕ, zero, suc, ◌+◌, ◌≤◌, nat_lt, List, [], ◌∷◌, ◌++◌, length, take, Option, Some, None, refl, sym, ap, ◌∙◌, subst, arith, length-append}
use Rattle.std.specs.Prelude.{map, option_map, slice_get}
use Rattle.chk_base.specs.declared.word.Width.{Width}
use Rattle.typed_unit.specs.declared.typed.CType.{CType}
use Rattle.typed_unit.specs.declared.typed.Local.{Local}
use Rattle.typed_unit.specs.declared.typed.Taker.{Taker}
use Rattle.typed_unit.specs.Plain.{PlainExpr, PlainFunction, PlainEntity, PlainUnit}
use Rattle.lower_law.specs.Counts.{call_depth, things_in, most_reads, function_reads, if_function}
use Rattle.lower_law.specs.FitsBody.{FitsBl, FitsFun, FitsTo, Takes}
use Rattle.lower_law.specs.Layout.{call_names, local_names, global_names, function_names, if_some}
use Rattle.lower_law.specs.Scoped.{IsTaken, IsCallee, IsFunction, IsCallTo, IsBody}
use Rattle.lower_law.specs.Statements.{rooms_to}
use Rattle.lower_law.specs.Translated.{expr, taken, statements, is_some, function, entity, no_function, or_body, unit_over_cells}
use Rattle.lower_law.proofs.Placing.{HasNames, front_names, back_names, params_fit, length_names}
use Rattle.lower_law.proofs.Placed.{Here, block_fits, closed_ends, takes}
use Rattle.lower_law.proofs.Totals.{room_names}

length_params : (n : ℕ) (ls : List Local) → n ≤ length ls → length (map (λ (v : Local). v.ctype) (take n ls)) ≡ n
length_params zero ls h = refl
length_params (suc n) [] h = absurd (omega arith)
length_params (suc n) (l ∷ ls) h = ap (λ k. suc k) (length_params n ls (omega arith))

length_args : (u : PlainUnit) (es : List PlainExpr) → length (map (expr u.globals) es) ≡ length es
length_args u [] = refl
length_args u (e ∷ es) = ap (λ k. suc k) (length_args u es)

module _ (u : PlainUnit) (width : ℕ → Width) (named : HasNames width 0 (global_names u.globals)) (temp top most : ℕ) (fit : temp + most ≤ top) where
  abbrev G : ℕ
  G = length (global_names u.globals)

  -- what calls of a depth need to fit
  abbrev CallsFit : ℕ → Type 0
  CallsFit d = (f cell : ℕ) (args : List PlainExpr) (t : Option Taker) (into : Option (ℕ × CType)) → IsCallTo u d f args t → ((r : Option CType) → IsTaken r t → Takes (is_some r) into) → HasNames width cell (function_names u d f) → G ≤ cell → cell + length (function_names u d f) ≤ temp → function_reads u d f ≤ most → FitsTo width G temp top (unit_over_cells u) d f cell (map (expr u.globals) args) into

  -- the function that is called fits
  callee_fits : (d cell : ℕ) (args : List PlainExpr) (t : Option Taker) (into : Option (ℕ × CType)) (o : Option PlainFunction) → IsFunction (IsCallee u.globals (IsCallTo u d) args t) o → ((r : Option CType) → IsTaken r t → Takes (is_some r) into) → HasNames width cell (if_some (λ x. local_names x.locals ++ call_names (function_names u d) (things_in x.body)) o) → G ≤ cell → cell + length (if_some (λ (x : PlainFunction). local_names x.locals ++ call_names (function_names u d) (things_in x.body)) o) ≤ temp → if_function (λ x. most_reads (function_reads u d) (things_in x.body)) o ≤ most → CallsFit d → FitsFun width G temp top (rooms_to (unit_over_cells u) d) (FitsTo width G temp top (unit_over_cells u) d) (or_body no_function (option_map (function u.globals) o)) cell × (length (map (expr u.globals) args) ≡ length (or_body no_function (option_map (function u.globals) o)).params) × Takes (or_body no_function (option_map (function u.globals) o)).gives into
  callee_fits d cell args t into None h tk n low high few ih = absurd h
  callee_fits d cell args t into (Some x) h tk n low high few ih =
      let ls = local_names x.locals in
      let cs = call_names (function_names u d) (things_in x.body) in
      let mine = front_names width cell ls cs n in
      let l = length-append ls cs in
      let ln = length_names width x.locals in
      let lp = length_params x.params x.locals h.few in
      let at = cell + length x.locals in
      let calls = subst (λ k. HasNames width (cell + k) cs) ln (back_names width cell ls cs n) in
      let here : Here u.globals width named temp top most fit (rooms_to (unit_over_cells u) d) (function_names u d) (function_reads u d) (room_names u d) (IsCallTo u d) (FitsTo width G temp top (unit_over_cells u) d) cell x.locals x.result mine (λ f c es t' q n' low' high' few'. ih f c es t' (option_map (taken u.globals x.locals) t') q (λ r k. takes r u.globals x.locals t' k) n' (omega arith) high' few') at (things_in x.body) = record {
        cells = calls;
        behind = omega arith;
        before = omega arith;
        few = few;
      } in
      let body = block_fits u.globals width named temp top most fit (rooms_to (unit_over_cells u) d) (function_names u d) (function_reads u d) (room_names u d) (IsCallTo u d) (FitsTo width G temp top (unit_over_cells u) d) cell x.locals x.result mine (λ f c es t' q n' low' high' few'. ih f c es t' (option_map (taken u.globals x.locals) t') q (λ r k. takes r u.globals x.locals t' k) n' (omega arith) high' few') x.body (λ i. nat_lt i x.params) at h.body here in (
        record {
          body = subst (λ k. FitsBl width G temp top (rooms_to (unit_over_cells u) d) (FitsTo width G temp top (unit_over_cells u) d) cell (length x.locals) (is_some x.result) (λ i. nat_lt i k) at (statements u.globals x.locals x.body)) (sym lp) body;
          params = params_fit width cell x.params x.locals mine;
          few = omega arith;
          low = low;
          high = omega arith;
          ends = closed_ends u.globals x.locals x.result x.body h.closed;
        },
        length_args u args ∙ h.count ∙ sym lp,
        tk x.result h.taken,
      )

  pub call_fits : (d : ℕ) → CallsFit d
  call_fits zero f cell args t into h tk n low high few = absurd h
  call_fits (suc d) f cell args t into h tk n low high few = callee_fits d cell args t into (slice_get u.functions f) h tk n low high few (call_fits d)

  -- an entity's body fits
  pub body_fits : (e : PlainEntity) (first : ℕ) → IsBody u e → HasNames width first (local_names e.locals ++ call_names (function_names u call_depth) (things_in e.body)) → G ≤ first → first + length (local_names e.locals ++ call_names (function_names u call_depth) (things_in e.body)) ≤ temp → most_reads (function_reads u call_depth) (things_in e.body) ≤ most → FitsFun width G temp top (rooms_to (unit_over_cells u) call_depth) (FitsTo width G temp top (unit_over_cells u) call_depth) (entity u.globals e) first
  body_fits e first h n low high few =
      let ls = local_names e.locals in
      let cs = call_names (function_names u call_depth) (things_in e.body) in
      let mine = front_names width first ls cs n in
      let l = length-append ls cs in
      let ln = length_names width e.locals in
      let at = first + length e.locals in
      let calls = subst (λ k. HasNames width (first + k) cs) ln (back_names width first ls cs n) in
      let ih = call_fits call_depth in
      let here : Here u.globals width named temp top most fit (rooms_to (unit_over_cells u) call_depth) (function_names u call_depth) (function_reads u call_depth) (room_names u call_depth) (IsCallTo u call_depth) (FitsTo width G temp top (unit_over_cells u) call_depth) first e.locals None mine (λ f c es t' q n' low' high' few'. ih f c es t' (option_map (taken u.globals e.locals) t') q (λ r k. takes r u.globals e.locals t' k) n' (omega arith) high' few') at (things_in e.body) = record {
        cells = calls;
        behind = omega arith;
        before = omega arith;
        few = few;
      } in
      let body = block_fits u.globals width named temp top most fit (rooms_to (unit_over_cells u) call_depth) (function_names u call_depth) (function_reads u call_depth) (room_names u call_depth) (IsCallTo u call_depth) (FitsTo width G temp top (unit_over_cells u) call_depth) first e.locals None mine (λ f c es t' q n' low' high' few'. ih f c es t' (option_map (taken u.globals e.locals) t') q (λ r k. takes r u.globals e.locals t' k) n' (omega arith) high' few') e.body (λ i. nat_lt i 0) at h here in
      record {
        body = body;
        params = tt;
        few = omega arith;
        low = low;
        high = omega arith;
        ends = tt;
      }
