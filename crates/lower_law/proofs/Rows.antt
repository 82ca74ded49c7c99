-- Worked texts: both entity steps tell the same events, and the counts are those that are known.
use Rattle.std.proofs.Common.{◌≡◌, ℕ, zero, suc, true, false, List, [], ◌∷◌, length, Option, Some, None, refl}
use Rattle.std.specs.Prelude.{slice_get}
use Rattle.chk_base.specs.declared.place.Place.{Place}
use Rattle.chk_base.specs.declared.word.Width.{Width}
use Rattle.chk_base.specs.declared.word.Width.TheVariants.{W8, W32}
use Rattle.chk_base.specs.Widths.{PlainWord}
use Rattle.step_ir.specs.declared.event.EventAction.{EventAction}
use Rattle.step_ir.specs.declared.event.EventAction.TheVariants as Told
use Rattle.step_ir.specs.declared.event.Service.TheVariants as Service
use Rattle.step_ir.specs.EntityStep.{Behaviour, Want, Does, Inputs, Calls, Ends, Fails, InputFails}
use Rattle.step_ir.specs.PointStep.{Bits, Program, of_points}
use Rattle.lower_law.specs.Typed.{CType, Divide, Add, ShiftLeft, Less, Minus, Not, Number, Local, Global, Element, Binary, Unary, Conjunction, Disjunction, Conditional, Converted}
use Rattle.lower_law.specs.Statements.{Set, Write, WriteAt, If, Loop, Assert, Input, Call, Return, Serve, Block, Nil, Cons, CellFunction, CellUnit}
use Rattle.lower_law.specs.EntityStep.{of_unit}
use Rattle.lower_law.specs.Lowered.{points_of_entity}
use Rattle.lower_law.specs.Exact.{Layout, lowered}

abbrev tell : {S : Type 0} → (List PlainWord → S → Bits → List EventAction) → List PlainWord → Want S Bits → List EventAction
tell k ws (Does a x) = a ∷ k ws x.state x.globals
tell k [] (Inputs w f x) = []
tell k (w ∷ ws) (Inputs v f x) = f w ∷ k ws (x w).state (x w).globals
tell k ws (Calls s x) = Told.Service s ∷ []
tell k ws Ends = Told.End ∷ []
tell k ws (Fails f) = Told.Fail f None ∷ []
tell k ws (InputFails w f) = []

abbrev run : {S : Type 0} → Behaviour S Bits → ℕ → List PlainWord → S → Bits → List EventAction
run b zero ws s g = []
run b (suc n) ws s g = tell (run b n) ws (b.wants 0 s g)

abbrev or_w32 : Option Width → Width
or_w32 None = W32
or_w32 (Some w) = w

abbrev or_zero_in : Option ℕ → ℕ
or_zero_in None = 0
or_zero_in (Some n) = n

abbrev pub calls_entity : CellFunction
calls_entity = record { params = ([]); locals = 1; gives = false; body = (Cons (Set (record { line = 10; column = 11; offset = 185 }) 0 (record { width = W8; signed = false }) (Converted (record { width = W8; signed = false }) (Number 0))) (Cons (Loop (record { line = 11; column = 3; offset = 194 }) (Binary Less true (Converted (record { width = W32; signed = true }) (Local 0 (record { width = W8; signed = false }))) (Number 2)) Nil (Cons (WriteAt (record { line = 12; column = 5; offset = 214 }) 1 3 (record { width = W8; signed = true }) (Converted (record { width = W32; signed = true }) (Local 0 (record { width = W8; signed = false }))) (Converted (record { width = W8; signed = true }) (Binary Add true (Converted (record { width = W32; signed = true }) (Element 1 3 (record { width = W8; signed = true }) (Binary Add true (Converted (record { width = W32; signed = true }) (Local 0 (record { width = W8; signed = false }))) (Number 1)))) (Conditional (Conjunction (Binary Less true (Converted (record { width = W32; signed = true }) (Global 0 (record { width = W8; signed = false }))) (Number 4)) (Binary Less true (Converted (record { width = W32; signed = true }) (Element 1 3 (record { width = W8; signed = true }) (Number 2))) (Number 9))) (Converted (record { width = W32; signed = true }) (Global 0 (record { width = W8; signed = false }))) (Unary Minus true (Converted (record { width = W32; signed = true }) (Element 1 3 (record { width = W8; signed = true }) (Number 0)))))))) (Cons (Call (record { line = 13; column = 5; offset = 269 }) 0 ((Local 0 (record { width = W8; signed = false })) ∷ (Converted (record { width = W8; signed = false }) (Number 2)) ∷ []) (Some (0, record { width = W8; signed = false }))) (Cons (Call (record { line = 14; column = 5; offset = 286 }) 1 ([]) None) Nil)))) (Cons (Assert (record { line = 16; column = 3; offset = 297 }) (Disjunction (Unary Not true (Binary Less true (Converted (record { width = W32; signed = true }) (Global 0 (record { width = W8; signed = false }))) (Number 3))) (Binary Less true (Converted (record { width = W32; signed = true }) (Element 1 3 (record { width = W8; signed = true }) (Number 0))) (Number 0)))) (Cons (Serve (record { line = 17; column = 3; offset = 329 }) Service.Terminate) Nil)))); close = record { line = 18; column = 1; offset = 346 } }

abbrev pub calls_at : ℕ → CellFunction
calls_at zero = record { params = ((record { width = W8; signed = false }) ∷ (record { width = W8; signed = false }) ∷ []); locals = 3; gives = true; body = (Cons (Set (record { line = 4; column = 11; offset = 85 }) 2 (record { width = W8; signed = false }) (Converted (record { width = W8; signed = false }) (Binary Add true (Converted (record { width = W32; signed = true }) (Local 0 (record { width = W8; signed = false }))) (Converted (record { width = W32; signed = true }) (Local 1 (record { width = W8; signed = false })))))) (Cons (If (record { line = 5; column = 3; offset = 98 }) (Binary Less true (Converted (record { width = W32; signed = true }) (Local 0 (record { width = W8; signed = false }))) (Converted (record { width = W32; signed = true }) (Local 1 (record { width = W8; signed = false })))) (Cons (Return (record { line = 5; column = 16; offset = 111 }) (Some (Local 2 (record { width = W8; signed = false })))) Nil) Nil) (Cons (Return (record { line = 6; column = 3; offset = 125 }) (Some (Local 0 (record { width = W8; signed = false })))) Nil))); close = record { line = 7; column = 1; offset = 135 } }
calls_at _ = record { params = ([]); locals = 0; gives = false; body = (Cons (Write (record { line = 8; column = 16; offset = 152 }) 0 (record { width = W8; signed = false }) (Converted (record { width = W8; signed = false }) (Binary Add true (Converted (record { width = W32; signed = true }) (Global 0 (record { width = W8; signed = false }))) (Number 1)))) Nil); close = record { line = 8; column = 27; offset = 163 } }

abbrev pub calls : CellUnit
calls = record { fun = calls_at; entity = λ e. calls_entity }

abbrev pub calls_width : ℕ → Width
calls_width i = or_w32 (slice_get (W8 ∷ W8 ∷ W8 ∷ W8 ∷ W8 ∷ W8 ∷ W8 ∷ W8 ∷ W32 ∷ W32 ∷ W32 ∷ W32 ∷ W32 ∷ []) i)

abbrev pub calls_start : ℕ → ℕ
calls_start i = or_zero_in (slice_get (3 ∷ 255 ∷ 2 ∷ 4 ∷ []) i)

abbrev pub calls_cells : Layout
calls_cells = record { globals = 4; first = λ e. 4; temp = λ e. 8; top = λ e. 13 }

abbrev pub calls_code : Program
calls_code = lowered calls 2 calls_cells calls_width

calls_typed : run (of_unit calls 2 (λ e. 4)) 60 ([]) ((of_unit calls 2 (λ e. 4)).start 0) calls_start ≡ (Told.Local 4 (record { width = W8; bits = 0 }) ∷ Told.Branch true ∷ Told.Read 2 (record { width = W8; bits = 2 }) ∷ Told.Read 0 (record { width = W8; bits = 3 }) ∷ Told.Read 3 (record { width = W8; bits = 4 }) ∷ Told.Read 0 (record { width = W8; bits = 3 }) ∷ Told.Write 1 (record { width = W8; bits = 5 }) ∷ Told.Call 0 ∷ Told.Local 7 (record { width = W8; bits = 2 }) ∷ Told.Branch true ∷ Told.Return (Some (4, record { width = W8; bits = 2 })) ∷ Told.Call 1 ∷ Told.Read 0 (record { width = W8; bits = 3 }) ∷ Told.Write 0 (record { width = W8; bits = 4 }) ∷ Told.Return None ∷ Told.Branch false ∷ Told.Read 0 (record { width = W8; bits = 4 }) ∷ Told.Assert ∷ Told.Service Service.Terminate ∷ [])
calls_typed = refl

calls_points : run (of_points calls_code) 60 ([]) 0 calls_start ≡ (Told.Local 4 (record { width = W8; bits = 0 }) ∷ Told.Branch true ∷ Told.Read 2 (record { width = W8; bits = 2 }) ∷ Told.Read 0 (record { width = W8; bits = 3 }) ∷ Told.Read 3 (record { width = W8; bits = 4 }) ∷ Told.Read 0 (record { width = W8; bits = 3 }) ∷ Told.Write 1 (record { width = W8; bits = 5 }) ∷ Told.Call 0 ∷ Told.Local 7 (record { width = W8; bits = 2 }) ∷ Told.Branch true ∷ Told.Return (Some (4, record { width = W8; bits = 2 })) ∷ Told.Call 1 ∷ Told.Read 0 (record { width = W8; bits = 3 }) ∷ Told.Write 0 (record { width = W8; bits = 4 }) ∷ Told.Return None ∷ Told.Branch false ∷ Told.Read 0 (record { width = W8; bits = 4 }) ∷ Told.Assert ∷ Told.Service Service.Terminate ∷ [])
calls_points = refl

calls_count : length (points_of_entity (λ i. i) 8 calls 2 4 calls_entity) ≡ 22
calls_count = refl

abbrev pub failure_entity : CellFunction
failure_entity = record { params = ([]); locals = 2; gives = false; body = (Cons (Input (record { line = 4; column = 10; offset = 49 }) 0 (record { width = W8; signed = true })) (Cons (Set (record { line = 5; column = 11; offset = 78 }) 1 (record { width = W32; signed = true }) (Number 2147483647)) (Cons (If (record { line = 6; column = 3; offset = 96 }) (Binary Less true (Converted (record { width = W32; signed = true }) (Local 0 (record { width = W8; signed = true }))) (Number 0)) (Cons (Write (record { line = 6; column = 16; offset = 109 }) 1 (record { width = W32; signed = true }) (Binary Divide true (Global 1 (record { width = W32; signed = true })) (Binary Less true (Converted (record { width = W32; signed = true }) (Global 0 (record { width = W8; signed = false }))) (Number 3)))) Nil) (Cons (If (record { line = 6; column = 40; offset = 133 }) (Binary Less true (Converted (record { width = W32; signed = true }) (Local 0 (record { width = W8; signed = true }))) (Number 5)) (Cons (Set (record { line = 6; column = 53; offset = 146 }) 1 (record { width = W32; signed = true }) (Binary Add true (Local 1 (record { width = W32; signed = true })) (Converted (record { width = W32; signed = true }) (Local 0 (record { width = W8; signed = true }))))) Nil) (Cons (Set (record { line = 6; column = 73; offset = 166 }) 1 (record { width = W32; signed = true }) (Binary ShiftLeft true (Number 1) (Local 1 (record { width = W32; signed = true })))) Nil)) Nil)) (Cons (Serve (record { line = 7; column = 3; offset = 182 }) Service.Terminate) Nil)))); close = record { line = 8; column = 1; offset = 199 } }

abbrev pub failure : CellUnit
failure = record { fun = λ f. failure_entity; entity = λ e. failure_entity }

abbrev pub failure_width : ℕ → Width
failure_width i = or_w32 (slice_get (W8 ∷ W32 ∷ W8 ∷ W32 ∷ W32 ∷ W32 ∷ []) i)

abbrev pub failure_start : ℕ → ℕ
failure_start i = or_zero_in (slice_get (3 ∷ 7 ∷ []) i)

abbrev pub failure_cells : Layout
failure_cells = record { globals = 2; first = λ e. 2; temp = λ e. 4; top = λ e. 6 }

abbrev pub failure_code : Program
failure_code = lowered failure 2 failure_cells failure_width

failure_typed : run (of_unit failure 2 (λ e. 2)) 60 (record { width = W8; bits = 253 } ∷ []) ((of_unit failure 2 (λ e. 2)).start 0) failure_start ≡ (Told.Input 2 (record { width = W8; bits = 253 }) ∷ Told.Local 3 (record { width = W32; bits = 2147483647 }) ∷ Told.Branch true ∷ Told.Read 1 (record { width = W32; bits = 7 }) ∷ Told.Read 0 (record { width = W8; bits = 3 }) ∷ Told.Fail (record { number = 4; code = 0 }) None ∷ [])
failure_typed = refl

failure_points : run (of_points failure_code) 60 (record { width = W8; bits = 253 } ∷ []) 0 failure_start ≡ (Told.Input 2 (record { width = W8; bits = 253 }) ∷ Told.Local 3 (record { width = W32; bits = 2147483647 }) ∷ Told.Branch true ∷ Told.Read 1 (record { width = W32; bits = 7 }) ∷ Told.Read 0 (record { width = W8; bits = 3 }) ∷ Told.Fail (record { number = 4; code = 0 }) None ∷ [])
failure_points = refl

failure_count : length (points_of_entity (λ i. i) 4 failure 2 2 failure_entity) ≡ 11
failure_count = refl

abbrev pub overflow_entity : CellFunction
overflow_entity = record { params = ([]); locals = 2; gives = false; body = (Cons (Input (record { line = 4; column = 10; offset = 49 }) 0 (record { width = W8; signed = true })) (Cons (Set (record { line = 5; column = 11; offset = 78 }) 1 (record { width = W32; signed = true }) (Number 2147483647)) (Cons (If (record { line = 6; column = 3; offset = 96 }) (Binary Less true (Converted (record { width = W32; signed = true }) (Local 0 (record { width = W8; signed = true }))) (Number 0)) (Cons (Write (record { line = 6; column = 16; offset = 109 }) 1 (record { width = W32; signed = true }) (Binary Divide true (Global 1 (record { width = W32; signed = true })) (Binary Less true (Converted (record { width = W32; signed = true }) (Global 0 (record { width = W8; signed = false }))) (Number 3)))) Nil) (Cons (If (record { line = 6; column = 40; offset = 133 }) (Binary Less true (Converted (record { width = W32; signed = true }) (Local 0 (record { width = W8; signed = true }))) (Number 5)) (Cons (Set (record { line = 6; column = 53; offset = 146 }) 1 (record { width = W32; signed = true }) (Binary Add true (Local 1 (record { width = W32; signed = true })) (Converted (record { width = W32; signed = true }) (Local 0 (record { width = W8; signed = true }))))) Nil) (Cons (Set (record { line = 6; column = 73; offset = 166 }) 1 (record { width = W32; signed = true }) (Binary ShiftLeft true (Number 1) (Local 1 (record { width = W32; signed = true })))) Nil)) Nil)) (Cons (Serve (record { line = 7; column = 3; offset = 182 }) Service.Terminate) Nil)))); close = record { line = 8; column = 1; offset = 199 } }

abbrev pub overflow : CellUnit
overflow = record { fun = λ f. overflow_entity; entity = λ e. overflow_entity }

abbrev pub overflow_width : ℕ → Width
overflow_width i = or_w32 (slice_get (W8 ∷ W32 ∷ W8 ∷ W32 ∷ W32 ∷ W32 ∷ []) i)

abbrev pub overflow_start : ℕ → ℕ
overflow_start i = or_zero_in (slice_get (3 ∷ 7 ∷ []) i)

abbrev pub overflow_cells : Layout
overflow_cells = record { globals = 2; first = λ e. 2; temp = λ e. 4; top = λ e. 6 }

abbrev pub overflow_code : Program
overflow_code = lowered overflow 2 overflow_cells overflow_width

overflow_typed : run (of_unit overflow 2 (λ e. 2)) 60 (record { width = W8; bits = 4 } ∷ []) ((of_unit overflow 2 (λ e. 2)).start 0) overflow_start ≡ (Told.Input 2 (record { width = W8; bits = 4 }) ∷ Told.Local 3 (record { width = W32; bits = 2147483647 }) ∷ Told.Branch false ∷ Told.Branch true ∷ Told.Fail (record { number = 3; code = 0 }) None ∷ [])
overflow_typed = refl

overflow_points : run (of_points overflow_code) 60 (record { width = W8; bits = 4 } ∷ []) 0 overflow_start ≡ (Told.Input 2 (record { width = W8; bits = 4 }) ∷ Told.Local 3 (record { width = W32; bits = 2147483647 }) ∷ Told.Branch false ∷ Told.Branch true ∷ Told.Fail (record { number = 3; code = 0 }) None ∷ [])
overflow_points = refl

overflow_count : length (points_of_entity (λ i. i) 4 overflow 2 2 overflow_entity) ≡ 11
overflow_count = refl

abbrev pub unread_entity : CellFunction
unread_entity = record { params = ([]); locals = 0; gives = false; body = (Cons (Assert (record { line = 3; column = 3; offset = 27 }) (Unary Not true (Conjunction (Number 0) (Global 0 (record { width = W8; signed = false }))))) (Cons (Write (record { line = 4; column = 3; offset = 48 }) 0 (record { width = W8; signed = false }) (Converted (record { width = W8; signed = false }) (Binary Add true (Converted (record { width = W32; signed = true }) (Global 0 (record { width = W8; signed = false }))) (Disjunction (Number 1) (Global 0 (record { width = W8; signed = false })))))) (Cons (Serve (record { line = 5; column = 3; offset = 68 }) Service.Terminate) Nil))); close = record { line = 6; column = 1; offset = 85 } }

abbrev pub unread : CellUnit
unread = record { fun = λ f. unread_entity; entity = λ e. unread_entity }

abbrev pub unread_width : ℕ → Width
unread_width i = or_w32 (slice_get (W8 ∷ W32 ∷ W32 ∷ []) i)

abbrev pub unread_start : ℕ → ℕ
unread_start i = or_zero_in (slice_get (3 ∷ []) i)

abbrev pub unread_cells : Layout
unread_cells = record { globals = 1; first = λ e. 1; temp = λ e. 1; top = λ e. 3 }

abbrev pub unread_code : Program
unread_code = lowered unread 2 unread_cells unread_width

unread_typed : run (of_unit unread 2 (λ e. 1)) 60 ([]) ((of_unit unread 2 (λ e. 1)).start 0) unread_start ≡ (Told.Assert ∷ Told.Read 0 (record { width = W8; bits = 3 }) ∷ Told.Write 0 (record { width = W8; bits = 4 }) ∷ Told.Service Service.Terminate ∷ [])
unread_typed = refl

unread_points : run (of_points unread_code) 60 ([]) 0 unread_start ≡ (Told.Assert ∷ Told.Read 0 (record { width = W8; bits = 3 }) ∷ Told.Write 0 (record { width = W8; bits = 4 }) ∷ Told.Service Service.Terminate ∷ [])
unread_points = refl

unread_count : length (points_of_entity (λ i. i) 1 unread 2 1 unread_entity) ≡ 7
unread_count = refl

-- for (uint8_t i = 0; i < 2; i++) { g = g + i; }
abbrev pub narrow : CType
narrow = record { width = W8; signed = false }

abbrev pub whole : CType
whole = record { width = W32; signed = true }

abbrev pub at_column : ℕ → Place
at_column n = record { line = 3; column = n; offset = n }

abbrev pub loop_entity : CellFunction
loop_entity =
    record {
      params = [];
      locals = 1;
      gives = false;
      body = Cons (Block (Cons (Set (at_column 16) 0 narrow (Converted narrow (Number 0))) (Cons (Loop (at_column 3) (Binary Less true (Converted whole (Local 0 narrow)) (Number 2)) (Cons (Set (at_column 30) 0 narrow (Converted narrow (Binary Add true (Converted whole (Local 0 narrow)) (Number 1)))) Nil) (Cons (Write (at_column 38) 0 narrow (Converted narrow (Binary Add true (Converted whole (Global 0 narrow)) (Converted whole (Local 0 narrow))))) Nil)) Nil))) Nil;
      close = at_column 1;
    }

abbrev pub loops : CellUnit
loops = record { fun = λ f. loop_entity; entity = λ e. loop_entity }

abbrev pub loop_width : ℕ → Width
loop_width i = or_w32 (slice_get (W8 ∷ W8 ∷ W32 ∷ []) i)

abbrev pub loop_cells : Layout
loop_cells = record { globals = 1; first = λ e. 1; temp = λ e. 2; top = λ e. 3 }

abbrev byte : ℕ → PlainWord
byte n = record { width = W8; bits = n }

abbrev pub loop_events : List EventAction
loop_events = Told.Local 1 (byte 0) ∷ Told.Branch true ∷ Told.Read 0 (byte 0) ∷ Told.Write 0 (byte 0) ∷ Told.Local 1 (byte 1) ∷ Told.Branch true ∷ Told.Read 0 (byte 0) ∷ Told.Write 0 (byte 1) ∷ Told.Local 1 (byte 2) ∷ Told.Branch false ∷ Told.End ∷ []

loop_typed : run (of_unit loops 2 (λ e. 1)) 60 [] ((of_unit loops 2 (λ e. 1)).start 0) (λ i. 0) ≡ loop_events
loop_typed = refl

loop_points : run (of_points (lowered loops 2 loop_cells loop_width)) 60 [] 0 (λ i. 0) ≡ loop_events
loop_points = refl

loop_count : length (points_of_entity (λ i. i) 2 loops 2 1 loop_entity) ≡ 6
loop_count = refl
