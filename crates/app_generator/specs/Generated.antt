-- The application that belongs to a number, as two texts. Its tasks take turns at a resource with a routine, and each activates the next.
use Rattle.std.specs.Prelude.{ℕ, zero, suc, ◌+◌, ◌*◌, List, [], ◌∷◌, ◌++◌, codes, decimal, if◌then◌else◌, nat_lt, ◌==◌}
use Rattle.app_generator.specs.Drawn.{draw, next, state_after}

-- a text, and the end of its line
abbrev pub line : List ℕ → List ℕ
line text = text ++ 10 ∷ []

-- the texts of the numbers below n, one after another
abbrev pub each_below : (ℕ → List ℕ) → ℕ → List ℕ
each_below text zero = []
each_below text (suc n) = each_below text n ++ text n

-- how many tasks there are, by the first draw
abbrev pub task_count : ℕ → ℕ
task_count number = 2 + draw number 0 7

-- the two tasks of the lowest priority share the resource with the routine
abbrev pub if_sharing : ℕ → List ℕ → List ℕ
if_sharing i text = if nat_lt i 2 then text else []

-- the first task is ready at the start
abbrev pub start_text : ℕ → List ℕ
start_text i = if i == 0 then codes "TRUE { APPMODE = M; }" else codes "FALSE"

-- what stands before the value of AUTOSTART
abbrev pub head_text : ℕ → List ℕ
head_text i = codes "TASK T" ++ decimal i ++ codes " { PRIORITY = " ++ decimal i ++ codes "; SCHEDULE = FULL; ACTIVATION = 1; AUTOSTART = "

-- a task (OIL 2.5, 2.3)
abbrev pub object_text : ℕ → List ℕ
object_text i = head_text i ++ start_text i ++ codes ";" ++ if_sharing i (codes " RESOURCE = R0;") ++ codes " };"

abbrev pub task_object : ℕ → List ℕ
task_object i = line (object_text i)

-- what stands before the tasks
abbrev pub objects_before : List ℕ
objects_before =
    line (codes "OIL_VERSION = \"2.5\";") ++ line (codes "CPU c {") ++ line (codes "OS o { STATUS = EXTENDED; };") ++ line (codes "APPMODE M { };") ++ line (codes "RESOURCE R0 { RESOURCEPROPERTY = STANDARD; };")

-- what stands behind them
abbrev pub objects_behind : List ℕ
objects_behind = line (codes "ISR I0 { CATEGORY = 2; PRIORITY = 1; RESOURCE = R0; };") ++ line (codes "};")

-- the OIL text
abbrev pub generated_oil : ℕ → List ℕ
generated_oil number = objects_before ++ each_below task_object (task_count number) ++ objects_behind

-- the lines that count under the resource
abbrev pub lock_lines : List ℕ
lock_lines = line (codes "  GetResource(R0);") ++ line (codes "  g0 = g0 + 1;") ++ line (codes "  ReleaseResource(R0);")

-- the variables, and the routine
abbrev pub bodies_before : List ℕ
bodies_before = line (codes "uint8_t g0;") ++ line (codes "uint8_t g1;") ++ line (codes "uint8_t g2;") ++ line (codes "uint8_t g3;") ++ line (codes "ISR(I0) {") ++ lock_lines ++ line (codes "}")

-- an assignment of a sum
abbrev pub sum_text : ℕ → ℕ → ℕ → List ℕ
sum_text target source number = codes "  g" ++ decimal target ++ codes " = g" ++ decimal source ++ codes " + " ++ decimal number ++ codes ";"

-- an assignment, by the three draws from this state on
abbrev pub assignment : ℕ → List ℕ
assignment state = line (sum_text (1 + draw state 0 3) (1 + draw state 1 3) (draw state 2 200))

-- four of them
abbrev pub assignments : ℕ → List ℕ
assignments state = assignment state ++ assignment (state_after state 3) ++ assignment (state_after state 6) ++ assignment (state_after state 9)

-- the task that is activated, where there is one more
abbrev pub activation : ℕ → ℕ → List ℕ
activation tasks i = if nat_lt (i + 1) tasks then line (codes "  ActivateTask(T" ++ decimal (i + 1) ++ codes ");") else []

-- the first task asserts that the counts so far are at most those of the two tasks and of the arrivals
abbrev pub assertion : ℕ → ℕ → List ℕ
assertion arrivals i = if i == 0 then line (codes "  assert(g0 <= " ++ decimal (2 + arrivals) ++ codes ");") else []

-- the body of a task, which begins in this state
abbrev pub body : ℕ → ℕ → ℕ → ℕ → List ℕ
body state tasks arrivals i =
    line (codes "TASK(T" ++ decimal i ++ codes ") {")
    ++ assignments state
    ++ if_sharing i lock_lines
    ++ activation tasks i
    ++ assertion arrivals i
    ++ line (codes "  TerminateTask();")
    ++ line (codes "}")

-- the body of each task, where that of the first begins in this state; each has four assignments of three draws
abbrev pub body_from : ℕ → ℕ → ℕ → ℕ → List ℕ
body_from state tasks arrivals i = body (state_after state (12 * i)) tasks arrivals i

-- the C text, for so many arrivals; the first draw was that of the number of tasks
abbrev pub generated_c : ℕ → ℕ → List ℕ
generated_c number arrivals = bodies_before ++ each_below (body_from (next number) (task_count number) arrivals) (task_count number)
