-- What names mean at file level: each variable and each function has its number in the typed unit.
use Rattle.std.proofs.Common.{◌≡◌, ℕ, zero, suc, ◌≤◌, Bool, true, false, if◌then◌else◌, List, [], ◌∷◌, ◌++◌, length, map, slice_get, fold, Option, Some, None, is_some, refl, sym, ap, ◌∙◌, subst, arith, append_assoc, append-nil}
use Rattle.std.specs.List.{AllByRecursion, flat_map}
use Rattle.std.specs.Option.{option_map}
use Rattle.std.specs.Str.{bytes_eq}
use Rattle.std.proofs.lemmas.List.{map-append}
use Rattle.std.proofs.lemmas.Option.{slice_get-map}
use Rattle.c_unit.specs.declared.unit.Declaration.{Declaration}
use Rattle.c_unit.specs.declared.unit.External.{External}
use Rattle.c_unit.specs.declared.unit.External.TheVariants as e
use Rattle.c_unit.specs.declared.unit.Function.{Function}
use Rattle.c_unit.specs.declared.unit.Parameter.{Parameter}
use Rattle.c_unit.specs.declared.unit.Signature.{Signature}
use Rattle.c_unit.specs.declared.unit.Variable.{Variable}
use Rattle.c_unit.specs.declared.unit.Variable.TheVariants as v
use Rattle.c_rules.specs.declared.meaning.FunctionMeaning.{FunctionMeaning}
use Rattle.c_rules.specs.declared.meaning.Meaning.{Meaning}
use Rattle.c_rules.specs.declared.meaning.Meaning.TheVariants as m
use Rattle.c_rules.specs.declared.meaning.ServiceName.{ServiceName}
use Rattle.c_rules.specs.declared.meaning.VariableMeaning.{VariableMeaning}
use Rattle.c_rules.specs.Files.{Files, Known, file_named, written_length, variable_name, variable_meaning, function_meaning, with_variable, with_function, with_external, known_meaning}
use Rattle.c_rules.specs.Meanings.{or_else, or_nothing, service_named, is_left_out, is_input_name, task_named, routine_named, resource_named, object_named, system_named, left_out_named}
use Rattle.c_rules.specs.UnitRules.{ninth_faults}
use Rattle.typed_unit.specs.declared.typed.CType.{CType}
use Rattle.typed_unit.specs.Conversions.{ctype_named}
use Rattle.typed_unit.specs.Plain.{PlainUnit}
use Rattle.typed_unit.specs.Typed.{global_of, global_declared, globals_in, function_of, functions_in}
use Rattle.typed_unit.specs.TypedExpressions.{length_of}
use Rattle.scope_law.proofs.Meant.{IsThere, IsSigned, IsFound, IsAbroad}

-- what holds of all of a list
pub all_append : {A : Type 0} (P : A → Type 0) (xs ys : List A) → AllByRecursion P xs → AllByRecursion P ys → AllByRecursion P (xs ++ ys)
all_append P [] ys p q = q
all_append P (x ∷ xs) ys p q = (p.0, all_append P xs ys p.1 q)

pub all_weaker : {A : Type 0} (P Q : A → Type 0) → ((x : A) → P x → Q x) → (xs : List A) → AllByRecursion P xs → AllByRecursion Q xs
all_weaker P Q f [] p = tt
all_weaker P Q f (x ∷ xs) p = (f x p.0, all_weaker P Q f xs p.1)

pub all_mapped : {A B : Type 0} (P : A → Type 0) (Q : B → Type 0) (g : A → B) → ((x : A) → P x → Q (g x)) → (xs : List A) → AllByRecursion P xs → AllByRecursion Q (map g xs)
all_mapped P Q g f [] p = tt
all_mapped P Q g f (x ∷ xs) p = (f x p.0, all_mapped P Q g f xs p.1)

pub all_at : {A : Type 0} (P : A → Type 0) (xs : List A) (n : ℕ) (x : A) → AllByRecursion P xs → slice_get xs n ≡ Some x → P x
all_at P [] n x p e = absurd (cc)
all_at P (y ∷ ys) zero x p e = let same : y ≡ x = cc in subst P same p.0
all_at P (y ∷ ys) (suc n) x p e = all_at P ys n x p.1 e

-- it holds of one, if there is one
abbrev IfThere : {A : Type 0} → (A → Type 0) → Option A → Type 0
IfThere P None = Unit {0}
IfThere P (Some x) = P x

all_there : {A : Type 0} (P : A → Type 0) (xs : List A) (n : ℕ) → AllByRecursion P xs → IfThere P (slice_get xs n)
all_there P [] n p = tt
all_there P (x ∷ xs) zero p = p.0
all_there P (x ∷ xs) (suc n) p = all_there P xs n p.1

there_front : {A : Type 0} (P : A → Type 0) (xs ys : List A) (n : ℕ) → IsThere P (slice_get xs n) → IsThere P (slice_get (xs ++ ys) n)
there_front P [] ys n h = absurd h
there_front P (x ∷ xs) ys zero h = h
there_front P (x ∷ xs) ys (suc n) h = there_front P xs ys n h

there_last : {A : Type 0} (P : A → Type 0) (xs : List A) (x : A) → P x → IsThere P (slice_get (xs ++ x ∷ []) (length xs))
there_last P [] x h = h
there_last P (y ∷ ys) x h = there_last P ys x h

-- the variables that are declared, in order
abbrev pub declarations_in : External → List Declaration
declarations_in (e.Variables ds) = ds
declarations_in _ = []

-- the functions that are defined, in order
abbrev pub functions_written : External → List Function
functions_written (e.Function f) = f ∷ []
functions_written _ = []

-- the head of a function
abbrev pub signature_of : Function → Signature
signature_of f = f.signature

-- what is known are all variables and functions of the text, in order
folded_variables : (ds : List Declaration) (k : Known) → (fold with_variable k ds).variables ≡ k.variables ++ ds
folded_variables [] k = sym (append-nil k.variables)
folded_variables (d ∷ ds) k = folded_variables ds (with_variable k d) ∙ append_assoc k.variables (d ∷ []) ds

folded_functions : (ds : List Declaration) (k : Known) → (fold with_variable k ds).functions ≡ k.functions
folded_functions [] k = refl
folded_functions (d ∷ ds) k = folded_functions ds (with_variable k d)

external_variables : (x : External) (k : Known) → (with_external k x).variables ≡ k.variables ++ declarations_in x
external_variables (e.Variables ds) k = folded_variables ds k
external_variables (e.Function f) k = sym (append-nil k.variables)
external_variables _ k = sym (append-nil k.variables)

external_functions : (x : External) (k : Known) → (with_external k x).functions ≡ k.functions ++ map signature_of (functions_written x)
external_functions (e.Variables ds) k = folded_functions ds k ∙ sym (append-nil k.functions)
external_functions (e.Function f) k = refl
external_functions _ k = sym (append-nil k.functions)

pub all_variables : (xs : List External) (k : Known) → (fold with_external k xs).variables ≡ k.variables ++ flat_map declarations_in xs
all_variables [] k = sym (append-nil k.variables)
all_variables (x ∷ xs) k =
    all_variables xs (with_external k x)
    ∙ (ap (λ vs. vs ++ flat_map declarations_in xs) (external_variables x k) ∙ append_assoc k.variables (declarations_in x) (flat_map declarations_in xs))

pub all_functions : (xs : List External) (k : Known) → (fold with_external k xs).functions ≡ k.functions ++ map signature_of (flat_map functions_written xs)
all_functions [] k = sym (append-nil k.functions)
all_functions (x ∷ xs) k =
    all_functions xs (with_external k x)
    ∙ (ap (λ fs. fs ++ map signature_of (flat_map functions_written xs)) (external_functions x k)
    ∙ (append_assoc k.functions (map signature_of (functions_written x)) (map signature_of (flat_map functions_written xs))
    ∙ ap (λ fs. k.functions ++ fs) (sym (map-append signature_of (functions_written x) (flat_map functions_written xs)))))

-- and so are those of the typed unit
one_globals : (x : External) → globals_in x ≡ map global_declared (declarations_in x)
one_globals (e.Variables ds) = refl
one_globals _ = refl

pub globals_typed : (xs : List External) → flat_map globals_in xs ≡ map global_declared (flat_map declarations_in xs)
globals_typed [] = refl
globals_typed (x ∷ xs) =
    ap (λ gs. gs ++ flat_map globals_in xs) (one_globals x)
    ∙ (ap (λ gs. map global_declared (declarations_in x) ++ gs) (globals_typed xs)
    ∙ sym (map-append global_declared (declarations_in x) (flat_map declarations_in xs)))

one_functions : (known : Known) (x : External) → functions_in known x ≡ map (function_of known) (functions_written x)
one_functions known (e.Function f) = refl
one_functions known _ = refl

pub functions_typed : (known : Known) (xs : List External) → flat_map (functions_in known) xs ≡ map (function_of known) (flat_map functions_written xs)
functions_typed known [] = refl
functions_typed known (x ∷ xs) =
    ap (λ fs. fs ++ flat_map (functions_in known) xs) (one_functions known x)
    ∙ (ap (λ fs. map (function_of known) (functions_written x) ++ fs) (functions_typed known xs)
    ∙ sym (map-append (function_of known) (functions_written x) (flat_map functions_written xs)))

-- a variable of this meaning is declared so
abbrev pub IsDeclaredSo : VariableMeaning → Declaration → Type 0
IsDeclaredSo x d = x.len ≡ written_length d.variable

-- a function of this meaning is defined so
pub record IsDefinedSo (f : FunctionMeaning) (s : Signature) : Type 0 where
  pub result : f.result ≡ s.result
  pub parameters : f.parameters ≡ length s.parameters

-- what is meant is the variable or function with its number
abbrev pub IsNumbered : List Declaration → List Signature → Meaning → Type 0
IsNumbered vs fs (m.Local l) = ⊥
IsNumbered vs fs (m.Variable x) = IsThere (IsDeclaredSo x) (slice_get vs x.number)
IsNumbered vs fs (m.Function f) = IsThere (IsDefinedSo f) (slice_get fs f.number)
IsNumbered vs fs _ = Unit {0}

-- more variables and functions behind change no number
more_variables : (vs ds : List Declaration) (fs : List Signature) (meaning : Meaning) → IsNumbered vs fs meaning → IsNumbered (vs ++ ds) fs meaning
more_variables vs ds fs (m.Local l) h = absurd h
more_variables vs ds fs (m.Variable x) h = there_front (IsDeclaredSo x) vs ds x.number h
more_variables vs ds fs (m.Function f) h = h
more_variables vs ds fs _ h = tt

more_functions : (vs : List Declaration) (fs gs : List Signature) (meaning : Meaning) → IsNumbered vs fs meaning → IsNumbered vs (fs ++ gs) meaning
more_functions vs fs gs (m.Local l) h = absurd h
more_functions vs fs gs (m.Variable x) h = h
more_functions vs fs gs (m.Function f) h = there_front (IsDefinedSo f) fs gs f.number h
more_functions vs fs gs _ h = tt

-- each name means what has its number
abbrev pub AreNumbered : List Declaration → List Signature → Files → Type 0
AreNumbered vs fs files = AllByRecursion (λ x. IsNumbered vs fs x.1) files

-- one more name
named_numbered : (vs : List Declaration) (fs : List Signature) (b : Bool) (files : Files) (name : List ℕ) (meaning : Meaning) → AreNumbered vs fs files → IsNumbered vs fs meaning → AreNumbered vs fs (if b then files else files ++ (name, meaning) ∷ [])
named_numbered vs fs true files name meaning h n = h
named_numbered vs fs false files name meaning h n = all_append (λ (x : List ℕ × Meaning). IsNumbered vs fs x.1) files ((name, meaning) ∷ []) h (n, tt)

-- every name of file level has the number of what it means
abbrev pub IsOrderly : Known → Type 0
IsOrderly k = AreNumbered k.variables k.functions k.files

variable_orderly : (k : Known) (d : Declaration) → IsOrderly k → IsOrderly (with_variable k d)
variable_orderly k d h =
    let vs = k.variables ++ d ∷ [] in
    let name = (variable_name d.variable).text in
    let one = variable_meaning (length k.variables) d in
    let x : VariableMeaning = record { number = length k.variables; type_name = d.type_name; constant = d.constant; len = written_length d.variable } in
    named_numbered vs k.functions (is_some (file_named k.files name)) k.files name one
    (all_weaker (λ (f : List ℕ × Meaning). IsNumbered k.variables k.functions f.1) (λ (f : List ℕ × Meaning). IsNumbered vs k.functions f.1) (λ f n. more_variables k.variables (d ∷ []) k.functions f.1 n) k.files h)
    (there_last (IsDeclaredSo x) k.variables d refl)

function_orderly : (k : Known) (s : Signature) → IsOrderly k → IsOrderly (with_function k s)
function_orderly k s h =
    let fs = k.functions ++ s ∷ [] in
    let one = function_meaning (length k.functions) s in
    let x : FunctionMeaning = record { number = length k.functions; result = s.result; parameters = length s.parameters } in
    named_numbered k.variables fs (is_some (file_named k.files s.name.text)) k.files s.name.text one
    (all_weaker (λ (f : List ℕ × Meaning). IsNumbered k.variables k.functions f.1) (λ (f : List ℕ × Meaning). IsNumbered k.variables fs f.1) (λ f n. more_functions k.variables k.functions (s ∷ []) f.1 n) k.files h)
    (there_last (IsDefinedSo x) k.functions s (record { result = refl; parameters = refl }))

variables_orderly : (ds : List Declaration) (k : Known) → IsOrderly k → IsOrderly (fold with_variable k ds)
variables_orderly [] k h = h
variables_orderly (d ∷ ds) k h = variables_orderly ds (with_variable k d) (variable_orderly k d h)

external_orderly : (x : External) (k : Known) → IsOrderly k → IsOrderly (with_external k x)
external_orderly (e.Variables ds) k h = variables_orderly ds k h
external_orderly (e.Function f) k h = function_orderly k f.signature h
external_orderly _ k h = h

pub all_orderly : (xs : List External) (k : Known) → IsOrderly k → IsOrderly (fold with_external k xs)
all_orderly [] k h = h
all_orderly (x ∷ xs) k h = all_orderly xs (with_external k x) (external_orderly x k h)

-- a function has no more parameters than the rules allow
ninth_none : (o : Option Parameter) → ninth_faults o ≡ [] → o ≡ None
ninth_none None h = refl
ninth_none (Some q) h = absurd (cc)

short : {A : Type 0} (n : ℕ) (xs : List A) → slice_get xs n ≡ None → length xs ≤ n
short n [] h = omega arith
short zero (x ∷ xs) h = absurd (cc)
short (suc n) (x ∷ xs) h = let r = short n xs h in omega arith

pub eight : (ps : List Parameter) → ninth_faults (slice_get ps 8) ≡ [] → length ps ≤ 8
eight ps h = short 8 ps (ninth_none (slice_get ps 8) h)

-- a function has at most eight parameters
abbrev pub HasFew : Function → Type 0
HasFew f = length f.signature.parameters ≤ 8

-- variables and functions as the typed unit has them
global_length : (t : CType) (x : Variable) → (global_of t x).len ≡ option_map length_of (written_length x)
global_length t (v.Scalar name start) = refl
global_length t (v.Array name len constants) = refl

variable_found : (x : VariableMeaning) (o : Option Declaration) → IsThere (IsDeclaredSo x) o → IsThere (IsFound x.len) (option_map global_declared o)
variable_found x None h = absurd h
variable_found x (Some d) h = global_length (ctype_named d.type_name) d.variable ∙ ap (option_map length_of) (sym h)

function_signed : (known : Known) (f : FunctionMeaning) (o : Option Function) → IfThere HasFew o → IsThere (IsDefinedSo f) (option_map signature_of o) → IsThere (IsSigned f) (option_map (function_of known) o)
unfolding function_of
function_signed known f None p h = absurd h
function_signed known f (Some g) p h = record {
  result = ap (option_map ctype_named) (sym h.result);
  params = let few : length g.signature.parameters ≤ 8 = p in let q = h.parameters in omega arith;
}

-- what a name of file level means is there
module _ (u : PlainUnit) (known : Known) (ds : List Declaration) (fs : List Function) (variables : known.variables ≡ ds) (functions : known.functions ≡ map signature_of fs) (globals : u.globals ≡ map global_declared ds) (bodies : u.functions ≡ map (function_of known) fs) (few : AllByRecursion HasFew fs) where
  variable_abroad : (x : VariableMeaning) → IsThere (IsDeclaredSo x) (slice_get known.variables x.number) → IsThere (IsFound x.len) (slice_get u.globals x.number)
  variable_abroad x h =
      let there = subst (λ vs. IsThere (IsDeclaredSo x) (slice_get vs x.number)) variables h in
      let found = variable_found x (slice_get ds x.number) there in
      subst (IsThere (IsFound x.len)) (sym (slice_get-map global_declared ds x.number) ∙ ap (λ gs. slice_get gs x.number) (sym globals)) found

  function_abroad : (f : FunctionMeaning) → IsThere (IsDefinedSo f) (slice_get known.functions f.number) → IsThere (IsSigned f) (slice_get u.functions f.number)
  function_abroad f h =
      let there = subst (IsThere (IsDefinedSo f)) (ap (λ xs. slice_get xs f.number) functions ∙ slice_get-map signature_of fs f.number) h in
      let signed = function_signed known f (slice_get fs f.number) (all_there HasFew fs f.number few) there in
      subst (IsThere (IsSigned f)) (sym (slice_get-map (function_of known) fs f.number) ∙ ap (λ xs. slice_get xs f.number) (sym bodies)) signed

  meaning_abroad : (meaning : Meaning) → IsNumbered known.variables known.functions meaning → IsAbroad u meaning
  meaning_abroad (m.Local l) h = absurd h
  meaning_abroad (m.Variable x) h = variable_abroad x h
  meaning_abroad (m.Function f) h = function_abroad f h
  meaning_abroad _ h = tt

  -- what is meant, if something is, is no local, and it is there
  abbrev IfAbroad : Option Meaning → Type 0
  IfAbroad None = Unit {0}
  IfAbroad (Some x) = IsAbroad u x

  either_abroad : (a b : Option Meaning) → IfAbroad a → IfAbroad b → IfAbroad (or_else a b)
  either_abroad None b p q = q
  either_abroad (Some x) b p q = p

  at_last : (a : Option Meaning) → IfAbroad a → IsAbroad u (or_nothing a)
  at_last None p = tt
  at_last (Some x) p = p

  tasks_abroad : (o : Option ℕ) → IfAbroad (option_map m.Task o)
  tasks_abroad None = tt
  tasks_abroad (Some n) = tt

  routines_abroad : (o : Option ℕ) → IfAbroad (option_map m.Routine o)
  routines_abroad None = tt
  routines_abroad (Some n) = tt

  resources_abroad : (o : Option ℕ) → IfAbroad (option_map m.Resource o)
  resources_abroad None = tt
  resources_abroad (Some n) = tt

  services_abroad : (o : Option ServiceName) → IfAbroad (option_map m.Service o)
  services_abroad None = tt
  services_abroad (Some s) = tt

  input_abroad : (b : Bool) → IfAbroad (if b then Some m.Input else None)
  input_abroad true = tt
  input_abroad false = tt

  left_out_abroad : (b : Bool) → IfAbroad (if b then Some m.LeftOut else None)
  left_out_abroad true = tt
  left_out_abroad false = tt

  file_one : (b : Bool) (x : Meaning) (o : Option Meaning) → IsAbroad u x → IfAbroad o → IfAbroad (if b then Some x else o)
  file_one true x o p q = p
  file_one false x o p q = q

  file_abroad : (files : Files) (name : List ℕ) → AreNumbered known.variables known.functions files → IfAbroad (file_named files name)
  file_abroad [] name h = tt
  file_abroad (f ∷ files) name h = file_one (bytes_eq name f.0) f.1 (file_named files name) (meaning_abroad f.1 h.0) (file_abroad files name h.1)

  -- what a name means outside of every body
  pub names_abroad : IsOrderly known → (name : List ℕ) → IsAbroad u (known_meaning known name)
  unfolding known_meaning
  names_abroad h name =
      let app = known.app in
      let task : Option Meaning = option_map m.Task (task_named app name) in
      let routine : Option Meaning = option_map m.Routine (routine_named app name) in
      let resource : Option Meaning = option_map m.Resource (resource_named app name) in
      let object = either_abroad task (or_else routine resource) (tasks_abroad (task_named app name)) (either_abroad routine resource (routines_abroad (routine_named app name)) (resources_abroad (resource_named app name))) in
      let service : Option Meaning = option_map m.Service (service_named name) in
      let input : Option Meaning = if is_input_name name then Some m.Input else None in
      let system = either_abroad service input (services_abroad (service_named name)) (input_abroad (is_input_name name)) in
      let one = object_named app name in
      let two = system_named name in
      let three = file_named known.files name in
      let four = left_out_named name in
      at_last (or_else one (or_else two (or_else three four)))
      (either_abroad one (or_else two (or_else three four)) object
      (either_abroad two (or_else three four) system
      (either_abroad three four (file_abroad known.files name h) (left_out_abroad (is_left_out name)))))
