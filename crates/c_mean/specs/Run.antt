-- Calls of functions, and whole programs (ISO/IEC 9899:2011, 5.1.2.2.3, 6.5.2.2, 6.9.1).
use Rattle.std.specs.Prelude.{ℕ, zero, suc, ◌+◌, ◌-◌, ◌%◌, ◌==◌, ◌&&◌, nat_le, nat_lt, Bool, true, false, if◌then◌else◌, List, [], ◌∷◌, ◌++◌, map, drop, length, slice_get, slice_index_or, Option, None, Some, option_and_then}
use Rattle.std.specs.List.{filter}
use Rattle.val_core.specs.declared.leaf.Leaf.{Leaf}
use Rattle.val_core.specs.declared.values.Value.{Value}
use Rattle.val_core.specs.declared.values.Value.TheVariants.{Num, Bad}
use Rattle.val_core.specs.Memory.{Cell, Block, Memory, BlockShape, store, closed}
use Rattle.val_core.specs.Objects.{Addresses, word_of, address_in, opened}
use Rattle.val_core.specs.Events.{Event, wrote, took, met, output, deepest}
use Rattle.val_core.specs.Answers.{Answer, Returned, Cut, Exited, Undefined, then_on, on_number, on_defined, active, events}
use Rattle.val_core.specs.Within.{Given}
use Rattle.c_type.specs.Layout.{Definitions, size, leaves}
use Rattle.c_typed.specs.Typed.{VariableTree, FunctionTree, WrittenTree, word_at, link_at, characters_at, GlobalTree, ProgramTree}
use Rattle.c_typed.specs.WellTyped.{params_of}
use Rattle.c_mean.specs.State.{Slot, holds, object}
use Rattle.c_typed.specs.Objects.{access_width}
use Rattle.c_mean.specs.Expressions.{Call}
use Rattle.c_mean.specs.Statements.{Flow, returned, Flowed, items_run}

-- ---- functions

abbrev pub shape_of : Definitions → VariableTree → BlockShape
shape_of defs v = record { size = size defs v.type; leaves = leaves defs v.type }

-- the objects of a function, in order of declaration
abbrev pub objects_of : Definitions → List VariableTree → List BlockShape
objects_of defs vs = map (shape_of defs) (filter (λ (v : VariableTree). v.is_object) vs)

-- the slots of the parameters: values, and objects by their numbers from `number` on
abbrev pub params_in_scope : (number : ℕ) → List VariableTree → List Value → List Slot
params_in_scope k [] vs = []
params_in_scope k (p ∷ ps) vs = if p.is_object then object k ∷ params_in_scope (suc k) ps (drop 1 vs) else holds (slice_index_or vs 0 Bad) ∷ params_in_scope k ps (drop 1 vs)

-- the arguments of parameters that are objects, stored as the call begins
abbrev pub params_stored : (address : ℕ → Value) → (number : ℕ) → List VariableTree → List Value → Memory → Option Memory
params_stored address k [] vs m = Some m
params_stored address k (p ∷ ps) vs m =
    if p.is_object
    then option_and_then (params_stored address (suc k) ps (drop 1 vs)) (store (access_width p.type) (address k) (slice_index_or vs 0 Bad) m)
    else params_stored address k ps (drop 1 vs) m

-- The value of a function: `main` gives 0 at its end, and others give none (5.1.2.2.3, 6.9.1p12).
abbrev pub value_at_end : (is_main : Bool) → Flow → Option Value
value_at_end is_main (returned v) = v
value_at_end true f = Some (Num 0)
value_at_end false f = None

-- what a function gives, once its body has ended: the lifetimes of its objects end
abbrev pub ended : (is_main : Bool) → (first count : ℕ) → Flowed → Answer (Given (Option Value))
ended is_main first count x =
    Returned (record { value = value_at_end is_main x.flow; memory = closed first count x.state.memory; input = x.state.input }) []

-- The body of a function, within which a loop takes at most `turns` turns and calls do what `calls` says. Its objects get
-- blocks after those of the memory.
abbrev pub body_run : ProgramTree → (turns : ℕ) → (calls : ℕ → Call) → (global : ℕ → Value) → (is_main : Bool) → FunctionTree → Call
body_run p n calls global is_main f vs m i =
    let objects : List BlockShape = objects_of p.structs f.variables in
    let addresses : Addresses = record { local = address_in (length m) (map (λ o. o.size) objects); global = global } in
    on_defined (params_stored addresses.local 0 (params_of f) vs (m ++ opened objects)) (λ k.
    then_on
    (items_run (record { bound = n; calls = calls; addresses = addresses }) f.variables f.body
    (record { slots = params_in_scope 0 (params_of f) vs; memory = k; input = i }))
    (ended is_main (length m) (length objects)))

abbrev pub function_run : ProgramTree → (turns : ℕ) → (calls : ℕ → Call) → (global : ℕ → Value) → (is_main : Bool) → Option FunctionTree → Call
function_run p n calls global is_main None vs m i = Undefined []
function_run p n calls global is_main (Some f) vs m i = body_run p n calls global is_main f vs m i

-- Calls nest at most so deep, while the bound of loops stays.
abbrev pub nested : ProgramTree → (global : ℕ → Value) → (turns depth : ℕ) → ℕ → Call
nested p global n zero f vs m i = Cut []
nested p global n (suc k) f vs m i = active f (function_run p n (nested p global n k) global (f == p.main) (slice_get p.functions f) vs m i)

-- a call of a function at a bound, itself not counted
abbrev pub call_run : ProgramTree → (global : ℕ → Value) → (bound : ℕ) → ℕ → Call
call_run p global n f vs m i = nested p global n (suc n) f vs m i

-- ---- globals

abbrev pub global_sizes : ProgramTree → List ℕ
global_sizes p = map (λ (g : GlobalTree). size p.structs g.type) p.globals

-- the address of each global: their blocks are the first of the memory
abbrev pub global_address : ProgramTree → ℕ → Value
global_address p k = address_in 0 (global_sizes p) k

-- what is written at a leaf, or 0
abbrev pub leaf_value : (global : ℕ → Value) → (offset : ℕ) → List WrittenTree → Value
leaf_value global o [] = Num 0
leaf_value global o (word_at offset width w ∷ ws) = if offset == o then Num w else leaf_value global o ws
leaf_value global o (link_at offset k ∷ ws) = if offset == o then global k else leaf_value global o ws
leaf_value global o (characters_at offset cs ∷ ws) =
    if nat_le offset o && nat_lt o (offset + length cs) then Num (slice_index_or cs (o - offset) 0) else leaf_value global o ws

abbrev pub first_cell : (global : ℕ → Value) → List WrittenTree → Leaf → Cell
first_cell global ws l = record { leaf = l; value = Some (leaf_value global l.offset ws) }

abbrev pub first_block : Definitions → (global : ℕ → Value) → GlobalTree → Block
first_block defs global g =
    record { size = word_of (size defs g.type); cells = map (first_cell global g.written) (leaves defs g.type); live = true; fixed = g.fixed }

-- the memory as the program begins
abbrev pub first_memory : ProgramTree → Memory
first_memory p = map (first_block p.structs (global_address p)) p.globals

-- ---- programs

-- The program ends with what `main` gives, modulo 256.
abbrev pub finished : Given (Option Value) → Answer (Given (Option Value))
finished g = on_defined g.value (λ v. on_number v (λ w. Exited [] (w % 256)))

-- the program at a bound, on this input
abbrev pub run : (bound : ℕ) → ProgramTree → (input : List ℕ) → Answer (Given (Option Value))
run n p i = then_on (call_run p (global_address p) n p.main [] (first_memory p) i) finished

-- the greatest sum of frame sizes, by function, over the stacks of active calls that the run meets
abbrev pub deepest_run : (bound : ℕ) → ProgramTree → (sizes : List ℕ) → (input : List ℕ) → ℕ
deepest_run n p sizes i = deepest (λ f. slice_index_or sizes f 0) (events (run n p i))

-- ---- what was heard of a run

pub data Ending : Type 0 where
  exit : (status : ℕ) → Ending
  cut : Ending
  undefined : Ending

pub record Heard : Type 0 where
  pub output : List ℕ
  pub rest : List ℕ
  pub ending : Ending

-- how many bytes were taken
abbrev pub taken : List Event → ℕ
taken [] = 0
taken (took b ∷ es) = suc (taken es)
taken (wrote b ∷ es) = taken es
taken (met s ∷ es) = taken es

abbrev pub heard_as : {A : Type 0} → (input : List ℕ) → Answer A → Heard
heard_as i (Returned x o) = record { output = output o; rest = drop (taken o) i; ending = undefined }
heard_as i (Cut o) = record { output = output o; rest = drop (taken o) i; ending = cut }
heard_as i (Exited o status) = record { output = output o; rest = drop (taken o) i; ending = exit status }
heard_as i (Undefined o) = record { output = output o; rest = drop (taken o) i; ending = undefined }

-- the output and the rest of the input are kept at every ending, the undefined one too
abbrev pub heard : (bound : ℕ) → ProgramTree → (input : List ℕ) → Heard
heard n p i = heard_as i (run n p i)
