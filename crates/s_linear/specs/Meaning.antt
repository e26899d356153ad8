-- What linear code does within a bound, in the answers and events of the graph's meaning: names hold values, and memory and
-- input go along. A loop's turn is counted at its label, afresh at each entrance, and a call runs at the bound below.
use Rattle.std.specs.Prelude.{ℕ, zero, suc, ◌-◌, ◌%◌, ◌^◌, ◌==◌, Bool, false, if◌then◌else◌, List, [], ◌∷◌, ◌++◌, map, length, slice_get, slice_index_or, Option, None, Some}
use Rattle.val_core.specs.declared.values.Value.{Value}
use Rattle.val_core.specs.declared.values.Value.TheVariants.{Num, Bad}
use Rattle.val_core.specs.Values.{value1, value2}
use Rattle.val_core.specs.Memory.{Memory, pointers_equal, closed, cleared_at}
use Rattle.val_core.specs.Memory as mem
use Rattle.val_core.specs.Objects.{Addresses, address_in, opened}
use Rattle.val_core.specs.Events.{wrote, took}
use Rattle.val_core.specs.Answers.{Answer, Returned, Cut, Exited, Undefined, then_on, on_number, on_defined, active}
use Rattle.val_core.specs.Within.{Given}
use Rattle.g_graph.specs.Plain.{shapes_of}
use Rattle.s_linear.specs.Linear.{Instr, const, undef, object_address, global_address, binary, unary, load, store, clear, equal_pointers, move, call, put, get, exit, Step, plain, choice, loop, Code, no_steps, step_then, Codes, no_codes, code_then, LinearFunction}

-- what the names hold, the memory, and what is left of the input
pub record State : Type 0 where
  pub names : ℕ → Value
  pub memory : Memory
  pub input : List ℕ

-- from a state to the state after a code
abbrev pub Run : Type 0
Run = State → Answer State

-- from arguments, memory and input to what a function gives
abbrev pub Call : Type 0
Call = List Value → Memory → List ℕ → Answer (Given Value)

-- what a code takes from outside: how many turns a loop may take, what calls do, which names they lose, and the addresses of
-- objects and globals
pub record Context : Type 0 where
  pub bound : ℕ
  pub call : ℕ → Call
  pub lost : ℕ → Bool
  pub addresses : Addresses

abbrev pub no_names : ℕ → Value
no_names x = Bad

abbrev pub written : (ℕ → Value) → (target : ℕ) → Value → (ℕ → Value)
written names t v x = if x == t then v else names x

-- a name holds a value
abbrev pub set : State → (target : ℕ) → Value → State
set s t v = record { names = written s.names t v; memory = s.memory; input = s.input }

abbrev pub gives : State → (target : ℕ) → Value → Answer State
gives s t v = Returned (set s t v) []

abbrev pub gives_memory : State → Memory → Answer State
gives_memory s m = Returned (record { names = s.names; memory = m; input = s.input }) []

-- a byte is taken from the input, or -1 is given at its end
abbrev pub got : State → (target : ℕ) → List ℕ → Answer State
got s t [] = gives s t (Num (2 ^ 32 - 1))
got s t (b ∷ i) = Returned (record { names = written s.names t (Num b); memory = s.memory; input = i }) (took b ∷ [])

-- calls of linear code lose no name
abbrev pub none_lost : ℕ → Bool
none_lost x = false

-- a name that a call loses holds what has no meaning
abbrev pub names_after : (lost : ℕ → Bool) → (ℕ → Value) → (ℕ → Value)
names_after lost names x = if lost x then Bad else names x

-- after a call
abbrev pub back_from : (lost : ℕ → Bool) → State → (target : ℕ) → Given Value → Answer State
back_from lost s t g = Returned (record { names = written (names_after lost s.names) t g.value; memory = g.memory; input = g.input }) []

abbrev pub instr_run : Context → Instr → Run
instr_run c (const t w) s = gives s t (Num (w % 2 ^ 32))
instr_run c (undef t) s = gives s t Bad
instr_run c (object_address t k) s = gives s t (c.addresses.local k)
instr_run c (global_address t k) s = gives s t (c.addresses.global k)
instr_run c (binary o t a b) s = gives s t (value2 o (s.names a) (s.names b))
instr_run c (unary o t a) s = gives s t (value1 o (s.names a))
instr_run c (load width t a) s = on_defined (mem.load width (s.names a) s.memory) (gives s t)
instr_run c (store width a v) s = on_defined (mem.store width (s.names a) (s.names v) s.memory) (gives_memory s)
instr_run c (clear k) s = on_defined (cleared_at (c.addresses.local k) s.memory) (gives_memory s)
instr_run c (equal_pointers t a b) s = on_defined (pointers_equal (s.names a) (s.names b) s.memory) (λ n. gives s t (Num n))
instr_run c (move t a) s = gives s t (s.names a)
instr_run c (call f t xs) s = then_on (c.call f (map s.names xs) s.memory s.input) (back_from c.lost s t)
instr_run c (put a) s = on_number (s.names a) (λ w. Returned s (wrote (w % 256) ∷ []))
instr_run c (get t) s = got s t s.input
instr_run c (exit a) s = on_number (s.names a) (λ w. Exited [] (w % 256))

abbrev pub instrs_run : Context → List Instr → Run
instrs_run c [] s = Returned s []
instrs_run c (i ∷ is) s = then_on (instr_run c i s) (instrs_run c is)

-- of n runs the one numbered min(w, n - 1)
abbrev pub chosen : (w : ℕ) → List Run → Run
chosen w [] s = Undefined []
chosen w (r ∷ []) s = r s
chosen zero (r ∷ rs) s = r s
chosen (suc w) (r ∷ rs) s = chosen w rs s

-- A predicate chooses of two runs or more. One run is done whatever the predicate is.
abbrev pub chosen_by : (predicate : ℕ) → List Run → Run
chosen_by p [] s = Undefined []
chosen_by p (r ∷ []) s = r s
chosen_by p (r ∷ q ∷ rs) s = on_number (s.names p) (λ w. chosen w (r ∷ q ∷ rs) s)

-- at most so many turns of a body, the variables moved back between two of them
abbrev pub turns : ℕ → (body : Run) → (predicate : ℕ) → (back : Run) → Run
turns zero body p back s = Cut []
turns (suc n) body p back s =
    then_on (body s) (λ t. on_number (t.names p) (λ w. if w == 0 then Returned t [] else then_on (back t) (turns n body p back)))

abbrev mutual
  pub step_run : Context → Step → Run
  step_run c (plain i) s = instr_run c i s
  step_run c (choice p cs) s = chosen_by p (codes_runs c cs) s
  step_run c (loop moves body p back) s = then_on (instrs_run c moves s) (turns c.bound (code_run c body) p (instrs_run c back))

  pub code_run : Context → Code → Run
  code_run c no_steps s = Returned s []
  code_run c (step_then x k) s = then_on (step_run c x s) (code_run c k)

  pub codes_runs : Context → Codes → List Run
  codes_runs c no_codes = []
  codes_runs c (code_then k ks) = code_run c k ∷ codes_runs c ks

-- ---- functions

-- the names of a function as it begins: the parameters are the first
abbrev pub first_names : List Value → (ℕ → Value)
first_names vs x = slice_index_or vs x Bad

-- its objects get blocks after those of the memory, whose lifetimes end with the call
abbrev pub entered : ℕ → (callees : ℕ → Call) → (global : ℕ → Value) → Option LinearFunction → Call
entered n callees global None vs m i = Undefined []
entered n callees global (Some f) vs m i =
    then_on
    (code_run
    (record {
      bound = n;
      call = callees;
      lost = none_lost;
      addresses = record { local = address_in (length m) (map (λ o. o.size) f.objects); global = global };
    })
    f.code
    (record { names = first_names vs; memory = m ++ opened (shapes_of f.objects); input = i }))
    (λ s. Returned (record { value = s.names f.value; memory = closed (length m) (length f.objects) s.memory; input = s.input }) [])

-- a call at a bound: at 0 it is cut, and else it runs at the bound below
abbrev pub calls : List LinearFunction → (global : ℕ → Value) → (bound : ℕ) → ℕ → Call
calls fs global zero f vs m i = Cut []
calls fs global (suc n) f vs m i = active f (entered n (calls fs global n) global (slice_get fs f) vs m i)

-- a program ends with what its `main` gives back, modulo 256
abbrev pub finished : Given Value → Answer (Given Value)
finished g = on_number g.value (λ w. Exited [] (w % 256))
