-- Worked runs: functions over linear code, placed, selected and laid out, run on the machine by evaluation, and what they mean.
use Rattle.std.specs.Prelude.{◌≡◌, refl, ℕ, ◌%◌, List, [], ◌∷◌, ◌++◌, map, Option, Some, None, true}
use Rattle.val_core.specs.declared.leaf.Leaf.{Leaf}
use Rattle.val_core.specs.declared.operation.Op1.TheVariants.{Sext8}
use Rattle.val_core.specs.declared.operation.Op2.TheVariants.{Add, Sub, Eq, Slt}
use Rattle.val_core.specs.declared.values.Value.{Value}
use Rattle.val_core.specs.declared.values.Value.TheVariants.{Num, At, Bad}
use Rattle.val_core.specs.Answers.{Answer, Returned, Cut, Exited, Undefined}
use Rattle.val_core.specs.Events.{output}
use Rattle.val_core.specs.Within.{Given}
use Rattle.elf_file.specs.Laws.{executable_for}
use Rattle.g_graph.specs.Plain.{PlainObject, PlainDelta}
use Rattle.rv_isa.specs.Encodings.{decoded}
use Rattle.rv_isa.specs.Registers.{ra, sp, t0, t1}
use Rattle.rv_isa.specs.WordParts.{low_part}
use Rattle.rv_isa.specs.Words.{word_of}
use Rattle.rv_isa.specs.declared.instruction.Instr as isa
use Rattle.rv_isa.specs.declared.instruction.Instr.TheVariants as rv
use Rattle.rv_layout.specs.declared.item.Item.{Item}
use Rattle.rv_layout.specs.Layout.{laid_out}
use Rattle.rv_layout.specs.Sequences.{bytes_of}
use Rattle.rv_machine.specs.Machine as machine
use Rattle.rv_machine.specs.Machine.{stack, act, give, fetched, next_effect}
use Rattle.rv_machine.specs.Memory.{load_bytes, store_bytes, allowed, memory_of, flags_of}
use Rattle.rv_machine.specs.Run.{RunResult, run_state, run, executed, ended}
use Rattle.s_linear.specs.Linear.{Instr, const, undef, object_address, global_address, binary, unary, load, store, clear, equal_pointers, move, call, put, get, exit, Step, plain, choice, loop, Code, no_steps, step_then, no_codes, code_then, LinearFunction}
use Rattle.s_linear.specs.Lines.{lines}
use Rattle.a_place.specs.Places.{places}
use Rattle.a_place.specs.Placed.{placed, placed_calls}
use Rattle.s_select.specs.Operands.{load_immediate, negative}
use Rattle.s_select.specs.Templates.{words, items_of, give_frame}

-- ---- programs

abbrev then_code : List Step → Code
then_code [] = no_steps
then_code (x ∷ xs) = step_then x (then_code xs)

abbrev instrs : List Instr → Code
instrs is = then_code (map plain is)

abbrev function : (number params : ℕ) → List PlainObject → Code → (value : ℕ) → LinearFunction
function number params objects code value = record { number = number; params = params; objects = objects; code = code; value = value }

abbrev items : LinearFunction → List Item
items f = items_of (places (lines f)) f.objects (lines f)

-- so many instructions of a program, whose first function is `main`
abbrev runs : (count : ℕ) → List (List Item) → List PlainDelta → (input : List ℕ) → RunResult
runs count fs ds input = executed count (executable_for (laid_out fs ds 0)) input

abbrev exits : (status : ℕ) → (output : List ℕ) → RunResult
exits status output = record { hart = ended (machine.exit status); output = output; rest = [] }

-- the output and the status of what `main` means over places, within a bound
abbrev of_value : (output : List ℕ) → Value → Option (List ℕ × ℕ)
of_value out (Num w) = Some (out, w % 256)
of_value out (At b o) = None
of_value out Bad = None

abbrev of_answer : Answer (Given Value) → Option (List ℕ × ℕ)
of_answer (Returned g did) = of_value (output did) g.value
of_answer (Exited did status) = Some (output did, status)
of_answer (Cut did) = None
of_answer (Undefined did) = None

abbrev means : (bound : ℕ) → List LinearFunction → (input : List ℕ) → Option (List ℕ × ℕ)
means bound fs input = of_answer (placed_calls (map placed fs) (λ k. Bad) bound 0 [] [] input)

-- ---- values: constants of one and of two instructions, operations, a move and what is undefined

abbrev values : LinearFunction
values =
    function 0 0 []
    (instrs (const 0 5000 ∷ const 1 4745 ∷ binary Sub 2 0 1 ∷ unary Sext8 3 2 ∷ undef 4 ∷ binary Eq 5 3 2 ∷ const 6 201 ∷ binary Add 7 5 6 ∷ move 8 7 ∷ binary Slt 9 3 6
    ∷ binary Add 10 8 9 ∷ [])) 10

values-run : runs 60 (items values ∷ []) [] [] ≡ exits 202 []
unfolding executable_for bytes_of word_of executed run run_state next_effect fetched act give machine.jump machine.call decoded load_bytes store_bytes
    allowed memory_of flags_of
values-run = refl

values-mean : means 1 (values ∷ []) [] ≡ Some ([], 202)
values-mean = refl

-- ---- memory: an object that is cleared, stored to and loaded from, addresses compared, and a global

abbrev word : (at : ℕ) → Leaf
word at = record { offset = at; width = 4 }

abbrev pair : PlainObject
pair = record { size = 8; leaves = word 0 ∷ word 4 ∷ [] }

abbrev memory : LinearFunction
memory =
    function 0 0 (pair ∷ pair ∷ [])
    (instrs
    (clear 0 ∷ object_address 0 0 ∷ const 1 4 ∷ binary Add 2 0 1 ∷ const 3 77 ∷ store 4 2 3 ∷ load 4 4 2 ∷ load 4 5 0 ∷ object_address 6 1 ∷ equal_pointers 7 0 6
    ∷ equal_pointers 8 2 2 ∷ binary Add 9 4 5
    ∷ binary Add 10 7 8 ∷ binary Add 11 9 10 ∷ [])) 11

memory-runs : runs 100 (items memory ∷ []) [] [] ≡ exits 78 []
unfolding executable_for bytes_of word_of executed run run_state next_effect fetched act give machine.jump machine.call decoded load_bytes store_bytes
    allowed memory_of flags_of
memory-runs = refl

memory-means : means 1 (memory ∷ []) [] ≡ Some ([], 78)
memory-means = refl

abbrev table : PlainDelta
table = record { bytes = 1 ∷ 0 ∷ 0 ∷ 0 ∷ 33 ∷ 0 ∷ 0 ∷ 0 ∷ []; links = []; leaves = word 0 ∷ word 4 ∷ []; fixed = true }

abbrev global : LinearFunction
global = function 0 0 [] (instrs (global_address 0 0 ∷ const 1 4 ∷ binary Add 2 0 1 ∷ load 4 3 2 ∷ [])) 3

global-runs : runs 60 (items global ∷ []) (table ∷ []) [] ≡ exits 33 []
unfolding executable_for bytes_of word_of executed run run_state next_effect fetched act give machine.jump machine.call decoded load_bytes store_bytes
    allowed memory_of flags_of
global-runs = refl

-- ---- input and output

-- a byte is read and written, and the end of the input is -1
abbrev streams : LinearFunction
streams = function 0 0 [] (instrs (get 0 ∷ put 0 ∷ get 1 ∷ binary Add 2 0 1 ∷ [])) 2

streams-run : runs 100 (items streams ∷ []) [] (65 ∷ []) ≡ exits 64 (65 ∷ [])
unfolding executable_for bytes_of word_of executed run run_state next_effect fetched act give machine.jump machine.call decoded load_bytes store_bytes
    allowed memory_of flags_of
streams-run = refl

streams-mean : means 1 (streams ∷ []) (65 ∷ []) ≡ Some (65 ∷ [], 64)
streams-mean = refl

-- ---- calls, choices, loops and an exit

-- the sum of the numbers below its argument, by a loop
abbrev summing : LinearFunction
summing =
    function 1 1 []
    (then_code
    (plain (const 1 0)
    ∷ loop (move 2 0 ∷ move 3 1 ∷ []) (instrs (const 4 1 ∷ binary Sub 5 2 4 ∷ binary Add 6 3 5 ∷ [])) 5 (move 2 5 ∷ move 3 6 ∷ []) ∷ [])) 6

abbrev calling : LinearFunction
calling = function 0 0 [] (instrs (const 0 5 ∷ call 1 1 (0 ∷ []) ∷ [])) 1

calling-runs : runs 200 (items calling ∷ items summing ∷ []) [] [] ≡ exits 10 []
unfolding executable_for bytes_of word_of executed run run_state next_effect fetched act give machine.jump machine.call decoded load_bytes store_bytes
    allowed memory_of flags_of
calling-runs = refl

calling-means : means 7 (calling ∷ summing ∷ []) [] ≡ Some ([], 10)
calling-means = refl

-- of three codes the one of a byte's number, and an exit in the last
abbrev choosing : LinearFunction
choosing =
    function 0 0 []
    (then_code
    (plain (get 0)
    ∷ choice 0 (code_then (instrs (const 1 11 ∷ [])) (code_then (instrs (const 1 22 ∷ [])) (code_then (instrs (const 2 33 ∷ exit 2 ∷ const 1 0 ∷ [])) no_codes))) ∷ [])) 1

chooses-second : runs 100 (items choosing ∷ []) [] (1 ∷ []) ≡ exits 22 []
unfolding executable_for bytes_of word_of executed run run_state next_effect fetched act give machine.jump machine.call decoded load_bytes store_bytes
    allowed memory_of flags_of
chooses-second = refl

chooses-last : runs 100 (items choosing ∷ []) [] (9 ∷ []) ≡ exits 33 []
unfolding executable_for bytes_of word_of executed run run_state next_effect fetched act give machine.jump machine.call decoded load_bytes store_bytes
    allowed memory_of flags_of
chooses-last = refl

choosing-means : means 1 (choosing ∷ []) (9 ∷ []) ≡ Some ([], 33)
choosing-means = refl

-- ---- thirteen values that are alive at once, and with their first sum fourteen: three of the places are words of the frame

abbrev thirteen : LinearFunction
thirteen =
    function 0 0 []
    (instrs
    (const 0 1 ∷ const 1 2 ∷ const 2 3 ∷ const 3 4 ∷ const 4 5 ∷ const 5 6 ∷ const 6 7 ∷ const 7 8 ∷ const 8 9 ∷ const 9 10 ∷ const 10 11 ∷ const 11 12 ∷ const 12 13
    ∷ binary Add 13 0 1 ∷ binary Add 14 13 2
    ∷ binary Add 15 14 3 ∷ binary Add 16 15 4 ∷ binary Add 17 16 5 ∷ binary Add 18 17 6 ∷ binary Add 19 18 7 ∷ binary Add 20 19 8 ∷ binary Add 21 20 9
    ∷ binary Add 22 21 10 ∷ binary Add 23 22 11 ∷ binary Add 24 23 12
    ∷ [])) 24

thirteen-places : (places (lines thirteen)).count ≡ 14
thirteen-places = refl

thirteen-run : runs 120 (items thirteen ∷ []) [] [] ≡ exits 91 []
unfolding executable_for bytes_of word_of executed run run_state next_effect fetched act give machine.jump machine.call decoded load_bytes store_bytes
    allowed memory_of flags_of
thirteen-run = refl

thirteen-mean : means 1 (thirteen ∷ []) [] ≡ Some ([], 91)
thirteen-mean = refl

-- ---- a frame that does not fit

abbrev large : PlainObject
large = record { size = 9_000_000; leaves = word 0 ∷ [] }

abbrev exceeding : LinearFunction
exceeding = function 0 0 (large ∷ []) (instrs (const 0 3 ∷ [])) 0

exceeding-ends : runs 40 (items exceeding ∷ []) [] [] ≡ record { hart = ended stack; output = []; rest = [] }
unfolding executable_for bytes_of word_of executed run run_state next_effect fetched act give machine.jump machine.call decoded load_bytes store_bytes
    allowed memory_of flags_of
exceeding-ends = refl

-- Without its test the frame is taken, and the function returns.
abbrev untested : List Item
untested =
    words
    (load_immediate t0 9_000_032 ++ rv.Sub sp sp t0 ∷ rv.Add t1 sp t0 ∷ rv.Sw t1 ra (negative 4) ∷ [])
    ++ words (rv.Addi 10 0 3 ∷ [] ++ give_frame 9_000_032 0)

untested-returns : runs 40 (untested ∷ []) [] [] ≡ exits 3 []
unfolding executable_for bytes_of word_of executed run run_state next_effect fetched act give machine.jump machine.call decoded load_bytes store_bytes
    allowed memory_of flags_of
untested-returns = refl

-- ---- a constant whose lower part is negative

-- 2048, shifted to the right by 11
abbrev shifting : List isa.Instr → List Item
shifting li = words (li ++ rv.Srli 10 10 11 ∷ rv.Jalr 0 ra 0 ∷ [])

rounded : runs 40 (shifting (load_immediate 10 2048) ∷ []) [] [] ≡ exits 1 []
unfolding executable_for bytes_of word_of executed run run_state next_effect fetched act give machine.jump machine.call decoded load_bytes store_bytes
    allowed memory_of flags_of
rounded = refl

-- where 0x800 is not added to the upper part
unrounded : runs 40 (shifting (rv.Lui 10 0 ∷ rv.Addi 10 10 (low_part 2048) ∷ []) ∷ []) [] [] ≡ exits 255 []
unfolding executable_for bytes_of word_of executed run run_state next_effect fetched act give machine.jump machine.call decoded load_bytes store_bytes
    allowed memory_of flags_of
unrounded = refl
