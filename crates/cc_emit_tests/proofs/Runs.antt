-- Runs of the images of small programs within a number of instructions: the output and the status are those of the graph's
-- meaning at a bound.
use Rattle.std.specs.Prelude.{◌≡◌, refl, ℕ, List, [], ◌∷◌, length, Option, Some, None}
use Rattle.val_core.specs.Answers.{Answer, Exited, Returned, Cut, Undefined}
use Rattle.val_core.specs.Events.{output}
use Rattle.elf_file.specs.Laws.{executable_for}
use Rattle.elf_file.specs.Header.{elf_header, program_header}
use Rattle.elf_file.specs.Written.{file_of, headers, program_headers}
use Rattle.g_graph.specs.Plain.{PlainLambda, PlainOmega}
use Rattle.g_mean.specs.Calls.{program_at}
use Rattle.g_mean.specs.Data.{Datum}
use Rattle.rv_isa.specs.Words.{word_of}
use Rattle.rv_isa.specs.Encodings.{decoded}
use Rattle.rv_layout.specs.Sequences.{bytes_of}
use Rattle.rv_machine.specs.Machine.{exit, act, give, jump, call, fetched, next_effect}
use Rattle.rv_machine.specs.Memory.{load_bytes, store_bytes, allowed, memory_of, flags_of}
use Rattle.rv_machine.specs.Run.{RunResult, run_state, run, executed, ended}
use Rattle.s_linear.specs.declared.frame.CodeForm.TheVariants.{Plain}
use Rattle.cc_emit.specs.Image.{image_of, file_of_program}
use Rattle.cc_emit_tests.proofs.Programs.{table_main, table, pointer_main, pointer, echo_main, echo, parity_lambdas, parity, narrow_main, narrow, cleared_main, cleared}

-- so many instructions of the image of a program
abbrev runs : (count : ℕ) → PlainOmega → List PlainLambda → (input : List ℕ) → RunResult
runs count program ls input = executed count (executable_for (image_of Plain program ls)) input

abbrev exits : (status : ℕ) → (output : List ℕ) → RunResult
exits status output = record { hart = ended (exit status); output = output; rest = [] }

-- the output and the status of a graph's program that exits
abbrev exit_of : Answer (List Datum) → Option (List ℕ × ℕ)
exit_of (Exited did status) = Some (output did, status)
exit_of (Returned results did) = None
exit_of (Cut did) = None
exit_of (Undefined did) = None

table-file : length (file_of_program Plain table (table_main ∷ [])) ≡ 12296
unfolding file_of headers elf_header program_header bytes_of
table-file = refl

table-headers : length (program_headers (image_of Plain table (table_main ∷ []))) ≡ 3
unfolding bytes_of
table-headers = refl

table-exits : runs 40 table (table_main ∷ []) [] ≡ exits 3 []
unfolding executable_for bytes_of word_of executed run run_state next_effect fetched act give jump call decoded load_bytes store_bytes allowed memory_of flags_of
table-exits = refl

table-means : exit_of (program_at 8 table (table_main ∷ []) []) ≡ Some ([], 3)
table-means = refl

pointer-exits : runs 100 pointer (pointer_main ∷ []) [] ≡ exits 3 []
unfolding executable_for bytes_of word_of executed run run_state next_effect fetched act give jump call decoded load_bytes store_bytes allowed memory_of flags_of
pointer-exits = refl

pointer-means : exit_of (program_at 8 pointer (pointer_main ∷ []) []) ≡ Some ([], 3)
pointer-means = refl

echo-exits : runs 300 echo (echo_main ∷ []) (0 ∷ 10 ∷ 255 ∷ []) ≡ exits 0 (0 ∷ 10 ∷ 255 ∷ [])
unfolding executable_for bytes_of word_of executed run run_state next_effect fetched act give jump call decoded load_bytes store_bytes allowed memory_of flags_of
echo-exits = refl

echo-means : exit_of (program_at 8 echo (echo_main ∷ []) (0 ∷ 10 ∷ 255 ∷ [])) ≡ Some (0 ∷ 10 ∷ 255 ∷ [], 0)
echo-means = refl

parity-exits : runs 300 parity parity_lambdas [] ≡ exits 1 []
unfolding executable_for bytes_of word_of executed run run_state next_effect fetched act give jump call decoded load_bytes store_bytes allowed memory_of flags_of
parity-exits = refl

parity-means : exit_of (program_at 8 parity parity_lambdas []) ≡ Some ([], 1)
parity-means = refl

narrow-exits : runs 100 narrow (narrow_main ∷ []) [] ≡ exits 200 (99 ∷ [])
unfolding executable_for bytes_of word_of executed run run_state next_effect fetched act give jump call decoded load_bytes store_bytes allowed memory_of flags_of
narrow-exits = refl

narrow-means : exit_of (program_at 8 narrow (narrow_main ∷ []) []) ≡ Some (99 ∷ [], 200)
narrow-means = refl

cleared-exits : runs 100 cleared (cleared_main ∷ []) [] ≡ exits 5 []
unfolding executable_for bytes_of word_of executed run run_state next_effect fetched act give jump call decoded load_bytes store_bytes allowed memory_of flags_of
cleared-exits = refl

cleared-means : exit_of (program_at 8 cleared (cleared_main ∷ []) []) ≡ Some ([], 5)
cleared-means = refl
