-- The limits of the compiler. ISO/IEC 9899:2011, 5.2.4.1, lets a translator choose those of the language and of its
-- programs; those of rules, of builds and of runs are the compiler's own choice. The constants of the crate have the same
-- names and values.
use Rattle.std.specs.Prelude.{ℕ, ◌+◌, ◌*◌, ◌/◌}

abbrev pub most_source_bytes : ℕ
most_source_bytes = 1048576

abbrev pub most_tokens : ℕ
most_tokens = 200000

abbrev pub most_name_bytes : ℕ
most_name_bytes = 63

-- how many constructs may be open at one place of a source
abbrev pub most_nesting : ℕ
most_nesting = 200

abbrev pub most_type_bytes : ℕ
most_type_bytes = 1048576

-- ---- programs

abbrev pub most_functions : ℕ
most_functions = 512

abbrev pub most_parameters : ℕ
most_parameters = 8

-- the bytes that an object or a global of this size counts
abbrev pub counted_bytes : ℕ → ℕ
counted_bytes size = (size + 3) / 4 * 4 + 4

-- of the memory objects of a function
abbrev pub most_object_bytes : ℕ
most_object_bytes = 65536

-- of the globals of a program
abbrev pub most_global_bytes : ℕ
most_global_bytes = 1048576

-- of a lambda that an image is made of
abbrev pub most_lambda_values : ℕ
most_lambda_values = 24576

-- of all lambdas that an image is made of
abbrev pub most_program_values : ℕ
most_program_values = 4594304

-- of all lambdas as they are built, before a rule has changed one; each of the most functions then has room to grow
abbrev pub most_built_values : ℕ
most_built_values = 400000

-- ---- rules

-- of a lambda that a rule has made larger
abbrev pub most_grown_values : ℕ
most_grown_values = 8192

-- of a lambda that is inlined
abbrev pub most_callee_values : ℕ
most_callee_values = 400

-- of the region of a loop that is unrolled
abbrev pub most_loop_values : ℕ
most_loop_values = 200

-- of a recipe, each of one rule
abbrev pub most_sweeps : ℕ
most_sweeps = 32

-- ---- builds

-- of a work; a build has one for each function
abbrev pub most_jobs : ℕ
most_jobs = 512

-- of a work, each in a thread of its own
abbrev pub most_workers : ℕ
most_workers = 64

-- ---- the command line

-- that `gen` writes before `main`, one fewer than the most functions
abbrev pub most_generated_functions : ℕ
most_generated_functions = 511

-- the instructions that a run may be given
abbrev pub most_steps : ℕ
most_steps = 1000000000000

-- of an image that is run: the most that the reader of ELF files takes
abbrev pub most_image_bytes : ℕ
most_image_bytes = 268435456
