-- What calls of lambdas do, and whole programs.
use Rattle.std.specs.Prelude.{ℕ, zero, suc, ◌+◌, ◌*◌, ◌%◌, ◌==◌, if◌then◌else◌, true, List, [], ◌∷◌, ◌++◌, map, length, slice_get, slice_index_or, take, drop, Option, None, Some}
use Rattle.val_core.specs.declared.leaf.Leaf.{Leaf}
use Rattle.val_core.specs.declared.values.Value.{Value}
use Rattle.val_core.specs.declared.values.Value.TheVariants.{Num}
use Rattle.val_core.specs.Memory.{Cell, Block, Memory, closed}
use Rattle.val_core.specs.Objects.{Addresses, word_of, address_in, opened}
use Rattle.val_core.specs.Events.{deepest}
use Rattle.val_core.specs.Answers.{Answer, Returned, Cut, Exited, Undefined, then_on, on_number, active, events}
use Rattle.g_graph.specs.declared.link.Link.{Link}
use Rattle.g_graph.specs.Plain.{RegionTree, PlainObject, PlainLambda, PlainDelta, PlainOmega, shapes_of}
use Rattle.g_graph.specs.Program.{name_index, main_name}
use Rattle.g_mean.specs.Data.{Datum, memory, input, at_port, value_at, on_memory, with_memory, changed_at}
use Rattle.g_mean.specs.Meaning.{Meaning, Context, region_meaning}

abbrev pub sizes_of : List PlainObject → List ℕ
sizes_of objects = map (λ o. o.size) objects

-- what stands around the body of a lambda with these objects, where the caller's memory is `m`
abbrev pub inside : ℕ → (call : ℕ → Meaning) → (global : ℕ → Value) → List PlainObject → (m : Memory) → Context
inside n call global objects m =
    record {
      bound = n;
      call = call;
      addresses = record { local = address_in (length m) (sizes_of objects); global = global };
    }

-- A call of a lambda with the bound n inside it: its objects get new blocks after those of the memory that it is
-- given, and their lifetimes end with it.
abbrev pub entered : ℕ → (call : ℕ → Meaning) → (global : ℕ → Value) → Option PlainLambda → Meaning
entered n call global None xs = Undefined []
entered n call global (Some l) xs =
    on_memory (at_port xs l.params) (λ m.
    then_on (region_meaning (inside n call global l.objects m) l.body (changed_at l.params (with_memory (λ k. k ++ opened (shapes_of l.objects))) xs))
    (λ ys. Returned (changed_at 1 (with_memory (closed (length m) (length l.objects))) ys) []))

-- What an Apply of function f does at a bound: at 0 it is cut, and else the lambda runs at the bound below.
abbrev pub applied : List PlainLambda → (global : ℕ → Value) → (bound : ℕ) → ℕ → Meaning
applied ls global zero f xs = Cut []
applied ls global (suc n) f xs = active f (entered n (applied ls global n) global (slice_get ls f) xs)

-- a region at a bound, where objects and globals have these addresses
abbrev pub region_at : ℕ → List PlainLambda → RegionTree → List Datum → Addresses → Answer (List Datum)
region_at n ls r xs addresses = region_meaning (record { bound = n; call = applied ls addresses.global n; addresses = addresses }) r xs

-- the lambda of a function at a bound
abbrev pub lambda_at : ℕ → List PlainLambda → (global : ℕ → Value) → ℕ → Meaning
lambda_at n ls global f xs = applied ls global (suc n) f xs

-- ---- programs

abbrev pub delta_sizes : List PlainDelta → List ℕ
delta_sizes ds = map (λ d. length d.bytes) ds

-- the address of each global: their blocks are the first of the memory
abbrev pub global_of : List PlainDelta → ℕ → Value
global_of ds k = address_in 0 (delta_sizes ds) k

-- bytes as a number, the lowest first
abbrev pub little_endian : List ℕ → ℕ
little_endian [] = 0
little_endian (b ∷ bs) = b + 256 * little_endian bs

-- the link at an offset
abbrev pub link_at : ℕ → List Link → Option ℕ
link_at offset [] = None
link_at offset (l ∷ ls) = if l.at == offset then Some l.delta else link_at offset ls

abbrev pub leaf_value : (ℕ → Value) → List ℕ → Leaf → Option ℕ → Value
leaf_value global bytes leaf (Some k) = global k
leaf_value global bytes leaf None = Num (little_endian (take leaf.width (drop leaf.offset bytes)))

abbrev pub first_cell : (ℕ → Value) → PlainDelta → Leaf → Cell
first_cell global d leaf =
    record { leaf = leaf; value = Some (leaf_value global d.bytes leaf (link_at leaf.offset d.links)) }

-- the block of a global as the program starts
abbrev pub first_block : (ℕ → Value) → PlainDelta → Block
first_block global d =
    record { size = word_of (length d.bytes); cells = map (first_cell global d) d.leaves; live = true; fixed = d.fixed }

abbrev pub first_memory : List PlainDelta → Memory
first_memory ds = map (first_block (global_of ds)) ds

-- the program ends with what `main` gives back, modulo 256
abbrev pub finished : Meaning
finished ys = on_number (value_at ys 0) (λ w. Exited [] (w % 256))

abbrev pub started : ℕ → PlainOmega → List PlainLambda → Option ℕ → List ℕ → Answer (List Datum)
started n omega ls None i = Undefined []
started n omega ls (Some f) i =
    then_on (lambda_at n ls (global_of omega.deltas) f (memory (first_memory omega.deltas) ∷ input i ∷ [])) finished

-- the program at a bound, on this input
abbrev pub program_at : ℕ → PlainOmega → List PlainLambda → List ℕ → Answer (List Datum)
program_at n omega ls i = started n omega ls (name_index main_name omega.names) i

-- the greatest sum of frame sizes, by function, over the stacks of calls that it meets
abbrev pub deepest_main : ℕ → PlainOmega → List PlainLambda → (sizes : List ℕ) → List ℕ → ℕ
deepest_main n omega ls sizes i = deepest (λ f. slice_index_or sizes f 0) (events (program_at n omega ls i))
