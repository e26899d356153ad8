-- What a region does (Reissmann et al., RVSDG, 2020): its nodes run in the order of the list, each on what its inputs
-- carry, and a map from outputs to data grows. A bound limits the turns of each Theta and the depth of calls.
use Rattle.std.specs.Prelude.{ℕ, zero, suc, ◌-◌, ◌%◌, ◌^◌, ◌==◌, if◌then◌else◌, List, [], ◌∷◌, map}
use Rattle.val_core.specs.declared.values.Value.{Value}
use Rattle.val_core.specs.declared.values.Value.TheVariants.{Num, Bad}
use Rattle.val_core.specs.Values.{value1, value2}
use Rattle.val_core.specs.Memory.{Memory, load, store, pointers_equal, cleared_at}
use Rattle.val_core.specs.Objects.{Addresses}
use Rattle.val_core.specs.Events.{wrote, took}
use Rattle.val_core.specs.Answers.{Answer, Returned, Cut, Exited, Undefined, then_on, on_number, on_defined}
use Rattle.g_graph.specs.declared.op.Op.{Op}
use Rattle.g_graph.specs.declared.op.Op.TheVariants.{Const, Undef, Local, Delta, Bin, Un, Load, Store, Clear, PtrEq, Apply, Put, Exit, Get, Gamma, Theta}
use Rattle.g_graph.specs.declared.op.Origin.{Origin}
use Rattle.g_graph.specs.declared.op.Origin.TheVariants.{Arg, Out}
use Rattle.g_graph.specs.Plain.{RegionTree, region, NodeTree, node, NodeTrees, no_nodes, node_then, RegionTrees, no_regions, region_then, id_of}
use Rattle.g_mean.specs.Data.{Datum, val, memory, input, at_port, value_of, value_at, on_memory, on_input}

-- from the data that a part takes to the data that it gives
abbrev pub Meaning : Type 0
Meaning = List Datum → Answer (List Datum)

-- what the meaning of a region takes from outside: the bound, what calls do, and the addresses of objects and globals
pub record Context : Type 0 where
  pub bound : ℕ
  pub call : ℕ → Meaning
  pub addresses : Addresses

abbrev pub given : Value → Answer (List Datum)
given v = Returned (val v ∷ []) []

abbrev pub given_memory : Memory → Answer (List Datum)
given_memory m = Returned (memory m ∷ []) []

-- the next byte, which is taken, or at the end of the input the word -1
abbrev pub got : List ℕ → Answer (List Datum)
got [] = Returned (val (Num (2 ^ 32 - 1)) ∷ input [] ∷ []) []
got (b ∷ i) = Returned (val (Num b) ∷ input i ∷ []) (took b ∷ [])

-- What an op without regions does but for a call. A pure one is total. What else is undefined is undefined: a load or store
-- that memory does not take, a comparison of pointers outside its cases, and a byte or a status that is no number.
abbrev pub done : Addresses → Op → Meaning
done addresses (Const w) xs = given (Num (w % 2 ^ 32))
done addresses Undef xs = given Bad
done addresses (Local k) xs = given (addresses.local k)
done addresses (Delta k) xs = given (addresses.global k)
done addresses (Bin op) xs = given (value2 op (value_at xs 0) (value_at xs 1))
done addresses (Un op) xs = given (value1 op (value_at xs 0))
done addresses (Load width) xs = on_memory (at_port xs 1) (λ m. on_defined (load width (value_at xs 0) m) given)
done addresses (Store width) xs =
    on_memory (at_port xs 2) (λ m. on_defined (store width (value_at xs 0) (value_at xs 1) m) given_memory)
done addresses (Clear k) xs = on_memory (at_port xs 0) (λ m. on_defined (cleared_at (addresses.local k) m) given_memory)
done addresses PtrEq xs =
    on_memory (at_port xs 2) (λ m. on_defined (pointers_equal (value_at xs 0) (value_at xs 1) m) (λ n. given (Num n)))
done addresses Put xs =
    on_number (value_at xs 0) (λ w. on_input (at_port xs 1) (λ i. Returned (input i ∷ []) (wrote (w % 256) ∷ [])))
done addresses Exit xs = on_number (value_at xs 0) (λ w. Exited [] (w % 256))
done addresses Get xs = on_input (at_port xs 0) got
done addresses _ xs = Undefined []

-- of n meanings the one numbered min(w, n - 1)
abbrev pub chosen : ℕ → List Meaning → Meaning
chosen w [] xs = Undefined []
chosen w (m ∷ []) xs = m xs
chosen zero (m ∷ ms) xs = m xs
chosen (suc w) (m ∷ ms) xs = chosen w ms xs

-- a Gamma: its predicate chooses the region that the entry variables go to
abbrev pub branched : List Meaning → Meaning
branched ms [] = Undefined []
branched ms (p ∷ xs) = on_number (value_of p) (λ w. chosen w ms xs)

-- after a turn: the loop variables are done with, or go to the next turn, as the predicate says
abbrev pub again : Meaning → Meaning
again next [] = Undefined []
again next (p ∷ ys) = on_number (value_of p) (λ w. if w == 0 then Returned ys [] else next ys)

-- at most so many turns of a body
abbrev pub turns : ℕ → Meaning → Meaning
turns zero body xs = Cut []
turns (suc n) body xs = then_on (body xs) (again (turns n body))

-- a Theta
abbrev pub looped : ℕ → List Meaning → Meaning
looped n [] xs = Undefined []
looped n (body ∷ ms) xs = turns n body xs

-- what a node does whose regions mean this
abbrev pub act : Context → Op → List Meaning → Meaning
act c (Apply f) ms xs = c.call f xs
act c Gamma ms xs = branched ms xs
act c Theta ms xs = looped c.bound ms xs
act c op ms xs = done c.addresses op xs

-- the data of the outputs that have run, by node and port
abbrev pub Outputs : Type 0
Outputs = ℕ → ℕ → Datum

abbrev pub no_outputs : Outputs
no_outputs n p = val Bad

abbrev pub extended : Outputs → ℕ → List Datum → Outputs
extended outputs id ys n p = if id == n then at_port ys p else outputs n p

abbrev pub read : List Datum → Outputs → Origin → Datum
read xs outputs (Arg k) = at_port xs k
read xs outputs (Out n p) = outputs n p

-- Of a region, a node, nodes in order, and the regions of a node. The arguments of the region are `xs`.
abbrev mutual
  pub region_meaning : Context → RegionTree → Meaning
  region_meaning c (region args nodes results) xs =
      then_on (nodes_run c nodes xs no_outputs) (λ o. Returned (map (read xs o) results) [])

  pub node_run : Context → NodeTree → (xs : List Datum) → Outputs → Answer (List Datum)
  node_run c (node id op inputs rs) xs o = act c op (meanings c rs) (map (read xs o) inputs)

  pub nodes_run : Context → NodeTrees → (xs : List Datum) → Outputs → Answer Outputs
  nodes_run c no_nodes xs o = Returned o []
  nodes_run c (node_then x ns) xs o =
      then_on (node_run c x xs o) (λ ys. nodes_run c ns xs (extended o (id_of x) ys))

  pub meanings : Context → RegionTrees → List Meaning
  meanings c no_regions = []
  meanings c (region_then r rs) = region_meaning c r ∷ meanings c rs
