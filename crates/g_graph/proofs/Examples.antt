-- Worked rows of the definitions: small lambdas, and each broken in one place.
use Rattle.std.proofs.Common.{◌≡◌, ℕ, zero, suc, ◌+◌, ◌^◌, true, false, List, [], ◌∷◌, map, replicate, length, slice_get, Some, None, refl, sym, ap, subst, ◌∙◌}
use Rattle.std.proofs.lemmas.Option.{same_Some}
use Rattle.std.proofs.lemmas.Bool.{leb-true}
use Rattle.base.specs.Limits.{counted_bytes, most_global_bytes}
use Rattle.val_core.specs.declared.operation.Op2.TheVariants.{Add}
use Rattle.val_core.specs.declared.operation.Op1.TheVariants.{Zext8}
use Rattle.val_core.specs.declared.leaf.Leaf.{Leaf}
use Rattle.g_graph.specs.declared.op.Kind.{Kind}
use Rattle.g_graph.specs.declared.op.Kind.TheVariants.{Value, Memory, Io}
use Rattle.g_graph.specs.declared.op.Origin.{Origin}
use Rattle.g_graph.specs.declared.op.Origin.TheVariants.{Arg, Out}
use Rattle.g_graph.specs.declared.op.Op.{Op}
use Rattle.g_graph.specs.declared.op.Op.TheVariants.{Apply, Store, Get, Const, Undef, Delta, Un, Clear, PtrEq, Exit, Bin, Put, Load, Local, Gamma, Theta}
use Rattle.g_graph.specs.declared.link.Link.{Link}
use Rattle.g_graph.specs.Plain.{RegionTree, region, NodeTree, node, no_nodes, no_regions, nodes_of, regions_of, PlainLambda, PlainDelta, PlainOmega}
use Rattle.g_graph.specs.Count.{region_values}
use Rattle.g_graph.specs.Ids.{region_ids}
use Rattle.g_graph.specs.WellFormed.{well_formed, IsWellFormed, leaves_fit, all_of, distinct}
use Rattle.g_graph.specs.Nodes.{constant as origin_word}
use Rattle.g_graph.specs.Lists.{RegionOps, Calls, NamesGlobal, IsComplete}
use Rattle.g_graph.specs.Program.{main_name, link_fits, IsGlobal, HasMain, IsProgram, IsFunctionWithinLimits, IsWithinLimits}

abbrev states : List Kind
states = Memory ∷ Io ∷ []

abbrev plain : ℕ → Op → List Origin → NodeTree
plain id op inputs = node id op inputs no_regions

-- a function of one parameter
abbrev of_body : List NodeTree → List Origin → PlainLambda
of_body nodes results = record { number = 0; params = 1; objects = []; body = region (Value ∷ states) (nodes_of nodes) results; next = 10 }

-- a + 1
abbrev next_number : PlainLambda
next_number = of_body (plain 0 (Const 1) [] ∷ plain 1 (Bin Add) (Arg 0 ∷ Out 0 0 ∷ []) ∷ []) (Out 1 0 ∷ Arg 1 ∷ Arg 2 ∷ [])

next_number-well_formed : well_formed next_number ≡ true
next_number-well_formed = refl

-- the body, three arguments, two nodes, two outputs and three results
next_number-values : region_values next_number.body ≡ 11
next_number-values = refl

-- the nodes in the other order: an input from a later node
later : well_formed (of_body (plain 1 (Bin Add) (Arg 0 ∷ Out 0 0 ∷ []) ∷ plain 0 (Const 1) [] ∷ []) (Out 1 0 ∷ Arg 1 ∷ Arg 2 ∷ [])) ≡ false
later = refl

-- one number twice
twice : well_formed (of_body (plain 0 (Const 1) [] ∷ plain 0 (Const 2) [] ∷ []) (Out 0 0 ∷ Arg 1 ∷ Arg 2 ∷ [])) ≡ false
twice = refl

-- a number that is not below the next
high : well_formed (of_body (plain 10 (Const 1) [] ∷ []) (Out 10 0 ∷ Arg 1 ∷ Arg 2 ∷ [])) ≡ false
high = refl

-- a byte is written, and the result has the old state
old_state : well_formed (of_body (plain 0 Put (Arg 0 ∷ Arg 2 ∷ []) ∷ []) (Arg 0 ∷ Arg 1 ∷ Arg 2 ∷ [])) ≡ false
old_state = refl

last_state : well_formed (of_body (plain 0 Put (Arg 0 ∷ Arg 2 ∷ []) ∷ []) (Arg 0 ∷ Arg 1 ∷ Out 0 0 ∷ [])) ≡ true
last_state = refl

-- an object that is not there
no_object : well_formed (of_body (plain 0 (Local 0) [] ∷ []) (Out 0 0 ∷ Arg 1 ∷ Arg 2 ∷ [])) ≡ false
no_object = refl

wide : well_formed (of_body (plain 0 (Load 3) (Arg 0 ∷ Arg 1 ∷ []) ∷ []) (Out 0 0 ∷ Arg 1 ∷ Arg 2 ∷ [])) ≡ false
wide = refl

-- a Gamma on the parameter, which its regions take too
abbrev chosen : List RegionTree → PlainLambda
chosen rs = of_body (node 0 Gamma (Arg 0 ∷ Arg 0 ∷ Arg 1 ∷ Arg 2 ∷ []) (regions_of rs) ∷ []) (Out 0 0 ∷ Out 0 1 ∷ Out 0 2 ∷ [])

abbrev inside : List NodeTree → List Origin → RegionTree
inside nodes results = region (Value ∷ states) (nodes_of nodes) results

abbrev as_is : RegionTree
as_is = inside [] (Arg 0 ∷ Arg 1 ∷ Arg 2 ∷ [])

-- a constant, by a node of this number
abbrev constant : ℕ → RegionTree
constant n = inside (plain n (Const 1) [] ∷ []) (Out n 0 ∷ Arg 1 ∷ Arg 2 ∷ [])

both : well_formed (chosen (as_is ∷ constant 1 ∷ [])) ≡ true
both = refl

both-ids : region_ids (chosen (constant 2 ∷ constant 1 ∷ [])).body ≡ 0 ∷ 2 ∷ 1 ∷ []
both-ids = refl

-- the body with a node and three outputs, and two regions, one with a node and its output
both-values : region_values (chosen (as_is ∷ constant 1 ∷ [])).body ≡ 11 + 7 + 9
both-values = refl

-- one number in two regions
twice_apart : well_formed (chosen (constant 1 ∷ constant 1 ∷ [])) ≡ false
twice_apart = refl

no_region : well_formed (chosen []) ≡ false
no_region = refl

-- regions that give other kinds
unlike : well_formed (chosen (as_is ∷ inside [] (Arg 0 ∷ Arg 2 ∷ Arg 1 ∷ []) ∷ [])) ≡ false
unlike = refl

-- a state that is given in a region and does not come back from it
lost : well_formed (of_body (node 0 Gamma (Arg 0 ∷ Arg 0 ∷ Arg 1 ∷ Arg 2 ∷ []) (regions_of (inside (plain 1 Put (Arg 0 ∷ Arg 2 ∷ []) ∷ []) (Arg 0 ∷ []) ∷ [])) ∷ []) (Out 0 0 ∷ Arg 1 ∷ Arg 2 ∷ [])) ≡
    false
lost = refl

-- a Theta that does its region once
abbrev once : List Origin → PlainLambda
once results = of_body (node 0 Theta (Arg 0 ∷ Arg 1 ∷ Arg 2 ∷ []) (regions_of (inside (plain 1 (Const 0) [] ∷ []) results ∷ [])) ∷ []) (Out 0 0 ∷ Out 0 1 ∷ Out 0 2 ∷ [])

once-well_formed : well_formed (once (Out 1 0 ∷ Arg 0 ∷ Arg 1 ∷ Arg 2 ∷ [])) ≡ true
once-well_formed = refl

-- a Theta without its predicate
no_predicate : well_formed (once (Arg 0 ∷ Arg 1 ∷ Arg 2 ∷ [])) ≡ false
no_predicate = refl

-- a memory that is taken twice
two_memories : well_formed (of_body (node 0 Gamma (Arg 0 ∷ Arg 1 ∷ Arg 1 ∷ Arg 2 ∷ []) (regions_of (region (Memory ∷ states) no_nodes (Arg 0 ∷ Arg 1 ∷ Arg 2 ∷ []) ∷ [])) ∷ []) (Arg 0 ∷ Out 0 1 ∷
    Out 0 2 ∷ [])) ≡ false
two_memories = refl

abbrev leaf : ℕ → ℕ → Leaf
leaf offset width = record { offset = offset; width = width }

-- a region that a Theta repeats once, with a node of this number
abbrev repeating : ℕ → RegionTree
repeating n = inside (plain n (Const 0) [] ∷ []) (Out n 0 ∷ Arg 0 ∷ Arg 1 ∷ Arg 2 ∷ [])

-- Each region breaks one sentence, and so does a lambda with that body and one with that region within a Gamma.
abbrev broken : List RegionTree
broken =
    -- an input from a later node, and results that no argument or output gives
    inside (plain 2 (Bin Add) (Arg 0 ∷ Out 1 0 ∷ []) ∷ plain 1 (Const 1) [] ∷ []) (Out 2 0 ∷ Arg 1 ∷ Arg 2 ∷ [])
    ∷ inside [] (Arg 3 ∷ Arg 1 ∷ Arg 2 ∷ [])
    ∷ inside (plain 1 (Const 1) [] ∷ []) (Out 1 1 ∷ Arg 1 ∷ Arg 2 ∷ [])
    -- an input too few, one of another kind, and a call without io
    ∷ inside (plain 1 (Bin Add) (Arg 0 ∷ []) ∷ []) (Out 1 0 ∷ Arg 1 ∷ Arg 2 ∷ [])
    ∷ inside (plain 1 (Bin Add) (Arg 0 ∷ Arg 1 ∷ []) ∷ []) (Out 1 0 ∷ Arg 1 ∷ Arg 2 ∷ [])
    ∷ inside (plain 1 (Apply 0) (Arg 0 ∷ Arg 1 ∷ []) ∷ []) (Out 1 0 ∷ Out 1 1 ∷ Arg 2 ∷ [])
    -- a Const with a region, a Gamma without, a Theta without and one with two
    ∷ inside (node 1 (Const 1) [] (regions_of (as_is ∷ [])) ∷ []) (Out 1 0 ∷ Arg 1 ∷ Arg 2 ∷ [])
    ∷ inside (node 1 Gamma (Arg 0 ∷ []) no_regions ∷ []) (Arg 0 ∷ Arg 1 ∷ Arg 2 ∷ [])
    ∷ inside (node 1 Theta [] no_regions ∷ []) (Arg 0 ∷ Arg 1 ∷ Arg 2 ∷ [])
    ∷ inside (node 1 Theta (Arg 0 ∷ Arg 1 ∷ Arg 2 ∷ []) (regions_of (repeating 2 ∷ repeating 3 ∷ [])) ∷ []) (Out 1 0 ∷ Out 1 1 ∷ Out 1 2 ∷ [])
    -- regions of a Gamma that take or give other kinds, and a Theta without predicate and with other results
    ∷ inside (node 1 Gamma (Arg 0 ∷ Arg 0 ∷ Arg 1 ∷ Arg 2 ∷ []) (regions_of (as_is ∷ region (Value ∷ Io ∷ Memory ∷ []) no_nodes (Arg 0 ∷ Arg 2 ∷ Arg 1 ∷ []) ∷ [])) ∷ []) (Out 1 0 ∷ Out 1 1 ∷
    Out 1 2 ∷ [])
    ∷ inside (node 1 Gamma (Arg 0 ∷ Arg 0 ∷ Arg 1 ∷ Arg 2 ∷ []) (regions_of (as_is ∷ inside [] (Arg 0 ∷ Arg 2 ∷ Arg 1 ∷ []) ∷ [])) ∷ []) (Out 1 0 ∷ Out 1 1 ∷ Out 1 2 ∷ [])
    ∷ inside (node 1 Theta (Arg 0 ∷ Arg 1 ∷ Arg 2 ∷ []) (regions_of (as_is ∷ [])) ∷ []) (Out 1 0 ∷ Out 1 1 ∷ Out 1 2 ∷ [])
    ∷ inside (node 1 Theta (Arg 0 ∷ Arg 1 ∷ Arg 2 ∷ []) (regions_of (inside [] (Arg 0 ∷ Arg 0 ∷ Arg 2 ∷ Arg 1 ∷ []) ∷ [])) ∷ []) (Out 1 0 ∷ Out 1 1 ∷ Out 1 2 ∷ [])
    -- results of other kinds
    ∷ inside [] (Arg 0 ∷ Arg 2 ∷ Arg 1 ∷ [])
    -- a number twice, and one that is not below the next
    ∷ inside (plain 1 (Const 1) [] ∷ plain 1 (Const 1) [] ∷ []) (Out 1 0 ∷ Arg 1 ∷ Arg 2 ∷ [])
    ∷ inside (plain 10 (Const 1) [] ∷ []) (Out 10 0 ∷ Arg 1 ∷ Arg 2 ∷ [])
    -- a state that is not the last, as an input and as a result
    ∷ inside (plain 1 Put (Arg 0 ∷ Arg 2 ∷ []) ∷ plain 2 Put (Arg 0 ∷ Arg 2 ∷ []) ∷ []) (Arg 0 ∷ Arg 1 ∷ Out 2 0 ∷ [])
    ∷ inside (plain 1 Put (Arg 0 ∷ Arg 2 ∷ []) ∷ []) (Arg 0 ∷ Arg 1 ∷ Arg 2 ∷ [])
    -- a Theta without io, and a region that does not give back a state that a node of it gives
    ∷ inside (node 1 Theta (Arg 0 ∷ Arg 1 ∷ []) (regions_of (region (Value ∷ Memory ∷ []) (nodes_of (plain 2 (Const 0) [] ∷ [])) (Out 2 0 ∷ Arg 0 ∷ Arg 1 ∷ []) ∷ [])) ∷ []) (Out 1 0 ∷ Out 1 1 ∷
    Arg 2 ∷ [])
    ∷ inside (node 1 Gamma (Arg 0 ∷ Arg 0 ∷ Arg 1 ∷ Arg 2 ∷ []) (regions_of (inside (plain 2 Put (Arg 0 ∷ Arg 2 ∷ []) ∷ []) (Arg 0 ∷ []) ∷ [])) ∷ []) (Out 1 0 ∷ Arg 1 ∷ Arg 2 ∷ [])
    -- objects that are not there, and widths that are none
    ∷ inside (plain 1 (Local 1) [] ∷ []) (Out 1 0 ∷ Arg 1 ∷ Arg 2 ∷ [])
    ∷ inside (plain 1 (Clear 1) (Arg 1 ∷ []) ∷ []) (Arg 0 ∷ Out 1 0 ∷ Arg 2 ∷ [])
    ∷ inside (plain 1 (Load 3) (Arg 0 ∷ Arg 1 ∷ []) ∷ []) (Out 1 0 ∷ Arg 1 ∷ Arg 2 ∷ [])
    ∷ inside (plain 1 (Store 8) (Arg 0 ∷ Arg 0 ∷ Arg 1 ∷ []) ∷ []) (Arg 0 ∷ Out 1 0 ∷ Arg 2 ∷ [])
    -- two memories, and two io
    ∷ inside (node 1 Gamma (Arg 0 ∷ Arg 1 ∷ Arg 1 ∷ Arg 2 ∷ []) (regions_of (region (Memory ∷ states) no_nodes (Arg 1 ∷ Arg 2 ∷ []) ∷ [])) ∷ []) (Arg 0 ∷ Out 1 0 ∷ Out 1 1 ∷ [])
    ∷ inside (node 1 Gamma (Arg 0 ∷ Arg 1 ∷ Arg 2 ∷ Arg 2 ∷ []) (regions_of (region (Memory ∷ Io ∷ Io ∷ []) no_nodes (Arg 0 ∷ Arg 2 ∷ []) ∷ [])) ∷ []) (Arg 0 ∷ Out 1 0 ∷ Out 1 1 ∷ [])
    ∷ []

-- a lambda with one object, and this body
abbrev alone : RegionTree → PlainLambda
alone r = record { number = 0; params = 1; objects = record { size = 4; leaves = leaf 0 4 ∷ [] } ∷ []; body = r; next = 10 }

broken-body : map (λ r. well_formed (alone r)) broken ≡ replicate (length broken) false
broken-body = refl

broken-nested : map (λ r. well_formed (alone (chosen (as_is ∷ r ∷ [])).body)) broken ≡ replicate (length broken) false
broken-nested = refl

-- each op as it should be
abbrev whole : RegionTree
whole = inside (
    plain 1 (Const 5) [] ∷ plain 2 Undef [] ∷ plain 3 (Local 0) [] ∷ plain 4 (Delta 0) []
    ∷ plain 5 (Bin Add) (Arg 0 ∷ Out 1 0 ∷ []) ∷ plain 6 (Un Zext8) (Out 5 0 ∷ [])
    ∷ plain 7 (Clear 0) (Arg 1 ∷ []) ∷ plain 8 (Store 4) (Out 3 0 ∷ Out 6 0 ∷ Out 7 0 ∷ []) ∷ plain 9 (Load 1) (Out 3 0 ∷ Out 8 0 ∷ [])
    ∷ plain 10 PtrEq (Out 3 0 ∷ Out 4 0 ∷ Out 8 0 ∷ []) ∷ plain 11 (Apply 3) (Out 2 0 ∷ Out 9 0 ∷ Out 8 0 ∷ Arg 2 ∷ [])
    ∷ plain 12 Put (Out 11 0 ∷ Out 11 2 ∷ []) ∷ plain 13 Get (Out 12 0 ∷ [])
    ∷ node 14 Gamma (Out 13 0 ∷ Out 10 0 ∷ Out 11 1 ∷ Out 13 1 ∷ []) (regions_of (as_is ∷ constant 15 ∷ []))
    ∷ node 16 Theta (Out 14 0 ∷ Out 14 1 ∷ Out 14 2 ∷ []) (regions_of (repeating 17 ∷ []))
    ∷ plain 18 Exit (Out 16 0 ∷ Out 16 2 ∷ []) ∷ []) (Out 16 0 ∷ Out 16 1 ∷ Out 18 0 ∷ [])

abbrev below_twenty : PlainLambda → PlainLambda
below_twenty l = record { number = l.number; params = l.params; objects = l.objects; body = l.body; next = 20 }

whole-body : well_formed (below_twenty (alone whole)) ≡ true
whole-body = refl

whole-nested : well_formed (below_twenty (alone (chosen (as_is ∷ whole ∷ [])).body)) ≡ true
whole-nested = refl

leaves_apart : leaves_fit 8 0 (leaf 0 4 ∷ leaf 4 2 ∷ leaf 6 1 ∷ []) ≡ true
leaves_apart = refl

leaves_overlap : leaves_fit 8 0 (leaf 0 4 ∷ leaf 2 2 ∷ []) ≡ false
leaves_overlap = refl

leaf_outside : leaves_fit 8 0 (leaf 8 1 ∷ []) ≡ false
leaf_outside = refl

leaf_askew : leaves_fit 8 0 (leaf 2 4 ∷ []) ≡ false
leaf_askew = refl

-- ---- what an image asks of a program

-- int main(void) { return 0; }
abbrev returns_zero : PlainLambda
returns_zero =
    record { number = 0; params = 0; objects = []; body = region states (nodes_of (plain 0 (Const 0) [] ∷ [])) (Out 0 0 ∷ Arg 0 ∷ Arg 1 ∷ []); next = 1 }

-- a pointer that points to itself, with links at these offsets
abbrev pointer : List ℕ → PlainDelta
pointer offsets = record { bytes = replicate 4 0; links = map (λ at. record { at = at; delta = 0 }) offsets; leaves = record { offset = 0; width = 4 } ∷ []; fixed = false }

-- with a global, and functions of these names
abbrev program_of : PlainDelta → List (List ℕ) → PlainOmega
program_of global names = record { lambdas = returns_zero ∷ []; deltas = global ∷ []; names = names }

at_zero : {X : Type 0} (x y : X) (k : ℕ) → slice_get (x ∷ []) k ≡ Some y → (k ≡ 0) × (x ≡ y)
at_zero x y zero e = (refl, same_Some x y e)
at_zero x y (suc k) e = absurd (cc)

returns_zero-complete : IsComplete (returns_zero ∷ [])
returns_zero-complete = record {
  well_formed = λ f l e. subst (λ (k : PlainLambda). IsWellFormed k) (at_zero returns_zero l f e).1 refl;
  numbered = λ f l e. ap (λ (k : PlainLambda). k.number) (sym (at_zero returns_zero l f e).1) ∙ sym (at_zero returns_zero l f e).0;
  calls = λ f l e. subst (λ (k : PlainLambda). RegionOps (Calls (returns_zero ∷ [])) k.body) (at_zero returns_zero l f e).1 ((tt, tt), tt);
}

returns_zero-program : IsProgram (program_of (pointer (0 ∷ [])) (main_name ∷ [])) (returns_zero ∷ [])
returns_zero-program = record {
  complete = returns_zero-complete;
  params = refl;
  main = record { index = 0; lambda = returns_zero; named = refl; there = refl; params = refl };
  named = λ f l e. subst (λ (k : PlainLambda). RegionOps (NamesGlobal 1) k.body) (at_zero returns_zero l f e).1 ((tt, tt), tt);
  globals = λ k d e. subst (λ (g : PlainDelta). IsGlobal 1 g) (at_zero (pointer (0 ∷ [])) d k e).1 (record { bytes = refl; leaves = refl; links = refl; apart = refl });
}

-- its function and its global are within the limits
returns_zero-limits : IsWithinLimits (program_of (pointer (0 ∷ [])) (main_name ∷ [])) (returns_zero ∷ [])
returns_zero-limits = record {
  functions = leb-true _ _ refl;
  each = λ f l e.
      subst (λ (k : PlainLambda). IsFunctionWithinLimits k) (at_zero returns_zero l f e).1
      (record { parameters = leb-true _ _ refl; objects = leb-true _ _ refl; values = leb-true _ _ refl });
  values = leb-true _ _ refl;
  globals = leb-true _ _ refl;
}

-- an object of one byte counts as eight bytes
counted-byte : counted_bytes 1 ≡ 8
counted-byte = refl

-- the largest global that a program may have, alone
counted-most : counted_bytes 1048572 ≡ most_global_bytes
counted-most = refl

-- two links at one offset
two_links : distinct (map (λ (link : Link). link.at) (pointer (0 ∷ 0 ∷ [])).links) ≡ false
two_links = refl

-- a link where no leaf begins, and one at a leaf of width 1
link_between : all_of (link_fits 1 (pointer (1 ∷ [])).leaves) (pointer (1 ∷ [])).links ≡ false
link_between = refl

narrow_link : link_fits 1 (record { offset = 0; width = 1 } ∷ []) (record { at = 0; delta = 0 }) ≡ false
narrow_link = refl

-- a program without `main`
no_main : HasMain ([] ∷ []) (returns_zero ∷ []) → ⊥
no_main h =
    let named = h.named in
    absurd (cc)

-- ---- nodes, constants and uses

-- the word is taken modulo 2 ^ 32, and from the first output alone
constant-word : origin_word (nodes_of (plain 3 (Const (2 ^ 32 + 5)) [] ∷ [])) (Out 3 0) ≡ Some 5
constant-word = refl

constant-second : origin_word (nodes_of (plain 3 (Const 5) [] ∷ [])) (Out 3 1) ≡ None
constant-second = refl
