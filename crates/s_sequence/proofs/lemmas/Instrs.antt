-- What holds of the instruction of every op of a lambda, and of moves, holds of its linear code.
use Rattle.std.proofs.Common.{◌≡◌, ℕ, suc, ◌+◌, ◌-◌, Bool, true, List, [], ◌∷◌, ◌++◌, map, length, refl, sym, ap, subst, ◌∙◌, arith}
use Rattle.std.proofs.lemmas.Bool.{and_from, and_parts, lt-ltb}
use Rattle.std.specs.Prelude.{◌&&◌, nat_lt}
use Rattle.std.proofs.lemmas.List.{length-map}
use Rattle.g_graph.specs.declared.op.Kind.{Kind}
use Rattle.g_graph.specs.declared.op.Origin.{Origin}
use Rattle.g_graph.specs.declared.op.Op.{Op}
use Rattle.g_graph.specs.declared.op.Op.TheVariants.{Const, Undef, Local, Delta, Bin, Un, Load, Store, Clear, PtrEq, Apply, Put, Exit, Get, Gamma, Theta}
use Rattle.g_graph.specs.Plain.{RegionTree, region, NodeTree, node, NodeTrees, no_nodes, node_then, nodes_of, RegionTrees, no_regions, region_then, PlainLambda}
use Rattle.g_graph.specs.Scope.{each_node}
use Rattle.g_graph.specs.Lists.{RegionOps, NodeOps, NodesOps, RegionsOps, NamesGlobal}
use Rattle.g_graph.specs.WellFormed.{all_of, is_width, every_region, every_in_node, every_in_nodes, every_in_regions, has_its_width, has_its_object, inputs_fit, inputs_are_last, node_has_one_state_each, has_its_regions, regions_fit, theta_has_states, node_fits, results_are_last, returns_state, region_has_one_state_each, region_fits, IsWellFormed}
use Rattle.g_graph.specs.declared.op.Kind.TheVariants.{Memory, Io}
use Rattle.s_linear.specs.Linear.{Instr, move, undef, Code, no_steps}
use Rattle.s_linear.specs.Lines.{done, does, lines}
use Rattle.s_linear.specs.Operands as operands
use Rattle.s_linear.specs.Operands.{has_its_global}
use Rattle.s_linear.proofs.lemmas.Passing.{StepPasses, CodePasses, CodesPass, lines_pass}
use Rattle.s_sequence.specs.Sequence.{value_args, Names, no_names, node_names, nodes_names, named, name_of, moves, without_states, op_instr, instrs_then, outputs_at, nodes_code, node_step, branch_codes, branch_code, loop_step, body_code, sequenced}
use Rattle.s_sequence.specs.Laws as laws
use Rattle.g_graph.proofs.lemmas.Nests.{regions_of_well_formed}

module _ (test : Instr → Bool) (p : Op → ℕ → Type 0) (moved : (t s : ℕ) → test (move t s) ≡ true) (unknown : (t : ℕ) → test (undef t) ≡ true)
    (made : (op : Op) (t : ℕ) (xs : List ℕ) → p op (length xs) → test (op_instr op t xs) ≡ true) where
  moves_pass : (t : ℕ) (xs : List ℕ) (k : Code) → CodePasses (does test) k → CodePasses (does test) (instrs_then (moves t xs) k)
  moves_pass t [] k h = h
  moves_pass t (x ∷ xs) k h = (moved t x, moves_pass (suc t) xs k h)

  moves_hold : (t : ℕ) (xs : List ℕ) → all_of (does test) (map done (moves t xs)) ≡ true
  moves_hold t [] = refl
  moves_hold t (x ∷ xs) = and_from _ _ (moved t x) (moves_hold (suc t) xs)

  own : (op : Op) (t : ℕ) (f : Origin → ℕ) (inputs : List Origin) → p op (length inputs) → test (op_instr op t (map f inputs)) ≡ true
  own op t f inputs h = made op t (map f inputs) (subst (λ n. p op n) (sym (length-map inputs f)) h)

  mutual
    nodes_pass : (args : List Kind) (base : ℕ) (names : Names) (next : ℕ) (ns : NodeTrees) (k : Code) → NodesOps p ns → CodePasses (does test) k →
        CodePasses (does test) (nodes_code args base names next ns k)
    nodes_pass args base names next no_nodes k h q = q
    nodes_pass args base names next (node_then x ns) k h q =
        (node_passes args base names next x h.0, nodes_pass args base (named x next names) (next + node_names x) ns k h.1 q)

    node_passes : (args : List Kind) (base : ℕ) (names : Names) (next : ℕ) (x : NodeTree) → NodeOps p x → StepPasses (does test) (node_step args base names next x)
    node_passes args base names next (node id (Const w) inputs rs) h = own (Const w) next (name_of args base names) inputs h.0
    node_passes args base names next (node id Undef inputs rs) h = own Undef next (name_of args base names) inputs h.0
    node_passes args base names next (node id (Local k) inputs rs) h = own (Local k) next (name_of args base names) inputs h.0
    node_passes args base names next (node id (Delta k) inputs rs) h = own (Delta k) next (name_of args base names) inputs h.0
    node_passes args base names next (node id (Bin o) inputs rs) h = own (Bin o) next (name_of args base names) inputs h.0
    node_passes args base names next (node id (Un o) inputs rs) h = own (Un o) next (name_of args base names) inputs h.0
    node_passes args base names next (node id (Load width) inputs rs) h = own (Load width) next (name_of args base names) inputs h.0
    node_passes args base names next (node id (Store width) inputs rs) h = own (Store width) next (name_of args base names) inputs h.0
    node_passes args base names next (node id (Clear k) inputs rs) h = own (Clear k) next (name_of args base names) inputs h.0
    node_passes args base names next (node id PtrEq inputs rs) h = own PtrEq next (name_of args base names) inputs h.0
    node_passes args base names next (node id (Apply f) inputs rs) h = own (Apply f) next (name_of args base names) inputs h.0
    node_passes args base names next (node id Put inputs rs) h = own Put next (name_of args base names) inputs h.0
    node_passes args base names next (node id Exit inputs rs) h = own Exit next (name_of args base names) inputs h.0
    node_passes args base names next (node id Get inputs rs) h = own Get next (name_of args base names) inputs h.0
    node_passes args base names next (node id Gamma [] rs) h = unknown next
    node_passes args base names next (node id Gamma (o ∷ entries) rs) h =
        ((λ two. ((λ r l. refl), (λ l. refl))), branches_pass (map (name_of args base names) entries) (outputs_at next rs) _ rs h.1)
    node_passes args base names next (node id Theta inputs no_regions) h = unknown next
    node_passes args base names next (node id Theta inputs (region_then r no_regions)) h = loop_passes (map (name_of args base names) inputs) next r h.1.0
    node_passes args base names next (node id Theta inputs (region_then r (region_then s rs))) h = unknown next

    branches_pass : (entries : List ℕ) (outputs : ℕ) (bs : List ℕ) (rs : RegionTrees) → RegionsOps p rs → CodesPass (does test) (branch_codes entries outputs bs rs)
    branches_pass entries outputs [] rs h = tt
    branches_pass entries outputs (b ∷ bs) no_regions h = tt
    branches_pass entries outputs (b ∷ bs) (region_then r rs) h = (branch_passes entries outputs b r h.0, branches_pass entries outputs bs rs h.1)

    branch_passes : (entries : List ℕ) (outputs base : ℕ) (r : RegionTree) → RegionOps p r → CodePasses (does test) (branch_code entries outputs base r)
    branch_passes entries outputs base (region args nodes results) h =
        moves_pass base _ _ (nodes_pass args base no_names (base + value_args args) nodes _ h (moves_pass outputs _ no_steps tt))

    loop_passes : (entries : List ℕ) (next : ℕ) (r : RegionTree) → RegionOps p r → StepPasses (does test) (loop_step entries next r)
    loop_passes entries next (region args nodes results) h = (
      moves_hold next _,
      nodes_pass args next no_names (next + value_args args) nodes _ h (moves_pass (next + value_args args + nodes_names nodes) _ no_steps tt),
      (λ l. refl),
      moves_hold next _,
    )

  body_passes : (r : RegionTree) → RegionOps p r → CodePasses (does test) (body_code r)
  body_passes (region args nodes results) h = nodes_pass args 0 no_names (value_args args) nodes no_steps h tt

  sequenced_passes : (l : PlainLambda) → RegionOps p l.body → all_of (does test) (lines (sequenced l)) ≡ true
  sequenced_passes l h = lines_pass (does test) (λ l. refl) (λ l. refl) (sequenced l) refl (body_passes l.body h) refl

-- ---- what well-formed lambdas have

module _ (objects : ℕ) (p : Op → ℕ → Type 0)
    (fits : (args : List Kind) (before : NodeTrees) (id : ℕ) (op : Op) (inputs : List Origin) (rs : RegionTrees) →
    node_fits objects args before (node id op inputs rs) ≡ true → p op (length inputs)) where
  mutual
    region_has : (r : RegionTree) → every_region (region_fits objects) r ≡ true → RegionOps p r
    region_has (region args nodes results) e =
        let here : region_fits objects (region args nodes results) ≡ true = (and_parts _ (every_in_nodes (region_fits objects) nodes) e).0 in
        nodes_have args [] nodes
        ((and_parts _ (results_are_last (region args nodes results))
        ((and_parts _ (returns_state Memory (region args nodes results))
        ((and_parts _ (returns_state Io (region args nodes results)) ((and_parts _ (region_has_one_state_each (region args nodes results)) here).0)).0)).0)).0)
        ((and_parts (region_fits objects (region args nodes results)) _ e).1)

    node_has : (args : List Kind) (before : NodeTrees) (x : NodeTree) → node_fits objects args before x ≡ true →
        every_in_node (region_fits objects) x ≡ true → NodeOps p x
    node_has args before (node id op inputs rs) e inside = (fits args before id op inputs rs e, regions_have rs inside)

    nodes_have : (args : List Kind) (before : List NodeTree) (ns : NodeTrees) → each_node (node_fits objects args) before ns ≡ true →
        every_in_nodes (region_fits objects) ns ≡ true → NodesOps p ns
    nodes_have args before no_nodes e inside = tt
    nodes_have args before (node_then x xs) e inside = (
      node_has args (nodes_of before) x ((and_parts (node_fits objects args (nodes_of before) x) _ e).0) ((and_parts (every_in_node (region_fits objects) x) _ inside).0),
      nodes_have args (before ++ x ∷ []) xs ((and_parts (node_fits objects args (nodes_of before) x) _ e).1)
          ((and_parts (every_in_node (region_fits objects) x) _ inside).1),
    )

    regions_have : (rs : RegionTrees) → every_in_regions (region_fits objects) rs ≡ true → RegionsOps p rs
    regions_have no_regions e = tt
    regions_have (region_then r rs) e = (
      region_has r ((and_parts (every_region (region_fits objects) r) _ e).0),
      regions_have rs ((and_parts (every_region (region_fits objects) r) _ e).1),
    )

-- what every instruction of a sequenced op passes
pub instrs_pass : (test : Instr → Bool) → ((t s : ℕ) → test (move t s) ≡ true) → ((t : ℕ) → test (undef t) ≡ true) →
    ((op : Op) (t : ℕ) (xs : List ℕ) → test (op_instr op t xs) ≡ true) → (l : PlainLambda) → IsWellFormed l → all_of (does test) (lines (sequenced l)) ≡ true
instrs_pass test moved unknown made l w =
    sequenced_passes test (λ op n. Unit {0}) moved unknown (λ op t xs h. made op t xs) l
    (region_has (length l.objects) (λ op n. Unit {0}) (λ args before id op inputs rs e. tt) l.body (regions_of_well_formed l w))

-- ---- widths

abbrev WidthFits : Op → ℕ → Type 0
WidthFits (Load width) n = is_width width ≡ true
WidthFits (Store width) n = is_width width ≡ true
WidthFits op n = Unit {0}

width_fits : (objects : ℕ) (args : List Kind) (before : NodeTrees) (id : ℕ) (op : Op) (inputs : List Origin) (rs : RegionTrees) →
    node_fits objects args before (node id op inputs rs) ≡ true → has_its_width (node id op inputs rs) ≡ true
width_fits objects args before id op inputs rs e =
    (and_parts (inputs_fit args before (node id op inputs rs) && inputs_are_last args before (node id op inputs rs) && node_has_one_state_each args before
    (node id op inputs rs)
    && has_its_regions (node id op inputs rs) && regions_fit (node id op inputs rs) && theta_has_states (node id op inputs rs))
    (has_its_width (node id op inputs rs)) ((and_parts _ (has_its_object objects (node id op inputs rs)) e).0)).1

width_is : (id : ℕ) (op : Op) (inputs : List Origin) (rs : RegionTrees) → has_its_width (node id op inputs rs) ≡ true → WidthFits op (length inputs)
width_is id (Load width) inputs rs e = e
width_is id (Store width) inputs rs e = e
width_is id (Const w) inputs rs e = tt
width_is id Undef inputs rs e = tt
width_is id (Local k) inputs rs e = tt
width_is id (Delta k) inputs rs e = tt
width_is id (Bin o) inputs rs e = tt
width_is id (Un o) inputs rs e = tt
width_is id (Clear k) inputs rs e = tt
width_is id PtrEq inputs rs e = tt
width_is id (Apply f) inputs rs e = tt
width_is id Put inputs rs e = tt
width_is id Exit inputs rs e = tt
width_is id Get inputs rs e = tt
width_is id Gamma inputs rs e = tt
width_is id Theta inputs rs e = tt

width_made : (op : Op) (t : ℕ) (xs : List ℕ) → WidthFits op (length xs) → operands.has_its_width (op_instr op t xs) ≡ true
width_made (Load width) t xs h = h
width_made (Store width) t xs h = h
width_made (Const w) t xs h = refl
width_made Undef t xs h = refl
width_made (Local k) t xs h = refl
width_made (Delta k) t xs h = refl
width_made (Bin o) t xs h = refl
width_made (Un o) t xs h = refl
width_made (Clear k) t xs h = refl
width_made PtrEq t xs h = refl
width_made (Apply f) t xs h = refl
width_made Put t xs h = refl
width_made Exit t xs h = refl
width_made Get t xs h = refl
width_made Gamma t xs h = refl
width_made Theta t xs h = refl

pub widths_fit : (l : PlainLambda) → IsWellFormed l → all_of (does operands.has_its_width) (lines (sequenced l)) ≡ true
widths_fit l w =
    sequenced_passes operands.has_its_width WidthFits (λ t s. refl) (λ t. refl) width_made l
    (region_has (length l.objects) WidthFits
    (λ args before id op inputs rs e. width_is id op inputs rs (width_fits (length l.objects) args before id op inputs rs e)) l.body (regions_of_well_formed l w))

-- ---- objects

abbrev ObjectIsThere : ℕ → Op → ℕ → Type 0
ObjectIsThere objects (Local k) n = nat_lt k objects ≡ true
ObjectIsThere objects (Clear k) n = nat_lt k objects ≡ true
ObjectIsThere objects op n = Unit {0}

object_is : (objects id : ℕ) (op : Op) (inputs : List Origin) (rs : RegionTrees) → has_its_object objects (node id op inputs rs) ≡ true →
    ObjectIsThere objects op (length inputs)
object_is objects id (Local k) inputs rs e = e
object_is objects id (Clear k) inputs rs e = e
object_is objects id (Load width) inputs rs e = tt
object_is objects id (Store width) inputs rs e = tt
object_is objects id (Const w) inputs rs e = tt
object_is objects id Undef inputs rs e = tt
object_is objects id (Delta k) inputs rs e = tt
object_is objects id (Bin o) inputs rs e = tt
object_is objects id (Un o) inputs rs e = tt
object_is objects id PtrEq inputs rs e = tt
object_is objects id (Apply f) inputs rs e = tt
object_is objects id Put inputs rs e = tt
object_is objects id Exit inputs rs e = tt
object_is objects id Get inputs rs e = tt
object_is objects id Gamma inputs rs e = tt
object_is objects id Theta inputs rs e = tt

object_made : (objects : ℕ) (op : Op) (t : ℕ) (xs : List ℕ) → ObjectIsThere objects op (length xs) → operands.has_its_object objects (op_instr op t xs) ≡ true
object_made objects (Local k) t xs h = h
object_made objects (Clear k) t xs h = h
object_made objects (Load width) t xs h = refl
object_made objects (Store width) t xs h = refl
object_made objects (Const w) t xs h = refl
object_made objects Undef t xs h = refl
object_made objects (Delta k) t xs h = refl
object_made objects (Bin o) t xs h = refl
object_made objects (Un o) t xs h = refl
object_made objects PtrEq t xs h = refl
object_made objects (Apply f) t xs h = refl
object_made objects Put t xs h = refl
object_made objects Exit t xs h = refl
object_made objects Get t xs h = refl
object_made objects Gamma t xs h = refl
object_made objects Theta t xs h = refl

pub objects_are_there : (l : PlainLambda) → IsWellFormed l → all_of (does (operands.has_its_object (length l.objects))) (lines (sequenced l)) ≡ true
objects_are_there l w =
    let objects : ℕ = length l.objects in
    sequenced_passes (operands.has_its_object objects) (ObjectIsThere objects) (λ t s. refl) (λ t. refl) (object_made objects) l
    (region_has objects (ObjectIsThere objects)
    (λ args before id op inputs rs e. object_is objects id op inputs rs ((and_parts _ (has_its_object objects (node id op inputs rs)) e).1)) l.body
    (regions_of_well_formed l w))

-- ---- globals

global_made : (globals : ℕ) (op : Op) (t : ℕ) (xs : List ℕ) → NamesGlobal globals op (length xs) → has_its_global globals (op_instr op t xs) ≡ true
global_made globals (Delta k) t xs h = lt-ltb k globals h
global_made globals (Load width) t xs h = refl
global_made globals (Store width) t xs h = refl
global_made globals (Local k) t xs h = refl
global_made globals (Clear k) t xs h = refl
global_made globals (Const w) t xs h = refl
global_made globals Undef t xs h = refl
global_made globals (Bin o) t xs h = refl
global_made globals (Un o) t xs h = refl
global_made globals PtrEq t xs h = refl
global_made globals (Apply f) t xs h = refl
global_made globals Put t xs h = refl
global_made globals Exit t xs h = refl
global_made globals Get t xs h = refl
global_made globals Gamma t xs h = refl
global_made globals Theta t xs h = refl

pub globals_are_there : (globals : ℕ) (l : PlainLambda) → RegionOps (NamesGlobal globals) l.body → all_of (does (has_its_global globals)) (lines (sequenced l)) ≡ true
globals_are_there globals l h = sequenced_passes (has_its_global globals) (NamesGlobal globals) (λ t s. refl) (λ t. refl) (global_made globals) l h

-- ---- calls

pub arguments_counted : (xs : List ℕ) → length (without_states xs) ≡ length xs - 2
arguments_counted [] = refl
arguments_counted (x ∷ []) = refl
arguments_counted (x ∷ y ∷ []) = refl
arguments_counted (x ∷ y ∷ z ∷ xs) = omega (arith, arguments_counted (y ∷ z ∷ xs))

call_made : (test : ℕ → ℕ → Bool) (op : Op) (t : ℕ) (xs : List ℕ) → laws.Applies test op (length xs) → laws.calls_with test (op_instr op t xs) ≡ true
call_made test (Apply f) t xs h = ap (test f) (arguments_counted xs) ∙ h
call_made test (Load width) t xs h = refl
call_made test (Store width) t xs h = refl
call_made test (Local k) t xs h = refl
call_made test (Clear k) t xs h = refl
call_made test (Const w) t xs h = refl
call_made test Undef t xs h = refl
call_made test (Delta k) t xs h = refl
call_made test (Bin o) t xs h = refl
call_made test (Un o) t xs h = refl
call_made test PtrEq t xs h = refl
call_made test Put t xs h = refl
call_made test Exit t xs h = refl
call_made test Get t xs h = refl
call_made test Gamma t xs h = refl
call_made test Theta t xs h = refl

pub calls_keep_arguments : (test : ℕ → ℕ → Bool) (l : PlainLambda) → RegionOps (laws.Applies test) l.body →
    all_of (does (laws.calls_with test)) (lines (sequenced l)) ≡ true
calls_keep_arguments test l h = sequenced_passes (laws.calls_with test) (laws.Applies test) (λ t s. refl) (λ t. refl) (call_made test) l h
