-- The code of a lambda has at most 32 bytes for each value and 256 more.
use Rattle.std.proofs.Common.{◌≡◌, ℕ, suc, ◌+◌, ◌-◌, ◌*◌, ◌≤◌, refl, List, [], ◌∷◌, map, length, flat_map, Option, Some, None, arith}
use Rattle.std.proofs.lemmas.Bool.{leb-true}
use Rattle.std.proofs.lemmas.List.{length-map}
use Rattle.std.proofs.lemmas.List.Sums.{sum_by-cons, sum_by-append}
use Rattle.g_graph.specs.declared.op.Kind.{Kind}
use Rattle.g_graph.specs.declared.op.Kind.TheVariants.{Value, Memory, Io}
use Rattle.g_graph.specs.declared.op.Op.TheVariants.{Const, Undef, Local, Delta, Bin, Un, Load, Store, Clear, PtrEq, Apply, Put, Exit, Get, Gamma, Theta}
use Rattle.g_graph.specs.Plain.{PlainObject, RegionTree, region, NodeTree, node, NodeTrees, no_nodes, node_then, RegionTrees, no_regions, region_then, args_of}
use Rattle.g_graph.specs.Count.{region_values, node_values, nodes_values, regions_values}
use Rattle.g_graph.specs.Lists.{RegionOps, NodeOps, NodesOps, RegionsOps}
use Rattle.g_graph.specs.Signatures.{result_kinds, output_kinds}
use Rattle.val_core.proofs.lemmas.Numbers.{length_numbers}
use Rattle.s_linear.specs.Frame.{PlainPlaces}
use Rattle.s_linear.specs.Linear.{move, Code, no_steps}
use Rattle.s_linear.specs.Lines.{Line, enter, leave, code_lines}
use Rattle.val_core.specs.Numbers.{numbers_from}
use Rattle.s_sequence.specs.Sequence.{values_in, value_args, kept, Names, no_names, node_names, nodes_names, named, nodes_named, name_of, moves, instrs_then, outputs_at, bases, loop_results, nodes_code, node_step, branch_codes, branch_code, loop_step, body_code, sequenced}
use Rattle.s_sequence.proofs.lemmas.Instrs.{arguments_counted}
use Rattle.s_sequence.proofs.lemmas.Named.{args_length, kept_length}
use Rattle.rv_layout.specs.Items.{item_size, items_size}
use Rattle.s_select.specs.Templates.{line_items, items_of}
use Rattle.cc_emit.specs.Image.{lines_of, places_of}
use Rattle.cc_emit.specs.Laws.{HasFewArguments, CodeIsShort}
use Rattle.cc_emit.specs.Sizes.{instr_bytes, line_bytes, LinesAreShort}
use Rattle.cc_emit.proofs.Bytes.{bytes, instrs_bytes, step_bytes, code_bytes, codes_bytes, code_lines_bytes}

-- ---- moves

moves_bytes : (t : ℕ) (xs : List ℕ) → instrs_bytes (moves t xs) ≡ 24 * length xs
moves_bytes t [] = refl
moves_bytes t (x ∷ xs) = omega (arith, sum_by-cons instr_bytes (move t x) (moves (suc t) xs), moves_bytes (suc t) xs)

then_bytes : (t : ℕ) (xs : List ℕ) (k : Code) → code_bytes (instrs_then (moves t xs) k) ≡ 24 * length xs + code_bytes k
then_bytes t [] k = omega arith
then_bytes t (x ∷ xs) k = omega (arith, then_bytes (suc t) xs k)

kept_names : (ks : List (Option Kind)) (xs : List ℕ) → length (kept ks xs) ≤ length xs
kept_names [] xs = omega arith
kept_names (None ∷ ks) [] = omega arith
kept_names (Some Value ∷ ks) [] = omega arith
kept_names (Some Memory ∷ ks) [] = omega arith
kept_names (Some Io ∷ ks) [] = omega arith
kept_names (None ∷ ks) (x ∷ xs) = omega (arith, kept_names ks xs)
kept_names (Some Value ∷ ks) (x ∷ xs) = omega (arith, kept_names ks xs)
kept_names (Some Memory ∷ ks) (x ∷ xs) = omega (arith, kept_names ks xs)
kept_names (Some Io ∷ ks) (x ∷ xs) = omega (arith, kept_names ks xs)

-- moves into the arguments of a region
entered_few : (args : List Kind) (xs : List ℕ) → length (kept (map Some args) xs) ≤ length args
entered_few args xs = omega (arith, kept_length (map Some args) xs, args_length args)

results_few : (args : List Kind) (xs : List ℕ) → length (loop_results args xs) ≤ length xs
results_few args [] = omega arith
results_few args (x ∷ xs) = omega (arith, kept_names (map Some args) xs)

-- ---- nodes: a region with 32 bytes more, which the branch and the jump of a choice take

mutual
  nodes_bytes : (args : List Kind) (base : ℕ) (names : Names) (next : ℕ) (ns : NodeTrees) (k : Code) → NodesOps HasFewArguments ns
      → code_bytes (nodes_code args base names next ns k) ≤ 32 * nodes_values ns + code_bytes k
  nodes_bytes args base names next no_nodes k h = omega arith
  nodes_bytes args base names next (node_then x ns) k h =
      omega (arith, node_bytes args base names next x h.0, nodes_bytes args base (named x next names) (next + node_names x) ns k h.1)

  node_bytes : (args : List Kind) (base : ℕ) (names : Names) (next : ℕ) (x : NodeTree) → NodeOps HasFewArguments x
      → step_bytes (node_step args base names next x) ≤ 32 * node_values x
  node_bytes args base names next (node id (Const w) inputs rs) h = omega arith
  node_bytes args base names next (node id Undef inputs rs) h = omega arith
  node_bytes args base names next (node id (Local k) inputs rs) h = omega arith
  node_bytes args base names next (node id (Delta k) inputs rs) h = omega arith
  node_bytes args base names next (node id (Bin o) inputs rs) h = omega arith
  node_bytes args base names next (node id (Un o) inputs rs) h = omega arith
  node_bytes args base names next (node id (Load width) inputs rs) h = omega arith
  node_bytes args base names next (node id (Store width) inputs rs) h = omega arith
  node_bytes args base names next (node id (Clear k) inputs rs) h = omega arith
  node_bytes args base names next (node id PtrEq inputs rs) h = omega arith
  node_bytes args base names next (node id (Apply f) inputs rs) h =
      let names_in = map (name_of args base names) inputs in
      omega (arith, leb-true (length inputs - 2) 8 h.0, arguments_counted names_in, length-map inputs (name_of args base names))
  node_bytes args base names next (node id Put inputs rs) h = omega arith
  node_bytes args base names next (node id Exit inputs rs) h = omega arith
  node_bytes args base names next (node id Get inputs rs) h = omega arith
  node_bytes args base names next (node id Gamma [] rs) h = omega arith
  node_bytes args base names next (node id Gamma (o ∷ entries) rs) h =
      let starts = bases next (values_in (output_kinds (node id Gamma (o ∷ entries) rs))) rs in
      omega (arith, branches_bytes (map (name_of args base names) entries) (outputs_at next rs) starts rs h.1)
  node_bytes args base names next (node id Theta inputs no_regions) h = omega arith
  node_bytes args base names next (node id Theta inputs (region_then r no_regions)) h =
      omega (arith, length-map (args_of r) Some, loop_bytes (map (name_of args base names) inputs) next r h.1.0)
  node_bytes args base names next (node id Theta inputs (region_then r (region_then s rs))) h = omega arith

  branches_bytes : (entries : List ℕ) (outputs : ℕ) (starts : List ℕ) (rs : RegionTrees) → RegionsOps HasFewArguments rs
      → codes_bytes (branch_codes entries outputs starts rs) ≤ 32 * regions_values rs
  branches_bytes entries outputs [] rs h = omega arith
  branches_bytes entries outputs (b ∷ bs) no_regions h = omega arith
  branches_bytes entries outputs (b ∷ bs) (region_then r rs) h = omega (arith, branch_bytes entries outputs b r h.0, branches_bytes entries outputs bs rs h.1)

  branch_bytes : (entries : List ℕ) (outputs base : ℕ) (r : RegionTree) → RegionOps HasFewArguments r
      → 32 + code_bytes (branch_code entries outputs base r) ≤ 32 * region_values r
  branch_bytes entries outputs base (region args nodes results) h =
      let entered = kept (map Some args) entries in
      let named_results = map (name_of args base (nodes_named nodes (base + value_args args) no_names)) results in
      let left = kept (result_kinds (region args nodes results)) named_results in
      let exits = instrs_then (moves outputs left) no_steps in
      omega (
        arith,
        then_bytes base entered (nodes_code args base no_names (base + value_args args) nodes exits),
        nodes_bytes args base no_names (base + value_args args) nodes exits h,
        then_bytes outputs left no_steps,
        entered_few args entries,
        kept_names (result_kinds (region args nodes results)) named_results,
        length-map results (name_of args base (nodes_named nodes (base + value_args args) no_names)),
      )

  loop_bytes : (entries : List ℕ) (next : ℕ) (r : RegionTree) → RegionOps HasFewArguments r
      → step_bytes (loop_step entries next r) ≤ 32 * (1 + length (args_of r) + region_values r)
  loop_bytes entries next (region args nodes results) h =
      let entered = kept (map Some args) entries in
      let outputs = next + value_args args + nodes_names nodes in
      let named_results = map (name_of args next (nodes_named nodes (next + value_args args) no_names)) results in
      let left = loop_results args named_results in
      let exits = instrs_then (moves outputs left) no_steps in
      omega (
        arith,
        moves_bytes next entered,
        nodes_bytes args next no_names (next + value_args args) nodes exits h,
        then_bytes outputs left no_steps,
        moves_bytes next (numbers_from outputs (value_args args)),
        length_numbers outputs (value_args args),
        entered_few args entries,
        args_length args,
        results_few args named_results,
        length-map results (name_of args next (nodes_named nodes (next + value_args args) no_names)),
      )

body_bytes : (r : RegionTree) → RegionOps HasFewArguments r → code_bytes (body_code r) ≤ 32 * region_values r
body_bytes (region args nodes results) h = omega (arith, nodes_bytes args 0 no_names (value_args args) nodes no_steps h)

-- ---- functions

items_bytes : LinesAreShort → (p : PlainPlaces) (os : List PlainObject) (ls : List Line) → items_size (items_of p os ls) ≤ bytes ls
items_bytes short p os [] = omega arith
items_bytes short p os (l ∷ ls) =
    omega (
      arith,
      sum_by-append item_size (line_items p os l) (flat_map (line_items p os) ls),
      sum_by-cons line_bytes l ls,
      short p os l,
      items_bytes short p os ls,
    )

pub code_is_short : LinesAreShort → CodeIsShort
code_is_short short form l params calls =
    let code = code_lines 0 (sequenced l).code in
    let start = enter (numbers_from 0 l.params) in
    omega (
      arith,
      items_bytes short (places_of form l) l.objects (lines_of l),
      sum_by-append line_bytes (start ∷ code) (leave (sequenced l).value ∷ []),
      sum_by-cons line_bytes start code,
      length_numbers 0 l.params,
      code_lines_bytes 0 (sequenced l).code,
      body_bytes l.body calls,
    )
