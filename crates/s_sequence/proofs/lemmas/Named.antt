-- Every name of the linear code of a well-formed lambda is below the number of the lambda's values.
use Rattle.std.proofs.Common.{◌≡◌, ◌<◌, ◌≤◌, ℕ, zero, suc, ◌+◌, Bool, true, false, List, [], ◌∷◌, ◌++◌, map, length, take, refl, ap, ◌∙◌, arith}
use Rattle.std.proofs.lemmas.Bool.{and_from, and_parts, lt-ltb, ltb-true}
use Rattle.std.specs.Prelude.{◌&&◌, ◌==◌, nat_lt, replicate, if◌then◌else◌}
use Rattle.std.specs.declared.option.Option.{Option}
use Rattle.std.specs.declared.option.Option.TheVariants.{Some, None}
use Rattle.g_graph.specs.declared.op.Kind.{Kind}
use Rattle.g_graph.specs.declared.op.Kind.TheVariants.{Value, Memory, Io}
use Rattle.g_graph.specs.declared.op.Origin.{Origin}
use Rattle.g_graph.specs.declared.op.Origin.TheVariants.{Arg, Out}
use Rattle.g_graph.specs.declared.op.Op.{Op}
use Rattle.g_graph.specs.declared.op.Op.TheVariants.{Const, Undef, Local, Delta, Bin, Un, Load, Store, Clear, PtrEq, Apply, Put, Exit, Get, Gamma, Theta}
use Rattle.g_graph.specs.Plain.{RegionTree, region, NodeTree, node, NodeTrees, no_nodes, node_then, nodes_of, RegionTrees, no_regions, region_then, args_of, PlainLambda}
use Rattle.g_graph.specs.Signatures.{outputs_of, result_kinds, output_kinds}
use Rattle.g_graph.specs.Count.{region_values, node_values, nodes_values, regions_values}
use Rattle.g_graph.specs.Scope.{each_node}
use Rattle.g_graph.specs.WellFormed.{all_of, all_regions, are, same, kinds_of, every_region, every_in_node, every_in_nodes, every_in_regions, has_its_width, has_its_object, regions_fit, theta_has_states, node_fits, results_are_last, returns_state, region_has_one_state_each, region_fits, body_fits, numbers_fit, leaves_fit, IsWellFormed}
use Rattle.g_graph.proofs.lemmas.Nodes.{same_kinds}
use Rattle.s_linear.specs.Linear.{Code, no_steps}
use Rattle.s_linear.specs.Lines.{enter, leave, done, names_below, lines}
use Rattle.val_core.specs.Numbers.{numbers_from}
use Rattle.s_linear.proofs.lemmas.Passing.{StepPasses, CodePasses, CodesPass, lines_pass}
use Rattle.s_sequence.specs.Sequence.{values_in, value_args, kept, Names, no_names, node_names, nodes_names, region_names, regions_names, last_names, first_standing, outputs_at, bases_from, bases, named, nodes_named, name_of, moves, name_at, without_states, op_instr, instrs_then, loop_results, nodes_code, node_step, branch_codes, branch_code, loop_step, body_code, value_name, sequenced}

-- ---- counts of values

take_args : (k : ℕ) (args : List Kind) → value_args (take k args) ≤ value_args args
take_args zero args = omega arith
take_args (suc k) [] = omega arith
take_args (suc k) (Value ∷ ks) = omega (arith, take_args k ks)
take_args (suc k) (Memory ∷ ks) = take_args k ks
take_args (suc k) (Io ∷ ks) = take_args k ks

take_values : (k : ℕ) (kinds : List (Option Kind)) → values_in (take k kinds) ≤ values_in kinds
take_values zero kinds = omega arith
take_values (suc k) [] = omega arith
take_values (suc k) (None ∷ ks) = take_values k ks
take_values (suc k) (Some Value ∷ ks) = omega (arith, take_values k ks)
take_values (suc k) (Some Memory ∷ ks) = take_values k ks
take_values (suc k) (Some Io ∷ ks) = take_values k ks

pub values_length : (kinds : List (Option Kind)) → values_in kinds ≤ length kinds
values_length [] = omega arith
values_length (None ∷ ks) = omega (arith, values_length ks)
values_length (Some Value ∷ ks) = omega (arith, values_length ks)
values_length (Some Memory ∷ ks) = omega (arith, values_length ks)
values_length (Some Io ∷ ks) = omega (arith, values_length ks)

pub args_length : (args : List Kind) → value_args args ≤ length args
args_length [] = omega arith
args_length (Value ∷ ks) = omega (arith, args_length ks)
args_length (Memory ∷ ks) = omega (arith, args_length ks)
args_length (Io ∷ ks) = omega (arith, args_length ks)

pub kept_length : (ks : List (Option Kind)) (xs : List ℕ) → length (kept ks xs) ≤ values_in ks
kept_length [] xs = omega arith
kept_length (None ∷ ks) [] = omega arith
kept_length (Some Value ∷ ks) [] = omega arith
kept_length (Some Memory ∷ ks) [] = omega arith
kept_length (Some Io ∷ ks) [] = omega arith
kept_length (None ∷ ks) (x ∷ xs) = kept_length ks xs
kept_length (Some Value ∷ ks) (x ∷ xs) = omega (arith, kept_length ks xs)
kept_length (Some Memory ∷ ks) (x ∷ xs) = kept_length ks xs
kept_length (Some Io ∷ ks) (x ∷ xs) = kept_length ks xs

are_values : (xs : List (Option Kind)) (ks : List Kind) → are xs ks ≡ true → values_in xs ≡ value_args ks
are_values [] [] e = refl
are_values [] (k ∷ ks) e = absurd (cc)
are_values (None ∷ xs) ks e = absurd (cc)
are_values (Some Value ∷ xs) [] e = absurd (cc)
are_values (Some Memory ∷ xs) [] e = absurd (cc)
are_values (Some Io ∷ xs) [] e = absurd (cc)
are_values (Some Value ∷ xs) (Value ∷ ks) e = ap suc (are_values xs ks e)
are_values (Some Value ∷ xs) (Memory ∷ ks) e = absurd (cc)
are_values (Some Value ∷ xs) (Io ∷ ks) e = absurd (cc)
are_values (Some Memory ∷ xs) (Value ∷ ks) e = absurd (cc)
are_values (Some Memory ∷ xs) (Memory ∷ ks) e = are_values xs ks e
are_values (Some Memory ∷ xs) (Io ∷ ks) e = absurd (cc)
are_values (Some Io ∷ xs) (Value ∷ ks) e = absurd (cc)
are_values (Some Io ∷ xs) (Memory ∷ ks) e = absurd (cc)
are_values (Some Io ∷ xs) (Io ∷ ks) e = are_values xs ks e

pub body_values : (n : ℕ) → value_args (replicate n Value ++ Memory ∷ Io ∷ []) ≡ n
body_values zero = refl
body_values (suc n) = ap suc (body_values n)

mutual
  pub names_values : (r : RegionTree) → region_names r < region_values r
  names_values (region args nodes results) = omega (arith, args_length args, nodes_names_values nodes)

  pub node_names_values : (x : NodeTree) → node_names x ≤ node_values x
  node_names_values (node id op inputs rs) = omega (arith, values_length (outputs_of op rs), regions_names_values rs)

  pub nodes_names_values : (ns : NodeTrees) → nodes_names ns ≤ nodes_values ns
  nodes_names_values no_nodes = omega arith
  nodes_names_values (node_then x xs) = omega (arith, node_names_values x, nodes_names_values xs)

  regions_names_values : (rs : RegionTrees) → regions_names rs ≤ regions_values rs
  regions_names_values no_regions = omega arith
  regions_names_values (region_then r rs) = omega (arith, names_values r, regions_names_values rs)

-- ---- names below n

abbrev others_names : RegionTrees → ℕ
others_names no_regions = 0
others_names (region_then r no_regions) = 0
others_names (region_then r (region_then s rs)) = region_names r + others_names (region_then s rs)

all_names : (rs : RegionTrees) → regions_names rs ≡ last_names rs + others_names rs
all_names no_regions = refl
all_names (region_then r no_regions) = refl
all_names (region_then r (region_then s rs)) = omega (arith, all_names (region_then s rs))

pub standing_names : (rs : RegionTrees) → first_standing rs ≤ regions_names rs
standing_names no_regions = omega arith
standing_names (region_then r no_regions) = omega arith
standing_names (region_then r (region_then s no_regions)) = omega arith
standing_names (region_then r (region_then s (region_then t rs))) = omega (arith, all_names (region_then r (region_then s (region_then t rs))))

module _ (n : ℕ) where
  abbrev Each : List ℕ → Type 0
  Each xs = all_of (λ x. nat_lt x n) xs ≡ true

  cons : (x : ℕ) (xs : List ℕ) → x < n → Each xs → Each (x ∷ xs)
  cons x xs h k = and_from (nat_lt x n) (all_of (λ x. nat_lt x n) xs) (lt-ltb x n h) k

  front : (x : ℕ) (xs : List ℕ) → Each (x ∷ xs) → x < n
  front x xs h = ltb-true x n ((and_parts (nat_lt x n) (all_of (λ x. nat_lt x n) xs) h).0)

  rest : (x : ℕ) (xs : List ℕ) → Each (x ∷ xs) → Each xs
  rest x xs h = (and_parts (nat_lt x n) (all_of (λ x. nat_lt x n) xs) h).1

  each_map : (f : Origin → ℕ) (os : List Origin) → ((o : Origin) → f o < n) → Each (map f os)
  each_map f [] h = refl
  each_map f (o ∷ os) h = cons (f o) (map f os) (h o) (each_map f os h)

  each_kept : (ks : List (Option Kind)) (xs : List ℕ) → Each xs → Each (kept ks xs)
  each_kept [] xs h = refl
  each_kept (None ∷ ks) [] h = refl
  each_kept (Some Value ∷ ks) [] h = refl
  each_kept (Some Memory ∷ ks) [] h = refl
  each_kept (Some Io ∷ ks) [] h = refl
  each_kept (None ∷ ks) (x ∷ xs) h = each_kept ks xs (rest x xs h)
  each_kept (Some Value ∷ ks) (x ∷ xs) h = cons x (kept ks xs) (front x xs h) (each_kept ks xs (rest x xs h))
  each_kept (Some Memory ∷ ks) (x ∷ xs) h = each_kept ks xs (rest x xs h)
  each_kept (Some Io ∷ ks) (x ∷ xs) h = each_kept ks xs (rest x xs h)

  each_argument : (xs : List ℕ) → Each xs → Each (without_states xs)
  each_argument [] h = refl
  each_argument (x ∷ []) h = refl
  each_argument (x ∷ y ∷ []) h = refl
  each_argument (x ∷ y ∷ z ∷ xs) h = cons x (without_states (y ∷ z ∷ xs)) (front x (y ∷ z ∷ xs) h) (each_argument (y ∷ z ∷ xs) (rest x (y ∷ z ∷ xs) h))

  each_number : (first count : ℕ) → first + count ≤ n → Each (numbers_from first count)
  each_number first zero h = refl
  each_number first (suc c) h = cons first (numbers_from (suc first) c) (omega arith) (each_number (suc first) c (omega arith))

  at_0 : (xs : List ℕ) → 0 < n → Each xs → name_at xs 0 < n
  at_0 [] z h = z
  at_0 (x ∷ xs) z h = front x xs h

  at_1 : (xs : List ℕ) → 0 < n → Each xs → name_at xs 1 < n
  at_1 [] z h = z
  at_1 (x ∷ []) z h = z
  at_1 (x ∷ y ∷ xs) z h = front y xs (rest x (y ∷ xs) h)

  -- two names, after others
  pair : (xs : List ℕ) → 0 < n → Each xs → Each (name_at xs 0 ∷ name_at xs 1 ∷ [])
  pair xs z k = cons (name_at xs 0) (name_at xs 1 ∷ []) (at_0 xs z k) (cons (name_at xs 1) [] (at_1 xs z k) refl)

  single : (xs : List ℕ) → 0 < n → Each xs → Each (name_at xs 0 ∷ [])
  single xs z k = cons (name_at xs 0) [] (at_0 xs z k) refl

  made : (op : Op) (t : ℕ) (xs : List ℕ) → t < n → Each xs → names_below n (done (op_instr op t xs)) ≡ true
  made (Const w) t xs h k = cons t [] h refl
  made Undef t xs h k = cons t [] h refl
  made (Local j) t xs h k = cons t [] h refl
  made (Delta j) t xs h k = cons t [] h refl
  made (Bin o) t xs h k = cons t (name_at xs 0 ∷ name_at xs 1 ∷ []) h (pair xs (omega arith) k)
  made (Un o) t xs h k = cons t (name_at xs 0 ∷ []) h (single xs (omega arith) k)
  made (Load width) t xs h k = cons t (name_at xs 0 ∷ []) h (single xs (omega arith) k)
  made (Store width) t xs h k = pair xs (omega arith) k
  made (Clear j) t xs h k = refl
  made PtrEq t xs h k = cons t (name_at xs 0 ∷ name_at xs 1 ∷ []) h (pair xs (omega arith) k)
  made (Apply f) t xs h k = cons t (without_states xs) h (each_argument xs k)
  made Put t xs h k = single xs (omega arith) k
  made Exit t xs h k = single xs (omega arith) k
  made Get t xs h k = cons t [] h refl
  made Gamma t xs h k = cons t [] h refl
  made Theta t xs h k = cons t [] h refl

  moves_pass : (t : ℕ) (xs : List ℕ) (k : Code) → t + length xs ≤ n → Each xs → CodePasses (names_below n) k → CodePasses (names_below n) (instrs_then (moves t xs) k)
  moves_pass t [] k h e q = q
  moves_pass t (x ∷ xs) k h e q = (cons t (x ∷ []) (omega arith) (cons x [] (front x xs e) refl), moves_pass (suc t) xs k (omega arith) (rest x xs e) q)

  moves_hold : (t : ℕ) (xs : List ℕ) → t + length xs ≤ n → Each xs → all_of (names_below n) (map done (moves t xs)) ≡ true
  moves_hold t [] h e = refl
  moves_hold t (x ∷ xs) h e = and_from _ _ (cons t (x ∷ []) (omega arith) (cons x [] (front x xs e) refl)) (moves_hold (suc t) xs (omega arith) (rest x xs e))

  abbrev AreBelow : Names → Type 0
  AreBelow names = (i p : ℕ) → names i p < n

  name_below : (args : List Kind) (base : ℕ) (names : Names) → base + value_args args < n → AreBelow names → (o : Origin) → name_of args base names o < n
  name_below args base names h k (Arg j) = omega (arith, take_args j args)
  name_below args base names h k (Out i p) = k i p

  -- an op without regions, with its inputs
  own : (op : Op) (args : List Kind) (base : ℕ) (names : Names) (next : ℕ) (inputs : List Origin) → base + value_args args < n → AreBelow names → next < n →
      names_below n (done (op_instr op next (map (name_of args base names) inputs))) ≡ true
  own op args base names next inputs a b c =
      made op next (map (name_of args base names) inputs) c (each_map (name_of args base names) inputs (name_below args base names a b))

  named_below : (x : NodeTree) (next : ℕ) (names : Names) → next + node_names x < n → AreBelow names → AreBelow (named x next names)
  named_below (node id op inputs rs) next names h k i p = by_test (i == id)
    where
      by_test : (t : Bool) → (if t then outputs_at next rs + values_in (take p (output_kinds (node id op inputs rs))) else names i p) < n
      by_test true = omega (arith, standing_names rs, take_values p (outputs_of op rs))
      by_test false = k i p

  nodes_named_below : (ns : NodeTrees) (next : ℕ) (names : Names) → next + nodes_names ns < n → AreBelow names → AreBelow (nodes_named ns next names)
  nodes_named_below no_nodes next names h k = k
  nodes_named_below (node_then x ns) next names h k =
      nodes_named_below ns (next + node_names x) (named x next names) (omega arith) (named_below x next names (omega arith) k)

  -- the names of each region end below n
  abbrev BasesFit : List ℕ → RegionTrees → Type 0
  BasesFit [] rs = Unit {0}
  BasesFit (b ∷ bs) no_regions = Unit {0}
  BasesFit (b ∷ bs) (region_then r rs) = (b + region_names r < n) × BasesFit bs rs

  bases_from_fit : (next at : ℕ) (rs : RegionTrees) → next + last_names rs < n → at + others_names rs < n → BasesFit (bases_from next at rs) rs
  bases_from_fit next at no_regions a b = tt
  bases_from_fit next at (region_then r no_regions) a b = (a, tt)
  bases_from_fit next at (region_then r (region_then s rs)) a b = (omega arith, bases_from_fit next (at + region_names r) (region_then s rs) a (omega arith))

  bases_fit : (next outputs : ℕ) (rs : RegionTrees) → next + (regions_names rs + outputs) < n → BasesFit (bases next outputs rs) rs
  bases_fit next outputs no_regions h = tt
  bases_fit next outputs (region_then r no_regions) h = (omega arith, tt)
  bases_fit next outputs (region_then r (region_then s no_regions)) h = (omega arith, (omega arith, tt))
  bases_fit next outputs (region_then r (region_then s (region_then t rs))) h =
      let all : RegionTrees = region_then r (region_then s (region_then t rs)) in
      bases_from_fit next (next + last_names all + outputs) all (omega (arith, all_names all)) (omega (arith, all_names all))

  -- the results of each region fit where the outputs are
  abbrev ResultsFit : ℕ → RegionTrees → Type 0
  ResultsFit outputs no_regions = Unit {0}
  ResultsFit outputs (region_then r rs) = (outputs + values_in (result_kinds r) ≤ n) × ResultsFit outputs rs

  results_fit : (outputs : ℕ) (args ks : List Kind) (rs : RegionTrees) → outputs + value_args ks ≤ n →
      all_regions (λ r. same (args_of r) args && are (result_kinds r) ks) rs ≡ true →
      ResultsFit outputs rs
  results_fit outputs args ks no_regions h e = tt
  results_fit outputs args ks (region_then r rs) h e =
      let own = (and_parts (same (args_of r) args) (are (result_kinds r) ks)
      ((and_parts _ (all_regions (λ r. same (args_of r) args && are (result_kinds r) ks) rs) e).0)).1 in
      (omega (arith, are_values (result_kinds r) ks own), results_fit outputs args ks rs h ((and_parts (same (args_of r) args && are (result_kinds r) ks) _ e).1))

  loop_length : (args : List Kind) (xs : List ℕ) → length (loop_results args xs) ≤ value_args args
  loop_length args [] = omega arith
  loop_length args (x ∷ xs) = kept_length (map Some args) xs

  each_result : (args : List Kind) (xs : List ℕ) → Each xs → Each (loop_results args xs)
  each_result args [] h = refl
  each_result args (x ∷ xs) h = each_kept (map Some args) xs (rest x xs h)

  numbers_length : (first count : ℕ) → length (numbers_from first count) ≡ count
  numbers_length first zero = refl
  numbers_length first (suc c) = ap suc (numbers_length (suc first) c)

  gamma_results : (objects : ℕ) (args : List Kind) (before : NodeTrees) (id : ℕ) (inputs : List Origin) (r : RegionTree) (rs : RegionTrees) (outputs : ℕ) →
      node_fits objects args before (node id Gamma inputs (region_then r rs)) ≡ true → outputs + values_in (result_kinds r) ≤ n → ResultsFit outputs (region_then r rs)
  gamma_results objects args before id inputs r rs outputs e h =
      let x : NodeTree = node id Gamma inputs (region_then r rs) in
      let ks : List Kind = kinds_of (result_kinds r) in
      let fit : regions_fit x ≡ true = (and_parts _ (regions_fit x)
      ((and_parts _ (theta_has_states x) ((and_parts _ (has_its_width x) ((and_parts _ (has_its_object objects x) e).0)).0)).0)).1 in
      let own : are (result_kinds r) ks ≡ true =
      (and_parts (same (args_of r) (args_of r)) (are (result_kinds r) ks)
      ((and_parts _ (all_regions (λ s. same (args_of s) (args_of r) && are (result_kinds s) ks) rs) fit).0)).1 in
      results_fit outputs (args_of r) ks (region_then r rs) (omega (arith, are_values (result_kinds r) ks own)) fit

  module _ (objects : ℕ) where
    nodes_are : (args : List Kind) (nodes : NodeTrees) (results : List Origin) → every_region (region_fits objects) (region args nodes results) ≡ true →
        each_node (node_fits objects args) [] nodes ≡ true
    nodes_are args nodes results e =
        let here : region_fits objects (region args nodes results) ≡ true = (and_parts _ (every_in_nodes (region_fits objects) nodes) e).0 in
        (and_parts _ (results_are_last (region args nodes results))
        ((and_parts _ (returns_state Memory (region args nodes results))
        ((and_parts _ (returns_state Io (region args nodes results)) ((and_parts _ (region_has_one_state_each (region args nodes results)) here).0)).0)).0)).0

    mutual
      nodes_pass : (args : List Kind) (base : ℕ) (names : Names) (next : ℕ) (before : List NodeTree) (ns : NodeTrees) (k : Code) → base + value_args args < n →
          AreBelow names →
          next + nodes_names ns < n → each_node (node_fits objects args) before ns ≡ true → every_in_nodes (region_fits objects) ns ≡ true →
          CodePasses (names_below n) k →
          CodePasses (names_below n) (nodes_code args base names next ns k)
      nodes_pass args base names next before no_nodes k a b c e inside q = q
      nodes_pass args base names next before (node_then x xs) k a b c e inside q = (
        node_passes args base names next (nodes_of before) x a b (omega arith) ((and_parts (node_fits objects args (nodes_of before) x) _ e).0)
            ((and_parts (every_in_node (region_fits objects) x) _ inside).0),
        nodes_pass args base (named x next names) (next + node_names x) (before ++ x ∷ []) xs k a (named_below x next names (omega arith) b) (omega arith)
            ((and_parts (node_fits objects args (nodes_of before) x) _ e).1) ((and_parts (every_in_node (region_fits objects) x) _ inside).1) q,
      )

      node_passes : (args : List Kind) (base : ℕ) (names : Names) (next : ℕ) (before : NodeTrees) (x : NodeTree) → base + value_args args < n → AreBelow names →
          next + node_names x < n →
          node_fits objects args before x ≡ true → every_in_node (region_fits objects) x ≡ true → StepPasses (names_below n) (node_step args base names next x)
      node_passes args base names next before (node id (Const w) inputs rs) a b c e inside = own (Const w) args base names next inputs a b (omega arith)
      node_passes args base names next before (node id Undef inputs rs) a b c e inside = own Undef args base names next inputs a b (omega arith)
      node_passes args base names next before (node id (Local k) inputs rs) a b c e inside = own (Local k) args base names next inputs a b (omega arith)
      node_passes args base names next before (node id (Delta k) inputs rs) a b c e inside = own (Delta k) args base names next inputs a b (omega arith)
      node_passes args base names next before (node id (Bin o) inputs rs) a b c e inside = own (Bin o) args base names next inputs a b (omega arith)
      node_passes args base names next before (node id (Un o) inputs rs) a b c e inside = own (Un o) args base names next inputs a b (omega arith)
      node_passes args base names next before (node id (Load width) inputs rs) a b c e inside = own (Load width) args base names next inputs a b (omega arith)
      node_passes args base names next before (node id (Store width) inputs rs) a b c e inside = own (Store width) args base names next inputs a b (omega arith)
      node_passes args base names next before (node id (Clear k) inputs rs) a b c e inside = own (Clear k) args base names next inputs a b (omega arith)
      node_passes args base names next before (node id PtrEq inputs rs) a b c e inside = own PtrEq args base names next inputs a b (omega arith)
      node_passes args base names next before (node id (Apply f) inputs rs) a b c e inside = own (Apply f) args base names next inputs a b (omega arith)
      node_passes args base names next before (node id Put inputs rs) a b c e inside = own Put args base names next inputs a b (omega arith)
      node_passes args base names next before (node id Exit inputs rs) a b c e inside = own Exit args base names next inputs a b (omega arith)
      node_passes args base names next before (node id Get inputs rs) a b c e inside = own Get args base names next inputs a b (omega arith)
      node_passes args base names next before (node id Gamma [] rs) a b c e inside = cons next [] (omega arith) refl
      node_passes args base names next before (node id Gamma (o ∷ entries) no_regions) a b c e inside = (
        (λ two. (
          (λ r l. cons (name_of args base names o) [] (name_below args base names a b o) refl),
          (λ l. cons (name_of args base names o) [] (name_below args base names a b o) refl),
        )),
        tt,
      )
      node_passes args base names next before (node id Gamma (o ∷ entries) (region_then r rs)) a b c e inside = (
        (λ two. (
          (λ r l. cons (name_of args base names o) [] (name_below args base names a b o) refl),
          (λ l. cons (name_of args base names o) [] (name_below args base names a b o) refl),
        )),
        branches_pass (map (name_of args base names) entries) (outputs_at next (region_then r rs)) (bases next (values_in (result_kinds r)) (region_then r rs))
            (region_then r rs)
            (each_map _ entries (name_below args base names a b)) (bases_fit next (values_in (result_kinds r)) (region_then r rs) c)
            (gamma_results objects args before id (o ∷ entries) r rs (outputs_at next (region_then r rs)) e (omega (arith, standing_names (region_then r rs)))) inside,
      )
      node_passes args base names next before (node id Theta inputs no_regions) a b c e inside = cons next [] (omega arith) refl
      node_passes args base names next before (node id Theta inputs (region_then r no_regions)) a b c e inside =
          loop_passes (map (name_of args base names) inputs) next r (each_map _ inputs (name_below args base names a b)) (omega arith)
          ((and_parts (every_region (region_fits objects) r) _ inside).0)
      node_passes args base names next before (node id Theta inputs (region_then r (region_then s rs))) a b c e inside = cons next [] (omega arith) refl

      branches_pass : (entries : List ℕ) (outputs : ℕ) (bs : List ℕ) (rs : RegionTrees) → Each entries → BasesFit bs rs → ResultsFit outputs rs →
          every_in_regions (region_fits objects) rs ≡ true →
          CodesPass (names_below n) (branch_codes entries outputs bs rs)
      branches_pass entries outputs [] rs a b c inside = tt
      branches_pass entries outputs (x ∷ bs) no_regions a b c inside = tt
      branches_pass entries outputs (x ∷ bs) (region_then r rs) a b c inside = (
        branch_passes entries outputs x r a b.0 c.0 ((and_parts (every_region (region_fits objects) r) _ inside).0),
        branches_pass entries outputs bs rs a b.1 c.1 ((and_parts (every_region (region_fits objects) r) _ inside).1),
      )

      branch_passes : (entries : List ℕ) (outputs base : ℕ) (r : RegionTree) → Each entries → base + region_names r < n → outputs + values_in (result_kinds r) ≤ n →
          every_region (region_fits objects) r ≡ true → CodePasses (names_below n) (branch_code entries outputs base r)
      branch_passes entries outputs base (region args nodes results) a b c inside =
          let kinds : List (Option Kind) = result_kinds (region args nodes results) in
          let names : Names = nodes_named nodes (base + value_args args) no_names in
          moves_pass base (kept (map Some args) entries) _ (omega (arith, kept_length (map Some args) entries)) (each_kept (map Some args) entries a)
          (nodes_pass args base no_names (base + value_args args) [] nodes _ (omega arith) (λ i p. omega arith) (omega arith) (nodes_are args nodes results inside)
          ((and_parts (region_fits objects (region args nodes results)) _ inside).1)
          (moves_pass outputs (kept kinds (map (name_of args base names) results)) no_steps (omega (arith, kept_length kinds (map (name_of args base names) results)))
          (each_kept kinds (map (name_of args base names) results)
          (each_map (name_of args base names) results (name_below args base names (omega arith)
          (nodes_named_below nodes (base + value_args args) no_names (omega arith) (λ i p. omega arith))))) tt))

      loop_passes : (entries : List ℕ) (next : ℕ) (r : RegionTree) → Each entries → next + (region_names r + value_args (args_of r)) < n →
          every_region (region_fits objects) r ≡ true →
          StepPasses (names_below n) (loop_step entries next r)
      loop_passes entries next (region args nodes results) a b inside =
          let own : Names = nodes_named nodes (next + value_args args) no_names in
          let names : List ℕ = map (name_of args next own) results in
          let outputs : ℕ = next + value_args args + nodes_names nodes in
          let each : Each names =
          each_map (name_of args next own) results (name_below args next own (omega arith)
          (nodes_named_below nodes (next + value_args args) no_names (omega arith) (λ i p. omega arith))) in (
            moves_hold next (kept (map Some args) entries) (omega (arith, kept_length (map Some args) entries)) (each_kept (map Some args) entries a),
            nodes_pass args next no_names (next + value_args args) [] nodes _ (omega arith) (λ i p. omega arith) (omega arith) (nodes_are args nodes results inside)
                ((and_parts (region_fits objects (region args nodes results)) _ inside).1)
                (moves_pass outputs (loop_results args names) no_steps (omega (arith, loop_length args names)) (each_result args names each) tt),
            (λ l. cons (name_at names 0) [] (at_0 names (omega arith) each) refl),
            moves_hold next (numbers_from outputs (value_args args)) (omega (arith, numbers_length outputs (value_args args)))
                (each_number outputs (value_args args) (omega arith)),
          )

    body_passes : (r : RegionTree) → region_names r < n → every_region (region_fits objects) r ≡ true → CodePasses (names_below n) (body_code r)
    body_passes (region args nodes results) h e =
        nodes_pass args 0 no_names (value_args args) [] nodes no_steps (omega arith) (λ i p. omega arith) (omega arith) (nodes_are args nodes results e)
        ((and_parts (region_fits objects (region args nodes results)) _ e).1) tt

    value_below : (r : RegionTree) → region_names r < n → value_name r < n
    value_below (region args nodes results) h =
        at_0 _ (omega arith)
        (each_map (name_of args 0 (nodes_named nodes (value_args args) no_names)) results
        (name_below args 0 (nodes_named nodes (value_args args) no_names) (omega arith)
        (nodes_named_below nodes (value_args args) no_names (omega arith) (λ i p. omega arith))))

params_are : (l : PlainLambda) → body_fits l ≡ true → l.params ≤ region_names l.body
params_are l e = by_form l.body ((and_parts (same (args_of l.body) (replicate l.params Value ++ Memory ∷ Io ∷ [])) _ e).0)
  where
    by_form : (r : RegionTree) → same (args_of r) (replicate l.params Value ++ Memory ∷ Io ∷ []) ≡ true → l.params ≤ region_names r
    by_form (region args nodes results) h = omega (arith, are_values (map Some args) (replicate l.params Value ++ Memory ∷ Io ∷ []) h, body_values l.params)

-- the parameters, the names of the code and that of the value are below the number of values
pub parts_are_below : (l : PlainLambda) → IsWellFormed l → (names_below (region_values l.body) (enter (numbers_from 0 l.params)) ≡ true)
    × CodePasses (names_below (region_values l.body)) (sequenced l).code × (names_below (region_values l.body) (leave (value_name l.body)) ≡ true)
parts_are_below l w =
    let n : ℕ = region_values l.body in
    let own : (body_fits l && numbers_fit l && every_region (region_fits (length l.objects)) l.body) ≡ true =
    (and_parts (body_fits l && numbers_fit l && every_region (region_fits (length l.objects)) l.body) (all_of (λ o. leaves_fit o.size 0 o.leaves) l.objects) w).0 in
    let fit : body_fits l ≡ true = (and_parts (body_fits l) (numbers_fit l)
    ((and_parts (body_fits l && numbers_fit l) (every_region (region_fits (length l.objects)) l.body) own).0)).0 in (
      each_number n 0 l.params (omega (arith, params_are l fit, names_values l.body)),
      body_passes n (length l.objects) l.body (names_values l.body)
          ((and_parts (body_fits l && numbers_fit l) (every_region (region_fits (length l.objects)) l.body) own).1),
      cons n (value_name l.body) [] (value_below n (length l.objects) l.body (names_values l.body)) refl,
    )

pub names_are_below : (l : PlainLambda) → IsWellFormed l → all_of (names_below (region_values l.body)) (lines (sequenced l)) ≡ true
names_are_below l w =
    let h = parts_are_below l w in
    lines_pass (names_below (region_values l.body)) (λ l. refl) (λ l. refl) (sequenced l) h.0 h.1 h.2

-- ---- parameters

firsts_are : (n k : ℕ) (ks : List Kind) → k < n → value_args (take k (replicate n Value ++ ks)) ≡ k
firsts_are zero k ks e = absurd (omega (arith, e))
firsts_are (suc n) zero ks e = refl
firsts_are (suc n) (suc k) ks e = ap suc (firsts_are n k ks (omega (arith, e)))

pub params_first : (l : PlainLambda) → IsWellFormed l → ((k : ℕ) → k < l.params → name_of (args_of l.body) 0 no_names (Arg k) ≡ k) × (value_args (args_of l.body) ≡ l.params)
params_first l w =
    let own : (body_fits l && numbers_fit l && every_region (region_fits (length l.objects)) l.body) ≡ true =
    (and_parts (body_fits l && numbers_fit l && every_region (region_fits (length l.objects)) l.body) (all_of (λ o. leaves_fit o.size 0 o.leaves) l.objects) w).0 in
    let fit : body_fits l ≡ true = (and_parts (body_fits l) (numbers_fit l)
    ((and_parts (body_fits l && numbers_fit l) (every_region (region_fits (length l.objects)) l.body) own).0)).0 in
    let args : args_of l.body ≡ replicate l.params Value ++ Memory ∷ Io ∷ [] =
    same_kinds (args_of l.body) (replicate l.params Value ++ Memory ∷ Io ∷ []) ((and_parts (same (args_of l.body) (replicate l.params Value ++ Memory ∷ Io ∷ [])) _ fit).0) in (
      (λ k e. let first : value_args (take k (args_of l.body)) ≡ k =
          ap (λ ks. value_args (take k ks)) args ∙ firsts_are l.params k (Memory ∷ Io ∷ []) e in
          omega (arith, first)),
      (ap value_args args ∙ body_values l.params),
    )
