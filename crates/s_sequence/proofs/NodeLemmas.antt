-- One node more: what the scope holds, and the lines.
use Rattle.std.proofs.Common.{◌≡◌, ℕ, zero, suc, ◌+◌, Bool, true, false, List, [], ◌∷◌, ◌++◌, map, take, refl, ap, sym, ◌∙◌, append_assoc, ◌<◌, subst, arith}
use Rattle.std.specs.Prelude.{◌==◌, if◌then◌else◌, slice_get}
use Rattle.std.specs.declared.option.Option.TheVariants.{Some, None}
use Rattle.g_graph.specs.declared.op.Kind.{Kind}
use Rattle.g_graph.specs.declared.op.Origin.{Origin}
use Rattle.g_graph.specs.declared.op.Origin.TheVariants.{Arg, Out}
use Rattle.g_graph.specs.Plain.{RegionTree, region, NodeTree, node, NodeTrees, node_then, id_of, args_of, nodes_in}
use Rattle.g_graph.specs.Signatures.{joined, kind_after, output_kinds, outputs_of}
use Rattle.g_graph.specs.Count.{region_values, nodes_values}
use Rattle.s_linear.specs.Linear.{Code}
use Rattle.s_linear.specs.Lines.{Line, step_lines, step_labels, code_lines}
use Rattle.g_graph.proofs.lemmas.Unique.{equal_back}
use Rattle.s_sequence.specs.declared.ports.Port.{Port}
use Rattle.s_sequence.specs.declared.scope.Scope.{Scope}
use Rattle.s_sequence.specs.Sequence.{values_in, value_args, Names, no_names, name_of, named, node_names, nodes_names, region_names, nodes_named, outputs_at, nodes_code, node_step}
use Rattle.s_sequence.specs.Ports.{ports_from, port_at}
use Rattle.s_sequence.specs.Scope.{port_in, name_in, kind_in, names_in}
use Rattle.s_sequence.specs.Shape.{NodeShaped, NodesShaped, RegionShaped}
use Rattle.s_sequence.specs.Written.{node_labels, nodes_labels, region_labels, node_ports, region_port, region_code}
use Rattle.s_sequence.proofs.lemmas.Named.{args_length}
use Rattle.s_sequence.proofs.PortLemmas.{port_of_kinds}
use Rattle.s_sequence.proofs.LabelLemmas.{step_labels_are}

-- ---- arguments

taken : (k : ℕ) (args : List Kind) → take k (map Some args) ≡ map Some (take k args)
taken zero args = refl
taken (suc k) [] = refl
taken (suc k) (a ∷ args) = ap (λ ks. Some a ∷ ks) (taken k args)

got : (k : ℕ) (args : List Kind) → joined (slice_get (map Some args) k) ≡ slice_get args k
got zero [] = refl
got (suc k) [] = refl
got zero (a ∷ args) = refl
got (suc k) (a ∷ args) = got k args

pub argument_is : (scope : Scope) (args : List Kind) (base k : ℕ) → scope.args ≡ ports_from base (map Some args) →
    port_in scope (Arg k) ≡ record { name = base + value_args (take k args); kind = slice_get args k }
argument_is scope args base k e =
    ap (λ ports. port_at ports k) e ∙ port_of_kinds base (map Some args) k
    ∙ ap (λ ks. record { name = base + values_in ks; kind = joined (slice_get (map Some args) k) }) (taken k args)
    ∙ ap (λ kind. record { name = base + value_args (take k args); kind = kind }) (got k args)

-- the names of origins, in a region whose arguments the scope has
pub names_same : (scope : Scope) (args : List Kind) (base : ℕ) → scope.args ≡ ports_from base (map Some args) → (o : Origin) →
    name_in scope o ≡ name_of args base (names_in scope) o
names_same scope args base e (Arg k) = ap (λ (p : Port). p.name) (argument_is scope args base k e)
names_same scope args base e (Out n p) = refl

pub region_ports : (r : RegionTree) (scope : Scope) (base : ℕ) → scope.args ≡ ports_from base (map Some (args_of r)) →
    ((n p : ℕ) → name_in scope (Out n p) ≡ (region_port base r (Out n p)).name) → ((n p : ℕ) → kind_in scope (Out n p) ≡ (region_port base r (Out n p)).kind) →
    (o : Origin) → port_in scope o ≡ region_port base r o
region_ports (region args nodes results) scope base e names kinds (Arg k) = argument_is scope args base k e
region_ports (region args nodes results) scope base e names kinds (Out n p) = λ i. record { name = names n p i; kind = kinds n p i }

-- ---- a node

module _ (x : NodeTree) (scope after : Scope) (next : ℕ)
    (outputs : (n p : ℕ) → port_in after (Out n p) ≡ (if n == id_of x then port_at (node_ports next x) p else port_in scope (Out n p))) where
  name_after : (n p : ℕ) → names_in after n p ≡ named x next (names_in scope) n p
  name_after n p = ap (λ (q : Port). q.name) (outputs n p) ∙ by_node x n p
    where
      by_node : (y : NodeTree) (n p : ℕ) → (if n == id_of y then port_at (node_ports next y) p else port_in scope (Out n p)).name ≡ named y next (names_in scope) n p
      by_node (node id op inputs rs) n p = by_test (n == id)
        where
          by_test : (t : Bool) → (if t then port_at (node_ports next (node id op inputs rs)) p else port_in scope (Out n p)).name
              ≡ (if t then outputs_at next rs + values_in (take p (outputs_of op rs)) else names_in scope n p)
          by_test true = ap (λ (q : Port). q.name) (port_of_kinds (outputs_at next rs) (outputs_of op rs) p)
          by_test false = refl

  pub names_after : names_in after ≡ named x next (names_in scope)
  names_after = λ i n p. name_after n p i

  pub kind_known : (n p : ℕ) → kind_in after (Out n p) ≡ (if id_of x == n then joined (slice_get (output_kinds x) p) else kind_in scope (Out n p))
  kind_known n p = ap (λ (q : Port). q.kind) (outputs n p ∙ ap (λ t. if t then port_at (node_ports next x) p else port_in scope (Out n p)) (equal_back n (id_of x)))
      ∙ by_node x n p
    where
      by_node : (y : NodeTree) (n p : ℕ) → (if id_of y == n then port_at (node_ports next y) p else port_in scope (Out n p)).kind
          ≡ (if id_of y == n then joined (slice_get (output_kinds y) p) else kind_in scope (Out n p))
      by_node (node id op inputs rs) n p = by_test (id == n)
        where
          by_test : (t : Bool) → (if t then port_at (node_ports next (node id op inputs rs)) p else port_in scope (Out n p)).kind
              ≡ (if t then joined (slice_get (outputs_of op rs) p) else kind_in scope (Out n p))
          by_test true = ap (λ (q : Port). q.kind) (port_of_kinds (outputs_at next rs) (outputs_of op rs) p)
          by_test false = refl

  pub lines_after : (args : List Kind) (base : ℕ) (ns : NodeTrees) (l0 l1 : List Line) (k0 k1 n1 : ℕ) → NodeShaped x →
      l1 ≡ l0 ++ step_lines k0 (node_step args base (names_in scope) next x) → k1 ≡ k0 + node_labels x → n1 ≡ next + node_names x → (k : Code) →
      l1 ++ code_lines k1 (nodes_code args base (names_in after) n1 ns k) ≡ l0 ++ code_lines k0 (nodes_code args base (names_in scope) next (node_then x ns) k)
  lines_after args base ns l0 l1 k0 k1 n1 shaped e f g k =
      let s = node_step args base (names_in scope) next x in
      let rest : ℕ → Names → ℕ → List Line = λ m names n. code_lines m (nodes_code args base names n ns k) in
      ap (λ ls. ls ++ rest k1 (names_in after) n1) e ∙ append_assoc l0 (step_lines k0 s) (rest k1 (names_in after) n1)
      ∙ ap (λ m. l0 ++ (step_lines k0 s ++ rest m (names_in after) n1)) (f ∙ ap (λ m. k0 + m) (sym (step_labels_are args base (names_in scope) next x shaped)))
      ∙ ap (λ names. l0 ++ (step_lines k0 s ++ rest (k0 + step_labels s) names n1)) names_after
      ∙ ap (λ n. l0 ++ (step_lines k0 s ++ rest (k0 + step_labels s) (named x next (names_in scope)) n)) g

-- ---- before the first node

module _ (scope : Scope) (nothing : (n p : ℕ) → port_in scope (Out n p) ≡ record { name = 0; kind = None }) where
  nothing_named : names_in scope ≡ no_names
  nothing_named = λ i n p. (nothing n p i).name

  pub begin_code : (r : RegionTree) (ns : NodeTrees) → ns ≡ nodes_in r → (base next : ℕ) → next ≡ base + value_args (args_of r) → (k : Code) →
      nodes_code (args_of r) base (names_in scope) next ns k ≡ region_code base r k
  begin_code (region args nodes results) ns e base next f k =
      ap (λ zs. nodes_code args base (names_in scope) next zs k) e ∙ ap (λ names. nodes_code args base names next nodes k) nothing_named
      ∙ ap (λ m. nodes_code args base no_names m nodes k) f

  pub begin_names : (r : RegionTree) (ns : NodeTrees) → ns ≡ nodes_in r → (base next : ℕ) → next ≡ base + value_args (args_of r) → (n p : ℕ) →
      nodes_named ns next (names_in scope) n p ≡ (region_port base r (Out n p)).name
  begin_names (region args nodes results) ns e base next f n p =
      ap (λ zs. nodes_named zs next (names_in scope) n p) e ∙ ap (λ names. nodes_named nodes next names n p) nothing_named ∙ ap (λ m. nodes_named nodes m no_names n p) f

  pub begin_kinds : (r : RegionTree) (ns : NodeTrees) → ns ≡ nodes_in r → (base n p : ℕ) →
      kind_after ns n p (kind_in scope (Out n p)) ≡ (region_port base r (Out n p)).kind
  begin_kinds (region args nodes results) ns e base n p =
      ap (λ zs. kind_after zs n p (kind_in scope (Out n p))) e ∙ ap (λ (q : Port). kind_after nodes n p q.kind) (nothing n p)

pub region_names_are : (r : RegionTree) (ns : NodeTrees) → ns ≡ nodes_in r → value_args (args_of r) + nodes_names ns ≡ region_names r
region_names_are (region args nodes results) ns e = ap (λ zs. value_args args + nodes_names zs) e

pub region_labels_are : (r : RegionTree) (ns : NodeTrees) → ns ≡ nodes_in r → nodes_labels ns ≡ region_labels r
region_labels_are (region args nodes results) ns e = ap nodes_labels e

pub region_values_are : (r : RegionTree) (ns : NodeTrees) → ns ≡ nodes_in r → value_args (args_of r) + nodes_values ns < region_values r
region_values_are (region args nodes results) ns e = omega (arith, ap nodes_values e, args_length args)

pub region_shaped : (r : RegionTree) (ns : NodeTrees) → ns ≡ nodes_in r → RegionShaped r → NodesShaped ns
region_shaped (region args nodes results) ns e h = subst NodesShaped (sym e) h
