-- What is put together by the rules passes the tests of each region.
use Rattle.std.proofs.Common.{◌≡◌, inl, inr, ℕ, ◌-◌, zero, suc, true, List, [], ◌∷◌, ◌++◌, map, length, replicate, refl, sym, ap, ◌∙◌, subst}
use Rattle.std.specs.Prelude.{not, ◌&&◌, ◌||◌}
use Rattle.std.proofs.lemmas.Bool.{or_right}
use Rattle.std.specs.declared.option.Option.TheVariants.{Some}
use Rattle.g_graph.specs.declared.op.Kind.{Kind}
use Rattle.g_graph.specs.declared.op.Kind.TheVariants.{Value, Memory, Io}
use Rattle.g_graph.specs.declared.op.Origin.{Origin}
use Rattle.g_graph.specs.declared.op.Op.{Op}
use Rattle.g_graph.specs.declared.op.Op.TheVariants.{Const, Undef, Local, Delta, Bin, Un, Load, Store, Clear, PtrEq, Apply, Put, Exit, Get, Gamma, Theta}
use Rattle.g_graph.specs.Plain.{RegionTree, region, NodeTree, node, NodeTrees, no_nodes, node_then, nodes_of, RegionTrees, no_regions, region_then, id_of, args_of}
use Rattle.g_graph.specs.Signatures.{first_args, inputs_of, op_outputs, outputs_of, result_kinds}
use Rattle.g_graph.specs.Scope.{same_kind, is_of, known, each_node}
use Rattle.g_graph.specs.WellFormed.{all_of, some_of, all_regions, every_region, every_in_node, every_in_nodes, every_in_regions, are, same, one_state_each, inputs_fit, has_its_regions, kinds_of, regions_fit, theta_has_states, is_last, inputs_are_last, node_has_one_state_each, has_its_width, has_its_object, node_fits, gives, returns_state, region_fits}
use Rattle.g_graph.proofs.lemmas.KindLists.{are_themselves, kinds_of_some, some_kind}
use Rattle.g_graph.proofs.lemmas.Indexes.{gives_last}
use Rattle.g_build_keeps.specs.Formation.{Standing, at_start, after_node, Has, HasAll, HasBothStates, AreSome, IsOne, NodeForms, NodesForm, RegionForms, RegionsForm}
use Rattle.g_build_keeps.proofs.lemmas.Joins.{Ends}
use Rattle.g_build_keeps.proofs.Agree.{Agrees, agrees_start, agrees_node}
use Rattle.g_build_keeps.proofs.Outputs.{has_kinds, outputs_are, results_are, nodes_lead}

-- ---- kinds

-- ---- one of each state

-- a value more keeps the states
abbrev OneEach : List Kind → Type 0
OneEach ks = one_state_each (map Some ks) ≡ true

pub values_then_states : (n : ℕ) → OneEach (replicate n Value ++ Memory ∷ Io ∷ [])
values_then_states zero = refl
values_then_states (suc n) = values_then_states n

inputs_once : (op : Op) (n : ℕ) → OneEach (inputs_of op n no_regions)
inputs_once (Const w) n = refl
inputs_once Undef n = refl
inputs_once (Local k) n = refl
inputs_once (Delta k) n = refl
inputs_once (Bin o) n = refl
inputs_once (Un o) n = refl
inputs_once (Load w) n = refl
inputs_once (Store w) n = refl
inputs_once (Clear k) n = refl
inputs_once PtrEq n = refl
inputs_once (Apply f) n = values_then_states (n - 2)
inputs_once Put n = refl
inputs_once Exit n = refl
inputs_once Get n = refl
inputs_once Gamma n = refl
inputs_once Theta n = refl

outputs_once : (op : Op) → OneEach (op_outputs op)
outputs_once (Const w) = refl
outputs_once Undef = refl
outputs_once (Local k) = refl
outputs_once (Delta k) = refl
outputs_once (Bin o) = refl
outputs_once (Un o) = refl
outputs_once (Load w) = refl
outputs_once (Store w) = refl
outputs_once (Clear k) = refl
outputs_once PtrEq = refl
outputs_once (Apply f) = refl
outputs_once Put = refl
outputs_once Exit = refl
outputs_once Get = refl
outputs_once Gamma = refl
outputs_once Theta = refl

-- ---- origins

has_last : (args : List Kind) (before : NodeTrees) (c : Standing) (k : Kind) (o : Origin) → Agrees args before c → Has c k o → is_last args before o ≡ true
has_last args before c Value o g h = gives_last Value args before o (g.kind o ∙ h) (inl refl)
has_last args before c Memory o g h = gives_last Memory args before o (g.kind o ∙ h.0) (inr (g.memory ∙ ap Some h.1))
has_last args before c Io o g h = gives_last Io args before o (g.kind o ∙ h.0) (inr (g.io ∙ ap Some h.1))

have_last : (args : List Kind) (before : NodeTrees) (c : Standing) (ks : List Kind) (os : List Origin) → Agrees args before c → HasAll c ks os → all_of (is_last args before) os ≡ true
have_last args before c [] [] g h = refl
have_last args before c [] (o ∷ os) g h = absurd h
have_last args before c (k ∷ ks) [] g h = absurd h
have_last args before c (k ∷ ks) (o ∷ os) g h = λ i. has_last args before c k o g h.0 i && have_last args before c ks os g h.1 i

-- what is used where origins of these kinds are asked for, each state once
record Used (args : List Kind) (before : NodeTrees) (ks : List Kind) (os : List Origin) : Type 0 where
  kinds : are (map (known args before) os) ks ≡ true
  last : all_of (is_last args before) os ≡ true
  once : one_state_each (map (known args before) os) ≡ true

used : (args : List Kind) (before : NodeTrees) (c : Standing) (ks : List Kind) (os : List Origin) → Agrees args before c → HasAll c ks os → OneEach ks → Used args before ks os
used args before c ks os g h once =
    let e = has_kinds args before c ks os g h in
    record { kinds = ap (λ xs. are xs ks) e ∙ are_themselves ks; last = have_last args before c ks os g h; once = ap one_state_each e ∙ once }

-- ---- regions of one node

results_fit : (allowed : Op → ℕ → Type 0) (n : ℕ) (args outs : List Kind) (r : RegionTree) (m : ℕ) → HasBothStates args → RegionForms allowed n args outs r m →
    (args_of r ≡ args) × (are (result_kinds r) outs ≡ true)
results_fit a n args outs (region own nodes results) m b h = (h.0, ap (λ xs. are xs outs) (results_are a n args outs (region own nodes results) m b h) ∙ are_themselves outs)

gamma_regions : (allowed : Op → ℕ → Type 0) (n : ℕ) (args outs : List Kind) (rs : RegionTrees) (m : ℕ) → HasBothStates args → RegionsForm allowed n args outs rs m →
    all_regions (λ r. same (args_of r) args && are (result_kinds r) outs) rs ≡ true
gamma_regions a n args outs no_regions m b h = refl
gamma_regions a n args outs (region_then r rs) m b h =
    let f = results_fit a h.0 args outs r h.1 b h.4 in
    λ i. ((ap (λ own. same own args) f.0 ∙ are_themselves args) i && f.1 i) && gamma_regions a h.2 args outs rs h.3 b h.5 i

first_args_are : (allowed : Op → ℕ → Type 0) (n : ℕ) (args outs : List Kind) (rs : RegionTrees) (m : ℕ) → AreSome rs → RegionsForm allowed n args outs rs m → first_args rs ≡ args
first_args_are a n args outs no_regions m s h = absurd s
first_args_are a n args outs (region_then (region own nodes results) rs) m s h = h.4.0

theta_regions : (allowed : Op → ℕ → Type 0) (n : ℕ) (ks : List Kind) (rs : RegionTrees) (m : ℕ) → HasBothStates ks → RegionsForm allowed n ks (Value ∷ ks) rs m →
    all_regions (λ r. are (result_kinds r) (Value ∷ args_of r)) rs ≡ true
theta_regions a n ks no_regions m b h = refl
theta_regions a n ks (region_then r rs) m b h =
    let f = results_fit a h.0 ks (Value ∷ ks) r h.1 b h.4 in
    λ i. (ap (λ own. are (result_kinds r) (Value ∷ own)) f.0 ∙ f.1) i && theta_regions a h.2 ks rs h.3 b h.5 i

theta_states : (allowed : Op → ℕ → Type 0) (n : ℕ) (ks outs : List Kind) (rs : RegionTrees) (m : ℕ) → HasBothStates ks → RegionsForm allowed n ks outs rs m →
    all_regions (λ r. some_of (same_kind Memory) (args_of r) && some_of (same_kind Io) (args_of r)) rs ≡ true
theta_states a n ks outs no_regions m b h = refl
theta_states a n ks outs (region_then (region own nodes results) rs) m b h =
    λ i. ((ap (some_of (same_kind Memory)) h.4.0 ∙ b.memory) i && (ap (some_of (same_kind Io)) h.4.0 ∙ b.io) i) && theta_states a h.2 ks outs rs h.3 b h.5 i

some_regions : (id : ℕ) (inputs : List Origin) (rs : RegionTrees) → AreSome rs → has_its_regions (node id Gamma inputs rs) ≡ true
some_regions id inputs no_regions s = absurd s
some_regions id inputs (region_then r rs) s = refl

one_region : (id : ℕ) (inputs : List Origin) (rs : RegionTrees) → IsOne rs → (has_its_regions (node id Theta inputs rs) ≡ true) × AreSome rs
one_region id inputs no_regions s = absurd s
one_region id inputs (region_then r no_regions) s = (refl, tt)
one_region id inputs (region_then r (region_then q rs)) s = absurd s

-- ---- nodes

-- an op that is allowed has a width of an access, and names one of so many objects
abbrev pub AllowsOnly : (objects : ℕ) → (Op → ℕ → Type 0) → Type 0
AllowsOnly objects allowed =
    (op : Op) (n : ℕ) → allowed op n → (id : ℕ) (inputs : List Origin) (rs : RegionTrees) → (has_its_width (node id op inputs rs) ≡ true) × (has_its_object objects (node id op inputs rs) ≡ true)

-- the tests of a node, one by one
record Tests (objects : ℕ) (args : List Kind) (before : NodeTrees) (x : NodeTree) : Type 0 where
  inputs : inputs_fit args before x ≡ true
  last : inputs_are_last args before x ≡ true
  once : node_has_one_state_each args before x ≡ true
  regions : has_its_regions x ≡ true
  fit : regions_fit x ≡ true
  states : theta_has_states x ≡ true
  width : has_its_width x ≡ true
  object : has_its_object objects x ≡ true

tested : (objects : ℕ) (args : List Kind) (before : NodeTrees) (x : NodeTree) → Tests objects args before x → node_fits objects args before x ≡ true
tested objects args before x t = λ i. ((((((t.inputs i && t.last i) && t.once i) && t.regions i) && t.fit i) && t.states i) && t.width i) && t.object i

node_tests : (allowed : Op → ℕ → Type 0) (objects : ℕ) (args : List Kind) (before : NodeTrees) (c : Standing) (x : NodeTree) (ks : List Kind) (m : ℕ) →
    AllowsOnly objects allowed → Agrees args before c → NodeForms allowed c x ks m → node_fits objects args before x ≡ true
node_tests a objects args before c (node id Gamma inputs rs) ks m allows g h =
    let u = used args before c (Value ∷ h.2.0) inputs g h.2.1 h.2.2.once in
    let outputs = outputs_are a c (node id Gamma inputs rs) ks m h in
    let first = first_args_are a (suc id) h.2.0 ks rs m h.2.4 h.2.5 in
    tested objects args before (node id Gamma inputs rs) (record {
      inputs = ap (λ js. are (map (known args before) inputs) (Value ∷ js)) first ∙ u.kinds;
      last = u.last;
      once = λ i. u.once i && (ap one_state_each outputs ∙ h.2.3.once) i;
      regions = some_regions id inputs rs h.2.4;
      fit =
          ap (λ js. all_regions (λ r. same (args_of r) js && are (result_kinds r) (kinds_of (outputs_of Gamma rs))) rs) first
          ∙ ap (λ js. all_regions (λ r. same (args_of r) h.2.0 && are (result_kinds r) js) rs) (ap kinds_of outputs ∙ kinds_of_some ks)
          ∙ gamma_regions a (suc id) h.2.0 ks rs m h.2.2 h.2.5;
      states = refl;
      width = (allows Gamma (length inputs) h.1 id inputs rs).0;
      object = (allows Gamma (length inputs) h.1 id inputs rs).1;
    })
node_tests a objects args before c (node id Theta inputs rs) ks m allows g h =
    let u = used args before c ks inputs g h.2.0 h.2.1.once in
    let outputs = outputs_are a c (node id Theta inputs rs) ks m h in
    let one = one_region id inputs rs h.2.2 in
    tested objects args before (node id Theta inputs rs) (record {
      inputs = ap (are (map (known args before) inputs)) (first_args_are a (suc id) ks (Value ∷ ks) rs m one.1 h.2.3) ∙ u.kinds;
      last = u.last;
      once = λ i. u.once i && (ap one_state_each outputs ∙ h.2.1.once) i;
      regions = one.0;
      fit = theta_regions a (suc id) ks rs m h.2.1 h.2.3;
      states = theta_states a (suc id) ks (Value ∷ ks) rs m h.2.1 h.2.3;
      width = (allows Theta (length inputs) h.1 id inputs rs).0;
      object = (allows Theta (length inputs) h.1 id inputs rs).1;
    })
node_tests a objects args before c (node id op inputs rs) ks m allows g h =
    let u = used args before c (inputs_of op (length inputs) no_regions) inputs g h.2.takes (inputs_once op (length inputs)) in
    subst (λ rs. node_fits objects args before (node id op inputs rs) ≡ true) (sym h.2.without) (tested objects args before (node id op inputs no_regions) (record {
      inputs = u.kinds;
      last = u.last;
      once = λ i. u.once i && outputs_once op i;
      regions = refl;
      fit = refl;
      states = refl;
      width = (allows op (length inputs) h.1 id inputs no_regions).0;
      object = (allows op (length inputs) h.1 id inputs no_regions).1;
    }))

each_tests : (allowed : Op → ℕ → Type 0) (objects : ℕ) (args : List Kind) (before : List NodeTree) (c : Standing) (ns : NodeTrees) (m : ℕ) (outs : List Kind) (results : List Origin) →
    AllowsOnly objects allowed → Agrees args (nodes_of before) c → NodesForm allowed c ns (Ends m outs results) → each_node (node_fits objects args) before ns ≡ true
each_tests a objects args before c no_nodes m outs results allows g h = refl
each_tests a objects args before c (node_then x ns) m outs results allows g h =
    let next = agrees_node args before c x h.0 h.1 (outputs_are a c x h.0 h.1 h.2) g in
    λ i. node_tests a objects args (nodes_of before) c x h.0 h.1 allows g h.2 i
    && each_tests a objects args (before ++ x ∷ []) (after_node c (id_of x) h.0 h.1) ns m outs results allows next h.3 i

-- ---- regions

-- a region by itself
own_tests : (allowed : Op → ℕ → Type 0) (objects n : ℕ) (args outs : List Kind) (nodes : NodeTrees) (results : List Origin) (m : ℕ) → AllowsOnly objects allowed →
    HasBothStates args → HasBothStates outs → NodesForm allowed (at_start n args) nodes (Ends m outs results) → region_fits objects (region args nodes results) ≡ true
own_tests a objects n args outs nodes results m allows b s h =
    let start = agrees_start n args b in
    let l = nodes_lead a args [] (at_start n args) nodes m outs results start h in
    let kinds = has_kinds args nodes l.end outs results l.agrees l.ends.1 in
    let given : (k : Kind) → some_of (same_kind k) outs ≡ true → returns_state k (region args nodes results) ≡ true =
    λ k e. ap (λ xs. not (gives k nodes) || some_of (is_of k) xs) kinds ∙ ap (λ b. not (gives k nodes) || b) (some_kind k outs ∙ e) ∙ or_right (not (gives k nodes)) true refl in
    λ i. (((each_tests a objects args [] (at_start n args) nodes m outs results allows start h i
    && have_last args nodes l.end outs results l.agrees l.ends.1 i) && given Memory s.memory i) && given Io s.io i)
    && (b.once i && (ap one_state_each kinds ∙ s.once) i)

mutual
  pub region_tests : (allowed : Op → ℕ → Type 0) (objects n : ℕ) (args outs : List Kind) (r : RegionTree) (m : ℕ) → AllowsOnly objects allowed → HasBothStates args → HasBothStates outs →
      RegionForms allowed n args outs r m → every_region (region_fits objects) r ≡ true
  region_tests a objects n args outs (region own nodes results) m allows b s h =
      λ i. (ap (λ own. region_fits objects (region own nodes results)) h.0 ∙ own_tests a objects n args outs nodes results m allows b s h.1) i
      && nodes_tests a objects (at_start n args) nodes m outs results allows h.1 i

  nodes_tests : (allowed : Op → ℕ → Type 0) (objects : ℕ) (c : Standing) (ns : NodeTrees) (m : ℕ) (outs : List Kind) (results : List Origin) → AllowsOnly objects allowed →
      NodesForm allowed c ns (Ends m outs results) → every_in_nodes (region_fits objects) ns ≡ true
  nodes_tests a objects c no_nodes m outs results allows h = refl
  nodes_tests a objects c (node_then x ns) m outs results allows h =
      λ i. inner_tests a objects c x h.0 h.1 allows h.2 i && nodes_tests a objects (after_node c (id_of x) h.0 h.1) ns m outs results allows h.3 i

  inner_tests : (allowed : Op → ℕ → Type 0) (objects : ℕ) (c : Standing) (x : NodeTree) (ks : List Kind) (m : ℕ) → AllowsOnly objects allowed → NodeForms allowed c x ks m →
      every_in_node (region_fits objects) x ≡ true
  inner_tests a objects c (node id Gamma inputs rs) ks m allows h = regions_tests a objects (suc id) h.2.0 ks rs m allows h.2.2 h.2.3 h.2.5
  inner_tests a objects c (node id Theta inputs rs) ks m allows h =
      regions_tests a objects (suc id) ks (Value ∷ ks) rs m allows h.2.1 (record { once = h.2.1.once; memory = h.2.1.memory; io = h.2.1.io }) h.2.3
  inner_tests a objects c (node id op inputs rs) ks m allows h = ap (every_in_regions (region_fits objects)) h.2.without

  regions_tests : (allowed : Op → ℕ → Type 0) (objects n : ℕ) (args outs : List Kind) (rs : RegionTrees) (m : ℕ) → AllowsOnly objects allowed → HasBothStates args → HasBothStates outs →
      RegionsForm allowed n args outs rs m → every_in_regions (region_fits objects) rs ≡ true
  regions_tests a objects n args outs no_regions m allows b s h = refl
  regions_tests a objects n args outs (region_then r rs) m allows b s h =
      λ i. region_tests a objects h.0 args outs r h.1 allows b s h.4 i && regions_tests a objects h.2 args outs rs h.3 allows b s h.5 i
