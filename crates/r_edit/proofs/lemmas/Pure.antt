-- Nodes that give one value and take values alone.
use Rattle.std.proofs.Common.{◌≡◌, ℕ, zero, suc, true, false, ◌&&◌, List, [], ◌∷◌, map, length, replicate, None, Some, refl, sym, ap, ◌∙◌, inl}
use Rattle.std.proofs.lemmas.Bool.{and_parts}
use Rattle.std.proofs.lemmas.List.{length-map}
use Rattle.g_graph.specs.declared.op.Kind.{Kind}
use Rattle.g_graph.specs.declared.op.Kind.TheVariants.{Value, Memory, Io}
use Rattle.g_graph.specs.declared.op.Op.{Op}
use Rattle.g_graph.specs.declared.op.Op.TheVariants.{Const, Undef, Local, Delta, Bin, Un, Load, Store, Clear, PtrEq, Apply, Put, Exit, Get, Gamma, Theta}
use Rattle.g_graph.specs.declared.op.Origin.{Origin}
use Rattle.g_graph.specs.Plain.{node, NodeTrees, RegionTrees, no_regions}
use Rattle.g_graph.specs.Signatures.{is_pure, inputs_of, outputs_of}
use Rattle.g_graph.specs.Scope.{is_of, known, last_index}
use Rattle.g_graph.specs.WellFormed.{all_of, some_of, are, one_state_each, has_its_regions, regions_fit, theta_has_states, has_its_width, has_its_object, inputs_fit, is_last, inputs_are_last, node_has_one_state_each, node_fits}
use Rattle.g_graph.proofs.lemmas.Indexes.{gives_last}
use Rattle.g_graph.proofs.lemmas.Nodes.{are_kinds}
use Rattle.r_edit.proofs.lemmas.Kept.{IsState, memory, io}

-- ---- what it gives

pub pure-outputs : (op : Op) → is_pure op ≡ true → (rs : RegionTrees) → outputs_of op rs ≡ Some Value ∷ []
pure-outputs (Const w) e rs = refl
pure-outputs Undef e rs = refl
pure-outputs (Local k) e rs = refl
pure-outputs (Delta k) e rs = refl
pure-outputs (Bin op) e rs = refl
pure-outputs (Un op) e rs = refl
pure-outputs (Load w) e rs = absurd cc
pure-outputs (Store w) e rs = absurd cc
pure-outputs (Clear k) e rs = absurd cc
pure-outputs PtrEq e rs = absurd cc
pure-outputs (Apply f) e rs = absurd cc
pure-outputs Put e rs = absurd cc
pure-outputs Exit e rs = absurd cc
pure-outputs Get e rs = absurd cc
pure-outputs Gamma e rs = absurd cc
pure-outputs Theta e rs = absurd cc

pub no-index : (k : Kind) → IsState k → last_index k 0 (Some Value ∷ []) None ≡ None
no-index Memory memory = refl
no-index Io io = refl
no-index Value s = elim s [ ]

pub no-given : (k : Kind) → IsState k → some_of (is_of k) (Some Value ∷ []) ≡ false
no-given Memory memory = refl
no-given Io io = refl
no-given Value s = elim s [ ]

pub no-value : (k : Kind) → IsState k → k ≡ Value → ⊥
no-value Memory memory e = absurd cc
no-value Io io e = absurd cc
no-value Value s e = elim s [ ]

-- ---- what it takes

abbrev pub values : ℕ → List Kind
values count = replicate count Value

pure-inputs : (op : Op) → is_pure op ≡ true → (n : ℕ) (rs : RegionTrees) → (count : ℕ) × (inputs_of op n rs ≡ values count)
pure-inputs (Const w) e n rs = (0, refl)
pure-inputs Undef e n rs = (0, refl)
pure-inputs (Local k) e n rs = (0, refl)
pure-inputs (Delta k) e n rs = (0, refl)
pure-inputs (Bin op) e n rs = (2, refl)
pure-inputs (Un op) e n rs = (1, refl)
pure-inputs (Load w) e n rs = absurd cc
pure-inputs (Store w) e n rs = absurd cc
pure-inputs (Clear k) e n rs = absurd cc
pure-inputs PtrEq e n rs = absurd cc
pure-inputs (Apply f) e n rs = absurd cc
pure-inputs Put e n rs = absurd cc
pure-inputs Exit e n rs = absurd cc
pure-inputs Get e n rs = absurd cc
pure-inputs Gamma e n rs = absurd cc
pure-inputs Theta e n rs = absurd cc

-- a value is no state, and so as good as the last one
pub values-are-last : (args : List Kind) (bs : NodeTrees) (os : List Origin) (count : ℕ) → map (known args bs) os ≡ map Some (values count) → all_of (is_last args bs) os ≡ true
values-are-last args bs [] count e = refl
values-are-last args bs (o ∷ os) zero e = absurd cc
values-are-last args bs (o ∷ os) (suc count) e =
    let first : known args bs o ≡ Some Value = cc in
    let rest : map (known args bs) os ≡ map Some (values count) = cc in
    λ i. gives_last Value args bs o first (inl refl) i && values-are-last args bs os count rest i

-- the inputs of a pure node are values
pub pure-takes : (args : List Kind) (bs : NodeTrees) (id : ℕ) (op : Op) (inputs : List Origin) (rs : RegionTrees) → is_pure op ≡ true →
    inputs_fit args bs (node id op inputs rs) ≡ true → map (known args bs) inputs ≡ map Some (values (length inputs))
pure-takes args bs id op inputs rs pure e =
    let taken = pure-inputs op pure (length inputs) rs in
    let kinds : map (known args bs) inputs ≡ map Some (values taken.0) = are_kinds (map (known args bs) inputs) (inputs_of op (length inputs) rs) e ∙ ap (map Some) taken.1 in
    kinds ∙ ap (λ k. map Some (values k)) (as-many taken.0 (ap length kinds))
  where
    many : (count : ℕ) → length (map Some (values count)) ≡ count
    many zero = refl
    many (suc count) = ap suc (many count)

    as-many : (count : ℕ) → length (map (known args bs) inputs) ≡ length (map Some (values count)) → count ≡ length inputs
    as-many count h = sym (sym (length-map inputs (known args bs)) ∙ h ∙ many count)

-- ---- the same op on other values, elsewhere

others-free : (objects id new : ℕ) (op : Op) (is js : List Origin) → is_pure op ≡ true →
    (has_its_regions (node new op js no_regions) ≡ has_its_regions (node id op is no_regions)) × (regions_fit (node new op js no_regions) ≡ regions_fit (node id op is no_regions))
    × (theta_has_states (node new op js no_regions) ≡ theta_has_states (node id op is no_regions)) × (has_its_width (node new op js no_regions) ≡ has_its_width (node id op is no_regions))
    × (has_its_object objects (node new op js no_regions) ≡ has_its_object objects (node id op is no_regions))
others-free objects id new (Const w) is js e = (refl, refl, refl, refl, refl)
others-free objects id new Undef is js e = (refl, refl, refl, refl, refl)
others-free objects id new (Local k) is js e = (refl, refl, refl, refl, refl)
others-free objects id new (Delta k) is js e = (refl, refl, refl, refl, refl)
others-free objects id new (Bin op) is js e = (refl, refl, refl, refl, refl)
others-free objects id new (Un op) is js e = (refl, refl, refl, refl, refl)
others-free objects id new (Load w) is js e = absurd cc
others-free objects id new (Store w) is js e = absurd cc
others-free objects id new (Clear k) is js e = absurd cc
others-free objects id new PtrEq is js e = absurd cc
others-free objects id new (Apply f) is js e = absurd cc
others-free objects id new Put is js e = absurd cc
others-free objects id new Exit is js e = absurd cc
others-free objects id new Get is js e = absurd cc
others-free objects id new Gamma is js e = absurd cc
others-free objects id new Theta is js e = absurd cc

pub pure-fits : (objects : ℕ) (args others : List Kind) (bs cs : NodeTrees) (id new : ℕ) (op : Op) (inputs more : List Origin) → is_pure op ≡ true →
    node_fits objects args bs (node id op inputs no_regions) ≡ true → map (known others cs) more ≡ map (known args bs) inputs → node_fits objects others cs (node new op more no_regions) ≡ true
pure-fits objects args others bs cs id new op inputs more pure e same =
    let x = node id op inputs no_regions in
    let fits = inputs_fit args bs x in
    let lasts = inputs_are_last args bs x in
    let states = node_has_one_state_each args bs x in
    let shape = has_its_regions x in
    let regions = regions_fit x in
    let theta = theta_has_states x in
    let width = has_its_width x in
    let to_width = (and_parts (fits && lasts && states && shape && regions && theta && width) (has_its_object objects x) e).0 in
    let to_theta = (and_parts (fits && lasts && states && shape && regions && theta) width to_width).0 in
    let to_regions = (and_parts (fits && lasts && states && shape && regions) theta to_theta).0 in
    let to_shape = (and_parts (fits && lasts && states && shape) regions to_regions).0 in
    let to_states = (and_parts (fits && lasts && states) shape to_shape).0 in
    let both = and_parts fits lasts (and_parts (fits && lasts) states to_states).0 in
    let taken = pure-takes args bs id op inputs no_regions pure both.0 in
    let many : length more ≡ length inputs = sym (length-map more (known others cs)) ∙ ap length same ∙ length-map inputs (known args bs) in
    let last = values-are-last others cs more (length inputs) (same ∙ taken) in
    let free = others-free objects id new op inputs more pure in
    let is : node_fits objects others cs (node new op more no_regions) ≡ node_fits objects args bs x =
    λ i.
    are (same i) (inputs_of op (many i) no_regions) && (last ∙ sym both.1) i && (one_state_each (same i) && one_state_each (outputs_of op no_regions))
    && free.0 i && free.1 i && free.2 i && free.3 i && free.4 i in
    is ∙ e
