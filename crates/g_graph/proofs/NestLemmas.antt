-- A change of one region keeps a nest well formed, where the region stays so and takes and gives what it did.
use Rattle.std.specs.Option.{option_or}
use Rattle.std.proofs.Common.{◌≡◌, ℕ, ◌++◌, Bool, true, ◌&&◌, List, [], ◌∷◌, map, length, refl, sym, ap, ◌∙◌, subst}
use Rattle.std.specs.Prelude.{◌==◌, ◌||◌, not, slice_get, if◌then◌else◌, option_map}
use Rattle.std.specs.declared.option.Option.{Option}
use Rattle.std.specs.declared.option.Option.TheVariants.{Some, None}
use Rattle.std.proofs.lemmas.Bool.{and_parts}
use Rattle.g_graph.specs.declared.op.Kind.{Kind}
use Rattle.g_graph.specs.declared.op.Kind.TheVariants.{Value, Memory, Io}
use Rattle.g_graph.specs.declared.op.Op.{Op}
use Rattle.g_graph.specs.declared.op.Op.TheVariants.{Local, Load, Store, Clear, Gamma, Theta}
use Rattle.g_graph.specs.declared.op.Origin.{Origin}
use Rattle.g_graph.specs.declared.op.Origin.TheVariants.{Arg, Out}
use Rattle.g_graph.specs.Plain.{RegionTree, region, NodeTree, node, NodeTrees, no_nodes, node_then, RegionTrees, no_regions, region_then, nodes_of, id_of, args_of}
use Rattle.g_graph.specs.Signatures.{joined, first_args, inputs_of, outputs_of, result_kinds, output_kinds, kind_after}
use Rattle.g_graph.specs.Scope.{same_kind, is_of, known, last_index, origin_at, state_after, each_node}
use Rattle.g_graph.specs.Ids.{region_ids, node_ids, nodes_ids, regions_ids}
use Rattle.g_graph.specs.Change.{region_changed, node_changed, nodes_changed, regions_changed}
use Rattle.g_graph.specs.WellFormed.{all_of, some_of, all_regions, are, same, kinds_of, one_state_each, has_its_regions, regions_fit, theta_has_states, has_its_width, has_its_object, is_origin, is_last_of, is_last, node_fits, gives, region_fits, every_region, every_in_node, every_in_nodes, every_in_regions}
use Rattle.g_graph.proofs.lemmas.Splices.{nodes_of_append, kind_after-joined, state_after-joined}
use Rattle.g_graph.proofs.lemmas.Numbers.{Numbered, numbered_left, numbered_right, numbered_rest}

-- after the one nodes origins have the kinds that they have after the others, and states come from the same
pub record SameScope (bs cs : NodeTrees) : Type 0 where
  pub kinds : (n p : ℕ) (found : Option Kind) → kind_after cs n p found ≡ kind_after bs n p found
  pub states : (k : Kind) (found : Option Origin) → state_after k cs found ≡ state_after k bs found

pub scope_same : (bs : NodeTrees) → SameScope bs bs
scope_same bs = record { kinds = λ n p b. refl; states = λ k b. refl }

pub known_same : (args : List Kind) (bs cs : NodeTrees) → SameScope bs cs → (o : Origin) → known args cs o ≡ known args bs o
known_same args bs cs s (Arg k) = refl
known_same args bs cs s (Out n p) = s.kinds n p None

last_of_same : (args : List Kind) (bs cs : NodeTrees) → SameScope bs cs → (x : Option Kind) (o : Origin) → is_last_of x args cs o ≡ is_last_of x args bs o
last_of_same args bs cs s None o = refl
last_of_same args bs cs s (Some Value) o = refl
last_of_same args bs cs s (Some Memory) o = ap (λ p. is_origin p o) (s.states Memory (origin_at Arg (last_index Memory 0 (map Some args) None) None))
last_of_same args bs cs s (Some Io) o = ap (λ p. is_origin p o) (s.states Io (origin_at Arg (last_index Io 0 (map Some args) None) None))

pub last_same : (args : List Kind) (bs cs : NodeTrees) → SameScope bs cs → (o : Origin) → is_last args cs o ≡ is_last args bs o
last_same args bs cs s o = ap (λ x. is_last_of x args cs o) (known_same args bs cs s o) ∙ last_of_same args bs cs s (known args bs o) o

pub scope_more : (bs cs : List NodeTree) (x y : NodeTree) → SameScope (nodes_of bs) (nodes_of cs) → id_of y ≡ id_of x → output_kinds y ≡ output_kinds x →
    SameScope (nodes_of (bs ++ x ∷ [])) (nodes_of (cs ++ y ∷ []))
scope_more bs cs x y s i o = record {
  kinds = λ n p found.
      ap (λ ns. kind_after ns n p found) (nodes_of_append cs (y ∷ [])) ∙ kind_after-joined (nodes_of cs) (node_then y no_nodes) n p found
      ∙ (λ j. if i j == n then joined (slice_get (o j) p) else s.kinds n p found j)
      ∙ sym (ap (λ ns. kind_after ns n p found) (nodes_of_append bs (x ∷ [])) ∙ kind_after-joined (nodes_of bs) (node_then x no_nodes) n p found);
  states = λ k found.
      ap (λ ns. state_after k ns found) (nodes_of_append cs (y ∷ [])) ∙ state_after-joined k (nodes_of cs) (node_then y no_nodes) found
      ∙ (λ j. origin_at (λ p. Out (i j) p) (last_index k 0 (o j) None) (s.states k found j))
      ∙ sym (ap (λ ns. state_after k ns found) (nodes_of_append bs (x ∷ [])) ∙ state_after-joined k (nodes_of bs) (node_then x no_nodes) found);
}

-- regions that take and give what the others do, and are well formed
pub record RegionsKept (objects : ℕ) (rs ss : RegionTrees) : Type 0 where
  pub first : first_args ss ≡ first_args rs
  pub given : outputs_of Gamma ss ≡ outputs_of Gamma rs
  pub each : (g : List Kind → List (Option Kind) → Bool) → all_regions (λ r. g (args_of r) (result_kinds r)) ss ≡ all_regions (λ r. g (args_of r) (result_kinds r)) rs
  pub shape : (id : ℕ) (op : Op) (inputs : List Origin) → has_its_regions (node id op inputs ss) ≡ has_its_regions (node id op inputs rs)
  pub tail_shape : (r : RegionTree) (id : ℕ) (op : Op) (inputs : List Origin) → has_its_regions (node id op inputs (region_then r ss)) ≡ has_its_regions (node id op inputs (region_then r rs))
  pub inside : every_in_regions (region_fits objects) ss ≡ true

pub record NodeKept (objects : ℕ) (x y : NodeTree) : Type 0 where
  pub id : id_of y ≡ id_of x
  pub outputs : output_kinds y ≡ output_kinds x
  pub fits : (args : List Kind) (bs cs : NodeTrees) → SameScope bs cs → node_fits objects args cs y ≡ node_fits objects args bs x
  pub inside : every_in_node (region_fits objects) y ≡ true

pub record NodesKept (objects : ℕ) (ns ms : NodeTrees) : Type 0 where
  pub scope : SameScope ns ms
  pub gives_same : (k : Kind) → gives k ms ≡ gives k ns
  pub fits : (args : List Kind) (bs cs : List NodeTree) → SameScope (nodes_of bs) (nodes_of cs) → each_node (node_fits objects args) cs ms ≡ each_node (node_fits objects args) bs ns
  pub inside : every_in_nodes (region_fits objects) ms ≡ true

pub record RegionKept (objects : ℕ) (r s : RegionTree) : Type 0 where
  pub args : args_of s ≡ args_of r
  pub results : result_kinds s ≡ result_kinds r
  pub inside : every_region (region_fits objects) s ≡ true

outputs_same : (op : Op) (rs ss : RegionTrees) → first_args ss ≡ first_args rs → outputs_of Gamma ss ≡ outputs_of Gamma rs → outputs_of op ss ≡ outputs_of op rs
outputs_same Gamma rs ss f g = g
outputs_same Theta rs ss f g = ap (map Some) f
outputs_same _ rs ss f g = refl

inputs_same : (op : Op) (n : ℕ) (rs ss : RegionTrees) → first_args ss ≡ first_args rs → inputs_of op n ss ≡ inputs_of op n rs
inputs_same Gamma n rs ss f = ap (λ ks. Value ∷ ks) f
inputs_same Theta n rs ss f = f
inputs_same _ n rs ss f = refl

regions_fit_same : (id : ℕ) (op : Op) (inputs : List Origin) (rs ss : RegionTrees) → first_args ss ≡ first_args rs → outputs_of Gamma ss ≡ outputs_of Gamma rs →
    ((g : List Kind → List (Option Kind) → Bool) → all_regions (λ r. g (args_of r) (result_kinds r)) ss ≡ all_regions (λ r. g (args_of r) (result_kinds r)) rs) →
    regions_fit (node id op inputs ss) ≡ regions_fit (node id op inputs rs)
regions_fit_same id Gamma inputs rs ss f o each =
    each (λ ts ks. same ts (first_args ss) && are ks (kinds_of (outputs_of Gamma ss)))
    ∙ (λ i. all_regions (λ r. same (args_of r) (f i) && are (result_kinds r) (kinds_of (o i))) rs)
regions_fit_same id Theta inputs rs ss f o each = each (λ ts ks. are ks (Value ∷ ts))
regions_fit_same id _ inputs rs ss f o each = refl

theta_states_same : (id : ℕ) (op : Op) (inputs : List Origin) (rs ss : RegionTrees) →
    ((g : List Kind → List (Option Kind) → Bool) → all_regions (λ r. g (args_of r) (result_kinds r)) ss ≡ all_regions (λ r. g (args_of r) (result_kinds r)) rs) →
    theta_has_states (node id op inputs ss) ≡ theta_has_states (node id op inputs rs)
theta_states_same id Theta inputs rs ss each = each (λ ts ks. some_of (same_kind Memory) ts && some_of (same_kind Io) ts)
theta_states_same id _ inputs rs ss each = refl

width_same : (id : ℕ) (op : Op) (inputs : List Origin) (rs ss : RegionTrees) → has_its_width (node id op inputs ss) ≡ has_its_width (node id op inputs rs)
width_same id (Load width) inputs rs ss = refl
width_same id (Store width) inputs rs ss = refl
width_same id _ inputs rs ss = refl

object_same : (objects id : ℕ) (op : Op) (inputs : List Origin) (rs ss : RegionTrees) → has_its_object objects (node id op inputs ss) ≡ has_its_object objects (node id op inputs rs)
object_same objects id (Local k) inputs rs ss = refl
object_same objects id (Clear k) inputs rs ss = refl
object_same objects id _ inputs rs ss = refl

node_fits_same : (objects : ℕ) (args : List Kind) (bs cs : NodeTrees) → SameScope bs cs → (id : ℕ) (op : Op) (inputs : List Origin) (rs ss : RegionTrees) →
    first_args ss ≡ first_args rs → outputs_of Gamma ss ≡ outputs_of Gamma rs →
    ((g : List Kind → List (Option Kind) → Bool) → all_regions (λ r. g (args_of r) (result_kinds r)) ss ≡ all_regions (λ r. g (args_of r) (result_kinds r)) rs) →
    has_its_regions (node id op inputs ss) ≡ has_its_regions (node id op inputs rs) →
    node_fits objects args cs (node id op inputs ss) ≡ node_fits objects args bs (node id op inputs rs)
node_fits_same objects args bs cs s id op inputs rs ss f g each shape =
    let kinds : map (known args cs) inputs ≡ map (known args bs) inputs = λ i. map (λ o. known_same args bs cs s o i) inputs in
    let lasts : all_of (is_last args cs) inputs ≡ all_of (is_last args bs) inputs = λ i. all_of (λ o. last_same args bs cs s o i) inputs in
    λ i.
    are (kinds i) (inputs_same op (length inputs) rs ss f i) && lasts i && (one_state_each (kinds i) && one_state_each (outputs_same op rs ss f g i))
    && shape i && regions_fit_same id op inputs rs ss f g each i && theta_states_same id op inputs rs ss each i && width_same id op inputs rs ss i && object_same objects id op inputs rs ss i

node_fits_scope : (objects : ℕ) (args : List Kind) (bs cs : NodeTrees) → SameScope bs cs → (x : NodeTree) → node_fits objects args cs x ≡ node_fits objects args bs x
node_fits_scope objects args bs cs s (node id op inputs rs) = node_fits_same objects args bs cs s id op inputs rs rs refl refl (λ g. refl) refl

pub each_node_scope : (objects : ℕ) (args : List Kind) (bs cs : List NodeTree) → SameScope (nodes_of bs) (nodes_of cs) → (ns : NodeTrees) →
    each_node (node_fits objects args) cs ns ≡ each_node (node_fits objects args) bs ns
each_node_scope objects args bs cs s no_nodes = refl
each_node_scope objects args bs cs s (node_then x xs) =
    λ i. node_fits_scope objects args (nodes_of bs) (nodes_of cs) s x i && each_node_scope objects args (bs ++ x ∷ []) (cs ++ x ∷ []) (scope_more bs cs x x s refl refl) xs i

node_kept : (objects id : ℕ) (op : Op) (inputs : List Origin) (rs ss : RegionTrees) → RegionsKept objects rs ss → NodeKept objects (node id op inputs rs) (node id op inputs ss)
node_kept objects id op inputs rs ss k = record {
  id = refl;
  outputs = outputs_same op rs ss k.first k.given;
  fits = λ args bs cs s. node_fits_same objects args bs cs s id op inputs rs ss k.first k.given k.each (k.shape id op inputs);
  inside = k.inside;
}

nodes_kept_here : (objects : ℕ) (x y : NodeTree) (xs : NodeTrees) → NodeKept objects x y → every_in_nodes (region_fits objects) xs ≡ true → NodesKept objects (node_then x xs) (node_then y xs)
nodes_kept_here objects x y xs k rest = record {
  scope = record {
    kinds = λ n p found. λ i. kind_after xs n p (if k.id i == n then joined (slice_get (k.outputs i) p) else found);
    states = λ s found. λ i. state_after s xs (origin_at (λ p. Out (k.id i) p) (last_index s 0 (k.outputs i) None) found);
  };
  gives_same = λ s. λ i. some_of (is_of s) (k.outputs i) || gives s xs;
  fits = λ args bs cs s. λ i.
      k.fits args (nodes_of bs) (nodes_of cs) s i && each_node_scope objects args (bs ++ x ∷ []) (cs ++ y ∷ []) (scope_more bs cs x y s k.id k.outputs) xs i;
  inside = λ i. k.inside i && rest i;
}

nodes_kept_following : (objects : ℕ) (x : NodeTree) (xs ys : NodeTrees) → every_in_node (region_fits objects) x ≡ true → NodesKept objects xs ys → NodesKept objects (node_then x xs) (node_then x ys)
nodes_kept_following objects x xs ys own k = record {
  scope = record {
    kinds = λ n p found. k.scope.kinds n p (if id_of x == n then joined (slice_get (output_kinds x) p) else found);
    states = λ s found. k.scope.states s (origin_at (λ p. Out (id_of x) p) (last_index s 0 (output_kinds x) None) found);
  };
  gives_same = λ s. ap (λ b. some_of (is_of s) (output_kinds x) || b) (k.gives_same s);
  fits = λ args bs cs s. λ i.
      node_fits_scope objects args (nodes_of bs) (nodes_of cs) s x i && k.fits args (bs ++ x ∷ []) (cs ++ x ∷ []) (scope_more bs cs x x s refl refl) i;
  inside = λ i. own i && k.inside i;
}

head_shape : (r s : RegionTree) (rs : RegionTrees) (id : ℕ) (op : Op) (inputs : List Origin) → has_its_regions (node id op inputs (region_then s rs)) ≡
    has_its_regions (node id op inputs (region_then r rs))
head_shape r s rs id Gamma inputs = refl
head_shape r s no_regions id Theta inputs = refl
head_shape r s (region_then a more) id Theta inputs = refl
head_shape r s rs id _ inputs = refl

long_shape : (r a b : RegionTree) (cs bs : RegionTrees) (id : ℕ) (op : Op) (inputs : List Origin) →
    has_its_regions (node id op inputs (region_then r (region_then b bs))) ≡ has_its_regions (node id op inputs (region_then r (region_then a cs)))
long_shape r a b cs bs id Gamma inputs = refl
long_shape r a b cs bs id Theta inputs = refl
long_shape r a b cs bs id _ inputs = refl

regions_kept_here : (objects : ℕ) (r s : RegionTree) (rs : RegionTrees) → RegionKept objects r s → every_in_regions (region_fits objects) rs ≡ true →
    RegionsKept objects (region_then r rs) (region_then s rs)
regions_kept_here objects r s rs k rest = record {
  first = k.args;
  given = k.results;
  each = λ g. λ i. g (k.args i) (k.results i) && all_regions (λ t. g (args_of t) (result_kinds t)) rs;
  shape = λ id op inputs. head_shape r s rs id op inputs;
  tail_shape = λ t id op inputs. long_shape t r s rs rs id op inputs;
  inside = λ i. k.inside i && rest i;
}

regions_kept_following : (objects : ℕ) (r : RegionTree) (rs ss : RegionTrees) → every_region (region_fits objects) r ≡ true → RegionsKept objects rs ss →
    RegionsKept objects (region_then r rs) (region_then r ss)
regions_kept_following objects r rs ss own k = record {
  first = refl;
  given = refl;
  each = λ g. ap (λ b. g (args_of r) (result_kinds r) && b) (k.each g);
  shape = λ id op inputs. k.tail_shape r id op inputs;
  tail_shape = λ t id op inputs. long_shape t r r rs ss id op inputs;
  inside = λ i. own i && k.inside i;
}

-- a region whose nodes keep
pub region_kept : (objects : ℕ) (args : List Kind) (ns ms : NodeTrees) (results : List Origin) → NodesKept objects ns ms → region_fits objects (region args ns results) ≡ true →
    RegionKept objects (region args ns results) (region args ms results)
region_kept objects args ns ms results k own =
    let kinds : map (known args ms) results ≡ map (known args ns) results = λ i. map (λ o. known_same args ns ms k.scope o i) results in
    let lasts : all_of (is_last args ms) results ≡ all_of (is_last args ns) results = λ i. all_of (λ o. last_same args ns ms k.scope o i) results in
    let nodes = k.fits args [] [] (scope_same no_nodes) in
    let fits : region_fits objects (region args ms results) ≡ region_fits objects (region args ns results) =
    λ i.
    nodes i && lasts i && (not (k.gives_same Memory i) || some_of (is_of Memory) (kinds i)) && (not (k.gives_same Io i) || some_of (is_of Io) (kinds i))
    && (one_state_each (map Some args) && one_state_each (kinds i)) in
    record { args = refl; results = kinds; inside = λ i. (fits ∙ own) i && k.inside i }

-- what a change does to the region that it changes, whose numbers are unique and below the next
pub record KeepsRegion (objects next : ℕ) (f : RegionTree → Option RegionTree) : Type 0 where
  pub kept : (r s : RegionTree) → f r ≡ Some s → every_region (region_fits objects) r ≡ true → Numbered next (region_ids r) → RegionKept objects r s

mutual
  pub region_changed_kept : (objects next : ℕ) (f : RegionTree → Option RegionTree) → KeepsRegion objects next f → (r s : RegionTree) → region_changed f r ≡ Some s →
      every_region (region_fits objects) r ≡ true → Numbered next (region_ids r) → RegionKept objects r s
  region_changed_kept objects next f k (region args nodes results) s e own numbers =
      by_cases (f (region args nodes results)) (nodes_changed f nodes) refl refl e
      (λ ms q. nodes_changed_kept objects next f k nodes ms q (and_parts (region_fits objects (region args nodes results)) (every_in_nodes (region_fits objects) nodes) own).1 numbers)
    where
      by_cases : (o : Option RegionTree) (p : Option NodeTrees) → f (region args nodes results) ≡ o → nodes_changed f nodes ≡ p →
          option_or o (option_map (λ ns. region args ns results) p) ≡ Some s → ((ms : NodeTrees) → nodes_changed f nodes ≡ Some ms → NodesKept objects nodes ms) →
          RegionKept objects (region args nodes results) s
      by_cases (Some t) p a b c h = k.kept (region args nodes results) s (a ∙ c) own numbers
      by_cases None (Some ms) a b c h =
          let same : region args ms results ≡ s = cc in
          subst (λ t. RegionKept objects (region args nodes results) t) same
          (region_kept objects args nodes ms results (h ms b) (and_parts (region_fits objects (region args nodes results)) (every_in_nodes (region_fits objects) nodes) own).0)
      by_cases None None a b c h = absurd (cc)

  node_changed_kept : (objects next : ℕ) (f : RegionTree → Option RegionTree) → KeepsRegion objects next f → (x y : NodeTree) → node_changed f x ≡ Some y →
      every_in_node (region_fits objects) x ≡ true → Numbered next (node_ids x) → NodeKept objects x y
  node_changed_kept objects next f k (node id op inputs rs) y e own numbers =
      by_cases (regions_changed f rs) refl e (λ ss q. regions_changed_kept objects next f k rs ss q own (numbered_rest next id (regions_ids rs) numbers))
    where
      by_cases : (o : Option RegionTrees) → regions_changed f rs ≡ o → option_map (λ ss. node id op inputs ss) o ≡ Some y →
          ((ss : RegionTrees) → regions_changed f rs ≡ Some ss → RegionsKept objects rs ss) → NodeKept objects (node id op inputs rs) y
      by_cases (Some ss) a c h =
          let same : node id op inputs ss ≡ y = cc in
          subst (λ t. NodeKept objects (node id op inputs rs) t) same (node_kept objects id op inputs rs ss (h ss a))
      by_cases None a c h = absurd (cc)

  nodes_changed_kept : (objects next : ℕ) (f : RegionTree → Option RegionTree) → KeepsRegion objects next f → (ns ms : NodeTrees) → nodes_changed f ns ≡ Some ms →
      every_in_nodes (region_fits objects) ns ≡ true → Numbered next (nodes_ids ns) → NodesKept objects ns ms
  nodes_changed_kept objects next f k no_nodes ms e own numbers = absurd (cc)
  nodes_changed_kept objects next f k (node_then x xs) ms e own numbers =
      let first = (and_parts (every_in_node (region_fits objects) x) (every_in_nodes (region_fits objects) xs) own).0 in
      let rest = (and_parts (every_in_node (region_fits objects) x) (every_in_nodes (region_fits objects) xs) own).1 in
      by_cases (node_changed f x) (nodes_changed f xs) refl refl e first rest (λ y q. node_changed_kept objects next f k x y q first (numbered_left next (node_ids x) (nodes_ids xs) numbers))
      (λ ys q. nodes_changed_kept objects next f k xs ys q rest (numbered_right next (node_ids x) (nodes_ids xs) numbers))
    where
      by_cases : (o : Option NodeTree) (p : Option NodeTrees) → node_changed f x ≡ o → nodes_changed f xs ≡ p →
          option_or (option_map (λ y. node_then y xs) o) (option_map (λ ys. node_then x ys) p) ≡ Some ms →
          every_in_node (region_fits objects) x ≡ true → every_in_nodes (region_fits objects) xs ≡ true →
          ((y : NodeTree) → node_changed f x ≡ Some y → NodeKept objects x y) → ((ys : NodeTrees) → nodes_changed f xs ≡ Some ys → NodesKept objects xs ys) →
          NodesKept objects (node_then x xs) ms
      by_cases (Some y) p a b c first rest h g =
          let same : node_then y xs ≡ ms = cc in
          subst (λ t. NodesKept objects (node_then x xs) t) same (nodes_kept_here objects x y xs (h y a) rest)
      by_cases None (Some ys) a b c first rest h g =
          let same : node_then x ys ≡ ms = cc in
          subst (λ t. NodesKept objects (node_then x xs) t) same (nodes_kept_following objects x xs ys first (g ys b))
      by_cases None None a b c first rest h g = absurd (cc)

  regions_changed_kept : (objects next : ℕ) (f : RegionTree → Option RegionTree) → KeepsRegion objects next f → (rs ss : RegionTrees) → regions_changed f rs ≡ Some ss →
      every_in_regions (region_fits objects) rs ≡ true → Numbered next (regions_ids rs) → RegionsKept objects rs ss
  regions_changed_kept objects next f k no_regions ss e own numbers = absurd (cc)
  regions_changed_kept objects next f k (region_then r rs) ss e own numbers =
      let first = (and_parts (every_region (region_fits objects) r) (every_in_regions (region_fits objects) rs) own).0 in
      let rest = (and_parts (every_region (region_fits objects) r) (every_in_regions (region_fits objects) rs) own).1 in
      by_cases (region_changed f r) (regions_changed f rs) refl refl e first rest (λ s q. region_changed_kept objects next f k r s q first (numbered_left next (region_ids r) (regions_ids rs) numbers))
      (λ ts q. regions_changed_kept objects next f k rs ts q rest (numbered_right next (region_ids r) (regions_ids rs) numbers))
    where
      by_cases : (o : Option RegionTree) (p : Option RegionTrees) → region_changed f r ≡ o → regions_changed f rs ≡ p →
          option_or (option_map (λ s. region_then s rs) o) (option_map (λ ts. region_then r ts) p) ≡ Some ss →
          every_region (region_fits objects) r ≡ true → every_in_regions (region_fits objects) rs ≡ true →
          ((s : RegionTree) → region_changed f r ≡ Some s → RegionKept objects r s) → ((ts : RegionTrees) → regions_changed f rs ≡ Some ts → RegionsKept objects rs ts) →
          RegionsKept objects (region_then r rs) ss
      by_cases (Some s) p a b c first rest h g =
          let same : region_then s rs ≡ ss = cc in
          subst (λ t. RegionsKept objects (region_then r rs) t) same (regions_kept_here objects r s rs (h s a) rest)
      by_cases None (Some ts) a b c first rest h g =
          let same : region_then r ts ≡ ss = cc in
          subst (λ t. RegionsKept objects (region_then r rs) t) same (regions_kept_following objects r rs ts first (g ts b))
      by_cases None None a b c first rest h g = absurd (cc)
