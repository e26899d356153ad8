-- Changes at one place of a list of nodes: a use comes from another origin, or a node, an input, an output, an argument
-- or a result goes. Later ones of the list then have an index that is one less, and what names them follows.
use Rattle.std.specs.Prelude.{ℕ, zero, suc, ◌-◌, ◌==◌, ◌&&◌, nat_lt, Bool, if◌then◌else◌, List, [], ◌∷◌, length, map}
use Rattle.std.specs.declared.option.Option.{Option}
use Rattle.std.specs.declared.option.Option.TheVariants.{Some, None}
use Rattle.std.specs.List.{remove}
use Rattle.g_graph.specs.declared.op.Origin.{Origin}
use Rattle.g_graph.specs.declared.op.Origin.TheVariants.{Arg, Out}
use Rattle.g_graph.specs.Scope.{same_origin}
use Rattle.g_graph.specs.WellFormed.{some_of}
use Rattle.g_arena_def.specs.declared.place.Place.{Place}
use Rattle.g_arena_def.specs.Flat.{FlatRegion, FlatNode, Flat, same_place, is_in}
use Rattle.g_arena_def.specs.Reads.{found, region_at}

-- the first node of this number, changed
abbrev pub node_with : ℕ → (FlatNode → FlatNode) → List FlatNode → List FlatNode
node_with n f [] = []
node_with n f (x ∷ xs) = if x.id == n then f x ∷ xs else x ∷ node_with n f xs

-- the element of this index, changed
abbrev pub at_with : {X : Type 0} → ℕ → (X → X) → List X → List X
at_with k f [] = []
at_with zero f (x ∷ xs) = f x ∷ xs
at_with (suc k) f (x ∷ xs) = x ∷ at_with k f xs

abbrev pub changed_in : Option ℕ → (index : ℕ) → (FlatRegion → FlatRegion) → Flat → Flat
changed_in None k f a = record a { body = f a.body }
changed_in (Some n) k f a = record a { nodes = node_with n (λ (x : FlatNode). record x { regions = at_with k f x.regions }) a.nodes }

-- the region at a place, changed
abbrev pub region_with : Place → (FlatRegion → FlatRegion) → Flat → Flat
region_with p f a = changed_in p.node p.region f a

-- each use in the region at a place comes from another origin
abbrev pub inputs_at : Place → (Origin → Origin) → FlatNode → FlatNode
inputs_at p f x = if same_place x.home p then record x { inputs = map f x.inputs } else x

abbrev pub uses_with : Place → (Origin → Origin) → Flat → Flat
uses_with p f a = region_with p (λ (r : FlatRegion). record r { results = map f r.results }) (record a { nodes = map (inputs_at p f) a.nodes })

-- a node goes with its regions: the nodes behind it go too that stand in regions of nodes that went, up to the first
-- that does not
abbrev pub regions_gone : (gone : List ℕ) → List FlatNode → List FlatNode
regions_gone gone [] = []
regions_gone gone (x ∷ xs) = if is_in gone x.home.node then regions_gone (x.id ∷ gone) xs else x ∷ xs

abbrev pub nodes_without : ℕ → List FlatNode → List FlatNode
nodes_without n [] = []
nodes_without n (x ∷ xs) = if x.id == n then regions_gone (n ∷ []) xs else x ∷ nodes_without n xs

abbrev pub node_removed : ℕ → Flat → Flat
node_removed n a = record a { nodes = nodes_without n a.nodes }

-- an input goes
abbrev pub input_removed : ℕ → (index : ℕ) → Flat → Flat
input_removed n k a = record a { nodes = node_with n (λ (x : FlatNode). record x { inputs = remove x.inputs k }) a.nodes }

-- an output goes, of so many: what names a later one follows
abbrev pub output_less : ℕ → (port count : ℕ) → Origin → Origin
output_less n k c (Arg q) = Arg q
output_less n k c (Out m q) = if (m == n) && (nat_lt k q && nat_lt q c) then Out m (q - 1) else Out m q

abbrev pub outputs_follow : Option FlatNode → (port : ℕ) → Flat → Flat
outputs_follow None k a = a
outputs_follow (Some x) k a =
    uses_with x.home (output_less x.id k (length x.outputs)) (record a { nodes = node_with x.id (λ (y : FlatNode). record y { outputs = remove y.outputs k }) a.nodes })

abbrev pub output_removed : ℕ → (port : ℕ) → Flat → Flat
output_removed n k a = outputs_follow (found n a.nodes) k a

-- an argument goes, of so many: what names a later one follows
abbrev pub argument_less : (index count : ℕ) → Origin → Origin
argument_less k c (Arg q) = if nat_lt k q && nat_lt q c then Arg (q - 1) else Arg q
argument_less k c (Out n q) = Out n q

abbrev pub arguments_follow : Option FlatRegion → Place → (index : ℕ) → Flat → Flat
arguments_follow None p k a = a
arguments_follow (Some r) p k a =
    uses_with p (argument_less k (length r.args)) (region_with p (λ (s : FlatRegion). record s { args = remove s.args k }) a)

abbrev pub argument_removed : Place → (index : ℕ) → Flat → Flat
argument_removed p k a = arguments_follow (region_at p a) p k a

-- a result goes
abbrev pub result_removed : Place → (index : ℕ) → Flat → Flat
result_removed p k a = region_with p (λ (r : FlatRegion). record r { results = remove r.results k }) a

-- the first use of an origin in the region at a place, inputs in pre-order and then results, comes from another one
abbrev pub first_with : (from to : Origin) → List Origin → List Origin
first_with from to [] = []
first_with from to (x ∷ xs) = if same_origin from x then to ∷ xs else x ∷ first_with from to xs

abbrev pub uses_at : Place → Origin → FlatNode → Bool
uses_at p o x = same_place x.home p && some_of (same_origin o) x.inputs

abbrev pub input_changed : Place → (from to : Origin) → List FlatNode → List FlatNode
input_changed p from to [] = []
input_changed p from to (x ∷ xs) =
    if uses_at p from x then record x { inputs = first_with from to x.inputs } ∷ xs else x ∷ input_changed p from to xs

abbrev pub use_changed : Place → (from to : Origin) → Flat → Flat
use_changed p from to a =
    if some_of (uses_at p from) a.nodes then record a { nodes = input_changed p from to a.nodes }
    else region_with p (λ (r : FlatRegion). record r { results = first_with from to r.results }) a
