-- The parts of the change, as it is made.
use Rattle.std.specs.Prelude.{ℕ, ◌≡◌, ◌+◌, ◌-◌, ◌*◌, ◌^◌, ◌<◌, nat_le, nat_lt, ◌&&◌, if◌then◌else◌, Bool, true, false, List, [], ◌∷◌, length, count_by, Option, None, Some, option_map, option_and_then, is_some}
use Rattle.g_graph.specs.declared.op.Op.TheVariants.{Gamma, Theta}
use Rattle.g_graph.specs.declared.op.Origin.{Origin}
use Rattle.g_graph.specs.Plain.{RegionTree, region, NodeTree, node, RegionTrees, no_regions, region_then, args_of, nodes_in, results_of, inputs_in}
use Rattle.g_graph.specs.Count.{region_values}
use Rattle.g_graph.specs.Nodes.{node_at}
use Rattle.g_graph.specs.Replace.{region_redirected}
use Rattle.g_graph.specs.Splice.{args_to_inputs, region_spliced}
use Rattle.g_graph.specs.WellFormed.{all_of}
use Rattle.g_mean.specs.Copies.{IsClosed}
use Rattle.r_edit.specs.Size.{may_change_size}
use Rattle.r_edit.specs.Numbering.{node_count}
use Rattle.r_invert.specs.Rule.{Parts, parts_of, is_output_of, takes_both_states, word_given, is_zero, is_other, may_invert, inverted, new_nodes, but_last, giving}

abbrev pub parts_are : (test stop go : RegionTree) → Parts
parts_are test stop go = record { test = test; stop = stop; go = go }

-- regions of a Gamma, and results of its region, that have the form
abbrev pub branches_so : (g : ℕ) → (predicate : Origin) → (variables : List Origin) → (z b : RegionTree) → Bool
branches_so g p variables z b =
    takes_both_states z && all_of (is_output_of g) (p ∷ variables) && is_zero (word_given g p z) && is_other (word_given g p b)

-- ---- the room that a loop needs

-- a count up to a greatest one
abbrev pub up_to : (most count : ℕ) → ℕ
up_to most count = most - (most - count)

abbrev pub values_counted : RegionTree → ℕ
values_counted r = up_to (2 ^ 60) (region_values r)

abbrev pub nodes_counted : RegionTree → ℕ
nodes_counted r = up_to (2 ^ 32) (node_count r)

-- The growth, of a loop with this region, whose last node has so many inputs and these regions. Those of the region and of
-- `b` are counted whole; what is not copied is taken away.
abbrev pub growth_so : (r : RegionTree) → (inputs : ℕ) → (z b : RegionTree) → ℕ
growth_so r inputs z b =
    (2 * values_counted r + 5 + 3 * (length (results_of r) - 1) + length (args_of z) + 3 * length (args_of b) + inputs)
    - (values_counted b + 7 + 2 * length (args_of r) + 2 * length (results_of r) + 4 * length (results_of z) + 2 * length (args_of z) + length (args_of b) + length (results_of b))

abbrev pub numbers_so : (next : ℕ) → (r b : RegionTree) → Bool
numbers_so next r b = nat_lt (nodes_counted r) (2 ^ 32) && nat_le (next + (2 * nodes_counted r - nodes_counted b)) (2 ^ 32 - 1)

abbrev pub indexes_so : (r z b : RegionTree) → Bool
indexes_so r z b = nat_lt (length (args_of z)) (2 ^ 32) && nat_lt (length (args_of b)) (2 ^ 32) && nat_lt (length (results_of r) - 1) (2 ^ 32)

abbrev pub room_so : (values next : ℕ) → (r : RegionTree) → (inputs : ℕ) → (z b : RegionTree) → Bool
room_so values next r inputs z b =
    nat_lt (values_counted r) (2 ^ 60) && indexes_so r z b && numbers_so next r b
    && may_change_size values (growth_so r inputs z b) (1 + length (args_of r) + values_counted r)

-- ---- the loop

-- the parts of a loop's region, where it may be inverted
abbrev pub loop_parts : (values next : ℕ) → RegionTree → Option Parts
loop_parts values next r = option_and_then (λ p. if may_invert values next r p then Some p else None) (parts_of r)

-- the region ends with a Gamma that has these regions, and it may be inverted
abbrev pub two_so : (values next : ℕ) → (r : RegionTree) → (g inputs : ℕ) → (z b : RegionTree) → Bool
two_so values next (region args nodes []) g inputs z b = false
two_so values next (region args nodes (p ∷ variables)) g inputs z b =
    branches_so g p variables z b && room_so values next (region args nodes (p ∷ variables)) inputs z b

abbrev pub regions_so : (values next : ℕ) → (r : RegionTree) → (g inputs : ℕ) → RegionTrees → Bool
regions_so values next r g inputs (region_then z (region_then b no_regions)) = two_so values next r g inputs z b
regions_so values next r g inputs rs = false

abbrev pub ends_so : (values next : ℕ) → (r : RegionTree) → NodeTree → Bool
ends_so values next r (node g Gamma inputs rs) = regions_so values next r g (length inputs) rs
ends_so values next r x = false

abbrev pub only_may : (values next : ℕ) → RegionTrees → Bool
only_may values next (region_then r no_regions) = is_some (loop_parts values next r)
only_may values next rs = false

-- a loop that may be inverted
abbrev pub is_loop : (values next : ℕ) → NodeTree → Bool
is_loop values next (node id Theta inputs rs) = only_may values next rs
is_loop values next x = false

abbrev pub loop_of : (values next : ℕ) → NodeTree → Option NodeTree
loop_of values next x = if is_loop values next x then Some x else None

-- that of number n, where the region itself holds such a loop there
abbrev pub loop_at : (values next n : ℕ) → RegionTree → Option NodeTree
loop_at values next n r = option_and_then (loop_of values next) (node_at n (nodes_in r))

-- ---- the change

-- what comes in the place of a loop, before its inputs are known
abbrev pub body_part : (next : ℕ) → RegionTree → Option RegionTree
body_part next r = option_map (inverted next) (parts_of r)

abbrev pub regions_part : (next : ℕ) → RegionTrees → Option RegionTree
regions_part next (region_then r no_regions) = body_part next r
regions_part next rs = None

abbrev pub loop_part : (next : ℕ) → NodeTree → Option RegionTree
loop_part next (node id op inputs rs) = regions_part next rs

-- parts that can be copied and counted, with numbers from `next` on
pub record CanMake (next : ℕ) (p : Parts) : Type 0 where
  pub test : IsClosed p.test
  pub stop : IsClosed p.stop
  pub go : IsClosed p.go
  pub entries : length (args_of p.stop) < 2 ^ 32
  pub loop_entries : length (args_of p.go) < 2 ^ 32
  pub variables : length (results_of p.stop) < 2 ^ 32
  pub numbers : next + new_nodes p < 2 ^ 32

-- a region that has such parts
pub record Makes (next : ℕ) (r : RegionTree) : Type 0 where
  pub parts : Parts
  pub form : parts_of r ≡ Some parts
  pub can : CanMake next parts

abbrev pub AreMade : (next : ℕ) → RegionTrees → Type 0
AreMade next (region_then r no_regions) = Makes next r
AreMade next rs = false ≡ true

abbrev pub IsMade : (next : ℕ) → NodeTree → Type 0
IsMade next (node id op inputs rs) = AreMade next rs

-- the parts of a region whose last node is a Gamma g with these inputs and regions
abbrev pub parts_from : (whole : RegionTree) → (g : ℕ) → (inputs variables : List Origin) → (z b : RegionTree) → Parts
parts_from whole g inputs variables z b = parts_are (region (args_of whole) (but_last (nodes_in whole)) inputs) (giving g variables z) (giving g variables b)

abbrev pub CanMakeOf : (next : ℕ) → (whole : RegionTree) → (g : ℕ) → (inputs variables : List Origin) → RegionTrees → Type 0
CanMakeOf next whole g inputs variables (region_then z (region_then b no_regions)) = CanMake next (parts_from whole g inputs variables z b)
CanMakeOf next whole g inputs variables rs = false ≡ true

abbrev pub made_of : (next : ℕ) → (whole : RegionTree) → (g : ℕ) → (inputs variables : List Origin) → RegionTrees → Option RegionTree
made_of next whole g inputs variables (region_then z (region_then b no_regions)) = Some (inverted next (parts_from whole g inputs variables z b))
made_of next whole g inputs variables rs = None

abbrev pub CanMakeEnd : (next : ℕ) → (whole : RegionTree) → (variables : List Origin) → NodeTree → Type 0
CanMakeEnd next whole variables (node g op inputs rs) = CanMakeOf next whole g inputs variables rs

abbrev pub made_end : (next : ℕ) → (whole : RegionTree) → (variables : List Origin) → NodeTree → Option RegionTree
made_end next whole variables (node g op inputs rs) = made_of next whole g inputs variables rs

-- the region, where it holds such a loop, with this part in its place
abbrev pub placed_at : (values next n : ℕ) → (part : RegionTree) → RegionTree → Option RegionTree
placed_at values next n part r = option_map (λ x. region_spliced n (region_redirected (args_to_inputs (inputs_in x)) part) r) (loop_at values next n r)

-- how many numbers are new, from `next` on
abbrev pub new_in : (next : ℕ) → List ℕ → ℕ
new_in next ids = count_by (λ m. nat_le next m) ids
