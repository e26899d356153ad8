-- What the tests of a node ask of its op and regions alone: its inputs have no part in them.
use Rattle.std.proofs.Common.{◌≡◌, ℕ, List, refl}
use Rattle.g_graph.specs.declared.op.Op.{Op}
use Rattle.g_graph.specs.declared.op.Op.TheVariants.{Local, Load, Store, Clear, Gamma, Theta}
use Rattle.g_graph.specs.declared.op.Origin.{Origin}
use Rattle.g_graph.specs.Plain.{node, RegionTrees, no_regions, region_then}
use Rattle.g_graph.specs.WellFormed.{has_its_regions, regions_fit, theta_has_states, has_its_width, has_its_object}

pub shape_free : (id : ℕ) (op : Op) (is js : List Origin) (rs : RegionTrees) → has_its_regions (node id op js rs) ≡ has_its_regions (node id op is rs)
shape_free id Gamma is js no_regions = refl
shape_free id Gamma is js (region_then r rs) = refl
shape_free id Theta is js no_regions = refl
shape_free id Theta is js (region_then r no_regions) = refl
shape_free id Theta is js (region_then r (region_then t rs)) = refl
shape_free id _ is js no_regions = refl
shape_free id _ is js (region_then r rs) = refl

pub regions_free : (id : ℕ) (op : Op) (is js : List Origin) (rs : RegionTrees) → regions_fit (node id op js rs) ≡ regions_fit (node id op is rs)
regions_free id Gamma is js rs = refl
regions_free id Theta is js rs = refl
regions_free id _ is js rs = refl

pub theta_free : (id : ℕ) (op : Op) (is js : List Origin) (rs : RegionTrees) → theta_has_states (node id op js rs) ≡ theta_has_states (node id op is rs)
theta_free id Theta is js rs = refl
theta_free id _ is js rs = refl

pub width_free : (id : ℕ) (op : Op) (is js : List Origin) (rs : RegionTrees) → has_its_width (node id op js rs) ≡ has_its_width (node id op is rs)
width_free id (Load w) is js rs = refl
width_free id (Store w) is js rs = refl
width_free id _ is js rs = refl

pub object_free : (objects id : ℕ) (op : Op) (is js : List Origin) (rs : RegionTrees) → has_its_object objects (node id op js rs) ≡ has_its_object objects (node id op is rs)
object_free objects id (Local k) is js rs = refl
object_free objects id (Clear k) is js rs = refl
object_free objects id _ is js rs = refl
