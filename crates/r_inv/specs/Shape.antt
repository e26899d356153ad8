-- What the sweep knows of a node before it asks and changes it.
use Rattle.std.specs.Prelude.{◌≡◌, length}
use Rattle.std.specs.declared.option.Option.TheVariants.{Some}
use Rattle.g_arena_def.specs.Flat.{FlatNode, Flat}
use Rattle.g_arena_def.specs.Reads.{found}
use Rattle.r_inv.specs.declared.carried_sweep.Shape.{Shape}

pub record IsShape (s : Shape) (a : Flat) : Type 0 where
  pub node : FlatNode
  pub there : found s.node a.nodes ≡ Some node
  pub op : s.op ≡ node.op
  pub home : s.home ≡ node.home
  pub outputs : s.outputs ≡ length node.outputs
  pub regions : s.regions ≡ length node.regions
