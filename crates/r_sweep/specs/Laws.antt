-- Laws: where a list of nodes stands for a well-formed lambda, the list after a change stands for the lambda with the
-- region that holds the node changed.
use Rattle.std.specs.Prelude.{◌≡◌, ℕ, ◌+◌, ◌<◌, Bool, true, false, List, [], ◌∷◌, map, length}
use Rattle.std.specs.declared.option.Option.TheVariants.{Some}
use Rattle.g_graph.specs.declared.op.Kind.TheVariants.{Memory, Io}
use Rattle.g_graph.specs.declared.op.Op.TheVariants.{Gamma, Theta}
use Rattle.g_graph.specs.declared.op.Origin.{Origin}
use Rattle.g_graph.specs.declared.op.Origin.TheVariants.{Arg, Out}
use Rattle.g_graph.specs.Plain.{PlainLambda}
use Rattle.g_graph.specs.Scope.{same_kind, same_origin}
use Rattle.g_graph.specs.Replace.{region_redirected, origin_replaced}
use Rattle.g_graph.specs.Change.{lambda_changed, in_region_of}
use Rattle.g_graph.specs.WellFormed.{some_of, IsWellFormed}
use Rattle.g_arena_def.specs.Flat.{FlatRegion, FlatNode, Flat, StandsFor, place_in}
use Rattle.g_arena_def.specs.Reads.{found, kind_in, times, input_uses, uses_in}
use Rattle.g_arena_def.specs.Edits.{node_removed}
use Rattle.r_edit.specs.Places.{stays_at, kept, drops_values}
use Rattle.r_edit.specs.Removal.{region_without}
use Rattle.r_edit.specs.Exits.{exits_kept}
use Rattle.r_edit.specs.Entries.{entries_kept}
use Rattle.r_edit.specs.Variables.{variables_kept}
use Rattle.r_sweep.specs.Removals.{exits_removed, entries_removed, variables_removed, uses_moved}

-- of these outputs of node n, those that go are values, and have no use
pub record AreUnused (n : ℕ) (x : FlatNode) (stays : List Bool) (a : Flat) : Type 0 where
  pub values : drops_values stays (map Some x.outputs) ≡ true
  pub unused : (k : ℕ) → stays_at stays k ≡ false → k < length x.outputs → uses_in x.home (Out n k) a ≡ 0

-- A node goes that gives no state, and whose outputs have no use.
pub record IsDead (n : ℕ) (x : FlatNode) (a : Flat) : Type 0 where
  pub memory : some_of (same_kind Memory) x.outputs ≡ false
  pub io : some_of (same_kind Io) x.outputs ≡ false
  pub unused : (k : ℕ) → k < length x.outputs → uses_in x.home (Out n k) a ≡ 0

abbrev pub NodesGo : Type 0
NodesGo =
    (a : Flat) (l : PlainLambda) (n : ℕ) (x : FlatNode) → StandsFor a l → IsWellFormed l → found n a.nodes ≡ Some x → IsDead n x a →
    StandsFor (node_removed n a) (lambda_changed (in_region_of n (region_without n)) l)

-- Exit variables of a Gamma go, from the last to the first.
abbrev pub ExitsGo : Type 0
ExitsGo =
    (a : Flat) (l : PlainLambda) (n : ℕ) (x : FlatNode) (stays : List Bool) → StandsFor a l → IsWellFormed l → found n a.nodes ≡ Some x → x.op ≡ Gamma → AreUnused n x stays a →
    StandsFor (exits_removed n (length x.regions) stays a) (lambda_changed (in_region_of n (exits_kept n stays)) l)

-- Entry variables of a Gamma go, whose arguments no region uses.
abbrev pub EntriesGo : Type 0
EntriesGo =
    (a : Flat) (l : PlainLambda) (n : ℕ) (x : FlatNode) (stays : List Bool) → StandsFor a l → IsWellFormed l → found n a.nodes ≡ Some x → x.op ≡ Gamma →
    ((j k : ℕ) → stays_at stays k ≡ false → uses_in (place_in n j) (Arg k) a ≡ 0) →
    StandsFor (entries_removed n (length x.regions) stays a) (lambda_changed (in_region_of n (entries_kept n stays)) l)

-- Loop variables of a Theta go, whose arguments nothing uses but results that go.
abbrev pub VariablesGo : Type 0
VariablesGo =
    (a : Flat) (l : PlainLambda) (n : ℕ) (x : FlatNode) (r : FlatRegion) (stays : List Bool) → StandsFor a l → IsWellFormed l → found n a.nodes ≡ Some x → x.op ≡ Theta → x.regions ≡ r ∷ [] →
    AreUnused n x stays a → ((k : ℕ) → stays_at stays k ≡ false → input_uses (place_in n 0) (Arg k) a.nodes + times (Arg k) (kept (true ∷ stays) r.results) ≡ 0) →
    StandsFor (variables_removed n stays a) (lambda_changed (in_region_of n (variables_kept n stays)) l)

-- All uses of an origin in the region of a node move to another one of the same kind.
abbrev pub UsesMove : Type 0
UsesMove =
    (a : Flat) (l : PlainLambda) (n : ℕ) (x : FlatNode) (from to : Origin) → StandsFor a l → IsWellFormed l → found n a.nodes ≡ Some x → same_origin from to ≡ false →
    kind_in x.home from a ≡ kind_in x.home to a → StandsFor (uses_moved x.home from to a) (lambda_changed (in_region_of n (region_redirected (origin_replaced from to))) l)
