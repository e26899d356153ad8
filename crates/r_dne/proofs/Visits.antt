-- A node that is visited: it goes, or it is a Theta, and some of its variables do.
use Rattle.std.proofs.Common.{◌≡◌, ◌<◌, not, ℕ, zero, suc, Bool, true, false, Some, option_and_then, List, [], ◌∷◌, length, refl, sym, ap, ◌∙◌}
use Rattle.std.specs.Prelude.{if◌then◌else◌, slice_get}
use Rattle.std.proofs.lemmas.Bool.{or_parts}
use Rattle.std.proofs.lemmas.Option.{same_Some}
use Rattle.g_graph.specs.declared.op.Kind.TheVariants.{Value}
use Rattle.g_graph.specs.declared.op.Op.TheVariants.{Theta}
use Rattle.g_graph.specs.declared.op.Origin.TheVariants.{Out}
use Rattle.g_graph.specs.Scope.{same_kind}
use Rattle.g_arena_def.specs.Flat.{FlatRegion, FlatNode, Flat}
use Rattle.g_arena_def.specs.Reads.{found, uses_in}
use Rattle.g_arena_def.specs.Conditions.{IsUnusedNode}
use Rattle.g_arena_def.specs.Edits.{node_removed}
use Rattle.r_sweep.specs.Fast.{IsWhole}
use Rattle.r_sweep.proofs.lemmas.Fits.{theta_fits}
use Rattle.r_sweep.proofs.lemmas.Whole.{Stands, stands}
use Rattle.r_dne.specs.Listed.{has_use, is_dead_in, exits_in, theta_in, shrunk_in, eliminated_in, dne_in}
use Rattle.r_dne.specs.declared.judging.Shape.{Shape}
use Rattle.r_dne.specs.Shape.{IsShape}
use Rattle.r_dne.proofs.Judged.{no_use, some_true, at_index, output_at, output_stays, dead_is}

-- ---- a node

some_not : (t : Bool) → not t ≡ true → t ≡ false
some_not false e = refl
some_not true e = absurd cc

all_false : (k : ℕ) (ts : List Bool) (t : Bool) → some_true ts ≡ false → slice_get ts k ≡ Some t → t ≡ false
all_false k [] t h e = absurd cc
all_false zero (u ∷ ts) t h e = sym (same_Some u t e) ∙ (or_parts u (some_true ts) h).0
all_false (suc k) (u ∷ ts) t h e = all_false k ts t (or_parts u (some_true ts) h).1 e

module _ (n : ℕ) (a : Flat) (x : FlatNode) (whole : IsWhole a) (e : found n a.nodes ≡ Some x) where
  here : Stands n x a
  here = stands n x a whole e

  pub dead_step : is_dead_in a x ≡ true → dne_in n a ≡ Some (node_removed n a)
  dead_step t =
      ap (option_and_then (eliminated_in a)) e ∙ ap (λ u. if u then Some (node_removed x.id a) else shrunk_in x.op x.regions a x) t ∙ ap (λ m. Some (node_removed m a)) here.number

  pub unused_node : is_dead_in a x ≡ true → IsUnusedNode n a
  unused_node t = (x, e, unused)
    where
      none : some_true (exits_in a x) ≡ false
      none = some_not (some_true (exits_in a x)) (sym (dead_is a x) ∙ t)

      unused : (k : ℕ) → k < length x.outputs → uses_in x.home (Out n k) a ≡ 0
      unused k lt =
          let at = at_index k x.outputs lt in
          let stays = all_false k (exits_in a x) (output_stays a x.home x.id k at.element) none (output_at a x.home x.id k x.outputs at.element at.there) in
          ap (λ m. uses_in x.home (Out m k) a) (sym here.number) ∙ no_use (uses_in x.home (Out x.id k) a) (or_parts (not (same_kind Value at.element)) (has_use x.home (Out x.id k) a) stays).1

-- ---- its variables

module _ (s : Shape) (a : Flat) (whole : IsWhole a) (h : IsShape s a) where
  own : (y : FlatNode) → found s.node a.nodes ≡ Some y → h.node ≡ y
  own y e = same_Some h.node y (sym h.there ∙ e)

  op_is : (y : FlatNode) → found s.node a.nodes ≡ Some y → y.op ≡ s.op
  op_is y e = sym (h.op ∙ ap (λ (z : FlatNode). z.op) (own y e))

  pub one_region : s.op ≡ Theta → (y : FlatNode) → found s.node a.nodes ≡ Some y → (r : FlatRegion) × (y.regions ≡ r ∷ [])
  one_region g y e = let f = theta_fits s.node a y whole e (op_is y e ∙ g) in (f.region, f.regions)

  pub by_theta : s.op ≡ Theta → (y : FlatNode) (r : FlatRegion) → found s.node a.nodes ≡ Some y → y.regions ≡ r ∷ [] → shrunk_in y.op y.regions a y ≡ theta_in a y r
  by_theta g y r e f = λ i. shrunk_in ((op_is y e ∙ g) i) (f i) a y
