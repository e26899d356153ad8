-- There are numbers for the copies that pulling makes.
use Rattle.std.specs.Option.{option_or}
use Rattle.std.specs.Prelude.{nat_le, option_map, option_and_then, unwrap_or, if◌then◌else◌}
use Rattle.std.proofs.Common.{◌≡◌, ◌<◌, ◌+◌, ◌&&◌, ℕ, Bool, true, false, Option, None, Some, refl, sym, subst, arith}
use Rattle.std.proofs.lemmas.Bool.{and_parts}
use Rattle.std.proofs.lemmas.Bool.Decides.{nat_tests}
use Rattle.std.proofs.lemmas.Option.{same_Some}
use Rattle.g_graph.specs.Plain.{RegionTree, region, NodeTree, node, NodeTrees, no_nodes, node_then, RegionTrees, no_regions, region_then, nodes_in, PlainLambda}
use Rattle.g_graph.specs.Nodes.{node_at}
use Rattle.g_graph.specs.Program.{lambda_values}
use Rattle.r_edit.specs.Size.{may_change_size}
use Rattle.r_pull.specs.Rule.{Pull, pull_of, where_fits, fits, added, gone, copies_of, copies_here, copies_at, most_next, region_answer, node_answer, nodes_answer, regions_answer, lambda_pulled}

pub has_room : (m : ℕ) → nat_le m 4294967295 ≡ true → m < 4294967296
has_room m e = grind (arith, nat_tests)

-- ---- what is asked of each region holds of the answer

module _ {X : Type 0} (f : RegionTree → Option X) (P : X → Type 0) (here : (r : RegionTree) (x : X) → f r ≡ Some x → P x) where
  either : (a b : Option X) (x : X) → option_or a b ≡ Some x → (a ≡ Some x → P x) → (b ≡ Some x → P x) → P x
  either (Some y) b x e h k = h e
  either None b x e h k = k e

  mutual
    region_holds : (r : RegionTree) (x : X) → region_answer f r ≡ Some x → P x
    region_holds (region args nodes results) x e =
        either (f (region args nodes results)) (nodes_answer f nodes) x e (here (region args nodes results) x) (nodes_hold nodes x)

    node_holds : (y : NodeTree) (x : X) → node_answer f y ≡ Some x → P x
    node_holds (node id op inputs rs) x e = regions_hold rs x e

    nodes_hold : (ns : NodeTrees) (x : X) → nodes_answer f ns ≡ Some x → P x
    nodes_hold no_nodes x e = absurd cc
    nodes_hold (node_then y ns) x e = either (node_answer f y) (nodes_answer f ns) x e (node_holds y x) (nodes_hold ns x)

    regions_hold : (rs : RegionTrees) (x : X) → regions_answer f rs ≡ Some x → P x
    regions_hold no_regions x e = absurd cc
    regions_hold (region_then r rs) x e = either (region_answer f r) (regions_answer f rs) x e (region_holds r x) (regions_hold rs x)

-- ---- the copies of a region

module _ (values next n : ℕ) (c : ℕ) where
  by_fit : (h : Pull) (t : Bool) → fits values next n h ≡ t → option_map (copies_of n) (if t then Some h else None) ≡ Some c → next + c < 4294967296
  by_fit h true q e =
      let numbers = (and_parts _ _ (and_parts (may_change_size values (added n h) (gone n h) && nat_le (next + copies_of n h) most_next) _ q).0).1 in
      subst (λ m. next + m < 4294967296) (same_Some (copies_of n h) c e) (has_room (next + copies_of n h) numbers)
  by_fit h false q e = absurd cc

  by_pull : (o : Option Pull) → option_map (copies_of n) (option_and_then (where_fits values next n) o) ≡ Some c → next + c < 4294967296
  by_pull None e = absurd cc
  by_pull (Some h) e = by_fit h (fits values next n h) refl e

  copies_fit : (r : RegionTree) → copies_here values next n r ≡ Some c → next + c < 4294967296
  copies_fit r e = by_pull (option_and_then (pull_of n r) (node_at n (nodes_in r))) e

pub pulled_next : (n : ℕ) (l : PlainLambda) (c : ℕ) → copies_at l n ≡ Some c → (lambda_pulled n l).next < 4294967296
pulled_next n l c e =
    let room =
    region_holds (copies_here (lambda_values l) l.next n) (λ m. l.next + m < 4294967296) (λ r m. copies_fit (lambda_values l) l.next n m r) l.body c e in
    subst (λ o. l.next + unwrap_or o 0 < 4294967296) (sym e) room
