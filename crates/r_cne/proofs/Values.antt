-- A node that can be common gives one value.
use Rattle.std.proofs.Common.{◌≡◌, ℕ, suc, ◌==◌, Bool, true, false, None, Some, List, [], ◌∷◌, ◌++◌, refl, ap, sym, subst, ◌∙◌}
use Rattle.std.specs.Prelude.{if◌then◌else◌, option_and_then, slice_get}
use Rattle.std.proofs.lemmas.Option.{same_Some}
use Rattle.g_graph.specs.declared.op.Kind.TheVariants.{Value}
use Rattle.g_graph.specs.declared.op.Op.{Op}
use Rattle.g_graph.specs.declared.op.Op.TheVariants.{Const, Undef, Local, Delta, Bin, Un, Load, Store, Clear, PtrEq, Apply, Put, Exit, Get, Gamma, Theta}
use Rattle.g_graph.specs.declared.op.Origin.TheVariants.{Out}
use Rattle.g_graph.specs.Plain.{RegionTree, region, node, NodeTrees, no_nodes, node_then, RegionTrees, no_regions, region_then, PlainLambda}
use Rattle.g_graph.specs.Signatures.{outputs_of}
use Rattle.g_graph.specs.WellFormed.{kinds_of}
use Rattle.g_arena_def.specs.declared.place.Place.{Place}
use Rattle.g_arena_def.specs.Flat.{FlatNode, Flat, body_place, place_in, in_region, in_nodes, in_regions, flat_of, same_place}
use Rattle.g_arena_def.specs.Reads.{found, kind_in, output_kind}
use Rattle.r_sweep.proofs.lemmas.Inputs.{same_place_self}
use Rattle.r_sweep.specs.Fast.{IsWhole}
use Rattle.r_cne.specs.Rule.{is_common}

gives_value : (op : Op) (rs : RegionTrees) → is_common op ≡ true → kinds_of (outputs_of op rs) ≡ Value ∷ []
gives_value (Const w) rs e = refl
gives_value (Local k) rs e = refl
gives_value (Delta k) rs e = refl
gives_value (Bin a) rs e = refl
gives_value (Un a) rs e = refl
gives_value (Load width) rs e = refl
gives_value PtrEq rs e = refl
gives_value Undef rs e = absurd cc
gives_value (Store width) rs e = absurd cc
gives_value (Clear k) rs e = absurd cc
gives_value (Apply f) rs e = absurd cc
gives_value Put rs e = absurd cc
gives_value Exit rs e = absurd cc
gives_value Get rs e = absurd cc
gives_value Gamma rs e = absurd cc
gives_value Theta rs e = absurd cc

abbrev GiveValues : List FlatNode → Type 0
GiveValues [] = Unit {0}
GiveValues (x ∷ xs) = (is_common x.op ≡ true → x.outputs ≡ Value ∷ []) × GiveValues xs

give_both : (xs ys : List FlatNode) → GiveValues xs → GiveValues ys → GiveValues (xs ++ ys)
give_both [] ys h g = g
give_both (x ∷ xs) ys h g = (h.0, give_both xs ys h.1 g)

mutual
  nodes_give : (p : Place) (ns : NodeTrees) → GiveValues (in_nodes p ns)
  nodes_give p no_nodes = tt
  nodes_give p (node_then (node id op inputs rs) xs) = (gives_value op rs, give_both (in_regions id 0 rs) (in_nodes p xs) (regions_give id 0 rs) (nodes_give p xs))

  regions_give : (n k : ℕ) (rs : RegionTrees) → GiveValues (in_regions n k rs)
  regions_give n k no_regions = tt
  regions_give n k (region_then (region args ns results) rs) = give_both (in_nodes (place_in n k) ns) (in_regions n (suc k) rs) (nodes_give (place_in n k) ns) (regions_give n (suc k) rs)

lambda_gives : (l : PlainLambda) → GiveValues (flat_of l).nodes
lambda_gives l = by l.body
  where
    by : (r : RegionTree) → GiveValues (in_region body_place r)
    by (region args ns results) = nodes_give body_place ns

found_gives : (n : ℕ) (x : FlatNode) (xs : List FlatNode) → GiveValues xs → found n xs ≡ Some x → is_common x.op ≡ true → x.outputs ≡ Value ∷ []
found_gives n x [] h e c = absurd cc
found_gives n x (y ∷ ys) h e c = by (y.id == n) e (λ d. found_gives n x ys h.1 d c)
  where
    by : (t : Bool) → (if t then Some y else found n ys) ≡ Some x → (found n ys ≡ Some x → x.outputs ≡ Value ∷ []) → x.outputs ≡ Value ∷ []
    by true d f = let same = same_Some y x d in ap (λ (z : FlatNode). z.outputs) (sym same) ∙ h.0 (ap (λ (z : FlatNode). is_common z.op) same ∙ c)
    by false d f = f d

-- so its output is a value of its region
pub value_there : (a : Flat) → IsWhole a → (p : Place) (n : ℕ) (x : FlatNode) → found n a.nodes ≡ Some x → p ≡ x.home → is_common x.op ≡ true → kind_in p (Out n 0) a ≡ Some Value
value_there a h p n x e home c =
    let outputs = found_gives n x a.nodes (subst (λ (b : Flat). GiveValues b.nodes) (sym h.stands) (lambda_gives h.lambda)) e c in
    ap (λ o. option_and_then (output_kind p 0) o) e ∙ (λ i. if same_place x.home (home i) then slice_get (outputs i) 0 else None) ∙ ap (λ t. if t then Some Value else None) (same_place_self x.home)
