-- The parts of a loop, as they are made.
use Rattle.std.specs.Prelude.{◌-◌, option_and_then}
use Rattle.std.proofs.Common.{◌≡◌, slice_index_or, ℕ, suc, take, List, [], ◌∷◌, length, Some, option_map, refl, sym, ap, subst, ◌∙◌, arith}
use Rattle.g_graph.specs.declared.op.Origin.{Origin}
use Rattle.g_graph.specs.Plain.{RegionTree, region, NodeTree, node_then, nodes_of, nodes_in, results_of, regions_of}
use Rattle.r_invert.specs.Edit.{CanMake, Makes, AreMade, CanMakeOf, CanMakeEnd, made_of, made_end, body_part, regions_part, parts_from}
use Rattle.r_invert.specs.Rule.{parts_with, last_node, but_last, inverted}
use Rattle.r_invert.proofs.Forms.{ends}

tails : (o p : Origin) (xs ys : List Origin) → o ∷ xs ≡ p ∷ ys → xs ≡ ys
tails o p xs ys e = cc

-- the last node of a region with parts, and the results after the first one
pub record EndMade (next : ℕ) (r : RegionTree) (variables : List Origin) (x : NodeTree) : Type 0 where
  pub can : CanMakeEnd next r variables x
  pub is : body_part next r ≡ made_end next r variables x

pub end-made : (next : ℕ) (r : RegionTree) (x : NodeTree) (o : Origin) (variables : List Origin) → Makes next r → last_node (nodes_in r) ≡ Some x →
    results_of r ≡ o ∷ variables → EndMade next r variables x
end-made next (region args nodes results) x o variables m e d =
    let form : parts_with args (but_last nodes) results x ≡ Some m.parts = sym (ap (option_and_then (parts_with args (but_last nodes) results)) e) ∙ m.form in
    let h = ends args (but_last nodes) results x m.parts form in
    let same : h.variables ≡ variables = tails h.predicate o h.variables variables (sym h.results_are ∙ d) in
    let r = region args nodes results in
    let parts : parts_from r h.g h.inputs variables h.z h.b ≡ m.parts = ap (λ vs. parts_from r h.g h.inputs vs h.z h.b) (sym same) ∙ h.parts in
    record {
      can = subst (CanMakeEnd next r variables) (sym h.node) (subst (CanMake next) (sym parts) m.can);
      is = ap (option_map (inverted next)) m.form ∙ ap (λ p. Some (inverted next p)) (sym parts) ∙ ap (made_end next r variables) (sym h.node);
    }

-- ---- regions of a node

pub two_length : (next : ℕ) (whole : RegionTree) (g : ℕ) (inputs variables : List Origin) (rs : List RegionTree) → CanMakeOf next whole g inputs variables (regions_of rs) → length rs ≡ 2
two_length next whole g inputs variables [] m = absurd cc
two_length next whole g inputs variables (z ∷ []) m = absurd cc
two_length next whole g inputs variables (z ∷ b ∷ []) m = refl
two_length next whole g inputs variables (z ∷ b ∷ t ∷ rs) m = absurd cc

pub record TwoMade (next : ℕ) (whole : RegionTree) (g : ℕ) (inputs variables : List Origin) (rs : List RegionTree) (z b : RegionTree) : Type 0 where
  pub can : CanMake next (parts_from whole g inputs variables z b)
  pub is : made_of next whole g inputs variables (regions_of rs) ≡ Some (inverted next (parts_from whole g inputs variables z b))

pub two-made : (next : ℕ) (whole : RegionTree) (g : ℕ) (inputs variables : List Origin) (rs : List RegionTree) (z b : RegionTree) → CanMakeOf next whole g inputs variables (regions_of rs) →
    z ≡ slice_index_or rs 0 z → b ≡ slice_index_or rs 1 b → TwoMade next whole g inputs variables rs z b
two-made next whole g inputs variables [] z b m c d = absurd cc
two-made next whole g inputs variables (x ∷ []) z b m c d = absurd cc
two-made next whole g inputs variables (x ∷ y ∷ []) z b m c d =
    record {
      can = subst (λ t. CanMake next (parts_from whole g inputs variables t b)) (sym c) (subst (λ t. CanMake next (parts_from whole g inputs variables x t)) (sym d) m);
      is = λ i. Some (inverted next (parts_from whole g inputs variables (sym c i) (sym d i)));
    }
two-made next whole g inputs variables (x ∷ y ∷ t ∷ rs) z b m c d = absurd cc

pub one_length : (next : ℕ) (rs : List RegionTree) → AreMade next (regions_of rs) → length rs ≡ 1
one_length next [] m = absurd cc
one_length next (r ∷ []) m = refl
one_length next (r ∷ s ∷ rs) m = absurd cc

pub one-made : (next : ℕ) (rs : List RegionTree) (r : RegionTree) → AreMade next (regions_of rs) → r ≡ slice_index_or rs 0 r → Makes next r × (regions_part next (regions_of rs) ≡ body_part next r)
one-made next [] r m e = absurd cc
one-made next (s ∷ []) r m e = (subst (Makes next) (sym e) m, ap (body_part next) (sym e))
one-made next (s ∷ t ∷ rs) r m e = absurd cc

-- ---- without the last node

pub without-last : (xs : List NodeTree) → but_last (nodes_of xs) ≡ nodes_of (take (length xs - 1) xs)
without-last [] = refl
without-last (x ∷ []) = refl
without-last (x ∷ y ∷ xs) =
    let one : suc (suc (length xs)) - 1 ≡ suc (suc (length xs) - 1) = omega arith in
    ap (node_then x) (without-last (y ∷ xs)) ∙ sym (ap (λ m. nodes_of (take m (x ∷ y ∷ xs))) one)
