-- The count of values of a lambda of which a region is changed.
use Rattle.std.specs.Option.{option_or}
use Rattle.std.proofs.Common.{◌≡◌, ℕ, ◌+◌, ◌≤◌, Bool, true, false, nat_le, ◌||◌, map, length, Option, None, Some, option_map, unwrap_or, refl, sym, subst, ◌∙◌, inl, inr, arith}
use Rattle.std.proofs.lemmas.Bool.Decides.{nat_tests}
use Rattle.std.proofs.lemmas.List.{length-map}
use Rattle.std.proofs.lemmas.Option.{same_Some}
use Rattle.base.specs.Limits.{most_grown_values}
use Rattle.g_graph.specs.declared.op.Op.{Op}
use Rattle.g_graph.specs.declared.op.Op.TheVariants.{Const, Undef, Local, Delta, Bin, Un, Load, Store, Clear, PtrEq, Apply, Put, Exit, Get, Gamma, Theta}
use Rattle.g_graph.specs.Plain.{RegionTree, region, NodeTree, node, NodeTrees, no_nodes, node_then, RegionTrees, no_regions, region_then, args_of}
use Rattle.g_graph.specs.Signatures.{outputs_of, result_kinds}
use Rattle.g_graph.specs.Count.{saturated, region_values, node_values, nodes_values, regions_values}
use Rattle.g_graph.specs.declared.op.Origin.{Origin}
use Rattle.g_graph.specs.Replace.{region_redirected}
use Rattle.g_graph.specs.Change.{region_changed, node_changed, nodes_changed, regions_changed}
use Rattle.g_graph.specs.Program.{lambda_values}
use Rattle.g_graph.proofs.lemmas.Redirects.{nodes_values-redirected}
use Rattle.r_edit.specs.Size.{IsNoLarger, may_change_size, Resized, IsResized, ResizedLambdasAreNoLarger}

-- a count that is saturated decides as the count itself
pub saturated-decides : (v added gone : ℕ) → may_change_size (saturated v) added gone ≡ may_change_size v added gone
saturated-decides v added gone = by (nat_le added gone) refl
  where
    by : (t : Bool) → nat_le added gone ≡ t → t || nat_le (saturated v + added) (most_grown_values + gone) ≡ t || nat_le (v + added) (most_grown_values + gone)
    by true e = refl
    by false e = grind (arith, nat_tests, e)

-- what stays around a count that changes
around : (values before after front rest : ℕ) → Resized values before after → Resized values (front + before + rest) (front + after + rest)
around values before after front rest h =
    record { added = h.added; gone = h.gone; count = omega (arith, h.count); may = h.may }

followed : (values before after rest : ℕ) → Resized values before after → Resized values (before + rest) (after + rest)
followed values before after rest h =
    record { added = h.added; gone = h.gone; count = omega (arith, h.count); may = h.may }

-- regions of which one is resized
record AreResized (values : ℕ) (rs ss : RegionTrees) : Type 0 where
  pub outputs : (op : Op) → length (outputs_of op ss) ≡ length (outputs_of op rs)
  pub resized : Resized values (regions_values rs) (regions_values ss)

other_outputs : (r s : RegionTree) (rs ss : RegionTrees) → length (args_of s) ≡ length (args_of r) → length (result_kinds s) ≡ length (result_kinds r) → (op : Op) →
    length (outputs_of op (region_then s ss)) ≡ length (outputs_of op (region_then r rs))
other_outputs r s rs ss args results Gamma = results
other_outputs r s rs ss args results Theta = length-map (args_of s) Some ∙ args ∙ sym (length-map (args_of r) Some)
other_outputs r s rs ss args results (Const w) = refl
other_outputs r s rs ss args results Undef = refl
other_outputs r s rs ss args results (Local k) = refl
other_outputs r s rs ss args results (Delta k) = refl
other_outputs r s rs ss args results (Bin op) = refl
other_outputs r s rs ss args results (Un op) = refl
other_outputs r s rs ss args results (Load w) = refl
other_outputs r s rs ss args results (Store w) = refl
other_outputs r s rs ss args results (Clear k) = refl
other_outputs r s rs ss args results PtrEq = refl
other_outputs r s rs ss args results (Apply f) = refl
other_outputs r s rs ss args results Put = refl
other_outputs r s rs ss args results Exit = refl
other_outputs r s rs ss args results Get = refl

module _ (values : ℕ) (here : RegionTree → Option RegionTree) (local : (r s : RegionTree) → here r ≡ Some s → IsResized values r s) where
  mutual
    region_resized : (r s : RegionTree) → region_changed here r ≡ Some s → IsResized values r s
    region_resized (region args nodes results) s e = by (here (region args nodes results)) refl (nodes_changed here nodes) refl e (λ ms d. nodes_resized nodes ms d)
      where
        by : (found : Option RegionTree) → here (region args nodes results) ≡ found → (changed : Option NodeTrees) → nodes_changed here nodes ≡ changed →
            option_or found (option_map (λ ms. region args ms results) changed) ≡ Some s →
            ((ms : NodeTrees) → nodes_changed here nodes ≡ Some ms → Resized values (nodes_values nodes) (nodes_values ms)) →
            IsResized values (region args nodes results) s
        by (Some t) d changed c f rest = local (region args nodes results) s (d ∙ f)
        by None d (Some ms) c f rest =
            subst (λ t. IsResized values (region args nodes results) t) (same_Some (region args ms results) s f)
            (record {
              args = refl;
              results = length-map results _ ∙ sym (length-map results _);
              resized = around values (nodes_values nodes) (nodes_values ms) (1 + length args) (length results) (rest ms c);
            })
        by None d None c f rest = absurd cc

    node_resized : (x y : NodeTree) → node_changed here x ≡ Some y → Resized values (node_values x) (node_values y)
    node_resized (node id op inputs rs) y e = by (regions_changed here rs) refl e (λ ss d. regions_resized rs ss d)
      where
        by : (changed : Option RegionTrees) → regions_changed here rs ≡ changed → option_map (λ ss. node id op inputs ss) changed ≡ Some y →
            ((ss : RegionTrees) → regions_changed here rs ≡ Some ss → AreResized values rs ss) → Resized values (node_values (node id op inputs rs)) (node_values y)
        by (Some ss) c f rest =
            let h = rest ss c in
            let outputs = h.outputs op in
            subst (λ z. Resized values (node_values (node id op inputs rs)) (node_values z)) (same_Some (node id op inputs ss) y f)
            (record { added = h.resized.added; gone = h.resized.gone; count = omega (arith, h.resized.count, outputs); may = h.resized.may })
        by None c f rest = absurd cc

    nodes_resized : (ns ms : NodeTrees) → nodes_changed here ns ≡ Some ms → Resized values (nodes_values ns) (nodes_values ms)
    nodes_resized no_nodes ms e = absurd cc
    nodes_resized (node_then x xs) ms e =
        by (node_changed here x) refl (nodes_changed here xs) refl e (λ y d. node_resized x y d) (λ ys d. nodes_resized xs ys d)
      where
        by : (first : Option NodeTree) → node_changed here x ≡ first → (later : Option NodeTrees) → nodes_changed here xs ≡ later →
            option_or (option_map (λ y. node_then y xs) first) (option_map (λ ys. node_then x ys) later) ≡ Some ms →
            ((y : NodeTree) → node_changed here x ≡ Some y → Resized values (node_values x) (node_values y)) →
            ((ys : NodeTrees) → nodes_changed here xs ≡ Some ys → Resized values (nodes_values xs) (nodes_values ys)) → Resized values (nodes_values (node_then x xs)) (nodes_values ms)
        by (Some y) c later d f one rest =
            subst (λ zs. Resized values (nodes_values (node_then x xs)) (nodes_values zs)) (same_Some (node_then y xs) ms f)
            (followed values (node_values x) (node_values y) (nodes_values xs) (one y c))
        by None c (Some ys) d f one rest =
            let h = rest ys d in
            subst (λ zs. Resized values (nodes_values (node_then x xs)) (nodes_values zs)) (same_Some (node_then x ys) ms f)
            (record { added = h.added; gone = h.gone; count = omega (arith, h.count); may = h.may })
        by None c None d f one rest = absurd cc

    regions_resized : (rs ss : RegionTrees) → regions_changed here rs ≡ Some ss → AreResized values rs ss
    regions_resized no_regions ss e = absurd cc
    regions_resized (region_then r rs) ss e =
        by (region_changed here r) refl (regions_changed here rs) refl e (λ s d. region_resized r s d) (λ qs d. regions_resized rs qs d)
      where
        by : (first : Option RegionTree) → region_changed here r ≡ first → (later : Option RegionTrees) → regions_changed here rs ≡ later →
            option_or (option_map (λ s. region_then s rs) first) (option_map (λ qs. region_then r qs) later) ≡ Some ss →
            ((s : RegionTree) → region_changed here r ≡ Some s → IsResized values r s) → ((qs : RegionTrees) → regions_changed here rs ≡ Some qs → AreResized values rs qs) →
            AreResized values (region_then r rs) ss
        by (Some s) c later d f one rest =
            let h = one s c in
            subst (λ qs. AreResized values (region_then r rs) qs) (same_Some (region_then s rs) ss f)
            (record { outputs = other_outputs r s rs rs h.args h.results; resized = followed values (region_values r) (region_values s) (regions_values rs) h.resized })
        by None c (Some qs) d f one rest =
            let h = rest qs d in
            subst (λ zs. AreResized values (region_then r rs) zs) (same_Some (region_then r qs) ss f)
            (record {
              outputs = other_outputs r r rs qs refl refl;
              resized = record { added = h.resized.added; gone = h.resized.gone; count = omega (arith, h.resized.count); may = h.resized.may };
            })
        by None c None d f one rest = absurd cc

small : (values after : ℕ) → Resized values values after → IsNoLarger values after
small values after h = by (nat_le h.added h.gone) refl h.may
  where
    by : (t : Bool) → nat_le h.added h.gone ≡ t → (t || nat_le (values + h.added) (most_grown_values + h.gone)) ≡ true → IsNoLarger values after
    by true e may = let le : h.added ≤ h.gone = grind (arith, nat_tests) in inr (omega (arith, le, h.count))
    by false e may = let le : values + h.added ≤ most_grown_values + h.gone = grind (arith, nat_tests) in inl (omega (arith, le, h.count))

pub resized_lambdas_are_no_larger : ResizedLambdasAreNoLarger
resized_lambdas_are_no_larger here l local = by (region_changed here l.body) refl
  where
    by : (found : Option RegionTree) → region_changed here l.body ≡ found → IsNoLarger (region_values l.body) (region_values (unwrap_or found l.body))
    by None e = inr (omega arith)
    by (Some s) e = small (region_values l.body) (region_values s) (region_resized (lambda_values l) here local l.body s e).resized

-- ---- edits that keep the count

-- where inputs and results come from elsewhere
pub redirected-resized : (values : ℕ) (f : Origin → Origin) (r : RegionTree) → IsResized values r (region_redirected f r)
redirected-resized values f (region args nodes results) =
    record {
      args = refl;
      results = length-map (map f results) _ ∙ length-map results f ∙ sym (length-map results _);
      resized = record { added = 0; gone = 0; count = omega (arith, nodes_values-redirected f nodes, length-map results f); may = refl };
    }
