-- The rule keeps lambdas well formed, and is a step.
use Rattle.std.specs.Option.{option_or}
use Rattle.std.proofs.Common.{◌≡◌, ℕ, Bool, true, List, [], ◌∷◌, length, Option, None, Some, option_map, refl, sym, subst, ◌∙◌}
use Rattle.std.proofs.lemmas.List.{length-map}
use Rattle.std.proofs.lemmas.Option.{same_Some}
use Rattle.g_graph.specs.declared.op.Op.{Op}
use Rattle.g_graph.specs.declared.op.Op.TheVariants.{Const, Undef, Local, Delta, Bin, Un, Load, Store, Clear, PtrEq, Apply, Put, Exit, Get, Gamma, Theta}
use Rattle.g_graph.specs.declared.op.Kind.TheVariants.{Value}
use Rattle.g_graph.specs.declared.op.Origin.{Origin}
use Rattle.g_graph.specs.declared.op.Origin.TheVariants.{Arg, Out}
use Rattle.g_graph.specs.Plain.{RegionTree, region, NodeTree, node, NodeTrees, node_then, RegionTrees, no_regions, region_then, PlainLambda}
use Rattle.g_graph.specs.Ids.{region_ids}
use Rattle.g_graph.specs.Lists.{RegionOps, NodeOps, NodesOps, RegionsOps, Calls, NamesGlobal}
use Rattle.g_graph.specs.Program.{lambda_values}
use Rattle.g_graph.specs.Replace.{region_redirected, origin_replaced}
use Rattle.g_graph.specs.Splice.{args_to_inputs, joined_nodes}
use Rattle.g_graph.specs.WellFormed.{region_fits, every_region, IsWellFormed}
use Rattle.g_graph.proofs.lemmas.Nodes.{KeptWithin}
use Rattle.g_graph.proofs.lemmas.Numbers.{Numbered}
use Rattle.g_graph.proofs.lemmas.Ops.{region_redirected_ops, joined_ops, split-ops}
use Rattle.g_mean.specs.Edits.{IsPartOf}
use Rattle.g_mean.proofs.lemmas.Closed.{region-closed}
use Rattle.r_edit.specs.Added.{arg_added, input_added}
use Rattle.r_edit.proofs.lemmas.Removal.{without_ops}
use Rattle.r_edit.specs.Steps.{IsSafeChange}
use Rattle.r_edit.proofs.lemmas.Steps.{kept_well_formed, changed_is_a_step}
use Rattle.r_push.specs.Rule.{names_argument, leaving, leaving_one, leaving_loop, carried, regions_carried, looped, placed, pushed, push_here, is_invariant, lambda_pushed}
use Rattle.r_push.specs.Laws.{PushIsAStep}
use Rattle.r_push.proofs.LeavingNode.{Leaves, leaves}
use Rattle.r_push.proofs.Replaced.{changed-at, push_replaces}
use Rattle.r_push.proofs.LeftFit.{left-fits}
use Rattle.r_push.proofs.Resized.{push_resizes}

-- ---- what is well formed

here-keeps : (l : PlainLambda) (values n : ℕ) (r s : RegionTree) → push_here values n r ≡ Some s → every_region (region_fits (length l.objects)) r ≡ true → Numbered l.next (region_ids r) →
    KeptWithin (length l.objects) r s
here-keeps l values n (region args ns results) s e fits numbers =
    let at = changed-at values n args ns results s e in
    let part : IsPartOf l (region args ns results) =
    record { fits = fits; closed = region-closed (length l.objects) (region args ns results) fits; unique = numbers.unique; below = numbers.below } in
    subst (λ ms. KeptWithin (length l.objects) (region args ms results) s) (sym at.is)
    (subst (λ t. KeptWithin (length l.objects) (region args (joined_nodes at.before (node_then at.left at.after)) results) t) (sym at.result)
    (left-fits l args at.before at.left at.after results (subst (λ ms. IsPartOf l (region args ms results)) at.is part) n at.two at.gives))

-- ---- no op is added

-- of a property that does not ask how many inputs a Gamma or a Theta has
module _ (p : Op → ℕ → Type 0) (gamma : (m k : ℕ) → p Gamma m → p Gamma k) (theta : (m k : ℕ) → p Theta m → p Theta k) where
  leaves-ops : (test : Origin → Bool) (n : ℕ) (nodes : NodeTrees) (y : NodeTree) → Leaves test n nodes y → NodesOps p nodes → NodeOps p y
  leaves-ops test n nodes y at h =
      subst (λ z. NodeOps p z) (sym at.node_is) (split-ops p at.before (node_then (node n at.op at.inputs at.regions) at.after) (subst (λ ns. NodesOps p ns) at.is h)).1.0

  one-ops : (n : ℕ) (y : NodeTree) (rs : RegionTrees) → leaving_one n rs ≡ Some y → RegionsOps p rs → NodeOps p y
  one-ops n y no_regions e h = absurd cc
  one-ops n y (region_then (region args nodes results) rs) e h = by (leaving names_argument n (region args nodes results)) refl e (λ f. one-ops n y rs f h.1)
    where
      by : (first : Option NodeTree) → leaving names_argument n (region args nodes results) ≡ first → option_or first (leaving_one n rs) ≡ Some y → (leaving_one n rs ≡ Some y → NodeOps p y) →
          NodeOps p y
      by (Some z) d f rest = leaves-ops names_argument n nodes y (leaves names_argument n args nodes results y (d ∙ f)) h.0
      by None d f rest = rest f

  carried-ops : (n : ℕ) (r : RegionTree) → RegionOps p r → RegionOps p (carried n r)
  carried-ops n (region args nodes results) h =
      without_ops p n (region_redirected (origin_replaced (Out n 0) (Arg (length args))) (arg_added Value (region args nodes results)))
      (region_redirected_ops p (origin_replaced (Out n 0) (Arg (length args))) (arg_added Value (region args nodes results)) h)

  regions-ops : (n : ℕ) (rs : RegionTrees) → RegionsOps p rs → RegionsOps p (regions_carried n rs)
  regions-ops n no_regions h = tt
  regions-ops n (region_then r rs) h = (carried-ops n r h.0, regions-ops n rs h.1)

  placed-ops : (inputs : List Origin) (y z : NodeTree) → NodeOps p y → NodeOps p z → NodesOps p (placed inputs y z)
  placed-ops inputs (node id op is rs) z h k = ((subst (p op) (sym (length-map is (args_to_inputs inputs))) h.0, h.1), (k, tt))

  left-ops : (n : ℕ) (x : NodeTree) (two : NodeTrees) → pushed n x ≡ Some two → NodeOps p x → NodesOps p two
  left-ops n (node id Gamma (q ∷ entries) rs) two e h = by (leaving_one n rs) refl e
    where
      by : (found : Option NodeTree) → leaving_one n rs ≡ found →
          option_map (λ y. placed entries y (input_added (Out n 0) (node id Gamma (q ∷ entries) (regions_carried n rs)))) found ≡ Some two → NodesOps p two
      by None d f = absurd cc
      by (Some y) d f =
          subst (λ ns. NodesOps p ns) (same_Some _ two f)
          (placed-ops entries y (input_added (Out n 0) (node id Gamma (q ∷ entries) (regions_carried n rs))) (one-ops n y rs d h.1) (gamma _ _ h.0, regions-ops n rs h.1))
  left-ops n (node id Theta inputs (region_then (region own nodes outs) no_regions)) two e h = by (leaving_loop n (region own nodes outs)) refl e
    where
      by : (found : Option NodeTree) → leaving_loop n (region own nodes outs) ≡ found →
          option_map (λ y. placed inputs y (input_added (Out n 0) (node id Theta inputs (region_then (looped n (region own nodes outs)) no_regions)))) found ≡ Some two → NodesOps p two
      by None d f = absurd cc
      by (Some y) d f =
          subst (λ ns. NodesOps p ns) (same_Some _ two f)
          (placed-ops inputs y (input_added (Out n 0) (node id Theta inputs (region_then (looped n (region own nodes outs)) no_regions)))
          (leaves-ops (is_invariant outs) n nodes y (leaves (is_invariant outs) n own nodes outs y d) h.1.0) (theta _ _ h.0, (carried-ops n (region own nodes outs) h.1.0, tt)))
  left-ops n (node id Gamma [] rs) two e h = absurd cc
  left-ops n (node id Theta inputs no_regions) two e h = absurd cc
  left-ops n (node id Theta inputs (region_then (region own nodes outs) (region_then s rs))) two e h = absurd cc
  left-ops n (node id (Const w) inputs rs) two e h = absurd cc
  left-ops n (node id Undef inputs rs) two e h = absurd cc
  left-ops n (node id (Local k) inputs rs) two e h = absurd cc
  left-ops n (node id (Delta k) inputs rs) two e h = absurd cc
  left-ops n (node id (Bin o) inputs rs) two e h = absurd cc
  left-ops n (node id (Un o) inputs rs) two e h = absurd cc
  left-ops n (node id (Load w) inputs rs) two e h = absurd cc
  left-ops n (node id (Store w) inputs rs) two e h = absurd cc
  left-ops n (node id (Clear k) inputs rs) two e h = absurd cc
  left-ops n (node id PtrEq inputs rs) two e h = absurd cc
  left-ops n (node id (Apply f) inputs rs) two e h = absurd cc
  left-ops n (node id Put inputs rs) two e h = absurd cc
  left-ops n (node id Exit inputs rs) two e h = absurd cc
  left-ops n (node id Get inputs rs) two e h = absurd cc

  here-ops : (values n : ℕ) (r s : RegionTree) → push_here values n r ≡ Some s → RegionOps p r → RegionOps p s
  here-ops values n (region args ns results) s e h =
      let at = changed-at values n args ns results s e in
      let parts = split-ops p at.before (node_then at.left at.after) (subst (λ ms. NodesOps p ms) at.is h) in
      subst (λ t. RegionOps p t) (sym at.result)
      (joined_ops p at.before (joined_nodes at.two at.after) parts.0 (joined_ops p at.two at.after (left-ops n at.left at.two at.gives parts.1.0) parts.1.1))

-- ---- the step

pub push_is_safe : (n : ℕ) (l : PlainLambda) → IsSafeChange (push_here (lambda_values l) n) l
push_is_safe n l =
    record {
      replaces = λ ls ks r s part e. push_replaces ls ks (lambda_values l) n l r s part e;
      calls = λ ls r s e h. here-ops (Calls ls) (λ m k d. d) (λ m k d. d) (lambda_values l) n r s e h;
      names = λ globals r s e h. here-ops (NamesGlobal globals) (λ m k d. d) (λ m k d. d) (lambda_values l) n r s e h;
      resized = λ r s e. push_resizes (lambda_values l) n r s e;
    }

pub push_stays : (n : ℕ) (l : PlainLambda) → IsWellFormed l → IsWellFormed (lambda_pushed n l)
push_stays n l well = kept_well_formed (push_here (lambda_values l) n) l (λ r s e fits numbers. here-keeps l (lambda_values l) n r s e fits numbers) well

pub push_is_a_step : PushIsAStep
push_is_a_step held n l well = changed_is_a_step (push_here (lambda_values l) n) l well (push_stays n l well) (push_is_safe n l) held
