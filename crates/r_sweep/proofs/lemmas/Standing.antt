-- A node that is found in the list of nodes of a well-formed lambda, and where it stands.
use Rattle.std.proofs.Common.{◌≡◌, ◌<◌, ℕ, suc, ◌==◌, ◌&&◌, ◌||◌, not, nat_lt, Bool, true, false, Option, None, Some, option_map, unwrap_or, List, [], ◌∷◌, map, length, refl, sym, ap, ◌∙◌, arith, le_of_eq}
use Rattle.std.specs.Prelude.{if◌then◌else◌}
use Rattle.std.proofs.lemmas.Bool.Decides.{nat_tests}
use Rattle.g_graph.specs.declared.op.Kind.{Kind}
use Rattle.g_graph.specs.declared.op.Op.{Op}
use Rattle.g_graph.specs.declared.op.Op.TheVariants.{Gamma, Theta}
use Rattle.g_graph.specs.declared.op.Origin.{Origin}
use Rattle.g_graph.specs.declared.op.Origin.TheVariants.{Arg, Out}
use Rattle.g_graph.specs.Plain.{RegionTree, region, NodeTree, node, NodeTrees, node_then, RegionTrees, id_of, nodes_in, PlainLambda}
use Rattle.g_graph.specs.Ids.{region_ids}
use Rattle.g_graph.specs.Signatures.{first_args, op_outputs, outputs_of, output_kinds}
use Rattle.g_graph.specs.Scope.{same_kind, is_of}
use Rattle.g_graph.specs.Change.{has_node, region_changed, lambda_changed, in_region_of}
use Rattle.g_graph.specs.WellFormed.{some_of, kinds_of, regions_fit, IsWellFormed}
use Rattle.g_graph.specs.Nodes.{is_used}
use Rattle.g_graph.specs.Splice.{joined_nodes}
use Rattle.g_graph.proofs.lemmas.Indexes.{same_number_true}
use Rattle.g_graph.proofs.lemmas.KindLists.{kinds_of_some}
use Rattle.g_graph.proofs.lemmas.Splices.{Split, split_at}
use Rattle.g_graph.proofs.lemmas.Unique.{counts_of_distinct, same_number}
use Rattle.g_arena_def.specs.Flat.{FlatNode, body_place, flat_of}
use Rattle.g_arena_def.specs.Reads.{found, uses_in}
use Rattle.r_edit.specs.Uses.{is_read}
use Rattle.r_edit.proofs.lemmas.ExitsFit.{exits_are}
use Rattle.r_sweep.proofs.lemmas.Outside.{AreOnce}
use Rattle.r_sweep.proofs.lemmas.Regions.{IsChangeAt, IsHolder}
use Rattle.r_sweep.proofs.lemmas.Around.{Around, around}
use Rattle.r_sweep.proofs.lemmas.Blocks.{Within}
use Rattle.r_sweep.proofs.lemmas.FromLast.{is_beyond}
use Rattle.r_sweep.proofs.lemmas.Kept.{Fitting, numbers_of, own, here, unread_beyond}
use Rattle.r_sweep.proofs.lemmas.Reading.{unused, unread, not_used, found_in, uses_here}

pub once_in : (l : PlainLambda) → IsWellFormed l → AreOnce (region_ids l.body)
once_in l well = counts_of_distinct (region_ids l.body) (numbers_of l well).unique

-- the node, in its region
pub within : (n : ℕ) (l : PlainLambda) (x : FlatNode) → IsWellFormed l → found n (flat_of l).nodes ≡ Some x → Within n l
within n l x well e = by z.here refl z.has
  where
    z : Around n l
    z = around n l (once_in l well) (found_in n body_place l.body x e)

    by_node : (args : List Kind) (ns : NodeTrees) (results : List Origin) → z.here ≡ region args ns results → (before : NodeTrees) (y : NodeTree) (after : NodeTrees) →
        (id_of y == n) ≡ true → ns ≡ joined_nodes before (node_then y after) → Within n l
    by_node args ns results is before (node id op inputs rs) after h whole = record {
      around = z;
      args = args;
      before = before;
      op = op;
      inputs = inputs;
      regions = rs;
      after = after;
      results = results;
      is = is ∙ ap (λ ms. region args ms results) whole ∙ ap (λ m. region args (joined_nodes before (node_then (node m op inputs rs) after)) results) (same_number id n h);
    }

    by : (h : RegionTree) → z.here ≡ h → has_node n (nodes_in z.here) ≡ true → Within n l
    by (region args ns results) is h =
        let s : Split n ns = split_at n ns (ap (λ r. has_node n (nodes_in r)) (sym is) ∙ h) in
        by_node args ns results is s.before s.here s.after s.numbered s.whole

-- any change of it
pub changes_are : (n : ℕ) (l : PlainLambda) (z : Around n l) (g : RegionTree → Option RegionTree) → IsChangeAt n g → (s : RegionTree) → g z.here ≡ Some s →
    lambda_changed g l ≡ record l { body = z.fill s }
changes_are n l z g at s e =
    let here : IsHolder n z.here = record { has = z.has; once = z.once } in
    let now : region_changed g l.body ≡ Some (z.fill s) =
    ap (region_changed g) (sym z.is) ∙ z.changed_to z.here (record { args = refl; results = refl }) here g at ∙ ap (option_map z.fill) e in
    λ i. record l { body = unwrap_or (now i) l.body }

-- a change of the region that holds the node
pub change_is : (n : ℕ) (l : PlainLambda) (z : Around n l) (f : RegionTree → RegionTree) → lambda_changed (in_region_of n f) l ≡ record l { body = z.fill (f z.here) }
change_is n l z f =
    let at : IsChangeAt n (in_region_of n f) = λ r h. ap (λ t. if t then Some (f r) else None) h in
    let now : in_region_of n f z.here ≡ Some (f z.here) = ap (λ t. if t then Some (f z.here) else None) z.has in
    changes_are n l z (in_region_of n f) at (f z.here) now

-- ---- outputs

pub kinds_are : (op : Op) (id : ℕ) (inputs : List Origin) (rs : RegionTrees) → regions_fit (node id op inputs rs) ≡ true → outputs_of op rs ≡ map Some (kinds_of (outputs_of op rs))
kinds_are Gamma id inputs rs e = exits_are [] id inputs rs e
kinds_are Theta id inputs rs e = ap (map Some) (sym (kinds_of_some (first_args rs)))
kinds_are op id inputs rs e = ap (map Some) (sym (kinds_of_some (op_outputs op)))

counted : (js : List Kind) → length (map Some js) ≡ length js
counted [] = refl
counted (j ∷ js) = ap suc (counted js)

pub states_are : (k : Kind) (js : List Kind) → some_of (is_of k) (map Some js) ≡ some_of (same_kind k) js
states_are k [] = refl
states_are k (j ∷ js) = ap (λ b. same_kind k j || b) (states_are k js)

module _ (n : ℕ) (l : PlainLambda) (w : Within n l) (well : Fitting n l w) where
  pub own_kinds : outputs_of w.op w.regions ≡ map Some (kinds_of (outputs_of w.op w.regions))
  own_kinds = kinds_are w.op n w.inputs w.regions (here n l w well).regions

  own_count : length (output_kinds (own n l w well)) ≡ length (kinds_of (outputs_of w.op w.regions))
  own_count = ap length own_kinds ∙ counted (kinds_of (outputs_of w.op w.regions))

  -- outputs that have no use are not read
  pub not_read : (test : Origin → Bool) → ((j : ℕ) → test (Arg j) ≡ false) → ((m k : ℕ) → test (Out m k) ≡ true → m ≡ n) →
      ((k : ℕ) → test (Out n k) ≡ true → k < length (kinds_of (outputs_of w.op w.regions)) → uses_in w.around.place (Out n k) (flat_of l) ≡ 0) → is_read test w.around.here ≡ false
  not_read test none own_alone uses = unread test w.around.here by
    where
      c : ℕ
      c = length (kinds_of (outputs_of w.op w.regions))

      by_port : (k : ℕ) (t : Bool) → nat_lt k c ≡ t → test (Out n k) ≡ true → is_used (Out n k) w.around.here ≡ false
      by_port k true t e =
          let within : k < c = grind (arith, nat_tests, t) in
          unused (Out n k) w.around.here (sym (uses_here n l w.around (Out n k)) ∙ uses k e within)
      by_port k false t e =
          let past : is_beyond n c (Out n k) ≡ true = λ i. same_number_true n i && not (t i) in
          not_used (is_beyond n c) w.around.here (ap (is_read (is_beyond n c)) w.is ∙ unread_beyond n l w well c (le_of_eq own_count)) (Out n k) past

      by : (o : Origin) → test o ≡ true → is_used o w.around.here ≡ false
      by (Arg j) e = absurd (different (test (Arg j)) e (none j))
        where
          different : (t : Bool) → t ≡ true → t ≡ false → ⊥
          different true a b = cc
          different false a b = cc
      by (Out m k) e =
          let same = own_alone m k e in
          ap (λ i. is_used (Out i k) w.around.here) same ∙ by_port k (nat_lt k c) refl (ap (λ i. test (Out i k)) (sym same) ∙ e)
