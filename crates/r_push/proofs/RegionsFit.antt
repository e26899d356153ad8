-- The regions that a node leaves fit, and have all numbers but its own.
use Rattle.std.specs.Option.{option_or}
use Rattle.std.proofs.Common.{◌≡◌, ◌+◌, ℕ, Bool, true, ◌&&◌, List, [], ◌++◌, map, length, Option, None, Some, refl, sym, ap, subst, ◌∙◌, arith}
use Rattle.std.proofs.lemmas.Bool.{and_parts}
use Rattle.g_graph.specs.declared.op.Kind.{Kind}
use Rattle.g_graph.specs.declared.op.Origin.{Origin}
use Rattle.g_graph.specs.declared.op.Origin.TheVariants.{Arg, Out}
use Rattle.g_graph.specs.Plain.{RegionTree, region, NodeTree, node, NodeTrees, node_then, RegionTrees, no_regions, region_then, args_of}
use Rattle.g_graph.specs.Ids.{region_ids, node_ids, nodes_ids, regions_ids}
use Rattle.g_graph.specs.Signatures.{first_args, result_kinds, outputs_of}
use Rattle.g_graph.specs.Scope.{known, each_node}
use Rattle.g_graph.specs.WellFormed.{all_regions, same, are, node_fits, region_fits, every_region, every_in_node, every_in_nodes, every_in_regions, distinct}
use Rattle.g_graph.specs.Replace.{nodes_redirected, origin_replaced}
use Rattle.g_graph.specs.Splice.{joined_nodes}
use Rattle.g_graph.proofs.lemmas.KindLists.{are_themselves}
use Rattle.g_graph.proofs.lemmas.Nodes.{same_kinds, each_here}
use Rattle.g_graph.proofs.lemmas.Redirects.{nodes_ids-redirected}
use Rattle.g_graph.proofs.lemmas.Splices.{nodes_ids-joined, every_in_nodes-joined}
use Rattle.g_graph.proofs.lemmas.Unique.{times, times_append}
use Rattle.g_mean.specs.Copies.{IsAmong, IsClosed, AllClosed}
use Rattle.g_mean.proofs.lemmas.Copies.{among-left, among-right}
use Rattle.g_mean.proofs.lemmas.Edits.{distinct-split}
use Rattle.g_mean.proofs.lemmas.Holds.{distinct-apart}
use Rattle.r_edit.proofs.lemmas.AddedFit.{with_value, arg_added_fits, fits-parts}
use Rattle.g_graph.specs.declared.op.Op.TheVariants.{Gamma}
use Rattle.r_push.specs.Rule.{names_argument, leaving, leaving_one, carried, regions_carried}
use Rattle.r_push.proofs.Stays.{carried-elsewhere}
use Rattle.r_push.proofs.Taken.{carried-is}
use Rattle.r_push.proofs.LeavingNode.{Leaves, leaves}
use Rattle.r_push.proofs.Gammas.{leaving-among, one-among}
use Rattle.r_push.proofs.CarriedFit.{taken-fits}

-- ---- a region

pub record CarriedFits (objects n : ℕ) (taken : ℕ → ℕ) (r : RegionTree) : Type 0 where
  pub args : args_of (carried n r) ≡ with_value (args_of r)
  pub results : result_kinds (carried n r) ≡ result_kinds r
  pub fits : every_region (region_fits objects) (carried n r) ≡ true
  pub ids : (m : ℕ) → times m (region_ids (carried n r)) + taken m ≡ times m (region_ids r)

abbrev pub no_numbers : ℕ → ℕ
no_numbers m = 0

abbrev pub numbers_of : NodeTree → ℕ → ℕ
numbers_of y m = times m (node_ids y)

elsewhere-fits : (objects n : ℕ) (r : RegionTree) → IsClosed r → every_region (region_fits objects) r ≡ true → (IsAmong n (region_ids r) → ⊥) → CarriedFits objects n no_numbers r
elsewhere-fits objects n (region args nodes results) closed fits apart =
    let is = carried-elsewhere n args nodes results closed apart in
    let added = arg_added_fits objects args nodes results fits in
    record {
      args = ap args_of is;
      results = ap result_kinds is ∙ added.0;
      fits = ap (every_region (region_fits objects)) is ∙ added.1;
      ids = λ m. omega (arith, ap (λ r. times m (region_ids r)) is);
    }

pub leaving-fits : (test : Origin → Bool) (objects n : ℕ) (args : List Kind) (nodes : NodeTrees) (results : List Origin) (y : NodeTree) → IsClosed (region args nodes results) →
    distinct (nodes_ids nodes) ≡ true → every_region (region_fits objects) (region args nodes results) ≡ true → Leaves test n nodes y → CarriedFits objects n (numbers_of y) (region args nodes results)
leaving-fits test objects n args nodes results y closed unique fits at =
    let x = node n at.op at.inputs at.regions in
    let whole = joined_nodes at.before (node_then x at.after) in
    let closed' = subst (λ ns. IsClosed (region args ns results)) at.is closed in
    let unique' = subst (λ ns. distinct (nodes_ids ns) ≡ true) at.is unique in
    let fits' = subst (λ ns. every_region (region_fits objects) (region args ns results) ≡ true) at.is fits in
    let move = origin_replaced (Out n 0) (Arg (length args)) in
    let is = ap (λ ns. carried n (region args ns results)) at.is ∙ carried-is args at.before n at.op at.inputs at.regions at.after results closed' unique' in
    let taken = taken-fits objects args at.before n at.op at.inputs at.regions at.after results at.pure unique' fits' in
    record {
      args = ap args_of is;
      results = ap result_kinds is ∙ taken.0 ∙ ap (λ ns. map (known args ns) results) (sym at.is);
      fits = ap (every_region (region_fits objects)) is ∙ taken.1;
      ids = λ m.
          omega (
            arith,
            ap (λ r. times m (region_ids r)) is,
            ap (λ ns. times m (nodes_ids ns)) at.is,
            ap (λ z. times m (node_ids z)) at.node_is,
            ap (times m) (nodes_ids-joined at.before (node_then x at.after)),
            times_append m (nodes_ids at.before) (node_ids x ++ nodes_ids at.after),
            times_append m (node_ids x) (nodes_ids at.after),
            ap (times m) (nodes_ids-joined at.before (nodes_redirected move at.after)),
            times_append m (nodes_ids at.before) (nodes_ids (nodes_redirected move at.after)),
            ap (times m) (nodes_ids-redirected move at.after),
          );
    }

-- ---- the regions of a Gamma

-- each takes these and gives those
abbrev pub AllFit : (firsts gives : List Kind) → RegionTrees → Type 0
AllFit firsts ks rs = all_regions (λ r. same (args_of r) firsts && are (result_kinds r) ks) rs ≡ true

pub record RegionsCarried (objects n : ℕ) (taken : ℕ → ℕ) (firsts ks : List Kind) (rs : RegionTrees) : Type 0 where
  pub all : AllFit (with_value firsts) ks (regions_carried n rs)
  pub inside : every_in_regions (region_fits objects) (regions_carried n rs) ≡ true
  pub ids : (m : ℕ) → times m (regions_ids (regions_carried n rs)) + taken m ≡ times m (regions_ids rs)

one-more : (objects n : ℕ) (first rest both : ℕ → ℕ) (firsts ks : List Kind) (r : RegionTree) (rs : RegionTrees) → ((m : ℕ) → first m + rest m ≡ both m) → AllFit firsts ks (region_then r rs) →
    CarriedFits objects n first r → RegionsCarried objects n rest firsts ks rs → RegionsCarried objects n both firsts ks (region_then r rs)
one-more objects n first rest both firsts ks r rs sum fit h more =
    let parts = and_parts (same (args_of r) firsts && are (result_kinds r) ks) (all_regions (λ q. same (args_of q) firsts && are (result_kinds q) ks) rs) fit in
    let own = and_parts (same (args_of r) firsts) (are (result_kinds r) ks) parts.0 in
    let args : same (args_of (carried n r)) (with_value firsts) ≡ true =
    ap (λ js. same js (with_value firsts)) (h.args ∙ ap with_value (same_kinds (args_of r) firsts own.0)) ∙ are_themselves (with_value firsts) in
    let results : are (result_kinds (carried n r)) ks ≡ true = ap (λ xs. are xs ks) h.results ∙ own.1 in
    record {
      all = λ i. (args i && results i) && more.all i;
      inside = λ i. h.fits i && more.inside i;
      ids = λ m.
          omega (
            arith,
            sum m,
            h.ids m,
            more.ids m,
            times_append m (region_ids r) (regions_ids rs),
            times_append m (region_ids (carried n r)) (regions_ids (regions_carried n rs)),
          );
    }

rest-fit : (firsts ks : List Kind) (r : RegionTree) (rs : RegionTrees) → AllFit firsts ks (region_then r rs) → AllFit firsts ks rs
rest-fit firsts ks r rs e =
    (and_parts (same (args_of r) firsts && are (result_kinds r) ks) (all_regions (λ q. same (args_of q) firsts && are (result_kinds q) ks) rs) e).1

module _ (objects n : ℕ) (firsts ks : List Kind) where
  none-fit : (rs : RegionTrees) → AllClosed rs → AllFit firsts ks rs → every_in_regions (region_fits objects) rs ≡ true → (IsAmong n (regions_ids rs) → ⊥) →
      RegionsCarried objects n no_numbers firsts ks rs
  none-fit no_regions closed fit inside apart = record { all = refl; inside = refl; ids = λ m. omega arith }
  none-fit (region_then r rs) closed fit inside apart =
      let parts = and_parts (every_region (region_fits objects) r) (every_in_regions (region_fits objects) rs) inside in
      one-more objects n no_numbers no_numbers no_numbers firsts ks r rs (λ m. refl) fit
      (elsewhere-fits objects n r closed.0 parts.0 (λ h. apart (among-left n (region_ids r) (regions_ids rs) h)))
      (none-fit rs closed.1 (rest-fit firsts ks r rs fit) parts.1 (λ h. apart (among-right n (region_ids r) (regions_ids rs) h)))

  -- and what the first one takes and gives
  pub record AllCarried (y : NodeTree) (rs : RegionTrees) : Type 0 where
    pub regions : RegionsCarried objects n (numbers_of y) firsts ks rs
    pub first : first_args (regions_carried n rs) ≡ with_value (first_args rs)
    pub outputs : outputs_of Gamma (regions_carried n rs) ≡ outputs_of Gamma rs

  pub all-fit : (y : NodeTree) (rs : RegionTrees) → AllClosed rs → distinct (regions_ids rs) ≡ true → AllFit firsts ks rs → every_in_regions (region_fits objects) rs ≡ true → leaving_one n rs ≡
      Some y →
      AllCarried y rs
  all-fit y no_regions closed unique fit inside e = absurd cc
  all-fit y (region_then (region args nodes results) rs) closed unique fit inside e =
      by (leaving names_argument n (region args nodes results)) refl e (λ f. (all-fit y rs closed.1 parts.1 (rest-fit firsts ks (region args nodes results) rs fit) own.1 f).regions)
    where
      r : RegionTree
      r = region args nodes results

      parts : (distinct (nodes_ids nodes) ≡ true) × (distinct (regions_ids rs) ≡ true)
      parts = distinct-split (nodes_ids nodes) (regions_ids rs) unique

      own : (every_region (region_fits objects) r ≡ true) × (every_in_regions (region_fits objects) rs ≡ true)
      own = and_parts (every_region (region_fits objects) r) (every_in_regions (region_fits objects) rs) inside

      by : (first : Option NodeTree) → leaving names_argument n r ≡ first → option_or first (leaving_one n rs) ≡ Some y →
          (leaving_one n rs ≡ Some y → RegionsCarried objects n (numbers_of y) firsts ks rs) → AllCarried y (region_then r rs)
      by (Some z) d f rest =
          let at = leaves names_argument n args nodes results y (d ∙ f) in
          let here = leaving-fits names_argument objects n args nodes results y closed.0 parts.0 own.0 at in
          let among = leaving-among names_argument n nodes y at in
          record {
            regions = one-more objects n (numbers_of y) no_numbers (numbers_of y) firsts ks r rs (λ m. omega arith) fit here
                (none-fit rs closed.1 (rest-fit firsts ks r rs fit) own.1 (λ h. distinct-apart (nodes_ids nodes) (regions_ids rs) unique n among h));
            first = here.args;
            outputs = here.results;
          }
      by None d f rest =
          let here = elsewhere-fits objects n r closed.0 own.0 (λ h. distinct-apart (nodes_ids nodes) (regions_ids rs) unique n h (one-among n y rs f)) in
          record {
            regions = one-more objects n no_numbers (numbers_of y) (numbers_of y) firsts ks r rs (λ m. omega arith) fit here (rest f);
            first = here.args;
            outputs = here.results;
          }

-- ---- the node in its region

pub record InnerFits (objects : ℕ) (firsts : List Kind) (y : NodeTree) : Type 0 where
  pub before : NodeTrees
  pub fits : node_fits objects firsts before y ≡ true
  pub inside : every_in_node (region_fits objects) y ≡ true

pub inner-fits : (test : Origin → Bool) (objects n : ℕ) (args : List Kind) (nodes : NodeTrees) (results : List Origin) (y : NodeTree) →
    every_region (region_fits objects) (region args nodes results) ≡ true →
    Leaves test n nodes y → InnerFits objects args y
inner-fits test objects n args nodes results y fits at =
    let whole : nodes ≡ joined_nodes at.before (node_then y at.after) = at.is ∙ ap (λ z. joined_nodes at.before (node_then z at.after)) (sym at.node_is) in
    let h = fits-parts objects args nodes results fits in
    let inner = and_parts (every_in_nodes (region_fits objects) at.before) (every_in_nodes (region_fits objects) (node_then y at.after))
    (sym (every_in_nodes-joined (region_fits objects) at.before (node_then y at.after)) ∙ ap (every_in_nodes (region_fits objects)) (sym whole) ∙ h.inside) in
    record {
      before = at.before;
      fits = each_here (node_fits objects args) [] at.before y at.after (ap (each_node (node_fits objects args) []) (sym whole) ∙ h.each);
      inside = (and_parts (every_in_node (region_fits objects) y) (every_in_nodes (region_fits objects) at.after) inner.1).0;
    }

pub one-fits : (objects n : ℕ) (firsts ks : List Kind) (y : NodeTree) (rs : RegionTrees) → AllFit firsts ks rs → every_in_regions (region_fits objects) rs ≡ true → leaving_one n rs ≡ Some y →
    InnerFits objects firsts y
one-fits objects n firsts ks y no_regions fit inside e = absurd cc
one-fits objects n firsts ks y (region_then (region args nodes results) rs) fit inside e =
    by (leaving names_argument n (region args nodes results)) refl e (one-fits objects n firsts ks y rs (rest-fit firsts ks (region args nodes results) rs fit) own.1)
  where
    own : (every_region (region_fits objects) (region args nodes results) ≡ true) × (every_in_regions (region_fits objects) rs ≡ true)
    own = and_parts (every_region (region_fits objects) (region args nodes results)) (every_in_regions (region_fits objects) rs) inside

    by : (first : Option NodeTree) → leaving names_argument n (region args nodes results) ≡ first → option_or first (leaving_one n rs) ≡ Some y →
        (leaving_one n rs ≡ Some y → InnerFits objects firsts y) →
        InnerFits objects firsts y
    by (Some z) d f rest =
        let both = and_parts (same args firsts && are (map (known args nodes) results) ks) (all_regions (λ q. same (args_of q) firsts && are (result_kinds q) ks) rs) fit in
        let args_are = same_kinds args firsts (and_parts (same args firsts) (are (map (known args nodes) results) ks) both.0).0 in
        subst (λ js. InnerFits objects js y) args_are (inner-fits names_argument objects n args nodes results y own.0 (leaves names_argument n args nodes results y (d ∙ f)))
    by None d f rest = rest f
