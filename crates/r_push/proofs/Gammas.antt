-- A Gamma that a node leaves gives what it gave, where one more entry variable carries what the node gives.
use Rattle.std.proofs.Common.{◌≡◌, ℕ, zero, suc, Bool, true, cond, List, [], ◌∷◌, ◌++◌, map, length, Option, None, Some, refl, sym, ap, ap₂, subst, ◌∙◌, inl, inr}
use Rattle.std.specs.Option.{option_or}
use Rattle.std.proofs.Math.Path.{fun_ext}
use Rattle.std.proofs.lemmas.List.{map-append}
use Rattle.val_core.specs.declared.values.Value.{Value as Word}
use Rattle.val_core.specs.Answers.{Returned, on_number}
use Rattle.g_graph.specs.declared.op.Kind.{Kind}
use Rattle.g_graph.specs.declared.op.Kind.TheVariants.{Value}
use Rattle.g_graph.specs.declared.op.Op.TheVariants.{Gamma}
use Rattle.g_graph.specs.declared.op.Origin.{Origin}
use Rattle.g_graph.specs.declared.op.Origin.TheVariants.{Arg, Out}
use Rattle.g_graph.specs.Plain.{RegionTree, region, NodeTree, node, NodeTrees, node_then, RegionTrees, no_regions, region_then, args_of}
use Rattle.g_graph.specs.Ids.{node_ids, nodes_ids, region_ids, regions_ids}
use Rattle.g_graph.specs.WellFormed.{distinct}
use Rattle.g_graph.specs.Replace.{origin_replaced}
use Rattle.g_graph.specs.Splice.{joined_nodes}
use Rattle.g_graph.proofs.lemmas.Indexes.{same_number_true}
use Rattle.g_graph.proofs.lemmas.Splices.{nodes_ids-joined}
use Rattle.g_mean.specs.Data.{Datum, val, value_of, at_port}
use Rattle.g_mean.specs.Meaning.{Context, chosen, Outputs, no_outputs, extended, read, region_meaning, node_run, nodes_run, meanings}
use Rattle.g_mean.specs.Copies.{IsAmong, IsRead, AreRead, is_argument, IsClosed, AllClosed}
use Rattle.g_mean.proofs.lemmas.Copies.{Equals, among-left, among-right, extended-other, same-then, same-equal}
use Rattle.g_mean.proofs.lemmas.Edits.{distinct-split}
use Rattle.g_mean.proofs.lemmas.Holds.{distinct-apart}
use Rattle.r_edit.specs.Added.{input_added}
use Rattle.r_edit.proofs.lemmas.Added.{arg_added_means}
use Rattle.r_push.specs.Rule.{names_argument, leaving, leaving_one, carried, regions_carried}
use Rattle.r_push.proofs.Stays.{carried-elsewhere}
use Rattle.r_push.proofs.Taken.{carried-is, taken-same, taken_nodes}
use Rattle.r_push.proofs.LeavingNode.{Leaves, leaves, Gives}

-- ---- a region

-- the region means what it meant, on one more datum
abbrev pub MeansTaken : Context → ℕ → List Datum → Word → RegionTree → Type 0
MeansTaken c n us v r = region_meaning c (carried n r) (us ++ val v ∷ []) ≡ region_meaning c r us

pub elsewhere-means : (c : Context) (n : ℕ) (us : List Datum) (v : Word) (r : RegionTree) → IsClosed r → length us ≡ length (args_of r) → (IsAmong n (region_ids r) → ⊥) → MeansTaken c n us v r
elsewhere-means c n us v (region args nodes results) closed count apart =
    ap (λ s. region_meaning c s (us ++ val v ∷ [])) (carried-elsewhere n args nodes results closed apart) ∙ arg_added_means c Value args nodes results closed us (val v) count

pub leaving-means : (c : Context) (n : ℕ) (us : List Datum) (v : Word) (args : List Kind) (nodes : NodeTrees) (results : List Origin) (test : Origin → Bool) (y : NodeTree) →
    IsClosed (region args nodes results) → distinct (nodes_ids nodes) ≡ true → length us ≡ length args → Leaves test n nodes y → Gives c us y v → MeansTaken c n us v (region args nodes results)
leaving-means c n us v args nodes results test y closed unique count at gives =
    let x = node n at.op at.inputs at.regions in
    let closed' = subst (λ ns. IsClosed (region args ns results)) at.is closed in
    let unique' = subst (λ ns. distinct (nodes_ids ns) ≡ true) at.is unique in
    let more = us ++ val v ∷ [] in
    let far = taken_nodes args at.before n at.op at.inputs at.regions at.after results closed' unique' in
    let move = origin_replaced (Out n 0) (Arg (length args)) in
    let runs = taken-same args at.before n at.op at.inputs at.regions at.after results closed' unique' c us v count (λ o. ap (λ z. node_run c z us o) (sym at.node_is) ∙ gives.on o) in
    let same : region_meaning c (region args (joined_nodes at.before (node_then x at.after)) results) us ≡ region_meaning c (region (args ++ Value ∷ []) far (map move results)) more =
    same-equal (region_meaning c (region args (joined_nodes at.before (node_then x at.after)) results) us) (region_meaning c (region (args ++ Value ∷ []) far (map move results)) more)
    (same-then (λ o q. map (read more q) (map move results) ≡ map (read us o) results) Equals (nodes_run c (joined_nodes at.before (node_then x at.after)) us no_outputs)
    (nodes_run c far more no_outputs)
    (λ o. Returned (map (read us o) results) []) (λ q. Returned (map (read more q) (map move results)) []) runs (λ o q h. (sym h, refl))) in
    ap (λ ns. region_meaning c (carried n (region args ns results)) more) at.is
    ∙ ap (λ r. region_meaning c r more) (carried-is args at.before n at.op at.inputs at.regions at.after results closed' unique')
    ∙ sym same ∙ ap (λ ns. region_meaning c (region args ns results) us) (sym at.is)

-- ---- the regions of a Gamma

abbrev pub AllMeanTaken : Context → ℕ → List Datum → Word → RegionTrees → Type 0
AllMeanTaken c n us v no_regions = Unit {0}
AllMeanTaken c n us v (region_then r rs) = MeansTaken c n us v r × AllMeanTaken c n us v rs

-- each region takes so many
abbrev pub AllTake : ℕ → RegionTrees → Type 0
AllTake count no_regions = Unit {0}
AllTake count (region_then r rs) = (count ≡ length (args_of r)) × AllTake count rs

pub leaving-among : (test : Origin → Bool) (n : ℕ) (nodes : NodeTrees) (y : NodeTree) → Leaves test n nodes y → IsAmong n (nodes_ids nodes)
leaving-among test n nodes y at =
    subst (λ ns. IsAmong n (nodes_ids ns)) (sym at.is) (subst (λ zs. IsAmong n zs) (sym (nodes_ids-joined at.before (node_then (node n at.op at.inputs at.regions) at.after)))
    (among-right n (nodes_ids at.before) (node_ids (node n at.op at.inputs at.regions) ++ nodes_ids at.after) (inl refl)))

pub one-among : (n : ℕ) (y : NodeTree) (rs : RegionTrees) → leaving_one n rs ≡ Some y → IsAmong n (regions_ids rs)
one-among n y no_regions e = absurd cc
one-among n y (region_then (region args nodes results) rs) e = by (leaving names_argument n (region args nodes results)) refl e (one-among n y rs)
  where
    by : (first : Option NodeTree) → leaving names_argument n (region args nodes results) ≡ first → option_or first (leaving_one n rs) ≡ Some y →
        (leaving_one n rs ≡ Some y → IsAmong n (regions_ids rs)) → IsAmong n (nodes_ids nodes ++ regions_ids rs)
    by (Some z) d f rest = among-left n (nodes_ids nodes) (regions_ids rs) (leaving-among names_argument n nodes y (leaves names_argument n args nodes results y (d ∙ f)))
    by None d f rest = among-right n (nodes_ids nodes) (regions_ids rs) (rest f)

module _ (c : Context) (n : ℕ) (us : List Datum) (v : Word) where
  none-mean : (rs : RegionTrees) → AllClosed rs → AllTake (length us) rs → (IsAmong n (regions_ids rs) → ⊥) → AllMeanTaken c n us v rs
  none-mean no_regions closed counts apart = tt
  none-mean (region_then r rs) closed counts apart = (
    elsewhere-means c n us v r closed.0 counts.0 (λ h. apart (among-left n (region_ids r) (regions_ids rs) h)),
    none-mean rs closed.1 counts.1 (λ h. apart (among-right n (region_ids r) (regions_ids rs) h)),
  )

  pub all-mean : (y : NodeTree) → Gives c us y v → (rs : RegionTrees) → AllClosed rs → distinct (regions_ids rs) ≡ true → AllTake (length us) rs → leaving_one n rs ≡ Some y → AllMeanTaken c n us v rs
  all-mean y gives no_regions closed unique counts e = absurd cc
  all-mean y gives (region_then (region args nodes results) rs) closed unique counts e =
      by (leaving names_argument n (region args nodes results)) refl e (λ f. all-mean y gives rs closed.1 parts.1 counts.1 f)
    where
      parts : (distinct (nodes_ids nodes) ≡ true) × (distinct (regions_ids rs) ≡ true)
      parts = distinct-split (nodes_ids nodes) (regions_ids rs) unique

      by : (first : Option NodeTree) → leaving names_argument n (region args nodes results) ≡ first → option_or first (leaving_one n rs) ≡ Some y →
          (leaving_one n rs ≡ Some y → AllMeanTaken c n us v rs) → AllMeanTaken c n us v (region_then (region args nodes results) rs)
      by (Some z) d f rest =
          let at = leaves names_argument n args nodes results y (d ∙ f) in
          let here = leaving-among names_argument n nodes y at in (
            leaving-means c n us v args nodes results names_argument y closed.0 parts.0 counts.0 at gives,
            none-mean rs closed.1 counts.1 (λ h. distinct-apart (nodes_ids nodes) (regions_ids rs) unique n here h),
          )
      by None d f rest = (
        elsewhere-means c n us v (region args nodes results) closed.0 counts.0 (λ h. distinct-apart (nodes_ids nodes) (regions_ids rs) unique n h (one-among n y rs f)),
        rest f,
      )

  chosen-taken : (w : ℕ) (rs : RegionTrees) → AllMeanTaken c n us v rs → chosen w (meanings c (regions_carried n rs)) (us ++ val v ∷ []) ≡ chosen w (meanings c rs) us
  chosen-taken w no_regions h = refl
  chosen-taken w (region_then r no_regions) h = h.0
  chosen-taken zero (region_then r (region_then s rs)) h = h.0
  chosen-taken (suc w) (region_then r (region_then s rs)) h = chosen-taken w (region_then s rs) h.1

-- ---- the node

-- reads of what another node does not give
pub reads-stay : (count : ℕ) (known : List ℕ) (ys : List Datum) (q : Outputs) (n : ℕ) (ws : List Datum) → (IsAmong n known → ⊥) → (os : List Origin) → AreRead (is_argument count) known os →
    map (read ys (extended q n ws)) os ≡ map (read ys q) os
reads-stay count known ys q n ws out [] r = refl
reads-stay count known ys q n ws out (a ∷ os) r = ap₂ (λ z zs. z ∷ zs) (by a r.0) (reads-stay count known ys q n ws out os r.1)
  where
    by : (a : Origin) → IsRead (is_argument count) known a → read ys (extended q n ws) a ≡ read ys q a
    by (Arg k) h = refl
    by (Out m p) (inl t) = absurd cc
    by (Out m p) (inr h) = extended-other q n ws m p (λ e. out (subst (λ z. IsAmong z known) (sym e) h))

-- and of what it gives, at the end
pub reads-carried : (count : ℕ) (known : List ℕ) (ys : List Datum) (q : Outputs) (n : ℕ) (v : Word) → (IsAmong n known → ⊥) → (os : List Origin) → AreRead (is_argument count) known os →
    map (read ys (extended q n (val v ∷ []))) (os ++ Out n 0 ∷ []) ≡ map (read ys q) os ++ val v ∷ []
reads-carried count known ys q n v out os r =
    map-append (read ys (extended q n (val v ∷ []))) os (Out n 0 ∷ [])
    ∙ ap₂ (λ zs z. zs ++ z ∷ []) (reads-stay count known ys q n (val v ∷ []) out os r) (ap (λ t. cond t (val v) (q n 0)) (same_number_true n))

pub gamma-same : (c : Context) (n : ℕ) (v : Word) (count : ℕ) (known : List ℕ) (ys : List Datum) (q : Outputs) (id : ℕ) (p : Origin) (entries : List Origin) (rs : RegionTrees) →
    (IsAmong n known → ⊥) → AreRead (is_argument count) known (p ∷ entries) → AllMeanTaken c n (map (read ys q) entries) v rs →
    node_run c (input_added (Out n 0) (node id Gamma (p ∷ entries) (regions_carried n rs))) ys (extended q n (val v ∷ [])) ≡ node_run c (node id Gamma (p ∷ entries) rs) ys q
gamma-same c n v count known ys q id p entries rs out reads taken =
    let first : read ys (extended q n (val v ∷ [])) p ≡ read ys q p = ap (λ zs. at_port zs 0) (reads-stay count known ys q n (val v ∷ []) out (p ∷ []) (reads.0, tt)) in
    let rest = reads-carried count known ys q n v out entries reads.1 in
    ap₂ (λ z zs. on_number (value_of z) (λ w. chosen w (meanings c (regions_carried n rs)) zs)) first rest
    ∙ ap (on_number (value_of (read ys q p))) (fun_ext (λ w. chosen-taken c n (map (read ys q) entries) v w rs taken))
