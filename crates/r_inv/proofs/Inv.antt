-- Invariant value redirection keeps meaning and what is well formed.
use Rattle.std.specs.Prelude.{option_and_then}
use Rattle.std.proofs.Common.{◌≡◌, ℕ, zero, suc, ◌+◌, Bool, true, false, ◌&&◌, cond, List, [], ◌∷◌, length, Option, None, Some, slice_get, refl, sym, ap, subst, subst₂, ◌∙◌, arith}
use Rattle.std.proofs.lemmas.Bool.{and_parts}
use Rattle.std.proofs.lemmas.Option.{same_Some, none-some}
use Rattle.g_graph.specs.declared.op.Kind.{Kind}
use Rattle.g_graph.specs.declared.op.Kind.TheVariants.{Value}
use Rattle.g_graph.specs.declared.op.Op.{Op}
use Rattle.g_graph.specs.declared.op.Op.TheVariants.{Const, Undef, Local, Delta, Bin, Un, Load, Store, Clear, PtrEq, Apply, Put, Exit, Get, Gamma, Theta}
use Rattle.g_graph.specs.declared.op.Origin.{Origin}
use Rattle.g_graph.specs.declared.op.Origin.TheVariants.{Arg}
use Rattle.g_graph.specs.Plain.{RegionTree, region, NodeTree, node, NodeTrees, node_then, RegionTrees, no_regions, region_then, id_of, PlainLambda}
use Rattle.g_graph.specs.Ids.{region_ids, nodes_ids}
use Rattle.g_graph.specs.Signatures.{joined, outputs_of}
use Rattle.g_graph.specs.Scope.{same_kind}
use Rattle.g_graph.specs.Change.{has_node}
use Rattle.g_graph.specs.WellFormed.{is_origin, region_fits, every_region, IsWellFormed}
use Rattle.g_graph.specs.Nodes.{node_at}
use Rattle.g_graph.specs.Splice.{joined_nodes}
use Rattle.g_graph.specs.Lists.{RegionOps, Calls, NamesGlobal}
use Rattle.g_graph.proofs.lemmas.Found.{found_node, node_at-joined}
use Rattle.g_graph.proofs.lemmas.Indexes.{same_kind_true, is_origin_some}
use Rattle.g_graph.proofs.lemmas.Nodes.{NodeFits, node_fits_here, KeptWithin}
use Rattle.g_graph.proofs.lemmas.Numbers.{Numbered}
use Rattle.g_graph.proofs.lemmas.Splices.{Split, split_at}
use Rattle.g_graph.proofs.lemmas.Unique.{same_number}
use Rattle.g_mean.specs.Edits.{IsPartOf}
use Rattle.g_mean.specs.Replacement.{Replaces}
use Rattle.r_edit.specs.InPlace.{outputs_redirected}
use Rattle.r_edit.specs.Size.{IsResized}
use Rattle.g_graph.specs.Program.{lambda_values}
use Rattle.r_edit.specs.Carried.{passed, output_carried, exits_carried}
use Rattle.r_edit.proofs.lemmas.Carried.{carried_exits_go, carried_uses_move}
use Rattle.r_edit.proofs.lemmas.CarriedExits.{exits_carried_fit, exits_carried_ops}
use Rattle.r_edit.proofs.lemmas.Fewer.{outputs-resized, carried-resized}
use Rattle.r_edit.specs.Steps.{IsSafeChange}
use Rattle.r_edit.proofs.lemmas.Steps.{kept_well_formed, changed_is_a_step}
use Rattle.r_edit.proofs.lemmas.CarriedUses.{uses_carried_fit, outputs_redirected_ops}
use Rattle.r_inv.specs.Rule.{exits_from, variables_from, some_used, carried_exits, carried_variables, moved, inv_here, inv}
use Rattle.r_inv.specs.Laws.{InvReplaces, InvIsAStep}

-- ---- what is carried

exits_passed : (inputs : List Origin) (rs : RegionTrees) (p : ℕ) (ks : List (Option Kind)) (i : ℕ) (o : Origin) → joined (slice_get (exits_from inputs rs p ks) i) ≡ Some o →
    passed inputs (p + i) rs ≡ Some o
exits_passed inputs rs p [] i o e = absurd cc
exits_passed inputs rs p (k ∷ ks) zero o e =
    let number : p + 0 ≡ p = omega arith in
    ap (λ q. passed inputs q rs) number ∙ e
exits_passed inputs rs p (k ∷ ks) (suc i) o e =
    let number : p + suc i ≡ suc p + i = omega arith in
    ap (λ q. passed inputs q rs) number ∙ exits_passed inputs rs (suc p) ks i o e

exit_passed : (inputs : List Origin) (rs : RegionTrees) (i : ℕ) (o : Origin) → joined (slice_get (carried_exits inputs rs) i) ≡ Some o → passed inputs i rs ≡ Some o
exit_passed inputs rs i o e =
    let number : i ≡ 0 + i = omega arith in
    ap (λ q. passed inputs q rs) number ∙ exits_passed inputs rs 0 (outputs_of Gamma rs) i o e

record Invariant (inputs outs : List Origin) (p : ℕ) (j : Option Kind) (o : Origin) : Type 0 where
  value : j ≡ Some Value
  result : slice_get outs (suc p) ≡ Some (Arg p)
  input : slice_get inputs p ≡ Some o

variables_kept : (inputs outs : List Origin) (p : ℕ) (js : List Kind) (i : ℕ) (o : Origin) → joined (slice_get (variables_from inputs outs p js) i) ≡ Some o →
    Invariant inputs outs (p + i) (slice_get js i) o
variables_kept inputs outs p [] i o e = absurd cc
variables_kept inputs outs p (j ∷ js) zero o e =
    let number : p ≡ p + 0 = omega arith in
    subst (λ q. Invariant inputs outs q (Some j) o) number (by (same_kind Value j && is_origin (slice_get outs (suc p)) (Arg p)) refl e)
  where
    by : (t : Bool) → (same_kind Value j && is_origin (slice_get outs (suc p)) (Arg p)) ≡ t → cond t (slice_get inputs p) None ≡ Some o → Invariant inputs outs p (Some j) o
    by false h d = absurd cc
    by true h d =
        let both = and_parts (same_kind Value j) (is_origin (slice_get outs (suc p)) (Arg p)) h in
        record { value = ap Some (sym (same_kind_true Value j both.0)); result = is_origin_some (slice_get outs (suc p)) (Arg p) both.1; input = d }
variables_kept inputs outs p (j ∷ js) (suc i) o e =
    let number : suc p + i ≡ p + suc i = omega arith in
    subst (λ q. Invariant inputs outs q (slice_get js i) o) number (variables_kept inputs outs (suc p) js i o e)

variable_kept : (inputs outs : List Origin) (js : List Kind) (i : ℕ) (o : Origin) → joined (slice_get (variables_from inputs outs 0 js) i) ≡ Some o → Invariant inputs outs i (slice_get js i) o
variable_kept inputs outs js i o e =
    let number : 0 + i ≡ i = omega arith in
    subst (λ q. Invariant inputs outs q (slice_get js i) o) number (variables_kept inputs outs 0 js i o e)

-- ---- what a change is

moved_if : (t : Bool) (r s : RegionTree) → cond t (Some r) None ≡ Some s → r ≡ s
moved_if true r s e = same_Some r s e
moved_if false r s e = absurd (none-some _ e)

-- ---- at a node in its place

module _ (args : List Kind) (before : NodeTrees) (after : NodeTrees) (results : List Origin) where
  abbrev whole : NodeTree → RegionTree
  whole x = region args (joined_nodes before (node_then x after)) results

  moved_replaces : (ls ks : List PlainLambda) (l : PlainLambda) (id : ℕ) (op : Op) (inputs : List Origin) (rs : RegionTrees) (s : RegionTree) → IsPartOf l (whole (node id op inputs rs)) →
      moved (whole (node id op inputs rs)) (node id op inputs rs) ≡ Some s → Replaces ls ks (whole (node id op inputs rs)) s
  moved_replaces ls ks l id Gamma inputs rs s part e =
      let r = whole (node id Gamma inputs rs) in
      let cs = carried_exits inputs rs in
      subst (λ t. Replaces ls ks r t) (moved_if (some_used id r 0 cs) (exits_carried id cs r) s e)
      (carried_exits_go ls ks l args before id inputs rs after results cs part (λ p o h. exit_passed inputs rs p o h))
  moved_replaces ls ks l id Theta inputs (region_then (region own nodes outs) no_regions) s part e =
      let r = whole (node id Theta inputs (region_then (region own nodes outs) no_regions)) in
      let cs = variables_from inputs outs 0 own in
      subst (λ t. Replaces ls ks r t) (moved_if (some_used id r 0 cs) (outputs_redirected id (output_carried id cs []) r) s e)
      (carried_uses_move ls ks l args before id inputs own nodes outs after results cs part (λ p o h. let at = variable_kept inputs outs own p o h in (at.result, at.input)))
  moved_replaces ls ks l id Theta inputs no_regions s part e = absurd (none-some _ e)
  moved_replaces ls ks l id Theta inputs (region_then q (region_then t rs)) s part e = absurd (none-some _ e)
  moved_replaces ls ks l id (Const w) inputs rs s part e = absurd (none-some _ e)
  moved_replaces ls ks l id Undef inputs rs s part e = absurd (none-some _ e)
  moved_replaces ls ks l id (Local k) inputs rs s part e = absurd (none-some _ e)
  moved_replaces ls ks l id (Delta k) inputs rs s part e = absurd (none-some _ e)
  moved_replaces ls ks l id (Bin op) inputs rs s part e = absurd (none-some _ e)
  moved_replaces ls ks l id (Un op) inputs rs s part e = absurd (none-some _ e)
  moved_replaces ls ks l id (Load w) inputs rs s part e = absurd (none-some _ e)
  moved_replaces ls ks l id (Store w) inputs rs s part e = absurd (none-some _ e)
  moved_replaces ls ks l id (Clear k) inputs rs s part e = absurd (none-some _ e)
  moved_replaces ls ks l id PtrEq inputs rs s part e = absurd (none-some _ e)
  moved_replaces ls ks l id (Apply f) inputs rs s part e = absurd (none-some _ e)
  moved_replaces ls ks l id Put inputs rs s part e = absurd (none-some _ e)
  moved_replaces ls ks l id Exit inputs rs s part e = absurd (none-some _ e)
  moved_replaces ls ks l id Get inputs rs s part e = absurd (none-some _ e)

  moved_kept : (objects id : ℕ) (op : Op) (inputs : List Origin) (rs : RegionTrees) (s : RegionTree) → every_region (region_fits objects) (whole (node id op inputs rs)) ≡ true →
      NodeFits objects args before (node id op inputs rs) after → moved (whole (node id op inputs rs)) (node id op inputs rs) ≡ Some s → KeptWithin objects (whole (node id op inputs rs)) s
  moved_kept objects id Gamma inputs rs s fits here e =
      let r = whole (node id Gamma inputs rs) in
      let cs = carried_exits inputs rs in
      subst (λ t. KeptWithin objects r t) (moved_if (some_used id r 0 cs) (exits_carried id cs r) s e)
      (exits_carried_fit objects args before id inputs rs after cs here (λ p o h. exit_passed inputs rs p o h) results fits)
  moved_kept objects id Theta inputs (region_then (region own nodes outs) no_regions) s fits here e =
      let r = whole (node id Theta inputs (region_then (region own nodes outs) no_regions)) in
      let cs = variables_from inputs outs 0 own in
      subst (λ t. KeptWithin objects r t) (moved_if (some_used id r 0 cs) (outputs_redirected id (output_carried id cs []) r) s e)
      (uses_carried_fit objects args before id inputs own nodes outs after cs here (λ p o h. let at = variable_kept inputs outs own p o h in (at.value, at.input)) results fits)
  moved_kept objects id Theta inputs no_regions s fits here e = absurd (none-some _ e)
  moved_kept objects id Theta inputs (region_then q (region_then t rs)) s fits here e = absurd (none-some _ e)
  moved_kept objects id (Const w) inputs rs s fits here e = absurd (none-some _ e)
  moved_kept objects id Undef inputs rs s fits here e = absurd (none-some _ e)
  moved_kept objects id (Local k) inputs rs s fits here e = absurd (none-some _ e)
  moved_kept objects id (Delta k) inputs rs s fits here e = absurd (none-some _ e)
  moved_kept objects id (Bin op) inputs rs s fits here e = absurd (none-some _ e)
  moved_kept objects id (Un op) inputs rs s fits here e = absurd (none-some _ e)
  moved_kept objects id (Load w) inputs rs s fits here e = absurd (none-some _ e)
  moved_kept objects id (Store w) inputs rs s fits here e = absurd (none-some _ e)
  moved_kept objects id (Clear k) inputs rs s fits here e = absurd (none-some _ e)
  moved_kept objects id PtrEq inputs rs s fits here e = absurd (none-some _ e)
  moved_kept objects id (Apply f) inputs rs s fits here e = absurd (none-some _ e)
  moved_kept objects id Put inputs rs s fits here e = absurd (none-some _ e)
  moved_kept objects id Exit inputs rs s fits here e = absurd (none-some _ e)
  moved_kept objects id Get inputs rs s fits here e = absurd (none-some _ e)

  -- no op is added
  module _ (p : Op → ℕ → Type 0) where
    moved_ops : (id : ℕ) (op : Op) (inputs : List Origin) (rs : RegionTrees) (r s : RegionTree) → moved r (node id op inputs rs) ≡ Some s → RegionOps p r → RegionOps p s
    moved_ops id Gamma inputs rs r s e h =
        let cs = carried_exits inputs rs in
        subst (RegionOps p) (moved_if (some_used id r 0 cs) (exits_carried id cs r) s e) (exits_carried_ops p cs id r h)
    moved_ops id Theta inputs (region_then q no_regions) r s e h =
        let cs = carried_variables inputs q in
        subst (RegionOps p) (moved_if (some_used id r 0 cs) (outputs_redirected id (output_carried id cs []) r) s e) (outputs_redirected_ops p (output_carried id cs []) id r h)
    moved_ops id Theta inputs no_regions r s e h = absurd (none-some _ e)
    moved_ops id Theta inputs (region_then q (region_then t rs)) r s e h = absurd (none-some _ e)
    moved_ops id (Const w) inputs rs r s e h = absurd (none-some _ e)
    moved_ops id Undef inputs rs r s e h = absurd (none-some _ e)
    moved_ops id (Local k) inputs rs r s e h = absurd (none-some _ e)
    moved_ops id (Delta k) inputs rs r s e h = absurd (none-some _ e)
    moved_ops id (Bin op) inputs rs r s e h = absurd (none-some _ e)
    moved_ops id (Un op) inputs rs r s e h = absurd (none-some _ e)
    moved_ops id (Load w) inputs rs r s e h = absurd (none-some _ e)
    moved_ops id (Store w) inputs rs r s e h = absurd (none-some _ e)
    moved_ops id (Clear k) inputs rs r s e h = absurd (none-some _ e)
    moved_ops id PtrEq inputs rs r s e h = absurd (none-some _ e)
    moved_ops id (Apply f) inputs rs r s e h = absurd (none-some _ e)
    moved_ops id Put inputs rs r s e h = absurd (none-some _ e)
    moved_ops id Exit inputs rs r s e h = absurd (none-some _ e)
    moved_ops id Get inputs rs r s e h = absurd (none-some _ e)

-- ---- the node in its region

record Located (n : ℕ) (args : List Kind) (ns : NodeTrees) (results : List Origin) (s : RegionTree) : Type 0 where
  before : NodeTrees
  op : Op
  inputs : List Origin
  regions : RegionTrees
  after : NodeTrees
  is : ns ≡ joined_nodes before (node_then (node n op inputs regions) after)
  none : has_node n before ≡ false
  gives : moved (region args (joined_nodes before (node_then (node n op inputs regions) after)) results) (node n op inputs regions) ≡ Some s

located_by : (n : ℕ) (args : List Kind) (ns : NodeTrees) (results : List Origin) (s : RegionTree) (x : NodeTree) → (split : Split n ns) → split.here ≡ x →
    moved (region args ns results) x ≡ Some s → Located n args ns results s
located_by n args ns results s (node id op inputs rs) split here e =
    let number : id ≡ n = ap id_of (sym here) ∙ same_number (id_of split.here) n split.numbered in
    let is : ns ≡ joined_nodes split.before (node_then (node n op inputs rs) split.after) =
    split.whole ∙ ap (λ z. joined_nodes split.before (node_then z split.after)) here ∙ ap (λ m. joined_nodes split.before (node_then (node m op inputs rs) split.after)) number in
    record {
      before = split.before;
      op = op;
      inputs = inputs;
      regions = rs;
      after = split.after;
      is = is;
      none = split.none_before;
      gives = subst₂ (λ m ms. moved (region args ms results) (node m op inputs rs) ≡ Some s) number is e;
    }

located : (n : ℕ) (args : List Kind) (ns : NodeTrees) (results : List Origin) (s : RegionTree) → inv_here n (region args ns results) ≡ Some s → Located n args ns results s
located n args ns results s e = by (node_at n ns) refl e
  where
    by : (x : Option NodeTree) → node_at n ns ≡ x → option_and_then (moved (region args ns results)) x ≡ Some s → Located n args ns results s
    by None at d = absurd (none-some _ d)
    by (Some x) at d =
        let split = split_at n ns (found_node n ns x at) in
        let here : split.here ≡ x =
        same_Some split.here x (sym (node_at-joined n split.before split.here split.after split.none_before split.numbered) ∙ ap (node_at n) (sym split.whole) ∙ at) in
        located_by n args ns results s x split here d

pub inv_replaces : InvReplaces
inv_replaces ls ks n l (region args ns results) s part e =
    let at = located n args ns results s e in
    subst (λ ms. Replaces ls ks (region args ms results) s) (sym at.is)
    (moved_replaces args at.before at.after results ls ks l n at.op at.inputs at.regions s (subst (λ ms. IsPartOf l (region args ms results)) at.is part) at.gives)

inv_here_keeps : (objects next n : ℕ) (r s : RegionTree) → inv_here n r ≡ Some s → every_region (region_fits objects) r ≡ true → Numbered next (region_ids r) → KeptWithin objects r s
inv_here_keeps objects next n (region args ns results) s e fits numbers =
    let at = located n args ns results s e in
    let whole = subst (λ ms. every_region (region_fits objects) (region args ms results) ≡ true) at.is fits in
    let here = node_fits_here objects next args at.before (node n at.op at.inputs at.regions) at.after results whole (subst (λ ms. Numbered next (nodes_ids ms)) at.is numbers) in
    subst (λ ms. KeptWithin objects (region args ms results) s) (sym at.is) (moved_kept args at.before at.after results objects n at.op at.inputs at.regions s whole here at.gives)

inv_here_ops : (p : Op → ℕ → Type 0) (n : ℕ) (r s : RegionTree) → inv_here n r ≡ Some s → RegionOps p r → RegionOps p s
inv_here_ops p n (region args ns results) s e h =
    let at = located n args ns results s e in
    moved_ops args at.before at.after results p n at.op at.inputs at.regions (region args (joined_nodes at.before (node_then (node n at.op at.inputs at.regions) at.after)) results) s at.gives
    (subst (λ ms. RegionOps p (region args ms results)) at.is h)

-- ---- the size

moved_resized : (values : ℕ) (r : RegionTree) (id : ℕ) (op : Op) (inputs : List Origin) (rs : RegionTrees) (s : RegionTree) → moved r (node id op inputs rs) ≡ Some s → IsResized values r s
moved_resized values r id Gamma inputs rs s e =
    let cs = carried_exits inputs rs in
    subst (IsResized values r) (moved_if (some_used id r 0 cs) (exits_carried id cs r) s e) (carried-resized id cs values r)
moved_resized values r id Theta inputs (region_then q no_regions) s e =
    let cs = carried_variables inputs q in
    subst (IsResized values r) (moved_if (some_used id r 0 cs) (outputs_redirected id (output_carried id cs []) r) s e) (outputs-resized values id (output_carried id cs []) r)
moved_resized values r id Theta inputs no_regions s e = absurd (none-some _ e)
moved_resized values r id Theta inputs (region_then q (region_then t rs)) s e = absurd (none-some _ e)
moved_resized values r id (Const w) inputs rs s e = absurd (none-some _ e)
moved_resized values r id Undef inputs rs s e = absurd (none-some _ e)
moved_resized values r id (Local k) inputs rs s e = absurd (none-some _ e)
moved_resized values r id (Delta k) inputs rs s e = absurd (none-some _ e)
moved_resized values r id (Bin op) inputs rs s e = absurd (none-some _ e)
moved_resized values r id (Un op) inputs rs s e = absurd (none-some _ e)
moved_resized values r id (Load w) inputs rs s e = absurd (none-some _ e)
moved_resized values r id (Store w) inputs rs s e = absurd (none-some _ e)
moved_resized values r id (Clear k) inputs rs s e = absurd (none-some _ e)
moved_resized values r id PtrEq inputs rs s e = absurd (none-some _ e)
moved_resized values r id (Apply f) inputs rs s e = absurd (none-some _ e)
moved_resized values r id Put inputs rs s e = absurd (none-some _ e)
moved_resized values r id Exit inputs rs s e = absurd (none-some _ e)
moved_resized values r id Get inputs rs s e = absurd (none-some _ e)

inv_resizes : (values n : ℕ) (r s : RegionTree) → inv_here n r ≡ Some s → IsResized values r s
inv_resizes values n (region args ns results) s e =
    let at = located n args ns results s e in
    subst (λ ms. IsResized values (region args ms results) s) (sym at.is)
    (moved_resized values (region args (joined_nodes at.before (node_then (node n at.op at.inputs at.regions) at.after)) results) n at.op at.inputs at.regions s at.gives)

-- ---- the step

pub inv_is_safe : (n : ℕ) (l : PlainLambda) → IsSafeChange (inv_here n) l
inv_is_safe n l =
    record {
      replaces = λ ls ks r s part e. inv_replaces ls ks n l r s part e;
      calls = λ ls r s e h. inv_here_ops (Calls ls) n r s e h;
      names = λ globals r s e h. inv_here_ops (NamesGlobal globals) n r s e h;
      resized = λ r s e. inv_resizes (lambda_values l) n r s e;
    }

pub inv_stays : (n : ℕ) (l : PlainLambda) → IsWellFormed l → IsWellFormed (inv n l)
inv_stays n l well = kept_well_formed (inv_here n) l (λ r s e fits numbers. inv_here_keeps (length l.objects) l.next n r s e fits numbers) well

pub inv_is_a_step : InvIsAStep
inv_is_a_step held n l well = changed_is_a_step (inv_here n) l well (inv_stays n l well) (inv_is_safe n l) held
