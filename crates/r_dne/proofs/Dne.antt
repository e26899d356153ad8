-- Dead node elimination keeps meaning and what is well formed.
use Rattle.std.specs.Prelude.{option_and_then}
use Rattle.std.proofs.Common.{◌≡◌, ℕ, Bool, true, false, not, ◌&&◌, ◌||◌, cond, List, map, length, Option, None, Some, refl, sym, ap, subst, subst₂, ◌∙◌, arith}
use Rattle.std.proofs.lemmas.Bool.{or_parts}
use Rattle.std.proofs.lemmas.Option.{same_Some, none-some}
use Rattle.g_graph.specs.declared.op.Kind.{Kind}
use Rattle.g_graph.specs.declared.op.Kind.TheVariants.{Memory, Io}
use Rattle.g_graph.specs.declared.op.Op.{Op}
use Rattle.g_graph.specs.declared.op.Op.TheVariants.{Const, Undef, Local, Delta, Bin, Un, Load, Store, Clear, PtrEq, Apply, Put, Exit, Get, Gamma, Theta}
use Rattle.g_graph.specs.declared.op.Origin.{Origin}
use Rattle.g_graph.specs.Plain.{RegionTree, region, NodeTree, node, NodeTrees, node_then, RegionTrees, no_regions, region_then, id_of, PlainLambda}
use Rattle.g_graph.specs.Ids.{region_ids, nodes_ids}
use Rattle.g_graph.specs.Signatures.{first_args, outputs_of, output_kinds}
use Rattle.g_graph.specs.Scope.{is_of}
use Rattle.g_graph.specs.Change.{has_node}
use Rattle.g_graph.specs.WellFormed.{some_of, region_fits, every_region, IsWellFormed}
use Rattle.g_graph.specs.Nodes.{node_at}
use Rattle.g_graph.specs.Replace.{nodes_redirected}
use Rattle.g_graph.specs.Splice.{joined_nodes}
use Rattle.g_graph.specs.Lists.{RegionOps, Calls, NamesGlobal}
use Rattle.g_graph.proofs.lemmas.Found.{found_node, node_at-joined}
use Rattle.g_graph.proofs.lemmas.Indexes.{same_number_true}
use Rattle.g_graph.proofs.lemmas.Nodes.{NodeFits, node_fits_here, KeptWithin}
use Rattle.g_graph.proofs.lemmas.Numbers.{Numbered, numbered_fewer}
use Rattle.g_graph.proofs.lemmas.Splices.{Split, split_at}
use Rattle.g_graph.proofs.lemmas.Unique.{same_number}
use Rattle.g_mean.specs.Edits.{IsPartOf}
use Rattle.g_mean.specs.Replacement.{Replaces}
use Rattle.g_mean.specs.Silent.{GivesNoState}
use Rattle.r_edit.specs.InPlace.{all_stay}
use Rattle.r_edit.specs.Uses.{is_read, is_output_of}
use Rattle.r_edit.specs.Removal.{region_without}
use Rattle.r_edit.specs.Exits.{regions_giving, node_giving, output_after, exits_kept}
use Rattle.r_edit.specs.Entries.{entries_kept}
use Rattle.r_edit.specs.Variables.{variables_kept}
use Rattle.r_edit.specs.Size.{IsResized}
use Rattle.g_graph.specs.Program.{lambda_values}
use Rattle.r_edit.proofs.lemmas.EntriesFit.{entries_kept_fit, entries_kept_ops}
use Rattle.r_edit.proofs.lemmas.Exits.{giving_joined}
use Rattle.r_edit.proofs.lemmas.ExitsFit.{exits_kept_fit, exits_kept_ops}
use Rattle.r_edit.proofs.lemmas.Fewer.{without-resized, variables-resized, exits-and-entries-resized}
use Rattle.r_edit.specs.Steps.{IsSafeChange}
use Rattle.r_edit.proofs.lemmas.Steps.{kept_well_formed, changed_is_a_step}
use Rattle.r_edit.proofs.lemmas.Placed.{not_before}
use Rattle.r_edit.proofs.lemmas.Removal.{unread_nodes_go, without_kept, without_ops}
use Rattle.r_edit.proofs.lemmas.Shrunk.{unread_exits_and_entries_go}
use Rattle.r_edit.proofs.lemmas.Variables.{unread_variables_go}
use Rattle.r_edit.proofs.lemmas.VariablesFit.{variables_kept_fit, variables_kept_ops}
use Rattle.r_dne.specs.Rule.{gives_state, is_dead, exits_of, entries_of, variables_of, shrunk, eliminated, dne_here, dne}
use Rattle.r_dne.specs.Laws.{DneReplaces, DneIsAStep}
use Rattle.r_dne.proofs.Unused.{exits_are_values, exits_unread, entries_unread, variables_are_values, variables_unread, loop_unread}

-- ---- what a change is

-- a property of the ops that does not ask how many inputs a Gamma or a Theta has
pub record AsksNoCount (p : Op → ℕ → Type 0) : Type 0 where
  pub gamma : (m n : ℕ) → p Gamma m → p Gamma n
  pub theta : (m n : ℕ) → p Theta m → p Theta n

shrunk_if : (t : Bool) (r s : RegionTree) → cond t None (Some r) ≡ Some s → r ≡ s
shrunk_if true r s e = absurd (none-some _ e)
shrunk_if false r s e = same_Some r s e

kept_both : (objects : ℕ) (r s t : RegionTree) → KeptWithin objects r s → KeptWithin objects s t → KeptWithin objects r t
kept_both objects r s t a b =
    record {
      kept = record { args = b.kept.args ∙ a.kept.args; results = b.kept.results ∙ a.kept.results; inside = b.kept.inside };
      fewer = λ m. omega (arith, a.fewer m, b.fewer m);
    }

no_state : (r : RegionTree) (x : NodeTree) → is_dead r x ≡ true → GivesNoState x × (is_read (is_output_of (id_of x)) r ≡ false)
no_state r x e =
    let none = or_parts (gives_state x) (is_read (is_output_of (id_of x)) r) (is_not (gives_state x || is_read (is_output_of (id_of x)) r) e) in
    let states = or_parts (some_of (is_of Memory) (output_kinds x)) (some_of (is_of Io) (output_kinds x)) none.0 in
    (record { memory = states.0; io = states.1 }, none.1)
  where
    is_not : (b : Bool) → not b ≡ true → b ≡ false
    is_not true d = absurd cc
    is_not false d = refl

-- ---- at a node in its place

module _ (args : List Kind) (before : NodeTrees) (after : NodeTrees) (results : List Origin) where
  abbrev whole : NodeTree → RegionTree
  whole x = region args (joined_nodes before (node_then x after)) results

  -- ---- meaning

  shrunk_replaces : (ls ks : List PlainLambda) (l : PlainLambda) (id : ℕ) (op : Op) (inputs : List Origin) (rs : RegionTrees) (s : RegionTree) → IsPartOf l (whole (node id op inputs rs)) →
      shrunk (whole (node id op inputs rs)) (node id op inputs rs) ≡ Some s → Replaces ls ks (whole (node id op inputs rs)) s
  shrunk_replaces ls ks l id Gamma inputs rs s part e =
      let r = whole (node id Gamma inputs rs) in
      let exits = exits_of id r rs in
      let entries = entries_of id r rs in
      subst (λ t. Replaces ls ks r t) (shrunk_if (all_stay exits && all_stay entries) (entries_kept id entries (exits_kept id exits r)) s e)
      (unread_exits_and_entries_go ls ks l args before id inputs rs after results exits entries part (exits_unread id r (outputs_of Gamma rs))
      (entries_unread (regions_giving exits rs) (first_args rs)))
  shrunk_replaces ls ks l id Theta inputs (region_then (region own nodes outs) no_regions) s part e =
      let q = region own nodes outs in
      let r = whole (node id Theta inputs (region_then q no_regions)) in
      let stays = variables_of id r q in
      subst (λ t. Replaces ls ks r t) (shrunk_if (all_stay stays) (variables_kept id stays r) s e)
      (unread_variables_go ls ks l args before id inputs q after results stays part (loop_unread id r nodes outs own own) (variables_unread id r nodes outs own))
  shrunk_replaces ls ks l id Theta inputs no_regions s part e = absurd (none-some _ e)
  shrunk_replaces ls ks l id Theta inputs (region_then q (region_then t rs)) s part e = absurd (none-some _ e)
  shrunk_replaces ls ks l id (Const w) inputs rs s part e = absurd (none-some _ e)
  shrunk_replaces ls ks l id Undef inputs rs s part e = absurd (none-some _ e)
  shrunk_replaces ls ks l id (Local k) inputs rs s part e = absurd (none-some _ e)
  shrunk_replaces ls ks l id (Delta k) inputs rs s part e = absurd (none-some _ e)
  shrunk_replaces ls ks l id (Bin op) inputs rs s part e = absurd (none-some _ e)
  shrunk_replaces ls ks l id (Un op) inputs rs s part e = absurd (none-some _ e)
  shrunk_replaces ls ks l id (Load w) inputs rs s part e = absurd (none-some _ e)
  shrunk_replaces ls ks l id (Store w) inputs rs s part e = absurd (none-some _ e)
  shrunk_replaces ls ks l id (Clear k) inputs rs s part e = absurd (none-some _ e)
  shrunk_replaces ls ks l id PtrEq inputs rs s part e = absurd (none-some _ e)
  shrunk_replaces ls ks l id (Apply f) inputs rs s part e = absurd (none-some _ e)
  shrunk_replaces ls ks l id Put inputs rs s part e = absurd (none-some _ e)
  shrunk_replaces ls ks l id Exit inputs rs s part e = absurd (none-some _ e)
  shrunk_replaces ls ks l id Get inputs rs s part e = absurd (none-some _ e)

  eliminated_replaces : (ls ks : List PlainLambda) (l : PlainLambda) (id : ℕ) (op : Op) (inputs : List Origin) (rs : RegionTrees) (s : RegionTree) → IsPartOf l (whole (node id op inputs rs)) →
      eliminated (whole (node id op inputs rs)) (node id op inputs rs) ≡ Some s → Replaces ls ks (whole (node id op inputs rs)) s
  eliminated_replaces ls ks l id op inputs rs s part e = by (is_dead (whole (node id op inputs rs)) (node id op inputs rs)) refl e
    where
      by : (t : Bool) → is_dead (whole (node id op inputs rs)) (node id op inputs rs) ≡ t →
          cond t (Some (region_without id (whole (node id op inputs rs)))) (shrunk (whole (node id op inputs rs)) (node id op inputs rs)) ≡ Some s → Replaces ls ks (whole (node id op inputs rs)) s
      by true t d =
          let none = no_state (whole (node id op inputs rs)) (node id op inputs rs) t in
          subst (λ z. Replaces ls ks (whole (node id op inputs rs)) z) (same_Some (region_without id (whole (node id op inputs rs))) s d)
          (unread_nodes_go ls ks l args before (node id op inputs rs) after results part none.0 none.1)
      by false t d = shrunk_replaces ls ks l id op inputs rs s part d

  -- ---- what is well formed

  gamma_kept : (objects next id : ℕ) (inputs : List Origin) (rs : RegionTrees) → every_region (region_fits objects) (whole (node id Gamma inputs rs)) ≡ true →
      Numbered next (region_ids (whole (node id Gamma inputs rs))) → NodeFits objects args before (node id Gamma inputs rs) after →
      KeptWithin objects (whole (node id Gamma inputs rs))
      (entries_kept id (entries_of id (whole (node id Gamma inputs rs)) rs) (exits_kept id (exits_of id (whole (node id Gamma inputs rs)) rs) (whole (node id Gamma inputs rs))))
  gamma_kept objects next id inputs rs fits numbers here =
      let x = node id Gamma inputs rs in
      let r = whole x in
      let exits = exits_of id r rs in
      let entries = entries_of id r rs in
      let follow = nodes_redirected (output_after id exits) after in
      let outs = map (output_after id exits) results in
      let middle = region args (joined_nodes before (node_then (node_giving exits x) follow)) outs in
      let is : exits_kept id exits r ≡ middle =
      ap (λ ns. region args ns outs) (giving_joined exits id before x after (not_before objects args before x after here) (same_number_true id)) in
      let first = subst (λ t. KeptWithin objects r t) is
      (exits_kept_fit exits objects args before id inputs rs after here (exits_are_values id r 0 (outputs_of Gamma rs)) results fits (exits_unread id r (outputs_of Gamma rs))) in
      let now = numbered_fewer next (region_ids r) (region_ids middle) first.fewer numbers in
      let there = node_fits_here objects next args before (node_giving exits x) follow outs first.kept.inside now in
      let second = entries_kept_fit entries objects args before id inputs (regions_giving exits rs) follow there (entries_unread (regions_giving exits rs) (first_args rs)) outs first.kept.inside in
      subst (λ t. KeptWithin objects r (entries_kept id entries t)) (sym is) (kept_both objects r middle (entries_kept id entries middle) first second)

  shrunk_kept : (objects next id : ℕ) (op : Op) (inputs : List Origin) (rs : RegionTrees) (s : RegionTree) → every_region (region_fits objects) (whole (node id op inputs rs)) ≡ true →
      Numbered next (region_ids (whole (node id op inputs rs))) → NodeFits objects args before (node id op inputs rs) after →
      shrunk (whole (node id op inputs rs)) (node id op inputs rs) ≡ Some s → KeptWithin objects (whole (node id op inputs rs)) s
  shrunk_kept objects next id Gamma inputs rs s fits numbers here e =
      let r = whole (node id Gamma inputs rs) in
      let exits = exits_of id r rs in
      let entries = entries_of id r rs in
      subst (λ t. KeptWithin objects r t) (shrunk_if (all_stay exits && all_stay entries) (entries_kept id entries (exits_kept id exits r)) s e)
      (gamma_kept objects next id inputs rs fits numbers here)
  shrunk_kept objects next id Theta inputs (region_then (region own nodes outs) no_regions) s fits numbers here e =
      let q = region own nodes outs in
      let r = whole (node id Theta inputs (region_then q no_regions)) in
      let stays = variables_of id r q in
      subst (λ t. KeptWithin objects r t) (shrunk_if (all_stay stays) (variables_kept id stays r) s e)
      (variables_kept_fit stays objects args before id inputs own nodes outs after here (variables_are_values id r nodes outs 0 own) (loop_unread id r nodes outs own own) results fits
      (variables_unread id r nodes outs own))
  shrunk_kept objects next id Theta inputs no_regions s fits numbers here e = absurd (none-some _ e)
  shrunk_kept objects next id Theta inputs (region_then q (region_then t rs)) s fits numbers here e = absurd (none-some _ e)
  shrunk_kept objects next id (Const w) inputs rs s fits numbers here e = absurd (none-some _ e)
  shrunk_kept objects next id Undef inputs rs s fits numbers here e = absurd (none-some _ e)
  shrunk_kept objects next id (Local k) inputs rs s fits numbers here e = absurd (none-some _ e)
  shrunk_kept objects next id (Delta k) inputs rs s fits numbers here e = absurd (none-some _ e)
  shrunk_kept objects next id (Bin op) inputs rs s fits numbers here e = absurd (none-some _ e)
  shrunk_kept objects next id (Un op) inputs rs s fits numbers here e = absurd (none-some _ e)
  shrunk_kept objects next id (Load w) inputs rs s fits numbers here e = absurd (none-some _ e)
  shrunk_kept objects next id (Store w) inputs rs s fits numbers here e = absurd (none-some _ e)
  shrunk_kept objects next id (Clear k) inputs rs s fits numbers here e = absurd (none-some _ e)
  shrunk_kept objects next id PtrEq inputs rs s fits numbers here e = absurd (none-some _ e)
  shrunk_kept objects next id (Apply f) inputs rs s fits numbers here e = absurd (none-some _ e)
  shrunk_kept objects next id Put inputs rs s fits numbers here e = absurd (none-some _ e)
  shrunk_kept objects next id Exit inputs rs s fits numbers here e = absurd (none-some _ e)
  shrunk_kept objects next id Get inputs rs s fits numbers here e = absurd (none-some _ e)

  eliminated_kept : (objects next id : ℕ) (op : Op) (inputs : List Origin) (rs : RegionTrees) (s : RegionTree) → every_region (region_fits objects) (whole (node id op inputs rs)) ≡ true →
      Numbered next (region_ids (whole (node id op inputs rs))) → eliminated (whole (node id op inputs rs)) (node id op inputs rs) ≡ Some s → KeptWithin objects (whole (node id op inputs rs)) s
  eliminated_kept objects next id op inputs rs s fits numbers e =
      by (is_dead (whole (node id op inputs rs)) (node id op inputs rs)) refl e (node_fits_here objects next args before (node id op inputs rs) after results fits numbers)
    where
      by : (t : Bool) → is_dead (whole (node id op inputs rs)) (node id op inputs rs) ≡ t →
          cond t (Some (region_without id (whole (node id op inputs rs)))) (shrunk (whole (node id op inputs rs)) (node id op inputs rs)) ≡ Some s →
          NodeFits objects args before (node id op inputs rs) after → KeptWithin objects (whole (node id op inputs rs)) s
      by true t d here =
          let none = no_state (whole (node id op inputs rs)) (node id op inputs rs) t in
          subst (λ z. KeptWithin objects (whole (node id op inputs rs)) z) (same_Some (region_without id (whole (node id op inputs rs))) s d)
          (without_kept objects args before (node id op inputs rs) after results here fits none.0 none.1)
      by false t d here = shrunk_kept objects next id op inputs rs s fits numbers here d

  -- ---- no op is added

  module _ (p : Op → ℕ → Type 0) (asks : AsksNoCount p) where
    shrunk_ops : (id : ℕ) (op : Op) (inputs : List Origin) (rs : RegionTrees) (s : RegionTree) → has_node id before ≡ false →
        shrunk (whole (node id op inputs rs)) (node id op inputs rs) ≡ Some s → RegionOps p (whole (node id op inputs rs)) → RegionOps p s
    shrunk_ops id Gamma inputs rs s none e h =
        let x = node id Gamma inputs rs in
        let r = whole x in
        let exits = exits_of id r rs in
        let entries = entries_of id r rs in
        let follow = nodes_redirected (output_after id exits) after in
        let outs = map (output_after id exits) results in
        let is = ap (λ ns. region args ns outs) (giving_joined exits id before x after none (same_number_true id)) in
        let first = subst (RegionOps p) is (exits_kept_ops p exits id r h) in
        let second = entries_kept_ops p asks.gamma entries args before id inputs (regions_giving exits rs) follow outs none first in
        subst (RegionOps p) (ap (entries_kept id entries) (sym is) ∙ shrunk_if (all_stay exits && all_stay entries) (entries_kept id entries (exits_kept id exits r)) s e) second
    shrunk_ops id Theta inputs (region_then (region own nodes outs) no_regions) s none e h =
        let q = region own nodes outs in
        let r = whole (node id Theta inputs (region_then q no_regions)) in
        let stays = variables_of id r q in
        subst (RegionOps p) (shrunk_if (all_stay stays) (variables_kept id stays r) s e) (variables_kept_ops p asks.theta stays args before id inputs q after results none h)
    shrunk_ops id Theta inputs no_regions s none e h = absurd (none-some _ e)
    shrunk_ops id Theta inputs (region_then q (region_then t rs)) s none e h = absurd (none-some _ e)
    shrunk_ops id (Const w) inputs rs s none e h = absurd (none-some _ e)
    shrunk_ops id Undef inputs rs s none e h = absurd (none-some _ e)
    shrunk_ops id (Local k) inputs rs s none e h = absurd (none-some _ e)
    shrunk_ops id (Delta k) inputs rs s none e h = absurd (none-some _ e)
    shrunk_ops id (Bin op) inputs rs s none e h = absurd (none-some _ e)
    shrunk_ops id (Un op) inputs rs s none e h = absurd (none-some _ e)
    shrunk_ops id (Load w) inputs rs s none e h = absurd (none-some _ e)
    shrunk_ops id (Store w) inputs rs s none e h = absurd (none-some _ e)
    shrunk_ops id (Clear k) inputs rs s none e h = absurd (none-some _ e)
    shrunk_ops id PtrEq inputs rs s none e h = absurd (none-some _ e)
    shrunk_ops id (Apply f) inputs rs s none e h = absurd (none-some _ e)
    shrunk_ops id Put inputs rs s none e h = absurd (none-some _ e)
    shrunk_ops id Exit inputs rs s none e h = absurd (none-some _ e)
    shrunk_ops id Get inputs rs s none e h = absurd (none-some _ e)

    eliminated_ops : (id : ℕ) (op : Op) (inputs : List Origin) (rs : RegionTrees) (s : RegionTree) → has_node id before ≡ false →
        eliminated (whole (node id op inputs rs)) (node id op inputs rs) ≡ Some s → RegionOps p (whole (node id op inputs rs)) → RegionOps p s
    eliminated_ops id op inputs rs s none e h = by (is_dead (whole (node id op inputs rs)) (node id op inputs rs)) e
      where
        by : (t : Bool) → cond t (Some (region_without id (whole (node id op inputs rs)))) (shrunk (whole (node id op inputs rs)) (node id op inputs rs)) ≡ Some s → RegionOps p s
        by true d = subst (RegionOps p) (same_Some (region_without id (whole (node id op inputs rs))) s d) (without_ops p id (whole (node id op inputs rs)) h)
        by false d = shrunk_ops id op inputs rs s none d h

-- ---- the node in its region

record Located (n : ℕ) (args : List Kind) (ns : NodeTrees) (results : List Origin) (s : RegionTree) : Type 0 where
  before : NodeTrees
  op : Op
  inputs : List Origin
  regions : RegionTrees
  after : NodeTrees
  is : ns ≡ joined_nodes before (node_then (node n op inputs regions) after)
  none : has_node n before ≡ false
  gives : eliminated (region args (joined_nodes before (node_then (node n op inputs regions) after)) results) (node n op inputs regions) ≡ Some s

located_by : (n : ℕ) (args : List Kind) (ns : NodeTrees) (results : List Origin) (s : RegionTree) (x : NodeTree) → (split : Split n ns) → split.here ≡ x →
    eliminated (region args ns results) x ≡ Some s → Located n args ns results s
located_by n args ns results s (node id op inputs rs) split here e =
    let number : id ≡ n = ap id_of (sym here) ∙ same_number (id_of split.here) n split.numbered in
    let is : ns ≡ joined_nodes split.before (node_then (node n op inputs rs) split.after) =
    split.whole ∙ ap (λ z. joined_nodes split.before (node_then z split.after)) here ∙ ap (λ m. joined_nodes split.before (node_then (node m op inputs rs) split.after)) number in
    record {
      before = split.before;
      op = op;
      inputs = inputs;
      regions = rs;
      after = split.after;
      is = is;
      none = split.none_before;
      gives = subst₂ (λ m ms. eliminated (region args ms results) (node m op inputs rs) ≡ Some s) number is e;
    }

located : (n : ℕ) (args : List Kind) (ns : NodeTrees) (results : List Origin) (s : RegionTree) → dne_here n (region args ns results) ≡ Some s → Located n args ns results s
located n args ns results s e = by (node_at n ns) refl e
  where
    by : (x : Option NodeTree) → node_at n ns ≡ x → option_and_then (eliminated (region args ns results)) x ≡ Some s → Located n args ns results s
    by None at d = absurd (none-some _ d)
    by (Some x) at d =
        let split = split_at n ns (found_node n ns x at) in
        let here : split.here ≡ x =
        same_Some split.here x (sym (node_at-joined n split.before split.here split.after split.none_before split.numbered) ∙ ap (node_at n) (sym split.whole) ∙ at) in
        located_by n args ns results s x split here d

pub dne_replaces : DneReplaces
dne_replaces ls ks n l (region args ns results) s part e =
    let at = located n args ns results s e in
    subst (λ ms. Replaces ls ks (region args ms results) s) (sym at.is)
    (eliminated_replaces args at.before at.after results ls ks l n at.op at.inputs at.regions s (subst (λ ms. IsPartOf l (region args ms results)) at.is part) at.gives)

dne_here_keeps : (objects next n : ℕ) (r s : RegionTree) → dne_here n r ≡ Some s → every_region (region_fits objects) r ≡ true → Numbered next (region_ids r) → KeptWithin objects r s
dne_here_keeps objects next n (region args ns results) s e fits numbers =
    let at = located n args ns results s e in
    subst (λ ms. KeptWithin objects (region args ms results) s) (sym at.is)
    (eliminated_kept args at.before at.after results objects next n at.op at.inputs at.regions s (subst (λ ms. every_region (region_fits objects) (region args ms results) ≡ true) at.is fits)
    (subst (λ ms. Numbered next (nodes_ids ms)) at.is numbers) at.gives)

dne_here_ops : (p : Op → ℕ → Type 0) → AsksNoCount p → (n : ℕ) (r s : RegionTree) → dne_here n r ≡ Some s → RegionOps p r → RegionOps p s
dne_here_ops p asks n (region args ns results) s e h =
    let at = located n args ns results s e in
    eliminated_ops args at.before at.after results p asks n at.op at.inputs at.regions s at.none at.gives (subst (λ ms. RegionOps p (region args ms results)) at.is h)

-- ---- the size

module _ (values : ℕ) (r : RegionTree) where
  shrunk_resized : (id : ℕ) (op : Op) (inputs : List Origin) (rs : RegionTrees) (s : RegionTree) → shrunk r (node id op inputs rs) ≡ Some s → IsResized values r s
  shrunk_resized id Gamma inputs rs s e =
      let exits = exits_of id r rs in
      let entries = entries_of id r rs in
      subst (IsResized values r) (shrunk_if (all_stay exits && all_stay entries) (entries_kept id entries (exits_kept id exits r)) s e) (exits-and-entries-resized exits entries values id r)
  shrunk_resized id Theta inputs (region_then q no_regions) s e =
      let stays = variables_of id r q in
      subst (IsResized values r) (shrunk_if (all_stay stays) (variables_kept id stays r) s e) (variables-resized stays values id r)
  shrunk_resized id Theta inputs no_regions s e = absurd (none-some _ e)
  shrunk_resized id Theta inputs (region_then q (region_then t rs)) s e = absurd (none-some _ e)
  shrunk_resized id (Const w) inputs rs s e = absurd (none-some _ e)
  shrunk_resized id Undef inputs rs s e = absurd (none-some _ e)
  shrunk_resized id (Local k) inputs rs s e = absurd (none-some _ e)
  shrunk_resized id (Delta k) inputs rs s e = absurd (none-some _ e)
  shrunk_resized id (Bin op) inputs rs s e = absurd (none-some _ e)
  shrunk_resized id (Un op) inputs rs s e = absurd (none-some _ e)
  shrunk_resized id (Load w) inputs rs s e = absurd (none-some _ e)
  shrunk_resized id (Store w) inputs rs s e = absurd (none-some _ e)
  shrunk_resized id (Clear k) inputs rs s e = absurd (none-some _ e)
  shrunk_resized id PtrEq inputs rs s e = absurd (none-some _ e)
  shrunk_resized id (Apply f) inputs rs s e = absurd (none-some _ e)
  shrunk_resized id Put inputs rs s e = absurd (none-some _ e)
  shrunk_resized id Exit inputs rs s e = absurd (none-some _ e)
  shrunk_resized id Get inputs rs s e = absurd (none-some _ e)

  eliminated_resized : (id : ℕ) (op : Op) (inputs : List Origin) (rs : RegionTrees) (s : RegionTree) → eliminated r (node id op inputs rs) ≡ Some s → IsResized values r s
  eliminated_resized id op inputs rs s e = by (is_dead r (node id op inputs rs)) e
    where
      by : (t : Bool) → cond t (Some (region_without id r)) (shrunk r (node id op inputs rs)) ≡ Some s → IsResized values r s
      by true d = subst (IsResized values r) (same_Some (region_without id r) s d) (without-resized values id r)
      by false d = shrunk_resized id op inputs rs s d

dne_resizes : (values n : ℕ) (r s : RegionTree) → dne_here n r ≡ Some s → IsResized values r s
dne_resizes values n (region args ns results) s e =
    let at = located n args ns results s e in
    subst (λ ms. IsResized values (region args ms results) s) (sym at.is)
    (eliminated_resized values (region args (joined_nodes at.before (node_then (node n at.op at.inputs at.regions) at.after)) results) n at.op at.inputs at.regions s at.gives)

-- ---- the step

calls_ask : (ks : List PlainLambda) → AsksNoCount (Calls ks)
calls_ask ks = record { gamma = λ m n h. h; theta = λ m n h. h }

globals_ask : (count : ℕ) → AsksNoCount (NamesGlobal count)
globals_ask count = record { gamma = λ m n h. h; theta = λ m n h. h }

pub dne_is_safe : (n : ℕ) (l : PlainLambda) → IsSafeChange (dne_here n) l
dne_is_safe n l =
    record {
      replaces = λ ls ks r s part e. dne_replaces ls ks n l r s part e;
      calls = λ ls r s e h. dne_here_ops (Calls ls) (calls_ask ls) n r s e h;
      names = λ globals r s e h. dne_here_ops (NamesGlobal globals) (globals_ask globals) n r s e h;
      resized = λ r s e. dne_resizes (lambda_values l) n r s e;
    }

pub dne_stays : (n : ℕ) (l : PlainLambda) → IsWellFormed l → IsWellFormed (dne n l)
dne_stays n l well = kept_well_formed (dne_here n) l (λ r s e fits numbers. dne_here_keeps (length l.objects) l.next n r s e fits numbers) well

pub dne_is_a_step : DneIsAStep
dne_is_a_step held n l well = changed_is_a_step (dne_here n) l well (dne_stays n l well) (dne_is_safe n l) held
