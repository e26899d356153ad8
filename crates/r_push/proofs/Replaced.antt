-- Push keeps meaning.
use Rattle.std.specs.Option.{option_or}
use Rattle.std.proofs.Common.{◌≡◌, ℕ, zero, suc, ◌⊎◌, Bool, true, false, ◌&&◌, cond, List, [], ◌∷◌, ◌++◌, map, length, Option, None, Some, option_map, refl, sym, ap, subst, ◌∙◌, inl, inr, arith}
use Rattle.std.proofs.lemmas.Bool.{and_parts}
use Rattle.std.proofs.lemmas.List.{length-map}
use Rattle.std.proofs.lemmas.Option.{same_Some}
use Rattle.val_core.specs.declared.values.Value.{Value as Word}
use Rattle.val_core.specs.declared.values.Value.TheVariants.{Bad}
use Rattle.g_graph.specs.declared.op.Kind.{Kind}
use Rattle.g_graph.specs.declared.op.Kind.TheVariants.{Value}
use Rattle.g_graph.specs.declared.op.Op.{Op}
use Rattle.g_graph.specs.declared.op.Op.TheVariants.{Const, Undef, Local, Delta, Bin, Un, Load, Store, Clear, PtrEq, Apply, Put, Exit, Get, Gamma, Theta}
use Rattle.g_graph.specs.declared.op.Origin.{Origin}
use Rattle.g_graph.specs.declared.op.Origin.TheVariants.{Out}
use Rattle.g_graph.specs.Plain.{RegionTree, region, NodeTree, node, NodeTrees, no_nodes, node_then, RegionTrees, no_regions, region_then, args_of, PlainLambda}
use Rattle.g_graph.specs.Ids.{nodes_ids, regions_ids}
use Rattle.g_graph.specs.Signatures.{is_pure, first_args, result_kinds, output_kinds}
use Rattle.g_graph.specs.Scope.{known}
use Rattle.g_graph.specs.WellFormed.{all_of, all_regions, same, are, kinds_of, distinct}
use Rattle.g_graph.specs.Splice.{args_to_inputs, joined_nodes}
use Rattle.g_graph.proofs.lemmas.Nodes.{NodeFits, same_kinds}
use Rattle.g_graph.proofs.lemmas.Splices.{nodes_ids-joined}
use Rattle.g_mean.specs.Data.{Datum, val, at_port}
use Rattle.g_mean.specs.Meaning.{Context, Outputs, extended, read, node_run}
use Rattle.g_mean.specs.Copies.{IsAmong, AreRead, NodesRead, known_after, is_argument, IsClosed, AllClosed}
use Rattle.g_mean.specs.Edits.{IsPartOf}
use Rattle.g_mean.specs.Replacement.{Replaces}
use Rattle.g_mean.proofs.lemmas.Copies.{Equals, among-left, same-change, equal-same}
use Rattle.g_mean.proofs.lemmas.Edits.{distinct-split}
use Rattle.g_mean.proofs.lemmas.Holds.{distinct-apart}
use Rattle.g_mean.proofs.lemmas.Inside.{node-here, as-many, inputs-read, regions-closed, inner-distinct}
use Rattle.g_mean.proofs.lemmas.Splices.{joined-known, joined-read, known-among}
use Rattle.r_edit.specs.Added.{input_added}
use Rattle.r_edit.specs.Uses.{is_read, is_output_of}
use Rattle.r_edit.specs.Size.{may_change_size}
use Rattle.r_push.specs.Rule.{names_argument, leaving, leaving_one, is_invariant, leaving_loop, regions_carried, looped, placed, growth, can_count, pushed, pushed_within, nodes_pushed, push_here}
use Rattle.r_push.specs.Laws.{PushReplaces}
use Rattle.r_push.proofs.Stays.{known-own, region-unread}
use Rattle.r_push.proofs.LeavingNode.{Leaves, leaves, Gives, gives-both}
use Rattle.r_push.proofs.Gammas.{AllTake, leaving-among, one-among, all-mean, gamma-same}
use Rattle.r_push.proofs.Thetas.{Followed, invariant-arguments, theta-same}
use Rattle.r_push.proofs.Placed.{Carries, RunsBoth, two-replace}

-- ---- the place of the change

-- the node that another one leaves, and what comes in its place
pub record Changed (values n : ℕ) (args : List Kind) (ns : NodeTrees) (results : List Origin) (s : RegionTree) : Type 0 where
  pub before : NodeTrees
  pub left : NodeTree
  pub after : NodeTrees
  pub two : NodeTrees
  pub is : ns ≡ joined_nodes before (node_then left after)
  pub may : may_change_size values (growth left) 0 ≡ true
  pub gives : pushed n left ≡ Some two
  pub result : s ≡ region args (joined_nodes before (joined_nodes two after)) results

record NodesChanged (values n : ℕ) (ns ms : NodeTrees) : Type 0 where
  pub before : NodeTrees
  pub left : NodeTree
  pub after : NodeTrees
  pub two : NodeTrees
  pub is : ns ≡ joined_nodes before (node_then left after)
  pub may : may_change_size values (growth left) 0 ≡ true
  pub gives : pushed n left ≡ Some two
  pub result : ms ≡ joined_nodes before (joined_nodes two after)

nodes-changed : (values n : ℕ) (ns ms : NodeTrees) → nodes_pushed values n ns ≡ Some ms → NodesChanged values n ns ms
nodes-changed values n no_nodes ms e = absurd cc
nodes-changed values n (node_then x ns) ms e = by (pushed_within values n x) refl (nodes_pushed values n ns) refl e (λ js d. nodes-changed values n ns js d)
  where
    by : (first : Option NodeTrees) → pushed_within values n x ≡ first → (rest : Option NodeTrees) → nodes_pushed values n ns ≡ rest →
        option_or (option_map (λ part. joined_nodes part ns) first) (option_map (node_then x) rest) ≡ Some ms →
        ((js : NodeTrees) → nodes_pushed values n ns ≡ Some js → NodesChanged values n ns js) → NodesChanged values n (node_then x ns) ms
    by (Some two) d rest f h more =
        let both = within (may_change_size values (growth x) 0 && can_count x) refl d in
        record {
          before = no_nodes;
          left = x;
          after = ns;
          two = two;
          is = refl;
          may = both.0;
          gives = both.1;
          result = sym (same_Some (joined_nodes two ns) ms h);
        }
      where
        within : (t : Bool) → (may_change_size values (growth x) 0 && can_count x) ≡ t → cond t (pushed n x) None ≡ Some two → (may_change_size values (growth x) 0 ≡ true) × (pushed n x ≡ Some two)
        within true m g = ((and_parts (may_change_size values (growth x) 0) (can_count x) m).0, g)
        within false m g = absurd cc
    by None d (Some js) f h more =
        let at = more js f in
        record {
          before = node_then x at.before;
          left = at.left;
          after = at.after;
          two = at.two;
          is = ap (node_then x) at.is;
          may = at.may;
          gives = at.gives;
          result = sym (same_Some (node_then x js) ms h) ∙ ap (node_then x) at.result;
        }
    by None d None f h more = absurd cc

pub changed-at : (values n : ℕ) (args : List Kind) (ns : NodeTrees) (results : List Origin) (s : RegionTree) → push_here values n (region args ns results) ≡ Some s → Changed values n args ns results s
changed-at values n args ns results s e = by (nodes_pushed values n ns) refl e
  where
    by : (found : Option NodeTrees) → nodes_pushed values n ns ≡ found → option_map (λ ms. region args ms results) found ≡ Some s → Changed values n args ns results s
    by None d f = absurd cc
    by (Some ms) d f =
        let at = nodes-changed values n ns ms d in
        record {
          before = at.before;
          left = at.left;
          after = at.after;
          two = at.two;
          is = at.is;
          may = at.may;
          gives = at.gives;
          result = sym (same_Some (region args ms results) s f) ∙ ap (λ js. region args js results) at.result;
        }

-- ---- the node that leaves, seen from outside

pub record Outside (n count : ℕ) (y : NodeTree) : Type 0 where
  pub op : Op
  pub inputs : List Origin
  pub regions : RegionTrees
  pub known : List ℕ
  pub node_is : y ≡ node n op inputs regions
  pub pure : is_pure op ≡ true
  pub all : all_of names_argument inputs ≡ true
  pub reads : AreRead (is_argument count) known inputs

pub leaves-outside : (test : Origin → Bool) (n count : ℕ) (args : List Kind) (nodes : NodeTrees) (results : List Origin) (y : NodeTree) → count ≡ length args → IsClosed (region args nodes results) →
    (at : Leaves test n nodes y) → all_of names_argument at.inputs ≡ true → Outside n count y
leaves-outside test n count args nodes results y many closed at all =
    record {
      op = at.op;
      inputs = at.inputs;
      regions = at.regions;
      known = known_after [] at.before;
      node_is = at.node_is;
      pure = at.pure;
      all = all;
      reads = subst (λ k. AreRead (is_argument k) (known_after [] at.before) at.inputs) (sym many)
          (joined-read (is_argument (length args)) [] at.before (node_then (node n at.op at.inputs at.regions) at.after)
          (subst (λ ns. NodesRead (is_argument (length args)) [] ns) at.is closed.0)).1.0.0;
    }

pub one-outside : (n count : ℕ) (y : NodeTree) (rs : RegionTrees) → AllClosed rs → AllTake count rs → leaving_one n rs ≡ Some y → Outside n count y
one-outside n count y no_regions closed counts e = absurd cc
one-outside n count y (region_then (region args nodes results) rs) closed counts e =
    by (leaving names_argument n (region args nodes results)) refl e (one-outside n count y rs closed.1 counts.1)
  where
    by : (first : Option NodeTree) → leaving names_argument n (region args nodes results) ≡ first → option_or first (leaving_one n rs) ≡ Some y → (leaving_one n rs ≡ Some y → Outside n count y) →
        Outside n count y
    by (Some z) d f rest =
        let at = leaves names_argument n args nodes results y (d ∙ f) in
        leaves-outside names_argument n count args nodes results y counts.0 closed.0 at at.all
    by None d f rest = rest f

-- ---- what is well formed

pub take-all : (ks : List Kind) (other : RegionTree → Bool) (rs : RegionTrees) → all_regions (λ r. same (args_of r) ks && other r) rs ≡ true → AllTake (length ks) rs
take-all ks other no_regions e = tt
take-all ks other (region_then r rs) e =
    let both = and_parts (same (args_of r) ks && other r) (all_regions (λ q. same (args_of q) ks && other q) rs) e in
    (ap length (sym (same_kinds (args_of r) ks (and_parts (same (args_of r) ks) (other r) both.0).0)), take-all ks other rs both.1)

module _ (l : PlainLambda) (args : List Kind) (before : NodeTrees) (id : ℕ) (op : Op) (inputs : List Origin) (rs : RegionTrees) (after : NodeTrees) (results : List Origin)
    (part : IsPartOf l (region args (joined_nodes before (node_then (node id op inputs rs) after)) results)) where
  all-distinct : distinct (nodes_ids before ++ ((id ∷ regions_ids rs) ++ nodes_ids after)) ≡ true
  all-distinct = subst (λ zs. distinct zs ≡ true) (nodes_ids-joined before (node_then (node id op inputs rs) after)) part.unique

  -- a number within the node is none of the region itself
  pub not-known : (n : ℕ) → IsAmong n (regions_ids rs) → IsAmong n (known_after [] (joined_nodes before (node_then (node id op inputs rs) after))) → ⊥
  not-known n h k =
      by (known-among (id ∷ known_after [] before) after n (subst (λ zs. IsAmong n zs) (joined-known [] before (node_then (node id op inputs rs) after)) k))
    where
      rest : distinct ((id ∷ regions_ids rs) ++ nodes_ids after) ≡ true
      rest = (distinct-split (nodes_ids before) ((id ∷ regions_ids rs) ++ nodes_ids after) all-distinct).1

      by : IsAmong n (id ∷ known_after [] before) ⊎ IsAmong n (nodes_ids after) → ⊥
      by (inl (inl e)) = distinct-apart (id ∷ []) (regions_ids rs) (distinct-split (id ∷ regions_ids rs) (nodes_ids after) rest).0 n (inl e) h
      by (inl (inr j)) = distinct-apart (nodes_ids before) ((id ∷ regions_ids rs) ++ nodes_ids after) all-distinct n (known-own before n j)
          (among-left n (id ∷ regions_ids rs) (nodes_ids after) (inr h))
      by (inr j) = distinct-apart (id ∷ regions_ids rs) (nodes_ids after) rest n (inr h) j

  pub before-unknown : (n : ℕ) → IsAmong n (regions_ids rs) → IsAmong n (known_after [] before) → ⊥
  before-unknown n h k =
      distinct-apart (nodes_ids before) ((id ∷ regions_ids rs) ++ nodes_ids after) all-distinct n (known-own before n k) (among-left n (id ∷ regions_ids rs) (nodes_ids after) (inr h))

  pub unread : (n : ℕ) → IsAmong n (regions_ids rs) → is_read (is_output_of n) (region args (joined_nodes before (node_then (node id op inputs rs) after)) results) ≡ false
  unread n h = region-unread n args (joined_nodes before (node_then (node id op inputs rs) after)) results part.closed (not-known n h)

-- ---- a Gamma

gamma-replaces : (l : PlainLambda) (args : List Kind) (before : NodeTrees) (id : ℕ) (p : Origin) (entries : List Origin) (rs : RegionTrees) (after : NodeTrees) (results : List Origin) →
    IsPartOf l (region args (joined_nodes before (node_then (node id Gamma (p ∷ entries) rs) after)) results) → (n : ℕ) (y : NodeTree) → leaving_one n rs ≡ Some y → (ls ks : List PlainLambda) →
    Replaces ls ks (region args (joined_nodes before (node_then (node id Gamma (p ∷ entries) rs) after)) results)
    (region args (joined_nodes before (joined_nodes (placed entries y (input_added (Out n 0) (node id Gamma (p ∷ entries) (regions_carried n rs)))) after)) results)
gamma-replaces l args before id p entries rs after results part n y e ls ks =
    subst (λ z. Replaces ls ks (region args (joined_nodes before (node_then x after)) results) (region args (joined_nodes before (joined_nodes (placed entries z x') after)) results)) (sym out.node_is)
    (two-replace l args before x after results part n (unread l args before id Gamma (p ∷ entries) rs after results part n among) out.op
    (map (args_to_inputs entries) out.inputs) out.regions x' out.pure refl runs ls ks)
  where
    x : NodeTree
    x = node id Gamma (p ∷ entries) rs

    x' : NodeTree
    x' = input_added (Out n 0) (node id Gamma (p ∷ entries) (regions_carried n rs))

    here : NodeFits (length l.objects) args before x after
    here = node-here l args before x after results part

    many : length entries ≡ length (first_args rs)
    many = let all = as-many (known args before) (p ∷ entries) (Value ∷ first_args rs) here.inputs in omega (arith, all)

    counts : AllTake (length entries) rs
    counts = subst (λ k. AllTake k rs) (sym many) (take-all (first_args rs) (λ r. are (result_kinds r) (kinds_of (output_kinds x))) rs here.regions)

    closed : AllClosed rs
    closed = regions-closed l args before id Gamma (p ∷ entries) rs after results part

    out : Outside n (length entries) y
    out = one-outside n (length entries) y rs closed counts e

    among : IsAmong n (regions_ids rs)
    among = one-among n y rs e

    runs : (d : Context) (ys : List Datum) (q : Outputs) →
        RunsBoth l args before x after results part n (unread l args before id Gamma (p ∷ entries) rs after results part n among) out.op
        (map (args_to_inputs entries) out.inputs) out.regions x' out.pure refl d ys q
    runs d ys q =
        let us = map (read ys q) entries in
        let g = gives-both d (length entries) n out.known out.op out.inputs out.regions out.pure out.all out.reads ys q entries refl in
        let gives : Gives d us y g.value = subst (λ z. Gives d us z g.value) (sym out.node_is) g.inside in
        let mean = all-mean d n us g.value y gives rs closed (inner-distinct l args before id Gamma (p ∷ entries) rs after results part)
        (subst (λ k. AllTake k rs) (sym (length-map entries (read ys q))) counts) e in
        let same = gamma-same d n g.value (length args) (known_after [] before) ys q id p entries rs (before-unknown l args before id Gamma (p ∷ entries) rs after results part n among)
        (inputs-read l args before id Gamma (p ∷ entries) rs after results part) mean in
        record {
          value = g.value;
          first = g.outside;
          second = same-change Equals (Carries g.value) (node_run d x ys q) (node_run d x' ys (extended q n (val g.value ∷ []))) (λ zs ws f i. inl (ap (λ ts. at_port ts i) (sym f)))
              (equal-same (node_run d x ys q) (node_run d x' ys (extended q n (val g.value ∷ []))) (sym same));
        }

-- ---- a Theta

followed-carries : (v : Word) (zs : List Datum) (i : ℕ) → (at_port (zs ++ val v ∷ []) i ≡ at_port zs i) ⊎ ((at_port zs i ≡ val Bad) × (at_port (zs ++ val v ∷ []) i ≡ val v))
followed-carries v [] zero = inr (refl, refl)
followed-carries v [] (suc i) = inl refl
followed-carries v (z ∷ zs) zero = inl refl
followed-carries v (z ∷ zs) (suc i) = followed-carries v zs i

theta-replaces : (l : PlainLambda) (args : List Kind) (before : NodeTrees) (id : ℕ) (inputs : List Origin) (own : List Kind) (nodes : NodeTrees) (outs : List Origin) (after : NodeTrees)
    (results : List Origin) →
    IsPartOf l (region args (joined_nodes before (node_then (node id Theta inputs (region_then (region own nodes outs) no_regions)) after)) results) → (n : ℕ) (y : NodeTree) →
    leaving_loop n (region own nodes outs) ≡ Some y → (ls ks : List PlainLambda) →
    Replaces ls ks (region args (joined_nodes before (node_then (node id Theta inputs (region_then (region own nodes outs) no_regions)) after)) results)
    (region args (joined_nodes before (joined_nodes (placed inputs y (input_added (Out n 0) (node id Theta inputs (region_then (looped n (region own nodes outs)) no_regions)))) after)) results)
theta-replaces l args before id inputs own nodes [] after results part n y e ls ks =
    let here = node-here l args before (node id Theta inputs (region_then (region own nodes []) no_regions)) after results part in
    let fits = and_parts (are (result_kinds (region own nodes [])) (Value ∷ own)) true here.regions in
    absurd (omega (arith, as-many (known own nodes) [] (Value ∷ own) fits.0))
theta-replaces l args before id inputs own nodes (p ∷ rest) after results part n y e ls ks =
    subst (λ z. Replaces ls ks (region args (joined_nodes before (node_then x after)) results) (region args (joined_nodes before (joined_nodes (placed inputs z x') after)) results)) (sym out.node_is)
    (two-replace l args before x after results part n (unread l args before id Theta inputs rs after results part n among) out.op
    (map (args_to_inputs inputs) out.inputs) out.regions x' out.pure refl runs ls ks)
  where
    r : RegionTree
    r = region own nodes (p ∷ rest)

    rs : RegionTrees
    rs = region_then r no_regions

    x : NodeTree
    x = node id Theta inputs rs

    x' : NodeTree
    x' = input_added (Out n 0) (node id Theta inputs (region_then (looped n r) no_regions))

    here : NodeFits (length l.objects) args before x after
    here = node-here l args before x after results part

    many : length inputs ≡ length own
    many = as-many (known args before) inputs own here.inputs

    turns : length rest ≡ length own
    turns =
        let all = as-many (known own nodes) (p ∷ rest) (Value ∷ own) (and_parts (are (result_kinds r) (Value ∷ own)) true here.regions).0 in
        omega (arith, all)

    closed : IsClosed r
    closed = (regions-closed l args before id Theta inputs rs after results part).0

    unique : distinct (nodes_ids nodes) ≡ true
    unique = (distinct-split (nodes_ids nodes) [] (inner-distinct l args before id Theta inputs rs after results part)).0

    at : Leaves (is_invariant (p ∷ rest)) n nodes y
    at = leaves (is_invariant (p ∷ rest)) n own nodes (p ∷ rest) y e

    out : Outside n (length inputs) y
    out = leaves-outside (is_invariant (p ∷ rest)) n (length inputs) own nodes (p ∷ rest) y many closed at (invariant-arguments (p ∷ rest) at.inputs at.all)

    among : IsAmong n (regions_ids rs)
    among = among-left n (nodes_ids nodes) [] (leaving-among (is_invariant (p ∷ rest)) n nodes y at)

    runs : (d : Context) (ys : List Datum) (q : Outputs) →
        RunsBoth l args before x after results part n (unread l args before id Theta inputs rs after results part n among) out.op
        (map (args_to_inputs inputs) out.inputs) out.regions x' out.pure refl d ys q
    runs d ys q =
        let us = map (read ys q) inputs in
        let g = gives-both d (length inputs) n out.known out.op out.inputs out.regions out.pure out.all out.reads ys q inputs refl in
        let gives : Gives d us y g.value = subst (λ z. Gives d us z g.value) (sym out.node_is) g.inside in
        let same = theta-same d n g.value own nodes p rest y closed unique turns at (known_after [] before) (length args) ys q id inputs
        (before-unknown l args before id Theta inputs rs after results part n among) (inputs-read l args before id Theta inputs rs after results part) many gives in
        record {
          value = g.value;
          first = g.outside;
          second = same-change (Followed g.value) (Carries g.value) (node_run d x ys q) (node_run d x' ys (extended q n (val g.value ∷ [])))
              (λ zs ws f i. subst (λ ts. (at_port ts i ≡ at_port zs i) ⊎ ((at_port zs i ≡ val Bad) × (at_port ts i ≡ val g.value))) (sym f) (followed-carries g.value zs i)) same;
        }

-- ---- the rule

left-replaces : (l : PlainLambda) (args : List Kind) (before : NodeTrees) (x : NodeTree) (after : NodeTrees) (results : List Origin) →
    IsPartOf l (region args (joined_nodes before (node_then x after)) results) → (n : ℕ) (two : NodeTrees) → pushed n x ≡ Some two → (ls ks : List PlainLambda) →
    Replaces ls ks (region args (joined_nodes before (node_then x after)) results) (region args (joined_nodes before (joined_nodes two after)) results)
left-replaces l args before (node id Gamma (p ∷ entries) rs) after results part n two e ls ks = by (leaving_one n rs) refl e
  where
    whole : RegionTree
    whole = region args (joined_nodes before (node_then (node id Gamma (p ∷ entries) rs) after)) results

    by : (found : Option NodeTree) → leaving_one n rs ≡ found →
        option_map (λ y. placed entries y (input_added (Out n 0) (node id Gamma (p ∷ entries) (regions_carried n rs)))) found ≡ Some two →
        Replaces ls ks whole (region args (joined_nodes before (joined_nodes two after)) results)
    by None d f = absurd cc
    by (Some y) d f =
        subst (λ ns. Replaces ls ks whole (region args (joined_nodes before (joined_nodes ns after)) results)) (same_Some _ two f)
        (gamma-replaces l args before id p entries rs after results part n y d ls ks)
left-replaces l args before (node id Theta inputs (region_then (region own nodes outs) no_regions)) after results part n two e ls ks = by (leaving_loop n (region own nodes outs)) refl e
  where
    whole : RegionTree
    whole = region args (joined_nodes before (node_then (node id Theta inputs (region_then (region own nodes outs) no_regions)) after)) results

    by : (found : Option NodeTree) → leaving_loop n (region own nodes outs) ≡ found →
        option_map (λ y. placed inputs y (input_added (Out n 0) (node id Theta inputs (region_then (looped n (region own nodes outs)) no_regions)))) found ≡ Some two →
        Replaces ls ks whole (region args (joined_nodes before (joined_nodes two after)) results)
    by None d f = absurd cc
    by (Some y) d f =
        subst (λ ns. Replaces ls ks whole (region args (joined_nodes before (joined_nodes ns after)) results)) (same_Some _ two f)
        (theta-replaces l args before id inputs own nodes outs after results part n y d ls ks)
left-replaces l args before (node id Gamma [] rs) after results part n two e ls ks = absurd cc
left-replaces l args before (node id Theta inputs no_regions) after results part n two e ls ks = absurd cc
left-replaces l args before (node id Theta inputs (region_then (region own nodes outs) (region_then s rs))) after results part n two e ls ks = absurd cc
left-replaces l args before (node id (Const w) inputs rs) after results part n two e ls ks = absurd cc
left-replaces l args before (node id Undef inputs rs) after results part n two e ls ks = absurd cc
left-replaces l args before (node id (Local k) inputs rs) after results part n two e ls ks = absurd cc
left-replaces l args before (node id (Delta k) inputs rs) after results part n two e ls ks = absurd cc
left-replaces l args before (node id (Bin o) inputs rs) after results part n two e ls ks = absurd cc
left-replaces l args before (node id (Un o) inputs rs) after results part n two e ls ks = absurd cc
left-replaces l args before (node id (Load w) inputs rs) after results part n two e ls ks = absurd cc
left-replaces l args before (node id (Store w) inputs rs) after results part n two e ls ks = absurd cc
left-replaces l args before (node id (Clear k) inputs rs) after results part n two e ls ks = absurd cc
left-replaces l args before (node id PtrEq inputs rs) after results part n two e ls ks = absurd cc
left-replaces l args before (node id (Apply f) inputs rs) after results part n two e ls ks = absurd cc
left-replaces l args before (node id Put inputs rs) after results part n two e ls ks = absurd cc
left-replaces l args before (node id Exit inputs rs) after results part n two e ls ks = absurd cc
left-replaces l args before (node id Get inputs rs) after results part n two e ls ks = absurd cc

pub push_replaces : PushReplaces
push_replaces ls ks values n l (region args ns results) s part e =
    let at = changed-at values n args ns results s e in
    subst (λ ms. Replaces ls ks (region args ms results) s) (sym at.is)
    (subst (λ t. Replaces ls ks (region args (joined_nodes at.before (node_then at.left at.after)) results) t) (sym at.result)
    (left-replaces l args at.before at.left at.after results (subst (λ ms. IsPartOf l (region args ms results)) at.is part) n at.two at.gives ls ks))
