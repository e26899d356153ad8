-- A node that gives no state, and none of whose outputs is read, goes.
use Rattle.std.proofs.Common.{◌≡◌, ℕ, ◌==◌, Bool, true, false, not, ◌&&◌, ◌||◌, cond, List, [], ◌∷◌, ◌++◌, map, length, Option, None, Some, refl, sym, ap, subst, ◌∙◌, inl, inr, arith}
use Rattle.std.specs.Prelude.{slice_get}
use Rattle.std.proofs.lemmas.Bool.{and_parts, or_parts, eqb-false}
use Rattle.val_core.specs.Answers.{Answer, Returned, Cut, Exited, Undefined, then_on}
use Rattle.val_core.specs.Refinement.{Direction, Refines, no_deeper}
use Rattle.g_graph.specs.declared.op.Kind.{Kind}
use Rattle.g_graph.specs.declared.op.Kind.TheVariants.{Value, Memory, Io}
use Rattle.g_graph.specs.declared.op.Op.{Op}
use Rattle.g_graph.specs.declared.op.Origin.{Origin}
use Rattle.g_graph.specs.declared.op.Origin.TheVariants.{Arg, Out}
use Rattle.g_graph.specs.Plain.{RegionTree, region, NodeTree, NodeTrees, no_nodes, node_then, nodes_of, id_of, PlainLambda}
use Rattle.g_graph.specs.Ids.{node_ids, nodes_ids}
use Rattle.g_graph.specs.Signatures.{joined, output_kinds, kind_after}
use Rattle.g_graph.specs.Scope.{is_of, known, last_index, origin_at, state_after, each_node}
use Rattle.g_graph.specs.WellFormed.{all_of, some_of, one_state_each, gives, is_origin, is_last_of, is_last, node_fits}
use Rattle.g_graph.specs.WellFormed.{nodes_fit, results_are_last, returns_state, region_has_one_state_each, region_fits, every_region, every_in_node, every_in_nodes}
use Rattle.g_graph.specs.Change.{has_node}
use Rattle.g_graph.specs.Replace.{nodes_redirected}
use Rattle.g_graph.specs.Splice.{joined_nodes}
use Rattle.g_graph.specs.Lists.{RegionOps, NodesOps}
use Rattle.g_graph.proofs.lemmas.Indexes.{same_number_true, index_kind}
use Rattle.g_graph.proofs.lemmas.Nodes.{NodeFits, KeptWithin, each_here}
use Rattle.g_graph.proofs.lemmas.Splices.{joined_following, nodes_ids-joined, kind_after-joined, state_after-joined, gives-joined, every_in_nodes-joined}
use Rattle.g_graph.proofs.lemmas.Unique.{times, times_append}
use Rattle.g_mean.specs.Data.{Datum}
use Rattle.g_mean.specs.Meaning.{Context, Outputs, extended, region_meaning, node_run, nodes_run}
use Rattle.g_mean.specs.LessDefined.{Paired, IsLessDefinedDatum}
use Rattle.g_mean.specs.Refining.{MeaningRefines}
use Rattle.g_mean.specs.Moves.{ReadLessDefined}
use Rattle.g_mean.specs.Silent.{IsSilent, GivesNoState}
use Rattle.g_mean.specs.Edits.{IsPartOf}
use Rattle.g_mean.specs.Replacement.{Replaces}
use Rattle.g_mean.proofs.lemmas.Kept.{OutputsRefine, paired-at}
use Rattle.g_mean.proofs.lemmas.Equal.{no_deeper-compares}
use Rattle.g_mean.proofs.lemmas.LessDefined.{less-kept}
use Rattle.g_mean.proofs.lemmas.Copies.{extended-other}
use Rattle.g_mean.proofs.lemmas.Inside.{node-here}
use Rattle.g_mean.proofs.lemmas.Silent.{stateless_nodes_are_silent}
use Rattle.r_edit.specs.Uses.{nodes_read, is_read, is_output_of}
use Rattle.r_edit.specs.Removal.{nodes_without, region_without}
use Rattle.r_edit.specs.Parts.{CanPlace}
use Rattle.r_edit.specs.Laws.{UnreadNodesGo}
use Rattle.r_edit.proofs.lemmas.Parts.{placed_parts_refine}
use Rattle.g_graph.proofs.lemmas.Redirects.{all_unmoved, nodes_unmoved}
use Rattle.r_edit.proofs.lemmas.Placed.{not_before, read_after, outside, outside_stays, can_place}
use Rattle.r_edit.proofs.lemmas.Scopes.{KeepsScope, kept_all, kept_nodes_fit}

-- ---- what goes

pub without_joined : (n : ℕ) (before : NodeTrees) (x : NodeTree) (after : NodeTrees) → has_node n before ≡ false → (id_of x == n) ≡ true →
    nodes_without n (joined_nodes before (node_then x after)) ≡ joined_nodes before after
without_joined n no_nodes x after b e = rw e
without_joined n (node_then y before) x after b e =
    let both = or_parts (id_of y == n) (has_node n before) b in
    rw both.0 (ap (node_then y) (without_joined n before x after both.1 e))

-- the region without the node
without_is : (objects : ℕ) (args : List Kind) (before : NodeTrees) (x : NodeTree) (after : NodeTrees) (results : List Origin) → NodeFits objects args before x after →
    region_without (id_of x) (region args (joined_nodes before (node_then x after)) results) ≡ region args (joined_nodes before after) results
without_is objects args before x after results here =
    ap (λ ns. region args ns results) (without_joined (id_of x) before x after (not_before objects args before x after here) (same_number_true (id_of x)))

-- ---- meaning

module _ (l : PlainLambda) (args : List Kind) (before : NodeTrees) (x : NodeTree) (after : NodeTrees) (results : List Origin)
    (part : IsPartOf l (region args (joined_nodes before (node_then x after)) results)) (none : GivesNoState x)
    (unread : is_read (is_output_of (id_of x)) (region args (joined_nodes before (node_then x after)) results) ≡ false) where
  abbrev whole : RegionTree
  whole = region args (joined_nodes before (node_then x after)) results

  abbrev gone : Origin → Bool
  gone = is_output_of (id_of x)

  here : NodeFits (length l.objects) args before x after
  here = node-here l args before x after results part

  silent : (c : Context) (xs : List Datum) (o : Outputs) → IsSilent (node_run c x xs o)
  silent c xs o =
      let fits = (and_parts (region_fits (length l.objects) whole) (every_in_nodes (region_fits (length l.objects)) (joined_nodes before (node_then x after))) part.fits).0 in
      let to_io = (and_parts (nodes_fit (length l.objects) whole && results_are_last whole && returns_state Memory whole && returns_state Io whole) (region_has_one_state_each whole) fits).0 in
      let to_memory = (and_parts (nodes_fit (length l.objects) whole && results_are_last whole && returns_state Memory whole) (returns_state Io whole) to_io).0 in
      let to_last = (and_parts (nodes_fit (length l.objects) whole && results_are_last whole) (returns_state Memory whole) to_memory).0 in
      let fit = each_here (node_fits (length l.objects) args) [] before x after (and_parts (nodes_fit (length l.objects) whole) (results_are_last whole) to_last).0 in
      stateless_nodes_are_silent (length l.objects) args before x (record { fits = fit; nested = here.inside }) none c xs o

  -- what is read of all that stands before, and what follows stays
  abbrev seen : Origin → Bool
  seen = outside args before x after results part.closed part.unique gone (λ o. o) unread

  can_go : CanPlace args before x after results seen (λ o. o)
  can_go = can_place args before x after results part.closed part.unique gone (λ o. o) unread (λ k. refl) (λ n p. (p, refl)) (λ n p h. refl)

  -- the node gives outputs that nothing reads
  nothing_refines : (direction : Direction) (c : Context) (xs ys : List Datum) (o q : Outputs) → Paired IsLessDefinedDatum xs ys → OutputsRefine IsLessDefinedDatum o q →
      Refines no_deeper direction (ReadLessDefined seen [] (λ a. a) xs ys) (nodes_run c (node_then x no_nodes) xs o) (Returned q [])
  nothing_refines direction c xs ys o q near like = by (node_run c x xs o) (silent c xs o)
    where
      less : (us : List Datum) → ReadLessDefined seen [] (λ a. a) xs ys (extended o (id_of x) us) q
      less us (Arg k) h = paired-at IsLessDefinedDatum less-kept xs ys near k
      less us (Out n p) (inl t) =
          let other = eqb-false (id_of x) n (outside_stays args before x after results part.closed part.unique gone (λ z. z) unread n p t) in
          subst (λ z. IsLessDefinedDatum z (q n p)) (sym (extended-other o (id_of x) us n p other)) (like n p)
      less us (Out n p) (inr h) = absurd h

      by : (a : Answer (List Datum)) → IsSilent a →
          Refines no_deeper direction (ReadLessDefined seen [] (λ z. z) xs ys) (then_on a (λ us. Returned (extended o (id_of x) us) [])) (Returned q [])
      by (Returned us did) e =
          subst (λ w. Refines no_deeper direction (ReadLessDefined seen [] (λ z. z) xs ys) (then_on (Returned us w) (λ vs. Returned (extended o (id_of x) vs) [])) (Returned q [])) (sym e)
          (less us, no_deeper-compares.goes.nothing)
      by (Undefined did) e = tt
      by (Cut did) e = absurd e
      by (Exited did s) e = absurd e

  placed_is : region args (joined_nodes before (joined_nodes no_nodes (nodes_redirected (λ o. o) after))) (map (λ o. o) results) ≡ region_without (id_of x) whole
  placed_is =
      (λ i. region args (joined_nodes before (nodes_unmoved (λ o. o) (λ o. refl) after i)) (all_unmoved (λ o. o) (λ o. refl) results i))
      ∙ sym (without_is (length l.objects) args before x after results here)

  without_replaces : (ls ks : List PlainLambda) → Replaces ls ks whole (region_without (id_of x) whole)
  without_replaces ls ks =
      record {
        at = λ direction global. record {
          at = λ c d context linked.
              subst (λ r. MeaningRefines no_deeper direction IsLessDefinedDatum (region_meaning c whole) (region_meaning d r)) placed_is
              (placed_parts_refine direction c d context args before x after results no_nodes seen (λ o. o) can_go
              (λ xs ys o q near like have. nothing_refines direction c xs ys o q near like));
        };
      }

pub unread_nodes_go : UnreadNodesGo
unread_nodes_go ls ks l args before x after results part none unread = without_replaces l args before x after results part none unread ls ks

-- ---- what is well formed

module _ (args : List Kind) (x : NodeTree) (none : GivesNoState x) where
  no_index : (k : Kind) → some_of (is_of k) (output_kinds x) ≡ false → last_index k 0 (output_kinds x) None ≡ None
  no_index k e = by (last_index k 0 (output_kinds x) None) refl
    where
      by : (found : Option ℕ) → last_index k 0 (output_kinds x) None ≡ found → found ≡ None
      by None d = refl
      by (Some p) d = let wrong : true ≡ false = sym (index_kind k (output_kinds x) p d).1 ∙ e in absurd cc

  state_stays : (k : Kind) → some_of (is_of k) (output_kinds x) ≡ false → (bs between : NodeTrees) (found : Option Origin) →
      state_after k (joined_nodes bs between) found ≡ state_after k (joined_nodes bs (node_then x between)) found
  state_stays k e bs between found =
      state_after-joined k bs between found
      ∙ ap (λ i. state_after k between (origin_at (λ p. Out (id_of x) p) i (state_after k bs found))) (sym (no_index k e))
      ∙ sym (state_after-joined k bs (node_then x between) found)

  kind_stays : (bs between : NodeTrees) (o : Origin) → is_output_of (id_of x) o ≡ false → known args (joined_nodes bs between) o ≡ known args (joined_nodes bs (node_then x between)) o
  kind_stays bs between (Arg k) e = refl
  kind_stays bs between (Out n p) e =
      kind_after-joined bs between n p None
      ∙ ap (λ t. kind_after between n p (cond t (joined (slice_get (output_kinds x) p)) (kind_after bs n p None))) (sym e)
      ∙ sym (kind_after-joined bs (node_then x between) n p None)

  last_stays : (bs between : NodeTrees) (k : Option Kind) (o : Origin) → is_last_of k args (joined_nodes bs between) o ≡ is_last_of k args (joined_nodes bs (node_then x between)) o
  last_stays bs between None o = refl
  last_stays bs between (Some Value) o = refl
  last_stays bs between (Some Memory) o = ap (λ s. is_origin s o) (state_stays Memory none.memory bs between (origin_at Arg (last_index Memory 0 (map Some args) None) None))
  last_stays bs between (Some Io) o = ap (λ s. is_origin s o) (state_stays Io none.io bs between (origin_at Arg (last_index Io 0 (map Some args) None) None))

  -- after the later nodes all but its outputs is as it was
  scope_stays : (bs between : NodeTrees) → KeepsScope (is_output_of (id_of x)) args (joined_nodes bs (node_then x between)) args (joined_nodes bs between) (λ o. o)
  scope_stays bs between =
      record {
        one = λ o u e. (
          kind_stays bs between o u,
          ap (λ k. is_last_of k args (joined_nodes bs between) o) (kind_stays bs between o u) ∙ last_stays bs between (known args (joined_nodes bs (node_then x between)) o) o ∙ e,
        );
      }

  without_fit : (objects : ℕ) (earlier : List NodeTree) (before after : NodeTrees) → nodes_read (is_output_of (id_of x)) after ≡ false →
      each_node (node_fits objects args) earlier (joined_nodes before (node_then x after)) ≡ true → each_node (node_fits objects args) earlier (joined_nodes before after) ≡ true
  without_fit objects earlier no_nodes after u e =
      let rest = (and_parts (node_fits objects args (nodes_of earlier) x) (each_node (node_fits objects args) (earlier ++ x ∷ []) after) e).1 in
      subst (λ ns. each_node (node_fits objects args) earlier ns ≡ true) (nodes_unmoved (λ o. o) (λ o. refl) after)
      (kept_nodes_fit (is_output_of (id_of x)) objects args args (λ o. o) (earlier ++ x ∷ []) earlier after
      (λ front following w.
      subst (λ ns. KeepsScope (is_output_of (id_of x)) args ns args (joined_nodes (nodes_of earlier) (nodes_redirected (λ o. o) front)) (λ o. o)) (sym (joined_following earlier x front))
      (subst (λ ns. KeepsScope (is_output_of (id_of x)) args (joined_nodes (nodes_of earlier) (node_then x front)) args (joined_nodes (nodes_of earlier) ns) (λ o. o))
      (sym (nodes_unmoved (λ o. o) (λ o. refl) front))
      (scope_stays (nodes_of earlier) front))) u rest)
  without_fit objects earlier (node_then y before) after u e =
      let both = and_parts (node_fits objects args (nodes_of earlier) y) (each_node (node_fits objects args) (earlier ++ y ∷ []) (joined_nodes before (node_then x after))) e in
      let rest = without_fit objects (earlier ++ y ∷ []) before after u both.1 in
      λ i. both.0 i && rest i

  gives_stays : (k : Kind) → some_of (is_of k) (output_kinds x) ≡ false → (before after : NodeTrees) → gives k (joined_nodes before after) ≡ gives k (joined_nodes before (node_then x after))
  gives_stays k e before after =
      gives-joined k before after ∙ ap (λ b. gives k before || (b || gives k after)) (sym e) ∙ sym (gives-joined k before (node_then x after))

-- The region stays well formed, and has no other numbers.
pub without_kept : (objects : ℕ) (args : List Kind) (before : NodeTrees) (x : NodeTree) (after : NodeTrees) (results : List Origin) → NodeFits objects args before x after →
    every_region (region_fits objects) (region args (joined_nodes before (node_then x after)) results) ≡ true → GivesNoState x →
    is_read (is_output_of (id_of x)) (region args (joined_nodes before (node_then x after)) results) ≡ false →
    KeptWithin objects (region args (joined_nodes before (node_then x after)) results) (region_without (id_of x) (region args (joined_nodes before (node_then x after)) results))
without_kept objects args before x after results here fits none unread =
    let ns = joined_nodes before (node_then x after) in
    let ms = joined_nodes before after in
    let r = region args ns results in
    let gone = is_output_of (id_of x) in
    let both = or_parts (nodes_read gone ns) (some_of gone results) unread in
    let own = (and_parts (region_fits objects r) (every_in_nodes (region_fits objects) ns) fits).0 in
    let nest = (and_parts (region_fits objects r) (every_in_nodes (region_fits objects) ns) fits).1 in
    let to_io = (and_parts (nodes_fit objects r && results_are_last r && returns_state Memory r && returns_state Io r) (region_has_one_state_each r) own).0 in
    let to_memory = (and_parts (nodes_fit objects r && results_are_last r && returns_state Memory r) (returns_state Io r) to_io).0 in
    let to_last = (and_parts (nodes_fit objects r && results_are_last r) (returns_state Memory r) to_memory).0 in
    let fit = (and_parts (nodes_fit objects r) (results_are_last r) to_last).0 in
    let last : all_of (is_last args ns) results ≡ true = (and_parts (nodes_fit objects r) (results_are_last r) to_last).1 in
    let all = subst (λ os. (map (known args ms) os ≡ map (known args ns) results) × (all_of (is_last args ms) os ≡ true)) (all_unmoved (λ o. o) (λ o. refl) results)
    (kept_all gone objects args args (λ o. o) ns ms (scope_stays args x none before after) results both.1 last) in
    let now = without_fit args x none objects [] before after (read_after gone before x after both.0) fit in
    let same : region_fits objects (region args ms results) ≡ region_fits objects r =
    λ i.
    (now ∙ sym fit) i && (all.1 ∙ sym last) i && (not (gives_stays args x none Memory none.memory before after i) || some_of (is_of Memory) (all.0 i))
    && (not (gives_stays args x none Io none.io before after i) || some_of (is_of Io) (all.0 i)) && (one_state_each (map Some args) && one_state_each (all.0 i)) in
    let inner = and_parts (every_in_nodes (region_fits objects) before) (every_in_nodes (region_fits objects) (node_then x after))
    (sym (every_in_nodes-joined (region_fits objects) before (node_then x after)) ∙ nest) in
    let outer = (and_parts (every_in_node (region_fits objects) x) (every_in_nodes (region_fits objects) after) inner.1).1 in
    let inside : every_in_nodes (region_fits objects) ms ≡ true = every_in_nodes-joined (region_fits objects) before after ∙ (λ i. inner.0 i && outer i) in
    subst (λ s. KeptWithin objects r s) (sym (without_is objects args before x after results here))
    (record {
      kept = record { args = refl; results = all.0; inside = λ i. (same ∙ own) i && inside i };
      fewer = λ m.
          omega (
            arith,
            ap (times m) (nodes_ids-joined before (node_then x after)),
            times_append m (nodes_ids before) (node_ids x ++ nodes_ids after),
            times_append m (node_ids x) (nodes_ids after),
            ap (times m) (nodes_ids-joined before after),
            times_append m (nodes_ids before) (nodes_ids after),
          );
    })

-- ---- no op is added

nodes_without_ops : (p : Op → ℕ → Type 0) (n : ℕ) (ns : NodeTrees) → NodesOps p ns → NodesOps p (nodes_without n ns)
nodes_without_ops p n no_nodes h = h
nodes_without_ops p n (node_then x ns) h = by (id_of x == n) (nodes_without_ops p n ns h.1)
  where
    by : (t : Bool) → NodesOps p (nodes_without n ns) → NodesOps p (cond t ns (node_then x (nodes_without n ns)))
    by true rest = h.1
    by false rest = (h.0, rest)

pub without_ops : (p : Op → ℕ → Type 0) (n : ℕ) (r : RegionTree) → RegionOps p r → RegionOps p (region_without n r)
without_ops p n (region args nodes results) h = nodes_without_ops p n nodes h
