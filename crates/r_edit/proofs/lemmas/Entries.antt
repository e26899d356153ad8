-- Entry variables of a Gamma whose arguments no region reads go.
use Rattle.std.proofs.Common.{◌≡◌, ℕ, zero, suc, ◌==◌, Bool, true, false, List, [], ◌∷◌, map, length, refl, sym, ap, subst, inl, inr, append-nil}
use Rattle.std.proofs.lemmas.Bool.{or_parts}
use Rattle.val_core.specs.Refinement.{Direction, Refines, no_deeper}
use Rattle.g_graph.specs.declared.op.Kind.{Kind}
use Rattle.g_graph.specs.declared.op.Op.TheVariants.{Gamma}
use Rattle.g_graph.specs.declared.op.Origin.{Origin}
use Rattle.g_graph.specs.declared.op.Origin.TheVariants.{Arg, Out}
use Rattle.g_graph.specs.Plain.{region, NodeTree, node, NodeTrees, no_nodes, node_then, RegionTrees, no_regions, region_then, id_of}
use Rattle.g_graph.specs.Ids.{nodes_ids}
use Rattle.g_graph.specs.Change.{has_node}
use Rattle.g_graph.specs.WellFormed.{some_of}
use Rattle.g_graph.specs.Replace.{nodes_redirected}
use Rattle.g_graph.specs.Splice.{joined_nodes}
use Rattle.g_graph.proofs.lemmas.Indexes.{same_number_true}
use Rattle.g_mean.specs.Data.{Datum, at_port}
use Rattle.g_mean.specs.Meaning.{Context, chosen, Outputs, no_outputs, read, region_meaning, node_run, meanings}
use Rattle.g_mean.specs.LessDefined.{Paired, IsLessDefinedDatum}
use Rattle.g_mean.specs.Refining.{MeaningRefines, ContextRefines}
use Rattle.g_mean.specs.Copies.{IsAmong, AreRead, known_after, is_argument, IsClosed, AllClosed, CanMove}
use Rattle.g_mean.specs.Moves.{ReadLessDefined}
use Rattle.g_mean.proofs.lemmas.Kept.{OutputsRefine, paired-at, read-refines, reads-refines}
use Rattle.g_mean.proofs.lemmas.Regions.{on_number-refines}
use Rattle.g_mean.proofs.lemmas.Equal.{no_deeper-compares}
use Rattle.g_mean.proofs.lemmas.LessDefined.{less-kept}
use Rattle.g_mean.proofs.lemmas.Copies.{redirected-moved}
use Rattle.g_mean.proofs.lemmas.Moves.{moved_regions_refine}
use Rattle.g_mean.proofs.lemmas.Redirects.{replaced_nodes_refine}
use Rattle.g_mean.proofs.lemmas.Inside.{node-here, regions-closed}
use Rattle.r_edit.specs.Uses.{nodes_read, is_read}
use Rattle.r_edit.specs.Places.{stays_at, kept}
use Rattle.r_edit.specs.Entries.{argument_after, is_gone_argument, some_reads, regions_taking, node_taking, nodes_taking, entries_kept}
use Rattle.r_edit.specs.Laws.{UnreadEntriesGo}
use Rattle.r_edit.proofs.lemmas.Exits.{kept_port}
use Rattle.r_edit.proofs.lemmas.Kept.{kept_map, is_not}
use Rattle.r_edit.proofs.lemmas.Parts.{all_unread, nodes_unread}
use Rattle.r_edit.proofs.lemmas.Placed.{not_before}

module _ (stays : List Bool) where
  abbrev move : Origin → Origin
  move = argument_after stays

  abbrev gone : Origin → Bool
  gone = is_gone_argument stays

  -- the arguments that stay
  abbrev pub staying : Origin → Bool
  staying (Arg k) = stays_at stays k
  staying (Out n p) = false

  pub moves : (ids : List ℕ) → CanMove staying move (λ n. n) ids
  moves ids = record { one = λ m n h k e. e; outputs = λ n p h. refl; apart = apart; fresh = fresh }
    where
      apart : (a : Origin) (n p : ℕ) → staying a ≡ true → a ≡ Out n p → IsAmong n ids → ⊥
      apart (Arg k) n p t e h = absurd cc
      apart (Out i j) n p t e h = absurd cc

      fresh : (a : Origin) (n p m : ℕ) → staying a ≡ true → move a ≡ Out n p → IsAmong m ids → n ≡ m → ⊥
      fresh (Arg k) n p m t e h f = absurd cc
      fresh (Out i j) n p m t e h f = absurd cc

  pub none_known : (n p : ℕ) → IsAmong n [] → gone (Out n p) ≡ false → staying (Out n p) ≡ true
  none_known n p h e = absurd h

  arguments_less : (us vs : List Datum) → Paired IsLessDefinedDatum us vs → ReadLessDefined staying [] move us (kept stays vs) no_outputs no_outputs
  arguments_less us vs pairs (Arg k) (inl t) =
      subst (λ z. IsLessDefinedDatum (at_port us k) z) (sym (kept_port stays vs k t)) (paired-at IsLessDefinedDatum less-kept us vs pairs k)
  arguments_less us vs pairs (Arg k) (inr h) = absurd h
  arguments_less us vs pairs (Out n p) (inl t) = absurd cc
  arguments_less us vs pairs (Out n p) (inr h) = absurd h

  module _ (direction : Direction) (c d : Context) (context : ContextRefines no_deeper direction IsLessDefinedDatum c d) where
    region_takes : (args : List Kind) (nodes : NodeTrees) (results : List Origin) → IsClosed (region args nodes results) → is_read gone (region args nodes results) ≡ false → (us vs : List Datum) →
        Paired IsLessDefinedDatum us vs →
        Refines no_deeper direction (Paired IsLessDefinedDatum) (region_meaning c (region args nodes results) us)
        (region_meaning d (region (kept stays args) (nodes_redirected move nodes) (map move results)) (kept stays vs))
    region_takes args nodes results closed unread us vs pairs =
        let parts = or_parts (nodes_read gone nodes) (some_of gone results) unread in
        let reads = nodes_unread (length args) staying gone [] (λ k e. is_not (stays_at stays k) e) none_known [] nodes closed.0 parts.0 in
        let gives = all_unread (length args) staying gone [] (λ k e. is_not (stays_at stays k) e) none_known (known_after [] nodes) results
        (subst (λ ks. AreRead (is_argument (length args)) ks results) (sym (append-nil (known_after [] nodes))) closed.1) parts.1 in
        subst
        (λ ns. Refines no_deeper direction (Paired IsLessDefinedDatum) (region_meaning c (region args nodes results) us)
        (region_meaning d (region (kept stays args) ns (map move results)) (kept stays vs)))
        (redirected-moved move nodes)
        (moved_regions_refine direction c d context staying move (λ n. n) args (kept stays args) nodes results (moves (nodes_ids nodes)) reads gives us (kept stays vs) (arguments_less us vs pairs))

    chosen_takes : (w : ℕ) (rs : RegionTrees) → AllClosed rs → some_reads stays rs ≡ false → (us vs : List Datum) → Paired IsLessDefinedDatum us vs →
        Refines no_deeper direction (Paired IsLessDefinedDatum) (chosen w (meanings c rs) us) (chosen w (meanings d (regions_taking stays rs)) (kept stays vs))
    chosen_takes w no_regions closed unread us vs pairs = tt
    chosen_takes w (region_then (region args nodes results) no_regions) closed unread us vs pairs =
        region_takes args nodes results closed.0 (or_parts (is_read gone (region args nodes results)) false unread).0 us vs pairs
    chosen_takes zero (region_then (region args nodes results) (region_then (region args' nodes' results') rs)) closed unread us vs pairs =
        region_takes args nodes results closed.0
        (or_parts (is_read gone (region args nodes results)) (some_reads stays (region_then (region args' nodes' results') rs)) unread).0 us vs pairs
    chosen_takes (suc w) (region_then (region args nodes results) (region_then (region args' nodes' results') rs)) closed unread us vs pairs =
        chosen_takes w (region_then (region args' nodes' results') rs) closed.1
        (or_parts (is_read gone (region args nodes results)) (some_reads stays (region_then (region args' nodes' results') rs)) unread).1 us vs pairs

    pub node_takes : (id : ℕ) (inputs : List Origin) (rs : RegionTrees) → AllClosed rs → some_reads stays rs ≡ false → (xs ys : List Datum) (o q : Outputs) → Paired IsLessDefinedDatum xs ys →
        OutputsRefine IsLessDefinedDatum o q →
        Refines no_deeper direction (Paired IsLessDefinedDatum) (node_run c (node id Gamma inputs rs) xs o) (node_run d (node_taking stays (node id Gamma inputs rs)) ys q)
    node_takes id [] rs closed unread xs ys o q near like = tt
    node_takes id (p ∷ entries) rs closed unread xs ys o q near like =
        on_number-refines no_deeper no_deeper-compares direction IsLessDefinedDatum less-kept (Paired IsLessDefinedDatum) (read xs o p) (read ys q p)
        (read-refines IsLessDefinedDatum less-kept xs ys near o q like p) (λ w. chosen w (meanings c rs) (map (read xs o) entries))
        (λ w. chosen w (meanings d (regions_taking stays rs)) (map (read ys q) (kept stays entries)))
        (λ w. subst (λ vs. Refines no_deeper direction (Paired IsLessDefinedDatum) (chosen w (meanings c rs) (map (read xs o) entries)) (chosen w (meanings d (regions_taking stays rs)) vs))
        (sym (kept_map stays (read ys q) entries))
        (chosen_takes w rs closed unread (map (read xs o) entries) (map (read ys q) entries) (reads-refines IsLessDefinedDatum less-kept xs ys near o q like entries)))

  -- ---- the region

  pub taking_joined : (n : ℕ) (before : NodeTrees) (x : NodeTree) (after : NodeTrees) → has_node n before ≡ false → (id_of x == n) ≡ true →
      nodes_taking n stays (joined_nodes before (node_then x after)) ≡ joined_nodes before (node_then (node_taking stays x) after)
  taking_joined n no_nodes x after b e = rw e
  taking_joined n (node_then y before) x after b e =
      let both = or_parts (id_of y == n) (has_node n before) b in
      rw both.0 (ap (node_then y) (taking_joined n before x after both.1 e))

pub unread_entries_go : UnreadEntriesGo
unread_entries_go ls ks l args before id inputs rs after results stays part unread =
    let x = node id Gamma inputs rs in
    let here = node-here l args before x after results part in
    let closed = regions-closed l args before id Gamma inputs rs after results part in
    let is : region args (joined_nodes before (node_then (node_taking stays x) after)) results ≡ entries_kept id stays (region args (joined_nodes before (node_then x after)) results) =
    ap (λ ns. region args ns results) (sym (taking_joined stays id before x after (not_before (length l.objects) args before x after here) (same_number_true id))) in
    record {
      at = λ direction global. record {
        at = λ c d context linked.
            subst (λ r. MeaningRefines no_deeper direction IsLessDefinedDatum (region_meaning c (region args (joined_nodes before (node_then x after)) results)) (region_meaning d r)) is
            (replaced_nodes_refine direction c d context args before x (node_taking stays x) after results part.closed part.unique refl
            (λ xs ys o q near like have. node_takes stays direction c d context id inputs rs closed unread xs ys o q near like));
      };
    }
