-- Loop variables of a Theta that nothing but what goes reads go.
use Rattle.std.proofs.Common.{◌≡◌, ℕ, zero, suc, ◌==◌, Bool, true, false, not, ◌&&◌, cond, List, [], ◌∷◌, ◌++◌, map, length, refl, sym, ap, subst, inl, inr, append-nil}
use Rattle.std.proofs.lemmas.Bool.{or_parts}
use Rattle.val_core.specs.Answers.{Returned}
use Rattle.val_core.specs.Refinement.{Direction, Refines, no_deeper}
use Rattle.val_core.proofs.lemmas.Refinement.{refines-then}
use Rattle.g_graph.specs.declared.op.Kind.{Kind}
use Rattle.g_graph.specs.declared.op.Op.TheVariants.{Theta}
use Rattle.g_graph.specs.declared.op.Origin.{Origin}
use Rattle.g_graph.specs.declared.op.Origin.TheVariants.{Arg, Out}
use Rattle.g_graph.specs.Plain.{RegionTree, region, NodeTree, node, NodeTrees, no_nodes, node_then, no_regions, region_then, id_of, PlainLambda}
use Rattle.g_graph.specs.Ids.{nodes_ids}
use Rattle.g_graph.specs.Change.{has_node}
use Rattle.g_graph.specs.WellFormed.{some_of}
use Rattle.g_graph.specs.Replace.{nodes_redirected}
use Rattle.g_graph.specs.Splice.{joined_nodes}
use Rattle.g_graph.proofs.lemmas.Indexes.{same_number_true}
use Rattle.g_mean.specs.Data.{Datum, at_port}
use Rattle.g_mean.specs.Meaning.{Context, turns, Outputs, no_outputs, extended, read, region_meaning, nodes_run}
use Rattle.g_mean.specs.LessDefined.{Paired, IsLessDefinedDatum}
use Rattle.g_mean.specs.Refining.{MeaningRefines, ContextRefines}
use Rattle.g_mean.specs.Copies.{AreRead, known_after, is_argument, IsClosed}
use Rattle.g_mean.specs.Moves.{ReadLessDefined, IsTurned}
use Rattle.g_mean.specs.Edits.{IsPartOf}
use Rattle.g_mean.specs.Replacement.{Replaces}
use Rattle.g_mean.proofs.lemmas.Kept.{OutputsRefine, paired-at, reads-refines}
use Rattle.g_mean.proofs.lemmas.Equal.{no_deeper-compares}
use Rattle.g_mean.proofs.lemmas.LessDefined.{less-kept}
use Rattle.g_mean.proofs.lemmas.Copies.{test-other, redirected-moved}
use Rattle.g_mean.proofs.lemmas.Moves.{moved_nodes_refine, loops_refine}
use Rattle.g_mean.proofs.lemmas.Inside.{node-here, regions-closed}
use Rattle.r_edit.specs.Uses.{nodes_read, is_read}
use Rattle.r_edit.specs.Places.{stays_at, kept, place_after}
use Rattle.r_edit.specs.Exits.{output_after, is_gone_output}
use Rattle.r_edit.specs.Entries.{argument_after, is_gone_argument}
use Rattle.r_edit.specs.Variables.{region_looping, loop_reads, node_looping, nodes_looping, variables_kept}
use Rattle.r_edit.specs.Parts.{CanPlace}
use Rattle.r_edit.specs.Laws.{UnreadVariablesGo}
use Rattle.r_edit.proofs.lemmas.Kept.{kept_none, kept_map, is_not}
use Rattle.r_edit.proofs.lemmas.Parts.{placed_parts_refine, all_unread, nodes_unread}
use Rattle.r_edit.proofs.lemmas.Placed.{not_before, outside, outside_stays, can_place}
use Rattle.r_edit.proofs.lemmas.Exits.{kept_port}
use Rattle.r_edit.proofs.lemmas.Entries.{staying, moves, none_known}

pub kept_reads : (S : Origin → Bool) (known : List ℕ) (stays : List Bool) (os : List Origin) → AreRead S known os → AreRead S known (kept stays os)
kept_reads S known stays [] h = tt
kept_reads S known [] (a ∷ os) h = h
kept_reads S known (true ∷ ts) (a ∷ os) h = (h.0, kept_reads S known ts os h.1)
kept_reads S known (false ∷ ts) (a ∷ os) h = kept_reads S known ts os h.1

module _ (stays : List Bool) where
  abbrev inner : Origin → Origin
  inner = argument_after stays

  abbrev gone_argument : Origin → Bool
  gone_argument = is_gone_argument stays

  -- the variables that stay are less defined at their new places
  abbrev StayLess : List Datum → List Datum → Type 0
  StayLess us vs = (k : ℕ) → stays_at stays k ≡ true → IsLessDefinedDatum (at_port us k) (at_port vs (place_after stays k))

  kept_less : (us vs : List Datum) → Paired IsLessDefinedDatum us vs → StayLess us (kept stays vs)
  kept_less us vs pairs k t = subst (λ z. IsLessDefinedDatum (at_port us k) z) (sym (kept_port stays vs k t)) (paired-at IsLessDefinedDatum less-kept us vs pairs k)

  arguments_less : (us vs : List Datum) → StayLess us vs → ReadLessDefined (staying stays) [] inner us vs no_outputs no_outputs
  arguments_less us vs less (Arg k) (inl t) = less k t
  arguments_less us vs less (Arg k) (inr h) = absurd h
  arguments_less us vs less (Out n p) (inl t) = absurd cc
  arguments_less us vs less (Out n p) (inr h) = absurd h

  results_less : (known : List ℕ) (us vs : List Datum) (o q : Outputs) → ReadLessDefined (staying stays) known inner us vs o q → (ts : List Bool) (os : List Origin) →
      AreRead (staying stays) known (kept ts os) → (k : ℕ) → stays_at ts k ≡ true →
      IsLessDefinedDatum (at_port (map (read us o) os) k) (at_port (map (read vs q) (map inner (kept ts os))) (place_after ts k))
  results_less known us vs o q h ts [] r k t = less-kept.nothing
  results_less known us vs o q h [] (a ∷ os) r zero t = h a r.0
  results_less known us vs o q h [] (a ∷ os) r (suc k) t =
      subst (λ zs. IsLessDefinedDatum (at_port (map (read us o) os) k) (at_port (map (read vs q) (map inner zs)) k)) (kept_none os)
      (results_less known us vs o q h [] os (subst (λ zs. AreRead (staying stays) known zs) (sym (kept_none os)) r.1) k refl)
  results_less known us vs o q h (true ∷ ts) (a ∷ os) r zero t = h a r.0
  results_less known us vs o q h (true ∷ ts) (a ∷ os) r (suc k) t = results_less known us vs o q h ts os r.1 k t
  results_less known us vs o q h (false ∷ ts) (a ∷ os) r zero t = absurd cc
  results_less known us vs o q h (false ∷ ts) (a ∷ os) r (suc k) t = results_less known us vs o q h ts os r k t

  -- ---- a turn

  turned : (known : List ℕ) (us vs : List Datum) (o q : Outputs) → ReadLessDefined (staying stays) known inner us vs o q → (results : List Origin) →
      AreRead (staying stays) known (kept (true ∷ stays) results) → IsTurned StayLess (map (read us o) results) (map (read vs q) (map inner (kept (true ∷ stays) results)))
  turned known us vs o q h [] r = tt
  turned known us vs o q h (p ∷ results) r = (less-kept.number (read us o p) (read vs q (inner p)) (h p r.0), λ k t. results_less known us vs o q h stays results r.1 k t)

  module _ (direction : Direction) (c d : Context) (context : ContextRefines no_deeper direction IsLessDefinedDatum c d) (args : List Kind) (nodes : NodeTrees) (results : List Origin)
      (closed : IsClosed (region args nodes results)) (unread : loop_reads stays (region args nodes results) ≡ false) where
    body_refines : (us vs : List Datum) → StayLess us vs →
        Refines no_deeper direction (IsTurned StayLess) (region_meaning c (region args nodes results) us) (region_meaning d (region_looping stays (region args nodes results)) vs)
    body_refines us vs less =
        let parts = or_parts (nodes_read gone_argument nodes) (some_of gone_argument (kept (true ∷ stays) results)) unread in
        let reads = nodes_unread (length args) (staying stays) gone_argument [] (λ k e. is_not (stays_at stays k) e) (none_known stays) [] nodes closed.0 parts.0 in
        let gives = all_unread (length args) (staying stays) gone_argument [] (λ k e. is_not (stays_at stays k) e) (none_known stays) (known_after [] nodes) (kept (true ∷ stays) results)
        (kept_reads (is_argument (length args)) (known_after [] nodes ++ []) (true ∷ stays) results
        (subst (λ ks. AreRead (is_argument (length args)) ks results) (sym (append-nil (known_after [] nodes))) closed.1)) parts.1 in
        refines-then no_deeper no_deeper-compares.goes (ReadLessDefined (staying stays) (known_after [] nodes) inner us vs) (IsTurned StayLess) direction
        (nodes_run c nodes us no_outputs) (nodes_run d (nodes_redirected inner nodes) vs no_outputs)
        (λ o. Returned (map (read us o) results) []) (λ q. Returned (map (read vs q) (map inner (kept (true ∷ stays) results))) [])
        (subst (λ ns. Refines no_deeper direction (ReadLessDefined (staying stays) (known_after [] nodes) inner us vs) (nodes_run c nodes us no_outputs) (nodes_run d ns vs no_outputs))
        (redirected-moved inner nodes)
        (moved_nodes_refine direction c d context (staying stays) inner (λ n. n) nodes (moves stays (nodes_ids nodes)) reads us vs no_outputs no_outputs (arguments_less us vs less)))
        (λ o q h. (turned (known_after [] nodes) us vs o q h results gives, no_deeper-compares.goes.nothing))

    loop_refines : (us vs : List Datum) → StayLess us vs →
        Refines no_deeper direction StayLess (turns c.bound (region_meaning c (region args nodes results)) us) (turns d.bound (region_meaning d (region_looping stays (region args nodes results))) vs)
    loop_refines us vs less =
        loops_refine StayLess direction c.bound d.bound context.bounds (region_meaning c (region args nodes results)) (region_meaning d (region_looping stays (region args nodes results)))
        body_refines us vs less

  -- ---- the region

  pub looping_joined : (n : ℕ) (before : NodeTrees) (x : NodeTree) (after : NodeTrees) → has_node n before ≡ false → (id_of x == n) ≡ true →
      nodes_looping n stays (joined_nodes before (node_then x after)) ≡ joined_nodes before (node_then (node_looping stays x) (nodes_redirected (output_after n stays) after))
  looping_joined n no_nodes x after b e = rw e
  looping_joined n (node_then y before) x after b e =
      let both = or_parts (id_of y == n) (has_node n before) b in
      rw both.0 (ap (node_then y) (looping_joined n before x after both.1 e))

  module _ (l : PlainLambda) (args : List Kind) (before : NodeTrees) (id : ℕ) (inputs : List Origin) (own : List Kind) (nodes : NodeTrees) (outs : List Origin) (after : NodeTrees)
      (results : List Origin)
      (part : IsPartOf l (region args (joined_nodes before (node_then (node id Theta inputs (region_then (region own nodes outs) no_regions)) after)) results))
      (loops : loop_reads stays (region own nodes outs) ≡ false)
      (unread : is_read (is_gone_output id stays) (region args (joined_nodes before (node_then (node id Theta inputs (region_then (region own nodes outs) no_regions)) after)) results) ≡ false) where
    abbrev here : NodeTree
    here = node id Theta inputs (region_then (region own nodes outs) no_regions)

    abbrev whole : RegionTree
    whole = region args (joined_nodes before (node_then here after)) results

    abbrev gone : Origin → Bool
    gone = is_gone_output id stays

    abbrev move : Origin → Origin
    move = output_after id stays

    abbrev seen : Origin → Bool
    seen = outside args before here after results part.closed part.unique gone move unread

    move_port : (n p : ℕ) → (q : ℕ) × (move (Out n p) ≡ Out n q)
    move_port n p = by (id == n)
      where
        by : (t : Bool) → (q : ℕ) × (cond t (Out n (place_after stays p)) (Out n p) ≡ Out n q)
        by true = (place_after stays p, refl)
        by false = (p, refl)

    can_loop : CanPlace args before here after results seen move
    can_loop =
        can_place args before here after results part.closed part.unique gone move unread (λ k. refl) move_port (λ n p h. ap (λ t. cond t (Out n (place_after stays p)) (Out n p)) (test-other id n h))

    outputs_less : (xs ys : List Datum) (o q : Outputs) → Paired IsLessDefinedDatum xs ys → OutputsRefine IsLessDefinedDatum o q → (us vs : List Datum) → StayLess us vs →
        ReadLessDefined seen [] move xs ys (extended o id us) (extended q id vs)
    outputs_less xs ys o q near like us vs less (Arg k) h = paired-at IsLessDefinedDatum less-kept xs ys near k
    outputs_less xs ys o q near like us vs less (Out n p) (inr h) = absurd h
    outputs_less xs ys o q near like us vs less (Out n p) (inl t) = by (id == n) refl (outside_stays args before here after results part.closed part.unique gone move unread n p t)
      where
        by : (s : Bool) → (id == n) ≡ s → (s && not (stays_at stays p)) ≡ false →
            IsLessDefinedDatum (cond s (at_port us p) (o n p)) (read ys (extended q id vs) (cond s (Out n (place_after stays p)) (Out n p)))
        by true e k =
            let same : extended q id vs n (place_after stays p) ≡ at_port vs (place_after stays p) = ap (λ s. cond s (at_port vs (place_after stays p)) (q n (place_after stays p))) e in
            subst (λ z. IsLessDefinedDatum (at_port us p) z) (sym same) (less p (is_not (stays_at stays p) k))
        by false e k =
            let same : extended q id vs n p ≡ q n p = ap (λ s. cond s (at_port vs p) (q n p)) e in
            subst (λ z. IsLessDefinedDatum (o n p) z) (sym same) (like n p)

    looping_refines : (direction : Direction) (c d : Context) → ContextRefines no_deeper direction IsLessDefinedDatum c d → (xs ys : List Datum) (o q : Outputs) → Paired IsLessDefinedDatum xs ys →
        OutputsRefine IsLessDefinedDatum o q →
        Refines no_deeper direction (ReadLessDefined seen [] move xs ys) (nodes_run c (node_then here no_nodes) xs o) (nodes_run d (node_then (node_looping stays here) no_nodes) ys q)
    looping_refines direction c d context xs ys o q near like =
        let first : StayLess (map (read xs o) inputs) (map (read ys q) (kept stays inputs)) =
        subst (λ vs. StayLess (map (read xs o) inputs) vs) (sym (kept_map stays (read ys q) inputs))
        (kept_less (map (read xs o) inputs) (map (read ys q) inputs) (reads-refines IsLessDefinedDatum less-kept xs ys near o q like inputs)) in
        refines-then no_deeper no_deeper-compares.goes StayLess (ReadLessDefined seen [] move xs ys) direction
        (turns c.bound (region_meaning c (region own nodes outs)) (map (read xs o) inputs))
        (turns d.bound (region_meaning d (region_looping stays (region own nodes outs))) (map (read ys q) (kept stays inputs)))
        (λ us. Returned (extended o id us) []) (λ vs. Returned (extended q id vs) [])
        (loop_refines direction c d context own nodes outs
        (regions-closed l args before id Theta inputs (region_then (region own nodes outs) no_regions) after results part).0 loops (map (read xs o) inputs) (map (read ys q) (kept stays inputs)) first)
        (λ us vs less. (outputs_less xs ys o q near like us vs less, no_deeper-compares.goes.nothing))

    looping_is : region args (joined_nodes before (node_then (node_looping stays here) (nodes_redirected move after))) (map move results) ≡ variables_kept id stays whole
    looping_is =
        ap (λ ns. region args ns (map move results))
        (sym (looping_joined id before here after (not_before (length l.objects) args before here after (node-here l args before here after results part)) (same_number_true id)))

    pub variables_replace : (ls ks : List PlainLambda) → Replaces ls ks whole (variables_kept id stays whole)
    variables_replace ls ks =
        record {
          at = λ direction global. record {
            at = λ c d context linked.
                subst (λ r. MeaningRefines no_deeper direction IsLessDefinedDatum (region_meaning c whole) (region_meaning d r)) looping_is
                (placed_parts_refine direction c d context args before here after results (node_then (node_looping stays here) no_nodes) seen move can_loop
                (λ xs ys o q near like have. looping_refines direction c d context xs ys o q near like));
          };
        }

pub unread_variables_go : UnreadVariablesGo
unread_variables_go ls ks l args before id inputs (region own nodes outs) after results stays part loops unread =
    variables_replace stays l args before id inputs own nodes outs after results part loops unread ls ks
