-- Exit variables of a Gamma that nothing reads go.
use Rattle.std.proofs.Common.{◌≡◌, ◌≢◌, ℕ, zero, suc, ◌==◌, Bool, true, false, not, ◌&&◌, cond, List, [], ◌∷◌, map, length, refl, sym, ap, subst, subst₂, ◌∙◌, inl, inr}
use Rattle.std.proofs.Math.Path.{fun_ext}
use Rattle.std.proofs.lemmas.Bool.{or_parts}
use Rattle.val_core.specs.declared.values.Value.{Value}
use Rattle.val_core.specs.declared.values.Value.TheVariants.{Num, At, Bad}
use Rattle.val_core.specs.Answers.{Answer, Returned, then_on, on_number}
use Rattle.val_core.specs.Refinement.{Direction, Refines, no_deeper}
use Rattle.val_core.proofs.lemmas.Answers.{then_associates, then_nothing}
use Rattle.val_core.proofs.lemmas.Refinement.{refines-then}
use Rattle.g_graph.specs.declared.op.Kind.{Kind}
use Rattle.g_graph.specs.declared.op.Op.TheVariants.{Gamma}
use Rattle.g_graph.specs.declared.op.Origin.{Origin}
use Rattle.g_graph.specs.declared.op.Origin.TheVariants.{Arg, Out}
use Rattle.g_graph.specs.Plain.{RegionTree, region, NodeTree, node, NodeTrees, no_nodes, node_then, RegionTrees, no_regions, region_then, id_of, PlainLambda}
use Rattle.g_graph.specs.Change.{has_node}
use Rattle.g_graph.specs.Replace.{nodes_redirected}
use Rattle.g_graph.specs.Splice.{joined_nodes}
use Rattle.g_graph.proofs.lemmas.Indexes.{same_number_true}
use Rattle.g_mean.specs.Data.{Datum, at_port, value_of}
use Rattle.g_mean.specs.Meaning.{Context, chosen, branched, Outputs, no_outputs, extended, read, region_meaning, node_run, nodes_run, meanings}
use Rattle.g_mean.specs.LessDefined.{Paired, IsLessDefinedDatum}
use Rattle.g_mean.specs.Refining.{ContextRefines}
use Rattle.g_mean.specs.Moves.{ReadLessDefined}
use Rattle.g_mean.specs.Edits.{IsPartOf}
use Rattle.g_mean.specs.Replacement.{Replaces}
use Rattle.g_mean.proofs.lemmas.Kept.{OutputsRefine, paired-at}
use Rattle.g_mean.proofs.lemmas.Regions.{node-refines}
use Rattle.g_mean.proofs.lemmas.Equal.{no_deeper-compares}
use Rattle.g_mean.proofs.lemmas.LessDefined.{less-kept}
use Rattle.g_mean.proofs.lemmas.Calls.{nodes-itself}
use Rattle.g_mean.proofs.lemmas.Bounds.{Never, Always, never-refines}
use Rattle.g_mean.proofs.lemmas.Copies.{test-other}
use Rattle.g_mean.proofs.lemmas.Inside.{node-here}
use Rattle.r_edit.specs.Uses.{is_read}
use Rattle.r_edit.specs.Places.{stays_at, kept, place_after}
use Rattle.r_edit.specs.Exits.{regions_giving, node_giving, output_after, is_gone_output, nodes_giving, exits_kept}
use Rattle.r_edit.specs.Parts.{CanPlace}
use Rattle.r_edit.specs.Laws.{UnreadExitsGo}
use Rattle.r_edit.proofs.lemmas.Kept.{kept_map, is_not}
use Rattle.r_edit.proofs.lemmas.Parts.{placed_parts_refine}
use Rattle.r_edit.proofs.lemmas.Placed.{not_before, outside, outside_stays, can_place}

-- ---- lists

pub kept_port : (stays : List Bool) (xs : List Datum) (k : ℕ) → stays_at stays k ≡ true → at_port (kept stays xs) (place_after stays k) ≡ at_port xs k
kept_port stays [] k e = refl
kept_port [] (x ∷ xs) k e = refl
kept_port (true ∷ ts) (x ∷ xs) zero e = refl
kept_port (true ∷ ts) (x ∷ xs) (suc k) e = kept_port ts xs k e
kept_port (false ∷ ts) (x ∷ xs) zero e = absurd cc
kept_port (false ∷ ts) (x ∷ xs) (suc k) e = kept_port ts xs k e

pub paired_kept : (N : Datum → Datum → Type 0) (stays : List Bool) (us vs : List Datum) → Paired N us vs → Paired N (kept stays us) (kept stays vs)
paired_kept N stays [] [] h = tt
paired_kept N [] (u ∷ us) (v ∷ vs) h = h
paired_kept N (true ∷ ts) (u ∷ us) (v ∷ vs) h = (h.0, paired_kept N ts us vs h.1)
paired_kept N (false ∷ ts) (u ∷ us) (v ∷ vs) h = paired_kept N ts us vs h.1
paired_kept N stays [] (v ∷ vs) h = absurd h
paired_kept N stays (u ∷ us) [] h = absurd h

-- ---- a node that gives what stays

module _ (stays : List Bool) where
  abbrev pub drops : List Datum → Answer (List Datum)
  drops us = Returned (kept stays us) []

  region_gives : (c : Context) (args : List Kind) (nodes : NodeTrees) (results : List Origin) (us : List Datum) →
      region_meaning c (region args nodes (kept stays results)) us ≡ then_on (region_meaning c (region args nodes results) us) drops
  region_gives c args nodes results us =
      ap (then_on (nodes_run c nodes us no_outputs)) (fun_ext (λ o. ap (λ vs. Returned vs []) (kept_map stays (read us o) results)))
      ∙ sym (then_associates (nodes_run c nodes us no_outputs) (λ o. Returned (map (read us o) results) []) drops)

  chosen_gives : (c : Context) (w : ℕ) (rs : RegionTrees) (us : List Datum) → chosen w (meanings c (regions_giving stays rs)) us ≡ then_on (chosen w (meanings c rs) us) drops
  chosen_gives c w no_regions us = refl
  chosen_gives c w (region_then (region args nodes results) no_regions) us = region_gives c args nodes results us
  chosen_gives c zero (region_then (region args nodes results) (region_then (region args' nodes' results') rs)) us = region_gives c args nodes results us
  chosen_gives c (suc w) (region_then (region args nodes results) (region_then (region args' nodes' results') rs)) us =
      chosen_gives c w (region_then (region args' nodes' results') rs) us

  pub branched_gives : (c : Context) (rs : RegionTrees) (us : List Datum) → branched (meanings c (regions_giving stays rs)) us ≡ then_on (branched (meanings c rs) us) drops
  branched_gives c rs [] = refl
  branched_gives c rs (p ∷ us) = by (value_of p)
    where
      by : (v : Value) → on_number v (λ w. chosen w (meanings c (regions_giving stays rs)) us) ≡ then_on (on_number v (λ w. chosen w (meanings c rs) us)) drops
      by (Num w) = chosen_gives c w rs us
      by (At b o) = refl
      by Bad = refl

  -- ---- the region

  pub giving_joined : (n : ℕ) (before : NodeTrees) (x : NodeTree) (after : NodeTrees) → has_node n before ≡ false → (id_of x == n) ≡ true →
      nodes_giving n stays (joined_nodes before (node_then x after)) ≡ joined_nodes before (node_then (node_giving stays x) (nodes_redirected (output_after n stays) after))
  giving_joined n no_nodes x after b e = rw e
  giving_joined n (node_then y before) x after b e =
      let both = or_parts (id_of y == n) (has_node n before) b in
      rw both.0 (ap (node_then y) (giving_joined n before x after both.1 e))

  module _ (l : PlainLambda) (args : List Kind) (before : NodeTrees) (id : ℕ) (inputs : List Origin) (rs : RegionTrees) (after : NodeTrees) (results : List Origin)
      (part : IsPartOf l (region args (joined_nodes before (node_then (node id Gamma inputs rs) after)) results))
      (unread : is_read (is_gone_output id stays) (region args (joined_nodes before (node_then (node id Gamma inputs rs) after)) results) ≡ false) where
    abbrev here : NodeTree
    here = node id Gamma inputs rs

    abbrev whole : RegionTree
    whole = region args (joined_nodes before (node_then here after)) results

    abbrev gone : Origin → Bool
    gone = is_gone_output id stays

    abbrev move : Origin → Origin
    move = output_after id stays

    abbrev seen : Origin → Bool
    seen = outside args before here after results part.closed part.unique gone move unread

    move_port : (n p : ℕ) → (q : ℕ) × (move (Out n p) ≡ Out n q)
    move_port n p = by (id == n)
      where
        by : (t : Bool) → (q : ℕ) × (cond t (Out n (place_after stays p)) (Out n p) ≡ Out n q)
        by true = (place_after stays p, refl)
        by false = (p, refl)

    move_other : (n p : ℕ) → id ≢ n → move (Out n p) ≡ Out n p
    move_other n p h = ap (λ t. cond t (Out n (place_after stays p)) (Out n p)) (test-other id n h)

    can_give : CanPlace args before here after results seen move
    can_give = can_place args before here after results part.closed part.unique gone move unread (λ k. refl) move_port move_other

    -- what the node gives is at its new place
    less : (xs ys : List Datum) (o q : Outputs) → Paired IsLessDefinedDatum xs ys → OutputsRefine IsLessDefinedDatum o q → (us vs : List Datum) → Paired IsLessDefinedDatum (kept stays us) vs →
        ReadLessDefined seen [] move xs ys (extended o id us) (extended q id vs)
    less xs ys o q near like us vs pairs (Arg k) h = paired-at IsLessDefinedDatum less-kept xs ys near k
    less xs ys o q near like us vs pairs (Out n p) (inr h) = absurd h
    less xs ys o q near like us vs pairs (Out n p) (inl t) = by (id == n) refl (outside_stays args before here after results part.closed part.unique gone move unread n p t)
      where
        by : (s : Bool) → (id == n) ≡ s → (s && not (stays_at stays p)) ≡ false →
            IsLessDefinedDatum (cond s (at_port us p) (o n p)) (read ys (extended q id vs) (cond s (Out n (place_after stays p)) (Out n p)))
        by true e k =
            let same : extended q id vs n (place_after stays p) ≡ at_port vs (place_after stays p) = ap (λ s. cond s (at_port vs (place_after stays p)) (q n (place_after stays p))) e in
            subst (λ z. IsLessDefinedDatum (at_port us p) z) (sym same)
            (subst (λ z. IsLessDefinedDatum z (at_port vs (place_after stays p))) (kept_port stays us p (is_not (stays_at stays p) k))
            (paired-at IsLessDefinedDatum less-kept (kept stays us) vs pairs (place_after stays p)))
        by false e k =
            let same : extended q id vs n p ≡ q n p = ap (λ s. cond s (at_port vs p) (q n p)) e in
            subst (λ z. IsLessDefinedDatum (o n p) z) (sym same) (like n p)

    -- a node of the same number that gives what stays
    module _ (y : NodeTree) (number : id_of y ≡ id)
        (refines : (direction : Direction) (c d : Context) → ContextRefines no_deeper direction IsLessDefinedDatum c d → (xs ys : List Datum) (o q : Outputs) → Paired IsLessDefinedDatum xs ys →
        OutputsRefine IsLessDefinedDatum o q → Refines no_deeper direction (λ us vs. Paired IsLessDefinedDatum (kept stays us) vs) (node_run c here xs o) (node_run d y ys q)) where
      part_refines : (direction : Direction) (c d : Context) → ContextRefines no_deeper direction IsLessDefinedDatum c d → (xs ys : List Datum) (o q : Outputs) → Paired IsLessDefinedDatum xs ys →
          OutputsRefine IsLessDefinedDatum o q → Refines no_deeper direction (ReadLessDefined seen [] move xs ys) (nodes_run c (node_then here no_nodes) xs o) (nodes_run d (node_then y no_nodes) ys q)
      part_refines direction c d context xs ys o q near like =
          refines-then no_deeper no_deeper-compares.goes (λ us vs. Paired IsLessDefinedDatum (kept stays us) vs) (ReadLessDefined seen [] move xs ys) direction (node_run c here xs o)
          (node_run d y ys q)
          (λ us. Returned (extended o id us) []) (λ vs. Returned (extended q (id_of y) vs) []) (refines direction c d context xs ys o q near like)
          (λ us vs pairs. (subst (λ n. ReadLessDefined seen [] move xs ys (extended o id us) (extended q n vs)) (sym number) (less xs ys o q near like us vs pairs), no_deeper-compares.goes.nothing))

      pub placed_replace : (ls ks : List PlainLambda) → Replaces ls ks whole (region args (joined_nodes before (node_then y (nodes_redirected move after))) (map move results))
      placed_replace ls ks =
          record {
            at = λ direction global. record {
              at = λ c d context linked.
                  placed_parts_refine direction c d context args before here after results (node_then y no_nodes) seen move can_give
                  (λ xs ys o q near like have. part_refines direction c d context xs ys o q near like);
            };
          }

    giving_refines : (direction : Direction) (c d : Context) → ContextRefines no_deeper direction IsLessDefinedDatum c d → (xs ys : List Datum) (o q : Outputs) → Paired IsLessDefinedDatum xs ys →
        OutputsRefine IsLessDefinedDatum o q →
        Refines no_deeper direction (λ us vs. Paired IsLessDefinedDatum (kept stays us) vs) (node_run c here xs o) (node_run d (node_giving stays here) ys q)
    giving_refines direction c d context xs ys o q near like =
        subst₂ (λ a b. Refines no_deeper direction (λ us vs. Paired IsLessDefinedDatum (kept stays us) vs) a b) (then_nothing (node_run c here xs o))
        (sym (branched_gives d rs (map (read ys q) inputs)))
        (refines-then no_deeper no_deeper-compares.goes (Paired IsLessDefinedDatum) (λ us vs. Paired IsLessDefinedDatum (kept stays us) vs) direction (node_run c here xs o) (node_run d here ys q)
        (λ us. Returned us []) drops
        (node-refines no_deeper no_deeper-compares direction IsLessDefinedDatum less-kept Never Always
        (never-refines no_deeper no_deeper-compares direction IsLessDefinedDatum less-kept) c d context tt here here (nodes-itself Never (node_then here no_nodes)).0 xs ys near o q like)
        (λ us vs pairs. (paired_kept IsLessDefinedDatum stays us vs pairs, no_deeper-compares.goes.nothing)))

    giving_is : region args (joined_nodes before (node_then (node_giving stays here) (nodes_redirected move after))) (map move results) ≡ exits_kept id stays whole
    giving_is =
        ap (λ ns. region args ns (map move results))
        (sym (giving_joined id before here after (not_before (length l.objects) args before here after (node-here l args before here after results part)) (same_number_true id)))

    pub exits_replace : (ls ks : List PlainLambda) → Replaces ls ks whole (exits_kept id stays whole)
    exits_replace ls ks = subst (λ r. Replaces ls ks whole r) giving_is (placed_replace (node_giving stays here) refl giving_refines ls ks)

pub unread_exits_go : UnreadExitsGo
unread_exits_go ls ks l args before id inputs rs after results stays part unread = exits_replace stays l args before id inputs rs after results part unread ls ks
