-- Exit variables of a Gamma that carry one origin in every region go.
use Rattle.std.proofs.Common.{◌≡◌, ◌≢◌, ℕ, zero, suc, ◌==◌, Bool, true, false, ◌&&◌, cond, List, [], ◌∷◌, map, length, Option, None, Some, slice_get, refl, sym, ap, subst, subst₂, ◌∙◌, inl, inr}
use Rattle.std.specs.Prelude.{option_and_then, unwrap_or}
use Rattle.std.proofs.Math.Path.{fun_ext}
use Rattle.std.proofs.lemmas.Bool.{and_parts, or_parts}
use Rattle.std.proofs.lemmas.Option.{same_Some}
use Rattle.val_core.specs.declared.values.Value.{Value}
use Rattle.val_core.specs.declared.values.Value.TheVariants.{Num, At, Bad}
use Rattle.val_core.specs.Events.{Event}
use Rattle.val_core.specs.Answers.{Answer, Returned, Cut, Exited, Undefined, Gives, on_number}
use Rattle.val_core.specs.Refinement.{Direction, Refines, no_deeper}
use Rattle.val_core.proofs.lemmas.Answers.{then_nothing}
use Rattle.val_core.proofs.lemmas.Refinement.{refines-then, refines-gives}
use Rattle.g_graph.specs.declared.op.Kind.{Kind}
use Rattle.g_graph.specs.declared.op.Op.TheVariants.{Gamma, Theta}
use Rattle.g_graph.specs.declared.op.Origin.{Origin}
use Rattle.g_graph.specs.declared.op.Origin.TheVariants.{Arg, Out}
use Rattle.g_graph.specs.Plain.{RegionTree, region, NodeTree, node, NodeTrees, no_nodes, node_then, RegionTrees, no_regions, region_then, id_of, PlainLambda}
use Rattle.g_graph.specs.Signatures.{joined}
use Rattle.g_graph.specs.WellFormed.{is_origin}
use Rattle.g_graph.specs.Change.{has_node}
use Rattle.g_graph.specs.Replace.{nodes_redirected}
use Rattle.g_graph.specs.Splice.{joined_nodes}
use Rattle.g_graph.proofs.lemmas.Indexes.{same_number_true, is_origin_some}
use Rattle.g_mean.specs.Data.{Datum, at_port, value_of}
use Rattle.g_mean.specs.Meaning.{Context, chosen, branched, Outputs, no_outputs, extended, read, region_meaning, node_run, nodes_run, meanings}
use Rattle.g_mean.specs.LessDefined.{Paired, IsLessDefinedDatum}
use Rattle.g_mean.specs.Refining.{ContextRefines}
use Rattle.g_mean.specs.Copies.{IsRead, known_after, is_argument}
use Rattle.g_mean.specs.Moves.{ReadLessDefined}
use Rattle.g_mean.specs.Splices.{CanRedirect}
use Rattle.g_mean.specs.Edits.{IsPartOf}
use Rattle.g_mean.specs.Replacement.{Replaces}
use Rattle.g_mean.proofs.lemmas.Kept.{OutputsRefine, paired-at, read-refines}
use Rattle.g_mean.proofs.lemmas.Regions.{node-refines}
use Rattle.g_mean.proofs.lemmas.Equal.{no_deeper-compares}
use Rattle.g_mean.proofs.lemmas.LessDefined.{less-kept}
use Rattle.g_mean.proofs.lemmas.Calls.{nodes-itself}
use Rattle.g_mean.proofs.lemmas.Bounds.{Never, Always, never-refines}
use Rattle.g_mean.proofs.lemmas.Copies.{test-other}
use Rattle.g_mean.proofs.lemmas.Holds.{was-given}
use Rattle.g_mean.proofs.lemmas.Inside.{node-here, inputs-read}
use Rattle.g_mean.proofs.lemmas.Splices.{get-port, get-read}
use Rattle.r_edit.specs.Places.{stays_at, kept, place_after}
use Rattle.r_edit.specs.Exits.{node_giving}
use Rattle.r_edit.specs.Carried.{outer, all_pass, passed, output_carried, staying, nodes_carrying, exits_carried, CarriedExitsGo, CarriedUsesMove}
use Rattle.r_edit.specs.InPlace.{redirected_after, outputs_redirected}
use Rattle.r_edit.proofs.lemmas.Exits.{kept_port, paired_kept, branched_gives, drops}
use Rattle.r_edit.proofs.lemmas.Invariant.{given_is, loops_keep_arguments}
use Rattle.r_edit.proofs.lemmas.Kept.{kept_none}
use Rattle.r_edit.proofs.lemmas.Parts.{placed_parts_refine}
use Rattle.r_edit.proofs.lemmas.Placed.{not_before}
use Rattle.r_edit.proofs.lemmas.Redirected.{outside, known_other, can_place_redirected}

-- ---- what is carried

pub record Outer (inputs : List Origin) (r : Option Origin) (o : Origin) : Type 0 where
  pub argument : ℕ
  pub result : r ≡ Some (Arg argument)
  pub input : slice_get inputs (suc argument) ≡ Some o

pub outer_is : (inputs : List Origin) (r : Option Origin) (o : Origin) → outer inputs r ≡ Some o → Outer inputs r o
outer_is inputs None o e = absurd cc
outer_is inputs (Some (Arg k)) o e = record { argument = k; result = refl; input = e }
outer_is inputs (Some (Out n p)) o e = absurd cc

pub record Passed (inputs : List Origin) (p : ℕ) (args : List Kind) (nodes : NodeTrees) (results : List Origin) (rs : RegionTrees) (o : Origin) : Type 0 where
  pub first : Outer inputs (slice_get results p) o
  pub others : all_pass inputs o p rs ≡ true

pub passed_is : (inputs : List Origin) (p : ℕ) (args : List Kind) (nodes : NodeTrees) (results : List Origin) (rs : RegionTrees) (o : Origin) →
    passed inputs p (region_then (region args nodes results) rs) ≡ Some o → Passed inputs p args nodes results rs o
passed_is inputs p args nodes results rs o e = by (outer inputs (slice_get results p)) refl e
  where
    by_test : (a : Origin) (t : Bool) → outer inputs (slice_get results p) ≡ Some a → all_pass inputs a p rs ≡ t → cond t (Some a) None ≡ Some o → Passed inputs p args nodes results rs o
    by_test a true q h d =
        let same : a ≡ o = same_Some a o d in
        record { first = outer_is inputs (slice_get results p) o (q ∙ ap Some same); others = ap (λ z. all_pass inputs z p rs) (sym same) ∙ h }
    by_test a false q h d = absurd cc

    by : (x : Option Origin) → outer inputs (slice_get results p) ≡ x → option_and_then (λ a. cond (all_pass inputs a p rs) (Some a) None) x ≡ Some o → Passed inputs p args nodes results rs o
    by None q d = absurd cc
    by (Some a) q d = by_test a (all_pass inputs a p rs) q refl d

passed_input : (inputs : List Origin) (p : ℕ) (rs : RegionTrees) (o : Origin) → passed inputs p rs ≡ Some o → (k : ℕ) × (slice_get inputs (suc k) ≡ Some o)
passed_input inputs p no_regions o e = absurd cc
passed_input inputs p (region_then (region args nodes results) rs) o e =
    let at = passed_is inputs p args nodes results rs o e in
    (at.first.argument, at.first.input)

pub passed_all : (inputs : List Origin) (p : ℕ) (rs : RegionTrees) (o : Origin) → passed inputs p rs ≡ Some o → all_pass inputs o p rs ≡ true
passed_all inputs p no_regions o e = refl
passed_all inputs p (region_then (region args nodes results) rs) o e =
    let at = passed_is inputs p args nodes results rs o e in
    let own : outer inputs (slice_get results p) ≡ Some o = ap (outer inputs) at.first.result ∙ at.first.input in
    λ i. (ap (λ z. is_origin z o) own ∙ itself o) i && at.others i
  where
    itself : (a : Origin) → is_origin (Some a) a ≡ true
    itself (Arg k) = same_number_true k
    itself (Out n q) = λ i. same_number_true n i && same_number_true q i

-- what a region gives of an argument
region_passes : (c : Context) (args : List Kind) (nodes : NodeTrees) (results : List Origin) (us vs : List Datum) (did : List Event) (p k : ℕ) → slice_get results p ≡ Some (Arg k) →
    region_meaning c (region args nodes results) us ≡ Returned vs did → at_port vs p ≡ at_port us k
region_passes c args nodes results us vs did p k r e =
    let ran = was-given (nodes_run c nodes us no_outputs) (λ o. Returned (map (read us o) results) []) vs did e in
    let given = given_is (map (read us ran.first) results) vs [] ran.rest ran.follows in
    ap (λ zs. at_port zs p) (sym given) ∙ get-port (read us ran.first) results p (Arg k) r

module _ (c : Context) (predicate : Origin) (entries : List Origin) (f : Origin → Datum) (o : Origin) (p : ℕ) where
  one_passes : (args : List Kind) (nodes : NodeTrees) (results : List Origin) (vs : List Datum) (did : List Event) → is_origin (outer (predicate ∷ entries) (slice_get results p)) o ≡ true →
      region_meaning c (region args nodes results) (map f entries) ≡ Returned vs did → at_port vs p ≡ f o
  one_passes args nodes results vs did e d =
      let at = outer_is (predicate ∷ entries) (slice_get results p) o (is_origin_some (outer (predicate ∷ entries) (slice_get results p)) o e) in
      region_passes c args nodes results (map f entries) vs did p at.argument at.result d ∙ get-port f entries at.argument o at.input

  chosen_passes : (w : ℕ) (rs : RegionTrees) (vs : List Datum) (did : List Event) → all_pass (predicate ∷ entries) o p rs ≡ true →
      chosen w (meanings c rs) (map f entries) ≡ Returned vs did → at_port vs p ≡ f o
  chosen_passes w no_regions vs did e d = absurd cc
  chosen_passes w (region_then (region args nodes results) no_regions) vs did e d =
      one_passes args nodes results vs did (and_parts (is_origin (outer (predicate ∷ entries) (slice_get results p)) o) true e).0 d
  chosen_passes zero (region_then (region args nodes results) (region_then r rs)) vs did e d =
      one_passes args nodes results vs did (and_parts (is_origin (outer (predicate ∷ entries) (slice_get results p)) o) (all_pass (predicate ∷ entries) o p (region_then r rs)) e).0 d
  chosen_passes (suc w) (region_then (region args nodes results) (region_then r rs)) vs did e d =
      chosen_passes w (region_then r rs) vs did (and_parts (is_origin (outer (predicate ∷ entries) (slice_get results p)) o) (all_pass (predicate ∷ entries) o p (region_then r rs)) e).1 d

gamma_passes : (c : Context) (inputs : List Origin) (rs : RegionTrees) (f : Origin → Datum) (o : Origin) (p : ℕ) (vs : List Datum) (did : List Event) → all_pass inputs o p rs ≡ true →
    branched (meanings c rs) (map f inputs) ≡ Returned vs did → at_port vs p ≡ f o
gamma_passes c [] rs f o p vs did e d = absurd cc
gamma_passes c (predicate ∷ entries) rs f o p vs did e d = by (value_of (f predicate)) d
  where
    by : (v : Value) → on_number v (λ w. chosen w (meanings c rs) (map f entries)) ≡ Returned vs did → at_port vs p ≡ f o
    by (Num w) h = chosen_passes c predicate entries f o p w rs vs did e h
    by (At b k) h = absurd cc
    by Bad h = absurd cc

-- ---- lists

pub stays_none : (cs : List (Option Origin)) (p : ℕ) → joined (slice_get cs p) ≡ None → stays_at (staying cs) p ≡ true
stays_none [] p e = refl
stays_none (None ∷ cs) zero e = refl
stays_none (Some o ∷ cs) zero e = absurd cc
stays_none (c ∷ cs) (suc p) e = stays_none cs p e

-- ---- the region

pub carrying_joined : (n : ℕ) (cs : List (Option Origin)) (before : NodeTrees) (x : NodeTree) (after : NodeTrees) → has_node n before ≡ false → (id_of x == n) ≡ true →
    nodes_carrying n cs (joined_nodes before (node_then x after)) ≡ joined_nodes before (node_then (node_giving (staying cs) x) (nodes_redirected (output_carried n cs (staying cs)) after))
carrying_joined n cs no_nodes x after b e = rw e
carrying_joined n cs (node_then y before) x after b e =
    let both = or_parts (id_of y == n) (has_node n before) b in
    rw both.0 (ap (node_then y) (carrying_joined n cs before x after both.1 e))

-- Of another node of the same number the outputs for which the test is true are those of the node that carry nothing.
module _ (l : PlainLambda) (args : List Kind) (before : NodeTrees) (here y : NodeTree) (after : NodeTrees) (results : List Origin) (cs : List (Option Origin)) (stays : List Bool)
    (part : IsPartOf l (region args (joined_nodes before (node_then here after)) results)) (number : id_of y ≡ id_of here) (stay : (p : ℕ) → joined (slice_get cs p) ≡ None → stays_at stays p ≡ true)
    (outer_read : (p : ℕ) (o : Origin) → joined (slice_get cs p) ≡ Some o → IsRead (is_argument (length args)) (known_after [] before) o) where
  abbrev id : ℕ
  id = id_of here

  abbrev whole : RegionTree
  whole = region args (joined_nodes before (node_then here after)) results

  abbrev move : Origin → Origin
  move = output_carried id cs stays

  move_own : (p : ℕ) → move (Out id p) ≡ unwrap_or (joined (slice_get cs p)) (Out id (place_after stays p))
  move_own p = ap (λ t. cond t (unwrap_or (joined (slice_get cs p)) (Out id (place_after stays p))) (Out id p)) (same_number_true id)

  move_other : (n p : ℕ) → id ≢ n → move (Out n p) ≡ Out n p
  move_other n p h = ap (λ t. cond t (unwrap_or (joined (slice_get cs p)) (Out n (place_after stays p))) (Out n p)) (test-other id n h)

  own : (p : ℕ) → IsRead (is_argument (length args)) (id ∷ known_after [] before) (move (Out id p))
  own p = by (joined (slice_get cs p)) refl
    where
      more : (a : Origin) → IsRead (is_argument (length args)) (known_after [] before) a → IsRead (is_argument (length args)) (id ∷ known_after [] before) a
      more a (inl t) = inl t
      more (Arg k) (inr h) = absurd h
      more (Out n q) (inr h) = inr (inr h)

      by : (x : Option Origin) → joined (slice_get cs p) ≡ x → IsRead (is_argument (length args)) (id ∷ known_after [] before) (move (Out id p))
      by None e =
          subst (λ z. IsRead (is_argument (length args)) (id ∷ known_after [] before) z) (sym (move_own p ∙ ap (λ x. unwrap_or x (Out id (place_after stays p))) e)) (inr (inl refl))
      by (Some o) e =
          subst (λ z. IsRead (is_argument (length args)) (id ∷ known_after [] before) z) (sym (move_own p ∙ ap (λ x. unwrap_or x (Out id (place_after stays p))) e)) (more o (outer_read p o e))

  can : CanRedirect args before here after results move
  can = record { closed = part.closed; unique = part.unique; arguments = λ k. refl; others = λ n p h. move_other n p (λ e. h (sym e)); own = own }

  abbrev seen : Origin → Bool
  seen = outside args before here after results move can

  -- what the node gives where it carries something
  abbrev Post : (xs : List Datum) (o : Outputs) → List Datum → Type 0
  Post xs o us = (p : ℕ) (a : Origin) → joined (slice_get cs p) ≡ Some a → at_port us p ≡ read xs o a

  -- what is read afterwards is at its new place
  less : (xs ys : List Datum) (o q : Outputs) → Paired IsLessDefinedDatum xs ys → OutputsRefine IsLessDefinedDatum o q → (us vs : List Datum) → Post xs o us →
      Paired IsLessDefinedDatum (kept stays us) vs → ReadLessDefined seen [] move xs ys (extended o id us) (extended q id vs)
  less xs ys o q paired ordered us vs post pairs (Arg k) h = paired-at IsLessDefinedDatum less-kept xs ys paired k
  less xs ys o q paired ordered us vs post pairs (Out n p) (inr h) = absurd h
  less xs ys o q paired ordered us vs post pairs (Out n p) (inl t) = by (id == n) refl
    where
      -- an origin that is known before the node carries the same after it
      kept_outer : (a : Origin) → IsRead (is_argument (length args)) (known_after [] before) a → read ys (extended q id vs) a ≡ read ys q a
      kept_outer (Arg k) r = refl
      kept_outer (Out m j) (inl r) = absurd cc
      kept_outer (Out m j) (inr r) =
          ap (λ s. cond s (at_port vs j) (q m j)) (test-other id m (known_other args before here after results move can m r))

      by_carried : (id == n) ≡ true → (x : Option Origin) → joined (slice_get cs p) ≡ x → IsLessDefinedDatum (at_port us p) (read ys (extended q id vs) (unwrap_or x (Out n (place_after stays p))))
      by_carried e None w =
          let same : extended q id vs n (place_after stays p) ≡ at_port vs (place_after stays p) = ap (λ s. cond s (at_port vs (place_after stays p)) (q n (place_after stays p))) e in
          subst (λ z. IsLessDefinedDatum (at_port us p) z) (sym same)
          (subst (λ z. IsLessDefinedDatum z (at_port vs (place_after stays p))) (kept_port stays us p (stay p w))
          (paired-at IsLessDefinedDatum less-kept (kept stays us) vs pairs (place_after stays p)))
      by_carried e (Some a) w =
          subst₂ (λ y z. IsLessDefinedDatum y z) (sym (post p a w)) (sym (kept_outer a (outer_read p a w))) (read-refines IsLessDefinedDatum less-kept xs ys paired o q ordered a)

      by : (s : Bool) → (id == n) ≡ s →
          IsLessDefinedDatum (cond s (at_port us p) (o n p)) (read ys (extended q id vs) (cond s (unwrap_or (joined (slice_get cs p)) (Out n (place_after stays p))) (Out n p)))
      by true e = by_carried e (joined (slice_get cs p)) refl
      by false e =
          let same : extended q id vs n p ≡ q n p = ap (λ s. cond s (at_port vs p) (q n p)) e in
          subst (λ z. IsLessDefinedDatum (o n p) z) (sym same) (ordered n p)

  module _ (posts : (c : Context) (xs : List Datum) (o : Outputs) (a : Answer (List Datum)) → node_run c here xs o ≡ a → Gives (Post xs o) a)
      (refines : (direction : Direction) (c d : Context) → ContextRefines no_deeper direction IsLessDefinedDatum c d → (xs ys : List Datum) (o q : Outputs) → Paired IsLessDefinedDatum xs ys →
      OutputsRefine IsLessDefinedDatum o q → Refines no_deeper direction (λ us vs. Paired IsLessDefinedDatum (kept stays us) vs) (node_run c here xs o) (node_run d y ys q)) where
    part_refines : (direction : Direction) (c d : Context) → ContextRefines no_deeper direction IsLessDefinedDatum c d → (xs ys : List Datum) (o q : Outputs) → Paired IsLessDefinedDatum xs ys →
        OutputsRefine IsLessDefinedDatum o q → Refines no_deeper direction (ReadLessDefined seen [] move xs ys) (nodes_run c (node_then here no_nodes) xs o) (nodes_run d (node_then y no_nodes) ys q)
    part_refines direction c d context xs ys o q paired ordered =
        refines-then no_deeper no_deeper-compares.goes (λ us vs. Post xs o us × Paired IsLessDefinedDatum (kept stays us) vs) (ReadLessDefined seen [] move xs ys) direction (node_run c here xs o)
        (node_run d y ys q) (λ us. Returned (extended o id us) []) (λ vs. Returned (extended q (id_of y) vs) [])
        (refines-gives no_deeper direction (Post xs o) (λ us vs. Paired IsLessDefinedDatum (kept stays us) vs) (node_run c here xs o) (node_run d y ys q)
        (posts c xs o (node_run c here xs o) refl) (refines direction c d context xs ys o q paired ordered))
        (λ us vs h.
        (subst (λ n. ReadLessDefined seen [] move xs ys (extended o id us) (extended q n vs)) (sym number) (less xs ys o q paired ordered us vs h.0 h.1), no_deeper-compares.goes.nothing))

    pub carried_replace : (ls ks : List PlainLambda) → Replaces ls ks whole (region args (joined_nodes before (node_then y (nodes_redirected move after))) (map move results))
    carried_replace ls ks =
        record {
          at = λ direction global. record {
            at = λ c d context linked.
                placed_parts_refine direction c d context args before here after results (node_then y no_nodes) seen move (can_place_redirected args before here after results move can)
                (λ xs ys o q paired ordered have. part_refines direction c d context xs ys o q paired ordered);
          };
        }

itself_refines : (x : NodeTree) (direction : Direction) (c d : Context) → ContextRefines no_deeper direction IsLessDefinedDatum c d → (xs ys : List Datum) (o q : Outputs) →
    Paired IsLessDefinedDatum xs ys →
    OutputsRefine IsLessDefinedDatum o q → Refines no_deeper direction (Paired IsLessDefinedDatum) (node_run c x xs o) (node_run d x ys q)
itself_refines x direction c d context xs ys o q paired ordered =
    node-refines no_deeper no_deeper-compares direction IsLessDefinedDatum less-kept Never Always
    (never-refines no_deeper no_deeper-compares direction IsLessDefinedDatum less-kept) c d context tt x x (nodes-itself Never (node_then x no_nodes)).0 xs ys paired o q ordered

-- ---- a Gamma

module _ (l : PlainLambda) (args : List Kind) (before : NodeTrees) (id : ℕ) (inputs : List Origin) (rs : RegionTrees) (after : NodeTrees) (results : List Origin) (cs : List (Option Origin))
    (part : IsPartOf l (region args (joined_nodes before (node_then (node id Gamma inputs rs) after)) results))
    (passes : (p : ℕ) (o : Origin) → joined (slice_get cs p) ≡ Some o → passed inputs p rs ≡ Some o) where
  abbrev gamma : NodeTree
  gamma = node id Gamma inputs rs

  outer_is_read : (p : ℕ) (o : Origin) → joined (slice_get cs p) ≡ Some o → IsRead (is_argument (length args)) (known_after [] before) o
  outer_is_read p o e =
      let at = passed_input inputs p rs o (passes p o e) in
      get-read (is_argument (length args)) (known_after [] before) inputs (inputs-read l args before id Gamma inputs rs after results part) (suc at.0) o at.1

  gamma_posts : (c : Context) (xs : List Datum) (o : Outputs) (a : Answer (List Datum)) → node_run c gamma xs o ≡ a →
      Gives (λ us. (p : ℕ) (z : Origin) → joined (slice_get cs p) ≡ Some z → at_port us p ≡ read xs o z) a
  gamma_posts c xs o (Returned us did) e = λ p a h. gamma_passes c inputs rs (read xs o) a p us did (passed_all inputs p rs a (passes p a h)) e
  gamma_posts c xs o (Cut q) e = tt
  gamma_posts c xs o (Exited q s) e = tt
  gamma_posts c xs o (Undefined q) e = tt

  giving_refines : (direction : Direction) (c d : Context) → ContextRefines no_deeper direction IsLessDefinedDatum c d → (xs ys : List Datum) (o q : Outputs) → Paired IsLessDefinedDatum xs ys →
      OutputsRefine IsLessDefinedDatum o q →
      Refines no_deeper direction (λ us vs. Paired IsLessDefinedDatum (kept (staying cs) us) vs) (node_run c gamma xs o) (node_run d (node_giving (staying cs) gamma) ys q)
  giving_refines direction c d context xs ys o q paired ordered =
      subst₂ (λ a b. Refines no_deeper direction (λ us vs. Paired IsLessDefinedDatum (kept (staying cs) us) vs) a b) (then_nothing (node_run c gamma xs o))
      (sym (branched_gives (staying cs) d rs (map (read ys q) inputs)))
      (refines-then no_deeper no_deeper-compares.goes (Paired IsLessDefinedDatum) (λ us vs. Paired IsLessDefinedDatum (kept (staying cs) us) vs) direction (node_run c gamma xs o)
      (node_run d gamma ys q) (λ us. Returned us []) (drops (staying cs)) (itself_refines gamma direction c d context xs ys o q paired ordered)
      (λ us vs pairs. (paired_kept IsLessDefinedDatum (staying cs) us vs pairs, no_deeper-compares.goes.nothing)))

  gamma_replace : (ls ks : List PlainLambda) →
      Replaces ls ks (region args (joined_nodes before (node_then gamma after)) results) (exits_carried id cs (region args (joined_nodes before (node_then gamma after)) results))
  gamma_replace ls ks =
      let none = not_before (length l.objects) args before gamma after (node-here l args before gamma after results part) in
      subst (λ ns. Replaces ls ks (region args (joined_nodes before (node_then gamma after)) results) (region args ns (map (output_carried id cs (staying cs)) results)))
      (sym (carrying_joined id cs before gamma after none (same_number_true id)))
      (carried_replace l args before gamma (node_giving (staying cs) gamma) after results cs (staying cs) part refl (stays_none cs) outer_is_read gamma_posts giving_refines ls ks)

pub carried_exits_go : CarriedExitsGo
carried_exits_go ls ks l args before id inputs rs after results cs part passes = gamma_replace l args before id inputs rs after results cs part passes ls ks

-- ---- a Theta

pub redirected_joined : (n : ℕ) (f : Origin → Origin) (before : NodeTrees) (x : NodeTree) (after : NodeTrees) → has_node n before ≡ false → (id_of x == n) ≡ true →
    redirected_after n f (joined_nodes before (node_then x after)) ≡ joined_nodes before (node_then x (nodes_redirected f after))
redirected_joined n f no_nodes x after b e = rw e
redirected_joined n f (node_then y before) x after b e =
    let both = or_parts (id_of y == n) (has_node n before) b in
    rw both.0 (ap (node_then y) (redirected_joined n f before x after both.1 e))

module _ (l : PlainLambda) (args : List Kind) (before : NodeTrees) (id : ℕ) (inputs : List Origin) (own_kinds : List Kind) (nodes : NodeTrees) (outs : List Origin) (after : NodeTrees)
    (results : List Origin) (cs : List (Option Origin))
    (part : IsPartOf l (region args (joined_nodes before (node_then (node id Theta inputs (region_then (region own_kinds nodes outs) no_regions)) after)) results))
    (passes : (p : ℕ) (o : Origin) → joined (slice_get cs p) ≡ Some o → (slice_get outs (suc p) ≡ Some (Arg p)) × (slice_get inputs p ≡ Some o)) where
  abbrev theta : NodeTree
  theta = node id Theta inputs (region_then (region own_kinds nodes outs) no_regions)

  input_is_read : (p : ℕ) (o : Origin) → joined (slice_get cs p) ≡ Some o → IsRead (is_argument (length args)) (known_after [] before) o
  input_is_read p o e =
      get-read (is_argument (length args)) (known_after [] before) inputs (inputs-read l args before id Theta inputs (region_then (region own_kinds nodes outs) no_regions) after results part) p o
      (passes p o e).1

  theta_posts : (c : Context) (xs : List Datum) (o : Outputs) (a : Answer (List Datum)) → node_run c theta xs o ≡ a →
      Gives (λ us. (p : ℕ) (z : Origin) → joined (slice_get cs p) ≡ Some z → at_port us p ≡ read xs o z) a
  theta_posts c xs o (Returned us did) e = λ p z h.
      loops_keep_arguments c.bound c own_kinds nodes outs (map (read xs o) inputs) us did p (passes p z h).0 e ∙ get-port (read xs o) inputs p z (passes p z h).1
  theta_posts c xs o (Cut q) e = tt
  theta_posts c xs o (Exited q s) e = tt
  theta_posts c xs o (Undefined q) e = tt

  theta_refines : (direction : Direction) (c d : Context) → ContextRefines no_deeper direction IsLessDefinedDatum c d → (xs ys : List Datum) (o q : Outputs) → Paired IsLessDefinedDatum xs ys →
      OutputsRefine IsLessDefinedDatum o q → Refines no_deeper direction (λ us vs. Paired IsLessDefinedDatum (kept [] us) vs) (node_run c theta xs o) (node_run d theta ys q)
  theta_refines direction c d context xs ys o q paired ordered =
      subst (λ (f : List Datum → List Datum). Refines no_deeper direction (λ us vs. Paired IsLessDefinedDatum (f us) vs) (node_run c theta xs o) (node_run d theta ys q))
      (fun_ext (λ us. sym (kept_none us)))
      (itself_refines theta direction c d context xs ys o q paired ordered)

  theta_replace : (ls ks : List PlainLambda) →
      Replaces ls ks (region args (joined_nodes before (node_then theta after)) results)
      (outputs_redirected id (output_carried id cs []) (region args (joined_nodes before (node_then theta after)) results))
  theta_replace ls ks =
      let none = not_before (length l.objects) args before theta after (node-here l args before theta after results part) in
      subst (λ ns. Replaces ls ks (region args (joined_nodes before (node_then theta after)) results) (region args ns (map (output_carried id cs []) results)))
      (sym (redirected_joined id (output_carried id cs []) before theta after none (same_number_true id)))
      (carried_replace l args before theta theta after results cs [] part refl (λ p e. refl) input_is_read theta_posts theta_refines ls ks)

pub carried_uses_move : CarriedUsesMove
carried_uses_move ls ks l args before id inputs own_kinds nodes outs after results cs part passes = theta_replace l args before id inputs own_kinds nodes outs after results cs part passes ls ks
