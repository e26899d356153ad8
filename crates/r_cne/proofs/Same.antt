-- A region after common node elimination means the same.
use Rattle.std.proofs.Common.{◌≡◌, ◌≢◌, ℕ, ◌==◌, ◌⊎◌, Bool, true, false, not, ◌&&◌, cond, List, [], ◌∷◌, ◌++◌, map, length, refl, sym, ap, ap₂, subst, ◌∙◌, inl, inr, append-nil, append_assoc}
use Rattle.val_core.specs.Events.{Event}
use Rattle.val_core.specs.Answers.{Answer, Returned, then_on}
use Rattle.val_core.proofs.lemmas.Answers.{then_associates, then_on_given}
use Rattle.g_graph.specs.declared.op.Kind.{Kind}
use Rattle.g_graph.specs.declared.op.Op.{Op}
use Rattle.g_graph.specs.declared.op.Origin.{Origin}
use Rattle.g_graph.specs.declared.op.Origin.TheVariants.{Arg, Out}
use Rattle.g_graph.specs.Plain.{region, NodeTree, node, NodeTrees, no_nodes, node_then, RegionTrees, PlainLambda}
use Rattle.g_graph.specs.Ids.{node_ids, nodes_ids}
use Rattle.g_graph.specs.Scope.{same_origin}
use Rattle.g_graph.specs.WellFormed.{some_of, distinct}
use Rattle.g_graph.specs.Replace.{nodes_redirected, region_redirected, origin_replaced}
use Rattle.g_graph.specs.Splice.{joined_nodes}
use Rattle.g_graph.proofs.lemmas.Moved.{same_origin_true}
use Rattle.g_graph.proofs.lemmas.Splices.{joined_assoc, nodes_ids-joined}
use Rattle.g_mean.specs.Data.{Datum, val, at_port}
use Rattle.g_mean.specs.Meaning.{Context, Outputs, no_outputs, read, region_meaning, nodes_run}
use Rattle.g_mean.specs.Copies.{IsAmong, IsRead, AreRead, NodesRead, known_after, is_argument, CanMove, Same, ReadSame}
use Rattle.g_mean.specs.Holds.{HaveRun}
use Rattle.g_mean.specs.Edits.{IsPartOf}
use Rattle.g_mean.proofs.lemmas.Copies.{Equals, among-right, test-other, reads-same, redirected-moved, same-then, same-equal, copied_nodes_mean_the_same}
use Rattle.g_mean.proofs.lemmas.Edits.{distinct-split}
use Rattle.g_mean.proofs.lemmas.Holds.{none-among, among-none, distinct-apart, holds-from}
use Rattle.g_mean.proofs.lemmas.Splices.{joined-run, joined-known, joined-read, joined-reads, known-among, all-wider, nodes-wider, known-split, all-among}
use Rattle.g_mean.proofs.lemmas.Redirects.{redirected-joined}
use Rattle.r_edit.proofs.lemmas.Lookup.{Among}
use Rattle.r_edit.proofs.lemmas.Uses.{replaced_is}
use Rattle.r_edit.proofs.lemmas.Meant.{has-run}
use Rattle.r_cne.specs.Rule.{is_common}
use Rattle.r_cne.specs.Laws.{CneMeansTheSame}
use Rattle.r_cne.proofs.Common.{ran_gives, given_results}
use Rattle.r_cne.proofs.Cne.{known_node, changed_at}

module _ (l : PlainLambda) (args : List Kind) (before : NodeTrees) (id : ℕ) (op : Op) (inputs : List Origin) (rs : RegionTrees) (after : NodeTrees) (results : List Origin) (m : ℕ)
    (common : is_common op ≡ true) (among : Among op inputs m before)
    (part : IsPartOf l (region args (joined_nodes before (node_then (node id op inputs rs) after)) results)) where
  abbrev here : NodeTree
  here = node id op inputs rs

  abbrev move : Origin → Origin
  move = origin_replaced (Out id 0) (Out m 0)

  abbrev arg : Origin → Bool
  arg = is_argument (length args)

  -- ---- numbers

  all_distinct : distinct (nodes_ids before ++ (node_ids here ++ nodes_ids after)) ≡ true
  all_distinct = subst (λ zs. distinct zs ≡ true) (nodes_ids-joined before (node_then here after)) part.unique

  at_before : IsAmong id (nodes_ids before) → ⊥
  at_before h = distinct-apart (nodes_ids before) (node_ids here ++ nodes_ids after) all_distinct id h (inl refl)

  known_before : (n : ℕ) → IsAmong n (known_after [] before) → IsAmong n (nodes_ids before)
  known_before n h = by (known-among [] before n h)
    where
      by : IsAmong n [] ⊎ IsAmong n (nodes_ids before) → IsAmong n (nodes_ids before)
      by (inl k) = absurd k
      by (inr k) = k

  known_apart : (n : ℕ) → IsAmong n (id ∷ known_after [] before) → IsAmong n (nodes_ids after) → ⊥
  known_apart n (inl e) k =
      distinct-apart (node_ids here) (nodes_ids after) (distinct-split (nodes_ids before) (node_ids here ++ nodes_ids after) all_distinct).1 n (inl e) k
  known_apart n (inr h) k =
      distinct-apart (nodes_ids before) (node_ids here ++ nodes_ids after) all_distinct n (known_before n h) (among-right n (node_ids here) (nodes_ids after) k)

  other_known : IsAmong m (known_after [] before)
  other_known = subst (λ ns. IsAmong m (known_after [] ns)) (sym among.is) (known_node [] among.before (node m op inputs among.regions) among.after)

  -- ---- what stays

  move_other : (n p : ℕ) → id ≢ n → move (Out n p) ≡ Out n p
  move_other n p h = ap (λ t. cond (t && (0 == p)) (Out m 0) (Out n p)) (test-other id n h)

  inputs_stay : (known : List ℕ) → (IsAmong id known → ⊥) → (os : List Origin) → AreRead arg known os → map move os ≡ os
  inputs_stay known out [] r = refl
  inputs_stay known out (a ∷ os) r = ap₂ (λ b bs. b ∷ bs) (by a r.0) (inputs_stay known out os r.1)
    where
      by : (a : Origin) → IsRead arg known a → move a ≡ a
      by (Arg k) h = refl
      by (Out n p) (inl t) = absurd cc
      by (Out n p) (inr h) = move_other n p (λ e. out (subst (λ z. IsAmong z known) (sym e) h))

  nodes_stay : (known : List ℕ) (ns : NodeTrees) → (IsAmong id known → ⊥) → (IsAmong id (nodes_ids ns) → ⊥) → NodesRead arg known ns → nodes_redirected move ns ≡ ns
  nodes_stay known no_nodes out apart r = refl
  nodes_stay known (node_then (node n op' is ss) ns) out apart r =
      ap₂ (λ zs ms. node_then (node n op' zs ss) ms) (inputs_stay known out is r.0.0)
      (nodes_stay (n ∷ known) ns more (λ k. apart (among-right id (node_ids (node n op' is ss)) (nodes_ids ns) k)) r.1)
    where
      more : IsAmong id (n ∷ known) → ⊥
      more (inl e) = apart (inl e)
      more (inr k) = out k

  whole_read : NodesRead arg [] before × NodesRead arg (known_after [] before) (node_then here after)
  whole_read = joined-read arg [] before (node_then here after) part.closed.0

  redirected_is : nodes_redirected move (joined_nodes before (node_then here after)) ≡ joined_nodes before (node_then here (nodes_redirected move after))
  redirected_is =
      redirected-joined move before (node_then here after)
      ∙ ap₂ (λ ns is. joined_nodes ns (node_then (node id op is rs) (nodes_redirected move after))) (nodes_stay [] before (λ h. h) at_before whole_read.0)
      (inputs_stay (known_after [] before) (λ h. at_before (known_before id h)) inputs whole_read.1.0.0)

  -- ---- the later nodes

  abbrev outside : Origin → Bool
  outside (Arg k) = true
  outside (Out n p) = not (some_of (λ k. n == k) (nodes_ids after))

  after_moves : CanMove outside move (λ n. n) (nodes_ids after)
  after_moves =
      record { one = λ i j h k e. e; outputs = λ n p h. move_other n p (λ e. known_apart n (inl (sym e)) h); apart = apart; fresh = fresh }
    where
      apart : (a : Origin) (n p : ℕ) → outside a ≡ true → a ≡ Out n p → IsAmong n (nodes_ids after) → ⊥
      apart (Arg k) n p t e h = absurd cc
      apart (Out i j) n p t e h = let same : i ≡ n = cc in none-among i (nodes_ids after) t (subst (λ z. IsAmong z (nodes_ids after)) (sym same) h)

      fresh : (a : Origin) (n p k : ℕ) → outside a ≡ true → move a ≡ Out n p → IsAmong k (nodes_ids after) → n ≢ k
      fresh (Arg k) n p i t e h f = absurd cc
      fresh (Out i j) n p k t e h f = by (same_origin (Out id 0) (Out i j)) e
        where
          by : (s : Bool) → cond s (Out m 0) (Out i j) ≡ Out n p → ⊥
          by true d = let same : m ≡ n = cc in known_apart m (inr other_known) (subst (λ z. IsAmong z (nodes_ids after)) (sym (same ∙ f)) h)
          by false d = let same : i ≡ n = cc in none-among i (nodes_ids after) t (subst (λ z. IsAmong z (nodes_ids after)) (sym (same ∙ f)) h)

  wider : (a : Origin) → arg a ≡ true → outside a ≡ true
  wider (Arg k) t = refl
  wider (Out n p) t = absurd cc

  earlier_seen : (n p : ℕ) → IsAmong n (id ∷ known_after [] before) → outside (Out n p) ≡ true
  earlier_seen n p h = among-none n (nodes_ids after) (λ k. known_apart n h k)

  after_reads : NodesRead outside [] after
  after_reads = nodes-wider arg outside [] (id ∷ known_after [] before) wider earlier_seen after whole_read.1.1

  after_gives : AreRead outside (known_after [] after) results
  after_gives =
      all-wider arg outside (known_after [] after) (id ∷ known_after [] before) wider earlier_seen results
      (all-among arg (known_after [] (joined_nodes before (node_then here after))) (known_after [] after ++ (id ∷ known_after [] before))
      (λ n h. known-split [] (id ∷ known_after [] before) after n (subst (λ zs. IsAmong n zs) (joined-known [] before (node_then here after)) h)) results part.closed.1)

  -- ---- the region

  abbrev first : NodeTrees
  first = joined_nodes before (node_then here no_nodes)

  first_ran : (c : Context) (xs : List Datum) (o : Outputs) (did : List Event) → nodes_run c first xs no_outputs ≡ Returned o did → o id 0 ≡ o m 0
  first_ran c xs o did e =
      let firsts : distinct (nodes_ids first) ≡ true = subst (λ zs. distinct zs ≡ true) (sym (nodes_ids-joined before (node_then here no_nodes)
      ∙ ap (λ zs. nodes_ids before ++ zs) (append-nil (node_ids here))))
      (distinct-split (nodes_ids before ++ node_ids here) (nodes_ids after)
      (subst (λ zs. distinct zs ≡ true) (sym (append_assoc (nodes_ids before) (node_ids here) (nodes_ids after))) all_distinct)).0 in
      let have = holds-from (length args) c first [] xs no_outputs o did (joined-reads arg [] before (node_then here no_nodes) whole_read.0 (whole_read.1.0, tt)) (λ n h k. h) firsts e in
      let ran = has-run c xs o before here no_nodes have in
      let other_at : joined_nodes before (node_then here no_nodes)
      ≡ joined_nodes among.before (node_then (node m op inputs among.regions) (joined_nodes among.after (node_then here no_nodes))) =
      ap (λ ns. joined_nodes ns (node_then here no_nodes)) among.is
      ∙ joined_assoc among.before (node_then (node m op inputs among.regions) among.after) (node_then here no_nodes) in
      let other = has-run c xs o among.before (node m op inputs among.regions) (joined_nodes among.after (node_then here no_nodes)) (subst (λ ns. HaveRun c xs o ns) other_at have) in
      let g = ran_gives c xs o m op inputs among.regions common other in
      let given = given_results (val g.value ∷ []) ran.results [] ran.did (sym (g.run id rs) ∙ ran.run) in
      ran.outputs 0 ∙ ap (λ us. at_port us 0) (sym given) ∙ sym g.output

  later_same : (c : Context) (xs : List Datum) (o : Outputs) → o id 0 ≡ o m 0 → ReadSame outside [] move xs xs o o
  later_same c xs o e (Arg k) h = refl
  later_same c xs o e (Out n p) (inr h) = absurd h
  later_same c xs o e (Out n p) (inl t) = by (same_origin (Out id 0) (Out n p)) refl
    where
      by : (s : Bool) → same_origin (Out id 0) (Out n p) ≡ s → read xs o (cond s (Out m 0) (Out n p)) ≡ o n p
      by true q = sym e ∙ ap (read xs o) (same_origin_true (Out id 0) (Out n p) q)
      by false q = refl

  abbrev ending : List Datum → List Origin → Outputs → Answer (List Datum)
  ending xs os o = Returned (map (read xs o) os) []

  in_turn : (c : Context) (xs : List Datum) (ns : NodeTrees) (os : List Origin) →
      region_meaning c (region args (joined_nodes before (node_then here ns)) os) xs ≡ then_on (nodes_run c first xs no_outputs) (λ o. then_on (nodes_run c ns xs o) (ending xs os))
  in_turn c xs ns os =
      ap (λ zs. then_on (nodes_run c zs xs no_outputs) (ending xs os)) (sym (joined_assoc before (node_then here no_nodes) ns))
      ∙ ap (λ a. then_on a (ending xs os)) (joined-run c first ns xs no_outputs) ∙ then_associates (nodes_run c first xs no_outputs) (nodes_run c ns xs) (ending xs os)

  pub means_the_same : (c : Context) (xs : List Datum) →
      region_meaning c (region_redirected move (region args (joined_nodes before (node_then here after)) results)) xs
      ≡ region_meaning c (region args (joined_nodes before (node_then here after)) results) xs
  means_the_same c xs =
      let far = ap (λ ns. region_meaning c (region args ns (map move results)) xs) redirected_is ∙ in_turn c xs (nodes_redirected move after) (map move results) in
      let same = then_on_given (nodes_run c first xs no_outputs) (λ o. then_on (nodes_run c after xs o) (ending xs results))
      (λ o. then_on (nodes_run c (nodes_redirected move after) xs o) (ending xs (map move results)))
      (λ o did e.
      let runs = subst (λ ns. Same (ReadSame outside (known_after [] after) move xs xs) (nodes_run c after xs o) (nodes_run c ns xs o)) (redirected-moved move after)
      (copied_nodes_mean_the_same outside move (λ n. n) after after_moves after_reads c xs xs o o (later_same c xs o (first_ran c xs o did e))) in
      same-equal (then_on (nodes_run c after xs o) (ending xs results)) (then_on (nodes_run c (nodes_redirected move after) xs o) (ending xs (map move results)))
      (same-then (ReadSame outside (known_after [] after) move xs xs) Equals (nodes_run c after xs o) (nodes_run c (nodes_redirected move after) xs o) (ending xs results)
      (ending xs (map move results)) runs
      (λ p q h. (sym (reads-same outside (known_after [] after) move xs xs p q h results after_gives), refl)))) in
      far ∙ sym same ∙ sym (in_turn c xs after results)

pub cne_means_the_same : CneMeansTheSame
cne_means_the_same l n (region args ns results) s part e c xs =
    let at = changed_at n args ns results s e in
    let whole = region args (joined_nodes at.before (node_then (node n at.op at.inputs at.regions) at.after)) results in
    let is : region_redirected (origin_replaced (Out n 0) (Out at.first 0)) (region args ns results) ≡ s =
    replaced_is (Out n 0) (Out at.first 0) (region args ns results) s at.gives in
    ap (λ r. region_meaning c r xs) (sym is) ∙ ap (λ ms. region_meaning c (region_redirected (origin_replaced (Out n 0) (Out at.first 0)) (region args ms results)) xs) at.is
    ∙ means_the_same l args at.before n at.op at.inputs at.regions at.after results at.first at.common at.among (subst (λ ms. IsPartOf l (region args ms results)) at.is part) c xs
    ∙ ap (λ ms. region_meaning c (region args ms results) xs) (sym at.is)
