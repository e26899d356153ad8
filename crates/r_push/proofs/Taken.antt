-- A region out of which a node moved means what it meant, on one more datum, which is what the node gives.
use Rattle.std.proofs.Common.{◌≡◌, ◌≢◌, ℕ, zero, suc, ◌==◌, Bool, true, false, ◌&&◌, cond, List, [], ◌∷◌, ◌++◌, map, length, refl, sym, ap, subst, subst₂, ◌∙◌, inl, inr, arith}
use Rattle.std.proofs.lemmas.Bool.Decides.{nat_tests}
use Rattle.val_core.specs.Events.{Event}
use Rattle.val_core.specs.declared.values.Value.{Value as Word}
use Rattle.val_core.specs.Answers.{Answer, Returned, Cut, Exited, Undefined, then_on}
use Rattle.g_graph.specs.declared.op.Kind.{Kind}
use Rattle.g_graph.specs.declared.op.Kind.TheVariants.{Value}
use Rattle.g_graph.specs.declared.op.Op.{Op}
use Rattle.g_graph.specs.declared.op.Origin.{Origin}
use Rattle.g_graph.specs.declared.op.Origin.TheVariants.{Arg, Out}
use Rattle.g_graph.specs.Plain.{region, NodeTree, node, NodeTrees, node_then, RegionTrees}
use Rattle.g_graph.specs.Ids.{node_ids, nodes_ids}
use Rattle.g_graph.specs.Scope.{same_origin}
use Rattle.g_graph.specs.WellFormed.{some_of, distinct}
use Rattle.g_graph.specs.Replace.{node_redirected, nodes_redirected, origin_replaced}
use Rattle.g_graph.specs.Splice.{joined_nodes}
use Rattle.g_graph.proofs.lemmas.Indexes.{same_number_true}
use Rattle.g_graph.proofs.lemmas.Moved.{same_origin_true}
use Rattle.g_graph.proofs.lemmas.Splices.{nodes_ids-joined}
use Rattle.g_graph.proofs.lemmas.Redirects.{nodes_unmoved}
use Rattle.g_mean.specs.Data.{Datum, val, at_port}
use Rattle.g_mean.specs.Meaning.{Context, Outputs, no_outputs, extended, read, node_run, nodes_run}
use Rattle.g_mean.specs.Copies.{IsAmong, AreRead, NodesRead, known_after, is_argument, IsClosed, CanMove, Same, ReadSame}
use Rattle.g_mean.proofs.lemmas.Copies.{among-right, reads-same, redirected-moved, same-then, same-change, copied_nodes_mean_the_same}
use Rattle.g_mean.proofs.lemmas.Edits.{distinct-split}
use Rattle.g_mean.proofs.lemmas.Holds.{distinct-apart, unchanged}
use Rattle.g_mean.proofs.lemmas.Splices.{joined-run, joined-known, joined-read, all-wider, nodes-wider, known-split, all-among}
use Rattle.g_mean.proofs.lemmas.Redirects.{redirected-joined}
use Rattle.r_edit.specs.Removal.{nodes_without}
use Rattle.r_edit.proofs.lemmas.Added.{added-port, last-port, argument-less, arguments-move, arguments-same}
use Rattle.r_edit.proofs.lemmas.Removal.{without_joined}
use Rattle.r_push.specs.Rule.{carried}
use Rattle.r_push.proofs.Stays.{some-among, among-some, known-own, none-has, move-other, nodes-stay}

-- what is known of the farther result too
same-given : {A B : Type 0} (R : A → B → Type 0) (Q : B → Type 0) (a : Answer A) (b : Answer B) → Same R a b → ((y : B) (did : List Event) → b ≡ Returned y did → Q y) →
    Same (λ x y. R x y × Q y) a b
same-given R Q (Returned x o) (Returned y p) h g = ((h.0, g y p refl), h.1)
same-given R Q (Cut o) (Cut p) h g = h
same-given R Q (Exited o s) (Exited p t) h g = h
same-given R Q (Undefined o) (Undefined p) h g = h
same-given R Q _ _ h g = absurd h

module _ (args : List Kind) (before : NodeTrees) (n : ℕ) (op : Op) (inputs : List Origin) (rs : RegionTrees) (after : NodeTrees) (results : List Origin)
    (closed : IsClosed (region args (joined_nodes before (node_then (node n op inputs rs) after)) results))
    (unique : distinct (nodes_ids (joined_nodes before (node_then (node n op inputs rs) after))) ≡ true) where
  abbrev here : NodeTree
  here = node n op inputs rs

  abbrev to : Origin
  to = Arg (length args)

  abbrev move : Origin → Origin
  move = origin_replaced (Out n 0) to

  abbrev arg : Origin → Bool
  arg = is_argument (length args)

  abbrev earlier : List ℕ
  earlier = n ∷ known_after [] before

  -- ---- numbers

  all_distinct : distinct (nodes_ids before ++ (node_ids here ++ nodes_ids after)) ≡ true
  all_distinct = subst (λ zs. distinct zs ≡ true) (nodes_ids-joined before (node_then here after)) unique

  at_before : IsAmong n (nodes_ids before) → ⊥
  at_before h = distinct-apart (nodes_ids before) (node_ids here ++ nodes_ids after) all_distinct n h (inl refl)

  known_apart : (m : ℕ) → IsAmong m earlier → IsAmong m (nodes_ids after) → ⊥
  known_apart m (inl e) k =
      distinct-apart (node_ids here) (nodes_ids after) (distinct-split (nodes_ids before) (node_ids here ++ nodes_ids after) all_distinct).1 m (inl e) k
  known_apart m (inr h) k =
      distinct-apart (nodes_ids before) (node_ids here ++ nodes_ids after) all_distinct m (known-own before m h) (among-right m (node_ids here) (nodes_ids after) k)

  whole_read : NodesRead arg [] before × NodesRead arg (known_after [] before) (node_then here after)
  whole_read = joined-read arg [] before (node_then here after) closed.0

  -- ---- the region

  abbrev pub taken_nodes : NodeTrees
  taken_nodes = joined_nodes before (nodes_redirected move after)

  pub carried-is : carried n (region args (joined_nodes before (node_then here after)) results) ≡ region (args ++ Value ∷ []) taken_nodes (map move results)
  carried-is =
      ap (λ ns. region (args ++ Value ∷ []) ns (map move results))
      (ap (nodes_without n) (redirected-joined move before (node_then here after)
      ∙ ap (λ ns. joined_nodes ns (node_then (node_redirected move here) (nodes_redirected move after))) (nodes-stay n to (length args) [] before (λ h. h) at_before whole_read.0))
      ∙ without_joined n before (node_redirected move here) (nodes_redirected move after) (none-has n before at_before) (same_number_true n))

  -- ---- the later nodes

  -- what they read of all that stands before them
  abbrev seen : Origin → Bool
  seen (Arg k) = arg (Arg k)
  seen (Out m p) = some_of (λ k. m == k) earlier

  can_move : CanMove seen move (λ m. m) (nodes_ids after)
  can_move =
      record { one = λ i j h k e. e; outputs = λ m p h. move-other n to m p (λ e. known_apart m (inl (sym e)) h); apart = apart; fresh = fresh }
    where
      apart : (a : Origin) (m p : ℕ) → seen a ≡ true → a ≡ Out m p → IsAmong m (nodes_ids after) → ⊥
      apart (Arg k) m p t e h = absurd cc
      apart (Out i j) m p t e h = let same : i ≡ m = cc in known_apart i (some-among i earlier t) (subst (λ z. IsAmong z (nodes_ids after)) (sym same) h)

      fresh : (a : Origin) (m p k : ℕ) → seen a ≡ true → move a ≡ Out m p → IsAmong k (nodes_ids after) → m ≢ k
      fresh (Arg k) m p i t e h f = absurd cc
      fresh (Out i j) m p k t e h f = by (same_origin (Out n 0) (Out i j)) e
        where
          by : (s : Bool) → cond s to (Out i j) ≡ Out m p → ⊥
          by true d = absurd cc
          by false d = let same : i ≡ m = cc in known_apart i (some-among i earlier t) (subst (λ z. IsAmong z (nodes_ids after)) (sym (same ∙ f)) h)

  wider : (a : Origin) → arg a ≡ true → seen a ≡ true
  wider (Arg k) t = t
  wider (Out m p) t = absurd cc

  earlier_seen : (m p : ℕ) → IsAmong m earlier → seen (Out m p) ≡ true
  earlier_seen m p h = among-some m earlier h

  after_reads : NodesRead seen [] after
  after_reads = nodes-wider arg seen [] earlier wider earlier_seen after whole_read.1.1

  after_gives : AreRead seen (known_after [] after) results
  after_gives =
      all-wider arg seen (known_after [] after) earlier wider earlier_seen results
      (all-among arg (known_after [] (joined_nodes before (node_then here after))) (known_after [] after ++ earlier)
      (λ m h. known-split [] earlier after m (subst (λ zs. IsAmong m zs) (joined-known [] before (node_then here after)) h)) results closed.1)

  -- ---- a run

  module _ (c : Context) (us : List Datum) (v : Word) (count : length us ≡ length args) (gives : (o : Outputs) → node_run c here us o ≡ Returned (val v ∷ []) []) where
    abbrev pub more : List Datum
    more = us ++ val v ∷ []

    abbrev AfterBefore : Outputs → Outputs → Type 0
    AfterBefore o q = ReadSame arg (known_after [] before) (λ a. a) us more o q × ((p : ℕ) → q n p ≡ no_outputs n p)

    before_same : Same AfterBefore (nodes_run c before us no_outputs) (nodes_run c before more no_outputs)
    before_same =
        same-given (ReadSame arg (known_after [] before) (λ a. a) us more) (λ q. (p : ℕ) → q n p ≡ no_outputs n p) (nodes_run c before us no_outputs) (nodes_run c before more no_outputs)
        (subst (λ ns. Same (ReadSame arg (known_after [] before) (λ a. a) us more) (nodes_run c before us no_outputs) (nodes_run c ns more no_outputs))
        (redirected-moved (λ a. a) before ∙ nodes_unmoved (λ a. a) (λ a. refl) before)
        (copied_nodes_mean_the_same arg (λ a. a) (λ m. m) before (arguments-move (length args) (nodes_ids before)) whole_read.0 c us more no_outputs no_outputs
        (arguments-same (length args) us (val v) count)))
        (λ q did e p. unchanged c before more no_outputs q did e n at_before p)

    later_same : (o q : Outputs) → AfterBefore o q → ReadSame seen [] move us more (extended o n (val v ∷ [])) q
    later_same o q h (Arg k) (inl t) = added-port us (val v) k (omega (arith, argument-less (length args) k t, count))
    later_same o q h (Arg k) (inr j) = absurd j
    later_same o q h (Out m p) (inr j) = absurd j
    later_same o q h (Out m p) (inl t) = by (same_origin (Out n 0) (Out m p)) refl
      where
        old : (s : Bool) → (n == m) ≡ s → (s && (0 == p)) ≡ false → q m p ≡ cond s (at_port (val v ∷ []) p) (o m p)
        old true e d = other p d
          where
            other : (p : ℕ) → (0 == p) ≡ false → q m p ≡ at_port (val v ∷ []) p
            other zero f = absurd cc
            other (suc p) f = let same : n ≡ m = grind (arith, nat_tests) in ap (λ z. q z (suc p)) (sym same) ∙ h.1 (suc p)
        old false e d = h.0 (Out m p) (inr (by_known (some-among m earlier t)))
          where
            by_known : IsAmong m earlier → IsAmong m (known_after [] before)
            by_known (inl f) = let wrong : (n == m) ≡ true = grind (arith, nat_tests) in absurd cc
            by_known (inr k) = k

        by : (s : Bool) → same_origin (Out n 0) (Out m p) ≡ s → read more q (cond s to (Out m p)) ≡ extended o n (val v ∷ []) m p
        by true e =
            let is : Out n 0 ≡ Out m p = same_origin_true (Out n 0) (Out m p) e in
            ap (at_port more) (sym count) ∙ last-port us (val v) ∙ sym (ap (λ t. cond t (val v) (o n 0)) (same_number_true n)) ∙ ap (read us (extended o n (val v ∷ []))) is
        by false e = old (n == m) refl e

    abbrev pub Ends : Outputs → Outputs → Type 0
    Ends o q = map (read more q) (map move results) ≡ map (read us o) results

    rest_same : (o q : Outputs) → AfterBefore o q → Same Ends (nodes_run c (node_then here after) us o) (nodes_run c (nodes_redirected move after) more q)
    rest_same o q h =
        let ran : nodes_run c after us (extended o n (val v ∷ [])) ≡ nodes_run c (node_then here after) us o =
        ap (λ a. then_on a (λ ws. nodes_run c after us (extended o n ws))) (sym (gives o)) in
        let runs = subst (λ ns. Same (ReadSame seen (known_after [] after) move us more) (nodes_run c after us (extended o n (val v ∷ []))) (nodes_run c ns more q)) (redirected-moved move after)
        (copied_nodes_mean_the_same seen move (λ m. m) after can_move after_reads c us more (extended o n (val v ∷ [])) q (later_same o q h)) in
        subst (λ a. Same Ends a (nodes_run c (nodes_redirected move after) more q)) ran
        (same-change (ReadSame seen (known_after [] after) move us more) Ends (nodes_run c after us (extended o n (val v ∷ []))) (nodes_run c (nodes_redirected move after) more q)
        (λ x y g. reads-same seen (known_after [] after) move us more x y g results after_gives) runs)

    pub taken-same : Same Ends (nodes_run c (joined_nodes before (node_then here after)) us no_outputs) (nodes_run c taken_nodes more no_outputs)
    taken-same =
        subst₂ (λ a b. Same Ends a b) (sym (joined-run c before (node_then here after) us no_outputs)) (sym (joined-run c before (nodes_redirected move after) more no_outputs))
        (same-then AfterBefore Ends (nodes_run c before us no_outputs) (nodes_run c before more no_outputs) (nodes_run c (node_then here after) us) (nodes_run c (nodes_redirected move after) more)
        before_same rest_same)
