-- The node that left, and then the node that it left, come in the place of that one.
use Rattle.std.proofs.Common.{◌≡◌, ℕ, ◌==◌, ◌⊎◌, Bool, true, false, cond, List, [], ◌∷◌, map, refl, sym, ap, subst, subst₂, ◌∙◌, inl, inr}
use Rattle.val_core.specs.declared.values.Value.{Value as Word}
use Rattle.val_core.specs.declared.values.Value.TheVariants.{Bad}
use Rattle.val_core.specs.Values.{IsSound}
use Rattle.val_core.specs.Answers.{Answer, Returned, Cut, Exited, Undefined, then_on}
use Rattle.val_core.specs.Refinement.{Direction, Forward, Backward, Refines, no_deeper}
use Rattle.val_core.proofs.lemmas.Refinement.{refines-then}
use Rattle.g_graph.specs.declared.op.Kind.{Kind}
use Rattle.g_graph.specs.declared.op.Op.{Op}
use Rattle.g_graph.specs.declared.op.Origin.{Origin}
use Rattle.g_graph.specs.declared.op.Origin.TheVariants.{Arg, Out}
use Rattle.g_graph.specs.Plain.{RegionTree, region, NodeTree, node, NodeTrees, no_nodes, node_then, RegionTrees, id_of, PlainLambda}
use Rattle.g_graph.specs.Signatures.{is_pure}
use Rattle.g_graph.specs.Replace.{nodes_redirected}
use Rattle.g_graph.specs.Splice.{joined_nodes}
use Rattle.g_graph.proofs.lemmas.Redirects.{all_unmoved, nodes_unmoved}
use Rattle.g_mean.specs.Data.{Datum, val, at_port}
use Rattle.g_mean.specs.Meaning.{Context, Outputs, extended, node_run, nodes_run}
use Rattle.g_mean.specs.LessDefined.{Paired, IsLessDefinedDatum}
use Rattle.g_mean.specs.Refining.{ContextRefines}
use Rattle.g_mean.specs.Copies.{Same}
use Rattle.g_mean.specs.Moves.{ReadLessDefined}
use Rattle.g_mean.specs.Edits.{IsPartOf}
use Rattle.g_mean.specs.Replacement.{Replaces}
use Rattle.g_mean.proofs.lemmas.Kept.{OutputsRefine, paired-at}
use Rattle.g_mean.proofs.lemmas.Regions.{node-refines}
use Rattle.g_mean.proofs.lemmas.Equal.{no_deeper-compares}
use Rattle.g_mean.proofs.lemmas.LessDefined.{less-kept}
use Rattle.g_mean.proofs.lemmas.Calls.{nodes-itself}
use Rattle.g_mean.proofs.lemmas.Bounds.{Never, Always, never-refines}
use Rattle.g_mean.proofs.lemmas.Moves.{pure_nodes_give_the_same}
use Rattle.r_edit.specs.Uses.{is_read, is_output_of}
use Rattle.r_edit.specs.Parts.{CanPlace}
use Rattle.r_edit.proofs.lemmas.Parts.{placed_parts_refine}
use Rattle.r_edit.proofs.lemmas.Placed.{outside, outside_stays, can_place}

-- what an answer is compared with may be the same but for its results
pub refines-same : {A B C : Type 0} (direction : Direction) (R : A → B → Type 0) (S : B → C → Type 0) (T : A → C → Type 0) → ((x : A) (y : B) (z : C) → R x y → S y z → T x z) →
    (a : Answer A) (b : Answer B) (c : Answer C) → Refines no_deeper direction R a b → Same S b c → Refines no_deeper direction T a c
refines-same direction R S T join a (Returned v p) (Cut q) h k = absurd k
refines-same direction R S T join a (Returned v p) (Exited q m) h k = absurd k
refines-same direction R S T join a (Returned v p) (Undefined q) h k = absurd k
refines-same direction R S T join a (Cut p) (Returned w q) h k = absurd k
refines-same direction R S T join a (Cut p) (Exited q m) h k = absurd k
refines-same direction R S T join a (Cut p) (Undefined q) h k = absurd k
refines-same direction R S T join a (Exited p j) (Returned w q) h k = absurd k
refines-same direction R S T join a (Exited p j) (Cut q) h k = absurd k
refines-same direction R S T join a (Exited p j) (Undefined q) h k = absurd k
refines-same direction R S T join a (Undefined p) (Returned w q) h k = absurd k
refines-same direction R S T join a (Undefined p) (Cut q) h k = absurd k
refines-same direction R S T join a (Undefined p) (Exited q m) h k = absurd k
refines-same direction R S T join (Undefined o) (Returned v p) (Returned w q) h k = tt
refines-same direction R S T join (Undefined o) (Cut p) (Cut q) h k = tt
refines-same direction R S T join (Undefined o) (Exited p j) (Exited q m) h k = tt
refines-same direction R S T join (Undefined o) (Undefined p) (Undefined q) h k = tt
refines-same direction R S T join (Returned u o) (Returned v p) (Returned w q) h k = (join u v w h.0 k.0, subst (λ z. no_deeper.Same o z) k.1 h.1)
refines-same direction R S T join (Exited o i) (Returned v p) (Returned w q) h k = absurd h
refines-same Forward R S T join (Cut o) (Returned v p) (Returned w q) h k = subst (λ z. no_deeper.NearIsPrefix o z) k.1 h
refines-same Backward R S T join (Cut o) (Returned v p) (Returned w q) h k = absurd h
refines-same Forward R S T join (Returned u o) (Cut p) (Cut q) h k = absurd h
refines-same Backward R S T join (Returned u o) (Cut p) (Cut q) h k = subst (λ z. no_deeper.FarIsPrefix o z) k h
refines-same Forward R S T join (Exited o i) (Cut p) (Cut q) h k = absurd h
refines-same Backward R S T join (Exited o i) (Cut p) (Cut q) h k = subst (λ z. no_deeper.FarIsPrefix o z) k h
refines-same Forward R S T join (Cut o) (Cut p) (Cut q) h k = subst (λ z. no_deeper.NearIsPrefix o z) k h
refines-same Backward R S T join (Cut o) (Cut p) (Cut q) h k = subst (λ z. no_deeper.FarIsPrefix o z) k h
refines-same direction R S T join (Returned u o) (Exited p j) (Exited q m) h k = absurd h
refines-same direction R S T join (Exited o i) (Exited p j) (Exited q m) h k = (subst (λ z. no_deeper.Same o z) k.0 h.0, h.1 ∙ k.1)
refines-same Forward R S T join (Cut o) (Exited p j) (Exited q m) h k = subst (λ z. no_deeper.NearIsPrefix o z) k.0 h
refines-same Backward R S T join (Cut o) (Exited p j) (Exited q m) h k = absurd h
refines-same direction R S T join (Returned u o) (Undefined p) (Undefined q) h k = absurd h
refines-same direction R S T join (Exited o i) (Undefined p) (Undefined q) h k = absurd h
refines-same Forward R S T join (Cut o) (Undefined p) (Undefined q) h k = tt
refines-same Backward R S T join (Cut o) (Undefined p) (Undefined q) h k = absurd h

-- ---- the two nodes

-- the outputs that are given, and perhaps the value after them
abbrev pub Carries : Word → List Datum → List Datum → Type 0
Carries v zs ws = (p : ℕ) → (at_port ws p ≡ at_port zs p) ⊎ ((at_port zs p ≡ val Bad) × (at_port ws p ≡ val v))

module _ (l : PlainLambda) (args : List Kind) (before : NodeTrees) (x : NodeTree) (after : NodeTrees) (results : List Origin)
    (part : IsPartOf l (region args (joined_nodes before (node_then x after)) results)) (n : ℕ)
    (unread : is_read (is_output_of n) (region args (joined_nodes before (node_then x after)) results) ≡ false) where
  abbrev whole : RegionTree
  whole = region args (joined_nodes before (node_then x after)) results

  abbrev seen : Origin → Bool
  seen = outside args before x after results part.closed part.unique (is_output_of n) (λ o. o) unread

  can : CanPlace args before x after results seen (λ o. o)
  can = can_place args before x after results part.closed part.unique (is_output_of n) (λ o. o) unread (λ k. refl) (λ m p. (p, refl)) (λ m p h. refl)

  -- the node, outside, and the other one, where it is there
  module _ (op : Op) (inputs : List Origin) (rs : RegionTrees) (x' : NodeTree) (pure : is_pure op ≡ true) (number : id_of x' ≡ id_of x) where
    abbrev y : NodeTree
    y = node n op inputs rs

    abbrev two : NodeTrees
    two = node_then y (node_then x' no_nodes)

    -- where each run of the two nodes begins with a value, and then gives what the one node gave
    pub record RunsBoth (d : Context) (ys : List Datum) (q : Outputs) : Type 0 where
      pub value : Word
      pub first : node_run d y ys q ≡ Returned (val value ∷ []) []
      pub second : Same (Carries value) (node_run d x ys q) (node_run d x' ys (extended q n (val value ∷ [])))

    module _ (direction : Direction) (c d : Context) (context : ContextRefines no_deeper direction IsLessDefinedDatum c d) (xs ys : List Datum) (o q : Outputs)
        (near : Paired IsLessDefinedDatum xs ys) (like : OutputsRefine IsLessDefinedDatum o q) (both : RunsBoth d ys q) where
      refines : (z : NodeTree) → Refines no_deeper direction (Paired IsLessDefinedDatum) (node_run c z xs o) (node_run d z ys q)
      refines z =
          node-refines no_deeper no_deeper-compares direction IsLessDefinedDatum less-kept Never Always
          (never-refines no_deeper no_deeper-compares direction IsLessDefinedDatum less-kept) c d context tt z z (nodes-itself Never (node_then z no_nodes)).0 xs ys near o q like

      sound : IsSound both.value
      sound =
          let here = pure_nodes_give_the_same op pure c n n inputs inputs rs rs xs xs o o refl in
          let pairs : Refines no_deeper direction (Paired IsLessDefinedDatum) (Returned (val here.value ∷ []) []) (Returned (val both.value ∷ []) []) =
          subst₂ (λ a b. Refines no_deeper direction (Paired IsLessDefinedDatum) a b) here.first both.first (refines y) in
          pairs.0.0.2

      abbrev PortsRefine : List Datum → List Datum → Type 0
      PortsRefine us ws = (p : ℕ) → IsLessDefinedDatum (at_port us p) (at_port ws p)

      ports : (us zs ws : List Datum) → Paired IsLessDefinedDatum us zs → Carries both.value zs ws → PortsRefine us ws
      ports us zs ws pairs carries p = by (carries p)
        where
          less : IsLessDefinedDatum (at_port us p) (at_port zs p)
          less = paired-at IsLessDefinedDatum less-kept us zs pairs p

          bad : at_port zs p ≡ val Bad → at_port us p ≡ val Bad
          bad e = of less.0
            where
              of : (at_port us p ≡ at_port zs p) ⊎ (at_port us p ≡ val Bad) → at_port us p ≡ val Bad
              of (inl f) = f ∙ e
              of (inr f) = f

          by : (at_port ws p ≡ at_port zs p) ⊎ ((at_port zs p ≡ val Bad) × (at_port ws p ≡ val both.value)) → IsLessDefinedDatum (at_port us p) (at_port ws p)
          by (inl e) = subst (λ z. IsLessDefinedDatum (at_port us p) z) (sym e) less
          by (inr h) = subst (λ z. IsLessDefinedDatum (at_port us p) z) (sym h.1) (inr (bad h.0), less.1, sound)

      abbrev after_both : List Datum → Outputs
      after_both ws = extended (extended q n (val both.value ∷ [])) (id_of x) ws

      reads : (us ws : List Datum) → PortsRefine us ws → ReadLessDefined seen [] (λ a. a) xs ys (extended o (id_of x) us) (after_both ws)
      reads us ws h (Arg k) j = paired-at IsLessDefinedDatum less-kept xs ys near k
      reads us ws h (Out m p) (inr j) = absurd j
      reads us ws h (Out m p) (inl t) = by (id_of x == m)
        where
          other : extended q n (val both.value ∷ []) m p ≡ q m p
          other = ap (λ s. cond s (at_port (val both.value ∷ []) p) (q m p)) (outside_stays args before x after results part.closed part.unique (is_output_of n) (λ z. z) unread m p t)

          by : (s : Bool) → IsLessDefinedDatum (cond s (at_port us p) (o m p)) (cond s (at_port ws p) (extended q n (val both.value ∷ []) m p))
          by true = h p
          by false = subst (λ z. IsLessDefinedDatum (o m p) z) (sym other) (like m p)

      both_run : nodes_run d two ys q ≡ then_on (node_run d x' ys (extended q n (val both.value ∷ []))) (λ ws. Returned (after_both ws) [])
      both_run =
          ap (λ a. then_on a (λ vs. nodes_run d (node_then x' no_nodes) ys (extended q n vs))) both.first
          ∙ ap (λ m. then_on (node_run d x' ys (extended q n (val both.value ∷ []))) (λ ws. Returned (extended (extended q n (val both.value ∷ [])) m ws) [])) number

      pub two-refine : Refines no_deeper direction (ReadLessDefined seen [] (λ a. a) xs ys) (nodes_run c (node_then x no_nodes) xs o) (nodes_run d two ys q)
      two-refine =
          subst (λ b. Refines no_deeper direction (ReadLessDefined seen [] (λ a. a) xs ys) (nodes_run c (node_then x no_nodes) xs o) b) (sym both_run)
          (refines-then no_deeper no_deeper-compares.goes PortsRefine (ReadLessDefined seen [] (λ a. a) xs ys) direction (node_run c x xs o) (node_run d x' ys (extended q n (val both.value ∷ [])))
          (λ us. Returned (extended o (id_of x) us) []) (λ ws. Returned (after_both ws) [])
          (refines-same direction (Paired IsLessDefinedDatum) (Carries both.value) PortsRefine ports (node_run c x xs o) (node_run d x ys q) (node_run d x' ys (extended q n (val both.value ∷ [])))
          (refines x) both.second)
          (λ us ws h. (reads us ws h, no_deeper-compares.goes.nothing)))

    placed_is : region args (joined_nodes before (joined_nodes two after)) results ≡ region args (joined_nodes before (joined_nodes two (nodes_redirected (λ o. o) after))) (map (λ o. o) results)
    placed_is = sym (λ i. region args (joined_nodes before (joined_nodes two (nodes_unmoved (λ o. o) (λ o. refl) after i))) (all_unmoved (λ o. o) (λ o. refl) results i))

    pub two-replace : ((d : Context) (ys : List Datum) (q : Outputs) → RunsBoth d ys q) → (ls ks : List PlainLambda) →
        Replaces ls ks whole (region args (joined_nodes before (joined_nodes two after)) results)
    two-replace runs ls ks =
        subst (λ r. Replaces ls ks whole r) (sym placed_is)
        (record {
          at = λ direction global. record {
            at = λ c d context linked.
                placed_parts_refine direction c d context args before x after results two seen (λ o. o) can
                (λ xs ys o q near like have. two-refine direction c d context xs ys o q near like (runs d ys q));
          };
        })
