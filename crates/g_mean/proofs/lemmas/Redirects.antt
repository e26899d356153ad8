-- Uses of a node's outputs that come from elsewhere.
use Rattle.std.proofs.Common.{◌≡◌, ◌≢◌, ℕ, ◌==◌, ◌⊎◌, Bool, true, false, not, List, [], ◌∷◌, ◌++◌, map, length, refl, sym, ap, ap₂, subst, subst₂, ◌∙◌, inl, inr, arith, append_assoc}
use Rattle.std.proofs.lemmas.Bool.{cases_Bool, eqb-false}
use Rattle.std.proofs.lemmas.Bool.Decides.{nat_tests}
use Rattle.val_core.specs.Answers.{Answer, Returned, Cut, Exited, Undefined, Gives}
use Rattle.val_core.specs.Refinement.{Direction, Refines, no_deeper}
use Rattle.val_core.proofs.lemmas.Refinement.{refines-then, refines-gives}
use Rattle.g_graph.specs.declared.op.Kind.{Kind}
use Rattle.g_graph.specs.declared.op.Origin.{Origin}
use Rattle.g_graph.specs.declared.op.Origin.TheVariants.{Arg, Out}
use Rattle.g_graph.specs.Plain.{region, NodeTree, node, NodeTrees, no_nodes, node_then, id_of}
use Rattle.g_graph.specs.Ids.{node_ids, nodes_ids}
use Rattle.g_graph.specs.WellFormed.{some_of, distinct}
use Rattle.g_graph.specs.Replace.{node_redirected, nodes_redirected, region_redirected}
use Rattle.g_graph.specs.Splice.{joined_nodes}
use Rattle.g_mean.specs.Data.{Datum, at_port}
use Rattle.g_mean.specs.Meaning.{Context, Outputs, no_outputs, extended, read, region_meaning, node_run, nodes_run}
use Rattle.g_mean.specs.LessDefined.{Paired, IsLessDefinedDatum}
use Rattle.g_mean.specs.Refining.{MeaningRefines, ContextRefines}
use Rattle.g_mean.specs.Copies.{IsAmong, IsRead, AreRead, NodeReads, NodesRead, known_after, is_argument, CanMove}
use Rattle.g_mean.specs.Moves.{ReadLessDefined}
use Rattle.g_mean.specs.Holds.{HasRun, HaveRun}
use Rattle.g_mean.specs.Splices.{CanRedirect, RedirectedRegionsRefine, ReplacedNodesRefine}
use Rattle.g_mean.proofs.lemmas.Kept.{OutputsRefine, paired-at, reads-refines}
use Rattle.g_mean.proofs.lemmas.Regions.{extended-refines, nodes-refines}
use Rattle.g_mean.proofs.lemmas.Equal.{no_deeper-compares}
use Rattle.g_mean.proofs.lemmas.LessDefined.{less-kept}
use Rattle.g_mean.proofs.lemmas.Calls.{nodes-itself}
use Rattle.g_mean.proofs.lemmas.Bounds.{Never, Always, never-refines}
use Rattle.g_mean.proofs.lemmas.Copies.{among-left, among-right, redirected-moved}
use Rattle.g_mean.proofs.lemmas.Moves.{reads-less, moved_nodes_refine}
use Rattle.g_mean.proofs.lemmas.Edits.{distinct-split}
use Rattle.g_mean.proofs.lemmas.Holds.{none-among, among-none, id-among, distinct-apart, holds-from}
use Rattle.g_graph.proofs.lemmas.Splices.{nodes_ids-joined}
use Rattle.g_mean.proofs.lemmas.Splices.{joined-run, joined-known, joined-read, joined-reads, known-among, all-wider, nodes-wider, known-split, all-among}

-- ---- inputs that stay

inputs-stay : (S : Origin → Bool) (known : List ℕ) (move : Origin → Origin) → ((a : Origin) → IsRead S known a → move a ≡ a) → (origins : List Origin) → AreRead S known origins →
    map move origins ≡ origins
inputs-stay S known move h [] r = refl
inputs-stay S known move h (a ∷ origins) r = ap₂ (λ b bs. b ∷ bs) (h a r.0) (inputs-stay S known move h origins r.1)

node-stays : (S : Origin → Bool) (known : List ℕ) (move : Origin → Origin) → ((a : Origin) → IsRead S known a → move a ≡ a) → (x : NodeTree) → NodeReads S known x → node_redirected move x ≡ x
node-stays S known move h (node id op inputs rs) r = ap (λ is. node id op is rs) (inputs-stay S known move h inputs r.0)

nodes-stay : (S : Origin → Bool) (known : List ℕ) (move : Origin → Origin) → ((a : Origin) → S a ≡ true → move a ≡ a) → (at : ℕ) → ((n p : ℕ) → n ≢ at → move (Out n p) ≡ Out n p) →
    (ns : NodeTrees) → (IsAmong at known → ⊥) → (IsAmong at (nodes_ids ns) → ⊥) → NodesRead S known ns → nodes_redirected move ns ≡ ns
nodes-stay S known move h at others no_nodes out apart r = refl
nodes-stay S known move h at others (node_then x ns) out apart r =
    ap₂ node_then (node-stays S known move stays x r.0)
    (nodes-stay S (id_of x ∷ known) move h at others ns out-more (λ k. apart (among-right at (node_ids x) (nodes_ids ns) k)) r.1)
  where
    stays : (a : Origin) → IsRead S known a → move a ≡ a
    stays a (inl t) = h a t
    stays (Arg k) (inr m) = absurd m
    stays (Out n p) (inr m) = others n p (λ e. out (subst (λ z. IsAmong z known) e m))

    out-more : IsAmong at (id_of x ∷ known) → ⊥
    out-more (inl e) = apart (among-left at (node_ids x) (nodes_ids ns) (subst (λ z. IsAmong z (node_ids x)) (sym e) (id-among x)))
    out-more (inr m) = out m

pub redirected-joined : (move : Origin → Origin) (ns ms : NodeTrees) → nodes_redirected move (joined_nodes ns ms) ≡ joined_nodes (nodes_redirected move ns) (nodes_redirected move ms)
redirected-joined move no_nodes ms = refl
redirected-joined move (node_then x ns) ms = ap (node_then (node_redirected move x)) (redirected-joined move ns ms)

joined-assoc : (ns : NodeTrees) (x : NodeTree) (ms : NodeTrees) → joined_nodes ns (node_then x ms) ≡ joined_nodes (joined_nodes ns (node_then x no_nodes)) ms
joined-assoc no_nodes x ms = refl
joined-assoc (node_then y ns) x ms = ap (node_then y) (joined-assoc ns x ms)

have-split : (c : Context) (xs : List Datum) (o : Outputs) (ns : NodeTrees) (x : NodeTree) → HaveRun c xs o (joined_nodes ns (node_then x no_nodes)) → HaveRun c xs o ns × HasRun c xs o x
have-split c xs o no_nodes x h = (tt, h.0)
have-split c xs o (node_then y ns) x h = let rest = have-split c xs o ns x h.1 in ((h.0, rest.0), rest.1)

append-nothing : (ns : List ℕ) → ns ++ [] ≡ ns
append-nothing [] = refl
append-nothing (n ∷ ns) = ap (λ ms. n ∷ ms) (append-nothing ns)

module _ (direction : Direction) (c d : Context) (context : ContextRefines no_deeper direction IsLessDefinedDatum c d) (args : List Kind) (before : NodeTrees) (x : NodeTree) (after : NodeTrees)
    (results : List Origin) (move : Origin → Origin) (can : CanRedirect args before x after results move) where
  all-distinct : distinct (nodes_ids before ++ (node_ids x ++ nodes_ids after)) ≡ true
  all-distinct = subst (λ zs. distinct zs ≡ true) (nodes_ids-joined before (node_then x after)) can.unique

  later-distinct : distinct (node_ids x ++ nodes_ids after) ≡ true
  later-distinct = (distinct-split (nodes_ids before) (node_ids x ++ nodes_ids after) all-distinct).1

  before-apart : (n : ℕ) → IsAmong n (nodes_ids before) → IsAmong n (nodes_ids after) → ⊥
  before-apart n h k =
      distinct-apart (nodes_ids before) (node_ids x ++ nodes_ids after) all-distinct n h (among-right n (node_ids x) (nodes_ids after) k)

  at-before : IsAmong (id_of x) (nodes_ids before) → ⊥
  at-before h =
      distinct-apart (nodes_ids before) (node_ids x ++ nodes_ids after) all-distinct (id_of x) h (among-left (id_of x) (node_ids x) (nodes_ids after) (id-among x))

  at-after : IsAmong (id_of x) (nodes_ids after) → ⊥
  at-after h = distinct-apart (node_ids x) (nodes_ids after) later-distinct (id_of x) (id-among x) h

  known-before : (n : ℕ) → IsAmong n (known_after [] before) → IsAmong n (nodes_ids before)
  known-before n h = by (known-among [] before n h)
    where
      by : IsAmong n [] ⊎ IsAmong n (nodes_ids before) → IsAmong n (nodes_ids before)
      by (inl k) = absurd k
      by (inr k) = k

  known-apart : (n : ℕ) → IsAmong n (id_of x ∷ known_after [] before) → IsAmong n (nodes_ids after) → ⊥
  known-apart n (inl e) k = at-after (subst (λ z. IsAmong z (nodes_ids after)) e k)
  known-apart n (inr m) k = before-apart n (known-before n m) k

  abbrev outside : Origin → Bool
  outside (Arg k) = true
  outside (Out n p) = not (some_of (λ m. n == m) (nodes_ids after))

  wider : (a : Origin) → is_argument (length args) a ≡ true → outside a ≡ true
  wider (Arg k) t = refl
  wider (Out n p) t = absurd cc

  earlier : (n p : ℕ) → IsAmong n (id_of x ∷ known_after [] before) → outside (Out n p) ≡ true
  earlier n p h = among-none n (nodes_ids after) (λ k. known-apart n h k)

  -- an output of the node is not moved to one of the later nodes
  own-apart : (n p m q : ℕ) → n ≡ id_of x → move (Out n p) ≡ Out m q → IsAmong m (nodes_ids after) → ⊥
  own-apart n p m q e f h = by (subst (λ z. IsRead (is_argument (length args)) (id_of x ∷ known_after [] before) z) (ap (λ i. move (Out i p)) (sym e) ∙ f) (can.own p))
    where
      by : IsRead (is_argument (length args)) (id_of x ∷ known_after [] before) (Out m q) → ⊥
      by (inl t) = absurd cc
      by (inr k) = known-apart m k h

  after-moves : CanMove outside move (λ n. n) (nodes_ids after)
  after-moves = record { one = λ m n h k e. e; outputs = outputs; apart = apart; fresh = fresh }
    where
      outputs : (n p : ℕ) → IsAmong n (nodes_ids after) → move (Out n p) ≡ Out n p
      outputs n p h = can.others n p (λ e. at-after (subst (λ z. IsAmong z (nodes_ids after)) e h))

      apart : (a : Origin) (n p : ℕ) → outside a ≡ true → a ≡ Out n p → IsAmong n (nodes_ids after) → ⊥
      apart (Arg k) n p t e h = absurd cc
      apart (Out i j) n p t e h =
          let same : i ≡ n = cc in none-among i (nodes_ids after) t (subst (λ z. IsAmong z (nodes_ids after)) (sym same) h)

      fresh : (a : Origin) (n p m : ℕ) → outside a ≡ true → move a ≡ Out n p → IsAmong m (nodes_ids after) → n ≢ m
      fresh (Arg k) n p m t e h f = let same : Arg k ≡ Out n p = sym (can.arguments k) ∙ e in absurd cc
      fresh (Out i j) n p m t e h f = by (cases_Bool (i == id_of x))
        where
          by : ((i == id_of x) ≡ true) ⊎ ((i == id_of x) ≡ false) → ⊥
          by (inl g) = let same : i ≡ id_of x = grind (arith, nat_tests) in own-apart i j n p same e (subst (λ z. IsAmong z (nodes_ids after)) (sym f) h)
          by (inr g) =
              let same : Out i j ≡ Out n p = sym (can.others i j (eqb-false i (id_of x) g)) ∙ e in
              let number : i ≡ n = cc in
              none-among i (nodes_ids after) t (subst (λ z. IsAmong z (nodes_ids after)) (sym f ∙ sym number) h)

  whole-read : NodesRead (is_argument (length args)) [] before × NodesRead (is_argument (length args)) (known_after [] before) (node_then x after)
  whole-read = joined-read (is_argument (length args)) [] before (node_then x after) can.closed.0

  after-reads : NodesRead outside [] after
  after-reads = nodes-wider (is_argument (length args)) outside [] (id_of x ∷ known_after [] before) wider earlier after whole-read.1.1

  after-gives : AreRead outside (known_after [] after) results
  after-gives =
      all-wider (is_argument (length args)) outside (known_after [] after) (id_of x ∷ known_after [] before) wider earlier results
      (all-among (is_argument (length args)) (known_after [] (joined_nodes before (node_then x after))) (known_after [] after ++ (id_of x ∷ known_after [] before))
      (λ n h. known-split [] (id_of x ∷ known_after [] before) after n (subst (λ zs. IsAmong n zs) (joined-known [] before (node_then x after)) h)) results can.closed.1)

  -- ---- the whole region

  first-run : (xs : List Datum) (a : Answer Outputs) → nodes_run c (joined_nodes before (node_then x no_nodes)) xs no_outputs ≡ a →
      Gives (λ o. HaveRun c xs o (joined_nodes before (node_then x no_nodes))) a
  first-run xs (Returned o did) e =
      holds-from (length args) c (joined_nodes before (node_then x no_nodes)) [] xs no_outputs o did
      (joined-reads (is_argument (length args)) [] before (node_then x no_nodes) whole-read.0 (whole-read.1.0, tt)) (λ n h k. h) first-distinct e
    where
      first-distinct : distinct (nodes_ids (joined_nodes before (node_then x no_nodes))) ≡ true
      first-distinct =
          subst (λ zs. distinct zs ≡ true) (sym (nodes_ids-joined before (node_then x no_nodes) ∙ ap (λ zs. nodes_ids before ++ zs) (append-nothing (node_ids x))))
          (distinct-split (nodes_ids before ++ node_ids x) (nodes_ids after) (subst (λ zs. distinct zs ≡ true) (sym (append_assoc (nodes_ids before) (node_ids x) (nodes_ids after))) all-distinct)).0
  first-run xs (Cut o) e = tt
  first-run xs (Exited o s) e = tt
  first-run xs (Undefined o) e = tt

  abbrev first : NodeTrees
  first = joined_nodes before (node_then x no_nodes)

  argument-stays : (a : Origin) → is_argument (length args) a ≡ true → move a ≡ a
  argument-stays (Arg k) t = can.arguments k
  argument-stays (Out n p) t = absurd cc

  known-stays : (a : Origin) → IsRead (is_argument (length args)) (known_after [] before) a → move a ≡ a
  known-stays a (inl t) = argument-stays a t
  known-stays (Arg k) (inr h) = absurd h
  known-stays (Out n p) (inr h) = can.others n p (λ e. at-before (subst (λ z. IsAmong z (nodes_ids before)) e (known-before n h)))

  -- only the later nodes change
  redirected-first : nodes_redirected move (joined_nodes before (node_then x after)) ≡ joined_nodes first (nodes_redirected move after)
  redirected-first =
      redirected-joined move before (node_then x after)
      ∙ ap₂ (λ ns y. joined_nodes ns (node_then y (nodes_redirected move after)))
      (nodes-stay (is_argument (length args)) [] move argument-stays (id_of x) (λ n p e. can.others n p e) before (λ h. h) at-before whole-read.0)
      (node-stays (is_argument (length args)) (known_after [] before) move known-stays x whole-read.1.0)
      ∙ joined-assoc before x (nodes_redirected move after)

  module _ (own-less : (xs ys : List Datum) (o q : Outputs) → Paired IsLessDefinedDatum xs ys → OutputsRefine IsLessDefinedDatum o q → HaveRun c xs o before → HasRun c xs o x →
      (p : ℕ) → IsLessDefinedDatum (o (id_of x) p) (read ys q (move (Out (id_of x) p)))) where
    after-less : (xs ys : List Datum) (o q : Outputs) → Paired IsLessDefinedDatum xs ys → OutputsRefine IsLessDefinedDatum o q → HaveRun c xs o first → ReadLessDefined outside [] move xs ys o q
    after-less xs ys o q near like have (Arg k) h = subst (λ z. IsLessDefinedDatum (at_port xs k) (read ys q z)) (sym (can.arguments k)) (paired-at IsLessDefinedDatum less-kept xs ys near k)
    after-less xs ys o q near like have (Out i j) (inr h) = absurd h
    after-less xs ys o q near like have (Out i j) (inl t) = by (cases_Bool (i == id_of x))
      where
        by : ((i == id_of x) ≡ true) ⊎ ((i == id_of x) ≡ false) → IsLessDefinedDatum (o i j) (read ys q (move (Out i j)))
        by (inl f) =
            let same : id_of x ≡ i = grind (arith, nat_tests) in
            let parts = have-split c xs o before x have in
            subst (λ n. IsLessDefinedDatum (o n j) (read ys q (move (Out n j)))) same (own-less xs ys o q near like parts.0 parts.1 j)
        by (inr f) = subst (λ z. IsLessDefinedDatum (o i j) (read ys q z)) (sym (can.others i j (eqb-false i (id_of x) f))) (like i j)

    nodes-less : (xs ys : List Datum) → Paired IsLessDefinedDatum xs ys → Refines no_deeper direction (ReadLessDefined outside (known_after [] after) move xs ys)
        (nodes_run c (joined_nodes first after) xs no_outputs) (nodes_run d (joined_nodes first (nodes_redirected move after)) ys no_outputs)
    nodes-less xs ys near =
        subst₂ (λ a b. Refines no_deeper direction (ReadLessDefined outside (known_after [] after) move xs ys) a b) (sym (joined-run c first after xs no_outputs))
        (sym (joined-run d first (nodes_redirected move after) ys no_outputs))
        (refines-then no_deeper no_deeper-compares.goes (λ o q. HaveRun c xs o first × OutputsRefine IsLessDefinedDatum o q) (ReadLessDefined outside (known_after [] after) move xs ys) direction
        (nodes_run c first xs no_outputs) (nodes_run d first ys no_outputs) (nodes_run c after xs) (nodes_run d (nodes_redirected move after) ys)
        (refines-gives no_deeper direction (λ o. HaveRun c xs o first) (OutputsRefine IsLessDefinedDatum) (nodes_run c first xs no_outputs) (nodes_run d first ys no_outputs)
        (first-run xs (nodes_run c first xs no_outputs) refl)
        (nodes-refines no_deeper no_deeper-compares direction IsLessDefinedDatum less-kept Never Always
        (never-refines no_deeper no_deeper-compares direction IsLessDefinedDatum less-kept) c d context tt first first (nodes-itself Never first) xs ys near no_outputs no_outputs
        (λ n p. less-kept.nothing)))
        (λ o q h. subst (λ ns. Refines no_deeper direction (ReadLessDefined outside (known_after [] after) move xs ys) (nodes_run c after xs o) (nodes_run d ns ys q)) (redirected-moved move after)
        (moved_nodes_refine direction c d context outside move (λ n. n) after after-moves after-reads xs ys o q (after-less xs ys o q near h.1 h.0))))

    pub redirected-refines : MeaningRefines no_deeper direction IsLessDefinedDatum (region_meaning c (region args (joined_nodes before (node_then x after)) results))
        (region_meaning d (region_redirected move (region args (joined_nodes before (node_then x after)) results)))
    redirected-refines =
        subst₂ (λ ns ms. MeaningRefines no_deeper direction IsLessDefinedDatum (region_meaning c (region args ns results)) (region_meaning d (region args ms (map move results))))
        (sym (joined-assoc before x after)) (sym redirected-first)
        (record {
          on = λ xs ys near.
              refines-then no_deeper no_deeper-compares.goes (ReadLessDefined outside (known_after [] after) move xs ys) (Paired IsLessDefinedDatum) direction
              (nodes_run c (joined_nodes first after) xs no_outputs) (nodes_run d (joined_nodes first (nodes_redirected move after)) ys no_outputs)
              (λ o. Returned (map (read xs o) results) []) (λ q. Returned (map (read ys q) (map move results)) [])
              (nodes-less xs ys near)
              (λ o q h. (reads-less direction c d context outside move (λ n. n) (nodes_ids after) after-moves xs ys (known_after [] after) o q h results after-gives, no_deeper-compares.goes.nothing));
        })

pub redirected_regions_refine : RedirectedRegionsRefine
redirected_regions_refine direction c d context args before x after results move can own-less =
    redirected-refines direction c d context args before x after results move can own-less

-- ---- another node of the same number

module _ (direction : Direction) (c d : Context) (context : ContextRefines no_deeper direction IsLessDefinedDatum c d) (args : List Kind) (before : NodeTrees) (x y : NodeTree) (after : NodeTrees)
    (results : List Origin) (reads : NodesRead (is_argument (length args)) [] before) (unique : distinct (nodes_ids before) ≡ true) (same : id_of x ≡ id_of y) where
  before-run : (xs : List Datum) (a : Answer Outputs) → nodes_run c before xs no_outputs ≡ a → Gives (λ o. HaveRun c xs o before) a
  before-run xs (Returned o did) e = holds-from (length args) c before [] xs no_outputs o did reads (λ n h k. h) unique e
  before-run xs (Cut o) e = tt
  before-run xs (Exited o s) e = tt
  before-run xs (Undefined o) e = tt

  same-refines : (ns : NodeTrees) (xs ys : List Datum) → Paired IsLessDefinedDatum xs ys → (o q : Outputs) → OutputsRefine IsLessDefinedDatum o q →
      Refines no_deeper direction (OutputsRefine IsLessDefinedDatum) (nodes_run c ns xs o) (nodes_run d ns ys q)
  same-refines ns xs ys near o q like =
      nodes-refines no_deeper no_deeper-compares direction IsLessDefinedDatum less-kept Never Always
      (never-refines no_deeper no_deeper-compares direction IsLessDefinedDatum less-kept) c d context tt ns ns (nodes-itself Never ns) xs ys near o q like

  module _ (node-refines : (xs ys : List Datum) (o q : Outputs) → Paired IsLessDefinedDatum xs ys → OutputsRefine IsLessDefinedDatum o q → HaveRun c xs o before → Refines no_deeper direction
      (Paired IsLessDefinedDatum) (node_run c x xs o) (node_run d y ys q)) where
    replaced-nodes : (xs ys : List Datum) → Paired IsLessDefinedDatum xs ys → Refines no_deeper direction (OutputsRefine IsLessDefinedDatum)
        (nodes_run c (joined_nodes before (node_then x after)) xs no_outputs) (nodes_run d (joined_nodes before (node_then y after)) ys no_outputs)
    replaced-nodes xs ys near =
        subst₂ (λ a b. Refines no_deeper direction (OutputsRefine IsLessDefinedDatum) a b) (sym (joined-run c before (node_then x after) xs no_outputs))
        (sym (joined-run d before (node_then y after) ys no_outputs))
        (refines-then no_deeper no_deeper-compares.goes (λ o q. HaveRun c xs o before × OutputsRefine IsLessDefinedDatum o q) (OutputsRefine IsLessDefinedDatum) direction
        (nodes_run c before xs no_outputs) (nodes_run d before ys no_outputs) (nodes_run c (node_then x after) xs) (nodes_run d (node_then y after) ys)
        (refines-gives no_deeper direction (λ o. HaveRun c xs o before) (OutputsRefine IsLessDefinedDatum) (nodes_run c before xs no_outputs) (nodes_run d before ys no_outputs)
        (before-run xs (nodes_run c before xs no_outputs) refl) (same-refines before xs ys near no_outputs no_outputs (λ n p. less-kept.nothing)))
        (λ o q h. refines-then no_deeper no_deeper-compares.goes (Paired IsLessDefinedDatum) (OutputsRefine IsLessDefinedDatum) direction (node_run c x xs o) (node_run d y ys q)
        (λ us. nodes_run c after xs (extended o (id_of x) us)) (λ us. nodes_run d after ys (extended q (id_of y) us))
        (node-refines xs ys o q near h.1 h.0)
        (λ us vs pairs. same-refines after xs ys near (extended o (id_of x) us) (extended q (id_of y) vs)
        (subst (λ n. OutputsRefine IsLessDefinedDatum (extended o (id_of x) us) (extended q n vs)) same
        (extended-refines no_deeper no_deeper-compares direction IsLessDefinedDatum less-kept o q h.1 (id_of x) us vs pairs)))))

    pub replaced-refines : MeaningRefines no_deeper direction IsLessDefinedDatum (region_meaning c (region args (joined_nodes before (node_then x after)) results))
        (region_meaning d (region args (joined_nodes before (node_then y after)) results))
    replaced-refines =
        record {
          on = λ xs ys near.
              refines-then no_deeper no_deeper-compares.goes (OutputsRefine IsLessDefinedDatum) (Paired IsLessDefinedDatum) direction
              (nodes_run c (joined_nodes before (node_then x after)) xs no_outputs) (nodes_run d (joined_nodes before (node_then y after)) ys no_outputs)
              (λ o. Returned (map (read xs o) results) []) (λ q. Returned (map (read ys q) results) [])
              (replaced-nodes xs ys near)
              (λ o q h. (reads-refines IsLessDefinedDatum less-kept xs ys near o q h results, no_deeper-compares.goes.nothing));
        }

pub replaced_nodes_refine : ReplacedNodesRefine
replaced_nodes_refine direction c d context args before x y after results closed unique same node-refines =
    replaced-refines direction c d context args before x y after results
    (joined-read (is_argument (length args)) [] before (node_then x after) closed.0).0
    (distinct-split (nodes_ids before) (node_ids x ++ nodes_ids after) (subst (λ zs. distinct zs ≡ true) (nodes_ids-joined before (node_then x after)) unique)).0 same node-refines
