-- What may stand instead of a node of a region: a constant, another origin for its uses, a region.
use Rattle.std.proofs.Common.{◌≡◌, ◌≢◌, ℕ, zero, suc, ◌%◌, ◌^◌, ◌<◌, ◌==◌, true, false, List, [], ◌∷◌, map, length, Some, refl, sym, ap, subst, subst₂, ◌∙◌, inl, inr, eq-eqb}
use Rattle.std.proofs.Math.Dec.{eqb-zero-suc}
use Rattle.std.proofs.Math.Nat.{mod-eq_of_lt}
use Rattle.val_core.specs.declared.values.Value.{Value}
use Rattle.val_core.specs.declared.values.Value.TheVariants.{Num}
use Rattle.val_core.specs.Values.{IsLessDefined, IsSound}
use Rattle.val_core.specs.Answers.{Returned}
use Rattle.val_core.specs.Refinement.{Direction, Refines, no_deeper}
use Rattle.g_graph.specs.declared.op.Kind.{Kind}
use Rattle.g_graph.specs.declared.op.Op.TheVariants.{Const}
use Rattle.g_graph.specs.declared.op.Origin.{Origin}
use Rattle.g_graph.specs.declared.op.Origin.TheVariants.{Arg, Out}
use Rattle.g_graph.specs.Plain.{region, NodeTree, node, NodeTrees, node_then, no_regions, id_of, PlainLambda}
use Rattle.g_graph.specs.Replace.{region_redirected, origin_replaced}
use Rattle.g_graph.specs.Splice.{args_to_inputs, joined_nodes, region_spliced}
use Rattle.g_mean.specs.Data.{Datum, val, memory, input as input_left, at_port, value_of}
use Rattle.g_mean.specs.Meaning.{Context, Outputs, read, node_run, region_meaning}
use Rattle.g_mean.specs.LessDefined.{Paired, IsSoundDatum, IsLessDefinedDatum}
use Rattle.g_mean.specs.Refining.{ContextRefines}
use Rattle.g_mean.specs.Copies.{IsRead, known_after, is_argument}
use Rattle.g_mean.specs.Holds.{HasRun, HaveRun}
use Rattle.g_mean.specs.Edits.{IsPartOf}
use Rattle.g_mean.specs.Replacement.{Linked, Replaces}
use Rattle.g_mean.specs.Splices.{FitsInto, CanRedirect}
use Rattle.g_mean.proofs.lemmas.Kept.{OutputsRefine, read-refines}
use Rattle.g_mean.proofs.lemmas.LessDefined.{less-kept}
use Rattle.g_mean.proofs.lemmas.Copies.{test-other}
use Rattle.g_mean.proofs.lemmas.Splices.{spliced_regions_refine}
use Rattle.g_mean.proofs.lemmas.Redirects.{replaced_nodes_refine, redirected_regions_refine}
use Rattle.g_mean.proofs.lemmas.Equal.{no_deeper-compares}
use Rattle.g_graph.specs.Nodes.{constant}
use Rattle.g_mean.proofs.lemmas.Constants.{constant-holds}

-- ---- a value less defined than what an operation gives

less-through : (x y : Datum) (v : Value) → IsLessDefinedDatum x y → IsLessDefined v (value_of x) → IsSound v → IsLessDefinedDatum (val v) y
less-through (val u) y v h (inl e) s = subst (λ w. IsLessDefinedDatum (val w) y) (sym e) h
less-through (memory m) y v h (inl e) s = (inr (ap val e), s, h.2)
less-through (input_left i) y v h (inl e) s = (inr (ap val e), s, h.2)
less-through x y v h (inr e) s = (inr (ap val e), s, h.2)

given-results : (ys zs : List Datum) (p q : List _) → Returned ys p ≡ Returned zs q → ys ≡ zs
given-results ys zs p q e = cc

module _ (ls ks : List PlainLambda) (l : PlainLambda) (args : List Kind) (before : NodeTrees) (x : NodeTree) (after : NodeTrees) (results : List Origin)
    (part_of : IsPartOf l (region args (joined_nodes before (node_then x after)) results)) where
  abbrev nodes : NodeTrees
  nodes = joined_nodes before (node_then x after)

  abbrev count : ℕ
  count = length args

  -- a constant input of the node carries its word
  pub input-holds : (c : Context) (xs : List Datum) (o : Outputs) (a : Origin) (u : ℕ) → HaveRun c xs o before → IsRead (is_argument count) (known_after [] before) a → constant nodes a ≡ Some u →
      (read xs o a ≡ val (Num u)) × (u < 2 ^ 32)
  input-holds c xs o a u have r e = constant-holds c count xs o before (node_then x after) a u have r e

  -- ---- a constant instead of the node

  pub word-replaces : (w : ℕ) → w < 2 ^ 32 → ((c : Context) (xs : List Datum) (o : Outputs) → HaveRun c xs o before → node_run c x xs o ≡ Returned (val (Num w) ∷ []) []) →
      Replaces ls ks (region args nodes results) (region args (joined_nodes before (node_then (node (id_of x) (Const w) [] no_regions) after)) results)
  word-replaces w small gives =
      record {
        at = λ direction global. record {
          at = λ c d context linked.
              replaced_nodes_refine direction c d context args before x (node (id_of x) (Const w) [] no_regions) after results part_of.closed part_of.unique refl
              (λ xs ys o q less refines have.
              let same : val (Num (w % 2 ^ 32)) ≡ val (Num w) = ap (λ z. val (Num z)) (mod-eq_of_lt small) in
              subst₂ (λ a b. Refines no_deeper direction (Paired IsLessDefinedDatum) a b) (sym (gives c xs o have)) (ap (λ z. Returned (z ∷ []) []) (sym same))
              (((inl refl, small, small), tt), no_deeper-compares.goes.nothing));
        };
      }

  -- ---- an input instead of its uses

  abbrev instead : Origin → Origin → Origin
  instead b a = origin_replaced (Out (id_of x) 0) b a

  instead-own : (b : Origin) → instead b (Out (id_of x) 0) ≡ b
  instead-own b = let t : (id_of x == id_of x) ≡ true = eq-eqb (id_of x) (id_of x) refl in rw t

  instead-port : (b : Origin) (p : ℕ) → instead b (Out (id_of x) (suc p)) ≡ Out (id_of x) (suc p)
  instead-port b p =
      let t : (id_of x == id_of x) ≡ true = eq-eqb (id_of x) (id_of x) refl in
      rw (t, eqb-zero-suc p)

  instead-other : (b : Origin) (n p : ℕ) → n ≢ id_of x → instead b (Out n p) ≡ Out n p
  instead-other b n p h = let t : (id_of x == n) ≡ false = test-other (id_of x) n (λ e. h (sym e)) in rw t

  can-instead : (b : Origin) → IsRead (is_argument count) (known_after [] before) b → CanRedirect args before x after results (instead b)
  can-instead b reads = record { closed = part_of.closed; unique = part_of.unique; arguments = λ k. refl; others = instead-other b; own = own }
    where
      more : (b : Origin) → IsRead (is_argument count) (known_after [] before) b → IsRead (is_argument count) (id_of x ∷ known_after [] before) b
      more b (inl t) = inl t
      more (Arg k) (inr h) = absurd h
      more (Out n p) (inr h) = inr (inr h)

      own : (p : ℕ) → IsRead (is_argument count) (id_of x ∷ known_after [] before) (instead b (Out (id_of x) p))
      own zero = subst (λ z. IsRead (is_argument count) (id_of x ∷ known_after [] before) z) (sym (instead-own b)) (more b reads)
      own (suc p) = subst (λ z. IsRead (is_argument count) (id_of x ∷ known_after [] before) z) (sym (instead-port b p)) (inr (inl refl))

  -- the node gives this value, which is less defined than what the other origin carries
  pub record GivesLessDefined (c : Context) (xs : List Datum) (o : Outputs) (b : Origin) : Type 0 where
    pub value : Value
    pub run : node_run c x xs o ≡ Returned (val value ∷ []) []
    pub less : IsLessDefined value (value_of (read xs o b))
    pub sound : IsSound value

  own-less : (b : Origin) → ((c : Context) (xs : List Datum) (o : Outputs) → HaveRun c xs o before → IsSoundDatum (read xs o b) → GivesLessDefined c xs o b) →
      (c : Context) (xs ys : List Datum) (o q : Outputs) → Paired IsLessDefinedDatum xs ys → OutputsRefine IsLessDefinedDatum o q → HaveRun c xs o before → HasRun c xs o x → (p : ℕ) →
      IsLessDefinedDatum (o (id_of x) p) (read ys q (instead b (Out (id_of x) p)))
  own-less b gives c xs ys o q less refines have ran zero =
      let pair = read-refines IsLessDefinedDatum less-kept xs ys less o q refines b in
      let g = gives c xs o have pair.1 in
      let same = given-results (val g.value ∷ []) ran.results [] ran.did (sym g.run ∙ ran.run) in
      subst₂ (λ z w. IsLessDefinedDatum z w) (ap (λ us. at_port us 0) same ∙ sym (ran.outputs 0)) (ap (read ys q) (sym (instead-own b)))
      (less-through (read xs o b) (read ys q b) g.value pair g.less g.sound)
  own-less b gives c xs ys o q less refines have ran (suc p) =
      subst (λ z. IsLessDefinedDatum (o (id_of x) (suc p)) (read ys q z)) (sym (instead-port b p)) (refines (id_of x) (suc p))

  pub input-replaces : (b : Origin) → IsRead (is_argument count) (known_after [] before) b → ((c : Context) (xs : List Datum) (o : Outputs) → HaveRun c xs o before → IsSoundDatum (read xs o b) →
      GivesLessDefined c xs o b) → Replaces ls ks (region args nodes results) (region_redirected (instead b) (region args nodes results))
  input-replaces b reads gives =
      record {
        at = λ direction global. record {
          at = λ c d context linked.
              redirected_regions_refine direction c d context args before x after results (instead b) (can-instead b reads)
              (λ xs ys o q less refines have ran p. own-less b gives c xs ys o q less refines have ran p);
        };
      }

  -- ---- a region in its place

  pub replacement-replaces : (own : List Kind) (nodes' : NodeTrees) (gives inputs : List Origin) → FitsInto args before x after results nodes' gives inputs →
      ((direction : Direction) (global : ℕ → Value) (c d : Context) → ContextRefines no_deeper direction IsLessDefinedDatum c d → Linked direction ls ks global c d →
      (xs ys : List Datum) (o q : Outputs) → Paired IsLessDefinedDatum xs ys → OutputsRefine IsLessDefinedDatum o q → HaveRun c xs o before →
      Refines no_deeper direction (Paired IsLessDefinedDatum) (node_run c x xs o) (region_meaning d (region own nodes' gives) (map (read ys q) inputs))) →
      Replaces ls ks (region args nodes results) (region_spliced (id_of x) (region_redirected (args_to_inputs inputs) (region own nodes' gives)) (region args nodes results))
  replacement-replaces own nodes' gives inputs fits refines =
      record {
        at = λ direction global. record {
          at = λ c d context linked.
              spliced_regions_refine direction c d context args before x after results own nodes' gives inputs fits
              (λ xs ys o q less outputs have. refines direction global c d context linked xs ys o q less outputs have);
        };
      }
