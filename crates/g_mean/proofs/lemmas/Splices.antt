-- A part in the place of a node that refines.
use Rattle.std.proofs.Common.{◌≡◌, ◌≢◌, ℕ, zero, suc, ◌==◌, ◌⊎◌, Bool, true, false, not, nat_lt, List, [], ◌∷◌, ◌++◌, map, length, slice_get, unwrap_or, Option, None, Some, refl, sym, ap, subst, subst₂, ◌∙◌, inl, inr, arith, eq-eqb}
use Rattle.std.proofs.Math.Path.{fun_ext}
use Rattle.std.proofs.lemmas.Bool.{cases_Bool, eqb-false}
use Rattle.std.proofs.lemmas.Bool.Decides.{nat_tests}
use Rattle.val_core.specs.declared.values.Value.TheVariants.{Bad}
use Rattle.val_core.specs.Events.{Event}
use Rattle.val_core.specs.Answers.{Answer, Returned, Cut, Exited, Undefined, then_on, Gives}
use Rattle.val_core.specs.Refinement.{Direction, Forward, Backward, Refines, no_deeper}
use Rattle.val_core.proofs.lemmas.Answers.{then_associates, then_nothing}
use Rattle.val_core.proofs.lemmas.Refinement.{refines-then, refines-gives}
use Rattle.g_graph.specs.declared.op.Kind.{Kind}
use Rattle.g_graph.specs.declared.op.Origin.{Origin}
use Rattle.g_graph.specs.declared.op.Origin.TheVariants.{Arg, Out}
use Rattle.g_graph.specs.Plain.{region, NodeTree, node, NodeTrees, no_nodes, node_then, id_of}
use Rattle.g_graph.specs.Ids.{node_ids, nodes_ids}
use Rattle.g_graph.specs.WellFormed.{some_of, distinct}
use Rattle.g_graph.specs.Replace.{nodes_redirected, region_redirected}
use Rattle.g_graph.specs.Splice.{args_to_inputs, outputs_to_results, joined_nodes, nodes_spliced, region_spliced}
use Rattle.g_mean.specs.Data.{Datum, val, at_port}
use Rattle.g_mean.specs.Meaning.{Context, Outputs, no_outputs, extended, read, region_meaning, node_run, nodes_run}
use Rattle.g_mean.specs.LessDefined.{Paired, IsSoundDatum, IsLessDefinedDatum}
use Rattle.g_mean.specs.Refining.{MeaningRefines, ContextRefines}
use Rattle.g_mean.specs.Copies.{IsAmong, IsRead, AreRead, NodesRead, known_after, is_argument, CanMove, Same, ReadSame}
use Rattle.g_mean.specs.Moves.{ReadLessDefined}
use Rattle.g_mean.specs.Holds.{HaveRun}
use Rattle.g_mean.specs.Splices.{FitsInto, SplicedRegionsRefine}
use Rattle.g_mean.proofs.lemmas.Kept.{OutputsRefine, paired-at}
use Rattle.g_mean.proofs.lemmas.Regions.{nodes-refines}
use Rattle.g_graph.proofs.lemmas.Redirects.{nodes_ids-redirected}
use Rattle.g_graph.proofs.lemmas.Splices.{nodes_ids-joined}
use Rattle.g_mean.proofs.lemmas.Equal.{no_deeper-compares}
use Rattle.g_mean.proofs.lemmas.LessDefined.{less-kept}
use Rattle.g_mean.proofs.lemmas.Calls.{nodes-itself}
use Rattle.g_mean.proofs.lemmas.Bounds.{Never, Always, never-refines}
use Rattle.g_mean.proofs.lemmas.Copies.{test-other, same-then, among-left, among-right, among-split, extended-same, extended-other, copied_nodes_mean_the_same, reads-same, redirected-moved}
use Rattle.g_mean.proofs.lemmas.Moves.{reads-less, moved_nodes_refine}
use Rattle.g_mean.proofs.lemmas.Edits.{distinct-split}
use Rattle.g_mean.proofs.lemmas.Holds.{none-among, among-none, id-among, distinct-apart, unchanged, holds-from}

-- ---- joined nodes

pub joined-run : (c : Context) (ns ms : NodeTrees) (xs : List Datum) (o : Outputs) → nodes_run c (joined_nodes ns ms) xs o ≡ then_on (nodes_run c ns xs o) (nodes_run c ms xs)
joined-run c no_nodes ms xs o = refl
joined-run c (node_then x ns) ms xs o =
    ap (then_on (node_run c x xs o)) (fun_ext (λ us. joined-run c ns ms xs (extended o (id_of x) us)))
    ∙ sym (then_associates (node_run c x xs o) (λ us. nodes_run c ns xs (extended o (id_of x) us)) (nodes_run c ms xs))

pub joined-known : (known : List ℕ) (ns ms : NodeTrees) → known_after known (joined_nodes ns ms) ≡ known_after (known_after known ns) ms
joined-known known no_nodes ms = refl
joined-known known (node_then x ns) ms = joined-known (id_of x ∷ known) ns ms

pub joined-read : (S : Origin → Bool) (known : List ℕ) (ns ms : NodeTrees) → NodesRead S known (joined_nodes ns ms) → NodesRead S known ns × NodesRead S (known_after known ns) ms
joined-read S known no_nodes ms h = (tt, h)
joined-read S known (node_then x ns) ms h =
    let rest = joined-read S (id_of x ∷ known) ns ms h.1 in
    ((h.0, rest.0), rest.1)

pub joined-reads : (S : Origin → Bool) (known : List ℕ) (ns ms : NodeTrees) → NodesRead S known ns → NodesRead S (known_after known ns) ms → NodesRead S known (joined_nodes ns ms)
joined-reads S known no_nodes ms h k = k
joined-reads S known (node_then x ns) ms h k = (h.0, joined-reads S (id_of x ∷ known) ns ms h.1 k)

spliced-joined : (before : NodeTrees) (x : NodeTree) (after part : NodeTrees) (outs : List Origin) → (IsAmong (id_of x) (nodes_ids before) → ⊥) →
    nodes_spliced (id_of x) part outs (joined_nodes before (node_then x after)) ≡ joined_nodes before (joined_nodes part (nodes_redirected (outputs_to_results (id_of x) outs) after))
spliced-joined no_nodes x after part outs h = rw (eq-eqb (id_of x) (id_of x) refl)
spliced-joined (node_then y before) x after part outs h =
    let other : (id_of y == id_of x) ≡ false = test-other (id_of y) (id_of x) (λ e. h (among-left (id_of x) (node_ids y) (nodes_ids before) (subst (λ z. IsAmong z (node_ids y)) e (id-among y)))) in
    rw other (ap (node_then y) (spliced-joined before x after part outs (λ k. h (among-right (id_of x) (node_ids y) (nodes_ids before) k))))

-- known nodes are some of the nodes
pub known-among : (known : List ℕ) (ns : NodeTrees) (n : ℕ) → IsAmong n (known_after known ns) → IsAmong n known ⊎ IsAmong n (nodes_ids ns)
known-among known no_nodes n h = inl h
known-among known (node_then x ns) n h = by (known-among (id_of x ∷ known) ns n h)
  where
    by : IsAmong n (id_of x ∷ known) ⊎ IsAmong n (nodes_ids ns) → IsAmong n known ⊎ IsAmong n (node_ids x ++ nodes_ids ns)
    by (inl (inl e)) = inr (among-left n (node_ids x) (nodes_ids ns) (subst (λ z. IsAmong z (node_ids x)) (sym e) (id-among x)))
    by (inl (inr k)) = inl k
    by (inr k) = inr (among-right n (node_ids x) (nodes_ids ns) k)

-- ---- the part in its place

-- what is known of the map after the part
record ArgsToInputs (ys : List Datum) (q : Outputs) (ids : List ℕ) (outs : List Origin) (us : List Datum) (r : Outputs) : Type 0 where
  gives : us ≡ map (read ys r) outs
  others : (n : ℕ) → (IsAmong n ids → ⊥) → (p : ℕ) → r n p ≡ q n p

same-adds : {A B : Type 0} (R : A → B → Type 0) (P : B → Type 0) (a : Answer A) (b : Answer B) → ((y : B) (o : List Event) → b ≡ Returned y o → P y) → Same R a b → Same (λ x y. R x y × P y) a b
same-adds R P (Returned x o) (Returned y p) more h = ((h.0, more y p refl), h.1)
same-adds R P (Cut o) (Cut p) more h = h
same-adds R P (Exited o s) (Exited p t) more h = h
same-adds R P (Undefined o) (Undefined p) more h = h
same-adds R P (Returned x o) (Cut p) more h = absurd h
same-adds R P (Returned x o) (Exited p t) more h = absurd h
same-adds R P (Returned x o) (Undefined p) more h = absurd h
same-adds R P (Cut o) (Returned y p) more h = absurd h
same-adds R P (Cut o) (Exited p t) more h = absurd h
same-adds R P (Cut o) (Undefined p) more h = absurd h
same-adds R P (Exited o s) (Returned y p) more h = absurd h
same-adds R P (Exited o s) (Cut p) more h = absurd h
same-adds R P (Exited o s) (Undefined p) more h = absurd h
same-adds R P (Undefined o) (Returned y p) more h = absurd h
same-adds R P (Undefined o) (Cut p) more h = absurd h
same-adds R P (Undefined o) (Exited p t) more h = absurd h

-- ---- places in lists

get-some : {X : Type 0} (xs : List X) (k : ℕ) → nat_lt k (length xs) ≡ true → (x : X) × (slice_get xs k ≡ Some x)
get-some [] k h = absurd (grind (arith, nat_tests))
get-some (x ∷ xs) zero h = (x, refl)
get-some (x ∷ xs) (suc k) h = let small : nat_lt k (length xs) ≡ true = grind (arith, nat_tests) in get-some xs k small

pub get-read : (S : Origin → Bool) (known : List ℕ) (origins : List Origin) → AreRead S known origins → (k : ℕ) (b : Origin) → slice_get origins k ≡ Some b → IsRead S known b
get-read S known [] h k b e = absurd cc
get-read S known (a ∷ origins) h zero b e = let same : a ≡ b = cc in subst (λ z. IsRead S known z) same h.0
get-read S known (a ∷ origins) h (suc k) b e = get-read S known origins h.1 k b e

pub get-port : (f : Origin → Datum) (origins : List Origin) (k : ℕ) (b : Origin) → slice_get origins k ≡ Some b → at_port (map f origins) k ≡ f b
get-port f [] k b e = absurd cc
get-port f (a ∷ origins) zero b e = let same : a ≡ b = cc in ap f same
get-port f (a ∷ origins) (suc k) b e = get-port f origins k b e

no-port : (f : Origin → Datum) (origins : List Origin) (k : ℕ) → slice_get origins k ≡ None → at_port (map f origins) k ≡ val Bad
no-port f [] k e = refl
no-port f (a ∷ origins) zero e = absurd cc
no-port f (a ∷ origins) (suc k) e = no-port f origins k e

get-mapped : (f : Origin → Origin) (origins : List Origin) (k : ℕ) (b : Origin) → slice_get (map f origins) k ≡ Some b → (a : Origin) × (slice_get origins k ≡ Some a) × (f a ≡ b)
get-mapped f [] k b e = absurd cc
get-mapped f (a ∷ origins) zero b e = (a, refl, cc)
get-mapped f (a ∷ origins) (suc k) b e = get-mapped f origins k b e

-- an argument of the part comes from the input in its place
placed-is : (inputs : List Origin) (k : ℕ) → nat_lt k (length inputs) ≡ true → (b : Origin) × (slice_get inputs k ≡ Some b) × (args_to_inputs inputs (Arg k) ≡ b)
placed-is inputs k h =
    let found = get-some inputs k h in
    (found.0, found.1, ap (λ z. unwrap_or z (Arg k)) found.1)

-- ---- answers that refine and then the same

abbrev Through : {A B C : Type 0} → (A → B → Type 0) → (B → C → Type 0) → A → C → Type 0
Through {A} {B} R T x z = (y : B) × R x y × T y z

back-same : {A B C : Type 0} (direction : Direction) (R : A → B → Type 0) (T : B → C → Type 0) (a : Answer A) (y : B) (z : C) (p : List Event) → T y z →
    Refines no_deeper direction R a (Returned y p) → Refines no_deeper direction (Through R T) a (Returned z p)
back-same direction R T (Undefined o) y z p k h = tt
back-same direction R T (Returned x o) y z p k h = ((y, h.0, k), h.1)
back-same Forward R T (Cut o) y z p k h = h
back-same Backward R T (Cut o) y z p k h = absurd h
back-same direction R T (Exited o s) y z p k h = absurd h

cut-same : {A B C : Type 0} (direction : Direction) (R : A → B → Type 0) (S : A → C → Type 0) (a : Answer A) (p : List Event) → Refines no_deeper direction R a (Cut p) →
    Refines no_deeper direction S a (Cut p)
cut-same direction R S (Undefined o) p h = tt
cut-same Forward R S (Returned x o) p h = absurd h
cut-same Backward R S (Returned x o) p h = h
cut-same Forward R S (Cut o) p h = h
cut-same Backward R S (Cut o) p h = h
cut-same Forward R S (Exited o s) p h = absurd h
cut-same Backward R S (Exited o s) p h = h

exited-same : {A B C : Type 0} (direction : Direction) (R : A → B → Type 0) (S : A → C → Type 0) (a : Answer A) (p : List Event) (t : ℕ) → Refines no_deeper direction R a (Exited p t) →
    Refines no_deeper direction S a (Exited p t)
exited-same direction R S (Undefined o) p t h = tt
exited-same direction R S (Returned x o) p t h = absurd h
exited-same Forward R S (Cut o) p t h = h
exited-same Backward R S (Cut o) p t h = absurd h
exited-same direction R S (Exited o s) p t h = h

undefined-same : {A B C : Type 0} (direction : Direction) (R : A → B → Type 0) (S : A → C → Type 0) (a : Answer A) (p q : List Event) → Refines no_deeper direction R a (Undefined p) →
    Refines no_deeper direction S a (Undefined q)
undefined-same direction R S (Undefined o) p q h = tt
undefined-same direction R S (Returned x o) p q h = absurd h
undefined-same Forward R S (Cut o) p q h = tt
undefined-same Backward R S (Cut o) p q h = absurd h
undefined-same direction R S (Exited o s) p q h = absurd h

refines-same : {A B C : Type 0} (direction : Direction) (R : A → B → Type 0) (T : B → C → Type 0) (a : Answer A) (b : Answer B) (e : Answer C) → Refines no_deeper direction R a b → Same T b e →
    Refines no_deeper direction (Through R T) a e
refines-same direction R T a (Returned y p) (Returned z q) h k = subst (λ w. Refines no_deeper direction (Through R T) a (Returned z w)) k.1 (back-same direction R T a y z p k.0 h)
refines-same direction R T a (Cut p) (Cut q) h k = subst (λ w. Refines no_deeper direction (Through R T) a (Cut w)) k (cut-same direction R (Through R T) a p h)
refines-same direction R T a (Exited p t) (Exited q u) h k =
    subst (λ w. Refines no_deeper direction (Through R T) a (Exited w u)) k.0
    (subst (λ v. Refines no_deeper direction (Through R T) a (Exited p v)) k.1 (exited-same direction R (Through R T) a p t h))
refines-same direction R T a (Undefined p) (Undefined q) h k = undefined-same direction R (Through R T) a p q h
refines-same direction R T a _ _ h k = absurd k

-- what is less defined than a value without meaning has none, and is less defined than everything sound
less-nothing : (x y : Datum) → IsLessDefinedDatum x y → y ≡ val Bad → (z : Datum) → IsSoundDatum z → IsLessDefinedDatum x z
less-nothing x y h e z s = (inr (by h.0), h.1, s)
  where
    by : (x ≡ y) ⊎ (x ≡ val Bad) → x ≡ val Bad
    by (inl f) = f ∙ e
    by (inr f) = f

-- ---- what other nodes read

read-wider : (S S' : Origin → Bool) (known extra : List ℕ) → ((a : Origin) → S a ≡ true → S' a ≡ true) → ((n p : ℕ) → IsAmong n extra → S' (Out n p) ≡ true) → (a : Origin) →
    IsRead S (known ++ extra) a → IsRead S' known a
read-wider S S' known extra h k a (inl t) = inl (h a t)
read-wider S S' known extra h k (Arg j) (inr m) = absurd m
read-wider S S' known extra h k (Out n p) (inr m) = by (among-split n known extra m)
  where
    by : IsAmong n known ⊎ IsAmong n extra → IsRead S' known (Out n p)
    by (inl j) = inr j
    by (inr j) = inl (k n p j)

pub all-wider : (S S' : Origin → Bool) (known extra : List ℕ) → ((a : Origin) → S a ≡ true → S' a ≡ true) → ((n p : ℕ) → IsAmong n extra → S' (Out n p) ≡ true) → (origins : List Origin) →
    AreRead S (known ++ extra) origins → AreRead S' known origins
all-wider S S' known extra h k [] r = tt
all-wider S S' known extra h k (a ∷ origins) r =
    (read-wider S S' known extra h k a r.0, all-wider S S' known extra h k origins r.1)

pub nodes-wider : (S S' : Origin → Bool) (known extra : List ℕ) → ((a : Origin) → S a ≡ true → S' a ≡ true) → ((n p : ℕ) → IsAmong n extra → S' (Out n p) ≡ true) → (ns : NodeTrees) →
    NodesRead S (known ++ extra) ns → NodesRead S' known ns
nodes-wider S S' known extra h k no_nodes r = tt
nodes-wider S S' known extra h k (node_then (node id op inputs rs) ns) r =
    ((all-wider S S' known extra h k inputs r.0.0, r.0.1), nodes-wider S S' (id ∷ known) extra h k ns r.1)

pub known-split : (known extra : List ℕ) (ns : NodeTrees) (n : ℕ) → IsAmong n (known_after (known ++ extra) ns) → IsAmong n (known_after known ns ++ extra)
known-split known extra no_nodes n h = h
known-split known extra (node_then y ns) n h = known-split (id_of y ∷ known) extra ns n h

pub all-among : (S : Origin → Bool) (known other : List ℕ) → ((n : ℕ) → IsAmong n known → IsAmong n other) → (origins : List Origin) → AreRead S known origins → AreRead S other origins
all-among S known other h [] r = tt
all-among S known other h (a ∷ origins) r = (by a r.0, all-among S known other h origins r.1)
  where
    by : (a : Origin) → IsRead S known a → IsRead S other a
    by a (inl t) = inl t
    by (Arg k) (inr m) = absurd m
    by (Out n p) (inr m) = inr (h n m)

module _ (direction : Direction) (c d : Context) (context : ContextRefines no_deeper direction IsLessDefinedDatum c d) (args : List Kind) (before : NodeTrees) (x : NodeTree) (after : NodeTrees)
    (results : List Origin) (own : List Kind) (part : NodeTrees) (gives inputs : List Origin) (fits : FitsInto args before x after results part gives inputs) where
  all-distinct : distinct (nodes_ids before ++ (node_ids x ++ nodes_ids after)) ≡ true
  all-distinct = subst (λ zs. distinct zs ≡ true) (nodes_ids-joined before (node_then x after)) fits.unique

  later-distinct : distinct (node_ids x ++ nodes_ids after) ≡ true
  later-distinct = (distinct-split (nodes_ids before) (node_ids x ++ nodes_ids after) all-distinct).1

  before-apart : (n : ℕ) → IsAmong n (nodes_ids before) → IsAmong n (nodes_ids after) → ⊥
  before-apart n h k =
      distinct-apart (nodes_ids before) (node_ids x ++ nodes_ids after) all-distinct n h (among-right n (node_ids x) (nodes_ids after) k)

  at-before : IsAmong (id_of x) (nodes_ids before) → ⊥
  at-before h =
      distinct-apart (nodes_ids before) (node_ids x ++ nodes_ids after) all-distinct (id_of x) h (among-left (id_of x) (node_ids x) (nodes_ids after) (id-among x))

  at-after : IsAmong (id_of x) (nodes_ids after) → ⊥
  at-after h = distinct-apart (node_ids x) (nodes_ids after) later-distinct (id_of x) (id-among x) h

  part-before : (n : ℕ) → IsAmong n (nodes_ids part) → IsAmong n (nodes_ids before) → ⊥
  part-before n h k = fits.apart n h (among-left n (nodes_ids before) (id_of x ∷ nodes_ids after) k)

  part-at : IsAmong (id_of x) (nodes_ids part) → ⊥
  part-at h = fits.apart (id_of x) h (among-right (id_of x) (nodes_ids before) (id_of x ∷ nodes_ids after) (inl refl))

  part-after : (n : ℕ) → IsAmong n (nodes_ids part) → IsAmong n (nodes_ids after) → ⊥
  part-after n h k = fits.apart n h (among-right n (nodes_ids before) (id_of x ∷ nodes_ids after) (inr k))

  known-before : (n : ℕ) → IsAmong n (known_after [] before) → IsAmong n (nodes_ids before)
  known-before n h = by (known-among [] before n h)
    where
      by : IsAmong n [] ⊎ IsAmong n (nodes_ids before) → IsAmong n (nodes_ids before)
      by (inl k) = absurd k
      by (inr k) = k

  -- an input is an output of an earlier node, if it is one
  input-before : (k : ℕ) (b : Origin) (n p : ℕ) → slice_get inputs k ≡ Some b → b ≡ Out n p → IsAmong n (nodes_ids before)
  input-before k b n p e f = by (subst (λ z. IsRead (is_argument (length args)) (known_after [] before) z) f
      (get-read (is_argument (length args)) (known_after [] before) inputs fits.inputs_known k b e))
    where
      by : IsRead (is_argument (length args)) (known_after [] before) (Out n p) → IsAmong n (nodes_ids before)
      by (inl t) = absurd cc
      by (inr h) = known-before n h

  -- ---- the part

  abbrev outs : List Origin
  outs = map (args_to_inputs inputs) gives

  abbrev small : Origin → Bool
  small a = is_argument (length inputs) a

  part-moves : CanMove small (args_to_inputs inputs) (λ n. n) (nodes_ids part)
  part-moves = record { one = λ m n h k e. e; outputs = λ n p h. refl; apart = apart; fresh = fresh }
    where
      apart : (a : Origin) (n p : ℕ) → small a ≡ true → a ≡ Out n p → IsAmong n (nodes_ids part) → ⊥
      apart (Arg k) n p t e h = absurd cc
      apart (Out m q) n p t e h = absurd cc

      fresh : (a : Origin) (n p m : ℕ) → small a ≡ true → args_to_inputs inputs a ≡ Out n p → IsAmong m (nodes_ids part) → n ≢ m
      fresh (Out i q) n p m t e h f = absurd cc
      fresh (Arg k) n p m t e h f =
          let found = placed-is inputs k t in
          part-before m h (subst (λ z. IsAmong z (nodes_ids before)) f (input-before k found.0 n p found.1 (sym found.2 ∙ e)))

  part-read : (ys : List Datum) (q : Outputs) → ReadSame small [] (args_to_inputs inputs) (map (read ys q) inputs) ys no_outputs q
  part-read ys q (Arg k) (inl t) =
      let found = placed-is inputs k t in
      ap (read ys q) found.2 ∙ sym (get-port (read ys q) inputs k found.0 found.1)
  part-read ys q (Arg k) (inr h) = absurd h
  part-read ys q (Out n p) (inl t) = absurd cc
  part-read ys q (Out n p) (inr h) = absurd h

  part-placed : (ys : List Datum) (q : Outputs) →
      Same (ArgsToInputs ys q (nodes_ids part) outs) (region_meaning d (region own part gives) (map (read ys q) inputs)) (nodes_run d (nodes_redirected (args_to_inputs inputs) part) ys q)
  part-placed ys q =
      let vs = map (read ys q) inputs in
      let origin_replaced = redirected-moved (args_to_inputs inputs) part in
      let nodes = subst (λ ns. Same (ReadSame small (known_after [] part) (args_to_inputs inputs) vs ys) (nodes_run d part vs no_outputs) (nodes_run d ns ys q)) origin_replaced
      (copied_nodes_mean_the_same small (args_to_inputs inputs) (λ n. n) part part-moves fits.part_reads d vs ys no_outputs q (part-read ys q)) in
      let others = same-adds (ReadSame small (known_after [] part) (args_to_inputs inputs) vs ys) (λ r. (n : ℕ) → (IsAmong n (nodes_ids part) → ⊥) → (p : ℕ) → r n p ≡ q n p)
      (nodes_run d part vs no_outputs) (nodes_run d (nodes_redirected (args_to_inputs inputs) part) ys q)
      (λ r o e n h p. unchanged d (nodes_redirected (args_to_inputs inputs) part) ys q r o e n (λ k. h (subst (λ zs. IsAmong n zs) (nodes_ids-redirected (args_to_inputs inputs) part) k)) p) nodes in
      subst (λ b. Same (ArgsToInputs ys q (nodes_ids part) outs) (region_meaning d (region own part gives) vs) b) (then_nothing (nodes_run d (nodes_redirected (args_to_inputs inputs) part) ys q))
      (same-then (λ o r. ReadSame small (known_after [] part) (args_to_inputs inputs) vs ys o r × ((n : ℕ) → (IsAmong n (nodes_ids part) → ⊥) → (p : ℕ) → r n p ≡ q n p))
      (ArgsToInputs ys q (nodes_ids part) outs)
      (nodes_run d part vs no_outputs) (nodes_run d (nodes_redirected (args_to_inputs inputs) part) ys q) (λ o. Returned (map (read vs o) gives) []) (λ r. Returned r []) others
      (λ o r h. (record { gives = sym (reads-same small (known_after [] part) (args_to_inputs inputs) vs ys o r h.0 gives fits.part_gives); others = h.1 }, refl)))

  -- ---- the nodes after it

  -- an origin that a result of the part comes from
  out-from : (j : ℕ) (b : Origin) (n p : ℕ) → slice_get outs j ≡ Some b → b ≡ Out n p → IsAmong n (nodes_ids before) ⊎ IsAmong n (nodes_ids part)
  out-from j b n p e f =
      let found = get-mapped (args_to_inputs inputs) gives j b e in
      by found.0 (get-read small (known_after [] part) gives fits.part_gives j found.0 found.1) (found.2 ∙ f)
    where
      by : (g : Origin) → IsRead small (known_after [] part) g → args_to_inputs inputs g ≡ Out n p → IsAmong n (nodes_ids before) ⊎ IsAmong n (nodes_ids part)
      by (Arg k) (inl t) e = let found = placed-is inputs k t in inl (input-before k found.0 n p found.1 (sym found.2 ∙ e))
      by (Arg k) (inr h) e = absurd h
      by (Out m q) (inl t) e = absurd cc
      by (Out m q) (inr h) e = let same : m ≡ n = cc in inr (subst (λ z. IsAmong z (nodes_ids part)) same (from (known-among [] part m h)))
        where
          from : IsAmong m [] ⊎ IsAmong m (nodes_ids part) → IsAmong m (nodes_ids part)
          from (inl k) = absurd k
          from (inr k) = k

  abbrev avoided : List ℕ
  avoided = nodes_ids after ++ nodes_ids part

  abbrev outside : Origin → Bool
  outside (Arg k) = true
  outside (Out n p) = not (some_of (λ m. n == m) avoided)

  abbrev move : Origin → Origin
  move a = outputs_to_results (id_of x) outs a

  -- where an output of the node, or another origin, comes from
  without-other : (n p : ℕ) → n ≢ id_of x → move (Out n p) ≡ Out n p
  without-other n p h = let other : (n == id_of x) ≡ false = test-other n (id_of x) h in rw other

  without-own : (n p : ℕ) → n ≡ id_of x → move (Out n p) ≡ unwrap_or (slice_get outs p) (Out n p)
  without-own n p h = let same : (n == id_of x) ≡ true = eq-eqb n (id_of x) h in rw same

  moves-fresh : (i j n p : ℕ) → outside (Out i j) ≡ true → move (Out i j) ≡ Out n p → IsAmong n (nodes_ids after) → ⊥
  moves-fresh i j n p t e h = by (cases_Bool (i == id_of x))
    where
      at-own : i ≡ id_of x → (found : Option Origin) → slice_get outs j ≡ found → unwrap_or found (Out i j) ≡ Out n p → ⊥
      at-own f None g k = let same : i ≡ n = cc in at-after (subst (λ z. IsAmong z (nodes_ids after)) (sym same ∙ f) h)
      at-own f (Some b) g k = from (out-from j b n p g k)
        where
          from : IsAmong n (nodes_ids before) ⊎ IsAmong n (nodes_ids part) → ⊥
          from (inl m) = before-apart n m h
          from (inr m) = part-after n m h

      by : ((i == id_of x) ≡ true) ⊎ ((i == id_of x) ≡ false) → ⊥
      by (inl f) = let same : i ≡ id_of x = grind (arith, nat_tests) in at-own same (slice_get outs j) refl (sym (without-own i j same) ∙ e)
      by (inr f) =
          let same : Out i j ≡ Out n p = sym (without-other i j (eqb-false i (id_of x) f)) ∙ e in
          let number : i ≡ n = cc in
          none-among i avoided t (among-left i (nodes_ids after) (nodes_ids part) (subst (λ z. IsAmong z (nodes_ids after)) (sym number) h))

  after-moves : CanMove outside move (λ n. n) (nodes_ids after)
  after-moves = record { one = λ m n h k e. e; outputs = outputs; apart = apart; fresh = fresh }
    where
      outputs : (n p : ℕ) → IsAmong n (nodes_ids after) → move (Out n p) ≡ Out n p
      outputs n p h = without-other n p (λ e. at-after (subst (λ z. IsAmong z (nodes_ids after)) e h))

      apart : (a : Origin) (n p : ℕ) → outside a ≡ true → a ≡ Out n p → IsAmong n (nodes_ids after) → ⊥
      apart (Arg k) n p t e h = absurd cc
      apart (Out i j) n p t e h =
          let same : i ≡ n = cc in
          none-among i avoided t (among-left i (nodes_ids after) (nodes_ids part) (subst (λ z. IsAmong z (nodes_ids after)) (sym same) h))

      fresh : (a : Origin) (n p m : ℕ) → outside a ≡ true → move a ≡ Out n p → IsAmong m (nodes_ids after) → n ≢ m
      fresh (Arg k) n p m t e h f = absurd cc
      fresh (Out i j) n p m t e h f = moves-fresh i j n p t e (subst (λ z. IsAmong z (nodes_ids after)) (sym f) h)

  wider : (a : Origin) → is_argument (length args) a ≡ true → outside a ≡ true
  wider (Arg k) t = refl
  wider (Out n p) t = absurd cc

  earlier : (n p : ℕ) → IsAmong n (id_of x ∷ known_after [] before) → outside (Out n p) ≡ true
  earlier n p h = among-none n avoided (λ k. by h (among-split n (nodes_ids after) (nodes_ids part) k))
    where
      by : IsAmong n (id_of x ∷ known_after [] before) → IsAmong n (nodes_ids after) ⊎ IsAmong n (nodes_ids part) → ⊥
      by (inl e) (inl k) = at-after (subst (λ z. IsAmong z (nodes_ids after)) e k)
      by (inl e) (inr k) = part-at (subst (λ z. IsAmong z (nodes_ids part)) e k)
      by (inr m) (inl k) = before-apart n (known-before n m) k
      by (inr m) (inr k) = part-before n k (known-before n m)

  whole-read : NodesRead (is_argument (length args)) [] before × NodesRead (is_argument (length args)) (known_after [] before) (node_then x after)
  whole-read = joined-read (is_argument (length args)) [] before (node_then x after) fits.closed.0

  after-reads : NodesRead outside [] after
  after-reads = nodes-wider (is_argument (length args)) outside [] (id_of x ∷ known_after [] before) wider earlier after whole-read.1.1

  after-gives : AreRead outside (known_after [] after) results
  after-gives =
      all-wider (is_argument (length args)) outside (known_after [] after) (id_of x ∷ known_after [] before) wider earlier results
      (all-among (is_argument (length args)) (known_after [] (joined_nodes before (node_then x after))) (known_after [] after ++ (id_of x ∷ known_after [] before))
      (λ n h. known-split [] (id_of x ∷ known_after [] before) after n (subst (λ zs. IsAmong n zs) (joined-known [] before (node_then x after)) h)) results fits.closed.1)

  module _ (xs ys : List Datum) (near : Paired IsLessDefinedDatum xs ys) (o q : Outputs) (like : OutputsRefine IsLessDefinedDatum o q) (us vs : List Datum)
      (pairs : Paired IsLessDefinedDatum us vs) (r : Outputs) (place : ArgsToInputs ys q (nodes_ids part) outs vs r) where
    own-less : (j : ℕ) (found : Option Origin) → slice_get outs j ≡ found → IsLessDefinedDatum (at_port us j) (read ys r (unwrap_or found (Out (id_of x) j)))
    own-less j (Some b) e =
        subst (λ z. IsLessDefinedDatum (at_port us j) z) (ap (λ ws. at_port ws j) place.gives ∙ get-port (read ys r) outs j b e) (paired-at IsLessDefinedDatum less-kept us vs pairs j)
    own-less j None e =
        let port = paired-at IsLessDefinedDatum less-kept us vs pairs j in
        let far : at_port vs j ≡ val Bad = ap (λ ws. at_port ws j) place.gives ∙ no-port (read ys r) outs j e in
        less-nothing (at_port us j) (at_port vs j) port far (r (id_of x) j) (subst (λ z. IsSoundDatum z) (sym (place.others (id_of x) part-at j)) (like (id_of x) j).2)

    after-less : ReadLessDefined outside [] move xs ys (extended o (id_of x) us) r
    after-less (Arg k) h = paired-at IsLessDefinedDatum less-kept xs ys near k
    after-less (Out i j) (inr h) = absurd h
    after-less (Out i j) (inl t) = by (cases_Bool (i == id_of x))
      where
        by : ((i == id_of x) ≡ true) ⊎ ((i == id_of x) ≡ false) → IsLessDefinedDatum (extended o (id_of x) us i j) (read ys r (move (Out i j)))
        by (inl f) =
            let same : i ≡ id_of x = grind (arith, nat_tests) in
            subst₂ (λ z w. IsLessDefinedDatum z w) (sym (extended-same o (id_of x) us i j (sym same)))
            (ap (read ys r) (ap (λ n. unwrap_or (slice_get outs j) (Out n j)) (sym same) ∙ sym (without-own i j same))) (own-less j (slice_get outs j) refl)
        by (inr f) =
            let ne = eqb-false i (id_of x) f in
            subst₂ (λ z w. IsLessDefinedDatum z w) (sym (extended-other o (id_of x) us i j (λ e. ne (sym e))))
            (sym (place.others i (λ k. none-among i avoided t (among-right i (nodes_ids after) (nodes_ids part) k)) j) ∙ ap (read ys r) (sym (without-other i j ne))) (like i j)

  -- ---- the whole region

  have-run : (xs : List Datum) (a : Answer Outputs) → nodes_run c before xs no_outputs ≡ a → Gives (λ o. HaveRun c xs o before) a
  have-run xs (Returned o did) e =
      holds-from (length args) c before [] xs no_outputs o did whole-read.0 (λ n h k. h) (distinct-split (nodes_ids before) (node_ids x ++ nodes_ids after) all-distinct).0 e
  have-run xs (Cut o) e = tt
  have-run xs (Exited o s) e = tt
  have-run xs (Undefined o) e = tt

  module _ (node-refines : (xs ys : List Datum) (o q : Outputs) → Paired IsLessDefinedDatum xs ys → OutputsRefine IsLessDefinedDatum o q → HaveRun c xs o before → Refines no_deeper direction
      (Paired IsLessDefinedDatum) (node_run c x xs o) (region_meaning d (region own part gives) (map (read ys q) inputs))) where
    abbrev part_in_place : NodeTrees
    part_in_place = nodes_redirected (args_to_inputs inputs) part

    abbrev after_it : NodeTrees
    after_it = nodes_redirected move after

    rest-refines : (xs ys : List Datum) → Paired IsLessDefinedDatum xs ys → (o q : Outputs) → OutputsRefine IsLessDefinedDatum o q → HaveRun c xs o before →
        Refines no_deeper direction (ReadLessDefined outside (known_after [] after) move xs ys) (nodes_run c (node_then x after) xs o) (nodes_run d (joined_nodes part_in_place after_it) ys q)
    rest-refines xs ys near o q like have =
        subst (λ b. Refines no_deeper direction (ReadLessDefined outside (known_after [] after) move xs ys) (nodes_run c (node_then x after) xs o) b) (sym (joined-run d part_in_place after_it ys q))
        (refines-then no_deeper no_deeper-compares.goes (Through (Paired IsLessDefinedDatum) (ArgsToInputs ys q (nodes_ids part) outs))
        (ReadLessDefined outside (known_after [] after) move xs ys) direction
        (node_run c x xs o) (nodes_run d part_in_place ys q) (λ us. nodes_run c after xs (extended o (id_of x) us)) (nodes_run d after_it ys)
        (refines-same direction (Paired IsLessDefinedDatum) (ArgsToInputs ys q (nodes_ids part) outs) (node_run c x xs o) (region_meaning d (region own part gives) (map (read ys q) inputs))
        (nodes_run d part_in_place ys q) (node-refines xs ys o q near like have) (part-placed ys q))
        (λ us r h. subst (λ ns. Refines no_deeper direction (ReadLessDefined outside (known_after [] after) move xs ys) (nodes_run c after xs (extended o (id_of x) us)) (nodes_run d ns ys r))
        (redirected-moved move after)
        (moved_nodes_refine direction c d context outside move (λ n. n) after after-moves after-reads xs ys (extended o (id_of x) us) r (after-less xs ys near o q like us h.0 h.1 r h.2))))

    whole-refines : (xs ys : List Datum) → Paired IsLessDefinedDatum xs ys → Refines no_deeper direction (ReadLessDefined outside (known_after [] after) move xs ys)
        (nodes_run c (joined_nodes before (node_then x after)) xs no_outputs) (nodes_run d (joined_nodes before (joined_nodes part_in_place after_it)) ys no_outputs)
    whole-refines xs ys near =
        subst₂ (λ a b. Refines no_deeper direction (ReadLessDefined outside (known_after [] after) move xs ys) a b) (sym (joined-run c before (node_then x after) xs no_outputs))
        (sym (joined-run d before (joined_nodes part_in_place after_it) ys no_outputs))
        (refines-then no_deeper no_deeper-compares.goes (λ o q. HaveRun c xs o before × OutputsRefine IsLessDefinedDatum o q) (ReadLessDefined outside (known_after [] after) move xs ys) direction
        (nodes_run c before xs no_outputs) (nodes_run d before ys no_outputs) (nodes_run c (node_then x after) xs) (nodes_run d (joined_nodes part_in_place after_it) ys)
        (refines-gives no_deeper direction (λ o. HaveRun c xs o before) (OutputsRefine IsLessDefinedDatum) (nodes_run c before xs no_outputs) (nodes_run d before ys no_outputs)
        (have-run xs (nodes_run c before xs no_outputs) refl)
        (nodes-refines no_deeper no_deeper-compares direction IsLessDefinedDatum less-kept Never Always
        (never-refines no_deeper no_deeper-compares direction IsLessDefinedDatum less-kept) c d context tt before before (nodes-itself Never before) xs ys near no_outputs no_outputs
        (λ n p. less-kept.nothing)))
        (λ o q h. rest-refines xs ys near o q h.1 h.0))

    region-refines : MeaningRefines no_deeper direction IsLessDefinedDatum (region_meaning c (region args (joined_nodes before (node_then x after)) results))
        (region_meaning d (region args (joined_nodes before (joined_nodes part_in_place after_it)) (map move results)))
    region-refines =
        record {
          on = λ xs ys near.
              refines-then no_deeper no_deeper-compares.goes (ReadLessDefined outside (known_after [] after) move xs ys) (Paired IsLessDefinedDatum) direction
              (nodes_run c (joined_nodes before (node_then x after)) xs no_outputs) (nodes_run d (joined_nodes before (joined_nodes part_in_place after_it)) ys no_outputs)
              (λ o. Returned (map (read xs o) results) []) (λ q. Returned (map (read ys q) (map move results)) [])
              (whole-refines xs ys near)
              (λ o q h. (reads-less direction c d context outside move (λ n. n) (nodes_ids after) after-moves xs ys (known_after [] after) o q h results after-gives, no_deeper-compares.goes.nothing));
        }

    pub spliced-refines : MeaningRefines no_deeper direction IsLessDefinedDatum (region_meaning c (region args (joined_nodes before (node_then x after)) results))
        (region_meaning d (region_spliced (id_of x) (region_redirected (args_to_inputs inputs) (region own part gives)) (region args (joined_nodes before (node_then x after)) results)))
    spliced-refines =
        subst (λ ns. MeaningRefines no_deeper direction IsLessDefinedDatum (region_meaning c (region args (joined_nodes before (node_then x after)) results))
        (region_meaning d (region args ns (map move results))))
        (sym (spliced-joined before x after part_in_place outs at-before)) region-refines

pub spliced_regions_refine : SplicedRegionsRefine
spliced_regions_refine direction c d context args before x after results own part gives inputs fits node-refines =
    spliced-refines direction c d context args before x after results own part gives inputs fits node-refines
