-- What is known at a point of a region is what is found among its arguments and the nodes before the point.
use Rattle.std.proofs.Common.{◌≡◌, ℕ, ◌+◌, zero, suc, Bool, true, false, List, [], ◌∷◌, ◌++◌, map, refl, sym, ap, ◌∙◌, arith}
use Rattle.std.specs.Prelude.{◌==◌, ◌||◌, slice_get, if◌then◌else◌}
use Rattle.std.specs.declared.option.Option.{Option}
use Rattle.std.specs.declared.option.Option.TheVariants.{Some, None}
use Rattle.g_graph.specs.declared.op.Kind.{Kind}
use Rattle.g_graph.specs.declared.op.Kind.TheVariants.{Memory, Io}
use Rattle.g_graph.specs.declared.op.Origin.{Origin}
use Rattle.g_graph.specs.declared.op.Origin.TheVariants.{Arg, Out}
use Rattle.g_graph.specs.Plain.{NodeTree, NodeTrees, no_nodes, node_then, nodes_of, id_of}
use Rattle.g_graph.specs.Signatures.{joined, output_kinds, kind_after}
use Rattle.g_graph.specs.Scope.{same_kind, known, last_index, origin_at, last_state}
use Rattle.g_graph.specs.WellFormed.{some_of}
use Rattle.g_graph.proofs.lemmas.Splices.{nodes_of_append, kind_after-joined, state_after-joined}
use Rattle.g_build_keeps.specs.Formation.{Standing, last_origin, at_start, after_node, HasBothStates}

pub record Agrees (args : List Kind) (before : NodeTrees) (c : Standing) : Type 0 where
  pub kind : (o : Origin) → known args before o ≡ c.kind o
  pub memory : last_state Memory args before ≡ Some c.memory
  pub io : last_state Io args before ≡ Some c.io

-- ---- the last origin of a kind

last_after : (k : Kind) (g f : ℕ → Origin) (first : ℕ) (ks : List Kind) (found : Option ℕ) (o : Option Origin) (q : Origin) → ((j : ℕ) → f j ≡ g (j + first)) → origin_at g found o ≡ Some q →
    origin_at g (last_index k first (map Some ks) found) o ≡ Some (last_origin k f ks q)
last_after k g f first [] found o q e h = h
last_after k g f first (j ∷ ks) found o q e h =
    last_after k g (λ p. f (suc p)) (suc first) ks (if same_kind k j then Some first else found) o (if same_kind k j then f 0 else q)
    (λ p. e (suc p) ∙ ap g (omega arith)) (by_test (same_kind k j))
  where
    by_test : (t : Bool) → origin_at g (if t then Some first else found) o ≡ Some (if t then f 0 else q)
    by_test true = ap Some (ap g (omega arith) ∙ sym (e 0))
    by_test false = h

last_among : (k : Kind) (g f : ℕ → Origin) (first : ℕ) (ks : List Kind) (found : Option ℕ) (o : Option Origin) (q : Origin) → ((j : ℕ) → f j ≡ g (j + first)) → some_of (same_kind k) ks ≡ true →
    origin_at g (last_index k first (map Some ks) found) o ≡ Some (last_origin k f ks q)
last_among k g f first [] found o q e h = absurd (cc)
last_among k g f first (j ∷ ks) found o q e h =
    by_test (same_kind k j) h (ap g (omega arith) ∙ sym (e 0)) (λ i. last_among k g (λ p. f (suc p)) (suc first) ks found o q (λ p. e (suc p) ∙ ap g (omega arith)) i)
  where
    by_test : (t : Bool) → (t || some_of (same_kind k) ks) ≡ true → g first ≡ f 0 →
        (some_of (same_kind k) ks ≡ true → origin_at g (last_index k (suc first) (map Some ks) found) o ≡ Some (last_origin k (λ p. f (suc p)) ks q)) →
        origin_at g (last_index k (suc first) (map Some ks) (if t then Some first else found)) o ≡ Some (last_origin k (λ p. f (suc p)) ks (if t then f 0 else q))
    by_test true i z r = last_after k g (λ p. f (suc p)) (suc first) ks (Some first) o (f 0) (λ p. e (suc p) ∙ ap g (omega arith)) (ap Some z)
    by_test false i z r = r i

-- ---- the start

pub agrees_start : (n : ℕ) (args : List Kind) → HasBothStates args → Agrees args no_nodes (at_start n args)
agrees_start n args h = record {
  kind = λ o. refl;
  memory = last_among Memory Arg Arg 0 args None None (Arg 0) (λ j. ap Arg (omega arith)) h.memory;
  io = last_among Io Arg Arg 0 args None None (Arg 0) (λ j. ap Arg (omega arith)) h.io;
}

-- ---- one more node

joined_get : (ks : List Kind) (p : ℕ) → joined (slice_get (map Some ks) p) ≡ slice_get ks p
joined_get [] p = refl
joined_get (k ∷ ks) zero = refl
joined_get (k ∷ ks) (suc p) = joined_get ks p

state_node : (k : Kind) (args : List Kind) (before : List NodeTree) (x : NodeTree) (ks : List Kind) (o : Origin) → output_kinds x ≡ map Some ks → last_state k args (nodes_of before) ≡ Some o →
    last_state k args (nodes_of (before ++ x ∷ [])) ≡ Some (last_origin k (Out (id_of x)) ks o)
state_node k args before x ks o e h =
    ap (last_state k args) (nodes_of_append before (x ∷ []))
    ∙ state_after-joined k (nodes_of before) (node_then x no_nodes) (origin_at Arg (last_index k 0 (map Some args) None) None)
    ∙ ap (λ s. origin_at (λ p. Out (id_of x) p) (last_index k 0 (output_kinds x) None) s) h
    ∙ ap (λ xs. origin_at (λ p. Out (id_of x) p) (last_index k 0 xs None) (Some o)) e
    ∙ last_after k (Out (id_of x)) (Out (id_of x)) 0 ks None (Some o) o (λ j. ap (Out (id_of x)) (omega arith)) refl

pub agrees_node : (args : List Kind) (before : List NodeTree) (c : Standing) (x : NodeTree) (ks : List Kind) (m : ℕ) → output_kinds x ≡ map Some ks → Agrees args (nodes_of before) c →
    Agrees args (nodes_of (before ++ x ∷ [])) (after_node c (id_of x) ks m)
agrees_node args before c x ks m e h = record {
  kind = by_origin;
  memory = state_node Memory args before x ks c.memory e h.memory;
  io = state_node Io args before x ks c.io e h.io;
}
  where
    by_origin : (o : Origin) → known args (nodes_of (before ++ x ∷ [])) o ≡ (after_node c (id_of x) ks m).kind o
    by_origin (Arg k) = h.kind (Arg k)
    by_origin (Out n p) =
        ap (λ ns. kind_after ns n p None) (nodes_of_append before (x ∷ []))
        ∙ kind_after-joined (nodes_of before) (node_then x no_nodes) n p None
        ∙ ap (λ b. if id_of x == n then joined (slice_get (output_kinds x) p) else b) (h.kind (Out n p))
        ∙ ap (λ b. if id_of x == n then b else c.kind (Out n p)) (ap (λ xs. joined (slice_get xs p)) e ∙ joined_get ks p)
