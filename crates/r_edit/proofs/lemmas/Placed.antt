-- When a part may come in the place of a node: where what goes is not read, and nodes keep their numbers.
use Rattle.std.proofs.Common.{◌≡◌, ◌≢◌, ℕ, ◌==◌, ◌⊎◌, Bool, true, false, not, ◌&&◌, List, [], ◌∷◌, ◌++◌, length, refl, sym, ap, subst, ◌∙◌, inl, inr, arith}
use Rattle.std.proofs.lemmas.Bool.{and_parts, or_parts, false_from_ne_true}
use Rattle.g_graph.specs.declared.op.Kind.{Kind}
use Rattle.g_graph.specs.declared.op.Origin.{Origin}
use Rattle.g_graph.specs.declared.op.Origin.TheVariants.{Arg, Out}
use Rattle.g_graph.specs.Plain.{region, NodeTree, node, NodeTrees, no_nodes, node_then, id_of}
use Rattle.g_graph.specs.Ids.{node_ids, nodes_ids}
use Rattle.g_graph.specs.WellFormed.{some_of, distinct}
use Rattle.g_graph.specs.Change.{has_node}
use Rattle.g_graph.specs.Splice.{joined_nodes}
use Rattle.g_graph.proofs.lemmas.Nodes.{NodeFits, has_times, own_times}
use Rattle.g_graph.proofs.lemmas.Splices.{nodes_ids-joined}
use Rattle.g_mean.specs.Copies.{IsAmong, known_after, is_argument, CanMove, IsClosed}
use Rattle.g_mean.proofs.lemmas.Copies.{among-right}
use Rattle.g_mean.proofs.lemmas.Edits.{distinct-split}
use Rattle.g_mean.proofs.lemmas.Holds.{none-among, among-none, id-among, distinct-apart}
use Rattle.g_mean.proofs.lemmas.Splices.{joined-known, joined-read, known-among, known-split, all-among}
use Rattle.r_edit.specs.Uses.{nodes_read, is_read}
use Rattle.r_edit.specs.Parts.{CanPlace}
use Rattle.r_edit.proofs.lemmas.Parts.{all_unread, nodes_unread}

-- ---- a node in its region

-- no node of its number stands before a node
pub not_before : (objects : ℕ) (args : List Kind) (before : NodeTrees) (x : NodeTree) (after : NodeTrees) → NodeFits objects args before x after → has_node (id_of x) before ≡ false
not_before objects args before x after here =
    false_from_ne_true (has_node (id_of x) before) (λ h. omega (arith, has_times (id_of x) before h, own_times x, here.once (id_of x)))

pub read_after : (test : Origin → Bool) (before : NodeTrees) (x : NodeTree) (after : NodeTrees) → nodes_read test (joined_nodes before (node_then x after)) ≡ false → nodes_read test after ≡ false
read_after test no_nodes (node id op inputs rs) after e = (or_parts (some_of test inputs) (nodes_read test after) e).1
read_after test (node_then (node id op inputs rs) before) x after e =
    read_after test before x after (or_parts (some_of test inputs) (nodes_read test (joined_nodes before (node_then x after))) e).1

module _ (args : List Kind) (before : NodeTrees) (x : NodeTree) (after : NodeTrees) (results : List Origin) (closed : IsClosed (region args (joined_nodes before (node_then x after)) results))
    (unique : distinct (nodes_ids (joined_nodes before (node_then x after))) ≡ true) (gone : Origin → Bool) (move : Origin → Origin)
    (unread : is_read gone (region args (joined_nodes before (node_then x after)) results) ≡ false) where
  all_distinct : distinct (nodes_ids before ++ (node_ids x ++ nodes_ids after)) ≡ true
  all_distinct = subst (λ zs. distinct zs ≡ true) (nodes_ids-joined before (node_then x after)) unique

  after_apart : IsAmong (id_of x) (nodes_ids after) → ⊥
  after_apart h =
      distinct-apart (node_ids x) (nodes_ids after) (distinct-split (nodes_ids before) (node_ids x ++ nodes_ids after) all_distinct).1 (id_of x) (id-among x) h

  known_apart : (n : ℕ) → IsAmong n (id_of x ∷ known_after [] before) → IsAmong n (nodes_ids after) → ⊥
  known_apart n (inl e) k = after_apart (subst (λ z. IsAmong z (nodes_ids after)) e k)
  known_apart n (inr m) k =
      distinct-apart (nodes_ids before) (node_ids x ++ nodes_ids after) all_distinct n (by (known-among [] before n m)) (among-right n (node_ids x) (nodes_ids after) k)
    where
      by : IsAmong n [] ⊎ IsAmong n (nodes_ids before) → IsAmong n (nodes_ids before)
      by (inl j) = absurd j
      by (inr j) = j

  -- what is not gone, of arguments and of outputs of all but the later nodes
  abbrev pub outside : Origin → Bool
  outside (Arg k) = not (gone (Arg k))
  outside (Out n p) = not (some_of (λ m. n == m) (nodes_ids after)) && not (gone (Out n p))

  -- what is read is not gone
  pub outside_stays : (n p : ℕ) → outside (Out n p) ≡ true → gone (Out n p) ≡ false
  outside_stays n p t = is_not (gone (Out n p)) (and_parts (not (some_of (λ m. n == m) (nodes_ids after))) (not (gone (Out n p))) t).1
    where
      is_not : (b : Bool) → not b ≡ true → b ≡ false
      is_not true e = absurd cc
      is_not false e = refl

  earlier : (n p : ℕ) → IsAmong n (id_of x ∷ known_after [] before) → gone (Out n p) ≡ false → outside (Out n p) ≡ true
  earlier n p h e = let none = among-none n (nodes_ids after) (λ k. known_apart n h k) in λ i. none i && not (e i)

  -- origins keep their nodes, and those of other nodes stay
  module _ (arguments : (k : ℕ) → move (Arg k) ≡ Arg k) (ports : (n p : ℕ) → (q : ℕ) × (move (Out n p) ≡ Out n q)) (others : (n p : ℕ) → id_of x ≢ n → move (Out n p) ≡ Out n p) where
    moves : CanMove outside move (λ n. n) (nodes_ids after)
    moves = record { one = λ m n h k e. e; outputs = λ n p h. others n p (λ e. after_apart (subst (λ z. IsAmong z (nodes_ids after)) (sym e) h)); apart = apart; fresh = fresh }
      where
        out_apart : (n p : ℕ) → outside (Out n p) ≡ true → IsAmong n (nodes_ids after) → ⊥
        out_apart n p t h = none-among n (nodes_ids after) (and_parts (not (some_of (λ m. n == m) (nodes_ids after))) (not (gone (Out n p))) t).0 h

        apart : (a : Origin) (n p : ℕ) → outside a ≡ true → a ≡ Out n p → IsAmong n (nodes_ids after) → ⊥
        apart (Arg k) n p t e h = absurd cc
        apart (Out i j) n p t e h = let same : i ≡ n = cc in out_apart i j t (subst (λ z. IsAmong z (nodes_ids after)) (sym same) h)

        fresh : (a : Origin) (n p m : ℕ) → outside a ≡ true → move a ≡ Out n p → IsAmong m (nodes_ids after) → n ≢ m
        fresh (Arg k) n p m t e h f = let wrong : Arg k ≡ Out n p = sym (arguments k) ∙ e in absurd cc
        fresh (Out i j) n p m t e h f =
            let stays : Out i (ports i j).0 ≡ Out n p = sym (ports i j).1 ∙ e in
            let same : i ≡ n = cc in
            out_apart i j t (subst (λ z. IsAmong z (nodes_ids after)) (sym (same ∙ f)) h)

    pub can_place : CanPlace args before x after results outside move
    can_place =
        let parts = or_parts (nodes_read gone (joined_nodes before (node_then x after))) (some_of gone results) unread in
        record {
          closed = closed;
          unique = unique;
          reads = nodes_unread (length args) outside gone (id_of x ∷ known_after [] before) (λ k e. ap not e) earlier [] after
              (joined-read (is_argument (length args)) [] before (node_then x after) closed.0).1.1 (read_after gone before x after parts.0);
          gives = all_unread (length args) outside gone (id_of x ∷ known_after [] before) (λ k e. ap not e) earlier (known_after [] after) results
              (all-among (is_argument (length args)) (known_after [] (joined_nodes before (node_then x after))) (known_after [] after ++ (id_of x ∷ known_after [] before))
              (λ n h. known-split [] (id_of x ∷ known_after [] before) after n (subst (λ zs. IsAmong n zs) (joined-known [] before (node_then x after)) h)) results closed.1)
              parts.1;
          moves = moves;
        }
