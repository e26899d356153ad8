-- When a part may come in the place of a node of whose outputs uses come from elsewhere.
use Rattle.std.proofs.Common.{◌≡◌, ◌≢◌, ℕ, ◌==◌, ◌⊎◌, Bool, true, false, not, List, [], ◌∷◌, ◌++◌, length, refl, sym, ap, subst, ◌∙◌, inl, inr, arith}
use Rattle.std.proofs.lemmas.Bool.{cases_Bool, eqb-false}
use Rattle.std.proofs.lemmas.Bool.Decides.{nat_tests}
use Rattle.g_graph.specs.declared.op.Kind.{Kind}
use Rattle.g_graph.specs.declared.op.Origin.{Origin}
use Rattle.g_graph.specs.declared.op.Origin.TheVariants.{Arg, Out}
use Rattle.g_graph.specs.Plain.{NodeTree, NodeTrees, node_then, id_of}
use Rattle.g_graph.specs.Ids.{node_ids, nodes_ids}
use Rattle.g_graph.specs.WellFormed.{some_of, distinct}
use Rattle.g_graph.specs.Splice.{joined_nodes}
use Rattle.g_graph.proofs.lemmas.Splices.{nodes_ids-joined}
use Rattle.g_mean.specs.Copies.{IsAmong, IsRead, known_after, is_argument, CanMove}
use Rattle.g_mean.specs.Splices.{CanRedirect}
use Rattle.g_mean.proofs.lemmas.Copies.{among-left, among-right}
use Rattle.g_mean.proofs.lemmas.Edits.{distinct-split}
use Rattle.g_mean.proofs.lemmas.Holds.{none-among, among-none, id-among, distinct-apart}
use Rattle.g_mean.proofs.lemmas.Splices.{joined-known, joined-read, known-among, all-wider, nodes-wider, known-split, all-among}
use Rattle.r_edit.specs.Parts.{CanPlace}

module _ (args : List Kind) (before : NodeTrees) (x : NodeTree) (after : NodeTrees) (results : List Origin) (move : Origin → Origin) (can : CanRedirect args before x after results move) where
  all_distinct : distinct (nodes_ids before ++ (node_ids x ++ nodes_ids after)) ≡ true
  all_distinct = subst (λ zs. distinct zs ≡ true) (nodes_ids-joined before (node_then x after)) can.unique

  before_apart : (n : ℕ) → IsAmong n (nodes_ids before) → IsAmong n (nodes_ids after) → ⊥
  before_apart n h k = distinct-apart (nodes_ids before) (node_ids x ++ nodes_ids after) all_distinct n h (among-right n (node_ids x) (nodes_ids after) k)

  at_before : IsAmong (id_of x) (nodes_ids before) → ⊥
  at_before h = distinct-apart (nodes_ids before) (node_ids x ++ nodes_ids after) all_distinct (id_of x) h (among-left (id_of x) (node_ids x) (nodes_ids after) (id-among x))

  at_after : IsAmong (id_of x) (nodes_ids after) → ⊥
  at_after h = distinct-apart (node_ids x) (nodes_ids after) (distinct-split (nodes_ids before) (node_ids x ++ nodes_ids after) all_distinct).1 (id_of x) (id-among x) h

  known_before : (n : ℕ) → IsAmong n (known_after [] before) → IsAmong n (nodes_ids before)
  known_before n h = by (known-among [] before n h)
    where
      by : IsAmong n [] ⊎ IsAmong n (nodes_ids before) → IsAmong n (nodes_ids before)
      by (inl k) = absurd k
      by (inr k) = k

  -- what is known before the node is no output of it
  pub known_other : (n : ℕ) → IsAmong n (known_after [] before) → id_of x ≡ n → ⊥
  known_other n h e = at_before (subst (λ z. IsAmong z (nodes_ids before)) (sym e) (known_before n h))

  known_apart : (n : ℕ) → IsAmong n (id_of x ∷ known_after [] before) → IsAmong n (nodes_ids after) → ⊥
  known_apart n (inl e) k = at_after (subst (λ z. IsAmong z (nodes_ids after)) e k)
  known_apart n (inr m) k = before_apart n (known_before n m) k

  abbrev pub outside : Origin → Bool
  outside (Arg k) = true
  outside (Out n p) = not (some_of (λ m. n == m) (nodes_ids after))

  wider : (a : Origin) → is_argument (length args) a ≡ true → outside a ≡ true
  wider (Arg k) t = refl
  wider (Out n p) t = absurd cc

  earlier : (n p : ℕ) → IsAmong n (id_of x ∷ known_after [] before) → outside (Out n p) ≡ true
  earlier n p h = among-none n (nodes_ids after) (λ k. known_apart n h k)

  -- an output of the node is not moved to one of the later nodes
  own_apart : (n p m q : ℕ) → n ≡ id_of x → move (Out n p) ≡ Out m q → IsAmong m (nodes_ids after) → ⊥
  own_apart n p m q e f h = by (subst (λ z. IsRead (is_argument (length args)) (id_of x ∷ known_after [] before) z) (ap (λ i. move (Out i p)) (sym e) ∙ f) (can.own p))
    where
      by : IsRead (is_argument (length args)) (id_of x ∷ known_after [] before) (Out m q) → ⊥
      by (inl t) = absurd cc
      by (inr k) = known_apart m k h

  after_moves : CanMove outside move (λ n. n) (nodes_ids after)
  after_moves = record { one = λ m n h k e. e; outputs = outputs; apart = apart; fresh = fresh }
    where
      outputs : (n p : ℕ) → IsAmong n (nodes_ids after) → move (Out n p) ≡ Out n p
      outputs n p h = can.others n p (λ e. at_after (subst (λ z. IsAmong z (nodes_ids after)) e h))

      apart : (a : Origin) (n p : ℕ) → outside a ≡ true → a ≡ Out n p → IsAmong n (nodes_ids after) → ⊥
      apart (Arg k) n p t e h = absurd cc
      apart (Out i j) n p t e h =
          let same : i ≡ n = cc in none-among i (nodes_ids after) t (subst (λ z. IsAmong z (nodes_ids after)) (sym same) h)

      fresh : (a : Origin) (n p m : ℕ) → outside a ≡ true → move a ≡ Out n p → IsAmong m (nodes_ids after) → n ≢ m
      fresh (Arg k) n p m t e h f = let same : Arg k ≡ Out n p = sym (can.arguments k) ∙ e in absurd cc
      fresh (Out i j) n p m t e h f = by (cases_Bool (i == id_of x))
        where
          by : ((i == id_of x) ≡ true) ⊎ ((i == id_of x) ≡ false) → ⊥
          by (inl g) = let same : i ≡ id_of x = grind (arith, nat_tests) in own_apart i j n p same e (subst (λ z. IsAmong z (nodes_ids after)) (sym f) h)
          by (inr g) =
              let same : Out i j ≡ Out n p = sym (can.others i j (eqb-false i (id_of x) g)) ∙ e in
              let number : i ≡ n = cc in
              none-among i (nodes_ids after) t (subst (λ z. IsAmong z (nodes_ids after)) (sym f ∙ sym number) h)

  pub can_place_redirected : CanPlace args before x after results outside move
  can_place_redirected = record {
    closed = can.closed;
    unique = can.unique;
    reads = nodes-wider (is_argument (length args)) outside [] (id_of x ∷ known_after [] before) wider earlier after
        (joined-read (is_argument (length args)) [] before (node_then x after) can.closed.0).1.1;
    gives = all-wider (is_argument (length args)) outside (known_after [] after) (id_of x ∷ known_after [] before) wider earlier results
        (all-among (is_argument (length args)) (known_after [] (joined_nodes before (node_then x after))) (known_after [] after ++ (id_of x ∷ known_after [] before))
        (λ n h. known-split [] (id_of x ∷ known_after [] before) after n (subst (λ zs. IsAmong n zs) (joined-known [] before (node_then x after)) h)) results can.closed.1);
    moves = after_moves;
  }
