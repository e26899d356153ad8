-- A region that has no node of a number does not change where that node goes and its uses become others.
use Rattle.std.proofs.Common.{◌≡◌, ◌≢◌, ℕ, ◌==◌, ◌⊎◌, Bool, true, false, ◌&&◌, ◌||◌, cond, List, [], ◌∷◌, ◌++◌, map, length, refl, sym, ap, ap₂, subst, ◌∙◌, inl, inr, arith}
use Rattle.std.proofs.lemmas.Bool.Decides.{nat_tests}
use Rattle.g_graph.specs.declared.op.Kind.{Kind}
use Rattle.g_graph.specs.declared.op.Kind.TheVariants.{Value}
use Rattle.g_graph.specs.declared.op.Origin.{Origin}
use Rattle.g_graph.specs.declared.op.Origin.TheVariants.{Arg, Out}
use Rattle.g_graph.specs.Plain.{region, node, NodeTrees, no_nodes, node_then, id_of}
use Rattle.g_graph.specs.Ids.{node_ids, nodes_ids}
use Rattle.g_graph.specs.WellFormed.{some_of}
use Rattle.g_graph.specs.Change.{has_node}
use Rattle.g_graph.specs.Replace.{nodes_redirected, origin_replaced}
use Rattle.g_mean.specs.Copies.{IsAmong, IsRead, AreRead, NodesRead, is_argument, IsClosed, known_after}
use Rattle.g_mean.proofs.lemmas.Copies.{among-left, among-right, test-other}
use Rattle.g_mean.proofs.lemmas.Holds.{id-among}
use Rattle.g_mean.proofs.lemmas.Splices.{known-among}
use Rattle.r_edit.specs.Uses.{nodes_read, is_read, is_output_of}
use Rattle.r_edit.specs.Removal.{nodes_without}
use Rattle.r_edit.specs.Added.{arg_added}
use Rattle.r_push.specs.Rule.{carried}

-- ---- numbers

pub some-among : (n : ℕ) (ns : List ℕ) → some_of (λ m. n == m) ns ≡ true → IsAmong n ns
some-among n [] t = absurd cc
some-among n (m ∷ ns) t = by (n == m) refl t (some-among n ns)
  where
    by : (first : Bool) → (n == m) ≡ first → (first || some_of (λ k. n == k) ns) ≡ true → (some_of (λ k. n == k) ns ≡ true → IsAmong n ns) → IsAmong n (m ∷ ns)
    by true e d rest = inl (grind (arith, nat_tests))
    by false e d rest = inr (rest d)

pub among-some : (n : ℕ) (ns : List ℕ) → IsAmong n ns → some_of (λ m. n == m) ns ≡ true
among-some n [] h = absurd h
among-some n (m ∷ ns) (inl e) = let t : (n == m) ≡ true = grind (arith, nat_tests) in λ i. t i || some_of (λ k. n == k) ns
among-some n (m ∷ ns) (inr h) = by (n == m) (among-some n ns h)
  where
    by : (first : Bool) → some_of (λ k. n == k) ns ≡ true → (first || some_of (λ k. n == k) ns) ≡ true
    by true e = refl
    by false e = e

pub known-own : (ns : NodeTrees) (n : ℕ) → IsAmong n (known_after [] ns) → IsAmong n (nodes_ids ns)
known-own ns n h = by (known-among [] ns n h)
  where
    by : IsAmong n [] ⊎ IsAmong n (nodes_ids ns) → IsAmong n (nodes_ids ns)
    by (inl k) = absurd k
    by (inr k) = k

pub none-has : (n : ℕ) (ns : NodeTrees) → (IsAmong n (nodes_ids ns) → ⊥) → has_node n ns ≡ false
none-has n no_nodes apart = refl
none-has n (node_then x ns) apart =
    let own = test-other (id_of x) n (λ e. apart (among-left n (node_ids x) (nodes_ids ns) (subst (λ z. IsAmong z (node_ids x)) e (id-among x)))) in
    λ i. own i || none-has n ns (λ h. apart (among-right n (node_ids x) (nodes_ids ns) h)) i

pub without-none : (n : ℕ) (ns : NodeTrees) → (IsAmong n (nodes_ids ns) → ⊥) → nodes_without n ns ≡ ns
without-none n no_nodes apart = refl
without-none n (node_then x ns) apart =
    let own = test-other (id_of x) n (λ e. apart (among-left n (node_ids x) (nodes_ids ns) (subst (λ z. IsAmong z (node_ids x)) e (id-among x)))) in
    ap (λ t. cond t ns (node_then x (nodes_without n ns))) own ∙ ap (node_then x) (without-none n ns (λ h. apart (among-right n (node_ids x) (nodes_ids ns) h)))

-- ---- uses

module _ (n : ℕ) (to : Origin) where
  abbrev move : Origin → Origin
  move = origin_replaced (Out n 0) to

  pub move-other : (m p : ℕ) → n ≢ m → move (Out m p) ≡ Out m p
  move-other m p h = ap (λ t. cond (t && (0 == p)) to (Out m p)) (test-other n m h)

  pub inputs-stay : (count : ℕ) (known : List ℕ) → (IsAmong n known → ⊥) → (os : List Origin) → AreRead (is_argument count) known os → map move os ≡ os
  inputs-stay count known out [] r = refl
  inputs-stay count known out (a ∷ os) r = ap₂ (λ b bs. b ∷ bs) (by a r.0) (inputs-stay count known out os r.1)
    where
      by : (a : Origin) → IsRead (is_argument count) known a → move a ≡ a
      by (Arg k) h = refl
      by (Out m p) (inl t) = absurd cc
      by (Out m p) (inr h) = move-other m p (λ e. out (subst (λ z. IsAmong z known) (sym e) h))

  pub nodes-stay : (count : ℕ) (known : List ℕ) (ns : NodeTrees) → (IsAmong n known → ⊥) → (IsAmong n (nodes_ids ns) → ⊥) → NodesRead (is_argument count) known ns → nodes_redirected move ns ≡ ns
  nodes-stay count known no_nodes out apart r = refl
  nodes-stay count known (node_then (node m op is ss) ns) out apart r =
      ap₂ (λ zs ms. node_then (node m op zs ss) ms) (inputs-stay count known out is r.0.0)
      (nodes-stay count (m ∷ known) ns more (λ k. apart (among-right n (node_ids (node m op is ss)) (nodes_ids ns) k)) r.1)
    where
      more : IsAmong n (m ∷ known) → ⊥
      more (inl e) = apart (inl e)
      more (inr k) = out k

-- a region without the node has one more argument, and that is all
pub carried-elsewhere : (n : ℕ) (args : List Kind) (nodes : NodeTrees) (results : List Origin) → IsClosed (region args nodes results) → (IsAmong n (nodes_ids nodes) → ⊥) →
    carried n (region args nodes results) ≡ arg_added Value (region args nodes results)
carried-elsewhere n args nodes results closed apart =
    let to = Arg (length args) in
    let same = nodes-stay n to (length args) [] nodes (λ h. h) apart closed.0 in
    ap₂ (λ ns os. region (args ++ Value ∷ []) ns os) (ap (nodes_without n) same ∙ without-none n nodes apart)
    (inputs-stay n to (length args) (known_after [] nodes) (λ h. apart (known-own nodes n h)) results closed.1)

-- ---- a region that reads only what is there

pub known-stays : (n : ℕ) (known : List ℕ) (ns : NodeTrees) → IsAmong n known → IsAmong n (known_after known ns)
known-stays n known no_nodes h = h
known-stays n known (node_then x ns) h = known-stays n (id_of x ∷ known) ns (inr h)

module _ (n : ℕ) (count : ℕ) where
  origins-unread : (known : List ℕ) → (IsAmong n known → ⊥) → (os : List Origin) → AreRead (is_argument count) known os → some_of (is_output_of n) os ≡ false
  origins-unread known out [] r = refl
  origins-unread known out (a ∷ os) r = let rest = origins-unread known out os r.1 in λ i. by a r.0 i || rest i
    where
      by : (a : Origin) → IsRead (is_argument count) known a → is_output_of n a ≡ false
      by (Arg k) h = refl
      by (Out m p) (inl t) = absurd cc
      by (Out m p) (inr h) = test-other n m (λ e. out (subst (λ z. IsAmong z known) (sym e) h))

  nodes-unread : (known : List ℕ) (ns : NodeTrees) → (IsAmong n (known_after known ns) → ⊥) → NodesRead (is_argument count) known ns → nodes_read (is_output_of n) ns ≡ false
  nodes-unread known no_nodes late r = refl
  nodes-unread known (node_then (node m op is ss) ns) late r =
      let first = origins-unread known (λ h. late (known-stays n known (node_then (node m op is ss) ns) h)) is r.0.0 in
      let rest = nodes-unread (m ∷ known) ns late r.1 in
      λ i. first i || rest i

-- an output of no node of the region itself is not read
pub region-unread : (n : ℕ) (args : List Kind) (nodes : NodeTrees) (results : List Origin) → IsClosed (region args nodes results) → (IsAmong n (known_after [] nodes) → ⊥) →
    is_read (is_output_of n) (region args nodes results) ≡ false
region-unread n args nodes results closed late =
    let first = nodes-unread n (length args) [] nodes late closed.0 in
    let rest = origins-unread n (length args) (known_after [] nodes) late results closed.1 in
    λ i. first i || rest i
