-- Two nodes in the place of one: a new one that gives a value, and one of the old number that gives what the old one
-- gave, and perhaps a value after it. The region fits.
use Rattle.std.proofs.Common.{◌≡◌, ◌≢◌, ◌≤◌, ◌+◌, ℕ, ◌==◌, Bool, true, false, ◌&&◌, ◌||◌, cond, List, [], ◌∷◌, ◌++◌, map, slice_get, Option, None, Some, refl, sym, ap, subst, ◌∙◌, arith}
use Rattle.std.proofs.lemmas.Bool.{and_parts, or_parts, eqb-false}
use Rattle.std.proofs.lemmas.Bool.Decides.{nat_tests}
use Rattle.g_graph.specs.declared.op.Kind.{Kind}
use Rattle.g_graph.specs.declared.op.Kind.TheVariants.{Value}
use Rattle.g_graph.specs.declared.op.Origin.{Origin}
use Rattle.g_graph.specs.declared.op.Origin.TheVariants.{Arg, Out}
use Rattle.g_graph.specs.Plain.{region, NodeTree, NodeTrees, no_nodes, node_then, nodes_of, id_of}
use Rattle.g_graph.specs.Ids.{node_ids, nodes_ids}
use Rattle.g_graph.specs.Signatures.{joined, output_kinds, kind_after}
use Rattle.g_graph.specs.Scope.{is_of, known, last_index, origin_at, state_after, each_node}
use Rattle.g_graph.specs.WellFormed.{all_of, some_of, gives, is_last, node_fits, region_fits, every_region, every_in_node, every_in_nodes}
use Rattle.g_graph.specs.Replace.{nodes_redirected}
use Rattle.g_graph.specs.Splice.{joined_nodes}
use Rattle.g_mean.proofs.lemmas.Copies.{test-other}
use Rattle.g_graph.proofs.lemmas.Nodes.{KeptWithin}
use Rattle.g_graph.proofs.lemmas.Redirects.{all_unmoved, nodes_unmoved}
use Rattle.g_graph.proofs.lemmas.Splices.{joined_none, joined_following, nodes_ids-joined, kind_after-joined, state_after-joined, gives-joined, every_in_nodes-joined}
use Rattle.g_graph.proofs.lemmas.Indexes.{has_node-joined, kind_known}
use Rattle.g_graph.proofs.lemmas.Unique.{times, times_append}
use Rattle.g_graph.specs.Change.{has_node}
use Rattle.r_edit.proofs.lemmas.Kept.{IsState}
use Rattle.r_edit.proofs.lemmas.Scopes.{KeepsScope, kept_all, kept_nodes_fit}
use Rattle.r_edit.proofs.lemmas.AddedFit.{nothing, none-of, none-read, scope-from, fits-parts, fits-from, fits-again}
use Rattle.r_edit.proofs.lemmas.Pure.{no-index, no-given}

-- the outputs of the other node: those of the one, and no other state
pub record GivesAsMuch (ks js : List (Option Kind)) : Type 0 where
  pub kinds : (p : ℕ) (k : Kind) → joined (slice_get ks p) ≡ Some k → joined (slice_get js p) ≡ Some k
  pub index : (k : Kind) → IsState k → last_index k 0 js None ≡ last_index k 0 ks None
  pub state : (k : Kind) → IsState k → some_of (is_of k) js ≡ some_of (is_of k) ks

module _ (objects : ℕ) (args : List Kind) (before : NodeTrees) (x y z : NodeTree) (after : NodeTrees) (number : id_of z ≡ id_of x) (value : output_kinds y ≡ Some Value ∷ [])
    (gives_all : GivesAsMuch (output_kinds x) (output_kinds z)) (fresh : has_node (id_of y) (joined_nodes before (node_then x after)) ≡ false) where
  -- a scope with the new node among its nodes
  scope-by : (bs cs : NodeTrees) → has_node (id_of y) bs ≡ false → ((m p : ℕ) (k : Kind) → id_of y ≢ m → kind_after bs m p None ≡ Some k → kind_after cs m p None ≡ Some k) →
      ((k : Kind) → IsState k → (found : Option Origin) → state_after k cs found ≡ state_after k bs found) → KeepsScope nothing args bs args cs (λ o. o)
  scope-by bs cs none same states = scope-from args args bs cs (λ o. o) kinds (λ k s o n e. states k s _ ∙ e)
    where
      kinds : (o : Origin) (k : Kind) → known args bs o ≡ Some k → known args cs o ≡ Some k
      kinds (Arg i) k e = e
      kinds (Out m p) k e = by (id_of y == m) refl
        where
          by : (t : Bool) → (id_of y == m) ≡ t → kind_after cs m p None ≡ Some k
          by true d =
              let here : id_of y ≡ m = grind (arith, nat_tests) in
              let wrong : true ≡ false = sym (kind_known bs m p k e) ∙ ap (λ i. has_node i bs) (sym here) ∙ none in
              absurd cc
          by false d = same m p k (eqb-false (id_of y) m d) e

  -- ---- the number that is new

  absent : (has_node (id_of y) before ≡ false) × ((id_of x == id_of y) ≡ false) × (has_node (id_of y) after ≡ false)
  absent =
      let both = or_parts (has_node (id_of y) before) (has_node (id_of y) (node_then x after)) (sym (has_node-joined (id_of y) before (node_then x after)) ∙ fresh) in
      let rest = or_parts (id_of x == id_of y) (has_node (id_of y) after) both.1 in
      (both.0, rest.0, rest.1)

  absent-until : (between rest : NodeTrees) → after ≡ joined_nodes between rest → has_node (id_of y) (joined_nodes before (node_then x between)) ≡ false
  absent-until between rest w =
      let front = or_parts (has_node (id_of y) between) (has_node (id_of y) rest) (sym (has_node-joined (id_of y) between rest) ∙ ap (has_node (id_of y)) (sym w) ∙ absent.2) in
      has_node-joined (id_of y) before (node_then x between) ∙ (λ i. absent.0 i || (absent.1 i || front.0 i))

  -- ---- before the other node

  pub scope-first : KeepsScope nothing args before args (joined_nodes before (node_then y no_nodes)) (λ o. o)
  scope-first = scope-by before (joined_nodes before (node_then y no_nodes)) absent.0 same states
    where
      same : (m p : ℕ) (k : Kind) → id_of y ≢ m → kind_after before m p None ≡ Some k → kind_after (joined_nodes before (node_then y no_nodes)) m p None ≡ Some k
      same m p k ne e =
          kind_after-joined before (node_then y no_nodes) m p None ∙ ap (λ t. cond t (joined (slice_get (output_kinds y) p)) (kind_after before m p None)) (test-other (id_of y) m ne) ∙ e

      states : (k : Kind) → IsState k → (found : Option Origin) → state_after k (joined_nodes before (node_then y no_nodes)) found ≡ state_after k before found
      states k s found =
          state_after-joined k before (node_then y no_nodes) found
          ∙ ap (λ l. origin_at (λ p. Out (id_of y) p) l (state_after k before found)) (ap (λ ks. last_index k 0 ks None) value ∙ no-index k s)

  -- ---- after both

  kind-more : (ns : NodeTrees) (m p : ℕ) (b c : Option Kind) (k : Kind) → (b ≡ Some k → c ≡ Some k) → kind_after ns m p b ≡ Some k → kind_after ns m p c ≡ Some k
  kind-more no_nodes m p b c k h e = h e
  kind-more (node_then w ns) m p b c k h e =
      kind-more ns m p (cond (id_of w == m) (joined (slice_get (output_kinds w) p)) b) (cond (id_of w == m) (joined (slice_get (output_kinds w) p)) c) k (by (id_of w == m)) e
    where
      by : (t : Bool) → cond t (joined (slice_get (output_kinds w) p)) b ≡ Some k → cond t (joined (slice_get (output_kinds w) p)) c ≡ Some k
      by true d = d
      by false d = h d

  scope-after : (between rest : NodeTrees) → after ≡ joined_nodes between rest →
      KeepsScope nothing args (joined_nodes before (node_then x between)) args (joined_nodes before (node_then y (node_then z between))) (λ o. o)
  scope-after between rest w =
      scope-by (joined_nodes before (node_then x between)) (joined_nodes before (node_then y (node_then z between))) (absent-until between rest w) same states
    where
      same : (m p : ℕ) (k : Kind) → id_of y ≢ m → kind_after (joined_nodes before (node_then x between)) m p None ≡ Some k →
          kind_after (joined_nodes before (node_then y (node_then z between))) m p None ≡ Some k
      same m p k ne e =
          kind_after-joined before (node_then y (node_then z between)) m p None
          ∙ kind-more between m p (cond (id_of x == m) (joined (slice_get (output_kinds x) p)) (kind_after before m p None))
          (cond (id_of z == m) (joined (slice_get (output_kinds z) p)) (cond (id_of y == m) (joined (slice_get (output_kinds y) p)) (kind_after before m p None))) k
          (λ d. ap (λ i. cond (i == m) (joined (slice_get (output_kinds z) p)) (cond (id_of y == m) (joined (slice_get (output_kinds y) p)) (kind_after before m p None))) number
          ∙ ap (λ t. cond (id_of x == m) (joined (slice_get (output_kinds z) p)) (cond t (joined (slice_get (output_kinds y) p)) (kind_after before m p None))) (test-other (id_of y) m ne)
          ∙ by (id_of x == m) d)
          (sym (kind_after-joined before (node_then x between) m p None) ∙ e)
        where
          by : (t : Bool) → cond t (joined (slice_get (output_kinds x) p)) (kind_after before m p None) ≡ Some k →
              cond t (joined (slice_get (output_kinds z) p)) (kind_after before m p None) ≡ Some k
          by true d = gives_all.kinds p k d
          by false d = d

      states : (k : Kind) → IsState k → (found : Option Origin) →
          state_after k (joined_nodes before (node_then y (node_then z between))) found ≡ state_after k (joined_nodes before (node_then x between)) found
      states k s found =
          state_after-joined k before (node_then y (node_then z between)) found
          ∙ ap (λ l. state_after k between (origin_at (λ p. Out (id_of z) p) (last_index k 0 (output_kinds z) None) (origin_at (λ p. Out (id_of y) p) l (state_after k before found))))
          (ap (λ ks. last_index k 0 ks None) value ∙ no-index k s)
          ∙ (λ i. state_after k between (origin_at (λ p. Out (number i) p) (gives_all.index k s i) (state_after k before found)))
          ∙ sym (state_after-joined k before (node_then x between) found)

  -- ---- the region

  module _ (results : List Origin) (fits : every_region (region_fits objects) (region args (joined_nodes before (node_then x after)) results) ≡ true)
      (y_fits : node_fits objects args before y ≡ true) (z_fits : node_fits objects args (joined_nodes before (node_then y no_nodes)) z ≡ true)
      (y_inside : every_in_node (region_fits objects) y ≡ true) (z_inside : every_in_node (region_fits objects) z ≡ true)
      (fewer : (m : ℕ) → times m (node_ids y) + times m (node_ids z) ≤ times m (node_ids x)) where
    abbrev now : NodeTrees
    now = joined_nodes before (node_then y (node_then z after))

    each-now : (front : List NodeTree) (rest : NodeTrees) → joined_nodes (nodes_of front) rest ≡ before →
        each_node (node_fits objects args) front (joined_nodes rest (node_then x after)) ≡ true → each_node (node_fits objects args) front (joined_nodes rest (node_then y (node_then z after))) ≡ true
    each-now front no_nodes w e =
        let here : nodes_of front ≡ before = sym (joined_none (nodes_of front)) ∙ w in
        let both = and_parts (node_fits objects args (nodes_of front) x) (each_node (node_fits objects args) (front ++ x ∷ []) after) e in
        let one : nodes_of (front ++ y ∷ []) ≡ joined_nodes before (node_then y no_nodes) =
        sym (joined_none (nodes_of (front ++ y ∷ []))) ∙ joined_following front y no_nodes ∙ ap (λ ns. joined_nodes ns (node_then y no_nodes)) here in
        let first = ap (λ ns. node_fits objects args ns y) here ∙ y_fits in
        let second = ap (λ ns. node_fits objects args ns z) one ∙ z_fits in
        let later = subst (λ ns. each_node (node_fits objects args) ((front ++ y ∷ []) ++ z ∷ []) ns ≡ true) (nodes_unmoved (λ o. o) (λ o. refl) after)
        (kept_nodes_fit nothing objects args args (λ o. o) (front ++ x ∷ []) ((front ++ y ∷ []) ++ z ∷ []) after
        (λ between rest v.
        subst (λ ns. KeepsScope nothing args ns args (joined_nodes (nodes_of ((front ++ y ∷ []) ++ z ∷ [])) (nodes_redirected (λ o. o) between)) (λ o. o))
        (sym (joined_following front x between ∙ ap (λ ns. joined_nodes ns (node_then x between)) here))
        (subst (λ ns. KeepsScope nothing args (joined_nodes before (node_then x between)) args ns (λ o. o))
        (sym (joined_following (front ++ y ∷ []) z (nodes_redirected (λ o. o) between) ∙ joined_following front y (node_then z (nodes_redirected (λ o. o) between))
        ∙ (λ i. joined_nodes (here i) (node_then y (node_then z (nodes_unmoved (λ o. o) (λ o. refl) between i))))))
        (scope-after between rest v)))
        (none-read after) both.1) in
        λ i. first i && (second i && later i)
    each-now front (node_then v rest) w e =
        let both = and_parts (node_fits objects args (nodes_of front) v) (each_node (node_fits objects args) (front ++ v ∷ []) (joined_nodes rest (node_then x after))) e in
        let later = each-now (front ++ v ∷ []) rest (joined_following front v rest ∙ w) both.1 in
        λ i. both.0 i && later i

    gives-same : (k : Kind) → IsState k → gives k now ≡ gives k (joined_nodes before (node_then x after))
    gives-same k s =
        gives-joined k before (node_then y (node_then z after))
        ∙ (λ i. gives k before || ((ap (some_of (is_of k)) value ∙ no-given k s) i || (gives_all.state k s i || gives k after)))
        ∙ sym (gives-joined k before (node_then x after))

    pub two-fit : KeptWithin objects (region args (joined_nodes before (node_then x after)) results) (region args now results)
    two-fit =
        let ns = joined_nodes before (node_then x after) in
        let h = fits-parts objects args ns results fits in
        let all = subst (λ os. (map (known args now) os ≡ map (known args ns) results) × (all_of (is_last args now) os ≡ true)) (all_unmoved (λ o. o) (λ o. refl) results)
        (kept_all nothing objects args args (λ o. o) ns now (scope-after after no_nodes (sym (joined_none after))) results (none-of results) h.last) in
        let inner = and_parts (every_in_nodes (region_fits objects) before) (every_in_nodes (region_fits objects) (node_then x after))
        (sym (every_in_nodes-joined (region_fits objects) before (node_then x after)) ∙ h.inside) in
        let outer = and_parts (every_in_node (region_fits objects) x) (every_in_nodes (region_fits objects) after) inner.1 in
        let inside : every_in_nodes (region_fits objects) now ≡ true =
        every_in_nodes-joined (region_fits objects) before (node_then y (node_then z after)) ∙ (λ i. inner.0 i && (y_inside i && (z_inside i && outer.1 i))) in
        record {
          kept = record {
            args = refl;
            results = all.0;
            inside = fits-from objects args now results
                (fits-again objects args args ns now results results h (each-now [] before refl h.each) all.0 all.1 gives-same h.first inside);
          };
          fewer = λ m.
              omega (
                arith,
                fewer m,
                ap (times m) (nodes_ids-joined before (node_then x after)),
                times_append m (nodes_ids before) (node_ids x ++ nodes_ids after),
                times_append m (node_ids x) (nodes_ids after),
                ap (times m) (nodes_ids-joined before (node_then y (node_then z after))),
                times_append m (nodes_ids before) (node_ids y ++ (node_ids z ++ nodes_ids after)),
                times_append m (node_ids y) (node_ids z ++ nodes_ids after),
                times_append m (node_ids z) (nodes_ids after),
              );
        }
