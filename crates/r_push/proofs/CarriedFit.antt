-- A region out of which a node moved fits.
use Rattle.std.proofs.Common.{◌≡◌, ◌≢◌, ℕ, zero, suc, ◌==◌, Bool, true, false, ◌&&◌, ◌||◌, cond, List, [], ◌∷◌, ◌++◌, map, length, slice_get, Option, None, Some, refl, sym, ap, subst, ◌∙◌, inl, inr, arith}
use Rattle.std.proofs.lemmas.Bool.{and_parts, eqb-false}
use Rattle.std.proofs.lemmas.Bool.Decides.{nat_tests}
use Rattle.g_graph.specs.declared.op.Kind.{Kind}
use Rattle.g_graph.specs.declared.op.Kind.TheVariants.{Value}
use Rattle.g_graph.specs.declared.op.Op.{Op}
use Rattle.g_graph.specs.declared.op.Origin.{Origin}
use Rattle.g_graph.specs.declared.op.Origin.TheVariants.{Arg, Out}
use Rattle.g_graph.specs.Plain.{region, NodeTree, node, NodeTrees, no_nodes, node_then, RegionTrees, nodes_of}
use Rattle.g_graph.specs.Ids.{node_ids, nodes_ids}
use Rattle.g_graph.specs.Signatures.{is_pure, joined, output_kinds, kind_after}
use Rattle.g_graph.specs.Scope.{is_of, known, last_index, origin_at, state_after, last_state, each_node}
use Rattle.g_graph.specs.WellFormed.{some_of, gives, node_fits, region_fits, every_region, every_in_node, every_in_nodes, distinct}
use Rattle.g_graph.specs.Replace.{nodes_redirected, origin_replaced}
use Rattle.g_graph.specs.Splice.{joined_nodes}
use Rattle.g_graph.proofs.lemmas.Indexes.{kind_absent}
use Rattle.g_graph.proofs.lemmas.Redirects.{kind_after-redirected, state_after-redirected, gives-redirected, every_in_nodes-redirected, all_unmoved}
use Rattle.g_graph.proofs.lemmas.Splices.{joined_none, joined_following, nodes_ids-joined, kind_after-joined, state_after-joined, gives-joined, every_in_nodes-joined}
use Rattle.g_graph.proofs.lemmas.Elements.{get-added}
use Rattle.g_mean.specs.Copies.{IsAmong}
use Rattle.g_mean.proofs.lemmas.Edits.{distinct-split}
use Rattle.g_mean.proofs.lemmas.Holds.{distinct-apart}
use Rattle.r_edit.proofs.lemmas.Kept.{IsState}
use Rattle.r_edit.proofs.lemmas.Scopes.{KeepsScope, kept_all, kept_node_fits, kept_nodes_fit}
use Rattle.r_edit.proofs.lemmas.AddedFit.{nothing, none-of, none-read, scope-from, scope-added, with_value, first-state-added, one-argument-more, fits-parts, fits-from, fits-again}
use Rattle.r_edit.proofs.lemmas.Pure.{pure-outputs, no-index, no-given, no-value}
use Rattle.r_push.proofs.Stays.{none-has, move-other}
use Rattle.val_core.proofs.lemmas.Options.{get-last}

module _ (args : List Kind) (n : ℕ) where
  abbrev others : List Kind
  others = with_value args

  abbrev move : Origin → Origin
  move = origin_replaced (Out n 0) (Arg (length args))

  -- where the node gives one value, and gives none later
  scope-taken : (fs cs : NodeTrees) → ((m p : ℕ) → n ≢ m → kind_after cs m p None ≡ kind_after fs m p None) → ((p : ℕ) (k : Kind) → kind_after fs n p None ≡ Some k → (p ≡ 0) × (k ≡ Value)) →
      ((k : Kind) → IsState k → (found : Option Origin) → state_after k cs found ≡ state_after k fs found) → KeepsScope nothing args fs others cs move
  scope-taken fs cs same own states = scope-from args others fs cs move kinds last
    where
      kinds : (o : Origin) (k : Kind) → known args fs o ≡ Some k → known others cs (move o) ≡ Some k
      kinds (Arg i) k e = get-added args (Value ∷ []) i k e
      kinds (Out m p) k e = by (n == m) refl
        where
          by : (t : Bool) → (n == m) ≡ t → known others cs (move (Out m p)) ≡ Some k
          by true d =
              let here : n ≡ m = grind (arith, nat_tests) in
              let only = own p k (ap (λ z. kind_after fs z p None) here ∙ e) in
              let at : move (Out m p) ≡ Arg (length args) = ap (λ t. cond (t && (0 == p)) (Arg (length args)) (Out m p)) d ∙ ap (λ q. cond (0 == q) (Arg (length args)) (Out m p)) only.0 in
              ap (known others cs) at ∙ get-last args Value ∙ ap Some (sym only.1)
          by false d = let other = eqb-false n m d in ap (known others cs) (move-other n (Arg (length args)) m p other) ∙ same m p other ∙ e

      last : (k : Kind) → IsState k → (o : Origin) → known args fs o ≡ Some k → last_state k args fs ≡ Some o → last_state k others cs ≡ Some (move o)
      last k s o e l = ap (state_after k cs) (first-state-added k s args) ∙ states k s _ ∙ l ∙ ap Some (sym (stays o e))
        where
          stays : (o : Origin) → known args fs o ≡ Some k → move o ≡ o
          stays (Arg i) e = refl
          stays (Out m p) e = by (n == m) refl
            where
              by : (t : Bool) → (n == m) ≡ t → move (Out m p) ≡ Out m p
              by true d =
                  let here : n ≡ m = grind (arith, nat_tests) in
                  absurd (no-value k s (own p k (ap (λ z. kind_after fs z p None) here ∙ e)).1)
              by false d = move-other n (Arg (length args)) m p (eqb-false n m d)

module _ (objects : ℕ) (args : List Kind) (before : NodeTrees) (n : ℕ) (op : Op) (inputs : List Origin) (rs : RegionTrees) (after : NodeTrees) (results : List Origin) (pure : is_pure op ≡ true)
    (unique : distinct (nodes_ids (joined_nodes before (node_then (node n op inputs rs) after))) ≡ true)
    (fits : every_region (region_fits objects) (region args (joined_nodes before (node_then (node n op inputs rs) after)) results) ≡ true) where
  abbrev y : NodeTree
  y = node n op inputs rs

  abbrev moved : Origin → Origin
  moved = origin_replaced (Out n 0) (Arg (length args))

  abbrev all : List Kind
  all = with_value args

  abbrev now : NodeTrees
  now = joined_nodes before (nodes_redirected moved after)

  all_distinct : distinct (nodes_ids before ++ (node_ids y ++ nodes_ids after)) ≡ true
  all_distinct = subst (λ zs. distinct zs ≡ true) (nodes_ids-joined before (node_then y after)) unique

  between-apart : (between rest : NodeTrees) → after ≡ joined_nodes between rest → IsAmong n (nodes_ids between) → ⊥
  between-apart between rest w h =
      distinct-apart (node_ids y) (nodes_ids after) (distinct-split (nodes_ids before) (node_ids y ++ nodes_ids after) all_distinct).1 n (inl refl)
      (subst (λ zs. IsAmong n zs) (sym (ap nodes_ids w ∙ nodes_ids-joined between rest)) (among-first (nodes_ids between) (nodes_ids rest) h))
    where
      among-first : (ms ns : List ℕ) → IsAmong n ms → IsAmong n (ms ++ ns)
      among-first (m ∷ ms) ns (inl e) = inl e
      among-first (m ∷ ms) ns (inr h) = inr (among-first ms ns h)
      among-first [] ns h = absurd h

  -- after the later nodes
  scope-after : (between rest : NodeTrees) → after ≡ joined_nodes between rest →
      KeepsScope nothing args (joined_nodes before (node_then y between)) all (joined_nodes before (nodes_redirected moved between)) moved
  scope-after between rest w = scope-taken args n (joined_nodes before (node_then y between)) (joined_nodes before (nodes_redirected moved between)) same own states
    where
      same : (m p : ℕ) → n ≢ m → kind_after (joined_nodes before (nodes_redirected moved between)) m p None ≡ kind_after (joined_nodes before (node_then y between)) m p None
      same m p ne =
          let other : (n == m) ≡ false = grind (arith, nat_tests, ne) in
          kind_after-joined before (nodes_redirected moved between) m p None ∙ kind_after-redirected moved between m p (kind_after before m p None)
          ∙ ap (λ t. kind_after between m p (cond t (joined (slice_get (output_kinds y) p)) (kind_after before m p None))) (sym other)
          ∙ sym (kind_after-joined before (node_then y between) m p None)

      own : (p : ℕ) (k : Kind) → kind_after (joined_nodes before (node_then y between)) n p None ≡ Some k → (p ≡ 0) × (k ≡ Value)
      own p k e =
          let self : (n == n) ≡ true = grind (arith, nat_tests) in
          by p (sym (kind_after-joined before (node_then y between) n p None
          ∙ kind_absent between n p (cond (n == n) (joined (slice_get (output_kinds y) p)) (kind_after before n p None)) (none-has n between (between-apart between rest w))
          ∙ ap (λ t. cond t (joined (slice_get (output_kinds y) p)) (kind_after before n p None)) self ∙ ap (λ ks. joined (slice_get ks p)) (pure-outputs op pure rs)) ∙ e)
        where
          by : (p : ℕ) → joined (slice_get (Some Value ∷ []) p) ≡ Some k → (p ≡ 0) × (k ≡ Value)
          by zero d = let kind : Value ≡ k = cc in (refl, sym kind)
          by (suc p) d = absurd cc

      states : (k : Kind) → IsState k → (found : Option Origin) → state_after k (joined_nodes before (nodes_redirected moved between)) found ≡
          state_after k (joined_nodes before (node_then y between)) found
      states k s found =
          state_after-joined k before (nodes_redirected moved between) found ∙ state_after-redirected moved k between (state_after k before found)
          ∙ ap (λ l. state_after k between (origin_at (λ p. Out n p) l (state_after k before found))) (sym (ap (λ ks. last_index k 0 ks None) (pure-outputs op pure rs) ∙ no-index k s))
          ∙ sym (state_after-joined k before (node_then y between) found)

  same-node : (front : NodeTrees) (x : NodeTree) → node_fits objects args front x ≡ true → node_fits objects all front x ≡ true
  same-node front (node id op' is ss) e =
      ap (λ os. node_fits objects all front (node id op' os ss)) (sym (all_unmoved (λ o. o) (λ o. refl) is))
      ∙ kept_node_fits nothing objects args all (λ o. o) front front (scope-added args front) id op' is ss (none-of is) e

  each-now : (front : List NodeTree) (rest : NodeTrees) → joined_nodes (nodes_of front) rest ≡ before →
      each_node (node_fits objects args) front (joined_nodes rest (node_then y after)) ≡ true → each_node (node_fits objects all) front (joined_nodes rest (nodes_redirected moved after)) ≡ true
  each-now front no_nodes w e =
      let here : nodes_of front ≡ before = sym (joined_none (nodes_of front)) ∙ w in
      let both = and_parts (node_fits objects args (nodes_of front) y) (each_node (node_fits objects args) (front ++ y ∷ []) after) e in
      kept_nodes_fit nothing objects args all moved (front ++ y ∷ []) front after
      (λ between rest v.
      subst (λ ns. KeepsScope nothing args ns all (joined_nodes (nodes_of front) (nodes_redirected moved between)) moved)
      (sym (joined_following front y between ∙ ap (λ ns. joined_nodes ns (node_then y between)) here))
      (subst (λ ns. KeepsScope nothing args (joined_nodes before (node_then y between)) all (joined_nodes ns (nodes_redirected moved between)) moved) (sym here) (scope-after between rest v)))
      (none-read after) both.1
  each-now front (node_then z rest) w e =
      let both = and_parts (node_fits objects args (nodes_of front) z) (each_node (node_fits objects args) (front ++ z ∷ []) (joined_nodes rest (node_then y after))) e in
      let later = each-now (front ++ z ∷ []) rest (joined_following front z rest ∙ w) both.1 in
      λ i. same-node (nodes_of front) z both.0 i && later i

  gives-same : (k : Kind) → IsState k → gives k now ≡ gives k (joined_nodes before (node_then y after))
  gives-same k s =
      gives-joined k before (nodes_redirected moved after)
      ∙ (λ i. gives k before || ((sym (ap (some_of (is_of k)) (pure-outputs op pure rs) ∙ no-given k s) i) || gives-redirected moved k after i))
      ∙ sym (gives-joined k before (node_then y after))

  pub taken-fits : (map (known all now) (map moved results) ≡ map (known args (joined_nodes before (node_then y after))) results)
      × (every_region (region_fits objects) (region all now (map moved results)) ≡ true)
  taken-fits =
      let ns = joined_nodes before (node_then y after) in
      let h = fits-parts objects args ns results fits in
      let kept = kept_all nothing objects args all moved ns now (scope-after after no_nodes (sym (joined_none after))) results (none-of results) h.last in
      let inner = and_parts (every_in_nodes (region_fits objects) before) (every_in_nodes (region_fits objects) (node_then y after))
      (sym (every_in_nodes-joined (region_fits objects) before (node_then y after)) ∙ h.inside) in
      let outer = and_parts (every_in_node (region_fits objects) y) (every_in_nodes (region_fits objects) after) inner.1 in
      let inside : every_in_nodes (region_fits objects) now ≡ true =
      every_in_nodes-joined (region_fits objects) before (nodes_redirected moved after)
      ∙ (λ i. inner.0 i && (every_in_nodes-redirected (region_fits objects) moved after ∙ outer.1) i) in (
        kept.0,
        fits-from objects all now (map moved results)
            (fits-again objects args all ns now results (map moved results) h (each-now [] before refl h.each) kept.0 kept.1 gives-same (one-argument-more args h.first) inside),
      )
