-- A node whose outputs come from what they carry, in its place: the region stays well formed.
use Rattle.std.proofs.Common.{◌≡◌, ◌≤◌, ℕ, zero, suc, ◌==◌, ◌⊎◌, Bool, true, false, not, ◌&&◌, ◌||◌, cond, List, []}
use Rattle.std.proofs.Common.{◌∷◌, ◌++◌, map, Option, None, Some, option_map, slice_get, refl, sym, ap, subst, ◌∙◌, inl, inr, arith}
use Rattle.std.specs.Prelude.{unwrap_or}
use Rattle.std.proofs.lemmas.Bool.{and_parts, or_parts, false_from_ne_true, not-true}
use Rattle.std.proofs.lemmas.Option.{same_Some}
use Rattle.g_graph.specs.declared.op.Kind.{Kind}
use Rattle.g_graph.specs.declared.op.Kind.TheVariants.{Value, Memory, Io}
use Rattle.g_graph.specs.declared.op.Origin.{Origin}
use Rattle.g_graph.specs.declared.op.Origin.TheVariants.{Arg, Out}
use Rattle.g_graph.specs.Plain.{RegionTree, region, NodeTree, node, NodeTrees, no_nodes, node_then, nodes_of, id_of}
use Rattle.g_graph.specs.Ids.{node_ids, nodes_ids}
use Rattle.g_graph.specs.Signatures.{joined, output_kinds, kind_after}
use Rattle.g_graph.specs.Scope.{is_of, known, last_index, origin_at, state_after, last_state, each_node}
use Rattle.g_graph.specs.WellFormed.{all_of, some_of, at_most_one, one_state_each, gives, is_last, node_fits}
use Rattle.g_graph.specs.WellFormed.{nodes_fit, results_are_last, returns_state, region_has_one_state_each, region_fits, every_region, every_in_node, every_in_nodes}
use Rattle.g_graph.specs.Change.{has_node}
use Rattle.g_graph.specs.Replace.{nodes_redirected}
use Rattle.g_graph.specs.Splice.{joined_nodes}
use Rattle.g_graph.proofs.lemmas.Indexes.{same_number_true, kind_absent, kind_known, index_kind, index_none, last_gives, gives_last}
use Rattle.g_graph.proofs.lemmas.Moved.{last_is_known}
use Rattle.g_graph.proofs.lemmas.Nodes.{NodeFits, KeptWithin, has_times, own_times}
use Rattle.g_graph.proofs.lemmas.Redirects.{nodes_ids-redirected, kind_after-redirected, state_after-redirected, gives-redirected, every_in_nodes-redirected}
use Rattle.g_graph.proofs.lemmas.Splices.{joined_none, joined_following, nodes_ids-joined, kind_after-joined, state_after-joined, gives-joined, every_in_nodes-joined}
use Rattle.g_graph.proofs.lemmas.Unique.{times, times_append, equal_back, same_number}
use Rattle.r_edit.specs.Uses.{nodes_read}
use Rattle.r_edit.specs.Places.{stays_at, kept, place_after}
use Rattle.r_edit.specs.Carried.{output_carried}
use Rattle.r_edit.proofs.lemmas.Kept.{kept_get, IsState, memory, io, some_fewer, last_follows, from_none}
use Rattle.r_edit.proofs.lemmas.Placed.{not_before}
use Rattle.r_edit.proofs.lemmas.Scopes.{KeepsScope, kept_all, kept_nodes_fit}

-- ---- a state of which there is one

some_there : (k : Kind) (xs : List (Option Kind)) (p : ℕ) → slice_get xs p ≡ Some (Some k) → is_of k (Some k) ≡ true → some_of (is_of k) xs ≡ true
some_there k [] p e s = absurd cc
some_there k (x ∷ xs) zero e s =
    let same : x ≡ Some k = same_Some x (Some k) e in
    λ i. (ap (is_of k) same ∙ s) i || some_of (is_of k) xs
some_there k (x ∷ xs) (suc p) e s = by (is_of k x) (some_there k xs p e s)
  where
    by : (t : Bool) → some_of (is_of k) xs ≡ true → (t || some_of (is_of k) xs) ≡ true
    by true h = refl
    by false h = h

none_left : (k : Kind) (stays : List Bool) (xs : List (Option Kind)) (p : ℕ) → at_most_one k xs ≡ true → slice_get xs p ≡ Some (Some k) → is_of k (Some k) ≡ true → stays_at stays p ≡ false →
    some_of (is_of k) (kept stays xs) ≡ false
none_left k stays [] p m e s t = absurd cc
none_left k [] (x ∷ xs) p m e s t = absurd cc
none_left k (true ∷ ts) (x ∷ xs) zero m e s t = absurd cc
none_left k (false ∷ ts) (x ∷ xs) zero m e s t =
    let same : is_of k x ≡ true = ap (is_of k) (same_Some x (Some k) e) ∙ s in
    some_fewer (is_of k) ts xs (not-true (some_of (is_of k) xs) (sym (ap (λ b. cond b (not (some_of (is_of k) xs)) (at_most_one k xs)) same) ∙ m))
none_left k (u ∷ ts) (x ∷ xs) (suc p) m e s t = by (is_of k x) refl m u (λ d. none_left k ts xs p d e s t)
  where
    later : some_of (is_of k) xs ≡ true
    later = some_there k xs p e s

    by : (b : Bool) → is_of k x ≡ b → cond b (not (some_of (is_of k) xs)) (at_most_one k xs) ≡ true → (v : Bool) → (at_most_one k xs ≡ true → some_of (is_of k) (kept ts xs) ≡ false) →
        some_of (is_of k) (kept (v ∷ ts) (x ∷ xs)) ≡ false
    by true q d v h = let wrong : false ≡ true = ap not (sym later) ∙ d in absurd cc
    by false q d true h = let rest = h d in λ i. q i || rest i
    by false q d false h = h d

none_index : (k : Kind) (xs : List (Option Kind)) → some_of (is_of k) xs ≡ false → last_index k 0 xs None ≡ None
none_index k xs e = by (last_index k 0 xs None) refl
  where
    by : (l : Option ℕ) → last_index k 0 xs None ≡ l → l ≡ None
    by None h = refl
    by (Some p) h = let wrong : false ≡ true = sym e ∙ (index_kind k xs p h).1 in absurd cc

-- ---- what an output carries

pub record Carries (args : List Kind) (before : NodeTrees) (outputs : List (Option Kind)) (stays : List Bool) (p : ℕ) (o : Origin) : Type 0 where
  pub kind : Kind
  pub own : joined (slice_get outputs p) ≡ Some kind
  pub outer : known args before o ≡ Some kind
  pub last : is_last args before o ≡ true
  pub goes : (kind ≡ Value) ⊎ (stays_at stays p ≡ false)

module _ (objects : ℕ) (args : List Kind) (before : NodeTrees) (x y : NodeTree) (after : NodeTrees) (cs : List (Option Origin)) (stays : List Bool) (here : NodeFits objects args before x after)
    (number : id_of y ≡ id_of x) (outputs : output_kinds y ≡ kept stays (output_kinds x)) (one : one_state_each (output_kinds x) ≡ true)
    (stay : (p : ℕ) → joined (slice_get cs p) ≡ None → stays_at stays p ≡ true)
    (carries : (p : ℕ) (o : Origin) → joined (slice_get cs p) ≡ Some o → Carries args before (output_kinds x) stays p o) where
  abbrev move : Origin → Origin
  move = output_carried (id_of x) cs stays

  none_between : (between rest : NodeTrees) → after ≡ joined_nodes between rest → has_node (id_of x) between ≡ false
  none_between between rest q =
      false_from_ne_true (has_node (id_of x) between)
      (λ h. omega (
        arith,
        has_times (id_of x) between h,
        ap (λ ns. times (id_of x) (nodes_ids ns)) q,
        ap (times (id_of x)) (nodes_ids-joined between rest),
        times_append (id_of x) (nodes_ids between) (nodes_ids rest),
        own_times x,
        here.once (id_of x),
      ))

  apart_between : (between rest : NodeTrees) → after ≡ joined_nodes between rest → (m : ℕ) → has_node m before ≡ true → has_node m between ≡ false
  apart_between between rest q m b =
      false_from_ne_true (has_node m between)
      (λ h. omega (
        arith,
        has_times m between h,
        has_times m before b,
        ap (λ ns. times m (nodes_ids ns)) q,
        ap (times m) (nodes_ids-joined between rest),
        times_append m (nodes_ids between) (nodes_ids rest),
        here.once m,
      ))

  own_apart : (m : ℕ) → has_node m before ≡ true → (id_of y == m) ≡ false
  own_apart m b =
      false_from_ne_true (id_of y == m)
      (λ h.
      let same : id_of y ≡ m = same_number (id_of y) m h in
      omega (arith, has_times m before b, own_times x, ap (λ n. times n (node_ids x)) (sym number ∙ same), here.once m))

  abbrev new_scope : NodeTrees → NodeTrees
  new_scope between = joined_nodes before (node_then y (nodes_redirected move between))

  abbrev old_scope : NodeTrees → NodeTrees
  old_scope between = joined_nodes before (node_then x between)

  -- what is known before the node is known afterwards
  outer_known : (between rest : NodeTrees) → after ≡ joined_nodes between rest → (o : Origin) (k : Kind) → known args before o ≡ Some k → known args (new_scope between) o ≡ Some k
  outer_known between rest q (Arg j) k e = e
  outer_known between rest q (Out m p) k e =
      let there = kind_known before m p k e in
      kind_after-joined before (node_then y (nodes_redirected move between)) m p None
      ∙ kind_after-redirected move between m p (cond (id_of y == m) (joined (slice_get (output_kinds y) p)) (kind_after before m p None))
      ∙ kind_absent between m p (cond (id_of y == m) (joined (slice_get (output_kinds y) p)) (kind_after before m p None)) (apart_between between rest q m there)
      ∙ ap (λ t. cond t (joined (slice_get (output_kinds y) p)) (kind_after before m p None)) (own_apart m there) ∙ e

  old_own : (between rest : NodeTrees) → after ≡ joined_nodes between rest → (n p : ℕ) → (id_of x == n) ≡ true → known args (old_scope between) (Out n p) ≡ joined (slice_get (output_kinds x) p)
  old_own between rest q n p e =
      let none : has_node n between ≡ false = ap (λ m. has_node m between) (sym (same_number (id_of x) n e)) ∙ none_between between rest q in
      kind_after-joined before (node_then x between) n p None ∙ kind_absent between n p (cond (id_of x == n) (joined (slice_get (output_kinds x) p)) (kind_after before n p None)) none
      ∙ ap (λ t. cond t (joined (slice_get (output_kinds x) p)) (kind_after before n p None)) e

  kinds_stay : (between rest : NodeTrees) → after ≡ joined_nodes between rest → (o : Origin) → known args (new_scope between) (move o) ≡ known args (old_scope between) o
  kinds_stay between rest q (Arg k) = refl
  kinds_stay between rest q (Out n p) = by (id_of x == n) refl
    where
      by_carried : (id_of x == n) ≡ true → (c : Option Origin) → joined (slice_get cs p) ≡ c →
          known args (new_scope between) (unwrap_or c (Out n (place_after stays p))) ≡ known args (old_scope between) (Out n p)
      by_carried e None w =
          let none : has_node n between ≡ false = ap (λ m. has_node m between) (sym (same_number (id_of x) n e)) ∙ none_between between rest q in
          kind_after-joined before (node_then y (nodes_redirected move between)) n (place_after stays p) None
          ∙ kind_after-redirected move between n (place_after stays p)
          (cond (id_of y == n) (joined (slice_get (output_kinds y) (place_after stays p))) (kind_after before n (place_after stays p) None))
          ∙ kind_absent between n (place_after stays p) (cond (id_of y == n) (joined (slice_get (output_kinds y) (place_after stays p))) (kind_after before n (place_after stays p) None)) none
          ∙ ap (λ t. cond t (joined (slice_get (output_kinds y) (place_after stays p))) (kind_after before n (place_after stays p) None)) (ap (λ m. m == n) number ∙ e)
          ∙ ap (λ ks. joined (slice_get ks (place_after stays p))) outputs ∙ ap joined (kept_get stays (output_kinds x) p (stay p w)) ∙ sym (old_own between rest q n p e)
      by_carried e (Some a) w =
          let c = carries p a w in
          outer_known between rest q a c.kind c.outer ∙ sym c.own ∙ sym (old_own between rest q n p e)

      by : (t : Bool) → (id_of x == n) ≡ t →
          known args (new_scope between) (cond t (unwrap_or (joined (slice_get cs p)) (Out n (place_after stays p))) (Out n p)) ≡ known args (old_scope between) (Out n p)
      by true e = by_carried e (joined (slice_get cs p)) refl
      by false e =
          kind_after-joined before (node_then y (nodes_redirected move between)) n p None
          ∙ kind_after-redirected move between n p (cond (id_of y == n) (joined (slice_get (output_kinds y) p)) (kind_after before n p None))
          ∙ ap (λ t. kind_after between n p (cond t (joined (slice_get (output_kinds y) p)) (kind_after before n p None))) (ap (λ m. m == n) number ∙ e)
          ∙ sym (kind_after-joined before (node_then x between) n p None
          ∙ ap (λ t. kind_after between n p (cond t (joined (slice_get (output_kinds x) p)) (kind_after before n p None))) e)

  -- a state of other nodes stays, and one of the node is found where it comes from
  states_follow : (k : Kind) (ns : NodeTrees) (now found : Option Origin) → has_node (id_of x) ns ≡ false → now ≡ option_map move found →
      state_after k ns now ≡ option_map move (state_after k ns found)
  states_follow k no_nodes now found b h = h
  states_follow k (node_then z ns) now found b h =
      let both = or_parts (id_of z == id_of x) (has_node (id_of x) ns) b in
      states_follow k ns (origin_at (λ p. Out (id_of z) p) (last_index k 0 (output_kinds z) None) now) (origin_at (λ p. Out (id_of z) p) (last_index k 0 (output_kinds z) None) found) both.1
      (by (last_index k 0 (output_kinds z) None) (equal_back (id_of x) (id_of z) ∙ both.0))
    where
      by : (l : Option ℕ) → (id_of x == id_of z) ≡ false → origin_at (λ p. Out (id_of z) p) l now ≡ option_map move (origin_at (λ p. Out (id_of z) p) l found)
      by None e = h
      by (Some p) e = ap (λ t. Some (cond t (unwrap_or (joined (slice_get cs p)) (Out (id_of z) (place_after stays p))) (Out (id_of z) p))) (sym e)

  is_itself : (k : Kind) → IsState k → is_of k (Some k) ≡ true
  is_itself Value s = elim s [ ]
  is_itself Memory memory = refl
  is_itself Io io = refl

  at_most : (k : Kind) → IsState k → at_most_one k (output_kinds x) ≡ true
  at_most Value s = elim s [ ]
  at_most Memory memory = (and_parts (at_most_one Memory (output_kinds x)) (at_most_one Io (output_kinds x)) one).0
  at_most Io io = (and_parts (at_most_one Memory (output_kinds x)) (at_most_one Io (output_kinds x)) one).1

  no_value : (k : Kind) → IsState k → k ≡ Value → ⊥
  no_value Value s e = elim s [ ]
  no_value Memory memory e = absurd cc
  no_value Io io e = absurd cc

  -- the node's own state
  module _ (k : Kind) (s : IsState k) (state : Option Origin) (is : state ≡ last_state k args before) (moved : state ≡ option_map move state) where
    own_none : last_index k 0 (output_kinds x) None ≡ None → origin_at (λ p. Out (id_of x) p) (last_index k 0 (kept stays (output_kinds x)) None) state ≡ option_map move state
    own_none e =
        ap (λ l. origin_at (λ p. Out (id_of x) p) l state) (none_index k (kept stays (output_kinds x)) (some_fewer (is_of k) stays (output_kinds x) (index_none k (output_kinds x) e))) ∙ moved

    module _ (p : ℕ) (e : last_index k 0 (output_kinds x) None ≡ Some p) where
      own_move : move (Out (id_of x) p) ≡ unwrap_or (joined (slice_get cs p)) (Out (id_of x) (place_after stays p))
      own_move = ap (λ t. cond t (unwrap_or (joined (slice_get cs p)) (Out (id_of x) (place_after stays p))) (Out (id_of x) p)) (same_number_true (id_of x))

      gone_state : (a : Origin) → Carries args before (output_kinds x) stays p a → origin_at (λ q. Out (id_of x) q) (last_index k 0 (kept stays (output_kinds x)) None) state ≡ Some a
      gone_state a c = by c.goes (last_gives k args before a (c.outer ∙ ap Some same) c.last)
        where
          kind : slice_get (output_kinds x) p ≡ Some (Some k)
          kind = (index_kind k (output_kinds x) p e).0

          same : c.kind ≡ k
          same = same_Some c.kind k (sym c.own ∙ ap joined kind)

          by : (c.kind ≡ Value) ⊎ (stays_at stays p ≡ false) → (k ≡ Value) ⊎ (last_state k args before ≡ Some a) →
              origin_at (λ q. Out (id_of x) q) (last_index k 0 (kept stays (output_kinds x)) None) state ≡ Some a
          by (inl v) l = absurd (no_value k s (sym same ∙ v))
          by (inr t) (inl v) = absurd (no_value k s v)
          by (inr t) (inr l) =
              ap (λ z. origin_at (λ q. Out (id_of x) q) z state) (none_index k (kept stays (output_kinds x)) (none_left k stays (output_kinds x) p (at_most k s) kind (is_itself k s) t)) ∙ is ∙ l

      own_some : (c : Option Origin) → joined (slice_get cs p) ≡ c → origin_at (λ q. Out (id_of x) q) (last_index k 0 (kept stays (output_kinds x)) None) state ≡ Some (move (Out (id_of x) p))
      own_some None w =
          ap (λ l. origin_at (λ q. Out (id_of x) q) l state)
          (last_follows k (λ j. j ≡ p) (place_after stays) stays 0 0 (output_kinds x) None None (λ j d. ap (stays_at stays) (omega (arith, d))
          ∙ stay p w) (λ j d. from_none stays j) (λ j d g. absurd cc) p e refl)
          ∙ ap Some (sym (own_move ∙ ap (λ z. unwrap_or z (Out (id_of x) (place_after stays p))) w))
      own_some (Some a) w = gone_state a (carries p a w) ∙ ap Some (sym (own_move ∙ ap (λ z. unwrap_or z (Out (id_of x) (place_after stays p))) w))

    own_state : (l : Option ℕ) → last_index k 0 (output_kinds x) None ≡ l →
        origin_at (λ p. Out (id_of x) p) (last_index k 0 (kept stays (output_kinds x)) None) state ≡ option_map move (origin_at (λ p. Out (id_of x) p) l state)
    own_state None e = own_none e
    own_state (Some p) e = own_some p e (joined (slice_get cs p)) refl

  last_state_moves : (k : Kind) → IsState k → (between rest : NodeTrees) → after ≡ joined_nodes between rest →
      last_state k args (new_scope between) ≡ option_map move (last_state k args (old_scope between))
  last_state_moves k s between rest q =
      let first = origin_at Arg (last_index k 0 (map Some args) None) None in
      let state = state_after k before first in
      let first_stays : first ≡ option_map move first = argument (last_index k 0 (map Some args) None) in
      let state_stays : state ≡ option_map move state = states_follow k before first first (not_before objects args before x after here) first_stays in
      let giving = origin_at (λ p. Out (id_of x) p) (last_index k 0 (output_kinds x) None) state in
      let given_now = origin_at (λ p. Out (id_of y) p) (last_index k 0 (output_kinds y) None) state in
      let step : given_now ≡ option_map move giving =
      (λ i. origin_at (λ p. Out (number i) p) (last_index k 0 (outputs i) None) state) ∙ own_state k s state refl state_stays (last_index k 0 (output_kinds x) None) refl in
      state_after-joined k before (node_then y (nodes_redirected move between)) first ∙ state_after-redirected move k between given_now
      ∙ states_follow k between given_now giving (none_between between rest q) step ∙ ap (option_map move) (sym (state_after-joined k before (node_then x between) first))
    where
      argument : (l : Option ℕ) → origin_at Arg l None ≡ option_map move (origin_at Arg l None)
      argument None = refl
      argument (Some p) = refl

  scope_moves : (between rest : NodeTrees) → after ≡ joined_nodes between rest → KeepsScope (λ o. false) args (old_scope between) args (new_scope between) move
  scope_moves between rest q = record { one = λ o u e. by o e (known args (old_scope between) o) refl }
    where
      last : (k : Kind) (o : Origin) → (k ≡ Value) ⊎ (last_state k args (old_scope between) ≡ Some o) → (k ≡ Value) ⊎ (last_state k args (new_scope between) ≡ Some (move o))
      last Value o s = inl refl
      last Memory o (inl v) = inl v
      last Memory o (inr s) = inr (last_state_moves Memory memory between rest q ∙ ap (option_map move) s)
      last Io o (inl v) = inl v
      last Io o (inr s) = inr (last_state_moves Io io between rest q ∙ ap (option_map move) s)

      by : (o : Origin) → is_last args (old_scope between) o ≡ true → (k : Option Kind) → known args (old_scope between) o ≡ k →
          (known args (new_scope between) (move o) ≡ known args (old_scope between) o) × (is_last args (new_scope between) (move o) ≡ true)
      by o e None n = absurd (last_is_known args (old_scope between) o e n)
      by o e (Some k) n =
          let kind = kinds_stay between rest q o in
          (kind, gives_last k args (new_scope between) (move o) (kind ∙ n) (last k o (last_gives k args (old_scope between) o n e)))

  -- ---- the region

  module _ (results : List Origin) (fits_here : node_fits objects args before x ≡ true → node_fits objects args before y ≡ true)
      (inside_here : every_in_node (region_fits objects) x ≡ true → every_in_node (region_fits objects) y ≡ true) (fewer : (m : ℕ) → times m (node_ids y) ≤ times m (node_ids x))
      (fits : every_region (region_fits objects) (region args (joined_nodes before (node_then x after)) results) ≡ true) where
    abbrev whole : RegionTree
    whole = region args (joined_nodes before (node_then x after)) results

    abbrev follow : NodeTrees
    follow = nodes_redirected move after

    abbrev now : NodeTrees
    now = joined_nodes before (node_then y follow)

    none_of : {X : Type 0} (xs : List X) → some_of (λ o. false) xs ≡ false
    none_of [] = refl
    none_of (x ∷ xs) = none_of xs

    none_in : (ns : NodeTrees) → nodes_read (λ o. false) ns ≡ false
    none_in no_nodes = refl
    none_in (node_then (node id op inputs rs) ns) = λ i. none_of inputs i || none_in ns i

    nodes_fit_now : (front : List NodeTree) (rest : NodeTrees) → joined_nodes (nodes_of front) rest ≡ before →
        each_node (node_fits objects args) front (joined_nodes rest (node_then x after)) ≡ true → each_node (node_fits objects args) front (joined_nodes rest (node_then y follow)) ≡ true
    nodes_fit_now front no_nodes w e =
        let all : nodes_of front ≡ before = sym (joined_none (nodes_of front)) ∙ w in
        let both = and_parts (node_fits objects args (nodes_of front) x) (each_node (node_fits objects args) (front ++ x ∷ []) after) e in
        let own : node_fits objects args (nodes_of front) y ≡ true =
        ap (λ ns. node_fits objects args ns y) all ∙ fits_here (ap (λ ns. node_fits objects args ns x) (sym all) ∙ both.0) in
        let later = kept_nodes_fit (λ o. false) objects args args move (front ++ x ∷ []) (front ++ y ∷ []) after
        (λ between rest q.
        subst (λ ns. KeepsScope (λ o. false) args ns args (joined_nodes (nodes_of (front ++ y ∷ [])) (nodes_redirected move between)) move)
        (sym (joined_following front x between ∙ ap (λ ns. joined_nodes ns (node_then x between)) all))
        (subst (λ ns. KeepsScope (λ o. false) args (joined_nodes before (node_then x between)) args ns move)
        (sym (joined_following front y (nodes_redirected move between) ∙ ap (λ ns. joined_nodes ns (node_then y (nodes_redirected move between))) all))
        (scope_moves between rest q)))
        (none_in after) both.1 in
        λ i. own i && later i
    nodes_fit_now front (node_then z rest) w e =
        let both = and_parts (node_fits objects args (nodes_of front) z) (each_node (node_fits objects args) (front ++ z ∷ []) (joined_nodes rest (node_then x after))) e in
        let later = nodes_fit_now (front ++ z ∷ []) rest (joined_following front z rest ∙ w) both.1 in
        λ i. both.0 i && later i

    -- no state is given that was not
    gives_fewer : (k : Kind) (t : Bool) → (not (gives k (joined_nodes before (node_then x after))) || t) ≡ true → (not (gives k now) || t) ≡ true
    gives_fewer k true e = by (not (gives k now))
      where
        by : (b : Bool) → (b || true) ≡ true
        by true = refl
        by false = refl
    gives_fewer k false e =
        let gave : gives k (joined_nodes before (node_then x after)) ≡ false = or_false (gives k (joined_nodes before (node_then x after))) e in
        let parts = or_parts (gives k before) (some_of (is_of k) (output_kinds x) || gives k after) (sym (gives-joined k before (node_then x after)) ∙ gave) in
        let outer = or_parts (some_of (is_of k) (output_kinds x)) (gives k after) parts.1 in
        let own : some_of (is_of k) (output_kinds y) ≡ false = ap (some_of (is_of k)) outputs ∙ some_fewer (is_of k) stays (output_kinds x) outer.0 in
        let none : gives k now ≡ false = gives-joined k before (node_then y follow) ∙ (λ i. parts.0 i || (own i || (gives-redirected move k after ∙ outer.1) i)) in
        λ i. not (none i) || false
      where
        or_false : (b : Bool) → (not b || false) ≡ true → b ≡ false
        or_false true d = absurd cc
        or_false false d = refl

    pub carried_kept : KeptWithin objects whole (region args now (map move results))
    carried_kept =
        let ns = joined_nodes before (node_then x after) in
        let own = (and_parts (region_fits objects whole) (every_in_nodes (region_fits objects) ns) fits).0 in
        let nest = (and_parts (region_fits objects whole) (every_in_nodes (region_fits objects) ns) fits).1 in
        let to_io = (and_parts (nodes_fit objects whole && results_are_last whole && returns_state Memory whole && returns_state Io whole) (region_has_one_state_each whole) own).0 in
        let states = (and_parts (nodes_fit objects whole && results_are_last whole && returns_state Memory whole && returns_state Io whole) (region_has_one_state_each whole) own).1 in
        let to_memory = (and_parts (nodes_fit objects whole && results_are_last whole && returns_state Memory whole) (returns_state Io whole) to_io).0 in
        let gave_io = (and_parts (nodes_fit objects whole && results_are_last whole && returns_state Memory whole) (returns_state Io whole) to_io).1 in
        let to_last = (and_parts (nodes_fit objects whole && results_are_last whole) (returns_state Memory whole) to_memory).0 in
        let gave_memory = (and_parts (nodes_fit objects whole && results_are_last whole) (returns_state Memory whole) to_memory).1 in
        let fit = (and_parts (nodes_fit objects whole) (results_are_last whole) to_last).0 in
        let last : all_of (is_last args ns) results ≡ true = (and_parts (nodes_fit objects whole) (results_are_last whole) to_last).1 in
        let all = kept_all (λ o. false) objects args args move ns now (scope_moves after no_nodes (sym (joined_none after))) results (none_of results) last in
        let nodes = nodes_fit_now [] before refl fit in
        let memory_now : (not (gives Memory now) || some_of (is_of Memory) (map (known args now) (map move results))) ≡ true =
        gives_fewer Memory (some_of (is_of Memory) (map (known args now) (map move results))) (ap (λ ks. not (gives Memory ns) || some_of (is_of Memory) ks) all.0 ∙ gave_memory) in
        let io_now : (not (gives Io now) || some_of (is_of Io) (map (known args now) (map move results))) ≡ true =
        gives_fewer Io (some_of (is_of Io) (map (known args now) (map move results))) (ap (λ ks. not (gives Io ns) || some_of (is_of Io) ks) all.0 ∙ gave_io) in
        let states_now : (one_state_each (map Some args) && one_state_each (map (known args now) (map move results))) ≡ true =
        ap (λ ks. one_state_each (map Some args) && one_state_each ks) all.0 ∙ states in
        let inner = and_parts (every_in_nodes (region_fits objects) before) (every_in_nodes (region_fits objects) (node_then x after))
        (sym (every_in_nodes-joined (region_fits objects) before (node_then x after)) ∙ nest) in
        let outer = and_parts (every_in_node (region_fits objects) x) (every_in_nodes (region_fits objects) after) inner.1 in
        let node = inside_here outer.0 in
        let later = every_in_nodes-redirected (region_fits objects) move after ∙ outer.1 in
        let inside : every_in_nodes (region_fits objects) now ≡ true = every_in_nodes-joined (region_fits objects) before (node_then y follow) ∙ (λ i. inner.0 i && (node i && later i)) in
        record {
          kept = record { args = refl; results = all.0; inside = λ i. (nodes i && all.1 i && memory_now i && io_now i && states_now i) && inside i };
          fewer = λ m.
              omega (
                arith,
                fewer m,
                ap (times m) (nodes_ids-joined before (node_then x after)),
                times_append m (nodes_ids before) (node_ids x ++ nodes_ids after),
                times_append m (node_ids x) (nodes_ids after),
                ap (times m) (nodes_ids-joined before (node_then y follow)),
                times_append m (nodes_ids before) (node_ids y ++ nodes_ids follow),
                times_append m (node_ids y) (nodes_ids follow),
                ap (times m) (nodes_ids-redirected move after),
              );
        }
