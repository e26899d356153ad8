-- A node that gives fewer values in the place of a node: the region stays well formed.
use Rattle.std.proofs.Common.{◌≡◌, ◌≤◌, ℕ, ◌==◌, ◌⊎◌, Bool, true, false, not, ◌&&◌, ◌||◌, cond, List, [], ◌∷◌}
use Rattle.std.proofs.Common.{◌++◌, map, Option, None, Some, option_map, slice_get, refl, sym, ap, subst, ◌∙◌, inl, inr, arith}
use Rattle.std.proofs.lemmas.Bool.{and_parts, or_parts, false_from_ne_true}
use Rattle.g_graph.specs.declared.op.Kind.{Kind}
use Rattle.g_graph.specs.declared.op.Kind.TheVariants.{Value, Memory, Io}
use Rattle.g_graph.specs.declared.op.Origin.{Origin}
use Rattle.g_graph.specs.declared.op.Origin.TheVariants.{Arg, Out}
use Rattle.g_graph.specs.Plain.{RegionTree, region, NodeTree, NodeTrees, no_nodes, node_then, nodes_of, id_of, args_of}
use Rattle.g_graph.specs.Ids.{node_ids, nodes_ids}
use Rattle.g_graph.specs.Signatures.{joined, output_kinds, result_kinds, kind_after}
use Rattle.g_graph.specs.Scope.{is_of, known, last_index, origin_at, state_after, last_state, each_node}
use Rattle.g_graph.specs.WellFormed.{all_of, some_of, one_state_each, gives, is_last, node_fits, nodes_fit}
use Rattle.g_graph.specs.WellFormed.{results_are_last, returns_state, region_has_one_state_each, region_fits, every_region, every_in_node, every_in_nodes}
use Rattle.g_graph.specs.Change.{has_node}
use Rattle.g_graph.specs.Replace.{nodes_redirected}
use Rattle.g_graph.specs.Splice.{joined_nodes}
use Rattle.g_graph.proofs.lemmas.Indexes.{same_number_true, kind_absent, last_gives, gives_last}
use Rattle.g_graph.proofs.lemmas.Moved.{last_is_known}
use Rattle.g_graph.proofs.lemmas.Nodes.{NodeFits, KeptWithin, has_times, own_times}
use Rattle.g_graph.proofs.lemmas.Redirects.{nodes_ids-redirected, kind_after-redirected, state_after-redirected, gives-redirected, every_in_nodes-redirected}
use Rattle.g_graph.proofs.lemmas.Splices.{joined_none, joined_following, nodes_ids-joined, kind_after-joined, state_after-joined, gives-joined, every_in_nodes-joined}
use Rattle.g_graph.proofs.lemmas.Unique.{times, times_append, equal_back, same_number}
use Rattle.r_edit.specs.Uses.{nodes_read, is_read}
use Rattle.r_edit.specs.Places.{stays_at, kept, place_after, drops_values}
use Rattle.r_edit.specs.Exits.{output_after, is_gone_output}
use Rattle.r_edit.proofs.lemmas.Kept.{kept_get, is_not, IsState, memory, io, some_state, last_kept}
use Rattle.r_edit.proofs.lemmas.Placed.{not_before, read_after}
use Rattle.r_edit.proofs.lemmas.Scopes.{KeepsScope, kept_all, kept_nodes_fit}

-- a region that takes and gives what another one does, and is well formed
pub record RegionStays (objects : ℕ) (r s : RegionTree) : Type 0 where
  pub args : args_of s ≡ args_of r
  pub results : result_kinds s ≡ result_kinds r
  pub inside : every_region (region_fits objects) s ≡ true

module _ (objects : ℕ) (args : List Kind) (before : NodeTrees) (x y : NodeTree) (after : NodeTrees) (stays : List Bool) (here : NodeFits objects args before x after) (number : id_of y ≡ id_of x)
    (outputs : output_kinds y ≡ kept stays (output_kinds x)) (values : drops_values stays (output_kinds x) ≡ true) where
  abbrev move : Origin → Origin
  move = output_after (id_of x) stays

  abbrev gone : Origin → Bool
  gone = is_gone_output (id_of x) stays

  none_between : (between rest : NodeTrees) → after ≡ joined_nodes between rest → has_node (id_of x) between ≡ false
  none_between between rest q =
      false_from_ne_true (has_node (id_of x) between)
      (λ h. omega (
        arith,
        has_times (id_of x) between h,
        ap (λ ns. times (id_of x) (nodes_ids ns)) q,
        ap (times (id_of x)) (nodes_ids-joined between rest),
        times_append (id_of x) (nodes_ids between) (nodes_ids rest),
        own_times x,
        here.once (id_of x),
      ))

  -- ---- what is known after the node

  kinds_stay : (between rest : NodeTrees) → after ≡ joined_nodes between rest → (o : Origin) → gone o ≡ false →
      known args (joined_nodes before (node_then y (nodes_redirected move between))) (move o) ≡ known args (joined_nodes before (node_then x between)) o
  kinds_stay between rest q (Arg k) u = refl
  kinds_stay between rest q (Out n p) u = by (id_of x == n) refl u
    where
      by : (t : Bool) → (id_of x == n) ≡ t → (t && not (stays_at stays p)) ≡ false →
          known args (joined_nodes before (node_then y (nodes_redirected move between))) (cond t (Out n (place_after stays p)) (Out n p))
          ≡ known args (joined_nodes before (node_then x between)) (Out n p)
      by true e v =
          let none : has_node n between ≡ false = ap (λ m. has_node m between) (sym (same_number (id_of x) n e)) ∙ none_between between rest q in
          kind_after-joined before (node_then y (nodes_redirected move between)) n (place_after stays p) None
          ∙ kind_after-redirected move between n (place_after stays p)
          (cond (id_of y == n) (joined (slice_get (output_kinds y) (place_after stays p))) (kind_after before n (place_after stays p) None))
          ∙ kind_absent between n (place_after stays p) (cond (id_of y == n) (joined (slice_get (output_kinds y) (place_after stays p))) (kind_after before n (place_after stays p) None)) none
          ∙ ap (λ t. cond t (joined (slice_get (output_kinds y) (place_after stays p))) (kind_after before n (place_after stays p) None)) (ap (λ m. m == n) number ∙ e)
          ∙ ap (λ ks. joined (slice_get ks (place_after stays p))) outputs ∙ ap joined (kept_get stays (output_kinds x) p (is_not (stays_at stays p) v))
          ∙ sym (kind_after-joined before (node_then x between) n p None
          ∙ kind_absent between n p (cond (id_of x == n) (joined (slice_get (output_kinds x) p)) (kind_after before n p None)) none
          ∙ ap (λ t. cond t (joined (slice_get (output_kinds x) p)) (kind_after before n p None)) e)
      by false e v =
          kind_after-joined before (node_then y (nodes_redirected move between)) n p None
          ∙ kind_after-redirected move between n p (cond (id_of y == n) (joined (slice_get (output_kinds y) p)) (kind_after before n p None))
          ∙ ap (λ t. kind_after between n p (cond t (joined (slice_get (output_kinds y) p)) (kind_after before n p None))) (ap (λ m. m == n) number ∙ e)
          ∙ sym (kind_after-joined before (node_then x between) n p None
          ∙ ap (λ t. kind_after between n p (cond t (joined (slice_get (output_kinds x) p)) (kind_after before n p None))) e)

  -- a state of other nodes stays, and one of the node is found at its new place
  states_follow : (k : Kind) (ns : NodeTrees) (now found : Option Origin) → has_node (id_of x) ns ≡ false → now ≡ option_map move found →
      state_after k ns now ≡ option_map move (state_after k ns found)
  states_follow k no_nodes now found b h = h
  states_follow k (node_then z ns) now found b h =
      let both = or_parts (id_of z == id_of x) (has_node (id_of x) ns) b in
      states_follow k ns (origin_at (λ p. Out (id_of z) p) (last_index k 0 (output_kinds z) None) now) (origin_at (λ p. Out (id_of z) p) (last_index k 0 (output_kinds z) None) found) both.1
      (by (last_index k 0 (output_kinds z) None) (equal_back (id_of x) (id_of z) ∙ both.0))
    where
      by : (l : Option ℕ) → (id_of x == id_of z) ≡ false → origin_at (λ p. Out (id_of z) p) l now ≡ option_map move (origin_at (λ p. Out (id_of z) p) l found)
      by None e = h
      by (Some p) e = ap (λ t. Some (cond t (Out (id_of z) (place_after stays p)) (Out (id_of z) p))) (sym e)

  last_state_moves : (k : Kind) → IsState k → (between rest : NodeTrees) → after ≡ joined_nodes between rest →
      last_state k args (joined_nodes before (node_then y (nodes_redirected move between))) ≡ option_map move (last_state k args (joined_nodes before (node_then x between)))
  last_state_moves k s between rest q =
      let first = origin_at Arg (last_index k 0 (map Some args) None) None in
      let state = state_after k before first in
      let first_stays : first ≡ option_map move first = argument (last_index k 0 (map Some args) None) in
      let state_stays : state ≡ option_map move state = states_follow k before first first (not_before objects args before x after here) first_stays in
      let near = origin_at (λ p. Out (id_of x) p) (last_index k 0 (output_kinds x) None) state in
      let far = origin_at (λ p. Out (id_of y) p) (last_index k 0 (output_kinds y) None) state in
      let step : far ≡ option_map move near =
      (λ i. origin_at (λ p. Out (number i) p) (last_index k 0 (outputs i) None) state)
      ∙ ap (λ l. origin_at (λ p. Out (id_of x) p) l state) (last_kept k s stays (output_kinds x) values) ∙ own (last_index k 0 (output_kinds x) None) state state_stays in
      state_after-joined k before (node_then y (nodes_redirected move between)) first
      ∙ state_after-redirected move k between far ∙ states_follow k between far near (none_between between rest q) step
      ∙ ap (option_map move) (sym (state_after-joined k before (node_then x between) first))
    where
      argument : (l : Option ℕ) → origin_at Arg l None ≡ option_map move (origin_at Arg l None)
      argument None = refl
      argument (Some p) = refl

      own : (l : Option ℕ) (state : Option Origin) → state ≡ option_map move state →
          origin_at (λ p. Out (id_of x) p) (option_map (place_after stays) l) state ≡ option_map move (origin_at (λ p. Out (id_of x) p) l state)
      own None state h = h
      own (Some p) state h = ap (λ t. Some (cond t (Out (id_of x) (place_after stays p)) (Out (id_of x) p))) (sym (same_number_true (id_of x)))

  abbrev near_scope : NodeTrees → NodeTrees
  near_scope between = joined_nodes before (node_then x between)

  abbrev far_scope : NodeTrees → NodeTrees
  far_scope between = joined_nodes before (node_then y (nodes_redirected move between))

  scope_moves : (between rest : NodeTrees) → after ≡ joined_nodes between rest →
      KeepsScope gone args (joined_nodes before (node_then x between)) args (joined_nodes before (node_then y (nodes_redirected move between))) move
  scope_moves between rest q = record { one = λ o u e. by o u e (known args (joined_nodes before (node_then x between)) o) refl }
    where
      last : (k : Kind) (o : Origin) → (k ≡ Value) ⊎ (last_state k args (near_scope between) ≡ Some o) → (k ≡ Value) ⊎ (last_state k args (far_scope between) ≡ Some (move o))
      last Value o s = inl refl
      last Memory o (inl v) = inl v
      last Memory o (inr s) = inr (last_state_moves Memory memory between rest q ∙ ap (option_map move) s)
      last Io o (inl v) = inl v
      last Io o (inr s) = inr (last_state_moves Io io between rest q ∙ ap (option_map move) s)

      by : (o : Origin) → gone o ≡ false → is_last args (near_scope between) o ≡ true → (k : Option Kind) → known args (near_scope between) o ≡ k →
          (known args (far_scope between) (move o) ≡ known args (near_scope between) o) × (is_last args (far_scope between) (move o) ≡ true)
      by o u e None n = absurd (last_is_known args (near_scope between) o e n)
      by o u e (Some k) n =
          let kind = kinds_stay between rest q o u in
          (kind, gives_last k args (far_scope between) (move o) (kind ∙ n) (last k o (last_gives k args (near_scope between) o n e)))

  -- ---- the region

  module _ (results : List Origin) (fits_here : node_fits objects args before x ≡ true → node_fits objects args before y ≡ true)
      (inside_here : every_in_node (region_fits objects) x ≡ true → every_in_node (region_fits objects) y ≡ true)
      (fits : every_region (region_fits objects) (region args (joined_nodes before (node_then x after)) results) ≡ true)
      (unread : is_read (is_gone_output (id_of x) stays) (region args (joined_nodes before (node_then x after)) results) ≡ false) where
    abbrev whole : RegionTree
    whole = region args (joined_nodes before (node_then x after)) results

    abbrev follow : NodeTrees
    follow = nodes_redirected move after

    abbrev now : NodeTrees
    now = joined_nodes before (node_then y follow)

    nodes_fit_now : (front : List NodeTree) (rest : NodeTrees) → joined_nodes (nodes_of front) rest ≡ before → nodes_read gone after ≡ false →
        each_node (node_fits objects args) front (joined_nodes rest (node_then x after)) ≡ true → each_node (node_fits objects args) front (joined_nodes rest (node_then y follow)) ≡ true
    nodes_fit_now front no_nodes w u e =
        let all : nodes_of front ≡ before = sym (joined_none (nodes_of front)) ∙ w in
        let both = and_parts (node_fits objects args (nodes_of front) x) (each_node (node_fits objects args) (front ++ x ∷ []) after) e in
        let own : node_fits objects args (nodes_of front) y ≡ true =
        ap (λ ns. node_fits objects args ns y) all ∙ fits_here (ap (λ ns. node_fits objects args ns x) (sym all) ∙ both.0) in
        let later = kept_nodes_fit gone objects args args move (front ++ x ∷ []) (front ++ y ∷ []) after
        (λ between rest q.
        subst (λ ns. KeepsScope gone args ns args (joined_nodes (nodes_of (front ++ y ∷ [])) (nodes_redirected move between)) move)
        (sym (joined_following front x between ∙ ap (λ ns. joined_nodes ns (node_then x between)) all))
        (subst (λ ns. KeepsScope gone args (joined_nodes before (node_then x between)) args ns move)
        (sym (joined_following front y (nodes_redirected move between) ∙ ap (λ ns. joined_nodes ns (node_then y (nodes_redirected move between))) all))
        (scope_moves between rest q)))
        u both.1 in
        λ i. own i && later i
    nodes_fit_now front (node_then z rest) w u e =
        let both = and_parts (node_fits objects args (nodes_of front) z) (each_node (node_fits objects args) (front ++ z ∷ []) (joined_nodes rest (node_then x after))) e in
        let later = nodes_fit_now (front ++ z ∷ []) rest (joined_following front z rest ∙ w) u both.1 in
        λ i. both.0 i && later i

    gives_same : (k : Kind) → IsState k → gives k now ≡ gives k (joined_nodes before (node_then x after))
    gives_same k s =
        gives-joined k before (node_then y follow)
        ∙ (λ i. gives k before || ((ap (some_of (is_of k)) outputs ∙ some_state k s stays (output_kinds x) values) i || gives-redirected move k after i))
        ∙ sym (gives-joined k before (node_then x after))

    pub swapped_stays : RegionStays objects whole (region args now (map move results))
    swapped_stays =
        let ns = joined_nodes before (node_then x after) in
        let parts = or_parts (nodes_read gone ns) (some_of gone results) unread in
        let own = (and_parts (region_fits objects whole) (every_in_nodes (region_fits objects) ns) fits).0 in
        let nest = (and_parts (region_fits objects whole) (every_in_nodes (region_fits objects) ns) fits).1 in
        let to_io = (and_parts (nodes_fit objects whole && results_are_last whole && returns_state Memory whole && returns_state Io whole) (region_has_one_state_each whole) own).0 in
        let to_memory = (and_parts (nodes_fit objects whole && results_are_last whole && returns_state Memory whole) (returns_state Io whole) to_io).0 in
        let to_last = (and_parts (nodes_fit objects whole && results_are_last whole) (returns_state Memory whole) to_memory).0 in
        let fit = (and_parts (nodes_fit objects whole) (results_are_last whole) to_last).0 in
        let last : all_of (is_last args ns) results ≡ true = (and_parts (nodes_fit objects whole) (results_are_last whole) to_last).1 in
        let all = kept_all gone objects args args move ns now (scope_moves after no_nodes (sym (joined_none after))) results parts.1 last in
        let nodes = nodes_fit_now [] before refl (read_after gone before x after parts.0) fit in
        let same : region_fits objects (region args now (map move results)) ≡ region_fits objects whole =
        λ i.
        (nodes ∙ sym fit) i && (all.1 ∙ sym last) i && (not (gives_same Memory memory i) || some_of (is_of Memory) (all.0 i)) && (not (gives_same Io io i) || some_of (is_of Io) (all.0 i))
        && (one_state_each (map Some args) && one_state_each (all.0 i)) in
        let inner = and_parts (every_in_nodes (region_fits objects) before) (every_in_nodes (region_fits objects) (node_then x after))
        (sym (every_in_nodes-joined (region_fits objects) before (node_then x after)) ∙ nest) in
        let outer = and_parts (every_in_node (region_fits objects) x) (every_in_nodes (region_fits objects) after) inner.1 in
        let node = inside_here outer.0 in
        let later = every_in_nodes-redirected (region_fits objects) move after ∙ outer.1 in
        let inside : every_in_nodes (region_fits objects) now ≡ true = every_in_nodes-joined (region_fits objects) before (node_then y follow) ∙ (λ i. inner.0 i && (node i && later i)) in
        record { args = refl; results = all.0; inside = λ i. (same ∙ own) i && inside i }

  -- where it has no numbers but those of the node
  pub swapped_kept : (results : List Origin) → (node_fits objects args before x ≡ true → node_fits objects args before y ≡ true) →
      (every_in_node (region_fits objects) x ≡ true → every_in_node (region_fits objects) y ≡ true) → ((m : ℕ) → times m (node_ids y) ≤ times m (node_ids x)) →
      every_region (region_fits objects) (region args (joined_nodes before (node_then x after)) results) ≡ true →
      is_read (is_gone_output (id_of x) stays) (region args (joined_nodes before (node_then x after)) results) ≡ false →
      KeptWithin objects (region args (joined_nodes before (node_then x after)) results) (region args (joined_nodes before (node_then y (nodes_redirected move after))) (map move results))
  swapped_kept results fits_here inside_here fewer fits unread =
      let stay = swapped_stays results fits_here inside_here fits unread in
      record {
        kept = record { args = stay.args; results = stay.results; inside = stay.inside };
        fewer = λ m.
            omega (
              arith,
              fewer m,
              ap (times m) (nodes_ids-joined before (node_then x after)),
              times_append m (nodes_ids before) (node_ids x ++ nodes_ids after),
              times_append m (node_ids x) (nodes_ids after),
              ap (times m) (nodes_ids-joined before (node_then y (nodes_redirected move after))),
              times_append m (nodes_ids before) (node_ids y ++ nodes_ids (nodes_redirected move after)),
              times_append m (node_ids y) (nodes_ids (nodes_redirected move after)),
              ap (times m) (nodes_ids-redirected move after),
            );
      }
