-- A region stays well formed where a replacement that fits stands instead of one of its nodes.
use Rattle.std.proofs.Common.{◌≡◌, ◌⊎◌, inl, inr, ℕ, zero, suc, Bool, true, false, List, [], ◌∷◌, ◌++◌, map, refl, sym, ap, ◌∙◌, subst}
use Rattle.std.specs.Prelude.{◌==◌, ◌&&◌, ◌||◌, not, slice_get, unwrap_or, if◌then◌else◌}
use Rattle.std.specs.declared.option.Option.{Option}
use Rattle.std.specs.declared.option.Option.TheVariants.{Some, None}
use Rattle.std.proofs.lemmas.Bool.{and_parts, false_from_ne_true, or_left, or_right, or_cases, cases_Bool}
use Rattle.g_graph.specs.declared.op.Kind.{Kind}
use Rattle.g_graph.specs.declared.op.Kind.TheVariants.{Value, Memory, Io}
use Rattle.g_graph.specs.declared.op.Origin.{Origin}
use Rattle.g_graph.specs.declared.op.Origin.TheVariants.{Arg, Out}
use Rattle.g_graph.specs.Plain.{region, NodeTree, node, NodeTrees, no_nodes, node_then, nodes_of, id_of}
use Rattle.g_graph.specs.Signatures.{joined, output_kinds, kind_after}
use Rattle.g_graph.specs.Scope.{same_kind, is_of, known, last_index, origin_at, state_after, last_state, each_node}
use Rattle.g_graph.specs.Change.{has_node}
use Rattle.g_graph.specs.WellFormed.{all_of, some_of, are, one_state_each, gives, is_last, node_fits, nodes_fit, results_are_last, returns_state, region_has_one_state_each, region_fits, every_region, every_in_node, every_in_nodes}
use Rattle.g_graph.specs.Replace.{node_redirected, nodes_redirected, region_redirected}
use Rattle.g_graph.specs.Splice.{args_to_inputs, outputs_to_results, joined_nodes, nodes_spliced, region_spliced}
use Rattle.g_graph.proofs.lemmas.Redirects.{nodes_of-redirected, kind_after-redirected, state_after-redirected, gives-redirected, every_in_nodes-redirected}
use Rattle.g_graph.proofs.lemmas.Splices.{joined_none, joined_following, Split, joined_assoc, nodes_of_append, kind_after-joined, state_after-joined, gives-joined, every_in_nodes-joined}
use Rattle.g_graph.proofs.lemmas.Unique.{same_number, equal_back}
use Rattle.g_graph.proofs.NestLemmas.{RegionKept}
use Rattle.g_graph.proofs.ScopeMaps.{ScopeMap, mapped_all, mapped_nodes_fit}
use Rattle.g_graph.proofs.lemmas.Moved.{last_is_known}
use Rattle.g_graph.proofs.lemmas.Indexes.{same_number_true, has_node-joined, kind_absent, kind_present, kind_known, index_kind, index_none, same_kind_true, GivesState, KeepsState, state_cases, last_gives, gives_last, each_node-joined}

-- a replacement whose arguments take these inputs, and whose results are the node's outputs; its nodes, those before the node
-- and those after it have numbers apart
pub record ReplacementFits (objects : ℕ) (args : List Kind) (before : NodeTrees) (x : NodeTree) (after : NodeTrees) (own : List Kind) (replacement : NodeTrees) (outs is : List Origin) : Type 0 where
  pub inside : every_region (region_fits objects) (region own replacement outs) ≡ true
  pub entries : are (map (known args before) is) own ≡ true
  pub entries_last : all_of (is_last args before) is ≡ true
  pub exits : map (known own replacement) outs ≡ output_kinds x
  pub replacement_before : (n : ℕ) → has_node n replacement ≡ true → has_node n before ≡ true → ⊥
  pub replacement_after : (n : ℕ) → has_node n replacement ≡ true → has_node n after ≡ true → ⊥
  pub before_after : (n : ℕ) → has_node n before ≡ true → has_node n after ≡ true → ⊥
  pub at_before : has_node (id_of x) before ≡ false
  pub at_after : has_node (id_of x) after ≡ false

is_none_or : (k : Option Kind) → (k ≡ None) ⊎ ((j : Kind) × (k ≡ Some j))
is_none_or None = inl refl
is_none_or (Some j) = inr (j, refl)

-- what an argument of the replacement takes
record Entry (args : List Kind) (before : NodeTrees) (is : List Origin) (j : ℕ) (k : Kind) : Type 0 where
  origin : Origin
  taken : slice_get is j ≡ Some origin
  kind : known args before origin ≡ Some k
  last : is_last args before origin ≡ true

are_first : (x : Option Kind) (xs : List (Option Kind)) (w : Kind) (ws : List Kind) → are (x ∷ xs) (w ∷ ws) ≡ true → x ≡ Some w
are_first None xs w ws e = absurd (cc)
are_first (Some j) xs w ws e = ap Some (same_kind_true j w (and_parts (same_kind j w) (are xs ws) e).0)

are_rest : (x : Option Kind) (xs : List (Option Kind)) (w : Kind) (ws : List Kind) → are (x ∷ xs) (w ∷ ws) ≡ true → are xs ws ≡ true
are_rest None xs w ws e = absurd (cc)
are_rest (Some j) xs w ws e = (and_parts (same_kind j w) (are xs ws) e).1

are_wanted : (x : Option Kind) (xs : List (Option Kind)) → are (x ∷ xs) [] ≡ true → ⊥
are_wanted None xs e = absurd (cc)
are_wanted (Some j) xs e = absurd (cc)

entry_at : (args : List Kind) (before : NodeTrees) (is : List Origin) (own : List Kind) (j : ℕ) (k : Kind) → are (map (known args before) is) own ≡ true →
    all_of (is_last args before) is ≡ true → slice_get own j ≡ Some k → Entry args before is j k
entry_at args before [] [] j k a l e = absurd (cc)
entry_at args before [] (w ∷ own) j k a l e = absurd (cc)
entry_at args before (o ∷ is) [] j k a l e = absurd (are_wanted (known args before o) (map (known args before) is) a)
entry_at args before (o ∷ is) (w ∷ own) zero k a l e = record {
  origin = o;
  taken = refl;
  kind = are_first (known args before o) (map (known args before) is) w own a ∙ e;
  last = (and_parts (is_last args before o) (all_of (is_last args before) is) l).0;
}
entry_at args before (o ∷ is) (w ∷ own) (suc j) k a l e =
    let r = entry_at args before is own j k (are_rest (known args before o) (map (known args before) is) w own a) (and_parts (is_last args before o) (all_of (is_last args before) is) l).1 e in
    record { origin = r.origin; taken = r.taken; kind = r.kind; last = r.last }

-- what a result of the replacement is
record Exit (g : Origin → Option Kind) (os : List Origin) (p : ℕ) (k : Kind) : Type 0 where
  origin : Origin
  given : slice_get os p ≡ Some origin
  kind : g origin ≡ Some k

exit_at : (g : Origin → Option Kind) (os : List Origin) (p : ℕ) (k : Kind) → slice_get (map g os) p ≡ Some (Some k) → Exit g os p k
exit_at g [] p k e = absurd (cc)
exit_at g (o ∷ os) zero k e =
    let same : g o ≡ Some k = cc in
    record { origin = o; given = refl; kind = same }
exit_at g (o ∷ os) (suc p) k e =
    let r = exit_at g os p k e in
    record { origin = r.origin; given = r.given; kind = r.kind }

joined_some : (x : Option (Option Kind)) (k : Kind) → joined x ≡ Some k → x ≡ Some (Some k)
joined_some None k e = absurd (cc)
joined_some (Some y) k e = ap Some e

pub some_at : (ks : List Kind) (j : ℕ) (k : Kind) → slice_get (map Some ks) j ≡ Some (Some k) → slice_get ks j ≡ Some k
some_at [] j k e = absurd (cc)
some_at (c ∷ ks) zero k e = cc
some_at (c ∷ ks) (suc j) k e = some_at ks j k e

map_at : (f : Origin → Origin) (os : List Origin) (p : ℕ) (o : Origin) → slice_get os p ≡ Some o → slice_get (map f os) p ≡ Some (f o)
map_at f [] p o e = absurd (cc)
map_at f (a ∷ os) zero o e =
    let same : a ≡ o = cc in
    ap (λ t. Some (f t)) same
map_at f (a ∷ os) (suc p) o e = map_at f os p o e

all_at : (test : Origin → Bool) (os : List Origin) (p : ℕ) (o : Origin) → all_of test os ≡ true → slice_get os p ≡ Some o → test o ≡ true
all_at test [] p o a e = absurd (cc)
all_at test (c ∷ os) zero o a e =
    let same : c ≡ o = cc in
    ap test (sym same) ∙ (and_parts (test c) (all_of test os) a).0
all_at test (c ∷ os) (suc p) o a e = all_at test os p o (and_parts (test c) (all_of test os) a).1 e

has_node-redirected : (f : Origin → Origin) (n : ℕ) (ns : NodeTrees) → has_node n (nodes_redirected f ns) ≡ has_node n ns
has_node-redirected f n no_nodes = refl
has_node-redirected f n (node_then (node id op inputs rs) ns) = ap (λ b. (id == n) || b) (has_node-redirected f n ns)

module _ (objects : ℕ) (args : List Kind) (before : NodeTrees) (x : NodeTree) (after : NodeTrees) (own : List Kind) (replacement : NodeTrees) (outs is : List Origin)
    (s : ReplacementFits objects args before x after own replacement outs is) where
  -- ---- origins of the replacement, outside it

  in_replacement : (front rest : NodeTrees) → replacement ≡ joined_nodes front rest → (n : ℕ) → has_node n front ≡ true → has_node n replacement ≡ true
  in_replacement front rest w n h = ap (has_node n) w ∙ has_node-joined n front rest ∙ or_left (has_node n front) (has_node n rest) h

  before_known : (front rest : NodeTrees) → replacement ≡ joined_nodes front rest → (o : Origin) (k : Kind) → known args before o ≡ Some k →
      known args (joined_nodes before (nodes_redirected (args_to_inputs is) front)) o ≡ Some k
  before_known front rest w (Arg j) k e = e
  before_known front rest w (Out n p) k e =
      kind_after-joined before (nodes_redirected (args_to_inputs is) front) n p None ∙ kind_after-redirected (args_to_inputs is) front n p (kind_after before n p None)
      ∙ kind_absent front n p (kind_after before n p None) (false_from_ne_true (has_node n front) (λ h. s.replacement_before n (in_replacement front rest w n h) (kind_known before n p k e))) ∙ e

  replacement_known : (front rest : NodeTrees) → replacement ≡ joined_nodes front rest → (o : Origin) (k : Kind) → known own front o ≡ Some k →
      known args (joined_nodes before (nodes_redirected (args_to_inputs is) front)) (args_to_inputs is o) ≡ Some k
  replacement_known front rest w (Arg j) k e =
      let r = entry_at args before is own j k s.entries s.entries_last e in
      ap (λ t. known args (joined_nodes before (nodes_redirected (args_to_inputs is) front)) (unwrap_or t (Arg j))) r.taken ∙ before_known front rest w r.origin k r.kind
  replacement_known front rest w (Out n p) k e =
      kind_after-joined before (nodes_redirected (args_to_inputs is) front) n p None ∙ kind_after-redirected (args_to_inputs is) front n p (kind_after before n p None)
      ∙ kind_present front n p (kind_after before n p None) None (kind_known front n p k e) ∙ e

  replacement_state : (front : NodeTrees) (k : Kind) → last_state k args (joined_nodes before (nodes_redirected (args_to_inputs is) front)) ≡ state_after k front (last_state k args before)
  replacement_state front k =
      state_after-joined k before (nodes_redirected (args_to_inputs is) front) (origin_at Arg (last_index k 0 (map Some args) None) None)
      ∙ state_after-redirected (args_to_inputs is) k front (last_state k args before)

  replacement_last : (front rest : NodeTrees) → replacement ≡ joined_nodes front rest → (o : Origin) (k : Kind) → (k ≡ Value) ⊎ (last_state k own front ≡ Some o) →
      (k ≡ Value) ⊎ (last_state k args (joined_nodes before (nodes_redirected (args_to_inputs is) front)) ≡ Some (args_to_inputs is o))
  replacement_last front rest w o k (inl v) = inl v
  replacement_last front rest w o k (inr e) = by_state (state_cases k front)
    where
      by_entry : (j : ℕ) → Entry args before is j k → Arg j ≡ o → KeepsState k front → (k ≡ Value) ⊎ (last_state k args (joined_nodes before (nodes_redirected (args_to_inputs is) front)) ≡
          Some (args_to_inputs is o))
      by_entry j r same kept = by_last (last_gives k args before r.origin r.kind r.last)
        where
          by_last : (k ≡ Value) ⊎ (last_state k args before ≡ Some r.origin) → (k ≡ Value) ⊎ (last_state k args (joined_nodes before (nodes_redirected (args_to_inputs is) front)) ≡
              Some (args_to_inputs is o))
          by_last (inl v) = inl v
          by_last (inr q) = inr (replacement_state front k ∙ kept.from (last_state k args before) ∙ q ∙ sym (ap (λ c. Some (unwrap_or c (Arg j))) r.taken) ∙ ap (λ c. Some (args_to_inputs is c)) same)

      by_index : (l : Option ℕ) → last_index k 0 (map Some own) None ≡ l → KeepsState k front → (k ≡ Value) ⊎ (last_state k args (joined_nodes before (nodes_redirected (args_to_inputs is) front)) ≡
          Some (args_to_inputs is o))
      by_index None q r =
          let none : None ≡ Some o = sym (ap (λ l. origin_at Arg l None) q) ∙ sym (r.from (origin_at Arg (last_index k 0 (map Some own) None) None)) ∙ e in
          absurd (cc)
      by_index (Some j) q r =
          let taken : Some (Arg j) ≡ Some o = sym (ap (λ l. origin_at Arg l None) q) ∙ sym (r.from (origin_at Arg (last_index k 0 (map Some own) None) None)) ∙ e in
          let same : Arg j ≡ o = cc in
          by_entry j (entry_at args before is own j k s.entries s.entries_last (some_at own j k (index_kind k (map Some own) j q).0)) same r

      by_state : GivesState k front ⊎ KeepsState k front → (k ≡ Value) ⊎ (last_state k args (joined_nodes before (nodes_redirected (args_to_inputs is) front)) ≡ Some (args_to_inputs is o))
      by_state (inl g) =
          let given : Some (Out g.number g.port) ≡ Some o = sym (g.from (origin_at Arg (last_index k 0 (map Some own) None) None)) ∙ e in
          let same : Out g.number g.port ≡ o = cc in
          inr (replacement_state front k ∙ g.from (last_state k args before) ∙ ap (λ c. Some (args_to_inputs is c)) same)
      by_state (inr r) = by_index (last_index k 0 (map Some own) None) refl r

  replacement_map : (front rest : NodeTrees) → replacement ≡ joined_nodes front rest → ScopeMap own front args (joined_nodes before (nodes_redirected (args_to_inputs is) front)) (args_to_inputs is)
  replacement_map front rest w = record { one = λ o e. by_kind o e (is_none_or (known own front o)) }
    where
      by_kind : (o : Origin) → is_last own front o ≡ true → (known own front o ≡ None) ⊎ ((j : Kind) × (known own front o ≡ Some j)) →
          (known args (joined_nodes before (nodes_redirected (args_to_inputs is) front)) (args_to_inputs is o) ≡ known own front o) ×
          (is_last args (joined_nodes before (nodes_redirected (args_to_inputs is) front)) (args_to_inputs is o) ≡ true)
      by_kind o e (inl n) = absurd (last_is_known own front o e n)
      by_kind o e (inr q) =
          let kind = replacement_known front rest w o q.0 q.1 in (
            kind ∙ sym q.1,
            gives_last q.0 args (joined_nodes before (nodes_redirected (args_to_inputs is) front)) (args_to_inputs is o) kind
                (replacement_last front rest w o q.0 (last_gives q.0 own front o q.1 e)),
          )

  -- ---- origins of the nodes after the node, and of the results, where the replacement stands

  abbrev given : Origin → Origin
  given o = outputs_to_results (id_of x) (map (args_to_inputs is) outs) o

  in_after : (front rest : NodeTrees) → after ≡ joined_nodes front rest → (n : ℕ) → has_node n front ≡ true → has_node n after ≡ true
  in_after front rest w n h = ap (has_node n) w ∙ has_node-joined n front rest ∙ or_left (has_node n front) (has_node n rest) h

  not_following : (front rest : NodeTrees) → after ≡ joined_nodes front rest → (n : ℕ) → has_node n front ≡ true → (n == id_of x) ≡ false
  not_following front rest w n h =
      false_from_ne_true (n == id_of x)
      (λ q.
      let wrong : true ≡ false = sym (in_after front rest w n h) ∙ ap (λ m. has_node m after) (same_number n (id_of x) q) ∙ s.at_after in
      absurd (cc))

  kept_out : (n p : ℕ) → (n == id_of x) ≡ false → given (Out n p) ≡ Out n p
  kept_out n p q = ap (λ t. if t then unwrap_or (slice_get (map (args_to_inputs is) outs) p) (Out n p) else Out n p) q

  kind_before : (front : NodeTrees) (n p : ℕ) → kind_after (joined_nodes before (node_then x front)) n p None ≡
      kind_after front n p (if id_of x == n then joined (slice_get (output_kinds x) p) else kind_after before n p None)
  kind_before front n p = kind_after-joined before (node_then x front) n p None

  kind_following : (front : NodeTrees) (n p : ℕ) →
      kind_after (joined_nodes before (joined_nodes (nodes_redirected (args_to_inputs is) replacement) (nodes_redirected given front))) n p None ≡
      kind_after front n p (kind_after replacement n p (kind_after before n p None))
  kind_following front n p =
      kind_after-joined before (joined_nodes (nodes_redirected (args_to_inputs is) replacement) (nodes_redirected given front)) n p None
      ∙ kind_after-joined (nodes_redirected (args_to_inputs is) replacement) (nodes_redirected given front) n p (kind_after before n p None)
      ∙ kind_after-redirected given front n p (kind_after (nodes_redirected (args_to_inputs is) replacement) n p (kind_after before n p None))
      ∙ ap (kind_after front n p) (kind_after-redirected (args_to_inputs is) replacement n p (kind_after before n p None))

  following_known : (front rest : NodeTrees) → after ≡ joined_nodes front rest → (o : Origin) (k : Kind) →
      known args (joined_nodes before (nodes_redirected (args_to_inputs is) replacement)) o ≡ Some k →
      known args (joined_nodes before (joined_nodes (nodes_redirected (args_to_inputs is) replacement) (nodes_redirected given front))) o ≡ Some k
  following_known front rest w (Arg j) k e = e
  following_known front rest w (Out n p) k e =
      let stands : (has_node n before || has_node n replacement) ≡ true =
      sym (has_node-joined n before (nodes_redirected (args_to_inputs is) replacement) ∙ ap (λ b. has_node n before || b) (has_node-redirected (args_to_inputs is) n replacement))
      ∙ kind_known (joined_nodes before (nodes_redirected (args_to_inputs is) replacement)) n p k e in
      kind_following front n p ∙ kind_absent front n p (kind_after replacement n p (kind_after before n p None))
      (false_from_ne_true (has_node n front) (λ h. by_side (or_cases (has_node n before) (has_node n replacement) stands) (in_after front rest w n h)))
      ∙ sym (kind_after-joined before (nodes_redirected (args_to_inputs is) replacement) n p None ∙ kind_after-redirected (args_to_inputs is) replacement n p (kind_after before n p None)) ∙ e
    where
      by_side : (has_node n before ≡ true) ⊎ (has_node n replacement ≡ true) → has_node n after ≡ true → ⊥
      by_side (inl h) a = s.before_after n h a
      by_side (inr h) a = s.replacement_after n h a

  exit_kind : (p : ℕ) (k : Kind) → slice_get (output_kinds x) p ≡ Some (Some k) → Exit (known own replacement) outs p k
  exit_kind p k e = exit_at (known own replacement) outs p k (ap (λ ks. slice_get ks p) s.exits ∙ e)

  given_exit : (n p : ℕ) (k : Kind) (r : Exit (known own replacement) outs p k) → (n == id_of x) ≡ true → given (Out n p) ≡ args_to_inputs is r.origin
  given_exit n p k r q =
      ap (λ t. if t then unwrap_or (slice_get (map (args_to_inputs is) outs) p) (Out n p) else Out n p) q ∙ ap (λ t. unwrap_or t (Out n p)) (map_at (args_to_inputs is) outs p r.origin r.given)

  after_known : (front rest : NodeTrees) → after ≡ joined_nodes front rest → (o : Origin) (k : Kind) → known args (joined_nodes before (node_then x front)) o ≡ Some k →
      known args (joined_nodes before (joined_nodes (nodes_redirected (args_to_inputs is) replacement) (nodes_redirected given front))) (given o) ≡ Some k
  after_known front rest w (Arg j) k e = e
  after_known front rest w (Out n p) k e = by_front (cases_Bool (has_node n front))
    where
      by_number : has_node n front ≡ false → (n == id_of x) ≡ true ⊎ (n == id_of x) ≡ false →
          known args (joined_nodes before (joined_nodes (nodes_redirected (args_to_inputs is) replacement) (nodes_redirected given front))) (given (Out n p)) ≡ Some k
      by_number h (inl q) =
          let here : joined (slice_get (output_kinds x) p) ≡ Some k =
          sym (kind_before front n p ∙ kind_absent front n p (if id_of x == n then joined (slice_get (output_kinds x) p) else kind_after before n p None) h
          ∙ ap (λ t. if t then joined (slice_get (output_kinds x) p) else kind_after before n p None) (equal_back (id_of x) n ∙ q)) ∙ e in
          let r = exit_kind p k (joined_some (slice_get (output_kinds x) p) k here) in
          ap (known args (joined_nodes before (joined_nodes (nodes_redirected (args_to_inputs is) replacement) (nodes_redirected given front)))) (given_exit n p k r q)
          ∙ following_known front rest w (args_to_inputs is r.origin) k (replacement_known replacement no_nodes (sym (joined_none replacement)) r.origin k r.kind)
      by_number h (inr q) =
          let earlier : kind_after before n p None ≡ Some k =
          sym (kind_before front n p ∙ kind_absent front n p (if id_of x == n then joined (slice_get (output_kinds x) p) else kind_after before n p None) h
          ∙ ap (λ t. if t then joined (slice_get (output_kinds x) p) else kind_after before n p None) (equal_back (id_of x) n ∙ q)) ∙ e in
          ap (known args (joined_nodes before (joined_nodes (nodes_redirected (args_to_inputs is) replacement) (nodes_redirected given front)))) (kept_out n p q)
          ∙ kind_following front n p ∙ kind_absent front n p (kind_after replacement n p (kind_after before n p None)) h
          ∙ kind_absent replacement n p (kind_after before n p None) (false_from_ne_true (has_node n replacement) (λ b. s.replacement_before n b (kind_known before n p k earlier))) ∙ earlier

      by_front : (has_node n front ≡ true) ⊎ (has_node n front ≡ false) →
          known args (joined_nodes before (joined_nodes (nodes_redirected (args_to_inputs is) replacement) (nodes_redirected given front))) (given (Out n p)) ≡ Some k
      by_front (inl h) =
          ap (known args (joined_nodes before (joined_nodes (nodes_redirected (args_to_inputs is) replacement) (nodes_redirected given front)))) (kept_out n p (not_following front rest w n h))
          ∙ kind_following front n p
          ∙ kind_present front n p (kind_after replacement n p (kind_after before n p None)) (if id_of x == n then joined (slice_get (output_kinds x) p) else kind_after before n p None) h
          ∙ sym (kind_before front n p) ∙ e
      by_front (inr h) = by_number h (cases_Bool (n == id_of x))

  -- the scope after the node, with the replacement
  abbrev following : NodeTrees → NodeTrees
  following front = joined_nodes before (joined_nodes (nodes_redirected (args_to_inputs is) replacement) (nodes_redirected given front))

  state_before : (front : NodeTrees) (k : Kind) →
      last_state k args (joined_nodes before (node_then x front)) ≡ state_after k front (origin_at (λ p. Out (id_of x) p) (last_index k 0 (output_kinds x) None) (last_state k args before))
  state_before front k = state_after-joined k before (node_then x front) (origin_at Arg (last_index k 0 (map Some args) None) None)

  state_following : (front : NodeTrees) (k : Kind) → last_state k args (following front) ≡ state_after k front (state_after k replacement (last_state k args before))
  state_following front k =
      state_after-joined k before (joined_nodes (nodes_redirected (args_to_inputs is) replacement) (nodes_redirected given front)) (origin_at Arg (last_index k 0 (map Some args) None) None)
      ∙ state_after-joined k (nodes_redirected (args_to_inputs is) replacement) (nodes_redirected given front) (last_state k args before)
      ∙ state_after-redirected given k front (state_after k (nodes_redirected (args_to_inputs is) replacement) (last_state k args before))
      ∙ ap (state_after k front) (state_after-redirected (args_to_inputs is) k replacement (last_state k args before))

  own_fits : region_fits objects (region own replacement outs) ≡ true
  own_fits = (and_parts (region_fits objects (region own replacement outs)) (every_in_nodes (region_fits objects) replacement) s.inside).0

  own_returns : (nodes_fit objects (region own replacement outs) && results_are_last (region own replacement outs) && returns_state Memory (region own replacement outs) && returns_state Io
      (region own replacement outs)) ≡ true
  own_returns =
      (and_parts
      (nodes_fit objects (region own replacement outs) && results_are_last (region own replacement outs) && returns_state Memory (region own replacement outs) && returns_state Io
      (region own replacement outs))
      (region_has_one_state_each (region own replacement outs)) own_fits).0

  own_memory : (nodes_fit objects (region own replacement outs) && results_are_last (region own replacement outs) && returns_state Memory (region own replacement outs)) ≡ true
  own_memory =
      (and_parts (nodes_fit objects (region own replacement outs) && results_are_last (region own replacement outs) && returns_state Memory (region own replacement outs))
      (returns_state Io (region own replacement outs)) own_returns).0

  own_last : (nodes_fit objects (region own replacement outs) && results_are_last (region own replacement outs)) ≡ true
  own_last = (and_parts (nodes_fit objects (region own replacement outs) && results_are_last (region own replacement outs)) (returns_state Memory (region own replacement outs)) own_memory).0

  returns_own : (k : Kind) → (k ≡ Value) ⊎ (returns_state k (region own replacement outs) ≡ true)
  returns_own Value = inl refl
  returns_own Memory =
      inr (and_parts (nodes_fit objects (region own replacement outs) && results_are_last (region own replacement outs)) (returns_state Memory (region own replacement outs)) own_memory).1
  returns_own Io =
      inr (and_parts
      (nodes_fit objects (region own replacement outs) && results_are_last (region own replacement outs) && returns_state Memory (region own replacement outs))
      (returns_state Io (region own replacement outs)) own_returns).1

  needed : (g r : Bool) → (not g || r) ≡ true → g ≡ true → r ≡ true
  needed true r e h = e
  needed false r e h = absurd (cc)

  -- a state that the replacement gives is one that the node gives
  gives_given : (k : Kind) → gives k replacement ≡ true → (k ≡ Value) ⊎ (some_of (is_of k) (output_kinds x) ≡ true)
  gives_given k g = by_own (returns_own k)
    where
      by_own : (k ≡ Value) ⊎ (returns_state k (region own replacement outs) ≡ true) → (k ≡ Value) ⊎ (some_of (is_of k) (output_kinds x) ≡ true)
      by_own (inl v) = inl v
      by_own (inr r) = inr (ap (some_of (is_of k)) (sym s.exits) ∙ needed (gives k replacement) (some_of (is_of k) (map (known own replacement) outs)) r g)

  state_kept : (o : Origin) (k : Kind) → last_state k args before ≡ Some o → given o ≡ o
  state_kept (Arg j) k e = refl
  state_kept (Out n p) k e = by_state (state_cases k before)
    where
      by_index : (l : Option ℕ) → origin_at Arg l None ≡ Some (Out n p) → given (Out n p) ≡ Out n p
      by_index None q = absurd (cc)
      by_index (Some j) q = absurd (cc)

      by_state : GivesState k before ⊎ KeepsState k before → given (Out n p) ≡ Out n p
      by_state (inl g) =
          let same : Some (Out g.number g.port) ≡ Some (Out n p) = sym (g.from (origin_at Arg (last_index k 0 (map Some args) None) None)) ∙ e in
          let number : g.number ≡ n = cc in
          kept_out n p
          (false_from_ne_true (n == id_of x)
          (λ q.
          let wrong : true ≡ false = sym g.has ∙ ap (λ m. has_node m before) (number ∙ same_number n (id_of x) q) ∙ s.at_before in
          absurd (cc)))
      by_state (inr r) = by_index (last_index k 0 (map Some args) None) (sym (r.from (origin_at Arg (last_index k 0 (map Some args) None) None)) ∙ e)

  after_last : (front rest : NodeTrees) → after ≡ joined_nodes front rest → (o : Origin) (k : Kind) →
      (k ≡ Value) ⊎ (last_state k args (joined_nodes before (node_then x front)) ≡ Some o) → (k ≡ Value) ⊎ (last_state k args (following front) ≡ Some (given o))
  after_last front rest w o k (inl v) = inl v
  after_last front rest w o k (inr e) = by_state (state_cases k front)
    where
      by_exit : (p : ℕ) → Exit (known own replacement) outs p k → Out (id_of x) p ≡ o → KeepsState k front → (k ≡ Value) ⊎ (last_state k args (following front) ≡ Some (given o))
      by_exit p r same kept =
          by_last (replacement_last replacement no_nodes (sym (joined_none replacement)) r.origin k
          (last_gives k own replacement r.origin r.kind
          (all_at (is_last own replacement) outs p r.origin (and_parts (nodes_fit objects (region own replacement outs)) (results_are_last (region own replacement outs)) own_last).1 r.given)))
        where
          by_last : (k ≡ Value) ⊎ (last_state k args (joined_nodes before (nodes_redirected (args_to_inputs is) replacement)) ≡ Some (args_to_inputs is r.origin)) →
              (k ≡ Value) ⊎ (last_state k args (following front) ≡ Some (given o))
          by_last (inl v) = inl v
          by_last (inr t) =
              inr (state_following front k ∙ kept.from (state_after k replacement (last_state k args before)) ∙ sym (replacement_state replacement k) ∙ t
              ∙ sym (ap Some (given_exit (id_of x) p k r (same_number_true (id_of x)))) ∙ ap (λ c. Some (given c)) same)

      by_replacement : KeepsState k front → last_state k args before ≡ Some o → some_of (is_of k) (output_kinds x) ≡ false → GivesState k replacement ⊎ KeepsState k replacement →
          (k ≡ Value) ⊎ (last_state k args (following front) ≡ Some (given o))
      by_replacement kept q none (inl g) = by_given (gives_given k g.given)
        where
          by_given : (k ≡ Value) ⊎ (some_of (is_of k) (output_kinds x) ≡ true) → (k ≡ Value) ⊎ (last_state k args (following front) ≡ Some (given o))
          by_given (inl v) = inl v
          by_given (inr t) =
              let wrong : true ≡ false = sym t ∙ none in
              absurd (cc)
      by_replacement kept q none (inr r) =
          inr (state_following front k ∙ kept.from (state_after k replacement (last_state k args before)) ∙ r.from (last_state k args before) ∙ q ∙ sym (ap Some (state_kept o k q)))

      by_index : (l : Option ℕ) → last_index k 0 (output_kinds x) None ≡ l → KeepsState k front → (k ≡ Value) ⊎ (last_state k args (following front) ≡ Some (given o))
      by_index (Some p) q r =
          let taken : Some (Out (id_of x) p) ≡ Some o =
          sym (ap (λ l. origin_at (λ c. Out (id_of x) c) l (last_state k args before)) q)
          ∙ sym (r.from (origin_at (λ c. Out (id_of x) c) (last_index k 0 (output_kinds x) None) (last_state k args before))) ∙ sym (state_before front k) ∙ e in
          let same : Out (id_of x) p ≡ o = cc in
          by_exit p (exit_kind p k (index_kind k (output_kinds x) p q).0) same r
      by_index None q r =
          let earlier : last_state k args before ≡ Some o =
          sym (ap (λ l. origin_at (λ c. Out (id_of x) c) l (last_state k args before)) q)
          ∙ sym (r.from (origin_at (λ c. Out (id_of x) c) (last_index k 0 (output_kinds x) None) (last_state k args before))) ∙ sym (state_before front k) ∙ e in
          by_replacement r earlier (index_none k (output_kinds x) q) (state_cases k replacement)

      by_state : GivesState k front ⊎ KeepsState k front → (k ≡ Value) ⊎ (last_state k args (following front) ≡ Some (given o))
      by_state (inl g) =
          let taken : Some (Out g.number g.port) ≡ Some o =
          sym (g.from (origin_at (λ p. Out (id_of x) p) (last_index k 0 (output_kinds x) None) (last_state k args before))) ∙ sym (state_before front k) ∙ e in
          let same : Out g.number g.port ≡ o = cc in
          inr (state_following front k ∙ g.from (state_after k replacement (last_state k args before)) ∙ sym (ap Some (kept_out g.number g.port (not_following front rest w g.number g.has)))
          ∙ ap (λ c. Some (given c)) same)
      by_state (inr r) = by_index (last_index k 0 (output_kinds x) None) refl r

  after_map : (front rest : NodeTrees) → after ≡ joined_nodes front rest → ScopeMap args (joined_nodes before (node_then x front)) args (following front) given
  after_map front rest w = record { one = λ o e. by_kind o e (is_none_or (known args (joined_nodes before (node_then x front)) o)) }
    where
      by_kind : (o : Origin) → is_last args (joined_nodes before (node_then x front)) o ≡ true →
          (known args (joined_nodes before (node_then x front)) o ≡ None) ⊎ ((j : Kind) × (known args (joined_nodes before (node_then x front)) o ≡ Some j)) →
          (known args (following front) (given o) ≡ known args (joined_nodes before (node_then x front)) o) × (is_last args (following front) (given o) ≡ true)
      by_kind o e (inl n) = absurd (last_is_known args (joined_nodes before (node_then x front)) o e n)
      by_kind o e (inr q) =
          let kind = after_known front rest w o q.0 q.1 in
          (kind ∙ sym q.1, gives_last q.0 args (following front) (given o) kind (after_last front rest w o q.0 (last_gives q.0 args (joined_nodes before (node_then x front)) o q.1 e)))

  -- ---- the region with the replacement

  gives_more : (k : Kind) → (k ≡ Value → ⊥) → gives k (following after) ≡ true → gives k (joined_nodes before (node_then x after)) ≡ true
  gives_more k v g =
      gives-joined k before (node_then x after)
      ∙ by_side (or_cases (gives k before) (gives k (joined_nodes (nodes_redirected (args_to_inputs is) replacement) (nodes_redirected given after)))
      (sym (gives-joined k before (joined_nodes (nodes_redirected (args_to_inputs is) replacement) (nodes_redirected given after))) ∙ g))
    where
      by_given : (k ≡ Value) ⊎ (some_of (is_of k) (output_kinds x) ≡ true) → (gives k before || (some_of (is_of k) (output_kinds x) || gives k after)) ≡ true
      by_given (inl w) = absurd (v w)
      by_given (inr t) = or_right (gives k before) (some_of (is_of k) (output_kinds x) || gives k after) (or_left (some_of (is_of k) (output_kinds x)) (gives k after) t)

      by_replacement : (gives k (nodes_redirected (args_to_inputs is) replacement) ≡ true) ⊎ (gives k (nodes_redirected given after) ≡ true) →
          (gives k before || (some_of (is_of k) (output_kinds x) || gives k after)) ≡ true
      by_replacement (inl h) = by_given (gives_given k (sym (gives-redirected (args_to_inputs is) k replacement) ∙ h))
      by_replacement (inr h) =
          or_right (gives k before) (some_of (is_of k) (output_kinds x) || gives k after) (or_right (some_of (is_of k) (output_kinds x)) (gives k after) (sym (gives-redirected given k after) ∙ h))

      by_side : (gives k before ≡ true) ⊎ (gives k (joined_nodes (nodes_redirected (args_to_inputs is) replacement) (nodes_redirected given after)) ≡ true) →
          (gives k before || (some_of (is_of k) (output_kinds x) || gives k after)) ≡ true
      by_side (inl h) = or_left (gives k before) (some_of (is_of k) (output_kinds x) || gives k after) h
      by_side (inr h) =
          by_replacement (or_cases (gives k (nodes_redirected (args_to_inputs is) replacement)) (gives k (nodes_redirected given after))
          (sym (gives-joined k (nodes_redirected (args_to_inputs is) replacement) (nodes_redirected given after)) ∙ h))

  returns_more : (k : Kind) (r : Bool) → (k ≡ Value → ⊥) → (not (gives k (joined_nodes before (node_then x after))) || r) ≡ true → (not (gives k (following after)) || r) ≡ true
  returns_more k r v e = by_gives (cases_Bool (gives k (following after)))
    where
      by_gives : (gives k (following after) ≡ true) ⊎ (gives k (following after) ≡ false) → (not (gives k (following after)) || r) ≡ true
      by_gives (inl g) = or_right (not (gives k (following after))) r (needed (gives k (joined_nodes before (node_then x after))) r e (gives_more k v g))
      by_gives (inr g) = ap (λ b. not b || r) g

  nest_more : every_in_nodes (region_fits objects) (joined_nodes before (node_then x after)) ≡ true → every_in_nodes (region_fits objects) (following after) ≡ true
  nest_more e =
      let T = region_fits objects in
      let all : (every_in_nodes T before && (every_in_node T x && every_in_nodes T after)) ≡ true = sym (every_in_nodes-joined T before (node_then x after)) ∙ e in
      let first = (and_parts (every_in_nodes T before) (every_in_node T x && every_in_nodes T after) all).0 in
      let rest = (and_parts (every_in_node T x) (every_in_nodes T after) (and_parts (every_in_nodes T before) (every_in_node T x && every_in_nodes T after) all).1).1 in
      let middle : every_in_nodes T (nodes_redirected (args_to_inputs is) replacement) ≡ true =
      every_in_nodes-redirected T (args_to_inputs is) replacement ∙ (and_parts (region_fits objects (region own replacement outs)) (every_in_nodes T replacement) s.inside).1 in
      let last : every_in_nodes T (nodes_redirected given after) ≡ true = every_in_nodes-redirected T given after ∙ rest in
      every_in_nodes-joined T before (joined_nodes (nodes_redirected (args_to_inputs is) replacement) (nodes_redirected given after))
      ∙ (λ i. first i && (every_in_nodes-joined T (nodes_redirected (args_to_inputs is) replacement) (nodes_redirected given after) ∙ (λ j. middle j && last j)) i)

replacement_kept : (objects : ℕ) (args : List Kind) (before : List NodeTree) (x : NodeTree) (after : NodeTrees) (own : List Kind) (replacement : List NodeTree) (outs is results : List Origin) →
    ReplacementFits objects args (nodes_of before) x after own (nodes_of replacement) outs is →
    every_region (region_fits objects) (region args (joined_nodes (nodes_of before) (node_then x after)) results) ≡ true →
    RegionKept objects (region args (joined_nodes (nodes_of before) (node_then x after)) results)
    (region args
    (joined_nodes (nodes_of before) (joined_nodes (nodes_redirected (args_to_inputs is) (nodes_of replacement)) (nodes_redirected (outputs_to_results (id_of x) (map (args_to_inputs is) outs)) after)))
    (map (outputs_to_results (id_of x) (map (args_to_inputs is) outs)) results))
replacement_kept objects args before x after own replacement outs is results s e =
    let f = outputs_to_results (id_of x) (map (args_to_inputs is) outs) in
    let ns = joined_nodes (nodes_of before) (node_then x after) in
    let r = region args ns results in
    let fits = node_fits objects args in
    let replacement_with_inputs = map (node_redirected (args_to_inputs is)) replacement in
    let whole = (and_parts (region_fits objects r) (every_in_nodes (region_fits objects) ns) e).0 in
    let inside = (and_parts (region_fits objects r) (every_in_nodes (region_fits objects) ns) e).1 in
    let to_io = (and_parts (nodes_fit objects r && results_are_last r && returns_state Memory r && returns_state Io r) (region_has_one_state_each r) whole).0 in
    let states = (and_parts (nodes_fit objects r && results_are_last r && returns_state Memory r && returns_state Io r) (region_has_one_state_each r) whole).1 in
    let to_memory = (and_parts (nodes_fit objects r && results_are_last r && returns_state Memory r) (returns_state Io r) to_io).0 in
    let io = (and_parts (nodes_fit objects r && results_are_last r && returns_state Memory r) (returns_state Io r) to_io).1 in
    let to_last = (and_parts (nodes_fit objects r && results_are_last r) (returns_state Memory r) to_memory).0 in
    let memory = (and_parts (nodes_fit objects r && results_are_last r) (returns_state Memory r) to_memory).1 in
    let fit = (and_parts (nodes_fit objects r) (results_are_last r) to_last).0 in
    let last : all_of (is_last args ns) results ≡ true = (and_parts (nodes_fit objects r) (results_are_last r) to_last).1 in
    let split : (each_node fits [] (nodes_of before) && each_node fits before (node_then x after)) ≡ true = sym (each_node-joined fits [] before (node_then x after)) ∙ fit in
    let front_fit = (and_parts (each_node fits [] (nodes_of before)) (each_node fits before (node_then x after)) split).0 in
    let after_fit =
    (and_parts (fits (nodes_of before) x) (each_node fits (before ++ x ∷ []) after) (and_parts (each_node fits [] (nodes_of before)) (each_node fits before (node_then x after)) split).1).1 in
    let own_fit =
    (and_parts (nodes_fit objects (region own (nodes_of replacement) outs)) (results_are_last (region own (nodes_of replacement) outs))
    (own_last objects args (nodes_of before) x after own (nodes_of replacement) outs is s)).0 in
    let replacement_fit : each_node fits before (nodes_redirected (args_to_inputs is) (nodes_of replacement)) ≡ true =
    mapped_nodes_fit objects own args (args_to_inputs is) [] before (nodes_of replacement) (λ front rest w. replacement_map objects args (nodes_of before) x after own (nodes_of replacement) outs
    is s front rest w) own_fit in
    let following_is : (ms : NodeTrees) → joined_nodes (nodes_of before) (joined_nodes (nodes_redirected (args_to_inputs is) (nodes_of replacement)) ms) ≡
    joined_nodes (nodes_of (before ++ replacement_with_inputs)) ms =
    λ ms.
    sym (ap (λ ks. joined_nodes ks ms) (nodes_of_append before replacement_with_inputs) ∙ joined_assoc (nodes_of before) (nodes_of replacement_with_inputs) ms
    ∙ ap (λ ks. joined_nodes (nodes_of before) (joined_nodes ks ms)) (nodes_of-redirected (args_to_inputs is) replacement)) in
    let moved_fit : each_node fits (before ++ replacement_with_inputs) (nodes_redirected f after) ≡ true =
    mapped_nodes_fit objects args args f (before ++ x ∷ []) (before ++ replacement_with_inputs) after
    (λ front rest w.
    subst (λ ks. ScopeMap args (joined_nodes (nodes_of (before ++ x ∷ [])) front) args ks f) (following_is (nodes_redirected f front))
    (subst (λ ks. ScopeMap args ks args (joined_nodes (nodes_of before) (joined_nodes (nodes_redirected (args_to_inputs is) (nodes_of replacement)) (nodes_redirected f front))) f)
    (sym (joined_following before x front))
    (after_map objects args (nodes_of before) x after own (nodes_of replacement) outs is s front rest w)))
    after_fit in
    let all = mapped_all args ns args (joined_nodes (nodes_of before) (joined_nodes (nodes_redirected (args_to_inputs is) (nodes_of replacement)) (nodes_redirected f after))) f
    (after_map objects args (nodes_of before) x after own (nodes_of replacement) outs is s after no_nodes (sym (joined_none after))) results last in
    let nodes_now : each_node fits [] (joined_nodes (nodes_of before) (joined_nodes (nodes_redirected (args_to_inputs is) (nodes_of replacement)) (nodes_redirected f after))) ≡ true =
    each_node-joined fits [] before (joined_nodes (nodes_redirected (args_to_inputs is) (nodes_of replacement)) (nodes_redirected f after))
    ∙ (λ i. front_fit i
    && (ap (λ ks. each_node fits before (joined_nodes ks (nodes_redirected f after))) (sym (nodes_of-redirected (args_to_inputs is) replacement))
    ∙ each_node-joined fits before replacement_with_inputs (nodes_redirected f after)
    ∙ (λ j. (ap (each_node fits before) (nodes_of-redirected (args_to_inputs is) replacement) ∙ replacement_fit) j && moved_fit j)) i) in
    let memory_now = returns_more objects args (nodes_of before) x after own (nodes_of replacement) outs is s Memory (some_of (is_of Memory) (map (known args ns) results)) (λ v. absurd (cc)) memory in
    let io_now = returns_more objects args (nodes_of before) x after own (nodes_of replacement) outs is s Io (some_of (is_of Io) (map (known args ns) results)) (λ v. absurd (cc)) io in
    let now = joined_nodes (nodes_of before) (joined_nodes (nodes_redirected (args_to_inputs is) (nodes_of replacement)) (nodes_redirected f after)) in
    let fits_now : region_fits objects (region args now (map f results)) ≡ true =
    λ i.
    nodes_now i && all.1 i && (ap (λ ks. not (gives Memory now) || some_of (is_of Memory) ks) all.0 ∙ memory_now) i && (ap (λ ks. not (gives Io now) || some_of (is_of Io) ks) all.0 ∙ io_now) i
    && (ap (λ ks. one_state_each (map Some args) && one_state_each ks) all.0 ∙ states) i in
    record { args = refl; results = all.0; inside = λ i. fits_now i && nest_more objects args (nodes_of before) x after own (nodes_of replacement) outs is s inside i }

list_of : NodeTrees → List NodeTree
list_of no_nodes = []
list_of (node_then y ys) = y ∷ list_of ys

nodes_of-list_of : (ns : NodeTrees) → nodes_of (list_of ns) ≡ ns
unfolding list_of
nodes_of-list_of no_nodes = refl
nodes_of-list_of (node_then y ys) = ap (λ ns. node_then y ns) (nodes_of-list_of ys)

-- the region in which the replacement is spliced instead of a node
pub region_spliced_kept : (objects at : ℕ) (args : List Kind) (nodes : NodeTrees) (results : List Origin) (own : List Kind) (replacement : NodeTrees) (outs is : List Origin) (split : Split at nodes) →
    ReplacementFits objects args split.before split.here split.after own replacement outs is → every_region (region_fits objects) (region args nodes results) ≡ true →
    RegionKept objects (region args nodes results) (region_spliced at (region_redirected (args_to_inputs is) (region own replacement outs)) (region args nodes results))
region_spliced_kept objects at args nodes results own replacement outs is split s e =
    let O = map (args_to_inputs is) outs in
    let P = nodes_redirected (args_to_inputs is) replacement in
    let kept =
    subst
    (λ b.
    ReplacementFits objects args b split.here split.after own replacement outs is → every_region (region_fits objects) (region args (joined_nodes b (node_then split.here split.after)) results) ≡
    true →
    RegionKept objects (region args (joined_nodes b (node_then split.here split.after)) results)
    (region args (joined_nodes b (joined_nodes P (nodes_redirected (outputs_to_results (id_of split.here) O) split.after))) (map (outputs_to_results (id_of split.here) O) results)))
    (nodes_of-list_of split.before)
    (subst
    (λ p.
    ReplacementFits objects args (nodes_of (list_of split.before)) split.here split.after own p outs is →
    every_region (region_fits objects) (region args (joined_nodes (nodes_of (list_of split.before)) (node_then split.here split.after)) results) ≡ true →
    RegionKept objects (region args (joined_nodes (nodes_of (list_of split.before)) (node_then split.here split.after)) results)
    (region args (joined_nodes (nodes_of (list_of split.before)) (joined_nodes (nodes_redirected (args_to_inputs is) p) (nodes_redirected (outputs_to_results (id_of split.here) O) split.after)))
    (map (outputs_to_results (id_of split.here) O) results)))
    (nodes_of-list_of replacement)
    (replacement_kept objects args (list_of split.before) split.here split.after own (list_of replacement) outs is results)) in
    let same : region args (joined_nodes split.before (joined_nodes P (nodes_redirected (outputs_to_results (id_of split.here) O) split.after))) (map (outputs_to_results (id_of split.here) O) results)
    ≡ region args (nodes_spliced at P O nodes) (map (outputs_to_results at O) results) =
    ap (λ n. region args (joined_nodes split.before (joined_nodes P (nodes_redirected (outputs_to_results n O) split.after))) (map (outputs_to_results n O) results))
    (same_number (id_of split.here) at split.numbered)
    ∙ ap (λ ns. region args ns (map (outputs_to_results at O) results)) (sym (split.spliced P O)) in
    subst (λ t. RegionKept objects t (region args (nodes_spliced at P O nodes) (map (outputs_to_results at O) results))) (ap (λ ns. region args ns results) (sym split.whole))
    (subst (λ t. RegionKept objects (region args (joined_nodes split.before (node_then split.here split.after)) results) t) same
    (kept s (ap (λ ns. every_region (region_fits objects) (region args ns results)) (sym split.whole) ∙ e)))
