-- A region and then another one on its results fit where both do.
use Rattle.std.specs.Prelude.{◌||◌, not, unwrap_or}
use Rattle.std.proofs.Common.{◌≡◌, ◌⊎◌, inl, inr, ℕ, zero, suc, Bool, true, false, List, [], ◌∷◌, map, Option, None, Some, slice_get, refl, sym, ap, subst, ◌∙◌}
use Rattle.std.proofs.lemmas.Bool.{and_parts, and_from, false_from_ne_true}
use Rattle.g_graph.specs.declared.op.Kind.{Kind}
use Rattle.g_graph.specs.declared.op.Kind.TheVariants.{Value, Memory, Io}
use Rattle.g_graph.specs.declared.op.Origin.{Origin}
use Rattle.g_graph.specs.declared.op.Origin.TheVariants.{Arg, Out}
use Rattle.g_graph.specs.Plain.{region, NodeTree, NodeTrees, no_nodes, node_then, nodes_of}
use Rattle.g_graph.specs.Change.{has_node}
use Rattle.g_graph.specs.Replace.{nodes_redirected}
use Rattle.g_graph.specs.Scope.{is_of, known, last_index, origin_at, state_after, last_state, each_node}
use Rattle.g_graph.specs.Signatures.{joined, kind_after}
use Rattle.g_graph.specs.Splice.{args_to_inputs, joined_nodes}
use Rattle.g_graph.specs.WellFormed.{all_of, some_of, one_state_each, gives, is_last, node_fits, region_fits, every_region, every_in_nodes}
use Rattle.g_graph.proofs.lemmas.Indexes.{kind_absent, kind_present, kind_known, index_kind, GivesState, KeepsState, state_cases, last_gives, each_node-joined}
use Rattle.g_graph.proofs.lemmas.Redirects.{kind_after-redirected, state_after-redirected, every_in_nodes-redirected}
use Rattle.g_graph.proofs.lemmas.Splices.{joined_none, kind_after-joined, state_after-joined, every_in_nodes-joined}
use Rattle.g_mean.proofs.lemmas.Kinds.{joined-some}
use Rattle.r_edit.proofs.lemmas.AddedFit.{nothing, none-of, none-read, scope-from, Fits, fits-from}
use Rattle.r_edit.proofs.lemmas.Kept.{IsState, memory, io}
use Rattle.r_edit.proofs.lemmas.Scopes.{KeepsScope, kept_all, kept_nodes_fit}
use Rattle.r_invert.specs.Compose.{in_sequence}

-- both states are among these
pub record HaveStates (ks : List (Option Kind)) : Type 0 where
  pub memory : some_of (is_of Memory) ks ≡ true
  pub io : some_of (is_of Io) ks ≡ true

pub given-where : (t u : Bool) → u ≡ true → (not t || u) ≡ true
given-where true u e = e
given-where false u e = refl

pub list-of : (ns : NodeTrees) → (fs : List NodeTree) × (ns ≡ nodes_of fs)
list-of no_nodes = ([], refl)
list-of (node_then x ns) = let rest = list-of ns in (x ∷ rest.0, ap (λ ms. node_then x ms) rest.1)

not-value : (k : Kind) → IsState k → (P : Type 0) → (k ≡ Value) ⊎ P → P
not-value Memory memory P (inl v) = absurd cc
not-value Io io P (inl v) = absurd cc
not-value Value s P (inl v) = elim s [ ]
not-value k s P (inr h) = h

-- what stands at an index, its kind, and that it is the last of its state
pub record Entry (args : List Kind) (ns : NodeTrees) (os : List Origin) (j : ℕ) (k : Kind) : Type 0 where
  pub origin : Origin
  pub there : slice_get os j ≡ Some origin
  pub kind : known args ns origin ≡ Some k
  pub last : is_last args ns origin ≡ true

pub entry-at : (args : List Kind) (ns : NodeTrees) (os : List Origin) (ks : List Kind) → map (known args ns) os ≡ map Some ks → all_of (is_last args ns) os ≡ true → (j : ℕ) (k : Kind) →
    slice_get ks j ≡ Some k → Entry args ns os j k
entry-at args ns [] [] e l j k d = absurd cc
entry-at args ns [] (i ∷ ks) e l j k d = absurd cc
entry-at args ns (o ∷ os) [] e l j k d = absurd cc
entry-at args ns (o ∷ os) (i ∷ ks) e l zero k d =
    let first : known args ns o ≡ Some i = cc in
    record { origin = o; there = refl; kind = first ∙ d; last = (and_parts (is_last args ns o) (all_of (is_last args ns) os) l).0 }
entry-at args ns (o ∷ os) (i ∷ ks) e l (suc j) k d =
    let rest : map (known args ns) os ≡ map Some ks = cc in
    let h = entry-at args ns os ks rest (and_parts (is_last args ns o) (all_of (is_last args ns) os) l).1 j k d in
    record { origin = h.origin; there = h.there; kind = h.kind; last = h.last }

module _ (objects : ℕ) (args : List Kind) (ns : NodeTrees) (results : List Origin) (own : List Kind) (ms : NodeTrees) (gets : List Origin)
    (apart : (n : ℕ) → has_node n ns ≡ true → has_node n ms ≡ true → ⊥) (first : Fits objects args ns results) (second : Fits objects own ms gets)
    (kinds : map (known args ns) results ≡ map Some own) where
  abbrev move : Origin → Origin
  move = args_to_inputs results

  abbrev after : NodeTrees → NodeTrees
  after front = joined_nodes ns (nodes_redirected move front)

  entry : (j : ℕ) (k : Kind) → slice_get own j ≡ Some k → Entry args ns results j k
  entry j k e = entry-at args ns results own kinds first.last j k e

  in-front : (front rest : NodeTrees) → ms ≡ joined_nodes front rest → (n : ℕ) → has_node n front ≡ true → has_node n ms ≡ true
  in-front front rest w n h = ap (has_node n) w ∙ joined-has front h
    where
      joined-has : (front : NodeTrees) → has_node n front ≡ true → has_node n (joined_nodes front rest) ≡ true
      joined-has no_nodes h = absurd cc
      joined-has (node_then x front) h = by _ h (λ k. joined-has front k)
        where
          by : (t : Bool) → (t || has_node n front) ≡ true → (has_node n front ≡ true → has_node n (joined_nodes front rest) ≡ true) → (t || has_node n (joined_nodes front rest)) ≡ true
          by true e go = refl
          by false e go = go e

  -- ---- what is known of them there

  known-before : (front rest : NodeTrees) → ms ≡ joined_nodes front rest → (o : Origin) (k : Kind) → known args ns o ≡ Some k → known args (after front) o ≡ Some k
  known-before front rest w (Arg j) k e = e
  known-before front rest w (Out n p) k e =
      kind_after-joined ns (nodes_redirected move front) n p None ∙ kind_after-redirected move front n p (kind_after ns n p None)
      ∙ kind_absent front n p (kind_after ns n p None) (false_from_ne_true (has_node n front) (λ h. apart n (kind_known ns n p k e) (in-front front rest w n h))) ∙ e

  known-there : (front rest : NodeTrees) → ms ≡ joined_nodes front rest → (o : Origin) (k : Kind) → known own front o ≡ Some k → known args (after front) (move o) ≡ Some k
  known-there front rest w (Arg j) k e =
      let r = entry j k e in
      ap (λ t. known args (after front) (unwrap_or t (Arg j))) r.there ∙ known-before front rest w r.origin k r.kind
  known-there front rest w (Out n p) k e =
      kind_after-joined ns (nodes_redirected move front) n p None ∙ kind_after-redirected move front n p (kind_after ns n p None)
      ∙ kind_present front n p (kind_after ns n p None) None (kind_known front n p k e) ∙ e

  state-there : (front : NodeTrees) (k : Kind) → last_state k args (after front) ≡ state_after k front (last_state k args ns)
  state-there front k =
      state_after-joined k ns (nodes_redirected move front) (origin_at Arg (last_index k 0 (map Some args) None) None)
      ∙ state_after-redirected move k front (last_state k args ns)

  abbrev start : Kind → Option Origin
  start k = origin_at Arg (last_index k 0 (map Some own) None) None

  last-there : (front : NodeTrees) (k : Kind) → IsState k → (o : Origin) → last_state k own front ≡ Some o → last_state k args (after front) ≡ Some (move o)
  last-there front k s o e = by (state_cases k front)
    where
      at-index : (l : Option ℕ) → last_index k 0 (map Some own) None ≡ l → KeepsState k front → last_state k args (after front) ≡ Some (move o)
      at-index None q r =
          let none : None ≡ Some o = sym (ap (λ l. origin_at Arg l None) q) ∙ sym (r.from (start k)) ∙ e in
          absurd cc
      at-index (Some j) q r =
          let taken : Some (Arg j) ≡ Some o = sym (ap (λ l. origin_at Arg l None) q) ∙ sym (r.from (start k)) ∙ e in
          let same : Arg j ≡ o = cc in
          let at = entry j k (joined-some own j k (ap joined (index_kind k (map Some own) j q).0)) in
          state-there front k ∙ r.from (last_state k args ns) ∙ not-value k s (last_state k args ns ≡ Some at.origin) (last_gives k args ns at.origin at.kind at.last)
          ∙ sym (ap (λ t. Some (unwrap_or t (Arg j))) at.there) ∙ ap (λ b. Some (move b)) same

      by : GivesState k front ⊎ KeepsState k front → last_state k args (after front) ≡ Some (move o)
      by (inl g) =
          let given : Some (Out g.number g.port) ≡ Some o = sym (g.from (start k)) ∙ e in
          let same : Out g.number g.port ≡ o = cc in
          state-there front k ∙ g.from (last_state k args ns) ∙ ap (λ b. Some (move b)) same
      by (inr r) = at-index (last_index k 0 (map Some own) None) refl r

  scope : (front rest : NodeTrees) → ms ≡ joined_nodes front rest → KeepsScope nothing own front args (after front) move
  scope front rest w = scope-from own args front (after front) move (known-there front rest w) (λ k s o n e. last-there front k s o e)

  -- ---- the region

  all-there : (map (known args (after ms)) (map move gets) ≡ map (known own ms) gets) × (all_of (is_last args (after ms)) (map move gets) ≡ true)
  all-there = kept_all nothing objects own args move ms (after ms) (scope ms no_nodes (sym (joined_none ms))) gets (none-of gets) second.last

  pub sequence-kinds : map (known args (after ms)) (map move gets) ≡ map (known own ms) gets
  sequence-kinds = all-there.0

  each-there : each_node (node_fits objects args) [] (after ms) ≡ true
  each-there = by (list-of ns)
    where
      by : (fs : List NodeTree) × (ns ≡ nodes_of fs) → each_node (node_fits objects args) [] (after ms) ≡ true
      by l =
          let rest = kept_nodes_fit nothing objects own args move [] l.0 ms
          (λ front rest w. subst (λ xs. KeepsScope nothing own front args (joined_nodes xs (nodes_redirected move front)) move) l.1 (scope front rest w)) (none-read ms) second.each in
          ap (λ xs. each_node (node_fits objects args) [] (joined_nodes xs (nodes_redirected move ms))) l.1
          ∙ each_node-joined (node_fits objects args) [] l.0 (nodes_redirected move ms)
          ∙ and_from (each_node (node_fits objects args) [] (nodes_of l.0)) (each_node (node_fits objects args) l.0 (nodes_redirected move ms))
          (ap (each_node (node_fits objects args) []) (sym l.1) ∙ first.each) rest

  pub sequence-fits : HaveStates (map (known own ms) gets) → every_region (region_fits objects) (in_sequence (region args ns results) (region own ms gets)) ≡ true
  sequence-fits states =
      fits-from objects args (after ms) (map move gets)
      (record {
        each = each-there;
        last = all-there.1;
        memory_given = given-where (gives Memory (after ms)) (some_of (is_of Memory) (map (known args (after ms)) (map move gets))) (ap (some_of (is_of Memory)) sequence-kinds ∙ states.memory);
        io_given = given-where (gives Io (after ms)) (some_of (is_of Io) (map (known args (after ms)) (map move gets))) (ap (some_of (is_of Io)) sequence-kinds ∙ states.io);
        first = first.first;
        second = ap one_state_each sequence-kinds ∙ second.second;
        inside = every_in_nodes-joined (region_fits objects) ns (nodes_redirected move ms)
            ∙ and_from (every_in_nodes (region_fits objects) ns) (every_in_nodes (region_fits objects) (nodes_redirected move ms)) first.inside
            (every_in_nodes-redirected (region_fits objects) move ms ∙ second.inside);
      })
