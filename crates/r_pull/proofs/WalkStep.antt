-- The rule at a node, where the nodes behind it are written: it moves into one of these, or stays.
use Rattle.std.specs.Option.{option_or}
use Rattle.std.specs.Prelude.{option_and_then, unwrap_or, is_some}
use Rattle.std.proofs.Common.{◌≡◌, ℕ, ◌+◌, ◌-◌, ◌==◌, ◌&&◌, ◌||◌, ◌⊎◌, not, Bool, true, false, cond, List, [], ◌∷◌, ◌++◌, length, Option, None, Some, option_map, refl, sym, ap, ap₂, subst, ◌∙◌, inl, inr, arith}
use Rattle.std.proofs.lemmas.Bool.{or_parts}
use Rattle.std.proofs.lemmas.Option.{same_Some}
use Rattle.g_graph.specs.declared.op.Kind.{Kind}
use Rattle.g_graph.specs.declared.op.Op.{Op}
use Rattle.g_graph.specs.declared.op.Origin.{Origin}
use Rattle.r_rule.specs.declared.steps.Rule.TheVariants.{Pull}
use Rattle.g_graph.specs.Change.{has_node}
use Rattle.g_graph.specs.Count.{region_values}
use Rattle.g_graph.specs.Ids.{region_ids, nodes_ids}
use Rattle.g_graph.specs.Plain.{RegionTree, region, NodeTree, node, NodeTrees, no_nodes, node_then, RegionTrees, id_of, has_none, PlainLambda}
use Rattle.g_graph.specs.Program.{lambda_values}
use Rattle.g_graph.specs.Signatures.{is_pure}
use Rattle.g_graph.specs.Splice.{joined_nodes}
use Rattle.g_graph.specs.WellFormed.{some_of, IsWellFormed}
use Rattle.g_graph.proofs.lemmas.Indexes.{same_number_true}
use Rattle.g_mean.specs.Copies.{IsAmong, AreRead, NodesRead, known_after, is_argument}
use Rattle.g_mean.proofs.lemmas.Copies.{among-split}
use Rattle.g_mean.proofs.lemmas.Splices.{joined-read, known-among}
use Rattle.r_edit.specs.Uses.{nodes_read, is_output_of}
use Rattle.r_edit.specs.Removal.{nodes_without}
use Rattle.r_pull.specs.Rule as rule
use Rattle.r_pull.specs.Rule.{node_uses, only_user, user_changed, gamma_pulled, added, gone, copies_of, into, pull_of, where_fits, pull_at, region_pulled, pull_here, copies_here, copies_at, region_answer, applies, lambda_pulled}
use Rattle.r_pull.specs.Laws.{PullIsAStep}
use Rattle.r_pull.proofs.Resized.{pulled-count}
use Rattle.r_pull.proofs.Unread.{uses-known}
use Rattle.r_pull.proofs.User.{pulled-at}
use Rattle.r_pull.specs.WalkLaws.{pull_change}
use Rattle.r_pull.specs.Walk.{Behind, pull_behind, put, put_where}
use Rattle.r_pull.proofs.Places.{IsPlace, AnswersOnlyAt, hollow, or_none, nodes_answer_within, regions_silent}
use Rattle.r_sweep_def.specs.Swept.{Logged, swept_by}
use Rattle.r_walk.specs.Context.{ChangesOnlyAt}
use Rattle.r_walk.specs.Walk.{Walking}
use Rattle.r_walk.proofs.lemmas.Local as local
use Rattle.r_walk.proofs.lemmas.Local.{not_found}

-- ---- nodes before the node do not use it

known_before : (n : ℕ) (known : List ℕ) (ns : NodeTrees) → IsAmong n known → IsAmong n (known_after known ns)
known_before n known no_nodes h = h
known_before n known (node_then (node id op inputs rs) ns) h = known_before n (id ∷ known) ns (inr h)

unused : (count n : ℕ) (known : List ℕ) (os : List Origin) → AreRead (is_argument count) known os → (IsAmong n known → ⊥) → some_of (is_output_of n) os ≡ false
unused count n known os r h = by (some_of (is_output_of n) os) refl
  where
    by : (t : Bool) → some_of (is_output_of n) os ≡ t → t ≡ false
    by true e = absurd (h (uses-known count n known os r e))
    by false e = refl

unread : (count n : ℕ) (known : List ℕ) (ns : NodeTrees) → NodesRead (is_argument count) known ns → (IsAmong n (known_after known ns) → ⊥) → nodes_read (is_output_of n) ns ≡ false
unread count n known no_nodes r h = refl
unread count n known (node_then (node id op inputs rs) ns) r h =
    λ i. unused count n known inputs r.0.0 (λ k. h (known_before n (id ∷ known) ns (inr k))) i || unread count n (id ∷ known) ns r.1 h i

-- ---- nodes before it stay

module _ (n : ℕ) where
  only_after : (before : NodeTrees) (x : NodeTree) (after : NodeTrees) → nodes_read (is_output_of n) before ≡ false → node_uses n x ≡ false → only_user n (joined_nodes before (node_then x after)) ≡ only_user n after
  only_after no_nodes x after b u = ap (λ t. cond t (cond (nodes_read (is_output_of n) after) None (Some x)) (only_user n after)) u
  only_after (node_then (node id op inputs rs) before) x after b u =
      let both = or_parts (some_of (is_output_of n) inputs) (nodes_read (is_output_of n) before) b in
      let rest = joined_nodes before (node_then x after) in
      ap (λ t. cond t (cond (nodes_read (is_output_of n) rest) None (Some (node id op inputs rs))) (only_user n rest)) both.0 ∙ only_after before x after both.1 u

  changed_after : (f : NodeTree → NodeTree) (before : NodeTrees) (x : NodeTree) (after : NodeTrees) → nodes_read (is_output_of n) before ≡ false → node_uses n x ≡ false →
      user_changed n f (joined_nodes before (node_then x after)) ≡ joined_nodes before (node_then x (user_changed n f after))
  changed_after f no_nodes x after b u = ap (λ t. cond t (node_then (f x) after) (node_then x (user_changed n f after))) u
  changed_after f (node_then (node id op inputs rs) before) x after b u =
      let both = or_parts (some_of (is_output_of n) inputs) (nodes_read (is_output_of n) before) b in
      let rest = joined_nodes before (node_then x after) in
      let y = node id op inputs rs in
      ap (λ t. cond t (node_then (f y) rest) (node_then y (user_changed n f rest))) both.0 ∙ ap (node_then y) (changed_after f before x after both.1 u)

  without_it : (before : NodeTrees) (x : NodeTree) (after : NodeTrees) → has_node n before ≡ false → (id_of x == n) ≡ true → nodes_without n (joined_nodes before (node_then x after)) ≡ joined_nodes before after
  without_it no_nodes x after b e = ap (λ t. cond t after (node_then x (nodes_without n after))) e
  without_it (node_then y before) x after b e =
      let both = or_parts (id_of y == n) (has_node n before) b in
      let rest = joined_nodes before (node_then x after) in
      ap (λ t. cond t rest (node_then y (nodes_without n rest))) both.0 ∙ ap (node_then y) (without_it before x after both.1 e)

-- ---- a number that is not there

changes_only : (values next n : ℕ) → ChangesOnlyAt n (pull_here values next n)
changes_only values next n (region args nodes results) h =
    ap (λ o. option_map (region_pulled next n (region args nodes results)) (option_and_then (where_fits values next n) (option_and_then (pull_of n (region args nodes results)) o))) (not_found n nodes h)

answers_only : (values next n : ℕ) → AnswersOnlyAt n (copies_here values next n)
answers_only values next n (region args nodes results) h =
    ap (λ o. option_map (copies_of n) (option_and_then (where_fits values next n) (option_and_then (pull_of n (region args nodes results)) o))) (not_found n nodes h)

-- ---- sweeps

abbrev pub logged : PlainLambda → Walking → Logged
logged l w = record { lambda = l; steps = w.steps }

-- from one lambda to another by a sweep of these numbers
pub record IsSweep (ids : List ℕ) (l : PlainLambda) (w : Walking) (l' : PlainLambda) (w' : Walking) : Type 0 where
  pub swept : swept_by pull_change ids (logged l w) ≡ logged l' w'
  pub well : IsWellFormed l'
  pub values : w'.values ≡ lambda_values l'
  pub next : w'.next ≡ l'.next

-- a well-formed lambda with this body, and its counts
pub record IsNow (body : RegionTree) (w : Walking) (l : PlainLambda) : Type 0 where
  pub well : IsWellFormed l
  pub body_is : l.body ≡ body
  pub values : w.values ≡ lambda_values l
  pub next : w.next ≡ l.next

-- the lambda with another body
abbrev pub lambda_of : PlainLambda → RegionTree → Walking → PlainLambda
lambda_of l body w = record l { body = body; next = w.next }

same_lambda : (l : PlainLambda) (body : RegionTree) (next : ℕ) → l.body ≡ body → next ≡ l.next → l ≡ record l { body = body; next = next }
same_lambda l body next e d = λ i. record l { body = e i; next = sym d i }

-- nothing is swept
pub none_swept : (l : PlainLambda) (body : RegionTree) (w : Walking) → IsNow body w l → IsSweep [] l w (lambda_of l body w) w
none_swept l body w now =
    let same : l ≡ lambda_of l body w = same_lambda l body w.next now.body_is now.next in
    record { swept = ap (λ z. logged z w) same; well = subst IsWellFormed same now.well; values = now.values ∙ ap lambda_values same; next = refl }

-- ---- the node

module _ (is_step : PullIsAStep) (context : RegionTree → RegionTree) (place : IsPlace context) (args : List Kind) (before : NodeTrees) (n : ℕ) (op : Op) (inputs : List Origin) (rs : RegionTrees)
    (s : Behind) (results : List Origin) (l : PlainLambda)
    (now : IsNow (context (region args (joined_nodes before (node_then (node n op inputs rs) s.nodes)) results)) s.now l) where
  abbrev x : NodeTree
  x = node n op inputs rs

  abbrev here : RegionTree
  here = region args (joined_nodes before (node_then (node n op inputs rs) s.nodes)) results

  closed : NodesRead (is_argument (length args)) [] before × NodesRead (is_argument (length args)) (known_after [] before) (node_then x s.nodes)
  closed = joined-read (is_argument (length args)) [] before (node_then x s.nodes) (local.part_of l context args before x s.nodes results place.is now.well now.body_is).closed.0

  not_known : IsAmong n (known_after [] before) → ⊥
  not_known h = by (known-among [] before n h)
    where
      by : IsAmong n [] ⊎ IsAmong n (nodes_ids before) → ⊥
      by (inl k) = absurd k
      by (inr k) = local.not_in_before l context args before x s.nodes results place.is now.well now.body_is n (inl refl) k

  before_unread : nodes_read (is_output_of n) before ≡ false
  before_unread = unread (length args) n [] before closed.0 not_known

  it_unread : node_uses n (node n op inputs rs) ≡ false
  it_unread = unused (length args) n (known_after [] before) inputs closed.1.0.0 not_known

  none_before : has_node n before ≡ false
  none_before = local.not_before l context args before x s.nodes results place.is now.well now.body_is

  not_around : IsAmong n (region_ids (context hollow)) → ⊥
  not_around h = by (among-split n (place.is.first ++ []) place.is.last (subst (IsAmong n) (place.is.numbers hollow) h))
    where
      front : IsAmong n place.is.first ⊎ IsAmong n [] → ⊥
      front (inl k) = local.not_in_first l context args before x s.nodes results place.is now.well now.body_is n (inl refl) k
      front (inr k) = absurd k

      by : IsAmong n (place.is.first ++ []) ⊎ IsAmong n place.is.last → ⊥
      by (inl k) = front (among-split n place.is.first [] k)
      by (inr k) = local.not_in_last l context args before x s.nodes results place.is now.well now.body_is n (inl refl) k

  -- ---- what the rule sees

  pull_is : pull_at (lambda_values l) l.next n here ≡ pull_behind (node n op inputs rs) results s
  pull_is =
      ap (λ o. option_and_then (where_fits (lambda_values l) l.next n) (option_and_then (pull_of n here) o)) (local.found_here args before x s.nodes results none_before)
      ∙ ap (λ u. option_and_then (where_fits (lambda_values l) l.next n) (cond (is_pure op && has_none rs && not (some_of (is_output_of n) results)) (option_and_then (into n op inputs) u) None))
      (only_after n before x s.nodes before_unread it_unread)
      ∙ ap₂ (λ v k. option_and_then (where_fits v k n) (pull_of n (region [] s.nodes results) x)) (sym now.values) (sym now.next)

  pulled_is : (h : rule.Pull) → region_pulled l.next n here h ≡ region args (joined_nodes before (user_changed n (gamma_pulled l.next n h) s.nodes)) results
  pulled_is h =
      ap (λ ns. region args ns results)
      (ap (nodes_without n) (changed_after n (gamma_pulled l.next n h) before x s.nodes before_unread it_unread)
      ∙ without_it n before x (user_changed n (gamma_pulled l.next n h) s.nodes) none_before (same_number_true n))

  answer_is : copies_at l n ≡ copies_here (lambda_values l) l.next n here
  answer_is =
      let f = copies_here (lambda_values l) l.next n in
      let only = answers_only (lambda_values l) l.next n in
      let inside = local.not_inside l context args before x s.nodes results place.is now.well now.body_is in
      ap (region_answer f) now.body_is ∙ place.answers n f here only not_around
      ∙ ap (option_or (f here))
      (nodes_answer_within n f only before x s.nodes (local.not_in_before l context args before x s.nodes results place.is now.well now.body_is n (inl refl))
      (local.not_in_after l context args before x s.nodes results place.is now.well now.body_is n (inl refl))
      ∙ regions_silent n f only rs inside)
      ∙ or_none (f here)

  -- ---- the node stays

  stays : pull_behind (node n op inputs rs) results s ≡ None → applies l n ≡ false
  stays e = ap is_some (answer_is ∙ ap (option_map (copies_of n)) (pull_is ∙ e))

  -- ---- the node moves

  module _ (h : rule.Pull) (e : pull_behind (node n op inputs rs) results s ≡ Some h) where
    abbrev then : RegionTree
    then = region args (joined_nodes before (user_changed n (gamma_pulled l.next n h) s.nodes)) results

    found : pull_at (lambda_values l) l.next n here ≡ Some h
    found = pull_is ∙ e

    changes : pull_here (lambda_values l) l.next n here ≡ Some then
    changes = ap (option_map (region_pulled l.next n here)) found ∙ ap Some (pulled_is h)

    copied : copies_at l n ≡ Some (copies_of n h)
    copied = answer_is ∙ ap (option_map (copies_of n)) found

    lambda_is : lambda_pulled n l ≡ record l { body = context then; next = l.next + copies_of n h }
    lambda_is =
        ap₂ (λ o c. record l { body = unwrap_or o l.body; next = l.next + unwrap_or c 0 })
        (local.changed_at l context args before x s.nodes results place.is now.well now.body_is (pull_here (lambda_values l) l.next n) (changes_only (lambda_values l) l.next n) then changes) copied

    counted : s.now.values + added n h - gone n h ≡ region_values (context then)
    counted =
        let at = pulled-at (lambda_values l) l.next n args (joined_nodes before (node_then x s.nodes)) results then changes in
        let same : at.pull ≡ h = same_Some at.pull h (sym at.found ∙ found) in
        omega (
          arith,
          pulled-count (lambda_values l) l.next n args (joined_nodes before (node_then x s.nodes)) results then at,
          ap (gone n) same,
          ap (added n) same,
          place.is.values then here (record { args = refl; results = refl }),
          now.values,
          ap region_values now.body_is,
        )

    moved : IsSweep (n ∷ []) l s.now (lambda_of l (context (region args (joined_nodes before (put (node n op inputs rs) s (Some h)).nodes) results)) (put (node n op inputs rs) s (Some h)).now)
        (put (node n op inputs rs) s (Some h)).now
    moved =
        let steps = s.now.steps ++ record { rule = Pull; node = n } ∷ [] in
        let same = lambda_is
        ∙ ap (λ k. record l { body = context (region args (joined_nodes before (user_changed n (gamma_pulled k n h) s.nodes)) results); next = k + copies_of n h }) (sym now.next) in
        record {
          swept = ap (λ t. cond t (record { lambda = lambda_pulled n l; steps = steps }) (logged l s.now)) (ap is_some copied) ∙ ap (λ z. record { lambda = z; steps = steps }) same;
          well = subst IsWellFormed same (is_step [] n l now.well).well_formed;
          values = counted ∙ ap (λ k. region_values (context (region args (joined_nodes before (user_changed n (gamma_pulled k n h) s.nodes)) results))) (sym now.next);
          next = refl;
        }

  pub node_swept : IsSweep (n ∷ []) l s.now
      (lambda_of l (context (region args (joined_nodes before (put_where (node n op inputs rs) results s).nodes) results)) (put_where (node n op inputs rs) results s).now) (put_where (node n op inputs rs) results s).now
  node_swept = by (pull_behind (node n op inputs rs) results s) refl
    where
      by : (o : Option rule.Pull) → pull_behind (node n op inputs rs) results s ≡ o →
          IsSweep (n ∷ []) l s.now (lambda_of l (context (region args (joined_nodes before (put (node n op inputs rs) s o).nodes) results)) (put (node n op inputs rs) s o).now) (put (node n op inputs rs) s o).now
      by (Some h) e = moved h e
      by None e =
          let none = none_swept l (context here) s.now now in
          record {
            swept = ap (λ t. cond t (record { lambda = lambda_pulled n l; steps = s.now.steps ++ record { rule = Pull; node = n } ∷ [] }) (logged l s.now)) (stays e) ∙ none.swept;
            well = none.well;
            values = none.values;
            next = none.next;
          }
