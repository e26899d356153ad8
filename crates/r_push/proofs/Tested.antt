-- The walk asks of a node what the rule asks.
use Rattle.std.specs.Prelude.{◌||◌}
use Rattle.std.proofs.Common.{◌≡◌, ℕ, zero, suc, ◌<◌, ◌≤◌, nat_lt, ◌==◌, ◌&&◌, Bool, true, false, if◌then◌else◌, List, [], ◌∷◌, ◌++◌, map, length, slice_get, Option, None, Some, option_map, refl, sym, ap, ap₂, ◌∙◌, arith}
use Rattle.std.proofs.lemmas.Bool.Decides.{nat_tests}
use Rattle.std.proofs.lemmas.List.{length-append}
use Rattle.std.proofs.lemmas.Option.{slice_get-map}
use Rattle.g_graph.specs.declared.op.Kind.{Kind}
use Rattle.g_graph.specs.declared.op.Kind.TheVariants.{Value}
use Rattle.g_graph.specs.declared.op.Origin.{Origin}
use Rattle.g_graph.specs.declared.op.Origin.TheVariants.{Arg, Out}
use Rattle.g_graph.specs.Nodes.{nodes_use, is_used}
use Rattle.g_graph.specs.Plain.{region, node, NodeTrees, no_nodes, node_then}
use Rattle.g_graph.specs.Scope.{same_origin}
use Rattle.g_graph.specs.Splice.{joined_nodes}
use Rattle.g_graph.specs.WellFormed.{all_of, some_of, is_origin}
use Rattle.r_push.specs.Walk.{Exit, shut, choice, loop, is_open, is_loop, Cursor, is_kept, moved_result, goes_along}
use Rattle.r_push.proofs.Grown.{grown_args, grown_results, grown_args_many, grown_results_many, some_grown}
use Rattle.r_push.proofs.Pushed.{test_of}
use Rattle.r_walk.specs.Walk.{Moved, origin_now, inputs_of_nodes, is_in}
use Rattle.r_walk.proofs.lemmas.Moves.{inputs-joined}
use Rattle.r_walk.proofs.lemmas.Uses.{in_append}

-- ---- the last of a list

got_before : {X : Type 0} (xs : List X) (x : X) (k : ℕ) → k < length xs → slice_get (xs ++ x ∷ []) k ≡ slice_get xs k
got_before [] x k h = absurd (omega (arith, h))
got_before (y ∷ xs) x zero h = refl
got_before (y ∷ xs) x (suc k) h = got_before xs x k (omega (arith, h))

got_last : {X : Type 0} (xs : List X) (x : X) (k : ℕ) → k ≡ length xs → slice_get (xs ++ x ∷ []) k ≡ Some x
got_last [] x zero h = refl
got_last [] x (suc k) h = absurd (omega (arith, h))
got_last (y ∷ xs) x zero h = absurd (omega (arith, h))
got_last (y ∷ xs) x (suc k) h = got_last xs x k (omega (arith, h))

got_past : {X : Type 0} (xs : List X) (k : ℕ) → length xs ≤ k → slice_get xs k ≡ None
got_past [] k h = refl
got_past (x ∷ xs) zero h = absurd (omega (arith, h))
got_past (x ∷ xs) (suc k) h = got_past xs k (omega (arith, h))

none_past : {X : Type 0} (xs : List X) (k : ℕ) → slice_get xs k ≡ None → length xs ≤ k
none_past [] k e = omega arith
none_past (x ∷ xs) zero e = absurd cc
none_past (x ∷ xs) (suc k) e = let rest = none_past xs k e in omega (arith, rest)

-- ---- a variable of a loop

module _ (args : List Kind) (results : List Origin) (turns : length results ≡ suc (length args)) where
  results_many : (more : ℕ) → length (grown_results true more args results) ≡ suc (length (grown_args more args))
  results_many more = omega (arith, turns, grown_results_many more args results, grown_args_many more args)

  module _ (more : ℕ) where
    abbrev os : List Origin
    os = grown_results true more args results

    abbrev m : ℕ
    m = length (grown_args more args)

    longer : length (grown_args more args ++ Value ∷ []) ≡ suc m
    longer = omega (arith, length-append (grown_args more args) (Value ∷ []))

    later : length args ≤ m
    later = omega (arith, grown_args_many more args)

    more_kept : (i : ℕ) (o : Option Origin) → nat_lt i m ≡ true → is_kept o m i ≡ is_kept o (suc m) i
    more_kept i None h = grind (arith, nat_tests)
    more_kept i (Some o) h = refl

    -- with one more variable, where the result was right so far
    kept_then : (i : ℕ) → is_origin (slice_get os (suc i)) (Arg i) ≡ is_kept (slice_get results (suc i)) m i → (s : Bool) → nat_lt i m ≡ s → (t : Bool) → (i == m) ≡ t →
        is_origin (slice_get (os ++ Arg m ∷ []) (suc i)) (Arg i) ≡ is_kept (slice_get results (suc i)) (length (grown_args more args ++ Value ∷ [])) i
    kept_then i so_far true h t e =
        let less : i < m = grind (arith, nat_tests) in
        ap (λ o. is_origin o (Arg i)) (got_before os (Arg m) (suc i) (omega (arith, less, results_many more))) ∙ so_far ∙ more_kept i (slice_get results (suc i)) h
        ∙ ap (λ k. is_kept (slice_get results (suc i)) k i) (sym longer)
    kept_then i so_far false h true e =
        let same : i ≡ m = grind (arith, nat_tests) in
        let test : (m == i) ≡ true = grind (arith, nat_tests) in
        let added : nat_lt i (suc m) ≡ true = grind (arith, nat_tests) in
        ap (λ o. is_origin o (Arg i)) (got_last os (Arg m) (suc i) (omega (arith, same, results_many more))) ∙ test ∙ sym added
        ∙ ap₂ (λ o k. is_kept o k i) (sym (got_past results (suc i) (omega (arith, same, later, turns)))) (sym longer)
    kept_then i so_far false h false e =
        let more_than : m < i = grind (arith, nat_tests) in
        let not_added : nat_lt i (suc m) ≡ false = grind (arith, nat_tests) in
        ap (λ o. is_origin o (Arg i)) (got_past (os ++ Arg m ∷ []) (suc i) (omega (arith, more_than, results_many more, length-append os (Arg m ∷ []))))
        ∙ sym not_added ∙ ap₂ (λ o k. is_kept o k i) (sym (got_past results (suc i) (omega (arith, more_than, later, turns)))) (sym longer)

  kept_is : (more i : ℕ) → is_origin (slice_get (grown_results true more args results) (suc i)) (Arg i) ≡ is_kept (slice_get results (suc i)) (length (grown_args more args)) i
  kept_is zero i = by (slice_get results (suc i)) refl
    where
      by : (o : Option Origin) → slice_get results (suc i) ≡ o → is_origin o (Arg i) ≡ is_kept o (length args) i
      by None e = let past = none_past results (suc i) e in grind (arith, nat_tests)
      by (Some o) e = refl
  kept_is (suc more) i = kept_then more i (kept_is more i) (nat_lt i (length (grown_args more args))) refl (i == length (grown_args more args)) refl

-- ---- the origins that a node takes along

moved_is : (ms : List Moved) (o : Option Origin) → moved_result ms o ≡ option_map (origin_now ms []) o
moved_is ms None = refl
moved_is ms (Some o) = refl

module _ (k : Cursor) (args : List Kind) (more : ℕ) (opens : is_open k.exit ≡ true) (turns : is_loop k.exit ≡ true → length (map (origin_now k.moved []) k.results) ≡ suc (length args)) where
  abbrev results_now : List Origin
  results_now = map (origin_now k.moved []) k.results

  along_is : (o : Origin) → goes_along k (length (grown_args more args)) o ≡ test_of k.exit (grown_results (is_loop k.exit) more args results_now) o
  along_is (Out n p) = by k.exit
    where
      by : (e : Exit) → false ≡ test_of e (grown_results (is_loop e) more args results_now) (Out n p)
      by shut = refl
      by (choice regions) = refl
      by loop = refl
  along_is (Arg i) = by k.exit opens turns
    where
      by : (e : Exit) → is_open e ≡ true → (is_loop e ≡ true → length results_now ≡ suc (length args)) →
          (if is_loop e then is_kept (moved_result k.moved (slice_get k.results (suc i))) (length (grown_args more args)) i else true)
          ≡ test_of e (grown_results (is_loop e) more args results_now) (Arg i)
      by shut h t = absurd cc
      by (choice regions) h t = refl
      by loop h t =
          ap (λ o. is_kept o (length (grown_args more args)) i) (moved_is k.moved (slice_get k.results (suc i)) ∙ sym (slice_get-map (origin_now k.moved []) k.results (suc i)))
          ∙ sym (kept_is args results_now (t refl) more i)

  pub all_along : (os : List Origin) →
      all_of (goes_along k (length (grown_args more args))) os ≡ all_of (test_of k.exit (grown_results (is_loop k.exit) more args (map (origin_now k.moved []) k.results))) os
  all_along [] = refl
  all_along (o ∷ os) = ap₂ (λ s t. s && t) (along_is o) (all_along os)

-- ---- the uses of its output

nodes_use_is : (o : Origin) (ns : NodeTrees) → nodes_use o ns ≡ is_in (inputs_of_nodes ns) o
nodes_use_is o no_nodes = refl
nodes_use_is o (node_then (node id op ins rs) ns) = ap (λ t. some_of (same_origin o) ins || t) (nodes_use_is o ns) ∙ sym (in_append ins (inputs_of_nodes ns) o)

pub used_is : (n : ℕ) (loops : Bool) (more : ℕ) (args own : List Kind) (before here : NodeTrees) (results : List Origin) → is_in (inputs_of_nodes before) (Out n 0) ≡ false →
    is_used (Out n 0) (region own (joined_nodes before here) (grown_results loops more args results)) ≡ is_in (inputs_of_nodes here ++ results) (Out n 0)
used_is n loops more args own before here results unread =
    ap₂ (λ s t. s || t)
    (nodes_use_is (Out n 0) (joined_nodes before here)
    ∙ ap (λ os. is_in os (Out n 0)) (inputs-joined before here) ∙ in_append (inputs_of_nodes before) (inputs_of_nodes here) (Out n 0) ∙ ap (λ t. t || is_in (inputs_of_nodes here) (Out n 0)) unread)
    (some_grown n 0 loops more args results)
    ∙ sym (in_append (inputs_of_nodes here) results (Out n 0))
