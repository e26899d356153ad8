-- What fits stays so in a scope that has all that it had; one more value at the end of a list changes no state.
use Rattle.std.proofs.Common.{◌≡◌, ℕ, suc, ◌⊎◌, Bool, true, false, not, ◌&&◌, ◌||◌, cond, List, [], ◌∷◌, ◌++◌, map, Option, None, Some, refl, sym, ap, subst, ◌∙◌, inl, inr}
use Rattle.std.proofs.lemmas.Bool.{and_parts}
use Rattle.std.proofs.lemmas.List.{map-append}
use Rattle.g_graph.specs.declared.op.Kind.{Kind}
use Rattle.g_graph.specs.declared.op.Kind.TheVariants.{Value, Memory, Io}
use Rattle.g_graph.specs.declared.op.Origin.{Origin}
use Rattle.g_graph.specs.declared.op.Origin.TheVariants.{Arg, Out}
use Rattle.g_graph.specs.Plain.{region, node, NodeTrees, no_nodes, node_then}
use Rattle.g_graph.specs.Scope.{is_of, known, last_index, origin_at, state_after, last_state, each_node}
use Rattle.g_graph.specs.WellFormed.{all_of, some_of, at_most_one, one_state_each, gives, is_last, node_fits, nodes_fit, results_are_last, returns_state, region_has_one_state_each, region_fits, every_region, every_in_nodes}
use Rattle.g_graph.proofs.lemmas.Indexes.{last_gives, gives_last}
use Rattle.g_graph.proofs.lemmas.Moved.{last_is_known}
use Rattle.g_graph.proofs.lemmas.Redirects.{all_unmoved, nodes_unmoved}
use Rattle.g_graph.proofs.lemmas.Elements.{get-added}
use Rattle.r_edit.specs.Uses.{nodes_read}
use Rattle.r_edit.specs.Added.{arg_added, result_added}
use Rattle.r_edit.proofs.lemmas.Kept.{IsState, memory, io}
use Rattle.r_edit.proofs.lemmas.Scopes.{KeepsScope, kept_all, kept_nodes_fit}

-- ---- one more value

abbrev pub one_more : List (Option Kind) → List (Option Kind)
one_more xs = xs ++ Some Value ∷ []

pub index-added : (k : Kind) → IsState k → (first : ℕ) (xs : List (Option Kind)) (found : Option ℕ) → last_index k first (one_more xs) found ≡ last_index k first xs found
index-added Memory memory first [] found = refl
index-added Io io first [] found = refl
index-added Value s first [] found = elim s [ ]
index-added k s first (x ∷ xs) found = index-added k s (suc first) xs (cond (is_of k x) (Some first) found)

pub some-added : (k : Kind) → IsState k → (xs : List (Option Kind)) → some_of (is_of k) (one_more xs) ≡ some_of (is_of k) xs
some-added Memory memory [] = refl
some-added Io io [] = refl
some-added Value s [] = elim s [ ]
some-added k s (x ∷ xs) = ap (λ b. is_of k x || b) (some-added k s xs)

most-added : (k : Kind) → IsState k → (xs : List (Option Kind)) → at_most_one k (one_more xs) ≡ at_most_one k xs
most-added Memory memory [] = refl
most-added Io io [] = refl
most-added Value s [] = elim s [ ]
most-added k s (x ∷ xs) = λ i. cond (is_of k x) (not (some-added k s xs i)) (most-added k s xs i)

pub one-added : (xs : List (Option Kind)) → one_state_each (one_more xs) ≡ one_state_each xs
one-added xs = λ i. most-added Memory memory xs i && most-added Io io xs i

-- ---- another scope

abbrev pub nothing : Origin → Bool
nothing o = false

pub none-of : (os : List Origin) → some_of nothing os ≡ false
none-of [] = refl
none-of (o ∷ os) = none-of os

pub none-read : (ns : NodeTrees) → nodes_read nothing ns ≡ false
none-read no_nodes = refl
none-read (node_then (node id op inputs rs) ns) = λ i. none-of inputs i || none-read ns i

-- Where what is known is found, with its kind, and a last state as the last one, all that may be used may be used.
pub scope-from : (args others : List Kind) (bs cs : NodeTrees) (f : Origin → Origin) → ((o : Origin) (k : Kind) → known args bs o ≡ Some k → known others cs (f o) ≡ Some k) →
    ((k : Kind) → IsState k → (o : Origin) → known args bs o ≡ Some k → last_state k args bs ≡ Some o → last_state k others cs ≡ Some (f o)) → KeepsScope nothing args bs others cs f
scope-from args others bs cs f kinds states = record { one = λ o u e. by o e (known args bs o) refl }
  where
    last : (k : Kind) (o : Origin) → known args bs o ≡ Some k → (k ≡ Value) ⊎ (last_state k args bs ≡ Some o) → (k ≡ Value) ⊎ (last_state k others cs ≡ Some (f o))
    last Value o n s = inl refl
    last Memory o n (inl v) = inl v
    last Memory o n (inr s) = inr (states Memory memory o n s)
    last Io o n (inl v) = inl v
    last Io o n (inr s) = inr (states Io io o n s)

    by : (o : Origin) → is_last args bs o ≡ true → (k : Option Kind) → known args bs o ≡ k → (known others cs (f o) ≡ known args bs o) × (is_last others cs (f o) ≡ true)
    by o e None n = absurd (last_is_known args bs o e n)
    by o e (Some k) n = (kinds o k n ∙ sym n, gives_last k others cs (f o) (kinds o k n) (last k o n (last_gives k args bs o n e)))

-- ---- the parts of a region that fits

pub record Fits (objects : ℕ) (args : List Kind) (nodes : NodeTrees) (results : List Origin) : Type 0 where
  pub each : each_node (node_fits objects args) [] nodes ≡ true
  pub last : all_of (is_last args nodes) results ≡ true
  pub memory_given : (not (gives Memory nodes) || some_of (is_of Memory) (map (known args nodes) results)) ≡ true
  pub io_given : (not (gives Io nodes) || some_of (is_of Io) (map (known args nodes) results)) ≡ true
  pub first : one_state_each (map Some args) ≡ true
  pub second : one_state_each (map (known args nodes) results) ≡ true
  pub inside : every_in_nodes (region_fits objects) nodes ≡ true

pub fits-parts : (objects : ℕ) (args : List Kind) (nodes : NodeTrees) (results : List Origin) → every_region (region_fits objects) (region args nodes results) ≡ true → Fits objects args nodes results
fits-parts objects args nodes results e =
    let r = region args nodes results in
    let own = and_parts (region_fits objects r) (every_in_nodes (region_fits objects) nodes) e in
    let to_io = and_parts (nodes_fit objects r && results_are_last r && returns_state Memory r && returns_state Io r) (region_has_one_state_each r) own.0 in
    let to_memory = and_parts (nodes_fit objects r && results_are_last r && returns_state Memory r) (returns_state Io r) to_io.0 in
    let to_last = and_parts (nodes_fit objects r && results_are_last r) (returns_state Memory r) to_memory.0 in
    let fit = and_parts (nodes_fit objects r) (results_are_last r) to_last.0 in
    let states = and_parts (one_state_each (map Some args)) (one_state_each (map (known args nodes) results)) to_io.1 in
    record { each = fit.0; last = fit.1; memory_given = to_last.1; io_given = to_memory.1; first = states.0; second = states.1; inside = own.1 }

pub fits-from : (objects : ℕ) (args : List Kind) (nodes : NodeTrees) (results : List Origin) → Fits objects args nodes results → every_region (region_fits objects) (region args nodes results) ≡ true
fits-from objects args nodes results h =
    λ i. h.each i && h.last i && h.memory_given i && h.io_given i && (h.first i && h.second i) && h.inside i

-- results of the same kinds, of nodes that give the same states
pub fits-again : (objects : ℕ) (args others : List Kind) (nodes ns : NodeTrees) (results outs : List Origin) → Fits objects args nodes results → each_node (node_fits objects others) [] ns ≡ true →
    map (known others ns) outs ≡ map (known args nodes) results → all_of (is_last others ns) outs ≡ true → ((k : Kind) → IsState k → gives k ns ≡ gives k nodes) →
    one_state_each (map Some others) ≡ true → every_in_nodes (region_fits objects) ns ≡ true → Fits objects others ns outs
fits-again objects args others nodes ns results outs h each kinds last given first inside =
    record {
      each = each;
      last = last;
      memory_given = (λ i. not (given Memory memory i) || some_of (is_of Memory) (kinds i)) ∙ h.memory_given;
      io_given = (λ i. not (given Io io i) || some_of (is_of Io) (kinds i)) ∙ h.io_given;
      first = first;
      second = ap one_state_each kinds ∙ h.second;
      inside = inside;
    }

-- ---- one more argument

abbrev pub with_value : List Kind → List Kind
with_value args = args ++ Value ∷ []

pub one-argument-more : (args : List Kind) → one_state_each (map Some args) ≡ true → one_state_each (map Some (with_value args)) ≡ true
one-argument-more args e = ap one_state_each (map-append Some args (Value ∷ [])) ∙ one-added (map Some args) ∙ e

pub first-state-added : (k : Kind) → IsState k → (args : List Kind) → origin_at Arg (last_index k 0 (map Some (with_value args)) None) None ≡ origin_at Arg (last_index k 0 (map Some args) None) None
first-state-added k s args =
    ap (λ l. origin_at Arg l None) (ap (λ xs. last_index k 0 xs None) (map-append Some args (Value ∷ [])) ∙ index-added k s 0 (map Some args) None)

kind-added : (args : List Kind) (ns : NodeTrees) (o : Origin) (k : Kind) → known args ns o ≡ Some k → known (with_value args) ns o ≡ Some k
kind-added args ns (Arg i) k e = get-added args (Value ∷ []) i k e
kind-added args ns (Out n p) k e = e

pub scope-added : (args : List Kind) (ns : NodeTrees) → KeepsScope nothing args ns (with_value args) ns (λ o. o)
scope-added args ns =
    scope-from args (with_value args) ns ns (λ o. o) (kind-added args ns) (λ k s o n e. ap (state_after k ns) (first-state-added k s args) ∙ e)

-- it gives the same kinds, and fits
pub arg_added_fits : (objects : ℕ) (args : List Kind) (nodes : NodeTrees) (results : List Origin) → every_region (region_fits objects) (region args nodes results) ≡ true →
    (map (known (with_value args) nodes) results ≡ map (known args nodes) results) × (every_region (region_fits objects) (arg_added Value (region args nodes results)) ≡ true)
arg_added_fits objects args nodes results e =
    let h = fits-parts objects args nodes results e in
    let all = subst (λ os. (map (known (with_value args) nodes) os ≡ map (known args nodes) results) × (all_of (is_last (with_value args) nodes) os ≡ true)) (all_unmoved (λ o. o) (λ o. refl) results)
    (kept_all nothing objects args (with_value args) (λ o. o) nodes nodes (scope-added args nodes) results (none-of results) h.last) in
    let each = subst (λ ns. each_node (node_fits objects (with_value args)) [] ns ≡ true) (nodes_unmoved (λ o. o) (λ o. refl) nodes)
    (kept_nodes_fit nothing objects args (with_value args) (λ o. o) [] [] nodes
    (λ front rest w. subst (λ ns. KeepsScope nothing args front (with_value args) ns (λ o. o)) (sym (nodes_unmoved (λ o. o) (λ o. refl) front)) (scope-added args front)) (none-read nodes) h.each) in (
      all.0,
      fits-from objects (with_value args) nodes results
          (fits-again objects args (with_value args) nodes nodes results results h each all.0 all.1 (λ k s. refl) (one-argument-more args h.first) h.inside),
    )

-- ---- one more result, which is a value

pub all-added : {X : Type 0} (test : X → Bool) (xs : List X) (x : X) → all_of test xs ≡ true → test x ≡ true → all_of test (xs ++ x ∷ []) ≡ true
all-added test [] x e t = λ i. t i && true
all-added test (y ∷ xs) x e t =
    let both = and_parts (test y) (all_of test xs) e in
    λ i. both.0 i && all-added test xs x both.1 t i

pub result_added_fits : (objects : ℕ) (args : List Kind) (nodes : NodeTrees) (results : List Origin) (o : Origin) → known args nodes o ≡ Some Value →
    every_region (region_fits objects) (region args nodes results) ≡ true →
    (map (known args nodes) (results ++ o ∷ []) ≡ one_more (map (known args nodes) results)) × (every_region (region_fits objects) (result_added o (region args nodes results)) ≡ true)
result_added_fits objects args nodes results o value e =
    let h = fits-parts objects args nodes results e in
    let kinds = map-append (known args nodes) results (o ∷ []) ∙ ap (λ x. map (known args nodes) results ++ x ∷ []) value in (
      kinds,
      fits-from objects args nodes (results ++ o ∷ [])
          (record {
            each = h.each;
            last = all-added (is_last args nodes) results o h.last (gives_last Value args nodes o value (inl refl));
            memory_given = (λ i. not (gives Memory nodes) || (ap (some_of (is_of Memory)) kinds ∙ some-added Memory memory (map (known args nodes) results)) i) ∙ h.memory_given;
            io_given = (λ i. not (gives Io nodes) || (ap (some_of (is_of Io)) kinds ∙ some-added Io io (map (known args nodes) results)) i) ∙ h.io_given;
            first = h.first;
            second = ap one_state_each kinds ∙ one-added (map (known args nodes) results) ∙ h.second;
            inside = h.inside;
          }),
    )
