-- Nodes put instead of one.
use Rattle.std.proofs.Common.{◌≡◌, ◌<◌, ◌≤◌, ◌+◌, ℕ, zero, suc, Bool, true, false, List, [], ◌∷◌, ◌++◌, map, length, take, drop, refl, sym, ap, ◌∙◌, add-one, arith, length-append, append_assoc}
use Rattle.std.specs.Prelude.{◌==◌, ◌&&◌, ◌||◌, slice_get, if◌then◌else◌}
use Rattle.std.specs.declared.option.Option.{Option}
use Rattle.std.specs.declared.option.Option.TheVariants.{Some, None}
use Rattle.std.proofs.Math.Bool.{and_assoc, or_assoc}
use Rattle.std.proofs.lemmas.Option.{same_Some}
use Rattle.g_graph.specs.declared.op.Origin.{Origin}
use Rattle.g_graph.specs.declared.op.Origin.TheVariants.{Out}
use Rattle.g_graph.specs.declared.op.Kind.{Kind}
use Rattle.g_graph.specs.Plain.{RegionTree, NodeTree, NodeTrees, no_nodes, node_then, nodes_of, id_of}
use Rattle.g_graph.specs.Signatures.{joined, output_kinds, kind_after}
use Rattle.g_graph.specs.Count.{nodes_values}
use Rattle.g_graph.specs.Ids.{node_ids, nodes_ids}
use Rattle.g_graph.specs.Scope.{is_of, last_index, origin_at, state_after}
use Rattle.g_graph.specs.WellFormed.{some_of, gives, every_in_node, every_in_nodes}
use Rattle.g_graph.specs.Change.{has_node, node_index}
use Rattle.g_graph.specs.Replace.{node_redirected, nodes_redirected}
use Rattle.g_graph.specs.Splice.{joined_nodes, nodes_spliced, outputs_to_results}
use Rattle.g_graph.proofs.lemmas.Redirects.{nodes_of-redirected}

pub nodes_of_append : (xs ys : List NodeTree) → nodes_of (xs ++ ys) ≡ joined_nodes (nodes_of xs) (nodes_of ys)
nodes_of_append [] ys = refl
nodes_of_append (x ∷ xs) ys = ap (λ zs. node_then x zs) (nodes_of_append xs ys)

pub nodes_spliced_none : (at first : ℕ) (replacement : NodeTrees) (outputs : List Origin) (xs : NodeTrees) → node_index at first xs ≡ None → nodes_spliced at replacement outputs xs ≡ xs
nodes_spliced_none at first replacement outputs no_nodes e = refl
nodes_spliced_none at first replacement outputs (node_then x xs) e = by_test (id_of x == at) e (nodes_spliced_none at (suc first) replacement outputs xs)
  where
    by_test : (t : Bool) → (if t then Some first else node_index at (suc first) xs) ≡ None → (node_index at (suc first) xs ≡ None → nodes_spliced at replacement outputs xs ≡ xs) →
        (if t then joined_nodes replacement (nodes_redirected (outputs_to_results at outputs) xs) else node_then x (nodes_spliced at replacement outputs xs)) ≡ node_then x xs
    by_test true e h = absurd (cc)
    by_test false e h = ap (λ ys. node_then x ys) (h e)

pub node_index_least : (at first k : ℕ) (xs : NodeTrees) → node_index at first xs ≡ Some k → first ≤ k
node_index_least at first k no_nodes e = absurd (cc)
node_index_least at first k (node_then x xs) e = by_test (id_of x == at) e (node_index_least at (suc first) k xs)
  where
    by_test : (t : Bool) → (if t then Some first else node_index at (suc first) xs) ≡ Some k → (node_index at (suc first) xs ≡ Some k → suc first ≤ k) → first ≤ k
    by_test true e h = omega (arith, same_Some first k e)
    by_test false e h = omega (arith, h e)

node_index_within : (at first p : ℕ) (xs : List NodeTree) → node_index at first (nodes_of xs) ≡ Some (first + p) → p < length xs
node_index_within at first p [] e = absurd (cc)
node_index_within at first zero (x ∷ xs) e = omega arith
node_index_within at first (suc p) (x ∷ xs) e = by_test (id_of x == at) e (node_index_within at (suc first) p xs)
  where
    by_test : (t : Bool) → (if t then Some first else node_index at (suc first) (nodes_of xs)) ≡ Some (first + suc p) →
        (node_index at (suc first) (nodes_of xs) ≡ Some (suc first + p) → p < length xs) → suc p < suc (length xs)
    by_test true e h = absurd (omega (arith, same_Some first (first + suc p) e))
    by_test false e h = omega (arith, h (e ∙ ap Some (omega arith)))

nodes_spliced_suc : (at first p : ℕ) (replacement : List NodeTree) (outputs : List Origin) (xs : List NodeTree) → node_index at first (nodes_of xs) ≡ Some (first + p) →
    nodes_spliced at (nodes_of replacement) outputs (nodes_of xs) ≡ nodes_of ((take p xs ++ replacement) ++ map (node_redirected (outputs_to_results at outputs)) (drop (suc p) xs))
nodes_spliced_suc at first p replacement outputs [] e = absurd (cc)
nodes_spliced_suc at first zero replacement outputs (x ∷ xs) e = by_test (id_of x == at) e
  where
    by_test : (t : Bool) → (if t then Some first else node_index at (suc first) (nodes_of xs)) ≡ Some (first + 0) →
        (if t then joined_nodes (nodes_of replacement) (nodes_redirected (outputs_to_results at outputs) (nodes_of xs)) else node_then x
        (nodes_spliced at (nodes_of replacement) outputs (nodes_of xs)))
        ≡ nodes_of (replacement ++ map (node_redirected (outputs_to_results at outputs)) xs)
    by_test true e = sym (nodes_of_append replacement (map (node_redirected (outputs_to_results at outputs)) xs)
        ∙ ap (joined_nodes (nodes_of replacement)) (nodes_of-redirected (outputs_to_results at outputs) xs))
    by_test false e = absurd (omega (arith, node_index_least at (suc first) (first + 0) (nodes_of xs) e))
nodes_spliced_suc at first (suc p) replacement outputs (x ∷ xs) e = by_test (id_of x == at) e (nodes_spliced_suc at (suc first) p replacement outputs xs)
  where
    by_test : (t : Bool) → (if t then Some first else node_index at (suc first) (nodes_of xs)) ≡ Some (first + suc p) →
        (node_index at (suc first) (nodes_of xs) ≡ Some (suc first + p) →
        nodes_spliced at (nodes_of replacement) outputs (nodes_of xs) ≡ nodes_of ((take p xs ++ replacement) ++ map (node_redirected (outputs_to_results at outputs)) (drop (suc p) xs))) →
        (if t then joined_nodes (nodes_of replacement) (nodes_redirected (outputs_to_results at outputs) (nodes_of xs)) else node_then x
        (nodes_spliced at (nodes_of replacement) outputs (nodes_of xs)))
        ≡ node_then x (nodes_of ((take p xs ++ replacement) ++ map (node_redirected (outputs_to_results at outputs)) (drop (suc p) xs)))
    by_test true e h = absurd (omega (arith, same_Some first (first + suc p) e))
    by_test false e h = ap (λ ys. node_then x ys) (h (e ∙ ap Some (omega arith)))

pub nodes_spliced_at : (at p : ℕ) (replacement : List NodeTree) (outputs : List Origin) (xs : List NodeTree) → node_index at 0 (nodes_of xs) ≡ Some p →
    nodes_spliced at (nodes_of replacement) outputs (nodes_of xs) ≡ nodes_of ((take p xs ++ replacement) ++ map (node_redirected (outputs_to_results at outputs)) (drop (p + 1) xs))
nodes_spliced_at at p replacement outputs xs e = rw add-one (nodes_spliced_suc at 0 p replacement outputs xs (e ∙ ap Some (omega arith)))

pub index_within : (at p : ℕ) (xs : List NodeTree) → node_index at 0 (nodes_of xs) ≡ Some p → p < length xs
index_within at p xs e = node_index_within at 0 p xs (e ∙ ap Some (omega arith))

changed_after : {X : Type 0} (f : X → X) (n : ℕ) (xs ys : List X) → n ≡ length xs → take n (xs ++ ys) ++ map f (drop n (xs ++ ys)) ≡ xs ++ map f ys
changed_after f zero [] ys e = refl
changed_after f (suc n) [] ys e = absurd (omega arith)
changed_after f zero (x ∷ xs) ys e = absurd (omega arith)
changed_after f (suc n) (x ∷ xs) ys e = ap (λ zs. x ∷ zs) (changed_after f n xs ys (omega arith))

pub changed_following : {X : Type 0} (f : X → X) (n : ℕ) (zs xs ys : List X) → zs ≡ xs ++ ys → n + length ys ≡ length zs → take n zs ++ map f (drop n zs) ≡ xs ++ map f ys
changed_following f n zs xs ys e b =
    ap (λ ws. take n ws ++ map f (drop n ws)) e ∙ changed_after f n xs ys (omega (arith, ap length e, length-append xs ys))

-- what stands before a node and after it
pub record Split (at : ℕ) (ns : NodeTrees) : Type 0 where
  pub before : NodeTrees
  pub here : NodeTree
  pub after : NodeTrees
  pub numbered : (id_of here == at) ≡ true
  pub none_before : has_node at before ≡ false
  pub whole : ns ≡ joined_nodes before (node_then here after)
  pub spliced : (replacement : NodeTrees) (outputs : List Origin) → nodes_spliced at replacement outputs ns ≡
      joined_nodes before (joined_nodes replacement (nodes_redirected (outputs_to_results at outputs) after))

-- the replacement stands instead of the first node of its number
pub split_at : (at : ℕ) (ns : NodeTrees) → has_node at ns ≡ true → Split at ns
split_at at no_nodes e = absurd (cc)
split_at at (node_then x xs) e = by_test (id_of x == at) refl e (split_at at xs)
  where
    by_test : (t : Bool) → (id_of x == at) ≡ t → (t || has_node at xs) ≡ true → (has_node at xs ≡ true → Split at xs) → Split at (node_then x xs)
    by_test true q e h = record {
      before = no_nodes;
      here = x;
      after = xs;
      numbered = q;
      none_before = refl;
      whole = refl;
      spliced = λ replacement outputs. ap (λ t. if t then joined_nodes replacement (nodes_redirected (outputs_to_results at outputs) xs) else node_then x (nodes_spliced at replacement outputs xs)) q;
    }
    by_test false q e h =
        let s = h e in
        record {
          before = node_then x s.before;
          here = s.here;
          after = s.after;
          numbered = s.numbered;
          none_before = ap (λ t. t || has_node at s.before) q ∙ s.none_before;
          whole = ap (λ ys. node_then x ys) s.whole;
          spliced = λ replacement outputs.
              ap (λ t. if t then joined_nodes replacement (nodes_redirected (outputs_to_results at outputs) xs) else node_then x (nodes_spliced at replacement outputs xs)) q
              ∙ ap (λ ys. node_then x ys) (s.spliced replacement outputs);
        }

pub joined_assoc : (xs ys zs : NodeTrees) → joined_nodes (joined_nodes xs ys) zs ≡ joined_nodes xs (joined_nodes ys zs)
joined_assoc no_nodes ys zs = refl
joined_assoc (node_then x xs) ys zs = ap (λ ns. node_then x ns) (joined_assoc xs ys zs)

pub joined_none : (ns : NodeTrees) → joined_nodes ns no_nodes ≡ ns
joined_none no_nodes = refl
joined_none (node_then x xs) = ap (λ ys. node_then x ys) (joined_none xs)

pub joined_following : (bs : List NodeTree) (x : NodeTree) (ns : NodeTrees) → joined_nodes (nodes_of (bs ++ x ∷ [])) ns ≡ joined_nodes (nodes_of bs) (node_then x ns)
joined_following bs x ns = ap (λ ms. joined_nodes ms ns) (nodes_of_append bs (x ∷ [])) ∙ joined_assoc (nodes_of bs) (node_then x no_nodes) ns

pub nodes_ids-joined : (xs ys : NodeTrees) → nodes_ids (joined_nodes xs ys) ≡ nodes_ids xs ++ nodes_ids ys
nodes_ids-joined no_nodes ys = refl
nodes_ids-joined (node_then x xs) ys = ap (λ ids. node_ids x ++ ids) (nodes_ids-joined xs ys) ∙ sym (append_assoc (node_ids x) (nodes_ids xs) (nodes_ids ys))

pub nodes_values-joined : (xs ys : NodeTrees) → nodes_values (joined_nodes xs ys) ≡ nodes_values xs + nodes_values ys
nodes_values-joined no_nodes ys = omega arith
nodes_values-joined (node_then x xs) ys = omega (arith, nodes_values-joined xs ys)

pub kind_after-joined : (xs ys : NodeTrees) (n p : ℕ) (before : Option Kind) → kind_after (joined_nodes xs ys) n p before ≡ kind_after ys n p (kind_after xs n p before)
kind_after-joined no_nodes ys n p before = refl
kind_after-joined (node_then x xs) ys n p before = kind_after-joined xs ys n p (if id_of x == n then joined (slice_get (output_kinds x) p) else before)

pub state_after-joined : (k : Kind) (xs ys : NodeTrees) (found : Option Origin) → state_after k (joined_nodes xs ys) found ≡ state_after k ys (state_after k xs found)
state_after-joined k no_nodes ys found = refl
state_after-joined k (node_then x xs) ys found = state_after-joined k xs ys (origin_at (λ p. Out (id_of x) p) (last_index k 0 (output_kinds x) None) found)

pub gives-joined : (k : Kind) (xs ys : NodeTrees) → gives k (joined_nodes xs ys) ≡ (gives k xs || gives k ys)
gives-joined k no_nodes ys = refl
gives-joined k (node_then x xs) ys =
    ap (λ b. some_of (is_of k) (output_kinds x) || b) (gives-joined k xs ys) ∙ sym (or_assoc (some_of (is_of k) (output_kinds x)) (gives k xs) (gives k ys))

pub every_in_nodes-joined : (test : RegionTree → Bool) (xs ys : NodeTrees) → every_in_nodes test (joined_nodes xs ys) ≡ (every_in_nodes test xs && every_in_nodes test ys)
every_in_nodes-joined test no_nodes ys = refl
every_in_nodes-joined test (node_then x xs) ys =
    ap (λ b. every_in_node test x && b) (every_in_nodes-joined test xs ys) ∙ sym (and_assoc (every_in_node test x) (every_in_nodes test xs) (every_in_nodes test ys))
