-- The tables of what stands around a node: one entry more.
use Rattle.std.specs.Option.{option_or}
use Rattle.std.specs.Prelude.{◌||◌, is_some}
use Rattle.std.proofs.Common.{◌≡◌, ℕ, suc, ◌==◌, Bool, true, false, cond, List, ◌∷◌, Option, None, Some, option_map, refl, sym, ap, ap₂, ◌∙◌, arith}
use Rattle.std.proofs.lemmas.Bool.Decides.{nat_tests}
use Rattle.g_graph.specs.declared.op.Origin.{Origin}
use Rattle.g_graph.specs.declared.op.Origin.TheVariants.{Out}
use Rattle.g_graph.specs.Nodes.{node_at, const_word}
use Rattle.g_graph.specs.Plain.{NodeTree, NodeTrees, no_nodes, node_then, id_of}
use Rattle.g_graph.specs.Scope.{same_origin}
use Rattle.g_graph.specs.Splice.{joined_nodes}
use Rattle.r_walk.specs.Walk.{is_in, results_used}

-- ---- words

pub none_there : (w : Option (Option ℕ)) → is_some w ≡ false → w ≡ None
none_there None e = refl
none_there (Some w) e = absurd cc

pub some_there : (w : Option (Option ℕ)) → is_some w ≡ true → (v : Option ℕ) × (w ≡ Some v)
some_there None e = absurd cc
some_there (Some v) e = (v, refl)

at_end : (n : ℕ) (x : NodeTree) (before : NodeTrees) → node_at n (joined_nodes before (node_then x no_nodes)) ≡ option_or (node_at n before) (cond (id_of x == n) (Some x) None)
at_end n x no_nodes = refl
at_end n x (node_then y ns) = by (id_of y == n) (at_end n x ns)
  where
    by : (t : Bool) → node_at n (joined_nodes ns (node_then x no_nodes)) ≡ option_or (node_at n ns) (cond (id_of x == n) (Some x) None) →
        cond t (Some y) (node_at n (joined_nodes ns (node_then x no_nodes))) ≡ option_or (cond t (Some y) (node_at n ns)) (cond (id_of x == n) (Some x) None)
    by true h = refl
    by false h = h

or_none : (o : Option NodeTree) → option_or o None ≡ o
or_none None = refl
or_none (Some x) = refl

module _ (before : NodeTrees) (x : NodeTree) (g : ℕ → Option (Option ℕ)) (words : (n : ℕ) → g n ≡ option_map const_word (node_at n before)) where
  same : (n : ℕ) → (id_of x == n) ≡ true → id_of x ≡ n
  same n e = grind (arith, nat_tests)

  abbrev Is : (n : ℕ) → Option (Option ℕ) → Type 0
  Is n w = w ≡ option_map const_word (node_at n (joined_nodes before (node_then x no_nodes)))

  other : (n : ℕ) → (id_of x == n) ≡ false → Is n (g n)
  other n e =
      words n
      ∙ sym (ap (option_map const_word) (at_end n x before ∙ ap (λ t. option_or (node_at n before) (cond t (Some x) None)) e ∙ or_none (node_at n before)))

  pub first_noted : (h : ℕ → Option (Option ℕ)) → g (id_of x) ≡ None → ((n : ℕ) → h n ≡ cond (id_of x == n) (Some (const_word x)) (g n)) → (n : ℕ) → h n ≡ option_map const_word (node_at n (joined_nodes before (node_then x no_nodes)))
  first_noted h none is n = is n ∙ by (id_of x == n) refl
    where
      none-of : (o : Option NodeTree) → option_map const_word o ≡ None → Some (const_word x) ≡ option_map const_word (option_or o (Some x))
      none-of None e = refl
      none-of (Some y) e = absurd cc

      by : (t : Bool) → (id_of x == n) ≡ t → Is n (cond t (Some (const_word x)) (g n))
      by true e =
          none-of (node_at n before) (sym (words n) ∙ ap g (sym (same n e)) ∙ none)
          ∙ sym (ap (option_map const_word) (at_end n x before ∙ ap (λ t. option_or (node_at n before) (cond t (Some x) None)) e))
      by false e = other n e

  pub later_noted : (w : Option ℕ) → g (id_of x) ≡ Some w → (n : ℕ) → g n ≡ option_map const_word (node_at n (joined_nodes before (node_then x no_nodes)))
  later_noted w some n = by (id_of x == n) refl
    where
      some-of : (o : Option NodeTree) → option_map const_word o ≡ Some w → option_map const_word o ≡ option_map const_word (option_or o (Some x))
      some-of None e = absurd cc
      some-of (Some y) e = refl

      by : (t : Bool) → (id_of x == n) ≡ t → Is n (g n)
      by true e =
          words n ∙ some-of (node_at n before) (sym (words n) ∙ ap g (sym (same n e)) ∙ some)
          ∙ sym (ap (option_map const_word) (at_end n x before ∙ ap (λ t. option_or (node_at n before) (cond t (Some x) None)) e))
      by false e = other n e

-- ---- uses

or_assoc : (s t u : Bool) → ((s || t) || u) ≡ (s || (t || u))
or_assoc true t u = refl
or_assoc false t u = refl

-- the next result of an opened region
module _ (os : List Origin) (id port next : ℕ) (step : next ≡ suc port) (x : Origin) (rest : List Origin) (o : Origin) (old : Bool) where
  pub used_result : (new : Bool) → is_in os (Out id port) ≡ true → new ≡ (old || same_origin o x) →
      (new || is_in (results_used os id next rest) o) ≡ (old || is_in (results_used os id port (x ∷ rest)) o)
  used_result new used h =
      ap₂ (λ s k. s || is_in (results_used os id k rest) o) h step
      ∙ or_assoc old (same_origin o x) (is_in (results_used os id (suc port) rest) o)
      ∙ sym (ap (λ t. old || is_in (cond t (x ∷ results_used os id (suc port) rest) (results_used os id (suc port) rest)) o) used)

  pub unused_result : is_in os (Out id port) ≡ false → (old || is_in (results_used os id next rest) o) ≡ (old || is_in (results_used os id port (x ∷ rest)) o)
  unused_result unused =
      ap (λ k. old || is_in (results_used os id k rest) o) step
      ∙ sym (ap (λ t. old || is_in (cond t (x ∷ results_used os id (suc port) rest) (results_used os id (suc port) rest)) o) unused)
