-- A node while exit variables of it go, from the last to the first: those before are as they were.
use Rattle.std.proofs.Common.{◌≡◌, ◌≤◌, ◌<◌, ◌+◌, ℕ, zero, suc, Bool, true, false, Option, None, Some, List, [], ◌∷◌, length, refl, sym, ap, ◌∙◌, arith}
use Rattle.std.specs.Prelude.{if◌then◌else◌, IsSome, is_some, slice_get, option_and_then}
use Rattle.std.specs.List.{remove}
use Rattle.g_graph.specs.declared.op.Kind.{Kind}
use Rattle.g_graph.specs.declared.op.Origin.{Origin}
use Rattle.g_graph.specs.declared.op.Origin.TheVariants.{Out}
use Rattle.g_arena_def.specs.declared.place.Place.{Place}
use Rattle.g_arena_def.specs.Flat.{FlatRegion, FlatNode, Flat, place_in, same_node, same_place}
use Rattle.g_arena_def.specs.Reads.{kind_in, output_kind, uses_in}
use Rattle.g_arena_def.specs.Edits.{node_with, at_with, uses_with, output_less, outputs_follow, output_removed, result_removed}
use Rattle.r_sweep.specs.Removals.{from_last, each_of, exit_removed}
use Rattle.r_sweep.proofs.lemmas.Inputs.{same_place_self}
use Rattle.r_sweep.proofs.lemmas.Edits.{NodeAt, output_gone, result_less, output_at, result_gone_at}
use Rattle.r_sweep.proofs.lemmas.Uses.{output_times, uses_all, uses_same, with_same, result_apart}

-- ---- elements before one that goes

pub remove_before : {X : Type 0} (k p : ℕ) (xs : List X) → k < p → slice_get (remove xs p) k ≡ slice_get xs k
remove_before k zero xs h = absurd (omega (arith, h))
remove_before k (suc p) [] h = refl
remove_before zero (suc p) (x ∷ xs) h = refl
remove_before (suc k) (suc p) (x ∷ xs) h = remove_before k p xs (omega (arith, h))

pub some_within : {X : Type 0} (k : ℕ) (xs : List X) → k < length xs → IsSome (slice_get xs k)
some_within k [] h = absurd (omega (arith, h))
some_within zero (x ∷ xs) h = refl
some_within (suc k) (x ∷ xs) h = some_within k xs (omega (arith, h))

pub within_some : {X : Type 0} (k : ℕ) (xs : List X) → IsSome (slice_get xs k) → k < length xs
within_some k [] h = absurd cc
within_some zero (x ∷ xs) h = omega arith
within_some (suc k) (x ∷ xs) h = omega (arith, within_some k xs h)

-- whether a region has a result
abbrev pub result_of : (j k : ℕ) → FlatNode → Option Origin
result_of j k x = option_and_then (λ (r : FlatRegion). slice_get r.results k) (slice_get x.regions j)

-- ---- a node of a list, and a later list

module _ (n : ℕ) (x : FlatNode) (a : Flat) where
  -- the exit variables before one are as they were
  pub record ExitsAt (count p : ℕ) (b : Flat) : Type 0 where
    pub node : FlatNode
    pub at : NodeAt n node b
    pub home : node.home ≡ x.home
    pub outputs : (k : ℕ) → k < p → slice_get node.outputs k ≡ slice_get x.outputs k
    pub uses : (k : ℕ) → k < p → uses_in x.home (Out n k) b ≡ uses_in x.home (Out n k) a
    pub results : (j k : ℕ) → j < count → k < p → IsSome (result_of j k node)

  module _ (c : ℕ) where
    pub fewer : (p q : ℕ) (b : Flat) → p ≤ q → ExitsAt c q b → ExitsAt c p b
    fewer p q b le h = record {
      node = h.node;
      at = h.at;
      home = h.home;
      outputs = λ k lt. h.outputs k (omega (arith, le, lt));
      uses = λ k lt. h.uses k (omega (arith, le, lt));
      results = λ j k lt lk. h.results j k lt (omega (arith, le, lk));
    }

    -- its output goes
    uses_output : (p k : ℕ) (y : FlatNode) (b : Flat) → NodeAt n y b → y.home ≡ x.home → k < p → uses_in x.home (Out n k) (output_removed n p b) ≡ uses_in x.home (Out n k) b
    uses_output p k y b at home lt =
        ap (λ o. uses_in x.home (Out n k) (outputs_follow o p b)) at.there
        ∙ (λ i. uses_in x.home (Out n k) (uses_with (home i) (output_less (at.number i) p (length y.outputs)) (record b { nodes = node_with (at.number i) (λ (z : FlatNode). record z { outputs = remove z.outputs p }) b.nodes })))
        ∙ uses_same (Out n k) (output_less n p (length y.outputs)) (output_times n p (length y.outputs) k lt) x.home x.home (record b { nodes = node_with n (λ (z : FlatNode). record z { outputs = remove z.outputs p }) b.nodes })
        ∙ uses_all (Out n k) x.home b (record b { nodes = node_with n (λ (z : FlatNode). record z { outputs = remove z.outputs p }) b.nodes })
        (with_same (Out n k) n (λ (z : FlatNode). record z { outputs = remove z.outputs p }) (λ z. record { id = refl; home = refl; inputs = refl; results = λ j. refl }) b.nodes) refl

    output_goes : (p : ℕ) (b : Flat) → ExitsAt c (suc p) b → ExitsAt c p (output_removed n p b)
    output_goes p b h = record {
      node = output_gone n p h.node;
      at = output_at n p h.node b h.at;
      home = h.home;
      outputs = λ k lt. remove_before k p h.node.outputs lt ∙ h.outputs k (omega (arith, lt));
      uses = λ k lt. uses_output p k h.node b h.at h.home lt ∙ h.uses k (omega (arith, lt));
      results = λ j k lt lk. h.results j k lt (omega (arith, lk));
    }

    -- a result goes
    less_there : (i j k p : ℕ) (rs : List FlatRegion) → k < p → IsSome (option_and_then (λ (r : FlatRegion). slice_get r.results k) (slice_get rs j)) →
        IsSome (option_and_then (λ (r : FlatRegion). slice_get r.results k) (slice_get (at_with i (λ (r : FlatRegion). record r { results = remove r.results p }) rs) j))
    less_there i j k p [] lt h = absurd cc
    less_there zero zero k p (r ∷ rs) lt h = ap is_some (remove_before k p r.results lt) ∙ h
    less_there zero (suc j) k p (r ∷ rs) lt h = h
    less_there (suc i) zero k p (r ∷ rs) lt h = h
    less_there (suc i) (suc j) k p (r ∷ rs) lt h = less_there i j k p rs lt h

    result_goes : (p i : ℕ) (b : Flat) → same_node x.home.node (Some n) ≡ false → ExitsAt c p b → ExitsAt c p (result_removed (place_in n i) p b)
    result_goes p i b apart h = record {
      node = result_less i p h.node;
      at = result_gone_at n i p h.node b h.at;
      home = h.home;
      outputs = h.outputs;
      uses = λ k lt. result_apart (Out n k) x.home n i p b apart ∙ h.uses k lt;
      results = λ j k lt lk. less_there i j k p h.node.regions lk (h.results j k lt lk);
    }

    results_go : (p i : ℕ) (b : Flat) → same_node x.home.node (Some n) ≡ false → ExitsAt c p b → ExitsAt c p (each_of (λ j. result_removed (place_in n j) p) i b)
    results_go p zero b apart h = h
    results_go p (suc i) b apart h = result_goes p i (each_of (λ j. result_removed (place_in n j) p) i b) apart (results_go p i b apart h)

    pub exit_goes : (p : ℕ) (b : Flat) → ExitsAt c (suc p) b → ExitsAt c p (exit_removed n c p b)
    exit_goes p b h =
        results_go p c (output_removed n p b) (ap (λ (q : Place). same_node q.node (Some n)) (sym h.home) ∙ h.at.apart) (output_goes p b h)

    -- those of a list go
    pub exits_go : (ts : List Bool) (k : ℕ) → k + length ts ≡ length x.outputs → ExitsAt c (length x.outputs) a → ExitsAt c k (from_last (exit_removed n c) k ts a)
    exits_go [] k e start = fewer k (length x.outputs) a (omega (arith, e)) start
    exits_go (t ∷ ts) k e start = by t (exits_go ts (suc k) (omega (arith, e)) start)
      where
        by : (u : Bool) → ExitsAt c (suc k) (from_last (exit_removed n c) (suc k) ts a) → ExitsAt c k (if u then from_last (exit_removed n c) (suc k) ts a else exit_removed n c k (from_last (exit_removed n c) (suc k) ts a))
        by true h = fewer k (suc k) (from_last (exit_removed n c) (suc k) ts a) (omega arith) h
        by false h = exit_goes k (from_last (exit_removed n c) (suc k) ts a) h

    -- the kind of an output before
    pub kind_before : (p k : ℕ) (b : Flat) (j : Kind) → ExitsAt c p b → k < p → slice_get x.outputs k ≡ Some j → kind_in x.home (Out n k) b ≡ Some j
    kind_before p k b j h lt e =
        ap (option_and_then (output_kind x.home k)) h.at.there
        ∙ (λ i. if same_place (h.home i) x.home then (h.outputs k lt ∙ e) i else None) ∙ ap (λ t. if t then Some j else None) (same_place_self x.home)
