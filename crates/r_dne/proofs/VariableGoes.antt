-- A node while a loop variable of it goes: its output, its result, its argument and its input.
use Rattle.std.proofs.Common.{◌≡◌, ◌<◌, ◌≤◌, ◌+◌, ◌-◌, ◌&&◌, ◌==◌, nat_lt, ℕ, zero, suc, Bool, true, false, Some, List, [], ◌∷◌, map, length, refl, sym, ap, subst, ◌∙◌, arith}
use Rattle.std.specs.Prelude.{if◌then◌else◌, slice_get, is_some, option_and_then, IsSome}
use Rattle.std.specs.List.{remove}
use Rattle.std.proofs.lemmas.List.{length-map}
use Rattle.std.proofs.lemmas.Bool.Decides.{nat_tests}
use Rattle.std.proofs.lemmas.Option.{same_Some}
use Rattle.g_graph.specs.declared.op.Origin.{Origin}
use Rattle.g_graph.specs.declared.op.Origin.TheVariants.{Arg, Out}
use Rattle.g_graph.specs.Scope.{same_origin}
use Rattle.g_graph.specs.WellFormed.{is_origin}
use Rattle.g_arena_def.specs.declared.place.Place.{Place}
use Rattle.g_arena_def.specs.Flat.{FlatRegion, FlatNode, Flat, place_in}
use Rattle.g_arena_def.specs.Reads.{found, result_at, kind_in, times, uses_in}
use Rattle.g_arena_def.specs.Edits.{node_with, at_with, region_with, uses_with, output_less, outputs_follow, output_removed, argument_less, argument_removed, result_removed}
use Rattle.r_sweep.specs.Removals.{variable_removed}
use Rattle.r_sweep.proofs.lemmas.Edits.{NodeAt, output_gone, result_less, output_at, result_gone_at}
use Rattle.r_sweep.proofs.lemmas.EntrySteps.{args_gone, results_follow, argument_gone, is_followed, argument_at, argument_uses, input_gone, input_at}
use Rattle.r_sweep.proofs.lemmas.ExitSteps.{remove_before, some_within}
use Rattle.r_sweep.proofs.lemmas.Uses.{output_times, output_apart, uses_all, with_same, region_same, uses_same, result_apart}
use Rattle.r_sweep.proofs.lemmas.VariableSteps.{input_less, own_result}
use Rattle.r_dne.specs.Shape.{IsVariable}

-- ---- numbers

pub less_on : (u v w : ℕ) → u ≤ v → v ≡ w → u ≤ w
less_on u v w h e = omega (arith, h, e)

pub less_too : (u v w : ℕ) → u ≤ v → v ≤ w → u ≤ w
less_too u v w h g = omega (arith, h, g)

less_by : (u v w i x : ℕ) → u ≤ v → v ≡ w → w + i ≡ x → u ≤ x
less_by u v w i x h e f = omega (arith, h, e, f)

none_by : (u i x : ℕ) → u + i ≡ x → x ≤ i → u ≡ 0
none_by u i x e h = omega (arith, e, h)

pub none_on : (u v w : ℕ) → u ≡ v → v ≤ w → w ≡ 0 → u ≡ 0
none_on u v w e h f = omega (arith, e, h, f)

-- ---- lists

fewer : {X : Type 0} (m : ℕ) (xs : List X) → length xs ≤ suc (length (remove xs m))
fewer m [] = omega arith
fewer zero (x ∷ xs) = omega arith
fewer (suc m) (x ∷ xs) = omega (arith, fewer m xs)

-- an output is no argument that goes
argument_apart : (n i k c : ℕ) (os : List Origin) → times (Out n i) (map (argument_less k c) os) ≡ times (Out n i) os
argument_apart n i k c [] = refl
argument_apart n i k c (o ∷ os) = λ j. (if by o j then 1 else 0) + argument_apart n i k c os j
  where
    inner : (q : ℕ) (t : Bool) → same_origin (Out n i) (if t then Arg (q - 1) else Arg q) ≡ false
    inner q true = refl
    inner q false = refl

    by : (p : Origin) → same_origin (Out n i) (argument_less k c p) ≡ same_origin (Out n i) p
    by (Arg q) = inner q (nat_lt k q && nat_lt q c)
    by (Out m q) = refl

-- whether an earlier argument is the result of an index, after a later one went
origin_still : (k c i m : ℕ) → i < k → (os : List Origin) → is_origin (slice_get (map (argument_less k c) os) m) (Arg i) ≡ is_origin (slice_get os m) (Arg i)
origin_still k c i m h [] = refl
origin_still k c i zero h (o ∷ os) = by o
  where
    inner : (q : ℕ) (t u : Bool) → nat_lt k q ≡ t → same_origin (if t && u then Arg (q - 1) else Arg q) (Arg i) ≡ (q == i)
    inner q false u e = refl
    inner q true false e = refl
    inner q true true e =
        let far : (q == i) ≡ false = grind (arith, nat_tests, h, e) in
        let near : ((q - 1) == i) ≡ false = grind (arith, nat_tests, h, e) in
        near ∙ sym far

    by : (p : Origin) → same_origin (argument_less k c p) (Arg i) ≡ same_origin p (Arg i)
    by (Arg q) = inner q (nat_lt k q) (nat_lt q c) refl
    by (Out m q) = refl
origin_still k c i (suc m) h (o ∷ os) = origin_still k c i m h os

at_first : (f : FlatRegion → FlatRegion) (r : FlatRegion) (rs : List FlatRegion) → slice_get rs 0 ≡ Some r → slice_get (at_with 0 f rs) 0 ≡ Some (f r)
at_first f r [] e = absurd cc
at_first f r (q ∷ rs) e = ap (λ z. Some (f z)) (same_Some q r e)

-- ---- the parts of a variable that goes

module _ (n p : ℕ) (a : Flat) (y : FlatNode) (at : NodeAt n y a) (r : FlatRegion) (there : slice_get y.regions 0 ≡ Some r) where
  -- its output went
  abbrev pub without_output : Flat
  without_output = output_removed n p a

  abbrev node1 : FlatNode
  node1 = output_gone n p y

  at1 : NodeAt n node1 without_output
  at1 = output_at n p y a at

  -- and its result
  abbrev pub without_result : Flat
  without_result = result_removed (place_in n 0) (suc p) without_output

  abbrev node2 : FlatNode
  node2 = result_less 0 (suc p) node1

  at2 : NodeAt n node2 without_result
  at2 = result_gone_at n 0 (suc p) node1 without_output at1

  abbrev region2 : FlatRegion
  region2 = record r { results = remove r.results (suc p) }

  there2 : slice_get node2.regions 0 ≡ Some region2
  there2 = at_first (λ (s : FlatRegion). record s { results = remove s.results (suc p) }) r y.regions there

  -- and its argument
  abbrev pub without_argument : Flat
  without_argument = argument_removed (place_in n 0) p without_result

  abbrev node3 : FlatNode
  node3 = argument_gone 0 p (length r.args) node2

  at3 : NodeAt n node3 without_argument
  at3 = argument_at n 0 p node2 without_result at2 region2 there2

  abbrev region3 : FlatRegion
  region3 = results_follow p (length r.args) (args_gone p region2)

  there3 : slice_get node3.regions 0 ≡ Some region3
  there3 = at_first (results_follow p (length r.args)) (args_gone p region2) (at_with 0 (args_gone p) node2.regions) (at_first (args_gone p) region2 node2.regions there2)

  -- and its input
  abbrev node4 : FlatNode
  node4 = input_gone p node3

  at4 : NodeAt n node4 (variable_removed n p a)
  at4 = input_at n p node3 without_argument at3

  -- ---- uses of an argument

  argument1 : (q : Place) (k : ℕ) → uses_in q (Arg k) without_output ≡ uses_in q (Arg k) a
  argument1 q k =
      ap (λ o. uses_in q (Arg k) (outputs_follow o p a)) at.there
      ∙ uses_same (Arg k) (output_less y.id p (length y.outputs)) (output_apart y.id p (length y.outputs) k) q y.home (record a { nodes = node_with y.id (λ (z : FlatNode). record z { outputs = remove z.outputs p }) a.nodes })
      ∙ uses_all (Arg k) q a (record a { nodes = node_with y.id (λ (z : FlatNode). record z { outputs = remove z.outputs p }) a.nodes })
      (with_same (Arg k) y.id (λ (z : FlatNode). record z { outputs = remove z.outputs p }) (λ z. record { id = refl; home = refl; inputs = refl; results = λ j. refl }) a.nodes) refl

  argument2 : (k : ℕ) → uses_in (place_in n 0) (Arg k) without_result + (if is_origin (slice_get r.results (suc p)) (Arg k) then 1 else 0) ≡ uses_in (place_in n 0) (Arg k) a
  argument2 k = own_result (Arg k) n (suc p) node1 without_output at1 r there ∙ argument1 (place_in n 0) k

  argument_fewer : (k : ℕ) → k < p → uses_in (place_in n 0) (Arg k) (variable_removed n p a) ≤ uses_in (place_in n 0) (Arg k) a
  argument_fewer k lt =
      less_by _ _ _ _ _ (input_less (Arg k) (place_in n 0) n p without_argument) (argument_uses n 0 p node2 without_result at2 region2 there2 (place_in n 0) k lt) (argument2 k)

  -- ---- uses of an output

  output1 : (k : ℕ) → k < p → uses_in y.home (Out n k) without_output ≡ uses_in y.home (Out n k) a
  output1 k lt =
      ap (λ o. uses_in y.home (Out n k) (outputs_follow o p a)) at.there
      ∙ (λ i. uses_in y.home (Out n k) (uses_with y.home (output_less (at.number i) p (length y.outputs)) (record a { nodes = node_with (at.number i) (λ (z : FlatNode). record z { outputs = remove z.outputs p }) a.nodes })))
      ∙ uses_same (Out n k) (output_less n p (length y.outputs)) (output_times n p (length y.outputs) k lt) y.home y.home (record a { nodes = node_with n (λ (z : FlatNode). record z { outputs = remove z.outputs p }) a.nodes })
      ∙ uses_all (Out n k) y.home a (record a { nodes = node_with n (λ (z : FlatNode). record z { outputs = remove z.outputs p }) a.nodes })
      (with_same (Out n k) n (λ (z : FlatNode). record z { outputs = remove z.outputs p }) (λ z. record { id = refl; home = refl; inputs = refl; results = λ j. refl }) a.nodes) refl

  output3 : (q : Place) (k : ℕ) → uses_in q (Out n k) without_argument ≡ uses_in q (Out n k) without_result
  output3 q k =
      ap (uses_in q (Out n k)) (is_followed n 0 p node2 without_result at2 region2 there2)
      ∙ uses_same (Out n k) (argument_less p (length r.args)) (argument_apart n k p (length r.args)) q (place_in n 0) (region_with (place_in n 0) (args_gone p) without_result)
      ∙ region_same (Out n k) q (place_in n 0) (args_gone p) (λ s. refl) without_result

  output_fewer : (k : ℕ) → k < p → uses_in y.home (Out n k) (variable_removed n p a) ≤ uses_in y.home (Out n k) a
  output_fewer k lt =
      less_on _ _ _ (input_less (Out n k) y.home n p without_argument) (output3 y.home k ∙ result_apart (Out n k) y.home n 0 (suc p) without_output at.apart ∙ output1 k lt)

-- ---- what is asked of the calls

module _ (n k : ℕ) (a : Flat) (h : IsVariable n k a) where
  own_at : NodeAt n h.node a
  own_at = record { there = h.there; number = h.number; apart = h.apart }

  pub result_there : IsSome (result_at (place_in n 0) (suc k) (output_removed n k a))
  result_there =
      ap (λ o. is_some (option_and_then (λ (r : FlatRegion). slice_get r.results (suc k)) (option_and_then (λ (x : FlatNode). slice_get x.regions 0) o))) (at1 n k a h.node own_at h.region h.regions).there
      ∙ ap (λ o. is_some (option_and_then (λ (r : FlatRegion). slice_get r.results (suc k)) o)) h.regions ∙ some_within (suc k) h.region.results h.result

  pub argument_there : IsSome (kind_in (place_in n 0) (Arg k) (result_removed (place_in n 0) (suc k) (output_removed n k a)))
  argument_there =
      ap (λ o. is_some (option_and_then (λ (r : FlatRegion). slice_get r.args k) (option_and_then (λ (x : FlatNode). slice_get x.regions 0) o))) (at2 n k a h.node own_at h.region h.regions).there
      ∙ ap (λ o. is_some (option_and_then (λ (r : FlatRegion). slice_get r.args k) o)) (there2 n k a h.node own_at h.region h.regions) ∙ some_within k h.region.args h.argument

  pub argument_unused : uses_in (place_in n 0) (Arg k) (result_removed (place_in n 0) (suc k) (output_removed n k a)) ≡ 0
  argument_unused = none_by _ _ _ (argument2 n k a h.node own_at h.region h.regions k) h.own

  pub input_there : (x : FlatNode) × (found n (argument_removed (place_in n 0) k (result_removed (place_in n 0) (suc k) (output_removed n k a))).nodes ≡ Some x) × (k < length x.inputs)
  input_there = (
    node3 n k a h.node own_at h.region h.regions,
    (at3 n k a h.node own_at h.region h.regions).there,
    omega (arith, length-map h.node.inputs (output_less n k (length h.node.outputs)), h.input),
  )

-- ---- those before

module _ (n : ℕ) (x : FlatNode) (r : FlatRegion) (a : Flat) where
  -- the loop variables before one have no more uses than they had
  pub record VariablesAt (p : ℕ) (b : Flat) : Type 0 where
    pub node : FlatNode
    pub at : NodeAt n node b
    pub home : node.home ≡ x.home
    pub outputs : p ≤ length node.outputs
    pub inputs : p ≤ length node.inputs
    pub region : FlatRegion
    pub there : slice_get node.regions 0 ≡ Some region
    pub args : p ≤ length region.args
    pub results : p < length region.results
    pub unused : (k : ℕ) → k < p → uses_in x.home (Out n k) b ≤ uses_in x.home (Out n k) a
    pub own : (k : ℕ) → k < p → uses_in (place_in n 0) (Arg k) b ≤ uses_in (place_in n 0) (Arg k) a
    pub same : (k : ℕ) → k < p → is_origin (slice_get region.results (suc k)) (Arg k) ≡ is_origin (slice_get r.results (suc k)) (Arg k)

  pub before : (p q : ℕ) (b : Flat) → p ≤ q → VariablesAt q b → VariablesAt p b
  before p q b le h = record {
    node = h.node;
    at = h.at;
    home = h.home;
    outputs = omega (arith, le, h.outputs);
    inputs = omega (arith, le, h.inputs);
    region = h.region;
    there = h.there;
    args = omega (arith, le, h.args);
    results = omega (arith, le, h.results);
    unused = λ k lt. h.unused k (omega (arith, le, lt));
    own = λ k lt. h.own k (omega (arith, le, lt));
    same = λ k lt. h.same k (omega (arith, le, lt));
  }

  pub variable_goes : (p : ℕ) (b : Flat) → VariablesAt (suc p) b → VariablesAt p (variable_removed n p b)
  variable_goes p b h = record {
    node = node4 n p b h.node h.at h.region h.there;
    at = at4 n p b h.node h.at h.region h.there;
    home = h.home;
    outputs = omega (arith, h.outputs, fewer p h.node.outputs);
    inputs = omega (arith, h.inputs, length-map h.node.inputs (output_less n p (length h.node.outputs)), fewer p (map (output_less n p (length h.node.outputs)) h.node.inputs));
    region = region3 n p b h.node h.at h.region h.there;
    there = there3 n p b h.node h.at h.region h.there;
    args = omega (arith, h.args, fewer p h.region.args);
    results = omega (arith, h.results, length-map (remove h.region.results (suc p)) (argument_less p (length h.region.args)), fewer (suc p) h.region.results);
    unused = λ k lt.
        less_too _ _ _ (subst (λ q. uses_in q (Out n k) (variable_removed n p b) ≤ uses_in q (Out n k) b) h.home (output_fewer n p b h.node h.at h.region h.there k lt)) (h.unused k (omega (arith, lt)));
    own = λ k lt. less_too _ _ _ (argument_fewer n p b h.node h.at h.region h.there k lt) (h.own k (omega (arith, lt)));
    same = λ k lt.
        origin_still p (length h.region.args) k (suc k) lt (remove h.region.results (suc p))
        ∙ ap (λ o. is_origin o (Arg k)) (remove_before (suc k) (suc p) h.region.results (omega (arith, lt))) ∙ h.same k (omega (arith, lt));
  }
