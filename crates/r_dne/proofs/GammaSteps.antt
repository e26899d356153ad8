-- A Gamma once its exits are gone: the entries that it still has, the step as a whole, and what it costs.
use Rattle.std.proofs.Common.{◌≡◌, ◌<◌, ◌≤◌, ◌+◌, ◌*◌, ◌&&◌, not, ℕ, zero, suc, Bool, true, false, Some, None, List, [], ◌∷◌, length, Result, Ok, Err, OnOk, OnErr, refl, sym, ap, subst, ◌∙◌, arith}
use Rattle.std.specs.Prelude.{if◌then◌else◌, slice_get, is_some, option_and_then}
use Rattle.std.specs.List.{remove}
use Rattle.std.proofs.lemmas.List.{length-map}
use Rattle.std.proofs.lemmas.Option.{same_Some}
use Rattle.g_graph.specs.declared.op.Kind.{Kind}
use Rattle.g_graph.specs.declared.op.Op.TheVariants.{Gamma}
use Rattle.r_rule.specs.declared.steps.Step.{Step}
use Rattle.r_edit.specs.InPlace.{all_stay}
use Rattle.g_arena_def.specs.Flat.{FlatRegion, FlatNode, Flat, place_in}
use Rattle.g_arena_def.specs.Reads.{found}
use Rattle.g_arena_def.specs.Edits.{at_with, output_less, output_removed, result_removed}
use Rattle.r_sweep.specs.Removals.{from_last, each_of, exit_removed, entry_removed, entries_removed}
use Rattle.r_sweep_def.specs.Listed.{stepped_in}
use Rattle.r_sweep.specs.Fast.{IsWhole}
use Rattle.r_sweep.specs.Measure.{regions_size, node_size}
use Rattle.r_sweep.proofs.lemmas.Edits.{NodeAt, output_gone, result_less, output_at, result_gone_at}
use Rattle.r_sweep.proofs.lemmas.EntrySteps.{arg_of}
use Rattle.r_sweep.proofs.lemmas.ExitSteps.{some_within}
use Rattle.r_sweep.proofs.lemmas.Fits.{GammaFits, gamma_fits}
use Rattle.r_sweep.proofs.lemmas.Whole.{Stands, stands}
use Rattle.r_dne.specs.SweepLaws.{dne_change}
use Rattle.r_dne.specs.Listed.{used_arguments, arguments_of, exits_in, without_exits, entries_in, gamma_in}
use Rattle.r_dne.specs.declared.judging.Shape.{Shape}
use Rattle.r_dne.specs.Gone.{with_note}
use Rattle.r_dne.specs.Shape.{IsShape, HasEntries}
use Rattle.r_dne.proofs.Judged.{none_go}

-- ---- while exits go

args_still : (i j k p : ℕ) (rs : List FlatRegion) →
    option_and_then (λ (r : FlatRegion). slice_get r.args k) (slice_get (at_with i (λ (r : FlatRegion). record r { results = remove r.results p }) rs) j)
    ≡ option_and_then (λ (r : FlatRegion). slice_get r.args k) (slice_get rs j)
args_still i j k p [] = refl
args_still zero zero k p (r ∷ rs) = refl
args_still zero (suc j) k p (r ∷ rs) = refl
args_still (suc i) zero k p (r ∷ rs) = refl
args_still (suc i) (suc j) k p (r ∷ rs) = args_still i j k p rs

module _ (n : ℕ) (x : FlatNode) where
  -- the node has as many inputs, and its regions have the same arguments
  record Entering (b : Flat) : Type 0 where
    node : FlatNode
    at : NodeAt n node b
    inputs : length node.inputs ≡ length x.inputs
    args : (j k : ℕ) → arg_of j k node ≡ arg_of j k x

  output_kept : (p : ℕ) (b : Flat) → Entering b → Entering (output_removed n p b)
  output_kept p b h = record {
    node = output_gone n p h.node;
    at = output_at n p h.node b h.at;
    inputs = length-map h.node.inputs (output_less n p (length h.node.outputs)) ∙ h.inputs;
    args = h.args;
  }

  results_kept : (p i : ℕ) (b : Flat) → Entering b → Entering (each_of (λ j. result_removed (place_in n j) p) i b)
  results_kept p zero b h = h
  results_kept p (suc i) b h =
      let l = results_kept p i b h in
      record {
        node = result_less i p l.node;
        at = result_gone_at n i p l.node (each_of (λ j. result_removed (place_in n j) p) i b) l.at;
        inputs = l.inputs;
        args = λ j k. args_still i j k p l.node.regions ∙ l.args j k;
      }

  exits_kept : (c : ℕ) (ts : List Bool) (k : ℕ) (b : Flat) → Entering b → Entering (from_last (exit_removed n c) k ts b)
  exits_kept c [] k b h = h
  exits_kept c (t ∷ ts) k b h = by t (exits_kept c ts (suc k) b h)
    where
      by : (u : Bool) → Entering (from_last (exit_removed n c) (suc k) ts b) → Entering (if u then from_last (exit_removed n c) (suc k) ts b else exit_removed n c k (from_last (exit_removed n c) (suc k) ts b))
      by true e = e
      by false e = results_kept k c (output_removed n k (from_last (exit_removed n c) (suc k) ts b)) (output_kept k (from_last (exit_removed n c) (suc k) ts b) e)

-- ---- sizes

sizes_are : (rs : List FlatRegion) (e o : ℕ) → ((j : ℕ) → j < length rs → (r : FlatRegion) × (slice_get rs j ≡ Some r) × (length r.args ≡ e) × (length r.results ≡ o)) →
    regions_size rs ≡ length rs * (1 + e + o)
sizes_are [] e o h = omega arith
sizes_are (r ∷ rs) e o h =
    let f = h 0 (omega arith) in
    let same : r ≡ f.0 = same_Some r f.0 f.1 in
    let args : length r.args ≡ e = ap (λ (q : FlatRegion). length q.args) same ∙ f.2 in
    let results : length r.results ≡ o = ap (λ (q : FlatRegion). length q.results) same ∙ f.3 in
    let rest = sizes_are rs e o (λ j lt. h (suc j) (omega (arith, lt))) in
    omega (arith, args, results, rest)

first_arguments : (rs : List FlatRegion) (r : FlatRegion) → slice_get rs 0 ≡ Some r → arguments_of rs ≡ r.args
first_arguments [] r e = absurd cc
first_arguments (q ∷ rs) r e = ap (λ (s : FlatRegion). s.args) (same_Some q r e)

-- ---- a step

by_step : (n : ℕ) (a b c d : Flat) (steps now last : List Step) (t u : Bool) → (t ≡ true → b ≡ a) → (u ≡ true → d ≡ b) → c ≡ d → now ≡ with_note (not t) n steps → last ≡ with_note (not (not t) && not u) n now →
    record { nodes = c; steps = last } ≡ stepped_in dne_change n (record { nodes = a; steps = steps }) (if t && u then None else Some d)
by_step n a b c d steps now last true true f g e m l = let same = e ∙ g refl ∙ f refl in let log = l ∙ m in λ i. record { nodes = same i; steps = log i }
by_step n a b c d steps now last true false f g e m l = let log = l ∙ ap (with_note true n) m in λ i. record { nodes = e i; steps = log i }
by_step n a b c d steps now last false u f g e m l = let log = l ∙ m in λ i. record { nodes = e i; steps = log i }

module _ (s : Shape) (a : Flat) (whole : IsWhole a) (h : IsShape s a) (g : s.op ≡ Gamma) where
  abbrev x : FlatNode
  x = h.node

  abbrev op : x.op ≡ Gamma
  op = sym h.op ∙ g

  fits : GammaFits x
  fits = gamma_fits s.node a x whole h.there op

  here : Stands s.node x a
  here = stands s.node x a whole h.there

  -- a Gamma has an input, its predicate
  pub some_input : 0 < s.inputs
  some_input = omega (arith, fits.inputs, h.inputs)

  own_node : (y : FlatNode) → found s.node a.nodes ≡ Some y → x ≡ y
  own_node y e = same_Some x y (sym h.there ∙ e)

  after : Entering s.node x (without_exits a x)
  after =
      subst (λ m. Entering s.node x (from_last (exit_removed m (length x.regions)) 0 (exits_in a x) a)) (sym here.number)
      (exits_kept s.node x (length x.regions) (exits_in a x) 0 a
      (record { node = x; at = record { there = h.there; number = here.number; apart = here.apart }; inputs = refl; args = λ j k. refl }))

  module _ (count : ℕ) (is : suc count ≡ s.inputs) where
    entries_are : fits.entries ≡ count
    entries_are = omega (arith, is, fits.inputs, h.inputs)

    pub has_entries : (b : Flat) → ((y : FlatNode) → found s.node a.nodes ≡ Some y → b ≡ without_exits a y) → HasEntries s.node s.regions count b
    has_entries b e = subst (HasEntries s.node s.regions count) (sym (e x h.there)) (record {
      node = after.node;
      there = after.at.there;
      number = after.at.number;
      apart = after.at.apart;
      inputs = omega (arith, after.inputs, fits.inputs, entries_are);
      args = λ j k lt lk.
          let f = fits.each j (omega (arith, lt, h.regions)) in
          ap is_some (after.args j k) ∙ ap (λ o. is_some (option_and_then (λ (r : FlatRegion). slice_get r.args k) o)) f.there ∙ some_within k f.region.args (omega (arith, f.args, entries_are, lk));
    })

    abbrev kinds : FlatNode → List Kind
    kinds y = arguments_of y.regions

    kinds_count : length (kinds x) ≡ count
    kinds_count = let f = fits.each 0 fits.some in ap length (first_arguments x.regions f.region f.there) ∙ f.args ∙ entries_are

    pub size_is : (y : FlatNode) → found s.node a.nodes ≡ Some y → node_size y ≡ 2 + count + s.outputs + s.regions * (1 + count + s.outputs)
    size_is y e =
        let own : node_size x ≡ node_size y = ap node_size (own_node y e) in
        let regions = sizes_are x.regions count s.outputs (λ j lt. let f = fits.each j lt in (f.region, f.there, f.args ∙ entries_are, f.results ∙ sym h.outputs)) in
        let counted : length x.regions * (1 + count + s.outputs) ≡ s.regions * (1 + count + s.outputs) = ap (λ k. k * (1 + count + s.outputs)) (sym h.regions) in
        omega (arith, own, regions, counted, fits.inputs, entries_are, h.outputs)

    pub gamma_cost : (old mid now : ℕ) → mid ≤ old + (2 + s.regions) * s.outputs → now ≤ mid + (2 * s.regions + 1) * count → (y : FlatNode) → found s.node a.nodes ≡ Some y → now + s.outputs + 1 ≤ old + 3 * node_size y
    gamma_cost old mid now f t y e = omega (arith, f, t, size_is y e)

    -- the exits, and then the entries
    module _ (b c : Flat) (noted : Bool) (steps now last : List Step)
        (gone : (y : FlatNode) → found s.node a.nodes ≡ Some y → b ≡ without_exits a y)
        (was : (y : FlatNode) → found s.node a.nodes ≡ Some y → noted ≡ not (all_stay (exits_in a y)))
        (log : now ≡ with_note noted s.node steps) where
      unchanged : all_stay (exits_in a x) ≡ true → b ≡ a
      unchanged t = gone x h.there ∙ none_go (exit_removed x.id (length x.regions)) 0 (exits_in a x) a t

      -- where no memory was left, nothing was noted, and nothing has changed
      pub stopped_arena : {A B : Type 0} (r : Result A B) → OnErr r (noted ≡ false) → OnErr r (c ≡ b) → OnErr r (c ≡ a)
      stopped_arena (Ok v) e f = tt
      stopped_arena (Err v) e f = f ∙ unchanged (turned (all_stay (exits_in a x)) (sym (was x h.there) ∙ e))
        where
          turned : (t : Bool) → not t ≡ false → t ≡ true
          turned true q = refl
          turned false q = absurd cc

      gamma_step : ((ks : List Kind) → length ks ≡ count → c ≡ entries_removed s.node s.regions (used_arguments b s.node s.regions 0 ks) b) →
          ((ks : List Kind) → length ks ≡ count → last ≡ with_note (not noted && not (all_stay (used_arguments b s.node s.regions 0 ks))) s.node now) →
          (y : FlatNode) → found s.node a.nodes ≡ Some y → record { nodes = c; steps = last } ≡ stepped_in dne_change s.node (record { nodes = a; steps = steps }) (gamma_in a y)
      gamma_step went told y e =
          subst (λ z. record { nodes = c; steps = last } ≡ stepped_in dne_change s.node (record { nodes = a; steps = steps }) (gamma_in a z)) (own_node y e) step
        where
          entries_same : used_arguments b s.node s.regions 0 (kinds x) ≡ entries_in a x
          entries_same = λ i. used_arguments (gone x h.there i) (sym here.number i) (h.regions i) 0 (kinds x)

          all_same : c ≡ entries_removed x.id (length x.regions) (entries_in a x) (without_exits a x)
          all_same = went (kinds x) kinds_count ∙ (λ i. entries_removed (sym here.number i) (h.regions i) (entries_same i) (gone x h.there i))

          step : record { nodes = c; steps = last } ≡ stepped_in dne_change s.node (record { nodes = a; steps = steps }) (gamma_in a x)
          step = by_step s.node a b c (entries_removed x.id (length x.regions) (entries_in a x) (without_exits a x)) steps now last (all_stay (exits_in a x)) (all_stay (entries_in a x)) unchanged
              (λ t. none_go (entry_removed x.id (length x.regions)) 0 (entries_in a x) (without_exits a x) t ∙ sym (gone x h.there)) all_same (log ∙ ap (λ t. with_note t s.node steps) (was x h.there))
              (told (kinds x) kinds_count ∙ (λ i. with_note (not (was x h.there i) && not (all_stay (entries_same i))) s.node now))

      pub gamma_steps : {A B : Type 0} (r : Result A B) → ((ks : List Kind) → length ks ≡ count → OnOk r (c ≡ entries_removed s.node s.regions (used_arguments b s.node s.regions 0 ks) b)) →
          ((ks : List Kind) → length ks ≡ count → OnOk r (last ≡ with_note (not noted && not (all_stay (used_arguments b s.node s.regions 0 ks))) s.node now)) →
          (y : FlatNode) → found s.node a.nodes ≡ Some y → OnOk r (record { nodes = c; steps = last } ≡ stepped_in dne_change s.node (record { nodes = a; steps = steps }) (gamma_in a y))
      gamma_steps (Ok v) went told y e = gamma_step went told y e
      gamma_steps (Err v) went told y e = tt
