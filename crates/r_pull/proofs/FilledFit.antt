-- The regions with copies fit.
use Rattle.std.proofs.Common.{◌≡◌, ◌≤◌, ◌+◌, ℕ, zero, suc, ◌==◌, Bool, true, false, ◌&&◌, ◌||◌, cond, List, []}
use Rattle.std.proofs.Common.{◌∷◌, ◌++◌, map, length, slice_get, None, Some, refl, sym, ap, subst, ◌∙◌, append_assoc, append-nil, arith}
use Rattle.std.proofs.lemmas.Bool.{and_parts, or_parts, false_from_ne_true}
use Rattle.std.proofs.lemmas.List.{length-append}
use Rattle.g_graph.specs.declared.op.Kind.{Kind}
use Rattle.g_graph.specs.declared.op.Kind.TheVariants.{Value}
use Rattle.g_graph.specs.declared.op.Op.{Op}
use Rattle.g_graph.specs.declared.op.Op.TheVariants.{Gamma}
use Rattle.g_graph.specs.declared.op.Origin.{Origin}
use Rattle.g_graph.specs.declared.op.Origin.TheVariants.{Arg, Out}
use Rattle.g_graph.specs.Plain.{RegionTree, region, NodeTree, node, NodeTrees, no_nodes, node_then, RegionTrees, no_regions, region_then, id_of, args_of}
use Rattle.g_graph.specs.Ids.{nodes_ids, regions_ids}
use Rattle.g_graph.specs.Signatures.{is_pure, joined, first_args, kind_after, outputs_of, output_kinds, result_kinds}
use Rattle.g_graph.specs.Scope.{is_of, known, last_index, origin_at, state_after, last_state}
use Rattle.g_graph.specs.WellFormed.{some_of, all_regions, same, are, gives, node_fits, region_fits, every_region, every_in_node, every_in_nodes, every_in_regions}
use Rattle.g_graph.specs.Change.{has_node}
use Rattle.g_graph.specs.Replace.{nodes_redirected}
use Rattle.g_graph.specs.Splice.{joined_nodes}
use Rattle.g_graph.proofs.lemmas.Indexes.{same_number_true, has_node-joined, kind_absent}
use Rattle.g_graph.proofs.lemmas.KindLists.{are_themselves}
use Rattle.g_graph.proofs.lemmas.Nodes.{same_kinds, has_times}
use Rattle.g_graph.proofs.lemmas.Redirects.{kind_after-redirected, state_after-redirected, gives-redirected, every_in_nodes-redirected}
use Rattle.g_graph.proofs.lemmas.Unique.{times, times_append, same_number}
use Rattle.r_edit.specs.Uses.{is_read}
use Rattle.r_edit.specs.Places.{stays_at}
use Rattle.r_edit.specs.Entries.{is_gone_argument, some_reads}
use Rattle.r_edit.proofs.lemmas.AddedFit.{nothing, none-of, none-read, scope-from, arg_added_fits, fits-parts, fits-from, fits-again}
use Rattle.r_edit.proofs.lemmas.Kept.{IsState}
use Rattle.r_edit.proofs.lemmas.Pure.{pure-outputs, no-index, no-given, no-value, values}
use Rattle.r_edit.proofs.lemmas.Scopes.{KeepsScope, kept_all, kept_nodes_fit}
use Rattle.r_pull.specs.Rule.{args_from, copy_used, region_filled, copies_in, regions_filled}

abbrev pub with_values : ℕ → List Kind → List Kind
with_values count args = args ++ values count

-- ---- more arguments

pub added-fits : (objects count : ℕ) (args : List Kind) (nodes : NodeTrees) (results : List Origin) → every_region (region_fits objects) (region args nodes results) ≡ true →
    (map (known (with_values count args) nodes) results ≡ map (known args nodes) results) × (every_region (region_fits objects) (region (with_values count args) nodes results) ≡ true)
added-fits objects zero args nodes results e =
    subst (λ js. (map (known js nodes) results ≡ map (known args nodes) results) × (every_region (region_fits objects) (region js nodes results) ≡ true)) (sym (append-nil args)) (refl, e)
added-fits objects (suc count) args nodes results e =
    let first = arg_added_fits objects args nodes results e in
    let rest = added-fits objects count (args ++ Value ∷ []) nodes results first.1 in
    subst (λ js. (map (known js nodes) results ≡ map (known args nodes) results) × (every_region (region_fits objects) (region js nodes results) ≡ true))
    (append_assoc args (Value ∷ []) (values count))
    (rest.0 ∙ first.0, rest.1)

-- they are values
pub added-known : (args : List Kind) (inputs : List Origin) → map (known (with_values (length inputs) args) no_nodes) (args_from (length args) inputs) ≡ map Some (values (length inputs))
added-known args [] = refl
added-known args (a ∷ inputs) =
    let whole : (args ++ Value ∷ []) ++ values (length inputs) ≡ with_values (suc (length inputs)) args = append_assoc args (Value ∷ []) (values (length inputs)) in
    let next : length (args ++ Value ∷ []) ≡ suc (length args) = omega (arith, length-append args (Value ∷ [])) in
    let first : slice_get (args ++ (Value ∷ values (length inputs))) (length args) ≡ Some Value = middle args in
    let rest : map (known ((args ++ Value ∷ []) ++ values (length inputs)) no_nodes) (args_from (length (args ++ Value ∷ [])) inputs) ≡ map Some (values (length inputs)) =
    added-known (args ++ Value ∷ []) inputs in
    let moved : map (known ((args ++ Value ∷ []) ++ values (length inputs)) no_nodes) (args_from (length (args ++ Value ∷ [])) inputs)
    ≡ map (known (with_values (suc (length inputs)) args) no_nodes) (args_from (suc (length args)) inputs) =
    λ i. map (known (whole i) no_nodes) (args_from (next i) inputs) in
    λ i. first i ∷ (sym moved ∙ rest) i
  where
    middle : (front : List Kind) → slice_get (front ++ (Value ∷ values (length inputs))) (length front) ≡ Some Value
    middle [] = refl
    middle (k ∷ front) = middle front

-- of the first region
pub first-takes : (stays : List Bool) (op : Op) (inputs : List Origin) (copy first : ℕ) (r : RegionTree) (rs : RegionTrees) →
    first_args (regions_filled stays copy first op inputs (region_then r rs)) ≡ with_values (length inputs) (args_of r)
first-takes stays op inputs copy first (region args nodes results) rs = by (is_read (is_gone_argument stays) (region args nodes results))
  where
    used : Origin → Origin
    used = copy_used stays copy

    by : (t : Bool) →
        args_of (cond t (region (with_values (length inputs) args) (node_then (node copy op (args_from first inputs) no_regions) (nodes_redirected used nodes)) (map used results))
        (region (with_values (length inputs) args) nodes results)) ≡ with_values (length inputs) args
    by true = refl
    by false = refl

-- ---- a region that begins with a copy

module _ (objects : ℕ) (stays : List Bool) (copy : ℕ) (args : List Kind) (y : NodeTree) (number : id_of y ≡ copy) (value : output_kinds y ≡ Some Value ∷ [])
    (gone : (j : ℕ) (k : Kind) → stays_at stays j ≡ false → slice_get args j ≡ Some k → k ≡ Value) where
  abbrev used : Origin → Origin
  used = copy_used stays copy

  abbrev begun : NodeTrees → NodeTrees
  begun front = node_then y (nodes_redirected used front)

  -- what the copy gives first, or else what was given
  first-kind : (m p : ℕ) → kind_after (begun no_nodes) m p None ≡ cond (copy == m) (joined (slice_get (Some Value ∷ []) p)) None
  first-kind m p = λ i. cond (number i == m) (joined (slice_get (value i) p)) None

  scope-begun : (front : NodeTrees) → has_node copy front ≡ false → KeepsScope nothing args front args (begun front) used
  scope-begun front apart = scope-from args args front (begun front) used kinds last
    where
      kinds : (o : Origin) (k : Kind) → known args front o ≡ Some k → known args (begun front) (used o) ≡ Some k
      kinds (Arg j) k e = by (stays_at stays j) refl
        where
          by : (t : Bool) → stays_at stays j ≡ t → known args (begun front) (cond t (Arg j) (Out copy 0)) ≡ Some k
          by true d = e
          by false d =
              kind_after-redirected used front copy 0 (kind_after (begun no_nodes) copy 0 None)
              ∙ kind_absent front copy 0 (kind_after (begun no_nodes) copy 0 None) apart
              ∙ first-kind copy 0 ∙ ap (λ t. cond t (Some Value) None) (same_number_true copy) ∙ ap Some (sym (gone j k d e))
      kinds (Out m p) k e = kind_after-redirected used front m p (kind_after (begun no_nodes) m p None) ∙ ap (kind_after front m p) (first-kind m p) ∙ by (copy == m) refl
        where
          by : (t : Bool) → (copy == m) ≡ t → kind_after front m p (cond t (joined (slice_get (Some Value ∷ []) p)) None) ≡ Some k
          by true d =
              let same : copy ≡ m = same_number copy m d in
              let none : None ≡ Some k = sym (kind_absent front m p None (ap (λ z. has_node z front) (sym same) ∙ apart)) ∙ e in
              absurd cc
          by false d = e

      last : (k : Kind) → IsState k → (o : Origin) → known args front o ≡ Some k → last_state k args front ≡ Some o → last_state k args (begun front) ≡ Some (used o)
      last k s o e l =
          let first = origin_at Arg (last_index k 0 (map Some args) None) None in
          state_after-redirected used k front (origin_at (λ p. Out (id_of y) p) (last_index k 0 (output_kinds y) None) first)
          ∙ ap (λ i. state_after k front (origin_at (λ p. Out (id_of y) p) i first)) (ap (λ ks. last_index k 0 ks None) value ∙ no-index k s) ∙ l ∙ ap Some (sym (state-stays o e))
        where
          state-stays : (o : Origin) → known args front o ≡ Some k → used o ≡ o
          state-stays (Out m p) e = refl
          state-stays (Arg j) e = by (stays_at stays j) refl
            where
              by : (t : Bool) → stays_at stays j ≡ t → cond t (Arg j) (Out copy 0) ≡ Arg j
              by true d = refl
              by false d = absurd (no-value k s (gone j k d e))

  pub begun-fits : (nodes : NodeTrees) (results : List Origin) → has_node copy nodes ≡ false → node_fits objects args no_nodes y ≡ true → every_in_node (region_fits objects) y ≡ true →
      every_region (region_fits objects) (region args nodes results) ≡ true →
      (map (known args (begun nodes)) (map used results) ≡ map (known args nodes) results) × (every_region (region_fits objects) (region args (begun nodes) (map used results)) ≡ true)
  begun-fits nodes results apart first inner e =
      let h = fits-parts objects args nodes results e in
      let all = kept_all nothing objects args args used nodes (begun nodes) (scope-begun nodes apart) results (none-of results) h.last in
      let rest = kept_nodes_fit nothing objects args args used [] (y ∷ []) nodes (λ front later w. scope-begun front (front-apart front later w)) (none-read nodes) h.each in
      let given : (k : Kind) → IsState k → gives k (begun nodes) ≡ gives k nodes = λ k s i.
      (ap (some_of (is_of k)) value ∙ no-given k s) i || gives-redirected used k nodes i in
      let inside : every_in_nodes (region_fits objects) (begun nodes) ≡ true = λ i. inner i && (every_in_nodes-redirected (region_fits objects) used nodes ∙ h.inside) i in (
        all.0,
        fits-from objects args (begun nodes) (map used results) (fits-again objects args args nodes (begun nodes) results (map used results) h (λ i. first i && rest i) all.0 all.1 given
            h.first inside),
      )
    where
      front-apart : (front later : NodeTrees) → nodes ≡ joined_nodes front later → has_node copy front ≡ false
      front-apart front later w =
          (or_parts (has_node copy front) (has_node copy later) (sym (has_node-joined copy front later) ∙ ap (has_node copy) (sym w) ∙ apart)).0

-- ---- the regions of a Gamma

-- a value that goes
abbrev pub GoneValues : (stays : List Bool) → List Kind → Type 0
GoneValues stays firsts = (j : ℕ) (k : Kind) → stays_at stays j ≡ false → slice_get firsts j ≡ Some k → k ≡ Value

module _ (objects : ℕ) (stays : List Bool) (op : Op) (pure : is_pure op ≡ true) (inputs : List Origin) (firsts ks : List Kind) (gone : GoneValues stays (with_values (length inputs) firsts)) where
  abbrev all : List Kind
  all = with_values (length inputs) firsts

  -- a copy fits where it is made
  abbrev CopyFits : Type 0
  CopyFits = (copy : ℕ) → node_fits objects all no_nodes (node copy op (args_from (length firsts) inputs) no_regions) ≡ true

  pub record FilledFits (r s : RegionTree) : Type 0 where
    pub args : args_of s ≡ all
    pub results : result_kinds s ≡ result_kinds r
    pub fits : every_region (region_fits objects) s ≡ true

  one-fits : (copy : ℕ) (nodes : NodeTrees) (results : List Origin) → has_node copy nodes ≡ false → (is_read (is_gone_argument stays) (region firsts nodes results) ≡ true → CopyFits) →
      every_region (region_fits objects) (region firsts nodes results) ≡ true →
      FilledFits (region firsts nodes results) (region_filled stays copy (length firsts) op inputs (region firsts nodes results))
  one-fits copy nodes results apart copies e = by (is_read (is_gone_argument stays) (region firsts nodes results)) refl
    where
      r : RegionTree
      r = region firsts nodes results

      used : Origin → Origin
      used = copy_used stays copy

      y : NodeTree
      y = node copy op (args_from (length firsts) inputs) no_regions

      added : (map (known all nodes) results ≡ map (known firsts nodes) results) × (every_region (region_fits objects) (region all nodes results) ≡ true)
      added = added-fits objects (length inputs) firsts nodes results e

      by : (t : Bool) → is_read (is_gone_argument stays) r ≡ t →
          FilledFits r (cond t (region all (node_then y (nodes_redirected used nodes)) (map used results)) (region all nodes results))
      by true d =
          let h = begun-fits objects stays copy all y refl (pure-outputs op pure no_regions) gone nodes results apart (copies d copy) refl added.1 in
          record { args = refl; results = h.0 ∙ added.0; fits = h.1 }
      by false d = record { args = refl; results = added.0; fits = added.1 }

  abbrev pub Fit : List Kind → RegionTrees → Type 0
  Fit takes rs = all_regions (λ r. same (args_of r) takes && are (result_kinds r) ks) rs ≡ true

  pub record AllFilled (copy : ℕ) (rs : RegionTrees) : Type 0 where
    pub outputs : outputs_of Gamma (regions_filled stays copy (length firsts) op inputs rs) ≡ outputs_of Gamma rs
    pub all_fit : Fit all (regions_filled stays copy (length firsts) op inputs rs)
    pub inside : every_in_regions (region_fits objects) (regions_filled stays copy (length firsts) op inputs rs) ≡ true

  no-node : (m : ℕ) (nodes : NodeTrees) → times m (nodes_ids nodes) ≡ 0 → has_node m nodes ≡ false
  no-node m nodes e = false_from_ne_true (has_node m nodes) (λ t. omega (arith, has_times m nodes t, e))

  first-reads : (t s : Bool) → t ≡ true → (t || s) ≡ true
  first-reads true s e = refl
  first-reads false s e = absurd cc

  rest-reads : (t s : Bool) → s ≡ true → (t || s) ≡ true
  rest-reads true s e = refl
  rest-reads false s e = e

  pub all-filled : (copy : ℕ) (rs : RegionTrees) → Fit firsts rs → every_in_regions (region_fits objects) rs ≡ true → ((m : ℕ) → copy ≤ m → times m (regions_ids rs) ≡ 0) →
      (some_reads stays rs ≡ true → CopyFits) → AllFilled copy rs
  all-filled copy no_regions fit inside fresh copies = record { outputs = refl; all_fit = refl; inside = refl }
  all-filled copy (region_then (region args nodes results) rs) fit inside fresh copies =
      let r = region args nodes results in
      let parts = and_parts (same args firsts && are (result_kinds r) ks) (all_regions (λ q. same (args_of q) firsts && are (result_kinds q) ks) rs) fit in
      let own = and_parts (same args firsts) (are (result_kinds r) ks) parts.0 in
      let both = and_parts (every_region (region_fits objects) r) (every_in_regions (region_fits objects) rs) inside in
      let args_are : args ≡ firsts = same_kinds args firsts own.0 in
      let next = copy + copies_in stays r in
      let none : times copy (nodes_ids nodes) ≡ 0 = omega (arith, fresh copy (omega arith), times_append copy (nodes_ids nodes) (regions_ids rs)) in
      let here = subst (λ js. FilledFits (region js nodes results) (region_filled stays copy (length firsts) op inputs (region js nodes results))) (sym args_are)
      (one-fits copy nodes results (no-node copy nodes none)
      (λ e. copies (first-reads (is_read (is_gone_argument stays) r) (some_reads stays rs) (ap (λ js. is_read (is_gone_argument stays) (region js nodes results)) args_are ∙ e)))
      (subst (λ js. every_region (region_fits objects) (region js nodes results) ≡ true) args_are both.0)) in
      let rest = all-filled next rs parts.1 both.1 (λ m b. omega (arith, fresh m (omega (arith, b)), times_append m (nodes_ids nodes) (regions_ids rs)))
      (λ e. copies (rest-reads (is_read (is_gone_argument stays) r) (some_reads stays rs) e)) in
      let takes = ap (λ js. same js all) here.args ∙ are_themselves all in
      let gives = ap (λ xs. are xs ks) here.results ∙ own.1 in
      record {
        outputs = here.results;
        all_fit = λ i. (takes i && gives i) && rest.all_fit i;
        inside = λ i. here.fits i && rest.inside i;
      }
