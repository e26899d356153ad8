-- The changed region may replace the region, and the rule is a step.
use Rattle.std.proofs.Common.{◌≡◌, ◌≤◌, ◌+◌, ℕ, ◌==◌, Bool, true, false, ◌||◌, cond, List, [], ◌∷◌, ◌++◌, map, length, Some, refl, sym, ap, subst, ◌∙◌, inl, inr, arith}
use Rattle.std.proofs.lemmas.Bool.{or_parts}
use Rattle.val_core.specs.Refinement.{no_deeper}
use Rattle.g_graph.specs.declared.op.Kind.{Kind}
use Rattle.g_graph.specs.declared.op.Kind.TheVariants.{Value, Memory, Io}
use Rattle.g_graph.specs.declared.op.Op.{Op}
use Rattle.g_graph.specs.declared.op.Op.TheVariants.{Gamma}
use Rattle.g_graph.specs.declared.op.Origin.{Origin}
use Rattle.g_graph.specs.Plain.{RegionTree, region, NodeTree, node, NodeTrees, no_nodes, node_then, RegionTrees, no_regions, PlainLambda}
use Rattle.g_graph.specs.Ids.{node_ids, nodes_ids, regions_ids}
use Rattle.g_graph.specs.Signatures.{is_pure, first_args}
use Rattle.g_graph.specs.Scope.{is_of, known, each_node}
use Rattle.g_graph.specs.WellFormed.{some_of, node_fits, region_fits, every_region}
use Rattle.g_graph.specs.Splice.{joined_nodes}
use Rattle.g_graph.proofs.lemmas.Indexes.{same_number_true}
use Rattle.g_graph.proofs.lemmas.Nodes.{NodeFits, KeptWithin, node_fits_here, each_here}
use Rattle.g_graph.proofs.lemmas.Numbers.{Numbered, numbered_fewer}
use Rattle.g_graph.proofs.lemmas.Splices.{joined_assoc, nodes_ids-joined}
use Rattle.g_graph.proofs.lemmas.Unique.{times, times_append, times_cons}
use Rattle.g_mean.specs.Meaning.{Context, region_meaning}
use Rattle.g_mean.specs.LessDefined.{IsLessDefinedDatum}
use Rattle.g_mean.specs.Refining.{MeaningRefines}
use Rattle.g_mean.specs.Copies.{IsAmong}
use Rattle.g_mean.specs.Silent.{GivesNoState}
use Rattle.g_mean.specs.Edits.{IsPartOf}
use Rattle.g_mean.specs.Replacement.{Replaces}
use Rattle.g_mean.proofs.lemmas.Closed.{region-closed}
use Rattle.g_mean.proofs.lemmas.Inside.{as-many, regions-closed}
use Rattle.r_edit.specs.Uses.{nodes_read, is_read, is_output_of}
use Rattle.r_edit.specs.Places.{kept}
use Rattle.r_edit.specs.Entries.{some_reads, regions_taking}
use Rattle.r_edit.specs.Removal.{nodes_without, region_without}
use Rattle.r_edit.proofs.lemmas.AddedFit.{fits-parts}
use Rattle.r_edit.proofs.lemmas.Entries.{taking_joined}
use Rattle.r_edit.proofs.lemmas.EntriesFit.{entries_kept_fit}
use Rattle.r_edit.proofs.lemmas.Kept.{memory, io}
use Rattle.r_edit.proofs.lemmas.Placed.{not_before}
use Rattle.r_edit.proofs.lemmas.Pure.{pure-outputs, no-given, values, pure-takes, pure-fits}
use Rattle.r_edit.proofs.lemmas.Removal.{unread_nodes_go, without_kept}
use Rattle.r_edit.proofs.lemmas.Swapped.{RegionStays}
use Rattle.r_pull.specs.Rule.{other_entries, args_from, regions_filled, copies, inputs_carried}
use Rattle.r_pull.proofs.Answered.{none-from, numbered-more}
use Rattle.r_pull.proofs.Carried.{late-stays}
use Rattle.r_pull.proofs.Counted.{counted, filled-ids}
use Rattle.r_pull.proofs.FilledFit.{with_values, added-known}
use Rattle.r_pull.proofs.PulledFit.{gone-values, all-known-later, filled-stays}
use Rattle.r_pull.proofs.Replaced.{own-kind, entries_are, region-same}
use Rattle.r_pull.proofs.Unread.{read-joined, read-parts, kept-other, filled-unread}

among-times : (m : ℕ) (ns : List ℕ) → IsAmong m ns → 1 ≤ times m ns
among-times m [] h = absurd h
among-times m (k ∷ ns) (inl e) = omega (arith, times_cons m k ns ∙ ap (λ t. cond t 1 0 + times m ns) (ap (λ j. k == j) e ∙ same_number_true k))
among-times m (k ∷ ns) (inr h) = omega (arith, times_cons m k ns, among-times m ns h)

-- regions that mean the same are replaced alike
same-replaces : (ls ks : List PlainLambda) (r q s : RegionTree) → ((c : Context) → region_meaning c q ≡ region_meaning c r) → Replaces ls ks q s → Replaces ls ks r s
same-replaces ls ks r q s same h =
    record {
      at = λ direction global. record {
        at = λ c d context linked. subst (λ m. MeaningRefines no_deeper direction IsLessDefinedDatum m (region_meaning d s)) (same c) ((h.at direction global).at c d context linked);
      };
    }

stays-within : (objects : ℕ) (r s : RegionTree) → KeptWithin objects r s → RegionStays objects r s
stays-within objects r s h = record { args = h.kept.args; results = h.kept.results; inside = h.kept.inside }

kept-composes : (objects : ℕ) (r q s : RegionTree) → RegionStays objects r q → RegionStays objects q s → RegionStays objects r s
kept-composes objects r q s h k = record { args = k.args ∙ h.args; results = k.results ∙ h.results; inside = k.inside }

module _ (l : PlainLambda) (args : List Kind) (front : NodeTrees) (n : ℕ) (op : Op) (inputs : List Origin) (middle : NodeTrees) (gamma : ℕ) (p : Origin) (entries : List Origin) (rs : RegionTrees)
    (after : NodeTrees) (results : List Origin) (pure : is_pure op ≡ true)
    (part : IsPartOf l (region args (joined_nodes (joined_nodes front (node_then (node n op inputs no_regions) middle)) (node_then (node gamma Gamma (p ∷ entries) rs) after)) results))
    (none_before : nodes_read (is_output_of n) (joined_nodes front (node_then (node n op inputs no_regions) middle)) ≡ false) (none_after : nodes_read (is_output_of n) after ≡ false)
    (no_predicate : is_output_of n p ≡ false) (no_result : some_of (is_output_of n) results ≡ false) where
  abbrev x : NodeTree
  x = node n op inputs no_regions

  abbrev before : NodeTrees
  before = joined_nodes front (node_then x middle)

  abbrev g : NodeTree
  g = node gamma Gamma (p ∷ entries) rs

  abbrev whole : RegionTree
  whole = region args (joined_nodes before (node_then g after)) results

  abbrev stays : List Bool
  stays = other_entries n entries

  abbrev firsts : List Kind
  firsts = first_args rs

  numbers : Numbered l.next (nodes_ids (joined_nodes before (node_then g after)))
  numbers = record { unique = part.unique; below = part.below }

  here : NodeFits (length l.objects) args before g after
  here = node_fits_here (length l.objects) l.next args before g after results part.fits numbers

  -- ---- the node, in its place

  near-assoc : joined_nodes before (node_then g after) ≡ joined_nodes front (node_then x (joined_nodes middle (node_then g after)))
  near-assoc = joined_assoc front (node_then x middle) (node_then g after)

  x-here : NodeFits (length l.objects) args front x (joined_nodes middle (node_then g after))
  x-here =
      node_fits_here (length l.objects) l.next args front x (joined_nodes middle (node_then g after)) results
      (subst (λ ns. every_region (region_fits (length l.objects)) (region args ns results) ≡ true) near-assoc part.fits) (subst (λ ns. Numbered l.next (nodes_ids ns)) near-assoc numbers)

  x-fits : node_fits (length l.objects) args front x ≡ true
  x-fits =
      each_here (node_fits (length l.objects) args) [] front x (joined_nodes middle (node_then g after))
      (ap (each_node (node_fits (length l.objects) args) []) (sym near-assoc) ∙ (fits-parts (length l.objects) args (joined_nodes before (node_then g after)) results part.fits).each)

  x-takes : map (known args front) inputs ≡ map Some (values (length inputs))
  x-takes = pure-takes args front n op inputs no_regions pure x-here.inputs

  -- ---- what is carried

  abbrev carried : List Origin
  carried = inputs_carried n (record { op = op; inputs = inputs; entries = entries; regions = rs })

  whole-carried : some_reads stays rs ≡ true → carried ≡ inputs
  whole-carried e = ap (λ t. cond t inputs []) e

  once : (m : ℕ) → times m (nodes_ids front) + times m (nodes_ids (node_then x middle)) ≤ 1
  once m = omega (arith, here.once m, ap (times m) (nodes_ids-joined front (node_then x middle)), times_append m (nodes_ids front) (nodes_ids (node_then x middle)))

  taken : map (known args before) carried ≡ map Some (values (length carried))
  taken = by (some_reads stays rs)
    where
      by : (t : Bool) → map (known args before) (cond t inputs []) ≡ map Some (values (length (cond t inputs [])))
      by true = all-known-later args front (node_then x middle) once inputs (length inputs) x-takes
      by false = refl

  parts-before : (nodes_read (is_output_of n) front ≡ false) × (nodes_read (is_output_of n) (node_then x middle) ≡ false)
  parts-before = read-parts (is_output_of n) front (node_then x middle) none_before

  parts-later : (some_of (is_output_of n) inputs ≡ false) × (nodes_read (is_output_of n) middle ≡ false)
  parts-later = or_parts (some_of (is_output_of n) inputs) (nodes_read (is_output_of n) middle) parts-before.1

  unread-carried : some_of (is_output_of n) carried ≡ false
  unread-carried = by (some_reads stays rs)
    where
      by : (t : Bool) → some_of (is_output_of n) (cond t inputs []) ≡ false
      by true = parts-later.0
      by false = refl

  copies-fit : some_reads stays rs ≡ true → (copy : ℕ) → node_fits (length l.objects) (with_values (length carried) firsts) no_nodes
      (node copy op (args_from (length firsts) carried) no_regions) ≡ true
  copies-fit e copy =
      subst (λ is. node_fits (length l.objects) (with_values (length is) firsts) no_nodes (node copy op (args_from (length firsts) is) no_regions) ≡ true) (sym (whole-carried e))
      (pure-fits (length l.objects) args (with_values (length inputs) firsts) front no_nodes n copy op inputs (args_from (length firsts) inputs) pure x-fits (added-known firsts inputs ∙ sym x-takes))

  fresh-times : (m : ℕ) → l.next ≤ m → times m (regions_ids rs) ≡ 0
  fresh-times m b =
      omega (
        arith,
        none-from l.next (nodes_ids (joined_nodes before (node_then g after))) numbers.below m b,
        ap (times m) (nodes_ids-joined before (node_then g after)),
        times_append m (nodes_ids before) (node_ids g ++ nodes_ids after),
        times_append m (node_ids g) (nodes_ids after),
        times_cons m gamma (regions_ids rs),
      )

  fresh-among : (m : ℕ) → l.next ≤ m → IsAmong m (regions_ids rs) → ⊥
  fresh-among m b h = omega (arith, fresh-times m b, among-times m (regions_ids rs) h)

  many : length entries ≡ length firsts
  many = let all = as-many (known args before) (p ∷ entries) (Value ∷ firsts) here.inputs in omega (arith, all)

  -- ---- the Gamma with copies

  abbrev filled : RegionTrees
  filled = regions_filled stays l.next (length entries) op carried rs

  abbrev y1 : NodeTree
  y1 = node gamma Gamma ((p ∷ entries) ++ carried) filled

  abbrev first-changed : RegionTree
  first-changed = region args (joined_nodes before (node_then y1 after)) results

  first-kept : RegionStays (length l.objects) whole first-changed
  first-kept =
      subst (λ k. RegionStays (length l.objects) whole (region args (joined_nodes before
      (node_then (node gamma Gamma ((p ∷ entries) ++ carried) (regions_filled stays l.next k op carried rs)) after)) results)) (sym many)
      (filled-stays (length l.objects) args before gamma p entries rs after here stays l.next op pure carried
      (λ count. gone-values n (known args before) (own-kind (length l.objects) args front n op inputs middle gamma p entries rs after results pure here) entries firsts count
      (entries_are (length l.objects) args front n op inputs middle gamma p entries rs after results pure here))
      taken fresh-times copies-fit results part.fits)

  first-ids : (m : ℕ) → times m (nodes_ids (joined_nodes before (node_then y1 after))) ≤ times m (nodes_ids (joined_nodes before (node_then g after))) + times m (counted l.next (copies stays rs))
  first-ids m =
      omega (
        arith,
        ap (times m) (nodes_ids-joined before (node_then g after)),
        times_append m (nodes_ids before) (node_ids g ++ nodes_ids after),
        times_append m (node_ids g) (nodes_ids after),
        times_cons m gamma (regions_ids rs),
        ap (times m) (nodes_ids-joined before (node_then y1 after)),
        times_append m (nodes_ids before) (node_ids y1 ++ nodes_ids after),
        times_append m (node_ids y1) (nodes_ids after),
        times_cons m gamma (regions_ids filled),
        filled-ids stays (length entries) op carried m l.next rs,
      )

  first-numbers : Numbered (l.next + copies stays rs) (nodes_ids (joined_nodes before (node_then y1 after)))
  first-numbers =
      numbered-more l.next (copies stays rs) (nodes_ids (joined_nodes before (node_then g after))) (nodes_ids (joined_nodes before (node_then y1 after))) first-ids numbers

  first-here : NodeFits (length l.objects) args before y1 after
  first-here = node_fits_here (length l.objects) (l.next + copies stays rs) args before y1 after results first-kept.inside first-numbers

  -- ---- without the entries

  abbrev y2 : NodeTree
  y2 = node gamma Gamma (kept (true ∷ stays) ((p ∷ entries) ++ carried)) (regions_taking stays filled)

  abbrev rest : NodeTrees
  rest = joined_nodes middle (node_then y2 after)

  abbrev second-changed : RegionTree
  second-changed = region args (joined_nodes front (node_then x rest)) results

  far-assoc : joined_nodes before (node_then y2 after) ≡ joined_nodes front (node_then x rest)
  far-assoc = joined_assoc front (node_then x middle) (node_then y2 after)

  second-kept : KeptWithin (length l.objects) first-changed second-changed
  second-kept =
      subst (λ ns. KeptWithin (length l.objects) first-changed (region args ns results))
      (taking_joined stays gamma before y1 after (not_before (length l.objects) args before y1 after first-here) (same_number_true gamma) ∙ far-assoc)
      (entries_kept_fit stays (length l.objects) args before gamma ((p ∷ entries) ++ carried) filled after first-here
      (filled-unread stays (length entries) op carried (late-stays n entries) l.next rs) results first-kept.inside)

  second-numbers : Numbered (l.next + copies stays rs) (nodes_ids (joined_nodes front (node_then x rest)))
  second-numbers =
      numbered_fewer (l.next + copies stays rs) (nodes_ids (joined_nodes before (node_then y1 after))) (nodes_ids (joined_nodes front (node_then x rest))) second-kept.fewer first-numbers

  -- ---- without the node

  unread : is_read (is_output_of n) second-changed ≡ false
  unread =
      let none : nodes_read (is_output_of n) (joined_nodes front (node_then x rest)) ≡ false =
      read-joined (is_output_of n) front (node_then x rest) parts-before.0
      (λ i. parts-later.0 i
      || read-joined (is_output_of n) middle (node_then y2 after) parts-later.1 (λ j. (no_predicate j || kept-other n entries carried unread-carried j) || none_after j) i) in
      λ i. none i || no_result i

  no-state : GivesNoState x
  no-state =
      record { memory = ap (some_of (is_of Memory)) (pure-outputs op pure no_regions) ∙ no-given Memory memory; io = ap (some_of (is_of Io)) (pure-outputs op pure no_regions) ∙ no-given Io io }

  second-here : NodeFits (length l.objects) args front x rest
  second-here = node_fits_here (length l.objects) (l.next + copies stays rs) args front x rest results second-kept.kept.inside second-numbers

  third-kept : KeptWithin (length l.objects) second-changed (region_without n second-changed)
  third-kept = without_kept (length l.objects) args front x rest results second-here second-kept.kept.inside no-state unread

  result-is : region args (nodes_without n (joined_nodes before (node_then y2 after))) results ≡ region_without n second-changed
  result-is = ap (λ ns. region args (nodes_without n ns) results) far-assoc

  pub gamma-kept : RegionStays (length l.objects) whole (region args (nodes_without n (joined_nodes before (node_then y2 after))) results)
  gamma-kept =
      subst (λ s. RegionStays (length l.objects) whole s) (sym result-is)
      (kept-composes (length l.objects) whole second-changed (region_without n second-changed)
      (kept-composes (length l.objects) whole first-changed second-changed first-kept (stays-within (length l.objects) first-changed second-changed second-kept))
      (stays-within (length l.objects) second-changed (region_without n second-changed) third-kept))

  pub gamma-replaces : (ls ks : List PlainLambda) → Replaces ls ks whole (region args (nodes_without n (joined_nodes before (node_then y2 after))) results)
  gamma-replaces ls ks =
      subst (λ s. Replaces ls ks whole s) (sym result-is)
      (same-replaces ls ks whole second-changed (region_without n second-changed)
      (λ c. ap (λ ns. region_meaning c (region args ns results)) (sym far-assoc)
      ∙ region-same (length l.objects) args front n op inputs middle gamma p entries rs after results pure here l.next carried whole-carried
      (regions-closed l args before gamma Gamma (p ∷ entries) rs after results part) fresh-among part.closed part.unique c)
      (unread_nodes_go ls ks (record l { next = l.next + copies stays rs }) args front x rest results
      (record {
        fits = second-kept.kept.inside;
        closed = region-closed (length l.objects) second-changed second-kept.kept.inside;
        unique = second-numbers.unique;
        below = second-numbers.below;
      })
      no-state unread))
