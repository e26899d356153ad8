-- The rule on the list of nodes of a well-formed lambda is the rule on the lambda.
use Rattle.std.proofs.Common.{◌≡◌, ◌⊎◌, inl, inr, ℕ, ◌==◌, ◌&&◌, nat_lt, Bool, true, false, Option, None, Some, option_map, option_and_then, List, [], ◌∷◌, ◌++◌, length, refl, sym, ap, subst, ◌∙◌, arith, append_assoc}
use Rattle.std.specs.Prelude.{if◌then◌else◌}
use Rattle.std.proofs.lemmas.Bool.Decides.{nat_tests}
use Rattle.g_graph.specs.declared.op.Kind.TheVariants.{Value as ValueKind}
use Rattle.g_graph.specs.declared.op.Op.{Op}
use Rattle.g_graph.specs.declared.op.Op.TheVariants.{Const, Undef, Local, Delta, Bin, Un, Load, Store, Clear, PtrEq, Apply, Put, Exit, Get, Gamma, Theta}
use Rattle.g_graph.specs.declared.op.Origin.{Origin}
use Rattle.g_graph.specs.declared.op.Origin.TheVariants.{Out}
use Rattle.g_graph.specs.Plain.{RegionTree, region, NodeTree, node, NodeTrees, no_nodes, node_then, RegionTrees, id_of, PlainLambda}
use Rattle.g_graph.specs.Ids.{region_ids, nodes_ids, regions_ids}
use Rattle.g_graph.specs.Signatures.{outputs_of}
use Rattle.g_graph.specs.Scope.{same_origin, known}
use Rattle.g_graph.specs.Views.{same_op}
use Rattle.g_graph.specs.WellFormed.{IsWellFormed}
use Rattle.g_graph.specs.Nodes.{node_at, is_used}
use Rattle.g_graph.specs.Replace.{region_redirected, origin_replaced}
use Rattle.g_graph.specs.Splice.{joined_nodes}
use Rattle.g_graph.proofs.lemmas.Found.{found_at}
use Rattle.g_graph.proofs.lemmas.Nodes.{KeptWithin}
use Rattle.g_graph.proofs.lemmas.Unique.{times}
use Rattle.g_arena_def.specs.declared.place.Place.{Place}
use Rattle.g_arena_def.specs.Flat.{FlatRegion, FlatNode, Flat, region_flat, in_region, in_nodes, in_regions, flat_of}
use Rattle.g_arena_def.specs.Reads.{uses_in, region_at}
use Rattle.r_edit.specs.Lookup.{same_origins, first_of}
use Rattle.r_edit.specs.Uses.{uses_replaced}
use Rattle.r_edit.proofs.lemmas.Lookup.{Among, first_before}
use Rattle.r_edit.proofs.lemmas.Uses.{uses_kept, known_value}
use Rattle.r_cne.specs.Rule.{is_common, other_than, earlier, cne_here, cne}
use Rattle.r_sweep.specs.Removals.{uses_moved}
use Rattle.r_sweep.proofs.lemmas.Outside.{AreApart, IsNone, none_of_both, none_of_rest, regions_apart}
use Rattle.r_sweep.proofs.lemmas.Regions.{IsAlike}
use Rattle.r_sweep.proofs.lemmas.Around.{Around, with_nodes}
use Rattle.r_sweep.proofs.lemmas.Inputs.{same_place_self}
use Rattle.r_sweep.proofs.lemmas.Blocks.{Within}
use Rattle.r_sweep.proofs.lemmas.Kept.{Fitting, fitting, here, alike_by}
use Rattle.r_sweep.proofs.lemmas.Listed.{filled, changed_if, change_by, is_listed}
use Rattle.r_sweep.proofs.lemmas.Reading.{region_times, unused, unused_times, start_node, uses_here}
use Rattle.r_sweep.proofs.lemmas.UsesMove.{uses_are_moved, redirected_is}
use Rattle.r_sweep_def.proofs.lemmas.{listed_sweeps}
use Rattle.r_cne.specs.Listed.{first_in, moved_in, common_in, cne_in}
use Rattle.r_cne.specs.SweepLaws.{CneIsListed, cne_change, CneSweepsAreListed}

-- ---- the first node of an op and inputs

module _ (p : Place) (op : Op) (is : List Origin) where
  first_past : (xs ys : List FlatNode) → AreApart p xs → first_in p op is (xs ++ ys) ≡ first_in p op is ys
  first_past [] ys h = refl
  first_past (x ∷ xs) ys h =
      ap (λ t. if t && (same_op op x.op && same_origins is x.inputs) then Some x.id else first_in p op is (xs ++ ys)) h.0 ∙ first_past xs ys h.1

  first_none : (xs : List FlatNode) → AreApart p xs → first_in p op is xs ≡ None
  first_none [] h = refl
  first_none (x ∷ xs) h = ap (λ t. if t && (same_op op x.op && same_origins is x.inputs) then Some x.id else first_in p op is xs) h.0 ∙ first_none xs h.1

  first_nodes : (ns : NodeTrees) (rest : List FlatNode) → IsNone p.node (nodes_ids ns) → AreApart p rest → first_in p op is (in_nodes p ns ++ rest) ≡ first_of op is ns
  first_nodes no_nodes rest none apart = first_none rest apart
  first_nodes (node_then (node id op' inputs rs) xs) rest none apart =
      let both = none_of_both p.node (id ∷ regions_ids rs) (nodes_ids xs) none in
      let own = none_of_rest p.node id (regions_ids rs) both.0 in
      ap (λ t. if t && (same_op op op' && same_origins is inputs) then Some id else first_in p op is ((in_regions id 0 rs ++ in_nodes p xs) ++ rest)) (same_place_self p)
      ∙ ap (λ ys. if same_op op op' && same_origins is inputs then Some id else first_in p op is ys) (append_assoc (in_regions id 0 rs) (in_nodes p xs) rest)
      ∙ ap (λ o. if same_op op op' && same_origins is inputs then Some id else o)
      (first_past (in_regions id 0 rs) (in_nodes p xs ++ rest) (regions_apart p id 0 rs own.0 own.1) ∙ first_nodes xs rest both.1 apart)

-- an op that is common gives one value
gives_value : (op : Op) (rs : RegionTrees) → is_common op ≡ true → outputs_of op rs ≡ Some ValueKind ∷ []
gives_value (Const w) rs e = refl
gives_value (Local k) rs e = refl
gives_value (Delta k) rs e = refl
gives_value (Bin a) rs e = refl
gives_value (Un a) rs e = refl
gives_value (Load width) rs e = refl
gives_value PtrEq rs e = refl
gives_value Undef rs e = absurd cc
gives_value (Store width) rs e = absurd cc
gives_value (Clear k) rs e = absurd cc
gives_value (Apply f) rs e = absurd cc
gives_value Put rs e = absurd cc
gives_value Exit rs e = absurd cc
gives_value Get rs e = absurd cc
gives_value Gamma rs e = absurd cc
gives_value Theta rs e = absurd cc

other_is : (n m : ℕ) (found : Option ℕ) → other_than n found ≡ Some m → (found ≡ Some m) × ((n == m) ≡ false)
other_is n m None e = absurd cc
other_is n m (Some k) e = by (k == n) refl e
  where
    by : (t : Bool) → (k == n) ≡ t → (if t then None else Some k) ≡ Some m → (Some k ≡ Some m) × ((n == m) ≡ false)
    by true t d = absurd cc
    by false t d =
        let same : k ≡ m = cc in
        (d, grind (arith, nat_tests, same, t))

same_test : (a b : Bool) → (a ≡ false → b ≡ false) → (b ≡ false → a ≡ false) → a ≡ b
same_test true true f g = refl
same_test false false f g = refl
same_test true false f g = g refl
same_test false true f g = sym (f refl)

used_is : (o : Origin) (r : RegionTree) → is_used o r ≡ nat_lt 0 (region_times o r)
used_is o r = same_test (is_used o r) (nat_lt 0 (region_times o r)) (λ e. less (region_times o r) (unused_times o r e)) (λ e. unused o r (none (region_times o r) e))
  where
    less : (c : ℕ) → c ≡ 0 → nat_lt 0 c ≡ false
    less c e = grind (arith, nat_tests)

    none : (c : ℕ) → nat_lt 0 c ≡ false → c ≡ 0
    none c e = grind (arith, nat_tests)

-- ---- the change

-- what the rule makes of a region at a node
abbrev common : RegionTree → NodeTree → Option RegionTree
common (region args ns results) x = option_and_then (λ m. uses_replaced (Out (id_of x) 0) (Out m 0) (region args ns results)) (earlier ns x)

module _ (n : ℕ) (l : PlainLambda) (w : Within n l) (fit : Fitting n l w) where
  abbrev z : Around n l
  z = w.around

  abbrev x : FlatNode
  x = start_node n l w

  abbrev own : NodeTree
  own = node n w.op w.inputs w.regions

  abbrev ns : NodeTrees
  ns = joined_nodes w.before (node_then own w.after)

  abbrev whole : RegionTree
  whole = region w.args ns w.results

  abbrev record_now : FlatRegion
  record_now = record { args = w.args; results = w.results }

  start : flat_of l ≡ with_nodes l (z.body record_now) (z.before record_now ++ (in_nodes z.place ns ++ z.after))
  start =
      ap (λ b. flat_of (record l { body = b })) (sym z.is) ∙ z.flat_is z.here (record { args = refl; results = refl })
      ∙ ap (λ h. with_nodes l (z.body (region_flat h)) (z.before (region_flat h) ++ (in_region z.place h ++ z.after))) w.is

  first_is : first_in z.place w.op w.inputs (flat_of l).nodes ≡ first_of w.op w.inputs ns
  first_is =
      let none = subst (λ h. IsNone z.place.node (region_ids h)) w.is z.own in
      ap (λ (a : Flat). first_in z.place w.op w.inputs a.nodes) start
      ∙ first_past z.place w.op w.inputs (z.before record_now) (in_nodes z.place ns ++ z.after) (z.apart record_now).0
      ∙ first_nodes z.place w.op w.inputs ns z.after none (z.apart record_now).1

  there : region_at z.place (flat_of l) ≡ Some record_now
  there = ap (region_at z.place) start ∙ z.gets record_now (in_nodes z.place ns ++ z.after)

  use_is : nat_lt 0 (uses_in x.home (Out n 0) (flat_of l)) ≡ is_used (Out n 0) whole
  use_is = ap (nat_lt 0) (uses_here n l z (Out n 0)) ∙ sym (used_is (Out n 0) z.here) ∙ ap (is_used (Out n 0)) w.is

  -- uses move to the earlier node
  moved : (m : ℕ) → is_common w.op ≡ true → first_of w.op w.inputs ns ≡ Some m → (n == m) ≡ false → (t : Bool) → is_used (Out n 0) whole ≡ t →
      (if t then Some (uses_moved z.place (Out n 0) (Out m 0) (flat_of l)) else None)
      ≡ option_map (filled n l z) (if t then Some (region_redirected (origin_replaced (Out n 0) (Out m 0)) whole) else None)
  moved m common first other false u = refl
  moved m common first other true u = ap Some (by (first_before w.op w.inputs w.before n w.regions w.after m first))
    where
      move : Origin → Origin
      move = origin_replaced (Out n 0) (Out m 0)

      apart : same_origin (Out n 0) (Out m 0) ≡ false
      apart = ap (λ t. t && (0 == 0)) other

      by_node : Among w.op w.inputs m w.before → uses_moved z.place (Out n 0) (Out m 0) (flat_of l) ≡ filled n l z (region_redirected (origin_replaced (Out n 0) (Out m 0)) whole)
      by_node a =
          let fits = here n l w fit in
          let value = subst (λ bs. known w.args bs (Out m 0) ≡ Some ValueKind) (sym a.is)
          (known_value w.args a.before (node m w.op w.inputs a.regions) a.after (gives_value w.op a.regions common)
          (omega (arith, fits.once m, ap (λ bs. times m (nodes_ids bs)) a.is))) in
          let replaced : uses_replaced (Out n 0) (Out m 0) whole ≡ Some (region_redirected (origin_replaced (Out n 0) (Out m 0)) whole) =
          ap (λ t. if t then Some (region_redirected (origin_replaced (Out n 0) (Out m 0)) whole) else None) u in
          let kept : KeptWithin (length l.objects) whole (region_redirected (origin_replaced (Out n 0) (Out m 0)) whole) =
          uses_kept (length l.objects) w.args w.before own w.after w.results fits fit.region (gives_value w.op w.regions common) (Out m 0) value
          (region_redirected (origin_replaced (Out n 0) (Out m 0)) whole) replaced in
          let alike : IsAlike z.here (region_redirected (origin_replaced (Out n 0) (Out m 0)) z.here) =
          alike_by whole (region_redirected (origin_replaced (Out n 0) (Out m 0)) whole) z.here (region_redirected (origin_replaced (Out n 0) (Out m 0)) z.here) w.is
          (ap (region_redirected (origin_replaced (Out n 0) (Out m 0))) w.is) (length l.objects) kept in
          uses_are_moved z.place (Out n 0) (Out m 0) (ap (λ t. t && (0 == 0)) other) (flat_of l) record_now there
          ∙ redirected_is n l z (origin_replaced (Out n 0) (Out m 0)) alike ∙ ap (λ h. filled n l z (region_redirected (origin_replaced (Out n 0) (Out m 0)) h)) w.is

      by : Among w.op w.inputs m w.before ⊎ (n ≡ m) → uses_moved z.place (Out n 0) (Out m 0) (flat_of l) ≡ filled n l z (region_redirected (origin_replaced (Out n 0) (Out m 0)) whole)
      by (inl a) = by_node a
      by (inr e) = absurd (grind (arith, nat_tests, e, other))

  common_is : common_in (flat_of l) x ≡ option_map (filled n l z) (common whole own)
  common_is =
      (λ i. option_and_then (moved_in (flat_of l) x) (if is_common w.op then other_than n (first_is i) else None))
      ∙ by_test (is_common w.op) refl
    where
      by_first : (o : Option ℕ) → other_than n (first_of w.op w.inputs ns) ≡ o → is_common w.op ≡ true →
          option_and_then (moved_in (flat_of l) x) o ≡ option_map (filled n l z) (option_and_then (λ m. uses_replaced (Out n 0) (Out m 0) whole) o)
      by_first None e c = refl
      by_first (Some m) e c =
          let other = other_is n m (first_of w.op w.inputs ns) e in
          ap (λ t. if t then Some (uses_moved z.place (Out n 0) (Out m 0) (flat_of l)) else None) use_is ∙ moved m c other.0 other.1 (is_used (Out n 0) whole) refl

      by_test : (t : Bool) → is_common w.op ≡ t → option_and_then (moved_in (flat_of l) x) (if t then other_than n (first_of w.op w.inputs ns) else None)
          ≡ option_map (filled n l z) (option_and_then (λ m. uses_replaced (Out n 0) (Out m 0) whole) (if t then other_than n (first_of w.op w.inputs ns) else None))
      by_test true c = by_first (other_than n (first_of w.op w.inputs ns)) refl c
      by_test false c = refl

  pub common_here : common_in (flat_of l) x ≡ option_map (filled n l z) (common z.here own)
  common_here = common_is ∙ ap (λ h. option_map (filled n l z) (common h own)) (sym w.is)

-- ---- the rule at a node

here_is : (n : ℕ) (r : RegionTree) → change_by common n r ≡ cne_here n r
here_is n (region args ns results) = by (node_at n ns) refl
  where
    by : (o : Option NodeTree) → node_at n ns ≡ o →
        option_and_then (common (region args ns results)) o ≡ option_and_then (λ m. uses_replaced (Out n 0) (Out m 0) (region args ns results)) (option_and_then (earlier ns) o)
    by None e = refl
    by (Some y) e = ap (λ k. option_and_then (λ m. uses_replaced (Out k 0) (Out m 0) (region args ns results)) (earlier ns y)) (found_at n ns y e).number

pub cne_is_listed : CneIsListed
cne_is_listed l n well =
    is_listed common common_in n l well (λ w. common_here n l w (fitting n l w well)) ∙ (λ i. option_map flat_of (changed_if (λ r. here_is n r i) l))

pub sweeps_are_listed : ((m : ℕ) (k : PlainLambda) → IsWellFormed k → IsWellFormed (cne m k)) → CneSweepsAreListed
sweeps_are_listed keeps l ns steps well = listed_sweeps cne_change cne_in cne_is_listed keeps ns (record { lambda = l; steps = steps }) well
