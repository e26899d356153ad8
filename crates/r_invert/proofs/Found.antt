-- The loop that is found first is the one that the change inverts.
use Rattle.std.specs.Option.{option_or}
use Rattle.std.specs.Prelude.{◌&&◌, ◌-◌, ◌^◌, ◌<◌, nat_le, nat_lt, option_and_then, is_some}
use Rattle.std.proofs.Common.{◌≡◌, ℕ, ◌+◌, Bool, true, false, cond, List, [], ◌∷◌, length, Option, None, Some, option_map, refl, sym, ap, subst, ◌∙◌, inl, inr, arith}
use Rattle.std.proofs.lemmas.Bool.{and_parts}
use Rattle.std.proofs.lemmas.Bool.Decides.{nat_tests}
use Rattle.std.proofs.lemmas.Option.{cond_some, same_Some}
use Rattle.g_graph.specs.declared.op.Op.TheVariants.{Theta}
use Rattle.g_graph.specs.declared.op.Origin.{Origin}
use Rattle.g_graph.specs.Plain.{RegionTree, region, NodeTree, node, NodeTrees, no_nodes, node_then, RegionTrees, no_regions, region_then, args_of, results_of, nodes_in, inputs_in}
use Rattle.g_graph.specs.Count.{region_values}
use Rattle.g_graph.specs.Change.{region_changed}
use Rattle.g_graph.specs.Ids.{region_ids, nodes_ids, regions_ids}
use Rattle.g_graph.specs.Nodes.{node_at}
use Rattle.g_graph.specs.Replace.{region_redirected}
use Rattle.g_graph.specs.Splice.{args_to_inputs, region_spliced}
use Rattle.g_graph.specs.WellFormed.{distinct, region_fits, every_region, every_in_nodes, every_in_regions}
use Rattle.g_graph.proofs.lemmas.Found.{found_at}
use Rattle.g_mean.proofs.lemmas.Closed.{region-closed}
use Rattle.g_mean.proofs.lemmas.Edits.{distinct-split}
use Rattle.r_edit.specs.Found.{region_found, nodes_found, regions_found}
use Rattle.r_edit.specs.Size.{may_change_size}
use Rattle.r_edit.proofs.lemmas.Found.{Agree, Only, both-change, found-where-changed}
use Rattle.r_edit.proofs.lemmas.Loops.{loop_node}
use Rattle.r_invert.specs.Edit.{CanMake, IsMade, is_loop, loop_of, loop_at, loop_part, placed_at}
use Rattle.r_invert.specs.Laws.{IsLoopRegion}
use Rattle.r_invert.specs.Rule.{Parts, parts_of, inverted, new_nodes, growth, loop_values, may_invert, in_place, invert_here}
use Rattle.r_invert.proofs.Counted.{found-changes, here_found}
use Rattle.r_invert.proofs.First.{loop-says}
use Rattle.r_invert.proofs.Replaced.{loop-region}

-- ---- what is found is in a region that fits

-- a region that fits, with all that is nested in it, and whose numbers are unique
abbrev Sound : (objects : ℕ) → RegionTree → Type 0
Sound objects r = (every_region (region_fits objects) r ≡ true) × (distinct (region_ids r) ≡ true)

record FoundIn (objects : ℕ) (h : RegionTree → Option NodeTree) (y : NodeTree) : Type 0 where
  holder : RegionTree
  sound : Sound objects holder
  here : h holder ≡ Some y

-- found in the one or else in the other
or-found : {X Y : Type 0} (a b : Option X) (y : X) → (a ≡ Some y → Y) → (b ≡ Some y → Y) → option_or a b ≡ Some y → Y
or-found None b y one other e = other e
or-found (Some z) b y one other e = one e

module _ (objects : ℕ) (h : RegionTree → Option NodeTree) (y : NodeTree) where
  mutual
    region-found : (r : RegionTree) → Sound objects r → region_found h r ≡ Some y → FoundIn objects h y
    region-found (region args nodes results) c e =
        or-found (h (region args nodes results)) (nodes_found h nodes) y (λ d. record { holder = region args nodes results; sound = c; here = d })
        (λ d. nodes-found nodes (and_parts (region_fits objects (region args nodes results)) (every_in_nodes (region_fits objects) nodes) c.0).1 c.1 d) e

    nodes-found : (ns : NodeTrees) → every_in_nodes (region_fits objects) ns ≡ true → distinct (nodes_ids ns) ≡ true → nodes_found h ns ≡ Some y → FoundIn objects h y
    nodes-found no_nodes c u e = absurd cc
    nodes-found (node_then (node id op inputs rs) ns) c u e =
        let both = and_parts (every_in_regions (region_fits objects) rs) (every_in_nodes (region_fits objects) ns) c in
        let apart = distinct-split (id ∷ regions_ids rs) (nodes_ids ns) u in
        or-found (regions_found h rs) (nodes_found h ns) y (λ d. regions-found rs both.0 (distinct-split (id ∷ []) (regions_ids rs) apart.0).1 d) (λ d. nodes-found ns both.1 apart.1 d) e

    regions-found : (rs : RegionTrees) → every_in_regions (region_fits objects) rs ≡ true → distinct (regions_ids rs) ≡ true → regions_found h rs ≡ Some y → FoundIn objects h y
    regions-found no_regions c u e = absurd cc
    regions-found (region_then r rs) c u e =
        let both = and_parts (every_region (region_fits objects) r) (every_in_regions (region_fits objects) rs) c in
        let apart = distinct-split (region_ids r) (regions_ids rs) u in
        or-found (region_found h r) (regions_found h rs) y (λ d. region-found r (both.0, apart.0) d) (λ d. regions-found rs both.1 apart.1 d) e

-- ---- the loop

-- a loop that may be inverted, with its parts
record IsLoop (values next : ℕ) (x : NodeTree) : Type 0 where
  id : ℕ
  inputs : List Origin
  body : RegionTree
  parts : Parts
  is : x ≡ loop_node id inputs body
  form : parts_of body ≡ Some parts
  may : may_invert values next body parts ≡ true

is-loop : (values next : ℕ) (x : NodeTree) → is_loop values next x ≡ true → IsLoop values next x
is-loop values next (node id Theta inputs (region_then r no_regions)) e = by (parts_of r) refl e
  where
    test : (p : Parts) → parts_of r ≡ Some p → (t : Bool) → may_invert values next r p ≡ t → is_some (cond t (Some p) None) ≡ true → IsLoop values next (loop_node id inputs r)
    test p d true m e = record { id = id; inputs = inputs; body = r; parts = p; is = refl; form = d; may = m }
    test p d false m e = absurd cc

    by : (o : Option Parts) → parts_of r ≡ o → is_some (option_and_then (λ p. cond (may_invert values next r p) (Some p) None) o) ≡ true → IsLoop values next (loop_node id inputs r)
    by None d e = absurd cc
    by (Some p) d e = test p d (may_invert values next r p) refl e
is-loop values next (node id Theta inputs no_regions) e = absurd cc
is-loop values next (node id Theta inputs (region_then r (region_then t rs))) e = absurd cc
is-loop values next (node id _ inputs rs) e = absurd cc

at-is : (values next n : ℕ) (r : RegionTree) (x : NodeTree) → loop_at values next n r ≡ Some x → (node_at n (nodes_in r) ≡ Some x) × (is_loop values next x ≡ true)
at-is values next n r x e = by (node_at n (nodes_in r)) refl e
  where
    by : (o : Option NodeTree) → node_at n (nodes_in r) ≡ o → option_and_then (loop_of values next) o ≡ Some x → (node_at n (nodes_in r) ≡ Some x) × (is_loop values next x ≡ true)
    by None d f = absurd cc
    by (Some z) d f =
        let c = cond_some (is_loop values next z) z x f in
        (d ∙ ap Some c.1, ap (is_loop values next) (sym c.1) ∙ c.0)

pub can-make : (objects values next : ℕ) (r : RegionTree) (p : Parts) → IsLoopRegion objects r → parts_of r ≡ Some p → may_invert values next r p ≡ true → CanMake next p
can-make objects values next r p loop e may =
    let h = (loop-says objects r p loop e).fit in
    let few = nat_lt (region_values r) (2 ^ 60) in
    let i = nat_lt (length (args_of p.stop)) (2 ^ 32) in
    let j = nat_lt (length (args_of p.go)) (2 ^ 32) in
    let k = nat_lt (length (results_of p.stop)) (2 ^ 32) in
    let m = nat_le (next + new_nodes p) (2 ^ 32 - 1) in
    let all = and_parts (few && i && j && k && m) (may_change_size values (growth p) (loop_values r)) may in
    let fourth = and_parts (few && i && j && k) m all.0 in
    let third = and_parts (few && i && j) k fourth.0 in
    let second = and_parts (few && i) j third.0 in
    let first = and_parts few i second.0 in
    record {
      test = region-closed objects p.test h.test.fits;
      stop = region-closed objects p.stop h.stop.fits;
      go = region-closed objects p.go h.go.fits;
      entries = less (length (args_of p.stop)) first.1;
      loop_entries = less (length (args_of p.go)) second.1;
      variables = less (length (results_of p.stop)) third.1;
      numbers = below (next + new_nodes p) fourth.1;
    }
  where
    less : (n : ℕ) → nat_lt n 4294967296 ≡ true → n < 4294967296
    less n e = grind (arith, nat_tests)

    below : (n : ℕ) → nat_le n 4294967295 ≡ true → n < 4294967296
    below n e = grind (arith, nat_tests)

pub found-made : (objects values next n : ℕ) (r : RegionTree) (x : NodeTree) → every_region (region_fits objects) r ≡ true → distinct (region_ids r) ≡ true →
    region_found (loop_at values next n) r ≡ Some x → IsMade next x
found-made objects values next n r x fits unique e = by f.holder f.sound f.here
  where
    f : FoundIn objects (loop_at values next n) x
    f = region-found objects (loop_at values next n) x r (fits, unique) e

    by : (t : RegionTree) → Sound objects t → loop_at values next n t ≡ Some x → IsMade next x
    by (region args nodes results) sound here =
        let at = at-is values next n (region args nodes results) x here in
        let loop = is-loop values next x at.1 in
        let found = found_at n nodes (loop_node loop.id loop.inputs loop.body) (at.0 ∙ ap Some loop.is) in
        let own = loop-region objects args found.before loop.id loop.inputs loop.body found.after results
        (ap (λ ns. every_region (region_fits objects) (region args ns results)) (sym found.is) ∙ sound.0) (subst (λ ns. distinct (nodes_ids ns) ≡ true) found.is sound.1) in
        subst (IsMade next) (sym loop.is)
        (record { parts = loop.parts; form = loop.form; can = can-make objects values next loop.body loop.parts own loop.form loop.may })

-- ---- the change with what was made of the loop

pub no-place : (values next : ℕ) (x : NodeTree) → is_loop values next x ≡ false → in_place values next x ≡ None
no-place values next x e = by (in_place values next x) refl
  where
    by : (o : Option RegionTree) → in_place values next x ≡ o → in_place values next x ≡ None
    by None d = d
    by (Some s) d =
        let no : false ≡ true =
        sym (ap (λ t. is_some (cond t (Some x) None)) e) ∙ found-changes values next x ∙ ap is_some d in
        absurd cc

pub place-known : (values next : ℕ) (x : NodeTree) (part : RegionTree) → is_loop values next x ≡ true → loop_part next x ≡ Some part →
    in_place values next x ≡ Some (region_redirected (args_to_inputs (inputs_in x)) part)
place-known values next x part e is =
    let loop = is-loop values next x e in
    let made : Some (inverted next loop.parts) ≡ Some part = sym (ap (option_map (inverted next)) loop.form) ∙ ap (loop_part next) (sym loop.is) ∙ is in
    ap (in_place values next) loop.is
    ∙ ap (option_and_then (λ p. cond (may_invert values next loop.body p) (Some (region_redirected (args_to_inputs loop.inputs) (inverted next p))) None)) loop.form
    ∙ ap (λ t. cond t (Some (region_redirected (args_to_inputs loop.inputs) (inverted next loop.parts))) None) loop.may
    ∙ ap (λ q. Some (region_redirected (args_to_inputs loop.inputs) q)) (same_Some (inverted next loop.parts) part made)
    ∙ ap (λ z. Some (region_redirected (args_to_inputs (inputs_in z)) part)) (sym loop.is)

module _ (values next n : ℕ) (y : NodeTree) (part : RegionTree) (is : loop_part next y ≡ Some part) where
  base : (t : RegionTree) → Only y (loop_at values next n t) → Agree (loop_at values next n t) (invert_here values next n t) (placed_at values next n part t)
  base (region args nodes results) only = by (node_at n nodes) only
    where
      spliced : RegionTree → RegionTree
      spliced s = region_spliced n s (region args nodes results)

      place : NodeTree → RegionTree
      place x = spliced (region_redirected (args_to_inputs (inputs_in x)) part)

      known : (x : NodeTree) → is_loop values next x ≡ true → x ≡ y → in_place values next x ≡ Some (region_redirected (args_to_inputs (inputs_in x)) part)
      known x e same = place-known values next x part e (ap (loop_part next) same ∙ is)

      test : (x : NodeTree) (t : Bool) → is_loop values next x ≡ t → Only y (cond t (Some x) None) →
          Agree (cond t (Some x) None) (option_map spliced (in_place values next x)) (option_map place (cond t (Some x) None))
      test x true e only = inr (record { found = x; is = refl; result = place x; left = ap (option_map spliced) (known x e (only x refl)); right = refl })
      test x false e only = inl (refl, ap (option_map spliced) (no-place values next x e), refl)

      by : (o : Option NodeTree) → Only y (option_and_then (loop_of values next) o) →
          Agree (option_and_then (loop_of values next) o) (option_map spliced (option_and_then (in_place values next) o)) (option_map place (option_and_then (loop_of values next) o))
      by None only = inl (refl, refl, refl)
      by (Some x) only = test x (is_loop values next x) refl only

  pub placed-changes : (r : RegionTree) → region_found (loop_at values next n) r ≡ Some y →
      (s : RegionTree) × (region_changed (invert_here values next n) r ≡ Some s) × (region_changed (placed_at values next n part) r ≡ Some s)
  placed-changes r e = both-change (loop_at values next n) (invert_here values next n) (placed_at values next n part) y base r e

-- where the rule applies something is found
pub found-some : (values next n : ℕ) (r : RegionTree) → is_some (region_changed (invert_here values next n) r) ≡ true → is_some (region_found (loop_at values next n) r) ≡ true
found-some values next n r e = found-where-changed (loop_at values next n) (invert_here values next n) (here_found values next n) r e
