-- What comes in the place of a node that a number of one of its regions leaves.
use Rattle.std.specs.Option.{option_or}
use Rattle.std.specs.Prelude.{option_and_then}
use Rattle.std.proofs.Common.{◌≡◌, ℕ, suc, ◌+◌, ◌^◌, nat_lt, ◌&&◌, Bool, true, false, cond, if◌then◌else◌, List, [], ◌∷◌, ◌++◌, map, length, Option, None, Some, option_map, refl, sym, ap, ap₂, subst, ◌∙◌, arith}
use Rattle.std.proofs.lemmas.Bool.{or_parts}
use Rattle.std.proofs.lemmas.List.{length-append, length-map}
use Rattle.g_graph.specs.declared.op.Kind.{Kind}
use Rattle.g_graph.specs.declared.op.Kind.TheVariants.{Value}
use Rattle.g_graph.specs.declared.op.Op.{Op}
use Rattle.g_graph.specs.declared.op.Op.TheVariants.{Gamma, Theta}
use Rattle.g_graph.specs.declared.op.Origin.{Origin}
use Rattle.g_graph.specs.declared.op.Origin.TheVariants.{Arg, Out}
use Rattle.g_graph.specs.Change.{has_node}
use Rattle.g_graph.specs.Ids.{nodes_ids, regions_ids}
use Rattle.g_graph.specs.Plain.{RegionTree, region, NodeTree, node, NodeTrees, no_nodes, node_then, RegionTrees, no_regions, region_then, id_of, args_of, nodes_in, results_of, regions_in, count_of}
use Rattle.g_graph.specs.Count.{region_values, node_values, nodes_values}
use Rattle.g_graph.specs.Replace.{node_redirected, nodes_redirected, origin_replaced}
use Rattle.g_graph.specs.Signatures.{outputs_of, result_kinds}
use Rattle.g_graph.specs.Splice.{args_to_inputs, joined_nodes}
use Rattle.g_graph.specs.WellFormed.{distinct}
use Rattle.g_graph.proofs.lemmas.Found.{node_at-joined}
use Rattle.g_graph.proofs.lemmas.Indexes.{same_number_true}
use Rattle.g_graph.proofs.lemmas.Redirects.{nodes_values-redirected}
use Rattle.g_graph.proofs.lemmas.Splices.{nodes_values-joined}
use Rattle.g_mean.specs.Copies.{IsAmong, IsClosed, AllClosed}
use Rattle.r_edit.specs.Added.{result_added}
use Rattle.r_edit.specs.Size.{may_change_size}
use Rattle.r_push.specs.Edit.{outer}
use Rattle.r_push.specs.Rule.{names_argument, may_leave, only, leaving, leaving_one, is_invariant, carried, regions_carried, looped, placed, growth, can_all_count, can_count, pushed, pushed_within, nodes_pushed, push_here}
use Rattle.r_push.proofs.Gammas.{AllTake}
use Rattle.r_push.proofs.Taken.{carried-is}
use Rattle.r_push.specs.Walk.{Exit, shut, choice, loop, exit_of, is_open, is_loop, growth_of, grown_by_one, grown, all_grown, outputs_of_left}
use Rattle.r_push.proofs.Around.{regions_have, nodes_hold, regions_lack, ChangesAround}
use Rattle.r_push.proofs.Grown.{all_grown_ids, count_grown, count_grown_alone, regions_carried_other, regions_carried_joined, closed_joined, grown_values, count_joined}
use Rattle.r_walk.specs.Context.{joined_regions}
use Rattle.r_walk.proofs.lemmas.Contexts.{or_none, map_twice, regions_values-joined}
use Rattle.r_walk.proofs.lemmas.Local.{not_found}

-- ---- where the number is not there

leaving_none : (test : Origin → Bool) (n : ℕ) (r : RegionTree) → has_node n (nodes_in r) ≡ false → leaving test n r ≡ None
leaving_none test n (region args nodes results) e = ap (option_and_then (λ x. only (may_leave test (region args nodes results) x) x)) (not_found n nodes e)

leaving_one_none : (n : ℕ) (rs : RegionTrees) → regions_have n rs ≡ false → leaving_one n rs ≡ None
leaving_one_none n no_regions e = refl
leaving_one_none n (region_then r rs) e =
    let p = or_parts (has_node n (nodes_in r)) (regions_have n rs) e in
    ap₂ option_or (leaving_none names_argument n r p.0) (leaving_one_none n rs p.1)

pushed_none : (n : ℕ) (x : NodeTree) → regions_have n (regions_in x) ≡ false → pushed n x ≡ None
pushed_none n (node id Gamma (p ∷ entries) rs) e = ap (option_map _) (leaving_one_none n rs e)
pushed_none n (node id Theta inputs (region_then r no_regions)) e = ap (option_map _) (leaving_none (is_invariant (results_of r)) n r (or_parts (has_node n (nodes_in r)) false e).0)
pushed_none n x e = refl

cond_none : (t : Bool) (o : Option NodeTrees) → o ≡ None → cond t o None ≡ None
cond_none true o e = e
cond_none false o e = refl

within_none : (v n : ℕ) (x : NodeTree) → pushed n x ≡ None → pushed_within v n x ≡ None
within_none v n x e = cond_none (may_change_size v (growth x) 0 && can_count x) (pushed n x) e

nodes_pushed_none : (v n : ℕ) (ns : NodeTrees) → nodes_hold n ns ≡ false → nodes_pushed v n ns ≡ None
nodes_pushed_none v n no_nodes e = refl
nodes_pushed_none v n (node_then x ns) e =
    let p = or_parts (regions_have n (regions_in x)) (nodes_hold n ns) e in
    ap₂ (λ a b. option_or (option_map (λ part. joined_nodes part ns) a) (option_map (node_then x) b)) (within_none v n x (pushed_none n x p.0)) (nodes_pushed_none v n ns p.1)

pub push_around : (v n : ℕ) → ChangesAround n (push_here v n)
push_around v n (region args nodes results) e = ap (option_map (λ ns. region args ns results)) (nodes_pushed_none v n nodes e)

-- of these nodes one alone may be left
pub nodes_pushed_at : (v n : ℕ) (before : NodeTrees) (x : NodeTree) (after : NodeTrees) → nodes_hold n before ≡ false → nodes_hold n after ≡ false →
    nodes_pushed v n (joined_nodes before (node_then x after)) ≡ option_map (λ part. joined_nodes before (joined_nodes part after)) (pushed_within v n x)
nodes_pushed_at v n no_nodes x after b a =
    ap (λ o. option_or (option_map (λ part. joined_nodes part after) (pushed_within v n x)) (option_map (node_then x) o)) (nodes_pushed_none v n after a)
    ∙ or_none (option_map (λ part. joined_nodes part after) (pushed_within v n x))
nodes_pushed_at v n (node_then y before) x after b a =
    let p = or_parts (regions_have n (regions_in y)) (nodes_hold n before) b in
    ap₂ (λ o q. option_or (option_map (λ part. joined_nodes part (joined_nodes before (node_then x after))) o) (option_map (node_then y) q))
    (within_none v n y (pushed_none n y p.0)) (nodes_pushed_at v n before x after p.1 a)
    ∙ map_twice (λ part. joined_nodes before (joined_nodes part after)) (node_then y) (pushed_within v n x)

-- ---- where it is there

-- the test of the origins that a node takes along
abbrev pub test_of : Exit → List Origin → Origin → Bool
test_of shut outs = names_argument
test_of (choice regions) outs = names_argument
test_of loop outs = is_invariant outs

-- whether a node of a region leaves it
abbrev pub leaves_now : (values : ℕ) → Exit → RegionTree → NodeTree → Bool
leaves_now v exit r y =
    is_open exit && may_change_size v (growth_of exit) 0 && nat_lt (length (args_of r)) (2 ^ 32) && may_leave (test_of exit (results_of r)) r y

module _ (own : List Kind) (first : NodeTrees) (y : NodeTree) (last : NodeTrees) (outs : List Origin) where
  abbrev r : RegionTree
  r = region own (joined_nodes first (node_then y last)) outs

  abbrev move : Origin → Origin
  move = origin_replaced (Out (id_of y) 0) (Arg (length own))

  -- the region that the node left
  abbrev pub without : (loops : Bool) → RegionTree
  without loops = grown_by_one loops (region own (joined_nodes first (nodes_redirected move last)) (map move outs))

  module _ (absent : has_node (id_of y) first ≡ false) where
    leaving_here : (test : Origin → Bool) → leaving test (id_of y) r ≡ only (may_leave test r y) y
    leaving_here test = ap (option_and_then (λ x. only (may_leave test r x) x)) (node_at-joined (id_of y) first y last absent (same_number_true (id_of y)))

    leaving_among : (done rest : RegionTrees) → regions_have (id_of y) done ≡ false → regions_have (id_of y) rest ≡ false →
        leaving_one (id_of y) (joined_regions done (region_then r rest)) ≡ only (may_leave names_argument r y) y
    leaving_among no_regions rest d e =
        ap₂ option_or (leaving_here names_argument) (leaving_one_none (id_of y) rest e) ∙ or_none (only (may_leave names_argument r y) y)
    leaving_among (region_then q done) rest d e =
        let p = or_parts (has_node (id_of y) (nodes_in q)) (regions_have (id_of y) done) d in
        ap₂ option_or (leaving_none names_argument (id_of y) q p.0) (leaving_among done rest p.1 e)

  -- the region without it
  carried_here : IsClosed (region own (joined_nodes first (node_then y last)) outs) → distinct (nodes_ids (joined_nodes first (node_then y last))) ≡ true → carried (id_of y) r ≡ without false
  carried_here closed unique = by y closed unique
    where
      by : (z : NodeTree) → IsClosed (region own (joined_nodes first (node_then z last)) outs) → distinct (nodes_ids (joined_nodes first (node_then z last))) ≡ true →
          carried (id_of z) (region own (joined_nodes first (node_then z last)) outs)
          ≡ grown_by_one false (region own (joined_nodes first (nodes_redirected (origin_replaced (Out (id_of z) 0) (Arg (length own))) last)) (map (origin_replaced (Out (id_of z) 0) (Arg (length own))) outs))
      by (node n op inputs rs) c u = carried-is own first n op inputs rs last outs c u

  -- ---- how many arguments

  and_true : (t : Bool) → (t && true) ≡ t
  and_true true = refl
  and_true false = refl

  and_itself : (t : Bool) → (t && t) ≡ t
  and_itself true = refl
  and_itself false = refl

  all_count : (count : ℕ) (q : RegionTree) (rs : RegionTrees) → AllTake count (region_then q rs) → can_all_count (region_then q rs) ≡ nat_lt count (2 ^ 32)
  all_count count q no_regions h = and_true (nat_lt (length (args_of q)) (2 ^ 32)) ∙ ap (λ k. nat_lt k (2 ^ 32)) (sym h.0)
  all_count count q (region_then s rs) h =
      ap₂ (λ k t. nat_lt k (2 ^ 32) && t) (sym h.0) (all_count count s rs h.1) ∙ and_itself (nat_lt count (2 ^ 32))

  some_count : (count : ℕ) (done : RegionTrees) (q : RegionTree) (rest : RegionTrees) → AllTake count (joined_regions done (region_then q rest)) →
      can_all_count (joined_regions done (region_then q rest)) ≡ nat_lt count (2 ^ 32)
  some_count count no_regions q rest h = all_count count q rest h
  some_count count (region_then d done) q rest h = all_count count d (joined_regions done (region_then q rest)) h

  -- one test after another
  tested : (s t u : Bool) (g : NodeTree → NodeTrees) → cond (s && t) (option_map g (only u y)) None ≡ cond (true && s && t && u) (Some (g y)) None
  tested true true true g = refl
  tested true true false g = refl
  tested true false u g = refl
  tested false t u g = refl

  -- ---- the node that is left

  -- The regions are closed, and the number is in this one alone. Each region of a Gamma takes as much.
  pub record IsHere (op : Op) (done rest : RegionTrees) : Type 0 where
    pub closed : AllClosed (joined_regions done (region_then (region own (joined_nodes first (node_then y last)) outs) rest))
    pub unique : distinct (nodes_ids (joined_nodes first (node_then y last))) ≡ true
    pub absent : has_node (id_of y) first ≡ false
    pub earlier : IsAmong (id_of y) (regions_ids done) → ⊥
    pub later : IsAmong (id_of y) (regions_ids rest) → ⊥
    pub takes : op ≡ Gamma → AllTake (length own) (joined_regions done (region_then (region own (joined_nodes first (node_then y last)) outs) rest))

  -- the nodes that come
  abbrev pub two : (id : ℕ) → (op : Op) → (ins : List Origin) → (left : List NodeTree) → (done rest : RegionTrees) → (loops : Bool) → NodeTrees
  two id op ins left done rest loops =
      placed (outer (node id op (ins ++ outputs_of_left left) no_regions)) y
      (node id op ((ins ++ outputs_of_left left) ++ Out (id_of y) 0 ∷ [])
      (joined_regions (all_grown loops (suc (length left)) done) (region_then (without loops) (all_grown loops (suc (length left)) rest))))

  not_in_grown : (loops : Bool) (more : ℕ) (rs : RegionTrees) → (IsAmong (id_of y) (regions_ids (all_grown loops more rs)) → ⊥) → IsAmong (id_of y) (regions_ids rs) → ⊥
  not_in_grown loops more rs h k = h (subst (IsAmong (id_of y)) (sym (all_grown_ids loops more rs)) k)

  -- the regions of a Gamma where the node left one of them
  choice_carried : (more : ℕ) (done rest : RegionTrees) → IsHere Gamma (all_grown false more done) (all_grown false more rest) →
      regions_carried (id_of y) (joined_regions (all_grown false more done) (region_then r (all_grown false more rest)))
      ≡ joined_regions (all_grown false (suc more) done) (region_then (without false) (all_grown false (suc more) rest))
  choice_carried more done rest here =
      let parts = closed_joined (all_grown false more done) r (all_grown false more rest) here.closed in
      let n = id_of y in
      regions_carried_joined n (all_grown false more done) r (all_grown false more rest)
      ∙ (λ i. joined_regions (regions_carried_other n more done parts.0 (not_in_grown false more done here.earlier) i)
      (region_then (carried_here parts.1 here.unique i) (regions_carried_other n more rest parts.2 (not_in_grown false more rest here.later) i)))

  module _ (v id : ℕ) where
    choice_at : (p : Origin) (entries : List Origin) (left : List NodeTree) (done rest : RegionTrees) → IsHere Gamma (all_grown false (length left) done) (all_grown false (length left) rest) →
        pushed_within v (id_of y) (node id Gamma ((p ∷ entries) ++ outputs_of_left left) (joined_regions (all_grown false (length left) done) (region_then r (all_grown false (length left) rest))))
        ≡ (if leaves_now v (choice (count_of (joined_regions done (region_then r rest)))) r y then Some (two id Gamma (p ∷ entries) left done rest false) else None)
    choice_at p entries left done rest here =
        let n = id_of y in
        let more = length left in
        let inputs = entries ++ outputs_of_left left in
        let rs = joined_regions (all_grown false more done) (region_then r (all_grown false more rest)) in
        let may = may_change_size v (count_of (joined_regions done (region_then r rest))) 0 in
        let counts = nat_lt (length own) (2 ^ 32) in
        let goes = may_leave names_argument r y in
        let result : RegionTrees → NodeTree → NodeTrees = λ ss z. placed inputs z (node id Gamma ((p ∷ inputs) ++ Out n 0 ∷ []) ss) in
        (λ i. cond (may_change_size v (count_grown false more done r r rest i) 0 && some_count (length own) (all_grown false more done) r (all_grown false more rest) (here.takes refl) i)
        (option_map (result (regions_carried n rs))
        (leaving_among here.absent (all_grown false more done) (all_grown false more rest) (regions_lack n (all_grown false more done) here.earlier) (regions_lack n (all_grown false more rest) here.later) i)) None)
        ∙ tested may counts goes (result (regions_carried n rs))
        ∙ ap (λ ss. cond (true && may && counts && goes) (Some (result ss y)) None) (choice_carried more done rest here)

    loop_at : (ins : List Origin) (left : List NodeTree) → IsHere Theta no_regions no_regions →
        pushed_within v (id_of y) (node id Theta (ins ++ outputs_of_left left) (region_then r no_regions))
        ≡ (if leaves_now v loop r y then Some (two id Theta ins left no_regions no_regions true) else None)
    loop_at ins left here =
        let n = id_of y in
        let inputs = ins ++ outputs_of_left left in
        let may = may_change_size v 3 0 in
        let counts = nat_lt (length own) (2 ^ 32) in
        let goes = may_leave (is_invariant outs) r y in
        let result : RegionTree → NodeTree → NodeTrees = λ s z. placed inputs z (node id Theta (inputs ++ Out n 0 ∷ []) (region_then s no_regions)) in
        (λ i. cond (may && and_true counts i) (option_map (result (looped n r)) (leaving_here here.absent (is_invariant outs) i)) None)
        ∙ tested may counts goes (result (looped n r))
        ∙ ap (λ s. cond (true && may && counts && goes) (Some (result (result_added (Arg (length own)) s) y)) None) (carried_here here.closed.0 here.unique)

    -- the node that is left is this one
    pub pushed_at : (op : Op) (ins : List Origin) (left : List NodeTree) (done rest : RegionTrees) →
        (is_open (exit_of (node id op ins (joined_regions done (region_then r rest)))) ≡ false → left ≡ []) →
        IsHere op (all_grown (is_loop (exit_of (node id op ins (joined_regions done (region_then r rest))))) (length left) done)
        (all_grown (is_loop (exit_of (node id op ins (joined_regions done (region_then r rest))))) (length left) rest) →
        pushed_within v (id_of y)
        (node id op (ins ++ outputs_of_left left)
        (joined_regions (all_grown (is_loop (exit_of (node id op ins (joined_regions done (region_then r rest))))) (length left) done)
        (region_then r (all_grown (is_loop (exit_of (node id op ins (joined_regions done (region_then r rest))))) (length left) rest))))
        ≡ (if leaves_now v (exit_of (node id op ins (joined_regions done (region_then r rest)))) r y
        then Some (two id op ins left done rest (is_loop (exit_of (node id op ins (joined_regions done (region_then r rest)))))) else None)
    pushed_at Gamma (p ∷ entries) left done rest empty here = choice_at p entries left done rest here
    pushed_at Gamma [] left done rest empty here =
        subst (λ zs. pushed_within v (id_of y)
        (node id Gamma (outputs_of_left zs) (joined_regions (all_grown false (length zs) done) (region_then r (all_grown false (length zs) rest)))) ≡ None)
        (sym (empty refl)) (within_none v (id_of y) (node id Gamma [] (joined_regions (all_grown false 0 done) (region_then r (all_grown false 0 rest)))) refl)
    pushed_at Theta ins left no_regions no_regions empty here = loop_at ins left here
    pushed_at Theta ins left no_regions (region_then s rest) empty here =
        within_none v (id_of y) (node id Theta (ins ++ outputs_of_left left) (region_then r (all_grown false (length left) (region_then s rest)))) refl
    pushed_at Theta ins left (region_then d no_regions) rest empty here =
        within_none v (id_of y) (node id Theta (ins ++ outputs_of_left left) (region_then (grown false (length left) d) (region_then r (all_grown false (length left) rest)))) refl
    pushed_at Theta ins left (region_then d (region_then e done)) rest empty here =
        within_none v (id_of y)
        (node id Theta (ins ++ outputs_of_left left)
        (joined_regions (all_grown false (length left) (region_then d (region_then e done))) (region_then r (all_grown false (length left) rest)))) refl
    pushed_at op ins left done rest empty here =
        within_none v (id_of y)
        (node id op (ins ++ outputs_of_left left) (joined_regions (all_grown false (length left) done) (region_then r (all_grown false (length left) rest)))) refl

  -- ---- the values that come

  redirected_values : (f : Origin → Origin) (x : NodeTree) → node_values (node_redirected f x) ≡ node_values x
  redirected_values f (node id op inputs rs) = refl

  without_values : (loops : Bool) → region_values (without loops) + node_values y ≡ region_values r + (if loops then 2 else 1)
  without_values true =
      omega (
        arith,
        nodes_values-joined first (node_then y last),
        nodes_values-joined first (nodes_redirected move last),
        nodes_values-redirected move last,
        length-map outs move,
        length-append own (Value ∷ []),
        length-append (map move outs) (Arg (length own) ∷ []),
      )
  without_values false =
      omega (
        arith,
        nodes_values-joined first (node_then y last),
        nodes_values-joined first (nodes_redirected move last),
        nodes_values-redirected move last,
        length-map outs move,
        length-append own (Value ∷ []),
      )

  as_many_results : (q : RegionTree) → length (result_kinds (grown_by_one false q)) ≡ length (result_kinds q)
  as_many_results (region args nodes results) = length-map results _ ∙ sym (length-map results _)

  as_many_outputs : (more : ℕ) (done rest rest' : RegionTrees) →
      length (outputs_of Gamma (joined_regions (all_grown false (suc more) done) (region_then (without false) rest')))
      ≡ length (outputs_of Gamma (joined_regions (all_grown false more done) (region_then r rest)))
  as_many_outputs more no_regions rest rest' = length-map (map move outs) _ ∙ length-map outs move ∙ sym (length-map outs _)
  as_many_outputs more (region_then d done) rest rest' = as_many_results (grown false more d)

  choice_values : (id : ℕ) (p : Origin) (entries : List Origin) (left : List NodeTree) (done rest : RegionTrees) →
      nodes_values (two id Gamma (p ∷ entries) left done rest false)
      ≡ node_values (node id Gamma ((p ∷ entries) ++ outputs_of_left left) (joined_regions (all_grown false (length left) done) (region_then r (all_grown false (length left) rest))))
      + count_of (joined_regions done (region_then r rest))
  choice_values id p entries left done rest =
      let more = length left in
      omega (
        arith,
        redirected_values (args_to_inputs (entries ++ outputs_of_left left)) y,
        as_many_outputs more done (all_grown false more rest) (all_grown false (suc more) rest),
        regions_values-joined (all_grown false (suc more) done) (region_then (without false) (all_grown false (suc more) rest)),
        regions_values-joined (all_grown false more done) (region_then r (all_grown false more rest)),
        grown_values more done,
        grown_values more rest,
        without_values false,
        count_joined done r rest,
        count_grown false more done r r rest,
        count_grown_alone false more done,
        count_grown_alone false more rest,
      )

  loop_values : (id : ℕ) (ins : List Origin) (left : List NodeTree) →
      nodes_values (two id Theta ins left no_regions no_regions true) ≡ node_values (node id Theta (ins ++ outputs_of_left left) (region_then r no_regions)) + 3
  loop_values id ins left =
      omega (
        arith,
        redirected_values (args_to_inputs (ins ++ outputs_of_left left)) y,
        without_values true,
        length-map own Some,
        length-map (own ++ Value ∷ []) Some,
        length-append own (Value ∷ []),
      )

  pub values_at : (v id : ℕ) (op : Op) (ins : List Origin) (left : List NodeTree) (done rest : RegionTrees) →
      leaves_now v (exit_of (node id op ins (joined_regions done (region_then r rest)))) r y ≡ true →
      nodes_values (two id op ins left done rest (is_loop (exit_of (node id op ins (joined_regions done (region_then r rest))))))
      ≡ node_values
      (node id op (ins ++ outputs_of_left left)
      (joined_regions (all_grown (is_loop (exit_of (node id op ins (joined_regions done (region_then r rest))))) (length left) done)
      (region_then r (all_grown (is_loop (exit_of (node id op ins (joined_regions done (region_then r rest))))) (length left) rest))))
      + growth_of (exit_of (node id op ins (joined_regions done (region_then r rest))))
  values_at v id Gamma (p ∷ entries) left done rest e = choice_values id p entries left done rest
  values_at v id Gamma [] left done rest e = absurd cc
  values_at v id Theta ins left no_regions no_regions e = loop_values id ins left
  values_at v id Theta ins left no_regions (region_then s rest) e = absurd cc
  values_at v id Theta ins left (region_then d no_regions) rest e = absurd cc
  values_at v id Theta ins left (region_then d (region_then q done)) rest e = absurd cc
  values_at v id op ins left done rest e = absurd cc
