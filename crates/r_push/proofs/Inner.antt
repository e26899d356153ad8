-- The room of a region of a node.
use Rattle.std.specs.Option.{option_or}
use Rattle.std.specs.Prelude.{is_some}
use Rattle.std.proofs.Common.{◌≡◌, ℕ, suc, ◌+◌, Bool, true, false, if◌then◌else◌, List, [], ◌∷◌, ◌++◌, length, Option, None, Some, option_map, unwrap_or, ◌&&◌, ◌^◌, nat_lt, refl, sym, ap, ap₂, subst, ◌∙◌, arith}
use Rattle.std.proofs.lemmas.Bool.{and_parts}
use Rattle.std.proofs.lemmas.List.{length-append, map-append, append_assoc}
use Rattle.g_graph.specs.declared.op.Kind.{Kind}
use Rattle.g_graph.specs.declared.op.Kind.TheVariants.{Value}
use Rattle.g_graph.specs.declared.op.Op.{Op}
use Rattle.g_graph.specs.declared.op.Op.TheVariants.{Gamma, Theta}
use Rattle.g_graph.specs.declared.op.Origin.{Origin}
use Rattle.g_graph.specs.declared.op.Origin.TheVariants.{Out}
use Rattle.g_graph.specs.Change.{region_changed}
use Rattle.g_graph.specs.Count.{region_values, node_values, nodes_values}
use Rattle.g_graph.specs.Ids.{region_ids, nodes_ids}
use Rattle.g_graph.specs.Plain.{RegionTree, region, NodeTree, node, NodeTrees, no_nodes, node_then, RegionTrees, no_regions, region_then, id_of, args_of, results_of, nodes_of, PlainLambda}
use Rattle.g_graph.specs.Program.{lambda_values}
use Rattle.g_graph.specs.Replace.{node_redirected}
use Rattle.g_graph.specs.Scope.{known}
use Rattle.g_graph.specs.Signatures.{first_args, result_kinds, output_kinds}
use Rattle.g_graph.specs.Splice.{args_to_inputs, joined_nodes}
use Rattle.g_graph.specs.WellFormed.{are, kinds_of, distinct, IsWellFormed}
use Rattle.g_graph.proofs.lemmas.Splices.{joined_assoc, nodes_of_append, nodes_values-joined}
use Rattle.g_mean.specs.Copies.{IsAmong}
use Rattle.g_mean.specs.Edits.{IsPartOf}
use Rattle.g_mean.proofs.lemmas.Inside.{node-here, as-many, regions-closed}
use Rattle.r_push.specs.Edit.{outer}
use Rattle.r_edit.specs.Size.{may_change_size}
use Rattle.r_push.specs.Rule.{may_leave, pushed_within, push_here, applies}
use Rattle.r_push.proofs.Gammas.{AllTake}
use Rattle.r_push.proofs.Replaced.{take-all}
use Rattle.r_push.specs.Walk.{Exit, exit_of, is_open, is_loop, growth_of, all_grown, outputs_of_left}
use Rattle.r_push.proofs.Around.{nodes_lack, IsApart, apart_here, in_outer, own_lack, nodes_inside, IsAround, inner_around}
use Rattle.r_push.proofs.Pushed.{push_around, nodes_pushed_at, test_of, leaves_now, without, two, IsHere, pushed_at, values_at}
use Rattle.r_walk.specs.Context.{joined_regions}
use Rattle.r_walk.proofs.lemmas.Contexts.{map_twice, whole_part}
use Rattle.r_walk.proofs.lemmas.Local.{not_before}
use Rattle.r_push.proofs.Rooms.{HasLeft, IsRoom, in_own, own_unchanged}

-- ---- how many arguments

takes_of : (count : ℕ) (done : RegionTrees) (r : RegionTree) (rest : RegionTrees) → AllTake count (joined_regions done (region_then r rest)) → count ≡ length (args_of r)
takes_of count no_regions r rest h = h.0
takes_of count (region_then d done) r rest h = takes_of count done r rest h.1

module _ (l : PlainLambda) (args : List Kind) (before : NodeTrees) (id : ℕ) (done : RegionTrees) (r : RegionTree) (rest : RegionTrees) (after : NodeTrees) (results : List Origin) where
  abbrev all : RegionTrees
  all = joined_regions done (region_then r rest)

  abbrev IsPart : Op → List Origin → Type 0
  IsPart op inputs = IsPartOf l (region args (joined_nodes before (node_then (node id op inputs (joined_regions done (region_then r rest))) after)) results)

  first_take : (inputs : List Origin) → IsPart Gamma inputs → AllTake (length (first_args all)) all
  first_take inputs part =
      take-all (first_args all) (λ s. are (result_kinds s) (kinds_of (output_kinds (node id Gamma inputs all)))) all (node-here l args before (node id Gamma inputs all) after results part).regions

  gamma_takes : (inputs : List Origin) → IsPart Gamma inputs → AllTake (length (args_of r)) (joined_regions done (region_then r rest))
  gamma_takes inputs part = subst (λ k. AllTake k all) (takes_of (length (first_args all)) done r rest (first_take inputs part)) (first_take inputs part)

  gamma_many : (p : Origin) (entries : List Origin) → IsPart Gamma (p ∷ entries) → length entries ≡ length (args_of r)
  gamma_many p entries part =
      let here = node-here l args before (node id Gamma (p ∷ entries) all) after results part in
      omega (arith, as-many (known args before) (p ∷ entries) (Value ∷ first_args all) here.inputs, takes_of (length (first_args all)) done r rest (first_take (p ∷ entries) part))

theta_many : (l : PlainLambda) (args : List Kind) (before : NodeTrees) (id : ℕ) (inputs : List Origin) (r : RegionTree) (after : NodeTrees) (results : List Origin) →
    IsPartOf l (region args (joined_nodes before (node_then (node id Theta inputs (region_then r no_regions)) after)) results) → length inputs ≡ length (args_of r)
theta_many l args before id inputs r after results part =
    as-many (known args before) inputs (args_of r) (node-here l args before (node id Theta inputs (region_then r no_regions)) after results part).inputs

theta_turns : (l : PlainLambda) (args : List Kind) (before : NodeTrees) (id : ℕ) (inputs : List Origin) (r : RegionTree) (after : NodeTrees) (results : List Origin) →
    IsPartOf l (region args (joined_nodes before (node_then (node id Theta inputs (region_then r no_regions)) after)) results) → length (results_of r) ≡ suc (length (args_of r))
theta_turns l args before id inputs (region own nodes outs) after results part =
    as-many (known own nodes) outs (Value ∷ own)
    (and_parts (are (result_kinds (region own nodes outs)) (Value ∷ own)) true
    (node-here l args before (node id Theta inputs (region_then (region own nodes outs) no_regions)) after results part).regions).0

-- ---- the exit of a node, and where its arguments come from

pub outer_regions : (id : ℕ) (op : Op) (ins : List Origin) (rs ss : RegionTrees) → outer (node id op ins rs) ≡ outer (node id op ins ss)
outer_regions id Gamma [] rs ss = refl
outer_regions id Gamma (p ∷ entries) rs ss = refl
outer_regions id op ins rs ss = refl

outer_added : (id : ℕ) (op : Op) (ins more : List Origin) (rs : RegionTrees) → is_open (exit_of (node id op ins rs)) ≡ true →
    outer (node id op (ins ++ more) no_regions) ≡ outer (node id op ins no_regions) ++ more
outer_added id Gamma [] more rs e = absurd cc
outer_added id Gamma (p ∷ entries) more rs e = refl
outer_added id op ins more rs e = refl

many_at : (l : PlainLambda) (args : List Kind) (before : NodeTrees) (id : ℕ) (op : Op) (ins more : List Origin) (done : RegionTrees) (r : RegionTree) (rest : RegionTrees) (grow : RegionTrees → RegionTrees) →
    grow no_regions ≡ no_regions →
    (after : NodeTrees) (results : List Origin) → IsPartOf l (region args (joined_nodes before (node_then (node id op (ins ++ more) (joined_regions (grow done) (region_then r (grow rest)))) after)) results) →
    is_open (exit_of (node id op ins (joined_regions done (region_then r rest)))) ≡ true → length (outer (node id op ins no_regions) ++ more) ≡ length (args_of r)
many_at l args before id Gamma [] more done r rest grow none after results part e = absurd cc
many_at l args before id Gamma (p ∷ entries) more done r rest grow none after results part e = gamma_many l args before id (grow done) r (grow rest) after results p (entries ++ more) part
many_at l args before id Theta ins more no_regions r no_regions grow none after results part e =
    theta_many l args before id (ins ++ more) r after results
    (subst (λ ss. IsPartOf l (region args (joined_nodes before (node_then (node id Theta (ins ++ more) (joined_regions ss (region_then r ss))) after)) results)) none part)
many_at l args before id Theta ins more no_regions r (region_then s rest) grow none after results part e = absurd cc
many_at l args before id Theta ins more (region_then d no_regions) r rest grow none after results part e = absurd cc
many_at l args before id Theta ins more (region_then d (region_then q done)) r rest grow none after results part e = absurd cc
many_at l args before id op ins more done r rest grow none after results part e = absurd cc

turns_at : (l : PlainLambda) (args : List Kind) (before : NodeTrees) (id : ℕ) (op : Op) (ins more : List Origin) (done : RegionTrees) (r : RegionTree) (rest : RegionTrees) (grow : RegionTrees → RegionTrees) →
    grow no_regions ≡ no_regions →
    (after : NodeTrees) (results : List Origin) → IsPartOf l (region args (joined_nodes before (node_then (node id op (ins ++ more) (joined_regions (grow done) (region_then r (grow rest)))) after)) results) →
    is_loop (exit_of (node id op ins (joined_regions done (region_then r rest)))) ≡ true → length (results_of r) ≡ suc (length (args_of r))
turns_at l args before id Gamma [] more done r rest grow none after results part e = absurd cc
turns_at l args before id Gamma (p ∷ entries) more done r rest grow none after results part e = absurd cc
turns_at l args before id Theta ins more no_regions r no_regions grow none after results part e =
    theta_turns l args before id (ins ++ more) r after results
    (subst (λ ss. IsPartOf l (region args (joined_nodes before (node_then (node id Theta (ins ++ more) (joined_regions ss (region_then r ss))) after)) results)) none part)
turns_at l args before id Theta ins more no_regions r (region_then s rest) grow none after results part e = absurd cc
turns_at l args before id Theta ins more (region_then d no_regions) r rest grow none after results part e = absurd cc
turns_at l args before id Theta ins more (region_then d (region_then q done)) r rest grow none after results part e = absurd cc
turns_at l args before id op ins more done r rest grow none after results part e = absurd cc

-- ---- the room of a region of a node

module _ (context : RegionTree → RegionTree) (surrounds : IsAround context) (args : List Kind) (before : NodeTrees) (id : ℕ) (op : Op) (ins : List Origin) (done rest : RegionTrees)
    (after : NodeTrees) (results : List Origin) (exit : Exit) (is_exit : (r : RegionTree) → exit_of (node id op ins (joined_regions done (region_then r rest))) ≡ exit) where
  abbrev given : List Origin
  given = outer (node id op ins no_regions)

  -- the node that is left, and the nodes before it
  abbrev inner_now : List NodeTree → RegionTree → NodeTree
  inner_now left r =
      node id op (ins ++ outputs_of_left left) (joined_regions (all_grown (is_loop exit) (length left) done) (region_then r (all_grown (is_loop exit) (length left) rest)))

  abbrev earlier_now : List NodeTree → NodeTrees
  earlier_now left = joined_nodes before (nodes_of left)

  abbrev outside_now : List NodeTree → RegionTree → RegionTree
  outside_now left r = region args (joined_nodes (earlier_now left) (node_then (inner_now left r) after)) results

  abbrev pub room : List NodeTree → RegionTree → RegionTree
  room left r = context (region args (joined_nodes (joined_nodes before (nodes_of left)) (node_then (inner_now left r) after)) results)

  room_around : (left : List NodeTree) → IsAround (room left)
  room_around left =
      inner_around context surrounds args (earlier_now left) id op (ins ++ outputs_of_left left) (all_grown (is_loop exit) (length left) done) (all_grown (is_loop exit) (length left) rest) after results

  part_outside : (l : PlainLambda) → IsWellFormed l → (left : List NodeTree) (r : RegionTree) → l.body ≡ room left r → IsPartOf l (outside_now left r)
  part_outside l well left r at = surrounds.is.part l (outside_now left r) (subst (IsPartOf l) at (whole_part l well))

  many_now : (l : PlainLambda) → IsWellFormed l → (left : List NodeTree) (r : RegionTree) → l.body ≡ room left r → is_open exit ≡ true → length (given ++ outputs_of_left left) ≡ length (args_of r)
  many_now l well left r at opens =
      many_at l args (earlier_now left) id op ins (outputs_of_left left) done r rest (all_grown (is_loop exit) (length left)) refl after results (part_outside l well left r at)
      (ap is_open (is_exit r) ∙ opens)

  turns_now : (l : PlainLambda) → IsWellFormed l → (left : List NodeTree) (r : RegionTree) → l.body ≡ room left r → is_loop exit ≡ true → length (results_of r) ≡ suc (length (args_of r))
  turns_now l well left r at loops =
      turns_at l args (earlier_now left) id op ins (outputs_of_left left) done r rest (all_grown (is_loop exit) (length left)) refl after results (part_outside l well left r at)
      (ap is_loop (is_exit r) ∙ loops)

  module _ (l : PlainLambda) (well : IsWellFormed l) (left : List NodeTree) (empty : is_open exit ≡ false → left ≡ []) (own : List Kind) (first : NodeTrees) (y : NodeTree) (last : NodeTrees)
      (outs : List Origin) (at : l.body ≡ room left (region own (joined_nodes first (node_then y last)) outs)) where
    abbrev n : ℕ
    n = id_of y

    abbrev v : ℕ
    v = lambda_values l

    abbrev r : RegionTree
    r = region own (joined_nodes first (node_then y last)) outs

    abbrev rs : RegionTrees
    rs = joined_regions (all_grown (is_loop exit) (length left) done) (region_then r (all_grown (is_loop exit) (length left) rest))

    abbrev f : RegionTree → Option RegionTree
    f = push_here v n

    part : IsPartOf l (outside_now left r)
    part = part_outside l well left r at

    part_own : IsPartOf l r
    part_own = (room_around left).is.part l r (subst (IsPartOf l) at (whole_part l well))

    in_r : IsAmong n (nodes_ids (joined_nodes first (node_then y last)))
    in_r = in_own l (room left) (room_around left).is well own first y last outs at

    apart : IsApart n (earlier_now left) id (all_grown (is_loop exit) (length left) done) (all_grown (is_loop exit) (length left) rest) after
    apart =
        apart_here n (earlier_now left) id op (ins ++ outputs_of_left left) (all_grown (is_loop exit) (length left) done) r (all_grown (is_loop exit) (length left) rest) after part.unique in_r

    here : IsHere own first y last outs op (all_grown (is_loop exit) (length left) done) (all_grown (is_loop exit) (length left) rest)
    here = record {
      closed = regions-closed l args (earlier_now left) id op (ins ++ outputs_of_left left) rs after results part;
      unique = part_own.unique;
      absent = not_before l (room left) own first y last outs (room_around left).is well at;
      earlier = apart.earlier;
      later = apart.later;
      takes = λ e.
          gamma_takes l args (earlier_now left) id (all_grown (is_loop exit) (length left) done) r (all_grown (is_loop exit) (length left) rest) after results (ins ++ outputs_of_left left)
          (subst (λ o. IsPartOf l (region args (joined_nodes (earlier_now left) (node_then (node id o (ins ++ outputs_of_left left) rs) after)) results)) e part);
    }

    -- what comes in the place of the node
    pushed_now : pushed_within v n (inner_now left r) ≡ (if leaves_now v exit r y then Some (two own first y last outs id op ins left done rest (is_loop exit)) else None)
    pushed_now =
        subst
        (λ e. (is_open e ≡ false → left ≡ []) → IsHere own first y last outs op (all_grown (is_loop e) (length left) done) (all_grown (is_loop e) (length left) rest) →
        pushed_within v n (node id op (ins ++ outputs_of_left left) (joined_regions (all_grown (is_loop e) (length left) done) (region_then r (all_grown (is_loop e) (length left) rest))))
        ≡ (if leaves_now v e r y then Some (two own first y last outs id op ins left done rest (is_loop e)) else None))
        (is_exit r) (pushed_at own first y last outs v id op ins left done rest) empty here

    -- the lambda is changed there, or not at all
    outside_changed : (o : Option NodeTrees) → pushed_within v n (inner_now left r) ≡ o →
        region_changed f (outside_now left r) ≡ option_map (λ part. region args (joined_nodes (earlier_now left) (joined_nodes part after)) results) o
    outside_changed o e =
        ap₂ (λ a b. option_or (option_map (λ ns. region args ns results) a) (option_map (λ ns. region args ns results) b))
        (nodes_pushed_at v n (earlier_now left) (inner_now left r) after (nodes_lack n (earlier_now left) apart.before_it) (nodes_lack n after apart.after_it)
        ∙ ap (option_map (λ part. joined_nodes (earlier_now left) (joined_nodes part after))) e)
        (nodes_inside context surrounds args (earlier_now left) id op (ins ++ outputs_of_left left) (all_grown (is_loop exit) (length left) done) (all_grown (is_loop exit) (length left) rest) after
        results n f r (push_around v n) apart
        ∙ ap (option_map (λ s. joined_nodes (earlier_now left) (node_then (inner_now left s) after))) (own_unchanged l (room left) (room_around left).is well own first y last outs at v))
        ∙ by o
      where
        by : (o : Option NodeTrees) → option_or (option_map (λ ns. region args ns results) (option_map (λ part. joined_nodes (earlier_now left) (joined_nodes part after)) o)) None
            ≡ option_map (λ part. region args (joined_nodes (earlier_now left) (joined_nodes part after)) results) o
        by None = refl
        by (Some new) = refl

    body_changed : (o : Option NodeTrees) → pushed_within v n (inner_now left r) ≡ o →
        region_changed f l.body ≡ option_map (λ part. context (region args (joined_nodes (earlier_now left) (joined_nodes part after)) results)) o
    body_changed o e =
        ap (region_changed f) at
        ∙ surrounds.inside n f (outside_now left r) (push_around v n)
        (own_lack context surrounds args (earlier_now left) id op (ins ++ outputs_of_left left) (all_grown (is_loop exit) (length left) done) (all_grown (is_loop exit) (length left) rest) after results
        n f r (push_around v n) apart)
        (in_outer n (earlier_now left) id op (ins ++ outputs_of_left left) (all_grown (is_loop exit) (length left) done) r (all_grown (is_loop exit) (length left) rest) after in_r)
        (subst (λ b. distinct (region_ids b) ≡ true) at (whole_part l well).unique)
        ∙ ap (option_map context) (outside_changed o e)
        ∙ map_twice (λ part. region args (joined_nodes (earlier_now left) (joined_nodes part after)) results) context o

    not_left : leaves_now v exit r y ≡ false → applies l n ≡ false
    not_left e =
        ap is_some (body_changed None (pushed_now ∙ ap (λ t. if t then Some (two own first y last outs id op ins left done rest (is_loop exit)) else None) e))

    -- ---- the node leaves

    module _ (goes : leaves_now v exit r y ≡ true) where
      abbrev came : NodeTrees
      came = two own first y last outs id op ins left done rest (is_loop exit)

      abbrev outside_then : RegionTree
      outside_then = region args (joined_nodes (earlier_now left) (joined_nodes came after)) results

      changed_then : region_changed f l.body ≡ Some (context outside_then)
      changed_then = body_changed (Some came) (pushed_now ∙ ap (λ t. if t then Some came else None) goes)

      opens : is_open exit ≡ true
      opens = by (is_open exit) refl goes
        where
          by : (t : Bool) → is_open exit ≡ t → leaves_now v exit r y ≡ true → is_open exit ≡ true
          by true e g = e
          by false e g = absurd (let z : false ≡ true = sym (ap (λ t. t && may_change_size v (growth_of exit) 0 && nat_lt (length own) (2 ^ 32) && may_leave (test_of exit outs) r y) e) ∙ g in cc)

      abbrev moved : NodeTree
      moved = node_redirected (args_to_inputs (given ++ outputs_of_left left)) y

      abbrev left' : List NodeTree
      left' = left ++ moved ∷ []

      abbrev r' : RegionTree
      r' = without own first y last outs (is_loop exit)

      same_number_moved : (z : NodeTree) → id_of (node_redirected (args_to_inputs (given ++ outputs_of_left left)) z) ≡ id_of z
      same_number_moved (node m o is ss) = refl

      inputs_then : (ins ++ outputs_of_left left) ++ Out n 0 ∷ [] ≡ ins ++ outputs_of_left left'
      inputs_then =
          append_assoc ins (outputs_of_left left) (Out n 0 ∷ [])
          ∙ ap (λ os. ins ++ os) (ap (λ m. outputs_of_left left ++ Out m 0 ∷ []) (sym (same_number_moved y)) ∙ sym (map-append (λ z. Out (id_of z) 0) left (moved ∷ [])))

      one_more : suc (length left) ≡ length left'
      one_more = omega (arith, length-append left (moved ∷ []))

      inner_then : node id op ((ins ++ outputs_of_left left) ++ Out n 0 ∷ [])
          (joined_regions (all_grown (is_loop exit) (suc (length left)) done) (region_then r' (all_grown (is_loop exit) (suc (length left)) rest))) ≡ inner_now left' r'
      inner_then = λ i. node id op (inputs_then i) (joined_regions (all_grown (is_loop exit) (one_more i) done) (region_then r' (all_grown (is_loop exit) (one_more i) rest)))

      nodes_then : joined_nodes (earlier_now left) (joined_nodes came after) ≡ joined_nodes (earlier_now left') (node_then (inner_now left' r') after)
      nodes_then =
          (λ i. joined_nodes (earlier_now left)
          (node_then (node_redirected (args_to_inputs (outer_added id op ins (outputs_of_left left) (joined_regions done (region_then r rest)) (ap is_open (is_exit r) ∙ opens) i)) y) (node_then (inner_then i) after)))
          ∙ sym (joined_assoc (earlier_now left) (node_then moved no_nodes) (node_then (inner_now left' r') after))
          ∙ ap (λ ns. joined_nodes ns (node_then (inner_now left' r') after))
          (joined_assoc before (nodes_of left) (node_then moved no_nodes) ∙ ap (joined_nodes before) (sym (nodes_of_append left (moved ∷ []))))

      room_then : context outside_then ≡ room left' r'
      room_then = ap (λ ns. context (region args ns results)) nodes_then

      values_come : nodes_values came ≡ node_values (inner_now left r) + growth_of exit
      values_come =
          subst
          (λ e. leaves_now v e r y ≡ true → nodes_values (two own first y last outs id op ins left done rest (is_loop e))
          ≡ node_values (node id op (ins ++ outputs_of_left left) (joined_regions (all_grown (is_loop e) (length left) done) (region_then r (all_grown (is_loop e) (length left) rest)))) + growth_of e)
          (is_exit r) (values_at own first y last outs v id op ins left done rest) goes

      values_then : region_values (context outside_then) ≡ lambda_values l + growth_of exit
      values_then =
          omega (
            arith,
            ap region_values at,
            surrounds.is.values (outside_now left r) outside_then (record { args = refl; results = refl }),
            nodes_values-joined (earlier_now left) (node_then (inner_now left r) after),
            nodes_values-joined (earlier_now left) (joined_nodes came after),
            nodes_values-joined came after,
            values_come,
          )

      has_left : HasLeft exit given room l left own first y last outs
      has_left = record {
        applied = ap is_some changed_then;
        changed = ap (λ o. record l { body = unwrap_or o l.body }) changed_then ∙ ap (λ b. record l { body = b }) room_then;
        values = ap (λ o. region_values (unwrap_or o l.body)) changed_then ∙ values_then;
      }

  pub inner_room : IsRoom exit (outer (node id op ins no_regions)) room
  inner_room = record { around = room_around; many = many_now; turns = turns_now; leaves = has_left; stays = not_left }
