-- The walk at one node: what is written for it, and for the nodes in it, is what the sweep makes of them.
use Rattle.std.specs.Prelude.{◌||◌}
use Rattle.std.proofs.Common.{◌≡◌, ◌≢◌, ℕ, zero, suc, ◌+◌, ◌^◌, nat_lt, ◌==◌, ◌&&◌, Bool, true, false, cond, if◌then◌else◌, List, [], ◌∷◌, ◌++◌, map, length, slice_get, unwrap_or, refl, sym, ap, ap₂, subst, ◌∙◌, inl, arith}
use Rattle.std.proofs.lemmas.Bool.Decides.{nat_tests}
use Rattle.std.proofs.lemmas.List.{append_assoc, append-nil, map-append, length-append}
use Rattle.g_graph.specs.declared.op.Kind.{Kind}
use Rattle.g_graph.specs.declared.op.Op.{Op}
use Rattle.g_graph.specs.declared.op.Origin.{Origin}
use Rattle.g_graph.specs.declared.op.Origin.TheVariants.{Arg, Out}
use Rattle.g_graph.specs.Ids.{node_ids, nodes_ids, regions_ids}
use Rattle.g_graph.specs.Nodes.{is_used}
use Rattle.g_graph.specs.Plain.{RegionTree, region, NodeTree, node, NodeTrees, no_nodes, node_then, RegionTrees, no_regions, region_then, id_of, nodes_of, has_none, PlainLambda}
use Rattle.g_graph.specs.Program.{lambda_values}
use Rattle.g_graph.specs.Replace.{node_redirected, nodes_redirected, origin_replaced}
use Rattle.g_graph.specs.Signatures.{is_pure}
use Rattle.g_graph.specs.Splice.{args_to_inputs, joined_nodes}
use Rattle.g_graph.specs.WellFormed.{all_of, IsWellFormed, distinct}
use Rattle.g_graph.proofs.lemmas.Redirects.{nodes_ids-redirected}
use Rattle.g_graph.proofs.lemmas.Splices.{joined_assoc, joined_none, nodes_ids-joined}
use Rattle.g_mean.specs.Copies.{IsAmong, known_after, is_argument}
use Rattle.g_mean.specs.Edits.{IsPartOf}
use Rattle.g_mean.proofs.lemmas.Copies.{among-right, test-other}
use Rattle.g_mean.proofs.lemmas.Holds.{distinct-apart}
use Rattle.g_mean.proofs.lemmas.Inside.{inputs-read}
use Rattle.g_mean.proofs.lemmas.Splices.{joined-read}
use Rattle.r_edit.specs.Size.{may_change_size}
use Rattle.r_push.specs.Edit.{outer}
use Rattle.r_push.specs.Rule.{lambda_pushed}
use Rattle.r_push.proofs.Stays.{known-own}
use Rattle.r_push.specs.WalkLaws.{push_change}
use Rattle.r_push.specs.Walk.{Exit, exit_of, is_open, is_loop, growth_of, Walking, Cursor, WrittenNodes, WrittenRegions, goes_along, leaves, gone, grown_by_one, grown, all_grown, outputs_of_left, widened_by, stayed, entered, after, walk_regions, walk_node}
use Rattle.r_push.proofs.Around.{IsAround}
use Rattle.r_push.proofs.Grown.{grown_args, grown_results, grown_is, grown_mapped, none_grown, grown_args_many, grown_results_many}
use Rattle.r_push.proofs.Inner.{outer_regions}
use Rattle.r_push.proofs.Pushed.{leaves_now, without, test_of}
use Rattle.r_push.proofs.Rooms.{HasLeft, IsRoom}
use Rattle.r_push.proofs.Tested.{all_along, used_is}
use Rattle.r_sweep_def.specs.Swept.{Logged, swept_by}
use Rattle.r_walk.specs.Context.{joined_regions}
use Rattle.r_walk.specs.Walk.{Moved, output_now, origin_now, inputs_of_nodes, is_in}
use Rattle.r_walk.proofs.lemmas.Contexts.{whole_part}
use Rattle.r_walk.proofs.lemmas.Local.{not_in_before, not_in_after}
use Rattle.r_walk.proofs.lemmas.Moves.{IsAhead, ahead_less, argument_now, both_moves, origins_twice, nodes_twice, inputs-redirected}
use Rattle.r_walk.proofs.lemmas.Uses.{in_append, in_moved, not_read, nodes_not_read}
use Rattle.r_rule.specs.declared.steps.Rule.TheVariants.{Push}

abbrev pub logged : PlainLambda → Walking → Logged
logged l w = record { lambda = l; steps = w.steps }

abbrev pub swept : List ℕ → Logged → Logged
swept ns s = swept_by push_change ns s

-- ---- one output that became an argument

abbrev one_moved : (n a : ℕ) → List Moved
one_moved n a = record { node = n; outputs = Arg a ∷ [] } ∷ []

replaced_is : (n a : ℕ) (o : Origin) → origin_replaced (Out n 0) (Arg a) o ≡ origin_now (one_moved n a) [] o
replaced_is n a (Arg k) = sym (argument_now (one_moved n a) k)
replaced_is n a (Out m p) = by (n == m) refl p
  where
    by : (t : Bool) → (n == m) ≡ t → (p : ℕ) → cond ((n == m) && (0 == p)) (Arg a) (Out m p) ≡ cond (m == n) (unwrap_or (slice_get (Arg a ∷ []) p) (Out m p)) (Out m p)
    by t e zero =
        let same : (m == n) ≡ (n == m) = grind (arith, nat_tests) in
        ap (λ s. cond s (Arg a) (Out m 0)) (and_true (n == m) ∙ sym same)
      where
        and_true : (s : Bool) → (s && true) ≡ s
        and_true true = refl
        and_true false = refl
    by t e (suc p) =
        let other : (0 == suc p) ≡ false = grind (arith, nat_tests) in
        ap (λ s. cond ((n == m) && s) (Arg a) (Out m (suc p))) other ∙ both (n == m) (m == n)
      where
        both : (s u : Bool) → cond (s && false) (Arg a) (Out m (suc p)) ≡ cond u (Out m (suc p)) (Out m (suc p))
        both true true = refl
        both true false = refl
        both false true = refl
        both false false = refl

-- it is no other output now, and another one is as it was
one_apart : (i a : ℕ) (o : Origin) (n p : ℕ) → origin_now (one_moved i a) [] o ≡ Out n p → o ≡ Out n p
one_apart i a (Arg k) n p e = absurd (let z : Arg k ≡ Out n p = sym (argument_now (one_moved i a) k) ∙ e in cc)
one_apart i a (Out m q) n p e = by (m == i) q e
  where
    by : (t : Bool) (q : ℕ) → cond t (unwrap_or (slice_get (Arg a ∷ []) q) (Out m q)) (Out m q) ≡ Out n p → Out m q ≡ Out n p
    by true zero d = absurd cc
    by true (suc q) d = d
    by false q d = d

one_other : (i a n p : ℕ) → n ≢ i → origin_now (one_moved i a) [] (Out n p) ≡ Out n p
one_other i a n p h = ap (λ t. cond t (unwrap_or (slice_get (Arg a ∷ []) p) (Out n p)) (Out n p)) (test-other n i h)

-- ---- the place of the walk

-- the region in which this is written
abbrev pub region_with : (loops : Bool) → (left : List NodeTree) → (args : List Kind) → (before here : NodeTrees) → (results : List Origin) → List Moved → RegionTree
region_with loops left args before here results moved = grown loops (length left) (region args (joined_nodes before here) (map (origin_now moved []) results))

-- what the walk has of the lambda
pub record IsState (given : List Origin) (exit : Exit) (w : Walking) (l : PlainLambda) : Type 0 where
  pub well : IsWellFormed l
  pub values : w.values ≡ lambda_values l
  pub inputs : w.inputs ≡ given ++ outputs_of_left w.left
  pub empty : is_open exit ≡ false → w.left ≡ []

abbrev pub Room : Type 0
Room = List NodeTree → RegionTree → RegionTree

-- A lambda in a region of which these nodes are still to be walked. Their outputs have the uses that they have now.
pub record IsAt (given : List Origin) (room : Room) (args : List Kind) (before : NodeTrees) (k : Cursor) (ids : List ℕ) (here : NodeTrees) (w : Walking) (l : PlainLambda) : Type 0 where
  pub state : IsState given k.exit w l
  pub body : l.body ≡ room w.left (region_with (is_loop k.exit) w.left args before here k.results k.moved)
  pub uses : (n : ℕ) → IsAmong n ids → is_in k.uses (Out n 0) ≡ is_in (inputs_of_nodes here ++ map (origin_now k.moved []) k.results) (Out n 0)
  pub ahead : IsAhead k.moved [] ids
  pub numbers : nodes_ids here ≡ ids

-- the lambda where these nodes are written, and those after them are still to be walked
abbrev pub lambda_with : (room : Room) → (args : List Kind) → (before : NodeTrees) → Cursor → (rest : NodeTrees) → WrittenNodes → PlainLambda → PlainLambda
lambda_with room args before k rest t l =
    record l { body = room t.now.left (region_with (is_loop k.exit) t.now.left args (joined_nodes before t.nodes) (nodes_redirected (origin_now t.moved []) rest) k.results t.moved) }

-- from one lambda to another by a sweep of these numbers
pub record Reaches (given : List Origin) (exit : Exit) (ids : List ℕ) (l : PlainLambda) (w : Walking) (l' : PlainLambda) (w' : Walking) : Type 0 where
  pub swept_so : swept ids (logged l w) ≡ logged l' w'
  pub state : IsState given exit w' l'

-- the body where nodes left a node, which has these regions
abbrev pub node_in : (context : RegionTree → RegionTree) → (args : List Kind) → (before : NodeTrees) → (id : ℕ) → Op → (ins : List Origin) → (after : NodeTrees) → (results : List Origin) →
    (loops : Bool) → (left : List NodeTree) → RegionTrees → RegionTree
node_in context args before id op ins after results loops left rs =
    context (region args (joined_nodes (joined_nodes before (nodes_of left)) (node_then (node id op (ins ++ outputs_of_left left) (all_grown loops (length left) rs)) after)) results)

abbrev pub RegionsAre : RegionTrees → Type 0
RegionsAre rs =
    (context : RegionTree → RegionTree) → IsAround context → (args : List Kind) (before : NodeTrees) (id : ℕ) (op : Op) (ins : List Origin) (first : RegionTrees) (after : NodeTrees) (results : List Origin)
    (exit : Exit) → exit_of (node id op ins (joined_regions first rs)) ≡ exit → (w : Walking) (l : PlainLambda) → IsState (outer (node id op ins no_regions)) exit w l →
    l.body ≡ node_in context args before id op ins after results (is_loop exit) w.left (joined_regions first rs) →
    Reaches (outer (node id op ins no_regions)) exit (regions_ids rs) l w
    (record l { body = node_in context args before id op ins after results (is_loop exit) (walk_regions rs exit w).now.left (joined_regions first (walk_regions rs exit w).regions) })
    (walk_regions rs exit w).now

-- ---- at a node

module _ (given : List Origin) (room : Room) (k : Cursor) (is : IsRoom k.exit given room) (args : List Kind) (before : NodeTrees) (id : ℕ) (op : Op) (ins : List Origin) (rs : RegionTrees) (xs : NodeTrees)
    (w : Walking) (l : PlainLambda)
    (at : IsAt given room args before k ((id ∷ regions_ids rs) ++ nodes_ids xs)
    (node_then (node id op (map (origin_now k.moved []) ins) rs) (nodes_redirected (origin_now k.moved []) xs)) w l) where
  abbrev x : NodeTree
  x = node id op (map (origin_now k.moved []) ins) rs

  abbrev rest : NodeTrees
  rest = nodes_redirected (origin_now k.moved []) xs

  abbrev own : List Kind
  own = grown_args (length w.left) args

  abbrev results_now : List Origin
  results_now = map (origin_now k.moved []) k.results

  abbrev outs : List Origin
  outs = grown_results (is_loop k.exit) (length w.left) args results_now

  abbrev here : RegionTree
  here = region own (joined_nodes before (node_then x rest)) outs

  body : l.body ≡ room w.left (region own (joined_nodes before (node_then x rest)) outs)
  body = at.body ∙ ap (room w.left) (grown_is (is_loop k.exit) (length w.left) args (joined_nodes before (node_then x rest)) results_now)

  well : IsWellFormed l
  well = at.state.well

  part : IsPartOf l (region own (joined_nodes before (node_then x rest)) outs)
  part = (is.around w.left).is.part l here (subst (IsPartOf l) body (whole_part l well))

  not_earlier : (n : ℕ) → IsAmong n (node_ids x) → IsAmong n (nodes_ids before) → ⊥
  not_earlier n h = not_in_before l (room w.left) own before x rest outs (is.around w.left).is well body n h

  not_later : (n : ℕ) → IsAmong n (node_ids x) → IsAmong n (nodes_ids xs) → ⊥
  not_later n h q =
      not_in_after l (room w.left) own before x rest outs (is.around w.left).is well body n h (subst (IsAmong n) (sym (nodes_ids-redirected (origin_now k.moved []) xs)) q)

  -- a node after it is not one before it
  rest_earlier : (n : ℕ) → IsAmong n (nodes_ids xs) → IsAmong n (nodes_ids before) → ⊥
  rest_earlier n h q =
      distinct-apart (nodes_ids before) (node_ids x ++ nodes_ids rest) (subst (λ ids. distinct ids ≡ true) (nodes_ids-joined before (node_then x rest)) part.unique) n q
      (among-right n (node_ids x) (nodes_ids rest) (subst (IsAmong n) (sym (nodes_ids-redirected (origin_now k.moved []) xs)) h))

  -- nor does the node read what is after it
  unread_later : (n : ℕ) → IsAmong n (nodes_ids xs) → is_in (map (origin_now k.moved []) ins) (Out n 0) ≡ false
  unread_later n h =
      not_read (is_argument (length own)) (known_after [] before) n 0 refl (λ q. rest_earlier n h (known-own before n q)) (map (origin_now k.moved []) ins)
      (inputs-read l own before id op (map (origin_now k.moved []) ins) rs rest outs part)

  uses_rest : (n : ℕ) → IsAmong n (nodes_ids xs) → is_in k.uses (Out n 0) ≡ is_in (inputs_of_nodes rest ++ results_now) (Out n 0)
  uses_rest n h =
      at.uses n (among-right n (id ∷ regions_ids rs) (nodes_ids xs) h)
      ∙ ap (λ os. is_in os (Out n 0)) (append_assoc (map (origin_now k.moved []) ins) (inputs_of_nodes rest) results_now)
      ∙ in_append (map (origin_now k.moved []) ins) (inputs_of_nodes rest ++ results_now) (Out n 0)
      ∙ ap (λ t. t || is_in (inputs_of_nodes rest ++ results_now) (Out n 0)) (unread_later n h)

  -- nothing before it reads it
  unread_earlier : is_in (inputs_of_nodes before) (Out id 0) ≡ false
  unread_earlier =
      nodes_not_read (is_argument (length own)) [] id 0 refl (λ h. h) before (not_earlier id (inl refl))
      (joined-read (is_argument (length own)) [] before (node_then x rest) part.closed.0).0

  -- ---- the test

  abbrev v : ℕ
  v = lambda_values l

  used_here : is_in k.uses (Out id 0) ≡ is_used (Out id 0) here
  used_here = at.uses id (inl refl) ∙ sym (used_is id (is_loop k.exit) (length w.left) args own before (node_then x rest) results_now unread_earlier)

  turns_here : is_loop k.exit ≡ true → length results_now ≡ suc (length args)
  turns_here e =
      omega (
        arith,
        is.turns l well w.left here body e,
        grown_args_many (length w.left) args,
        grown_results_many (length w.left) args results_now,
        ap (λ t. length (grown_results t (length w.left) args results_now)) e,
      )

  many_here : is_open k.exit ≡ true → length w.inputs ≡ length own
  many_here e = ap length at.state.inputs ∙ is.many l well w.left here body e

  grouped : (s d e f g : Bool) → (s && (d && e && f && g)) ≡ (s && d && e && f && g)
  grouped true d e f g = refl
  grouped false d e f g = refl

  leaves_is : leaves k w x ≡ leaves_now v k.exit here x
  leaves_is = by (is_open k.exit) refl
    where
      by : (t : Bool) → is_open k.exit ≡ t → leaves k w x ≡ leaves_now v k.exit here x
      by false e =
          ap (λ t. t && may_change_size w.values (growth_of k.exit) 0 && nat_lt (length w.inputs) (2 ^ 32)
          && is_pure op && has_none rs && all_of (goes_along k (length w.inputs)) (map (origin_now k.moved []) ins) && is_in k.uses (Out id 0)) e
          ∙ sym (ap (λ t. t && may_change_size v (growth_of k.exit) 0 && nat_lt (length own) (2 ^ 32)
          && (is_pure op && has_none rs && all_of (test_of k.exit outs) (map (origin_now k.moved []) ins) && is_used (Out id 0) here)) e)
      by true e =
          (λ i. is_open k.exit && may_change_size (at.state.values i) (growth_of k.exit) 0 && nat_lt (many_here e i) (2 ^ 32)
          && is_pure op && has_none rs && all_of (goes_along k (many_here e i)) (map (origin_now k.moved []) ins) && used_here i)
          ∙ ap (λ t. is_open k.exit && may_change_size v (growth_of k.exit) 0 && nat_lt (length own) (2 ^ 32) && is_pure op && has_none rs && t && is_used (Out id 0) here)
          (all_along k args (length w.left) e turns_here (map (origin_now k.moved []) ins))
          ∙ sym (grouped (is_open k.exit && may_change_size v (growth_of k.exit) 0 && nat_lt (length own) (2 ^ 32)) (is_pure op) (has_none rs)
          (all_of (test_of k.exit outs) (map (origin_now k.moved []) ins)) (is_used (Out id 0) here))

  -- ---- the node leaves

  -- what is to be shown of a node and of those after it
  pub record Ends (t : WrittenNodes) : Type 0 where
    pub swept_so : swept (id ∷ regions_ids rs) (logged l w) ≡ logged (lambda_with room args before k xs t l) t.now
    pub others : IsAt given room args (joined_nodes before t.nodes) (after t k) (nodes_ids xs) (nodes_redirected (origin_now t.moved []) xs) t.now (lambda_with room args before k xs t l)

  first_true : (o a b c d e f : Bool) → (o && a && b && c && d && e && f) ≡ true → o ≡ true
  first_true true a b c d e f g = refl
  first_true false a b c d e f g = absurd cc

  fifth_true : (s d e f : Bool) → (s && d && e && f) ≡ true → d ≡ true
  fifth_true true true e f g = refl
  fifth_true true false e f g = absurd cc
  fifth_true false d e f g = absurd cc

  no_ids : (ss : RegionTrees) → has_none ss ≡ true → regions_ids ss ≡ []
  no_ids no_regions e = refl
  no_ids (region_then r ss) e = absurd cc

  module _ (keeps : (n : ℕ) (l : PlainLambda) → IsWellFormed l → IsWellFormed (lambda_pushed n l)) (goes : leaves k w x ≡ true) where
    abbrev t : WrittenNodes
    t = gone k w x

    abbrev a : ℕ
    a = length w.inputs

    abbrev now : Origin → Origin
    now = origin_now k.moved []

    abbrev later_now : Origin → Origin
    later_now = origin_now (record { node = id; outputs = Arg (length w.inputs) ∷ [] } ∷ k.moved) []

    abbrev one : Origin → Origin
    one = origin_now (one_moved id a) []

    abbrev move : Origin → Origin
    move = origin_replaced (Out id 0) (Arg (length own))

    opens : is_open k.exit ≡ true
    opens =
        first_true (is_open k.exit) (may_change_size w.values (growth_of k.exit) 0) (nat_lt a (2 ^ 32)) (is_pure op) (has_none rs) (all_of (goes_along k a) (map now ins)) (is_in k.uses (Out id 0)) goes

    alone : regions_ids rs ≡ []
    alone =
        no_ids rs
        (fifth_true (is_open k.exit && may_change_size w.values (growth_of k.exit) 0 && nat_lt a (2 ^ 32) && is_pure op) (has_none rs) (all_of (goes_along k a) (map now ins)) (is_in k.uses (Out id 0)) goes)

    left_here : HasLeft k.exit given room l w.left own before x rest outs
    left_here = is.leaves l well w.left at.state.empty own before x rest outs body (sym leaves_is ∙ goes)

    both : (o : Origin) → later_now o ≡ one (now o)
    both = both_moves k.moved (one_moved id a) [] ((id ∷ regions_ids rs) ++ nodes_ids xs) at.ahead (inl refl, tt)

    move_is : (o : Origin) → move o ≡ one o
    move_is o = ap (λ c. origin_replaced (Out id 0) (Arg c) o) (sym (many_here opens)) ∙ replaced_is id a o

    nodes_then : nodes_redirected move rest ≡ nodes_redirected later_now xs
    nodes_then = (λ i. nodes_redirected (λ o. move_is o i) rest) ∙ nodes_twice now one later_now both xs

    results_then : map move outs ≡ grown_results (is_loop k.exit) (length w.left) args (map later_now k.results)
    results_then =
        grown_mapped move (λ c. refl) (is_loop k.exit) (length w.left) args results_now
        ∙ ap (grown_results (is_loop k.exit) (length w.left) args) ((λ i. map (λ o. move_is o i) results_now) ∙ origins_twice now one later_now both k.results)

    abbrev left_then : List NodeTree
    left_then = w.left ++ node_redirected (args_to_inputs w.inputs) x ∷ []

    one_more : suc (length w.left) ≡ length left_then
    one_more = omega (arith, length-append w.left (node_redirected (args_to_inputs w.inputs) x ∷ []))

    region_then_is : without own before x rest outs (is_loop k.exit) ≡ region_with (is_loop k.exit) left_then args (joined_nodes before no_nodes) (nodes_redirected later_now xs) k.results t.moved
    region_then_is =
        (λ i. grown_by_one (is_loop k.exit) (region own (joined_nodes before (nodes_then i)) (results_then i)))
        ∙ ap (grown_by_one (is_loop k.exit))
        (sym (grown_is (is_loop k.exit) (length w.left) args (joined_nodes before (nodes_redirected later_now xs)) (map later_now k.results))
        ∙ ap (λ ns. grown (is_loop k.exit) (length w.left) (region args (joined_nodes ns (nodes_redirected later_now xs)) (map later_now k.results))) (sym (joined_none before)))
        ∙ ap (λ m. grown (is_loop k.exit) m (region args (joined_nodes (joined_nodes before no_nodes) (nodes_redirected later_now xs)) (map later_now k.results))) one_more

    lambda_then : lambda_pushed id l ≡ lambda_with room args before k xs t l
    lambda_then =
        left_here.changed
        ∙ ap₂ (λ os r. record l { body = room (w.left ++ node_redirected (args_to_inputs os) x ∷ []) r }) (sym at.state.inputs) region_then_is

    not_it : (n : ℕ) → IsAmong n (nodes_ids xs) → n ≢ id
    not_it n h e = not_later id (inl refl) (subst (λ z. IsAmong z (nodes_ids xs)) e h)

    inputs_then : map one (inputs_of_nodes rest ++ results_now) ≡ inputs_of_nodes (nodes_redirected later_now xs) ++ map later_now k.results
    inputs_then =
        map-append one (inputs_of_nodes rest) results_now
        ∙ ap₂ (λ os us. os ++ us) (sym (inputs-redirected one rest) ∙ ap inputs_of_nodes (nodes_twice now one later_now both xs)) (origins_twice now one later_now both k.results)

    node_leaves : Ends (gone k w x)
    node_leaves = record {
      swept_so =
          ap (λ b. swept (regions_ids rs) (if b then record { lambda = lambda_pushed id l; steps = t.now.steps } else logged l w)) left_here.applied
          ∙ ap₂ (λ ids z. swept ids (record { lambda = z; steps = t.now.steps })) alone lambda_then;
      others = record {
        state = record {
          well = subst IsWellFormed lambda_then (keeps id l well);
          values = ap (λ m. m + growth_of k.exit) at.state.values ∙ sym left_here.values ∙ ap lambda_values lambda_then;
          inputs = ap (λ os. os ++ Out id 0 ∷ []) at.state.inputs ∙ append_assoc given (outputs_of_left w.left) (Out id 0 ∷ [])
              ∙ ap (λ os. given ++ os) (sym (map-append (λ y. Out (id_of y) 0) w.left (node_redirected (args_to_inputs w.inputs) x ∷ [])));
          empty = λ e. absurd (let z : true ≡ false = sym opens ∙ e in cc);
        };
        body = refl;
        uses = λ n h. uses_rest n h
            ∙ sym (in_moved n 0 one (λ o e. one_apart id a o n 0 e) (one_other id a n 0 (not_it n h)) (inputs_of_nodes rest ++ results_now))
            ∙ ap (λ os. is_in os (Out n 0)) inputs_then;
        ahead = record {
          fresh = λ n p h. ap (λ s. cond s (unwrap_or (slice_get (Arg a ∷ []) p) (Out n p)) (output_now k.moved n p)) (test-other n id (not_it n h))
              ∙ at.ahead.fresh n p (among-right n (id ∷ regions_ids rs) (nodes_ids xs) h);
          apart = λ o n p h e. at.ahead.apart o n p (among-right n (id ∷ regions_ids rs) (nodes_ids xs) h) (one_apart id a (now o) n p (sym (both o) ∙ e));
        };
        numbers = nodes_ids-redirected later_now xs;
      };
    }

  -- ---- the node stays, and its regions are walked

  module _ (walk : RegionsAre rs) (remains : leaves k w x ≡ false) where
    abbrev inner : WrittenRegions
    inner = walk_regions rs (exit_of x) (entered w x)

    abbrev inside : List Origin
    inside = map (origin_now k.moved []) ins

    not_applied : push_change.applies l id ≡ false
    not_applied = is.stays l well w.left at.state.empty own before x rest outs body (sym leaves_is ∙ remains)

    body_first : l.body ≡ node_in (room w.left) own before id op inside rest outs (is_loop (exit_of x)) [] rs
    body_first =
        body
        ∙ (λ i. room w.left (region own (joined_nodes (sym (joined_none before) i) (node_then (node id op (sym (append-nil inside) i) (sym (none_grown (is_loop (exit_of x)) rs) i)) rest)) outs))

    abbrev l_inner : PlainLambda
    l_inner = record l { body = node_in (room w.left) own before id op inside rest outs (is_loop (exit_of x)) inner.now.left inner.regions }

    reached : Reaches (outer (node id op inside no_regions)) (exit_of x) (regions_ids rs) l (entered w x) l_inner inner.now
    reached =
        walk (room w.left) (is.around w.left) own before id op inside no_regions rest outs (exit_of x) refl (entered w x) l
        (record {
          well = well;
          values = at.state.values;
          inputs = outer_regions id op inside rs no_regions ∙ sym (append-nil (outer (node id op inside no_regions)));
          empty = λ e. refl;
        })
        body_first

    abbrev wide : NodeTree
    wide = widened_by inner.now.left x inner.regions

    abbrev here_then : NodeTrees
    here_then = joined_nodes before (joined_nodes (nodes_of inner.now.left) (node_then wide no_nodes))

    nodes_same : joined_nodes (joined_nodes before (nodes_of inner.now.left)) (node_then wide rest) ≡ joined_nodes here_then rest
    nodes_same =
        sym (joined_assoc (joined_nodes before (nodes_of inner.now.left)) (node_then wide no_nodes) rest)
        ∙ ap (λ ns. joined_nodes ns rest) (joined_assoc before (nodes_of inner.now.left) (node_then wide no_nodes))

    lambda_same : l_inner ≡ lambda_with room args before k xs (stayed k w x inner) l
    lambda_same =
        ap (λ ns. record l { body = room w.left (region own ns outs) }) nodes_same
        ∙ ap (λ r. record l { body = room w.left r }) (sym (grown_is (is_loop k.exit) (length w.left) args (joined_nodes here_then rest) results_now))

    node_stays : Ends (stayed k w x inner)
    node_stays = record {
      swept_so =
          ap (λ b. swept (regions_ids rs) (if b then record { lambda = lambda_pushed id l; steps = w.steps ++ record { rule = Push; node = id } ∷ [] } else logged l w)) not_applied
          ∙ reached.swept_so ∙ ap (λ z. logged z inner.now) lambda_same;
      others = record {
        state = record {
          well = subst IsWellFormed lambda_same reached.state.well;
          values = reached.state.values ∙ ap lambda_values lambda_same;
          inputs = at.state.inputs;
          empty = at.state.empty;
        };
        body = refl;
        uses = uses_rest;
        ahead = ahead_less k.moved [] ((id ∷ regions_ids rs) ++ nodes_ids xs) (nodes_ids xs) (λ n h. among-right n (id ∷ regions_ids rs) (nodes_ids xs) h) at.ahead;
        numbers = nodes_ids-redirected (origin_now k.moved []) xs;
      };
    }

  -- ---- by what the walk asks

  pub node_is : ((n : ℕ) (l : PlainLambda) → IsWellFormed l → IsWellFormed (lambda_pushed n l)) → RegionsAre rs → Ends (walk_node (node id op ins rs) k w)
  node_is keeps walk = by (leaves k w x) refl
    where
      by : (b : Bool) → leaves k w x ≡ b → Ends (if b then gone k w x else stayed k w x (walk_regions rs (exit_of x) (entered w x)))
      by true e = node_leaves keeps e
      by false e = node_stays walk e
