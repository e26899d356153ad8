-- The rule at a node: what the sweep then knows, and what it paid.
use Rattle.std.proofs.Common.{◌≡◌, ◌≤◌, ◌+◌, ℕ, ◌==◌, ◌&&◌, nat_lt, Bool, true, false, Option, None, Some, option_map, option_and_then, List, [], ◌∷◌, ◌++◌, map, length, refl, sym, ap, subst, ◌∙◌, arith}
use Rattle.std.specs.Prelude.{if◌then◌else◌, IsSome, is_some}
use Rattle.std.proofs.lemmas.Bool.{ne_eqb}
use Rattle.std.proofs.lemmas.Bool.Decides.{nat_tests}
use Rattle.std.proofs.lemmas.Option.{same_Some}
use Rattle.g_graph.specs.declared.op.Kind.TheVariants.{Value}
use Rattle.g_graph.specs.declared.op.Origin.{Origin}
use Rattle.g_graph.specs.declared.op.Origin.TheVariants.{Arg, Out}
use Rattle.r_rule.specs.declared.steps.Step.{Step}
use Rattle.g_graph.specs.Scope.{same_origin}
use Rattle.g_graph.specs.Replace.{origin_replaced}
use Rattle.g_graph.proofs.lemmas.Indexes.{same_number_true}
use Rattle.g_graph.proofs.lemmas.Unique.{equal_back}
use Rattle.g_arena_def.specs.declared.place.Place.{Place}
use Rattle.g_arena_def.specs.Flat.{FlatNode, Flat, is_in}
use Rattle.g_arena_def.specs.Reads.{ids, found, View, view_of, node_before, node_after, kind_in, input_uses, uses_in}
use Rattle.g_arena_def.specs.Edits.{uses_with}
use Rattle.g_arena_use.specs.Kept.{Kept, or_else, kept, kept_or, with_kept}
use Rattle.r_sweep.specs.Removals.{uses_moved}
use Rattle.r_sweep.proofs.lemmas.UsesMove.{uses_are_moved}
use Rattle.r_sweep_def.specs.Listed.{Listed, stepped_in}
use Rattle.r_sweep.specs.Fast.{IsWhole}
use Rattle.r_sweep.specs.Measure.{flat_named}
use Rattle.r_sweep.specs.Walk.{until, passed, left}
use Rattle.r_sweep.proofs.lemmas.Names.{flat_more, fewer_named}
use Rattle.r_sweep.proofs.lemmas.Walks.{Absent, Once, Forward, forward, found_at, parts_are, left_numbers, absent_behind, absent_numbers}
use Rattle.r_sweep.proofs.lemmas.Whole.{Stands, stands, once_whole}
use Rattle.r_cne.specs.Rule.{is_common, other_than}
use Rattle.r_cne.specs.SweepLaws.{cne_change}
use Rattle.r_cne.specs.Listed.{first_in, earlier_in, moved_in, common_in, cne_in}
use Rattle.r_cne.specs.First.{AreFirst, number, numbers_left, cost_left}
use Rattle.r_cne.proofs.Keys.{first_more, first_other, first_is, Earlier, first_found}
use Rattle.r_cne.proofs.Values.{value_there}
use Rattle.r_cne.proofs.After.{first_after, numbers_after}

-- ---- what is told of a node

pub view_is : (n : ℕ) (a : Flat) (x : FlatNode) (v : View) → found n a.nodes ≡ Some x → view_of n a ≡ Some v →
    v ≡ record { op = x.op; inputs = x.inputs; outputs = length x.outputs; regions = length x.regions; home = x.home; before = node_before n a; after = node_after n a }
view_is n a x v e f =
    same_Some v (record { op = x.op; inputs = x.inputs; outputs = length x.outputs; regions = length x.regions; home = x.home; before = node_before n a; after = node_after n a })
    (sym f ∙ ap (option_map (λ (y : FlatNode). record {
      op = y.op;
      inputs = y.inputs;
      outputs = length y.outputs;
      regions = length y.regions;
      home = y.home;
      before = node_before n a;
      after = node_after n a;
    })) e)

found_more : (m : ℕ) (y : FlatNode) (xs ys : List FlatNode) → found m xs ≡ Some y → found m (xs ++ ys) ≡ Some y
found_more m y [] ys e = absurd cc
found_more m y (x ∷ xs) ys e = by (x.id == m) e (λ d. found_more m y xs ys d)
  where
    by : (t : Bool) → (if t then Some x else found m xs) ≡ Some y → (found m xs ≡ Some y → found m (xs ++ ys) ≡ Some y) → (if t then Some x else found m (xs ++ ys)) ≡ Some y
    by true d f = d
    by false d f = f d

once_front : (xs ys : List FlatNode) → Once number (xs ++ ys) → Once number xs
once_front [] ys h = tt
once_front (x ∷ xs) ys h = (absent_front xs h.0, once_front xs ys h.1)
  where
    absent_front : (zs : List FlatNode) → Absent number x.id (zs ++ ys) → Absent number x.id zs
    absent_front [] g = tt
    absent_front (z ∷ zs) g = (g.0, absent_front zs g.1)

module _ (n : ℕ) (a : Flat) (x : FlatNode) (whole : IsWhole a) (e : found n a.nodes ≡ Some x) where
  abbrev next : Option ℕ
  next = node_after n a

  abbrev front : List FlatNode
  front = until number n a.nodes

  abbrev rest : List FlatNode
  rest = left number next a.nodes

  abbrev ms : List ℕ
  ms = numbers_left next a

  here : Stands n x a
  here = stands n x a whole e

  once : Once number a.nodes
  once = once_whole a whole

  pub walk : Forward number n x a.nodes next
  walk = forward number n x a.nodes once (found_at n x a.nodes e)

  split : front ++ (x ∷ rest) ≡ a.nodes
  split = ap (λ ys. front ++ ys) (sym walk.leaves) ∙ parts_are number n a.nodes

  pub numbers_here : numbers_left (Some n) a ≡ n ∷ ms
  numbers_here =
      left_numbers number (Some n) a.nodes ∙ ap (map number) walk.leaves ∙ (λ i. here.number i ∷ sym (left_numbers number next a.nodes) i)

  unread : input_uses x.home (Out n 0) (front ++ x ∷ []) ≡ 0
  unread = here.unread 0

  -- ---- what it costs

  pub cost_here : 3 + cost_left next a ≤ cost_left (Some n) a
  cost_here = omega (arith, flat_more n 0 ms (Arg 0) tt a, ap length numbers_here, ap (λ ns. flat_named ns a) numbers_here)

  -- ---- a node that cannot be common

  pub first_passed : (ks : List Kept) → is_common x.op ≡ false → AreFirst ks front → AreFirst ks (passed number next a.nodes)
  first_passed ks c first = subst (AreFirst ks) (sym walk.passes) (first_other x front ks c first)

  -- ---- a node that can

  module _ (ks : List Kept) (common : is_common x.op ≡ true) (first : AreFirst ks front) where
    abbrev m : ℕ
    m = kept_or x.home x.op x.inputs n ks

    abbrev ks_now : List Kept
    ks_now = with_kept x.home x.op x.inputs n ks

    pub first_kept : AreFirst ks_now (passed number next a.nodes)
    first_kept = subst (AreFirst ks_now) (sym walk.passes) (first_more n x front ks here.number common first)

    first_there_is : first_in x.home x.op x.inputs a.nodes ≡ Some m
    first_there_is = ap (first_in x.home x.op x.inputs) (sym split) ∙ first_is n x front rest ks here.number common first

    earlier_is : earlier_in a x ≡ (if m == n then None else Some m)
    earlier_is =
        (λ i. if common i then other_than x.id (first_there_is i) else None) ∙ ap (λ k. if m == k then None else Some m) here.number

    step_is : cne_in n a ≡ option_and_then (moved_in a x) (if m == n then None else Some m)
    step_is = ap (option_and_then (common_in a)) e ∙ ap (option_and_then (moved_in a x)) earlier_is

    -- the first itself
    pub first_step : (m == n) ≡ true → cne_in n a ≡ None
    first_step t = step_is ∙ ap (λ u. option_and_then (moved_in a x) (if u then None else Some m)) t

    -- another one
    module _ (other : (m == n) ≡ false) where
      abbrev from : Origin
      from = Out n 0

      abbrev to : Origin
      to = Out m 0

      abbrev uses : ℕ
      uses = uses_in x.home from a

      abbrev moved : Option Flat
      moved = if nat_lt 0 uses then Some (uses_moved x.home from to a) else None

      pub other_step : cne_in n a ≡ moved
      other_step =
          step_is ∙ ap (λ u. option_and_then (moved_in a x) (if u then None else Some m)) other
          ∙ ap (λ k. if nat_lt 0 (uses_in x.home (Out k 0) a) then Some (uses_moved x.home (Out k 0) to a) else None) here.number

      pub other_origin : same_origin from to ≡ false
      other_origin = ap (λ t. t && (0 == 0)) (equal_back n m ∙ other)

      -- the node that is first stands before
      first_front : first_in x.home x.op x.inputs front ≡ Some m
      first_front = sym (first x.home x.op x.inputs common) ∙ by (kept x.home x.op x.inputs ks) refl
        where
          by : (o : Option ℕ) → kept x.home x.op x.inputs ks ≡ o → o ≡ Some m
          by None q = absurd (let same : m ≡ n = ap (λ o. or_else o n) q in grind (arith, nat_tests, same, other))
          by (Some k) q = ap Some (sym (ap (λ o. or_else o n) q))

      earlier : Earlier x.home x.op m front
      earlier = first_found x.home x.op x.inputs m front (once_front front (x ∷ rest) (subst (Once number) (sym split) once)) first_front

      earlier_there : found m a.nodes ≡ Some earlier.node
      earlier_there = ap (found m) (sym split) ∙ found_more m earlier.node front (x ∷ rest) earlier.there

      value_own : kind_in x.home from a ≡ Some Value
      value_own = value_there a whole x.home n x e refl common

      value_first : kind_in x.home to a ≡ Some Value
      value_first = value_there a whole x.home m earlier.node earlier_there earlier.home (ap is_common (sym earlier.of) ∙ common)

      pub same_kinds : kind_in x.home from a ≡ kind_in x.home to a
      same_kinds = value_own ∙ sym value_first

      pub own_there : IsSome (kind_in x.home from a)
      own_there = ap is_some value_own

      pub first_origin : IsSome (kind_in x.home to a)
      first_origin = ap is_some value_first

      -- it is passed
      none_named : is_in ms (Some m) ≡ false
      none_named =
          let at = found_at m earlier.node front earlier.there in
          let absent = absent_behind number m earlier.node front (x ∷ rest) (subst (Once number) (sym split) once) at in
          ap (λ ns. is_in ns (Some m)) (left_numbers number next a.nodes) ∙ absent_numbers number m rest absent.1

      abbrev b : Flat
      b = uses_with x.home (origin_replaced from to) a

      moved_is : uses_moved x.home from to a ≡ b
      moved_is = uses_are_moved x.home from to other_origin a here.region here.there

      -- the list and the steps after it
      abbrev after : List Step → Listed
      after steps = stepped_in cne_change n (record { nodes = a; steps = steps }) moved

      pub first_moved : (steps : List Step) → AreFirst ks_now (passed number next (after steps).nodes.nodes)
      first_moved steps = by (nat_lt 0 uses)
        where
          by : (t : Bool) → AreFirst ks_now (passed number next (stepped_in cne_change n (record { nodes = a; steps = steps }) (if t then Some (uses_moved x.home from to a) else None)).nodes.nodes)
          by true =
              subst (λ (c : Flat). AreFirst ks_now (passed number next c.nodes)) (sym moved_is)
              (first_after x.home from to a ks_now (front ++ x ∷ []) next walk.passes unread (first_more n x front ks here.number common first))
          by false = first_kept

      pub numbers_are : (steps : List Step) → ids (after steps).nodes ≡ ids a
      numbers_are steps = by (nat_lt 0 uses)
        where
          by : (t : Bool) → ids (stepped_in cne_change n (record { nodes = a; steps = steps }) (if t then Some (uses_moved x.home from to a) else None)).nodes ≡ ids a
          by true = ap ids moved_is ∙ numbers_after x.home from to a
          by false = refl

      numbers_moved : numbers_left next b ≡ ms
      numbers_moved = ap (left (λ k. k) next) (numbers_after x.home from to a)

      pub cost_moved : (steps : List Step) → 3 + uses + cost_left next (after steps).nodes ≤ cost_left (Some n) a
      cost_moved steps = by (nat_lt 0 uses) refl
        where
          by : (t : Bool) → nat_lt 0 uses ≡ t →
              3 + uses + cost_left next (stepped_in cne_change n (record { nodes = a; steps = steps }) (if t then Some (uses_moved x.home from to a) else None)).nodes ≤ cost_left (Some n) a
          by true q =
              subst (λ (c : Flat). 3 + uses + cost_left next c ≤ cost_left (Some n) a) (sym moved_is)
              (omega (
                arith,
                fewer_named n 0 ms to none_named x.home a,
                ap length numbers_here,
                ap length numbers_moved,
                ap (λ ns. flat_named ns a) numbers_here,
                ap (λ ns. flat_named ns b) numbers_moved,
              ))
          by false q = let unused : uses ≡ 0 = grind (arith, nat_tests, q) in omega (arith, cost_here, unused)

  -- ---- as it is told

  module _ (v : View) (told : view_of n a ≡ Some v) where
    abbrev own_view : View
    own_view = record { op = x.op; inputs = x.inputs; outputs = length x.outputs; regions = length x.regions; home = x.home; before = node_before n a; after = node_after n a }

    same : v ≡ own_view
    same = view_is n a x v e told

    op_is : v.op ≡ x.op
    op_is = ap (λ (w : View). w.op) same

    home_is : v.home ≡ x.home
    home_is = ap (λ (w : View). w.home) same

    inputs_is : v.inputs ≡ x.inputs
    inputs_is = ap (λ (w : View). w.inputs) same

    common_is : is_common x.op ≡ is_common v.op
    common_is = ap is_common (sym op_is)

    pub told_passed : (ks : List Kept) → is_common v.op ≡ false → AreFirst ks front → AreFirst ks (passed number next a.nodes)
    told_passed ks c first = first_passed ks (common_is ∙ c) first

    module _ (ks js : List Kept) (k : ℕ) (common : is_common v.op ≡ true) (first : AreFirst ks front) (k_is : k ≡ kept_or v.home v.op v.inputs n ks) (js_is : js ≡ with_kept v.home v.op v.inputs n ks) where
      abbrev own_common : is_common x.op ≡ true
      own_common = common_is ∙ common

      m_is : k ≡ kept_or x.home x.op x.inputs n ks
      m_is = k_is ∙ (λ i. kept_or (home_is i) (op_is i) (inputs_is i) n ks)

      kept_is : js ≡ with_kept x.home x.op x.inputs n ks
      kept_is = js_is ∙ (λ i. with_kept (home_is i) (op_is i) (inputs_is i) n ks)

      pub told_same : k ≡ n → cne_in n a ≡ None
      told_same q = first_step ks own_common first (ap (λ j. j == n) (sym m_is ∙ q) ∙ same_number_true n)

      pub told_first : AreFirst js (passed number next a.nodes)
      told_first = subst (λ ls. AreFirst ls (passed number next a.nodes)) (sym kept_is) (first_kept ks own_common first)

      module _ (other : k ≡ n → ⊥) where
        differ : (kept_or x.home x.op x.inputs n ks == n) ≡ false
        differ = ne_eqb (kept_or x.home x.op x.inputs n ks) n (λ q. other (m_is ∙ q))

        pub told_own : IsSome (kind_in v.home (Out n 0) a)
        told_own = ap (λ p. is_some (kind_in p (Out n 0) a)) home_is ∙ own_there ks own_common first differ

        pub told_there : IsSome (kind_in v.home (Out k 0) a)
        told_there = (λ i. is_some (kind_in (home_is i) (Out (m_is i) 0) a)) ∙ first_origin ks own_common first differ

        pub told_kinds : kind_in v.home (Out n 0) a ≡ kind_in v.home (Out k 0) a
        told_kinds =
            ap (λ p. kind_in p (Out n 0) a) home_is ∙ same_kinds ks own_common first differ ∙ sym (λ i. kind_in (home_is i) (Out (m_is i) 0) a)

        abbrev moved_to : Place → ℕ → Option Flat
        moved_to p j = if nat_lt 0 (uses_in p (Out n 0) a) then Some (uses_moved p (Out n 0) (Out j 0) a) else None

        moved_is_same : moved_to v.home k ≡ moved_to x.home (kept_or x.home x.op x.inputs n ks)
        moved_is_same = λ i. moved_to (home_is i) (m_is i)

        pub told_step : cne_in n a ≡ moved_to v.home k
        told_step = other_step ks own_common first differ ∙ sym moved_is_same

        -- the list after it
        module _ (b : Flat) (log now : List Step) (stepped : record { nodes = b; steps = now } ≡ stepped_in cne_change n (record { nodes = a; steps = log }) (moved_to v.home k)) where
          nodes_are : b ≡ (after ks own_common first differ log).nodes
          nodes_are = ap (λ (t : Listed). t.nodes) (stepped ∙ ap (stepped_in cne_change n (record { nodes = a; steps = log })) moved_is_same)

          pub told_first_after : AreFirst js (passed number next b.nodes)
          told_first_after =
              subst (λ (c : Flat). AreFirst js (passed number next c.nodes)) (sym nodes_are)
              (subst (λ ls. AreFirst ls (passed number next (after ks own_common first differ log).nodes.nodes)) (sym kept_is) (first_moved ks own_common first differ log))

          pub told_numbers : ids b ≡ ids a
          told_numbers = ap ids nodes_are ∙ numbers_are ks own_common first differ log

          pub told_cost : (looks spent : ℕ) → spent ≤ looks + 3 + uses_in v.home (Out n 0) a → spent + cost_left next b ≤ looks + cost_left (Some n) a
          told_cost looks spent h =
              omega (arith, h, ap (λ p. uses_in p (Out n 0) a) home_is, ap (cost_left next) nodes_are, cost_moved ks own_common first differ log)
