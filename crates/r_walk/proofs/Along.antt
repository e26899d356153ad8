-- What is written with what is left makes the whole, node by node.
use Rattle.std.proofs.Common.{◌≡◌, ◌==◌, Bool, true, drop, length, ◌<◌, ◌≤◌, ◌+◌, ◌*◌, ◌-◌, ◌^◌, arith, if◌then◌else◌, ℕ, zero, suc, slice_get, get_or, unwrap_or, List, [], ◌∷◌, ◌++◌, map, refl, sym, ap, ap₂, subst, ◌∙◌}
use denote.Param.Weighed.{most}
use Rattle.std.proofs.lemmas.List.{append_assoc, append-nil}
use Rattle.std.proofs.lemmas.Option.{slice_get_read}
use Rattle.std.specs.Prelude.{OnOk, IfOk}
use Rattle.std.specs.declared.option.Option.TheVariants.{Some, None}
use Rattle.std.specs.declared.result.Result.{Result}
use Rattle.std.specs.declared.result.Result.TheVariants.{Ok, Err}
use Rattle.g_graph.specs.declared.op.Kind.{Kind}
use Rattle.g_graph.specs.declared.op.Op.{Op}
use Rattle.g_graph.specs.declared.op.Origin.{Origin}
use Rattle.g_graph.specs.declared.op.Origin.TheVariants.{Arg, Out}
use Rattle.r_rule.specs.declared.steps.Rule.{Rule}
use Rattle.r_rule.specs.declared.steps.Step.{Step}
use Rattle.g_graph.specs.Count.{saturated, node_values, nodes_values}
use Rattle.g_graph.specs.Plain.{RegionTree, region, NodeTree, node, NodeTrees, no_nodes, node_then, RegionTrees, no_regions, region_then, nodes_of, regions_of, region_size, node_size, nodes_size, regions_size, PlainLambda}
use Rattle.g_graph.specs.Splice.{joined_nodes}
use Rattle.g_graph.proofs.lemmas.Splices as splices
use Rattle.g_graph.proofs.lemmas.Splices.{joined_assoc, nodes_of_append}
use Rattle.g_graph.specs.WellFormed.{IsWellFormed}
use Rattle.g_graph.proofs.lemmas.Nests.{regions_of_well_formed}
use Rattle.g_mean.specs.Copies.{is_argument, IsClosed, AllClosed, NodesRead}
use Rattle.g_mean.proofs.lemmas.Closed.{region-closed}
use Rattle.r_walk.specs.Context.{joined_regions}
use Rattle.r_walk.specs.Walk.{Part, Asked, Moved, origin_now, inputs_of_nodes, results_used, Walking, Cursor, WrittenNodes, stepped, unmoved, cursor_after, cursor_in, part_written, walk_nodes, walk_node, walk_region, walk_regions, open_at, open_region}
use Rattle.r_walk.specs.Around.{AreWords, AreUses, IsAround}
use Rattle.r_walk.specs.Asks.{said_of, walking, IsSound, AllSound, AreInnerClosed}
use Rattle.r_walk.specs.declared.moves.Moves.{Moves}
use Rattle.r_walk.specs.declared.rule.New.{New}
use Rattle.r_walk.specs.declared.rule.Opening.{Opening}
use Rattle.r_walk.specs.declared.rule.Said.{Said}
use Rattle.r_walk.specs.declared.rule.Said.TheVariants.{Stays, Becomes, Opened}
use Rattle.r_walk.specs.declared.uses.Uses.{Uses}
use Rattle.r_walk.specs.declared.words.Words.{Words}
use Rattle.r_walk.specs.Moves.{AreMoves, output_in, origin_in}
use Rattle.r_walk.specs.Walks.{HasGained, IsCursor, IsWalked, HasStepped}

pub origins_are : (m : Moves) (ms : List Moved) (inputs : List Origin) → AreMoves m ms → (o : Origin) → origin_in m inputs o ≡ origin_now ms inputs o
origins_are m ms inputs h (Arg k) = refl
origins_are m ms inputs h (Out n p) = h n p

pub all_origins_are : (m : Moves) (ms : List Moved) (inputs : List Origin) → AreMoves m ms → (os : List Origin) → map (origin_in m inputs) os ≡ map (origin_now ms inputs) os
all_origins_are m ms inputs h [] = refl
all_origins_are m ms inputs h (o ∷ os) = ap₂ (λ a bs. a ∷ bs) (origins_are m ms inputs h o) (all_origins_are m ms inputs h os)

module _ (looks : Bool) (rule : Rule) (ask : Asked) where
  -- from a cursor on, the rest is walked to the end of the whole
  pub record IsAlong (whole : NodeTrees) (first : Cursor) (start : Walking) (begun written : List NodeTree) (inputs : List Origin) (moves : Moves) (words : Words) (uses : Uses) (rest : NodeTrees) (now : Walking) :
      Type 0 where
    pub cursor : Cursor
    pub is : IsCursor looks cursor inputs moves words uses
    pub nodes : joined_nodes (nodes_of written) (walk_nodes rule ask rest cursor now).nodes ≡ joined_nodes (nodes_of begun) (walk_nodes rule ask whole first start).nodes
    pub before : joined_nodes cursor.before (walk_nodes rule ask rest cursor now).nodes ≡ joined_nodes first.before (walk_nodes rule ask whole first start).nodes
    pub moves_are : (walk_nodes rule ask rest cursor now).moved ++ cursor.moved ≡ (walk_nodes rule ask whole first start).moved ++ first.moved
    pub now_is : (walk_nodes rule ask rest cursor now).now ≡ (walk_nodes rule ask whole first start).now

  pub begins : (whole : NodeTrees) (first : Cursor) (start : Walking) (begun : List NodeTree) (inputs : List Origin) (moves : Moves) (words : Words) (uses : Uses) → IsCursor looks first inputs moves words uses →
      IsAlong whole first start begun begun inputs moves words uses whole start
  begins whole first start begun inputs moves words uses is = record { cursor = first; is = is; nodes = refl; before = refl; moves_are = refl; now_is = refl }

  pub goes_on : (whole : NodeTrees) (first : Cursor) (start : Walking) (begun written more : List NodeTree) (inputs : List Origin) (moves next : Moves) (words next_words : Words) (uses : Uses) (x : NodeTree)
      (xs : NodeTrees) (now next_now : Walking) → IsAlong whole first start begun written inputs moves words uses (node_then x xs) now →
      ((k : Cursor) → IsCursor looks k inputs moves words uses → IsWalked looks k (walk_node rule ask x k now) written more next next_words next_now) →
      IsAlong whole first start begun more inputs next next_words uses xs next_now
  goes_on whole first start begun written more inputs moves next words next_words uses x xs now next_now a step =
      let h = step a.cursor a.is in
      let s : WrittenNodes = walk_node rule ask x a.cursor now in
      let k : Cursor = cursor_after s a.cursor in
      let t : WrittenNodes = walk_nodes rule ask xs k s.now in
      record {
        cursor = k;
        is = record { inputs_are = a.is.inputs_are; moved = h.moved; around = λ l. (h.words_are l, (a.is.around l).1) };
        nodes = ap₂ (λ ns w. joined_nodes ns (walk_nodes rule ask xs k w).nodes) h.nodes h.now_is ∙ joined_assoc (nodes_of written) s.nodes t.nodes ∙ a.nodes;
        before = ap (λ w. joined_nodes (joined_nodes a.cursor.before s.nodes) (walk_nodes rule ask xs k w).nodes) h.now_is ∙ joined_assoc a.cursor.before s.nodes t.nodes ∙ a.before;
        moves_are = ap (λ w. (walk_nodes rule ask xs k w).moved ++ (s.moved ++ a.cursor.moved)) h.now_is ∙ sym (append_assoc t.moved s.moved a.cursor.moved) ∙ a.moves_are;
        now_is = ap (λ w. (walk_nodes rule ask xs k w).now) h.now_is ∙ a.now_is;
      }

  pub ends : (whole : NodeTrees) (first : Cursor) (start : Walking) (begun written : List NodeTree) (inputs : List Origin) (moves : Moves) (words : Words) (uses : Uses) (now : Walking) →
      IsAlong whole first start begun written inputs moves words uses no_nodes now → IsWalked looks first (walk_nodes rule ask whole first start) begun written moves words now
  ends whole first start begun written inputs moves words uses now a =
      record {
        nodes = sym (splices.joined_none (nodes_of written)) ∙ a.nodes;
        moved = subst (AreMoves moves) a.moves_are a.is.moved;
        words_are = λ l. subst (AreWords words) (sym (splices.joined_none a.cursor.before) ∙ a.before) (a.is.around l).0;
        now_is = a.now_is;
      }

  abbrev pub begin : NodeTrees → List Origin → Cursor
  begin nodes results = record { inputs = []; before = no_nodes; uses = inputs_of_nodes nodes ++ results; moved = [] }

  -- a region, once all its nodes are written
  pub region_written : (args : List Kind) (nodes : NodeTrees) (results : List Origin) (start now : Walking) (written : List NodeTree) (moves : Moves) (words : Words) →
      IsWalked looks (begin nodes results) (walk_nodes rule ask nodes (begin nodes results) start) [] written moves words now →
      record { region = region args (nodes_of written) (map (origin_in moves []) results); now = now } ≡ walk_region rule ask (region args nodes results) start
  region_written args nodes results start now written moves words h =
      let t : WrittenNodes = walk_nodes rule ask nodes (begin nodes results) start in
      let known : AreMoves moves t.moved = subst (AreMoves moves) (append-nil t.moved) h.moved in
      let os : map (origin_in moves []) results ≡ map (origin_now t.moved []) results = all_origins_are moves t.moved [] known results in
      λ i. record { region = region args (h.nodes i) (os i); now = h.now_is i }

-- regions one after the other: those made, and what is made of the rest
pub joined_more : (rs : List RegionTree) (r : RegionTree) (ss : RegionTrees) → joined_regions (regions_of (rs ++ r ∷ [])) ss ≡ joined_regions (regions_of rs) (region_then r ss)
joined_more [] r ss = refl
joined_more (q ∷ rs) r ss = ap (λ ts. region_then q ts) (joined_more rs r ss)

pub joined_none : (rs : RegionTrees) → joined_regions rs no_regions ≡ rs
joined_none no_regions = refl
joined_none (region_then r rs) = ap (λ ss. region_then r ss) (joined_none rs)

-- more steps, and then more again
pub gained_more : (a b c : List Step) → HasGained a b → HasGained b c → HasGained a c
gained_more a b c g h = (g.0 ++ h.0, h.1 ∙ ap (λ xs. xs ++ h.0) g.1 ∙ append_assoc a g.0 h.0)

-- a step, and then more
pub gained_step : (a b c : List Step) (s : Step) → b ≡ a ++ s ∷ [] → HasGained b c → HasGained a c
gained_step a b c s e h = gained_more a b c (s ∷ [], e) h

-- ---- a node

module _ (looks : Bool) (rule : Rule) (ask : Asked) (id : ℕ) (op : Op) (ins : List Origin) (rs : RegionTrees) (k : Cursor) (inputs : List Origin) (moves : Moves) (words : Words) (uses : Uses) (w : Walking)
    (is : IsCursor looks k inputs moves words uses) where
  ins_now : map (origin_in moves inputs) ins ≡ map (origin_now k.moved k.inputs) ins
  ins_now = all_origins_are moves k.moved inputs is.moved ins ∙ ap (λ os. map (origin_now k.moved os) ins) (sym is.inputs_are)

  abbrev said : Part → WrittenNodes
  said p = part_written rule (node id op (map (origin_now k.moved k.inputs) ins) rs) (walk_regions rule ask rs)
      (λ which inputs from. open_at rule ask rs id (node_values (node id op (map (origin_now k.moved k.inputs) ins) rs)) which inputs from k w) w p

  -- what the rule said, where it was asked with these tables
  abbrev pub IsAsked : Said → Type 0
  IsAsked it =
      (before : NodeTrees) (os : List Origin) → IsAround looks words uses before os → said_of it ≡ ask w.values w.next before os (node id op (map (origin_in moves inputs) ins) rs)

  node_said : (it : Said) → IsAsked it → said (said_of it) ≡ walk_node rule ask (node id op ins rs) k w
  node_said it e = ap said (e k.before k.uses is.around ∙ ap (λ os. ask w.values w.next k.before k.uses (node id op os rs)) ins_now)

  -- it stays
  pub stays_walked : (before : List NodeTree) (new : RegionTrees) (next_words : Words) (now : Walking) → IsAsked Stays → record { regions = new; now = now } ≡ walk_regions rule ask rs w →
      (looks ≡ true → (b : NodeTrees) → AreWords words b → AreWords next_words (joined_nodes b (node_then (node id op (map (origin_in moves inputs) ins) new) no_nodes))) →
      IsWalked looks k (walk_node rule ask (node id op ins rs) k w) before (before ++ node id op (map (origin_in moves inputs) ins) new ∷ []) moves next_words now
  stays_walked before new next_words now e d noted =
      subst (λ s. IsWalked looks k s before (before ++ node id op (map (origin_in moves inputs) ins) new ∷ []) moves next_words now) (node_said Stays e)
      (record {
        nodes = nodes_of_append before (node id op (map (origin_in moves inputs) ins) new ∷ [])
            ∙ λ i. joined_nodes (nodes_of before) (node_then (node id op (ins_now i) (d i).regions) no_nodes);
        moved = is.moved;
        words_are = λ l.
            subst (λ y. AreWords next_words (joined_nodes k.before (node_then y no_nodes))) (λ i. node id op (ins_now i) (d i).regions) (noted l k.before (is.around l).0);
        now_is = λ i. (d i).now;
      })

  -- other nodes come
  pub step_walked : (new : New) (before after : List NodeTree) (next : Moves) (next_words : Words) (now : Walking) → IsAsked (Becomes new) →
      HasStepped rule (node id op ins rs) new before after moves next w now → (looks ≡ true → (b : NodeTrees) → AreWords words b → AreWords next_words (joined_nodes b (nodes_of new.nodes.items))) →
      IsWalked looks k (walk_node rule ask (node id op ins rs) k w) before after next next_words now
  step_walked new before after next next_words now e h noted =
      subst (λ s. IsWalked looks k s before after next next_words now) (node_said (Becomes new) e)
      (record {
        nodes = ap nodes_of h.nodes ∙ nodes_of_append before new.nodes.items;
        moved = λ n p. h.moved n p ∙ ap (λ o. if n == id then unwrap_or (slice_get new.outputs.items p) (Out n p) else o) (is.moved n p);
        words_are = λ l. noted l k.before (is.around l).0;
        now_is = h.now_is;
      })

  -- a region's nodes come, and are walked
  pub open_walked : (it : Opening) (before after : List NodeTree) (next : Moves) (next_words : Words) (now : Walking) → IsAsked (Opened it) →
      IsWalked looks k (open_at rule ask rs id (node_values (node id op ins rs)) it.which it.inputs.items it.from k w) before after next next_words now →
      IsWalked looks k (walk_node rule ask (node id op ins rs) k w) before after next next_words now
  open_walked it before after next next_words now e h = subst (λ s. IsWalked looks k s before after next next_words now) (node_said (Opened it) e) h

-- ---- the nodes of a region that is opened

module _ (rule : Rule) (ask : Asked) (id values : ℕ) (inputs : List Origin) (from : ℕ) (k : Cursor) (w : Walking) where
  opened_at : (rs : List RegionTree) (which : ℕ) (r : RegionTree) → slice_get rs which ≡ Some r → open_at rule ask (regions_of rs) id values which inputs from k w ≡ open_region rule ask r id values inputs from k w
  opened_at [] which r e = absurd cc
  opened_at (s ∷ rs) zero r e = let same : s ≡ r = cc in ap (λ q. open_region rule ask q id values inputs from k w) same
  opened_at (s ∷ rs) (suc which) r e = opened_at rs which r e

  not_opened : (rs : List RegionTree) (which : ℕ) → slice_get rs which ≡ None → open_at rule ask (regions_of rs) id values which inputs from k w ≡ unmoved no_nodes w
  not_opened [] which e = refl
  not_opened (s ∷ rs) zero e = absurd cc
  not_opened (s ∷ rs) (suc which) e = not_opened rs which e

  module _ (looks : Bool) where
    -- there is no such region
    pub none_walked : (outer : List Origin) (rs : List RegionTree) (which : ℕ) (before : List NodeTree) (moves : Moves) (words : Words) (uses : Uses) → slice_get rs which ≡ None →
        IsCursor looks k outer moves words uses → IsWalked looks k (open_at rule ask (regions_of rs) id values which inputs from k w) before before moves words w
    none_walked outer rs which before moves words uses e is =
        subst (λ s. IsWalked looks k s before before moves words w) (sym (not_opened rs which e))
        (record {
          nodes = sym (splices.joined_none (nodes_of before));
          moved = is.moved;
          words_are = λ l. subst (AreWords words) (sym (splices.joined_none k.before)) (is.around l).0;
          now_is = refl;
        })

    module _ (args : List Kind) (nodes : NodeTrees) (results : List Origin) where
      abbrev pub inner : Cursor
      inner = cursor_in id inputs from nodes results k

      abbrev pub start : Walking
      start = stepped rule id values (nodes_values nodes) 0 w

      -- the tables are those of the cursor in it
      pub inner_cursor : (outer : List Origin) (moves : Moves) (words : Words) (uses within : Uses) → IsCursor looks k outer moves words uses →
          (looks ≡ true → (os : List Origin) → AreUses uses os → AreUses within (inputs_of_nodes nodes ++ results_used os id 0 (drop from results))) → IsCursor looks inner inputs moves words within
      inner_cursor outer moves words uses within is used = record {
        inputs_are = refl;
        moved = is.moved;
        around = λ l. ((is.around l).0, used l k.uses (is.around l).1);
      }

      -- its nodes are walked, and it is noted what the node's outputs became
      pub region_walked : (rs : List RegionTree) (which : ℕ) (before after : List NodeTree) (moves next : Moves) (words : Words) (now : Walking) (outputs : List Origin) →
          slice_get rs which ≡ Some (region args nodes results) → IsWalked looks inner (walk_nodes rule ask nodes inner start) before after moves words now →
          outputs ≡ map (origin_in moves inputs) (drop from results) →
          ((n p : ℕ) → output_in next n p ≡ (if n == id then unwrap_or (slice_get outputs p) (Out n p) else output_in moves n p)) →
          IsWalked looks k (open_at rule ask (regions_of rs) id values which inputs from k w) before after next words now
      region_walked rs which before after moves next words now outputs e h given noted =
          subst (λ s. IsWalked looks k s before after next words now) (sym (opened_at rs which (region args nodes results) e))
          (record {
            nodes = h.nodes;
            moved = λ n p.
                noted n p
                ∙ ap₂ (λ os o. if n == id then unwrap_or (slice_get os p) (Out n p) else o)
                (given ∙ all_origins_are moves ((walk_nodes rule ask nodes inner start).moved ++ k.moved) inputs h.moved (drop from results)) (h.moved n p);
            words_are = h.words_are;
            now_is = h.now_is;
          })

-- a region that is found there, and what holds of it as of all
pub found_at : (given rs : List RegionTree) (which : ℕ) (found r : RegionTree) → given ≡ rs → which < length given → found ≡ get_or given which found → r ≡ found → slice_get rs which ≡ Some r
found_at given rs which found r same within read is = ap (λ xs. slice_get xs which) (sym same) ∙ slice_get_read given (length given) which found refl within read ∙ ap Some (sym is)

pub closed_at : (rs : List RegionTree) (which : ℕ) (r : RegionTree) → slice_get rs which ≡ Some r → AllClosed (regions_of rs) → IsClosed r
closed_at [] which r e h = absurd cc
closed_at (s ∷ rs) zero r e h = let same : s ≡ r = cc in subst IsClosed same h.0
closed_at (s ∷ rs) (suc which) r e h = closed_at rs which r e h.1

pub sound_at : (rs : List RegionTree) (which : ℕ) (r : RegionTree) → slice_get rs which ≡ Some r → AllSound (regions_of rs) → IsSound r
sound_at [] which r e h = absurd cc
sound_at (s ∷ rs) zero r e h = let same : s ≡ r = cc in subst IsSound same h.0
sound_at (s ∷ rs) (suc which) r e h = sound_at rs which r e h.1

-- what follows from a value's promise
pub on_ok : {X Y : Type 0} (r : Result X Y) (P Q : Type 0) → (P → Q) → OnOk r P → OnOk r Q
on_ok (Ok x) P Q f h = f h
on_ok (Err e) P Q f h = tt

pub on_value : {X Y : Type 0} (r : Result X Y) (P Q : X → Type 0) → ((x : X) → P x → Q x) → IfOk r P → IfOk r Q
on_value (Ok x) P Q f h = f x h
on_value (Err e) P Q f h = tt

pub on_both : {X Y : Type 0} (r : Result X Y) (P Q S : Type 0) → (P → Q → S) → OnOk r P → OnOk r Q → OnOk r S
on_both (Ok x) P Q S f h k = f h k
on_both (Err e) P Q S f h k = tt

pub on_all : {X Y : Type 0} (r : Result X Y) (P Q S T : Type 0) → (P → Q → S → T) → OnOk r P → OnOk r Q → OnOk r S → OnOk r T
on_all (Ok x) P Q S T f h k m = f h k m
on_all (Err e) P Q S T f h k m = tt

-- ---- sizes

-- sizes as the measure of the walk has them
abbrev weight : ℕ → ℕ
weight n = 1 * (n + 1) + 0

abbrev most_of : List NodeTree → ℕ
most_of = most (λ x. weight (node_size x))

most_nodes : (ns : List NodeTree) → most_of ns ≤ nodes_size (nodes_of ns) + 1
most_nodes [] = omega arith
most_nodes (n ∷ ns) = omega (arith, most_nodes ns)

region_within : (rs : List RegionTree) (which : ℕ) (r : RegionTree) → slice_get rs which ≡ Some r → region_size r ≤ regions_size (regions_of rs)
region_within [] which r e = absurd cc
region_within (s ∷ rs) zero r e = let same : s ≡ r = cc in subst (λ q. region_size q ≤ regions_size (regions_of (s ∷ rs))) same (omega arith)
region_within (s ∷ rs) (suc which) r e = omega (arith, region_within rs which r e)

-- the nodes of a region are smaller than the region, and than a node that has it
module _ (args : List Kind) (nodes given : List NodeTree) (results : List Origin) (same : given ≡ nodes) (t : ℕ) where
  pub nodes_smaller : (r : RegionTree) → region args (nodes_of nodes) results ≡ r → 3 * weight (region_size r) + 0 ≡ t → 3 * most_of given + 2 < t
  nodes_smaller r is e =
      let whole : 3 * weight (suc (nodes_size (nodes_of nodes))) + 0 ≡ t = ap (λ q. 3 * weight (region_size q) + 0) is ∙ e in
      subst (λ ns. 3 * most_of ns + 2 < t) (sym same) (omega (arith, most_nodes nodes, whole))

  pub inner_smaller : (id : ℕ) (op : Op) (ins : List Origin) (rs : List RegionTree) (which : ℕ) (x : NodeTree) → node id op ins (regions_of rs) ≡ x →
      slice_get rs which ≡ Some (region args (nodes_of nodes) results) → 3 * weight (node_size x) + 0 ≡ t → 3 * most_of given + 2 < t
  inner_smaller id op ins rs which x is there e =
      let whole : 3 * weight (suc (regions_size (regions_of rs))) + 0 ≡ t = ap (λ y. 3 * weight (node_size y) + 0) is ∙ e in
      let one : suc (nodes_size (nodes_of nodes)) ≤ regions_size (regions_of rs) = region_within rs which (region args (nodes_of nodes) results) there in
      subst (λ ns. 3 * most_of ns + 2 < t) (sym same) (omega (arith, most_nodes nodes, one, whole))

-- ---- counts

counted : (n : ℕ) → saturated n < 2 ^ 64 - 1 → saturated n ≡ n
counted n h = omega (arith, h)

less_counted : (v n : ℕ) → v < 2 ^ 64 → v - saturated n ≡ v - n
less_counted v n h = omega (arith, h)

values_counted : (v new old : ℕ) → saturated new < 2 ^ 64 - 1 → v + saturated new < 2 ^ 64 → v + saturated new - saturated old ≡ v + new - old
values_counted v new old h k = less_counted (v + saturated new) old k ∙ ap (λ m. v + m - old) (counted new h)

-- a step is made where the counts are these and it is in the log
pub step_made : (rule named : Rule) (id values next taken old new less more values_then next_then : ℕ) (log log_then : List Step) → more ≡ saturated new → less ≡ saturated old → named ≡ rule →
    values_then ≡ values + more - less → next_then ≡ next + taken → more < 2 ^ 64 - 1 → values + more < 2 ^ 64 → log_then ≡ log ++ record { rule = named; node = id } ∷ [] →
    walking values_then next_then log_then ≡ stepped rule id old new taken (walking values next log)
step_made rule named id values next taken old new less more values_then next_then log log_then news olds named_so values_so next_so counted fits logged =
    let count : values_then ≡ values + new - old =
    values_so ∙ ap₂ (λ m n. values + m - n) news olds ∙ values_counted values new old (subst (λ m. m < 2 ^ 64 - 1) news counted) (subst (λ m. values + m < 2 ^ 64) news fits) in
    let steps : log_then ≡ log ++ record { rule = rule; node = id } ∷ [] = logged ∙ ap (λ r. log ++ record { rule = r; node = id } ∷ []) named_so in
    λ i. walking (count i) (next_so i) (steps i)

-- ---- what regions read

inner_closed : (S : Origin → Bool) (known : List ℕ) (ns : NodeTrees) → NodesRead S known ns → AreInnerClosed ns
inner_closed S known no_nodes h = tt
inner_closed S known (node_then (node id op ins rs) ns) h = (h.0.1, inner_closed S (id ∷ known) ns h.1)

pub region_inner : (args : List Kind) (nodes : NodeTrees) (results : List Origin) → IsClosed (region args nodes results) → AreInnerClosed nodes
region_inner args nodes results h = inner_closed (is_argument (length args)) [] nodes h.0

pub body_closed : (l : PlainLambda) → IsWellFormed l → IsClosed l.body
body_closed l well = region-closed (length l.objects) l.body (regions_of_well_formed l well)
