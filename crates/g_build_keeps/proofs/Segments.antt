-- The segments of a `switch`: the region of each does what its groups do, from the group on that `from` says.
use Rattle.std.proofs.Common.{◌≡◌, ◌≤◌, ◌<◌, inl, inr, ℕ, zero, suc, ◌+◌, ◌-◌, ◌%◌, ◌^◌, List, [], ◌∷◌, ◌++◌, refl, sym, ap, ◌∙◌, subst, arith}
use Rattle.std.proofs.Math.Path.{fun_ext}
use Rattle.std.specs.Prelude.{Bool, true, false, not, ◌||◌, cond, nat_lt, Some, length, slice_get}
use Rattle.std.proofs.lemmas.Bool.{or_left, or_right}
use Rattle.std.proofs.lemmas.Bool.Decides.{nat_tests}
use Rattle.val_core.specs.declared.values.Value.TheVariants.{Num}
use Rattle.val_core.specs.declared.operation.Op2.TheVariants as op
use Rattle.val_core.specs.Words.{word2, one_if}
use Rattle.val_core.specs.Refinement.{Direction}
use Rattle.val_core.specs.Answers.{Answer, Returned, Cut, Exited, Undefined, before, then_on, Gives}
use Rattle.val_core.proofs.lemmas.Answers.{then_nothing, gives-then}
use Rattle.c_typed.specs.Typed.{StmtTree, null, value, block, if_else, loop, do_while, break, continue, return_value, return_none, switch, ItemTrees, no_items, stmt_then, declare_then, GroupTrees, no_groups, group_then, VariableTree}
use Rattle.c_typed.specs.WellTyped.{Signature}
use Rattle.c_mean.specs.State.{State, used}
use Rattle.c_mean.specs.Expressions as source
use Rattle.c_mean.specs.Expressions.{expr_run}
use Rattle.c_mean.specs.Statements.{Flow, normal, broke, continued, returned, Flowed, flows, goes_on, if_normal, group_count, out_of_scope, declared, groups_done, stmt_run, items_run, groups_runs}
use Rattle.g_graph.specs.declared.op.Origin.{Origin}
use Rattle.g_build_def.specs.Writer.{newest, slot_origin, Point, Built, nothing, bind, no_value, inside, choice}
use Rattle.g_build_def.specs.Operations.{const_made, bin_made}
use Rattle.g_build_def.specs.Exits.{items_exits, can_leave, items_jump, groups_jump}
use Rattle.g_build_def.specs.Jumps.{unless_left}
use Rattle.g_build_def.specs.Statements.{items_made, segments_made}
use Rattle.g_build_def.specs.Switch.{is_jump, ends_with_jump, ends_segment, next_segment, some_segment_has_several, Target, group_made, segments_with}
use Rattle.g_build_def.proofs.lemmas.Later.{Keeps, later_here, bind_later}
use Rattle.g_build_def.proofs.lemmas.LaterStatements.{group_later, unless_left_later, items_later}
use Rattle.g_build_keeps.proofs.lemmas.Exits.{MayJump, jump_left, jump_right, items_leave}
use Rattle.g_mean.specs.Data.{Datum}
use Rattle.g_mean.specs.Meaning.{Context, Outputs, no_outputs, read as read_origin}
use Rattle.g_build_keeps.specs.Exits.{Allows}
use Rattle.g_build_keeps.proofs.Readings.{IsSoundRun}
use Rattle.g_build_keeps.proofs.Toolbox.{Simulates, sim-bind}
use Rattle.g_build_keeps.proofs.Held.{Frame, Holds}
use Rattle.g_build_keeps.proofs.Nodes.{line-then, const-line, bin-line}
use Rattle.g_build_keeps.proofs.Choice.{Nothing, no_value-gives, picked, choice-sim}
use Rattle.g_build_keeps.proofs.Unary.{some-inj}
use Rattle.g_build_keeps.proofs.Claims.{ContextsFit}
use Rattle.g_build_keeps.proofs.Leaves.{after-any, used-gives, items-end, allows-normal}
use Rattle.g_build_keeps.proofs.Jumps.{Flows, jumping-form, may-later, may-inside, sim-gives}
use Rattle.g_build_keeps.proofs.Statements.{ItemsClaim, nothing-sim, follow-sim}
use Rattle.g_build_keeps.proofs.Targets.{IsTarget, Bounded, target-bounds}
use Rattle.g_build_keeps.proofs.Declarations.{framed}
use Rattle.g_build_keeps.proofs.From.{HasFrom, from-later, from-inside, with_from, from-reads}
use Rattle.g_build_keeps.proofs.Selected.{reads-of}

-- ---- the last group of a segment

-- control does not go on
abbrev Leaves : Flowed → Type 0
Leaves x = x.flow ≡ normal → ⊥

leaves-alone : (next : State → Answer Flowed) (a : Answer Flowed) → Gives Leaves a → then_on a (λ x. if_normal x.flow x.state next) ≡ a
leaves-alone next (Returned x o) h = ap (before o) (by x.flow h) ∙ then_nothing (Returned x o)
  where
    by : (f : Flow) → (f ≡ normal → ⊥) → if_normal f x.state next ≡ flows x.state f
    by normal h = absurd (h refl)
    by broke h = refl
    by continued h = refl
    by (returned v) h = refl
leaves-alone next (Cut o) h = refl
leaves-alone next (Exited o s) h = refl
leaves-alone next (Undefined o) h = refl

module _ (c : source.Context) (vs : List VariableTree) where
  jump-leaves : (a : StmtTree) → is_jump a ≡ true → (s : State) → Gives Leaves (stmt_run c vs a s)
  jump-leaves break e s = λ z. absurd cc
  jump-leaves continue e s = λ z. absurd cc
  jump-leaves (return_value x) e s =
      after-any Leaves (expr_run c x s) (λ y. used y.value (λ v. flows y.state (returned (Some v))))
      (λ y. used-gives Leaves y.value (λ v. flows y.state (returned (Some v))) (λ u z. absurd cc))
  jump-leaves return_none e s = λ z. absurd cc
  jump-leaves null e s = absurd cc
  jump-leaves (value x) e s = absurd cc
  jump-leaves (block is) e s = absurd cc
  jump-leaves (if_else x a b) e s = absurd cc
  jump-leaves (loop x step a) e s = absurd cc
  jump-leaves (do_while a x) e s = absurd cc
  jump-leaves (switch x gs) e s = absurd cc

  then-leaves : (f : Flow) (s : State) (next : State → Answer Flowed) → ((u : State) → Gives Leaves (next u)) → Gives Leaves (if_normal f s next)
  then-leaves normal s next h = h s
  then-leaves broke s next h = λ z. absurd cc
  then-leaves continued s next h = λ z. absurd cc
  then-leaves (returned v) s next h = λ z. absurd cc

  items-leaves : (is : ItemTrees) → ends_with_jump is ≡ true → (s : State) → Gives Leaves (items_run c vs is s)
  items-leaves no_items e s = absurd cc
  items-leaves (stmt_then a no_items) e s =
      subst (Gives Leaves) (sym (leaves-alone (items_run c vs no_items) (stmt_run c vs a s) (jump-leaves a e s))) (jump-leaves a e s)
  items-leaves (stmt_then a (stmt_then b is)) e s =
      after-any Leaves (stmt_run c vs a s) (λ x. if_normal x.flow x.state (items_run c vs (stmt_then b is)))
      (λ x. then-leaves x.flow x.state (items_run c vs (stmt_then b is)) (items-leaves (stmt_then b is) e))
  items-leaves (stmt_then a (declare_then b is)) e s =
      after-any Leaves (stmt_run c vs a s) (λ x. if_normal x.flow x.state (items_run c vs (declare_then b is)))
      (λ x. then-leaves x.flow x.state (items_run c vs (declare_then b is)) (items-leaves (declare_then b is) e))
  items-leaves (declare_then b is) e s =
      after-any Leaves (declared c vs b.variable (slice_get vs b.variable) b.initial s) (λ t. then_on (items_run c vs is t) (out_of_scope (length s.slots)))
      (λ t. gives-then Leaves Leaves (items_run c vs is t) (out_of_scope (length s.slots)) (items-leaves is e t) (λ x k. k))

  -- A group that ends its segment is the last that is done.
  segment-ends : (is : ItemTrees) (gs : GroupTrees) → ends_segment is gs ≡ true → (s : State) →
      then_on (items_run c vs is s) (λ x. if_normal x.flow x.state (groups_done 0 (groups_runs c vs gs))) ≡ items_run c vs is s
  segment-ends is no_groups e s = ap (then_on (items_run c vs is s)) (fun_ext (λ x. by x x.flow)) ∙ then_nothing (items_run c vs is s)
    where
      by : (x : Flowed) (f : Flow) → if_normal f x.state goes_on ≡ flows x.state f
      by x normal = refl
      by x broke = refl
      by x continued = refl
      by x (returned v) = refl
  segment-ends is (group_then cases d js gs) e s =
      leaves-alone (groups_done 0 (groups_runs c vs (group_then cases d js gs))) (items_run c vs is s) (items-leaves is (only (ends_with_jump is) e) s)
    where
      only : (b : Bool) → (b || false) ≡ true → b ≡ true
      only true z = refl
      only false z = z

-- ---- the regions

module _ (w : Direction) (functions : List Signature) (c : source.Context) (d : Context) (fit : ContextsFit w functions c d) (hs : List ℕ) (n : ℕ) (m : Bool) (vs : List VariableTree)
    (several : Bool) (from : ℕ) where
  abbrev f : Frame
  f = framed (with_from several hs from) n m

  -- a part of the region of a segment, where `from` is in scope
  abbrev PartClaim : (jumps : Bool) → (Point → Built (Unit {0})) → (State → Answer Flowed) → Type 0
  PartClaim b made run =
      (xs : List Datum) (o : Outputs) → IsSoundRun xs o → (s : Point) (q : State) → Holds f normal (read_origin xs o) s.next s.carried q → MayJump s.carried.form b →
      HasFrom several s.carried.variables → Simulates w d (Flows f) xs o s.next (made s) (run q)

  -- each group does what it does in the source
  abbrev pub GroupsClaim : GroupTrees → Type 0
  GroupsClaim no_groups = Unit {0}
  GroupsClaim (group_then cases e is gs) = ItemsClaim w functions c d fit f vs is × GroupsClaim gs

  -- what follows is passed over where a group has left
  leave-sim : (l b : Bool) (made : Point → Built (Unit {0})) (run : State → Answer Flowed) → Keeps made → PartClaim b made run → (xs : List Datum) (o : Outputs) → IsSoundRun xs o →
      (s : Point) (q : State) (flow : Flow) → Holds f flow (read_origin xs o) s.next s.carried q → MayJump s.carried.form l → (l ≡ false → flow ≡ normal) → MayJump s.carried.form b →
      HasFrom several s.carried.variables → Simulates w d (Flows f) xs o s.next (unless_left l made s) (if_normal flow q run)
  leave-sim true b made run keeps k xs o r s q flow h may left j has =
      follow-sim w functions c d fit f made run keeps xs o r s q flow h (jumping-form s.carried.form true may refl)
      (λ us i r' h'. k us no_outputs r' (inside s.carried i) q h' (may-inside s.carried i b j) (from-inside several s.carried i has))
  leave-sim false b made run keeps k xs o r s q flow h may left j has =
      subst (λ x. Simulates w d (Flows f) xs o s.next (made s) (if_normal x q run)) (sym (left refl))
      (k xs o r s q (subst (λ x. Holds f x (read_origin xs o) s.next s.carried q) (left refl) h) j has)

  -- ---- one group

  -- whether `from` is at most this group
  abbrev reached : (group : ℕ) → ℕ
  reached g = word2 op.Sltu from (suc g % 2 ^ 32)

  reached-is : (g : ℕ) → suc g < 2 ^ 32 → (b : Bool) → nat_lt from (suc g) ≡ b → reached g ≡ one_if b
  reached-is g few b e = let same : suc g % 2 ^ 32 ≡ suc g = omega (arith, few) in ap (λ k. one_if (nat_lt from k)) same ∙ ap one_if e

  group-sim : (g : ℕ) (made : Point → Built (Unit {0})) (a : Answer Flowed) → Keeps made → several ≡ true → (xs : List Datum) (o : Outputs) → IsSoundRun xs o → (s : Point) (q : State) →
      Holds f normal (read_origin xs o) s.next s.carried q → HasFrom several s.carried.variables →
      ((us : List Datum) (i : ℕ) → IsSoundRun us no_outputs → Holds f normal (read_origin us no_outputs) i (inside s.carried i).carried q →
      Simulates w d (Flows f) us no_outputs i (picked (reached g) nothing made (inside s.carried i)) a) →
      Simulates w d (Flows f) xs o s.next (group_made g made s) a
  group-sim g made a keeps is_several xs o r s q h has go =
      line-then w d f normal fit.sound (Flows f) xs o s.next r first (λ k t. bind (bin_made op.Sltu (slot_origin (newest t.carried.variables)) k t) (λ p u. choice no_value u p nothing made)) q
      (Num (suc g % 2 ^ 32)) a (const-line w d f normal xs o s q h (suc g)) (λ o1 r1 m1.
      let read1 = from-reads hs n m from normal (read_origin xs o1) first.after.next first.after q several is_several has m1.post.0 in
      line-then w d f normal fit.sound (Flows f) xs o1 first.after.next r1 second (λ p u. choice no_value u p nothing made) q (Num (reached g)) a
      (bin-line w d f normal xs o1 first.after q m1.post.0 op.Sltu (slot_origin (newest first.after.carried.variables)) first.value (Num from) (Num (suc g % 2 ^ 32)) read1.0
      (reads-of (read_origin xs o1) first.after.next (suc g % 2 ^ 32) first.value m1.post.1).0) (λ o2 r2 m2.
      choice-sim w d f (λ x. x.flow) (λ x. x.state) Nothing Nothing no_value xs o2 r2 second.after second.value (reached g) nothing made a normal q (no_value-gives xs o2 second.after.next)
      (reads-of (read_origin xs o2) second.after.next (reached g) second.value m2.post.1).0 later_here keeps m2.post.0 go))
    where
      first : Built Origin
      first = const_made (suc g) s

      second : Built Origin
      second = bin_made op.Sltu (slot_origin (newest first.after.carried.variables)) first.value first.after

  -- a group from `from` on is done
  group-done : (g : ℕ) (b : Bool) (made : Point → Built (Unit {0})) (run : State → Answer Flowed) → Keeps made → several ≡ true → suc g < 2 ^ 32 → from ≤ g →
      ((xs : List Datum) (o : Outputs) → IsSoundRun xs o → (s : Point) (q : State) → Holds f normal (read_origin xs o) s.next s.carried q → MayJump s.carried.form b →
      Simulates w d (Flows f) xs o s.next (made s) (run q)) →
      PartClaim b (group_made g made) run
  group-done g b made run keeps is_several few low k xs o r s q h j has =
      group-sim g made (run q) keeps is_several xs o r s q h has (λ us i r' h'.
      subst (λ z. Simulates w d (Flows f) us no_outputs i (picked z nothing made (inside s.carried i)) (run q)) (sym (reached-is g few true is))
      (k us no_outputs r' (inside s.carried i) q h' (may-inside s.carried i b j)))
    where
      is : nat_lt from (suc g) ≡ true
      is = grind (arith, nat_tests, low)

  -- a group before it is passed over
  group-passed : (g : ℕ) (made : Point → Built (Unit {0})) → Keeps made → several ≡ true → suc g < 2 ^ 32 → g < from → PartClaim false (group_made g made) goes_on
  group-passed g made keeps is_several few low xs o r s q h j has =
      group-sim g made (goes_on q) keeps is_several xs o r s q h has (λ us i r' h'.
      subst (λ z. Simulates w d (Flows f) us no_outputs i (picked z nothing made (inside s.carried i)) (goes_on q)) (sym (reached-is g few false is))
      (nothing-sim w functions c d fit f us no_outputs (inside s.carried i) q normal h'))
    where
      is : nat_lt from (suc g) ≡ false
      is = grind (arith, nat_tests, low)

  -- ---- a group and those after it in its segment

  abbrev items : ItemTrees → Point → Built (Unit {0})
  items is = items_made vs is

  abbrev joined : (group : ℕ) → ItemTrees → (rest : Point → Built (Unit {0})) → Point → Built (Unit {0})
  joined g is rest s = bind (group_made g (items is) s) (λ _ t. unless_left (can_leave (items_exits is)) rest t)

  joined-keeps : (g : ℕ) (is : ItemTrees) (rest : Point → Built (Unit {0})) → Keeps rest → Keeps (joined g is rest)
  joined-keeps g is rest k s =
      bind_later s (group_made g (items is) s) (λ _ t. unless_left (can_leave (items_exits is)) rest t) (group_later g (items is) (items_later vs is) s)
      (λ _. unless_left_later (can_leave (items_exits is)) rest k)

  module _ (is_several : several ≡ true) (g : ℕ) (few : suc g < 2 ^ 32) (is : ItemTrees) (b : Bool) (rest : Point → Built (Unit {0})) (run : State → Answer Flowed) (keeps : Keeps rest)
      (claim : PartClaim b rest run) where
    -- what follows a group that ended so
    follows : (xs : List Datum) (o : Outputs) → IsSoundRun xs o → (s : Point) → MayJump s.carried.form (items_jump is || b) → HasFrom several s.carried.variables → (q : State) (flow : Flow) →
        Allows (items_exits is) flow → Holds f flow (read_origin xs o) (group_made g (items is) s).after.next (group_made g (items is) s).after.carried q →
        Simulates w d (Flows f) xs o (group_made g (items is) s).after.next (unless_left (can_leave (items_exits is)) rest (group_made g (items is) s).after) (if_normal flow q run)
    follows xs o r s j has q flow allowed h =
        let later = group_later g (items is) (items_later vs is) s in
        let t = (group_made g (items is) s).after in
        leave-sim (can_leave (items_exits is)) b rest run keeps claim xs o r t q flow h
        (may-later s t (can_leave (items_exits is)) later (items_leave s.carried.form is (jump_left s.carried.form (items_jump is) b j)))
        (λ z. allows-normal (items_exits is) flow z allowed) (may-later s t b later (jump_right s.carried.form (items_jump is) b j)) (from-later several s t later has)

    joined-done : from ≤ g → ItemsClaim w functions c d fit f vs is → PartClaim (items_jump is || b) (joined g is rest) (λ q. then_on (items_run c vs is q) (λ x. if_normal x.flow x.state run))
    joined-done low k xs o r s q h j has =
        sim-bind w d fit.sound (λ y rd t v. Allows (items_exits is) y.flow × Flows f y rd t v) (Flows f) xs o s.next r (group_made g (items is) s)
        (λ _ t. unless_left (can_leave (items_exits is)) rest t)
        (items_run c vs is q) (λ x. if_normal x.flow x.state run)
        (sim-gives w d f (λ y. Allows (items_exits is) y.flow) (Flows f) xs o s.next (group_made g (items is) s) (items_run c vs is q) (items-end c vs is q)
        (group-done g (items_jump is) (items is) (items_run c vs is) (items_later vs is) is_several few low k xs o r s q h (jump_left s.carried.form (items_jump is) b j) has))
        (λ y o' r' m'. follows xs o' r' s j has y.state y.flow m'.post.0 m'.post.1.0)

    joined-passed : g < from → PartClaim (items_jump is || b) (joined g is rest) run
    joined-passed low xs o r s q h j has =
        sim-bind w d fit.sound (λ y rd t v. Allows (items_exits is) y.flow × Flows f y rd t v) (Flows f) xs o s.next r (group_made g (items is) s)
        (λ _ t. unless_left (can_leave (items_exits is)) rest t)
        (goes_on q) (λ x. if_normal x.flow x.state run)
        (sim-gives w d f (λ y. Allows (items_exits is) y.flow) (Flows f) xs o s.next (group_made g (items is) s) (goes_on q) tt
        (group-passed g (items is) (items_later vs is) is_several few low xs o r s q h (jump_left s.carried.form false (items_jump is || b) j) has))
        (λ y o' r' m'. follows xs o' r' s j has y.state y.flow m'.post.0 m'.post.1.0)

  -- ---- the region of an index

  -- The region at this index does this, where it may.
  pub record Does (b : Bool) (run : State → Answer Flowed) (j : ℕ) (fs : List (Point → Built (Unit {0}))) : Type 0 where
    pub made : Point → Built (Unit {0})
    pub there : slice_get fs j ≡ Some made
    pub keeps : Keeps made
    pub does : PartClaim b made run

  first-does : (b : Bool) (run : State → Answer Flowed) (fs gs : List (Point → Built (Unit {0}))) → Does b run 0 fs → Does b run 0 (fs ++ gs)
  first-does b run [] gs r = let e = r.there in absurd cc
  first-does b run (f ∷ fs) gs r = record { made = r.made; there = r.there; keeps = r.keeps; does = r.does }

  does-more : (a b : Bool) (run : State → Answer Flowed) (j : ℕ) (fs : List (Point → Built (Unit {0}))) → Does b run j fs → Does (a || b) run j fs
  does-more a b run j fs r =
      record { made = r.made; there = r.there; keeps = r.keeps; does = λ xs o t s q h may has. r.does xs o t s q h (jump_right s.carried.form a b may) has }

  -- a group that ends its segment
  only-does : (begins : Bool) (g : ℕ) (is : ItemTrees) (gs : GroupTrees) (later : List (Point → Built (Unit {0}))) → (begins ≡ false → several ≡ true) → suc g < 2 ^ 32 → from ≤ g →
      ends_segment is gs ≡ true → ItemsClaim w functions c d fit f vs is →
      Does (items_jump is || groups_jump gs) (λ q. then_on (items_run c vs is q) (λ x. if_normal x.flow x.state (groups_done 0 (groups_runs c vs gs)))) 0
      (segments_with begins true g (can_leave (items_exits is)) (items is) later)
  only-does begins g is gs later is_several few low e k = by begins is_several
    where
      run : State → Answer Flowed
      run q = then_on (items_run c vs is q) (λ x. if_normal x.flow x.state (groups_done 0 (groups_runs c vs gs)))

      alone : PartClaim (items_jump is) (items is) (items_run c vs is)
      alone xs o r s q h j has = k xs o r s q h j

      whole : (made : Point → Built (Unit {0})) → PartClaim (items_jump is) made (items_run c vs is) → PartClaim (items_jump is || groups_jump gs) made run
      whole made claim xs o r s q h j has =
          subst (λ z. Simulates w d (Flows f) xs o s.next (made s) z) (sym (segment-ends c vs is gs e q)) (claim xs o r s q h (jump_left s.carried.form (items_jump is) (groups_jump gs) j) has)

      by : (begins : Bool) → (begins ≡ false → several ≡ true) → Does (items_jump is || groups_jump gs) run 0 (segments_with begins true g (can_leave (items_exits is)) (items is) later)
      by true z = record { made = items is; there = refl; keeps = items_later vs is; does = whole (items is) alone }
      by false z =
          record {
            made = group_made g (items is);
            there = refl;
            keeps = group_later g (items is) (items_later vs is);
            does = whole (group_made g (items is)) (group-done g (items_jump is) (items is) (items_run c vs is) (items_later vs is) (z refl) few low k);
          }

  -- a group before others of its segment
  more-does : (begins : Bool) (g : ℕ) (is : ItemTrees) (b : Bool) (run : State → Answer Flowed) (later : List (Point → Built (Unit {0}))) → several ≡ true → suc g < 2 ^ 32 → from ≤ g →
      ItemsClaim w functions c d fit f vs is → Does b run 0 later →
      Does (items_jump is || b) (λ q. then_on (items_run c vs is q) (λ x. if_normal x.flow x.state run)) 0 (segments_with begins false g (can_leave (items_exits is)) (items is) later)
  more-does begins g is b run [] is_several few low k r = let e = r.there in absurd cc
  more-does begins g is b run (rest ∷ later) is_several few low k r = by begins
    where
      same : rest ≡ r.made
      same = some-inj r.there

      keeps : Keeps rest
      keeps = subst Keeps (sym same) r.keeps

      done : PartClaim (items_jump is || b) (joined g is rest) (λ q. then_on (items_run c vs is q) (λ x. if_normal x.flow x.state run))
      done = joined-done is_several g few is b rest run keeps (subst (λ z. PartClaim b z run) (sym same) r.does) low k

      by : (begins : Bool) → Does (items_jump is || b) (λ q. then_on (items_run c vs is q) (λ x. if_normal x.flow x.state run)) 0
          (segments_with begins false g (can_leave (items_exits is)) (items is) (rest ∷ later))
      by true = record { made = joined g is rest; there = refl; keeps = joined-keeps g is rest keeps; does = done }
      by false = record { made = joined g is rest; there = refl; keeps = joined-keeps g is rest keeps; does = done }

  -- where some segment has several groups, `from` is in scope
  abbrev Several : GroupTrees → Type 0
  Several gs = some_segment_has_several gs ≡ true → several ≡ true

  not-true : (b : Bool) → b ≡ false → not b ≡ true
  not-true true e = absurd cc
  not-true false e = refl

  -- the first segment, from `from` on, which is at or before its first group
  entered : (begins : Bool) (g : ℕ) (cases : List ℕ) (e : Bool) (is : ItemTrees) (gs : GroupTrees) → (begins ≡ false → several ≡ true) → Several (group_then cases e is gs) →
      g + suc (group_count gs) < 2 ^ 32 → from ≤ g →
      GroupsClaim (group_then cases e is gs) →
      Does (items_jump is || groups_jump gs) (groups_done 0 (groups_runs c vs (group_then cases e is gs))) 0 (segments_made vs begins g (group_then cases e is gs))
  entered begins g cases e is no_groups is_several has few low k =
      subst (λ z. Does (items_jump is || false) (groups_done 0 (groups_runs c vs (group_then cases e is no_groups))) 0 (segments_with begins z g (can_leave (items_exits is)) (items is) [])) (sym last)
      (only-does begins g is no_groups [] is_several (omega (arith, few)) low last k.0)
    where
      last : ends_segment is no_groups ≡ true
      last = or_right (ends_with_jump is) true refl
  entered begins g cases e is (group_then cases' e' is' gs') is_several has few low k =
      by (ends_segment is (group_then cases' e' is' gs')) refl
      (λ z. entered false (suc g) cases' e' is' gs' (λ _. z) (λ y. has (or_right (not (ends_segment is (group_then cases' e' is' gs'))) (some_segment_has_several (group_then cases' e' is' gs')) y))
      (omega (arith, few))
      (omega (arith, low)) k.1)
    where
      rest : GroupTrees
      rest = group_then cases' e' is' gs'

      by : (ends : Bool) → ends_segment is rest ≡ ends → (several ≡ true → Does (groups_jump rest) (groups_done 0 (groups_runs c vs rest)) 0 (segments_made vs false (suc g) rest)) →
          Does (items_jump is || groups_jump rest) (groups_done 0 (groups_runs c vs (group_then cases e is rest))) 0
          (segments_with begins ends g (can_leave (items_exits is)) (items is) (segments_made vs ends (suc g) rest))
      by true z r = only-does begins g is rest (segments_made vs true (suc g) rest) is_several (omega (arith, few)) low z k.0
      by false z r =
          let s = has (or_left (not (ends_segment is rest)) (some_segment_has_several rest) (not-true (ends_segment is rest) z)) in
          more-does begins g is (groups_jump rest) (groups_done 0 (groups_runs c vs rest)) (segments_made vs false (suc g) rest) s (omega (arith, few)) low k.0 (r s)

  -- ---- the segment of the target

  abbrev IsSome : List (Point → Built (Unit {0})) → Type 0
  IsSome [] = ⊥
  IsSome (x ∷ xs) = Unit {0}

  with-some : (begins ends : Bool) (g : ℕ) (l : Bool) (made : Point → Built (Unit {0})) (later : List (Point → Built (Unit {0}))) → IsSome (segments_with begins ends g l made later)
  with-some true true g l made later = tt
  with-some false true g l made later = tt
  with-some true false g l made [] = tt
  with-some false false g l made [] = tt
  with-some true false g l made (rest ∷ later) = tt
  with-some false false g l made (rest ∷ later) = tt

  some-segments : (g : ℕ) (is : ItemTrees) (gs : GroupTrees) → ends_segment is gs ≡ false → IsSome (segments_made vs false g gs)
  some-segments g is no_groups e = let z = sym (or_right (ends_with_jump is) true refl) ∙ e in absurd cc
  some-segments g is (group_then cases d js gs) e =
      with-some false (ends_segment js gs) g (can_leave (items_exits js)) (items js) (segments_made vs (ends_segment js gs) (suc g) gs)

  -- a group of another segment stands first
  apart-does : (begins : Bool) (g : ℕ) (l : Bool) (made : Point → Built (Unit {0})) (b : Bool) (run : State → Answer Flowed) (j : ℕ) (later gs : List (Point → Built (Unit {0}))) →
      Does b run j (later ++ gs) →
      Does b run (suc j) (segments_with begins true g l made later ++ gs)
  apart-does true g l made b run j later gs r = record { made = r.made; there = r.there; keeps = r.keeps; does = r.does }
  apart-does false g l made b run j later gs r = record { made = r.made; there = r.there; keeps = r.keeps; does = r.does }

  -- a group of the same segment, or of another one, stands first
  over-does : (begins : Bool) (g : ℕ) (is : ItemTrees) (b : Bool) (run : State → Answer Flowed) (j : ℕ) (later gs : List (Point → Built (Unit {0}))) → IsSome later → several ≡ true → suc g < 2 ^ 32 →
      g < from →
      Does b run j (later ++ gs) → Does (items_jump is || b) run j (segments_with begins false g (can_leave (items_exits is)) (items is) later ++ gs)
  over-does begins g is b run j [] gs some is_several few low r = absurd some
  over-does begins g is b run j (rest ∷ later) gs some is_several few low r = by begins j r
    where
      by : (begins : Bool) (j : ℕ) → Does b run j (rest ∷ later ++ gs) → Does (items_jump is || b) run j (segments_with begins false g (can_leave (items_exits is)) (items is) (rest ∷ later) ++ gs)
      by true zero r =
          let keeps = subst Keeps (sym (some-inj r.there)) r.keeps in
          record {
            made = joined g is rest;
            there = refl;
            keeps = joined-keeps g is rest keeps;
            does = joined-passed is_several g few is b rest run keeps (subst (λ z. PartClaim b z run) (sym (some-inj r.there)) r.does) low;
          }
      by false zero r =
          let keeps = subst Keeps (sym (some-inj r.there)) r.keeps in
          record {
            made = joined g is rest;
            there = refl;
            keeps = joined-keeps g is rest keeps;
            does = joined-passed is_several g few is b rest run keeps (subst (λ z. PartClaim b z run) (sym (some-inj r.there)) r.does) low;
          }
      by true (suc j) r = does-more (items_jump is) b run (suc j) (joined g is rest ∷ later ++ gs) (record { made = r.made; there = r.there; keeps = r.keeps; does = r.does })
      by false (suc j) r = does-more (items_jump is) b run (suc j) (joined g is rest ∷ later ++ gs) (record { made = r.made; there = r.there; keeps = r.keeps; does = r.does })

  -- The region that the segment of the target picks does the groups from that of the target on.
  pub target-does : (begins : Bool) (k g : ℕ) (gs : GroupTrees) (t : Target) → IsTarget k g gs t → t.group ≡ from → (begins ≡ false → several ≡ true) → Several gs → g + group_count gs < 2 ^ 32 →
      GroupsClaim gs →
      Does (groups_jump gs) (groups_done (from - g) (groups_runs c vs gs)) (t.segment - k) (segments_made vs begins g gs ++ nothing ∷ [])
  target-does begins k g no_groups t h e is_several has few claims =
      record {
        made = nothing;
        there = let same = h.0 in let z : t.segment - k ≡ 0 = omega (arith, same) in ap (λ i. slice_get (nothing ∷ []) i) z;
        keeps = later_here;
        does = λ xs o r s q h' j has'. nothing-sim w functions c d fit f xs o s q normal h';
      }
  target-does begins k g (group_then cases e' is gs) t (inl h) e is_several has few claims =
      let segment = h.0 in
      let group = h.1 in
      let z : 0 ≡ t.segment - k = omega (arith, segment) in
      let z' : 0 ≡ from - g = omega (arith, group, e) in
      subst (λ i. Does (items_jump is || groups_jump gs) (groups_done (from - g) (groups_runs c vs (group_then cases e' is gs))) i
      (segments_made vs begins g (group_then cases e' is gs) ++ nothing ∷ [])) z
      (subst (λ i. Does (items_jump is || groups_jump gs) (groups_done i (groups_runs c vs (group_then cases e' is gs))) 0 (segments_made vs begins g (group_then cases e' is gs) ++ nothing ∷ [])) z'
      (first-does (items_jump is || groups_jump gs) (groups_done 0 (groups_runs c vs (group_then cases e' is gs))) (segments_made vs begins g (group_then cases e' is gs)) (nothing ∷ [])
      (entered begins g cases e' is gs is_several has few (omega (arith, group, e)) claims)))
  target-does begins k g (group_then cases e' is gs) t (inr h) e is_several has few claims =
      subst (λ i. Does (items_jump is || groups_jump gs) (groups_done i (groups_runs c vs (group_then cases e' is gs))) (t.segment - k)
      (segments_made vs begins g (group_then cases e' is gs) ++ nothing ∷ [])) z'
      (by (ends_segment is gs) refl bounds.segment_low
      (target-does (ends_segment is gs) (next_segment k is gs) (suc g) gs t h e (λ z. has (or_left (not (ends_segment is gs)) (some_segment_has_several gs) (not-true (ends_segment is gs) z)))
      (λ y. has (or_right (not (ends_segment is gs)) (some_segment_has_several gs) y)) (omega (arith, few)) claims.1))
    where
      bounds : Bounded (next_segment k is gs) (suc g) (group_count gs) t
      bounds = target-bounds (next_segment k is gs) (suc g) gs t h

      z' : suc (from - suc g) ≡ from - g
      z' = let low = bounds.group_low in omega (arith, low, e)

      by : (ends : Bool) → ends_segment is gs ≡ ends → cond ends (suc k) k ≤ t.segment →
          Does (groups_jump gs) (groups_done (from - suc g) (groups_runs c vs gs)) (t.segment - cond ends (suc k) k) (segments_made vs ends (suc g) gs ++ nothing ∷ []) →
          Does (items_jump is || groups_jump gs) (groups_done (from - suc g) (groups_runs c vs gs)) (t.segment - k)
          (segments_with begins ends g (can_leave (items_exits is)) (items is) (segments_made vs ends (suc g) gs) ++ nothing ∷ [])
      by true y low r =
          let z : suc (t.segment - suc k) ≡ t.segment - k = omega (arith, low) in
          does-more (items_jump is) (groups_jump gs) (groups_done (from - suc g) (groups_runs c vs gs)) (t.segment - k)
          (segments_with begins true g (can_leave (items_exits is)) (items is) (segments_made vs true (suc g) gs) ++ nothing ∷ [])
          (subst (λ i. Does (groups_jump gs) (groups_done (from - suc g) (groups_runs c vs gs)) i (segments_with begins true g (can_leave (items_exits is)) (items is)
          (segments_made vs true (suc g) gs) ++ nothing ∷ [])) z
          (apart-does begins g (can_leave (items_exits is)) (items is) (groups_jump gs) (groups_done (from - suc g) (groups_runs c vs gs)) (t.segment - suc k) (segments_made vs true (suc g) gs)
          (nothing ∷ []) r))
      by false y low r =
          let s = has (or_left (not (ends_segment is gs)) (some_segment_has_several gs) (not-true (ends_segment is gs) y)) in
          let l = bounds.group_low in
          over-does begins g is (groups_jump gs) (groups_done (from - suc g) (groups_runs c vs gs)) (t.segment - k) (segments_made vs false (suc g) gs) (nothing ∷ [])
          (some-segments (suc g) is gs y) s (omega (arith, few))
          (omega (arith, l, e)) r
