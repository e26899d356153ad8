-- `switch`, from what is claimed of its value and of its groups.
use Rattle.std.proofs.Common.{◌≡◌, ◌<◌, ℕ, ◌-◌, ◌%◌, ◌^◌, List, [], ◌∷◌, ◌++◌, refl, sym, ap, ◌∙◌, subst, arith}
use Rattle.std.specs.Prelude.{Bool, true, false}
use Rattle.val_core.specs.declared.values.Value.{Value}
use Rattle.val_core.specs.declared.values.Value.TheVariants.{Num, At, Bad}
use Rattle.val_core.specs.Refinement.{Direction, exactly, Refines}
use Rattle.val_core.specs.Answers.{Answer, Returned, then_on, on_number}
use Rattle.c_typed.specs.Typed.{ExprTree, switch, GroupTrees, no_groups, group_then, VariableTree}
use Rattle.c_typed.specs.WellTyped.{Signature, IsPromoted, type_of, all_cases, AreWords, AreDistinct}
use Rattle.c_mean.specs.State.{State}
use Rattle.c_mean.specs.Expressions as source
use Rattle.c_mean.specs.Expressions.{expr_run}
use Rattle.c_mean.specs.Statements.{normal, Flowed, past_flow, past, group_count, chosen_groups, groups_done, groups_runs}
use Rattle.g_graph.specs.declared.op.Origin.{Origin}
use Rattle.g_graph.specs.Plain.{nodes_of}
use Rattle.g_build_def.specs.Writer.{Point, Built, nothing, bind, no_value, inside, choices}
use Rattle.g_build_def.specs.Expressions.{expr_made}
use Rattle.g_build_def.specs.Exits.{groups_exits, groups_jump}
use Rattle.g_build_def.specs.Jumps.{break_ended}
use Rattle.g_build_def.specs.Statements.{segments_made}
use Rattle.g_build_def.specs.Switch.{some_segment_has_several, Target, default_target, Label, labels_of, Selected, segment_made, from_made, from_popped, chosen_made, switch_made}
use Rattle.g_build_def.specs.Laws.{Later}
use Rattle.g_build_def.proofs.lemmas.Later.{later_here, choices_later, EachKeeps}
use Rattle.g_build_def.proofs.lemmas.LaterExpressions.{expr_later}
use Rattle.g_build_def.proofs.lemmas.LaterStatements.{segment_later, with_from as in_scope, from_later, each_append, segments_later}
use Rattle.g_build_keeps.proofs.lemmas.Exits.{MayJump, groups_break}
use Rattle.g_mean.specs.Data.{Datum}
use Rattle.g_mean.specs.Meaning.{Context, Outputs, no_outputs, read as read_origin, nodes_run}
use Rattle.g_build_keeps.specs.Exits.{Allows}
use Rattle.g_build_keeps.proofs.Readings.{IsSoundRun}
use Rattle.g_build_keeps.proofs.Toolbox.{Ran, Simulates, sim-bind}
use Rattle.g_build_keeps.proofs.Held.{Held, shown-held, Frame, Holds}
use Rattle.g_build_keeps.proofs.Choice.{Nothing, no_value-gives}
use Rattle.g_build_keeps.proofs.Choices.{choices-sim}
use Rattle.g_build_keeps.proofs.Targets.{summed, target_of, is-target, target-bounds, target-group, default-leads, segment-sum, group-sum}
use Rattle.g_build_keeps.proofs.Unary.{promoted-scalar}
use Rattle.g_build_keeps.proofs.Claims.{ContextsFit, Typed}
use Rattle.g_build_keeps.proofs.Forms.{ExprClaim}
use Rattle.g_build_keeps.proofs.Leaves.{groups-end, groups-done-end, unbroken}
use Rattle.g_build_keeps.proofs.Jumps.{Flows, may-later, may-inside, sim-gives}
use Rattle.g_build_keeps.proofs.Statements.{StmtClaim, ItemsClaim, nothing-sim}
use Rattle.g_build_keeps.proofs.Turns.{Stepped, break-ended-sim}
use Rattle.g_build_keeps.proofs.Declarations.{framed}
use Rattle.g_build_keeps.proofs.From.{Reads, HasFrom, from-later, from-inside, from-made-has, with_from, holds-popped}
use Rattle.g_build_keeps.proofs.Selected.{reads-of, reads-after, Selects, segment-sim, from-sim}
use Rattle.g_build_keeps.proofs.Segments.{GroupsClaim, Does, target-does}

-- what follows on a number: on another value the source is undefined
number-there : {A B : Type 0} → (w : Direction) (R : A → B → Type 0) (v : Value) (next : ℕ → Answer A) (b : Answer B) → ((n : ℕ) → v ≡ Num n → Refines exactly w R (next n) b) →
    Refines exactly w R (on_number v next) b
number-there w R (Num n) next b go = go n refl
number-there w R (At a o) next b go = tt
number-there w R Bad next b go = tt

-- a form that may jump, with `from` in scope
may-hide : (several : Bool) (s : Point) (b : Bool) → MayJump s.carried.form b → MayJump (in_scope several s).carried.form b
may-hide true s b h = h
may-hide false s b h = h

module _ (w : Direction) (functions : List Signature) (c : source.Context) (d : Context) (fit : ContextsFit w functions c d) (n : ℕ) (m : Bool) (vs : List VariableTree) where
  -- what is claimed of the groups of a `switch`, whatever is carried without a slot
  abbrev pub GroupClaims : GroupTrees → Type 0
  GroupClaims no_groups = Unit {0}
  GroupClaims (group_then cases e is gs) = ((hs : List ℕ) → ItemsClaim w functions c d fit (framed hs n m) vs is) × GroupClaims gs

  claims-at : (hs : List ℕ) (several : Bool) (from : ℕ) (gs : GroupTrees) → GroupClaims gs → GroupsClaim w functions c d fit hs n m vs several from gs
  claims-at hs several from no_groups h = tt
  claims-at hs several from (group_then cases e is gs) h = (h.0 (with_from several hs from), claims-at hs several from gs h.1)

  module _ (hs : List ℕ) (gs : GroupTrees) (words : AreWords (all_cases gs)) (apart : AreDistinct (all_cases gs)) (few : group_count gs < 2 ^ 32) (claims : GroupClaims gs) where
    abbrev f : Frame
    f = framed hs n m

    abbrev several : Bool
    several = some_segment_has_several gs

    abbrev default : Target
    default = default_target 0 0 gs

    abbrev labels : List Label
    labels = labels_of 0 0 gs

    abbrev regions : List (Point → Built (Unit {0}))
    regions = segments_made vs true 0 gs ++ nothing ∷ []

    regions-keep : EachKeeps regions
    regions-keep = each_append (segments_made vs true 0 gs) nothing (segments_later vs true 0 gs) later_here

    module _ (v : ℕ) where
      abbrev target : Target
      target = target_of v gs

      -- with `from` in scope
      abbrev g : Frame
      g = framed (with_from several hs target.group) n m

      abbrev run : State → Answer Flowed
      run q = groups_done (group_count gs - group_count (chosen_groups v gs)) (groups_runs c vs gs) q

      -- the region that the number of the segment picks
      picked-does : Does w functions c d fit hs n m vs several target.group (groups_jump gs) run target.segment regions
      picked-does =
          subst (λ i. Does w functions c d fit hs n m vs several target.group (groups_jump gs) run i regions) (omega arith)
          (subst (λ i. Does w functions c d fit hs n m vs several target.group (groups_jump gs) (groups_done i (groups_runs c vs gs)) (target.segment - 0) regions) same
          (target-does w functions c d fit hs n m vs several target.group true 0 0 gs target (is-target v gs) refl (λ z. absurd cc) (λ z. z) (omega (arith, few))
          (claims-at hs several target.group gs claims)))
        where
          same : target.group - 0 ≡ group_count gs - group_count (chosen_groups v gs)
          same = let z = target-group v gs in omega (arith, z)

      segment-word : summed v default.segment (λ t. t.segment) (default.segment % 2 ^ 32) labels ≡ target.segment
      segment-word = ap (λ a. summed v default.segment (λ t. t.segment) a labels) small ∙ segment-sum v gs words apart few
        where
          small : default.segment % 2 ^ 32 ≡ default.segment
          small = let high = (target-bounds 0 0 gs default (default-leads 0 0 gs)).segment_high in omega (arith, high, few)

      from-word : summed v default.group (λ t. t.group) (default.group % 2 ^ 32) labels ≡ target.group
      from-word = ap (λ a. summed v default.group (λ t. t.group) a labels) small ∙ group-sum v gs words apart few
        where
          small : default.group % 2 ^ 32 ≡ default.group
          small = let high = (target-bounds 0 0 gs default (default-leads 0 0 gs)).group_high in omega (arith, high, few)

      -- the region is chosen
      regions-sim : (xs : List Datum) (o : Outputs) → IsSoundRun xs o → (s : Point) (q : State) → Holds g normal (read_origin xs o) s.next s.carried q → MayJump s.carried.form (groups_jump gs) →
          HasFrom several s.carried.variables → (p : Origin) → Reads (read_origin xs o) s.next target.segment p → Simulates w d (Flows g) xs o s.next (choices no_value s p regions) (run q)
      regions-sim xs o r s q h j has p e =
          choices-sim w d g (λ x. x.flow) (λ x. x.state) Nothing Nothing no_value xs o r s p target.segment picked-does.made regions (run q) normal q
          (no_value-gives xs o s.next) e.0 picked-does.there picked-does.keeps
          regions-keep h (λ us i r' h'. picked-does.does us no_outputs r' (inside s.carried i) q h' (may-inside s.carried i (groups_jump gs) j) (from-inside several s.carried i has))

      -- and then `from` leaves, and the `break` of the `switch` has ended
      left-sim : (xs : List Datum) (o : Outputs) → IsSoundRun xs o → (s : Point) (q : State) → Holds g normal (read_origin xs o) s.next s.carried q → MayJump s.carried.form (groups_jump gs) →
          HasFrom several s.carried.variables → (p : Origin) → Reads (read_origin xs o) s.next target.segment p →
          Simulates w d (Flows f) xs o s.next (bind (choices no_value s p regions) (λ _ t. break_ended (groups_exits gs).breaks (from_popped several t))) (then_on (run q) past)
      left-sim xs o r s q h j has p e =
          sim-bind w d fit.sound (λ y rd t u. Allows (groups_exits gs) y.flow × Flows g y rd t u) (Flows f) xs o s.next r made (λ _ t. break_ended (groups_exits gs).breaks (from_popped several t))
          (run q) past
          (sim-gives w d g (λ y. Allows (groups_exits gs) y.flow) (Flows g) xs o s.next made (run q)
          (groups-done-end (groups_exits gs) (group_count gs - group_count (chosen_groups v gs)) (groups_runs c vs gs) (groups-end c vs gs) q) (regions-sim xs o r s q h j has p e)) (λ y o' r' k.
          ended several y o' r' (unbroken (groups_exits gs) y.flow k.post.0)
          (holds-popped hs n m target.group y.flow (read_origin xs o') made.after.next made.after y.state several (from-later several s made.after later has) k.post.1.0)
          (may-later s made.after (groups_exits gs).breaks later (groups_break s.carried.form gs j)))
        where
          made : Built (Unit {0})
          made = choices no_value s p regions

          later : Later s made.after
          later = choices_later no_value s p regions regions-keep

          ended : (several : Bool) (y : Flowed) (o' : Outputs) → IsSoundRun xs o' → ((groups_exits gs).breaks ≡ false → past_flow y.flow ≡ y.flow) →
              Holds f y.flow (read_origin xs o') made.after.next (from_popped several made.after).carried y.state → MayJump made.after.carried.form (groups_exits gs).breaks →
              Simulates w d (Flows f) xs o' made.after.next (break_ended (groups_exits gs).breaks (from_popped several made.after)) (past y)
          ended true y o' r' none h' may = break-ended-sim w functions c d fit f (groups_exits gs).breaks y.flow none xs o' r' (from_popped true made.after) y.state h' may
          ended false y o' r' none h' may = break-ended-sim w functions c d fit f (groups_exits gs).breaks y.flow none xs o' r' made.after y.state h' may

      pub chosen-sim : (xs : List Datum) (o : Outputs) → IsSoundRun xs o → (s : Point) (q : State) → Holds f normal (read_origin xs o) s.next s.carried q → MayJump s.carried.form (groups_jump gs) →
          (p : Origin) → Reads (read_origin xs o) s.next v p → Simulates w d (Flows f) xs o s.next (chosen_made p gs (segments_made vs true 0 gs) s) (then_on (run q) past)
      chosen-sim xs o r s q h j p e =
          sim-bind w d fit.sound (Selects w d fit.sound f normal q v target.segment labels) (Flows f) xs o s.next r first
          (λ x t. bind (from_made several default.group labels x.equals t) (λ _ u. bind (choices no_value u x.number regions) (λ _ z. break_ended (groups_exits gs).breaks (from_popped several z))))
          (Returned tt []) (λ _. then_on (run q) past)
          (subst (λ k. Simulates w d (Selects w d fit.sound f normal q v k labels) xs o s.next first (Returned tt [])) segment-word
          (segment-sim w d fit.sound f normal q p v default.segment labels xs o r s h e)) (λ y o1 r1 m1.
          sim-bind w d fit.sound (Stepped g normal) (Flows f) xs o1 first.after.next r1 second (λ _ u. bind (choices no_value u first.value.number regions)
          (λ _ z. break_ended (groups_exits gs).breaks (from_popped several z)))
          (Returned q []) (λ u. then_on (run u) past)
          (subst (λ k. Simulates w d (Stepped (framed (with_from several hs k) n m) normal) xs o1 first.after.next second (Returned q [])) from-word
          (from-sim w d fit.sound hs n m q several v default.group labels first.value.equals xs o1 r1 first.after m1.post.0 m1.post.2)) (λ u o2 r2 m2.
          left-sim xs o2 r2 second.after u m2.post.0
          (may-later (in_scope several first.after) second.after (groups_jump gs) (from_later several default.group labels first.value.equals first.after)
          (may-hide several first.after (groups_jump gs) (may-later s first.after (groups_jump gs) (segment_later p default.segment labels s) j)))
          (from-made-has several default.group labels first.value.equals first.after) first.value.number
          (reads-after (Stepped g normal) xs o1 first.after.next second u o2 m2 target.segment first.value.number m1.post.1)))
        where
          first : Built Selected
          first = segment_made p default.segment labels s

          second : Built (Unit {0})
          second = from_made several default.group labels first.value.equals first.after

    picks-sim : (xs : List Datum) (o : Outputs) → IsSoundRun xs o → (s : Point) (q : State) → Holds f normal (read_origin xs o) s.next s.carried q → MayJump s.carried.form (groups_jump gs) →
        (p : Origin) (v : ℕ) → Reads (read_origin xs o) s.next v p →
        Simulates w d (Flows f) xs o s.next (switch_made p gs (segments_made vs true 0 gs) s)
        (then_on (groups_done (group_count gs - group_count (chosen_groups v gs)) (groups_runs c vs gs) q) past)
    picks-sim xs o r s q h j p v e = by gs refl
      where
        by : (hs : GroupTrees) → gs ≡ hs →
            Simulates w d (Flows f) xs o s.next (switch_made p gs (segments_made vs true 0 gs) s) (then_on
            (groups_done (group_count gs - group_count (chosen_groups v gs)) (groups_runs c vs gs) q) past)
        by no_groups z =
            subst (λ hs. Simulates w d (Flows f) xs o s.next (switch_made p hs (segments_made vs true 0 hs) s)
            (then_on (groups_done (group_count hs - group_count (chosen_groups v hs)) (groups_runs c vs hs) q) past)) (sym z)
            (nothing-sim w functions c d fit f xs o s q normal h)
        by (group_then cases e' is hs) z =
            subst (λ b. Simulates w d (Flows f) xs o s.next b (then_on (groups_done (group_count gs - group_count (chosen_groups v gs)) (groups_runs c vs gs) q) past)) (sym (same z))
            (chosen-sim v xs o r s q h j p e)
          where
            same : gs ≡ group_then cases e' is hs → switch_made p gs (segments_made vs true 0 gs) s ≡ chosen_made p gs (segments_made vs true 0 gs) s
            same z = subst (λ hs. switch_made p hs (segments_made vs true 0 hs) s ≡ chosen_made p hs (segments_made vs true 0 hs) s) (sym z) refl

    pub switch-stmt : (e : ExprTree) → IsPromoted (type_of e) → ExprClaim w functions c d fit f normal e → StmtClaim w functions c d fit f vs (switch e gs)
    switch-stmt e promoted k xs o r s q h j =
        sim-bind w d fit.sound (Typed f normal (type_of e)) (Flows f) xs o s.next r first (λ p t. switch_made p gs (segments_made vs true 0 gs) t) (expr_run c e q)
        (λ x. on_number x.value (λ v. then_on (groups_done (group_count gs - group_count (chosen_groups v gs)) (groups_runs c vs gs) x.state) past)) (k xs o r s q h) (λ y o' r' i.
        number-there w (Ran (Flows f) xs o' first.after.next (rest first.value first.after)) y.value (λ v. then_on
        (groups_done (group_count gs - group_count (chosen_groups v gs)) (groups_runs c vs gs) y.state) past)
        (nodes_run d (nodes_of (rest first.value first.after).nodes) xs o') (λ v z.
        picks-sim xs o' r' first.after y.state i.post.0 (may-later s first.after (groups_jump gs) (expr_later e s) j) first.value v
        (reads-of (read_origin xs o') first.after.next v first.value
        (subst (λ u. Held (read_origin xs o') first.after.next u first.value) z
        (shown-held (read_origin xs o') first.after.next (type_of e) y.value first.value (promoted-scalar (type_of e) promoted) i.post.1)))))
      where
        first : Built Origin
        first = expr_made e s

        rest : Origin → Point → Built (Unit {0})
        rest p t = switch_made p gs (segments_made vs true 0 gs) t
