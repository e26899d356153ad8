-- The region of a Theta: its turns and those of the loop agree.
use Rattle.std.proofs.Common.{◌≡◌, ◌<◌, inr, ℕ, zero, suc, ◌+◌, ◌==◌, Bool, true, false, cond, List, [], ◌∷◌, map, Some, refl, sym, subst, ◌∙◌, arith}
use Rattle.val_core.specs.Values.{IsLessDefined}
use Rattle.val_core.specs.Objects.{Addresses}
use Rattle.val_core.specs.Answers.{Answer, Returned, then_on, on_number}
use Rattle.g_graph.specs.declared.op.Kind.{Kind}
use Rattle.g_graph.specs.declared.op.Kind.TheVariants.{Value as ValueKind}
use Rattle.g_graph.specs.declared.op.Origin.{Origin}
use Rattle.g_graph.specs.Plain.{RegionTree, region, NodeTrees, no_regions, region_then, args_of}
use Rattle.g_graph.specs.Signatures.{result_kinds}
use Rattle.g_graph.specs.Scope.{is_of}
use Rattle.g_graph.specs.WellFormed.{some_of, region_fits}
use Rattle.g_mean.specs.Data.{Datum, value_of}
use Rattle.g_mean.specs.Meaning as graph
use Rattle.g_mean.specs.Meaning.{Meaning, Outputs, no_outputs, read, nodes_run, region_meaning}
use Rattle.s_linear.specs.Linear.{Code, no_steps}
use Rattle.val_core.specs.Numbers.{numbers_from}
use Rattle.s_linear.specs.Meaning as linear
use Rattle.s_linear.specs.Meaning.{State, Call, instrs_run, code_run, step_run}
use Rattle.s_sequence.specs.Sequence.{value_args, kept, Names, no_names, nodes_names, outputs_at, nodes_named, name_of, moves, instrs_then, nodes_code, loop_step}
use Rattle.s_sequence_keeps.specs.Agreement.{Agrees}
use Rattle.s_sequence_keeps.proofs.AgreeingAnswers.{agrees-then, agrees-number, agrees-change}
use Rattle.s_sequence_keeps.proofs.Held.{IsState, moved, moves-run, moves-then, moved-below, tied-less, Held, Carries, moves-carry, carries-back}
use Rattle.s_sequence_keeps.proofs.Running.{Running, NodeDone, held}
use Rattle.s_sequence_keeps.proofs.Claims.{graph_context, code_context, RegionClaim, nodes-then}
use Rattle.s_sequence_keeps.proofs.Branches.{region-tests}

module _ (n : ℕ) (call : ℕ → Meaning) (callees : ℕ → Call) (addresses : Addresses) where
  abbrev c : graph.Context
  c = graph_context n call addresses

  abbrev d : linear.Context
  d = code_context n callees addresses

  -- the loop of a region whose names begin at `next`, entered in a state
  module _ (objects : ℕ) (args : List Kind) (nodes : NodeTrees) (predicate : Origin) (results : List Origin)
      (claim : RegionClaim c d (region args nodes (predicate ∷ results)))
      (fits : region_fits objects (region args nodes (predicate ∷ results)) ≡ true)
      (kinds : result_kinds (region args nodes (predicate ∷ results)) ≡ map Some (ValueKind ∷ args)) (next : ℕ)
      (start : State) where
    abbrev r : RegionTree
    r = region args nodes (predicate ∷ results)

    abbrev all : Names
    all = nodes_named nodes (next + value_args args) no_names

    abbrev top : ℕ
    top = next + value_args args + nodes_names nodes

    abbrev p : ℕ
    p = name_of args next all predicate

    abbrev found : List ℕ
    found = map (name_of args next all) results

    abbrev ends : Code
    ends = instrs_then (moves top (kept (map Some args) found)) no_steps

    abbrev body : Code
    body = nodes_code args next no_names (next + value_args args) nodes ends

    abbrev Kept : State → Type 0
    Kept t = (y : ℕ) → y < next → t.names y ≡ start.names y

    -- after a turn the predicate and the new variables are held
    record TurnDone (ys : List Datum) (t : State) : Type 0 where
      test : Datum
      rest : List Datum
      is : ys ≡ test ∷ rest
      less : IsLessDefined (value_of test) (t.names p)
      carries : Carries args rest top t
      keeps : Kept t

    body-agrees : (xs : List Datum) (s : State) → Carries args xs next s → Kept s → Agrees TurnDone (region_meaning c r xs) (code_run d body s)
    body-agrees xs s h k =
        rw (nodes-then d args next no_names (next + value_args args) nodes ends s)
        (agrees-then (Running args next xs s nodes all top) TurnDone (nodes_run c nodes xs no_outputs)
        (code_run d (nodes_code args next no_names (next + value_args args) nodes no_steps) s)
        (λ o. Returned (map (read xs o) (predicate ∷ results)) []) (code_run d ends) (claim next xs s h) after)
      where
        after : (o : Outputs) (t : State) → Running args next xs s nodes all top o t →
            Agrees TurnDone (Returned (map (read xs o) (predicate ∷ results)) []) (code_run d ends t)
        after o t run =
            let tests = region-tests objects r fits in
            let all-held = held args next xs s nodes all top o t run (predicate ∷ results) (ValueKind ∷ args) kinds tests.last in
            let tied = all-held.0 in
            let same = moved-below top (kept (map Some args) found) t p tied.below in
            rw (moves-then d top (kept (map Some args) found) no_steps t) (
              record {
                test = read xs o predicate;
                rest = map (read xs o) results;
                is = refl;
                less = subst (λ w. IsLessDefined (value_of (read xs o predicate)) w) (sym same) (tied-less next top (read xs o predicate) p t tied);
                carries = moves-carry next top args (map (read xs o) results) found top t (inr (omega arith)) all-held.1;
                keeps = λ y below. moved-below top (kept (map Some args) found) t y (omega (arith, below)) ∙ run.keeps y below ∙ k y below;
              },
              refl,
            )

    -- after the loop its outputs are
    abbrev LoopDone : List Datum → State → Type 0
    LoopDone ys t = Carries args ys top t × Kept t

    abbrev back : State → Answer State
    back t = instrs_run d (moves next (numbers_from top (value_args args))) t

    abbrev code_turns : ℕ → State → Answer State
    code_turns m s = linear.turns m (code_run d body) p back s

    abbrev TurnsAgree : ℕ → Type 0
    TurnsAgree m = (xs : List Datum) (s : State) → Carries args xs next s → Kept s → Agrees LoopDone (graph.turns m (region_meaning c r) xs) (code_turns m s)

    again-agrees : (m : ℕ) → TurnsAgree m → (ys : List Datum) (t : State) → TurnDone ys t →
        Agrees LoopDone (graph.again (graph.turns m (region_meaning c r)) ys)
        (on_number (t.names p) (λ w. cond (w == 0) (Returned t []) (then_on (back t) (code_turns m))))
    again-agrees m turns-agree ys t done =
        subst (λ us. Agrees LoopDone (graph.again (graph.turns m (region_meaning c r)) us)
        (on_number (t.names p) (λ w. cond (w == 0) (Returned t []) (then_on (back t) (code_turns m)))))
        (sym done.is)
        (agrees-number LoopDone (value_of done.test) (t.names p) done.less _ _ (λ w. by (w == 0)))
      where
        by : (test : Bool) →
            Agrees LoopDone (cond test (Returned done.rest []) (graph.turns m (region_meaning c r) done.rest))
            (cond test (Returned t []) (then_on (back t) (code_turns m)))
        by true = ((done.carries, done.keeps), refl)
        by false =
            rw (moves-run d next (numbers_from top (value_args args)) t)
            (turns-agree done.rest (moved next (numbers_from top (value_args args)) t) (carries-back args done.rest top next t (omega arith) done.carries)
            (λ y below. moved-below next (numbers_from top (value_args args)) t y below ∙ done.keeps y below))

    turns-agree : (m : ℕ) → TurnsAgree m
    turns-agree zero xs s h k = refl
    turns-agree (suc m) xs s h k =
        agrees-then TurnDone LoopDone (region_meaning c r xs) (code_run d body s) (graph.again (graph.turns m (region_meaning c r)))
        (λ t. on_number (t.names p) (λ w. cond (w == 0) (Returned t []) (then_on (back t) (code_turns m)))) (body-agrees xs s h k) (again-agrees m (turns-agree m))

  pub loop-agrees : (objects : ℕ) (r : RegionTree) → RegionClaim c d r → region_fits objects r ≡ true → result_kinds r ≡ map Some (ValueKind ∷ args_of r) →
      ((k : Kind) → IsState k → some_of (is_of k) (map Some (args_of r)) ≡ true) → (first next : ℕ) (entries : List ℕ) (xs : List Datum) (s : State) →
      Held first next (args_of r) xs entries s →
      Agrees (NodeDone next (outputs_at next (region_then r no_regions)) (map Some (args_of r)) s) (graph.turns n (region_meaning c r) xs)
      (step_run d (loop_step entries next r) s)
  loop-agrees objects (region args nodes []) claim fits kinds both first next entries xs s h = absurd cc
  loop-agrees objects (region args nodes (predicate ∷ results)) claim fits kinds both first next entries xs s h =
      rw (moves-run d next (kept (map Some args) entries) s)
      (agrees-change (LoopDone objects args nodes predicate results claim fits kinds next s)
      (NodeDone next (outputs_at next (region_then r' no_regions)) (map Some args) s)
      (graph.turns n (region_meaning c r') xs) _ done
      (turns-agree objects args nodes predicate results claim fits kinds next s n xs (moved next (kept (map Some args) entries) s)
      (moves-carry first next args xs entries next s (inr (omega arith)) h)
      (λ y below. moved-below next (kept (map Some args) entries) s y below)))
    where
      r' : RegionTree
      r' = region args nodes (predicate ∷ results)

      same : next + value_args args + nodes_names nodes ≡ next + (value_args args + nodes_names nodes)
      same = omega arith

      none : (k : Kind) → IsState k → some_of (is_of k) (map Some args) ≡ false → ⊥
      none k state e = let has = both k state in cc

      done : (ys : List Datum) (t : State) → LoopDone objects args nodes predicate results claim fits kinds next s ys t →
          NodeDone next (outputs_at next (region_then (region args nodes (predicate ∷ results)) no_regions)) (map Some args) s ys t
      done ys t l =
          record { own = args; are = refl; carries = subst (λ x. Carries args ys x t) same l.0; keeps = l.1; states = λ k state e. absurd (none k state e) }
