-- A result counts where its output is used.
use Rattle.std.proofs.Common.{◌≡◌, ◌||◌, ◌+◌, List, Bool, suc, drop, get_or, sym, subst, ◌∙◌, arith}
use Rattle.std.proofs.lemmas.List.{at_drop_more}
use Rattle.g_graph.specs.declared.op.Origin.{Origin}
use Rattle.g_graph.specs.declared.op.Origin.TheVariants.{Arg, Out}
use Rattle.r_walk.specs.declared.uses.Uses.{Uses}
use Rattle.r_walk.specs.Walk.{is_in, results_used}
use Rattle.r_walk.specs.Around.{uses_in}
use Rattle.r_walk.proofs.Tables.{used_result, unused_result}
use Rattle.r_walk.proofs.uses.Uses.add_used.Goals as goal
use Rattle.r_walk.proofs.uses.Uses.add_used.Goals.{then-is_used+in_ok-add_one, else-is_used}

pub loop-origin-preserved : goal.loop-origin-preserved
loop-origin-preserved c = λ os outer n p b.
    let items = c.args.results.now in
    let i = c.loop-origin.origin-index in
    let test = c.loop-origin-test.true in
    let step : c.in-Some.next ≡ suc c.loop-origin.port = omega (arith, c.in-Some.ensures.1) in
    let used : uses_in c.args.outer.now c.args.node c.loop-origin.port ≡ is_in os (Out c.args.node c.loop-origin.port) = outer c.args.node c.loop-origin.port (omega (arith, c.in-Some.ensures.0)) in
    let whole : List Origin → Bool = λ xs. uses_in c.loop-origin.self n p || is_in (results_used os c.args.node c.loop-origin.port xs) (Out n p) in
    let result : Uses → Type 0 = λ u. (uses_in u n p || is_in (results_used os c.args.node c.in-Some.next (drop (i + 1) items)) (Out n p)) ≡ (uses_in c.args.self.now n p || is_in (results_used os c.args.node 0 items) (Out n p)) in
    elim c.if-is_used.branch [
      | then-is_used+in_ok-add_one w ↦
          subst result (sym w.self-is)
          (used_result os c.args.node c.loop-origin.port c.in-Some.next step _ (drop (i + 1) items) (Out n p) (uses_in c.loop-origin.self n p) (uses_in w.add_one.new.self n p)
          (sym used ∙ sym c.is_used.ensures ∙ w.if-is_used.true) (w.in_ok-add_one.ensures n p b)
          ∙ sym (at_drop_more whole items i _ test) ∙ c.loop-origin.invariant os outer n p b)
      | else-is_used w ↦
          subst result (sym w.self-is)
          (unused_result os c.args.node c.loop-origin.port c.in-Some.next step (get_or items i (Arg 0)) (drop (i + 1) items) (Out n p) (uses_in c.loop-origin.self n p) (sym used ∙ sym c.is_used.ensures ∙ w.if-is_used.false)
          ∙ sym (at_drop_more whole items i (Arg 0) test) ∙ c.loop-origin.invariant os outer n p b)
    ]
