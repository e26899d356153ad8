use Rattle.std.proofs.Common.{◌≡◌, ◌+◌, suc, ◌++◌, ◌∷◌, [], take, arith, ap, ◌∙◌}
use Rattle.r_dne.specs.Listed.{used_loops}
use Rattle.r_dne.proofs.Loops.{one_more, all_taken, loops_told}
use Rattle.r_dne.proofs.theta_sweep.judge.Goals as goal

pub loop-index-preserved : goal.loop-index-preserved
loop-index-preserved g c = record {
  stay = λ x r e f.
      let one : suc c.loop-index.index ≡ c.loop-index.index + 1 = omega arith in
      let loops = used_loops c.args.arena.now x r 0 r.args in
      c.in_ok-push.ensures.items ∙ ap (λ ts. ts ++ c.variable_stays.result ∷ []) (c.loop-index.invariant.stay x r e f)
      ∙ one_more c.loop-index.index loops c.variable_stays.result (c.variable_stays.ensures.stays x r e f) ∙ ap (λ k. take k loops) one;
  looks = omega arith;
}

pub returns-clause-stay : goal.returns-clause-stay
returns-clause-stay g c = λ x r e f.
    c.loop-index.invariant.stay x r e f
    ∙ all_taken c.loop-index.index (used_loops c.args.arena.now x r 0 r.args) (omega (arith, loops_told c.args.shape c.args.arena.now c.requires.whole c.requires.shape c.requires.theta x r e f))
