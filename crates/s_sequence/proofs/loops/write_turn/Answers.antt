use Rattle.std.proofs.Common.{◌≡◌, [], ◌∷◌, ◌++◌, ◌+◌, ap, ◌∙◌, map, arith}
use Rattle.std.specs.declared.option.Option.TheVariants.{Some}
use Rattle.s_linear.specs.Lines.{done, branch_zero}
use Rattle.s_sequence.specs.Sequence.{value_args, moves, loop_results, predicate_name}
use Rattle.s_sequence.specs.Ports.{PlainPorts}
use Rattle.s_sequence.specs.Writer.{PlainWriter}
use Rattle.s_sequence.proofs.PortLemmas.{ports_first, ports_end}
use Rattle.s_sequence.proofs.LoopLemmas.{turn_lines}
use Rattle.s_sequence.proofs.loops.write_turn.Goals as goal

pub returns-clause-lines : goal.returns-clause-lines
returns-clause-lines c =
    let kinds = map Some c.args.args.now in
    let n = c.args.w.now.next in
    let same : c.w.inside.next ≡ n = ap (λ (w : PlainWriter). w.next) c.w.view_is in
    let from : c.outputs.inside.first ≡ n = ap (λ (p : PlainPorts). p.first) c.outputs.view_is
    ∙ ports_first c.in_ok-outputs.outputs c.w.inside.next kinds c.in_ok-outputs.ensures ∙ same in
    let to : c.outputs.inside.end ≡ n + value_args c.args.args.now =
    ap (λ (p : PlainPorts). p.end) c.outputs.view_is ∙ ports_end c.in_ok-outputs.outputs c.w.inside.next kinds c.in_ok-outputs.ensures
    ∙ ap (λ k. k + value_args c.args.args.now) same in
    turn_lines c.args.args.now c.args.results.now c.args.base c.args.first n c.outputs.inside.first c.outputs.inside.end c.args.w.now.lines c.write_results.new.w.lines
    c.write_back.new.w.lines
    c.push.new.self.lines c.push-2.new.self.lines from (omega (arith, from, to)) (ap (λ (w : PlainWriter). w.lines) c.in_ok-write_results.ensures
    ∙ ap (λ (w : PlainWriter). w.lines ++ (map done (moves c.outputs.inside.first (loop_results c.args.args.now c.args.results.now))
    ++ branch_zero (predicate_name c.args.results.now)
    (c.args.first + 1) ∷ [])) c.w.view_is)
    (ap (λ (w : PlainWriter). w.lines) c.in_ok-write_back.ensures) (ap (λ (w : PlainWriter). w.lines) c.in_ok-push.ensures)
    (ap (λ (w : PlainWriter). w.lines) c.in_ok-push-2.ensures)
