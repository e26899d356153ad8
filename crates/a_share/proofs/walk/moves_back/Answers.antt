use Rattle.std.proofs.Common.{◌≡◌, ◌-◌, ◌∙◌, map, length, length-set, refl, ap, subst, arith}
use Rattle.s_linear.specs.Views.{line_of}
use Rattle.a_share.proofs.Choosing.{IsRestored}
use Rattle.a_share.proofs.Moving.{move_first, move_next, move_last}
use Rattle.a_share.proofs.walk.moves_back.Goals as goal

pub moves-init : goal.moves-init
moves-init c = record {
  moving = λ J is L s room range now. move_first (map line_of c.args.lines.now) c.args.depth L c.args.needs.now c.args.back c.args.jump is s range now;
  low = λ h. h;
  high = omega arith;
  depths = refl;
  copies = refl;
}

pub moves-preserved : goal.moves-preserved
moves-preserved c =
    let before = c.moves.invariant in
    let step = c.in_ok-instr.ensures in
    record {
      moving = λ J is L s room range now.
          move_next (map line_of c.args.lines.now) J c.args.depth L c.args.needs.now c.moves.needs c.instr.new.self c.args.back c.moves.at c.args.jump is
          c.moves-test.true before.high room (λ js t. before.moving J js L t room range now) step.passed step.depths step.size step.others step.copy s;
      low = λ h. omega (arith, c.moves-test.true);
      high = omega (arith, before.high);
      depths = ap length step.depths ∙ length-set c.moves.needs.depths.items (c.moves.at - 1) c.args.depth ∙ before.depths;
      copies = step.size ∙ before.copies;
    }

pub returns-clause-moved : goal.returns-clause-moved
returns-clause-moved c = λ J is L s room range now.
    let mark : c.len-mark.result ≡ length c.args.needs.now.changed.items = c.len-mark.ensures ∙ c.args.needs.now.changed.ok.0 in
    let back = c.in_ok-restore.ensures in
    let r : IsRestored c.moves.needs c.restore.new.self c.len-mark.result c.args.back = record {
      toggled = back.toggled;
      changed = back.changed;
      depths = back.depths;
      copies = back.copies;
    } in
    move_last (map line_of c.args.lines.now) c.args.depth L c.args.needs.now c.moves.needs c.restore.new.self c.args.back c.moves.at c.args.jump is c.moves-test.false
    c.moves.invariant.low s (λ js t. c.moves.invariant.moving J js L t room range now)
    (subst (λ z. IsRestored c.moves.needs c.restore.new.self z c.args.back) mark r)
