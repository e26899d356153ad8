use Rattle.std.proofs.Common.{◌<◌, ◌∙◌, ap, sym, map, arith}
use Rattle.s_linear.specs.Views.{line_of}
use Rattle.a_share.specs.Walking.{jump_of}
use Rattle.a_share.proofs.Standing.{line_before_is}
use Rattle.a_share.proofs.walk.jump_before.Goals as goal

pub returns : goal.returns
returns c =
    let later : 0 < c.args.position = omega (arith, c.if-position-eq0.false) in
    c.jump_at.ensures ∙ ap jump_of (sym (line_before_is (map line_of c.args.lines.now) c.args.position later))
