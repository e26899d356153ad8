use Rattle.std.proofs.Common.{◌∙◌}
use Rattle.r_invert.specs.Edit.{parts_are}
use Rattle.r_invert.specs.Rule.{inverted}
use Rattle.r_invert.proofs.part.two_made.Goals as goal

pub returns : goal.returns
returns c =
    c.in_ok-made.ensures.region ∙ (λ i. inverted c.args.next (parts_are (c.in_ok-test.ensures i) (c.in_ok-stop.ensures i) (c.in_ok-go.ensures i)))
