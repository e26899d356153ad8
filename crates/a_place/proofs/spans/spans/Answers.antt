use Rattle.std.proofs.Common.{◌≡◌, ◌∙◌, ap, length, map, arith}
use Rattle.s_linear.specs.Views.{line_of}
use Rattle.a_place.proofs.Intervals.{all_filled, all_written}
use Rattle.a_place.proofs.spans.spans.Goals as goal

pub returns : goal.returns
returns c =
    let size : length c.fill.new.spans ≡ length c.in_ok-spans.spans.items = c.fill.auto.spans ∙ ap length c.deref_mut.ensures.value in
    all_written c.fill.new.spans c.in_ok-spans.spans.items c.in_ok-spans.spans.len size (omega arith)
    ∙ all_filled (map line_of c.args.lines.now) c.fill.new.spans (omega (arith, size, c.requires, c.in_ok-spans.ensures.len))
    (λ x d h. c.in_ok-fill.ensures x d (omega arith))
