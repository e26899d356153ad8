use Rattle.std.proofs.Common.{◌≡◌, ◌∙◌, ap, arith}
use Rattle.s_linear.specs.Lines.{line_names}
use Rattle.s_linear.specs.Views.{line_of}
use Rattle.a_place.specs.Places.{above}
use Rattle.a_share.proofs.Tables.{line_below}
use Rattle.a_share.proofs.facts.name_depths.Goals as goal

pub raise-requires : goal.raise-requires
raise-requires c =
    let below = line_below c.args.lines.now c.loop-position.position c.index-lines-position.result c.loop-position-test.true c.index-lines-position.is in
    let names : above c.as_slice.result.now ≡ above (line_names (line_of c.index-lines-position.result)) = ap above (c.as_slice.ensures.value ∙ c.in_ok-read_names.ensures) in
    omega (arith, below, names, c.requires.names, c.loop-position.invariant.count, c.deref_mut.ensures.len)
