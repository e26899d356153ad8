use Rattle.std.proofs.Common.{subst}
use Rattle.cc_source.specs.SourceLaws.{AreBytes}
use Rattle.cc_top.proofs.Making.{made_of}
use Rattle.cc_top.proofs.carry.image_of.Goals as goal

pub returns-clause-made : goal.returns-clause-made
returns-clause-made g c =
    let made = c.in_ok-rebuild.field-0 in
    made_of c.recipes_keep_meaning.ensures c.args.session.now made.image.items made.jobs (subst (λ s. AreBytes s) c.source.ensures c.are_bytes.ensures) c.in_ok-rebuild.ensures.rebuilt
