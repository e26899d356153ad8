use Rattle.cc_top.proofs.Building.{is_built, is_not_built}
use Rattle.cc_top.proofs.carry.build.Goals as goal

pub returns-in-Ok-clause-ok : goal.returns-in-Ok-clause-ok
returns-in-Ok-clause-ok g c =
    let made = c.in_ok-made.made in
    is_built c.args.image.now c.args.session.now c.image_of.new.session _ _ made.image.items c.deref.result.now made.jobs c.in_ok-made.ensures.made c.deref.ensures.value c.in_ok-made.ensures.last
    c.in-Ok.ensures.ok

pub returns-clause-err : goal.returns-clause-err
returns-clause-err g c =
    let made = c.in_ok-made.made in
    is_not_built c.args.image.now c.args.session.now c.image_of.new.session _ _ made.image.items c.deref.result.now made.jobs c.in_ok-made.ensures.made c.deref.ensures.value
    c.in-Err.ensures.cause c.in-Err.ensures.err
