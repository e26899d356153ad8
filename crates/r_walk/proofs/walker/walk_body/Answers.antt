-- The body of a well-formed lambda is closed and sound.
use Rattle.std.proofs.Common.{sym, subst}
use Rattle.g_mean.specs.Copies.{IsClosed}
use Rattle.r_walk.specs.Asks.{IsSound}
use Rattle.r_walk.proofs.Along.{body_closed}
use Rattle.r_walk.proofs.Sound.{body_sound}
use Rattle.r_walk.proofs.walker.walk_body.Goals as goal

pub walk_region-requires-clause-closed : goal.walk_region-requires-clause-closed
walk_region-requires-clause-closed g c = subst (λ l. IsClosed l.body) (sym c.lambda.view_is) (body_closed c.args.lambda.now c.requires)

pub walk_region-requires-clause-sound : goal.walk_region-requires-clause-sound
walk_region-requires-clause-sound g c = subst (λ l. IsSound l.body) (sym c.lambda.view_is) (body_sound c.args.lambda.now c.requires)
