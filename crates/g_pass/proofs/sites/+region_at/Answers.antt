use Rattle.g_pass.proofs.Placed.{body_is_placed}
use Rattle.g_pass.proofs.sites.+region_at.Goals as goal

pub returns-then-at-eq0 : goal.returns-then-at-eq0
returns-then-at-eq0 t c = body_is_placed c.args.body.now
