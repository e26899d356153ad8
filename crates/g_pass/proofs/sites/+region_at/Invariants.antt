-- Regions around one are listed before it.
use Rattle.g_pass.proofs.sites.+region_at.Given as goal

abbrev pub decreases-region_at : goal.decreases-region_at
decreases-region_at l = l.at
