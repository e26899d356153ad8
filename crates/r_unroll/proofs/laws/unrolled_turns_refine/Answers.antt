use Rattle.r_unroll.proofs.Replaced as rule
use Rattle.r_unroll.proofs.Unrolled as region
use Rattle.r_unroll.proofs.laws.unrolled_turns_refine.Goals as goal

pub returns-clause-region : goal.returns-clause-region
returns-clause-region c = region.unrolled_regions_take_two_turns

pub returns-clause-turns : goal.returns-clause-turns
returns-clause-turns c = rule.unrolled_turns_refine
