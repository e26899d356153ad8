use Rattle.r_invert.proofs.First as rule
use Rattle.r_invert.proofs.laws.inverted_loops_refine.Goals as goal

pub returns-clause-first : goal.returns-clause-first
returns-clause-first c = rule.inverted_loops_test_first

pub returns-clause-turns : goal.returns-clause-turns
returns-clause-turns c = rule.inverted_loops_refine
