-- The ledger in which looks are counted.
use Rattle.g_pass.proofs.fast.swept_together.Given as goal

abbrev pub ghosts-swept_in : goal.ghosts-swept_in
ghosts-swept_in a = record { name = a.blank.name; parts = a.blank.parts }
