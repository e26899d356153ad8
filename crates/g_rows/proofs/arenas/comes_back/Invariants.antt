-- The ledger in which looks are counted.
use Rattle.g_rows.proofs.arenas.comes_back.Given as goal

abbrev pub ghosts-taken_out : goal.ghosts-taken_out
ghosts-taken_out a = record { name = a.blank.name; parts = a.blank.parts }
