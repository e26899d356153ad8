-- The ledger in which looks are counted.
use Rattle.g_rows.proofs.arenas.left.Given as goal

abbrev pub ghosts-are_left : goal.ghosts-are_left
ghosts-are_left a = record { name = a.blank.name; parts = a.blank.parts }
