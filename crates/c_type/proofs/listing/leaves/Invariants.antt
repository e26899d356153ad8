use Rattle.c_type.proofs.listing.leaves.Given as goal

abbrev pub ghosts-leaves_in : goal.ghosts-leaves_in
ghosts-leaves_in a = record { name = a.blank.name; parts = a.blank.parts }
