use Rattle.board_tests.proofs.crew.run.Given as goal

abbrev pub ghosts-drive : goal.ghosts-drive
ghosts-drive g a = record { lock = a.shared.table.shared.table_id; program = a.first.me.0.program }
