use Rattle.board_lock.proofs.shared.Shared+W.note.Given as goal

abbrev pub ghosts-note_event : goal.ghosts-note_event
ghosts-note_event g a = record { event = a.event }
