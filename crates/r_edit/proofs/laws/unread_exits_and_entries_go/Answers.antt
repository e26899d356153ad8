use Rattle.r_edit.proofs.lemmas.Exits.{unread_exits_go}
use Rattle.r_edit.proofs.lemmas.Entries.{unread_entries_go}
use Rattle.r_edit.proofs.lemmas.Shrunk.{unread_exits_and_entries_go}
use Rattle.r_edit.proofs.laws.unread_exits_and_entries_go.Goals as goal

pub returns-clause-exits : goal.returns-clause-exits
returns-clause-exits c = unread_exits_go

pub returns-clause-entries : goal.returns-clause-entries
returns-clause-entries c = unread_entries_go

pub returns-clause-both : goal.returns-clause-both
returns-clause-both c = unread_exits_and_entries_go
