use Rattle.s_select_keeps.proofs.PutStub as lemma
use Rattle.s_select_keeps.proofs.laws.put_stub_writes.Goals as goal

pub returns : goal.returns
returns c = lemma.put_stub_writes
