use Rattle.s_select_keeps.proofs.GetStub as lemma
use Rattle.s_select_keeps.proofs.laws.get_stub_reads.Goals as goal

pub returns : goal.returns
returns c = lemma.get_stub_reads
