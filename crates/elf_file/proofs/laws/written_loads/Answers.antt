use Rattle.elf_file.proofs.lemmas.RoundTrip.{written_loads}
use Rattle.elf_file.proofs.laws.written_loads.Goals as goal

pub returns : goal.returns
returns c = written_loads
