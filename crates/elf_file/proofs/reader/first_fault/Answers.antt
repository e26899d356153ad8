use Rattle.std.proofs.Common.{◌∙◌, sym}
use Rattle.elf_file.proofs.LoadingLemmas.{few-headers}
use Rattle.elf_file.proofs.reader.first_fault.Goals as goal

pub may_be_loaded-requires-clause-few : goal.may_be_loaded-requires-clause-few
may_be_loaded-requires-clause-few c =
    rw c.read_half-count.ensures (few-headers c.args.bytes.now (sym c.has_profile.ensures ∙ c.if-not-has_profile.false))
