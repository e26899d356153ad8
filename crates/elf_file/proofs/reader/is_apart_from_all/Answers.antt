use Rattle.std.proofs.Common.{◌∙◌, sym, ap}
use Rattle.elf_file.specs.Header.{header_of}
use Rattle.elf_file.specs.Loading.{is_apart}
use Rattle.std.specs.List.{list_all}
use Rattle.elf_file.proofs.LoadingLemmas.{all-bad, all-good, all-end, other-at}
use Rattle.elf_file.proofs.reader.is_apart_from_all.Goals as goal
use Rattle.elf_file.proofs.reader.is_apart_from_all.Goals.{else-other-eq-LOAD-via-then-other-eq-LOAD+else-not-is_apart, else-other-eq-LOAD-via-else-other-eq-LOAD}

pub returns-then-not-is_apart : goal.returns-then-not-is_apart
returns-then-not-is_apart c =
    sym (c.loop-k.invariant
    ∙ all-bad (is_apart (header_of c.args.header.now)) c.args.bytes.now c.args.at c.args.count c.loop-k.k (header_of c.read_program_header-other.result)
    c.read_program_header-other.ensures c.loop-k-test.true c.if-other-eq-LOAD.true (sym c.is_apart.ensures ∙ c.if-not-is_apart.true))

pub loop-k-preserved : goal.loop-k-preserved
loop-k-preserved c = elim c.else-other-eq-LOAD.branch [
  | else-other-eq-LOAD-via-then-other-eq-LOAD+else-not-is_apart w ↦
      c.loop-k.invariant
      ∙ all-good (is_apart (header_of c.args.header.now)) c.args.bytes.now c.args.at c.args.count c.loop-k.k (header_of c.read_program_header-other.result)
      c.read_program_header-other.ensures c.loop-k-test.true w.if-other-eq-LOAD.true (sym w.is_apart.ensures ∙ w.if-not-is_apart.false)
  | else-other-eq-LOAD-via-else-other-eq-LOAD w ↦
      c.loop-k.invariant
      ∙ ap (list_all (is_apart (header_of c.args.header.now))) (other-at c.args.bytes.now c.args.at c.args.count c.loop-k.k
      (header_of c.read_program_header-other.result) c.read_program_header-other.ensures c.loop-k-test.true w.if-other-eq-LOAD.false)
]

pub returns : goal.returns
returns c = sym (c.loop-k.invariant ∙ all-end (is_apart (header_of c.args.header.now)) c.args.bytes.now c.args.at c.args.count c.loop-k.k c.loop-k-test.false)
