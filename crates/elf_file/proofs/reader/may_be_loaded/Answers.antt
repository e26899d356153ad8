use Rattle.std.proofs.Common.{◌∙◌, ◌+◌, ◌-◌, ◌*◌, sym, ap, add-zero, length, refl, rules}
use Rattle.elf_file.specs.Header.{header_of}
use Rattle.elf_file.specs.Loading.{are_separate, are_loadable, loads_from, total_memory}
use Rattle.elf_file.proofs.LoadingLemmas.{separate-bad, separate-good, separate-end, memory-load, memory-end, other-at, counted}
use Rattle.elf_file.proofs.reader.may_be_loaded.Goals as goal
use Rattle.elf_file.proofs.reader.may_be_loaded.Goals.{then-header-eq-LOAD+else-not-is_separate, else-header-eq-LOAD}

pub returns-then-not-is_separate : goal.returns-then-not-is_separate
unfolding are_loadable
returns-then-not-is_separate c =
    let bytes = c.args.bytes.now in
    rw c.loop-k.invariant.separate
    rw (separate-bad (length bytes) bytes c.args.at c.args.count c.loop-k.k (header_of c.read_program_header-header.result)
    c.read_program_header-header.ensures c.loop-k-test.true c.if-header-eq-LOAD.true (sym c.is_separate.ensures ∙ c.if-not-is_separate.true))
    refl

pub loop-k-preserved : goal.loop-k-preserved
loop-k-preserved c =
    let bytes = c.args.bytes.now in
    let header = header_of c.read_program_header-header.result in
    let is = c.read_program_header-header.ensures in
    let before = c.loop-k.invariant in
    elim c.if-header-eq-LOAD.branch [
      | then-header-eq-LOAD+else-not-is_separate w ↦ (
          let added = memory-load bytes c.args.at c.args.count c.loop-k.k header is c.loop-k-test.true w.if-header-eq-LOAD.true in
          let h1 = w.total-is in
          let h2 = w.from-total.ensures in
          record {
            separate = before.separate ∙ separate-good (length bytes) bytes c.args.at c.args.count c.loop-k.k header is c.loop-k-test.true
                w.if-header-eq-LOAD.true (sym w.is_separate.ensures ∙ w.if-not-is_separate.false);
            memory = counted _ _ _ _ _ _ _ before.memory added w.total-is w.from-total.ensures;
            small = search rules;
          })
      | else-header-eq-LOAD w ↦ (
          let same = other-at bytes c.args.at c.args.count c.loop-k.k header is c.loop-k-test.true w.if-header-eq-LOAD.false in
          let h1 = w.total-is in
          record {
            separate = before.separate ∙ ap (are_separate (length bytes)) same;
            memory = before.memory ∙ ap (λ t. c.loop-k.total + t) (ap total_memory same)
                ∙ ap (λ t. t + total_memory (loads_from bytes (c.args.at + 32 * (c.loop-k.k + 1)) (c.args.count - (c.loop-k.k + 1)))) (sym w.total-is);
            small = search rules;
          })
    ]

pub returns : goal.returns
unfolding are_loadable
returns c =
    let bytes = c.args.bytes.now in
    rw c.loop-k.invariant.separate
    rw (separate-end (length bytes) bytes c.args.at c.args.count c.loop-k.k c.loop-k-test.false)
    rw c.loop-k.invariant.memory
    rw (memory-end bytes c.args.at c.args.count c.loop-k.k c.loop-k-test.false)
    rw c.from.ensures rw (add-zero c.loop-k.total) refl
