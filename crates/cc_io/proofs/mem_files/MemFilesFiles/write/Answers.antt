use Rattle.std.proofs.Common.{arith, ap}
use Rattle.cc_io.proofs.mem_files.MemFilesFiles.write.Goals as goal

pub returns-then-is_err-clause-counts : goal.returns-then-is_err-clause-counts
returns-then-is_err-clause-counts c =
    let same = c.append_written.ensures.faults in
    record {
      reads = same.reads;
      writes = omega (arith, same.writes, c.fault-then-is_err.ensures.no_less);
      opens = ap (λ n name. n) same.opens;
      creates = ap (λ n name. n) same.creates;
    }
