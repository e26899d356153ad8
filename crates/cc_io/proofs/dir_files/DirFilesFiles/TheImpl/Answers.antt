-- The rest of the trait's clauses are about a content that is unknown.
use Rattle.std.proofs.Common.{refl, ap}
use Rattle.cc_io.specs.DirFiles.{name_of}
use Rattle.cc_io.proofs.UnknownLemmas.{if_ok-always, on_err-always}
use Rattle.cc_io.proofs.dir_files.DirFilesFiles.TheImpl.Goals as goal

pub read-tells : goal.read-tells
read-tells g c = record {
  count = c.ensures.count;
  bytes = if_ok-always c.result _ (λ n. refl);
  at_end = if_ok-always c.result _ (λ n none. tt);
  err = on_err-always c.result refl;
  cause = c.ensures.cause;
  known = refl;
  reading = c.ensures.reading;
  writing = ap name_of c.ensures.writing;
  counts = c.ensures.counts;
}

pub write-tells : goal.write-tells
write-tells g c = record {
  count = c.ensures.count;
  some = c.ensures.some;
  known = if_ok-always c.result _ (λ n name is. refl);
  err = on_err-always c.result refl;
  cause = c.ensures.cause;
  writing = c.ensures.writing;
  reading = ap name_of c.ensures.reading;
  left = λ differ. refl;
  counts = c.ensures.counts;
}
