use Rattle.cc_io.proofs.lemmas.Created.{written-ok, others-kept, other_left-same}
use Rattle.cc_io.proofs.created.CreatedSink.write.Goals as goal

pub returns-clause-bytes : goal.returns-clause-bytes
returns-clause-bytes g c =
    written-ok c.write.result _ _ _ _ c.args.piece.now c.write.ensures.known c.write.ensures.writing

pub returns-clause-rest : goal.returns-clause-rest
returns-clause-rest g c =
    let kept = c.write.ensures in
    let others = others-kept c.write.result _ _ _ _ c.args.piece.now kept.known kept.err kept.writing in
    let left = other_left-same _ _ _ _ _ _ kept.left kept.reading kept.writing in
    λ i. record {
      lender = c.args.self.now.files.ghost_name;
      writing = kept.writing i;
      others = others i;
      reading = kept.reading i;
      left = left i;
      read_faults = kept.counts.reads i;
      open_faults = kept.counts.opens i;
      create_faults = kept.counts.creates i;
    }
