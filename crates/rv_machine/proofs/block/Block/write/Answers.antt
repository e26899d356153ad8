use Rattle.std.proofs.Common.{sym, ◌∙◌, ◌+◌, arith}
use Rattle.rv_machine.proofs.Bytes.{written_more, written_all}
use Rattle.rv_machine.proofs.block.Block.write.Goals as goal

pub loop-i-preserved : goal.loop-i-preserved
loop-i-preserved c = record {
  same_bytes = sym (written_more _ _ _ (c.args.at + c.args.width) (omega arith)) ∙ c.loop-i.invariant.same_bytes;
  bounds = record {
    at = c.loop-i.invariant.bounds.at;
    size = c.loop-i.invariant.bounds.size;
    flags = c.loop-i.invariant.bounds.flags;
  };
}

pub returns-clause-bytes : goal.returns-clause-bytes
returns-clause-bytes c =
    sym (written_all _ c.loop-i.i c.loop-i.rest (c.args.at + c.args.width) (omega arith)) ∙ c.loop-i.invariant.same_bytes
