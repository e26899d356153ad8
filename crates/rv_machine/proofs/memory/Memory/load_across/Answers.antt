use Rattle.std.proofs.Common.{◌≡◌, ◌≢◌, ◌<◌, true, length, take, Some, ap, sym, arith, rules, get_or-set_other, get_or-set_same, below_more}
use Rattle.rv_machine.specs.Blocks.{allowance_of, bytes_of}
use Rattle.rv_machine.specs.Memory.{allowed, load_bytes, number}
use Rattle.rv_machine.proofs.Access.{load_same}
use Rattle.rv_machine.proofs.memory.Memory.load_across.Goals as goal

pub loop-i-preserved : goal.loop-i-preserved
loop-i-preserved c = record {
  long = search rules;
  same =
      below_more _ _
      (λ j h. let ne : j ≢ c.loop-i.i = omega arith in rw get_or-set_other (c.loop-i.invariant.same j h))
      (let lt : c.loop-i.i < length c.loop-i.bytes = omega arith in
      rw (get_or-set_same c.loop-i.bytes c.loop-i.i c.byte.result 0 lt) (sym c.byte.ensures));
}

pub returns-clause-value : goal.returns-clause-value
returns-clause-value c =
    let good : allowed (allowance_of c.args.self.now) c.args.flag c.args.address c.args.width ≡ true = search rules in
    let value : load_bytes (bytes_of c.args.self.now) c.args.address c.args.width ≡ number (take c.args.width c.loop-i.bytes) =
    load_same (bytes_of c.args.self.now) c.args.address c.args.width c.loop-i.bytes (omega arith) (λ j below. c.loop-i.invariant.same j (omega arith)) in
    rw good rw value (ap Some c.number_of.ensures.value)
