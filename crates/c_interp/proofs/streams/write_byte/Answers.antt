use Rattle.std.proofs.Common.{refl}
use Rattle.c_interp.proofs.Ports.{write_one, one_written, byte_stopped}
use Rattle.c_interp.proofs.streams.write_byte.Goals as goal

pub returns-in-Err-clause-step : goal.returns-in-Err-clause-step
returns-in-Err-clause-step g c = λ p n few many left closed at_end. byte_stopped p n c.in-Err.stop c.args.machine.now c.args.machine.now c.byte_of.new.operands.items _ _ _ c.in-Err.ensures

pub returns-in-Ok-write-clause-step : goal.returns-in-Ok-write-clause-step
returns-in-Ok-write-clause-step g c = λ p n few many left closed at_end.
    let d = c.in-Ok.ensures in
    let e = c.in-Ok-write.ensures in
    write_one p n _ c.args.machine.now c.byte_of.new.operands d.1 d.0 c.in-Ok.byte _ _ ⊥ ⊥ c.requires d.2 d.3 d.4 (one_written _ _ _ c.in-Ok.byte _ refl e.some e.bytes) refl refl at_end
