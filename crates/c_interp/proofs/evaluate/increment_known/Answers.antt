use Rattle.std.specs.Prelude.{Err}
use Rattle.c_interp.specs.declared.stop.Stop.TheVariants.{Undefined}
use Rattle.c_interp.proofs.Unknown.{stepped_at, not_loaded}
use Rattle.c_interp.proofs.evaluate.increment_known.Goals as goal

pub returns-in_default : goal.returns-in_default
returns-in_default c = λ n.
    not_loaded c.args.program.now.typed.now n (Err Undefined) c.args.machine.now c.args.machine.now c.args.t.now c.args.step c.args.p.now c.args.at (c.requires.known n) (λ calls m h. c.in_default.ensures calls m h)

pub returns : goal.returns
returns c = λ n.
    let p = c.args.program.now.typed.now in
    stepped_at p n c.step_at.result c.args.machine.now c.step_at.new.machine c.args.t.now c.args.step c.args.p.now c.push.new.self c.push-2.new.self c.args.at c.in-Some.old (c.requires.known n)
    (λ calls m h. c.in-Some.ensures calls m h) c.in_ok-push.ensures.items c.in_ok-push-2.ensures.items (c.step_at.ensures p n)
