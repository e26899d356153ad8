use Rattle.std.proofs.Common.{subst}
use Rattle.c_mean.specs.Statements.{characters_stored}
use Rattle.c_interp.specs.Steps.{IsStored}
use Rattle.c_interp.proofs.StmtSteps.{characters_step}
use Rattle.c_interp.proofs.begin.begin_characters.Goals as goal

pub returns : goal.returns
returns c = λ n. characters_step c.args.program.now.typed.now n c.store_characters.result c.args.machine.now c.store_characters.new.store c.args.number c.args.offset c.args.characters.now c.object_at-object.result c.requires.normal c.object_at-object.ensures
    (λ calls m h. subst (λ cs. IsStored calls (characters_stored c.object_at-object.result c.args.offset cs m) c.store_characters.new.store c.store_characters.result) c.as_slice.ensures (c.store_characters.ensures calls m h))
