use Rattle.std.proofs.Common.{ap, arith}
use Rattle.c_typed.specs.ProgramEncoding.{written_of}
use Rattle.c_interp_store.specs.Starts.{globals_in}
use Rattle.c_interp_store.proofs.Written.{word_later, link_later, characters_later}
use Rattle.c_interp_store.proofs.globals.value_at.Goals as goal

pub returns-in_default : goal.returns-in_default
returns-in_default c ls n low ws past fits =
    word_later (globals_in c.args.layouts.now) ls n low c.args.offset c.in-Word.at c.in-Word.width c.in-Word.word ws (written_of c.args.w.now)
    (ap written_of c.in-Word.is) c.if-at-offset.false past fits

pub returns-in_default-2 : goal.returns-in_default-2
returns-in_default-2 c ls n low ws past fits =
    link_later (globals_in c.args.layouts.now) ls n low c.args.offset c.in-Link.at c.in-Link.number ws (written_of c.args.w.now)
    (ap written_of c.in-Link.is) c.if-at-offset-2.false past fits

pub returns-in_default-3 : goal.returns-in_default-3
returns-in_default-3 c ls n low ws past fits =
    characters_later (globals_in c.args.layouts.now) ls n low c.args.offset c.in-Characters.at _ ws (written_of c.args.w.now)
    (ap written_of c.in-Characters.is) (omega (arith, c.if-at-offset-3.false)) past fits
