-- Each turn moves one use, and where none is left all have moved.
use Rattle.std.proofs.Common.{◌≡◌, ◌<◌, List, subst, sym, arith}
use Rattle.g_arena_use.specs.declared.use_index.Use.{Use}
use Rattle.g_arena_use.specs.UseCells.{IsNamed}
use Rattle.g_arena_use.specs.Lists.{use_in, uses_of}
use Rattle.g_arena_use.proofs.MoveLemmas.{moved_more, moved_less, moved_all}
use Rattle.g_arena_use.proofs.use_lists.UseLists.move_all.Goals as goal

pub move_first-requires : goal.move_first-requires
move_first-requires c =
    let P : List Use → Type 0 = λ names. IsNamed (use_in c.args.used.home c.args.to) names in
    subst P (sym c.loop-used.invariant.0) c.requires.named

pub loop-used-preserved : goal.loop-used-preserved
loop-used-preserved c =
    moved_more c.args.self.now c.loop-used.self c.move_first.new.self c.args.used c.args.to c.requires.other c.loop-used.invariant c.move_first.ensures

pub loop-used-smaller : goal.loop-used-smaller
loop-used-smaller c =
    let some : 0 < uses_of c.args.used c.loop-used.self.lists = omega (arith, c.count.ensures.value) in
    moved_less c.loop-used.self c.move_first.new.self c.args.used c.args.to c.requires.other some c.move_first.ensures

pub returns : goal.returns
returns c =
    let none : uses_of c.args.used c.loop-used.self.lists ≡ 0 = omega (arith, c.count.ensures.value) in
    moved_all c.args.self.now c.loop-used.self c.args.used c.args.to c.loop-used.invariant none
