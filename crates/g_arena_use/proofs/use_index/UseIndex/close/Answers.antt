-- The first cell holds none, and then each hands on what it holds.
use Rattle.std.proofs.Common.{◌≡◌, ◌+◌, ◌-◌, ◌<◌, length, ap, ◌∙◌, arith}
use Rattle.g_arena_use.specs.UseCells.{with_closed}
use Rattle.g_arena_use.proofs.RowLemmas.{closed_none, closed_more}
use Rattle.g_arena_use.proofs.use_index.UseIndex.close.Goals as goal

pub loop-from-init : goal.loop-from-init
loop-from-init c =
    let inside : c.args.cell < length c.args.self.now.cells = omega arith in
    let count : 0 ≡ c.args.cell + 1 - (c.args.cell + 1) = omega arith in
    closed_none c.args.self.now c.clear.new.self c.args.cell inside c.clear.ensures ∙ ap (with_closed c.args.self.now c.args.cell) count

pub loop-from-preserved : goal.loop-from-preserved
loop-from-preserved c =
    let i = c.loop-from.from - (c.args.cell + 1) in
    let to : c.loop-from.from - 1 ≡ c.args.cell + (c.loop-from.from - (c.args.cell + 1)) = omega arith in
    let from : c.loop-from.from ≡ c.args.cell + (c.loop-from.from - (c.args.cell + 1)) + 1 = omega arith in
    let inside : c.loop-from.from < length c.args.self.now.cells = omega arith in
    let count : c.loop-from.from - (c.args.cell + 1) + 1 ≡ c.loop-from.from + 1 - (c.args.cell + 1) = omega arith in
    closed_more c.loop-from.self c.args.self.now c.move_use.new.self c.args.cell (c.loop-from.from - (c.args.cell + 1)) c.loop-from.from (c.loop-from.from - 1) c.loop-from.invariant to from inside c.move_use.ensures
    ∙ ap (with_closed c.args.self.now c.args.cell) count
