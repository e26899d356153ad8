-- One more of the later ones follows.
use Rattle.std.proofs.Common.{◌≡◌, ℕ, ◌+◌, ◌-◌, ap, ◌∙◌, arith}
use Rattle.g_graph.specs.declared.op.Origin.TheVariants.{Out}
use Rattle.g_arena_def.specs.Edits.{output_less}
use Rattle.g_arena_use.specs.Lists.{use_in, moved, all_renamed}
use Rattle.g_arena_use.proofs.MoveLemmas.{output_none, output_more, output_other, follow_none, follow_more, follow_named}
use Rattle.g_arena_use.proofs.use_lists.UseLists.follow_output.Goals as goal

pub move_all-requires-clause-named : goal.move_all-requires-clause-named
move_all-requires-clause-named c =
    follow_named c.args.self.now c.loop-later.self (all_renamed c.args.home (output_less c.args.node c.args.port c.loop-later.later) c.args.self.now.lists) (use_in c.args.home (Out c.args.node (c.loop-later.later - 1)))
    c.loop-later.invariant (c.requires.named (c.loop-later.later - 1) (omega arith))

pub move_all-requires-clause-other : goal.move_all-requires-clause-other
move_all-requires-clause-other c = output_other c.args.node c.loop-later.later (omega arith)

pub loop-later-init : goal.loop-later-init
loop-later-init c = follow_none c.args.self.now c.args.home (output_less c.args.node c.args.port (c.args.port + 1)) (output_none c.args.node c.args.port)

pub loop-later-preserved : goal.loop-later-preserved
loop-later-preserved c =
    follow_more c.args.self.now c.loop-later.self c.move_all.new.self c.args.home (moved (Out c.args.node c.loop-later.later) (Out c.args.node (c.loop-later.later - 1))) (output_less c.args.node c.args.port c.loop-later.later) (output_less c.args.node c.args.port (c.loop-later.later + 1))
    (output_more c.args.node c.args.port c.loop-later.later (omega arith)) c.loop-later.invariant c.move_all.ensures

pub returns : goal.returns
returns c =
    let all : c.loop-later.later ≡ c.args.count = omega arith in
    c.loop-later.invariant ∙ ap (λ (n : ℕ). record c.args.self.now { lists = all_renamed c.args.home (output_less c.args.node c.args.port n) c.args.self.now.lists }) all
