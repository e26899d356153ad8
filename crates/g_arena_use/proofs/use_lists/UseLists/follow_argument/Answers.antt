-- One more of the later ones follows.
use Rattle.std.proofs.Common.{◌≡◌, ℕ, ◌+◌, ◌-◌, ap, ◌∙◌, arith}
use Rattle.g_graph.specs.declared.op.Origin.TheVariants.{Arg}
use Rattle.g_arena_def.specs.Edits.{argument_less}
use Rattle.g_arena_use.specs.Lists.{use_in, moved, all_renamed}
use Rattle.g_arena_use.proofs.MoveLemmas.{argument_none, argument_more, argument_other, follow_none, follow_more, follow_named}
use Rattle.g_arena_use.proofs.use_lists.UseLists.follow_argument.Goals as goal

pub move_all-requires-clause-named : goal.move_all-requires-clause-named
move_all-requires-clause-named c =
    follow_named c.args.self.now c.loop-later.self (all_renamed c.args.home (argument_less c.args.index c.loop-later.later) c.args.self.now.lists) (use_in c.args.home (Arg (c.loop-later.later - 1)))
    c.loop-later.invariant (c.requires.named (c.loop-later.later - 1) (omega arith))

pub move_all-requires-clause-other : goal.move_all-requires-clause-other
move_all-requires-clause-other c = argument_other c.loop-later.later (omega arith)

pub loop-later-init : goal.loop-later-init
loop-later-init c = follow_none c.args.self.now c.args.home (argument_less c.args.index (c.args.index + 1)) (argument_none c.args.index)

pub loop-later-preserved : goal.loop-later-preserved
loop-later-preserved c =
    follow_more c.args.self.now c.loop-later.self c.move_all.new.self c.args.home (moved (Arg c.loop-later.later) (Arg (c.loop-later.later - 1))) (argument_less c.args.index c.loop-later.later) (argument_less c.args.index (c.loop-later.later + 1))
    (argument_more c.args.index c.loop-later.later (omega arith)) c.loop-later.invariant c.move_all.ensures

pub returns : goal.returns
returns c =
    let all : c.loop-later.later ≡ c.args.count = omega arith in
    c.loop-later.invariant ∙ ap (λ (n : ℕ). record c.args.self.now { lists = all_renamed c.args.home (argument_less c.args.index n) c.args.self.now.lists }) all
