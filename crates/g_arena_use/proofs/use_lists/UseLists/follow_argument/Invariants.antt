-- What is renamed so far.
use Rattle.std.proofs.Common.{◌≡◌}
use Rattle.g_arena_def.specs.Edits.{argument_less}
use Rattle.g_arena_use.specs.Lists.{all_renamed}
use Rattle.g_arena_use.proofs.use_lists.UseLists.follow_argument.Given as goal

abbrev pub invariant-loop-later : goal.invariant-loop-later
invariant-loop-later l = l.self ≡ record l.fn.self { lists = all_renamed l.home (argument_less l.index l.later) l.fn.self.lists }
