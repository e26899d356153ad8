use Rattle.std.proofs.Common.{arith}
use Rattle.std.proofs.lemmas.Bool.Decides.{nat_tests}
use Rattle.std.specs.declared.option.Option.TheVariants.{Some}
use Rattle.g_graph.proofs.KindLemmas.{are_unequal}
use Rattle.g_graph.proofs.kind_lists.same_kinds.Goals as goal

pub returns-then-kinds-wanted : goal.returns-then-kinds-wanted
returns-then-kinds-wanted c = are_unequal Some c.args.kinds.now c.args.wanted.now (λ e. absurd (grind (arith, nat_tests)))
