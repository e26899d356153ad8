use Rattle.std.proofs.Common.{arith}
use Rattle.std.proofs.lemmas.Bool.Decides.{nat_tests}
use Rattle.g_graph.specs.Plain.{nodes_of}
use Rattle.g_graph.specs.Scope.{known}
use Rattle.g_graph.proofs.KindLemmas.{are_unequal}
use Rattle.g_graph.proofs.kind_lists.have_kinds.Goals as goal

pub returns-then-origins-wanted : goal.returns-then-origins-wanted
returns-then-origins-wanted c = are_unequal (known c.args.args.now (nodes_of c.args.before.now)) c.args.origins.now c.args.wanted.now (λ e. absurd (grind (arith, nat_tests)))
