-- Inputs are counted as the lists of the inputs are.
use Rattle.std.proofs.Common.{ltb, ap, ◌∙◌}
use Rattle.g_arena_use.proofs.ReadLemmas.{uses_inputs}
use Rattle.g_arena.proofs.ShownLemmas.{shown}
use Rattle.g_arena.proofs.arena.Arena.is_input.Goals as goal

pub returns : goal.returns
returns c = ap (ltb 0) (c.count.ensures.value ∙ uses_inputs c.self.inside.args c.self.inside.nodes c.self.inside.inputs c.self.inside.results c.args.self.now (shown c.self.inside c.args.self.now c.self.invariant c.self.view_is) c.args.home c.args.of)
