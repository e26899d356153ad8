-- The ends of the slots that are there.
use Rattle.std.proofs.Common.{option_map, ap, ◌∙◌}
use Rattle.g_arena_def.specs.Reads.{pair_of}
use Rattle.g_arena_use.specs.Plain.{id_at}
use Rattle.g_arena_use.proofs.ReadLemmas.{ends_are}
use Rattle.g_arena.proofs.ShownLemmas.{shown}
use Rattle.g_arena.proofs.arena.Arena.ends.Goals as goal

pub returns-clause-ends : goal.returns-clause-ends
returns-clause-ends g c =
    c.pair_of.ensures
    ∙ (λ i. pair_of ((c.number_of-first.ensures ∙ ap (option_map (id_at c.self.inside.nodes)) c.first-lowest.ensures.slot) i) ((c.number_of-last.ensures ∙ ap (option_map (id_at c.self.inside.nodes)) c.last-highest.ensures.slot) i))
    ∙ ends_are c.self.inside.args c.self.inside.nodes c.self.inside.inputs c.self.inside.results c.args.self.now (shown c.self.inside c.args.self.now c.self.invariant c.self.view_is)
