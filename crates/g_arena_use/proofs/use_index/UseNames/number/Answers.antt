-- The index of a use is its number.
use Rattle.std.proofs.Common.{List, ap, ◌∙◌}
use Rattle.g_arena_use.specs.declared.use_index.Use.{Use}
use Rattle.g_arena_use.specs.UseCells.{number_of}
use Rattle.g_arena_use.proofs.NameLemmas.{position_is}
use Rattle.g_arena_use.proofs.use_index.UseNames.number.Goals as goal

pub returns : goal.returns
returns c = c.get_index_of.ensures.index ∙ position_is c.args.name c.self.inside.set.keys ∙ ap (λ (us : List Use). number_of c.args.name us) c.self.view_is
