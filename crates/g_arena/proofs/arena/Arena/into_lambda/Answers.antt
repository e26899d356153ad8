-- The rows of an arena are those of the lambda that it stands for.
use Rattle.std.proofs.Common.{List, subst, sym}
use Rattle.g_arena_def.specs.Flat.{FlatNode}
use Rattle.g_arena_nodes.specs.Made.{HasNumbersOnce}
use Rattle.g_arena_use.proofs.ReadLemmas.{inputs_long}
use Rattle.g_arena.proofs.ShownLemmas.{shown}
use Rattle.g_arena.proofs.RowLemmas.{seen_once, have_results}
use Rattle.g_arena.proofs.arena.Arena.into_lambda.Goals as goal

pub live_rows-requires-clause-inputs : goal.live_rows-requires-clause-inputs
live_rows-requires-clause-inputs g c = inputs_long c.self.inside.args c.self.inside.nodes c.self.inside.inputs c.self.inside.results c.args.self (shown c.self.inside c.args.self c.self.invariant c.self.view_is)

pub live_rows-requires-clause-results : goal.live_rows-requires-clause-results
live_rows-requires-clause-results g c = have_results c.self.inside.results.lists c.self.inside.nodes c.self.invariant.indexed.results

pub region_of-requires : goal.region_of-requires
region_of-requires g c =
    let P : List FlatNode → Type 0 = λ xs. HasNumbersOnce xs in
    subst P (sym c.in_ok-rows.ensures) (seen_once c.self.inside.inputs.lists c.self.inside.results.lists c.self.inside.nodes c.self.invariant.indexed.once)
