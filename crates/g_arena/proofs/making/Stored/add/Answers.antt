-- The number is a new one.
use Rattle.std.proofs.Common.{[], ◌∷◌, ◌++◌, cond, ap, ◌∙◌}
use Rattle.cell_lists.specs.Lists.{is_in}
use Rattle.g_arena_def.specs.Flat.{FlatNode}
use Rattle.g_arena.proofs.making.Stored.add.Goals as goal

pub returns-clause-numbers : goal.returns-clause-numbers
returns-clause-numbers c =
    c.in_ok-insert.ensures.keys
    ∙ ap (λ n. cond (is_in n c.args.self.now.numbers.keys) c.args.self.now.numbers.keys (c.args.self.now.numbers.keys ++ n ∷ [])) (ap (λ (x : FlatNode). x.id) c.row.view_is)
    ∙ ap (λ b. cond b c.args.self.now.numbers.keys (c.args.self.now.numbers.keys ++ c.args.row.id ∷ [])) c.requires
