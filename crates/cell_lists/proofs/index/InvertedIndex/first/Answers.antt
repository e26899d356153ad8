-- The first cell of the key's list, where they rise, and else the first of all cells that holds it.
use Rattle.std.proofs.Common.{ℕ, List, Option, sym, ◌∙◌, ap}
use Rattle.std.proofs.lemmas.Bool.{eqb-true}
use Rattle.cell_lists.specs.Keys.{is_key}
use Rattle.std.specs.List.{position}
use Rattle.cell_lists.proofs.KeyLemmas.{list_in, first_kept, first_seen}
use Rattle.cell_lists.proofs.index.InvertedIndex.first.Goals as goal

pub is_rising-requires : goal.is_rising-requires
is_rising-requires c = list_in c.self.inside.keys.items c.self.inside.lists c.args.self.now (record { is = c.self.invariant; seen = c.self.view_is }) c.args.key c.requires

pub first-requires : goal.first-requires
first-requires c = list_in c.self.inside.keys.items c.self.inside.lists c.args.self.now (record { is = c.self.invariant; seen = c.self.view_is }) c.args.key c.requires

pub returns-then-is_rising : goal.returns-then-is_rising
returns-then-is_rising c =
    first_kept c.self.inside.keys.items c.self.inside.lists c.args.self.now (record { is = c.self.invariant; seen = c.self.view_is }) c.args.key _
    (eqb-true _ 0 (sym c.is_rising.ensures ∙ c.if-is_rising.true)) c.first.ensures

pub returns : goal.returns
returns c = first_seen c.self.inside.keys.items c.self.inside.lists c.args.self.now (record { is = c.self.invariant; seen = c.self.view_is }) c.args.key _
    (c.first_in.ensures ∙ ap (λ (xs : List (Option ℕ)). position (is_key c.args.key) xs) c.deref.ensures.value)
