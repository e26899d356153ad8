-- One slot more is the last.
use Rattle.std.proofs.Common.{List, ℕ, ◌∷◌, [], subst, sym, ap, ◌∙◌}
use Rattle.cell_lists.specs.Lists.{Lists, IsFree, pushed}
use Rattle.g_arena_use.proofs.SlotLemmas.{counted_more, counted_free}
use Rattle.g_arena_use.proofs.nodes.order_of.Goals as goal

pub push_last-requires-clause-free : goal.push_last-requires-clause-free
push_last-requires-clause-free c =
    let P : Lists → Type 0 = λ o. IsFree c.loop-at.at o in
    subst P (sym c.loop-at.invariant) (counted_free c.args.count c.loop-at.at)

pub loop-at-preserved : goal.loop-at-preserved
loop-at-preserved c =
    c.push_last.ensures ∙ ap (λ (o : Lists). pushed o 0 c.loop-at.at) c.loop-at.invariant
    ∙ ap (λ (ks : List ℕ). record { cells = c.args.count; lists = ks ∷ [] }) (counted_more c.loop-at.at)
