-- One more cell that holds its use.
use Rattle.std.proofs.Common.{◌≡◌, ◌+◌, ◌<◌, ◌≤◌, Some, length, get_or, take, subst, sym, ap, ◌∙◌, arith}
use Rattle.std.proofs.lemmas.List.{length-map, length-take-le}
use Rattle.g_graph.specs.declared.op.Origin.TheVariants.{Arg}
use Rattle.g_arena_use.specs.UseCells.{UseCells, IsNamed, with_written}
use Rattle.g_arena_use.specs.Lists.{use_in}
use Rattle.g_arena_use.specs.Sites.{held}
use Rattle.g_arena_use.proofs.RowLemmas.{written_more, held_more}
use Rattle.g_arena_use.proofs.StoredLemmas.{named_at}
use Rattle.g_arena_use.proofs.use_index.UseIndex.put.Goals as goal

pub set-requires-clause-named : goal.set-requires-clause-named
set-requires-clause-named c =
    let P : UseCells → Type 0 = λ u. IsNamed (use_in c.args.home (get_or c.args.origins.now c.loop-k.k (Arg 0))) u.names in
    subst P (sym c.loop-k.invariant) (named_at c.args.self.now.names c.args.home c.args.origins.now c.loop-k.k (Arg 0) c.requires.named (omega arith))

pub loop-k-preserved : goal.loop-k-preserved
loop-k-preserved c =
    let few : c.loop-k.k ≤ length c.args.origins.now = omega arith in
    let inside : c.loop-k.k < length c.args.origins.now = omega arith in
    let at : c.args.cell + c.loop-k.k ≡ c.args.cell + length (held c.args.home (take c.loop-k.k c.args.origins.now)) =
    omega (arith, length-map (take c.loop-k.k c.args.origins.now) (λ o. Some (use_in c.args.home o)), length-take-le c.loop-k.k c.args.origins.now few) in
    let room : c.args.cell + c.loop-k.k < length c.args.self.now.cells = omega (arith, c.requires.room, c.requires.within, inside) in
    written_more c.loop-k.self c.args.self.now c.set.new.self c.args.cell (c.args.cell + c.loop-k.k) (held c.args.home (take c.loop-k.k c.args.origins.now)) (Some (use_in c.args.home (get_or c.args.origins.now c.loop-k.k (Arg 0))))
    c.loop-k.invariant at room c.set.ensures
    ∙ ap (with_written c.args.self.now c.args.cell) (held_more c.args.home c.args.origins.now c.loop-k.k (Arg 0) inside)
