use Rattle.std.proofs.Common.{◌≡◌, length, map, take, refl, sym, ap, ◌∙◌, subst}
use Rattle.std.specs.Prelude.{List}
use Rattle.std.proofs.lemmas.Option.{slice_get_read}
use Rattle.val_core.specs.Memory.{Memory}
use Rattle.c_type.specs.Trees.{TypeTree}
use Rattle.c_type.specs.Layout.{IsLaidOut, size, leaves}
use Rattle.c_typed.specs.Typed.{GlobalTree, WrittenTree}
use Rattle.c_interp_store.specs.Holding.{Holds, globals_of}
use Rattle.c_interp_store.specs.Starts.{globals_in, are_written, start_cell, memory_of, AreFit}
use Rattle.c_interp_store.proofs.GlobalCells.{memory_more}
use Rattle.c_interp_store.proofs.globals.blocks.Goals as goal

pub cells_of-requires-clause-laid_out : goal.cells_of-requires-clause-laid_out
cells_of-requires-clause-laid_out c =
    let gs = c.args.globals.now in
    let i = c.loop-g.g-index in
    let g = c.g-item.result in
    subst (λ (t : TypeTree). IsLaidOut c.args.types.now t) (sym (c.deref.ensures ∙ ap (λ (x : GlobalTree). x.type) c.g.view_is))
    (c.requires.fit i g (slice_get_read gs (length gs) i g refl c.loop-g-test.true c.g-item.is)).0

pub cells_of-requires-clause-fit : goal.cells_of-requires-clause-fit
cells_of-requires-clause-fit c =
    let gs = c.args.globals.now in
    let i = c.loop-g.g-index in
    let g = c.g-item.result in
    subst AreFit (sym (ap are_written c.deref-in-loop-g.ensures.value ∙ ap (λ (x : GlobalTree). x.written) c.g.view_is))
    (c.requires.fit i g (slice_get_read gs (length gs) i g refl c.loop-g-test.true c.g-item.is)).1

pub size_of-requires : goal.size_of-requires
size_of-requires c =
    let gs = c.args.globals.now in
    let i = c.loop-g.g-index in
    let g = c.g-item.result in
    subst (λ (t : TypeTree). IsLaidOut c.args.types.now t) (sym (c.deref-in-loop-g-2.ensures ∙ ap (λ (x : GlobalTree). x.type) c.g.view_is))
    (c.requires.fit i g (slice_get_read gs (length gs) i g refl c.loop-g-test.true c.g-item.is)).0

pub loop-g-preserved : goal.loop-g-preserved
loop-g-preserved c =
    let types = c.args.types.now in
    let global = globals_in c.args.layouts.now in
    let gs = c.args.globals.now in
    let i = c.loop-g.g-index in
    let g = c.g-item.result in
    let type : c.deref.result.now ≡ g.type = c.deref.ensures ∙ ap (λ (x : GlobalTree). x.type) c.g.view_is in
    let written : are_written c.deref-in-loop-g.result.now ≡ g.written = ap are_written c.deref-in-loop-g.ensures.value ∙ ap (λ (x : GlobalTree). x.written) c.g.view_is in
    let size_is : c.size_of.result ≡ size types g.type = c.size_of.ensures ∙ ap (size types) (c.deref-in-loop-g-2.ensures ∙ ap (λ (x : GlobalTree). x.type) c.g.view_is) in
    let cells : c.in_ok-cells.cells.items ≡ map (start_cell global g.written) (leaves types g.type) =
    c.in_ok-cells.ensures.cells ∙ ap (λ (ws : List WrittenTree). map (start_cell global ws) (leaves types c.deref.result.now)) written
    ∙ ap (λ (t : TypeTree). map (start_cell global g.written) (leaves types t)) type in
    subst (λ (n : Memory). Holds c.add.new.self (globals_of n) n)
    (memory_more types global gs i c.size_of.result c.g.inside.fixed g c.in_ok-cells.cells.items c.loop-g-test.true c.g-item.is size_is (ap (λ (x : GlobalTree). x.fixed) c.g.view_is) cells)
    (c.in_ok-add.ensures (memory_of types global (take i gs)) c.loop-g.invariant)
