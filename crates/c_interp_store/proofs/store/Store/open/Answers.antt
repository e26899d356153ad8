use Rattle.std.proofs.Common.{◌+◌, ◌++◌, ◌∷◌, ap, ◌∙◌, subst, length, take, map, arith}
use Rattle.val_core.specs.Memory.{Memory}
use Rattle.val_core.specs.Objects.{opened}
use Rattle.c_interp_store.specs.Ascending.{ascends}
use Rattle.c_interp_store.specs.Cells.{offset_of, blank_cell}
use Rattle.c_interp_store.specs.Blocks.{shapes_of}
use Rattle.c_interp_store.specs.Holding.{Holds}
use Rattle.c_interp_store.proofs.Cells.{blanks_ascend}
use Rattle.c_interp_store.proofs.Shapes.{opened_next, opened_length}
use Rattle.c_interp_store.proofs.store.Store.open.Goals as goal

pub push-requires : goal.push-requires
push-requires c =
    let leaves = c.shape-item.result.leaves.items in
    ap (ascends offset_of 0) (c.in_ok-new_cells.ensures ∙ ap (map blank_cell) c.deref.ensures.value) ∙ blanks_ascend 0 leaves ∙ c.shape-item.result.in_order

pub loop-shape-preserved : goal.loop-shape-preserved
loop-shape-preserved c =
    let i = c.loop-shape.shape-index in
    let shapes = c.args.shapes.now in
    let inv = c.loop-shape.invariant in
    let shape = c.shape-item.result in
    let cells = c.in_ok-new_cells.ensures ∙ ap (map blank_cell) c.deref.ensures.value in
    record {
      made = omega (arith, c.in_ok-push.ensures.made, inv.made);
      grows = λ calls m h.
          subst (λ (n : Memory). Holds c.push.new.self (record { first = length m; count = i + 1 } ∷ calls) n)
          (opened_next m shapes i shape c.in_ok-new_cells.field-0.items c.loop-shape-test.true c.shape-item.is cells)
          (c.in_ok-push.ensures.grown (length m) i calls (m ++ opened (shapes_of (take i shapes))) (opened_length m shapes i c.loop-shape-test.true) (inv.grows calls m h));
    }
