use Rattle.std.proofs.Common.{◌≡◌, ◌+◌, ap, ◌∙◌, arith}
use Rattle.c_type.specs.Layout.{leaves, size}
use Rattle.c_typed.specs.Typed.{VariableTree}
use Rattle.c_interp_store.specs.Ascending.{ascends, leaf_offset}
use Rattle.c_interp_store.proofs.Leaves.{leaves_ascend}
use Rattle.c_interp_store.proofs.layout.shape.Goals as goal

pub invariant_of-result : goal.invariant_of-result
invariant_of-result c =
    let defs = c.args.types.now in
    let t = c.args.v.now.type in
    let same : c.in_ok-leaves.field-0.items ≡ leaves defs t =
    c.in_ok-leaves.ensures ∙ ap (leaves defs) (c.deref-2.ensures ∙ ap (λ (v : VariableTree). v.type) c.v.view_is) in
    record {
      in_order = ap (ascends leaf_offset 0) same
          ∙ leaves_ascend 0 (0 + size defs t) 0 (leaves defs t) (c.leaves_are_in_order.ensures defs c.requires.defined t c.requires.laid_out.complete 0 (0, omega arith)) (omega arith);
    }
