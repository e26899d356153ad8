use Rattle.std.proofs.Common.{sym, ap, ◌∙◌}
use Rattle.c_type.specs.TreeView.{tree_of}
use Rattle.c_type.specs.Trees.{array_of}
use Rattle.c_type.proofs.NormalLemmas.{array-made}
use Rattle.c_type.proofs.normal.+normal_type.Goals as goal

pub returns-in_ok-element-in-Array : goal.returns-in_ok-element-in-Array
returns-in_ok-element-in-Array t c =
    let e = sym c.t.view_is ∙ ap tree_of c.in-Array.is in
    array-made c.args.types.now c.args.t.now c.deref.result.now c.in_ok-element-in-Array.element c.in-Array.length c.normal_array.result (e
    ∙ ap (λ x. array_of x c.in-Array.length) (sym c.deref.ensures)) c.requires c.in_ok-element-in-Array.ensures c.normal_array.ensures.one c.normal_array.ensures.more
