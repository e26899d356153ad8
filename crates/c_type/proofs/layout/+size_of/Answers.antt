use Rattle.std.proofs.Common.{rules, sym, ap, ◌∙◌, subst}
use Rattle.c_type.specs.TreeView.{tree_of}
use Rattle.c_type.specs.Layout.{IsLaidOut}
use Rattle.c_type.proofs.SizeLemmas.{element}
use Rattle.c_type.proofs.layout.+size_of.Goals as goal

pub size_of-requires : goal.size_of-requires
size_of-requires t c =
    let e = sym c.t.view_is ∙ ap tree_of c.in-Array.is in
    let h = element c.args.types.now _ _ (subst (IsLaidOut c.args.types.now) e c.requires) in
    (search rules, subst (IsLaidOut c.args.types.now) (sym c.deref.ensures) h)
