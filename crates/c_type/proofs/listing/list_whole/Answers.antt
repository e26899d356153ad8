use Rattle.std.proofs.Common.{◌++◌, ◌∷◌, [], sym, ap, ◌∙◌, subst, arith}
use Rattle.std.proofs.lemmas.Result.{on_ok_weaker}
use Rattle.c_type.specs.TreeView.{tree_of}
use Rattle.c_type.specs.Trees.{array_of}
use Rattle.c_type.specs.Pending.{HasGoneOn}
use Rattle.c_type.specs.declared.listing.Pending.TheVariants.{Whole}
use Rattle.c_type.proofs.PendingLemmas.{gone_void, gone_scalar, gone_pointer, gone_array, gone_struct, gone_undefined}
use Rattle.c_type.proofs.listing.list_whole.Goals as goal

pub returns-in-Void : goal.returns-in-Void
returns-in-Void c = gone_void c.args.types.now c.args.t c.args.at _ _ (sym c.t.view_is ∙ ap tree_of c.in-Void.is) c.requires

pub returns-in-Scalar : goal.returns-in-Scalar
returns-in-Scalar c =
    let e = sym c.t.view_is ∙ ap tree_of c.in-Scalar.is in
    let w = c.width.ensures in
    on_ok_weaker c.push_leaf.result
    (λ h. gone_scalar c.args.types.now c.args.t c.args.at c.in-Scalar.s _ _ _ e (h ∙ ap (λ n. c.args.out.now.items ++ (record { offset = c.args.at; width = n }) ∷ []) w) c.requires)
    c.push_leaf.ensures

pub returns-in-Pointer : goal.returns-in-Pointer
returns-in-Pointer c =
    let e = sym c.t.view_is ∙ ap tree_of c.in-Pointer.is in
    on_ok_weaker c.push_leaf-in-Pointer.result
    (λ h. gone_pointer c.args.types.now c.args.t c.args.at _ _ _ _ e h c.requires)
    c.push_leaf-in-Pointer.ensures

pub returns-in_ok-push-in-Array-2 : goal.returns-in_ok-push-in-Array-2
returns-in_ok-push-in-Array-2 c =
    let e = sym c.t.view_is ∙ ap tree_of c.in-Array.is in
    let first = c.in_ok-push-in-Array.ensures.items in
    let last = c.in_ok-push-in-Array-2.ensures.items in
    let n = c.in-Array.length in
    let u = c.deref.result in
    let v = c.deref-in-Array.result in
    let len = c.len.ensures in
    subst (λ left. HasGoneOn c.args.types.now (Whole c.args.t c.args.at) c.args.pending.now.items left c.args.out.now.items c.args.out.now.items)
    (sym (last ∙ ap (λ x. x ++ Whole v c.args.at ∷ []) first))
    (gone_array c.args.types.now c.args.t u v n c.args.at c.len.result _ _ (e ∙ ap (λ x. array_of x n) (sym c.deref.ensures)) (c.deref-in-Array.ensures
    ∙ sym c.deref.ensures) (omega (arith, len)) c.requires)

pub returns-in_ok-push-in-Struct : goal.returns-in_ok-push-in-Struct
returns-in_ok-push-in-Struct c =
    let e = sym c.t.view_is ∙ ap tree_of c.in-Struct.is in
    subst (λ left. HasGoneOn c.args.types.now (Whole c.args.t c.args.at) c.args.pending.now.items left c.args.out.now.items c.args.out.now.items)
    (sym c.in_ok-push-in-Struct.ensures.items)
    (gone_struct c.args.types.now c.args.t c.in-Struct.tag c.args.at c.in-Some.s.now c.deref-in-Some.result _ _ e c.in-Some.ensures c.deref-in-Some.ensures.value c.requires)

pub returns-in_default : goal.returns-in_default
returns-in_default c =
    let e = sym c.t.view_is ∙ ap tree_of c.in-Struct.is in
    gone_undefined c.args.types.now c.args.t c.in-Struct.tag c.args.at _ _ e c.in_default.ensures c.requires
