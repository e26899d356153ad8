use Rattle.std.proofs.Common.{◌≡◌, ◌∙◌, refl, sym, ap, subst}
use Rattle.c_typed.specs.Typed.{ExprTree, expr, assign, compound, inc_dec}
use Rattle.c_typed.specs.ExprViews.{form_of}
use Rattle.c_typed.specs.WellTyped.{type_of}
use Rattle.c_interp_answer.specs.Answered.{IsWritten}
use Rattle.c_interp_answer.proofs.Arms.{form_in, whole}
use Rattle.c_interp_answer.proofs.assignment.written.Goals as goal

pub returns-in-Assign : goal.returns-in-Assign
returns-in-Assign c = λ calls k s sees.
    let e = c.args.e.now in
    let p = c.in-Assign.p in
    let a = c.deref.result.now in
    let here : e ≡ expr (type_of e) (assign p a) =
    whole e (type_of e) (assign p a) refl (sym (ap form_in c.e.view_is) ∙ ap form_of c.in-Assign.is ∙ ap (λ z. assign p z) (sym c.deref.ensures)) in
    subst (λ (z : ExprTree). IsWritten k z s c.assigned.result) (sym here) (c.assigned.ensures (type_of e) calls k s sees)

pub returns-in-Compound : goal.returns-in-Compound
returns-in-Compound c = λ calls k s sees.
    let e = c.args.e.now in
    let t = c.deref-in-Compound.result.now in
    let op = c.in-Compound.op in
    let p = c.in-Compound.p in
    let a = c.deref-in-Compound-2.result.now in
    let here : e ≡ expr t (compound op p a) =
    whole e t (compound op p a) (c.deref-in-Compound.ensures ∙ ap type_of c.e.view_is)
    (sym (ap form_in c.e.view_is) ∙ ap form_of c.in-Compound.is ∙ ap (λ z. compound op p z) (sym c.deref-in-Compound-2.ensures)) in
    subst (λ (z : ExprTree). IsWritten k z s c.compounded.result) (sym here) (c.compounded.ensures calls k s sees)

pub returns-in-IncDec : goal.returns-in-IncDec
returns-in-IncDec c = λ calls k s sees.
    let e = c.args.e.now in
    let t = c.deref-in-IncDec.result.now in
    let f = inc_dec c.in-IncDec.step c.in-IncDec.p in
    let here : e ≡ expr t f =
    whole e t f (c.deref-in-IncDec.ensures ∙ ap type_of c.e.view_is) (sym (ap form_in c.e.view_is) ∙ ap form_of c.in-IncDec.is) in
    subst (λ (z : ExprTree). IsWritten k z s c.incremented.result) (sym here) (c.incremented.ensures calls k s sees)
