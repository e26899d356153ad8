use Rattle.std.proofs.Common.{◌≡◌, sym, ap, ◌∙◌, List}
use Rattle.std.specs.Prelude.{Some, None, option_copied, slice_get}
use Rattle.c_typed.specs.Typed.{VariableTree}
use Rattle.g_build_expression.proofs.lemmas.Scopes.{item_get}
use Rattle.g_build.proofs.Numbering.{get_lost, get_none, found_in}
use Rattle.g_build.proofs.objects.Objects.get.Goals as goal

pub returns-in-Some-get : goal.returns-in-Some-get
returns-in-Some-get c =
    let vs : List VariableTree = c.self.inside.variables.now in
    let l = c.get.ensures.lookup in
    let here : slice_get vs c.args.number ≡ Some c.in-Some.variable.now = sym (item_get vs c.args.number c.get.result l.1 l.3) ∙ ap option_copied c.in-Some.is in
    let m = c.get-in-Some.ensures.lookup in
    let count = ap (λ xs. slice_get xs c.args.number) (sym c.deref.ensures.value) ∙ sym (item_get c.deref.result.now c.args.number c.get-in-Some.result m.1 m.3) ∙ ap option_copied c.in-Some-get.is in
    found_in vs c.args.self.now c.self.inside.numbers.items c.args.number c.in-Some.variable.now c.in-Some-get.count.now c.variable.inside.is_object c.self.view_is c.self.invariant here count
    (ap (λ (v : VariableTree). v.is_object) c.variable.view_is)

pub returns-in-None-get : goal.returns-in-None-get
returns-in-None-get c =
    let vs : List VariableTree = c.self.inside.variables.now in
    let l = c.get.ensures.lookup in
    let here : slice_get vs c.args.number ≡ Some c.in-Some.variable.now = sym (item_get vs c.args.number c.get.result l.1 l.3) ∙ ap option_copied c.in-Some.is in
    let m = c.get-in-Some.ensures.lookup in
    let none = ap (λ xs. slice_get xs c.args.number) (sym c.deref.ensures.value) ∙ sym (item_get c.deref.result.now c.args.number c.get-in-Some.result m.1 m.3) ∙ ap option_copied c.in-None-get.is in
    get_lost vs c.self.inside.numbers.items c.args.number c.in-Some.variable.now _ c.self.invariant here none

pub returns-in-None : goal.returns-in-None
returns-in-None c =
    let l = c.get.ensures.lookup in
    let none : slice_get c.args.self.now c.args.number ≡ None =
    ap (λ xs. slice_get xs c.args.number) (sym c.self.view_is) ∙ sym (item_get c.self.inside.variables.now c.args.number c.get.result l.1 l.3) ∙ ap option_copied c.in-None.is in
    get_none c.args.self.now c.args.number none
