use Rattle.std.proofs.Common.{◌≡◌, ◌<◌, length, refl, sym, ap, ◌∙◌, subst}
use Rattle.std.specs.Prelude.{List, ◌^◌}
use Rattle.std.proofs.lemmas.Option.{slice_get_read}
use Rattle.c_typed.specs.Typed.{VariableTree, FunctionTree}
use Rattle.c_typed.specs.WellTyped.{VariablesFit}
use Rattle.c_interp_store.specs.Laid.{IsLayout}
use Rattle.c_interp_store.proofs.Numbers.{more_layouts}
use Rattle.c_interp_store.proofs.layout.function_layouts.Goals as goal

pub function_layout-requires-clause-fit : goal.function_layout-requires-clause-fit
function_layout-requires-clause-fit c =
    let fs = c.args.functions.now in
    let i = c.loop-f.f-index in
    let f = c.f-item.result in
    subst (λ (vs : List VariableTree). VariablesFit c.args.types.now vs) (sym (c.deref.ensures.value ∙ ap (λ (x : FunctionTree). x.variables) c.f.view_is))
    (c.requires.fit i f (slice_get_read fs (length fs) i f refl c.loop-f-test.true c.f-item.is)).0

pub function_layout-requires-clause-few : goal.function_layout-requires-clause-few
function_layout-requires-clause-few c =
    let fs = c.args.functions.now in
    let i = c.loop-f.f-index in
    let f = c.f-item.result in
    subst (λ (vs : List VariableTree). length vs < 2 ^ 32) (sym (c.deref.ensures.value ∙ ap (λ (x : FunctionTree). x.variables) c.f.view_is))
    (c.requires.fit i f (slice_get_read fs (length fs) i f refl c.loop-f-test.true c.f-item.is)).1

pub loop-f-preserved : goal.loop-f-preserved
loop-f-preserved c =
    let types = c.args.types.now in
    let l = c.in_ok-function_layout.field-0 in
    let variables : c.deref.result.now ≡ c.f-item.result.variables = c.deref.ensures.value ∙ ap (λ (x : FunctionTree). x.variables) c.f.view_is in
    more_layouts types c.args.functions.now c.loop-f.f-index c.loop-f.layouts.items c.push.new.self.items l c.f-item.result c.loop-f.invariant c.in_ok-push.ensures.items
    (subst (λ (vs : List VariableTree). IsLayout types vs l) variables c.in_ok-function_layout.ensures) c.loop-f-test.true c.f-item.is
