use Rattle.std.proofs.Common.{◌≡◌, sym, ap, ◌∙◌, subst}
use Rattle.std.specs.Prelude.{List, slice_get}
use Rattle.c_type.specs.Layout.{Definitions, IsLaidOut}
use Rattle.c_typed.specs.Typed.{FunctionTree, GlobalTree, ProgramTree}
use Rattle.c_typed.specs.WellTyped.{VariablesFit}
use Rattle.c_interp_store.proofs.layout.lay_out.Goals as goal

pub function_layouts-requires-clause-fit : goal.function_layouts-requires-clause-fit
function_layouts-requires-clause-fit c k f get =
    let functions : c.deref.result.now ≡ c.args.typed.now.functions = c.deref.ensures.value ∙ ap (λ (x : ProgramTree). x.functions) c.typed.view_is in
    let structs : c.typed.inside.structs ≡ c.args.typed.now.structs = ap (λ (x : ProgramTree). x.structs) c.typed.view_is in
    let typed = c.requires.functions k f (ap (λ (xs : List FunctionTree). slice_get xs k) (sym functions) ∙ get) in
    (subst (λ (ds : Definitions). VariablesFit ds f.variables) (sym structs) typed.variables, typed.few)

pub sizes-requires : goal.sizes-requires
sizes-requires c k g get =
    let globals : c.deref-2.result.now ≡ c.args.typed.now.globals = c.deref-2.ensures.value ∙ ap (λ (x : ProgramTree). x.globals) c.typed.view_is in
    let structs : c.typed.inside.structs ≡ c.args.typed.now.structs = ap (λ (x : ProgramTree). x.structs) c.typed.view_is in
    subst (λ (ds : Definitions). IsLaidOut ds g.type) (sym structs) (c.requires.globals k g (ap (λ (xs : List GlobalTree). slice_get xs k) (sym globals) ∙ get)).laid_out
