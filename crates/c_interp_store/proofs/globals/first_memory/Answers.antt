use Rattle.std.proofs.Common.{◌≡◌, sym, ap, ◌∙◌, subst}
use Rattle.std.specs.Prelude.{List, slice_get}
use Rattle.std.proofs.lemmas.Result.{IfOk-weaker}
use Rattle.c_type.specs.Layout.{Definitions, IsLaidOut, leaves}
use Rattle.c_typed.specs.Typed.{GlobalTree, ProgramTree}
use Rattle.c_mean.specs.Run.{first_memory}
use Rattle.c_interp_store.specs.Holding.{Holds, globals_of}
use Rattle.c_interp_store.specs.Starts.{globals_in, HoldsGlobals}
use Rattle.c_interp_store.proofs.GlobalCells.{first_held}
use Rattle.c_interp_store.proofs.globals.first_memory.Goals as goal

pub blocks-requires-clause-fit : goal.blocks-requires-clause-fit
blocks-requires-clause-fit c k g get =
    let p = c.args.typed.now in
    let globals : c.deref.result.now ≡ p.globals = c.deref.ensures.value ∙ ap (λ (x : ProgramTree). x.globals) c.typed.view_is in
    let structs : c.typed.inside.structs ≡ p.structs = ap (λ (x : ProgramTree). x.structs) c.typed.view_is in
    let typed = c.requires.typed.globals k g (ap (λ (xs : List GlobalTree). slice_get xs k) (sym globals) ∙ get) in
    (subst (λ (ds : Definitions). IsLaidOut ds g.type) (sym structs) typed.laid_out, record { leaves = leaves p.structs g.type; globals = _; from = 0; fits = typed.written })

pub returns : goal.returns
returns c =
    let p = c.args.typed.now in
    let globals : c.deref.result.now ≡ p.globals = c.deref.ensures.value ∙ ap (λ (x : ProgramTree). x.globals) c.typed.view_is in
    let structs : c.typed.inside.structs ≡ p.structs = ap (λ (x : ProgramTree). x.structs) c.typed.view_is in
    IfOk-weaker c.blocks-2.result (λ s. HoldsGlobals c.typed.inside.structs (globals_in c.args.layouts.now) c.deref.result.now s)
    (λ s. Holds s (globals_of (first_memory p)) (first_memory p))
    (λ s h. first_held p c.typed.inside.structs c.args.layouts.now.globals.items c.deref.result.now s structs globals c.requires.laid.globals h) c.blocks-2.ensures
