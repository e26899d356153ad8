use Rattle.std.proofs.Common.{length, refl, sym, ap, ◌∙◌, subst}
use Rattle.std.proofs.lemmas.Option.{slice_get_read}
use Rattle.c_type.specs.Trees.{TypeTree}
use Rattle.c_type.specs.Layout.{IsLaidOut}
use Rattle.c_typed.specs.Typed.{GlobalTree}
use Rattle.c_interp_store.proofs.layout.sizes.Goals as goal

pub size_of-requires : goal.size_of-requires
size_of-requires c =
    let gs = c.args.globals.now in
    let g = c.g-item.result in
    subst (λ (t : TypeTree). IsLaidOut c.args.types.now t) (sym (c.deref.ensures ∙ ap (λ (x : GlobalTree). x.type) c.g.view_is))
    (c.requires c.loop-g.g-index g (slice_get_read gs (length gs) c.loop-g.g-index g refl c.loop-g-test.true c.g-item.is))
