use Rattle.std.proofs.Common.{◌≡◌, ap, subst, ◌∙◌, IfOk}
use Rattle.elf_file.specs.Image.{sections_of}
use Rattle.g_graph.specs.Plain.{PlainOmega}
use Rattle.rv_layout.specs.Layout.{item_lists}
use Rattle.cc_emit.proofs.Emitted.{main_fits, can_lay_out_here, image_here, placed_here}
use Rattle.cc_emit.proofs.program.emit_items.Goals as goal

pub main_of-requires : goal.main_of-requires
main_of-requires c = main_fits c.args.omega.now (item_lists c.args.functions.now) c.requires

pub lay-requires : goal.lay-requires
lay-requires c =
    can_lay_out_here c.args.omega.now (item_lists c.args.functions.now) c.requires c.deref.result.now c.main_of.result
    (c.deref.ensures.value ∙ ap (λ (o : PlainOmega). o.deltas) c.omega.view_is) c.main_of.ensures

pub returns-clause-image : goal.returns-clause-image
returns-clause-image c =
    subst (λ all. IfOk c.lay.result (λ image. sections_of image ≡ all))
    (image_here c.args.omega.now (item_lists c.args.functions.now) c.requires c.deref.result.now c.main_of.result
    (c.deref.ensures.value ∙ ap (λ (o : PlainOmega). o.deltas) c.omega.view_is) c.main_of.ensures)
    c.lay.ensures

pub returns-clause-placed : goal.returns-clause-placed
returns-clause-placed c = placed_here c.args.omega.now (item_lists c.args.functions.now) c.requires c.image_is_placed.ensures c.lay.result (returns-clause-image c)
