use Rattle.std.proofs.Common.{◌≡◌, ap, subst, ◌∙◌, map, IfOk}
use Rattle.std.specs.Arc.{arc_value}
use Rattle.elf_file.specs.Image.{sections_of}
use Rattle.rv_layout.specs.Layout.{item_lists}
use Rattle.cc_emit.specs.Image.{lambdas_of}
use Rattle.cc_emit.specs.Items.{image_of_items}
use Rattle.cc_emit.proofs.Emitted.{kept_here}
use Rattle.cc_emit.proofs.lemmas.Lambdas.{is_function}
use Rattle.cc_emit.proofs.program.emit.Goals as goal

pub all_items-requires : goal.all_items-requires
all_items-requires c = is_function c.args.omega.now (lambdas_of (map arc_value c.args.answers.now)) c.requires

pub emit_items-requires : goal.emit_items-requires
emit_items-requires c = record {
  form = c.args.form;
  lambdas = lambdas_of (map arc_value c.args.answers.now);
  can = c.requires;
  items_are = ap item_lists c.deref.ensures.value ∙ c.in_ok-functions.ensures;
}

pub returns-clause-image : goal.returns-clause-image
returns-clause-image c =
    subst (λ all. IfOk c.emit_items.result (λ image. sections_of image ≡ all))
    (ap (image_of_items c.args.omega.now) (ap item_lists c.deref.ensures.value ∙ c.in_ok-functions.ensures)) c.emit_items.ensures.image

pub returns-clause-kept : goal.returns-clause-kept
returns-clause-kept c =
    kept_here c.args.form c.args.omega.now (lambdas_of (map arc_value c.args.answers.now)) c.requires c.images_keep_meaning.ensures c.emit_items.result (returns-clause-image c)
