use Rattle.std.proofs.Common.{◌≡◌, ap, ◌∙◌, map}
use Rattle.std.specs.Arc.{arc_value}
use Rattle.std.proofs.lemmas.Result.{IfOk-weaker}
use Rattle.elf_file.specs.Written.{file_of}
use Rattle.rv_layout.specs.Layout.{item_lists}
use Rattle.cc_emit.specs.Image.{file_of_program, lambdas_of}
use Rattle.cc_emit.proofs.lemmas.Lambdas.{is_function}
use Rattle.cc_emit.specs.Items.{image_of_items}
use Rattle.cc_compile.proofs.typed.file_with.Goals as goal

pub all_items-requires : goal.all_items-requires
all_items-requires c = is_function c.args.omega.now (lambdas_of (map arc_value c.args.all.now)) c.requires

pub file_of_items-requires : goal.file_of_items-requires
file_of_items-requires c = record {
  form = c.args.form;
  lambdas = lambdas_of (map arc_value c.args.all.now);
  can = c.requires;
  items_are = ap item_lists c.deref.ensures.value ∙ c.in_ok-functions.ensures;
}

pub returns : goal.returns
returns c =
    let o = c.args.omega.now in
    let ls = lambdas_of (map arc_value c.args.all.now) in
    let image = ap (λ fs. file_of (image_of_items o fs)) (ap item_lists c.deref.ensures.value ∙ c.in_ok-functions.ensures) in
    IfOk-weaker c.file_of_items.result _ (λ file. file.items ≡ file_of_program c.args.form o ls) (λ file is. is ∙ image) c.file_of_items.ensures
