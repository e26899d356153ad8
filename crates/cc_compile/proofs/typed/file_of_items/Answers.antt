use Rattle.std.proofs.Common.{◌≡◌, ap, ◌∙◌}
use Rattle.std.proofs.lemmas.Result.{IfOk-weaker}
use Rattle.elf_file.specs.Written.{file_of}
use Rattle.rv_layout.specs.Layout.{item_lists}
use Rattle.cc_emit.specs.Items.{image_of_items}
use Rattle.cc_compile.proofs.typed.file_of_items.Goals as goal

pub returns : goal.returns
returns c =
    let image = ap file_of c.in_ok-image.ensures.image in
    IfOk-weaker c.write.result _ (λ file. file.items ≡ file_of (image_of_items c.args.omega.now (item_lists c.args.functions.now))) (λ file is. is ∙ image) c.write.ensures
