use Rattle.std.proofs.Common.{◌≡◌, ◌<◌, ◌^◌, ap, ◌∙◌, sym, subst, map, length, arith}
use Rattle.std.specs.Arc.{arc_value}
use Rattle.std.proofs.lemmas.Result.{IfOk-weaker}
use Rattle.elf_file.specs.Laws.{executable_for}
use Rattle.elf_file.specs.Written.{file_of}
use Rattle.cc_emit.specs.Image.{file_of_program, image_of, lambdas_of}
use Rattle.log_check.proofs.Files.{loaded_is_short}
use Rattle.log_check.proofs.image.file_with.Goals as goal

pub returns-clause-file : goal.returns-clause-file
returns-clause-file c =
    let o = c.args.omega.now in
    let ls = lambdas_of (map arc_value c.args.made.now) in
    let image = ap file_of c.in_ok-image.ensures.image in
    IfOk-weaker c.write.result _ (λ file. file.items ≡ file_of_program c.args.form o ls) (λ file is. is ∙ image) c.write.ensures

pub returns-clause-short : goal.returns-clause-short
returns-clause-short c =
    let o = c.args.omega.now in
    let ls = lambdas_of (map arc_value c.args.made.now) in
    let image = ap file_of c.in_ok-image.ensures.image in
    let small = loaded_is_short (file_of_program c.args.form o ls) (executable_for (image_of c.args.form o ls)) (c.program_loads.ensures c.args.form o ls c.requires) in
    IfOk-weaker c.write.result _ (λ file. length file.items < 2 ^ 32) (λ file is. subst (λ bytes. length bytes < 2 ^ 32) (sym (is ∙ image)) (omega (arith, small))) c.write.ensures
