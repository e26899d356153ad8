use Rattle.std.proofs.Common.{◌≡◌, length, map, ap, ◌∙◌, arith}
use Rattle.std.specs.Arc.{arc_value}
use Rattle.elf_file.specs.Image.{Sections}
use Rattle.s_linear.specs.declared.frame.CodeForm.TheVariants.{Plain}
use Rattle.cc_emit.specs.Image.{image_of, lambdas_of}
use Rattle.cc_view.proofs.accepted.code_bytes.Goals as goal

pub returns : goal.returns
returns c =
    let text = c.in_ok-image.image.text in
    let same : length text.items ≡ length (image_of Plain c.args.made.now.omega (lambdas_of (map arc_value c.args.made.now.answers.items))).text =
    ap (λ (s : Sections). length s.text) c.in_ok-image.ensures.image ∙ ap (λ xs. length (image_of Plain c.args.made.now.omega (lambdas_of (map arc_value xs))).text) c.deref.ensures.value in
    omega (arith, c.len.ensures, text.ok.0, same)
