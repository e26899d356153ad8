-- Two builds that were done leave the same files.
use Rattle.std.proofs.Common.{◌≡◌, List, Option, None, Some, option_map, refl, ap, sym, subst, ◌∙◌}
use Rattle.r_rule.specs.declared.steps.Rule.{Rule}
use Rattle.s_linear.specs.declared.frame.CodeForm.{CodeForm}
use Rattle.cc_source.specs.Accepted.{Accepts, OneProgram}
use Rattle.cc_compile.specs.Compiled.{IsImageUnder, OneImage}
use Rattle.cc_io.specs.Files.{Name, FileSet, put_file}
use Rattle.cc_top.specs.BuildEnds.{HasBuilt, OneBuild}
use Rattle.cc_io.specs.Outside.{FilesSeen}

module _ (one_program : OneProgram) (one_image : OneImage) where
  -- of one text there is one image
  same_bytes : (recipe : List Rule) (form : CodeForm) (source image : Name) (before after other_before other_after : FilesSeen) (h : HasBuilt recipe form source image before after)
      (k : HasBuilt recipe form source image other_before other_after) → h.text ≡ k.text → h.bytes ≡ k.bytes
  same_bytes recipe form source image before after other_before other_after h k same =
      let accepted : Accepts k.text h.program = subst (λ t. Accepts t h.program) same h.accepted in
      let program : h.program ≡ k.program = one_program k.text h.program k.program accepted k.accepted in
      one_image recipe form k.program h.bytes k.bytes (subst (λ p. IsImageUnder recipe form p h.bytes) program h.compiled) k.compiled

  pub one_build : OneBuild
  one_build recipe form source image before after other_before other_after h k same = by_known before.known refl where
    by_known : (known : Option FileSet) → before.known ≡ known → after.known ≡ other_after.known
    by_known None is =
        h.written ∙ ap (option_map (put_file image h.bytes)) is ∙ sym (ap (option_map (put_file image k.bytes)) (sym same ∙ is)) ∙ sym k.written
    by_known (Some files) is =
        let text : h.text ≡ k.text = h.read files is ∙ sym (k.read files (sym same ∙ is)) in
        let bytes = same_bytes recipe form source image before after other_before other_after h k text in
        h.written ∙ ap (λ b. option_map (put_file image b) before.known) bytes ∙ ap (option_map (put_file image k.bytes)) same ∙ sym k.written
