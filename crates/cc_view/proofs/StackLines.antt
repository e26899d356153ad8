-- The line of a stack, and the text of what is accepted, from what was found for them.
use Rattle.std.proofs.Common.{◌≡◌, ℕ, List, [], ◌++◌, length, Option, ap, subst, ◌∙◌}
use Rattle.g_graph.specs.Plain.{PlainLambda, PlainOmega}
use Rattle.s_linear.specs.declared.frame.CodeForm.TheVariants.{Plain}
use Rattle.cc_emit.specs.Image.{image_of, main_of}
use Rattle.cc_emit.specs.Images.{frames}
use Rattle.cc_view.specs.Depths.{depth_at, IsDepth}
use Rattle.cc_view.specs.Explanation.{code_line, frame_lines, IsExplained, IsStackLine, IsStackOf}

module _ (o : PlainOmega) (ls : List PlainLambda) where
  pub is_stack_of : (ks : List PlainLambda) (sizes : List ℕ) (names : List (List ℕ)) (found depths : List (Option ℕ)) (main : ℕ) (line : List ℕ) →
      ks ≡ ls → sizes ≡ frames Plain ls → names ≡ o.names → depths ≡ found → main ≡ main_of o → IsDepth ks sizes found → IsStackLine names (depth_at depths main) line →
      IsStackOf o ls line
  is_stack_of ks sizes names found depths main line same framed named read begins are is = record {
    depths = found;
    are = subst (λ (k : List PlainLambda). IsDepth k (frames Plain ls) found) same (subst (λ (s : List ℕ). IsDepth ks s found) framed are);
    is =
        subst (λ (n : List (List ℕ)). IsStackLine n (depth_at found (main_of o)) line) named
        (subst (λ (m : ℕ). IsStackLine names (depth_at found m) line) begins (subst (λ (d : List (Option ℕ)). IsStackLine names (depth_at d main) line) read is));
  }

  pub explained : (none begun framed all sizes : List ℕ) (bytes : ℕ) (names : List (List ℕ)) →
      none ≡ [] → bytes ≡ length (image_of Plain o ls).text → begun ≡ none ++ code_line bytes → sizes ≡ frames Plain ls → names ≡ o.names → framed ≡ begun ++ frame_lines names 0 sizes →
      (line : List ℕ) × IsStackOf o ls line × (all ≡ framed ++ line) → IsExplained o ls all
  explained none begun framed all sizes bytes names is_none counted is_begun are_sizes are_names is_framed h =
      let code = code_line (length (image_of Plain o ls).text) in
      record {
        line = h.0;
        stack = h.1;
        is =
            h.2
            ∙ ap (λ t. t ++ h.0)
            (is_framed
            ∙ (ap (λ t. t ++ frame_lines names 0 sizes) (is_begun ∙ (ap (λ t. t ++ code_line bytes) is_none ∙ ap code_line counted))
            ∙ (ap (λ n. code ++ frame_lines n 0 sizes) are_names ∙ ap (λ s. code ++ frame_lines o.names 0 s) are_sizes)));
      }
