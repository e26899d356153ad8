-- The items of a program are laid out as its image.
use Rattle.std.proofs.Common.{◌≡◌, ℕ, ◌^◌, ◌<◌, sym, ap, subst, ◌∙◌, List, map, Result, Ok, Err, IfOk, arith}
use Rattle.elf_file.specs.Image.{sections_of, IsPlaced}
use Rattle.elf_file.specs.Written.{file_of}
use Rattle.elf_file.specs.declared.image.Image.{Image}
use Rattle.g_graph.specs.Plain.{PlainDelta, PlainLambda, PlainOmega}
use Rattle.s_linear.specs.declared.frame.CodeForm.{CodeForm}
use Rattle.rv_layout.specs.declared.item.Item.{Item}
use Rattle.rv_layout.specs.Conditions.{CanLayOut}
use Rattle.rv_layout.specs.Layout.{laid_out}
use Rattle.cc_emit.specs.Image.{function_items, main_of, image_of, CanEmit}
use Rattle.cc_emit.proofs.lemmas.FunctionFits.{main_there, functions_fit}
use Rattle.cc_emit.specs.Laws.{ImageIsPlaced}
use Rattle.cc_emit.specs.Images.{KeepsLambdas, ImagesKeepMeaning}
use Rattle.cc_emit.specs.Items.{image_of_items, CanEmitItems}

module _ (program : PlainOmega) (functions : List (List Item)) (can : CanEmitItems program functions) where
  pub main_fits : main_of program < 2 ^ 32
  main_fits = omega (arith, main_there program can.lambdas can.can, can.can.limits.functions)

  -- the items, the globals and the number of `main` as the code has them
  module _ (globals : List PlainDelta) (main : ℕ) (globals_are : globals ≡ program.deltas) (is : main ≡ main_of program) where
    pub can_lay_out_here : CanLayOut functions globals main
    can_lay_out_here =
        subst (λ fs. CanLayOut fs globals main) (sym can.items_are)
        (subst (λ ds. CanLayOut (map (function_items can.form) can.lambdas) ds main) (sym globals_are)
        (subst (λ n. CanLayOut (map (function_items can.form) can.lambdas) program.deltas n) (sym is) (functions_fit can.form program can.lambdas can.can)))

    pub image_here : laid_out functions globals main ≡ image_of_items program functions
    image_here = ap (λ ds. laid_out functions ds main) globals_are ∙ ap (λ n. laid_out functions program.deltas n) is

  pub placed_here : {E : Type 0} → ImageIsPlaced → (r : Result Image E) → IfOk r (λ image. sections_of image ≡ image_of_items program functions) → IfOk r (λ image. IsPlaced (sections_of image))
  placed_here placed (Ok image) same = subst (λ s. IsPlaced s) (sym (same ∙ ap (image_of_items program) can.items_are)) (placed can.form program can.lambdas can.can)
  placed_here placed (Err e) same = tt

module _ {E : Type 0} (form : CodeForm) (program : PlainOmega) (ls : List PlainLambda) (can : CanEmit program ls) where
  pub kept_here : ImagesKeepMeaning → (r : Result Image E) → IfOk r (λ image. sections_of image ≡ image_of form program ls)
      → IfOk r (λ image. KeepsLambdas form program ls (file_of (sections_of image)))
  kept_here keep (Ok image) same = subst (λ s. KeepsLambdas form program ls (file_of s)) (sym same) (keep form program ls can)
  kept_here keep (Err e) same = tt
