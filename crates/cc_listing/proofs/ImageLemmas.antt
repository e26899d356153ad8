-- The words of the text of an image.
use Rattle.std.proofs.Common.{◌≡◌, ℕ, ◌+◌, ◌*◌, ◌/◌, ◌^◌, ◌<◌, ◌≤◌, ◌∙◌, ◌++◌, refl, ap, List, [], ◌∷◌, drop, length, map, sum_by, arith}
use Rattle.std.proofs.lemmas.List.{length-drop}
use Rattle.std.proofs.lemmas.List.Sums.{sum_by-cons}
use Rattle.g_graph.specs.Plain.{PlainLambda, PlainOmega}
use Rattle.rv_layout.specs.Items.{items_size}
use Rattle.rv_layout.specs.Layout.{addresses_of, functions_at}
use Rattle.rv_layout.proofs.lemmas.Placed.{length-text}
use Rattle.s_linear.specs.declared.frame.CodeForm.TheVariants.{Plain}
use Rattle.cc_emit.specs.Image.{function_items, code_size, main_of, image_of, CanEmit}
use Rattle.cc_emit.proofs.lemmas.FunctionFits.{text_sum}
use Rattle.cc_listing.specs.Lines.{functions_text, start_text, text_of}
use Rattle.cc_listing.specs.Words.{words_in}
use Rattle.cc_listing.proofs.Cut.{four_bytes}
use Rattle.cc_listing.proofs.Pushed.{two}

length-words_in : (bs : List ℕ) → length (words_in bs) ≡ length bs / 4
length-words_in [] = refl
length-words_in (a ∷ []) = refl
length-words_in (a ∷ b ∷ []) = refl
length-words_in (a ∷ b ∷ c ∷ []) = refl
length-words_in (a ∷ b ∷ c ∷ d ∷ bs) = omega (arith, length-words_in bs)

code_sum : (ls : List PlainLambda) → sum_by (code_size Plain) ls ≡ sum_by items_size (map (function_items Plain) ls)
code_sum [] = refl
code_sum (l ∷ ls) = omega (arith, sum_by-cons (code_size Plain) l ls, sum_by-cons items_size (function_items Plain l) (map (function_items Plain) ls), code_sum ls)

pub four_sum : (ls : List PlainLambda) → sum_by (code_size Plain) ls ≡ 4 * (sum_by (code_size Plain) ls / 4)
four_sum [] = refl
four_sum (l ∷ ls) = omega (arith, sum_by-cons (code_size Plain) l ls, four_bytes (function_items Plain l), four_sum ls)

module _ (program : PlainOmega) (ls : List PlainLambda) (can : CanEmit program ls) where
  text_length : length (image_of Plain program ls).text ≡ 116 + sum_by (code_size Plain) ls
  text_length =
      let functions = map (function_items Plain) ls in
      omega (arith, length-text (addresses_of functions program.deltas) functions (main_of program), code_sum ls)

  pub words_length : 4 * length (words_in (image_of Plain program ls).text) ≡ 116 + sum_by (code_size Plain) ls
  words_length = omega (arith, length-words_in (image_of Plain program ls).text, text_length, four_sum ls)

  module _ (ws : List ℕ) (are : ws ≡ words_in (image_of Plain program ls).text) where
    pub start_is_there : 29 ≤ length ws
    start_is_there = omega (arith, ap length are, words_length)

    pub functions_are_there : sum_by (code_size Plain) ls ≤ 4 * length (drop 29 ws)
    functions_are_there = omega (arith, ap length are, words_length, length-drop 29 ws)

    pub functions_are_short : functions_at + 4 * length (drop 29 ws) < 2 ^ 32
    functions_are_short = omega (arith, ap length are, words_length, length-drop 29 ws, code_sum ls, text_sum program ls can Plain)

-- the functions after the start code and the stubs
pub text_pushed : (names : List (List ℕ)) (ls : List PlainLambda) (ws later out t t' : List ℕ) → t ≡ out ++ start_text ws → later ≡ drop 29 ws
    → t' ≡ t ++ functions_text names 0 functions_at ls later → t' ≡ out ++ text_of names ls ws
unfolding text_of
text_pushed names ls ws later out t t' started cut pushed =
    pushed ∙ two out (start_text ws) (functions_text names 0 functions_at ls later) t started
    ∙ ap (λ xs. out ++ (start_text ws ++ functions_text names 0 functions_at ls xs)) cut
