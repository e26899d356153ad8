-- The functions that are left, one after the other.
use Rattle.std.proofs.Common.{◌≡◌, ℕ, ◌+◌, ◌-◌, ◌*◌, ◌/◌, ◌<◌, ◌≤◌, refl, sym, ap, ◌∙◌, List, [], ◌∷◌, ◌++◌, map, drop, length, get_or, sum_by, Some, option_map, append_assoc, append-nil, arith}
use Rattle.std.proofs.lemmas.List.{drop_more}
use Rattle.std.proofs.lemmas.List.Sums.{sum_by-cons}
use Rattle.std.proofs.lemmas.Option.{slice_get-map, slice_get_read}
use Rattle.std.specs.Prelude.{slice_get}
use Rattle.g_graph.specs.Plain.{PlainLambda}
use Rattle.r_rule.specs.Optimised.{PlainOptimised}
use Rattle.s_linear.specs.declared.frame.CodeForm.TheVariants.{Plain}
use Rattle.cc_emit.specs.Image.{code_size, function_items, lambdas_of}
use Rattle.cc_listing.specs.Lines.{function_text, functions_text, name_at}
use Rattle.cc_listing.proofs.Cut.{four_bytes}

-- the list of answers, of which the one at a number is read
module _ {X : Type 0} (read : X → PlainOptimised) (xs : List X) (i : ℕ) (a : X) (within : i < length xs) (is : a ≡ get_or xs i a) where
  pub answer_at : slice_get (lambdas_of (map read xs)) i ≡ Some (read a).lambda
  answer_at =
      slice_get-map (λ (o : PlainOptimised). o.lambda) (map read xs) i
      ∙ ap (option_map (λ (o : PlainOptimised). o.lambda)) (slice_get-map read xs i ∙ ap (option_map read) (slice_get_read xs (length xs) i a refl within is))

  pub left_at : lambdas_of (map read (drop i xs)) ≡ (read a).lambda ∷ lambdas_of (map read (drop (i + 1) xs))
  left_at =
      ap (λ ys. lambdas_of (map read ys)) (drop_more xs i a within)
      ∙ ap (λ x. (read x).lambda ∷ lambdas_of (map read (drop (i + 1) xs))) (sym is)

  -- its words are among those that are left
  pub own_there : (n : ℕ) → sum_by (code_size Plain) (lambdas_of (map read (drop i xs))) ≤ n → code_size Plain (read a).lambda ≤ n
  own_there n h =
      omega (arith, ap (sum_by (code_size Plain)) left_at, sum_by-cons (code_size Plain) (read a).lambda (lambdas_of (map read (drop (i + 1) xs))))

  pub left_there : (n : ℕ) → sum_by (code_size Plain) (lambdas_of (map read (drop i xs))) ≤ n
      → sum_by (code_size Plain) (lambdas_of (map read (drop (i + 1) xs))) ≤ n - code_size Plain (read a).lambda
  left_there n h =
      omega (arith, ap (sum_by (code_size Plain)) left_at, sum_by-cons (code_size Plain) (read a).lambda (lambdas_of (map read (drop (i + 1) xs))))

  -- one function more
  pub listed_step : (names : List (List ℕ)) (at end : ℕ) (ws later out out' whole : List ℕ) → end ≡ at + code_size Plain (read a).lambda
      → later ≡ drop ((end - at) / 4) ws
      → out ++ functions_text names i at (lambdas_of (map read (drop i xs))) ws ≡ whole
      → out' ≡ out ++ function_text names (name_at names i) (read a).lambda at ws
      → out' ++ functions_text names (i + 1) end (lambdas_of (map read (drop (i + 1) xs))) later ≡ whole
  unfolding functions_text
  listed_step names at end ws later out out' whole ends rest before pushed =
      let l = (read a).lambda in
      let ls = lambdas_of (map read (drop (i + 1) xs)) in
      let own = function_text names (name_at names i) l at ws in
      let size : (end - at) / 4 ≡ code_size Plain l / 4 = ap (λ n. n / 4) (omega (arith, ends)) in
      let later_is : later ≡ drop (code_size Plain l / 4) ws = rest ∙ ap (λ n. drop n ws) size in
      ap (λ n. out' ++ functions_text names (i + 1) n ls later) ends
      ∙ ap (λ xs. out' ++ functions_text names (i + 1) (at + code_size Plain l) ls xs) later_is
      ∙ ap (λ o. o ++ functions_text names (i + 1) (at + code_size Plain l) ls (drop (code_size Plain l / 4) ws)) pushed
      ∙ append_assoc out own (functions_text names (i + 1) (at + code_size Plain l) ls (drop (code_size Plain l / 4) ws))
      ∙ ap (λ xs. out ++ functions_text names i at xs ws) (sym left_at)
      ∙ before

pub listed_end : (names : List (List ℕ)) (f at : ℕ) (left : List PlainLambda) (ws out whole : List ℕ) → left ≡ []
    → out ++ functions_text names f at left ws ≡ whole → out ≡ whole
unfolding functions_text
listed_end names f at left ws out whole none before =
    sym (append-nil out) ∙ ap (λ ls. out ++ functions_text names f at ls ws) (sym none) ∙ before

-- the bytes of a function are whole words
pub four_code : (l : PlainLambda) → code_size Plain l ≡ 4 * (code_size Plain l / 4)
four_code l = four_bytes (function_items Plain l)
