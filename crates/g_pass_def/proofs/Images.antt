-- What keeps the lambdas of an image are lambdas of an image.
use Rattle.std.proofs.Common.{◌≡◌, ◌<◌, ◌≤◌, ◌+◌, ◌*◌, ℕ, suc, List, [], ◌∷◌, length, Some, slice_get, get_or, refl, sym, subst, inl, inr, arith}
use Rattle.std.specs.List.{sum_by, fold}
use Rattle.std.proofs.lemmas.Option.{slice_get_within, slice_get-get_or}
use Rattle.base.specs.Limits.{counted_bytes, most_object_bytes, most_grown_values}
use Rattle.g_graph.specs.Plain.{PlainLambda, PlainObject}
use Rattle.g_graph.specs.Program.{lambda_values, IsFunctionWithinLimits}
use Rattle.g_pass_def.specs.Kept.{KeepsShape}
use Rattle.g_pass_def.specs.Laws.{KeptListsFitImages}

function-fits : (l k : PlainLambda) → KeepsShape l k → IsFunctionWithinLimits l → IsFunctionWithinLimits k
function-fits l k shape fits =
    record {
      parameters = omega (arith, fits.parameters, shape.interface.params);
      objects = subst (λ (os : List PlainObject). sum_by (λ (o : PlainObject). counted_bytes o.size) os ≤ most_object_bytes) (sym shape.interface.objects) fits.objects;
      values = elim shape.values [ inl small ↦ omega (arith, small, fits.values) | inr less ↦ omega (arith, less, fits.values) ];
    }

-- sums of values, each list from a number on
sums : (ls ks : List PlainLambda) → length ks ≡ length ls → ((f : ℕ) (l k : PlainLambda) → slice_get ls f ≡ Some l → slice_get ks f ≡ Some k → KeepsShape l k) → (a b c : ℕ) → a ≤ b + c →
    fold (λ n l. n + lambda_values l) a ks ≤ fold (λ n l. n + lambda_values l) b ls + (c + length ls * most_grown_values)
sums [] [] count each a b c h = omega (arith, h)
sums [] (k ∷ ks) count each a b c h = absurd (omega (arith, count))
sums (l ∷ ls) [] count each a b c h = absurd (omega (arith, count))
sums (l ∷ ls) (k ∷ ks) count each a b c h =
    let shape = each 0 l k refl refl in
    let next : a + lambda_values k ≤ (b + lambda_values l) + (c + most_grown_values) = elim shape.values [ inl small ↦ omega (arith, h, small) | inr less ↦ omega (arith, h, less) ] in
    let rest = sums ls ks (omega (arith, count)) (λ f x y p q. each (suc f) x y p q) (a + lambda_values k) (b + lambda_values l) (c + most_grown_values) next in
    omega (arith, rest)

pub kept_lists_fit_images : KeptListsFitImages
kept_lists_fit_images omega' ls ks kept program limits few = (
  kept.stands.image omega' program,
  record {
    functions = omega (arith, limits.functions, kept.count);
    each = λ f k e.
        let inside : f < length ls = omega (arith, slice_get_within ks f k e, kept.count) in
        let at = slice_get-get_or ls f k inside in
        function-fits (get_or ls f k) k (kept.each f (get_or ls f k) k at e) (limits.each f (get_or ls f k) at);
    values = omega (arith, sums ls ks kept.count kept.each 0 0 0 (omega arith), limits.functions, few);
    globals = limits.globals;
  },
)
