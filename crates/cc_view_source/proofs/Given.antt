-- What a function was given of the others.
use Rattle.std.proofs.Common.{◌≡◌, ◌<◌, ◌+◌, ℕ, suc, List, [], ◌∷◌, ◌++◌, length, map, take, Option, Some, slice_index_or, get_or, Contains, Vec, Global, refl, sym, ap, ◌∙◌, arith}
use Rattle.std.specs.Prelude.{unwrap_or, option_map}
use Rattle.std.proofs.lemmas.List.{get_or-map, map-append, take_more}
use Rattle.std.proofs.lemmas.Option.{same_Some, slice_get-get_or, slice_get-map}
use Rattle.board_core.specs.Answers.{all_some, answer}
use Rattle.board_core.proofs.lemmas.Answers.{all_some-cons}
use Rattle.call_order.specs.Units.{call_lists}
use Rattle.g_graph.specs.Plain.{PlainLambda}
use Rattle.r_rule.specs.Optimised.{PlainOptimised}
use Rattle.g_pass_order.specs.Calls.{no_lambda, IsOrder}
use Rattle.g_pass_order.specs.Laws.{OrdersAreRanked, OrdersAreUnique}
use Rattle.g_pass_def.specs.Answers.{lambda_of, lambdas_of, program}
use Rattle.g_pass_def.specs.Replayed.{lambdas_at}
use Rattle.g_pass_def.specs.Sweep.{optimise}
use Rattle.g_pass_def.proofs.lemmas.Answers.{made-of}
use Rattle.g_pass.specs.Sweep.{rules}
use Rattle.cc_view_source.specs.Made.{AreCallees}

lambda-at : (made : List PlainOptimised) (n : ℕ) (d : PlainOptimised) → n < length made → lambda_of (lambdas_of made) n ≡ (get_or made n d).lambda
lambda-at made n d inside =
    ap (λ o. unwrap_or o no_lambda)
    (slice_get-map (λ (o : PlainOptimised). o.lambda) made n ∙ ap (option_map (λ (o : PlainOptimised). o.lambda)) (slice_get-get_or made n d inside))

pub callee-more : (made got : List PlainOptimised) (numbers : List ℕ) (i : ℕ) (x : PlainOptimised) → i < length numbers → get_or numbers i 0 < length made →
    x ≡ get_or made (get_or numbers i 0) x → lambdas_of got ≡ lambdas_at (lambdas_of made) (take i numbers) →
    lambdas_of (got ++ x ∷ []) ≡ lambdas_at (lambdas_of made) (take (i + 1) numbers)
callee-more made got numbers i x inside there is so_far =
    let n = get_or numbers i 0 in
    let here : x.lambda ≡ lambda_of (lambdas_of made) n = ap (λ (o : PlainOptimised). o.lambda) is ∙ sym (lambda-at made n x there) in
    map-append (λ (o : PlainOptimised). o.lambda) got (x ∷ [])
    ∙ (ap (λ ks. ks ++ x.lambda ∷ []) so_far
    ∙ (ap (λ k. lambdas_at (lambdas_of made) (take i numbers) ++ k ∷ []) here
    ∙ (sym (map-append (lambda_of (lambdas_of made)) (take i numbers) (n ∷ [])) ∙ ap (λ ns. lambdas_at (lambdas_of made) ns) (sym (take_more numbers i 0 inside)))))

-- the deps of one function, in the plain lists
pub row : (lists : List (Vec ℕ Global)) (j : ℕ) (v : Vec ℕ Global) → j < length lists → v ≡ get_or lists j v → get_or (call_lists lists) j [] ≡ v.items
row lists j v inside is = get_or-map (λ (x : Vec ℕ Global). x.items) lists j v [] inside ∙ ap (λ (x : Vec ℕ Global). x.items) (sym is)

-- what a list has at numbers whose results it has
at-results : (results : ℕ → Option PlainOptimised) (ks : List PlainLambda) (ds : List ℕ) (outs : List PlainOptimised) → all_some (map results ds) ≡ Some outs →
    ((d : ℕ) (a : PlainOptimised) → Contains ds d → results d ≡ Some a → lambda_of ks d ≡ a.lambda) → lambdas_at ks ds ≡ lambdas_of outs
at-results results ks [] outs e each = ap lambdas_of (same_Some [] outs e)
at-results results ks (d ∷ ds) outs e each =
    let parts = all_some-cons (results d) (map results ds) outs e in
    let here = each d parts.0 (0, omega arith, refl) parts.2 in
    let rest = at-results results ks ds parts.1 parts.3 (λ k a h. each k a (suc h.0, omega (arith, h.1), h.2)) in
    ap (λ k. k ∷ lambdas_at ks ds) here ∙ (ap (λ held. parts.0.lambda ∷ held) rest ∙ ap lambdas_of (sym parts.4))

-- what the answers have at the deps of a function are its callees
pub are-callees : OrdersAreRanked → OrdersAreUnique → (ls : List PlainLambda) (answers : List PlainOptimised) (ranks : List ℕ) (deps : List (List ℕ)) → IsOrder ls ranks deps → (f : ℕ) →
    AreCallees ls answers f (lambdas_at (lambdas_of answers) (slice_index_or deps f []))
are-callees is_ranked is_unique ls answers ranks deps order f recipe all inside =
    let m = made-of is_ranked rules recipe ls answers all f inside in
    let same = is_unique ls all.ranks ranks all.deps deps all.order order in
    let ranked = is_ranked ls all.ranks all.deps all.order in
    let held =
    at-results (answer (program rules recipe ls all.ranks all.deps 1)) (lambdas_of answers) (slice_index_or all.deps f []) m.callees m.callees_are
    (λ d a h e.
    ap (λ o. unwrap_or o no_lambda)
    (slice_get-map (λ (o : PlainOptimised). o.lambda) answers d ∙ ap (option_map (λ (o : PlainOptimised). o.lambda)) (all.each d (ranked.dep f d h).known ∙ e))) in
    m.is
    ∙ ap (λ cs. Some (optimise rules cs recipe (lambda_of ls f))) (sym held ∙ ap (λ ds. lambdas_at (lambdas_of answers) (slice_index_or ds f [])) same.1)
