-- One step more, and one callee more.
use Rattle.std.proofs.Common.{◌≡◌, ◌<◌, ◌+◌, ℕ, zero, suc, Bool, true, List, [], ◌∷◌, ◌++◌, length, map, take, None, Some, slice_get, get_or, set, Vec, Global, sym, ap, subst, ◌∙◌, arith}
use Rattle.std.specs.Prelude.{option_and_then, Option, if◌then◌else◌, unwrap_or, option_map}
use Rattle.std.proofs.lemmas.List.{get_or-map, map-append, map-set, take_more}
use Rattle.std.proofs.lemmas.Option.{slice_get-get_or, slice_get-map}
use Rattle.std.specs.Arc.{arc_value}
use Rattle.std.specs.declared.sync.Arc.{Arc}
use Rattle.call_order.specs.Units.{call_lists}
use Rattle.r_rule.specs.declared.steps.Step.{Step}
use Rattle.g_graph.specs.Plain.{PlainLambda}
use Rattle.r_rule.specs.Optimised.{PlainOptimised}
use Rattle.g_pass_order.specs.Calls.{no_lambda}
use Rattle.g_pass_def.specs.Answers.{lambda_of, lambdas_of}
use Rattle.g_pass_def.specs.Sweep.{replayed}
use Rattle.g_pass_def.specs.Replayed.{lambdas_at}
use Rattle.g_pass.specs.Sweep.{rules}

-- ---- steps

one-more : (callees : List PlainLambda) (steps : List Step) (l k j : PlainLambda) (n : ℕ) (s : Step) → replayed rules callees (take n steps) l ≡ Some k → slice_get steps n ≡ Some s →
    rules.step s.rule callees s.node k ≡ Some j → replayed rules callees (take (suc n) steps) l ≡ Some j
one-more callees [] l k j n s made next step = absurd cc
one-more callees (t ∷ steps) l k j zero s made next step =
    let here : l ≡ k = cc in
    let this : t ≡ s = cc in
    let at : rules.step t.rule callees t.node l ≡ Some j =
    subst (λ (x : Step). rules.step x.rule callees x.node l ≡ Some j) (sym this) (subst (λ x. rules.step s.rule callees s.node x ≡ Some j) (sym here) step) in
    ap (option_and_then (replayed rules callees [])) at
one-more callees (t ∷ steps) l k j (suc n) s made next step =
    goes-on (rules.step t.rule callees t.node l) (λ x e. one-more callees steps x k j n s e next step) made
  where
    goes-on : (o : Option PlainLambda) → ((x : PlainLambda) → replayed rules callees (take n steps) x ≡ Some k → replayed rules callees (take (suc n) steps) x ≡ Some j) →
        option_and_then (replayed rules callees (take n steps)) o ≡ Some k → option_and_then (replayed rules callees (take (suc n) steps)) o ≡ Some j
    goes-on None rest e = absurd cc
    goes-on (Some x) rest e = rest x e

pub step-made : (callees : List PlainLambda) (steps : List Step) (l k j : PlainLambda) (n : ℕ) (d : Step) (made : Bool) → n < length steps → replayed rules callees (take n steps) l ≡ Some k →
    rules.step (get_or steps n d).rule callees (get_or steps n d).node k ≡ (if made then Some j else None) → made ≡ true → replayed rules callees (take (n + 1) steps) l ≡ Some j
step-made callees steps l k j n d made inside so_far step applied =
    let s = get_or steps n d in
    let at : rules.step s.rule callees s.node k ≡ Some j = step ∙ ap (λ (b : Bool). if b then Some j else None) applied in
    let next_number : suc n ≡ n + 1 = omega arith in
    subst (λ m. replayed rules callees (take m steps) l ≡ Some j) next_number (one-more callees steps l k j n s so_far (slice_get-get_or steps n d inside) at)

-- ---- callees

lambda-at : (made : List PlainOptimised) (n : ℕ) (d : PlainOptimised) → n < length made → lambda_of (lambdas_of made) n ≡ (get_or made n d).lambda
lambda-at made n d inside =
    ap (λ o. unwrap_or o no_lambda)
    (slice_get-map (λ (o : PlainOptimised). o.lambda) made n ∙ ap (option_map (λ (o : PlainOptimised). o.lambda)) (slice_get-get_or made n d inside))

pub callee-more : (made got : List PlainOptimised) (numbers : List ℕ) (i : ℕ) (x : PlainOptimised) → i < length numbers → get_or numbers i 0 < length made →
    x ≡ get_or made (get_or numbers i 0) x → lambdas_of got ≡ lambdas_at (lambdas_of made) (take i numbers) →
    lambdas_of (got ++ x ∷ []) ≡ lambdas_at (lambdas_of made) (take (i + 1) numbers)
callee-more made got numbers i x inside there is so_far =
    let n = get_or numbers i 0 in
    let here : x.lambda ≡ lambda_of (lambdas_of made) n = ap (λ (o : PlainOptimised). o.lambda) is ∙ sym (lambda-at made n x there) in
    map-append (λ (o : PlainOptimised). o.lambda) got (x ∷ [])
    ∙ (ap (λ ks. ks ++ x.lambda ∷ []) so_far
    ∙ (ap (λ k. lambdas_at (lambdas_of made) (take i numbers) ++ k ∷ []) here
    ∙ (sym (map-append (lambda_of (lambdas_of made)) (take i numbers) (n ∷ [])) ∙ ap (λ ns. lambdas_at (lambdas_of made) ns) (sym (take_more numbers i 0 inside)))))

-- ---- lists of vectors, and lists that are written

-- the deps of one function, in the plain lists
pub row : (lists : List (Vec ℕ Global)) (j : ℕ) (v : Vec ℕ Global) → j < length lists → v ≡ get_or lists j v → get_or (call_lists lists) j [] ≡ v.items
row lists j v inside is = get_or-map (λ (x : Vec ℕ Global). x.items) lists j v [] inside ∙ ap (λ (x : Vec ℕ Global). x.items) (sym is)

-- the lambdas where one is written
pub written : (made : List (Arc PlainOptimised Global)) (i : ℕ) (x : Arc PlainOptimised Global) →
    lambdas_of (map arc_value (set made i x)) ≡ set (lambdas_of (map arc_value made)) i (arc_value x).lambda
written made i x =
    ap lambdas_of (map-set arc_value made i x) ∙ map-set (λ (o : PlainOptimised). o.lambda) (map arc_value made) i (arc_value x)
