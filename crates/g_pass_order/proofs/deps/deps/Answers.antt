use Rattle.std.proofs.Common.{◌≡◌, ◌++◌, ◌<◌, ℕ, List, [], ◌∷◌, map, length, Vec, Global, slice_index_or, Contains, sym, ap, subst, ◌∙◌, arith}
use Rattle.std.specs.List.{range_with_len}
use Rattle.std.proofs.lemmas.List.{length-map, get_or-map, map_push}
use Rattle.std.proofs.lemmas.List.FromFn.{map-range_with_len_more}
use Rattle.call_order.specs.Units.{call_lists}
use Rattle.g_pass_order.specs.Calls.{outside}
use Rattle.g_pass_order.proofs.deps.deps.Goals as goal

-- the list of one function, in the plain lists
row : (calls : List (Vec ℕ Global)) (j : ℕ) (v : Vec ℕ Global) → j < length calls → v ≡ slice_index_or calls j v → slice_index_or (call_lists calls) j [] ≡ v.items
row calls j v inside is = get_or-map (λ (x : Vec ℕ Global). x.items) calls j v [] inside ∙ ap (λ (x : Vec ℕ Global). x.items) (sym is)

pub others-requires-clause-known : goal.others-requires-clause-known
others-requires-clause-known c f h =
    let calls = c.args.calls.now in
    let own = row calls c.loop-function.function c.index-calls-function.result c.loop-function-test.true c.index-calls-function.is ∙ sym c.as_slice.ensures.value in
    let low = c.requires.known c.loop-function.function f (subst (λ (xs : List ℕ). Contains xs f) (sym own) h) in
    omega (arith, low, c.requires.long, length-map calls (λ (x : Vec ℕ Global). x.items))

pub loop-function-preserved : goal.loop-function-preserved
loop-function-preserved c =
    let calls = c.args.calls.now in
    let j = c.loop-function.function in
    let own = row calls j c.index-calls-function.result c.loop-function-test.true c.index-calls-function.is ∙ sym c.as_slice.ensures.value in
    let rows : ℕ → List ℕ = λ i. outside c.args.unit.now i (slice_index_or (call_lists calls) i []) in
    let made = c.in_ok-others.field-0 in
    let is : made.items ≡ rows j = c.in_ok-others.ensures ∙ ap (λ (xs : List ℕ). outside c.args.unit.now j xs) (sym own) in
    ap call_lists c.in_ok-push.ensures.items
    ∙ (map_push (λ (x : Vec ℕ Global). x.items) c.loop-function.deps.items made
    ∙ (ap (λ (xs : List (List ℕ)). xs ++ made.items ∷ []) c.loop-function.invariant
    ∙ (ap (λ (xs : List ℕ). map rows (range_with_len 0 j) ++ xs ∷ []) is ∙ sym (map-range_with_len_more rows 0 j j (omega arith)))))
