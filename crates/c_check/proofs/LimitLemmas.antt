-- Sums of bytes of a list's first elements, and the first one that passes a limit.
use Rattle.std.proofs.Common.{◌≡◌, ℕ, ◌+◌, ◌<◌, Bool, true, false, List, [], ◌∷◌, ◌++◌, length, take, get_or, map, Option, None, Some, refl, sym, ap, ◌∙◌, arith}
use Rattle.std.specs.Prelude.{nat_lt, if◌then◌else◌}
use Rattle.std.specs.List.{sum, sum_by}
use Rattle.std.specs.Option.{option_or}
use Rattle.std.proofs.lemmas.List.{take_more}
use Rattle.std.proofs.lemmas.List.Sums.{sum-map, sum_by-cons, sum_by_more}
use Rattle.base.specs.Limits.{most_global_bytes}
use Rattle.c_type.specs.Layout.{Definitions}
use Rattle.c_typed.specs.Typed.{GlobalTree}
use Rattle.c_check_def.specs.Limits.{global_bytes, passing}

-- ---- sums of bytes

pub sum-next : {X : Type 0} (f : X → ℕ) (xs : List X) (i : ℕ) (x : X) → i < length xs → x ≡ get_or xs i x → sum (map f (take (i + 1) xs)) ≡ sum (map f (take i xs)) + f x
sum-next f xs i x below is =
    sum-map f (take (i + 1) xs) ∙ sum_by_more f xs i x below ∙ ap (λ y. sum_by f (take i xs) + f y) (sym is) ∙ ap (λ n. n + f x) (sym (sum-map f (take i xs)))

none_more : (m n : ℕ) → m + n ≡ m + 0 + n
none_more m n = omega arith

none_before : (m n : ℕ) → m + n ≡ 0 + m + n
none_before m n = omega arith

three : (a b c d : ℕ) → a + b + c + d ≡ a + (b + c) + d
three a b c d = omega arith

-- where the sum up to a global passes the limit
abbrev pub at_sum : (bytes at : ℕ) → Option ℕ
at_sum n offset = if nat_lt most_global_bytes n then Some offset else None

passing_end : (defs : Definitions) (n : ℕ) (gs : List GlobalTree) (g : GlobalTree) →
    passing defs n (gs ++ g ∷ []) ≡ option_or (passing defs n gs) (at_sum (n + sum_by (global_bytes defs) gs + global_bytes defs g) g.at)
passing_end defs n [] g = ap (λ k. at_sum k g.at) (none_more n (global_bytes defs g))
passing_end defs n (x ∷ gs) g = by_test (nat_lt most_global_bytes (n + global_bytes defs x)) (passing_end defs (n + global_bytes defs x) gs g)
  where
    by_test : (b : Bool) →
        passing defs (n + global_bytes defs x) (gs ++ g ∷ [])
        ≡ option_or (passing defs (n + global_bytes defs x) gs) (at_sum (n + global_bytes defs x + sum_by (global_bytes defs) gs + global_bytes defs g) g.at) →
        (if b then Some x.at else passing defs (n + global_bytes defs x) (gs ++ g ∷ []))
        ≡ option_or (if b then Some x.at else passing defs (n + global_bytes defs x) gs) (at_sum (n + sum_by (global_bytes defs) (x ∷ gs) + global_bytes defs g) g.at)
    by_test true h = refl
    by_test false h =
        h
        ∙ ap (λ k. option_or (passing defs (n + global_bytes defs x) gs) (at_sum k g.at)) (three n (global_bytes defs x) (sum_by (global_bytes defs) gs) (global_bytes defs g)
        ∙ ap (λ m. n + m + global_bytes defs g) (sym (sum_by-cons (global_bytes defs) x gs)))

-- one more global
pub passing-next : (defs : Definitions) (gs : List GlobalTree) (i : ℕ) (g : GlobalTree) (now : ℕ) (before new : Option ℕ) → i < length gs → g ≡ get_or gs i g
    → before ≡ passing defs 0 (take i gs) → now ≡ sum (map (global_bytes defs) (take (i + 1) gs)) → new ≡ option_or before (at_sum now g.at)
    → new ≡ passing defs 0 (take (i + 1) gs)
passing-next defs gs i g now before new below is had summed made =
    let f = global_bytes defs in
    let grown : take (i + 1) gs ≡ take i gs ++ g ∷ [] = take_more gs i g below ∙ ap (λ z. take i gs ++ z ∷ []) (sym is) in
    let counted : now ≡ 0 + sum_by f (take i gs) + f g = summed ∙ sum-next f gs i g below is ∙ ap (λ n. n + f g) (sum-map f (take i gs)) ∙ none_before (sum_by f (take i gs)) (f g) in
    made ∙ ap (λ b. option_or b (at_sum now g.at)) had ∙ ap (λ k. option_or (passing defs 0 (take i gs)) (at_sum k g.at)) counted
    ∙ sym (passing_end defs 0 (take i gs) g) ∙ ap (passing defs 0) (sym grown)
