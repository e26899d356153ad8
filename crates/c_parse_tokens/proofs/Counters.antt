-- The array of counters as a stack.
use Rattle.std.proofs.Common.{◌≡◌, ℕ, ◌+◌, ◌-◌, ◌≤◌, ◌<◌, ◌≢◌, zero, suc, List, [], ◌∷◌, length, get_or, set, refl, ap, sym, ◌∙◌, arith, add-one, get_or-set_other, get_or-set_same}
use Rattle.std.specs.List.{sum}
use Rattle.c_ast.specs.Nesting.{raised, popped, depth_of}
use Rattle.c_parse_tokens.specs.Counters.{below, stack, cleared}
use Rattle.c_parse_tokens.proofs.lemmas.FirstDeep.{sum-cons}

below_set : (xs : List ℕ) (i n v : ℕ) → n ≤ i → below (set xs i v) n ≡ below xs n
below_set xs i zero v h = refl
below_set xs i (suc n) v h =
    let ne : n ≢ i = omega arith in
    let again : below (set xs i v) n ≡ below xs n = below_set xs i n v (omega arith) in
    rw (get_or-set_other, again) refl

below_more : (xs : List ℕ) (n : ℕ) → below xs (n + 1) ≡ get_or xs n 0 ∷ below xs n
below_more xs n = rw add-one refl

length_below : (xs : List ℕ) (n : ℕ) → length (below xs n) ≡ n
length_below xs zero = refl
length_below xs (suc n) = ap suc (length_below xs n)

-- ---- the stack after a step

stack_set : (xs : List ℕ) (n v : ℕ) → n < length xs → stack (set xs n v) n ≡ v ∷ below xs n
stack_set xs n v h = let same = below_set xs n n v (omega arith) in rw (get_or-set_same, same) refl

stack_push : (xs : List ℕ) (n v : ℕ) → n + 1 < length xs → stack (set xs (n + 1) v) (n + 1) ≡ v ∷ stack xs n
stack_push xs n v h =
    let same = below_set xs (n + 1) (n + 1) v (omega arith) in rw (get_or-set_same, same, below_more xs n) refl

depth-cons : (x : ℕ) (xs : List ℕ) (n : ℕ) → depth_of (x ∷ below xs n) ≡ x + (sum (below xs n) + n)
depth-cons x xs n = omega (arith, sum-cons x (below xs n), length_below xs n)

-- numbers alone
one_more : (d x s : ℕ) → d ≡ x + s → d + 1 ≡ (x + 1) + s
one_more d x s e = omega arith

one_pushed : (d x s n : ℕ) → d ≡ x + (s + n) → d + 1 ≡ 0 + ((x + s) + (n + 1))
one_pushed d x s n e = omega arith

without_top : (d x s : ℕ) → d ≡ x + s → d - x ≡ 0 + s
without_top d x s e = omega arith

one_popped : (d x y s n : ℕ) → d ≡ x + ((y + s) + suc n) → d - (x + 1) ≡ y + (s + n)
one_popped d x y s n e = omega arith

pub raises : (xs : List ℕ) (n d : ℕ) → n < length xs → d ≡ depth_of (stack xs n) → d + 1 ≡ depth_of (stack (set xs n (get_or xs n 0 + 1)) n)
raises xs n d h e =
    one_more d (get_or xs n 0) (sum (below xs n) + n) (e ∙ depth-cons (get_or xs n 0) xs n)
    ∙ sym (depth-cons (get_or xs n 0 + 1) xs n) ∙ ap depth_of (sym (stack_set xs n (get_or xs n 0 + 1) h))

pub pushes : (xs : List ℕ) (n d : ℕ) → n + 1 < length xs → d ≡ depth_of (stack xs n) → d + 1 ≡ depth_of (stack (set xs (n + 1) 0) (n + 1))
pushes xs n d h e =
    one_pushed d (get_or xs n 0) (sum (below xs n)) n (e ∙ depth-cons (get_or xs n 0) xs n)
    ∙ ap (λ s. 0 + (s + (n + 1))) (sym (ap sum (below_more xs n) ∙ sum-cons (get_or xs n 0) (below xs n)))
    ∙ sym (depth-cons 0 xs (n + 1)) ∙ ap (λ b. depth_of (0 ∷ b)) (below_more xs n) ∙ ap depth_of (sym (stack_push xs n 0 h))

pub clears : (xs : List ℕ) (n d : ℕ) → n < length xs → d ≡ depth_of (stack xs n) → d - get_or xs n 0 ≡ depth_of (stack (set xs n 0) n)
clears xs n d h e =
    without_top d (get_or xs n 0) (sum (below xs n) + n) (e ∙ depth-cons (get_or xs n 0) xs n)
    ∙ sym (depth-cons 0 xs n) ∙ ap depth_of (sym (stack_set xs n 0 h))

pub top_within : (xs : List ℕ) (n d : ℕ) → d ≡ depth_of (stack xs n) → get_or xs n 0 + n ≤ d
top_within xs n d e = let f : d ≡ get_or xs n 0 + (sum (below xs n) + n) = e ∙ depth-cons (get_or xs n 0) xs n in omega (arith, f)

pub pops : (xs : List ℕ) (n d : ℕ) → 0 < n → d ≡ depth_of (stack xs n) → d - (get_or xs n 0 + 1) ≡ depth_of (stack xs (n - 1))
pops xs zero d h e = absurd (omega arith)
pops xs (suc n) d h e =
    let less : suc n - 1 ≡ n = omega arith in
    let f : d ≡ get_or xs (suc n) 0 + ((get_or xs n 0 + sum (below xs n)) + suc n) =
    e ∙ depth-cons (get_or xs (suc n) 0) xs (suc n) ∙ ap (λ s. get_or xs (suc n) 0 + (s + suc n)) (sum-cons (get_or xs n 0) (below xs n)) in
    one_popped d (get_or xs (suc n) 0) (get_or xs n 0) (sum (below xs n)) n f ∙ sym (depth-cons (get_or xs n 0) xs n) ∙ ap (λ m. depth_of (stack xs m)) (sym less)

pub raised_is : (xs : List ℕ) (n : ℕ) → n < length xs → stack (set xs n (get_or xs n 0 + 1)) n ≡ raised (stack xs n)
raised_is xs n h = stack_set xs n (get_or xs n 0 + 1) h

pub cleared_is : (xs : List ℕ) (n : ℕ) → n < length xs → stack (set xs n 0) n ≡ cleared (stack xs n)
cleared_is xs n h = stack_set xs n 0 h

pub popped_is : (xs : List ℕ) (n : ℕ) → 0 < n → stack xs (n - 1) ≡ popped (stack xs n)
popped_is xs zero h = absurd (omega arith)
popped_is xs (suc n) h = let e : suc n - 1 ≡ n = omega arith in rw e refl

pub popped_none : (xs : List ℕ) (n : ℕ) → n ≤ 0 → stack xs n ≡ popped (stack xs n)
popped_none xs zero h = refl
popped_none xs (suc n) h = absurd (omega arith)

pub pushed_is : (xs : List ℕ) (n : ℕ) → n + 1 < length xs → stack (set xs (n + 1) 0) (n + 1) ≡ 0 ∷ stack xs n
pushed_is xs n h = stack_push xs n 0 h

pub depth_raised : (c : List ℕ) → depth_of (raised c) ≤ depth_of c + 1
depth_raised [] = omega arith
depth_raised (top ∷ rest) = omega (arith, sum-cons top rest, sum-cons (top + 1) rest)

pub ruleset counters = (raises, pushes, clears, pops, top_within, raised_is, cleared_is, popped_is, popped_none, pushed_is, depth_raised)
