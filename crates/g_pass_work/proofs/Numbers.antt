-- Functions, jobs and deps, one more at a time.
use Rattle.std.proofs.Common.{◌≡◌, ◌<◌, ◌+◌, ◌++◌, ℕ, Bool, true, false, cond, List, [], ◌∷◌, Vec, Global, length, map, take, slice_index, slice_index_or, refl, sym, ap, ◌∙◌, arith, length-append}
use Rattle.std.specs.List.{filter, range_with_len}
use Rattle.std.proofs.lemmas.List.{take_more, map-append, get_or_default}
use Rattle.std.proofs.lemmas.List.FromFn.{get_or-map-range_with_len}
use Rattle.std.proofs.lemmas.List.Elements.{filter-append, filter_more}
use Rattle.call_order.specs.Units.{call_lists}
use Rattle.g_pass_work.specs.Renewal.{is_stale, stale_below, job_of, stale_jobs}
use Rattle.g_pass_work.proofs.lemmas.Functions.{range-split}

-- one more number
pub range-more : (n : ℕ) → range_with_len 0 (n + 1) ≡ range_with_len 0 n ++ n ∷ []
range-more n = let from : 0 + n ≡ n = omega arith in range-split 0 n 1 n from

below-more : (stale : List Bool) (n : ℕ) → stale_below stale (n + 1) ≡ stale_below stale n ++ cond (is_stale stale n) (n ∷ []) []
below-more stale n = ap (filter (is_stale stale)) (range-more n) ∙ filter-append (is_stale stale) (range_with_len 0 n) (n ∷ [])

pub functions-more : (stale : List Bool) (n : ℕ) (b : Bool) (before after : List ℕ) → before ≡ stale_below stale n → b ≡ is_stale stale n → after ≡ before ++ cond b (n ∷ []) [] →
    after ≡ stale_below stale (n + 1)
functions-more stale n b before after was test is =
    is
    ∙ (ap (λ xs. xs ++ cond b (n ∷ []) []) was
    ∙ (ap (λ v. stale_below stale n ++ cond v (n ∷ []) []) test ∙ sym (below-more stale n)))

pub jobs-more : (stale : List Bool) (n : ℕ) (before after : List ℕ) (count : ℕ) → before ≡ map (job_of stale) (range_with_len 0 n) → count ≡ job_of stale n → after ≡ before ++ count ∷ [] →
    after ≡ map (job_of stale) (range_with_len 0 (n + 1))
jobs-more stale n before after count was counted is =
    is
    ∙ (ap (λ xs. xs ++ count ∷ []) was
    ∙ (ap (λ k. map (job_of stale) (range_with_len 0 n) ++ k ∷ []) counted
    ∙ (sym (map-append (job_of stale) (range_with_len 0 n) (n ∷ [])) ∙ ap (map (job_of stale)) (sym (range-more n)))))

one-or-none : (b : Bool) (n : ℕ) → length (cond b (n ∷ []) []) ≡ cond b 1 0
one-or-none true n = refl
one-or-none false n = refl

pub count-more : (stale : List Bool) (n : ℕ) (b : Bool) (count next : ℕ) → count ≡ job_of stale n → b ≡ is_stale stale n → next ≡ count + cond b 1 0 → next ≡ job_of stale (n + 1)
count-more stale n b count next was test is =
    is
    ∙ (ap (λ k. k + cond b 1 0) was
    ∙ (ap (λ v. job_of stale n + cond v 1 0) test
    ∙ (ap (λ k. job_of stale n + k) (sym (one-or-none (is_stale stale n) n))
    ∙ (sym (length-append (stale_below stale n) (cond (is_stale stale n) (n ∷ []) [])) ∙ ap (λ (xs : List ℕ). length xs) (sym (below-more stale n))))))

pub at-most-one : (b : Bool) → cond b 1 0 < 2
at-most-one true = omega arith
at-most-one false = omega arith

pub mapped-more : (f : ℕ → ℕ) (xs : List ℕ) (i : ℕ) (before after : List ℕ) → i < length xs → before ≡ map f (take i xs) → after ≡ before ++ f (slice_index xs i) ∷ [] → after ≡ map f (take (i + 1) xs)
mapped-more f xs i before after inside was is =
    is
    ∙ (ap (λ ys. ys ++ f (slice_index xs i) ∷ []) was
    ∙ (sym (map-append f (take i xs) (slice_index xs i ∷ [])) ∙ ap (map f) (sym (take_more xs i 0 inside))))

map-one : (f : ℕ → ℕ) (b : Bool) (n : ℕ) → map f (cond b (n ∷ []) []) ≡ cond b (f n ∷ []) []
map-one f true n = refl
map-one f false n = refl

pub stale-more : (stale : List Bool) (xs : List ℕ) (i : ℕ) (b : Bool) (job : ℕ) (before after : List ℕ) → i < length xs → before ≡ stale_jobs stale (take i xs) →
    b ≡ is_stale stale (slice_index xs i) → job ≡ job_of stale (slice_index xs i) → after ≡ before ++ cond b (job ∷ []) [] → after ≡ stale_jobs stale (take (i + 1) xs)
stale-more stale xs i b job before after inside was test number is =
    let x = slice_index xs i in
    let test' = is_stale stale in
    is
    ∙ (ap (λ ys. ys ++ cond b (job ∷ []) []) was
    ∙ (ap (λ v. stale_jobs stale (take i xs) ++ cond v (job ∷ []) []) test
    ∙ (ap (λ k. stale_jobs stale (take i xs) ++ cond (test' x) (k ∷ []) []) number
    ∙ (ap (λ ys. stale_jobs stale (take i xs) ++ ys) (sym (map-one (job_of stale) (test' x) x))
    ∙ (sym (map-append (job_of stale) (filter test' (take i xs)) (cond (test' x) (x ∷ []) []))
    ∙ ap (map (job_of stale)) (sym (filter_more test' xs i 0 inside)))))))

-- the job that is read for a function
pub job-read : (stale : List Bool) (jobs : List ℕ) (j : ℕ) → jobs ≡ map (job_of stale) (range_with_len 0 (length stale)) → j < length stale → slice_index jobs j ≡ job_of stale j
job-read stale jobs j are inside =
    let at : 0 + j ≡ j = omega arith in
    ap (λ ks. slice_index ks j) are ∙ get_or-map-range_with_len (job_of stale) 0 (length stale) j j 0 inside at

pub lists-more : (f : ℕ → List ℕ) (xs : List ℕ) (i : ℕ) (before after : List (Vec ℕ Global)) (v : Vec ℕ Global) → i < length xs → call_lists before ≡ map f (take i xs) →
    v.items ≡ f (slice_index xs i) → after ≡ before ++ v ∷ [] → call_lists after ≡ map f (take (i + 1) xs)
lists-more f xs i before after v inside was here is =
    let items : Vec ℕ Global → List ℕ = λ x. x.items in
    ap call_lists is
    ∙ (map-append items before (v ∷ [])
    ∙ (ap (λ ys. ys ++ v.items ∷ []) was
    ∙ (ap (λ y. map f (take i xs) ++ y ∷ []) here
    ∙ (sym (map-append f (take i xs) (slice_index xs i ∷ [])) ∙ ap (map f) (sym (take_more xs i 0 inside))))))

-- what is read where something is
pub stale-read : (stale : List Bool) (j : ℕ) → j < length stale → slice_index_or stale j false ≡ is_stale stale j
stale-read stale j inside = get_or_default stale j false true inside
