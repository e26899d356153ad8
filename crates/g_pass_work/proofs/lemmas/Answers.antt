-- The answers of the small program, put beside the kept ones, are those of the large one.
use Rattle.std.proofs.Common.{◌≡◌, ◌<◌, ◌+◌, ℕ, zero, suc, Bool, true, false, cond, List, [], ◌∷◌, length, map, drop, Option, None, Some, slice_get, slice_index, Contains, refl, sym, ap, subst, ◌∙◌, arith, inl, inr}
use Rattle.std.specs.Prelude.{option_map}
use Rattle.std.specs.List.{cons_option, filter, range_with_len}
use Rattle.std.proofs.lemmas.Bool.{cases_lt}
use Rattle.std.proofs.lemmas.List.{length-map, get_or_past, get_or-map}
use Rattle.std.proofs.lemmas.List.FromFn.{length-range_with_len, get_or-range_with_len}
use Rattle.std.proofs.lemmas.Simd.{map-map}
use Rattle.board_core.specs.Board.{Program, deps_of}
use Rattle.board_core.specs.Answers.{IsRanked, all_some, answer}
use Rattle.board_core.proofs.lemmas.Answers.{some-of, same-results, answers-come-of-deps, jobs-have-answers, all_some-cons}
use Rattle.g_pass_work.specs.Renewal.{is_stale, functions_of, job_of, stale_jobs, merged, renewal}
use Rattle.g_pass_work.proofs.lemmas.Functions.{contains-here, contains-later, contains-none, contains-filter, contains-range, job-inside, job-is, job-from}

module _ {M : Type 0} where
  -- results read one by one
  all_some-read : (g : ℕ → Option M) (is : List ℕ) (xs : List M) → length xs ≡ length is → ((k : ℕ) → k < length is → slice_get xs k ≡ g (slice_index is k)) → all_some (map g is) ≡ Some xs
  all_some-read g [] [] long each = refl
  all_some-read g [] (x ∷ xs) long each = absurd (omega (arith, long))
  all_some-read g (i ∷ is) [] long each = absurd (omega (arith, long))
  all_some-read g (i ∷ is) (x ∷ xs) long each =
      let here : Some x ≡ g i = each 0 (omega arith) in
      let rest = all_some-read g is xs (omega (arith, long)) (λ k low. each (suc k) (omega (arith, low))) in
      ap (λ o. all_some (o ∷ map g is)) (sym here) ∙ ap (option_map (λ others. x ∷ others)) rest

  all_some-out : (g : ℕ → Option M) (is : List ℕ) (xs : List M) → all_some (map g is) ≡ Some xs → (length xs ≡ length is) × ((k : ℕ) → k < length is → slice_get xs k ≡ g (slice_index is k))
  all_some-out g [] xs e = let none : xs ≡ [] = cc in (ap (λ (ys : List M). length ys) none, λ k low. absurd (omega (arith, low)))
  all_some-out g (i ∷ is) xs e =
      let parts = all_some-cons (g i) (map g is) xs e in
      let rest = all_some-out g is parts.1 parts.3 in
      let long = ap (λ (ys : List M). length ys) parts.4 in
      (omega (arith, long, rest.0), at parts.0 parts.1 parts.2 parts.4 rest.1) where
        at : (first : M) (others : List M) → g i ≡ Some first → xs ≡ first ∷ others → ((k : ℕ) → k < length is → slice_get others k ≡ g (slice_index is k)) →
            (k : ℕ) → k < length (i ∷ is) → slice_get xs k ≡ g (slice_index (i ∷ is) k)
        at first others here is' each zero low = ap (λ (ys : List M). slice_get ys 0) is' ∙ sym here
        at first others here is' each (suc k) low = ap (λ (ys : List M). slice_get ys (suc k)) is' ∙ each k (omega (arith, low))

  map-twice : (f : List M → M) (g : List M → List M) (o : Option (List M)) → option_map (λ x. f (g x)) o ≡ option_map f (option_map g o)
  map-twice f g None = refl
  map-twice f g (Some x) = refl

  module _ (stale : List Bool) (kept : List M) (f : ℕ → Option M) where
    -- the answer of a function that is not stale is there, and it is the kept one
    abbrev IsKept : ℕ → Type 0
    IsKept j = is_stale stale j ≡ false → (x : M) × (f j ≡ Some x) × (slice_get kept j ≡ Some x)

    -- what is made of the answers of stale functions is what is made of all
    pub merged-all : (js : List ℕ) → ((j : ℕ) → Contains js j → IsKept j) → all_some (map f js) ≡ option_map (merged stale kept js) (all_some (map f (filter (is_stale stale) js)))
    merged-all [] each = refl
    merged-all (j ∷ js) each =
        by (is_stale stale j) (each j (contains-here j js)) (merged-all js (λ k h. each k (contains-later j k js h))) where
          taken : (o : Option M) (given : Option (List M)) → all_some (map f js) ≡ option_map (merged stale kept js) given → all_some (map f (filter (is_stale stale) js)) ≡ given →
              all_some (o ∷ map f js) ≡ option_map (λ xs. cons_option (slice_get xs 0) (merged stale kept js (drop 1 xs))) (all_some (o ∷ map f (filter (is_stale stale) js)))
          taken None given e is = refl
          taken (Some x) None e is =
              ap (option_map (λ xs. x ∷ xs)) e ∙ ap (λ o. option_map (λ xs. cons_option (slice_get xs 0) (merged stale kept js (drop 1 xs))) (option_map (λ xs. x ∷ xs) o)) (sym is)
          taken (Some x) (Some ys) e is =
              ap (option_map (λ xs. x ∷ xs)) e ∙ ap (λ o. option_map (λ xs. cons_option (slice_get xs 0) (merged stale kept js (drop 1 xs))) (option_map (λ xs. x ∷ xs) o)) (sym is)

          kept_one : (x : M) (given : Option (List M)) → all_some (map f js) ≡ option_map (merged stale kept js) given →
              option_map (λ xs. x ∷ xs) (all_some (map f js)) ≡ option_map (λ xs. x ∷ merged stale kept js xs) given
          kept_one x None e = ap (option_map (λ xs. x ∷ xs)) e
          kept_one x (Some ys) e = ap (option_map (λ xs. x ∷ xs)) e

          by : (b : Bool) → (b ≡ false → (x : M) × (f j ≡ Some x) × (slice_get kept j ≡ Some x)) →
              all_some (map f js) ≡ option_map (merged stale kept js) (all_some (map f (filter (is_stale stale) js))) →
              all_some (f j ∷ map f js)
              ≡ option_map (λ given. cond b (cons_option (slice_get given 0) (merged stale kept js (drop 1 given))) (cons_option (slice_get kept j) (merged stale kept js given)))
              (all_some (map f (cond b (j ∷ (filter (is_stale stale) js)) (filter (is_stale stale) js))))
          by true own rest = taken (f j) (all_some (map f (filter (is_stale stale) js))) rest refl
          by false own rest =
              let it = own refl in
              ap (λ o. all_some (o ∷ map f js)) it.1
              ∙ (kept_one it.0 (all_some (map f (filter (is_stale stale) js))) rest
              ∙ ap (λ o. option_map (λ given. cons_option o (merged stale kept js given)) (all_some (map f (filter (is_stale stale) js)))) (sym it.2))

  -- ---- the small program

  module _ (p : Program M) (ranked : IsRanked p) (stale : List Bool) (kept : List M) (long : length stale ≡ length p.deps) where
    abbrev small : Program M
    small = renewal p stale kept

    abbrev fs : List ℕ
    fs = functions_of stale

    deps-at : (i : ℕ) → i < length fs → deps_of small i ≡ stale_jobs stale (deps_of p (slice_index fs i))
    deps-at i inside = get_or-map (λ j. stale_jobs stale (deps_of p j)) fs i 0 [] inside

    rank-at : (i : ℕ) → i < length fs → slice_index small.ranks i ≡ slice_index p.ranks (slice_index fs i)
    rank-at i inside = get_or-map (slice_index p.ranks) fs i 0 0 inside

    deps-long : length small.deps ≡ length fs
    deps-long = length-map fs (λ j. stale_jobs stale (deps_of p j))

    -- a dep of a job is the job of a dep
    pub record IsJobOfDep (i k : ℕ) : Type 0 where
      pub inside : i < length fs
      pub dep : ℕ
      pub is_dep : Contains (deps_of p (slice_index fs i)) dep
      pub below : dep < length stale
      pub is_stale_one : is_stale stale dep ≡ true
      pub is : job_of stale dep ≡ k

    job-of-dep : (i k : ℕ) → Contains (deps_of small i) k → IsJobOfDep i k
    job-of-dep i k h =
        elim (cases_lt i (length fs)) [
          | inl inside ↦
              let it = job-from stale (deps_of p (slice_index fs i)) k (subst (λ ds. Contains ds k) (deps-at i inside) h) in
              record {
                inside = inside;
                dep = it.0;
                is_dep = it.1;
                below = omega (arith, ranked.known (slice_index fs i) it.0 it.1, long);
                is_stale_one = it.2;
                is = it.3;
              }
          | inr past ↦
              let none = get_or_past small.deps i [] (omega (arith, past, deps-long)) in
              absurd (contains-none k (subst (λ ds. Contains ds k) none h))
        ]

    pub small-ranked : IsRanked small
    small-ranked =
        record {
          counted = length-map fs (slice_index p.ranks) ∙ sym deps-long;
          known = λ i k h.
              let it = job-of-dep i k h in
              omega (arith, job-inside stale it.dep (length stale) it.below it.is_stale_one, it.is, deps-long);
          smaller = λ i k h.
              let it = job-of-dep i k h in
              let inside : k < length fs = omega (arith, job-inside stale it.dep (length stale) it.below it.is_stale_one, it.is) in
              let at : slice_index fs k ≡ it.dep = ap (slice_index fs) (sym it.is) ∙ job-is stale it.dep (length stale) it.below it.is_stale_one in
              let dep = rank-at k inside ∙ ap (slice_index p.ranks) at in
              omega (arith, dep, rank-at i it.inside, ranked.smaller (slice_index fs i) it.dep it.is_dep);
        }

    module _ (are_kept : (j : ℕ) → is_stale stale j ≡ false → slice_get kept j ≡ answer p j) where
      one-kept : (j : ℕ) → j < length stale → IsKept stale kept (answer p) j
      one-kept j inside is =
          let some = some-of (answer p j) (jobs-have-answers p ranked j (omega (arith, inside, long))) in
          (some.0, some.1, are_kept j is ∙ some.1)

      -- the answer of a job is that of its function
      same-below : (bound i : ℕ) → i < length fs → slice_index p.ranks (slice_index fs i) < bound → answer small i ≡ answer p (slice_index fs i)
      same-below zero i inside below = absurd (omega (arith, below))
      same-below (suc bound) i inside below =
          let j = slice_index fs i in
          let js = deps_of p j in
          let test = is_stale stale in
          answers-come-of-deps small small-ranked i
          ∙ (ap (λ ks. option_map (small.made i) (all_some (map (answer small) ks))) (deps-at i inside)
          ∙ (ap (λ os. option_map (small.made i) (all_some os))
          (map-map (answer small) (job_of stale) (filter test js)
          ∙ same-results (λ d. answer small (job_of stale d)) (answer p) (filter test js)
          (λ d h.
          let from = contains-filter test js d h in
          let low : d < length stale = omega (arith, ranked.known j d from.0, long) in
          let at = job-is stale d (length stale) low from.1 in
          let smaller : slice_index p.ranks (slice_index fs (job_of stale d)) < bound = omega (arith, ap (slice_index p.ranks) at, ranked.smaller j d from.0, below) in
          same-below bound (job_of stale d) (job-inside stale d (length stale) low from.1) smaller ∙ ap (answer p) at))
          ∙ (map-twice (p.made j) (merged stale kept js) (all_some (map (answer p) (filter test js)))
          ∙ (ap (option_map (p.made j)) (sym (merged-all stale kept (answer p) js (λ d h. one-kept d (omega (arith, ranked.known j d h, long)))))
          ∙ sym (answers-come-of-deps p ranked j)))))

      pub job-answer : (i : ℕ) → i < length fs → answer small i ≡ answer p (slice_index fs i)
      job-answer i inside = same-below (suc (slice_index p.ranks (slice_index fs i))) i inside (omega arith)

      -- the results of the jobs and the kept answers are the answers of all
      pub all-answers : (results : List M) → length results ≡ length fs → ((i : ℕ) → i < length fs → slice_get results i ≡ answer small i) →
          let whole = merged stale kept (range_with_len 0 (length stale)) results in (length whole ≡ length p.deps) × ((j : ℕ) → j < length p.deps → slice_get whole j ≡ answer p j)
      all-answers results many each =
          let all = range_with_len 0 (length stale) in
          let made = all_some-read (answer p) fs results many (λ i inside. each i inside ∙ job-answer i inside) in
          let whole =
          merged-all stale kept (answer p) all (λ j h. one-kept j (omega (arith, contains-range 0 (length stale) j h)))
          ∙ ap (option_map (merged stale kept all)) made in
          let out = all_some-out (answer p) all (merged stale kept all results) whole in
          let count = length-range_with_len 0 (length stale) in (
            omega (arith, out.0, count, long),
            λ j inside.
                let low : j < length stale = omega (arith, inside, long) in
                out.1 j (omega (arith, low, count)) ∙ ap (answer p) (get_or-range_with_len 0 (length stale) j 0 low ∙ (let e : 0 + j ≡ j = omega arith in e)),
          )
