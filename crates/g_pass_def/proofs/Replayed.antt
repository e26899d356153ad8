-- A complete list is kept by what steps make of it: the lambdas that they make come in the place of its own one after the
-- other, by rank and then by number.
use Rattle.std.specs.Prelude.{slice_set, unwrap_or}
use Rattle.std.proofs.Common.{◌≡◌, ◌≢◌, ◌<◌, ◌≤◌, ◌⊎◌, ◌+◌, ℕ, zero, suc, List, [], ◌∷◌, length}
use Rattle.std.proofs.Common.{Some, slice_get, slice_index, slice_index_or, get_or, Contains, refl, sym, ap, subst, ◌∙◌, inl, inr, arith}
use Rattle.std.specs.List.{AllByRecursion}
use Rattle.std.proofs.lemmas.Bool.{cases_eq}
use Rattle.std.proofs.lemmas.List.{ext_get_or}
use Rattle.std.proofs.lemmas.Option.{slice_get-get_or, unwrap_or-slice_get}
use Rattle.r_rule.specs.declared.steps.Step.{Step}
use Rattle.g_graph.specs.Plain.{PlainLambda}
use Rattle.g_graph.specs.Lists.{IsComplete}
use Rattle.g_graph.specs.WellFormed.{IsWellFormed}
use Rattle.r_edit.specs.Steps.{HasEach, IsApartFrom}
use Rattle.g_pass_order.specs.Calls.{no_lambda}
use Rattle.g_pass_order.specs.Laws.{OrdersAreRanked}
use Rattle.r_edit.proofs.lemmas.Steps.{set-there, set-elsewhere}
use Rattle.g_pass_def.specs.Sweep.{RuleTable, replayed}
use Rattle.g_pass_def.specs.Answers.{lambda_of}
use Rattle.g_pass_def.specs.Kept.{IsKeptBy}
use Rattle.g_pass_def.specs.Replayed.{lambdas_at, AreReplayed}
use Rattle.g_pass_def.specs.Laws.{AreSteps, ReplayedKeepLists}
use Rattle.g_pass_def.proofs.Recipes.{replays_are_steps}
use Rattle.g_pass_def.proofs.Kept.{lists_keep_themselves, keeping_composes, steps_keep_lists}

-- ---- what a function is given

-- a callee that stands at its number, well formed, and is not the function itself
record IsGiven (js : List PlainLambda) (number : ℕ) (c : PlainLambda) : Type 0 where
  at : slice_get js c.number ≡ Some c
  well_formed : IsWellFormed c
  apart : c.number ≢ number

record AreGiven (js : List PlainLambda) (number : ℕ) (held : List PlainLambda) : Type 0 where
  each : HasEach held js
  well_formed : AllByRecursion IsWellFormed held
  apart : IsApartFrom number held

given-all : (ks js : List PlainLambda) (number : ℕ) (ds : List ℕ) → ((d : ℕ) → Contains ds d → IsGiven js number (lambda_of ks d)) → AreGiven js number (lambdas_at ks ds)
given-all ks js number [] each = record { each = tt; well_formed = tt; apart = tt }
given-all ks js number (d ∷ ds) each =
    let here = each d (0, omega arith, refl) in
    let rest = given-all ks js number ds (λ e h. each e (suc h.0, omega (arith, h.1), h.2)) in
    record {
      each = (here.at, rest.each);
      well_formed = (here.well_formed, rest.well_formed);
      apart = (here.apart, rest.apart);
    }

-- a number that no rank exceeds
greatest : (ranks : List ℕ) → (m : ℕ) × ((j : ℕ) → slice_index ranks j ≤ m)
greatest [] = (0, λ j. omega arith)
greatest (r ∷ ranks) = let rest = greatest ranks in (r + rest.0, λ j. at j rest)
  where
    at : (j : ℕ) (rest : (m : ℕ) × ((i : ℕ) → slice_index ranks i ≤ m)) → slice_index (r ∷ ranks) j ≤ r + rest.0
    at zero rest = omega arith
    at (suc j) rest = omega (arith, rest.1 j)

module _ (is_ranked : OrdersAreRanked) (t : RuleTable) (rows : AreSteps t) (ls : List PlainLambda) (steps : List (List Step)) (ks : List PlainLambda) (complete : IsComplete ls)
    (all : AreReplayed t ls steps ks) where
  abbrev rank : ℕ → ℕ
  rank f = slice_index all.ranks f

  -- a function before others of rank r, of which it is one of the first i
  abbrev IsBefore : (r i f : ℕ) → Type 0
  IsBefore r i f = (rank f < r) ⊎ ((rank f ≡ r) × (f < i))

  -- what `ks` has at a function of the list
  made-at : (f : ℕ) → f < length ls → slice_get ks f ≡ Some (lambda_of ks f)
  made-at f inside =
      slice_get-get_or ks f no_lambda (omega (arith, inside, all.count)) ∙ ap (λ k. Some k) (sym (unwrap_or-slice_get ks f no_lambda))

  -- the list where the lambdas of functions before others have come
  record IsAt (r i : ℕ) (js : List PlainLambda) : Type 0 where
    kept : IsKeptBy ls js
    own : (f : ℕ) → r ≤ rank f → (rank f ≡ r → i ≤ f) → slice_get js f ≡ slice_get ls f
    made : (f : ℕ) → f < length ls → IsBefore r i f → slice_get js f ≡ slice_get ks f

  begins : IsAt 0 0 ls
  begins =
      record {
        kept = lists_keep_themselves ls;
        own = λ f h k. refl;
        made = λ f inside b. elim b [ inl low ↦ absurd (omega (arith, low)) | inr low ↦ absurd (omega (arith, low.1)) ];
      }

  -- what the deps of a function have for it
  module _ (r i : ℕ) (js : List PlainLambda) (now : IsAt r i js) (inside : i < length ls) (l : PlainLambda) (at : slice_get ls i ≡ Some l) (is_rank : rank i ≡ r) where
    there-complete : IsComplete js
    there-complete = now.kept.stands.complete complete

    number-is : l.number ≡ i
    number-is = complete.numbered i l at

    given-one : (d : ℕ) → Contains (slice_index_or all.deps i []) d → IsGiven js l.number (lambda_of ks d)
    given-one d h =
        let dep = (is_ranked ls all.ranks all.deps all.order).dep i d h in
        let c = lambda_of ks d in
        let stands : slice_get js d ≡ Some c = now.made d dep.known (inl (omega (arith, dep.smaller, is_rank))) ∙ made-at d dep.known in
        let number : c.number ≡ d = there-complete.numbered d c stands in
        record {
          at = subst (λ n. slice_get js n ≡ Some c) (sym number) stands;
          well_formed = there-complete.well_formed d c stands;
          apart = λ same.
              let equal : d ≡ i = sym number ∙ (same ∙ number-is) in
              let ranks : rank d ≡ rank i = ap rank equal in
              omega (arith, dep.smaller, ranks);
        }

    next-by : IsAt r (suc i) (slice_set js i (lambda_of ks i))
    next-by =
        let ds = slice_index_or all.deps i [] in
        let held = lambdas_at ks ds in
        let k = lambda_of ks i in
        let given = given-all ks js l.number ds given-one in
        let here : slice_get js i ≡ Some l = now.own i (omega (arith, is_rank)) (λ e. omega arith) ∙ at in
        let own : lambda_of ls i ≡ l = ap (λ o. unwrap_or o no_lambda) at in
        let step =
        replays_are_steps t rows held (slice_index_or steps i []) l k (complete.well_formed i l at) given.well_formed given.apart
        (subst (λ x. replayed t held (slice_index_or steps i []) x ≡ Some k) own (all.each i inside ∙ made-at i inside)) in
        let set = steps_keep_lists held l k step js (subst (λ n. slice_get js n ≡ Some l) (sym number-is) here) given.each in
        record {
          kept = keeping_composes ls js (slice_set js i k) now.kept (subst (λ n. IsKeptBy js (slice_set js n k)) number-is set);
          own = λ f h g.
              let other : f ≢ i = λ e. let ranks : rank f ≡ rank i = ap rank e in let low = g (ranks ∙ is_rank) in omega (arith, low, e) in
              set-elsewhere js i f k other ∙ now.own f h (λ e. omega (arith, g e));
          made = λ f within b.
              elim (cases_eq f i) [
                | inl q ↦
                    ap (slice_get (slice_set js i k)) q ∙ (set-there js i l k here ∙ (sym (made-at i inside) ∙ ap (slice_get ks) (sym q)))
                | inr q ↦
                    let before : IsBefore r i f = elim b [ inl low ↦ inl low | inr low ↦ inr (low.0, omega (arith, low.1, q)) ] in
                    set-elsewhere js i f k q ∙ now.made f within before
              ];
        }

  -- the next function changes nothing, where it is not of this rank
  passes : (r i : ℕ) (js : List PlainLambda) → IsAt r i js → rank i ≢ r → IsAt r (suc i) js
  passes r i js now apart =
      record {
        kept = now.kept;
        own = λ f h g. now.own f h (λ e. omega (arith, g e));
        made = λ f within b.
            elim b [
              | inl low ↦ now.made f within (inl low)
              | inr low ↦
                  elim (cases_eq f i) [
                    | inl q ↦ absurd (apart (subst (λ n. rank n ≡ r) q low.0))
                    | inr q ↦ now.made f within (inr (low.0, omega (arith, low.1, q)))
                  ]
            ];
      }

  next : (r i : ℕ) (js : List PlainLambda) → IsAt r i js → i < length ls → (is : List PlainLambda) × IsAt r (suc i) is
  next r i js now inside =
      elim (cases_eq (rank i) r) [
        | inl q ↦ (slice_set js i (lambda_of ks i), next-by r i js now inside (get_or ls i no_lambda) (slice_get-get_or ls i no_lambda inside) q)
        | inr q ↦ (js, passes r i js now q)
      ]

  -- all functions of a rank
  rank-done : (r i : ℕ) (js : List PlainLambda) → IsAt r 0 js → i ≤ length ls → (is : List PlainLambda) × IsAt r i is
  rank-done r zero js now inside = (js, now)
  rank-done r (suc i) js now inside = let before = rank-done r i js now (omega arith) in next r i before.0 before.1 (omega arith)

  rank-up : (r : ℕ) (js : List PlainLambda) → IsAt r (length ls) js → IsAt (suc r) 0 js
  rank-up r js now =
      record {
        kept = now.kept;
        own = λ f h g. now.own f (omega (arith, h)) (λ e. absurd (omega (arith, h, e)));
        made = λ f within b.
            let low : rank f < suc r = elim b [ inl low ↦ low | inr none ↦ absurd (omega (arith, none.1)) ] in
            elim (cases_eq (rank f) r) [
              | inl q ↦ now.made f within (inr (q, within))
              | inr q ↦ now.made f within (inl (omega (arith, low, q)))
            ];
      }

  ranks-done : (r : ℕ) → (js : List PlainLambda) × IsAt r 0 js
  ranks-done zero = (ls, begins)
  ranks-done (suc r) =
      let before = ranks-done r in
      let these = rank-done r (length ls) before.0 before.1 (omega arith) in
      (these.0, rank-up r these.0 these.1)

  -- all ranks done, the list is the one that the steps make
  done-is : (r : ℕ) (js : List PlainLambda) → IsAt r 0 js → ((f : ℕ) → rank f < r) → js ≡ ks
  done-is r js now low =
      ext_get_or no_lambda js ks (now.kept.count ∙ sym all.count)
      (λ f h.
      sym (unwrap_or-slice_get js f no_lambda)
      ∙ (ap (λ o. unwrap_or o no_lambda) (now.made f (omega (arith, h, now.kept.count)) (inl (low f)))
      ∙ unwrap_or-slice_get ks f no_lambda))

  replayed-kept : IsKeptBy ls ks
  replayed-kept =
      let top = greatest all.ranks in
      let done = ranks-done (suc top.0) in
      subst (IsKeptBy ls) (done-is (suc top.0) done.0 done.1 (λ f. omega (arith, top.1 f))) done.1.kept

pub replayed_keep_lists : OrdersAreRanked → ReplayedKeepLists
replayed_keep_lists is_ranked t rows ls steps ks complete all = replayed-kept is_ranked t rows ls steps ks complete all
