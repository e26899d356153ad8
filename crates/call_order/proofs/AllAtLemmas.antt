-- One stage for the functions of a list, and how many functions have a stage of a kind.
use Rattle.std.proofs.Common.{◌≡◌, ◌≢◌, ℕ, zero, suc, ◌+◌, ◌<◌, ◌≤◌, Bool, true, false, inl, inr, List, [], ◌∷◌, length, count_by, slice_index, slice_set, refl, sym, ap, ◌∙◌, arith}
use Rattle.std.specs.Prelude.{if◌then◌else◌}
use Rattle.std.proofs.lemmas.List.{length-set, get_or-set_same, get_or-set_other, set_past}
use Rattle.std.proofs.lemmas.List.Sums.{sum_by-set}
use Rattle.std.proofs.lemmas.Bool.{cases_lt, cases_eq}
use Rattle.call_order.specs.declared.stages.Stage.{Stage}
use Rattle.call_order.specs.declared.stages.Stage.TheVariants.{New}
use Rattle.call_order.specs.Search.{stage_of, all_at}

pub length-all_at : (stages : List Stage) (js : List ℕ) (stage : Stage) → length (all_at stages js stage) ≡ length stages
length-all_at stages [] stage = refl
length-all_at stages (j ∷ js) stage = length-all_at (slice_set stages j stage) js stage ∙ length-set stages j stage

pub all_at-other : (stages : List Stage) (js : List ℕ) (stage : Stage) (k : ℕ) → ((e : ℕ) → e < length js → slice_index js e ≢ k) → stage_of (all_at stages js stage) k ≡ stage_of stages k
all_at-other stages [] stage k apart = refl
all_at-other stages (j ∷ js) stage k apart =
    all_at-other (slice_set stages j stage) js stage k (λ e h. apart (suc e) (omega arith))
    ∙ get_or-set_other stages j k stage New (λ same. apart 0 (omega arith) (sym same))

pub all_at-stays : (stages : List Stage) (js : List ℕ) (stage : Stage) (k : ℕ) → k < length stages → stage_of stages k ≡ stage → stage_of (all_at stages js stage) k ≡ stage
all_at-stays stages [] stage k inside is = is
all_at-stays stages (j ∷ js) stage k inside is =
    all_at-stays (slice_set stages j stage) js stage k (omega (arith, length-set stages j stage))
    (elim (cases_eq k j) [
      | inl same ↦ ap (stage_of (slice_set stages j stage)) same ∙ get_or-set_same stages j stage New (omega arith)
      | inr apart ↦ get_or-set_other stages j k stage New apart ∙ is
    ])

pub all_at-here : (stages : List Stage) (js : List ℕ) (stage : Stage) (e : ℕ) → e < length js → slice_index js e < length stages → stage_of (all_at stages js stage) (slice_index js e) ≡ stage
all_at-here stages [] stage e h inside = absurd (omega arith)
all_at-here stages (j ∷ js) stage zero h inside =
    all_at-stays (slice_set stages j stage) js stage j (omega (arith, length-set stages j stage)) (get_or-set_same stages j stage New inside)
all_at-here stages (j ∷ js) stage (suc e) h inside =
    all_at-here (slice_set stages j stage) js stage e (omega arith) (omega (arith, length-set stages j stage))

-- a count of the stages that pass a test, where the new stage passes it
pub count-set_up : (p : Stage → Bool) (stages : List Stage) (j : ℕ) (stage : Stage) → p stage ≡ true → count_by p stages ≤ count_by p (slice_set stages j stage)
count-set_up p stages j stage passes =
    let one : Bool → ℕ = λ b. if b then 1 else 0 in
    let most : (b : Bool) → one b ≤ 1 = elim [ true ↦ omega arith | false ↦ omega arith ] in
    elim (cases_lt j (length stages)) [
      | inl inside ↦ omega (arith, sum_by-set (λ x. one (p x)) stages j stage New inside, ap one passes, most (p (stage_of stages j)))
      | inr past ↦ let same = ap (count_by p) (set_past stages j stage past) in omega (arith, same)
    ]

pub count-set_more : (p : Stage → Bool) (stages : List Stage) (j : ℕ) (stage : Stage) → j < length stages → p stage ≡ true → p (stage_of stages j) ≡ false
    → count_by p stages + 1 ≡ count_by p (slice_set stages j stage)
count-set_more p stages j stage inside passes fails =
    let one : Bool → ℕ = λ b. if b then 1 else 0 in
    omega (arith, sum_by-set (λ x. one (p x)) stages j stage New inside, ap one passes, ap one fails)

pub count-all_at_up : (p : Stage → Bool) (stages : List Stage) (js : List ℕ) (stage : Stage) → p stage ≡ true → count_by p stages ≤ count_by p (all_at stages js stage)
count-all_at_up p stages [] stage passes = omega arith
count-all_at_up p stages (j ∷ js) stage passes =
    omega (arith, count-set_up p stages j stage passes, count-all_at_up p (slice_set stages j stage) js stage passes)

pub count-all_at_more : (p : Stage → Bool) (stages : List Stage) (js : List ℕ) (stage : Stage) → 0 < length js → slice_index js 0 < length stages → p stage ≡ true
    → p (stage_of stages (slice_index js 0)) ≡ false → count_by p stages + 1 ≤ count_by p (all_at stages js stage)
count-all_at_more p stages [] stage some inside passes fails = absurd (omega arith)
count-all_at_more p stages (j ∷ js) stage some inside passes fails =
    omega (arith, count-set_more p stages j stage inside passes fails, count-all_at_up p (slice_set stages j stage) js stage passes)

pub count-set_same : (p : Stage → Bool) (stages : List Stage) (j : ℕ) (stage : Stage) → p stage ≡ false → p (stage_of stages j) ≡ false → count_by p (slice_set stages j stage) ≡ count_by p stages
count-set_same p stages j stage fails was =
    let one : Bool → ℕ = λ b. if b then 1 else 0 in
    elim (cases_lt j (length stages)) [
      | inl inside ↦ omega (arith, sum_by-set (λ x. one (p x)) stages j stage New inside, ap one fails, ap one was)
      | inr past ↦ ap (count_by p) (set_past stages j stage past)
    ]

-- no function is new that was not, and none enters
pub count-all_at_same : (p : Stage → Bool) (stages : List Stage) (js : List ℕ) (stage : Stage) → p stage ≡ false → ((e : ℕ) → e < length js → p (stage_of stages (slice_index js e)) ≡ false)
    → count_by p (all_at stages js stage) ≡ count_by p stages
count-all_at_same p stages [] stage fails was = refl
count-all_at_same p stages (j ∷ js) stage fails was =
    count-all_at_same p (slice_set stages j stage) js stage fails
    (λ e h.
    elim (cases_eq (slice_index js e) j) [
      | inl same ↦
          elim (cases_lt j (length stages)) [
            | inl inside ↦ ap (λ k. p (stage_of (slice_set stages j stage) k)) same ∙ (ap p (get_or-set_same stages j stage New inside) ∙ fails)
            | inr past ↦ ap (λ xs. p (stage_of xs (slice_index js e))) (set_past stages j stage past) ∙ was (suc e) (omega arith)
          ]
      | inr apart ↦ ap p (get_or-set_other stages j (slice_index js e) stage New apart) ∙ was (suc e) (omega arith)
    ])
    ∙ count-set_same p stages j stage fails (was 0 (omega arith))
