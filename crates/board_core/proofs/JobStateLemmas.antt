-- The states of jobs, and which job is ready.
use Rattle.std.proofs.Common.{◌≡◌, ℕ, ◌<◌, ◌≤◌, inl, inr, List, [], length, slice_index, slice_index_or, slice_set, sym, ap, ◌∙◌, arith}
use Rattle.std.specs.declared.vec.Vec.{Vec}
use Rattle.std.proofs.lemmas.List.{length-set, get_or-map, get_or_default, get_or-set_same, get_or-set_other}
use Rattle.std.proofs.lemmas.List.Elements.{Contains-get_or}
use Rattle.std.proofs.lemmas.Bool.{cases_eq}
use Rattle.board_core.specs.declared.job_state.JobState.{JobState}
use Rattle.board_core.specs.declared.job_state.JobState.TheVariants.{Open, Out}
use Rattle.board_core.specs.History.{dep_lists}
use Rattle.board_core.specs.JobStates.{job_state_at, AllCheckedOut, IsReadyState}

-- the plain form of a list of deps
pub row-is : {A : Type 0} → (deps : List (Vec ℕ A)) (j : ℕ) (row : Vec ℕ A) → j < length deps → row ≡ slice_index_or deps j row → slice_index_or (dep_lists deps) j [] ≡ row.items
row-is deps j row inside is = get_or-map (λ list. list.items) deps j row [] inside ∙ ap (λ list. list.items) (sym is)

-- where as many deps as there are are out, the job is ready
pub ready-from : (deps : List (List ℕ)) (job_states : List JobState) (j count : ℕ) → j < length job_states → job_state_at job_states j ≡ Open → length (slice_index_or deps j []) ≤ count
    → ((e : ℕ) → e < count → job_state_at job_states (slice_index (slice_index_or deps j []) e) ≡ Out) → IsReadyState deps job_states j
ready-from deps job_states j count inside is all front =
    record {
      inside = inside;
      still_open = is;
      deps_out = λ d h.
          let row = slice_index_or deps j [] in
          let at = get_or_default row h.0 0 d h.1 ∙ h.2 in
          ap (job_state_at job_states) (sym at) ∙ front h.0 (omega (arith, h.1));
    }

-- where one is not out, it is not
pub unready-from : (deps : List (List ℕ)) (job_states : List JobState) (j count : ℕ) → count < length (slice_index_or deps j [])
    → ¬ (job_state_at job_states (slice_index (slice_index_or deps j []) count) ≡ Out) → ¬ IsReadyState deps job_states j
unready-from deps job_states j count inside apart ready =
    apart (ready.deps_out (slice_index (slice_index_or deps j []) count) (Contains-get_or (slice_index_or deps j []) count 0 inside))

pub checked-set : (deps : List (List ℕ)) (job_states : List JobState) (checked : List ℕ) (j count : ℕ) → AllCheckedOut deps job_states checked → j < length checked
    → count ≤ length (slice_index_or deps j []) → ((e : ℕ) → e < count → job_state_at job_states (slice_index (slice_index_or deps j []) e) ≡ Out)
    → AllCheckedOut deps job_states (slice_set checked j count)
checked-set deps job_states checked j count was inside few front k h =
    elim (cases_eq k j) [
      | inl same ↦
          let value : slice_index (slice_set checked j count) k ≡ count = ap (slice_index (slice_set checked j count)) same ∙ get_or-set_same checked j count 0 inside in
          let row = ap (λ n. slice_index_or deps n []) same in (
            omega (arith, value, few, ap (λ (x : List ℕ). length x) row),
            λ e l. ap (λ x. job_state_at job_states (slice_index x e)) row ∙ front e (omega (arith, value)),
          )
      | inr apart ↦
          let value = get_or-set_other checked j k count 0 apart in
          let old = was k (omega (arith, length-set checked j count)) in
          (omega (arith, value, old.0), λ e l. old.1 e (omega (arith, value)))
    ]
