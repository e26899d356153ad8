-- A board that is opened keeps what each board keeps.
use Rattle.std.proofs.Common.{◌≡◌, ℕ, zero, suc, ◌+◌, ◌*◌, ◌<◌, ◌≤◌, false, inl, inr, Option, None, List, [], ◌∷◌, length, map, slice_index, slice_index_or, refl, sym, ap, subst, ◌∙◌, arith}
use Rattle.std.specs.Prelude.{replicate}
use Rattle.std.proofs.lemmas.List.{length-replicate, get_or-replicate, get_or_past, get_or_default}
use Rattle.std.proofs.lemmas.Bool.{cases_lt, false≢true}
use Rattle.base.specs.Limits.{most_jobs}
use Rattle.board_core.specs.declared.job_state.JobState.{JobState}
use Rattle.board_core.specs.declared.job_state.JobState.TheVariants.{Open as OpenState}
use Rattle.board_core.specs.Board.{Job, Open, Program, deps_of, result_of}
use Rattle.board_core.specs.Answers.{IsRanked}
use Rattle.board_core.specs.Calls.{IsBadDep, NoBadDep, IsFirstBad}
use Rattle.board_core.specs.Kept.{job_state_of, IsKept}

replicate-map : {X Y : Type 0} (f : X → Y) (n : ℕ) (x : X) → replicate n (f x) ≡ map f (replicate n x)
replicate-map f zero x = refl
replicate-map f (suc n) x = ap (λ xs. f x ∷ xs) (replicate-map f n x)

module _ {M : Type 0} (program : Program M) (counted : length program.ranks ≡ length program.deps) (few : length program.deps ≤ most_jobs)
    (fine : (j : ℕ) → j < length program.deps → NoBadDep program.ranks (deps_of program j) j) where
  dep-fine : (j d : ℕ) → j < length program.deps → (e : ℕ) → e < length (deps_of program j) → slice_index_or (deps_of program j) e d ≡ d → ¬ IsBadDep program.ranks j d
  dep-fine j d inside e h is =
      let family : ℕ → Type 0 = λ x. ¬ IsBadDep program.ranks j x in
      subst family (get_or_default (deps_of program j) e 0 d h ∙ is) (fine j inside e h)

  row-inside : (j d : ℕ) (e : ℕ) → e < length (deps_of program j) → j < length program.deps
  row-inside j d e h =
      elim (cases_lt j (length program.deps)) [
        | inl inside ↦ inside
        | inr past ↦ absurd (omega (arith, h, ap (λ (x : List ℕ). length x) (get_or_past program.deps j [] past)))
      ]

  ranked : IsRanked program
  ranked =
      record {
        counted = counted;
        known = λ j d h.
            elim (cases_lt d (length program.deps)) [
              | inl inside ↦ inside
              | inr past ↦ absurd (dep-fine j d (row-inside j d h.0 h.1) h.0 h.1 h.2 (inl (omega (arith, counted))))
            ];
        smaller = λ j d h.
            elim (cases_lt (slice_index program.ranks d) (slice_index program.ranks j)) [
              | inl lower ↦ lower
              | inr up ↦ absurd (dep-fine j d (row-inside j d h.0 h.1) h.0 h.1 h.2 (inr up))
            ];
      }

  none-stopped : (worker : ℕ) → slice_index_or (replicate program.workers false) worker false ≡ false
  none-stopped worker =
      elim (cases_lt worker program.workers) [
        | inl inside ↦ get_or-replicate program.workers worker false false inside
        | inr past ↦ get_or_past (replicate program.workers false) worker false (omega (arith, length-replicate program.workers false))
      ]

  pub kept-open : (job_states : List JobState) (made : List (Option M)) (checked : List ℕ) (capacity : ℕ) → job_states ≡ replicate (length program.deps) OpenState
      → made ≡ replicate (length program.deps) None → checked ≡ replicate (length program.deps) 0 → 2 * length program.deps + program.workers ≤ capacity
      → IsKept program [] job_states made checked false capacity
  kept-open job_states made checked capacity s m k room =
      let open' : Job M = Open in
      let long : length checked ≡ length program.deps = ap (λ (xs : List ℕ). length xs) k ∙ length-replicate (length program.deps) 0 in
      let zero-at : (j : ℕ) → j < length checked → slice_index checked j ≡ 0 = λ j h. ap (λ xs. slice_index xs j) k ∙ get_or-replicate (length program.deps) j 0 0 (omega arith) in
      record {
        ranked = ranked;
        few = few;
        legal = tt;
        job_states_are = s ∙ replicate-map job_state_of (length program.deps) open';
        results_are = m ∙ replicate-map result_of (length program.deps) open';
        checked_length = long;
        checked_out = λ j h. (omega (arith, zero-at j h), λ e l. absurd (omega (arith, zero-at j h)));
        stopped = λ e. absurd (false≢true e);
        going = λ e. (λ worker h. false≢true (sym (none-stopped worker) ∙ h), λ worker h. absurd (omega (arith, h.1)));
        room = room;
      }

-- where no dep is bad, none is the first bad one
pub not-first_bad : (ranks : List ℕ) (deps : List (List ℕ)) (j d : ℕ) → ((k : ℕ) → k < length deps → NoBadDep ranks (slice_index_or deps k []) k) → ¬ IsFirstBad ranks deps j d
not-first_bad ranks deps j d fine bad =
    let family : ℕ → Type 0 = λ x. IsBadDep ranks j x in
    fine j bad.inside bad.first.index bad.first.inside (subst family (sym bad.first.value) bad.first.bad)

pub le-same : (n : ℕ) → n ≤ n
le-same n = omega arith
