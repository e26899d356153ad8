use Rattle.std.proofs.Common.{rules, ◌≡◌, ℕ, ◌<◌, List, [], length, slice_index, slice_index_or, Contains, inl, inr, subst, sym, ap, ◌∙◌, arith}
use Rattle.std.proofs.lemmas.Bool.{eqb-true, eq-eqb, cases_lt}
use Rattle.std.proofs.lemmas.List.Elements.{Contains-get_or}
use Rattle.board_core.specs.declared.job_state.JobState.TheVariants.{Open, Out}
use Rattle.board_core.specs.History.{dep_lists}
use Rattle.board_core.specs.JobStates.{job_state_at}
use Rattle.board_core.proofs.JobStateLemmas.{row-is, ready-from, unready-from, checked-set}
use Rattle.board_core.proofs.job_state.is_ready.Goals as goal

pub checked_out-count-requires-clause-known : goal.checked_out-count-requires-clause-known
checked_out-count-requires-clause-known c e h =
    let row = c.as_slice-own.result.now in
    let same : slice_index_or (dep_lists c.args.deps.now) c.args.job []
    ≡ row = row-is c.args.deps.now c.args.job c.index-deps-job.result (omega (arith, c.requires.inside, c.requires.deps_length)) c.index-deps-job.is ∙ sym c.as_slice-own.ensures.value in
    let family : List ℕ → Type 0 = λ x. Contains x (slice_index row e) in
    c.requires.known c.args.job (slice_index row e) (subst family (sym same) (Contains-get_or row e 0 h))

pub returns-clause-checked : goal.returns-clause-checked
returns-clause-checked c =
    let row = c.as_slice-own.result.now in
    let same : slice_index_or (dep_lists c.args.deps.now) c.args.job []
    ≡ row = row-is c.args.deps.now c.args.job c.index-deps-job.result (omega (arith, c.requires.inside, c.requires.deps_length)) c.index-deps-job.is ∙ sym c.as_slice-own.ensures.value in
    let front : List ℕ → Type 0 = λ x. (e : ℕ) → e < c.checked_out-count.result → job_state_at c.args.job_states.now (slice_index x e) ≡ Out in
    checked-set (dep_lists c.args.deps.now) c.args.job_states.now c.args.checked.now c.args.job c.checked_out-count.result c.requires.checked
    (omega (arith, c.requires.inside, c.requires.checked_length))
    (omega (arith, c.checked_out-count.ensures.inside, ap (λ (x : List ℕ). length x) same)) (subst front (sym same) c.checked_out-count.ensures.front)

pub returns-clause-ready : goal.returns-clause-ready
returns-clause-ready c =
    let row = c.as_slice-own.result.now in
    let same : slice_index_or (dep_lists c.args.deps.now) c.args.job []
    ≡ row = row-is c.args.deps.now c.args.job c.index-deps-job.result (omega (arith, c.requires.inside, c.requires.deps_length)) c.index-deps-job.is ∙ sym c.as_slice-own.ensures.value in
    let front : List ℕ → Type 0 = λ x. (e : ℕ) → e < c.checked_out-count.result → job_state_at c.args.job_states.now (slice_index x e) ≡ Out in
    let stops : List ℕ → Type 0 = λ x. ¬ (job_state_at c.args.job_states.now (slice_index x c.checked_out-count.result) ≡ Out) in
    let long = ap (λ (x : List ℕ). length x) same in
    let is_open : job_state_at c.args.job_states.now c.args.job ≡ Open = search rules in (
      λ h.
          ready-from (dep_lists c.args.deps.now) c.args.job_states.now c.args.job c.checked_out-count.result c.requires.inside is_open
          (omega (arith, eqb-true c.checked_out-count.result (length row) h, long)) (subst front (sym same) c.checked_out-count.ensures.front),
      λ ready.
          elim (cases_lt c.checked_out-count.result (length row)) [
            | inl fewer ↦
                absurd (unready-from (dep_lists c.args.deps.now) c.args.job_states.now c.args.job c.checked_out-count.result (omega (arith, long, fewer))
                (subst stops (sym same) (c.checked_out-count.ensures.end fewer)) ready)
            | inr all ↦ eq-eqb c.checked_out-count.result (length row) (omega (arith, c.checked_out-count.ensures.inside))
          ],
    )
