use Rattle.std.proofs.Common.{◌≡◌, ℕ, ◌+◌, ◌<◌, ◌++◌, ◌∷◌, [], List, length, map, take, drop, slice_index_or, slice_set, ap, sym, ◌∙◌, arith}
use Rattle.std.proofs.lemmas.List.{length-take-le, length-map, take_more, map_push, drop_more, set_at, append_assoc, get_or_at}
use Rattle.board_core.specs.declared.job_state.JobState.{JobState}
use Rattle.board_core.specs.declared.job_state.JobState.TheVariants.{Open}
use Rattle.board_core.specs.JobStates.{released_state}
use Rattle.board_core.proofs.job_state.release.Goals as goal

-- one more of the states is released
released-more : (old job_states : List JobState) (worker i : ℕ) (it : JobState) → i < length old → job_states ≡ map (released_state worker) (take i old) ++ drop i old
    → it ≡ released_state worker (slice_index_or job_states i Open) → slice_set job_states i it ≡ map (released_state worker) (take (i + 1) old) ++ drop (i + 1) old
released-more old job_states worker i it inside is value =
    let front = map (released_state worker) (take i old) in
    let here = slice_index_or old i Open in
    let long : length front ≡ i = length-map (take i old) (released_state worker) ∙ length-take-le i old (omega arith) in
    let split : job_states ≡ front ++ here ∷ drop (i + 1) old = is ∙ ap (λ xs. front ++ xs) (drop_more old i Open inside) in
    let read : slice_index_or job_states i Open ≡ here = ap (λ xs. slice_index_or xs i Open) split ∙ get_or_at front here (drop (i + 1) old) Open i long in
    let more : map (released_state worker) (take (i + 1) old) ≡ front ++ released_state worker here ∷ [] =
    ap (map (released_state worker)) (take_more old i Open inside) ∙ map_push (released_state worker) (take i old) here in
    ap (λ xs. slice_set xs i it) split
    ∙ (set_at front here (drop (i + 1) old) it i long
    ∙ (ap (λ x. front ++ x ∷ drop (i + 1) old) (value ∙ ap (released_state worker) read)
    ∙ (sym (append_assoc front (released_state worker here ∷ []) (drop (i + 1) old)) ∙ ap (λ xs. xs ++ drop (i + 1) old) (sym more))))

pub loop-job_state-preserved : goal.loop-job_state-preserved
loop-job_state-preserved c =
    released-more c.args.job_states.now c.loop-job_state.job_states c.args.worker c.loop-job_state.job_state-index c.released.result c.loop-job_state-test.true c.loop-job_state.invariant
    c.released.ensures
