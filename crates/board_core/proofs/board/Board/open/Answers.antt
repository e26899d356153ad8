use Rattle.std.proofs.Common.{◌≡◌, ◌<◌, ◌≤◌, ◌+◌, ◌*◌, ℕ, List, [], length, Vec, Global, slice_index_or, ap, sym, subst, ◌∙◌, arith}
use Rattle.std.proofs.lemmas.List.{length-map}
use Rattle.std.specs.Prelude.{None, replicate, vec_capacity}
use Rattle.board_core.specs.declared.job_state.JobState.TheVariants.{Open as OpenState}
use Rattle.board_core.specs.Calls.{NoBadDep}
use Rattle.board_core.specs.History.{dep_lists}
use Rattle.board_core.proofs.lemmas.Kept.{kept-logged}
use Rattle.board_core.proofs.OpenLemmas.{kept-open, not-first_bad, le-same}
use Rattle.board_core.proofs.board.Board.open.Goals as goal

pub invariant_of-result : goal.invariant_of-result
invariant_of-result g c =
    let ranks = c.in_ok-from_slice.ensures.items in
    let deps = c.in_ok-copied.ensures in
    let lists = ap (λ (xs : List (List ℕ)). length xs) deps in
    let plain = length-map c.args.deps.now (λ (x : Vec ℕ Global). x.items) in
    let jobs : length (dep_lists c.in_ok-copied.field-0.items) ≡ length c.args.deps.now = lists ∙ plain in
    let fine : List ℕ → List (List ℕ) → Type 0 = λ x y. (j : ℕ) → j < length y → NoBadDep x (slice_index_or y j []) j in
    let none : fine c.args.ranks.now (dep_lists c.args.deps.now) = λ j h. c.in_default.ensures.none j (omega (arith, h, plain)) in
    let here = subst (λ x. fine x (dep_lists c.in_ok-copied.field-0.items)) (sym ranks) (subst (λ y. fine c.args.ranks.now y) (sym deps) none) in
    let count : length c.args.deps.now ≡ length (dep_lists c.in_ok-copied.field-0.items) = omega (arith, jobs) in
    let room : 2 * length (dep_lists c.in_ok-copied.field-0.items) + c.args.workers ≤ vec_capacity c.in_ok-with_capacity.field-0 = omega (arith, c.in_ok-with_capacity.ensures.exact, jobs) in (
      omega (arith, jobs, length-map c.in_ok-copied.field-0.items (λ (x : Vec ℕ Global). x.items), c.requires.jobs) ∙ ap g.W.Work.jobs (sym c.of.ensures),
      kept-logged _ [] _ _ _ _ _ _ _
          (kept-open _ (omega (arith, ap (λ (xs : List ℕ). length xs) ranks, jobs, c.requires.lengths)) (omega (arith, jobs, c.requires.few)) here _ _ _ _
          (c.in_ok-all_open.ensures ∙ ap (λ n. replicate n OpenState) count) (c.in_ok-no_results.ensures ∙ ap (λ n. replicate n None) count)
          (c.in_ok-none_checked.ensures ∙ ap (λ n. replicate n 0) count) room)
          c.in_ok-with_capacity.ensures.items (le-same (vec_capacity c.in_ok-with_capacity.field-0)),
    )

pub returns-clause-bad : goal.returns-clause-bad
returns-clause-bad g c job dep = (
  λ e. cc,
  λ bad.
      absurd (not-first_bad c.args.ranks.now (dep_lists c.args.deps.now) job dep
      (λ j h. c.in_default.ensures.none j (omega (arith, h, length-map c.args.deps.now (λ (x : Vec ℕ Global). x.items)))) bad),
)
