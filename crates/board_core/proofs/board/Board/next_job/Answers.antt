use Rattle.std.proofs.Common.{ℕ, List, [], ◌≡◌, ◌<◌, Option, None, Some, length, Vec, Global, slice_index_or, Contains, ap, subst, arith}
use Rattle.std.specs.Prelude.{IfSome, IfNone}
use Rattle.std.proofs.lemmas.List.{length-map}
use Rattle.board_core.specs.declared.job_state.JobState.{JobState}
use Rattle.board_core.specs.Board.{IsNext, IsReady}
use Rattle.board_core.specs.History.{History, dep_lists, program_of, state_of}
use Rattle.board_core.proofs.lemmas.Kept.{job_states-length, kept-search, next-some, next-none, written-back}
use Rattle.board_core.proofs.board.Board.next_job.Goals as goal

each-found : (found : Option ℕ) (P Q : ℕ → Type 0) → ((j : ℕ) → P j → Q j) → IfSome found P → IfSome found Q
each-found None P Q f h = tt
each-found (Some j) P Q f h = f j h

pub next_ready-requires-clause-few : goal.next_ready-requires-clause-few
next_ready-requires-clause-few g c =
    omega (arith, ap (λ (xs : List JobState). length xs) c.as_slice-2.ensures.value, job_states-length _ c.self.inside.events.items _ _ _ _ _ c.self.invariant.1, c.self.invariant.1.few)

pub next_ready-requires-clause-deps_length : goal.next_ready-requires-clause-deps_length
next_ready-requires-clause-deps_length g c =
    omega (
      arith,
      ap (λ (xs : List JobState). length xs) c.as_slice-2.ensures.value,
      job_states-length _ c.self.inside.events.items _ _ _ _ _ c.self.invariant.1,
      ap (λ (xs : List (Vec ℕ Global)). length xs) c.as_slice.ensures.value,
      length-map c.self.inside.deps.items (λ (x : Vec ℕ Global). x.items),
    )

pub next_ready-requires-clause-checked_length : goal.next_ready-requires-clause-checked_length
next_ready-requires-clause-checked_length g c =
    omega (
      arith,
      ap (λ (xs : List JobState). length xs) c.as_slice-2.ensures.value,
      job_states-length _ c.self.inside.events.items _ _ _ _ _ c.self.invariant.1,
      ap (λ (xs : List ℕ). length xs) c.as_mut_slice.ensures.value,
      c.self.invariant.1.checked_length,
    )

pub next_ready-requires-clause-known : goal.next_ready-requires-clause-known
next_ready-requires-clause-known g c j d h =
    let family : List (Vec ℕ Global) → Type 0 = λ x. Contains (slice_index_or (dep_lists x) j []) d in
    omega (
      arith,
      ap (λ (xs : List JobState). length xs) c.as_slice-2.ensures.value,
      job_states-length _ c.self.inside.events.items _ _ _ _ _ c.self.invariant.1,
      c.self.invariant.1.ranked.known j d (subst family c.as_slice.ensures.value h),
    )

pub invariant_of-self : goal.invariant_of-self
invariant_of-self g c =
    let checked = c.self.inside.checked in
    let long = ap (λ (xs : List ℕ). length xs) c.as_mut_slice.ensures.value in
    let same : length c.next_ready.new.checked ≡ length checked.items = omega (arith, c.next_ready.ensures.length, long) in (
      c.self.invariant.0,
      kept-search _ c.self.inside.events.items _ _ _ _ _ c.self.invariant.1 _ c.next_ready.new.checked _ _ (written-back checked.items c.next_ready.new.checked _ checked.ok.0 same) same
          (ap dep_lists c.as_slice.ensures.value) c.as_slice-2.ensures.value c.next_ready.ensures.checked,
    )

pub returns-clause-some : goal.returns-clause-some
returns-clause-some g c =
    let family = λ (h : History g.row.W.Denot). IfSome c.next_ready.result (λ j. (j < length h.deps) × IsNext (program_of g.W.Work.made h) (state_of g.W.Work.made h) j) in
    subst family c.self.view_is
    (next-some _ c.self.inside.events.items _ _ _ _ _ c.self.invariant.1 c.next_ready.result _ _ (ap dep_lists c.as_slice.ensures.value) c.as_slice-2.ensures.value c.next_ready.ensures.some)

pub returns-clause-inside : goal.returns-clause-inside
returns-clause-inside g c =
    let family = λ (h : History g.row.W.Denot). IfSome c.next_ready.result (λ j. j < g.W.Work.jobs h.work) in
    let deps = ap dep_lists c.as_slice.ensures.value in
    let found = next-some _ c.self.inside.events.items _ _ _ _ _ c.self.invariant.1 c.next_ready.result _ _ deps c.as_slice-2.ensures.value c.next_ready.ensures.some in
    subst family c.self.view_is
    (each-found c.next_ready.result _ _ (λ j h. omega (arith, h.0, c.self.invariant.0, length-map c.self.inside.deps.items (λ (x : Vec ℕ Global). x.items))) found)

pub returns-clause-none : goal.returns-clause-none
returns-clause-none g c =
    let family = λ (h : History g.row.W.Denot). IfNone c.next_ready.result ((j : ℕ) → ¬ IsReady (program_of g.W.Work.made h) (state_of g.W.Work.made h) j) in
    subst family c.self.view_is
    (next-none _ c.self.inside.events.items _ _ _ _ _ c.self.invariant.1 c.next_ready.result _ _ (ap dep_lists c.as_slice.ensures.value) c.as_slice-2.ensures.value c.next_ready.ensures.none)
