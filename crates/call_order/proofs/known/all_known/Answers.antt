use Rattle.std.proofs.Common.{ℕ, ◌≡◌, ◌<◌, List, [], length, Vec, Global, arith, ap, refl, below_more, slice_index_or, inl, inr}
use Rattle.std.proofs.lemmas.List.{length-map, get_or_past}
use Rattle.std.proofs.lemmas.Bool.{cases_lt, false≢true}
use Rattle.call_order.specs.Units.{call_lists, Calls}
use Rattle.call_order.proofs.StageLemmas.{row-calls}
use Rattle.call_order.proofs.known.all_known.Goals as goal

inside : (calls : List (Vec ℕ Global)) (j k : ℕ) → Calls (call_lists calls) j k → j < length calls
inside calls j k h =
    elim (cases_lt j (length calls)) [
      | inl low ↦ low
      | inr past ↦
          let none : slice_index_or (call_lists calls) j [] ≡ [] = get_or_past (call_lists calls) j [] (omega (arith, length-map calls (λ (x : Vec ℕ Global). x.items))) in
          absurd (omega (arith, h.1, ap (λ (x : List ℕ). length x) none))
    ]

pub returns : goal.returns
returns c = (
  λ is j k h.
      omega (
        arith,
        length-map c.args.calls.now (λ (x : Vec ℕ Global). x.items),
        c.loop-callees.invariant j k (omega (arith, inside c.args.calls.now j k h)) h,
      ),
  λ known. refl,
)

pub returns-then-not-all_below : goal.returns-then-not-all_below
returns-then-not-all_below c =
    let calls = c.args.calls.now in
    let i = c.loop-callees.callees-index in
    let own = row-calls calls i c.callees-item.result _ c.loop-callees-test.true c.callees-item.is c.as_slice.ensures.value in (
      λ is. absurd (false≢true is),
      λ known.
          c.if-not-all_below.ensures.1 (λ k h.
          omega (arith, length-map calls (λ (x : Vec ℕ Global). x.items), known i k ((own k).0 h))),
    )

pub loop-callees-preserved : goal.loop-callees-preserved
loop-callees-preserved c =
    let calls = c.args.calls.now in
    let i = c.loop-callees.callees-index in
    let Known : ℕ → Type 0 = λ j. (k : ℕ) → Calls (call_lists calls) j k → k < length calls in
    let own = row-calls calls i c.callees-item.result _ c.loop-callees-test.true c.callees-item.is c.as_slice.ensures.value in
    let all =
    below_more Known i (λ j h k called. c.loop-callees.invariant j k h called)
    (λ k called. c.if-not-all_below.ensures.0 refl k ((own k).1 called)) in
    λ j k h called. all j h k called
