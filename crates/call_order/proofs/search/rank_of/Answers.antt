use Rattle.std.proofs.Common.{ℕ, ◌≤◌, slice_index, inl, inr, arith, ◌∙◌, below_more}
use Rattle.call_order.specs.Units.{call_lists, Calls}
use Rattle.call_order.specs.Search.{above, stage_of}
use Rattle.call_order.proofs.StageLemmas.{row-calls}
use Rattle.call_order.proofs.search.rank_of.Goals as goal

pub rank_above-rank-requires-clause-known : goal.rank_above-rank-requires-clause-known
rank_above-rank-requires-clause-known c k h =
    let i = c.loop-member.member-index in
    let row = row-calls c.args.calls.now (slice_index c.args.members.now i) c.index-calls-member.result _
    (c.requires.inside i c.loop-member-test.true) c.index-calls-member.is c.as_slice.ensures.value k in
    c.requires.known i k c.loop-member-test.true (row.0 h)

pub rank_above-rank-requires-clause-small : goal.rank_above-rank-requires-clause-small
rank_above-rank-requires-clause-small c k h =
    let i = c.loop-member.member-index in
    let row = row-calls c.args.calls.now (slice_index c.args.members.now i) c.index-calls-member.result _
    (c.requires.inside i c.loop-member-test.true) c.index-calls-member.is c.as_slice.ensures.value k in
    c.requires.small i k c.loop-member-test.true (row.0 h)

pub loop-member-preserved : goal.loop-member-preserved
loop-member-preserved c =
    let i = c.loop-member.member-index in
    let row = row-calls c.args.calls.now (slice_index c.args.members.now i) c.index-calls-member.result _
    (c.requires.inside i c.loop-member-test.true) c.index-calls-member.is c.as_slice.ensures.value in
    let Ranked : ℕ → Type 0 = λ a. (k : ℕ) → Calls (call_lists c.args.calls.now) (slice_index c.args.members.now a) k → above (stage_of c.args.stages.now k) ≤ c.rank_above-rank.result in (
      λ a k h called.
          below_more Ranked i (λ a h k called. omega (arith, c.loop-member.invariant.0 a k h called, c.rank_above-rank.ensures.start))
          (λ k called. c.rank_above-rank.ensures.above k ((row k).1 called))
          a h k called,
      elim c.rank_above-rank.ensures.tight [
        | inl same ↦
            elim c.loop-member.invariant.1 [
              | inl none ↦ inl (same ∙ none)
              | inr some ↦ inr (some.0, some.1, some.2, some.3, same ∙ some.4)
            ]
        | inr some ↦ inr (i, some.0, c.loop-member-test.true, (row some.0).0 some.1, some.2)
      ],
    )

pub returns-clause-above : goal.returns-clause-above
returns-clause-above c a k h called = c.loop-member.invariant.0 a k (omega arith) called
