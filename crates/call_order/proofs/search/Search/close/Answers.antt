use Rattle.std.proofs.Common.{ℕ, List, ◌-◌, ◌++◌, length, take, drop, Vec, Global, ap, ◌∙◌, refl, arith}
use Rattle.std.proofs.Math.Seq.{take-append_seam}
use Rattle.std.proofs.lemmas.List.{take_rest, length-map}
use Rattle.std.proofs.lemmas.List.Sums.{count_by-le-length}
use Rattle.call_order.specs.declared.stages.Stage.{Stage}
use Rattle.call_order.specs.declared.stages.Stage.TheVariants.{Closed}
use Rattle.call_order.specs.Units.{call_lists}
use Rattle.call_order.specs.Search.{above, all_at, stage_of, is_closed}
use Rattle.call_order.proofs.StageLemmas.{above-small}
use Rattle.call_order.proofs.CloseLemmas.{closes-answer}
use Rattle.call_order.proofs.search.Search.close.Goals as goal

pub rank_of-rank-requires-clause-known : goal.rank_of-rank-requires-clause-known
rank_of-rank-requires-clause-known c a k h called =
    omega (arith, c.requires.known _ k called, c.requires.search.counted, ap (λ (xs : List Stage). length xs) c.deref-2.ensures.value)

pub rank_of-rank-requires-clause-small : goal.rank_of-rank-requires-clause-small
rank_of-rank-requires-clause-small c a k h called =
    let stages = c.args.self.now.stages.items in
    omega (
      arith,
      ap (λ (xs : List Stage). above (stage_of xs k)) c.deref-2.ensures.value,
      above-small (call_lists c.args.calls.now) stages c.requires.search.closed (stage_of stages k) k refl,
      count_by-le-length is_closed stages,
      c.requires.search.counted,
      c.requires.few,
      length-map c.args.calls.now (λ (x : Vec ℕ Global). x.items),
    )

pub returns-clause-closed : goal.returns-clause-closed
returns-clause-closed c =
    let s = c.args.self.now in
    let from = c.args.from in
    closes-answer (call_lists c.args.calls.now) s.stages.items c.deref-2.result.now s.members.items _ from c.least-unit.result c.rank_of-rank.result _ _
    (ap (λ (xs : List ℕ). take (length xs - from) (drop from xs)) c.deref.ensures.value ∙ take_rest s.members.items from) c.deref-2.ensures.value
    c.least-unit.ensures.member c.least-unit.ensures.least c.rank_of-rank.ensures.above c.rank_of-rank.ensures.tight
    (ap (λ n. take n (c.put_all.new.stages ++ drop (length c.put_all.new.stages) s.stages.items))
    (omega (arith, s.stages.ok.0, c.put_all.auto.stages, ap (λ (xs : List Stage). length xs) c.deref_mut.ensures.value))
    ∙ take-append_seam c.put_all.new.stages _
    ∙ (c.put_all.ensures
    ∙ ap (λ (xs : List Stage). all_at xs (take (length c.deref.result.now - from) (drop from c.deref.result.now)) (Closed c.least-unit.result c.rank_of-rank.result)) c.deref_mut.ensures.value))
    c.truncate.ensures.items
