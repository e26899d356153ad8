use Rattle.std.proofs.Common.{◌≡◌, ◌≢◌, ℕ, List, ◌<◌, ◌+◌, length, map, Vec, Global, arith, subst, sym, ap, ◌∙◌, below_more}
use Rattle.std.proofs.lemmas.List.{length-map, get_or_default}
use Rattle.call_order.specs.declared.stages.Stage.TheVariants.{New}
use Rattle.call_order.specs.declared.search.Search.{Search}
use Rattle.call_order.specs.Units.{call_lists, IsUnits}
use Rattle.call_order.specs.Search.{IsSearchOf, StayEntered, stage_of, unit_in, rank_in}
use Rattle.call_order.proofs.UnitsLemmas.{units-found}
use Rattle.call_order.proofs.finding.units.Goals as goal
use Rattle.call_order.proofs.finding.units.Goals.{in-New+in_ok-explore, in_default}

abbrev HasEntered : List (List ℕ) → ℕ → Search → Type 0
HasEntered calls count search =
    IsSearchOf calls search × (length search.groups.items ≡ 0) × ((k : ℕ) → k < count → stage_of search.stages.items k ≢ New)

-- what was entered stays so
more-entered : (calls : List (List ℕ)) (f : ℕ) (old new now : Search) → now ≡ new → IsSearchOf calls new → length new.groups.items ≡ 0 → stage_of new.stages.items f ≢ New
    → StayEntered old.stages.items new.stages.items → ((k : ℕ) → k < f → stage_of old.stages.items k ≢ New) → HasEntered calls (f + 1) now
more-entered calls f old new now same is idle here kept before =
    let Entered : ℕ → Type 0 = λ k. stage_of new.stages.items k ≢ New in
    let family : Search → Type 0 = λ x. HasEntered calls (f + 1) x in
    subst family (sym same) (is, idle, below_more Entered f (λ k h e. before k h (kept k e)) here)

pub loop-function-init : goal.loop-function-init
loop-function-init c = (
  c.in_ok-search.ensures.search (call_lists c.args.calls.now) (length-map c.args.calls.now (λ (x : Vec ℕ Global). x.items)),
  omega (arith, c.in_ok-search.ensures.idle, c.in_ok-search.search.groups.ok.0),
  λ k h. absurd (omega arith),
)

pub loop-function-preserved : goal.loop-function-preserved
loop-function-preserved c =
    let old = c.loop-function.search in
    let calls = call_lists c.args.calls.now in
    let f = c.loop-function.function in
    elim c.match-index.branch [
      | in-New+in_ok-explore w ↦
          more-entered calls f old w.explore.new.self c.match-index.search w.search-is w.in_ok-explore.ensures.search w.in_ok-explore.ensures.idle
          w.in_ok-explore.ensures.entered w.in_ok-explore.ensures.kept c.loop-function.invariant.2
      | in_default w ↦
          more-entered calls f old old c.match-index.search w.search-is c.loop-function.invariant.0 c.loop-function.invariant.1
          (λ e. w.in_default.not-New
          (c.index.ensures
          ∙ (get_or_default old.stages.items f c.index.result.now New
          (omega (arith, c.loop-function-test.true, c.loop-function.invariant.0.counted, length-map c.args.calls.now (λ (x : Vec ℕ Global). x.items))) ∙ e))) (λ k e. e) c.loop-function.invariant.2
    ]

pub returns : goal.returns
returns c =
    let old = c.loop-function.search in
    let calls = call_lists c.args.calls.now in
    let found = units-found calls old.stages.items old.members.items old.pending.items old.groups.items c.loop-function.invariant.0 c.loop-function.invariant.1
    (λ k h. c.loop-function.invariant.2 k (omega (arith, length-map c.args.calls.now (λ (x : Vec ℕ Global). x.items)))) in
    let family : List ℕ → List ℕ → Type 0 = IsUnits calls in
    subst (λ x. family x c.in_ok-collected.field-0.rank.items) (sym (c.in_ok-collected.ensures.units ∙ ap (map unit_in) c.as_slice.ensures.value))
    (subst (λ x. family (map unit_in old.stages.items) x) (sym (c.in_ok-collected.ensures.ranks ∙ ap (map rank_in) c.as_slice.ensures.value)) found)
