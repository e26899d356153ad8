use Rattle.std.proofs.Common.{◌≡◌, ℕ, Vec, Global, arith, length, sym, ap, ◌∙◌}
use Rattle.std.specs.Prelude.{slice_set}
use Rattle.std.proofs.lemmas.List.{length-map}
use Rattle.call_order.specs.Units.{call_lists}
use Rattle.call_order.specs.declared.stages.Stage.TheVariants.{Held}
use Rattle.call_order.specs.declared.search.Group.{Group}
use Rattle.call_order.proofs.StageLemmas.{row-is}
use Rattle.call_order.proofs.EnterLemmas.{enter-answer}
use Rattle.call_order.proofs.search.Search.enter.Goals as goal

group-same : (a b m n : ℕ) → a ≡ m → b ≡ n → (let group : ℕ → ℕ → Group = λ x y. record { members_from = x; pending_from = y } in group a b ≡ group m n)
group-same a b m n e f = cc

pub returns-clause-search : goal.returns-clause-search
returns-clause-search c =
    let s = c.args.self.now in
    let row = sym (row-is c.args.calls.now c.args.function c.index-calls-function.result c.requires.inside (sym c.index-calls-function.is)) in
    enter-answer (call_lists c.args.calls.now) s.stages.items s.members.items s.pending.items s.groups.items c.requires.search c.args.function
    (omega (arith, c.requires.inside, length-map c.args.calls.now (λ (x : Vec ℕ Global). x.items))) c.requires.new c.requires.reached
    c.extend_from_slice.result _ _ _ c.as_slice.result.now _ _
    (let held : c.len-3.result ≡ length s.members.items = omega (arith, c.len-3.ensures, s.members.ok.0) in ap (λ n. slice_set s.stages.items c.args.function (Held n)) held)
    c.in_ok-push-2.ensures.items (c.as_slice.ensures.value ∙ row) c.extend_from_slice.ensures.items
    (group-same _ _ _ _ (omega (arith, c.len.ensures, s.members.ok.0)) (omega (arith, c.len-2.ensures, s.pending.ok.0)))
    c.in_ok-push.ensures.items
