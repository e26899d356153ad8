use Rattle.std.proofs.Common.{[], ℕ, List, Vec, Global, slice_index, slice_index_or, Contains, sym, ap, subst, ◌∙◌, arith}
use Rattle.std.proofs.lemmas.List.{length-map}
use Rattle.std.proofs.lemmas.List.Elements.{Contains-get_or}
use Rattle.call_order.specs.Units.{call_lists}
use Rattle.g_pass_work.specs.Renewal.{stale_jobs}
use Rattle.g_pass_work.proofs.Numbers.{lists-more}
use Rattle.g_pass_work.proofs.Rows.{row}
use Rattle.g_pass_work.proofs.numbering.deps_of.Goals as goal

pub bounds-deps-function : goal.bounds-deps-function
bounds-deps-function c = c.requires.inside _ (Contains-get_or c.args.functions.now c.loop-function.function-index 0 c.loop-function-test.true)

pub stale_jobs-requires-clause-known : goal.stale_jobs-requires-clause-known
stale_jobs-requires-clause-known c j h =
    let functions = c.args.functions.now in
    let f = slice_index functions c.loop-function.function-index in
    let here = c.requires.inside f (Contains-get_or functions c.loop-function.function-index 0 c.loop-function-test.true) in
    let own = row c.args.deps.now f c.index-deps-function.result here c.index-deps-function.is ∙ sym c.as_slice.ensures.value in
    omega (arith, c.requires.known f j (subst (λ (xs : List ℕ). Contains xs j) (sym own) h), length-map c.args.deps.now (λ (x : Vec ℕ Global). x.items), c.requires.all)

pub loop-function-preserved : goal.loop-function-preserved
loop-function-preserved c =
    let stale = c.args.stale.now in
    let deps = c.args.deps.now in
    let functions = c.args.functions.now in
    let i = c.loop-function.function-index in
    let f = slice_index functions i in
    let here = c.requires.inside f (Contains-get_or functions i 0 c.loop-function-test.true) in
    let own = row deps f c.index-deps-function.result here c.index-deps-function.is ∙ sym c.as_slice.ensures.value in
    lists-more (λ j. stale_jobs stale (slice_index_or (call_lists deps) j [])) functions i c.loop-function.own.items c.push.new.self.items c.in_ok-stale_jobs.field-0 c.loop-function-test.true
    c.loop-function.invariant (c.in_ok-stale_jobs.ensures ∙ ap (stale_jobs stale) (sym own)) c.in_ok-push.ensures.items
