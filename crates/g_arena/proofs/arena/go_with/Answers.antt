-- One node goes, and then those in its regions one after another.
use Rattle.std.proofs.Common.{Some, List, sym, ◌∙◌, ◌<◌, length, subst}
use Rattle.g_arena_use.specs.Plain.{PlainSlot, live_from}
use Rattle.g_arena.proofs.GoneLemmas.{marked_less}
use Rattle.g_arena.proofs.WalkLemmas.{going_first, going_more, going_at, going_by, going_found, going_ended, going_stopped, inputs_there, results_there}
use Rattle.g_arena.proofs.arena.go_with.Goals as goal

pub let_go-next-requires-clause-inputs : goal.let_go-next-requires-clause-inputs
let_go-next-requires-clause-inputs c =
    inputs_there c.requires.placed.args c.args.nodes.now c.args.inputs.now c.args.results.now c.args.root c.requires.placed.indexed c.requires.there.inside

pub let_go-next-requires-clause-results : goal.let_go-next-requires-clause-results
let_go-next-requires-clause-results c =
    results_there c.requires.placed.args c.args.nodes.now c.args.inputs.now c.args.results.now c.args.root c.requires.placed.indexed c.requires.there.inside

pub loop-next-init : goal.loop-next-init
loop-next-init c =
    going_by c.args.root c.args.nodes.now c.args.inputs.now c.args.results.now _ c.let_go-next.new.nodes _ c.let_go-next.new.inputs _ c.let_go-next.new.results _ c.let_go-next.result
    (going_first c.args.root c.args.nodes.now c.args.inputs.now c.args.results.now c.requires.placed c.requires.there) c.let_go-next.ensures.nodes c.let_go-next.ensures.inputs c.let_go-next.ensures.results c.let_go-next.ensures.next

pub went_with-requires : goal.went_with-requires
went_with-requires c =
    let g = going_found c.args.root c.args.nodes.now c.args.inputs.now c.args.results.now c.loop-next.nodes c.loop-next.inputs c.loop-next.results c.loop-next.next (Some c.in-Some.at) c.loop-next.invariant c.in-Some.is in
    (going_at c.args.root c.args.nodes.now c.args.inputs.now c.args.results.now c.loop-next.nodes c.loop-next.inputs c.loop-next.results c.in-Some.at g).inside

pub returns-then-not-went_with : goal.returns-then-not-went_with
returns-then-not-went_with c =
    let g = going_found c.args.root c.args.nodes.now c.args.inputs.now c.args.results.now c.loop-next.nodes c.loop-next.inputs c.loop-next.results c.loop-next.next (Some c.in-Some.at) c.loop-next.invariant c.in-Some.is in
    going_stopped c.args.root c.args.nodes.now c.args.inputs.now c.args.results.now c.loop-next.nodes c.loop-next.inputs c.loop-next.results c.in-Some.at g (sym c.went_with.ensures ∙ c.if-not-went_with.true)

pub let_go-next-requires-in-Some-clause-there : goal.let_go-next-requires-in-Some-clause-there
let_go-next-requires-in-Some-clause-there c =
    let g = going_found c.args.root c.args.nodes.now c.args.inputs.now c.args.results.now c.loop-next.nodes c.loop-next.inputs c.loop-next.results c.loop-next.next (Some c.in-Some.at) c.loop-next.invariant c.in-Some.is in
    going_at c.args.root c.args.nodes.now c.args.inputs.now c.args.results.now c.loop-next.nodes c.loop-next.inputs c.loop-next.results c.in-Some.at g

pub let_go-next-requires-in-Some-clause-inputs : goal.let_go-next-requires-in-Some-clause-inputs
let_go-next-requires-in-Some-clause-inputs c =
    let g = going_found c.args.root c.args.nodes.now c.args.inputs.now c.args.results.now c.loop-next.nodes c.loop-next.inputs c.loop-next.results c.loop-next.next (Some c.in-Some.at) c.loop-next.invariant c.in-Some.is in
    let i = going_at c.args.root c.args.nodes.now c.args.inputs.now c.args.results.now c.loop-next.nodes c.loop-next.inputs c.loop-next.results c.in-Some.at g in
    inputs_there g.args c.loop-next.nodes c.loop-next.inputs c.loop-next.results c.in-Some.at g.placed i.inside

pub let_go-next-requires-in-Some-clause-results : goal.let_go-next-requires-in-Some-clause-results
let_go-next-requires-in-Some-clause-results c =
    let g = going_found c.args.root c.args.nodes.now c.args.inputs.now c.args.results.now c.loop-next.nodes c.loop-next.inputs c.loop-next.results c.loop-next.next (Some c.in-Some.at) c.loop-next.invariant c.in-Some.is in
    let i = going_at c.args.root c.args.nodes.now c.args.inputs.now c.args.results.now c.loop-next.nodes c.loop-next.inputs c.loop-next.results c.in-Some.at g in
    results_there g.args c.loop-next.nodes c.loop-next.inputs c.loop-next.results c.in-Some.at g.placed i.inside

pub loop-next-smaller : goal.loop-next-smaller
loop-next-smaller c =
    let g = going_found c.args.root c.args.nodes.now c.args.inputs.now c.args.results.now c.loop-next.nodes c.loop-next.inputs c.loop-next.results c.loop-next.next (Some c.in-Some.at) c.loop-next.invariant c.in-Some.is in
    let i = going_at c.args.root c.args.nodes.now c.args.inputs.now c.args.results.now c.loop-next.nodes c.loop-next.inputs c.loop-next.results c.in-Some.at g in
    let P : List PlainSlot → Type 0 = λ ss. length (live_from 0 ss) < length (live_from 0 c.loop-next.nodes) in
    subst P (sym c.let_go-next-in-Some.ensures.nodes) (marked_less c.args.root c.loop-next.nodes c.in-Some.at i.inside i.live)

pub loop-next-preserved : goal.loop-next-preserved
loop-next-preserved c =
    let g = going_found c.args.root c.args.nodes.now c.args.inputs.now c.args.results.now c.loop-next.nodes c.loop-next.inputs c.loop-next.results c.loop-next.next (Some c.in-Some.at) c.loop-next.invariant c.in-Some.is in
    going_by c.args.root c.args.nodes.now c.args.inputs.now c.args.results.now _ c.let_go-next-in-Some.new.nodes _ c.let_go-next-in-Some.new.inputs _ c.let_go-next-in-Some.new.results _ c.let_go-next-in-Some.result
    (going_more c.args.root c.args.nodes.now c.args.inputs.now c.args.results.now c.loop-next.nodes c.loop-next.inputs c.loop-next.results c.in-Some.at g (sym c.went_with.ensures ∙ c.if-not-went_with.false))
    c.let_go-next-in-Some.ensures.nodes c.let_go-next-in-Some.ensures.inputs c.let_go-next-in-Some.ensures.results c.let_go-next-in-Some.ensures.next

pub returns : goal.returns
returns c =
    going_ended c.args.root c.args.nodes.now c.args.inputs.now c.args.results.now c.loop-next.nodes c.loop-next.inputs c.loop-next.results
    (going_found c.args.root c.args.nodes.now c.args.inputs.now c.args.results.now c.loop-next.nodes c.loop-next.inputs c.loop-next.results c.loop-next.next _ c.loop-next.invariant c.in_default.is)
