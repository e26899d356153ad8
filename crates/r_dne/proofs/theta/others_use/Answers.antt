use Rattle.std.proofs.Common.{◌≡◌, ◌+◌, true, false, ◌||◌, take, drop, sym, ap, ◌∙◌}
use Rattle.std.proofs.lemmas.List.{take_rest}
use Rattle.g_graph.specs.Scope.{same_origin}
use Rattle.g_graph.specs.WellFormed.{some_of}
use Rattle.r_edit.specs.Origins.{origin_of}
use Rattle.r_dne.proofs.Tests.{others_at}
use Rattle.r_dne.proofs.theta.others_use.Goals as goal

pub returns-then-is_source_among : goal.returns-then-is_source_among
returns-then-is_source_among c =
    let test = some_of (same_origin (origin_of c.args.source)) in
    let first : test (take c.args.own c.args.results.now) ≡ true = sym c.is_source_among-2.ensures ∙ c.if-is_source_among.true in
    c.if-is_source_among.true ∙ (λ i. sym first i || test (drop (c.args.own + 1) c.args.results.now)) ∙ others_at c.args.own (origin_of c.args.source) c.args.results.now c.if-own-results.false

pub returns-else-is_source_among : goal.returns-else-is_source_among
returns-else-is_source_among c =
    let test = some_of (same_origin (origin_of c.args.source)) in
    let first : test (take c.args.own c.args.results.now) ≡ false = sym c.is_source_among-2.ensures ∙ c.if-is_source_among.false in
    c.is_source_among-else-is_source_among.ensures ∙ ap test (take_rest c.args.results.now (c.args.own + 1)) ∙ (λ i. sym first i || test (drop (c.args.own + 1) c.args.results.now))
    ∙ others_at c.args.own (origin_of c.args.source) c.args.results.now c.if-own-results.false
