use Rattle.std.proofs.Common.{◌≡◌, [], drop, map, sym, ap, ◌∙◌, arith, drop_of_length-le}
use Rattle.g_graph.specs.Plain.{nodes_of}
use Rattle.g_graph.specs.Scope.{known}
use Rattle.g_graph.specs.WellFormed.{are, kinds_of}
use Rattle.g_graph.proofs.KindLemmas.{are_none}
use Rattle.g_graph.proofs.kind_lists.match_known.Goals as goal

pub returns : goal.returns
returns c =
    let f = known c.args.args.now (nodes_of c.args.before.now) in
    let g = known c.args.other_args.now (nodes_of c.args.other.now) in
    let none : drop c.loop-origin.origin-index c.args.wanted.now ≡ [] = drop_of_length-le c.args.wanted.now c.loop-origin-test.false in
    sym (are_none f c.args.origins.now c.loop-origin.index (omega arith))
    ∙ ap (λ ws. are (map f (drop c.loop-origin.index c.args.origins.now)) (kinds_of (map g ws))) (sym none)
    ∙ c.loop-origin.invariant.0
