use Rattle.std.proofs.Common.{◌≡◌, ◌++◌, take, drop, sym, ap, ◌+◌, ◌∙◌, append_assoc}
use Rattle.std.proofs.lemmas.Iterator.{items_from_drains}
use Rattle.std.proofs.lemmas.Iterator.Adapters.{YieldsList-from_vec}
use Rattle.std.proofs.lemmas.List.{map-id}
use Rattle.g_graph.proofs.splicing.exchange.Goals as goal

pub returns-clause-ok : goal.returns-clause-ok
returns-clause-ok c =
    let given = c.in_ok-splice.ensures.items in
    let drained = given.3 in
    let from_replacement = YieldsList-from_vec {s = given.0} c.args.replacement.items given.2.0 (given.2.1 ∙ c.args.replacement.ok.0) in
    let same : given.1 ≡ c.args.replacement.items =
    sym (map-id given.1) ∙ items_from_drains given.1 (drained.1.0, drained.1.1, λ _. (drained.0, drained.1.2)) from_replacement in
    let front = take c.args.index c.args.nodes.now.items in
    let back = drop (c.args.index + 1) c.args.nodes.now.items in
    given.4 ∙ ap (λ ys. front ++ (ys ++ back)) same ∙ sym (append_assoc front c.args.replacement.items back)
