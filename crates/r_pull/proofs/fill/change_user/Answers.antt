use Rattle.std.proofs.Common.{ap, sym, ◌∙◌, arith}
use Rattle.g_graph.specs.Plain.{nodes_of}
use Rattle.r_pull.specs.Edit.{user_index, taking}
use Rattle.r_pull.proofs.Found.{user-at, none-used}
use Rattle.r_pull.proofs.fill.change_user.Goals as goal

pub index_mut-requires : goal.index_mut-requires
index_mut-requires c =
    let found = ap (λ xs. user_index c.args.id 0 (nodes_of xs)) (sym c.deref.ensures.value) ∙ sym c.user_index.ensures ∙ c.in-Some.is in
    let bound = (user-at c.args.id c.in-Some.index c.args.nodes.now.items found).bound in
    omega (arith, bound, c.args.nodes.now.ok.0)

pub take-requires : goal.take-requires
take-requires c =
    let found = ap (λ xs. user_index c.args.id 0 (nodes_of xs)) (sym c.deref.ensures.value) ∙ sym c.user_index.ensures ∙ c.in-Some.is in
    c.requires c.index_mut.result.now ((user-at c.args.id c.in-Some.index c.args.nodes.now.items found).first c.index_mut.result.now c.index_mut.ensures.value)

pub returns-in-Some : goal.returns-in-Some
returns-in-Some c =
    let found = ap (λ xs. user_index c.args.id 0 (nodes_of xs)) (sym c.deref.ensures.value) ∙ sym c.user_index.ensures ∙ c.in-Some.is in
    (user-at c.args.id c.in-Some.index c.args.nodes.now.items found).changed (taking c.args.plan) c.index_mut.result.now c.take.new.user c.index_mut.ensures.value c.take.ensures

pub returns-in-None : goal.returns-in-None
returns-in-None c =
    sym (none-used c.args.id (taking c.args.plan) c.args.nodes.now.items (ap (λ xs. user_index c.args.id 0 (nodes_of xs)) (sym c.deref.ensures.value) ∙ sym c.user_index.ensures ∙ c.in-None.is))
