-- The node's word is noted where its number is new.
use Rattle.std.specs.Prelude.{nat_eq}
use Rattle.std.proofs.Common.{◌≡◌, cond, None, Some, option_map, sym, ap, subst, ◌∙◌}
use Rattle.std.specs.HashMap.{get}
use Rattle.g_graph.specs.Nodes.{node_at, const_word}
use Rattle.g_graph.specs.Plain.{NodeTree, node, no_nodes, node_then, regions_of}
use Rattle.g_graph.specs.Splice.{joined_nodes}
use Rattle.r_walk.proofs.Tables.{none_there, some_there, first_noted, later_noted}
use Rattle.r_walk.proofs.words.Words.note.Goals as goal

pub returns-in_ok-insert : goal.returns-in_ok-insert
returns-in_ok-insert c = λ before words n.
    let i = c.node.inside in
    let x : NodeTree = node i.id i.op i.inputs.items (regions_of i.regions.items) in
    let none : get nat_eq c.args.self.now.words i.id ≡ None = none_there (get nat_eq c.args.self.now.words i.id) (sym c.contains_key.ensures ∙ c.if-not-contains_key.true) in
    subst (λ y. get nat_eq c.insert.new.self n ≡ option_map const_word (node_at n (joined_nodes before (node_then y no_nodes)))) c.node.view_is
    (first_noted before x (get nat_eq c.args.self.now.words) words (get nat_eq c.insert.new.self) none
    (λ k. c.in_ok-insert.ensures.updates.0 k ∙ ap (λ w. cond (nat_eq i.id k) (Some w) (get nat_eq c.args.self.now.words k)) (c.const_word.ensures ∙ ap const_word (sym c.node.view_is))) n)

pub returns-else-not-contains_key : goal.returns-else-not-contains_key
returns-else-not-contains_key c = λ before words n.
    let i = c.node.inside in
    let x : NodeTree = node i.id i.op i.inputs.items (regions_of i.regions.items) in
    let some = some_there (get nat_eq c.args.self.now.words i.id) (sym c.contains_key.ensures ∙ c.if-not-contains_key.false) in
    subst (λ y. get nat_eq c.args.self.now.words n ≡ option_map const_word (node_at n (joined_nodes before (node_then y no_nodes)))) c.node.view_is
    (later_noted before x (get nat_eq c.args.self.now.words) words some.0 some.1 n)
