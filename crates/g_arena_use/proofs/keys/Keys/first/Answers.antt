-- What is kept for a key, and what is kept from now on.
use Rattle.std.proofs.Common.{ap, sym, ◌∙◌}
use Rattle.std.specs.Option.{option_copied}
use Rattle.g_arena_use.specs.declared.keys.Key.{Key}
use Rattle.g_arena_use.specs.contracts.keys.KeyPartialEq.TheImpl.{eq-value}
use Rattle.g_arena_use.specs.Kept.{kept_or, with_kept}
use Rattle.g_arena_use.proofs.KeyLemmas.{kept_is, same_is, new_is, more_is}
use Rattle.g_arena_use.proofs.TestLemmas.{key_test}
use Rattle.g_arena_use.proofs.keys.Keys.first.Goals as goal

pub returns-in-Some-clause-ok : goal.returns-in-Some-clause-ok
returns-in-Some-clause-ok g c =
    let key : Key = record { home = c.args.home; op = c.args.op; inputs = c.in_ok-inputs.inputs } in
    sym c.self.view_is
    ∙ same_is eq-value.it key_test key c.args.node c.in-Some.kept.now c.self.inside.nodes.entries c.in-Some.ensures.value
    ∙ (λ i. with_kept c.args.home c.args.op (c.in_ok-inputs.ensures.ok i) c.args.node (c.self.view_is i))

pub returns-in-Some-clause-node : goal.returns-in-Some-clause-node
returns-in-Some-clause-node g c =
    let key : Key = record { home = c.args.home; op = c.args.op; inputs = c.in_ok-inputs.inputs } in
    kept_is eq-value.it key_test key c.args.node c.in-Some.kept.now c.self.inside.nodes.entries c.in-Some.ensures.value
    ∙ (λ i. kept_or c.args.home c.args.op (c.in_ok-inputs.ensures.ok i) c.args.node (c.self.view_is i))

pub returns-clause-ok : goal.returns-clause-ok
returns-clause-ok g c =
    let key : Key = record { home = c.args.home; op = c.args.op; inputs = c.in_ok-inputs.inputs } in
    more_is eq-value.it key_test key c.args.node c.self.inside.nodes.entries c.insert.new.self.entries (sym (ap option_copied c.in_default.is) ∙ c.get.ensures.value) c.in_ok-insert.ensures.entries
    ∙ (λ i. with_kept c.args.home c.args.op (c.in_ok-inputs.ensures.ok i) c.args.node (c.self.view_is i))

pub returns-clause-node : goal.returns-clause-node
returns-clause-node g c =
    let key : Key = record { home = c.args.home; op = c.args.op; inputs = c.in_ok-inputs.inputs } in
    new_is eq-value.it key_test key c.args.node c.self.inside.nodes.entries (sym (ap option_copied c.in_default.is) ∙ c.get.ensures.value)
    ∙ (λ i. kept_or c.args.home c.args.op (c.in_ok-inputs.ensures.ok i) c.args.node (c.self.view_is i))
