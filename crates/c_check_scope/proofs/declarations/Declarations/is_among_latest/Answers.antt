use Rattle.std.proofs.Common.{◌-◌, ◌∙◌, ap}
use Rattle.std.specs.Prelude.{nat_le}
use Rattle.c_check_scope.proofs.lemmas.Latest.{among, among-none}
use Rattle.c_check_scope.proofs.declarations.Declarations.is_among_latest.Goals as goal

pub returns-in-Some-clause-value : goal.returns-in-Some-clause-value
returns-in-Some-clause-value g c =
    let all = c.self.inside.all in
    ap (λ n. nat_le (n - c.args.count) c.in-Some.index.now) (c.len.ensures ∙ all.ok.0)
    ∙ among _ all.items c.args.self.now c.args.name.now c.self.invariant c.self.view_is c.args.count c.requires c.in-Some.index.now c.in-Some.ensures.value

pub returns-in-None-clause-value : goal.returns-in-None-clause-value
returns-in-None-clause-value g c = among-none _ c.self.inside.all.items c.args.self.now c.args.name.now c.self.invariant c.self.view_is c.args.count c.requires c.in-None.ensures.value
