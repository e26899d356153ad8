-- The walk is the sweep, and what it makes is well formed.
use Rattle.std.proofs.Common.{◌≡◌, ℕ, map, sym, ap, subst, ◌∙◌}
use Rattle.std.proofs.lemmas.Result.{IfOk-weaker}
use Rattle.std.specs.Arc.{arc_value}
use Rattle.std.specs.Prelude.{IfOk}
use Rattle.std.specs.Ordering.{nat_cmp}
use Rattle.std.specs.BTreeMap.{get}
use Rattle.g_graph.specs.Ids.{region_ids}
use Rattle.g_graph.specs.WellFormed.{IsWellFormed}
use Rattle.r_inline.specs.Callees.{inline_change}
use Rattle.r_sweep_def.specs.Swept.{Logged}
use Rattle.r_inline.specs.AskedAt.{lambdas_in, callee_at}
use Rattle.r_inline.proofs.AskedAt.{walk_is_sweep, sweep_keeps}
use Rattle.r_inline.proofs.sweep.sweep_fast.Goals as goal

pub returns-in-Ok-clause-ok : goal.returns-in-Ok-clause-ok
returns-in-Ok-clause-ok c =
    let ls = lambdas_in (map arc_value c.args.callees.now) in
    let start : Logged = record { lambda = c.args.lambda; steps = c.args.log.now.items } in
    let same =
    walk_is_sweep ls c.walks_are_sweeps.ensures c.inline_is_local.ensures c.in-Ok.ensures.well_formed start c.requires.well_formed
    (λ (f : ℕ). callee_at ls (get nat_cmp c.in-Ok.first f)) c.in-Ok.ensures.first in
    subst (λ (z : Logged). IfOk c.walk.result (λ made. record { lambda = made; steps = c.walk.new.log.items } ≡ z)) same c.walk.ensures.ok

pub returns-in-Ok-clause-kept : goal.returns-in-Ok-clause-kept
returns-in-Ok-clause-kept c =
    let ls = lambdas_in (map arc_value c.args.callees.now) in
    let start : Logged = record { lambda = c.args.lambda; steps = c.args.log.now.items } in
    let same =
    walk_is_sweep ls c.walks_are_sweeps.ensures c.inline_is_local.ensures c.in-Ok.ensures.well_formed start c.requires.well_formed
    (λ (f : ℕ). callee_at ls (get nat_cmp c.in-Ok.first f)) c.in-Ok.ensures.first in
    IfOk-weaker c.walk.result _ IsWellFormed
    (λ made e. subst IsWellFormed (sym (ap (λ (z : Logged). z.lambda) (e ∙ same)))
    (sweep_keeps (inline_change ls) (c.inline_is_local.ensures ls c.in-Ok.ensures.well_formed).keeps (region_ids c.args.lambda.body) start c.requires.well_formed)) c.walk.ensures.ok
