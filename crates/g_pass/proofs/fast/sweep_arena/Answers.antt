use Rattle.r_rule.specs.declared.steps.Rule.TheVariants.{Cne, Dne, Inv}
use Rattle.g_pass.proofs.FastSweeps.{of_rule_ok, of_rule_err}
use Rattle.g_pass.proofs.fast.sweep_arena.Goals as goal

pub returns-in-Cne-clause-ok : goal.returns-in-Cne-clause-ok
returns-in-Cne-clause-ok g c = λ l stands well. of_rule_ok c.sweep_fast.result c.args.rule Cne l _ _ _ c.in-Cne.is (c.sweep_fast.ensures.ok l stands well)

pub returns-in-Cne-clause-err : goal.returns-in-Cne-clause-err
returns-in-Cne-clause-err g c = λ l stands well. of_rule_err c.sweep_fast.result c.args.rule Cne l _ _ _ c.in-Cne.is (c.sweep_fast.ensures.err l stands well)

pub returns-in-Dne-clause-ok : goal.returns-in-Dne-clause-ok
returns-in-Dne-clause-ok g c = λ l stands well. of_rule_ok c.sweep_fast-in-Dne.result c.args.rule Dne l _ _ _ c.in-Dne.is (c.sweep_fast-in-Dne.ensures.ok l stands well)

pub returns-in-Dne-clause-err : goal.returns-in-Dne-clause-err
returns-in-Dne-clause-err g c = λ l stands well. of_rule_err c.sweep_fast-in-Dne.result c.args.rule Dne l _ _ _ c.in-Dne.is (c.sweep_fast-in-Dne.ensures.err l stands well)

pub returns-in-Inv-clause-ok : goal.returns-in-Inv-clause-ok
returns-in-Inv-clause-ok g c = λ l stands well. of_rule_ok c.sweep_fast-in-Inv.result c.args.rule Inv l _ _ _ c.in-Inv.is (c.sweep_fast-in-Inv.ensures.ok l stands well)

pub returns-in-Inv-clause-err : goal.returns-in-Inv-clause-err
returns-in-Inv-clause-err g c = λ l stands well. of_rule_err c.sweep_fast-in-Inv.result c.args.rule Inv l _ _ _ c.in-Inv.is (c.sweep_fast-in-Inv.ensures.err l stands well)
