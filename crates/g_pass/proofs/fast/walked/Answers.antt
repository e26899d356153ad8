-- What a walk makes is what the sweep makes, and well formed.
use Rattle.std.proofs.Common.{map}
use Rattle.std.specs.Arc.{arc_value}
use Rattle.r_rule.specs.declared.steps.Rule.TheVariants.{Fold, Push, Pull, Unroll, Invert}
use Rattle.g_graph.specs.Ids.{region_ids}
use Rattle.g_pass_def.specs.Answers.{lambdas_of}
use Rattle.g_pass_def.specs.Sweep.{in_order}
use Rattle.g_pass.specs.Sweep.{rules}
use Rattle.g_pass.proofs.FastSweeps.{of_rule_alone, of_calls, walk_keeps}
use Rattle.g_pass.proofs.fast.walked.Goals as goal

pub returns-in-Fold-clause-ok : goal.returns-in-Fold-clause-ok
returns-in-Fold-clause-ok c =
    of_rule_alone c.sweep_fast.result c.args.rule Fold (lambdas_of (map arc_value c.args.callees.now)) c.args.lambda c.args.log.now.items c.sweep_fast.new.log.items c.in-Fold.is
    (λ e. absurd cc) c.sweep_fast.ensures.ok

pub returns-in-Fold-clause-kept : goal.returns-in-Fold-clause-kept
returns-in-Fold-clause-kept c =
    walk_keeps c.sweep_fast.result Fold c.rules_keep.ensures (region_ids c.args.lambda.body) c.args.lambda c.args.log.now.items c.sweep_fast.new.log.items c.requires.well_formed
    c.sweep_fast.ensures.ok

pub returns-in-Push-clause-ok : goal.returns-in-Push-clause-ok
returns-in-Push-clause-ok c =
    of_rule_alone c.sweep_fast-in-Push.result c.args.rule Push (lambdas_of (map arc_value c.args.callees.now)) c.args.lambda c.args.log.now.items c.sweep_fast-in-Push.new.log.items c.in-Push.is
    (λ e. absurd cc) c.sweep_fast-in-Push.ensures.ok

pub returns-in-Push-clause-kept : goal.returns-in-Push-clause-kept
returns-in-Push-clause-kept c =
    walk_keeps c.sweep_fast-in-Push.result Push c.rules_keep.ensures (region_ids c.args.lambda.body) c.args.lambda c.args.log.now.items c.sweep_fast-in-Push.new.log.items c.requires.well_formed
    c.sweep_fast-in-Push.ensures.ok

pub returns-in-Pull-clause-ok : goal.returns-in-Pull-clause-ok
returns-in-Pull-clause-ok c =
    of_rule_alone c.sweep_fast-in-Pull.result c.args.rule Pull (lambdas_of (map arc_value c.args.callees.now)) c.args.lambda c.args.log.now.items c.sweep_fast-in-Pull.new.log.items c.in-Pull.is
    (λ e. absurd cc) c.sweep_fast-in-Pull.ensures.ok

pub returns-in-Pull-clause-kept : goal.returns-in-Pull-clause-kept
returns-in-Pull-clause-kept c =
    walk_keeps c.sweep_fast-in-Pull.result Pull c.rules_keep.ensures (in_order rules Pull (region_ids c.args.lambda.body)) c.args.lambda c.args.log.now.items c.sweep_fast-in-Pull.new.log.items c.requires.well_formed
    c.sweep_fast-in-Pull.ensures.ok

pub returns-in-Unroll-clause-ok : goal.returns-in-Unroll-clause-ok
returns-in-Unroll-clause-ok c =
    of_rule_alone c.sweep_fast-in-Unroll.result c.args.rule Unroll (lambdas_of (map arc_value c.args.callees.now)) c.args.lambda c.args.log.now.items c.sweep_fast-in-Unroll.new.log.items c.in-Unroll.is
    (λ e. absurd cc) c.sweep_fast-in-Unroll.ensures.ok

pub returns-in-Unroll-clause-kept : goal.returns-in-Unroll-clause-kept
returns-in-Unroll-clause-kept c =
    walk_keeps c.sweep_fast-in-Unroll.result Unroll c.rules_keep.ensures (region_ids c.args.lambda.body) c.args.lambda c.args.log.now.items c.sweep_fast-in-Unroll.new.log.items c.requires.well_formed
    c.sweep_fast-in-Unroll.ensures.ok

pub returns-in-Invert-clause-ok : goal.returns-in-Invert-clause-ok
returns-in-Invert-clause-ok c =
    of_rule_alone c.sweep_fast-in-Invert.result c.args.rule Invert (lambdas_of (map arc_value c.args.callees.now)) c.args.lambda c.args.log.now.items c.sweep_fast-in-Invert.new.log.items
    c.in-Invert.is (λ e. absurd cc) c.sweep_fast-in-Invert.ensures.ok

pub returns-in-Invert-clause-kept : goal.returns-in-Invert-clause-kept
returns-in-Invert-clause-kept c =
    walk_keeps c.sweep_fast-in-Invert.result Invert c.rules_keep.ensures (region_ids c.args.lambda.body) c.args.lambda c.args.log.now.items c.sweep_fast-in-Invert.new.log.items
    c.requires.well_formed c.sweep_fast-in-Invert.ensures.ok

pub returns-in-Inline-clause-ok : goal.returns-in-Inline-clause-ok
returns-in-Inline-clause-ok c =
    of_calls c.sweep_fast-in-Inline.result c.args.rule (lambdas_of (map arc_value c.args.callees.now)) c.args.lambda c.args.log.now.items c.sweep_fast-in-Inline.new.log.items c.in-Inline.is
    c.sweep_fast-in-Inline.ensures.ok
