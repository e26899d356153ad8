use Rattle.std.proofs.Common.{◌≡◌, ◌+◌, suc, arith, ap, ◌∙◌}
use Rattle.std.specs.Prelude.{is_some}
use Rattle.g_graph.specs.declared.op.Origin.TheVariants.{Arg}
use Rattle.g_arena_def.specs.Flat.{Flat}
use Rattle.g_arena_def.specs.Reads.{found, result_at, kind_in, uses_in}
use Rattle.g_arena_def.specs.Edits.{result_removed, argument_removed, input_removed}
use Rattle.r_dne.proofs.VariableGoes.{result_there, argument_there, argument_unused, input_there}
use Rattle.r_dne.proofs.theta_sweep.remove_variable.Goals as goal

pub remove_output-requires : goal.remove_output-requires
remove_output-requires g c =
    let h = c.requires.variable in (h.node, h.there, h.output, h.unused)

pub remove_result-requires : goal.remove_result-requires
remove_result-requires g c =
    let one : c.args.index + 1 ≡ suc c.args.index = omega arith in
    (λ i. is_some (result_at (c.place_in-inner.ensures i) (one i) (c.remove_output.ensures.removed i))) ∙ result_there c.args.node c.args.index c.args.arena.now c.requires.variable

pub remove_argument-requires-clause-there : goal.remove_argument-requires-clause-there
remove_argument-requires-clause-there g c =
    let one : c.args.index + 1 ≡ suc c.args.index = omega arith in
    let two = c.remove_result.ensures.removed ∙ (λ i. result_removed (c.place_in-inner.ensures i) (one i) (c.remove_output.ensures.removed i)) in
    (λ i. is_some (kind_in (c.place_in-inner.ensures i) (Arg c.args.index) (two i))) ∙ argument_there c.args.node c.args.index c.args.arena.now c.requires.variable

pub remove_argument-requires-clause-unused : goal.remove_argument-requires-clause-unused
remove_argument-requires-clause-unused g c =
    let one : c.args.index + 1 ≡ suc c.args.index = omega arith in
    let two = c.remove_result.ensures.removed ∙ (λ i. result_removed (c.place_in-inner.ensures i) (one i) (c.remove_output.ensures.removed i)) in
    (λ i. uses_in (c.place_in-inner.ensures i) (Arg c.args.index) (two i)) ∙ argument_unused c.args.node c.args.index c.args.arena.now c.requires.variable

pub remove_input-requires : goal.remove_input-requires
remove_input-requires g c =
    let one : c.args.index + 1 ≡ suc c.args.index = omega arith in
    let two = c.remove_result.ensures.removed ∙ (λ i. result_removed (c.place_in-inner.ensures i) (one i) (c.remove_output.ensures.removed i)) in
    let three = c.remove_argument.ensures.removed ∙ (λ i. argument_removed (c.place_in-inner.ensures i) c.args.index (two i)) in
    let t = input_there c.args.node c.args.index c.args.arena.now c.requires.variable in
    (t.0, ap (λ (a : Flat). found c.args.node a.nodes) three ∙ t.1, t.2)

pub returns-clause-gone : goal.returns-clause-gone
returns-clause-gone g c =
    let one : c.args.index + 1 ≡ suc c.args.index = omega arith in
    let two = c.remove_result.ensures.removed ∙ (λ i. result_removed (c.place_in-inner.ensures i) (one i) (c.remove_output.ensures.removed i)) in
    let three = c.remove_argument.ensures.removed ∙ (λ i. argument_removed (c.place_in-inner.ensures i) c.args.index (two i)) in
    c.remove_input.ensures.removed ∙ ap (input_removed c.args.node c.args.index) three
