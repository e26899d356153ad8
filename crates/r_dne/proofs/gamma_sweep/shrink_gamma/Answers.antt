use Rattle.std.proofs.Common.{◌≡◌, ◌-◌, suc, arith}
use Rattle.r_dne.proofs.GammaSteps.{some_input, has_entries, gamma_cost, stopped_arena, gamma_steps}
use Rattle.r_dne.proofs.gamma_sweep.shrink_gamma.Goals as goal

pub returns-in_err-noted-clause-looks : goal.returns-in_err-noted-clause-looks
returns-in_err-noted-clause-looks g c =
    let is : suc (c.in-Ok.inputs - 1) ≡ c.args.shape.inputs = omega (arith, some_input c.args.shape c.args.arena.now c.requires.whole c.requires.shape c.requires.gamma) in
    gamma_cost c.args.shape c.args.arena.now c.requires.whole c.requires.shape c.requires.gamma (c.in-Ok.inputs - 1) is c.args.looks.now c.shrink_exits.new.looks c.shrink_exits.new.looks
    c.in_err-noted.ensures.looks (omega arith)

pub overflow_sub-inputs : goal.overflow_sub-inputs
overflow_sub-inputs g c = omega (arith, some_input c.args.shape c.args.arena.now c.requires.whole c.requires.shape c.requires.gamma)

pub shrink_entries-requires : goal.shrink_entries-requires
shrink_entries-requires g c =
    let is : suc (c.in-Ok.inputs - 1) ≡ c.args.shape.inputs = omega (arith, some_input c.args.shape c.args.arena.now c.requires.whole c.requires.shape c.requires.gamma) in
    has_entries c.args.shape c.args.arena.now c.requires.whole c.requires.shape c.requires.gamma (c.in-Ok.inputs - 1) is c.shrink_exits.new.arena c.in_ok-noted.ensures.gone

pub returns-clause-step : goal.returns-clause-step
returns-clause-step g c =
    let is : suc (c.in-Ok.inputs - 1) ≡ c.args.shape.inputs = omega (arith, some_input c.args.shape c.args.arena.now c.requires.whole c.requires.shape c.requires.gamma) in
    gamma_steps c.args.shape c.args.arena.now c.requires.whole c.requires.shape c.requires.gamma (c.in-Ok.inputs - 1) is c.shrink_exits.new.arena c.shrink_entries.new.arena c.in_ok-noted.noted
    c.args.log.now.items c.shrink_exits.new.log.items c.shrink_entries.new.log.items c.in_ok-noted.ensures.gone c.in_ok-noted.ensures.noted c.in_ok-noted.ensures.log
    c.shrink_entries.result c.shrink_entries.ensures.gone c.shrink_entries.ensures.log

pub returns-clause-err_arena : goal.returns-clause-err_arena
returns-clause-err_arena g c =
    let is : suc (c.in-Ok.inputs - 1) ≡ c.args.shape.inputs = omega (arith, some_input c.args.shape c.args.arena.now c.requires.whole c.requires.shape c.requires.gamma) in
    stopped_arena c.args.shape c.args.arena.now c.requires.whole c.requires.shape c.requires.gamma (c.in-Ok.inputs - 1) is c.shrink_exits.new.arena c.shrink_entries.new.arena c.in_ok-noted.noted
    c.args.log.now.items c.shrink_exits.new.log.items c.shrink_entries.new.log.items c.in_ok-noted.ensures.gone c.in_ok-noted.ensures.noted c.in_ok-noted.ensures.log
    c.shrink_entries.result c.shrink_entries.ensures.err_noted c.shrink_entries.ensures.err_arena

pub returns-clause-looks : goal.returns-clause-looks
returns-clause-looks g c =
    let is : suc (c.in-Ok.inputs - 1) ≡ c.args.shape.inputs = omega (arith, some_input c.args.shape c.args.arena.now c.requires.whole c.requires.shape c.requires.gamma) in
    gamma_cost c.args.shape c.args.arena.now c.requires.whole c.requires.shape c.requires.gamma (c.in-Ok.inputs - 1) is c.args.looks.now c.shrink_exits.new.looks c.shrink_entries.new.looks
    c.in_ok-noted.ensures.looks c.shrink_entries.ensures.looks
