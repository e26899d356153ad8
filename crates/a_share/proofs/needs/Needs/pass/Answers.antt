use Rattle.std.proofs.Common.{◌∙◌, refl, sym, ap}
use Rattle.s_linear.specs.Views.{instr_of}
use Rattle.s_linear.specs.Lines.{instr_names}
use Rattle.std.specs.Prelude.{drop}
use Rattle.a_place.specs.Share.{targets}
use Rattle.a_share.specs.Walk.{names_in}
use Rattle.a_share.proofs.Setting.{pass_some, pass_none}
use Rattle.a_share.proofs.needs.Needs.pass.Goals as goal
use Rattle.a_share.proofs.needs.Needs.pass.Goals.{in-Some+in_ok-set, in_default}

pub returns-clause-passed : goal.returns-clause-passed
returns-clause-passed c = λ b.
    let i = instr_of c.args.instr.now in
    let sources = drop (targets i) (instr_names i) in
    elim c.match-target_of.branch [
      | in-Some+in_ok-set w ↦
          pass_some i c.args.self.now w.set.new.self c.match-target_of.self c.set_sources.new.self c.args.bound w.in-Some.target sources w.self-is
          (sym (ap names_in w.in-Some.is) ∙ c.target_of.ensures) refl b w.in_ok-set.ensures.changes w.in_ok-set.ensures.now
          (λ low n. w.in_ok-set.ensures.cut low refl n) c.in_ok-set_sources.ensures.changes c.in_ok-set_sources.ensures.now
      | in_default w ↦
          pass_none i c.args.self.now c.match-target_of.self c.set_sources.new.self c.args.bound sources w.self-is
          w.in_default.ensures refl b c.in_ok-set_sources.ensures.changes c.in_ok-set_sources.ensures.now
    ]
