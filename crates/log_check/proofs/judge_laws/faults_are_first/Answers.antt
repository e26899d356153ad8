use Rattle.log_check.proofs.CertifiedOrFaulty.{certified_or_faulty}
use Rattle.log_check.proofs.OneFault.{one_judge_fault, certified_have_no_fault}
use Rattle.log_check.proofs.judge_laws.faults_are_first.Goals as goal

pub returns-clause-one : goal.returns-clause-one
returns-clause-one c =
    one_judge_fault c.texts_have_one_reading.ensures c.texts_break_at_one_line.ensures.one c.texts_break_at_one_line.ensures.none c.faults_are_first.ensures.one c.faults_are_first.ensures.none
    c.faults_are_first.ensures.unique c.the_program_is_determined.ensures c.the_fault_is_determined.ensures c.accepted_is_not_refused.ensures

pub returns-clause-none : goal.returns-clause-none
returns-clause-none c =
    certified_have_no_fault c.texts_have_one_reading.ensures c.texts_break_at_one_line.ensures.one c.texts_break_at_one_line.ensures.none c.faults_are_first.ensures.one
    c.faults_are_first.ensures.none c.faults_are_first.ensures.unique c.the_program_is_determined.ensures c.accepted_is_not_refused.ensures

pub returns-clause-some : goal.returns-clause-some
returns-clause-some c = certified_or_faulty c.accepted_or_refused.ensures c.texts_break_at_one_line.ensures.some c.faults_are_first.ensures.some
