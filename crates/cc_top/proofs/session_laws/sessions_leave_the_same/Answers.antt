use Rattle.cc_top.proofs.SessionLaws as laws
use Rattle.cc_top.proofs.session_laws.sessions_leave_the_same.Goals as goal

pub returns : goal.returns
returns c =
    laws.sessions_leave_the_same c.the_rest_is_not_read.ensures c.the_program_is_determined.ensures c.orders_are_unique.ensures.unique c.the_image_is_determined.ensures.one
    c.the_fault_is_determined.ensures c.accepted_is_not_refused.ensures
