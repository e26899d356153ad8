use Rattle.cc_top.proofs.BuildLaws.{one_build}
use Rattle.cc_top.proofs.build_laws.builds_leave_the_same_files.Goals as goal

pub returns : goal.returns
returns c = one_build c.the_program_is_determined.ensures c.the_image_is_determined.ensures.one
