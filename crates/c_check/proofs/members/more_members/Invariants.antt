use Rattle.std.proofs.Common.{◌≡◌, take}
use Rattle.c_check_def.specs.Externals.{more_members}
use Rattle.c_check.specs.Structs.{members_trees}
use Rattle.c_check.proofs.members.more_members.Given as goal

abbrev pub invariant-loop-x : goal.invariant-loop-x
invariant-loop-x l = record {
  members : l.out ≡ (more_members l.fn.out (members_trees (take l.x-index l.more)) l.fn.state).0;
  state : l.state ≡ (more_members l.fn.out (members_trees (take l.x-index l.more)) l.fn.state).1;
}
