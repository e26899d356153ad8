use Rattle.std.proofs.Common.{◌≡◌, take}
use Rattle.c_ast.specs.Externals.{more_members as member_trees}
use Rattle.c_check_def.specs.Externals.{more_member}
use Rattle.c_check.proofs.members.more_member.Given as goal

abbrev pub invariant-loop-next : goal.invariant-loop-next
invariant-loop-next l = record {
  members : l.out ≡ (more_member l.x l.fn.out (member_trees (take l.next-index l.more)) l.fn.state).0;
  state : l.state ≡ (more_member l.x l.fn.out (member_trees (take l.next-index l.more)) l.fn.state).1;
}
