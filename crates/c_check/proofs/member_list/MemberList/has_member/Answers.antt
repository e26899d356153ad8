use Rattle.std.proofs.Common.{ap, ◌∙◌}
use Rattle.c_check_scope.specs.Names.{has_name}
use Rattle.c_check_def.specs.Externals.{has_member}
use Rattle.c_check.proofs.NameLemmas.{has-set}
use Rattle.c_check.proofs.member_list.MemberList.has_member.Goals as goal

pub returns : goal.returns
returns c =
    let name = c.args.name.now in
    c.contains.ensures ∙ ap (λ ns. has_name ns name) c.self.invariant ∙ has-set c.self.inside.members.items name ∙ ap (λ xs. has_member xs name) c.self.view_is
