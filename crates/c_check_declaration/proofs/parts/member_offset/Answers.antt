use Rattle.std.proofs.Common.{sym}
use Rattle.c_check_declaration.proofs.PartLemmas.{offset-past, members-defined}
use Rattle.c_check_declaration.proofs.parts.member_offset.Goals as goal

pub returns-else-has_member : goal.returns-else-has_member
returns-else-has_member c =
    sym (offset-past c.args.types.now c.args.tag c.args.index (λ l.
    let is = c.has_member.ensures.1 (members-defined c.args.types.now c.args.tag c.args.index l, l) in
    let not = c.if-has_member.false in
    cc))
