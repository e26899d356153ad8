use Rattle.cc_source.proofs.CheckedFew.{checked_have_few_groups}
use Rattle.cc_source.proofs.accepted_laws.checked_have_few_groups.Goals as goal

pub returns : goal.returns
returns c =
    checked_have_few_groups c.tokens_are_longest.ensures c.tokens_are_in_range.ensures (record { widths = c.alignment_is_width.ensures; members = c.member_is_within.ensures })
