use Rattle.std.proofs.Common.{ap, ◌∙◌}
use Rattle.std.specs.Ordering.{nat_cmp}
use Rattle.std.specs.BTreeMap.{get}
use Rattle.r_edit.specs.Numbering.{number_among}
use Rattle.r_edit.proofs.Found.{copied-by-found}
use Rattle.r_edit.proofs.numbered.copy_numbered.Goals as goal

pub returns-clause-copy : goal.returns-clause-copy
returns-clause-copy c =
    c.in_ok-copy_region.ensures
    ∙ copied-by-found (get nat_cmp c.in_ok-numbers.numbers) c.args.next c.args.region.now c.requires.closed
    (λ n. c.in_ok-numbers.ensures n ∙ ap (λ ids. number_among c.args.next ids n) (c.deref.ensures.value ∙ c.in_ok-ids.ensures))
