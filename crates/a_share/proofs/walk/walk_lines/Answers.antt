use Rattle.std.proofs.Common.{◌∙◌, ◌-◌, map, sym, ap}
use Rattle.std.proofs.lemmas.List.{length-map}
use Rattle.std.specs.BTreeSet.{contains}
use Rattle.std.specs.Ordering.{nat_cmp}
use Rattle.s_linear.specs.Views.{line_of}
use Rattle.a_share.proofs.Whole.{all_found}
use Rattle.a_share.proofs.walk.walk_lines.Goals as goal

pub returns-clause-walked : goal.returns-clause-walked
returns-clause-walked c =
    let set = c.in_ok-set.ensures in
    let back = c.in_ok-restore.ensures in
    let last = c.saturating_sub-end.ensures ∙ ap (λ z. z - 1) (sym (length-map c.args.lines.now line_of)) in
    all_found (map line_of c.args.lines.now) (contains nat_cmp c.in_ok-jumped.jumped) c.args.value c.saturating_sub-end.result c.in_ok-code.field-0 c.args.needs.now
    c.set.new.self c.code.new.needs c.restore.new.self c.stand.new.self last c.in_ok-jumped.ensures set.changes set.now set.depths set.copies c.in_ok-code.ensures.walked
    back.toggled back.depths back.copies c.stand.ensures.toggles c.stand.ensures.depths c.stand.ensures.copies
