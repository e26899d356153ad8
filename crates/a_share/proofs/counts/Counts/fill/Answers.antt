use Rattle.std.proofs.Common.{◌≡◌, ◌*◌, ◌∙◌, sym, vec_len}
use Rattle.a_share.specs.declared.counts.Counts.{Counts}
use Rattle.a_share.proofs.Counting.{empty_between, filled_items, none_between, none_filled}
use Rattle.a_share.proofs.counts.Counts.fill.Goals as goal

pub returns-in_ok-resize-clause-filled : goal.returns-in_ok-resize-clause-filled
returns-in_ok-resize-clause-filled c =
    let old = c.args.self.now in
    let new : Counts = record { sums = c.resize.new.self; size = old.size; total = old.total } in
    let none : vec_len old.sums ≡ 0 = c.requires.none c.if-self-eq0.true in
    none_filled new (filled_items old.sums.items new.sums.items (vec_len old.sums) (2 * old.size) (sym old.sums.ok.0) none c.in_ok-resize.ensures.items) c.in_ok-resize.ensures.len c.if-self-eq0.true

pub returns-in_ok-resize-clause-same : goal.returns-in_ok-resize-clause-same
returns-in_ok-resize-clause-same c = λ l r.
    let old = c.args.self.now in
    let new : Counts = record { sums = c.resize.new.self; size = old.size; total = old.total } in
    let none : vec_len old.sums ≡ 0 = c.requires.none c.if-self-eq0.true in
    none_between new (filled_items old.sums.items new.sums.items (vec_len old.sums) (2 * old.size) (sym old.sums.ok.0) none c.in_ok-resize.ensures.items) l r ∙ sym (empty_between old none l r)
