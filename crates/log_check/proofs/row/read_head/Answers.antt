use Rattle.std.specs.Prelude.{codes}
use Rattle.std.proofs.Common.{◌≡◌, sym, ◌∙◌, rules}
use Rattle.log_check.specs.Lines.{head_row}
use Rattle.log_check.proofs.Maybe.{some_more, none_more}
use Rattle.log_check.proofs.Splits.{not_same}
use Rattle.log_check.proofs.Words.{is_head, no_head_word, no_head_rest}
use Rattle.log_check.proofs.row.read_head.Goals as goal

pub returns-then-eq-clause-some : goal.returns-then-eq-clause-some
returns-then-eq-clause-some c =
    let word : c.in_ok-word.word.now ≡ codes "function" = search rules in
    some_more c.read_named.result _ _
    (λ head named.
    is_head c.args.line.now c.in_ok-word.word.now c.in_ok-word.rest.now (head_row head.name.now head.before head.after) c.in_ok-word.ensures.parts word named)
    c.read_named.ensures.some

pub returns-then-eq-clause-none : goal.returns-then-eq-clause-none
returns-then-eq-clause-none c =
    none_more c.read_named.result _ _
    (λ none r head. no_head_rest c.args.line.now c.in_ok-word.word.now c.in_ok-word.rest.now r c.in_ok-word.ensures.parts c.in_ok-word.ensures.first (none r head))
    c.read_named.ensures.none

pub returns-else-eq-clause-none : goal.returns-else-eq-clause-none
returns-else-eq-clause-none c r head =
    no_head_word c.args.line.now c.in_ok-word.word.now c.in_ok-word.rest.now r c.in_ok-word.ensures.parts c.in_ok-word.ensures.first
    (λ same. not_same c.in_ok-word.word.now c.as_slice.result.now c.if-eq.ensures (same ∙ sym c.as_slice.ensures))
