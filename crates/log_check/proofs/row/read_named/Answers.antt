use Rattle.std.specs.Prelude.{ℕ, List, length}
use Rattle.std.proofs.Common.{◌≡◌, ◌≤◌, sym, subst}
use Rattle.base.specs.Limits.{most_name_bytes}
use Rattle.c_lex.specs.Grammar.{IsIdentifier}
use Rattle.log_check.proofs.Maybe.{on_none}
use Rattle.log_check.proofs.Words.{no_name_first, no_name_second}
use Rattle.log_check.proofs.row.read_named.Goals as goal

pub returns-in_err-before-clause-none : goal.returns-in_err-before-clause-none
returns-in_err-before-clause-none c =
    on_none _ c.from_residual-in_err-before.result
    (λ r head.
    no_name_second c.args.text.now c.in_ok-name.name.now c.in_ok-name.numbers.now r c.in_ok-name.ensures.parts c.in_ok-name.ensures.first head
    (c.in_err-before.ensures.none r.before r.after head.before head.after))

pub returns-else-is_name-clause-none : goal.returns-else-is_name-clause-none
returns-else-is_name-clause-none c r head e =
    no_name_first c.args.text.now c.in_ok-name.name.now c.in_ok-name.numbers.now r c.in_ok-name.ensures.parts c.in_ok-name.ensures.first head
    (λ (same : c.in_ok-name.name.now ≡ r.name).
    c.is_name.ensures.no c.if-is_name.false (subst IsIdentifier (sym same) head.name) (subst (λ (n : List ℕ). length n ≤ most_name_bytes) (sym same) head.short)) e
