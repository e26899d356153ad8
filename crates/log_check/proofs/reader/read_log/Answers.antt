use Rattle.std.proofs.Common.{◌≡◌, ◌+◌, ◌++◌, ◌∷◌, [], length, sym, subst, rules, arith}
use Rattle.log_check.proofs.ReadSoFar.{HasRead, reads_more, lines_fit}
use Rattle.log_check.proofs.reader.read_log.Goals as goal

pub overflow_cast-line : goal.overflow_cast-line
overflow_cast-line c =
    let count : c.len.result ≡ length c.in_ok-part.part.steps = search rules in
    let fit =
    lines_fit c.args.bytes.now c.loop-rest.log c.loop-rest.line c.loop-rest.rest.now c.in_ok-part.after.now c.in_ok-part.part c.loop-rest.invariant
    c.in_ok-part.ensures.some in
    omega (arith, fit, count)

pub overflow_add-line : goal.overflow_add-line
overflow_add-line c =
    let count : c.len.result ≡ length c.in_ok-part.part.steps = search rules in
    let fit =
    lines_fit c.args.bytes.now c.loop-rest.log c.loop-rest.line c.loop-rest.rest.now c.in_ok-part.after.now c.in_ok-part.part c.loop-rest.invariant
    c.in_ok-part.ensures.some in
    omega (arith, fit, count)

pub overflow_add-line-in-loop-rest : goal.overflow_add-line-in-loop-rest
overflow_add-line-in-loop-rest c =
    let count : c.len.result ≡ length c.in_ok-part.part.steps = search rules in
    let fit =
    lines_fit c.args.bytes.now c.loop-rest.log c.loop-rest.line c.loop-rest.rest.now c.in_ok-part.after.now c.in_ok-part.part c.loop-rest.invariant
    c.in_ok-part.ensures.some in
    omega (arith, fit, count)

pub loop-rest-preserved : goal.loop-rest-preserved
loop-rest-preserved c =
    let count : c.len.result ≡ length c.in_ok-part.part.steps = search rules in
    let pushed : c.push.new.self ≡ c.loop-rest.log ++ c.in_ok-part.part ∷ [] = search rules in
    subst (λ l. HasRead c.args.bytes.now l (c.loop-rest.line + (1 + c.len.result)) c.in_ok-part.after.now) (sym pushed)
    (subst (λ n. HasRead c.args.bytes.now (c.loop-rest.log ++ c.in_ok-part.part ∷ []) (c.loop-rest.line + (1 + n)) c.in_ok-part.after.now) (sym count)
    (reads_more c.args.bytes.now c.loop-rest.log c.loop-rest.line c.loop-rest.rest.now c.in_ok-part.after.now c.in_ok-part.part c.loop-rest.invariant
    c.in_ok-part.ensures.some c.in_ok-part.ensures.fine c.in_ok-part.ensures.line c.in_ok-part.ensures.all))
