use Rattle.std.proofs.Common.{◌+◌, ◌∷◌, [], ◌%◌, length, ap, length-append, arith, append_assoc}
use Rattle.cc_report.proofs.Digits.{digits_text_step, digits_length_step}
use Rattle.cc_report.proofs.line.+push_digits.Goals as goal

pub push_digits-requires : goal.push_digits-requires
push_digits-requires t c =
    let shorter = digits_length_step c.args.n c.if-n-gt0.true in
    (omega arith, omega (arith, shorter, c.requires))

pub push-requires : goal.push-requires
push-requires t c =
    let shorter = digits_length_step c.args.n c.if-n-gt0.true in
    omega (arith, shorter, c.requires)

pub returns-then-n-gt0-clause-text : goal.returns-then-n-gt0-clause-text
returns-then-n-gt0-clause-text t c =
    let step = digits_text_step c.args.n c.if-n-gt0.true in
    grind (arith, append_assoc)

pub returns-then-n-gt0-clause-room : goal.returns-then-n-gt0-clause-room
returns-then-n-gt0-clause-room t c =
    let shorter = digits_length_step c.args.n c.if-n-gt0.true in
    omega (arith, shorter, ap length c.push.ensures, length-append c.push_digits.new.line ((48 + c.args.n % 10) ∷ []))
