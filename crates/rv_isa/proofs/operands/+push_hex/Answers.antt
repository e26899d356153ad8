use Rattle.std.proofs.Common.{◌∷◌, ◌++◌, ◌<◌, ◌≤◌, ◌/◌, ◌%◌, ◌-◌, ℕ, List, [], ap, sym, ◌∙◌, append_assoc, arith}
use Rattle.std.proofs.lemmas.Result.{on_ok_weaker}
use Rattle.rv_isa.specs.Texts.{hex, hex_digit}
use Rattle.rv_isa.proofs.Hex.{hex_more}
use Rattle.rv_isa.proofs.operands.+push_hex.Goals as goal

pub returns : goal.returns
returns t c =
    let before = c.args.out.now.items in
    let n = c.args.number in
    let last = hex_digit (n % 16) ∷ [] in
    let some : 0 < c.args.digits = omega arith in
    let high : 16 ≤ n = omega arith in
    on_ok_weaker c.push_digit-2.result
    (λ e. e ∙ (ap (λ (xs : List ℕ). xs ++ last) c.in_ok-push_hex.ensures
    ∙ (append_assoc before (hex (c.args.digits - 1) (n / 16)) last ∙ ap (λ (xs : List ℕ). before ++ xs) (sym (hex_more c.args.digits n some high)))))
    c.push_digit-2.ensures
