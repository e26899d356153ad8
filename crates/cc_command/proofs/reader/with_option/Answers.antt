use Rattle.std.proofs.Common.{◌≡◌, ◌∙◌, ◌||◌, false, ap₂, rules}
use Rattle.std.proofs.lemmas.Result.{IfOk-weaker}
use Rattle.cc_command.proofs.reader.with_option.Goals as goal

pub returns-clause-globals : goal.returns-clause-globals
returns-clause-globals c =
    let optional : c.long.result.global ≡ false = search rules in
    IfOk-weaker c.arg.result _ _ (λ m added none. added.globals ∙ ap₂ (λ a b. a || b) none optional) c.arg.ensures
