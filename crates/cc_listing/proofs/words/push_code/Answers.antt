-- A word that is no instruction: its two parts put together.
use Rattle.std.proofs.Common.{◌++◌, ℕ, List, ap, sym, ◌∙◌, append_assoc, codes}
use Rattle.std.proofs.lemmas.Result.{on_ok_weaker}
use Rattle.cc_listing.specs.Words.{code_text, word_digits}
use Rattle.cc_listing.proofs.words.push_code.Goals as goal

pub returns-in_ok-push-in-None : goal.returns-in_ok-push-in-None
returns-in_ok-push-in-None c =
    let before = c.args.out.now.items in
    let digits = word_digits c.args.word in
    on_ok_weaker c.push_word.result
    (λ written. written
    ∙ ap (λ (xs : List ℕ). xs ++ digits) c.in_ok-push-in-None.ensures
    ∙ append_assoc before (codes ".4byte\t0x") digits
    ∙ ap (λ i. before ++ code_text c.args.word i) (sym c.in-None.is))
    c.push_word.ensures
