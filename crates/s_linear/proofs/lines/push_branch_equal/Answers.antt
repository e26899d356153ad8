-- The text of a branch on equality: its five parts put together.
use Rattle.std.proofs.Common.{◌++◌, [], ◌∷◌, ℕ, List, ap, ◌∙◌, append_assoc, codes}
use Rattle.std.specs.Prelude.{decimal}
use Rattle.std.proofs.lemmas.Result.{on_ok_weaker}
use Rattle.s_linear.specs.Texts.{label_text, names_text}
use Rattle.s_linear.proofs.lines.push_branch_equal.Goals as goal

pub returns : goal.returns
returns c =
    let before = c.args.out.now.items in
    let word = codes "BranchEqual" in
    let name = names_text (c.args.predicate ∷ []) in
    let number = decimal c.args.number in
    on_ok_weaker c.push_label.result
    (λ written. written
    ∙ ap (λ (xs : List ℕ). xs ++ label_text c.args.label)
    (c.in_ok-push_number.ensures
    ∙ ap (λ (xs : List ℕ). xs ++ number)
    (c.in_ok-push.ensures
    ∙ ap (λ (xs : List ℕ). xs ++ codes " ") (c.in_ok-push_read.ensures ∙ append_assoc before word name)
    ∙ append_assoc before (word ++ name) (codes " "))
    ∙ append_assoc before (word ++ name ++ codes " ") number))
    c.push_label.ensures
