-- The text of a branch where a value is not zero: its three parts put together.
use Rattle.std.proofs.Common.{◌++◌, [], ◌∷◌, ℕ, List, ap, sym, ◌∙◌, append_assoc, codes}
use Rattle.std.proofs.lemmas.Result.{on_ok_weaker}
use Rattle.s_linear.specs.Views.{line_of}
use Rattle.s_linear.specs.Texts.{label_text, line_text, names_text}
use Rattle.s_linear.proofs.lines.push_line.Goals as goal

pub returns-in-BranchNotZero : goal.returns-in-BranchNotZero
returns-in-BranchNotZero c =
    let before = c.args.out.now.items in
    let word = codes "BranchNotZero" in
    let name = names_text (c.in-BranchNotZero.predicate ∷ []) in
    let to = label_text c.in-BranchNotZero.label in
    on_ok_weaker c.push_branch.result
    (λ written. written ∙ ap (λ (xs : List ℕ). xs ++ to) (append_assoc before word name) ∙ append_assoc before (word ++ name) to
    ∙ ap (λ l. before ++ line_text (line_of l)) (sym c.in-BranchNotZero.is))
    c.push_branch.ensures
