use Rattle.std.proofs.Common.{◌≡◌, suc, length, Some, sym, ap, ◌∙◌}
use Rattle.c_type.specs.Trees.{array_of}
use Rattle.c_ast.specs.Declarations.{init_tree, inits}
use Rattle.c_ast.proofs.lemmas.InitViews.{tree-Value}
use Rattle.c_check_def.specs.Initialisers.{completed_by, character_array, count_in}
use Rattle.c_check_declaration.proofs.CompletedLemmas.{completed-list}
use Rattle.c_check_declaration.proofs.InitLemmas.{count-inits}
use Rattle.c_check_declaration.proofs.completed.completed_array.Goals as goal

pub returns-in_ok-count_in-in-List : goal.returns-in_ok-count_in-in-List
returns-in_ok-count_in-in-List c =
    let of = c.args.of.now in
    let m = character_array (array_of of 0) in
    let first = c.in-List.first in
    let more = c.in-List.more in
    let counted : inits init_tree c.get.result.now c.as_slice.result.now ≡ inits init_tree first more =
    ap (λ x. inits init_tree x c.as_slice.result.now) c.get.ensures ∙ ap (inits init_tree first) c.as_slice.ensures in
    let n : suc (length more) ≡ c.in_ok-count_in-in-List.field-0 =
    sym (count-inits init_tree first more) ∙ sym (ap count_in counted) ∙ sym c.in_ok-count_in-in-List.ensures in
    let is : completed_by (init_tree c.args.init.now) of m ≡ Some (array_of of c.in_ok-count_in-in-List.field-0) =
    ap (λ x. completed_by (init_tree x) of m) c.in-List.is
    ∙ completed-list c.in-List.open first more c.in-List.comma c.in-List.close of m ∙ ap (λ k. Some (array_of of k)) n in
    rw is c.array.ensures

pub returns-in_ok-text_count-in-Value : goal.returns-in_ok-text_count-in-Value
returns-in_ok-text_count-in-Value c =
    let of = c.args.of.now in
    let m = character_array (array_of of 0) in
    let is : completed_by (init_tree c.args.init.now) of m ≡ Some (array_of of c.in_ok-text_count-in-Value.field-0) =
    ap (λ x. completed_by x of m) (ap init_tree c.in-Value.is ∙ tree-Value c.in-Value.e) ∙ c.in_ok-text_count-in-Value.ensures in
    rw is c.array-in-Value.ensures
