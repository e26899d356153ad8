use Rattle.std.proofs.Common.{◌≡◌, ◌+◌, ◌++◌, ◌∷◌, [], take, refl, sym, ap, ◌∙◌, arith}
use Rattle.std.proofs.lemmas.List.{take_more}
use Rattle.c_ast.specs.Declarations as trees
use Rattle.c_ast.specs.Expressions.{expr_tree}
use Rattle.c_ast.specs.Nodes.{opt}
use Rattle.c_ast.specs.Productions as l
use Rattle.c_check_def.specs.Declarators.{open_dimension, open_dimensions}
use Rattle.c_check_declaration.proofs.lemmas.Declarations.{dimensions-none, dimensions-more}
use Rattle.c_check_declaration.proofs.dimensions.open_dimensions.Goals as goal

pub loop-d-init : goal.loop-d-init
loop-d-init c = record {
  value = c.new-all.ensures.items ∙ ap (λ r. r.0) (sym (dimensions-none c.args.state.now));
  state = ap (λ r. r.1) (sym (dimensions-none c.args.state.now));
  keeps = (refl, refl);
}

pub loop-d-preserved : goal.loop-d-preserved
loop-d-preserved c =
    let i = c.loop-d.d-index in
    let xs = c.args.dimensions.now in
    let x = c.d-item.result in
    let s = c.args.state.now in
    let bound = opt l.Size (λ e. expr_tree e ∷ []) x.size in
    let grown : take (i + 1) xs ≡ take i xs ++ x ∷ [] = take_more xs i x (omega arith) ∙ ap (λ y. take i xs ++ y ∷ []) (sym c.d-item.is) in
    let all = ap (λ ys. open_dimensions (trees.open_dimensions ys) s) grown ∙ dimensions-more (take i xs) x s in
    let one = ap (λ r. open_dimension bound r) c.loop-d.invariant.state in
    record {
      value =
          c.in_ok-push.ensures.items ∙ ap (λ ys. ys ++ c.in_ok-open_dimension.field-0 ∷ []) c.loop-d.invariant.value
          ∙ ap (λ d. (open_dimensions (trees.open_dimensions (take i xs)) s).0 ++ d ∷ []) (c.in_ok-open_dimension.ensures.value ∙ ap (λ r. r.0) one)
          ∙ ap (λ r. r.0) (sym all);
      state = c.in_ok-open_dimension.ensures.state ∙ ap (λ r. r.1) one ∙ ap (λ r. r.1) (sym all);
      keeps =
          (c.in_ok-open_dimension.ensures.keeps.0 ∙ c.loop-d.invariant.keeps.0, c.in_ok-open_dimension.ensures.keeps.1 ∙ c.loop-d.invariant.keeps.1);
    }
