use Rattle.std.proofs.Common.{◌≡◌, ◌+◌, ◌++◌, ◌∷◌, [], take, sym, ap, ◌∙◌, arith}
use Rattle.std.proofs.lemmas.List.{take_more, append_assoc, append-nil}
use Rattle.c_ast.specs.Expressions.{next}
use Rattle.c_ast.specs.Externals.{param as param_tree}
use Rattle.c_ast.specs.Nodes.{many}
use Rattle.c_ast.specs.Productions as l
use Rattle.c_check_def.specs.Externals.{param, more_params}
use Rattle.c_check.proofs.ParamLemmas.{params-none, params-more}
use Rattle.c_check.proofs.parameters.more_params.Goals as goal

pub loop-next-init : goal.loop-next-init
loop-next-init c =
    let old = c.args.out.now.items in
    record {
      params = sym (append-nil old) ∙ ap (λ r. old ++ r.0) (sym (params-none c.args.state.now));
      state = ap (λ r. r.1) (sym (params-none c.args.state.now));
    }

pub loop-next-preserved : goal.loop-next-preserved
loop-next-preserved c =
    let i = c.loop-next.next-index in
    let xs = c.args.more.now in
    let x = c.next-item.result in
    let s = c.args.state.now in
    let old = c.args.out.now.items in
    let before = more_params (many l.MoreParams (next param_tree) (take i xs)) s in
    let grown : take (i + 1) xs ≡ take i xs ++ x ∷ [] = take_more xs i x (omega arith) ∙ ap (λ z. take i xs ++ z ∷ []) (sym c.next-item.is) in
    let all = ap (λ ys. more_params (many l.MoreParams (next param_tree) ys) s) grown ∙ params-more (take i xs) x s in
    let one = ap (λ t. param (param_tree x.element) t) c.loop-next.invariant.state in
    record {
      params =
          c.in_ok-push.ensures.items ∙ ap (λ ys. ys ++ c.in_ok-one.one ∷ []) c.loop-next.invariant.params
          ∙ append_assoc old before.0 (c.in_ok-one.one ∷ [])
          ∙ ap (λ ys. old ++ (before.0 ++ ys)) (c.in_ok-one.ensures.value ∙ ap (λ r. r.0) one)
          ∙ ap (λ r. old ++ r.0) (sym all);
      state = c.in_ok-one.ensures.state ∙ ap (λ r. r.1) one ∙ ap (λ r. r.1) (sym all);
    }
