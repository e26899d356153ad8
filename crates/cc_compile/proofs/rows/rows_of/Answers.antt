use Rattle.std.proofs.Common.{rules, ◌∷◌, ◌++◌, [], map, take, length, sym, ap, ◌∙◌, subst, ◌<◌, ◌^◌}
use Rattle.std.specs.Arc.{arc_value}
use Rattle.std.proofs.lemmas.List.{length_push}
use Rattle.std.proofs.lemmas.Slice.Zip.{zip_turn, zip_end}
use Rattle.r_rule.specs.Optimised.{PlainOptimised}
use Rattle.g_graph.specs.Program.{lambda_values}
use Rattle.cc_compile.specs.Compiled.{row_of, rows_of}
use Rattle.cc_compile.proofs.MadeRows.{lambda_at, rows_all, rows_more}
use Rattle.cc_compile.proofs.rows.rows_of.Goals as goal

pub row_of-requires : goal.row_of-requires
row_of-requires c =
    let p = c.args.typed.now in
    let all = c.args.answers.now in
    let xs = c.loop-function.yielded in
    let turn =
    zip_turn p.functions all xs c.into_iter-function-iterator.result c.loop-function.function-iterator c.next.new.self c.next.result (search rules) (search rules)
    c.loop-function.yielded_by (c.in-Some.function, c.in-Some.answer) c.in-Some.is c.next.ensures.steps in
    let here = lambda_at arc_value all (length xs) c.in-Some.answer.now turn.1 (turn.3 c.in-Some.answer.now) in
    record { small = subst (λ (o : PlainOptimised). lambda_values o.lambda < 2 ^ 32) (sym c.deref-in-loop-function.ensures) (c.requires.small (length xs) _ here) }

pub loop-function-preserved : goal.loop-function-preserved
loop-function-preserved c =
    let p = c.args.typed.now in
    let all = c.args.answers.now in
    let xs = c.loop-function.yielded in
    let f = c.in-Some.function.now in
    let a = c.in-Some.answer.now in
    let turn =
    zip_turn p.functions all xs c.into_iter-function-iterator.result c.loop-function.function-iterator c.next.new.self c.next.result (search rules) (search rules)
    c.loop-function.yielded_by (c.in-Some.function, c.in-Some.answer) c.in-Some.is c.next.ensures.steps in
    let more = rows_more arc_value all (length xs) a turn.1 (turn.3 a) p f turn.0 (turn.2 f) in
    let row = c.in_ok-row_of.ensures ∙ ap (row_of f) c.deref-in-loop-function.ensures in (
      c.in_ok-push.ensures.items
          ∙ (ap (λ rows. rows ++ c.in_ok-row_of.field-0 ∷ []) c.loop-function.invariant.0
          ∙ (ap (λ r. take (length xs) (rows_of p (map arc_value all)) ++ r ∷ []) row
          ∙ (sym more ∙ ap (λ n. take n (rows_of p (map arc_value all))) (sym (length_push xs (c.in-Some.function, c.in-Some.answer)))))),
      c.loop-function.iterator.0,
      c.loop-function.iterator.1,
    )

pub returns : goal.returns
returns c =
    let p = c.args.typed.now in
    let all = c.args.answers.now in
    let xs = c.loop-function.yielded in
    let end =
    zip_end p.functions all xs c.into_iter-function-iterator.result c.loop-function.function-iterator c.next.new.self c.next.result (search rules) (search rules)
    c.loop-function.yielded_by c.in-None.is c.next.ensures.steps in
    c.loop-function.invariant.0 ∙ rows_all arc_value all p (length xs) end
