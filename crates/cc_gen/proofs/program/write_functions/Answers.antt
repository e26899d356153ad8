use Rattle.std.proofs.Common.{sym, ℕ, List, ◌∙◌, ap, rules, arith}
use Rattle.cc_io.proofs.lemmas.Sink.{append-none}
use Rattle.cc_gen.specs.Draws.{drawn_from, state_before}
use Rattle.cc_gen.specs.Generated.{function_text}
use Rattle.cc_gen.proofs.DrawsLemmas.{state-first, state-next}
use Rattle.cc_gen.proofs.PrefixLemmas.{prefix-number, append-number, on_err}
use Rattle.cc_gen.proofs.program.write_functions.Goals as goal

-- the text of one function
abbrev text_at : (start number : ℕ) → List ℕ
text_at start number = function_text number (drawn_from number (state_before start number))

pub loop-number-init : goal.loop-number-init
loop-number-init g c = record { drawn = state-first c.args.start; appended = sym (append-none _); rest = search rules; kept = search rules }

pub loop-number-preserved : goal.loop-number-preserved
loop-number-preserved g c =
    let wrote = c.in_ok-write_function.ensures in
    let was = c.loop-number.invariant.drawn in
    let state = rw was at c.draw_function-drawn.ensures.state in
    let drawn = c.draw_function-drawn.ensures.drawn ∙ ap (drawn_from c.loop-number.number) was in
    record {
      drawn = state-next c.args.start c.loop-number.number c.draw_function-drawn.new.self.state state;
      appended = append-number (text_at c.args.start) c.loop-number.number _ _ _ c.loop-number.invariant.appended (rw drawn at wrote.ok);
      rest = wrote.rest ∙ c.loop-number.invariant.rest;
      kept = omega (arith, wrote.cause.kept);
    }

pub returns-in_err-write_function-clause-err : goal.returns-in_err-write_function-clause-err
returns-in_err-write_function-clause-err g c =
    let drawn = c.draw_function-drawn.ensures.drawn ∙ ap (drawn_from c.loop-number.number) c.loop-number.invariant.drawn in
    on_err c.from_residual.result
    (prefix-number (text_at c.args.start) c.args.functions c.loop-number.number _ _ _ (search rules) c.loop-number.invariant.appended (rw drawn at c.in_err-write_function.ensures.err))
