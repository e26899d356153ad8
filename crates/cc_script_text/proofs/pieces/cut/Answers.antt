use Rattle.std.proofs.Common.{◌+◌, List, Some, ℕ, take, ap, sym, ◌∙◌, arith}
use Rattle.std.proofs.lemmas.List.{take_rest}
use Rattle.cc_script_text.proofs.lemmas.Cuts.{cut_at, cut_nowhere}
use Rattle.cc_script_text.proofs.pieces.cut.Goals as goal

pub returns-then-text-at : goal.returns-then-text-at
returns-then-text-at c =
    ap (λ (rest : List ℕ). Some (take c.loop-at.at c.args.text.now, rest)) (take_rest c.args.text.now (c.loop-at.at + 1))
    ∙ sym (cut_at c.args.byte c.args.text.now c.loop-at.at (omega arith) c.loop-at.invariant c.if-text-at.true)

pub returns : goal.returns
returns c = sym (cut_nowhere c.args.byte c.args.text.now (λ k low. c.loop-at.invariant k (omega (arith, low))))
