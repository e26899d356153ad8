use Rattle.std.proofs.Common.{◌≡◌, ◌++◌, ◌∷◌, [], ◌≤◌, List, ℕ, None, length, ap, sym, ◌∙◌}
use Rattle.cc_script_text.specs.Script.{cut, first, with_line}
use Rattle.cc_script_text.specs.Taken.{left_of, read_ahead}
use Rattle.cc_script_text.proofs.lemmas.Firsts.{first_line}
use Rattle.cc_script_text.proofs.lemmas.Takes.{commands_after, faults_after}
use Rattle.cc_script_text.proofs.reader.ScriptReader.take_command.Goals as goal

-- a line, and what follows it
goes : (line slice : List ℕ) → slice ≡ line → length slice ≤ 100 → cut 10 line ≡ None → (rest : List ℕ) → first ((line ++ 10 ∷ []) ++ rest) ≡ with_line slice rest
goes line slice same few none rest =
    ap (λ l. first ((l ++ 10 ∷ []) ++ rest)) (sym same) ∙ first_line slice rest (ap (cut 10) same ∙ none) few

pub returns-clause-command : goal.returns-clause-command
returns-clause-command g c =
    let line = c.in_ok-line.line.items in
    let slice = c.as_slice.result.now in
    let left = g.I.Source.left in
    let before = left_of c.args.self.now (left c.args.input.now) in
    let mid = left_of c.take_line.new.self (left c.take_line.new.input) in
    let after = left_of c.after_line.new.self (left c.after_line.new.input) in
    commands_after first (with_line slice) (line ++ 10 ∷ []) before mid after (goes line slice c.as_slice.ensures.value c.as_slice.ensures.fits c.in_ok-line.ensures.one)
    c.in_ok-line.ensures.taken c.after_line.result c.after_line.ensures.command

pub returns-clause-fault : goal.returns-clause-fault
returns-clause-fault g c =
    let line = c.in_ok-line.line.items in
    let slice = c.as_slice.result.now in
    let left = g.I.Source.left in
    let before = left_of c.args.self.now (left c.args.input.now) in
    let mid = left_of c.take_line.new.self (left c.take_line.new.input) in
    let after = left_of c.after_line.new.self (left c.after_line.new.input) in
    faults_after first (with_line slice) (line ++ 10 ∷ []) before mid after (goes line slice c.as_slice.ensures.value c.as_slice.ensures.fits c.in_ok-line.ensures.one)
    c.in_ok-line.ensures.taken c.args.self.now.count c.take_line.new.self.count c.take_line.ensures.count c.after_line.result c.after_line.ensures.fault

pub returns-clause-unasked : goal.returns-clause-unasked
returns-clause-unasked g c =
    let line = c.in_ok-line.line.items in
    let slice = c.as_slice.result.now in
    λ whole.
    (let h = c.in_ok-line.ensures.unasked whole in
    c.after_line.ensures.unasked
    (λ part.
    whole
    (ap first h.1
    ∙ (goes line slice c.as_slice.ensures.value c.as_slice.ensures.fits c.in_ok-line.ensures.one (read_ahead c.take_line.new.self) ∙ part)))
    ∙ h.0)
