use Rattle.std.specs.Prelude.{codes}
use Rattle.std.proofs.Common.{◌≡◌, Bool, true, false, List, ℕ, [], None, Some, refl, inl, ap, sym, ◌∙◌}
use Rattle.std.specs.Str.{bytes_eq}
use Rattle.cc_io.proofs.lemmas.Prepends.{prepend-none}
use Rattle.cc_script_text.specs.Script.{with_line, with_text}
use Rattle.cc_script_text.specs.Taken.{left_of, read_ahead}
use Rattle.cc_script_text.proofs.lemmas.Firsts.{line_build, line_end, line_other}
use Rattle.cc_script_text.proofs.lemmas.Takes.{broken_fault, commands_after, faults_after}
use Rattle.cc_script_text.proofs.reader.ScriptReader.after_line.Goals as goal

-- what a test of a line against a word gives
tested : (line slice word : List ℕ) (r t : Bool) → slice ≡ word → r ≡ bytes_eq line slice → r ≡ t → bytes_eq line word ≡ t
tested line slice word r t same e f = ap (bytes_eq line) (sym same) ∙ (sym e ∙ f)

pub returns-then-eq-clause-command : goal.returns-then-eq-clause-command
returns-then-eq-clause-command g c =
    let line = c.args.line.now in
    record {
      bytes = [];
      taken = prepend-none (left_of c.args.self.now (g.I.Source.left c.args.input.now));
      said = line_build line [] (tested line c.as_slice.result.now (codes "build") c.eq.result true c.as_slice.ensures c.eq.ensures c.if-eq.true);
    }

pub returns-then-eq-2-clause-command : goal.returns-then-eq-2-clause-command
returns-then-eq-2-clause-command g c =
    let line = c.args.line.now in
    let other = tested line c.as_slice.result.now (codes "build") c.eq.result false c.as_slice.ensures c.eq.ensures c.if-eq.false in
    record {
      bytes = [];
      taken = prepend-none (left_of c.args.self.now (g.I.Source.left c.args.input.now));
      said = line_end line other [] (tested line c.as_slice-2.result.now (codes "end") c.eq-2.result true c.as_slice-2.ensures c.eq-2.ensures c.if-eq-2.true);
    }

pub returns-in_default-clause-fault : goal.returns-in_default-clause-fault
returns-in_default-clause-fault g c =
    let line = c.args.line.now in
    let left = left_of c.args.self.now (g.I.Source.left c.args.input.now) in
    let other = tested line c.as_slice.result.now (codes "build") c.eq.result false c.as_slice.ensures c.eq.ensures c.if-eq.false in
    let no_end = tested line c.as_slice-2.result.now (codes "end") c.eq-2.result false c.as_slice-2.ensures c.eq-2.ensures c.if-eq-2.false in
    broken_fault (with_line line) c.broken.result c.args.self.now.count c.args.self.now.count left left c.broken.ensures refl
    (inl (record { bytes = []; taken = prepend-none left; said = line_other line other None [] no_end (sym c.in_default.ensures) }))

pub returns-clause-command : goal.returns-clause-command
returns-clause-command g c =
    let line = c.args.line.now in
    let said = Some (c.in-Some.name.now, c.in-Some.count) in
    let left = left_of c.args.self.now (g.I.Source.left c.args.input.now) in
    let other = tested line c.as_slice.result.now (codes "build") c.eq.result false c.as_slice.ensures c.eq.ensures c.if-eq.false in
    let no_end = tested line c.as_slice-2.result.now (codes "end") c.eq-2.result false c.as_slice-2.ensures c.eq-2.ensures c.if-eq-2.false in
    commands_after (with_line line) (with_text said) [] left left (left_of c.take_replace.new.self (g.I.Source.left c.take_replace.new.input))
    (λ rest. line_other line other said rest no_end (sym c.in-Some.ensures)) (prepend-none left) c.take_replace.result c.take_replace.ensures.command

pub returns-clause-fault : goal.returns-clause-fault
returns-clause-fault g c =
    let line = c.args.line.now in
    let said = Some (c.in-Some.name.now, c.in-Some.count) in
    let left = left_of c.args.self.now (g.I.Source.left c.args.input.now) in
    let other = tested line c.as_slice.result.now (codes "build") c.eq.result false c.as_slice.ensures c.eq.ensures c.if-eq.false in
    let no_end = tested line c.as_slice-2.result.now (codes "end") c.eq-2.result false c.as_slice-2.ensures c.eq-2.ensures c.if-eq-2.false in
    faults_after (with_line line) (with_text said) [] left left (left_of c.take_replace.new.self (g.I.Source.left c.take_replace.new.input))
    (λ rest. line_other line other said rest no_end (sym c.in-Some.ensures)) (prepend-none left) c.args.self.now.count c.args.self.now.count refl
    c.take_replace.result c.take_replace.ensures.fault

pub returns-clause-unasked : goal.returns-clause-unasked
returns-clause-unasked g c =
    let line = c.args.line.now in
    let said = Some (c.in-Some.name.now, c.in-Some.count) in
    let other = tested line c.as_slice.result.now (codes "build") c.eq.result false c.as_slice.ensures c.eq.ensures c.if-eq.false in
    let no_end = tested line c.as_slice-2.result.now (codes "end") c.eq-2.result false c.as_slice-2.ensures c.eq-2.ensures c.if-eq-2.false in
    λ whole. c.take_replace.ensures.unasked (λ part. whole (line_other line other said (read_ahead c.args.self.now) no_end (sym c.in-Some.ensures) ∙ part))
