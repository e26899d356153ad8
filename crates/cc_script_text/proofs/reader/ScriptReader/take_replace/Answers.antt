use Rattle.std.proofs.Common.{◌≡◌, ◌++◌, ℕ, List, length, Some, ap, sym, ◌∙◌}
use Rattle.cc_script_text.specs.declared.command.Command.TheVariants.{Replace}
use Rattle.cc_script_text.specs.Script.{with_line_end, with_text}
use Rattle.cc_script_text.specs.Taken.{left_of}
use Rattle.cc_script_text.proofs.lemmas.Takes.{text_whole, commands_after, faults_after}
use Rattle.cc_script_text.proofs.reader.ScriptReader.take_replace.Goals as goal

-- a text of this length, and what follows it
goes : (name text : List ℕ) (count : ℕ) → length text ≡ count → (rest : List ℕ) → with_text (Some (name, count)) (text ++ rest) ≡ with_line_end (Replace name text) rest
goes name text count long rest = ap (λ n. with_text (Some (name, n)) (text ++ rest)) (sym long) ∙ text_whole name text rest

pub returns-clause-command : goal.returns-clause-command
returns-clause-command g c =
    let name = c.args.name.now in
    let text = c.in_ok-text.text in
    let left = g.I.Source.left in
    let before = left_of c.args.self.now (left c.args.input.now) in
    let mid = left_of c.take_text.new.self (left c.take_text.new.input) in
    let after = left_of c.end_replace.new.self (left c.end_replace.new.input) in
    commands_after (with_text (Some (name, c.args.count))) (with_line_end (Replace name text.items)) text.items before mid after
    (goes name text.items c.args.count (sym text.ok.0 ∙ c.in_ok-text.ensures.length)) c.in_ok-text.ensures.taken c.end_replace.result c.end_replace.ensures.command

pub returns-clause-fault : goal.returns-clause-fault
returns-clause-fault g c =
    let name = c.args.name.now in
    let text = c.in_ok-text.text in
    let left = g.I.Source.left in
    let before = left_of c.args.self.now (left c.args.input.now) in
    let mid = left_of c.take_text.new.self (left c.take_text.new.input) in
    let after = left_of c.end_replace.new.self (left c.end_replace.new.input) in
    faults_after (with_text (Some (name, c.args.count))) (with_line_end (Replace name text.items)) text.items before mid after
    (goes name text.items c.args.count (sym text.ok.0 ∙ c.in_ok-text.ensures.length)) c.in_ok-text.ensures.taken c.args.self.now.count c.take_text.new.self.count
    c.take_text.ensures.count c.end_replace.result c.end_replace.ensures.fault
