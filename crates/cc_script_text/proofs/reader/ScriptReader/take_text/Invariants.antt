-- The text so far is the front of what was ahead.
use Rattle.std.proofs.Common.{◌≡◌, ◌-◌, ◌≤◌, ◌++◌, length, vec_len}
use Rattle.cc_io.specs.Source.{prepend}
use Rattle.cc_script_text.specs.Taken.{left_of, read_ahead}
use Rattle.cc_script_text.proofs.reader.ScriptReader.take_text.Given as goal

-- the text so far is what was taken
abbrev pub invariant-loop-self : goal.invariant-loop-self
invariant-loop-self g l = record {
  taken : left_of l.initial.self (g.I.Source.left l.initial.input) ≡ prepend l.text.items (left_of l.self (g.I.Source.left l.input));
  unasked : l.count ≤ length (read_ahead l.initial.self) → (l.input ≡ l.initial.input) × (read_ahead l.initial.self ≡ l.text.items ++ read_ahead l.self);
  within : vec_len l.text ≤ l.count;
  faults : g.I.Source.faults l.initial.input ≤ g.I.Source.faults l.input;
  count : l.self.count ≡ l.initial.self.count;
}

abbrev pub decreases-loop-self : goal.decreases-loop-self
decreases-loop-self g l = l.count - vec_len l.text
