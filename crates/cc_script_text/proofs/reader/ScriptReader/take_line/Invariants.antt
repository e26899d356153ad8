-- The line so far is the front of what was ahead.
use Rattle.std.proofs.Common.{◌≡◌, ◌≢◌, ◌-◌, ◌≤◌, ◌++◌, None, length}
use Rattle.cc_io.specs.Source.{prepend}
use Rattle.cc_script_text.specs.Script.{cut, first, lacks}
use Rattle.cc_script_text.specs.Taken.{left_of, read_ahead}
use Rattle.cc_script_text.proofs.reader.ScriptReader.take_line.Given as goal

-- the line so far is what was taken, and has no byte 10
abbrev pub invariant-loop-byte : goal.invariant-loop-byte
invariant-loop-byte g l = record {
  taken : left_of l.initial.self (g.I.Source.left l.initial.input) ≡ prepend l.line.items (left_of l.self (g.I.Source.left l.input));
  unasked : first (read_ahead l.initial.self) ≢ lacks → (l.input ≡ l.initial.input) × (read_ahead l.initial.self ≡ l.line.items ++ read_ahead l.self);
  few : length l.line.items ≤ 100;
  one : cut 10 l.line.items ≡ None;
  faults : g.I.Source.faults l.initial.input ≤ g.I.Source.faults l.input;
  count : l.self.count ≡ l.initial.self.count;
}

abbrev pub decreases-loop-byte : goal.decreases-loop-byte
decreases-loop-byte g l = 100 - length l.line.items
