use Rattle.std.proofs.Common.{◌≡◌, ◌≤◌, count_by, take}
use Rattle.cc_source.specs.Refusal.{is_line_end}
use Rattle.cc_source.proofs.refusal.line_ends.Given as goal

abbrev pub invariant-loop-byte : goal.invariant-loop-byte
invariant-loop-byte l =
    record {
      value : l.count ≡ count_by is_line_end (take l.byte-index l.text);
      small : l.count ≤ l.byte-index;
    }
