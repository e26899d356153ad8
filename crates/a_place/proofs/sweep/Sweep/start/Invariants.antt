use Rattle.std.proofs.Common.{◌≡◌, ◌≤◌, ◌+◌, ℕ, List, length, take, vec_len}
use Rattle.s_linear.specs.Lines.{Line}
use Rattle.a_place.specs.Places.{Given, given}
use Rattle.a_place.specs.Sweep.{IsSweepAt, AllStartAt, spans_of}
use Rattle.a_place.proofs.sweep.Sweep.start.Given as goal

abbrev pub invariant-loop-name : goal.invariant-loop-name
invariant-loop-name l = record {
  names : vec_len l.self.of ≡ vec_len l.fn.self.of;
  lines : length l.self.ends ≡ length l.fn.self.ends;
  count : l.self.count ≤ l.fn.self.count + l.name-index;
  sweep : (ls : List Line) (i : ℕ) (gs : List Given) → l.spans ≡ spans_of ls → AllStartAt ls i l.names → IsSweepAt ls i gs l.fn.self
      → IsSweepAt ls i (given ls (take l.name-index l.names) gs) l.self;
}
