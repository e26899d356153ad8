use Rattle.std.proofs.Common.{◌≡◌, length, vec_len}
use Rattle.a_place.specs.Places.{name_count}
use Rattle.a_place.specs.Sweep.{IsSweepAt, given_before}
use Rattle.a_place.proofs.placing.place.Given as goal

abbrev pub invariant-loop-position : goal.invariant-loop-position
invariant-loop-position l = record {
  names : vec_len l.sweep.of ≡ name_count l.linear;
  lines : length l.sweep.ends ≡ length l.linear;
  sweep : IsSweepAt l.linear l.position (given_before l.linear l.position) l.sweep;
}
