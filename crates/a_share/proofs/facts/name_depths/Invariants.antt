-- What holds before each turn of the loops of `name_depths`.
use Rattle.std.proofs.Common.{◌≡◌, ◌<◌, ℕ, None, map, drop, slice_index_or, vec_len}
use Rattle.s_linear.specs.Views.{line_of}
use Rattle.a_share.specs.Tables.{deeper, depth_in}
use Rattle.a_share.proofs.facts.name_depths.Given as goal

abbrev pub invariant-loop-position : goal.invariant-loop-position
invariant-loop-position l = record {
  count : vec_len l.greatest ≡ l.count;
  depths : (x : ℕ) → x < l.count → deeper (slice_index_or l.greatest.items x None) (depth_in x (map line_of (drop l.position l.lines)) (drop l.position l.depths))
      ≡ depth_in x (map line_of l.lines) l.depths;
}
