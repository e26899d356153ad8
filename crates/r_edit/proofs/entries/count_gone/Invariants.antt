use Rattle.std.proofs.Common.{◌≡◌, ◌<◌, ◌+◌, ℕ, length}
use Rattle.std.specs.Prelude.{slice_index}
use Rattle.r_edit.specs.Places.{place_after}
use Rattle.r_edit.proofs.entries.count_gone.Given as goal

abbrev pub invariant-loop-place : goal.invariant-loop-place
invariant-loop-place l = record {
  count : l.count + place_after l.stays l.place ≡ l.place;
  same : length l.gone ≡ length l.initial.gone;
  counted : (k : ℕ) → k < l.place → slice_index l.gone k + place_after l.stays k ≡ k;
}
