use Rattle.std.proofs.Common.{◌≡◌, ◌==◌, ◌<◌, ℕ, List, [], length, filter, slice_index_or}
use Rattle.s_linear.specs.Lines.{Line}
use Rattle.val_core.specs.Numbers.{numbers_from}
use Rattle.a_place.specs.Places.{first}
use Rattle.a_place.specs.Sweep.{spans_of}
use Rattle.a_place.proofs.placing.starts.Given as goal

abbrev pub invariant-loop-name : goal.invariant-loop-name
invariant-loop-name l = record {
  size : length l.starts ≡ l.end;
  starts : (ls : List Line) (p : ℕ) → l.spans ≡ spans_of ls → p < l.end → slice_index_or l.starts p [] ≡ filter (λ x. first x ls == p) (numbers_from 0 l.name);
}
