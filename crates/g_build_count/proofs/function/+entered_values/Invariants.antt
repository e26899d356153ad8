use Rattle.std.proofs.Common.{◌≡◌, ◌+◌, ◌<◌, ◌^◌, drop, length}
use Rattle.g_graph.specs.Count.{saturated}
use Rattle.g_build_count.specs.Values.{entered_values}
use Rattle.g_build_count.proofs.function.+entered_values.Given as goal

abbrev pub decreases-entered_values : goal.decreases-entered_values
decreases-entered_values l = length l.params.now

abbrev pub invariant-loop-i : goal.invariant-loop-i
invariant-loop-i l =
    (saturated (l.total + entered_values l.f l.jumps (drop l.i l.params) l.carried l.inner.objects)
    ≡ saturated (entered_values l.f l.jumps l.params l.initial.carried l.initial.inner.objects))
    × (l.total < 2 ^ 64)
