use Rattle.std.proofs.Common.{◌≡◌, ◌+◌, ◌≤◌, drop, map}
use Rattle.std.specs.Prelude.{count_by}
use Rattle.std.specs.declared.option.Option.TheVariants.{Some}
use Rattle.g_graph.specs.Scope.{is_of}
use Rattle.g_graph.proofs.kind_lists.count_of_args.Given as goal

abbrev pub invariant-loop-arg : goal.invariant-loop-arg
invariant-loop-arg l =
    (l.count + count_by (is_of l.kind) (map Some (drop l.arg-index l.args)) ≡ count_by (is_of l.kind) (map Some l.args)) × (l.count ≤ l.arg-index)
