-- The callee that may come at a node: its body can be copied, and there are numbers for it.
use Rattle.std.specs.Prelude.{◌&&◌, ◌==◌, ◌^◌, ◌<◌, nat_le}
use Rattle.std.proofs.Common.{◌≡◌, ℕ, ◌+◌, ◌-◌, true, length, arith}
use Rattle.std.proofs.lemmas.Bool.{and_parts}
use Rattle.std.proofs.lemmas.Bool.Decides.{nat_tests}
use Rattle.base.specs.Limits.{most_callee_values}
use Rattle.g_graph.specs.Plain.{nodes_in, PlainLambda}
use Rattle.g_graph.specs.Count.{nodes_values}
use Rattle.g_graph.specs.Program.{lambda_values}
use Rattle.g_graph.specs.WellFormed.{IsWellFormed}
use Rattle.g_mean.specs.Copies.{IsClosed}
use Rattle.g_mean.proofs.lemmas.Closed.{region-closed}
use Rattle.r_edit.specs.Size.{may_change_size}
use Rattle.r_edit.specs.Numbering.{node_count}
use Rattle.r_inline.specs.Rule.{call_values, may_inline}
use Rattle.r_inline.proofs.Body.{is-body}
use Rattle.r_inline.proofs.Kept.{none-there}

module _ (values next : ℕ) (callee : PlainLambda) (e : may_inline values next callee ≡ true) where
  pub closed : IsWellFormed callee → IsClosed callee.body
  closed well =
      let objects = length callee.objects == 0 in
      let small = nat_le (lambda_values callee) most_callee_values in
      let numbers = nat_le (next + node_count callee.body) (2 ^ 32 - 1) in
      let p = and_parts (objects && small && numbers) (may_change_size values (nodes_values (nodes_in callee.body)) call_values) e in
      let q = and_parts objects small (and_parts (objects && small) numbers p.0).0 in
      region-closed 0 callee.body ((is-body callee well (none-there callee.objects q.0)).fits 0)

  pub numbers : next + node_count callee.body < 2 ^ 32
  numbers =
      let objects = length callee.objects == 0 in
      let small = nat_le (lambda_values callee) most_callee_values in
      let numbers = nat_le (next + node_count callee.body) (2 ^ 32 - 1) in
      let p = and_parts (objects && small && numbers) (may_change_size values (nodes_values (nodes_in callee.body)) call_values) e in
      let q : nat_le (next + node_count callee.body) (2 ^ 32 - 1) ≡ true = (and_parts (objects && small) numbers p.0).1 in
      grind (arith, nat_tests)
