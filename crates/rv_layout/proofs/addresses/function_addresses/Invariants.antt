use Rattle.std.proofs.Common.{◌≡◌, ◌+◌, ◌++◌, drop, sum_by}
use Rattle.rv_layout.specs.Items.{items_size}
use Rattle.rv_layout.specs.Layout.{item_lists, functions_at, functions_from}
use Rattle.rv_layout.proofs.addresses.function_addresses.Given as goal

-- with what is left, all of them
abbrev pub invariant-loop-items : goal.invariant-loop-items
invariant-loop-items l = record {
  addresses : l.all.items ++ functions_from l.at (item_lists (drop l.items-index l.functions)) ≡ functions_from functions_at (item_lists l.functions);
  end : l.at + sum_by items_size (item_lists (drop l.items-index l.functions)) ≡ functions_at + sum_by items_size (item_lists l.functions);
}
