use Rattle.std.proofs.Common.{◌≡◌, ◌+◌, ◌%◌, ◌++◌, IsTrue, drop, length, sum_by}
use Rattle.g_graph.specs.WellFormed.{all_of}
use Rattle.rv_layout.specs.Sequences.{bytes_of}
use Rattle.rv_layout.specs.Items.{items_size}
use Rattle.rv_layout.specs.Layout.{item_lists, functions_at, functions_code}
use Rattle.rv_layout.specs.Conditions.{function_fits}
use Rattle.rv_layout.proofs.items.push_functions.Given as goal

-- with what is left, all of it
abbrev pub invariant-loop-items : goal.invariant-loop-items
invariant-loop-items l = record {
  text :
      l.text.items ++ bytes_of (functions_code l.addresses l.at (item_lists (drop l.items-index l.functions)))
      ≡ l.fn.text.items ++ bytes_of (functions_code l.addresses functions_at (item_lists l.functions));
  end : l.at + sum_by items_size (item_lists (drop l.items-index l.functions)) ≡ functions_at + sum_by items_size (item_lists l.functions);
  aligned : l.at % 4 ≡ 0;
  fits :
      IsTrue
      (all_of (function_fits (length l.addresses.functions) (length l.addresses.globals)) (item_lists (drop l.items-index l.functions)));
}
