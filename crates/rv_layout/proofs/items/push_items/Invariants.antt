use Rattle.std.proofs.Common.{◌≡◌, ◌+◌, ◌%◌, ◌++◌, ◌≤◌, IsTrue, drop, length}
use Rattle.g_graph.specs.WellFormed.{all_of}
use Rattle.rv_layout.specs.Sequences.{bytes_of}
use Rattle.rv_layout.specs.Items.{items_size, label_at}
use Rattle.rv_layout.specs.Layout.{items_code, function_code}
use Rattle.rv_layout.specs.Conditions.{is_marked_once, item_fits}
use Rattle.rv_layout.proofs.items.push_items.Given as goal

-- with what is left, all of it
abbrev pub invariant-loop-item : goal.invariant-loop-item
invariant-loop-item l = record {
  text :
      l.text.items ++ bytes_of (items_code l.addresses (λ q. label_at q l.at l.items) l.here (drop l.item-index l.items))
      ≡ l.fn.text.items ++ bytes_of (function_code l.addresses l.at l.items);
  end : l.here + items_size (drop l.item-index l.items) ≡ l.at + items_size l.items;
  started : l.at ≤ l.here;
  aligned : l.here % 4 ≡ 0;
  fits : IsTrue (all_of (item_fits (length l.addresses.functions) (length l.addresses.globals)) (drop l.item-index l.items));
  marked : IsTrue (all_of (is_marked_once l.items) (drop l.item-index l.items));
}
