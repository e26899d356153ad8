use Rattle.std.proofs.Common.{◌-◌, length, ◌≡◌, ◌+◌, ◌*◌, ◌≤◌, ◌++◌, drop}
use Rattle.c_type.specs.Layout.{leaves_at, repeated}
use Rattle.c_type.proofs.listing.list_elements.Given as goal

abbrev pub invariant-loop-i : goal.invariant-loop-i
invariant-loop-i l =
    record {
      whole : l.out.items ≡ l.fn.out.items ++ repeated (l._i - 1) l.stride (l.at + l.stride) (leaves_at l.types l.of);
      last : drop (length l.out.items - l.leaves) l.out.items ≡ leaves_at l.types l.of (l.at + (l._i - 1) * l.stride);
      room : l.leaves ≤ length l.out.items;
    }
