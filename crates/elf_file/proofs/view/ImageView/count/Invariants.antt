use Rattle.std.proofs.Common.{◌≡◌, ◌+◌, ◌*◌, ◌-◌, ◌≤◌, length}
use Rattle.elf_file.specs.Loading.{headers_start, header_count, load_headers, loads_from}
use Rattle.elf_file.proofs.view.ImageView.count.Given as goal

abbrev pub invariant-loop-k : goal.invariant-loop-k
invariant-loop-k l =
    let b = l.self.bytes.now in
    record {
      counted : length (load_headers b) ≡ l.found + length (loads_from b (headers_start b + 32 * l.k) (header_count b - l.k));
      small : l.found ≤ l.k;
    }
