use Rattle.std.proofs.Common.{◌≡◌, ◌+◌, ◌*◌, ◌-◌, ◌<◌, length, slice_get}
use Rattle.elf_file.specs.Loading.{headers_start, header_count, load_headers, loads_from}
use Rattle.elf_file.proofs.view.ImageView.segment.Given as goal

abbrev pub invariant-loop-i : goal.invariant-loop-i
invariant-loop-i l =
    let b = l.self.bytes.now in
    record {
      same : slice_get (load_headers b) l.k ≡ slice_get (loads_from b (headers_start b + 32 * l.i) (header_count b - l.i)) l.before;
      within : l.before < length (loads_from b (headers_start b + 32 * l.i) (header_count b - l.i));
    }
