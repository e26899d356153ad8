use Rattle.std.proofs.Common.{◌≡◌, ◌-◌, ◌≤◌, vec_len, IsSome}
use Rattle.cc_io.specs.Source.{prepend}
use Rattle.cc_io.proofs.load.read_open.Given as goal

abbrev pub invariant-loop-buffer : goal.invariant-loop-buffer
invariant-loop-buffer g l =
    IsSome (g.F.Files.reading l.files)
    × (g.F.Files.left l.initial.files ≡ prepend l.bytes.items (g.F.Files.left l.files))
    × (vec_len l.bytes ≤ l.limit)
    × (g.F.Files.known l.files ≡ g.F.Files.known l.initial.files)
    × (g.F.Files.create_faults l.files ≡ g.F.Files.create_faults l.initial.files)
    × (g.F.Files.write_faults l.files ≡ g.F.Files.write_faults l.initial.files)
    × (g.F.Files.open_faults l.files ≡ g.F.Files.open_faults l.initial.files)
    × (g.F.Files.read_faults l.initial.files ≤ g.F.Files.read_faults l.files)

abbrev pub decreases-loop-buffer : goal.decreases-loop-buffer
decreases-loop-buffer g l = l.limit - vec_len l.bytes
