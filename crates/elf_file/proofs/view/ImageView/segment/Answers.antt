use Rattle.std.proofs.Common.{◌∙◌, ◌+◌, ◌*◌, ◌-◌, ◌<◌, List, Some, arith, ap, sym, length, slice_get}
use Rattle.std.proofs.lemmas.List.{length-map}
use Rattle.std.proofs.lemmas.Option.{slice_get-map}
use Rattle.std.specs.Option.{option_map}
use Rattle.elf_file.specs.Header.{ProgramHeader, header_of}
use Rattle.elf_file.specs.Loading.{executable, headers_start, header_count, load_headers, loads_from, segment_at}
use Rattle.elf_file.proofs.LoadingLemmas.{loads_from-start, length-load, length-end, other-at, get-here, get-later}
use Rattle.elf_file.proofs.SegmentLemmas.{segment-contained}
use Rattle.elf_file.proofs.SoundLemmas.{is_sound, contained-at, within-file}
use Rattle.elf_file.proofs.view.ImageView.segment.Goals as goal
use Rattle.elf_file.proofs.view.ImageView.segment.Goals.{then-header-eq-LOAD+else-before-eq0, else-header-eq-LOAD}

pub loop-i-init : goal.loop-i-init
unfolding executable
loop-i-init c =
    let b = c.args.self.now.bytes.now in
    let all = sym (loads_from-start b (headers_start b) (header_count b)) in
    let below = c.requires in
    let mapped = length-map (load_headers b) (segment_at b) in
    let long = ap length all in
    record { same = ap (λ hs. slice_get hs c.args.k) all; within = omega arith }

pub load-requires : goal.load-requires
load-requires c =
    let b = c.args.self.now.bytes.now in
    let header = header_of c.header-header.result in
    let end = c.header_count-i-end.ensures in
    let test = c.loop-i-test.true in
    let found = get-here (load_headers b) b (headers_start b) (header_count b) c.loop-i.i c.args.k c.loop-i.before header
    c.loop-i.invariant.same c.if-before-eq0.true c.header-header.ensures (omega arith) c.if-header-eq-LOAD.true in
    within-file (length b) header (contained-at (length b) (load_headers b) c.args.k header (is_sound b c.args.self.now.sound).separate found)

pub returns-then-before-eq0 : goal.returns-then-before-eq0
unfolding executable
returns-then-before-eq0 c =
    let b = c.args.self.now.bytes.now in
    let header = header_of c.header-header.result in
    let end = c.header_count-i-end.ensures in
    let test = c.loop-i-test.true in
    let found = get-here (load_headers b) b (headers_start b) (header_count b) c.loop-i.i c.args.k c.loop-i.before header
    c.loop-i.invariant.same c.if-before-eq0.true c.header-header.ensures (omega arith) c.if-header-eq-LOAD.true in
    record {
      value = slice_get-map (segment_at b) (load_headers b) c.args.k
          ∙ ap (option_map (segment_at b)) found
          ∙ ap (λ s. Some s) (sym c.load.ensures);
      contained = rw c.load.ensures (segment-contained b header (length b)
          (contained-at (length b) (load_headers b) c.args.k header (is_sound b c.args.self.now.sound).separate found));
    }

pub loop-i-preserved : goal.loop-i-preserved
loop-i-preserved c =
    let b = c.args.self.now.bytes.now in
    let header = header_of c.header-header.result in
    let end = c.header_count-i-end.ensures in
    let test = c.loop-i-test.true in
    let below : c.loop-i.i < header_count b = omega arith in
    let here = c.loop-i.invariant in
    let within = here.within in
    let rest : List ProgramHeader = loads_from b (headers_start b + 32 * (c.loop-i.i + 1)) (header_count b - (c.loop-i.i + 1)) in
    elim c.if-header-eq-LOAD.branch [
      | then-header-eq-LOAD+else-before-eq0 w ↦ (
          let later = get-later b (headers_start b) (header_count b) c.loop-i.i c.loop-i.before header c.header-header.ensures below w.if-header-eq-LOAD.true w.if-before-eq0.false in
          let one = length-load b (headers_start b) (header_count b) c.loop-i.i header c.header-header.ensures below w.if-header-eq-LOAD.true in
          let is = w.before-is in
          let some = w.if-before-eq0.false in
          record { same = here.same ∙ later ∙ ap (slice_get rest) (sym is); within = omega arith })
      | else-header-eq-LOAD w ↦ (
          let same = other-at b (headers_start b) (header_count b) c.loop-i.i header c.header-header.ensures below w.if-header-eq-LOAD.false in
          let long = ap length same in
          let is = w.before-is in
          record { same = here.same ∙ ap (λ hs. slice_get hs c.loop-i.before) same ∙ ap (slice_get rest) (sym is); within = omega arith })
    ]

pub unreachable-requires : goal.unreachable-requires
unreachable-requires c =
    let b = c.args.self.now.bytes.now in
    let end = c.header_count-i-end.ensures in
    let past = c.loop-i-test.false in
    let none = length-end b (headers_start b) (header_count b) c.loop-i.i (omega arith) in
    let within = c.loop-i.invariant.within in
    omega arith
