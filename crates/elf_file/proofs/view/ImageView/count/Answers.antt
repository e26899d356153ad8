use Rattle.std.proofs.Common.{◌<◌, arith, ap, length}
use Rattle.std.proofs.lemmas.List.{length-map}
use Rattle.elf_file.specs.Header.{header_of}
use Rattle.elf_file.specs.Loading.{executable, headers_start, header_count, load_headers, segment_at}
use Rattle.elf_file.proofs.LoadingLemmas.{length-load, length-end, other-at}
use Rattle.elf_file.proofs.SegmentLemmas.{segments-sound}
use Rattle.elf_file.proofs.SoundLemmas.{is_sound}
use Rattle.elf_file.proofs.view.ImageView.count.Goals as goal
use Rattle.elf_file.proofs.view.ImageView.count.Goals.{then-header-eq-LOAD, else-header-eq-LOAD}

pub overflow_add-found : goal.overflow_add-found
overflow_add-found c =
    let few = (is_sound c.args.self.now.bytes.now c.args.self.now.sound).few in
    let small = c.loop-k.invariant.small in
    let below = c.loop-k-test.true in
    let end = c.header_count-k-end.ensures in
    grind arith

pub loop-k-preserved : goal.loop-k-preserved
loop-k-preserved c =
    let b = c.args.self.now.bytes.now in
    let header = header_of c.header.result in
    let before = c.loop-k.invariant in
    let end = c.header_count-k-end.ensures in
    let below : c.loop-k.k < header_count b = omega arith in
    elim c.if-header-eq-LOAD.branch [
      | then-header-eq-LOAD w ↦ (
          let one = length-load b (headers_start b) (header_count b) c.loop-k.k header c.header.ensures below w.if-header-eq-LOAD.true in
          let is = w.found-is in
          let counted = before.counted in
          let small = before.small in
          record { counted = omega arith; small = omega arith })
      | else-header-eq-LOAD w ↦ (
          let same = ap length (other-at b (headers_start b) (header_count b) c.loop-k.k header c.header.ensures below w.if-header-eq-LOAD.false) in
          let is = w.found-is in
          let counted = before.counted in
          let small = before.small in
          record { counted = omega arith; small = omega arith })
    ]

pub returns-clause-value : goal.returns-clause-value
unfolding executable
returns-clause-value c =
    let b = c.args.self.now.bytes.now in
    let end = c.header_count-k-end.ensures in
    let past = c.loop-k-test.false in
    let none = length-end b (headers_start b) (header_count b) c.loop-k.k (omega arith) in
    let counted = c.loop-k.invariant.counted in
    let mapped = length-map (load_headers b) (segment_at b) in
    omega arith

pub returns-clause-sound : goal.returns-clause-sound
returns-clause-sound c = segments-sound c.args.self.now.bytes.now c.args.self.now.sound
