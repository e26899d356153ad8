use Rattle.std.proofs.Common.{◌≡◌, ◌<◌, ◌+◌, ◌++◌, ◌∷◌, [], length, map, drop, take, replicate, ◌-◌, ap, sym, ◌∙◌, subst, arith}
use Rattle.std.proofs.lemmas.List.{drop_more, drop_all}
use Rattle.std.proofs.lemmas.Grind.{common_steps}
use Rattle.c_typed.specs.ProgramEncoding.{written_of}
use Rattle.g_build_def.specs.Globals.{bytes_from}
use Rattle.g_build.specs.Globals.{StandApart, item_bytes}
use Rattle.g_build.proofs.WrittenBytes.{AreBytesBefore, bytes_more, apart_more, bytes_ended}
use Rattle.g_build.proofs.globals.bytes.Goals as goal

pub loop-item-preserved : goal.loop-item-preserved
loop-item-preserved c =
    let xs = c.args.written.now in
    let i = c.loop-item.item-index in
    let x = c.item-item.result in
    let old = c.loop-item.bytes.items in
    let new = c.push_written.new.bytes.items in
    let below : i < length xs = omega (arith, c.loop-item-test.true) in
    let rest = map written_of (drop (i + 1) xs) in
    let split : map written_of (drop i xs) ≡ written_of x ∷ rest
    = ap (map written_of) (drop_more xs i x below ∙ ap (λ y. y ∷ drop (i + 1) xs) (sym c.item-item.is)) in
    let apart : StandApart (length old) (written_of x ∷ rest) = subst (StandApart (length old)) split c.loop-item.invariant.apart in
    let made : AreBytesBefore (written_of x ∷ rest) (map written_of xs) old
    = subst (λ r. AreBytesBefore r (map written_of xs) old) split c.loop-item.invariant.bytes in
    let pushed : new ≡ old ++ item_bytes (length old) (written_of x) = grind (arith, common_steps) in
    record {
      bytes = bytes_more (written_of x) rest (map written_of xs) old new apart made pushed;
      apart = apart_more (written_of x) rest old new apart pushed;
    }

pub returns : goal.returns
returns c =
    let xs = c.args.written.now in
    let i = c.loop-item.item-index in
    let old = c.loop-item.bytes.items in
    let none : map written_of (drop i xs) ≡ [] = ap (map written_of) (drop_all i xs (omega (arith, c.loop-item-test.false))) in
    let made : AreBytesBefore [] (map written_of xs) old = subst (λ r. AreBytesBefore r (map written_of xs) old) none c.loop-item.invariant.bytes in
    let whole : take c.args.size old ++ replicate (c.args.size - c.loop-item.bytes.len) 0 ≡ bytes_from (map written_of xs) 0 c.args.size
    = bytes_ended (map written_of xs) old c.loop-item.bytes.len c.args.size (omega (arith, c.loop-item.bytes.ok.0)) made in
    grind (arith, common_steps, whole)
