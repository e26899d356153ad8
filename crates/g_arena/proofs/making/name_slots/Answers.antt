-- One slot more is named.
use Rattle.std.proofs.Common.{◌<◌, length, arith}
use Rattle.g_arena_use.proofs.ReadLemmas.{get_within}
use Rattle.g_arena.proofs.StepLemmas.{item_there, kept_more, slots_named}
use Rattle.g_arena.proofs.making.name_slots.Goals as goal

pub name_outputs-requires : goal.name_outputs-requires
name_outputs-requires c =
    let inside : c.loop-i.i < length c.args.slots.now = omega arith in
    c.requires c.loop-i.i c.index-slots-i.result (item_there c.args.slots.now c.loop-i.i c.index-slots-i.result inside c.index-slots-i.is)

pub name_regions-requires : goal.name_regions-requires
name_regions-requires c =
    let inside : c.loop-i.i < length c.args.slots.now = omega arith in
    c.requires c.loop-i.i c.index-slots-i.result (item_there c.args.slots.now c.loop-i.i c.index-slots-i.result inside c.index-slots-i.is)

pub loop-i-preserved : goal.loop-i-preserved
loop-i-preserved c =
    let inside : c.loop-i.i < length c.args.slots.now = omega arith in
    record {
      kept =
          kept_more c.args.names.now c.name_outputs.new.names c.name_regions.new.names (kept_more c.args.names.now c.loop-i.names c.name_outputs.new.names c.loop-i.invariant.kept c.in_ok-name_outputs.ensures.kept) c.in_ok-name_regions.ensures.kept;
      named = slots_named c.loop-i.names c.name_outputs.new.names c.name_regions.new.names c.args.slots.now c.loop-i.i c.index-slots-i.result
          (item_there c.args.slots.now c.loop-i.i c.index-slots-i.result inside c.index-slots-i.is) c.loop-i.invariant.named
          c.in_ok-name_outputs.ensures.kept c.in_ok-name_outputs.ensures.named c.in_ok-name_regions.ensures.kept c.in_ok-name_regions.ensures.named;
    }

pub returns-clause-named : goal.returns-clause-named
returns-clause-named c i s e = let w = get_within c.args.slots.now i s e in c.loop-i.invariant.named i (omega (arith, w)) s e
