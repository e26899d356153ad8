-- The objects begin within the frame.
use Rattle.std.proofs.Common.{arith}
use Rattle.cc_listing.proofs.functions.push_placed.Goals as goal

pub offsets_from-requires : goal.offsets_from-requires
offsets_from-requires c = omega (arith, c.requires.select.framed.objects_at, c.requires.fits)
