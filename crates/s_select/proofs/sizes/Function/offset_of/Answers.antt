-- Where an object stands: the offset in the list of offsets.
use Rattle.std.proofs.Common.{◌∙◌, ap, length, slice_index, arith}
use Rattle.s_linear.specs.Frame.{objects_at}
use Rattle.s_select.proofs.ObjectSizes.{length-offsets_from, offsets_from-at}
use Rattle.s_select.proofs.sizes.Function.offset_of.Goals as goal

pub bounds-self-number : goal.bounds-self-number
bounds-self-number c =
    omega
    (arith, ap length c.args.self.now.begins, length-offsets_from (objects_at c.args.self.now.places.now.count) c.args.self.now.objects.now, c.requires)

pub returns : goal.returns
returns c =
    ap (λ xs. slice_index xs c.args.number) c.args.self.now.begins
    ∙ offsets_from-at (objects_at c.args.self.now.places.now.count) c.args.self.now.objects.now c.args.number c.requires
