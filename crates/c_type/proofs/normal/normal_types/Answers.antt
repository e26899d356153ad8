use Rattle.std.proofs.Common.{◌++◌, ◌∷◌, [], take, ap, sym, ◌∙◌, subst}
use Rattle.std.proofs.lemmas.List.{take_more}
use Rattle.c_type.specs.Normal.{AreNormalOf}
use Rattle.c_type.specs.WellDefined.{AreLaidOut}
use Rattle.c_type.proofs.MemberLemmas.{at-member}
use Rattle.c_type.proofs.NormalLemmas.{one-more-normal}
use Rattle.c_type.proofs.normal.normal_types.Goals as goal

pub normal_type-requires : goal.normal_type-requires
normal_type-requires c =
    let at = at-member c.args.members.now c.loop-t.t-index c.t-item.result c.loop-t-test.true c.t-item.is in
    (subst (AreLaidOut c.args.types.now) at c.loop-t.invariant.rest).0.complete

pub loop-t-preserved : goal.loop-t-preserved
loop-t-preserved c =
    let defs = c.args.types.now in
    let ms = c.args.members.now in
    let i = c.loop-t.t-index in
    let t = c.t-item.result in
    let at = at-member ms i t c.loop-t-test.true c.t-item.is in
    let more = take_more ms i t c.loop-t-test.true ∙ ap (λ x. take i ms ++ x ∷ []) (sym c.t-item.is) in
    let done = one-more-normal defs (take i ms) c.loop-t.parts.items t c.in_ok-normal_type.field-0 c.loop-t.invariant.done c.in_ok-normal_type.ensures in
    record {
      done = subst (λ ts. AreNormalOf defs ts c.push.new.self.items) (sym more) (subst (λ us. AreNormalOf defs (take i ms ++ t ∷ []) us) (sym c.in_ok-push.ensures.items) done);
      rest = (subst (AreLaidOut defs) at c.loop-t.invariant.rest).1;
    }
