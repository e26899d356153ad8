use Rattle.std.proofs.Common.{◌≡◌, false, MatchOption, subst}
use Rattle.c_type.specs.Layout.{is_defined}
use Rattle.c_type.specs.Kept.{IsFound}
use Rattle.c_type.proofs.StructLemmas.{found}
use Rattle.c_type.proofs.structs.Types.find.Goals as goal

pub returns : goal.returns
returns c =
    let e = rw (c.deref.ensures.value, c.deref-2.ensures.value) at c.struct_at.ensures in
    let h = found _ _ c.args.tag c.struct_at.result c.self.invariant e in
    subst (λ d. MatchOption c.struct_at.result (is_defined d c.args.tag ≡ false) (λ s. IsFound d c.args.tag s.now)) c.self.view_is h
