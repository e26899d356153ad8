use Rattle.std.proofs.Common.{◌≡◌, length, refl, sym, subst, arith}
use Rattle.c_type.specs.Trees.{struct_type}
use Rattle.c_type.specs.Normal.{IsNormalOf}
use Rattle.c_type.proofs.NormalLemmas.{copied, only-one, normal-single, normal-struct}
use Rattle.c_type.proofs.normal.normal_struct.Goals as goal

pub returns-then-len-eq1 : goal.returns-then-len-eq1
returns-then-len-eq1 c =
    let parts = c.in-Some.s.now.parts in
    let one : length parts.items ≡ 1 = omega (arith, c.len.ensures, c.if-len-eq1.true, parts.ok.0) in
    let single = only-one parts.items c.index.result.now (omega arith) (omega arith) c.index.ensures in
    copied c.args.types.now (struct_type c.args.tag) c.index.result.now c.copy.result c.copy.ensures
    (normal-single c.args.types.now (struct_type c.args.tag) c.args.tag c.in-Some.s.now c.index.result.now refl c.in-Some.ensures single)

pub returns-else-len-eq1 : goal.returns-else-len-eq1
returns-else-len-eq1 c =
    let parts = c.in-Some.s.now.parts in
    subst (λ u. IsNormalOf c.args.types.now (struct_type c.args.tag) u) (sym c.structure.ensures)
    (normal-struct c.args.types.now (struct_type c.args.tag) c.args.tag c.in-Some.s.now refl c.in-Some.ensures (λ one. c.if-len-eq1.false (omega (arith, c.len.ensures, one, parts.ok.0))))
