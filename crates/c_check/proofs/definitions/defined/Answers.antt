use Rattle.std.proofs.Common.{◌≡◌, Some, length, arith}
use Rattle.c_check_def.specs.Externals.{types_of}
use Rattle.c_check.proofs.TypeLemmas.{types-laid, types-length}
use Rattle.c_check.proofs.definitions.defined.Goals as goal

pub struct_of-requires-clause-laid_out : goal.struct_of-requires-clause-laid_out
struct_of-requires-clause-laid_out c =
    let ts = c.in-Some.types.items in
    let all : types_of c.args.all ≡ Some ts = rw c.in-Some.is at c.in_ok-types.ensures in
    types-laid c.args.state.now.structs c.args.all ts c.requires.laid_out all

pub struct_of-requires-clause-some : goal.struct_of-requires-clause-some
struct_of-requires-clause-some c =
    let ts = c.in-Some.types.items in
    let all : types_of c.args.all ≡ Some ts = rw c.in-Some.is at c.in_ok-types.ensures in
    let same : length ts ≡ length c.args.all = types-length c.args.all ts all in
    omega (arith, same, c.requires.some)
