use Rattle.std.proofs.Common.{◌≡◌, ◌-◌, Some, None, get_or, sym, ap, ◌∙◌, arith}
use Rattle.std.proofs.lemmas.Option.{slice_get-get_or}
use Rattle.c_check_state.proofs.TypeLemmas.{arrays-broken}
use Rattle.c_check_state.proofs.derived.arrays_of.Goals as goal

pub returns-in-None : goal.returns-in-None
returns-in-None c =
    let sizes = c.args.sizes.now in
    let left = c.loop-left.left - 1 in
    let broken : get_or sizes left None ≡ None = c.in-None.is in
    c.none.ensures ∙ sym (arrays-broken (Some c.args.ty.now.value) sizes left (slice_get-get_or sizes left None (omega arith) ∙ ap Some broken))
