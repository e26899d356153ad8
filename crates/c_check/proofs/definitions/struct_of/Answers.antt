use Rattle.std.proofs.Common.{◌≡◌, true, false, is_some, ap, ◌∙◌}
use Rattle.c_check.specs.Structs.{are_large}
use Rattle.c_check.proofs.StructLemmas.{struct-broken, struct-whole}
use Rattle.c_check.proofs.definitions.struct_of.Goals as goal

pub returns-then-is_some : goal.returns-then-is_some
returns-then-is_some c =
    let s = c.args.state.now in
    let ts = c.args.types.items in
    let large = c.in_ok-large.ensures ∙ ap (λ d. are_large d c.deref.result.now) c.types.ensures ∙ ap (are_large s.structs) c.deref.ensures.value in
    let broken : is_some c.breaks_if.new.self.broken ≡ true = cc in
    struct-broken c.args.tag c.args.offset c.args.names ts s c.breaks_if.new.self c.in_ok-large.large large c.breaks_if.ensures broken

pub returns : goal.returns
returns c =
    let s = c.args.state.now in
    let ts = c.args.types.items in
    let large = c.in_ok-large.ensures ∙ ap (λ d. are_large d c.deref.result.now) c.types.ensures ∙ ap (are_large s.structs) c.deref.ensures.value in
    let clean : is_some c.breaks_if.new.self.broken ≡ false = cc in
    struct-whole c.args.tag c.args.offset c.args.names ts s c.breaks_if.new.self c.in_ok-large.large c.define_struct.new.self c.in_ok-define_struct.field-0
    large c.breaks_if.ensures clean c.in_ok-define_struct.ensures.large c.in_ok-define_struct.ensures.state
