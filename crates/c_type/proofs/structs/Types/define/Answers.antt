use Rattle.std.proofs.Common.{◌≡◌, ◌<◌, ◌≤◌, rules, ◌∷◌, [], sym, ap, ◌∙◌, subst, false}
use Rattle.std.specs.Prelude.{IfErr}
use Rattle.base.specs.Limits.{most_type_bytes}
use Rattle.c_type.specs.Layout.{is_defined, struct_size}
use Rattle.c_type.specs.Normal.{AreNormalOf}
use Rattle.c_type.specs.LaidUpTo.{IsLaid, struct_bytes}
use Rattle.c_type.specs.WellDefined.{AreLaidOut}
use Rattle.c_type.specs.Structs.{definitions_of}
use Rattle.c_type.specs.declared.define_fault.DefineFault.TheVariants.{TooLarge}
use Rattle.c_type.specs.declared.structs.Struct.{Struct}
use Rattle.c_type.proofs.Indices.{indexed-pads}
use Rattle.c_type.proofs.Defined.{defined-size, definition_of, definitions-more, indexed-define}
use Rattle.c_type.proofs.structs.Types.define.Goals as goal

pub invariant_of-self : goal.invariant_of-self
invariant_of-self c = indexed-pads _ _ _ c.make_index.ensures.pads c.self.invariant

pub invariant_of-self-in_err-push : goal.invariant_of-self-in_err-push
invariant_of-self-in_err-push c = rw c.in_err-push.ensures.items (indexed-pads _ _ _ c.make_index.ensures.pads c.self.invariant)

pub invariant_of-self-2 : goal.invariant_of-self-2
invariant_of-self-2 c =
    let defs = definitions_of [] c.self.inside.structs.items in
    let v = sym c.self.view_is in
    let s : Struct = record {
      tag = c.args.tag;
      members = c.args.members;
      parts = c.in_ok-parts.parts;
      offsets = c.in_ok-layout.layout.offsets;
      size = c.in_ok-layout.layout.size;
      align =
          c.in_ok-layout.layout.align;
    } in
    let indexed = indexed-pads _ _ _ c.make_index.ensures.pads c.self.invariant in
    let new = subst (λ d. is_defined d c.args.tag ≡ false) v c.requires.new in
    let laid = subst (λ d. AreLaidOut d c.args.members.items) v c.requires.laid_out in
    let own = rw c.deref.ensures.value at c.in_ok-layout.ensures.ok in
    let layout = subst (λ d. IsLaid d c.args.members.items s.offsets.items s.size s.align) v own in
    let parts = rw c.deref-2.ensures.value at c.in_ok-parts.ensures in
    let normal = subst (λ d. AreNormalOf d c.args.members.items s.parts.items) v parts in
    rw c.in_ok-push.ensures.items
    (indexed-define c.make_index.new.indices.items c.self.inside.structs.items s c.in_ok-index.index indexed
    c.in_ok-index.ensures.ok.0 c.in_ok-index.ensures.ok.1 c.in_ok-make_index.ensures.room new c.requires.some laid normal layout)

pub returns-clause-ok : goal.returns-clause-ok
returns-clause-ok c =
    let s : Struct = record {
      tag = c.args.tag;
      members = c.args.members;
      parts = c.in_ok-parts.parts;
      offsets = c.in_ok-layout.layout.offsets;
      size = c.in_ok-layout.layout.size;
      align =
          c.in_ok-layout.layout.align;
    } in
    ap (definitions_of []) c.in_ok-push.ensures.items ∙ definitions-more [] c.self.inside.structs.items s ∙ ap (λ d. definition_of s ∷ d) c.self.view_is

pub returns-clause-small : goal.returns-clause-small
returns-clause-small c =
    let own = rw c.deref.ensures.value at c.in_ok-layout.ensures.ok in
    let small = subst (λ n. n ≤ most_type_bytes) own.bytes_is own.small in
    subst (λ d. struct_size d c.args.tag ≤ most_type_bytes) (sym (returns-clause-ok c)) (subst (λ n. n ≤ most_type_bytes) (sym (defined-size c.args.self.now c.args.tag c.args.members.items)) small)

pub returns-in_err-layout-clause-too_large : goal.returns-in_err-layout-clause-too_large
returns-in_err-layout-clause-too_large c =
    let large : IfErr c.from_residual.result (λ e. e ≡ TooLarge → most_type_bytes < struct_bytes c.args.self.now c.args.members.items) = search rules in
    subst (λ n. IfErr c.from_residual.result (λ e. e ≡ TooLarge → most_type_bytes < n)) (sym (defined-size c.args.self.now c.args.tag c.args.members.items)) large
