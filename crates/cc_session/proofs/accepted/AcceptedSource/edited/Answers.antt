use Rattle.std.proofs.Common.{ℕ, List, sym, ap, subst, ◌∙◌, arith}
use Rattle.std.proofs.lemmas.Slice.Eq.{bytes_eq-Decides, slice_eq-Decides}
use Rattle.std.proofs.lemmas.Grind.{common_steps}
use Rattle.c_typed.specs.Typed.{FunctionTree}
use Rattle.cc_session.specs.declared.accepted.AcceptedSource.TheInside.{Inside}
use Rattle.cc_source.specs.Accepted.{Accepts}
use Rattle.cc_session.specs.Accepted.{PlainAccepted}
use Rattle.cc_session.specs.Edits.{extent_of, names_of, replaced}
use Rattle.cc_session.proofs.Back.{edit_refused}
use Rattle.cc_session.proofs.accepted.AcceptedSource.edited.Goals as goal

pub returns-then-not-have_same_names-clause-refused : goal.returns-then-not-have_same_names-clause-refused
returns-then-not-have_same_names-clause-refused c =
    let before = c.args.self.now in
    let functions = c.deref.ensures.value ∙ (ap (λ (i : Inside). i.typed.functions) c.self-inside.view_is ∙ ap (λ (a : PlainAccepted). a.program.functions) c.self.view_is) in
    let source = c.deref-2.ensures.value ∙ (ap (λ (i : Inside). i.source.items) c.self-inside.view_is ∙ ap (λ (a : PlainAccepted). a.source) c.self.view_is) in
    let names = slice_eq-Decides bytes_eq-Decides (names_of c.deref-3.result.now) (names_of c.deref-4.result.now) c.have_same_names.result c.have_same_names.ensures in
    let after-functions = c.deref-3.ensures.value ∙ (ap (λ (i : Inside). i.typed.functions) c.after-inside.view_is ∙ ap (λ (a : PlainAccepted). a.program.functions) c.after.view_is) in
    let old-functions = c.deref-4.ensures.value ∙ (ap (λ (i : Inside). i.typed.functions) c.self-inside.view_is ∙ ap (λ (a : PlainAccepted). a.program.functions) c.self.view_is) in (
      c.in_ok-source.source.items,
      record {
        extent = c.in-Some.extent;
        found = sym (c.in-Some.ensures ∙ ap (λ (fs : List FunctionTree). extent_of fs c.args.name.now) functions);
        is = c.in_ok-source.ensures ∙ ap (λ (s : List ℕ). replaced s c.in-Some.extent c.args.text.now) source;
      },
      (
        c.in-Ok.after.program,
        c.in-Ok.ensures.accepted,
        λ p. let e = names.1 (ap names_of after-functions ∙ (p ∙ sym (ap names_of old-functions))) in grind (arith, common_steps, e),
      ),
    )

pub returns-clause-edited : goal.returns-clause-edited
returns-clause-edited c =
    let functions = c.deref.ensures.value ∙ (ap (λ (i : Inside). i.typed.functions) c.self-inside.view_is ∙ ap (λ (a : PlainAccepted). a.program.functions) c.self.view_is) in
    let source = c.deref-2.ensures.value ∙ (ap (λ (i : Inside). i.source.items) c.self-inside.view_is ∙ ap (λ (a : PlainAccepted). a.source) c.self.view_is) in
    let names = slice_eq-Decides bytes_eq-Decides (names_of c.deref-3.result.now) (names_of c.deref-4.result.now) c.have_same_names.result c.have_same_names.ensures in
    let after-functions = c.deref-3.ensures.value ∙ (ap (λ (i : Inside). i.typed.functions) c.after-inside.view_is ∙ ap (λ (a : PlainAccepted). a.program.functions) c.after.view_is) in
    let old-functions = c.deref-4.ensures.value ∙ (ap (λ (i : Inside). i.typed.functions) c.self-inside.view_is ∙ ap (λ (a : PlainAccepted). a.program.functions) c.self.view_is) in
    record {
      replaced = record {
        extent = c.in-Some.extent;
        found = sym (c.in-Some.ensures ∙ ap (λ (fs : List FunctionTree). extent_of fs c.args.name.now) functions);
        is = c.in-Ok.ensures.same ∙ (c.in_ok-source.ensures ∙ ap (λ (s : List ℕ). replaced s c.in-Some.extent c.args.text.now) source);
      };
      accepted = subst (λ (s : List ℕ). Accepts s c.in-Ok.after.program) (sym c.in-Ok.ensures.same) c.in-Ok.ensures.accepted;
      same_names = sym (ap names_of after-functions) ∙ (names.0 (grind (arith, common_steps)) ∙ ap names_of old-functions);
    }

pub returns-in-Err-clause-refused : goal.returns-in-Err-clause-refused
returns-in-Err-clause-refused c =
    let functions = c.deref.ensures.value ∙ (ap (λ (i : Inside). i.typed.functions) c.self-inside.view_is ∙ ap (λ (a : PlainAccepted). a.program.functions) c.self.view_is) in
    let source = c.deref-2.ensures.value ∙ (ap (λ (i : Inside). i.source.items) c.self-inside.view_is ∙ ap (λ (a : PlainAccepted). a.source) c.self.view_is) in
    edit_refused c.in-Err.fault c.args.self.now c.args.name.now c.args.text.now c.in_ok-source.source.items c.in-Err.ensures.refused
    (record {
      extent = c.in-Some.extent;
      found = sym (c.in-Some.ensures ∙ ap (λ (fs : List FunctionTree). extent_of fs c.args.name.now) functions);
      is = c.in_ok-source.ensures ∙ ap (λ (s : List ℕ). replaced s c.in-Some.extent c.args.text.now) source;
    })
