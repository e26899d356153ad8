use Rattle.std.proofs.Common.{ℕ, List, refl, ap, subst}
use Rattle.cc_source.specs.Accepted.{Accepts}
use Rattle.cc_session.specs.Session.{PlainSession}
use Rattle.cc_session.proofs.session.Session.replace.Goals as goal

pub invariant_of-self : goal.invariant_of-self
invariant_of-self c = record { accepted = c.in-Ok.ensures.edited.accepted; is_last = c.self.invariant.is_last; is_form = c.self.invariant.is_form }

pub same-self : goal.same-self
same-self c = refl

pub returns-in-Ok-clause-replaced : goal.returns-in-Ok-clause-replaced
returns-in-Ok-clause-replaced c =
    let source = ap (λ (s : PlainSession). s.source) c.self.view_is in
    record {
      before = c.self.inside.current;
      source_was = source;
      accepted = subst (λ (s : List ℕ). Accepts s c.self.inside.current.program) source c.self.invariant.accepted;
      after = c.in-Ok.after;
      edited = c.in-Ok.ensures.edited;
      new_is = ap (λ (s : PlainSession). record { source = c.in-Ok.after.source; recipe = s.recipe; form = s.form; last = s.last }) c.self.view_is;
    }

pub returns-in-Err-clause-refused : goal.returns-in-Err-clause-refused
returns-in-Err-clause-refused c =
    let source = ap (λ (s : PlainSession). s.source) c.self.view_is in
    record {
      before = c.self.inside.current;
      source_was = source;
      accepted = subst (λ (s : List ℕ). Accepts s c.self.inside.current.program) source c.self.invariant.accepted;
      refused = c.in-Err.ensures.refused;
    }

pub returns-in-Err-clause-unchanged : goal.returns-in-Err-clause-unchanged
returns-in-Err-clause-unchanged c = refl
