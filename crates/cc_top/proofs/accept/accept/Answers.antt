use Rattle.std.proofs.Common.{◌∙◌}
use Rattle.cc_top.proofs.AcceptLemmas.{accepted_ends, rejected_ends}
use Rattle.cc_top.proofs.accept.accept.Goals as goal

pub returns-in-Ok-compile : goal.returns-in-Ok-compile
returns-in-Ok-compile g c =
    let found = c.in-Ok-compile.compiled in
    record {
      cause =
          accepted_ends _ _ found.functions c.tell_accepted.result _ _ _ _ c.deref.result.now found.image.items found.rows.items (λ text is. c.deref.ensures.value ∙ c.in-Ok.ensures.bytes text is)
          c.in-Ok-compile.ensures.accepted c.tell_accepted.ensures;
      taken = c.in-Ok.ensures.rest.0;
      rest = c.in-Ok.ensures.rest.1;
    }

pub returns : goal.returns
returns g c = record {
  cause = rejected_ends c.in-Err.outcome _ _ _ c.deref.result.now (λ text is. c.deref.ensures.value ∙ c.in-Ok.ensures.bytes text is) c.in-Err.ensures.err;
  taken = c.in-Ok.ensures.rest.0;
  rest = c.in-Ok.ensures.rest.1;
}
