-- A source that an edit makes is given back where it is not accepted.
use Rattle.std.proofs.Common.{◌≡◌, ℕ, List, refl, sym, subst}
use Rattle.cc_source.specs.Accepted.{Refuses}
use Rattle.cc_source.specs.declared.fault.CompileFault.{CompileFault}
use Rattle.cc_source.specs.declared.fault.CompileFault.TheVariants as compile
use Rattle.cc_session.specs.declared.fault.EditFault.{EditFault}
use Rattle.cc_session.specs.declared.fault.EditFault.TheVariants as fault
use Rattle.cc_session.specs.Accepted.{PlainAccepted}
use Rattle.cc_session.specs.Edits.{given_back, IsReplaced, IsEditRefused, IsNotAccepted}

of_fault : (e : CompileFault) (source : List ℕ) → Refuses e source → IsNotAccepted (given_back e source) source
of_fault (compile.Lex f) source h = ((λ same. absurd cc), (refl, h))
of_fault (compile.Parse f) source h = ((λ same. absurd cc), (refl, h))
of_fault (compile.Check f) source h = ((λ same. absurd cc), (refl, h))
of_fault (compile.Build f) source h = ((λ same. absurd cc), (refl, h))
of_fault compile.NoMemory source h = tt

pub is_not_accepted : (e : CompileFault) (given : EditFault) (read source : List ℕ) → Refuses e read → read ≡ source → given ≡ given_back e source → IsNotAccepted given source
is_not_accepted e given read source h same is = subst (λ g. IsNotAccepted g source) (sym is) (of_fault e source (subst (Refuses e) same h))

pub edit_refused : (given : EditFault) (before : PlainAccepted) (name text source : List ℕ) → IsNotAccepted given source → IsReplaced before name text source → IsEditRefused given before name text
edit_refused (fault.Source e new) before name text source h made = (h.0, (subst (IsReplaced before name text) (sym h.1.0) made, subst (Refuses e) (sym h.1.0) h.1.1))
edit_refused fault.NoMemory before name text source h made = tt
edit_refused _ before name text source h made = absurd h
