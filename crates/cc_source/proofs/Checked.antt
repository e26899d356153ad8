-- What is accepted is well typed and within its limits.
use Rattle.std.proofs.Common.{◌≡◌, ◌≤◌, ℕ, Bool, true, false, List, length, refl, sym, subst}
use Rattle.std.specs.Prelude.{All, Option, None, Some, Ok, Err, if◌then◌else◌}
use Rattle.std.proofs.lemmas.List.{length-map}
use Rattle.base.specs.Limits.{most_tokens}
use Rattle.c_lex.specs.Grammar.{TokensAreLongest}
use Rattle.c_lex.specs.declared.token.Token.{Token}
use Rattle.c_ast.specs.Spelling.{kinds}
use Rattle.c_ast.specs.Tree.{Tree}
use Rattle.c_typed.specs.Typed.{ProgramTree}
use Rattle.c_check_def.specs.declared.refusal_kind.Broken.{Broken}
use Rattle.c_check_def.specs.Check.{check, judged, has_main, or_refused, program_of, externals, initial_state, defined_in}
use Rattle.c_check_def.specs.CheckLaws.{IsInRange, AcceptedAreWellTyped}
use Rattle.c_check_def.specs.Limits.{above_limits}
use Rattle.c_check_def.specs.Refusals.{Refusal, no_main}
use Rattle.c_check_def.specs.State.{State}
use Rattle.cc_source.specs.SourceLaws.{TokensAreInRange, CheckedAreWellTyped}

-- ---- the limits

limits_kept : (p q : ProgramTree) (o : Option Refusal) → above_limits p ≡ o → or_refused p o ≡ Ok q → above_limits q ≡ None
limits_kept p q None is h = let same : p ≡ q = cc in subst (λ (x : ProgramTree). above_limits x ≡ None) same is
limits_kept p q (Some r) is h = absurd cc

judged_within : (n : ℕ) (s : State) (o : Option Broken) (p : ProgramTree) → judged n s o ≡ Ok p → above_limits p ≡ None
judged_within n s (Some b) p h = absurd cc
judged_within n s None p h = by_main (has_main s) h
  where
    by_main : (b : Bool) → (if b then or_refused (program_of s) (above_limits (program_of s)) else Err (no_main n)) ≡ Ok p → above_limits p ≡ None
    by_main true e = limits_kept (program_of s) p (above_limits (program_of s)) refl e
    by_main false e = absurd cc

checked_within : (t : Tree) (n : ℕ) (p : ProgramTree) → check t n ≡ Ok p → above_limits p ≡ None
checked_within t n p h = let s = (externals t (initial_state (defined_in t))).1 in judged_within n s s.broken p h

-- ---- both

pub checked_well_typed : TokensAreLongest → TokensAreInRange → AcceptedAreWellTyped → CheckedAreWellTyped
checked_well_typed longest in_range typed source all ts lexed t follows spells n p h =
    let back = sym spells in
    let range = subst (λ (xs : List Token). All IsInRange (kinds xs)) back (in_range source all ts lexed) in
    let few : length (kinds ts) ≤ most_tokens = subst (λ m. m ≤ most_tokens) (sym (length-map ts (λ (x : Token). x.kind))) ((longest source ts).0 lexed).1 in
    (typed t follows range (subst (λ (xs : List Token). length (kinds xs) ≤ most_tokens) back few) n p h, checked_within t n p h)
