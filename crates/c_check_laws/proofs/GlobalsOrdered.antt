-- The globals of an accepted source stand in order of place.
use Rattle.std.proofs.Common.{◌≡◌, ℕ, suc, Bool, true, false, List, [], ◌∷◌, length, map, refl, sym, ap, subst, arith, append-nil}
use Rattle.std.specs.Prelude.{Option, None, Some, Ok, Err, if◌then◌else◌}
use Rattle.std.specs.List.Sorted.{IsStrictlyIncreasing}
use Rattle.c_lex.specs.Grammar.{TokensAreLongest, Reads, done, trivia, token}
use Rattle.c_lex.specs.declared.token.Token.{Token}
use Rattle.c_ast.specs.Productions as l
use Rattle.c_ast.specs.Nonterminals as class
use Rattle.c_ast.specs.Grammar as grammar
use Rattle.c_ast.specs.Spelling.{spelled}
use Rattle.c_typed.specs.Typed.{GlobalTree, ProgramTree}
use Rattle.c_check_def.specs.declared.refusal_kind.Broken.{Broken}
use Rattle.c_check_def.specs.Refusals.{Refusal, no_main}
use Rattle.c_check_def.specs.State.{Global, State}
use Rattle.c_check_def.specs.Limits.{above_limits}
use Rattle.c_check_def.specs.Check.{defined_in, initial_state, externals, global_tree, program_of, has_main, or_refused, judged}
use Rattle.c_check_laws.specs.PlaceLaws.{GlobalsStandInOrder}
use Rattle.c_check_laws.proofs.Order.{IncreasesFrom, from_less, increasing, places, offsets, InOrder, named}
use Rattle.c_check_laws.proofs.OrderFiles.{externals_order}

-- the tokens of a source from an offset on
reads_increase : (source : List ℕ) (to at : ℕ) (ts : List Token) → Reads source to at ts → IncreasesFrom at (offsets ts)
reads_increase source to at _ (done _ e) = tt
reads_increase source to at ts (trivia _ end _ less within g rest) = from_less at end (offsets ts) (omega (arith, less)) (reads_increase source to end ts rest)
reads_increase source to _ _ (token t ts stands rest) = let some = stands.some in (omega arith, from_less (suc t.at) t.end (offsets ts) (omega (arith, some)) (reads_increase source to t.end ts rest))

accepted_program : (n : ℕ) (s : State) (o : Option Broken) (p : ProgramTree) → judged n s o ≡ Ok p → program_of s ≡ p
accepted_program n s (Some b) p h = absurd cc
accepted_program n s None p h = by_main (has_main s) (above_limits (program_of s)) h
  where
    by_main : (b : Bool) (r : Option Refusal) → (if b then or_refused (program_of s) r else Err (no_main n)) ≡ Ok p → program_of s ≡ p
    by_main true None e = cc
    by_main true (Some r) e = absurd cc
    by_main false r e = absurd cc

same_places : (gs : List Global) → places gs ≡ map (λ (g : GlobalTree). g.at) (map global_tree gs)
same_places [] = refl
same_places (g ∷ gs) = ap (λ ns. g.offset ∷ ns) (same_places gs)

pub globals_stand_in_order : TokensAreLongest → GlobalsStandInOrder
globals_stand_in_order longest source ts lexed t follows spells n p h =
    let s = initial_state (defined_in t) in
    let u = (externals t s).1 in
    let tokens = reads_increase source (length source) 0 ts ((longest source ts).0 lexed).2 in
    let before : InOrder s (spelled t []) = record { increases = subst (λ xs. IncreasesFrom 0 (offsets xs)) (sym spells) tokens } in
    let after = (externals_order t s (named (grammar.One (class.Many l.Externals)) t follows)).keeps [] before in
    let ordered = increasing 0 (places u.globals) (subst (IncreasesFrom 0) (append-nil (places u.globals)) after.increases) in
    subst (λ (q : ProgramTree). IsStrictlyIncreasing (map (λ (g : GlobalTree). g.at) q.globals)) (accepted_program n u u.broken p h)
    (subst IsStrictlyIncreasing (same_places u.globals) ordered)
