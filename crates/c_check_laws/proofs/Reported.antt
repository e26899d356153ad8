-- Broken rules stand at tokens, and those of later declarations later.
use Rattle.std.proofs.Common.{◌≡◌, ◌≤◌, inl, inr, ℕ, refl, sym, ◌∙◌, subst}
use Rattle.std.specs.Prelude.{None, Some, Contains}
use Rattle.std.proofs.lemmas.List.Elements.{All-contains_itself}
use Rattle.c_ast.specs.Grammar.{Fits, One}
use Rattle.c_ast.specs.Nonterminals.{External}
use Rattle.c_ast.specs.Shape.{FollowsGrammar}
use Rattle.c_ast.specs.Spelling.{tokens_of}
use Rattle.c_ast.specs.Tree.{Tree}
use Rattle.c_check_def.specs.declared.refusal_kind.Broken.{Broken}
use Rattle.c_check_def.specs.State.{State}
use Rattle.c_check_def.specs.Externals.{external}
use Rattle.c_check_def.specs.Check.{externals}
use Rattle.c_check_laws.specs.PlaceLaws.{IsPlaceIn, BreaksStandAtTokens, LaterBreaksStandLater}
use Rattle.c_check_laws.proofs.TreePlaces.{AllAt, all_at}
use Rattle.c_check_laws.proofs.Inside.{Within}
use Rattle.c_check_laws.proofs.Files.{external_inside, externals_inside, placed_external, placed_externals}

-- each token of a tree stands at a place in it
own_places : (t : Tree) → AllAt (IsPlaceIn t) t
own_places t = all_at (IsPlaceIn t) (Contains (tokens_of t)) (λ x is. (x, is, refl)) t (All-contains_itself (tokens_of t))

-- what is broken after a state without a broken rule
broken_there : (P : ℕ → Type 0) (s u : State) (b : Broken) → Within P s u → s.broken ≡ None → u.broken ≡ Some b → P b.offset
broken_there P s u b w none is = elim (w.broken b is) [ inl p ↦ p | inr was ↦ absurd (clash (sym none ∙ was)) ]
  where
    clash : None ≡ Some b → ⊥
    clash e = cc

one_there : (t : Tree) (s : State) (b : Broken) → Fits (One External) t → s.broken ≡ None → (external t s).1.broken ≡ Some b → IsPlaceIn t b.offset
one_there t s b fits none is = broken_there (IsPlaceIn t) s (external t s).1 b (external_inside (IsPlaceIn t) t s (placed_external (IsPlaceIn t) t fits (own_places t))) none is

all_there : (t : Tree) (s : State) (b : Broken) → FollowsGrammar t → s.broken ≡ None → (externals t s).1.broken ≡ Some b → IsPlaceIn t b.offset
all_there t s b fits none is = broken_there (IsPlaceIn t) s (externals t s).1 b (externals_inside (IsPlaceIn t) t s (placed_externals (IsPlaceIn t) t fits (own_places t))) none is

pub breaks_stand_at_tokens : BreaksStandAtTokens
breaks_stand_at_tokens = record { one = one_there; all = all_there }

pub later_breaks_stand_later : LaterBreaksStandLater
later_breaks_stand_later before later s r b c fits_before fits_later order none none' is is' =
    let x = all_there before s b fits_before none is in
    let y = one_there later r c fits_later none' is' in
    let P : ℕ → Type 0 = λ n. n ≤ c.offset in
    let Q : ℕ → Type 0 = λ n. x.0.at ≤ n in
    subst P (sym x.2) (subst Q (sym y.2) (order x.0 y.0 x.1 y.1))
