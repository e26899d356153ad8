-- Shared places are safe at each instruction.
use Rattle.std.proofs.Common.{◌≡◌, ◌≢◌, ◌<◌, ℕ, Bool, true, false, not, ◌&&◌, List, [], ◌∷◌, refl, sym, ap, ◌∙◌, inl, inr, arith}
use Rattle.std.specs.Prelude.{◌==◌, nat_lt}
use Rattle.std.proofs.lemmas.Bool.{or_cases, and_parts, or_left, or_right}
use Rattle.std.proofs.lemmas.Bool.Decides.{nat_tests}
use Rattle.g_graph.specs.WellFormed.{some_of}
use Rattle.val_core.specs.Numbers.{numbers_from}
use Rattle.s_linear.specs.Linear.{Instr, LinearFunction}
use Rattle.a_place.specs.Places.{among}
use Rattle.a_place.specs.Share.{Names, Site, does, tests, sites, code_names, all_names, writes, meets, clash_at, clash, moves_from, is_call, is_long_at, is_long}
use Rattle.a_place.specs.ShareLaws.{shared_place, IsSafeAt, AreSafe, SharedSitesAreSafe, SharedParamsDiffer}
use Rattle.a_place.proofs.lemmas.Order.{among_numbers, among_left, among_right}
use Rattle.a_place.proofs.lemmas.SharedApart.{clashing_names_differ, long_names_kept}
use Rattle.a_place.proofs.lemmas.Named.{AreWithin, IsWithin, IsNamed, AreNamed, named_code}

-- ---- what a clash says

needed_there : (i : Instr) (N : Names) (x : ℕ) → meets i N x ≡ true → N x ≡ true
needed_there i N x m = (and_parts (N x) (not (writes i x) && not (moves_from i x)) m).0

not_written : (i : Instr) (N : Names) (x : ℕ) → meets i N x ≡ true → not (writes i x) ≡ true
not_written i N x m =
    (and_parts (not (writes i x)) (not (moves_from i x)) (and_parts (N x) (not (writes i x) && not (moves_from i x)) m).1).0

no_other : (b : Bool) → b ≡ true → not b ≡ true → ⊥
no_other true e n = cc
no_other false e n = cc

written_and_met : (i : Instr) (N : Names) (x y : ℕ) → writes i x ≡ true → meets i N y ≡ true → x ≢ y
written_and_met i N x y w m e = no_other (writes i y) (ap (writes i) (sym e) ∙ w) (not_written i N y m)

clash_of : (f : LinearFunction) (x y : ℕ) → some_of (clash_at x y) (sites f) ≡ true → clash f.params (sites f) x y ≡ true
clash_of f x y e = or_right (nat_lt x f.params && nat_lt y f.params) (some_of (clash_at x y) (sites f)) e

apart_at : (f : LinearFunction) (d : ℕ) (i : Instr) (N : Names) (x y : ℕ) → IsNamed (all_names f) (does d i N) → clash_at x y (does d i N) ≡ true
    → some_of (clash_at x y) (sites f) ≡ true → shared_place f x ≢ shared_place f y
apart_at f d i N x y n e c =
    elim (or_cases (writes i x && meets i N y) (writes i y && meets i N x) e) [
      | inl first ↦
          let parts = and_parts (writes i x) (meets i N y) first in
          clashing_names_differ f x y (n.0 x parts.0) (n.1 y (needed_there i N y parts.1)) (written_and_met i N x y parts.0 parts.1)
          (clash_of f x y c)
      | inr second ↦
          let parts = and_parts (writes i y) (meets i N x) second in
          clashing_names_differ f x y (n.1 x (needed_there i N x parts.1)) (n.0 y parts.0)
          (λ q. written_and_met i N y x parts.0 parts.1 (sym q)) (clash_of f x y c)
    ]

long_needed : (d : ℕ) (i : Instr) (N : Names) (x : ℕ) → is_long_at x (does d i N) ≡ true → N x ≡ true
long_needed d i N x e = (and_parts (N x) (not (writes i x)) (and_parts (is_call i) (N x && not (writes i x)) e).1).0

-- ---- each site

safe_at : (f : LinearFunction) (s : Site) → ((x y : ℕ) → clash_at x y s ≡ true → some_of (clash_at x y) (sites f) ≡ true)
    → ((x : ℕ) → is_long_at x s ≡ true → is_long (sites f) x ≡ true) → IsNamed (all_names f) s → IsSafeAt (shared_place f) s
safe_at f (tests d p) c l n = record { apart = λ x y e. cc; kept = λ x e. cc }
safe_at f (does d i N) c l n = record {
  apart = λ x y e. apart_at f d i N x y n e (c x y e);
  kept = λ x e. long_names_kept f x (n.1 x (long_needed d i N x e)) (l x e);
}

-- what holds at some of these sites holds at some of all
record IsPart (some all : List Site) : Type 0 where
  clashes : (x y : ℕ) → some_of (clash_at x y) some ≡ true → some_of (clash_at x y) all ≡ true
  longs : (x : ℕ) → is_long some x ≡ true → is_long all x ≡ true

part_tail : (s : Site) (ss all : List Site) → IsPart (s ∷ ss) all → IsPart ss all
part_tail s ss all h = record {
  clashes = λ x y e. h.clashes x y (or_right (clash_at x y s) (some_of (clash_at x y) ss) e);
  longs = λ x e. h.longs x (or_right (is_long_at x s) (is_long ss x) e);
}

safe_all : (f : LinearFunction) (ss : List Site) → IsPart ss (sites f) → AreNamed (all_names f) ss → AreSafe (shared_place f) ss
safe_all f [] h n = tt
safe_all f (s ∷ ss) h n = (
  safe_at f s (λ x y e. h.clashes x y (or_left (clash_at x y s) (some_of (clash_at x y) ss) e))
      (λ x e. h.longs x (or_left (is_long_at x s) (is_long ss x) e)) n.0,
  safe_all f ss (part_tail s ss (sites f) h) n.1,
)

-- ---- the function

code_within : (f : LinearFunction) → AreWithin (code_names f.code) (all_names f)
code_within f x e =
    among_right x (numbers_from 0 f.params) (f.value ∷ code_names f.code) (or_right (f.value == x) (among x (code_names f.code)) e)

value_within : (f : LinearFunction) → IsWithin (λ x. f.value == x) (all_names f)
value_within f x e =
    among_right x (numbers_from 0 f.params) (f.value ∷ code_names f.code) (or_left (f.value == x) (among x (code_names f.code)) e)

param_within : (f : LinearFunction) (x : ℕ) → x < f.params → among x (all_names f) ≡ true
param_within f x h =
    among_left x (numbers_from 0 f.params) (f.value ∷ code_names f.code) (among_numbers x 0 f.params (omega arith) (omega arith))

pub shared_sites_are_safe : SharedSitesAreSafe
shared_sites_are_safe f =
    safe_all f (sites f) (record { clashes = λ x y e. e; longs = λ x e. e })
    (named_code (all_names f) 0 f.code (λ x. f.value == x) (code_within f) (value_within f))

below : (x n : ℕ) → x < n → nat_lt x n ≡ true
below x n h = grind (arith, nat_tests)

pub shared_params_differ : SharedParamsDiffer
shared_params_differ f x y hx hy ne =
    clashing_names_differ f x y (param_within f x hx) (param_within f y hy) ne
    (or_left (nat_lt x f.params && nat_lt y f.params) (some_of (clash_at x y) (sites f)) (rw (below x f.params hx, below y f.params hy) refl))
