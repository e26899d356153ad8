-- Lists without what stands at some places.
use Rattle.std.proofs.Common.{◌≡◌, ℕ, zero, suc, ◌+◌, Bool, true, false, not, ◌&&◌, ◌||◌, cond, List, [], ◌∷◌, map, Option, None, Some, option_map, slice_get, refl, sym, ap, subst, ◌∙◌, arith}
use Rattle.std.proofs.lemmas.Bool.{and_parts, or_parts, not-true}
use Rattle.std.proofs.lemmas.Option.{same_Some}
use Rattle.g_graph.specs.declared.op.Kind.{Kind}
use Rattle.g_graph.specs.declared.op.Kind.TheVariants.{Value, Memory, Io}
use Rattle.g_graph.specs.Scope.{is_of, last_index}
use Rattle.g_graph.specs.WellFormed.{all_of, some_of, at_most_one, one_state_each}
use Rattle.r_edit.specs.Places.{stays_at, kept, place_after, drops_values}

pub kept_none : {X : Type 0} (xs : List X) → kept [] xs ≡ xs
kept_none [] = refl
kept_none (x ∷ xs) = refl

pub kept_map : {X Y : Type 0} (stays : List Bool) (f : X → Y) (xs : List X) → map f (kept stays xs) ≡ kept stays (map f xs)
kept_map [] f [] = refl
kept_map (t ∷ ts) f [] = refl
kept_map [] f (x ∷ xs) = refl
kept_map (true ∷ ts) f (x ∷ xs) = ap (λ ys. f x ∷ ys) (kept_map ts f xs)
kept_map (false ∷ ts) f (x ∷ xs) = kept_map ts f xs

pub kept_get : {X : Type 0} (stays : List Bool) (xs : List X) (k : ℕ) → stays_at stays k ≡ true → slice_get (kept stays xs) (place_after stays k) ≡ slice_get xs k
kept_get stays [] k e = refl
kept_get [] (x ∷ xs) k e = refl
kept_get (true ∷ ts) (x ∷ xs) zero e = refl
kept_get (true ∷ ts) (x ∷ xs) (suc k) e = kept_get ts xs k e
kept_get (false ∷ ts) (x ∷ xs) zero e = absurd cc
kept_get (false ∷ ts) (x ∷ xs) (suc k) e = kept_get ts xs k e

pub all_kept : {X : Type 0} (test : X → Bool) (stays : List Bool) (xs : List X) → all_of test xs ≡ true → all_of test (kept stays xs) ≡ true
all_kept test stays [] e = refl
all_kept test [] (x ∷ xs) e = e
all_kept test (true ∷ ts) (x ∷ xs) e =
    let both = and_parts (test x) (all_of test xs) e in
    let rest = all_kept test ts xs both.1 in
    λ i. both.0 i && rest i
all_kept test (false ∷ ts) (x ∷ xs) e = all_kept test ts xs (and_parts (test x) (all_of test xs) e).1

-- ---- tests

pub is_not : (b : Bool) → not b ≡ false → b ≡ true
is_not true e = refl
is_not false e = absurd cc

-- ---- kinds of which only values go

-- a state
pub data IsState : Kind → Type 0 where
  memory : IsState Memory
  io : IsState Io

no_state : (k : Kind) → IsState k → (x : Option Kind) → is_of Value x ≡ true → is_of k x ≡ false
no_state Memory memory (Some Value) e = refl
no_state Io io (Some Value) e = refl
no_state Value s (Some Value) e = elim s [ ]
no_state k s None e = absurd cc
no_state k s (Some Memory) e = absurd cc
no_state k s (Some Io) e = absurd cc

pub some_state : (k : Kind) → IsState k → (stays : List Bool) (ks : List (Option Kind)) → drops_values stays ks ≡ true → some_of (is_of k) (kept stays ks) ≡ some_of (is_of k) ks
some_state k s stays [] e = refl
some_state k s [] (x ∷ ks) e = refl
some_state k s (true ∷ ts) (x ∷ ks) e = ap (λ b. is_of k x || b) (some_state k s ts ks e)
some_state k s (false ∷ ts) (x ∷ ks) e =
    let both = and_parts (is_of Value x) (drops_values ts ks) e in
    some_state k s ts ks both.1 ∙ ap (λ b. b || some_of (is_of k) ks) (sym (no_state k s x both.0))

one_state : (k : Kind) → IsState k → (stays : List Bool) (ks : List (Option Kind)) → drops_values stays ks ≡ true → at_most_one k (kept stays ks) ≡ at_most_one k ks
one_state k s stays [] e = refl
one_state k s [] (x ∷ ks) e = refl
one_state k s (true ∷ ts) (x ∷ ks) e = λ i. cond (is_of k x) (not (some_state k s ts ks e i)) (one_state k s ts ks e i)
one_state k s (false ∷ ts) (x ∷ ks) e =
    let both = and_parts (is_of Value x) (drops_values ts ks) e in
    one_state k s ts ks both.1 ∙ ap (λ b. cond b (not (some_of (is_of k) ks)) (at_most_one k ks)) (sym (no_state k s x both.0))

pub states_kept : (stays : List Bool) (ks : List (Option Kind)) → drops_values stays ks ≡ true → one_state_each (kept stays ks) ≡ one_state_each ks
states_kept stays ks e = λ i. one_state Memory memory stays ks e i && one_state Io io stays ks e i

-- the last of a kind of state is found at its new place
last_from : (k : Kind) → IsState k → (stays : List Bool) (g : ℕ → ℕ) (first now : ℕ) (ks : List (Option Kind)) (found : Option ℕ) → drops_values stays ks ≡ true →
    ((j : ℕ) → stays_at stays j ≡ true → g (first + j) ≡ now + place_after stays j) → last_index k now (kept stays ks) (option_map g found) ≡ option_map g (last_index k first ks found)
last_from k s stays g first now [] found e h = refl
last_from k s [] g first now (x ∷ ks) found e h =
    ap (last_index k (suc now) ks) (here (is_of k x)) ∙ ap (λ zs. last_index k (suc now) zs (option_map g (cond (is_of k x) (Some first) found))) (sym (kept_none ks))
    ∙ last_from k s [] g (suc first) (suc now) ks (cond (is_of k x) (Some first) found) refl (λ j t. ap g (omega arith) ∙ h (suc j) refl ∙ omega arith)
  where
    at_first : g first ≡ now
    at_first = ap g (omega arith) ∙ h 0 refl ∙ omega arith

    here : (t : Bool) → cond t (Some now) (option_map g found) ≡ option_map g (cond t (Some first) found)
    here true = ap Some (sym at_first)
    here false = refl
last_from k s (true ∷ ts) g first now (x ∷ ks) found e h =
    ap (last_index k (suc now) (kept ts ks)) (here (is_of k x))
    ∙ last_from k s ts g (suc first) (suc now) ks (cond (is_of k x) (Some first) found) e (λ j t. ap g (omega arith) ∙ h (suc j) t ∙ omega arith)
  where
    at_first : g first ≡ now
    at_first = ap g (omega arith) ∙ h 0 refl ∙ omega arith

    here : (t : Bool) → cond t (Some now) (option_map g found) ≡ option_map g (cond t (Some first) found)
    here true = ap Some (sym at_first)
    here false = refl
last_from k s (false ∷ ts) g first now (x ∷ ks) found e h =
    let both = and_parts (is_of Value x) (drops_values ts ks) e in
    last_from k s ts g (suc first) now ks found both.1 (λ j t. ap g (omega arith) ∙ h (suc j) t)
    ∙ ap (λ b. option_map g (last_index k (suc first) ks (cond b (Some first) found))) (sym (no_state k s x both.0))

pub from_none : (stays : List Bool) (j : ℕ) → place_after stays (0 + j) ≡ 0 + place_after stays j
from_none stays j =
    let left : 0 + j ≡ j = omega arith in
    let right : place_after stays j ≡ 0 + place_after stays j = omega arith in
    ap (place_after stays) left ∙ right

pub last_kept : (k : Kind) → IsState k → (stays : List Bool) (ks : List (Option Kind)) → drops_values stays ks ≡ true →
    last_index k 0 (kept stays ks) None ≡ option_map (place_after stays) (last_index k 0 ks None)
last_kept k s stays ks e = last_from k s stays (place_after stays) 0 0 ks None e (λ j t. from_none stays j)

-- ---- kinds of which states may go too

pub some_fewer : {X : Type 0} (test : X → Bool) (stays : List Bool) (xs : List X) → some_of test xs ≡ false → some_of test (kept stays xs) ≡ false
some_fewer test stays [] e = refl
some_fewer test [] (x ∷ xs) e = e
some_fewer test (true ∷ ts) (x ∷ xs) e =
    let both = or_parts (test x) (some_of test xs) e in
    let rest = some_fewer test ts xs both.1 in
    λ i. both.0 i || rest i
some_fewer test (false ∷ ts) (x ∷ xs) e = some_fewer test ts xs (or_parts (test x) (some_of test xs) e).1

none_is_one : (k : Kind) (ks : List (Option Kind)) → some_of (is_of k) ks ≡ false → at_most_one k ks ≡ true
none_is_one k [] e = refl
none_is_one k (x ∷ ks) e =
    let both = or_parts (is_of k x) (some_of (is_of k) ks) e in
    ap (λ b. cond b (not (some_of (is_of k) ks)) (at_most_one k ks)) both.0 ∙ none_is_one k ks both.1

one_fewer : (k : Kind) (stays : List Bool) (ks : List (Option Kind)) → at_most_one k ks ≡ true → at_most_one k (kept stays ks) ≡ true
one_fewer k stays [] e = refl
one_fewer k [] (x ∷ ks) e = e
one_fewer k (true ∷ ts) (x ∷ ks) e = by (is_of k x) e (one_fewer k ts ks)
  where
    by : (t : Bool) → cond t (not (some_of (is_of k) ks)) (at_most_one k ks) ≡ true → (at_most_one k ks ≡ true → at_most_one k (kept ts ks) ≡ true) →
        cond t (not (some_of (is_of k) (kept ts ks))) (at_most_one k (kept ts ks)) ≡ true
    by true d rest = ap not (some_fewer (is_of k) ts ks (not-true (some_of (is_of k) ks) d))
    by false d rest = rest d
one_fewer k (false ∷ ts) (x ∷ ks) e = by (is_of k x) e (one_fewer k ts ks)
  where
    by : (t : Bool) → cond t (not (some_of (is_of k) ks)) (at_most_one k ks) ≡ true → (at_most_one k ks ≡ true → at_most_one k (kept ts ks) ≡ true) → at_most_one k (kept ts ks) ≡ true
    by true d rest = none_is_one k (kept ts ks) (some_fewer (is_of k) ts ks (not-true (some_of (is_of k) ks) d))
    by false d rest = rest d

pub states_fewer : (stays : List Bool) (ks : List (Option Kind)) → one_state_each ks ≡ true → one_state_each (kept stays ks) ≡ true
states_fewer stays ks e =
    let both = and_parts (at_most_one Memory ks) (at_most_one Io ks) e in
    λ i. one_fewer Memory stays ks both.0 i && one_fewer Io stays ks both.1 i

-- the last of a kind is found at its new place, where it stays
pub last_follows : (k : Kind) (good : ℕ → Type 0) (g : ℕ → ℕ) (stays : List Bool) (first now : ℕ) (ks : List (Option Kind)) (found there : Option ℕ) →
    ((j : ℕ) → good (first + j) → stays_at stays j ≡ true) → ((j : ℕ) → stays_at stays j ≡ true → g (first + j) ≡ now + place_after stays j) →
    ((j : ℕ) → found ≡ Some j → good j → there ≡ Some (g j)) → (j : ℕ) → last_index k first ks found ≡ Some j → good j → last_index k now (kept stays ks) there ≡ Some (g j)
last_follows k good g stays first now [] found there a b h j e t = h j e t
last_follows k good g [] first now (x ∷ ks) found there a b h j e t =
    ap (λ zs. last_index k (suc now) zs (cond (is_of k x) (Some now) there)) (sym (kept_none ks))
    ∙ last_follows k good g [] (suc first) (suc now) ks (cond (is_of k x) (Some first) found) (cond (is_of k x) (Some now) there) (λ i d. refl)
    (λ i d. ap g (omega arith) ∙ b (suc i) refl ∙ omega arith) (here (is_of k x)) j e t
  where
    at_first : g first ≡ now
    at_first = ap g (omega arith) ∙ b 0 refl ∙ omega arith

    here : (s : Bool) (i : ℕ) → cond s (Some first) found ≡ Some i → good i → cond s (Some now) there ≡ Some (g i)
    here true i d c = ap Some (sym at_first ∙ ap g (same_Some first i d))
    here false i d c = h i d c
last_follows k good g (true ∷ ts) first now (x ∷ ks) found there a b h j e t =
    last_follows k good g ts (suc first) (suc now) ks (cond (is_of k x) (Some first) found) (cond (is_of k x) (Some now) there) (λ i d. a (suc i) (subst good (omega arith) d))
    (λ i d. ap g (omega arith) ∙ b (suc i) d ∙ omega arith) (here (is_of k x)) j e t
  where
    at_first : g first ≡ now
    at_first = ap g (omega arith) ∙ b 0 refl ∙ omega arith

    here : (s : Bool) (i : ℕ) → cond s (Some first) found ≡ Some i → good i → cond s (Some now) there ≡ Some (g i)
    here true i d c = ap Some (sym at_first ∙ ap g (same_Some first i d))
    here false i d c = h i d c
last_follows k good g (false ∷ ts) first now (x ∷ ks) found there a b h j e t =
    last_follows k good g ts (suc first) now ks (cond (is_of k x) (Some first) found) there (λ i d. a (suc i) (subst good (omega arith) d)) (λ i d. ap g (omega arith) ∙ b (suc i) d)
    (here (is_of k x)) j e t
  where
    at_first : {i : ℕ} → first ≡ i → i ≡ first + 0
    at_first {i} f = omega (arith, f)

    here : (s : Bool) (i : ℕ) → cond s (Some first) found ≡ Some i → good i → there ≡ Some (g i)
    here true i d c = let wrong : false ≡ true = a 0 (subst good (at_first (same_Some first i d)) c) in absurd cc
    here false i d c = h i d c

-- ---- kinds that all are there
