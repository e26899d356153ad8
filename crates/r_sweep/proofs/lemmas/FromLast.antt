-- What stays of a list where what goes goes from the last to the first.
use Rattle.std.proofs.Common.{◌≡◌, ◌<◌, ◌-◌, ◌⊎◌, inl, inr, ℕ, zero, suc, ◌==◌, ◌&&◌, not, nat_lt, Bool, true, false, List, [], ◌∷◌, map, length, refl, sym, ap, ◌∙◌, arith}
use Rattle.std.specs.Prelude.{if◌then◌else◌}
use Rattle.std.specs.List.{remove}
use Rattle.std.proofs.lemmas.Bool.{cases_Bool, or_parts}
use Rattle.std.proofs.lemmas.Bool.Decides.{nat_tests}
use Rattle.g_graph.specs.declared.op.Origin.{Origin}
use Rattle.g_graph.specs.declared.op.Origin.TheVariants.{Arg, Out}
use Rattle.g_graph.specs.Plain.{node, NodeTrees, no_nodes, node_then}
use Rattle.g_graph.specs.WellFormed.{some_of}
use Rattle.g_graph.specs.Replace.{nodes_redirected}
use Rattle.g_arena_def.specs.Edits.{output_less, argument_less}
use Rattle.r_edit.specs.Places.{stays_at, kept, place_after}
use Rattle.r_edit.specs.Uses.{nodes_read}
use Rattle.r_edit.specs.Exits.{output_after, is_gone_output}
use Rattle.r_edit.specs.Entries.{argument_after, is_gone_argument}
use Rattle.r_sweep.specs.Removals.{from_last}
use Rattle.g_graph.proofs.lemmas.Unique.{equal_back}

-- ---- lists

pub remove_none : {X : Type 0} (k : ℕ) → remove {X = X} [] k ≡ []
remove_none zero = refl
remove_none (suc k) = refl

-- the places that stay, where so many before these do
abbrev pub behind : ℕ → List Bool → List Bool
behind zero ts = ts
behind (suc k) ts = true ∷ behind k ts

pub behind_true : (k : ℕ) (ts : List Bool) → behind (suc k) ts ≡ behind k (true ∷ ts)
behind_true zero ts = refl
behind_true (suc k) ts = ap (λ us. true ∷ us) (behind_true k ts)

-- what stays behind one that goes
pub kept_less : {X : Type 0} (k : ℕ) (ts : List Bool) (xs : List X) → remove (kept (behind k (true ∷ ts)) xs) k ≡ kept (behind k (false ∷ ts)) xs
kept_less k ts [] = remove_none k
kept_less zero ts (x ∷ xs) = refl
kept_less (suc k) ts (x ∷ xs) = ap (λ ys. x ∷ ys) (kept_less k ts xs)

kept_whole : {X : Type 0} (k : ℕ) (xs : List X) → kept (behind k []) xs ≡ xs
kept_whole k [] = refl
kept_whole zero (x ∷ xs) = refl
kept_whole (suc k) (x ∷ xs) = ap (λ ys. x ∷ ys) (kept_whole k xs)

pub from_last-kept : {X : Type 0} (k : ℕ) (ts : List Bool) (xs : List X) → from_last (λ j ys. remove ys j) k ts xs ≡ kept (behind k ts) xs
from_last-kept k [] xs = sym (kept_whole k xs)
from_last-kept k (true ∷ ts) xs = from_last-kept (suc k) ts xs ∙ ap (λ us. kept us xs) (behind_true k ts)
from_last-kept k (false ∷ ts) xs = ap (λ ys. remove ys k) (from_last-kept (suc k) ts xs ∙ ap (λ us. kept us xs) (behind_true k ts)) ∙ kept_less k ts xs

pub from_last-second : {X : Type 0} (k : ℕ) (ts : List Bool) (xs : List X) → from_last (λ j ys. remove ys (suc j)) k ts xs ≡ from_last (λ j ys. remove ys j) (suc k) ts xs
from_last-second k [] xs = refl
from_last-second k (true ∷ ts) xs = from_last-second (suc k) ts xs
from_last-second k (false ∷ ts) xs = ap (λ ys. remove ys (suc k)) (from_last-second (suc k) ts xs)

-- ---- places

abbrev less : ℕ → ℕ → ℕ
less k q = if nat_lt k q then q - 1 else q

less_here : (k q : ℕ) → nat_lt k q ≡ true → less k q ≡ q - 1
less_here k q e = ap (λ t. if t then q - 1 else q) e

less_same : (k q : ℕ) → nat_lt k q ≡ false → less k q ≡ q
less_same k q e = ap (λ t. if t then q - 1 else q) e

less_suc : (k q : ℕ) → less (suc k) (suc q) ≡ suc (less k q)
less_suc k q = by (nat_lt k q) refl
  where
    by : (t : Bool) → nat_lt k q ≡ t → (if nat_lt (suc k) (suc q) then suc q - 1 else suc q) ≡ suc (if t then q - 1 else q)
    by true e =
        let b : nat_lt (suc k) (suc q) ≡ true = grind (arith, nat_tests) in
        ap (λ t. if t then suc q - 1 else suc q) b ∙ grind (arith, nat_tests)
    by false e =
        let b : nat_lt (suc k) (suc q) ≡ false = grind (arith, nat_tests) in
        ap (λ t. if t then suc q - 1 else suc q) b

place_true : (ts : List Bool) → place_after ts 0 ≡ 0
place_true [] = refl
place_true (t ∷ ts) = refl

place_less : (k : ℕ) (ts : List Bool) (q : ℕ) → less k (place_after (behind k (true ∷ ts)) q) ≡ place_after (behind k (false ∷ ts)) q
place_less zero ts zero = less_same 0 0 (grind (arith, nat_tests))
place_less zero ts (suc q) =
    let b : nat_lt 0 (suc (place_after ts q)) ≡ true = grind (arith, nat_tests) in
    less_here 0 (suc (place_after ts q)) b ∙ omega arith
place_less (suc k) ts zero = less_same (suc k) 0 (grind (arith, nat_tests))
place_less (suc k) ts (suc q) = less_suc k (place_after (behind k (true ∷ ts)) q) ∙ ap suc (place_less k ts q)

place_whole : (k q : ℕ) → place_after (behind k []) q ≡ q
place_whole zero q = refl
place_whole (suc k) zero = refl
place_whole (suc k) (suc q) = ap suc (place_whole k q)

-- where what stays is found is a place of what is left
place_within : {X : Type 0} (ts : List Bool) (xs : List X) (q : ℕ) → stays_at ts q ≡ true → q < length xs → place_after ts q < length (kept ts xs)
place_within ts [] q s h = absurd (omega (arith, h))
place_within [] (x ∷ xs) q s h = h
place_within (true ∷ ts) (x ∷ xs) zero s h = omega arith
place_within (true ∷ ts) (x ∷ xs) (suc q) s h = omega (arith, place_within ts xs q s (omega (arith, h)))
place_within (false ∷ ts) (x ∷ xs) zero s h = absurd cc
place_within (false ∷ ts) (x ∷ xs) (suc q) s h = place_within ts xs q s (omega (arith, h))

stays_more : (k : ℕ) (ts : List Bool) (q : ℕ) → stays_at (behind k (false ∷ ts)) q ≡ true → stays_at (behind k (true ∷ ts)) q ≡ true
stays_more zero ts zero s = refl
stays_more zero ts (suc q) s = s
stays_more (suc k) ts zero s = s
stays_more (suc k) ts (suc q) s = stays_more k ts q s

-- the place of what stays, by what goes one by one, of which there are as many as the list then has
abbrev pub places : {X : Type 0} → (k : ℕ) → (stays : List Bool) → List X → ℕ → ℕ
places k [] xs q = q
places k (t ∷ ts) xs q =
    let p = places (suc k) ts xs q in
    if t then p else (if nat_lt k p && nat_lt p (length (from_last (λ j ys. remove ys j) (suc k) ts xs)) then p - 1 else p)

pub places_are : {X : Type 0} (k : ℕ) (ts : List Bool) (xs : List X) (q : ℕ) → stays_at (behind k ts) q ≡ true → q < length xs → places k ts xs q ≡ place_after (behind k ts) q
places_are k [] xs q s h = sym (place_whole k q)
places_are k (true ∷ ts) xs q s h =
    places_are (suc k) ts xs q (ap (λ us. stays_at us q) (behind_true k ts) ∙ s) h ∙ ap (λ us. place_after us q) (behind_true k ts)
places_are k (false ∷ ts) xs q s h =
    let more = stays_more k ts q s in
    let rest : places (suc k) ts xs q ≡ place_after (behind k (true ∷ ts)) q =
    places_are (suc k) ts xs q (ap (λ us. stays_at us q) (behind_true k ts) ∙ more) h ∙ ap (λ us. place_after us q) (behind_true k ts) in
    let left : length (from_last (λ j ys. remove ys j) (suc k) ts xs) ≡ length (kept (behind k (true ∷ ts)) xs) =
    ap length (from_last-kept (suc k) ts xs ∙ ap (λ us. kept us xs) (behind_true k ts)) in
    let b : nat_lt (place_after (behind k (true ∷ ts)) q) (length (kept (behind k (true ∷ ts)) xs)) ≡ true =
    within_test (place_after (behind k (true ∷ ts)) q) (length (kept (behind k (true ∷ ts)) xs)) (place_within (behind k (true ∷ ts)) xs q more h) in
    (λ i. if nat_lt k (rest i) && nat_lt (rest i) (left i) then rest i - 1 else rest i)
    ∙ ap (λ t. if nat_lt k (place_after (behind k (true ∷ ts)) q) && t then place_after (behind k (true ∷ ts)) q - 1 else place_after (behind k (true ∷ ts)) q) b
    ∙ alone (nat_lt k (place_after (behind k (true ∷ ts)) q)) (place_after (behind k (true ∷ ts)) q) ∙ place_less k ts q
  where
    within_test : (a b : ℕ) → a < b → nat_lt a b ≡ true
    within_test a b h = grind (arith, nat_tests)

    alone : (t : Bool) (p : ℕ) → (if t && true then p - 1 else p) ≡ (if t then p - 1 else p)
    alone true p = refl
    alone false p = refl

-- ---- origins

-- an origin, after outputs of node n went one by one, and after arguments did
abbrev pub origin_out : {X : Type 0} → ℕ → (k : ℕ) → (stays : List Bool) → List X → Origin → Origin
origin_out n k [] xs o = o
origin_out n k (t ∷ ts) xs o =
    if t then origin_out n (suc k) ts xs o else output_less n k (length (from_last (λ j ys. remove ys j) (suc k) ts xs)) (origin_out n (suc k) ts xs o)

abbrev pub origin_arg : {X : Type 0} → (k : ℕ) → (stays : List Bool) → List X → Origin → Origin
origin_arg k [] xs o = o
origin_arg k (t ∷ ts) xs o =
    if t then origin_arg (suc k) ts xs o else argument_less k (length (from_last (λ j ys. remove ys j) (suc k) ts xs)) (origin_arg (suc k) ts xs o)

out_argument : {X : Type 0} (n k : ℕ) (ts : List Bool) (xs : List X) (j : ℕ) → origin_out n k ts xs (Arg j) ≡ Arg j
out_argument n k [] xs j = refl
out_argument n k (true ∷ ts) xs j = out_argument n (suc k) ts xs j
out_argument n k (false ∷ ts) xs j = ap (output_less n k (length (from_last (λ i ys. remove ys i) (suc k) ts xs))) (out_argument n (suc k) ts xs j)

pub less_other : (n k c m q : ℕ) → (m == n) ≡ false → output_less n k c (Out m q) ≡ Out m q
less_other n k c m q e = ap (λ t. if t && (nat_lt k q && nat_lt q c) then Out m (q - 1) else Out m q) e

pub less_own : (n k c m q : ℕ) → (m == n) ≡ true → output_less n k c (Out m q) ≡ Out m (if nat_lt k q && nat_lt q c then q - 1 else q)
less_own n k c m q e = ap (λ t. if t && (nat_lt k q && nat_lt q c) then Out m (q - 1) else Out m q) e ∙ by (nat_lt k q && nat_lt q c)
  where
    by : (t : Bool) → (if t then Out m (q - 1) else Out m q) ≡ Out m (if t then q - 1 else q)
    by true = refl
    by false = refl

out_other : {X : Type 0} (n k : ℕ) (ts : List Bool) (xs : List X) (m q : ℕ) → (m == n) ≡ false → origin_out n k ts xs (Out m q) ≡ Out m q
out_other n k [] xs m q e = refl
out_other n k (true ∷ ts) xs m q e = out_other n (suc k) ts xs m q e
out_other n k (false ∷ ts) xs m q e =
    let c = length (from_last (λ i ys. remove ys i) (suc k) ts xs) in
    ap (output_less n k c) (out_other n (suc k) ts xs m q e) ∙ less_other n k c m q e

out_own : {X : Type 0} (n k : ℕ) (ts : List Bool) (xs : List X) (m q : ℕ) → (m == n) ≡ true → origin_out n k ts xs (Out m q) ≡ Out m (places k ts xs q)
out_own n k [] xs m q e = refl
out_own n k (true ∷ ts) xs m q e = out_own n (suc k) ts xs m q e
out_own n k (false ∷ ts) xs m q e =
    let c = length (from_last (λ i ys. remove ys i) (suc k) ts xs) in
    ap (output_less n k c) (out_own n (suc k) ts xs m q e) ∙ less_own n k c m (places (suc k) ts xs q) e

-- an output of node n, or an argument, that is not there
abbrev pub is_beyond : (n count : ℕ) → Origin → Bool
is_beyond n c (Arg j) = false
is_beyond n c (Out m q) = (m == n) && not (nat_lt q c)

abbrev pub is_argument_beyond : (count : ℕ) → Origin → Bool
is_argument_beyond c (Arg q) = not (nat_lt q c)
is_argument_beyond c (Out m q) = false

pub is_there : (q c : ℕ) → not (nat_lt q c) ≡ false → q < c
is_there q c e = grind (arith, nat_tests)

stays_there : (t : Bool) → not t ≡ false → t ≡ true
stays_there true e = refl
stays_there false e = absurd cc

pub outputs_are : {X : Type 0} (n : ℕ) (ts : List Bool) (xs : List X) (o : Origin) → is_gone_output n ts o ≡ false → is_beyond n (length xs) o ≡ false → origin_out n 0 ts xs o ≡ output_after n ts o
outputs_are n ts xs (Arg j) g b = out_argument n 0 ts xs j
outputs_are n ts xs (Out m q) g b = by (cases_Bool (m == n))
  where
    by : ((m == n) ≡ true) ⊎ ((m == n) ≡ false) → origin_out n 0 ts xs (Out m q) ≡ (if n == m then Out m (place_after ts q) else Out m q)
    by (inl e) =
        let back : (n == m) ≡ true = equal_back n m ∙ e in
        let stays : stays_at ts q ≡ true = stays_there (stays_at ts q) (sym (ap (λ t. t && not (stays_at ts q)) back) ∙ g) in
        let within : q < length xs = is_there q (length xs) (sym (ap (λ t. t && not (nat_lt q (length xs))) e) ∙ b) in
        out_own n 0 ts xs m q e ∙ ap (Out m) (places_are 0 ts xs q stays within) ∙ sym (ap (λ t. if t then Out m (place_after ts q) else Out m q) back)
    by (inr e) = out_other n 0 ts xs m q e ∙ sym (ap (λ t. if t then Out m (place_after ts q) else Out m q) (equal_back n m ∙ e))

arg_output : {X : Type 0} (k : ℕ) (ts : List Bool) (xs : List X) (m q : ℕ) → origin_arg k ts xs (Out m q) ≡ Out m q
arg_output k [] xs m q = refl
arg_output k (true ∷ ts) xs m q = arg_output (suc k) ts xs m q
arg_output k (false ∷ ts) xs m q = ap (argument_less k (length (from_last (λ i ys. remove ys i) (suc k) ts xs))) (arg_output (suc k) ts xs m q)

arg_own : {X : Type 0} (k : ℕ) (ts : List Bool) (xs : List X) (q : ℕ) → origin_arg k ts xs (Arg q) ≡ Arg (places k ts xs q)
arg_own k [] xs q = refl
arg_own k (true ∷ ts) xs q = arg_own (suc k) ts xs q
arg_own k (false ∷ ts) xs q =
    let c = length (from_last (λ i ys. remove ys i) (suc k) ts xs) in
    ap (argument_less k c) (arg_own (suc k) ts xs q) ∙ by (nat_lt k (places (suc k) ts xs q) && nat_lt (places (suc k) ts xs q) c) (places (suc k) ts xs q)
  where
    by : (t : Bool) (p : ℕ) → (if t then Arg (p - 1) else Arg p) ≡ Arg (if t then p - 1 else p)
    by true p = refl
    by false p = refl

pub arguments_are : {X : Type 0} (ts : List Bool) (xs : List X) (o : Origin) → is_gone_argument ts o ≡ false → is_argument_beyond (length xs) o ≡ false → origin_arg 0 ts xs o ≡ argument_after ts o
arguments_are ts xs (Arg q) g b = arg_own 0 ts xs q ∙ ap Arg (places_are 0 ts xs q (stays_there (stays_at ts q) g) (is_there q (length xs) b))
arguments_are ts xs (Out m q) g b = arg_output 0 ts xs m q

-- ---- uses that come from the same origins

module _ (f g : Origin → Origin) (gone beyond : Origin → Bool) (agree : (o : Origin) → gone o ≡ false → beyond o ≡ false → f o ≡ g o) where
  pub same_origins : (os : List Origin) → some_of gone os ≡ false → some_of beyond os ≡ false → map f os ≡ map g os
  same_origins [] a b = refl
  same_origins (o ∷ os) a b =
      let c = or_parts (gone o) (some_of gone os) a in
      let d = or_parts (beyond o) (some_of beyond os) b in
      λ i. agree o c.0 d.0 i ∷ same_origins os c.1 d.1 i

  pub same_nodes : (ns : NodeTrees) → nodes_read gone ns ≡ false → nodes_read beyond ns ≡ false → nodes_redirected f ns ≡ nodes_redirected g ns
  same_nodes no_nodes a b = refl
  same_nodes (node_then (node id op inputs rs) ns) a b =
      let c = or_parts (some_of gone inputs) (nodes_read gone ns) a in
      let d = or_parts (some_of beyond inputs) (nodes_read beyond ns) b in
      λ i. node_then (node id op (same_origins inputs c.0 d.0 i) rs) (same_nodes ns c.1 d.1 i)
