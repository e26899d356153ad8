-- The code's list of variables, with the places of its slots.
use Rattle.std.proofs.Common.{◌≡◌, ℕ, zero, suc, ◌+◌, ◌-◌, ◌≤◌, true, false, List, [], ◌∷◌, ◌++◌, length, map, take, drop, get_or, Bor, ◌<◌, append_assoc, refl, sym, ap, ◌∙◌, arith}
use Rattle.std.specs.Prelude.{Option, None, Some, IfSome, MatchOption, option_copied, option_map, option_and_then, slice_get, slice_set}
use Rattle.std.specs.List.{HoldsAt}
use Rattle.g_graph.specs.declared.op.Origin.{Origin}
use Rattle.g_graph.specs.declared.op.Origin.TheVariants.{Arg}
use Rattle.g_build_def.specs.Writer.{SlotOrigin, held, object, hidden, variable_at, variable_set, newest, without_newest, slot_origin, value_origins, numbered}
use Rattle.g_build_expression.specs.declared.variables.InScope.{InScope}
use Rattle.g_build_expression.specs.SlotViews.{slot_of}
use Rattle.g_build_expression.specs.Places.{is_hidden, slot_places, slot_set, held_set}
use Rattle.g_build_expression.specs.Numbers.{origin_from, slot_at, slot_values}
use Rattle.g_build_expression.proofs.Renaming.{numbered_step}
use Rattle.g_build_expression.proofs.Slots.{at_place, set_found, set_place, places_append, places_numbered, places_set, length_more}
use Rattle.std.proofs.lemmas.List.{length-map}
use Rattle.g_build_def.proofs.lemmas.Later.{without_newest_append}

get_map : {X Y : Type 0} → (f : X → Y) (xs : List X) (i : ℕ) → option_map f (slice_get xs i) ≡ slice_get (map f xs) i
get_map f [] i = refl
get_map f (x ∷ xs) zero = refl
get_map f (x ∷ xs) (suc i) = get_map f xs i

map_append : {X Y : Type 0} → (f : X → Y) (xs ys : List X) → map f (xs ++ ys) ≡ map f xs ++ map f ys
map_append f [] ys = refl
map_append f (x ∷ xs) ys = ap (λ zs. f x ∷ zs) (map_append f xs ys)

-- ---- by slot

pub at_found : (xs : List InScope) (ps : List ℕ) (k i : ℕ) (r : Option InScope) → ps ≡ slot_places 0 (map slot_of xs) → slice_get ps k ≡ Some i → r ≡ slice_get xs i →
    option_map slot_of r ≡ variable_at (map slot_of xs) k
at_found xs ps k i r e h g =
    ap (option_map slot_of) g ∙ get_map slot_of xs i ∙ sym (ap (option_and_then (slice_get (map slot_of xs))) (ap (λ qs. slice_get qs k) (sym e) ∙ h))
    ∙ sym (at_place [] (map slot_of xs) k)

pub at_missing : (xs : List InScope) (ps : List ℕ) (k : ℕ) → ps ≡ slot_places 0 (map slot_of xs) → slice_get ps k ≡ None → None ≡ variable_at (map slot_of xs) k
at_missing xs ps k e h =
    sym (ap (option_and_then (slice_get (map slot_of xs))) (ap (λ qs. slice_get qs k) (sym e) ∙ h)) ∙ sym (at_place [] (map slot_of xs) k)

pub set_at_found : (xs ys : List InScope) (ps : List ℕ) (k i : ℕ) (p : Origin) → ps ≡ slot_places 0 (map slot_of xs) → slice_get ps k ≡ Some i →
    map slot_of ys ≡ held_set (map slot_of xs) i p → map slot_of ys ≡ variable_set (map slot_of xs) k p
set_at_found xs ys ps k i p e h g =
    g ∙ sym (ap (λ o. set_found o (map slot_of xs) p) (ap (λ qs. slice_get qs k) (sym e) ∙ h)) ∙ sym (set_place [] (map slot_of xs) k p)

pub set_at_missing : (xs : List InScope) (ps : List ℕ) (k : ℕ) (p : Origin) → ps ≡ slot_places 0 (map slot_of xs) → slice_get ps k ≡ None →
    map slot_of xs ≡ variable_set (map slot_of xs) k p
set_at_missing xs ps k p e h =
    sym (ap (λ o. set_found o (map slot_of xs) p) (ap (λ qs. slice_get qs k) (sym e) ∙ h)) ∙ sym (set_place [] (map slot_of xs) k p)

set_keeps_length : (xs : List SlotOrigin) (i : ℕ) (p : Origin) → length (held_set xs i p) ≡ length xs
set_keeps_length [] i p = refl
set_keeps_length (x ∷ xs) zero p = refl
set_keeps_length (x ∷ xs) (suc i) p = ap suc (set_keeps_length xs i p)

pub set_keeps : (xs ys : List InScope) (ps : List ℕ) (i : ℕ) (p : Origin) → ps ≡ slot_places 0 (map slot_of xs) → map slot_of ys ≡ held_set (map slot_of xs) i p →
    (length ys ≡ length xs) × (ps ≡ slot_places 0 (map slot_of ys))
set_keeps xs ys ps i p e g =
    (sym (length-map ys slot_of) ∙ ap length g ∙ set_keeps_length (map slot_of xs) i p ∙ length-map xs slot_of, e ∙ sym (ap (slot_places 0) g ∙ places_set 0 (map slot_of xs) i p))

-- a write to one element
pub set_one : (xs : List InScope) (i : ℕ) (x y : InScope) (p : Origin) → x ≡ get_or xs i x → slot_of y ≡ slot_set (slot_of x) p →
    map slot_of (slice_set xs i y) ≡ held_set (map slot_of xs) i p
set_one [] i x y p h g = refl
set_one (z ∷ xs) zero x y p h g = ap (λ s. s ∷ map slot_of xs) (g ∙ ap (λ s. slot_set (slot_of s) p) h)
set_one (z ∷ xs) (suc i) x y p h g = ap (λ zs. slot_of z ∷ zs) (set_one xs i x y p h g)

pub set_past : (xs : List InScope) (i : ℕ) (p : Origin) → length xs ≤ i → map slot_of xs ≡ held_set (map slot_of xs) i p
set_past [] i p h = refl
set_past (x ∷ xs) zero p h = absurd (omega (arith, h))
set_past (x ∷ xs) (suc i) p h = ap (λ zs. slot_of x ∷ zs) (set_past xs i p (omega (arith, h)))

-- ---- the newest

newest_at : (y : InScope) (xs : List InScope) (x : InScope) → slice_get (y ∷ xs) (length xs) ≡ Some x → slot_origin (Some (slot_of x)) ≡ slot_origin (newest (map slot_of (y ∷ xs)))
newest_at y [] x h = let e : y ≡ x = cc in ap (λ z. slot_origin (Some (slot_of z))) (sym e)
newest_at y (z ∷ ys) x h = newest_at z ys x h

pub newest_of : (xs : List InScope) (n : ℕ) (x : InScope) → n ≡ length xs - 1 → slice_get xs n ≡ Some x → slot_origin (Some (slot_of x)) ≡ slot_origin (newest (map slot_of xs))
newest_of [] n x e h = absurd cc
newest_of (y ∷ xs) n x e h = let q : length xs ≡ n = omega (arith, e) in newest_at y xs x (ap (slice_get (y ∷ xs)) q ∙ h)

none_at : (y : InScope) (xs : List InScope) → slice_get (y ∷ xs) (length xs) ≡ None → ⊥
none_at y [] h = cc
none_at y (z ∷ ys) h = none_at z ys h

pub newest_none : (xs : List InScope) (n : ℕ) → n ≡ length xs - 1 → slice_get xs n ≡ None → Arg 0 ≡ slot_origin (newest (map slot_of xs))
newest_none [] n e h = refl
newest_none (y ∷ xs) n e h = let q : length xs ≡ n = omega (arith, e) in absurd (none_at y xs (ap (slice_get (y ∷ xs)) q ∙ h))

-- ---- one more, and one less

hidden_place : (n : ℕ) (x : SlotOrigin) → is_hidden x ≡ true → slot_places n (x ∷ []) ≡ []
hidden_place n (held o) h = absurd cc
hidden_place n (object k) h = absurd cc
hidden_place n (hidden o) h = refl

named_place : (n : ℕ) (x : SlotOrigin) → is_hidden x ≡ false → slot_places n (x ∷ []) ≡ n ∷ []
named_place n (held o) h = refl
named_place n (object k) h = refl
named_place n (hidden o) h = absurd cc

places_more : (xs : List InScope) (x : InScope) → slot_places 0 (map slot_of (xs ++ x ∷ [])) ≡ slot_places 0 (map slot_of xs) ++ slot_places (length xs) (slot_of x ∷ [])
places_more xs x =
    let q : length xs ≡ 0 + length (map slot_of xs) = omega (arith, length-map xs slot_of) in
    ap (slot_places 0) (map_append slot_of xs (x ∷ [])) ∙ places_append 0 (length xs) (map slot_of xs) (slot_of x ∷ []) q

no_more : {X : Type 0} → (xs : List X) → xs ++ [] ≡ xs
no_more [] = refl
no_more (x ∷ xs) = ap (λ ys. x ∷ ys) (no_more xs)

pub push_keeps : (xs ys : List InScope) (x : InScope) (ps : List ℕ) → ps ≡ slot_places 0 (map slot_of xs) → is_hidden (slot_of x) ≡ true → ys ≡ xs ++ x ∷ [] →
    ps ≡ slot_places 0 (map slot_of ys)
push_keeps xs ys x ps e h g =
    e ∙ sym (ap (λ zs. slot_places 0 (map slot_of zs)) g ∙ places_more xs x ∙ ap (λ qs. slot_places 0 (map slot_of xs) ++ qs) (hidden_place (length xs) (slot_of x) h)
    ∙ no_more (slot_places 0 (map slot_of xs)))

pub push_adds : (xs ys : List InScope) (x : InScope) (ps qs : List ℕ) (n : ℕ) → ps ≡ slot_places 0 (map slot_of xs) → is_hidden (slot_of x) ≡ false → ys ≡ xs ++ x ∷ [] → n ≡ length xs →
    qs ≡ ps ++ n ∷ [] → qs ≡ slot_places 0 (map slot_of ys)
push_adds xs ys x ps qs n e h g m k =
    k ∙ ap (λ zs. zs ++ n ∷ []) e ∙ ap (λ j. slot_places 0 (map slot_of xs) ++ j ∷ []) m
    ∙ sym (ap (λ zs. slot_places 0 (map slot_of zs)) g ∙ places_more xs x ∙ ap (λ js. slot_places 0 (map slot_of xs) ++ js) (named_place (length xs) (slot_of x) h))

take_first : {X : Type 0} → (xs : List X) (x : X) (n : ℕ) → n ≡ length xs → take n (xs ++ x ∷ []) ≡ xs
take_first [] x n e = let q : n ≡ 0 = e in ap (λ k. take k (x ∷ [])) q
take_first (y ∷ xs) x zero e = absurd cc
take_first (y ∷ xs) x (suc n) e = let q : n ≡ length xs = omega (arith, e) in ap (λ ys. y ∷ ys) (take_first xs x n q)

-- the places without the last, where a variable with a slot goes
pub pop_drops : (xs ys : List InScope) (x : InScope) (ps qs : List ℕ) → ps ≡ slot_places 0 (map slot_of xs) → is_hidden (slot_of x) ≡ false → xs ≡ ys ++ x ∷ [] →
    qs ≡ take (length ps - 1) ps → qs ≡ slot_places 0 (map slot_of ys)
pop_drops xs ys x ps qs e h g k =
    let both : ps ≡ slot_places 0 (map slot_of ys) ++ length ys ∷ [] =
    e ∙ ap (λ zs. slot_places 0 (map slot_of zs)) g ∙ places_more ys x ∙ ap (λ js. slot_places 0 (map slot_of ys) ++ js) (named_place (length ys) (slot_of x) h) in
    let count : length ps - 1 ≡ length (slot_places 0 (map slot_of ys)) =
    omega (arith, ap length both, length_more (slot_places 0 (map slot_of ys)) (length ys)) in
    k ∙ ap (λ zs. take (length ps - 1) zs) both ∙ take_first (slot_places 0 (map slot_of ys)) (length ys) (length ps - 1) count

pub pop_keeps : (xs ys : List InScope) (x : InScope) (ps : List ℕ) → ps ≡ slot_places 0 (map slot_of xs) → is_hidden (slot_of x) ≡ true → xs ≡ ys ++ x ∷ [] →
    ps ≡ slot_places 0 (map slot_of ys)
pop_keeps xs ys x ps e h g =
    e ∙ ap (λ zs. slot_places 0 (map slot_of zs)) g ∙ places_more ys x ∙ ap (λ qs. slot_places 0 (map slot_of ys) ++ qs) (hidden_place (length ys) (slot_of x) h)
    ∙ no_more (slot_places 0 (map slot_of ys))

pub popped_is : (xs ys : List InScope) (x : InScope) → xs ≡ ys ++ x ∷ [] → map slot_of ys ≡ without_newest (map slot_of xs)
popped_is xs ys x g = sym (ap (λ zs. without_newest (map slot_of zs)) g ∙ ap without_newest (map_append slot_of ys (x ∷ [])) ∙ without_newest_append (map slot_of ys) (slot_of x))

pub same_length : (xs : List InScope) → length (map slot_of xs) ≡ length xs
same_length xs = length-map xs slot_of

past_get : {X : Type 0} → (xs : List X) (i : ℕ) → length xs ≤ i → slice_get xs i ≡ None
past_get [] i h = refl
past_get (x ∷ xs) zero h = absurd (omega (arith, h))
past_get (x ∷ xs) (suc i) h = past_get xs i (omega (arith, h))

pub within_get : {X : Type 0} → (xs : List X) (i : ℕ) (x : X) → i < length xs → x ≡ get_or xs i x → slice_get xs i ≡ Some x
within_get [] i x h e = absurd (omega (arith, h))
within_get (y ∷ xs) zero x h e = ap Some (sym e)
within_get (y ∷ xs) (suc i) x h e = within_get xs i x (omega (arith, h)) e

-- what `get` gives
pub item_get : {X : Type 0} → (xs : List X) (i : ℕ) (r : Option (Bor X)) → IfSome r (λ x. x.now ≡ get_or xs i x.now) →
    MatchOption r (length xs ≤ i) (λ x. (i < length xs) × HoldsAt (λ y. x.now ≡ y) xs i) → option_copied r ≡ slice_get xs i
item_get xs i None h k = sym (past_get xs i k)
item_get xs i (Some x) h k = sym (within_get xs i x.now k.0 h)

-- ---- renaming

drop_at : {X : Type 0} → (xs : List X) (i : ℕ) (d : X) → i < length xs → drop i xs ≡ get_or xs i d ∷ drop (suc i) xs
drop_at [] i d h = absurd (omega (arith, h))
drop_at (x ∷ xs) zero d h = refl
drop_at (x ∷ xs) (suc i) d h = drop_at xs i d (omega (arith, h))

values_more : (x : SlotOrigin) (xs : List SlotOrigin) → length (value_origins (x ∷ xs)) ≡ slot_values x + length (value_origins xs)
values_more (held o) xs = omega arith
values_more (object n) xs = omega arith
values_more (hidden o) xs = omega arith

few_values : (x : SlotOrigin) → slot_values x ≤ 1
few_values (held o) = omega arith
few_values (object n) = omega arith
few_values (hidden o) = omega arith

pub record Renamed (node : Option ℕ) (first next : ℕ) (xs : List InScope) (i : ℕ) (all : List InScope) : Type 0 where
  pub names : map slot_of all ++ numbered (map slot_of (drop i xs)) (origin_from node next) ≡ numbered (map slot_of xs) (origin_from node first)
  pub values : next + length (value_origins (map slot_of (drop i xs))) ≡ first + length (value_origins (map slot_of xs))
  pub few : next ≤ first + i

rename_names : (node : Option ℕ) (first next v : ℕ) (xs : List InScope) (i j : ℕ) (d y : InScope) (all more : List InScope) (o : Origin) → i < length xs → j ≡ suc i →
    slot_of y ≡ slot_at (slot_of (get_or xs i d)) o → v ≡ slot_values (slot_of (get_or xs i d)) → o ≡ origin_from node next 0 → more ≡ all ++ y ∷ [] →
    map slot_of all ++ numbered (map slot_of (drop i xs)) (origin_from node next) ≡ numbered (map slot_of xs) (origin_from node first) →
    map slot_of more ++ numbered (map slot_of (drop j xs)) (origin_from node (next + v)) ≡ numbered (map slot_of xs) (origin_from node first)
rename_names node first next v xs i j d y all more o h hj hy hv ho hm inv =
    let x : SlotOrigin = slot_of (get_or xs i d) in
    let rest : List SlotOrigin = map slot_of (drop (suc i) xs) in
    let here : slot_of y ≡ slot_at x (origin_from node next 0) = hy ∙ ap (slot_at x) ho in
    let whole : numbered (map slot_of (drop i xs)) (origin_from node next) ≡ slot_of y ∷ numbered rest (origin_from node (next + v)) =
    ap (λ ys. numbered (map slot_of ys) (origin_from node next)) (drop_at xs i d h)
    ∙ numbered_step node next (next + v) x rest (ap (λ n. next + n) hv)
    ∙ ap (λ z. z ∷ numbered rest (origin_from node (next + v))) (sym here) in
    ap (λ ys. map slot_of ys ++ numbered (map slot_of (drop j xs)) (origin_from node (next + v))) hm
    ∙ ap (λ n. map slot_of (all ++ y ∷ []) ++ numbered (map slot_of (drop n xs)) (origin_from node (next + v))) hj
    ∙ ap (λ ys. ys ++ numbered rest (origin_from node (next + v))) (map_append slot_of all (y ∷ []))
    ∙ append_assoc (map slot_of all) (slot_of y ∷ []) (numbered rest (origin_from node (next + v)))
    ∙ ap (λ ys. map slot_of all ++ ys) (sym whole) ∙ inv

rename_values : (first next v : ℕ) (xs : List InScope) (i j : ℕ) (d : InScope) → i < length xs → j ≡ suc i → v ≡ slot_values (slot_of (get_or xs i d)) →
    next + length (value_origins (map slot_of (drop i xs))) ≡ first + length (value_origins (map slot_of xs)) →
    next + v + length (value_origins (map slot_of (drop j xs))) ≡ first + length (value_origins (map slot_of xs))
rename_values first next v xs i j d h hj hv inv =
    let x : SlotOrigin = slot_of (get_or xs i d) in
    let rest : List SlotOrigin = map slot_of (drop (suc i) xs) in
    let one : length (value_origins (map slot_of (drop i xs))) ≡ length (value_origins (x ∷ rest)) = ap (λ ys. length (value_origins (map slot_of ys))) (drop_at xs i d h) in
    let two = values_more x rest in
    let three : length (value_origins (map slot_of (drop j xs))) ≡ length (value_origins rest) = ap (λ n. length (value_origins (map slot_of (drop n xs)))) hj in
    omega (arith, one, two, three, hv, inv)

-- one variable more is renamed
pub rename_step : (node : Option ℕ) (first next v : ℕ) (xs : List InScope) (i : ℕ) (d y : InScope) (all more : List InScope) (o : Origin) → i < length xs →
    slot_of y ≡ slot_at (slot_of (get_or xs i d)) o → v ≡ slot_values (slot_of (get_or xs i d)) → o ≡ origin_from node next 0 → more ≡ all ++ y ∷ [] →
    Renamed node first next xs i all → Renamed node first (next + v) xs (i + 1) more
rename_step node first next v xs i d y all more o h hy hv ho hm inv =
    let j : i + 1 ≡ suc i = omega arith in
    record {
      names = rename_names node first next v xs i (i + 1) d y all more o h j hy hv ho hm inv.names;
      values = rename_values first next v xs i (i + 1) d h j hv inv.values;
      few = omega (arith, inv.few, hv, few_values (slot_of (get_or xs i d)));
    }

drop_all : {X : Type 0} → (xs : List X) (i : ℕ) → length xs ≤ i → drop i xs ≡ []
drop_all [] zero h = refl
drop_all [] (suc i) h = refl
drop_all (x ∷ xs) zero h = absurd (omega (arith, h))
drop_all (x ∷ xs) (suc i) h = drop_all xs i (omega (arith, h))

-- all are renamed
pub rename_all : (node : Option ℕ) (first next : ℕ) (xs : List InScope) (i : ℕ) (all : List InScope) → length xs ≤ i → Renamed node first next xs i all →
    (map slot_of all ≡ numbered (map slot_of xs) (origin_from node first)) × (next ≡ first + length (value_origins (map slot_of xs)))
rename_all node first next xs i all h inv =
    let none = drop_all xs i h in
    let left : length (value_origins (map slot_of (drop i xs))) ≡ 0 = ap (λ ys. length (value_origins (map slot_of ys))) none in (
      sym (ap (λ ys. map slot_of all ++ numbered (map slot_of ys) (origin_from node next)) none ∙ no_more (map slot_of all)) ∙ inv.names,
      omega (arith, left, inv.values),
    )

length_numbered : (xs : List SlotOrigin) (f : ℕ → Origin) → length (numbered xs f) ≡ length xs
length_numbered [] f = refl
length_numbered (held o ∷ xs) f = ap suc (length_numbered xs (λ k. f (suc k)))
length_numbered (object n ∷ xs) f = ap suc (length_numbered xs f)
length_numbered (hidden o ∷ xs) f = ap suc (length_numbered xs (λ k. f (suc k)))

pub rename_keeps : (xs all : List InScope) (ps : List ℕ) (f : ℕ → Origin) → ps ≡ slot_places 0 (map slot_of xs) → map slot_of all ≡ numbered (map slot_of xs) f →
    (length all ≡ length xs) × (ps ≡ slot_places 0 (map slot_of all))
rename_keeps xs all ps f e g = (
  sym (length-map all slot_of) ∙ ap length g ∙ length_numbered (map slot_of xs) f ∙ length-map xs slot_of,
  e ∙ sym (ap (slot_places 0) g ∙ places_numbered 0 (map slot_of xs) f),
)
