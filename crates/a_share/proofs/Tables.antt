-- The steps of the loops over lines that make the tables of names.
use Rattle.std.proofs.Common.{◌≡◌, ◌+◌, ◌-◌, ◌<◌, ◌≤◌, ℕ, zero, suc, Bool, true, false, if◌then◌else◌, List, [], ◌∷◌, ◌++◌, length, map, flat_map, drop, get_or, replicate, refl, sym, ap, ◌∙◌, subst, inl, inr, arith, append_assoc, eq-eqb, Some, None, Option}
use Rattle.std.specs.Prelude.{◌==◌, ◌||◌}
use Rattle.std.proofs.lemmas.Bool.{cases_Bool, cases_lt, or_left, or_right}
use Rattle.std.proofs.lemmas.List.{drop_more, drop_all, append-nil, get_or_append_left, get_or_push, get_or-map}
use Rattle.s_linear.specs.Lines.{Line, label, line_names}
use Rattle.s_linear.specs.Views.{line_of}
use Rattle.s_linear.specs.declared.line.Line as code_line
use Rattle.a_place.specs.Places.{above, among, name_count}
use Rattle.a_share.specs.Tables.{does_write, does_call, positions, deeper, at_depth, levels, down, move_depths, copied_in, calls_before, by_depth, line_at}
use Rattle.a_share.proofs.Distinct.{order_inside}

abbrev pub seen : List code_line.Line → List Line
seen ls = map line_of ls

-- the lines from a position on are one and the others
pub seen_more : (ls : List code_line.Line) (i : ℕ) (line : code_line.Line) → i < length ls → line ≡ get_or ls i line
    → seen (drop i ls) ≡ line_of line ∷ seen (drop (i + 1) ls)
seen_more ls i line h e = ap seen (drop_more ls i line h) ∙ ap (λ l. line_of l ∷ seen (drop (i + 1) ls)) (sym e)

pub line_below : (ls : List code_line.Line) (i : ℕ) (line : code_line.Line) → i < length ls → line ≡ get_or ls i line → above (line_names (line_of line)) ≤ name_count (seen ls)
line_below ls i line h e = rw e (at_place ls i line h)
  where
    at_place : (ls : List code_line.Line) (i : ℕ) (d : code_line.Line) → i < length ls → above (line_names (line_of (get_or ls i d))) ≤ name_count (seen ls)
    at_place [] i d h = absurd (omega arith)
    at_place (l ∷ ls) zero d h = omega arith
    at_place (l ∷ ls) (suc i) d h =
        let rest : above (line_names (line_of (get_or ls i d))) ≤ name_count (seen ls) = at_place ls i d (omega arith) in omega arith

-- ---- depths

deeper_assoc : (a b c : Option ℕ) → deeper (deeper a b) c ≡ deeper a (deeper b c)
deeper_assoc None b c = refl
deeper_assoc (Some a) None c = refl
deeper_assoc (Some a) (Some b) None = refl
deeper_assoc (Some a) (Some b) (Some c) = ap Some (omega arith)

deeper_none : (a : Option ℕ) → deeper a None ≡ a
deeper_none None = refl
deeper_none (Some a) = refl

-- a name is raised, among others
pub raise_next : (x i name d : ℕ) (xs : List ℕ) (old new all : Option ℕ) → i < length xs → name ≡ get_or xs i 0 → ((name == x) ≡ true → new ≡ deeper old (Some d)) → ((name == x) ≡ false → new ≡ old)
    → deeper old (if among x (drop i xs) then Some d else None) ≡ all → deeper new (if among x (drop (i + 1) xs) then Some d else None) ≡ all
raise_next x i name d xs old new all h e hit miss a =
    let opened : among x (drop i xs) ≡ ((name == x) || among x (drop (i + 1) xs)) =
    ap (among x) (drop_more xs i 0 h) ∙ ap (λ z. (z == x) || among x (drop (i + 1) xs)) (sym e) in
    let was : deeper old (if (name == x) || among x (drop (i + 1) xs) then Some d else None) ≡ all = ap (λ b. deeper old (if b then Some d else None)) (sym opened) ∙ a in
    elim (cases_Bool (name == x)) [
      | inl here ↦
          let w : deeper old (Some d) ≡ all = rw here at was in
          ap (λ z. deeper z (if among x (drop (i + 1) xs) then Some d else None)) (hit here)
          ∙ (deeper_assoc old (Some d) (if among x (drop (i + 1) xs) then Some d else None)
          ∙ (ap (deeper old) (twice (among x (drop (i + 1) xs)) d) ∙ w))
      | inr other ↦
          let w : deeper old (if among x (drop (i + 1) xs) then Some d else None) ≡ all = rw other at was in
          ap (λ z. deeper z (if among x (drop (i + 1) xs) then Some d else None)) (miss other) ∙ w
    ]
  where
    twice : (b : Bool) (d : ℕ) → deeper (Some d) (if b then Some d else None) ≡ Some d
    twice true d = ap Some (omega arith)
    twice false d = refl

-- ---- lists that grow

-- one part more at the end, of what is left at the front
pub grown : {X : Type 0} (before part rest after left all : List X) → after ≡ before ++ part → left ≡ part ++ rest → before ++ left ≡ all → after ++ rest ≡ all
grown before part rest after left all a l e =
    ap (λ z. z ++ rest) a ∙ (append_assoc before part rest ∙ (ap (λ z. before ++ z) (sym l) ∙ e))

pub grown_all : {X : Type 0} (found left all : List X) → left ≡ [] → found ++ left ≡ all → found ≡ all
grown_all found left all n e = sym (append-nil found) ∙ (ap (λ z. found ++ z) (sym n) ∙ e)

pub none_in : (n x : ℕ) → ◌≡◌ {A = List ℕ} (get_or (replicate n []) x []) []
none_in zero x = refl
none_in (suc n) zero = refl
none_in (suc n) (suc x) = none_in n x

-- what is written at a line and after it
pub positions_more : (x i : ℕ) (ls : List code_line.Line) (line : code_line.Line) → i < length ls → line ≡ get_or ls i line
    → positions (does_write x) i (seen (drop i ls)) ≡ (if does_write x (line_of line) then i ∷ [] else []) ++ positions (does_write x) (i + 1) (seen (drop (i + 1) ls))
positions_more x i ls line h e =
    let s : suc i ≡ i + 1 = omega arith in
    ap (positions (does_write x) i) (seen_more ls i line h e)
    ∙ ap (λ k. (if does_write x (line_of line) then i ∷ [] else []) ++ positions (does_write x) k (seen (drop (i + 1) ls))) s

pub positions_end : (x i : ℕ) (ls : List code_line.Line) → length ls ≤ i → positions (does_write x) i (seen (drop i ls)) ≡ []
positions_end x i ls h = ap (λ z. positions (does_write x) i (seen z)) (drop_all i ls h)

pub copied_end : (x i : ℕ) (ls : List code_line.Line) (cs : List Bool) → length ls ≤ i → copied_in x (seen (drop i ls)) (drop i cs) ≡ []
copied_end x i ls cs h = ap (λ z. copied_in x (seen z) (drop i cs)) (drop_all i ls h)

pub moves_end : (i : ℕ) (ls : List code_line.Line) (ds : List ℕ) → length ls ≤ i → move_depths (seen (drop i ls)) (drop i ds) ≡ []
moves_end i ls ds h = ap (λ z. move_depths (seen z) (drop i ds)) (drop_all i ls h)

pub length_moves : (ls : List code_line.Line) (ds : List ℕ) → length ds ≡ length ls → length (move_depths (seen ls) ds) ≡ length ls
length_moves [] ds e = refl
length_moves (l ∷ ls) [] e = cc
length_moves (l ∷ ls) (d ∷ ds) e = ap suc (length_moves ls ds (omega arith))

-- ---- lists by depth

pub level_above : (os : List (Option ℕ)) (i d : ℕ) → i < length os → get_or os i None ≡ Some d → d < levels os
level_above [] i d h e = absurd (omega arith)
level_above (None ∷ os) zero d h e = cc
level_above (Some f ∷ os) zero d h e = let s : f ≡ d = cc in omega arith
level_above (None ∷ os) (suc i) d h e = level_above os i d (omega arith) e
level_above (Some f ∷ os) (suc i) d h e = let r : d < levels os = level_above os i d (omega arith) e in omega arith

pub at_depth_end : (d i : ℕ) (os : List (Option ℕ)) → length os ≤ i → at_depth d i (drop i os) ≡ []
at_depth_end d i os h = ap (at_depth d i) (drop_all i os h)

-- ---- calls

pub calls_next : (ls : List code_line.Line) (i : ℕ) (line : code_line.Line) → i < length ls → line ≡ get_or ls i line
    → calls_before (seen ls) (i + 1) ≡ calls_before (seen ls) i + (if does_call (line_of line) then 1 else 0)
calls_next ls i line h e = at_place ls i line h ∙ ap (λ l. calls_before (seen ls) i + (if does_call (line_of l) then 1 else 0)) (sym e)
  where
    at_place : (ls : List code_line.Line) (i : ℕ) (d : code_line.Line) → i < length ls
        → calls_before (seen ls) (i + 1) ≡ calls_before (seen ls) i + (if does_call (line_of (get_or ls i d)) then 1 else 0)
    at_place [] i d h = absurd (omega arith)
    at_place (l ∷ ls) zero d h = omega arith
    at_place (l ∷ ls) (suc i) d h =
        let s : suc i + 1 ≡ suc (i + 1) = omega arith in
        let rest : calls_before (seen ls) (i + 1) ≡ calls_before (seen ls) i + (if does_call (line_of (get_or ls i d)) then 1 else 0) = at_place ls i d (omega arith) in
        ap (calls_before (line_of l ∷ seen ls)) s ∙ omega arith

pub calls_yes : (ls : List code_line.Line) (i calls : ℕ) (line : code_line.Line) → i < length ls → line ≡ get_or ls i line → calls ≡ calls_before (seen ls) i
    → does_call (line_of line) ≡ true → calls + 1 ≡ calls_before (seen ls) (i + 1)
calls_yes ls i calls line h e c t =
    let next : calls_before (seen ls) (i + 1) ≡ calls_before (seen ls) i + (if does_call (line_of line) then 1 else 0) = calls_next ls i line h e in
    let one : ◌≡◌ {A = ℕ} (if does_call (line_of line) then 1 else 0) 1 = ap (λ b. if b then 1 else 0) t in
    omega arith

pub calls_no : (ls : List code_line.Line) (i calls : ℕ) (line : code_line.Line) → i < length ls → line ≡ get_or ls i line → calls ≡ calls_before (seen ls) i
    → does_call (line_of line) ≡ false → calls ≡ calls_before (seen ls) (i + 1)
calls_no ls i calls line h e c t =
    let next : calls_before (seen ls) (i + 1) ≡ calls_before (seen ls) i + (if does_call (line_of line) then 1 else 0) = calls_next ls i line h e in
    let none : ◌≡◌ {A = ℕ} (if does_call (line_of line) then 1 else 0) 0 = ap (λ b. if b then 1 else 0) t in
    omega arith

-- ---- one more at the end

pub at_push : {X : Type 0} (P : X → Type 0) (xs : List X) (v : X) (n : ℕ) → length xs ≡ n → ((i : ℕ) (d : X) → i < n → P (get_or xs i d)) → P v
    → (i : ℕ) (d : X) → i < n + 1 → P (get_or (xs ++ v ∷ []) i d)
at_push P xs v n e h p i d l =
    elim (cases_lt i n) [
      | inl less ↦ subst P (sym (get_or_append_left xs (v ∷ []) d i (omega arith))) (h i d less)
      | inr last ↦ let s : length xs ≡ i = omega arith in subst P (sym (get_or_push xs v d i s)) p
    ]

pub pushed : {X : Type 0} (F : ℕ → X) (xs : List X) (v d : X) (n : ℕ) → length xs ≡ n → ((i : ℕ) → i < n → get_or xs i d ≡ F i) → v ≡ F n
    → (i : ℕ) → i < n + 1 → get_or (xs ++ v ∷ []) i d ≡ F i
pushed F xs v d n e h p i l =
    elim (cases_lt i n) [
      | inl less ↦ get_or_append_left xs (v ∷ []) d i (omega arith) ∙ h i less
      | inr last ↦ let s : length xs ≡ i = omega arith in let t : n ≡ i = omega arith in get_or_push xs v d i s ∙ (p ∙ ap F t)
    ]

-- what a list of lists has at an index
pub read_list : {X Y : Type 0} (f : X → List Y) (xs : List X) (i : ℕ) (v : X) → i < length xs → v ≡ get_or xs i v → f v ≡ get_or (map f xs) i []
read_list f xs i v h e = ap f e ∙ sym (get_or-map f xs i v [] h)

-- the lists of the levels, one level further down
pub level_next : (os : List (Option ℕ)) (level : ℕ) (old new part all : List ℕ) → 0 < level → part ≡ at_depth (level - 1) 0 os → new ≡ old ++ part
    → old ++ flat_map (λ d. at_depth d 0 os) (down level) ≡ all → new ++ flat_map (λ d. at_depth d 0 os) (down (level - 1)) ≡ all
level_next os level old new part all h p n e =
    let s : level ≡ suc (level - 1) = omega arith in
    let opened : flat_map (λ d. at_depth d 0 os) (down level) ≡ part ++ flat_map (λ d. at_depth d 0 os) (down (level - 1)) =
    ap (λ k. flat_map (λ d. at_depth d 0 os) (down k)) s ∙ ap (λ z. z ++ flat_map (λ d. at_depth d 0 os) (down (level - 1))) (sym p) in
    grown old part (flat_map (λ d. at_depth d 0 os) (down (level - 1))) new (flat_map (λ d. at_depth d 0 os) (down level)) all n opened e

-- what stands at a position of the lines
pub line_read : (ls : List code_line.Line) (i : ℕ) (line : code_line.Line) → i < length ls → line ≡ get_or ls i line → line_at (seen ls) i ≡ line_of line
line_read ls i line h e = get_or-map line_of ls i line (label 0) h ∙ ap line_of (sym e)

-- what stands in order of depth is a place of depths
pub order_entry : (os : List (Option ℕ)) (order : List ℕ) (k : ℕ) → order ≡ by_depth os → k < length order → get_or order k 0 < length os
order_entry os order k o h = order_inside os (get_or order k 0) (ap (among (get_or order k 0)) (sym o) ∙ among_at order k h)
  where
    among_at : (xs : List ℕ) (k : ℕ) → k < length xs → among (get_or xs k 0) xs ≡ true
    among_at [] k h = absurd (omega arith)
    among_at (x ∷ xs) zero h = or_left (x == x) (among x xs) (eq-eqb x x refl)
    among_at (x ∷ xs) (suc k) h = or_right (x == get_or xs k 0) (among (get_or xs k 0) xs) (among_at xs k (omega arith))

-- the moves in order are of lines
pub position_inside : (ls : List code_line.Line) (ds order : List ℕ) (k : ℕ) → length ds ≡ length ls → order ≡ by_depth (move_depths (seen ls) ds) → k < length order
    → get_or order k 0 < length ls
position_inside ls ds order k e o h =
    let l : get_or order k 0 < length (move_depths (seen ls) ds) = order_entry (move_depths (seen ls) ds) order k o h in
    let m : length (move_depths (seen ls) ds) ≡ length ls = length_moves ls ds e in
    omega arith
