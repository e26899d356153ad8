-- Places by need: two names share a place where no instruction writes one of them while the other is needed after it. Places 0 to
-- 10 are the registers that a call keeps, 11 to 14 registers that it loses, and those from 15 on words of the frame.
use Rattle.std.specs.Prelude.{ℕ, zero, suc, ◌-◌, ◌==◌, nat_lt, nat_le, Bool, true, false, not, ◌&&◌, ◌||◌, if◌then◌else◌, List, [], ◌∷◌, ◌++◌, map, filter, max, take, drop}
use Rattle.std.specs.List.{flat_map}
use Rattle.val_core.specs.Numbers.{numbers_from}
use Rattle.g_graph.specs.WellFormed.{some_of}
use Rattle.s_linear.specs.Frame.{PlainPlaces}
use Rattle.s_linear.specs.Linear.{Instr, store, clear, move, call, put, exit, Step, plain, choice, loop, Code, no_steps, step_then, Codes, no_codes, code_then, LinearFunction}
use Rattle.s_linear.specs.Lines.{counted, instr_names}
use Rattle.a_place.specs.Places.{among, above, Given, place_in}

-- ---- what is needed

-- a set of names
abbrev pub Names : Type 0
Names = ℕ → Bool

-- How many of its names an instruction writes: they come first. `store`, `clear`, `put` and `exit` write none, and each other writes one.
abbrev pub targets : Instr → ℕ
targets (store width a v) = 0
targets (clear k) = 0
targets (put a) = 0
targets (exit a) = 0
targets i = 1

abbrev pub writes : Instr → Names
writes i x = among x (take (targets i) (instr_names i))

abbrev pub reads : Instr → Names
reads i x = among x (drop (targets i) (instr_names i))

abbrev pub needed_by : Instr → Names → Names
needed_by i N x = reads i x || (not (writes i x) && N x)

abbrev pub needed_by_instrs : List Instr → Names → Names
needed_by_instrs [] N = N
needed_by_instrs (i ∷ is) N = needed_by i (needed_by_instrs is N)

-- After a loop's body, but for what the next turn needs: that is among these where the loop reads only what it writes.
abbrev pub after_body : (predicate : ℕ) → (back : List Instr) → Names → Names
after_body p back N x = (p == x) || (N x || needed_by_instrs back (λ y. false) x)

abbrev mutual
  pub needed_by_step : Step → Names → Names
  needed_by_step (plain i) N x = needed_by i N x
  needed_by_step (choice p cs) N x = (nat_le 2 (counted cs) && (p == x)) || needed_by_codes cs N x
  needed_by_step (loop enter body p back) N x = needed_by_instrs enter (needed_by_code body (after_body p back N)) x

  pub needed_by_code : Code → Names → Names
  needed_by_code no_steps N x = N x
  needed_by_code (step_then s k) N x = needed_by_step s (needed_by_code k N) x

  pub needed_by_codes : Codes → Names → Names
  needed_by_codes no_codes N x = false
  needed_by_codes (code_then k ks) N x = needed_by_code k N x || needed_by_codes ks N x

abbrev pub at_label : (body : Code) → (predicate : ℕ) → (back : List Instr) → Names → Names
at_label body p back N = needed_by_code body (after_body p back N)

abbrev pub at_branch : (body : Code) → (predicate : ℕ) → (back : List Instr) → Names → Names
at_branch body p back N x = (p == x) || (N x || needed_by_instrs back (at_label body p back N) x)

-- ---- the names of a function

-- A choice of one code reads no predicate.
abbrev pub predicate_names : (predicate : ℕ) → Codes → List ℕ
predicate_names p cs = if nat_le 2 (counted cs) then p ∷ [] else []

abbrev mutual
  pub step_names : Step → List ℕ
  step_names (plain i) = instr_names i
  step_names (choice p cs) = predicate_names p cs ++ codes_names cs
  step_names (loop enter body p back) = flat_map instr_names enter ++ code_names body ++ p ∷ flat_map instr_names back

  pub code_names : Code → List ℕ
  code_names no_steps = []
  code_names (step_then s k) = step_names s ++ code_names k

  pub codes_names : Codes → List ℕ
  codes_names no_codes = []
  codes_names (code_then k ks) = code_names k ++ codes_names ks

-- its parameters, its value, and those of its code
abbrev pub all_names : LinearFunction → List ℕ
all_names f = numbers_from 0 f.params ++ f.value ∷ code_names f.code

-- ---- where names stand

-- An instruction or a predicate, the loops in whose body, predicate or moves back it stands, and what is needed after it.
pub data Site : Type 0 where
  does : (depth : ℕ) → Instr → (after : Names) → Site
  tests : (depth predicate : ℕ) → Site

abbrev pub instr_sites : (depth : ℕ) → List Instr → Names → List Site
instr_sites d [] N = []
instr_sites d (i ∷ is) N = does d i (needed_by_instrs is N) ∷ instr_sites d is N

abbrev pub last_of : {X : Type 0} → List (List X) → List X
last_of [] = []
last_of (k ∷ []) = k
last_of (k ∷ l ∷ ks) = last_of (l ∷ ks)

abbrev pub others_of : List (List Site) → List Site
others_of [] = []
others_of (k ∷ []) = []
others_of (k ∷ l ∷ ks) = k ++ others_of (l ∷ ks)

-- The codes of a choice in the order in which their lines stand: of two the first stands first, of another number the last.
abbrev pub as_they_stand : List (List Site) → List Site
as_they_stand (k ∷ l ∷ []) = k ++ l
as_they_stand ks = last_of ks ++ others_of ks

-- the branches of a choice, one for each code but the last
abbrev pub branch_sites : (depth predicate : ℕ) → Codes → List Site
branch_sites d p no_codes = []
branch_sites d p (code_then k no_codes) = []
branch_sites d p (code_then k ks) = tests d p ∷ branch_sites d p ks

abbrev mutual
  pub step_sites : (depth : ℕ) → Step → Names → List Site
  step_sites d (plain i) N = does d i N ∷ []
  step_sites d (choice p cs) N = branch_sites d p cs ++ as_they_stand (codes_sites d cs N)
  step_sites d (loop enter body p back) N =
      instr_sites d enter (at_label body p back N) ++ code_sites (suc d) body (at_branch body p back N)
      ++ tests (suc d) p ∷ instr_sites (suc d) back (at_label body p back N)

  pub code_sites : (depth : ℕ) → Code → Names → List Site
  code_sites d no_steps N = []
  code_sites d (step_then s k) N = step_sites d s (needed_by_code k N) ++ code_sites d k N

  pub codes_sites : (depth : ℕ) → Codes → Names → List (List Site)
  codes_sites d no_codes N = []
  codes_sites d (code_then k ks) N = code_sites d k N ∷ codes_sites d ks N

-- the sites of a function, after which its value is needed
abbrev pub sites : LinearFunction → List Site
sites f = code_sites 0 f.code (λ x. f.value == x)

-- ---- names that clash, and long names

abbrev pub moves_from : Instr → Names
moves_from (move t a) x = a == x
moves_from i x = false

-- A name is needed after an instruction, which does not write it and does not move it.
abbrev pub meets : Instr → (after : Names) → Names
meets i N x = N x && (not (writes i x) && not (moves_from i x))

abbrev pub clash_at : (x y : ℕ) → Site → Bool
clash_at x y (does d i N) = (writes i x && meets i N y) || (writes i y && meets i N x)
clash_at x y (tests d p) = false

-- An instruction writes one of two names and meets the other, or both are parameters.
abbrev pub clash : (params : ℕ) → List Site → (x y : ℕ) → Bool
clash params ss x y = (nat_lt x params && nat_lt y params) || some_of (clash_at x y) ss

abbrev pub is_call : Instr → Bool
is_call (call g t xs) = true
is_call i = false

abbrev pub is_long_at : (name : ℕ) → Site → Bool
is_long_at x (does d i N) = is_call i && (N x && not (writes i x))
is_long_at x (tests d p) = false

-- A name is needed after a call that does not write it.
abbrev pub is_long : List Site → (name : ℕ) → Bool
is_long ss x = some_of (is_long_at x) ss

-- ---- depths and partners

abbrev pub greatest : List ℕ → ℕ
greatest [] = 0
greatest (n ∷ ns) = max n (greatest ns)

abbrev pub depth_of_site : Site → ℕ
depth_of_site (does d i N) = d
depth_of_site (tests d p) = d

abbrev pub stands_at : (name : ℕ) → Site → Bool
stands_at x (does d i N) = among x (instr_names i)
stands_at x (tests d p) = p == x

-- the greatest depth at which a name stands
abbrev pub depth_of : List Site → (name : ℕ) → ℕ
depth_of ss x = greatest (map depth_of_site (filter (stands_at x) ss))

-- the depths from the greatest down to 0
abbrev pub down_from : ℕ → List ℕ
down_from zero = zero ∷ []
down_from (suc n) = suc n ∷ down_from n

abbrev pub depths : List Site → List ℕ
depths ss = down_from (greatest (map depth_of_site ss))

-- the other name of a move from or to a name at a depth
abbrev pub partners_at : (name depth : ℕ) → Site → List ℕ
partners_at x d (does e (move t a) N) = if e == d then (if t == x then a ∷ [] else []) ++ (if a == x then t ∷ [] else []) else []
partners_at x d s = []

-- in order of depth, the greatest first, then of lines
abbrev pub partners : List Site → (name : ℕ) → List ℕ
partners ss x = flat_map (λ d. flat_map (partners_at x d) ss) (depths ss)

-- ---- places

-- a call loses what the register holds
abbrev pub is_lost : (place : ℕ) → Bool
is_lost p = nat_le 11 p && nat_lt p 15

-- a name before has the place and clashes with x
abbrev pub held : (params : ℕ) → List Site → (x : ℕ) → (earlier : List Given) → (place : ℕ) → Bool
held params ss x gs p = some_of (λ g. (g.place == p) && clash params ss g.name x) gs

-- A long name does not get a place that calls lose.
abbrev pub fits : (params : ℕ) → List Site → (x : ℕ) → (earlier : List Given) → (place : ℕ) → Bool
fits params ss x gs p = not (is_long ss x && is_lost p) && not (held params ss x gs p)

abbrev pub places_of : List Given → (name : ℕ) → List ℕ
places_of gs x = map (λ g. g.place) (filter (λ g. g.name == x) gs)

-- The places of partners come first, then the registers that a call loses, those that it keeps, and 16 words.
abbrev pub candidates : List Site → (x : ℕ) → (earlier : List Given) → List ℕ
candidates ss x gs =
    filter (λ p. nat_lt p 31) (flat_map (places_of gs) (partners ss x)) ++ numbers_from 11 4 ++ numbers_from 0 11 ++ numbers_from 15 16

abbrev pub first_of : (test : ℕ → Bool) → List ℕ → (otherwise : ℕ) → ℕ
first_of test [] n = n
first_of test (p ∷ ps) n = if test p then p else first_of test ps n

-- the next place from 31 on
abbrev pub next_place : List Given → ℕ
next_place [] = 31
next_place (g ∷ gs) = max (suc g.place) (next_place gs)

abbrev pub place_for : (params : ℕ) → List Site → (x : ℕ) → (earlier : List Given) → ℕ
place_for params ss x gs = first_of (fits params ss x gs) (candidates ss x gs) (next_place gs)

-- the places of names in their order, after those given earlier; the latest first
abbrev pub given : (params : ℕ) → List Site → (names : List ℕ) → (earlier : List Given) → List Given
given params ss [] gs = gs
given params ss (x ∷ xs) gs = given params ss xs (record { name = x; place = place_for params ss x gs } ∷ gs)

-- these names, each once, in order of depth, the greatest first, then of number
abbrev pub in_order : List Site → List ℕ → List ℕ
in_order ss names = flat_map (λ d. filter (λ x. among x names && (depth_of ss x == d)) (numbers_from 0 (above names))) (depths ss)

abbrev pub all_given : (params : ℕ) → List Site → (names : List ℕ) → List Given
all_given params ss names = given params ss (in_order ss names) []

-- how many saved registers and words there have to be for a place: all registers are saved where there is a word
abbrev pub counted_for : (place : ℕ) → ℕ
counted_for p = if nat_lt p 11 then suc p else if nat_lt p 15 then 0 else p - 3

abbrev pub count_of : List Given → ℕ
count_of [] = 0
count_of (g ∷ gs) = max (counted_for g.place) (count_of gs)

-- the place of each name, which is 0 for a name that does not occur, and how many saved registers and words there are
abbrev pub shared_of : (names : List ℕ) → List Given → PlainPlaces
shared_of names gs = record { of = map (place_in gs) (numbers_from 0 (above names)); count = count_of gs; temporaries = 4 }

abbrev pub shared : LinearFunction → PlainPlaces
shared f = shared_of (all_names f) (all_given f.params (sites f) (all_names f))
