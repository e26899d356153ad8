-- Worked rows: what functions do over names and over their places; two wrong choices of places, a choice of one code, and a loop
-- that reads a name from outside.
use Rattle.std.specs.Prelude.{◌≡◌, refl, ℕ, Bool, ◌==◌, nat_lt, ◌&&◌, List, [], ◌∷◌, map}
use Rattle.std.proofs.Common.{inl, inr}
use Rattle.g_graph.specs.WellFormed.{some_of}
use Rattle.val_core.specs.declared.values.Value.{Value}
use Rattle.val_core.specs.declared.values.Value.TheVariants.{Num, Bad}
use Rattle.val_core.specs.declared.operation.Op2.TheVariants.{Add, Sub}
use Rattle.val_core.specs.Events.{called}
use Rattle.val_core.specs.Answers.{Answer, Returned, Cut}
use Rattle.val_core.specs.Within.{Given}
use Rattle.s_linear.specs.Linear.{const, undef, binary, move, call, put, get, plain, choice, loop, no_steps, step_then, no_codes, code_then, LinearFunction}
use Rattle.s_linear.specs.Lines.{Line, enter, leave, done, branch_zero, jump, label, lines}
use Rattle.s_linear.specs.Meaning.{calls}
use Rattle.val_core.specs.Numbers.{numbers_from}
use Rattle.s_linear.specs.Frame.{PlainPlaces}
use Rattle.a_place.specs.Places.{first, last, name_count, in_order, least, count_of, place_in, places}
use Rattle.a_place.specs.Places as place
use Rattle.s_sequence_keeps.specs.Closed.{FunctionIsClosed}
use Rattle.a_place.specs.Placed.{placed_at, placed, placed_calls}

abbrev no_globals : ℕ → Value
no_globals k = Bad

-- the last function over names, over its places, and over other places
abbrev over_names : (bound : ℕ) → List LinearFunction → List Value → List ℕ → Answer (Given Value)
over_names n fs vs i = calls fs no_globals n 0 vs [] i

abbrev over_places : (bound : ℕ) → List LinearFunction → List Value → List ℕ → Answer (Given Value)
over_places n fs vs i = placed_calls (map placed fs) no_globals n 0 vs [] i

abbrev over_other : (bound : ℕ) → PlainPlaces → LinearFunction → List Value → List ℕ → Answer (Given Value)
over_other n p g vs i = placed_calls (placed_at p g ∷ []) no_globals n 0 vs [] i

abbrev gives : ℕ → Answer (Given Value)
gives w = Returned (record { value = Num w; memory = []; input = [] }) (called 0 [])

-- ---- a choice between two codes; the second parameter is not read

abbrev two : LinearFunction
two = record {
  number = 0;
  params = 2;
  objects = [];
  code =
      step_then (choice 0
      (code_then (step_then (plain (const 2 7)) (step_then (plain (move 3 2)) no_steps))
      (code_then (step_then (plain (const 4 9)) (step_then (plain (move 3 4)) no_steps)) no_codes))) no_steps;
  value = 3;
}

two-names : over_names 1 (two ∷ []) (Num 0 ∷ Num 5 ∷ []) [] ≡ gives 7
two-names = refl

two-places : over_places 1 (two ∷ []) (Num 0 ∷ Num 5 ∷ []) [] ≡ gives 7
two-places = refl

two-cut : over_places 0 (two ∷ []) (Num 0 ∷ Num 5 ∷ []) [] ≡ Cut []
two-cut = refl

-- intervals without their ends

abbrev inside : List Line → (x y : ℕ) → Bool
inside ls x y = nat_lt (first x ls) (last y ls) && nat_lt (first y ls) (last x ls)

abbrev taken : List Line → (x : ℕ) → List place.Given → (p : ℕ) → Bool
taken ls x gs p = some_of (λ g. (g.place == p) && inside ls g.name x) gs

abbrev given_inside : List Line → (names : List ℕ) → List place.Given → List place.Given
given_inside ls [] gs = gs
given_inside ls (x ∷ xs) gs = given_inside ls xs (record { name = x; place = least (taken ls x gs) 0 (count_of gs) } ∷ gs)

abbrev inside_places : LinearFunction → PlainPlaces
inside_places f = record {
  of = map (place_in (given_inside (lines f) (in_order (lines f)) [])) (numbers_from 0 (name_count (lines f)));
  count = 0;
  temporaries = 0;
}

two-inside : over_other 1 (inside_places two) two (Num 0 ∷ Num 5 ∷ []) [] ≡ gives 9
two-inside = refl

-- ---- do { a = a - 1; b = b + a; } while (a);

abbrev sum : LinearFunction
sum = record {
  number = 0;
  params = 2;
  objects = [];
  code =
      step_then (loop (move 2 0 ∷ move 3 1 ∷ [])
      (step_then (plain (const 4 1)) (step_then (plain (binary Sub 5 2 4)) (step_then (plain (binary Add 6 3 5))
      (step_then (plain (move 7 5)) (step_then (plain (move 8 6)) no_steps)))))
      5 (move 2 7 ∷ move 3 8 ∷ [])) no_steps;
  value = 8;
}

sum-names : over_names 5 (sum ∷ []) (Num 4 ∷ Num 10 ∷ []) [] ≡ gives 16
sum-names = refl

sum-places : over_places 5 (sum ∷ []) (Num 4 ∷ Num 10 ∷ []) [] ≡ gives 16
sum-places = refl

sum-cut : over_places 3 (sum ∷ []) (Num 4 ∷ Num 10 ∷ []) [] ≡ Cut (called 0 [])
sum-cut = refl

-- its lines without the moves back
abbrev forward : List Line
forward =
    enter (0 ∷ 1 ∷ []) ∷ done (move 2 0) ∷ done (move 3 1) ∷ label 0 ∷ done (const 4 1) ∷ done (binary Sub 5 2 4)
    ∷ done (binary Add 6 3 5) ∷ done (move 7 5) ∷ done (move 8 6) ∷ branch_zero 5 1 ∷ jump 0 ∷ label 1 ∷ leave 8 ∷ []

sum-forward : over_other 5 (places forward) sum (Num 4 ∷ Num 10 ∷ []) [] ≡ Cut (called 0 [])
sum-forward = refl

-- ---- calls, output and the end of the input

abbrev echo : LinearFunction
echo = record {
  number = 1;
  params = 1;
  objects = [];
  code = step_then (plain (put 0)) (step_then (plain (get 1)) (step_then (plain (binary Add 2 0 1)) no_steps));
  value = 2;
}

abbrev twice : LinearFunction
twice = record {
  number = 0;
  params = 1;
  objects = [];
  code = step_then (plain (call 1 1 (0 ∷ []))) (step_then (plain (call 1 2 (1 ∷ []))) no_steps);
  value = 2;
}

calls-agree : over_places 2 (twice ∷ echo ∷ []) (Num 3 ∷ []) (4 ∷ []) ≡ over_names 2 (twice ∷ echo ∷ []) (Num 3 ∷ []) (4 ∷ [])
calls-agree = refl

calls-are-cut : over_places 1 (twice ∷ echo ∷ []) (Num 3 ∷ []) (4 ∷ []) ≡ Cut (called 0 [])
calls-are-cut = refl

-- ---- A choice of one code reads no predicate, neither in its lines nor in its meaning, so another name may have its place.

abbrev one : LinearFunction
one = record {
  number = 0;
  params = 0;
  objects = [];
  code =
      step_then (plain (const 0 1)) (step_then (plain (undef 1))
      (step_then (choice 0 (code_then (step_then (plain (const 2 3)) no_steps) no_codes)) no_steps));
  value = 2;
}

one-closed : FunctionIsClosed one
one-closed = record { code = (tt, (tt, ((inr (inl refl), ((tt, tt), tt)), tt))); value = (inl refl, tt) }

one-names : over_names 1 (one ∷ []) [] [] ≡ gives 3
one-names = refl

one-places : over_places 1 (one ∷ []) [] [] ≡ gives 3
one-places = refl

-- ---- do { a = a - k; } while (a); with k from outside: the moves in do not write it, so its interval ends within the body.

abbrev outer : LinearFunction
outer = record {
  number = 0;
  params = 1;
  objects = [];
  code =
      step_then (plain (const 1 2)) (step_then (loop (move 2 0 ∷ [])
      (step_then (plain (binary Sub 3 2 1)) (step_then (plain (const 4 9)) (step_then (plain (move 5 3)) no_steps)))
      3 (move 2 5 ∷ [])) no_steps);
  value = 5;
}

outer-names : over_names 5 (outer ∷ []) (Num 5 ∷ []) [] ≡ Cut (called 0 [])
outer-names = refl

outer-places : over_places 5 (outer ∷ []) (Num 5 ∷ []) [] ≡ gives 0
outer-places = refl
