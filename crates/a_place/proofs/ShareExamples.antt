-- Worked rows: the shared places of small functions' names.
use Rattle.std.specs.Prelude.{◌≡◌, refl, [], ◌∷◌}
use Rattle.val_core.specs.declared.operation.Op2.TheVariants.{Add, Mul, Slt, Sub}
use Rattle.s_linear.specs.Linear.{const, undef, binary, move, call, plain, choice, loop, no_steps, step_then, no_codes, code_then, LinearFunction}
use Rattle.a_place.specs.Share.{shared}

-- int g(int a, int b) { int t = f(a); return t + f(b) + a; }
abbrev over_calls : LinearFunction
over_calls = record { number = 0; params = 2; objects = []; code = step_then (plain (call 0 2 (0 ∷ []))) (step_then (plain (call 0 3 (1 ∷ []))) (step_then (plain (binary Add 4 2 3)) (step_then (plain (binary Add 5 4 0)) no_steps))); value = 5 }

over-calls-places : shared over_calls ≡ record { of = 0 ∷ 1 ∷ 2 ∷ 11 ∷ 11 ∷ 11 ∷ []; count = 3; temporaries = 4 }
over-calls-places = refl

-- eight parameters, of which the second is the value
abbrev eight_params : LinearFunction
eight_params = record { number = 0; params = 8; objects = []; code = no_steps; value = 1 }

eight-params-places : shared eight_params ≡ record { of = 11 ∷ 12 ∷ 13 ∷ 14 ∷ 0 ∷ 1 ∷ 2 ∷ 3 ∷ []; count = 4; temporaries = 4 }
eight-params-places = refl

-- int x; int y = 3; if (y > 2) { x = y; } return x + y;
abbrev undefined_variable : LinearFunction
undefined_variable = record { number = 0; params = 0; objects = []; code = step_then (plain (undef 0)) (step_then (plain (const 1 3)) (step_then (plain (const 2 2)) (step_then (plain (binary Slt 3 2 1)) (step_then (choice 3 (code_then (step_then (plain (move 4 0)) (step_then (plain (move 5 1)) (step_then (plain (move 6 4)) (step_then (plain (move 7 5)) no_steps)))) (code_then (step_then (plain (move 8 0)) (step_then (plain (move 9 1)) (step_then (plain (move 6 9)) (step_then (plain (move 7 9)) no_steps)))) (no_codes)))) (step_then (plain (binary Add 10 6 7)) no_steps))))); value = 10 }

undefined-variable-places : shared undefined_variable ≡ record { of = 11 ∷ 12 ∷ 13 ∷ 13 ∷ 11 ∷ 12 ∷ 11 ∷ 12 ∷ 11 ∷ 12 ∷ 11 ∷ []; count = 0; temporaries = 4 }
undefined-variable-places = refl

-- if (a) { int t = b * c; r = t - b; } else { int u = c + 7; r = u * u; } return r;
abbrev two_branches : LinearFunction
two_branches = record { number = 0; params = 3; objects = []; code = step_then (plain (undef 3)) (step_then (choice 0 (code_then (step_then (plain (move 4 0)) (step_then (plain (move 5 1)) (step_then (plain (move 6 2)) (step_then (plain (move 7 3)) (step_then (plain (const 8 7)) (step_then (plain (binary Add 9 6 8)) (step_then (plain (binary Mul 10 9 9)) (step_then (plain (move 11 4)) (step_then (plain (move 12 5)) (step_then (plain (move 13 6)) (step_then (plain (move 14 10)) no_steps))))))))))) (code_then (step_then (plain (move 15 0)) (step_then (plain (move 16 1)) (step_then (plain (move 17 2)) (step_then (plain (move 18 3)) (step_then (plain (binary Mul 19 16 17)) (step_then (plain (binary Sub 20 19 16)) (step_then (plain (move 11 15)) (step_then (plain (move 12 16)) (step_then (plain (move 13 17)) (step_then (plain (move 14 20)) no_steps)))))))))) (no_codes)))) no_steps); value = 14 }

two-branches-places : shared two_branches ≡ record { of = 11 ∷ 12 ∷ 13 ∷ 14 ∷ 11 ∷ 12 ∷ 13 ∷ 14 ∷ 14 ∷ 14 ∷ 14 ∷ 11 ∷ 12 ∷ 13 ∷ 14 ∷ 11 ∷ 12 ∷ 13 ∷ 14 ∷ 14 ∷ 14 ∷ []; count = 0; temporaries = 4 }
two-branches-places = refl

-- int s = 0; int i = 0; while (i < 10) { s = s + i; i = i + 1; } return s;
abbrev counting_loop : LinearFunction
counting_loop = record { number = 0; params = 0; objects = []; code = step_then (plain (const 0 0)) (step_then (plain (const 1 0)) (step_then (loop (move 2 0 ∷ move 3 1 ∷ []) (step_then (plain (const 4 10)) (step_then (plain (binary Slt 5 3 4)) (step_then (choice 5 (code_then (step_then (plain (move 6 2)) (step_then (plain (move 7 3)) (step_then (plain (const 8 0)) (step_then (plain (move 9 8)) (step_then (plain (move 10 6)) (step_then (plain (move 11 7)) no_steps)))))) (code_then (step_then (plain (move 12 2)) (step_then (plain (move 13 3)) (step_then (plain (binary Add 14 12 13)) (step_then (plain (const 15 1)) (step_then (plain (binary Add 16 13 15)) (step_then (plain (const 17 1)) (step_then (plain (move 9 17)) (step_then (plain (move 10 14)) (step_then (plain (move 11 16)) no_steps))))))))) (no_codes)))) (step_then (plain (move 18 10)) (step_then (plain (move 19 11)) no_steps))))) 9 (move 2 18 ∷ move 3 19 ∷ [])) no_steps)); value = 18 }

counting-loop-places : shared counting_loop ≡ record { of = 11 ∷ 12 ∷ 11 ∷ 12 ∷ 13 ∷ 13 ∷ 11 ∷ 12 ∷ 13 ∷ 13 ∷ 11 ∷ 12 ∷ 11 ∷ 12 ∷ 11 ∷ 13 ∷ 12 ∷ 13 ∷ 11 ∷ 12 ∷ []; count = 0; temporaries = 4 }
counting-loop-places = refl
