-- Pseudo-random draws by a linear congruential generator.
use Rattle.std.specs.Prelude.{ℕ, zero, suc, ◌+◌, ◌-◌, ◌*◌, ◌/◌, ◌%◌, ◌^◌, ◌==◌, None, Some, if◌then◌else◌}
use Rattle.cc_gen.specs.declared.draws.Drawn.{Drawn}

-- the state that follows a state
unfoldable pub next_state : ℕ → ℕ
next_state state = (state * 1664525 + 1013904223) % 2 ^ 32

-- the number below `bound` that a state gives
abbrev pub number_of : (state bound : ℕ) → ℕ
number_of state bound = state / 65536 % bound

-- the state after n draws
unfoldable pub state_after : (start n : ℕ) → ℕ
state_after start zero = start
state_after start (suc n) = next_state (state_after start n)

-- What is drawn for the function of this number, from the state before its draws on: first the turns, then the
-- operator, then the constant, and for each function but the first the number of the function that it calls.
abbrev pub drawn_from : (number state : ℕ) → Drawn
drawn_from number state = record {
  turns = 1 + number_of (next_state state) 4;
  operator = number_of (next_state (next_state state)) 4;
  constant = number_of (next_state (next_state (next_state state))) 100;
  callee = if number == 0 then None else Some (number_of (next_state (next_state (next_state (next_state state)))) number);
}

-- Function 0 has three draws and each later function four, so 4 n - 1 draws come before those for function n.
abbrev pub state_before : (start number : ℕ) → ℕ
state_before start number = state_after start (4 * number - 1)
