-- Where the draws for one function after another begin.
use Rattle.std.proofs.Common.{◌≡◌, ℕ, zero, suc, ◌+◌, ◌-◌, ◌*◌, ◌==◌, if◌then◌else◌, refl, ap, ◌∙◌, false, arith, tests, rules}
use Rattle.cc_gen.specs.Draws.{next_state, state_after, state_before}

-- no draws come before those for the first function
pub state-first : (start : ℕ) → start ≡ state_before start 0
unfolding state_after
state-first start = refl

pub state-next : (start number state : ℕ)
    → state ≡ (if number == 0 then next_state (next_state (next_state (state_before start number))) else next_state (next_state (next_state (next_state (state_before start number)))))
    → state ≡ state_before start (number + 1)
unfolding state_after
state-next start zero state is = is
state-next start (suc n) state is =
    let count : suc (suc (suc (suc (4 * suc n - 1)))) ≡ 4 * (suc n + 1) - 1 = omega arith in
    let later : (suc n == 0) ≡ false = search (tests, rules) in
    let four : state ≡ next_state (next_state (next_state (next_state (state_before start (suc n))))) = rw later at is in
    four ∙ ap (state_after start) count
