-- What is noted, with what is left, makes the whole.
use Rattle.std.proofs.Common.{◌≡◌, ℕ, drop}
use Rattle.r_pull.specs.Users.{both_use, used_by, user_in}
use Rattle.r_pull.proofs.users.Users.note_all.Given as goal

abbrev pub invariant-loop-origin : goal.invariant-loop-origin
invariant-loop-origin l =
    (n : ℕ) → both_use (user_in l.self n) (used_by n l.user (drop l.origin-index l.origins)) ≡ both_use (user_in l.fn.self n) (used_by n l.user l.origins)
