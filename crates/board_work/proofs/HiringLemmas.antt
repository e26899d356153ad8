-- Lists of workers that grow and shrink, and what a split makes of the first seat.
use Rattle.std.proofs.Common.{◌≡◌, ℕ, zero, suc, ◌+◌, ◌≤◌, Option, None, List, [], ◌∷◌, ◌++◌, length, remove, slice_index_or, vec_capacity, arith, refl, sym, ap, ◌∙◌, subst}
use Rattle.std.proofs.lemmas.List.{append-nil, length-append}
use Rattle.base.specs.Limits.{most_jobs}
use Rattle.atomic_table.specs.Seated.{TableId}
use Rattle.atomic_table.specs.declared.shared.Seat.{Seat}
use Rattle.board_core.specs.declared.event.Event.{Event}
use Rattle.board_core.specs.Board.{IsLegal}
use Rattle.board_core.specs.History.{History, program_of}
use Rattle.board_core.specs.OwnEvents.{held_from}
use Rattle.board_lock.specs.declared.view.View.{View}
use Rattle.board_lock.specs.Rule.{opening, IsBeginning}
use Rattle.board_lock.specs.Seats.{Sitting, sitting, IsSeatOf, TakesIn, Closes, split_from}
use Rattle.board_lock.proofs.lemmas.Views.{begins-longer}
use Rattle.board_work.proofs.SeatLemmas.{same-opening}
use Rattle.board_work.specs.Crews.{IsMember, IsCrew, IsTakingIn, first_with}
use Rattle.board_work.specs.Workers.{Each, WorkerFor}

-- ---- what holds of each element, with its position

pub each-cons : {A : Type 0} (holds : ℕ → A → Type 0) (x : A) (xs : List A) → holds 0 x → Each (λ k. holds (suc k)) xs → Each holds (x ∷ xs)
each-cons holds x xs first rest zero d inside = first
each-cons holds x xs first rest (suc k) d inside = rest k d (omega (arith, inside))

pub each-rest : {A : Type 0} (holds : ℕ → A → Type 0) (x : A) (xs : List A) → Each holds (x ∷ xs) → Each (λ k. holds (suc k)) xs
each-rest holds x xs each k d inside = each (suc k) d (omega (arith, inside))

pub each-snoc : {A : Type 0} (holds : ℕ → A → Type 0) (xs : List A) (x : A) → Each holds xs → holds (length xs) x → Each holds (xs ++ x ∷ [])
each-snoc holds [] x each last = each-cons holds x [] last (λ k d inside. absurd (omega (arith, inside)))
each-snoc holds (y ∷ ys) x each last =
    each-cons holds y (ys ++ x ∷ []) (each 0 y (omega arith)) (each-snoc (λ k. holds (suc k)) ys x (each-rest holds y ys each) last)

pub each-init : {A : Type 0} (holds : ℕ → A → Type 0) (xs : List A) (x : A) → Each holds (xs ++ x ∷ []) → Each holds xs
each-init holds [] x each = λ k d inside. absurd (omega (arith, inside))
each-init holds (y ∷ ys) x each =
    each-cons holds y ys (each 0 y (omega arith)) (each-init (λ k. holds (suc k)) ys x (each-rest holds y (ys ++ x ∷ []) each))

pub each-last : {A : Type 0} (holds : ℕ → A → Type 0) (xs : List A) (x : A) → Each holds (xs ++ x ∷ []) → holds (length xs) x
each-last holds [] x each = each 0 x (omega arith)
each-last holds (y ∷ ys) x each = each-last (λ k. holds (suc k)) ys x (each-rest holds y (ys ++ x ∷ []) each)

-- ---- the first seat, and those that are split off it

module _ {W M : Type 0} (lock : TableId) (board : History W) where
  -- a worker at a seat that was split off
  pub split-member : (seat : Sitting W) (n : ℕ) (worker : WorkerFor W M) (new : Seat (Option (History W)) (View W M)) → seat ≡ first_with board n
      → IsSeatOf lock new → sitting new ≡ split_from seat → worker.seat ≡ new → most_jobs ≤ vec_capacity worker.deps → IsMember lock board (suc n) worker
  split-member seat n worker new first of is at room =
      let now : sitting worker.seat ≡ split_from (first_with board n) = ap sitting at ∙ is ∙ ap split_from first in
      record {
        rests = record { room = room; seated = (subst (IsSeatOf lock) (sym at) of, ap (λ s. s.number) now ∙ omega arith); turn = ap (λ s. s.has_turn) now };
        idle = ap (λ s. held_from None s.own) now;
        program = ap (λ s. s.program) now;
        taken = ap (λ s. s.taken) now;
      }

  -- the worker at the first seat, once the others are split off
  pub first-member : (n : ℕ) (worker : WorkerFor W M) (first : Seat (Option (History W)) (View W M)) → sitting first ≡ first_with board n
      → IsSeatOf lock first → worker.seat ≡ first → most_jobs ≤ vec_capacity worker.deps → IsMember lock board 0 worker
  first-member n worker first is of at room =
      let now : sitting worker.seat ≡ first_with board n = ap sitting at ∙ is in
      record {
        rests = record { room = room; seated = (subst (IsSeatOf lock) (sym at) of, ap (λ s. s.number) now); turn = ap (λ s. s.has_turn) now };
        idle = ap (λ s. held_from None s.own) now;
        program = ap (λ s. s.program) now;
        taken = ap (λ s. s.taken) now;
      }

  pub crew-of : (n : ℕ) (worker : WorkerFor W M) (first : Seat (Option (History W)) (View W M)) (others : List (WorkerFor W M)) → sitting first ≡ first_with board n
      → IsSeatOf lock first → worker.seat ≡ first → most_jobs ≤ vec_capacity worker.deps → n ≡ length others
      → Each (λ k. IsMember lock board (suc k)) others → IsCrew lock board (worker ∷ others)
  crew-of n worker first others is of at room long each =
      record {
        some = omega arith;
        each = each-cons (IsMember lock board) worker others (first-member n worker first is of at room) each;
        counted = λ d. omega (arith, long, ap (λ s. s.splits) (ap sitting at ∙ is));
      }

-- ---- the first seat, while it takes in the others

module _ {W M : Type 0} (lock : TableId) (board : History W) (front : List Event) where
  -- the seat of the worker that was taken out first
  pub begins-taking-in : (worker : WorkerFor W M) (seat : Seat (Option (History W)) (View W M)) (left : ℕ) → IsMember lock board 0 worker → worker.seat ≡ seat
      → (sitting worker.seat).splits ≡ left → (sitting worker.seat).front ≡ front → IsTakingIn lock board front left seat
  begins-taking-in worker seat left member at splits is =
      let s = ap sitting at in
      record {
        of = subst (IsSeatOf lock) at member.rests.seated.0;
        turn = ap (λ s. s.has_turn) (sym s) ∙ member.rests.turn;
        number = ap (λ s. s.number) (sym s) ∙ member.rests.seated.1;
        program = ap (λ s. s.program) (sym s) ∙ member.program;
        counted = omega (arith, ap (λ s. s.splits) (sym s) ∙ splits, ap (λ s. length s.taken) (sym s) ∙ ap (λ l. length l) member.taken);
        begins = ([], ap (λ s. s.front) (sym s) ∙ is ∙ sym (append-nil front));
      }

  -- one more is taken in
  pub takes-in : (position left : ℕ) (worker : WorkerFor W M) (other seat now : Seat (Option (History W)) (View W M)) → IsMember lock board position worker
      → worker.seat ≡ other → IsTakingIn lock board front (left + 1) seat → IsSeatOf lock now → TakesIn (sitting seat) (sitting other) (sitting now)
      → IsTakingIn lock board front left now
  takes-in position left worker other seat now member at taking of takes =
      let is = takes.now_is in
      let none : (sitting other).taken ≡ [] = ap (λ s. s.taken) (ap sitting (sym at)) ∙ member.taken in
      let more : length (sitting now).taken ≡ length (sitting seat).taken + 1 =
      ap (λ s. length s.taken) is ∙ length-append (sitting seat).taken _ ∙ ap (λ l. length (sitting seat).taken + suc (length l)) none in
      let splits : (sitting now).splits ≡ (sitting seat).splits = ap (λ s. s.splits) is in
      record {
        of = of;
        turn = ap (λ s. s.has_turn) is ∙ taking.turn;
        number = ap (λ s. s.number) is ∙ taking.number;
        program = ap (λ s. s.program) is ∙ taking.program;
        counted = omega (arith, more, splits, taking.counted);
        begins = subst (IsBeginning front) (sym (ap (λ s. s.front) is ∙ takes.begins.1)) (begins-longer front (sitting seat).front takes.begins.0 taking.begins);
      }

  pub is-dismissed : (made : W → ℕ → List M → M) (seat : Seat (Option (History W)) (View W M)) (closed : History W) → IsTakingIn lock board front 0 seat
      → Closes made (sitting seat) closed → (opening closed ≡ opening board) × IsLegal (program_of made closed) closed.events × IsBeginning front closed.events
  is-dismissed made seat closed taking closes = (
    same-opening closed board (sym closes.program_is ∙ taking.program),
    closes.legal,
    subst (IsBeginning front) (sym closes.begins.1) (begins-longer front (sitting seat).front closes.begins.0 taking.begins),
  )

-- the first worker is taken out, and its seat takes in those of the rest
pub taken-out : {W M : Type 0} (lock : TableId) (board : History W) (workers rest : List (WorkerFor W M)) (worker : WorkerFor W M)
    (seat : Seat (Option (History W)) (View W M)) (left : ℕ) → IsCrew lock board workers → worker ≡ slice_index_or workers 0 worker
    → rest ≡ remove workers 0 → left ≡ length rest → seat ≡ worker.seat
    → IsTakingIn lock board (sitting worker.seat).front left seat × Each (λ k. IsMember lock board (suc k)) rest
    × ((d : WorkerFor W M) → slice_index_or workers 0 d ≡ worker)
taken-out lock board [] rest worker seat left crew is others long at = absurd (let some = crew.some in omega (arith, some))
taken-out {W} {M} lock board (first ∷ more) rest worker seat left crew is others long at =
    let counted = crew.counted worker in
    let splits : (sitting worker.seat).splits ≡ left =
    ap (λ (w : WorkerFor W M). (sitting w.seat).splits) is ∙ omega (arith, counted, long, ap (λ (l : List (WorkerFor W M)). length l) others) in (
      begins-taking-in lock board (sitting worker.seat).front worker seat left (subst (IsMember lock board 0) (sym is) (crew.each 0 worker crew.some)) (sym at) splits refl,
      subst (Each (λ k. IsMember lock board (suc k))) (sym others) (each-rest (IsMember lock board) first more crew.each),
      λ d. sym is,
    )
