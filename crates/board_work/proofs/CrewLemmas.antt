-- What holds of all workers once each of them has ended.
use Rattle.std.proofs.Common.{◌≡◌, ℕ, ◌<◌, true, false, List, [], ◌∷◌, arith, length, slice_index_or, subst}
use Rattle.atomic_table.specs.Seated.{TableId}
use Rattle.board_work.specs.Workers.{Each, EachOf, SomeAt, WorkerFor, HasSeenStop, IsFinished, HasWorked}

element : {A : Type 0} (xs : List A) (k : ℕ) → k < length xs → A
element [] k inside = absurd (omega (arith, inside))
element (x ∷ xs) k inside = x

-- each element of the later list is some later element at its position
each-later : {A : Type 0} (worked : ℕ → A → A → Type 0) (holds : ℕ → A → Type 0) → ((k : ℕ) (x y : A) → worked k x y → holds k y)
    → (old new : List A) → length new ≡ length old → EachOf worked old new → Each holds new
each-later worked holds gives old new long each k d inside =
    gives k (slice_index_or old k d) (slice_index_or new k d) (each k d (subst (λ n. k < n) long inside))

module _ {W M : Type 0} (made : W → ℕ → List M → M) (lock : TableId) (work : W) (old new : List (WorkerFor W M))
    (long : length new ≡ length old) (each : EachOf (HasWorked made lock work) old new) where
  -- where no worker says that it has seen a stop, each has finished
  pub all-finished : Each (λ position worker. worker.stopped ≡ false) new → Each (IsFinished made) new
  all-finished going k d inside =
      (each-later (HasWorked made lock work) (λ k y. y.stopped ≡ false → IsFinished made k y) (λ k x y worked. worked.ended.finished) old new long each k d inside)
      (going k d inside)

  -- a worker that says that it has seen a stop has seen one
  pub some-stopped : SomeAt (λ position worker. worker.stopped ≡ true) new → SomeAt HasSeenStop new
  some-stopped some =
      record {
        position = some.position;
        inside = some.inside;
        holds_there = λ d.
            each-later (HasWorked made lock work) (λ k y. y.stopped ≡ true → HasSeenStop k y) (λ k x y worked. worked.ended.stopped) old new long each
            some.position d some.inside (some.holds_there d);
      }

  -- where no worker says that it has seen a stop, none has
  pub none-stopped : Each (λ position worker. worker.stopped ≡ false) new → ¬ SomeAt HasSeenStop new
  none-stopped going some =
      let d = element new some.position some.inside in
      (all-finished going some.position d some.inside).going (some.holds_there d)
