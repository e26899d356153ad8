-- A crew that has worked is a crew.
use Rattle.std.proofs.Common.{◌≡◌, ℕ, ◌<◌, List, length, arith, ◌∙◌, subst}
use Rattle.atomic_table.specs.Seated.{TableId}
use Rattle.board_core.specs.History.{History}
use Rattle.board_work.specs.Crews.{IsCrew}
use Rattle.board_work.specs.Workers.{Each, EachOf, WorkerFor, MayWork, HasWorked}

module _ {W M : Type 0} (lock : TableId) (board : History W) (work : W) where
  pub crew-may-work : (workers : List (WorkerFor W M)) → board.work ≡ work → IsCrew lock board workers → Each (MayWork lock work) workers
  crew-may-work workers is crew k d inside =
      let member = crew.each k d inside in
      record { rests = member.rests; idle = member.idle; program = (board, member.program, is) }

  pub crew-stays : (made : W → ℕ → List M → M) (old new : List (WorkerFor W M)) → length new ≡ length old → IsCrew lock board old
      → EachOf (HasWorked made lock work) old new → IsCrew lock board new
  crew-stays made old new long crew worked =
      record {
        some = omega (arith, long, crew.some);
        each = λ k d inside.
            let before = subst (λ n. k < n) long inside in
            let member = crew.each k d before in
            let one = worked k d before in
            record { rests = one.may.rests; idle = one.may.idle; program = one.same.program ∙ member.program; taken = one.same.taken ∙ member.taken };
        counted = λ d.
            let counted = crew.counted d in
            let one = worked 0 d crew.some in
            omega (arith, long, counted, one.same.splits);
      }
