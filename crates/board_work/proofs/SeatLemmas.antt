-- What a seat says of the board that it has, and what an event that it notes makes of it.
use Rattle.std.proofs.Common.{◌≡◌, ◌≢◌, ℕ, ◌<◌, ◌++◌, Bool, true, false, inl, inr, Option, None, Some, List, [], ◌∷◌, Contains, arith, refl, sym, ap, ◌∙◌, subst, append_assoc}
use Rattle.std.proofs.lemmas.List.{append_cancel_left}
use Rattle.std.proofs.lemmas.List.Elements.{Contains-append_right}
use Rattle.board_core.specs.declared.event.Event.{Event}
use Rattle.board_core.specs.declared.event.Event.TheVariants.{Claim, Publish, Stop}
use Rattle.board_core.specs.Answers.{IsRanked, answer}
use Rattle.board_core.specs.Board.{Held, job_at, results, deps_of, HoldsNone, HasStopped, NobodyStopped, IsLegal, replay}
use Rattle.board_core.specs.Calls.{with_event, AllOut, Claims, IsDone, SomebodyStopped}
use Rattle.board_core.specs.History.{History, program_of, state_of}
use Rattle.board_core.specs.Laws.{DepsGiveAnswer}
use Rattle.board_core.specs.OwnEvents.{worker_of, held_after, held_from, is_stop, has_stop, OwnEventsDecide, OwnStopsDecide}
use Rattle.board_lock.proofs.lemmas.Views.{own-event}
use Rattle.board_lock.specs.Rule.{opening}
use Rattle.board_lock.specs.Seats.{Sitting, with_noted, without_turn}
use Rattle.board_work.specs.declared.turns.Hand.{Hand}
use Rattle.board_work.specs.declared.turns.Hand.TheVariants.{Empty, Full}
use Rattle.board_work.specs.declared.turns.Next.{Next}
use Rattle.board_work.specs.declared.turns.Next.TheVariants.{Make, Sleep, Done, Stopped}
use Rattle.board_work.specs.Turns.{IsAtBoard, Holds, IsIdle, IsResultOf, IsMadeOf, IsInHand, IsNextFor, handing_in, IsChosen, HandsInFirst, IsTurn}
use Rattle.board_work.specs.Workers.{IsSameSeat, AllJobsOut}

-- ---- lists of own events

pub held-after : (held : Option ℕ) (events : List Event) (event : Event) → held_from held (events ++ event ∷ []) ≡ held_after event
held-after held [] event = refl
held-after held (first ∷ events) event = held-after (held_after first) events event

pub still-going : (events : List Event) (event : Event) → has_stop events ≡ false → is_stop event ≡ false → has_stop (events ++ event ∷ []) ≡ false
still-going [] event going is = rw is refl
still-going (Claim worker job ∷ events) event going is = still-going events event going is
still-going (Publish worker job ∷ events) event going is = still-going events event going is
still-going (Stop worker ∷ events) event going is = absurd (cc)

false-of : (b : Bool) → b ≢ true → b ≡ false
false-of true is = absurd (is refl)
false-of false is = refl

pub same-opening : {W : Type 0} (a b : History W) → Some (opening a) ≡ Some (opening b) → opening a ≡ opening b
same-opening a b same = cc

module _ {W M : Type 0} (made : W → ℕ → List M → M) where
  -- ---- what a worker may do

  -- what the worker holds is the one result that the job may be given
  pub may-hand-in
      : (seat : Sitting W) (board : History W) → IsAtBoard seat board → IsRanked (program_of made board) → IsLegal (program_of made board) board.events
      → OwnEventsDecide M → DepsGiveAnswer M → (job : ℕ) (it : M) → held_from None seat.own ≡ Some job → IsResultOf made seat job it
      → (job_at (state_of made board) job ≡ Held seat.number)
      × (it ≡ made board.work job (results (state_of made board) (deps_of (program_of made board) job)))
  may-hand-in seat board at ranked legal decide give job it held result =
      let holds = (decide (program_of made board) board.events legal seat.number job).1 (ap (held_from None) at.own ∙ held) in
      let same = same-opening result.board board (sym result.program_is ∙ at.program_is) in
      let mine : answer (program_of made board) job ≡ Some it =
      subst (λ (h : History W). answer (program_of made h) job ≡ Some it) same result.answer_is in
      let given = give (program_of made board) board.events ranked legal job (inr (seat.number, holds)) in
      (holds, cc)

  pub may-claim
      : (seat : Sitting W) (board : History W) → IsAtBoard seat board → IsLegal (program_of made board) board.events
      → OwnEventsDecide M → IsIdle seat → HoldsNone (state_of made board) seat.number
  may-claim seat board at legal decide idle job holds =
      let held = (decide (program_of made board) board.events legal seat.number job).0 holds in
      let none = ap (held_from None) at.own ∙ idle in
      cc

  pub may-stop
      : (seat : Sitting W) (board : History W) → IsAtBoard seat board → IsLegal (program_of made board) board.events
      → OwnStopsDecide M → has_stop seat.own ≡ false → ¬ HasStopped (state_of made board) seat.number
  may-stop seat board at legal decide going stopped =
      let own = (decide (program_of made board) board.events legal seat.number).0 stopped in
      let none = ap has_stop at.own ∙ going in
      cc

  -- where nobody has stopped, the worker has not
  pub is-going
      : (seat : Sitting W) (board : History W) → IsAtBoard seat board → IsLegal (program_of made board) board.events
      → OwnStopsDecide M → NobodyStopped (state_of made board) → has_stop seat.own ≡ false
  is-going seat board at legal decide nobody =
      false-of (has_stop seat.own) (λ own. nobody seat.number ((decide (program_of made board) board.events legal seat.number).1 (ap has_stop at.own ∙ own)))

-- ---- an event that a seat notes

module _ {W : Type 0} where
  -- the event that was noted is the one that was added
  pub noted-is
      : (seat now : Sitting W) (board new : History W) (event other : Event) → IsAtBoard seat board → new ≡ with_event board event
      → new.events ≡ seat.front ++ other ∷ [] → now ≡ with_noted other seat → now ≡ with_noted event seat
  noted-is seat now board new event other at added is noted =
      let both : seat.front ++ other ∷ [] ≡ seat.front ++ event ∷ [] =
      sym is ∙ ap (λ (h : History W). h.events) added ∙ ap (λ (l : List Event). l ++ event ∷ []) at.front_is in
      let one : other ∷ [] ≡ event ∷ [] = append_cancel_left seat.front _ _ both in
      let same : other ≡ event = cc in
      noted ∙ ap (λ e. with_noted e seat) same

  pub at-noted
      : (seat now : Sitting W) (board new : History W) (event : Event) → IsAtBoard seat board → worker_of event ≡ seat.number → new ≡ with_event board event
      → now ≡ with_noted event seat → IsAtBoard now new
  at-noted seat now board new event at by added noted =
      let then : IsAtBoard (with_noted event seat) (with_event board event) =
      record {
        turn = at.turn;
        program_is = at.program_is;
        front_is = ap (λ (l : List Event). l ++ event ∷ []) at.front_is;
        own = own-event seat.number board.events event by ∙ ap (λ (l : List Event). l ++ event ∷ []) at.own;
        known = at.known;
      } in
      subst (λ s. IsAtBoard s new) (sym noted) (subst (IsAtBoard (with_noted event seat)) (sym added) then)

  -- it holds no job once it has handed in what it held
  pub idle-handed-in : (seat now : Sitting W) (worker job : ℕ) → now ≡ with_noted (Publish worker job) seat → IsIdle now
  idle-handed-in seat now worker job noted = ap (λ (s : Sitting W). held_from None s.own) noted ∙ held-after None seat.own (Publish worker job)

  -- once it has stopped it holds no job, and has seen that stop
  pub has-stopped : (seat now : Sitting W) (worker : ℕ) → now ≡ with_noted (Stop worker) seat → IsIdle now × SomebodyStopped now.front
  has-stopped seat now worker noted = (
    ap (λ (s : Sitting W). held_from None s.own) noted ∙ held-after None seat.own (Stop worker),
    (
      worker,
      subst (λ (s : Sitting W). Contains s.front (Stop worker)) (sym noted)
          (Contains-append_right seat.front (Stop worker ∷ []) (Stop worker) (0, omega arith, refl)),
    ),
  )

-- ---- answers to a claim

module _ {W M : Type 0} (made : W → ℕ → List M → M) (seat : Sitting W) (board : History W) (at : IsAtBoard seat board) where
  pub has-claimed
      : (jobs : W → ℕ) (now : Sitting W) (new : History W) (worker job : ℕ) (given : List M) → IsRanked (program_of made board)
      → IsLegal (program_of made board) board.events → OwnStopsDecide M → DepsGiveAnswer M → Claims made board new worker job given
      → job < jobs board.work → now ≡ with_noted (Claim worker job) seat → Holds now job × IsMadeOf made jobs now job given
  has-claimed jobs now new worker job given ranked legal decide give claims inside noted =
      let answers = give (program_of made board) board.events ranked legal job (inl claims.may.next.ready) in (
        record {
          held = ap (λ (s : Sitting W). held_from None s.own) noted ∙ held-after None seat.own (Claim worker job);
          going = ap (λ (s : Sitting W). has_stop s.own) noted ∙ still-going seat.own (Claim worker job) (is-going made seat board at legal decide claims.may.going) refl;
        },
        record {
          board = board;
          program_is = ap (λ (s : Sitting W). s.program) noted ∙ at.program_is;
          inside = inside;
          answer_is = answers ∙ ap (λ (l : List M). Some (made board.work job l)) (sym claims.results_are);
        },
      )

  pub all-jobs-out : IsDone (program_of made board) (state_of made board) → AllJobsOut made seat
  all-jobs-out done =
      record {
        board = board;
        program_is = at.program_is;
        all_out = subst (λ (l : List Event). AllOut (program_of made board) (replay (program_of made board) l)) at.front_is done.all_out;
      }

  pub none-on-board : ¬ SomebodyStopped board.events → ¬ SomebodyStopped seat.front
  none-on-board going stopped = going (subst SomebodyStopped (sym at.front_is) stopped)

-- ---- what a seat says stays

module _ {W M : Type 0} (made : W → ℕ → List M → M) where
  pub hand-stays : {A : Type 0} (value : A → M) (seat now : Sitting W) (hand : Hand A) → IsSameSeat seat now → now.own ≡ seat.own
      → IsInHand made value seat hand → IsInHand made value now hand
  hand-stays value seat now Empty same own idle = ap (held_from None) own ∙ idle
  hand-stays value seat now (Full job it) same own in_hand = (
    ap (held_from None) own ∙ in_hand.0,
    record { board = in_hand.1.board; program_is = same.program ∙ in_hand.1.program_is; answer_is = in_hand.1.answer_is },
  )

  rested : (jobs : W → ℕ) (seat : Sitting W) (deps : List M) (next : Next) → IsNextFor made jobs seat deps next → IsNextFor made jobs (without_turn seat) deps next
  rested jobs seat deps (Make job) is = (
    record { held = is.0.held; going = is.0.going },
    record { board = is.1.board; program_is = is.1.program_is; inside = is.1.inside; answer_is = is.1.answer_is },
  )
  rested jobs seat deps (Sleep seen) is = is
  rested jobs seat deps Done is = (is.0, is.1, record { board = is.2.board; program_is = is.2.program_is; all_out = is.2.all_out })
  rested jobs seat deps Stopped is = is

  -- the board is given back
  pub next-stays : (jobs : W → ℕ) (seat now : Sitting W) (deps : List M) (next : Next) → now ≡ without_turn seat
      → IsNextFor made jobs seat deps next → IsNextFor made jobs now deps next
  next-stays jobs seat now deps next given is = subst (λ (s : Sitting W). IsNextFor made jobs s deps next) (sym given) (rested jobs seat deps next is)

  -- what is made of the deps is the result of the job
  pub made-result : (jobs : W → ℕ) (seat : Sitting W) (job : ℕ) (deps : List M) → IsMadeOf made jobs seat job deps
      → (work : W) (board : History W) → seat.program ≡ Some (opening board) → board.work ≡ work
      → (it : M) → it ≡ made work job deps → IsResultOf made seat job it
  made-result jobs seat job deps of work board program_is work_is it is =
      let same : of.board.work ≡ board.work = ap (λ (h : History W). h.work) (same-opening of.board board (sym of.program_is ∙ program_is)) in
      record {
        board = of.board;
        program_is = of.program_is;
        answer_is = of.answer_is ∙ ap (λ (w : W). Some (made w job deps)) (same ∙ work_is) ∙ ap Some (sym is);
      }

pub same-then : {W : Type 0} (first then last : Sitting W) → IsSameSeat first then → IsSameSeat then last → IsSameSeat first last
same-then first then last one two =
    record { program = two.program ∙ one.program; number = two.number ∙ one.number; splits = two.splits ∙ one.splits; taken = two.taken ∙ one.taken }

-- ---- what a worker has noted in a turn

pub a-turn : {W A : Type 0} (position worker : ℕ) (hand : Hand A) (next : Next) (old entered handed done new : Sitting W) → worker ≡ position → entered.own ≡ old.own
    → handed.own ≡ entered.own ++ handing_in worker hand → (chosen : List Event) → done.own ≡ handed.own ++ chosen → IsChosen worker next chosen → new ≡ without_turn done
    → IsTurn position hand next old new
a-turn position worker hand next old entered handed done new number first second chosen third is last =
    record {
      chosen = chosen;
      own_is =
          ap (λ (s : Sitting _). s.own) last ∙ third
          ∙ ap (λ (l : List Event). l ++ chosen) (second ∙ ap (λ (w : ℕ). entered.own ++ handing_in w hand) number ∙ ap (λ (l : List Event). l ++ handing_in position hand) first);
      chosen_is = subst (λ (w : ℕ). IsChosen w next chosen) number is;
    }

-- what it notes later comes behind
pub hands-in-first : {W A : Type 0} (position : ℕ) (hand : Hand A) (next : Next) (old then new : Sitting W) → IsTurn position hand next old then → (later : List Event) → new.own ≡ then.own ++ later
    → HandsInFirst position hand old new
hands-in-first position hand next old then new turn later is =
    record {
      later = turn.chosen ++ later;
      own_is = is ∙ ap (λ (l : List Event). l ++ later) turn.own_is ∙ append_assoc (old.own ++ handing_in position hand) turn.chosen later;
    }
