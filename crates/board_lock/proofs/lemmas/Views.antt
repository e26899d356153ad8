-- Views, while one seat changes its own: what the others know stays, and so does the place of the board.
use Rattle.std.proofs.Common.{◌≡◌, ◌≢◌, ℕ, zero, suc, ◌+◌, ◌<◌, ◌≤◌, ◌==◌, ◌⊎◌, inl, inr, ⊎_elim, true, false, Option, None, Some, List, [], ◌∷◌, ◌++◌, length, map, set, refl, sym, ap, ◌∙◌, subst, arith}
use Rattle.std.proofs.lemmas.List.{length-set, map-set, append_assoc, append-nil}
use Rattle.std.proofs.lemmas.List.Elements.{All-weaker, filter-append}
use Rattle.std.proofs.lemmas.Bool.{eq-eqb, ne_eqb}
use Rattle.std.specs.List.{All}
use mathlib.Core.Option.{none, some, some-injective, some-ne-none}
use lib.ListN.{get_elem?}
use Rattle.atomic_table.proofs.Lists.{at_set, at_map, set_else, set_here, set_again}
use Rattle.board_core.specs.declared.event.Event.{Event}
use Rattle.board_core.specs.History.{History}
use Rattle.board_core.specs.OwnEvents.{worker_of, own_events}
use Rattle.board_lock.specs.declared.view.View.{View}
use Rattle.board_lock.specs.Rule.{Holds, IsBeginning, spent, ticket_of, program_weight, spents, IsTakenIn, IsKnown, IsPlaced}

pub inside-of : {A : Type 0} (l : List A) (i : ℕ) (a : A) → get_elem? l i ≡ some a → i < length l
inside-of [] i a at = absurd (some-ne-none a (sym at))
inside-of (x ∷ xs) zero a at = omega arith
inside-of (x ∷ xs) (suc i) a at = let rest = inside-of xs i a at in omega arith

-- one list has one element at one place
pub one-at : {A : Type 0} (l : List A) (i : ℕ) (a b : A) → get_elem? l i ≡ some a → get_elem? l i ≡ some b → a ≡ b
one-at l i a b here there = some-injective a b (sym here ∙ there)

pub set-there : {A : Type 0} (l : List A) (i : ℕ) (a b : A) → get_elem? l i ≡ some a → get_elem? (set l i b) i ≡ some b
set-there l i a b at = set_here l i b (inside-of l i a at)

-- ---- beginnings of a history

pub begins-all : (log : List Event) → IsBeginning log log
begins-all log = ([], sym (append-nil log))

pub begins-longer : (front log more : List Event) → IsBeginning front log → IsBeginning front (log ++ more)
begins-longer front log more begins = (begins.0 ++ more, ap (λ (l : List Event). l ++ more) begins.1 ∙ append_assoc front begins.0 more)

-- of two beginnings of one history, one is a beginning of the other
pub beginnings-meet : (xs ys more others : List Event) → xs ++ more ≡ ys ++ others → IsBeginning xs ys ⊎ IsBeginning ys xs
beginnings-meet [] ys more others same = inl (ys, refl)
beginnings-meet (x ∷ xs) [] more others same = inr (x ∷ xs, refl)
beginnings-meet (x ∷ xs) (y ∷ ys) more others same =
    let heads : x ≡ y = cc in
    let tails : xs ++ more ≡ ys ++ others = cc in
    ⊎_elim (λ (b : IsBeginning xs ys). inl (b.0, λ i. sym heads i ∷ b.1 i)) (λ (b : IsBeginning ys xs). inr (b.0, λ i. heads i ∷ b.1 i)) (beginnings-meet xs ys more others tails)

-- ---- own events

own-more : (number : ℕ) (log : List Event) (event : Event) → own_events number (log ++ event ∷ []) ≡ own_events number log ++ own_events number (event ∷ [])
own-more number log event = filter-append (λ e. worker_of e == number) log (event ∷ [])

pub own-event : (number : ℕ) (log : List Event) (event : Event) → worker_of event ≡ number → own_events number (log ++ event ∷ []) ≡ own_events number log ++ event ∷ []
own-event number log event is = own-more number log event ∙ ap (λ (l : List Event). own_events number log ++ l) (rw (eq-eqb (worker_of event) number is) refl)

other-event : (number : ℕ) (log : List Event) (event : Event) → worker_of event ≢ number → own_events number (log ++ event ∷ []) ≡ own_events number log
other-event number log event other =
    own-more number log event ∙ ap (λ (l : List Event). own_events number log ++ l) (rw (ne_eqb (worker_of event) number other) refl) ∙ append-nil (own_events number log)

-- the history goes on, by events of this number alone
pub record IsGrown (id : ℕ) (log now : List Event) : Type 0 where
  pub more : List Event
  pub now_is : now ≡ log ++ more
  pub others : (number : ℕ) → number ≢ id → own_events number now ≡ own_events number log

pub grown-same : (id : ℕ) (log : List Event) → IsGrown id log log
grown-same id log = record { more = []; now_is = sym (append-nil log); others = λ number other. refl }

pub grown-event : (id : ℕ) (log now : List Event) (event : Event) → now ≡ log ++ event ∷ [] → worker_of event ≡ id → IsGrown id log now
grown-event id log now event is by =
    record {
      more = event ∷ [];
      now_is = is;
      others = λ number other. ap (own_events number) is ∙ other-event number log event (λ same. other (sym same ∙ by));
    }

pub begins-grown : (id : ℕ) (front log now : List Event) → IsGrown id log now → IsBeginning front log → IsBeginning front now
begins-grown id front log now grown begins = subst (IsBeginning front) (sym grown.now_is) (begins-longer front log grown.more begins)

weight-le : {W : Type 0} (program : Option (History W)) → program_weight program ≤ 1
weight-le None = omega arith
weight-le (Some program) = omega arith

pub weight-some : {W : Type 0} (program : Option (History W)) (board : History W) → program ≡ Some board → program_weight program ≡ 0
weight-some program board is = ap program_weight is

module _ {W M : Type 0} where
  -- ---- counts

  pub spents-set : (views : List (View W M)) (i : ℕ) (old new : View W M) → get_elem? views i ≡ some old
      → spents (set views i new) + program_weight old.program ≡ spents views + program_weight new.program
  spents-set [] i old new at = absurd (some-ne-none old (sym at))
  spents-set (x ∷ xs) zero old new at =
      let is : program_weight x.program ≡ program_weight old.program = ap (λ (v : View W M). program_weight v.program) (some-injective x old at) in omega arith
  spents-set (x ∷ xs) (suc i) old new at = let rest = spents-set xs i old new at in omega arith

  spents-le : (views : List (View W M)) → spents views ≤ length views
  spents-le [] = omega arith
  spents-le (x ∷ xs) = let one = weight-le x.program in let rest = spents-le xs in omega arith

  abbrev pub Counts : List (View W M) → View W M → Type 0
  Counts views first = (length views ≡ first.splits + 1) × (spents views ≡ length first.taken)

  pub spents-same : (views : List (View W M)) (id : ℕ) (v w : View W M) → get_elem? views id ≡ some v → w.program ≡ v.program → spents (set views id w) ≡ spents views
  spents-same views id v w at same =
      let sum = spents-set views id v w at in
      let is : program_weight w.program ≡ program_weight v.program = ap program_weight same in
      omega arith

  pub counts-stay : (views : List (View W M)) (id : ℕ) (v w : View W M) → get_elem? views id ≡ some v → w.program ≡ v.program → w.splits ≡ v.splits → w.taken ≡ v.taken
      → ((u : View W M) → get_elem? views 0 ≡ some u → Counts views u) → (u : View W M) → get_elem? (set views id w) 0 ≡ some u → Counts (set views id w) u
  counts-stay views id v w at program_is splits_are taken_is counts u there =
      let long : length (set views id w) ≡ length views = length-set views id w in
      let spent_are = spents-same views id v w at program_is in
      ⊎_elim
      (λ (e : (0 ≡ id) × (w ≡ u)).
      let was = counts v (ap (get_elem? views) e.0 ∙ at) in
      subst (Counts (set views id w)) e.1
      (long ∙ was.0 ∙ ap (λ (n : ℕ). n + 1) (sym splits_are), spent_are ∙ was.1 ∙ ap length (sym taken_is)))
      (λ (e : (0 ≢ id) × (get_elem? views 0 ≡ some u)). let was = counts u e.1 in (long ∙ was.0, spent_are ∙ was.1))
      (at_set views id 0 w u there)

  abbrev AllTaken : List (View W M) → Type 0
  AllTaken views = (id : ℕ) (first : View W M) → get_elem? views 0 ≡ some first → get_elem? views id ≡ some spent → Holds first.taken id

  pub all-taken-stays : (views : List (View W M)) (id : ℕ) (v w : View W M) → get_elem? views id ≡ some v → w ≢ spent → w.taken ≡ v.taken → AllTaken views → AllTaken (set views id w)
  all-taken-stays views id v w at alive taken_is all j u first gone =
      ⊎_elim (λ (e : (j ≡ id) × (w ≡ spent)). absurd (alive e.1))
      (λ (e : (j ≢ id) × (get_elem? views j ≡ some spent)).
      ⊎_elim
      (λ (f : (0 ≡ id) × (w ≡ u)).
      let was = all j v (ap (get_elem? views) f.0 ∙ at) e.1 in
      subst (λ (taken : List (ℕ × List Event)). Holds taken j) (sym taken_is ∙ ap (λ (x : View W M). x.taken) f.1) was)
      (λ (f : (0 ≢ id) × (get_elem? views 0 ≡ some u)). all j u f.1 e.1)
      (at_set views id 0 w u first))
      (at_set views id j w spent gone)

  -- two seats that are not taken in are two more than those that are
  pub two-left : (views : List (View W M)) (i j : ℕ) (v w : View W M) (a b : History W) → get_elem? views i ≡ some v → get_elem? views j ≡ some w → i ≢ j
      → v.program ≡ Some a → w.program ≡ Some b → spents views + 2 ≤ length views
  two-left views i j v w a b here there apart first second =
      let once = spents-set views i v spent here in
      let still : get_elem? (set views i spent) j ≡ some w = set_else views i j spent (λ e. apart (sym e)) ∙ there in
      let twice = spents-set (set views i spent) j w spent still in
      let none : program_weight v.program ≡ 0 = weight-some v.program a first in
      let none' : program_weight w.program ≡ 0 = weight-some w.program b second in
      let most = spents-le (set (set views i spent) j spent) in
      let long : length (set (set views i spent) j spent) ≡ length views = length-set (set views i spent) j spent ∙ length-set views i spent in
      omega arith

  -- ---- tickets

  pub tickets-set : (views : List (View W M)) (id : ℕ) (v w : View W M) → get_elem? views id ≡ some v → w.ticket ≡ v.ticket → map ticket_of (set views id w) ≡ map ticket_of views
  tickets-set views id v w at same =
      map-set ticket_of views id w ∙ (ap (set (map ticket_of views) id) same ∙ set_again (map ticket_of views) id v.ticket (at_map ticket_of views id v at))

  -- ---- the others

  pub not-spent : (v : View W M) (board : History W) → v.program ≡ Some board → v ≢ spent
  not-spent v board is same = let none : v.program ≡ None = ap (λ (u : View W M). u.program) same in cc

  module _ (board : History W) where
    -- a seat that was taken in stays so, while a seat that was not changes
    taken-stays : (log now : List Event) (views : List (View W M)) (id : ℕ) (v w : View W M) → get_elem? views id ≡ some v → v ≢ spent → IsGrown id log now
        → (taken : ℕ × List Event) → IsTakenIn log views taken → IsTakenIn now (set views id w) taken
    taken-stays log now views id v w at alive grown taken was =
        let other : taken.0 ≢ id = λ same. alive (one-at views id v spent at (ap (get_elem? views) (sym same) ∙ was.1)) in
        (grown.others taken.0 other ∙ was.0, set_else views id taken.0 w other ∙ was.1)

    pub all-taken-stay : (log now : List Event) (views : List (View W M)) (id : ℕ) (v w : View W M) → get_elem? views id ≡ some v → v ≢ spent → IsGrown id log now
        → (taken : List (ℕ × List Event)) → All (IsTakenIn log views) taken → All (IsTakenIn now (set views id w)) taken
    all-taken-stay log now views id v w at alive grown taken was = All-weaker (IsTakenIn log views) (IsTakenIn now (set views id w)) (taken-stays log now views id v w at alive grown) taken was

    pub known-stays : (log now : List Event) (views : List (View W M)) (id : ℕ) (v w : View W M) → get_elem? views id ≡ some v → v ≢ spent → IsGrown id log now
        → (j : ℕ) (u : View W M) → j ≢ id → IsKnown board log views j u → IsKnown board now (set views id w) j u
    known-stays log now views id v w at alive grown j u other known =
        record {
          program_is = known.program_is;
          number_is = known.number_is;
          front = begins-grown id u.front log now grown known.front;
          other_front = begins-grown id u.other_front log now grown known.other_front;
          own = grown.others j other ∙ known.own;
          taken = all-taken-stay log now views id v w at alive grown u.taken known.taken;
          alone = known.alone;
        }

    pub each-stays : (log now : List Event) (views : List (View W M)) (id : ℕ) (v w : View W M) → get_elem? views id ≡ some v → v ≢ spent → IsGrown id log now
        → ((j : ℕ) (u : View W M) → get_elem? views j ≡ some u → (u ≡ spent) ⊎ IsKnown board log views j u)
        → IsKnown board now (set views id w) id w
        → (j : ℕ) (u : View W M) → get_elem? (set views id w) j ≡ some u → (u ≡ spent) ⊎ IsKnown board now (set views id w) j u
    each-stays log now views id v w at alive grown each mine j u there =
        ⊎_elim (λ (e : (j ≡ id) × (w ≡ u)). inr (subst (λ (x : ℕ × View W M). IsKnown board now (set views id w) x.0 x.1) (λ i. (sym e.0 i, e.1 i)) mine))
        (λ (e : (j ≢ id) × (get_elem? views j ≡ some u)).
        ⊎_elim (λ (gone : u ≡ spent). inl gone) (λ (known : IsKnown board log views j u). inr (known-stays log now views id v w at alive grown j u e.0 known)) (each j u e.1))
        (at_set views id j w u there)

    -- ---- the place of the board

    pub placed-stays : (log : List Event) (served : ℕ) (homes : List (mathlib.Core.Option.Option (Option (History W)))) (views : List (View W M)) (id : ℕ) (v w : View W M)
        → get_elem? views id ≡ some v → v.has_turn ≡ false → w.has_turn ≡ false → IsPlaced board log served homes views → IsPlaced board log served homes (set views id w)
    placed-stays log served homes views id v w at without still (inl home) =
        inl (
          home.0,
          λ j u there.
              ⊎_elim (λ (e : (j ≡ id) × (w ≡ u)). ap (λ (x : View W M). x.has_turn) (sym e.1) ∙ still) (λ (e : (j ≢ id) × (get_elem? views j ≡ some u)). home.1 j u e.1) (at_set views id j w u there),
        )
    placed-stays log served homes views id v w at without still (inr out) =
        let other : out.id ≢ id =
        λ same. let is : out.view ≡ v = one-at views id out.view v (ap (get_elem? views) (sym same) ∙ out.at) at in
        let turn : true ≡ false = sym out.turn ∙ ap (λ (x : View W M). x.has_turn) is ∙ without in cc in
        inr record {
          id = out.id;
          view = out.view;
          at = set_else views id out.id w other ∙ out.at;
          turn = out.turn;
          ticket = out.ticket;
          front = out.front;
          homes_are = out.homes_are;
          others =
              λ j u apart there.
              ⊎_elim (λ (e : (j ≡ id) × (w ≡ u)). ap (λ (x : View W M). x.has_turn) (sym e.1) ∙ still) (λ (e : (j ≢ id) × (get_elem? views j ≡ some u)). out.others j u apart e.1)
              (at_set views id j w u there);
        }
