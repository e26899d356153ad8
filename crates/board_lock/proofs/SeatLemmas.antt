-- The rule at the opening, when a seat is split off or taken in, and at the close.
use Rattle.std.proofs.Common.{◌≡◌, ◌≢◌, ℕ, zero, suc, ◌+◌, ◌^◌, ◌<◌, ◌≤◌, ◌⊎◌, inl, inr, ⊎_elim, true, false, Option, None, Some, List, [], ◌∷◌, ◌++◌, length, map, set, refl, sym, ap, ◌∙◌, subst, arith}
use Rattle.std.proofs.lemmas.List.{length-set, length-append, map-append}
use Rattle.std.proofs.lemmas.List.Elements.{All-nil, All-cons, All-append, All-weaker, Contains-append_left, Contains-append_right}
use Rattle.std.proofs.lemmas.Bool.{cases_eq}
use Rattle.std.specs.List.{All}
use mathlib.Core.Option.{none, some, some-injective, some-ne-none}
use lib.ListN.{get_elem?}
use Rattle.atomic_table.specs.Table.{State, Splits, Joins, opening as opening_table}
use Rattle.atomic_table.proofs.Lists.{at_set, at_longer, at_snoc, set_else}
use Rattle.board_core.specs.declared.event.Event.{Event}
use Rattle.board_core.specs.History.{History}
use Rattle.board_core.specs.OwnEvents.{own_events}
use Rattle.board_lock.specs.declared.view.View.{View}
use Rattle.board_lock.specs.Rule.{opening, with_events, Holds, spent, ticket_of, program_weight, spents, IsQueue, IsTakenIn, IsKnown, IsOut, IsPlaced, IsOneHistory}
use Rattle.board_lock.specs.Seats.{sitting_of, first_view, Closes}
use Rattle.board_lock.specs.Steps.{splitter, newcomer, taking_in}
use Rattle.board_lock.proofs.QueueLemmas.{pushes-none}
use Rattle.board_lock.proofs.lemmas.Views.{one-at, set-there, grown-same, tickets-set, not-spent, all-taken-stay, all-taken-stays, each-stays, placed-stays, spents-set, spents-same, weight-some, two-left, Counts}
use Rattle.board_lock.proofs.StepLemmas.{known-at, same-workers}

single : {A : Type 0} (x : A) (i : ℕ) (a : A) → get_elem? (x ∷ []) i ≡ some a → (i ≡ 0) × (x ≡ a)
single x zero a at = (refl, some-injective x a at)
single x (suc i) a at = absurd (some-ne-none a (sym at))

elem-at : {A : Type 0} (l : List A) (i : ℕ) → i < length l → (a : A) × (get_elem? l i ≡ some a)
elem-at [] i inside = absurd (omega arith)
elem-at (x ∷ xs) zero inside = (x, refl)
elem-at (x ∷ xs) (suc i) inside = elem-at xs i (omega arith)

-- as `at_snoc`, and the last one stands at the end
at-end : {A : Type 0} (l : List A) (a b : A) (j : ℕ) → get_elem? (l ++ a ∷ []) j ≡ some b → (get_elem? l j ≡ some b) ⊎ ((j ≡ length l) × (a ≡ b))
at-end [] a b zero at = inr (refl, some-injective a b at)
at-end [] a b (suc j) at = absurd (some-ne-none b (sym at))
at-end (x ∷ xs) a b zero at = inl at
at-end (x ∷ xs) a b (suc j) at =
    ⊎_elim (λ (e : get_elem? xs j ≡ some b). inl e) (λ (e : (j ≡ length xs) × (a ≡ b)). inr (ap suc e.0, e.1)) (at-end xs a b j at)

module _ {W M : Type 0} where
  spents-push : (views : List (View W M)) (v : View W M) → spents (views ++ v ∷ []) ≡ spents views + program_weight v.program
  spents-push [] v = omega arith
  spents-push (x ∷ xs) v = let rest = spents-push xs v in omega arith

  module _ (made : W → ℕ → List M → M) (board : History W) where
    abbrev Rule : State (Option (History W)) (View W M) → Type 0
    Rule = IsOneHistory made board

    pub opens : board.events ≡ [] → 0 < board.workers → board.workers < 2 ^ 32 → Rule (opening_table (0 ∷ 0 ∷ 0 ∷ []) (Some board ∷ []) (first_view board))
    opens empty some_worker small =
        let views : List (View W M) = first_view board ∷ [] in
        record {
          log = [];
          legal = tt;
          next = 0;
          served = 0;
          words_are = refl;
          queue = record {
            next_is = refl;
            within = λ i t at. absurd (let no = (single None i (Some t) at).1 in cc);
            once = λ i j t at there. absurd (let no = (single None i (Some t) at).1 in cc);
          };
          few = omega arith;
          small = small;
          counts = λ v at. subst (Counts views) (single (first_view board) 0 v at).1 (refl, refl);
          all_taken = λ id v first gone. absurd (not-spent (first_view board) (opening board) refl (single (first_view board) id spent gone).1);
          each =
              λ id v at.
              let is = single (first_view board) id v at in
              inr (subst (λ (x : ℕ × View W M). IsKnown board [] views x.0 x.1) (λ i. (sym is.0 i, is.1 i)) record {
                program_is = refl;
                number_is = refl;
                front = ([], refl);
                other_front = ([], refl);
                own = refl;
                taken = All-nil (IsTakenIn [] views);
                alone = inl refl;
              });
          later = λ id past. refl;
          placed = inl (
            (λ i. some (Some (with_events board (empty i))) ∷ []),
            λ id v at. ap (λ (u : View W M). u.has_turn) (sym (single (first_view board) id v at).1),
          );
        }

    placed-push : (log : List Event) (served : ℕ) (homes : List (mathlib.Core.Option.Option (Option (History W)))) (views : List (View W M)) (w : View W M) → w.has_turn ≡ false
        → IsPlaced board log served homes views → IsPlaced board log served homes (views ++ w ∷ [])
    placed-push log served homes views w still (inl home) =
        inl (
          home.0,
          λ j u there.
              ⊎_elim (λ (e : get_elem? views j ≡ some u). home.1 j u e) (λ (e : w ≡ u). ap (λ (x : View W M). x.has_turn) (sym e) ∙ still) (at_snoc views w u j there),
        )
    placed-push log served homes views w still (inr out) =
        inr record {
          id = out.id;
          view = out.view;
          at = at_longer views (w ∷ []) out.id out.view out.at;
          turn = out.turn;
          ticket = out.ticket;
          front = out.front;
          homes_are = out.homes_are;
          others =
              λ j u apart there.
              ⊎_elim (λ (e : get_elem? views j ≡ some u). out.others j u apart e) (λ (e : w ≡ u). ap (λ (x : View W M). x.has_turn) (sym e) ∙ still) (at_snoc views w u j there);
        }

    known-push : (log : List Event) (views : List (View W M)) (w : View W M) (j : ℕ) (u : View W M) → IsKnown board log views j u → IsKnown board log (views ++ w ∷ []) j u
    known-push log views w j u known =
        record {
          program_is = known.program_is;
          number_is = known.number_is;
          front = known.front;
          other_front = known.other_front;
          own = known.own;
          taken = All-weaker (IsTakenIn log views) (IsTakenIn log (views ++ w ∷ [])) (λ x was. (was.0, at_longer views (w ∷ []) x.0 spent was.1)) u.taken known.taken;
          alone = known.alone;
        }

    pub splits-step : (id : ℕ) (v : View W M) (other : History W) → v.program ≡ Some (opening other) → v.number ≡ 0 → v.has_turn ≡ false → v.splits + 1 < other.workers
        → Splits Rule id v (splitter v) (newcomer v)
    splits-step id v other is first rests room s r at =
        let known = known-at made board s r id v at other is in
        let id_is : id ≡ 0 = sym known.number_is ∙ first in
        let count = r.counts v (ap (get_elem? s.views) (sym id_is) ∙ at) in
        let w : View W M = splitter v in
        let n : View W M = newcomer v in
        let views : List (View W M) = set s.views id w in
        let alive = not-spent v (opening board) known.program_is in
        let long : length views ≡ length s.views = length-set s.views id w in
        let longer : length (views ++ n ∷ []) ≡ length views + 1 = length-append views (n ∷ []) in
        let count_is : length s.views ≡ v.splits + 1 = count.0 in
        let workers : board.workers ≡ other.workers = same-workers board other (sym known.program_is ∙ is) in
        let here : get_elem? (views ++ n ∷ []) 0 ≡ some w =
        ap (get_elem? (views ++ n ∷ [])) (sym id_is) ∙ at_longer views (n ∷ []) id w (set-there s.views id v w at) in
        let spent_are : spents (views ++ n ∷ []) ≡ length v.taken =
        spents-push views n ∙ (let none : program_weight v.program ≡ 0 = weight-some v.program (opening other) is in
        let same = spents-same s.views id v w at refl in let was = count.1 in omega arith) in
        record {
          log = r.log;
          legal = r.legal;
          next = r.next;
          served = r.served;
          words_are = r.words_are;
          queue =
              subst (IsQueue r.next r.served) (sym (map-append ticket_of views (n ∷ []) ∙ ap (λ (ts : List (Option ℕ)). ts ++ None ∷ []) (tickets-set s.views id v w at refl)))
              (pushes-none r.next r.served (map ticket_of s.views) r.queue);
          few = omega arith;
          small = r.small;
          counts =
              λ u there. subst (Counts (views ++ n ∷ [])) (one-at (views ++ n ∷ []) 0 w u here there) (longer ∙ (let both : length views + 1 ≡ v.splits + 1 + 1 = omega arith in both), spent_are);
          all_taken =
              λ j u at0 gone.
              let first_is = one-at (views ++ n ∷ []) 0 w u here at0 in
              ⊎_elim
              (λ (old : get_elem? views j ≡ some spent).
              subst (λ (x : View W M). Holds x.taken j) first_is
              (all-taken-stays s.views id v w at (not-spent w (opening board) known.program_is) refl r.all_taken j w
              (ap (get_elem? views) (sym id_is) ∙ set-there s.views id v w at) old))
              (λ (e : n ≡ spent). absurd (not-spent n (opening board) known.program_is e))
              (at_snoc views n spent j gone);
          each =
              λ j u there.
              ⊎_elim
              (λ (old : get_elem? views j ≡ some u).
              ⊎_elim (λ (gone : u ≡ spent). inl gone) (λ (k : IsKnown board r.log views j u). inr (known-push r.log views n j u k))
              (each-stays board r.log r.log s.views id v w at alive (grown-same id r.log) r.each record {
                program_is = known.program_is;
                number_is = known.number_is;
                front = known.front;
                other_front = known.other_front;
                own = known.own;
                taken = all-taken-stay board r.log r.log s.views id v w at alive (grown-same id r.log) v.taken known.taken;
                alone = known.alone;
              } j u old))
              (λ (e : (j ≡ length views) × (n ≡ u)).
              let j_is : v.splits + 1 ≡ j = (let end = e.0 in omega arith) in
              inr (subst (IsKnown board r.log (views ++ n ∷ []) j) e.1 record {
                program_is = known.program_is;
                number_is = j_is;
                front = known.front;
                other_front = (r.log, refl);
                own = r.later j (let end = e.0 in omega arith);
                taken = All-nil (IsTakenIn r.log (views ++ n ∷ []));
                alone = inr refl;
              }))
              (at-end views n u j there);
          later = λ k past. r.later k (omega arith);
          placed = placed-push r.log r.served s.homes views n refl (placed-stays board r.log r.served s.homes s.views id v w at rests rests r.placed);
        }

    pub joins-step : (id : ℕ) (v : View W M) (a : History W) → v.program ≡ Some (opening a) → v.number ≡ 0 → v.has_turn ≡ false
        → (other : ℕ) (w : View W M) (b : History W) → w.program ≡ Some (opening b) → w.ticket ≡ None → w.has_turn ≡ false
        → Joins Rule id v other w (taking_in v w) spent
    joins-step id v a is first rests other w b w_is without w_rests s r at apart at' =
        let both : View W M = taking_in v w in
        let views : List (View W M) = set s.views id both in
        let now : List (View W M) = set views other spent in
        let there : get_elem? s.views other ≡ some w = sym (set_else s.views id other both apart) ∙ at' in
        let known = known-at made board s r id v at a is in
        let known_w = known-at made board s r other w there b w_is in
        let alive = not-spent v (opening board) known.program_is in
        let id_is : id ≡ 0 = sym known.number_is ∙ first in
        let alone : w.taken ≡ [] = ⊎_elim (λ (zero_is : other ≡ 0). absurd (apart (zero_is ∙ sym id_is))) (λ (e : w.taken ≡ []). e) known_w.alone in
        let count = r.counts v (ap (get_elem? s.views) (sym id_is) ∙ at) in
        let through : (x : ℕ × List Event) → IsTakenIn r.log s.views x → IsTakenIn r.log now x =
        λ x was.
        let not_me : x.0 ≢ id = λ same. alive (one-at s.views id v spent at (ap (get_elem? s.views) (sym same) ∙ was.1)) in
        let still : get_elem? views x.0 ≡ some spent = set_else s.views id x.0 both not_me ∙ was.1 in (
          was.0,
          ⊎_elim (λ (same : x.0 ≡ other). ap (get_elem? now) same ∙ set-there views other w spent at') (λ (not_other : x.0 ≢ other). set_else views other x.0 spent not_other ∙ still)
              (cases_eq x.0 other),
        ) in
        let all_through : (l : List (ℕ × List Event)) → All (IsTakenIn r.log s.views) l → All (IsTakenIn r.log now) l =
        λ l was. All-weaker (IsTakenIn r.log s.views) (IsTakenIn r.log now) through l was in
        let mine : IsKnown board r.log now id both =
        record {
          program_is = known.program_is;
          number_is = known.number_is;
          front = known.front;
          other_front = known_w.front;
          own = known.own;
          taken =
              All-append (IsTakenIn r.log now) v.taken ((w.number, w.own) ∷ w.taken) (all_through v.taken known.taken)
              (All-cons (IsTakenIn r.log now) (w.number, w.own) w.taken
              (ap (λ (k : ℕ). own_events k r.log) known_w.number_is ∙ known_w.own, ap (get_elem? now) known_w.number_is ∙ set-there views other w spent at')
              (all_through w.taken known_w.taken));
          alone = inl id_is;
        } in
        let here : get_elem? now 0 ≡ some both =
        ap (get_elem? now) (sym id_is) ∙ set_else views other id spent (λ e. apart (sym e)) ∙ set-there s.views id v both at in
        let long : length now ≡ length s.views = length-set views other spent ∙ length-set s.views id both in
        let spent_are : spents now ≡ length both.taken =
        (let none : program_weight w.program ≡ 0 = weight-some w.program (opening b) w_is in
        let one = spents-set views other w spent at' in
        let same = spents-same s.views id v both at refl in
        let was = count.1 in
        let sum = length-append v.taken ((w.number, w.own) ∷ w.taken) in
        let no_more : length w.taken ≡ 0 = ap length alone in
        omega arith) in
        record {
          log = r.log;
          legal = r.legal;
          next = r.next;
          served = r.served;
          words_are = r.words_are;
          queue = subst (IsQueue r.next r.served) (sym (tickets-set views other w spent at' (sym without) ∙ tickets-set s.views id v both at refl)) r.queue;
          few = subst (λ (n : ℕ). n ≤ board.workers) (sym long) r.few;
          small = r.small;
          counts = λ u at0. subst (Counts now) (one-at now 0 both u here at0) (long ∙ count.0, spent_are);
          all_taken =
              λ j u at0 gone.
              let first_is = one-at now 0 both u here at0 in
              subst (λ (x : View W M). Holds x.taken j) first_is
              (⊎_elim
              (λ (e : (j ≡ other) × (spent ≡ spent)). (
                w.own,
                Contains-append_right v.taken ((w.number, w.own) ∷ w.taken) (j, w.own)
                    (let j_is : w.number ≡ j = known_w.number_is ∙ sym e.0 in
                    (0, omega arith, λ i. (j_is i, w.own))),
              ))
              (λ (e : (j ≢ other) × (get_elem? views j ≡ some spent)).
              let was = all-taken-stays s.views id v v at alive refl r.all_taken j v
              (ap (get_elem? (set s.views id v)) (sym id_is) ∙ set-there s.views id v v at)
              (⊎_elim (λ (f : (j ≡ id) × (both ≡ spent)). absurd (not-spent both (opening board) known.program_is f.1))
              (λ (f : (j ≢ id) × (get_elem? s.views j ≡ some spent)). set_else s.views id j v f.0 ∙ f.1)
              (at_set s.views id j both spent e.1)) in
              (was.0, Contains-append_left v.taken ((w.number, w.own) ∷ w.taken) (j, was.0) was.1))
              (at_set views other j spent spent gone));
          each =
              λ j u at_j.
              ⊎_elim (λ (e : (j ≡ other) × (spent ≡ u)). inl (sym e.1))
              (λ (e : (j ≢ other) × (get_elem? views j ≡ some u)).
              ⊎_elim (λ (f : (j ≡ id) × (both ≡ u)). inr (subst (λ (x : ℕ × View W M). IsKnown board r.log now x.0 x.1) (λ i. (sym f.0 i, f.1 i)) mine))
              (λ (f : (j ≢ id) × (get_elem? s.views j ≡ some u)).
              ⊎_elim (λ (gone : u ≡ spent). inl gone) (λ (k : IsKnown board r.log s.views j u). inr record {
                program_is = k.program_is;
                number_is = k.number_is;
                front = k.front;
                other_front = k.other_front;
                own = k.own;
                taken = all_through u.taken k.taken;
                alone = k.alone;
              }) (r.each j u f.1))
              (at_set s.views id j both u e.1))
              (at_set views other j spent u at_j);
          later = λ k past. r.later k (omega arith);
          placed = placed-stays board r.log r.served s.homes views other w spent at' w_rests refl (placed-stays board r.log r.served s.homes s.views id v both at rests rests r.placed);
        }

    -- a seat that has taken in all others and has no turn finds the board at home
    pub closes-step : (s : State (Option (History W)) (View W M)) (r : Rule s) (id : ℕ) (v : View W M) → get_elem? s.views id ≡ some v → (other : History W) → v.program ≡ Some (opening other)
        → v.number ≡ 0 → v.splits ≡ length v.taken → v.has_turn ≡ false
        → (s.homes ≡ some (Some (with_events board r.log)) ∷ []) × Closes made (sitting_of v) (with_events board r.log)
    closes-step s r id v at other is first all_in rests =
        let known = known-at made board s r id v at other is in
        let id_is : id ≡ 0 = sym known.number_is ∙ first in
        let count = r.counts v (ap (get_elem? s.views) (sym id_is) ∙ at) in
        let count_is : length s.views ≡ v.splits + 1 = count.0 in
        let spent_are : spents s.views ≡ length v.taken = count.1 in (
          ⊎_elim (λ (home : (s.homes ≡ some (Some (with_events board r.log)) ∷ []) × ((j : ℕ) (u : View W M) → get_elem? s.views j ≡ some u → u.has_turn ≡ false)). home.0)
              (λ (out : IsOut r.log r.served s.homes s.views).
              absurd (
              let alive : out.view ≢ spent = λ gone. (let turn : true ≡ false = sym out.turn ∙ ap (λ (u : View W M). u.has_turn) gone in cc) in
              let known_out : IsKnown board r.log s.views out.id out.view =
              ⊎_elim (λ (gone : out.view ≡ spent). absurd (alive gone))
              (λ (k : IsKnown board r.log s.views out.id out.view). k) (r.each out.id out.view out.at) in
              let apart : id ≢ out.id =
              λ same. (let v_is : out.view ≡ v = one-at s.views id out.view v (ap (get_elem? s.views) same ∙ out.at) at in
              let turn : true ≡ false = sym out.turn ∙ ap (λ (u : View W M). u.has_turn) v_is ∙ rests in cc) in
              let left = two-left s.views id out.id v out.view (opening board) (opening board) at out.at apart known.program_is known_out.program_is in
              omega arith))
              r.placed,
          record {
            program_is = known.program_is;
            legal = r.legal;
            begins = known.front;
            own = ap (λ (k : ℕ). own_events k r.log) known.number_is ∙ known.own;
            taken = All-weaker (IsTakenIn r.log s.views) (λ x. own_events x.0 r.log ≡ x.1) (λ x was. was.0) v.taken known.taken;
            each =
                λ k within.
                ⊎_elim (λ (mine : k ≡ id). inl (mine ∙ sym known.number_is))
                (λ (apart : k ≢ id).
                let there = elem-at s.views k (omega arith) in
                ⊎_elim (λ (gone : there.0 ≡ spent). inr (r.all_taken k v (ap (get_elem? s.views) (sym id_is) ∙ at) (there.1 ∙ ap some gone)))
                (λ (left : IsKnown board r.log s.views k there.0).
                absurd (
                let two = two-left s.views id k v there.0 (opening board) (opening board) at there.1 (λ e. apart (sym e)) known.program_is left.program_is in
                omega arith))
                (r.each k there.0 there.1))
                (cases_eq k id);
            no_other = λ k past. r.later k (omega arith);
          },
        )
