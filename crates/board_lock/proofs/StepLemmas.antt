-- Each step of a seat keeps the rule.
use Rattle.std.proofs.Common.{◌≡◌, ◌≢◌, ℕ, ◌+◌, ◌%◌, ◌^◌, ◌<◌, ◌≤◌, ◌⊎◌, inl, inr, ⊎_elim, Bool, true, false, Option, None, Some, List, [], ◌∷◌, ◌++◌, length, map, set, get_or, refl, sym, ap, ◌∙◌, subst, arith}
use Rattle.std.proofs.lemmas.List.{length-set, length-append, length-map, map-set}
use Rattle.std.proofs.lemmas.Bool.{cases_eq}
use mathlib.Core.Option.{none, some}
use lib.ListN.{get_elem?}
use lib.Seq.{set-get_or}
use Rattle.atomic_table.specs.Table.{State, Act, step, keeps, takes, gives, stepped, put_back, carried_after, Valid, Allows}
use Rattle.atomic_table.proofs.Lists.{at_set, at_map, set_again}
use Rattle.board_core.specs.declared.event.Event.{Event}
use Rattle.board_core.specs.Board.{IsLegal}
use Rattle.board_core.specs.History.{History, program_of}
use Rattle.board_core.specs.OwnEvents.{worker_of, own_events}
use Rattle.board_lock.specs.declared.view.View.{View}
use Rattle.board_lock.specs.Rule.{opening, with_events, IsBeginning, spent, ticket_of, IsQueue, IsKnown, IsOut, IsPlaced, IsOneHistory}
use Rattle.board_lock.specs.Steps.{Part, moved, waiting, on_turn, noted, rested, compared, draws, looks, notes, leaves, Compares, compares}
use Rattle.board_lock.proofs.QueueLemmas.{draws-ticket, leaves-ticket}
use Rattle.board_lock.proofs.lemmas.Views.{inside-of, one-at, set-there, begins-all, beginnings-meet, own-event, IsGrown, grown-same, grown-event, begins-grown, tickets-set, not-spent, all-taken-stay, all-taken-stays, each-stays, placed-stays, counts-stay}

pub same-workers : {W : Type 0} (a b : History W) → Some (opening a) ≡ Some (opening b) → a.workers ≡ b.workers
same-workers {W = W} a b same = let is : opening a ≡ opening b = cc in ap (λ (h : History W). h.workers) is

ticket-is : (ticket : Option ℕ) (n : ℕ) → (ticket ≡ Some n) ⊎ (ticket ≢ Some n)
ticket-is None n = inr (λ e. cc)
ticket-is (Some t) n = ⊎_elim (λ (same : t ≡ n). inl (ap Some same)) (λ (other : t ≢ n). inr (λ e. other cc)) (cases_eq t n)

module _ {W M : Type 0} (made : W → ℕ → List M → M) (board : History W) where
  abbrev Table : Type 0
  Table = State (Option (History W)) (View W M)

  abbrev Rule : Table → Type 0
  Rule = IsOneHistory made board

  pub legal-of : (other : History W) (events : List Event) → Some (opening other) ≡ Some (opening board) → IsLegal (program_of made other) events → IsLegal (program_of made board) events
  legal-of other events same legal =
      let is : opening other ≡ opening board = cc in
      subst (λ (h : History W). IsLegal (program_of made h) events) is legal

  -- a view that names a program is known
  pub known-at : (s : Table) (r : Rule s) (id : ℕ) (v : View W M) → get_elem? s.views id ≡ some v → (other : History W) → v.program ≡ Some (opening other)
      → IsKnown board r.log s.views id v
  known-at s r id v at other is =
      ⊎_elim (λ (gone : v ≡ spent). absurd (not-spent v (opening other) is gone)) (λ (known : IsKnown board r.log s.views id v). known) (r.each id v at)

  -- the view of one seat changes, and the history may get an event of that seat
  changed : (s : Table) (r : Rule s) (id : ℕ) (v : View W M) → get_elem? s.views id ≡ some v → IsKnown board r.log s.views id v
      → (front other_front own : List Event) (ticket : Option ℕ) (turn : Bool) (now : List Event) → IsLegal (program_of made board) now → IsGrown id r.log now
      → IsBeginning front now → IsBeginning other_front now → own_events id now ≡ own
      → (next served : ℕ) → IsQueue next served (map ticket_of (set s.views id (moved v front other_front own ticket turn)))
      → (words : List ℕ) → words ≡ next ∷ served ∷ length now ∷ []
      → (homes : List (mathlib.Core.Option.Option (Option (History W)))) → IsPlaced board now served homes (set s.views id (moved v front other_front own ticket turn))
      → Rule record { words = words; homes = homes; views = set s.views id (moved v front other_front own ticket turn) }
  changed s r id v at known front other_front own ticket turn now legal grown begins other_begins own_is next served queue words words_are homes placed =
      let w : View W M = moved v front other_front own ticket turn in
      let alive = not-spent v (opening board) known.program_is in
      let long : length (set s.views id w) ≡ length s.views = length-set s.views id w in
      let inside = inside-of s.views id v at in
      record {
        log = now;
        legal = legal;
        next = next;
        served = served;
        words_are = words_are;
        queue = queue;
        few = subst (λ (n : ℕ). n ≤ board.workers) (sym long) r.few;
        small = r.small;
        counts = counts-stay s.views id v w at refl refl refl r.counts;
        all_taken = all-taken-stays s.views id v w at (not-spent w (opening board) known.program_is) refl r.all_taken;
        each =
            each-stays board r.log now s.views id v w at alive grown r.each record {
              program_is = known.program_is;
              number_is = known.number_is;
              front = begins;
              other_front = other_begins;
              own = own_is;
              taken = all-taken-stay board r.log now s.views id v w at alive grown v.taken known.taken;
              alone = known.alone;
            };
        later = λ k past. let other : k ≢ id = λ same. omega arith in grown.others k other ∙ r.later k (omega arith);
        placed = placed;
      }

  -- nothing changes
  unmoved : (s : Table) → Rule s → (i id : ℕ) (part : Part W M) → get_elem? s.views id ≡ some part.0 → Rule (stepped s i (get_or s.words i 0) id part.1 part.0 keeps)
  unmoved s r i id part at =
      subst Rule (λ k. record { words = sym (set-get_or s.words i 0) k; homes = s.homes; views = sym (set_again s.views id part.0 at) k }) r

  few-tickets : (s : Table) (r : Rule s) → length (map ticket_of s.views) < 2 ^ 32
  few-tickets s r = let few = r.few in let small = r.small in omega (arith, length-map s.views ticket_of)

  ticket-at : (s : Table) (id : ℕ) (v : View W M) (ticket : Option ℕ) → get_elem? s.views id ≡ some v → v.ticket ≡ ticket → get_elem? (map ticket_of s.views) id ≡ some ticket
  ticket-at s id v ticket at is = at_map ticket_of s.views id v at ∙ ap some is

  pub draws-step : (slots id : ℕ) (part : Part W M) (other : History W) → part.0.program ≡ Some (opening other) → part.0.ticket ≡ None → part.0.has_turn ≡ false
      → Allows Rule slots id part 0 (λ n. (n + 1) % 2 ^ 64) (draws (step slots 0 1 0 none) part)
  draws-step slots id part other is without rests s r _ at small =
      let v : View W M = part.0 in
      let known = known-at s r id v at other is in
      let found : ℕ = get_or s.words 0 0 in
      let found_is : found ≡ r.next = ap (λ (ws : List ℕ). get_or ws 0 0) r.words_are in
      let w : View W M = waiting found v in
      let queue = draws-ticket r.next r.served found (map ticket_of s.views) id r.queue found_is (few-tickets s r) (ticket-at s id v None at without) in (
        w,
        keeps,
        tt,
        changed s r id v at known v.front v.other_front v.own (Some found) v.has_turn r.log r.legal (grown-same id r.log) known.front known.other_front known.own
            ((r.next + 1) % 2 ^ 64) r.served (subst (IsQueue ((r.next + 1) % 2 ^ 64) r.served) (sym (map-set ticket_of s.views id w)) queue)
            (set s.words 0 ((found + 1) % 2 ^ 64)) (ap (λ (ws : List ℕ). set ws 0 ((get_or ws 0 0 + 1) % 2 ^ 64)) r.words_are)
            s.homes (placed-stays board r.log r.served s.homes s.views id v w at rests rests r.placed),
        refl,
      )

  -- who has the ticket that is served has the turn, or the board is at home
  turn-is-out : (s : Table) (r : Rule s) (id : ℕ) (v : View W M) → get_elem? s.views id ≡ some v → v.ticket ≡ Some r.served → v.has_turn ≡ false
      → (out : IsOut r.log r.served s.homes s.views) → ⊥
  turn-is-out s r id v at served rests out =
      let same : out.id ≡ id = r.queue.once out.id id r.served (ticket-at s out.id out.view (Some r.served) out.at out.ticket) (ticket-at s id v (Some r.served) at served) in
      let is : out.view ≡ v = one-at s.views id out.view v (ap (get_elem? s.views) (sym same) ∙ out.at) at in
      let turn : true ≡ false = sym out.turn ∙ ap (λ (u : View W M). u.has_turn) is ∙ rests in
      cc

  pub looks-step : (slots id : ℕ) (part : Part W M) (other : History W) → part.0.program ≡ Some (opening other) → part.0.has_turn ≡ false
      → Allows Rule slots id part 1 (λ n. n) (looks made (step slots 1 0 0 none) part)
  looks-step slots id part other is rests s r _ at small =
      let v : View W M = part.0 in
      let known = known-at s r id v at other is in
      let found : ℕ = get_or s.words 1 0 in
      let found_is : found ≡ r.served = ap (λ (ws : List ℕ). get_or ws 1 0) r.words_are in
      let w : View W M = on_turn r.log v in
      let at_home : Option (History W) = Some (with_events board r.log) in
      ⊎_elim
      (λ (hit : v.ticket ≡ Some found).
      let served : v.ticket ≡ Some r.served = hit ∙ ap Some found_is in
      ⊎_elim
      (λ (home : (s.homes ≡ some at_home ∷ []) × ((j : ℕ) (u : View W M) → get_elem? s.views j ≡ some u → u.has_turn ≡ false)). (
        w,
        takes 0 at_home,
        ap (λ (hs : List (mathlib.Core.Option.Option (Option (History W)))). get_elem? hs 0) home.0,
        changed s r id v at known r.log v.other_front v.own v.ticket true r.log r.legal (grown-same id r.log) (begins-all r.log) known.other_front known.own
            r.next r.served (subst (IsQueue r.next r.served) (sym (tickets-set s.views id v w at refl)) r.queue)
            (set s.words 1 found) (ap (λ (ws : List ℕ). set ws 1 (get_or ws 1 0)) r.words_are)
            (set s.homes 0 none) (inr record {
              id = id;
              view = w;
              at = set-there s.views id v w at;
              turn = refl;
              ticket = served;
              front = refl;
              homes_are = ap (λ (hs : List (mathlib.Core.Option.Option (Option (History W)))). set hs 0 none) home.0;
              others =
                  λ j u apart there.
                  ⊎_elim (λ (e : (j ≡ id) × (w ≡ u)). absurd (apart e.0)) (λ (e : (j ≢ id) × (get_elem? s.views j ≡ some u)). home.1 j u e.1)
                  (at_set s.views id j w u there);
            }),
        (
          λ _. record {
            board = with_events board r.log;
            program_is = known.program_is;
            legal = r.legal;
            begins = known.front;
            own = ap (λ (n : ℕ). own_events n r.log) known.number_is ∙ known.own;
            known = let few = r.few in let inside = inside-of s.views id v at in let number_is = known.number_is in omega arith;
            now_is = refl;
          },
          λ miss. absurd (miss hit),
        ),
      ))
      (λ (out : IsOut r.log r.served s.homes s.views). absurd (turn-is-out s r id v at served rests out))
      r.placed)
      (λ (miss : v.ticket ≢ Some found). (v, keeps, tt, unmoved s r 1 id part at, (λ hit. absurd (miss hit), λ _. refl)))
      (ticket-is v.ticket found)

  -- who has the turn has the board out
  turn-has-out : (s : Table) (r : Rule s) (id : ℕ) (v : View W M) → get_elem? s.views id ≡ some v → v.has_turn ≡ true
      → (out : IsOut r.log r.served s.homes s.views) × (out.id ≡ id) × (out.view ≡ v)
  turn-has-out s r id v at turn =
      ⊎_elim
      (λ (home : (s.homes ≡ some (Some (with_events board r.log)) ∷ []) × ((j : ℕ) (u : View W M) → get_elem? s.views j ≡ some u → u.has_turn ≡ false)).
      absurd (let no = home.1 id v at in cc))
      (λ (out : IsOut r.log r.served s.homes s.views).
      ⊎_elim (λ (same : id ≡ out.id). (out, sym same, one-at s.views id out.view v (ap (get_elem? s.views) same ∙ out.at) at))
      (λ (apart : id ≢ out.id). absurd (let no = out.others id v apart at in cc))
      (cases_eq id out.id))
      r.placed

  pub notes-step : (slots id : ℕ) (part : Part W M) (other : History W) (event : Event) → part.0.program ≡ Some (opening other) → part.0.has_turn ≡ true
      → worker_of event ≡ part.0.number → IsLegal (program_of made other) (part.0.front ++ event ∷ []) → length (part.0.front ++ event ∷ []) < 2 ^ 64
      → Allows Rule slots id part 2 (λ n. (n + 1) % 2 ^ 64) (notes event (step slots 2 1 0 none) part)
  notes-step slots id part other event is turn by legal room s r _ at small =
      let v : View W M = part.0 in
      let known = known-at s r id v at other is in
      let o = turn-has-out s r id v at turn in
      let out : IsOut r.log r.served s.homes s.views = o.0 in
      let whole : v.front ≡ r.log = ap (λ (u : View W M). u.front) (sym o.2) ∙ out.front in
      let now : List Event = v.front ++ event ∷ [] in
      let now_is : now ≡ r.log ++ event ∷ [] = ap (λ (l : List Event). l ++ event ∷ []) whole in
      let w : View W M = noted event v in
      let by_id : worker_of event ≡ id = by ∙ known.number_is in
      let grown = grown-event id r.log now event now_is by_id in
      let found : ℕ = get_or s.words 2 0 in
      let one_more : (length r.log + 1) % 2 ^ 64 ≡ length now =
      (let long : length now ≡ length r.log + 1 = ap length now_is ∙ length-append r.log (event ∷ []) in omega arith) in (
        w,
        keeps,
        tt,
        changed s r id v at known now v.other_front (v.own ++ event ∷ []) v.ticket v.has_turn now (legal-of other now (sym is ∙ known.program_is) legal) grown
            (begins-all now) (begins-grown id v.other_front r.log now grown known.other_front)
            (ap (own_events id) now_is ∙ own-event id r.log event by_id ∙ ap (λ (l : List Event). l ++ event ∷ []) known.own)
            r.next r.served (subst (IsQueue r.next r.served) (sym (tickets-set s.views id v w at refl)) r.queue)
            (set s.words 2 ((found + 1) % 2 ^ 64)) (ap (λ (ws : List ℕ). set ws 2 ((get_or ws 2 0 + 1) % 2 ^ 64)) r.words_are ∙ (λ i. r.next ∷ r.served ∷ one_more i ∷ []))
            s.homes (inr record {
              id = id;
              view = w;
              at = set-there s.views id v w at;
              turn = turn;
              ticket = ap (λ (u : View W M). u.ticket) (sym o.2) ∙ out.ticket;
              front = refl;
              homes_are = out.homes_are;
              others =
                  λ j u apart there.
                  ⊎_elim (λ (e : (j ≡ id) × (w ≡ u)). absurd (apart e.0))
                  (λ (e : (j ≢ id) × (get_elem? s.views j ≡ some u)). out.others j u (λ same. apart (same ∙ o.1)) e.1)
                  (at_set s.views id j w u there);
            }),
        refl,
      )

  pub leaves-step : (slots id : ℕ) (part : Part W M) (home : History W) → part.0.program ≡ Some (opening home) → part.0.has_turn ≡ true
      → part.1 ≡ (0, Some home) ∷ [] → home.events ≡ part.0.front
      → Allows Rule slots id part 1 (λ n. (n + 1) % 2 ^ 64) (leaves (step slots 1 1 0 none) part)
  leaves-step slots id part home is turn slot_is front_is s r _ at small =
      let v : View W M = part.0 in
      let known = known-at s r id v at home is in
      let o = turn-has-out s r id v at turn in
      let out : IsOut r.log r.served s.homes s.views = o.0 in
      let w : View W M = rested v in
      let found : ℕ = get_or s.words 1 0 in
      let found_is : found ≡ r.served = ap (λ (ws : List ℕ). get_or ws 1 0) r.words_are in
      let ticket_is : v.ticket ≡ Some r.served = ap (λ (u : View W M). u.ticket) (sym o.2) ∙ out.ticket in
      let whole : home.events ≡ r.log = front_is ∙ ap (λ (u : View W M). u.front) (sym o.2) ∙ out.front in
      let same : opening home ≡ opening board = (let named = sym is ∙ known.program_is in cc) in
      let board_is : home ≡ with_events board r.log = λ i. with_events (same i) (whole i) in
      let queue = leaves-ticket r.next r.served (map ticket_of s.views) id r.queue (subst (λ (n : ℕ). n < 2 ^ 64) found_is small) (few-tickets s r) (ticket-at s id v (Some r.served) at ticket_is) in
      let homes : List (mathlib.Core.Option.Option (Option (History W))) = put_back s.homes part.1 in
      let homes_are : homes ≡ some (Some (with_events board r.log)) ∷ [] =
      ap (λ (c : List (ℕ × Option (History W))). put_back s.homes c) slot_is
      ∙ ap (λ (hs : List (mathlib.Core.Option.Option (Option (History W)))). set hs 0 (some (Some home))) out.homes_are
      ∙ (λ i. some (Some (board_is i)) ∷ []) in (
        w,
        gives,
        tt,
        changed s r id v at known v.front v.other_front v.own None false r.log r.legal (grown-same id r.log) known.front known.other_front known.own
            r.next ((r.served + 1) % 2 ^ 64) (subst (IsQueue r.next ((r.served + 1) % 2 ^ 64)) (sym (map-set ticket_of s.views id w)) queue)
            (set s.words 1 ((found + 1) % 2 ^ 64)) (ap (λ (ws : List ℕ). set ws 1 ((get_or ws 1 0 + 1) % 2 ^ 64)) r.words_are)
            homes (inl (
              homes_are,
              λ j u there.
                  ⊎_elim (λ (e : (j ≡ id) × (w ≡ u)). ap (λ (x : View W M). x.has_turn) (sym e.1))
                  (λ (e : (j ≢ id) × (get_elem? s.views j ≡ some u)). out.others j u (λ same. e.0 (same ∙ o.1)) e.1)
                  (at_set s.views id j w u there),
            )),
        refl,
      )

  pub compares-step : (slots id : ℕ) (part : Part W M) (other : History W) → part.0.program ≡ Some (opening other) → part.0.has_turn ≡ false
      → Allows Rule slots id part 0 (λ n. n) (compares (step slots 0 0 0 none) part)
  compares-step slots id part other is rests s r _ at small =
      let v : View W M = part.0 in
      let known = known-at s r id v at other is in
      let found : ℕ = get_or s.words 0 0 in
      let keep : (front : List Event) → ((front ≡ v.front) ⊎ (front ≡ v.other_front)) → IsBeginning v.front front → IsBeginning v.other_front front → IsBeginning front r.log
      → (w : View W M) × (a : Act (Option (History W))) × Valid s.homes part.1 a
      × Rule (stepped s 0 found id part.1 w a) × Compares part (w, carried_after part.1 a) =
      λ front is_one begins other_begins in_log. (
        compared front v,
        keeps,
        tt,
        changed s r id v at known front [] v.own v.ticket v.has_turn r.log r.legal (grown-same id r.log) in_log (r.log, refl) known.own
            r.next r.served (subst (IsQueue r.next r.served) (sym (tickets-set s.views id v (compared front v) at refl)) r.queue)
            (set s.words 0 found) (ap (λ (ws : List ℕ). set ws 0 (get_or ws 0 0)) r.words_are)
            s.homes (placed-stays board r.log r.served s.homes s.views id v (compared front v) at rests rests r.placed),
        record { front = front; is_one = is_one; begins = begins; other_begins = other_begins; now_is = refl },
      ) in
      ⊎_elim
      (λ (first : IsBeginning v.front v.other_front). keep v.other_front (inr refl) first (begins-all v.other_front) known.other_front)
      (λ (second : IsBeginning v.other_front v.front). keep v.front (inl refl) (begins-all v.front) second known.front)
      (beginnings-meet v.front v.other_front known.front.0 known.other_front.0 (sym known.front.1 ∙ known.other_front.1))
