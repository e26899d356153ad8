-- A function that is entered is a group of its own.
use Rattle.std.specs.Prelude.{if◌then◌else◌}
use Rattle.std.proofs.Common.{◌≡◌, ◌≢◌, ℕ, ◌+◌, ◌-◌, ◌<◌, ◌≤◌, ◌⊎◌, true, inl, inr, List, [], ◌∷◌, ◌++◌, length, count_by, slice_index, slice_index_or, slice_set, refl, sym, ap, subst, ◌∙◌, arith}
use Rattle.std.proofs.lemmas.List.{length-set, length_push, length-append, get_or_append_left, get_or_push, get_or-append-add, get_or-set_same, get_or-set_other, get_or_default}
use Rattle.std.proofs.lemmas.List.Sums.{sum_by-set}
use Rattle.std.specs.Prelude.{Result, Ok, Err, is_ok, OnOk}
use Rattle.std.proofs.lemmas.Bool.{cases_lt, cases_eq}
use Rattle.call_order.specs.declared.stages.Stage.{Stage}
use Rattle.call_order.specs.declared.stages.Stage.TheVariants.{New, Held, Closed}
use Rattle.call_order.specs.declared.search.Group.{Group}
use Rattle.call_order.specs.Units.{Calls, Reaches}
use Rattle.call_order.specs.Search.{is_closed, stage_of, IsClosedAs, IsPending, IsWithin, HasCaller, IsSearch, NotSplit}
use Rattle.call_order.proofs.ReachLemmas.{reaches-self}
use Rattle.call_order.proofs.StageLemmas.{closed-kept}

module _ (calls : List (List ℕ)) (stages : List Stage) (members pending : List ℕ) (groups : List Group) (was : IsSearch calls stages members pending groups) (j : ℕ) (inside : j < length calls)
    (new : stage_of stages j ≡ New) (reached : (a : ℕ) → a < length members → Reaches calls (slice_index members a) j) where
  abbrev stages' : List Stage
  stages' = slice_set stages j (Held (length members))

  abbrev members' : List ℕ
  members' = members ++ j ∷ []

  abbrev row : List ℕ
  row = slice_index_or calls j []

  abbrev pending' : List ℕ
  pending' = pending ++ row

  abbrev group : Group
  group = record { members_from = length members; pending_from = length pending }

  abbrev groups' : List Group
  groups' = groups ++ group ∷ []

  member-old : (a : ℕ) → a < length members → slice_index members' a ≡ slice_index members a
  member-old a h = get_or_append_left members (j ∷ []) 0 a h

  member-new : slice_index members' (length members) ≡ j
  member-new = get_or_push members j 0 (length members) refl

  group-old : (t : ℕ) (d : Group) → t < length groups → slice_index_or groups' t d ≡ slice_index_or groups t d
  group-old t d h = get_or_append_left groups (group ∷ []) d t h

  group-new : (d : Group) → slice_index_or groups' (length groups) d ≡ group
  group-new d = get_or_push groups group d (length groups) refl

  pending-old : (p : ℕ) → p < length pending → slice_index pending' p ≡ slice_index pending p
  pending-old p h = get_or_append_left pending row 0 p h

  pending-new : (e : ℕ) → slice_index pending' (length pending + e) ≡ slice_index row e
  pending-new e = get_or-append-add pending row e 0

  stage-here : stage_of stages' j ≡ Held (length members)
  stage-here = get_or-set_same stages j (Held (length members)) New (omega (arith, was.counted))

  stage-other : (k : ℕ) → k ≢ j → stage_of stages' k ≡ stage_of stages k
  stage-other k apart = get_or-set_other stages j k (Held (length members)) New apart

  -- each index is an old one or the last
  last-or : {X : Type 0} (xs : List X) (x : X) (i : ℕ) → i < length (xs ++ x ∷ []) → (i < length xs) ⊎ (i ≡ length xs)
  last-or xs x i h = elim (cases_lt i (length xs)) [ inl l ↦ inl l | inr g ↦ inr (omega (arith, length_push xs x)) ]

  -- a fact of each group follows from that of the old ones and of the last
  each-group : (P : ℕ → ℕ → ℕ → Type 0) (d : Group) → ((t : ℕ) → t < length groups → P t (slice_index_or groups t d).members_from (slice_index_or groups t d).pending_from)
      → P (length groups) (length members) (length pending) → (t : ℕ) → t < length groups' → P t (slice_index_or groups' t d).members_from (slice_index_or groups' t d).pending_from
  each-group P d old last t h =
      elim (last-or groups group t h) [
        | inl l ↦
            let family : Group → Type 0 = λ x. P t x.members_from x.pending_from in
            subst family (sym (group-old t d l)) (old t l)
        | inr e ↦
            let family : Group → Type 0 = λ x. P (length groups) x.members_from x.pending_from in
            let here = subst family (sym (group-new d)) last in
            let at : ℕ → Type 0 = λ x. P x (slice_index_or groups' x d).members_from (slice_index_or groups' x d).pending_from in
            subst at (sym e) here
      ]

  split-old : (b a : ℕ) → NotSplit groups' b a → NotSplit groups b a
  split-old b a h t d l =
      let long : t < length groups' = omega (arith, length_push groups group) in
      let family : Group → Type 0 = λ x. b < x.members_from → a < x.members_from in
      subst family (group-old t d l) (h t d long)

  split-last : (b a : ℕ) → NotSplit groups' b a → b < length members → a < length members
  split-last b a h =
      let family : Group → Type 0 = λ x. b < x.members_from → a < x.members_from in
      subst family (group-new group) (h (length groups) group (omega (arith, length_push groups group)))

  not-held : (k index : ℕ) → stage_of stages k ≡ Held index → k ≢ j
  not-held k index h e = let here = ap (stage_of stages) e in cc

  not-closed : (k : ℕ) → is_closed (stage_of stages k) ≡ true → k ≢ j
  not-closed k h e = let here = ap (λ x. is_closed (stage_of stages x)) e in let open' = ap is_closed new in cc

  held : (a : ℕ) → a < length members' → stage_of stages' (slice_index members' a) ≡ Held a
  held a h =
      elim (last-or members j a h) [
        | inl l ↦
            let is = was.held a l in
            ap (stage_of stages') (member-old a l) ∙ (stage-other (slice_index members a) (not-held (slice_index members a) a is) ∙ is)
        | inr e ↦ ap (λ x. stage_of stages' (slice_index members' x)) e ∙ (ap (stage_of stages') member-new ∙ (stage-here ∙ ap Held (sym e)))
      ]

  index : (k a : ℕ) → stage_of stages' k ≡ Held a → (a < length members') × (slice_index members' a ≡ k)
  index k a h =
      elim (cases_eq k j) [
        | inl e ↦
            let at : a ≡ length members = let here = ap (stage_of stages') e in let there = stage-here in cc in
            (omega (arith, length_push members j), ap (slice_index members') at ∙ (member-new ∙ sym e))
        | inr apart ↦
            let old = was.index k a (sym (stage-other k apart) ∙ h) in
            (omega (arith, length_push members j, old.0), member-old a old.0 ∙ old.1)
      ]

  joined : (a b : ℕ) → a < length members' → b < length members' → NotSplit groups' b a → Reaches calls (slice_index members' a) (slice_index members' b)
  joined a b h i split =
      elim (last-or members j b i) [
        | inl older ↦
            let old : a < length members = split-last b a split older in
            let from : ℕ → Type 0 = λ x. Reaches calls x (slice_index members' b) in
            let to : ℕ → Type 0 = λ x. Reaches calls (slice_index members a) x in
            subst from (sym (member-old a old)) (subst to (sym (member-old b older)) (was.joined a b old older (split-old b a split)))
        | inr last ↦
            let at : ℕ → Type 0 = λ x. Reaches calls (slice_index members' a) x in
            subst at (sym (ap (slice_index members') last ∙ member-new))
            (elim (last-or members j a h) [
              | inl old ↦
                  let from : ℕ → Type 0 = λ x. Reaches calls x j in
                  subst from (sym (member-old a old)) (reached a old)
              | inr e ↦
                  let from : ℕ → Type 0 = λ x. Reaches calls x j in
                  subst from (sym (ap (slice_index members') e ∙ member-new)) (reaches-self calls j)
            ])
      ]

  callers : (p : ℕ) → p < length pending' → HasCaller calls members' pending' groups' p
  callers p h =
      elim (cases_lt p (length pending)) [
        | inl old ↦
            let it = was.callers p old in
            let there : ℕ → Type 0 = λ x. Calls calls x (slice_index pending' p) in
            let what : ℕ → Type 0 = λ x. Calls calls (slice_index members it.caller) x in
            record {
              caller = it.caller;
              inside = omega (arith, length_push members j, it.inside);
              called = subst there (sym (member-old it.caller it.inside)) (subst what (sym (pending-old p old)) it.called);
              from = λ t d. each-group (λ u m q. q ≤ p → m ≤ it.caller) d (λ u l. it.from u d l) (λ q. absurd (omega arith)) t;
              back = λ t d. each-group (λ u m q. m ≤ it.caller → q ≤ p) d (λ u l. it.back u d l) (λ m. absurd (omega (arith, it.inside))) t;
            }
        | inr later ↦
            let e : ℕ = p - length pending in
            let at : length pending + e ≡ p = omega arith in
            let in_row : e < length row = omega (arith, length-append pending row) in
            let there : ℕ → Type 0 = λ x. Calls calls x (slice_index pending' p) in
            let what : ℕ → Type 0 = λ x. Calls calls j x in
            let value : slice_index row e ≡ slice_index pending' p = sym (pending-new e) ∙ ap (slice_index pending') at in
            record {
              caller = length members;
              inside = omega (arith, length_push members j);
              called = subst there (sym member-new) (subst what value (e, in_row, get_or_default row e (slice_index row e) 0 in_row));
              from = λ t d. each-group (λ u m q. q ≤ p → m ≤ length members) d (λ u l q. omega (arith, was.member_end u d l)) (λ q. omega arith) t;
              back = λ t d. each-group (λ u m q. m ≤ length members → q ≤ p) d (λ u l m. omega (arith, was.pending_end u d l)) (λ m. omega arith) t;
            }
      ]

  followed-old : (a k : ℕ) → a < length members → (is_closed (stage_of stages k) ≡ true) ⊎ (IsPending members pending groups a k ⊎ IsWithin stages groups a k)
      → (is_closed (stage_of stages' k) ≡ true) ⊎ (IsPending members' pending' groups' a k ⊎ IsWithin stages' groups' a k)
  followed-old a k old (inl shut) = inl (ap is_closed (stage-other k (not-closed k shut)) ∙ shut)
  followed-old a k old (inr (inl it)) =
      inr (inl (record {
        index = it.index;
        inside = omega (arith, length-append pending row, it.inside);
        called = pending-old it.index it.inside ∙ it.called;
        grouped = λ t d. each-group (λ u m q. m ≤ a → q ≤ it.index) d (λ u l. it.grouped u d l) (λ m. absurd (omega arith)) t;
      }))
  followed-old a k old (inr (inr it)) =
      inr (inr (record {
        index = it.index;
        held = stage-other k (not-held k it.index it.held) ∙ it.held;
        grouped = λ t d. each-group (λ u m q. it.index < m → a < m) d (λ u l. it.grouped u d l) (λ m. old) t;
      }))

  followed-last : (k : ℕ) → Calls calls j k → IsPending members' pending' groups' (length members) k
  followed-last k h =
      record {
        index = length pending + h.0;
        inside = omega (arith, length-append pending row, h.1);
        called = pending-new h.0 ∙ (get_or_default row h.0 0 k h.1 ∙ h.2);
        grouped = λ t d. each-group (λ u m q. m ≤ length members → q ≤ length pending + h.0) d (λ u l m. omega (arith, was.pending_end u d l)) (λ m. omega arith) t;
      }

  followed : (a k : ℕ) → a < length members' → Calls calls (slice_index members' a) k
      → (is_closed (stage_of stages' k) ≡ true) ⊎ (IsPending members' pending' groups' a k ⊎ IsWithin stages' groups' a k)
  followed a k h called =
      elim (last-or members j a h) [
        | inl old ↦
            let from : ℕ → Type 0 = λ x. Calls calls x k in
            followed-old a k old (was.followed a k old (subst from (member-old a old) called))
        | inr e ↦
            let from : ℕ → Type 0 = λ x. Calls calls x k in
            let at : ℕ → Type 0 = λ x. IsPending members' pending' groups' x k in
            inr (inl (subst at (sym e) (followed-last k (subst from (ap (slice_index members') e ∙ member-new) called))))
      ]

  same-count : count_by is_closed stages ≤ count_by is_closed stages'
  same-count =
      let one : Stage → ℕ = λ x. if is_closed x then 1 else 0 in
      let sums = sum_by-set one stages j (Held (length members)) New (omega (arith, was.counted)) in
      let here = ap one new in
      omega (arith, sums, here)

  closed : (k unit rank : ℕ) → stage_of stages' k ≡ Closed unit rank → IsClosedAs calls stages' k unit rank
  closed k unit rank is =
      let apart : k ≢ j = λ e. let here = ap (stage_of stages') e in let there = stage-here in cc in
      closed-kept calls stages stages' was.closed (λ x shut. stage-other x (not-closed x shut)) same-count k unit rank (sym (stage-other k apart) ∙ is)

  member_order : (t u : ℕ) (d : Group) → t < u → u < length groups' → (slice_index_or groups' t d).members_from < (slice_index_or groups' u d).members_from
  member_order t u d le h =
      each-group (λ v m q. t < v → (slice_index_or groups' t d).members_from < m) d
      (λ v l before.
      let e = ap (λ (x : Group). x.members_from) (group-old t d (omega arith)) in
      omega (arith, e, was.member_order t v d before l))
      (λ before.
      let e = ap (λ (x : Group). x.members_from) (group-old t d before) in
      omega (arith, e, was.member_end t d before))
      u h le

  pending_order : (t u : ℕ) (d : Group) → t ≤ u → u < length groups' → (slice_index_or groups' t d).pending_from ≤ (slice_index_or groups' u d).pending_from
  pending_order t u d le h =
      each-group (λ v m q. t ≤ v → (slice_index_or groups' t d).pending_from ≤ q) d
      (λ v l before.
      let e = ap (λ (x : Group). x.pending_from) (group-old t d (omega arith)) in
      omega (arith, e, was.pending_order t v d before l))
      (λ before. each-group (λ x m q. q ≤ length pending) d (λ x l. was.pending_end x d l) (omega arith) t (omega (arith, length_push groups group)))
      u h le

  first : (d : Group) → 0 < length groups' → (slice_index_or groups' 0 d).members_from ≡ 0
  first d h =
      elim (cases_lt 0 (length groups)) [
        | inl some ↦ ap (λ (x : Group). x.members_from) (group-old 0 d some) ∙ was.first d some
        | inr none ↦
            let at : 0 ≡ length groups = omega arith in
            ap (λ t. (slice_index_or groups' t d).members_from) at ∙ (ap (λ (x : Group). x.members_from) (group-new d) ∙ was.empty (sym at))
      ]

  pub enter-keeps : IsSearch calls stages' members' pending' groups'
  enter-keeps =
      record {
        counted = length-set stages j (Held (length members)) ∙ was.counted;
        held = held;
        index = index;
        joined = joined;
        member_end = λ t d. each-group (λ u m q. m < length members') d (λ u l. omega (arith, was.member_end u d l, length_push members j)) (omega (arith, length_push members j)) t;
        pending_end = λ t d. each-group (λ u m q. q ≤ length pending') d (λ u l. omega (arith, was.pending_end u d l, length-append pending row)) (omega (arith, length-append pending row)) t;
        member_order = member_order;
        pending_order = pending_order;
        first = first;
        empty = λ e. absurd (omega (arith, length_push groups group));
        callers = callers;
        followed = followed;
        closed = closed;
      }

  -- the same of lists that a call made, where it did not fail
  pub enter-answer : {T E : Type 0} (result : Result T E) (stages2 : List Stage) (members2 pending2 row2 : List ℕ) (groups2 : List Group) (group2 : Group) → stages2 ≡ stages' → members2 ≡ members'
      → row2 ≡ row → pending2 ≡ (if is_ok result then pending ++ row2 else pending) → group2 ≡ group → groups2 ≡ groups ++ group2 ∷ [] → OnOk result (IsSearch calls stages2 members2 pending2 groups2)
  enter-answer (Ok value) stages2 members2 pending2 row2 groups2 group2 a b r p e g =
      let family : List Stage → List ℕ → List ℕ → List Group → Type 0 = IsSearch calls in
      subst (λ x. family x members2 pending2 groups2) (sym a)
      (subst (λ x. family stages' x pending2 groups2) (sym b)
      (subst (λ x. family stages' members' x groups2) (sym (p ∙ ap (λ x. pending ++ x) r))
      (subst (λ x. family stages' members' pending' x) (sym (g ∙ ap (λ x. groups ++ x ∷ []) e)) enter-keeps)))
  enter-answer (Err e) stages2 members2 pending2 row2 groups2 group2 a b r p h g = tt
