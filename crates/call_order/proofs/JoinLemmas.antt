-- A call that leads back joins groups, and a call that is followed is pending no more.
use Rattle.std.proofs.Common.{◌≡◌, ℕ, ◌+◌, ◌-◌, ◌<◌, ◌≤◌, ◌⊎◌, true, inl, inr, List, length, take, slice_index, slice_index_or, sym, ap, subst, ◌∙◌, arith}
use Rattle.std.proofs.lemmas.List.{length-take-le, get_or-take, get_or_default}
use Rattle.std.proofs.lemmas.Bool.{cases_lt}
use Rattle.call_order.specs.declared.stages.Stage.{Stage}
use Rattle.call_order.specs.declared.stages.Stage.TheVariants.{Held}
use Rattle.call_order.specs.declared.search.Group.{Group}
use Rattle.call_order.specs.Units.{Calls, Reaches}
use Rattle.call_order.specs.Search.{is_closed, stage_of, IsPending, IsWithin, HasCaller, IsSearch, NotSplit}
use Rattle.call_order.proofs.ReachLemmas.{reaches-call, reaches-trans}

-- the pending call at this index is the last of the last group, and leads from it
module _ (calls : List (List ℕ)) (stages : List Stage) (members pending : List ℕ) (groups : List Group) (was : IsSearch calls stages members pending groups) (d : Group) (p : ℕ)
    (last : p < length pending) (top : (t : ℕ) (e : Group) → t < length groups → (slice_index_or groups t e).pending_from ≤ p) where
  caller-last : (t : ℕ) (e : Group) → t < length groups → (slice_index_or groups t e).members_from ≤ (was.callers p last).caller
  caller-last t e h = (was.callers p last).from t e h (top t e h)

  -- calls lead from each function that is held to the one that is called
  pub reaches-called : (a : ℕ) → a < length members → Reaches calls (slice_index members a) (slice_index pending p)
  reaches-called a h =
      let it = was.callers p last in
      reaches-trans calls (slice_index members a) (slice_index members it.caller) (slice_index pending p)
      (was.joined a it.caller h it.inside (λ t e l before. absurd (omega (arith, caller-last t e l))))
      (reaches-call calls (slice_index members it.caller) (slice_index pending p) it.called)

  module _ (index : ℕ) (is_held : stage_of stages (slice_index pending p) ≡ Held index) (count : ℕ) (fewer : count ≤ length groups)
      (dropped : (t : ℕ) (e : Group) → count ≤ t → t < length groups → index < (slice_index_or groups t e).members_from)
      (kept : (e : Group) → 0 < count → (slice_index_or groups (count - 1) e).members_from ≤ index) where
    abbrev groups' : List Group
    groups' = take count groups

    here : (index < length members) × (slice_index members index ≡ slice_index pending p)
    here = was.index (slice_index pending p) index is_held

    some : 0 < count
    some =
        elim (cases_lt 0 count) [
          | inl h ↦ h
          | inr none ↦
              let busy : 0 < length groups =
              elim (cases_lt 0 (length groups)) [ inl h ↦ h | inr empty ↦ absurd (omega (arith, was.empty (omega arith), here.0)) ] in
              absurd (omega (arith, was.first d busy, dropped 0 d none busy))
        ]

    short : length groups' ≡ count
    short = length-take-le count groups fewer

    group-same : (t : ℕ) (e : Group) → t < count → slice_index_or groups' t e ≡ slice_index_or groups t e
    group-same t e h = get_or-take count groups t e h

    group-default : (t : ℕ) (e f : Group) → t < length groups → (slice_index_or groups t e).members_from ≡ (slice_index_or groups t f).members_from
    group-default t e f h = ap (λ (x : Group). x.members_from) (get_or_default groups t e f h)

    -- a fact of each group is one of each that is kept
    each-group : (P : ℕ → ℕ → Type 0) (e : Group) → ((t : ℕ) → t < length groups → P (slice_index_or groups t e).members_from (slice_index_or groups t e).pending_from) → (t : ℕ) → t < length groups'
        → P (slice_index_or groups' t e).members_from (slice_index_or groups' t e).pending_from
    each-group P e old t h =
        let inside : t < count = omega (arith, short) in
        let family : Group → Type 0 = λ x. P x.members_from x.pending_from in
        subst family (sym (group-same t e inside)) (old t (omega arith))

    all-before : (t : ℕ) (e : Group) → t < count → (slice_index_or groups t e).members_from ≤ index
    all-before t e h =
        elim (cases_lt t (count - 1)) [
          | inl earlier ↦ omega (arith, was.member_order t (count - 1) e earlier (omega arith), kept e some)
          | inr l ↦
              let at : t ≡ count - 1 = omega arith in
              omega (arith, ap (λ u. (slice_index_or groups u e).members_from) at, kept e some)
        ]

    abbrev start : ℕ
    start = (slice_index_or groups (count - 1) d).members_from

    split-kept : (b a : ℕ) → NotSplit groups' b a → (t : ℕ) (e : Group) → t < count → b < (slice_index_or groups t e).members_from → a < (slice_index_or groups t e).members_from
    split-kept b a split t e h =
        let family : Group → Type 0 = λ x. b < x.members_from → a < x.members_from in
        subst family (group-same t e h) (split t e (omega (arith, short)))

    before-start : (t : ℕ) (e : Group) → t < count → (slice_index_or groups t e).members_from ≤ start
    before-start t e h =
        let same = group-default t e d (omega arith) in
        elim (cases_lt t (count - 1)) [
          | inl earlier ↦ omega (arith, same, was.member_order t (count - 1) d earlier (omega arith))
          | inr l ↦
              let at : t ≡ count - 1 = omega arith in
              omega (arith, same, ap (λ u. (slice_index_or groups u d).members_from) at)
        ]

    joined : (a b : ℕ) → a < length members → b < length members → NotSplit groups' b a → Reaches calls (slice_index members a) (slice_index members b)
    joined a b h i split =
        elim (cases_lt a start) [
          | inl low ↦
              was.joined a b h i
              (λ t e l before.
              elim (cases_lt t count) [
                | inl early ↦ split-kept b a split t e early before
                | inr late ↦ omega (arith, kept d some, dropped t e late l)
              ])
          | inr high ↦
              let above : start ≤ b =
              elim (cases_lt b start) [ inl under ↦ absurd (omega (arith, split-kept b a split (count - 1) d (omega (arith, some)) under)) | inr over ↦ over ] in
              let called = reaches-called a h in
              let from : ℕ → Type 0 = λ x. Reaches calls x (slice_index members b) in
              reaches-trans calls (slice_index members a) (slice_index pending p) (slice_index members b) called
              (subst from here.1
              (was.joined index b here.0 i
              (λ t e l before.
              elim (cases_lt t count) [
                | inl early ↦ absurd (omega (arith, before-start t e early))
                | inr late ↦ dropped t e late l
              ])))
        ]

    followed : (a k : ℕ) → (is_closed (stage_of stages k) ≡ true) ⊎ (IsPending members pending groups a k ⊎ IsWithin stages groups a k)
        → (is_closed (stage_of stages k) ≡ true) ⊎ (IsPending members pending groups' a k ⊎ IsWithin stages groups' a k)
    followed a k (inl shut) = inl shut
    followed a k (inr (inl it)) =
        inr (inl (record {
          index = it.index;
          inside = it.inside;
          called = it.called;
          grouped = λ t e. each-group (λ m q. m ≤ a → q ≤ it.index) e (λ u l. it.grouped u e l) t;
        }))
    followed a k (inr (inr it)) =
        inr (inr (record {
          index = it.index;
          held = it.held;
          grouped = λ t e. each-group (λ m q. it.index < m → a < m) e (λ u l. it.grouped u e l) t;
        }))

    callers : (q : ℕ) → q < length pending → HasCaller calls members pending groups' q
    callers q h =
        let it = was.callers q h in
        record {
          caller = it.caller;
          inside = it.inside;
          called = it.called;
          from = λ t e. each-group (λ m n. n ≤ q → m ≤ it.caller) e (λ u l. it.from u e l) t;
          back = λ t e. each-group (λ m n. m ≤ it.caller → n ≤ q) e (λ u l. it.back u e l) t;
        }

    member_order : (t u : ℕ) (e : Group) → t < u → u < length groups' → (slice_index_or groups' t e).members_from < (slice_index_or groups' u e).members_from
    member_order t u e l h =
        let inside : u < count = omega (arith, short) in
        omega (arith, ap (λ (x : Group). x.members_from) (group-same t e (omega arith)), ap (λ (x : Group). x.members_from) (group-same u e inside), was.member_order t u e l (omega arith))

    pending_order : (t u : ℕ) (e : Group) → t ≤ u → u < length groups' → (slice_index_or groups' t e).pending_from ≤ (slice_index_or groups' u e).pending_from
    pending_order t u e l h =
        let inside : u < count = omega (arith, short) in
        omega (arith, ap (λ (x : Group). x.pending_from) (group-same t e (omega arith)), ap (λ (x : Group). x.pending_from) (group-same u e inside), was.pending_order t u e l (omega arith))

    pub join-keeps : IsSearch calls stages members pending groups'
    join-keeps =
        record {
          counted = was.counted;
          held = was.held;
          index = was.index;
          joined = joined;
          member_end = λ t e. each-group (λ m q. m < length members) e (λ u l. was.member_end u e l) t;
          pending_end = λ t e. each-group (λ m q. q ≤ length pending) e (λ u l. was.pending_end u e l) t;
          member_order = member_order;
          pending_order = pending_order;
          first = λ e h. ap (λ (x : Group). x.members_from) (group-same 0 e some) ∙ was.first e (omega (arith, some));
          empty = λ e. absurd (omega (arith, short, some));
          callers = callers;
          followed = λ a k h called. followed a k (was.followed a k h called);
          closed = was.closed;
        }

    pub join-before : (t : ℕ) (e : Group) → t < length groups' → (slice_index_or groups' t e).members_from ≤ index
    join-before t e h =
        let inside : t < count = omega (arith, short) in
        omega (arith, ap (λ (x : Group). x.members_from) (group-same t e inside), all-before t e inside)

-- the last pending call is followed: the function that it calls is closed, or held in the last group or a later one
module _ (calls : List (List ℕ)) (stages : List Stage) (members pending : List ℕ) (groups : List Group) (was : IsSearch calls stages members pending groups) (p : ℕ) (last : length pending ≡ p + 1)
    (room : (t : ℕ) (e : Group) → t < length groups → (slice_index_or groups t e).pending_from ≤ p)
    (settled : (is_closed (stage_of stages (slice_index pending p)) ≡ true)
    ⊎ ((index : ℕ) × (stage_of stages (slice_index pending p) ≡ Held index) × ((t : ℕ) (e : Group) → t < length groups → (slice_index_or groups t e).members_from ≤ index))) where
  abbrev pending' : List ℕ
  pending' = take p pending

  pending-short : length pending' ≡ p
  pending-short = length-take-le p pending (omega arith)

  pending-same : (q : ℕ) → q < p → slice_index pending' q ≡ slice_index pending q
  pending-same q h = get_or-take p pending q 0 h

  pop-callers : (q : ℕ) → q < length pending' → HasCaller calls members pending' groups q
  pop-callers q h =
      let inside : q < p = omega (arith, pending-short) in
      let it = was.callers q (omega arith) in
      let what : ℕ → Type 0 = λ x. Calls calls (slice_index members it.caller) x in
      record {
        caller = it.caller;
        inside = it.inside;
        called = subst what (sym (pending-same q inside)) it.called;
        from = it.from;
        back = it.back;
      }

  pop-last : (a : ℕ) → (is_closed (stage_of stages (slice_index pending p)) ≡ true) ⊎ (IsPending members pending' groups a (slice_index pending p) ⊎ IsWithin stages groups a (slice_index pending p))
  pop-last a =
      elim settled [
        | inl shut ↦ inl shut
        | inr it ↦ inr (inr (record { index = it.0; held = it.1; grouped = λ t e l before. absurd (omega (arith, it.2 t e l)) }))
      ]

  pop-followed : (a k : ℕ) → (is_closed (stage_of stages k) ≡ true) ⊎ (IsPending members pending groups a k ⊎ IsWithin stages groups a k)
      → (is_closed (stage_of stages k) ≡ true) ⊎ (IsPending members pending' groups a k ⊎ IsWithin stages groups a k)
  pop-followed a k (inl shut) = inl shut
  pop-followed a k (inr (inr it)) = inr (inr it)
  pop-followed a k (inr (inl it)) =
      elim (cases_lt it.index p) [
        | inl early ↦
            inr (inl (record { index = it.index; inside = omega (arith, pending-short); called = pending-same it.index early ∙ it.called; grouped = it.grouped }))
        | inr late ↦
            let at : it.index ≡ p = omega (arith, it.inside) in
            let family : ℕ → Type 0 = λ x. (is_closed (stage_of stages x) ≡ true) ⊎ (IsPending members pending' groups a x ⊎ IsWithin stages groups a x) in
            subst family (ap (slice_index pending) (sym at) ∙ it.called) (pop-last a)
      ]

  pub pop-keeps : IsSearch calls stages members pending' groups
  pop-keeps =
      record {
        counted = was.counted;
        held = was.held;
        index = was.index;
        joined = was.joined;
        member_end = was.member_end;
        pending_end = λ t e h. omega (arith, pending-short, room t e h);
        member_order = was.member_order;
        pending_order = was.pending_order;
        first = was.first;
        empty = was.empty;
        callers = pop-callers;
        followed = λ a k h called. pop-followed a k (was.followed a k h called);
        closed = was.closed;
      }
