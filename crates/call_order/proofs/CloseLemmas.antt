-- The last group is closed, as a unit.
use Rattle.std.proofs.Common.{◌≡◌, ℕ, ◌+◌, ◌-◌, ◌<◌, ◌≤◌, ◌⊎◌, true, false, inl, inr, List, length, take, drop, count_by, slice_index, slice_index_or, Contains, refl, sym, ap, subst, ◌∙◌, arith}
use Rattle.std.proofs.lemmas.List.{length-take-le, length-drop, get_or-take, get_or-drop, get_or_default}
use Rattle.std.proofs.lemmas.Bool.{cases_lt, false≢true}
use Rattle.call_order.specs.declared.stages.Stage.{Stage}
use Rattle.call_order.specs.declared.stages.Stage.TheVariants.{New, Held, Closed}
use Rattle.call_order.specs.declared.search.Group.{Group}
use Rattle.call_order.specs.Units.{Calls, Reaches, IsMutual, IsUnitOf, CallsOut}
use Rattle.call_order.specs.Search.{is_new, is_closed, rank_in, above, stage_of, all_at, StayEntered, IsClosedAs, IsPending, IsWithin, HasCaller, IsSearch, NotSplit, ClosesFrom}
use Rattle.call_order.proofs.ReachLemmas.{reaches-keeps}
use Rattle.call_order.proofs.StageLemmas.{above-small, closed-parts, closed-onward, closed-kept, inside-from_stage}
use Rattle.call_order.proofs.AllAtLemmas.{length-all_at, all_at-other, all_at-here, count-all_at_more, count-all_at_same}

pub closes-answer : (calls : List (List ℕ)) (stages stages1 : List Stage) (members part : List ℕ) (from unit rank : ℕ) (stages' : List Stage) (members' : List ℕ) → part ≡ drop from members
    → stages1 ≡ stages → Contains part unit → ((a : ℕ) → a < length part → unit ≤ slice_index part a)
    → ((a k : ℕ) → a < length part → Calls calls (slice_index part a) k → above (stage_of stages1 k) ≤ rank)
    → (rank ≡ 0) ⊎ ((a : ℕ) × (k : ℕ) × (a < length part) × Calls calls (slice_index part a) k × (rank ≡ above (stage_of stages1 k))) → stages' ≡ all_at stages part (Closed unit rank)
    → members' ≡ take from members → ClosesFrom calls stages members from stages' members'
closes-answer calls stages stages1 members part from unit rank stages' members' p s named least ranks tight put cut =
    let Named : List ℕ → Type 0 = λ x. Contains x unit in
    let Least : List ℕ → Type 0 = λ x. (a : ℕ) → a < length x → unit ≤ slice_index x a in
    let Ranks : List ℕ → List Stage → Type 0 = λ x y. (a k : ℕ) → a < length x → Calls calls (slice_index x a) k → above (stage_of y k) ≤ rank in
    let Tight : List ℕ → List Stage → Type 0 = λ x y. (rank ≡ 0) ⊎ ((a : ℕ) × (k : ℕ) × (a < length x) × Calls calls (slice_index x a) k × (rank ≡ above (stage_of y k))) in
    record {
      unit = unit;
      rank = rank;
      named = subst Named p named;
      least = subst Least p least;
      ranks = subst (λ y. Ranks (drop from members) y) s (subst (λ x. Ranks x stages1) p ranks);
      tight = subst (λ y. Tight (drop from members) y) s (subst (λ x. Tight x stages1) p tight);
      stages_are = put ∙ ap (λ x. all_at stages x (Closed unit rank)) p;
      members_are = cut;
    }

-- many functions get one stage

module _ (calls : List (List ℕ)) (stages : List Stage) (members pending : List ℕ) (groups : List Group) (was : IsSearch calls stages members pending groups) (d : Group) (n : ℕ)
    (last : length groups ≡ n + 1) (done : length pending ≡ (slice_index_or groups n d).pending_from) where
  abbrev from : ℕ
  from = (slice_index_or groups n d).members_from

  from-inside : from < length members
  from-inside = was.member_end n d (omega arith)

  -- no group begins after the last
  group-before : (t : ℕ) (e : Group) → t < length groups → (slice_index_or groups t e).members_from ≤ from
  group-before t e h =
      let same = ap (λ (x : Group). x.members_from) (get_or_default groups t e d h) in
      elim (cases_lt t n) [
        | inl early ↦ omega (arith, same, was.member_order t n d early (omega arith))
        | inr late ↦
            let at : t ≡ n = omega arith in
            omega (arith, same, ap (λ u. (slice_index_or groups u d).members_from) at)
      ]

  group-joined : (a b : ℕ) → a < length members → b < length members → from ≤ b → Reaches calls (slice_index members a) (slice_index members b)
  group-joined a b h i over = was.joined a b h i (λ t e l before. absurd (omega (arith, group-before t e l)))

  group-mutual : (a b : ℕ) → a < length members → b < length members → from ≤ a → from ≤ b → IsMutual calls (slice_index members a) (slice_index members b)
  group-mutual a b h i over over' = (group-joined a b h i over', group-joined b a i h over)

  -- closed, or of the last group
  abbrev IsInside : ℕ → Type 0
  IsInside k = (is_closed (stage_of stages k) ≡ true) ⊎ ((index : ℕ) × (stage_of stages k ≡ Held index) × (from ≤ index))

  inside-callee : (a k : ℕ) → a < length members → from ≤ a → Calls calls (slice_index members a) k → IsInside k
  inside-callee a k h over called =
      elim (was.followed a k h called) [
        | inl shut ↦ inl shut
        | inr (inl it) ↦ absurd (omega (arith, it.inside, it.grouped n d (omega arith) over))
        | inr (inr it) ↦
            inr (
              it.index,
              it.held,
              elim (cases_lt it.index from) [ inl under ↦ absurd (omega (arith, it.grouped n d (omega arith) under)) | inr up ↦ up ],
            )
      ]

  inside-onward : (j k : ℕ) → IsInside j → Calls calls j k → IsInside k
  inside-onward j k (inl shut) called =
      let parts = closed-parts (stage_of stages j) shut in
      inl ((was.closed j parts.0 parts.1 parts.2).onward k called)
  inside-onward j k (inr it) called =
      let at = was.index j it.0 it.1 in
      let family : ℕ → Type 0 = λ x. Calls calls x k in
      inside-callee it.0 k at.0 it.2 (subst family (sym at.1) called)

  held-open : (a : ℕ) → a < length members → is_closed (stage_of stages (slice_index members a)) ≡ false
  held-open a h = ap is_closed (was.held a h)

  -- what calls itself there and back with a function of the group is of the group
  group-whole : (a k : ℕ) → a < length members → from ≤ a → IsMutual calls (slice_index members a) k → (index : ℕ) × (stage_of stages k ≡ Held index) × (from ≤ index)
  group-whole a k h over both =
      elim (reaches-keeps calls IsInside inside-onward (slice_index members a) k both.0 (inr (a, was.held a h, over))) [
        | inl shut ↦
            let back = closed-onward calls stages was.closed k (slice_index members a) both.1 shut in
            absurd (false≢true (sym (held-open a h) ∙ back))
        | inr it ↦ it
      ]

  module _ (stages' : List Stage) (members' : List ℕ) (put : ClosesFrom calls stages members from stages' members') where
    abbrev closing : Stage
    closing = Closed put.unit put.rank

    part-length : length (drop from members) ≡ length members - from
    part-length = length-drop from members

    part-at : (e : ℕ) → slice_index (drop from members) e ≡ slice_index members (from + e)
    part-at e = get_or-drop from members e 0

    member-known : (a : ℕ) → a < length members → slice_index members a < length stages
    member-known a h = inside-from_stage stages (slice_index members a) (λ is. let now = was.held a h in cc)

    here : (a : ℕ) → a < length members → from ≤ a → stage_of stages' (slice_index members a) ≡ closing
    here a h over =
        let e : ℕ = a - from in
        let at : slice_index (drop from members) e ≡ slice_index members a = part-at e ∙ ap (slice_index members) (omega arith) in
        let family : ℕ → Type 0 = λ x. stage_of (all_at stages (drop from members) closing) x ≡ closing in
        ap (λ xs. stage_of xs (slice_index members a)) put.stages_are
        ∙ subst family at (all_at-here stages (drop from members) closing e (omega (arith, part-length)) (omega (arith, at, member-known a h)))

    other : (k : ℕ) → ((index : ℕ) → stage_of stages k ≡ Held index → index < from) → stage_of stages' k ≡ stage_of stages k
    other k apart =
        ap (λ xs. stage_of xs k) put.stages_are
        ∙ all_at-other stages (drop from members) closing k
        (λ e h is.
        let short : from + e < length members = omega (arith, part-length) in
        let held = was.held (from + e) short in
        absurd (omega (arith, apart (from + e) (ap (stage_of stages) (sym is ∙ part-at e) ∙ held))))

    closed-other : (k : ℕ) → is_closed (stage_of stages k) ≡ true → stage_of stages' k ≡ stage_of stages k
    closed-other k shut = other k (λ index is. let now = ap is_closed is in absurd (false≢true (sym now ∙ shut)))

    held-here : (k index : ℕ) → stage_of stages k ≡ Held index → from ≤ index → stage_of stages' k ≡ closing
    held-here k index is over =
        let at = was.index k index is in
        ap (stage_of stages') (sym at.1) ∙ here index at.0 over

    -- what is closed now
    inside-closed : (k : ℕ) → IsInside k → is_closed (stage_of stages' k) ≡ true
    inside-closed k (inl shut) = ap is_closed (closed-other k shut) ∙ shut
    inside-closed k (inr it) = ap is_closed (held-here k it.0 it.1 it.2)

    stage-cases : (k : ℕ) → ((index : ℕ) × (stage_of stages k ≡ Held index) × (from ≤ index)) ⊎ (stage_of stages' k ≡ stage_of stages k)
    stage-cases k = stage-cases-of (stage_of stages k) refl where
      stage-cases-of : (stage : Stage) → stage_of stages k ≡ stage → ((index : ℕ) × (stage_of stages k ≡ Held index) × (from ≤ index)) ⊎ (stage_of stages' k ≡ stage_of stages k)
      stage-cases-of New is = inr (other k (λ index held. cc))
      stage-cases-of (Closed unit rank) is = inr (other k (λ index held. cc))
      stage-cases-of (Held index) is =
          elim (cases_lt index from) [
            | inl under ↦ inr (other k (λ index' held. let same : index' ≡ index = cc in omega arith))
            | inr over ↦ inl (index, is, over)
          ]

    more-closed : count_by is_closed stages + 1 ≤ count_by is_closed stages'
    more-closed =
        let first : slice_index (drop from members) 0 ≡ slice_index members from = part-at 0 ∙ ap (slice_index members) (omega arith) in
        let open' : is_closed (stage_of stages (slice_index (drop from members) 0)) ≡ false = ap (λ x. is_closed (stage_of stages x)) first ∙ held-open from from-inside in
        omega (
          arith,
          count-all_at_more is_closed stages (drop from members) closing (omega (arith, part-length, from-inside)) (omega (arith, first, member-known from from-inside)) refl open',
          ap (count_by is_closed) put.stages_are,
        )

    abbrev members'' : List ℕ
    members'' = take from members

    abbrev groups' : List Group
    groups' = take n groups

    members-short : length members'' ≡ from
    members-short = length-take-le from members (omega (arith, from-inside))

    groups-short : length groups' ≡ n
    groups-short = length-take-le n groups (omega arith)

    member-same : (a : ℕ) → a < from → slice_index members'' a ≡ slice_index members a
    member-same a h = get_or-take from members a 0 h

    group-same : (t : ℕ) (e : Group) → t < n → slice_index_or groups' t e ≡ slice_index_or groups t e
    group-same t e h = get_or-take n groups t e h

    each-group : (P : ℕ → ℕ → Type 0) (e : Group) → ((t : ℕ) → t < length groups → P (slice_index_or groups t e).members_from (slice_index_or groups t e).pending_from) → (t : ℕ) → t < length groups'
        → P (slice_index_or groups' t e).members_from (slice_index_or groups' t e).pending_from
    each-group P e old t h =
        let inside : t < n = omega (arith, groups-short) in
        let family : Group → Type 0 = λ x. P x.members_from x.pending_from in
        subst family (sym (group-same t e inside)) (old t (omega arith))

    held-low : (a : ℕ) → a < from → stage_of stages' (slice_index members a) ≡ Held a
    held-low a h =
        let is = was.held a (omega (arith, from-inside)) in
        other (slice_index members a) (λ index held. let same : index ≡ a = cc in omega arith) ∙ is

    index-low : (k a : ℕ) → stage_of stages' k ≡ Held a → (a < length members'') × (slice_index members'' a ≡ k)
    index-low k a h =
        elim (stage-cases k) [
          | inl it ↦ let closing' = held-here k it.0 it.1 it.2 in cc
          | inr same ↦
              let is : stage_of stages k ≡ Held a = sym same ∙ h in
              let at = was.index k a is in
              elim (cases_lt a from) [
                | inl low ↦ (omega (arith, members-short), member-same a low ∙ at.1)
                | inr over ↦ let closing' = held-here k a is over in cc
              ]
        ]

    joined-low : (a b : ℕ) → a < from → b < from → NotSplit groups' b a → Reaches calls (slice_index members a) (slice_index members b)
    joined-low a b h i split =
        was.joined a b (omega (arith, from-inside)) (omega (arith, from-inside))
        (λ t e l before.
        elim (cases_lt t n) [
          | inl early ↦
              let family : Group → Type 0 = λ x. b < x.members_from → a < x.members_from in
              subst family (group-same t e early) (split t e (omega (arith, groups-short))) before
          | inr late ↦
              let at : t ≡ n = omega arith in
              let same = ap (λ (x : Group). x.members_from) (get_or_default groups t e d l) in
              omega (arith, same, ap (λ u. (slice_index_or groups u d).members_from) at)
        ])

    joined' : (a b : ℕ) → a < length members'' → b < length members'' → NotSplit groups' b a → Reaches calls (slice_index members'' a) (slice_index members'' b)
    joined' a b h i split =
        let low : a < from = omega (arith, members-short) in
        let low' : b < from = omega (arith, members-short) in
        let to : ℕ → Type 0 = λ x. Reaches calls (slice_index members a) x in
        let out : ℕ → Type 0 = λ x. Reaches calls x (slice_index members'' b) in
        subst out (sym (member-same a low)) (subst to (sym (member-same b low')) (joined-low a b low low' split))

    member_end' : (t : ℕ) (e : Group) → t < length groups' → (slice_index_or groups' t e).members_from < length members''
    member_end' t e h =
        let inside : t < n = omega (arith, groups-short) in
        let same = ap (λ (x : Group). x.members_from) (group-same t e inside) in
        let default = ap (λ (x : Group). x.members_from) (get_or_default groups t e d (omega arith)) in
        omega (arith, same, default, members-short, was.member_order t n d inside (omega arith))

    member_order' : (t u : ℕ) (e : Group) → t < u → u < length groups' → (slice_index_or groups' t e).members_from < (slice_index_or groups' u e).members_from
    member_order' t u e l h =
        let inside : u < n = omega (arith, groups-short) in
        omega (arith, ap (λ (x : Group). x.members_from) (group-same t e (omega arith)), ap (λ (x : Group). x.members_from) (group-same u e inside), was.member_order t u e l (omega arith))

    pending_order' : (t u : ℕ) (e : Group) → t ≤ u → u < length groups' → (slice_index_or groups' t e).pending_from ≤ (slice_index_or groups' u e).pending_from
    pending_order' t u e l h =
        let inside : u < n = omega (arith, groups-short) in
        omega (arith, ap (λ (x : Group). x.pending_from) (group-same t e (omega arith)), ap (λ (x : Group). x.pending_from) (group-same u e inside), was.pending_order t u e l (omega arith))

    first' : (e : Group) → 0 < length groups' → (slice_index_or groups' 0 e).members_from ≡ 0
    first' e h = ap (λ (x : Group). x.members_from) (group-same 0 e (omega (arith, groups-short))) ∙ was.first e (omega arith)

    empty' : length groups' ≡ 0 → length members'' ≡ 0
    empty' h =
        let at : n ≡ 0 = omega (arith, groups-short) in
        omega (arith, members-short, ap (λ u. (slice_index_or groups u d).members_from) at, was.first d (omega arith))

    callers' : (q : ℕ) → q < length pending → HasCaller calls members'' pending groups' q
    callers' q h =
        let it = was.callers q h in
        let low : it.caller < from =
        elim (cases_lt it.caller from) [ inl under ↦ under | inr over ↦ absurd (omega (arith, it.back n d (omega arith) over)) ] in
        let family : ℕ → Type 0 = λ x. Calls calls x (slice_index pending q) in
        record {
          caller = it.caller;
          inside = omega (arith, members-short);
          called = subst family (sym (member-same it.caller low)) it.called;
          from = λ t e. each-group (λ m p. p ≤ q → m ≤ it.caller) e (λ u l. it.from u e l) t;
          back = λ t e. each-group (λ m p. m ≤ it.caller → p ≤ q) e (λ u l. it.back u e l) t;
        }

    followed-low : (a k : ℕ) → a < from → (is_closed (stage_of stages k) ≡ true) ⊎ (IsPending members pending groups a k ⊎ IsWithin stages groups a k)
        → (is_closed (stage_of stages' k) ≡ true) ⊎ (IsPending members'' pending groups' a k ⊎ IsWithin stages' groups' a k)
    followed-low a k h (inl shut) = inl (inside-closed k (inl shut))
    followed-low a k h (inr (inl it)) =
        inr (inl (record {
          index = it.index;
          inside = it.inside;
          called = it.called;
          grouped = λ t e. each-group (λ m q. m ≤ a → q ≤ it.index) e (λ u l. it.grouped u e l) t;
        }))
    followed-low a k h (inr (inr it)) =
        elim (cases_lt it.index from) [
          | inl low ↦
              let at = was.index k it.index it.held in
              inr (inr (record {
                index = it.index;
                held = ap (stage_of stages') (sym at.1) ∙ held-low it.index low;
                grouped = λ t e. each-group (λ m q. it.index < m → a < m) e (λ u l. it.grouped u e l) t;
              }))
          | inr over ↦ inl (inside-closed k (inr (it.index, it.held, over)))
        ]

    followed' : (a k : ℕ) → a < length members'' → Calls calls (slice_index members'' a) k
        → (is_closed (stage_of stages' k) ≡ true) ⊎ (IsPending members'' pending groups' a k ⊎ IsWithin stages' groups' a k)
    followed' a k h called =
        let low : a < from = omega (arith, members-short) in
        let family : ℕ → Type 0 = λ x. Calls calls x k in
        followed-low a k low (was.followed a k (omega (arith, from-inside)) (subst family (member-same a low) called))

    -- the unit of the group
    unit-is : (a : ℕ) → a < length members → from ≤ a → IsUnitOf calls (slice_index members a) put.unit
    unit-is a h over =
        let e = put.named.0 in
        let short : from + e < length members = omega (arith, part-length, put.named.1) in
        let name : slice_index members (from + e) ≡ put.unit = sym (part-at e) ∙ (get_or_default (drop from members) e 0 put.unit put.named.1 ∙ put.named.2) in
        let family : ℕ → Type 0 = λ x. IsMutual calls (slice_index members a) x in
        record {
          within = subst family name (group-mutual a (from + e) h short over (omega arith));
          least = λ k both.
              let it = group-whole a k h over both in
              let at = was.index k it.0 it.1 in
              let f : ℕ = it.0 - from in
              let same : slice_index (drop from members) f ≡ k = part-at f ∙ (ap (slice_index members) (omega (arith, it.2)) ∙ at.1) in
              omega (arith, same, put.least f (omega (arith, part-length, at.0, it.2)));
        }

    -- a call that leaves the group leads to a closed function of a smaller rank
    leaves-closed : (a k : ℕ) → a < length members → from ≤ a → CallsOut calls (slice_index members a) k → (is_closed (stage_of stages k) ≡ true) × (above (stage_of stages k) ≤ put.rank)
    leaves-closed a k h over leaves =
        let it = group-whole a leaves.caller h over leaves.within in
        let at = was.index leaves.caller it.0 it.1 in
        let family : ℕ → Type 0 = λ x. Calls calls x k in
        let called = subst family (sym at.1) leaves.called in
        let f : ℕ = it.0 - from in
        let same : slice_index members it.0 ≡ slice_index (drop from members) f = ap (slice_index members) (omega (arith, it.2)) ∙ sym (part-at f) in (
          elim (inside-callee it.0 k at.0 it.2 called) [
            | inl shut ↦ shut
            | inr inner ↦
                let there = was.index k inner.0 inner.1 in
                let both : ℕ → Type 0 = λ x. IsMutual calls (slice_index members a) x in
                absurd (leaves.outside (subst both there.1 (group-mutual a inner.0 h there.0 over inner.2)))
          ],
          put.ranks f k (omega (arith, part-length, at.0, it.2)) (subst family same called),
        )

    above-closed : (stage : Stage) → is_closed stage ≡ true → above stage ≡ rank_in stage + 1
    above-closed New h = cc
    above-closed (Held index) h = cc
    above-closed (Closed unit rank) h = refl

    above-open : (stage : Stage) → (is_closed stage ≡ true) ⊎ (above stage ≡ 0)
    above-open New = inr refl
    above-open (Held index) = inr refl
    above-open (Closed unit rank) = inl refl

    tight-is : (a : ℕ) → a < length members → from ≤ a → (put.rank ≡ 0) ⊎ ((k : ℕ) × CallsOut calls (slice_index members a) k × (put.rank ≡ rank_in (stage_of stages' k) + 1))
    tight-is a h over =
        elim put.tight [
          | inl none ↦ inl none
          | inr some ↦
              let e = some.0 in
              let k = some.1 in
              elim (above-open (stage_of stages k)) [
                | inr none ↦ inl (some.4 ∙ none)
                | inl shut ↦
                    let short : from + e < length members = omega (arith, part-length, some.2) in
                    let family : ℕ → Type 0 = λ x. Calls calls x k in
                    inr (
                      k,
                      record {
                        caller = slice_index members (from + e);
                        within = group-mutual a (from + e) h short over (omega arith);
                        called = subst family (part-at e) some.3;
                        outside = λ both.
                            let it = group-whole a k h over both in
                            let now = ap is_closed it.1 in
                            absurd (false≢true (sym now ∙ shut));
                      },
                      omega (arith, some.4, above-closed (stage_of stages k) shut, ap rank_in (closed-other k shut)),
                    )
              ]
        ]

    closed-here : (a : ℕ) → a < length members → from ≤ a → IsClosedAs calls stages' (slice_index members a) put.unit put.rank
    closed-here a h over =
        record {
          unit_of = unit-is a h over;
          onward = λ k called. inside-closed k (inside-callee a k h over called);
          above = λ k leaves.
              let it = leaves-closed a k h over leaves in
              omega (arith, it.1, above-closed (stage_of stages k) it.0, ap rank_in (closed-other k it.0));
          tight = tight-is a h over;
          small = elim put.tight [
            | inl none ↦ omega (arith, more-closed)
            | inr some ↦ omega (arith, more-closed, some.4, above-small calls stages was.closed (stage_of stages some.1) some.1 refl)
          ];
        }

    closed' : (k unit rank : ℕ) → stage_of stages' k ≡ Closed unit rank → IsClosedAs calls stages' k unit rank
    closed' k unit rank is =
        elim (stage-cases k) [
          | inl it ↦
              let at = was.index k it.0 it.1 in
              let now : Closed put.unit put.rank ≡ Closed unit rank = sym (held-here k it.0 it.1 it.2) ∙ is in
              let unit-same : put.unit ≡ unit = cc in
              let rank-same : put.rank ≡ rank = cc in
              let family : ℕ → ℕ → ℕ → Type 0 = IsClosedAs calls stages' in
              subst (λ x. family x unit rank) at.1
              (subst (λ x. family (slice_index members it.0) x rank) unit-same (subst (λ x. family (slice_index members it.0) put.unit x) rank-same (closed-here it.0 at.0 it.2)))
          | inr same ↦
              closed-kept calls stages stages' was.closed closed-other (omega (arith, more-closed)) k unit rank (sym same ∙ is)
        ]

    pub close-keeps : IsSearch calls stages' members' pending groups'
    close-keeps =
        let family : List ℕ → Type 0 = λ x. IsSearch calls stages' x pending groups' in
        subst family (sym put.members_are)
        (record {
          counted = ap length put.stages_are ∙ (length-all_at stages (drop from members) closing ∙ was.counted);
          held = λ a h.
              let low : a < from = omega (arith, members-short) in
              ap (stage_of stages') (member-same a low) ∙ held-low a low;
          index = index-low;
          joined = joined';
          member_end = member_end';
          pending_end = λ t e. each-group (λ m q. q ≤ length pending) e (λ u l. was.pending_end u e l) t;
          member_order = member_order';
          pending_order = pending_order';
          first = first';
          empty = empty';
          callers = callers';
          followed = followed';
          closed = closed';
        })

    pub close-entered : StayEntered stages stages'
    close-entered k is =
        elim (stage-cases k) [
          | inl it ↦ let now = held-here k it.0 it.1 it.2 in cc
          | inr same ↦ sym same ∙ is
        ]

    pub close-new : count_by is_new stages' ≡ count_by is_new stages
    close-new =
        ap (count_by is_new) put.stages_are
        ∙ count-all_at_same is_new stages (drop from members) closing refl
        (λ e h.
        let short : from + e < length members = omega (arith, part-length) in
        ap (λ k. is_new (stage_of stages k)) (part-at e) ∙ ap is_new (was.held (from + e) short))
