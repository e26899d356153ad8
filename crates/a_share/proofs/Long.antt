-- Long names by their segments.
use Rattle.std.proofs.Common.{◌≡◌, ◌+◌, ◌<◌, ◌≤◌, ℕ, Bool, true, false, not, ◌&&◌, if◌then◌else◌, List, length, get_or, refl, sym, ap, ◌∙◌, Some, inl, inr, arith}
use Rattle.std.specs.Prelude.{◌||◌, nat_le, slice_get}
use Rattle.std.specs.List.{All}
use Rattle.std.proofs.lemmas.Bool.{cases_Bool, cases_lt, and_parts, and_from, ltb-true, lt-ltb, leb-true, le-leb, or_left}
use Rattle.std.proofs.lemmas.Option.{slice_get_within, get_or_from_slice_get, slice_get-get_or}
use Rattle.g_graph.specs.WellFormed.{some_of}
use Rattle.s_linear.specs.Linear.{Instr}
use Rattle.s_linear.specs.Lines.{Line, enter, leave, done, branch_not_zero, branch_zero, branch_equal, jump, label}
use Rattle.a_place.specs.Share.{writes, is_call, is_long_at, is_long}
use Rattle.a_place.specs.Marks.{Mark, site_of, sites_at}
use Rattle.a_share.specs.Walk.{count_if, has, AreNeedOf}
use Rattle.a_share.specs.Sound.{IsWithin}
use Rattle.a_share.specs.Tables.{does_write, does_call, line_at, calls_before, start_of, has_call_in, is_long_in}
use Rattle.a_share.specs.declared.walk.Segment.{Segment}
use Rattle.a_share.proofs.Found.{same_truth, some_found, some_at, contains_at, counted_found, counted_at, fewer_found, fewer_at, site_found, site_there}

-- a line that calls is a call
record IsCallLine (l : Line) : Type 0 where
  instr : Instr
  same : l ≡ done instr
  calls : is_call instr ≡ true

call_line : (l : Line) → does_call l ≡ true → IsCallLine l
call_line (done i) e = record { instr = i; same = refl; calls = e }
call_line (enter xs) e = cc
call_line (leave v) e = cc
call_line (branch_not_zero v l) e = cc
call_line (branch_zero v l) e = cc
call_line (branch_equal v r l) e = cc
call_line (jump l) e = cc
call_line (label l) e = cc

record IsLongLine (x : ℕ) (l : Line) (m : Mark) : Type 0 where
  instr : Instr
  same : l ≡ done instr
  calls : is_call instr ≡ true
  needed : m.after x ≡ true
  kept : writes instr x ≡ false

not_true : (b : Bool) → not b ≡ true → b ≡ false
not_true true e = sym e
not_true false e = refl

only : (b : Bool) → (b || false) ≡ true → b ≡ true
only true e = refl
only false e = e

long_line : (x : ℕ) (l : Line) (m : Mark) → some_of (is_long_at x) (site_of l m) ≡ true → IsLongLine x l m
long_line x (done i) m e =
    let here : (is_call i && (m.after x && not (writes i x))) ≡ true = only (is_call i && (m.after x && not (writes i x))) e in
    let p = and_parts (is_call i) (m.after x && not (writes i x)) here in
    let q = and_parts (m.after x) (not (writes i x)) p.1 in
    record { instr = i; same = refl; calls = p.0; needed = q.0; kept = not_true (writes i x) q.1 }
long_line x (enter xs) m e = cc
long_line x (leave v) m e = cc
long_line x (branch_not_zero v l) m e = cc
long_line x (branch_zero v l) m e = cc
long_line x (branch_equal v r l) m e = cc
long_line x (jump l) m e = cc
long_line x (label l) m e = cc

module _ (x : ℕ) (ls : List Line) (ms : List Mark) (ss : List Segment) (same : length ls ≡ length ms) (need : AreNeedOf ls ms x ss) (within : All (IsWithin (length ls)) ss) where
  abbrev test : Segment → Bool
  test s = has_call_in x ls s

  -- what stands at a position
  line_there : (i : ℕ) (l : Line) → slice_get ls i ≡ Some l → line_at ls i ≡ l
  line_there i l e = get_or_from_slice_get ls i l (label 0) e

  has_of : (i : ℕ) (s : Segment) → s.first ≤ i → i ≤ s.last → has i s ≡ true
  has_of i s a b = and_from (nat_le s.first i) (nat_le i s.last) (le-leb s.first i a) (le-leb i s.last b)

  start_first : (s : Segment) (b : Bool) → does_write x (line_at ls s.first) ≡ b → start_of x ls s.first ≡ (if b then s.first + 1 else s.first)
  start_first s b e = ap (λ z. if z then s.first + 1 else s.first) e

  -- where the line calls, and is in the segment from its start on, it does not write the name
  kept_there : (s : Segment) (k i : ℕ) (j : Instr) → slice_get ss k ≡ Some s → slice_get ls i ≡ Some (done j) → start_of x ls s.first ≤ i → i ≤ s.last
      → (s.first ≤ i) × (writes j x ≡ false)
  kept_there s k i j at e a b =
      elim (cases_Bool (does_write x (line_at ls s.first))) [
        | inl written ↦
            let starts : start_of x ls s.first ≡ s.first + 1 = start_first s true written in
            (omega arith, need.begun s i j (contains_at ss k s at) (omega arith) b e)
        | inr kept ↦
            let starts : start_of x ls s.first ≡ s.first = start_first s false kept in
            let first : s.first ≤ i = omega arith in
            elim (cases_lt s.first i) [
              | inl later ↦ (first, need.begun s i j (contains_at ss k s at) later b e)
              | inr not_later ↦
                  let here : s.first ≡ i = omega arith in
                  (first, sym (ap (does_write x) (line_there i (done j) e)) ∙ (ap (λ z. does_write x (line_at ls z)) (sym here) ∙ kept))
            ]
      ]

  needed_there : (s : Segment) (k i : ℕ) (j : Instr) (m : Mark) → slice_get ss k ≡ Some s → slice_get ls i ≡ Some (done j) → slice_get ms i ≡ Some m
      → has i s ≡ true → m.after x ≡ true
  needed_there s k i j m at e f h =
      let some : 1 ≤ count_if (has i) ss = counted_at (has i) ss k s at h in
      let is : count_if (has i) ss ≡ (if m.after x then 1 else 0) = need.needed i j m e f in
      elim (cases_Bool (m.after x)) [
        | inl needed ↦ needed
        | inr gone ↦ let none : ◌≡◌ {A = ℕ} (count_if (has i) ss) 0 = is ∙ ap (λ z. if z then 1 else 0) gone in absurd (omega arith)
      ]

  mark_there : (i : ℕ) (l : Line) → slice_get ls i ≡ Some l → (m : Mark) × (slice_get ms i ≡ Some m)
  mark_there i l e =
      let inside : i < length ls = slice_get_within ls i l e in
      let d : Mark = record { depth = 0; after = λ z. false } in
      (get_or ms i d, slice_get-get_or ms i d (omega arith))

  long_if : is_long_in x ls ss ≡ true → is_long (sites_at ls ms) x ≡ true
  long_if e =
      let f = some_found test ss e in
      let s = f.what in
      let c = fewer_found does_call ls (start_of x ls s.first) (s.last + 1) (ltb-true (calls_before ls (start_of x ls s.first)) (calls_before ls (s.last + 1)) f.passes) in
      let l = call_line c.what c.passes in
      let there : slice_get ls c.at ≡ Some (done l.instr) = c.there ∙ ap Some l.same in
      let before : c.at < (s.last + 1) = c.before in
      let kept = kept_there s f.at c.at l.instr f.there there c.after (omega arith) in
      let m = mark_there c.at (done l.instr) there in
      let needed : m.0.after x ≡ true = needed_there s f.at c.at l.instr m.0 f.there there m.1 (has_of c.at s kept.0 (omega arith)) in
      site_there (is_long_at x) ls ms c.at (done l.instr) m.0 there m.1
      (or_left (is_call l.instr && (m.0.after x && not (writes l.instr x))) false
      (and_from (is_call l.instr) (m.0.after x && not (writes l.instr x)) l.calls
      (and_from (m.0.after x) (not (writes l.instr x)) needed (ap not kept.1))))

  long_then : is_long (sites_at ls ms) x ≡ true → is_long_in x ls ss ≡ true
  long_then e =
      let f = site_found (is_long_at x) ls ms e in
      let l = long_line x f.line f.mark f.passes in
      let there : slice_get ls f.at ≡ Some (done l.instr) = f.there ∙ ap Some l.same in
      let one : count_if (has f.at) ss ≡ 1 = need.needed f.at l.instr f.mark there f.beside ∙ ap (λ z. if z then 1 else 0) l.needed in
      let g = counted_found (has f.at) ss (omega arith) in
      let s = g.what in
      let parts = and_parts (nat_le s.first f.at) (nat_le f.at s.last) g.passes in
      let low : s.first ≤ f.at = leb-true s.first f.at parts.0 in
      let high : f.at ≤ s.last = leb-true f.at s.last parts.1 in
      let start : start_of x ls s.first ≤ f.at = starts s f.at l.instr there l.kept low in
      let calls : does_call (done l.instr) ≡ true = l.calls in
      some_at test ss g.at s g.there
      (lt-ltb (calls_before ls (start_of x ls s.first)) (calls_before ls (s.last + 1))
      (fewer_at does_call ls (start_of x ls s.first) (s.last + 1) f.at (done l.instr) there calls start (omega arith)))
    where
      starts : (s : Segment) (i : ℕ) (j : Instr) → slice_get ls i ≡ Some (done j) → writes j x ≡ false → s.first ≤ i → start_of x ls s.first ≤ i
      starts s i j e w low =
          elim (cases_Bool (does_write x (line_at ls s.first))) [
            | inl written ↦
                let from : start_of x ls s.first ≡ s.first + 1 = start_first s true written in
                elim (cases_lt s.first i) [
                  | inl later ↦ omega arith
                  | inr not_later ↦
                      let here : s.first ≡ i = omega arith in
                      let wrote : writes j x ≡ true = sym (ap (does_write x) (line_there i (done j) e)) ∙ (ap (λ z. does_write x (line_at ls z)) (sym here) ∙ written) in
                      absurd (let both : true ≡ false = sym wrote ∙ w in cc)
                ]
            | inr kept ↦ let from : start_of x ls s.first ≡ s.first = start_first s false kept in omega arith
          ]

  pub long_same : is_long_in x ls ss ≡ is_long (sites_at ls ms) x
  long_same = same_truth (is_long_in x ls ss) (is_long (sites_at ls ms) x) long_if long_then
