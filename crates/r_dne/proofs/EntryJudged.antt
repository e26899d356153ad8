-- Entries while they are judged and go, from the last to the first.
use Rattle.std.proofs.Common.{◌≡◌, ◌<◌, ◌≤◌, ◌+◌, ◌-◌, ◌&&◌, ◌||◌, ◌==◌, not, nat_lt, ℕ, zero, suc, Bool, true, false, Some, List, [], ◌∷◌, drop, length, length-drop, refl, sym, ap, subst, ◌∙◌, arith}
use Rattle.std.specs.Prelude.{slice_get, is_some, option_and_then, IsSome}
use Rattle.std.proofs.lemmas.Bool.{or_parts}
use Rattle.std.proofs.lemmas.Bool.Decides.{nat_tests}
use Rattle.std.proofs.lemmas.Option.{same_Some}
use Rattle.g_graph.specs.declared.op.Kind.{Kind}
use Rattle.g_graph.specs.declared.op.Kind.TheVariants.{Value}
use Rattle.r_rule.specs.declared.steps.Step.{Step}
use Rattle.g_graph.specs.declared.op.Origin.{Origin}
use Rattle.g_graph.specs.declared.op.Origin.TheVariants.{Arg}
use Rattle.r_edit.specs.InPlace.{all_stay}
use Rattle.g_arena_def.specs.declared.place.Place.{Place}
use Rattle.g_arena_def.specs.Flat.{FlatRegion, FlatNode, Flat, place_in}
use Rattle.g_arena_def.specs.Reads.{found, kind_in, uses_in}
use Rattle.g_arena_def.specs.Edits.{argument_removed}
use Rattle.r_sweep.specs.Removals.{from_last, each_of, entry_removed}
use Rattle.r_sweep.proofs.lemmas.EntrySteps.{EntriesAt, Going, arguments_go, entries_go}
use Rattle.r_dne.specs.Listed.{has_use, some_region_uses, used_arguments}
use Rattle.r_dne.specs.Gone.{with_note}
use Rattle.r_dne.specs.Shape.{HasEntries}
use Rattle.r_dne.proofs.Judged.{no_use, At, at_index, none_after}

-- where no region uses an origin, none of them does
pub none_uses : (a : Flat) (n c : ℕ) (p : ℕ) → some_region_uses a n c (Arg p) ≡ false → (j : ℕ) → j < c → uses_in (place_in n j) (Arg p) a ≡ 0
none_uses a n zero p e j lt = absurd (omega (arith, lt))
none_uses a n (suc c) p e j lt =
    let both = or_parts (some_region_uses a n c (Arg p)) (has_use (place_in n c) (Arg p) a) e in
    by (j == c) refl (none_uses a n c p both.0 j) (no_use (uses_in (place_in n c) (Arg p) a) both.1)
  where
    by : (t : Bool) → (j == c) ≡ t → (j < c → uses_in (place_in n j) (Arg p) a ≡ 0) → uses_in (place_in n c) (Arg p) a ≡ 0 → uses_in (place_in n j) (Arg p) a ≡ 0
    by true q f u = let same : j ≡ c = grind (arith, nat_tests, q) in ap (λ i. uses_in (place_in n i) (Arg p) a) same ∙ u
    by false q f u = f (let apart : (j == c) ≡ false = q in grind (arith, nat_tests, apart, lt))

-- ---- the tests

module _ (a : Flat) (n c : ℕ) where
  arguments_at : (f k : ℕ) (ks : List Kind) → k < length ks → slice_get (used_arguments a n c f ks) k ≡ Some (some_region_uses a n c (Arg (f + k)))
  arguments_at f k [] h = absurd (omega (arith, h))
  arguments_at f zero (j ∷ ks) h = let here : f ≡ f + 0 = omega arith in ap (λ m. Some (some_region_uses a n c (Arg m))) here
  arguments_at f (suc k) (j ∷ ks) h =
      let here : suc f + k ≡ f + suc k = omega arith in
      arguments_at (suc f) k ks (omega (arith, h)) ∙ ap (λ m. Some (some_region_uses a n c (Arg m))) here

  argument_at : (k : ℕ) (ks : List Kind) → k < length ks → slice_get (used_arguments a n c 0 ks) k ≡ Some (some_region_uses a n c (Arg k))
  argument_at k ks h = let here : 0 + k ≡ k = omega arith in arguments_at 0 k ks h ∙ ap (λ m. Some (some_region_uses a n c (Arg m))) here

  arguments_count : (f : ℕ) (ks : List Kind) → length (used_arguments a n c f ks) ≡ length ks
  arguments_count f [] = refl
  arguments_count f (k ∷ ks) = ap suc (arguments_count (suc f) ks)

-- ---- a node with entries

pub start_entries : (n c count : ℕ) (a : Flat) → HasEntries n c count a → EntriesAt n a c count a
start_entries n c count a h = record { node = h.node; at = record { there = h.there; number = h.number; apart = h.apart }; inputs = h.inputs; args = h.args; uses = λ j k lk. refl }

pub end_entries : (n c p : ℕ) (a b : Flat) → EntriesAt n a c p b → HasEntries n c p b
end_entries n c p a b h = record { node = h.node; there = h.at.there; number = h.at.number; apart = h.at.apart; inputs = h.inputs; args = h.args }

pub argument_there : (n c p j k : ℕ) (a b : Flat) → EntriesAt n a c p b → j < c → k < p → IsSome (kind_in (place_in n j) (Arg k) b)
argument_there n c p j k a b h lt lk =
    ap (λ o. is_some (option_and_then (λ (r : FlatRegion). slice_get r.args k) (option_and_then (λ (x : FlatNode). slice_get x.regions j) o))) h.at.there ∙ h.args j k lt lk

module _ (n c count : ℕ) (a : Flat) (h : HasEntries n c count a) (ks : List Kind) (len : length ks ≡ count) where
  abbrev stays : List Bool
  stays = used_arguments a n c 0 ks

  stays_count : length stays ≡ count
  stays_count = arguments_count a n c 0 ks ∙ len

  abbrev pub entries_from : ℕ → Flat
  entries_from p = from_last (entry_removed n c) p (drop p stays) a

  pub entries_here : (p : ℕ) → p ≤ count → EntriesAt n a c p (entries_from p)
  entries_here p le = entries_go n a c (drop p stays) p count (omega (arith, length-drop p stays, stays_count, le)) (start_entries n c count a h)

  module _ (p : ℕ) (lt : p < count) where
    abbrev before : Flat
    before = entries_from (suc p)

    pub there : EntriesAt n a c (suc p) before
    there = entries_here (suc p) (omega (arith, lt))

    uses_still : (d : ℕ) → some_region_uses before n d (Arg p) ≡ some_region_uses a n d (Arg p)
    uses_still zero = refl
    uses_still (suc d) = λ i. uses_still d i || nat_lt 0 (there.uses d p (omega arith) i)

    stay_at : At p stays
    stay_at = at_index p stays (omega (arith, stays_count, lt))

    module _ (test : Bool) (told : test ≡ some_region_uses before n c (Arg p)) where
      test_is : test ≡ stay_at.element
      test_is = told ∙ uses_still c ∙ same_Some (some_region_uses a n c (Arg p)) stay_at.element (sym (argument_at a n c p ks (omega (arith, len, lt))) ∙ stay_at.there)

      rest_is : drop p stays ≡ test ∷ drop (suc p) stays
      rest_is = stay_at.rest ∙ ap (λ t. t ∷ drop (suc p) stays) (sym test_is)

      pub entry_stays : test ≡ true → entries_from p ≡ before
      entry_stays t = ap (λ ts. from_last (entry_removed n c) p ts a) (rest_is ∙ ap (λ u. u ∷ drop (suc p) stays) t)

      pub entry_gone : test ≡ false → entries_from p ≡ entry_removed n c p before
      entry_gone t = ap (λ ts. from_last (entry_removed n c) p ts a) (rest_is ∙ ap (λ u. u ∷ drop (suc p) stays) t)

      pub all_of_them : all_stay (drop p stays) ≡ test && all_stay (drop (suc p) stays)
      all_of_them = ap all_stay rest_is

      pub has_entries : HasEntries n c (suc p) before
      has_entries = end_entries n c (suc p) a before there

      pub unused : test ≡ false → (j : ℕ) → j < c → uses_in (place_in n j) (Arg p) before ≡ 0
      unused t = none_uses before n c p (sym told ∙ t)

-- one region is enough
pub one_uses : (a : Flat) (n c r p : ℕ) → r < c → has_use (place_in n r) (Arg p) a ≡ true → some_region_uses a n c (Arg p) ≡ true
one_uses a n zero r p lt e = absurd (omega (arith, lt))
one_uses a n (suc c) r p lt e = by (r == c) refl (one_uses a n c r p)
  where
    last : (t : Bool) → (t || true) ≡ true
    last true = refl
    last false = refl

    by : (t : Bool) → (r == c) ≡ t → (r < c → has_use (place_in n r) (Arg p) a ≡ true → some_region_uses a n c (Arg p) ≡ true) → some_region_uses a n (suc c) (Arg p) ≡ true
    by true q f =
        let same : r ≡ c = grind (arith, nat_tests, q) in
        ap (λ t. some_region_uses a n c (Arg p) || t) (ap (λ i. has_use (place_in n i) (Arg p) a) (sym same) ∙ e) ∙ last (some_region_uses a n c (Arg p))
    by false q f = ap (λ t. t || has_use (place_in n c) (Arg p) a) (f (let apart : (r == c) ≡ false = q in grind (arith, nat_tests, apart, lt)) e)

-- ---- while an entry goes

module _ (n c p i : ℕ) (a : Flat) (h : HasEntries n c (suc p) a) where
  abbrev pub part : Flat
  part = each_of (λ j. argument_removed (place_in n j) p) i a

  pub part_going : i ≤ c → Going n a c p i part
  part_going le = arguments_go n a c p i a le (start_entries n c (suc p) a h)

  pub part_there : i < c → IsSome (kind_in (place_in n i) (Arg p) part)
  part_there lt =
      let s = part_going (omega (arith, lt)) in
      ap (λ o. is_some (option_and_then (λ (r : FlatRegion). slice_get r.args p) (option_and_then (λ (x : FlatNode). slice_get x.regions i) o))) s.before.at.there ∙ s.own i (omega arith) lt

  pub part_uses : i < c → uses_in (place_in n i) (Arg p) part ≡ uses_in (place_in n i) (Arg p) a
  part_uses lt = let s = part_going (omega (arith, lt)) in s.still i (omega arith)

  pub part_input : i ≤ c → (x : FlatNode) × (found n part.nodes ≡ Some x) × (suc p < length x.inputs)
  part_input le = let s = part_going le in (s.before.node, s.before.at.there, s.inputs)

pub use_there : (p : Place) (o : Origin) (a : Flat) (c : ℕ) → 0 < c → c ≡ uses_in p o a → has_use p o a ≡ true
use_there p o a c h e = ap (nat_lt 0) (sym e) ∙ by c h
  where
    by : (k : ℕ) → 0 < k → nat_lt 0 k ≡ true
    by k q = grind (arith, nat_tests)

-- ---- as the code has it: at an index, which is one more than p

module _ (n c count : ℕ) (a : Flat) (h : HasEntries n c count a) (ks : List Kind) (len : length ks ≡ count) (index : ℕ) (some : 0 < index) (within : index ≤ count) (b : Flat)
    (is : b ≡ from_last (entry_removed n c) index (drop index (used_arguments a n c 0 ks)) a) where
  abbrev p : ℕ
  p = index - 1

  next : index ≡ suc p
  next = omega (arith, some)

  lt : p < count
  lt = omega (arith, some, within)

  before_is : b ≡ entries_from n c count a h ks len (suc p)
  before_is = is ∙ ap (entries_from n c count a h ks len) next

  pub entry_args : (j : ℕ) → j < c → IsSome (kind_in (place_in n j) (Arg p) b)
  entry_args j l = ap (λ z. is_some (kind_in (place_in n j) (Arg p) z)) before_is ∙ argument_there n c (suc p) j p a (entries_from n c count a h ks len (suc p)) (there n c count a h ks len p lt) l (omega arith)

  module _ (test : Bool) (told : test ≡ some_region_uses b n c (Arg p)) where
    told_before : test ≡ some_region_uses (entries_from n c count a h ks len (suc p)) n c (Arg p)
    told_before = told ∙ ap (λ z. some_region_uses z n c (Arg p)) before_is

    pub now_stays : test ≡ true → b ≡ entries_from n c count a h ks len p
    now_stays t = before_is ∙ sym (entry_stays n c count a h ks len p lt test told_before t)

    pub now_gone : test ≡ false → entry_removed n c p b ≡ entries_from n c count a h ks len p
    now_gone t = ap (entry_removed n c p) before_is ∙ sym (entry_gone n c count a h ks len p lt test told_before t)

    pub now_all : all_stay (drop p (used_arguments a n c 0 ks)) ≡ test && all_stay (drop index (used_arguments a n c 0 ks))
    now_all = all_of_them n c count a h ks len p lt test told_before ∙ ap (λ k. test && all_stay (drop k (used_arguments a n c 0 ks))) (sym next)

    pub now_entries : HasEntries n c (suc p) b
    now_entries = subst (HasEntries n c (suc p)) (sym before_is) (has_entries n c count a h ks len p lt test told_before)

    pub now_unused : test ≡ false → (j : ℕ) → j < c → uses_in (place_in n j) (Arg p) b ≡ 0
    now_unused t j l = ap (uses_in (place_in n j) (Arg p)) before_is ∙ unused n c count a h ks len p lt test told_before t j l

pub none_judged : (n c count : ℕ) (a : Flat) (ks : List Kind) → length ks ≡ count → drop count (used_arguments a n c 0 ks) ≡ []
none_judged n c count a ks len = none_after count (used_arguments a n c 0 ks) (arguments_count a n c 0 ks ∙ len)

-- so many kinds
pub some_kinds : (count : ℕ) → (ks : List Kind) × (length ks ≡ count)
some_kinds zero = ([], refl)
some_kinds (suc c) = let k = some_kinds c in (Value ∷ k.0, ap suc k.1)

-- a step is noted once
pub noted_too : (had noted : Bool) (n : ℕ) (steps now : List Step) → now ≡ with_note (noted && not had) n steps → (noted ≡ false → had ≡ false) → with_note (not noted) n now ≡ with_note (true && not had) n steps
noted_too true true n steps now e f = e
noted_too false true n steps now e f = e
noted_too false false n steps now e f = ap (with_note true n) e
noted_too true false n steps now e f = absurd (let d = f refl in cc)

pub last_true : (t : Bool) → (t || true) ≡ true
last_true true = refl
last_true false = refl

pub nothing_more : (t : Bool) (ts : List Bool) → ts ≡ [] → t ≡ (t || not (all_stay ts))
nothing_more t ts e = sym (ap (λ us. t || not (all_stay us)) e ∙ by t)
  where
    by : (u : Bool) → (u || false) ≡ u
    by true = refl
    by false = refl

pub not_both : (t : Bool) → (t && not t) ≡ false
not_both true = refl
not_both false = refl

pub both_are : (had noted u : Bool) → noted ≡ (had || u) → (noted && not had) ≡ (not had && u)
both_are true true u e = refl
both_are true false u e = refl
both_are false true u e = ap (λ t. true && t) e
both_are false false u e = e
