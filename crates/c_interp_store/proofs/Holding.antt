-- How a store goes on holding a memory that grows, ends or changes.
use Rattle.std.proofs.Common.{◌≡◌, ◌≢◌, ℕ, ◌+◌, ◌-◌, ◌<◌, ◌≤◌, ◌++◌, true, false, Bool, List, [], ◌∷◌, length, take, drop, get_or, set, map, Option, Some, None, refl, sym, ap, ap₂, ◌∙◌, subst, inl, inr, arith, add-one, append_assoc, length-append}
use Rattle.std.specs.Prelude.{◌==◌, option_map, MatchOption, is_some}
use Rattle.std.specs.List.{list_any}
use Rattle.std.proofs.lemmas.Option.{slice_get_read, get_or_from_slice_get, slice_get_within}
use Rattle.std.proofs.lemmas.Bool.{cases_lt, cases_eq, eq-eqb, ne_eqb}
use Rattle.std.proofs.lemmas.List.{map-append, length-map, take-append-drop}
use Rattle.val_core.specs.Numbers.{numbers_from}
use Rattle.val_core.specs.declared.values.BlockName.{BlockName}
use Rattle.val_core.specs.Memory as mem
use Rattle.val_core.specs.declared.values.Value.{Value}
use Rattle.val_core.specs.declared.values.Value.TheVariants.{At}
use Rattle.val_core.specs.Memory.{Memory, block_changed, block_named, closed, store, kept, written, is_at, is_live, zeroed, cleared}
use Rattle.c_interp_store.specs.declared.block.Block.{Block}
use Rattle.c_interp_store.specs.declared.store.Store.{Store}
use Rattle.c_interp_store.specs.Ascending.{ascends, IsAbsent, IsFoundAt}
use Rattle.c_interp_store.specs.Blocks.{number_of, block_of, listed}
use Rattle.c_interp_store.specs.Holding.{Opened, Holds, IsNamedAt, IsChanged, numbers_of, AreApart, live_block, live_named, of_size}
use Rattle.c_interp_store.proofs.Ascending.{ascends_map, numbers_ascend, AreBelow}
use Rattle.c_interp_store.proofs.Blocks.{or_else, or_none, listed_none, listed_at, listed_set, listed_append, listed_low, listed_high, numbers_set}
use Rattle.c_interp_store.proofs.Calls.{numbers_below, numbers_more, numbers_length, apart_more, calls_below, calls_ascend}
use Rattle.c_interp_store.proofs.Lifetimes.{live_past, live_before, live_last, length_changed, length_closed, changed_here, changed_elsewhere, closed_inside, closed_before, closed_after, takes_in, takes_live, life_live}

-- what is listed is in order
pub holds_ascends : (s : Store) (calls : List Opened) (m : Memory) → Holds s calls m → ascends number_of 0 s.blocks.items ≡ true
holds_ascends s calls m h = ascends_map number_of 0 s.blocks.items ∙ ap (ascends (λ n. n) 0) h.numbers ∙ calls_ascend (length m) calls h.apart

-- ---- a block is put at the end

module _ (s t : Store) (b : Block) (blocks : t.blocks.items ≡ s.blocks.items ++ b ∷ []) (made : t.made ≡ s.made + 1) (number : b.number ≡ s.made) where
  grown_block : (calls : List Opened) (m : Memory) (n : ℕ) → length m ≡ s.made → listed n s.blocks.items ≡ live_block n m → listed n (s.blocks.items ++ b ∷ []) ≡ live_block n (m ++ block_of b ∷ [])
  grown_block calls m n size same =
      listed_append n s.blocks.items (b ∷ []) ∙ (elim (cases_eq n (length m)) [
        | inl e ↦
            let none : listed n s.blocks.items ≡ None = same ∙ live_past n m (omega arith) in
            let here : (b.number == n) ≡ true = eq-eqb b.number n (omega arith) in
            rw (none, here) (sym (live_last n m (block_of b) e))
        | inr ne ↦
            let not_here : (b.number == n) ≡ false = ne_eqb b.number n (λ x. ne (sym x ∙ number ∙ sym size)) in
            rw not_here (or_none (listed n s.blocks.items) ∙ same ∙ other n m ne)
      ])
    where
      other : (n : ℕ) (m : Memory) → n ≢ length m → live_block n m ≡ live_block n (m ++ block_of b ∷ [])
      other n m ne = elim (cases_lt n (length m)) [
        | inl lt ↦ sym (live_before n m (block_of b) lt)
        | inr le ↦ live_past n m le ∙ sym (live_past n (m ++ block_of b ∷ []) (simp length-append (omega arith)))
      ]

  pub grown : (first count : ℕ) (calls : List Opened) (m : Memory) → first + count ≡ length m → Holds s (record { first = first; count = count } ∷ calls) m →
      Holds t (record { first = first; count = count + 1 } ∷ calls) (m ++ block_of b ∷ [])
  grown first count calls m is_last h = record {
    made = made ∙ ap (λ n. n + 1) h.made ∙ sym (length-append m (block_of b ∷ []));
    numbers = ap (map number_of) blocks ∙ map-append number_of s.blocks.items (b ∷ []) ∙ ap₂ (λ ns n. ns ++ n ∷ []) h.numbers (number ∙ h.made ∙ sym is_last)
        ∙ append_assoc (numbers_of calls) (numbers_from first count) ((first + count) ∷ [])
        ∙ ap (λ ns. numbers_of calls ++ ns) (sym (numbers_more first count) ∙ ap (numbers_from first) (sym (add-one count)));
    apart = (simp length-append (omega arith), h.apart.1);
    holds = λ n. ap (listed n) blocks ∙ grown_block calls m n (sym h.made) (h.holds n);
  }

-- ---- a block is changed

module _ (s t : Store) (calls : List Opened) (m : Memory) (h : Holds s calls m) (i : ℕ) (b d : Block) (f : mem.Block → mem.Block)
    (inside : i < length s.blocks.items) (blocks : t.blocks.items ≡ set s.blocks.items i b) (made : t.made ≡ s.made)
    (same : number_of b ≡ number_of (get_or s.blocks.items i d)) (keeps : (k : mem.Block) → (f k).live ≡ k.live) (is : block_of b ≡ f (block_of (get_or s.blocks.items i d))) where
  changed_listed : (n : ℕ) → listed n (set s.blocks.items i b) ≡ live_block n (block_changed (number_of b) f m)
  changed_listed n =
      let up = holds_ascends s calls m h in
      listed_set n s.blocks.items i b d 0 up inside same ∙ (elim (cases_eq n (number_of b)) [
        | inl e ↦
            let here : (b.number == n) ≡ true = eq-eqb b.number n (sym e) in
            let old : live_block n m ≡ Some (block_of (get_or s.blocks.items i d)) = sym (h.holds n) ∙ listed_at n 0 s.blocks.items i d up inside (sym same ∙ sym e) in
            rw here (ap Some is ∙ sym (ap (option_map f) old) ∙ sym (changed_here f keeps n m) ∙ ap (λ j. live_block n (block_changed j f m)) e)
        | inr ne ↦
            let not_here : (b.number == n) ≡ false = ne_eqb b.number n (λ x. ne (sym x)) in
            rw not_here (h.holds n ∙ sym (changed_elsewhere f (number_of b) n m ne))
      ])

  pub changed : Holds t calls (block_changed (number_of b) f m)
  changed = record {
    made = made ∙ h.made ∙ sym (length_changed (number_of b) f m);
    numbers = ap (map number_of) blocks ∙ numbers_set s.blocks.items i b d inside same ∙ h.numbers;
    apart = subst (AreApart calls) (sym (length_changed (number_of b) f m)) h.apart;
    holds = λ n. ap (listed n) blocks ∙ changed_listed n;
  }

-- a block that is not listed may be changed: it does not live
pub changed_dead : (s : Store) (calls : List Opened) (m : Memory) (j : ℕ) (f : mem.Block → mem.Block) → ((k : mem.Block) → (f k).live ≡ k.live) → IsAbsent number_of s.blocks.items j →
    Holds s calls m →
    Holds s calls (block_changed j f m)
changed_dead s calls m j f keeps none h = record {
  made = h.made ∙ sym (length_changed j f m);
  numbers = h.numbers;
  apart = subst (AreApart calls) (sym (length_changed j f m)) h.apart;
  holds = λ n. elim (cases_eq n j) [
    | inl e ↦
        let absent : listed j s.blocks.items ≡ None = listed_none j s.blocks.items none in
        let old : live_block j m ≡ None = sym (h.holds j) ∙ absent in
        rw e (absent ∙ sym (ap (option_map f) old) ∙ sym (changed_here f keeps j m))
    | inr ne ↦ h.holds n ∙ sym (changed_elsewhere f j n m ne)
  ];
}

-- ---- the newest blocks are dropped

-- a list whose numbers are two lists put together is made of two parts
parts : (ns ms : List ℕ) (bs : List Block) → map number_of bs ≡ ns ++ ms → (map number_of (take (length ns) bs) ≡ ns) × (map number_of (drop (length ns) bs) ≡ ms)
parts [] ms bs e = (refl, e)
parts (n ∷ ns) ms [] e = absurd (cc)
parts (n ∷ ns) ms (b ∷ bs) e =
    let head : number_of b ≡ n = cc in
    let tail : map number_of bs ≡ ns ++ ms = cc in
    let r = parts ns ms bs tail in
    (ap₂ (λ x xs. x ∷ xs) head r.0, r.1)

module _ (o : Opened) (calls : List Opened) (m : Memory) (older newer : List Block) (apart : AreApart calls o.first) (whole : (n : ℕ) → listed n (older ++ newer) ≡ live_block n m)
    (old_numbers : map number_of older ≡ numbers_of calls) (new_numbers : map number_of newer ≡ numbers_from o.first o.count) where
  low : (n : ℕ) → n < o.first → listed n newer ≡ None
  low n lt = listed_low n o.first newer (ascends_map number_of o.first newer ∙ ap (ascends (λ n. n) o.first) new_numbers ∙ numbers_ascend o.first o.count) lt

  none_older : (n : ℕ) → o.first ≤ n → listed n older ≡ None
  none_older n le = listed_high n o.first older (subst (AreBelow o.first) (sym old_numbers) (calls_below o.first calls apart)) le

  none_newer : (n : ℕ) → o.first + o.count ≤ n → listed n newer ≡ None
  none_newer n le = listed_high n (o.first + o.count) newer (subst (AreBelow (o.first + o.count)) (sym new_numbers) (numbers_below (o.first + o.count) o.first o.count (omega arith))) le

  split : (n : ℕ) → live_block n m ≡ or_else (listed n older) (listed n newer)
  split n = sym (whole n) ∙ listed_append n older newer

  older_listed : (n : ℕ) → listed n older ≡ live_block n (closed o.first o.count m)
  older_listed n = elim (cases_lt n o.first) [
    | inl lt ↦ sym (or_none (listed n older)) ∙ ap (or_else (listed n older)) (sym (low n lt)) ∙ sym (split n) ∙ sym (closed_before o.first o.count n m lt)
    | inr le ↦ none_older n le ∙ (elim (cases_lt n (o.first + o.count)) [
      | inl lt ↦ sym (closed_inside o.first o.count n m le lt)
      | inr past ↦
          let none : live_block n m ≡ None = split n ∙ ap₂ or_else (none_older n le) (none_newer n past) in
          sym (closed_after o.first o.count n m past ∙ none)
    ])
  ]

pub dropped : (s t : Store) (o : Opened) (calls : List Opened) (m : Memory) → Holds s (o ∷ calls) m → t.blocks.items ≡ take (length s.blocks.items - o.count) s.blocks.items → t.made ≡ s.made →
    Holds t calls (closed o.first o.count m)
dropped s t o calls m h blocks made =
    let bs = s.blocks.items in
    let p = parts (numbers_of calls) (numbers_from o.first o.count) bs h.numbers in
    let size = ap length h.numbers in
    let count : length bs ≡ length (numbers_of calls) + o.count = sym (length-map bs number_of) ∙ size ∙ length-append (numbers_of calls) (numbers_from o.first o.count)
    ∙ ap (λ n. length (numbers_of calls) + n) (numbers_length o.first o.count) in
    let left : length bs - o.count ≡ length (numbers_of calls) = omega arith in
    let is : t.blocks.items ≡ take (length (numbers_of calls)) bs = blocks ∙ ap (λ k. take k bs) left in
    let whole : (n : ℕ) → listed n (take (length (numbers_of calls)) bs ++ drop (length (numbers_of calls)) bs)
    ≡ live_block n m = λ n. ap (listed n) (take-append-drop (length (numbers_of calls)) bs) ∙ h.holds n in
    record {
      made = made ∙ h.made ∙ sym (length_closed o.first o.count m);
      numbers = ap (map number_of) is ∙ p.0;
      apart = subst (AreApart calls) (sym (length_closed o.first o.count m)) (apart_more o.first (length m) calls (omega (arith, h.apart.0)) h.apart.1);
      holds = λ n. ap (listed n) is ∙ older_listed o calls m (take (length (numbers_of calls)) bs) (drop (length (numbers_of calls)) bs) h.apart.1 whole p.0 p.1 n;
    }

-- ---- by name

pub named_listed : (s : Store) (calls : List Opened) (b : BlockName) (m : Memory) → Holds s calls m → live_named b m ≡ of_size b.size (listed b.number s.blocks.items)
named_listed s calls b m h = ap (of_size b.size) (sym (h.holds b.number))

pub named_absent : (s : Store) (calls : List Opened) (b : BlockName) (m : Memory) → Holds s calls m → IsAbsent number_of s.blocks.items b.number → live_named b m ≡ None
named_absent s calls b m h none = named_listed s calls b m h ∙ ap (of_size b.size) (listed_none b.number s.blocks.items none)

module _ (s : Store) (calls : List Opened) (b : BlockName) (m : Memory) (h : Holds s calls m) (i : ℕ) (k : Block) (f : IsFoundAt number_of s.blocks.items b.number i)
    (read : k ≡ get_or s.blocks.items i k) where
  named_found : live_named b m ≡ of_size b.size (Some (block_of k))
  named_found = named_listed s calls b m h ∙ ap (of_size b.size) (listed_at b.number 0 s.blocks.items i k (holds_ascends s calls m h) f.inside (f.number_is k))
      ∙ ap (λ x. of_size b.size (Some (block_of x))) (sym read)

  pub named_at : k.size ≡ b.size → IsNamedAt s.blocks.items b m i
  named_at same = record {
    block = k;
    there = slice_get_read s.blocks.items (length s.blocks.items) i k refl f.inside read;
    number_is = ap number_of read ∙ f.number_is k;
    lives = named_found ∙ rw (eq-eqb k.size b.size same) refl;
  }

  pub named_other : (k.size ≡ b.size → ⊥) → live_named b m ≡ None
  named_other other = named_found ∙ rw (ne_eqb k.size b.size other) refl

-- ---- what is answered

pub life : (bs : List Block) (b : BlockName) (m : Memory) (r : Option ℕ) → MatchOption r (live_named b m ≡ None) (IsNamedAt bs b m) → is_some r ≡ is_live (block_named b m)
life bs b m None e = sym (life_live b m ∙ ap is_some e)
life bs b m (Some i) at = sym (life_live b m ∙ ap is_some at.lives)

-- what is read at the index is the block
pub same_block_at : (bs : List Block) (b : BlockName) (m : Memory) (i : ℕ) (k : Block) → (at : IsNamedAt bs b m i) → k ≡ get_or bs i k → k ≡ at.block
same_block_at bs b m i k at read = read ∙ get_or_from_slice_get bs i at.block k at.there

module _ (calls : List Opened) (b : BlockName) (m : Memory) (width offset : ℕ) (v : Value) where
  none_stored : takes_in width offset (live_named b m) ≡ false → store width (At b offset) v m ≡ None
  none_stored e = rw (takes_live b width offset m ∙ e) refl

  some_stored : (x : Value) → takes_in width offset (live_named b m) ≡ true → kept width v ≡ Some x → store width (At b offset) v m ≡ Some (block_changed b.number (written width offset x) m)
  some_stored x e k = rw (takes_live b width offset m ∙ e, k) refl

  undefined_store : (t : Store) → store width (At b offset) v m ≡ None → IsChanged calls (store width (At b offset) v m) t false
  undefined_store t e = subst (λ o. IsChanged calls o t false) (sym e) refl

  module _ (s t : Store) (h : Holds s calls m) (i : ℕ) (at : IsNamedAt s.blocks.items b m i) (k : Block) (read : k ≡ get_or s.blocks.items i k) where
    lives_here : live_named b m ≡ Some (block_of k)
    lives_here = at.lives ∙ ap (λ x. Some (block_of x)) (sym (same_block_at s.blocks.items b m i k at read))

    pub stored : (x : Value) (new : Block) (done : Bool) → kept width v ≡ Some x → k.fixed ≡ false → done ≡ list_any (is_at width offset) (block_of k).cells →
        (done ≡ true → block_of new ≡ written width offset x (block_of k)) →
        new.number ≡ k.number → t.blocks.items ≡ set s.blocks.items i new → t.made ≡ s.made → IsChanged calls (store width (At b offset) v m) t done
    stored x new false e free there is number blocks made =
        undefined_store t (none_stored (ap (takes_in width offset) lives_here ∙ rw free (sym there)))
    stored x new true e free there is number blocks made =
        let name : number_of new ≡ b.number = number ∙ ap number_of (same_block_at s.blocks.items b m i k at read) ∙ at.number_is in
        let goal : Holds t calls (block_changed (number_of new) (written width offset x) m) =
        changed s t calls m h i new k (written width offset x) (slice_get_within s.blocks.items i at.block at.there) blocks made (number ∙ ap number_of read) (λ y. refl)
        (is refl ∙ ap (λ y. written width offset x (block_of y)) read) in
        subst (λ o. IsChanged calls o t true) (sym (some_stored x (ap (takes_in width offset) lives_here ∙ rw free (sym there)) e))
        (refl, subst (λ n. Holds t calls (block_changed n (written width offset x) m)) name goal)

-- ---- clearing

pub cleared_listed : (s t : Store) (calls : List Opened) (m : Memory) → Holds s calls m → (b : BlockName) (i : ℕ) → IsFoundAt number_of s.blocks.items b.number i → (k new : Block) → k
    ≡ get_or s.blocks.items i k → block_of new ≡ zeroed (block_of k) →
    new.number ≡ k.number → t.blocks.items ≡ set s.blocks.items i new → t.made ≡ s.made → Holds t calls (cleared b m)
cleared_listed s t calls m h b i f k new read is number blocks made =
    let name : number_of new ≡ b.number = number ∙ ap number_of read ∙ f.number_is k in
    let goal : Holds t calls (block_changed (number_of new) zeroed m) = changed s t calls m h i new k zeroed f.inside blocks made (number ∙ ap number_of read) (λ y. refl)
    (is ∙ ap (λ y. zeroed (block_of y)) read) in
    subst (λ n. Holds t calls (block_changed n zeroed m)) name goal

pub cleared_absent : (s : Store) (calls : List Opened) (m : Memory) → Holds s calls m → (b : BlockName) → IsAbsent number_of s.blocks.items b.number → Holds s calls (cleared b m)
cleared_absent s calls m h b none = changed_dead s calls m b.number zeroed (λ y. refl) none h
