-- Globals in memory, once the image of a program is loaded: the bytes of each, and what is allowed there.
use Rattle.std.proofs.Common.{◌≡◌, ◌≢◌, ◌⊎◌, ℕ, suc, ◌+◌, ◌-◌, ◌%◌, ◌<◌, ◌≤◌, if◌then◌else◌, Bool, true, false, IsTrue, List, [], ◌∷◌, ◌++◌, length, take, replicate, slice_get, slice_index, Some, refl, ap, ◌∙◌, arith, inl, inr}
use Rattle.std.specs.List.{sum_by, flat_map}
use Rattle.std.proofs.lemmas.Bool.{and_parts, cases_order}
use Rattle.std.proofs.lemmas.List.{length-append, length-replicate, get_or-append-add}
use Rattle.std.proofs.lemmas.List.Sums.{sum_by-cons}
use Rattle.std.specs.Prelude.{◌&&◌}
use Rattle.elf_file.specs.Laws.{executable_for}
use Rattle.elf_file.specs.Segments.{AreSound}
use Rattle.g_graph.specs.Plain.{PlainDelta}
use Rattle.g_graph.specs.WellFormed.{all_of}
use Rattle.g_graph.proofs.lemmas.Elements.{get-all}
use Rattle.rv_machine.specs.Memory.{memory_of, flags_of, has_flag, to_read, to_write}
use Rattle.rv_layout.specs.declared.item.Item.{Item}
use Rattle.rv_layout.specs.Conditions.{CanLayOut, link_has_global, link_is_within, links_are_apart, global_fits}
use Rattle.rv_layout.specs.Globals.{global_room, is_where, globals_where, globals_from, with_links, global_bytes}
use Rattle.rv_layout.specs.Layout.{fixed_address, data_address, stack_address, laid_out}
use Rattle.s_select_keeps.proofs.Addresses.{rooms_where, offset_of, rooms_are, address_is, offset_is_even, ends_within, ends_before, byte_is}
use Rattle.s_select_keeps.proofs.Bytes.{AreWithin, length_with_links}
use Rattle.s_select_keeps.proofs.Segments.{data_there, fixed_there}

-- what a global that can be laid out has
pub record Links (d : PlainDelta) : Type 0 where
  pub within : AreWithin (length d.bytes) d.links
  pub apart : IsTrue (links_are_apart d.links)

links_of : (globals : ℕ) (d : PlainDelta) → global_fits globals d ≡ true → Links d
links_of globals d fit =
    let all = and_parts (all_of (link_has_global globals) d.links && all_of (link_is_within (length d.bytes)) d.links) (links_are_apart d.links) fit in
    let within = and_parts (all_of (link_has_global globals) d.links) (all_of (link_is_within (length d.bytes)) d.links) all.0 in
    record { within = within.1; apart = all.1 }

length_global_bytes : (globals : List ℕ) (d : PlainDelta) → Links d → length (global_bytes globals d) ≡ global_room d
length_global_bytes globals d links =
    let linked = length_with_links globals d.links d.bytes links.within in
    let sum = length-append (with_links globals d.links d.bytes) (replicate (global_room d - length d.bytes) 0) in
    let zero_byte : ℕ = 0 in
    let zeros = length-replicate (global_room d - length d.bytes) zero_byte in
    omega (arith, linked, sum, zeros)

-- the bytes of all of a kind
length_of_all : (globals : List ℕ) (fixed : Bool) (ds : List PlainDelta) → ((i : ℕ) (x : PlainDelta) → slice_get ds i ≡ Some x → length (global_bytes globals x) ≡ global_room x)
    → length (flat_map (global_bytes globals) (globals_where fixed ds)) ≡ sum_by global_room (globals_where fixed ds)
length_of_all globals fixed [] sizes = refl
length_of_all globals fixed (d ∷ ds) sizes = by (is_where fixed d) (length_of_all globals fixed ds (λ i x there. sizes (suc i) x there))
  where
    by : (test : Bool) → length (flat_map (global_bytes globals) (globals_where fixed ds)) ≡ sum_by global_room (globals_where fixed ds)
        → length (flat_map (global_bytes globals) (if test then d ∷ globals_where fixed ds else globals_where fixed ds))
        ≡ sum_by global_room (if test then d ∷ globals_where fixed ds else globals_where fixed ds)
    by true same =
        let here = sizes 0 d refl in
        let sum = length-append (global_bytes globals d) (flat_map (global_bytes globals) (globals_where fixed ds)) in
        let rooms = sum_by-cons global_room d (globals_where fixed ds) in
        omega (arith, same, here, sum, rooms)
    by false same = same

module _ (fs : List (List Item)) (ds : List PlainDelta) (main : ℕ) (can : CanLayOut fs ds main) (sound : AreSound (executable_for (laid_out fs ds main)).segments) where
  abbrev globals_of : List ℕ
  globals_of = globals_from (fixed_address fs) (data_address fs ds + 8) ds

  -- the address of the first global of a kind
  abbrev first_address : Bool → ℕ
  first_address fixed = if fixed then fixed_address fs else data_address fs ds + 8

  -- what stands before the globals that are not fixed
  abbrev buffer : List ℕ
  buffer = replicate 8 0

  abbrev bytes_where : Bool → List ℕ
  bytes_where fixed = flat_map (global_bytes globals_of) (globals_where fixed ds)

  pub links_at : (k : ℕ) (d : PlainDelta) → slice_get ds k ≡ Some d → Links d
  links_at k d there = links_of (length ds) d (get-all (global_fits (length ds)) ds k d can.globals_fit there)

  sizes : (k : ℕ) (d : PlainDelta) → slice_get ds k ≡ Some d → length (global_bytes globals_of d) ≡ global_room d
  sizes k d there = length_global_bytes globals_of d (links_at k d there)

  all-sizes : (fixed : Bool) → length (bytes_where fixed) ≡ rooms_where fixed ds
  all-sizes fixed = length_of_all globals_of fixed ds sizes ∙ rooms_are fixed ds

  fixed_end : fixed_address fs + rooms_where true ds ≤ data_address fs ds
  fixed_end = let same = rooms_are true ds in omega (arith, same)

  pub other_end : data_address fs ds + 8 + rooms_where false ds ≤ stack_address fs ds
  other_end = let same = rooms_are false ds in omega (arith, same)

  -- what memory has at a byte of the globals of a kind
  pub record ByteOf (fixed : Bool) (n : ℕ) : Type 0 where
    pub is : memory_of (executable_for (laid_out fs ds main)).segments (first_address fixed + n) ≡ slice_index (bytes_where fixed) n
    pub readable : has_flag (flags_of (executable_for (laid_out fs ds main)).segments (first_address fixed + n)) to_read ≡ true
    pub writable : fixed ≡ false → has_flag (flags_of (executable_for (laid_out fs ds main)).segments (first_address fixed + n)) to_write ≡ true

  byte-of : (fixed : Bool) (n : ℕ) → n < rooms_where fixed ds → ByteOf fixed n
  byte-of true n below =
      let size = all-sizes true in
      let has = fixed_there (laid_out fs ds main) (fixed_address fs + n) sound (omega arith) (omega (arith, size, below)) in
      let back : fixed_address fs + n - fixed_address fs ≡ n = omega arith in
      record {
        is = has.0 ∙ ap (slice_index (bytes_where true)) back;
        readable = ap (λ f. has_flag f to_read) has.1;
        writable = λ no. absurd cc;
      }
  byte-of false n below =
      let end = other_end in
      let has = data_there (laid_out fs ds main) (data_address fs ds + 8 + n) sound (omega arith) (omega (arith, end, below)) in
      let back : data_address fs ds + 8 + n - data_address fs ds ≡ length buffer + n = omega arith in
      record {
        is = has.0 ∙ ap (slice_index (buffer ++ bytes_where false)) back ∙ get_or-append-add buffer (bytes_where false) n 0;
        readable = ap (λ f. has_flag f to_read) has.1;
        writable = λ no. ap (λ f. has_flag f to_write) has.1;
      }

  -- a global in memory
  pub record GlobalAt (k : ℕ) (d : PlainDelta) : Type 0 where
    pub address : slice_index globals_of k ≡ first_address d.fixed + offset_of ds k d
    pub byte : (j : ℕ) → j < global_room d → memory_of (executable_for (laid_out fs ds main)).segments (slice_index globals_of k + j) ≡ slice_index (global_bytes globals_of d) j
    pub readable : (j : ℕ) → j < global_room d → has_flag (flags_of (executable_for (laid_out fs ds main)).segments (slice_index globals_of k + j)) to_read ≡ true
    pub writable : d.fixed ≡ false → (j : ℕ) → j < global_room d → has_flag (flags_of (executable_for (laid_out fs ds main)).segments (slice_index globals_of k + j)) to_write ≡ true
    pub aligned : slice_index globals_of k % 4 ≡ 0
    pub low : 0 < slice_index globals_of k
    pub high : slice_index globals_of k + global_room d ≤ stack_address fs ds
    pub off_buffer : (slice_index globals_of k + global_room d ≤ data_address fs ds) ⊎ (data_address fs ds + 8 ≤ slice_index globals_of k)

  pub global_at : (k : ℕ) (d : PlainDelta) → slice_get ds k ≡ Some d → GlobalAt k d
  global_at k d there = record {
    address = at;
    byte = λ j below. ap mem (place j) ∙ (byte-of d.fixed (offset_of ds k d + j) (inside j below)).is ∙ byte_is (global_bytes globals_of) ds k d j sizes there below;
    readable = λ j below. ap (λ x. has_flag (flags x) to_read) (place j) ∙ (byte-of d.fixed (offset_of ds k d + j) (inside j below)).readable;
    writable = λ free j below. ap (λ x. has_flag (flags x) to_write) (place j) ∙ (byte-of d.fixed (offset_of ds k d + j) (inside j below)).writable free;
    aligned = even d.fixed at (offset_is_even d.fixed (take k ds));
    low = above d.fixed at;
    high = before d.fixed at within;
    off_buffer = side d.fixed at within;
  }
    where
      mem : ℕ → ℕ
      mem = memory_of (executable_for (laid_out fs ds main)).segments

      flags : ℕ → ℕ
      flags = flags_of (executable_for (laid_out fs ds main)).segments

      at : slice_index globals_of k ≡ first_address d.fixed + offset_of ds k d
      at = address_is (fixed_address fs) (data_address fs ds + 8) ds k d there

      within : offset_of ds k d + global_room d ≤ rooms_where d.fixed ds
      within = ends_within ds k d there

      place : (j : ℕ) → slice_index globals_of k + j ≡ first_address d.fixed + (offset_of ds k d + j)
      place j = let same = at in omega (arith, same)

      inside : (j : ℕ) → j < global_room d → offset_of ds k d + j < rooms_where d.fixed ds
      inside j below = let all = within in omega (arith, all, below)

      even : (b : Bool) → slice_index globals_of k ≡ first_address b + offset_of ds k d → offset_of ds k d % 4 ≡ 0 → slice_index globals_of k % 4 ≡ 0
      even true same rest = omega (arith, same, rest)
      even false same rest = omega (arith, same, rest)

      above : (b : Bool) → slice_index globals_of k ≡ first_address b + offset_of ds k d → 0 < slice_index globals_of k
      above true same = omega (arith, same)
      above false same = omega (arith, same)

      before : (b : Bool) → slice_index globals_of k ≡ first_address b + offset_of ds k d → offset_of ds k d + global_room d ≤ rooms_where b ds
          → slice_index globals_of k + global_room d ≤ stack_address fs ds
      before true same all = let end = fixed_end in let last = other_end in omega (arith, same, all, end, last)
      before false same all = let last = other_end in omega (arith, same, all, last)

      side : (b : Bool) → slice_index globals_of k ≡ first_address b + offset_of ds k d → offset_of ds k d + global_room d ≤ rooms_where b ds
          → (slice_index globals_of k + global_room d ≤ data_address fs ds) ⊎ (data_address fs ds + 8 ≤ slice_index globals_of k)
      side true same all = let end = fixed_end in inl (omega (arith, same, all, end))
      side false same all = inr (omega (arith, same))

  -- globals have no byte in common
  abbrev pub Disjoint : (j k : ℕ) (d e : PlainDelta) → Type 0
  Disjoint j k d e = (slice_index globals_of j + global_room d ≤ slice_index globals_of k) ⊎ (slice_index globals_of k + global_room e ≤ slice_index globals_of j)

  ordered : (j k : ℕ) (d e : PlainDelta) → slice_get ds j ≡ Some d → slice_get ds k ≡ Some e → j < k → Disjoint j k d e
  ordered j k d e there there' less =
      by d.fixed e.fixed (global_at j d there).address (global_at k e there').address (ends_before ds j k d there less) (ends_within ds j d there) (ends_within ds k e there')
    where
      by : (b c : Bool) → slice_index globals_of j ≡ first_address b + offset_of ds j d → slice_index globals_of k ≡ first_address c + rooms_where c (take k ds)
          → offset_of ds j d + global_room d ≤ rooms_where b (take k ds) → offset_of ds j d + global_room d ≤ rooms_where b ds →
          rooms_where c (take k ds) + global_room e ≤ rooms_where c ds → Disjoint j k d e
      by true true at at' next end end' = inl (omega (arith, at, at', next))
      by true false at at' next end end' = let last = fixed_end in inl (omega (arith, at, at', end, last))
      by false true at at' next end end' = let last = fixed_end in inr (omega (arith, at, at', end', last))
      by false false at at' next end end' = inl (omega (arith, at, at', next))

  pub globals_are_apart : (j k : ℕ) (d e : PlainDelta) → slice_get ds j ≡ Some d → slice_get ds k ≡ Some e → j ≢ k → Disjoint j k d e
  globals_are_apart j k d e there there' differ =
      elim (cases_order j k) [
        | inl same ↦ absurd (differ same)
        | inr other ↦ elim other [
          | inl less ↦ ordered j k d e there there' less
          | inr more ↦ elim (ordered k j e d there' there more) [
            | inl x ↦ inr x
            | inr x ↦ inl x
          ]
        ]
      ]
