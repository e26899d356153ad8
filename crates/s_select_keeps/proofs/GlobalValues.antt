-- The values of the leaves of globals, shown in the bytes of the loaded image.
use Rattle.std.proofs.Common.{◌≡◌, ◌≢◌, ◌⊎◌, ℕ, zero, suc, ◌+◌, ◌*◌, ◌^◌, ◌<◌, ◌≤◌, nat_lt, true, List, [], ◌∷◌, length, take, drop, slice_get, slice_index, Option, Some, None, refl, sym, ap, ◌∙◌, subst, arith, inl, inr, lit<, length-drop}
use Rattle.std.proofs.lemmas.Bool.{and_parts, ltb-true}
use Rattle.std.proofs.lemmas.List.{get_or-drop}
use Rattle.elf_file.specs.Header.{word}
use Rattle.elf_file.specs.Laws.{executable_for}
use Rattle.elf_file.specs.Segments.{AreSound}
use Rattle.val_core.specs.declared.leaf.Leaf.{Leaf}
use Rattle.val_core.specs.declared.values.BlockName.{BlockName}
use Rattle.val_core.specs.declared.values.Value.{Value}
use Rattle.val_core.specs.declared.values.Value.TheVariants.{At}
use Rattle.val_core.specs.Memory.{Block, value_at, load}
use Rattle.g_graph.specs.declared.link.Link.{Link}
use Rattle.g_graph.specs.Plain.{PlainDelta}
use Rattle.g_graph.specs.WellFormed.{all_of, some_of}
use Rattle.g_mean.specs.Calls.{global_of, little_endian, link_at, leaf_value, first_memory}
use Rattle.rv_machine.specs.Memory.{number, load_bytes, memory_of, flags_of, IsWidth}
use Rattle.rv_machine.proofs.lemmas.Texts.{bytes_are_loaded, word_bytes_make_word}
use Rattle.rv_layout.specs.declared.item.Item.{Item}
use Rattle.rv_layout.specs.Conditions.{CanLayOut}
use Rattle.rv_layout.specs.Globals.{with_links}
use Rattle.rv_layout.specs.Layout.{addresses_of, laid_out}
use Rattle.s_select_keeps.specs.Relation.{Bases, Shows, ShowsMemory}
use Rattle.s_select_keeps.proofs.lemmas.Blocks.{value-there, leaf-of-value}
use Rattle.s_select_keeps.specs.Globals.{bases_of, AreGlobals}
use Rattle.s_select_keeps.proofs.Bytes.{IsUnlinkedBy, unlinked_byte, linked_byte, global_byte}
use Rattle.s_select_keeps.proofs.Leaves.{is_leaf, IsWithin, leaf_within, leaves_are_separate, value_is, link_there, links_elsewhere}
use Rattle.s_select_keeps.proofs.Loaded.{links_at, global_at}
use Rattle.s_select_keeps.proofs.Blocks.{of_global, has_leaf_of, globals_are_laid_out, global_address}

-- ---- numbers

number_is : (bytes : List ℕ) → number bytes ≡ little_endian bytes
unfolding number
number_is [] = refl
number_is (b ∷ bs) = ap (λ n. b + 256 * n) (number_is bs)

-- ---- words

byte_parts : (b : ℕ) (bs : List ℕ) → all_of (λ x. nat_lt x 256) (b ∷ bs) ≡ true → (b < 256) × (all_of (λ x. nat_lt x 256) bs ≡ true)
byte_parts b bs fit = let two = and_parts (nat_lt b 256) (all_of (λ x. nat_lt x 256) bs) fit in (ltb-true b 256 two.0, two.1)

below_0 : (bytes : List ℕ) → little_endian (take 0 bytes) < 1
below_0 bytes = omega arith

below-next : (w p q : ℕ) → 0 < q → 256 * p ≤ q → ((bytes : List ℕ) → all_of (λ b. nat_lt b 256) bytes ≡ true → little_endian (take w bytes) < p) → (bytes : List ℕ)
    → all_of (λ b. nat_lt b 256) bytes ≡ true → little_endian (take (suc w) bytes) < q
below-next w p q some room small [] fit = some
below-next w p q some room small (b ∷ bs) fit =
    let two = byte_parts b bs fit in
    let rest = small bs two.1 in
    let low = two.0 in
    omega (arith, rest, low, room)

below_1 : (bytes : List ℕ) → all_of (λ b. nat_lt b 256) bytes ≡ true → little_endian (take 1 bytes) < 256
below_1 = below-next 0 1 256 (lit< tt) (omega arith) (λ bytes fit. below_0 bytes)

below_2 : (bytes : List ℕ) → all_of (λ b. nat_lt b 256) bytes ≡ true → little_endian (take 2 bytes) < 65536
below_2 = below-next 1 256 65536 (lit< tt) (omega arith) below_1

below_4 : (bytes : List ℕ) → all_of (λ b. nat_lt b 256) bytes ≡ true → little_endian (take 4 bytes) < 2 ^ 32
below_4 = below-next 3 16777216 (2 ^ 32) (lit< tt) (omega arith) (below-next 2 65536 16777216 (lit< tt) (omega arith) below_2)

-- the number of a leaf is a word
leaf_is_word : (bytes : List ℕ) (w : ℕ) → IsWidth w → all_of (λ b. nat_lt b 256) bytes ≡ true → little_endian (take w bytes) < 2 ^ 32
leaf_is_word bytes w (inl one) fit = subst (λ v. little_endian (take v bytes) < 2 ^ 32) (sym one) (let small = below_1 bytes fit in omega (arith, small))
leaf_is_word bytes w (inr (inl two)) fit = subst (λ v. little_endian (take v bytes) < 2 ^ 32) (sym two) (let small = below_2 bytes fit in omega (arith, small))
leaf_is_word bytes w (inr (inr four)) fit = subst (λ v. little_endian (take v bytes) < 2 ^ 32) (sym four) (below_4 bytes fit)

bytes_at : (bytes : List ℕ) (o : ℕ) → all_of (λ b. nat_lt b 256) bytes ≡ true → all_of (λ b. nat_lt b 256) (drop o bytes) ≡ true
bytes_at bytes zero fit = fit
bytes_at [] (suc o) fit = refl
bytes_at (b ∷ bs) (suc o) fit = bytes_at bs o (and_parts (nat_lt b 256) (all_of (λ x. nat_lt x 256) bs) fit).1

-- two leaves at one offset have one width
same-leaf : (w o : ℕ) → IsWidth w → ((w ≡ 4) × (o ≡ o)) ⊎ (o + w ≤ o) ⊎ (o + 4 ≤ o) → w ≡ 4
same-leaf w o width (inl same) = same.0
same-leaf w o (inl one) (inr (inl before)) = absurd (omega (arith, one, before))
same-leaf w o (inr (inl two)) (inr (inl before)) = absurd (omega (arith, two, before))
same-leaf w o (inr (inr four)) (inr (inl before)) = four
same-leaf w o width (inr (inr after)) = absurd (omega (arith, after))

module _ (fs : List (List Item)) (ds : List PlainDelta) (main : ℕ) (can : CanLayOut fs ds main) (sound : AreSound (executable_for (laid_out fs ds main)).segments) (globals : AreGlobals ds) where
  abbrev mem : ℕ → ℕ
  mem = memory_of (executable_for (laid_out fs ds main)).segments

  abbrev addresses : List ℕ
  addresses = (addresses_of fs ds).globals

  abbrev bases : Bases
  bases = bases_of (addresses_of fs ds)

  -- a byte of a global in memory is one of its bytes with its links
  byte_there : (n : ℕ) (d : PlainDelta) (j : ℕ) → slice_get ds n ≡ Some d → j < length d.bytes → mem (bases n + j) ≡ slice_index (with_links addresses d.links d.bytes) j
  byte_there n d j there low =
      (global_at fs ds main can sound n d there).byte j (omega (arith, low))
      ∙ global_byte addresses d j (links_at fs ds main can sound n d there).within low

  -- where a link stands, the address that it names
  address_loaded : (n : ℕ) (d : PlainDelta) (o k : ℕ) → slice_get ds n ≡ Some d → o + 4 ≤ length d.bytes → k < length ds → link_at o d.links ≡ Some k → load_bytes mem (bases n + o) 4 ≡ bases k
  address_loaded n d o k there within named found =
      bytes_are_loaded mem (bases n + o) 4 (word (bases k)) (omega arith) byte
      ∙ word_bytes_make_word (bases k) (global_address fs ds main can sound k named).0
    where
      byte : (j : ℕ) → j < 4 → mem (bases n + o + j) ≡ slice_index (word (bases k)) j
      byte j low =
          let links = links_at fs ds main can sound n d there in
          let place : bases n + o + j ≡ bases n + (o + j) = omega arith in
          ap mem place
          ∙ byte_there n d (o + j) there (omega (arith, low, within))
          ∙ linked_byte addresses d.links d.bytes o k j links.within links.apart found low

  -- elsewhere, the number that the bytes of the leaf make
  number_loaded : (n : ℕ) (d : PlainDelta) (w o : ℕ) → slice_get ds n ≡ Some d → IsWithin (length d.bytes) 0 w o → some_of (is_leaf w o) d.leaves ≡ true → link_at o d.links ≡ None
      → load_bytes mem (bases n + o) w ≡ little_endian (take w (drop o d.bytes))
  number_loaded n d w o there within has none =
      bytes_are_loaded mem (bases n + o) w (drop o d.bytes) (let to = within.to in let size = length-drop o d.bytes in omega (arith, to, size)) byte
      ∙ number_is (take w (drop o d.bytes))
    where
      unlinked : (j : ℕ) → j < w → (i : ℕ) (l : Link) → slice_get d.links i ≡ Some l → IsUnlinkedBy (o + j) l
      unlinked j low i l at =
          let other = links_elsewhere (length ds) d.leaves d.links o i l (globals n d there).links none at in
          by other.1 (leaves_are_separate (length d.bytes) 0 w o 4 l.at d.leaves (globals n d there).leaves has other.0)
        where
          by : l.at ≢ o → ((w ≡ 4) × (o ≡ l.at)) ⊎ (o + w ≤ l.at) ⊎ (l.at + 4 ≤ o) → IsUnlinkedBy (o + j) l
          by differ (inl same) = absurd (differ (sym same.1))
          by differ (inr (inl before)) = inl (omega (arith, before, low))
          by differ (inr (inr after)) = inr (omega (arith, after))

      byte : (j : ℕ) → j < w → mem (bases n + o + j) ≡ slice_index (drop o d.bytes) j
      byte j low =
          let to = within.to in
          let place : bases n + o + j ≡ bases n + (o + j) = omega arith in
          ap mem place
          ∙ byte_there n d (o + j) there (omega (arith, low, to))
          ∙ unlinked_byte addresses d.links d.bytes (o + j) (links_at fs ds main can sound n d there).within (unlinked j low)
          ∙ sym (get_or-drop o d.bytes j 0)

  leaf_is_shown : (n : ℕ) (d : PlainDelta) (leaf : Leaf) → slice_get ds n ≡ Some d → some_of (is_leaf leaf.width leaf.offset) d.leaves ≡ true → (found : Option ℕ) → link_at leaf.offset d.links ≡ found
      → Shows bases (leaf_value (global_of ds) d.bytes leaf found) (load_bytes mem (bases n + leaf.offset) leaf.width)
  leaf_is_shown n d leaf there has None none =
      let within = leaf_within (length d.bytes) 0 leaf.width leaf.offset d.leaves (globals n d there).leaves has in (
        number_loaded n d leaf.width leaf.offset there within has none,
        leaf_is_word (drop leaf.offset d.bytes) leaf.width within.width_is (bytes_at d.bytes leaf.offset (globals n d there).bytes),
      )
  leaf_is_shown n d leaf there has (Some k) found =
      let link = link_there (length ds) d.leaves d.links leaf.offset k (globals n d there).links found in
      let four = leaf_within (length d.bytes) 0 4 leaf.offset d.leaves (globals n d there).leaves link.0 in
      let within = leaf_within (length d.bytes) 0 leaf.width leaf.offset d.leaves (globals n d there).leaves has in
      let wide : leaf.width ≡ 4 = same-leaf leaf.width leaf.offset within.width_is
      (leaves_are_separate (length d.bytes) 0 leaf.width leaf.offset 4 leaf.offset d.leaves (globals n d there).leaves has link.0) in
      let loaded = address_loaded n d leaf.offset k there four.to link.1 found in
      subst (Shows bases (global_of ds k)) (sym loaded ∙ ap (load_bytes mem (bases n + leaf.offset)) (sym wide)) (global_address fs ds main can sound k link.1).1

  -- each value that is loaded is shown
  value_is_shown : (width offset : ℕ) (b : BlockName) (v : Value) → load width (At b offset) (first_memory ds) ≡ Some v → Shows bases v (load_bytes mem (bases b.number + offset) width)
  value_is_shown w o b v loaded =
      let there = value-there w o b (first_memory ds) v loaded in
      let of = of_global fs ds main can sound b.number there.block there.lives in
      let has = has_leaf_of fs ds main can sound b.number w o there.block of (leaf-of-value w o there.block.cells v there.has) in
      let is = value_is (global_of ds) of.delta w o v of.delta.leaves (ap (λ (k : Block). value_at w o k.cells) of.is ∙ there.has) in
      let leaf : some_of (is_leaf is.leaf.width is.leaf.offset) of.delta.leaves ≡ true =
      subst (λ x. some_of (is_leaf is.leaf.width x) of.delta.leaves ≡ true) (sym is.offset) (subst (λ x. some_of (is_leaf x o) of.delta.leaves ≡ true) (sym is.width) has) in
      let shown = leaf_is_shown b.number of.delta is.leaf of.there leaf (link_at is.leaf.offset of.delta.links) refl in
      subst (λ x. Shows bases x (load_bytes mem (bases b.number + o) w)) is.value
      (subst (λ x. Shows bases (leaf_value (global_of ds) of.delta.bytes is.leaf (link_at is.leaf.offset of.delta.links)) (load_bytes mem (bases b.number + x) w)) is.offset
      (subst (λ x. Shows bases (leaf_value (global_of ds) of.delta.bytes is.leaf (link_at is.leaf.offset of.delta.links)) (load_bytes mem (bases b.number + is.leaf.offset) x)) is.width shown))

  pub globals_show_memory : ShowsMemory (flags_of (executable_for (laid_out fs ds main)).segments) bases (first_memory ds) mem
  globals_show_memory = record { laid = globals_are_laid_out fs ds main can sound globals; values = value_is_shown }
