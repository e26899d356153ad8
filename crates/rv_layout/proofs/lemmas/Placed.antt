-- The sections of a program have the sizes that their addresses count.
use Rattle.std.proofs.Common.{◌≡◌, ℕ, ◌+◌, ◌-◌, ◌*◌, ◌≤◌, refl, sym, ap, ◌∙◌, subst, true, false, Bool, IsTrue, List, [], ◌∷◌, if◌then◌else◌, length, sum_by, Option, arith}
use Rattle.std.specs.List.{flat_map}
use Rattle.std.proofs.lemmas.Bool.{and_parts, leb-true}
use Rattle.std.proofs.lemmas.List.{length-append, length-take, length-drop, length-replicate}
use Rattle.std.proofs.lemmas.List.Sums.{sum_by-cons}
use Rattle.std.specs.Prelude.{◌&&◌}
use Rattle.elf_file.specs.Image.{next_page, text_at, stack_size, memory_limit}
use Rattle.rv_isa.specs.declared.instruction.Instr.{Instr}
use Rattle.g_graph.specs.declared.link.Link.{Link}
use Rattle.g_graph.specs.Plain.{PlainDelta}
use Rattle.g_graph.specs.WellFormed.{all_of}
use Rattle.rv_layout.specs.declared.item.Item.{Item}
use Rattle.rv_layout.specs.declared.item.Item.TheVariants.{Word, Mark, Jump, Call, Stub, Address}
use Rattle.rv_layout.specs.Sequences.{bytes_of}
use Rattle.rv_layout.specs.Items.{item_size, items_size, label_at}
use Rattle.rv_layout.specs.Globals.{global_room, is_where, globals_where, with_word, with_links, global_bytes}
use Rattle.rv_layout.specs.Layout.{Addresses, functions_at, item_code, items_code, function_code, functions_code, text_of, addresses_of, fixed_address, data_address, stack_address, laid_out}
use Rattle.rv_layout.specs.Conditions.{link_has_global, link_is_within, links_are_apart, global_fits}
use Rattle.rv_layout.specs.Laws.{LaidIsPlaced}

-- ---- text

pub length-bytes_of : (code : List Instr) → length (bytes_of code) ≡ 4 * length code
unfolding bytes_of
length-bytes_of [] = refl
length-bytes_of (i ∷ is) = omega (arith, length-bytes_of is)

length-item_code : (a : Addresses) (labels : ℕ → Option ℕ) (at : ℕ) (i : Item) → 4 * length (item_code a labels at i) ≡ item_size i
length-item_code a labels at (Word i) = refl
length-item_code a labels at (Mark l) = refl
length-item_code a labels at (Jump l) = refl
length-item_code a labels at (Call f) = refl
length-item_code a labels at (Stub s) = refl
length-item_code a labels at (Address r k) = refl

length-items_code : (a : Addresses) (labels : ℕ → Option ℕ) (at : ℕ) (is : List Item) → 4 * length (items_code a labels at is) ≡ items_size is
length-items_code a labels at [] = refl
length-items_code a labels at (i ∷ is) =
    omega (
      arith,
      length-append (item_code a labels at i) (items_code a labels (at + item_size i) is),
      length-item_code a labels at i,
      length-items_code a labels (at + item_size i) is,
      sum_by-cons item_size i is,
    )

length-functions_code : (a : Addresses) (at : ℕ) (fs : List (List Item)) → 4 * length (functions_code a at fs) ≡ sum_by items_size fs
length-functions_code a at [] = refl
length-functions_code a at (f ∷ fs) =
    omega (
      arith,
      length-append (function_code a at f) (functions_code a (at + items_size f) fs),
      length-items_code a (λ l. label_at l at f) at f,
      length-functions_code a (at + items_size f) fs,
      sum_by-cons items_size f fs,
    )

pub length-text : (a : Addresses) (fs : List (List Item)) (main : ℕ) → text_at + length (bytes_of (text_of a fs main)) ≡ functions_at + sum_by items_size fs
length-text a fs main = omega (arith, length-bytes_of (text_of a fs main), length-functions_code a functions_at fs)

-- ---- globals

length-with_word : (at w : ℕ) (bytes : List ℕ) → at + 4 ≤ length bytes → length (with_word at w bytes) ≡ length bytes
length-with_word at w bytes within =
    simp (length-append, length-take, length-drop) (omega arith)

length-with_links : (globals : List ℕ) (ls : List Link) (bytes : List ℕ) → IsTrue (all_of (link_is_within (length bytes)) ls)
    → length (with_links globals ls bytes) ≡ length bytes
length-with_links globals [] bytes h = refl
length-with_links globals (l ∷ ls) bytes h =
    let parts = and_parts (link_is_within (length bytes) l) (all_of (link_is_within (length bytes)) ls) h in
    let same : length (with_word l.at _ bytes) ≡ length bytes = length-with_word l.at _ bytes (leb-true _ _ parts.0) in
    length-with_links globals ls (with_word l.at _ bytes) (subst (λ n. IsTrue (all_of (link_is_within n) ls)) (sym same) parts.1) ∙ same

length-global_bytes : (globals : List ℕ) (n : ℕ) (d : PlainDelta) → IsTrue (global_fits n d) → length (global_bytes globals d) ≡ global_room d
length-global_bytes globals n d h =
    let parts = and_parts (all_of (link_has_global n) d.links && all_of (link_is_within (length d.bytes)) d.links) (links_are_apart d.links) h in
    let within = (and_parts (all_of (link_has_global n) d.links) (all_of (link_is_within (length d.bytes)) d.links) parts.0).1 in
    let linked = length-with_links globals d.links d.bytes within in
    simp (length-append, length-replicate) (omega (arith, linked))

length-globals : (globals : List ℕ) (n : ℕ) (fixed : Bool) (ds : List PlainDelta) → IsTrue (all_of (global_fits n) ds)
    → length (flat_map (global_bytes globals) (globals_where fixed ds)) ≡ sum_by global_room (globals_where fixed ds)
length-globals globals n fixed [] h = refl
length-globals globals n fixed (d ∷ ds) h =
    let parts = and_parts (global_fits n d) (all_of (global_fits n) ds) h in
    let rest = length-globals globals n fixed ds parts.1 in
    let chosen : Bool → List PlainDelta = λ b. if b then d ∷ globals_where fixed ds else globals_where fixed ds in
    elim (is_where fixed d) as (λ b. length (flat_map (global_bytes globals) (chosen b)) ≡ sum_by global_room (chosen b)) [
      | true ↦
          omega (
            arith,
            length-append (global_bytes globals d) (flat_map (global_bytes globals) (globals_where fixed ds)),
            length-global_bytes globals n d parts.0,
            rest,
            sum_by-cons global_room d (globals_where fixed ds),
          )
      | false ↦ rest
    ]

-- ---- sections

next_page-le : (n : ℕ) → n ≤ next_page n
next_page-le n = omega arith

sizes_fit : (t f o s r fixed data_start stack : ℕ) → text_at + t ≡ functions_at + s → f ≡ r → functions_at + s ≤ fixed → fixed + r ≤ data_start → data_start + o ≤ stack
    → stack + stack_size ≤ text_at + memory_limit → t + f + (stack + stack_size - data_start) ≤ memory_limit
sizes_fit t f o s r fixed data_start stack text same first second third limit = omega arith

pub laid_is_placed : LaidIsPlaced
laid_is_placed fs ds main can limit =
    let a = addresses_of fs ds in
    let text = length-text a fs main in
    let fixed = length-globals a.globals (length ds) true ds can.globals_fit in
    let other = length-globals a.globals (length ds) false ds can.globals_fit in
    let end : data_address fs ds + 8 + sum_by global_room (globals_where false ds) ≡ data_address fs ds + length (laid_out fs ds main).globals = omega arith in
    let after : data_address fs ds + 8 + sum_by global_room (globals_where false ds) ≡ data_address fs ds + (8 + sum_by global_room (globals_where false ds)) =
    omega arith in
    record {
      fixed_place = ap next_page (sym text);
      globals_place = ap (λ n. next_page (fixed_address fs + n)) (sym fixed);
      stack_place = ap next_page end;
      sizes =
          sizes_fit _ _ (8 + sum_by global_room (globals_where false ds)) (sum_by items_size fs) (sum_by global_room (globals_where true ds))
          (fixed_address fs) (data_address fs ds) (stack_address fs ds) text fixed
          (next_page-le (functions_at + sum_by items_size fs)) (next_page-le (fixed_address fs + sum_by global_room (globals_where true ds)))
          (subst (λ n. n ≤ stack_address fs ds) after (next_page-le (data_address fs ds + 8 + sum_by global_room (globals_where false ds)))) limit;
    }
