-- The blocks of shapes.
use Rattle.std.proofs.Common.{◌≡◌, ℕ, zero, suc, ◌+◌, ◌<◌, ◌++◌, true, false, List, [], ◌∷◌, length, take, get_or, map, refl, sym, ap, ◌∙◌, arith, append_assoc, length-append}
use Rattle.std.proofs.lemmas.List.{take_more, map-append}
use Rattle.val_core.specs.Memory as mem
use Rattle.val_core.specs.Memory.{Memory, new_block}
use Rattle.val_core.specs.Objects.{opened, word_of}
use Rattle.c_interp_store.specs.declared.cell.Cell.{Cell}
use Rattle.c_interp_store.specs.declared.shape.Shape.{Shape}
use Rattle.c_interp_store.specs.Cells.{cells_of, blank_cell}
use Rattle.c_interp_store.specs.Blocks.{shape_of, shapes_of, whole_block}
use Rattle.c_interp_store.proofs.Cells.{blanks}

pub opened_length : (m : Memory) (ss : List Shape) (i : ℕ) → i < length ss → length m + i ≡ length (m ++ opened (shapes_of (take i ss)))
opened_length m ss i lt = sym (length-append m (opened (shapes_of (take i ss))) ∙ ap (λ n. length m + n) (count ss i lt))
  where
    count : (ss : List Shape) (i : ℕ) → i < length ss → length (opened (shapes_of (take i ss))) ≡ i
    count [] i lt = absurd (omega arith)
    count (s ∷ ss) zero lt = refl
    count (s ∷ ss) (suc i) lt = ap suc (count ss i (omega arith))

-- one more block is opened, with cells of its shape
pub opened_next : (m : Memory) (ss : List Shape) (i : ℕ) (s : Shape) (cs : List Cell) → i < length ss → s ≡ get_or ss i s → cs ≡ map blank_cell s.leaves.items →
    (m ++ opened (shapes_of (take i ss))) ++ whole_block (word_of s.size) false cs ∷ [] ≡ m ++ opened (shapes_of (take (i + 1) ss))
opened_next m ss i s cs lt read is =
    let with_cells : List mem.Cell → mem.Block = λ xs. record { size = word_of s.size; cells = xs; live = true; fixed = false } in
    let block : whole_block (word_of s.size) false cs ≡ new_block (word_of s.size) s.leaves.items = ap with_cells (ap cells_of is ∙ blanks s.leaves.items) in
    let more : opened (shapes_of (take (i + 1) ss)) ≡ opened (shapes_of (take i ss)) ++ new_block (word_of s.size) s.leaves.items ∷ [] =
    ap (λ xs. opened (shapes_of xs)) (take_more ss i s lt ∙ ap (λ x. take i ss ++ x ∷ []) (sym read)) ∙ ap opened (map-append shape_of (take i ss) (s ∷ []))
    ∙ map-append (λ (x : mem.BlockShape). new_block (word_of x.size) x.leaves) (shapes_of (take i ss)) (shape_of s ∷ []) in
    append_assoc m (opened (shapes_of (take i ss))) (whole_block (word_of s.size) false cs ∷ []) ∙ ap (λ k. m ++ (opened (shapes_of (take i ss)) ++ k ∷ [])) block ∙ ap (λ r. m ++ r) (sym more)
