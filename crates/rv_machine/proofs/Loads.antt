-- The memory of the segments of an executable.
use Rattle.std.proofs.Common.{◌≡◌, ℕ, zero, suc, ◌+◌, ◌-◌, ◌<◌, ◌≤◌, List, [], ◌∷◌, ◌++◌, length, map, take, slice_get, slice_index, replicate, Some, refl, sym, ap, ◌∙◌, arith}
use mathlib.Core.Path.{fun_ext}
use Rattle.std.specs.Prelude.{AllPairs}
use Rattle.std.proofs.lemmas.List.{get_or-map, length-map, map-append, take_more, take_all}
use Rattle.std.proofs.lemmas.Option.{get_or_from_slice_get}
use Rattle.elf_file.specs.Loading.{LoadedSegment}
use Rattle.elf_file.specs.Segments.{AreApart}
use Rattle.rv_machine.specs.declared.block.Block.{Block}
use Rattle.rv_machine.specs.Block.{segment_of, outline_of, padded}
use Rattle.rv_machine.specs.Memory.{memory_of, flags_of}

pub zeros : (n k : ℕ) → slice_index (replicate n 0) k ≡ 0
zeros zero k = refl
zeros (suc n) zero = refl
zeros (suc n) (suc k) = zeros n k

zeros-after : (xs : List ℕ) (n k : ℕ) → slice_index (xs ++ replicate n 0) k ≡ slice_index xs k
zeros-after [] n k = zeros n k
zeros-after (x ∷ xs) n zero = refl
zeros-after (x ∷ xs) n (suc k) = zeros-after xs n k

memory-padded_at : (ss : List LoadedSegment) (x : ℕ) → memory_of (map padded ss) x ≡ memory_of ss x
unfolding memory_of
memory-padded_at [] x = refl
memory-padded_at (s ∷ ss) x =
    rw (zeros-after s.bytes (s.size - length s.bytes) (x - s.at)) rw (memory-padded_at ss x) refl

pub memory-padded : (ss : List LoadedSegment) → memory_of (map padded ss) ≡ memory_of ss
memory-padded ss = fun_ext (λ x. memory-padded_at ss x)

flags-padded_at : (ss : List LoadedSegment) (x : ℕ) → flags_of (map padded ss) x ≡ flags_of ss x
unfolding flags_of
flags-padded_at [] x = refl
flags-padded_at (s ∷ ss) x = rw (flags-padded_at ss x) refl

pub flags-padded : (ss : List LoadedSegment) → flags_of (map padded ss) ≡ flags_of ss
flags-padded ss = fun_ext (λ x. flags-padded_at ss x)

abbrev strip : LoadedSegment → LoadedSegment
strip s = record { at = s.at; size = s.size; flags = s.flags; bytes = [] }

strip-blocks : (xs : List Block) → map outline_of xs ≡ map strip (map segment_of xs)
strip-blocks [] = refl
strip-blocks (x ∷ xs) = ap (λ ys. outline_of x ∷ ys) (strip-blocks xs)

strip-padded : (ss : List LoadedSegment) → map strip (map padded ss) ≡ map strip ss
strip-padded [] = refl
strip-padded (s ∷ ss) = ap (λ ys. strip s ∷ ys) (strip-padded ss)

apart-strip : (ss : List LoadedSegment) → AllPairs AreApart ss → AllPairs AreApart (map strip ss)
apart-strip ss apart i j d before below =
    let listed : j < length ss = omega (arith, length-map ss strip) in
    rw (get_or-map strip ss i d d (omega arith)) rw (get_or-map strip ss j d d listed) (apart i j d before listed)

pub apart-loaded : (xs : List Block) (ss : List LoadedSegment) → map segment_of xs ≡ map padded ss → AllPairs AreApart ss
    → AllPairs AreApart (map outline_of xs)
apart-loaded xs ss e apart =
    let same : map outline_of xs ≡ map strip ss = strip-blocks xs ∙ ap (map strip) e ∙ strip-padded ss in
    rw same (apart-strip ss apart)

take_get : (ss : List LoadedSegment) (k : ℕ) (s : LoadedSegment) → k < length ss → slice_get ss k ≡ Some s → take (k + 1) ss ≡ take k ss ++ s ∷ []
take_get ss k s within at =
    take_more ss k s within ∙ ap (λ t. take k ss ++ t ∷ []) (get_or_from_slice_get ss k s s at)

pub block_more : (xs ys : List Block) (b : Block) (ss : List LoadedSegment) (k : ℕ) (s : LoadedSegment) → ys ≡ xs ++ b ∷ []
    → map segment_of xs ≡ map padded (take k ss) → segment_of b ≡ padded s → k < length ss → slice_get ss k ≡ Some s
    → map segment_of ys ≡ map padded (take (k + 1) ss)
block_more xs ys b ss k s pushed so_far here within at =
    ap (map segment_of) pushed
    ∙ map-append segment_of xs (b ∷ [])
    ∙ ap (λ front. front ++ segment_of b ∷ []) so_far
    ∙ ap (λ t. map padded (take k ss) ++ t ∷ []) here
    ∙ sym (map-append padded (take k ss) (s ∷ []))
    ∙ ap (map padded) (sym (take_get ss k s within at))

pub blocks_all : (xs : List Block) (ss : List LoadedSegment) (k n : ℕ) → map segment_of xs ≡ map padded (take k ss) → n ≡ length ss → n ≤ k
    → map segment_of xs ≡ map padded ss
blocks_all xs ss k n so_far e past = so_far ∙ ap (map padded) (take_all k ss (omega arith))
