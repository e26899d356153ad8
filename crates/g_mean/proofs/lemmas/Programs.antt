-- Programs whose lambdas are equal but for replaced regions keep their meaning.
use Rattle.std.proofs.Common.{ℕ, zero, suc, ◌+◌, ◌*◌, ◌^◌, ◌<◌, ◌≤◌, List, [], ◌∷◌, map, take, drop, slice_get, Option, None, Some, refl, arith, lt_of_lt_of_le, lt_of_le_of_lt, zero-le, lit<, lit≤}
use Rattle.val_core.specs.declared.leaf.Leaf.{Leaf}
use Rattle.val_core.specs.Values.{IsSound}
use Rattle.val_core.specs.Memory.{AreSoundCells, IsSoundMemory}
use Rattle.val_core.specs.Refinement.{Direction, Refines, no_deeper}
use Rattle.val_core.proofs.lemmas.Refinement.{refines-then}
use Rattle.g_graph.specs.Plain.{PlainLambda, PlainDelta, PlainOmega}
use Rattle.g_graph.specs.Program.{name_index, main_name}
use Rattle.g_mean.specs.Data.{Datum, memory, input, at_port}
use Rattle.g_mean.specs.Calls.{delta_sizes, global_of, little_endian, link_at, leaf_value, first_cell, first_block, first_memory, lambda_at, finished, started, program_at}
use Rattle.g_mean.specs.LessDefined.{Paired, AreBytes, AreNarrow, IsLessDefinedDatum, AreSoundDeltas}
use Rattle.g_mean.specs.Refining.{LambdasSameBut}
use Rattle.g_mean.specs.Replacement.{IsTwice, Replaces, ProgramsKeepMeaning}
use Rattle.g_mean.proofs.lemmas.Kept.{paired-at}
use Rattle.g_mean.proofs.lemmas.Regions.{on_number-refines}
use Rattle.g_mean.proofs.lemmas.Equal.{no_deeper-compares}
use Rattle.val_core.proofs.lemmas.Objects.{address-sound}
use Rattle.g_mean.proofs.lemmas.LessDefined.{less-kept}
use Rattle.g_mean.proofs.lemmas.Replacement.{kept-within, lambda-refines}

-- ---- the memory of the globals is sound

bytes-dropped : (n : ℕ) (bs : List ℕ) → AreBytes bs → AreBytes (drop n bs)
bytes-dropped zero bs s = s
bytes-dropped (suc n) [] s = tt
bytes-dropped (suc n) (b ∷ bs) s = bytes-dropped n bs s.1

one-more : (w limit : ℕ) → ((bs : List ℕ) → AreBytes bs → little_endian (take w bs) < limit) → (bs : List ℕ) → AreBytes bs → little_endian (take (suc w) bs) < 256 * limit
one-more w limit h [] s = let some = h [] tt in let most : 0 < limit = lt_of_le_of_lt zero-le some in omega arith
one-more w limit h (b ∷ bs) s = let rest = h bs s.1 in let first = s.0 in omega (arith, rest, first)

upto0 : (bs : List ℕ) → AreBytes bs → little_endian (take 0 bs) < 1
upto0 bs s = lit< tt

upto1 : (bs : List ℕ) → AreBytes bs → little_endian (take 1 bs) < 256
upto1 bs s = one-more 0 1 upto0 bs s

upto2 : (bs : List ℕ) → AreBytes bs → little_endian (take 2 bs) < 256 * 256
upto2 bs s = one-more 1 256 upto1 bs s

upto3 : (bs : List ℕ) → AreBytes bs → little_endian (take 3 bs) < 256 * (256 * 256)
upto3 bs s = one-more 2 (256 * 256) upto2 bs s

-- a number of at most four bytes
word-small : (w : ℕ) (bs : List ℕ) → w ≤ 4 → AreBytes bs → little_endian (take w bs) < 2 ^ 32
word-small zero bs h s = lit< tt
word-small (suc zero) bs h s = lt_of_lt_of_le (upto1 bs s) (lit≤ tt)
word-small (suc (suc zero)) bs h s = lt_of_lt_of_le (upto2 bs s) (lit≤ tt)
word-small (suc (suc (suc zero))) bs h s = lt_of_lt_of_le (upto3 bs s) (lit≤ tt)
word-small (suc (suc (suc (suc zero)))) bs h s = one-more 3 (256 * (256 * 256)) upto3 bs s
word-small (suc (suc (suc (suc (suc w))))) bs h s = absurd (omega arith)

link-sound : (ds : List PlainDelta) (bytes : List ℕ) (leaf : Leaf) → AreBytes bytes → leaf.width ≤ 4 → (link : Option ℕ) → IsSound (leaf_value (global_of ds) bytes leaf link)
link-sound ds bytes leaf s small (Some k) = address-sound (0 + k) (slice_get (delta_sizes ds) k)
link-sound ds bytes leaf s small None = word-small leaf.width (drop leaf.offset bytes) small (bytes-dropped leaf.offset bytes s)

cells-sound : (ds : List PlainDelta) (d : PlainDelta) → AreBytes d.bytes → (ls : List Leaf) → AreNarrow ls → AreSoundCells (map (first_cell (global_of ds) d) ls)
cells-sound ds d s [] h = tt
cells-sound ds d s (l ∷ ls) h = (link-sound ds d.bytes l s h.0 (link_at l.offset d.links), cells-sound ds d s ls h.1)

blocks-sound : (ds es : List PlainDelta) → AreSoundDeltas es → IsSoundMemory (map (first_block (global_of ds)) es)
blocks-sound ds [] s = tt
blocks-sound ds (e ∷ es) s = (cells-sound ds e s.0.bytes e.leaves s.0.leaves, blocks-sound ds es s.1)

pub memory-sound : (ds : List PlainDelta) → AreSoundDeltas ds → IsSoundMemory (first_memory ds)
memory-sound ds s = blocks-sound ds ds s

-- ---- programs

finished-refines : (direction : Direction) (us vs : List Datum) → Paired IsLessDefinedDatum us vs → Refines no_deeper direction (Paired IsLessDefinedDatum) (finished us) (finished vs)
finished-refines direction us vs near =
    on_number-refines no_deeper no_deeper-compares direction IsLessDefinedDatum less-kept (Paired IsLessDefinedDatum) (at_port us 0) (at_port vs 0)
    (paired-at IsLessDefinedDatum less-kept us vs near 0) _ _ (λ w. (no_deeper-compares.itself [], refl))

started-refines : (ls ks : List PlainLambda) → LambdasSameBut (Replaces ls ks) ls ks → (o : PlainOmega) → AreSoundDeltas o.deltas → (i : List ℕ) → AreBytes i → (direction : Direction) (n m : ℕ) →
    IsTwice direction 2 n m → (f : Option ℕ) → Refines no_deeper direction (Paired IsLessDefinedDatum) (started n o ls f i) (started m o ks f i)
started-refines ls ks same o deltas i bytes direction n m twice None = tt
started-refines ls ks same o deltas i bytes direction n m twice (Some f) =
    let start = memory (first_memory o.deltas) ∷ input i ∷ [] in
    refines-then no_deeper no_deeper-compares.goes (Paired IsLessDefinedDatum) (Paired IsLessDefinedDatum) direction (lambda_at n ls (global_of o.deltas) f start)
    (lambda_at m ks (global_of o.deltas) f start) finished finished
    (lambda-refines ls ks same direction (global_of o.deltas) (λ k. address-sound (0 + k) (slice_get (delta_sizes o.deltas) k)) f n m twice start (memory-sound o.deltas deltas, (bytes, tt)))
    (finished-refines direction)

pub programs_keep_meaning : ProgramsKeepMeaning
programs_keep_meaning ls ks same o i deltas bytes =
    kept-within (λ n. program_at n o ls i) (λ n. program_at n o ks i)
    (λ direction n m twice. started-refines ls ks same o deltas i bytes direction n m twice (name_index main_name o.names))
