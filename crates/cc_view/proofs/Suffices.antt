-- The image of a program whose functions have room does not run out of stack.
use Rattle.std.proofs.Common.{◌≡◌, ◌&&◌, ◌==◌, ℕ, suc, ◌+◌, ◌%◌, ◌<◌, ◌≤◌, true, List, [], ◌∷◌, length, Some, Ok, slice_get, refl, sym, subst, arith}
use Rattle.std.specs.Prelude.{nat_lt, nat_le}
use Rattle.std.proofs.lemmas.Bool.{and_parts}
use Rattle.std.proofs.lemmas.Bool.Decides.{nat_tests}
use Rattle.val_core.specs.declared.leaf.Leaf.{Leaf}
use Rattle.val_core.specs.Answers.{IsUndefined}
use Rattle.c_typed.specs.Typed.{ProgramTree}
use Rattle.c_mean.specs.Run.{run}
use Rattle.g_graph.specs.Plain.{PlainLambda, PlainDelta}
use Rattle.g_graph.specs.Program.{IsGlobal, IsProgram}
use Rattle.g_graph.specs.WellFormed.{all_of, is_width, leaves_fit}
use Rattle.g_build_def.specs.Functions.{graph, omega}
use Rattle.g_mean.specs.Calls.{program_at, deepest_main}
use Rattle.g_mean.specs.LessDefined.{Paired, AreBytes, AreNarrow, AreSoundDeltas, IsLessDefinedDatum}
use Rattle.r_edit.specs.Steps.{MayStandForAll, WithinBothWays}
use Rattle.g_build_keeps.specs.Laws.{StartsAsProgram}
use Rattle.elf_file.specs.Image.{stack_size}
use Rattle.elf_file.specs.Loading.{Executable, loaded}
use Rattle.rv_machine.specs.Machine.{stack}
use Rattle.rv_machine.specs.Run.{ended, executed}
use Rattle.rv_machine.proofs.lemmas.Nearer.{undefined_is_apart}
use Rattle.cc_emit.specs.Image.{CanEmit, file_of_program}
use Rattle.cc_emit.specs.Images.{frames, ImagesKeepMeaning}
use Rattle.cc_view.specs.Laws.{StacksAreBounded}
use Rattle.cc_view.specs.Suffices.{Suffices}

-- ---- the globals of a program are sound

all-bytes : (bs : List ℕ) → all_of (λ b. nat_lt b 256) bs ≡ true → AreBytes bs
all-bytes [] h = tt
all-bytes (b ∷ bs) h = let r = and_parts (nat_lt b 256) (all_of (λ b. nat_lt b 256) bs) h in let first = r.0 in (grind (arith, nat_tests, first), all-bytes bs r.1)

narrow : (w : ℕ) → is_width w ≡ true → w ≤ 4
narrow w h = grind (arith, nat_tests, h)

all-narrow : (size from : ℕ) (ls : List Leaf) → leaves_fit size from ls ≡ true → AreNarrow ls
all-narrow size from [] h = tt
all-narrow size from (l ∷ ls) h =
    let most = and_parts (nat_le from l.offset && nat_le (l.offset + l.width) size && is_width l.width && (l.offset % l.width == 0)) (leaves_fit size (l.offset + l.width) ls) h in
    let aligned = and_parts (nat_le from l.offset && nat_le (l.offset + l.width) size && is_width l.width) (l.offset % l.width == 0) most.0 in
    let width = and_parts (nat_le from l.offset && nat_le (l.offset + l.width) size) (is_width l.width) aligned.0 in
    (narrow l.width width.1, all-narrow size (l.offset + l.width) ls most.1)

deltas-sound : (count : ℕ) (ds : List PlainDelta) → ((k : ℕ) (d : PlainDelta) → slice_get ds k ≡ Some d → IsGlobal count d) → AreSoundDeltas ds
deltas-sound count [] h = tt
deltas-sound count (d ∷ ds) h =
    let g = h 0 d refl in
    (record { bytes = all-bytes d.bytes g.bytes; leaves = all-narrow (length d.bytes) 0 d.leaves g.leaves }, deltas-sound count ds (λ k x e. h (suc k) x e))

-- ---- the lambdas of the image are defined wherever the source is

module _ (p : ProgramTree) (ls : List PlainLambda) (built : IsProgram (omega p) (graph p)) (starts : StartsAsProgram p (graph p)) (stands : MayStandForAll (graph p) ls)
    (i : List ℕ) (bytes : AreBytes i) (right : (n : ℕ) → IsUndefined (run n p i) → ⊥) where
  graph-right : (n : ℕ) → IsUndefined (program_at n (omega p) (graph p) i) → ⊥
  graph-right n wrong = let back = (starts i bytes right n).back in undefined_is_apart (λ ys g. ⊥) (program_at n (omega p) (graph p) i) (run back.0 p i) wrong back.1

  both : WithinBothWays (λ n. program_at n (omega p) (graph p) i) (λ n. program_at n (omega p) ls i)
  both = stands.program (omega p) i (deltas-sound (length (omega p).deltas) (omega p).deltas built.globals) bytes graph-right

  right-too : (n : ℕ) → IsUndefined (program_at n (omega p) ls i) → ⊥
  right-too n wrong =
      let back = both.back n in
      undefined_is_apart (λ ys xs. Paired IsLessDefinedDatum xs ys) (program_at n (omega p) ls i) (program_at back.0 (omega p) (graph p) i) wrong back.1

-- ---- so their law says how deep the stack gets

none-between : (deep d : ℕ) → deep ≤ d → stack_size < deep → d ≤ stack_size → ⊥
none-between deep d low high fits = grind (arith, low, high, fits)

same-executable : (file : List ℕ) (e f : Executable) → loaded file ≡ Ok e → loaded file ≡ Ok f → f ≡ e
same-executable file e f p q = cc

pub suffices : StacksAreBounded → ImagesKeepMeaning → (p : ProgramTree) (ls : List PlainLambda) → IsProgram (omega p) (graph p) → StartsAsProgram p (graph p) →
    MayStandForAll (graph p) ls → CanEmit (omega p) ls → Suffices p ls
suffices bounded images p ls built starts stands can form room i bytes right e loads n out =
    let keeps = images form (omega p) ls can i bytes (right-too p ls built starts stands i bytes right) in
    let same = same-executable (file_of_program form (omega p) ls) e keeps.executable loads keeps.loads in
    let exceeds = keeps.runs.exceeds n (subst (λ x. (executed n x i).hart ≡ ended stack) (sym same) out) in
    let deep : deepest_main exceeds.0 (omega p) ls (frames form ls) i ≤ room.depth =
    bounded ls (frames form ls) room.depths room.are (omega p) room.main room.depth room.named room.known exceeds.0 i in
    let more : stack_size < deepest_main exceeds.0 (omega p) ls (frames form ls) i = exceeds.1 in
    none-between (deepest_main exceeds.0 (omega p) ls (frames form ls) i) room.depth deep more room.fits
