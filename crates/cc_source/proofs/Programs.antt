-- The image of a program does what the program does.
use Rattle.std.proofs.Common.{◌≡◌, ◌&&◌, ◌==◌, ℕ, suc, ◌+◌, ◌%◌, ◌≤◌, true, List, [], ◌∷◌, length, Some, slice_get, refl, arith, Option}
use Rattle.std.specs.Prelude.{nat_lt, nat_le}
use Rattle.std.proofs.lemmas.Bool.{and_parts}
use Rattle.std.proofs.lemmas.Bool.Decides.{nat_tests}
use Rattle.val_core.specs.declared.leaf.Leaf.{Leaf}
use Rattle.val_core.specs.declared.values.Value.{Value}
use Rattle.val_core.specs.Answers.{IsUndefined}
use Rattle.val_core.specs.Within.{Given}
use Rattle.c_typed.specs.Typed.{ProgramTree}
use Rattle.c_mean.specs.Run.{run, deepest_run}
use Rattle.g_graph.specs.Plain.{PlainLambda, PlainDelta}
use Rattle.g_graph.specs.Program.{IsGlobal, IsProgram}
use Rattle.g_graph.specs.WellFormed.{all_of, is_width, leaves_fit}
use Rattle.g_build_def.specs.Functions.{graph, omega}
use Rattle.g_build_keeps.specs.BuiltLaws.{WellTypedAreBuilt, SmallAreWithinLimits}
use Rattle.g_mean.specs.Data.{Datum}
use Rattle.g_mean.specs.Calls.{program_at, deepest_main}
use Rattle.g_mean.specs.LessDefined.{Paired, AreBytes, AreNarrow, AreSoundDeltas, IsLessDefinedDatum}
use Rattle.r_edit.specs.Steps.{MayStandForAll, WithinBothWays, ListsStandForThemselves}
use Rattle.g_build_keeps.specs.Laws.{ConstructionKeepsPrograms, StartsAsProgram}
use Rattle.s_linear.specs.declared.frame.CodeForm.{CodeForm}
use Rattle.cc_emit.specs.Image.{CanEmit, file_of_program}
use Rattle.rv_machine.specs.Behaviour.{FileKeeps}
use Rattle.rv_machine.proofs.lemmas.Nearer.{undefined_is_apart, nearer_is_kept}
use Rattle.cc_emit.specs.Images.{frames, ImagesKeepMeaning}
use Rattle.cc_source.specs.Laws.{ProgramsKeepMeaning, BuiltProgramsKeepMeaning}

-- ---- the globals of a program are sound

all-bytes : (bs : List ℕ) → all_of (λ b. nat_lt b 256) bs ≡ true → AreBytes bs
all-bytes [] h = tt
all-bytes (b ∷ bs) h = let r = and_parts (nat_lt b 256) (all_of (λ b. nat_lt b 256) bs) h in let first = r.0 in (grind (arith, nat_tests, first), all-bytes bs r.1)

narrow : (w : ℕ) → is_width w ≡ true → w ≤ 4
narrow w h = grind (arith, nat_tests, h)

all-narrow : (size from : ℕ) (ls : List Leaf) → leaves_fit size from ls ≡ true → AreNarrow ls
all-narrow size from [] h = tt
all-narrow size from (l ∷ ls) h =
    let most = and_parts (nat_le from l.offset && nat_le (l.offset + l.width) size && is_width l.width && (l.offset % l.width == 0)) (leaves_fit size (l.offset + l.width) ls) h in
    let aligned = and_parts (nat_le from l.offset && nat_le (l.offset + l.width) size && is_width l.width) (l.offset % l.width == 0) most.0 in
    let width = and_parts (nat_le from l.offset && nat_le (l.offset + l.width) size) (is_width l.width) aligned.0 in
    (narrow l.width width.1, all-narrow size (l.offset + l.width) ls most.1)

deltas-sound : (count : ℕ) (ds : List PlainDelta) → ((k : ℕ) (d : PlainDelta) → slice_get ds k ≡ Some d → IsGlobal count d) → AreSoundDeltas ds
deltas-sound count [] h = tt
deltas-sound count (d ∷ ds) h =
    let g = h 0 d refl in
    (record { bytes = all-bytes d.bytes g.bytes; leaves = all-narrow (length d.bytes) 0 d.leaves g.leaves }, deltas-sound count ds (λ k x e. h (suc k) x e))

-- ---- from the source to the file

module _ (images : ImagesKeepMeaning) (form : CodeForm) (p : ProgramTree) (ls : List PlainLambda) (built : IsProgram (omega p) (graph p)) (starts : StartsAsProgram p (graph p)) (stands : MayStandForAll (graph p) ls)
    (can : CanEmit (omega p) ls) (i : List ℕ) (bytes : AreBytes i) (right : (n : ℕ) → IsUndefined (run n p i) → ⊥) where
  graph-right : (n : ℕ) → IsUndefined (program_at n (omega p) (graph p) i) → ⊥
  graph-right n wrong = let back = (starts i bytes right n).back in undefined_is_apart (λ ys g. ⊥) (program_at n (omega p) (graph p) i) (run back.0 p i) wrong back.1

  both : WithinBothWays (λ n. program_at n (omega p) (graph p) i) (λ n. program_at n (omega p) ls i)
  both = stands.program (omega p) i (deltas-sound (length (omega p).deltas) (omega p).deltas built.globals) bytes graph-right

  right-too : (n : ℕ) → IsUndefined (program_at n (omega p) ls i) → ⊥
  right-too n wrong =
      let back = both.back n in
      undefined_is_apart (λ ys xs. Paired IsLessDefinedDatum xs ys) (program_at n (omega p) ls i) (program_at back.0 (omega p) (graph p) i) wrong back.1

  graph-kept : FileKeeps (List Datum) (λ n. program_at n (omega p) (graph p) i) (λ n. deepest_main n (omega p) (graph p) (frames form ls) i) (file_of_program form (omega p) ls) i
  graph-kept =
      nearer_is_kept (List Datum) (List Datum) (Paired IsLessDefinedDatum) (λ n. program_at n (omega p) (graph p) i) (λ n. program_at n (omega p) ls i)
      (λ n. deepest_main n (omega p) (graph p) (frames form ls) i) (λ n. deepest_main n (omega p) ls (frames form ls) i) (file_of_program form (omega p) ls) i
      (record { forward = both.forward; back = both.back; no_deeper = λ n. let m = both.no_deeper n in (m.0, m.1 _) }) (images form (omega p) ls can i bytes right-too)

  kept : FileKeeps (Given (Option Value)) (λ n. run n p i) (λ n. deepest_run n p (frames form ls) i) (file_of_program form (omega p) ls) i
  kept =
      nearer_is_kept (Given (Option Value)) (List Datum) (λ g ys. ⊥) (λ n. run n p i) (λ n. program_at n (omega p) (graph p) i) (λ n. deepest_run n p (frames form ls) i)
      (λ n. deepest_main n (omega p) (graph p) (frames form ls) i) (file_of_program form (omega p) ls) i
      (record {
        forward = λ n. (starts i bytes right n).forward;
        back = λ n. (starts i bytes right n).back;
        no_deeper = λ n. (starts i bytes right n).no_deeper (frames form ls);
      })
      graph-kept

pub programs_keep_meaning : ConstructionKeepsPrograms → WellTypedAreBuilt → ImagesKeepMeaning → ProgramsKeepMeaning
programs_keep_meaning construction built images form p typed few ls stands can i bytes right =
    kept images form p ls (built p typed) (construction p typed few) stands can i bytes right

pub built_programs_keep_meaning : ProgramsKeepMeaning → WellTypedAreBuilt → SmallAreWithinLimits → ListsStandForThemselves → BuiltProgramsKeepMeaning
built_programs_keep_meaning keep built small itself form p typed few within =
    keep form p typed few (graph p) (itself (graph p)) (record { program = built p typed; limits = small p within })
