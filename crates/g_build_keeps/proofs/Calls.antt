-- Calls of functions, and a byte of the input.
use Rattle.std.proofs.Common.{◌≡◌, inl, inr, ℕ, suc, List, [], ◌∷◌, ◌++◌, map, refl, sym, ap, ap₂, ◌∙◌, subst, arith}
use Rattle.std.specs.Prelude.{◌-◌, ◌^◌, length, slice_get, Some, Option, None}
use Rattle.val_core.specs.declared.values.Value.{Value}
use Rattle.val_core.specs.declared.values.Value.TheVariants.{Num}
use Rattle.val_core.specs.Values.{IsLessDefined}
use Rattle.val_core.specs.Memory.{Memory as Blocks}
use Rattle.val_core.specs.Events.{took}
use Rattle.val_core.specs.Refinement.{Direction, exactly, Refines}
use Rattle.val_core.specs.Answers.{Returned, then_on}
use Rattle.val_core.specs.Within.{Given, IsLessDefinedOption}
use Rattle.val_core.proofs.lemmas.Refinement.{exactly-goes, refines-then}
use Rattle.c_typed.specs.WellTyped.{Signature}
use Rattle.c_mean.specs.State.{State}
use Rattle.c_mean.specs.Expressions as source
use Rattle.c_mean.specs.Expressions.{back_from, value_or_none}
use Rattle.c_mean.specs.Statements.{Flow}
use Rattle.g_graph.specs.declared.op.Op.TheVariants.{Get}
use Rattle.g_graph.specs.declared.op.Origin.{Origin}
use Rattle.g_graph.specs.declared.op.Origin.TheVariants.{Out}
use Rattle.g_build_def.specs.Writer.{Point}
use Rattle.g_build_def.specs.Operations.{apply_made, get_made}
use Rattle.g_mean.specs.Data.{Datum, val, memory, input, at_port, on_input, taken}
use Rattle.g_mean.specs.Meaning as graph
use Rattle.g_mean.specs.Meaning.{Context, Outputs, extended, read}
use Rattle.g_mean.specs.LessDefined.{AreSound}
use Rattle.g_build_keeps.specs.Laws.{GivesBack}
use Rattle.g_build_keeps.proofs.Readings.{below-later, Keeps, stay-keeps, extended-here, extended-stay, IsSoundRun}
use Rattle.g_build_keeps.proofs.Toolbox.{Ran, Simulates, sim-node}
use Rattle.g_build_keeps.proofs.Held.{Frame, Holds}
use Rattle.g_build_keeps.proofs.Renamed.{reads-sound}
use Rattle.g_build_keeps.proofs.Nodes.{Values}
use Rattle.g_build_keeps.proofs.Unary.{holds-states}
use Rattle.g_build_keeps.proofs.Claims.{ContextsFit, AllCarried}

inputs-are : (rd : Origin → Datum) (n : ℕ) (vs : List Value) (ps : List Origin) (m i : Origin) (b : Blocks) (l : List ℕ) → AllCarried rd n vs ps → rd m ≡ memory b → rd i ≡ input l →
    map rd (ps ++ m ∷ i ∷ []) ≡ taken vs b l
inputs-are rd n [] [] m i b l h e e' = λ k. e k ∷ e' k ∷ []
inputs-are rd n (v ∷ vs) (p ∷ ps) m i b l h e e' = ap₂ (λ x ys. x ∷ ys) h.0.0 (inputs-are rd n vs ps m i b l h.1 e e')
inputs-are rd n [] (p ∷ ps) m i b l h e e' = absurd h
inputs-are rd n (v ∷ vs) [] m i b l h e e' = absurd h

-- what a function gives that ended without a value
none-less : (v : Option Value) (u : Value) → IsLessDefinedOption v u → IsLessDefined (value_or_none v) u
none-less None u h = inr refl
none-less (Some x) u h = h

module _ (w : Direction) (d : Context) (f : Frame) (flow : Flow) (xs : List Datum) (o : Outputs) (t : IsSoundRun xs o) (s : Point) (q : State)
    (h : Holds f flow (read xs o) s.next s.carried q) where
  same-after : (ys : List Datum) → Keeps s.next (read xs o) (read xs (extended o s.next ys))
  same-after ys = stay-keeps s.next xs o (extended o s.next ys) (extended-stay o s.next ys)

  pub apply-sim : (functions : List Signature) (c : source.Context) → ContextsFit w functions c d → (k : ℕ) (callee : Signature) → slice_get functions k ≡ Some callee → (vs : List Value)
      (ps : List Origin) →
      length vs ≡ length callee.params → AllCarried (read xs o) s.next vs ps →
      Simulates w d (Values f flow) xs o s.next (apply_made k ps s) (then_on (c.calls k vs q.memory q.input) (back_from q))
  apply-sim functions c fit k callee there vs ps count carried =
      refines-then exactly exactly-goes GivesBack (Ran (Values f flow) xs o s.next (apply_made k ps s)) w (c.calls k vs q.memory q.input)
      (d.call k (map (read xs o) (ps ++ s.carried.memory ∷ s.carried.io ∷ []))) (back_from q) (λ ys. Returned (extended o s.next ys) [])
      (subst (λ us. Refines exactly w GivesBack (c.calls k vs q.memory q.input) (d.call k us)) (sym are)
      (fit.calls k callee there vs count q.memory q.input (subst AreSound are (reads-sound xs o t (ps ++ s.carried.memory ∷ s.carried.io ∷ []))))) after
    where
      are : map (read xs o) (ps ++ s.carried.memory ∷ s.carried.io ∷ []) ≡ taken vs q.memory q.input
      are = inputs-are (read xs o) s.next vs ps s.carried.memory s.carried.io q.memory q.input carried h.memory h.io

      after : (g : Given (Option Value)) (ys : List Datum) → GivesBack g ys →
          Refines exactly w (Ran (Values f flow) xs o s.next (apply_made k ps s)) (back_from q g) (Returned (extended o s.next ys) [])
      after g ys b = (
        record {
          rises = omega arith;
          stay = extended-stay o s.next ys;
          post = (
            holds-states f flow (read xs o) (read xs (extended o s.next ys)) s q g.memory g.input (Out s.next 1) (Out s.next 2) (same-after ys) h
                (extended-here o s.next ys 1 ∙ ap (λ z. at_port z 1) b.is) (omega arith) (extended-here o s.next ys 2 ∙ ap (λ z. at_port z 2) b.is) (omega arith),
            record { far = b.value; is = extended-here o s.next ys 0 ∙ ap (λ z. at_port z 0) b.is; less = none-less g.value b.value b.less; below = omega arith },
          );
        },
        refl,
      )

  pub get-sim : Simulates w d (Values f flow) xs o s.next (get_made s) (source.got q q.input)
  get-sim = by q.input refl
    where
      by : (i : List ℕ) → q.input ≡ i → Simulates w d (Values f flow) xs o s.next (get_made s) (source.got q i)
      by [] e =
          sim-node w d (Values f flow) xs o s Get (s.carried.io ∷ []) (Out s.next 0) s.carried.memory (Out s.next 1) (record { value = Num (2 ^ 32 - 1); state = q }) ys []
          ((λ j. on_input (h.io j) graph.got) ∙ ap graph.got e) (
            holds-states f flow (read xs o) (read xs (extended o s.next ys)) s q q.memory q.input s.carried.memory (Out s.next 1) (same-after ys) h
                (same-after ys s.carried.memory h.memory_below ∙ h.memory)
                (below-later s.next (suc s.next) s.carried.memory (omega arith) h.memory_below) (extended-here o s.next ys 1 ∙ ap input (sym e)) (omega arith),
            record { far = Num (2 ^ 32 - 1); is = extended-here o s.next ys 0; less = inl refl; below = omega arith },
          )
        where
          ys : List Datum
          ys = val (Num (2 ^ 32 - 1)) ∷ input [] ∷ []
      by (b ∷ i) e =
          sim-node w d (Values f flow) xs o s Get (s.carried.io ∷ []) (Out s.next 0) s.carried.memory (Out s.next 1)
          (record { value = Num b; state = record { slots = q.slots; memory = q.memory; input = i } }) ys (took b ∷ [])
          ((λ j. on_input (h.io j) graph.got) ∙ ap graph.got e) (
            holds-states f flow (read xs o) (read xs (extended o s.next ys)) s q q.memory i s.carried.memory (Out s.next 1) (same-after ys) h (same-after ys s.carried.memory h.memory_below ∙ h.memory)
                (below-later s.next (suc s.next) s.carried.memory (omega arith) h.memory_below) (extended-here o s.next ys 1) (omega arith),
            record { far = Num b; is = extended-here o s.next ys 0; less = inl refl; below = omega arith },
          )
        where
          ys : List Datum
          ys = val (Num b) ∷ input i ∷ []
