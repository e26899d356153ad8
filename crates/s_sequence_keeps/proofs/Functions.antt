-- Calls and programs agree.
use Rattle.std.proofs.Common.{◌≡◌, ℕ, zero, suc, ◌+◌, ◌%◌, true, ◌&&◌, List, [], ◌∷◌, ◌++◌, map, length, slice_get, Option, None, Some, option_map, refl, sym, ap, ap₂, subst, ◌∙◌, arith}
use Rattle.std.specs.Prelude.{replicate, slice_index_or}
use Rattle.std.proofs.lemmas.Bool.{and_parts}
use Rattle.std.proofs.lemmas.Option.{slice_get-map}
use Rattle.val_core.specs.declared.values.Value.{Value}
use Rattle.val_core.specs.declared.values.Value.TheVariants.{Bad}
use Rattle.val_core.specs.Values.{IsLessDefined}
use Rattle.val_core.specs.Memory.{Memory as Blocks, closed}
use Rattle.val_core.specs.Objects.{Addresses, address_in, opened}
use Rattle.val_core.specs.Answers.{Answer, Returned, Exited, then_on}
use Rattle.val_core.specs.Within.{Given}
use Rattle.val_core.proofs.lemmas.Answers.{then_nothing}
use Rattle.g_graph.specs.declared.op.Kind.TheVariants.{Value as ValueKind, Memory, Io}
use Rattle.g_graph.specs.Plain.{RegionTree, region, PlainLambda, PlainOmega, args_of, shapes_of}
use Rattle.g_graph.specs.Program.{name_index, main_name}
use Rattle.g_graph.specs.Signatures.{result_kinds}
use Rattle.g_graph.specs.Ids.{region_ids}
use Rattle.g_graph.specs.WellFormed.{all_of, are, same, distinct, every_region, region_fits, body_fits, numbers_fit, leaves_fit, well_formed}
use Rattle.g_graph.proofs.lemmas.Nodes.{are_kinds, same_kinds}
use Rattle.g_graph.proofs.lemmas.Unique.{counts_of_distinct}
use Rattle.g_mean.specs.Data.{Datum, val, memory, at_port, with_memory, changed_at, taken}
use Rattle.g_mean.specs.Meaning.{Meaning, Outputs, no_outputs, read, nodes_run, region_meaning}
use Rattle.g_mean.specs.Calls as graph
use Rattle.g_mean.specs.Calls.{sizes_of, inside, applied, global_of, first_memory, lambda_at, program_at}
use Rattle.g_mean.specs.Kinds.{AreWellFormed}
use Rattle.g_mean.proofs.lemmas.Kinds.{found-well}
use Rattle.s_linear.specs.Linear.{no_steps}
use Rattle.s_linear.specs.Meaning as linear
use Rattle.s_linear.specs.Meaning.{State, Call, code_run, first_names, calls}
use Rattle.s_sequence.specs.Sequence.{value_args, no_names, nodes_names, nodes_named, name_of, name_at, nodes_code, body_code, value_name, sequenced}
use Rattle.s_sequence_keeps.specs.Agreement.{Agrees, AreLessDefined, GivesBack}
use Rattle.s_sequence_keeps.specs.Programs as linear_program
use Rattle.s_sequence_keeps.specs.Programs.{linear_at, linear_program_at}
use Rattle.s_sequence_keeps.specs.Laws.{CallsAgree, ProgramsAgree, CallsAreWithin, ProgramsAreWithin}
use Rattle.s_sequence_keeps.proofs.AgreeingAnswers.{agrees-then, agrees-active, agrees-number, agrees-memory, agrees-within}
use Rattle.s_sequence_keeps.proofs.Held.{Held, Carries}
use Rattle.s_sequence_keeps.proofs.Running.{Running, held}
use Rattle.s_sequence_keeps.proofs.Ops.{AllCallsAgree}
use Rattle.s_sequence_keeps.proofs.Claims.{graph_context, code_context}
use Rattle.s_sequence_keeps.proofs.Branches.{region-tests}
use Rattle.s_sequence_keeps.proofs.Nodes.{AtMostOnce}
use Rattle.s_sequence_keeps.proofs.Regions.{every-here, region-agrees}

-- ---- what a call takes and gives

memory-place : (vs : List Value) (m : Blocks) (i : List ℕ) (p : ℕ) (k : Blocks) → at_port (taken vs m i) p ≡ memory k → (p ≡ length vs) × (k ≡ m)
memory-place [] m i zero k e = (refl, cc)
memory-place [] m i (suc zero) k e = absurd cc
memory-place [] m i (suc (suc p)) k e = absurd cc
memory-place (v ∷ vs) m i zero k e = absurd cc
memory-place (v ∷ vs) m i (suc p) k e = let more = memory-place vs m i p k e in (ap suc more.0, more.1)

taken-changed : (vs : List Value) (m : Blocks) (i : List ℕ) (f : Blocks → Blocks) → changed_at (length vs) (with_memory f) (taken vs m i) ≡ taken vs (f m) i
taken-changed [] m i f = refl
taken-changed (v ∷ vs) m i f = ap (λ xs. val v ∷ xs) (taken-changed vs m i f)

-- the first names hold the arguments
carries-taken : (vs ws : List Value) → AreLessDefined vs ws → (x : ℕ) (s : State) → ((k : ℕ) → s.names (x + k) ≡ slice_index_or ws k Bad) →
    Carries (replicate (length vs) ValueKind ++ Memory ∷ Io ∷ []) (taken vs s.memory s.input) x s
carries-taken [] [] less x s h = (refl, (refl, tt))
carries-taken (v ∷ vs) (w ∷ ws) less x s h =
    let here : x ≡ x + 0 = omega arith in (
      record { value = v; is = refl; less = subst (λ z. IsLessDefined v z) (sym (ap s.names here ∙ h 0)) less.0 },
      carries-taken vs ws less.1 (suc x) s (λ k. let there : suc x + k ≡ x + suc k = omega arith in ap s.names there ∙ h (suc k)),
    )
carries-taken [] (w ∷ ws) less x s h = absurd less
carries-taken (v ∷ vs) [] less x s h = absurd less

given-back : (first next : ℕ) (us : List Datum) (xs : List ℕ) (t : State) → Held first next (ValueKind ∷ Memory ∷ Io ∷ []) us xs t →
    GivesBack us (record { value = t.names (name_at xs 0); memory = t.memory; input = t.input })
given-back first next (a ∷ b ∷ e ∷ []) (x ∷ y ∷ z ∷ []) t h =
    record { value = h.0.value; is = ap₂ (λ u w. u ∷ w) h.0.is (ap₂ (λ u w. u ∷ w ∷ []) h.1.0 h.1.1.0); less = h.0.less }
given-back first next [] xs t h = absurd h
given-back first next (a ∷ us) [] t h = absurd h
given-back first next (a ∷ []) (x ∷ xs) t h = absurd h.1
given-back first next (a ∷ b ∷ us) (x ∷ []) t h = absurd h.1
given-back first next (a ∷ b ∷ []) (x ∷ y ∷ xs) t h = absurd h.1.1
given-back first next (a ∷ b ∷ e ∷ us) (x ∷ y ∷ []) t h = absurd h.1.1
given-back first next (a ∷ b ∷ e ∷ []) (x ∷ y ∷ z ∷ w ∷ xs) t h = absurd h.1.1.1
given-back first next (a ∷ b ∷ e ∷ u ∷ us) (x ∷ y ∷ z ∷ xs) t h = absurd h.1.1.1

-- ---- the body of a function

-- what the names hold at the end of a body
abbrev ended : RegionTree → State → Given Value
ended body t = record { value = t.names (value_name body); memory = t.memory; input = t.input }

abbrev begun : List Value → Blocks → List ℕ → State
begun ws m i = record { names = first_names ws; memory = m; input = i }

pub record BodyFits (objects params : ℕ) (body : RegionTree) : Type 0 where
  pub args : args_of body ≡ replicate params ValueKind ++ Memory ∷ Io ∷ []
  pub results : result_kinds body ≡ map Some (ValueKind ∷ Memory ∷ Io ∷ [])
  pub regions : every_region (region_fits objects) body ≡ true
  pub once : AtMostOnce (region_ids body)

pub lambda-body : (l : PlainLambda) → well_formed l ≡ true → BodyFits (length l.objects) l.params l.body
lambda-body l t =
    let p = and_parts (body_fits l && numbers_fit l && every_region (region_fits (length l.objects)) l.body) (all_of (λ o. leaves_fit o.size 0 o.leaves) l.objects) t in
    let q = and_parts (body_fits l && numbers_fit l) (every_region (region_fits (length l.objects)) l.body) p.0 in
    let r = and_parts (body_fits l) (numbers_fit l) q.0 in
    let b = and_parts (same (args_of l.body) (replicate l.params ValueKind ++ Memory ∷ Io ∷ [])) (are (result_kinds l.body) (ValueKind ∷ Memory ∷ Io ∷ [])) r.0 in
    let ids = and_parts (distinct (region_ids l.body)) _ r.1 in
    record {
      args = same_kinds (args_of l.body) (replicate l.params ValueKind ++ Memory ∷ Io ∷ []) b.0;
      results = are_kinds (result_kinds l.body) (ValueKind ∷ Memory ∷ Io ∷ []) b.1;
      regions = q.1;
      once = counts_of_distinct (region_ids l.body) ids.0;
    }

module _ (n : ℕ) (call : ℕ → Meaning) (callees : ℕ → Call) (agree : AllCallsAgree call callees) where
  body-agrees : (objects params : ℕ) (body : RegionTree) → BodyFits objects params body → (addresses : Addresses) (vs ws : List Value) → AreLessDefined vs ws →
      params ≡ length vs → (m : Blocks) (i : List ℕ) →
      Agrees (λ ys t. GivesBack ys (ended body t)) (region_meaning (graph_context n call addresses) body (taken vs m i))
      (code_run (code_context n callees addresses) (body_code body) (begun ws m i))
  body-agrees objects params (region args nodes results) fits addresses vs ws less count m i =
      subst (λ a. Agrees Gives (region_meaning (graph_context n call addresses) (region args nodes results) (taken vs m i)) a)
      (then_nothing (code_run (code_context n callees addresses) (nodes_code args 0 no_names (value_args args) nodes no_steps) (begun ws m i)))
      (agrees-then (Ends (value_args args)) Gives (nodes_run (graph_context n call addresses) nodes (taken vs m i) no_outputs)
      (code_run (code_context n callees addresses) (nodes_code args 0 no_names (value_args args) nodes no_steps) (begun ws m i))
      (λ o. Returned (map (read (taken vs m i) o) results) [])
      (λ t. Returned t []) claim after)
    where
      Gives : List Datum → State → Type 0
      Gives ys t = GivesBack ys (ended (region args nodes results) t)

      Ends : ℕ → Outputs → State → Type 0
      Ends first o t = Running args 0 (taken vs m i) (begun ws m i) nodes (nodes_named nodes first no_names) (first + nodes_names nodes) o t

      carries : Carries args (taken vs m i) 0 (begun ws m i)
      carries =
          subst (λ ks. Carries ks (taken vs m i) 0 (begun ws m i)) (sym (fits.args ∙ ap (λ k. replicate k ValueKind ++ Memory ∷ Io ∷ []) count))
          (carries-taken vs ws less 0 (begun ws m i) (λ k. let same : 0 + k ≡ k = omega arith in ap (first_names ws) same))

      claim : Agrees (Ends (value_args args)) (nodes_run (graph_context n call addresses) nodes (taken vs m i) no_outputs)
          (code_run (code_context n callees addresses) (nodes_code args 0 no_names (value_args args) nodes no_steps) (begun ws m i))
      claim =
          let same : 0 + value_args args ≡ value_args args = omega arith in
          subst (λ first. Agrees (Ends first) (nodes_run (graph_context n call addresses) nodes (taken vs m i) no_outputs)
          (code_run (code_context n callees addresses) (nodes_code args 0 no_names first nodes no_steps) (begun ws m i))) same
          (region-agrees objects n call callees addresses agree (region args nodes results) fits.regions fits.once 0 (taken vs m i) (begun ws m i) carries)

      after : (o : Outputs) (t : State) → Ends (value_args args) o t → Agrees Gives (Returned (map (read (taken vs m i) o) results) []) (Returned t [])
      after o t run =
          let tests = region-tests objects (region args nodes results) (every-here (region_fits objects) (region args nodes results) fits.regions) in
          let names = nodes_named nodes (value_args args) no_names in
          let last = value_args args + nodes_names nodes in
          let all = held args 0 (taken vs m i) (begun ws m i) nodes names last o t run results (ValueKind ∷ Memory ∷ Io ∷ []) fits.results tests.last in
          (given-back 0 last (map (read (taken vs m i) o) results) (map (name_of args 0 names) results) t all, refl)

  -- ---- a call of a lambda

  entered-agrees : (global : ℕ → Value) (l : PlainLambda) → well_formed l ≡ true → (vs ws : List Value) → AreLessDefined vs ws → (m : Blocks) (i : List ℕ) →
      Agrees GivesBack (graph.entered n call global (Some l) (taken vs m i)) (linear.entered n callees global (Some (sequenced l)) ws m i)
  entered-agrees global l well vs ws less m i =
      agrees-memory GivesBack (at_port (taken vs m i) l.params) _ (linear.entered n callees global (Some (sequenced l)) ws m i) (λ k e.
      let place = memory-place vs m i l.params k e in
      let changed = ap (λ p. changed_at p (with_memory open_all) (taken vs m i)) place.0 ∙ taken-changed vs m i open_all in
      subst (λ b. Agrees GivesBack (then_on (region_meaning (inside n call global l.objects b) l.body (changed_at l.params (with_memory open_all) (taken vs m i)))
      (graph_end b))
      (linear.entered n callees global (Some (sequenced l)) ws m i)) (sym place.1)
      (subst (λ us. Agrees GivesBack (then_on (region_meaning (inside n call global l.objects m) l.body us) (graph_end m))
      (linear.entered n callees global (Some (sequenced l)) ws m i)) (sym changed)
      (agrees-then (λ ys t. GivesBack ys (ended l.body t)) GivesBack (region_meaning (inside n call global l.objects m) l.body (taken vs (open_all m) i))
      (code_run (code_context n callees (addresses_at m)) (body_code l.body) (begun ws (open_all m) i)) (graph_end m) code_end
      (body-agrees (length l.objects) l.params l.body (lambda-body l well) (addresses_at m) vs ws less place.0 (open_all m) i) after)))
    where
      open_all : Blocks → Blocks
      open_all b = b ++ opened (shapes_of l.objects)

      addresses_at : Blocks → Addresses
      addresses_at b = record { local = address_in (length b) (sizes_of l.objects); global = global }

      graph_end : Blocks → List Datum → Answer (List Datum)
      graph_end b ys = Returned (changed_at 1 (with_memory (closed (length b) (length l.objects))) ys) []

      code_end : State → Answer (Given Value)
      code_end s = Returned (record { value = s.names (value_name l.body); memory = closed (length m) (length l.objects) s.memory; input = s.input }) []

      after : (ys : List Datum) (t : State) → GivesBack ys (ended l.body t) → Agrees GivesBack (graph_end m ys) (code_end t)
      after ys t b =
          (record { value = b.value; is = ap (changed_at 1 (with_memory (closed (length m) (length l.objects)))) b.is; less = b.less }, refl)

  found-agrees : (global : ℕ → Value) (found : Option PlainLambda) → ((l : PlainLambda) → found ≡ Some l → well_formed l ≡ true) → (vs ws : List Value) →
      AreLessDefined vs ws → (m : Blocks) (i : List ℕ) →
      Agrees GivesBack (graph.entered n call global found (taken vs m i)) (linear.entered n callees global (option_map sequenced found) ws m i)
  found-agrees global None well vs ws less m i = tt
  found-agrees global (Some l) well vs ws less m i = entered-agrees global l (well l refl) vs ws less m i

-- ---- calls at every bound

all-calls-agree : (ls : List PlainLambda) → AreWellFormed ls → (global : ℕ → Value) (n : ℕ) → AllCallsAgree (applied ls global n) (calls (map sequenced ls) global n)
all-calls-agree ls well global zero f vs ws less m i = refl
all-calls-agree ls well global (suc n) f vs ws less m i =
    agrees-active GivesBack f (graph.entered n (applied ls global n) global (slice_get ls f) (taken vs m i))
    (linear.entered n (calls (map sequenced ls) global n) global (slice_get (map sequenced ls) f) ws m i)
    (subst (λ g. Agrees GivesBack (graph.entered n (applied ls global n) global (slice_get ls f) (taken vs m i))
    (linear.entered n (calls (map sequenced ls) global n) global g ws m i))
    (sym (slice_get-map sequenced ls f))
    (found-agrees n (applied ls global n) (calls (map sequenced ls) global n) (all-calls-agree ls well global n) global (slice_get ls f)
    (found-well ls well f) vs ws less m i))

pub calls_agree : CallsAgree
calls_agree ls well global n f vs ws less m i = all-calls-agree ls well global n f vs ws less m i

pub calls_are_within : CallsAreWithin
calls_are_within ls well global n f vs ws less m i right =
    agrees-within GivesBack (applied ls global n f (taken vs m i)) (calls (map sequenced ls) global n f ws m i) (calls_agree ls well global n f vs ws less m i) right

-- ---- programs

finished-agrees : (ys : List Datum) (g : Given Value) → GivesBack ys g → Agrees GivesBack (graph.finished ys) (linear.finished g)
finished-agrees ys g b =
    subst (λ us. Agrees GivesBack (graph.finished us) (linear.finished g)) (sym b.is)
    (agrees-number GivesBack b.value g.value b.less (λ w. Exited [] (w % 256)) (λ w. Exited [] (w % 256)) (λ w. (refl, refl)))

started-agrees : (ls : List PlainLambda) → AreWellFormed ls → (omega : PlainOmega) (n : ℕ) (found : Option ℕ) (i : List ℕ) →
    Agrees GivesBack (graph.started n omega ls found i) (linear_program.started n omega (map sequenced ls) found i)
started-agrees ls well omega n None i = tt
started-agrees ls well omega n (Some f) i =
    agrees-then GivesBack GivesBack (lambda_at n ls (global_of omega.deltas) f (taken [] (first_memory omega.deltas) i))
    (linear_at n (map sequenced ls) (global_of omega.deltas) f [] (first_memory omega.deltas) i) graph.finished linear.finished
    (calls_agree ls well (global_of omega.deltas) (suc n) f [] [] tt (first_memory omega.deltas) i) finished-agrees

pub programs_agree : ProgramsAgree
programs_agree ls well omega n i = started-agrees ls well omega n (name_index main_name omega.names) i

pub programs_are_within : ProgramsAreWithin
programs_are_within ls well omega n i right =
    agrees-within GivesBack (program_at n omega ls i) (linear_program_at n omega (map sequenced ls) i) (programs_agree ls well omega n i) right
