-- Where `main` has a depth, no run of the program has a stack of more bytes.
use Rattle.std.proofs.Common.{◌≡◌, ℕ, zero, suc, ◌+◌, ◌%◌, ◌≤◌, Bool, true, false, if◌then◌else◌, List, [], ◌∷◌, ◌++◌, map, length, Contains, Option, None, Some, slice_get, slice_index_or, refl, sym, ap, subst, ◌∙◌, inl, inr, arith}
use Rattle.std.specs.Prelude.{◌==◌}
use Rattle.std.proofs.lemmas.Bool.{cases_lt}
use Rattle.std.proofs.lemmas.List.{get_or_past}
use Rattle.std.proofs.lemmas.List.Elements.{Contains-append_left, Contains-append_right}
use Rattle.std.proofs.lemmas.Option.{slice_get-get_or}
use Rattle.val_core.specs.declared.values.Value.{Value}
use Rattle.val_core.specs.declared.values.Value.TheVariants.{Num, At, Bad}
use Rattle.val_core.specs.Memory.{Memory as Blocks, closed, load, store, pointers_equal, cleared_at}
use Rattle.val_core.specs.Objects.{Addresses, opened}
use Rattle.val_core.specs.Events.{wrote, deepest, called}
use Rattle.val_core.specs.Answers.{Answer, Returned, Cut, Exited, Undefined, before, then_on, on_number, on_defined, active, events}
use Rattle.val_core.proofs.lemmas.Answers.{before-is, events-added, events-active}
use Rattle.val_core.proofs.lemmas.Events.{deepest_appends, called_deepens}
use Rattle.g_graph.specs.declared.op.Op.{Op}
use Rattle.g_graph.specs.declared.op.Op.TheVariants.{Const, Undef, Local, Delta, Bin, Un, Load, Store, Clear, PtrEq, Apply, Put, Exit, Get, Gamma, Theta}
use Rattle.g_graph.specs.Plain.{RegionTree, region, NodeTree, node, NodeTrees, no_nodes, node_then, RegionTrees, no_regions, region_then, id_of, PlainLambda, PlainOmega, shapes_of}
use Rattle.g_mean.specs.Data.{Datum, memory, val, input, at_port, value_of, value_at, on_memory, on_input, with_memory, changed_at}
use Rattle.g_mean.specs.Meaning.{Meaning, Context, given, given_memory, got, done, chosen, branched, again, turns, looped, act, Outputs, no_outputs, extended, read, region_meaning, node_run, nodes_run, meanings}
use Rattle.g_mean.specs.Calls.{inside, entered, applied, lambda_at, global_of, first_memory, finished, started}
use Rattle.g_pass_order.specs.Calls.{op_calls, region_calls, node_calls, nodes_calls, regions_calls, no_lambda}
use Rattle.cc_view.specs.Depths.{depth_at, most_of, IsDepth}
use Rattle.cc_view.specs.Laws.{StacksAreBounded}
use Rattle.cc_view.proofs.Lists.{most-parts, frame-parts}

-- ---- answers whose stacks have at most so many bytes

abbrev AtMost : {A : Type 0} → (ℕ → ℕ) → ℕ → Answer A → Type 0
AtMost size m a = deepest size (events a) ≤ m

none : (m : ℕ) → 0 ≤ m
none m = omega arith

up : (a b c : ℕ) → a ≤ b → b ≤ c → a ≤ c
up a b c low high = omega (arith, low, high)

then-most : {A B : Type 0} (size : ℕ → ℕ) (m : ℕ) (a : Answer A) (next : A → Answer B) → AtMost size m a → ((x : A) → AtMost size m (next x)) → AtMost size m (then_on a next)
then-most size m (Returned x o) next h go =
    let first : deepest size o ≤ m = h in
    let later : deepest size (events (next x)) ≤ m = go x in
    let joined : deepest size (events (before o (next x))) ≡ deepest size (o ++ events (next x)) = ap (deepest size) (ap events (before-is o (next x)) ∙ events-added o (next x)) in
    omega (arith, first, later, joined, deepest_appends size o (events (next x)))
then-most size m (Cut o) next h go = h
then-most size m (Exited o s) next h go = h
then-most size m (Undefined o) next h go = h

number-most : {A : Type 0} (size : ℕ → ℕ) (m : ℕ) (v : Value) (next : ℕ → Answer A) → ((w : ℕ) → AtMost size m (next w)) → AtMost size m (on_number v next)
number-most size m (Num w) next h = h w
number-most size m (At b o) next h = none m
number-most size m Bad next h = none m

defined-most : {A X : Type 0} (size : ℕ → ℕ) (m : ℕ) (x : Option X) (next : X → Answer A) → ((y : X) → AtMost size m (next y)) → AtMost size m (on_defined x next)
defined-most size m (Some y) next h = h y
defined-most size m None next h = none m

memory-most : {A : Type 0} (size : ℕ → ℕ) (m : ℕ) (x : Datum) (next : Blocks → Answer A) → ((b : Blocks) → AtMost size m (next b)) → AtMost size m (on_memory x next)
memory-most size m (memory b) next h = h b
memory-most size m (val v) next h = none m
memory-most size m (input i) next h = none m

input-most : {A : Type 0} (size : ℕ → ℕ) (m : ℕ) (x : Datum) (next : List ℕ → Answer A) → ((i : List ℕ) → AtMost size m (next i)) → AtMost size m (on_input x next)
input-most size m (input i) next h = h i
input-most size m (val v) next h = none m
input-most size m (memory b) next h = none m

if-most : {A : Type 0} (size : ℕ → ℕ) (m : ℕ) (t : Bool) (a b : Answer A) → AtMost size m a → AtMost size m b → AtMost size m (if t then a else b)
if-most size m true a b h k = h
if-most size m false a b h k = k

-- a call needs its frame besides
active-most : {A : Type 0} (size : ℕ → ℕ) (f m d : ℕ) (a : Answer A) → size f + m ≡ d → AtMost size m a → AtMost size d (active f a)
active-most size f m d a e h =
    let below : deepest size (events a) ≤ m = h in
    let whole : deepest size (events (active f a)) ≡ deepest size (called f (events a)) = ap (deepest size) (events-active f a) in
    omega (arith, e, below, whole, called_deepens size f (events a))

-- ---- ops and parts of the graph

abbrev MeansMost : (ℕ → ℕ) → ℕ → Meaning → Type 0
MeansMost size m f = (xs : List Datum) → AtMost size m (f xs)

abbrev AllMost : (ℕ → ℕ) → ℕ → List Meaning → Type 0
AllMost size m [] = Unit {0}
AllMost size m (f ∷ fs) = MeansMost size m f × AllMost size m fs

-- the calls of these functions need at most so many bytes
abbrev CallsMost : (ℕ → ℕ) → ℕ → (ℕ → Meaning) → List ℕ → Type 0
CallsMost size m call fs = (f : ℕ) → Contains fs f → MeansMost size m (call f)

got-most : (size : ℕ → ℕ) (m : ℕ) (i : List ℕ) → AtMost size m (got i)
got-most size m [] = none m
got-most size m (b ∷ i) = none m

done-most : (size : ℕ → ℕ) (m : ℕ) (e : Addresses) (op : Op) (xs : List Datum) → AtMost size m (done e op xs)
done-most size m e (Const w) xs = none m
done-most size m e Undef xs = none m
done-most size m e (Local k) xs = none m
done-most size m e (Delta k) xs = none m
done-most size m e (Bin op) xs = none m
done-most size m e (Un op) xs = none m
done-most size m e (Load w) xs =
    memory-most size m (at_port xs 1) (λ b. on_defined (load w (value_at xs 0) b) given) (λ b. defined-most size m (load w (value_at xs 0) b) given (λ v. none m))
done-most size m e (Store w) xs =
    memory-most size m (at_port xs 2) (λ b. on_defined (store w (value_at xs 0) (value_at xs 1) b) given_memory)
    (λ b. defined-most size m (store w (value_at xs 0) (value_at xs 1) b) given_memory (λ v. none m))
done-most size m e (Clear k) xs =
    memory-most size m (at_port xs 0) (λ b. on_defined (cleared_at (e.local k) b) given_memory) (λ b. defined-most size m (cleared_at (e.local k) b) given_memory (λ v. none m))
done-most size m e PtrEq xs =
    memory-most size m (at_port xs 2) (λ b. on_defined (pointers_equal (value_at xs 0) (value_at xs 1) b) (λ n. given (Num n)))
    (λ b. defined-most size m (pointers_equal (value_at xs 0) (value_at xs 1) b) (λ n. given (Num n)) (λ v. none m))
done-most size m e (Apply f) xs = none m
done-most size m e Put xs =
    number-most size m (value_at xs 0) (λ w. on_input (at_port xs 1) (λ i. Returned (input i ∷ []) (wrote (w % 256) ∷ [])))
    (λ w. input-most size m (at_port xs 1) (λ i. Returned (input i ∷ []) (wrote (w % 256) ∷ [])) (λ i. none m))
done-most size m e Exit xs = number-most size m (value_at xs 0) (λ w. Exited [] (w % 256)) (λ w. none m)
done-most size m e Get xs = input-most size m (at_port xs 0) got (got-most size m)
done-most size m e Gamma xs = none m
done-most size m e Theta xs = none m

chosen-most : (size : ℕ → ℕ) (m w : ℕ) (fs : List Meaning) → AllMost size m fs → (xs : List Datum) → AtMost size m (chosen w fs xs)
chosen-most size m w [] h xs = none m
chosen-most size m w (f ∷ []) h xs = h.0 xs
chosen-most size m zero (f ∷ g ∷ fs) h xs = h.0 xs
chosen-most size m (suc w) (f ∷ g ∷ fs) h xs = chosen-most size m w (g ∷ fs) h.1 xs

branched-most : (size : ℕ → ℕ) (m : ℕ) (fs : List Meaning) → AllMost size m fs → MeansMost size m (branched fs)
branched-most size m fs h [] = none m
branched-most size m fs h (p ∷ xs) = number-most size m (value_of p) (λ w. chosen w fs xs) (λ w. chosen-most size m w fs h xs)

again-most : (size : ℕ → ℕ) (m : ℕ) (next : Meaning) → MeansMost size m next → MeansMost size m (again next)
again-most size m next h [] = none m
again-most size m next h (p ∷ ys) =
    number-most size m (value_of p) (λ w. if w == 0 then Returned ys [] else next ys) (λ w. if-most size m (w == 0) (Returned ys []) (next ys) (none m) (h ys))

turns-most : (size : ℕ → ℕ) (m n : ℕ) (body : Meaning) → MeansMost size m body → MeansMost size m (turns n body)
turns-most size m zero body h xs = none m
turns-most size m (suc n) body h xs = then-most size m (body xs) (again (turns n body)) (h xs) (again-most size m (turns n body) (turns-most size m n body h))

looped-most : (size : ℕ → ℕ) (m n : ℕ) (fs : List Meaning) → AllMost size m fs → MeansMost size m (looped n fs)
looped-most size m n [] h xs = none m
looped-most size m n (body ∷ fs) h xs = turns-most size m n body h.0 xs

act-most : (size : ℕ → ℕ) (m : ℕ) (c : Context) (op : Op) (fs : List Meaning) → CallsMost size m c.call (op_calls op) → AllMost size m fs → MeansMost size m (act c op fs)
act-most size m c (Apply f) fs calls h xs = calls f (0, omega arith, refl) xs
act-most size m c Gamma fs calls h xs = branched-most size m fs h xs
act-most size m c Theta fs calls h xs = looped-most size m c.bound fs h xs
act-most size m c (Const w) fs calls h xs = done-most size m c.addresses (Const w) xs
act-most size m c Undef fs calls h xs = done-most size m c.addresses Undef xs
act-most size m c (Local k) fs calls h xs = done-most size m c.addresses (Local k) xs
act-most size m c (Delta k) fs calls h xs = done-most size m c.addresses (Delta k) xs
act-most size m c (Bin op) fs calls h xs = done-most size m c.addresses (Bin op) xs
act-most size m c (Un op) fs calls h xs = done-most size m c.addresses (Un op) xs
act-most size m c (Load w) fs calls h xs = done-most size m c.addresses (Load w) xs
act-most size m c (Store w) fs calls h xs = done-most size m c.addresses (Store w) xs
act-most size m c (Clear k) fs calls h xs = done-most size m c.addresses (Clear k) xs
act-most size m c PtrEq fs calls h xs = done-most size m c.addresses PtrEq xs
act-most size m c Put fs calls h xs = done-most size m c.addresses Put xs
act-most size m c Exit fs calls h xs = done-most size m c.addresses Exit xs
act-most size m c Get fs calls h xs = done-most size m c.addresses Get xs

mutual
  region-most : (size : ℕ → ℕ) (m : ℕ) (c : Context) (r : RegionTree) → CallsMost size m c.call (region_calls r) → MeansMost size m (region_meaning c r)
  region-most size m c (region args nodes results) calls xs =
      then-most size m (nodes_run c nodes xs no_outputs) (λ o. Returned (map (read xs o) results) []) (nodes-most size m c nodes calls xs no_outputs) (λ o. none m)

  node-most : (size : ℕ → ℕ) (m : ℕ) (c : Context) (x : NodeTree) → CallsMost size m c.call (node_calls x) → (xs : List Datum) (o : Outputs) → AtMost size m (node_run c x xs o)
  node-most size m c (node id op inputs rs) calls xs o =
      act-most size m c op (meanings c rs) (λ f h. calls f (Contains-append_left (op_calls op) (regions_calls rs) f h))
      (regions-most size m c rs (λ f h. calls f (Contains-append_right (op_calls op) (regions_calls rs) f h))) (map (read xs o) inputs)

  nodes-most : (size : ℕ → ℕ) (m : ℕ) (c : Context) (ns : NodeTrees) → CallsMost size m c.call (nodes_calls ns) → (xs : List Datum) (o : Outputs) → AtMost size m (nodes_run c ns xs o)
  nodes-most size m c no_nodes calls xs o = none m
  nodes-most size m c (node_then x ns) calls xs o =
      then-most size m (node_run c x xs o) (λ ys. nodes_run c ns xs (extended o (id_of x) ys))
      (node-most size m c x (λ f h. calls f (Contains-append_left (node_calls x) (nodes_calls ns) f h)) xs o)
      (λ ys. nodes-most size m c ns (λ f h. calls f (Contains-append_right (node_calls x) (nodes_calls ns) f h)) xs (extended o (id_of x) ys))

  regions-most : (size : ℕ → ℕ) (m : ℕ) (c : Context) (rs : RegionTrees) → CallsMost size m c.call (regions_calls rs) → AllMost size m (meanings c rs)
  regions-most size m c no_regions calls = tt
  regions-most size m c (region_then r rs) calls = (
    region-most size m c r (λ f h. calls f (Contains-append_left (region_calls r) (regions_calls rs) f h)),
    regions-most size m c rs
        (λ f h. calls f (Contains-append_right (region_calls r) (regions_calls rs) f h)),
  )

-- ---- calls and programs

-- the data that a lambda's body takes: the memory has its objects
abbrev given-objects : PlainLambda → Blocks → List Datum → List Datum
given-objects l b xs = changed_at l.params (with_memory (λ k. k ++ opened (shapes_of l.objects))) xs

module _ (ls : List PlainLambda) (sizes : List ℕ) (depths : List (Option ℕ)) (are : IsDepth ls sizes depths) where
  abbrev size : ℕ → ℕ
  size f = slice_index_or sizes f 0

  there : (f d : ℕ) → depth_at depths f ≡ Some d → slice_get ls f ≡ None → ⊥
  there f d e none =
      elim (cases_lt f (length ls)) [
        | inl inside ↦
            let some = slice_get-get_or ls f no_lambda inside in
            cc
        | inr past ↦ let out : depth_at depths f ≡ None = get_or_past depths f None (omega (arith, past, are.counted)) in cc
      ]

  entered-most : (global : ℕ → Value) (n m : ℕ) (call : ℕ → Meaning) (l : PlainLambda) → CallsMost size m call (region_calls l.body) → MeansMost size m (entered n call global (Some l))
  entered-most global n m call l calls xs =
      memory-most size m (at_port xs l.params)
      (λ b. then_on (region_meaning (inside n call global l.objects b) l.body (given-objects l b xs)) (λ ys. Returned (changed_at 1 (with_memory (closed (length b) (length l.objects))) ys) []))
      (λ b. then-most size m (region_meaning (inside n call global l.objects b) l.body (given-objects l b xs))
      (λ ys. Returned (changed_at 1 (with_memory (closed (length b) (length l.objects))) ys) [])
      (region-most size m (inside n call global l.objects b) l.body calls (given-objects l b xs)) (λ ys. none m))

  applied-most : (global : ℕ → Value) (n f d : ℕ) → depth_at depths f ≡ Some d → MeansMost size d (applied ls global n f)
  applied-most global zero f d e xs = none d
  applied-most global (suc n) f d e xs = by (slice_get ls f) refl (applied-most global n)
    where
      by : (o : Option PlainLambda) → slice_get ls f ≡ o → ((g b : ℕ) → depth_at depths g ≡ Some b → MeansMost size b (applied ls global n g)) →
          AtMost size d (active f (entered n (applied ls global n) global o xs))
      by None p below = absurd (there f d e p)
      by (Some l) p below =
          let parts = frame-parts (size f) (most_of depths (region_calls l.body)) d (sym (are.each f l p) ∙ e) in
          let m = parts.0 in
          active-most size f m d (entered n (applied ls global n) global (Some l) xs) parts.2
          (entered-most global n m (applied ls global n) l (λ g h ys. let callee = most-parts depths (region_calls l.body) m parts.1 g h in up (deepest size (events (applied ls global n g ys)))
          callee.0 m (below g callee.0 callee.1 ys) callee.2) xs)

  program-most : (omega' : PlainOmega) (main d n : ℕ) (i : List ℕ) → depth_at depths main ≡ Some d → AtMost size d (started n omega' ls (Some main) i)
  program-most omega' main d n i e =
      let taken = memory (first_memory omega'.deltas) ∷ input i ∷ [] in
      then-most size d (lambda_at n ls (global_of omega'.deltas) main taken) finished (applied-most (global_of omega'.deltas) (suc n) main d e taken)
      (λ ys. number-most size d (value_at ys 0) (λ w. Exited [] (w % 256)) (λ w. none d))

pub stacks_are_bounded : StacksAreBounded
stacks_are_bounded ls sizes depths are program main d named e n i =
    subst (λ o. deepest (λ f. slice_index_or sizes f 0) (events (started n program ls o i)) ≤ d) (sym named) (program-most ls sizes depths are program main d n i e)
