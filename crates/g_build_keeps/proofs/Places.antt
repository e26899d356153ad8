-- Places: a variable or an address on both sides, and what is read and written there.
use Rattle.std.proofs.Common.{◌≡◌, ◌≤◌, ◌<◌, ℕ, suc, List, [], ◌∷◌, refl, sym, ap, ◌∙◌, subst, arith}
use Rattle.std.specs.Prelude.{Bool, true, false, cond, Some, Option, None, option_map, slice_set}
use Rattle.val_core.specs.declared.values.Value.{Value}
use Rattle.val_core.specs.declared.values.Value.TheVariants.{Num, At, Bad}
use Rattle.val_core.specs.Memory.{Memory as Blocks, load, store, takes_store, block_named, block_changed, written}
use Rattle.val_core.specs.Refinement.{Direction}
use Rattle.val_core.specs.Answers.{Returned, on_defined}
use Rattle.c_type.specs.declared.scalar.Scalar.TheVariants as scalar
use Rattle.c_type.specs.Trees.{TypeTree, void_type, scalar_type, pointer_to, array_of, struct_type}
use Rattle.c_typed.specs.Objects.{access_width}
use Rattle.c_mean.specs.State as source
use Rattle.c_mean.specs.State.{Slot, State, gives, used, extended, member_address, with_slots}
use Rattle.c_mean.specs.Expressions as source_expr
use Rattle.c_mean.specs.Expressions.{Located, found, slot_value, slot_get}
use Rattle.c_mean.specs.Statements.{Flow}
use Rattle.g_graph.specs.declared.op.Op.TheVariants.{Load, Store}
use Rattle.g_graph.specs.declared.op.Origin.{Origin}
use Rattle.g_graph.specs.declared.op.Origin.TheVariants.{Out}
use Rattle.g_graph.specs.Plain.{node, no_regions}
use Rattle.g_build_def.specs.Writer.{SlotOrigin, held, object, variable_at, variable_set, slot_origin, Point, with_variables, Built, given}
use Rattle.g_build_def.specs.Operations.{local_made, load_made, store_made, read_made, at_offset_made, extended_made}
use Rattle.g_build_def.specs.Places.{Spot, in_slot, at_address, address_spot, slot_spot, member_spot, spot_address, spot_read, spot_written}
use Rattle.g_build_def.specs.Laws.{Later}
use Rattle.g_mean.specs.Data.{Datum, val, memory, value_of, on_memory}
use Rattle.g_mean.specs.Meaning as graph
use Rattle.g_mean.specs.Meaning.{Context, Outputs, extended as outputs_extended, read, node_run}
use Rattle.g_build_keeps.proofs.Readings.{below-later, Keeps, stay-keeps, extended-here, extended-stay, IsSoundContext, IsSoundRun}
use Rattle.g_build_keeps.proofs.Toolbox.{Post, Ran, Simulates, sim-given, sim-node, sim-bind}
use Rattle.g_build_keeps.proofs.Held.{Held, held-later, held-is, IsThere, SlotHeld, slot-held, IsCarried, carried-below, IsValueSlot, value-slot-later, holds-set, Frame, Holds}
use Rattle.g_build_keeps.proofs.Nodes.{Values, Line, line-node, local-line}
use Rattle.g_build_keeps.proofs.Unary.{holds-states, used-line, extended-line}
use Rattle.g_build_keeps.proofs.Pointers.{member-line}

-- a value variable at the same slot, or an address that is carried
abbrev pub SpotHeld : (rd : Origin → Datum) (n : ℕ) → List SlotOrigin → source_expr.Spot → Spot → Type 0
SpotHeld rd n xs (source_expr.in_slot k) (in_slot j) = (k ≡ j) × IsValueSlot (variable_at xs k)
SpotHeld rd n xs (source_expr.at_address a) (at_address p) = Held rd n a p
SpotHeld rd n xs _ _ = ⊥

abbrev pub Places : Frame → Flow → Post Located Spot
Places f flow x rd t v = Holds f flow rd t.next t.carried x.state × SpotHeld rd t.next t.carried.variables x.spot v

pub spot-later : (rd rd' : Origin → Datum) (s t : Point) (x : source_expr.Spot) (y : Spot) → Keeps s.next rd rd' → s.next ≤ t.next → Later s t → SpotHeld rd s.next s.carried.variables x y →
    SpotHeld rd' t.next t.carried.variables x y
spot-later rd rd' s t (source_expr.in_slot k) (in_slot j) keep le l h = (h.0, value-slot-later s t k l h.1)
spot-later rd rd' s t (source_expr.at_address a) (at_address p) keep le l h = held-later rd rd' s.next t.next a p keep le h
spot-later rd rd' s t _ _ keep le l h = absurd h

value-slot : (k : ℕ) (xs : List SlotOrigin) (y : Option SlotOrigin) → variable_at xs k ≡ y → IsValueSlot y → IsValueSlot (variable_at xs k)
value-slot k xs y e h = subst IsValueSlot (sym e) h

-- what has no value is not extended to one
extended-bad : (ty : TypeTree) → extended ty Bad ≡ Bad
extended-bad (scalar_type scalar.SignedChar) = refl
extended-bad (scalar_type scalar.Short) = refl
extended-bad (scalar_type scalar.Char) = refl
extended-bad (scalar_type scalar.UnsignedChar) = refl
extended-bad (scalar_type scalar.UnsignedShort) = refl
extended-bad (scalar_type scalar.Int) = refl
extended-bad (scalar_type scalar.UnsignedInt) = refl
extended-bad void_type = refl
extended-bad (pointer_to u) = refl
extended-bad (array_of u n) = refl
extended-bad (struct_type n) = refl

-- what is stored is there
stored-there : (width : ℕ) (a v : Value) (k m : Blocks) → store width a v k ≡ Some m → IsThere v
stored-there width (At b n) (Num x) k m z = tt
stored-there width (At b n) (At e x) k m z = tt
stored-there width (At b n) Bad k m z = by (takes_store width n (block_named b k)) z
  where
    by : (t : Bool) → option_map (λ kept_value. block_changed b.number (written width n kept_value) k) (cond t None None) ≡ Some m → ⊥
    by true z = absurd cc
    by false z = absurd cc
stored-there width (Num x) v k m z = absurd cc
stored-there width Bad v k m z = absurd cc

module _ (w : Direction) (d : Context) (f : Frame) (flow : Flow) (c : IsSoundContext d) (xs : List Datum) (o : Outputs) (t : IsSoundRun xs o) (s : Point) (q : State)
    (h : Holds f flow (read xs o) s.next s.carried q) where
  -- ---- which place

  -- an address that is computed
  pub address-line : (b : Built Origin) (a : Value) → Simulates w d (Line f flow q a) xs o s.next b (Returned tt []) →
      Simulates w d (Places f flow) xs o s.next (address_spot b) (found q (source_expr.at_address a))
  address-line b a k =
      sim-bind w d c (Line f flow q a) (Places f flow) xs o s.next t b (λ p u. given (at_address p) u) (Returned tt []) (λ _. found q (source_expr.at_address a)) k
      (λ y o' t' r. sim-given w d (Places f flow) xs o' b.after.next (at_address b.value) b.after (record { spot = source_expr.at_address a; state = q }) (omega arith) r.post)

  pub slot-spot-sim : (e : source_expr.Context) → e.addresses ≡ d.addresses → (k : ℕ) → k < f.count →
      Simulates w d (Places f flow) xs o s.next (slot_spot k (variable_at s.carried.variables k) s) (source_expr.slot_spot e k (slot_get q k) q)
  slot-spot-sim e same k low =
      by (variable_at s.carried.variables k) (slot_get q k) refl (carried-below s.carried.variables k (subst (λ n. k < n) (sym h.count) low))
      (slot-held (read xs o) s.next f.waiting s.carried.variables f.numbers q.slots k h.slots)
    where
      by : (y : Option SlotOrigin) (x : Option Slot) → variable_at s.carried.variables k ≡ y → IsCarried y → SlotHeld (read xs o) s.next y x →
          Simulates w d (Places f flow) xs o s.next (slot_spot k y s) (source_expr.slot_spot e k x q)
      by None x z t g = absurd t
      by (Some (held p)) (Some (source.holds v)) z t g =
          sim-given w d (Places f flow) xs o s.next (in_slot k) s (record { spot = source_expr.in_slot k; state = q }) (omega arith)
          (h, (refl, value-slot k s.carried.variables (Some (held p)) z tt))
      by (Some (object i)) (Some (source.object j)) z t g =
          subst (λ a. Simulates w d (Places f flow) xs o s.next (address_spot (local_made i s)) (found q (source_expr.at_address a)))
          (ap (λ a. a.local i) (sym same) ∙ ap (λ n. e.addresses.local n) (sym g))
          (address-line (local_made i s) (d.addresses.local i) (local-line w d f flow xs o s q h i))
      by _ _ z t g = absurd g

  pub member-spot-sim : (x : source_expr.Spot) (y : Spot) (n : ℕ) → SpotHeld (read xs o) s.next s.carried.variables x y →
      Simulates w d (Places f flow) xs o s.next (member_spot y n s) (source_expr.member_spot x n q)
  member-spot-sim (source_expr.in_slot k) (in_slot j) n g = tt
  member-spot-sim (source_expr.at_address a) (at_address p) n g = by (member_address a n q.memory) refl
    where
      by : (x : Option Value) → member_address a n q.memory ≡ x →
          Simulates w d (Places f flow) xs o s.next (address_spot (at_offset_made p n s)) (on_defined x (λ v. found q (source_expr.at_address v)))
      by None z = tt
      by (Some v) z = address-line (at_offset_made p n s) v (member-line w d f flow c xs o t s q h p a n v g z)
  member-spot-sim _ _ n g = absurd g

  -- ---- reading

  pub spot-address-sim : (x : source_expr.Spot) (y : Spot) → SpotHeld (read xs o) s.next s.carried.variables x y →
      Simulates w d (Values f flow) xs o s.next (spot_address y s) (source_expr.address_of x q)
  spot-address-sim (source_expr.in_slot k) (in_slot j) g = tt
  spot-address-sim (source_expr.at_address a) (at_address p) g = sim-given w d (Values f flow) xs o s.next p s (record { value = a; state = q }) (omega arith) (h, g)
  spot-address-sim _ _ g = absurd g

  -- a variable's value that is there
  slot-read-sim : (y : Option SlotOrigin) (x : Option Slot) → IsValueSlot y → SlotHeld (read xs o) s.next y x →
      Simulates w d (Values f flow) xs o s.next (given (slot_origin y) s) (used (slot_value x) (gives q))
  slot-read-sim None x t g = absurd t
  slot-read-sim (Some (held p)) (Some (source.holds (Num n))) t g = sim-given w d (Values f flow) xs o s.next p s (record { value = Num n; state = q }) (omega arith) (h, g)
  slot-read-sim (Some (held p)) (Some (source.holds (At b n))) t g = sim-given w d (Values f flow) xs o s.next p s (record { value = At b n; state = q }) (omega arith) (h, g)
  slot-read-sim (Some (held p)) (Some (source.holds Bad)) t g = tt
  slot-read-sim (Some (object i)) x t g = absurd t
  slot-read-sim _ _ t g = absurd g

  load-line : (width : ℕ) (p : Origin) (a v : Value) → Held (read xs o) s.next a p → load width a q.memory ≡ Some v →
      Simulates w d (Line f flow q v) xs o s.next (load_made width p s) (Returned tt [])
  load-line width p (At b n) v g z = line-node w d f flow xs o s (Load width) (p ∷ s.carried.memory ∷ []) q v h run
    where
      run : node_run d (node s.next (Load width) (p ∷ s.carried.memory ∷ []) no_regions) xs o ≡ Returned (val v ∷ []) []
      run =
          (λ i. on_memory (h.memory i) (λ m. on_defined (load width (value_of (held-is (read xs o) s.next (At b n) p tt g i)) m) graph.given))
          ∙ ap (λ a. on_defined a graph.given) z
  load-line width p (Num n) v g z = absurd cc
  load-line width p Bad v g z = absurd cc

  read-sim : (ty : TypeTree) (p : Origin) (a : Value) → Held (read xs o) s.next a p →
      Simulates w d (Values f flow) xs o s.next (read_made ty p s) (on_defined (load (access_width ty) a q.memory) (λ v. used (extended ty v) (gives q)))
  read-sim ty p a g = by (load (access_width ty) a q.memory) refl
    where
      first : Built Origin
      first = load_made (access_width ty) p s

      by : (x : Option Value) → load (access_width ty) a q.memory ≡ x → Simulates w d (Values f flow) xs o s.next (read_made ty p s) (on_defined x (λ v. used (extended ty v) (gives q)))
      by None z = tt
      by (Some v) z =
          sim-bind w d c (Line f flow q v) (Values f flow) xs o s.next t first (extended_made ty) (Returned tt []) (λ _. used (extended ty v) (gives q))
          (load-line (access_width ty) p a v g z) (λ y o' t' r. after v o' t' r)
        where
          after : (v : Value) (o' : Outputs) → IsSoundRun xs o' → Ran (Line f flow q v) xs o s.next first tt o' →
              Simulates w d (Values f flow) xs o' (suc s.next) (extended_made ty (Out s.next 0) first.after) (used (extended ty v) (gives q))
          after v o' t' r =
              by-value v r.post.1
            where
              by-value : (v : Value) → Held (read xs o') (suc s.next) v (Out s.next 0) →
                  Simulates w d (Values f flow) xs o' (suc s.next) (extended_made ty (Out s.next 0) first.after) (used (extended ty v) (gives q))
              by-value (Num n) k =
                  used-line w d f flow xs o' (suc s.next) (extended_made ty (Out s.next 0) first.after) q (extended ty (Num n))
                  (extended-line w d f flow c xs o' t' first.after q r.post.0 ty (Out s.next 0) (Num n) (held-is (read xs o') (suc s.next) (Num n) (Out s.next 0) tt k) k.below)
              by-value (At b n) k =
                  used-line w d f flow xs o' (suc s.next) (extended_made ty (Out s.next 0) first.after) q (extended ty (At b n))
                  (extended-line w d f flow c xs o' t' first.after q r.post.0 ty (Out s.next 0) (At b n) (held-is (read xs o') (suc s.next) (At b n) (Out s.next 0) tt k) k.below)
              by-value Bad k =
                  subst (λ v. Simulates w d (Values f flow) xs o' (suc s.next) (extended_made ty (Out s.next 0) first.after) (used v (gives q))) (sym (extended-bad ty)) tt

  pub spot-read-sim : (ty : TypeTree) (x : source_expr.Spot) (y : Spot) → SpotHeld (read xs o) s.next s.carried.variables x y →
      Simulates w d (Values f flow) xs o s.next (spot_read ty y s) (source_expr.spot_read ty x q)
  spot-read-sim ty (source_expr.in_slot k) (in_slot j) g =
      subst (λ i. Simulates w d (Values f flow) xs o s.next (spot_read ty (in_slot i) s) (source_expr.spot_read ty (source_expr.in_slot k) q)) g.0
      (slot-read-sim (variable_at s.carried.variables k) (slot_get q k) g.1 (slot-held (read xs o) s.next f.waiting s.carried.variables f.numbers q.slots k h.slots))
  spot-read-sim ty (source_expr.at_address a) (at_address p) g = read-sim ty p a g
  spot-read-sim ty _ _ g = absurd g

  -- ---- writing

  pub store-sim : (width : ℕ) (p r : Origin) (a v : Value) (m : Blocks) → Held (read xs o) s.next a p → Held (read xs o) s.next v r → store width a v q.memory ≡ Some m →
      Simulates w d (Values f flow) xs o s.next (store_made width p r s) (gives (source.with_memory q m) v)
  store-sim width p r (At b n) v m g g' z =
      sim-node w d (Values f flow) xs o s (Store width) (p ∷ r ∷ s.carried.memory ∷ []) r (Out s.next 0) s.carried.io (record { value = v; state = source.with_memory q m }) (memory m ∷ []) [] run (
        holds-states f flow (read xs o) (read xs o1) s q m q.input (Out s.next 0) s.carried.io same h (extended-here o s.next (memory m ∷ []) 0) (omega arith) (same s.carried.io h.io_below ∙ h.io)
            (below-later s.next (suc s.next) s.carried.io (omega arith) h.io_below),
        held-later (read xs o) (read xs o1) s.next (suc s.next) v r same (omega arith) g',
      )
    where
      o1 : Outputs
      o1 = outputs_extended o s.next (memory m ∷ [])

      same : Keeps s.next (read xs o) (read xs o1)
      same = stay-keeps s.next xs o o1 (extended-stay o s.next (memory m ∷ []))

      there : IsThere v
      there = stored-there width (At b n) v q.memory m z

      run : node_run d (node s.next (Store width) (p ∷ r ∷ s.carried.memory ∷ []) no_regions) xs o ≡ Returned (memory m ∷ []) []
      run =
          (λ i. on_memory (h.memory i) (λ k. on_defined (store width (value_of (held-is (read xs o) s.next (At b n) p tt g i))
          (value_of (held-is (read xs o) s.next v r there g' i)) k) graph.given_memory))
          ∙ ap (λ x. on_defined x graph.given_memory) z
  store-sim width p r (Num n) v m g g' z = absurd cc
  store-sim width p r Bad v m g g' z = absurd cc

  pub spot-written-sim : (ty : TypeTree) (x : source_expr.Spot) (y : Spot) (v : Value) (r : Origin) → SpotHeld (read xs o) s.next s.carried.variables x y → Held (read xs o) s.next v r →
      Simulates w d (Values f flow) xs o s.next (spot_written ty y r s) (source_expr.spot_written ty x v q)
  spot-written-sim ty (source_expr.in_slot k) (in_slot j) v r g g' =
      subst (λ i. Simulates w d (Values f flow) xs o s.next (spot_written ty (in_slot i) r s) (source_expr.spot_written ty (source_expr.in_slot k) v q)) g.0
      (sim-given w d (Values f flow) xs o s.next r (with_variables s (variable_set s.carried.variables k r)) (record { value = v; state = with_slots q (slice_set q.slots k (source.holds v)) })
      (omega arith) (holds-set f flow (read xs o) s.next s q k v r g.1 g' h, g'))
  spot-written-sim ty (source_expr.at_address a) (at_address p) v r g g' = by (store (access_width ty) a v q.memory) refl
    where
      by : (x : Option Blocks) → store (access_width ty) a v q.memory ≡ x →
          Simulates w d (Values f flow) xs o s.next (store_made (access_width ty) p r s) (on_defined x (λ m. gives (source.with_memory q m) v))
      by None z = tt
      by (Some m) z = store-sim (access_width ty) p r a v m g g' z
  spot-written-sim ty _ _ v r g g' = absurd g
