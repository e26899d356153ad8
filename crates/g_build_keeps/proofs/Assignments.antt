-- Assignments, compound ones, and `++` and `--`, from what is claimed of their operands.
use Rattle.std.proofs.Common.{◌≡◌, ℕ, List, refl, sym, subst, arith}
use Rattle.std.specs.Prelude.{Bool, true, false, if◌then◌else◌, Some, Option, None}
use Rattle.val_core.specs.declared.values.Value.{Value}
use Rattle.val_core.specs.declared.values.Value.TheVariants.{Num, At, Bad}
use Rattle.val_core.specs.Refinement.{Direction}
use Rattle.val_core.specs.Answers.{Answer, then_on, on_defined}
use Rattle.c_type.specs.Layout.{Definitions}
use Rattle.c_type.specs.declared.scalar.Scalar.TheVariants as scalar
use Rattle.c_type.specs.Trees.{TypeTree, void_type, scalar_type, pointer_to, array_of, struct_type}
use Rattle.c_typed.specs.declared.operator.CompoundOp.{CompoundOp}
use Rattle.c_typed.specs.declared.operator.IncDec.{IncDec}
use Rattle.c_typed.specs.Typed.{ExprTree, assign, compound, inc_dec, PlaceTree}
use Rattle.c_typed.specs.WellTyped.{Signature, IsScalar, type_of, CompoundFits, IncDecFits}
use Rattle.c_mean.specs.State.{State, Valued, gives, used, converted}
use Rattle.c_mean.specs.Expressions as source
use Rattle.c_mean.specs.Expressions.{expr_run, form_run, place_run, compound_done, stepped}
use Rattle.c_mean.specs.Statements.{Flow}
use Rattle.g_graph.specs.declared.op.Origin.{Origin}
use Rattle.g_graph.specs.Plain.{nodes_of}
use Rattle.g_build_def.specs.Writer.{Point, Built, given, bind}
use Rattle.g_build_def.specs.Operations.{converted_made}
use Rattle.g_build_def.specs.Places.{Spot, spot_read, spot_written}
use Rattle.g_build_def.specs.Expressions.{compound_made, stepped_made, expr_made, form_made, place_made}
use Rattle.g_build_def.specs.Laws.{Later}
use Rattle.g_build_def.proofs.lemmas.LaterExpressions.{converted_later, expr_later, spot_read_later, compound_later, stepped_later}
use Rattle.g_mean.specs.Data.{Datum}
use Rattle.g_mean.specs.Meaning.{Context, Outputs, read as read_origin, nodes_run}
use Rattle.g_build_keeps.proofs.Readings.{stay-keeps, IsSoundRun}
use Rattle.g_build_keeps.proofs.Toolbox.{Post, Ran, Simulates, sim-given, sim-bind}
use Rattle.g_build_keeps.proofs.Held.{Held, held-is, IsThere, shown-held, Frame, Holds}
use Rattle.g_build_keeps.proofs.Nodes.{Values, Line, line-then, held-after}
use Rattle.g_build_keeps.proofs.Unary.{used-there, converted-line}
use Rattle.g_build_keeps.proofs.Places.{SpotHeld, Places, spot-later, spot-read-sim, spot-written-sim}
use Rattle.g_build_keeps.proofs.Binary.{operand-scalar, compound-line, step-line}
use Rattle.g_build_keeps.proofs.Claims.{ContextsFit, Typed}
use Rattle.g_build_keeps.proofs.Forms.{ExprClaim, FormClaim, PlaceClaim, typed-of}

-- a place that is held when a part begins is held when it has run
spot-after : {B A : Type 0} → (Q : Post B A) (xs : List Datum) (o : Outputs) (s : Point) (b : Built A) (y : B) (o' : Outputs) → Ran Q xs o s.next b y o' → Later s b.after → (x : source.Spot)
    (z : Spot) →
    SpotHeld (read_origin xs o) s.next s.carried.variables x z → SpotHeld (read_origin xs o') b.after.next b.after.carried.variables x z
spot-after Q xs o s b y o' r l x z h = spot-later (read_origin xs o) (read_origin xs o') s b.after x z (stay-keeps s.next xs o o' r.stay) r.rises l h

-- what has no value is not converted to one
converted-bad : (t : TypeTree) → converted t Bad ≡ Bad
converted-bad (scalar_type scalar.SignedChar) = refl
converted-bad (scalar_type scalar.Short) = refl
converted-bad (scalar_type scalar.Char) = refl
converted-bad (scalar_type scalar.UnsignedChar) = refl
converted-bad (scalar_type scalar.UnsignedShort) = refl
converted-bad (scalar_type scalar.Int) = refl
converted-bad (scalar_type scalar.UnsignedInt) = refl
converted-bad void_type = refl
converted-bad (pointer_to u) = refl
converted-bad (array_of u n) = refl
converted-bad (struct_type n) = refl

module _ (w : Direction) (functions : List Signature) (c : source.Context) (d : Context) (fit : ContextsFit w functions c d) (f : Frame) (flow : Flow) where
  pub assign-form : (t : TypeTree) (p : PlaceTree) (e : ExprTree) → IsScalar (type_of e) → PlaceClaim w functions c d fit f flow p → ExprClaim w functions c d fit f flow e →
      FormClaim w functions c d fit f flow t (assign p e)
  assign-form t p e scalar cp ce xs o r s q h =
      typed-of w functions c d fit f flow t xs o s.next (form_made t (assign p e) s) (form_run c t (assign p e) q)
      (sim-bind w d fit.sound (Places f flow) (Values f flow) xs o s.next r first (λ x u. bind (expr_made e u) (spot_written t x)) (place_run c p q)
      (λ x. then_on (expr_run c e x.state) (λ y. used y.value (λ v. source.spot_written t x.spot v y.state))) (cp xs o r s q h) (λ x o' r' m.
      sim-bind w d fit.sound (Typed f flow (type_of e)) (Values f flow) xs o' first.after.next r' second (spot_written t first.value) (expr_run c e x.state)
      (λ y. used y.value (λ v. source.spot_written t x.spot v y.state)) (ce xs o' r' first.after x.state m.post.0) (λ y o'' r'' m'.
      used-there w (Ran (Values f flow) xs o'' second.after.next (spot_written t first.value second.value second.after)) y.value (λ v. source.spot_written t x.spot v y.state)
      (nodes_run d (nodes_of (spot_written t first.value second.value second.after).nodes) xs o'') (λ there.
      spot-written-sim w d f flow fit.sound xs o'' r'' second.after y.state m'.post.0 t x.spot first.value y.value second.value
      (spot-after (Typed f flow (type_of e)) xs o' first.after second y o'' m' (expr_later e first.after) x.spot first.value m.post.1)
      (shown-held (read_origin xs o'') second.after.next (type_of e) y.value second.value scalar m'.post.1)))))
    where
      first : Built Spot
      first = place_made p s

      second : Built Origin
      second = expr_made e first.after

  -- What goes on from a new value, converted to the type of a place: the value that is converted is carried.
  converted-then : (t : TypeTree) (xs : List Datum) (o : Outputs) → IsSoundRun xs o → (s : Point) (q : State) → Holds f flow (read_origin xs o) s.next s.carried q → (v : Value) (p : Origin) →
      Held (read_origin xs o) s.next v p → (k : Origin → Point → Built Origin) (next : Value → Answer Valued) →
      ((o' : Outputs) → IsSoundRun xs o' → Ran (Line f flow q (converted t v)) xs o s.next (converted_made t p s) tt o' →
      Simulates w d (Values f flow) xs o' (converted_made t p s).after.next (k (converted_made t p s).value (converted_made t p s).after) (next (converted t v))) →
      Simulates w d (Values f flow) xs o s.next (bind (converted_made t p s) k) (used (converted t v) next)
  converted-then t xs o r s q h v p held k next go = by v held go
    where
      made : Built Origin
      made = converted_made t p s

      there : (v : Value) → IsThere v → Held (read_origin xs o) s.next v p →
          ((o' : Outputs) → IsSoundRun xs o' → Ran (Line f flow q (converted t v)) xs o s.next made tt o' → Simulates w d (Values f flow) xs o' made.after.next (k made.value made.after)
          (next (converted t v))) →
          Simulates w d (Values f flow) xs o s.next (bind made k) (used (converted t v) next)
      there v is held go =
          line-then w d f flow fit.sound (Values f flow) xs o s.next r made k q (converted t v) (used (converted t v) next)
          (converted-line w d f flow fit.sound xs o r s q h t p v (held-is (read_origin xs o) s.next v p is held) held.below) (λ o' r' m.
          used-there w (Ran (Values f flow) xs o' made.after.next (k made.value made.after)) (converted t v) next (nodes_run d (nodes_of (k made.value made.after).nodes) xs o') (λ is'. go o' r' m))

      by : (v : Value) → Held (read_origin xs o) s.next v p →
          ((o' : Outputs) → IsSoundRun xs o' → Ran (Line f flow q (converted t v)) xs o s.next made tt o' → Simulates w d (Values f flow) xs o' made.after.next (k made.value made.after)
          (next (converted t v))) →
          Simulates w d (Values f flow) xs o s.next (bind made k) (used (converted t v) next)
      by (Num n) held go = there (Num n) tt held go
      by (At b n) held go = there (At b n) tt held go
      by Bad held go = subst (λ v. Simulates w d (Values f flow) xs o s.next (bind made k) (used v next)) (sym (converted-bad t)) tt

  pub compound-form : (defs : Definitions) (t : TypeTree) (k : CompoundOp) (p : PlaceTree) (e : ExprTree) → CompoundFits defs k t (type_of e) → PlaceClaim w functions c d fit f flow p →
      ExprClaim w functions c d fit f flow e → FormClaim w functions c d fit f flow t (compound k p e)
  compound-form defs t k p e fits cp ce xs o r s q h =
      typed-of w functions c d fit f flow t xs o s.next (form_made t (compound k p e) s) (form_run c t (compound k p e) q)
      (sim-bind w d fit.sound (Places f flow) (Values f flow) xs o s.next r first (λ x u. bind (spot_read t x u) (λ old v. bind (expr_made e v) (λ y z. bind (compound_made k old y z) (write x))))
      (place_run c p q)
      (λ x. then_on (source.spot_read t x.spot x.state) (λ old. then_on (expr_run c e old.state) (λ y. on_defined (compound_done k (type_of e) old.value y.value y.state) (written x.spot y.state))))
      (cp xs o r s q h) (λ x o1 r1 m1.
      sim-bind w d fit.sound (Values f flow) (Values f flow) xs o1 first.after.next r1 second (λ old v. bind (expr_made e v) (λ y z. bind (compound_made k old y z) (write first.value)))
      (source.spot_read t x.spot x.state) (λ old. then_on (expr_run c e old.state) (λ y. on_defined (compound_done k (type_of e) old.value y.value y.state) (written x.spot y.state)))
      (spot-read-sim w d f flow fit.sound xs o1 r1 first.after x.state m1.post.0 t x.spot first.value m1.post.1) (λ old o2 r2 m2.
      sim-bind w d fit.sound (Typed f flow (type_of e)) (Values f flow) xs o2 second.after.next r2 third (λ y z. bind (compound_made k second.value y z) (write first.value)) (expr_run c e old.state)
      (λ y. on_defined (compound_done k (type_of e) old.value y.value y.state) (written x.spot y.state)) (ce xs o2 r2 second.after old.state m2.post.0) (λ y o3 r3 m3.
      last x.spot old.value y o3 r3 m3.post.0
      (held-after (Typed f flow (type_of e)) xs o2 second.after.next third y o3 m3 old.value second.value m2.post.1)
      (shown-held (read_origin xs o3) third.after.next (type_of e) y.value third.value (operand-scalar defs k t (type_of e) fits) m3.post.1)
      (spot-after (Typed f flow (type_of e)) xs o2 second.after third y o3 m3 (expr_later e second.after) x.spot first.value
      (spot-after (Values f flow) xs o1 first.after second old o2 m2 (spot_read_later t first.value first.after) x.spot first.value m1.post.1))
      (compound_done k (type_of e) old.value y.value y.state) refl))))
    where
      first : Built Spot
      first = place_made p s

      second : Built Origin
      second = spot_read t first.value first.after

      third : Built Origin
      third = expr_made e second.after

      fourth : Built Origin
      fourth = compound_made k second.value third.value third.after

      write : Spot → Origin → Point → Built Origin
      write x new z = bind (converted_made t new z) (spot_written t x)

      written : source.Spot → State → Value → Answer Valued
      written x u v = used (converted t v) (λ y. source.spot_written t x y u)

      last : (x : source.Spot) (old : Value) (y : Valued) (o3 : Outputs) → IsSoundRun xs o3 → Holds f flow (read_origin xs o3) third.after.next third.after.carried y.state →
          Held (read_origin xs o3) third.after.next old second.value → Held (read_origin xs o3) third.after.next y.value third.value →
          SpotHeld (read_origin xs o3) third.after.next third.after.carried.variables x first.value → (z : Option Value) → compound_done k (type_of e) old y.value y.state ≡ z →
          Simulates w d (Values f flow) xs o3 third.after.next (bind fourth (λ new z. bind (converted_made t new z) (spot_written t first.value)))
          (on_defined z (λ v. used (converted t v) (λ u. source.spot_written t x u y.state)))
      last x old y o3 r3 h3 g g' spot None z = tt
      last x old y o3 r3 h3 g g' spot (Some v) z =
          line-then w d f flow fit.sound (Values f flow) xs o3 third.after.next r3 fourth (λ new z. bind (converted_made t new z) (spot_written t first.value)) y.state v
          (used (converted t v) (λ u. source.spot_written t x u y.state))
          (compound-line w d f flow fit.sound xs o3 r3 third.after y.state h3 k (type_of e) second.value third.value old y.value v g g' z) (λ o4 r4 m4.
          converted-then t xs o4 r4 fourth.after y.state m4.post.0 v fourth.value m4.post.1 (spot_written t first.value) (λ u. source.spot_written t x u y.state) (λ o5 r5 m5.
          spot-written-sim w d f flow fit.sound xs o5 r5 (converted_made t fourth.value fourth.after).after y.state m5.post.0 t x first.value (converted t v)
          (converted_made t fourth.value fourth.after).value
          (spot-after (Line f flow y.state (converted t v)) xs o4 fourth.after (converted_made t fourth.value fourth.after) tt o5 m5 (converted_later t fourth.value fourth.after) x first.value
          (spot-after (Line f flow y.state v) xs o3 third.after fourth tt o4 m4 (compound_later k second.value third.value third.after) x first.value spot)) m5.post.1))

  pub inc-dec-form : (defs : Definitions) (t : TypeTree) (i : IncDec) (p : PlaceTree) → IncDecFits defs i.by t → PlaceClaim w functions c d fit f flow p →
      FormClaim w functions c d fit f flow t (inc_dec i p)
  inc-dec-form defs t i p fits cp xs o r s q h =
      typed-of w functions c d fit f flow t xs o s.next (form_made t (inc_dec i p) s) (form_run c t (inc_dec i p) q)
      (sim-bind w d fit.sound (Places f flow) (Values f flow) xs o s.next r first
      (λ x u. bind (spot_read t x u) (λ old v. bind (stepped_made i old v) (λ new y. bind (converted_made t new y)
      (λ c z. bind (spot_written t x c z) (λ _ y. given (if i.gives_old then old else c) y)))))
      (place_run c p q) (λ x. then_on (source.spot_read t x.spot x.state) (λ old. on_defined (stepped i t old.value old.state) (written x.spot old))) (cp xs o r s q h) (λ x o1 r1 m1.
      sim-bind w d fit.sound (Values f flow) (Values f flow) xs o1 first.after.next r1 second
      (λ old v. bind (stepped_made i old v) (λ new y. bind (converted_made t new y) (λ c z. bind (spot_written t first.value c z) (λ _ y. given (if i.gives_old then old else c) y))))
      (source.spot_read t x.spot x.state) (λ old. on_defined (stepped i t old.value old.state) (written x.spot old))
      (spot-read-sim w d f flow fit.sound xs o1 r1 first.after x.state m1.post.0 t x.spot first.value m1.post.1) (λ old o2 r2 m2.
      last x.spot old o2 r2 m2.post.0 m2.post.1
      (spot-after (Values f flow) xs o1 first.after second old o2 m2 (spot_read_later t first.value first.after) x.spot first.value m1.post.1) (stepped i t old.value old.state) refl)))
    where
      first : Built Spot
      first = place_made p s

      second : Built Origin
      second = spot_read t first.value first.after

      third : Built Origin
      third = stepped_made i second.value second.after

      fourth : Built Origin
      fourth = converted_made t third.value third.after

      written : source.Spot → Valued → Value → Answer Valued
      written x old v = used (converted t v) (λ u. then_on (source.spot_written t x u old.state) (λ y. gives y.state (if i.gives_old then old.value else u)))

      ending : Origin → Point → Built Origin
      ending c z = bind (spot_written t first.value c z) (λ _ y. given (if i.gives_old then second.value else c) y)

      given-held : (rd : Origin → Datum) (n : ℕ) (b : Bool) (v u : Value) (p r : Origin) → Held rd n v p → Held rd n u r → Held rd n (if b then v else u) (if b then p else r)
      given-held rd n true v u p r g g' = g
      given-held rd n false v u p r g g' = g'

      last : (x : source.Spot) (old : Valued) (o2 : Outputs) → IsSoundRun xs o2 → Holds f flow (read_origin xs o2) second.after.next second.after.carried old.state →
          Held (read_origin xs o2) second.after.next old.value second.value → SpotHeld (read_origin xs o2) second.after.next second.after.carried.variables x first.value →
          (z : Option Value) → stepped i t old.value old.state ≡ z →
          Simulates w d (Values f flow) xs o2 second.after.next
          (bind third (λ new y. bind (converted_made t new y) (λ c z. bind (spot_written t first.value c z) (λ _ y. given (if i.gives_old then second.value else c) y)))) (on_defined z (written x old))
      last x old o2 r2 h2 g spot None z = tt
      last x old o2 r2 h2 g spot (Some v) z =
          line-then w d f flow fit.sound (Values f flow) xs o2 second.after.next r2 third (λ new y. bind (converted_made t new y) ending) old.state v (written x old v)
          (step-line w d f flow fit.sound xs o2 r2 second.after old.state h2 defs i t second.value old.value v fits g z) (λ o3 r3 m3.
          converted-then t xs o3 r3 third.after old.state m3.post.0 v third.value m3.post.1 ending
          (λ u. then_on (source.spot_written t x u old.state) (λ y. gives y.state (if i.gives_old then old.value else u))) (λ o4 r4 m4.
          let u : Value = converted t v in
          let fifth : Built Origin = spot_written t first.value fourth.value fourth.after in
          let before : Held (read_origin xs o4) fourth.after.next old.value second.value =
          held-after (Line f flow old.state u) xs o3 third.after.next fourth tt o4 m4 old.value second.value
          (held-after (Line f flow old.state v) xs o2 second.after.next third tt o3 m3 old.value second.value g) in
          sim-bind w d fit.sound (Values f flow) (Values f flow) xs o4 fourth.after.next r4 fifth (λ _ y. given (if i.gives_old then second.value else fourth.value) y)
          (source.spot_written t x u old.state) (λ y. gives y.state (if i.gives_old then old.value else u))
          (spot-written-sim w d f flow fit.sound xs o4 r4 fourth.after old.state m4.post.0 t x first.value u fourth.value
          (spot-after (Line f flow old.state u) xs o3 third.after fourth tt o4 m4 (converted_later t third.value third.after) x first.value
          (spot-after (Line f flow old.state v) xs o2 second.after third tt o3 m3 (stepped_later i second.value second.after) x first.value spot)) m4.post.1) (λ y o5 r5 m5.
          sim-given w d (Values f flow) xs o5 fifth.after.next (if i.gives_old then second.value else fourth.value) fifth.after
          (record { value = if i.gives_old then old.value else u; state = y.state }) (omega arith) (
            m5.post.0,
            given-held (read_origin xs o5) fifth.after.next i.gives_old old.value u second.value fourth.value
                (held-after (Values f flow) xs o4 fourth.after.next fifth y o5 m5 old.value second.value before)
                (held-after (Values f flow) xs o4 fourth.after.next fifth y o5 m5 u fourth.value m4.post.1),
          ))))
