-- Forms of expressions, from what is claimed of their operands.
use Rattle.std.proofs.Common.{◌≡◌, ◌<◌, inr, ℕ, suc, List, [], ◌∷◌, ◌%◌, ◌^◌, refl, ap, ◌∙◌, subst, arith}
use Rattle.std.specs.Prelude.{not, length, slice_get, Bool, true, false, cond, Some, Option, None}
use Rattle.val_core.specs.declared.values.Value.TheVariants.{Num, Bad}
use Rattle.val_core.specs.Words.{one_if}
use Rattle.val_core.specs.Refinement.{Direction}
use Rattle.val_core.specs.Answers.{Answer, Returned, then_on, on_defined}
use Rattle.c_type.specs.Layout.{Definitions}
use Rattle.c_type.specs.Trees.{TypeTree, void_type, scalar_type, pointer_to, array_of, struct_type}
use Rattle.c_typed.specs.declared.operator.UnaryOp.{UnaryOp}
use Rattle.c_typed.specs.declared.operator.BinaryOp.{BinaryOp}
use Rattle.c_typed.specs.Typed.{ExprTree, expr, FormTree, constant, read, address, unary, binary, logical_and, logical_or, conditional, comma, call, ExprTrees, no_exprs, expr_then, PlaceTree}
use Rattle.c_typed.specs.WellTyped.{Signature, IsScalar, type_of, types_of, UnaryFits, BinaryFits}
use Rattle.c_mean.specs.State.{State, Valued, gives, used, truth}
use Rattle.c_mean.specs.Expressions as source
use Rattle.c_mean.specs.Expressions.{given_word, branched, expr_run, form_run, dropped_run, arguments_run, place_run, unary_done, binary_done, address_of, back_from}
use Rattle.c_mean.specs.Statements.{Flow}
use Rattle.g_graph.specs.declared.op.Origin.{Origin}
use Rattle.g_graph.specs.Plain.{nodes_of}
use Rattle.g_build_def.specs.Writer.{Point, Built, given, bind, one_value, choice}
use Rattle.g_build_def.specs.Operations.{const_made, apply_made, condition_made, is_not_zero_made}
use Rattle.g_build_def.specs.Places.{spot_address, spot_read}
use Rattle.g_build_def.specs.Expressions.{unary_made, binary_made, conditional_extra, expr_made, form_made, tested, commas_made, arguments_made, place_made}
use Rattle.g_build_def.proofs.lemmas.Later.{Keeps, bind_later}
use Rattle.g_build_def.proofs.lemmas.LaterExpressions.{const_later, expr_later, tested_later, is_not_zero_later}
use Rattle.g_mean.specs.Data.{Datum, val}
use Rattle.g_mean.specs.Meaning.{Context, Outputs, read as read_origin, nodes_run}
use Rattle.g_build_keeps.proofs.Readings.{stay-keeps, below-later, IsSoundRun}
use Rattle.g_build_keeps.proofs.Toolbox.{Post, Ran, Simulates, sim-change, sim-goes, sim-given, sim-bind}
use Rattle.g_build_keeps.proofs.Held.{Held, held-is, shown, held-shown, shown-held, Frame, Holds}
use Rattle.g_build_keeps.proofs.Nodes.{Values, Line, of-line, const-line, is-not-zero-line, held-after}
use Rattle.g_build_keeps.proofs.Choice.{OneValue, ExtraGives, one_value-gives, void_value-gives}
use Rattle.g_build_keeps.proofs.Unary.{used-there, Tests, condition-line, unary-sim}
use Rattle.g_build_keeps.proofs.Places.{Places, spot-address-sim, spot-read-sim}
use Rattle.g_build_keeps.proofs.Binary.{binary-sim}
use Rattle.g_build_keeps.proofs.Tests.{Decided, decided, ways, branched-decides, Decides, ways-sim}
use Rattle.g_build_keeps.proofs.Claims.{ContextsFit, Typed, States, AreGiven, test_run}
use Rattle.g_build_keeps.proofs.Calls.{apply-sim}

-- a condition that may have no value is carried, as none
conditional-gives : (t : TypeTree) (xs : List Datum) (o : Outputs) (id : ℕ) (p : Origin) → Held (read_origin xs o) id Bad p →
    ExtraGives (conditional_extra t p) xs o id (OneValue (λ (x : Valued). shown t x.value)) (OneValue (λ (x : Valued). shown t x.value))
conditional-gives void_type xs o id p h = void_value-gives (λ (x : Valued). shown void_type x.value) (λ y. refl) xs o id p h
conditional-gives (scalar_type t) xs o id p h = one_value-gives (λ (x : Valued). shown (scalar_type t) x.value) xs o id
conditional-gives (pointer_to t) xs o id p h = one_value-gives (λ (x : Valued). shown (pointer_to t) x.value) xs o id
conditional-gives (array_of t n) xs o id p h = one_value-gives (λ (x : Valued). shown (array_of t n) x.value) xs o id
conditional-gives (struct_type n) xs o id p h = one_value-gives (λ (x : Valued). shown (struct_type n) x.value) xs o id

module _ (w : Direction) (functions : List Signature) (c : source.Context) (d : Context) (fit : ContextsFit w functions c d) (f : Frame) (flow : Flow) where
  -- What is made does what the source does, wherever it stands.
  abbrev Claims : {B A : Type 0} → Post B A → (Point → Built A) → (State → Answer B) → Type 0
  Claims Q made run =
      (xs : List Datum) (o : Outputs) → IsSoundRun xs o → (s : Point) (q : State) → Holds f flow (read_origin xs o) s.next s.carried q → Simulates w d Q xs o s.next (made s) (run q)

  abbrev pub ExprClaim : ExprTree → Type 0
  ExprClaim e = Claims (Typed f flow (type_of e)) (expr_made e) (expr_run c e)

  abbrev pub FormClaim : TypeTree → FormTree → Type 0
  FormClaim t e = Claims (Typed f flow t) (form_made t e) (form_run c t e)

  abbrev pub TestClaim : ExprTree → Type 0
  TestClaim e = Claims (Decides f flow) (tested e) (test_run c e)

  abbrev pub PlaceClaim : PlaceTree → Type 0
  PlaceClaim p = Claims (Places f flow) (place_made p) (place_run c p)

  pub typed-of : (t : TypeTree) (xs : List Datum) (o : Outputs) (n : ℕ) (b : Built Origin) (a : Answer Valued) → Simulates w d (Values f flow) xs o n b a → Simulates w d (Typed f flow t) xs o n b a
  typed-of t xs o n b a h =
      sim-change w d (Values f flow) (Typed f flow t) xs o n b a (λ y o' r. (r.post.0, held-shown (read_origin xs o') b.after.next t y.value b.value r.post.1)) h

  -- an expression of another type that is this one
  retyped : (t u : TypeTree) (made : Point → Built Origin) (run : State → Answer Valued) → u ≡ t → Claims (Typed f flow u) made run → Claims (Typed f flow t) made run
  retyped t u made run e k = subst (λ v. Claims (Typed f flow v) made run) e k

  const-claim : (n : ℕ) → n < 2 ^ 32 → Claims (Values f flow) (const_made n) (λ q. given_word q n)
  const-claim n word xs o r s q h =
      of-line w d f flow xs o s.next (const_made n s) q (Num n)
      (subst (λ k. Simulates w d (Line f flow q (Num k)) xs o s.next (const_made n s) (Returned tt [])) same (const-line w d f flow xs o s q h n))
    where
      same : n % 2 ^ 32 ≡ n
      same = omega (arith, word)

  pub constant-form : (t : TypeTree) (n : ℕ) → n < 2 ^ 32 → FormClaim t (constant n)
  constant-form t n word xs o r s q h = typed-of t xs o s.next (const_made n s) (given_word q n) (const-claim n word xs o r s q h)

  pub read-form : (t : TypeTree) (p : PlaceTree) → PlaceClaim p → FormClaim t (read p)
  read-form t p k xs o r s q h =
      typed-of t xs o s.next (form_made t (read p) s) (form_run c t (read p) q)
      (sim-bind w d fit.sound (Places f flow) (Values f flow) xs o s.next r (place_made p s) (spot_read t) (place_run c p q) (λ x. source.spot_read t x.spot x.state) (k xs o r s q h)
      (λ y o' r' m. spot-read-sim w d f flow fit.sound xs o' r' (place_made p s).after y.state m.post.0 t y.spot (place_made p s).value m.post.1))

  pub address-form : (t : TypeTree) (p : PlaceTree) → PlaceClaim p → FormClaim t (address p)
  address-form t p k xs o r s q h =
      typed-of t xs o s.next (form_made t (address p) s) (form_run c t (address p) q)
      (sim-bind w d fit.sound (Places f flow) (Values f flow) xs o s.next r (place_made p s) spot_address (place_run c p q) (λ x. address_of x.spot x.state) (k xs o r s q h)
      (λ y o' r' m. spot-address-sim w d f flow fit.sound xs o' r' (place_made p s).after y.state m.post.0 y.spot (place_made p s).value m.post.1))

  pub unary-form : (t : TypeTree) (k : UnaryOp) (e : ExprTree) → UnaryFits k t (type_of e) → ExprClaim e → FormClaim t (unary k e)
  unary-form t k e fits claim xs o r s q h =
      typed-of t xs o s.next (form_made t (unary k e) s) (form_run c t (unary k e) q)
      (sim-bind w d fit.sound (Typed f flow (type_of e)) (Values f flow) xs o s.next r (expr_made e s) (unary_made k t (type_of e)) (expr_run c e q) (λ x. unary_done k t (type_of e) x.value x.state)
      (claim xs o r s q h)
      (λ y o' r' m. unary-sim w d f flow fit.sound xs o' r' (expr_made e s).after y.state m.post.0 k t (type_of e) fits (expr_made e s).value y.value m.post.1))

  pub binary-form : (defs : Definitions) (t : TypeTree) (k : BinaryOp) (a b : ExprTree) → BinaryFits defs k t (type_of a) (type_of b) → ExprClaim a → ExprClaim b → FormClaim t (binary k a b)
  binary-form defs t k a b fits ca cb xs o r s q h =
      typed-of t xs o s.next (form_made t (binary k a b) s) (form_run c t (binary k a b) q)
      (sim-bind w d fit.sound (Typed f flow (type_of a)) (Values f flow) xs o s.next r first (λ x u. bind (expr_made b u) (binary_made k (type_of a) x)) (expr_run c a q)
      (λ x. then_on (expr_run c b x.state) (λ y. binary_done k (type_of a) (type_of b) x.value y.value y.state)) (ca xs o r s q h) (λ x o' r' m.
      sim-bind w d fit.sound (Typed f flow (type_of b)) (Values f flow) xs o' first.after.next r' second (binary_made k (type_of a) first.value) (expr_run c b x.state)
      (λ y. binary_done k (type_of a) (type_of b) x.value y.value y.state) (cb xs o' r' first.after x.state m.post.0) (λ y o'' r'' m'.
      binary-sim w d f flow fit.sound xs o'' r'' second.after y.state m'.post.0 defs k t (type_of a) (type_of b) fits first.value second.value x.value y.value
      (held-after (Typed f flow (type_of b)) xs o' first.after.next second y o'' m' (shown (type_of a) x.value) first.value m.post.1) m'.post.1)))
    where
      first : Built Origin
      first = expr_made a s

      second : Built Origin
      second = expr_made b first.after

  -- ---- conditions

  pub test-form : (t : TypeTree) (e : FormTree) → IsScalar t → FormClaim t e → TestClaim (expr t e)
  test-form t e scalar k xs o r s q h =
      sim-bind w d fit.sound (Typed f flow t) (Decides f flow) xs o s.next r first (condition_made t) (form_run c t e q) (decided t) (k xs o r s q h) (λ y o' r' m. by y o' r' m (truth t y.value) refl)
    where
      first : Built Origin
      first = form_made t e s

      by : (y : Valued) (o' : Outputs) → (r' : IsSoundRun xs o') → (m : Ran (Typed f flow t) xs o s.next first y o') → (z : Option Bool) → truth t y.value ≡ z →
          Simulates w d (Decides f flow) xs o' first.after.next (condition_made t first.value first.after) (on_defined z (λ (b : Bool). Returned (record { truth = b; state = y.state }) []))
      by y o' r' m None z = tt
      by y o' r' m (Some b) z =
          sim-goes w d (Tests w d f flow fit.sound xs o' r' first.after y.state m.post.0 b) (Decides f flow) xs o' first.after.next (condition_made t first.value first.after) (Returned tt [])
          (λ _. record { truth = b; state = y.state }) (λ _ o'' m'. m'.post)
          (condition-line w d f flow fit.sound xs o' r' first.after y.state m.post.0 t first.value y.value b scalar z
          (shown-held (read_origin xs o') first.after.next t y.value first.value scalar m.post.1))

  -- the word of an operand that is tested
  abbrev truth_made : ExprTree → Point → Built Origin
  truth_made e s = bind (tested e s) is_not_zero_made

  abbrev truth_run : ExprTree → State → Answer Valued
  truth_run e q = then_on (expr_run c e q) (λ y. branched (type_of e) y.value (given_word y.state 1) (given_word y.state 0))

  truth-claim : (e : ExprTree) → TestClaim e → Claims (Values f flow) (truth_made e) (truth_run e)
  truth-claim e k xs o r s q h =
      subst (λ a. Simulates w d (Values f flow) xs o s.next (truth_made e s) a) (branched-decides (expr_run c e q) (type_of e) (λ s. given_word s 1) (λ s. given_word s 0))
      (sim-bind w d fit.sound (Decides f flow) (Values f flow) xs o s.next r first is_not_zero_made (test_run c e q) (ways (λ s. given_word s 1) (λ s. given_word s 0)) (k xs o r s q h)
      (λ y o' r' m. by y o' r' m))
    where
      first : Built Origin
      first = tested e s

      word : (y : Decided) → (b : Bool) → Num (one_if (not (not b))) ≡ Num (one_if b)
      word y true = refl
      word y false = refl

      given-by : (y : Decided) (b : Bool) → gives y.state (Num (one_if b)) ≡ cond b (given_word y.state 1) (given_word y.state 0)
      given-by y true = refl
      given-by y false = refl

      by : (y : Decided) (o' : Outputs) → IsSoundRun xs o' → Ran (Decides f flow) xs o s.next first y o' →
          Simulates w d (Values f flow) xs o' first.after.next (is_not_zero_made first.value first.after) (ways (λ s. given_word s 1) (λ s. given_word s 0) y)
      by y o' r' m =
          let n = m.post.1.0 in
          subst (λ a. Simulates w d (Values f flow) xs o' first.after.next (is_not_zero_made first.value first.after) a) (given-by y y.truth)
          (of-line w d f flow xs o' first.after.next (is_not_zero_made first.value first.after) y.state (Num (one_if y.truth))
          (subst (λ v. Simulates w d (Line f flow y.state v) xs o' first.after.next (is_not_zero_made first.value first.after) (Returned tt []))
          (ap (λ z. Num (one_if (not z))) m.post.1.3 ∙ word y y.truth)
          (is-not-zero-line w d f flow fit.sound xs o' r' first.after y.state m.post.0 first.value n m.post.1.1 m.post.1.2)))

  truth-keeps : (e : ExprTree) → Keeps (truth_made e)
  truth-keeps e s = bind_later s (tested e s) is_not_zero_made (tested_later e s) is_not_zero_later

  pub and-form : (t : TypeTree) (a b : ExprTree) → TestClaim a → TestClaim b → FormClaim t (logical_and a b)
  and-form t a b ca cb xs o r s q h =
      typed-of t xs o s.next (form_made t (logical_and a b) s) (form_run c t (logical_and a b) q)
      (subst (λ z. Simulates w d (Values f flow) xs o s.next (form_made t (logical_and a b) s) z) (branched-decides (expr_run c a q) (type_of a) (truth_run b) (λ u. given_word u 0))
      (sim-bind w d fit.sound (Decides f flow) (Values f flow) xs o s.next r first (λ p u. choice one_value u p (const_made 0) (truth_made b)) (test_run c a q)
      (ways (truth_run b) (λ u. given_word u 0))
      (ca xs o r s q h) (λ y o' r' m.
      ways-sim w d f (λ _. flow) (λ x. x.state) (OneValue (λ x. x.value)) (OneValue (λ x. x.value)) one_value xs o' r' first.after first.value (const_made 0) (truth_made b) flow y (truth_run b)
      (λ u. given_word u 0) (one_value-gives (λ x. x.value) xs o' first.after.next) (const_later 0) (truth-keeps b) m.post
      (λ us n r'' h'. truth-claim b cb us _ r'' (_) y.state h')
      (λ us n r'' h'. const-claim 0 (omega arith) us _ r'' (_) y.state h'))))
    where
      first : Built Origin
      first = tested a s

  pub or-form : (t : TypeTree) (a b : ExprTree) → TestClaim a → TestClaim b → FormClaim t (logical_or a b)
  or-form t a b ca cb xs o r s q h =
      typed-of t xs o s.next (form_made t (logical_or a b) s) (form_run c t (logical_or a b) q)
      (subst (λ z. Simulates w d (Values f flow) xs o s.next (form_made t (logical_or a b) s) z) (branched-decides (expr_run c a q) (type_of a) (λ u. given_word u 1) (truth_run b))
      (sim-bind w d fit.sound (Decides f flow) (Values f flow) xs o s.next r first (λ p u. choice one_value u p (truth_made b) (const_made 1)) (test_run c a q)
      (ways (λ u. given_word u 1) (truth_run b))
      (ca xs o r s q h) (λ y o' r' m.
      ways-sim w d f (λ _. flow) (λ x. x.state) (OneValue (λ x. x.value)) (OneValue (λ x. x.value)) one_value xs o' r' first.after first.value (truth_made b) (const_made 1) flow y
      (λ u. given_word u 1) (truth_run b) (one_value-gives (λ x. x.value) xs o' first.after.next) (truth-keeps b) (const_later 1) m.post
      (λ us n r'' h'. const-claim 1 (omega arith) us _ r'' (_) y.state h')
      (λ us n r'' h'. truth-claim b cb us _ r'' (_) y.state h'))))
    where
      first : Built Origin
      first = tested a s

  pub conditional-form : (t : TypeTree) (e a b : ExprTree) → TestClaim e → type_of a ≡ t → type_of b ≡ t → ExprClaim a → ExprClaim b → FormClaim t (conditional e a b)
  conditional-form t e a b ce za zb ca cb xs o r s q h =
      subst (λ z. Simulates w d (Typed f flow t) xs o s.next (form_made t (conditional e a b) s) z) (branched-decides (expr_run c e q) (type_of e) (expr_run c a) (expr_run c b))
      (sim-bind w d fit.sound (Decides f flow) (Typed f flow t) xs o s.next r first (λ p u. choice (conditional_extra t p) u p (expr_made b) (expr_made a)) (test_run c e q)
      (ways (expr_run c a) (expr_run c b)) (ce xs o r s q h) (λ y o' r' m.
      ways-sim w d f (λ _. flow) (λ x. x.state) (OneValue (λ x. shown t x.value)) (OneValue (λ x. shown t x.value)) (conditional_extra t first.value) xs o' r' first.after first.value
      (expr_made b) (expr_made a) flow y (expr_run c a) (expr_run c b)
      (conditional-gives t xs o' first.after.next first.value (record { far = Num m.post.1.0; is = m.post.1.1; less = inr refl; below = m.post.1.2 }))
      (expr_later b) (expr_later a) m.post
      (λ us n r'' h'. retyped t (type_of a) (expr_made a) (expr_run c a) za ca us _ r'' (_) y.state h')
      (λ us n r'' h'. retyped t (type_of b) (expr_made b) (expr_run c b) zb cb us _ r'' (_) y.state h')))
    where
      first : Built Origin
      first = tested e s

  -- ---- lists of expressions

  abbrev pub DroppedClaim : ExprTrees → Type 0
  DroppedClaim es = Claims (States f flow) (commas_made es) (dropped_run c es)

  pub no-dropped : DroppedClaim no_exprs
  no-dropped xs o r s q h = sim-given w d (States f flow) xs o s.next tt s q (omega arith) h

  pub dropped-then : (e : ExprTree) (es : ExprTrees) → ExprClaim e → DroppedClaim es → DroppedClaim (expr_then e es)
  dropped-then e es ce ces xs o r s q h =
      sim-bind w d fit.sound (Typed f flow (type_of e)) (States f flow) xs o s.next r (expr_made e s) (λ _ u. commas_made es u) (expr_run c e q) (λ x. dropped_run c es x.state) (ce xs o r s q h)
      (λ y o' r' m. ces xs o' r' (expr_made e s).after y.state m.post.0)

  pub comma-form : (t : TypeTree) (es : ExprTrees) (e : ExprTree) → type_of e ≡ t → DroppedClaim es → ExprClaim e → FormClaim t (comma es e)
  comma-form t es e z ces ce xs o r s q h =
      sim-bind w d fit.sound (States f flow) (Typed f flow t) xs o s.next r (commas_made es s) (λ _ u. expr_made e u) (dropped_run c es q) (expr_run c e) (ces xs o r s q h)
      (λ y o' r' m. retyped t (type_of e) (expr_made e) (expr_run c e) z ce xs o' r' (commas_made es s).after y m.post)

  abbrev pub ArgumentsClaim : ExprTrees → Type 0
  ArgumentsClaim es = Claims (AreGiven f flow (length (types_of es))) (arguments_made es) (arguments_run c es)

  pub no-arguments : ArgumentsClaim no_exprs
  no-arguments xs o r s q h = sim-given w d (AreGiven f flow 0) xs o s.next [] s (record { values = []; state = q }) (omega arith) (h, tt, refl)

  pub arguments-then : (e : ExprTree) (es : ExprTrees) → IsScalar (type_of e) → ExprClaim e → ArgumentsClaim es → ArgumentsClaim (expr_then e es)
  arguments-then e es scalar ce ces xs o r s q h =
      sim-bind w d fit.sound (Typed f flow (type_of e)) (AreGiven f flow (suc (length (types_of es)))) xs o s.next r first (λ x u. bind (arguments_made es u) (λ ys v. given (x ∷ ys) v))
      (expr_run c e q)
      (λ x. used x.value (λ v. then_on (arguments_run c es x.state) (λ y. Returned (record { values = v ∷ y.values; state = y.state }) []))) (ce xs o r s q h) (λ x o' r' m.
      used-there w (Ran (AreGiven f flow (suc (length (types_of es)))) xs o' first.after.next (rest first.value first.after)) x.value
      (λ v. then_on (arguments_run c es x.state) (λ y. Returned (record { values = v ∷ y.values; state = y.state }) [])) (nodes_run d (nodes_of (rest first.value first.after).nodes) xs o') (λ there.
      sim-bind w d fit.sound (AreGiven f flow (length (types_of es))) (AreGiven f flow (suc (length (types_of es)))) xs o' first.after.next r' second (λ ys v. given (first.value ∷ ys) v)
      (arguments_run c es x.state) (λ y. Returned (record { values = x.value ∷ y.values; state = y.state }) []) (ces xs o' r' first.after x.state m.post.0) (λ y o'' r'' m'.
      let held : Held (read_origin xs o') first.after.next x.value first.value = shown-held (read_origin xs o') first.after.next (type_of e) x.value first.value scalar m.post.1 in
      let is : read_origin xs o'' first.value ≡ val x.value = stay-keeps first.after.next xs o' o'' m'.stay first.value held.below ∙ held-is
      (read_origin xs o') first.after.next x.value first.value there held in
      sim-given w d (AreGiven f flow (suc (length (types_of es)))) xs o'' second.after.next (first.value ∷ second.value) second.after
      (record { values = x.value ∷ y.values; state = y.state }) (omega arith)
      (m'.post.0, ((is, below-later first.after.next second.after.next first.value m'.rises held.below), m'.post.1), ap suc m'.post.2))))
    where
      first : Built Origin
      first = expr_made e s

      second : Built (List Origin)
      second = arguments_made es first.after

      rest : Origin → Point → Built (List Origin)
      rest x u = bind (arguments_made es u) (λ ys v. given (x ∷ ys) v)

  pub call-form : (t : TypeTree) (k : ℕ) (es : ExprTrees) (callee : Signature) → slice_get functions k ≡ Some callee → types_of es ≡ callee.params → ArgumentsClaim es → FormClaim t (call k es)
  call-form t k es callee there z ces xs o r s q h =
      typed-of t xs o s.next (form_made t (call k es) s) (form_run c t (call k es) q)
      (sim-bind w d fit.sound (AreGiven f flow (length (types_of es))) (Values f flow) xs o s.next r (arguments_made es s) (apply_made k) (arguments_run c es q)
      (λ x. then_on (c.calls k x.values x.state.memory x.state.input) (back_from x.state)) (ces xs o r s q h) (λ y o' r' m.
      apply-sim w d f flow xs o' r' (arguments_made es s).after y.state m.post.0 functions c fit k callee there y.values (arguments_made es s).value (m.post.2 ∙ ap length z) m.post.1))
