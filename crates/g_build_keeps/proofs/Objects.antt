-- Declarations of objects: what they begin with is written in memory.
use Rattle.std.proofs.Common.{◌≡◌, ◌≤◌, ◌<◌, ℕ, suc, List, [], ◌∷◌, refl, ◌∙◌, subst, arith}
use Rattle.std.specs.Prelude.{◌+◌, ◌%◌, ◌^◌, Option, Some, None, option_and_then}
use Rattle.val_core.specs.declared.values.BlockName.{BlockName}
use Rattle.val_core.specs.declared.values.Value.{Value}
use Rattle.val_core.specs.declared.values.Value.TheVariants.{Num, At}
use Rattle.val_core.specs.declared.operation.Op2.TheVariants as op
use Rattle.val_core.specs.Words.{word2}
use Rattle.val_core.specs.Values.{value2}
use Rattle.val_core.specs.Memory.{Memory as Blocks, store, cleared, cleared_at}
use Rattle.val_core.specs.Refinement.{Direction}
use Rattle.val_core.specs.Answers.{Answer, Returned, on_defined}
use Rattle.c_typed.specs.Typed.{ExprTree, ElementTrees, no_elements, value_then, characters_then, no_initial, initial_value, initial_elements}
use Rattle.c_typed.specs.WellTyped.{Signature, IsScalar, type_of}
use Rattle.c_typed.specs.Objects.{access_width}
use Rattle.c_mean.specs.State.{State, gives, used, with_memory, bytes_into}
use Rattle.c_mean.specs.Expressions as source
use Rattle.c_mean.specs.Expressions.{expr_run}
use Rattle.c_mean.specs.Statements as source_stmt
use Rattle.c_mean.specs.Statements.{normal, characters_stored, elements_run}
use Rattle.g_graph.specs.declared.op.Op.TheVariants.{Clear}
use Rattle.g_graph.specs.declared.op.Origin.{Origin}
use Rattle.g_graph.specs.declared.op.Origin.TheVariants.{Out}
use Rattle.g_graph.specs.Plain.{node, nodes_of, no_regions}
use Rattle.g_build_def.specs.Writer.{Point, Built, nothing, bind, dropped}
use Rattle.g_build_def.specs.Operations.{const_made, bin_made, local_made, store_made, clear_made, at_offset_made}
use Rattle.g_build_def.specs.Expressions.{expr_made}
use Rattle.g_build_def.specs.Statements.{object_stored, element_stored, characters_made, elements_made, object_begun}
use Rattle.g_mean.specs.Data.{Datum, val, memory, on_memory}
use Rattle.g_mean.specs.Meaning as graph
use Rattle.g_mean.specs.Meaning.{Context, Outputs, extended, read as read_origin, node_run, nodes_run}
use Rattle.g_build_keeps.proofs.Readings.{below-later, Keeps, stay-keeps, extended-here, extended-stay, IsSoundRun}
use Rattle.g_build_keeps.proofs.Toolbox.{Ran, Simulates, sim-given, sim-node, sim-bind}
use Rattle.g_build_keeps.proofs.Held.{Held, held-is, shown-held, Frame, Holds}
use Rattle.g_build_keeps.proofs.Nodes.{Values, Line, line-then, with-const, const-line, bin-line, local-line, held-after}
use Rattle.g_build_keeps.proofs.Unary.{used-there, holds-states}
use Rattle.g_build_keeps.proofs.Places.{store-sim}
use Rattle.g_build_keeps.proofs.Pointers.{address-is, carried-sound}
use Rattle.g_build_keeps.proofs.Claims.{ContextsFit, Typed}
use Rattle.g_build_keeps.proofs.Forms.{ExprClaim}
use Rattle.g_build_keeps.proofs.Turns.{Stepped}

-- what is done to a memory, in a state
abbrev pub in_memory : State → Option Blocks → Answer State
in_memory q x = on_defined x (λ m. Returned (with_memory q m) [])

-- characters, and each element, begin within so many bytes
abbrev pub CharactersWithin : (size offset : ℕ) → List ℕ → Type 0
CharactersWithin size o [] = Unit {0}
CharactersWithin size o (b ∷ bs) = (o ≤ size) × (b < 2 ^ 32) × CharactersWithin size (suc o) bs

abbrev pub AreWithin : (size : ℕ) → ElementTrees → Type 0
AreWithin size no_elements = Unit {0}
AreWithin size (value_then o e es) = (o ≤ size) × AreWithin size es
AreWithin size (characters_then o cs es) = CharactersWithin size o cs × AreWithin size es

module _ (w : Direction) (functions : List Signature) (c : source.Context) (d : Context) (fit : ContextsFit w functions c d) (f : Frame) where
  -- a value at an address
  stored-sim : (width : ℕ) (p r : Origin) (a v : Value) (xs : List Datum) (o : Outputs) → IsSoundRun xs o → (s : Point) (q : State) → Holds f normal (read_origin xs o) s.next s.carried q →
      Held (read_origin xs o) s.next a p → Held (read_origin xs o) s.next v r →
      Simulates w d (Stepped f normal) xs o s.next (dropped (store_made width p r s)) (in_memory q (store width a v q.memory))
  stored-sim width p r a v xs o t s q h g g' = by (store width a v q.memory) refl
    where
      by : (x : Option Blocks) → store width a v q.memory ≡ x → Simulates w d (Stepped f normal) xs o s.next (dropped (store_made width p r s)) (in_memory q x)
      by None e = tt
      by (Some m) e =
          sim-bind w d fit.sound (Values f normal) (Stepped f normal) xs o s.next t (store_made width p r s) (λ _ u. nothing u) (gives (with_memory q m) v) (λ x. Returned x.state [])
          (store-sim w d f normal fit.sound xs o t s q h width p r a v m g g' e) (λ y o' t' k.
          sim-given w d (Stepped f normal) xs o' (store_made width p r s).after.next tt (store_made width p r s).after y.state (omega arith) (k.post.0, tt))

  pub object-stored-sim : (k width : ℕ) (r : Origin) (v : Value) (xs : List Datum) (o : Outputs) → IsSoundRun xs o → (s : Point) (q : State) → Holds f normal (read_origin xs o) s.next s.carried q →
      Held (read_origin xs o) s.next v r → Simulates w d (Stepped f normal) xs o s.next (object_stored k width r s) (in_memory q (store width (d.addresses.local k) v q.memory))
  object-stored-sim k width r v xs o t s q h g =
      line-then w d f normal fit.sound (Stepped f normal) xs o s.next t first (λ a u. dropped (store_made width a r u)) q (d.addresses.local k)
      (in_memory q (store width (d.addresses.local k) v q.memory))
      (local-line w d f normal xs o s q h k) (λ o' t' i.
      stored-sim width first.value r (d.addresses.local k) v xs o' t' first.after q i.post.0 i.post.1 (held-after (Line f normal q (d.addresses.local k)) xs o s.next first tt o' i v r g))
    where
      first : Built Origin
      first = local_made k s

  -- the address some bytes into an object
  offset-line : (p : Origin) (b : BlockName) (n : ℕ) → n ≤ b.size → (xs : List Datum) (o : Outputs) → IsSoundRun xs o → (s : Point) (q : State) → Holds f normal (read_origin xs o) s.next s.carried q →
      Held (read_origin xs o) s.next (At b 0) p → Simulates w d (Line f normal q (At b (0 + n))) xs o s.next (at_offset_made p n s) (Returned tt [])
  offset-line p b n low xs o t s q h g =
      subst (λ v. Simulates w d (Line f normal q v) xs o s.next (at_offset_made p n s) (Returned tt []))
      (address-is b (word2 op.Add 0 (n % 2 ^ 32)) (0 + n) (omega (arith, low, fits.1)) (omega (arith, low)))
      (with-const w d f normal fit.sound xs o t s q h n (λ y u. bin_made op.Add p y u) (value2 op.Add (At b 0) (Num (n % 2 ^ 32)))
      (λ o' y e u h' k. bin-line w d f normal xs o' u q h' op.Add p y (At b 0) (Num (n % 2 ^ 32)) (k p g.below ∙ is) e))
    where
      is : read_origin xs o p ≡ val (At b 0)
      is = held-is (read_origin xs o) s.next (At b 0) p tt g

      fits : (0 ≤ b.size) × (b.size < 2 ^ 32)
      fits = carried-sound w d f normal fit.sound xs o t s q h p (At b 0) is

  element-sim : (k n width : ℕ) (b : BlockName) → d.addresses.local k ≡ At b 0 → n ≤ b.size → (r : Origin) (v : Value) (xs : List Datum) (o : Outputs) → IsSoundRun xs o → (s : Point) (q : State) →
      Holds f normal (read_origin xs o) s.next s.carried q → Held (read_origin xs o) s.next v r →
      Simulates w d (Stepped f normal) xs o s.next (element_stored k n width r s) (in_memory q (store width (At b (0 + n)) v q.memory))
  element-sim k n width b e low r v xs o t s q h g =
      line-then w d f normal fit.sound (Stepped f normal) xs o s.next t first (λ a u. bind (at_offset_made a n u) (λ z y. dropped (store_made width z r y))) q (At b 0)
      (in_memory q (store width (At b (0 + n)) v q.memory))
      (subst (λ a. Simulates w d (Line f normal q a) xs o s.next first (Returned tt [])) e (local-line w d f normal xs o s q h k)) (λ o1 t1 m1.
      line-then w d f normal fit.sound (Stepped f normal) xs o1 first.after.next t1 second (λ z y. dropped (store_made width z r y)) q (At b (0 + n))
      (in_memory q (store width (At b (0 + n)) v q.memory))
      (offset-line first.value b n low xs o1 t1 first.after q m1.post.0 m1.post.1) (λ o2 t2 m2.
      stored-sim width second.value r (At b (0 + n)) v xs o2 t2 second.after q m2.post.0 m2.post.1
      (held-after (Line f normal q (At b (0 + n))) xs o1 first.after.next second tt o2 m2 v r (held-after (Line f normal q (At b 0)) xs o s.next first tt o1 m1 v r g))))
    where
      first : Built Origin
      first = local_made k s

      second : Built Origin
      second = at_offset_made first.value n first.after

  -- ---- characters and elements

  characters-sim : (k : ℕ) (b : BlockName) → d.addresses.local k ≡ At b 0 → (n : ℕ) (cs : List ℕ) → CharactersWithin b.size n cs → (xs : List Datum) (o : Outputs) → IsSoundRun xs o → (s : Point)
      (q : State) →
      Holds f normal (read_origin xs o) s.next s.carried q → Simulates w d (Stepped f normal) xs o s.next (characters_made k n cs s) (in_memory q (characters_stored (At b 0) n cs q.memory))
  characters-sim k b e n [] low xs o t s q h = sim-given w d (Stepped f normal) xs o s.next tt s q (omega arith) (h, tt)
  characters-sim k b e n (a ∷ cs) low xs o t s q h =
      line-then w d f normal fit.sound (Stepped f normal) xs o s.next t first (λ v u. bind (element_stored k n 1 v u) (λ _ y. characters_made k (suc n) cs y)) q (Num a)
      (in_memory q (characters_stored (At b 0) n (a ∷ cs) q.memory))
      (subst (λ x. Simulates w d (Line f normal q (Num x)) xs o s.next first (Returned tt [])) same (const-line w d f normal xs o s q h a)) (λ o1 t1 m1.
      by (λ ys o' t' s' q' h'. characters-sim k b e (suc n) cs low.2 ys o' t' s' q' h') o1 t1 (store 1 (At b (0 + n)) (Num a) q.memory)
      (element-sim k n 1 b e low.0 first.value (Num a) xs o1 t1 first.after q m1.post.0 m1.post.1))
    where
      first : Built Origin
      first = const_made a s

      same : a % 2 ^ 32 ≡ a
      same = let word = low.1 in omega (arith, word)

      second : Built (Unit {0})
      second = element_stored k n 1 first.value first.after

      Rest : Type 0
      Rest =
          (xs : List Datum) (o : Outputs) → IsSoundRun xs o → (s : Point) (q : State) → Holds f normal (read_origin xs o) s.next s.carried q →
          Simulates w d (Stepped f normal) xs o s.next (characters_made k (suc n) cs s) (in_memory q (characters_stored (At b 0) (suc n) cs q.memory))

      by : Rest → (o1 : Outputs) → IsSoundRun xs o1 → (x : Option Blocks) → Simulates w d (Stepped f normal) xs o1 first.after.next second (in_memory q x) →
          Simulates w d (Stepped f normal) xs o1 first.after.next (bind second (λ _ y. characters_made k (suc n) cs y)) (in_memory q (option_and_then (characters_stored (At b 0) (suc n) cs) x))
      by rest o1 t1 None z = tt
      by rest o1 t1 (Some m) z =
          sim-bind w d fit.sound (Stepped f normal) (Stepped f normal) xs o1 first.after.next t1 second (λ _ y. characters_made k (suc n) cs y) (Returned (with_memory q m) [])
          (λ u. in_memory u (characters_stored (At b 0) (suc n) cs u.memory)) z (λ y o2 t2 m2. rest xs o2 t2 second.after y m2.post.0)

  -- what is claimed of each element that is a value
  abbrev pub ElementClaims : ElementTrees → Type 0
  ElementClaims no_elements = Unit {0}
  ElementClaims (value_then o e es) = IsScalar (type_of e) × ExprClaim w functions c d fit f normal e × ElementClaims es
  ElementClaims (characters_then o cs es) = ElementClaims es

  abbrev Initials : (Point → Built (Unit {0})) → (State → Answer State) → Type 0
  Initials made run =
      (xs : List Datum) (o : Outputs) → IsSoundRun xs o → (s : Point) (q : State) → Holds f normal (read_origin xs o) s.next s.carried q → Simulates w d (Stepped f normal) xs o s.next (made s) (run q)

  -- an element is written, and then the others
  element-then : (made : Built (Unit {0})) (rest : Point → Built (Unit {0})) (next : State → Answer State) (xs : List Datum) (o : Outputs) → IsSoundRun xs o → (n : ℕ) (q : State) (x : Option Blocks) →
      Initials rest next → Simulates w d (Stepped f normal) xs o n made (in_memory q x) →
      Simulates w d (Stepped f normal) xs o n (bind made (λ _ u. rest u)) (on_defined x (λ m. next (with_memory q m)))
  element-then made rest next xs o t n q None k z = tt
  element-then made rest next xs o t n q (Some m) k z =
      sim-bind w d fit.sound (Stepped f normal) (Stepped f normal) xs o n t made (λ _ u. rest u) (Returned (with_memory q m) []) next z (λ y o' t' r. k xs o' t' made.after y r.post.0)

  elements-sim : (k : ℕ) (b : BlockName) → d.addresses.local k ≡ At b 0 → (es : ElementTrees) → AreWithin b.size es → ElementClaims es → Initials (elements_made k es) (elements_run c (At b 0) es)
  elements-sim k b z no_elements low claims xs o t s q h = sim-given w d (Stepped f normal) xs o s.next tt s q (omega arith) (h, tt)
  elements-sim k b z (value_then n e es) low claims xs o t s q h =
      sim-bind w d fit.sound (Typed f normal (type_of e)) (Stepped f normal) xs o s.next t (expr_made e s)
      (λ v u. bind (element_stored k n (access_width (type_of e)) v u) (λ _ y. elements_made k es y)) (expr_run c e q)
      (λ x. used x.value (λ v. on_defined (store (access_width (type_of e)) (bytes_into (At b 0) n) v x.state.memory) (λ m. elements_run c (At b 0) es (with_memory x.state m))))
      (claims.1 xs o t s q h)
      (λ y o' t' r.
      used-there w (Ran (Stepped f normal) xs o' (expr_made e s).after.next (bind (element_stored k n (access_width (type_of e)) (expr_made e s).value (expr_made e s).after)
      (λ _ u. elements_made k es u)))
      y.value (λ v. on_defined (store (access_width (type_of e)) (bytes_into (At b 0) n) v y.state.memory) (λ m. elements_run c (At b 0) es (with_memory y.state m)))
      (nodes_run d (nodes_of (bind (element_stored k n (access_width (type_of e)) (expr_made e s).value (expr_made e s).after) (λ _ u. elements_made k es u)).nodes) xs o') (λ there.
      element-then (element_stored k n (access_width (type_of e)) (expr_made e s).value (expr_made e s).after) (elements_made k es) (elements_run c (At b 0) es) xs o' t'
      (expr_made e s).after.next y.state
      (store (access_width (type_of e)) (At b (0 + n)) y.value y.state.memory) (elements-sim k b z es low.1 claims.2)
      (element-sim k n (access_width (type_of e)) b z low.0 (expr_made e s).value y.value xs o' t' (expr_made e s).after y.state r.post.0
      (shown-held (read_origin xs o') (expr_made e s).after.next (type_of e) y.value (expr_made e s).value claims.0 r.post.1))))
  elements-sim k b z (characters_then n cs es) low claims xs o t s q h =
      element-then (characters_made k n cs s) (elements_made k es) (elements_run c (At b 0) es) xs o t s.next q (characters_stored (At b 0) n cs q.memory) (elements-sim k b z es low.1 claims)
      (characters-sim k b z n cs low.0 xs o t s q h)

  -- ---- what an object begins with

  pub object-none : (k : ℕ) (a : Value) → Initials (object_begun k no_initial) (source_stmt.object_begun c a no_initial)
  object-none k a xs o t s q h = sim-given w d (Stepped f normal) xs o s.next tt s q (omega arith) (h, tt)

  pub object-value : (k : ℕ) (e : ExprTree) → IsScalar (type_of e) → ExprClaim w functions c d fit f normal e →
      Initials (object_begun k (initial_value e)) (source_stmt.object_begun c (d.addresses.local k) (initial_value e))
  object-value k e scalar claim xs o t s q h =
      sim-bind w d fit.sound (Typed f normal (type_of e)) (Stepped f normal) xs o s.next t (expr_made e s) (λ v u. object_stored k (access_width (type_of e)) v u) (expr_run c e q)
      (λ x. used x.value (λ v. on_defined (store (access_width (type_of e)) (d.addresses.local k) v x.state.memory) (λ m. Returned (with_memory x.state m) []))) (claim xs o t s q h) (λ y o' t' r.
      used-there w (Ran (Stepped f normal) xs o' (expr_made e s).after.next (object_stored k (access_width (type_of e)) (expr_made e s).value (expr_made e s).after)) y.value
      (λ v. on_defined (store (access_width (type_of e)) (d.addresses.local k) v y.state.memory) (λ m. Returned (with_memory y.state m) []))
      (nodes_run d (nodes_of (object_stored k (access_width (type_of e)) (expr_made e s).value (expr_made e s).after).nodes) xs o') (λ there.
      object-stored-sim k (access_width (type_of e)) (expr_made e s).value y.value xs o' t' (expr_made e s).after y.state r.post.0
      (shown-held (read_origin xs o') (expr_made e s).after.next (type_of e) y.value (expr_made e s).value scalar r.post.1)))

  clear-sim : (k : ℕ) (b : BlockName) → d.addresses.local k ≡ At b 0 → Initials (clear_made k) (λ q. Returned (with_memory q (cleared b q.memory)) [])
  clear-sim k b z xs o t s q h =
      sim-node w d (Stepped f normal) xs o s (Clear k) (s.carried.memory ∷ []) tt (Out s.next 0) s.carried.io (with_memory q m) (memory m ∷ []) [] run (
        holds-states f normal (read_origin xs o) (read_origin xs o1) s q m q.input (Out s.next 0) s.carried.io same h (extended-here o s.next (memory m ∷ []) 0) (omega arith)
            (same s.carried.io h.io_below ∙ h.io) (below-later s.next (suc s.next) s.carried.io (omega arith) h.io_below),
        tt,
      )
    where
      m : Blocks
      m = cleared b q.memory

      o1 : Outputs
      o1 = extended o s.next (memory m ∷ [])

      same : Keeps s.next (read_origin xs o) (read_origin xs o1)
      same = stay-keeps s.next xs o o1 (extended-stay o s.next (memory m ∷ []))

      run : node_run d (node s.next (Clear k) (s.carried.memory ∷ []) no_regions) xs o ≡ Returned (memory m ∷ []) []
      run = λ i. on_memory (h.memory i) (λ u. on_defined (cleared_at (z i) u) graph.given_memory)

  pub object-elements : (k : ℕ) (b : BlockName) → d.addresses.local k ≡ At b 0 → (es : ElementTrees) → AreWithin b.size es → ElementClaims es →
      Initials (object_begun k (initial_elements es)) (source_stmt.object_begun c (At b 0) (initial_elements es))
  object-elements k b z es low claims xs o t s q h =
      sim-bind w d fit.sound (Stepped f normal) (Stepped f normal) xs o s.next t (clear_made k s) (λ _ u. elements_made k es u) (Returned (with_memory q (cleared b q.memory)) [])
      (elements_run c (At b 0) es)
      (clear-sim k b z xs o t s q h) (λ y o' t' r. elements-sim k b z es low claims xs o' t' (clear_made k s).after y r.post.0)
