-- The items of each instruction but a call do what it means: the rows, gathered.
use Rattle.std.proofs.Common.{◌≡◌, ℕ, ◌+◌, ◌%◌, ◌^◌, ◌<◌, ◌&&◌, Bool, true, IsTrue, List, [], ◌∷◌, ◌++◌, length, slice_index, Option, Some, None, refl, sym, subst, arith}
use Rattle.std.specs.Prelude.{All}
use Rattle.std.proofs.lemmas.Bool.{and_parts, ltb-true}
use Rattle.val_core.specs.declared.values.Value.{Value}
use Rattle.val_core.specs.declared.values.Value.TheVariants.{Num, At, Bad}
use Rattle.val_core.specs.declared.operation.Op2.TheVariants.{Eq}
use Rattle.val_core.specs.Answers.{Answer, on_number, on_defined, Returned, Exited}
use Rattle.val_core.specs.Events.{wrote}
use Rattle.val_core.specs.Memory as mem
use Rattle.val_core.specs.Values.{value1, value2}
use Rattle.val_core.specs.Memory.{cleared_at}
use Rattle.g_graph.specs.Plain.{PlainObject}
use Rattle.g_graph.specs.WellFormed.{all_of}
use Rattle.rv_isa.specs.Calls.{exit_call}
use Rattle.rv_isa.specs.Registers.{x0, sp, t0, t1, a0, a7}
use Rattle.rv_isa.specs.declared.instruction.Instr as isa
use Rattle.rv_isa.specs.declared.instruction.Instr.TheVariants as rv
use Rattle.rv_machine.specs.Machine as machine
use Rattle.rv_machine.specs.Standing.{Text, CodeStands}
use Rattle.rv_layout.specs.declared.item.Item.TheVariants.{Stub}
use Rattle.rv_layout.specs.Layout as layout
use Rattle.rv_layout.specs.Layout.{Addresses, offset_to}
use Rattle.rv_layout.specs.Sequences.{load_address}
use Rattle.rv_layout.specs.Sequences as sequences
use Rattle.s_linear.specs.Frame.{PlainPlaces, object_at}
use Rattle.s_linear.specs.Linear.{Instr, const, undef, object_address, global_address, binary, unary, load, store, clear, equal_pointers, move, call, put, get, exit}
use Rattle.s_linear.specs.Lines.{instr_names}
use Rattle.s_linear.specs.Meaning as linear
use Rattle.s_linear.specs.Meaning.{Context, instr_run}
use Rattle.s_linear.specs.Operands.{has_its_object, has_its_global}
use Rattle.a_place.specs.Placed.{placed_instr}
use Rattle.s_select.specs.Conditions.{has_place}
use Rattle.s_select.specs.declared.location.Location.{Location}
use Rattle.s_select.specs.Operands as select
use Rattle.s_select.specs.Operands.{location_of, load_immediate, in_of, load_in, out_of, store_out}
use Rattle.s_select.specs.Templates.{words, place_of, size_of, binary_code, unary_code, load_instr, store_instr, with_two, with_one, with_none, move_between, clear_code, instr_items}
use Rattle.s_select_keeps.specs.Memories.{StoreIsDone, ClearIsDone}
use Rattle.s_select_keeps.specs.Relation.{Shows, Frame, IsPlaceOf, HasWords, Represents}
use Rattle.s_select_keeps.specs.Standing.{ItemsStand}
use Rattle.s_select_keeps.specs.Steps.{Arrives, Comes, Follows}
use Rattle.s_select_keeps.specs.Table.{place_at, ObjectStands, IsBody, IsPlain, InstrIsDone}
use Rattle.s_select_keeps.proofs.Exits.{exit_is_done}
use Rattle.s_select_keeps.proofs.Items.{items_are_cut, words_stand}
use Rattle.s_select_keeps.proofs.Locations.{place-below, locations-same}
use Rattle.s_select_keeps.proofs.Memories.{load_is_done}
use Rattle.s_select_keeps.proofs.Pointers.{equal_pointers_is_done}
use Rattle.s_select_keeps.proofs.Rows.{const_is_done, undef_is_done, object_address_is_done, global_address_is_done, binary_is_done, unary_is_done, move_is_done}
use Rattle.s_select_keeps.proofs.Streams.{put_is_done, get_is_done}

-- without events, and with the input left as it is
comes : (text : Text) (f : Frame) (b : ℕ) (q : linear.State) (s : machine.State) → Arrives text f b q s → Comes text f b q [] s q.input
comes text f b q s h = record { state = h.state; count = h.steps.count; reaches = h.steps.reaches q.input; pc = h.pc; shows = h.shows }

-- code after code
pub code-joined : (text : Text) (a m b : ℕ) (first second : List isa.Instr) → CodeStands text a first m → CodeStands text m second b
    → CodeStands text a (first ++ second) b
code-joined text a m b [] second h more = subst (λ x. CodeStands text x second b) (sym h) more
code-joined text a m b (i ∷ is) second h more = (h.0, code-joined text (a + 4) m b is second h.1 more)

module _ (store_is_done : StoreIsDone) (clear_is_done : ClearIsDone) (text : Text) (f : Frame) (addresses : Addresses) (labels : ℕ → Option ℕ) (p : PlainPlaces)
    (os : List PlainObject)
    (c : Context) (q : linear.State) (s : machine.State) (b least : ℕ) (has : HasWords text f) (rep : Represents text f q s)
    (body : IsBody text f addresses p os c.addresses q.memory)
    (bytes : All (λ byte. byte < 2 ^ 8) q.input) (low : b < 2 ^ 32) where
  abbrev Done : Instr → Type 0
  Done i = ItemsStand text addresses labels s.pc (instr_items p os i) b → Follows text f b least (instr_run c (placed_instr (place_at p) i) q) s q.input

  -- the place of a name is one of the frame's
  below : (x : ℕ) → has_place p x ≡ true → IsPlaceOf f (place_at p x)
  below x e = place-below p f body.places x e

  -- code at the places, which is code at the places of the frame
  stands-at : (a e : ℕ) (code : (ℕ → Location) → List isa.Instr) → ItemsStand text addresses labels a (words (code (location_of p.temporaries))) e
      → CodeStands text a (code (location_of f.temporaries)) e
  stands-at a e code h =
      subst (λ at. CodeStands text a (code at) e) (locations-same p f body.places) (words_stand text addresses labels a e (code (location_of p.temporaries)) h)

  stands : (code : (ℕ → Location) → List isa.Instr) → ItemsStand text addresses labels s.pc (words (code (location_of p.temporaries))) b
      → CodeStands text s.pc (code (location_of f.temporaries)) b
  stands code h = stands-at s.pc b code h

  -- what is loaded, stored to or compared has a meaning, or nothing is said
  on-defined : {X : Type 0} (found : Option X) (next : X → Answer linear.State) → ((x : X) → found ≡ Some x → Follows text f b least (next x) s q.input)
      → Follows text f b least (on_defined found next) s q.input
  on-defined None next does = tt
  on-defined (Some x) next does = does x refl

  on-number : (v : Value) (next : ℕ → Answer linear.State) → ((w : ℕ) → v ≡ Num w → Follows text f b least (next w) s q.input)
      → Follows text f b least (on_number v next) s q.input
  on-number (Num w) next does = does w refl
  on-number (At n o) next does = tt
  on-number Bad next does = tt

  const-done : (t w : ℕ) → IsPlaceOf f (place_at p t) → w < 2 ^ 32 → Done (const t w)
  const-done t w inside small h =
      let same : w ≡ w % 2 ^ 32 = omega (arith, small) in
      subst (λ n. Comes text f b (linear.set q (place_at p t) (Num n)) [] s q.input) same
      (comes text f b (linear.set q (place_at p t) (Num w)) s
      (const_is_done text f q s has rep (place_at p t) w inside small b (stands (λ at. with_none (at (place_at p t)) (λ rd. load_immediate rd w)) h) low))

  object : (k : ℕ) → has_its_object (length os) (clear k) ≡ true → ObjectStands f p os (c.addresses.local k) q.memory k
  object k e = body.objects k (ltb-true k (length os) e)

  object-done : (t k : ℕ) → IsPlaceOf f (place_at p t) → has_its_object (length os) (clear k) ≡ true → Done (object_address t k)
  object-done t k inside e h =
      let o = object k e in
      let off = object_at p.count os k in
      let fit = rep.memory.laid.blocks_fit o.name.number o.block o.lives in
      let base = o.base in
      let size = o.block_size in
      let above = fit.low in
      let top = fit.high in
      let shows : Shows f.bases (At o.name 0) (f.sp + off) = record { is = omega (arith, base); within = omega arith; low = above; high = omega (arith, top, size) } in
      comes text f b (linear.set q (place_at p t) (c.addresses.local k)) s
      (object_address_is_done text f q s has rep (place_at p t) off (c.addresses.local k) inside (omega (arith, base, top))
      (subst (λ v. Shows f.bases v (f.sp + off)) (sym o.is) shows) b
      (stands (λ at. with_none (at (place_at p t)) (λ rd. load_immediate t0 off ++ rv.Add rd t0 sp ∷ [])) h) low)

  global-done : (t k : ℕ) → IsPlaceOf f (place_at p t) → has_its_global (length addresses.globals) (global_address t k) ≡ true → Done (global_address t k)
  global-done t k inside e h =
      let g = body.globals k (ltb-true k (length addresses.globals) e) in
      let address = slice_index addresses.globals k in
      let code : Location → List isa.Instr = λ l. load_address (out_of l) address ++ store_out l in
      let l = place_of p t in
      comes text f b (linear.set q (place_at p t) (c.addresses.global k)) s
      (global_address_is_done text f q s has rep (place_at p t) address (c.addresses.global k) inside g.0 g.1 b
      (subst (λ at. CodeStands text s.pc (code (at (place_at p t))) b) (locations-same p f body.places)
      (code-joined text s.pc (s.pc + 8) b (load_address (out_of l) address) (store_out l) h.1 (words_stand text addresses labels (s.pc + 8) b (store_out l) h.2))) low)

  clear-done : (k : ℕ) → has_its_object (length os) (clear k) ≡ true → Done (clear k)
  clear-done k e h =
      let o = object k e in
      let off = object_at p.count os k in
      let code = stands (λ at. clear_code off (size_of os k)) h in
      subst (λ v. Follows text f b least (on_defined (cleared_at v q.memory) (linear.gives_memory q)) s q.input) (sym o.is)
      (comes text f b (record { names = q.names; memory = mem.cleared o.name q.memory; input = q.input }) s
      (clear_is_done text f q s has rep off o.name o.block o.lives o.block_size o.free o.base b
      (subst (λ n. CodeStands text s.pc (clear_code off n) b) (sym o.size) code) low))

  put-done : (a : ℕ) → IsPlaceOf f (place_at p a) → Done (put a)
  put-done a inside h =
      let cut = items_are_cut text addresses labels s.pc b (words (select.get a0 (place_of p a))) (Stub 0 ∷ []) h in
      let m = cut.0 in
      on-number (q.names (place_at p a)) (λ w. Returned q (wrote (w % 256) ∷ []))
      (λ w word.
      put_is_done text f q s has rep (place_at p a) w addresses.data_at m b inside word body.buffer body.stubs
      (stands-at s.pc m (λ at. select.get a0 (at (place_at p a))) cut.1)
      (subst (λ n. CodeStands text m (sequences.call (offset_to m layout.put_at)) n) cut.2.2 cut.2.1) low)

  get-done : (t : ℕ) → IsPlaceOf f (place_at p t) → Done (get t)
  get-done t inside h =
      get_is_done text f q s has rep (place_at p t) addresses.data_at (s.pc + 8) b least inside bytes body.buffer body.stubs h.1
      (stands-at (s.pc + 8) b (λ at. select.put (at (place_at p t)) a0) h.2) low

  exit-done : (a : ℕ) → IsPlaceOf f (place_at p a) → Done (exit a)
  exit-done a inside h =
      let code = stands (λ at. select.get a0 (at (place_at p a)) ++ rv.Addi a7 x0 exit_call ∷ rv.Ecall ∷ []) h in
      on-number (q.names (place_at p a)) (λ w. Exited [] (w % 256))
      (λ w word.
      let ends = exit_is_done text f q s has rep (place_at p a) w b inside word code low in
      record { count = ends.count; rest = q.input; runs = ends.runs q.input })

  -- the names of an instruction, one after another
  one : (x y : Bool) → (x && y) ≡ true → x ≡ true
  one x y e = (and_parts x y e).0

  others : (x y : Bool) → (x && y) ≡ true → y ≡ true
  others x y e = (and_parts x y e).1

  instr-done : (i : Instr) → IsTrue (all_of (has_place p) (instr_names i)) → IsTrue (has_its_object (length os) i) → IsTrue (has_its_global (length addresses.globals) i)
      → IsPlain i → Done i
  instr-done (const t w) e o g plain h = const-done t w (below t (one _ _ e)) plain h
  instr-done (undef t) e o g plain h = comes text f b (linear.set q (place_at p t) Bad) s (undef_is_done text f q s has rep (place_at p t) b h low)
  instr-done (object_address t k) e o g plain h = object-done t k (below t (one _ _ e)) o h
  instr-done (global_address t k) e o g plain h = global-done t k (below t (one _ _ e)) g h
  instr-done (binary op t x y) e o g plain h =
      let code = stands (λ at. with_two (at (place_at p t)) (at (place_at p x)) (at (place_at p y)) (binary_code op)) h in
      comes text f b (linear.set q (place_at p t) (value2 op (q.names (place_at p x)) (q.names (place_at p y)))) s
      (binary_is_done text f q s has rep op (place_at p t) (place_at p x) (place_at p y) (below t (one _ _ e)) (below x (one _ _ (others _ _ e)))
      (below y (one _ _ (others _ _ (others _ _ e)))) b code low)
  instr-done (unary op t x) e o g plain h =
      let code = stands (λ at. with_one (at (place_at p t)) (at (place_at p x)) (unary_code op)) h in
      comes text f b (linear.set q (place_at p t) (value1 op (q.names (place_at p x)))) s
      (unary_is_done text f q s has rep op (place_at p t) (place_at p x) (below t (one _ _ e)) (below x (one _ _ (others _ _ e))) b code low)
  instr-done (load width t x) e o g plain h =
      let code = stands (λ at. with_one (at (place_at p t)) (at (place_at p x)) (λ rd r. load_instr width rd r ∷ [])) h in
      on-defined (mem.load width (q.names (place_at p x)) q.memory) (linear.gives q (place_at p t))
      (λ v loaded.
      comes text f b (linear.set q (place_at p t) v) s
      (load_is_done text f q s has rep width (place_at p t) (place_at p x) v (below t (one _ _ e)) (below x (one _ _ (others _ _ e))) loaded b code low))
  instr-done (store width x v) e o g plain h =
      let code =
      stands
      (λ at. load_in t0 (at (place_at p x)) ++ load_in t1 (at (place_at p v)) ++ store_instr width (in_of (at (place_at p x)) t0) (in_of (at (place_at p v)) t1) ∷ []) h in
      on-defined (mem.store width (q.names (place_at p x)) (q.names (place_at p v)) q.memory) (linear.gives_memory q)
      (λ m stored.
      comes text f b (record { names = q.names; memory = m; input = q.input }) s
      (store_is_done text f q s has rep width (place_at p x) (place_at p v) m (below x (one _ _ e)) (below v (one _ _ (others _ _ e))) stored b code low))
  instr-done (clear k) e o g plain h = clear-done k o h
  instr-done (equal_pointers t x y) e o g plain h =
      let code = stands (λ at. with_two (at (place_at p t)) (at (place_at p x)) (at (place_at p y)) (binary_code Eq)) h in
      on-defined (mem.pointers_equal (q.names (place_at p x)) (q.names (place_at p y)) q.memory) (λ n. linear.gives q (place_at p t) (Num n))
      (λ n equal.
      comes text f b (linear.set q (place_at p t) (Num n)) s
      (equal_pointers_is_done text f q s has rep (place_at p t) (place_at p x) (place_at p y) n (below t (one _ _ e)) (below x (one _ _ (others _ _ e)))
      (below y (one _ _ (others _ _ (others _ _ e)))) equal b code low))
  instr-done (move t x) e o g plain h =
      let code =
      subst (λ n. CodeStands text s.pc (move_between n (place_at p t) (place_at p x)) b) (sym body.places.1)
      (words_stand text addresses labels s.pc b (move_between p.temporaries (place_at p t) (place_at p x)) h) in
      comes text f b (linear.set q (place_at p t) (q.names (place_at p x))) s
      (move_is_done text f q s has rep (place_at p t) (place_at p x) (below t (one _ _ e)) (below x (one _ _ (others _ _ e))) b code low)
  instr-done (call n t xs) e o g plain h = absurd plain
  instr-done (put x) e o g plain h = put-done x (below x (one _ _ e)) h
  instr-done (get t) e o g plain h = get-done t (below t (one _ _ e)) h
  instr-done (exit x) e o g plain h = exit-done x (below x (one _ _ e)) h

pub instr_is_done : StoreIsDone → ClearIsDone → InstrIsDone
instr_is_done store_done clear_done text f addresses labels p os c q s i b least has rep body bytes places named globals plain there low =
    instr-done store_done clear_done text f addresses labels p os c q s b least has rep body bytes low i places named globals plain there
