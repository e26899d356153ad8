-- Parts of a construction: one after another, a node, regions.
use Rattle.std.proofs.Common.{◌≡◌, ◌≤◌, inl, inr, ℕ, suc, Bool, true, false, List, [], ◌∷◌, ◌++◌, map, length, refl, ap, ◌∙◌, arith, subst}
use Rattle.std.specs.Prelude.{◌||◌, slice_get}
use Rattle.std.specs.declared.option.Option.TheVariants.{Some}
use Rattle.g_graph.specs.declared.op.Kind.{Kind}
use Rattle.g_graph.specs.declared.op.Kind.TheVariants.{Value, Memory, Io}
use Rattle.g_graph.specs.declared.op.Origin.{Origin}
use Rattle.g_graph.specs.declared.op.Origin.TheVariants.{Arg, Out}
use Rattle.g_graph.specs.declared.op.Op.{Op}
use Rattle.g_graph.specs.declared.op.Op.TheVariants.{Gamma, Theta}
use Rattle.g_graph.specs.Plain.{node, nodes_of, no_regions, region_then, regions_of}
use Rattle.g_graph.specs.Signatures.{inputs_of, op_outputs}
use Rattle.g_graph.specs.Scope.{same_kind}
use Rattle.g_graph.specs.WellFormed.{some_of, one_state_each}
use Rattle.g_build_keeps.specs.Formation.{Standing, last_origin, at_start, after_node, Has, HasAll, HasBothStates, AreSome, NodeForms, NodesForm, RegionForms, RegionsForm}
use Rattle.g_build_keeps.proofs.lemmas.Joins.{weaken, join, Ends, region_rises, regions_rise}
use Rattle.g_build_def.specs.Writer.{Form, straight, jumping, last_kinds, carried_origins, renamed, Point, Built, given, nothing, bind, dropped, one_node, Extra, no_value, one_value, void_value, inside, region_made, Regions, regions_made, gamma, choices, choice, choice_one_first, repeat}
use Rattle.g_build_def.specs.Operations.{value_node}
use Rattle.g_build_keeps.proofs.Stands.{Frame, Mark, a_value, an_object, a_hidden, allowed, mark_kinds, frame_kinds, IsValue, IsOld, Grown, NoValue, Stands, Done, Made, MadeInside, slots_grown, jumps_grown, kind_new, after_grown, after_old, stands_renamed, has_append, carried_have, kinds_carried}

-- ---- one part after another

pub bind_made : {A B : Type 0} → (f g : Frame) (V : Standing → A → Type 0) (W : Standing → B → Type 0) (c : Standing) (a : Built A) (k : A → Point → Built B) → allowed f ≡ allowed g → Made f V c a →
    ((d : Standing) → Done f V c a d → Made g W d (k a.value a.after)) → Made g W c (bind a k)
bind_made f g V W c a k same h then =
    let b = k a.value a.after in
    join (allowed g) c a.nodes b.nodes (Done g W c (bind a k))
    (weaken (allowed g) c (nodes_of a.nodes) (Done f V c a) (λ d. NodesForm (allowed g) d (nodes_of b.nodes) (Done g W c (bind a k)))
    (subst (λ ok. NodesForm ok c (nodes_of a.nodes) (Done f V c a)) same h)
    (λ d x. weaken (allowed g) d (nodes_of b.nodes) (Done g W d b) (Done g W c (bind a k)) (then d x)
    (λ e y. record { grown = λ o j q. y.grown o j (x.grown o j q); stands = y.stands; value = y.value })))

-- the same in one frame
pub then_made : {A B : Type 0} → (f : Frame) (V : Standing → A → Type 0) (W : Standing → B → Type 0) (c : Standing) (a : Built A) (k : A → Point → Built B) → Made f V c a →
    ((d : Standing) → Done f V c a d → Made f W d (k a.value a.after)) → Made f W c (bind a k)
then_made f V W c a k h then = bind_made f f V W c a k refl h then

pub given_made : {A : Type 0} → (f : Frame) (V : Standing → A → Type 0) (c : Standing) (s : Point) (v : A) → Stands f c s → V c v → Made f V c (given v s)
given_made f V c s v h g = record { grown = λ o k e. e; stands = h; value = g }

pub nothing_made : (f : Frame) (c : Standing) (s : Point) → Stands f c s → Made f NoValue c (nothing s)
nothing_made f c s h = given_made f NoValue c s tt h tt

pub dropped_made : {A : Type 0} → (f : Frame) (V : Standing → A → Type 0) (c : Standing) (a : Built A) → Made f V c a → Made f NoValue c (dropped a)
dropped_made f V c a h = then_made f V NoValue c a (λ _ t. nothing t) h (λ d x. nothing_made f d a.after x.stands)

-- ---- a node without regions

abbrev IsPlain : Op → Type 0
IsPlain Gamma = ⊥
IsPlain Theta = ⊥
IsPlain op = Unit {0}

node_forms : (a : Op → ℕ → Type 0) (c : Standing) (op : Op) (id : ℕ) (inputs : List Origin) → IsPlain op → c.next ≤ id → a op (length inputs) →
    HasAll c (inputs_of op (length inputs) no_regions) inputs →
    NodeForms a c (node id op inputs no_regions) (op_outputs op) (suc id)
node_forms a c Gamma id inputs p l f h = absurd p
node_forms a c Theta id inputs p l f h = absurd p
node_forms a c op id inputs p l f h = (l, f, record { without = refl; takes = h; gives = refl; rises = refl })

-- the states after a node, and what it gives
pub record Given {A : Type 0} (V : Standing → A → Type 0) (d : Standing) (v : A) (m i : Origin) : Type 0 where
  pub memory : Has d Memory m
  pub io : Has d Io i
  pub value : V d v

pub node_made : {A : Type 0} → (f : Frame) (V : Standing → A → Type 0) (c : Standing) (s : Point) (op : Op) (inputs : List Origin) (v : A) (m i : Origin) → Stands f c s → IsPlain op →
    allowed f op (length inputs) →
    HasAll c (inputs_of op (length inputs) no_regions) inputs →
    (Grown c (after_node c s.next (op_outputs op) (suc s.next)) → Given V (after_node c s.next (op_outputs op) (suc s.next)) v m i) → Made f V c (one_node s op inputs v m i)
node_made f V c s op inputs v m i h plain ok takes gives =
    let low : c.next ≤ s.next = omega (arith, h.next) in
    let d = after_node c s.next (op_outputs op) (suc s.next) in
    let g = after_grown c s.next (op_outputs op) (suc s.next) h.old low in
    let r = gives g in (
      op_outputs op,
      suc s.next,
      node_forms (allowed f) c op s.next inputs plain low ok takes,
      record {
        grown = g;
        stands = record {
          form = h.form;
          next = refl;
          slots = slots_grown f.objects c d f.marks s.carried.variables g h.slots;
          jumps = jumps_grown c d f.form s.carried.go s.carried.ret g h.jumps;
          memory = r.memory;
          io = r.io;
          old = after_old c s.next (op_outputs op) (suc s.next) h.old low (omega arith);
        };
        value = r.value;
      },
    )

-- a node that gives a value, and no state
pub value_made : (f : Frame) (c : Standing) (s : Point) (op : Op) (inputs : List Origin) → Stands f c s → IsPlain op → op_outputs op ≡ Value ∷ [] → allowed f op (length inputs) →
    HasAll c (inputs_of op (length inputs) no_regions) inputs → Made f IsValue c (value_node s op inputs)
value_made f c s op inputs h plain outputs ok takes =
    node_made f IsValue c s op inputs (Out s.next 0) s.carried.memory s.carried.io h plain ok takes (λ g. record {
      memory = (g s.carried.memory Memory h.memory.0, ap (λ ks. last_origin Memory (Out s.next) ks c.memory) outputs ∙ h.memory.1);
      io = (g s.carried.io Io h.io.0, ap (λ ks. last_origin Io (Out s.next) ks c.io) outputs ∙ h.io.1);
      value = kind_new c s.next (op_outputs op) (suc s.next) 0 ∙ ap (λ ks. slice_get ks 0) outputs;
    })

-- ---- regions

pub at_start_old : (n : ℕ) (args : List Kind) → IsOld (at_start n args)
at_start_old n args (Arg k) j e = tt
at_start_old n args (Out id p) j e = absurd (cc)

-- the start of a region
stands_inside : (f : Frame) (c : Standing) (s : Point) (n : ℕ) → Stands f c s → Stands f (at_start n (frame_kinds f)) (inside s.carried n)
stands_inside f c s n h =
    stands_renamed f c (at_start n (frame_kinds f)) s n Arg (Arg 0) (Arg 0) h refl (at_start_old n (frame_kinds f)) (λ j. refl) refl refl

values_once : (ms : List Mark) (ks : List Kind) → one_state_each (map Some ks) ≡ true → one_state_each (map Some (mark_kinds ms ++ ks)) ≡ true
values_once [] ks h = h
values_once (a_value ∷ ms) ks h = values_once ms ks h
values_once (an_object k ∷ ms) ks h = values_once ms ks h
values_once (a_hidden ∷ ms) ks h = values_once ms ks h

values_then : (k : Kind) (ms : List Mark) (ks : List Kind) → same_kind k Value ≡ false → some_of (same_kind k) ks ≡ true → some_of (same_kind k) (mark_kinds ms ++ ks) ≡ true
values_then k [] ks e h = h
values_then k (a_value ∷ ms) ks e h = or_ap (values_then k ms ks e h) (same_kind k Value)
  where
    or_ap : {x : Bool} → x ≡ true → (t : Bool) → (t || x) ≡ true
    or_ap h true = refl
    or_ap h false = h
values_then k (an_object j ∷ ms) ks e h = values_then k ms ks e h
values_then k (a_hidden ∷ ms) ks e h = or_ap (values_then k ms ks e h) (same_kind k Value)
  where
    or_ap : {x : Bool} → x ≡ true → (t : Bool) → (t || x) ≡ true
    or_ap h true = refl
    or_ap h false = h

frame_states : (f : Frame) → HasBothStates (frame_kinds f)
frame_states f =
    let l = last_states f.form in
    record { once = values_once f.marks (last_kinds f.form) l.once; memory = values_then Memory f.marks (last_kinds f.form) refl l.memory; io = values_then Io f.marks (last_kinds f.form) refl l.io }
  where
    last_states : (form : Form) → HasBothStates (last_kinds form)
    last_states straight = record { once = refl; memory = refl; io = refl }
    last_states jumping = record { once = refl; memory = refl; io = refl }

-- What a region gives more than what is carried, and what the node then gives for it.
pub record ExtraFits {A : Type 0} (f : Frame) (V W : Standing → A → Type 0) (c : Standing) (id : ℕ) (x : Extra A) (extra : List Kind) : Type 0 where
  pub gives : (d : Standing) (v : A) → V d v → HasAll d extra (x.results v)
  pub states : HasBothStates (extra ++ frame_kinds f)
  pub kinds : (m j : ℕ) → (after_node c id (extra ++ frame_kinds f) m).kind (Out id (x.port j)) ≡ slice_get (frame_kinds f) j
  pub memory : (m : ℕ) → (after_node c id (extra ++ frame_kinds f) m).memory ≡ last_origin Memory (λ j. Out id (x.port j)) (frame_kinds f) c.memory
  pub io : (m : ℕ) → (after_node c id (extra ++ frame_kinds f) m).io ≡ last_origin Io (λ j. Out id (x.port j)) (frame_kinds f) c.io
  pub value : (m : ℕ) → Grown c (after_node c id (extra ++ frame_kinds f) m) → W (after_node c id (extra ++ frame_kinds f) m) (x.value id)

pub no_value_fits : (f : Frame) (c : Standing) (id : ℕ) → ExtraFits f NoValue NoValue c id no_value []
no_value_fits f c id = record {
  gives = λ d v h. tt;
  states = frame_states f;
  kinds = λ m j. kind_new c id (frame_kinds f) m j;
  memory = λ m. refl;
  io = λ m. refl;
  value = λ m g. tt;
}

pub one_value_fits : (f : Frame) (c : Standing) (id : ℕ) → ExtraFits f IsValue IsValue c id one_value (Value ∷ [])
one_value_fits f c id =
    let s = frame_states f in
    record {
      gives = λ d v h. (h, tt);
      states = record { once = s.once; memory = s.memory; io = s.io };
      kinds = λ m j. kind_new c id (Value ∷ frame_kinds f) m (suc j);
      memory = λ m. refl;
      io = λ m. refl;
      value = λ m g. kind_new c id (Value ∷ frame_kinds f) m 0;
    }

pub void_value_fits : (f : Frame) (c : Standing) (id : ℕ) (p : Origin) → IsValue c p → ExtraFits f IsValue IsValue c id (void_value p) []
void_value_fits f c id p h = record {
  gives = λ d v h. tt;
  states = frame_states f;
  kinds = λ m j. kind_new c id (frame_kinds f) m j;
  memory = λ m. refl;
  io = λ m. refl;
  value = λ m g. g p Value h;
}

region_forms : {A : Type 0} → (f : Frame) (V : Standing → A → Type 0) (c : Standing) (s : Point) (n : ℕ) (x : Extra A) (extra : List Kind) (g : Point → Built A) → Stands f c s → MadeInside f V g →
    ((d : Standing) (v : A) → V d v → HasAll d extra (x.results v)) →
    RegionForms (allowed f) n (frame_kinds f) (extra ++ frame_kinds f) (region_made x s.carried (g (inside s.carried n))) (g (inside s.carried n)).after.next
region_forms f V c s n x extra g h inner gives =
    let b = g (inside s.carried n) in
    let start = at_start n (frame_kinds f) in (
      kinds_carried f c s h,
      weaken (allowed f) start (nodes_of b.nodes) (Done f V start b) (Ends b.after.next (extra ++ frame_kinds f) (x.results b.value ++ carried_origins b.after.carried))
          (inner start (inside s.carried n) (stands_inside f c s n h))
          (λ d e. (e.stands.next, has_append d extra (frame_kinds f) (x.results b.value) (carried_origins b.after.carried) (gives d b.value e.value) (carried_have f d b.after e.stands))),
    )

abbrev pub AllInside : {A : Type 0} → Frame → (Standing → A → Type 0) → List (Point → Built A) → Type 0
AllInside f V [] = Unit {0}
AllInside f V (g ∷ gs) = MadeInside f V g × AllInside f V gs

regions_form : {A : Type 0} → (f : Frame) (V : Standing → A → Type 0) (c : Standing) (s : Point) (n : ℕ) (x : Extra A) (extra : List Kind) (gs : List (Point → Built A)) → Stands f c s →
    AllInside f V gs →
    ((d : Standing) (v : A) → V d v → HasAll d extra (x.results v)) →
    RegionsForm (allowed f) n (frame_kinds f) (extra ++ frame_kinds f) (regions_of (regions_made x s.carried n gs).regions) (regions_made x s.carried n gs).next
regions_form f V c s n x extra [] h inner gives = omega arith
regions_form f V c s n x extra (g ∷ gs) h inner gives =
    let b = g (inside s.carried n) in
    let own = region_forms f V c s n x extra g h inner.0 gives in
    let rest = regions_form f V c s b.after.next x extra gs h inner.1 gives in
    let r = regions_made x s.carried b.after.next gs in (
      n,
      b.after.next,
      b.after.next,
      r.next,
      own,
      rest,
      record {
        low_within = omega arith;
        high_within = regions_rise (allowed f) b.after.next (frame_kinds f) (extra ++ frame_kinds f) (regions_of r.regions) r.next rest;
        from_within = region_rises (allowed f) n (frame_kinds f) (extra ++ frame_kinds f) (region_made x s.carried b) b.after.next own;
        to_within = omega arith;
        apart = inl (omega arith);
      },
    )

-- what stands after a Gamma or a Theta
after_stands : {A : Type 0} → (f : Frame) (V W : Standing → A → Type 0) (c : Standing) (s : Point) (x : Extra A) (extra : List Kind) (m : ℕ) → Stands f c s → ExtraFits f V W c s.next x extra →
    suc s.next ≤ m →
    Grown c (after_node c s.next (extra ++ frame_kinds f) m)
    × Stands f (after_node c s.next (extra ++ frame_kinds f) m) (record { next = m; carried = renamed s.carried (λ k. Out s.next (x.port k)) })
after_stands f V W c s x extra m h fits rises =
    let ks = extra ++ frame_kinds f in
    let low : c.next ≤ s.next = omega (arith, h.next) in (
      after_grown c s.next ks m h.old low,
      stands_renamed f c (after_node c s.next ks m) s m (λ k. Out s.next (x.port k)) c.memory c.io h refl (after_old c s.next ks m h.old low (omega (arith, rises)))
          (fits.kinds m) (fits.memory m) (fits.io m),
    )

gamma_made : {A : Type 0} → (f : Frame) (V W : Standing → A → Type 0) (c : Standing) (s : Point) (x : Extra A) (extra : List Kind) (p : Origin) (r : Regions) → Stands f c s → IsValue c p →
    ExtraFits f V W c s.next x extra → AreSome (regions_of r.regions) → RegionsForm (allowed f) (suc s.next) (frame_kinds f) (extra ++ frame_kinds f) (regions_of r.regions) r.next →
    Made f W c (gamma x s p r)
gamma_made f V W c s x extra p r h test fits some regions =
    let rises = regions_rise (allowed f) (suc s.next) (frame_kinds f) (extra ++ frame_kinds f) (regions_of r.regions) r.next regions in
    let e = after_stands f V W c s x extra r.next h fits rises in (
      extra ++ frame_kinds f,
      r.next,
      (omega (arith, h.next), tt, (frame_kinds f, (test, carried_have f c s h), frame_states f, fits.states, some, regions)),
      record { grown = e.0; stands = e.1; value = fits.value r.next e.0 },
    )

pub choices_made : {A : Type 0} → (f : Frame) (V W : Standing → A → Type 0) (c : Standing) (s : Point) (x : Extra A) (extra : List Kind) (p : Origin) (g : Point → Built A) (gs : List (Point →
    Built A)) → Stands f c s →
    IsValue c p → ExtraFits f V W c s.next x extra → AllInside f V (g ∷ gs) → Made f W c (choices x s p (g ∷ gs))
choices_made f V W c s x extra p g gs h test fits inner =
    gamma_made f V W c s x extra p (regions_made x s.carried (suc s.next) (g ∷ gs)) h test fits tt (regions_form f V c s (suc s.next) x extra (g ∷ gs) h inner fits.gives)

pub choice_made : {A : Type 0} → (f : Frame) (V W : Standing → A → Type 0) (c : Standing) (s : Point) (x : Extra A) (extra : List Kind) (p : Origin) (g k : Point → Built A) → Stands f c s →
    IsValue c p → ExtraFits f V W c s.next x extra → MadeInside f V g → MadeInside f V k → Made f W c (choice x s p g k)
choice_made f V W c s x extra p g k h test fits a b = choices_made f V W c s x extra p g (k ∷ []) h test fits (a, (b, tt))

-- region 1 has the numbers before those of region 0
pub choice_one_first_made : {A : Type 0} → (f : Frame) (V W : Standing → A → Type 0) (c : Standing) (s : Point) (x : Extra A) (extra : List Kind) (p : Origin) (g k : Point → Built A) → Stands f c s →
    IsValue c p → ExtraFits f V W c s.next x extra → MadeInside f V g → MadeInside f V k → Made f W c (choice_one_first x s p g k)
choice_one_first_made f V W c s x extra p g k h test fits a b =
    let ks = frame_kinds f in
    let outs = extra ++ frame_kinds f in
    let n = suc s.next in
    let first = k (inside s.carried n) in
    let second = g (inside s.carried first.after.next) in
    let one = region_forms f V c s n x extra k h b fits.gives in
    let zero_region = region_forms f V c s first.after.next x extra g h a fits.gives in
    let one_rises = region_rises (allowed f) n ks outs (region_made x s.carried first) first.after.next one in
    let zero_rises = region_rises (allowed f) first.after.next ks outs (region_made x s.carried second) second.after.next zero_region in
    let last : RegionsForm (allowed f) n ks outs (region_then (region_made x s.carried first) no_regions) first.after.next = (
      n,
      first.after.next,
      first.after.next,
      first.after.next,
      one,
      omega arith,
      record { low_within = omega arith; high_within = omega arith; from_within = one_rises; to_within = omega arith; apart = inl (omega arith) },
    ) in
    gamma_made f V W c s x extra p (record { regions = region_made x s.carried second ∷ region_made x s.carried first ∷ []; next = second.after.next }) h test fits tt (
      first.after.next,
      second.after.next,
      n,
      first.after.next,
      zero_region,
      last,
      record { low_within = one_rises; high_within = omega arith; from_within = omega arith; to_within = zero_rises; apart = inr (omega arith) },
    )

pub repeat_made : (f : Frame) (c : Standing) (s : Point) (g : Point → Built Origin) → Stands f c s → MadeInside f IsValue g → Made f NoValue c (repeat s g)
repeat_made f c s g h inner =
    let ks = frame_kinds f in
    let n = suc s.next in
    let b = g (inside s.carried n) in
    let own = region_forms f IsValue c s n one_value (Value ∷ []) g h inner (λ d v q. (q, tt)) in
    let rises = region_rises (allowed f) n ks (Value ∷ ks) (region_made one_value s.carried b) b.after.next own in
    let fits = no_value_fits f c s.next in
    let e = after_stands f NoValue NoValue c s no_value [] b.after.next h fits rises in
    let states = frame_states f in (
      ks,
      b.after.next,
      (
        omega (arith, h.next),
        tt,
        (
          carried_have f c s h,
          states,
          tt,
          (
            n,
            b.after.next,
            b.after.next,
            b.after.next,
            own,
            omega arith,
            record { low_within = omega arith; high_within = omega arith; from_within = rises; to_within = omega arith; apart = inl (omega arith) },
          ),
        ),
      ),
      record { grown = e.0; stands = e.1; value = tt },
    )
