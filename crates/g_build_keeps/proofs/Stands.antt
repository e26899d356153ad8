-- What holds at every point of a construction: what is carried are values and the last states.
use Rattle.std.proofs.Common.{◌≡◌, ◌≤◌, ◌<◌, ℕ, suc, Bool, true, false, List, [], ◌∷◌, ◌++◌, refl, sym, ap, ◌∙◌, arith, subst}
use Rattle.std.specs.Prelude.{◌==◌, slice_get, if◌then◌else◌}
use Rattle.std.proofs.lemmas.Bool.Decides.{nat_tests}
use Rattle.std.specs.declared.option.Option.TheVariants.{Some}
use Rattle.g_graph.specs.declared.op.Kind.{Kind}
use Rattle.g_graph.specs.declared.op.Kind.TheVariants.{Value, Memory, Io}
use Rattle.g_graph.specs.declared.op.Origin.{Origin}
use Rattle.g_graph.specs.declared.op.Origin.TheVariants.{Arg, Out}
use Rattle.g_graph.specs.declared.op.Op.{Op}
use Rattle.g_graph.specs.Plain.{nodes_of, PlainLambda}
use Rattle.g_graph.proofs.lemmas.Indexes.{same_number_true}
use Rattle.g_build_keeps.specs.Formation.{Standing, last_origin, after_node, Has, HasAll, NodesForm}
use Rattle.g_build_keeps.specs.FormationLaws.{OpFits}
use Rattle.g_build_def.specs.Writer.{SlotOrigin, held, object, hidden, Form, straight, jumping, value_kinds, last_kinds, carried_kinds, value_origins, last_origins, carried_origins, numbered, beyond, with_last, renamed, Carried, Point, Built}

-- ---- frames

-- what a variable in scope is
pub data Mark : Type 0 where
  a_value : Mark
  an_object : (number : ℕ) → Mark
  a_hidden : Mark

-- What ops may name, and what is carried: it is the same before and after a statement.
pub record Frame : Type 0 where
  pub lambdas : List PlainLambda
  pub globals : ℕ
  pub objects : ℕ
  pub form : Form
  pub marks : List Mark

abbrev pub allowed : Frame → Op → ℕ → Type 0
allowed f = OpFits f.lambdas f.globals f.objects

abbrev pub with_mark : Frame → Mark → Frame
with_mark f m = record { lambdas = f.lambdas; globals = f.globals; objects = f.objects; form = f.form; marks = f.marks ++ m ∷ [] }

abbrev pub mark_kinds : List Mark → List Kind
mark_kinds [] = []
mark_kinds (a_value ∷ ms) = Value ∷ mark_kinds ms
mark_kinds (an_object k ∷ ms) = mark_kinds ms
mark_kinds (a_hidden ∷ ms) = Value ∷ mark_kinds ms

-- the kinds of what is carried
abbrev pub frame_kinds : Frame → List Kind
frame_kinds f = mark_kinds f.marks ++ last_kinds f.form

-- ---- what is known

abbrev pub IsValue : Standing → Origin → Type 0
IsValue c o = c.kind o ≡ Some Value

abbrev IsBefore : (next : ℕ) → Origin → Type 0
IsBefore n (Arg k) = Unit {0}
IsBefore n (Out id p) = id < n

-- what is known has a number before the next
abbrev pub IsOld : Standing → Type 0
IsOld c = (o : Origin) (k : Kind) → c.kind o ≡ Some k → IsBefore c.next o

-- what was known is known
abbrev pub Grown : Standing → Standing → Type 0
Grown c d = (o : Origin) (k : Kind) → c.kind o ≡ Some k → d.kind o ≡ Some k

abbrev pub SlotFits : (objects : ℕ) → Standing → Mark → SlotOrigin → Type 0
SlotFits b c a_value (held o) = IsValue c o
SlotFits b c (an_object k) (object j) = (j ≡ k) × (k < b)
SlotFits b c a_hidden (hidden o) = IsValue c o
SlotFits b c m x = ⊥

abbrev pub SlotsFit : (objects : ℕ) → Standing → List Mark → List SlotOrigin → Type 0
SlotsFit b c [] [] = Unit {0}
SlotsFit b c (m ∷ ms) (x ∷ xs) = SlotFits b c m x × SlotsFit b c ms xs
SlotsFit b c ms xs = ⊥

abbrev pub JumpsFit : Standing → Form → (go ret : Origin) → Type 0
JumpsFit c straight g r = Unit {0}
JumpsFit c jumping g r = IsValue c g × IsValue c r

-- a point of a construction in this frame
pub record Stands (f : Frame) (c : Standing) (s : Point) : Type 0 where
  pub form : s.carried.form ≡ f.form
  pub next : c.next ≡ s.next
  pub slots : SlotsFit f.objects c f.marks s.carried.variables
  pub jumps : JumpsFit c f.form s.carried.go s.carried.ret
  pub memory : Has c Memory s.carried.memory
  pub io : Has c Io s.carried.io
  pub old : IsOld c

-- nodes have led from c to d, where this is said of what they give
pub record Done {A : Type 0} (f : Frame) (V : Standing → A → Type 0) (c : Standing) (b : Built A) (d : Standing) : Type 0 where
  pub grown : Grown c d
  pub stands : Stands f d b.after
  pub value : V d b.value

abbrev pub Made : {A : Type 0} → Frame → (Standing → A → Type 0) → Standing → Built A → Type 0
Made f V c b = NodesForm (allowed f) c (nodes_of b.nodes) (Done f V c b)

abbrev pub MadeInside : {A : Type 0} → Frame → (Standing → A → Type 0) → (Point → Built A) → Type 0
MadeInside f V g = (c : Standing) (s : Point) → Stands f c s → Made f V c (g s)

abbrev pub NoValue : {A : Type 0} → Standing → A → Type 0
NoValue d v = Unit {0}

-- ---- what grows

slot_grown : (b : ℕ) (c d : Standing) (m : Mark) (x : SlotOrigin) → Grown c d → SlotFits b c m x → SlotFits b d m x
slot_grown b c d a_value (held o) g h = g o Value h
slot_grown b c d a_value (object k) g h = absurd h
slot_grown b c d a_value (hidden o) g h = absurd h
slot_grown b c d (an_object k) (held o) g h = absurd h
slot_grown b c d (an_object k) (object j) g h = h
slot_grown b c d (an_object k) (hidden o) g h = absurd h
slot_grown b c d a_hidden (held o) g h = absurd h
slot_grown b c d a_hidden (object k) g h = absurd h
slot_grown b c d a_hidden (hidden o) g h = g o Value h

pub slots_grown : (b : ℕ) (c d : Standing) (ms : List Mark) (xs : List SlotOrigin) → Grown c d → SlotsFit b c ms xs → SlotsFit b d ms xs
slots_grown b c d [] [] g h = h
slots_grown b c d [] (x ∷ xs) g h = absurd h
slots_grown b c d (m ∷ ms) [] g h = absurd h
slots_grown b c d (m ∷ ms) (x ∷ xs) g h = (slot_grown b c d m x g h.0, slots_grown b c d ms xs g h.1)

pub jumps_grown : (c d : Standing) (form : Form) (go ret : Origin) → Grown c d → JumpsFit c form go ret → JumpsFit d form go ret
jumps_grown c d straight go ret g h = h
jumps_grown c d jumping go ret g h = (g go Value h.0, g ret Value h.1)

pub kind_new : (c : Standing) (id : ℕ) (ks : List Kind) (m p : ℕ) → (after_node c id ks m).kind (Out id p) ≡ slice_get ks p
kind_new c id ks m p = ap (λ t. if t then slice_get ks p else c.kind (Out id p)) (same_number_true id)

pub after_grown : (c : Standing) (id : ℕ) (ks : List Kind) (m : ℕ) → IsOld c → c.next ≤ id → Grown c (after_node c id ks m)
after_grown c id ks m old l (Arg k) j q = q
after_grown c id ks m old l (Out n p) j q =
    let before : n < c.next = old (Out n p) j q in
    let differs : (id == n) ≡ false = grind (arith, nat_tests, l, before) in
    ap (λ t. if t then slice_get ks p else c.kind (Out n p)) differs ∙ q

pub after_old : (c : Standing) (id : ℕ) (ks : List Kind) (m : ℕ) → IsOld c → c.next ≤ id → id < m → IsOld (after_node c id ks m)
after_old c id ks m old l h (Arg k) j q = tt
after_old c id ks m old l h (Out n p) j q = by_test (id == n) refl q
  where
    by_test : (t : Bool) → (id == n) ≡ t → (if t then slice_get ks p else c.kind (Out n p)) ≡ Some j → n < m
    by_test true e r = grind (arith, nat_tests, e, h)
    by_test false e r = let before : n < c.next = old (Out n p) j r in omega (arith, before, l, h)

-- ---- renamed

-- After a renaming by a numbering of what is carried, with the kinds that it says.
record Numbers (c : Standing) (f : ℕ → Origin) (ks : List Kind) (first last : Origin) : Type 0 where
  kinds : (j : ℕ) → c.kind (f j) ≡ slice_get ks j
  memory : c.memory ≡ last_origin Memory f ks first
  io : c.io ≡ last_origin Io f ks last

slots_numbered : (b : ℕ) (c d : Standing) (ms : List Mark) (xs : List SlotOrigin) (rest : List Kind) (f : ℕ → Origin) (o q : Origin) → SlotsFit b c ms xs → Numbers d f (mark_kinds ms ++ rest) o q →
    SlotsFit b d ms (numbered xs f) × Numbers d (beyond xs f) rest o q
slots_numbered b c d [] [] rest f o q h n = (tt, n)
slots_numbered b c d [] (x ∷ xs) rest f o q h n = absurd h
slots_numbered b c d (m ∷ ms) [] rest f o q h n = absurd h
slots_numbered b c d (a_value ∷ ms) (held p ∷ xs) rest f o q h n =
    let r = slots_numbered b c d ms xs rest (λ k. f (suc k)) o q h.1 (record { kinds = λ j. n.kinds (suc j); memory = n.memory; io = n.io }) in
    ((n.kinds 0, r.0), r.1)
slots_numbered b c d (a_value ∷ ms) (object k ∷ xs) rest f o q h n = absurd h.0
slots_numbered b c d (a_value ∷ ms) (hidden p ∷ xs) rest f o q h n = absurd h.0
slots_numbered b c d (an_object k ∷ ms) (held p ∷ xs) rest f o q h n = absurd h.0
slots_numbered b c d (an_object k ∷ ms) (object j ∷ xs) rest f o q h n = let r = slots_numbered b c d ms xs rest f o q h.1 n in ((h.0, r.0), r.1)
slots_numbered b c d (an_object k ∷ ms) (hidden p ∷ xs) rest f o q h n = absurd h.0
slots_numbered b c d (a_hidden ∷ ms) (held p ∷ xs) rest f o q h n = absurd h.0
slots_numbered b c d (a_hidden ∷ ms) (object k ∷ xs) rest f o q h n = absurd h.0
slots_numbered b c d (a_hidden ∷ ms) (hidden p ∷ xs) rest f o q h n =
    let r = slots_numbered b c d ms xs rest (λ k. f (suc k)) o q h.1 (record { kinds = λ j. n.kinds (suc j); memory = n.memory; io = n.io }) in
    ((n.kinds 0, r.0), r.1)

-- what follows the variables
record LastFit (c : Standing) (form : Form) (k : Carried) : Type 0 where
  jumps : JumpsFit c form k.go k.ret
  memory : Has c Memory k.memory
  io : Has c Io k.io

last_numbered : (d : Standing) (form : Form) (xs : List SlotOrigin) (f : ℕ → Origin) (o q : Origin) → Numbers d f (last_kinds form) o q → LastFit d form (with_last form xs f)
last_numbered d straight xs f o q n = record { jumps = tt; memory = (n.kinds 0, n.memory); io = (n.kinds 1, n.io) }
last_numbered d jumping xs f o q n = record { jumps = (n.kinds 0, n.kinds 1); memory = (n.kinds 2, n.memory); io = (n.kinds 3, n.io) }

with_last_form : (form : Form) (xs : List SlotOrigin) (f : ℕ → Origin) → ((with_last form xs f).form ≡ form) × ((with_last form xs f).variables ≡ xs)
with_last_form straight xs f = (refl, refl)
with_last_form jumping xs f = (refl, refl)

-- a point whose carried variables are those of another, renamed
pub stands_renamed : (f : Frame) (c d : Standing) (s : Point) (n : ℕ) (g : ℕ → Origin) (o q : Origin) → Stands f c s → d.next ≡ n → IsOld d → ((j : ℕ) → d.kind (g j) ≡ slice_get (frame_kinds f) j) →
    d.memory ≡ last_origin Memory g (frame_kinds f) o → d.io ≡ last_origin Io g (frame_kinds f) q → Stands f d (record { next = n; carried = renamed s.carried g })
stands_renamed f c d s n g o q h e old kinds memory io =
    let r = slots_numbered f.objects c d f.marks s.carried.variables (last_kinds f.form) g o q h.slots (record { kinds = kinds; memory = memory; io = io }) in
    let xs = numbered s.carried.variables g in
    let l = last_numbered d f.form xs (beyond s.carried.variables g) o q r.1 in
    let same : renamed s.carried g ≡ with_last f.form xs (beyond s.carried.variables g) = ap (λ form. with_last form xs (beyond s.carried.variables g)) h.form in
    let w = with_last_form f.form xs (beyond s.carried.variables g) in
    subst (λ k. Stands f d (record { next = n; carried = k })) (sym same) (record {
      form = w.0;
      next = e;
      slots = subst (λ ys. SlotsFit f.objects d f.marks ys) (sym w.1) r.0;
      jumps = l.jumps;
      memory = l.memory;
      io = l.io;
      old = old;
    })

-- ---- what is carried, in its order

pub has_append : (c : Standing) (js ks : List Kind) (os ps : List Origin) → HasAll c js os → HasAll c ks ps → HasAll c (js ++ ks) (os ++ ps)
has_append c [] ks [] ps h k = k
has_append c [] ks (o ∷ os) ps h k = absurd h
has_append c (j ∷ js) ks [] ps h k = absurd h
has_append c (j ∷ js) ks (o ∷ os) ps h k = (h.0, has_append c js ks os ps h.1 k)

slots_have : (b : ℕ) (c : Standing) (ms : List Mark) (xs : List SlotOrigin) → SlotsFit b c ms xs → HasAll c (mark_kinds ms) (value_origins xs) × (value_kinds xs ≡ mark_kinds ms)
slots_have b c [] [] h = (tt, refl)
slots_have b c [] (x ∷ xs) h = absurd h
slots_have b c (m ∷ ms) [] h = absurd h
slots_have b c (a_value ∷ ms) (held o ∷ xs) h = let r = slots_have b c ms xs h.1 in ((h.0, r.0), ap (λ ks. Value ∷ ks) r.1)
slots_have b c (a_value ∷ ms) (object k ∷ xs) h = absurd h.0
slots_have b c (a_value ∷ ms) (hidden o ∷ xs) h = absurd h.0
slots_have b c (an_object k ∷ ms) (held o ∷ xs) h = absurd h.0
slots_have b c (an_object k ∷ ms) (object j ∷ xs) h = slots_have b c ms xs h.1
slots_have b c (an_object k ∷ ms) (hidden o ∷ xs) h = absurd h.0
slots_have b c (a_hidden ∷ ms) (held o ∷ xs) h = absurd h.0
slots_have b c (a_hidden ∷ ms) (object k ∷ xs) h = absurd h.0
slots_have b c (a_hidden ∷ ms) (hidden o ∷ xs) h = let r = slots_have b c ms xs h.1 in ((h.0, r.0), ap (λ ks. Value ∷ ks) r.1)

last_have : (c : Standing) (form : Form) (g r m i : Origin) → JumpsFit c form g r → Has c Memory m → Has c Io i → HasAll c (last_kinds form) (last_origins form g r m i)
last_have c straight g r m i j h k = (h, (k, tt))
last_have c jumping g r m i j h k = (j.0, (j.1, (h, (k, tt))))

pub carried_have : (f : Frame) (c : Standing) (s : Point) → Stands f c s → HasAll c (frame_kinds f) (carried_origins s.carried)
carried_have f c s h =
    let k = s.carried in
    subst (λ form. HasAll c (frame_kinds f) (value_origins k.variables ++ last_origins form k.go k.ret k.memory k.io)) (sym h.form)
    (has_append c (mark_kinds f.marks) (last_kinds f.form) (value_origins k.variables) (last_origins f.form k.go k.ret k.memory k.io)
    (slots_have f.objects c f.marks k.variables h.slots).0 (last_have c f.form k.go k.ret k.memory k.io h.jumps h.memory h.io))

pub kinds_carried : (f : Frame) (c : Standing) (s : Point) → Stands f c s → carried_kinds s.carried ≡ frame_kinds f
kinds_carried f c s h = λ i. (slots_have f.objects c f.marks s.carried.variables h.slots).1 i ++ last_kinds (h.form i)
