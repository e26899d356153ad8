-- How many values a part of a construction has, where so many variables are carried and these slots are objects.
use Rattle.std.proofs.Common.{◌≡◌, ℕ, suc, ◌+◌, ◌*◌, Bool, true, false, List, [], ◌∷◌, ◌++◌, Some, None, length, refl, ap, ◌∙◌, arith, length-append, suc-mul}
use Rattle.std.proofs.lemmas.List.{length-map}
use Rattle.g_graph.specs.declared.op.Kind.{Kind}
use Rattle.g_graph.specs.declared.op.Origin.{Origin}
use Rattle.g_graph.specs.declared.op.Origin.TheVariants.{Arg, Out}
use Rattle.g_graph.specs.declared.op.Op.{Op}
use Rattle.g_graph.specs.declared.op.Op.TheVariants.{Gamma}
use Rattle.g_graph.specs.Plain.{region, node, NodeTrees, nodes_of, RegionTrees, no_regions, region_then, regions_of}
use Rattle.g_graph.specs.Signatures.{kind_of, kind_after}
use Rattle.g_graph.specs.Count.{region_values, regions_values}
use Rattle.g_build_def.specs.Writer.{SlotOrigin, held, object, hidden, Form, straight, jumping, Carried, value_origins, last_origins, carried_origins, value_kinds, last_kinds, carried_kinds, numbered, renamed, Point, Built, given, nothing, bind, dropped, one_node, Extra, no_value, one_value, void_value, inside, region_made, regions_made, choices, choice, choice_one_first, repeat}
use Rattle.g_build_def.proofs.lemmas.Programs.{values_in, values_append}
use Rattle.g_build_def.proofs.lemmas.Later.{form_renamed, variables_renamed}
use Rattle.g_build_count.specs.Values.{choice_values, repeat_values}

-- ---- what is seen

abbrev pub marks : List SlotOrigin → List Bool
marks [] = []
marks (held o ∷ xs) = false ∷ marks xs
marks (object n ∷ xs) = true ∷ marks xs
marks (hidden o ∷ xs) = marks xs

abbrev pub value_count : List SlotOrigin → ℕ
value_count [] = 0
value_count (held o ∷ xs) = suc (value_count xs)
value_count (object n ∷ xs) = value_count xs
value_count (hidden o ∷ xs) = suc (value_count xs)

abbrev pub last_count : Form → ℕ
last_count straight = 2
last_count jumping = 4

pub record Seen : Type 0 where
  pub carried : ℕ
  pub objects : List Bool

pub record Sees (v : Seen) (s : Point) : Type 0 where
  pub carried : value_count s.carried.variables + last_count s.carried.form ≡ v.carried
  pub objects : marks s.carried.variables ≡ v.objects

pub record Has {A : Type 0} (n : ℕ) (v : Seen) (b : Built A) : Type 0 where
  pub values : values_in b.nodes ≡ n
  pub sees : Sees v b.after

abbrev pub Counts : {A : Type 0} → ℕ → Seen → (Point → Built A) → Type 0
Counts n v f = (s : Point) → Sees v s → Has n v (f s)

pub has_equal : {A : Type 0} → (n m : ℕ) (v : Seen) (b : Built A) → n ≡ m → Has n v b → Has m v b
has_equal n m v b e h = record { values = h.values ∙ e; sees = h.sees }

pub given_has : {A : Type 0} → (v : Seen) (x : A) (s : Point) → Sees v s → Has 0 v (given x s)
given_has v x s h = record { values = refl; sees = h }

pub bind_has : {A B : Type 0} → {n m : ℕ} (v w : Seen) (a : Built A) (f : A → Point → Built B) → Has n v a → ((x : A) (t : Point) → Sees v t → Has m w (f x t)) →
    Has (n + m) w (bind a f)
bind_has {n = n} v w a f h k =
    let b = f a.value a.after in
    let r = k a.value a.after h.sees in
    let first = h.values in
    let second = r.values in
    record { values = values_append a.nodes b.nodes ∙ ap (λ x. x + values_in b.nodes) first ∙ ap (λ y. n + y) second; sees = r.sees }

-- a node without regions
pub node_has : {A : Type 0} → (n : ℕ) (v : Seen) (s : Point) (o : Op) (inputs : List Origin) (x : A) (m i : Origin) → values_in (one_node s o inputs x m i).nodes ≡ n → Sees v s →
    Has n v (one_node s o inputs x m i)
node_has n v s o inputs x m i e h = record { values = e; sees = record { carried = h.carried; objects = h.objects } }

pub dropped_has : {A : Type 0} → {n : ℕ} (v : Seen) (b : Built A) → Has n v b → Has n v (dropped b)
dropped_has {n = n} v b h = let e : n + 0 ≡ n = omega arith in has_equal (n + 0) n v (dropped b) e (bind_has v v b (λ _ t. nothing t) h (λ x t k. given_has v tt t k))

-- ---- what is carried

origins_counted : (xs : List SlotOrigin) → length (value_origins xs) ≡ value_count xs
origins_counted [] = refl
origins_counted (held o ∷ xs) = ap suc (origins_counted xs)
origins_counted (object n ∷ xs) = origins_counted xs
origins_counted (hidden o ∷ xs) = ap suc (origins_counted xs)

kinds_counted : (xs : List SlotOrigin) → length (value_kinds xs) ≡ value_count xs
kinds_counted [] = refl
kinds_counted (held o ∷ xs) = ap suc (kinds_counted xs)
kinds_counted (object n ∷ xs) = kinds_counted xs
kinds_counted (hidden o ∷ xs) = ap suc (kinds_counted xs)

last_origins_counted : (form : Form) (g r m i : Origin) → length (last_origins form g r m i) ≡ last_count form
last_origins_counted straight g r m i = refl
last_origins_counted jumping g r m i = refl

last_kinds_counted : (form : Form) → length (last_kinds form) ≡ last_count form
last_kinds_counted straight = refl
last_kinds_counted jumping = refl

carried_counted : (v : Seen) (s : Point) → Sees v s → length (carried_origins s.carried) ≡ v.carried
carried_counted v s h =
    let k : Carried = s.carried in
    length-append (value_origins k.variables) (last_origins k.form k.go k.ret k.memory k.io) ∙ ap (λ a. a + length (last_origins k.form k.go k.ret k.memory k.io)) (origins_counted k.variables)
    ∙ ap (λ a. value_count k.variables + a) (last_origins_counted k.form k.go k.ret k.memory k.io) ∙ h.carried

carried_kinds_counted : (v : Seen) (s : Point) → Sees v s → length (carried_kinds s.carried) ≡ v.carried
carried_kinds_counted v s h =
    let k : Carried = s.carried in
    length-append (value_kinds k.variables) (last_kinds k.form) ∙ ap (λ a. a + length (last_kinds k.form)) (kinds_counted k.variables)
    ∙ ap (λ a. value_count k.variables + a) (last_kinds_counted k.form) ∙ h.carried

pub numbered_counted : (xs : List SlotOrigin) (f : ℕ → Origin) → value_count (numbered xs f) ≡ value_count xs
numbered_counted [] f = refl
numbered_counted (held o ∷ xs) f = ap suc (numbered_counted xs (λ k. f (suc k)))
numbered_counted (object n ∷ xs) f = numbered_counted xs f
numbered_counted (hidden o ∷ xs) f = ap suc (numbered_counted xs (λ k. f (suc k)))

pub numbered_marks : (xs : List SlotOrigin) (f : ℕ → Origin) → marks (numbered xs f) ≡ marks xs
numbered_marks [] f = refl
numbered_marks (held o ∷ xs) f = ap (λ bs. false ∷ bs) (numbered_marks xs (λ k. f (suc k)))
numbered_marks (object n ∷ xs) f = ap (λ bs. true ∷ bs) (numbered_marks xs f)
numbered_marks (hidden o ∷ xs) f = numbered_marks xs (λ k. f (suc k))

renamed_sees : (v : Seen) (s : Point) (n : ℕ) (f : ℕ → Origin) → Sees v s → Sees v (record { next = n; carried = renamed s.carried f })
renamed_sees v s n f h =
    let k : Carried = s.carried in
    record {
      carried =
          ap (λ xs. value_count xs + last_count (renamed k f).form) (variables_renamed k f) ∙ ap (λ a. a + last_count (renamed k f).form) (numbered_counted k.variables f)
          ∙ ap (λ form. value_count k.variables + last_count form) (form_renamed k f) ∙ h.carried;
      objects = ap marks (variables_renamed k f) ∙ numbered_marks k.variables f ∙ h.objects;
    }

-- ---- regions

-- so many extra values are given
pub record Gives {A : Type 0} (x : Extra A) (e : ℕ) : Type 0 where
  pub counted : (y : A) → length (x.results y) ≡ e

pub no_value_gives : Gives no_value 0
no_value_gives = record { counted = λ y. refl }

pub one_value_gives : Gives one_value 1
one_value_gives = record { counted = λ y. refl }

pub void_value_gives : (o : Origin) → Gives (void_value o) 0
void_value_gives o = record { counted = λ y. refl }

results_counted : {A : Type 0} → (v : Seen) (x : Extra A) (e : ℕ) (b : Built A) → Gives x e → Sees v b.after → length (x.results b.value ++ carried_origins b.after.carried) ≡ e + v.carried
results_counted v x e b g h =
    length-append (x.results b.value) (carried_origins b.after.carried) ∙ ap (λ a. a + length (carried_origins b.after.carried)) (g.counted b.value)
    ∙ ap (λ a. e + a) (carried_counted v b.after h)

region_counted : {A : Type 0} → (v : Seen) (x : Extra A) (e n : ℕ) (s : Point) (b : Built A) → Gives x e → Sees v s → Has n v b →
    region_values (region_made x s.carried b) ≡ 1 + 2 * v.carried + e + n
region_counted v x e n s b g h k =
    let args = carried_kinds_counted v s h in
    let results = results_counted v x e b g k.sees in
    let nodes = k.values in
    omega (arith, args, results, nodes)

-- functions with as many values as the numbers say
abbrev pub EachCounts : {A : Type 0} → Seen → List (Point → Built A) → List ℕ → Type 0
EachCounts v [] [] = Unit {0}
EachCounts v (f ∷ fs) (n ∷ ns) = Counts n v f × EachCounts v fs ns
EachCounts v _ _ = ⊥

abbrev pub total : List ℕ → ℕ
total [] = 0
total (n ∷ ns) = n + total ns

regions_counted : {A : Type 0} → (v : Seen) (x : Extra A) (e : ℕ) (s : Point) (k : ℕ) (fs : List (Point → Built A)) (ns : List ℕ) → Gives x e → Sees v s → EachCounts v fs ns →
    regions_values (regions_of (regions_made x s.carried k fs).regions) ≡ length fs * (1 + 2 * v.carried + e) + total ns
regions_counted v x e s k [] [] g h c = omega arith
regions_counted v x e s k [] (n ∷ ns) g h c = absurd c
regions_counted v x e s k (f ∷ fs) [] g h c = absurd c
regions_counted v x e s k (f ∷ fs) (n ∷ ns) g h c =
    let b = f (inside s.carried k) in
    let first = region_counted v x e n s b g h (c.0 (inside s.carried k) (renamed_sees v s k Arg h)) in
    let rest = regions_counted v x e s b.after.next fs ns g h c.1 in
    let one = suc-mul (length fs) (1 + 2 * v.carried + e) in
    omega (arith, first, rest, one)

first_sees : {A : Type 0} → (v : Seen) (f : Point → Built A) (fs : List (Point → Built A)) (ns : List ℕ) → EachCounts v (f ∷ fs) ns → (t : Point) → Sees v t → Sees v (f t).after
first_sees v f fs [] c t h = absurd c
first_sees v f fs (n ∷ ns) c t h = (c.0 t h).sees

gamma_counted : (id : ℕ) (inputs : List Origin) (args : List Kind) (nodes : NodeTrees) (results : List Origin) (rs : RegionTrees) →
    values_in (node id Gamma inputs (region_then (region args nodes results) rs) ∷ [])
    ≡ 1 + length results + (region_values (region args nodes results) + regions_values rs)
gamma_counted id inputs args nodes results rs =
    let e = length-map results (kind_of args (λ n p. kind_after nodes n p None)) in omega (arith, e)

pub choices_has : {A : Type 0} → (v : Seen) (x : Extra A) (e : ℕ) (s : Point) (p : Origin) (f : Point → Built A) (fs : List (Point → Built A)) (ns : List ℕ) → Gives x e → Sees v s →
    EachCounts v (f ∷ fs) ns → Has (1 + (e + v.carried) + (suc (length fs) * (1 + 2 * v.carried + e) + total ns)) v (choices x s p (f ∷ fs))
choices_has v x e s p f fs ns g h c =
    let k = suc s.next in
    let b = f (inside s.carried k) in
    let rest = regions_made x s.carried b.after.next fs in
    let regions = regions_counted v x e s k (f ∷ fs) ns g h c in
    let results = results_counted v x e b g (first_sees v f fs ns c (inside s.carried k) (renamed_sees v s k Arg h)) in
    let node =
    gamma_counted s.next (p ∷ carried_origins s.carried) (carried_kinds s.carried) (nodes_of b.nodes) (x.results b.value ++ carried_origins b.after.carried)
    (regions_of rest.regions) in
    record {
      values = node ∙ ap (λ a. 1 + a + regions_values (regions_of (regions_made x s.carried k (f ∷ fs)).regions)) results ∙ ap (λ a. 1 + (e + v.carried) + a) regions;
      sees = renamed_sees v s rest.next (λ i. Out s.next (x.port i)) h;
    }

pub choice_has : {A : Type 0} → {n m : ℕ} (v : Seen) (x : Extra A) (e : ℕ) (s : Point) (p : Origin) (f g : Point → Built A) → Gives x e → Sees v s → Counts n v f → Counts m v g →
    Has (choice_values v.carried e n m) v (choice x s p f g)
choice_has {n = n} {m = m} v x e s p f g y h c d =
    let made = choices_has v x e s p f (g ∷ []) (n ∷ m ∷ []) y h (c, (d, tt)) in
    let sum : 1 + (e + v.carried) + (2 * (1 + 2 * v.carried + e) + (n + (m + 0))) ≡ choice_values v.carried e n m = omega arith in
    has_equal (1 + (e + v.carried) + (2 * (1 + 2 * v.carried + e) + (n + (m + 0)))) (choice_values v.carried e n m) v (choice x s p f g) sum made

-- the same number where region 1 is made first
pub choice_one_first_has : {n m : ℕ} (v : Seen) (s : Point) (p : Origin) (f g : Point → Built (Unit {0})) → Sees v s → Counts n v f → Counts m v g →
    Has (choice_values v.carried 0 n m) v (choice_one_first no_value s p f g)
choice_one_first_has {n = n} {m = m} v s p f g h c d =
    let k = suc s.next in
    let b = g (inside s.carried k) in
    let a = f (inside s.carried b.after.next) in
    let second = d (inside s.carried k) (renamed_sees v s k Arg h) in
    let first = c (inside s.carried b.after.next) (renamed_sees v s b.after.next Arg h) in
    let one = region_counted v no_value 0 m s b no_value_gives h second in
    let zero = region_counted v no_value 0 n s a no_value_gives h first in
    let results = results_counted v no_value 0 a no_value_gives first.sees in
    let node =
    gamma_counted s.next (p ∷ carried_origins s.carried) (carried_kinds s.carried) (nodes_of a.nodes) (carried_origins a.after.carried)
    (region_then (region_made no_value s.carried b) no_regions) in
    record { values = omega (arith, node, results, one, zero); sees = renamed_sees v s a.after.next (λ i. Out s.next i) h }

pub repeat_has : {n : ℕ} (v : Seen) (s : Point) (f : Point → Built Origin) → Sees v s → Counts n v f → Has (repeat_values v.carried n) v (repeat s f)
repeat_has {n = n} v s f h c =
    let k = suc s.next in
    let b = f (inside s.carried k) in
    let body = region_counted v one_value 1 n s b one_value_gives h (c (inside s.carried k) (renamed_sees v s k Arg h)) in
    let args = carried_kinds_counted v s h in
    let outputs = length-map (carried_kinds s.carried) Some in
    record { values = omega (arith, body, args, outputs); sees = renamed_sees v s b.after.next (λ i. Out s.next i) h }
