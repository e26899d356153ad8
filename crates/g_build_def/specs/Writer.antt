-- A part of a construction is the nodes that it makes, from the point where it stands to the point after it. Nodes get
-- their numbers in the order in which they are made, a Gamma or Theta before the nodes of its regions.
use Rattle.std.specs.Prelude.{ℕ, zero, suc, List, [], ◌∷◌, ◌++◌, Option, None, Some}
use Rattle.g_graph.specs.declared.op.Kind.{Kind}
use Rattle.g_graph.specs.declared.op.Kind.TheVariants.{Value, Memory, Io}
use Rattle.g_graph.specs.declared.op.Origin.{Origin}
use Rattle.g_graph.specs.declared.op.Origin.TheVariants.{Arg, Out}
use Rattle.g_graph.specs.declared.op.Op.{Op}
use Rattle.g_graph.specs.declared.op.Op.TheVariants.{Gamma, Theta}
use Rattle.g_graph.specs.Plain.{RegionTree, region, NodeTree, node, nodes_of, no_regions, region_then, regions_of}

-- ---- variables

-- A variable in scope: a value by its origin, an object of the function by its number, or a value that has no name in
-- the source, and no slot.
pub data SlotOrigin : Type 0 where
  held : Origin → SlotOrigin
  object : (number : ℕ) → SlotOrigin
  hidden : Origin → SlotOrigin

-- what stands at a slot
abbrev pub variable_at : List SlotOrigin → (slot : ℕ) → Option SlotOrigin
variable_at [] k = None
variable_at (hidden o ∷ xs) k = variable_at xs k
variable_at (held o ∷ xs) zero = Some (held o)
variable_at (held o ∷ xs) (suc k) = variable_at xs k
variable_at (object n ∷ xs) zero = Some (object n)
variable_at (object n ∷ xs) (suc k) = variable_at xs k

-- the value variable at a slot has another origin
abbrev pub variable_set : List SlotOrigin → (slot : ℕ) → Origin → List SlotOrigin
variable_set [] k p = []
variable_set (hidden o ∷ xs) k p = hidden o ∷ variable_set xs k p
variable_set (held o ∷ xs) zero p = held p ∷ xs
variable_set (held o ∷ xs) (suc k) p = held o ∷ variable_set xs k p
variable_set (object n ∷ xs) zero p = object n ∷ xs
variable_set (object n ∷ xs) (suc k) p = object n ∷ variable_set xs k p

-- the newest variable, and those before it
abbrev pub newest : List SlotOrigin → Option SlotOrigin
newest [] = None
newest (x ∷ []) = Some x
newest (x ∷ y ∷ ys) = newest (y ∷ ys)

abbrev pub without_newest : List SlotOrigin → List SlotOrigin
without_newest [] = []
without_newest (x ∷ []) = []
without_newest (x ∷ y ∷ ys) = x ∷ without_newest (y ∷ ys)

-- the origin of a variable that has one
abbrev pub slot_origin : Option SlotOrigin → Origin
slot_origin (Some (held o)) = o
slot_origin (Some (hidden o)) = o
slot_origin _ = Arg 0

-- ---- what is carried

-- Whether a function's jumps are carried out by two variables more: `go` is 0 where control goes on, and 1, 2 or 3
-- after a `break`, a `continue` and a `return`; `ret` is what is returned.
pub data Form : Type 0 where
  straight : Form
  jumping : Form

-- What a Gamma or Theta takes and gives: the value variables in scope, `go` and `ret` where the function has them, and
-- the states.
pub record Carried : Type 0 where
  pub form : Form
  pub variables : List SlotOrigin
  pub go : Origin
  pub ret : Origin
  pub memory : Origin
  pub io : Origin

abbrev pub value_origins : List SlotOrigin → List Origin
value_origins [] = []
value_origins (held o ∷ xs) = o ∷ value_origins xs
value_origins (object n ∷ xs) = value_origins xs
value_origins (hidden o ∷ xs) = o ∷ value_origins xs

abbrev pub last_origins : Form → (go ret memory io : Origin) → List Origin
last_origins straight g r m i = m ∷ i ∷ []
last_origins jumping g r m i = g ∷ r ∷ m ∷ i ∷ []

-- the carried variables in their order
abbrev pub carried_origins : Carried → List Origin
carried_origins k = value_origins k.variables ++ last_origins k.form k.go k.ret k.memory k.io

abbrev pub value_kinds : List SlotOrigin → List Kind
value_kinds [] = []
value_kinds (held o ∷ xs) = Value ∷ value_kinds xs
value_kinds (object n ∷ xs) = value_kinds xs
value_kinds (hidden o ∷ xs) = Value ∷ value_kinds xs

abbrev pub last_kinds : Form → List Kind
last_kinds straight = Memory ∷ Io ∷ []
last_kinds jumping = Value ∷ Value ∷ Memory ∷ Io ∷ []

abbrev pub carried_kinds : Carried → List Kind
carried_kinds k = value_kinds k.variables ++ last_kinds k.form

-- the same variables, the values among them from a numbering
abbrev pub numbered : List SlotOrigin → (ℕ → Origin) → List SlotOrigin
numbered [] f = []
numbered (held o ∷ xs) f = held (f 0) ∷ numbered xs (λ k. f (suc k))
numbered (object n ∷ xs) f = object n ∷ numbered xs f
numbered (hidden o ∷ xs) f = hidden (f 0) ∷ numbered xs (λ k. f (suc k))

-- the numbering after these variables
abbrev pub beyond : List SlotOrigin → (ℕ → Origin) → ℕ → Origin
beyond [] f = f
beyond (held o ∷ xs) f = beyond xs (λ k. f (suc k))
beyond (object n ∷ xs) f = beyond xs f
beyond (hidden o ∷ xs) f = beyond xs (λ k. f (suc k))

abbrev pub with_last : Form → List SlotOrigin → (ℕ → Origin) → Carried
with_last straight xs f = record { form = straight; variables = xs; go = Arg 0; ret = Arg 0; memory = f 0; io = f 1 }
with_last jumping xs f = record { form = jumping; variables = xs; go = f 0; ret = f 1; memory = f 2; io = f 3 }

-- the same carried variables, from a numbering in their order
abbrev pub renamed : Carried → (ℕ → Origin) → Carried
renamed k f = with_last k.form (numbered k.variables f) (beyond k.variables f)

-- ---- points

-- where a construction stands: the next number, and the origins of what is carried
pub record Point : Type 0 where
  pub next : ℕ
  pub carried : Carried

abbrev pub with_variables : Point → List SlotOrigin → Point
with_variables s xs =
    let k : Carried = s.carried in
    record { next = s.next; carried = record { form = k.form; variables = xs; go = k.go; ret = k.ret; memory = k.memory; io = k.io } }

abbrev pub with_jumps : Point → Form → (go ret : Origin) → Point
with_jumps s form g r =
    let k : Carried = s.carried in
    record { next = s.next; carried = record { form = form; variables = k.variables; go = g; ret = r; memory = k.memory; io = k.io } }

abbrev pub with_go : Point → Origin → Point
with_go s g = with_jumps s s.carried.form g s.carried.ret

abbrev pub with_go_and_ret : Point → (go ret : Origin) → Point
with_go_and_ret s g r = with_jumps s s.carried.form g r

-- after one more node, with these states
abbrev pub with_states : Point → (memory io : Origin) → Point
with_states s m i =
    let k : Carried = s.carried in
    record { next = suc s.next; carried = record { form = k.form; variables = k.variables; go = k.go; ret = k.ret; memory = m; io = i } }

-- a variable comes into scope, and the newest leaves it
abbrev pub pushed : SlotOrigin → Point → Point
pushed x s = with_variables s (s.carried.variables ++ x ∷ [])

abbrev pub popped : Point → Point
popped s = with_variables s (without_newest s.carried.variables)

abbrev pub newest_set : SlotOrigin → Point → Point
newest_set x s = pushed x (popped s)

-- ---- what is made

-- the new nodes, what they give, and the point after them
pub record Built (A : Type 0) : Type 0 where
  pub nodes : List NodeTree
  pub value : A
  pub after : Point

abbrev pub given : {A : Type 0} → A → Point → Built A
given v s = record { nodes = []; value = v; after = s }

abbrev pub nothing : Point → Built (Unit {0})
nothing s = given tt s

-- one part, and then another, which begins after it with what it gives
abbrev pub bind : {A B : Type 0} → Built A → (A → Point → Built B) → Built B
bind a f = let b = f a.value a.after in record { nodes = a.nodes ++ b.nodes; value = b.value; after = b.after }

abbrev pub dropped : {A : Type 0} → Built A → Built (Unit {0})
dropped a = bind a (λ _ t. nothing t)

-- a node without regions, what it gives, and the states after it
abbrev pub one_node : {A : Type 0} → Point → Op → (inputs : List Origin) → A → (memory io : Origin) → Built A
one_node s op inputs v m i = record { nodes = node s.next op inputs no_regions ∷ []; value = v; after = with_states s m i }

-- ---- regions

-- What a region gives before the carried variables, what the node with this number then gives, and which output of it a
-- carried variable is.
pub record Extra (A : Type 0) : Type 0 where
  pub results : A → List Origin
  pub value : (id : ℕ) → A
  pub port : ℕ → ℕ

abbrev pub no_value : Extra (Unit {0})
no_value = record { results = λ _. []; value = λ _. tt; port = λ k. k }

abbrev pub one_value : Extra Origin
one_value = record { results = λ o. o ∷ []; value = λ id. Out id 0; port = suc }

-- nothing is given, and this origin stands for it
abbrev pub void_value : Origin → Extra Origin
void_value o = record { results = λ _. []; value = λ _. o; port = λ k. k }

-- the start of a region, with this next number
abbrev pub inside : Carried → ℕ → Point
inside k n = record { next = n; carried = renamed k Arg }

abbrev pub region_made : {A : Type 0} → Extra A → Carried → Built A → RegionTree
region_made x k b = region (carried_kinds k) (nodes_of b.nodes) (x.results b.value ++ carried_origins b.after.carried)

-- regions, and the next number after them
pub record Regions : Type 0 where
  pub regions : List RegionTree
  pub next : ℕ

abbrev pub regions_made : {A : Type 0} → Extra A → Carried → ℕ → List (Point → Built A) → Regions
regions_made x k n [] = record { regions = []; next = n }
regions_made x k n (f ∷ fs) =
    let b = f (inside k n) in
    let rest = regions_made x k b.after.next fs in
    record { regions = region_made x k b ∷ rest.regions; next = rest.next }

-- a Gamma with these regions
abbrev pub gamma : {A : Type 0} → Extra A → Point → (predicate : Origin) → Regions → Built A
gamma x s p r = record {
  nodes = node s.next Gamma (p ∷ carried_origins s.carried) (regions_of r.regions) ∷ [];
  value = x.value s.next;
  after = record { next = r.next; carried = renamed s.carried (λ k. Out s.next (x.port k)) };
}

-- a Gamma whose regions get their numbers in order
abbrev pub choices : {A : Type 0} → Extra A → Point → (predicate : Origin) → List (Point → Built A) → Built A
choices x s p fs = gamma x s p (regions_made x s.carried (suc s.next) fs)

abbrev pub choice : {A : Type 0} → Extra A → Point → (predicate : Origin) → (region0 region1 : Point → Built A) → Built A
choice x s p f g = choices x s p (f ∷ g ∷ [])

abbrev pub exchanged : List RegionTree → List RegionTree
exchanged (x ∷ y ∷ rs) = y ∷ x ∷ rs
exchanged rs = rs

-- the same, where the nodes of region 1 get their numbers before those of region 0
abbrev pub choice_one_first : {A : Type 0} → Extra A → Point → (predicate : Origin) → (region0 region1 : Point → Built A) → Built A
choice_one_first x s p f g =
    let r = regions_made x s.carried (suc s.next) (g ∷ f ∷ []) in
    gamma x s p (record { regions = exchanged r.regions; next = r.next })

-- a Theta, whose region gives its predicate
abbrev pub repeat : Point → (body : Point → Built Origin) → Built (Unit {0})
repeat s f =
    let b = f (inside s.carried (suc s.next)) in
    record {
      nodes = node s.next Theta (carried_origins s.carried) (region_then (region_made one_value s.carried b) no_regions) ∷ [];
      value = tt;
      after = record { next = b.after.next; carried = renamed s.carried (λ k. Out s.next k) };
    }
