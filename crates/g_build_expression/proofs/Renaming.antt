-- Carried variables from a numbering.
use Rattle.std.proofs.Common.{◌≡◌, ℕ, suc, ◌+◌, List, [], ◌∷◌, ◌++◌, length, refl, sym, ap, ◌∙◌, arith}
use Rattle.std.specs.Prelude.{Option, None, Some}
use Rattle.g_graph.specs.declared.op.Origin.{Origin}
use Rattle.g_graph.specs.declared.op.Origin.TheVariants.{Arg, Out}
use Rattle.g_build_def.specs.Writer.{SlotOrigin, held, object, hidden, Form, straight, jumping, Carried, value_origins, numbered, beyond, with_last, renamed}
use Rattle.std.proofs.lemmas.List.{reverse-append}
use Rattle.std.specs.Prelude.{reverse, Bool, true, false}
use Rattle.g_build_expression.specs.Work.{port_of, extra_count}
use Rattle.g_build_expression.specs.Numbers.{origin_from, slot_at, slot_values}

pub numbered_same : (xs : List SlotOrigin) (f g : ℕ → Origin) → ((k : ℕ) → f k ≡ g k) → numbered xs f ≡ numbered xs g
numbered_same [] f g h = refl
numbered_same (held o ∷ xs) f g h = ap (λ p. held p ∷ numbered xs (λ k. f (suc k))) (h 0) ∙ ap (λ ys. held (g 0) ∷ ys) (numbered_same xs (λ k. f (suc k)) (λ k. g (suc k)) (λ k. h (suc k)))
numbered_same (object n ∷ xs) f g h = ap (λ ys. object n ∷ ys) (numbered_same xs f g h)
numbered_same (hidden o ∷ xs) f g h = ap (λ p. hidden p ∷ numbered xs (λ k. f (suc k))) (h 0) ∙ ap (λ ys. hidden (g 0) ∷ ys) (numbered_same xs (λ k. f (suc k)) (λ k. g (suc k)) (λ k. h (suc k)))

pub beyond_is : (xs : List SlotOrigin) (f : ℕ → Origin) (k : ℕ) → beyond xs f k ≡ f (length (value_origins xs) + k)
beyond_is [] f k = let e : k ≡ 0 + k = omega arith in ap f e
beyond_is (held o ∷ xs) f k = let e : suc (length (value_origins xs) + k) ≡ suc (length (value_origins xs)) + k = omega arith in beyond_is xs (λ j. f (suc j)) k ∙ ap f e
beyond_is (object n ∷ xs) f k = beyond_is xs f k
beyond_is (hidden o ∷ xs) f k = let e : suc (length (value_origins xs) + k) ≡ suc (length (value_origins xs)) + k = omega arith in beyond_is xs (λ j. f (suc j)) k ∙ ap f e

pub last_same : (x : Form) (xs ys : List SlotOrigin) (f g : ℕ → Origin) → xs ≡ ys → ((k : ℕ) → f k ≡ g k) → with_last x xs f ≡ with_last x ys g
last_same straight xs ys f g e h = λ i. record { form = straight; variables = e i; go = Arg 0; ret = Arg 0; memory = h 0 i; io = h 1 i }
last_same jumping xs ys f g e h = λ i. record { form = jumping; variables = e i; go = h 0 i; ret = h 1 i; memory = h 2 i; io = h 3 i }

beyond_same : (xs : List SlotOrigin) (f g : ℕ → Origin) → ((k : ℕ) → f k ≡ g k) → (k : ℕ) → beyond xs f k ≡ beyond xs g k
beyond_same xs f g h k = beyond_is xs f k ∙ h (length (value_origins xs) + k) ∙ sym (beyond_is xs g k)

pub renamed_same : (c : Carried) (f g : ℕ → Origin) → ((k : ℕ) → f k ≡ g k) → renamed c f ≡ renamed c g
renamed_same c f g h =
    last_same c.form (numbered c.variables f) (numbered c.variables g) (beyond c.variables f) (beyond c.variables g) (numbered_same c.variables f g h) (beyond_same c.variables f g h)

-- ---- numbers from a first one on

pub from_shift : (node : Option ℕ) (n m j k : ℕ) → n + j ≡ m + k → origin_from node n j ≡ origin_from node m k
from_shift None n m j k e = ap Arg e
from_shift (Some id) n m j k e = ap (λ x. Out id x) e

-- one variable more is numbered
pub numbered_step : (node : Option ℕ) (n m : ℕ) (x : SlotOrigin) (xs : List SlotOrigin) → m ≡ n + slot_values x →
    numbered (x ∷ xs) (origin_from node n) ≡ slot_at x (origin_from node n 0) ∷ numbered xs (origin_from node m)
numbered_step node n m (held o) xs e =
    ap (λ ys. held (origin_from node n 0) ∷ ys) (numbered_same xs (λ k. origin_from node n (suc k)) (origin_from node m) (λ k. let q : n + suc k ≡ m + k = omega (arith, e) in
    from_shift node n m (suc k) k q))
numbered_step node n m (object k) xs e =
    ap (λ ys. object k ∷ ys) (numbered_same xs (origin_from node n) (origin_from node m) (λ j. let q : n + j ≡ m + j = omega (arith, e) in from_shift node n m j j q))
numbered_step node n m (hidden o) xs e =
    ap (λ ys. hidden (origin_from node n 0) ∷ ys) (numbered_same xs (λ k. origin_from node n (suc k)) (origin_from node m) (λ k. let q : n + suc k ≡ m + k = omega (arith, e) in
    from_shift node n m (suc k) k q))

-- the arguments of a region, and the outputs of a node
pub renamed_args : (c : Carried) → renamed c (origin_from None 0) ≡ renamed c Arg
renamed_args c = renamed_same c (origin_from None 0) Arg (λ k. let e : 0 + k ≡ k = omega arith in ap Arg e)

pub renamed_ports : (c : Carried) (id : ℕ) (x : Bool) → renamed c (origin_from (Some id) (extra_count x)) ≡ renamed c (λ k. Out id (port_of x k))
renamed_ports c id false = renamed_same c (origin_from (Some id) 0) (λ k. Out id k) (λ k. let e : 0 + k ≡ k = omega arith in ap (λ n. Out id n) e)
renamed_ports c id true = renamed_same c (origin_from (Some id) 1) (λ k. Out id (suc k)) (λ k. let e : 1 + k ≡ suc k = omega arith in ap (λ n. Out id n) e)

-- the last origins, from the number after the values
pub last_from : (x : Form) (xs ys : List SlotOrigin) (node : Option ℕ) (first next : ℕ) → next ≡ first + length (value_origins xs) → ys ≡ numbered xs (origin_from node first) →
    with_last x (numbered xs (origin_from node first)) (beyond xs (origin_from node first)) ≡ with_last x ys (origin_from node next)
last_from x xs ys node first next e h =
    last_same x (numbered xs (origin_from node first)) ys (beyond xs (origin_from node first)) (origin_from node next) (sym h)
    (λ k. let q : first + (length (value_origins xs) + k) ≡ next + k = omega (arith, e) in beyond_is xs (origin_from node first) k ∙ from_shift node first next (length (value_origins xs) + k) k q)

pub reverse_last : {X : Type 0} → (xs : List X) (x : X) → reverse (xs ++ x ∷ []) ≡ x ∷ reverse xs
reverse_last xs x = reverse-append xs (x ∷ [])
