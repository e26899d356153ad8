-- Construction keeps the variables that are carried, and numbers only grow.
use Rattle.std.proofs.Common.{◌≡◌, ◌≤◌, ℕ, zero, suc, List, [], ◌∷◌, ◌++◌, Some, refl, sym, ap, ◌∙◌, arith}
use Rattle.g_graph.specs.declared.op.Origin.{Origin}
use Rattle.g_graph.specs.declared.op.Origin.TheVariants.{Arg, Out}
use Rattle.g_graph.specs.declared.op.Op.{Op}
use Rattle.g_build_def.specs.Writer.{SlotOrigin, held, object, hidden, variable_set, newest, without_newest, straight, jumping, Carried, numbered, with_last, renamed, beyond, Point, with_variables, pushed, popped, Built, bind, one_node, Extra, inside, regions_made, choices, choice, choice_one_first, repeat}
use Rattle.g_build_def.specs.Laws.{shape, Later}

abbrev pub Keeps : {A : Type 0} → (Point → Built A) → Type 0
Keeps f = (s : Point) → Later s (f s).after

pub later_here : (s : Point) → Later s s
later_here s = record { form = refl; shape = refl; next = omega arith }

pub later_then : (r s t : Point) → Later r s → Later s t → Later r t
later_then r s t h k = record { form = k.form ∙ h.form; shape = k.shape ∙ h.shape; next = omega (arith, h.next, k.next) }

pub bind_later : {A B : Type 0} → (s : Point) (a : Built A) (f : A → Point → Built B) → Later s a.after → ((v : A) → Keeps (f v)) → Later s (bind a f).after
bind_later s a f h k = later_then s a.after (f a.value a.after).after h (k a.value a.after)

-- a node without regions
pub node_later : {A : Type 0} → (s : Point) (o : Op) (inputs : List Origin) (v : A) (m i : Origin) → Later s (one_node s o inputs v m i).after
node_later s o inputs v m i = record { form = refl; shape = refl; next = omega arith }

-- ---- regions

pub numbered_twice : (xs : List SlotOrigin) (f g : ℕ → Origin) → numbered (numbered xs f) g ≡ numbered xs g
numbered_twice [] f g = refl
numbered_twice (held o ∷ xs) f g = ap (λ ys. held (g 0) ∷ ys) (numbered_twice xs (λ k. f (suc k)) (λ k. g (suc k)))
numbered_twice (object n ∷ xs) f g = ap (λ ys. object n ∷ ys) (numbered_twice xs f g)
numbered_twice (hidden o ∷ xs) f g = ap (λ ys. hidden (g 0) ∷ ys) (numbered_twice xs (λ k. f (suc k)) (λ k. g (suc k)))

pub form_renamed : (k : Carried) (f : ℕ → Origin) → (renamed k f).form ≡ k.form
form_renamed k f = elim k.form as (λ x. (with_last x (numbered k.variables f) (beyond k.variables f)).form ≡ x) [ straight ↦ refl | jumping ↦ refl ]

pub variables_renamed : (k : Carried) (f : ℕ → Origin) → (renamed k f).variables ≡ numbered k.variables f
variables_renamed k f =
    elim k.form as (λ x. (with_last x (numbered k.variables f) (beyond k.variables f)).variables ≡ numbered k.variables f) [ straight ↦ refl | jumping ↦ refl ]

pub shape_renamed : (k : Carried) (f : ℕ → Origin) → shape (renamed k f).variables ≡ shape k.variables
shape_renamed k f = ap shape (variables_renamed k f) ∙ numbered_twice k.variables f (λ _. Arg 0)

pub renamed_later : (s : Point) (n : ℕ) (f : ℕ → Origin) → s.next ≤ n → Later s (record { next = n; carried = renamed s.carried f })
renamed_later s n f h = record { form = form_renamed s.carried f; shape = shape_renamed s.carried f; next = h }

-- functions of which each keeps the shape
abbrev pub EachKeeps : {A : Type 0} → List (Point → Built A) → Type 0
EachKeeps [] = Unit {0}
EachKeeps (f ∷ fs) = Keeps f × EachKeeps fs

pub regions_later : {A : Type 0} → (x : Extra A) (k : Carried) (n : ℕ) (fs : List (Point → Built A)) → EachKeeps fs → n ≤ (regions_made x k n fs).next
regions_later x k n [] h = omega arith
regions_later x k n (f ∷ fs) h =
    let first : n ≤ (f (inside k n)).after.next = (h.0 (inside k n)).next in
    let rest : (f (inside k n)).after.next ≤ (regions_made x k (f (inside k n)).after.next fs).next = regions_later x k (f (inside k n)).after.next fs h.1 in
    omega (arith, first, rest)

pub choices_later : {A : Type 0} → (x : Extra A) (s : Point) (p : Origin) (fs : List (Point → Built A)) → EachKeeps fs → Later s (choices x s p fs).after
choices_later x s p fs h =
    let more : suc s.next ≤ (regions_made x s.carried (suc s.next) fs).next = regions_later x s.carried (suc s.next) fs h in
    renamed_later s (regions_made x s.carried (suc s.next) fs).next (λ k. Out s.next (x.port k)) (omega (arith, more))

pub choice_later : {A : Type 0} → (x : Extra A) (s : Point) (p : Origin) (f g : Point → Built A) → Keeps f → Keeps g → Later s (choice x s p f g).after
choice_later x s p f g h k = choices_later x s p (f ∷ g ∷ []) (h, (k, tt))

pub choice_one_first_later : {A : Type 0} → (x : Extra A) (s : Point) (p : Origin) (f g : Point → Built A) → Keeps f → Keeps g →
    Later s (choice_one_first x s p f g).after
choice_one_first_later x s p f g h k = choices_later x s p (g ∷ f ∷ []) (k, (h, tt))

pub repeat_later : (s : Point) (f : Point → Built Origin) → Keeps f → Later s (repeat s f).after
repeat_later s f h =
    let more : suc s.next ≤ (f (inside s.carried (suc s.next))).after.next = (h (inside s.carried (suc s.next))).next in
    renamed_later s (f (inside s.carried (suc s.next))).after.next (λ k. Out s.next k) (omega (arith, more))

-- ---- variables

shape_set : (xs : List SlotOrigin) (slot : ℕ) (p : Origin) → shape (variable_set xs slot p) ≡ shape xs
shape_set [] k p = refl
shape_set (hidden o ∷ xs) k p = ap (λ ys. hidden (Arg 0) ∷ ys) (shape_set xs k p)
shape_set (held o ∷ xs) zero p = refl
shape_set (held o ∷ xs) (suc k) p = ap (λ ys. held (Arg 0) ∷ ys) (shape_set xs k p)
shape_set (object n ∷ xs) zero p = refl
shape_set (object n ∷ xs) (suc k) p = ap (λ ys. object n ∷ ys) (shape_set xs k p)

pub set_later : (s : Point) (slot : ℕ) (p : Origin) → Later s (with_variables s (variable_set s.carried.variables slot p))
set_later s k p = record { form = refl; shape = shape_set s.carried.variables k p; next = omega arith }

pub shape_append : (xs ys : List SlotOrigin) → shape (xs ++ ys) ≡ shape xs ++ shape ys
shape_append [] ys = refl
shape_append (held o ∷ xs) ys = ap (λ zs. held (Arg 0) ∷ zs) (shape_append xs ys)
shape_append (object n ∷ xs) ys = ap (λ zs. object n ∷ zs) (shape_append xs ys)
shape_append (hidden o ∷ xs) ys = ap (λ zs. hidden (Arg 0) ∷ zs) (shape_append xs ys)

shape_without_newest : (xs : List SlotOrigin) → shape (without_newest xs) ≡ without_newest (shape xs)
shape_without_newest [] = refl
shape_without_newest (held o ∷ []) = refl
shape_without_newest (object n ∷ []) = refl
shape_without_newest (hidden o ∷ []) = refl
shape_without_newest (held o ∷ held p ∷ xs) = ap (λ zs. held (Arg 0) ∷ zs) (shape_without_newest (held p ∷ xs))
shape_without_newest (held o ∷ object m ∷ xs) = ap (λ zs. held (Arg 0) ∷ zs) (shape_without_newest (object m ∷ xs))
shape_without_newest (held o ∷ hidden p ∷ xs) = ap (λ zs. held (Arg 0) ∷ zs) (shape_without_newest (hidden p ∷ xs))
shape_without_newest (object n ∷ held p ∷ xs) = ap (λ zs. object n ∷ zs) (shape_without_newest (held p ∷ xs))
shape_without_newest (object n ∷ object m ∷ xs) = ap (λ zs. object n ∷ zs) (shape_without_newest (object m ∷ xs))
shape_without_newest (object n ∷ hidden p ∷ xs) = ap (λ zs. object n ∷ zs) (shape_without_newest (hidden p ∷ xs))
shape_without_newest (hidden o ∷ held p ∷ xs) = ap (λ zs. hidden (Arg 0) ∷ zs) (shape_without_newest (held p ∷ xs))
shape_without_newest (hidden o ∷ object m ∷ xs) = ap (λ zs. hidden (Arg 0) ∷ zs) (shape_without_newest (object m ∷ xs))
shape_without_newest (hidden o ∷ hidden p ∷ xs) = ap (λ zs. hidden (Arg 0) ∷ zs) (shape_without_newest (hidden p ∷ xs))

pub newest_append : (xs : List SlotOrigin) (x : SlotOrigin) → newest (xs ++ x ∷ []) ≡ Some x
newest_append [] x = refl
newest_append (y ∷ []) x = refl
newest_append (y ∷ z ∷ ys) x = newest_append (z ∷ ys) x

pub without_newest_append : (xs : List SlotOrigin) (x : SlotOrigin) → without_newest (xs ++ x ∷ []) ≡ xs
without_newest_append [] x = refl
without_newest_append (y ∷ []) x = refl
without_newest_append (y ∷ z ∷ ys) x = ap (λ zs. y ∷ zs) (without_newest_append (z ∷ ys) x)

-- what was pushed is popped
pub popped_later : (s t : Point) (x : SlotOrigin) → Later (pushed x s) t → Later s (popped t)
popped_later s t x h =
    record {
      form = h.form;
      shape =
          shape_without_newest t.carried.variables ∙ ap without_newest h.shape ∙ sym (shape_without_newest (s.carried.variables ++ x ∷ []))
          ∙ ap shape (without_newest_append s.carried.variables x);
      next = h.next;
    }
