-- Variables come into scope and leave it on both sides.
use Rattle.std.proofs.Common.{◌≡◌, ℕ, suc, List, [], ◌∷◌, ◌++◌, refl, sym, ap, ◌∙◌, subst, arith}
use Rattle.std.specs.Prelude.{◌-◌, take, length, Option, None, Some, option_map}
use Rattle.std.proofs.lemmas.List.{length-append}
use Rattle.std.proofs.Math.Seq.{take-append_seam}
use Rattle.val_core.specs.declared.values.Value.{Value}
use Rattle.c_mean.specs.State as source
use Rattle.c_mean.specs.State.{Slot}
use Rattle.g_graph.specs.declared.op.Origin.{Origin}
use Rattle.g_graph.specs.declared.op.Origin.TheVariants.{Arg}
use Rattle.g_build_def.specs.Writer.{SlotOrigin, held, object, hidden, newest, without_newest, Point, pushed}
use Rattle.g_build_def.specs.Laws.{shape, Later}
use Rattle.g_mean.specs.Data.{Datum}
use Rattle.g_build_def.proofs.lemmas.Later.{newest_append}
use Rattle.g_build_keeps.proofs.Held.{Held, SlotsHeld, named}

-- ---- a variable that waits for its value

pub slots-wait : (rd : Origin → Datum) (n : ℕ) (ws : List Slot) (xs : List SlotOrigin) (hs : List ℕ) (ss : List Slot) → SlotsHeld rd n [] xs hs ss → SlotsHeld rd n ws xs hs (ss ++ ws)
slots-wait rd n ws [] [] ss h = ap (λ zs. zs ++ ws) h
slots-wait rd n ws (held p ∷ xs) hs (source.holds v ∷ ss) h = (h.0, slots-wait rd n ws xs hs ss h.1)
slots-wait rd n ws (object k ∷ xs) hs (source.object j ∷ ss) h = (h.0, slots-wait rd n ws xs hs ss h.1)
slots-wait rd n ws (hidden p ∷ xs) (j ∷ hs) ss h = (h.0, h.1, slots-wait rd n ws xs hs ss h.2)
slots-wait rd n ws _ _ _ h = absurd h

-- the slots before those that wait
pub record Front (rd : Origin → Datum) (n : ℕ) (ws : List Slot) (xs : List SlotOrigin) (hs : List ℕ) (ss : List Slot) : Type 0 where
  pub front : List Slot
  pub is : ss ≡ front ++ ws
  pub held : SlotsHeld rd n [] xs hs front

slots-front : (rd : Origin → Datum) (n : ℕ) (ws : List Slot) (xs : List SlotOrigin) (hs : List ℕ) (ss : List Slot) → SlotsHeld rd n ws xs hs ss → Front rd n ws xs hs ss
slots-front rd n ws [] [] ss h = record { front = []; is = h; held = refl }
slots-front rd n ws (held p ∷ xs) hs (source.holds v ∷ ss) h =
    let r = slots-front rd n ws xs hs ss h.1 in record { front = source.holds v ∷ r.front; is = ap (λ zs. source.holds v ∷ zs) r.is; held = (h.0, r.held) }
slots-front rd n ws (object k ∷ xs) hs (source.object j ∷ ss) h =
    let r = slots-front rd n ws xs hs ss h.1 in record { front = source.object j ∷ r.front; is = ap (λ zs. source.object j ∷ zs) r.is; held = (h.0, r.held) }
slots-front rd n ws (hidden p ∷ xs) (j ∷ hs) ss h =
    let r = slots-front rd n ws xs hs ss h.2 in record { front = r.front; is = r.is; held = (h.0, h.1, r.held) }
slots-front rd n ws _ _ _ h = absurd h

take-front : (zs : List Slot) (y : Slot) → take (length (zs ++ y ∷ []) - 1) (zs ++ y ∷ []) ≡ zs
take-front zs y = ap (λ k. take k (zs ++ y ∷ [])) count ∙ take-append_seam zs (y ∷ [])
  where
    count : length (zs ++ y ∷ []) - 1 ≡ length zs
    count = let sum = length-append zs (y ∷ []) in omega (arith, sum)

-- ---- the newest variable

pub slots-add : (rd : Origin → Datum) (n : ℕ) (xs : List SlotOrigin) (hs : List ℕ) (ss : List Slot) (v : Value) (p : Origin) → Held rd n v p → SlotsHeld rd n [] xs hs ss →
    SlotsHeld rd n [] (xs ++ held p ∷ []) hs (ss ++ source.holds v ∷ [])
slots-add rd n [] [] ss v p g h = subst (λ zs. SlotsHeld rd n [] (held p ∷ []) [] (zs ++ source.holds v ∷ [])) (sym h) (g, refl)
slots-add rd n (held o ∷ xs) hs (source.holds u ∷ ss) v p g h = (h.0, slots-add rd n xs hs ss v p g h.1)
slots-add rd n (object k ∷ xs) hs (source.object j ∷ ss) v p g h = (h.0, slots-add rd n xs hs ss v p g h.1)
slots-add rd n (hidden o ∷ xs) (j ∷ hs) ss v p g h = (h.0, h.1, slots-add rd n xs hs ss v p g h.2)
slots-add rd n _ _ _ v p g h = absurd h

pub slots-add-object : (rd : Origin → Datum) (n : ℕ) (xs : List SlotOrigin) (hs : List ℕ) (ss : List Slot) (k : ℕ) → SlotsHeld rd n [] xs hs ss →
    SlotsHeld rd n [] (xs ++ object k ∷ []) hs (ss ++ source.object k ∷ [])
slots-add-object rd n [] [] ss k h = subst (λ zs. SlotsHeld rd n [] (object k ∷ []) [] (zs ++ source.object k ∷ [])) (sym h) (refl, refl)
slots-add-object rd n (held o ∷ xs) hs (source.holds u ∷ ss) k h = (h.0, slots-add-object rd n xs hs ss k h.1)
slots-add-object rd n (object i ∷ xs) hs (source.object j ∷ ss) k h = (h.0, slots-add-object rd n xs hs ss k h.1)
slots-add-object rd n (hidden o ∷ xs) (j ∷ hs) ss k h = (h.0, h.1, slots-add-object rd n xs hs ss k h.2)
slots-add-object rd n _ _ _ k h = absurd h

pub named-add : (xs : List SlotOrigin) (x : SlotOrigin) → named (x ∷ []) ≡ 1 → named (xs ++ x ∷ []) ≡ suc (named xs)
named-add [] x e = e
named-add (held p ∷ xs) x e = ap suc (named-add xs x e)
named-add (object k ∷ xs) x e = ap suc (named-add xs x e)
named-add (hidden p ∷ xs) x e = named-add xs x e

-- a variable that waited has its value
pub slots-begun : (rd : Origin → Datum) (n : ℕ) (y : Slot) (xs : List SlotOrigin) (hs : List ℕ) (ss : List Slot) (v : Value) (p : Origin) → Held rd n v p → SlotsHeld rd n (y ∷ []) xs hs ss →
    SlotsHeld rd n [] (xs ++ held p ∷ []) hs (take (length ss - 1) ss ++ source.holds v ∷ [])
slots-begun rd n y xs hs ss v p g h =
    let r = slots-front rd n (y ∷ []) xs hs ss h in
    subst (λ zs. SlotsHeld rd n [] (xs ++ held p ∷ []) hs (zs ++ source.holds v ∷ [])) (sym (ap (λ zs. take (length zs - 1) zs) r.is ∙ take-front r.front y))
    (slots-add rd n xs hs r.front v p g r.held)

-- ---- the newest variable leaves

-- the newest of what is carried has a slot
abbrev pub HasSlot : Option SlotOrigin → Type 0
HasSlot (Some (held p)) = Unit {0}
HasSlot (Some (object k)) = Unit {0}
HasSlot _ = ⊥

newest-last : (xs : List SlotOrigin) → HasSlot (newest xs) → (z : SlotOrigin) × (xs ≡ without_newest xs ++ z ∷ []) × HasSlot (Some z)
newest-last [] t = absurd t
newest-last (x ∷ []) t = (x, refl, t)
newest-last (x ∷ y ∷ xs) t = let r = newest-last (y ∷ xs) t in (r.0, ap (λ zs. x ∷ zs) r.1, r.2)

slots-drop : (rd : Origin → Datum) (n : ℕ) (xs : List SlotOrigin) (z : SlotOrigin) (hs : List ℕ) (ss : List Slot) → HasSlot (Some z) → SlotsHeld rd n [] (xs ++ z ∷ []) hs ss →
    SlotsHeld rd n [] xs hs (take (named xs) ss)
slots-drop rd n [] (held p) [] (source.holds v ∷ ss) t h = refl
slots-drop rd n [] (object k) [] (source.object j ∷ ss) t h = refl
slots-drop rd n (held p ∷ xs) z hs (source.holds v ∷ ss) t h = (h.0, slots-drop rd n xs z hs ss t h.1)
slots-drop rd n (object k ∷ xs) z hs (source.object j ∷ ss) t h = (h.0, slots-drop rd n xs z hs ss t h.1)
slots-drop rd n (hidden p ∷ xs) z (j ∷ hs) ss t h = (h.0, h.1, slots-drop rd n xs z hs ss t h.2)
slots-drop rd n [] (hidden p) hs ss t h = absurd t
slots-drop rd n [] (held p) hs [] t h = absurd h
slots-drop rd n [] (object k) hs [] t h = absurd h
slots-drop rd n [] (held p) (j ∷ hs) (source.holds v ∷ ss) t h = absurd h.1
slots-drop rd n [] (object k) (i ∷ hs) (source.object j ∷ ss) t h = absurd h.1
slots-drop rd n _ z _ _ t h = absurd h

one-slot : (z : SlotOrigin) → HasSlot (Some z) → named (z ∷ []) ≡ 1
one-slot (held p) t = refl
one-slot (object k) t = refl
one-slot (hidden p) t = absurd t

pub slots-left : (rd : Origin → Datum) (n : ℕ) (xs : List SlotOrigin) (hs : List ℕ) (ss : List Slot) (m : ℕ) → HasSlot (newest xs) → named xs ≡ suc m → SlotsHeld rd n [] xs hs ss →
    SlotsHeld rd n [] (without_newest xs) hs (take m ss) × (named (without_newest xs) ≡ m)
slots-left rd n xs hs ss m t e h =
    let r = newest-last xs t in
    let sum = named-add (without_newest xs) r.0 (one-slot r.0 r.2) in
    let all : named xs ≡ suc (named (without_newest xs)) = ap named r.1 ∙ sum in
    let same : named (without_newest xs) ≡ m = omega (arith, all, e) in (
      subst (λ k. SlotsHeld rd n [] (without_newest xs) hs (take k ss)) same
          (slots-drop rd n (without_newest xs) r.0 hs ss r.2 (subst (λ ys. SlotsHeld rd n [] ys hs ss) r.1 h)),
      same,
    )

-- as many variables are carried as there are slots
pub slots-count : (rd : Origin → Datum) (n : ℕ) (xs : List SlotOrigin) (hs : List ℕ) (ss : List Slot) → SlotsHeld rd n [] xs hs ss → length ss ≡ named xs
slots-count rd n [] [] ss h = ap length h
slots-count rd n (held p ∷ xs) hs (source.holds v ∷ ss) h = ap suc (slots-count rd n xs hs ss h.1)
slots-count rd n (object k ∷ xs) hs (source.object j ∷ ss) h = ap suc (slots-count rd n xs hs ss h.1)
slots-count rd n (hidden p ∷ xs) (j ∷ hs) ss h = slots-count rd n xs hs ss h.2
slots-count rd n _ _ _ h = absurd h

-- ---- whatever the origins are

-- a variable without its origin
abbrev pub unplaced : SlotOrigin → SlotOrigin
unplaced (held p) = held (Arg 0)
unplaced (object k) = object k
unplaced (hidden p) = hidden (Arg 0)

newest-shape : (xs : List SlotOrigin) → newest (shape xs) ≡ option_map unplaced (newest xs)
newest-shape [] = refl
newest-shape (held p ∷ []) = refl
newest-shape (object k ∷ []) = refl
newest-shape (hidden p ∷ []) = refl
newest-shape (held o ∷ held p ∷ xs) = newest-shape (held p ∷ xs)
newest-shape (held o ∷ object k ∷ xs) = newest-shape (object k ∷ xs)
newest-shape (held o ∷ hidden p ∷ xs) = newest-shape (hidden p ∷ xs)
newest-shape (object j ∷ held p ∷ xs) = newest-shape (held p ∷ xs)
newest-shape (object j ∷ object k ∷ xs) = newest-shape (object k ∷ xs)
newest-shape (object j ∷ hidden p ∷ xs) = newest-shape (hidden p ∷ xs)
newest-shape (hidden o ∷ held p ∷ xs) = newest-shape (held p ∷ xs)
newest-shape (hidden o ∷ object k ∷ xs) = newest-shape (object k ∷ xs)
newest-shape (hidden o ∷ hidden p ∷ xs) = newest-shape (hidden p ∷ xs)

-- the newest of the same variables from other origins
pub newest-same : (xs ys : List SlotOrigin) → shape ys ≡ shape xs → option_map unplaced (newest ys) ≡ option_map unplaced (newest xs)
newest-same xs ys e = sym (newest-shape ys) ∙ ap newest e ∙ newest-shape xs

slot-placed : (x : Option SlotOrigin) → HasSlot (option_map unplaced x) ≡ HasSlot x
slot-placed None = refl
slot-placed (Some (held p)) = refl
slot-placed (Some (object k)) = refl
slot-placed (Some (hidden p)) = refl

pub newest-later : (s t : Point) (x : SlotOrigin) → HasSlot (Some x) → Later (pushed x s) t → HasSlot (newest t.carried.variables)
newest-later s t x h l =
    subst (λ (X : Type 0). X)
    (ap HasSlot (sym (newest_append s.carried.variables x)) ∙ sym (slot-placed (newest (s.carried.variables ++ x ∷ [])))
    ∙ ap HasSlot (sym (newest-same (s.carried.variables ++ x ∷ []) t.carried.variables l.shape)) ∙ slot-placed (newest t.carried.variables)) h
