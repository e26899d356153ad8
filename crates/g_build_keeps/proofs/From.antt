-- The variable `from` of a `switch`: it is carried without a slot, as the newest one.
use Rattle.std.proofs.Common.{◌≡◌, ℕ, suc, List, [], ◌∷◌, ◌++◌, refl, sym, ap, ◌∙◌, subst}
use Rattle.std.specs.Prelude.{Bool, true, false, Option, None, Some, option_map}
use Rattle.val_core.specs.declared.values.Value.TheVariants.{Num}
use Rattle.c_mean.specs.State as source
use Rattle.c_mean.specs.State.{Slot, State}
use Rattle.c_mean.specs.Statements.{Flow}
use Rattle.g_graph.specs.declared.op.Origin.{Origin}
use Rattle.g_build_def.specs.Writer.{SlotOrigin, held, object, hidden, newest, without_newest, slot_origin, Carried, Point, pushed, Built, inside}
use Rattle.g_build_def.specs.Switch.{Label, groups_moved, from_made, from_popped}
use Rattle.g_build_def.specs.Operations.{const_made}
use Rattle.g_build_def.specs.Laws.{Later}
use Rattle.g_build_def.proofs.lemmas.Later.{newest_append, shape_renamed}
use Rattle.g_graph.specs.declared.op.Origin.TheVariants.{Arg}
use Rattle.g_mean.specs.Data.{Datum, val}
use Rattle.g_build_keeps.proofs.Readings.{IsBelow}
use Rattle.g_build_keeps.proofs.Held.{SlotsHeld, named, Holds}
use Rattle.g_build_keeps.proofs.Scopes.{unplaced, newest-same}
use Rattle.g_build_keeps.proofs.Declarations.{framed}

-- an origin below a number carries this word
abbrev pub Reads : (rd : Origin → Datum) (n : ℕ) → ℕ → Origin → Type 0
Reads rd n k p = (rd p ≡ val (Num k)) × IsBelow n p

-- ---- it is the newest

abbrev IsHidden : Option SlotOrigin → Type 0
IsHidden (Some (hidden p)) = Unit {0}
IsHidden _ = ⊥

hidden-placed : (x : Option SlotOrigin) → IsHidden (option_map unplaced x) ≡ IsHidden x
hidden-placed None = refl
hidden-placed (Some (held p)) = refl
hidden-placed (Some (object k)) = refl
hidden-placed (Some (hidden p)) = refl

-- where `from` is in scope, it is the newest
abbrev pub HasFrom : (several : Bool) → List SlotOrigin → Type 0
HasFrom several xs = several ≡ true → IsHidden (newest xs)

from-same : (several : Bool) (xs ys : List SlotOrigin) → HasFrom several xs → (option_map unplaced (newest ys) ≡ option_map unplaced (newest xs)) → HasFrom several ys
from-same several xs ys h e z =
    subst (λ (X : Type 0). X) (sym (hidden-placed (newest xs)) ∙ ap IsHidden (sym e) ∙ hidden-placed (newest ys)) (h z)

pub from-later : (several : Bool) (s t : Point) → Later s t → HasFrom several s.carried.variables → HasFrom several t.carried.variables
from-later several s t l h = from-same several s.carried.variables t.carried.variables h (newest-same s.carried.variables t.carried.variables l.shape)

pub from-inside : (several : Bool) (k : Carried) (n : ℕ) → HasFrom several k.variables → HasFrom several (inside k n).carried.variables
from-inside several k n h = from-same several k.variables (inside k n).carried.variables h (newest-same k.variables (inside k n).carried.variables (shape_renamed k Arg))

-- ---- the numbers without a name

-- with `from`, where it is in scope
abbrev pub with_from : (several : Bool) → List ℕ → (from : ℕ) → List ℕ
with_from false hs t = hs
with_from true hs t = hs ++ t ∷ []

slots-hide : (rd : Origin → Datum) (n : ℕ) (xs : List SlotOrigin) (hs : List ℕ) (ss : List Slot) (t : ℕ) (p : Origin) → Reads rd n t p → SlotsHeld rd n [] xs hs ss →
    SlotsHeld rd n [] (xs ++ hidden p ∷ []) (hs ++ t ∷ []) ss
slots-hide rd n [] [] ss t p g h = (g.0, g.1, h)
slots-hide rd n (held o ∷ xs) hs (source.holds v ∷ ss) t p g h = (h.0, slots-hide rd n xs hs ss t p g h.1)
slots-hide rd n (object k ∷ xs) hs (source.object j ∷ ss) t p g h = (h.0, slots-hide rd n xs hs ss t p g h.1)
slots-hide rd n (hidden o ∷ xs) (j ∷ hs) ss t p g h = (h.0, h.1, slots-hide rd n xs hs ss t p g h.2)
slots-hide rd n _ _ _ t p g h = absurd h

named-hide : (xs : List SlotOrigin) (p : Origin) → named (xs ++ hidden p ∷ []) ≡ named xs
named-hide [] p = refl
named-hide (held o ∷ xs) p = ap suc (named-hide xs p)
named-hide (object k ∷ xs) p = ap suc (named-hide xs p)
named-hide (hidden o ∷ xs) p = named-hide xs p

hidden-last : (xs : List SlotOrigin) → IsHidden (newest xs) → (p : Origin) × (xs ≡ without_newest xs ++ hidden p ∷ []) × (newest xs ≡ Some (hidden p))
hidden-last [] h = absurd h
hidden-last (hidden p ∷ []) h = (p, refl, refl)
hidden-last (held p ∷ []) h = absurd h
hidden-last (object k ∷ []) h = absurd h
hidden-last (x ∷ y ∷ xs) h = let r = hidden-last (y ∷ xs) h in (r.0, ap (λ zs. x ∷ zs) r.1, r.2)

none-hidden : (rd : Origin → Datum) (n : ℕ) (xs : List SlotOrigin) (ss : List Slot) (p : Origin) → SlotsHeld rd n [] (xs ++ hidden p ∷ []) [] ss → ⊥
none-hidden rd n [] ss p h = h
none-hidden rd n (held o ∷ xs) (source.holds v ∷ ss) p h = none-hidden rd n xs ss p h.1
none-hidden rd n (object k ∷ xs) (source.object j ∷ ss) p h = none-hidden rd n xs ss p h.1
none-hidden rd n _ _ p h = absurd h

slots-shown : (rd : Origin → Datum) (n : ℕ) (xs : List SlotOrigin) (hs : List ℕ) (ss : List Slot) (t : ℕ) (p : Origin) → SlotsHeld rd n [] (xs ++ hidden p ∷ []) (hs ++ t ∷ []) ss →
    SlotsHeld rd n [] xs hs ss × Reads rd n t p
slots-shown rd n [] [] ss t p h = (h.2, (h.0, h.1))
slots-shown rd n [] (j ∷ []) ss t p h = absurd h.2
slots-shown rd n [] (j ∷ i ∷ hs) ss t p h = absurd h.2
slots-shown rd n (held o ∷ xs) hs (source.holds v ∷ ss) t p h = let r = slots-shown rd n xs hs ss t p h.1 in ((h.0, r.0), r.1)
slots-shown rd n (object k ∷ xs) hs (source.object j ∷ ss) t p h = let r = slots-shown rd n xs hs ss t p h.1 in ((h.0, r.0), r.1)
slots-shown rd n (hidden o ∷ xs) (j ∷ hs) ss t p h = let r = slots-shown rd n xs hs ss t p h.2 in ((h.0, h.1, r.0), r.1)
slots-shown rd n (hidden o ∷ xs) [] ss t p h = absurd (none-hidden rd n xs ss p h.2)
slots-shown rd n _ _ _ t p h = absurd h

-- ---- it comes into scope, is read, and leaves

module _ (hs : List ℕ) (n : ℕ) (m : Bool) (t : ℕ) (flow : Flow) (rd : Origin → Datum) (k : ℕ) (s : Point) (q : State) where
  pub holds-hide : (p : Origin) → Reads rd k t p → Holds (framed hs n m) flow rd k s.carried q → Holds (framed (hs ++ t ∷ []) n m) flow rd k (pushed (hidden p) s).carried q
  holds-hide p g h =
      record {
        slots = slots-hide rd k s.carried.variables hs q.slots t p g h.slots;
        count = named-hide s.carried.variables p ∙ h.count;
        jumps = h.jumps;
        memory = h.memory;
        memory_below = h.memory_below;
        io = h.io;
        io_below = h.io_below;
      }

  -- the slots without it, and the word that it carries
  last-shown : IsHidden (newest s.carried.variables) → Holds (framed (hs ++ t ∷ []) n m) flow rd k s.carried q →
      SlotsHeld rd k [] (without_newest s.carried.variables) hs q.slots × Reads rd k t (slot_origin (newest s.carried.variables)) × (named (without_newest s.carried.variables) ≡ n)
  last-shown has h =
      let r = hidden-last s.carried.variables has in
      let g = slots-shown rd k (without_newest s.carried.variables) hs q.slots t r.0 (subst (λ xs. SlotsHeld rd k [] xs (hs ++ t ∷ []) q.slots) r.1 h.slots) in (
        g.0,
        subst (λ x. Reads rd k t (slot_origin x)) (sym r.2) g.1,
        sym (named-hide (without_newest s.carried.variables) r.0) ∙ ap named (sym r.1) ∙ h.count,
      )

  pub from-reads : (several : Bool) → several ≡ true → HasFrom several s.carried.variables → Holds (framed (with_from several hs t) n m) flow rd k s.carried q →
      Reads rd k t (slot_origin (newest s.carried.variables))
  from-reads true e has h = (last-shown (has refl) h).1
  from-reads false e has h = absurd cc

  pub holds-popped : (several : Bool) → HasFrom several s.carried.variables → Holds (framed (with_from several hs t) n m) flow rd k s.carried q →
      Holds (framed hs n m) flow rd k (from_popped several s).carried q
  holds-popped false has h = h
  holds-popped true has h =
      let r = last-shown (has refl) h in
      record { slots = r.0; count = r.2; jumps = h.jumps; memory = h.memory; memory_below = h.memory_below; io = h.io; io_below = h.io_below }

-- it has come into scope
pub from-made-has : (several : Bool) (e : ℕ) (ls : List Label) (qs : List Origin) (s : Point) → HasFrom several (from_made several e ls qs s).after.carried.variables
from-made-has true e ls qs s z =
    let first : Built Origin = const_made e s in
    let second : Built Origin = groups_moved e ls qs first.value first.after in
    subst IsHidden (sym (newest_append second.after.carried.variables (hidden second.value))) tt
from-made-has false e ls qs s z = absurd cc
