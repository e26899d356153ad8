-- What is carried into a region and out of one: the same variables, from a numbering in their order.
use Rattle.std.proofs.Common.{◌≡◌, ℕ, suc, List, [], ◌∷◌, ◌++◌, map, refl, sym, ap, ◌∙◌}
use Rattle.c_mean.specs.State as source
use Rattle.c_mean.specs.State.{Slot, State}
use Rattle.c_mean.specs.Statements.{Flow}
use Rattle.g_graph.specs.declared.op.Origin.{Origin}
use Rattle.g_graph.specs.declared.op.Origin.TheVariants.{Arg}
use Rattle.g_build_def.specs.Writer.{SlotOrigin, held, object, hidden, Form, straight, jumping, Carried, value_origins, last_origins, carried_origins, numbered, beyond, with_last, renamed, Point, inside}
use Rattle.g_build_def.specs.Laws.{Later}
use Rattle.g_build_def.proofs.lemmas.Later.{numbered_twice}
use Rattle.g_mean.specs.Data.{Datum, memory, input, at_port}
use Rattle.g_mean.specs.Meaning.{Outputs, no_outputs, read}
use Rattle.g_mean.specs.LessDefined.{AreSound}
use Rattle.g_build_keeps.proofs.Readings.{IsBelow, IsSoundRun, read-sound}
use Rattle.g_build_keeps.proofs.Held.{SlotsHeld, named, JumpsHeld, Frame, Holds}

-- ---- the same variables have the same numbering

beyond-shape : (xs : List SlotOrigin) (f g : ℕ → Origin) → beyond (numbered xs f) g ≡ beyond xs g
beyond-shape [] f g = refl
beyond-shape (held o ∷ xs) f g = beyond-shape xs (λ k. f (suc k)) (λ k. g (suc k))
beyond-shape (object n ∷ xs) f g = beyond-shape xs f g
beyond-shape (hidden o ∷ xs) f g = beyond-shape xs (λ k. f (suc k)) (λ k. g (suc k))

pub renamed-same : (s t : Point) (g : ℕ → Origin) → Later s t → renamed t.carried g ≡ renamed s.carried g
renamed-same s t g l =
    (λ i. with_last (l.form i) (numbers i) (after i))
  where
    numbers : numbered t.carried.variables g ≡ numbered s.carried.variables g
    numbers = sym (numbered_twice t.carried.variables (λ _. Arg 0) g) ∙ ap (λ xs. numbered xs g) l.shape ∙ numbered_twice s.carried.variables (λ _. Arg 0) g

    after : beyond t.carried.variables g ≡ beyond s.carried.variables g
    after = sym (beyond-shape t.carried.variables (λ _. Arg 0) g) ∙ ap (λ xs. beyond xs g) l.shape ∙ beyond-shape s.carried.variables (λ _. Arg 0) g

-- ---- what is carried is held from a numbering that carries the same data

-- a numbering carries these data in order, and its origins are below a number
pub record Numbers (rd : Origin → Datum) (m : ℕ) (us : List Datum) (g : ℕ → Origin) : Type 0 where
  pub carries : (j : ℕ) → rd (g j) ≡ at_port us j
  pub below : (j : ℕ) → IsBelow m (g j)

slots-renamed : (rd rd' : Origin → Datum) (n m : ℕ) (ws : List Slot) (xs : List SlotOrigin) (hs : List ℕ) (ss : List Slot) (g : ℕ → Origin) (rest : List Origin) →
    Numbers rd' m (map rd (value_origins xs ++ rest)) g → SlotsHeld rd n ws xs hs ss → SlotsHeld rd' m ws (numbered xs g) hs ss × Numbers rd' m (map rd rest) (beyond xs g)
slots-renamed rd rd' n m ws [] [] ss g rest e h = (h, e)
slots-renamed rd rd' n m ws (held p ∷ xs) hs (source.holds v ∷ ss) g rest e h =
    let r = slots-renamed rd rd' n m ws xs hs ss (λ k. g (suc k)) rest (record { carries = λ j. e.carries (suc j); below = λ j. e.below (suc j) }) h.1 in
    ((record { far = h.0.far; is = e.carries 0 ∙ h.0.is; less = h.0.less; below = e.below 0 }, r.0), r.1)
slots-renamed rd rd' n m ws (object k ∷ xs) hs (source.object j ∷ ss) g rest e h =
    let r = slots-renamed rd rd' n m ws xs hs ss g rest e h.1 in ((h.0, r.0), r.1)
slots-renamed rd rd' n m ws (hidden p ∷ xs) (i ∷ hs) ss g rest e h =
    let r = slots-renamed rd rd' n m ws xs hs ss (λ k. g (suc k)) rest (record { carries = λ j. e.carries (suc j); below = λ j. e.below (suc j) }) h.2 in
    ((e.carries 0 ∙ h.0, e.below 0, r.0), r.1)
slots-renamed rd rd' n m ws _ _ _ g rest e h = absurd h

named-numbered : (xs : List SlotOrigin) (g : ℕ → Origin) → named (numbered xs g) ≡ named xs
named-numbered [] g = refl
named-numbered (held p ∷ xs) g = ap suc (named-numbered xs (λ k. g (suc k)))
named-numbered (object k ∷ xs) g = ap suc (named-numbered xs g)
named-numbered (hidden p ∷ xs) g = named-numbered xs (λ k. g (suc k))

last-renamed : (f : Frame) (flow : Flow) (rd rd' : Origin → Datum) (n m : ℕ) (q : State) (form : Form) (ys : List SlotOrigin) (g : ℕ → Origin) (go ret mem io : Origin) →
    SlotsHeld rd' m f.waiting ys f.numbers q.slots → named ys ≡ f.count → JumpsHeld rd n f.is_main flow form go ret → rd mem ≡ memory q.memory → rd io ≡ input q.input →
    Numbers rd' m (map rd (last_origins form go ret mem io)) g → Holds f flow rd' m (with_last form ys g) q
last-renamed f flow rd rd' n m q straight ys g go ret mem io h count j a b e =
    record { slots = h; count = count; jumps = j; memory = e.carries 0 ∙ a; memory_below = e.below 0; io = e.carries 1 ∙ b; io_below = e.below 1 }
last-renamed f flow rd rd' n m q jumping ys g go ret mem io h count j a b e =
    record {
      slots = h;
      count = count;
      jumps = (e.carries 0 ∙ j.0, e.below 0, record { far = j.2.far; is = e.carries 1 ∙ j.2.is; less = j.2.less; below = e.below 1 });
      memory = e.carries 2 ∙ a;
      memory_below = e.below 2;
      io = e.carries 3 ∙ b;
      io_below = e.below 3;
    }

pub holds-renamed : (f : Frame) (flow : Flow) (rd rd' : Origin → Datum) (n m : ℕ) (k : Carried) (q : State) (g : ℕ → Origin) → Numbers rd' m (map rd (carried_origins k)) g →
    Holds f flow rd n k q → Holds f flow rd' m (renamed k g) q
holds-renamed f flow rd rd' n m k q g e h =
    let r = slots-renamed rd rd' n m f.waiting k.variables f.numbers q.slots g (last_origins k.form k.go k.ret k.memory k.io) e h.slots in
    last-renamed f flow rd rd' n m q k.form (numbered k.variables g) (beyond k.variables g) k.go k.ret k.memory k.io r.0 (named-numbered k.variables g ∙ h.count) h.jumps h.memory h.io r.1

-- ---- the start of a region

pub holds-inside : (f : Frame) (flow : Flow) (rd : Origin → Datum) (n m : ℕ) (k : Carried) (q : State) → Holds f flow rd n k q →
    Holds f flow (read (map rd (carried_origins k)) no_outputs) m (inside k m).carried q
holds-inside f flow rd n m k q h =
    holds-renamed f flow rd (read (map rd (carried_origins k)) no_outputs) n m k q Arg (record { carries = λ j. refl; below = λ j. tt }) h

pub reads-sound : (xs : List Datum) (o : Outputs) → IsSoundRun xs o → (ps : List Origin) → AreSound (map (read xs o) ps)
reads-sound xs o s [] = tt
reads-sound xs o s (p ∷ ps) = (read-sound xs o s p, reads-sound xs o s ps)

pub inside-sound : (xs : List Datum) (o : Outputs) → IsSoundRun xs o → (ps : List Origin) → IsSoundRun (map (read xs o) ps) no_outputs
inside-sound xs o s ps = record { args = reads-sound xs o s ps; outputs = λ id port. tt }
