-- The code of a body without calls: what each instruction of it leaves as it is, and the law of code.
use Rattle.std.proofs.Common.{◌≡◌, ℕ, suc, ◌%◌, ◌^◌, ◌<◌, List, [], ◌∷◌, length, Option, Some, None, refl, sym, ap, subst, ◌∙◌, arith, inl, inr}
use Rattle.std.specs.Prelude.{All}
use Rattle.std.specs.List.{sum_by}
use Rattle.std.proofs.lemmas.List.Sums.{sum_by-cons}
use Rattle.val_core.specs.declared.values.Value.{Value}
use Rattle.val_core.specs.declared.values.Value.TheVariants.{Num, At, Bad}
use Rattle.val_core.specs.Answers.{Answer, Returned, Cut, Exited, Undefined, on_number, on_defined, events, Gives}
use Rattle.val_core.specs.Events.{Event, wrote, took, met, deepest}
use Rattle.val_core.specs.Memory as mem
use Rattle.val_core.specs.MemoryLaws.{StoreKeepsBlocks, ClearKeepsBlocks}
use Rattle.val_core.specs.Memory.{cleared_at}
use Rattle.g_graph.specs.Plain.{PlainObject}
use Rattle.rv_machine.specs.Machine.{State}
use Rattle.rv_machine.specs.Standing.{Text}
use Rattle.rv_layout.specs.Layout.{Addresses}
use Rattle.s_linear.specs.Frame.{PlainPlaces}
use Rattle.s_linear.specs.Linear.{Instr, const, undef, object_address, global_address, binary, unary, load, store, clear, equal_pointers, move, call, put, get, exit}
use Rattle.s_linear.specs.Meaning as linear
use Rattle.s_linear.specs.Meaning.{Context, instr_run, got}
use Rattle.a_place.specs.Placed.{placed_instr, placed_code}
use Rattle.s_select_keeps.specs.Codes.{InstrFits, CodeIsDone}
use Rattle.s_select_keeps.specs.Relation.{Bases, LivesAlike, Frame, at_bases, Represents}
use Rattle.s_select_keeps.specs.Steps.{Follows}
use Rattle.s_select_keeps.specs.Table.{place_at, ObjectStands, IsBody, IsPlain, InstrIsDone}
use Rattle.s_select_keeps.proofs.Codes.{code-follows}
use Rattle.s_select_keeps.proofs.Follows.{InstrFollows}
use Rattle.s_select_keeps.proofs.Outcomes.{Reached, Outcome}
use Rattle.s_select_keeps.proofs.Stores.{SameBlocks, alike, alike-back, live-same}

module _ (text : Text) (f : Frame) (addresses : Addresses) (p : PlainPlaces) (os : List PlainObject) (c : Context) where
  pub body-same : (m m' : mem.Memory) → LivesAlike m m' → IsBody text f addresses p os c.addresses m → IsBody text f addresses p os c.addresses m'
  body-same m m' same h = record {
    places = h.places;
    objects = λ k below. object k (h.objects k below);
    globals = h.globals;
    buffer = record {
      below = h.buffer.below;
      outside = λ live. h.buffer.outside (live-same f.bases m' m (alike-back m m' same) addresses.data_at live);
      readable = h.buffer.readable;
      writable = h.buffer.writable;
    };
    stubs = h.stubs;
  }
    where
      object : (k : ℕ) → ObjectStands f p os (c.addresses.local k) m k → ObjectStands f p os (c.addresses.local k) m' k
      object k o =
          let b = same.forth o.name.number o.block o.lives in
          record {
            name = o.name;
            block = b.block;
            is = o.is;
            size = o.size;
            base = o.base;
            lives = b.there;
            block_size = ap (λ s. s.size) b.shape ∙ o.block_size;
            free = b.fixed ∙ o.free;
          }

rest-bytes : (b : ℕ) (input : List ℕ) → All (λ byte. byte < 2 ^ 8) (b ∷ input) → All (λ byte. byte < 2 ^ 8) input
rest-bytes b input all k d below = all (suc k) d (omega (arith, below))

-- ---- what an instruction that is no call leaves: the blocks of memory, and an input of bytes

same-self : (m : mem.Memory) → SameBlocks m m
same-self m = record { shapes = refl; lives = refl; fixed = refl }

abbrev pub Leaves : (before after : linear.State) → Type 0
Leaves before after = SameBlocks before.memory after.memory × All (λ byte. byte < 2 ^ 8) after.input

module _ (c : Context) (p : PlainPlaces) (store-keeps : StoreKeepsBlocks) (clear-keeps : ClearKeepsBlocks) (q : linear.State)
    (all : All (λ byte. byte < 2 ^ 8) q.input) where
  same : Leaves q q
  same = (same-self q.memory, all)

  stored : (width : ℕ) (a v : Value) → Gives (Leaves q) (on_defined (mem.store width a v q.memory) (linear.gives_memory q))
  stored width a v = by (mem.store width a v q.memory) refl
    where
      by : (found : Option mem.Memory) → mem.store width a v q.memory ≡ found → Gives (Leaves q) (on_defined found (linear.gives_memory q))
      by None e = tt
      by (Some m) e = let k = store-keeps width a v q.memory m e in (record { shapes = sym k.0; lives = sym k.1; fixed = sym k.2 }, all)

  cleared : (v : Value) → Gives (Leaves q) (on_defined (cleared_at v q.memory) (linear.gives_memory q))
  cleared (Num w) = tt
  cleared (At b o) = let k = clear-keeps b q.memory in (record { shapes = sym k.0; lives = sym k.1; fixed = sym k.2 }, all)
  cleared Bad = tt

  loaded : (found : Option Value) (t : ℕ) → Gives (Leaves q) (on_defined found (linear.gives q t))
  loaded None t = tt
  loaded (Some v) t = same

  compared : (found : Option ℕ) (t : ℕ) → Gives (Leaves q) (on_defined found (λ n. linear.gives q t (Num n)))
  compared None t = tt
  compared (Some n) t = same

  taken : (t : ℕ) (input : List ℕ) → All (λ byte. byte < 2 ^ 8) input → Gives (Leaves q) (got q t input)
  taken t [] bytes = same
  taken t (b ∷ input) bytes = (same-self q.memory, rest-bytes b input bytes)

  written : (v : Value) → Gives (Leaves q) (on_number v (λ w. Returned q (wrote (w % 256) ∷ [])))
  written (Num w) = same
  written (At b o) = tt
  written Bad = tt

  ended : (v : Value) → Gives (Leaves q) (on_number v (λ w. Exited [] (w % 256)))
  ended (Num w) = tt
  ended (At b o) = tt
  ended Bad = tt

  pub leaves : (i : Instr) → IsPlain i → Gives (Leaves q) (instr_run c (placed_instr (place_at p) i) q)
  leaves (const t w) plain = same
  leaves (undef t) plain = same
  leaves (object_address t k) plain = same
  leaves (global_address t k) plain = same
  leaves (binary o t x y) plain = same
  leaves (unary o t x) plain = same
  leaves (load width t x) plain = loaded (mem.load width (q.names (place_at p x)) q.memory) (place_at p t)
  leaves (store width x v) plain = stored width (q.names (place_at p x)) (q.names (place_at p v))
  leaves (clear k) plain = cleared (c.addresses.local k)
  leaves (equal_pointers t x y) plain = compared (mem.pointers_equal (q.names (place_at p x)) (q.names (place_at p y)) q.memory) (place_at p t)
  leaves (move t x) plain = same
  leaves (call n t xs) plain = absurd plain
  leaves (put x) plain = written (q.names (place_at p x))
  leaves (get t) plain = taken (place_at p t) q.input all
  leaves (exit x) plain = ended (q.names (place_at p x))

-- what is given has a weaker property
pub gives-more : {A : Type 0} (P Q : A → Type 0) (a : Answer A) → ((x : A) → P x → Q x) → Gives P a → Gives Q a
gives-more P Q (Returned x o) more h = more x h
gives-more P Q (Cut o) more h = tt
gives-more P Q (Exited o status) more h = tt
gives-more P Q (Undefined o) more h = tt

-- without frames no stack is exceeded
no-frames : (did : List Event) → deepest (λ n. 0) did ≡ 0
no-frames [] = refl
no-frames (wrote b ∷ did) = no-frames did
no-frames (took b ∷ did) = no-frames did
no-frames (met s ∷ did) = let h = no-frames did in let e = nothing s in omega (arith, h, e)
  where
    nothing : (xs : List ℕ) → sum_by (λ n. 0) xs ≡ 0
    nothing [] = refl
    nothing (x ∷ xs) = let e = sum_by-cons (λ n. 0) x xs in let h = nothing xs in omega (arith, e, h)

-- what an answer says, and what holds of its result
pub reached : (text : Text) (f : Frame) (sizes : ℕ → ℕ) (left : ℕ) (Inv : Bases → linear.State → Type 0) (bases : Bases) (b least : ℕ) (a : Answer linear.State)
    (s : State) (input : List ℕ)
    → Follows text (at_bases f bases) b least a s input → Gives (Inv bases) a → Reached text f sizes left Inv b least a s input
reached text f sizes left Inv bases b least (Returned q did) s input h inv =
    record { state = h.state; count = h.count; reaches = h.reaches; pc = h.pc; shown = record { bases = bases; inv = inv; shows = h.shows } }
reached text f sizes left Inv bases b least (Cut did) s input h inv = h
reached text f sizes left Inv bases b least (Exited did status) s input h inv = h
reached text f sizes left Inv bases b least (Undefined did) s input h inv = tt

followed : (text : Text) (f : Frame) (P : linear.State → Type 0) (b least : ℕ) (a : Answer linear.State) (s : State) (input : List ℕ)
    → Outcome text f (λ n. 0) 0 (λ bases q. (bases ≡ f.bases) × P q) b least a s input → Follows text f b least a s input
followed text f P b least a s input (inl h) = let more = h.more in let none = no-frames (events a) in absurd (omega (arith, more, none))
followed text f P b least (Returned q did) s input (inr h) =
    record {
      state = h.state;
      count = h.count;
      reaches = h.reaches;
      pc = h.pc;
      shows = subst (λ bases. Represents text (at_bases f bases) q h.state) h.shown.inv.0 h.shown.shows;
    }
followed text f P b least (Cut did) s input (inr h) = h
followed text f P b least (Exited did status) s input (inr h) = h
followed text f P b least (Undefined did) s input (inr h) = tt

module _ (text : Text) (f : Frame) (addresses : Addresses) (p : PlainPlaces) (os : List PlainObject) (c : Context) where
  abbrev IsBodyState : linear.State → Type 0
  IsBodyState q = IsBody text f addresses p os c.addresses q.memory × All (λ byte. byte < 2 ^ 8) q.input

  -- blocks stay where they are
  abbrev StaysIn : Bases → linear.State → Type 0
  StaysIn bases q = (bases ≡ f.bases) × IsBodyState q

pub code_is_done : InstrIsDone → StoreKeepsBlocks → ClearKeepsBlocks → CodeIsDone
code_is_done instr_is_done store-keeps clear-keeps text f addresses labels p os c q s k first b has rep body bytes fit there low =
    followed text f (IsBodyState text f addresses p os c) b c.bound (linear.code_run c (placed_code (place_at p) k) q) s q.input
    (code-follows text f (λ n. 0) 0 (StaysIn text f addresses p os c) has addresses labels p os c body.places (InstrFits p (length os) (length addresses.globals)) instr
    k first fit q s b
    (record { bases = f.bases; inv = (refl, (body, bytes)); shows = rep }) there low)
  where
    instr : (i : Instr) → InstrFits p (length os) (length addresses.globals) i
        → InstrFollows text f (λ n. 0) 0 (StaysIn text f addresses p os c) has addresses labels p os c i
    instr i fits q' s' b' shown there' low' =
        let state = shown.inv.1 in
        let run = instr_run c (placed_instr (place_at p) i) q' in
        inr
        (reached text f (λ n. 0) 0 (StaysIn text f addresses p os c) f.bases b' c.bound run s' q'.input
        (instr_is_done text f addresses labels p os c q' s' i b' c.bound has (subst (λ bases. Represents text (at_bases f bases) q' s') shown.inv.0 shown.shows) state.0
        state.1 fits.0 fits.1 fits.2
        fits.3 there' low')
        (gives-more (Leaves q') (StaysIn text f addresses p os c f.bases) run
        (λ x kept. (refl, (body-same text f addresses p os c q'.memory x.memory (alike q'.memory x.memory kept.0) state.0, kept.1)))
        (leaves c p store-keeps clear-keeps q' state.1 i fits.3)))
