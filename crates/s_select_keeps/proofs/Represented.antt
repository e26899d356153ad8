-- A place that is written: the machine goes on standing for the state of linear code.
use Rattle.std.proofs.Common.{◌≡◌, ◌≢◌, ◌⊎◌, ℕ, ◌+◌, ◌<◌, ◌≤◌, ◌==◌, false, refl, sym, ap, subst, ◌∙◌, arith, inl, inr, eqb-true}
use Rattle.std.proofs.lemmas.Bool.{cases_lt, cases_Bool, eqb-false, both_ways}
use Rattle.val_core.specs.declared.values.Value.{Value}
use Rattle.val_core.specs.Memory.{Memory}
use Rattle.rv_isa.specs.Registers.{sp, s0}
use Rattle.rv_machine.specs.Machine as machine
use Rattle.rv_machine.specs.Memory.{has_flag, to_write}
use Rattle.rv_machine.proofs.lemmas.Stores.{load-agrees}
use Rattle.s_linear.specs.Frame.{registers}
use Rattle.s_linear.specs.Meaning as linear
use Rattle.s_select.specs.declared.location.Location.{Location}
use Rattle.s_select.specs.declared.location.Location.TheVariants.{Register, Near, Far}
use Rattle.s_select.specs.Operands.{place_register, location_of}
use Rattle.rv_machine.specs.Standing.{Text, HasText}
use Rattle.s_select_keeps.specs.Relation.{IsKept, SameWord, Shows, IsOutside, ShowsMemory, held, Frame, IsPlaceOf, words_end, HasWords, Represents}
use Rattle.s_select_keeps.specs.Steps.{Arrives}
use Rattle.s_select_keeps.proofs.lemmas.Blocks.{memory-same}
use Rattle.s_select_keeps.proofs.Stores.{SameBlocks, same-back, alike, live-same}
use Rattle.s_select_keeps.proofs.Locations.{no-temporary, LocationFits, IsOtherRegister, place-above, register-is-place, saved-within, word-within, word_address, location-fits, other-register, other-addresses, held-at-register, held-at-word, held-same, outside-words}
use Rattle.s_select_keeps.proofs.Operands.{Writes}

module _ (text : Text) (f : Frame) (words : HasWords text f) where
  -- an address outside the words of the frame
  out-of-words : (a : ℕ) → (f.sp ≤ a → a < words_end f → ⊥) → (a < f.sp) ⊎ (words_end f ≤ a)
  out-of-words a never =
      elim (cases_lt a f.sp) [
        | inl before ↦ inl before
        | inr from ↦
            elim (cases_lt a (words_end f)) [
              | inl inside ↦ absurd (never from inside)
              | inr after ↦ inr after
            ]
      ]

  pub place-represents : (q : linear.State) (s : machine.State) (b t : ℕ) (v : Value) → Represents text f q s → IsPlaceOf f t → (w : Writes text f s b (location_of f.temporaries t) v)
      → Represents text f (linear.set q t v) w.state
  place-represents q s b t v rep below w = record {
    stack = kept sp (inl refl) (high-register sp (omega arith)) ∙ rep.stack;
    base = kept s0 (inr (inl refl)) (high-register s0 (omega arith)) ∙ rep.base;
    places = place;
    saved = λ p above low. subst (SameWord (f.before.regs (place_register p))) (sym (register p (apart p above low))) (rep.saved p above low);
    above = λ a from out. w.memory a (outside-words f t a below (inr from)) ∙ rep.above a from out;
    memory =
        memory-same text.flags f.bases q.memory s.mem w.state.mem
        (λ a live. w.memory a (outside-words f t a below (out-of-words a (λ from to. rep.apart a from to live)))) rep.memory;
    apart = rep.apart;
    has_text = λ a fixed. w.memory a (outside-words f t a below
        (out-of-words a (λ from to. both_ways (has_flag (text.flags a) to_write) fixed (words.writable a from to)))) ∙ rep.has_text a fixed;
  }
    where
      kept : (r : ℕ) → IsKept r → IsOtherRegister (location_of f.temporaries t) r → w.state.regs r ≡ s.regs r
      kept r side other = w.registers r (no-temporary r side) other

      high-register : (r : ℕ) → r ≤ 8 → IsOtherRegister (location_of f.temporaries t) r
      high-register r low = other (location_of f.temporaries t) (location-fits f t below)
        where
          other : (l : Location) → LocationFits f l → IsOtherRegister l r
          other (Register n) fits = λ same. (let e : r ≡ n = same in let high = place-above n fits in omega (arith, e, high, low))
          other (Near o) fits = tt
          other (Far o) fits = tt

      apart : (p : ℕ) → f.count ≤ p → p < registers → p ≢ t
      apart p above low same = let inside = saved-within f t below (omega (arith, same, low)) in absurd (omega (arith, above, same, inside))

      register : (p : ℕ) → p ≢ t → w.state.regs (place_register p) ≡ s.regs (place_register p)
      register p ne = kept (place_register p) (inr (inr (register-is-place p))) (other-register f.temporaries p t ne)

      same-held : (p : ℕ) → p ≢ t → held f.sp w.state.regs w.state.mem (location_of f.temporaries p) ≡ held f.sp s.regs s.mem (location_of f.temporaries p)
      same-held p ne =
          elim (cases_lt p (11 + f.temporaries)) [
            | inl low ↦
                held-at-register f p w.state.regs w.state.mem low ∙ register p ne ∙ sym (held-at-register f p s.regs s.mem low)
            | inr high ↦
                held-at-word f p w.state.regs w.state.mem high
                ∙ load-agrees s.mem w.state.mem (word_address f p) 4 (λ j under. w.memory (word_address f p + j) (other-addresses f p t j ne high under))
                ∙ sym (held-at-word f p s.regs s.mem high)
          ]

      place : (p : ℕ) → IsPlaceOf f p → Shows f.bases (linear.written q.names t v p) (held f.sp w.state.regs w.state.mem (location_of f.temporaries p))
      place p within =
          elim (cases_Bool (p == t)) [
            | inl same ↦
                let e : p ≡ t = eqb-true p t same in
                rw same (subst (λ n. Shows f.bases v (held f.sp w.state.regs w.state.mem (location_of f.temporaries n))) (sym e) w.shows)
            | inr other ↦
                rw other (subst (Shows f.bases (q.names p)) (sym (same-held p (eqb-false p t other))) (rep.places p within))
          ]

  pub place-written : (q : linear.State) (s : machine.State) (b t : ℕ) (v : Value) → Represents text f q s → IsPlaceOf f t → Writes text f s b (location_of f.temporaries t) v
      → Arrives text f b (linear.set q t v) s
  place-written q s b t v rep below w = record { state = w.state; steps = w.steps; pc = w.pc; shows = place-represents q s b t v rep below w }

  -- registers that are kept, and memory, are as they were
  pub kept-represents : (q : linear.State) (s u : machine.State) → Represents text f q s → ((r : ℕ) → IsKept r → u.regs r ≡ s.regs r) → u.mem ≡ s.mem
      → Represents text f q u
  kept-represents q s u rep regs mem = record {
    stack = regs sp (inl refl) ∙ rep.stack;
    base = regs s0 (inr (inl refl)) ∙ rep.base;
    places = λ p within.
        subst (Shows f.bases (q.names p))
        (sym (held-same f (location_of f.temporaries p) (location-fits f p within) s.regs u.regs s.mem u.mem (λ r place. regs r (inr (inr place))) mem)) (rep.places p within);
    saved = λ p above low. subst (SameWord (f.before.regs (place_register p))) (sym (regs (place_register p) (inr (inr (register-is-place p)))))
        (rep.saved p above low);
    above = λ n from out. ap (λ m. m n) mem ∙ rep.above n from out;
    memory = subst (λ m. ShowsMemory text.flags f.bases q.memory m) (sym mem) rep.memory;
    apart = rep.apart;
    has_text = subst (HasText text) (sym mem) rep.has_text;
  }

  -- memory that is written in blocks that live, and holds other values
  pub memory-written : (q : linear.State) (s u : machine.State) (m : Memory) → Represents text f q s → SameBlocks q.memory m → ((r : ℕ) → IsKept r → u.regs r ≡ s.regs r)
      → ((a : ℕ) → IsOutside f.bases q.memory a → u.mem a ≡ s.mem a) → ((a : ℕ) → has_flag (text.flags a) to_write ≡ false → u.mem a ≡ s.mem a)
      → ShowsMemory text.flags f.bases m u.mem → Represents text f (record { names = q.names; memory = m; input = q.input }) u
  memory-written q s u m rep same regs elsewhere fixed shows = record {
    stack = regs sp (inl refl) ∙ rep.stack;
    base = regs s0 (inr (inl refl)) ∙ rep.base;
    places = λ p within. subst (Shows f.bases (q.names p)) (sym (same-held p within)) (rep.places p within);
    saved = λ p above low. subst (SameWord (f.before.regs (place_register p))) (sym (regs (place_register p) (inr (inr (register-is-place p)))))
        (rep.saved p above low);
    above = λ a from out. elsewhere a (before a out) ∙ rep.above a from (before a out);
    memory = shows;
    apart = λ a from to live. rep.apart a from to (live-same f.bases m q.memory (alike m q.memory (same-back q.memory m same)) a live);
    has_text = λ a unwritable. fixed a unwritable ∙ rep.has_text a unwritable;
  }
    where
      before : (a : ℕ) → IsOutside f.bases m a → IsOutside f.bases q.memory a
      before a out live = out (live-same f.bases q.memory m (alike q.memory m same) a live)

      same-held : (p : ℕ) → IsPlaceOf f p → held f.sp u.regs u.mem (location_of f.temporaries p) ≡ held f.sp s.regs s.mem (location_of f.temporaries p)
      same-held p within =
          elim (cases_lt p (11 + f.temporaries)) [
            | inl low ↦
                held-at-register f p u.regs u.mem low ∙ regs (place_register p) (inr (inr (register-is-place p))) ∙ sym (held-at-register f p s.regs s.mem low)
            | inr high ↦
                held-at-word f p u.regs u.mem high
                ∙ load-agrees s.mem u.mem (word_address f p) 4
                (λ j under. elsewhere (word_address f p + j) (rep.apart (word_address f p + j) (omega arith) (let inside = word-within f p within high in omega (arith, inside, high, under))))
                ∙ sym (held-at-word f p s.regs s.mem high)
          ]
