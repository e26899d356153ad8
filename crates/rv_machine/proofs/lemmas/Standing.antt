-- Instructions that stand at their addresses are done, and a run leaves them.
use Rattle.std.proofs.Common.{◌≡◌, ℕ, zero, suc, ◌+◌, ◌*◌, ◌%◌, ◌==◌, ◌<◌, true, false, List, [], ◌∷◌, ◌++◌, length, slice_index_or, Some, refl, ap, subst, ◌∙◌, arith, eq-eqb}
use Rattle.std.proofs.lemmas.List.{append-nil}
use Rattle.rv_isa.specs.Words.{word_of}
use Rattle.rv_isa.specs.declared.instruction.Instr.{Instr}
use Rattle.rv_isa.specs.declared.instruction.Instr.TheVariants.{Ebreak}
use Rattle.rv_isa.proofs.lemmas.EncodedDecodes.{encoded_decodes}
use Rattle.rv_machine.specs.Laws.{Reaches}
use Rattle.rv_machine.specs.Machine.{State, next_effect, fetched, act_fetched, act_decoded}
use Rattle.rv_machine.specs.Memory.{Bytes, load_bytes, has_flag, to_write}
use Rattle.rv_machine.specs.Run.{ended, after_output}
use Rattle.rv_machine.specs.Standing.{Text, HasText, StandsAt, CodeStands, AllFit}
use Rattle.rv_machine.specs.StandingLaws.{StandingIsDone, TextStays, StandingReaches, StandingEnds, CodeIsCut, EachStands}
use Rattle.rv_machine.proofs.lemmas.RunLaws.{run_goes_on, reaches_onwards, step_reaches, step_ends}
use Rattle.rv_machine.proofs.lemmas.Stores.{load-agrees}
use Rattle.rv_machine.proofs.Unwritable.{unwritable_stays}

pub fits-append : (code more : List Instr) → AllFit code → AllFit more → AllFit (code ++ more)
fits-append [] more fit rest = rest
fits-append (i ∷ code) more fit rest = (fit.0, fits-append code more fit.1 rest)

word-there : (text : Text) (mem : Bytes) (at : ℕ) → HasText text mem → ((j : ℕ) → j < 4 → has_flag (text.flags (at + j)) to_write ≡ false)
    → load_bytes mem at 4 ≡ load_bytes text.bytes at 4
word-there text mem at has fixed = load-agrees text.bytes mem at 4 (λ j below. has (at + j) (fixed j below))

pub fetched-there : (text : Text) (s : State) (i : Instr) → HasText text s.mem → StandsAt text s.pc i → fetched text.flags s ≡ Some (word_of i)
unfolding fetched
fetched-there text s i has there =
    let aligned : (s.pc % 4 == 0) ≡ true = eq-eqb (s.pc % 4) 0 there.aligned in
    rw (aligned, there.executable) (ap Some (word-there text s.mem s.pc has there.fixed ∙ there.word))

pub standing_is_done : StandingIsDone
unfolding next_effect
standing_is_done text s i has there =
    ap (λ w. act_fetched text.flags w s) (fetched-there text s i has there) ∙ ap (λ o. act_decoded text.flags o s) (encoded_decodes i there.fits)

pub text_stays : TextStays
text_stays text n s t input written rest reaches has a fixed =
    unwritable_stays text.flags n s t input written rest reaches a fixed ∙ has a fixed

pub standing_reaches : StandingReaches
standing_reaches text n s t u i input written rest has reaches there does =
    let still = text_stays text n s t input written rest reaches has in
    let one = step_reaches text.flags t u (word_of i) i rest (fetched-there text t i still there) (encoded_decodes i there.fits) does in
    subst (λ w. Reaches text.flags (n + 1) s input w u rest) (append-nil written)
    (reaches_onwards text.flags n 1 s t u input written rest [] rest reaches one)

pub standing_ends : StandingEnds
standing_ends text n k s t i e input written rest has reaches there does =
    let still = text_stays text n s t input written rest reaches has in
    run_goes_on text.flags n (suc k) s t input written rest reaches
    ∙ ap (after_output written) (step_ends text.flags k t (word_of i) i e rest (fetched-there text t i still there) (encoded_decodes i there.fits) does)
    ∙ ap (λ out. record { hart = ended e; output = out; rest = rest }) (append-nil written)

-- ---- code

pub code_is_cut : CodeIsCut
code_is_cut text a b [] second h = (a, refl, h)
code_is_cut text a b (i ∷ is) second h = let r = code_is_cut text (a + 4) b is second h.1 in (r.0, (h.0, r.1), r.2)

pub each_stands : EachStands
each_stands text a b k [] h below = absurd (omega (arith, below))
each_stands text a b zero (i ∷ is) h below = let first : a ≡ a + 4 * 0 = omega arith in subst (λ x. StandsAt text x i) first h.0
each_stands text a b (suc k) (i ∷ is) h below =
    let place : (a + 4) + 4 * k ≡ a + 4 * suc k = omega arith in
    subst (λ x. StandsAt text x (slice_index_or is k Ebreak)) place (each_stands text (a + 4) b k is h.1 (omega (arith, below)))

-- code whose instructions each stand at a word
pub code-from-each : (text : Text) (at : ℕ) (code : List Instr) → ((k : ℕ) → k < length code → StandsAt text (at + 4 * k) (slice_index_or code k Ebreak))
    → CodeStands text at code (at + 4 * length code)
code-from-each text at [] each = omega arith
code-from-each text at (i ∷ is) each =
    let first : at + 4 * 0 ≡ at = omega arith in
    let end : (at + 4) + 4 * length is ≡ at + 4 * length (i ∷ is) = omega arith in
    let rest = code-from-each text (at + 4) is (λ k below.
    let place : at + 4 * suc k ≡ (at + 4) + 4 * k = omega arith in
    subst (λ a. StandsAt text a (slice_index_or is k Ebreak)) place (each (suc k) (omega arith))) in
    (subst (λ a. StandsAt text a i) first (each 0 (omega arith)), subst (λ b. CodeStands text (at + 4) is b) end rest)
