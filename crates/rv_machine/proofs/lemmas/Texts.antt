-- What is fetched from segments.
use Rattle.std.proofs.Common.{◌≡◌, ℕ, zero, suc, ◌+◌, ◌-◌, ◌%◌, ◌<◌, true, List, [], ◌∷◌, length, take, drop, get_or, slice_get, Some, None, refl, sym, ap, ◌∙◌, subst, arith, eq-eqb, length-drop}
use Rattle.std.specs.Prelude.{AllPairs}
use Rattle.std.proofs.lemmas.Bool.{false_from_ne_true}
use Rattle.std.proofs.lemmas.List.{get_or-drop}
use Rattle.std.proofs.lemmas.Option.{get_or_from_slice_get}
use Rattle.elf_file.specs.Loading.{LoadedSegment}
use Rattle.elf_file.specs.Segments.{AreApart, AreSound, IsContained, HasAddress}
use Rattle.rv_machine.specs.Machine.{State, fetched}
use Rattle.rv_machine.specs.Memory.{holds, number, load_bytes, allowed, has_flag, flags_of, to_write, to_execute}
use Rattle.rv_machine.specs.Run.{start}
use Rattle.rv_machine.specs.SegmentLaws.{SegmentIsInMemory, BytesAreLoaded, WordBytesMakeWord, FlagsAllow, FlagIsMissing, TextIsFetched}
use Rattle.rv_machine.proofs.Access.{allowed_all, allowed_bad, load_same}
use Rattle.rv_machine.proofs.Lookups.{IsAt, holds-above, holds-below, holds-true, memory_at, flags_at}
use Rattle.rv_machine.proofs.Unwritable.{unwritable_stays}

listed : (ss : List LoadedSegment) (k : ℕ) (s : LoadedSegment) → slice_get ss k ≡ Some s → k < length ss
listed [] k s e = absurd (let f : None ≡ Some s = e in cc)
listed (y ∷ ys) zero s e = omega arith
listed (y ∷ ys) (suc k) s e = omega (arith, listed ys k s e)

at_place : (ss : List LoadedSegment) (k : ℕ) (s : LoadedSegment) → AllPairs AreApart ss → slice_get ss k ≡ Some s → IsAt ss k s
at_place ss k s apart e = record {
  within = listed ss k s e;
  is = get_or_from_slice_get ss k s s e;
  before = λ j x d below h.
      false_from_ne_true (holds (get_or ss j d) x) (λ g.
      let same : get_or ss k d ≡ s = get_or_from_slice_get ss k s d e in
      let there : HasAddress (get_or ss k d) x = rw same (holds-above s x h, holds-below s x h) in
      apart j k d below (listed ss k s e) x (holds-above (get_or ss j d) x g, holds-below (get_or ss j d) x g) there);
}

pub segment_is_in_memory : SegmentIsInMemory
segment_is_in_memory ss k s x sound e has =
    let at : IsAt ss k s = at_place ss k s sound.apart e in
    let h : holds s x ≡ true = holds-true s x has.0 has.1 in
    (memory_at ss k s x at h, flags_at ss k s x at h)

pub contained-at : (ss : List LoadedSegment) (k : ℕ) (s : LoadedSegment) → AreSound ss → slice_get ss k ≡ Some s → IsContained s
contained-at ss k s sound e =
    let P : LoadedSegment → Type 0 = λ y. IsContained y in
    subst P (get_or_from_slice_get ss k s s e) (sound.contained k s (listed ss k s e))

pub bytes_are_loaded : BytesAreLoaded
bytes_are_loaded mem address k bytes within same = load_same mem address k bytes within same

pub flags_allow : FlagsAllow
flags_allow flags flag address k all = allowed_all flags flag address k all

pub flag_is_missing : FlagIsMissing
flag_is_missing flags flag address k j below bad = allowed_bad flags flag address k j below bad

pub word_bytes_make_word : WordBytesMakeWord
unfolding number
word_bytes_make_word n fits = omega arith

fetch-some : (flags : ℕ → ℕ) (t : State) (n : ℕ) → t.pc % 4 ≡ 0 → allowed flags to_execute t.pc 4 ≡ true → load_bytes t.mem t.pc 4 ≡ n
    → fetched flags t ≡ Some n
unfolding fetched
fetch-some flags t n aligned good word = rw (eq-eqb (t.pc % 4) 0 aligned) rw good rw word refl

pub text_is_fetched : TextIsFetched
text_is_fetched e k s n t input written rest sound at unwritable reaches text =
    let contained : IsContained s = contained-at e.segments k s sound at in
    let flags : ℕ → ℕ = flags_of e.segments in
    let has : (j : ℕ) → j < 4 → HasAddress s (t.pc + j) = λ j below. (omega (arith, text.from), omega (arith, text.end, contained.part)) in
    let flag : (j : ℕ) → j < 4 → flags (t.pc + j) ≡ s.flags = λ j below.
    (segment_is_in_memory e.segments k s (t.pc + j) sound at (has j below)).1 in
    fetch-some flags t (number (take 4 (drop (t.pc - s.at) s.bytes))) text.aligned
    (allowed_all flags to_execute t.pc 4 (λ j below. ap (λ f. has_flag f to_execute) (flag j below) ∙ text.executable))
    (load_same t.mem t.pc 4 (drop (t.pc - s.at) s.bytes) (omega (arith, length-drop (t.pc - s.at) s.bytes, text.from, text.end)) (λ j below.
    unwritable_stays flags n (start e) t input written rest reaches (t.pc + j) (ap (λ f. has_flag f to_write) (flag j below) ∙ unwritable)
    ∙ (segment_is_in_memory e.segments k s (t.pc + j) sound at (has j below)).0
    ∙ ap (λ i. get_or s.bytes i 0) (omega (arith, text.from))
    ∙ sym (get_or-drop (t.pc - s.at) s.bytes j 0)))
