-- What holds of a file without a fault.
use Rattle.std.proofs.Common.{◌≡◌, ℕ, ◌+◌, ◌≤◌, Bool, true, false, if◌then◌else◌, List, Option, Some, is_none, length, refl, slice_get, [], ◌∷◌, zero, suc, unwrap_or, sym, ap, ◌∙◌}
use Rattle.std.proofs.lemmas.Bool.{and_parts, ltb-false, leb-true, not-false}
use Rattle.elf_file.specs.Image.{memory_limit}
use Rattle.elf_file.specs.Header.{ProgramHeader}
use Rattle.elf_file.specs.Loading.{fault_of, headers_end, header_count, load_headers, is_contained, are_separate, are_loadable, total_memory}
use Rattle.elf_file.specs.declared.fault.ElfFault.{ElfFault}
use Rattle.elf_file.proofs.LoadingLemmas.{few-headers}

pub record IsSound (b : List ℕ) : Type 0 where
  pub headed : 52 ≤ length b
  pub few : header_count b ≤ 16
  pub whole : headers_end b ≤ length b
  pub separate : are_separate (length b) (load_headers b) ≡ true
  pub memory : total_memory (load_headers b) ≤ memory_limit

if-none : (t : Bool) (f : ElfFault) (rest : Option ElfFault) → is_none (if t then Some f else rest) ≡ true → (t ≡ false) × (is_none rest ≡ true)
if-none true f rest e = cc
if-none false f rest e = (refl, e)

pub is_sound : (b : List ℕ) → is_none (fault_of b) ≡ true → IsSound b
unfolding fault_of are_loadable
is_sound b e =
    let long = if-none _ _ _ e in
    let headed = if-none _ _ _ long.1 in
    let elf = if-none _ _ _ headed.1 in
    let profile = if-none _ _ _ elf.1 in
    let whole = if-none _ _ _ profile.1 in
    let loadable = if-none _ _ _ whole.1 in
    record {
      headed = ltb-false (length b) 52 headed.0;
      few = few-headers b (not-false _ profile.0);
      whole = ltb-false (length b) (headers_end b) whole.0;
      separate = (and_parts _ _ (not-false _ loadable.0)).0;
      memory = leb-true (total_memory (load_headers b)) memory_limit (and_parts _ _ (not-false _ loadable.0)).1;
    }

some-same : (x y : ProgramHeader) → Some x ≡ Some y → x ≡ y
some-same x y e = ap (λ o. unwrap_or o x) e

-- each of several segments that are separate is contained
pub contained-at : (size : ℕ) (hs : List ProgramHeader) (k : ℕ) (h : ProgramHeader) → are_separate size hs ≡ true → slice_get hs k ≡ Some h → is_contained size h ≡ true
unfolding are_separate
contained-at size [] k h e at = cc
contained-at size (x ∷ hs) zero h e at = ap (is_contained size) (sym (some-same x h at)) ∙ (and_parts _ _ (and_parts _ _ e).0).0
contained-at size (x ∷ hs) (suc k) h e at = contained-at size hs k h (and_parts _ _ e).1 at

pub within-file : (size : ℕ) (h : ProgramHeader) → is_contained size h ≡ true → h.offset + h.file_size ≤ size
unfolding is_contained
within-file size h e = leb-true (h.offset + h.file_size) size (and_parts _ _ (and_parts _ _ e).0).1
