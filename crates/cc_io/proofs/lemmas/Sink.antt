-- Pieces appended one after another.
use Rattle.std.proofs.Common.{◌≡◌, ◌≤◌, ℕ, ◌+◌, List, [], ◌++◌, length, take, drop, Option, None, Some, refl, sym, ap, ◌∙◌, append_assoc, append-nil}
use Rattle.std.proofs.lemmas.List.{take-append-le, take-append-drop, drop-drop}
use Rattle.std.proofs.Math.Seq.{take-add}
use Rattle.cc_io.specs.Sink.{append}

-- nothing appended changes nothing
pub append-none : (held : Option (List ℕ)) → append held [] ≡ held
append-none None = refl
append-none (Some held) = ap Some (append-nil held)

-- one piece and then another is both joined
pub append-append : (held : Option (List ℕ)) (first second : List ℕ) → append (append held first) second ≡ append held (first ++ second)
append-append None first second = refl
append-append (Some held) first second = ap Some (append_assoc held first second)

-- the first n of the first k are the first n
take-shorter : (n k : ℕ) (xs : List ℕ) → n ≤ length (take k xs) → take n (take k xs) ≡ take n xs
take-shorter n k xs fits = sym (take-append-le n (take k xs) (drop k xs) fits) ∙ ap (take n) (take-append-drop k xs)

-- the next n bytes after the first `at`
pub append-next : (before now after : Option (List ℕ)) (piece : List ℕ) (at n room : ℕ) → n ≤ length (take room (drop at piece)) → now ≡ append before (take at piece)
    → after ≡ append now (take n (take room (drop at piece))) → after ≡ append before (take (at + n) piece)
append-next before now after piece at n room fits so_far next =
    next ∙ ap (λ bytes. append now bytes) (take-shorter n room (drop at piece) fits) ∙ ap (λ held. append held (take n (drop at piece))) so_far
    ∙ append-append before (take at piece) (take n (drop at piece)) ∙ ap (append before) (sym (take-add at n piece))

-- n more bytes of those that are gathered are handed over
pub append-handed : (before now : Option (List ℕ)) (xs : List ℕ) (sent n : ℕ) → now ≡ append before (take n (drop sent xs))
    → append now (drop (sent + n) xs) ≡ append before (drop sent xs)
append-handed before now xs sent n wrote =
    ap (λ held. append held (drop (sent + n) xs)) wrote
    ∙ append-append before (take n (drop sent xs)) (drop (sent + n) xs)
    ∙ ap (append before) (ap (λ rest. take n (drop sent xs) ++ rest) (sym (drop-drop n sent xs)) ∙ take-append-drop n (drop sent xs))
