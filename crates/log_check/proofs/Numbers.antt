-- Words that are no decimal text of 32 bits.
use Rattle.std.specs.Prelude.{decimal}
use Rattle.std.proofs.Common.{◌≡◌, ◌≢◌, ◌<◌, ◌^◌, ℕ, List, Ok, Err, sym, ap, subst, ◌∙◌, arith}
use Rattle.std.specs.Str.{IsUtf8}
use Rattle.std.specs.Str.Parse.{ParsesUnsigned}
use Rattle.std.proofs.lemmas.Fmt.{parse-decimal, IsAscii-decimal}
use Rattle.std.proofs.lemmas.Str.{IsUtf8-from_ascii}

pub not_text : (word : List ℕ) (n : ℕ) → ¬ (IsUtf8 word) → n < 2 ^ 32 → word ≢ decimal n
not_text word n h small e = h (subst IsUtf8 (sym e) (IsUtf8-from_ascii (decimal n) (IsAscii-decimal n (omega (arith, small)))))

pub not_parsed : {E : Type 0} (word : List ℕ) (n : ℕ) (e : E) → ParsesUnsigned {E = E} 32 10 word (Err e) → n < 2 ^ 32 → word ≢ decimal n
not_parsed {E} word n e h small same =
    let got = parse-decimal {E = E} 32 n word (Err e) small (omega (arith, small)) same h in
    absurd cc

pub not_formatted : (word : List ℕ) (n m : ℕ) → ParsesUnsigned {E = Unit {0}} 32 10 word (Ok m) → decimal m ≢ word → n < 2 ^ 32 → word ≢ decimal n
not_formatted word n m h other small same =
    let got = parse-decimal {E = Unit {0}} 32 n word (Ok m) small (omega (arith, small)) same h in
    let equal : m ≡ n = cc in
    other (ap decimal equal ∙ sym same)
