-- The value of a constant is a word.
use Rattle.std.proofs.Common.{◌≡◌, ℕ, ◌^◌, ◌<◌, Bool, true, false, List, take, drop, refl, arith}
use Rattle.std.specs.Prelude.{nat_eq, nat_lt, ◌==◌, ◌&&◌, ◌||◌, not, Result, Ok, Err, codes, if◌then◌else◌}
use Rattle.std.specs.List.{starts_with, prefix_len}
use Rattle.std.specs.Option.{ok_or}
use Rattle.std.proofs.lemmas.Bool.Decides.{nat_tests}
use Rattle.c_lex.specs.Results.{◌>>=◌}
use Rattle.c_lex.specs.Digits.{is_digit_in, digits_value}
use Rattle.c_lex.specs.Numbers.{suffix, typed, digits_at, constant_at}
use Rattle.c_lex.specs.declared.fault.LexFault.{LexFault}
use Rattle.c_lex.specs.declared.fault.LexFault.TheVariants.{TooWide, BadNumber}
use Rattle.c_lex.specs.declared.token.TokenKind.{TokenKind}
use Rattle.c_lex.specs.declared.token.TokenKind.TheVariants as kind

-- If this gives a number, its value is a word.
abbrev GivesWord : Result TokenKind LexFault → Type 0
GivesWord r = (value : ℕ) (unsigned : Bool) → r ≡ Ok (kind.Number value unsigned) → value < 2 ^ 32

by_test : (t : Bool) (a b : Result TokenKind LexFault) → GivesWord a → GivesWord b → GivesWord (if t then a else b)
by_test true a b first second = first
by_test false a b first second = second

by_fault : (e : LexFault) → GivesWord (Err e)
by_fault e value unsigned h = absurd cc

by_steps : {A : Type 0} (r : Result A LexFault) (f : A → Result TokenKind LexFault) → ((x : A) → GivesWord (f x)) → GivesWord (r >>= f)
by_steps (Ok x) f each = each x
by_steps (Err e) f each = by_fault e

typed_words : (base at v : ℕ) (u : Bool) → GivesWord (typed base at v u)
typed_words base at v u = by_width (nat_lt 4294967295 v) refl (base == 10 && not u && nat_lt 2147483647 v)
  where
    by_width : (wide : Bool) → nat_lt 4294967295 v ≡ wide → (signed : Bool) → GivesWord (if wide || signed then Err (TooWide at) else Ok (kind.Number v (u || nat_lt 2147483647 v)))
    by_width true is signed value unsigned h = absurd cc
    by_width false is true value unsigned h = absurd cc
    by_width false is false value unsigned h = let same : v ≡ value = cc in grind (arith, nat_tests, is, same)

digits_words : (base at : ℕ) (text : List ℕ) → GivesWord (digits_at base at text)
unfolding digits_at
digits_words base at text =
    let n = prefix_len (is_digit_in base) text in
    by_test (n == 0) (Err (BadNumber at)) _ (by_fault (BadNumber at))
    (by_steps (ok_or (suffix (drop n text)) (BadNumber at)) (typed base at (digits_value base (take n text))) (typed_words base at (digits_value base (take n text))))

pub constant_words : (at : ℕ) (run : List ℕ) → GivesWord (constant_at at run)
unfolding constant_at
constant_words at run =
    by_test (starts_with nat_eq run (codes "0x") || starts_with nat_eq run (codes "0X")) (digits_at 16 at (drop 2 run)) _ (digits_words 16 at (drop 2 run))
    (by_test (starts_with nat_eq run (codes "0")) (digits_at 8 at run) (digits_at 10 at run) (digits_words 8 at run) (digits_words 10 at run))
