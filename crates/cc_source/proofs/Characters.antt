-- The characters between quotes are bytes.
use Rattle.std.proofs.Common.{◌≡◌, ℕ, zero, suc, ◌+◌, ◌-◌, ◌^◌, ◌<◌, Bool, true, false, List, [], ◌∷◌, take, refl, subst, arith}
use Rattle.std.specs.Prelude.{All, nat_lt, ◌==◌, Option, Some, None, if◌then◌else◌}
use Rattle.std.specs.List.{prefix_len}
use Rattle.std.specs.Option.{option_map, option_and_then}
use Rattle.std.proofs.lemmas.Bool.Decides.{nat_tests}
use Rattle.std.proofs.lemmas.List.Elements.{All-nil, All-cons, All-head, All-tail}
use Rattle.c_lex.specs.Digits.{is_digit_in, digits_value}
use Rattle.c_lex.specs.Quoted.{simple_escape, digits_escape, escape_at, character_at, with_first, characters}

abbrev IsByte : ℕ → Type 0
IsByte b = b < 2 ^ 8

-- ---- one character

-- A byte, if there is one, with a length.
abbrev GivesByte : Option ℕ → Type 0
GivesByte o = (b : ℕ) → o ≡ Some b → IsByte b

abbrev GivesByteAndLength : Option (ℕ × ℕ) → Type 0
GivesByteAndLength o = (e : ℕ × ℕ) → o ≡ Some e → IsByte e.0

or_byte : (t : Bool) (b : ℕ) (o : Option ℕ) → IsByte b → GivesByte o → GivesByte (if t then Some b else o)
or_byte true b o first others c h = let same : b ≡ c = cc in subst IsByte same first
or_byte false b o first others c h = others c h

no_byte : GivesByte None
no_byte b h = absurd cc

simple_bytes : (b : ℕ) → GivesByte (simple_escape b)
unfolding simple_escape
simple_bytes b =
    or_byte (b == 110) 10 _ (omega arith)
    (or_byte (b == 116) 9 _ (omega arith)
    (or_byte (b == 114) 13 _ (omega arith)
    (or_byte (b == 97) 7 _ (omega arith)
    (or_byte (b == 98) 8 _ (omega arith)
    (or_byte (b == 102) 12 _ (omega arith)
    (or_byte (b == 118) 11 _ (omega arith)
    (or_byte (b == 92) 92 _ (omega arith)
    (or_byte (b == 39) 39 _ (omega arith)
    (or_byte (b == 34) 34 _ (omega arith)
    (or_byte (b == 63) 63 None (omega arith) no_byte))))))))))

by_test : (t : Bool) (a b : Option (ℕ × ℕ)) → (t ≡ true → GivesByteAndLength a) → (t ≡ false → GivesByteAndLength b) → GivesByteAndLength (if t then a else b)
by_test true a b first second = first refl
by_test false a b first second = second refl

none : GivesByteAndLength None
none e h = absurd cc

one : (b n : ℕ) → IsByte b → GivesByteAndLength (Some (b, n))
one b n byte e h = let same : (b, n) ≡ e = cc in subst (λ (x : ℕ × ℕ). IsByte x.0) same byte

with_length : (o : Option ℕ) → GivesByte o → GivesByteAndLength (option_map (λ v. (v, 1)) o)
with_length None byte = none
with_length (Some b) byte = one b 1 (byte b refl)

longer : (o : Option (ℕ × ℕ)) → GivesByteAndLength o → GivesByteAndLength (option_map (λ e. (e.0, e.1 + 1)) o)
longer None byte = none
longer (Some e) byte = one e.0 (e.1 + 1) (byte e refl)

digits_bytes : (base bytes : ℕ) (digits : List ℕ) → GivesByteAndLength (digits_escape base bytes digits)
digits_bytes base bytes digits =
    by_test (nat_lt 255 (digits_value base digits)) None _ (λ is. none)
    (λ is. one (digits_value base digits) bytes (grind (arith, nat_tests, is)))

escape_bytes : (bs : List ℕ) → GivesByteAndLength (escape_at bs)
unfolding escape_at
escape_bytes [] = none
escape_bytes (b ∷ bs) =
    let n = prefix_len (is_digit_in 16) bs in
    by_test (is_digit_in 8 b) _ _ (λ is. digits_bytes 8 (prefix_len (is_digit_in 8) (take 3 (b ∷ bs))) (take (prefix_len (is_digit_in 8) (take 3 (b ∷ bs))) (b ∷ bs)))
    (λ is. by_test (b == 120) _ _ (λ is. by_test (n == 0) None _ (λ is. none) (λ is. digits_bytes 16 (n + 1) (take n bs)))
    (λ is. with_length (simple_escape b) (simple_bytes b)))

character_bytes : (bs : List ℕ) → All IsByte bs → GivesByteAndLength (character_at bs)
unfolding character_at
character_bytes [] all = none
character_bytes (b ∷ bs) all =
    by_test (b == 92) _ _ (λ is. longer (escape_at bs) (escape_bytes bs)) (λ is. one b 1 (All-head IsByte b bs all))

-- ---- all of them

-- Bytes, if there are some.
abbrev GivesBytes : Option (List ℕ) → Type 0
GivesBytes o = (cs : List ℕ) → o ≡ Some cs → All IsByte cs

first_and_others : (c : ℕ) (o : Option (List ℕ)) → IsByte c → GivesBytes o → GivesBytes (with_first c o)
first_and_others c None byte others cs h = absurd cc
first_and_others c (Some rest) byte others cs h =
    let same : c ∷ rest ≡ cs = cc in
    subst (All IsByte) same (All-cons IsByte c rest byte (others rest refl))

by_character : (o : Option (ℕ × ℕ)) (f : ℕ × ℕ → Option (List ℕ)) → GivesByteAndLength o → ((e : ℕ × ℕ) → IsByte e.0 → GivesBytes (f e)) → GivesBytes (option_and_then f o)
by_character None f byte each cs h = absurd cc
by_character (Some e) f byte each cs h = each e (byte e refl) cs h

pub characters_bytes : (skip : ℕ) (bs : List ℕ) → All IsByte bs → GivesBytes (characters skip bs)
characters_bytes skip [] all cs h = let same : [] ≡ cs = cc in subst (All IsByte) same (All-nil IsByte)
characters_bytes (suc skip) (b ∷ bs) all cs h = characters_bytes skip bs (All-tail IsByte b bs all) cs h
characters_bytes zero (b ∷ bs) all cs h =
    by_character (character_at (b ∷ bs)) (λ c. with_first c.0 (characters (c.1 - 1) bs)) (character_bytes (b ∷ bs) all)
    (λ c byte. first_and_others c.0 (characters (c.1 - 1) bs) byte (characters_bytes (c.1 - 1) bs (All-tail IsByte b bs all))) cs h
