-- What an argument is, in the terms of the reader of command lines.
use Rattle.std.proofs.Common.{◌≡◌, ◌==◌, Bool, true, false, ℕ, List, [], ◌∷◌, Option, Some, None, refl, sym, subst, arith, eqb-true}
use Rattle.std.specs.Prelude.{slice_get}
use Rattle.std.specs.Str.{bytes_eq, chars, IsUtf8}
use Rattle.std.proofs.lemmas.Str.{IsUtf8-drop, IsCharBoundary-after_ascii, encodes-chars}
use Rattle.std.proofs.Math.Utf8.{encodes}
use Rattle.clap.specs.Lexer.{long_of, short_of}
use Rattle.cc_command.specs.ParsedArguments.{Text, argument_of, positional, option, letters}

pub record IsPositional (w : Text) : Type 0 where
  pub not_end : bytes_eq w (45 ∷ 45 ∷ []) ≡ false
  pub not_long : long_of w ≡ None
  pub not_short : short_of w ≡ None
  pub is : argument_of w ≡ positional

pub record IsOption (w name : Text) (value : Option Text) : Type 0 where
  pub not_end : bytes_eq w (45 ∷ 45 ∷ []) ≡ false
  pub long : long_of w ≡ Some (name, value)
  pub is : argument_of w ≡ option name value

pub record IsLetters (w : Text) (c x : ℕ) (xs : Text) : Type 0 where
  pub not_end : bytes_eq w (45 ∷ 45 ∷ []) ≡ false
  pub not_long : long_of w ≡ None
  pub short : short_of w ≡ Some (x ∷ xs)
  pub first : slice_get (chars (x ∷ xs)) 0 ≡ Some c
  pub is : argument_of w ≡ letters

pub data Class : Text → Type 0 where
  a_positional : (w : Text) → IsPositional w → Class w
  an_end : Class (45 ∷ 45 ∷ [])
  an_option : (w name : Text) (value : Option Text) → IsOption w name value → Class w
  are_letters : (w : Text) (c x : ℕ) (xs : Text) → IsLetters w c x xs → Class w

-- a text that is not empty has a first character
first-of : (cs : List ℕ) (x : ℕ) (xs : Text) → IsUtf8 (x ∷ xs) → chars (x ∷ xs) ≡ cs → (c : ℕ) × (slice_get cs 0 ≡ Some c)
first-of [] x xs u is = absurd (none (subst (λ cs. encodes cs ≡ x ∷ xs) is (encodes-chars (x ∷ xs) u))) where
  none : [] ≡ x ∷ xs → ⊥
  none e = cc
first-of (c ∷ cs) x xs u is = (c, refl)

after-hyphen : (x : ℕ) (xs : Text) → IsUtf8 (45 ∷ x ∷ xs) → IsUtf8 (x ∷ xs)
after-hyphen x xs u = IsUtf8-drop (45 ∷ x ∷ xs) 1 u (IsCharBoundary-after_ascii (45 ∷ x ∷ xs) 0 u (omega arith) (omega arith))

class-letters : (x : ℕ) (xs : Text) → (x == 45) ≡ false → IsUtf8 (45 ∷ x ∷ xs) → Class (45 ∷ x ∷ xs)
class-letters x xs other u =
    let f = first-of (chars (x ∷ xs)) x xs (after-hyphen x xs u) refl in
    are_letters _ f.0 x xs (record { not_end = simp other; not_long = simp other; short = simp other; first = f.1; is = simp other })

class-two : (xs : Text) → Class (45 ∷ 45 ∷ xs)
class-two [] = an_end
class-two (x ∷ xs) = an_option _ _ _ (record { not_end = refl; long = refl; is = refl })

class-hyphen : (xs : Text) → IsUtf8 (45 ∷ xs) → Class (45 ∷ xs)
class-hyphen [] u = a_positional _ (record { not_end = refl; not_long = refl; not_short = refl; is = refl })
class-hyphen (x ∷ xs) u = by_test (x == 45) refl where
  by_test : (b : Bool) → (x == 45) ≡ b → Class (45 ∷ x ∷ xs)
  by_test true is = subst (λ y. Class (45 ∷ y ∷ xs)) (sym (eqb-true x 45 is)) (class-two xs)
  by_test false is = class-letters x xs is u

class-other : (x : ℕ) (xs : Text) → (x == 45) ≡ false → Class (x ∷ xs)
class-other x xs is = a_positional _ (record { not_end = simp is; not_long = simp is; not_short = simp is; is = simp is })

pub class : (w : Text) → IsUtf8 w → Class w
class [] u = a_positional _ (record { not_end = refl; not_long = refl; not_short = refl; is = refl })
class (x ∷ xs) u = by_test (x == 45) refl where
  by_test : (b : Bool) → (x == 45) ≡ b → Class (x ∷ xs)
  by_test true is =
      let e = eqb-true x 45 is in
      subst (λ y. Class (y ∷ xs)) (sym e) (class-hyphen xs (subst (λ y. IsUtf8 (y ∷ xs)) e u))
  by_test false is = class-other x xs is
