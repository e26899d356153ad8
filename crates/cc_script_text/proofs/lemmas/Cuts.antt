-- Bytes that are cut at the first of a byte.
use Rattle.std.proofs.Common.{◌≡◌, ◌≢◌, ◌<◌, ◌+◌, ℕ, zero, suc, Bool, true, false, List, [], ◌∷◌, ◌++◌, length, take, drop, get_or, Option, None, Some, cond, eqb, refl, sym, ap, subst, ◌∙◌, append-nil, arith}
use Rattle.std.specs.Prelude.{option_map}
use Rattle.std.specs.List.{AllByRecursion}
use Rattle.std.proofs.lemmas.Bool.{eqb-true, eqb-false, eq-eqb, ne_eqb}
use Rattle.cc_script_text.specs.Script.{cut}

abbrev pub HasNo : (byte : ℕ) → List ℕ → Type 0
HasNo byte bytes = AllByRecursion (λ b. b ≢ byte) bytes

pub has_no_append : (byte : ℕ) (xs ys : List ℕ) → HasNo byte xs → HasNo byte ys → HasNo byte (xs ++ ys)
has_no_append byte [] ys h g = g
has_no_append byte (x ∷ xs) ys h g = (h.0, has_no_append byte xs ys h.1 g)

-- ---- the parts of a cut

abbrev pub IsCut : (byte : ℕ) → List ℕ → Option (List ℕ × List ℕ) → Type 0
IsCut byte bytes None = HasNo byte bytes
IsCut byte bytes (Some parts) = (bytes ≡ parts.0 ++ (byte ∷ parts.1)) × HasNo byte parts.0

-- a cut after one more byte
abbrev after : ℕ → Option (List ℕ × List ℕ) → Option (List ℕ × List ℕ)
after b o = option_map (λ parts. (b ∷ parts.0, parts.1)) o

cut-more : (byte b : ℕ) (bytes : List ℕ) (o : Option (List ℕ × List ℕ)) → b ≢ byte → IsCut byte bytes o → IsCut byte (b ∷ bytes) (after b o)
cut-more byte b bytes None other h = (other, h)
cut-more byte b bytes (Some parts) other h = (ap (λ t. b ∷ t) h.0, (other, h.1))

cut-by : (byte b : ℕ) (bytes : List ℕ) (t : Bool) → t ≡ eqb b byte → IsCut byte bytes (cut byte bytes) →
    IsCut byte (b ∷ bytes) (cond t (Some ([], bytes)) (after b (cut byte bytes)))
cut-by byte b bytes true e h = (ap (λ c. c ∷ bytes) (eqb-true b byte (sym e)), tt)
cut-by byte b bytes false e h = cut-more byte b bytes (cut byte bytes) (eqb-false b byte (sym e)) h

pub cut_is : (byte : ℕ) (bytes : List ℕ) → IsCut byte bytes (cut byte bytes)
cut_is byte [] = tt
cut_is byte (b ∷ bytes) = cut-by byte b bytes (eqb b byte) refl (cut_is byte bytes)

pub has_no_of : (byte : ℕ) (bytes : List ℕ) → cut byte bytes ≡ None → HasNo byte bytes
has_no_of byte bytes e = subst (IsCut byte bytes) e (cut_is byte bytes)

-- ---- bytes that follow

twice : (b : ℕ) (bs : List ℕ) (o : Option (List ℕ × List ℕ)) →
    after b (option_map (λ parts. (bs ++ parts.0, parts.1)) o) ≡ option_map (λ parts. ((b ∷ bs) ++ parts.0, parts.1)) o
twice b bs None = refl
twice b bs (Some parts) = refl

same : (o : Option (List ℕ × List ℕ)) → o ≡ option_map (λ parts. ([] ++ parts.0, parts.1)) o
same None = refl
same (Some parts) = refl

pub cut_further : (byte : ℕ) (xs ys : List ℕ) → HasNo byte xs → cut byte (xs ++ ys) ≡ option_map (λ parts. (xs ++ parts.0, parts.1)) (cut byte ys)
cut_further byte [] ys h = same (cut byte ys)
cut_further byte (x ∷ xs) ys h =
    ap (λ t. cond t (Some ([], xs ++ ys)) (after x (cut byte (xs ++ ys)))) (ne_eqb x byte h.0)
    ∙ (ap (after x) (cut_further byte xs ys h.1) ∙ twice x xs (cut byte ys))

cut-here : (byte : ℕ) (ys : List ℕ) → cut byte (byte ∷ ys) ≡ Some ([], ys)
cut-here byte ys = ap (λ t. cond t (Some ([], ys)) (after byte (cut byte ys))) (eq-eqb byte byte refl)

pub cut_line : (byte : ℕ) (xs ys : List ℕ) → HasNo byte xs → cut byte (xs ++ (byte ∷ ys)) ≡ Some (xs, ys)
cut_line byte xs ys h =
    cut_further byte xs (byte ∷ ys) h
    ∙ (ap (option_map (λ parts. (xs ++ parts.0, parts.1))) (cut-here byte ys) ∙ ap (λ t. Some (t, ys)) (append-nil xs))

pub cut_none : (byte : ℕ) (xs : List ℕ) → HasNo byte xs → cut byte xs ≡ None
cut_none byte xs h = ap (cut byte) (sym (append-nil xs)) ∙ cut_further byte xs [] h

pub cut_push : (byte : ℕ) (xs : List ℕ) (b : ℕ) → cut byte xs ≡ None → b ≢ byte → cut byte (xs ++ b ∷ []) ≡ None
cut_push byte xs b e other = cut_none byte (xs ++ b ∷ []) (has_no_append byte xs (b ∷ []) (has_no_of byte xs e) (other, tt))

-- ---- a cut by index

pub cut_at : (byte : ℕ) (bytes : List ℕ) (i : ℕ) → i < length bytes → ((k : ℕ) → k < i → get_or bytes k 0 ≢ byte) → get_or bytes i 0 ≡ byte →
    cut byte bytes ≡ Some (take i bytes, drop (i + 1) bytes)
cut_at byte [] i low before here = absurd (omega (arith, low))
cut_at byte (b ∷ bytes) zero low before here = ap (λ c. cut c (b ∷ bytes)) (sym here) ∙ cut-here b bytes
cut_at byte (b ∷ bytes) (suc i) low before here =
    ap (λ t. cond t (Some ([], bytes)) (after b (cut byte bytes))) (ne_eqb b byte (before 0 (omega arith)))
    ∙ (ap (after b) (cut_at byte bytes i (omega (arith, low)) (λ k h. before (suc k) (omega (arith, h))) here)
    ∙ (let one : suc (i + 1) ≡ suc i + 1 = omega arith in ap (λ n. Some (b ∷ take i bytes, drop n (b ∷ bytes))) one))

pub cut_nowhere : (byte : ℕ) (bytes : List ℕ) → ((k : ℕ) → k < length bytes → get_or bytes k 0 ≢ byte) → cut byte bytes ≡ None
cut_nowhere byte [] before = refl
cut_nowhere byte (b ∷ bytes) before =
    ap (λ t. cond t (Some ([], bytes)) (after b (cut byte bytes))) (ne_eqb b byte (before 0 (omega arith)))
    ∙ ap (after b) (cut_nowhere byte bytes (λ k h. before (suc k) (omega (arith, h))))
