-- Texts that are split at the first of a byte, and texts without one.
use Rattle.std.specs.Prelude.{codes, decimal, slice_index}
use Rattle.std.proofs.Common.{◌≡◌, ◌≢◌, ◌<◌, ◌≤◌, ◌+◌, ◌%◌, ◌^◌, ℕ, zero, suc, Bool, true, false, ◌&&◌, ◌||◌, List, [], ◌∷◌, ◌++◌, length, take, drop, refl, sym, ap, ◌∙◌, arith}
use Rattle.std.specs.List.{list_all, AllByRecursion}
use Rattle.std.specs.Str.{bytes_eq}
use Rattle.std.proofs.lemmas.Fmt.{decimal_by_steps}
use Rattle.std.proofs.lemmas.Slice.Eq.{bytes_eq-Decides}
use Rattle.c_lex.specs.Classes.{is_digit, is_name_byte}
use Rattle.c_lex.specs.Grammar.{IsIdentifier}
use Rattle.r_rule.specs.declared.steps.Rule.{Rule}
use Rattle.r_rule.specs.declared.steps.Rule.TheVariants.{Fold, Cne, Dne, Inv, Push, Pull, Invert, Unroll, Inline}
use Rattle.r_rule.specs.Names.{rule_name}
use Rattle.log_check.specs.Pieces.{HasNo}

-- ---- texts without a byte

pub none_before : (byte : ℕ) (text : List ℕ) (i : ℕ) → ((k : ℕ) → k < i → slice_index text k ≢ byte) → i ≤ length text → HasNo byte (take i text)
none_before byte text zero h low = tt
none_before byte [] (suc i) h low = absurd (omega (arith, low))
none_before byte (b ∷ text) (suc i) h low = (h 0 (omega arith), none_before byte text i (λ k g. h (suc k) (omega (arith, g))) (omega (arith, low)))

pub none_at_all : (byte : ℕ) (text : List ℕ) → ((k : ℕ) → k < length text → slice_index text k ≢ byte) → HasNo byte text
none_at_all byte [] h = tt
none_at_all byte (b ∷ text) h = (h 0 (omega arith), none_at_all byte text (λ k g. h (suc k) (omega (arith, g))))

pub has_no_append : (byte : ℕ) (xs ys : List ℕ) → HasNo byte xs → HasNo byte ys → HasNo byte (xs ++ ys)
has_no_append byte [] ys h g = g
has_no_append byte (x ∷ xs) ys h g = (h.0, has_no_append byte xs ys h.1 g)

pub parts_at : (text : List ℕ) (i byte : ℕ) → i < length text → slice_index text i ≡ byte → text ≡ take i text ++ (byte ∷ drop (i + 1) text)
parts_at [] i byte low e = absurd (omega (arith, low))
parts_at (b ∷ text) zero byte low e = ap (λ x. x ∷ text) e
parts_at (b ∷ text) (suc i) byte low e =
    ap (λ t. b ∷ t) (parts_at text i byte (omega (arith, low)) e)
    ∙ (let one : suc (i + 1) ≡ suc i + 1 = omega arith in ap (λ n. b ∷ (take i text ++ (byte ∷ drop n (b ∷ text)))) one)

pub not_same : (xs ys : List ℕ) → false ≡ bytes_eq xs ys → xs ≢ ys
not_same xs ys e same = let clash : true ≡ false = sym ((bytes_eq-Decides xs ys).1 same) ∙ sym e in absurd cc

-- a text that has the byte has it
pub has_one : (byte : ℕ) (xs ys : List ℕ) → HasNo byte (xs ++ (byte ∷ ys)) → ⊥
has_one byte [] ys h = h.0 refl
has_one byte (x ∷ xs) ys h = has_one byte xs ys h.1

-- a text is split at the first of a byte in one way
head_is : ℕ → List ℕ → ℕ
head_is d [] = d
head_is d (x ∷ xs) = x

tail_is : List ℕ → List ℕ
tail_is [] = []
tail_is (x ∷ xs) = xs

pub split_once : (byte : ℕ) (xs ys cs ds : List ℕ) → HasNo byte xs → HasNo byte ys → xs ++ (byte ∷ cs) ≡ ys ++ (byte ∷ ds) → (xs ≡ ys) × (cs ≡ ds)
unfolding head_is tail_is
split_once byte [] [] cs ds h g e = (refl, ap tail_is e)
split_once byte [] (y ∷ ys) cs ds h g e = absurd (g.0 (sym (ap (head_is 0) e)))
split_once byte (x ∷ xs) [] cs ds h g e = absurd (h.0 (ap (head_is 0) e))
split_once byte (x ∷ xs) (y ∷ ys) cs ds h g e =
    let rest = split_once byte xs ys cs ds h.1 g.1 (ap tail_is e) in
    (ap (λ z. z ∷ xs) (ap (head_is 0) e) ∙ ap (λ zs. y ∷ zs) rest.0, rest.1)

-- ---- words

pub decimal_has_no : (byte n : ℕ) → byte < 48 → n < 2 ^ 32 → HasNo byte (decimal n)
decimal_has_no byte n low small =
    decimal_by_steps (λ m ds. HasNo byte ds) (λ m h. ((λ e. omega (arith, e, low)), tt))
    (λ m ds ten h. has_no_append byte ds ((48 + m % 10) ∷ []) h ((λ e. omega (arith, e, low)), tt)) n (omega (arith, small))

both : (a b : Bool) → (a && b) ≡ true → (a ≡ true) × (b ≡ true)
both true b e = (refl, e)
both false b e = absurd cc

names_have_no : (byte : ℕ) → is_name_byte byte ≡ false → (bs : List ℕ) → list_all is_name_byte bs ≡ true → HasNo byte bs
names_have_no byte h [] e = tt
names_have_no byte h (b ∷ bs) e =
    let parts = both (is_name_byte b) (list_all is_name_byte bs) e in
    ((λ same. let clash : true ≡ false = sym parts.0 ∙ (ap is_name_byte same ∙ h) in absurd cc), names_have_no byte h bs parts.1)

pub name_has_no : (byte : ℕ) → is_name_byte byte ≡ false → (name : List ℕ) → IsIdentifier name → HasNo byte name
name_has_no byte h [] e = absurd e
name_has_no byte h (b ∷ bs) e =
    let letter : is_name_byte b ≡ true = ap (λ x. x || is_digit b) e.0 in
    ((λ same. let clash : true ≡ false = sym letter ∙ (ap is_name_byte same ∙ h) in absurd cc), names_have_no byte h bs e.1)

-- no byte of these is below 48
abbrev AreHigh : List ℕ → Type 0
AreHigh text = AllByRecursion (λ b. 48 ≤ b) text

high_has_no : (byte : ℕ) → byte < 48 → (text : List ℕ) → AreHigh text → HasNo byte text
high_has_no byte low [] h = tt
high_has_no byte low (b ∷ text) h = ((λ e. omega (arith, e, low, h.0)), high_has_no byte low text h.1)

rule_is_high : (r : Rule) → AreHigh (rule_name r)
rule_is_high Fold = (omega arith, (omega arith, (omega arith, (omega arith, tt))))
rule_is_high Cne = (omega arith, (omega arith, (omega arith, tt)))
rule_is_high Dne = (omega arith, (omega arith, (omega arith, tt)))
rule_is_high Inv = (omega arith, (omega arith, (omega arith, tt)))
rule_is_high Push = (omega arith, (omega arith, (omega arith, tt)))
rule_is_high Pull = (omega arith, (omega arith, (omega arith, tt)))
rule_is_high Invert = (omega arith, (omega arith, (omega arith, tt)))
rule_is_high Unroll = (omega arith, (omega arith, (omega arith, tt)))
rule_is_high Inline = (omega arith, (omega arith, (omega arith, tt)))

pub rule_has_no : (byte : ℕ) → byte < 48 → (r : Rule) → HasNo byte (rule_name r)
rule_has_no byte low r = high_has_no byte low (rule_name r) (rule_is_high r)

function_is_high : AreHigh (codes "function")
function_is_high =
    (omega arith, (omega arith, (omega arith, (omega arith, (omega arith, (omega arith, (omega arith, (omega arith, tt))))))))

pub function_has_no : (byte : ℕ) → byte < 48 → HasNo byte (codes "function")
function_has_no byte low = high_has_no byte low (codes "function") function_is_high
