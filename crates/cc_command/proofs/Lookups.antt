-- The arguments of a form as the reader of command lines builds them, and what it finds among them.
use Rattle.std.proofs.Common.{◌≡◌, ◌≢◌, ◌==◌, ◌+◌, ◌<◌, ◌||◌, ◌++◌, ◌⊎◌, inl, inr, Bool, true, false, ℕ, List, [], ◌∷◌, Option, Some, None, codes, refl, sym, ap, subst, ◌∙◌, length, min, arith, eq-eqb, ne_eqb}
use Rattle.std.specs.Prelude.{if◌then◌else◌, option_map}
use Rattle.std.specs.List.{list_any}
use Rattle.std.specs.Str.{bytes_eq}
use Rattle.std.proofs.lemmas.Bool.{false≢true}
use Rattle.std.proofs.lemmas.Slice.Eq.{bytes_eq-Decides}
use Rattle.clap.specs.Walk.{Rule, arg_by_id, arg_by_index, arg_by_long, arg_by_short}
use Rattle.clap.specs.Simple.{filled, filled_from, help_rule, with_index}
use Rattle.clap.specs.Lexer.{usize_max}
use Rattle.cc_command.specs.ParsedArguments.{Text}
use Rattle.cc_command.specs.Forms.{Positional, OptionForm, option_names}
use Rattle.cc_command.specs.Arguments.{required, option as option_rule, rules_of}

pub same-bytes : (xs ys : Text) → bytes_eq xs ys ≡ true → xs ≡ ys
same-bytes xs ys is = (bytes_eq-Decides xs ys).0 is

pub bytes-refl : (xs : Text) → bytes_eq xs xs ≡ true
bytes-refl xs = (bytes_eq-Decides xs xs).1 refl

pub bytes-sym : (xs ys : Text) → bytes_eq xs ys ≡ bytes_eq ys xs
bytes-sym xs ys = by_test (bytes_eq xs ys) (bytes_eq ys xs) refl refl where
  by_test : (a b : Bool) → bytes_eq xs ys ≡ a → bytes_eq ys xs ≡ b → bytes_eq xs ys ≡ bytes_eq ys xs
  by_test true b is same = is ∙ sym (subst (λ zs. bytes_eq ys zs ≡ true) (sym (same-bytes xs ys is)) (bytes-refl ys))
  by_test false false is same = is ∙ sym same
  by_test false true is same = absurd (false≢true (sym is ∙ subst (λ zs. bytes_eq xs zs ≡ true) (sym (same-bytes ys xs same)) (bytes-refl xs)))

-- ---- the arguments as they are built

abbrev pub positional_rule : ℕ → Text → Rule
positional_rule i name = with_index i (filled (required name))

abbrev pub named_rule : Text → Rule
named_rule name = with_index 0 (filled (option_rule name))

abbrev pub help : Rule
help = with_index 0 (filled help_rule)

-- those of a form, whose first positional argument has the index i
abbrev pub rules_from : ℕ → List Positional → List OptionForm → List Rule
rules_from i ps os = filled_from i (rules_of ps os ++ help_rule ∷ [])

-- the argument that asks for help, or none
abbrev pub IsHelpOrNone : Option Rule → Type 0
IsHelpOrNone found = (found ≡ None) ⊎ (found ≡ Some help)

pub either : (b : Bool) (found : Option Rule) → found ≡ (if b then Some help else None) → IsHelpOrNone found
either true found is = inr is
either false found is = inl is

-- ---- by a letter

pub short-options : (i : ℕ) (os : List OptionForm) (c : ℕ) → IsHelpOrNone (arg_by_short (rules_from i [] os) c)
short-options i [] c = either (104 == c || false) (arg_by_short (rules_from i [] []) c) refl
short-options i (o ∷ os) c = short-options i os c

pub short-found : (i : ℕ) (ps : List Positional) (os : List OptionForm) (c : ℕ) → IsHelpOrNone (arg_by_short (rules_from i ps os) c)
short-found i [] os c = short-options i os c
short-found i (p ∷ ps) os c = short-found (min (i + 1) usize_max) ps os c

-- ---- by a name

-- the command knows an option of this name
abbrev pub is_known : List OptionForm → Text → Bool
is_known os name = list_any (λ k. bytes_eq k name) (option_names os)

abbrev pub LongFound : Bool → Text → Option Rule → Type 0
LongFound true name found = found ≡ Some (named_rule name)
LongFound false name found = IsHelpOrNone found

pub long-options : (i : ℕ) (os : List OptionForm) (name : Text) → LongFound (is_known os name) name (arg_by_long (rules_from i [] os) name)
long-options i [] name = either (bytes_eq (codes "help") name || false) (arg_by_long (rules_from i [] []) name) refl
long-options i (o ∷ os) name = by_test (long-options i os name) (bytes_eq o.name name) refl where
  by_test : LongFound (is_known os name) name (arg_by_long (rules_from i [] os) name) → (b : Bool) → bytes_eq o.name name ≡ b →
      LongFound (is_known (o ∷ os) name) name (arg_by_long (rules_from i [] (o ∷ os)) name)
  by_test rest true is = rw is (ap (λ n. Some (named_rule n)) (same-bytes o.name name is))
  by_test rest false is = rw is rest

pub long-found : (i : ℕ) (ps : List Positional) (os : List OptionForm) (name : Text) → LongFound (is_known os name) name (arg_by_long (rules_from i ps os) name)
long-found i [] os name = long-options i os name
long-found i (p ∷ ps) os name = long-found (min (i + 1) usize_max) ps os name

-- ---- by an index

-- the required argument after those that have a value
abbrev pub next_of : List Positional → List Text → Option Text
next_of [] xs = None
next_of (p ∷ ps) [] = Some p.name
next_of (p ∷ ps) (a ∷ xs) = next_of ps xs

pub index-options : (i : ℕ) (os : List OptionForm) (k : ℕ) → arg_by_index (rules_from i [] os) k ≡ None
index-options i [] k = refl
index-options i (o ∷ os) k = index-options i os k

pub index-found : (i : ℕ) (ps : List Positional) (os : List OptionForm) (xs : List Text) (k : ℕ) → k ≡ i + length xs → i + length ps < 1000 →
    arg_by_index (rules_from i ps os) k ≡ option_map (positional_rule k) (next_of ps xs)
index-found i [] os xs k at few = index-options i os k
index-found i (p ∷ ps) os [] k at few =
    let same : i ≡ k = omega arith in
    let found : (i == k) ≡ true = eq-eqb i k same in
    rw found (ap (λ j. Some (positional_rule j p.name)) same)
index-found i (p ∷ ps) os (a ∷ xs) k at few =
    let differ : i ≢ k = omega (arith, at) in
    let other : (i == k) ≡ false = ne_eqb i k differ in
    let next : min (i + 1) usize_max ≡ i + 1 = omega arith in
    rw (other, next) (index-found (i + 1) ps os xs k (omega arith) (omega arith))

-- ---- by the name of its value

-- an argument of one value
pub data TakesOne (name : Text) : Rule → Type 0 where
  by_index : (i : ℕ) → TakesOne name (positional_rule i name)
  by_name : TakesOne name (named_rule name)

abbrev pub Found : List Rule → Text → Type 0
Found c name = (a : Rule) × (arg_by_id c name ≡ Some a) × TakesOne name a

abbrev pub is_positional : List Positional → Text → Bool
is_positional ps name = list_any (λ p. bytes_eq p.name name) ps

pub id-options : (i : ℕ) (os : List OptionForm) (name : Text) → is_known os name ≡ true → Found (rules_from i [] os) name
id-options i [] name known = absurd (false≢true known)
id-options i (o ∷ os) name known = by_test (id-options i os name) (bytes_eq o.name name) refl known where
  by_test : (is_known os name ≡ true → Found (rules_from i [] os) name) → (b : Bool) → bytes_eq o.name name ≡ b → is_known (o ∷ os) name ≡ true → Found (rules_from i [] (o ∷ os)) name
  by_test rest true is known = (named_rule name, rw is (ap (λ n. Some (named_rule n)) (same-bytes o.name name is)), by_name)
  by_test rest false is known = rw is (rest (rw is at known))

pub id-found : (i : ℕ) (ps : List Positional) (os : List OptionForm) (name : Text) → (is_positional ps name || is_known os name) ≡ true → Found (rules_from i ps os) name
id-found i [] os name known = id-options i os name known
id-found i (p ∷ ps) os name known = by_test (id-found (min (i + 1) usize_max) ps os name) (bytes_eq p.name name) refl known where
  by_test : ((is_positional ps name || is_known os name) ≡ true → Found (rules_from (min (i + 1) usize_max) ps os) name) → (b : Bool) → bytes_eq p.name name ≡ b →
      (is_positional (p ∷ ps) name || is_known os name) ≡ true → Found (rules_from i (p ∷ ps) os) name
  by_test rest true is known = (positional_rule i name, rw is (ap (λ n. Some (positional_rule i n)) (same-bytes p.name name is)), by_index i)
  by_test rest false is known = rw is (rest (rw is at known))
