-- The rows of the values that were read.
use Rattle.std.proofs.Common.{◌≡◌, ◌++◌, Bool, true, false, List, [], ◌∷◌, Option, Some, None, refl, sym, ap, ◌∙◌, append-nil}
use Rattle.std.specs.Prelude.{is_some}
use Rattle.std.specs.Str.{bytes_eq}
use Rattle.std.proofs.lemmas.Bool.{false≢true}
use Rattle.clap.specs.Walk.{Row, at_row, first_of, has_row, more_values, with_values, without}
use Rattle.clap.specs.Takes.{is_given}
use Rattle.clap.specs.declared.builder.value_parser.Reading.TheVariants.{AsWritten}
use Rattle.clap.specs.declared.parser.matches.ValueSource.TheVariants.{CommandLine}
use Rattle.cc_command.specs.ParsedArguments.{Text, values_of}
use Rattle.cc_command.proofs.Lookups.{bytes-sym}

-- a name with its value
abbrev pub row_for : Text × Text → Row
row_for q = record { id = q.0; values = q.1 ∷ []; count = None; source = Some CommandLine; reading = AsWritten }

abbrev pub rows_for : List (Text × Text) → List Row
rows_for [] = []
rows_for (q ∷ rest) = row_for q ∷ rows_for rest

pub rows_for-append : (a b : List (Text × Text)) → rows_for (a ++ b) ≡ rows_for a ++ rows_for b
rows_for-append [] b = refl
rows_for-append (q ∷ a) b = ap (λ rs. row_for q ∷ rs) (rows_for-append a b)

pub values_of-append : (name : Text) (a b : List (Text × Text)) → values_of name (a ++ b) ≡ values_of name a ++ values_of name b
values_of-append name [] b = refl
values_of-append name (q ∷ a) b = by_test (bytes_eq name q.0) refl (values_of-append name a b) where
  by_test : (t : Bool) → bytes_eq name q.0 ≡ t → values_of name (a ++ b) ≡ values_of name a ++ values_of name b → values_of name (q ∷ (a ++ b)) ≡ values_of name (q ∷ a) ++ values_of name b
  by_test true is rest = rw is (ap (λ vs. q.1 ∷ vs) rest)
  by_test false is rest = rw is rest

abbrev pub first : List Text → Option Text
first [] = None
first (v ∷ vs) = Some v

-- what the rows say of a name
pub record Says (name : Text) (rows : List Row) (values : List Text) : Type 0 where
  pub value : first_of name rows ≡ first values
  pub row : has_row name rows ≡ is_some (first values)
  pub given : is_given name rows ≡ is_some (first values)

pub says : (name : Text) (seen : List (Text × Text)) → Says name (rows_for seen) (values_of name seen)
says name [] = record { value = refl; row = refl; given = refl }
says name (q ∷ rest) = by_test (bytes_eq name q.0) refl (says name rest) where
  by_test : (t : Bool) → bytes_eq name q.0 ≡ t → Says name (rows_for rest) (values_of name rest) → Says name (rows_for (q ∷ rest)) (values_of name (q ∷ rest))
  by_test true is s =
      let found = bytes-sym q.0 name ∙ is in
      record { value = rw (is, found) refl; row = rw (is, found) refl; given = rw (is, found) refl }
  by_test false is s =
      let other = bytes-sym q.0 name ∙ is in
      record { value = rw (is, other) s.value; row = rw (is, other) s.row; given = rw (is, other) s.given }

-- ---- a new row

pub at_row-none : (name : Text) (change : Row → List Row) (missing rows : List Row) → has_row name rows ≡ false → at_row name change missing rows ≡ rows ++ missing
at_row-none name change missing [] none = refl
at_row-none name change missing (r ∷ rs) none = by_test (bytes_eq r.id name) refl none (at_row-none name change missing rs) where
  by_test : (t : Bool) → bytes_eq r.id name ≡ t → has_row name (r ∷ rs) ≡ false → (has_row name rs ≡ false → at_row name change missing rs ≡ rs ++ missing) →
      at_row name change missing (r ∷ rs) ≡ (r ∷ rs) ++ missing
  by_test true is none rest = absurd (false≢true (sym (rw is at none)))
  by_test false is none rest = rw is (ap (λ xs. r ∷ xs) (rest (rw is at none)))

pub new-row : (name v : Text) (rows : List Row) → has_row name rows ≡ false → with_values name AsWritten CommandLine (v ∷ []) (without name rows) ≡ rows ++ row_for (name, v) ∷ []
new-row name v rows none =
    let same : without name rows ≡ rows = at_row-none name (λ _. []) [] rows none ∙ append-nil rows in
    rw same (at_row-none name (more_values CommandLine (v ∷ [])) (row_for (name, v) ∷ []) rows none)
