-- What has been read so far: the values as they are held, in any order, against the positional arguments and the options.
use Rattle.std.proofs.Common.{◌≡◌, ◌||◌, ◌&&◌, ◌++◌, Bool, true, false, List, [], ◌∷◌, Some, None, refl, sym, ap, subst, ◌∙◌, append-nil}
use Rattle.std.specs.Prelude.{not}
use Rattle.std.specs.Str.{bytes_eq}
use Rattle.std.proofs.lemmas.Bool.{false≢true, not-true, or_parts, and_parts}
use Rattle.cc_command.specs.ParsedArguments.{Text, once, values_of}
use Rattle.cc_command.specs.Forms.{Positional, OptionForm}
use Rattle.cc_command.proofs.Lookups.{bytes-refl, bytes-sym, is_known, is_positional, next_of, same-bytes}
use Rattle.cc_command.proofs.Rows.{values_of-append}
use Rattle.cc_command.proofs.Settled.{Given}

-- no name stands twice among the required arguments, or for an option too
abbrev pub has_distinct_names : List Positional → List OptionForm → Bool
has_distinct_names [] os = true
has_distinct_names (p ∷ ps) os = not (is_positional ps p.name || is_known os p.name) && has_distinct_names ps os

-- the first required arguments have these values, and the others none
abbrev pub Required : List Positional → List Text → Given → Type 0
Required [] [] seen = Unit {0}
Required [] (x ∷ xs) seen = ⊥
Required (p ∷ ps) [] seen = (values_of p.name seen ≡ []) × Required ps [] seen
Required (p ∷ ps) (x ∷ xs) seen = (values_of p.name seen ≡ x ∷ []) × Required ps xs seen

abbrev pub AtMostOne : List Text → Type 0
AtMostOne [] = Unit {0}
AtMostOne (v ∷ []) = Unit {0}
AtMostOne (v ∷ w ∷ vs) = ⊥

pub record IsRead (ps : List Positional) (os : List OptionForm) (seen : Given) (xs : List Text) (given : Given) : Type 0 where
  pub required : Required ps xs seen
  pub options : (name : Text) → is_known os name ≡ true → values_of name seen ≡ values_of name given
  pub once : (name : Text) → AtMostOne (values_of name seen)

-- a test tells two names apart
pub apart : (test : Text → Bool) (m n : Text) → test m ≡ true → test n ≡ false → bytes_eq m n ≡ false
apart test m n passes fails = by_test (bytes_eq m n) refl where
  by_test : (t : Bool) → bytes_eq m n ≡ t → bytes_eq m n ≡ false
  by_test false is = is
  by_test true is = absurd (false≢true (sym fails ∙ ap test (sym (same-bytes m n is)) ∙ passes))

-- ---- one more value

pub values_of-same : (name v : Text) (seen : Given) → values_of name (seen ++ (name, v) ∷ []) ≡ values_of name seen ++ v ∷ []
values_of-same name v seen =
    let same = bytes-refl name in
    values_of-append name seen ((name, v) ∷ []) ∙ rw same refl

pub values_of-other : (name : Text) (q : Text × Text) (seen : Given) → bytes_eq name q.0 ≡ false → values_of name (seen ++ q ∷ []) ≡ values_of name seen
values_of-other name q seen other = values_of-append name seen (q ∷ []) ∙ rw other (append-nil (values_of name seen))

pub required-other : (ps : List Positional) (xs : List Text) (seen : Given) (q : Text × Text) → is_positional ps q.0 ≡ false → Required ps xs seen → Required ps xs (seen ++ q ∷ [])
required-other [] [] seen q other r = tt
required-other [] (x ∷ xs) seen q other r = r
required-other (p ∷ ps) [] seen q other r =
    let o = or_parts (bytes_eq p.name q.0) (is_positional ps q.0) other in
    (values_of-other p.name q seen o.0 ∙ r.0, required-other ps [] seen q o.1 r.1)
required-other (p ∷ ps) (x ∷ xs) seen q other r =
    let o = or_parts (bytes_eq p.name q.0) (is_positional ps q.0) other in
    (values_of-other p.name q seen o.0 ∙ r.0, required-other ps xs seen q o.1 r.1)

pub none-some : {A : Type 0} (x : Text) → None ≡ Some x → A
none-some x e = absurd (clash e) where
  clash : None ≡ Some x → ⊥
  clash e = cc

pub some-same : (x y : Text) → Some x ≡ Some y → x ≡ y
some-same x y e = cc

pub next-positional : (ps : List Positional) (xs : List Text) (r : Text) → next_of ps xs ≡ Some r → is_positional ps r ≡ true
next-positional [] xs r is = none-some r is
next-positional (p ∷ ps) [] r is = rw (some-same p.name r is, bytes-refl r) refl
next-positional (p ∷ ps) (x ∷ xs) r is = either (bytes_eq p.name r) (next-positional ps xs r is) where
  either : (a : Bool) → is_positional ps r ≡ true → (a || is_positional ps r) ≡ true
  either true h = refl
  either false h = h

pub next-free : (ps : List Positional) (xs : List Text) (seen : Given) (r : Text) → next_of ps xs ≡ Some r → Required ps xs seen → values_of r seen ≡ []
next-free [] xs seen r is q = none-some r is
next-free (p ∷ ps) [] seen r is q = subst (λ n. values_of n seen ≡ []) (some-same p.name r is) q.0
next-free (p ∷ ps) (x ∷ xs) seen r is q = next-free ps xs seen r is q.1

module _ (os : List OptionForm) where
  pub first-distinct : (p : Positional) (ps : List Positional) → has_distinct_names (p ∷ ps) os ≡ true →
      (is_positional ps p.name ≡ false) × (is_known os p.name ≡ false) × (has_distinct_names ps os ≡ true)
  first-distinct p ps distinct =
      let b = and_parts (not (is_positional ps p.name || is_known os p.name)) (has_distinct_names ps os) distinct in
      let o = or_parts (is_positional ps p.name) (is_known os p.name) (not-true (is_positional ps p.name || is_known os p.name) b.0) in
      (o.0, o.1, b.1)

  -- an option is no required argument
  pub disjoint : (ps : List Positional) (name : Text) → has_distinct_names ps os ≡ true → is_known os name ≡ true → is_positional ps name ≡ false
  disjoint [] name distinct known = refl
  disjoint (p ∷ ps) name distinct known =
      let d = first-distinct p ps distinct in
      let other : bytes_eq p.name name ≡ false = bytes-sym p.name name ∙ apart (is_known os) name p.name known d.1 in
      rw other (disjoint ps name d.2 known)

  pub not-known : (ps : List Positional) (name : Text) → has_distinct_names ps os ≡ true → is_positional ps name ≡ true → is_known os name ≡ false
  not-known ps name distinct is = by_test (is_known os name) refl (disjoint ps name distinct) where
    by_test : (t : Bool) → is_known os name ≡ t → (is_known os name ≡ true → is_positional ps name ≡ false) → is_known os name ≡ false
    by_test false none h = none
    by_test true some h = absurd (false≢true (sym (h some) ∙ is))

  pub required-next : (ps : List Positional) (xs : List Text) (seen : Given) (r w : Text) → has_distinct_names ps os ≡ true → next_of ps xs ≡ Some r → Required ps xs seen →
      Required ps (xs ++ w ∷ []) (seen ++ (r, w) ∷ [])
  required-next [] xs seen r w distinct is q = none-some r is
  required-next (p ∷ ps) [] seen r w distinct is q =
      let d = first-distinct p ps distinct in
      let same = some-same p.name r is in
      let first_value : values_of p.name (seen ++ (p.name, w) ∷ []) ≡ w ∷ [] = values_of-same p.name w seen ∙ ap (λ vs. vs ++ w ∷ []) q.0 in
      subst (λ n. Required (p ∷ ps) (w ∷ []) (seen ++ (n, w) ∷ [])) same (first_value, required-other ps [] seen (p.name, w) d.0 q.1)
  required-next (p ∷ ps) (x ∷ xs) seen r w distinct is q =
      let d = first-distinct p ps distinct in
      let other = bytes-sym p.name r ∙ apart (is_positional ps) r p.name (next-positional ps xs r is) d.0 in
      (values_of-other p.name (r, w) seen other ∙ q.0, required-next ps xs seen r w d.2 is q.1)

pub once-more : (seen : Given) (q : Text × Text) → values_of q.0 seen ≡ [] → ((name : Text) → AtMostOne (values_of name seen)) → (name : Text) → AtMostOne (values_of name (seen ++ q ∷ []))
once-more seen q none once name = by_test (bytes_eq name q.0) refl where
  by_test : (t : Bool) → bytes_eq name q.0 ≡ t → AtMostOne (values_of name (seen ++ q ∷ []))
  by_test false is = subst AtMostOne (sym (values_of-other name q seen is)) (once name)
  by_test true is =
      let one = values_of-same q.0 q.1 seen ∙ ap (λ vs. vs ++ q.1 ∷ []) none in
      subst (λ n. AtMostOne (values_of n (seen ++ q ∷ []))) (sym (same-bytes name q.0 is)) (subst AtMostOne (sym one) tt)

module _ (ps : List Positional) (os : List OptionForm) (distinct : has_distinct_names ps os ≡ true) (seen : Given) (xs : List Text) (given : Given) (read : IsRead ps os seen xs given) where
  -- one more positional argument
  pub read-positional : (r w : Text) → next_of ps xs ≡ Some r → IsRead ps os (seen ++ (r, w) ∷ []) (xs ++ w ∷ []) given
  read-positional r w is = record {
    required = required-next os ps xs seen r w distinct is read.required;
    options = λ name known. values_of-other name (r, w) seen (apart (is_known os) name r known (not-known os ps r distinct (next-positional ps xs r is))) ∙ read.options name known;
    once = once-more seen (r, w) (next-free ps xs seen r is read.required) read.once;
  }

  -- one more option
  pub read-option : (name v : Text) → is_known os name ≡ true → values_of name seen ≡ [] → IsRead ps os (seen ++ (name, v) ∷ []) xs (given ++ (name, v) ∷ [])
  read-option name v known none = record {
    required = required-other ps xs seen (name, v) (disjoint os ps name distinct known) read.required;
    options = λ n h. values_of-append n seen ((name, v) ∷ []) ∙ ap (λ vs. vs ++ values_of n ((name, v) ∷ [])) (read.options n h) ∙ sym (values_of-append n given ((name, v) ∷ []));
    once = once-more seen (name, v) none read.once;
  }
