-- What lists of depths have in common.
use Rattle.std.proofs.Common.{◌≡◌, ℕ, suc, ◌+◌, ◌-◌, ◌^◌, ◌≤◌, ◌<◌, max, List, [], ◌∷◌, ◌++◌, length, Contains, Option, None, Some, get_or, drop, drop-cons, refl, sym, ap, ap₂, ◌∙◌, inl, inr, ◌⊎◌, arith}
use Rattle.std.proofs.lemmas.List.{get_or_default, get_or_past}
use Rattle.g_pass_order.proofs.lemmas.Contained.{contains-none, contains-later, contains-either}
use Rattle.cc_view.specs.Depths.{greater, depth_at, most_of, with_frame}

some-same : (a b : ℕ) → Some a ≡ Some b → a ≡ b
some-same a b e = cc

-- ---- the greatest depth of a list

-- what a greatest depth says of each function of the list
pub most-parts : (depths : List (Option ℕ)) (ks : List ℕ) (m : ℕ) → most_of depths ks ≡ Some m → (k : ℕ) → Contains ks k → (d : ℕ) × (depth_at depths k ≡ Some d) × (d ≤ m)
most-parts depths [] m e k h = absurd (contains-none k h)
most-parts depths (j ∷ ks) m e k h = by (depth_at depths j) (most_of depths ks) refl refl e (contains-either k j ks h) (most-parts depths ks)
  where
    by : (a b : Option ℕ) → depth_at depths j ≡ a → most_of depths ks ≡ b → greater a b ≡ Some m → (j ≡ k) ⊎ Contains ks k →
        ((n : ℕ) → most_of depths ks ≡ Some n → (i : ℕ) → Contains ks i → (d : ℕ) × (depth_at depths i ≡ Some d) × (d ≤ n)) → (d : ℕ) × (depth_at depths k ≡ Some d) × (d ≤ m)
    by (Some a) (Some b) p q g (inl same) rest = let is = some-same (max a b) m g in (a, ap (depth_at depths) (sym same) ∙ p, omega (arith, is))
    by (Some a) (Some b) p q g (inr later) rest = let is = some-same (max a b) m g in let found = rest b q k later in (found.0, found.1, omega (arith, is, found.2))
    by (Some a) None p q g which rest = absurd cc
    by None b p q g which rest = absurd cc

-- where one function has no depth, there is no greatest one
pub most-none : (depths : List (Option ℕ)) (ks : List ℕ) (k : ℕ) → Contains ks k → depth_at depths k ≡ None → most_of depths ks ≡ None
most-none depths [] k h e = absurd (contains-none k h)
most-none depths (j ∷ ks) k h e = by (contains-either k j ks h) (most-none depths ks k)
  where
    none-right : (a : Option ℕ) → greater a None ≡ None
    none-right (Some a) = refl
    none-right None = refl

    by : (j ≡ k) ⊎ Contains ks k → (Contains ks k → depth_at depths k ≡ None → most_of depths ks ≡ None) → greater (depth_at depths j) (most_of depths ks) ≡ None
    by (inl same) rest = ap (λ a. greater a (most_of depths ks)) (ap (depth_at depths) same ∙ e)
    by (inr later) rest = ap (λ b. greater (depth_at depths j) b) (rest later e) ∙ none-right (depth_at depths j)

-- two lists that agree on these functions
pub most-same : (depths depths' : List (Option ℕ)) (ks : List ℕ) → ((k : ℕ) → Contains ks k → depth_at depths' k ≡ depth_at depths k) → most_of depths' ks ≡ most_of depths ks
most-same depths depths' [] h = refl
most-same depths depths' (j ∷ ks) h =
    ap₂ greater (h j (0, omega arith, refl)) (most-same depths depths' ks (λ k c. h k (contains-later k j ks c)))

-- a bound of all depths bounds the greatest
pub most-low : (depths : List (Option ℕ)) (ks : List ℕ) (most : ℕ) → ((k d : ℕ) → depth_at depths k ≡ Some d → d ≤ most) → (m : ℕ) → most_of depths ks ≡ Some m → m ≤ most
most-low depths [] most h m e = let is = some-same 0 m e in omega (arith, is)
most-low depths (j ∷ ks) most h m e = by (depth_at depths j) (most_of depths ks) refl refl e (most-low depths ks most h)
  where
    by : (a b : Option ℕ) → depth_at depths j ≡ a → most_of depths ks ≡ b → greater a b ≡ Some m → ((n : ℕ) → most_of depths ks ≡ Some n → n ≤ most) → m ≤ most
    by (Some a) (Some b) p q g rest = let is = some-same (max a b) m g in omega (arith, is, h j a p, rest b q)
    by (Some a) None p q g rest = absurd cc
    by None b p q g rest = absurd cc

pub frame-parts : (frame : ℕ) (below : Option ℕ) (d : ℕ) → with_frame frame below ≡ Some d → (m : ℕ) × (below ≡ Some m) × (frame + m ≡ d)
frame-parts frame (Some m) d e = (m, refl, some-same (frame + m) d e)
frame-parts frame None d e = absurd cc

-- ---- lists one after another

greater-associates : (a b c : Option ℕ) → greater (greater a b) c ≡ greater a (greater b c)
greater-associates None b c = refl
greater-associates (Some a) None c = refl
greater-associates (Some a) (Some b) None = refl
greater-associates (Some a) (Some b) (Some c) = let e : max (max a b) c ≡ max a (max b c) = omega arith in ap (λ n. Some n) e

greater-nothing : (a : Option ℕ) → greater a (Some 0) ≡ a
greater-nothing None = refl
greater-nothing (Some a) = let e : max a 0 ≡ a = omega arith in ap (λ n. Some n) e

nothing-greater : (a : Option ℕ) → greater (Some 0) a ≡ a
nothing-greater None = refl
nothing-greater (Some a) = let e : max 0 a ≡ a = omega arith in ap (λ n. Some n) e

most-append : (depths : List (Option ℕ)) (js ks : List ℕ) → most_of depths (js ++ ks) ≡ greater (most_of depths js) (most_of depths ks)
most-append depths [] ks = sym (nothing-greater (most_of depths ks))
most-append depths (j ∷ js) ks =
    ap (greater (depth_at depths j)) (most-append depths js ks) ∙ sym (greater-associates (depth_at depths j) (most_of depths js) (most_of depths ks))

-- with what came before: none, one, and more
pub none_called : (depths : List (Option ℕ)) (a : Option ℕ) → a ≡ greater a (most_of depths [])
none_called depths a = sym (greater-nothing a)

pub one_called : (depths : List (Option ℕ)) (a : Option ℕ) (f : ℕ) → greater a (depth_at depths f) ≡ greater a (most_of depths (f ∷ []))
one_called depths a f = ap (greater a) (sym (greater-nothing (depth_at depths f)))

pub goes_on : (depths : List (Option ℕ)) (a b : Option ℕ) (js ks : List ℕ) → b ≡ greater a (most_of depths js) → greater b (most_of depths ks) ≡ greater a (most_of depths (js ++ ks))
goes_on depths a b js ks e =
    ap (λ x. greater x (most_of depths ks)) e ∙ (greater-associates a (most_of depths js) (most_of depths ks) ∙ ap (greater a) (sym (most-append depths js ks)))

-- ---- reading a list

pub read_depth : (depths : List (Option ℕ)) (f : ℕ) (x : Option ℕ) → x ≡ get_or depths f x → f < length depths → x ≡ depth_at depths f
read_depth depths f x e inside = e ∙ get_or_default depths f x None inside

pub no_depth : (depths : List (Option ℕ)) (f : ℕ) → length depths ≤ f → None ≡ depth_at depths f
no_depth depths f past = sym (get_or_past depths f None past)

pub drop_next : {A : Type 0} (xs : List A) (i : ℕ) (x : A) → i < length xs → x ≡ get_or xs i x → drop i xs ≡ x ∷ drop (i + 1) xs
drop_next xs i x low is =
    let next : suc i ≡ i + 1 = omega arith in
    drop-cons xs i x low ∙ ap₂ (λ y ys. y ∷ ys) (sym is) (ap (λ k. drop k xs) next)

-- ---- a frame more

pub frame_fits : (depths : List (Option ℕ)) (ks : List ℕ) (frame most : ℕ) → frame < 2 ^ 32 → ((f d : ℕ) → depth_at depths f ≡ Some d → d + 2 ^ 32 < 2 ^ 64) → greater (Some 0) (most_of depths ks)
    ≡ Some most → frame + most < 2 ^ 64
frame_fits depths ks frame most small low e =
    let is : most_of depths ks ≡ Some most = sym (nothing-greater (most_of depths ks)) ∙ e in
    let bound : most ≤ 2 ^ 64 - 2 ^ 32 - 1 = most-low depths ks (2 ^ 64 - 2 ^ 32 - 1) (λ k d at. let h = low k d at in omega (arith, h)) most is in
    omega (arith, small, bound)
