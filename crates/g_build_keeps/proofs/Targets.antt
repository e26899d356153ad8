-- The segment and the group of a `switch` that a value leads to, in the source and as sums that the graph computes.
use Rattle.std.proofs.Common.{◌≡◌, ◌≤◌, ◌<◌, ◌⊎◌, inl, inr, ℕ, suc, ◌+◌, ◌-◌, ◌%◌, ◌^◌, ◌==◌, List, [], ◌∷◌, ◌++◌, map, refl, sym, ap, ◌∙◌, subst, arith}
use Rattle.std.specs.Prelude.{Bool, true, false, ◌||◌, if◌then◌else◌, cond, Option, None, Some, unwrap_or}
use Rattle.std.proofs.lemmas.Bool.Decides.{nat_tests}
use Rattle.val_core.specs.declared.operation.Op2.TheVariants as op
use Rattle.val_core.specs.Words.{word2, one_if}
use Rattle.c_typed.specs.Typed.{ItemTrees, GroupTrees, no_groups, group_then}
use Rattle.c_typed.specs.WellTyped.{all_cases, AreWords, IsNotAmong, AreDistinct}
use Rattle.c_mean.specs.Statements.{has_case, from_case, from_default, group_count, chosen_groups}
use Rattle.g_build_def.specs.Switch.{ends_segment, next_segment, Target, default_target, Label, labels_of, word_difference}

-- where a value leads, among these labels, and else by default
abbrev target_for : (word : ℕ) → (default : Target) → List Label → Target
target_for w d [] = d
target_for w d (l ∷ ls) = if l.word == w then l.target else target_for w d ls

-- ---- the target stands among the groups

-- It is one of the groups from this segment and this group on, or what follows the last one.
abbrev pub IsTarget : (segment group : ℕ) → GroupTrees → Target → Type 0
IsTarget k g no_groups t = (t.segment ≡ k) × (t.group ≡ g)
IsTarget k g (group_then cases d is gs) t = ((t.segment ≡ k) × (t.group ≡ g)) ⊎ IsTarget (next_segment k is gs) (suc g) gs t

abbrev AllLabels : (Target → Type 0) → List Label → Type 0
AllLabels P [] = Unit {0}
AllLabels P (l ∷ ls) = P l.target × AllLabels P ls

labels-more : (P Q : Target → Type 0) (ls : List Label) → ((t : Target) → P t → Q t) → AllLabels P ls → AllLabels Q ls
labels-more P Q [] more h = tt
labels-more P Q (l ∷ ls) more h = (more l.target h.0, labels-more P Q ls more h.1)

cases-and : (P : Target → Type 0) (t : Target) (cases : List ℕ) (ls : List Label) → P t → AllLabels P ls → AllLabels P (map (λ w. record { word = w; target = t }) cases ++ ls)
cases-and P t [] ls h k = k
cases-and P t (w ∷ ws) ls h k = (h, cases-and P t ws ls h k)

labels-lead : (k g : ℕ) (gs : GroupTrees) → AllLabels (IsTarget k g gs) (labels_of k g gs)
labels-lead k g no_groups = tt
labels-lead k g (group_then cases d is gs) =
    cases-and (IsTarget k g (group_then cases d is gs)) (record { segment = k; group = g }) cases (labels_of (next_segment k is gs) (suc g) gs) (inl (refl, refl))
    (labels-more (IsTarget (next_segment k is gs) (suc g) gs) (IsTarget k g (group_then cases d is gs)) (labels_of (next_segment k is gs) (suc g) gs) (λ t h. inr h)
    (labels-lead (next_segment k is gs) (suc g) gs))

pub default-leads : (k g : ℕ) (gs : GroupTrees) → IsTarget k g gs (default_target k g gs)
default-leads k g no_groups = (refl, refl)
default-leads k g (group_then cases true is gs) = inl (refl, refl)
default-leads k g (group_then cases false is gs) = inr (default-leads (next_segment k is gs) (suc g) gs)

target-leads : (P : Target → Type 0) (w : ℕ) (d : Target) (ls : List Label) → P d → AllLabels P ls → P (target_for w d ls)
target-leads P w d [] h k = h
target-leads P w d (l ∷ ls) h k = by (l.word == w) (target-leads P w d ls h k.1)
  where
    by : (b : Bool) → P (target_for w d ls) → P (cond b l.target (target_for w d ls))
    by true r = k.0
    by false r = r

-- where a value leads among these groups
abbrev pub target_of : ℕ → GroupTrees → Target
target_of w gs = target_for w (default_target 0 0 gs) (labels_of 0 0 gs)

pub is-target : (w : ℕ) (gs : GroupTrees) → IsTarget 0 0 gs (target_of w gs)
is-target w gs = target-leads (IsTarget 0 0 gs) w (default_target 0 0 gs) (labels_of 0 0 gs) (default-leads 0 0 gs) (labels-lead 0 0 gs)

-- ---- its bounds

next-low : (k : ℕ) (is : ItemTrees) (gs : GroupTrees) → (k ≤ next_segment k is gs) × (next_segment k is gs ≤ suc k)
next-low k is gs = by (ends_segment is gs)
  where
    by : (b : Bool) → (k ≤ cond b (suc k) k) × (cond b (suc k) k ≤ suc k)
    by true = (omega arith, omega arith)
    by false = (omega arith, omega arith)

pub record Bounded (k g count : ℕ) (t : Target) : Type 0 where
  pub segment_low : k ≤ t.segment
  pub segment_high : t.segment ≤ k + count
  pub group_low : g ≤ t.group
  pub group_high : t.group ≤ g + count

pub target-bounds : (k g : ℕ) (gs : GroupTrees) (t : Target) → IsTarget k g gs t → Bounded k g (group_count gs) t
target-bounds k g no_groups t h =
    let a = h.0 in
    let b = h.1 in
    record { segment_low = omega (arith, a); segment_high = omega (arith, a); group_low = omega (arith, b); group_high = omega (arith, b) }
target-bounds k g (group_then cases d is gs) t (inl h) =
    let a = h.0 in
    let b = h.1 in
    record { segment_low = omega (arith, a); segment_high = omega (arith, a); group_low = omega (arith, b); group_high = omega (arith, b) }
target-bounds k g (group_then cases d is gs) t (inr h) =
    let r = target-bounds (next_segment k is gs) (suc g) gs t h in
    let low = (next-low k is gs).0 in
    let high = (next-low k is gs).1 in
    let a = r.segment_low in
    let b = r.segment_high in
    let c = r.group_low in
    let e = r.group_high in
    record { segment_low = omega (arith, low, a); segment_high = omega (arith, high, b); group_low = omega (arith, c); group_high = omega (arith, e) }

-- ---- its group is where the source begins

default-fewer : (gs : GroupTrees) → group_count (from_default gs) ≤ group_count gs
default-fewer no_groups = omega arith
default-fewer (group_then cases true is gs) = omega arith
default-fewer (group_then cases false is gs) = let low = default-fewer gs in omega (arith, low)

default-group : (k g : ℕ) (gs : GroupTrees) → (default_target k g gs).group ≡ g + (group_count gs - group_count (from_default gs))
default-group k g no_groups = omega arith
default-group k g (group_then cases true is gs) = omega arith
default-group k g (group_then cases false is gs) =
    let same = default-group (next_segment k is gs) (suc g) gs in
    let low = default-fewer gs in
    omega (arith, same, low)

-- what the labels say of a value, by what the source finds
abbrev Leads : (w : ℕ) → (default : Target) → (g : ℕ) → GroupTrees → List Label → Option GroupTrees → Type 0
Leads w d g gs ls None = target_for w d ls ≡ d
Leads w d g gs ls (Some hs) = (group_count hs ≤ group_count gs) × ((target_for w d ls).group ≡ g + (group_count gs - group_count hs))

among-cases : (w : ℕ) (d t : Target) (cases : List ℕ) (ls : List Label) →
    target_for w d (map (λ v. record { word = v; target = t }) cases ++ ls) ≡ (if has_case w cases then t else target_for w d ls)
among-cases w d t [] ls = refl
among-cases w d t (v ∷ vs) ls = by (v == w) (among-cases w d t vs ls)
  where
    rest : Target
    rest = target_for w d (map (λ v. record { word = v; target = t }) vs ++ ls)

    by : (b : Bool) → rest ≡ cond (has_case w vs) t (target_for w d ls) → cond b t rest ≡ cond (b || has_case w vs) t (target_for w d ls)
    by true r = refl
    by false r = r

case-leads : (w : ℕ) (d : Target) (k g : ℕ) (gs : GroupTrees) → Leads w d g gs (labels_of k g gs) (from_case w gs)
case-leads w d k g no_groups = refl
case-leads w d k g (group_then cases e is gs) = by (has_case w cases) refl (case-leads w d (next_segment k is gs) (suc g) gs)
  where
    rest : List Label
    rest = labels_of (next_segment k is gs) (suc g) gs

    here : Target
    here = record { segment = k; group = g }

    whole : List Label
    whole = map (λ v. record { word = v; target = here }) cases ++ rest

    later : (x : Option GroupTrees) → target_for w d whole ≡ target_for w d rest → Leads w d (suc g) gs rest x → Leads w d g (group_then cases e is gs) whole x
    later None z h = z ∙ h
    later (Some hs) z h =
        let low = h.0 in
        let same = ap (λ (t : Target). t.group) z ∙ h.1 in
        (omega (arith, low), omega (arith, low, same))

    by : (b : Bool) → has_case w cases ≡ b → Leads w d (suc g) gs rest (from_case w gs) → Leads w d g (group_then cases e is gs) whole (cond b (Some (group_then cases e is gs)) (from_case w gs))
    by true z r =
        let same = ap (λ (t : Target). t.group) (among-cases w d here cases rest ∙ ap (λ b. cond b here (target_for w d rest)) z) in
        (omega arith, omega (arith, same))
    by false z r = later (from_case w gs) (among-cases w d here cases rest ∙ ap (λ b. cond b here (target_for w d rest)) z) r

pub target-group : (w : ℕ) (gs : GroupTrees) → (target_of w gs).group ≡ group_count gs - group_count (chosen_groups w gs)
target-group w gs = by (from_case w gs) (case-leads w (default_target 0 0 gs) 0 0 gs)
  where
    by : (x : Option GroupTrees) → Leads w (default_target 0 0 gs) 0 gs (labels_of 0 0 gs) x → (target_of w gs).group ≡ group_count gs - group_count (unwrap_or x (from_default gs))
    by None h = let same = ap (λ (t : Target). t.group) h ∙ default-group 0 0 gs in omega (arith, same)
    by (Some hs) h = let same = h.1 in omega (arith, same)

-- ---- sums of differences

-- a number becomes greater by a difference where `equal` is 1, as words
abbrev pub moved : (equal difference number : ℕ) → ℕ
moved q d n = word2 op.Add n (word2 op.Mul q (d % 2 ^ 32))

-- the number after these labels, of a value
abbrev pub summed : (value : ℕ) → (default : ℕ) → (number : Target → ℕ) → (from : ℕ) → List Label → ℕ
summed v d f a [] = a
summed v d f a (l ∷ ls) = summed v d f (moved (word2 op.Eq v (l.word % 2 ^ 32)) (word_difference (f l.target) d) a) ls

abbrev words_of : List Label → List ℕ
words_of ls = map (λ (l : Label). l.word) ls

moved-none : (d n : ℕ) → n < 2 ^ 32 → moved 0 d n ≡ n
moved-none d n h = omega (arith, h)

moved-once : (s d : ℕ) → s < 2 ^ 32 → d < 2 ^ 32 → moved 1 (word_difference s d) d ≡ s
moved-once s d h k = omega (arith, h, k)

apart-is : (v w : ℕ) → (w ≡ v → ⊥) → w < 2 ^ 32 → word2 op.Eq v (w % 2 ^ 32) ≡ 0
apart-is v w other h = let same : w % 2 ^ 32 ≡ w = omega (arith, h) in ap (λ z. one_if (v == z)) same ∙ ap one_if by
  where
    by : (v == w) ≡ false
    by = grind (arith, nat_tests, other)

equal-is : (v w : ℕ) → w ≡ v → w < 2 ^ 32 → word2 op.Eq v (w % 2 ^ 32) ≡ 1
equal-is v w e h = let same : w % 2 ^ 32 ≡ w = omega (arith, h) in ap (λ z. one_if (v == z)) same ∙ ap one_if by
  where
    by : (v == w) ≡ true
    by = grind (arith, nat_tests, e)

summed-none : (v d : ℕ) (f : Target → ℕ) (a : ℕ) (ls : List Label) → a < 2 ^ 32 → AreWords (words_of ls) → IsNotAmong v (words_of ls) → summed v d f a ls ≡ a
summed-none v d f a [] h words other = refl
summed-none v d f a (l ∷ ls) h words other =
    ap (λ n. summed v d f n ls) (ap (λ q. moved q (word_difference (f l.target) d) a) (apart-is v l.word (λ e. other.0 (sym e)) words.0) ∙ moved-none (word_difference (f l.target) d) a h)
    ∙ summed-none v d f a ls h words.1 other.1

-- labels are distinct words, so at most one difference is added
summed-is : (v : ℕ) (d : Target) (f : Target → ℕ) (ls : List Label) → f d < 2 ^ 32 → AllLabels (λ t. f t < 2 ^ 32) ls → AreWords (words_of ls) → AreDistinct (words_of ls) →
    summed v (f d) f (f d) ls ≡ f (target_for v d ls)
summed-is v d f [] h low words apart = refl
summed-is v d f (l ∷ ls) h low words apart = by (l.word == v) refl (summed-is v d f ls h low.1 words.1 apart.1)
  where
    by : (b : Bool) → (l.word == v) ≡ b → summed v (f d) f (f d) ls ≡ f (target_for v d ls) → summed v (f d) f (f d) (l ∷ ls) ≡ f (cond b l.target (target_for v d ls))
    by true e r =
        let same : l.word ≡ v = grind (arith, nat_tests, e) in
        ap (λ n. summed v (f d) f n ls) (ap (λ q. moved q (word_difference (f l.target) (f d)) (f d)) (equal-is v l.word same words.0) ∙ moved-once (f l.target) (f d) low.0 h)
        ∙ summed-none v (f d) f (f l.target) ls low.0 words.1 (subst (λ u. IsNotAmong u (words_of ls)) same apart.0)
    by false e r =
        let other : l.word ≡ v → ⊥ = grind (arith, nat_tests, e) in
        ap (λ n. summed v (f d) f n ls) (ap (λ q. moved q (word_difference (f l.target) (f d)) (f d)) (apart-is v l.word other words.0) ∙ moved-none (word_difference (f l.target) (f d)) (f d) h)
        ∙ r

words-and : (t : Target) (cases : List ℕ) (ls : List Label) → words_of (map (λ w. record { word = w; target = t }) cases ++ ls) ≡ cases ++ words_of ls
words-and t [] ls = refl
words-and t (w ∷ ws) ls = ap (λ vs. w ∷ vs) (words-and t ws ls)

words-are : (k g : ℕ) (gs : GroupTrees) → words_of (labels_of k g gs) ≡ all_cases gs
words-are k g no_groups = refl
words-are k g (group_then cases d is gs) =
    words-and (record { segment = k; group = g }) cases (labels_of (next_segment k is gs) (suc g) gs) ∙ ap (λ vs. cases ++ vs) (words-are (next_segment k is gs) (suc g) gs)

module _ (v : ℕ) (gs : GroupTrees) (words : AreWords (all_cases gs)) (apart : AreDistinct (all_cases gs)) (few : group_count gs < 2 ^ 32) where
  abbrev d : Target
  d = default_target 0 0 gs

  sum-is : (f : Target → ℕ) → ((t : Target) → IsTarget 0 0 gs t → f t < 2 ^ 32) → summed v (f d) f (f d) (labels_of 0 0 gs) ≡ f (target_of v gs)
  sum-is f low =
      summed-is v d f (labels_of 0 0 gs) (low d (default-leads 0 0 gs)) (labels-more (IsTarget 0 0 gs) (λ t. f t < 2 ^ 32) (labels_of 0 0 gs) low (labels-lead 0 0 gs))
      (subst AreWords (sym (words-are 0 0 gs)) words) (subst AreDistinct (sym (words-are 0 0 gs)) apart)

  pub segment-sum : summed v d.segment (λ t. t.segment) d.segment (labels_of 0 0 gs) ≡ (target_of v gs).segment
  segment-sum = sum-is (λ t. t.segment) (λ t h. let high = (target-bounds 0 0 gs t h).segment_high in omega (arith, high, few))

  pub group-sum : summed v d.group (λ t. t.group) d.group (labels_of 0 0 gs) ≡ (target_of v gs).group
  group-sum = sum-is (λ t. t.group) (λ t h. let high = (target-bounds 0 0 gs t h).group_high in omega (arith, high, few))
