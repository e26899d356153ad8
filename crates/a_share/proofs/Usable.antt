-- The tables of names have positions of lines and names below the count.
use Rattle.std.proofs.Common.{◌≡◌, ◌+◌, ◌<◌, ◌≤◌, ℕ, zero, suc, Bool, true, false, if◌then◌else◌, List, [], ◌∷◌, ◌++◌, length, flat_map, vec_len, refl, sym, ◌∙◌, subst, arith}
use Rattle.std.specs.Prelude.{◌==◌}
use Rattle.std.specs.List.{All}
use Rattle.std.proofs.lemmas.List.Elements.{All-nil, All-cons}
use Rattle.s_linear.specs.Linear.{const, undef, object_address, global_address, binary, unary, load, store, clear, equal_pointers, move, call, put, get, exit}
use Rattle.s_linear.specs.Lines.{Line, enter, leave, done, branch_not_zero, branch_zero, branch_equal, jump, label, line_names}
use Rattle.a_place.specs.Places.{above, name_count}
use Rattle.a_share.specs.Sound.{IsSound, IsWithin, segments_in}
use Rattle.a_share.specs.Facts.{writes_of, partners_of, copied_of, line_number, name_number, AreUsable}
use Rattle.a_share.specs.declared.facts.Facts.{Facts}
use Rattle.a_share.specs.declared.walk.Walk.{Walk}
use Rattle.a_share.specs.Tables.{does_write, positions, ends_of, copied_in, line_at, partners_in, by_depth, move_depths}

all_append : {X : Type 0} (P : X → Type 0) (xs ys : List X) → All P xs → All P ys → All P (xs ++ ys)
all_append P [] ys a b = b
all_append P (x ∷ xs) ys a b = All-cons P x (xs ++ ys) (a 0 x (omega arith)) (all_append P xs ys (λ k d h. a (suc k) d (omega arith)) b)

all_if : {X : Type 0} (P : X → Type 0) (b : Bool) (xs : List X) → All P xs → All P (if b then xs else [])
all_if P true xs a = a
all_if P false xs a = All-nil P

flat_all : {X : Type 0} (P : ℕ → Type 0) (F : X → List ℕ) (xs : List X) → ((x : X) → All P (F x)) → All P (flat_map F xs)
flat_all P F [] h = All-nil P
flat_all P F (x ∷ xs) h = all_append P (F x) (flat_map F xs) (h x) (flat_all P F xs h)

pub positions_all : (test : Line → Bool) (i n : ℕ) (ls : List Line) → i + length ls ≤ n → All (λ k. k < n) (positions test i ls)
positions_all test i n [] h = All-nil (λ k. k < n)
positions_all test i n (l ∷ ls) h =
    all_append (λ k. k < n) (if test l then i ∷ [] else []) (positions test (suc i) ls)
    (all_if (λ k. k < n) (test l) (i ∷ []) (All-cons (λ k. k < n) i [] (omega arith) (All-nil (λ k. k < n)))) (positions_all test (suc i) n ls (omega arith))

module _ (x n : ℕ) where
  abbrev P : ℕ → Type 0
  P y = y < n

  none_all : All P []
  none_all = All-nil P

  pub ends_all : (l : Line) → above (line_names l) ≤ n → All P (ends_of x l)
  ends_all (done (move t a)) h =
      all_append P (if t == x then a ∷ [] else []) (if a == x then t ∷ [] else []) (all_if P (t == x) (a ∷ []) (All-cons P a [] (omega arith) none_all))
      (all_if P (a == x) (t ∷ []) (All-cons P t [] (omega arith) none_all))
  ends_all (done (const t w)) h = none_all
  ends_all (done (undef t)) h = none_all
  ends_all (done (object_address t k)) h = none_all
  ends_all (done (global_address t k)) h = none_all
  ends_all (done (binary o t a b)) h = none_all
  ends_all (done (unary o t a)) h = none_all
  ends_all (done (load w t a)) h = none_all
  ends_all (done (store w a v)) h = none_all
  ends_all (done (clear k)) h = none_all
  ends_all (done (equal_pointers t a b)) h = none_all
  ends_all (done (call g t xs)) h = none_all
  ends_all (done (put a)) h = none_all
  ends_all (done (get t)) h = none_all
  ends_all (done (exit a)) h = none_all
  ends_all (enter xs) h = none_all
  ends_all (leave v) h = none_all
  ends_all (branch_not_zero p k) h = none_all
  ends_all (branch_zero p k) h = none_all
  ends_all (branch_equal p r k) h = none_all
  ends_all (jump k) h = none_all
  ends_all (label k) h = none_all

  pub copied_all : (ls : List Line) (cs : List Bool) → name_count ls ≤ n → All P (copied_in x ls cs)
  copied_all [] cs h = none_all
  copied_all (l ∷ ls) [] h = none_all
  copied_all (l ∷ ls) (c ∷ cs) h =
      all_append P (if c then ends_of x l else []) (copied_in x ls cs) (all_if P c (ends_of x l) (ends_all l (omega arith))) (copied_all ls cs (omega arith))

  line_below : (ls : List Line) (i : ℕ) → above (line_names (line_at ls i)) ≤ name_count ls
  line_below [] i = omega arith
  line_below (l ∷ ls) zero = omega arith
  line_below (l ∷ ls) (suc i) = let rest : above (line_names (line_at ls i)) ≤ name_count ls = line_below ls i in omega arith

  pub partners_all : (ls : List Line) (ds : List ℕ) → name_count ls ≤ n → All P (partners_in x ls ds)
  partners_all ls ds h =
      flat_all P (λ i. ends_of x (line_at ls i)) (by_depth (move_depths ls ds))
      (λ i. ends_all (line_at ls i) (let b : above (line_names (line_at ls i)) ≤ name_count ls = line_below ls i in omega arith))

-- ---- all of them

sound_again : (lines n : ℕ) (w : Walk) → IsSound lines n w → IsSound (vec_len w.depths) (vec_len w.segments) w
sound_again lines n w s = record {
  segments = refl;
  within = λ x h.
      let l : x < n = (let e : vec_len w.segments ≡ n = s.segments in omega arith) in
      subst (λ k. All (IsWithin k) (segments_in w x)) (sym s.depths) (s.within x l);
  depths = refl;
  copies = s.copies ∙ sym s.depths;
}

pub usable_made : (ls : List Line) (n : ℕ) (F : Facts) → IsSound (length ls) n F.walk → name_count ls ≤ n → length F.writes ≡ n → length F.partners ≡ n → length F.copied ≡ n
    → vec_len F.long ≡ n → ((x : ℕ) → x < n → writes_of F x ≡ positions (does_write x) 0 ls) → ((x : ℕ) → x < n → partners_of F x ≡ partners_in x ls F.walk.depths.items)
    → ((x : ℕ) → x < n → copied_of F x ≡ copied_in x ls F.walk.copies.items) → AreUsable F
usable_made ls n F s few wc pc cc_ lc w p c =
    let names : name_number F ≡ n = s.segments in
    let lines : line_number F ≡ length ls = s.depths in
    record {
      walk = sound_again (length ls) n F.walk s;
      writes_count = wc ∙ sym names;
      writes = λ x h.
          subst (All (λ i. i < line_number F)) (sym (w x (omega arith)))
          (positions_all (does_write x) 0 (line_number F) ls (omega arith));
      partners_count = pc ∙ sym names;
      partners = λ x h. subst (All (λ y. y < name_number F)) (sym (p x (omega arith))) (partners_all x (name_number F) ls F.walk.depths.items (omega arith));
      copied_count = cc_ ∙ sym names;
      copied = λ x h. subst (All (λ y. y < name_number F)) (sym (c x (omega arith))) (copied_all x (name_number F) ls F.walk.copies.items (omega arith));
      long_count = lc ∙ sym names;
    }
