-- Partners by lines are those by sites.
use Rattle.std.proofs.Common.{◌≡◌, ◌≢◌, ◌+◌, ◌<◌, ℕ, suc, Bool, true, false, if◌then◌else◌, List, [], ◌∷◌, ◌++◌, length, map, flat_map, refl, sym, ap, ◌∙◌, inl, inr, arith, append_assoc, Some, Option}
use Rattle.std.specs.Prelude.{◌==◌, slice_get}
use Rattle.std.proofs.lemmas.Bool.{cases_Bool}
use Rattle.std.proofs.lemmas.Bool.Decides.{nat_tests}
use Rattle.std.proofs.lemmas.Option.{get_or_from_slice_get}
use Rattle.s_linear.specs.Linear.{const, undef, object_address, global_address, binary, unary, load, store, clear, equal_pointers, move, call, put, get, exit}
use Rattle.s_linear.specs.Lines.{Line, enter, leave, done, branch_not_zero, branch_zero, branch_equal, jump, label, line_names}
use Rattle.a_place.specs.Share.{Site, does, tests, greatest, depth_of_site, partners_at, partners}
use Rattle.a_place.specs.Marks.{Mark, site_of, sites_at}
use Rattle.a_share.specs.Walk.{AreDepthsOf}
use Rattle.a_share.specs.Tables.{at_depth, levels, down, ends_of, move_depth, move_depths, line_at, partners_in}
use Rattle.a_share.proofs.Depths.{flat_bounds, flat_same, down_is, past_levels}

flat_append : {X Y : Type 0} (F : X → List Y) (xs ys : List X) → flat_map F (xs ++ ys) ≡ flat_map F xs ++ flat_map F ys
flat_append F [] ys = refl
flat_append F (x ∷ xs) ys = ap (λ z. F x ++ z) (flat_append F xs ys) ∙ sym (append_assoc (F x) (flat_map F xs) (flat_map F ys))

flat_flat : {X Y Z : Type 0} (F : X → List Y) (G : Y → List Z) (xs : List X) → flat_map G (flat_map F xs) ≡ flat_map (λ x. flat_map G (F x)) xs
flat_flat F G [] = refl
flat_flat F G (x ∷ xs) = flat_append G (F x) (flat_map F xs) ∙ ap (λ z. flat_map G (F x) ++ z) (flat_flat F G xs)

module _ (x d : ℕ) (E : ℕ → List ℕ) where
  abbrev at_level : (i : ℕ) → List Line → List ℕ → List ℕ
  at_level i ls ds = flat_map E (at_depth d i (move_depths ls ds))

  -- one line more
  move_more : (t a e f i : ℕ) (os : List (Option ℕ)) (N : ℕ → Bool) (rest : List ℕ) → E i ≡ ends_of x (done (move t a)) → e ≡ f → flat_map E (at_depth d (suc i) os) ≡ rest
      → flat_map E (at_depth d i (Some e ∷ os)) ≡ partners_at x d (does f (move t a) N) ++ rest
  move_more t a e f i os N rest h s r =
      elim (cases_Bool (e == d)) [
        | inl here ↦
            let there : (f == d) ≡ true = ap (λ z. z == d) (sym s) ∙ here in
            rw (here, there) (ap (λ z. z ++ flat_map E (at_depth d (suc i) os)) h ∙ ap (λ z. ends_of x (done (move t a)) ++ z) r)
        | inr other ↦
            let there : (f == d) ≡ false = ap (λ z. z == d) (sym s) ∙ other in
            rw (other, there) r
      ]

  line_more : (i g : ℕ) (ls : List Line) (ms : List Mark) (ds : List ℕ) (m : Mark) (l : Line) → E i ≡ ends_of x l → (line_names l ≢ [] → Some g ≡ Some m.depth)
      → at_level (suc i) ls ds ≡ flat_map (partners_at x d) (sites_at ls ms)
      → flat_map E (at_depth d i (move_depth l g ∷ move_depths ls ds)) ≡ flat_map (partners_at x d) (site_of l m ++ sites_at ls ms)
  line_more i g ls ms ds m (done (move t b)) n o rest =
      let same : g ≡ m.depth = (let s : Some g ≡ Some m.depth = o (λ z. cc) in cc) in
      move_more t b g m.depth i (move_depths ls ds) m.after (flat_map (partners_at x d) (sites_at ls ms)) n same rest
  line_more i g ls ms ds m (done (const t w)) n o rest = rest
  line_more i g ls ms ds m (done (undef t)) n o rest = rest
  line_more i g ls ms ds m (done (object_address t k)) n o rest = rest
  line_more i g ls ms ds m (done (global_address t k)) n o rest = rest
  line_more i g ls ms ds m (done (binary op t b c)) n o rest = rest
  line_more i g ls ms ds m (done (unary op t b)) n o rest = rest
  line_more i g ls ms ds m (done (load w t b)) n o rest = rest
  line_more i g ls ms ds m (done (store w b v)) n o rest = rest
  line_more i g ls ms ds m (done (clear k)) n o rest = rest
  line_more i g ls ms ds m (done (equal_pointers t b c)) n o rest = rest
  line_more i g ls ms ds m (done (call c t xs)) n o rest = rest
  line_more i g ls ms ds m (done (put b)) n o rest = rest
  line_more i g ls ms ds m (done (get t)) n o rest = rest
  line_more i g ls ms ds m (done (exit b)) n o rest = rest
  line_more i g ls ms ds m (enter xs) n o rest = rest
  line_more i g ls ms ds m (leave v) n o rest = rest
  line_more i g ls ms ds m (branch_not_zero p k) n o rest = rest
  line_more i g ls ms ds m (branch_zero p k) n o rest = rest
  line_more i g ls ms ds m (branch_equal p r k) n o rest = rest
  line_more i g ls ms ds m (jump k) n o rest = rest
  line_more i g ls ms ds m (label k) n o rest = rest

  level_is : (i : ℕ) (ls : List Line) (ms : List Mark) (ds : List ℕ) → length ls ≡ length ms → length ls ≡ length ds → AreDepthsOf ls ms ds
      → ((k : ℕ) (l : Line) → slice_get ls k ≡ Some l → E (i + k) ≡ ends_of x l) → at_level i ls ds ≡ flat_map (partners_at x d) (sites_at ls ms)
  level_is i [] ms ds e f a h = refl
  level_is i (l ∷ ls) [] ds e f a h = cc
  level_is i (l ∷ ls) (m ∷ ms) [] e f a h = cc
  level_is i (l ∷ ls) (m ∷ ms) (g ∷ ds) e f a h =
      line_more i g ls ms ds m l (ap E (omega arith) ∙ h 0 l refl) (a 0 l m refl refl)
      (level_is (suc i) ls ms ds (omega arith) (omega arith) (λ j k n p q. a (suc j) k n p q) (λ k n p. ap E (omega arith) ∙ h (suc k) n p))

-- no move stands deeper than the deepest site
past_sites : (x d : ℕ) (ss : List Site) → greatest (map depth_of_site ss) < d → flat_map (partners_at x d) ss ≡ []
past_sites x d [] h = refl
past_sites x d (s ∷ ss) h =
    let less : greatest (map depth_of_site ss) < d = omega arith in
    let here : depth_of_site s < d = omega arith in
    ap (λ z. z ++ flat_map (partners_at x d) ss) (none s here) ∙ past_sites x d ss less
  where
    none_at : (e : ℕ) (xs : List ℕ) → e < d → (if e == d then xs else []) ≡ []
    none_at e xs h = let other : (e == d) ≡ false = grind (arith, nat_tests) in rw other refl

    none : (s : Site) → depth_of_site s < d → partners_at x d s ≡ []
    none (does e (move t a) N) h = none_at e ((if t == x then a ∷ [] else []) ++ (if a == x then t ∷ [] else [])) h
    none (does e (const t w) N) h = refl
    none (does e (undef t) N) h = refl
    none (does e (object_address t k) N) h = refl
    none (does e (global_address t k) N) h = refl
    none (does e (binary op t b c) N) h = refl
    none (does e (unary op t b) N) h = refl
    none (does e (load w t b) N) h = refl
    none (does e (store w b v) N) h = refl
    none (does e (clear k) N) h = refl
    none (does e (equal_pointers t b c) N) h = refl
    none (does e (call c t xs) N) h = refl
    none (does e (put b) N) h = refl
    none (does e (get t) N) h = refl
    none (does e (exit b) N) h = refl
    none (tests e p) h = refl

pub partners_same : (x : ℕ) (ls : List Line) (ms : List Mark) (ds : List ℕ) → length ls ≡ length ms → length ls ≡ length ds → AreDepthsOf ls ms ds
    → partners_in x ls ds ≡ partners (sites_at ls ms) x
partners_same x ls ms ds e f a =
    let ss : List Site = sites_at ls ms in
    let os : List (Option ℕ) = move_depths ls ds in
    let E : ℕ → List ℕ = λ i. ends_of x (line_at ls i) in
    let G : ℕ = greatest (map depth_of_site ss) in
    let one : (d : ℕ) → flat_map E (at_depth d 0 os) ≡ flat_map (partners_at x d) ss =
    λ d. level_is x d E 0 ls ms ds e f a (λ k l p. (let z : 0 + k ≡ k = omega arith in ap E z) ∙ ap (ends_of x) (get_or_from_slice_get ls k l (label 0) p)) in
    flat_flat (λ d. at_depth d 0 os) E (down (levels os))
    ∙ (flat_same (λ d. flat_map E (at_depth d 0 os)) (λ d. flat_map (partners_at x d) ss) (down (levels os)) one
    ∙ (flat_bounds (λ d. flat_map (partners_at x d) ss) (levels os) (suc G) (λ d l. sym (one d) ∙ ap (flat_map E) (past_levels d 0 os l))
    (λ d l. past_sites x d ss (omega arith))
    ∙ ap (flat_map (λ d. flat_map (partners_at x d) ss)) (sym (down_is G))))
