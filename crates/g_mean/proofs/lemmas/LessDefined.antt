-- Less defined sound data give less defined data.
use Rattle.std.proofs.Common.{◌≡◌, ℕ, zero, suc, ◌%◌, ◌^◌, ◌<◌, ◌==◌, ◌&&◌, ◌⊎◌, Bool, true, false, cond, List, [], ◌∷◌, ◌++◌, Option, None, Some, option_map, refl, sym, ap, ap₂, subst, ◌∙◌, inl, inr, lit<, lit≤, mod-lt, lt_of_lt_of_le}
use Rattle.std.specs.Option.{IfSome}
use Rattle.val_core.specs.declared.values.Value.{Value}
use Rattle.val_core.specs.declared.values.Value.TheVariants.{Num, At, Bad}
use Rattle.val_core.specs.Words.{one_if}
use Rattle.val_core.specs.Values.{IsLessDefined, IsSound, same_block, value1, value2}
use Rattle.val_core.specs.Memory.{Memory, load, store, takes_store, block_named, block_changed, is_live, written, closed, pointers_equal, IsSoundMemory, cleared_at}
use Rattle.val_core.specs.Events.{wrote, took}
use Rattle.val_core.specs.Refinement.{Direction, Comparison, Refines}
use Rattle.val_core.specs.Answers.{Answer, Returned, Exited, on_number, on_defined}
use Rattle.val_core.specs.Objects.{Addresses, opened, address_in}
use Rattle.val_core.proofs.lemmas.Values.{keeps_less_defined1, keeps_less_defined2, keeps_sound1, keeps_sound2}
use Rattle.val_core.proofs.lemmas.Objects.{opened_is_sound, addresses_are_sound}
use Rattle.val_laws.proofs.lemmas.Sound.{load_is_sound, store_is_sound, clear_is_sound, closed_is_sound}
use Rattle.g_graph.specs.declared.op.Op.{Op}
use Rattle.g_graph.specs.declared.op.Op.TheVariants.{Const, Undef, Local, Delta, Bin, Un, Load, Store, Clear, PtrEq, Put, Exit, Get}
use Rattle.g_mean.specs.Data.{Datum, val, memory, input, at_port, value_of, value_at, on_memory, on_input, with_memory}
use Rattle.g_mean.specs.Meaning.{done, given, given_memory, got}
use Rattle.g_mean.specs.LessDefined.{Paired, AreBytes, IsSoundDatum, IsLessDefinedDatum}
use Rattle.g_mean.specs.Refining.{Compares}
use Rattle.g_mean.proofs.lemmas.Kept.{AddressesRefine, IsKept}

abbrev LessDefinedValue : Value → Value → Type 0
LessDefinedValue u v = IsLessDefined u v × IsSound u × IsSound v

pub value-sound : (x : Datum) → IsSoundDatum x → IsSound (value_of x)
value-sound (val v) s = s
value-sound (memory m) s = tt
value-sound (input i) s = tt

less-value : (x y : Datum) → IsLessDefinedDatum x y → LessDefinedValue (value_of x) (value_of y)
less-value x y h = (by h.0, value-sound x h.1, value-sound y h.2)
  where
    by : (x ≡ y) ⊎ (x ≡ val Bad) → IsLessDefined (value_of x) (value_of y)
    by (inl e) = inl (ap value_of e)
    by (inr e) = inr (ap value_of e)

less-datum : (u v : Value) → LessDefinedValue u v → IsLessDefinedDatum (val u) (val v)
less-datum u v h = (by h.0, h.1, h.2)
  where
    by : IsLessDefined u v → (val u ≡ val v) ⊎ (val u ≡ val Bad)
    by (inl e) = inl (ap val e)
    by (inr e) = inr (ap val e)

-- an option of the nearer side is the farther one, or nothing
abbrev Less : {X : Type 0} → Option X → Option X → Type 0
Less a b = (a ≡ b) ⊎ (a ≡ None)

pick : {X : Type 0} (test : Bool) (P : X → Type 0) (x y : X) → P x → P y → P (cond test x y)
pick true P x y p q = p
pick false P x y p q = q

-- ---- what is undefined without a value

either : {X : Type 0} (test : Bool) (x : X) → cond test x x ≡ x
either true x = refl
either false x = refl

store-bad : (w : ℕ) (a : Value) (m : Memory) → store w a Bad m ≡ None
store-bad w (Num a) m = refl
store-bad w Bad m = refl
store-bad w (At b o) m =
    ap (option_map (λ v. block_changed b.number (written w o v) m)) (either (takes_store w o (block_named b m)) None)

load-less : (w : ℕ) (u v : Value) (m : Memory) → IsLessDefined u v → Less (load w u m) (load w v m)
load-less w u v m (inl e) = inl (ap (λ a. load w a m) e)
load-less w u v m (inr e) = inr (ap (λ a. load w a m) e)

store-less : (w : ℕ) (a b u v : Value) (m : Memory) → IsLessDefined a b → IsLessDefined u v → Less (store w a u m) (store w b v m)
store-less w a b u v m (inr e) k = inr (ap (λ x. store w x u m) e)
store-less w a b u v m (inl e) (inr d) = inr (ap (λ x. store w a x m) d ∙ store-bad w a m)
store-less w a b u v m (inl e) (inl d) = inl (ap₂ (λ x y. store w x y m) e d)

clear-less : (u v : Value) (m : Memory) → IsLessDefined u v → Less (cleared_at u m) (cleared_at v m)
clear-less u v m (inl e) = inl (ap (λ a. cleared_at a m) e)
clear-less u v m (inr e) = inr (ap (λ a. cleared_at a m) e)

equal-bad : (u : Value) (m : Memory) → pointers_equal u Bad m ≡ None
equal-bad (Num a) m = refl
equal-bad (At b o) m = refl
equal-bad Bad m = refl

pointers-less : (a b u v : Value) (m : Memory) → IsLessDefined a b → IsLessDefined u v → Less (pointers_equal a u m) (pointers_equal b v m)
pointers-less a b u v m (inr e) k = inr (ap (λ x. pointers_equal x u m) e)
pointers-less a b u v m (inl e) (inr d) = inr (ap (λ x. pointers_equal a x m) d ∙ equal-bad a m)
pointers-less a b u v m (inl e) (inl d) = inl (ap₂ (λ x y. pointers_equal x y m) e d)

one-small : (test : Bool) → one_if test < 2 ^ 32
one-small true = lit< tt
one-small false = lit< tt

pointers-small : (u v : Value) (m : Memory) → IfSome (pointers_equal u v m) (λ n. n < 2 ^ 32)
pointers-small (Num a) (Num b) m = one-small (a == b)
pointers-small (At b o) (Num w) m = pick (w == 0) (λ x. IfSome x (λ n. n < 2 ^ 32)) (Some 0) None (lit< tt) tt
pointers-small (Num w) (At b o) m = pick (w == 0) (λ x. IfSome x (λ n. n < 2 ^ 32)) (Some 0) None (lit< tt) tt
pointers-small (At b o) (At c p) m =
    pick (is_live (block_named b m) && is_live (block_named c m)) (λ x. IfSome x (λ n. n < 2 ^ 32)) (Some (one_if (same_block b c && (o == p)))) None (one-small (same_block b c && (o == p))) tt
pointers-small (Num w) Bad m = tt
pointers-small (At b o) Bad m = tt
pointers-small Bad v m = tt

clear-sound : (u : Value) (m : Memory) → IsSoundMemory m → IfSome (cleared_at u m) IsSoundMemory
clear-sound (At b o) m s = clear_is_sound b m s
clear-sound (Num w) m s = tt
clear-sound Bad m s = tt

-- ---- blocks

changed-datum : (f : Memory → Memory) → ((m : Memory) → IsSoundMemory m → IsSoundMemory (f m)) → (x : Datum) → IsSoundDatum x → IsSoundDatum (with_memory f x)
changed-datum f h (memory m) s = h m s
changed-datum f h (val v) s = s
changed-datum f h (input i) s = s

changed-less : (f : Memory → Memory) → ((m : Memory) → IsSoundMemory m → IsSoundMemory (f m)) → (x y : Datum) → IsLessDefinedDatum x y → IsLessDefinedDatum (with_memory f x) (with_memory f y)
changed-less f h x y near = (by near.0, changed-datum f h x near.1, changed-datum f h y near.2)
  where
    by : (x ≡ y) ⊎ (x ≡ val Bad) → (with_memory f x ≡ with_memory f y) ⊎ (with_memory f x ≡ val Bad)
    by (inl e) = inl (ap (with_memory f) e)
    by (inr e) = inr (ap (with_memory f) e)

less-itself : (v : Value) → IsSound v → IsLessDefinedDatum (val v) (val v)
less-itself v s = (inl refl, s, s)

-- ---- what an op does

module _ (cmp : Comparison) (g : Compares cmp) (direction : Direction) where
  given-refines : (u v : Value) → LessDefinedValue u v → Refines cmp direction (Paired IsLessDefinedDatum) (given u) (given v)
  given-refines u v h = ((less-datum u v h, tt), g.goes.nothing)

  memory-refines : (m : Memory) → IsSoundMemory m → Refines cmp direction (Paired IsLessDefinedDatum) (given_memory m) (given_memory m)
  memory-refines m s = (((inl refl, s, s), tt), g.goes.nothing)

  on_memory-refines : (x y : Datum) → IsLessDefinedDatum x y → (f h : Memory → Answer (List Datum)) →
      ((m : Memory) → IsSoundMemory m → Refines cmp direction (Paired IsLessDefinedDatum) (f m) (h m)) → Refines cmp direction (Paired IsLessDefinedDatum) (on_memory x f) (on_memory y h)
  on_memory-refines (val v) y near f h like = tt
  on_memory-refines (input i) y near f h like = tt
  on_memory-refines (memory m) y near f h like = by near.0
    where
      by : (memory m ≡ y) ⊎ (memory m ≡ val Bad) → Refines cmp direction (Paired IsLessDefinedDatum) (f m) (on_memory y h)
      by (inl e) = subst (λ z. Refines cmp direction (Paired IsLessDefinedDatum) (f m) (on_memory z h)) e (like m near.1)
      by (inr e) = absurd cc

  on_input-refines : (x y : Datum) → IsLessDefinedDatum x y → (f h : List ℕ → Answer (List Datum)) → ((i : List ℕ) → AreBytes i → Refines cmp direction (Paired IsLessDefinedDatum) (f i) (h i)) →
      Refines cmp direction (Paired IsLessDefinedDatum) (on_input x f) (on_input y h)
  on_input-refines (val v) y near f h like = tt
  on_input-refines (memory m) y near f h like = tt
  on_input-refines (input i) y near f h like = by near.0
    where
      by : (input i ≡ y) ⊎ (input i ≡ val Bad) → Refines cmp direction (Paired IsLessDefinedDatum) (f i) (on_input y h)
      by (inl e) = subst (λ z. Refines cmp direction (Paired IsLessDefinedDatum) (f i) (on_input z h)) e (like i near.1)
      by (inr e) = absurd cc

  on_word-refines : (u v : Value) → IsLessDefined u v → (f h : ℕ → Answer (List Datum)) → ((w : ℕ) → Refines cmp direction (Paired IsLessDefinedDatum) (f w) (h w)) →
      Refines cmp direction (Paired IsLessDefinedDatum) (on_number u f) (on_number v h)
  on_word-refines (At b o) v near f h like = tt
  on_word-refines Bad v near f h like = tt
  on_word-refines (Num w) v near f h like = by near
    where
      by : IsLessDefined (Num w) v → Refines cmp direction (Paired IsLessDefinedDatum) (f w) (on_number v h)
      by (inl e) = subst (λ z. Refines cmp direction (Paired IsLessDefinedDatum) (f w) (on_number z h)) e (like w)
      by (inr e) = absurd cc

  on_defined-refines : {X : Type 0} (P : X → Type 0) (a b : Option X) → Less a b → IfSome a P → (f h : X → Answer (List Datum)) →
      ((x : X) → P x → Refines cmp direction (Paired IsLessDefinedDatum) (f x) (h x)) → Refines cmp direction (Paired IsLessDefinedDatum) (on_defined a f) (on_defined b h)
  on_defined-refines P None b less s f h like = tt
  on_defined-refines P (Some x) b less s f h like = by less
    where
      by : Less (Some x) b → Refines cmp direction (Paired IsLessDefinedDatum) (f x) (on_defined b h)
      by (inl e) = subst (λ z. Refines cmp direction (Paired IsLessDefinedDatum) (f x) (on_defined z h)) e (like x s)
      by (inr e) = absurd cc

  got-refines : (i : List ℕ) → AreBytes i → Refines cmp direction (Paired IsLessDefinedDatum) (got i) (got i)
  got-refines [] s = (((inl refl, lit< tt, lit< tt), ((inl refl, tt, tt), tt)), g.goes.nothing)
  got-refines (b ∷ i) s =
      let small : b < 2 ^ 32 = lt_of_lt_of_le s.0 (lit≤ tt) in
      (((inl refl, small, small), ((inl refl, s.1, s.1), tt)), g.itself (took b ∷ []))

  plain-refines : (e f : Addresses) → AddressesRefine IsLessDefinedDatum e f → (op : Op) (xs ys : List Datum) → Paired IsLessDefinedDatum xs ys →
      ((k : ℕ) → IsLessDefinedDatum (at_port xs k) (at_port ys k)) → Refines cmp direction (Paired IsLessDefinedDatum) (done e op xs) (done f op ys)
  plain-refines e f h (Const w) xs ys near at =
      given-refines (Num (w % 2 ^ 32)) (Num (w % 2 ^ 32)) (inl refl, mod-lt w (lit< tt), mod-lt w (lit< tt))
  plain-refines e f h Undef xs ys near at = given-refines Bad Bad (inl refl, tt, tt)
  plain-refines e f h (Local k) xs ys near at = ((h.locals k, tt), g.goes.nothing)
  plain-refines e f h (Delta k) xs ys near at = ((h.globals k, tt), g.goes.nothing)
  plain-refines e f h (Bin op) xs ys near at =
      let a = less-value (at_port xs 0) (at_port ys 0) (at 0) in
      let b = less-value (at_port xs 1) (at_port ys 1) (at 1) in
      given-refines (value2 op (value_at xs 0) (value_at xs 1)) (value2 op (value_at ys 0) (value_at ys 1))
      (keeps_less_defined2 op _ _ _ _ a.0 b.0, keeps_sound2 op _ _ a.1 b.1, keeps_sound2 op _ _ a.2 b.2)
  plain-refines e f h (Un op) xs ys near at =
      let a = less-value (at_port xs 0) (at_port ys 0) (at 0) in
      given-refines (value1 op (value_at xs 0)) (value1 op (value_at ys 0)) (keeps_less_defined1 op _ _ a.0, keeps_sound1 op _ a.1, keeps_sound1 op _ a.2)
  plain-refines e f h (Load w) xs ys near at =
      let a = less-value (at_port xs 0) (at_port ys 0) (at 0) in
      on_memory-refines (at_port xs 1) (at_port ys 1) (at 1) (λ m. on_defined (load w (value_at xs 0) m) given) (λ m. on_defined (load w (value_at ys 0) m) given)
      (λ m s. on_defined-refines IsSound (load w (value_at xs 0) m) (load w (value_at ys 0) m) (load-less w (value_at xs 0) (value_at ys 0) m a.0) (load_is_sound w (value_at xs 0) m s) given given
      (λ v t. given-refines v v (inl refl, t, t)))
  plain-refines e f h (Store w) xs ys near at =
      let a = less-value (at_port xs 0) (at_port ys 0) (at 0) in
      let b = less-value (at_port xs 1) (at_port ys 1) (at 1) in
      on_memory-refines (at_port xs 2) (at_port ys 2) (at 2) (λ m. on_defined (store w (value_at xs 0) (value_at xs 1) m) given_memory)
      (λ m. on_defined (store w (value_at ys 0) (value_at ys 1) m) given_memory)
      (λ m s. on_defined-refines IsSoundMemory (store w (value_at xs 0) (value_at xs 1) m) (store w (value_at ys 0) (value_at ys 1) m)
      (store-less w (value_at xs 0) (value_at ys 0) (value_at xs 1) (value_at ys 1) m a.0 b.0) (store_is_sound w (value_at xs 0) (value_at xs 1) m s b.1) given_memory given_memory
      (λ k t. memory-refines k t))
  plain-refines e f h (Clear k) xs ys near at =
      let a = less-value (val (e.local k)) (val (f.local k)) (h.locals k) in
      on_memory-refines (at_port xs 0) (at_port ys 0) (at 0) (λ m. on_defined (cleared_at (e.local k) m) given_memory) (λ m. on_defined (cleared_at (f.local k) m) given_memory)
      (λ m s. on_defined-refines IsSoundMemory (cleared_at (e.local k) m) (cleared_at (f.local k) m) (clear-less (e.local k) (f.local k) m a.0)
      (clear-sound (e.local k) m s) given_memory given_memory (λ l t. memory-refines l t))
  plain-refines e f h PtrEq xs ys near at =
      let a = less-value (at_port xs 0) (at_port ys 0) (at 0) in
      let b = less-value (at_port xs 1) (at_port ys 1) (at 1) in
      on_memory-refines (at_port xs 2) (at_port ys 2) (at 2) (λ m. on_defined (pointers_equal (value_at xs 0) (value_at xs 1) m) (λ n. given (Num n)))
      (λ m. on_defined (pointers_equal (value_at ys 0) (value_at ys 1) m) (λ n. given (Num n)))
      (λ m s. on_defined-refines (λ n. n < 2 ^ 32) (pointers_equal (value_at xs 0) (value_at xs 1) m) (pointers_equal (value_at ys 0) (value_at ys 1) m)
      (pointers-less (value_at xs 0) (value_at ys 0) (value_at xs 1) (value_at ys 1) m a.0 b.0) (pointers-small (value_at xs 0) (value_at xs 1) m) (λ n. given (Num n)) (λ n. given (Num n))
      (λ n t. given-refines (Num n) (Num n) (inl refl, t, t)))
  plain-refines e f h Put xs ys near at =
      let a = less-value (at_port xs 0) (at_port ys 0) (at 0) in
      on_word-refines (value_at xs 0) (value_at ys 0) a.0 (λ w. on_input (at_port xs 1) (λ i. Returned (input i ∷ []) (wrote (w % 256) ∷ [])))
      (λ w. on_input (at_port ys 1) (λ i. Returned (input i ∷ []) (wrote (w % 256) ∷ [])))
      (λ w. on_input-refines (at_port xs 1) (at_port ys 1) (at 1) (λ i. Returned (input i ∷ []) (wrote (w % 256) ∷ [])) (λ i. Returned (input i ∷ []) (wrote (w % 256) ∷ []))
      (λ i s. (((inl refl, s, s), tt), g.itself (wrote (w % 256) ∷ []))))
  plain-refines e f h Exit xs ys near at =
      let a = less-value (at_port xs 0) (at_port ys 0) (at 0) in
      on_word-refines (value_at xs 0) (value_at ys 0) a.0 (λ w. Exited [] (w % 256)) (λ w. Exited [] (w % 256)) (λ w. (g.goes.nothing, refl))
  plain-refines e f h Get xs ys near at = on_input-refines (at_port xs 0) (at_port ys 0) (at 0) got got got-refines
  plain-refines e f h _ xs ys near at = tt

less-at : (xs ys : List Datum) → Paired IsLessDefinedDatum xs ys → (k : ℕ) → IsLessDefinedDatum (at_port xs k) (at_port ys k)
less-at [] [] h k = (inl refl, tt, tt)
less-at (x ∷ xs) (y ∷ ys) h zero = h.0
less-at (x ∷ xs) (y ∷ ys) h (suc k) = less-at xs ys h.1 k
less-at [] (y ∷ ys) h k = absurd h
less-at (x ∷ xs) [] h k = absurd h

less-number : (x y : Datum) → IsLessDefinedDatum x y → (w : ℕ) → value_of x ≡ Num w → value_of y ≡ Num w
less-number x y near w e = by near.0
  where
    by : (x ≡ y) ⊎ (x ≡ val Bad) → value_of y ≡ Num w
    by (inl d) = ap value_of (sym d) ∙ e
    by (inr d) = let bad : Num w ≡ Bad = sym e ∙ ap value_of d in absurd cc

less-state : (x y : Datum) → IsLessDefinedDatum x y → (m : Memory) → x ≡ memory m → y ≡ memory m
less-state x y near m e = by near.0
  where
    by : (x ≡ y) ⊎ (x ≡ val Bad) → y ≡ memory m
    by (inl d) = sym d ∙ e
    by (inr d) = let bad : memory m ≡ val Bad = sym e ∙ d in absurd cc

pub less-kept : IsKept IsLessDefinedDatum
less-kept =
    record {
      nothing = less-itself Bad tt;
      number = less-number;
      state = less-state;
      opens = λ x y near os. changed-less (λ k. k ++ opened os) (λ m s. opened_is_sound os m s) x y near;
      closes = λ x y near first count. changed-less (closed first count) (λ m s. closed_is_sound first count m s) x y near;
      address = λ base sizes k. less-itself (address_in base sizes k) (addresses_are_sound base sizes k);
      plain = λ cmp g direction e f h op xs ys near. plain-refines cmp g direction e f h op xs ys near (less-at xs ys near);
    }
