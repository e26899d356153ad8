-- Equality of data is kept.
use Rattle.std.proofs.Common.{◌≡◌, List, [], ◌∷◌, ◌++◌, refl, sym, ap, ap₂, subst, ◌∙◌, arith}
use Rattle.std.proofs.Math.Path.{fun_ext}
use Rattle.val_core.specs.declared.values.Value.{Value}
use Rattle.val_core.specs.Memory.{closed}
use Rattle.val_core.specs.Events.{output, IsPrefixOf}
use Rattle.val_core.specs.Refinement.{Direction, Forward, Backward, Comparison, Refines, exactly, no_deeper}
use Rattle.val_core.specs.Answers.{Answer, Returned, Cut, Exited, Undefined}
use Rattle.val_core.specs.Objects.{Addresses, opened}
use Rattle.val_core.proofs.lemmas.Events.{prefix-self}
use Rattle.val_core.proofs.lemmas.Refinement.{exactly-goes, no_deeper-goes}
use Rattle.g_graph.specs.declared.op.Op.{Op}
use Rattle.g_mean.specs.Data.{Datum, val, value_of, with_memory}
use Rattle.g_mean.specs.Meaning.{done}
use Rattle.g_mean.specs.LessDefined.{Paired}
use Rattle.g_mean.specs.Refining.{Compares}
use Rattle.g_mean.proofs.lemmas.Kept.{AddressesRefine, IsKept}

-- ---- the comparisons

pub exactly-compares : Compares exactly
exactly-compares =
    record {
      goes = exactly-goes;
      itself = λ o. refl;
      near = λ o p e. subst (λ q. IsPrefixOf o q) e (prefix-self o);
      far = λ o p e. subst (λ q. IsPrefixOf p q) (sym e) (prefix-self p);
    }

pub no_deeper-compares : Compares no_deeper
no_deeper-compares =
    record {
      goes = no_deeper-goes;
      itself = λ o. (refl, λ sizes. omega arith);
      near = λ o p e. subst (λ q. IsPrefixOf (output o) q) e.0 (prefix-self (output o));
      far = λ o p e. (subst (λ q. IsPrefixOf (output p) q) (sym e.0) (prefix-self (output p)), e.1);
    }

-- ---- equality

abbrev pub Equal : Datum → Datum → Type 0
Equal x y = x ≡ y

pub paired-equal : (xs ys : List Datum) → Paired Equal xs ys → xs ≡ ys
paired-equal [] [] h = refl
paired-equal (x ∷ xs) (y ∷ ys) h = ap₂ (λ z zs. z ∷ zs) h.0 (paired-equal xs ys h.1)
paired-equal [] (y ∷ ys) h = absurd h
paired-equal (x ∷ xs) [] h = absurd h

pub paired-itself : (xs : List Datum) → Paired Equal xs xs
paired-itself [] = tt
paired-itself (x ∷ xs) = (refl, paired-itself xs)

refines-itself : (cmp : Comparison) → Compares cmp → (direction : Direction) (a : Answer (List Datum)) → Refines cmp direction (Paired Equal) a a
refines-itself cmp g direction (Returned xs o) = (paired-itself xs, g.itself o)
refines-itself cmp g direction (Exited o s) = (g.itself o, refl)
refines-itself cmp g Forward (Cut o) = g.near o o (g.itself o)
refines-itself cmp g Backward (Cut o) = g.far o o (g.itself o)
refines-itself cmp g direction (Undefined o) = tt

val-inj : (u v : Value) → val u ≡ val v → u ≡ v
val-inj u v e = cc

addresses-equal : (e f : Addresses) → AddressesRefine Equal e f → e ≡ f
addresses-equal e f h =
    ap₂ (λ l g. record { local = l; global = g }) (fun_ext (λ k. val-inj (e.local k) (f.local k) (h.locals k))) (fun_ext (λ k. val-inj (e.global k) (f.global k) (h.globals k)))

equal-plain : (cmp : Comparison) → Compares cmp → (direction : Direction) (e f : Addresses) → AddressesRefine Equal e f → (op : Op) (xs ys : List Datum) → Paired Equal xs ys →
    Refines cmp direction (Paired Equal) (done e op xs) (done f op ys)
equal-plain cmp g direction e f h op xs ys near =
    subst (λ a. Refines cmp direction (Paired Equal) (done e op xs) a) (ap₂ (λ d zs. done d op zs) (addresses-equal e f h) (paired-equal xs ys near)) (refines-itself cmp g direction (done e op xs))

pub equal-kept : IsKept Equal
equal-kept =
    record {
      nothing = refl;
      number = λ x y e w h. ap value_of (sym e) ∙ h;
      state = λ x y e m h. sym e ∙ h;
      opens = λ x y e os. ap (with_memory (λ k. k ++ opened os)) e;
      closes = λ x y e first count. ap (with_memory (closed first count)) e;
      address = λ base sizes k. refl;
      plain = equal-plain;
    }
