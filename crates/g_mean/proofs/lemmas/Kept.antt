-- What a relation of data has to keep, for regions to keep it.
use Rattle.std.proofs.Common.{◌≡◌, ℕ, zero, suc, List, [], ◌∷◌, ◌++◌, map}
use Rattle.val_core.specs.declared.values.Value.TheVariants.{Num, Bad}
use Rattle.val_core.specs.Memory.{Memory, BlockShape, closed}
use Rattle.val_core.specs.Refinement.{Direction, Comparison, Refines}
use Rattle.val_core.specs.Objects.{Addresses, opened, address_in}
use Rattle.g_graph.specs.declared.op.Op.{Op}
use Rattle.g_graph.specs.declared.op.Origin.{Origin}
use Rattle.g_graph.specs.declared.op.Origin.TheVariants.{Arg, Out}
use Rattle.g_mean.specs.Data.{Datum, val, memory, at_port, value_of, with_memory}
use Rattle.g_mean.specs.Meaning.{done, Outputs, read}
use Rattle.g_mean.specs.LessDefined.{Paired}
use Rattle.g_mean.specs.Refining.{Compares}

pub record AddressesRefine (N : Datum → Datum → Type 0) (e f : Addresses) : Type 0 where
  pub locals : (k : ℕ) → N (val (e.local k)) (val (f.local k))
  pub globals : (k : ℕ) → N (val (e.global k)) (val (f.global k))

pub record IsKept (N : Datum → Datum → Type 0) : Type 1 where
  pub nothing : N (val Bad) (val Bad)
  pub number : (x y : Datum) → N x y → (w : ℕ) → value_of x ≡ Num w → value_of y ≡ Num w
  pub state : (x y : Datum) → N x y → (m : Memory) → x ≡ memory m → y ≡ memory m
  pub opens : (x y : Datum) → N x y → (ss : List BlockShape) → N (with_memory (λ k. k ++ opened ss) x) (with_memory (λ k. k ++ opened ss) y)
  pub closes : (x y : Datum) → N x y → (first count : ℕ) → N (with_memory (closed first count) x) (with_memory (closed first count) y)
  pub address : (base : ℕ) (sizes : List ℕ) (k : ℕ) → N (val (address_in base sizes k)) (val (address_in base sizes k))
  pub plain : (cmp : Comparison) → Compares cmp → (direction : Direction) (e f : Addresses) → AddressesRefine N e f → (op : Op) (xs ys : List Datum) → Paired N xs ys →
      Refines cmp direction (Paired N) (done e op xs) (done f op ys)

-- ---- ports and outputs

pub paired-at : (N : Datum → Datum → Type 0) → IsKept N → (xs ys : List Datum) → Paired N xs ys → (k : ℕ) → N (at_port xs k) (at_port ys k)
paired-at N p [] [] h k = p.nothing
paired-at N p (x ∷ xs) (y ∷ ys) h zero = h.0
paired-at N p (x ∷ xs) (y ∷ ys) h (suc k) = paired-at N p xs ys h.1 k
paired-at N p [] (y ∷ ys) h k = absurd h
paired-at N p (x ∷ xs) [] h k = absurd h

abbrev pub OutputsRefine : (N : Datum → Datum → Type 0) → Outputs → Outputs → Type 0
OutputsRefine N o p = (n q : ℕ) → N (o n q) (p n q)

pub read-refines : (N : Datum → Datum → Type 0) → IsKept N → (xs ys : List Datum) → Paired N xs ys → (o p : Outputs) → OutputsRefine N o p → (a : Origin) → N (read xs o a) (read ys p a)
read-refines N k xs ys h o p g (Arg n) = paired-at N k xs ys h n
read-refines N k xs ys h o p g (Out n q) = g n q

pub reads-refines : (N : Datum → Datum → Type 0) → IsKept N → (xs ys : List Datum) → Paired N xs ys → (o p : Outputs) → OutputsRefine N o p → (origins : List Origin) →
    Paired N (map (read xs o) origins) (map (read ys p) origins)
reads-refines N k xs ys h o p g [] = tt
reads-refines N k xs ys h o p g (a ∷ origins) = (read-refines N k xs ys h o p g a, reads-refines N k xs ys h o p g origins)
