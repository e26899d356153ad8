-- What is put together by these rules is well formed.
use Rattle.std.specs.Prelude.{◌≡◌, ◌<◌, ℕ, true, List, ◌∷◌, [], ◌++◌, length, replicate}
use Rattle.g_graph.specs.declared.op.Kind.TheVariants.{Value, Memory, Io}
use Rattle.g_graph.specs.declared.op.Op.{Op}
use Rattle.g_graph.specs.declared.op.Op.TheVariants.{Local, Delta, Load, Store, Clear, Apply}
use Rattle.g_graph.specs.Plain.{PlainObject, PlainLambda}
use Rattle.g_graph.specs.Lists.{RegionOps, HasCallee, Calls, NamesGlobal}
use Rattle.g_graph.specs.WellFormed.{all_of, is_width, leaves_fit, IsWellFormed}
use Rattle.g_build_keeps.specs.Formation.{RegionForms}

-- The op, with so many inputs, has a width of an access, and names an object, a global or a function that is there.
abbrev pub OpFits : List PlainLambda → (globals objects : ℕ) → Op → (count : ℕ) → Type 0
OpFits ls globals objects (Local k) n = k < objects
OpFits ls globals objects (Clear k) n = k < objects
OpFits ls globals objects (Load w) n = is_width w ≡ true
OpFits ls globals objects (Store w) n = is_width w ≡ true
OpFits ls globals objects (Delta k) n = k < globals
OpFits ls globals objects (Apply f) n = HasCallee ls f n
OpFits ls globals objects op n = Unit {0}

-- a lambda among these whose body is put together by the rules, and the leaves of whose objects fit
pub record LambdaForms (ls : List PlainLambda) (globals : ℕ) (l : PlainLambda) : Type 0 where
  pub body : RegionForms (OpFits ls globals (length l.objects)) 0 (replicate l.params Value ++ Memory ∷ Io ∷ []) (Value ∷ Memory ∷ Io ∷ []) l.body l.next
  pub leaves : all_of (λ (o : PlainObject). leaves_fit o.size 0 o.leaves) l.objects ≡ true

-- Such a lambda is well formed, calls lambdas among these, and names globals of which there are so many.
abbrev pub FormedIsWellFormed : Type 0
FormedIsWellFormed =
    (ls : List PlainLambda) (globals : ℕ) (l : PlainLambda) → LambdaForms ls globals l →
    IsWellFormed l × RegionOps (Calls ls) l.body × RegionOps (NamesGlobal globals) l.body
