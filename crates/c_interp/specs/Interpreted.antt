-- What a call of the interpreter answers, and what it leaves.
use Rattle.std.specs.Prelude.{◌≡◌, ℕ, List, take, Option, IfSome}
use Rattle.cc_io.specs.Sink.{append}
use Rattle.cc_io.specs.Source.{prepend}
use Rattle.c_typed.specs.Typed.{ProgramTree}
use Rattle.c_mean.specs.Run as run
use Rattle.c_mean.specs.Run.{Heard, heard}
use Rattle.c_interp.specs.declared.stop.Ending.{Ending}
use Rattle.c_interp.specs.declared.stop.Ending.TheVariants.{Exit, Cut, Undefined, ReadFault, WriteFault}

-- what the output holds and what the input has left, where they are known
pub record Streams : Type 0 where
  pub held : Option (List ℕ)
  pub left : Option (List ℕ)

-- where what is left is known, it is these bytes
abbrev pub IsLeft : Option (List ℕ) → List ℕ → Type 0
IsLeft left bytes = IfSome left (λ known. known ≡ bytes)

-- The run was heard to its end. Bytes were taken from the front of the input alone.
pub record IsHeard (h : Heard) (e : run.Ending) (before after : Streams) : Type 0 where
  pub ending : h.ending ≡ e
  pub output : after.held ≡ append before.held h.output
  pub taken : List ℕ
  pub rest : before.left ≡ prepend taken after.left
  pub unread : IsLeft after.left h.rest

-- The run was given up: the output has gained a prefix of what it writes.
pub record IsHeardInPart (h : Heard) (before after : Streams) : Type 0 where
  pub written : ℕ
  pub output : after.held ≡ append before.held (take written h.output)
  pub taken : List ℕ
  pub rest : before.left ≡ prepend taken after.left

-- the run of this program with some input, the one that is left where it is known
abbrev pub IsSomeRun : (bound : ℕ) → ProgramTree → run.Ending → (before after : Streams) → Type 0
IsSomeRun bound p ending before after = (input : List ℕ) × IsLeft before.left input × IsHeard (heard bound p input) ending before after

abbrev pub IsPart : (bound : ℕ) → ProgramTree → (before after : Streams) → Type 0
IsPart bound p before after = (input : List ℕ) × IsLeft before.left input × IsHeardInPart (heard bound p input) before after

-- what each ending says
abbrev pub HasEnded : (bound : ℕ) → ProgramTree → (before after : Streams) → (read_failed write_failed : Type 0) → Ending → Type 0
HasEnded bound p before after reads writes (Exit status) = IsSomeRun bound p (run.exit status) before after
HasEnded bound p before after reads writes Cut = IsSomeRun bound p run.cut before after
HasEnded bound p before after reads writes Undefined = IsSomeRun bound p run.undefined before after
HasEnded bound p before after reads writes ReadFault = reads × IsPart bound p before after
HasEnded bound p before after reads writes WriteFault = writes × IsPart bound p before after
