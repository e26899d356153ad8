-- When a log certifies an image of a source, and what is wrong where it does not.
use Rattle.std.specs.Prelude.{◌≡◌, ◌≢◌, ℕ, suc, ◌<◌, ◌≤◌, List, map, take, length}
use Rattle.c_typed.specs.Typed.{ProgramTree}
use Rattle.g_graph.specs.Plain.{PlainLambda, PlainOmega}
use Rattle.g_build_def.specs.Functions.{graph, names, omega}
use Rattle.s_linear.specs.declared.frame.CodeForm.{CodeForm}
use Rattle.cc_emit.specs.Image.{file_of_program}
use Rattle.cc_source.specs.Accepted.{Accepts, Refuses}
use Rattle.cc_source.specs.declared.fault.CompileFault.TheVariants as source_fault
use Rattle.log_check.specs.Log.{line_count, most_log_bytes, parts_of, rows_of, BreaksAt, IsLogOf, PlainPart}
use Rattle.log_check.specs.Right.{AreRight}
use Rattle.log_check.specs.Fault.{IsReplayFault}
use Rattle.log_check.specs.declared.replay_fault.ReplayFault.TheVariants as replay_fault
use Rattle.log_check.specs.Parting.{PartAt}
use Rattle.log_check.specs.declared.judge_fault.JudgeFault.{JudgeFault}
use Rattle.log_check.specs.declared.judge_fault.JudgeFault.TheVariants.{Source, LongLog, BadLine, BadFunction, BadCount, BadStep, OtherImage, NoMemory}

-- These bytes are not too many, and a log that says this of functions, with the numbers of their lines.
pub record IsRead (bytes : List ℕ) (log : List PlainPart) : Type 0 where
  pub short : length bytes ≤ most_log_bytes
  pub text : IsLogOf (rows_of log) bytes
  pub lines : log ≡ parts_of (rows_of log)

abbrev pub names_of_log : List PlainPart → List (List ℕ)
names_of_log log = map (λ (p : PlainPart). p.name) log

-- The image, in a form of code, is that of lambdas that the log's steps make of the program's, and the log has the counts of both.
pub record IsImageOf (o : PlainOmega) (form : CodeForm) (log : List PlainPart) (image : List ℕ) : Type 0 where
  pub lambdas : List PlainLambda
  pub right : AreRight o.lambdas log lambdas
  pub file : image ≡ file_of_program form o lambdas

-- The log has the functions of a program by name, in source order; its steps make lambdas of the built ones with the counts
-- that it has, and the image is that of these lambdas.
pub record IsCertified (p : ProgramTree) (form : CodeForm) (log image : List ℕ) : Type 0 where
  pub functions : List PlainPart
  pub read : IsRead log functions
  pub named : names_of_log functions ≡ names p
  pub lambdas : List PlainLambda
  pub right : AreRight (graph p) functions lambdas
  pub file : image ≡ file_of_program form (omega p) lambdas

-- The source is accepted, and the log certifies the image of its program in a form of code.
pub record Certifies (source : List ℕ) (form : CodeForm) (log image : List ℕ) : Type 0 where
  pub program : ProgramTree
  pub accepted : Accepts source program
  pub certified : IsCertified program form log image

-- ---- what is wrong

-- the line of the log's function of this index, or behind its last line
abbrev pub line_of : List PlainPart → (index : ℕ) → ℕ
line_of log index = suc (line_count (rows_of (take index log)))

-- At this line the names of the log part from those of the program.
pub record IsMisnamed (p : ProgramTree) (log : List PlainPart) (line : ℕ) : Type 0 where
  pub index : ℕ
  pub names : PartAt (names_of_log log) (names p) index
  pub line_is : line ≡ line_of log index

-- At this byte the image parts from that of the lambdas that the log's steps make.
pub record IsOtherImage (o : PlainOmega) (form : CodeForm) (log : List PlainPart) (image : List ℕ) (byte : ℕ) : Type 0 where
  pub lambdas : List PlainLambda
  pub right : AreRight o.lambdas log lambdas
  pub bytes : PartAt image (file_of_program form o lambdas) byte

-- what is wrong of a log that has the names of the program's functions
abbrev pub IsPartFault : JudgeFault → PlainOmega → CodeForm → (log : List PlainPart) → (image : List ℕ) → Type 0
IsPartFault (BadCount line) o form log image = IsReplayFault o.lambdas log (replay_fault.BadCount line)
IsPartFault (BadStep line) o form log image = IsReplayFault o.lambdas log (replay_fault.BadStep line)
IsPartFault (OtherImage byte) o form log image = IsOtherImage o form log image byte
IsPartFault NoMemory o form log image = Unit {0}
IsPartFault fault o form log image = ⊥

-- such a log, and what is wrong of it
pub record IsNamedFault (fault : JudgeFault) (p : ProgramTree) (form : CodeForm) (log image : List ℕ) : Type 0 where
  pub functions : List PlainPart
  pub read : IsRead log functions
  pub named : names_of_log functions ≡ names p
  pub wrong : IsPartFault fault (omega p) form functions image

-- a log that has other names
pub record IsNameFault (p : ProgramTree) (log : List ℕ) (line : ℕ) : Type 0 where
  pub functions : List PlainPart
  pub read : IsRead log functions
  pub wrong : IsMisnamed p functions line

-- The first of these that applies to a program: the log is too long; a line breaks its form; its names are others; what it
-- says of functions is wrong, by rank, and within a rank by number; the image is another one.
abbrev pub IsLogFault : JudgeFault → ProgramTree → (form : CodeForm) (log image : List ℕ) → Type 0
IsLogFault (Source e) p form log image = ⊥
IsLogFault LongLog p form log image = most_log_bytes < length log
IsLogFault (BadLine line) p form log image = (length log ≤ most_log_bytes) × BreaksAt line log
IsLogFault (BadFunction line) p form log image = IsNameFault p log line
IsLogFault NoMemory p form log image = Unit {0}
IsLogFault fault p form log image = IsNamedFault fault p form log image

-- A refused source comes before all others. Want of memory may come in place of any answer.
abbrev pub IsJudgeFault : JudgeFault → (source : List ℕ) (form : CodeForm) (log image : List ℕ) → Type 0
IsJudgeFault (Source e) source form log image = (e ≢ source_fault.NoMemory) × Refuses e source
IsJudgeFault NoMemory source form log image = Unit {0}
IsJudgeFault fault source form log image = (p : ProgramTree) × Accepts source p × IsLogFault fault p form log image
