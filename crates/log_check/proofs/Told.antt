-- What each stage says of a log, as what the judge says of it.
use Rattle.std.proofs.Common.{◌≡◌, ℕ, List, sym, subst}
use Rattle.c_typed.specs.Typed.{ProgramTree}
use Rattle.g_graph.specs.Plain.{PlainOmega}
use Rattle.g_build_def.specs.Functions.{names}
use Rattle.g_build_def.specs.Functions as built
use Rattle.s_linear.specs.declared.frame.CodeForm.{CodeForm}
use Rattle.cc_emit.specs.Image.{file_of_program}
use Rattle.cc_source.specs.Accepted.{Accepts}
use Rattle.cc_source.specs.Meaning.{KeepsMeaning}
use Rattle.log_check.specs.Log.{PlainPart}
use Rattle.log_check.specs.Fault.{IsReplayFault}
use Rattle.log_check.specs.declared.replay_fault.ReplayFault.{ReplayFault}
use Rattle.log_check.specs.declared.replay_fault.ReplayFault.TheVariants as replay_fault
use Rattle.log_check.specs.Faults.{of_replay}
use Rattle.log_check.specs.Judgement.{names_of_log, Certifies, IsCertified, IsImageOf, IsJudgeFault, IsLogFault, IsMisnamed, IsPartFault, IsRead}
use Rattle.log_check.specs.declared.judge_fault.JudgeFault.{JudgeFault}
use Rattle.log_check.specs.declared.judge_fault.JudgeFault.TheVariants.{Source, LongLog, BadLine, BadFunction, BadCount, BadStep, OtherImage, NoMemory}

-- ---- what is wrong

pub of-replay : (e : ReplayFault) (o : PlainOmega) (form : CodeForm) (log : List PlainPart) (image : List ℕ) → IsReplayFault o.lambdas log e → IsPartFault (of_replay e) o form log image
of-replay (replay_fault.BadCount line) o form log image h = h
of-replay (replay_fault.BadStep line) o form log image h = h
of-replay replay_fault.NoMemory o form log image h = tt

pub of-name : (line : ℕ) (p : ProgramTree) (form : CodeForm) (log image : List ℕ) (functions : List PlainPart) → IsRead log functions → IsMisnamed p functions line →
    IsLogFault (BadFunction line) p form log image
of-name line p form log image functions read wrong = record { functions = functions; read = read; wrong = wrong }

pub of-part : (e : JudgeFault) (p : ProgramTree) (form : CodeForm) (log image : List ℕ) (functions : List PlainPart) → IsRead log functions → names_of_log functions ≡ names p →
    IsPartFault e (built.omega p) form functions image → IsLogFault e p form log image
of-part (Source e) p form log image functions read named h = h
of-part LongLog p form log image functions read named h = absurd h
of-part (BadLine line) p form log image functions read named h = absurd h
of-part (BadFunction line) p form log image functions read named h = absurd h
of-part (BadCount line) p form log image functions read named h = record { functions = functions; read = read; named = named; wrong = h }
of-part (BadStep line) p form log image functions read named h = record { functions = functions; read = read; named = named; wrong = h }
of-part (OtherImage byte) p form log image functions read named h = record { functions = functions; read = read; named = named; wrong = h }
of-part NoMemory p form log image functions read named h = tt

pub of-log : (e : JudgeFault) (source : List ℕ) (form : CodeForm) (log image : List ℕ) (p : ProgramTree) → Accepts source p → IsLogFault e p form log image → IsJudgeFault e source form log image
of-log (Source e) source form log image p accepted h = absurd h
of-log LongLog source form log image p accepted h = (p, accepted, h)
of-log (BadLine line) source form log image p accepted h = (p, accepted, h)
of-log (BadFunction line) source form log image p accepted h = (p, accepted, h)
of-log (BadCount line) source form log image p accepted h = (p, accepted, h)
of-log (BadStep line) source form log image p accepted h = (p, accepted, h)
of-log (OtherImage byte) source form log image p accepted h = (p, accepted, h)
of-log NoMemory source form log image p accepted h = tt

-- ---- what is right

pub certified : (p : ProgramTree) (form : CodeForm) (log image : List ℕ) (functions : List PlainPart) → IsRead log functions → names_of_log functions ≡ names p →
    IsImageOf (built.omega p) form functions image → IsCertified p form log image
certified p form log image functions read named h =
    record { functions = functions; read = read; named = named; lambdas = h.lambdas; right = h.right; file = h.file }

-- the image keeps the meaning of the source where that of its lambdas does
pub keeps : (source : List ℕ) (form : CodeForm) (log image : List ℕ) (p : ProgramTree) → Accepts source p → (c : IsCertified p form log image) → KeepsMeaning form p c.lambdas (file_of_program form (built.omega p) c.lambdas) →
    (c : Certifies source form log image) × KeepsMeaning form c.program c.certified.lambdas image
keeps source form log image p accepted c kept =
    (record { program = p; accepted = accepted; certified = c }, subst (λ bytes. KeepsMeaning form p c.lambdas bytes) (sym c.file) kept)
