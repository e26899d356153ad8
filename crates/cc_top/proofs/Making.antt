-- An image that is made anew does what the source of the session does.
use Rattle.std.proofs.Common.{ℕ, List, sym, subst}
use Rattle.cc_emit.specs.Image.{lambdas_of}
use Rattle.cc_source.specs.Meaning.{KeepsMeaning}
use Rattle.cc_source.specs.SourceLaws.{AreBytes}
use Rattle.cc_compile.specs.MeaningLaws.{RecipesKeepMeaning}
use Rattle.cc_session.specs.Session.{PlainSession}
use Rattle.cc_session.specs.Rebuilds.{IsRebuilt}
use Rattle.cc_top.specs.Answers.{IsMade}

pub made_of : RecipesKeepMeaning → (session : PlainSession) (bytes : List ℕ) (jobs : ℕ) → AreBytes session.source → IsRebuilt session bytes jobs → IsMade session bytes jobs
made_of keep session bytes jobs are h = record {
  rebuilt = h;
  meaning =
      subst (KeepsMeaning session.form h.program (lambdas_of h.image.answers)) (sym h.image.file)
      (keep session.form session.source are h.program h.accepted session.recipe h.image.answers h.image.made);
}
