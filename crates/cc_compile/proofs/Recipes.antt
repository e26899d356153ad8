-- Images and rows of programs under recipes.
use Rattle.std.proofs.Common.{◌≡◌, List, [], ◌∷◌, map, refl, sym, ap, ◌∙◌}
use Rattle.g_graph.specs.Plain.{PlainLambda}
use Rattle.g_graph.specs.Program.{lambda_values}
use Rattle.g_build_def.specs.Functions.{graph, omega}
use Rattle.g_build_keeps.specs.BuiltLaws.{WellTypedAreBuilt}
use Rattle.g_pass_def.specs.Laws.{AnswersAreUnique, UnsweptAnswersAreLambdas}
use Rattle.g_pass.specs.Sweep.{rules}
use Rattle.g_pass.specs.MeaningLaws.{AnswersKeepLists}
use Rattle.cc_emit.specs.Image.{file_of_program, lambdas_of}
use Rattle.cc_source.specs.Laws.{KeptListsCanBeEmitted}
use Rattle.cc_compile.specs.Compiled.{rows_of, AnswersCanBeEmitted, OneImage, OneListOfRows, UnsweptImage}

pub answers_can_be_emitted : WellTypedAreBuilt → KeptListsCanBeEmitted → AnswersKeepLists → AnswersCanBeEmitted
answers_can_be_emitted built can keep p typed checked few recipe answers made =
    can p typed checked few (lambdas_of answers) (keep recipe (graph p) answers (built p typed).complete made)

pub one_image : AnswersAreUnique → OneImage
one_image unique recipe form p bytes others a b =
    a.file ∙ (ap (λ xs. file_of_program form (omega p) (lambdas_of xs)) (unique rules recipe (graph p) a.answers b.answers a.made b.made) ∙ sym b.file)

pub one_list_of_rows : AnswersAreUnique → OneListOfRows
one_list_of_rows unique recipe form p bytes others rows more a b =
    a.1 ∙ (ap (rows_of p) (unique rules recipe (graph p) a.0.answers b.0.answers a.0.made b.0.made) ∙ sym b.1)

-- the lambdas of answers that are the lambdas as they are
lambdas_again : (ls : List PlainLambda) → lambdas_of (map (λ (l : PlainLambda). record { lambda = l; steps = []; before = lambda_values l }) ls) ≡ ls
lambdas_again [] = refl
lambdas_again (l ∷ ls) = ap (λ ks. l ∷ ks) (lambdas_again ls)

pub unswept_image : UnsweptAnswersAreLambdas → UnsweptImage
unswept_image unswept form p bytes a =
    a.file ∙ ap (file_of_program form (omega p)) (ap lambdas_of (unswept rules (graph p) a.answers a.made) ∙ lambdas_again (graph p))
