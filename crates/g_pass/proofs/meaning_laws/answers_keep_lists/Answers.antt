use Rattle.g_pass.specs.Sweep.{rules}
use Rattle.g_pass_def.specs.Answers.{lambdas_of}
use Rattle.g_pass.proofs.meaning_laws.answers_keep_lists.Goals as goal

pub returns-clause-lists : goal.returns-clause-lists
returns-clause-lists c recipe ls answers complete made = c.answers_keep_lists.ensures.all rules c.rules_are_steps.ensures recipe ls answers complete made

pub returns-clause-images : goal.returns-clause-images
returns-clause-images c omega recipe ls answers made program limits few =
    c.kept_lists_fit_images.ensures omega ls (lambdas_of answers)
    (c.answers_keep_lists.ensures.all rules c.rules_are_steps.ensures recipe ls answers program.complete made) program
    limits few
