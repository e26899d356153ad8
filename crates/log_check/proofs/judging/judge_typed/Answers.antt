use Rattle.std.proofs.Common.{◌≡◌, length, sym, ap, subst, ◌∙◌, arith}
use Rattle.std.proofs.lemmas.Result.{IfOk-weaker}
use Rattle.g_graph.specs.Plain.{PlainOmega}
use Rattle.g_build_def.specs.Functions.{names}
use Rattle.log_check.specs.Log.{rows_of}
use Rattle.log_check.specs.Judgement.{names_of_log, IsCertified, IsImageOf, IsRead}
use Rattle.log_check.proofs.Named.{as-many, lines-fit}
use Rattle.log_check.proofs.Told.{certified}
use Rattle.log_check.proofs.judging.judge_typed.Goals as goal

pub judge_image-requires-clause-logged : goal.judge_image-requires-clause-logged
judge_image-requires-clause-logged c =
    let p = c.args.typed.now in
    let named = subst (λ l. names_of_log l ≡ names p) (c.deref.ensures.value ∙ c.read.view_is) c.in-None.ensures.none in
    as-many p c.in_ok-read.read named ∙ ap (λ (o : PlainOmega). length o.lambdas) (sym c.in_ok-omega-in-None.ensures)

pub judge_image-requires-clause-short : goal.judge_image-requires-clause-short
judge_image-requires-clause-short c j inside =
    let read = c.in_ok-read.ensures in
    omega (arith, lines-fit c.in_ok-read.read read.lines j inside, c.logs_have_few_lines.ensures (rows_of c.in_ok-read.read) c.args.log.now read.read, read.short)

pub returns-clause-certified : goal.returns-clause-certified
returns-clause-certified c =
    let p = c.args.typed.now in
    let log = c.args.log.now in
    let image = c.args.image.now in
    let functions = c.in_ok-read.read in
    let told = c.in_ok-read.ensures in
    let read : IsRead log functions = record { short = told.short; text = told.read; lines = told.lines } in
    let named = subst (λ l. names_of_log l ≡ names p) (c.deref.ensures.value ∙ c.read.view_is) c.in-None.ensures.none in
    IfOk-weaker c.judge_image.result _ (λ x. IsCertified p c.args.form log image)
    (λ x h. certified p c.args.form log image functions read named (subst (λ o. IsImageOf o c.args.form functions image) c.in_ok-omega-in-None.ensures h)) c.judge_image.ensures.image
