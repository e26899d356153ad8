-- Tasks that are put at the end of a list.
use Rattle.std.proofs.Common.{◌≡◌, List, [], ◌∷◌, ◌++◌, refl, ap, ◌∙◌, append_assoc, length, suc}
use Rattle.c_typed.specs.Typed.{ExprTree, exprs_of}
use Rattle.c_interp_def.specs.ExprTasks.{count_of}
use Rattle.c_interp_def.specs.StmtTasks as tree
use Rattle.c_interp_def.specs.declared.task.Task.{Task}
use Rattle.c_interp_answer.specs.TaskViews.{task_of, tasks_of}

tasks-append : (xs ys : List Task) → tasks_of (xs ++ ys) ≡ tasks_of xs ++ tasks_of ys
tasks-append [] ys = refl
tasks-append (x ∷ xs) ys = ap (λ ts. task_of x ∷ ts) (tasks-append xs ys)

-- one more task
pub pushed : (xs ys : List Task) (t : Task) → ys ≡ xs ++ t ∷ [] → tasks_of ys ≡ tasks_of xs ++ task_of t ∷ []
pushed xs ys t e = ap tasks_of e ∙ tasks-append xs (t ∷ [])

-- and others after it
pub pushed_more : (xs ys zs us : List tree.Task) (t : tree.Task) → ys ≡ xs ++ t ∷ [] → zs ≡ ys ++ us → zs ≡ xs ++ (t ∷ us)
pushed_more xs ys zs us t e f = f ∙ ap (λ l. l ++ us) e ∙ append_assoc xs (t ∷ []) us

-- the same where nothing is put
pub pushed_none : (xs ys : List tree.Task) → ys ≡ xs → ys ≡ xs ++ []
pushed_none [] ys e = e
pushed_none (x ∷ xs) ys e = e ∙ ap (λ l. x ∷ l) (pushed_none xs xs refl)

-- how many arguments there are
pub count_is : (es : List ExprTree) → count_of (exprs_of es) ≡ length es
count_is [] = refl
count_is (e ∷ es) = ap (λ n. suc n) (count_is es)
