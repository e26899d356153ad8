-- The names of a log against those of a program, and the lines of the log's functions.
use Rattle.std.proofs.Common.{◌≡◌, ◌≢◌, ◌<◌, ◌≤◌, ◌+◌, ℕ, zero, suc, List, [], ◌∷◌, ◌++◌, length, take, Some, slice_get, get_or, refl, sym, ap, subst, ◌∙◌, arith, below_more}
use Rattle.std.specs.Prelude.{not, option_map, Bool, true, false}
use Rattle.std.specs.Str.{bytes_eq}
use Rattle.std.proofs.lemmas.Bool.{not-false}
use Rattle.std.proofs.lemmas.Slice.Eq.{bytes_eq-Decides}
use Rattle.std.proofs.lemmas.List.{length-map, take_more}
use Rattle.std.proofs.lemmas.Option.{slice_get-get_or, slice_get-map}
use Rattle.c_typed.specs.Typed.{FunctionTree, ProgramTree}
use Rattle.g_build_def.specs.Functions.{graph, lambdas_made, names}
use Rattle.cc_watch.specs.Rows.{PlainRow}
use Rattle.log_check.specs.Log.{line_count, parts_from, parts_of, row_of_part, rows_of, PlainPart}
use Rattle.log_check.specs.Right.{part_at}
use Rattle.log_check.specs.Judgement.{line_of, names_of_log, IsMisnamed}
use Rattle.log_check.proofs.ReadSoFar.{count-push}
use Rattle.log_check.proofs.Parting.{ends-apart, same-to-end}

-- ---- names

-- what the log names at a number within
pub log-name : (log : List PlainPart) (k : ℕ) (d : PlainPart) → k < length log → slice_get (names_of_log log) k ≡ Some (get_or log k d).name
log-name log k d inside = slice_get-map (λ (p : PlainPart). p.name) log k ∙ ap (option_map (λ (p : PlainPart). p.name)) (slice_get-get_or log k d inside)

pub own-name : (p : ProgramTree) (k : ℕ) (d : FunctionTree) → k < length p.functions → slice_get (names p) k ≡ Some (get_or p.functions k d).name
own-name p k d inside =
    slice_get-map (λ (f : FunctionTree). f.name) p.functions k ∙ ap (option_map (λ (f : FunctionTree). f.name)) (slice_get-get_or p.functions k d inside)

abbrev pub AreSame : (p : ProgramTree) → (log : List PlainPart) → (n : ℕ) → Type 0
AreSame p log n = (k : ℕ) → k < n → slice_get (names_of_log log) k ≡ slice_get (names p) k

-- as far as the loop has come: the same names, and the line of the next function
pub record HasCome (p : ProgramTree) (log : List PlainPart) (index line : ℕ) : Type 0 where
  pub inside : index ≤ length p.functions
  pub same : AreSame p log index
  pub line_is : line ≡ line_of log index

map-push : (xs : List PlainPart) (x : PlainPart) → rows_of (xs ++ x ∷ []) ≡ rows_of xs ++ row_of_part x ∷ []
map-push [] x = refl
map-push (y ∷ xs) x = ap (λ t. row_of_part y ∷ t) (map-push xs x)

next-line : (log : List PlainPart) (index : ℕ) (d : PlainPart) → index < length log → line_of log (index + 1) ≡ line_of log index + (1 + length (get_or log index d).steps)
next-line log index d inside =
    let rows = ap rows_of (take_more log index d inside) ∙ map-push (take index log) (get_or log index d) in
    omega (arith, ap line_count rows, count-push (rows_of (take index log)) (row_of_part (get_or log index d)))

pub goes-on : (p : ProgramTree) (log : List PlainPart) (index line : ℕ) (d : PlainPart) (f : FunctionTree) → HasCome p log index line → index < length log → index < length p.functions →
    (get_or log index d).name ≡ (get_or p.functions index f).name → HasCome p log (index + 1) (line + (1 + length (get_or log index d).steps))
goes-on p log index line d f h inside within same =
    record {
      inside = omega (arith, within);
      same = below_more (λ k. slice_get (names_of_log log) k ≡ slice_get (names p) k) index h.same
          (log-name log index d inside ∙ (ap (λ name. Some name) same ∙ sym (own-name p index f within)));
      line_is = omega (arith, h.line_is, next-line log index d inside);
    }

-- names that were compared
pub names-differ : (a b : List ℕ) (differ : Bool) → differ ≡ not (bytes_eq a b) → differ ≡ true → a ≢ b
names-differ a b differ e holds same = let clash : true ≡ false = sym holds ∙ (e ∙ ap not ((bytes_eq-Decides a b).1 same)) in absurd cc

pub names-same : (a b : List ℕ) (differ : Bool) → differ ≡ not (bytes_eq a b) → differ ≡ false → a ≡ b
names-same a b differ e fails = (bytes_eq-Decides a b).0 (not-false (bytes_eq a b) (sym e ∙ fails))

-- ---- where names part

pub other-name : (p : ProgramTree) (log : List PlainPart) (index line : ℕ) (d : PlainPart) (f : FunctionTree) → HasCome p log index line → index < length log → index < length p.functions →
    (get_or log index d).name ≢ (get_or p.functions index f).name → IsMisnamed p log line
other-name p log index line d f h inside within other =
    record {
      index = index;
      names = record {
        same = h.same;
        other = λ e.
            let both : Some (get_or log index d).name ≡ Some (get_or p.functions index f).name = sym (log-name log index d inside) ∙ (e ∙ own-name p index f within) in
            other (let equal : (get_or log index d).name ≡ (get_or p.functions index f).name = cc in equal);
      };
      line_is = h.line_is;
    }

pub one-missing : (p : ProgramTree) (log : List PlainPart) (index line : ℕ) → HasCome p log index line → length log ≤ index → index < length p.functions → IsMisnamed p log line
one-missing p log index line h past within =
    record {
      index = index;
      names =
          ends-apart (names_of_log log) (names p) index h.same (omega (arith, past, length-map log (λ (q : PlainPart). q.name)))
          (omega (arith, within, length-map p.functions (λ (f : FunctionTree). f.name))) [];
      line_is = h.line_is;
    }

pub all-named : (p : ProgramTree) (log : List PlainPart) (index line : ℕ) → HasCome p log index line → index ≡ length log → length p.functions ≤ length log → names_of_log log ≡ names p
all-named p log index line h whole few =
    let many = length-map log (λ (q : PlainPart). q.name) in
    let named = length-map p.functions (λ (f : FunctionTree). f.name) in
    same-to-end (names_of_log log) (names p) [] (omega (arith, h.inside, whole, few, many, named)) (λ k low. h.same k (omega (arith, low, whole, many)))

-- ---- lines

count-up-to : (n : ℕ) (log : List PlainPart) → line_count (rows_of (take n log)) ≤ line_count (rows_of log)
count-up-to zero log = omega arith
count-up-to (suc n) [] = omega arith
count-up-to (suc n) (p ∷ log) = omega (arith, count-up-to n log)

-- the line behind a function of the log
pub line-fits : (p : ProgramTree) (log : List PlainPart) (index line : ℕ) (d : PlainPart) → HasCome p log index line → index < length log →
    line + (1 + length (get_or log index d).steps) ≤ line_count (rows_of log) + 1
line-fits p log index line d h inside = omega (arith, h.line_is, next-line log index d inside, count-up-to (index + 1) log)

part-lines : (rows : List PlainRow) (line j : ℕ) → j < length rows →
    (part_at (parts_from line rows) j).line + length (part_at (parts_from line rows) j).steps < line + line_count rows
part-lines [] line j inside = absurd (omega (arith, inside))
part-lines (r ∷ rows) line zero inside = omega arith
part-lines (r ∷ rows) line (suc j) inside = omega (arith, part-lines rows (line + suc (length r.steps)) j (omega (arith, inside)))

-- the lines of a log's steps are among its lines
pub lines-fit : (log : List PlainPart) → log ≡ parts_of (rows_of log) → (j : ℕ) → j < length log →
    (part_at log j).line + length (part_at log j).steps < 1 + line_count (rows_of log)
lines-fit log lines j inside =
    subst (λ xs. (part_at xs j).line + length (part_at xs j).steps < 1 + line_count (rows_of log)) (sym lines)
    (part-lines (rows_of log) 1 j (omega (arith, inside, length-map log row_of_part)))

-- ---- functions

as-many-built : (p : ProgramTree) (n : ℕ) (fs : List FunctionTree) → length (lambdas_made p n fs) ≡ length fs
as-many-built p n [] = refl
as-many-built p n (f ∷ fs) = ap suc (as-many-built p (suc n) fs)

pub as-many : (p : ProgramTree) (log : List PlainPart) → names_of_log log ≡ names p → length log ≡ length (graph p)
as-many p log named =
    omega (
      arith,
      length-map log (λ (q : PlainPart). q.name),
      ap (λ (xs : List (List ℕ)). length xs) named,
      length-map p.functions (λ (f : FunctionTree). f.name),
      as-many-built p 0 p.functions,
    )
