-- The functions of what is accepted are those that the file defines.
use Rattle.std.proofs.Common.{◌≡◌, ◌≤◌, ℕ, Bool, true, false, List, [], ◌∷◌, length, refl, sym, subst, arith}
use Rattle.std.specs.List.{AllByRecursion}
use Rattle.std.specs.Prelude.{All, Option, None, Some, Ok, Err, if◌then◌else◌}
use Rattle.std.proofs.lemmas.List.{length-map}
use Rattle.base.specs.Limits.{most_tokens}
use Rattle.c_lex.specs.Grammar.{TokensAreLongest}
use Rattle.c_lex.specs.declared.token.Token.{Token}
use Rattle.c_ast.specs.Productions as l
use Rattle.c_ast.specs.Nonterminals as class
use Rattle.c_ast.specs.Grammar as grammar
use Rattle.c_ast.specs.Shape.{FollowsGrammar}
use Rattle.c_ast.specs.Spelling.{spelled, spell, kinds}
use Rattle.c_ast.specs.Tree.{Tree}
use Rattle.c_typed.specs.Typed.{FunctionTree, ProgramTree}
use Rattle.c_check_def.specs.declared.refusal_kind.Broken.{Broken}
use Rattle.c_check_def.specs.Check.{judged, has_main, or_refused, program_of, initial_state, defined_in}
use Rattle.c_check_def.specs.CheckLaws.{IsInRange}
use Rattle.c_check_def.specs.Limits.{above_limits}
use Rattle.c_check_def.specs.Refusals.{Refusal, no_main}
use Rattle.c_check_def.specs.State.{State}
use Rattle.c_check_laws.proofs.lemmas.Shapes.{in_range, well_shaped}
use Rattle.c_check_laws.proofs.lemmas.Parts.{Layouts}
use Rattle.c_check_laws.proofs.lemmas.FileShapes.{file_shaped, declarations_few}
use Rattle.c_check_laws.proofs.lemmas.FileSteps.{externals_out}
use Rattle.c_check_laws.proofs.lemmas.FunctionMoved.{names_of}
use Rattle.c_check_laws.proofs.lemmas.Accepted.{initial_file, last_state}
use Rattle.c_check_laws.specs.NamesLaws.{IsName, FunctionsHaveNames}
use Rattle.c_check_laws.proofs.NameTokens.{AreNamed, tokens_named}
use Rattle.c_check_laws.proofs.Defined.{defined_names}

file_names : Layouts → (t : Tree) → FollowsGrammar t → All IsInRange (spell t) → length (spell t) ≤ most_tokens → (last_state t).broken ≡ None →
    names_of (last_state t).functions ≡ defined_in t
file_names y t follows range few clean =
    let form = grammar.One (class.Many l.Externals) in
    let count = declarations_few form t follows [] in
    let len = length-map (spelled t []) (λ (x : Token). x.kind) in
    let start = initial_state (defined_in t) in
    let out = externals_out y t start (in_range t range) (well_shaped form t follows) (file_shaped form t follows) (omega (arith, count, len, few)) in
    (out.go clean (initial_file (defined_in t))).2 refl

program_is : (n : ℕ) (s : State) (o : Option Broken) (p : ProgramTree) → judged n s o ≡ Ok p → (o ≡ None) × (program_of s ≡ p)
program_is n s (Some b) p h = absurd cc
program_is n s None p h = (refl, by (has_main s) (above_limits (program_of s)) h)
  where
    by : (b : Bool) (r : Option Refusal) → (if b then or_refused (program_of s) r else Err (no_main n)) ≡ Ok p → program_of s ≡ p
    by true None e = cc
    by true (Some r) e = absurd cc
    by false r e = absurd cc

by_names : (fs : List FunctionTree) → AllByRecursion IsName (names_of fs) → AllByRecursion (λ (f : FunctionTree). IsName f.name) fs
by_names [] h = tt
by_names (f ∷ fs) h = (h.0, by_names fs h.1)

pub functions_have_names : TokensAreLongest → Layouts → FunctionsHaveNames
functions_have_names longest y source ts lexed range t follows spells n p h =
    let back = sym spells in
    let few : length (kinds ts) ≤ most_tokens = subst (λ m. m ≤ most_tokens) (sym (length-map ts (λ (x : Token). x.kind))) ((longest source ts).0 lexed).1 in
    let r = program_is n (last_state t) (last_state t).broken p h in
    let names =
    file_names y t follows (subst (λ (xs : List Token). All IsInRange (kinds xs)) back range) (subst (λ (xs : List Token). length (kinds xs) ≤ most_tokens) back few) r.0 in
    let all = defined_names (grammar.One (class.Many l.Externals)) t follows (subst AreNamed back (tokens_named longest source ts lexed)) in
    subst (λ (q : ProgramTree). AllByRecursion (λ (f : FunctionTree). IsName f.name) q.functions) r.1
    (by_names (last_state t).functions (subst (AllByRecursion IsName) (sym names) all))
