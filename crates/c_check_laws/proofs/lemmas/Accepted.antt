-- What the checker accepts is well typed.
use Rattle.std.proofs.Common.{◌≡◌, ◌≤◌, ◌⊎◌, inl, inr, ℕ, ◌+◌, ◌*◌, ◌/◌, zero, suc, Bool, true, false, cond, List, [], ◌∷◌, ◌++◌, length, map, refl, sym, ap, ◌∙◌, subst, arith, mul_comm}
use Rattle.std.specs.Prelude.{slice_get, nat_lt, ◌==◌, ◌||◌, All, codes, Option, None, Some, option_map, option_and_then, unwrap_or, Ok, Err, if◌then◌else◌}
use Rattle.std.specs.Option.{option_or}
use Rattle.std.proofs.lemmas.Bool.{false≢true, and_parts}
use Rattle.std.proofs.lemmas.Bool.Decides.{nat_tests}
use Rattle.base.specs.Limits.{most_tokens, most_functions, most_parameters, most_global_bytes, counted_bytes}
use Rattle.c_lex.specs.declared.token.Token.{Token}
use Rattle.c_ast.specs.Tree.{Tree, Node, Cons}
use Rattle.c_ast.specs.Nonterminals as class
use Rattle.c_ast.specs.Productions as l
use Rattle.c_ast.specs.Grammar as grammar
use Rattle.c_ast.specs.Shape.{FollowsGrammar}
use Rattle.c_ast.specs.Spelling.{spelled, spell}
use Rattle.c_type.specs.Trees.{void_type}
use Rattle.c_type.specs.Layout.{Definitions, is_complete, size, leaves}
use Rattle.c_typed.specs.Typed.{FunctionTree, GlobalTree, VariableTree}
use Rattle.c_typed.specs.WellTyped.{int, signature_of, params_of, WrittenFits, GlobalIsTyped, HasMain, IsWellTyped}
use Rattle.c_check_def.specs.Types.{same_type}
use Rattle.c_check_def.proofs.lemmas.SameType.{same_type-true}
use Rattle.c_check_scope.specs.Scopes.{Name, same_name, meaning}
use Rattle.c_check_scope.specs.Names.{number_of, has_name, with_name}
use Rattle.c_check_scope.proofs.lemmas.Latest.{same-self}
use Rattle.c_check_def.specs.declared.refusal_kind.Broken.{Broken}
use Rattle.c_check_def.specs.declared.refusal_kind.Quantity.{Quantity}
use Rattle.c_check_def.specs.declared.refusal_kind.Quantity.TheVariants.{Parameters}
use Rattle.c_check_def.specs.declared.meaning.Meaning.{Meaning}
use Rattle.c_check_def.specs.declared.meaning.Meaning.TheVariants as means
use Rattle.c_check_def.specs.Refusals.{Refusal, no_main, above_limit}
use Rattle.c_check_def.specs.State.{Declared, Global, State}
use Rattle.c_check_def.specs.Calls.{predeclared}
use Rattle.c_check_def.specs.Limits.{many_functions, first_above, global_bytes, passing, many_global_bytes, above_limits}
use Rattle.c_check_def.specs.Check.{defined_by, with_defined, defined_in, predeclared_names, initial_state, externals, global_tree, program_of, is_main, has_main, or_refused, judged}
use Rattle.c_check_def.specs.CheckLaws.{IsInRange, AcceptedAreWellTyped}
use Rattle.c_check_laws.proofs.lemmas.States.{AllTypes, stay, FunctionFits}
use Rattle.c_check_laws.proofs.lemmas.There.{FunctionTyped}
use Rattle.c_check_laws.proofs.lemmas.Shapes.{in_range, well_shaped}
use Rattle.c_check_laws.proofs.lemmas.Parts.{Layouts}
use Rattle.c_check_laws.proofs.lemmas.File.{Onward, onward_step, File}
use Rattle.c_check_laws.proofs.lemmas.Names.{name_at, get_map}
use Rattle.c_check_laws.proofs.lemmas.FunctionBodies.{ending_of, Ended, map_length}
use Rattle.c_check_laws.proofs.lemmas.TypedFunctions.{map_back}
use Rattle.c_check_laws.proofs.lemmas.Locals.{get_append_cases}
use Rattle.c_check_laws.proofs.lemmas.FunctionMoved.{all_types_same, names_of, AreTyped}
use Rattle.c_check_laws.proofs.lemmas.FileSteps.{externals_out}
use Rattle.c_check_laws.proofs.lemmas.FileShapes.{file_shaped, declarations_few}
use Rattle.val_core.proofs.lemmas.Options.{or_none}

-- ---- the state before the file

predeclared_meaning : (name : Name) (m : Meaning) → meaning (predeclared_names ∷ []) name ≡ Some m → (m ≡ means.Function 2) ⊎ ((m ≡ means.Function 1) ⊎ (m ≡ means.Function 0))
predeclared_meaning name m h = by_tests (same_name name (codes "exit")) (same_name name (codes "getchar")) (same_name name (codes "putchar")) h
  where
    by_tests : (a b c : Bool) → option_or (cond a (Some (means.Function 2)) (cond b (Some (means.Function 1)) (cond c (Some (means.Function 0)) None))) None ≡ Some m →
        (m ≡ means.Function 2) ⊎ ((m ≡ means.Function 1) ⊎ (m ≡ means.Function 0))
    by_tests true b c e = inl (let same : means.Function 2 ≡ m = cc in sym same)
    by_tests false true c e = inr (inl (let same : means.Function 1 ≡ m = cc in sym same))
    by_tests false false true e = inr (inr (let same : means.Function 0 ≡ m = cc in sym same))
    by_tests false false false e = absurd (cc)

pub initial_file : (names : List Name) → File (initial_state names)
initial_file names = record {
  alone = (predeclared_names, refl);
  variables = refl;
  slots = refl;
  no_variables = λ name slot b m. no_variable slot b (predeclared_meaning name (means.Variable slot b) m);
  globals_named = λ name k b m. absurd (no_global k b (predeclared_meaning name (means.Global k b) m));
  functions_named = λ name k m. by_function k (predeclared_meaning name (means.Function k) m);
  put = refl;
  get = refl;
  exit = refl;
  structs = tt;
  globals = λ k g q. absurd (cc);
  functions = λ k f q. absurd (cc);
}
  where
    no_variable : (slot : ℕ) (b : Bool) → (means.Variable slot b ≡ means.Function 2) ⊎ ((means.Variable slot b ≡ means.Function 1) ⊎ (means.Variable slot b ≡ means.Function 0)) → ⊥
    no_variable slot b (inl e) = cc
    no_variable slot b (inr (inl e)) = cc
    no_variable slot b (inr (inr e)) = cc

    no_global : (k : ℕ) (b : Bool) → (means.Global k b ≡ means.Function 2) ⊎ ((means.Global k b ≡ means.Function 1) ⊎ (means.Global k b ≡ means.Function 0)) → ⊥
    no_global k b (inl e) = cc
    no_global k b (inr (inl e)) = cc
    no_global k b (inr (inr e)) = cc

    by_function : (k : ℕ) → (means.Function k ≡ means.Function 2) ⊎ ((means.Function k ≡ means.Function 1) ⊎ (means.Function k ≡ means.Function 0)) → FunctionTyped predeclared k
    by_function k (inl e) =
        let same : 2 ≡ k = cc in
        subst (FunctionTyped predeclared) same
        (record { function = record { result = Some void_type; params = Some int ∷ []; is_defined = true }; there = refl; result = void_type; has = refl; types = int ∷ []; takes = (refl, tt) })
    by_function k (inr (inl e)) =
        let same : 1 ≡ k = cc in
        subst (FunctionTyped predeclared) same (record { function = record { result = Some int; params = []; is_defined = true }; there = refl; result = int; has = refl; types = []; takes = tt })
    by_function k (inr (inr e)) =
        let same : 0 ≡ k = cc in
        subst (FunctionTyped predeclared) same
        (record { function = record { result = Some int; params = Some int ∷ []; is_defined = true }; there = refl; result = int; has = refl; types = int ∷ []; takes = (refl, tt) })

-- ---- limits

map_none : {A B : Type 0} → (f : A → B) (o : Option A) → option_map f o ≡ None → o ≡ None
map_none f None h = refl
map_none f (Some x) h = absurd (cc)

pub get_none : {A : Type 0} → (xs : List A) (n : ℕ) → slice_get xs n ≡ None → length xs ≤ n
get_none [] n h = omega arith
get_none (x ∷ xs) zero h = absurd (cc)
get_none (x ∷ xs) (suc n) h = let r = get_none xs n h in omega (arith, r)

-- the count of no function is above the most
pub none_above : (q : Quantity) (most : ℕ) (count : FunctionTree → ℕ) (fs : List FunctionTree) → first_above q most count fs ≡ None →
    (k : ℕ) (f : FunctionTree) → slice_get fs k ≡ Some f → count f ≤ most
none_above q most count [] h k f e = absurd (cc)
none_above q most count (g ∷ fs) h k f e = by_test (nat_lt most (count g)) refl h k e (none_above q most count fs)
  where
    by_test : (b : Bool) → nat_lt most (count g) ≡ b → (if b then Some (above_limit q g.at (count g)) else first_above q most count fs) ≡ None → (k : ℕ) → slice_get (g ∷ fs) k ≡ Some f →
        (first_above q most count fs ≡ None → (k : ℕ) (f : FunctionTree) → slice_get fs k ≡ Some f → count f ≤ most) → count f ≤ most
    by_test true t h k e rest = absurd (cc)
    by_test false t h zero e rest = let same : g ≡ f = cc in subst (λ f. count f ≤ most) same (grind (arith, nat_tests, t))
    by_test false t h (suc k) e rest = rest h k f e

counted_more : (n : ℕ) → (n ≤ counted_bytes n) × (4 ≤ counted_bytes n)
counted_more n = let e = mul_comm ((n + 3) / 4) 4 in (omega (arith, e), omega (arith, e))

-- the bytes of all globals are few
none_passing : (defs : Definitions) (gs : List GlobalTree) (n : ℕ) → n ≤ most_global_bytes → passing defs n gs ≡ None →
    ((k : ℕ) (g : GlobalTree) → slice_get gs k ≡ Some g → size defs g.type ≤ most_global_bytes) × (n + 4 * length gs ≤ most_global_bytes)
none_passing defs [] n le h = (λ k g e. absurd (cc), omega (arith, le))
none_passing defs (x ∷ gs) n le h = by_test (nat_lt most_global_bytes (n + global_bytes defs x)) refl h (none_passing defs gs (n + global_bytes defs x))
  where
    by_test : (b : Bool) → nat_lt most_global_bytes (n + global_bytes defs x) ≡ b → (if b then Some x.at else passing defs (n + global_bytes defs x) gs) ≡ None →
        (n + global_bytes defs x ≤ most_global_bytes → passing defs (n + global_bytes defs x) gs ≡ None →
        ((k : ℕ) (g : GlobalTree) → slice_get gs k ≡ Some g → size defs g.type ≤ most_global_bytes) × (n + global_bytes defs x + 4 * length gs ≤ most_global_bytes)) →
        ((k : ℕ) (g : GlobalTree) → slice_get (x ∷ gs) k ≡ Some g → size defs g.type ≤ most_global_bytes) × (n + 4 * suc (length gs) ≤ most_global_bytes)
    by_test true t q rest = absurd (cc)
    by_test false t q rest =
        let below : n + global_bytes defs x ≤ most_global_bytes = grind (arith, nat_tests, t) in
        let r = rest below q in
        let c = counted_more (size defs x.type) in
        let a = c.0 in
        let b = c.1 in
        let all = r.1 in
        (λ k g e. by_place k g e (omega (arith, below, a)) r.0, omega (arith, all, b))
      where
        by_place : (k : ℕ) (g : GlobalTree) → slice_get (x ∷ gs) k ≡ Some g → size defs x.type ≤ most_global_bytes →
            ((k : ℕ) (g : GlobalTree) → slice_get gs k ≡ Some g → size defs g.type ≤ most_global_bytes) → size defs g.type ≤ most_global_bytes
        by_place zero g e first more = let same : x ≡ g = cc in subst (λ g. size defs g.type ≤ most_global_bytes) same first
        by_place (suc k) g e first more = more k g e

-- ---- names of functions

-- a name stands at one place
abbrev AreDistinctNames : List Name → Type 0
AreDistinctNames names = (j k : ℕ) (name : Name) → slice_get names j ≡ Some name → slice_get names k ≡ Some name → j ≡ k

has_at : (names : List Name) (k : ℕ) (name : Name) → slice_get names k ≡ Some name → has_name names name ≡ true
has_at [] k name h = absurd (cc)
has_at (x ∷ names) zero name h = let same : x ≡ name = cc in ap (λ b. b || has_name names name) (ap (same_name name) same ∙ same-self name)
has_at (x ∷ names) (suc k) name h = or_right (same_name name x) (has_name names name) (has_at names k name h)
  where
    or_right : (a b : Bool) → b ≡ true → (a || b) ≡ true
    or_right true b e = refl
    or_right false b e = e

distinct_with : (names : List Name) (name : Name) → AreDistinctNames names → AreDistinctNames (with_name names name)
distinct_with names name h = by_test (has_name names name) refl
  where
    both : has_name names name ≡ false → (j k : ℕ) (asked : Name) → (slice_get names j ≡ Some asked) ⊎ ((j ≡ length names) × (name ≡ asked)) →
        (slice_get names k ≡ Some asked) ⊎ ((k ≡ length names) × (name ≡ asked)) → j ≡ k
    both e j k asked (inl a) (inl b) = h j k asked a b
    both e j k asked (inl a) (inr b) = absurd (false≢true (sym e ∙ has_at names j name (a ∙ ap Some (sym b.1))))
    both e j k asked (inr a) (inl b) = absurd (false≢true (sym e ∙ has_at names k name (b ∙ ap Some (sym a.1))))
    both e j k asked (inr a) (inr b) = a.0 ∙ sym b.0

    by_test : (b : Bool) → has_name names name ≡ b → AreDistinctNames (if b then names else names ++ name ∷ [])
    by_test true e j k asked p q = h j k asked p q
    by_test false e j k asked p q = both e j k asked (get_append_cases names name asked j p) (get_append_cases names name asked k q)

distinct_defined : (names : List Name) (o : Option Name) → AreDistinctNames names → AreDistinctNames (with_defined names o)
distinct_defined names None h = h
distinct_defined names (Some name) h = distinct_with names name h

defined_distinct : (t : Tree) → AreDistinctNames (defined_in t)
defined_distinct (Node (l.More m) (Cons before (Cons t none))) j k name p q = distinct_defined (defined_in before) (defined_by t) (defined_distinct before) j k name p q
defined_distinct t j k name p q = absurd (cc)

-- ---- the end of the file

-- the file at its end, where each function that it defines was defined
record AtEnd (z : State) : Type 0 where
  clean : z.broken ≡ None
  file : File z
  names : names_of z.functions ≡ z.defined
  distinct : AreDistinctNames z.defined

function_named : (z : State) → AtEnd z → (n : ℕ) (name : Name) → number_of z.defined name ≡ Some n → (f : FunctionTree) × (slice_get z.functions n ≡ Some f) × (f.name ≡ name)
function_named z h n name e =
    let r = map_back (λ (f : FunctionTree). f.name) z.functions n name (ap (λ ns. slice_get ns n) h.names ∙ name_at z.defined name n e) in
    (r.0, r.1, sym r.2)

end_functions : (z : State) → AtEnd z → (vs : List VariableTree) (s : State) → Onward s z → (name : Name) (k : ℕ) → meaning s.scopes name ≡ Some (means.Function k) →
    FunctionFits (ending_of (program_of z) vs) s.defined s.declared name k
end_functions z h vs s onward name k m = record {
  fits = λ n d t ts number there result params.
      let f = function_named z h n name (ap (λ ns. number_of ns name) onward.defined ∙ number) in
      let known = h.file.functions n f.0 f.1 in
      let later = onward.declared k d there in
      let meant : meaning z.scopes name ≡ Some (means.Function k) = onward.names h.clean name (means.Function k) m in
      let place : known.number ≡ k =
      let both : Some (means.Function known.number) ≡ Some (means.Function k) = sym known.meant ∙ ap (meaning z.scopes) f.2 ∙ meant in cc in
      let same : known.declared ≡ later.later =
      let both : Some known.declared ≡ Some later.later = sym known.there ∙ ap (slice_get z.declared) place ∙ later.there in cc in
      let gives : f.0.result ≡ t =
      let both : Some f.0.result ≡ Some t = sym known.result ∙ ap (λ (d : Declared). d.result) same ∙ later.result ∙ result in cc in
      let takes : map (λ v. v.type) (params_of f.0) ≡ ts =
      all_types_same d.params (map (λ v. v.type) (params_of f.0)) ts
      (subst (λ ps. AllTypes ps (map (λ v. v.type) (params_of f.0))) (ap (λ (d : Declared). d.params) same ∙ later.params) known.takes) params in
      get_map signature_of z.functions n f.0 f.1 ∙ (λ i. Some (record { result = gives i; params = takes i }));
}

-- `main`
main_there : (z : State) → AtEnd z → has_main z ≡ true → HasMain (program_of z)
main_there z h e = by_number (number_of z.defined (codes "main")) refl e
  where
    by_function : (n : ℕ) → number_of z.defined (codes "main") ≡ Some n → (o : Option FunctionTree) → slice_get z.functions n ≡ o → is_main o ≡ true → HasMain (program_of z)
    by_function n q None there m = absurd (false≢true m)
    by_function n q (Some f) there m =
        let parts = and_parts (same_type f.result int) (f.params == 0) m in
        let main : unwrap_or (number_of z.defined (codes "main")) 0 ≡ n = ap (λ o. unwrap_or o 0) q in
        let named = function_named z h n (codes "main") q in
        let is : named.0 ≡ f = let both : Some named.0 ≡ Some f = sym named.1 ∙ there in cc in
        record {
          function = f;
          there = ap (slice_get z.functions) main ∙ there;
          named = ap (λ (f : FunctionTree). f.name) (sym is) ∙ named.2;
          alone = λ k g r same.
              h.distinct k n (codes "main") (ap (λ ns. slice_get ns k) (sym h.names) ∙ get_map (λ (f : FunctionTree). f.name) z.functions k g r ∙ ap Some same)
              (name_at z.defined (codes "main") n q) ∙ sym main;
          gives = same_type-true f.result int parts.0;
          takes = grind (arith, nat_tests, parts.1);
        }

    by_number : (o : Option ℕ) → number_of z.defined (codes "main") ≡ o → is_main (option_and_then (slice_get z.functions) o) ≡ true → HasMain (program_of z)
    by_number None q m = absurd (false≢true m)
    by_number (Some n) q m = by_function n q (slice_get z.functions n) refl m

global_typed : (z : State) (k : ℕ) (g : Global) → AtEnd z → slice_get z.globals k ≡ Some g → size z.structs (global_tree g).type ≤ most_global_bytes → GlobalIsTyped (program_of z) (global_tree g)
global_typed z k g h there small =
    let fits = h.file.globals k g there in
    let is : (global_tree g).type ≡ fits.type = ap (λ o. unwrap_or o void_type) fits.has in
    let count = map_length global_tree z.globals in
    record {
      laid_out = record { complete = ap (is_complete z.structs) is ∙ fits.complete; small = small };
      written = subst (λ n. WrittenFits (leaves z.structs (global_tree g).type) n 0 g.written) (sym count)
          (subst (λ t. WrittenFits (leaves z.structs t) (length z.globals) 0 g.written) (sym is) fits.written);
    }

end_typed : (z : State) → AtEnd z → has_main z ≡ true → above_limits (program_of z) ≡ None → (Ended z → AreTyped z z.functions) → IsWellTyped (program_of z)
end_typed z h main limits typed =
    let p = program_of z in
    let a = or_none (many_functions p.functions) _ limits in
    let b = or_none (first_above Parameters most_parameters (λ f. f.params) p.functions) _ a.1 in
    let c = or_none _ (many_global_bytes p.structs p.globals) b.1 in
    let functions = get_none p.functions most_functions (map_none _ (slice_get p.functions most_functions) a.0) in
    let bytes = none_passing p.structs p.globals 0 (omega arith) (map_none _ (passing p.structs 0 p.globals) c.1) in
    let few = bytes.1 in
    record {
      structs = h.file.structs;
      functions = typed (record { clean = h.clean; structs = h.file.structs; functions = end_functions z h; few = none_above Parameters most_parameters (λ f. f.params) z.functions b.0 });
      globals = λ k g q.
          let r = map_back global_tree z.globals k g q in
          subst (GlobalIsTyped p) (sym r.2) (global_typed z k r.0 h r.1 (subst (λ g. size z.structs g.type ≤ most_global_bytes) r.2 (bytes.0 k g q)));
      main = main_there z h main;
      few_functions = omega (arith, functions);
      few_globals = omega (arith, few);
    }

abbrev pub last_state : Tree → State
last_state t = (externals t (initial_state (defined_in t))).1

file_typed : Layouts → (t : Tree) → FollowsGrammar t → All IsInRange (spell t) → length (spell t) ≤ most_tokens → (last_state t).broken ≡ None → has_main (last_state t) ≡ true →
    above_limits (program_of (last_state t)) ≡ None → IsWellTyped (program_of (last_state t))
file_typed y t follows range few clean main limits =
    let form = grammar.One (class.Many l.Externals) in
    let count = declarations_few form t follows [] in
    let len = map_length (λ (x : Token). x.kind) (spelled t []) in
    let out = externals_out y t (initial_state (defined_in t)) (in_range t range) (well_shaped form t follows) (file_shaped form t follows) (omega (arith, count, len, few)) in
    let go = out.go clean (initial_file (defined_in t)) in
    let end : AtEnd (last_state t) = record {
      clean = clean;
      file = go.1;
      names = go.2 refl ∙ sym go.0.defined;
      distinct = subst AreDistinctNames (sym go.0.defined) (defined_distinct t);
    } in
    end_typed (last_state t) end main limits (λ ended.
    out.typed (last_state t) ended clean (initial_file (defined_in t)) (onward_step (last_state t) (last_state t) (stay (last_state t))) (λ k f q. absurd (cc)))

-- A program that is accepted is well typed.
pub accepted_typed : Layouts → AcceptedAreWellTyped
accepted_typed y t follows range few n p e = by_broken (last_state t).broken refl e
  where
    by_limits : (last_state t).broken ≡ None → has_main (last_state t) ≡ true → (o : Option Refusal) → above_limits (program_of (last_state t)) ≡ o →
        or_refused (program_of (last_state t)) o ≡ Ok p → IsWellTyped p
    by_limits clean main None q r = let same : program_of (last_state t) ≡ p = cc in subst IsWellTyped same (file_typed y t follows range few clean main q)
    by_limits clean main (Some x) q r = absurd (cc)

    by_main : (last_state t).broken ≡ None → (b : Bool) → has_main (last_state t) ≡ b →
        (if b then or_refused (program_of (last_state t)) (above_limits (program_of (last_state t))) else Err (no_main n)) ≡ Ok p → IsWellTyped p
    by_main clean true q r = by_limits clean q (above_limits (program_of (last_state t))) refl r
    by_main clean false q r = absurd (cc)

    by_broken : (o : Option Broken) → (last_state t).broken ≡ o → judged n (last_state t) o ≡ Ok p → IsWellTyped p
    by_broken None q r = by_main q (has_main (last_state t)) refl r
    by_broken (Some b) q r = absurd (cc)
