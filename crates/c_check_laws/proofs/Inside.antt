-- Where the rules are broken that a step breaks: steps without trees.
use Rattle.std.proofs.Common.{◌≡◌, ◌⊎◌, inl, inr, ℕ, zero, suc, Bool, true, false, List, [], ◌∷◌, refl, sym, ◌∙◌, subst}
use Rattle.std.specs.Prelude.{slice_get, not, ◌||◌, ◌&&◌, nat_le, length, Option, None, Some, if◌then◌else◌}
use Rattle.c_ast.specs.declared.operator.Selection.{Selection}
use Rattle.c_ast.specs.declared.operator.IncDec.{IncDec}
use Rattle.c_ast.specs.declared.operator.UnaryOp.{UnaryOp}
use Rattle.c_ast.specs.declared.operator.UnaryOp.TheVariants as unary_operator
use Rattle.c_ast.specs.declared.operator.BinaryOp.{BinaryOp}
use Rattle.c_ast.specs.declared.operator.AssignOp.{AssignOp}
use Rattle.c_type.specs.Trees.{TypeTree}
use Rattle.c_typed.specs.Typed as typed
use Rattle.c_typed.specs.Typed.{place, local, global, at, member, ElementTrees, StmtTree}
use Rattle.c_check_def.specs.declared.operand.Operand.{Operand}
use Rattle.c_check_def.specs.declared.operand.Operand.TheVariants.{Place, Value}
use Rattle.c_check_def.specs.OperandValues.{is_assignable}
use Rattle.c_check_def.specs.Operators.{selected_tag}
use Rattle.c_check_scope.specs.Scopes.{Name, is_declared}
use Rattle.c_check_scope.specs.Names.{number_of}
use Rattle.c_check_scope.specs.Members.{member_number}
use Rattle.c_check_def.specs.declared.meaning.Meaning.{Meaning}
use Rattle.c_check_def.specs.declared.meaning.Meaning.TheVariants as means
use Rattle.c_check_def.specs.declared.refusal_kind.Broken.{Broken}
use Rattle.c_check_def.specs.declared.refusal_kind.RefusalKind.{RefusalKind}
use Rattle.c_check_def.specs.declared.refusal_kind.RefusalKind.TheVariants.{NotAssignable, BadCall, BadOperands, NotConstant, BadInitialiser, BadType, BadJump, BadLabel, Unknown, Redeclared}
use Rattle.c_check_def.specs.declared.call.Callee.{Callee}
use Rattle.c_check_def.specs.declared.call.Called.{Called}
use Rattle.c_check_def.specs.declared.call.Called.TheVariants as calls
use Rattle.c_check_def.specs.declared.dimension.Dimension.{Dimension}
use Rattle.c_check_def.specs.Refusals.{is_before, first_of_both}
use Rattle.c_check_def.specs.State.{MaybeType, Declared, State, Elaborated, pure, breaks, breaks_if, broken_at, or_broken, if_some, meaning_of, declare}
use Rattle.c_check_def.specs.Specifiers.{Specified}
use Rattle.c_check_def.specs.DeclaredTypes.{MaybeSize, arrays_of, sizes_of, size_of_dimension, type_if, small_type, unless_empty, unstarred, starred, named_type, with_elements, is_large, is_void, is_struct, pointers_to, is_object_of, object_type, is_param_of, elements_specified, elements_type, adjusted, param_type, result_type, other_is_empty, first_is_empty}
use Rattle.c_check_def.specs.Operands.{Term, term_meant, named, binary, conditional, indexed, cast, measured, take_address, address, unary_of, unary, target, stepped, assigned, member_numbered, selected, Sequence, comma}
use Rattle.c_check_def.specs.Calls.{callee_of, callee_numbered, called_meant, called_name, all_fit, call_term, call_of, called}
use Rattle.c_check_def.specs.Expressions.{size}
use Rattle.c_check_def.specs.Initialisers.{converted, value_read, characters, parts_of, takes, list_for}
use Rattle.c_check_def.specs.Statements.{whole, condition, subject, jump, Labels, case_label}

some_same : (a b : Broken) → Some a ≡ Some b → a ≡ b
some_same a b e = cc

module _ (P : ℕ → Type 0) where
  -- What is broken after was broken before, or is at such an offset.
  pub record Within (s t : State) : Type 0 where
    pub broken : (b : Broken) → t.broken ≡ Some b → P b.offset ⊎ (s.broken ≡ Some b)

  pub within_same : (s t : State) → t.broken ≡ s.broken → Within s t
  within_same s t e = record { broken = λ b is. inr (sym e ∙ is) }

  pub within_nothing : (s : State) → Within s s
  within_nothing s = within_same s s refl

  pub within_then : (r s t : State) → Within r s → Within s t → Within r t
  within_then r s t a b = record { broken = λ x is. elim (b.broken x is) [ inl p ↦ inl p | inr was ↦ a.broken x was ] }

  abbrev pub Inside : {A : Type 0} → Elaborated A → Type 0
  Inside m = (s : State) → Within s (m s).1

  chosen : (t : Bool) (a n b : Broken) → P n.offset → Some (if t then n else a) ≡ Some b → P b.offset ⊎ (Some a ≡ Some b)
  chosen true a n b p is = inl (subst (λ (x : Broken). P x.offset) (some_same n b is) p)
  chosen false a n b p is = inr is

  first_within : (o : Option Broken) (n b : Broken) → P n.offset → Some (first_of_both o n) ≡ Some b → P b.offset ⊎ (o ≡ Some b)
  first_within None n b p is = inl (subst (λ (x : Broken). P x.offset) (some_same n b is) p)
  first_within (Some a) n b p is = chosen (is_before n a) a n b p is

  pub breaks_inside : (rule : RefusalKind) (offset : ℕ) → P offset → Inside (breaks rule offset)
  breaks_inside rule offset p s = record { broken = λ b is. first_within s.broken (record { rule = rule; offset = offset }) b p is }

  pub breaks_if_inside : (wrong : Bool) (rule : RefusalKind) (offset : ℕ) → P offset → Inside (breaks_if wrong rule offset)
  breaks_if_inside true rule offset p s = breaks_inside rule offset p s
  breaks_if_inside false rule offset p s = within_nothing s

  pub or_broken_inside : {A : Type 0} → (rule : RefusalKind) (offset : ℕ) (o : Option A) → P offset → Inside (or_broken rule offset o)
  or_broken_inside rule offset None p s = breaks_inside rule offset p s
  or_broken_inside rule offset (Some a) p s = within_nothing s

  pub if_some_inside : {A B : Type 0} → (o : Option A) (f : A → Elaborated (Option B)) → ((a : A) → Inside (f a)) → Inside (if_some o f)
  if_some_inside None f h s = within_nothing s
  if_some_inside (Some a) f h s = h a s

  -- ---- operands

  term_meant_inside : (offset : ℕ) (m : Option Meaning) → P offset → Inside (term_meant offset m)
  term_meant_inside offset None p s = breaks_inside Unknown offset p s
  term_meant_inside offset (Some (means.Variable slot is_const)) p s = within_same s _ refl
  term_meant_inside offset (Some (means.Global k is_const)) p s = within_nothing s
  term_meant_inside offset (Some (means.Function k)) p s = breaks_inside BadCall offset p s

  pub named_inside : (name : Name) (offset : ℕ) → P offset → Inside (named name offset)
  named_inside name offset p s = term_meant_inside offset (meaning_of name s).0 p s

  pub binary_inside : (o : Option BinaryOp) (offset : ℕ) (a b : Term) → P offset → Inside (if_some o (λ op. binary op offset a b))
  binary_inside None offset a b p s = within_nothing s
  binary_inside (Some o) offset a b p s = if_some_inside a _ (λ x. if_some_inside b _ (λ y. or_broken_inside _ offset _ p)) s

  pub conditional_inside : (offset : ℕ) (c a b : Term) → P offset → Inside (conditional offset c a b)
  conditional_inside offset c a b p s = if_some_inside c _ (λ z. if_some_inside a _ (λ x. if_some_inside b _ (λ y. or_broken_inside _ offset _ p))) s

  pub indexed_inside : (offset : ℕ) (a b : Term) → P offset → Inside (indexed offset a b)
  indexed_inside offset a b p s = if_some_inside a _ (λ x. if_some_inside b _ (λ y. or_broken_inside _ offset _ p)) s

  pub cast_inside : (offset : ℕ) (t : MaybeType) (a : Term) → P offset → Inside (cast offset t a)
  cast_inside offset t a p s = if_some_inside t _ (λ u. if_some_inside a _ (λ x. or_broken_inside _ offset _ p)) s

  pub measured_inside : (offset : ℕ) (t : MaybeType) → P offset → Inside (measured offset t)
  measured_inside offset t p s = if_some_inside t _ (λ u. or_broken_inside _ offset _ p) s

  take_address_inside : (a : Operand) → Inside (take_address a)
  take_address_inside (Place (place t (local slot)) is_const) s = within_same s _ refl
  take_address_inside (Place (place t (global k)) is_const) s = within_nothing s
  take_address_inside (Place (place t (at e)) is_const) s = within_nothing s
  take_address_inside (Place (place t (member p n)) is_const) s = within_nothing s
  take_address_inside (Value e) s = within_nothing s

  address_inside : (offset : ℕ) (a : Operand) → P offset → Inside (address offset a)
  address_inside offset a p s = let r = take_address a s in within_then s r.1 _ (take_address_inside a s) (or_broken_inside _ offset _ p r.1)

  unary_of_inside : (o : UnaryOp) (offset : ℕ) (a : Operand) → P offset → Inside (unary_of o offset a)
  unary_of_inside unary_operator.AddressOf offset a p s = address_inside offset a p s
  unary_of_inside o offset a p s = or_broken_inside _ offset _ p s

  pub unary_inside : (o : Option UnaryOp) (offset : ℕ) (a : Term) → P offset → Inside (if_some o (λ op. unary op offset a))
  unary_inside None offset a p s = within_nothing s
  unary_inside (Some o) offset a p s = if_some_inside a (unary_of o offset) (λ x. unary_of_inside o offset x p) s

  target_inside : (offset : ℕ) (a : Term) → P offset → Inside (target offset a)
  target_inside offset a p s = if_some_inside a _ (λ x. by_test x (is_assignable x)) s
    where
      by_test : (x : Operand) (t : Bool) → Inside (if t then pure (Some x) else broken_at NotAssignable offset)
      by_test x true s = within_nothing s
      by_test x false s = breaks_inside NotAssignable offset p s

  pub stepped_inside : (o : Option IncDec) (offset : ℕ) (gives_old : Bool) (a : Term) → P offset → Inside (if_some o (λ op. stepped op offset gives_old a))
  stepped_inside None offset gives_old a p s = within_nothing s
  stepped_inside (Some o) offset gives_old a p s =
      let r = target offset a s in within_then s r.1 _ (target_inside offset a p s) (if_some_inside r.0 _ (λ x. or_broken_inside _ offset _ p) r.1)

  pub assigned_inside : (o : Option AssignOp) (offset : ℕ) (a b : Term) → P offset → Inside (if_some o (λ op. assigned op offset a b))
  assigned_inside None offset a b p s = within_nothing s
  assigned_inside (Some o) offset a b p s =
      let r = target offset a s in within_then s r.1 _ (target_inside offset a p s) (if_some_inside r.0 _ (λ x. if_some_inside b _ (λ y. or_broken_inside _ offset _ p)) r.1)

  member_numbered_inside : (o : Selection) (offset : ℕ) (a : Operand) (k : Option ℕ) → P offset → Inside (member_numbered o offset a k)
  member_numbered_inside o offset a None p s = breaks_inside Unknown offset p s
  member_numbered_inside o offset a (Some k) p s = or_broken_inside _ offset _ p s

  pub selected_inside : (o : Option Selection) (offset : ℕ) (name : Name) (name_offset : ℕ) (a : Term) → P offset → P name_offset →
      Inside (if_some o (λ op. selected op offset name name_offset a))
  selected_inside None offset name name_offset a p q s = within_nothing s
  selected_inside (Some o) offset name name_offset a p q s =
      if_some_inside a _ (λ x s.
      let r = or_broken BadOperands offset (selected_tag o x) s in
      within_then s r.1 _ (or_broken_inside BadOperands offset (selected_tag o x) p s)
      (if_some_inside r.0 _ (λ tag s. member_numbered_inside o name_offset x (member_number s.members tag name) q s) r.1)) s

  pub comma_inside : (offset : ℕ) (x : Option Sequence) (b : Term) → P offset → Inside (comma offset x b)
  comma_inside offset x b p s = if_some_inside x _ (λ y. if_some_inside b _ (λ z. or_broken_inside _ offset _ p)) s

  -- ---- calls

  callee_of_inside : (offset : ℕ) (n : Option ℕ) → P offset → Inside (callee_of offset n)
  callee_of_inside offset None p s = breaks_inside Unknown offset p s
  callee_of_inside offset (Some n) p s = within_nothing s

  callee_numbered_inside : (k : ℕ) (name : Name) (offset : ℕ) → P offset → Inside (callee_numbered k name offset)
  callee_numbered_inside zero name offset p s = within_nothing s
  callee_numbered_inside (suc zero) name offset p s = within_nothing s
  callee_numbered_inside (suc (suc zero)) name offset p s = within_nothing s
  callee_numbered_inside (suc (suc (suc k))) name offset p s = callee_of_inside offset (number_of s.defined name) p s

  called_meant_inside : (name : Name) (offset : ℕ) (m : Option Meaning) → P offset → Inside (called_meant name offset m)
  called_meant_inside name offset (Some (means.Function k)) p s = callee_numbered_inside k name offset p s
  called_meant_inside name offset None p s = term_meant_inside offset None p s
  called_meant_inside name offset (Some (means.Variable slot is_const)) p s = term_meant_inside offset (Some (means.Variable slot is_const)) p s
  called_meant_inside name offset (Some (means.Global k is_const)) p s = term_meant_inside offset (Some (means.Global k is_const)) p s

  pub called_name_inside : (name : Name) (offset : ℕ) → P offset → Inside (called_name name offset)
  called_name_inside name offset p s = called_meant_inside name offset (meaning_of name s).0 p s

  call_of_inside : (offset : ℕ) (callee : Callee) (xs : List Term) (f : Option Declared) → P offset → Inside (call_of offset callee xs f)
  call_of_inside offset callee xs None p s = within_nothing s
  call_of_inside offset callee xs (Some f) p s = by_test (all_fit f.params xs) s
    where
      by_test : (t : Bool) → Inside (if t then pure (call_term callee f xs) else broken_at BadCall offset)
      by_test true s = within_nothing s
      by_test false s = breaks_inside BadCall offset p s

  pub called_inside : (offset : ℕ) (f : Called) (xs : List Term) → P offset → Inside (called offset f xs)
  called_inside offset calls.Nothing xs p s = within_nothing s
  called_inside offset calls.NoFunction xs p s = breaks_inside BadCall offset p s
  called_inside offset (calls.Function callee k) xs p s = call_of_inside offset callee xs (slice_get s.declared k) p s

  -- ---- types

  -- a tag that is not declared is at such an offset
  abbrev pub TagWithin : Specified → Type 0
  TagWithin x = (o : ℕ) → x.undeclared ≡ Some o → P o

  pub type_if_inside : (wrong : Bool) (offset : ℕ) (t : TypeTree) → P offset → Inside (type_if wrong offset t)
  type_if_inside true offset t p s = breaks_inside BadType offset p s
  type_if_inside false offset t p s = within_nothing s

  pub small_type_inside : (offset : ℕ) (t : TypeTree) → P offset → Inside (small_type offset t)
  small_type_inside offset t p s = type_if_inside (is_large s.structs (with_elements t)) offset t p s

  pub unless_empty_inside : (wrong : Bool) (offset : ℕ) (t : MaybeType) → P offset → Inside (unless_empty wrong offset t)
  unless_empty_inside true offset t p s = breaks_inside BadType offset p s
  unless_empty_inside false offset t p s = within_nothing s

  unstarred_inside : (undeclared : Option ℕ) (t : TypeTree) → ((o : ℕ) → undeclared ≡ Some o → P o) → Inside (unstarred undeclared t)
  unstarred_inside None t q s = within_nothing s
  unstarred_inside (Some tag) t q s = breaks_inside Unknown tag (q tag refl) s

  starred_inside : (x : Specified) (stars offset : ℕ) → P offset → TagWithin x → Inside (starred x stars offset)
  starred_inside x zero offset p q s = unstarred_inside x.undeclared x.type q s
  starred_inside x (suc n) offset p q s = type_if_inside (is_void x.type) offset (pointers_to x.type (suc n)) p s

  pub named_type_inside : (offset : ℕ) (x : Specified) (stars : ℕ) (ns : List MaybeSize) → P offset → TagWithin x → Inside (named_type offset x stars ns)
  named_type_inside offset x stars ns p q s =
      let r = starred x stars offset s in
      within_then s r.1 _ (starred_inside x stars offset p q s) (if_some_inside (arrays_of r.0 ns) (small_type offset) (λ t. small_type_inside offset t p) r.1)

  pub object_type_inside : (may : Bool) (offset : ℕ) (x : Specified) (stars : ℕ) (ds : List Dimension) → P offset → TagWithin x → Inside (object_type may offset x stars ds)
  object_type_inside may offset x stars ds p q s =
      let u = starred x stars offset s in
      let t = if_some u.0 (λ t. type_if (not (is_object_of s.structs t)) offset t) u.1 in
      let v = if_some (arrays_of t.0 (sizes_of ds)) (small_type offset) t.1 in
      within_then s u.1 _ (starred_inside x stars offset p q s)
      (within_then u.1 t.1 _ (if_some_inside u.0 (λ t. type_if (not (is_object_of s.structs t)) offset t) (λ t. type_if_inside (not (is_object_of s.structs t)) offset t p) u.1)
      (within_then t.1 v.1 _ (if_some_inside (arrays_of t.0 (sizes_of ds)) (small_type offset) (λ t. small_type_inside offset t p) t.1)
      (unless_empty_inside (other_is_empty ds || (first_is_empty ds && not may)) offset v.0 p v.1)))

  elements_within : (x : Specified) (ds : List Dimension) → TagWithin x → TagWithin (elements_specified x ds)
  elements_within x [] q = q
  elements_within x (d ∷ ds) q = λ o is. absurd (cc)

  adjusted_inside : (offset : ℕ) (t : MaybeType) (ds : List Dimension) → P offset → Inside (adjusted offset t ds)
  adjusted_inside offset t [] p s = within_nothing s
  adjusted_inside offset t (d ∷ ds) p s = if_some_inside (elements_type t (size_of_dimension d) ds) (small_type offset) (λ t. small_type_inside offset t p) s

  pub param_type_inside : (offset : ℕ) (x : Specified) (stars : ℕ) (ds : List Dimension) → P offset → TagWithin x → Inside (param_type offset x stars ds)
  param_type_inside offset x stars ds p q s =
      let u = starred (elements_specified x ds) stars offset s in
      let t = if_some u.0 (λ t. type_if (not (is_param_of s.structs t ds)) offset t) u.1 in
      let v = adjusted offset t.0 ds t.1 in
      within_then s u.1 _ (starred_inside (elements_specified x ds) stars offset p (elements_within x ds q) s)
      (within_then u.1 t.1 _ (if_some_inside u.0 (λ t. type_if (not (is_param_of s.structs t ds)) offset t) (λ t. type_if_inside (not (is_param_of s.structs t ds)) offset t p) u.1)
      (within_then t.1 v.1 _ (adjusted_inside offset t.0 ds p t.1) (unless_empty_inside (other_is_empty ds) offset v.0 p v.1)))

  pub result_type_inside : (offset : ℕ) (x : Specified) (stars : ℕ) → P offset → TagWithin x → Inside (result_type offset x stars)
  result_type_inside offset x stars p q s =
      let t = starred x stars offset s in
      within_then s t.1 _ (starred_inside x stars offset p q s) (if_some_inside t.0 (λ t. type_if (is_struct t) offset t) (λ t. type_if_inside (is_struct t) offset t p) t.1)

  pub size_inside : (offset : ℕ) (a : Term) → P offset → Inside (size offset a)
  size_inside offset a p s = or_broken_inside NotConstant offset _ p s

  -- ---- initialisers

  converted_inside : (t : MaybeType) (n offset : ℕ) (a : Operand) → P offset → Inside (converted t n offset a)
  converted_inside None n offset a p s = within_nothing s
  converted_inside (Some t) n offset a p s = or_broken_inside _ offset _ p s

  pub value_read_inside : (is_static : Bool) (t : MaybeType) (n offset : ℕ) (a : Term) → P offset → Inside (value_read is_static t n offset a)
  value_read_inside is_static t n offset a p s =
      let r = breaks_if _ NotConstant offset s in
      within_then s r.1 _ (breaks_if_inside _ NotConstant offset p s) (if_some_inside a (converted t n offset) (λ x. converted_inside t n offset x p) r.1)

  pub characters_inside : (n offset : ℕ) (cs : List ℕ) (m : ℕ) → P offset → Inside (characters n offset cs m)
  characters_inside n offset cs m p s = by_test (nat_le (length cs) m) s
    where
      by_test : (t : Bool) → Inside (if t then pure (Some (typed.characters_then n cs typed.no_elements)) else broken_at BadInitialiser offset)
      by_test true s = within_nothing s
      by_test false s = breaks_inside BadInitialiser offset p s

  pub list_for_inside : (t : MaybeType) (offset count : ℕ) (es : ElementTrees) → P offset → Inside (list_for t offset count es)
  list_for_inside None offset count es p s = within_nothing s
  list_for_inside (Some t) offset count es p s = by_test (takes (parts_of s.structs t) count) s
    where
      by_test : (t : Bool) → Inside (if t then pure (Some es) else broken_at BadInitialiser offset)
      by_test true s = within_nothing s
      by_test false s = breaks_inside BadInitialiser offset p s

  -- ---- statements

  pub whole_inside : (offset : ℕ) (a : Term) → P offset → Inside (whole offset a)
  whole_inside offset a p s = if_some_inside a _ (λ x. or_broken_inside _ offset _ p) s

  pub condition_inside : (offset : ℕ) (a : Term) → P offset → Inside (condition offset a)
  condition_inside offset a p s = if_some_inside a _ (λ x. or_broken_inside _ offset _ p) s

  pub subject_inside : (offset : ℕ) (a : Term) → P offset → Inside (subject offset a)
  subject_inside offset a p s = if_some_inside a _ (λ x. or_broken_inside _ offset _ p) s

  pub jump_inside : (allowed : Bool) (offset : ℕ) (a : StmtTree) → P offset → Inside (jump allowed offset a)
  jump_inside allowed offset a p s = breaks_if_inside _ BadJump offset p s

  pub case_label_inside : (x : Labels) (offset : ℕ) (w : Option ℕ) → P offset → Inside (case_label x offset w)
  case_label_inside x offset None p s = within_nothing s
  case_label_inside x offset (Some w) p s = breaks_if_inside _ BadLabel offset p s

  -- ---- declarations and scopes

  pub declare_inside : (name : Name) (offset : ℕ) (m : Meaning) → P offset → Inside (declare name offset m)
  declare_inside name offset m p s =
      let r = breaks_if (is_declared s.scopes name) Redeclared offset s in
      within_then s r.1 _ (breaks_if_inside (is_declared s.scopes name) Redeclared offset p s) (within_same r.1 _ refl)
