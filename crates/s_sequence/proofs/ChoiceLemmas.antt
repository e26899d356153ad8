-- The lines of a choice, in the order in which its codes stand.
use Rattle.std.proofs.Common.{◌≡◌, ℕ, suc, ◌+◌, ◌-◌, List, [], ◌∷◌, ◌++◌, length, refl, ap, sym, subst, ◌∙◌, arith, append_assoc, append-nil, add-one, add-suc, add-zero, length-append}
use Rattle.g_graph.specs.declared.op.Op.TheVariants.{Gamma}
use Rattle.g_graph.specs.declared.op.Origin.TheVariants.{Arg}
use Rattle.g_graph.specs.Plain.{RegionTree, RegionTrees, no_regions, region_then, regions_of, count_of}
use Rattle.g_graph.specs.Signatures.{result_kinds, outputs_of}
use Rattle.g_graph.specs.Count.{region_values, regions_values}
use Rattle.g_graph.proofs.lemmas.Listed.{count_is}
use Rattle.s_linear.specs.Linear.{choice, Codes}
use Rattle.s_linear.specs.Lines.{Line, LinesOf, jump, label, branch_equal, branch_not_zero, counted, last_labels, code_lines, codes_lines, branches, labelled, last_lines, before_last, step_lines, code_labels}
use Rattle.s_sequence.specs.Sequence.{values_in, region_names, regions_names, last_names, first_standing, outputs_at, bases, bases_from, branch_codes, branch_code}
use Rattle.s_sequence.specs.Shape.{HasShape, last_kinds, RegionShaped, RegionsShaped}
use Rattle.s_sequence.specs.Written.{region_labels, regions_labels, branch_lines, others_lines, cases_lines}
use Rattle.s_sequence.proofs.LabelLemmas.{branch_labels_are}

abbrev pub with_last : RegionTrees → RegionTree → RegionTrees
with_last no_regions l = region_then l no_regions
with_last (region_then r rs) l = region_then r (with_last rs l)

pub regions_with_last : (xs : List RegionTree) (l : RegionTree) → regions_of (xs ++ l ∷ []) ≡ with_last (regions_of xs) l
regions_with_last [] l = refl
regions_with_last (x ∷ xs) l = ap (region_then x) (regions_with_last xs l)

pub names_with_last : (fr : RegionTrees) (l : RegionTree) → regions_names (with_last fr l) ≡ region_names l + regions_names fr
names_with_last no_regions l = refl
names_with_last (region_then r rs) l = omega (arith, names_with_last rs l)

pub labels_with_last : (fr : RegionTrees) (l : RegionTree) → regions_labels (with_last fr l) ≡ region_labels l + regions_labels fr
labels_with_last no_regions l = refl
labels_with_last (region_then r rs) l = omega (arith, labels_with_last rs l)

pub values_with_last : (fr : RegionTrees) (l : RegionTree) → regions_values (with_last fr l) ≡ region_values l + regions_values fr
values_with_last no_regions l = refl
values_with_last (region_then r rs) l = omega (arith, values_with_last rs l)

pub shaped_with_last : (fr : RegionTrees) (l : RegionTree) → RegionsShaped (with_last fr l) → RegionShaped l × RegionsShaped fr
shaped_with_last no_regions l h = (h.0, tt)
shaped_with_last (region_then r rs) l h = let e = shaped_with_last rs l h.1 in (e.0, (h.0, e.1))

last_with_last : (fr : RegionTrees) (l : RegionTree) → last_names (with_last fr l) ≡ region_names l
last_with_last no_regions l = refl
last_with_last (region_then r no_regions) l = refl
last_with_last (region_then r (region_then s rs)) l = last_with_last (region_then s rs) l

kinds_with_last : (r : RegionTree) (fr : RegionTrees) (l : RegionTree) → last_kinds r (with_last fr l) ≡ result_kinds l
kinds_with_last r no_regions l = refl
kinds_with_last r (region_then s rs) l = kinds_with_last s rs l

-- the last region of a Gamma gives the kinds of its outputs
pub outputs_with_last : (fr : RegionTrees) (l : RegionTree) → HasShape Gamma (Arg 0 ∷ []) (with_last fr l) → outputs_of Gamma (with_last fr l) ≡ result_kinds l
outputs_with_last no_regions l h = refl
outputs_with_last (region_then r rs) l h = sym h ∙ kinds_with_last r rs l

branches_are : (p r first : ℕ) (cs : List LinesOf) → branches p r first cs ≡ branch_lines p r first (before_last cs)
branches_are p r first [] = refl
branches_are p r first (c ∷ []) = refl
branches_are p r first (c ∷ d ∷ cs) = ap (λ ls. branch_equal p r (first + r) ∷ ls) (branches_are p (suc r) first (d ∷ cs))

module _ (entries : List ℕ) (outputs : ℕ) where
  abbrev codes_from : (next at : ℕ) → RegionTrees → Codes
  codes_from next at rs = branch_codes entries outputs (bases_from next at rs) rs

  counted_from : (next at : ℕ) (fr : RegionTrees) (l : RegionTree) → counted (codes_from next at (with_last fr l)) ≡ suc (count_of fr)
  counted_from next at no_regions l = refl
  counted_from next at (region_then r no_regions) l = refl
  counted_from next at (region_then r (region_then s no_regions)) l = ap suc (counted_from next (at + region_names r) (region_then s no_regions) l)
  counted_from next at (region_then r (region_then s (region_then t rs))) l = ap suc (counted_from next (at + region_names r) (region_then s (region_then t rs)) l)

  last_labels_from : (next at : ℕ) (fr : RegionTrees) (l : RegionTree) →
      last_labels (codes_from next at (with_last fr l)) ≡ code_labels (branch_code entries outputs next l)
  last_labels_from next at no_regions l = refl
  last_labels_from next at (region_then r no_regions) l = refl
  last_labels_from next at (region_then r (region_then s no_regions)) l = last_labels_from next (at + region_names r) (region_then s no_regions) l
  last_labels_from next at (region_then r (region_then s (region_then t rs))) l = last_labels_from next (at + region_names r) (region_then s (region_then t rs)) l

  abbrev lines_from : (next at last others : ℕ) → RegionTrees → List LinesOf
  lines_from next at last others rs = codes_lines last others (codes_from next at rs)

  before_from : (next at last others : ℕ) (fr : RegionTrees) (l : RegionTree) → before_last (lines_from next at last others (with_last fr l)) ≡ count_of fr
  before_from next at last others no_regions l = refl
  before_from next at last others (region_then r no_regions) l = refl
  before_from next at last others (region_then r (region_then s no_regions)) l =
      ap suc (before_from next (at + region_names r) last (others + code_labels (branch_code entries outputs at r)) (region_then s no_regions) l)
  before_from next at last others (region_then r (region_then s (region_then t no_regions))) l =
      ap suc (before_from next (at + region_names r) last (others + code_labels (branch_code entries outputs at r)) (region_then s (region_then t no_regions)) l)
  before_from next at last others (region_then r (region_then s (region_then t (region_then u rs)))) l =
      ap suc (before_from next (at + region_names r) last (others + code_labels (branch_code entries outputs at r)) (region_then s (region_then t (region_then u rs))) l)

  last_from_is : (next at last others : ℕ) (fr : RegionTrees) (l : RegionTree) → last_lines (lines_from next at last others (with_last fr l)) ≡ code_lines last
      (branch_code entries outputs next l)
  last_from_is next at last others no_regions l = refl
  last_from_is next at last others (region_then r no_regions) l = refl
  last_from_is next at last others (region_then r (region_then s no_regions)) l =
      last_from_is next (at + region_names r) last (others + code_labels (branch_code entries outputs at r)) (region_then s no_regions) l
  last_from_is next at last others (region_then r (region_then s (region_then t no_regions))) l =
      last_from_is next (at + region_names r) last (others + code_labels (branch_code entries outputs at r)) (region_then s (region_then t no_regions)) l
  last_from_is next at last others (region_then r (region_then s (region_then t (region_then u rs)))) l =
      last_from_is next (at + region_names r) last (others + code_labels (branch_code entries outputs at r)) (region_then s (region_then t (region_then u rs))) l

  labelled_is : (next at last others k first end : ℕ) (fr : RegionTrees) (l : RegionTree) → RegionsShaped fr →
      labelled k first end (lines_from next at last others (with_last fr l)) ≡ others_lines entries outputs (first + k) end others at fr
  labelled_is next at last others k first end no_regions l h = refl
  labelled_is next at last others k first end (region_then r no_regions) l h = refl
  labelled_is next at last others k first end (region_then r (region_then s no_regions)) l h =
      let c : List Line = jump end ∷ label (first + k) ∷ code_lines others (branch_code entries outputs at r) in
      ap (λ ls. c ++ ls) (labelled_is next (at + region_names r) last (others + code_labels (branch_code entries outputs at r)) (suc k) first end
      (region_then s no_regions) l h.1)
      ∙ ap (λ m. c ++ others_lines entries outputs m end (others + code_labels (branch_code entries outputs at r)) (at + region_names r) (region_then s no_regions))
      (add-suc first k)
      ∙ ap (λ m. c ++ others_lines entries outputs (suc (first + k)) end (others + m) (at + region_names r) (region_then s no_regions))
      (branch_labels_are entries outputs at r h.0)
  labelled_is next at last others k first end (region_then r (region_then s (region_then t no_regions))) l h =
      let c : List Line = jump end ∷ label (first + k) ∷ code_lines others (branch_code entries outputs at r) in
      ap (λ ls. c ++ ls) (labelled_is next (at + region_names r) last (others + code_labels (branch_code entries outputs at r)) (suc k) first end
      (region_then s (region_then t no_regions)) l h.1)
      ∙ ap (λ m. c ++ others_lines entries outputs m end (others + code_labels (branch_code entries outputs at r)) (at + region_names r)
      (region_then s (region_then t no_regions))) (add-suc first k)
      ∙ ap (λ m. c ++ others_lines entries outputs (suc (first + k)) end (others + m) (at + region_names r) (region_then s (region_then t no_regions)))
      (branch_labels_are entries outputs at r h.0)
  labelled_is next at last others k first end (region_then r (region_then s (region_then t (region_then u rs)))) l h =
      let c : List Line = jump end ∷ label (first + k) ∷ code_lines others (branch_code entries outputs at r) in
      ap (λ ls. c ++ ls) (labelled_is next (at + region_names r) last (others + code_labels (branch_code entries outputs at r)) (suc k) first end
      (region_then s (region_then t (region_then u rs)))
      l h.1)
      ∙ ap (λ m. c ++ others_lines entries outputs m end (others + code_labels (branch_code entries outputs at r)) (at + region_names r)
      (region_then s (region_then t (region_then u rs))))
      (add-suc first k)
      ∙ ap (λ m. c ++ others_lines entries outputs (suc (first + k)) end (others + m) (at + region_names r) (region_then s (region_then t (region_then u rs))))
      (branch_labels_are entries outputs at r h.0)

  abbrev choice_of_more : (p first : ℕ) → List LinesOf → List Line
  choice_of_more p first cs = branches p 0 first cs ++ last_lines cs ++ labelled 0 first (first + before_last cs) cs ++ label (first + before_last cs) ∷ []

  more_is : (p first next at last others n : ℕ) (fr : RegionTrees) (l : RegionTree) → RegionsShaped fr → outputs ≡ next + region_names l →
      at ≡ next + region_names l + n →
      last ≡ first + suc (count_of fr) → others ≡ first + suc (count_of fr) + region_labels l →
      choice_of_more p first (lines_from next at last others (with_last fr l)) ≡ branch_lines p 0 first (count_of fr) ++ cases_lines entries first
      (first + suc (count_of fr)) next l n fr
  more_is p first next at last others n fr l h a b d e =
      let cs : List LinesOf = lines_from next at last others (with_last fr l) in
      let k : ℕ = count_of fr in
      let heads : List Line = branch_lines p 0 first k in
      let own : List Line = code_lines last (branch_code entries outputs next l) in
      let rest : List Line = others_lines entries outputs first (first + k) others at fr in
      ap (λ m. branches p 0 first cs ++ last_lines cs ++ labelled 0 first (first + m) cs ++ label (first + m) ∷ []) (before_from next at last others fr l)
      ∙ ap (λ ls. ls ++ last_lines cs ++ labelled 0 first (first + k) cs ++ label (first + k) ∷ [])
      (branches_are p 0 first cs ∙ ap (branch_lines p 0 first) (before_from next at last others fr l))
      ∙ ap (λ ls. heads ++ ls ++ labelled 0 first (first + k) cs ++ label (first + k) ∷ []) (last_from_is next at last others fr l)
      ∙ ap (λ ls. heads ++ own ++ ls ++ label (first + k) ∷ [])
      (labelled_is next at last others 0 first (first + k) fr l h ∙ ap (λ m. others_lines entries outputs m (first + k) others at fr) (add-zero first))
      ∙ ap (λ ls. ls ++ label (first + k) ∷ []) (append_assoc heads own rest) ∙ append_assoc heads (own ++ rest) (label (first + k) ∷ [])
      ∙ ap (λ m. heads ++ (code_lines m (branch_code entries outputs next l) ++ rest ++ label (first + k) ∷ [])) d
      ∙ ap (λ m. heads ++ (code_lines (first + suc k) (branch_code entries outputs next l) ++ others_lines entries outputs first (first + k) m at fr
      ++ label (first + k) ∷ [])) e
      ∙ ap (λ m. heads ++ (code_lines (first + suc k) (branch_code entries outputs next l) ++ others_lines entries outputs first (first + k)
      (first + suc k + region_labels l) m fr ++ label
      (first + k) ∷ [])) b
      ∙ ap (λ m. heads ++ (code_lines (first + suc k) (branch_code entries m next l)
      ++ others_lines entries m first (first + k) (first + suc k + region_labels l) (next + region_names l + n) fr ++ label (first + k) ∷ [])) a

module _ (entries : List ℕ) (p first next n : ℕ) where
  -- the lines of a choice among these regions, which give so many values
  abbrev pub lines_of_choice : RegionTrees → List Line
  lines_of_choice rs = step_lines first (choice p (branch_codes entries (outputs_at next rs) (bases next n rs) rs))

  pub two_lines : (r s : RegionTree) → RegionShaped r →
      lines_of_choice (region_then r (region_then s no_regions)) ≡ (branch_not_zero p first ∷ []) ++ cases_lines entries first (first + 2) next r n
      (region_then s no_regions)
  two_lines r s h =
      let out : ℕ = next + region_names r in
      let c : List Line = code_lines (first + 2) (branch_code entries out next r) in
      let d : ℕ → List Line = λ m. code_lines (first + 2 + m) (branch_code entries out (out + n) s) in
      let tail : ℕ → ℕ → List Line = λ m e. jump e ∷ label first ∷ d m in
      ap (λ m. ((branch_not_zero p first ∷ c) ++ tail m (suc first)) ++ label (suc first) ∷ []) (branch_labels_are entries out next r h)
      ∙ ap (λ e. ((branch_not_zero p first ∷ c) ++ tail (region_labels r) e) ++ label e ∷ []) (sym (add-one first))
      ∙ ap (λ ls. branch_not_zero p first ∷ ((c ++ ls) ++ label (first + 1) ∷ [])) (sym (append-nil (tail (region_labels r) (first + 1))))

  many : (fr : RegionTrees) (l : RegionTree) → RegionShaped l → RegionsShaped fr →
      choice_of_more entries (outputs_at next (with_last fr l)) p first
      (lines_from entries (next + last_names (with_last fr l)) next (next + last_names (with_last fr l) + n)
      (first + counted (codes_from entries (next + last_names (with_last fr l)) next (next + last_names (with_last fr l) + n) (with_last fr l)))
      (first + counted (codes_from entries (next + last_names (with_last fr l)) next (next + last_names (with_last fr l) + n) (with_last fr l))
      + last_labels (codes_from entries (next + last_names (with_last fr l)) next (next + last_names (with_last fr l) + n) (with_last fr l))) (with_last fr l))
      ≡ branch_lines p 0 first (count_of fr) ++ cases_lines entries first (first + suc (count_of fr)) next l n fr
  many fr l h k =
      let out : ℕ = next + last_names (with_last fr l) in
      let own : out ≡ next + region_names l = ap (λ m. next + m) (last_with_last fr l) in
      let count : first + counted (codes_from entries out next (out + n) (with_last fr l)) ≡ first + suc (count_of fr) =
      ap (λ m. first + m) (counted_from entries out next (out + n) fr l) in
      more_is entries out p first next (out + n) _ _ n fr l k own (ap (λ m. m + n) own) count
      (omega (arith, count, last_labels_from entries out next (out + n) fr l, branch_labels_are entries out next l h))

  pub many_lines : (fr : RegionTrees) (l : RegionTree) → RegionShaped l → RegionsShaped fr → (count_of fr ≡ 1 → ⊥) →
      lines_of_choice (with_last fr l) ≡ branch_lines p 0 first (count_of fr) ++ cases_lines entries first (first + suc (count_of fr)) next l n fr
  many_lines no_regions l h k one = many no_regions l h k
  many_lines (region_then r no_regions) l h k one = absurd (one refl)
  many_lines (region_then r (region_then s no_regions)) l h k one = many (region_then r (region_then s no_regions)) l h k
  many_lines (region_then r (region_then s (region_then t no_regions))) l h k one = many (region_then r (region_then s (region_then t no_regions))) l h k
  many_lines (region_then r (region_then s (region_then t (region_then u no_regions)))) l h k one =
      many (region_then r (region_then s (region_then t (region_then u no_regions)))) l h k
  many_lines (region_then r (region_then s (region_then t (region_then u (region_then v rs))))) l h k one =
      many (region_then r (region_then s (region_then t (region_then u (region_then v rs)))))
      l h k

standing_with_last : (fr : RegionTrees) (l : RegionTree) → (count_of fr ≡ 1 → ⊥) → first_standing (with_last fr l) ≡ region_names l
standing_with_last no_regions l one = refl
standing_with_last (region_then r no_regions) l one = absurd (one refl)
standing_with_last (region_then r (region_then s no_regions)) l one = refl
standing_with_last (region_then r (region_then s (region_then t rs))) l one = last_with_last (region_then t rs) l

-- the last of regions that are not two, and the others
module _ (xs ys : List RegionTree) (l : RegionTree) (parts : xs ≡ ys ++ l ∷ []) (other : length xs ≡ 2 → ⊥) where
  pub trees_are : regions_of xs ≡ with_last (regions_of ys) l
  trees_are = ap regions_of parts ∙ regions_with_last ys l

  not_one : count_of (regions_of ys) ≡ 1 → ⊥
  not_one h = other (ap length parts ∙ length-append ys (l ∷ []) ∙ ap (λ n. n + 1) (sym (count_is ys) ∙ h))

  pub outputs_begin : (next : ℕ) → outputs_at next (regions_of xs) ≡ next + region_names l
  outputs_begin next = ap (outputs_at next) trees_are ∙ ap (λ n. next + n) (standing_with_last (regions_of ys) l not_one)

  pub outputs_are : HasShape Gamma (Arg 0 ∷ []) (regions_of xs) → outputs_of Gamma (regions_of xs) ≡ result_kinds l
  outputs_are h = ap (outputs_of Gamma) trees_are ∙ outputs_with_last (regions_of ys) l (subst (HasShape Gamma (Arg 0 ∷ [])) trees_are h)

  pub parts_shaped : RegionsShaped (regions_of xs) → RegionShaped l × RegionsShaped (regions_of ys)
  parts_shaped h = shaped_with_last (regions_of ys) l (subst RegionsShaped trees_are h)

  pub names_are : regions_names (regions_of xs) ≡ region_names l + regions_names (regions_of ys)
  names_are = ap regions_names trees_are ∙ names_with_last (regions_of ys) l

  pub labels_are : regions_labels (regions_of xs) ≡ region_labels l + regions_labels (regions_of ys)
  labels_are = ap regions_labels trees_are ∙ labels_with_last (regions_of ys) l

  pub values_are : regions_values (regions_of xs) ≡ region_values l + regions_values (regions_of ys)
  values_are = ap regions_values trees_are ∙ values_with_last (regions_of ys) l

  pub lengths_are : length xs ≡ length ys + 1
  lengths_are = ap length parts ∙ length-append ys (l ∷ [])

  pub many_written : (entries : List ℕ) (p first next : ℕ) → HasShape Gamma (Arg 0 ∷ []) (regions_of xs) → RegionsShaped (regions_of xs) →
      (l0 l1 l2 : List Line) (k1 n1 : ℕ) → k1 ≡ first + length xs → n1 ≡ next → l1 ≡ l0 ++ branch_lines p 0 first (length xs - 1) →
      l2 ≡ l1 ++ cases_lines entries first k1 n1 l (values_in (result_kinds l)) (regions_of ys) →
      l2 ≡ l0 ++ lines_of_choice entries p first next (values_in (outputs_of Gamma (regions_of xs))) (regions_of xs)
  many_written entries p first next shape shaped l0 l1 l2 k1 n1 a b e f =
      let fr : RegionTrees = regions_of ys in
      let n : ℕ = values_in (result_kinds l) in
      let own = parts_shaped shaped in
      let count : length xs - 1 ≡ count_of fr = omega (arith, lengths_are, count_is ys) in
      let labels : k1 ≡ first + suc (count_of fr) = omega (arith, a, lengths_are, count_is ys) in
      let heads : List Line = branch_lines p 0 first (count_of fr) in
      f ∙ ap (λ ls. ls ++ cases_lines entries first k1 n1 l n fr) (e ∙ ap (λ m. l0 ++ branch_lines p 0 first m) count)
      ∙ append_assoc l0 heads (cases_lines entries first k1 n1 l n fr)
      ∙ ap (λ m. l0 ++ (heads ++ cases_lines entries first m n1 l n fr)) labels
      ∙ ap (λ m. l0 ++ (heads ++ cases_lines entries first (first + suc (count_of fr)) m l n fr)) b
      ∙ ap (λ ls. l0 ++ ls) (sym (many_lines entries p first next n fr l own.0 own.1 not_one))
      ∙ ap (λ m. l0 ++ lines_of_choice entries p first next m (with_last fr l)) (sym (ap values_in (outputs_are shape)))
      ∙ ap (λ rs. l0 ++ lines_of_choice entries p first next (values_in (outputs_of Gamma (regions_of xs))) rs) (sym trees_are)

pub two_written : (xs ys : List RegionTree) (r s : RegionTree) → xs ≡ r ∷ s ∷ [] → ys ≡ s ∷ [] → RegionShaped r →
    (entries : List ℕ) (p first next : ℕ) (l0 l1 l2 : List Line) (k1 n1 : ℕ) →
    k1 ≡ first + length xs → n1 ≡ next → l1 ≡ l0 ++ branch_not_zero p first ∷ [] → l2 ≡ l1 ++ cases_lines entries first k1 n1 r (values_in (result_kinds r))
    (regions_of ys) →
    l2 ≡ l0 ++ lines_of_choice entries p first next (values_in (outputs_of Gamma (regions_of xs))) (regions_of xs)
two_written xs ys r s parts rest shaped entries p first next l0 l1 l2 k1 n1 a b e f =
    let n : ℕ = values_in (result_kinds r) in
    let one : RegionTrees = region_then s no_regions in
    f ∙ ap (λ zs. l1 ++ cases_lines entries first k1 n1 r n (regions_of zs)) rest ∙ ap (λ ls. ls ++ cases_lines entries first k1 n1 r n one) e
    ∙ append_assoc l0 (branch_not_zero p first ∷ []) (cases_lines entries first k1 n1 r n one)
    ∙ ap (λ m. l0 ++ branch_not_zero p first ∷ cases_lines entries first m n1 r n one) (a ∙ ap (λ zs. first + length zs) parts)
    ∙ ap (λ m. l0 ++ branch_not_zero p first ∷ cases_lines entries first (first + 2) m r n one) b
    ∙ ap (λ ls. l0 ++ ls) (sym (two_lines entries p first next n r s shaped))
    ∙ ap (λ zs. l0 ++ lines_of_choice entries p first next (values_in (outputs_of Gamma (regions_of zs))) (regions_of zs)) (sym parts)

pub cases_written : (entries : List ℕ) (first k0 n0 values : ℕ) (r : RegionTree) (rs : RegionTrees) (l0 l1 l2 l3 : List Line) (out k1 n1 end : ℕ) →
    out ≡ n0 + region_names r →
    k1 ≡ k0 + region_labels r →
    n1 ≡ n0 + region_names r + values → end ≡ first + count_of rs → l1 ≡ l0 ++ code_lines k0 (branch_code entries (n0 + region_names r) n0 r) →
    l2 ≡ l1 ++ others_lines entries out first end k1 n1 rs →
    l3 ≡ l2 ++ label end ∷ [] → l3 ≡ l0 ++ cases_lines entries first k0 n0 r values rs
cases_written entries first k0 n0 values r rs l0 l1 l2 l3 out k1 n1 end a b d e f g h =
    let own : List Line = code_lines k0 (branch_code entries (n0 + region_names r) n0 r) in
    let o : ℕ = n0 + region_names r in
    h ∙ ap (λ ls. ls ++ label end ∷ []) (g ∙ ap (λ ls. ls ++ others_lines entries out first end k1 n1 rs) f)
    ∙ ap (λ m. ((l0 ++ own) ++ others_lines entries out first m k1 n1 rs) ++ label m ∷ []) e
    ∙ ap (λ m. ((l0 ++ own) ++ others_lines entries m first (first + count_of rs) k1 n1 rs) ++ label (first + count_of rs) ∷ []) a
    ∙ ap (λ m. ((l0 ++ own) ++ others_lines entries o first (first + count_of rs) m n1 rs) ++ label (first + count_of rs) ∷ []) b
    ∙ ap (λ m. ((l0 ++ own) ++ others_lines entries o first (first + count_of rs) (k0 + region_labels r) m rs) ++ label (first + count_of rs) ∷ []) d
    ∙ regrouped l0 own (others_lines entries o first (first + count_of rs) (k0 + region_labels r) (o + values) rs) (label (first + count_of rs) ∷ [])
  where
    regrouped : (a b c d : List Line) → ((a ++ b) ++ c) ++ d ≡ a ++ ((b ++ c) ++ d)
    regrouped a b c d = simp append_assoc
