-- The lines that are left, one after the other.
use Rattle.std.proofs.Common.{◌≡◌, ℕ, ◌+◌, ◌*◌, ◌<◌, ◌≤◌, sym, ap, ◌∙◌, List, [], ◌∷◌, ◌++◌, get_or, map, take, drop, length, flat_map, append_assoc, append-nil, arith}
use Rattle.std.proofs.lemmas.List.{drop_more}
use Rattle.g_graph.specs.Plain.{PlainObject}
use Rattle.s_linear.specs.Frame.{PlainPlaces}
use Rattle.s_linear.specs.Lines.{Line}
use Rattle.s_linear.specs.Views.{line_of}
use Rattle.s_linear.specs.declared.line.Line as code
use Rattle.rv_layout.specs.Items.{items_size}
use Rattle.s_select.specs.Templates.{line_items, items_of}
use Rattle.cc_listing.specs.Lines.{Listed, count_of, lines_from, listed_text}
use Rattle.cc_listing.proofs.Cut.{four_bytes, next_size}

module _ (xs : List code.Line) (i : ℕ) (x : code.Line) (within : i < length xs) (is : x ≡ get_or xs i x) where
  pub next_line : map line_of (drop i xs) ≡ line_of x ∷ map line_of (drop (i + 1) xs)
  next_line = ap (map line_of) (drop_more xs i x within) ∙ ap (λ y. line_of y ∷ map line_of (drop (i + 1) xs)) (sym is)

module _ (p : PlainPlaces) (os : List PlainObject) (l : Line) (ls all : List Line) (first : all ≡ l ∷ ls) where
  pub size_left : items_size (items_of p os all) ≡ items_size (line_items p os l) + items_size (items_of p os ls)
  size_left = ap (λ xs. items_size (items_of p os xs)) first ∙ next_size p os l ls

  -- the words of a line are among those that are left
  pub own_there : (n : ℕ) → items_size (items_of p os all) ≤ 4 * n → count_of p os l ≤ n
  own_there n h = omega (arith, size_left, four_bytes (line_items p os l))

  -- and those of the later lines are after them
  pub later_there : (n m : ℕ) → items_size (items_of p os all) ≤ 4 * n → m + count_of p os l ≡ n → items_size (items_of p os ls) ≤ 4 * m
  later_there n m h cut = omega (arith, size_left, four_bytes (line_items p os l))

  -- one line more
  pub lines_step : (names : List (List ℕ)) (i at next : ℕ) (ws own later out out' whole : List ℕ)
      → own ≡ take (count_of p os l) ws → later ≡ drop (count_of p os l) ws → next ≡ at + items_size (line_items p os l)
      → out ++ flat_map (listed_text names) (lines_from p os i at all ws) ≡ whole
      → out' ≡ out ++ listed_text names record { position = i; line = l; at = at; words = own }
      → out' ++ flat_map (listed_text names) (lines_from p os (i + 1) next ls later) ≡ whole
  lines_step names i at next ws own later out out' whole own_is later_is next_is before pushed =
      let n = count_of p os l in
      let here : Listed = record { position = i; line = l; at = at; words = take n ws } in
      let to = at + items_size (line_items p os l) in
      let rest = flat_map (listed_text names) (lines_from p os (i + 1) to ls (drop n ws)) in
      ap (λ m. out' ++ flat_map (listed_text names) (lines_from p os (i + 1) m ls later)) next_is
      ∙ ap (λ ys. out' ++ flat_map (listed_text names) (lines_from p os (i + 1) to ls ys)) later_is
      ∙ ap (λ o. o ++ rest) (pushed ∙ ap (λ ys. out ++ listed_text names record { position = i; line = l; at = at; words = ys }) own_is)
      ∙ append_assoc out (listed_text names here) rest
      ∙ ap (λ xs. out ++ flat_map (listed_text names) (lines_from p os i at xs ws)) (sym first)
      ∙ before

pub lines_end : (p : PlainPlaces) (os : List PlainObject) (names : List (List ℕ)) (i at : ℕ) (left : List Line) (ws out whole : List ℕ) → left ≡ []
    → out ++ flat_map (listed_text names) (lines_from p os i at left ws) ≡ whole → out ≡ whole
lines_end p os names i at left ws out whole none before =
    sym (append-nil out) ∙ ap (λ xs. out ++ flat_map (listed_text names) (lines_from p os i at xs ws)) (sym none) ∙ before
