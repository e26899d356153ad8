-- What the watchers of a call are given, and the report of one of them.
use Rattle.std.specs.Prelude.{◌≡◌, ◌<◌, ℕ, suc, Bool, true, List, [], ◌++◌, Option, Some, None, find, is_some, length, take, drop}
use Rattle.std.specs.List.{AllZip}
use Rattle.std.specs.Str.{bytes_eq}
use Rattle.cc_watch.specs.Rows.{PlainRow}

-- the first watcher of a name
abbrev pub watcher_named : {W : Type 0} (named : W → List ℕ) (name : List ℕ) → List W → Option W
watcher_named named name = find (λ w. bytes_eq (named w) name)

-- There is a watcher to report, where a report is asked for.
abbrev pub has_reporter : {W : Type 0} (named : W → List ℕ) (report : Option (List ℕ)) → List W → Bool
has_reporter named None watchers = true
has_reporter named (Some name) watchers = is_some (watcher_named named name watchers)

-- A watcher has a name, stands for lists of rows, and gives a text of a list.
module _ {W : Type 0} (named : W → List ℕ) (stands_for : W → List PlainRow → Type 0) (text_of : W → List PlainRow → List ℕ) where
  -- A watcher was given these rows: whatever list it stood for, it stands for that list and these rows. Its name and its
  -- texts are the same.
  pub record HasGained (rows : List PlainRow) (before after : W) : Type 0 where
    pub stands : (L : List PlainRow) → stands_for before L → stands_for after (L ++ rows)
    pub name : named after ≡ named before
    pub texts : (L : List PlainRow) → text_of after L ≡ text_of before L

  -- Each of the watchers was given these rows; they are as many, in the same order.
  abbrev pub AllHaveGained : List PlainRow → (before after : List W) → Type 0
  AllHaveGained rows before after = AllZip (HasGained rows) before after

  -- Each of them was given the rows before one of these, and the first of them that one too; the next had no memory for it.
  pub record AllHaveBegun (rows : List PlainRow) (before after : List W) : Type 0 where
    pub row : ℕ
    pub inside : row < length rows
    pub ahead : ℕ
    pub first : AllHaveGained (take (suc row) rows) (take ahead before) (take ahead after)
    pub others : AllHaveGained (take row rows) (drop ahead before) (drop ahead after)

  -- The text of a report is that of the first watcher of the name: of whatever list it stands for, and these rows. It is
  -- empty where no report is asked for.
  abbrev pub IsReportOf : (report : Option (List ℕ)) → List PlainRow → List W → (text : List ℕ) → Type 0
  IsReportOf None rows watchers text = text ≡ []
  IsReportOf (Some name) rows watchers text =
      (w : W) → watcher_named named name watchers ≡ Some w → (L : List PlainRow) → stands_for w L → text ≡ text_of w (L ++ rows)
