-- Worked rows: the places of small functions' names, and frames.
use Rattle.std.specs.Prelude.{◌≡◌, refl, List, [], ◌∷◌}
use Rattle.val_core.specs.declared.operation.Op2.TheVariants.{Sub}
use Rattle.g_graph.specs.Plain.{PlainObject}
use Rattle.s_linear.specs.Frame.{frame_size, objects_at, object_at}
use Rattle.s_linear.specs.Linear.{const, binary, move}
use Rattle.s_linear.specs.Lines.{Line, enter, leave, done, branch_not_zero, branch_zero, branch_equal, jump, label}
use Rattle.a_place.specs.Places.{places}

-- a choice between two regions
abbrev two : List Line
two =
    enter (0 ∷ []) ∷ branch_not_zero 0 0 ∷ done (move 1 0) ∷ done (const 2 2) ∷ done (move 3 2) ∷ done (move 4 1) ∷ jump 1 ∷ label 0
    ∷ done (move 5 0) ∷ done (const 6 1) ∷ done (move 3 6) ∷ done (move 4 5) ∷ label 1 ∷ leave 3 ∷ []

two-places : places two ≡ record { of = 0 ∷ 1 ∷ 2 ∷ 3 ∷ 2 ∷ 1 ∷ 0 ∷ []; count = 4; temporaries = 0 }
two-places = refl

-- three regions without entries
abbrev three : List Line
three =
    enter (0 ∷ []) ∷ branch_equal 0 0 0 ∷ branch_equal 0 1 1 ∷ done (const 1 12) ∷ done (move 2 1) ∷ jump 2 ∷ label 0
    ∷ done (const 3 10) ∷ done (move 2 3) ∷ jump 2 ∷ label 1 ∷ done (const 4 11) ∷ done (move 2 4) ∷ label 2 ∷ leave 2 ∷ []

three-places : places three ≡ record { of = 0 ∷ 0 ∷ 1 ∷ 0 ∷ 0 ∷ []; count = 2; temporaries = 0 }
three-places = refl

-- do a = a - 1; while (a);
abbrev countdown : List Line
countdown =
    enter (0 ∷ []) ∷ done (move 1 0) ∷ label 0 ∷ done (const 2 1) ∷ done (binary Sub 3 1 2) ∷ done (move 4 3)
    ∷ branch_zero 3 1 ∷ done (move 1 4) ∷ jump 0 ∷ label 1 ∷ leave 4 ∷ []

countdown-places : places countdown ≡ record { of = 0 ∷ 1 ∷ 0 ∷ 2 ∷ 0 ∷ []; count = 3; temporaries = 0 }
countdown-places = refl

-- Names out of order, one that is only read, and 0, 2 and 3, which do not occur.
abbrev odd : List Line
odd = enter [] ∷ done (move 4 1) ∷ leave 5 ∷ []

odd-places : places odd ≡ record { of = 0 ∷ 0 ∷ 0 ∷ 0 ∷ 1 ∷ 0 ∷ []; count = 2; temporaries = 0 }
odd-places = refl

no-places : places [] ≡ record { of = []; count = 0; temporaries = 0 }
no-places = refl

no-names : places (enter [] ∷ label 0 ∷ []) ≡ record { of = []; count = 0; temporaries = 0 }
no-names = refl

abbrev objects : List PlainObject
objects = record { size = 6; leaves = [] } ∷ record { size = 4; leaves = [] } ∷ []

one-place : frame_size 1 [] ≡ 16
one-place = refl

four-places : frame_size 4 [] ≡ 32
four-places = refl

thirteen-places : frame_size 13 objects ≡ 80
thirteen-places = refl

thirteen-objects : objects_at 13 ≡ 8
thirteen-objects = refl

first-object : object_at 13 objects 0 ≡ 8
first-object = refl

second-object : object_at 13 objects 1 ≡ 20
second-object = refl
