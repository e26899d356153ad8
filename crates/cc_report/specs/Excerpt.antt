-- The line of an offset into a text, and a caret below.
use Rattle.std.specs.Prelude.{ℕ, ◌+◌, ◌-◌, ◌==◌, ◌&&◌, ◌||◌, nat_le, nat_lt, if◌then◌else◌, Bool, List, [], ◌∷◌, ◌++◌, map, fold, length, min, take, drop, position, unwrap_or, codes}

-- a line ends at a byte 10
abbrev pub is_line_end : ℕ → Bool
is_line_end b = b == 10

-- ---- the line of an offset

-- what follows on the last line end
abbrev pub last_line : List ℕ → List ℕ
last_line bytes = fold (λ line b. if is_line_end b then [] else line ++ b ∷ []) [] bytes

-- how many bytes come before the first line end
abbrev pub line_length : List ℕ → ℕ
line_length bytes = unwrap_or (position is_line_end bytes) (length bytes)

-- of the line of an offset, what stands before it
abbrev pub before : (source : List ℕ) → (at : ℕ) → List ℕ
before source at = last_line (take at source)

-- and what stands from it on
abbrev pub after : (source : List ℕ) → (at : ℕ) → List ℕ
after source at = take (line_length (drop at source)) (drop at source)

-- counted from 1; the end of a text is one behind its last byte
abbrev pub column : (source : List ℕ) → (at : ℕ) → ℕ
column source at = length (before source at) + 1

-- ---- what is shown of it

-- of a line of more than 100 bytes at most 50 before the offset, and at most 50 from it on
abbrev pub left_of : (earlier later : List ℕ) → List ℕ
left_of earlier later = if nat_lt 100 (length earlier + length later) then drop (length earlier - 50) earlier else earlier

abbrev pub right_of : (earlier later : List ℕ) → List ℕ
right_of earlier later = if nat_lt 100 (length earlier + length later) then take (min (length later) 50) later else later

-- a tab as it is, and for another byte that is no printable character of ASCII a dot
abbrev pub shown : ℕ → ℕ
shown b = if b == 9 || (nat_le 32 b && nat_le b 126) then b else 46

-- a blank, or a tab below a tab
abbrev pub below : ℕ → ℕ
below b = if b == 9 then 9 else 32

abbrev pub two_lines : (earlier later : List ℕ) → List ℕ
two_lines earlier later = map shown earlier ++ map shown later ++ codes "\n" ++ map below earlier ++ codes "^\n"

abbrev pub excerpt : (source : List ℕ) → (at : ℕ) → List ℕ
excerpt source at = two_lines (left_of (before source at) (after source at)) (right_of (before source at) (after source at))
