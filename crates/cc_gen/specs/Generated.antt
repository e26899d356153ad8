-- The text of a generated program.
use Rattle.std.specs.Prelude.{ℕ, ◌++◌, ◌==◌, List, [], Option, None, Some, codes, decimal, if◌then◌else◌}
use Rattle.std.specs.List.{flat_map, range_with_len}
use Rattle.cc_gen.specs.Draws.{drawn_from, state_before}
use Rattle.cc_gen.specs.declared.draws.Drawn.{Drawn}

-- the sign of a drawn operator
abbrev pub sign_of : ℕ → List ℕ
sign_of operator = if operator == 0 then codes "+" else (if operator == 1 then codes "-" else (if operator == 2 then codes "*" else codes "^"))

-- the line that calls another function
abbrev pub call_line : Option ℕ → List ℕ
call_line None = []
call_line (Some callee) = codes "    s = s + f" ++ decimal callee ++ codes "(s & 255, b);\n"

-- the text of the function of this number, up to the line that calls another
unfoldable pub function_head : (number : ℕ) → Drawn → List ℕ
function_head number drawn =
    codes "int f" ++ decimal number ++ codes "(int a, int b)\n"
    ++ codes "{\n"
    ++ codes "    int s = a;\n"
    ++ codes "    int k = 0;\n"
    ++ codes "    while (k < " ++ decimal drawn.turns ++ codes ") {\n"
    ++ codes "        s = (s " ++ sign_of drawn.operator ++ codes " b) + " ++ decimal drawn.constant ++ codes ";\n"
    ++ codes "        k = k + 1;\n"
    ++ codes "    }\n"
    ++ codes "    if (s & 1) s = s - b; else s = s ^ k;\n"

-- its last lines
abbrev pub function_end : List ℕ
function_end = codes "    return s;\n" ++ codes "}\n"

-- the text of the function of this number
abbrev pub function_text : (number : ℕ) → Drawn → List ℕ
function_text number drawn = function_head number drawn ++ (call_line drawn.callee ++ function_end)

-- the line of `main` that calls the function of this number
unfoldable pub main_line : (number : ℕ) → List ℕ
main_line number = codes "    s = s ^ f" ++ decimal number ++ codes "(" ++ decimal number ++ codes ", 7);\n"

-- the lines of `main` that call the first functions
abbrev pub main_lines : (functions : ℕ) → List ℕ
main_lines functions = flat_map main_line (range_with_len 0 functions)

-- the first lines of `main`, and the last
abbrev pub main_head : List ℕ
main_head = codes "int main(void)\n" ++ codes "{\n" ++ codes "    int s = 0;\n"

abbrev pub main_end : List ℕ
main_end = codes "    putchar(65 + (s & 15));\n" ++ codes "    putchar(10);\n" ++ codes "    return s & 255;\n" ++ codes "}\n"

-- the text of `main`, which calls each function in order
abbrev pub main_text : (functions : ℕ) → List ℕ
main_text functions = main_head ++ (main_lines functions ++ main_end)

-- the texts of the first functions of a program
abbrev pub functions_text : (start functions : ℕ) → List ℕ
functions_text start functions =
    flat_map (λ number. function_text number (drawn_from number (state_before start number))) (range_with_len 0 functions)

-- the program of this many functions, whose draws begin with this state
abbrev pub generated : (start functions : ℕ) → List ℕ
generated start functions = functions_text start functions ++ main_text functions
