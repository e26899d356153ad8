-- What stands around words: the symbol that they have, and its size.
use Rattle.std.specs.Prelude.{ℕ, List, ◌++◌, codes}
use Rattle.cc_listing.specs.Words.{word_digits, words_text}

-- the symbol of a function
abbrev pub symbol_text : (name : List ℕ) → List ℕ
symbol_text name = codes "\t.type\t\"" ++ name ++ codes "\", @function\n\"" ++ name ++ codes "\":\n"

-- what stands after the words of a symbol: its size
abbrev pub foot_text : (name : List ℕ) → List ℕ
foot_text name = codes "\t.size\t\"" ++ name ++ codes "\", .-\"" ++ name ++ codes "\"\n"

-- the start code or a stub
abbrev pub stub_text : (name callee : List ℕ) → (at : ℕ) → (words : List ℕ) → List ℕ
stub_text name callee at ws = codes "\n" ++ symbol_text name ++ words_text callee at ws ++ foot_text name

-- how the listing is assembled and linked, up to the address of the fixed globals
abbrev pub commands : List ℕ
commands =
    codes "# For a debugger, this listing being F.s:\n"
    ++ codes "#   riscv64-unknown-elf-as -g -march=rv32im -mabi=ilp32 F.s -o F.o\n"
    ++ codes "#   riscv64-unknown-elf-ld -m elf32lriscv --no-relax -e 0x10000 -Ttext=0x10000 --section-start=.rodata=0x"

-- with both addresses, and the options of the source
abbrev pub commands_text : (fixed_at data_at : ℕ) → List ℕ
commands_text fixed_at data_at =
    commands ++ word_digits fixed_at ++ codes " -Tdata=0x" ++ word_digits data_at
    ++ codes " F.o -o F.sym\n\t.option norvc\n\t.option norelax\n\t.text\n"
