-- A word is the sum of its two parts.
use Rattle.std.proofs.Common.{◌%◌, ◌^◌, inl, inr, arith}
use Rattle.std.proofs.lemmas.Bool.{cases_lt, lt-ltb, le-ltb}
use Rattle.rv_isa.specs.WordParts.{LowPartFits, PartsMakeWord, PartsMakeOffset}

pub low_part_fits : LowPartFits
low_part_fits v = elim (cases_lt (v % 2 ^ 12) 0x800) [
  | inl low ↦ rw (lt-ltb (v % 2 ^ 12) 0x800 low) (omega arith, omega arith)
  | inr high ↦ rw (le-ltb (v % 2 ^ 12) 0x800 high) (omega arith, omega arith)
]

pub parts_make_word : PartsMakeWord
parts_make_word v fits = elim (cases_lt (v % 2 ^ 12) 0x800) [
  | inl low ↦ rw (lt-ltb (v % 2 ^ 12) 0x800 low) (omega arith)
  | inr high ↦ rw (le-ltb (v % 2 ^ 12) 0x800 high) (omega arith)
]

pub parts_make_offset : PartsMakeOffset
parts_make_offset address v fits = elim (cases_lt (v % 2 ^ 12) 0x800) [
  | inl low ↦ rw (lt-ltb (v % 2 ^ 12) 0x800 low) (omega arith)
  | inr high ↦ rw (le-ltb (v % 2 ^ 12) 0x800 high) (omega arith)
]
