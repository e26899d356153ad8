-- Laws of memory.
use Rattle.std.specs.Prelude.{◌≡◌, ◌⊎◌, ℕ, ◌+◌, ◌*◌, ◌%◌, ◌^◌, ◌<◌, ◌≤◌, false, List}
use Rattle.rv_machine.specs.Laws.{Reaches}
use Rattle.rv_machine.specs.Machine.{State, fetched}
use Rattle.rv_machine.specs.Memory.{Bytes, load_bytes, store_bytes, has_flag, to_write}

-- The bytes that were stored are loaded again.
abbrev pub StoredIsLoaded : Type 0
StoredIsLoaded = (mem : Bytes) (address n k : ℕ)
    → load_bytes (store_bytes mem address n k) address k ≡ n % 2 ^ (8 * k)

-- j bytes from one address on and k bytes from another on have no byte in common.
abbrev pub AreDisjoint : (b j a k : ℕ) → Type 0
AreDisjoint b j a k = (b + j ≤ a) ⊎ (a + k ≤ b)

-- A store leaves the bytes elsewhere.
abbrev pub StoreLeavesOthers : Type 0
StoreLeavesOthers = (mem : Bytes) (a n k x : ℕ) → AreDisjoint x 1 a k → store_bytes mem a n k x ≡ mem x

abbrev pub LoadElsewhere : Type 0
LoadElsewhere = (mem : Bytes) (a n k b j : ℕ) → AreDisjoint b j a k
    → load_bytes (store_bytes mem a n k) b j ≡ load_bytes mem b j

-- Where memory may not be written, a run leaves it.
abbrev pub UnwritableStays : Type 0
UnwritableStays = (flags : ℕ → ℕ) (n : ℕ) (s t : State) (input written rest : List ℕ)
    → Reaches flags n s input written t rest → (x : ℕ) → has_flag (flags x) to_write ≡ false → t.mem x ≡ s.mem x

abbrev pub UnwritableLoadStays : Type 0
UnwritableLoadStays = (flags : ℕ → ℕ) (n : ℕ) (s t : State) (input written rest : List ℕ)
    → Reaches flags n s input written t rest
    → (a k : ℕ) → ((j : ℕ) → j < k → has_flag (flags (a + j)) to_write ≡ false)
    → load_bytes t.mem a k ≡ load_bytes s.mem a k

-- So the same word is fetched from there after a run as before it.
abbrev pub FetchStays : Type 0
FetchStays = (flags : ℕ → ℕ) (n : ℕ) (s t : State) (input written rest : List ℕ)
    → Reaches flags n s input written t rest
    → ((j : ℕ) → j < 4 → has_flag (flags (t.pc + j)) to_write ≡ false)
    → fetched flags t ≡ fetched flags (record { pc = t.pc; regs = s.regs; mem = s.mem })
