-- Which lock a shared board is.
use Rattle.atomic_table.specs.Seated.{TableId}
use Rattle.board_lock.specs.declared.shared.Lock.{Lock}

abbrev pub lock_of : {S V K P : Type 0} → Lock S V K P → TableId
lock_of lock = lock.table.shared.table_id
