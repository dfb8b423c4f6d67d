-- A TID is its epoch times 65,536 plus its sequence.
use Rattle.std.specs.Prelude.{ℕ, ◌+◌, ◌*◌, ◌/◌, ◌%◌}

abbrev pub tid_of : ℕ → ℕ → ℕ
tid_of epoch sequence = epoch * 65536 + sequence

abbrev pub epoch_of : ℕ → ℕ
epoch_of tid = tid / 65536

abbrev pub sequence_of : ℕ → ℕ
sequence_of tid = tid % 65536
