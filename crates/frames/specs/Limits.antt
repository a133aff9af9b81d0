-- The limits of document 01's table, numbers 1, 3 and 8.
-- Assumes nothing.
use Rattle.std.specs.Prelude.{ℕ}

-- "lo or hi over 4,096", "key over 4,096"
abbrev pub max_key : ℕ
max_key = 4096

-- "value over 65,536"
abbrev pub max_value : ℕ
max_value = 65536

-- "inline limit not 1..65,536"
abbrev pub max_limit : ℕ
max_limit = 65536

-- "budget not 256..131,072"
abbrev pub min_budget : ℕ
min_budget = 256

abbrev pub max_budget : ℕ
max_budget = 131072

-- "over 65,535 entries"
abbrev pub max_entries : ℕ
max_entries = 65535

-- "size plus hint room over 16,777,216"
abbrev pub max_size : ℕ
max_size = 16777216
