-- The sizes of a system.
use Rattle.std.specs.Prelude.{ℕ, ◌+◌, ◌/◌}

-- how many starts a system of so many keys has: an eighth more, and one
abbrev pub starts_for : ℕ → ℕ
starts_for keys = keys + keys / 8 + 1

-- how many columns: a coefficient of 128 bits may begin at each start
abbrev pub columns_for : ℕ → ℕ
columns_for starts = starts + 127

-- how many words of 64 bits hold the columns of a plane, rounded up
abbrev pub words_for : ℕ → ℕ
words_for starts = (columns_for starts + 63) / 64
