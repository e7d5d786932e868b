-- How a call of the program may end.
use Rattle.std.specs.Prelude.{ℕ, List, [], ◌∷◌}
pub use Rattle.line_core.specs.Statuses.{done, usage, bad_layout, bad_crl, chain, too_many, seeds, read_fault, write_fault}
pub use Rattle.line_core.specs.Statuses.{bad_cert, bad_page, disagrees, no_memory}
pub use Rattle.reply_core.specs.Said.{is_one_of, unsaid}

-- the statuses that say what is wrong with a file that was read
abbrev pub of_refusals : List ℕ
of_refusals = bad_layout ∷ bad_crl ∷ chain ∷ too_many ∷ seeds ∷ bad_cert ∷ bad_page ∷ disagrees ∷ []

-- the statuses that an answer has: all but that of a failed write and that of want of memory
abbrev pub of_replies : List ℕ
of_replies = done ∷ usage ∷ read_fault ∷ of_refusals

-- all statuses
abbrev pub all : List ℕ
all = write_fault ∷ no_memory ∷ of_replies
