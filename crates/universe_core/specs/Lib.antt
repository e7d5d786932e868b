-- What a reader must believe: jobs and their formats, histories, groups, counts, ledgers, the step and rebases.
pub mod Jobs
pub mod Formats
pub mod History
pub mod Dates
pub mod Groups
pub mod Counting
pub mod Ledgers
pub mod Step
pub mod Rebases
-- Words that only the clauses of the code's own helpers need, in its types.
pub mod Following
pub mod Enrolling
pub mod Reading
pub mod Placing
pub mod Sorting
pub mod Marking
pub mod Flagging
pub mod Merges
pub mod Merging
pub mod Judging
pub mod Members
pub mod HeldJobs
