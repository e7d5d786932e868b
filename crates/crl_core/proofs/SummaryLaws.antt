-- The summary of entries grows entry by entry.
use Rattle.std.proofs.Common.{List, ◌++◌}
use Rattle.crl_core.specs.Findings.{both, found_in_entries}
use Rattle.crl_core.specs.Form.{Entry}
use Rattle.crl_core.specs.Outcome.{Summary, kept_serials}

-- the summary so far, and then these entries
abbrev pub after : Summary → List Entry → Summary
after s xs = record { found = both s.found (found_in_entries xs); serials = s.serials ++ kept_serials xs }
