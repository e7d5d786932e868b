use Rattle.std.proofs.Common.{◌≡◌}
use Rattle.std.specs.Option.{option_map}
use Rattle.der_core.specs.Elements.{items}
use Rattle.der_core.specs.Walk.{each}
use Rattle.crl_core.specs.Form.{entry}
use Rattle.crl_core.specs.Outcome.{summary}
use Rattle.crl_core.proofs.SummaryLaws.{after}
use Rattle.crl_core.proofs.crl.entry.entries_of.Given as goal

-- the summary so far, and what the elements that are left will add, is what all of them give
abbrev pub invariant-loop-item : goal.invariant-loop-item
invariant-loop-item l = option_map (after (record { found = l.found; serials = l.serials.items })) (each entry (items l.item-iterator))
    ≡ option_map summary (each entry (items l.contents))
