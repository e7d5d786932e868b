use Rattle.std.proofs.Common.{◌≡◌, ◌∙◌, cond, map, ap, sym, subst, All}
use Rattle.std.specs.Prelude.{IsPermutation}
use Rattle.std.proofs.lemmas.List.Sorted.{IsPermutation-map, sum_by-IsPermutation}
use Rattle.ledger_core.specs.LedgerFields.{ledger_fields}
use Rattle.universe_core.specs.Judging.{judge_of}
use Rattle.universe_core.specs.Members.{as_item, members_in}
use Rattle.universe_core.specs.Merging.{merged}
use Rattle.universe_core.specs.declared.member.Member.{Member}
use Rattle.universe_core.specs.Reading.{IsPlaced, entry_fields, entries_of, comes_late_in}
use Rattle.universe_core.proofs.Members.{members_are, told_lacked}
use Rattle.universe_core.proofs.Sorting.{are_read}
use Rattle.universe_core.proofs.merging.members.Goals as goal

pub merge-requires-clause-mergeable : goal.merge-requires-clause-mergeable
merge-requires-clause-mergeable g c = record {
  few = c.requires.few;
  searchable = c.requires.parts;
  issuers_ascend = c.requires.issuers;
  items_ascend = c.requires.ascend;
  placed = subst (All (IsPlaced c.args.context.now.issuers.now c.args.context.now.ranges.now)) (sym c.deref_mut.ensures.value) c.requires.placed;
}

pub returns-clause-members : goal.returns-clause-members
returns-clause-members g c = λ job e.
    let issuers = c.args.context.now.issuers.now in
    let ranges = c.args.context.now.ranges.now in
    let fields = entry_fields issuers ranges in
    let left = c.merge.new.entries in
    let same : IsPermutation c.args.entries.items left = subst (λ es. IsPermutation es left) c.deref_mut.ensures.value c.in_ok-merged.ensures.same in
    let are : merged (judge_of c.args.context.now.parts.now) c.args.items.now (entries_of issuers ranges left) ≡ members_in (ledger_fields c.args.context.now.parts.now c.args.items.now) job =
    members_are c.args.context.now.parts.now c.args.items.now job (entries_of issuers ranges left)
    (are_read job (entries_of issuers ranges c.args.entries.items) (entries_of issuers ranges left) e
    (IsPermutation-map fields c.args.entries.items left same)) in
    record {
      items = c.in_ok-merged.ensures.merged.made ∙ ap (map as_item) are;
      settled = c.in_ok-merged.ensures.merged.settled ∙ ap (map (λ (m : Member). m.settled)) are;
    }

pub returns-clause-late : goal.returns-clause-late
returns-clause-late g c =
    let issuers = c.args.context.now.issuers.now in
    let ranges = c.args.context.now.ranges.now in
    let ledger = ledger_fields c.args.context.now.parts.now c.args.items.now in
    let left = c.merge.new.entries in
    let same : IsPermutation c.args.entries.items left = subst (λ es. IsPermutation es left) c.deref_mut.ensures.value c.in_ok-merged.ensures.same in
    c.in_ok-merged.ensures.merged.told
    ∙ told_lacked c.args.context.now.parts.now c.args.items.now (entries_of issuers ranges left)
    ∙ sum_by-IsPermutation (λ e. cond (comes_late_in ledger e) 1 0) (entries_of issuers ranges c.args.entries.items) (entries_of issuers ranges left)
    (IsPermutation-map (entry_fields issuers ranges) c.args.entries.items left same)
