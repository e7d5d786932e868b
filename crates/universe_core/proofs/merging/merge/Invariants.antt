use Rattle.std.proofs.Common.{◌≡◌, ◌+◌, ◌++◌, map, length, All}
use Rattle.std.specs.List.Sorted.{IsStrictlySortedBy}
use Rattle.ident_core.specs.Order.{identity_cmp}
use Rattle.universe_core.specs.Merging.{IsRising, count_told, merged}
use Rattle.universe_core.specs.Judging.{is_late_beside, made_of}
use Rattle.universe_core.specs.Members.{as_item}
use Rattle.universe_core.specs.Reading.{IsPlaced, entries_of}
use Rattle.universe_core.specs.declared.member.Member.{Member}
use Rattle.universe_core.proofs.merging.merge.Given as goal

abbrev pub invariant-loop-id : goal.invariant-loop-id
invariant-loop-id l =
    let issuers = l.context.issuers.now in
    let ranges = l.context.ranges.now in record {
      ascend : IsStrictlySortedBy identity_cmp (map (λ i. i.id) l.items_left);
      placed : All (IsPlaced issuers ranges) l.entries_left;
      rise : IsRising (entries_of issuers ranges l.entries_left);
      kept :
          l.members.items.items ++ merged (made_of as_item l.context.parts.now) l.items_left (entries_of issuers ranges l.entries_left)
          ≡ l.initial.members.items.items ++ merged (made_of as_item l.context.parts.now) l.items (entries_of issuers ranges l.entries);
      settled :
          l.members.settled.items ++ merged (made_of (λ (m : Member). m.settled) l.context.parts.now) l.items_left (entries_of issuers ranges l.entries_left)
          ≡ l.initial.members.settled.items ++ merged (made_of (λ (m : Member). m.settled) l.context.parts.now) l.items (entries_of issuers ranges l.entries);
      late :
          l.late + count_told (is_late_beside l.context.parts.now) l.items_left (entries_of issuers ranges l.entries_left)
          ≡ count_told (is_late_beside l.context.parts.now) l.items (entries_of issuers ranges l.entries);
    }

abbrev pub decreases-loop-id : goal.decreases-loop-id
decreases-loop-id l = length l.items_left + length l.entries_left
