use Rattle.std.specs.Option.{option_map}
use Rattle.std.proofs.Common.{◌≡◌, ◌∙◌, ◌++◌, Bool, refl, ap, sym, subst, length, arith, All}
use Rattle.std.specs.List.{count_by}
use Rattle.std.proofs.lemmas.List.{take-map, drop-map, length-map}
use Rattle.std.proofs.lemmas.List.Elements.{All-take, All-drop}
use Rattle.universe_core.specs.Judging.{is_late_beside, judge_of, made_of}
use Rattle.universe_core.specs.Members.{as_item}
use Rattle.universe_core.specs.Merging.{IsRising, first_of, run_of, after_run}
use Rattle.universe_core.specs.Reading.{IsPlaced, entry_fields, entries_of}
use Rattle.universe_core.specs.declared.member.Member.{Member}
use Rattle.universe_core.proofs.Merge.{merged_made, step_done, all_done, told_on, told_within, told_done, smaller, first_sorted, rising_after, run_taken, run_dropped}
use Rattle.universe_core.proofs.merging.merge.Goals as goal

pub least-requires : goal.least-requires
least-requires c = λ k d lt. (c.loop-id.invariant.placed k d lt).issuer

pub run_length-requires : goal.run_length-requires
run_length-requires c = λ k d lt. (c.loop-id.invariant.placed k d lt).issuer

pub judge-judged-requires-clause-placed : goal.judge-judged-requires-clause-placed
judge-judged-requires-clause-placed c =
    let placed = IsPlaced c.args.context.now.issuers.now c.args.context.now.ranges.now in
    subst (All placed) (sym c.split_at.ensures.front) (All-take placed c.run_length.result c.loop-id.entries_left.now c.loop-id.invariant.placed)

pub loop-id-preserved : goal.loop-id-preserved
loop-id-preserved c =
    let id = c.in-Some.id in
    let parts = c.args.context.now.parts.now in
    let items = c.loop-id.items_left.now in
    let fields = entry_fields c.args.context.now.issuers.now c.args.context.now.ranges.now in
    let of = entries_of c.args.context.now.issuers.now c.args.context.now.ranges.now in
    let placed = IsPlaced c.args.context.now.issuers.now c.args.context.now.ranges.now in
    let left = c.loop-id.entries_left.now in
    let n = c.run_length.result in
    let least = sym (c.least.ensures c.args.context.now.ranges.now) ∙ c.in-Some.is in
    let run : of c.split_at.result.0.now ≡ run_of id (of left) =
    ap of c.split_at.ensures.front ∙ sym (take-map fields n left) ∙ run_taken n id (of left) (c.run_length.ensures.value c.args.context.now.ranges.now) in
    let behind : of c.split_at.result.1.now ≡ after_run id (of left) =
    ap of c.split_at.ensures.back ∙ sym (drop-map fields n left) ∙ run_dropped n id (of left) (c.run_length.ensures.value c.args.context.now.ranges.now) in
    let judged : c.judge-judged.result.member ≡ judge_of parts id (first_of id items) (run_of id (of left)) =
    c.judge-judged.ensures.member ∙ ap (λ o. judge_of parts id o (of c.split_at.result.0.now)) c.first_item-old.ensures
    ∙ ap (λ r. judge_of parts id (first_of id items) r) run in
    let settled : Member → Bool = λ m. m.settled in
    record {
      ascend = rw c.after_item-items_left.ensures (first_sorted id items c.loop-id.invariant.ascend);
      placed = subst (All placed) (sym c.split_at.ensures.back) (All-drop placed n left c.loop-id.invariant.placed);
      rise = subst IsRising (sym behind) (rising_after id (of left) c.loop-id.invariant.rise);
      kept =
          step_done (made_of as_item parts) id items c.after_item-items_left.result.now (of left) (of c.split_at.result.1.now)
          (option_map as_item c.judge-judged.result.member) c.loop-id.members.items.items c.keep.new.items.items _
          c.loop-id.invariant.ascend c.loop-id.invariant.rise least c.after_item-items_left.ensures behind
          (ap (option_map as_item) judged) c.in_ok-keep.ensures.items c.loop-id.invariant.kept;
      settled =
          step_done (made_of settled parts) id items c.after_item-items_left.result.now (of left) (of c.split_at.result.1.now)
          (option_map settled c.judge-judged.result.member) c.loop-id.members.settled.items c.keep.new.settled.items _
          c.loop-id.invariant.ascend c.loop-id.invariant.rise least c.after_item-items_left.ensures behind
          (ap (option_map settled) judged) c.in_ok-keep.ensures.settled c.loop-id.invariant.settled;
      late =
          told_on (is_late_beside parts) id items c.after_item-items_left.result.now (of left) (of c.split_at.result.1.now) c.loop-id.late _
          c.judge-judged.result.late _ c.loop-id.invariant.ascend c.loop-id.invariant.rise least c.after_item-items_left.ensures behind
          (c.judge-judged.ensures.late ∙ ap (λ o. count_by (is_late_beside parts o) (of c.split_at.result.0.now)) c.first_item-old.ensures
          ∙ ap (count_by (is_late_beside parts (first_of id items))) run)
          c.loop-id.invariant.late refl;
    }

pub loop-id-smaller : goal.loop-id-smaller
loop-id-smaller c =
    let fields = entry_fields c.args.context.now.issuers.now c.args.context.now.ranges.now in
    let of = entries_of c.args.context.now.issuers.now c.args.context.now.ranges.now in
    let left = c.loop-id.entries_left.now in
    let n = c.run_length.result in
    let s = smaller c.in-Some.id c.loop-id.items_left.now (of left) (sym (c.least.ensures c.args.context.now.ranges.now) ∙ c.in-Some.is) in
    let a = ap length c.after_item-items_left.ensures in
    let b = ap length (ap of c.split_at.ensures.back ∙ sym (drop-map fields n left) ∙ run_dropped n c.in-Some.id (of left) (c.run_length.ensures.value c.args.context.now.ranges.now)) in
    let d = length-map left fields in
    let e = length-map c.split_at.result.1.now fields in
    omega arith

pub overflow_add-late : goal.overflow_add-late
overflow_add-late c =
    let parts = c.args.context.now.parts.now in
    let id = c.in-Some.id in
    let items = c.loop-id.items_left.now in
    let fields = entry_fields c.args.context.now.issuers.now c.args.context.now.ranges.now in
    let of = entries_of c.args.context.now.issuers.now c.args.context.now.ranges.now in
    let left = c.loop-id.entries_left.now in
    let n = c.run_length.result in
    let run : of c.split_at.result.0.now ≡ run_of id (of left) =
    ap of c.split_at.ensures.front ∙ sym (take-map fields n left) ∙ run_taken n id (of left) (c.run_length.ensures.value c.args.context.now.ranges.now) in
    let late = c.judge-judged.ensures.late ∙ ap (λ o. count_by (is_late_beside parts o) (of c.split_at.result.0.now)) c.first_item-old.ensures
    ∙ ap (count_by (is_late_beside parts (first_of id items))) run in
    let within =
    told_within (is_late_beside parts) id items c.args.items.now (of left) (of c.args.entries.now) c.loop-id.late c.judge-judged.result.late
    c.loop-id.invariant.ascend c.loop-id.invariant.rise (sym (c.least.ensures c.args.context.now.ranges.now) ∙ c.in-Some.is) late c.loop-id.invariant.late in
    let d = length-map c.args.entries.now fields in
    omega arith

pub returns : goal.returns
returns c =
    let of = entries_of c.args.context.now.issuers.now c.args.context.now.ranges.now in
    let parts = c.args.context.now.parts.now in
    let items = c.args.items.now in
    let left = c.loop-id.items_left.now in
    let old = c.args.members.now in
    let settled : Member → Bool = λ m. m.settled in
    let none = sym (c.least.ensures c.args.context.now.ranges.now) ∙ c.in_default.is in
    record {
      made = all_done (made_of as_item parts) left (of c.loop-id.entries_left.now) c.loop-id.members.items.items _ none c.loop-id.invariant.kept
          ∙ ap (λ ms. old.items.items ++ ms) (merged_made as_item (judge_of parts) items (of c.args.entries.now));
      settled = all_done (made_of settled parts) left (of c.loop-id.entries_left.now) c.loop-id.members.settled.items _ none c.loop-id.invariant.settled
          ∙ ap (λ ms. old.settled.items ++ ms) (merged_made settled (judge_of parts) items (of c.args.entries.now));
      told = told_done (is_late_beside parts) left (of c.loop-id.entries_left.now) c.loop-id.late _ none c.loop-id.invariant.late;
    }
