use Rattle.std.proofs.Common.{◌∙◌, refl, sym, ap, subst, All}
use Rattle.universe_core.specs.Counting.{is_class}
use Rattle.universe_core.specs.Reading.{if_read, IsPlaced, entry_fields, entries_of, class_alone}
use Rattle.universe_core.specs.declared.class.Class.TheVariants.{Unread, Uncovered, Unenrolled, Accepted}
use Rattle.universe_core.specs.declared.reading.Tally.{Tally}
use Rattle.universe_core.proofs.Classes.{read_more, count_more, kept_more, kept_all}
use Rattle.universe_core.proofs.reading.read.Goals as goal

pub loop-entry-preserved : goal.loop-entry-preserved
loop-entry-preserved c =
    let R = c.args.ranges.now in
    let I = c.args.issuers.now in
    let es = c.args.entries.now in
    let i = c.loop-entry.entry-index in
    let e = c.entry-item.result in
    record {
      entries = read_more (λ d. if_read R I d) es i e (entries_of I R c.loop-entry.left.items) (entries_of I R c.keep_entry.new.out.items)
          (if_read R I e) c.loop-entry-test.true c.entry-item.is c.loop-entry.invariant.entries refl
          (ap (entries_of I R) c.in_ok-keep_entry.ensures ∙ kept_more (entry_fields I R) c.loop-entry.left.items c.classify-told.result.entry (if_read R I e) c.classify-told.ensures.entry);
      placed = subst (All (IsPlaced I R)) (sym c.in_ok-keep_entry.ensures)
          (kept_all (IsPlaced I R) c.loop-entry.left.items c.classify-told.result.entry c.loop-entry.invariant.placed c.classify-told.ensures.placed);
      unread = count_more (λ d. is_class Unread (class_alone R I d)) es i e c.loop-entry.tally.unread c.counted-tally.result.unread
          (is_class Unread c.classify-told.result.class) c.loop-entry-test.true c.entry-item.is c.loop-entry.invariant.unread
          (ap (is_class Unread) c.classify-told.ensures.class) (ap (λ (t : Tally). t.unread) c.counted-tally.ensures);
      uncovered = count_more (λ d. is_class Uncovered (class_alone R I d)) es i e c.loop-entry.tally.uncovered c.counted-tally.result.uncovered
          (is_class Uncovered c.classify-told.result.class) c.loop-entry-test.true c.entry-item.is c.loop-entry.invariant.uncovered
          (ap (is_class Uncovered) c.classify-told.ensures.class) (ap (λ (t : Tally). t.uncovered) c.counted-tally.ensures);
      unenrolled = count_more (λ d. is_class Unenrolled (class_alone R I d)) es i e c.loop-entry.tally.unenrolled
          c.counted-tally.result.unenrolled (is_class Unenrolled c.classify-told.result.class) c.loop-entry-test.true c.entry-item.is
          c.loop-entry.invariant.unenrolled
          (ap (is_class Unenrolled) c.classify-told.ensures.class) (ap (λ (t : Tally). t.unenrolled) c.counted-tally.ensures);
      read = count_more (λ d. is_class Accepted (class_alone R I d)) es i e c.loop-entry.tally.read c.counted-tally.result.read
          (is_class Accepted c.classify-told.result.class) c.loop-entry-test.true c.entry-item.is c.loop-entry.invariant.read
          (ap (is_class Accepted) c.classify-told.ensures.class) (ap (λ (t : Tally). t.read) c.counted-tally.ensures);
    }
