use Rattle.std.proofs.Common.{map}
use Rattle.std.specs.Prelude.{string_bytes}
use Rattle.part_text.specs.SealedFields.{SealedFields}
use Rattle.clubcard_top.specs.Calls.{call_of_words}
use Rattle.clubcard_top.proofs.Endings as endings
use Rattle.clubcard_top.proofs.Promised as promised
use Rattle.word_core.proofs.Asked as asked
use Rattle.clubcard_top.proofs.OfHistories as of_histories
use Rattle.clubcard_top.proofs.OfPlaces as of_places
use Rattle.clubcard_top.proofs.Succeeded as succeeded
use Rattle.clubcard_top.proofs.top.run_gated.Goals as goal

pub returns-clause-ending : goal.returns-clause-ending
returns-clause-ending g c = promised.ending _ c.run_words.ensures.ends

pub returns-clause-outside : goal.returns-clause-outside
returns-clause-outside g c = promised.outside _ c.run_words.ensures.check c.run_words.ensures.ends

pub returns-clause-refusals : goal.returns-clause-refusals
returns-clause-refusals g c = promised.refusals _ (λ inputs a b x y. c.replies_are_unique.ensures.reply _ inputs a b x y) c.run_words.ensures.ends

pub returns-clause-frame : goal.returns-clause-frame
returns-clause-frame g c =
    let call = call_of_words g.D.Depot g.K.Sink c.args.words.now c.args.depot.now c.run_words.new.depot c.args.out.now c.run_words.new.out c.run_words.result.0 in
    let ends = c.run_words.ensures.ends in
    record {
      unchanged = endings.unchanged call ends;
      other_files = endings.other_files call ends;
      reading = λ none. (endings.reading call ends none, c.run_words.ensures.reading none);
      later_reads = c.run_words.ensures.later_reads;
      later_writes = c.run_words.ensures.later_writes;
      later_sink = c.run_words.ensures.later_out;
    }

pub returns-clause-successes : goal.returns-clause-successes
returns-clause-successes g c =
    succeeded.successes _ (c.histories_are_made.ensures.rehearsed _)
    c.run_words.ensures.ends (asked.words_apart (map string_bytes c.args.words.now)) (λ inputs a b x y. c.replies_are_unique.ensures.reply _ inputs a b x y) (λ command inputs a b x y. c.replies_are_unique.ensures.outcome command inputs a b x y)
    (λ before job none have. c.histories_are_made.ensures.publishable before job none have)
    (λ before moment cut few have. c.bases_are_made.ensures.publishable before moment cut few have)
    (λ parts jobs agree. c.agreement_is_enough.ensures (map (λ (s : SealedFields). s.part) parts) jobs agree)

pub returns-clause-histories : goal.returns-clause-histories
returns-clause-histories g c =
    of_histories.histories _
    (record {
      published = c.histories_are_made.ensures.published _;
      admitted = c.histories_are_made.ensures.admitted _;
      stored = c.histories_are_made.ensures.stored _;
      asks = c.histories_are_made.ensures.asked _;
      certifies = c.histories_are_made.ensures.certified _;
      rebases = c.bases_are_made.ensures.rebased _;
      rebasable = c.bases_are_made.ensures.rebasable _;
      keeps = c.bases_are_made.ensures.asked _;
      leaves = c.bases_are_made.ensures.left_out _;
      comes_back = c.bases_are_made.ensures.comes_back;
      follows = c.histories_are_made.ensures.followed _;
    })
    c.run_words.ensures.ends (asked.words_apart (map string_bytes c.args.words.now))

pub returns-clause-places : goal.returns-clause-places
returns-clause-places g c =
    of_places.places
    (call_of_words g.D.Depot g.K.Sink c.args.words.now c.args.depot.now c.run_words.new.depot c.args.out.now c.run_words.new.out c.run_words.result.0)
    (record {
      text = c.texts_are_read.ensures.text;
      cut = c.texts_are_read.ensures.cut;
      merged = c.texts_are_read.ensures.merged;
      beside = c.cuts_leave_what_is_kept.ensures.histories;
      begun = c.cuts_leave_what_is_kept.ensures.begun;
      same_sightings = c.cuts_know_what_is_kept.ensures.sightings;
      same_truth = c.cuts_know_what_is_kept.ensures.truth;
      audited = c.cut_parts_say_the_truth.ensures.audited;
    })
    c.run_words.ensures.ends (asked.words_apart (map string_bytes c.args.words.now)) (returns-clause-successes g c) (returns-clause-histories g c)
