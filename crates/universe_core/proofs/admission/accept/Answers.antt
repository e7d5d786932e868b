use Rattle.std.proofs.Common.{◌≡◌, ◌≤◌, ◌∙◌, refl, sym, ap, subst, length, arith}
use Rattle.std.specs.List.Sorted.{IsStrictlySortedBy}
use Rattle.ident_core.specs.Coverage.{RangesFit}
use Rattle.ident_core.specs.Order.{octets_cmp}
use Rattle.job_core.specs.declared.meaning.Job.{Job}
use Rattle.ledger_core.specs.LedgerFields.{ledger_fields}
use Rattle.universe_core.specs.HeldJobs.{job_held}
use Rattle.universe_core.specs.Jobs.{facts_of_job, enrolled}
use Rattle.universe_core.specs.Ledgers.{no_ledger, past_in}
use Rattle.universe_core.specs.Reading.{entries_of}
use Rattle.universe_core.specs.declared.class.Class.TheVariants.{Unread, Uncovered, Unenrolled, Accepted}
use Rattle.universe_core.proofs.Beginning.{job_issuers_few}
use Rattle.universe_core.proofs.Issuers.{enrolled_ascend}
use Rattle.universe_core.proofs.Tallies.{read_job, count_job, read_again, placed_again}
use Rattle.universe_core.proofs.Late.{count_alone, late_is, late_fits, late_within, accepted_rest}
use Rattle.universe_core.proofs.admission.accept.Goals as goal

pub read-requires-clause-ranges : goal.read-requires-clause-ranges
read-requires-clause-ranges g c = subst RangesFit (sym (c.deref.ensures.value ∙ ap (λ (j : Job). j.ranges.items) c.job-whole.ensures)) c.requires.ranges

pub read-requires-clause-sorted : goal.read-requires-clause-sorted
read-requires-clause-sorted g c = subst (λ ks. IsStrictlySortedBy octets_cmp ks) (sym (c.deref-2.ensures.value ∙ c.in_ok-issuers.ensures)) (enrolled_ascend (facts_of_job c.job-whole.result.now))

pub read-requires-clause-few_issuers : goal.read-requires-clause-few_issuers
read-requires-clause-few_issuers g c =
    let few = job_issuers_few c.job-whole.result.now (subst (λ (j : Job). length j.crls.items ≤ 65535) (sym c.job-whole.ensures) c.requires.few_crls) in
    let k = ap length (c.deref-2.ensures.value ∙ c.in_ok-issuers.ensures) in
    omega arith

pub read-requires-clause-few : goal.read-requires-clause-few
read-requires-clause-few g c =
    let n = ap length (c.deref-3.ensures.value ∙ ap (λ (j : Job). j.entries.items) c.job-whole.ensures) in
    let few = c.requires.few_entries in
    omega arith

pub members-requires-clause-issuers : goal.members-requires-clause-issuers
members-requires-clause-issuers g c =
    subst (λ ks. IsStrictlySortedBy octets_cmp ks) (sym (c.deref-4.ensures.value ∙ c.in_ok-issuers.ensures)) (enrolled_ascend (facts_of_job c.job-whole.result.now))

pub members-requires-clause-placed : goal.members-requires-clause-placed
members-requires-clause-placed g c =
    let job = job_held c.args.job in
    let ranges : c.deref.result.now ≡ job.ranges.items = c.deref.ensures.value ∙ ap (λ (j : Job). j.ranges.items) c.job-whole.ensures in
    let keys : c.deref-4.result.now ≡ c.deref-2.result.now = c.deref-4.ensures.value ∙ sym c.deref-2.ensures.value in
    let shown : c.deref-5.result.now ≡ c.deref.result.now =
    c.deref-5.ensures.value ∙ ap (λ (j : Job). j.ranges.items) c.job-left.ensures ∙ c.without_entries-rest.ensures.ranges ∙ sym ranges in
    placed_again c.deref-2.result.now c.deref-4.result.now c.deref.result.now c.deref-5.result.now c.in_ok-reading.reading.entries.items keys shown c.in_ok-reading.ensures.placed

pub returns-clause-issuers : goal.returns-clause-issuers
returns-clause-issuers g c = c.in_ok-issuers.ensures ∙ ap (λ (j : Job). enrolled (facts_of_job j)) c.job-whole.ensures

pub returns-clause-members : goal.returns-clause-members
returns-clause-members g c =
    let job = job_held c.args.job in
    let ranges : c.deref.result.now ≡ job.ranges.items = c.deref.ensures.value ∙ ap (λ (j : Job). j.ranges.items) c.job-whole.ensures in
    let issuers : c.deref-2.result.now ≡ enrolled (facts_of_job job) = c.deref-2.ensures.value ∙ c.in_ok-issuers.ensures ∙ ap (λ (j : Job). enrolled (facts_of_job j)) c.job-whole.ensures in
    let entries : c.deref-3.result.now ≡ job.entries.items = c.deref-3.ensures.value ∙ ap (λ (j : Job). j.entries.items) c.job-whole.ensures in
    let keys : c.deref-4.result.now ≡ c.deref-2.result.now = c.deref-4.ensures.value ∙ sym c.deref-2.ensures.value in
    let shown : c.deref-5.result.now ≡ c.deref.result.now =
    c.deref-5.ensures.value ∙ ap (λ (j : Job). j.ranges.items) c.job-left.ensures ∙ c.without_entries-rest.ensures.ranges ∙ sym ranges in
    let read = read_again c.deref-2.result.now c.deref-4.result.now c.deref.result.now c.deref-5.result.now c.in_ok-reading.reading.entries.items _ keys shown
    (read_job job c.deref.result.now c.deref-2.result.now c.deref-3.result.now (entries_of c.deref-2.result.now c.deref.result.now c.in_ok-reading.reading.entries.items)
    ranges issuers entries c.in_ok-reading.ensures.entries) in
    c.in_ok-merged.ensures.members (facts_of_job job) read

pub returns-clause-unread : goal.returns-clause-unread
returns-clause-unread g c =
    let job = job_held c.args.job in
    let ranges : c.deref.result.now ≡ job.ranges.items = c.deref.ensures.value ∙ ap (λ (j : Job). j.ranges.items) c.job-whole.ensures in
    let issuers : c.deref-2.result.now ≡ enrolled (facts_of_job job) = c.deref-2.ensures.value ∙ c.in_ok-issuers.ensures ∙ ap (λ (j : Job). enrolled (facts_of_job j)) c.job-whole.ensures in
    let entries : c.deref-3.result.now ≡ job.entries.items = c.deref-3.ensures.value ∙ ap (λ (j : Job). j.entries.items) c.job-whole.ensures in
    count_job Unread job c.deref.result.now c.deref-2.result.now c.deref-3.result.now c.in_ok-reading.reading.tally.unread ranges issuers entries c.in_ok-reading.ensures.unread
    ∙ count_alone Unread refl (past_in no_ledger) (past_in (ledger_fields c.args.parts.now c.args.items.now)) (facts_of_job job)

pub returns-clause-uncovered : goal.returns-clause-uncovered
returns-clause-uncovered g c =
    let job = job_held c.args.job in
    let ranges : c.deref.result.now ≡ job.ranges.items = c.deref.ensures.value ∙ ap (λ (j : Job). j.ranges.items) c.job-whole.ensures in
    let issuers : c.deref-2.result.now ≡ enrolled (facts_of_job job) = c.deref-2.ensures.value ∙ c.in_ok-issuers.ensures ∙ ap (λ (j : Job). enrolled (facts_of_job j)) c.job-whole.ensures in
    let entries : c.deref-3.result.now ≡ job.entries.items = c.deref-3.ensures.value ∙ ap (λ (j : Job). j.entries.items) c.job-whole.ensures in
    count_job Uncovered job c.deref.result.now c.deref-2.result.now c.deref-3.result.now c.in_ok-reading.reading.tally.uncovered ranges issuers entries c.in_ok-reading.ensures.uncovered
    ∙ count_alone Uncovered refl (past_in no_ledger) (past_in (ledger_fields c.args.parts.now c.args.items.now)) (facts_of_job job)

pub returns-clause-unenrolled : goal.returns-clause-unenrolled
returns-clause-unenrolled g c =
    let job = job_held c.args.job in
    let ranges : c.deref.result.now ≡ job.ranges.items = c.deref.ensures.value ∙ ap (λ (j : Job). j.ranges.items) c.job-whole.ensures in
    let issuers : c.deref-2.result.now ≡ enrolled (facts_of_job job) = c.deref-2.ensures.value ∙ c.in_ok-issuers.ensures ∙ ap (λ (j : Job). enrolled (facts_of_job j)) c.job-whole.ensures in
    let entries : c.deref-3.result.now ≡ job.entries.items = c.deref-3.ensures.value ∙ ap (λ (j : Job). j.entries.items) c.job-whole.ensures in
    count_job Unenrolled job c.deref.result.now c.deref-2.result.now c.deref-3.result.now c.in_ok-reading.reading.tally.unenrolled ranges issuers entries c.in_ok-reading.ensures.unenrolled
    ∙ count_alone Unenrolled refl (past_in no_ledger) (past_in (ledger_fields c.args.parts.now c.args.items.now)) (facts_of_job job)

pub overflow_cast-late : goal.overflow_cast-late
overflow_cast-late g c =
    let job = job_held c.args.job in
    let ranges : c.deref.result.now ≡ job.ranges.items = c.deref.ensures.value ∙ ap (λ (j : Job). j.ranges.items) c.job-whole.ensures in
    let issuers : c.deref-2.result.now ≡ enrolled (facts_of_job job) = c.deref-2.ensures.value ∙ c.in_ok-issuers.ensures ∙ ap (λ (j : Job). enrolled (facts_of_job j)) c.job-whole.ensures in
    let entries : c.deref-3.result.now ≡ job.entries.items = c.deref-3.ensures.value ∙ ap (λ (j : Job). j.entries.items) c.job-whole.ensures in
    let keys : c.deref-4.result.now ≡ c.deref-2.result.now = c.deref-4.ensures.value ∙ sym c.deref-2.ensures.value in
    let shown : c.deref-5.result.now ≡ c.deref.result.now =
    c.deref-5.ensures.value ∙ ap (λ (j : Job). j.ranges.items) c.job-left.ensures ∙ c.without_entries-rest.ensures.ranges ∙ sym ranges in
    let read = read_again c.deref-2.result.now c.deref-4.result.now c.deref.result.now c.deref-5.result.now c.in_ok-reading.reading.entries.items _ keys shown
    (read_job job c.deref.result.now c.deref-2.result.now c.deref-3.result.now (entries_of c.deref-2.result.now c.deref.result.now c.in_ok-reading.reading.entries.items)
    ranges issuers entries c.in_ok-reading.ensures.entries) in
    let late =
    late_is (ledger_fields c.args.parts.now c.args.items.now) (facts_of_job job) (entries_of c.deref-4.result.now c.deref-5.result.now c.in_ok-reading.reading.entries.items)
    c.in_ok-merged.merged.late read c.in_ok-merged.ensures.late in
    let n = late_fits (ledger_fields c.args.parts.now c.args.items.now) job c.in_ok-merged.merged.late late c.requires.few_entries in
    omega arith

pub overflow_sub-result : goal.overflow_sub-result
overflow_sub-result g c =
    let job = job_held c.args.job in
    let ranges : c.deref.result.now ≡ job.ranges.items = c.deref.ensures.value ∙ ap (λ (j : Job). j.ranges.items) c.job-whole.ensures in
    let issuers : c.deref-2.result.now ≡ enrolled (facts_of_job job) = c.deref-2.ensures.value ∙ c.in_ok-issuers.ensures ∙ ap (λ (j : Job). enrolled (facts_of_job j)) c.job-whole.ensures in
    let entries : c.deref-3.result.now ≡ job.entries.items = c.deref-3.ensures.value ∙ ap (λ (j : Job). j.entries.items) c.job-whole.ensures in
    let keys : c.deref-4.result.now ≡ c.deref-2.result.now = c.deref-4.ensures.value ∙ sym c.deref-2.ensures.value in
    let shown : c.deref-5.result.now ≡ c.deref.result.now =
    c.deref-5.ensures.value ∙ ap (λ (j : Job). j.ranges.items) c.job-left.ensures ∙ c.without_entries-rest.ensures.ranges ∙ sym ranges in
    let read = read_again c.deref-2.result.now c.deref-4.result.now c.deref.result.now c.deref-5.result.now c.in_ok-reading.reading.entries.items _ keys shown
    (read_job job c.deref.result.now c.deref-2.result.now c.deref-3.result.now (entries_of c.deref-2.result.now c.deref.result.now c.in_ok-reading.reading.entries.items)
    ranges issuers entries c.in_ok-reading.ensures.entries) in
    let late =
    late_is (ledger_fields c.args.parts.now c.args.items.now) (facts_of_job job) (entries_of c.deref-4.result.now c.deref-5.result.now c.in_ok-reading.reading.entries.items)
    c.in_ok-merged.merged.late read c.in_ok-merged.ensures.late in
    late_within (past_in (ledger_fields c.args.parts.now c.args.items.now)) (facts_of_job job) c.in_ok-reading.reading.tally.read c.in_ok-merged.merged.late
    (count_job Accepted job c.deref.result.now c.deref-2.result.now c.deref-3.result.now c.in_ok-reading.reading.tally.read ranges issuers entries c.in_ok-reading.ensures.read) late

pub returns-clause-late : goal.returns-clause-late
returns-clause-late g c =
    let job = job_held c.args.job in
    let ranges : c.deref.result.now ≡ job.ranges.items = c.deref.ensures.value ∙ ap (λ (j : Job). j.ranges.items) c.job-whole.ensures in
    let issuers : c.deref-2.result.now ≡ enrolled (facts_of_job job) = c.deref-2.ensures.value ∙ c.in_ok-issuers.ensures ∙ ap (λ (j : Job). enrolled (facts_of_job j)) c.job-whole.ensures in
    let entries : c.deref-3.result.now ≡ job.entries.items = c.deref-3.ensures.value ∙ ap (λ (j : Job). j.entries.items) c.job-whole.ensures in
    let keys : c.deref-4.result.now ≡ c.deref-2.result.now = c.deref-4.ensures.value ∙ sym c.deref-2.ensures.value in
    let shown : c.deref-5.result.now ≡ c.deref.result.now =
    c.deref-5.ensures.value ∙ ap (λ (j : Job). j.ranges.items) c.job-left.ensures ∙ c.without_entries-rest.ensures.ranges ∙ sym ranges in
    let read = read_again c.deref-2.result.now c.deref-4.result.now c.deref.result.now c.deref-5.result.now c.in_ok-reading.reading.entries.items _ keys shown
    (read_job job c.deref.result.now c.deref-2.result.now c.deref-3.result.now (entries_of c.deref-2.result.now c.deref.result.now c.in_ok-reading.reading.entries.items)
    ranges issuers entries c.in_ok-reading.ensures.entries) in
    let late =
    late_is (ledger_fields c.args.parts.now c.args.items.now) (facts_of_job job) (entries_of c.deref-4.result.now c.deref-5.result.now c.in_ok-reading.reading.entries.items)
    c.in_ok-merged.merged.late read c.in_ok-merged.ensures.late in
    late

pub returns-clause-accepted : goal.returns-clause-accepted
returns-clause-accepted g c =
    let job = job_held c.args.job in
    let ranges : c.deref.result.now ≡ job.ranges.items = c.deref.ensures.value ∙ ap (λ (j : Job). j.ranges.items) c.job-whole.ensures in
    let issuers : c.deref-2.result.now ≡ enrolled (facts_of_job job) = c.deref-2.ensures.value ∙ c.in_ok-issuers.ensures ∙ ap (λ (j : Job). enrolled (facts_of_job j)) c.job-whole.ensures in
    let entries : c.deref-3.result.now ≡ job.entries.items = c.deref-3.ensures.value ∙ ap (λ (j : Job). j.entries.items) c.job-whole.ensures in
    let keys : c.deref-4.result.now ≡ c.deref-2.result.now = c.deref-4.ensures.value ∙ sym c.deref-2.ensures.value in
    let shown : c.deref-5.result.now ≡ c.deref.result.now =
    c.deref-5.ensures.value ∙ ap (λ (j : Job). j.ranges.items) c.job-left.ensures ∙ c.without_entries-rest.ensures.ranges ∙ sym ranges in
    let read = read_again c.deref-2.result.now c.deref-4.result.now c.deref.result.now c.deref-5.result.now c.in_ok-reading.reading.entries.items _ keys shown
    (read_job job c.deref.result.now c.deref-2.result.now c.deref-3.result.now (entries_of c.deref-2.result.now c.deref.result.now c.in_ok-reading.reading.entries.items)
    ranges issuers entries c.in_ok-reading.ensures.entries) in
    let late =
    late_is (ledger_fields c.args.parts.now c.args.items.now) (facts_of_job job) (entries_of c.deref-4.result.now c.deref-5.result.now c.in_ok-reading.reading.entries.items)
    c.in_ok-merged.merged.late read c.in_ok-merged.ensures.late in
    accepted_rest (past_in (ledger_fields c.args.parts.now c.args.items.now)) (facts_of_job job) c.in_ok-reading.reading.tally.read c.in_ok-merged.merged.late
    (count_job Accepted job c.deref.result.now c.deref-2.result.now c.deref-3.result.now c.in_ok-reading.reading.tally.read ranges issuers entries c.in_ok-reading.ensures.read) late
