-- Histories that are cut by places.
use Rattle.std.specs.List.{filter, count_by}
use Rattle.std.specs.Prelude.{◌==◌}
use Rattle.std.specs.Int.{from_be_bytes, w32}
use Rattle.std.proofs.Common.{◌≡◌, ℕ, ◌+◌, ◌*◌, ◌/◌, ◌%◌, ◌<◌, ◌≤◌, List, length, take}
use Rattle.std.proofs.Common.{true, Option, Some, None, refl, sym, ap, ◌∙◌, arith}
use Rattle.std.proofs.lemmas.Bool.{eq-eqb}
use Rattle.std.proofs.lemmas.List.Elements.{filter_agree}
use Rattle.std.proofs.lemmas.Nat.{div-add-mod', mod-mul-add, mod_below}
use Rattle.sha2.specs.Sha256.{sha256}
use Rattle.ident_core.specs.declared.identity.Identity.{Identity}
use Rattle.job_core.specs.JobFields.{JobFields}
use Rattle.universe_core.specs.Jobs.{Entry, JobFacts, enrolled}
use Rattle.universe_core.specs.Formats.{JobIn, facts_in}
use Rattle.universe_core.specs.History.{Past, past_of, class_of, universe, revoked}
use Rattle.universe_core.specs.Counting.{is_class, count, counts}
use Rattle.universe_core.specs.declared.counts.Counts.{Counts}
use Rattle.universe_core.specs.declared.class.Class.{Class}
use Rattle.universe_core.specs.declared.class.Class.TheVariants.{Unread, Uncovered, Unenrolled, Late, Accepted}
use Rattle.place_core.specs.declared.place.By.{By}
use Rattle.place_core.specs.declared.place.By.TheVariants as ways
use Rattle.place_core.specs.Places.{place_text, issuer_text, issuer_place, place_in}
use Rattle.place_core.specs.Cuts.{is_kept, at_place}
use Rattle.piece_core.specs.Cuts.{keeps_entry, entry_place}
use Rattle.piece_core.proofs.Places.{kept_at, entry_at}
use Rattle.cut_core.specs.Cutting.{cut_facts}
use Rattle.cut_core.specs.Courses.{Course, left}
use Rattle.cut_core.specs.InPlaces.{job_at, course_at, over_places, counts_at, IssuersAddUp, AddUp}
use Rattle.cut_core.proofs.Filters.{filter_all}
use Rattle.cut_core.proofs.Adding.{over_each, tally, lengths}
use Rattle.cut_core.proofs.Courses.{facts_cut, course_beside}
use Rattle.cut_core.proofs.Releases.{past_cut}
use Rattle.cut_core.proofs.Steps.{IsCutPast, class_kept, class_none, enrolled_cut, universe_cut, revoked_cut}

pub at_itself : (by : By) (n : ℕ) (x : Identity) → is_kept (at_place by n (place_in by n x)) x ≡ true
at_itself by n x = kept_at by n (place_in by n x) x ∙ eq-eqb (place_in by n x) (place_in by n x) refl

place_below : (by : By) (n : ℕ) (x : Identity) → 1 ≤ n → place_in by n x < n
place_below ways.Issuer n x some = omega arith
place_below ways.Identity n x some = omega arith

pub entry_below : (by : By) (n : ℕ) (o : Option Entry) → 1 ≤ n → entry_place by n o < n
entry_below by n None some = omega arith
entry_below by n (Some e) some = place_below by n e.id some

pub parted : (by : By) (n p : ℕ) (es : List (Option Entry))
    → filter (keeps_entry (at_place by n p)) es ≡ filter (λ o. entry_place by n o == p) es
parted by n p es = filter_agree (keeps_entry (at_place by n p)) (λ o. entry_place by n o == p) (entry_at by n p) es

pub same_crls : (n p : ℕ) (job : JobFields) → (job_at ways.Identity n p job).crls ≡ job.crls
same_crls n p job = filter_all job.crls

-- ---- a count that is a multiple

parts_of : (n c t a r q s : ℕ) → a * (c * t) + r ≡ n → q * c + s ≡ r → n ≡ (a * t + q) * c + s
parts_of n c t a r q s h i = omega (arith, h, i)

mod_again : (n c t : ℕ) → 1 ≤ c → n % c ≡ n % (c * t) % c
mod_again n c t some =
    let r : ℕ = n % (c * t) in
    ap (λ (m : ℕ). m % c) (parts_of n c t (n / (c * t)) r (r / c) (r % c) (div-add-mod' n (c * t)) (div-add-mod' r c))
    ∙ mod-mul-add (n / (c * t) * t + r / c) c (r % c) (mod_below r c (omega arith))

pub place_again : (by : By) (n times : ℕ) (x : Identity) → 1 ≤ n → place_in by n x ≡ place_in by (n * times) x % n
place_again ways.Issuer n times x some = mod_again (from_be_bytes w32 (take 4 (sha256 (issuer_text x.issuer)))) n times some
place_again ways.Identity n times x some = mod_again (from_be_bytes w32 (take 4 (sha256 (place_text x)))) n times some

-- ---- what places have together

module _ (by : By) (n : ℕ) (c : Course) (j : JobIn) (some : 1 ≤ n) where
  abbrev whole : Past
  whole = past_of (left c)

  abbrev job : JobFacts
  job = facts_in j

  abbrev told_at : ℕ → Past
  told_at p = past_of (left (course_at by n p c))

  abbrev part : ℕ → JobFacts
  part p = cut_facts (at_place by n p) job

  told : (p : ℕ) → IsCutPast (is_kept (at_place by n p)) whole (told_at p)
  told p = past_cut (at_place by n p) (left c) (left (course_at by n p c)) (course_beside (at_place by n p) c)

  counts_are : (p : ℕ) → counts_at by n c j p ≡ counts (told_at p) (part p)
  counts_are p = ap (counts (told_at p)) (facts_cut (at_place by n p) j)

  class_same : (p : ℕ) (o : Option Entry) → (entry_place by n o == p) ≡ true → class_of (told_at p) (part p) o ≡ class_of whole job o
  class_same p None e = class_none (part p) (told_at p) ∙ sym (class_none job whole)
  class_same p (Some e) k = class_kept (at_place by n p) job whole (told_at p) (told p) e (kept_at by n p e.id ∙ k)

  class_adds : (k : Class) → over_places n (λ p. count k (told_at p) (part p)) ≡ count k whole job
  class_adds k =
      over_each n (λ p. count k (told_at p) (part p))
      (λ p. count_by (λ o. is_class k (class_of (told_at p) (part p) o)) (filter (λ o. entry_place by n o == p) job.entries))
      (λ p. ap (count_by (λ o. is_class k (class_of (told_at p) (part p) o))) (parted by n p job.entries))
      ∙ tally (entry_place by n) n (λ o. entry_below by n o some) (λ p o. is_class k (class_of (told_at p) (part p) o))
      (λ o. is_class k (class_of whole job o))
      (λ p o e. ap (is_class k) (class_same p o e)) job.entries

  -- of each place what is kept of some identities
  kept_add : (at : ℕ → List Identity) (xs : List Identity) → ((p : ℕ) → at p ≡ filter (is_kept (at_place by n p)) xs)
      → over_places n (λ p. length (at p)) ≡ length xs
  kept_add at xs is =
      over_each n (λ p. length (at p)) (λ p. length (filter (λ x. place_in by n x == p) xs))
      (λ p. ap (λ (ys : List Identity). length ys)
      (is p ∙ filter_agree (is_kept (at_place by n p)) (λ x. place_in by n x == p) (kept_at by n p) xs))
      ∙ lengths (place_in by n) n (λ x. place_below by n x some) xs

  by_counts : (f : Counts → ℕ) → over_places n (λ p. f (counts_at by n c j p)) ≡ over_places n (λ p. f (counts (told_at p) (part p)))
  by_counts f = over_each n (λ p. f (counts_at by n c j p)) (λ p. f (counts (told_at p) (part p))) (λ p. ap f (counts_are p))

issuers_add : (by : By) (n : ℕ) (c : Course) (j : JobIn) → 1 ≤ n → IssuersAddUp by n c j
unfolding counts
issuers_add ways.Issuer n c j some =
    by_counts ways.Issuer n c j some (λ k. k.issuers)
    ∙ over_each n (λ p. length (enrolled (part ways.Issuer n c j some p)))
    (λ p. length (filter (λ issuer. issuer_place issuer n == p) (enrolled (facts_in j))))
    (λ p. ap (λ (is : List (List ℕ)). length is) (enrolled_cut (at_place ways.Issuer n p) (facts_in j)))
    ∙ lengths (λ issuer. issuer_place issuer n) n (λ issuer. omega (arith, some)) (enrolled (facts_in j))
issuers_add ways.Identity n c j some = λ p.
    ap (λ (k : Counts). k.issuers) (counts_are ways.Identity n c j some p)
    ∙ ap (λ (is : List (List ℕ)). length is) (enrolled_cut (at_place ways.Identity n p) (facts_in j) ∙ filter_all (enrolled (facts_in j)))

pub add_up : (by : By) (n : ℕ) (c : Course) (j : JobIn) → 1 ≤ n → AddUp by n c j
unfolding counts
add_up by n c j some = record {
  issuers = issuers_add by n c j some;
  universe = by_counts by n c j some (λ k. k.universe)
      ∙ kept_add by n c j some (λ p. universe (told_at by n c j some p) (part by n c j some p)) (universe (past_of (left c)) (facts_in j))
      (λ p. universe_cut (at_place by n p) (facts_in j) (past_of (left c)) (told_at by n c j some p) (told by n c j some p));
  revoked = by_counts by n c j some (λ k. k.revoked)
      ∙ kept_add by n c j some (λ p. revoked (told_at by n c j some p) (part by n c j some p)) (revoked (past_of (left c)) (facts_in j))
      (λ p. revoked_cut (at_place by n p) (facts_in j) (past_of (left c)) (told_at by n c j some p) (told by n c j some p));
  unread = by_counts by n c j some (λ k. k.unread) ∙ class_adds by n c j some Unread;
  uncovered = by_counts by n c j some (λ k. k.uncovered) ∙ class_adds by n c j some Uncovered;
  unenrolled = by_counts by n c j some (λ k. k.unenrolled) ∙ class_adds by n c j some Unenrolled;
  late = by_counts by n c j some (λ k. k.late) ∙ class_adds by n c j some Late;
  accepted = by_counts by n c j some (λ k. k.accepted) ∙ class_adds by n c j some Accepted;
}
