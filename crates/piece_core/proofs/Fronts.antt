-- What the pieces hold of the records that were read.
use Rattle.std.specs.Int.{w8, to_be_bytes}
use Rattle.std.proofs.Common.{◌≡◌, ℕ, ◌≤◌, ◌<◌, List, ◌++◌, length, take, drop, Option, None, Ok, Vec, Global, refl, sym, ap, ◌∙◌, append_assoc, length-append, arith}
use Rattle.std.proofs.lemmas.List.{append-nil, drop_all, take_all}
use Rattle.std.proofs.Math.Seq.{drop-append_seam}
use Rattle.job_core.proofs.Walks.{longer}
use Rattle.octets_core.specs.Reading.{value_of}
use Rattle.job_core.specs.declared.bounds.TheConstants.Limits as limits
use Rattle.job_core.specs.declared.walking.JobRecords.{JobRecords}
use Rattle.job_core.specs.JobLayout.{Item, OneRange, OneCrl, OneEntry, JobTexts, job, entry_meaning}
use Rattle.job_core.specs.JobText.{JobContents, opening_text, record_text, contents_in, entries_in}
use Rattle.job_core.specs.Pulling.{AreBytes}
use Rattle.job_core.specs.Reader.{no_serials, with_record}
use Rattle.job_core.specs.Walks.{HasRead, place_in}
use Rattle.job_core.proofs.JobSpelled.{job-leaves}
use Rattle.job_core.proofs.Passing.{texts_of}
use Rattle.place_core.specs.declared.place.By.{By}
use Rattle.place_core.specs.declared.place.By.TheVariants as ways
use Rattle.place_core.specs.Cuts.{at_place}
use Rattle.gather_core.specs.Raw.{raw_job, raw_by}
use Rattle.piece_core.specs.declared.cutting.Pieces.{Pieces}
use Rattle.piece_core.specs.Pieces.{AreOf}
use Rattle.piece_core.specs.Records.{place_of_record}
use Rattle.piece_core.specs.Texts.{text_at, has_part, IsLonger}
use Rattle.piece_core.proofs.Keeping.{keeps_item, kept, kept_more, cut_spelled}
use Rattle.piece_core.proofs.Places.{entry_at}

-- so many texts, each the opening with what its place keeps of the records
pub record Front (by : By) (n : ℕ) (t : JobTexts) (texts : List (Vec ℕ Global)) : Type 0 where
  pub count : length texts ≡ n
  pub each : (p : ℕ) → p < n → text_at texts p ≡ opening_text t.epoch t.moment ++ texts_of (kept (at_place by n p) t.items)

-- the place of a record keeps it, and no other
has_it : (by : By) (n p : ℕ) (x : Item) → has_part (place_of_record by n x) p ≡ keeps_item (at_place by n p) x
has_it by n p (OneRange r) = refl
has_it ways.Issuer n p (OneCrl c) = refl
has_it ways.Identity n p (OneCrl c) = refl
has_it by n p (OneEntry e) = sym (entry_at by n p (entry_meaning e))

pub front-more : (by : By) (n : ℕ) (t : JobTexts) (x : Item) (old new : List (Vec ℕ Global)) → Front by n t old → IsLonger (place_of_record by n x) (record_text x) old new
    → Front by n (with_record t x) new
front-more by n t x old new f l =
    record {
      count = l.count ∙ f.count;
      each = λ p below. l.each p (omega (arith, below, f.count))
          ∙ rw (f.each p below, has_it by n p x, kept_more (at_place by n p) t.items x) (append_assoc (opening_text t.epoch t.moment) (texts_of (kept (at_place by n p) t.items)) _);
    }

-- The end was read and put behind each text: these are the pieces of the job.
pub front-whole : (by : By) (n : ℕ) (bytes : List ℕ) (t : JobTexts) (old : List (Vec ℕ Global)) (pieces : Pieces) → AreBytes bytes → job no_serials limits.PUBLISHED bytes 0 ≡ Ok (t, length bytes)
    → Front by n t old → IsLonger None (to_be_bytes w8 0) old pieces.texts.items → pieces.entries ≡ length (entries_in t.items) → pieces.bytes ≡ length bytes
    → (j : JobContents) × (raw_job limits.PUBLISHED bytes ≡ Ok j) × AreOf by n j pieces
front-whole by n bytes t old pieces octets read f l entries size =
    let (text, fits, pass) = (job-leaves no_serials limits.PUBLISHED bytes octets).each (t, length bytes) read in (
      contents_in t,
      ap (λ r. raw_by (value_of r)) read,
      record {
        count = l.count ∙ f.count;
        each = λ p below. l.each p (omega (arith, below, f.count))
            ∙ rw (f.each p below) (append_assoc (opening_text t.epoch t.moment) (texts_of (kept (at_place by n p) t.items)) (to_be_bytes w8 0) ∙ cut_spelled (at_place by n p) limits.PUBLISHED t pass);
        entries = entries;
        bytes = size ∙ ap (λ (b : List ℕ). length b) text;
      },
    )

-- the texts that a vector holds, once they are written back
pub stored : (place : Option ℕ) (text : List ℕ) (n : ℕ) (old now new : List (Vec ℕ Global)) → n ≡ length old → now ≡ old → IsLonger place text now new
    → IsLonger place text old (take n (new ++ drop (length new) old))
stored place text n old now new is same l =
    let size : length new ≡ length old = l.count ∙ ap (λ (vs : List (Vec ℕ Global)). length vs) same in
    rw (drop_all (length new) old (omega (arith, size)), append-nil new, take_all n new (omega (arith, is, size)), ← same) l

-- what was read since a place is the text of a record
module _ (bytes : List ℕ) (old new : JobRecords) (t : JobTexts) (x : Item) (before now : List ℕ) (h : HasRead limits.PUBLISHED old bytes t)
    (g : HasRead limits.PUBLISHED new bytes (with_record t x)) (first : before ≡ take (place_in old) bytes) (then : now ≡ take (place_in new) bytes) where
  since : now ≡ before ++ record_text x
  since = then ∙ longer limits.PUBLISHED old new bytes t x h g ∙ ap (λ (b : List ℕ). b ++ record_text x) (sym first)

  pub not-less : length before ≤ length now
  not-less = omega (arith, ap length since, length-append before (record_text x))

  pub one-text : drop (length before) now ≡ record_text x
  one-text = ap (drop (length before)) since ∙ drop-append_seam before (record_text x)
