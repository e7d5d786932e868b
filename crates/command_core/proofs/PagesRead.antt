-- The head, the pages and the pieces of longer jobs, as they are read from their files.
use Rattle.std.proofs.Common.{◌≡◌, ◌≢◌, ℕ, ◌+◌, ◌≤◌, ◌<◌, inl, inr, List, length, map, take, Bool, true, false, nat_lt, Option, Some, None, Result, Ok, Err, refl, sym, ap, ◌∙◌, subst, arith}
use Rattle.std.specs.Prelude.{◌⊎◌, ◌==◌, IsErrOf}
use Rattle.std.proofs.lemmas.Bool.{eq-eqb, ne_eqb}
use Rattle.std.proofs.lemmas.Bool.Decides.{nat_tests}
use Rattle.std.proofs.lemmas.List.{take_all, length-take-le}
use Rattle.octets_core.specs.Reading.{GivesUnless}
use Rattle.outside_core.specs.Files.{Files}
use Rattle.gather_core.specs.declared.fault.PageFault.TheVariants as pages
use Rattle.gather_core.specs.declared.page.TheConstants.{MAX_PAGE}
use Rattle.gather_core.specs.Pages.{PageFields, page_of}
use Rattle.job_core.specs.declared.bounds.TheConstants.Limits as limits
use Rattle.job_core.specs.declared.fault.JobFault.{JobFault}
use Rattle.job_core.specs.declared.fault.JobFault.TheVariants as job
use Rattle.job_core.specs.JobLayout.{EntryText}
use Rattle.job_core.specs.JobText.{JobContents, spelling}
use Rattle.gather_core.specs.declared.job.OpenJob.{OpenJob}
use Rattle.gather_core.specs.declared.texts.EntryTexts.{EntryTexts}
use Rattle.gather_core.specs.declared.texts.Piece.{Piece}
use Rattle.gather_core.specs.Opened.{Holds, Opens}
use Rattle.gather_core.specs.Raw.{raw_job, piece_limits, of_log}
use Rattle.input_core.specs.declared.fault.FileFault.{FileFault}
use Rattle.input_core.specs.declared.fault.FileFault.TheVariants as faults
use Rattle.input_core.specs.declared.input.InputFault.TheVariants as reads
use Rattle.input_core.specs.Faults.{of_job, of_page}
use Rattle.input_core.specs.Readings.{faulted}
use Rattle.input_core.specs.Inputs.{IsHeld, IsBlamed, IsInput}
use Rattle.input_core.proofs.FilesRead.{input_whole, none_failed}
use Rattle.command_core.specs.Longer.{head_in, page_in, page_entries, piece_entries, entries_of_log, entries_of_epoch}

-- what is read of the bytes of a job is opened
pub head_opened : {T : Type 0} (told : Option Files) (failed : Option (List ℕ) → Type 0) (name bytes : List ℕ) (o : OpenJob) (x : T) → IsHeld told name (λ file. bytes ≡ file)
    → IsErrOf (Ok x) reads.Failed ⊎ failed None → (j : JobContents) × (raw_job limits.PUBLISHED bytes ≡ Ok j) × (bytes ≡ spelling j) × Opens o j
    → (j : JobContents) × Opens o j × IsInput told failed name head_in (λ (k : JobContents). k) (Ok j)
head_opened told failed name bytes o x held unblamed (j, raw, text, opens) =
    (j, opens, input_whole told failed name bytes head_in (λ (k : JobContents). k) (Ok j) x held unblamed (ap (faulted of_job) raw))

-- ---- entries of a log

-- the entries of a page that was read
pub page_held : {B : Type 0} (told : Option Files) (failed : Option (List ℕ) → Type 0) (name log : List ℕ) (view : B → List PageFields) (x : B) (t : EntryTexts)
    → IsInput told failed name page_in view (Ok x) → Holds t (map (of_log log) (view x))
    → (entries : List EntryText) × Holds t entries × IsInput told failed name (page_entries log) (λ (y : List EntryText). y) (Ok entries)
page_held told failed name log view x t (None, read, gives, blamed) holds =
    absurd (let h : ◌≡◌ {A = Result (List PageFields) FileFault} (Err faults.Unread) (Ok (view x)) = gives in cc)
page_held told failed name log view x t (Some bytes, read, gives, blamed) holds =
    (map (of_log log) (view x), holds, (Some bytes, read, ap (entries_of_log log) gives, inl (none_failed failed name faults.Unread x blamed)))

-- a fault of a page
of_log_err : (log : List ℕ) (r : Result (List PageFields) FileFault) (e : FileFault) → r ≡ Err e → entries_of_log log r ≡ Err e
of_log_err log r e is = ap (entries_of_log log) is

unread_same : {A : Type 0} (e : FileFault) → ◌≡◌ {A = Result A FileFault} (Err faults.Unread) (Err e) → ◌≡◌ {A = Result (List EntryText) FileFault} (Err faults.Unread) (Err e)
unread_same {A} e is = let same : faults.Unread ≡ e = cc in ap (λ (f : FileFault). Err f) same

blamed_as : {A : Type 0} (failed : Option (List ℕ) → Type 0) (name : List ℕ) (e : FileFault) → IsBlamed {A = A} failed name faults.Unread (Err e)
    → IsBlamed {A = List EntryText} failed name faults.Unread (Err e)
blamed_as {A} failed name e (inl none) = inl none
blamed_as {A} failed name e (inr (is, why)) =
    let same : e ≡ faults.Unread = let h : ◌≡◌ {A = Result A FileFault} (Err e) (Err faults.Unread) = is in cc in
    inr (ap (λ (f : FileFault). Err f) same, why)

pub page_refused : {B : Type 0} (told : Option Files) (failed : Option (List ℕ) → Type 0) (name log : List ℕ) (view : B → List PageFields) (e : FileFault)
    → IsInput told failed name page_in view (Err e) → IsInput {B = List EntryText} told failed name (page_entries log) (λ y. y) (Err e)
page_refused {B} told failed name log view e (None, read, gives, blamed) =
    (None, read, λ refute. unread_same {A = List PageFields} e (gives refute), blamed_as {A = B} failed name e blamed)
page_refused {B} told failed name log view e (Some bytes, read, gives, blamed) =
    (Some bytes, read, λ refute. of_log_err log (page_in bytes) e (gives refute), blamed_as {A = B} failed name e blamed)

-- want of memory behind a page that was read
pub page_wanted : {B : Type 0} (told : Option Files) (failed : Option (List ℕ) → Type 0) (name log : List ℕ) (view : B → List PageFields) (x : B)
    → IsInput told failed name page_in view (Ok x) → IsInput told failed name (page_entries log) (λ (y : List EntryText). y) (Err faults.NoMemory)
page_wanted told failed name log view x (given, read, gives, blamed) =
    (given, read, λ refute. absurd (refute refl), inl (none_failed failed name faults.Unread x blamed))

-- ---- entries of a piece

module _ {T : Type 0} (told : Option Files) (failed : Option (List ℕ) → Type 0) (name bytes : List ℕ) (epoch : ℕ) (x : T)
    (held : IsHeld told name (λ file. bytes ≡ file)) (unblamed : IsErrOf (Ok x) reads.Failed ⊎ failed None) where
  whole_input : (r : Result (List EntryText) FileFault) → GivesUnless faults.NoMemory (λ (y : List EntryText). y) r (piece_entries epoch bytes)
      → IsInput told failed name (piece_entries epoch) (λ (y : List EntryText). y) r
  whole_input r gives = input_whole told failed name bytes (piece_entries epoch) (λ (y : List EntryText). y) r x held unblamed gives

  pub piece_held : (p : Piece) (t : EntryTexts) → (j : JobContents) × (raw_job piece_limits bytes ≡ Ok j) × (p.epoch ≡ j.epoch) × Holds p.entries j.entries
      → t ≡ p.entries → epoch ≡ p.epoch
      → (entries : List EntryText) × Holds t entries × IsInput told failed name (piece_entries epoch) (λ (y : List EntryText). y) (Ok entries)
  piece_held p t (j, raw, of, holds) is same =
      let test : (epoch == j.epoch) ≡ true = eq-eqb epoch j.epoch (same ∙ of) in (
        j.entries,
        subst (λ (y : EntryTexts). Holds y j.entries) (sym is) holds,
        whole_input (Ok j.entries) (ap (λ (r : Result JobContents JobFault). entries_of_epoch epoch (faulted of_job r)) raw ∙ rw test refl),
      )

  pub piece_other : (p : Piece) (e : FileFault) → (j : JobContents) × (raw_job piece_limits bytes ≡ Ok j) × (p.epoch ≡ j.epoch) × Holds p.entries j.entries
      → e ≡ faults.OtherEpoch epoch p.epoch → epoch ≢ p.epoch → IsInput told failed name (piece_entries epoch) (λ (y : List EntryText). y) (Err e)
  piece_other p e (j, raw, of, holds) is other =
      let test : (epoch == j.epoch) ≡ false = ne_eqb epoch j.epoch (λ same. other (same ∙ sym of)) in
      whole_input (Err e) (λ refute.
      ap (λ (r : Result JobContents JobFault). entries_of_epoch epoch (faulted of_job r)) raw ∙ rw test refl
      ∙ sym (ap (λ (f : FileFault). Err f) (is ∙ ap (faults.OtherEpoch epoch) of)))

  pub piece_refused : (e : JobFault) → ((e ≡ job.NoMemory → ⊥) → raw_job piece_limits bytes ≡ Err e)
      → IsInput told failed name (piece_entries epoch) (λ (y : List EntryText). y) (Err (of_job e))
  piece_refused e raw = whole_input (Err (of_job e)) (λ refute.
      ap (λ (r : Result JobContents JobFault). entries_of_epoch epoch (faulted of_job r)) (raw (λ none. refute (ap of_job none))))

-- ---- pages

long_page : (bytes : List ℕ) → MAX_PAGE < length bytes → page_in bytes ≡ Err (faults.BadPage (pages.Size 0))
long_page bytes long = let t : nat_lt MAX_PAGE (length bytes) ≡ true = grind (arith, nat_tests) in rw t refl

short_page : (bytes : List ℕ) → length bytes ≤ MAX_PAGE → page_in bytes ≡ faulted of_page (page_of bytes)
short_page bytes short = let t : nat_lt MAX_PAGE (length bytes) ≡ false = grind (arith, nat_tests) in rw t refl

page_front_by : (file : List ℕ) (b : Bool) → nat_lt MAX_PAGE (length file) ≡ b → page_in (take (MAX_PAGE + 1) file) ≡ page_in file
page_front_by file true long =
    let big : MAX_PAGE < length file = grind (arith, nat_tests) in
    let size : length (take (MAX_PAGE + 1) file) ≡ MAX_PAGE + 1 = length-take-le (MAX_PAGE + 1) file (omega (arith, big)) in
    long_page (take (MAX_PAGE + 1) file) (omega (arith, size)) ∙ sym (long_page file big)
page_front_by file false short =
    let small : length file ≤ MAX_PAGE = grind (arith, nat_tests) in
    ap page_in (take_all (MAX_PAGE + 1) file (omega (arith, small)))

-- the bytes up to the most of a page and one more are enough
pub page_front : (file : List ℕ) → page_in (take (MAX_PAGE + 1) file) ≡ page_in file
page_front file = page_front_by file (nat_lt MAX_PAGE (length file)) refl

pub page_long : (bytes : List ℕ) → MAX_PAGE < length bytes → page_in bytes ≡ Err (faults.BadPage (pages.Size 0))
page_long bytes long = long_page bytes long

pub page_short : (bytes : List ℕ) → length bytes ≤ MAX_PAGE → page_in bytes ≡ faulted of_page (page_of bytes)
page_short bytes short = short_page bytes short
