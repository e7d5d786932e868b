-- A job, by the bytes that a feed gave.
use Rattle.std.proofs.Common.{◌≡◌, ℕ, ◌-◌, ◌^◌, ◌≤◌, ◌<◌, Bool, true, false, List, [], ◌∷◌, ◌++◌, length}
use Rattle.std.proofs.Common.{take, Option, Some, None, Result, Ok, Err, refl, sym, ap, subst, ◌∙◌, arith, IfOk, IfErr, length-append}
use Rattle.std.specs.Prelude.{IfSome}
use Rattle.std.specs.Option.{option_map}
use Rattle.std.specs.FinMap.{get}
use Rattle.std.proofs.lemmas.Bool.{le-ltb}
use Rattle.std.proofs.lemmas.List.{take_all}
use Rattle.octets_core.specs.Layout.{Layout, ◌>>=◌, then_read, with_fault}
use Rattle.octets_core.specs.Reading.{end}
use Rattle.octets_core.specs.declared.fault.LayoutFault.{LayoutFault}
use Rattle.outside_core.specs.declared.depot.Depot.{Ghosts}
use Rattle.outside_core.specs.declared.feed.Feed.{Feed}
use Rattle.outside_core.specs.Files.{Files}
use Rattle.outside_core.specs.Reads.{ReadFailed}
use Rattle.outside_core.specs.Filling.{IsInOrder}
use Rattle.outside_core.specs.Standing.{depot_of, name_of, place_of, file_in, StandsIn}
use Rattle.outside_core.proofs.Feeding.{windowed}
use Rattle.job_core.specs.declared.bounds.Limits.{Limits}
use Rattle.job_core.specs.declared.fault.JobFault.{JobFault}
use Rattle.job_core.specs.declared.fault.JobFault.TheVariants as faults
use Rattle.job_core.specs.Fitting.{FitsFields, IsWithinLimits}
use Rattle.job_core.specs.JobFields.{JobFields}
use Rattle.job_core.specs.JobLayout.{fielded, opening}
use Rattle.job_core.specs.JobMeaning.{job_of}
use Rattle.job_core.specs.Partial.{begun, records_saying}
use Rattle.outside_core.specs.Pulling.{Pulled}
use Rattle.job_core.specs.Pulling.{AreBytes, IsOfBytes, AnswersJob, Blames, Lies, Fetches, SeesMore, ReadsJob}
use Rattle.job_core.proofs.Given.{lies-first, lies-both, lies-last, lies-self, lies-whole}
use Rattle.job_core.proofs.Fitting.{within-job}
use Rattle.job_core.proofs.JobSpelled.{read-fault, read-spelled}
use Rattle.job_core.proofs.ReadFacts.{job-fits}
use Rattle.job_core.proofs.Saying.{opening-fails, records-fail, end-comes, job-says}

-- ---- the layout of all but the end

abbrev pub up_to_end : Limits → Layout JobFault JobFields
up_to_end limits = fielded opening >>= λ o. records_saying limits (begun o.0 o.1)

abbrev By : Limits → List ℕ → Result ((ℕ × ℕ) × ℕ) LayoutFault → Result (JobFields × ℕ) JobFault
By limits file r = then_read (with_fault faults.Layout r) (λ o. records_saying limits (begun o.0 o.1)) file

fails-by : (limits : Limits) (file : List ℕ) (e : JobFault) (r : Result ((ℕ × ℕ) × ℕ) LayoutFault) → opening file 0 ≡ r → By limits file r ≡ Err e → job_of limits file ≡ Err e
fails-by limits file e (Ok x) opened is = records-fail limits file x.0 x.1 opened e is
fails-by limits file e (Err d) opened is = let same : faults.Layout d ≡ e = cc in opening-fails limits file d opened ∙ ap (λ (c : JobFault). Err c) same

says-by : (limits : Limits) (file : List ℕ) (f : JobFields) (q : ℕ) (r : Result ((ℕ × ℕ) × ℕ) LayoutFault) → opening file 0 ≡ r → By limits file r ≡ Ok (f, q) → end file q ≡ Ok (tt, q)
    → job_of limits file ≡ Ok f
says-by limits file f q (Ok x) opened is over = job-says limits file x.0 x.1 opened f q q is over
says-by limits file f q (Err d) opened is over = absurd cc

more-by : (limits : Limits) (file : List ℕ) (f : JobFields) (q : ℕ) (e : JobFault) (r : Result ((ℕ × ℕ) × ℕ) LayoutFault) → opening file 0 ≡ r → By limits file r ≡ Ok (f, q)
    → fielded end file q ≡ Err e → job_of limits file ≡ Err e
more-by limits file f q e (Ok x) opened is over = end-comes limits file x.0 x.1 opened f q e is over
more-by limits file f q e (Err d) opened is over = absurd cc

ends_there : (file : List ℕ) (q : ℕ) → length file ≤ q → end file q ≡ Ok (tt {0}, q)
ends_there file q le = rw (le-ltb q (length file) le) refl

-- ---- what is read of it

module _ {D X U : Type 0} (g : Ghosts D) (limits : Limits) (view : X → JobFields) (v : U → JobFields) (old mid : Feed D) (first : place_of old ≡ 0) where
  -- a fault before the end
  pub reads-fault : (e : JobFault) → place_of mid < 2 ^ 64 - 1 → Fetches g v (up_to_end limits) old mid (Err e) → ReadsJob g view limits old (Err e)
  reads-fault e near it = record {
    given = it.given;
    ended = it.ended;
    short = λ seen. omega (arith, near, it.place);
    bytes = tt;
    lies = λ file stands. subst (λ (n : ℕ). Lies it.ended file n it.given) first (it.lies file stands);
    reads = λ file lies of.
        read-fault limits file e (fails-by limits file e (opening file 0) refl
        (subst (λ (n : ℕ). up_to_end limits file n ≡ Err e) first (it.reads file (subst (λ (n : ℕ). Lies it.ended file n it.given) (sym first) lies) of)));
  }

  module _ (u : U) (it : Fetches g v (up_to_end limits) old mid (Ok u)) where
    it-lies : (file : List ℕ) → StandsIn g old file → Lies false file 0 it.given
    it-lies file stands = subst (λ (n : ℕ). Lies false file n it.given) first (subst (λ (b : Bool). Lies b file (place_of old) it.given) it.going.1 (it.lies file stands))

    it-reads : (file : List ℕ) → Lies false file 0 it.given → up_to_end limits file 0 ≡ Ok (v u, place_of mid)
    it-reads file lies =
        subst (λ (n : ℕ). up_to_end limits file n ≡ Ok (v u, place_of mid)) first
        (it.reads file (subst (λ (b : Bool). Lies b file (place_of old) it.given) (sym it.going.1) (subst (λ (n : ℕ). Lies false file n it.given) (sym first) lies)))

    it-size : place_of mid ≡ length it.given
    it-size = omega (arith, it.place, first)

    -- no byte is left
    pub reads-whole : (x : X) → v u ≡ view x → place_of mid < 2 ^ 64 - 1 → Pulled g old mid → ((file : List ℕ) → StandsIn g mid file → length file ≤ place_of mid)
        → ReadsJob g view limits old (Ok x)
    reads-whole x same near pulled ends = record {
      given = it.given;
      ended = true;
      short = λ seen. omega (arith, near, it-size);
      bytes = it.going.0;
      lies = λ file stands. lies-last file 0 it.given (omega (arith, ends file (pulled.stands file stands), it-size)) (it-lies file stands);
      reads = λ file lies.
          let front : Lies false file 0 it.given = record { within = lies.within; same = lies.same; last = λ is. absurd cc } in
          read-spelled limits file (view x) (subst AreBytes (lies.same ∙ take_all (length it.given) file (omega (arith, lies.last refl))) it.going.0)
          (says-by limits file (v u) (place_of mid) (opening file 0) refl (it-reads file front)
          (ends_there file (place_of mid) (omega (arith, lies.last refl, it-size)))
          ∙ ap (λ (f : JobFields). Ok f) same);
    }

    -- nothing is known of the end
    reads-none : (e : JobFault) → (IsOfBytes e → ⊥) → ReadsJob g view limits old (Err e)
    reads-none e not = record {
      given = it.given;
      ended = false;
      short = λ seen. absurd cc;
      bytes = tt;
      lies = it-lies;
      reads = λ file lies of. absurd (not of);
    }

    reads-more : (e : JobFault) → Pulled g old mid → SeesMore g mid e → ReadsJob g view limits old (Err e)
    reads-more e pulled (x, next, wrong) = record {
      given = it.given ++ x ∷ [];
      ended = false;
      short = λ seen. absurd cc;
      bytes = tt;
      lies = λ file stands. lies-both false file 0 (place_of mid) it.given (x ∷ []) (omega (arith, it-size)) (it-lies file stands) (next file (pulled.stands file stands));
      reads = λ file lies of.
          read-fault limits file e
          (more-by limits file (v u) (place_of mid) e (opening file 0) refl (it-reads file (lies-first false file 0 it.given (x ∷ []) lies))
          (wrong file (omega (arith, lies.within, it-size, length-append it.given (x ∷ [])))));
    }

    -- the end isn't there
    pub reads-unended : (e : JobFault) → Pulled g old mid → (IsOfBytes e → SeesMore g mid e) → ReadsJob g view limits old (Err e)
    reads-unended faults.NoMemory pulled more = reads-none faults.NoMemory (λ of. of.0 refl)
    reads-unended faults.ReadFault pulled more = reads-none faults.ReadFault (λ of. of.1 refl)
    reads-unended (faults.Layout f) pulled more = reads-more (faults.Layout f) pulled (more (λ same. absurd cc, λ same. absurd cc))
    reads-unended (faults.TooMany thing limit) pulled more = reads-more (faults.TooMany thing limit) pulled (more (λ same. absurd cc, λ same. absurd cc))

-- ---- what follows

module _ {D X : Type 0} (g : Ghosts D) (limits : Limits) (view : X → JobFields) (feed : Feed D) where
  pub exact-given : (r : Result X JobFault) → ReadsJob g view limits feed r → (file : List ℕ) → StandsIn g feed file → AnswersJob view limits file r
  exact-given r it file stands = it.reads file (it.lies file stands)

  pub within-given : (r : Result X JobFault) → ReadsJob g view limits feed r → IfOk r (λ x. IsWithinLimits limits (view x))
  within-given (Ok x) it = within-job limits it.given (view x) (it.reads it.given (lies-self it.ended it.given))
  within-given (Err e) it = tt

  pub fits-given : (r : Result X JobFault) → limits.ranges ≤ 1024 → ReadsJob g view limits feed r → IfOk r (λ x. FitsFields (view x))
  fits-given (Ok x) published it = job-fits limits it.given (view x) it.bytes published (it.reads it.given (lies-self it.ended it.given))
  fits-given (Err e) published it = tt

  -- some bytes are read so, the file's where files are told
  pub given-of : (r : Result X JobFault) (told : Option Files) (name : List ℕ) → ReadsJob g view limits feed r
      → ((files : Files) → told ≡ Some files → (bytes : List ℕ) × (get files name ≡ Some bytes) × StandsIn g feed (take (2 ^ 64 - 1) bytes))
      → (given : List ℕ) × IfSome told (λ files. get files name ≡ Some given) × AnswersJob view limits given r
  given-of r None name it held = (it.given, tt, it.reads it.given (lies-self it.ended it.given))
  given-of r (Some files) name it held =
      let (bytes, there, stands) = held files refl in
      (bytes, there, it.reads bytes (lies-whole it.ended bytes it.given it.short (it.lies (take (2 ^ 64 - 1) bytes) stands)))

-- a feed that is in order stands in the file that is held
pub stands-there : {D : Type 0} (g : Ghosts D) (feed : Feed D) (files : Files) (bytes : List ℕ) → IsInOrder g feed → g.files (depot_of feed) ≡ Some files
    → get files (name_of feed) ≡ Some bytes → StandsIn g feed (take (2 ^ 64 - 1) bytes)
stands-there g feed files bytes order told held =
    let is : file_in (g.files (depot_of feed)) (name_of feed) ≡ Some (take (2 ^ 64 - 1) bytes)
    = ap (λ (t : Option Files). file_in t (name_of feed)) told ∙ ap (option_map (take (2 ^ 64 - 1))) held in
    record { told = is; window = windowed _ (name_of feed) (take (2 ^ 64 - 1) bytes) (place_of feed) _ is (omega (arith, feed.reach)) order }

-- where no read fails, no fault is that of one
pub never-blamed : {D X : Type 0} (g : Ghosts D) (old new : Feed D) (r : Result X JobFault)
    → (ReadFailed g (name_of old) (depot_of old) (depot_of new) → ⊥) → Blames g old new r → IfErr r (λ e. e ≡ faults.ReadFault → ⊥)
never-blamed g old new (Ok x) never blames = tt
never-blamed g old new (Err e) never blames = λ same. never (blames.0 same)
