-- Files that are fed piece by piece.
use Rattle.std.proofs.Common.{◌≡◌, ℕ, ◌+◌, ◌≤◌, ◌<◌, ◌^◌, ◌-◌, List, [], ◌++◌, length, take, Option, Some, None, Result, Ok, Err}
use Rattle.std.proofs.Common.{refl, sym, ap, subst, ◌∙◌, arith, inl, inr}
use Rattle.octets_core.specs.Reading.{fault_at}
use Rattle.octets_core.specs.declared.field.Field.TheVariants as fields
use Rattle.octets_core.specs.declared.fault.Why.TheVariants as why
use Rattle.outside_core.specs.Files.{Files}
use Rattle.outside_core.specs.Feeding.{Offers}
use Rattle.outside_core.specs.Reads.{CouldNotRead}
use Rattle.input_core.specs.declared.fault.FileFault.{FileFault}
use Rattle.input_core.specs.declared.fault.FileFault.TheVariants as faults
use Rattle.input_core.specs.Fed.{IsFed}
use Rattle.input_core.specs.Inputs.{IsRead, IsInput}
use Rattle.input_core.proofs.FilesRead.{unread_input}
use Rattle.input_core.proofs.Taken.{AreTaken, begins-so, taken-next, taken-whole}

-- a file of which these bytes were taken, for which its reader stands
pub record Taken (told : Option Files) (name : List ℕ) (Stands : List ℕ → Type 0) (at : ℕ) : Type 0 where
  pub bytes : List ℕ
  pub stands : Stands bytes
  pub taken : AreTaken told name bytes at

-- all of the piece was taken
pub more-taken : (told : Option Files) (name w : List ℕ) (Old New : List ℕ → Type 0) (at n to : ℕ) → Taken told name Old at → Offers told name at w → n ≤ length w → to ≡ at + n
    → ((b : List ℕ) → Old b → New (b ++ take n w)) → Taken told name New to
more-taken told name w Old New at n to t offers le is more = record {
  bytes = t.bytes ++ take n w;
  stands = more t.bytes t.stands;
  taken = (taken-next told name t.bytes (t.bytes ++ take n w) w at n to t.taken offers le is refl).0;
}

-- ---- what came of it

module _ {A : Type 0} (told : Option Files) (failed : Option (List ℕ) → Type 0) (name : List ℕ) (reads : List ℕ → Result A FileFault → Type 0) where
  -- a read failed
  pub fed-unread : CouldNotRead told failed name → IsFed told failed name reads (Err faults.Unread)
  fed-unread (inl blamed) = (None, inl blamed, refl, inr (refl, blamed))
  fed-unread (inr (missing, none)) = (None, inr missing, refl, inl none)

  -- what each file is read as that begins with the piece behind those that were taken
  pub fed-front : (Stands : List ℕ → Type 0) (w : List ℕ) (at : ℕ) (r : Result A FileFault) → (t : Taken told name Stands at) → Offers told name at w → failed None
      → ((x : List ℕ) → reads (t.bytes ++ w ++ x) r) → IsFed told failed name reads r
  fed-front Stands w at r t offers none each =
      let f = begins-so told failed name t.bytes w at t.taken offers in
      (Some f.bytes, f.read, subst (λ (l : List ℕ). reads l r) (sym f.is) (each f.rest), inl none)

  -- the same where it leaves bytes
  pub fed-behind : (Stands : List ℕ → Type 0) (w : List ℕ) (at n to : ℕ) → (t : Taken told name Stands at) → Offers told name at w → failed None → to ≡ at + n
      → ((x : List ℕ) → reads (t.bytes ++ w ++ x) (Err (faults.Layout (fault_at why.Value fields.End (length t.bytes + n)))))
      → IsFed told failed name reads (Err (faults.Layout (fault_at why.Value fields.End to)))
  fed-behind Stands w at n to t offers none is each =
      let place : length t.bytes + n ≡ to = omega (arith, t.taken.place, is) in
      fed-front Stands w at _ t offers none (subst (λ (i : ℕ). (x : List ℕ) → reads (t.bytes ++ w ++ x) (Err (faults.Layout (fault_at why.Value fields.End i)))) place each)

  held-whole : (t : Option Files) (b : List ℕ) (at : ℕ) → AreTaken t name b at → Offers t name at [] → at < 2 ^ 64 - 1 → IsRead t failed name (Some b)
  held-whole None b at t offers few = tt
  held-whole (Some files) b at t offers few = let (file, there, is) = taken-whole (Some files) name b at t offers few in there ∙ ap (λ (l : List ℕ). Some l) (sym is)

  -- all of the file came
  pub fed-whole : (Stands : List ℕ → Type 0) (at : ℕ) (r : Result A FileFault) → (t : Taken told name Stands at) → Offers told name at [] → failed None
      → length t.bytes < 2 ^ 64 - 1 → reads t.bytes r → IsFed told failed name reads r
  fed-whole Stands at r t offers none few read = (Some t.bytes, held-whole told t.bytes at t.taken offers (omega (arith, few, t.taken.place)), read, inl none)

-- ---- as an input

pub input-value : {A B X : Type 0} (told : Option Files) (failed : Option (List ℕ) → Type 0) (name : List ℕ) (reads : List ℕ → Result X FileFault → Type 0)
    (read : List ℕ → Result A FileFault) (view : B → A) (x : X) (y : B) → ((bytes : List ℕ) → reads bytes (Ok x) → read bytes ≡ Ok (view y))
    → IsFed told failed name reads (Ok x) → IsInput told failed name read view (Ok y)
input-value {A} {B} {X} told failed name reads read view x y is (None, held, h, blamed) = absurd (let k : ◌≡◌ {A = Result X FileFault} (Ok x) (Err faults.Unread) = h in cc)
input-value told failed name reads read view x y is (Some bytes, held, h, inl none) = (Some bytes, held, is bytes h, inl none)
input-value {A} {B} {X} told failed name reads read view x y is (Some bytes, held, h, inr (not, why)) =
    absurd (let k : ◌≡◌ {A = Result X FileFault} (Ok x) (Err faults.Unread) = not in cc)

pub input-fault : {A B X : Type 0} (told : Option Files) (failed : Option (List ℕ) → Type 0) (name : List ℕ) (reads : List ℕ → Result X FileFault → Type 0)
    (read : List ℕ → Result A FileFault) (view : B → A) (e : FileFault) → ((bytes : List ℕ) → reads bytes (Err e) → (e ≡ faults.NoMemory → ⊥) → read bytes ≡ Err e)
    → IsFed told failed name reads (Err e) → IsInput {B = B} told failed name read view (Err e)
input-fault {A} {B} {X} told failed name reads read view e is (given, held, h, inr (not, why)) =
    let same : e ≡ faults.Unread = (let k : ◌≡◌ {A = Result X FileFault} (Err e) (Err faults.Unread) = not in cc) in
    subst (λ (f : FileFault). IsInput {B = B} told failed name read view (Err f)) (sym same) (unread_input told failed name read view (inl why))
input-fault {A} {B} {X} told failed name reads read view e is (Some bytes, held, h, inl none) = (Some bytes, held, is bytes h, inl none)
input-fault {A} {B} {X} told failed name reads read view e is (None, held, h, inl none) =
    let same : e ≡ faults.Unread = (let k : ◌≡◌ {A = Result X FileFault} (Err e) (Err faults.Unread) = h in cc) in
    (None, held, (λ refute. ap (λ (f : FileFault). Err f) (sym same)), inl none)
