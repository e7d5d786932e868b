-- What is known of files that were read.
use Rattle.std.proofs.Common.{◌≡◌, ℕ, inl, inr, List, [], take, Option, Some, None, Result, Ok, Err, refl, ap, ◌∙◌, subst}
use Rattle.std.specs.Prelude.{◌⊎◌, IsErrOf}
use Rattle.std.specs.FinMap.{get}
use Rattle.octets_core.specs.Reading.{GivesUnless}
use Rattle.outside_core.specs.Files.{Files, IsMissing}
use Rattle.input_core.specs.declared.fault.FileFault.{FileFault}
use Rattle.input_core.specs.declared.fault.FileFault.TheVariants as faults
use Rattle.input_core.specs.declared.input.InputFault.{InputFault}
use Rattle.input_core.specs.declared.input.InputFault.TheVariants as reads
use Rattle.input_core.specs.Faults.{of_input}
use Rattle.input_core.specs.Readings.{faulted}
use Rattle.input_core.specs.Inputs.{IsHeld, IsBlamed, IsRead, IsInput}

-- ---- files

held_read : (files : Files) (failed : Option (List ℕ) → Type 0) (name : List ℕ) (held : Option (List ℕ)) → get files name ≡ held → (given : Option (List ℕ)) × IsRead (Some files) failed name given
held_read files failed name None is = (None, inr (files, refl, is))
held_read files failed name (Some bytes) is = (Some bytes, is)

-- a file that need not be read
pub some_read : (told : Option Files) (failed : Option (List ℕ) → Type 0) (name : List ℕ) → (given : Option (List ℕ)) × IsRead told failed name given
some_read None failed name = (Some [], tt)
some_read (Some files) failed name = held_read files failed name (get files name) refl

-- a file that was read later in a call
pub later_read : (told mid : Option Files) (failed other : Option (List ℕ) → Type 0) (name : List ℕ) (given : Option (List ℕ)) → mid ≡ told
    → ((which : Option (List ℕ)) → failed which → other which) → IsRead mid failed name given → IsRead told other name given
later_read told mid failed other name None same wider (inl why) = inl (wider (Some name) why)
later_read told mid failed other name None same wider (inr missing) = inr (subst (λ (t : Option Files). IsMissing t name) same missing)
later_read told mid failed other name (Some bytes) same wider held = subst (λ (t : Option Files). IsRead t other name (Some bytes)) same held

-- ---- which read failed

pub none_failed : {A E : Type 0} (failed : Option (List ℕ) → Type 0) (name : List ℕ) (unread : E) (x : A) → IsBlamed failed name unread (Ok x) → failed None
none_failed failed name unread x (inl none) = none
none_failed {A} {E} failed name unread x (inr (is, why)) = absurd (let h : ◌≡◌ {A = Result A E} (Ok x) (Err unread) = is in cc)

pub blamed_later : {A E : Type 0} (failed other : Option (List ℕ) → Type 0) (name : List ℕ) (unread : E) (r : Result A E)
    → ((which : Option (List ℕ)) → failed which → other which) → IsBlamed failed name unread r → IsBlamed other name unread r
blamed_later failed other name unread r wider (inl none) = inl (wider None none)
blamed_later failed other name unread r wider (inr (is, why)) = inr (is, wider (Some name) why)

-- ---- what a file was read as

-- an input whose read failed
pub unread_input : {A B : Type 0} (told : Option Files) (failed : Option (List ℕ) → Type 0) (name : List ℕ) (read : List ℕ → Result A FileFault) (view : B → A)
    → failed (Some name) ⊎ (IsMissing told name × failed None) → IsInput told failed name read view (Err faults.Unread)
unread_input told failed name read view (inl blamed) = (None, inl blamed, λ refute. refl, inr (refl, blamed))
unread_input told failed name read view (inr (missing, none)) = (None, inr missing, λ refute. refl, inl none)

-- a fault of the bytes that the file holds
pub fault_input : {A B : Type 0} (told : Option Files) (failed : Option (List ℕ) → Type 0) (name bytes : List ℕ) (read : List ℕ → Result A FileFault) (view : B → A) (e : FileFault)
    → failed None → IsRead told failed name (Some bytes) → read bytes ≡ Err e → IsInput {B = B} told failed name read view (Err e)
fault_input told failed name bytes read view e none held is = (Some bytes, held, λ refute. is, inl none)

pub no_memory_input : {A B : Type 0} (told : Option Files) (failed : Option (List ℕ) → Type 0) (name : List ℕ) (read : List ℕ → Result A FileFault) (view : B → A)
    → failed None → IsInput {B = B} told failed name read view (Err faults.NoMemory)
no_memory_input told failed name read view none = let some = some_read told failed name in (some.0, some.1, λ refute. absurd (refute refl), inl none)

-- what the reading of a file says of which read failed
well_read : {T : Type 0} (failed : Option (List ℕ) → Type 0) (r : Result T InputFault) → (r ≡ Err reads.Failed → ⊥) → IsErrOf r reads.Failed ⊎ failed None → failed None
well_read failed r refute (inl is) = absurd (refute is)
well_read failed r refute (inr none) = none

pub input_err : {T A B : Type 0} (told : Option Files) (failed : Option (List ℕ) → Type 0) (name : List ℕ) (read : List ℕ → Result A FileFault) (view : B → A)
    (e : InputFault) → (IsErrOf {T = T} (Err e) reads.Failed → failed (Some name) ⊎ (IsMissing told name × failed None))
    → IsErrOf {T = T} (Err e) reads.Failed ⊎ failed None → IsInput told failed name read view (Err (of_input e))
input_err told failed name read view reads.Failed why unblamed = unread_input told failed name read view (why refl)
input_err {T} told failed name read view reads.NoMemory why unblamed =
    no_memory_input told failed name read view
    (well_read {T = T} failed (Err reads.NoMemory) (λ h. let g : ◌≡◌ {A = Result T InputFault} (Err reads.NoMemory) (Err reads.Failed) = h in cc) unblamed)

-- a file of which these bytes are enough to read it
pub input_value : {T A B : Type 0} (told : Option Files) (failed : Option (List ℕ) → Type 0) (name bytes : List ℕ) (read : List ℕ → Result A FileFault) (view : B → A)
    (r : Result B FileFault) (x : T) → IsHeld told name (λ file. read bytes ≡ read file) → IsErrOf (Ok x) reads.Failed ⊎ failed None
    → GivesUnless faults.NoMemory view r (read bytes) → IsInput told failed name read view r
input_value {T} None failed name bytes read view r x held unblamed gives =
    (Some bytes, tt, gives, inl (well_read failed (Ok x) (λ h. let g : ◌≡◌ {A = Result T InputFault} (Ok x) (Err reads.Failed) = h in cc) unblamed))
input_value {T} {A} (Some files) failed name bytes read view r x (file, there, same) unblamed gives = (
  Some file,
  there,
  subst (λ (given : Result A FileFault). GivesUnless faults.NoMemory view r given) same gives,
  inl (well_read failed (Ok x) (λ h. let g : ◌≡◌ {A = Result T InputFault} (Ok x) (Err reads.Failed) = h in cc) unblamed),
)

-- the bytes up to so many are enough
enough : {A : Type 0} (told : Option Files) (name bytes : List ℕ) (most : ℕ) (read : List ℕ → Result A FileFault) → ((file : List ℕ) → read (take most file) ≡ read file)
    → IsHeld told name (λ file. bytes ≡ take most file) → IsHeld told name (λ file. read bytes ≡ read file)
enough None name bytes most read front held = tt
enough (Some files) name bytes most read front (file, there, is) = (file, there, ap read is ∙ front file)

pub input_front : {T A B : Type 0} (told : Option Files) (failed : Option (List ℕ) → Type 0) (name bytes : List ℕ) (most : ℕ) (read : List ℕ → Result A FileFault) (view : B → A)
    (r : Result B FileFault) (x : T) → ((file : List ℕ) → read (take most file) ≡ read file) → IsHeld told name (λ file. bytes ≡ take most file)
    → IsErrOf (Ok x) reads.Failed ⊎ failed None → GivesUnless faults.NoMemory view r (read bytes) → IsInput told failed name read view r
input_front told failed name bytes most read view r x front held unblamed gives =
    input_value told failed name bytes read view r x (enough told name bytes most read front held) unblamed gives

-- all bytes are enough
all_are : {A : Type 0} (told : Option Files) (name bytes : List ℕ) (read : List ℕ → Result A FileFault) → IsHeld told name (λ file. bytes ≡ file) → IsHeld told name (λ file. read bytes ≡ read file)
all_are None name bytes read held = tt
all_are (Some files) name bytes read (file, there, is) = (file, there, ap read is)

pub input_whole : {T A B : Type 0} (told : Option Files) (failed : Option (List ℕ) → Type 0) (name bytes : List ℕ) (read : List ℕ → Result A FileFault) (view : B → A)
    (r : Result B FileFault) (x : T) → IsHeld told name (λ file. bytes ≡ file) → IsErrOf (Ok x) reads.Failed ⊎ failed None
    → GivesUnless faults.NoMemory view r (read bytes) → IsInput told failed name read view r
input_whole told failed name bytes read view r x held unblamed gives = input_value told failed name bytes read view r x (all_are told name bytes read held) unblamed gives

pub faulted_ok : {A B E : Type 0} (fault : E → FileFault) (view : B → A) (x : B) (spec : Result A E) → spec ≡ Ok (view x) → GivesUnless faults.NoMemory view (Ok x) (faulted fault spec)
faulted_ok fault view x spec is = ap (faulted fault) is

pub faulted_err : {A B E : Type 0} (fault : E → FileFault) (none e : E) (view : B → A) (spec : Result A E) → fault none ≡ faults.NoMemory → ((e ≡ none → ⊥) → spec ≡ Err e)
    → GivesUnless faults.NoMemory view (Err (fault e)) (faulted fault spec)
faulted_err fault none e view spec same is = λ refute. ap (faulted fault) (is (λ h. refute (ap fault h ∙ same)))
