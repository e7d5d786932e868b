-- A chain that is read part by part.
use Rattle.std.proofs.Common.{◌≡◌, ℕ, suc, List, [], ◌∷◌, ◌++◌, Some, None, Result, Ok, Err, refl, ap, ◌∙◌}
use Rattle.octets_core.specs.Layout.{Layout, then_read, ◌>>=◌, embedded}
use Rattle.ident_core.specs.declared.kind.Kind.TheVariants as kinds
use Rattle.part_text.specs.SealedFields.{SealedFields}
use Rattle.part_text.specs.PartLayout.{part}
use Rattle.store_core.specs.declared.chain.Refusal.{Refusal}
use Rattle.store_core.specs.declared.fault.StoreFault.{StoreFault}
use Rattle.store_core.specs.declared.fault.StoreFault.TheVariants as faults
use Rattle.store_core.specs.declared.store.StartFault.{StartFault}
use Rattle.store_core.specs.declared.store.StartFault.TheVariants as starts
use Rattle.store_core.specs.Chain.{refusal_of}
use Rattle.store_core.specs.Starting.{IsNotBegun, fault_of_start}
use Rattle.store_core.specs.StoreLayout.{moved, first_part, chain}

-- one field, and what follows it
pub step : {E A B : Type 0} (first : Layout E A) (next : A → Layout E B) (bytes : List ℕ) (at : ℕ) (x : A) (p : ℕ) (r : Result (B × ℕ) E)
    → first bytes at ≡ Ok (x, p) → next x bytes p ≡ r → (first >>= next) bytes at ≡ r
step {E} {A} {B} first next bytes at x p r one rest = ap (λ (t : Result (A × ℕ) E). then_read t next bytes) one ∙ rest

pub fails : {E A B : Type 0} (first : Layout E A) (next : A → Layout E B) (bytes : List ℕ) (at : ℕ) (e : E) → first bytes at ≡ Err e → (first >>= next) bytes at ≡ Err e
fails {E} {A} {B} first next bytes at e one = ap (λ (t : Result (A × ℕ) E). then_read t next bytes) one

-- ---- the first part

first-part : (bytes : List ℕ) (at : ℕ) (s : SealedFields) (end : ℕ) → embedded moved part bytes at ≡ Ok (s, end) → s.part.head.kind ≡ kinds.Snapshot → first_part bytes at ≡ Ok (s ∷ [], end)
unfolding first_part
first-part bytes at s end one kind = step (embedded moved part) _ bytes at s end _ one (rw kind refl)

first-delta : (bytes : List ℕ) (at : ℕ) (s : SealedFields) (end : ℕ) → embedded moved part bytes at ≡ Ok (s, end) → s.part.head.kind ≡ kinds.Delta → first_part bytes at ≡ Err faults.NotSnapshot
unfolding first_part
first-delta bytes at s end one kind = step (embedded moved part) _ bytes at s end _ one (rw kind refl)

pub first-fault : (bytes : List ℕ) (at : ℕ) (e : StoreFault) → embedded moved part bytes at ≡ Err e → first_part bytes at ≡ Err e
unfolding first_part
first-fault bytes at e one = fails (embedded moved part) _ bytes at e one

pub not-begun : (bytes : List ℕ) (at : ℕ) (s : SealedFields) (end : ℕ) (f : StartFault) → embedded moved part bytes at ≡ Ok (s, end) → IsNotBegun s f
    → (fault_of_start f ≡ faults.NoMemory → ⊥) → first_part bytes at ≡ Err (fault_of_start f)
not-begun bytes at s end (starts.NotSnapshot given) one is = λ wants. first-delta bytes at s end one is.1
not-begun bytes at s end (starts.NoMemory given) one is = λ wants. absurd (wants refl)

pub is-begun : (bytes : List ℕ) (at : ℕ) (s : SealedFields) (end : ℕ) (parts : List SealedFields) → embedded moved part bytes at ≡ Ok (s, end) → s.part.head.kind ≡ kinds.Snapshot → parts ≡ s ∷ []
    → first_part bytes at ≡ Ok (parts, end)
is-begun bytes at s end parts one kind is = rw is (first-part bytes at s end one kind)

-- ---- the parts behind it

pub next-part : (n : ℕ) (parts : List SealedFields) (bytes : List ℕ) (at : ℕ) (s : SealedFields) (end : ℕ) → embedded moved part bytes at ≡ Ok (s, end) → refusal_of parts s ≡ None
    → chain (suc n) parts bytes at ≡ chain n (parts ++ s ∷ []) bytes end
unfolding chain
next-part n parts bytes at s end one none = step (embedded moved part) _ bytes at s end _ one (rw none refl)

pub next-refused : (n : ℕ) (parts : List SealedFields) (bytes : List ℕ) (at : ℕ) (s : SealedFields) (end : ℕ) (why : Refusal) → embedded moved part bytes at ≡ Ok (s, end) → refusal_of parts s ≡ Some why
    → chain (suc n) parts bytes at ≡ Err (faults.Refused why)
unfolding chain
next-refused n parts bytes at s end why one refused = step (embedded moved part) _ bytes at s end _ one (rw refused refl)
