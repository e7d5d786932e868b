-- What is read as a store is a chain of 1 to 64 parts.
use Rattle.std.proofs.Common.{◌≡◌, ℕ, zero, suc, ◌-◌, ◌<◌, List, [], ◌∷◌, ◌++◌, length, Option, Some, None, Result, Ok, Err, inl, inr, refl, subst, arith}
use Rattle.std.specs.Prelude.{All, codes}
use Rattle.std.specs.Int.{w8}
use Rattle.std.proofs.lemmas.Bool.{cases_lt}
use Rattle.std.proofs.lemmas.List.{get_or_past}
use Rattle.octets_core.specs.Layout.{Layout}
use Rattle.octets_core.specs.Reading.{magic, number, end, value_of}
use Rattle.octets_core.specs.declared.field.Field.TheVariants as fields
use Rattle.octets_core.proofs.Fields.{ok_is}
use Rattle.octets_core.proofs.Texts.{IsBytes, Leaves, ◌>>-◌, whole-leaves}
use Rattle.ident_core.specs.declared.kind.Kind.{Kind}
use Rattle.ident_core.specs.declared.kind.Kind.TheVariants as kinds
use Rattle.part_text.specs.SealedFields.{SealedFields}
use Rattle.part_text.specs.Fitting.{Fits}
use Rattle.store_core.specs.declared.chain.Refusal.{Refusal}
use Rattle.store_core.specs.declared.fault.StoreFault.{StoreFault}
use Rattle.store_core.specs.Chain.{IsStore, refusal_of}
use Rattle.store_core.specs.StoreLayout.{fielded, begins, first_part, takes, chain, store_parts, store, store_text}
use Rattle.store_core.proofs.Growing.{taken-store}
use Rattle.store_core.proofs.StoreSpelled.{found}

-- nothing is asked of what is read
any-leaves : {E A : Type 0} (layout : Layout E A) (bytes : List ℕ) (at : ℕ) → Leaves layout bytes at (λ x end. Unit {0})
any-leaves layout bytes at = record { each = λ x h. tt }

begins-leaves : (k : Kind) (bytes : List ℕ) (at : ℕ) → Leaves (begins k) bytes at (λ t end. k ≡ kinds.Snapshot)
begins-leaves kinds.Snapshot bytes at = whole-leaves tt bytes at _ refl
begins-leaves kinds.Delta bytes at = record { each = λ x h. absurd cc }

takes-leaves : (o : Option Refusal) (bytes : List ℕ) (at : ℕ) → Leaves (takes o) bytes at (λ t end. o ≡ None)
takes-leaves None bytes at = whole-leaves tt bytes at _ refl
takes-leaves (Some why) bytes at = record { each = λ x h. absurd cc }

first_part-leaves : (bytes : List ℕ) (at : ℕ) → Leaves first_part bytes at (λ parts end. IsStore parts)
unfolding first_part
first_part-leaves bytes at =
    any-leaves _ bytes at >>- λ s p a.
    begins-leaves s.part.head.kind bytes p >>- λ t q b.
    whole-leaves (s ∷ []) bytes q _ (record { chain = (b, tt); some = omega arith; few = omega arith })

chain-leaves : (n : ℕ) (parts : List SealedFields) (bytes : List ℕ) (at : ℕ) → IsStore parts → Leaves (chain n parts) bytes at (λ list end. IsStore list)
unfolding chain
chain-leaves zero parts bytes at is = whole-leaves parts bytes at _ is
chain-leaves (suc n) parts bytes at is =
    any-leaves _ bytes at >>- λ s p a.
    takes-leaves (refusal_of parts s) bytes p >>- λ t q b.
    chain-leaves n (parts ++ s ∷ []) bytes q (taken-store parts s is b)

store_parts-leaves : (bytes : List ℕ) → Leaves store_parts bytes 0 (λ parts end. IsStore parts)
unfolding store_parts
store_parts-leaves bytes =
    any-leaves (fielded (magic fields.StoreMagic (codes "CLUBSTOR"))) bytes 0 >>- λ begin p a.
    any-leaves (fielded (number fields.StoreVersion w8 1 1)) bytes p >>- λ version q b.
    any-leaves (fielded (number fields.StoreCount w8 1 64)) bytes q >>- λ count r c.
    first_part-leaves bytes r >>- λ first s d.
    chain-leaves (count - 1) first bytes s d

store-leaves : (bytes : List ℕ) → Leaves store bytes 0 (λ parts end. IsStore parts)
unfolding store
store-leaves bytes =
    store_parts-leaves bytes >>- λ parts u e.
    any-leaves (fielded end) bytes u >>- λ nothing v f.
    whole-leaves parts bytes v _ e

is-store : (parts : List SealedFields) (r : Result (List SealedFields × ℕ) StoreFault) → ((x : List SealedFields × ℕ) → r ≡ Ok x → IsStore x.0) → value_of r ≡ Ok parts → IsStore parts
is-store parts (Ok x) each h = subst IsStore (ok_is {E = StoreFault} x.0 parts h) (each x refl)
is-store parts (Err e) each h = absurd cc

pub store-chain : (bytes : List ℕ) (parts : List SealedFields) → value_of (store bytes 0) ≡ Ok parts → IsStore parts
store-chain bytes parts h = is-store parts (store bytes 0) (store-leaves bytes).each h

bytes-are : (bytes : List ℕ) → All (λ b. b < 256) bytes → IsBytes bytes
bytes-are bytes all i = elim (cases_lt i (length bytes)) [ inl lt ↦ all i 0 lt | inr le ↦ rw (get_or_past bytes i 0 le) (omega arith) ]

pub store-found : (bytes : List ℕ) (parts : List SealedFields) → All (λ b. b < 256) bytes → value_of (store bytes 0) ≡ Ok parts → (bytes ≡ store_text parts) × All Fits parts
store-found bytes parts all h = found bytes parts (store bytes 0) (bytes-are bytes all) refl h
