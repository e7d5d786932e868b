-- Whether bytes are a store, from the parts that were read in them.
use Rattle.std.proofs.Common.{◌≡◌, ℕ, ◌+◌, ◌-◌, ◌<◌, ◌≤◌, List, [], ◌∷◌, length, Result, Ok, Err, refl, sym, ap, ◌∙◌, subst, arith}
use Rattle.std.proofs.lemmas.Bool.{lt-ltb, le-ltb}
use Rattle.std.specs.Prelude.{codes}
use Rattle.std.specs.Int.{w8}
use Rattle.ident_core.specs.declared.bounds.TheConstants.{MAX_PARTS}
use Rattle.octets_core.specs.Layout.{Layout, then_read, ◌>>=◌, whole, with_fault}
use Rattle.octets_core.specs.Reading.{magic, number, fault_at, value_of}
use Rattle.octets_core.specs.declared.fault.LayoutFault.{LayoutFault}
use Rattle.octets_core.specs.declared.fault.Why.TheVariants as why
use Rattle.octets_core.specs.declared.field.Field.TheVariants as fields
use Rattle.part_text.specs.SealedFields.{SealedFields}
use Rattle.store_core.specs.Chain.{newest_of}
use Rattle.store_core.specs.StoreLayout.{store, store_parts, first_part, chain, fielded}
use Rattle.store_core.specs.declared.fault.StoreFault.{StoreFault}
use Rattle.store_core.specs.declared.fault.StoreFault.TheVariants as faults
use Rattle.store_core.specs.Newest.{epoch_of}
use Rattle.view_core.specs.Checking.{store_head, noted_store, ReadsParts, ReadsStore}
use Rattle.view_core.specs.Scanning.{IsNewestAt, ReadsFirst, ReadsChain, end_of}
use Rattle.view_core.specs.declared.scan.ReadPart.{ReadPart}
use Rattle.view_core.proofs.Chains.{epoch_is}

-- a field under the store's faults, and then others
under : {A B C : Type 0} (r : Result (A × ℕ) LayoutFault) (next : A → Layout LayoutFault B) (more : A → Layout StoreFault C) (last : B → Layout StoreFault C) (bytes : List ℕ)
    → ((x : A) (p : ℕ) → more x bytes p ≡ then_read (with_fault faults.Layout (next x bytes p)) last bytes)
    → then_read (with_fault faults.Layout r) more bytes ≡ then_read (with_fault faults.Layout (then_read r next bytes)) last bytes
under (Ok x) next more last bytes h = h x.0 x.1
under (Err e) next more last bytes h = refl

abbrev parts_behind : ℕ → Layout StoreFault (List SealedFields)
parts_behind count = first_part >>= λ first. chain (count - 1) first

abbrev version : Layout LayoutFault ℕ
version = number fields.StoreVersion w8 1 1

abbrev count : Layout LayoutFault ℕ
count = number fields.StoreCount w8 1 MAX_PARTS

by_head : (bytes : List ℕ) → store_parts bytes 0 ≡ then_read (with_fault faults.Layout (store_head bytes 0)) parts_behind bytes
unfolding store_parts store_head
by_head bytes =
    under {A = List ℕ} {B = ℕ} (magic fields.StoreMagic (codes "CLUBSTOR") bytes 0) (λ begin. version >>= λ v. count >>= λ n. whole n)
    (λ begin. fielded version >>= λ v. fielded count >>= parts_behind) parts_behind bytes (λ x p.
    under {A = ℕ} {B = ℕ} (version bytes p) (λ v. count >>= λ n. whole n) (λ v. fielded count >>= parts_behind) parts_behind bytes (λ y q.
    under {A = ℕ} {B = ℕ} (count bytes q) (λ n. whole n) parts_behind parts_behind bytes (λ z r. refl)))

pub head_refused : (bytes : List ℕ) (e : LayoutFault) → store_head bytes 0 ≡ Err e → store_parts bytes 0 ≡ Err (faults.Layout e)
head_refused bytes e is = by_head bytes ∙ ap (λ (r : Result (ℕ × ℕ) LayoutFault). then_read (with_fault faults.Layout r) parts_behind bytes) is

head_read : (bytes : List ℕ) (n at : ℕ) → store_head bytes 0 ≡ Ok (n, at) → store_parts bytes 0 ≡ parts_behind n bytes at
head_read bytes n at is = by_head bytes ∙ ap (λ (r : Result (ℕ × ℕ) LayoutFault). then_read (with_fault faults.Layout r) parts_behind bytes) is

pub first_refused : (bytes : List ℕ) (n at : ℕ) (e : StoreFault) → store_head bytes 0 ≡ Ok (n, at) → ReadsFirst bytes at (Err e) → store_parts bytes 0 ≡ Err e
first_refused bytes n at e head one = head_read bytes n at head ∙ ap (λ (r : Result (List SealedFields × ℕ) StoreFault). then_read r (chain (n - 1)) bytes) one

pub last_read : (bytes : List ℕ) (n at : ℕ) (first last : ReadPart) → 1 ≤ n → store_head bytes 0 ≡ Ok (n, at) → (one : ReadsFirst bytes at (Ok first))
    → ReadsChain (n - 1) (one.0 ∷ []) bytes (end_of first) (Ok last) → ReadsParts bytes (Ok (n, last))
last_read bytes n at first last some head (s, one, of) (parts, others, newest) =
    let all : n - 1 + 1 ≡ n = omega (arith, some) in (
      parts,
      head_read bytes n at head ∙ ap (λ (r : Result (List SealedFields × ℕ) StoreFault). then_read r (chain (n - 1)) bytes) one ∙ others,
      subst (IsNewestAt bytes last parts) all newest,
    )

pub last_refused : (bytes : List ℕ) (n at : ℕ) (first : ReadPart) (e : StoreFault) → store_head bytes 0 ≡ Ok (n, at) → (one : ReadsFirst bytes at (Ok first))
    → ReadsChain (n - 1) (one.0 ∷ []) bytes (end_of first) (Err e) → store_parts bytes 0 ≡ Err e
last_refused bytes n at first e head (s, one, of) others = head_read bytes n at head ∙ ap (λ (r : Result (List SealedFields × ℕ) StoreFault). then_read r (chain (n - 1)) bytes) one ∙ others

-- ---- the end

pub store_refused : (bytes : List ℕ) (e : StoreFault) → store_parts bytes 0 ≡ Err e → value_of (store bytes 0) ≡ Err e
unfolding store
store_refused bytes e is = rw is refl

pub store_longer : (bytes : List ℕ) (parts : List SealedFields) (end : ℕ) → store_parts bytes 0 ≡ Ok (parts, end) → end < length bytes
    → value_of (store bytes 0) ≡ Err (faults.Layout (fault_at why.Value fields.End end))
unfolding store
store_longer bytes parts end is more = rw (is, lt-ltb end (length bytes) more) refl

store_whole : (bytes : List ℕ) (parts : List SealedFields) (end : ℕ) → store_parts bytes 0 ≡ Ok (parts, end) → length bytes ≤ end → value_of (store bytes 0) ≡ Ok parts
unfolding store
store_whole bytes parts end is all = rw (is, le-ltb end (length bytes) all) refl

pub store_read : (bytes : List ℕ) (n : ℕ) (newest : ReadPart) → ReadsParts bytes (Ok (n, newest)) → length bytes ≤ end_of newest → ReadsStore bytes (Ok (n, newest))
store_read bytes n newest (parts, read, of) all = (parts, store_whole bytes parts (end_of newest) read all, of)

pub store_noted : (bytes : List ℕ) (n : ℕ) (newest : ReadPart) → ReadsStore bytes (Ok (n, newest))
    → Ok (record { parts = n; newest_epoch = newest.note.epoch }) ≡ noted_store (value_of (store bytes 0))
store_noted bytes n newest (parts, read, of) =
    let epoch : epoch_of (newest_of parts) ≡ newest.note.epoch = ap epoch_of of.newest_is ∙ sym (epoch_is bytes newest of.newest of.read_is) in
    sym (ap noted_store read ∙ rw (of.count_is, epoch) refl)
