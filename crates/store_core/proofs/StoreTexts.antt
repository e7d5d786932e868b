-- The text of a chain is read as that chain.
use Rattle.std.proofs.Common.{◌≡◌, ℕ, suc, ◌+◌, ◌-◌, ◌≤◌, ◌^◌, List, [], ◌∷◌, ◌++◌, length, Option, None, Ok, refl, sym, ap, ◌∙◌, subst, append_assoc, length-append, arith}
use Rattle.std.specs.Prelude.{All, codes, flat_map}
use Rattle.std.specs.Int.{w8, to_be_bytes}
use Rattle.std.specs.Str.{bytes_eq}
use Rattle.std.proofs.lemmas.Bool.{le-ltb}
use Rattle.std.proofs.lemmas.List.{append-nil}
use Rattle.octets_core.specs.Layout.{◌>>=◌, whole, embedded}
use Rattle.octets_core.specs.Reading.{end, value_of}
use Rattle.octets_core.proofs.Texts.{IsRead, whole-read, then-read, reads, from_front, ends-read, bytes_field-read, number_field-read, embedded-read, mapped-read, wide8}
use Rattle.ident_core.specs.declared.kind.Kind.{Kind}
use Rattle.ident_core.specs.declared.kind.Kind.TheVariants as kinds
use Rattle.part_text.specs.SealedFields.{SealedFields}
use Rattle.part_text.specs.PartLayout.{part}
use Rattle.part_text.specs.PartText.{spelling}
use Rattle.part_text.specs.Fitting.{Fits}
use Rattle.part_text.proofs.PartTexts.{part-read}
use Rattle.store_core.specs.declared.chain.Refusal.{Refusal}
use Rattle.store_core.specs.declared.fault.StoreFault.{StoreFault}
use Rattle.store_core.specs.declared.fault.StoreFault.TheVariants as faults
use Rattle.store_core.specs.Chain.{IsChain, refusal_of}
use Rattle.store_core.specs.StoreLayout.{moved, fielded, begins, first_part, takes, chain, store_parts, store, store_text}
use Rattle.store_core.proofs.Growing.{chain-front, chain-taken}
use Rattle.store_core.proofs.Reading.{step}

placed-read : (before : List ℕ) (s : SealedFields) → Fits s → IsRead (embedded moved part) before s (spelling s)
placed-read before s fits = embedded-read moved part before s (spelling s) (part-read s fits)

begins-read : (before : List ℕ) (k : Kind) → k ≡ kinds.Snapshot → IsRead (begins k) before (tt {0}) []
begins-read before k is = subst (λ (x : Kind). IsRead (begins x) before (tt {0}) []) (sym is) (whole-read before tt)

takes-read : (before : List ℕ) (o : Option Refusal) → o ≡ None → IsRead (takes o) before (tt {0}) []
takes-read before o is = subst (λ (x : Option Refusal). IsRead (takes x) before (tt {0}) []) (sym is) (whole-read before tt)

pub first_part-read : (before : List ℕ) (s : SealedFields) → Fits s → s.part.head.kind ≡ kinds.Snapshot → IsRead first_part before (s ∷ []) (spelling s)
unfolding first_part
first_part-read before s fits kind =
    subst (λ (text : List ℕ). IsRead first_part before (s ∷ []) text) (append-nil (spelling s))
    (then-read (embedded moved part) (λ x. begins x.part.head.kind >>= λ snapshot. whole (x ∷ [])) before s (s ∷ []) (spelling s) [] (placed-read before s fits)
    (ends-read (λ snapshot. s ∷ []) (begins-read (before ++ spelling s) s.part.head.kind kind)))

all_later : (s : SealedFields) (others : List SealedFields) → All Fits (s ∷ others) → All Fits others
all_later s others all = λ k d lt. all (suc k) d (omega arith)

pub chain-read : (parts others : List SealedFields) → IsChain (parts ++ others) → 1 ≤ length parts → length parts + length others ≤ 64 → All Fits others → (before : List ℕ)
    → IsRead (chain (length others) parts) before (parts ++ others) (flat_map spelling others)
unfolding chain
chain-read parts [] is some few fits before = subst (λ (list : List SealedFields). IsRead {E = StoreFault} (whole parts) before list []) (sym (append-nil parts)) (whole-read before parts)
chain-read parts (s ∷ others) is some few fits before =
    let again : parts ++ (s ∷ others) ≡ (parts ++ s ∷ []) ++ others = sym (append_assoc parts (s ∷ []) others) in
    let longer : IsChain ((parts ++ s ∷ []) ++ others) = subst IsChain again is in
    let none : refusal_of parts s ≡ None = chain-taken parts s (chain-front (parts ++ s ∷ []) others longer) some (omega arith) in
    let len = length-append parts (s ∷ []) in
    subst (λ (list : List SealedFields). IsRead (chain (suc (length others)) parts) before list (spelling s ++ flat_map spelling others)) (sym again)
    (then-read (embedded moved part) (λ x. takes (refusal_of parts x) >>= λ taken. chain (length others) (parts ++ x ∷ [])) before s
    ((parts ++ s ∷ []) ++ others) (spelling s) (flat_map spelling others)
    (placed-read before s (fits 0 s (omega arith)))
    (then-read (takes (refusal_of parts s)) (λ taken. chain (length others) (parts ++ s ∷ [])) (before ++ spelling s) tt ((parts ++ s ∷ []) ++ others) [] (flat_map spelling others)
    (takes-read (before ++ spelling s) (refusal_of parts s) none)
    (chain-read (parts ++ s ∷ []) others longer (omega arith) (omega arith) (all_later s others fits) ((before ++ spelling s) ++ []))))

less_one : (n : ℕ) → suc n - 1 ≡ n
less_one n = omega arith

store_parts-read : (first : SealedFields) (others : List SealedFields) → IsChain (first ∷ others) → length (first ∷ others) ≤ 64 → All Fits (first ∷ others)
    → IsRead store_parts [] (first ∷ others) (store_text (first ∷ others))
unfolding store_parts store_text
store_parts-read first others is few fits =
    let rest : IsRead (chain (length (first ∷ others) - 1) (first ∷ []))
    ((((([] ++ codes "CLUBSTOR") ++ to_be_bytes w8 1) ++ to_be_bytes w8 (length (first ∷ others))) ++ spelling first)) (first ∷ others)
    (flat_map spelling others)
    = rw (less_one (length others)) (chain-read (first ∷ []) others is (omega arith) (omega arith) (all_later first others fits) _) in
    from_front
    (reads _ (mapped-read faults.Layout _ _ _ _ (bytes_field-read _ _ 8 (bytes_eq (codes "CLUBSTOR")) _ (codes "CLUBSTOR") refl refl))
    (reads _ (mapped-read faults.Layout _ _ _ _ (number_field-read _ _ w8 (2 ^ 8) 1 1 wide8 _ 1 (omega arith) (omega arith) (omega arith)))
    (reads _ (mapped-read faults.Layout _ _ _ _ (number_field-read _ _ w8 (2 ^ 8) 1 64 wide8 _ (length (first ∷ others)) (omega arith) few (omega arith)))
    (reads _ (first_part-read _ first (fits 0 first (omega arith)) is.0)
    (record {
      more = flat_map spelling others;
      is = sym (append_assoc (((codes "CLUBSTOR") ++ to_be_bytes w8 1) ++ to_be_bytes w8 (length (first ∷ others)))
          (spelling first) (flat_map spelling others));
      read = rest;
    })))))

nothing_left : (bytes : List ℕ) (at : ℕ) → at ≡ length bytes → fielded end bytes at ≡ Ok (tt {0}, at)
nothing_left bytes at is = rw (le-ltb at (length bytes) (omega arith)) refl

pub store-again : (parts : List SealedFields) → IsChain parts → 1 ≤ length parts → length parts ≤ 64 → All Fits parts → store (store_text parts) 0 ≡ Ok (parts, length (store_text parts))
unfolding store
store-again [] is some few fits = absurd (omega arith)
store-again (first ∷ others) is some few fits =
    let text = store_text (first ∷ others) in
    let none_before : 0 + length (store_text (first ∷ others)) ≡ length (store_text (first ∷ others)) = omega arith in
    let read : store_parts (store_text (first ∷ others) ++ []) 0 ≡ Ok (first ∷ others, length (store_text (first ∷ others)))
    = (store_parts-read first others is few fits).each [] ∙ ap (λ (n : ℕ). Ok (first ∷ others, n)) none_before in
    step store_parts _ text 0 (first ∷ others) (length text) _
    (subst (λ (bytes : List ℕ). store_parts bytes 0 ≡ Ok (first ∷ others, length text)) (append-nil text) read)
    (step (fielded end) _ text (length text) tt (length text) _ (nothing_left text (length text) refl) refl)

pub store-value : (parts : List SealedFields) → IsChain parts → 1 ≤ length parts → length parts ≤ 64 → All Fits parts → value_of (store (store_text parts) 0) ≡ Ok parts
store-value parts is some few fits = ap value_of (store-again parts is some few fits)
