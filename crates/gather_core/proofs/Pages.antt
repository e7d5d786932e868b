-- Pages that are read item by item.
use Rattle.std.proofs.Common.{◌≡◌, ℕ, suc, ◌+◌, ◌<◌, List, [], ◌∷◌, ◌++◌, length, map, drop, get_or, Result, Ok, Err, refl, sym, ap, subst, ◌∙◌}
use Rattle.std.proofs.Common.{append_assoc, length-append, drop-cons, arith}
use Rattle.std.specs.Prelude.{All}
use Rattle.std.proofs.lemmas.List.{map-append}
use Rattle.std.proofs.lemmas.List.Elements.{All-append, All-nil, All-cons}
use Rattle.std.specs.Str.{IsUtf8, is_utf8}
use Rattle.std.proofs.lemmas.Bool.{false_from_ne_true}
use Rattle.std.proofs.lemmas.Str.{IsUtf8-from_is_utf8, is_utf8-from_IsUtf8}
use Rattle.serde_json.specs.Data.{Data, Items, item}
use Rattle.serde_json.specs.Read.{read}
use Rattle.serde_json.specs.View.{view, items_view}
use Rattle.serde_json.specs.declared.value.Value.{Value}
use Rattle.gather_core.specs.declared.fault.PageFault.{PageFault}
use Rattle.gather_core.specs.declared.fault.PageFault.TheVariants as faults
use Rattle.gather_core.specs.declared.page.PageEntry.{PageEntry}
use Rattle.gather_core.specs.Pages.{PageFields, fields_of, EntryFits, there, json_of, page_of, item_of, items_from, ◌>>=◌}

pub json_of-text : (bytes : List ℕ) → IsUtf8 bytes → json_of bytes ≡ there faults.Json (read bytes)
json_of-text bytes is = rw (is_utf8-from_IsUtf8 bytes is) refl

pub page_of-other : (bytes : List ℕ) → (IsUtf8 bytes → ⊥) → page_of bytes ≡ Err faults.Json
page_of-other bytes not = rw (false_from_ne_true (is_utf8 bytes) (λ h. not (IsUtf8-from_is_utf8 bytes h))) refl

-- what was read before, and what is still read
abbrev pub with_first : List PageFields → Result (List PageFields) PageFault → Result (List PageFields) PageFault
with_first before (Ok others) = Ok (before ++ others)
with_first before (Err e) = Err e

one_more : (before : List PageFields) (x : PageFields) (r : Result (List PageFields) PageFault)
    → with_first (before ++ x ∷ []) r ≡ with_first before (r >>= λ others. Ok (x ∷ others))
one_more before x (Ok others) = ap (λ (l : List PageFields). Ok l) (append_assoc before (x ∷ []) others)
one_more before x (Err e) = refl

pub items-more : (before : List PageFields) (index : ℕ) (d : Data) (ds : Items) (x : PageFields) → item_of index d ≡ Ok x
    → with_first (before ++ x ∷ []) (items_from (index + 1) ds) ≡ with_first before (items_from index (item d ds))
items-more before index d ds x is = rw is (one_more before x (items_from (index + 1) ds))

next_of : {A : Type 0} (xs : List A) (i : ℕ) (x : A) → i < length xs → x ≡ get_or xs i x → drop i xs ≡ x ∷ drop (i + 1) xs
next_of {A} xs i x lt is =
    let e : suc i ≡ i + 1 = omega arith in
    drop-cons xs i x lt ∙ ap (λ (y : A). y ∷ drop (suc i) xs) (sym is) ∙ ap (λ (n : ℕ). x ∷ drop n xs) e

-- one more item was read
pub one-read : (before : List PageFields) (i : ℕ) (vs : List Value) (v : Value) (x : PageFields) (all : Result (List PageFields) PageFault) → i < length vs
    → v ≡ get_or vs i v → item_of i (view v) ≡ Ok x → with_first before (items_from i (items_view (drop i vs))) ≡ all
    → with_first (before ++ x ∷ []) (items_from (i + 1) (items_view (drop (i + 1) vs))) ≡ all
one-read before i vs v x all lt at is read =
    items-more before i (view v) (items_view (drop (i + 1) vs)) x is
    ∙ ap (λ (l : List Value). with_first before (items_from i (items_view l))) (sym (next_of vs i v lt at)) ∙ read

fits-end : (xs : List PageEntry) (x : PageEntry) → All EntryFits (map fields_of xs) → EntryFits (fields_of x) → All EntryFits (map fields_of (xs ++ x ∷ []))
fits-end xs x all fits =
    rw (map-append fields_of xs (x ∷ [])) (All-append EntryFits (map fields_of xs) (fields_of x ∷ []) all (All-cons EntryFits (fields_of x) [] fits (All-nil EntryFits)))

pub record Reads (vs : List Value) (i : ℕ) (entries : List PageEntry) : Type 0 where
  pub read : with_first (map fields_of entries) (items_from i (items_view (drop i vs))) ≡ items_from 0 (items_view vs)
  pub len : length entries ≡ i
  pub fits : All EntryFits (map fields_of entries)

pub reads-more : (vs : List Value) (i : ℕ) (entries : List PageEntry) (v : Value) (x : PageEntry) (index : ℕ) (new : List PageEntry) → Reads vs i entries → i < length vs
    → v ≡ get_or vs i v → index ≡ length entries → item_of index (view v) ≡ Ok (fields_of x) → EntryFits (fields_of x) → new ≡ entries ++ x ∷ [] → Reads vs (i + 1) new
reads-more vs i entries v x index new r lt at same is fits new_is = rw new_is (record {
  read = rw (map-append fields_of entries (x ∷ []))
      (one-read (map fields_of entries) i vs v (fields_of x) (items_from 0 (items_view vs)) lt at (subst (λ (n : ℕ). item_of n (view v) ≡ Ok (fields_of x)) (same ∙ r.len) is) r.read);
  len = omega (arith, r.len, length-append entries (x ∷ []));
  fits = fits-end entries x r.fits fits;
})
