-- What is read as queries is spelled so.
use Rattle.std.proofs.Common.{◌≡◌, ℕ, zero, suc, ◌-◌, ◌≤◌, ◌^◌, Bool, true, false, cond, ltb, List, [], ◌∷◌, length, take, Result, Ok, Err, refl, sym, ap, ◌∙◌, subst, arith}
use Rattle.std.specs.Prelude.{All, codes, flat_map}
use Rattle.std.specs.Int.{w8, w32, w64, to_be_bytes}
use Rattle.std.specs.Str.{bytes_eq}
use Rattle.std.proofs.lemmas.Bool.{ltb-false}
use Rattle.std.proofs.lemmas.List.{take_all}
use Rattle.std.proofs.lemmas.Slice.Eq.{bytes_eq-Decides}
use Rattle.octets_core.specs.Layout.{Layout, ◌>>=◌, whole}
use Rattle.octets_core.specs.Linked.{Linked}
use Rattle.octets_core.specs.Reading.{any_key, end}
use Rattle.octets_core.specs.declared.fault.LayoutFault.{LayoutFault}
use Rattle.octets_core.proofs.Fields.{then_read-ok, ok_is}
use Rattle.octets_core.proofs.Texts.{IsBytes, Takes, Takes-as, ◌>>>◌, Leaves, ◌>>-◌, whole-leaves, bytes_field-leaves, number_field-leaves, repeated-leaves, wide8, wide32, wide64}
use Rattle.ident_core.specs.declared.bounds.TheConstants.{MAX_SERIAL}
use Rattle.input_core.specs.declared.query.TheConstants.{MAX_QUERIES, MAX_SIGHTINGS}
use Rattle.input_core.specs.Queries.{Query, IdentityFits, SightingFits, QueryFits, QueriesFit}
use Rattle.input_core.specs.QueryText.{sighting_text, identity_text, query_text, queries_text}
use Rattle.input_core.specs.QueryLayout.{sighting, identity, query, many, body, query_file}

-- ---- many of one kind

linked-each : {X : Type 0} (P : X → Type 0) (xs : List X) → Linked {S = Unit {0}} (λ s x. P x) (λ s x. s) tt xs → All P xs
linked-each P [] linked k d lt = absurd (omega arith)
linked-each P (x ∷ xs) linked zero d lt = linked.0
linked-each P (x ∷ xs) linked (suc k) d lt = linked-each P xs linked.1 k d (omega arith)

many-leaves : {X : Type 0} (one : Layout LayoutFault X) (P : X → Type 0) (text : X → List ℕ) (bytes : List ℕ)
    → ((at : ℕ) → Leaves one bytes at (λ x end. Takes bytes at (text x) end × P x))
    → (count at : ℕ) → at ≤ length bytes → Leaves (many one count) bytes at (λ xs end. Takes bytes at (flat_map text xs) end × All P xs × (length xs ≡ count))
many-leaves one P text bytes each count at le = record {
  each = λ x h.
      let l = (repeated-leaves {S = Unit {0}} (λ s. one) (λ s x. s) (λ s x. P x) text bytes (λ s at. each at) count tt at le).each x h in
      (l.0, linked-each P x.0 l.1, l.2);
}

-- ---- queries

sighting-leaves : (bytes : List ℕ) → IsBytes bytes → (at : ℕ) → Leaves sighting bytes at (λ s end. Takes bytes at (sighting_text s) end × SightingFits s)
unfolding sighting sighting_text
sighting-leaves bytes fits at =
    bytes_field-leaves _ _ 32 any_key bytes at >>- λ log p a.
    number_field-leaves _ _ w64 (2 ^ 64) 0 (2 ^ 64 - 1) wide64 bytes fits p >>- λ time end b.
    whole-leaves _ bytes end _ (a.takes >>> b.takes, record { log = a.len; time = omega (arith, b.to_high) })

identity-leaves : (bytes : List ℕ) → IsBytes bytes → (at : ℕ) → Leaves identity bytes at (λ id end. Takes bytes at (identity_text id) end × IdentityFits id)
unfolding identity identity_text
identity-leaves bytes fits at =
    bytes_field-leaves _ _ 32 any_key bytes at >>- λ issuer p a.
    number_field-leaves _ _ w8 (2 ^ 8) 1 MAX_SERIAL wide8 bytes fits p >>- λ width q b.
    bytes_field-leaves _ _ width (λ b. true) bytes q >>- λ serial end c.
    whole-leaves _ bytes end _ (
      a.takes >>> Takes-as (to_be_bytes w8 width) (to_be_bytes w8 (length serial)) (ap (to_be_bytes w8) (sym c.len)) b.takes >>> c.takes,
      record { issuer = a.len; some_octets = omega (arith, c.len, b.from_low); few_octets = omega (arith, c.len, b.to_high) },
    )

query-leaves : (bytes : List ℕ) → IsBytes bytes → (at : ℕ) → Leaves query bytes at (λ q end. Takes bytes at (query_text q) end × QueryFits q)
unfolding query query_text
query-leaves bytes fits at =
    identity-leaves bytes fits at >>- λ id p a.
    number_field-leaves _ _ w8 (2 ^ 8) 1 MAX_SIGHTINGS wide8 bytes fits p >>- λ count q b.
    many-leaves sighting SightingFits sighting_text bytes (sighting-leaves bytes fits) count q b.takes.room >>- λ list end c.
    whole-leaves _ bytes end _ (
      a.0 >>> Takes-as (to_be_bytes w8 count) (to_be_bytes w8 (length list)) (ap (to_be_bytes w8) (sym c.2)) b.takes >>> c.0,
      record { identity = a.1; some_sightings = omega (arith, c.2, b.from_low); few_sightings = omega (arith, c.2, b.to_high); sightings = c.1 },
    )

-- ---- files

body-leaves : (bytes : List ℕ) → IsBytes bytes → Leaves body bytes 0 (λ qs end. Takes bytes 0 (queries_text qs) end × QueriesFit qs)
unfolding body queries_text
body-leaves bytes fits =
    bytes_field-leaves _ _ 8 (bytes_eq (codes "CLUBQRY1")) bytes 0 >>- λ begin p a.
    number_field-leaves _ _ w32 (2 ^ 32) 0 MAX_QUERIES wide32 bytes fits p >>- λ count q b.
    record {
      each = λ x h.
          let c = (many-leaves query QueryFits query_text bytes (query-leaves bytes fits) count q b.takes.room).each x h in (
            Takes-as begin (codes "CLUBQRY1") (sym ((bytes_eq-Decides (codes "CLUBQRY1") begin).0 a.passed)) a.takes
                >>> Takes-as (to_be_bytes w32 count) (to_be_bytes w32 (length x.0)) (ap (to_be_bytes w32) (sym c.2)) b.takes >>> c.0,
            record { few = omega (arith, c.2, b.to_high); each = c.1 },
          );
    }

end-by : (b : Bool) (bytes : List ℕ) (at : ℕ) (x : Unit {0} × ℕ) (e : LayoutFault) → ltb at (length bytes) ≡ b → ◌≡◌ {A = Result (Unit {0} × ℕ) LayoutFault} (cond b (Err e) (Ok (tt, at))) (Ok x)
    → length bytes ≤ at
end-by true bytes at x e is h = absurd cc
end-by false bytes at x e is h = ltb-false at (length bytes) is

-- what is read as queries is their text, from the first byte to the last
pub queries-found : (bytes : List ℕ) (qs : List Query) (n : ℕ) → IsBytes bytes → query_file bytes 0 ≡ Ok (qs, n) → (bytes ≡ queries_text qs) × QueriesFit qs
unfolding query_file
queries-found bytes qs n fits h =
    let a = then_read-ok (body bytes 0) (λ x. end >>= λ rest. whole x) bytes (qs, n) h in
    let b = then_read-ok (end bytes a.0.1) (λ rest. whole a.0.0) bytes (qs, n) a.2 in
    let read = (body-leaves bytes fits).each a.0 a.1 in
    let all : take a.0.1 bytes ≡ bytes = take_all a.0.1 bytes (end-by (ltb a.0.1 (length bytes)) bytes a.0.1 b.0 _ refl b.1) in
    subst (λ (y : List Query × ℕ). (bytes ≡ queries_text y.0) × QueriesFit y.0) (ok_is {E = LayoutFault} (a.0.0, b.0.1) (qs, n) b.2) (sym all ∙ read.0.parts, read.1)
