-- The parts of a history are a chain, and each has a text.
use Rattle.std.proofs.Common.{◌≡◌, ℕ, ◌+◌, ◌≤◌, List, [], ◌∷◌, ◌++◌, map, length, Option, Some, refl, sym, ap, ◌∙◌, subst, arith}
use Rattle.std.specs.Prelude.{All, IfSome}
use Rattle.std.specs.Option.{option_map}
use Rattle.std.proofs.lemmas.List.{length-append}
use Rattle.std.proofs.lemmas.List.Elements.{All-nil, All-cons}
use Rattle.sha2.proofs.Facts256.{length-sha256}
use Rattle.octets_core.specs.Linked.{Linked}
use Rattle.ident_core.specs.declared.range.Range.{Range}
use Rattle.ident_core.specs.declared.kind.Kind.TheVariants as kinds
use Rattle.ident_core.specs.HeadFields.{HeadFields}
use Rattle.ident_core.specs.Coverage.{LiesWithin}
use Rattle.part_text.specs.SealedFields.{SealedFields}
use Rattle.part_text.specs.PartText.{unsealed_text}
use Rattle.part_text.specs.Fitting.{Fits}
use Rattle.universe_core.specs.Formats.{JobIn}
use Rattle.universe_core.specs.History.{Release}
use Rattle.universe_core.specs.Ledgers.{part_from}
use Rattle.universe_core.specs.Step.{kind_by, parent_by}
use Rattle.history_core.specs.Bases.{base_with, releases_cut, base_at}
use Rattle.store_core.specs.Chain.{Follows, IsChain}
use Rattle.publication_core.specs.Histories.{Published, newest_of, GoesOn, IsAdmissible, IsPartOf, IsBasePart, release_of, AreAdmissible, History, of_jobs, rebased, parts_of, members, IsHistory, releases_of}
use Rattle.publication_core.proofs.Ledgers.{history_base_fits}
use Rattle.publication_core.proofs.PartTexts.{newest_part, part_has_text, base_has_text}

-- ---- the newest release, and its part

-- the release has the epoch, the coverage and the trailer of the part
record Matches (r : Release) (s : SealedFields) : Type 0 where
  epoch : r.epoch ≡ s.part.head.epoch
  ranges : r.ranges ≡ s.part.head.ranges
  trailer : r.trailer ≡ s.trailer

release_matches : (rs : List Release) (p : Published) → IsPartOf rs p.job p.sealed → Matches (release_of rs p) p.sealed
release_matches rs p is = record {
  epoch = sym (ap (λ (h : HeadFields). h.epoch) is.head_is);
  ranges = sym (ap (λ (h : HeadFields). h.ranges) is.head_is);
  trailer = refl;
}

base_matches : (moment : ℕ) (rs : List Release) (s : SealedFields) → IsBasePart moment rs s → Matches (base_at moment rs s.trailer) s
unfolding base_with
base_matches moment rs s is = record {
  epoch = sym (ap (λ (h : HeadFields). h.epoch) is.head_is);
  ranges = sym (ap (λ (h : HeadFields). h.ranges) is.head_is);
  trailer = refl;
}

newest_pushed : (rs : List Release) (r : Release) → newest_of (rs ++ r ∷ []) ≡ Some r
newest_pushed [] r = refl
newest_pushed (p ∷ []) r = refl
newest_pushed (p ∷ q ∷ rs) r = newest_pushed (q ∷ rs) r

-- ---- the chain

later_kind : (rs : List Release) (r : Release) → newest_of rs ≡ Some r → kind_by (map part_from rs) ≡ kinds.Delta
later_kind [] r h = absurd cc
later_kind (q ∷ rs) r h = refl

-- the part of an admissible job follows that of the newest release
part_follows : (rs : List Release) (r : Release) (job : JobIn) (held given : SealedFields) → newest_of rs ≡ Some r → Matches r held → IsAdmissible rs job
    → IsPartOf rs job given → Follows held given
part_follows rs r job held given last same admissible is =
    let on : GoesOn job.job r = subst (λ (o : Option Release). IfSome o (GoesOn job.job)) last admissible.goes_on in
    let epoch : given.part.head.epoch ≡ job.job.epoch = ap (λ (h : HeadFields). h.epoch) is.head_is in
    let ranges : given.part.head.ranges ≡ job.job.ranges = ap (λ (h : HeadFields). h.ranges) is.head_is in
    record {
      kind = ap (λ (h : HeadFields). h.kind) is.head_is ∙ later_kind rs r last;
      parent = ap (λ (h : HeadFields). h.parent) is.head_is ∙ ap parent_by (newest_part rs ∙ ap (option_map part_from) last) ∙ same.trailer;
      epoch = omega (arith, on.epoch, same.epoch, epoch);
      coverage = subst (λ (old : List Range). LiesWithin old given.part.head.ranges) same.ranges (subst (λ (new : List Range). LiesWithin r.ranges new) (sym ranges) on.coverage);
    }

linked_after : (rs : List Release) (r : Release) (held : SealedFields) (ps : List Published) → newest_of rs ≡ Some r → Matches r held → AreAdmissible rs ps
    → Linked Follows (λ held given. given) held (map (λ p. p.sealed) ps)
linked_after rs r held [] last same h = tt
linked_after rs r held (p ∷ ps) last same h =
    let made : Release = release_of rs p in (
      part_follows rs r p.job held p.sealed last same h.0 h.1,
      linked_after (rs ++ made ∷ []) made p.sealed ps (newest_pushed rs made) (release_matches rs p h.1) h.2,
    )

pub history_chain : (h : History) → IsHistory h → IsChain (parts_of h)
history_chain (of_jobs []) h = tt
history_chain (of_jobs (p ∷ ps)) h =
    let made : Release = release_of [] p in
    (ap (λ (h : HeadFields). h.kind) h.1.head_is, linked_after (made ∷ []) made p.sealed ps refl (release_matches [] p h.1) h.2)
history_chain (rebased b moment cut s ps) h =
    let base : Release = base_at moment (releases_cut cut (releases_of b)) s.trailer in
    (ap (λ (h : HeadFields). h.kind) h.2.head_is, linked_after (base ∷ []) base s ps refl (base_matches moment (releases_cut cut (releases_of b)) s h.2) h.3)

-- ---- how many parts there are

few_after : (rs : List Release) (ps : List Published) → length rs ≤ 64 → AreAdmissible rs ps → length rs + length (map (λ p. p.sealed) ps) ≤ 64
few_after rs [] few h = omega arith
few_after rs (p ∷ ps) few h =
    let room = h.0.few_parts in
    let more = length-append rs (release_of rs p ∷ []) in
    omega (arith, room, more, few_after (rs ++ release_of rs p ∷ []) ps (omega (arith, room, more)) h.2)

pub history_few : (h : History) → IsHistory h → members h ≤ 64
history_few (of_jobs ps) h = omega (arith, few_after [] ps (omega arith) h)
history_few (rebased b moment cut s ps) h = omega (arith, few_after (base_at moment (releases_cut cut (releases_of b)) s.trailer ∷ []) ps (omega arith) h.3)

-- ---- the texts

-- the trailer of the newest release, if there is one, is a digest
abbrev EndsInDigest : List Release → Type 0
EndsInDigest rs = IfSome (newest_of rs) (λ r. length r.trailer ≡ 32)

digest_pushed : (rs : List Release) (p : Published) → IsPartOf rs p.job p.sealed → EndsInDigest (rs ++ release_of rs p ∷ [])
digest_pushed rs p is =
    subst (λ (o : Option Release). IfSome o (λ r. length r.trailer ≡ 32)) (sym (newest_pushed rs (release_of rs p))) (ap length is.trailer ∙ length-sha256 (unsealed_text p.sealed.part))

base_digest : (moment : ℕ) (rs : List Release) (s : SealedFields) → IsBasePart moment rs s → EndsInDigest (base_at moment rs s.trailer ∷ [])
unfolding base_with
base_digest moment rs s is = ap length is.trailer ∙ length-sha256 (unsealed_text s.part)

texts_after : (rs : List Release) (ps : List Published) → EndsInDigest rs → AreAdmissible rs ps → All Fits (map (λ p. p.sealed) ps)
texts_after rs [] digest h = All-nil Fits
texts_after rs (p ∷ ps) digest h =
    All-cons Fits p.sealed (map (λ q. q.sealed) ps) (part_has_text rs p.job p.sealed h.0 h.1 digest) (texts_after (rs ++ release_of rs p ∷ []) ps (digest_pushed rs p h.1) h.2)

pub history_texts : (h : History) → IsHistory h → All Fits (parts_of h)
history_texts (of_jobs ps) h = texts_after [] ps tt h
history_texts (rebased b moment cut s ps) h =
    let rs : List Release = releases_cut cut (releases_of b) in
    All-cons Fits s (map (λ p. p.sealed) ps) (base_has_text moment rs s h.2 (history_base_fits b moment cut s h.0 h.1 h.2))
    (texts_after (base_at moment rs s.trailer ∷ []) ps (base_digest moment rs s h.2) h.3)
