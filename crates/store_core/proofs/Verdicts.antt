-- What a store's parts say together, one part after the other.
use Rattle.std.proofs.Common.{◌≡◌, ℕ, ◌+◌, ◌<◌, ◌≤◌, List, [], ◌∷◌, ◌++◌, map, length, take, get_or}
use Rattle.std.proofs.Common.{sym, ap, ◌∙◌, subst}
use Rattle.std.proofs.lemmas.List.{map_more, take_all}
use Rattle.ident_core.specs.declared.identity.Identity.{Identity}
use Rattle.ident_core.specs.declared.range.Sighting.{Sighting}
use Rattle.card_core.specs.PartFields.{PartFields}
use Rattle.card_core.specs.declared.verdict.Verdict.{Verdict}
use Rattle.card_core.specs.Verdict.{said_by_both, verdict}
use Rattle.card_core.specs.declared.fours.Inquiry.{Inquiry}
use Rattle.card_core.proofs.Verdicts.{IsAsked, asked-append, verdict-append}
use Rattle.store_core.specs.Asking.{said_of}
use Rattle.part_text.specs.SealedFields.{SealedFields}

longer : (parts : List SealedFields) (i : ℕ) (s : SealedFields) → i < length parts → s ≡ get_or parts i s
    → map (λ (t : SealedFields). t.part) (take i parts) ++ s.part ∷ [] ≡ map (λ (t : SealedFields). t.part) (take (i + 1) parts)
longer parts i s lt is =
    sym (map_more (λ (t : SealedFields). t.part) parts i s lt ∙ ap (λ (t : SealedFields). map (λ (u : SealedFields). u.part) (take i parts) ++ t.part ∷ []) (sym is))

pub said-more : (asked held : Inquiry) (parts : List SealedFields) (i : ℕ) (s : SealedFields) (part : PartFields) (v w : Verdict) → i < length parts → s ≡ get_or parts i s
    → part ≡ s.part → held ≡ asked → v ≡ said_of (take i parts) asked → w ≡ verdict (part ∷ []) held.certificate held.sightings.now → said_by_both v w ≡ said_of (take (i + 1) parts) asked
said-more asked held parts i s part v w lt is of_part same before now =
    let next : w ≡ verdict (s.part ∷ []) asked.certificate asked.sightings.now = now ∙ ap (λ (p : PartFields). verdict (p ∷ []) held.certificate held.sightings.now) of_part
    ∙ ap (λ (q : Inquiry). verdict (s.part ∷ []) q.certificate q.sightings.now) same in
    ap (λ u. said_by_both u w) before ∙ ap (said_by_both (said_of (take i parts) asked)) next
    ∙ sym (verdict-append (map (λ (t : SealedFields). t.part) (take i parts)) (s.part ∷ []) asked.certificate asked.sightings.now)
    ∙ ap (λ (l : List PartFields). verdict l asked.certificate asked.sightings.now) (longer parts i s lt is)

-- one part more
pub asked-more : (id : Identity) (ss : List Sighting) (parts : List SealedFields) (i : ℕ) (s : SealedFields) (v w : Verdict) (p0 p1 p2 w0 w1 w2 : ℕ) → i < length parts → s ≡ get_or parts i s
    → IsAsked id ss (map (λ (t : SealedFields). t.part) (take i parts)) v p0 p1 w0 w1 → IsAsked id ss (s.part ∷ []) w p1 p2 w1 w2
    → IsAsked id ss (map (λ (t : SealedFields). t.part) (take (i + 1) parts)) (said_by_both v w) p0 p2 w0 w2
asked-more id ss parts i s v w p0 p1 p2 w0 w1 w2 lt is a b =
    subst (λ (l : List PartFields). IsAsked id ss l (said_by_both v w) p0 p2 w0 w2) (longer parts i s lt is) (asked-append id ss (map (λ (t : SealedFields). t.part) (take i parts)) (s.part ∷ []) v w p0 p1 p2 w0 w1 w2 a b)

-- all of them
pub asked-all : (id : Identity) (ss : List Sighting) (parts : List SealedFields) (i : ℕ) (v : Verdict) (p0 p1 w0 w1 : ℕ) → length parts ≤ i
    → IsAsked id ss (map (λ (t : SealedFields). t.part) (take i parts)) v p0 p1 w0 w1 → IsAsked id ss (map (λ (t : SealedFields). t.part) parts) v p0 p1 w0 w1
asked-all id ss parts i v p0 p1 w0 w1 le a = subst (λ (l : List SealedFields). IsAsked id ss (map (λ (t : SealedFields). t.part) l) v p0 p1 w0 w1) (take_all i parts le) a
