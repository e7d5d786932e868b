-- What the parts of a store say that were walked.
use Rattle.std.proofs.Common.{◌≡◌, ℕ, List, [], ◌∷◌, ◌++◌, map, sym, subst}
use Rattle.std.proofs.lemmas.List.{map-append}
use Rattle.octets_core.proofs.Texts.{IsBytes}
use Rattle.ident_core.specs.declared.identity.Identity.{Identity}
use Rattle.ident_core.specs.declared.range.Sighting.{Sighting}
use Rattle.card_core.specs.declared.verdict.Verdict.{Verdict}
use Rattle.card_core.specs.declared.verdict.Verdict.TheVariants.{NotCovered}
use Rattle.card_core.specs.PartFields.{PartFields}
use Rattle.card_core.specs.Verdict.{said_by_both}
use Rattle.card_core.proofs.Verdicts.{IsAsked, asked-append, asked-none}
use Rattle.part_text.specs.SealedFields.{SealedFields}
use Rattle.view_core.specs.Index.{parts_index, shards_index}
use Rattle.view_core.specs.Opening.{IsOpened}
use Rattle.view_core.specs.Parts.{IsPartAt}
use Rattle.view_core.specs.declared.part.PartAt.{PartAt}
use Rattle.view_core.proofs.Walks.{AreWalked, none_walked, Tells, next_walked, TellNone, all_walked}

-- Some of the parts were walked, and this is what they say.
pub record AreAsked (bytes shards words : List ℕ) (id : Identity) (ss : List Sighting) (parts : List SealedFields) (said : Verdict) (p0 p1 w0 w1 : ℕ) : Type 0 where
  pub asked : List SealedFields
  pub walked : AreWalked bytes shards words parts asked
  pub said_is : IsAsked id ss (map (λ (s : SealedFields). s.part) asked) said p0 p1 w0 w1

-- before the first part
pub none_asked : (bytes words a b : List ℕ) (id : Identity) (ss : List Sighting) (parts : List SealedFields) (p w : ℕ) → IsBytes bytes → IsOpened bytes words parts
    → a ≡ parts_index 10 parts → b ≡ shards_index 10 parts → AreAsked bytes b a id ss parts NotCovered p p w w
none_asked bytes words a b id ss parts p w fits opened a_is b_is = record {
  asked = [];
  walked = none_walked bytes words a b parts fits opened a_is b_is;
  said_is = asked-none id ss p w;
}

-- the next part, and what they say once it was asked
pub record AsksNext (bytes shards others : List ℕ) (id : Identity) (ss : List Sighting) (parts : List SealedFields) (said : Verdict) (p0 p1 w0 w1 : ℕ) (part : PartAt) : Type 0 where
  pub next : SealedFields
  pub is : IsPartAt bytes shards part next.part
  pub then : (now : Verdict) (p2 w2 : ℕ) → IsAsked id ss (next.part ∷ []) now p1 p2 w1 w2 → AreAsked bytes shards others id ss parts (said_by_both said now) p0 p2 w0 w2

pub next_asked : (bytes shards words others : List ℕ) (id : Identity) (ss : List Sighting) (parts : List SealedFields) (said : Verdict) (p0 p1 w0 w1 : ℕ) (part : PartAt)
    → AreAsked bytes shards words id ss parts said p0 p1 w0 w1 → Tells words part others → AsksNext bytes shards others id ss parts said p0 p1 w0 w1 part
next_asked bytes shards words others id ss parts said p0 p1 w0 w1 part a tells =
    let n = next_walked bytes shards words others parts a.asked part a.walked tells in
    record {
      next = n.next;
      is = n.is;
      then = λ now p2 w2 one. record {
        asked = a.asked ++ n.next ∷ [];
        walked = n.then;
        said_is = subst (λ (l : List PartFields). IsAsked id ss l (said_by_both said now) p0 p2 w0 w2) (sym (map-append (λ (t : SealedFields). t.part) a.asked (n.next ∷ [])))
            (asked-append id ss (map (λ (t : SealedFields). t.part) a.asked) (n.next.part ∷ []) said now p0 p1 p2 w0 w1 w2 a.said_is one);
      };
    }

-- all were asked, where the words tell of none
pub all_asked : (bytes shards words : List ℕ) (id : Identity) (ss : List Sighting) (parts : List SealedFields) (said : Verdict) (p0 p1 w0 w1 : ℕ)
    → AreAsked bytes shards words id ss parts said p0 p1 w0 w1 → TellNone words → IsAsked id ss (map (λ (s : SealedFields). s.part) parts) said p0 p1 w0 w1
all_asked bytes shards words id ss parts said p0 p1 w0 w1 a none =
    subst (λ (l : List SealedFields). IsAsked id ss (map (λ (s : SealedFields). s.part) l) said p0 p1 w0 w1) (sym (all_walked bytes shards words parts a.asked a.walked none)) a.said_is
