-- Until when the parts of a store that were walked cover a log.
use Rattle.std.proofs.Common.{◌≡◌, ℕ, List, [], ◌∷◌, ◌++◌, Option, Some, None, refl, sym, ap, ◌∙◌, subst}
use Rattle.std.specs.List.{find}
use Rattle.std.specs.Option.{option_map}
use Rattle.std.specs.Str.{bytes_eq}
use Rattle.octets_core.proofs.Texts.{IsBytes}
use Rattle.ident_core.specs.declared.range.Range.{Range}
use Rattle.part_text.specs.SealedFields.{SealedFields}
use Rattle.store_core.specs.Chain.{newest_of}
use Rattle.view_core.specs.Covering.{until_in, covered_until}
use Rattle.view_core.specs.Index.{parts_index, shards_index}
use Rattle.view_core.specs.Opening.{IsOpened}
use Rattle.view_core.specs.Standing.{AreRangesAt}
use Rattle.view_core.specs.declared.part.PartAt.{PartAt}
use Rattle.view_core.specs.declared.ranges.RangesAt.{RangesAt}
use Rattle.view_core.proofs.Chains.{newest_more}
use Rattle.view_core.proofs.Walks.{AreWalked, none_walked, Tells, next_walked, TellNone, all_walked}

-- the ranges of the newest of some parts; none, where there is no part
abbrev pub newest_ranges : Option SealedFields → List Range
newest_ranges None = []
newest_ranges (Some s) = s.part.head.ranges

-- Some of the parts were walked, and the ranges of the last of them stand here.
pub record AreKept (bytes words : List ℕ) (parts : List SealedFields) (ranges : RangesAt) : Type 0 where
  pub kept : List SealedFields
  pub walked : AreWalked bytes (shards_index 10 parts) words parts kept
  pub stand : AreRangesAt bytes ranges.at ranges.count (newest_ranges (newest_of kept))

-- before the first part
pub none_kept : (bytes words a : List ℕ) (parts : List SealedFields) → IsBytes bytes → IsOpened bytes words parts
    → a ≡ parts_index 10 parts → AreKept bytes a parts (record { at = 0; count = 0 })
none_kept bytes words a parts fits opened is = record {
  kept = [];
  walked = none_walked bytes words a (shards_index 10 parts) parts fits opened is refl;
  stand = record { fit = _; count_is = refl; text = record { behind = bytes; is = refl } };
}

-- with the next part
pub next_kept : (bytes words others : List ℕ) (parts : List SealedFields) (ranges : RangesAt) (part : PartAt)
    → AreKept bytes words parts ranges → Tells words part others → AreKept bytes others parts part.ranges
next_kept bytes words others parts ranges part k tells =
    let n = next_walked bytes (shards_index 10 parts) words others parts k.kept part k.walked tells in
    record {
      kept = k.kept ++ n.next ∷ [];
      walked = n.then;
      stand = subst (λ (o : Option SealedFields). AreRangesAt bytes part.ranges.at part.ranges.count (newest_ranges o))
          (sym (newest_more k.kept n.next)) n.is.ranges;
    }

until_of : (newest : Option SealedFields) (log : List ℕ)
    → option_map (λ (r : Range). r.to) (find (λ (r : Range). bytes_eq r.log log) (newest_ranges newest)) ≡ until_in newest log
until_of None log = refl
until_of (Some s) log = refl

-- all were walked, where the words tell of none
pub all_kept : (bytes words log : List ℕ) (parts : List SealedFields) (ranges : RangesAt) (found : Option Range)
    → AreKept bytes words parts ranges → TellNone words
    → ((list : List Range) → AreRangesAt bytes ranges.at ranges.count list → found ≡ find (λ (r : Range). bytes_eq r.log log) list)
    → option_map (λ (r : Range). r.to) found ≡ covered_until parts log
all_kept bytes words log parts ranges found k none told =
    ap (option_map (λ (r : Range). r.to)) (told (newest_ranges (newest_of k.kept)) k.stand) ∙ until_of (newest_of k.kept) log
    ∙ ap (λ (l : List SealedFields). covered_until l log) (sym (all_walked bytes (shards_index 10 parts) words parts k.kept k.walked none))
