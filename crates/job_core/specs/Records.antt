-- What a record that was read holds.
use Rattle.std.specs.Prelude.{◌≡◌, Option, Some, None, Result, Ok, Err}
use Rattle.std.specs.Option.{option_map}
use Rattle.octets_core.specs.Position.{Position}
use Rattle.octets_core.specs.Layout.{Layout}
use Rattle.job_core.specs.declared.fault.JobFault.{JobFault}
use Rattle.job_core.specs.declared.raw.RawEntry.{RawEntry}
use Rattle.job_core.specs.declared.record_texts.RecordText.{RecordText}
use Rattle.job_core.specs.declared.record_texts.RecordText.TheVariants as texts
use Rattle.job_core.specs.declared.records.Item.{Item as Taken}
use Rattle.job_core.specs.declared.records.Item.TheVariants as takens
use Rattle.job_core.specs.JobLayout.{Item, OneRange, OneCrl, OneEntry, HeldSoFar, with_item}
use Rattle.job_core.specs.JobText.{crl_held, entry_held}

-- ---- off a feed, where the entry is the one that was read last

abbrev pub item_of_record : RawEntry → Taken → Item
item_of_record e (takens.Range r) = OneRange r
item_of_record e (takens.Crl c) = OneCrl (crl_held c)
item_of_record e takens.Entry = OneEntry (entry_held e)

abbrev pub some_record : RawEntry → Option Taken → Option Item
some_record e x = option_map (item_of_record e) x

-- ---- off a cursor

abbrev pub item_shown : RecordText → Item
item_shown (texts.Range r) = OneRange r
item_shown (texts.Crl issuer bytes) = OneCrl (record { issuer = issuer; bytes = bytes.now })
item_shown (texts.Entry log leaf extra) = OneEntry (record { log = log; leaf = leaf.now; extra = extra.now })

abbrev pub some_shown : Option RecordText → Option Item
some_shown x = option_map item_shown x

-- what is held once it is read, or the end
abbrev pub with_next : HeldSoFar → Option Item → HeldSoFar
with_next h None = h
with_next h (Some x) = with_item h x

-- it gave the value and stands behind it, or it gave the fault
abbrev pub ReadsRecord : {X A : Type 0} → (X → A) → Layout JobFault A → Position → Position → Result X JobFault → Type 0
ReadsRecord view layout old new (Ok x) = (layout old.bytes old.at ≡ Ok (view x, new.at)) × (new.bytes ≡ old.bytes)
ReadsRecord view layout old new (Err e) = layout old.bytes old.at ≡ Err e
